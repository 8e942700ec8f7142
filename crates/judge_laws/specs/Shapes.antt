-- A list that has the shape is the words of runs, for each net in turn, and the end word.
-- Assumes nothing.
use Rattle.std.specs.Prelude.{◌≡◌, false, ℕ, zero, suc, ◌+◌, ◌<◌, eqb, length}
use Rattle.std.proofs.Math.Path.{refl}
use Rattle.std.proofs.Common.{ap, sym, ◌∙◌, arith, take_at, drop_at}
use mathlib.Core.List.{List, [], ◌∷◌, ◌++◌, map, append_assoc}
use Rattle.std.proofs.Math.Logic.{inl, inr}
use Rattle.std.proofs.Math.Option.{Option, none, some}
use Rattle.std.proofs.lemmas.List.{length-map}
use borrow.Author.Tests.{eqb-true, eqb-false}
use Rattle.count.specs.TruthLaws.{bool, or_left, or_right}
use Rattle.board.specs.declared.Direction.{Direction}
use Rattle.net.specs.declared.Net.{Net}
use Rattle.words.specs.RoutingWord.{routing_word, path_word, run_word, routing_end_word, path_in, path_words, paths_words}
use Rattle.words.specs.Inverse.{SaysRouting, says_path, says_run, says_routing_end, says_no_routing, says_routing}
use Rattle.words.specs.declared.Path.{Path}
use Rattle.words.specs.declared.Run.{Run}
use Rattle.call_rules.specs.Shape.{Due, between, in_path, over, runs_due, repeated, move_between, move_in_path, onward, words_refused, PathAt, paths_from}
use Rattle.call_rules.specs.Judge.{paths_in}
use Rattle.judge_laws.specs.Runs.{steps, Runs, no_more, one_more, runs_back, runs_in_words}

-- DEFINITION: the words of runs for each net, and the end word
unfoldable pub words_by : ℕ → List Net → List (List Run) → List ℕ
words_by all [] rss = routing_end_word all ∷ []
words_by all (n ∷ ns) [] = []
words_by all (n ∷ ns) (rs ∷ rss) = path_word (record { number = n.number; runs = length rs }) ∷ (map run_word rs ++ words_by all ns rss)

-- DEFINITION: runs for each net
pub data Each : List Net → List (List Run) → Type 0 where
  no-net : Each [] []
  one_net : {n : Net} {ns : List Net} {rss : List (List Run)} (rs : List Run) → length rs < 2048 → Runs none rs → Each ns rss
      → Each (n ∷ ns) (rs ∷ rss)

-- DEFINITION: what is left of a list that has the shape, by what is due
pub record FromPath (all : ℕ) (ns : List Net) (ws : List ℕ) : Type 0 where
  pub runs : List (List Run)
  pub each : Each ns runs
  pub words : ws ≡ words_by all ns runs

pub record FromRun (all more : ℕ) (last : Option Direction) (ns : List Net) (ws : List ℕ) : Type 0 where
  pub first : List Run
  pub counted : length first ≡ suc more
  pub differ : Runs last first
  pub runs : List (List Run)
  pub each : Each ns runs
  pub words : ws ≡ map run_word first ++ words_by all ns runs

abbrev pub From : ℕ → Due → List Net → List ℕ → Type 0
From all between ns ws = FromPath all ns ws
From all (in_path more last) ns ws = FromRun all more last ns ws
From all over ns ws = ws ≡ []

some_none : {A B : Type 0} {a : A} → some a ≡ none → B
some_none e = absurd (let z : ◌≡◌ {A = ℕ} 0 1 = cc in omega arith)

-- a path word and what follows it
path_then : (all : ℕ) (n : Net) (ns : List Net) (ws : List ℕ) (p : Path) (k : ℕ) → p.runs ≡ k → p.runs < 2048 → p.number ≡ n.number
    → From all (runs_due k none) ns ws → FromPath all (n ∷ ns) (path_word p ∷ ws)
unfolding words_by
path_then all n ns ws p zero e h f r = record {
  runs = [] ∷ r.runs;
  each = one_net [] (omega arith) no_more r.each;
  words = rw (e, f, r.words) refl;
}
path_then all n ns ws p (suc k) e h f r = record {
  runs = r.first ∷ r.runs;
  each = one_net r.first (omega (arith, r.counted)) r.differ r.each;
  words = rw (e ∙ sym r.counted, f, r.words) refl;
}

-- a run word and what follows it
run_then : (all more : ℕ) (last : Option Direction) (ns : List Net) (ws : List ℕ) (r : Run) → 0 < r.length → r.length < 32
    → repeated last r.direction ≡ false
    → From all (runs_due more (some r.direction)) ns ws → FromRun all more last ns (run_word r ∷ ws)
run_then all zero last ns ws r p q e f = record {
  first = r ∷ [];
  counted = refl;
  differ = one_more r p q e no_more;
  runs = f.runs;
  each = f.each;
  words = rw f.words refl;
}
run_then all (suc more) last ns ws r p q e f = record {
  first = r ∷ f.first;
  counted = ap suc f.counted;
  differ = one_more r p q e f.differ;
  runs = f.runs;
  each = f.each;
  words = rw f.words refl;
}

module _ (all i : ℕ) (w : ℕ) (ws : List ℕ) (rest : (d : Due) (ns : List Net) → words_refused all (suc i) d ns ws ≡ none → From all d ns ws) where
  read-path : (ns : List Net) → SaysRouting w → onward i (move_between all ns (routing_word w)) (λ d left. words_refused all (suc i) d left ws) ≡ none
      → FromPath all ns (w ∷ ws)
  unfolding words_by
  read-path [] (says_path p x y e f) h = some_none (rw f at h)
  read-path (n ∷ ns) (says_path p x y e f) h = elim (bool (eqb p.number n.number)) [
    | inl t ↦ rw e (path_then all n ns ws p p.runs refl y (eqb-true _ _ t) (rest (runs_due p.runs none) ns (rw (f, t) at h)))
    | inr t ↦ some_none (rw (f, t) at h)
  ]
  read-path ns (says_run r x e f) h = some_none (rw f at h)
  read-path [] (says_routing_end k x e f) h = elim (bool (eqb k all)) [
    | inl t ↦
        let z = rest over [] (rw (f, t) at h) in
        record { runs = []; each = no-net; words = rw (e, z, eqb-true k all t) refl }
    | inr t ↦ some_none (rw (f, t) at h)
  ]
  read-path (n ∷ ns) (says_routing_end k x e f) h = some_none (rw f at h)
  read-path ns (says_no_routing f) h = some_none (rw f at h)

  read-run : (more : ℕ) (last : Option Direction) (ns : List Net) → SaysRouting w
      → onward i (move_in_path more last ns (routing_word w)) (λ d left. words_refused all (suc i) d left ws) ≡ none → FromRun all more last ns (w ∷ ws)
  read-run more last ns (says_path p x y e f) h = some_none (rw f at h)
  read-run more last ns (says_run r x e f) h = elim (bool (eqb r.length 0)) [
    | inl t ↦ some_none (rw (f, or_left (eqb r.length 0) (repeated last r.direction) t) at h)
    | inr t ↦ elim (bool (repeated last r.direction)) [
      | inl u ↦ some_none (rw (f, or_right (eqb r.length 0) (repeated last r.direction) u) at h)
      | inr u ↦
          let z : 0 < r.length = (let n = eqb-false r.length 0 t in omega arith) in
          rw e (run_then all more last ns ws r z x u (rest (runs_due more (some r.direction)) ns (rw (f, t, u) at h)))
    ]
  ]
  read-run more last ns (says_routing_end k x e f) h = some_none (rw f at h)
  read-run more last ns (says_no_routing f) h = some_none (rw f at h)

pub shape_read : (all i : ℕ) (d : Due) (ns : List Net) (ws : List ℕ) → words_refused all i d ns ws ≡ none → From all d ns ws
unfolding words_refused
shape_read all i between ns [] h = some_none h
shape_read all i (in_path more last) ns [] h = some_none h
shape_read all i over ns [] h = refl
shape_read all i between ns (w ∷ ws) h = read-path all i w ws (λ d ms. shape_read all (suc i) d ms ws) ns (says_routing w) h
shape_read all i (in_path more last) ns (w ∷ ws) h = read-run all i w ws (λ d ms. shape_read all (suc i) d ms ws) more last ns (says_routing w) h
shape_read all i over ns (w ∷ ws) h = some_none h

-- ── the paths in such a list ──
pub paths_back : (q : Path) → q.runs < 2048 → (path_in (path_word q)).runs ≡ q.runs
paths_back q h = omega arith

pub paths_in_words : (all i : ℕ) {ns : List Net} {rss : List (List Run)} → Each ns rss → paths_in (paths_from i ns (words_by all ns rss)) ≡ map steps rss
unfolding paths_from words_by
paths_in_words all i no-net = refl
paths_in_words all i (one_net {n} {ns} {rss} rs h d e) =
    rw (
      paths_back (record { number = n.number; runs = length rs }) h,
      take_at (map run_word rs) (words_by all ns rss) (length rs) (length-map rs run_word),
      drop_at (map run_word rs) (words_by all ns rss) (length rs) (length-map rs run_word),
      runs_in_words (suc i) d,
      paths_in_words all (suc i + length rs) e,
    ) refl

-- a path for each net
nets_in_words : (all i : ℕ) {ns : List Net} {rss : List (List Run)} → Each ns rss
    → map (λ (p : PathAt). p.net) (paths_from i ns (words_by all ns rss)) ≡ ns
unfolding paths_from words_by
nets_in_words all i no-net = refl
nets_in_words all i (one_net {n} {ns} {rss} rs h d e) =
    rw (
      paths_back (record { number = n.number; runs = length rs }) h,
      drop_at (map run_word rs) (words_by all ns rss) (length rs) (length-map rs run_word),
    )
    (ap (λ (l : List Net). n ∷ l) (nets_in_words all (suc i + length rs) e))

pub shape_nets : (all i : ℕ) (ns : List Net) (ws : List ℕ) → words_refused all i between ns ws ≡ none
    → map (λ (p : PathAt). p.net) (paths_from i ns ws) ≡ ns
shape_nets all i ns ws h =
    let r = shape_read all i between ns ws h in
    ap (λ (v : List ℕ). map (λ (p : PathAt). p.net) (paths_from i ns v)) r.words ∙ nets_in_words all i r.each

-- and it is the routing words of them
pub words_back : (all : ℕ) {ns : List Net} {rss : List (List Run)} → Each ns rss
    → words_by all ns rss ≡ paths_words ns (map steps rss) ++ (routing_end_word all ∷ [])
unfolding words_by paths_words path_words
words_back all no-net = refl
words_back all (one_net {n} {ns} {rss} rs h d e) = rw (runs_back d, words_back all e)
    (ap (λ (l : List ℕ). path_word (record { number = n.number; runs = length rs }) ∷ l)
    (sym (append_assoc (map run_word rs) (paths_words ns (map steps rss)) (routing_end_word all ∷ []))))
