-- The code's moves are those of document 01, word by word; and the nets, one place on.
-- Assumes nothing.
use Rattle.std.specs.Prelude.{◌≡◌, Bool, true, false, cond, ◌&&◌, ◌||◌, List, [], ◌∷◌, ℕ, zero, suc, ◌+◌, ◌-◌, ◌<◌, ltb, eqb, length, drop, get_or, Ok, Err, None, Some}
use Rattle.std.proofs.Math.Path.{refl}
use Rattle.std.specs.Option.{is_some}
use Rattle.std.proofs.Common.{ap, sym, ◌∙◌, inl, inr, add-one, arith, drop-cons, lt-ltb, ltb-true, ne_eqb}
use Rattle.std.proofs.Math.Option.{Option, none, some}
use Rattle.std.proofs.Math.Seq.{drop-length}
use Rattle.count.specs.TruthLaws.{bool}
use Rattle.net.specs.View.{Held, nothing}
use Rattle.net.specs.declared.Net.{Net}
use Rattle.session_rules.specs.Refusal as machine
use Rattle.session_rules.specs.Refusal.{refusal}
use Rattle.net_places.specs.Places.{net, held_net, nets_from, nets_of}
use Rattle.net_places.proofs.CountLaws.{nets_more}
use Rattle.words.specs.RoutingWord.{routing_word}
use Rattle.words.specs.declared.RoutingWord.{RoutingWord}
use Rattle.words.specs.declared.RoutingWord.TheVariants as word
use Rattle.call_rules.specs.Shape as shape
use Rattle.call_rules.specs.Shape.{between, over, wrong, on, runs_due, repeated, move_between, move_in_path, at_end, onward, words_refused}
use Rattle.judge_shape.specs.States.{
  Last,
  Move,
  last_of,
  due_of,
  rest,
  move_of,
  due_after,
  between_move,
  path_move,
  move_to,
  Starts,
  at-end,
  at_net,
}
use Rattle.judge_shape.specs.Refused.{number_of}
use Rattle.judge_shape.specs.declared.Fault.{Fault}
use Rattle.judge_shape.specs.declared.Fault.TheVariants.{Word, Order}
use Rattle.judge_shape.specs.declared.Due.{Due}
use Rattle.judge_shape.specs.declared.Due.TheVariants as due
use Rattle.judge_shape.specs.declared.Step.TheVariants as step

-- ── a move ──
due-after : (n : ℕ) (l : Last) → due_of (due_after n l) ≡ runs_due n (last_of l)
due-after zero l = refl
due-after (suc n) l = refl

pub after_some : (n : ℕ) (l : Last) → (n ≡ 0 → ⊥) → due.InPath (n - 1) l ≡ due_after n l
after_some zero l h = absurd (h refl)
after_some (suc n) l h = let e : suc n - 1 ≡ n = omega arith in rw e refl

between_is : {nets : List Held} {next : ℕ} {ns : List Net} (all : ℕ) → Starts nets next ns → (w : RoutingWord)
    → move_of (between_move all next w) ns ≡ move_between all ns w
between_is all at-end (word.Path p) = refl
between_is all at-end (word.End k) = go (eqb k all)
  where
    go : (t : Bool) → move_of (cond t (Ok (step.Same due.Over)) (Err Order)) [] ≡ cond t (on over []) (wrong 43)
    go true = refl
    go false = refl
between_is all at-end (word.Run r) = refl
between_is all at-end word.Unknown = refl
between_is {nets} all (at_net k ends) (word.Path p) = rw (lt-ltb 0 (suc k) (omega arith)) (go (eqb p.number (suc k)))
  where
    ns : List Net
    ns = nets_from (suc (suc k)) (drop (suc k) nets)

    go : (t : Bool) → move_of (cond t (Ok (step.Taken (due_after p.runs None))) (Err Order)) (net (suc k) ends ∷ ns)
        ≡ cond t (on (runs_due p.runs none) ns) (wrong 43)
    go true = ap (λ (d : shape.Due). on d ns) (due-after p.runs None)
    go false = refl
between_is all (at_net k ends) (word.End n) = rw (ne_eqb (suc k) 0 (λ e. omega arith)) refl
between_is all (at_net k ends) (word.Run r) = refl
between_is all (at_net k ends) word.Unknown = refl

path_is : (more : ℕ) (l : Last) (ns : List Net) (w : RoutingWord) → move_of (path_move more l w) ns ≡ move_in_path more (last_of l) ns w
path_is more l ns (word.Path p) = refl
path_is more l ns (word.End k) = refl
path_is more l ns word.Unknown = refl
path_is more l ns (word.Run r) = go (eqb r.length 0 || repeated (last_of l) r.direction)
  where
    go : (t : Bool) → move_of (cond t (Err Word) (Ok (step.Same (due_after more (Some r.direction))))) ns
        ≡ cond t (wrong 42) (on (runs_due more (some r.direction)) ns)
    go true = refl
    go false = ap (λ (d : shape.Due). on d ns) (due-after more (Some r.direction))

pub move_is : {nets : List Held} {next : ℕ} {ns : List Net} (all : ℕ) (d : Due) (w : ℕ) → Starts nets next ns
    → move_of (move_to all next d w) ns ≡ shape.move all (due_of d) ns w
move_is all due.Between w s = between_is all s (routing_word w)
move_is {ns = ns} all (due.InPath more l) w s = path_is more l ns (routing_word w)
move_is all due.Over w s = refl

-- the next net gets its path only where there is one
taken_between : (all next : ℕ) (w : RoutingWord) (d : Due) → between_move all next w ≡ Ok (step.Taken d) → 0 < next
taken_between all next (word.Path p) d e = elim (bool (ltb 0 next)) [
  | inl t ↦ ltb-true 0 next t
  | inr t ↦ absurd (let f : Err Order ≡ Ok (step.Taken d) = rw t at e in let z : ◌≡◌ {A = ℕ} 0 1 = cc in omega arith)
]
taken_between all next (word.End k) d e = absurd (go (eqb next 0 && eqb k all) e)
  where
    go : (t : Bool) → cond t (Ok (step.Same due.Over)) (Err Order) ≡ Ok (step.Taken d) → ⊥
    go true f = let z : ◌≡◌ {A = ℕ} 0 1 = cc in omega arith
    go false f = let z : ◌≡◌ {A = ℕ} 0 1 = cc in omega arith
taken_between all next (word.Run r) d e = absurd (let z : ◌≡◌ {A = ℕ} 0 1 = cc in omega arith)
taken_between all next word.Unknown d e = absurd (let z : ◌≡◌ {A = ℕ} 0 1 = cc in omega arith)

taken_path : (more : ℕ) (l : Last) (w : RoutingWord) (d : Due) → path_move more l w ≡ Ok (step.Taken d) → ⊥
taken_path more l (word.Path p) d e = let z : ◌≡◌ {A = ℕ} 0 1 = cc in omega arith
taken_path more l (word.End k) d e = let z : ◌≡◌ {A = ℕ} 0 1 = cc in omega arith
taken_path more l word.Unknown d e = let z : ◌≡◌ {A = ℕ} 0 1 = cc in omega arith
taken_path more l (word.Run r) d e = go (eqb r.length 0 || repeated (last_of l) r.direction) e
  where
    go : (t : Bool) → cond t (Err Word) (Ok (step.Same (due_after more (Some r.direction)))) ≡ Ok (step.Taken d) → ⊥
    go true f = let z : ◌≡◌ {A = ℕ} 0 1 = cc in omega arith
    go false f = let z : ◌≡◌ {A = ℕ} 0 1 = cc in omega arith

taken_next : (all next : ℕ) (d : Due) (w : ℕ) (d' : Due) → move_to all next d w ≡ Ok (step.Taken d') → 0 < next
taken_next all next due.Between w d' e = taken_between all next (routing_word w) d' e
taken_next all next (due.InPath more l) w d' e = absurd (taken_path more l (routing_word w) d' e)
taken_next all next due.Over w d' e = absurd (let z : ◌≡◌ {A = ℕ} 0 1 = cc in omega arith)

-- ── the nets from a place on ──
pub nets_skip : (nets : List Held) (i : ℕ) → i < length nets → is_some (get_or nets i nothing) ≡ false
    → nets_from (suc i) (drop i nets) ≡ nets_from (suc (i + 1)) (drop (i + 1) nets)
nets_skip nets i h e = rw (add-one i) (nets_more nets i h ∙ go (get_or nets i nothing) e)
  where
    go : (x : Held) → is_some x ≡ false → held_net (suc i) x (nets_from (suc (suc i)) (drop (suc i) nets))
        ≡ nets_from (suc (suc i)) (drop (suc i) nets)
    go None f = refl
    go (Some p) f = cc

pub starts_here : (nets : List Held) (i : ℕ) → i < length nets → is_some (get_or nets i nothing) ≡ true
    → Starts nets (i + 1) (nets_from (suc i) (drop i nets))
starts_here nets i h e = rw (nets_more nets i h, add-one i) (go (get_or nets i nothing) e)
  where
    go : (x : Held) → is_some x ≡ true → Starts nets (suc i) (held_net (suc i) x (nets_from (suc (suc i)) (drop (suc i) nets)))
    go None f = absurd (cc)
    go (Some p) f = at_net i p

starts_rest : {nets : List Held} {next : ℕ} {ns : List Net} → Starts nets next ns → 0 < next → rest ns ≡ nets_from (suc next) (drop next nets)
starts_rest at-end h = absurd (omega arith)
starts_rest (at_net k ends) h = refl

-- ── the words, one on ──
-- DEFINITION: the words from the first on are refused as those from index i on are, where the code stands at `d` and `next`
pub record Stands (all : ℕ) (nets : List Held) (ws : List ℕ) (d : Due) (next i : ℕ) : Type 0 where
  pub left : List Net
  pub starts : Starts nets next left
  pub same : words_refused all 0 between (nets_of nets) ws ≡ words_refused all i (due_of d) left (drop i ws)

pub stands_first : {all : ℕ} {nets : List Held} {ws : List ℕ} {next : ℕ} → Starts nets next (nets_from 1 (drop 0 nets))
    → Stands all nets ws due.Between next 0
unfolding nets_of
stands_first {nets = nets} s = record { left = nets_from 1 nets; starts = s; same = refl }

module _ {all : ℕ} {nets : List Held} {ws : List ℕ} {d : Due} {next i : ℕ} (s : Stands all nets ws d next i) (l : i < length ws) where
  word-moves : words_refused all i (due_of d) s.left (drop i ws)
      ≡ onward i (move_of (move_to all next d (get_or ws i 0)) s.left) (λ e ns. words_refused all (suc i) e ns (drop (suc i) ws))
  unfolding words_refused
  word-moves = rw (drop-cons ws i 0 l, move_is all d (get_or ws i 0) s.starts) refl

  pub stands-wrong : {m : Move} {k : Fault} → m ≡ move_to all next d (get_or ws i 0) → m ≡ Err k
      → some (refusal (number_of k) i) ≡ words_refused all 0 between (nets_of nets) ws
  stands-wrong e f = sym (s.same ∙ (word-moves ∙ (rw (← e, f) refl)))

  pub stands_same : {m : Move} {d' : Due} → m ≡ move_to all next d (get_or ws i 0) → m ≡ Ok (step.Same d') → Stands all nets ws d' next (i + 1)
  stands_same e f = record {
    left = s.left;
    starts = s.starts;
    same = rw (add-one i) (s.same ∙ (word-moves ∙ (rw (← e, f) refl)));
  }

  pub stands-taken : {m : Move} {d' : Due} {next' : ℕ} → m ≡ move_to all next d (get_or ws i 0) → m ≡ Ok (step.Taken d')
      → Starts nets next' (nets_from (suc next) (drop next nets)) → Stands all nets ws d' next' (i + 1)
  stands-taken {d' = d'} e f t = record {
    left = rest s.left;
    starts = rw (starts_rest s.starts (taken_next all next d (get_or ws i 0) d' (sym e ∙ f))) t;
    same = rw (add-one i) (s.same ∙ (word-moves ∙ (rw (← e, f) refl)));
  }

pub stands_end : {all : ℕ} {nets : List Held} {ws : List ℕ} {d : Due} {next i : ℕ} → Stands all nets ws d next i → i ≡ length ws
    → {x : Option machine.Refusal} → x ≡ at_end (length ws) (due_of d) → x ≡ words_refused all 0 between (nets_of nets) ws
unfolding words_refused
stands_end {ws = ws} s e f = f ∙ sym (s.same ∙ (rw (e, drop-length ws) refl))
