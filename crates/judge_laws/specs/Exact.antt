-- A list of words passes exactly when it is the routing words of a routing of the nets; the paths that are reported on are that routing's.
-- Assumes of the session that its board is within the limits, and that it has at most 64 nets, of numbers below 256.
use Rattle.std.specs.Prelude.{◌≡◌, refl, ◌↔◌, ℕ, suc, ◌+◌, ◌≤◌, length}
use Rattle.std.proofs.Common.{ap, sym, ◌∙◌, inl, inr, arith, length-append, drop_at, ne_eqb, le-ltb}
use mathlib.Core.List.{List, [], ◌∷◌, ◌++◌, map, flatten}
use Rattle.std.proofs.Math.Option.{Option, none, some}
use Rattle.std.proofs.lemmas.List.{length-map}
use Rattle.count.specs.TruthLaws.{bool}
use Rattle.board.specs.Board.{Board, Within, Edge}
use Rattle.board.specs.declared.Direction.{Direction}
use Rattle.net.specs.declared.Net.{Net}
use Rattle.net.specs.declared.Pair.{Pair}
use Rattle.routing_rules.specs.Routing.{Joins, trails, uses, Routing}
use Rattle.session_rules.specs.Refusal.{Refusal}
use Rattle.session_rules.specs.Session.{Session, pairs}
use Rattle.words.specs.RoutingWord.{run_word, routing_end_word, runs_of, paths_words, routing_words}
use Rattle.words.specs.declared.Run.{Run}
use Rattle.call_rules.specs.Result.{Result, no, yes, and_then, unless}
use Rattle.call_rules.specs.Report.{edges_used}
use Rattle.call_rules.specs.Shape.{between, words_refused, bad_count, paths_from}
use Rattle.call_rules.specs.Walk.{walk_paths}
use Rattle.call_rules.specs.Judge.{paths_in, judged}
use Rattle.judge_laws.specs.Runs.{steps}
use Rattle.judge_laws.specs.Shapes.{words_by, Each, no-net, one_net, shape_read, paths_back, paths_in_words, words_back}
use Rattle.judge_laws.specs.Walks.{yes_eq, no_yes, ends_of, paths_went, paths_can}
use Rattle.words.specs.RunLaws.{runs_few}
use Rattle.judge_laws.specs.Straight.{steps_back, runs_fit}
use Rattle.judge_laws.specs.Passing.{Numbered, shape_passes}
use Rattle.board_edges.proofs.Framed.{edges_most}
use Rattle.routing_laws.proofs.Used.{used_most}
use Rattle.routing_laws.proofs.Words.{words_few}

-- DEFINITION: the words are those of a routing of the session's nets, with the paths dss
pub record Passing (s : Session) (ws : List ℕ) (dss : List (List Direction)) : Type 0 where
  pub routing : Routing s.block.board (pairs s.nets) dss
  pub words : ws ≡ routing_words s.nets dss

-- the terminals of the paths in a list are those of the nets
ends_in_words : (all i : ℕ) {ns : List Net} {rss : List (List Run)} → Each ns rss → ends_of (paths_from i ns (words_by all ns rss)) ≡ pairs ns
unfolding paths_from words_by
ends_in_words all i no-net = refl
ends_in_words all i (one_net {n} {ns} {rss} rs h d e) =
    rw (
      paths_back (record { number = n.number; runs = length rs }) h,
      drop_at (map run_word rs) (words_by all ns rss) (length rs) (length-map rs run_word),
    )
    (ap (λ (l : List Pair). n.ends ∷ l) (ends_in_words all (suc i + length rs) e))

-- ── a list that passes ──
at_most : (k m n : ℕ) → k ≡ m + n → k ≤ 1 → m ≤ 1
at_most k m n e h = omega arith

walked : (s : Session) (ws : List ℕ) (dss : List (List Direction)) → words_refused (length s.nets) 0 between s.nets ws ≡ none
    → (x : Result (List Edge))
    → walk_paths s.block.board (paths_from 0 s.nets ws) [] ≡ x → and_then x (λ used. yes (paths_in (paths_from 0 s.nets ws))) ≡ yes dss
    → Passing s ws dss
unfolding routing_words uses
walked s ws dss h (no r) e f = no_yes f
walked s ws dss h (yes used) e f =
    let r = shape_read (length s.nets) 0 between s.nets ws h in
    let w = paths_went s.block.board (paths_from 0 s.nets ws) [] used e in
    let d : paths_in (paths_from 0 s.nets ws) ≡ dss = yes_eq f in
    let p : paths_in (paths_from 0 s.nets ws) ≡ map steps r.runs =
    ap (λ (v : List ℕ). paths_in (paths_from 0 s.nets v)) r.words ∙ paths_in_words (length s.nets) 0 r.each in
    let n : ends_of (paths_from 0 s.nets ws) ≡ pairs s.nets =
    ap (λ (v : List ℕ). ends_of (paths_from 0 s.nets v)) r.words ∙ ends_in_words (length s.nets) 0 r.each in
    let g : map steps r.runs ≡ dss = sym p ∙ d in
    record {
      routing = record {
        joins = rw (n, d) at w.joins;
        once = λ e.
            rw (n, d) at (at_most (uses e used) (uses e (flatten (trails (ends_of (paths_from 0 s.nets ws)) (paths_in (paths_from 0 s.nets ws)))))
            (uses e [])
            (w.counts e) (w.once (λ a. omega arith) e));
      };
      words = r.words ∙ (words_back (length s.nets) r.each
          ∙ ap (λ (l : List (List Direction)). paths_words s.nets l ++ (routing_end_word (length s.nets) ∷ [])) g);
    }

shaped : (s : Session) (ws : List ℕ) (dss : List (List Direction)) (x : Option Refusal) → words_refused (length s.nets) 0 between s.nets ws ≡ x
    → unless x (and_then (walk_paths s.block.board (paths_from 0 s.nets ws) []) (λ used. yes (paths_in (paths_from 0 s.nets ws)))) ≡ yes dss
    → Passing s ws dss
shaped s ws dss none e f = walked s ws dss e (walk_paths s.block.board (paths_from 0 s.nets ws) []) refl f
shaped s ws dss (some r) e f = no_yes f

-- a list that passes is the routing words of a routing
pub passes_sound : (s : Session) (ws : List ℕ) (dss : List (List Direction)) → judged s ws ≡ yes dss → Passing s ws dss
unfolding judged
passes_sound s ws dss h = elim (bool (bad_count ws)) [
  | inl t ↦ no_yes (rw t at h)
  | inr t ↦ shaped s ws dss (words_refused (length s.nets) 0 between s.nets ws) refl (rw t at h)
]

-- ── the routing words of a routing ──
each_runs : (b : Board) → Within b → (ns : List Net) (dss : List (List Direction)) → Joins b (pairs ns) dss → edges_used dss ≤ 1984
    → Each ns (map runs_of dss)
unfolding edges_used
each_runs b w [] [] j h = no-net
each_runs b w [] (ds ∷ dss) j h = absurd j
each_runs b w (n ∷ ns) [] j h = absurd j
each_runs b w (n ∷ ns) (ds ∷ dss) j h =
    one_net (runs_of ds) (omega (arith, runs_few ds)) (runs_fit b w ds n.ends.first n.ends.second j.0).0
    (each_runs b w ns dss j.1 (omega arith))

steps_map : (dss : List (List Direction)) → map steps (map runs_of dss) ≡ dss
steps_map [] = refl
steps_map (ds ∷ dss) = rw (steps_back ds, steps_map dss) refl

pub passes_complete : (s : Session) → Within s.block.board → Numbered s.nets → length s.nets ≤ 64 → (dss : List (List Direction))
    → Routing s.block.board (pairs s.nets) dss → judged s (routing_words s.nets dss) ≡ yes dss
unfolding judged routing_words uses
passes_complete s w m l dss r =
    let all = length s.nets in
    let most = edges_most s.block.board w in
    let few = used_most s.block.board w (pairs s.nets) dss r in
    let each = each_runs s.block.board w s.nets dss r.joins (omega arith) in
    let ws = routing_words s.nets dss in
    let same : ws ≡ words_by all s.nets (map runs_of dss) =
    sym (words_back all each ∙ ap (λ (x : List (List Direction)). paths_words s.nets x ++ (routing_end_word all ∷ [])) (steps_map dss)) in
    let count = length-append (paths_words s.nets dss) (routing_end_word all ∷ []) in
    let short = words_few s.block.board w s.nets dss r in
    let shape : words_refused all 0 between s.nets ws ≡ none = rw same (shape_passes all 0 (omega arith) each m) in
    let ends : ends_of (paths_from 0 s.nets ws) ≡ pairs s.nets = rw same (ends_in_words all 0 each) in
    let paths : paths_in (paths_from 0 s.nets ws) ≡ dss = rw same (paths_in_words all 0 each ∙ steps_map dss) in
    let (used, q) = paths_can s.block.board (paths_from 0 s.nets ws) [] (rw (ends, paths) r.joins)
    (rw (ends, paths) (λ e. omega (arith, r.once e))) in
    rw (ne_eqb (length ws) 0 (λ z. omega arith), le-ltb 2049 (length ws) (omega arith), shape, q) (ap yes paths)

-- THE LAW: a list passes, with the paths dss, exactly when it is the routing words of a routing of the nets with those paths.
pub passes_exactly : (s : Session) → Within s.block.board → Numbered s.nets → length s.nets ≤ 64
    → (ws : List ℕ) (dss : List (List Direction))
    → (judged s ws ≡ yes dss) ↔ Passing s ws dss
passes_exactly s w m l ws dss = (
  passes_sound s ws dss,
  λ p. ap (judged s) p.words ∙ passes_complete s w m l dss p.routing,
)
