-- The words of runs for each net, and the end word, have the shape.
-- Assumes that the nets' numbers and their count fit their fields.
use Rattle.std.specs.Prelude.{◌≡◌, refl, List, [], ◌∷◌, ◌++◌, map, ℕ, suc, ◌+◌, ◌<◌, length}
use Rattle.std.proofs.Common.{◌∙◌, arith, eq-eqb, ne_eqb}
use Rattle.std.proofs.Math.Option.{Option, none}
use Rattle.board.specs.declared.Direction.{Direction}
use Rattle.net.specs.declared.Net.{Net}
use Rattle.words.specs.RoutingWord.{run_word}
use Rattle.words.specs.Inverse.{path_back, run_back, routing_end_back}
use Rattle.words.specs.declared.Run.{Run}
use Rattle.call_rules.specs.Shape.{between, runs_due, words_refused}
use Rattle.judge_laws.specs.Runs.{Runs, no_more, one_more}
use Rattle.judge_laws.specs.Shapes.{words_by, Each, no-net, one_net}

-- DEFINITION: each number fits the eight bits of its field
abbrev pub Numbered : List Net → Type 0
Numbered [] = Unit {0}
Numbered (n ∷ ns) = (n.number < 256) × Numbered ns

runs_pass : (all i : ℕ) (ns : List Net) (ws : List ℕ) {last : Option Direction} {rs : List Run} → Runs last rs
    → words_refused all i (runs_due (length rs) last) ns (map run_word rs ++ ws) ≡ words_refused all (i + length rs) between ns ws
unfolding words_refused
runs_pass all i ns ws no_more = let e : i + 0 ≡ i = omega arith in rw e refl
runs_pass all i ns ws (one_more {rs = rs} r p q e h) =
    let k : i + suc (length rs) ≡ suc i + length rs = omega arith in
    rw (run_back r q, ne_eqb r.length 0 (λ z. omega arith), e, k) (runs_pass all (suc i) ns ws h)

pub shape_passes : (all i : ℕ) → all < 256 → {ns : List Net} {rss : List (List Run)} → Each ns rss → Numbered ns
    → words_refused all i between ns (words_by all ns rss) ≡ none
unfolding words_refused words_by
shape_passes all i h no-net m = rw (routing_end_back all h, eq-eqb all all refl) refl
shape_passes all i h (one_net {n} {ns} {rss} rs l d e) m =
    rw (path_back (record { number = n.number; runs = length rs }) m.0 l, eq-eqb n.number n.number refl)
    (runs_pass all (suc i) ns (words_by all ns rss) d ∙ shape_passes all (suc i + length rs) h e m.1)
