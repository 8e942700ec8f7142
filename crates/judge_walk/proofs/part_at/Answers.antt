-- `part_at` is the part of the list that a path's runs are.
use native.Mathlib.Omega.{arith}
use mathlib.Core.Path.{ap, sym, ◌∙◌}
use Rattle.std.proofs.Common.{ltb-false}
use Rattle.words.specs.declared.Path.{Path}
use Rattle.words.specs.RoutingWord.{path_in}
use Rattle.judge_walk.specs.PartLaws.{part_out, part_runs}
use Rattle.judge_walk.proofs.part_at.Goals as goal

pub returns-in_err-get : goal.returns-in_err-get
returns-in_err-get c = c.from_residual.ensures ∙ part_out _ _ (ltb-false _ _ (sym c.in_err-get.ensures.lookup.0))

pub returns : goal.returns
returns c =
    let (inside, word) = c.in_ok-get.ensures.lookup.3 in
    let runs = ap (λ (p : Path). p.runs) (c.path_in-path.ensures ∙ ap path_in (word 0)) in
    part_runs _ _ inside (omega arith) (omega arith)
