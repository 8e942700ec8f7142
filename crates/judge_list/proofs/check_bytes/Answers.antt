-- `check_bytes` checks the words of the bytes.
use Prim.Native.Nat.{ℕ}
use lib.ListN.{length-replicate}
use Rattle.std.proofs.lemmas.Result.{err_from_is_err_and}
use Rattle.words_bytes.specs.WordsLaws.{told-words}
use Rattle.judge_list.specs.VerdictLaws.{bytes-unfilled, checks_same}
use Rattle.judge_list.proofs.check_bytes.Goals as goal

pub returns-in_err-n : goal.returns-in_err-n
returns-in_err-n c =
    let p = err_from_is_err_and c.from_residual.result c.from_residual.ensures.1 in
    rw (p.1, p.2) (bytes-unfilled c.in_err-n.field-0.0 c.fill_all.ensures (length-replicate {A = ℕ} 2049 0) c.in_err-n.was)

pub slice_bounds-words-end : goal.slice_bounds-words-end
slice_bounds-words-end c = (told-words c.fill_all.ensures c.in_ok-n.was).room

pub slice_bounds-check-end : goal.slice_bounds-check-end
slice_bounds-check-end c = (told-words c.fill_all.ensures c.in_ok-n.was).count

pub returns-in_err-check : goal.returns-in_err-check
returns-in_err-check c =
    let p = err_from_is_err_and c.from_residual-in_err-check.result c.from_residual-in_err-check.ensures.1 in
    let filled = told-words c.fill_all.ensures c.in_ok-n.was in
    rw (p.1, p.2) (record { tells = (filled.even, checks_same c.check.ensures.checks filled.words c.in_err-check.was) })

pub returns : goal.returns
returns c =
    let filled = told-words c.fill_all.ensures c.in_ok-n.was in
    record { tells = (filled.even, checks_same c.check.ensures.checks filled.words c.in_ok-check.was) }
