-- `put_word` stores four bytes.
use native.Mathlib.Omega.{arith}
use mathlib.Core.Path.{sym, subst, ◌∙◌}
use Prim.Native.Nat.{ℕ, ◌+◌, ◌/◌, ◌%◌, ◌<◌}
use lib.ListN.{length, set, length-set}
use Rattle.words_bytes.proofs.put_word.Goals as goal

pub bounds-out-at-2 : goal.bounds-out-at-2
bounds-out-at-2 c =
    let h : c.args.at + 1 < length c.args.out.now = omega arith in
    subst (λ (k : ℕ). c.args.at + 1 < k) (sym (length-set c.args.out.now c.args.at (c.args.w % 256))) h

pub bounds-out-at-3 : goal.bounds-out-at-3
bounds-out-at-3 c =
    let h : c.args.at + 2 < length c.args.out.now = omega arith in
    subst (λ (k : ℕ). c.args.at + 2 < k) (sym (length-set (set c.args.out.now c.args.at (c.args.w % 256)) (c.args.at + 1)
    (c.args.w / 256 % 256) ∙ length-set c.args.out.now c.args.at (c.args.w % 256))) h
