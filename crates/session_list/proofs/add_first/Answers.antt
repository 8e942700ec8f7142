-- `add_first` adds the first nets of the array: of an array of 65 a greater count asks for no more.
use mathlib.Core.Path.{◌≡◌, refl, sym, ◌∙◌, subst}
use mathlib.Core.List.{List}
use mathlib.Core.Logic.{inl, inr}
use Prim.Native.Nat.{ℕ, ◌≤◌, min}
use native.Mathlib.Nat.{min-eq_left, min-eq_right}
use native.Mathlib.Omega.{arith}
use lib.ListN.{length, take}
use lib.Seq.{take_all}
use Rattle.count.specs.TruthLaws.{le_or_lt}
use Rattle.net.specs.declared.Net.{Net}
use Rattle.session_pile.specs.Shift.{length_unmapped_by}
use Rattle.session.specs.Promise.{AddAllPromise}
use borrow.Author.Rules.{rules}
use Rattle.session_list.proofs.add_first.Goals as goal

no_more : (n m : ℕ) (ns : List Net) → length ns ≤ m → take (min n m) ns ≡ take n ns
no_more n m ns l = elim (le_or_lt n m) [
  | inl h ↦ rw (min-eq_left h) refl
  | inr h ↦ let g : m ≤ n = omega arith in rw (min-eq_right g) (take_all m ns l ∙ sym (take_all n ns (omega arith)))
]

pub returns : goal.returns
returns c =
    let at = c.args in
    let l : length at.nets ≡ 65 = search (rules, length_unmapped_by) in
    subst (λ (ns : List Net). AddAllPromise at.s ns c.lent.result) (no_more at.count 65 at.nets (omega arith))
    (subst (λ (n : ℕ). AddAllPromise at.s (take n at.nets) c.lent.result) c.min.ensures c.lent.ensures)
