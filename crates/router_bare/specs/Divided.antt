-- The writes of a step at a corner without an end make the step.
-- Assumes what the parts promise.
use Rattle.std.specs.Prelude.{◌≡◌, Bool, true, false, List, Some, None, ℕ, zero, suc, ◌+◌, ◌-◌, ◌*◌, ◌/◌, ◌%◌, ◌≤◌, get_or, eqb, ltb}
use Rattle.std.proofs.Common.{ap, ◌∙◌, sym, subst, inl, inr, arith, eqb-true, ltb-true, ltb-false}
use Rattle.std.proofs.lemmas.Bool.{eqb-false}
use Rattle.count.specs.TruthLaws.{bool}
use Rattle.count.specs.Sum.{sum_zero, sum_suc}
use Rattle.corner.specs.Pairs.{apart}
use Rattle.corner.proofs.Apart.{apart_le}
use Rattle.router_table.specs.Scans.{First, Least, cross_d, leave_d}
use Rattle.router_notes.specs.declared.Table.{Table}
use Rattle.router_notes.specs.declared.Notes.{Notes}
use Rattle.router_notes.specs.declared.Lines.{Lines}
use Rattle.router_table.specs.Writes.{added}
use Rattle.router_invariant.specs.Run.{Run, line_r, col_r, ul_r, nul_r, bul_r, bul_w}
use Rattle.router_invariant.specs.Divide.{divide_run}
use Rattle.router_invariant.proofs.Step.{LeftFull, TopFull, end_r, nearest, at_nul, helped, no_nearest, no_nul}
use Rattle.router_ends.specs.declared.Work.{Work}
use Rattle.router_ends.specs.View.{run, shorter}
use Rattle.router_bare.specs.Promise.{CutRow, NoEnds}

-- a count of pairs is at most the number of rows
pub leave_le : (la lb : List ℕ) (l n : ℕ) → leave_d la lb l n ≤ n
unfolding leave_d
leave_le la lb l zero = omega (arith, sum_zero (λ i. apart (eqb (get_or la i 0 / 32) l) (eqb (get_or lb i 0 / 32) l)))
leave_le la lb l (suc n) = omega (
  arith,
  leave_le la lb l n,
  sum_suc n (λ i. apart (eqb (get_or la i 0 / 32) l) (eqb (get_or lb i 0 / 32) l)),
  apart_le (eqb (get_or la n 0 / 32) l) (eqb (get_or lb n 0 / 32) l),
)

module _ (t : Table) (m : Notes) (l : Lines) (w : Work) (line x from nul bul : ℕ) (word : from ≡ line * 32 + x) (en : nul ≡ from + 1)
    (eb : bul ≡ bul_w w.up from) where
  abbrev R : Run
  R = run t m l w

  from_is : line ≡ line_r R → x ≡ col_r R → from ≡ ul_r R
  from_is el ex = word ∙ ap (λ l. l * 32 + x) el ∙ ap (λ c. line_r R * 32 + c) ex

  nul-word : line ≡ line_r R → x ≡ col_r R → nul ≡ nul_r R
  nul-word el ex = en ∙ ap (λ v. v + 1) (from_is el ex)

  bul-word : line ≡ line_r R → x ≡ col_r R → bul ≡ bul_r R
  bul-word el ex = eb ∙ ap (bul_w w.up) (from_is el ex)

  module _ (l' : Lines) (elo : l' ≡ shorter l line x) where
    cut-is : (i : ℕ) (first : Bool) {t' : Table} {m' : Notes} {r : Work} → CutRow t m w i first nul bul t' m' r → line ≡ line_r R → x ≡ col_r R
        → run t' m' l' r ≡ divide_run R i first
    cut-is i true P el ex = rw (P.work_is, P.table_is, P.notes_are, elo, nul-word el ex, bul-word el ex, ex, el)
    cut-is i false P el ex = rw (P.work_is, P.table_is, P.notes_are, elo, nul-word el ex, bul-word el ex, ex, el)

    -- ── the left cut is full ──
    module _ (d : ℕ) (ed : d ≡ cross_d t.first t.second x w.n) where
      left-yes : d ≡ w.bottom - w.top + 1 → x ≡ col_r R → LeftFull R
      left-yes e ex = subst (λ c. cross_d t.first t.second c w.n ≡ w.bottom - w.top + 1) ex (sym ed ∙ e)

      left-no : (d ≡ w.bottom - w.top + 1 → ⊥) → x ≡ col_r R → LeftFull R → ⊥
      left-no n ex e = n (ed ∙ subst (λ c. cross_d t.first t.second c w.n ≡ w.bottom - w.top + 1) (sym ex) e)

      pub near-stuck : d ≡ w.bottom - w.top + 1 → (i : ℕ) → Least t.first t.second w.n x w.up i → i ≡ w.n → NoEnds t m l w line x t m l' None
      near-stuck e i L q el ex E =
          no_nearest i E (left-yes e ex) (subst (λ c. Least t.first t.second w.n c w.up i) ex L) (omega arith)

      pub near-cut : d ≡ w.bottom - w.top + 1 → (i : ℕ) → Least t.first t.second w.n x w.up i → (i ≡ w.n → ⊥) → (c : ℕ)
          → c ≡ get_or t.first i 0 % 32 → (t' : Table) (m' : Notes) (r : Work) → CutRow t m w i (ltb x c) nul bul t' m' r
          → NoEnds t m l w line x t' m' l' (Some r)
      near-cut e i L q c ec t' m' r P el ex E =
          nearest i E (left-yes e ex) (subst (λ c. Least t.first t.second w.n c w.up i) ex L) (omega (arith, L.most, q)) (elim (bool (ltb x c)) [
            | inl b ↦ inl (
              omega (arith, ltb-true x c b),
              cut-is i true (subst (λ f. CutRow t m w i f nul bul t' m' r) b P) el ex,
            )
            | inr b ↦ inr (
              omega (arith, ltb-false x c b),
              cut-is i false (subst (λ f. CutRow t m w i f nul bul t' m' r) b P) el ex,
            )
          ])

      -- ── the top cut is full ──
      module _ (n : d ≡ w.bottom - w.top + 1 → ⊥) (e end : ℕ) (ee : e ≡ leave_d t.first t.second line w.n) (last : end ≡ get_or l.last line 0) where
        end_is : line ≡ line_r R → end ≡ end_r R
        end_is el = last ∙ ap (λ k. get_or l.last k 0) el

        top-yes : e + x ≡ end + 1 → line ≡ line_r R → x ≡ col_r R → TopFull R
        top-yes h el ex = omega (arith, h, ee, ap (λ l. leave_d t.first t.second l w.n) el, ex, end_is el)

        top-no : (e + x ≡ end + 1 → ⊥) → line ≡ line_r R → x ≡ col_r R → TopFull R → ⊥
        top-no k el ex h = k (omega (arith, h, ee, ap (λ l. leave_d t.first t.second l w.n) el, ex, end_is el))

        pub nul-stuck : e + x ≡ end + 1 → (i : ℕ) → First t.first t.second nul 0 w.n i → i ≡ w.n → NoEnds t m l w line x t m l' None
        nul-stuck h i F q el ex E =
            no_nul i E (top-yes h el ex) (subst (λ v. First t.first t.second v 0 w.n i) (nul-word el ex) F) (omega arith)

        pub nul-cut : e + x ≡ end + 1 → (i : ℕ) → First t.first t.second nul 0 w.n i → (i ≡ w.n → ⊥) → (t' : Table) (m' : Notes) (r : Work)
            → CutRow t m w i (eqb (get_or t.first i 0) nul) nul bul t' m' r → NoEnds t m l w line x t' m' l' (Some r)
        nul-cut h i F q t' m' r P el ex E =
            at_nul i E (left-no n ex) (top-yes h el ex) (subst (λ v. First t.first t.second v 0 w.n i) (nul-word el ex) F)
            (omega (arith, F.most, q))
            (elim (bool (eqb (get_or t.first i 0) nul)) [
              | inl b ↦ inl (
                eqb-true (get_or t.first i 0) nul b ∙ nul-word el ex,
                cut-is i true (subst (λ f. CutRow t m w i f nul bul t' m' r) b P) el ex,
              )
              | inr b ↦ inr (
                λ z. eqb-false (get_or t.first i 0) nul b (z ∙ sym (nul-word el ex)),
                cut-is i false (subst (λ f. CutRow t m w i f nul bul t' m' r) b P) el ex,
              )
            ])

        pub add-helper : (e + x ≡ end + 1 → ⊥) → {t' : Table} → t' ≡ added t w.n w.next nul bul
            → NoEnds t m l w line x t' m l' (Some (record w { n = w.n + 1; next = w.next + 1 }))
        add-helper k et el ex E = helped E (left-no n ex) (top-no k el ex) (rw (et, elo, nul-word el ex, bul-word el ex, ex, el))
