-- The writes of a step at a corner with one edge make the step.
-- Assumes what the parts promise.
use Rattle.std.specs.Prelude.{◌≡◌, refl, Bool, true, false, Some, None, ◌⊎◌, ℕ, ◌+◌, ◌*◌, ◌≤◌, ◌<◌, get_or}
use Rattle.std.proofs.Common.{ap, ◌∙◌, sym, inl, inr, arith}
use mir.Val.{bool_byte}
use Rattle.count.specs.TruthLaws.{eq_or_ne, le_or_lt}
use Rattle.router_notes.specs.declared.Table.{Table}
use Rattle.router_notes.specs.declared.Notes.{Notes}
use Rattle.router_notes.specs.declared.Lines.{Lines}
use Rattle.router_table.specs.Scans.{seen_d}
use Rattle.router_table.specs.Writes.{left_by, moved}
use Rattle.router_invariant.specs.Run.{Run, line_r, col_r, ul_r, bul_w}
use Rattle.router_invariant.specs.Ready.{up_n}
use Rattle.router_invariant.proofs.Step.{end_r, right, down, no_right, no_down, no_edge, no_line}
use Rattle.router_ends.specs.declared.Work.{Work}
use Rattle.router_ends.specs.View.{run, shorter, OneDown, OneRight}

pub seen_low : (o : Bool) (l : ℕ) → l ≤ 31 → seen_d o l < 32
seen_low true l h = omega arith
seen_low false l h = omega arith

pub up_is : (o : Bool) → bool_byte o ≡ up_n o
up_is true = refl
up_is false = refl

module _ (t : Table) (m : Notes) (l : Lines) (w : Work) (line x i : ℕ) where
  abbrev R : Run
  R = run t m l w

  -- the last column, as the code reads it
  ends : (end : ℕ) → end ≡ get_or l.last line 0 → line ≡ line_r R → end ≡ end_r R
  ends end e el = e ∙ ap (λ k. get_or l.last k 0) el

  -- ── no step ──
  module _ (end : ℕ) (ee : end ≡ get_or l.last line 0) where
    pub no-down : ((x ≡ end → ⊥) ⊎ (i ≡ w.n)) → OneDown t m l w i line x t m None
    no-down q el ex c F = elim (eq_or_ne x end) [
      | inr n ↦ no_line (inl (omega (arith, n, c.1, ee, ex, ends end ee el)))
      | inl e ↦ no_down i (sym ex ∙ e ∙ ends end ee el) c.0 F (elim q [ inl n ↦ absurd (n e) | inr h ↦ omega arith ])
    ]

    pub no-right : (w.top ≡ w.bottom → ⊥) ⊎ ((end ≤ x) ⊎ (i ≡ w.n)) → OneRight t m l w i line x t m l None
    no-right q el ex c F = elim (eq_or_ne w.top w.bottom) [
      | inr n ↦ no_line (inr (omega (arith, n)))
      | inl f ↦ elim (eq_or_ne x end) [
        | inl e ↦ no_edge (sym ex ∙ e ∙ ends end ee el) f
        | inr e ↦ elim q [
          | inl n ↦ absurd (n f)
          | inr (inl h) ↦ no_line (inl (omega (arith, e, h, ex, ends end ee el)))
          | inr (inr h) ↦ elim (le_or_lt end x) [
            | inl b ↦ no_line (inl (omega (arith, e, b, ex, ends end ee el)))
            | inr b ↦ no_right i (omega (arith, b, ex, ends end ee el)) f F (omega arith)
          ]
        ]
      ]
    ]

  -- ── a step ──
  module _ (from to s v end : ℕ) (word : from ≡ line * 32 + x) (ee : end ≡ get_or l.last line 0) (li : i < w.n) {t' : Table} {m' : Notes}
      (M : t' ≡ moved t i from to) (K : m' ≡ left_by m from s v) where
    from_is : line ≡ line_r R → x ≡ col_r R → from ≡ ul_r R
    from_is el ex = word ∙ ap (λ l. l * 32 + x) el ∙ ap (λ c. line_r R * 32 + c) ex

    pub goes-down : x ≡ end → to ≡ bul_w w.up from → s ≡ 0 → v ≡ 2 * get_or t.number i 0 + 2 + bool_byte w.up
        → OneDown t m l w i line x t' m' (Some (record w { top = w.top + 1 }))
    goes-down e et es ev el ex c F =
        down i (sym ex ∙ e ∙ ends end ee el) c.0 F li (rw (M, K, et, es, ev, up_is w.up, from_is el ex))

    pub goes-right : {l' : Lines} → l' ≡ shorter l line x → w.top ≡ w.bottom → x < end → to ≡ from + 1 → s ≡ get_or t.number i 0 + 1 → v ≡ 0
        → OneRight t m l w i line x t' m' l' (Some w)
    goes-right elo f b et es ev el ex c F =
        right i (omega (arith, b, ex, ends end ee el)) f F li (rw (M, K, et, es, ev, elo, from_is el ex, ex, el))
