-- The writes of a step at a corner with two edges and two ends make the step.
-- Assumes what the parts promise.
use Rattle.std.specs.Prelude.{◌≡◌, Bool, true, false, Some, None, ◌⊎◌, ℕ, ◌+◌, ◌*◌, ◌<◌}
use Rattle.std.proofs.Common.{ap, ◌∙◌, sym, subst, inl, inr, arith}
use mir.Val.{bool_byte}
use Rattle.router_notes.specs.declared.Table.{Table}
use Rattle.router_notes.specs.declared.Notes.{Notes}
use Rattle.router_notes.specs.declared.Lines.{Lines}
use Rattle.router_table.specs.Scans.{First, swap_d}
use Rattle.router_table.specs.Writes.{far_end, Split}
use Rattle.router_invariant.specs.Run.{Run, line_r, col_r, ul_r, bul_w}
use Rattle.router_invariant.proofs.Choice.{far_w}
use Rattle.router_invariant.proofs.Step.{FirstR, split_two, no_second}
use Rattle.router_ends.specs.declared.Work.{Work}
use Rattle.router_ends.specs.View.{run, shorter, TwoEnds}
use Rattle.router_ends.specs.Moved.{up_is}

module _ (t : Table) (m : Notes) (l : Lines) (w : Work) (i line x from j : ℕ) (li : i < w.n) (word : from ≡ line * 32 + x)
    (E : First t.first t.second from (i + 1) w.n j) where
  abbrev R : Run
  R = run t m l w

  found : line ≡ line_r R → x ≡ col_r R → FirstR R (ul_r R) (i + 1) j
  found el ex = subst (λ v. First t.first t.second v (i + 1) w.n j) (word ∙ ap (λ l. l * 32 + x) el ∙ ap (λ c. line_r R * 32 + c) ex) E

  pub no-second : j ≡ w.n → TwoEnds t m l w i line x t m l None
  no-second e el ex wide deep F = no_second i j wide deep F li (found el ex) (omega arith)

  module _ (ne : j ≡ w.n → ⊥) (bul a b : ℕ) (eb : bul ≡ bul_w w.up from) (es : a ≡ far_end t i from) (et : b ≡ far_end t j from) where
    swap_is : {o : Bool} → o ≡ swap_d a b line x → line ≡ line_r R → x ≡ col_r R → swap_d (far_w R i) (far_w R j) (line_r R) (col_r R) ≡ o
    swap_is e el ex = rw (es, et, word, ex, el) at (sym e)

    -- row p goes right, and row q down
    pub parts : (o : Bool) (p q : ℕ) → o ≡ swap_d a b line x → ((o ≡ true) × (p ≡ j) × (q ≡ i)) ⊎ ((o ≡ false) × (p ≡ i) × (q ≡ j))
        → {t' : Table} {m' : Notes} {l' : Lines} → Split t m p q (line * 32 + x) from (from + 1) bul (bool_byte w.up) t' m' → l' ≡ shorter l line x
        → TwoEnds t m l w i line x t' m' l' (Some w)
    parts o p q sw (inl h) P elo el ex wide deep F =
        split_two i j wide deep F li (found el ex) (omega (arith, E.most, ne)) (inr (
          swap_is sw el ex ∙ h.0,
          rw (P.table_is, P.notes_are, h.1, h.2, elo, eb, up_is w.up, word, ex, el),
        ))
    parts o p q sw (inr h) P elo el ex wide deep F =
        split_two i j wide deep F li (found el ex) (omega (arith, E.most, ne)) (inl (
          swap_is sw el ex ∙ h.0,
          rw (P.table_is, P.notes_are, h.1, h.2, elo, eb, up_is w.up, word, ex, el),
        ))
