-- One row more: it is dropped, or it is not trivial.
-- Assumes what the rows before left.
use Rattle.std.specs.Prelude.{◌≡◌, ℕ, ◌+◌, ◌-◌, ◌≤◌, ◌<◌, get_or}
use Rattle.std.proofs.Common.{sym, subst, inl, inr, arith, get_or-set_other}
use Rattle.count.specs.TruthLaws.{eq_or_ne}
use Rattle.router_notes.specs.Limits.{pair_limit}
use Rattle.router_notes.specs.declared.Table.{Table}
use Rattle.router_table.specs.Writes.{dropped}
use Rattle.router_invariant.specs.Drop.{drop-holds}
use Rattle.router_invariant.proofs.Halving.{stored}
use Rattle.router_invariant.proofs.Sizes.{sized_drop}
use Rattle.router_tidy.specs.Tidy.{table_r, Tidied}

pub tidy_none : (t : Table) (n : ℕ) → Tidied t n t n 0
tidy_none t n = record { keeps = λ s0 R h. h; low = λ h. h; proper = λ k l. absurd (omega arith) }

pub tidy_next : (t : Table) (n : ℕ) (t' : Table) (m i : ℕ) → Tidied t n t' m i → (get_or t'.first i 0 ≡ get_or t'.second i 0 → ⊥)
    → Tidied t n t' m (i + 1)
tidy_next t n t' m i T h = record {
  keeps = T.keeps;
  low = T.low;
  proper = λ k l. elim (eq_or_ne k i) [
    | inl e ↦ subst (λ j. get_or t'.first j 0 ≡ get_or t'.second j 0 → ⊥) (sym e) h
    | inr e ↦ T.proper k (omega (arith, e))
  ];
}

pub tidy_drop : (t : Table) (n : ℕ) (t' : Table) (m i : ℕ) (t'' : Table) → Tidied t n t' m i → m ≤ pair_limit → i < m
    → get_or t'.first i 0 ≡ get_or t'.second i 0 → t'' ≡ dropped t' i (m - 1) → Tidied t n t'' (m - 1) i
tidy_drop t n t' m i t'' T few l e D = rw D (record {
  keeps = λ s0 R h. let g = T.keeps s0 R h in (
    drop-holds s0 (table_r R t' m) g.0 g.1 i (m - 1) (omega arith) (omega arith) few e,
    sized_drop (table_r R t' m) i (m - 1) g.1,
  );
  low = λ h k. let g = T.low h in elim (stored t'.number i (get_or t'.number (m - 1) 0) k) [ inl q ↦ rw q (g (m - 1)) | inr q ↦ rw q (g k) ];
  proper = λ k b. rw (
    get_or-set_other t'.first i k (get_or t'.first (m - 1) 0) 0 (λ c. omega arith),
    get_or-set_other t'.second i k (get_or t'.second (m - 1) 0) 0 (λ c. omega arith),
  ) (T.proper k b);
})
