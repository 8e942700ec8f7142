-- Laws of margins and tallies, for callers.
-- Assumes nothing.
use Rattle.std.specs.Prelude.{◌≡◌, refl, Bool, true, false, cond, List, [], ◌∷◌, ◌↔◌, ℕ, zero, suc, ◌+◌, ◌-◌, ◌≤◌, ◌<◌, T, ltb, ℤ, pos, negsuc, ◌-ℤ◌, ◌<ℤ◌, None, Some}
use Rattle.std.proofs.Common.{ap, sym, ◌∙◌, subst, inl, inr, arith, lt-ltb, le-ltb}
use Rattle.std.specs.Int.Signed.{lt_z}
use Rattle.count.specs.Truth.{one}
use Rattle.count.specs.TruthLaws.{clash, le_or_lt, one_le}
use Rattle.count.specs.Sum.{count}
use Rattle.count.specs.Lists.{tally}
use Rattle.board.specs.Board.{Board}
use Rattle.net.specs.declared.Pair.{Pair}
use Rattle.cut.specs.Cut.{edges, crosses, crossing, margin, Overfull, overfull?}
use Rattle.cut.specs.Tally.{TallyOf, held_crosses, with_held, cut_edge}
use Rattle.cut.specs.declared.Tally.{Tally}
use Rattle.cut.specs.declared.Cut.{Cut}
use Rattle.cut.specs.declared.Cut.TheVariants.{Row, Column}
use Rattle.net.specs.View.{Held}

-- ── a test of signed numbers ──
T_true : (b : Bool) → T b ↔ (b ≡ true)
T_true true = (λ t. refl, λ e. tt)
T_true false = (λ t. absurd t, λ e. absurd (clash e refl))

below_exact : (a b : ℤ) → (lt_z a b ≡ true) ↔ (a <ℤ b)
below_exact a b = (λ e. record { lt = (T_true (lt_z a b)).1 e }, λ h. (T_true (lt_z a b)).0 h.lt)

pub overfull_exact : (b : Board) (ps : List Pair) (x : Cut) → (overfull? b ps x ≡ true) ↔ Overfull b ps x
unfolding overfull?
overfull_exact b ps x = below_exact (margin b ps x) (pos 0)

-- ── the margin below, at and above zero ──
difference : (m n : ℕ) → pos m -ℤ pos n ≡ cond (ltb m n) (negsuc (n - suc m)) (pos (m - n))
difference m zero =
    let e : m + 0 ≡ m = omega arith in let f : m - 0 ≡ m = omega arith in
    rw (e, f, le-ltb m 0 (omega arith)) refl
difference m (suc n) = refl

pub margin_below : (b : Board) (ps : List Pair) (x : Cut) (k : ℕ) → crossing x ps ≡ edges b x + suc k → margin b ps x ≡ negsuc k
unfolding margin
margin_below b ps x k e =
    let h : edges b x < crossing x ps = omega arith in
    let f : crossing x ps - suc (edges b x) ≡ k = omega arith in
    difference (edges b x) (crossing x ps) ∙ rw (lt-ltb (edges b x) (crossing x ps) h, f) refl

-- at zero: k is 0
pub margin_above : (b : Board) (ps : List Pair) (x : Cut) (k : ℕ) → edges b x ≡ crossing x ps + k → margin b ps x ≡ pos k
unfolding margin
margin_above b ps x k e =
    let f : edges b x - crossing x ps ≡ k = omega arith in
    difference (edges b x) (crossing x ps) ∙ rw (le-ltb (edges b x) (crossing x ps) (omega arith), f) refl

never_below : (k : ℕ) → T (lt_z (pos k) (pos 0)) → ⊥
never_below k t = clash ((T_true (ltb k 0)).0 t) (le-ltb k 0 (omega arith))

-- a cut is overfull exactly when it has fewer edges than nets that cross it
pub overfull_more : (b : Board) (ps : List Pair) (x : Cut) → Overfull b ps x ↔ (edges b x < crossing x ps)
overfull_more b ps x = (
  λ h. elim (le_or_lt (crossing x ps) (edges b x)) [
    | inl p ↦ absurd (never_below (edges b x - crossing x ps)
        (subst (λ (z : ℤ). T (lt_z z (pos 0))) (margin_above b ps x (edges b x - crossing x ps) (omega arith)) h.lt))
    | inr p ↦ p
  ],
  λ p. record { lt = subst (λ (z : ℤ). T (lt_z z (pos 0))) (sym (margin_below b ps x (crossing x ps - suc (edges b x)) (omega arith))) tt },
)

-- ── the tally of a cut ──
pub with-held : (t : Tally) (x : Cut) (h : Held) → ((with_held t x h).edges ≡ t.edges) × ((with_held t x h).nets ≡ t.nets + held_crosses x h)
with-held t x None = (refl, omega arith)
with-held t x (Some p) = go (crosses x p)
  where
    go : (c : Bool) → ((cond c (record { edges = t.edges; nets = t.nets + 1 }) t).edges ≡ t.edges)
        × ((cond c (record { edges = t.edges; nets = t.nets + 1 }) t).nets ≡ t.nets + one c)
    go true = (refl, refl)
    go false = (refl, omega arith)

pub held_crosses_le : (x : Cut) (h : Held) → held_crosses x h ≤ 1
held_crosses_le x None = omega arith
held_crosses_le x (Some p) = one_le (crosses x p)

pub edges_count : (b : Board) (x : Cut) → edges b x ≡ count 32 (cut_edge b x)
unfolding edges
edges_count b (Row i) = refl
edges_count b (Column j) = refl

-- crossing nets are a sum over the nets
pub crossing_tally : (x : Cut) (ps : List Pair) → crossing x ps ≡ tally (λ p. one (crosses x p)) ps
unfolding crossing tally
crossing_tally x [] = refl
crossing_tally x (p ∷ ps) = ap (λ (n : ℕ). one (crosses x p) + n) (crossing_tally x ps)

-- the margin of a tally
pub margin_tally : (b : Board) (ps : List Pair) (x : Cut) (t : Tally) → TallyOf b ps x t → pos t.edges -ℤ pos t.nets ≡ margin b ps x
unfolding margin
margin_tally b ps x t h = rw (h.edges_are, h.nets_are) refl
