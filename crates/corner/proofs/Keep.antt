-- What every step has to show: the margin of one cut before and after it, and the terminals at a vertex.
-- Assumes the facts on one cut that each law names.
use Rattle.std.specs.Prelude.{◌≡◌, Bool, false, List, ◌⊎◌, ℕ, ◌+◌, ◌-◌, ◌*◌, ◌≤◌}
use Rattle.std.proofs.Common.{ap, inl, inr, arith}
use Rattle.count.specs.Truth.{one}
use Rattle.count.specs.TruthLaws.{le_or_lt}
use Rattle.board.specs.Board.{at}
use Rattle.net.specs.declared.Pair.{Pair}
use Rattle.net.specs.Terminals.{same}
use Rattle.cut.specs.declared.Cut.{Cut}
use Rattle.cut.specs.declared.Cut.TheVariants.{Row, Column}
use Rattle.cut.specs.Cut.{side}
use Rattle.count.specs.Bits.{eq_case, one_false}
use Rattle.corner.specs.Pairs.{apart, astray, All, leaving, standing}
use Rattle.net.specs.Same.{same_sym}
use Rattle.corner.proofs.Apart.{apart_sym, detour}
use Rattle.corner.specs.Shape.{Shape, present, At, Here, deg, cap, Shaped, Fits, Good, Roomy, Full, start, UL, NUL, BUL, top_cut, left_cut, Less}
use Rattle.corner.proofs.Presence.{present_yes, present_true, less_bit, less_still, deg_less}
use Rattle.corner.proofs.Delete.{touch_corner}

-- an even margin
abbrev pub Margin : ℕ → ℕ → Type 0
Margin e d = (k : ℕ) × (e ≡ d + 2 * k)

-- ── the margin of one cut, by bits: u the corner, n and d its neighbours ──
pub move_cut : (u w s : Bool) (E E' D k : ℕ) → E ≡ E' + apart u w → E ≡ apart u s + D + 2 * k → astray u w s ≤ k → Margin E' (apart w s + D)
move_cut u w s E E' D k h i j = (k - astray u w s, omega (arith, detour u w s))

pub split_cut : (u n d s t : Bool) (E E' D k : ℕ) → E ≡ E' + apart u n + apart u d → E ≡ apart u s + (apart u t + D) + 2 * k
    → astray u n s + astray u d t ≤ k
    → Margin E' (apart n s + (apart d t + D))
split_cut u n d s t E E' D k h i j = (k - (astray u n s + astray u d t), omega (arith, detour u n s, detour u d t))

pub helper_cut : (u n d : Bool) (E E' D k : ℕ) → E ≡ E' + apart u n + apart u d → E ≡ D + 2 * k → apart n d + astray n u d ≤ k
    → Margin E' (apart n d + D)
helper_cut u n d E E' D k h i j = (k - (apart n d + astray n u d), omega (arith, detour n u d, apart_sym u n))

pub divide_cut : (u n d p q : Bool) (E E' D k : ℕ) → E ≡ E' + apart u n + apart u d → E ≡ apart p q + D + 2 * k
    → astray p n u + astray p u d + astray p d q ≤ k
    → Margin E' (apart p n + (apart d q + D))
divide_cut u n d p q E E' D k h i j = (
  k - (astray p n u + astray p u d + astray p d q),
  omega (arith, detour p n u, detour p u d, detour p d q, apart_sym u n),
)

pub keep : (S S' : Shape) (ps ps' : List Pair) → Good S ps → Shaped S' → Less S S' (UL S) → All (Here S') ps'
    → ((l c : ℕ) → At S l c → same (at l c) (UL S) ≡ false
    → standing (same (at l c)) ps' ≡ standing (same (at l c)) ps + (one (same (at l c) (NUL S)) + one (same (at l c) (BUL S))))
    → ((X : Cut) → Margin (cap (present S') X) (leaving (side X) ps')) → Good S' ps'
keep S S' ps ps' G H L st en cu = record {
  shaped = H;
  stand = st;
  even = λ l c h. go l c h;
  cuts = cu;
}
  where
    go : (l c : ℕ) → At S' l c → Fits (deg (present S') l c + standing (same (at l c)) ps')
    go l c h =
        let p = present_yes S' l c h in
        let h' : At S l c = present_true S l c (less_still S S' (UL S) L l c p) in
        let f : same (at l c) (UL S) ≡ false = one_false (same (at l c) (UL S))
        (λ e. omega (arith, ap one p, ap one (present_yes S l c h'), less_bit S S' (UL S) L l c, ap one (same_sym (at l c) (UL S)))) in
        let k = G.even l c h' in
        (k.0, omega (arith, k.1, deg_less S S' (UL S) L l c, touch_corner S l c h', en l c h' f), k.2)

-- margins are even: a cut that has an edge to spare has two
pub roomy_two : (S : Shape) (ps : List Pair) (G : Good S ps) (X : Cut) → Roomy S ps X → 1 ≤ (G.cuts X).0
roomy_two S ps G X h = omega (arith, (G.cuts X).1)

pub full_none : (S : Shape) (ps : List Pair) (G : Good S ps) (X : Cut) → Full S ps X → (G.cuts X).0 ≡ 0
full_none S ps G X h = omega (arith, (G.cuts X).1)

pub cut_case : (S : Shape) (ps : List Pair) → Good S ps → (X : Cut) → Full S ps X ⊎ Roomy S ps X
cut_case S ps G X = elim (le_or_lt (G.cuts X).0 0) [ inl h ↦ inl (omega (arith, (G.cuts X).1)) | inr h ↦ inr (omega (arith, (G.cuts X).1)) ]

-- the cuts next to the corner, and all others
pub by_cut : (S : Shape) (P : Cut → Type 0) → P (top_cut S) → ((r : ℕ) → (r ≡ S.top → ⊥) → P (Row r))
    → P (left_cut S) → ((y : ℕ) → (y ≡ start S → ⊥) → P (Column y)) → (X : Cut) → P X
by_cut S P h1 h2 h3 h4 (Row r) = elim (eq_case r S.top) [ inl e ↦ rw e.2 h1 | inr e ↦ h2 r e.2 ]
by_cut S P h1 h2 h3 h4 (Column y) = elim (eq_case y (start S)) [ inl e ↦ rw e.2 h3 | inr e ↦ h4 y e.2 ]
