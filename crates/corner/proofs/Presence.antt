-- What is present on a shape: the test and the place, neighbours, every line contains the top line, and one vertex less.
-- Assumes, where it says so, that the shape is Shaped.
use Rattle.std.specs.Prelude.{◌≡◌, refl, true, false, ◌&&◌, ℕ, zero, suc, ◌+◌, ◌-◌, ◌≤◌, ◌<◌, leb}
use Rattle.std.proofs.Common.{ap, ◌∙◌, sym, inl, inr, arith, leb-true, le-leb, eq-eqb}
use Rattle.count.specs.Truth.{one}
use Rattle.count.specs.TruthLaws.{bool, not_true, bool_eq, and_true, and_yes, one_le}
use Rattle.board.specs.Board.{at}
use Rattle.board.specs.declared.Vertex.{Vertex}
use Rattle.net.specs.Terminals.{same}
use Rattle.count.specs.Bits.{eq_case, one_true}
use Rattle.net.specs.Same.{same_true}
use Rattle.corner.specs.Shape.{size, last, Shape, present, At, Here, behind, deg, Shaped, start, finish, Top, UL, Less}

pub last_suc : suc last ≡ size
unfolding last size
last_suc = refl

pub present_yes : (S : Shape) (l c : ℕ) → At S l c → present S l c ≡ true
unfolding present
present_yes S l c h = rw (le-leb S.top l h.low, le-leb l S.bottom h.high, le-leb (S.a l) c h.from, le-leb c (S.b l) h.to)

pub present_true : (S : Shape) (l c : ℕ) → present S l c ≡ true → At S l c
unfolding present
present_true S l c e =
    let k = and_true (leb S.top l && leb l S.bottom) (leb (S.a l) c && leb c (S.b l)) e in
    let i = and_true (leb S.top l) (leb l S.bottom) k.0 in
    let j = and_true (leb (S.a l) c) (leb c (S.b l)) k.1 in
    record {
      low = leb-true S.top l i.0;
      high = leb-true l S.bottom i.1;
      from = leb-true (S.a l) c j.0;
      to =
          leb-true c (S.b l) j.1;
    }

pub present_no : (S : Shape) (l c : ℕ) → (At S l c → ⊥) → present S l c ≡ false
present_no S l c h = elim (bool (present S l c)) [ inl e ↦ absurd (h (present_true S l c e)) | inr e ↦ e ]

-- equal presence from two implications on places
pub present_eq : (S S' : Shape) (l c : ℕ) → (At S l c → At S' l c) → (At S' l c → At S l c) → present S l c ≡ present S' l c
present_eq S S' l c f g = bool_eq _ _ (λ e. present_yes S' l c (f (present_true S l c e))) (λ e. present_yes S l c (g (present_true S' l c e)))

pub present_one : (S : Shape) (l c : ℕ) → S.top ≤ l → l ≤ S.bottom → S.a l ≤ c → c ≤ S.b l → one (present S l c) ≡ 1
present_one S l c h i j k = ap one (present_yes S l c (record { low = h; high = i; from = j; to = k }))

-- the left and the upper neighbour, if there are any
pub behind_left : (S : Shape) (l c : ℕ) → S.top ≤ l → l ≤ S.bottom → S.a l < c → c ≤ suc (S.b l) → one (behind (present S l) c) ≡ 1
behind_left S l zero h i j k = absurd (omega arith)
behind_left S l (suc c) h i j k = present_one S l c h i (omega arith) (omega arith)

-- nothing is before the first line or the first column of the top line
pub behind_above : (S : Shape) (c n : ℕ) → n ≡ S.top → one (behind (λ k. present S k c) n) ≡ 0
behind_above S c zero e = refl
behind_above S c (suc n) e = ap one (present_no S n c (λ h. omega (arith, h.low)))

pub behind_before : (S : Shape) (n : ℕ) → n ≡ start S → one (behind (present S S.top) n) ≡ 0
behind_before S zero e = refl
behind_before S (suc n) e = ap one (present_no S S.top n (λ h. omega (arith, h.from)))

-- ── the corner's place ──
pub corner_at : (S : Shape) → Shaped S → At S S.top (start S)
corner_at S G = record { low = omega arith; high = G.order; from = omega arith; to = G.full S.top (omega (arith, G.order)) }

pub at_corner : (S : Shape) (u : Vertex) → u.line ≡ S.top → u.column ≡ start S → same (UL S) u ≡ true
at_corner S u p q = and_yes _ _ (eq-eqb S.top u.line (sym p)) (eq-eqb (start S) u.column (sym q))

pub off_corner : (S : Shape) (u : Vertex) → (u.line ≡ S.top → u.column ≡ start S → ⊥) → same (UL S) u ≡ false
off_corner S u h = not_true (same (UL S) u) (λ e. let k = same_true (UL S) u e in h (sym (ap (λ v. v.line) k)) (sym (ap (λ v. v.column) k)))

-- no other vertex is on the top line and not right of the corner
pub corner_here : (S : Shape) (u : Vertex) → Here S u → u.line ≤ S.top → u.column ≤ start S → same (UL S) u ≡ true
corner_here S u h i j = let p : u.line ≡ S.top = omega (arith, h.low) in at_corner S u p (omega (arith, h.from, ap S.a p))

-- ── the top line is in every line, if it is not wider than the bottom line ──
pub top_in : (S : Shape) → Shaped S → finish S - start S ≤ S.b S.bottom - S.a S.bottom → Top S
top_in S G w l h =
    let o = G.order in
    let e : (S.a S.bottom ≤ start S) × (finish S ≤ S.b S.bottom) = elim (G.nested S.top S.bottom (omega arith) (omega arith)) [
      | inl i ↦ omega (arith, G.full S.top (omega arith), G.full S.bottom (omega arith))
      | inr i ↦ i
    ] in
    elim (eq_case l S.top) [
      | inl q ↦ rw q.2 (omega arith)
      | inr q ↦ elim (eq_case l S.bottom) [
        | inl p ↦ rw p.2 e
        | inr p ↦
            let i = G.between_left S.top l S.bottom (omega arith) (omega (arith, q.2)) (omega (arith, p.2)) (omega arith) in
            let j = G.between_right S.top l S.bottom (omega arith) (omega (arith, q.2)) (omega (arith, p.2)) (omega arith) in
            omega arith
      ]
    ]

-- ── one vertex less ──
pub less_bit : (S S' : Shape) (u : Vertex) → Less S S' u → (l c : ℕ) → one (present S l c) ≡ one (present S' l c) + one (same u (at l c))
less_bit S S' u L l c = elim (bool (same u (at l c))) [
  | inl e ↦
      let q : u ≡ at l c = same_true u (at l c) e in
      let g : present S' l c ≡ false = rw q at L.gone in
      let w : present S l c ≡ true = rw q at L.was in
      omega (arith, ap one g, ap one w, ap one e)
  | inr e ↦ omega (arith, ap one (L.others l c e), ap one e)
]

pub less_still : (S S' : Shape) (u : Vertex) → Less S S' u → (l c : ℕ) → present S' l c ≡ true → present S l c ≡ true
less_still S S' u L l c e = one_true (present S l c) (omega (arith, less_bit S S' u L l c, ap one e, one_le (present S l c)))

pub less_same : (S S' : Shape) → Less S S' (UL S) → (l c : ℕ) → (l ≡ S.top → c ≡ start S → ⊥) → present S' l c ≡ present S l c
less_same S S' L l c h = L.others l c (off_corner S (at l c) h)

pub kept : (S S' : Shape) (u : Vertex) → Less S S' u → (l c : ℕ) → At S l c → same u (at l c) ≡ false → At S' l c
kept S S' u L l c h e = present_true S' l c (L.others l c e ∙ present_yes S l c h)

-- the neighbours of (l, c) that are u
unfoldable pub touch : Vertex → ℕ → ℕ → ℕ
touch u l c = one (same u (at l (suc c))) + one (same u (at (suc l) c)) + one (behind (λ k. same u (at l k)) c) + one
    (behind (λ k. same u (at k c)) l)

pub deg_less : (S S' : Shape) (u : Vertex) → Less S S' u → (l c : ℕ) → deg (present S) l c ≡ deg (present S') l c + touch u l c
unfolding deg touch
deg_less S S' u L l c = omega (arith, less_bit S S' u L l (suc c), less_bit S S' u L (suc l) c, left c, up l)
  where
    left : (k : ℕ) → one (behind (present S l) k) ≡ one (behind (present S' l) k) + one (behind (λ j. same u (at l j)) k)
    left zero = refl
    left (suc k) = less_bit S S' u L l k

    up : (k : ℕ) → one (behind (λ j. present S j c) k) ≡ one (behind (λ j. present S' j c) k) + one (behind (λ j. same u (at j c)) k)
    up zero = refl
    up (suc k) = less_bit S S' u L k c
