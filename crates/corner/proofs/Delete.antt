-- The shape without its upper left corner: it is shaped, it has one vertex less, and which degrees and cuts lose an edge.
-- Assumes that the shape is Shaped, and where the top line loses a vertex that every line contains the top line.
use Rattle.std.specs.Prelude.{◌≡◌, refl, Bool, true, false, ◌&&◌, ◌⊎◌, ℕ, zero, suc, ◌+◌, ◌*◌, ◌<◌, leb, eqb}
use Rattle.std.proofs.Common.{ap, ◌∙◌, sym, inl, inr, arith, ne_eqb}
use Rattle.count.specs.Truth.{one}
use Rattle.count.specs.TruthLaws.{clash}
use Rattle.count.specs.Sum.{sum, sum_eq}
use Rattle.board.specs.Board.{at}
use Rattle.net.specs.Terminals.{same}
use Rattle.cut.specs.declared.Cut.{Cut}
use Rattle.cut.specs.declared.Cut.TheVariants.{Row, Column}
use Rattle.cut.specs.Cut.{side}
use Rattle.count.specs.Bits.{Yes, No, eq_case, and_bit, eqb_sym, eqb_suc}
use Rattle.count.specs.Sums.{sum_at}
use Rattle.corner.specs.Pairs.{apart}
use Rattle.corner.proofs.Apart.{apart_same, apart_here, apart_elsewhere}
use Rattle.corner.specs.Shape.{size, Shape, present, At, vertices, behind, cap, Shaped, start, finish, Top, UL, NUL, BUL, narrow, lower, Less}
use Rattle.corner.proofs.Presence.{present_yes, present_no, present_eq, corner_at, at_corner, less_same, touch}

-- where a line of the narrowed shape starts
narrow_starts : (S : Shape) (l : ℕ) → ((l ≡ S.top) × (S.a l + one (eqb l S.top) ≡ suc (start S))) ⊎
    ((l ≡ S.top → ⊥) × (S.a l + one (eqb l S.top) ≡ S.a l))
narrow_starts S l = elim (eq_case l S.top) [
  | inl e ↦ inl (e.2, omega (arith, ap S.a e.2, e.1))
  | inr e ↦ inr (e.2, omega (arith, e.1))
]

pub narrow_shaped : (S : Shape) → Shaped S → Top S → start S < finish S → Shaped (narrow S)
narrow_shaped S G T w = record {
  order = G.order;
  full = λ l h. elim (narrow_starts S l) [ inl e ↦ omega (arith, ap S.b e.0) | inr e ↦ omega (arith, G.full l h) ];
  low = G.low;
  thin = G.thin;
  between_left = λ i j k t l m h. elim (narrow_starts S j) [
    | inl e ↦ absurd (omega arith)
    | inr e ↦ elim (narrow_starts S k) [
      | inl f ↦ absurd (omega arith)
      | inr f ↦ omega (arith, G.between_left i j k t l m h)
    ]
  ];
  between_right = G.between_right;
  nested = λ i j h k. elim (narrow_starts S i) [
    | inl e ↦ elim (narrow_starts S j) [
      | inl f ↦ inl (omega arith, omega (arith, ap S.b e.0, ap S.b f.0))
      | inr f ↦ inr (omega (arith, T j k), omega (arith, T j k, ap S.b e.0))
    ]
    | inr e ↦ elim (narrow_starts S j) [
      | inl f ↦ inl (omega (arith, T i h), omega (arith, T i h, ap S.b f.0))
      | inr f ↦ elim (G.nested i j h k) [ inl g ↦ inl (omega arith, g.1) | inr g ↦ inr (omega arith, g.1) ]
    ]
  ];
}

pub lower_shaped : (S : Shape) → Shaped S → S.top < S.bottom → Shaped (lower S)
lower_shaped S G w = record {
  order = w;
  full = λ l h. G.full l (omega arith);
  low = G.low;
  thin = λ l h. G.thin l (omega arith);
  between_left = λ i j k t l m h. G.between_left i j k (omega arith) l m h;
  between_right = λ i j k t l m h. G.between_right i j k (omega arith) l m h;
  nested = λ i j h k. G.nested i j (omega arith) (omega arith);
}

pub narrow_less : (S : Shape) → Shaped S → start S < finish S → Less S (narrow S) (UL S)
narrow_less S G w = record {
  others = λ l c e. present_eq (narrow S) S l c
      (λ h. record { low = h.low; high = h.high; from = omega (arith, h.from); to = h.to })
      (λ h. record {
        low = h.low;
        high = h.high;
        from = elim (narrow_starts S l) [
          | inl f ↦ elim (eq_case c (start S)) [
            | inl g ↦ absurd (clash (at_corner S (at l c) f.0 g.2) e)
            | inr g ↦
                omega (arith, g.2, h.from, ap S.a f.0)
          ]
          | inr f ↦ omega (arith, h.from)
        ];
        to = h.to;
      });
  gone = present_no (narrow S) S.top (start S) (λ h. elim (narrow_starts S S.top) [ inl f ↦ omega (arith, h.from) | inr f ↦ f.0 refl ]);
  was = present_yes S S.top (start S) (corner_at S G);
}

pub lower_less : (S : Shape) → Shaped S → start S ≡ finish S → Less S (lower S) (UL S)
lower_less S G w = record {
  others = λ l c e. present_eq (lower S) S l c
      (λ h. record { low = omega (arith, h.low); high = h.high; from = h.from; to = h.to })
      (λ h. record {
        low = elim (eq_case l S.top) [
          | inl f ↦ absurd (clash (at_corner S (at l c) f.2 (omega (arith, h.from, h.to, ap S.a f.2, ap S.b f.2))) e)
          | inr f ↦ omega (arith, f.2, h.low)
        ];
        high = h.high;
        from = h.from;
        to = h.to;
      });
  gone = present_no (lower S) S.top (start S) (λ h. omega (arith, h.low));
  was = present_yes S S.top (start S) (corner_at S G);
}

-- the number of vertices falls by one
pub fewer : (S S' : Shape) → Shaped S → Less S S' (UL S) → vertices S ≡ vertices S' + 1
unfolding vertices
fewer S S' G L = sum_at size S.top 1 _ _ (omega (arith, G.low, G.order))
    (λ l e. sum_eq size _ _ (λ c h. ap one (sym (less_same S S' L l c (λ p q. e p)))))
    (sum_at size (start S) 1 _ _ (omega (arith, G.thin S.top (omega (arith, G.order)), G.full S.top (omega (arith, G.order))))
    (λ c e. ap one (sym (less_same S S' L S.top c (λ p q. e q))))
    (rw (L.was, L.gone)))

-- ── edges ──
-- the neighbours of the corner
pub touch_corner : (S : Shape) (l c : ℕ) → At S l c → touch (UL S) l c ≡ one (same (at l c) (NUL S)) + one (same (at l c) (BUL S))
unfolding touch
touch_corner S l c h = omega (arith, right, down, left c, up l)
  where
    right : one (same (UL S) (at l (suc c))) ≡ 0
    right = elim (eq_case S.top l) [
      | inl e ↦ elim (eq_case (start S) (suc c)) [
        | inl f ↦ absurd (omega (arith, h.from, f.2, ap S.a e.2))
        | inr f ↦ omega (arith, f.1, and_bit (eqb S.top l) (eqb (start S) (suc c)))
      ]
      | inr e ↦ omega (arith, e.1, and_bit (eqb S.top l) (eqb (start S) (suc c)))
    ]

    down : one (same (UL S) (at (suc l) c)) ≡ 0
    down = elim (eq_case S.top (suc l)) [
      | inl e ↦ absurd (omega (arith, h.low, e.2))
      | inr e ↦ omega (arith, e.1, and_bit (eqb S.top (suc l)) (eqb (start S) c))
    ]

    left : (k : ℕ) → one (behind (λ j. same (UL S) (at l j)) k) ≡ one (same (at l k) (NUL S))
    left zero = omega (arith, ap one (ne_eqb 0 (suc (start S)) (λ e. omega arith)), and_bit (eqb l S.top) (eqb 0 (suc (start S))))
    left (suc k) = rw (eqb_suc k (start S), eqb_sym k (start S), eqb_sym l S.top)

    up : (k : ℕ) → one (behind (λ j. same (UL S) (at j c)) k) ≡ one (same (at k c) (BUL S))
    up zero = omega (arith, ap one (ne_eqb 0 (suc S.top) (λ e. omega arith)), and_bit (eqb 0 (suc S.top)) (eqb c (start S)))
    up (suc k) = rw (eqb_suc k S.top, eqb_sym k S.top, eqb_sym c (start S))

-- of a cut, over any set with one vertex (i, j) less: a cut that is not next to it, and the one that is
slots_other : (p p' : ℕ → ℕ → Bool) (i j : ℕ) → ((l c : ℕ) → (l ≡ i → c ≡ j → ⊥) → p' l c ≡ p l c) → ((l : ℕ) → suc l ≡ i → p l j ≡ false)
    → (r : ℕ) → (r ≡ i → ⊥) → sum size (λ c. one (p r c && p (suc r) c)) ≡ sum size (λ c. one (p' r c && p' (suc r) c))
slots_other p p' i j others before r d = sum_eq size _ _ (λ c h. go c (eq_case (suc r) i) (eq_case c j))
  where
    go : (c : ℕ) → Yes (eqb (suc r) i) (suc r ≡ i) ⊎ No (eqb (suc r) i) (suc r ≡ i → ⊥) → Yes (eqb c j) (c ≡ j) ⊎ No (eqb c j) (c ≡ j → ⊥)
        → one (p r c && p (suc r) c) ≡ one (p' r c && p' (suc r) c)
    go c (inl e) (inl f) =
        let z : p r c ≡ false = rw f.2 (before r e.2) in
        let z' : p' r c ≡ false = others r c (λ k. absurd (d k)) ∙ z in
        rw (z, z')
    go c (inl e) (inr f) = rw (others r c (λ k. absurd (d k)), others (suc r) c (λ k g. f.2 g))
    go c (inr e) f = rw (others r c (λ k. absurd (d k)), others (suc r) c (λ k g. e.2 k))

slots_here : (p p' : ℕ → ℕ → Bool) (i j : ℕ) → ((l c : ℕ) → (l ≡ i → c ≡ j → ⊥) → p' l c ≡ p l c) → p i j ≡ true → p' i j ≡ false → j < size
    → sum size (λ c. one (p i c && p (suc i) c)) ≡ sum size (λ c. one (p' i c && p' (suc i) c)) + one (p (suc i) j)
slots_here p p' i j others was gone h = sum_at size j (one (p (suc i) j)) _ _ h
    (λ c e. rw (others i c (λ k g. e g), others (suc i) c (λ k g. e g)))
    (rw (was, gone) (omega arith))

-- of a cut: those that the corner takes with it
pub cap_less : (S S' : Shape) → Shaped S → Less S S' (UL S) → (X : Cut) (n d : ℕ)
    → one (present S S.top (suc (start S))) ≡ n → one (present S (suc S.top) (start S)) ≡ d
    → cap (present S) X ≡ cap (present S') X + apart (side X (UL S)) (side X (NUL S)) * n + apart (side X (UL S)) (side X (BUL S)) * d
unfolding cap
cap_less S S' G L (Row r) n d en ed = rw (apart_same (leb S.top r) (leb S.top r) refl) (elim (eq_case r S.top) [
  | inl e ↦ rw (e.2, apart_here S.top) (omega (
    arith,
    slots_here (present S) (present S') S.top (start S) (less_same S S' L) L.was L.gone
        (omega (arith, G.thin S.top (omega (arith, G.order)), G.full S.top (omega (arith, G.order)))),
  ))
  | inr e ↦ rw (apart_elsewhere S.top r e.2) (omega (
    arith,
    slots_other (present S) (present S') S.top (start S) (less_same S S' L)
        (λ l f. present_no S l (start S) (λ h. omega (arith, h.low))) r e.2,
  ))
])
cap_less S S' G L (Column y) n d en ed = rw (apart_same (leb (start S) y) (leb (start S) y) refl) (elim (eq_case y (start S)) [
  | inl e ↦ rw (e.2, apart_here (start S)) (omega (
    arith,
    slots_here (λ c l. present S l c) (λ c l. present S' l c) (start S) S.top
        (λ c l h. less_same S S' L l c (λ p q. h q p)) L.was L.gone (omega (arith, G.low, G.order)),
  ))
  | inr e ↦ rw (apart_elsewhere (start S) y e.2) (omega (
    arith,
    slots_other (λ c l. present S l c) (λ c l. present S' l c) (start S) S.top
        (λ c l h. less_same S S' L l c (λ p q. h q p))
        (λ c f. present_no S S.top c (λ h. omega (arith, h.from))) y e.2,
  ))
])
