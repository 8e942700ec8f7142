-- Odd vertices are joined in pairs by helper pairs: a problem whose vertices may be odd has a routing exactly when some such pairing keeps every cut.
-- Assumes a shaped board and at most 4 edges and terminals together at each vertex.
use Rattle.std.specs.Prelude.{◌≡◌, true, false, ◌&&◌, List, [], ◌∷◌, ◌++◌, ◌⊎◌, ℕ, zero, suc, ◌+◌, ◌≤◌, ◌<◌}
use Rattle.std.proofs.Common.{ap, sym, subst, append_assoc, inl, inr, arith}
use Rattle.count.specs.Truth.{one}
use Rattle.count.specs.TruthLaws.{bool, clash, and_true, one_le}
use Rattle.count.specs.Sum.{sum}
use Rattle.board.specs.Board.{at}
use Rattle.board.specs.declared.Vertex.{Vertex}
use Rattle.net.specs.declared.Pair.{Pair}
use Rattle.net.specs.Terminals.{same}
use Rattle.count.specs.Parity.{odd_number, odd_case}
use Rattle.count.specs.Bits.{one_true, one_false}
use Rattle.count.specs.Sums.{sum_le, sum_none, sum_get, sum_lt, zero_or_some}
use Rattle.corner.specs.Pairs.{pair, tally, standing}
use Rattle.net.specs.Same.{same_true, same_self}
use Rattle.corner.proofs.Tallies.{all_append, standing_cons, standing_nil, standing_append}
use Rattle.corner.specs.Shape.{size, Shape, present, Here, deg, Shaped, Good}
use Rattle.corner.specs.Placed.{Placed, CutCondition, Loose, odd_at, HelpersOn}
use Rattle.corner.proofs.Presence.{present_yes, present_true}
use Rattle.corner.specs.Trails.{joined, total, Routed, Disjoint}
use Rattle.corner.proofs.Route.{good_routed}
use Rattle.corner.proofs.CutParity.{good}
use Rattle.corner.proofs.Needed.{cuts_needed}
use Rattle.corner.proofs.Tidy.{disjoint, tidy}
use Rattle.corner.proofs.Partner.{partner}

-- ── one pair of odd vertices less ──
-- how many odd vertices there are
unfoldable odds : Shape → List Pair → ℕ
odds S ps = sum size (λ l. sum size (λ c. one (present S l c && odd_at S ps (at l c))))

-- one terminal more makes an odd vertex even
more_even : (n n' d : ℕ) → n' ≡ n + 1 → odd_number n ≡ true → d ≡ 1 → one (odd_number n) ≡ one (odd_number n') + d
more_even n n' d h o e = elim (odd_case n) [
  | inl c ↦ absurd (clash o c.2)
  | inr c ↦ elim (odd_case n') [
    | inl f ↦ omega (arith, ap one o, ap one f.2)
    | inr f ↦ absurd (omega (arith, c.1, f.1))
  ]
]

-- the vertices that are odd after v and w are joined: all but these two
odd_after : (S : Shape) (ps : List Pair) (v w x : Vertex) → same v w ≡ false → odd_at S ps v ≡ true → odd_at S ps w ≡ true
    → one (odd_at S ps x) ≡ one (odd_at S (pair v w ∷ ps) x) + (one (same x v) + one (same x w))
odd_after S ps v w x d ov ow =
    let e = standing_cons (same x) v w ps in
    elim (bool (same x v)) [
      | inl a ↦
          let p = same_true x v a in
          let o : odd_at S ps x ≡ true = subst (λ u. odd_at S ps u ≡ true) (sym p) ov in
          let b : same x w ≡ false = subst (λ u. same u w ≡ false) (sym p) d in
          more_even (deg (present S) x.line x.column + standing (same x) ps)
          (deg (present S) x.line x.column + standing (same x) (pair v w ∷ ps)) _ (omega (arith, ap one a, ap one b)) o
          (omega (arith, ap one a, ap one b))
      | inr a ↦ elim (bool (same x w)) [
        | inl b ↦
            let p = same_true x w b in
            let o : odd_at S ps x ≡ true = subst (λ u. odd_at S ps u ≡ true) (sym p) ow in
            more_even (deg (present S) x.line x.column + standing (same x) ps)
            (deg (present S) x.line x.column + standing (same x) (pair v w ∷ ps)) _ (omega (arith, ap one a, ap one b)) o
            (omega (arith, ap one a, ap one b))
        | inr b ↦
            let q : standing (same x) ps ≡ standing (same x) (pair v w ∷ ps) = omega (arith, ap one a, ap one b) in
            omega (arith, ap (λ n. one (odd_number (deg (present S) x.line x.column + n))) q, ap one a, ap one b)
      ]
    ]

odds_fall : (S : Shape) → Shaped S → (ps : List Pair) (v w : Vertex) → Here S v → same v w ≡ false → odd_at S ps v ≡ true → odd_at S ps w ≡ true
    → odds S (pair v w ∷ ps) < odds S ps
unfolding odds
odds_fall S G ps v w hv d ov ow = sum_lt size v.line _ _
    (λ l i. sum_le size _ _ (λ c j. bit l c))
    (omega (arith, hv.high, G.low))
    (sum_lt size v.column _ _ (λ c j. bit v.line c) (omega (arith, hv.to, G.thin v.line (hv.low, hv.high)))
    (rw (present_yes S v.line v.column hv) (omega (arith, odd_after S ps v w v d ov ow, ap one ov, ap one (same_self v)))))
  where
    bit : (l c : ℕ) → one (present S l c && odd_at S (pair v w ∷ ps) (at l c)) ≤ one (present S l c && odd_at S ps (at l c))
    bit l c = elim (bool (present S l c)) [
      | inl e ↦ rw e (omega (arith, odd_after S ps v w (at l c) d ov ow))
      | inr e ↦ rw e (omega arith)
    ]

odd_vertex : (S : Shape) → Shaped S → (ps : List Pair)
    → ((x : Vertex) → Here S x → odd_at S ps x ≡ false) ⊎ ((v : Vertex) × Here S v × (odd_at S ps v ≡ true))
odd_vertex S G ps = elim (zero_or_some size (λ l. sum size (bit l))) [
  | inl z ↦ inl (λ x h. one_false (odd_at S ps x) (λ o.
      let p = present_yes S x.line x.column h in
      let y : one (present S x.line x.column && odd_at S ps x) ≡ 1 = rw p o in
      omega (
        arith,
        sum_get size x.column (bit x.line) (omega (arith, h.to, G.thin x.line (h.low, h.high))),
        z x.line (omega (arith, h.high, G.low)),
      )))
  | inr f ↦ elim (zero_or_some size (bit f.0)) [
    | inl z ↦ absurd (omega (arith, f.2, sum_none size (bit f.0) z))
    | inr g ↦
        let k = and_true (present S f.0 g.0) (odd_at S ps (at f.0 g.0))
        (one_true _ (omega (arith, g.2, one_le (present S f.0 g.0 && odd_at S ps (at f.0 g.0))))) in
        inr (at f.0 g.0, present_true S f.0 g.0 k.0, k.1)
  ]
]
  where
    bit : ℕ → ℕ → ℕ
    bit l c = one (present S l c && odd_at S ps (at l c))

-- helper pairs and a routing of the nets with them
abbrev PairedOn : Shape → List Pair → Type 0
PairedOn S ps = (hs : List Pair) × HelpersOn S ps hs × Routed (joined S) (hs ++ ps)

paired_none : (S : Shape) (ps : List Pair) → Routed (joined S) ps → ((x : Vertex) → Here S x → odd_at S ps x ≡ false) → PairedOn S ps
unfolding standing tally
paired_none S ps R z = ([], record { stand = tt; each = λ x h. sym (ap one (z x h)) }, R)

paired_more : (S : Shape) (ps : List Pair) (v w : Vertex) → Here S v → Here S w → same v w ≡ false → odd_at S ps v ≡ true → odd_at S ps w ≡ true
    → PairedOn S (pair v w ∷ ps) → PairedOn S ps
paired_more S ps v w hv hw d ov ow P = (
  P.0 ++ (pair v w ∷ []),
  record {
    stand = all_append (Here S) P.0 (pair v w ∷ []) P.1.stand (hv, hw, tt);
    each = λ x h. omega (
      arith,
      standing_append (same x) P.0 (pair v w ∷ []),
      standing_cons (same x) v w [],
      standing_nil (same x),
      P.1.each x h,
      odd_after S ps v w x d ov ow,
    );
  },
  subst (λ qs. Routed (joined S) qs) (sym (append_assoc P.0 (pair v w ∷ []) ps)) P.2,
)

pair-up : (S : Shape) → Shaped S → (n : ℕ) (ps : List Pair) → Routed (joined S) ps → odds S ps ≤ n → PairedOn S ps
pair-up S G zero ps R m = elim (odd_vertex S G ps) [
  | inl z ↦ paired_none S ps R z
  | inr v ↦ let p = partner S G ps R v.0 v.1 v.2 in absurd (omega (arith, odds_fall S G ps v.0 p.0 v.1 p.2 v.2 p.3))
]
pair-up S G (suc n) ps R m = elim (odd_vertex S G ps) [
  | inl z ↦ paired_none S ps R z
  | inr v ↦
      let p = partner S G ps R v.0 v.1 v.2 in
      paired_more S ps v.0 p.0 v.1 p.1 p.2 v.2 p.3
      (pair-up S G n (pair v.0 p.0 ∷ ps) p.4 (omega (arith, odds_fall S G ps v.0 p.0 v.1 p.2 v.2 p.3)))
]

-- the nets alone
unpair : (S : Shape) (hs ps : List Pair) → Routed (joined S) (hs ++ ps) → Routed (joined S) ps
unfolding total
unpair S [] ps R = R
unpair S (p ∷ hs) ps R = unpair S hs ps (record { trails = R.trails.1; once = λ e. omega (arith, R.once e) })

helped : (S : Shape) (ps hs : List Pair) → Loose S ps → HelpersOn S ps hs → Placed S (hs ++ ps)
helped S ps hs B H = record {
  shaped = B.shaped;
  stand = all_append (Here S) hs ps H.stand B.stand;
  even = λ l c h.
      let e = standing_append (same (at l c)) hs ps in let f = B.few l c h in let g = H.each (at l c) h in
      elim (odd_case (deg (present S) l c + standing (same (at l c)) ps)) [
        | inl k ↦ (k.0, omega (arith, k.1, ap one k.2), omega (arith, k.1))
        | inr k ↦ (suc k.0, omega (arith, k.1, ap one k.2), omega (arith, k.1))
      ];
}

-- trails exist exactly when some pairing of the odd vertices keeps every cut, and then there is a routing
pub paired_cuts : (S : Shape) (ps : List Pair) → Loose S ps → Disjoint (joined S) ps
    → (hs : List Pair) × HelpersOn S ps hs × CutCondition S (hs ++ ps)
paired_cuts S ps B D =
    let p = pair-up S B.shaped (odds S ps) ps (tidy (joined S) ps D) (omega arith) in
    (p.0, p.1, cuts_needed S (p.0 ++ ps) B.shaped (disjoint (joined S) (p.0 ++ ps) p.2))

pub paired_good : (S : Shape) (ps hs : List Pair) → Loose S ps → HelpersOn S ps hs → CutCondition S (hs ++ ps) → Good S (hs ++ ps)
paired_good S ps hs B H C = good S (hs ++ ps) (helped S ps hs B H) C

pub paired_routed : (S : Shape) (ps hs : List Pair) → Loose S ps → HelpersOn S ps hs → CutCondition S (hs ++ ps) → Routed (joined S) ps
paired_routed S ps hs B H C = unpair S hs ps (good_routed S (hs ++ ps) (paired_good S ps hs B H C))
