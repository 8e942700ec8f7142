-- From an odd vertex along unused edges until stuck, which is at another odd vertex: a trail between the two can be added to a routing.
-- Assumes that the shape is Shaped.
use Rattle.std.specs.Prelude.{◌≡◌, refl, true, false, List, [], ◌∷◌, ◌++◌, ◌⊎◌}
use Rattle.std.proofs.Common.{ap, sym, subst}
use Rattle.std.proofs.Math.Logic.{inl, inr}
use Prim.Native.Nat.{ℕ, zero, suc, ◌+◌, ◌-◌, ◌*◌, ◌≤◌}
use native.Mathlib.Omega.{arith}
use Rattle.count.specs.Truth.{one}
use Rattle.count.specs.TruthLaws.{bool, clash, not_true, and_true, one_le, le_or_lt}
use Rattle.count.specs.Sum.{sum, sum_eq}
use Rattle.board.specs.Board.{at}
use Rattle.board.specs.declared.Vertex.{Vertex}
use Rattle.net.specs.declared.Pair.{Pair}
use Rattle.net.specs.Terminals.{same}
use Rattle.count.specs.Parity.{odd_case}
use Rattle.count.specs.Bits.{one_true, one_false}
use Rattle.count.specs.Sums.{sum_at}
use Rattle.corner.specs.Pairs.{pair, standing}
use Rattle.net.specs.Same.{same_true, same_self, same_sym}
use Rattle.corner.proofs.Tallies.{standing_cons}
use Rattle.corner.specs.Shape.{size, Shape, present, Here, deg, Shaped}
use Rattle.corner.specs.Placed.{odd_at}
use Rattle.corner.proofs.Presence.{present_yes, present_true}
use Rattle.corner.specs.Trails.{Link, hor, ver, lo, hi, Ends, same_link, joined, used, Trails, total, Routed}
use Rattle.corner.proofs.TrailLaws.{link_self, link_true, link_place, used_join, walk_join}
use Rattle.corner.proofs.Needed.{joined_frame}
use Rattle.corner.proofs.Around.{prior, around, used_even, around_deg}

-- an unused edge at a vertex
abbrev Free : (S : Shape) (qs : List Pair) (ts : Trails qs) (x : Vertex) → Type 0
Free S qs ts x = (e : Link) × (w : Vertex) × Ends x w e × (joined S e ≡ true) × (total e qs ts ≡ 0)

module _ (S : Shape) (qs : List Pair) (ts : Trails qs) (ok : (e : Link) → total e qs ts ≤ one (joined S e)) where
  -- an edge is there and unused, or used or not there
  test : (e : Link) → ((joined S e ≡ true) × (total e qs ts ≡ 0)) ⊎ (one (joined S e) ≤ total e qs ts)
  test e = elim (le_or_lt (one (joined S e)) (total e qs ts)) [
    | inl h ↦ inr h
    | inr h ↦ inl (one_true (joined S e) (omega (arith, one_le (joined S e))), omega (arith, one_le (joined S e)))
  ]

  free-left : (l c k : ℕ) → c ≡ k → Free S qs ts (at l c) ⊎ (prior (λ j. one (joined S (hor l j))) k ≤ prior (λ j. total (hor l j) qs ts) k)
  free-left l c zero e = inr (omega arith)
  free-left l c (suc k) e = elim (test (hor l k)) [
    | inl f ↦ inl (hor l k, at l k, inr (ap (λ j. at l j) e, refl), f.0, f.1)
    | inr h ↦ inr h
  ]

  free_up : (l c k : ℕ) → l ≡ k → Free S qs ts (at l c) ⊎ (prior (λ j. one (joined S (ver j c))) k ≤ prior (λ j. total (ver j c) qs ts) k)
  free_up l c zero e = inr (omega arith)
  free_up l c (suc k) e = elim (test (ver k c)) [
    | inl f ↦ inl (ver k c, at k c, inr (ap (λ j. at j c) e, refl), f.0, f.1)
    | inr h ↦ inr h
  ]

  -- an odd vertex has one
  free-link : (l c : ℕ) → present S l c ≡ true → (k : ℕ) → deg (present S) l c + standing (same (at l c)) qs ≡ 2 * k + 1 → Free S qs ts (at l c)
  unfolding around
  free-link l c h k o = elim (test (hor l c)) [
    | inl f ↦ (hor l c, at l (suc c), inl (refl, refl), f.0, f.1)
    | inr h1 ↦ elim (test (ver l c)) [
      | inl f ↦ (ver l c, at (suc l) c, inl (refl, refl), f.0, f.1)
      | inr h2 ↦ elim (free-left l c c refl) [
        | inl f ↦ f
        | inr h3 ↦ elim (free_up l c l refl) [
          | inl f ↦ f
          | inr h4 ↦
              let u = used_even qs ts l c in
              let d = around_deg S l c h in
              absurd (omega (arith, u.1, le-around l c))
        ]
      ]
    ]
  ]
    where
      below : (k : ℕ) (f g : ℕ → ℕ) → ((j : ℕ) → f j ≤ g j) → prior f k ≤ prior g k
      below zero f g h = omega arith
      below (suc k) f g h = h k

      le-around : (l c : ℕ) → around (λ e. total e qs ts) l c ≤ around (λ e. one (joined S e)) l c
      le-around l c = omega (
        arith,
        ok (hor l c),
        ok (ver l c),
        below c (λ k. total (hor l k) qs ts) (λ k. one (joined S (hor l k))) (λ k. ok (hor l k)),
        below l (λ k. total (ver k c) qs ts) (λ k. one (joined S (ver k c))) (λ k. ok (ver k c)),
      )

-- ── one edge more at the end of the first trail ──
further : (S : Shape) (v x w : Vertex) (ps : List Pair) (R : Routed (joined S) (pair v x ∷ ps)) (e : Link) → Ends x w e
    → Trails (pair v w ∷ ps)
further S v x w ps R e s = (
  (
    R.trails.0.0 ++ (e ∷ []),
    walk_join v x w R.trails.0.0 (e ∷ []) R.trails.0.1 (elim s [ inl h ↦ inl (h.0, sym h.1) | inr h ↦ inr (h.0, sym h.1) ]),
  ),
  R.trails.1,
)

further_total : (S : Shape) (v x w : Vertex) (ps : List Pair) (R : Routed (joined S) (pair v x ∷ ps)) (e : Link) (s : Ends x w e) (f : Link)
    → total f (pair v w ∷ ps) (further S v x w ps R e s) ≡ total f (pair v x ∷ ps) R.trails + one (same_link f e)
unfolding total further used
further_total S v x w ps R e s f = omega (arith, used_join f R.trails.0.0 (e ∷ []))

longer : (S : Shape) (v x w : Vertex) (ps : List Pair) (R : Routed (joined S) (pair v x ∷ ps)) (e : Link) → Ends x w e
    → joined S e ≡ true → total e (pair v x ∷ ps) R.trails ≡ 0 → Routed (joined S) (pair v w ∷ ps)
longer S v x w ps R e s j z = record {
  trails = further S v x w ps R e s;
  once = λ f. elim (bool (same_link f e)) [
    | inl h ↦
        let p = link_true f e h in
        let j' : joined S f ≡ true = subst (λ g. joined S g ≡ true) (sym p) j in
        let z' : total f (pair v x ∷ ps) R.trails ≡ 0 = subst (λ g. total g (pair v x ∷ ps) R.trails ≡ 0) (sym p) z in
        omega (arith, further_total S v x w ps R e s f, ap one j', ap one h)
    | inr h ↦ omega (arith, further_total S v x w ps R e s f, R.once f, ap one h)
  ];
}

-- a trail that goes nowhere
idle : (S : Shape) (ps : List Pair) → Routed (joined S) ps → (v : Vertex) → Routed (joined S) (pair v v ∷ ps)
unfolding total used
idle S ps R v = record { trails = (([], refl), R.trails); once = λ e. omega (arith, R.once e) }

-- the edges not used
unfoldable spare : (S : Shape) (qs : List Pair) → Trails qs → ℕ
spare S qs ts = sum size (λ l. sum size (λ c. (one (joined S (hor l c)) - total (hor l c) qs ts) +
    (one (joined S (ver l c)) - total (ver l c) qs ts)))

spare_less : (S : Shape) → Shaped S → (qs qs' : List Pair) (ts : Trails qs) (ts' : Trails qs') (e : Link)
    → ((f : Link) → total f qs' ts' ≡ total f qs ts + one (same_link f e)) → joined S e ≡ true → total e qs ts ≡ 0
    → spare S qs ts ≡ spare S qs' ts' + 1
unfolding spare
spare_less S G qs qs' ts ts' e h j z =
    let f = joined_frame S G e j in
    sum_at size (lo e).line 1 _ _ f.0
    (λ l n. sum_eq size _ _ (λ c i. away l c (λ p. n (ap (λ (v : Vertex). v.line) p))))
    (sum_at size (lo e).column 1 _ _ f.1 (λ c n. away (lo e).line c (λ p. n (ap (λ (v : Vertex). v.column) p))) (place e h j z))
  where
    -- elsewhere nothing changes
    away : (l c : ℕ) → (at l c ≡ lo e → ⊥)
        → (one (joined S (hor l c)) - total (hor l c) qs ts) + (one (joined S (ver l c)) - total (ver l c) qs ts)
        ≡ (one (joined S (hor l c)) - total (hor l c) qs' ts') + (one (joined S (ver l c)) - total (ver l c) qs' ts')
    away l c n = omega (
      arith,
      h (hor l c),
      h (ver l c),
      link_place e l c,
      ap one (not_true (same (at l c) (lo e)) (λ s. n (same_true (at l c) (lo e) s))),
    )

    place : (f : Link) → ((g : Link) → total g qs' ts' ≡ total g qs ts + one (same_link g f)) → joined S f ≡ true → total f qs ts ≡ 0
        → (one (joined S (hor (lo f).line (lo f).column)) - total (hor (lo f).line (lo f).column) qs ts) +
        (one (joined S (ver (lo f).line (lo f).column)) - total (ver (lo f).line (lo f).column) qs ts)
        ≡ (one (joined S (hor (lo f).line (lo f).column)) - total (hor (lo f).line (lo f).column) qs' ts') +
        (one (joined S (ver (lo f).line (lo f).column)) - total (ver (lo f).line (lo f).column) qs' ts') + 1
    place (hor m d) k i y = omega (arith, k (hor m d), k (ver m d), ap one (link_self (hor m d)), ap one i, y)
    place (ver m d) k i y = omega (arith, k (hor m d), k (ver m d), ap one (link_self (ver m d)), ap one i, y)

joined_ends : (S : Shape) (e : Link) → joined S e ≡ true → Here S (lo e) × Here S (hi e)
joined_ends S (hor l c) j = let k = and_true (present S l c) (present S l (suc c)) j in (present_true S l c k.0, present_true S l (suc c) k.1)
joined_ends S (ver l c) j = let k = and_true (present S l c) (present S (suc l) c) j in (present_true S l c k.0, present_true S (suc l) c k.1)

-- from an odd vertex v along unused edges until stuck, which is at another odd vertex
abbrev pub Partner : (S : Shape) (ps : List Pair) → Vertex → Type 0
Partner S ps v = (w : Vertex) × Here S w × (same v w ≡ false) × (odd_at S ps w ≡ true) × Routed (joined S) (pair v w ∷ ps)

-- an even vertex is where the trail may end
stuck : (S : Shape) (ps : List Pair) (v : Vertex) → odd_at S ps v ≡ true → (x : Vertex) → Here S x → Routed (joined S) (pair v x ∷ ps)
    → (k : ℕ) → deg (present S) x.line x.column + standing (same x) (pair v x ∷ ps) ≡ 2 * k → Partner S ps v
stuck S ps v o x h R k e = (
  x,
  h,
  apart,
  elim (odd_case (deg (present S) x.line x.column + standing (same x) ps)) [
    | inl c ↦ absurd (omega (arith, e, c.1, standing_cons (same x) v x ps, ap one (same_self x), ap one (same_sym v x), ap one apart))
    | inr c ↦ c.2
  ],
  R,
)
  where
    apart : same v x ≡ false
    apart = one_false (same v x) (λ g.
        let p = same_true v x (one_true (same v x) g) in
        let o' : odd_at S ps x ≡ true = subst (λ u. odd_at S ps u ≡ true) p o in
        elim (odd_case (deg (present S) x.line x.column + standing (same x) ps)) [
          | inl c ↦ clash o' c.2
          | inr c ↦ omega (arith, e, c.1, standing_cons (same x) v x ps, ap one (same_self x), ap one (same_sym v x), g)
        ])

next_here : (S : Shape) (x w : Vertex) (e : Link) → Ends x w e → joined S e ≡ true → Here S w
next_here S x w e (inl h) j = subst (Here S) (sym h.1) (joined_ends S e j).1
next_here S x w e (inr h) j = subst (Here S) (sym h.1) (joined_ends S e j).0

longer_spare : (S : Shape) → Shaped S → (v x w : Vertex) (ps : List Pair) (R : Routed (joined S) (pair v x ∷ ps)) (e : Link) (s : Ends x w e)
    (j : joined S e ≡ true) (z : total e (pair v x ∷ ps) R.trails ≡ 0)
    → spare S (pair v x ∷ ps) R.trails ≡ spare S (pair v w ∷ ps) (longer S v x w ps R e s j z).trails + 1
unfolding longer
longer_spare S G v x w ps R e s j z = spare_less S G (pair v x ∷ ps) (pair v w ∷ ps) R.trails (further S v x w ps R e s) e
    (further_total S v x w ps R e s) j z

-- as long as there are unused edges
onward : (S : Shape) → Shaped S → (ps : List Pair) (v : Vertex) → odd_at S ps v ≡ true → (n : ℕ) (x : Vertex) → Here S x
    → (R : Routed (joined S) (pair v x ∷ ps))
    → spare S (pair v x ∷ ps) R.trails ≤ n → Partner S ps v
onward S G ps v o zero x h R m = elim (odd_case (deg (present S) x.line x.column + standing (same x) (pair v x ∷ ps))) [
  | inl c ↦ stuck S ps v o x h R c.0 c.1
  | inr c ↦
      let f = free-link S (pair v x ∷ ps) R.trails R.once x.line x.column (present_yes S x.line x.column h) c.0 c.1 in
      absurd (omega (arith, longer_spare S G v x f.1 ps R f.0 f.2 f.3 f.4))
]
onward S G ps v o (suc n) x h R m = elim (odd_case (deg (present S) x.line x.column + standing (same x) (pair v x ∷ ps))) [
  | inl c ↦ stuck S ps v o x h R c.0 c.1
  | inr c ↦
      let f = free-link S (pair v x ∷ ps) R.trails R.once x.line x.column (present_yes S x.line x.column h) c.0 c.1 in
      onward S G ps v o n f.1 (next_here S x f.1 f.0 f.2 f.3) (longer S v x f.1 ps R f.0 f.2 f.3 f.4)
      (omega (arith, longer_spare S G v x f.1 ps R f.0 f.2 f.3 f.4))
]

pub partner : (S : Shape) → Shaped S → (ps : List Pair) → Routed (joined S) ps → (v : Vertex) → Here S v → odd_at S ps v ≡ true → Partner S ps v
partner S G ps R v h o = onward S G ps v o (spare S (pair v v ∷ ps) start.trails) v h start (omega arith)
  where
    start : Routed (joined S) (pair v v ∷ ps)
    start = idle S ps R v
