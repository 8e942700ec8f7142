-- The corner law: how many pairs can leave the corner of a shape that a row cut and a column cut make.
-- Over coordinates L (line) and C (column) of the vertices: it is used once as it stands and once turned by 180 degrees.
-- Assumes where the terminals stand, how many each vertex may have, and that no line lacks a column that lines above and below it have.
use Rattle.std.specs.Prelude.{◌≡◌, refl, Bool, true, false, ◌&&◌, List, ℕ, zero, suc, ◌+◌, ◌-◌, ◌≤◌, ◌<◌, min, max, leb, eqb}
use Rattle.std.proofs.Common.{ap, inl, inr, arith, leb-true, eqb-true, le-leb}
use Rattle.std.proofs.lemmas.Bool.{lt-leb}
use Rattle.count.specs.Truth.{one}
use Rattle.count.specs.TruthLaws.{and_true, le_or_lt}
use Rattle.count.specs.Sum.{sum, sum_suc}
use Rattle.board.specs.declared.Vertex.{Vertex}
use Rattle.net.specs.declared.Pair.{Pair}
use Rattle.count.specs.Bits.{le_case, eq_case, one_true, one_false, and_bit, and_off, and_on, le_suc_bit}
use Rattle.count.specs.Sums.{sum_tail, sum_none, search_below}
use Rattle.corner.specs.Pairs.{All, leaving, standing}
use Rattle.corner.proofs.Tallies.{standing_add, standing_le, standing_none, leaving_ext, leaving_none, leaving_part}

-- ── truth values of one vertex ──
-- a strip that is one column longer
strip_bit : (q k c : ℕ) (e : Bool) → q ≤ k
    → one (e && (leb q c && leb (suc c) (suc k))) ≡ one (e && (leb q c && leb (suc c) k)) + one (e && eqb c k)
strip_bit q k c false h = refl
strip_bit q k c true h =
    let f = and_bit (leb q c) (leb (suc c) (suc k)) in
    let g = and_bit (leb q c) (leb (suc c) k) in
    elim (le_case q c) [
      | inl a ↦ elim (le_case (suc c) (suc k)) [
        | inl b ↦ elim (le_case (suc c) k) [
          | inl d ↦ elim (eq_case c k) [ inl e ↦ omega arith | inr e ↦ omega arith ]
          | inr d ↦ elim (eq_case c k) [ inl e ↦ omega arith | inr e ↦ omega (arith, e.2) ]
        ]
        | inr b ↦ elim (le_case (suc c) k) [
          | inl d ↦ elim (eq_case c k) [ inl e ↦ omega arith | inr e ↦ omega arith ]
          | inr d ↦ elim (eq_case c k) [ inl e ↦ omega arith | inr e ↦ omega arith ]
        ]
      ]
      | inr a ↦ elim (eq_case c k) [ inl e ↦ omega arith | inr e ↦ omega arith ]
    ]

-- a box that is one line deeper
pub box_bit : (j l : ℕ) (e : Bool) → one (leb j (suc l) && e) ≡ one (leb j l && e) + one (eqb j (suc l) && e)
box_bit j l true = omega (arith, le_suc_bit j l, and_on (leb j (suc l)), and_on (leb j l), and_on (eqb j (suc l)))
box_bit j l false = omega (arith, and_off (leb j (suc l)), and_off (leb j l), and_off (eqb j (suc l)))

-- the corner is what is left of q, and the box from q on
corner_bit : (q x c : ℕ) (e : Bool) → q ≤ x → one (e && leb c x) ≡ one (e && leb (suc c) q) + one (e && (leb q c && leb (suc c) (suc x)))
corner_bit q x c false h = refl
corner_bit q x c true h =
    let f = and_bit (leb q c) (leb (suc c) (suc x)) in
    elim (le_case q c) [
      | inl a ↦ elim (le_case (suc c) q) [
        | inl b ↦ omega arith
        | inr b ↦ elim (le_case c x) [
          | inl d ↦ elim (le_case (suc c) (suc x)) [ inl e ↦ omega arith | inr e ↦ omega arith ]
          | inr d ↦ elim (le_case (suc c) (suc x)) [ inl e ↦ omega arith | inr e ↦ omega arith ]
        ]
      ]
      | inr a ↦ elim (le_case (suc c) q) [
        | inl b ↦ elim (le_case c x) [ inl d ↦ omega arith | inr d ↦ omega arith ]
        | inr b ↦ omega arith
      ]
    ]

-- on the first line to be at most that line is to be on it
first_bit : (j l : ℕ) (e : Bool) → l ≤ j → one (leb j l && e) ≤ one (eqb j l && e)
first_bit j l false h =
    let f = and_bit (leb j l) false in omega arith
first_bit j l true h =
    let f = and_bit (leb j l) true in let g = and_bit (eqb j l) true in
    elim (le_case j l) [ inl a ↦ elim (eq_case j l) [ inl e ↦ omega arith | inr e ↦ omega (arith, e.2) ] | inr a ↦ omega arith ]

line_end : (m' m e o u x : ℕ) → e ≤ o + (min u (suc x) - m') → m' ≤ m → u ≤ m → e + m' ≤ o + m
line_end m' m e o u x h k j = omega arith

-- ── sets of vertices ──
-- where a terminal may stand: on a line, from its left bound on
abbrev pub Stands : (L C : Vertex → ℕ) (top bottom : ℕ) (a : ℕ → ℕ) → Vertex → Type 0
Stands L C top bottom a v = (top ≤ L v) × (L v ≤ bottom) × (a (L v) ≤ C v)

-- the vertex on line l in column c
abbrev pub spot : (L C : Vertex → ℕ) → ℕ → ℕ → Vertex → Bool
spot L C l c v = eqb (L v) l && eqb (C v) c

-- down to line l, from column q to column x
abbrev pub box : (L C : Vertex → ℕ) (q x l : ℕ) → Vertex → Bool
box L C q x l v = leb (L v) l && (leb q (C v) && leb (suc (C v)) (suc x))

-- 1 for a line that has a vertex left of column q
abbrev pub reaches : (top bottom : ℕ) (a : ℕ → ℕ) (q l : ℕ) → ℕ
reaches top bottom a q l = one ((leb top l && leb l bottom) && leb (suc (a l)) q)

pub reaches_or : (top bottom : ℕ) (a : ℕ → ℕ) (q l : ℕ) → top ≤ l → l ≤ bottom → reaches top bottom a q l + one (leb q (a l)) ≡ 1
reaches_or top bottom a q l h k =
    let e = ap one (le-leb top l h) in let f = ap one (le-leb l bottom k) in
    let g = and_bit (leb top l) (leb l bottom) in let i = and_bit (leb top l && leb l bottom) (leb (suc (a l)) q) in
    elim (le_case q (a l)) [
      | inl b ↦ elim (le_case (suc (a l)) q) [ inl d ↦ omega arith | inr d ↦ omega arith ]
      | inr b ↦ elim (le_case (suc (a l)) q) [ inl d ↦ omega arith | inr d ↦ omega arith ]
    ]

reaches_none : (top bottom : ℕ) (a : ℕ → ℕ) (q n : ℕ) → n ≤ top → sum n (reaches top bottom a q) ≡ 0
reaches_none top bottom a q n h = sum_none n (reaches top bottom a q) (λ i l. rw (lt-leb top i (omega arith)))

module _ (L C : Vertex → ℕ) (ps : List Pair) (top bottom q x : ℕ) (a : ℕ → ℕ) (stands : All (Stands L C top bottom a) ps) where
  -- ── one line ──
  -- its vertices from column q on, before column k
  abbrev strip : ℕ → ℕ → Vertex → Bool
  strip l k v = eqb (L v) l && (leb q (C v) && leb (suc (C v)) k)

  strip-up : (l k : ℕ) → q ≤ k → standing (strip l (suc k)) ps ≡ standing (strip l k) ps + standing (spot L C l k) ps
  strip-up l k h = standing_add (Stands L C top bottom a) (strip l (suc k)) (strip l k) (spot L C l k)
      (λ u s. strip_bit q k (C u) (eqb (L u) l) h) ps stands

  strip-base : (l k : ℕ) → k ≤ max q (a l) → standing (strip l k) ps ≡ 0
  strip-base l k h = standing_none (Stands L C top bottom a) (strip l k) (λ u s. one_false _ (λ e. go u s e)) ps stands
    where
      go : (u : Vertex) → Stands L C top bottom a u → one (strip l k u) ≡ 1 → ⊥
      go u s e =
          let k1 = and_true (eqb (L u) l) (leb q (C u) && leb (suc (C u)) k) (one_true _ e) in
          let k2 = and_true (leb q (C u)) (leb (suc (C u)) k) k1.1 in
          let s1 : a l ≤ C u = rw (eqb-true (L u) l k1.0) at s.2 in
          omega (arith, leb-true q (C u) k2.0, leb-true (suc (C u)) k k2.1)

  -- a vertex has at most as many terminals as it lacks neighbours: the left one at the line's bound, the upper one before column u
  abbrev pub Pin : ℕ → ℕ → Type 0
  Pin l u = (c : ℕ) → q ≤ c → a l ≤ c → c ≤ x → standing (spot L C l c) ps ≤ one (leb c (a l)) + one (leb (suc c) u)

  line-base : (l u k : ℕ) → Pin l u → k ≤ x → k ≡ max q (a l)
      → standing (strip l (suc k)) ps ≤ one (leb q (a l)) + (min u (suc k) - max q (a l))
  line-base l u k pin h e =
      let i = strip-up l k (omega arith) in
      let z = strip-base l k (omega arith) in
      let p = pin k (omega arith) (omega arith) h in
      elim (le_case (suc k) u) [
        | inl b ↦ elim (le_case k (a l)) [
          | inl d ↦ elim (le_case q (a l)) [ inl f ↦ omega arith | inr f ↦ omega arith ]
          | inr d ↦ omega arith
        ]
        | inr b ↦ elim (le_case k (a l)) [
          | inl d ↦ elim (le_case q (a l)) [ inl f ↦ omega arith | inr f ↦ omega arith ]
          | inr d ↦ omega arith
        ]
      ]

  line_step : (l u k : ℕ) → Pin l u → suc k ≤ x → max q (a l) ≤ k
      → standing (strip l (suc k)) ps ≤ one (leb q (a l)) + (min u (suc k) - max q (a l))
      → standing (strip l (suc (suc k))) ps ≤ one (leb q (a l)) + (min u (suc (suc k)) - max q (a l))
  line_step l u k pin h g ih =
      let i = strip-up l (suc k) (omega arith) in
      let p = pin (suc k) (omega arith) (omega arith) h in
      elim (le_case (suc (suc k)) u) [
        | inl b ↦ elim (le_case (suc k) (a l)) [ inl d ↦ omega arith | inr d ↦ omega arith ]
        | inr b ↦ elim (le_case (suc k) (a l)) [ inl d ↦ omega arith | inr d ↦ omega arith ]
      ]

  line-law : (l u k : ℕ) → Pin l u → k ≤ x → max q (a l) ≤ k
      → standing (strip l (suc k)) ps ≤ one (leb q (a l)) + (min u (suc k) - max q (a l))
  line-law l u zero pin h g = line-base l u 0 pin h (omega arith)
  line-law l u (suc k) pin h g = elim (le_or_lt (max q (a l)) k) [
    | inl b ↦ line_step l u k pin h b (line-law l u k pin (omega arith) b)
    | inr b ↦ line-base l u (suc k) pin h (omega arith)
  ]

  -- the corner's own line, with no upper neighbours
  pub first-law : Pin top (suc x) → q ≤ x → a top ≤ x → standing (box L C q x top) ps + max q (a top) ≤ one (leb q (a top)) + suc x
  first-law pin f g =
      let i = standing_le (Stands L C top bottom a) (box L C q x top) (strip top (suc x))
      (λ u st. first_bit (L u) top (leb q (C u) && leb (suc (C u)) (suc x)) st.0) ps stands in
      line_end (max q (a top)) (suc x) _ _ (suc x) x (let k = line-law top (suc x) x pin (omega arith) (omega arith) in omega arith) (omega arith)
      (omega arith)

  -- ── the lines from the corner's down to l, s terminals fewer than there could be on the first ──
  module _ (s : ℕ) (base : standing (box L C q x top) ps + s + max q (a top) ≤ one (leb q (a top)) + suc x)
      (r : ℕ) (deep : r ≤ bottom) (fit : q ≤ x)
      (pins : (l : ℕ) → top ≤ l → l < r → Pin (suc l) (a l))
      (falls : (l : ℕ) → top ≤ l → l < r → max q (a (suc l)) ≤ max q (a l))
      (reach : (l : ℕ) → top ≤ l → l ≤ r → a l ≤ x) where
    box-first : (l : ℕ) → l ≡ top → l ≤ r → standing (box L C q x l) ps + sum (suc l) (reaches top bottom a q) + s +
        (top + max q (a l)) ≤ suc l + suc x
    box-first l e h = rw e (
        let i = reaches_none top bottom a q top (omega arith) in
        let j = reaches_or top bottom a q top (omega arith) (omega arith) in
        omega (arith, sum_suc top (reaches top bottom a q)))

    box-step : (l : ℕ) → top ≤ l → suc l ≤ r
        → standing (box L C q x l) ps + sum (suc l) (reaches top bottom a q) + s + (top + max q (a l)) ≤ suc l + suc x
        → standing (box L C q x (suc l)) ps + sum (suc (suc l)) (reaches top bottom a q) + s + (top + max q (a (suc l))) ≤ suc (suc l) + suc x
    box-step l t h ih =
        let i = standing_add (Stands L C top bottom a) (box L C q x (suc l)) (box L C q x l) (strip (suc l) (suc x))
        (λ u st. box_bit (L u) l (leb q (C u) && leb (suc (C u)) (suc x))) ps stands in
        let f = falls l t h in
        let k = line_end (max q (a (suc l))) (max q (a l)) _ _ _ x
        (line-law (suc l) (a l) x (pins l t h) (omega arith) (omega (arith, reach (suc l) (omega arith) h)))
        f (omega (arith, reach l t (omega arith))) in
        let j = reaches_or top bottom a q (suc l) (omega arith) (omega arith) in
        omega (arith, sum_suc (suc l) (reaches top bottom a q))

    pub box-law : (l : ℕ) → top ≤ l → l ≤ r → standing (box L C q x l) ps + sum (suc l) (reaches top bottom a q) + s +
        (top + max q (a l)) ≤ suc l + suc x
    box-law zero t h = box-first 0 (omega arith) h
    box-law (suc l) t h = elim (le_or_lt top l) [
      | inl b ↦ box-step l b h (box-law l b (omega arith))
      | inr b ↦ box-first (suc l) (omega arith) h
    ]

    -- what leaves the corner leaves its part left of q, or stands in the box
    pub box-corner : (w : ℕ) → top ≤ r → a r ≤ q
        → leaving (λ v. leb (L v) r && leb (suc (C v)) q) ps ≤ w → w ≤ sum (suc r) (reaches top bottom a q)
        → leaving (λ v. leb (L v) r && leb (C v) x) ps + s + (top + q) ≤ suc r + suc x
    box-corner w t h cw ws =
        let i = leaving_part (Stands L C top bottom a) (λ v. leb (L v) r && leb (C v) x) (λ v. leb (L v) r && leb (suc (C v)) q) (box L C q x r)
        (λ u st. corner_bit q x (C u) (leb (L u) r) fit) ps stands in
        let j = box-law r t (omega arith) in
        omega arith

-- The corner law. The corner is the lines top to r and the columns up to x, which every line reaches. Of the two lines at the cut, r and
-- r + 1, the one that starts further right starts in column q. At least s pins of the first line are free; `pins` bounds the terminals of
-- the other lines, and at most as many pairs leave the columns left of q as there are lines that reach them. Then at most
-- (r + 1 - top) + (x + 1 - q) - s pairs leave the corner: as many as it has edges, less s.
pub corner_law : (L C : Vertex → ℕ) (ps : List Pair) (top bottom x : ℕ) (a : ℕ → ℕ) → All (Stands L C top bottom a) ps
    → (s r n : ℕ) → top ≤ r → suc r ≤ bottom → bottom < n
    → ((l : ℕ) → top ≤ l → l ≤ bottom → a l ≤ x)
    → ((i j k : ℕ) → top ≤ i → i < j → j < k → k ≤ bottom → a j ≤ max (a i) (a k))
    → (q : ℕ) → q ≡ max (a r) (a (suc r))
    → (((c : ℕ) → q ≤ c → a top ≤ c → a (suc top) ≤ c) → standing (box L C q x top) ps + s + max q (a top) ≤ one (leb q (a top)) + suc x)
    → ((l c : ℕ) → top ≤ l → suc l ≤ r → a (suc l) ≤ c → c ≤ x → a (suc (suc l)) ≤ c
    → standing (spot L C (suc l) c) ps ≤ one (leb c (a (suc l))) + one (leb (suc c) (a l)))
    → leaving (λ v. leb (suc (C v)) q) ps ≤ sum n (reaches top bottom a q)
    → leaving (λ v. leb (L v) r && leb (C v) x) ps + s + (top + q) ≤ suc r + suc x
corner_law L C ps top bottom x a stands s r n t d bn reach n1 q eq base pins left =
    elim (search_below a q top (suc r)) [
      | inl h ↦ law 0 (omega (
        arith,
        leaving_none (Stands L C top bottom a) (λ v. leb (L v) r && leb (suc (C v)) q)
            (λ u st. one_false _ (λ e. early h u st e)) ps stands,
      )) (omega arith)
      | inr h ↦
          let c1 = leaving_ext (Stands L C top bottom a) (λ v. leb (L v) r && leb (suc (C v)) q) (λ v. leb (suc (C v)) q)
          (λ u st. late (after h) u st) ps stands in
          let c2 = sum_tail (suc r) (n - suc r) (reaches top bottom a q) (λ i g. none (after h) i g) in
          let c3 : n - suc r + suc r ≡ n = omega arith in
          let c4 : sum n (reaches top bottom a q) ≡ sum (suc r) (reaches top bottom a q) = rw c3 at c2 in
          law (sum n (reaches top bottom a q)) (omega arith) (omega arith)
    ]
  where
    fall : (l : ℕ) → top ≤ l → l < r → max q (a (suc l)) ≤ max q (a l)
    fall l h k = elim (eq_case (suc l) r) [
      | inl e ↦ rw e.2 (omega arith)
      | inr e ↦ omega (arith, n1 l (suc l) r h (omega arith) (omega (arith, e.2)) (omega arith))
    ]

    next : (l c : ℕ) → top ≤ l → l ≤ r → q ≤ c → a l ≤ c → a (suc l) ≤ c
    next l c h k i j = elim (eq_case l r) [
      | inl e ↦ rw e.2 (omega arith)
      | inr e ↦ omega (arith, fall l h (omega (arith, e.2)))
    ]

    law : (w : ℕ) → leaving (λ v. leb (L v) r && leb (suc (C v)) q) ps ≤ w → w ≤ sum (suc r) (reaches top bottom a q)
        → leaving (λ v. leb (L v) r && leb (C v) x) ps + s + (top + q) ≤ suc r + suc x
    law w i j = box-corner L C ps top bottom q x a stands s (base (λ c i j. next top c (omega arith) t i j)) r (omega arith)
        (omega (arith, reach r t (omega arith), reach (suc r) (omega arith) d))
        (λ l h k c b e f. pins l c h k e f (next (suc l) c (omega arith) k b e)) fall (λ l h k. reach l h (omega arith)) w t (omega arith) i j

    early : ((l : ℕ) → top ≤ l → l < suc r → q ≤ a l) → (u : Vertex) → Stands L C top bottom a u → one (leb (L u) r && leb (suc (C u)) q) ≡ 1 → ⊥
    early h u st e =
        let k = and_true (leb (L u) r) (leb (suc (C u)) q) (one_true _ e) in
        omega (arith, st.2, leb-true (L u) r k.0, leb-true (suc (C u)) q k.1, h (L u) st.0 (omega (arith, leb-true (L u) r k.0)))

    -- if some line above has its left bound below q, no line below r has
    after : ((l : ℕ) × (top ≤ l) × (l < suc r) × (a l < q)) → (k : ℕ) → r < k → k ≤ bottom → q ≤ a k
    after h k i j = elim (le_or_lt q (a k)) [
      | inl g ↦ g
      | inr g ↦ elim (eq_case h.0 r) [
        | inl e ↦
            let z : a h.0 ≡ a r = ap a e.2 in
            elim (eq_case k (suc r)) [
              | inl f ↦ absurd (omega (arith, ap a f.2, h.3))
              | inr f ↦ omega (arith, n1 r (suc r) k t (omega arith) (omega (arith, f.2)) j, h.3)
            ]
        | inr e ↦ elim (eq_case k (suc r)) [
          | inl f ↦ omega (arith, ap a f.2, h.3, n1 h.0 r k h.1 (omega (arith, e.2, h.2)) i j)
          | inr f ↦ omega (
            arith,
            h.3,
            n1 h.0 r k h.1 (omega (arith, e.2, h.2)) i j,
            n1 h.0 (suc r) k h.1 h.2 (omega (arith, f.2)) j,
          )
        ]
      ]
    ]

    late : ((k : ℕ) → r < k → k ≤ bottom → q ≤ a k) → (u : Vertex) → Stands L C top bottom a u
        → (leb (L u) r && leb (suc (C u)) q) ≡ leb (suc (C u)) q
    late h u st = elim (le_case (L u) r) [
      | inl e ↦ rw e.0
      | inr e ↦ rw (e.0, lt-leb (suc (C u)) q (omega (arith, st.2, e.2, h (L u) e.2 st.1)))
    ]

    none : ((k : ℕ) → r < k → k ≤ bottom → q ≤ a k) → (i : ℕ) → suc r ≤ i → reaches top bottom a q i ≡ 0
    none h i g = elim (le_case i bottom) [
      | inl e ↦ omega (arith, and_bit (leb top i && leb i bottom) (leb (suc (a i)) q), ap one (lt-leb (suc (a i)) q (omega (arith, h i g e.2))))
      | inr e ↦ omega (arith, e.1, and_bit (leb top i && leb i bottom) (leb (suc (a i)) q), and_bit (leb top i) (leb i bottom))
    ]
