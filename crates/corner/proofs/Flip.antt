-- The problem upside down: it stays good, has as many vertices, and a routing of it turned back is one of the problem.
-- Assumes a good problem.
use Rattle.std.specs.Prelude.{◌≡◌, refl, Bool, true, false, ◌&&◌, not, List, [], ◌∷◌, ℕ, zero, suc, ◌+◌, ◌-◌, ◌*◌, ◌≤◌, ◌<◌, min, max, leb, eqb}
use Rattle.std.proofs.Common.{ap, ap₂, ◌∙◌, sym, subst, inl, inr, arith, eqb-true, le-leb, eq-eqb}
use Rattle.std.proofs.lemmas.Bool.{lt-leb}
use Rattle.count.specs.Truth.{one}
use Rattle.count.specs.TruthLaws.{clash, not_true, bool_eq, and_true, and_yes, le_or_lt}
use Rattle.count.specs.Sum.{sum_eq}
use Rattle.board.specs.Board.{at}
use Rattle.board.specs.declared.Vertex.{Vertex}
use Rattle.net.specs.declared.Pair.{Pair}
use Rattle.net.specs.Terminals.{same}
use Rattle.cut.specs.declared.Cut.{Cut}
use Rattle.cut.specs.declared.Cut.TheVariants.{Row, Column}
use Rattle.cut.specs.Cut.{side}
use Rattle.count.specs.Bits.{le_case, and_comm, and_off}
use Rattle.count.specs.Sums.{sum_reverse, sum_none}
use Rattle.corner.specs.Pairs.{pair, All, leaving, standing, Proper, maps}
use Rattle.net.specs.Same.{same_true, same_self}
use Rattle.corner.proofs.Tallies.{all_maps, standing_ext, leaving_ext, leaving_not, leaving_const, leaving_maps, standing_maps}
use Rattle.corner.specs.Shape.{size, last, Shape, present, At, Here, Line, vertices, behind, deg, cap, Shaped, Fits, Good, start, finish, Top}
use Rattle.corner.proofs.Presence.{last_suc, present_yes, present_true, present_no, top_in}
use Rattle.corner.specs.Trails.{Link, hor, ver, lo, hi, Ends, joined, Routed}
use Rattle.corner.proofs.Carry.{carry}

abbrev pub flip : Shape → Shape
flip S = record { top = last - S.bottom; bottom = last - S.top; a = λ l. S.a (last - l); b = λ l. S.b (last - l) }

abbrev pub over : Vertex → Vertex
over v = at (last - v.line) v.column

abbrev pub flips : List Pair → List Pair
flips ps = maps over ps

max_sym : (i j : ℕ) → max i j ≡ max j i
max_sym i j = omega arith

min_sym : (i j : ℕ) → min i j ≡ min j i
min_sym i j = omega arith

pub flip_shaped : (S : Shape) → Shaped S → Shaped (flip S)
flip_shaped S G = record {
  order = omega (arith, G.order);
  full = λ l h. G.full (last - l) (line l h);
  low = omega (arith, last_suc);
  thin = λ l h. G.thin (last - l) (line l h);
  between_left = λ i j k h1 h2 h3 h4. omega (
    arith,
    G.between_left (last - k) (last - j) (last - i) (line k (omega arith, h4)).0 (omega (arith, line k (omega arith, h4)))
        (omega (arith, line k (omega arith, h4))) (line i (h1, omega arith)).1,
    max_sym (S.a (last - k)) (S.a (last - i)),
  );
  between_right = λ i j k h1 h2 h3 h4. omega (
    arith,
    G.between_right (last - k) (last - j) (last - i) (line k (omega arith, h4)).0 (omega (arith, line k (omega arith, h4)))
        (omega (arith, line k (omega arith, h4))) (line i (h1, omega arith)).1,
    min_sym (S.b (last - k)) (S.b (last - i)),
  );
  nested = λ i j h k. G.nested (last - i) (last - j) (line i h) (line j k);
}
  where
    line : (l : ℕ) → Line (flip S) l → Line S (last - l)
    line l h = let k1 = G.order in let k2 = G.low in let k3 = last_suc in (omega arith, omega arith)

-- where the top line is wider than the bottom line, every line contains the top line upside down
pub flip_top : (S : Shape) → Shaped S → S.b S.bottom - S.a S.bottom < finish S - start S → Top (flip S)
flip_top S G h =
    let k1 = G.order in let k2 = G.low in let k3 = last_suc in
    let e1 : last - (last - S.bottom) ≡ S.bottom = omega arith in
    let e2 : last - (last - S.top) ≡ S.top = omega arith in
    top_in (flip S) (flip_shaped S G) (omega (arith, ap S.a e1, ap S.b e1, ap S.a e2, ap S.b e2))

-- presence, mirrored
abbrev Mirrored : (ℕ → ℕ → Bool) → (ℕ → ℕ → Bool) → Type 0
Mirrored p' p = (l m c : ℕ) → l + m ≡ last → p' l c ≡ p m c

pub flip_mirror : (S : Shape) → Shaped S → Mirrored (present (flip S)) (present S)
flip_mirror S G l m c e = bool_eq _ _
    (λ h. let k = present_true (flip S) l c h in present_yes S m c (record {
      low = omega (arith, k.low, k.high, G.order, G.low, last_suc);
      high = omega (arith, k.low, k.high, G.order, G.low, last_suc);
      from = rw (ap S.a i) at k.from;
      to = rw (ap S.b i) at k.to;
    }))
    (λ h. let k = present_true S m c h in present_yes (flip S) l c (record {
      low = omega (arith, k.low, k.high, G.order, G.low, last_suc);
      high = omega (arith, k.low, k.high, G.order, G.low, last_suc);
      from = rw (ap S.a i) k.from;
      to = rw (ap S.b i) k.to;
    }))
  where
    i : last - l ≡ m
    i = omega arith

flip_out : (S : Shape) → Shaped S → (l c : ℕ) → last < l → present (flip S) l c ≡ false
flip_out S G l c h = present_no (flip S) l c (λ k. omega (arith, k.high))

out : (S : Shape) → Shaped S → (l c : ℕ) → last < l → present S l c ≡ false
out S G l c h = present_no S l c (λ k. omega (arith, k.high, G.low, last_suc))

flip_deg : (S : Shape) → Shaped S → (l m c : ℕ) → l + m ≡ last → deg (present (flip S)) l c ≡ deg (present S) m c
unfolding deg
flip_deg S G l m c e = omega (arith, ap one (flip_mirror S G l m (suc c) e), down l m e, left c, up l m e)
  where
    left : (k : ℕ) → one (behind (present (flip S) l) k) ≡ one (behind (present S m) k)
    left zero = refl
    left (suc k) = ap one (flip_mirror S G l m k e)

    down : (l m : ℕ) → l + m ≡ last → one (present (flip S) (suc l) c) ≡ one (behind (λ j. present S j c) m)
    down l zero e = ap one (flip_out S G (suc l) c (omega arith))
    down l (suc m) e = ap one (flip_mirror S G (suc l) m c (omega arith))

    up : (l m : ℕ) → l + m ≡ last → one (behind (λ j. present (flip S) j c) l) ≡ one (present S (suc m) c)
    up zero m e = sym (ap one (out S G (suc m) c (omega arith)))
    up (suc l) m e = ap one (flip_mirror S G l (suc m) c (omega arith))

flip_row : (S : Shape) → Shaped S → (r m : ℕ) → suc (r + m) ≡ last → cap (present (flip S)) (Row r) ≡ cap (present S) (Row m)
unfolding cap
flip_row S G r m e = sum_eq size _ _ (λ c h. ap one (ap₂ ◌&&◌ (flip_mirror S G r (suc m) c (omega arith)) (flip_mirror S G (suc r) m c (omega arith))
    ∙ and_comm (present S (suc m) c) (present S m c)))

flip_row_out : (S : Shape) → Shaped S → (r : ℕ) → last ≤ r → cap (present (flip S)) (Row r) ≡ 0
unfolding cap
flip_row_out S G r e = sum_none size _ (λ c h. rw (flip_out S G (suc r) c (omega arith)) (and_off (present (flip S) r c)))

flip_col : (S : Shape) → Shaped S → (y : ℕ) → cap (present (flip S)) (Column y) ≡ cap (present S) (Column y)
unfolding cap
flip_col S G y = sum_reverse size _ _ (λ i j e. let k = last_suc in
    ap one (ap₂ ◌&&◌ (flip_mirror S G i j y (omega arith)) (flip_mirror S G i j (suc y) (omega arith))))

pub flip_vertices : (S : Shape) → Shaped S → vertices (flip S) ≡ vertices S
unfolding vertices
flip_vertices S G = sum_reverse size _ _ (λ i j e. let k = last_suc in sum_eq size _ _ (λ c h. ap one (flip_mirror S G i j c (omega arith))))

-- ── the pairs ──
pub flip_good : (S : Shape) (ps : List Pair) → Good S ps → Good (flip S) (flips ps)
flip_good S ps G = record {
  shaped = flip_shaped S G.shaped;
  stand = all_maps over (Here S) (Here (flip S)) (λ v h. present_true (flip S) (last - v.line) v.column
      (flip_mirror S G.shaped (last - v.line) v.line v.column (omega (arith, inn v h)) ∙ present_yes S v.line v.column h)) ps
      G.stand;
  even = λ l c h. even l c (last - l) (omega (arith, h.high)) h;
  cuts = cuts;
}
  where
    inn : (v : Vertex) → Here S v → v.line ≤ last
    inn v h = omega (arith, h.high, G.shaped.low, last_suc)

    even : (l c m : ℕ) → l + m ≡ last → At (flip S) l c → Fits (deg (present (flip S)) l c + standing (same (at l c)) (flips ps))
    even l c m e h =
        let k = G.even m c (present_true S m c (sym (flip_mirror S G.shaped l m c e) ∙ present_yes (flip S) l c h)) in
        let f = standing_ext (Here S) (λ v. same (at l c) (over v)) (same (at m c)) (λ v g. ap (λ b. b && eqb c v.column)
        (bool_eq (eqb l (last - v.line)) (eqb m v.line) (λ i. eq-eqb m v.line (omega (arith, eqb-true l (last - v.line) i, inn v g)))
        (λ i. eq-eqb l (last - v.line) (omega (arith, eqb-true m v.line i, inn v g))))) ps G.stand in
        (k.0, omega (arith, k.1, flip_deg S G.shaped l m c e, standing_maps over (same (at l c)) ps), k.2)

    turn : (r m : ℕ) → suc (r + m) ≡ last → (k : ℕ) × (cap (present (flip S)) (Row r) ≡ leaving (side (Row r)) (flips ps) + 2 * k)
    turn r m e =
        let k = G.cuts (Row m) in
        let f = leaving_ext (Here S) (λ v. leb (last - v.line) r) (λ v. not (leb v.line m)) (λ v g. elim (le_case v.line m) [
          | inl i ↦ rw i.0 (lt-leb (last - v.line) r (omega arith))
          | inr i ↦ rw i.0 (le-leb (last - v.line) r (omega arith))
        ]) ps G.stand in
        (k.0, omega (arith, k.1, flip_row S G.shaped r m e, leaving_maps over (side (Row r)) ps, leaving_not (side (Row m)) ps))

    cuts : (X : Cut) → (k : ℕ) × (cap (present (flip S)) X ≡ leaving (side X) (flips ps) + 2 * k)
    cuts (Row r) = elim (le_or_lt last r) [
      | inl h ↦ (
        0,
        omega (
          arith,
          flip_row_out S G.shaped r h,
          leaving_maps over (side (Row r)) ps,
          leaving_const (Here S) (λ v. leb (last - v.line) r) true (λ v g. le-leb (last - v.line) r (omega arith)) ps G.stand,
        ),
      )
      | inr h ↦ turn r (last - suc r) (omega arith)
    ]
    cuts (Column y) = let k = G.cuts (Column y) in (k.0, omega (arith, k.1, flip_col S G.shaped y, leaving_maps over (side (Column y)) ps))

-- ── a routing of the turned problem, turned back ──
abbrev flip_link : Link → Link
flip_link (hor l c) = hor (last - l) c
flip_link (ver l c) = ver (last - suc l) c

module _ (S : Shape) (G : Shaped S) where
  abbrev In : Link → Type 0
  In e = joined (flip S) e ≡ true

  -- an edge of the turned board lies in the frame
  in-hor : (l c : ℕ) → In (hor l c) → l ≤ last
  in-hor l c j = let k = present_true (flip S) l c (and_true (present (flip S) l c) (present (flip S) l (suc c)) j).0 in omega (arith, k.high)

  in-ver : (l c : ℕ) → In (ver l c) → suc l ≤ last
  in-ver l c j = let k = present_true (flip S) (suc l) c (and_true (present (flip S) l c) (present (flip S) (suc l) c) j).1 in omega (arith, k.high)

  turn-joined : (e : Link) → In e → joined S (flip_link e) ≡ true
  turn-joined (hor l c) j = let k = and_true (present (flip S) l c) (present (flip S) l (suc c)) j in let i = in-hor l c j in
      and_yes _ _ (sym (flip_mirror S G l (last - l) c (omega arith)) ∙ k.0) (sym (flip_mirror S G l (last - l) (suc c) (omega arith)) ∙ k.1)
  turn-joined (ver l c) j = let k = and_true (present (flip S) l c) (present (flip S) (suc l) c) j in let i = in-ver l c j in
      and_yes _ _ (sym (flip_mirror S G (suc l) (last - suc l) c (omega arith)) ∙ k.1)
      (sym (flip_mirror S G l (suc (last - suc l)) c (omega arith)) ∙ k.0)

  turn_twice : (e : Link) → In e → flip_link (flip_link e) ≡ e
  turn_twice (hor l c) j = let i = in-hor l c j in ap (λ k. hor k c) (omega arith)
  turn_twice (ver l c) j = let i = in-ver l c j in ap (λ k. ver k c) (omega arith)

  turn-ends : (e : Link) → In e → Ends (over (lo e)) (over (hi e)) (flip_link e)
  turn-ends (hor l c) j = inl (refl, refl)
  turn-ends (ver l c) j = let i = in-ver l c j in inr (ap (λ k. at k c) (omega arith), refl)

  over-twice : (v : Vertex) → Here S v → over (over v) ≡ v
  over-twice v h = ap (λ k. at k v.column) (omega (arith, h.high, G.low, last_suc))

  maps-twice : (ps : List Pair) → All (Here S) ps → maps over (flips ps) ≡ ps
  maps-twice [] a = refl
  maps-twice (p ∷ ps) a = ap₂ (λ q qs. q ∷ qs) (ap₂ pair (over-twice p.first a.0) (over-twice p.second a.1)) (maps-twice ps a.2)

pub flip_lift : (S : Shape) (ps : List Pair) → Good S ps → Routed (joined (flip S)) (flips ps) → Routed (joined S) ps
flip_lift S ps G R = subst (λ qs. Routed (joined S) qs) (maps-twice S G.shaped ps G.stand)
    (carry (joined S) (joined (flip S)) over flip_link flip_link (turn-joined S G.shaped) (turn-ends S G.shaped) (turn_twice S G.shaped)
    (flips ps) R)

pub flip_proper : (S : Shape) → Shaped S → (ps : List Pair) → All (Here S) ps → Proper ps → Proper (flips ps)
flip_proper S G [] a pr = tt
flip_proper S G (p ∷ ps) a pr = (
  not_true _ (λ h.
      let q = same_true (over p.first) (over p.second) h in
      let e : p.first ≡ p.second = sym (over-twice S G p.first a.0) ∙ ap over q ∙ over-twice S G p.second a.1 in
      let y : same p.first p.second ≡ true = subst (λ v. same p.first v ≡ true) e (same_self p.first) in
      clash y pr.0),
  flip_proper S G ps a.2 pr.1,
)
