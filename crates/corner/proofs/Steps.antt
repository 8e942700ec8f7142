-- The steps at a corner with two edges, helper, split and divide: each keeps the problem good.
-- Assumes a good problem, every line containing the top line, two edges at the corner, and of the chosen pairs what each law names.
use Rattle.std.specs.Prelude.{◌≡◌, refl, true, false, ◌&&◌, not, List, ◌∷◌, ◌⊎◌, ℕ, suc, ◌+◌, ◌≤◌, ◌<◌, leb}
use Rattle.std.proofs.Common.{ap, ◌∙◌, sym, inl, inr, arith, leb-true, le-leb}
use Rattle.std.proofs.lemmas.Bool.{lt-leb}
use Rattle.count.specs.Truth.{one}
use Rattle.count.specs.TruthLaws.{clash, and_true, one_le, le_or_lt}
use Rattle.board.specs.Board.{at}
use Rattle.board.specs.declared.Vertex.{Vertex}
use Rattle.net.specs.declared.Pair.{Pair}
use Rattle.net.specs.Terminals.{same}
use Rattle.cut.specs.declared.Cut.{Cut}
use Rattle.cut.specs.declared.Cut.TheVariants.{Row, Column}
use Rattle.cut.specs.Cut.{side}
use Rattle.count.specs.Bits.{le_case, leb_next}
use Rattle.corner.specs.Pairs.{pair, apart, astray, All, leaving, standing, hits, Proper, across, Take}
use Rattle.net.specs.Same.{same_self}
use Rattle.corner.proofs.Apart.{apart_same, astray_start, astray_end}
use Rattle.corner.proofs.Tallies.{all_map, all_zip, standing_cons, leaving_cons, all_out}
use Rattle.corner.proofs.Taking.{all_take, leaving_take, standing_take, least, proper_take}
use Rattle.corner.specs.Shape.{
  Shape,
  present,
  Here,
  cap,
  Shaped,
  Good,
  Roomy,
  Full,
  start,
  finish,
  Top,
  UL,
  NUL,
  BUL,
  top_cut,
  left_cut,
  narrow,
  Less,
}
use Rattle.corner.proofs.Presence.{present_one, off_corner, corner_here, kept}
use Rattle.corner.proofs.Delete.{narrow_shaped, narrow_less, cap_less}
use Rattle.corner.proofs.CutEdges.{cap-col}
use Rattle.corner.proofs.TopLine.{room-top}
use Rattle.corner.proofs.LeftColumn.{room-left}
use Rattle.corner.proofs.Keep.{Margin, split_cut, helper_cut, divide_cut, keep, roomy_two, by_cut}
use Rattle.corner.proofs.Across.{across_between, across_mono, across_all, uncross}

-- Split: of two pairs at the corner with far ends s and t, one goes right and the other down. Either choice will do that keeps this order:
-- where the far end of the one that goes down is on the top line the other is too, and where that of the one that goes right is not right of
-- the corner the other is not either.
pub split_choice : (S : Shape) (s t : Vertex) → Here S s → Here S t → same (UL S) s ≡ false → same (UL S) t ≡ false
    → ((t.line ≤ S.top → s.line ≤ S.top) × (s.column ≤ start S → t.column ≤ start S))
    ⊎ ((s.line ≤ S.top → t.line ≤ S.top) × (t.column ≤ start S → s.column ≤ start S))
split_choice S s t hs ht es et = elim (le_or_lt s.line S.top) [
  | inl a ↦ inl (λ i. a, λ i. absurd (far s hs es a i))
  | inr a ↦ elim (le_or_lt t.line S.top) [
    | inl b ↦ inr (λ i. b, λ i. absurd (far t ht et b i))
    | inr b ↦ elim (le_or_lt s.column (start S)) [
      | inl c ↦ inr (λ i. absurd (omega arith), λ i. c)
      | inr c ↦ inl (λ i. absurd (omega arith), λ i. absurd (omega arith))
    ]
  ]
]
  where
    far : (u : Vertex) → Here S u → same (UL S) u ≡ false → u.line ≤ S.top → u.column ≤ start S → ⊥
    far u h e i j = clash (corner_here S u h i j) e

module _ (S : Shape) (ps : List Pair) (G : Good S ps) (T : Top S) (wide : start S < finish S) (deep : S.top < S.bottom) where
  less : Less S (narrow S) (UL S)
  less = narrow_less S G.shaped wide

  narrowed : Shaped (narrow S)
  narrowed = narrow_shaped S G.shaped T wide

  cap-narrow : (X : Cut) → cap (present S) X ≡ cap (present (narrow S)) X + apart (side X (UL S)) (side X (NUL S)) + apart (side X (UL S))
      (side X (BUL S))
  cap-narrow X =
      let t = T (suc S.top) (omega arith) in
      omega (
        arith,
        cap_less S (narrow S) G.shaped less X 1 1 (present_one S S.top (suc (start S)) (omega arith) (omega arith) (omega arith) (omega arith))
            (present_one S (suc S.top) (start S) (omega arith) (omega arith) (omega arith) (omega arith)),
      )

  nul-here : Here (narrow S) (NUL S)
  nul-here = kept S (narrow S) (UL S) less S.top (suc (start S)) (record { low = omega arith; high = omega arith; from = omega arith; to = wide })
      (off_corner S _ (λ e f. omega arith))

  bul-here : Here (narrow S) (BUL S)
  bul-here = let t = T (suc S.top) (omega arith) in
      kept S (narrow S) (UL S) less (suc S.top) (start S) (record { low = omega arith; high = omega arith; from = omega arith; to = omega arith })
      (off_corner S _ (λ e f. omega arith))

  all_here : (qs : List Pair) → All (Here S) qs → standing (same (UL S)) qs ≡ 0 → All (Here (narrow S)) qs
  all_here qs a z = all_zip (λ v h e. kept S (narrow S) (UL S) less v.line v.column h e) qs a (all_out (same (UL S)) qs z)

  still-here : (v : Vertex) → Here S v → same (UL S) v ≡ false → Here (narrow S) v
  still-here v h e = kept S (narrow S) (UL S) less v.line v.column h e

  -- where the three vertices of the corner are, against its two cuts
  at_top : leb S.top S.top ≡ true
  at_top = le-leb S.top S.top (omega arith)

  below_top : leb (suc S.top) S.top ≡ false
  below_top = lt-leb (suc S.top) S.top (omega arith)

  at-start : leb (start S) (start S) ≡ true
  at-start = le-leb (start S) (start S) (omega arith)

  past-start : leb (suc (start S)) (start S) ≡ false
  past-start = lt-leb (suc (start S)) (start S) (omega arith)

  -- ── helper ──
  pub helper-good : standing (same (UL S)) ps ≡ 0 → Roomy S ps (top_cut S) → Roomy S ps (left_cut S) → Good (narrow S) (pair (NUL S) (BUL S) ∷ ps)
  helper-good z rr rc = let kr = roomy_two S ps G (top_cut S) rr in let kc = roomy_two S ps G (left_cut S) rc in
      keep S (narrow S) ps (pair (NUL S) (BUL S) ∷ ps) G narrowed less
      (nul-here, bul-here, all_here ps G.stand z)
      (λ l c h e. omega (arith, standing_cons (same (at l c)) (NUL S) (BUL S) ps))
      (by_cut S (λ X. Margin (cap (present (narrow S)) X) (leaving (side X) (pair (NUL S) (BUL S) ∷ ps)))
      (cut (top_cut S) (rw (at_top, below_top) (omega arith)))
      (λ r e. cut (Row r) (rw (← (leb_next S.top r e))
      (omega (arith, apart_same (leb S.top r) (leb S.top r) refl, astray_start (leb S.top r) (leb S.top r) (leb S.top r) refl))))
      (cut (left_cut S) (rw (at-start, past-start) (omega arith)))
      (λ y e. cut (Column y) (rw (← (leb_next (start S) y e))
      (omega (arith, apart_same (leb (start S) y) (leb (start S) y) refl, astray_start (leb (start S) y) (leb (start S) y) (leb (start S) y) refl)))))
    where
      cut : (X : Cut) → apart (side X (NUL S)) (side X (BUL S)) + astray (side X (NUL S)) (side X (UL S)) (side X (BUL S)) ≤ (G.cuts X).0
          → Margin (cap (present (narrow S)) X) (leaving (side X) (pair (NUL S) (BUL S) ∷ ps))
      cut X b = let m = helper_cut (side X (UL S)) (side X (NUL S)) (side X (BUL S)) _ _ _ (G.cuts X).0 (cap-narrow X) (G.cuts X).1 b in
          (m.0, omega (arith, m.1, leaving_cons (side X) (NUL S) (BUL S) ps))

  -- ── split: s goes right, t goes down ──
  pub split_good : (s t : Vertex) (rest1 rest : List Pair) → Take (UL S) s ps rest1 → Take (UL S) t rest1 rest → Proper ps
      → standing (same (UL S)) ps ≡ 2
      → (t.line ≤ S.top → s.line ≤ S.top) → (s.column ≤ start S → t.column ≤ start S)
      → Good (narrow S) (pair (NUL S) s ∷ pair (BUL S) t ∷ rest)
  split_good s t rest1 rest t1 t2 pr z fr fc = keep S (narrow S) ps ps' G narrowed less
      (nul-here, still-here s a1.1 p1.0, (bul-here, still-here t a2.1 p2.0, all_here rest a2.2 none))
      (λ l c h e. omega (
        arith,
        standing_cons (same (at l c)) (NUL S) s (pair (BUL S) t ∷ rest),
        standing_cons (same (at l c)) (BUL S) t rest,
        standing_take (same (at l c)) (UL S) s t1,
        standing_take (same (at l c)) (UL S) t t2,
        ap one e,
      ))
      (by_cut S (λ X. Margin (cap (present (narrow S)) X) (leaving (side X) ps'))
      (cut (top_cut S) (rw (at_top, below_top) (elim (le_case t.line S.top) [
        | inl h ↦ let k = room-top S ps G T wide deep s t rest1 rest t1 t2 (fr h.2) h.2 z in omega (arith, roomy_two S ps G (top_cut S) k)
        | inr h ↦ omega arith
      ])))
      (λ r e. cut (Row r) (omega (
        arith,
        astray_start (leb S.top r) (leb S.top r) (leb s.line r) refl,
        astray_start (leb S.top r) (leb (suc S.top) r) (leb t.line r) (leb_next S.top r e),
      )))
      (cut (left_cut S) (rw (at-start, past-start) (elim (le_case s.column (start S)) [
        | inl h ↦ let k = room-left S ps G T wide deep s t rest1 rest t1 t2 h.2 (fc h.2) in omega (arith, roomy_two S ps G (left_cut S) k)
        | inr h ↦ omega arith
      ])))
      (λ y e. cut (Column y) (omega (
        arith,
        astray_start (leb (start S) y) (leb (suc (start S)) y) (leb s.column y) (leb_next (start S) y e),
        astray_start (leb (start S) y) (leb (start S) y) (leb t.column y) refl,
      ))))
    where
      ps' : List Pair
      ps' = pair (NUL S) s ∷ pair (BUL S) t ∷ rest

      a1 : Here S (UL S) × Here S s × All (Here S) rest1
      a1 = all_take (Here S) (UL S) s t1 G.stand

      a2 : Here S (UL S) × Here S t × All (Here S) rest
      a2 = all_take (Here S) (UL S) t t2 a1.2

      p1 : (same (UL S) s ≡ false) × Proper rest1
      p1 = proper_take (UL S) s t1 pr

      p2 : (same (UL S) t ≡ false) × Proper rest
      p2 = proper_take (UL S) t t2 p1.1

      none : standing (same (UL S)) rest ≡ 0
      none = omega (arith, standing_take (same (UL S)) (UL S) s t1, standing_take (same (UL S)) (UL S) t t2, ap one (same_self (UL S)), z)

      cut : (X : Cut) → astray (side X (UL S)) (side X (NUL S)) (side X s) + astray (side X (UL S)) (side X (BUL S)) (side X t) ≤ (G.cuts X).0
          → Margin (cap (present (narrow S)) X) (leaving (side X) ps')
      cut X b =
          let e1 = leaving_take (side X) (UL S) s t1 in let e2 = leaving_take (side X) (UL S) t t2 in
          let m = split_cut (side X (UL S)) (side X (NUL S)) (side X (BUL S)) (side X s) (side X t) _ _ (leaving (side X) rest) (G.cuts X).0
          (cap-narrow X) (omega (arith, (G.cuts X).1)) b in
          (m.0, omega (arith, m.1, leaving_cons (side X) (NUL S) s (pair (BUL S) t ∷ rest), leaving_cons (side X) (BUL S) t rest))

  -- ── divide: the pair p, q is led by way of the corner ──
  -- half of what that costs the margin of a cut
  abbrev byCorner : Cut → Vertex → Vertex → ℕ
  byCorner X p q = astray (side X p) (side X (NUL S)) (side X (UL S)) + astray (side X p) (side X (UL S)) (side X (BUL S)) + astray (side X p)
      (side X (BUL S)) (side X q)

  pub divide-good : (p q : Vertex) (rest : List Pair) → Take p q ps rest → standing (same (UL S)) ps ≡ 0
      → ((X : Cut) → byCorner X p q ≤ (G.cuts X).0)
      → Good (narrow S) (pair p (NUL S) ∷ pair (BUL S) q ∷ rest)
  divide-good p q rest tk z b = keep S (narrow S) ps (pair p (NUL S) ∷ pair (BUL S) q ∷ rest) G narrowed less
      (let r = all_here ps G.stand z in let k = all_take (Here (narrow S)) p q tk r in (k.0, nul-here, (bul-here, k.1, k.2)))
      (λ l c h e. omega (
        arith,
        standing_cons (same (at l c)) p (NUL S) (pair (BUL S) q ∷ rest),
        standing_cons (same (at l c)) (BUL S) q rest,
        standing_take (same (at l c)) p q tk,
      ))
      (λ X.
      let m = divide_cut (side X (UL S)) (side X (NUL S)) (side X (BUL S)) (side X p) (side X q) _ _ (leaving (side X) rest) (G.cuts X).0
      (cap-narrow X) (omega (arith, (G.cuts X).1, leaving_take (side X) p q tk)) (b X) in
      (m.0, omega (arith, m.1, leaving_cons (side X) p (NUL S) (pair (BUL S) q ∷ rest), leaving_cons (side X) (BUL S) q rest)))

  -- the pair with an end at NUL
  pub divide-nul : (q : Vertex) (rest : List Pair) → Take (NUL S) q ps rest → standing (same (UL S)) ps ≡ 0 → S.top < q.line
      → Roomy S ps (left_cut S)
      → Good (narrow S) (pair (NUL S) (NUL S) ∷ pair (BUL S) q ∷ rest)
  divide-nul q rest tk z h rc = let kc = roomy_two S ps G (left_cut S) rc in divide-good (NUL S) q rest tk z
      (by_cut S (λ X. byCorner X (NUL S) q ≤ (G.cuts X).0)
      (rw (at_top, below_top, lt-leb q.line S.top h) (omega arith))
      (λ r e. omega (
        arith,
        astray_start (leb S.top r) (leb S.top r) (leb S.top r) refl,
        astray_start (leb S.top r) (leb S.top r) (leb (suc S.top) r) refl,
        astray_start (leb S.top r) (leb (suc S.top) r) (leb q.line r) (leb_next S.top r e),
      ))
      (rw (at-start, past-start) (omega (arith, one_le (not (leb q.column (start S))))))
      (λ y e. let n = sym (leb_next (start S) y e) in
      omega (
        arith,
        astray_start (leb (suc (start S)) y) (leb (suc (start S)) y) (leb (start S) y) refl,
        astray_start (leb (suc (start S)) y) (leb (start S) y) (leb (start S) y) n,
        astray_start (leb (suc (start S)) y) (leb (start S) y) (leb q.column y) n,
      )))

  -- a pair that crosses the column cut, p right and q left, and no such pair has its right end above p
  pub divide-least : (p q : Vertex) (rest : List Pair) → Take p q ps rest → standing (same (UL S)) ps ≡ 0 → Full S ps (left_cut S)
      → start S < p.column → q.column ≤ start S → ((r : ℕ) → r < p.line → hits (across (start S) r) ps ≡ 0)
      → Good (narrow S) (pair p (NUL S) ∷ pair (BUL S) q ∷ rest)
  divide-least p q rest tk z k0 hp hq lst = divide-good p q rest tk z (by_cut S (λ X. byCorner X p q ≤ (G.cuts X).0)
      (rw (at_top, below_top, lt-leb q.line S.top low) (elim (le_case p.line S.top) [
        | inl h ↦ rw h.0 (omega arith)
        | inr h ↦ rw h.0 (room S.top (omega arith) h.2)
      ]))
      (λ r e. elim (le_or_lt S.top r) [
        | inl t ↦ rw (le-leb S.top r t, le-leb (suc S.top) r (omega (arith, e))) (elim (le_case p.line r) [
          | inl h ↦ rw h.0 (omega arith)
          | inr h ↦ rw h.0 (omega (arith, room r t h.2, one_le (not (leb q.line r))))
        ])
        | inr t ↦ rw (lt-leb S.top r t, lt-leb (suc S.top) r (omega arith), lt-leb p.line r (omega (arith, hk.0.low))) (omega arith)
      ])
      (rw (at-start, past-start, lt-leb p.column (start S) hp, le-leb q.column (start S) hq) (omega arith))
      (λ y e. elim (le_or_lt (start S) y) [
        | inl t ↦ rw (le-leb (start S) y t, le-leb (suc (start S)) y (omega (arith, e)), le-leb q.column y (omega arith))
            (omega (arith, astray_end (leb p.column y) true true refl))
        | inr t ↦ rw (lt-leb (start S) y t, lt-leb (suc (start S)) y (omega arith), lt-leb p.column y (omega arith)) (omega arith)
      ]))
    where
      hk : Here S p × Here S q × All (Here S) rest
      hk = all_take (Here S) p q tk G.stand

      -- q is not the corner, so not on the top line
      low : S.top < q.line
      low = elim (le_or_lt q.line S.top) [
        | inl h ↦
            absurd (omega (arith, standing_take (same (UL S)) p q tk, ap one (corner_here S q hk.1 h hq), z))
        | inr h ↦ h
      ]

      room : (r : ℕ) → S.top ≤ r → r < p.line → 1 ≤ (G.cuts (Row r)).0
      room r t h = roomy_two S ps G (Row r) (uncross S ps G T wide deep r t (omega (arith, hk.0.high)) z k0
          (omega (arith, lst r h, across_between (start S) r ps)))

  -- a pair that crosses the column cut and whose right end has the least line
  pub divide-cut-pair : standing (same (UL S)) ps ≡ 0 → Full S ps (left_cut S)
      → (p : Vertex) × (q : Vertex) × (rest : List Pair) × Take p q ps rest × Good (narrow S) (pair p (NUL S) ∷ pair (BUL S) q ∷ rest)
  divide-cut-pair z k0 = elim (least (across (start S)) ps (across_mono (start S) ps) S.bottom) [
    | inl e ↦ absurd (omega (arith, across_all (start S) S.bottom ps (all_map (λ v h. h.high) ps G.stand), cap-col S G.shaped T wide, k0))
    | inr f ↦
        let p = f.1.0 in let q = f.1.1 in let rest = f.1.2 in let tk = f.1.3 in let m = f.0 in
        let i = and_true (not (leb p.column (start S)) && leb q.column (start S)) (leb p.line m) f.1.4 in
        let j = and_true (not (leb p.column (start S))) (leb q.column (start S)) i.0 in (
          p,
          q,
          rest,
          tk,
          divide-least p q rest tk z k0 (unnot _ _ j.0) (leb-true q.column (start S) j.1)
              (λ r h. let l = leb-true p.line m i.1 in f.2 r (omega arith)),
        )
  ]
    where
      unnot : (m n : ℕ) → not (leb m n) ≡ true → n < m
      unnot m n e = elim (le_case m n) [ inl h ↦ absurd (let y : ◌≡◌ {A = ℕ} 0 1 = ap one (ap not (sym h.0) ∙ e) in omega arith) | inr h ↦ h.2 ]
