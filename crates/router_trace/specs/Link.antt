-- What `assemble` writes is the path that the notes give: the directions of its moves.
-- Assumes that the notes are `Ordered`, and of a path that it has at most 2,048 moves.
use Prim.Native.Nat.{ℕ, zero, suc, ◌+◌, ◌*◌, ◌<◌, ◌≤◌}
use Rattle.std.proofs.Math.Path.{◌≡◌, refl, sym, ap, subst}
use Rattle.std.proofs.Common.{ap₂, ◌∙◌, arith, add-one}
use Rattle.std.specs.Prelude.{Bool, true, false, cond, ◌⊎◌, ltb, eqb}
use mathlib.Core.List.{List, [], ◌∷◌, ◌++◌}
use Rattle.std.proofs.Math.Logic.{inl, inr}
use Rattle.std.proofs.Math.ListN.{length, get_or, length-append}
use borrow.Author.Tests.{eq-eqb, ne_eqb, lt-ltb, le-ltb, eqb-true, eqb-false, ltb-true, ltb-false}
use Rattle.count.specs.TruthLaws.{bool}
use Rattle.board.specs.declared.Vertex.{Vertex}
use Rattle.corner.specs.Trails.{hor, ver}
use Rattle.router_notes.specs.Limits.{pair_limit, last_pair, path_limit}
use Rattle.router_notes.specs.Notes.{Move, fwd, bwd, finish, opp, revm, Item, whole, parted, stay, on, Notes, Follows, stop, step, Path, plain, joint}
use Rattle.router_notes.specs.Arrays.{vtx, move_d, hop_at, hop_d, hop_of, born, partD, notesOf}
use Rattle.router_trace.specs.Hops.{line_d, column_d, opp_d}
use Rattle.router_trace.specs.Traces.{fore_d, back_d, path_d}
use Rattle.router_trace.specs.Directions.{dir_of, dirs, Ordered}

pub dirs_join : (xs ys : List Move) → dirs (xs ++ ys) ≡ dirs xs ++ dirs ys
dirs_join [] ys = refl
dirs_join (m ∷ xs) ys = ap (λ t. dir_of m ∷ t) (dirs_join xs ys)

pub dir_opp : (m : Move) → dir_of (opp m) ≡ opp_d (dir_of m)
unfolding opp_d
dir_opp (fwd (hor l c)) = refl
dir_opp (fwd (ver l c)) = refl
dir_opp (bwd (hor l c)) = refl
dir_opp (bwd (ver l c)) = refl

dir_move : (d : ℕ) (v : Vertex) → d < 4 → dir_of (move_d d v) ≡ d
unfolding move_d
dir_move d v h = elim (bool (eqb d 1)) [
  | inl e ↦ rw e (sym (eqb-true d 1 e))
  | inr e ↦ elim (bool (eqb d 2)) [
    | inl f ↦ rw (e, f) (sym (eqb-true d 2 f))
    | inr f ↦ elim (bool (eqb d 0)) [
      | inl g ↦ rw (e, f, g) (sym (eqb-true d 0 g))
      | inr g ↦ rw (e, f, g) (omega (arith, eqb-false d 1 e, eqb-false d 2 f, eqb-false d 0 g))
    ]
  ]
]

-- hops are 0, 1, 2 or 4
hop_range : (side vert : List ℕ) (k l c : ℕ) → (hop_d side vert k l c ≡ 3 → ⊥) × (hop_d side vert k l c ≤ 4)
unfolding hop_d hop_at
hop_range side vert k l c = go (ltb l 32) (ltb c 32) (eqb (get_or side (l * 32 + c) 0) (k + 1)) (eqb (get_or vert (l * 32 + c) 0) (2 * k + 2))
    (eqb (get_or vert (l * 32 + c) 0) (2 * k + 3))
  where
    go : (a b x y z : Bool) → (cond {A = ℕ} a (cond b (cond x 1 (cond y 2 (cond z 0 4))) 4) 4 ≡ 3 → ⊥)
        × (cond {A = ℕ} a (cond b (cond x 1 (cond y 2 (cond z 0 4))) 4) 4 ≤ 4)
    go false b x y z = (λ e. omega arith, omega arith)
    go true false x y z = (λ e. omega arith, omega arith)
    go true true true y z = (λ e. omega arith, omega arith)
    go true true false true z = (λ e. omega arith, omega arith)
    go true true false false true = (λ e. omega arith, omega arith)
    go true true false false false = (λ e. omega arith, omega arith)

finish_line : (d : ℕ) (v : Vertex) → d ≤ 4 → (d ≡ 3 → ⊥) → (d ≡ 4 → ⊥)
    → ((finish (move_d d v)).line ≡ line_d d v.line) × ((finish (move_d d v)).column ≡ column_d d v.column)
unfolding move_d line_d column_d
finish_line d v h n m = elim (bool (eqb d 1)) [
  | inl e ↦ rw (e, ne_eqb d 2 (λ z. omega (arith, eqb-true d 1 e)), ne_eqb d 0 (λ z. omega (arith, eqb-true d 1 e))) (refl, sym (add-one v.column))
  | inr e ↦ elim (bool (eqb d 2)) [
    | inl f ↦ rw (e, f) (sym (add-one v.line), refl)
    | inr f ↦ elim (bool (eqb d 0)) [
      | inl g ↦ rw (e, f, g) (refl, refl)
      | inr g ↦ absurd (omega (arith, eqb-false d 1 e, eqb-false d 2 f, eqb-false d 0 g))
    ]
  ]
]

module _ (side vert half s1 s2 d1 d2 : List ℕ) where
  abbrev N : Notes
  N = notesOf side vert half s1 s2 d1 d2

  abbrev H : ℕ → Vertex → ℕ
  H k v = hop_d side vert k v.line v.column

  hop-stay : (k : ℕ) (v : Vertex) → N.go k v ≡ stay → H k v ≡ 4
  unfolding hop_of
  hop-stay k v h = elim (bool (eqb (H k v) 4)) [
    | inl e ↦ eqb-true (H k v) 4 e
    | inr e ↦ absurd (let g : on (move_d (H k v) v) ≡ stay = rw e at h in let z : ◌≡◌ {A = ℕ} 0 1 = cc in omega arith)
  ]

  hop-on : (k : ℕ) (v : Vertex) (m : Move) → N.go k v ≡ on m → (H k v ≡ 4 → ⊥) × (move_d (H k v) v ≡ m)
  unfolding hop_of
  hop-on k v m h = elim (bool (eqb (H k v) 4)) [
    | inl e ↦ absurd (let g : stay ≡ on m = rw e at h in let z : ◌≡◌ {A = ℕ} 0 1 = cc in omega arith)
    | inr e ↦ let g : on (move_d (H k v) v) ≡ on m = rw e at h in (eqb-false (H k v) 4 e, cc)
  ]

  hop-next : (k : ℕ) (v : Vertex) (m : Move) → N.go k v ≡ on m
      → (H k v ≡ dir_of m) × (line_d (H k v) v.line ≡ (finish m).line) × (column_d (H k v) v.column ≡ (finish m).column)
  hop-next k v m h =
      let g = hop-on k v m h in let r = hop_range side vert k v.line v.column in
      let f = finish_line (H k v) v r.1 r.0 g.0 in
      let d = dir_move (H k v) v (omega (arith, r.1, g.0)) in
      (sym d ∙ ap dir_of g.1, sym f.0 ∙ ap (λ x. (finish x).line) g.1, sym f.1 ∙ ap (λ x. (finish x).column) g.1)

  pub fore-is : (f k : ℕ) (v : Vertex) (ms : List Move) → Follows N k v ms → length ms ≤ f → fore_d side vert k f v.line v.column ≡ dirs ms
  unfolding fore_d
  fore-is zero k v [] (stop g) b = refl
  fore-is (suc f) k v [] (stop g) b = rw (eq-eqb (H k v) 4 (hop-stay k v g))
  fore-is zero k v (m ∷ ms) (step g r) b = absurd (omega arith)
  fore-is (suc f) k v (m ∷ ms) (step g r) b =
      let n = hop-next k v m g in
      rw (ne_eqb (H k v) 4 (hop-on k v m g).0, n.1, n.2, n.0) (ap (λ t. dir_of m ∷ t) (fore-is f k (finish m) ms r (omega arith)))

  pub back_is : (f k : ℕ) (v : Vertex) (ms : List Move) → Follows N k v ms → length ms ≤ f
      → back_d side vert k f v.line v.column ≡ dirs (revm ms)
  unfolding back_d revm
  back_is zero k v [] (stop g) b = refl
  back_is (suc f) k v [] (stop g) b = rw (eq-eqb (H k v) 4 (hop-stay k v g))
  back_is zero k v (m ∷ ms) (step g r) b = absurd (omega arith)
  back_is (suc f) k v (m ∷ ms) (step g r) b =
      let n = hop-next k v m g in
      rw (ne_eqb (H k v) 4 (hop-on k v m g).0, n.1, n.2, n.0, dirs_join (revm ms) (opp m ∷ []), dir_opp m)
      (ap (λ t. t ++ (opp_d (dir_of m) ∷ [])) (back_is f k (finish m) ms r (omega arith)))

  length-rev : (ms : List Move) → length (revm ms) ≡ length ms
  unfolding revm
  length-rev [] = refl
  length-rev (m ∷ ms) = rw (length-append, length-rev ms) (omega arith)

  part-whole : (k : ℕ) → partD side vert half s1 s2 d1 d2 k ≡ whole → (get_or half k 0 ≡ 0) ⊎ ((get_or half k 0 ≡ 0 → ⊥) × (last_pair ≤ get_or half k 0))
  unfolding partD
  part-whole k h = elim (bool (eqb (get_or half k 0) 0)) [
    | inl e ↦ inl (eqb-true _ 0 e)
    | inr e ↦ elim (bool (ltb (get_or half k 0) last_pair)) [
      | inl f ↦ absurd (let g = rw (e, f) at h in let z : ◌≡◌ {A = ℕ} 0 1 = cc in omega arith)
      | inr f ↦ inr (eqb-false _ 0 e, ltb-false _ last_pair f)
    ]
  ]

  part-parted : (k : ℕ) (h j : Item) (m n : Move) → partD side vert half s1 s2 d1 d2 k ≡ parted h m n j
      → (get_or half k 0 ≡ 0 → ⊥) × (get_or half k 0 < last_pair) × (born side vert half s1 s2 d1 d2 (get_or half k 0) ≡ h)
      × (born side vert half s1 s2 d1 d2 (get_or half k 0 + 1) ≡ j)
      × (move_d (get_or d1 k 0) (born side vert half s1 s2 d1 d2 (get_or half k 0)).b ≡ m)
      × (move_d (get_or d2 k 0) (finish (move_d (get_or d1 k 0) (born side vert half s1 s2 d1 d2 (get_or half k 0)).b)) ≡ n)
  unfolding partD
  part-parted k h j m n p = elim (bool (eqb (get_or half k 0) 0)) [
    | inl e ↦ absurd (let g = rw e at p in let z : ◌≡◌ {A = ℕ} 0 1 = cc in omega arith)
    | inr e ↦ elim (bool (ltb (get_or half k 0) last_pair)) [
      | inl f ↦ let g = rw (e, f) at p in (eqb-false _ 0 e, ltb-true _ last_pair f, cc, cc, cc, cc)
      | inr f ↦ absurd (let g = rw (e, f) at p in let z : ◌≡◌ {A = ℕ} 0 1 = cc in omega arith)
    ]
  ]

  -- what the code writes is the path
  pub path_is : Ordered half d1 d2 → (f k : ℕ) (i : Item) (ms : List Move) → i ≡ born side vert half s1 s2 d1 d2 k → Path N i ms → k < pair_limit
      → pair_limit ≤ f + k → length ms ≤ path_limit
      → path_d side vert half s1 s2 d1 d2 f k ≡ dirs ms
  unfolding path_d
  path_is O zero k i ms q p a b c = absurd (omega arith)
  path_is O (suc f) k i ms q (plain {xs = xs} {ys = ys} p x y e) a b c =
      let z : length ms ≡ length xs + length ys = ap length e ∙ rw (length-append, length-rev ys) in
      let x' = subst (λ w. Follows N w.id w.a xs) q x in
      let y' = subst (λ w. Follows N w.id w.b ys) q y in
      let w : partD side vert half s1 s2 d1 d2 k ≡ whole = subst (λ w. partD side vert half s1 s2 d1 d2 w.id ≡ whole) q p in
      rw (
        fore-is path_limit k (vtx (get_or s1 k 0)) xs x' (omega arith),
        back_is path_limit k (vtx (get_or s2 k 0)) ys y' (omega arith),
        e,
        dirs_join xs (revm ys),
      )
      (elim (part-whole k w) [
        | inl g ↦ rw (eq-eqb (get_or half k 0) 0 g)
        | inr g ↦ rw (ne_eqb (get_or half k 0) 0 g.0, le-ltb (get_or half k 0) last_pair g.1)
      ])
  path_is O (suc f) k i ms q (joint {h = h} {j = j} {m = m} {n = n} {xs = xs} {ys = ys} {ps = ps} {qs = qs} p x y u v e) a b c =
      let z : length ms ≡ length xs + ((length ps + suc (suc (length qs))) + length ys) =
      ap length e ∙ rw (length-append, length-append, length-append, length-rev ys) in
      let x' = subst (λ w. Follows N w.id w.a xs) q x in
      let y' = subst (λ w. Follows N w.id w.b ys) q y in
      let w : partD side vert half s1 s2 d1 d2 k ≡ parted h m n j = subst (λ w. partD side vert half s1 s2 d1 d2 w.id ≡ parted h m n j) q p in
      let g = part-parted k h j m n w in
      let l : k < get_or half k 0 = elim (O.later k) [ inl d ↦ absurd (g.0 d) | inr d ↦ d ] in
      let r1 = path_is O f (get_or half k 0) h ps (sym g.2) u (omega (arith, g.1)) (omega arith) (omega arith) in
      let r2 = path_is O f (get_or half k 0 + 1) j qs (sym g.3) v (omega (arith, g.1)) (omega arith) (omega arith) in
      let t1 : dir_of m ≡ get_or d1 k 0 = sym (ap dir_of g.4) ∙ dir_move _ _ (O.first k) in
      let t2 : dir_of n ≡ get_or d2 k 0 = sym (ap dir_of g.5) ∙ dir_move _ _ (O.second k) in
      rw (
        fore-is path_limit k (vtx (get_or s1 k 0)) xs x' (omega arith),
        back_is path_limit k (vtx (get_or s2 k 0)) ys y' (omega arith),
        ne_eqb (get_or half k 0) 0 g.0,
        lt-ltb (get_or half k 0) last_pair g.1,
        e,
        dirs_join xs ((ps ++ (m ∷ n ∷ qs)) ++ revm ys),
        dirs_join (ps ++ (m ∷ n ∷ qs)) (revm ys),
        dirs_join ps (m ∷ n ∷ qs),
        t1,
        t2,
      )
      (ap₂ (λ s t. dirs xs ++ ((s ++ (get_or d1 k 0 ∷ get_or d2 k 0 ∷ t)) ++ dirs (revm ys))) r1 r2)
