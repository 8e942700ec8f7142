-- Notes written at one vertex: what they say there, and that they say nothing new elsewhere.
-- Assumes nothing.
use Rattle.std.specs.Prelude.{◌≡◌, refl, true, List, ◌⊎◌, ℕ, ◌+◌, ◌*◌, ◌<◌, length, set, ltb}
use Rattle.std.proofs.Math.Path.{ap, sym}
use Rattle.std.proofs.Common.{◌∙◌, subst, arith, get_or-set_same, get_or-set_other, eq-eqb, ne_eqb, lt-ltb, ltb-true}
use Rattle.std.proofs.Math.Logic.{inl, inr}
use Rattle.count.specs.TruthLaws.{bool, clash, and_yes}
use Rattle.board.specs.declared.Vertex.{Vertex}
use Rattle.net.specs.Terminals.{same}
use Rattle.cut.specs.Cut.{side}
use Rattle.net.specs.Same.{same_true}
use Rattle.router_notes.specs.Limits.{vertex_limit}
use Rattle.router_notes.specs.Notes.{stay}
use Rattle.router_notes.specs.Arrays.{hop_at, hop_d, hop_of}

pub hop_other : (side vert : List ℕ) (p x y k l c : ℕ) → (c < 32 → l * 32 + c ≡ p → ⊥)
    → hop_d (set side p x) (set vert p y) k l c ≡ hop_d side vert k l c
unfolding hop_d
hop_other side vert p x y k l c h = elim (bool (ltb l 32)) [
  | inr e ↦ rw e
  | inl e ↦ elim (bool (ltb c 32)) [
    | inr f ↦ rw (e, f)
    | inl f ↦ let n = h (ltb-true c 32 f) in rw (e, f, get_or-set_other side p (l * 32 + c) x 0 n, get_or-set_other vert p (l * 32 + c) y 0 n)
  ]
]

pub hop_here : (side vert : List ℕ) (p x y k l c : ℕ) → l < 32 → c < 32 → l * 32 + c ≡ p → p < length side → p < length vert
    → hop_d (set side p x) (set vert p y) k l c ≡ hop_at x y k
unfolding hop_d
hop_here side vert p x y k l c a b e h g = rw (lt-ltb l 32 a, lt-ltb c 32 b, e, get_or-set_same side p x 0 h, get_or-set_same vert p y 0 g)

-- who leaves the vertex with notes s and v
pub hop_right : (s v k : ℕ) → s ≡ k + 1 → hop_at s v k ≡ 1
unfolding hop_at
hop_right s v k e = rw (eq-eqb s (k + 1) e)

pub hop_down : (s v k : ℕ) → (s ≡ k + 1 → ⊥) → v ≡ 2 * k + 2 → hop_at s v k ≡ 2
unfolding hop_at
hop_down s v k n e = rw (ne_eqb s (k + 1) n, eq-eqb v (2 * k + 2) e)

pub hop_up : (s v k : ℕ) → (s ≡ k + 1 → ⊥) → v ≡ 2 * k + 3 → hop_at s v k ≡ 0
unfolding hop_at
hop_up s v k n e = rw (ne_eqb s (k + 1) n, ne_eqb v (2 * k + 2) (λ z. omega arith), eq-eqb v (2 * k + 3) e)

pub hop_none : (s v k : ℕ) → (s ≡ k + 1 → ⊥) → (v ≡ 2 * k + 2 → ⊥) → (v ≡ 2 * k + 3 → ⊥) → hop_at s v k ≡ 4
unfolding hop_at
hop_none s v k n m o = rw (ne_eqb s (k + 1) n, ne_eqb v (2 * k + 2) m, ne_eqb v (2 * k + 3) o)

-- two vertices of one word are the same
same_word : (u v : Vertex) → u.column < 32 → v.column < 32 → u.line * 32 + u.column ≡ v.line * 32 + v.column → same u v ≡ true
same_word u v a b e = and_yes _ _ (eq-eqb u.line v.line (omega arith)) (eq-eqb u.column v.column (omega arith))

module _ (side vert : List ℕ) (u : Vertex) (line : u.line < 32) (column : u.column < 32) (ls : length side ≡ vertex_limit)
    (lv : length vert ≡ vertex_limit)
    (s v : ℕ) where
  abbrev word : ℕ
  word = u.line * 32 + u.column

  pub go-here : (k : ℕ) → hop_of (hop_d (set side word s) (set vert word v) k u.line u.column) u ≡ hop_of (hop_at s v k) u
  go-here k = ap (λ d. hop_of d u) (hop_here side vert word s v k u.line u.column line column refl (omega arith) (omega arith))

  -- nothing changes elsewhere, nor for a pair that the two notes do not name
  pub go-kept : (Who : ℕ → Type 0) → ((k : ℕ) → hop_of (hop_d side vert k u.line u.column) u ≡ stay) → ((k : ℕ) → (hop_at s v k ≡ 4) ⊎ Who k)
      → (k : ℕ) (w : Vertex)
      → (hop_of (hop_d (set side word s) (set vert word v) k w.line w.column) w ≡ hop_of (hop_d side vert k w.line w.column) w) ⊎
      ((u ≡ w) × Who k)
  unfolding hop_of
  go-kept Who quiet named k w = elim (bool (same u w)) [
    | inl e ↦ elim (named k) [
      | inr h ↦ inr (same_true u w e, h)
      | inl h ↦ inl (subst (λ z. hop_of (hop_d (set side word s) (set vert word v) k z.line z.column) z
          ≡ hop_of (hop_d side vert k z.line z.column) z) (same_true u w e)
          (go-here k ∙ ap (λ d. hop_of d u) h ∙ sym (quiet k)))
    ]
    | inr e ↦ inl (ap (λ d. hop_of d w) (hop_other side vert word s v k w.line w.column (λ b z. clash (same_word u w column b (sym z)) e)))
  ]
