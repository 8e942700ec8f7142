-- Two edges that lie within lines and columns 0 to 31 have different slots; so a mark at one slot changes the map at one edge.
-- Assumes nothing; an edge of a board within the limits lies so.
use Rattle.std.specs.Prelude.{◌≡◌, refl, Bool, true, false, cond, List, ◌⊎◌, ℕ, suc, ◌+◌, ◌*◌, ◌/◌, ◌%◌, ◌<◌, eqb, length, get_or, set}
use Rattle.std.proofs.Common.{ap, sym, ◌∙◌, inl, inr, arith, get_or-set_same, get_or-set_other, eq-eqb, ne_eqb}
use Rattle.count.specs.TruthLaws.{bool, clash}
use Rattle.count.specs.Bits.{eq_case}
use Rattle.board.specs.Board.{Board, Within, Edge, IsEdge, at, Side, top_side, bottom_side, left_side, right_side}
use Rattle.board.specs.Path.{along}
use Rattle.board.specs.EdgesAt.{edge_eq}
use Rattle.board.specs.declared.Vertex.{Vertex}
use Rattle.board.specs.declared.Direction.{Direction}
use Rattle.board.specs.declared.Direction.TheVariants.{Up, Right, Down, Left}
use Rattle.routing_rules.specs.Routing.{same_edge}
use Rattle.routing_rules.specs.Check.{same_edge_exact}
use Rattle.judge_walk.specs.Slots.{corner, slot, slot_at, edge_at}

-- ── an edge of a board within the limits, by its left or upper end ──
pub record Lies (e : Edge) : Type 0 where
  pub line : e.from.line < 32
  pub column : e.from.column < 32
  pub to : (e.to ≡ at e.from.line (suc e.from.column)) ⊎ (e.to ≡ at (suc e.from.line) e.from.column)

side_lies : {i j : ℕ} {e : Edge} → i < 31 → j < 31 → Side i j e → Lies e
side_lies h k top_side = record { line = omega arith; column = omega arith; to = inl refl }
side_lies h k bottom_side = record { line = omega arith; column = omega arith; to = inl refl }
side_lies h k left_side = record { line = omega arith; column = omega arith; to = inr refl }
side_lies h k right_side = record { line = omega arith; column = omega arith; to = inr refl }

pub edge_lies : (b : Board) → Within b → (e : Edge) → IsEdge b e → Lies e
edge_lies b w e (i, j, c, s) = side_lies (omega (arith, c.row, w.few)) (omega (arith, c.to, w.fits i c.row)) s

-- ── its slot ──
pub slot_across : (e : Edge) → e.to ≡ at e.from.line (suc e.from.column) → slot e ≡ corner e.from.line e.from.column
slot_across e t =
    let k : e.from.line ≡ e.to.line = sym (ap (λ (v : Vertex). v.line) t) in
    rw (eq-eqb e.from.line e.to.line k) (omega arith)

pub slot_down : (e : Edge) → e.to ≡ at (suc e.from.line) e.from.column → slot e ≡ corner e.from.line e.from.column + 1
slot_down e t =
    let k : e.to.line ≡ suc e.from.line = ap (λ (v : Vertex). v.line) t in
    rw (ne_eqb e.from.line e.to.line (λ z. omega arith)) (omega arith)

pub slot_small : (e : Edge) → slot e < 2048
slot_small e = go (eqb e.from.line e.to.line)
  where
    go : (t : Bool) → corner e.from.line e.from.column + cond t 0 1 < 2048
    go true = omega arith
    go false = omega arith

-- the slot that a walk looks at
pub slot_along : (b : Board) → Within b → (d : Direction) (v : Vertex) → IsEdge b (along d v) → slot_at d v ≡ slot (along d v)
slot_along b w Up v h = elim (edge_lies b w (along Up v) h).to [
  | inl t ↦ absurd (let k : v.column ≡ suc v.column = ap (λ (u : Vertex). u.column) t in omega arith)
  | inr t ↦ sym (slot_down (along Up v) t)
]
slot_along b w Right v h = sym (slot_across (along Right v) refl)
slot_along b w Down v h = sym (slot_down (along Down v) refl)
slot_along b w Left v h = elim (edge_lies b w (along Left v) h).to [
  | inl t ↦ sym (slot_across (along Left v) t)
  | inr t ↦ absurd (let k : v.line ≡ suc v.line = ap (λ (u : Vertex). u.line) t in omega arith)
]

-- ── no two edges have one slot ──
even_or_odd : (x y : ℕ) → x * 2 ≡ y * 2 + 1 → ⊥
even_or_odd x y e = omega arith

across_not_down : (e f : Edge) → slot e ≡ corner e.from.line e.from.column → slot f ≡ corner f.from.line f.from.column + 1
    → slot e ≡ slot f → ⊥
across_not_down e f p q s =
    even_or_odd (e.from.line % 32 * 32 + e.from.column % 32) (f.from.line % 32 * 32 + f.from.column % 32) (omega arith)

digits_apart : (l c m d : ℕ) → c < 32 → d < 32 → l * 64 + c * 2 ≡ m * 64 + d * 2 → (l ≡ m) × (c ≡ d)
digits_apart l c m d h k e = let p : l ≡ m = omega arith in (p, omega arith)

corner_apart : (l c m d : ℕ) → l < 32 → c < 32 → m < 32 → d < 32 → corner l c ≡ corner m d → (l ≡ m) × (c ≡ d)
corner_apart l c m d g h j k e =
    let p : l % 32 ≡ l = omega arith in
    let q : c % 32 ≡ c = omega arith in
    let r : m % 32 ≡ m = omega arith in
    let s : d % 32 ≡ d = omega arith in
    digits_apart l c m d h k (rw (p, q, r, s) at e)

slots_apart : (e f : Edge) → Lies e → Lies f → slot e ≡ slot f → e ≡ f
slots_apart e f l m s = elim l.to [
  | inl t ↦ elim m.to [
    | inl u ↦ ends-meet (sym (slot_across e t) ∙ (s ∙ slot_across f u)) (λ p q. t ∙ (rw (p, q) (sym u)))
    | inr u ↦ absurd (across_not_down e f (slot_across e t) (slot_down f u) s)
  ]
  | inr t ↦ elim m.to [
    | inl u ↦ absurd (across_not_down f e (slot_across f u) (slot_down e t) (sym s))
    | inr u ↦ ends-meet (let z = slot_down e t in let y = slot_down f u in omega arith) (λ p q. t ∙ (rw (p, q) (sym u)))
  ]
]
  where
    ends-meet : corner e.from.line e.from.column ≡ corner f.from.line f.from.column
        → (e.from.line ≡ f.from.line → e.from.column ≡ f.from.column → e.to ≡ f.to) → e ≡ f
    ends-meet x k =
        let p = corner_apart _ _ _ _ l.line l.column m.line m.column x in
        edge_eq e f p.0 p.1 (k p.0 p.1)

-- ── the edge of a slot ──
pub edge_at_lies : (s : ℕ) → s < 2048 → Lies (edge_at s)
edge_at_lies s h = record { line = omega arith; column = omega arith; to = go (eqb (s % 2) 0) }
  where
    go : (t : Bool) → (cond t (at (s / 64) (suc (s % 64 / 2))) (at (suc (s / 64)) (s % 64 / 2)) ≡ at (s / 64) (suc (s % 64 / 2)))
        ⊎ (cond t (at (s / 64) (suc (s % 64 / 2))) (at (suc (s / 64)) (s % 64 / 2)) ≡ at (suc (s / 64)) (s % 64 / 2))
    go true = inl refl
    go false = inr refl

pub slot_edge_at : (s : ℕ) → s < 2048 → slot (edge_at s) ≡ s
slot_edge_at s h =
    let l : s / 64 % 32 ≡ s / 64 = omega arith in
    let c : s % 64 / 2 % 32 ≡ s % 64 / 2 = omega arith in
    let o : s % 64 % 2 ≡ s % 2 = omega arith in
    let t : s % 64 / 2 * 2 + s % 64 % 2 ≡ s % 64 = omega arith in
    let u : s / 64 * 64 + s % 64 ≡ s = omega arith in
    elim (eq_case (s % 2) 0) [
      | inl e ↦ rw (e.0, eq-eqb (s / 64) (s / 64) refl, l, c) (omega (arith, e.2))
      | inr e ↦ rw (e.0, ne_eqb (s / 64) (suc (s / 64)) (λ z. omega arith), l, c) (omega (arith, e.2))
    ]

pub edge_at_slot : (e : Edge) → Lies e → edge_at (slot e) ≡ e
edge_at_slot e l = slots_apart (edge_at (slot e)) e (edge_at_lies (slot e) (slot_small e)) l (slot_edge_at (slot e) (slot_small e))

-- ── a mark ──
pub marked_at : (m : List ℕ) (k : ℕ) → length m ≡ 2048 → (e f : Edge) → Lies e → Lies f
    → get_or (set m (slot f) k) (slot e) 0 ≡ cond (same_edge e f) k (get_or m (slot e) 0)
marked_at m k l e f p q = elim (bool (same_edge e f)) [
  | inl s ↦
      let z : slot e ≡ slot f = ap slot ((same_edge_exact e f).0 s) in
      rw (s, z) (get_or-set_same m (slot f) k 0 (omega (arith, slot_small f, l)))
  | inr s ↦
      let d : slot e ≡ slot f → ⊥ = λ z. clash ((same_edge_exact e f).1 (slots_apart e f p q z)) s in
      rw s (get_or-set_other m (slot f) (slot e) k 0 d)
]
