-- Pins that may be taken: of each vertex no more are taken than it has (`taken_most`), and each is at a vertex (`taken_vertices`).
-- Assumes that the taken pins come in reading order and are there.
use Rattle.std.specs.Prelude.{◌≡◌, refl, true, false, not, ◌&&◌, List, [], ◌∷◌, ◌⊎◌, ◌≤◌, ◌<◌, eqb, leb, ltb}
use Rattle.std.proofs.Common.{inl, inr, arith, eqb-true, ltb-true, ltb-false, leb-true}
use Rattle.std.proofs.lemmas.Bool.{not-true, not-false}
use Rattle.count.specs.TruthLaws as truth
use Rattle.count.specs.TruthLaws.{bool, and_true, or_true, or_false}
use Rattle.count.specs.Each.{Each}
use Rattle.board.specs.Board.{Board}
use Rattle.board.specs.Degree.{vertex?}
use Rattle.board.specs.declared.Vertex.{Vertex}
use Rattle.net.specs.Terminals.{same}
use Rattle.net.specs.Same.{same_exact}
use Rattle.board_block.specs.Book.{pins_by}
use Rattle.board_block.specs.Block.{taken_at}
use Rattle.board_block.specs.Taken.{comes_before, in_order?, one_or_two, over_taken, all_there?}
use Rattle.board_block.specs.declared.Book.{Book}
use Rattle.board_block.specs.declared.TakenPins.{TakenPins}

-- ── the pins of one vertex ──
-- DEFINITION: at a vertex of the board, one or two, and no more than it has
pub record There (k : Book) (b : Board) (t : TakenPins) : Type 0 where
  pub vertex : vertex? b t.vertex ≡ true
  pub count : one_or_two t.count ≡ true
  pub some : 1 ≤ t.count
  pub most : t.count ≤ pins_by k b t.vertex

there : (k : Book) (b : Board) (t : TakenPins) → one_or_two t.count && not (over_taken k b t) ≡ true → There k b t
there k b t e =
    let x = and_true (one_or_two t.count) (not (over_taken k b t)) e in
    let o = or_false (not (vertex? b t.vertex)) (ltb (pins_by k b t.vertex) t.count) (not-true (over_taken k b t) x.1) in
    record {
      vertex = not-false (vertex? b t.vertex) o.0;
      count = x.0;
      some = leb-true 1 t.count (and_true (leb 1 t.count) (leb t.count 2) x.0).0;
      most = ltb-false (pins_by k b t.vertex) t.count o.1;
    }

pub taken_vertices : (k : Book) (b : Board) (ts : List TakenPins) → all_there? k b ts ≡ true → Each (There k b) ts
unfolding all_there?
taken_vertices k b [] e = tt
taken_vertices k b (t ∷ ts) e =
    let x = and_true (one_or_two t.count && not (over_taken k b t)) (all_there? k b ts) e in
    (there k b t x.0, taken_vertices k b ts x.1)

-- ── reading order ──
-- DEFINITION: u comes before v
abbrev Before : Vertex → Vertex → Type 0
Before u v = (u.line < v.line) ⊎ ((u.line ≡ v.line) × (u.column < v.column))

before_of : (u v : Vertex) → comes_before u v ≡ true → Before u v
before_of u v e = elim (or_true (ltb u.line v.line) (eqb u.line v.line && ltb u.column v.column) e) [
  | inl p ↦ inl (ltb-true u.line v.line p)
  | inr p ↦
      let q = and_true (eqb u.line v.line) (ltb u.column v.column) p in
      inr (eqb-true u.line v.line q.0, ltb-true u.column v.column q.1)
]

before_then : (u v w : Vertex) → Before u v → Before v w → Before u w
before_then u v w (inl p) (inl q) = inl (omega arith)
before_then u v w (inl p) (inr q) = inl (omega (arith, q.0))
before_then u v w (inr p) (inl q) = inl (omega (arith, p.0))
before_then u v w (inr p) (inr q) = inr (omega (arith, p.0, q.0), omega (arith, p.1, q.1))

before_other : (u v : Vertex) → Before u v → same v u ≡ false
before_other u v b = truth.not_true (same v u) (λ e. never (rw ((same_exact v u).0 e) at b))
  where
    never : Before u u → ⊥
    never (inl p) = omega arith
    never (inr p) = omega (arith, p.1)

-- behind a vertex nothing more is listed of it
-- DEFINITION: v comes before the first of them
abbrev Leads : Vertex → List TakenPins → Type 0
Leads v [] = Unit {0}
Leads v (t ∷ ts) = Before v t.vertex

leads_rest : (v : Vertex) (t : TakenPins) (ts : List TakenPins) → Before v t.vertex → in_order? (t ∷ ts) ≡ true → Leads v ts × (in_order? ts ≡ true)
unfolding in_order?
leads_rest v t [] b o = (tt, refl)
leads_rest v t (u ∷ us) b o =
    let k = and_true (comes_before t.vertex u.vertex) (in_order? (u ∷ us)) o in
    (before_then v t.vertex u.vertex b (before_of t.vertex u.vertex k.0), k.1)

nothing_behind : (v : Vertex) (ts : List TakenPins) → Leads v ts → in_order? ts ≡ true → taken_at ts v ≡ 0
unfolding taken_at
nothing_behind v [] l o = refl
nothing_behind v (t ∷ ts) l o =
    let k = leads_rest v t ts l o in
    let r = nothing_behind v ts k.0 k.1 in
    rw (before_other v t.vertex l) (omega arith)

after_first : (t : TakenPins) (ts : List TakenPins) → in_order? (t ∷ ts) ≡ true → Leads t.vertex ts × (in_order? ts ≡ true)
unfolding in_order?
after_first t [] o = (tt, refl)
after_first t (u ∷ us) o =
    let k = and_true (comes_before t.vertex u.vertex) (in_order? (u ∷ us)) o in (before_of t.vertex u.vertex k.0, k.1)

-- ── no more than there are ──
pub taken_most : (k : Book) (b : Board) (ts : List TakenPins) (v : Vertex) → in_order? ts ≡ true → all_there? k b ts ≡ true
    → taken_at ts v ≤ pins_by k b v
unfolding taken_at all_there?
taken_most k b [] v o e = omega arith
taken_most k b (t ∷ ts) v o e =
    let x = and_true (one_or_two t.count && not (over_taken k b t)) (all_there? k b ts) e in
    let f = after_first t ts o in
    elim (bool (same t.vertex v)) [
      | inl s ↦
          let u = (same_exact t.vertex v).0 s in
          let z : taken_at ts v ≡ 0 = rw (← u) (nothing_behind t.vertex ts f.0 f.1) in
          let m : t.count ≤ pins_by k b v = rw (← u) (there k b t x.0).most in
          rw s (omega arith)
      | inr s ↦ rw s (let r = taken_most k b ts v f.1 x.1 in omega arith)
    ]
