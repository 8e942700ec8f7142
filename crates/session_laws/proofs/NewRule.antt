-- What stands under the old rule and is nowhere more than the new rule has pins for, stands under the new one: the taken pins (`taken-new`) and the
-- nets (`fine-new`). And the other way round: what stands under the new rule is nowhere more (`new_none_over`). The search for a vertex that has more
-- finds none exactly where there is none (`over_none`), and else the first (`over_first`).
-- Assumes that the board is within the limits, where a search is spoken of.
use Rattle.std.specs.Prelude.{◌≡◌, true, false, not, ◌&&◌, List, [], ◌∷◌, ◌↔◌, ◌+◌, ◌≤◌, ◌<◌}
use Rattle.std.proofs.Math.Path.{refl}
use Rattle.std.proofs.Common.{inl, inr, arith}
use Rattle.std.proofs.Math.Option.{none, some}
use Rattle.std.proofs.Math.Dec.{ltb}
use borrow.Author.Tests.{ltb-true, lt-ltb, le-ltb}
use Rattle.count.specs.TruthLaws.{bool, clash, not_true, and_true, and_yes, le_or_lt}
use Rattle.count.specs.Lists.{select, first, head-none}
use Rattle.board.specs.Board.{Board, Within, IsVertex}
use Rattle.board.specs.Degree.{vertex?, pins}
use Rattle.board.specs.Order.{reading_order}
use Rattle.board.specs.OrderLaws.{none_passes, first_passes}
use Rattle.board.specs.Tests.{vertex_exact}
use Rattle.board.specs.declared.Vertex.{Vertex}
use Rattle.board_convex.proofs.Places.{vertex_placed}
use Rattle.board_block.specs.Block.{Block, taken_at, pins_of}
use Rattle.board_block.specs.Book.{pins_by}
use Rattle.board_block.proofs.Pins.{book_below, pins_below}
use Rattle.board_block.specs.Taken.{in_order?, one_or_two, over_taken, all_there?, taken_fine?}
use Rattle.board_block.proofs.TakenLaws.{There, taken_vertices, taken_most}
use Rattle.board_block.specs.declared.Book.{Book}
use Rattle.board_block.specs.declared.Book.TheVariants.{New}
use Rattle.board_block.specs.declared.TakenPins.{TakenPins}
use Rattle.net.specs.Same.{same_self}
use Rattle.net.specs.declared.Net.{Net}
use Rattle.session_rules.specs.NewRule.{under_new, new_pins, pins_used, over_new?}
use Rattle.session_rules.specs.Moves.{FirstOver, NoneOver}
use Rattle.session_laws.specs.Fine.{Fine}
use Rattle.session_laws.proofs.FineLaws.{good_on}

-- ── the search ──
module _ (b : Block) (ns : List Net) where
  over-exact : (v : Vertex) → (over_new? b ns v ≡ true) ↔ (IsVertex b.board v × (new_pins b v < pins_used b ns v))
  unfolding over_new?
  over-exact v =
      let x = vertex_exact b.board v in let more = ltb (new_pins b v) (pins_used b ns v) in (
        λ e. let k = and_true (vertex? b.board v) more e in (x.0 k.0, ltb-true (new_pins b v) (pins_used b ns v) k.1),
        λ h. and_yes (vertex? b.board v) more (x.1 h.0) (lt-ltb (new_pins b v) (pins_used b ns v) h.1),
      )

  not_over : (v : Vertex) → IsVertex b.board v → over_new? b ns v ≡ false → pins_used b ns v ≤ new_pins b v
  not_over v p e = elim (le_or_lt (pins_used b ns v) (new_pins b v)) [ inl l ↦ l | inr l ↦ absurd (clash ((over-exact v).1 (p, l)) e) ]

  fits-not-over : (v : Vertex) → (IsVertex b.board v → pins_used b ns v ≤ new_pins b v) → over_new? b ns v ≡ false
  fits-not-over v h = not_true (over_new? b ns v) (λ e. let k = (over-exact v).0 e in let l = h k.0 in omega (arith, k.1))

  module _ (W : Within b.board) where
    framed : (v : Vertex) → over_new? b ns v ≡ true → (v.line < 32) × (v.column < 32)
    framed v e = vertex_placed b.board W v ((over-exact v).0 e).0

    pub over_none : (first (over_new? b ns) reading_order ≡ none) ↔ NoneOver b ns
    over_none =
        let k = none_passes (over_new? b ns) framed in let h = head-none (select (over_new? b ns) reading_order) in
        (λ e v p. not_over v p (k.0 (h.0 e) v), λ f. h.1 (k.1 (λ v. fits-not-over v (f v))))

    pub over_first : (v : Vertex) → (first (over_new? b ns) reading_order ≡ some v) ↔ FirstOver b ns v
    over_first v = let k = first_passes (over_new? b ns) framed v in (
      λ e.
          let f = k.0 e in let o = (over-exact v).0 f.passes in
          record { vertex = o.0; over = o.1; before = λ u p h. not_over u p (f.before u h) },
      λ p. k.1 (record { passes = (over-exact v).1 (p.vertex, p.over); before = λ u h. fits-not-over u (λ q. p.before u q h) }),
    )

-- ── taken pins by another book ──
there_by : (k : Book) (b : Board) (t : TakenPins) → There k b t → one_or_two t.count && not (over_taken k b t) ≡ true
there_by k b t h =
    and_yes (one_or_two t.count) (not (over_taken k b t)) h.count
    (rw (h.vertex, le-ltb (pins_by k b t.vertex) t.count h.most) refl)

-- where a book has pins for all that are taken, they are there by that book
all_there : (j k : Book) (b : Board) (ts : List TakenPins) → all_there? j b ts ≡ true → ((v : Vertex) → taken_at ts v ≤ pins_by k b v)
    → all_there? k b ts ≡ true
unfolding all_there? taken_at
all_there j k b [] e h = refl
all_there j k b (t ∷ ts) e h =
    let x = taken_vertices j b (t ∷ ts) e in
    let rest = (and_true (one_or_two t.count && not (over_taken j b t)) (all_there? j b ts) e).1 in
    let here : t.count + taken_at ts t.vertex ≤ pins_by k b t.vertex = rw (same_self t.vertex) at (h t.vertex) in
    and_yes (one_or_two t.count && not (over_taken k b t)) (all_there? k b ts)
    (there_by k b t (record { vertex = x.0.vertex; count = x.0.count; some = x.0.some; most = omega arith }))
    (all_there j k b ts rest (λ v. omega (arith, h v)))

-- ── from the old rule to the new ──
module _ (b : Block) (ns : List Net) (taken : taken_fine? b ≡ true) (fine : Fine b ns) where
  order : in_order? b.taken ≡ true
  order = (and_true (in_order? b.taken) (all_there? b.book b.board b.taken) taken).0

  there : all_there? b.book b.board b.taken ≡ true
  there = (and_true (in_order? b.taken) (all_there? b.book b.board b.taken) taken).1

  -- what is no vertex has no pins, so neither terminals nor taken pins
  nothing-off : (v : Vertex) → vertex? b.board v ≡ false → pins_used b ns v ≡ 0
  unfolding pins
  nothing-off v e =
      let z : pins b.board v ≡ 0 = rw e refl in
      let m = taken_most b.book b.board b.taken v order there in
      omega (arith, z, m, book_below b.book b.board v, fine.room v, pins_below b v)

  module _ (fits : NoneOver b ns) where
    everywhere : (v : Vertex) → pins_used b ns v ≤ new_pins b v
    everywhere v = elim (bool (vertex? b.board v)) [
      | inl e ↦ fits v ((vertex_exact b.board v).0 e)
      | inr e ↦ omega (arith, nothing-off v e)
    ]

    pub taken-new : taken_fine? (under_new b) ≡ true
    taken-new = and_yes (in_order? b.taken) (all_there? New b.board b.taken) order
        (all_there b.book New b.board b.taken there (λ v. omega (arith, everywhere v)))

    pub fine-new : Fine (under_new b) ns
    unfolding pins_of
    fine-new = record {
      rising = fine.rising;
      good = good_on b (under_new b) refl ns fine.good;
      room = λ v. omega (arith, everywhere v);
    }

-- ── and back: what stands under the new rule is nowhere more than it has pins for ──
pub new_none_over : (b : Block) (ns : List Net) → taken_fine? (under_new b) ≡ true → Fine (under_new b) ns → NoneOver b ns
unfolding pins_of
new_none_over b ns taken fine v p =
    let t = and_true (in_order? b.taken) (all_there? New b.board b.taken) taken in
    omega (arith, taken_most New b.board b.taken v t.0 t.1, fine.room v)
