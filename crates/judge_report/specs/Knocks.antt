-- The marks of two turns or more, counted over an array and over the vertices in reading order.
-- Assumes nothing.
use Rattle.std.specs.Prelude.{◌≡◌, refl, Bool, true, false, cond, List, [], ◌∷◌, map, ℕ, suc, ◌+◌, ◌/◌, ◌%◌, ◌<◌, ltb, length, get_or, count_by}
use Rattle.std.proofs.Common.{ap, sym, ◌∙◌, arith}
use Rattle.std.proofs.lemmas.List.Recursion.{is_count_by}
use Rattle.count.specs.Truth.{one}
use Rattle.count.specs.Lists.{rising, select}
use Rattle.count.specs.Tallies.{length_select}
use Rattle.board.specs.Board.{at}
use Rattle.board.specs.declared.Vertex.{Vertex}
use Rattle.board.specs.Order.{reading_order}
use Rattle.board.specs.OrderLaws.{reading_by_index}
use Rattle.judge_report.specs.Traces.{knocks_in}

pub knocks_counted : (a : List ℕ) → count_by (λ m. ltb 1 m) a ≡ knocks_in a
unfolding knocks_in
knocks_counted a = sym (is_count_by knocks_in (λ m. ltb 1 m) refl (λ m ms. more (ltb 1 m) (knocks_in ms)) a)
  where
    more : (t : Bool) (n : ℕ) → one t + n ≡ cond t (1 + n) n
    more true n = refl
    more false n = omega arith

-- ── the vertices by their index ──
abbrev pub vertex_at : ℕ → Vertex
vertex_at i = at (i / 32) (i % 32)

knocks_from : (p : Vertex → Bool) (i : ℕ) (a : List ℕ) → ((j : ℕ) → j < length a → ltb 1 (get_or a j 0) ≡ p (vertex_at (i + j)))
    → knocks_in a ≡ length (select p (map vertex_at (rising i (length a))))
unfolding knocks_in select
knocks_from p i [] h = refl
knocks_from p i (m ∷ ms) h =
    let e : i + 0 ≡ i = omega arith in
    let f : ltb 1 m ≡ p (vertex_at i) = rw e at (h 0 (omega arith)) in
    let r : knocks_in ms ≡ length (select p (map vertex_at (rising (suc i) (length ms)))) =
    knocks_from p (suc i) ms (λ j k. let g : i + suc j ≡ suc i + j = omega arith in rw g at (h (suc j) (omega arith))) in
    let q = length_select p (vertex_at i) (map vertex_at (rising (suc i) (length ms))) in
    omega (arith, ap one f)

-- the marks that say two turns or more, where they say it just of the vertices that pass a test
pub knocks_are : (p : Vertex → Bool) (a : List ℕ) → length a ≡ 1024 → ((j : ℕ) → j < 1024 → ltb 1 (get_or a j 0) ≡ p (vertex_at j))
    → knocks_in a ≡ length (select p reading_order)
knocks_are p a l h =
    let r = knocks_from p 0 a (λ j k. let g : 0 + j ≡ j = omega arith in rw g (h j (omega arith))) in
    r ∙ rw (l, reading_by_index) refl
