-- Sums over the frame, the lines and columns 0 to 31.
-- Assumes nothing.
use Rattle.std.specs.Prelude.{◌≡◌, ℕ, ◌+◌, ◌≤◌, ◌<◌}
use Rattle.std.proofs.Common.{◌∙◌, arith}
use Rattle.count.specs.Sum.{sum, sum_eq}
use Rattle.count.specs.Sums.{sum_le, sum_add, sum_get}
use Rattle.board.specs.Board.{at}
use Rattle.board.specs.declared.Vertex.{Vertex}
use Rattle.board_pins.specs.Pins.{frame_sum}

pub frame_le : (f g : Vertex → ℕ) → ((v : Vertex) → f v ≤ g v) → frame_sum f ≤ frame_sum g
unfolding frame_sum
frame_le f g h = sum_le 32 (λ l. sum 32 (λ c. f (at l c))) (λ l. sum 32 (λ c. g (at l c)))
    (λ l i. sum_le 32 (λ c. f (at l c)) (λ c. g (at l c)) (λ c j. h (at l c)))

pub frame_add : (f g : Vertex → ℕ) → frame_sum (λ v. f v + g v) ≡ frame_sum f + frame_sum g
unfolding frame_sum
frame_add f g =
    sum_eq 32 (λ l. sum 32 (λ c. f (at l c) + g (at l c))) (λ l. sum 32 (λ c. f (at l c)) + sum 32 (λ c. g (at l c)))
    (λ l i. sum_add 32 (λ c. f (at l c)) (λ c. g (at l c)))
    ∙ sum_add 32 (λ l. sum 32 (λ c. f (at l c))) (λ l. sum 32 (λ c. g (at l c)))

pub frame_get : (f : Vertex → ℕ) (v : Vertex) → v.line < 32 → v.column < 32 → f v ≤ frame_sum f
unfolding frame_sum
frame_get f v h k = omega (
  arith,
  sum_get 32 v.column (λ c. f (at v.line c)) k,
  sum_get 32 v.line (λ l. sum 32 (λ c. f (at l c))) h,
)
