-- Definitions only: what taking pins of a block promises. Nothing is proved here.
use Rattle.std.specs.Prelude.{◌≡◌, cond, ◌⊎◌, ◌≤◌, ◌<◌}
use Rattle.board.specs.declared.Vertex.{Vertex}
use Rattle.net.specs.Terminals.{same}
use Rattle.board_block.specs.Block.{taken_at}
use Rattle.board_block.specs.View.{block_of, with_pins}
use Rattle.board_block.specs.declared.Block as code
use Rattle.board_block.specs.declared.TakenPins.{TakenPins}

-- so many pins of a vertex are taken, in place of what was taken of it
pub record TakesPins (b : code.Block) (t : TakenPins) (r : code.Block) : Type 0 where
  pub value : r ≡ with_pins b t
  pub board : (block_of r).board ≡ (block_of b).board
  pub book : (block_of r).book ≡ (block_of b).book
  -- of every other vertex as many as before
  pub pins : t.vertex.line < 32 → t.vertex.column < 32 → (v : Vertex)
      → taken_at (block_of r).taken v ≡ cond (same t.vertex v) t.count (taken_at (block_of b).taken v)
  -- lines and columns above 31 are on no board within the limits: nothing is taken there
  pub beyond : (32 ≤ t.vertex.line) ⊎ (32 ≤ t.vertex.column) → r ≡ b
