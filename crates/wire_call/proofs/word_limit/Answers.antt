-- One word, the nets and the edges, of which there are at most 1,984.
use native.Mathlib.Omega.{arith}
use Rattle.board.specs.View.{board_of}
use Rattle.board_edges.proofs.Framed.{edges_most}
use Rattle.wire_call.proofs.word_limit.Goals as goal

pub overflow_add-result-2 : goal.overflow_add-result-2
overflow_add-result-2 c =
    omega (arith, c.from.ensures, c.edge_count.ensures, edges_most (board_of c.args.s.block.board) c.requires.within)

pub returns : goal.returns
returns c = omega (arith, c.from.ensures, c.count_nets.ensures, c.edge_count.ensures)
