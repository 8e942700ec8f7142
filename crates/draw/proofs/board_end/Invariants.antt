use mathlib.Core.Path.{◌≡◌}
use Rattle.std.specs.Slice.Iter.{chunks_exact_rest, chunks_exact_size}
use Rattle.draw.specs.Laws.{Looked}
use Rattle.draw.proofs.board_end.Given as goal

abbrev pub invariant-loop-word : goal.invariant-loop-word
invariant-loop-word l = (chunks_exact_size l.word-iterator ≡ 4) × Looked l.bytes (chunks_exact_rest l.word-iterator) l.end
