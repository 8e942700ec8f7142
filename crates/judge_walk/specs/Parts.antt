-- Definitions only: a path's runs as a part of the list of words. Nothing is proved here.
use Rattle.std.specs.Prelude.{cond, List, ℕ, suc, ◌+◌, min, leb, length, get_or, Option, None, Some}
use Rattle.words.specs.RoutingWord.{path_in}
use Rattle.judge_walk.specs.declared.Part.{Part}

-- a part of a list, from one index to before another
abbrev pub part : (from to : ℕ) → Part
part from to = record { start = from; end = to }

-- The runs of the path whose word stands at index i: they begin after it, and are as many as it counts, or as the list has.
unfoldable pub part_at : List ℕ → ℕ → Option Part
part_at ws i = cond (leb (length ws) i) None (Some (part (suc i) (min (suc i + (path_in (get_or ws i 0)).runs) (length ws))))
