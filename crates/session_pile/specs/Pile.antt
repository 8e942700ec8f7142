-- Definitions only: the pile that a value of the code's struct stands for, and the value after a change is laid on or lifted.
-- Nothing is proved here.
use Rattle.std.specs.Prelude.{cond, List, [], ◌∷◌, ◌++◌, ℕ, zero, suc, ◌+◌, ◌-◌, ltb, get_or, set, drop, replicate}
use Rattle.board.specs.Board.{at}
use Rattle.net.specs.declared.Change.{Change}
use Rattle.net.specs.declared.Change.TheVariants.{Added}
use Rattle.net_places.specs.Numbered.{entry}
use Rattle.session_pile.specs.declared.Pile.{Pile}

-- Past the array's end stands a change that can never be reversed: a net of number 0 was added.
abbrev pub past_end : Change
past_end = Added (record { number = 0; ends = record { first = at 0 0; second = at 0 0 } })

-- the first d changes of the array, the highest first
unfoldable pub changes_of : List Change → ℕ → List Change
changes_of cs zero = []
changes_of cs (suc d) = get_or cs d past_end ∷ changes_of cs d

-- "a pile of changes". Its top is the first of the list.
unfoldable pub pile_of : Pile → List Change
pile_of p = changes_of p.changes p.depth

abbrev pub empty_pile : Pile
empty_pile = record { depth = 0; changes = replicate 64 past_end }

-- the change on top; of an empty pile the one past the end
abbrev pub top_of : Pile → Change
top_of p = entry p.changes p.depth past_end

abbrev pub lifted : Pile → Pile
lifted p = record { depth = p.depth - 1; changes = p.changes }

-- "A pile of 64 loses its lowest change when another is laid on."
unfoldable pub laid : Change → Pile → Pile
laid c p =
    cond (ltb p.depth 64)
    (record { depth = p.depth + 1; changes = set p.changes p.depth c })
    (record { depth = 64; changes = drop 1 p.changes ++ (c ∷ []) })
