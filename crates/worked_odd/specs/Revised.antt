-- Definitions only: the revised cut condition of source document 004, section II, in its words. It is not relied on: Cases shows a board where it
-- holds and no routing exists. Nothing is proved here.
use Rattle.std.specs.Prelude.{Bool, ◌&&◌, not, List, map, ◌++◌, ℕ, suc, ◌+◌, ◌%◌, eqb, ltb, length}
use Rattle.std.specs.Bool.{xor}
use Rattle.count.specs.Truth.{one}
use Rattle.count.specs.Lists.{up_to, select, tally}
use Rattle.board.specs.Board.{Board, height}
use Rattle.board.specs.Path.{next}
use Rattle.board.specs.Degree.{vertex?, edge?}
use Rattle.board.specs.declared.Vertex.{Vertex}
use Rattle.board.specs.declared.Direction.{Direction}
use Rattle.board.specs.declared.Direction.TheVariants.{Right, Down}
use Rattle.net.specs.declared.Pair.{Pair}
use Rattle.cut.specs.Cut.{edges, side, crossing}
use Rattle.board.specs.Order.{reading_order}
use Rattle.cut.specs.declared.Cut.{Cut}
use Rattle.cut.specs.declared.Cut.TheVariants.{Row, Column}

-- "By a column (row) of grid G we mean a region in G between two consecutive vertical (horizontal) lines": the cuts that have edges
abbrev pub among : Board → List Cut → List Cut
among b xs = select (λ x. ltb 0 (edges b x)) xs

abbrev pub rows : Board → List Cut
rows b = among b (map Row (up_to (height b)))

abbrev pub columns : Board → List Cut
columns b = among b (map Column (up_to 31))

-- "A row (or column) r is saturated if m(r) = 0": as many nets cross it as it has edges
abbrev pub saturated : Board → List Pair → List Cut → List Cut
saturated b ps xs = select (λ x. eqb (edges b x) (crossing x ps)) xs

-- the saturated rows for a column; "Similarly" the saturated columns for a row
abbrev pub parted_by : Board → List Pair → Cut → List Cut
parted_by b ps (Row i) = saturated b ps (columns b)
parted_by b ps (Column j) = saturated b ps (rows b)

-- how many of these rows lie above a vertex, or of these columns to its left
abbrev pub behind : List Cut → Vertex → ℕ
behind xs v = tally (λ x. one (not (side x v))) xs

-- "these t rows partition the set of vertices to the left of c into t + 1 subsets V_i": part i has the vertices with i of the rows above them
abbrev pub in_part : Board → (c : Cut) (parting : List Cut) → ℕ → Vertex → Bool
in_part b c parting i v = vertex? b v && (side c v && eqb (behind parting v) i)

-- "e(X) the number of edges with one end in X and the other in V - X": each edge is met once, at its upper or left end
abbrev pub leaves_by : Board → (X : Vertex → Bool) → Direction → Vertex → ℕ
leaves_by b X d v = one (edge? b d v && xor (X v) (X (next d v)))

abbrev pub edges_out : Board → (X : Vertex → Bool) → ℕ
edges_out b X = tally (λ v. leaves_by b X Right v + leaves_by b X Down v) reading_order

-- "Add to grid G a new edge joining each pair of terminals": so many of these leave X, for e*(X)
abbrev pub nets_out : List Pair → (X : Vertex → Bool) → ℕ
nets_out ps X = tally (λ p. one (xor (X p.first) (X p.second))) ps

-- "A subset X of V is odd (or even) if e*(X) is odd (even)."
abbrev pub odd_set : Board → List Pair → (X : Vertex → Bool) → Bool
odd_set b ps X = eqb ((edges_out b X + nets_out ps X) % 2) 1

-- how many of the parts are odd: "The number is called a parity demand of c"
abbrev pub odd_parts : Board → List Pair → (c : Cut) (parting : List Cut) → ℕ
odd_parts b ps c parting = length (select (λ i. odd_set b ps (in_part b c parting i)) (up_to (suc (length parting))))

abbrev pub parity_demand : Board → List Pair → Cut → ℕ
parity_demand b ps c = odd_parts b ps c (parted_by b ps c)

-- "The revised demand of c is d_r(c) = d(c) + d_p(c)."
abbrev pub revised_demand : Board → List Pair → Cut → ℕ
revised_demand b ps c = crossing c ps + parity_demand b ps c

-- "A grid G satisfies the revised cut condition if d_r(c) <= e(c) for every column or row c": these do not
abbrev pub failing : Board → List Pair → List Cut
failing b ps = select (λ c. ltb (edges b c) (revised_demand b ps c)) (rows b ++ columns b)
