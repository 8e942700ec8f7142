-- Definitions only: the table of pairs. Row i has the ends of pair i as words, and the number i; each pair is noted with the ends that it was made
-- with. Nothing is proved here.
use Rattle.std.specs.Prelude.{◌≡◌, List, map, ℕ, ◌+◌, ◌*◌, ◌<◌, length, get_or, set, None, Some}
use Rattle.count.specs.Lists.{rising, up_to}
use Rattle.board.specs.Board.{at}
use Rattle.board.specs.declared.Vertex.{Vertex}
use Rattle.net.specs.declared.Pair.{Pair}
use Rattle.router_notes.specs.declared.Table as code
use Rattle.router_notes.specs.declared.Notes.{Notes}
use Rattle.router_notes.specs.Limits.{pair_limit}
use Rattle.router_ends.specs.View.{Low}
use Rattle.router_start.specs.Front.{in_front, put_from}
use Rattle.net.specs.View.{Held}

abbrev pub word_of : Vertex → ℕ
word_of v = v.line * 32 + v.column

abbrev pub first_word : Pair → ℕ
first_word p = word_of p.first

abbrev pub second_word : Pair → ℕ
second_word p = word_of p.second

-- (for a row past the last)
abbrev pub no_pair : Pair
no_pair = record { first = at 0 0; second = at 0 0 }

-- the arrays before anything is written: their sizes, and numbers that are low
pub record Clear (la lb ids s1 s2 : List ℕ) : Type 0 where
  pub low : Low ids
  pub la_size : length la ≡ pair_limit
  pub lb_size : length lb ≡ pair_limit
  pub ids_size : length ids ≡ pair_limit
  pub s1_size : length s1 ≡ pair_limit
  pub s2_size : length s2 ≡ pair_limit

-- the first n rows are those of the pairs; what stands after them does not matter
pub record Table (ps : List Pair) (n : ℕ) (la lb ids s1 s2 : List ℕ) : Type 0 where
  pub count : n ≡ length ps
  pub first : (i : ℕ) → i < n → get_or la i 0 ≡ first_word (get_or ps i no_pair)
  pub second : (i : ℕ) → i < n → get_or lb i 0 ≡ second_word (get_or ps i no_pair)
  pub number : (i : ℕ) → i < n → get_or ids i 0 ≡ i
  pub made_first : (i : ℕ) → i < n → get_or s1 i 0 ≡ get_or la i 0
  pub made_second : (i : ℕ) → i < n → get_or s2 i 0 ≡ get_or lb i 0
  pub clear : Clear la lb ids s1 s2

-- the pairs' rows are written from row 0 on, and what stood after them is untouched
pub record Fills (ps : List Pair) (n : ℕ) (la lb ids s1 s2 la' lb' ids' s1' s2' : List ℕ) : Type 0 where
  pub count : n ≡ length ps
  pub la_is : la' ≡ in_front (map first_word ps) la
  pub lb_is : lb' ≡ in_front (map second_word ps) lb
  pub ids_is : ids' ≡ in_front (up_to (length ps)) ids
  pub s1_is : s1' ≡ in_front (map first_word ps) s1
  pub s2_is : s2' ≡ in_front (map second_word ps) s2

-- the pairs' rows are written from row k on, and no others; r is the row after them
pub record PutsOn (hs : List Pair) (k : ℕ) (la lb ids s1 s2 : List ℕ) (r : ℕ) (la' lb' ids' s1' s2' : List ℕ) : Type 0 where
  pub count : r ≡ k + length hs
  pub la_is : la' ≡ put_from k (map first_word hs) la
  pub lb_is : lb' ≡ put_from k (map second_word hs) lb
  pub ids_is : ids' ≡ put_from k (rising k (length hs)) ids
  pub s1_is : s1' ≡ put_from k (map first_word hs) s1
  pub s2_is : s2' ≡ put_from k (map second_word hs) s2

-- row k is written
pub record Row (p : Pair) (k : ℕ) (la lb ids s1 s2 la' lb' ids' s1' s2' : List ℕ) : Type 0 where
  pub la_is : la' ≡ set la k (first_word p)
  pub lb_is : lb' ≡ set lb k (second_word p)
  pub ids_is : ids' ≡ set ids k k
  pub s1_is : s1' ≡ set s1 k (first_word p)
  pub s2_is : s2' ≡ set s2 k (second_word p)

-- what a place holds comes in as row k, and r is the next row
abbrev pub TakesIn : Held → (k : ℕ) (la lb ids s1 s2 : List ℕ) (r : ℕ) (la' lb' ids' s1' s2' : List ℕ) → Type 0
TakesIn None k la lb ids s1 s2 r la' lb' ids' s1' s2' = (r ≡ k) × (la' ≡ la) × (lb' ≡ lb) × (ids' ≡ ids) × (s1' ≡ s1) × (s2' ≡ s2)
TakesIn (Some p) k la lb ids s1 s2 r la' lb' ids' s1' s2' = (r ≡ k + 1) × Row p k la lb ids s1 s2 la' lb' ids' s1' s2'

-- ── the same in the router's table and notes, whose other notes are as they were ──
abbrev pub StartsKept : (m m' : Notes) → Type 0
StartsKept m m' = (m'.side ≡ m.side) × (m'.vert ≡ m.vert) × (m'.half ≡ m.half) × (m'.to_corner ≡ m.to_corner) × (m'.from_corner ≡ m.from_corner)

abbrev pub Emptied : (t : code.Table) (m : Notes) → Type 0
Emptied t m = Clear t.first t.second t.number m.start m.end

abbrev pub RowIn : Pair → (k : ℕ) (t : code.Table) (m : Notes) (t' : code.Table) (m' : Notes) → Type 0
RowIn p k t m t' m' = Row p k t.first t.second t.number m.start m.end t'.first t'.second t'.number m'.start m'.end × StartsKept m m'

abbrev pub PlaceIn : Held → (k : ℕ) (t : code.Table) (m : Notes) (r : ℕ) (t' : code.Table) (m' : Notes) → Type 0
PlaceIn h k t m r t' m' =
    TakesIn h k t.first t.second t.number m.start m.end r t'.first t'.second t'.number m'.start m'.end × StartsKept m m'

abbrev pub FillsIn : List Pair → (n : ℕ) (t : code.Table) (m : Notes) (t' : code.Table) (m' : Notes) → Type 0
FillsIn ps n t m t' m' = Fills ps n t.first t.second t.number m.start m.end t'.first t'.second t'.number m'.start m'.end × StartsKept m m'

abbrev pub PutsIn : List Pair → (k : ℕ) (t : code.Table) (m : Notes) (r : ℕ) (t' : code.Table) (m' : Notes) → Type 0
PutsIn hs k t m r t' m' =
    PutsOn hs k t.first t.second t.number m.start m.end r t'.first t'.second t'.number m'.start m'.end × StartsKept m m'
