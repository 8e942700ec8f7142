-- Definitions only: what a session holds (document 01, "The session and its list machine"; its names: document 02, §5). Nothing is proved here.
use Rattle.std.specs.Prelude.{Bool, cond, false, ◌&&◌, ◌||◌, List, [], ◌∷◌, map, ℕ, suc, eqb, ltb, get_or, replicate}
use Rattle.std.proofs.Math.Option.{Option, none, some}
use Rattle.board_block.specs.Block.{Block, under}
use Rattle.net.specs.Terminals.{same}
use Rattle.net.specs.declared.Pair.{Pair}
use Rattle.net.specs.declared.Net.{Net}
use Rattle.net.specs.declared.Change.{Change}

-- 02, §5: "A session gets eight names, 0 to 7"
abbrev pub last_name : ℕ
last_name = 7

abbrev pub name_count : ℕ
name_count = suc last_name

-- what a name holds: nets, of which there may be none, or nothing kept
abbrev pub Kept : Type 0
Kept = Option (List Net)

-- "a fresh, read or blank one has nothing kept", under any of the names
abbrev pub nothing_kept : List Kept
nothing_kept = replicate name_count none

-- "The machine holds the board, the nets in rising number, and a pile of changes". The board stands in the block.
-- The top of the pile is the first of the list.
-- 02, §5: "Demand 3's machine holds the names too": what is kept under each, name 0 first.
pub record Session : Type 0 where
  pub block : Block
  pub nets : List Net
  pub pile : List Change
  pub names : List Kept

-- the session with these nets and this pile; all else that it holds stays
abbrev pub with_nets : Session → List Net → List Change → Session
with_nets s ns cs = record { block = s.block; nets = ns; pile = cs; names = s.names }

-- the session with these names; all else stays
abbrev pub with_names : Session → List Kept → Session
with_names s ks = record { block = s.block; nets = s.nets; pile = s.pile; names = ks }

-- the session on the same board with no pin taken (02, §8); all else stays, the board's book too
abbrev pub untaken : Session → Session
untaken s = record { block = under s.block.book s.block.board; nets = s.nets; pile = s.pile; names = s.names }

-- what is kept under a name
abbrev pub kept_under : ℕ → Session → Kept
kept_under k s = get_or s.names k none

-- the terminals of the nets
abbrev pub pairs : List Net → List Pair
pairs ns = map (λ (n : Net). n.ends) ns

-- a net of this number is among them
unfoldable pub holds : ℕ → List Net → Bool
holds k [] = false
holds k (n ∷ ns) = eqb n.number k || holds k ns

-- the nets with one more, at its place in rising number
unfoldable pub insert : Net → List Net → List Net
insert n [] = n ∷ []
insert n (m ∷ ms) = cond (ltb n.number m.number) (n ∷ (m ∷ ms)) (m ∷ insert n ms)

-- the nets without those of this number
unfoldable pub remove : ℕ → List Net → List Net
remove k [] = []
remove k (n ∷ ns) = cond (eqb n.number k) (remove k ns) (n ∷ remove k ns)

-- the net of this number, if there is one
unfoldable pub net_of : ℕ → List Net → Option Net
net_of k [] = none
net_of k (n ∷ ns) = cond (eqb n.number k) (some n) (net_of k ns)

abbrev pub same_net : Net → Net → Bool
same_net m n = eqb m.number n.number && (same m.ends.first n.ends.first && same m.ends.second n.ends.second)

-- this net is among them, with this number and these terminals
unfoldable pub recorded : Net → List Net → Bool
recorded n [] = false
recorded n (m ∷ ms) = same_net n m || recorded n ms
