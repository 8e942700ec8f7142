-- Definitions only: sound, fresh and blank sessions, and what a call does with any session (document 01, refusal 20; names: document 02, §5; taken
-- pins: §8; all by the board's own book: §9). Nothing is proved here.
use Rattle.std.specs.Prelude.{◌≡◌, Bool, true, cond, ◌&&◌, List, [], ◌∷◌, ℕ, ◌≤◌, eqb, leb, ltb, length}
use Rattle.std.proofs.Math.Option.{none, some}
use Rattle.board.specs.Board.{Within}
use Rattle.board.specs.Path.{Convex}
use Rattle.board_block.specs.Block.{Block, plain}
use Rattle.board_block.specs.Taken.{taken_fine?}
use Rattle.board_convex.specs.Test.{is_convex}
use Rattle.net.specs.declared.Net.{Net}
use Rattle.net.specs.declared.Change.{Change}
use Rattle.net.specs.declared.Change.TheVariants.{Added, Withdrawn}
use Rattle.session_rules.specs.Refusal.{Refusal, refusal}
use Rattle.session_rules.specs.Session.{name_count, Kept, nothing_kept, Session, kept_under, insert, recorded}
use Rattle.session_rules.specs.Add.{accepts}
use Rattle.session_rules.specs.Machine.{
  Call,
  add,
  add_all,
  withdraw,
  take_back,
  keep,
  return_to,
  move_over,
  Answer,
  refused,
  went_on,
  Step,
  step,
  pile_limit,
  reversed,
}

-- The nets stand "in rising number".
unfoldable pub rising? : List Net → Bool
rising? [] = true
rising? (n ∷ []) = true
rising? (n ∷ (m ∷ ms)) = ltb n.number m.number && rising? (m ∷ ms)

-- "its nets could all be added to the bare board": one by one, add accepts each of ns on the board with the nets that are on already
unfoldable pub addable? : Block → (on : List Net) (ns : List Net) → Bool
addable? b on [] = true
addable? b on (n ∷ ns) = accepts b on n && addable? b (insert n on) ns

-- "each added net is then on the board as recorded, each withdrawn net one that add would accept"
unfoldable pub liftable? : Block → List Net → Change → Bool
liftable? b ns (Added n) = recorded n ns
liftable? b ns (Withdrawn n) = accepts b ns n

-- "its pile .. can be lifted to the bottom"
unfoldable pub lifts? : Block → List Net → List Change → Bool
lifts? b ns [] = true
lifts? b ns (c ∷ cs) = liftable? b ns c && lifts? b (reversed c ns) cs

-- nets in rising number that "could all be added to the bare board"
abbrev pub fine? : Block → List Net → Bool
fine? b ns = rising? ns && addable? b [] ns

-- of what a name holds: nothing is kept, or such nets
abbrev pub kept_fine? : Block → Kept → Bool
kept_fine? b none = true
kept_fine? b (some ns) = fine? b ns

unfoldable pub all_fine? : Block → List Kept → Bool
all_fine? b [] = true
all_fine? b (k ∷ ks) = kept_fine? b k && all_fine? b ks

-- "A session is sound when .."
pub record Sound (s : Session) : Type 0 where
  -- "its board is within the limits and convex,
  pub within : Within s.block.board
  pub convex : Convex s.block.board
  -- 02, §8: "A session is sound only if none of its taken pins would get 38." They come in reading order, one or two of a vertex
  pub taken : taken_fine? s.block ≡ true
  -- its nets could all be added to the bare board,
  pub rising : rising? s.nets ≡ true
  pub addable : addable? s.block [] s.nets ≡ true
  -- and its pile, at most 64 long, can be lifted to the bottom"
  pub short : length s.pile ≤ pile_limit
  pub lifts : lifts? s.block s.nets s.pile ≡ true
  -- 02, §5: "A session is sound only if each name's nets could all be added to the bare board."
  pub eight : length s.names ≡ name_count
  pub kept_rising : (k : ℕ) (ns : List Net) → kept_under k s ≡ some ns → rising? ns ≡ true
  pub kept_addable : (k : ℕ) (ns : List Net) → kept_under k s ≡ some ns → addable? s.block [] ns ≡ true

-- the test of it: see `sound_exact`
unfoldable pub sound? : Session → Bool
sound? s =
    (is_convex s.block.board && taken_fine? s.block)
    && (fine? s.block s.nets
    && ((leb (length s.pile) pile_limit && lifts? s.block s.nets s.pile)
    && (eqb (length s.names) name_count && all_fine? s.block s.names)))

-- how a call answers that is refused before anything is done: of a list of nets none went on
abbrev pub refused_whole : Call → Refusal → Answer
refused_whole (add n) r = refused r
refused_whole (add_all ns) r = went_on 0 (some r)
refused_whole (withdraw k) r = refused r
refused_whole take_back r = refused r
refused_whole (keep k) r = refused r
refused_whole (return_to k) r = refused r
refused_whole move_over r = refused r

-- "Every call that takes a session refuses an unsound one first, with 20."
unfoldable pub call : Session → Call → Step
call s c = cond (sound? s) (step s c) (record { answer = refused_whole c (refusal 20 0); next = s })

-- "A session is fresh when it is sound, with no nets and an empty pile."
pub record Fresh (s : Session) : Type 0 where
  pub sound : Sound s
  pub no-nets : s.nets ≡ []
  pub no_pile : s.pile ≡ []
  pub none_kept : s.names ≡ nothing_kept

-- a session on a block, with no nets, an empty pile and nothing kept
abbrev pub bare : Block → Session
bare b = record { block = b; nets = []; pile = []; names = nothing_kept }

-- "the blank session: row 0 from 0 to 1, no nets."
abbrev pub blank : Session
blank = bare (plain (record { rows = record { left = 0; right = 1 } ∷ [] }))
