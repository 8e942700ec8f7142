-- Definitions only: what each call hands back, as a value of the code. Nothing is proved here:
-- `add_promise`, `withdraw_promise` and `take_back_promise` in Kept, `add_all_promise` in AllKept, and `keep_promise` and `return_promise` in Names
-- say that it is what the list machine gives.
use Rattle.std.specs.Prelude.{cond, List, [], ◌∷◌, ℕ, eqb, leb, get_or, set, replicate, None, Some, Result, Ok, Err, is_ok}
use Rattle.board.specs.declared.Board as code-board
use Rattle.board_block.specs.View.{block_of}
use Rattle.board_block.specs.declared.Block as code
use Rattle.net.specs.View.{Held, nothing}
use Rattle.net.specs.declared.Net.{Net}
use Rattle.net.specs.declared.Change.{Change}
use Rattle.net.specs.declared.Change.TheVariants.{Added, Withdrawn}
use Rattle.session_rules.specs.Session.{last_name, name_count}
use Rattle.session_rules.specs.Sound.{sound?}
use Rattle.net_places.specs.Numbered.{replaced}
use Rattle.net_places.specs.Places.{net, holding, nets_of, place_at, reversed_in}
use Rattle.session_pile.specs.declared.Pile.{Pile}
use Rattle.session_pile.specs.Pile.{empty_pile, top_of, lifted, laid}
use Rattle.session_names.specs.Names.{Stored}
use Rattle.session_answers.specs.Answers.{counting}
use Rattle.session_add.specs.Lines.{check_of}
use Rattle.session.specs.declared.Session.{Session}
use Rattle.session.specs.declared.After.{After}
use Rattle.session_answers.specs.declared.AddAllAnswer.{AddAllAnswer}
use Rattle.session_answers.specs.declared.AddRefusal.{AddRefusal}
use Rattle.session_answers.specs.declared.WithdrawRefusal.{WithdrawRefusal}
use Rattle.session_answers.specs.declared.TakeBackRefusal.{TakeBackRefusal}
use Rattle.session_answers.specs.declared.KeepRefusal.{KeepRefusal}
use Rattle.session_answers.specs.declared.ReturnRefusal.{ReturnRefusal}
use Rattle.session_answers.specs.declared.AddRefusal.TheVariants.{Unsound}
use Rattle.session_answers.specs.declared.WithdrawRefusal.TheVariants as withdraw-is
use Rattle.session_answers.specs.declared.TakeBackRefusal.TheVariants as back_is
use Rattle.session_answers.specs.declared.KeepRefusal.TheVariants as keep-is
use Rattle.session_answers.specs.declared.ReturnRefusal.TheVariants as return-is
use Rattle.session.specs.View.{session_of}

-- an answer and the next session
abbrev pub after : {A : Type 0} → A → Session → After A
after a s = record { answer = a; session = s }

-- the session with these places and this pile; all else that it holds stays
abbrev pub with_places : Session → List Held → Pile → Session
with_places s ps p = record { block = s.block; nets = ps; pile = p; names = s.names }

-- the session with these names; all else that it holds stays
abbrev pub with_names : Session → List Stored → Session
with_names s names = record { block = s.block; nets = s.nets; pile = s.pile; names = names }

-- the session with other places, and a change laid on the pile
abbrev pub changed : Session → List Held → Change → Session
changed s ps c = with_places s ps (laid c s.pile)

-- ── each call on a sound session ──
unfoldable pub add_sound : Session → Net → After (Result Unit AddRefusal)
add_sound s n = record {
  answer = check_of (block_of s.block) (nets_of s.nets) n;
  session = cond (is_ok (check_of (block_of s.block) (nets_of s.nets) n))
      (changed s (replaced s.nets n.number (holding n.ends)) (Added n))
      s;
}

abbrev pub withdraw_held : Session → ℕ → Held → After (Result Unit WithdrawRefusal)
withdraw_held s k None = after (Err withdraw-is.NotOnBoard) s
withdraw_held s k (Some e) = after (Ok tt) (changed s (replaced s.nets k nothing) (Withdrawn (net k e)))

unfoldable pub withdraw_sound : Session → ℕ → After (Result Unit WithdrawRefusal)
withdraw_sound s k = withdraw_held s k (place_at s.nets k)

abbrev pub back : Session → Session
back s = with_places s (reversed_in (top_of s.pile) s.nets) (lifted s.pile)

unfoldable pub take_back_sound : Session → After (Result Unit TakeBackRefusal)
take_back_sound s = cond (eqb s.pile.depth 0)
    (after (Err back_is.PileEmpty) s)
    (after (Ok tt) (back s))

unfoldable pub keep_sound : Session → ℕ → After (Result Unit KeepRefusal)
keep_sound s k = cond (leb k last_name)
    (after (Ok tt) (with_names s (set s.names k (Some s.nets))))
    (after (Err keep-is.NoName) s)

-- a return to this layout
abbrev pub return_layout : Session → Stored → After (Result Unit ReturnRefusal)
return_layout s None = after (Err return-is.NothingKept) s
return_layout s (Some ps) = after (Ok tt) (with_places s ps empty_pile)

unfoldable pub return_sound : Session → ℕ → After (Result Unit ReturnRefusal)
return_sound s k = cond (leb k last_name) (return_layout s (get_or s.names k None)) (after (Err return-is.NoName) s)

-- ── "Every call that takes a session refuses an unsound one first, with 20." ──
unfoldable pub add_of : Session → Net → After (Result Unit AddRefusal)
add_of s n = cond (sound? (session_of s)) (add_sound s n) (after (Err Unsound) s)

unfoldable pub withdraw_of : Session → ℕ → After (Result Unit WithdrawRefusal)
withdraw_of s k = cond (sound? (session_of s)) (withdraw_sound s k) (after (Err withdraw-is.Unsound) s)

unfoldable pub take_back_of : Session → After (Result Unit TakeBackRefusal)
take_back_of s = cond (sound? (session_of s)) (take_back_sound s) (after (Err back_is.Unsound) s)

unfoldable pub keep_of : Session → ℕ → After (Result Unit KeepRefusal)
keep_of s k = cond (sound? (session_of s)) (keep_sound s k) (after (Err keep-is.Unsound) s)

unfoldable pub return_of : Session → ℕ → After (Result Unit ReturnRefusal)
return_of s k = cond (sound? (session_of s)) (return_sound s k) (after (Err return-is.Unsound) s)

-- ── a list of nets ──
-- none went on so far: the session is sound, or gets 20
unfoldable pub none_added : Session → After AddAllAnswer
none_added s = record { answer = record { count = 0; last = cond (sound? (session_of s)) (Ok tt) (Err Unsound) }; session = s }

-- one net more
unfoldable pub with_net : After AddAllAnswer → Net → After AddAllAnswer
with_net a n = record { answer = counting a.answer (add_sound a.session n).answer; session = (add_sound a.session n).session }

-- "adding them one by one in list order, stopping at the first that is refused"
unfoldable pub with_each : After AddAllAnswer → List Net → After AddAllAnswer
with_each a [] = a
with_each a (n ∷ ns) = cond (is_ok a.answer.last) (with_each (with_net a n) ns) a

abbrev pub add_all_of : Session → List Net → After AddAllAnswer
add_all_of s ns = with_each (none_added s) ns

-- ── sessions to start from ──
unfoldable pub fresh_of : code.Block → Session
fresh_of b = record { block = b; nets = replicate 64 nothing; pile = empty_pile; names = replicate name_count None }

abbrev pub blank_board : code-board.Board
blank_board = record { count = 1; rows = replicate 31 (record { left = 0; right = 1 }) }
