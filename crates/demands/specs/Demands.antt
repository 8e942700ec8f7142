-- OPEN THIS FILE FIRST: the three demands as statements, in the demands' own words. Laws proves them: `demand_1`, `demand_2`, `demand_3`.
--
-- Each statement takes a call's promise and says what it means. The promises are those of src/lib.rt beside this file, where every call stands
-- with its contract, of the method `add_all` of crate session, which is lent a slice of nets, and of crate cidrask for C; the checker holds the
-- code to them, and to ending on every input.
-- Nothing is proved in this file.
use Rattle.std.specs.Prelude as prelude
use Rattle.std.specs.Prelude.{◌≡◌, Bool, true, List, [], ◌∷◌, ◌++◌, ◌↔◌, ◌⊎◌, ℕ, ◌+◌, ◌/◌, ◌%◌, ◌≤◌, ◌<◌, length, take, replicate}
use Rattle.std.proofs.Math.Option.{none, some}
use Rattle.count.specs.Truth.{Decides}
use Rattle.board.specs.Board.{Board, Within, Edge, IsEdge}
use Rattle.board.specs.Path.{Convex}
use Rattle.board.specs.View.{board_of}
use Rattle.board.specs.declared.Board as code-board
use Rattle.board_block.specs.Taken.{taken_fine?}
use Rattle.board_block.specs.View.{block_of}
use Rattle.board_block.specs.declared.Block as code-block
use Rattle.board_block.specs.declared.Book.TheVariants.{New}
use Rattle.board.specs.declared.Vertex.{Vertex}
use Rattle.board.specs.declared.Direction.{Direction}
use Rattle.board_convex.specs.Test.{is_convex}
use Rattle.net.specs.declared.Net.{Net}
use Rattle.routing_rules.specs.Routing.{trails, uses, Routing, Routable}
use Rattle.session_rules.specs.Refusal.{Refusal, refusal}
use Rattle.session_rules.specs.Machine as calls
use Rattle.session_rules.specs.Machine.{accepted, refused, went_on}
use Rattle.session_rules.specs.Session as machine
use Rattle.session_rules.specs.Session.{last_name, nothing_kept, with_nets, untaken, kept_under, pairs}
use Rattle.session_rules.specs.Sound.{Sound, Fresh, bare, blank, call}
use Rattle.session_rules.specs.OneByOne.{singly, OneByOne}
use Rattle.session_rules.specs.Names.{Keeps, Returns, ChangesName, Untouched}
use Rattle.session_rules.specs.NewRule.{under_new, over_refusal}
use Rattle.session_rules.specs.Moves.{Moves, RefusedAfresh}
use Rattle.session.specs.declared.Session.{Session}
use Rattle.session.specs.declared.After.{After}
use Rattle.session_answers.specs.declared.AddAllAnswer.{AddAllAnswer}
use Rattle.session_answers.specs.declared.AddRefusal.{AddRefusal}
use Rattle.session_answers.specs.declared.WithdrawRefusal.{WithdrawRefusal}
use Rattle.session_answers.specs.declared.TakeBackRefusal.{TakeBackRefusal}
use Rattle.session_answers.specs.declared.KeepRefusal.{KeepRefusal}
use Rattle.session_answers.specs.declared.ReturnRefusal.{ReturnRefusal}
use Rattle.session_answers.specs.declared.MoveRefusal.{MoveRefusal}
use Rattle.session_move.specs.Promise.{MovePromise}
use Rattle.session.specs.View.{session_of}
use Rattle.session.specs.Value.{add_all_of}
use Rattle.session_answers.specs.Answers.{add_answer, add_all_answer, withdraw_answer, take_back_answer, keep_answer, return_answer, move_answer}
use Rattle.session.specs.Promise.{AddPromise, AddAllPromise, WithdrawPromise, TakeBackPromise, KeepPromise, ReturnPromise, FreshPromise, BlankPromise}
use Rattle.words.specs.Bytes.{words_in, bytes_of}
use Rattle.words.specs.RoutingWord.{routing_words}
use Rattle.call_rules.specs.Result.{Result, no, yes}
use Rattle.call_rules.specs.Reading.{board_limit, read_words, read_bytes}
use Rattle.call_rules.specs.Writing.{board_words, write_board, count_of, buffer_after, written_into}
use Rattle.call_rules.specs.Report.{Report, report_of, edges_used, turns_made, turns_of_each, turns_occurring, knock_knee, knock_knees, TwoTurns}
use Rattle.call_rules.specs.Alike.{SameEdges, Alike, equally_many}
use Rattle.call_rules.specs.Judge.{judged, judge_words, of_list, compare_words, judge_bytes, compare_bytes}
use Rattle.call_rules.specs.Page.{edges_of, page_of, page_room}
use Rattle.call_rules.specs.ReadOff.{ReadsOff}
use Rattle.call_rules.specs.Route.{route_room, route_refused, HandsBack, HandsBackBytes, Routes, RoutesBytes}
use Rattle.call_rules.specs.Wire.{figures_of, wire, Bounded}
use Rattle.board_reading.specs.Promise.{AfterRead, read_answer, ReadPromise}
use Rattle.board_roundtrip.specs.Parts.{Bytes, as_read}
use Rattle.board_writing.specs.declared.WriteRefusal.{WriteRefusal}
use Rattle.board_writing.specs.Promise.{write_answer, WritePromise}
use Rattle.judge_report.specs.declared.Report as code-report
use Rattle.judge_call.specs.declared.JudgeRefusal.{JudgeRefusal}
use Rattle.judge_call.specs.declared.CompareRefusal.{CompareRefusal}
use Rattle.judge_call.specs.Answers.{judgement_of, likeness_of}
use Rattle.draw_call.specs.declared.DrawRefusal.{DrawRefusal}
use Rattle.draw_call.specs.Answers.{draw_answer}
use Rattle.draw_call.specs.Promise.{DrawWordsPromise, DrawBytesPromise}
use Rattle.route_call.specs.Answers.{RouteAnswer, route_answer}
use Rattle.wire_call.specs.Answers.{WireAnswer, wire_answer}
use Rattle.cidrask_told.specs.declared.Told.{Told}
use Rattle.cidrask_told.specs.Told.{tell, first_of, refused_told, count_told}
use Rattle.cidrask.specs.Promise.{RoutePromise, WirePromise, JudgePromise, AlikePromise, DrawPromise}
use Rattle.session_history.specs.Made.{Made, changed, routed, routed_bytes, Meets, Chain, last, calls_of, answers_of}
use Rattle.session_history.specs.Demand as history
use Rattle.session_history.specs.Answered.{AnsweredAlike}

-- ── the parts of the statements ──
-- reading, where document 01 gives x for the input: accepted exactly where x is a session, and that session is handed back; else x's refusal, with
-- its number and place: "a refused reading, which is given no session, hands back the blank one"
pub record Reads (x : Result machine.Session) (r : AfterRead) : Type 0 where
  pub accepts : (read_answer r.answer ≡ none) ↔ ((s : machine.Session) × (x ≡ yes s))
  pub hands_back : (s : machine.Session) → x ≡ yes s → session_of r.session ≡ s
  pub refuses : (q : Refusal) → (read_answer r.answer ≡ some q) ↔ (x ≡ no q)
  pub hands_blank : (q : Refusal) → x ≡ no q → session_of r.session ≡ blank

abbrev pub Unsound : machine.Session → Type 0
Unsound s = Sound s → ⊥

-- the bytes are words: their count is a multiple of 4
abbrev pub WholeWords : List ℕ → Type 0
WholeWords bs = length bs % 4 ≡ 0

-- a list of words judged against a sound session: its refusal, 41 to 46, with the place; else the report on its paths
-- (`judged` gives the paths of a list that passes, or the refusal)
pub record Judges (s : machine.Session) (ws : List ℕ) (x : Result Report) : Type 0 where
  pub refuses : (q : Refusal) → judged s ws ≡ no q → x ≡ no q
  pub reports : (dss : List (List Direction)) → judged s ws ≡ yes dss → x ≡ yes (report_of (pairs s.nets) dss)

-- the same of a list of bytes, as C is told it: first 10; then the refusal, 41 to 46; else 0 with edges, turns and knock-knees
pub record TellsJudged (s : machine.Session) (bs : List ℕ) (t : Told) : Type 0 where
  pub uneven : (WholeWords bs → ⊥) → t ≡ tell 10 0 0 0
  pub refuses : WholeWords bs → (q : Refusal) → judged s (words_in bs) ≡ no q → t ≡ refused_told q
  pub reports : WholeWords bs → (dss : List (List Direction)) → judged s (words_in bs) ≡ yes dss
      → t ≡ tell 0 (edges_used dss) (turns_made dss) (knock_knees (pairs s.nets) dss)

-- the two routings of the session's nets are alike: "each net uses the same set of edges in both" (document 02, §3)
abbrev pub SameCopper : machine.Session → (dss ess : List (List Direction)) → Type 0
SameCopper s dss ess = Alike (trails (pairs s.nets) dss) (trails (pairs s.nets) ess)

-- two lists of words compared against a sound session: the refusal of the first, with 0 before its place; then that of the second, with 1; else yes
-- exactly where they are alike
pub record Compares (s : machine.Session) (vs ws : List ℕ) (x : Result Bool) : Type 0 where
  pub first : (q : Refusal) → judged s vs ≡ no q → x ≡ of_list 0 (no q)
  pub second : (dss : List (List Direction)) (q : Refusal) → judged s vs ≡ yes dss → judged s ws ≡ no q → x ≡ of_list 1 (no q)
  pub answers : (dss ess : List (List Direction)) → judged s vs ≡ yes dss → judged s ws ≡ yes ess
      → (t : Bool) × (x ≡ yes t) × ((t ≡ true) ↔ SameCopper s dss ess)

-- two lists of bytes, each in turn and whole: 10, with the place 0 alone, and then its words
pub record ComparesBytes (s : machine.Session) (one two : List ℕ) (x : Result Bool) : Type 0 where
  pub first_uneven : (WholeWords one → ⊥) → x ≡ no (refusal 10 0)
  pub first : WholeWords one → (q : Refusal) → judged s (words_in one) ≡ no q → x ≡ of_list 0 (no q)
  pub second_uneven : WholeWords one → (dss : List (List Direction)) → judged s (words_in one) ≡ yes dss → (WholeWords two → ⊥)
      → x ≡ no (refusal 10 0)
  pub words : WholeWords one → WholeWords two → Compares s (words_in one) (words_in two) x

-- and as C is told it: 0, with 1 where the routings are alike and with 0 where they are not; or the refusal's number, with the list's number and the
-- place in it, for 10 with the place 0 alone
pub record TellsCompared (s : machine.Session) (one two : List ℕ) (t : Told) : Type 0 where
  pub first_uneven : (WholeWords one → ⊥) → t ≡ tell 10 0 0 0
  pub first : WholeWords one → (q : Refusal) → judged s (words_in one) ≡ no q → t ≡ tell q.number 0 (first_of q.place) 0
  pub second_uneven : WholeWords one → (dss : List (List Direction)) → judged s (words_in one) ≡ yes dss → (WholeWords two → ⊥) → t ≡ tell 10 0 0 0
  pub second : WholeWords one → WholeWords two → (dss : List (List Direction)) (q : Refusal) → judged s (words_in one) ≡ yes dss
      → judged s (words_in two) ≡ no q → t ≡ tell q.number 1 (first_of q.place) 0
  pub answers : WholeWords one → WholeWords two → (dss ess : List (List Direction)) → judged s (words_in one) ≡ yes dss
      → judged s (words_in two) ≡ yes ess → (SameCopper s dss ess → t ≡ tell 0 1 0 0) × ((SameCopper s dss ess → ⊥) → t ≡ tell 0 0 0 0)

-- a list of words drawn for a sound session (document 02, §7): 37 "before judging, where the page's buffer has fewer than 4,032 bytes"; "Routings
-- that fail judging keep the judge's number and print no page"; else the page at the start of the buffer, "Bytes after the page are untouched", and
-- the answer is "the count of bytes written"
pub record Draws (s : machine.Session) (ws before : List ℕ) (x : Result ℕ) (after : List ℕ) : Type 0 where
  pub short : length before < page_room → (x ≡ no (refusal 37 0)) × (after ≡ before)
  pub refuses : page_room ≤ length before → (q : Refusal) → judged s ws ≡ no q → (x ≡ no q) × (after ≡ before)
  pub draws : page_room ≤ length before → (dss : List (List Direction)) → judged s ws ≡ yes dss
      → (x ≡ yes (length (page_of s dss))) × (after ≡ written_into before (page_of s dss))

-- the same of a list of bytes: 37 before 10, and 10 before 41
pub record DrawsBytes (s : machine.Session) (bs before : List ℕ) (x : Result ℕ) (after : List ℕ) : Type 0 where
  pub short : length before < page_room → (x ≡ no (refusal 37 0)) × (after ≡ before)
  pub uneven : page_room ≤ length before → (WholeWords bs → ⊥) → (x ≡ no (refusal 10 0)) × (after ≡ before)
  pub words : WholeWords bs → Draws s (words_in bs) before x after

-- a routing call that 20, 31, 32 and 33 let pass (document 02, §4): "A routing is then given exactly when edge-disjoint paths for all nets exist",
-- and 34 exactly "where no cut is overfull and no routing exists". Given n says that a routing of n words was handed back, Refused that 34 was told
pub record Decided (s : machine.Session) (Given : ℕ → Type 0) (Refused : Type 0) : Type 0 where
  pub given : ((n : ℕ) × Given n) ↔ Routable s.block.board (pairs s.nets)
  pub refused : Refused ↔ (Routable s.block.board (pairs s.nets) → ⊥)

-- judging accepts
abbrev pub Passes : prelude.Result code-report.Report JudgeRefusal → Type 0
Passes r = (x : Report) × (judgement_of r ≡ yes x)

-- the words are those of a routing of the session's nets, which has the paths dss
pub record IsRouting (s : Session) (ws : List ℕ) (dss : List (List Direction)) : Type 0 where
  pub words : ws ≡ routing_words (session_of s).nets dss
  pub routing : Routing (session_of s).block.board (pairs (session_of s).nets) dss

abbrev pub OfRouting : Session → List ℕ → Type 0
OfRouting s ws = (dss : List (List Direction)) × IsRouting s ws dss

-- ── 1 ──
-- "Every accepted call .. gives exactly what document 01 lays down for its input, or, for a routing, one of those allowed there. Every refused
-- call gives its number and place from the table, with the session and each lent buffer the same as before."
-- In each field but `board_stays`, `names_stay`, `none_kept`, `two_turns`, `were_alike`, `read_off`, `same_page`, `bounded`, `longer`, `same_board`
-- and `as_untaken`, which are laws, and those called rightly: the answer is the definition's, number and place included; what is handed back is the
-- definition's; a refusal changes nothing, but for a list of nets: "for this call alone a refusal leaves that much changed and no more" (document
-- 02, §1).
pub record Demand1 : Type 0 where
  pub add : (s : Session) (n : Net) (r : After (prelude.Result Unit AddRefusal)) → AddPromise s n r
      → (add_answer r.answer ≡ (call (session_of s) (calls.add n)).answer) × (session_of r.session ≡ (call (session_of s) (calls.add n)).next)
      × ((add_answer r.answer ≡ accepted → ⊥) → r.session ≡ s)
  -- 02, §1: an unsound session gets 20, and none went on; else the result is that of single adds up to the first that is refused. Changed is what
  -- the nets left that went on, and no more: with none, the very session that was given is handed back
  pub add-all : (s : Session) (ns : List Net) (r : After AddAllAnswer) → AddAllPromise s ns r
      → (add_all_answer r.answer ≡ (call (session_of s) (calls.add_all ns)).answer)
      × (session_of r.session ≡ (call (session_of s) (calls.add_all ns)).next)
      × (Unsound (session_of s) → add_all_answer r.answer ≡ went_on 0 (some (refusal 20 0)))
      × (Sound (session_of s) → OneByOne (session_of s) ns (add_all_answer r.answer) (session_of r.session))
      × (r.session ≡ (add_all_of s (take r.answer.count ns)).session)
      × (r.answer.count ≡ 0 → r.session ≡ s)
  pub withdraw : (s : Session) (k : ℕ) (r : After (prelude.Result Unit WithdrawRefusal)) → WithdrawPromise s k r
      → (withdraw_answer r.answer ≡ (call (session_of s) (calls.withdraw k)).answer)
      × (session_of r.session ≡ (call (session_of s) (calls.withdraw k)).next)
      × ((withdraw_answer r.answer ≡ accepted → ⊥) → r.session ≡ s)
  pub take-back : (s : Session) (r : After (prelude.Result Unit TakeBackRefusal)) → TakeBackPromise s r
      → (take_back_answer r.answer ≡ (call (session_of s) calls.take_back).answer) × (session_of r.session ≡ (call (session_of s) calls.take_back).next)
      × ((take_back_answer r.answer ≡ accepted → ⊥) → r.session ≡ s)
  -- 02, §5: `Keeps` and `Returns` have the request's sentences, refusals 35 and 36 among them
  pub keep : (s : Session) (k : ℕ) (r : After (prelude.Result Unit KeepRefusal)) → KeepPromise s k r
      → (keep_answer r.answer ≡ (call (session_of s) (calls.keep k)).answer)
      × (session_of r.session ≡ (call (session_of s) (calls.keep k)).next)
      × Keeps (session_of s) k (keep_answer r.answer) (session_of r.session)
      × ((keep_answer r.answer ≡ accepted → ⊥) → r.session ≡ s)
  pub return-to : (s : Session) (k : ℕ) (r : After (prelude.Result Unit ReturnRefusal)) → ReturnPromise s k r
      → (return_answer r.answer ≡ (call (session_of s) (calls.return_to k)).answer)
      × (session_of r.session ≡ (call (session_of s) (calls.return_to k)).next)
      × Returns (session_of s) k (return_answer r.answer) (session_of r.session)
      × ((return_answer r.answer ≡ accepted → ⊥) → r.session ≡ s)
  -- 02, §10: `Moves` has the request's sentences, 39 among them. Of a sound session 39 comes exactly where, under the new book, a taken pin would get
  -- 38 or one of the nets, entered afresh one by one, would be refused; and such a session is sound afterwards. "Moving a session already under the
  -- new rule changes nothing at all."
  pub move : (s : Session) (r : After (prelude.Result Unit MoveRefusal)) → MovePromise s r
      → (move_answer r.answer ≡ (call (session_of s) calls.move_over).answer) × (session_of r.session ≡ (call (session_of s) calls.move_over).next)
      × Moves (session_of s) (move_answer r.answer) (session_of r.session)
      × (Sound (session_of s)
      → ((v : Vertex) × (move_answer r.answer ≡ refused (over_refusal v))) ↔ RefusedAfresh (session_of s).block (session_of s).nets)
      × (Sound (session_of s) → Sound (session_of r.session))
      × ((move_answer r.answer ≡ accepted → ⊥) → r.session ≡ s)
      × (s.block.book ≡ New → r.session ≡ s)
  -- 02, §8: "Taken pins belong to the board", and so does its book (§9): no call on a session changes any of them, but for a move (§10), which leaves
  -- the same board and taken pins under the new rule
  pub board_stays : (s : machine.Session) (c : calls.Call)
      → ((call s c).next.block ≡ s.block) ⊎ ((c ≡ calls.move_over) × ((call s c).next.block ≡ under_new s.block))
  -- what adds, lists of nets, withdrawals, take-backs, returns and keeps under other names do to a name: nothing
  pub names_stay : (s : machine.Session) (c : calls.Call) (k : ℕ) → (ChangesName k c → ⊥) → kept_under k (call s c).next ≡ kept_under k s
  -- "a fresh, read or blank one has nothing kept": the sessions that `fresh`, `blank` and readings hand back, refused readings too
  pub none_kept : ((b : code-block.Block) (r : Session) → FreshPromise b r → (session_of r).names ≡ nothing_kept)
      × ((r : Session) → BlankPromise r → (session_of r).names ≡ nothing_kept)
      × ((ws : List ℕ) (r : AfterRead) → ReadPromise (read_words ws) r → (session_of r.session).names ≡ nothing_kept)
      × ((bs : List ℕ) (r : AfterRead) → ReadPromise (read_bytes bs) r → (session_of r.session).names ≡ nothing_kept)
  pub read-words : (ws : List ℕ) (r : AfterRead) → ReadPromise (read_words ws) r → Reads (read_words ws) r
  pub read-bytes : (bs : List ℕ) (r : AfterRead) → ReadPromise (read_bytes bs) r → Reads (read_bytes bs) r
  pub write : (s : Session) (before : List ℕ) (r : prelude.Result ℕ WriteRefusal) (after : List ℕ) → WritePromise (session_of s) before r after
      → (write_answer r ≡ count_of (write_board (session_of s) (length before))) × (after ≡ buffer_after before (write_board (session_of s) (length before)))
      × ((q : Refusal) → write_answer r ≡ no q → after ≡ before)
  -- judging and comparing are lent nothing to write to
  pub judge : (s : Session) (ws : List ℕ) (r : prelude.Result code-report.Report JudgeRefusal) → judgement_of r ≡ judge_words (session_of s) ws
      → (Unsound (session_of s) → judgement_of r ≡ no (refusal 20 0)) × (Sound (session_of s) → Judges (session_of s) ws (judgement_of r))
  pub judge-bytes : (s : Session) (bs : List ℕ) (r : prelude.Result code-report.Report JudgeRefusal) → judgement_of r ≡ judge_bytes (session_of s) bs
      → (Unsound (session_of s) → judgement_of r ≡ no (refusal 20 0))
      × (Sound (session_of s) → ((WholeWords bs → ⊥) → judgement_of r ≡ no (refusal 10 0))
      × (WholeWords bs → Judges (session_of s) (words_in bs) (judgement_of r)))
  -- 02, §6: "A knock-knee is from now on a vertex where two turns occur, whether of two paths or of one. At no vertex can there be more than two."
  -- The report counts them in lines and columns 0 to 31: within the limits there are no others
  pub two_turns : (s : machine.Session) (ws : List ℕ) (dss : List (List Direction)) → judged s ws ≡ yes dss → (v : Vertex)
      → (turns_occurring v (pairs s.nets) dss ≤ 2)
      × ((knock_knee (pairs s.nets) dss v ≡ true) ↔ TwoTurns (turns_of_each v (pairs s.nets) dss))
      × (Within s.block.board → knock_knee (pairs s.nets) dss v ≡ true → (v.line < 32) × (v.column < 32))
  pub compare : (s : Session) (vs ws : List ℕ) (r : prelude.Result Bool CompareRefusal) → likeness_of r ≡ compare_words (session_of s) vs ws
      → (Unsound (session_of s) → likeness_of r ≡ no (refusal 20 0)) × (Sound (session_of s) → Compares (session_of s) vs ws (likeness_of r))
  pub compare-bytes : (s : Session) (one two : List ℕ) (r : prelude.Result Bool CompareRefusal) → likeness_of r ≡ compare_bytes (session_of s) one two
      → (Unsound (session_of s) → likeness_of r ≡ no (refusal 20 0)) × (Sound (session_of s) → ComparesBytes (session_of s) one two (likeness_of r))
  -- 02, §3: "Any two that are alike in the new sense were alike in the old one": every net uses equally many edges in both
  pub were_alike : (s : machine.Session) (vs ws : List ℕ) (dss ess : List (List Direction)) → judged s vs ≡ yes dss → judged s ws ≡ yes ess
      → SameCopper s dss ess → equally_many dss ess ≡ true
  -- 02, §7: `Draws` has the call's sentences; what its page shows is `read_off`
  pub draw : (s : Session) (ws before : List ℕ) (r : prelude.Result ℕ DrawRefusal) (after : List ℕ) → DrawWordsPromise (session_of s) ws before r after
      → (Unsound (session_of s) → (draw_answer r ≡ no (refusal 20 0)) × (after ≡ before))
      × (Sound (session_of s) → Draws (session_of s) ws before (draw_answer r) after)
  pub draw-bytes : (s : Session) (bs before : List ℕ) (r : prelude.Result ℕ DrawRefusal) (after : List ℕ) → DrawBytesPromise (session_of s) bs before r after
      → (Unsound (session_of s) → (draw_answer r ≡ no (refusal 20 0)) × (after ≡ before))
      × (Sound (session_of s) → DrawsBytes (session_of s) bs before (draw_answer r) after)
  -- "every used edge can be read off it": the edges that the paths use, which are edges of the board, the vertices, and spaces for all else
  pub read_off : (s : machine.Session) (ws : List ℕ) (dss : List (List Direction)) → Sound s → judged s ws ≡ yes dss
      → ReadsOff s.block.board (λ e. 0 < uses e (edges_of s dss)) (page_of s dss)
      × ((e : Edge) → 0 < uses e (edges_of s dss) → IsEdge s.block.board e)
  -- "Two routings of one board that use the same edges give the same page", whatever its nets, and those that do not give another
  pub same_page : (s t : machine.Session) (vs ws : List ℕ) (dss ess : List (List Direction)) → Sound s → s.block.board ≡ t.block.board
      → judged s vs ≡ yes dss → judged t ws ≡ yes ess
      → (page_of s dss ≡ page_of t ess) ↔ SameEdges (edges_of s dss) (edges_of t ess)
  -- routing: first 20, 31, 32 "now only where more than 12 vertices are odd" and 33, by `route_refused`
  pub route : (s : Session) (before : List ℕ) (r : RouteAnswer) (after : List ℕ) → Routes (session_of s) before (route_answer r) after
      → ((q : Refusal) → route_refused (session_of s) (length before) ≡ some q → (route_answer r ≡ no q) × (after ≡ before))
      × (route_refused (session_of s) (length before) ≡ none → Decided (session_of s)
      (λ n. (route_answer r ≡ yes n) × HandsBack (session_of s) before after n)
      ((route_answer r ≡ no (refusal 34 0)) × (after ≡ before)))
  pub route-bytes : (s : Session) (before : List ℕ) (r : RouteAnswer) (after : List ℕ) → RoutesBytes (session_of s) before (route_answer r) after
      → ((q : Refusal) → route_refused (session_of s) (length before / 4) ≡ some q → (route_answer r ≡ no q) × (after ≡ before))
      × (route_refused (session_of s) (length before / 4) ≡ none → Decided (session_of s)
      (λ n. (route_answer r ≡ yes n) × HandsBackBytes (session_of s) before after n)
      ((route_answer r ≡ no (refusal 34 0)) × (after ≡ before)))
  -- 02, §11: "The buffer that routing demands becomes that word limit": 31 exactly where there are fewer words, and then nothing is written,
  pub short : (s : Session) (before : List ℕ) (r : RouteAnswer) (after : List ℕ) → Sound (session_of s)
      → (Routes (session_of s) before (route_answer r) after
      → ((route_answer r ≡ no (refusal 31 0)) ↔ (length before < route_room (session_of s))) × (route_answer r ≡ no (refusal 31 0) → after ≡ before))
      × (RoutesBytes (session_of s) before (route_answer r) after
      → ((route_answer r ≡ no (refusal 31 0)) ↔ (length before / 4 < route_room (session_of s))) × (route_answer r ≡ no (refusal 31 0) → after ≡ before))
  -- and into any two buffers of as many or more, of words or of bytes, it is given or refused alike
  pub longer : (s : Session) (before before' : List ℕ) (x y : RouteAnswer) (after after' : List ℕ)
      → (route_room (session_of s) ≤ length before → route_room (session_of s) ≤ length before'
      → Meets s (routed before x after) → Meets s (routed before' y after') → history.RefusedAlike x y)
      × (route_room (session_of s) ≤ length before / 4 → route_room (session_of s) ≤ length before' / 4
      → Meets s (routed_bytes before x after) → Meets s (routed_bytes before' y after') → history.RefusedAlike x y)
      × (route_room (session_of s) ≤ length before → route_room (session_of s) ≤ length before' / 4
      → Meets s (routed before x after) → Meets s (routed_bytes before' y after') → history.RefusedAlike x y)
  -- "From the session alone, work out the sum of crossing nets over all rows and columns, and the board's edge count."
  pub wire : (s : Session) (r : WireAnswer) → wire_answer r ≡ wire (session_of s)
      → (Unsound (session_of s) → wire_answer r ≡ no (refusal 20 0)) × (Sound (session_of s) → wire_answer r ≡ yes (figures_of (session_of s)))
  -- "Every routing of those nets uses at least the first number of edges and at most the second, and its words number at most 1 plus nets plus
  -- edges. This is to be shown for every list of paths that the judge passes, ours or another tool's."
  pub bounded : (s : machine.Session) (ws : List ℕ) (dss : List (List Direction)) → Sound s → judged s ws ≡ yes dss → Bounded s ws dss
  -- 02, §4, of any sound session, however it came about, and a long enough buffer: where at most 12 vertices are odd, a routing exactly when pairwise
  -- edge-disjoint paths joining the nets exist, and otherwise the first overfull cut is named, or 34 given where there is none; where every vertex is
  -- even, 34 never comes
  pub route_rightly : (s : Session) (before : List ℕ) (r : RouteAnswer) (after : List ℕ) → Routes (session_of s) before (route_answer r) after
      → Sound (session_of s) → route_room (session_of s) ≤ length before
      → history.RightlyBoth (session_of s) (route_answer r) (HandsBack (session_of s) before after)
  pub route_bytes_rightly : (s : Session) (before : List ℕ) (r : RouteAnswer) (after : List ℕ)
      → RoutesBytes (session_of s) before (route_answer r) after
      → Sound (session_of s) → route_room (session_of s) ≤ length before / 4
      → history.RightlyBoth (session_of s) (route_answer r) (HandsBackBytes (session_of s) before after)
  -- 02, §9: what is shown of cuts and routings is shown "for both books together". On two sound sessions with the same board and nets, whatever their
  -- books and taken pins, what routing may answer is the same, the figures are (§11), and judging, comparing and drawing answer the same, in
  -- words and in bytes
  pub same_board : (s t : machine.Session) → Sound s → Sound t → s.block.board ≡ t.block.board → s.nets ≡ t.nets → AnsweredAlike s t
  -- 02, §8: "Taken pins don't make a vertex odd or even. .. They limit which nets can stand on a board, and routing such nets is judged as always." A
  -- sound session is sound with none taken, and these calls answer alike on the two
  pub as_untaken : (s : machine.Session) → Sound s → Sound (untaken s) × AnsweredAlike s (untaken s)
  -- for C: the board's bytes are read first; a refusal is told by its number and place, and leaves the buffer as it was
  pub c_route : (board before : List ℕ) (number first second : ℕ) (after : List ℕ) → RoutePromise board before number first second after
      → ((q : Refusal) → read_bytes board ≡ no q → (tell number first second 0 ≡ refused_told q) × (after ≡ before))
      × ((s : machine.Session) → read_bytes board ≡ yes s
      → ((q : Refusal) → route_refused s (length before / 4) ≡ some q → (tell number first second 0 ≡ refused_told q) × (after ≡ before))
      × (route_refused s (length before / 4) ≡ none → Decided s
      (λ n. (tell number first second 0 ≡ tell 0 n 0 0) × HandsBackBytes s before after n)
      ((tell number first second 0 ≡ tell 34 0 0 0) × (after ≡ before))))
  -- and that, of the answer a that C is told by its numbers
  pub c_route_rightly : (board before : List ℕ) (number first second : ℕ) (after : List ℕ) → RoutePromise board before number first second after
      → (s : machine.Session) → read_bytes board ≡ yes s → route_room s ≤ length before / 4
      → (a : Result ℕ) × (tell number first second 0 ≡ count_told a) × history.RightlyBoth s a (HandsBackBytes s before after)
  pub c_wire : (board : List ℕ) (number first second : ℕ) → WirePromise board number first second
      → ((q : Refusal) → read_bytes board ≡ no q → tell number first second 0 ≡ refused_told q)
      × ((s : machine.Session) → read_bytes board ≡ yes s
      → Sound s × (tell number first second 0 ≡ tell 0 (figures_of s).crossings (figures_of s).edges 0))
  pub c_judge : (board list : List ℕ) (number first second third : ℕ) → JudgePromise board list number first second third
      → ((q : Refusal) → read_bytes board ≡ no q → tell number first second third ≡ refused_told q)
      × ((s : machine.Session) → read_bytes board ≡ yes s → TellsJudged s list (tell number first second third))
  pub c_alike : (board one two : List ℕ) (number first second : ℕ) → AlikePromise board one two number first second
      → ((q : Refusal) → read_bytes board ≡ no q → tell number first second 0 ≡ refused_told q)
      × ((s : machine.Session) → read_bytes board ≡ yes s → TellsCompared s one two (tell number first second 0))
  pub c_draw : (board list before : List ℕ) (number first : ℕ) (after : List ℕ) → DrawPromise board list before number first after
      → ((q : Refusal) → read_bytes board ≡ no q → (tell number first 0 0 ≡ refused_told q) × (after ≡ before))
      × ((s : machine.Session) → read_bytes board ≡ yes s
      → Sound s × ((a : Result ℕ) × (tell number first 0 0 ≡ count_told a) × DrawsBytes s list before a after))

-- ── 2 ──
pub record Demand2 : Type 0 where
  -- "A board is taken as convex exactly when any two of its vertices are joined inside it by a path with at most one bend."
  -- (reading refuses with 16, and a session is unsound, by the same test is_convex)
  pub convex : (b : code-board.Board) (r : Bool) → Decides r (is_convex (board_of b)) (Within (board_of b) × Convex (board_of b)) → Within (board_of b)
      → (r ≡ true) ↔ Convex (board_of b)
  pub taken : (b : Board) → Within b → (is_convex b ≡ true) ↔ Convex b
  -- "A word list passes exactly when it has the shape of 01's routing words and its paths are a routing of the board's nets as 01 defines it."
  pub passes : (s : Session) (ws : List ℕ) (r : prelude.Result code-report.Report JudgeRefusal) → Sound (session_of s) → judgement_of r ≡ judge_words (session_of s) ws
      → Passes r ↔ OfRouting s ws
  -- and a list of bytes when it is whole words and they do
  pub passes_bytes : (s : Session) (bs : List ℕ) (r : prelude.Result code-report.Report JudgeRefusal) → Sound (session_of s) → judgement_of r ≡ judge_bytes (session_of s) bs
      → Passes r ↔ (WholeWords bs × OfRouting s (words_in bs))
  -- "A session written as words reads back with the same board and nets," its taken pins and its book among what belongs to the board (02, §8: "They
  -- are written too, and read back the same"; §9: "Written words carry the board's rule"),
  pub reads_back : (s : Session) (before : List ℕ) (w : prelude.Result ℕ WriteRefusal) (after : List ℕ) → Sound (session_of s)
      → board_limit ≤ length before
      → WritePromise (session_of s) before w after
      → (n : ℕ) × (write_answer w ≡ yes n) × ((r : AfterRead) → ReadPromise (read_words (take n after)) r
      → (read_answer r.answer ≡ none) × ((session_of r.session).block ≡ (session_of s).block) × ((session_of r.session).nets ≡ (session_of s).nets))
  -- and accepted words write back as the same words."
  pub writes_back : (ws : List ℕ) (r : AfterRead) (before : List ℕ) (w : prelude.Result ℕ WriteRefusal) (after : List ℕ)
      → ReadPromise (read_words ws) r
      → read_answer r.answer ≡ none → board_limit ≤ length before → WritePromise (session_of r.session) before w after
      → (write_answer w ≡ yes (length ws)) × (after ≡ written_into before ws)
  -- the same in bytes
  pub bytes_read_back : (m : machine.Session) → Sound m → read_bytes (bytes_of (board_words m)) ≡ yes (as_read m)
  pub bytes_write_back : (bs : List ℕ) (m : machine.Session) → Bytes bs → read_bytes bs ≡ yes m → bytes_of (board_words m) ≡ bs
  -- 02, §8: "The limits of 11 and 18 become 224 words", and every sound session keeps within them
  pub fits : (m : machine.Session) → Sound m → length (board_words m) ≤ board_limit

-- ── 3 ──
-- "For every list of adds, withdrawals, take-backs and routing calls, refused ones included, from a fresh session on any convex board": what then
-- holds is `Demand3` of crate session_history, file Demand, in the demand's own words. "its lists take in every call that changes a session"
-- (document 02, §5), a list of nets in one call (§1), keeps, returns and moves to the new rule (§10) among them. A session that `fresh` hands back on
-- a convex board, under either book (§9), with pins taken that are there (§8), is fresh.
-- A routing call is held to it where its buffer has as many words as the word limit of the machine's session then, or more (§11: "the case of a long
-- enough buffer read[s] accordingly"); so also where it has "2,049 words or more", as the demand says.
pub record Demand3 : Type 0 where
  pub whole : (s : Session) (calls : List Made) → Fresh (session_of s) → Chain s calls → history.Demand3 s calls
  pub whole_before : (s : Session) (calls : List Made) → Fresh (session_of s) → Chain s calls → history.Demand3Before s calls
  pub start : (b : code-block.Block) (s : Session) → Within (block_of b).board → Convex (block_of b).board → taken_fine? (block_of b) ≡ true
      → FreshPromise b s → Fresh (session_of s) × (session_of s ≡ bare (block_of b))
  -- adds, lists of nets, withdrawals, take-backs, keeps, returns and moves that kept their promises are calls of such a list, as the machine is fed
  -- them
  pub add_made : (s : Session) (n : Net) (r : After (prelude.Result Unit AddRefusal)) → AddPromise s n r
      → Meets s (changed (calls.add n) (add_answer r.answer) r.session)
  pub add_all_made : (s : Session) (ns : List Net) (r : After AddAllAnswer) → AddAllPromise s ns r
      → Meets s (changed (calls.add_all ns) (add_all_answer r.answer) r.session)
  pub withdraw_made : (s : Session) (k : ℕ) (r : After (prelude.Result Unit WithdrawRefusal)) → WithdrawPromise s k r
      → Meets s (changed (calls.withdraw k) (withdraw_answer r.answer) r.session)
  pub take_back_made : (s : Session) (r : After (prelude.Result Unit TakeBackRefusal)) → TakeBackPromise s r
      → Meets s (changed calls.take_back (take_back_answer r.answer) r.session)
  pub keep_made : (s : Session) (k : ℕ) (r : After (prelude.Result Unit KeepRefusal)) → KeepPromise s k r
      → Meets s (changed (calls.keep k) (keep_answer r.answer) r.session)
  pub return_made : (s : Session) (k : ℕ) (r : After (prelude.Result Unit ReturnRefusal)) → ReturnPromise s k r
      → Meets s (changed (calls.return_to k) (return_answer r.answer) r.session)
  pub move_made : (s : Session) (r : After (prelude.Result Unit MoveRefusal)) → MovePromise s r
      → Meets s (changed calls.move_over (move_answer r.answer) r.session)
  -- 02, §5: a return to a name is accepted and brings back the nets that were on the board at the keep, with an empty pile, whatever calls came
  -- between, routings and other returns included, but for another keep under that name and moves to the new rule; the board and the names are as
  -- before the return
  pub comes_back : (s : Session) (k : ℕ) (between : List calls.Call) (ms : List Made) → Sound (session_of s) → k ≤ last_name → Untouched k between
      → calls_of ms ≡ (calls.keep k ∷ between) ++ (calls.return_to k ∷ []) → Chain s ms
      → (session_of (last s ms) ≡ with_nets (calls.after (session_of s) (calls.keep k ∷ between)) (session_of s).nets [])
      × (answers_of ms ≡ calls.answers (session_of s) (calls.keep k ∷ between) ++ (accepted ∷ []))
  -- 02, §1: "A routing after such a call is given or refused as after the single adds": those of the nets that went on, and of the next, if one was
  -- refused. The sessions stand for the same, and two routing calls with the same buffer are refused alike, so also given alike
  pub as_singly : (s : Session) (ns : List Net) (r : After AddAllAnswer) (singles : List Made) → AddAllPromise s ns r → Chain s singles
      → calls_of singles ≡ singly (take (r.answer.count + 1) ns)
      → (session_of (last s singles) ≡ session_of r.session)
      × ((before : List ℕ) (x y : RouteAnswer) (after after' : List ℕ)
      → (Meets r.session (routed before x after) → Meets (last s singles) (routed before y after') → history.RefusedAlike x y)
      × (Meets r.session (routed_bytes before x after) → Meets (last s singles) (routed_bytes before y after') → history.RefusedAlike x y))
  -- 02, §8: two routing calls with the same buffer, one on a session and one on the same with no pin taken, are refused alike, so also given alike
  pub as_untaken : (s t : Session) → Sound (session_of s) → session_of t ≡ untaken (session_of s)
      → (before : List ℕ) (x y : RouteAnswer) (after after' : List ℕ)
      → (Meets s (routed before x after) → Meets t (routed before y after') → history.RefusedAlike x y)
      × (Meets s (routed_bytes before x after) → Meets t (routed_bytes before y after') → history.RefusedAlike x y)
  -- 02, §10: "A routing after the move is given or refused as if the nets had been entered afresh under the new book": the nets, added one by one to
  -- the bare board under the new book, are refused nowhere and leave the same board and nets, and two routing calls with the same buffer are refused
  -- alike, so also given alike
  pub as_afresh : (s u : Session) (r : After (prelude.Result Unit MoveRefusal)) (singles : List Made) → MovePromise s r
      → move_answer r.answer ≡ accepted
      → session_of u ≡ bare (under_new (session_of s).block) → Chain u singles → calls_of singles ≡ singly (session_of s).nets
      → (answers_of singles ≡ replicate (length (session_of s).nets) accepted)
      × ((session_of (last u singles)).block ≡ (session_of r.session).block) × ((session_of (last u singles)).nets ≡ (session_of r.session).nets)
      × ((before : List ℕ) (x y : RouteAnswer) (after after' : List ℕ)
      → (Meets r.session (routed before x after) → Meets (last u singles) (routed before y after') → history.RefusedAlike x y)
      × (Meets r.session (routed_bytes before x after) → Meets (last u singles) (routed_bytes before y after') → history.RefusedAlike x y))
