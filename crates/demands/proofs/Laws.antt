-- The demands are met.
-- Assumes nothing but what Demands quantifies over: the promises of the calls.
use Rattle.std.specs.Prelude.{◌≡◌, refl, List, [], ◌∷◌, ◌↔◌, ℕ, ◌/◌, ◌%◌, ◌≤◌, eqb, length, take}
use Rattle.std.proofs.Common.{ap, sym, ◌∙◌, inl, inr, arith, le-ltb, eqb-true}
use Rattle.std.proofs.Math.Option.{none, some}
use Rattle.count.specs.TruthLaws.{bool, not_true}
use Rattle.board_block.specs.Block.{Block}
use Rattle.board.specs.declared.Direction.{Direction}
use Rattle.board.specs.declared.Vertex.{Vertex}
use Rattle.net.specs.declared.Net.{Net}
use Rattle.session_rules.specs.Refusal.{Refusal, refusal}
use Rattle.session_rules.specs.Session as machine
use Rattle.session_rules.specs.Session.{nothing_kept, pairs}
use Rattle.session_rules.specs.Machine.{add_all, keep, return_to, move_over, Answer, refused, went_on, refusal_of, step}
use Rattle.session_rules.specs.Sound.{Sound, sound?, call}
use Rattle.session_rules.specs.OneByOne.{OneByOne}
use Rattle.session_rules.specs.Names.{Keeps, Returns}
use Rattle.session_rules.specs.NewRule.{over_refusal}
use Rattle.session_rules.specs.Moves.{Moves, RefusedAfresh}
use Rattle.session_laws.proofs.Exact.{sound_exact, call_step}
use Rattle.session_laws.proofs.OneByOne.{one_by_one}
use Rattle.session_laws.proofs.Names.{keeps, returns, names_stay}
use Rattle.session_laws.proofs.Moves.{moves, refused-exactly}
use Rattle.session_laws.proofs.Few.{few_nets}
use Rattle.session_laws.proofs.BoardStays.{board_stays}
use Rattle.session_laws.proofs.Untaken.{sound_untaken}
use Rattle.session_laws.specs.Fine.{AllGood}
use Rattle.session_laws.proofs.Stays.{sound_fine, stays_sound}
use Rattle.session.specs.View.{session_of}
use Rattle.session.specs.Value.{with_each, none_added, add_all_of}
use Rattle.session.specs.declared.Session.{Session}
use Rattle.words.specs.Bytes.{words_in}
use Rattle.call_rules.specs.Result.{Result, no, yes}
use Rattle.call_rules.specs.Reading.{board_limit, read_words, read_bytes, handed_back}
use Rattle.call_rules.specs.Writing.{board_words, write_board, count_of, buffer_after}
use Rattle.call_rules.proofs.PageLaws.{draw_words_is, draw_bytes_is}
use Rattle.call_rules.specs.Report.{Report, report_of}
use Rattle.call_rules.specs.Judge.{judged, if_even}
use Rattle.route_call.specs.Answers.{route_answer}
use Rattle.cidrask_told.specs.Told.{tell, judge_told}
use Rattle.board_convex.proofs.Exact.{is-convex}
use Rattle.board_reading.specs.Promise.{AfterRead, read_answer, refusal_in, ReadPromise}
use Rattle.judge_call.specs.Answers.{judgement_of, likeness_of}
use Rattle.judge_laws.specs.Passing.{Numbered}
use Rattle.judge_laws.specs.Exact.{passes_exactly}
use Rattle.judge_laws.specs.Alike.{judged_equally_many}
use Rattle.judge_laws.specs.TwoTurns.{judged_two_turns}
use Rattle.judge_laws.specs.Bounds.{judged_bounded}
use Rattle.judge_laws.specs.Pages.{used_edges, reads_off, same_page}
use Rattle.board_roundtrip.specs.Parts.{as_read}
use Rattle.board_roundtrip.specs.Written.{words_few}
use Rattle.board_roundtrip.specs.RoundTrip.{
  buffer_reads,
  read_written,
  read_none_kept,
  read_bytes_none_kept,
  written_bytes_read,
  read_bytes_write,
}
use Rattle.session_answers.specs.Answers.{add_answer}
use Rattle.session_history.proofs.Routing as history
use Rattle.session_history.proofs.Listed as history-listed
use Rattle.session_history.proofs.Names as history-names
use Rattle.session_history.specs.SameBoard as history-board
use Rattle.session_history.proofs.Untaken as history-untaken
use Rattle.session_history.proofs.Moved as history-moved
use Rattle.session_history.proofs.Rooms as history-rooms
use Rattle.demands.specs.Demands.{Reads, WholeWords, Passes, OfRouting, Demand1, Demand2, Demand3}
use Rattle.demands.proofs.Routing.{words-shown, bytes-shown, itself, differ_itself, words-short, bytes-short, c_routed, c_routed_rightly}
use Rattle.demands.proofs.Judging.{
  unsound_first,
  sound_then,
  reported,
  judge_is,
  bytes_is,
  judges,
  uneven_first,
  even_then,
  tells_judged,
  c_refused,
  compare_is,
  compare_bytes_is,
  compares,
  compares_bytes,
  c_compared,
}
use Rattle.demands.proofs.WireLaws.{wire_is, c_wired}
use Rattle.demands.proofs.Drawing.{refused_leaves, draws, draws_bytes, c_drawn}

-- ── 1 ──
-- the answer is none exactly where the definition gives a session
reads : (x : Result machine.Session) (r : AfterRead) → ReadPromise x r → Reads x r
reads (no p) r P = record {
  accepts = (
    λ e. absurd (let f : none ≡ some p = sym e ∙ P.answers in let z : ◌≡◌ {A = ℕ} 0 1 = cc in omega arith),
    λ e. absurd (let f : no p ≡ yes e.0 = e.1 in let z : ◌≡◌ {A = ℕ} 0 1 = cc in omega arith),
  );
  hands_back = λ s e. absurd (let z : ◌≡◌ {A = ℕ} 0 1 = cc in omega arith);
  refuses = λ q. (λ e. ap no (let f : some p ≡ some q = sym P.answers ∙ e in cc), λ e. P.answers ∙ ap some (cc));
  hands_blank = λ q e. P.session;
}
reads (yes m) r P = record {
  accepts = (λ e. (m, refl), λ e. P.answers);
  hands_back = λ s e. P.session ∙ cc;
  refuses = λ q. (
    λ e. absurd (let f : some q ≡ none = sym e ∙ P.answers in let z : ◌≡◌ {A = ℕ} 0 1 = cc in omega arith),
    λ e. absurd (let z : ◌≡◌ {A = ℕ} 0 1 = cc in omega arith),
  );
  hands_blank = λ q e. absurd (let z : ◌≡◌ {A = ℕ} 0 1 = cc in omega arith);
}

buffer_kept : (before : List ℕ) (x : Result (List ℕ)) (r : Refusal) → count_of x ≡ no r → buffer_after before x ≡ before
buffer_kept before (no q) r e = refl
buffer_kept before (yes ws) r e = absurd (let z : ◌≡◌ {A = ℕ} 0 1 = cc in omega arith)

-- a list of nets: 20 first, else as the single adds
unsound_list : (m : machine.Session) (ns : List Net) → (Sound m → ⊥) → (call m (add_all ns)).answer ≡ went_on 0 (some (refusal 20 0))
unfolding call
unsound_list m ns n = rw (not_true (sound? m) (λ e. n ((sound_exact m).0 e))) refl

listed : (m : machine.Session) (ns : List Net) → Sound m → {a : Answer} {t : machine.Session} → a ≡ (call m (add_all ns)).answer
    → t ≡ (call m (add_all ns)).next → OneByOne m ns a t
unfolding call
listed m ns S {a} {t} e f =
    let g = (sound_exact m).1 S in
    let x : a ≡ (step m (add_all ns)).answer = rw g at e in
    let y : t ≡ (step m (add_all ns)).next = rw g at f in
    rw (x, y) (one_by_one m ns)

none_on : (s : Session) (ns : List Net) (t : Session) (k : ℕ) → t ≡ (add_all_of s (take k ns)).session → k ≡ 0 → t ≡ s
unfolding with_each none_added
none_on s ns t k e z = e ∙ ap (λ (i : ℕ). (add_all_of s (take i ns)).session) z

-- a reading that is refused hands back the blank session, which has nothing kept either
read_kept : (x : Result machine.Session) (r : AfterRead) → ReadPromise x r → ((s : machine.Session) → x ≡ yes s → s.names ≡ nothing_kept)
    → (session_of r.session).names ≡ nothing_kept
read_kept (no q) r P f = ap (λ (m : machine.Session). m.names) P.session
read_kept (yes s) r P f = ap (λ (m : machine.Session). m.names) P.session ∙ f s refl

-- keep and return do what the request says, as the machine's do
kept_by : (m : machine.Session) (k : ℕ) {a : Answer} {t : machine.Session} → a ≡ (call m (keep k)).answer → t ≡ (call m (keep k)).next → Keeps m k a t
kept_by m k e f = rw (e, f) (keeps m k)

returned_by : (m : machine.Session) (k : ℕ) {a : Answer} {t : machine.Session} → a ≡ (call m (return_to k)).answer → t ≡ (call m (return_to k)).next
    → Returns m k a t
returned_by m k e f = rw (e, f) (returns m k)

-- a move too
moved_by : (m : machine.Session) {a : Answer} {t : machine.Session} → a ≡ (call m move_over).answer → t ≡ (call m move_over).next → Moves m a t
moved_by m e f = rw (e, f) (moves m)

refused_afresh : (m : machine.Session) {a : Answer} → a ≡ (call m move_over).answer → Sound m
    → ((v : Vertex) × (a ≡ refused (over_refusal v))) ↔ RefusedAfresh m.block m.nets
refused_afresh m e h = rw e (refused-exactly m h)

moved_sound : (m : machine.Session) {t : machine.Session} → t ≡ (call m move_over).next → Sound m → Sound t
moved_sound m {t} e h = let f : t ≡ (step m move_over).next = rw (call_step m move_over h) at e in rw f (stays_sound m move_over h)

pub demand_1 : Demand1
demand_1 = record {
  add = λ s n r P. (P.call.answers, P.call.next, P.kept);
  add-all = λ s ns r P. (
    P.call.answers,
    P.call.next,
    λ n. P.call.answers ∙ unsound_list (session_of s) ns n,
    λ S. listed (session_of s) ns S P.call.answers P.call.next,
    P.kept,
    λ z. none_on s ns r.session r.answer.count P.kept z,
  );
  withdraw = λ s k r P. (P.call.answers, P.call.next, P.kept);
  take-back = λ s r P. (P.call.answers, P.call.next, P.kept);
  keep = λ s k r P. (P.call.answers, P.call.next, kept_by (session_of s) k P.call.answers P.call.next, P.kept);
  return-to = λ s k r P. (P.call.answers, P.call.next, returned_by (session_of s) k P.call.answers P.call.next, P.kept);
  move = λ s r P. (
    P.call.answers,
    P.call.next,
    moved_by (session_of s) P.call.answers P.call.next,
    refused_afresh (session_of s) P.call.answers,
    moved_sound (session_of s) P.call.next,
    P.kept,
    P.already,
  );
  board_stays = board_stays;
  names_stay = λ s c k d. names_stay s c k d;
  none_kept = (
    λ b r P. ap (λ (m : machine.Session). m.names) P.bare,
    λ r P. ap (λ (m : machine.Session). m.names) P.blank,
    λ ws r P. read_kept (read_words ws) r P (λ s. read_none_kept ws s),
    λ bs r P. read_kept (read_bytes bs) r P (λ s. read_bytes_none_kept bs s),
  );
  read-words = λ ws r P. reads (read_words ws) r P;
  read-bytes = λ bs r P. reads (read_bytes bs) r P;
  write = λ s before r after P. (
    P.answers,
    P.buffer,
    λ q e. P.buffer ∙ buffer_kept before (write_board (session_of s) (length before)) q (sym P.answers ∙ e),
  );
  route = λ s before r after R. words-shown itself differ_itself (session_of s) (length before) before after (route_answer r) refl R;
  route-bytes = λ s before r after R. bytes-shown itself differ_itself (session_of s) (length before / 4) before after (route_answer r) refl R;
  short = λ s before r after S. (words-short (session_of s) S, bytes-short (session_of s) S);
  longer = history-rooms.longer;
  wire = λ s r e. let m = session_of s in let f = e ∙ wire_is m in (λ n. f ∙ unsound_first m _ n, λ S. f ∙ sound_then m _ S);
  bounded = λ s ws dss S j. judged_bounded s S.within ws dss j;
  judge = λ s ws r e.
      let m = session_of s in let x = reported m (judged m ws) in let f = e ∙ judge_is m ws in
      (λ n. f ∙ unsound_first m x n, λ S. judges m ws (judgement_of r) (f ∙ sound_then m x S));
  judge-bytes = λ s bs r e.
      let m = session_of s in let x = reported m (judged m (words_in bs)) in let f = e ∙ bytes_is m bs in (
        λ n. f ∙ unsound_first m (if_even bs x) n,
        λ S.
            let g = f ∙ sound_then m (if_even bs x) S in
            (λ n. g ∙ uneven_first bs x n, λ h. judges m (words_in bs) (judgement_of r) (g ∙ even_then bs x h)),
      );
  two_turns = judged_two_turns;
  compare = λ s vs ws r e.
      let m = session_of s in let f = e ∙ compare_is m vs ws in
      (λ n. f ∙ unsound_first m _ n, λ S. compares m vs ws (likeness_of r) (f ∙ sound_then m _ S));
  compare-bytes = λ s one two r e.
      let m = session_of s in let f = e ∙ compare_bytes_is m one two in
      (λ n. f ∙ unsound_first m _ n, λ S. compares_bytes m one two (likeness_of r) (f ∙ sound_then m _ S));
  draw = λ s ws before r after W.
      let m = session_of s in let f = draw_words_is m ws (length before) in
      (λ n. refused_leaves W (f ∙ unsound_first m _ n), λ S. draws m ws before W (f ∙ sound_then m _ S));
  draw-bytes = λ s bs before r after W.
      let m = session_of s in let f = draw_bytes_is m bs (length before) in
      (λ n. refused_leaves W (f ∙ unsound_first m _ n), λ S. draws_bytes m bs before W (f ∙ sound_then m _ S));
  read_off = λ s ws dss S j. (reads_off s S.within dss, used_edges s ws dss j);
  same_page = λ s t vs ws dss ess S b j k. same_page s t S.within b vs ws dss ess j k;
  were_alike = λ s vs ws dss ess e f h. judged_equally_many s vs ws dss ess e f h;
  route_rightly = λ s before r after R S long. history.words_both (session_of s) S long R;
  route_bytes_rightly = λ s before r after R S long. history.bytes_both (session_of s) S long R;
  same_board = history-board.same_board;
  as_untaken = λ s S. (sound_untaken s S, history-untaken.untaken_answered s S);
  c_route = λ board before number first second after P. c_routed board before after P.result (tell number first second 0) P.told P.routes;
  c_route_rightly = λ board before number first second after P s e long.
      c_routed_rightly board before after P.result (tell number first second 0) P.told P.routes s e long;
  c_wire = λ board number first second P. c_wired board (tell number first second 0) P;
  c_judge = λ board list number first second third P. (
    λ q e. P ∙ ap judge_told (c_refused board list q e),
    λ s e. tells_judged board list s (tell number first second third) P e,
  );
  c_alike = λ board one two number first second P. c_compared board one two (tell number first second 0) P;
  c_draw = c_drawn;
}

-- ── 2 ──
numbered : (b : Block) (ns : List Net) → AllGood b ns → Numbered ns
numbered b [] g = tt
numbered b (n ∷ ns) g = (omega (arith, g.0.high), numbered b ns g.1)

paths-of : (s : machine.Session) (y : Result (List (List Direction))) (x : Report) → reported s y ≡ yes x
    → (dss : List (List Direction)) × (y ≡ yes dss)
paths-of s (no r) x e = absurd (let z : ◌≡◌ {A = ℕ} 0 1 = cc in omega arith)
paths-of s (yes dss) x e = (dss, refl)

-- a report on a list of words exactly where they are a routing's
reported_exactly : (s : Session) (ws : List ℕ) (y : Result Report) → Sound (session_of s) → y ≡ reported (session_of s) (judged (session_of s) ws)
    → ((x : Report) × (y ≡ yes x)) ↔ OfRouting s ws
reported_exactly s ws y S j =
    let m = session_of s in let F = sound_fine m S in
    let X = passes_exactly m S.within (numbered m.block m.nets F.good) (few_nets m.block m.nets F.rising F.good) ws in (
      λ k. let p = paths-of m (judged m ws) k.0 (sym j ∙ k.1) in let q = (X p.0).0 p.1 in
          (p.0, record { words = q.words; routing = q.routing }),
      λ k. let q = (X k.0).1 (record { routing = k.1.routing; words = k.1.words }) in
          (report_of (pairs m.nets) k.0, j ∙ ap (reported m) q),
    )

-- a report on a list of bytes only where they are whole words
whole_words : (bs : List ℕ) (y : Result Report) (x : Report) → if_even bs y ≡ yes x → WholeWords bs
whole_words bs y x e = elim (bool (eqb (length bs % 4) 0)) [
  | inl h ↦ eqb-true (length bs % 4) 0 h
  | inr h ↦ absurd (let f : no (refusal 10 0) ≡ yes x = rw h at e in let z : ◌≡◌ {A = ℕ} 0 1 = cc in omega arith)
]

-- reading accepted
accepted_as : (y : Result machine.Session) (r : AfterRead) → ReadPromise y r → read_answer r.answer ≡ none → y ≡ yes (session_of r.session)
accepted_as (no q) r P e = absurd (let f : none ≡ some q = sym e ∙ P.answers in let z : ◌≡◌ {A = ℕ} 0 1 = cc in omega arith)
accepted_as (yes s) r P e = ap yes (sym P.session)

read_as : (y : Result machine.Session) (s : machine.Session) (r : AfterRead) → y ≡ yes s → ReadPromise y r
    → (read_answer r.answer ≡ none) × (session_of r.session ≡ s)
read_as y s r e P = (P.answers ∙ ap refusal_in e, P.session ∙ ap handed_back e)

written_yes : (m : machine.Session) (room : ℕ) → Sound m → board_limit ≤ room → write_board m room ≡ yes (board_words m)
unfolding write_board
written_yes m room S l = rw ((sound_exact m).1 S, le-ltb room board_limit l) refl

pub demand_2 : Demand2
demand_2 = record {
  taken = λ b W. let X = is-convex b in (λ e. (X.0 e).1, λ C. X.1 (W, C));
  convex = λ b r D W. (λ e. (D.exact.0 e).1, λ C. D.exact.1 (W, C));
  passes = λ s ws r S e.
      let m = session_of s in reported_exactly s ws (judgement_of r) S (e ∙ (judge_is m ws ∙ sound_then m (reported m (judged m ws)) S));
  passes_bytes = λ s bs r S e.
      let m = session_of s in let x = reported m (judged m (words_in bs)) in
      let f : judgement_of r ≡ if_even bs x = e ∙ (bytes_is m bs ∙ sound_then m (if_even bs x) S) in
      let X : WholeWords bs → Passes r ↔ OfRouting s (words_in bs) = λ h. reported_exactly s (words_in bs) (judgement_of r) S (f ∙ even_then bs x h) in
      (λ k. let h = whole_words bs x k.0 (sym f ∙ k.1) in (h, (X h).0 k), λ k. (X k.0).1 k.1);
  reads_back = λ s before w after S l W.
      let m = session_of s in
      let y : write_board m (length before) ≡ yes (board_words m) = written_yes m (length before) S l in
      let c : count_of (write_board m (length before)) ≡ yes (length (board_words m)) = ap count_of y in (
        length (board_words m),
        W.answers ∙ c,
        λ r P.
            let f = buffer_reads m before (length (board_words m)) c in
            let k = read_as (read_words (take (length (board_words m)) after)) (as_read m) r
            (ap (λ (t : List ℕ). read_words (take (length (board_words m)) t)) W.buffer ∙ f) P in
            (k.0, ap (λ (t : machine.Session). t.block) k.1, ap (λ (t : machine.Session). t.nets) k.1),
      );
  writes_back = λ ws r before w after P e l W.
      let m = session_of r.session in
      let f = read_written ws m (length before) l (accepted_as (read_words ws) r P e) in
      (W.answers ∙ ap count_of f, W.buffer ∙ ap (buffer_after before) f);
  bytes_read_back = written_bytes_read;
  bytes_write_back = read_bytes_write;
  fits = words_few;
}

-- ── 3 ──
pub demand_3 : Demand3
demand_3 = record {
  whole = λ s calls F k. history.demand_3 s calls F k;
  whole_before = λ s calls F k. history.demand_3_before s calls F k;
  start = λ b s W C T P. (P.fresh W C T, P.bare);
  add_made = λ s n r P. P.call;
  add_all_made = λ s ns r P. P.call;
  withdraw_made = λ s k r P. P.call;
  take_back_made = λ s r P. P.call;
  keep_made = λ s k r P. P.call;
  return_made = λ s k r P. P.call;
  move_made = λ s r P. P.call;
  comes_back = λ s k between ms h l n e each.
      (history-names.comes_back s k between ms h l n e each, history-names.accepted-last s k between ms h l n e each);
  as_singly = λ s ns r singles P k e.
      let why = refusal_of (add_answer r.answer.last) in (
        history-listed.as_singly s r.session ns r.answer.count why singles P.call k e,
        history-listed.routed-as-singly s r.session ns r.answer.count why singles P.call k e,
      );
  as_untaken = history-untaken.untaken_alike;
  as_afresh = λ s u r singles P a start each single.
      let c = rw a at P.call in (
        history-moved.none_refused s r.session u c start singles each single,
        history-moved.same_block s r.session u c start singles each single,
        history-moved.same-nets s r.session u c start singles each single,
        history-moved.routed-alike s r.session u c start singles each single,
      );
}
