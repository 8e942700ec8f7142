-- What routing, the figures, judging, comparing and drawing answer goes by the board and the nets, for both books together (document 02, §9) and
-- whatever pins are taken: on two sound sessions that have these in common it is the same.
-- Assumes that the sessions are sound.
use Rattle.std.specs.Prelude.{◌≡◌, refl, List, ℕ, ◌/◌, length}
use Rattle.std.proofs.Common.{sym, ◌∙◌}
use Rattle.session_rules.specs.Refusal.{Refusal}
use Rattle.session_rules.specs.Session as machine
use Rattle.session_rules.specs.Sound.{Sound, sound?}
use Rattle.session_laws.proofs.Exact.{sound_exact}
use Rattle.call_rules.specs.Result.{Result}
use Rattle.call_rules.specs.Judge.{judged, judge_words, judge_bytes, compare_words, compare_bytes}
use Rattle.call_rules.specs.Page.{draw_words, draw_bytes}
use Rattle.call_rules.specs.Route.{
  route_refused,
  WhyRefused,
  by_line,
  none_exists,
  HandsBack,
  HandsBackBytes,
  Routes,
  RoutesBytes,
  refused,
  given,
}
use Rattle.call_rules.proofs.RouteLaws.{same_refused}
use Rattle.call_rules.specs.Wire.{wire}
use Rattle.session_history.specs.Answered.{AnsweredAlike}

-- from one of them to the other
module _ (s t : machine.Session) (S : Sound s) (T : Sound t) (b : s.block.board ≡ t.block.board) (n : s.nets ≡ t.nets) where
  both-sound : sound? s ≡ sound? t
  both-sound = (sound_exact s).1 S ∙ sym ((sound_exact t).1 T)

  refused_same : (room : ℕ) → route_refused s room ≡ route_refused t room
  refused_same room = same_refused s t room both-sound b n

  same_why : (room : ℕ) {q : Refusal} → WhyRefused s room q → WhyRefused t room q
  same_why room (by_line e) = by_line (sym (refused_same room) ∙ e)
  same_why room (none_exists e h) = none_exists (sym (refused_same room) ∙ e) (rw (← b, ← n) h)

  same-handed : (before after : List ℕ) (k : ℕ) → HandsBack s before after k → HandsBack t before after k
  same-handed before after k h =
      record { paths = h.paths; routing = rw (← b, ← n) h.routing; words = rw (← n) h.words; counted = rw (← n) h.counted }

  same-handed-bytes : (before after : List ℕ) (k : ℕ) → HandsBackBytes s before after k → HandsBackBytes t before after k
  same-handed-bytes before after k h =
      record { paths = h.paths; routing = rw (← b, ← n) h.routing; bytes = rw (← n) h.bytes; counted = rw (← n) h.counted }

  carried : (before : List ℕ) (x : Result ℕ) (after : List ℕ) → Routes s before x after → Routes t before x after
  carried before x after (refused w) = refused (same_why (length before) w)
  carried before x after (given {count = k} e h) = given (sym (refused_same (length before)) ∙ e) (same-handed before after k h)

  carried-bytes : (before : List ℕ) (x : Result ℕ) (after : List ℕ) → RoutesBytes s before x after → RoutesBytes t before x after
  carried-bytes before x after (refused w) = refused (same_why (length before / 4) w)
  carried-bytes before x after (given {count = k} e h) = given (sym (refused_same (length before / 4)) ∙ e) (same-handed-bytes before after k h)

-- and both ways
module _ (s t : machine.Session) (S : Sound s) (T : Sound t) (b : s.block.board ≡ t.block.board) (n : s.nets ≡ t.nets) where
  pub same_board : AnsweredAlike s t
  unfolding wire judge_words judge_bytes compare_words compare_bytes draw_words draw_bytes judged
  same_board = record {
    routed = λ before x after. (carried s t S T b n before x after, carried t s T S (sym b) (sym n) before x after);
    routed_bytes = λ before x after. (carried-bytes s t S T b n before x after, carried-bytes t s T S (sym b) (sym n) before x after);
    wired = rw (sound, b, n) refl;
    judged = λ ws. rw (sound, b, n) refl;
    judged_bytes = λ bs. rw (sound, b, n) refl;
    compared = λ vs ws. rw (sound, b, n) refl;
    compared_bytes = λ one two. rw (sound, b, n) refl;
    drawn = λ ws room. rw (sound, b, n) refl;
    drawn_bytes = λ bs room. rw (sound, b, n) refl;
  }
    where
      sound : sound? s ≡ sound? t
      sound = both-sound s t S T b n
