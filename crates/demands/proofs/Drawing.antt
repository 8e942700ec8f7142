-- What drawing shows by its promise, to a caller and to C.
-- Assumes nothing but the promise.
use Rattle.std.specs.Prelude.{◌≡◌, refl, List, ℕ, length}
use Rattle.std.proofs.Common.{ap, ◌∙◌}
use Rattle.board.specs.declared.Direction.{Direction}
use Rattle.session_rules.specs.Refusal.{Refusal}
use Rattle.session_rules.specs.Session as machine
use Rattle.session_rules.specs.Sound.{Sound}
use Rattle.words.specs.Bytes.{words_in}
use Rattle.call_rules.specs.Result.{Result, no, yes, and_then}
use Rattle.call_rules.specs.Reading.{read_bytes}
use Rattle.call_rules.specs.Writing.{count_of, buffer_after, written_into, Writes}
use Rattle.call_rules.specs.Judge.{if_even}
use Rattle.call_rules.specs.Page.{page_of, if_room, judged_page, draw_bytes}
use Rattle.call_rules.proofs.PageLaws.{draw_bytes_is, room_short, room_enough}
use Rattle.call_rules.specs.Editor.{editor_draw}
use Rattle.board_roundtrip.specs.RoundTrip.{read_bytes_sound}
use Rattle.cidrask_told.specs.Told.{tell, refused_told, count_told}
use Rattle.cidrask.specs.Promise.{DrawPromise}
use Rattle.demands.specs.Demands.{Draws, DrawsBytes}
use Rattle.demands.proofs.Judging.{sound_then, uneven_first, even_then}

-- what is written, and what a refusal leaves
pub refused_leaves : {x : Result (List ℕ)} {before after : List ℕ} {a : Result ℕ} {q : Refusal} → Writes x before a after → x ≡ no q
    → (a ≡ no q) × (after ≡ before)
refused_leaves {before = before} W e = (W.answers ∙ ap count_of e, W.buffer ∙ ap (buffer_after before) e)

given_writes : {x : Result (List ℕ)} {before after : List ℕ} {a : Result ℕ} {ws : List ℕ} → Writes x before a after → x ≡ yes ws
    → (a ≡ yes (length ws)) × (after ≡ written_into before ws)
given_writes {before = before} W e = (W.answers ∙ ap count_of e, W.buffer ∙ ap (buffer_after before) e)

-- the paths of a list that passes, as their page
abbrev paged : machine.Session → Result (List (List Direction)) → Result (List ℕ)
paged s y = and_then y (λ dss. yes (page_of s dss))

pub draws : (s : machine.Session) (ws before : List ℕ) {x : Result (List ℕ)} {a : Result ℕ} {after : List ℕ} → Writes x before a after
    → x ≡ if_room (length before) (judged_page s ws) → Draws s ws before a after
draws s ws before W e = record {
  short = λ h. refused_leaves W (e ∙ room_short (length before) _ h);
  refuses = λ h q j. refused_leaves W (e ∙ (room_enough (length before) _ h ∙ ap (paged s) j));
  draws = λ h dss j. given_writes W (e ∙ (room_enough (length before) _ h ∙ ap (paged s) j));
}

pub draws_bytes : (s : machine.Session) (bs before : List ℕ) {x : Result (List ℕ)} {a : Result ℕ} {after : List ℕ} → Writes x before a after
    → x ≡ if_room (length before) (if_even bs (judged_page s (words_in bs))) → DrawsBytes s bs before a after
draws_bytes s bs before W e =
    let y = judged_page s (words_in bs) in record {
      short = λ h. refused_leaves W (e ∙ room_short (length before) _ h);
      uneven = λ h n. refused_leaves W (e ∙ (room_enough (length before) _ h ∙ uneven_first bs y n));
      words = λ w. draws s (words_in bs) before W (e ∙ ap (if_room (length before)) (even_then bs y w));
    }

-- C: a session that was read is sound, so that 20 is never told
pub c_drawn : (board list before : List ℕ) (number first : ℕ) (after : List ℕ) → DrawPromise board list before number first after
    → ((q : Refusal) → read_bytes board ≡ no q → (tell number first 0 0 ≡ refused_told q) × (after ≡ before))
    × ((s : machine.Session) → read_bytes board ≡ yes s
    → Sound s × ((a : Result ℕ) × (tell number first 0 0 ≡ count_told a) × DrawsBytes s list before a after))
unfolding editor_draw
c_drawn board list before number first after P =
    let x = editor_draw board list (length before) in
    let W : Writes x before (count_of x) after = record { answers = refl; buffer = P.buffer } in (
      λ q e. let f : x ≡ no q = rw e refl in (P.told ∙ ap (λ (y : Result (List ℕ)). count_told (count_of y)) f, (refused_leaves W f).1),
      λ s e.
          let f : x ≡ draw_bytes s list (length before) = rw e refl in
          let S = read_bytes_sound board s e in
          let g = f ∙ (draw_bytes_is s list (length before) ∙ sound_then s _ S) in
          (S, (count_of x, P.told, draws_bytes s list before W g)),
    )
