-- Drawing in its parts: soundness, the room, the check of the list, and the page by the map that the check leaves, which is the page of the paths.
-- Assumes that the board is within the limits, where it is said.
use Rattle.std.specs.Prelude as rust
use Rattle.std.specs.Prelude.{Ok, Err, ◌≡◌, true, false, ℕ, ◌≤◌, ltb}
use Rattle.std.proofs.Math.Path.{refl}
use Rattle.std.proofs.Common.{ap, sym, ◌∙◌, inl, inr, arith, lt-ltb, le-ltb}
use mathlib.Core.List.{List, [], flatten}
use Rattle.count.specs.TruthLaws.{bool, le_or_lt}
use Rattle.board.specs.Board.{Board, Within, Edge}
use Rattle.net.specs.declared.Net.{Net}
use Rattle.net_places.specs.Places.{nets_from, nets_of}
use Rattle.routing_rules.specs.Routing.{trails, uses}
use Rattle.session_rules.specs.Refusal as machine
use Rattle.session_rules.specs.Refusal.{refusal}
use Rattle.session_rules.specs.Session.{Session, pairs}
use Rattle.session_rules.specs.Sound.{sound?}
use Rattle.session_laws.proofs.Exact.{sound_exact}
use Rattle.words.specs.Bytes.{words_in}
use Rattle.call_rules.specs.Result.{Result, no, yes}
use Rattle.call_rules.specs.Shape.{PathAt, paths_from}
use Rattle.call_rules.specs.Walk.{walk_paths}
use Rattle.call_rules.specs.Judge.{paths_in, judged, if_sound, if_even}
use Rattle.call_rules.specs.Writing.{Writes}
use Rattle.call_rules.specs.Page.{page, used_in, page_room, if_room, judged_page, draw_words, draw_bytes}
use Rattle.call_rules.proofs.PageLaws.{page-same, draw_words_is, draw_bytes_is, room_short, room_enough}
use Rattle.judge_shape.specs.Refused.{refusal_of}
use Rattle.judge_shape.specs.declared.Refusal.{Refusal}
use Rattle.judge_walk.specs.EdgeMap.{unused}
use Rattle.judge_walk.specs.MapWalk.{came, map_paths}
use Rattle.judge_walk.specs.SlotLaws.{Lies}
use Rattle.judge_walk.specs.SameWalk.{Agree, Marked, marks_none, paths_same}
use Rattle.judge_laws.specs.Walks.{ends_of, paths_went}
use Rattle.judge_list.specs.Verdicts.{Checks, ChecksBytes, on}
use Rattle.judge_list.specs.VerdictLaws.{refused-by, passed-by, checked-passed, shape_all, numbers_above, judged_same}
use Rattle.judge_list.specs.ComparisonLaws.{ends_in}
use Rattle.judge_list.specs.declared.BytesRefusal.{BytesRefusal}
use Rattle.judge_list.specs.declared.BytesRefusal.TheVariants as bytes
use Rattle.draw_call.specs.declared.DrawRefusal.{DrawRefusal}
use Rattle.draw_call.specs.declared.DrawRefusal.TheVariants as drawing
use Rattle.judge_page.specs.Marked.{marked}
use Rattle.draw_call.specs.Answers.{of_bytes, draw_refusal, asked_first}
use Rattle.net.specs.View.{Held}

-- DEFINITION: the page of a list that passes on a board with nets, or its refusal
abbrev pub page_on : Board → List Net → List ℕ → Result (List ℕ)
page_on b ns ws = judged_page (on b ns) ws

-- of a session its board and nets alone play a part
page-on : (s : Session) (ws : List ℕ) → judged_page s ws ≡ page_on s.block.board s.nets ws
unfolding judged
page-on s ws = refl

pub words_on : (s : Session) (ws : List ℕ) (room : ℕ) → draw_words s ws room ≡ if_sound s (if_room room (page_on s.block.board s.nets ws))
words_on s ws room = draw_words_is s ws room ∙ ap (λ (x : Result (List ℕ)). if_sound s (if_room room x)) (page-on s ws)

pub bytes-on : (s : Session) (bs : List ℕ) (room : ℕ)
    → draw_bytes s bs room ≡ if_sound s (if_room room (if_even bs (page_on s.block.board s.nets (words_in bs))))
bytes-on s bs room = draw_bytes_is s bs room ∙ ap (λ (x : Result (List ℕ)). if_sound s (if_room room (if_even bs x))) (page-on s (words_in bs))

-- ── the map that a check leaves marks the edges of the paths ──
module _ {b : Board} (w : Within b) (places : List Held) (ws : List ℕ) where
  marks-paths : {a : List ℕ} → map_paths b (paths_from 0 (nets_of places) ws) unused ≡ came tt a → (e : Edge) → Lies e
      → marked a e ≡ used_in (flatten (trails (ends_of (paths_from 0 (nets_of places) ws)) (paths_in (paths_from 0 (nets_of places) ws)))) e
  unfolding nets_of uses
  marks-paths {a} m e l =
      go (walk_paths b ps []) refl (rw m at (paths_same w ps (numbers_above 1 places 0 ws (omega arith)) [] unused marks_none))
    where
      ps : List PathAt
      ps = paths_from 0 (nets_from 1 places) ws

      go : (x : Result (List Edge)) → walk_paths b ps [] ≡ x → Agree Marked (came tt a) x
          → marked a e ≡ used_in (flatten (trails (ends_of ps) (paths_in ps))) e
      go (no r) f h = absurd h
      go (yes walked) f h =
          let n : uses e walked ≡ uses e (flatten (trails (ends_of ps) (paths_in ps))) = omega (arith, (paths_went b ps [] walked f).counts e) in
          rw n at (h.says e l)

  -- the page by the map is the page of the paths
  module _ {a : List ℕ} {c : rust.Result Unit Refusal} (h : Checks b (nets_of places) ws unused a c) where
    pub page-refused : {r : Refusal} → c ≡ Err r → page_on b (nets_of places) ws ≡ no (refusal_of r)
    page-refused f = rw (sym (judged_same w places ws) ∙ refused-by h f) refl

    pub page-passed : c ≡ Ok tt → page_on b (nets_of places) ws ≡ yes (page b (marked a))
    page-passed f =
        let ps = paths_from 0 (nets_of places) ws in
        let j : judged (on b (nets_of places)) ws ≡ yes (paths_in ps) = sym (judged_same w places ws) ∙ passed-by h f in
        let (shape, walk) = checked-passed h f in
        let n : ends_of ps ≡ pairs (nets_of places) = ends_in ps ∙ ap pairs (shape_all (nets_of places) ws shape) in
        let same = page-same b (used_in (flatten (trails (ends_of ps) (paths_in ps)))) (marked a)
        (λ l k p q. (
          sym (marks-paths walk _ (record { line = omega (arith, w.few); column = omega arith; to = inl refl })),
          sym (marks-paths walk _ (record { line = omega (arith, w.few); column = omega arith; to = inr refl })),
        )) in
        rw (j, ← n) (ap (λ (t : List ℕ). yes t) same)

-- ── the call in its parts ──
pub refused_writes : {x : Result (List ℕ)} {q : machine.Refusal} (before : List ℕ) → x ≡ no q → Writes x before (no q) before
refused_writes before e = record { answers = rw e refl; buffer = rw e refl }

pub drawn_writes : {x : Result (List ℕ)} {text before after : List ℕ} {n : ℕ} → x ≡ yes text → Writes (yes text) before (yes n) after
    → Writes x before (yes n) after
drawn_writes e W = rw e W

-- soundness, then the room, and then what the list comes to
module _ (s : Session) (room : ℕ) where
  pub first-unsound : sound? s ≡ false → Err drawing.Unsound ≡ asked_first s room
  first-unsound e = rw e refl

  pub first-short : sound? s ≡ true → ltb room page_room ≡ true → Err drawing.NoRoom ≡ asked_first s room
  first-short e h = rw (e, h) refl

  pub first_none : sound? s ≡ true → ltb room page_room ≡ false → Ok tt ≡ asked_first s room
  first_none e h = rw (e, h) refl

  pub refused-some : {k : rust.Result Unit DrawRefusal} {r : DrawRefusal} → k ≡ asked_first s room → k ≡ Err r → (x : Result (List ℕ))
      → if_sound s (if_room room x) ≡ no (draw_refusal r)
  refused-some {r = r} e n x = elim (bool (sound? s)) [
    | inr u ↦ let f = rw u at e in let z : drawing.Unsound ≡ r = cc in rw (u, ← z) refl
    | inl u ↦ elim (le_or_lt page_room room) [
      | inl h ↦ absurd (let f = rw (u, le-ltb room page_room h) at e in let z : ◌≡◌ {A = ℕ} 0 1 = cc in omega arith)
      | inr h ↦
          let f = rw (u, lt-ltb room page_room h) at e in
          let z : drawing.NoRoom ≡ r = cc in rw (u, ← z) (room_short room x h)
    ]
  ]

  pub refused_none : {k : rust.Result Unit DrawRefusal} → k ≡ asked_first s room → k ≡ Ok tt
      → Within s.block.board × (page_room ≤ room) × ((x : Result (List ℕ)) → if_sound s (if_room room x) ≡ x)
  refused_none e n = elim (bool (sound? s)) [
    | inr u ↦ absurd (let f = rw u at e in let z : ◌≡◌ {A = ℕ} 0 1 = cc in omega arith)
    | inl u ↦ elim (le_or_lt page_room room) [
      | inl h ↦ (((sound_exact s).0 u).within, h, λ x. rw u (room_enough room x h))
      | inr h ↦ absurd (let f = rw (u, lt-ltb room page_room h) at e in let z : ◌≡◌ {A = ℕ} 0 1 = cc in omega arith)
    ]
  ]

-- the list as bytes
module _ {b : Board} (w : Within b) (places : List Held) (bs : List ℕ) {a : List ℕ} {c : rust.Result Unit BytesRefusal}
    (h : ChecksBytes b (nets_of places) bs unused a c) where
  pub bytes_refused : (r : BytesRefusal) → c ≡ Err r → if_even bs (page_on b (nets_of places) (words_in bs)) ≡ no (draw_refusal (of_bytes r))
  bytes_refused bytes.UnevenBytes e = let x = rw e at h.tells in rw x.0 refl
  bytes_refused (bytes.List r) e = let x = rw e at h.tells in rw x.0 (page-refused w places (words_in bs) x.1 refl)

  pub bytes-passed : c ≡ Ok tt → if_even bs (page_on b (nets_of places) (words_in bs)) ≡ yes (page b (marked a))
  bytes-passed e = let x = rw e at h.tells in rw x.0 (page-passed w places (words_in bs) x.1 refl)
