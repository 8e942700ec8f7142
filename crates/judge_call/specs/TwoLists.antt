-- Comparing two lists of bytes in its parts: soundness, then each list in turn by its check, then their maps.
-- Assumes that the board is within the limits, where it is said.
use Rattle.std.specs.Prelude as rust
use Rattle.std.specs.Prelude.{Ok, Err, ◌≡◌, Bool, true, false, List, ℕ}
use Rattle.std.proofs.Math.Path.{refl}
use Rattle.std.proofs.Common.{ap, sym, ◌∙◌}
use Rattle.board.specs.Board.{Board, Within}
use Rattle.net.specs.declared.Net.{Net}
use Rattle.net_places.specs.Places.{nets_of}
use Rattle.session_rules.specs.Refusal.{refusal}
use Rattle.session_rules.specs.Session.{Session}
use Rattle.session_rules.specs.Sound.{sound?}
use Rattle.words.specs.Bytes.{words_in}
use Rattle.call_rules.specs.Result.{Result, no, yes, and_then}
use Rattle.call_rules.specs.Judge.{judged, of_list, alike_on, if_even, compare_bytes}
use Rattle.judge_walk.specs.EdgeMap.{unused}
use Rattle.judge_alike.specs.MapsAlike.{maps_alike}
use Rattle.judge_list.specs.Verdicts.{ChecksBytes, map_by, on}
use Rattle.judge_list.specs.VerdictLaws.{map-refused, map-passed}
use Rattle.judge_list.specs.ComparisonLaws.{compared_same}
use Rattle.judge_list.specs.declared.BytesRefusal.{BytesRefusal}
use Rattle.judge_list.specs.declared.BytesRefusal.TheVariants as bytes
use Rattle.judge_list.specs.declared.Which.TheVariants.{First, Second}
use Rattle.judge_call.specs.Answers.{in_list, compare_refusal}
use Rattle.net.specs.View.{Held}

-- DEFINITION: the comparison on a board with nets, and the same by maps
abbrev pub bytes_on : Board → List Net → (one two : List ℕ) → Result Bool
bytes_on b ns one two =
    if_even one (and_then (of_list 0 (judged (on b ns) (words_in one)))
    (λ dss. if_even two (and_then (of_list 1 (judged (on b ns) (words_in two))) (λ ess. yes (alike_on (on b ns) dss ess)))))

abbrev pub bytes_by_maps : Board → List Net → (one two : List ℕ) → Result Bool
bytes_by_maps b ns one two =
    if_even one (and_then (of_list 0 (map_by b ns (words_in one)))
    (λ a. if_even two (and_then (of_list 1 (map_by b ns (words_in two))) (λ m. yes (maps_alike a m)))))

bytes_same : {b : Board} → Within b → (places : List Held) (one two : List ℕ)
    → bytes_by_maps b (nets_of places) one two ≡ bytes_on b (nets_of places) one two
bytes_same w places one two = ap (if_even one) (compared_same w places (words_in one) (words_in two) (if_even two))

-- ── soundness ──
module _ (s : Session) (one two : List ℕ) where
  pub two-unsound : sound? s ≡ false → compare_bytes s one two ≡ no (refusal 20 0)
  unfolding compare_bytes
  two-unsound e = rw e refl

  two_sound : sound? s ≡ true → compare_bytes s one two ≡ bytes_on s.block.board s.nets one two
  unfolding compare_bytes judged
  two_sound e = rw e refl

  -- on a sound session, what the maps give
  pub two-by-maps : sound? s ≡ true → Within s.block.board → (places : List Held) → s.nets ≡ nets_of places → {x : Result Bool}
      → x ≡ bytes_by_maps s.block.board s.nets one two → x ≡ compare_bytes s one two
  two-by-maps e w places n f =
      let same : bytes_by_maps s.block.board s.nets one two ≡ bytes_on s.block.board s.nets one two = rw n (bytes_same w places one two) in
      f ∙ (same ∙ sym (two_sound e))

-- ── each list in turn ──
module _ {b : Board} {ns : List Net} {one a : List ℕ} {c : rust.Result Unit BytesRefusal} (h : ChecksBytes b ns one unused a c) (two : List ℕ) where
  pub one_refused : (r : BytesRefusal) → c ≡ Err r → no (compare_refusal (in_list First r)) ≡ bytes_by_maps b ns one two
  one_refused bytes.UnevenBytes e = let x = rw e at h.tells in rw x.0 refl
  one_refused (bytes.List r) e = let x = rw e at h.tells in rw (x.0, map-refused x.1 refl) refl

module _ {b : Board} {ns : List Net} {one two a m : List ℕ} {c d : rust.Result Unit BytesRefusal} (h : ChecksBytes b ns one unused a c) (e : c ≡ Ok tt)
    (k : ChecksBytes b ns two unused m d) where
  pub two-refused : (r : BytesRefusal) → d ≡ Err r → no (compare_refusal (in_list Second r)) ≡ bytes_by_maps b ns one two
  two-refused bytes.UnevenBytes f = let x = rw e at h.tells in let y = rw f at k.tells in rw (x.0, map-passed x.1 refl, y.0) refl
  two-refused (bytes.List r) f =
      let x = rw e at h.tells in let y = rw f at k.tells in rw (x.0, map-passed x.1 refl, y.0, map-refused y.1 refl) refl

  pub both-passed : d ≡ Ok tt → {t : Bool} → t ≡ maps_alike a m → yes t ≡ bytes_by_maps b ns one two
  both-passed f g =
      let x = rw e at h.tells in let y = rw f at k.tells in rw (x.0, map-passed x.1 refl, y.0, map-passed y.1 refl, g) refl
