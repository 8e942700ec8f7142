-- Routing into bytes: the words of the routing, put at the start of the buffer of bytes.
-- Assumes what routing into words promises.
use Rattle.std.specs.Prelude.{◌≡◌, refl, ℕ, ◌/◌, ◌≤◌, min, drop}
use Rattle.std.proofs.Math.Path.{ap}
use Rattle.std.proofs.Common.{sym, ◌∙◌, arith, length-append, take_at}
use mathlib.Core.List.{List, ◌++◌, append_assoc}
use Rattle.std.proofs.Math.ListN.{length, take}
use Rattle.session_rules.specs.Refusal.{Refusal}
use Rattle.session_rules.specs.Session.{Session}
use Rattle.words.specs.Bytes.{bytes_of}
use Rattle.words.specs.RoutingWord.{routing_words}
use Rattle.words_bytes.specs.Put.{put_into}
use Rattle.words_bytes.specs.PutLaws.{bytes_length}
use Rattle.call_rules.specs.Result.{Result, no, yes}
use Rattle.call_rules.specs.Shape.{routing_limit}
use Rattle.call_rules.specs.Route.{route_refused, Routes, RoutesBytes, refused, given}
use Rattle.call_rules.proofs.RouteLaws.{same_why}
use Rattle.route_call.specs.Room.{cut_short}

module _ (s : Session) where
  -- the words fit where the buffer keeps its length
  pub count_fits : {words words' : List ℕ} {a : Result ℕ} → Routes s words a words' → length words' ≡ length words
      → (n : ℕ) → a ≡ yes n → n ≤ length words
  count_fits (refused e) k n f = absurd (cc)
  count_fits {words} (given {count = m} e H) k n f =
      let ws = routing_words s.nets H.paths in let same : m ≡ n = cc in
      omega (arith, H.counted, ap length H.words, length-append ws (drop (length ws) words))

  pub bytes-refused : {before words words' : List ℕ} {a : Result ℕ} → Routes s words a words' → length words ≡ min (length before / 4) routing_limit
      → (q : Refusal) → a ≡ no q → RoutesBytes s before (no q) before
  bytes-refused {before} (refused {r} e) k q f =
      let n = length before / 4 in let same : r ≡ q = cc in
      refused {r = q} (same_why s (min n routing_limit) n (cut_short s n) (rw (← k, ← same) e))
  bytes-refused (given e H) k q f = absurd (cc)

  pub into-bytes : (rest : List ℕ) {before words words' : List ℕ} {a : Result ℕ} → Routes s words a words'
      → length words ≡ min (length before / 4) routing_limit → (n : ℕ) → a ≡ yes n
      → RoutesBytes s before (yes n) (put_into before (take n (words' ++ rest)))
  unfolding bytes_of
  into-bytes rest (refused e) k n f = absurd (cc)
  into-bytes rest {before} {words} {words'} (given {count} e H) k n f =
      let ws = routing_words s.nets H.paths in let same : count ≡ n = cc in
      let t : take n (words' ++ rest) ≡ ws = rw (H.words, ← same, H.counted, append_assoc ws (drop (length ws) words) rest)
      (take_at ws (drop (length ws) words ++ rest) (length ws) refl) in
      given {after = put_into before (take n (words' ++ rest))} (sym (cut_short s (length before / 4)) ∙ ap (route_refused s) (sym k) ∙ e) (record {
        paths = H.paths;
        routing = H.routing;
        bytes = rw (t, bytes_length ws) refl;
        counted = sym same ∙ H.counted;
      })
