-- The nets from a place on, and how many they are, one place on.
-- Assumes nothing.
use Rattle.std.specs.Prelude.{◌≡◌, refl, List, [], ℕ, suc, ◌+◌, ◌<◌, ◌≤◌, length, drop, get_or, None, Some}
use Rattle.std.proofs.Common.{sym, add-one, arith, drop_of_length-le, drop-cons}
use Rattle.net.specs.View.{Held, nothing}
use Rattle.net.specs.declared.Net.{Net}
use Rattle.net_places.specs.Places.{held_net, nets_from, nets_of, held_one}

pub nets_more : (nets : List Held) (i : ℕ) → i < length nets
    → nets_from (suc i) (drop i nets) ≡ held_net (suc i) (get_or nets i nothing) (nets_from (suc (suc i)) (drop (suc i) nets))
unfolding nets_from
nets_more nets i h = rw (drop-cons nets i nothing h) refl

pub nets_none : (nets : List Held) (i : ℕ) → length nets ≤ i → nets_from (suc i) (drop i nets) ≡ []
unfolding nets_from
nets_none nets i h = rw (drop_of_length-le nets h) refl

held_length : (k : ℕ) (h : Held) (ns : List Net) → length (held_net k h ns) ≡ held_one h + length ns
held_length k None ns = let e : 0 + length ns ≡ length ns = omega arith in sym e
held_length k (Some e) ns = let f : 1 + length ns ≡ suc (length ns) = omega arith in sym f

pub length_more : (nets : List Held) (i : ℕ) → i < length nets
    → length (nets_from (suc i) (drop i nets)) ≡ held_one (get_or nets i nothing) + length (nets_from (suc (i + 1)) (drop (i + 1) nets))
length_more nets i h = rw (nets_more nets i h, add-one i)
    (held_length (suc i) (get_or nets i nothing) (nets_from (suc (suc i)) (drop (suc i) nets)))

pub length_first : (nets : List Held) → length (nets_from 1 (drop 0 nets)) ≡ length (nets_of nets)
unfolding nets_of
length_first nets = refl
