-- The words of one net, from what the assembly leaves in a buffer of bytes; and those of what a place holds.
-- Assumes nothing.
use mir.Val.{bool_byte}
use Rattle.std.specs.Option.{is_some}
use Rattle.net_places.specs.Places.{held_one}
use Rattle.std.specs.Prelude.{◌≡◌, refl, List, ℕ, ◌+◌, ◌≤◌, take, drop, None, Some}
use Rattle.std.proofs.Common.{sym, subst, length-take, take_at}
use native.Mathlib.Omega.{arith}
use Rattle.std.proofs.Math.ListN.{length}
use Rattle.net.specs.declared.Pair.{Pair}
use Rattle.net.specs.declared.Net.{Net}
use Rattle.net_places.specs.Places.{net}
use Rattle.words.specs.RoutingWord.{path_words}
use Rattle.router_notes.specs.Limits.{path_limit}
use Rattle.router_trace.specs.Writes.{wrote, Room, Writes}
use Rattle.router_writer.specs.Written.{directions, Written}
use Rattle.router_writer.specs.Runs.{few_words}
use Rattle.router_writer.specs.Paths.{held_words, HeldShort}
use Rattle.net.specs.View.{Held}

module _ {w before after out out' : List ℕ} {end n r : ℕ} (net : Net) (a : Writes w 0 before end after) (size : length before ≡ path_limit)
    (low : n ≤ path_limit) (met : end ≤ path_limit → n ≡ end) (b : Written (path_words net (directions (take n after))) out r out') where
  pub net-few : r ≤ path_limit + 1
  net-few = omega (arith, b.counted, few_words net (take n after), length-take n after)

  taken : length w ≤ path_limit → take n after ≡ w
  unfolding wrote
  taken h =
      let room : Room w 0 before = record { size = size; fits = omega arith } in
      let e : n ≡ length w = omega (arith, a.end room, met (omega (arith, a.end room))) in
      rw (a.text room, e) (take_at w (drop (0 + length w) before) (length w) refl)

  pub net-written : length w ≤ path_limit → Written (path_words net (directions w)) out r out'
  net-written h = subst (λ (t : List ℕ). Written (path_words net (directions t)) out r out') (taken h) b

-- ── what a place holds ──
pub held_nothing : (h : Held) (number : ℕ) (w out : List ℕ) → h ≡ None → HeldShort h w → Written (held_words number h w) out 0 out
held_nothing h number w out e =
    subst (λ (x : Held). HeldShort x w → Written (held_words number x w) out 0 out) (sym e) (λ s. record { counted = refl; text = λ l. refl })

pub held-net : (h : Held) (number : ℕ) (p : Pair) (w out : List ℕ) (r : ℕ) (out' : List ℕ) → h ≡ Some p
    → (length w ≤ path_limit → Written (path_words (net number p) (directions w)) out r out') → HeldShort h w
    → Written (held_words number h w) out r out'
held-net h number p w out r out' e f = subst (λ (x : Held). HeldShort x w → Written (held_words number x w) out r out') (sym e) f

-- a place that holds a net holds one
pub held_is : (h : Held) → bool_byte (is_some h) ≡ held_one h
held_is None = refl
held_is (Some e) = refl
