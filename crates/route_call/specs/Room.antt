-- No sound session asks routing for more than 2,049 words; so a buffer that is cut to as many is as good as it was.
-- Assumes a sound session.
use Rattle.std.specs.Prelude.{◌≡◌, refl, ℕ, ◌≤◌, min, ltb}
use Rattle.std.proofs.Common.{sym, ◌∙◌, inl, inr, arith, lt-ltb, le-ltb}
use Rattle.count.specs.TruthLaws.{bool, le_or_lt}
use Rattle.board_edges.proofs.Framed.{edges_most}
use Rattle.session_rules.specs.Session.{Session}
use Rattle.session_rules.specs.Sound.{Sound, sound?}
use Rattle.session_laws.proofs.Exact.{sound_exact}
use Rattle.session_laws.proofs.Few.{few_nets}
use Rattle.session_laws.proofs.Stays.{sound_fine}
use Rattle.call_rules.specs.Shape.{routing_limit}
use Rattle.call_rules.specs.Route.{route_room, route_refused}

pub room_most : (s : Session) → Sound s → route_room s ≤ routing_limit
room_most s S =
    let f = sound_fine s S in
    omega (arith, edges_most s.block.board S.within, few_nets s.block s.nets f.rising f.good)

-- as many words as are enough are as good as more
same_short : (n enough room : ℕ) → room ≤ enough → ltb (min n enough) room ≡ ltb n room
same_short n enough room h = elim (le_or_lt room n) [
  | inl k ↦ le-ltb (min n enough) room (omega arith) ∙ sym (le-ltb n room k)
  | inr k ↦ lt-ltb (min n enough) room (omega arith) ∙ sym (lt-ltb n room k)
]

pub cut_short : (s : Session) (n : ℕ) → route_refused s (min n routing_limit) ≡ route_refused s n
unfolding route_refused
cut_short s n = elim (bool (sound? s)) [
  | inl e ↦ rw (same_short n routing_limit (route_room s) (room_most s ((sound_exact s).0 e))) refl
  | inr e ↦ rw e refl
]
