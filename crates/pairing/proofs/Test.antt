-- The test that no cut is overfull: what it says, and that it depends only on how many nets cross each cut.
-- Assumes nothing.
use Rattle.std.specs.Prelude.{◌≡◌, refl, true, List, [], ◌∷◌, ◌++◌, ◌↔◌, ℕ, ◌+◌, ◌≤◌}
use Rattle.std.proofs.Common.{arith}
use Rattle.board.specs.Board.{Board}
use Rattle.board.specs.declared.Vertex.{Vertex}
use Rattle.net.specs.declared.Pair.{Pair}
use Rattle.net.specs.Terminals.{terminals}
use Rattle.cut.specs.declared.Cut.{Cut}
use Rattle.cut.specs.Cut.{side, crossing, overfull_cuts}
use Rattle.cut.specs.First.{no-overfull}
use Rattle.cut.specs.Laws.{overfull_more}
use Rattle.corner.specs.Pairs.{pair, Take}
use Rattle.corner.proofs.Tallies.{leaving_cons}
use Rattle.corner.proofs.Taking.{leaving_take}
use Rattle.corner.proofs.Counted.{crossing_leaving}
use Rattle.pairing.specs.Search.{empty?, open?}

empty_exact : (xs : List Cut) → (empty? xs ≡ true) ↔ (xs ≡ [])
empty_exact [] = (λ e. refl, λ e. refl)
empty_exact (x ∷ xs) =
    (λ e. absurd (let z : ◌≡◌ {A = ℕ} 0 1 = cc in omega arith), λ e. absurd (let z : ◌≡◌ {A = ℕ} 0 1 = cc in omega arith))

pub open_exact : (b : Board) (qs : List Pair) → (open? b qs ≡ true) ↔ (overfull_cuts b qs ≡ [])
unfolding open?
open_exact b qs = empty_exact (overfull_cuts b qs)

-- nets that cross no cut more often keep it
pub open_fewer : (b : Board) (ps qs : List Pair) → ((x : Cut) → crossing x ps ≤ crossing x qs) → open? b qs ≡ true → open? b ps ≡ true
open_fewer b ps qs h e = (open_exact b ps).1 ((no-overfull b ps).1 (λ x c o.
    (no-overfull b qs).0 ((open_exact b qs).0 e) x c ((overfull_more b qs x).1 (omega (arith, (overfull_more b ps x).0 o, h x)))))

pub crossing_append : (x : Cut) (hs qs : List Pair) → crossing x (hs ++ qs) ≡ crossing x hs + crossing x qs
unfolding crossing
crossing_append x [] qs = omega arith
crossing_append x (p ∷ hs) qs = omega (arith, crossing_append x hs qs)

-- a pair taken out and put in front, in either direction
pub crossing_take : (x : Cut) (u v : Vertex) (hs rest : List Pair) → Take u v hs rest → crossing x hs ≡ crossing x (pair u v ∷ rest)
crossing_take x u v hs rest t =
    omega (arith, crossing_leaving x hs, crossing_leaving x (pair u v ∷ rest), leaving_take (side x) u v t, leaving_cons (side x) u v rest)

pub terminals_append : (hs qs : List Pair) (x : Vertex) → terminals (hs ++ qs) x ≡ terminals hs x + terminals qs x
unfolding terminals
terminals_append [] qs x = omega arith
terminals_append (p ∷ hs) qs x = omega (arith, terminals_append hs qs x)
