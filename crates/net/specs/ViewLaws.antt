-- How a loop over the places counts over the nets that they hold.
-- Assumes nothing.
use Rattle.std.specs.Prelude.{◌≡◌, refl, List, [], ◌∷◌, ℕ, suc, ◌+◌, ◌<◌, length, drop, get_or, None, Some}
use Rattle.std.proofs.Common.{ap, sym, add-one, arith, drop-cons}
use Rattle.std.proofs.Math.Seq.{drop-length}
use Rattle.count.specs.Lists.{tally}
use Rattle.board.specs.declared.Vertex.{Vertex}
use Rattle.net.specs.Terminals.{ends, terminals}
use Rattle.net.specs.declared.Pair.{Pair}
use Rattle.net.specs.View.{Held, nothing, held_then, pairs_of, held_by}

-- ── a loop over the places sums over the nets ──
held_tally : (f : Pair → ℕ) (h : Held) (ps : List Pair) → tally f (held_then h ps) ≡ held_by f h + tally f ps
unfolding tally
held_tally f None ps = let e : 0 + tally f ps ≡ tally f ps = omega arith in sym e
held_tally f (Some p) ps = refl

pub tally_more : (f : Pair → ℕ) (nets : List Held) (i : ℕ) → i < length nets
    → tally f (pairs_of (drop i nets)) ≡ held_by f (get_or nets i nothing) + tally f (pairs_of (drop (i + 1) nets))
unfolding pairs_of
tally_more f nets i h = rw (add-one i, drop-cons nets i nothing) (held_tally f (get_or nets i nothing) (pairs_of (drop (suc i) nets)))

pub tally_none : (f : Pair → ℕ) (nets : List Held) → tally f (pairs_of (drop (length nets) nets)) ≡ 0
unfolding tally pairs_of
tally_none f nets = rw (drop-length nets) refl

pub terminals_tally : (ps : List Pair) (v : Vertex) → terminals ps v ≡ tally (λ p. ends p v) ps
unfolding terminals tally
terminals_tally [] v = refl
terminals_tally (p ∷ ps) v = ap (λ (n : ℕ). ends p v + n) (terminals_tally ps v)
