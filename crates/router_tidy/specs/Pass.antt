-- Between two steps: rows that are not trivial are proper pairs, the shape read the other way has as many vertices, and what a step starts from.
-- Assumes the invariant.
use Rattle.std.specs.Prelude.{◌≡◌, Bool, List, ℕ, zero, suc, ◌≤◌, ◌<◌, get_or}
use Rattle.std.proofs.Common.{ap, ◌∙◌, sym, arith}
use Rattle.count.specs.TruthLaws.{not_true}
use Rattle.net.specs.Terminals.{same}
use Rattle.corner.specs.Pairs.{Proper}
use Rattle.net.specs.Same.{same_true}
use Rattle.corner.specs.Shape.{last, vertices, Top}
use Rattle.corner.proofs.Presence.{last_suc}
use Rattle.corner.proofs.Flip.{flip_vertices}
use Rattle.router_notes.specs.State.{State}
use Rattle.router_notes.specs.Table.{pairs_of}
use Rattle.router_notes.specs.Inv.{turn, turn_i}
use Rattle.router_notes.specs.Corner.{turn_twice}
use Rattle.router_notes.specs.Alike.{flip_alike}
use Rattle.router_notes.specs.Arrays.{vtx, row_of}
use Rattle.router_invariant.specs.Run.{Run, Holds, Sized, shape_r, pairs_r}
use Rattle.router_invariant.proofs.Place.{vtx_same, last_is}
use Rattle.router_invariant.specs.Ready.{Ready}
use Rattle.router_invariant.proofs.Turned.{turn_run}
use Rattle.router_tidy.specs.Fewer.{vertices_alike}

proper_pairs : (la lb ids : List ℕ) (o : Bool) (n : ℕ) → ((k : ℕ) → k < n → ((vtx (get_or la k 0)).line ≤ last) × ((vtx (get_or lb k 0)).line ≤ last))
    → ((k : ℕ) → k < n → get_or la k 0 ≡ get_or lb k 0 → ⊥) → Proper (pairs_of n (λ k. turn_i o (row_of la lb ids k)))
proper_pairs la lb ids o zero f h = tt
proper_pairs la lb ids o (suc n) f h = (
  not_true (same (turn o (vtx (get_or la n 0))) (turn o (vtx (get_or lb n 0)))) (λ e. h n (omega arith) (vtx_same (get_or la n 0) (get_or lb n 0)
      (sym (turn_twice o (vtx (get_or la n 0)) (f n (omega arith)).0)
      ∙ ap (turn o) (same_true (turn o (vtx (get_or la n 0))) (turn o (vtx (get_or lb n 0))) e)
      ∙ turn_twice o (vtx (get_or lb n 0)) (f n (omega arith)).1))),
  proper_pairs la lb ids o n (λ k l. f k (omega arith)) (λ k l. h k (omega arith)),
)

pub proper_rows : (s0 : State) (R : Run) → Holds s0 R → ((k : ℕ) → k < R.n → get_or R.la k 0 ≡ get_or R.lb k 0 → ⊥) → Proper (pairs_r R)
proper_rows s0 R H h = proper_pairs R.la R.lb R.ids R.up R.n H.inv.frame h

pub turn_vertices : (s0 : State) (R : Run) → Holds s0 R → vertices (shape_r (turn_run R)) ≡ vertices (shape_r R)
turn_vertices s0 R H = sym (rw (← last_is) (vertices_alike _ _
    (flip_alike R.lo R.hi R.top R.bottom R.up H.inv.good.shaped.order low))) ∙ flip_vertices (shape_r R) H.inv.good.shaped
  where
    low : R.bottom ≤ last
    low = omega (arith, H.inv.good.shaped.low, last_suc)

pub ready_for : (s0 : State) (R : Run) → Holds s0 R → Sized R → ((k : ℕ) → k < R.n → get_or R.la k 0 ≡ get_or R.lb k 0 → ⊥) → Top (shape_r R)
    → Ready s0 R
ready_for s0 R H Z h T = record { holds = H; sized = Z; proper = proper_rows s0 R H h; inside = T }
