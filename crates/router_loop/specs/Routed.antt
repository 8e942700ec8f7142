-- The promise of the router put together: from zeroed notes and a good problem the answer is true, and the notes route the start.
-- Assumes what cut_all promises, and a start as Starts says.
use Rattle.std.specs.Prelude.{◌≡◌, Bool, true, List, ℕ, ◌<◌}
use Rattle.std.proofs.Common.{inl, inr}
use Rattle.router_notes.specs.State.{State, Routes}
use Rattle.router_notes.specs.Arrays.{notesOf, born}
use Rattle.router_notes.specs.declared.Table.{Table}
use Rattle.router_notes.specs.declared.Notes.{Notes}
use Rattle.router_notes.specs.declared.Lines.{Lines}
use Rattle.router_trace.specs.Directions.{Ordered}
use Rattle.router_invariant.specs.Run.{Run, Holds, Sized, state_r}
use Rattle.router_tidy.specs.Start.{Starts, start_holds, routed_end}
use Rattle.router_ends.specs.declared.Work.{Work}
use Rattle.router_ends.specs.View.{run}
use Rattle.router_loop.specs.Promise.{CutAll}

-- DEFINITION: what is handed to path assembly: the notes route the start, each pair that was asked for is noted with the ends that it was made
-- with, and
-- the notes are in the order that path assembly asks for
pub record Routed (s0 : State) (side vert half s1 s2 d1 d2 : List ℕ) : Type 0 where
  pub routes : Routes (notesOf side vert half s1 s2 d1 d2) s0
  pub made : (k : ℕ) → k < s0.n → s0.it k ≡ born side vert half s1 s2 d1 d2 k
  pub ordered : Ordered half d1 d2

ordered_of : (s0 : State) (R : Run) → Holds s0 R → Ordered R.half R.d1 R.d2
ordered_of s0 R H = record {
  later = λ k. elim (H.halves k) [ inl h ↦ inl h | inr h ↦ inr h.0 ];
  first = H.first;
  second = H.second;
}

pub routed : (t : Table) (m : Notes) (l : Lines) (w : Work) (t' : Table) (m' : Notes) (l' : Lines) (r : Bool) → CutAll t m l w t' m' l' r
    → Starts (run t m l w) → Sized (run t m l w)
    → (r ≡ true) × Routed (state_r (run t m l w)) m'.side m'.vert m'.half m'.start m'.end m'.to_corner m'.from_corner
routed t m l w t' m' l' r C S Z =
    let R = run t m l w in
    let k = C (state_r R) (start_holds R S) Z in (
      k.0,
      record {
        routes = routed_end (state_r R) (run t' m' l' k.1) k.3 k.2;
        made = k.3.made;
        ordered = ordered_of (state_r R) (run t' m' l' k.1) k.3;
      },
    )
