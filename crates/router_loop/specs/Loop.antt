-- The laws of the loop: its start, the turn, one pass, and that it does not end without an answer.
-- Assumes what the parts promise.
use Rattle.std.specs.Prelude.{◌≡◌, refl, Bool, true, not, ℕ, ◌+◌, ◌-◌, ◌≤◌, ◌<◌, get_or}
use Rattle.std.proofs.Common.{ap, arith}
use Rattle.router_notes.specs.Limits.{pair_limit, last_pair, vertex_limit}
use Rattle.router_notes.specs.State.{State}
use Rattle.router_notes.specs.declared.Table.{Table}
use Rattle.router_notes.specs.declared.Notes.{Notes}
use Rattle.router_notes.specs.declared.Lines.{Lines}
use Rattle.router_table.specs.Scans.{seen_d}
use Rattle.router_invariant.specs.Run.{Run, Holds, Sized, shape_r, col_r}
use Rattle.router_invariant.proofs.Place.{seen_turn, low-col}
use Rattle.router_invariant.proofs.Turned.{turn_holds, top-stays, top-turns}
use Rattle.router_invariant.proofs.StepLaws.{step-holds, never_stuck}
use Rattle.router_invariant.specs.Ready.{Ready}
use Rattle.router_invariant.proofs.Step.{Step, Stuck}
use Rattle.router_tidy.specs.Tidy.{Tidied}
use Rattle.router_tidy.specs.Fewer.{vertices_some, vertices_few, step_fewer}
use Rattle.router_tidy.specs.Pass.{turn_vertices, ready_for}
use Rattle.router_ends.specs.declared.Work.{Work}
use Rattle.router_ends.specs.View.{run}
use Rattle.router_loop.specs.Promise.{Turned, After}

pub after_none : (R : Run) → After R R 0
after_none R s0 H Z = (H, Z, omega (arith, vertices_few (shape_r R)))

module _ (l : Lines) (w : Work) (top bottom b t : ℕ) (et : t ≡ seen_d w.up w.top) (eb : b ≡ seen_d w.up w.bottom)
    (e : bottom ≡ get_or l.last b 0 + get_or l.first t 0) (f : top ≡ get_or l.last t 0 + get_or l.first b 0) where
  wider : (bottom ≡ get_or l.last (seen_d w.up w.bottom) 0 + get_or l.first (seen_d w.up w.top) 0)
      × (top ≡ get_or l.last (seen_d w.up w.top) 0 + get_or l.first (seen_d w.up w.bottom) 0)
  wider = rw (← et, ← eb) (e, f)

  pub turn-no : (bottom < top → ⊥) → Turned l w w
  turn-no n tab m s0 H = (
    H,
    top-stays s0 (run tab m l w) H (λ h. n (omega (
      arith,
      h,
      wider,
      ap (λ k. get_or l.last k 0) (seen_turn w.up w.bottom),
      ap (λ k. get_or l.first k 0) (seen_turn w.up w.top),
      ap (λ k. get_or l.last k 0) (seen_turn w.up w.top),
      ap (λ k. get_or l.first k 0) (seen_turn w.up w.bottom),
    ))),
    refl,
  )

  pub turn-yes : bottom < top → Turned l w (record w { top = 31 - w.bottom; bottom = 31 - w.top; up = not w.up })
  turn-yes h tab m s0 H = (
    turn_holds s0 (run tab m l w) H,
    top-turns s0 (run tab m l w) H (omega (
      arith,
      h,
      wider,
      ap (λ k. get_or l.last k 0) (seen_turn w.up w.bottom),
      ap (λ k. get_or l.first k 0) (seen_turn w.up w.top),
      ap (λ k. get_or l.last k 0) (seen_turn w.up w.top),
      ap (λ k. get_or l.first k 0) (seen_turn w.up w.bottom),
    )),
    turn_vertices s0 (run tab m l w) H,
  )

-- ── one pass: R was tidied to R1, turned to R2 and stepped to R3 ──
pub ended : (R0 R : Run) (k : ℕ) → After R0 R k → vertex_limit ≤ k → (s0 : State) → Holds s0 R0 → Sized R0 → ⊥
ended R0 R k A b s0 H Z = let a = A s0 H Z in omega (arith, a.2, vertices_some (shape_r R) a.0.inv.good.shaped)

sized_work : (t : Table) (m : Notes) (l : Lines) (w v : Work) → Sized (run t m l w) → Sized (run t m l v)
sized_work t m l w v Z = record {
  la = Z.la;
  lb = Z.lb;
  ids = Z.ids;
  side = Z.side;
  vert = Z.vert;
  half = Z.half;
  s1 = Z.s1;
  s2 = Z.s2;
  d1 = Z.d1;
  d2 = Z.d2;
  lo = Z.lo;
  hi = Z.hi;
}

module _ (R0 : Run) (t : Table) (m : Notes) (l : Lines) (w : Work) (k : ℕ) (A : After R0 (run t m l w) k) (t1 : Table) (n : ℕ)
    (T : Tidied t w.n t1 n n) where
  abbrev pub fresh : Work
  fresh = record w { n = n }

  tidied : (s0 : State) → Holds s0 R0 → Sized R0 → Holds s0 (run t1 m l fresh) × Sized (run t1 m l fresh)
  tidied s0 H Z = let a = A s0 H Z in T.keeps s0 (run t m l w) (a.0, a.1)

  -- no pair is live
  pub all_done : n ≡ 0 → (s0 : State) → Holds s0 R0 → Sized R0
      → (◌≡◌ {A = Bool} true true) × (v : Work) × (v.n ≡ 0) × Holds s0 (run t1 m l v)
  all_done z s0 H Z = (refl, fresh, z, (tidied s0 H Z).0)

  module _ (v : Work) (U : Turned l fresh v) (en : v.n ≡ n) (some : n ≡ 0 → ⊥) (few : v.n < pair_limit) (room : v.next < last_pair) where
    abbrev R2 : Run
    R2 = run t1 m l v

    ready : (s0 : State) (H : Holds s0 R0) (Z : Sized R0) → Ready s0 R2
    ready s0 H Z =
        let g = tidied s0 H Z in let u = U t1 m s0 g.0 in
        ready_for s0 R2 u.0 (sized_work t1 m l fresh v g.1) (λ i b. T.proper i (omega arith)) u.1

    -- the router is not stuck
    pub goes-on : (col_r R2 < 32 → Stuck R2) → (s0 : State) → Holds s0 R0 → Sized R0 → ⊥
    goes-on S s0 H Z =
        let x = S (low-col R2 (U t1 m s0 (tidied s0 H Z).0).0.inv.good.shaped) in
        never_stuck s0 R2 (ready s0 H Z) few room (omega (arith, some)) x

    -- and the step leads on
    pub pass : {R3 : Run} → (col_r R2 < 32 → Step R2 R3) → After R0 R3 (k + 1)
    pass {R3} S s0 H Z =
        let u = U t1 m s0 (tidied s0 H Z).0 in
        let x = S (low-col R2 u.0.inv.good.shaped) in
        let h = step-holds s0 R2 (ready s0 H Z) few room R3 x in
        (h.0, h.1, omega (arith, (A s0 H Z).2, u.2, step_fewer s0 R2 (ready s0 H Z) R3 x))
