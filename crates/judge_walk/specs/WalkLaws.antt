-- The walk with a map, one step, one run, one path on: what the loops of the code keep.
-- Assumes nothing.
use Rattle.std.specs.Prelude.{◌≡◌, false, List, ◌∷◌, ℕ, suc, ◌+◌, ◌-◌, ◌<◌, ◌≤◌, length, take, drop, get_or, set, Result, Ok, Err, None, Some}
use Rattle.std.proofs.Math.Path.{refl, ap, sym}
use Rattle.std.proofs.Common.{◌∙◌, add-one, drop_of_length-le, drop-cons, lt-ltb, le-ltb}
use Rattle.std.proofs.Math.Bool.{true}
use native.Mathlib.Omega.{arith}
use Rattle.std.proofs.Math.Dec.{ltb}
use Rattle.board.specs.Board.{Board}
use Rattle.board.specs.Degree.{edge?}
use Rattle.board.specs.declared.Vertex.{Vertex}
use Rattle.board.specs.declared.Direction.{Direction}
use Rattle.net.specs.Terminals.{same}
use Rattle.net.specs.View.{Held, nothing}
use Rattle.net.specs.declared.Pair.{Pair}
use Rattle.net_places.specs.Places.{net, nets_from, nets_of}
use Rattle.words.specs.RoutingWord.{run_in}
use Rattle.words.specs.declared.Run.{Run}
use Rattle.call_rules.specs.Shape.{runs_from, paths_from}
use Rattle.judge_shape.specs.declared.Refusal.{Refusal}
use Rattle.judge_shape.specs.declared.Fault.{Fault}
use Rattle.judge_shape.specs.declared.Fault.TheVariants.{OffBoard, EdgeUsed, NotThere}
use Rattle.net_places.proofs.CountLaws.{nets_more, nets_none}
use Rattle.judge_walk.specs.Slots.{slot_at}
use Rattle.judge_walk.specs.MapWalk.{
  came,
  then_on,
  further,
  map_steps,
  map_runs,
  map_path,
  map_paths,
  path_end,
  place_end,
  path_of,
  WalksRun,
  WalksPlace,
}
use Rattle.judge_walk.specs.PartLaws.{Found, paths_out, paths_part}

-- ── a run ──
-- DEFINITION: from `left` edges to go at v, with map m, the walk comes to what it comes to from n edges at u, with map m₀
pub record Along (b : Board) (k : ℕ) (d : Direction) (n : ℕ) (u : Vertex) (m₀ : List ℕ) (left : ℕ) (v : Vertex) (m : List ℕ) : Type 0 where
  pub leads : (i : ℕ) → map_steps b k i d left v m ≡ map_steps b k i d n u m₀

module _ {b : Board} {k : ℕ} {d : Direction} {n : ℕ} {u : Vertex} {m₀ : List ℕ} where
  pub along-start : Along b k d n u m₀ n u m₀
  along-start = record { leads = λ i. refl }

  module _ {left : ℕ} {v : Vertex} {m : List ℕ} (h : Along b k d n u m₀ left v m) where
    pub along-done : left ≤ 0 → WalksRun b k (record { direction = d; length = n }) u m₀ m (Ok v)
    unfolding map_steps
    along-done z = let e : left ≡ 0 = omega arith in record { walks = λ i. rw e at (h.leads i) }

    module _ (z : 0 < left) where
      one_less : left ≡ suc (left - 1)
      one_less = omega arith

      pub along-off : edge? b d v ≡ false → WalksRun b k (record { direction = d; length = n }) u m₀ m (Err OffBoard)
      unfolding map_steps
      along-off e = record { walks = λ i. rw (one_less, e) at (h.leads i) }

      pub along-again : edge? b d v ≡ true → {s : ℕ} → s ≡ slot_at d v → 0 < get_or m s 0
          → WalksRun b k (record { direction = d; length = n }) u m₀ m (Err EdgeUsed)
      unfolding map_steps
      along-again e f g =
          let t : ltb 0 (get_or m (slot_at d v) 0) ≡ true = rw f at (lt-ltb 0 _ g) in
          record { walks = λ i. rw (one_less, e, t) at (h.leads i) }

      step-on : (i : ℕ) → edge? b d v ≡ true → ltb 0 (get_or m (slot_at d v) 0) ≡ false
          → map_steps b k i d left v m ≡ map_steps b k i d (left - 1) (further d v) (set m (slot_at d v) k)
      unfolding map_steps
      step-on i e t = ap (λ (x : ℕ). map_steps b k i d x v m) one_less ∙ (rw (e, t) refl)

      pub along-on : edge? b d v ≡ true → {s : ℕ} → s ≡ slot_at d v → get_or m s 0 ≤ 0 → {v' : Vertex} → v' ≡ further d v
          → Along b k d n u m₀ (left - 1) v' (set m s k)
      along-on e f g j =
          let t : ltb 0 (get_or m (slot_at d v) 0) ≡ false = rw f at (le-ltb 0 _ g) in
          rw (f, j) (record { leads = λ i. sym (step-on i e t) ∙ h.leads i })

-- ── a path ──
-- DEFINITION: from the runs at place j on, at v, with map m, the walk comes to what it comes to from all runs
pub record Runs (b : Board) (k : ℕ) (ends : Pair) (i : ℕ) (ws : List ℕ) (m₀ : List ℕ) (j : ℕ) (v : Vertex) (m : List ℕ) : Type 0 where
  pub leads : map_runs b k (runs_from (suc (i + j)) (drop j ws)) v m ≡ map_runs b k (runs_from (suc i) ws) ends.first m₀

pub runs_start : {b : Board} {k : ℕ} {ends : Pair} {i : ℕ} {ws m : List ℕ} → Runs b k ends i ws m 0 ends.first m
runs_start {i = i} = let e : i + 0 ≡ i = omega arith in record { leads = rw e refl }

run_first : (b : Board) (k i : ℕ) (ws : List ℕ) (j : ℕ) (v : Vertex) (m : List ℕ) → j < length ws
    → map_runs b k (runs_from (suc (i + j)) (drop j ws)) v m
    ≡ then_on (map_steps b k (suc (i + j)) (run_in (get_or ws j 0)).direction (run_in (get_or ws j 0)).length v m)
    (map_runs b k (runs_from (suc (i + suc j)) (drop (suc j) ws)))
unfolding map_runs runs_from
run_first b k i ws j v m h = let e : suc (suc (i + j)) ≡ suc (i + suc j) = omega arith in rw (drop-cons ws j 0 h, e) refl

module _ {b : Board} {k : ℕ} {ends : Pair} {i : ℕ} {ws : List ℕ} {m₀ : List ℕ} {j : ℕ} {v : Vertex} {m : List ℕ}
    (h : Runs b k ends i ws m₀ j v m) where
  module _ (l : j < length ws) {run : Run} (e : run ≡ run_in (get_or ws j 0)) {r : Result Vertex Fault} {a : List ℕ} (f : WalksRun b k run v m a r) where
    pub runs_on : {v' : Vertex} → r ≡ Ok v' → Runs b k ends i ws m₀ (j + 1) v' a
    runs_on g =
        let q = rw (e, g) at (f.walks (suc (i + j))) in
        rw (add-one j) (record { leads = sym (run_first b k i ws j v m l ∙ (rw (← q) refl)) ∙ h.leads })

    pub path-refused : {n : Fault} → r ≡ Err n → {at : ℕ} → at ≡ suc (i + j)
        → path_end (Err (record { fault = n; place = at })) a ≡ map_path b (path_of i k ends ws) m₀
    unfolding map_path
    path-refused g s =
        let q = rw (e, g) at (f.walks (suc (i + j))) in
        rw (← h.leads, run_first b k i ws j v m l, ← q, s) refl

  module _ (l : length ws ≤ j) where
    runs_done : map_runs b k (runs_from (suc i) ws) ends.first m₀ ≡ came v m
    unfolding map_runs runs_from
    runs_done = sym h.leads ∙ (rw (drop_of_length-le ws l) refl)

    pub path-passed : same v ends.second ≡ true → path_end (Ok tt) m ≡ map_path b (path_of i k ends ws) m₀
    unfolding map_path
    path-passed f = rw (runs_done, f) refl

    pub path-missed : same v ends.second ≡ false
        → path_end (Err (record { fault = NotThere; place = i })) m ≡ map_path b (path_of i k ends ws) m₀
    unfolding map_path
    path-missed f = rw (runs_done, f) refl

-- ── the path of a place ──
module _ {b : Board} {k : ℕ} {ws : List ℕ} {i : ℕ} {m : List ℕ} where
  pub place_none : {held : Held} → held ≡ None → WalksPlace b k held ws i m m (Ok i)
  place_none e = rw e (record { walks = λ ns. refl })

  module _ {held : Held} {ends : Pair} (e : held ≡ Some ends) where
    pub place_out : length ws ≤ i → WalksPlace b k held ws i m m (Ok i)
    place_out h = rw e (record { walks = λ ns. rw (paths_out i ns ws h, paths_out i (net k ends ∷ ns) ws h) refl })

    module _ {from to : ℕ} (f : Found ws i from to) {c : Result Unit Refusal} {a : List ℕ}
        (g : path_end c a ≡ map_path b (path_of i k ends (take (to - from) (drop from ws))) m) where
      pub place_on : c ≡ Ok tt → WalksPlace b k held ws i m a (Ok to)
      unfolding map_paths
      place_on h =
          let q = rw h at g in
          rw e (record { walks = λ ns. rw (paths_part f (net k ends) ns, ← q) refl })

      pub place-refused : {r : Refusal} → c ≡ Err r → WalksPlace b k held ws i m a (Err r)
      unfolding map_paths
      place-refused h =
          let q = rw h at g in
          rw e (record { walks = λ ns. rw (paths_part f (net k ends) ns, ← q) refl })

-- ── all places ──
-- DEFINITION: from the nets at place i on, whose first path word stands at index n, with map m, the walk comes to what it comes to from all nets
pub record Paths (b : Board) (nets : List Held) (ws : List ℕ) (m₀ : List ℕ) (i n : ℕ) (m : List ℕ) : Type 0 where
  pub leads : map_paths b (paths_from n (nets_from (suc i) (drop i nets)) (drop n ws)) m ≡ map_paths b (paths_from 0 (nets_of nets) ws) m₀

pub paths_start : {b : Board} {nets : List Held} {ws m : List ℕ} → Paths b nets ws m 0 0 m
unfolding nets_of
paths_start = record { leads = refl }

module _ {b : Board} {nets : List Held} {ws : List ℕ} {m₀ : List ℕ} {i n : ℕ} {m : List ℕ} (h : Paths b nets ws m₀ i n m) where
  module _ (l : i < length nets) {k : ℕ} (e : k ≡ i + 1) {r : Result ℕ Refusal} {a : List ℕ} (f : WalksPlace b k (get_or nets i nothing) ws n m a r) where
    came-to : place_end b (nets_from (suc (suc i)) (drop (suc i) nets)) ws r a ≡ map_paths b (paths_from 0 (nets_of nets) ws) m₀
    came-to =
        let z : k ≡ suc i = omega arith in
        (rw z at (f.walks (nets_from (suc (suc i)) (drop (suc i) nets)))) ∙ (rw (nets_more nets i l) at h.leads)

    pub paths-on : {n' : ℕ} → r ≡ Ok n' → Paths b nets ws m₀ (i + 1) n' a
    paths-on g = rw (add-one i) (record { leads = rw g at came-to })

    pub paths-refused : {x : Refusal} → r ≡ Err x → path_end (Err x) a ≡ map_paths b (paths_from 0 (nets_of nets) ws) m₀
    paths-refused g = rw g at came-to

  pub paths-done : length nets ≤ i → path_end (Ok tt) m ≡ map_paths b (paths_from 0 (nets_of nets) ws) m₀
  unfolding map_paths paths_from
  paths-done l = rw (nets_none nets i l) at h.leads
