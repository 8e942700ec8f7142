-- A check of a list in its parts, and the verdict and the comparison by what the checks say.
-- On a board within the limits the verdict is that of document 01.
-- Assumes nothing but that, where it is said.
use Rattle.std.proofs.Math.Path.{◌≡◌, refl, sym}
use Rattle.std.proofs.Common.{ap, ◌∙◌, arith, lt-ltb}
use Rattle.std.specs.Prelude as rust
use Rattle.std.specs.Prelude.{Ok, Err, Bool, true, List, [], ◌∷◌, ℕ, suc, ◌<◌, eqb, ltb, length, None, Some}
use Rattle.std.proofs.Math.Option.{Option, none, some}
use Rattle.count.specs.TruthLaws.{or_right}
use Rattle.count.specs.Each.{Each}
use Rattle.board.specs.Board.{Board, Within, Edge}
use Rattle.net.specs.declared.Net.{Net}
use Rattle.session_rules.specs.Refusal as machine
use Rattle.session_rules.specs.Refusal.{line, first_refusal}
use Rattle.session_rules.specs.Session.{pairs}
use Rattle.net_places.specs.Places.{held_net, nets_from, nets_of}
use Rattle.call_rules.specs.Result.{Result, no, yes, and_then, unless}
use Rattle.call_rules.specs.Route.{or_else}
use Rattle.call_rules.specs.Shape.{routing_limit, between, bad_count, words_refused, paths_from}
use Rattle.call_rules.specs.Walk.{walk_paths}
use Rattle.call_rules.specs.Report as calls
use Rattle.call_rules.specs.Report.{report_of}
use Rattle.call_rules.specs.Judge.{paths_in, judged}
use Rattle.judge_shape.specs.Refused.{refusal_of, refused_of}
use Rattle.judge_shape.specs.States.{shape_refused}
use Rattle.judge_shape.specs.declared.Refusal.{Refusal}
use Rattle.judge_shape.specs.declared.Fault.TheVariants.{Length}
use Rattle.judge_walk.specs.EdgeMap.{unused, map_of}
use Rattle.judge_walk.specs.MapWalk.{Came, stopped, came, unless_at, map_paths, path_end}
use Rattle.judge_walk.specs.SameWalk.{Agree, Marked, marks_none, paths_same}
use Rattle.judge_walk.specs.MapMade.{map-made}
use Rattle.judge_alike.specs.MapsAlike.{maps_alike}
use Rattle.judge_alike.specs.Alike.{nets_in}
use Rattle.judge_laws.specs.Shapes.{shape_nets}
use Rattle.words.specs.Bytes.{words_in}
use Rattle.words_bytes.specs.Words.{FilledAll}
use Rattle.words_bytes.specs.WordsLaws.{told-uneven, told-long}
use Rattle.words_bytes.specs.declared.FillError.{FillError}
use Rattle.words_bytes.specs.declared.FillError.TheVariants.{Uneven, Long}
use Rattle.judge_list.specs.Refusals.{unfilled}
use Rattle.net.specs.View.{Held}
use Rattle.judge_list.specs.Verdicts.{
  check_on,
  Checks,
  ChecksBytes,
  passing,
  judged_by,
  verdict_by,
  map_by,
  comparison_by,
  on,
  verdict_on,
  list_refusal,
}

-- ── a check: its shape, then its paths ──
module _ {b : Board} {ns : List Net} {ws m : List ℕ} {c : rust.Result Unit Refusal} (e : refused_of c ≡ shape_refused ns ws) where
  pub shape-stops : {r : Refusal} → c ≡ Err r → Checks b ns ws m m (Err r)
  unfolding check_on
  shape-stops f = record { ends = rw (← e, f) refl }

  pub shape-lets : c ≡ Ok tt → {d : rust.Result Unit Refusal} {a : List ℕ} → path_end d a ≡ map_paths b (paths_from 0 ns ws) m → Checks b ns ws m a d
  unfolding check_on
  shape-lets f g = record { ends = g ∙ (rw (← e, f) refl) }

pub shape_passed : (ns : List Net) (ws : List ℕ) {c : rust.Result Unit Refusal} → refused_of c ≡ shape_refused ns ws → c ≡ Ok tt → shape_refused ns ws ≡ none
shape_passed ns ws e f = sym e ∙ (rw f refl)

-- more words than a routing may have
pub long_stops : {b : Board} {ns : List Net} (ws : List ℕ) {m : List ℕ} → routing_limit < length ws
    → Checks b ns ws m m (Err (record { fault = Length; place = 0 }))
unfolding check_on shape_refused
long_stops ws h =
    let e : bad_count ws ≡ true = or_right (eqb (length ws) 0) (ltb routing_limit (length ws)) (lt-ltb routing_limit (length ws) h) in
    record { ends = rw e refl }

-- bytes that do not fill a list of so many words
pub bytes-unfilled : {b : Board} {ns : List Net} {bs m before after : List ℕ} {r : rust.Result ℕ FillError} (f : FillError)
    → FilledAll bs before after r → length before ≡ routing_limit → r ≡ Err f → ChecksBytes b ns bs m m (Err (unfilled f))
bytes-unfilled Uneven F l e = record { tells = (told-uneven F e, refl) }
bytes-unfilled {bs = bs} Long F l e =
    let (even, long) = told-long F e in
    record { tells = (even, long_stops (words_in bs) (omega (arith, long, l))) }

-- the same words, the same answer
pub checks_same : {b : Board} {ns : List Net} {vs ws m a : List ℕ} {c d : rust.Result Unit Refusal} → Checks b ns vs m a c → vs ≡ ws → c ≡ d → Checks b ns ws m a d
checks_same h e f = rw (← e, ← f) h

module _ {b : Board} {ns : List Net} {ws : List ℕ} {c : rust.Result Unit Refusal} {a : List ℕ} (h : Checks b ns ws unused a c) where
  pub refused-by : {r : Refusal} → c ≡ Err r → judged_by b ns ws ≡ no (refusal_of r)
  unfolding judged_by
  refused-by f = rw (← h.ends, f) refl

  pub passed-by : c ≡ Ok tt → judged_by b ns ws ≡ yes (paths_in (paths_from 0 ns ws))
  unfolding judged_by
  passed-by f = rw (← h.ends, f) refl

  -- ── the verdict ──
  pub verdict-refused : {r : Refusal} → c ≡ Err r → no (refusal_of r) ≡ verdict_by b ns ws
  verdict-refused f = rw (refused-by f) refl

  pub verdict-passed : c ≡ Ok tt → {r : calls.Report} → r ≡ report_of (pairs ns) (paths_in (paths_from 0 ns ws)) → yes r ≡ verdict_by b ns ws
  verdict-passed f g = rw (passed-by f, g) refl

  -- ── the map, and the comparison with a second list ──
  pub map-refused : {r : Refusal} → c ≡ Err r → map_by b ns ws ≡ no (refusal_of r)
  unfolding map_by
  map-refused f = rw (← h.ends, f) refl

  pub map-passed : c ≡ Ok tt → map_by b ns ws ≡ yes a
  unfolding map_by
  map-passed f = rw (← h.ends, f) refl

  pub first-refused : (vs : List ℕ) {r : Refusal} → c ≡ Err r → no (list_refusal 0 r) ≡ comparison_by b ns ws vs
  first-refused vs f = rw (map-refused f) refl

  -- the shape passed, and so did the paths
  pub checked-passed : c ≡ Ok tt → (shape_refused ns ws ≡ none) × (map_paths b (paths_from 0 ns ws) unused ≡ came tt a)
  unfolding check_on
  checked-passed f = go (shape_refused ns ws) (rw f at h.ends)
    where
      go : (o : Option machine.Refusal) → came tt a ≡ unless_at unused o (map_paths b (paths_from 0 ns ws) unused)
          → (o ≡ none) × (map_paths b (paths_from 0 ns ws) unused ≡ came tt a)
      go none g = (refl, sym g)
      go (some r) g = absurd (let z : ◌≡◌ {A = ℕ} 0 1 = cc in omega arith)

module _ {b : Board} {ns : List Net} {vs ws : List ℕ} {c d : rust.Result Unit Refusal} {a m : List ℕ} (h : Checks b ns vs unused a c) (f : c ≡ Ok tt)
    (k : Checks b ns ws unused m d) where
  pub second-refused : {r : Refusal} → d ≡ Err r → no (list_refusal 1 r) ≡ comparison_by b ns vs ws
  second-refused g = rw (map-passed h f, map-refused k g) refl

  pub maps-compared : d ≡ Ok tt → {t : Bool} → t ≡ maps_alike a m → yes t ≡ comparison_by b ns vs ws
  maps-compared g e = rw (map-passed h f, map-passed k g, e) refl

-- a list with the shape has a path for each net
pub shape_all : (ns : List Net) (ws : List ℕ) → shape_refused ns ws ≡ none → nets_in (paths_from 0 ns ws) ≡ ns
unfolding shape_refused
shape_all ns ws e = shape_nets (length ns) 0 ns ws (go (first_refusal (line (bad_count ws) 41 0 ∷ [])) e)
  where
    go : (o : Option machine.Refusal) → or_else o (words_refused (length ns) 0 between ns ws) ≡ none → words_refused (length ns) 0 between ns ws ≡ none
    go none f = f
    go (some r) f = absurd (let z : ◌≡◌ {A = ℕ} 0 1 = cc in omega arith)

-- ── within the limits ──
pub numbers_above : (k : ℕ) (places : List Held) (i : ℕ) (ws : List ℕ) → 0 < k → Each (λ q. 0 < q.net.number) (paths_from i (nets_from k places) ws)
unfolding nets_from paths_from
numbers_above k [] i ws p = tt
numbers_above k (place ∷ places) i ws p = go place (λ j vs. numbers_above (suc k) places j vs (omega arith)) ws
  where
    go : (held : Held) → ((j : ℕ) (vs : List ℕ) → Each (λ q. 0 < q.net.number) (paths_from j (nets_from (suc k) places) vs))
        → (ws : List ℕ) → Each (λ q. 0 < q.net.number) (paths_from i (held_net k held (nets_from (suc k) places)) ws)
    go None rest ws = rest i ws
    go (Some e) rest [] = tt
    go (Some e) rest (w ∷ ws) = (p, rest _ _)

unless_twice : {A : Type 0} (x y : Option machine.Refusal) (z : Result A) → unless x (unless y z) ≡ unless (or_else x y) z
unless_twice none y z = refl
unless_twice (some r) y z = refl

pub judged_is : (b : Board) (ns : List Net) (ws : List ℕ)
    → judged (on b ns) ws ≡ unless (shape_refused ns ws) (and_then (walk_paths b (paths_from 0 ns ws) []) (λ used. yes (paths_in (paths_from 0 ns ws))))
unfolding judged shape_refused
judged_is b ns ws = unless_twice (first_refusal (line (bad_count ws) 41 0 ∷ [])) (words_refused (length ns) 0 between ns ws) _

agree_passing : {A : Type 0} (x : Came (Unit {0})) (y : Result (List Edge)) (z : A) → Agree Marked x y → passing x z ≡ and_then y (λ used. yes z)
agree_passing (stopped r m) (no s) z h = ap no h
agree_passing (stopped r m) (yes y) z h = absurd h
agree_passing (came u m) (no s) z h = absurd h
agree_passing (came u m) (yes y) z h = refl

-- THE LAW: on a board within the limits, judging with a map is judging
pub judged_same : {b : Board} → Within b → (places : List Held) (ws : List ℕ) → judged_by b (nets_of places) ws ≡ judged (on b (nets_of places)) ws
unfolding judged_by check_on nets_of
judged_same {b} w places ws = go (shape_refused ns ws) ∙ sym (judged_is b ns ws)
  where
    ns : List Net
    ns = nets_from 1 places

    go : (o : Option machine.Refusal) → passing (unless_at unused o (map_paths b (paths_from 0 ns ws) unused)) (paths_in (paths_from 0 ns ws))
        ≡ unless o (and_then (walk_paths b (paths_from 0 ns ws) []) (λ used. yes (paths_in (paths_from 0 ns ws))))
    go none =
        agree_passing (map_paths b (paths_from 0 ns ws) unused) (walk_paths b (paths_from 0 ns ws) []) (paths_in (paths_from 0 ns ws))
        (paths_same w (paths_from 0 ns ws) (numbers_above 1 places 0 ws (omega arith)) [] unused marks_none)
    go (some r) = refl

-- and the map that a list leaves that passes is the map of its paths
pub map_left : {b : Board} → Within b → (places : List Held) (ws : List ℕ) {c : rust.Result Unit Refusal} {a : List ℕ} → Checks b (nets_of places) ws unused a c
    → c ≡ Ok tt → a ≡ map_of (paths_from 0 (nets_of places) ws)
unfolding nets_of
map_left w places ws h f = map-made w (paths_from 0 (nets_from 1 places) ws) (numbers_above 1 places 0 ws (omega arith)) (checked-passed h f).1

pub verdict_same : {b : Board} → Within b → (places : List Held) (ws : List ℕ) → verdict_by b (nets_of places) ws ≡ verdict_on b (nets_of places) ws
verdict_same w places ws = rw (judged_same w places ws) refl
