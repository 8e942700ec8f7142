-- On a board within the limits two maps of used edges say whether the routings are alike: comparing is that of document 02, §3.
-- Assumes that the board is within the limits.
use Rattle.std.specs.Prelude.{◌≡◌, Bool, List, [], ◌∷◌, ℕ, suc, None, Some}
use Rattle.std.proofs.Math.Path.{refl, ap, sym}
use Rattle.std.proofs.Common.{◌∙◌, arith}
use Rattle.board.specs.Board.{Board, Within}
use Rattle.board.specs.declared.Direction.{Direction}
use Rattle.net.specs.declared.Net.{Net}
use Rattle.net.specs.declared.Pair.{Pair}
use Rattle.routing_rules.specs.Routing.{Routing}
use Rattle.session_rules.specs.Session.{pairs}
use Rattle.session_laws.specs.Rising.{From}
use Rattle.session_laws.proofs.Rising.{from_less}
use Rattle.net_places.specs.Places.{held_net, nets_from, nets_of}
use Rattle.call_rules.specs.Result.{Result, no, yes, and_then}
use Rattle.call_rules.proofs.Results.{yes_same, passed, then_yes}
use Rattle.call_rules.specs.Shape.{PathAt, paths_from}
use Rattle.call_rules.specs.Walk.{walk_paths}
use Rattle.call_rules.specs.Judge.{paths_in, judged, of_list, alike_on}
use Rattle.judge_shape.specs.States.{shape_refused}
use Rattle.std.specs.Prelude.{Ok}
use Rattle.judge_walk.specs.EdgeMap.{unused, map_of}
use Rattle.judge_walk.specs.MapWalk.{Came, stopped, came}
use Rattle.judge_laws.specs.Walks.{ends_of}
use Rattle.judge_laws.specs.Exact.{passes_sound}
use Rattle.judge_alike.specs.MapsAlike.{maps_alike}
use Rattle.judge_alike.specs.Alike.{nets_in, lists-alike}
use Rattle.judge_list.specs.Verdicts.{check_on, Checks, judged_by, leaving, map_by, comparison_by, on, comparison_on}
use Rattle.judge_list.specs.VerdictLaws.{shape_all, judged_is, judged_same, map_left}
use Rattle.net.specs.View.{Held}

-- ── the nets and paths of a list ──
nets_rise : (k : ℕ) (places : List Held) → From k (nets_from k places)
unfolding nets_from
nets_rise k [] = tt
nets_rise k (place ∷ places) = go place (nets_rise (suc k) places)
  where
    go : (held : Held) → From (suc k) (nets_from (suc k) places) → From k (held_net k held (nets_from (suc k) places))
    go None f = from_less (suc k) k (nets_from (suc k) places) (omega arith) f
    go (Some e) f = (omega arith, f)

pub ends_in : (ps : List PathAt) → ends_of ps ≡ pairs (nets_in ps)
ends_in [] = refl
ends_in (p ∷ ps) = ap (λ (l : List Pair). p.net.ends ∷ l) (ends_in ps)

-- a list that passes: the nets and the paths in it
in_list : (b : Board) (ns : List Net) (ws : List ℕ) (dss : List (List Direction)) → judged (on b ns) ws ≡ yes dss
    → (nets_in (paths_from 0 ns ws) ≡ ns) × (paths_in (paths_from 0 ns ws) ≡ dss)
in_list b ns ws dss e =
    let (s, t) = passed (shape_refused ns ws) (and_then (walk_paths b (paths_from 0 ns ws) []) (λ used. yes (paths_in (paths_from 0 ns ws)))) dss
    (sym (judged_is b ns ws) ∙ e) in
    let (used, u, y) = then_yes (walk_paths b (paths_from 0 ns ws) []) (λ used. yes (paths_in (paths_from 0 ns ws))) dss t in
    (shape_all ns ws s, yes_same _ _ y)

-- ── comparing ──
module _ {b : Board} (w : Within b) (places : List Held) where
  -- the map by which a list is judged is the map of its paths
  mapped-same : (ws : List ℕ) → map_by b (nets_of places) ws
      ≡ and_then (judged (on b (nets_of places)) ws) (λ dss. yes (map_of (paths_from 0 (nets_of places) ws)))
  unfolding map_by judged_by
  mapped-same ws = go (check_on b (nets_of places) ws unused) refl
    where
      go : (x : Came (Unit {0})) → check_on b (nets_of places) ws unused ≡ x
          → leaving x ≡ and_then (judged (on b (nets_of places)) ws) (λ dss. yes (map_of (paths_from 0 (nets_of places) ws)))
      go (stopped r m) e =
          let j : judged (on b (nets_of places)) ws ≡ no r = sym (judged_same w places ws) ∙ (rw e refl) in
          rw j refl
      go (came tt m) e =
          let j : judged (on b (nets_of places)) ws ≡ yes (paths_in (paths_from 0 (nets_of places) ws)) = sym (judged_same w places ws) ∙ (rw e refl) in
          let k : Checks b (nets_of places) ws unused m (Ok tt) = record { ends = sym e } in
          rw (j, map_left w places ws k refl) refl

  -- of two lists that pass, the maps are alike exactly where the routings are
  maps-same : (vs ws : List ℕ) (dss ess : List (List Direction)) → judged (on b (nets_of places)) vs ≡ yes dss
      → judged (on b (nets_of places)) ws ≡ yes ess
      → maps_alike (map_of (paths_from 0 (nets_of places) vs)) (map_of (paths_from 0 (nets_of places) ws)) ≡ alike_on (on b (nets_of places)) dss ess
  unfolding nets_of
  maps-same vs ws dss ess e f =
      let ns = nets_of places in
      let ps = paths_from 0 ns vs in
      let qs = paths_from 0 ns ws in
      let (n, d) = in_list b ns vs dss e in
      let (o, g) = in_list b ns ws ess f in
      let x : ends_of ps ≡ pairs ns = ends_in ps ∙ ap pairs n in
      let y : ends_of qs ≡ pairs ns = ends_in qs ∙ ap pairs o in
      let r : Routing b (ends_of ps) (paths_in ps) = rw (x, d) (passes_sound (on b ns) vs dss e).routing in
      let t : Routing b (ends_of qs) (paths_in qs) = rw (y, g) (passes_sound (on b ns) ws ess f).routing in
      let z = lists-alike w ps qs (n ∙ sym o) (rw n (nets_rise 1 places)) r t in
      rw (x, y, d, g) at z

  -- THE LAW: comparing by maps is comparing, whatever is asked between the one list and the other
  pub compared_same : (vs ws : List ℕ) (asked : Result Bool → Result Bool)
      → and_then (of_list 0 (map_by b (nets_of places) vs)) (λ a. asked (and_then (of_list 1 (map_by b (nets_of places) ws)) (λ m. yes (maps_alike a m))))
      ≡ and_then (of_list 0 (judged (on b (nets_of places)) vs))
      (λ dss. asked (and_then (of_list 1 (judged (on b (nets_of places)) ws)) (λ ess. yes (alike_on (on b (nets_of places)) dss ess))))
  compared_same vs ws asked =
      rw (mapped-same vs, mapped-same ws) (go (judged (on b (nets_of places)) vs) (judged (on b (nets_of places)) ws) refl refl)
    where
      go : (x y : Result (List (List Direction))) → judged (on b (nets_of places)) vs ≡ x → judged (on b (nets_of places)) ws ≡ y
          → and_then (of_list 0 (and_then x (λ dss. yes (map_of (paths_from 0 (nets_of places) vs)))))
          (λ a. asked (and_then (of_list 1 (and_then y (λ ess. yes (map_of (paths_from 0 (nets_of places) ws))))) (λ m. yes (maps_alike a m))))
          ≡ and_then (of_list 0 x) (λ dss. asked (and_then (of_list 1 y) (λ ess. yes (alike_on (on b (nets_of places)) dss ess))))
      go (no r) y e f = refl
      go (yes dss) (no r) e f = refl
      go (yes dss) (yes ess) e f = rw (maps-same vs ws dss ess e f) refl

  pub comparison-same : (vs ws : List ℕ) → comparison_by b (nets_of places) vs ws ≡ comparison_on b (nets_of places) vs ws
  comparison-same vs ws = compared_same vs ws (λ x. x)
