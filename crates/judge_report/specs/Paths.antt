-- All paths of a list, one net on: their edges, their turns, and how many turns occur at each vertex.
-- Assumes nothing.
use Rattle.std.specs.Prelude.{◌≡◌, refl, List, [], ◌∷◌, ℕ, suc, ◌+◌, ◌-◌, ◌*◌, ◌/◌, ◌%◌, ◌<◌, ◌≤◌, ltb, length, take, drop, get_or, None, Some}
use Rattle.std.proofs.Common.{ap, ◌∙◌, add-one, arith}
use Rattle.board.specs.declared.Vertex.{Vertex}
use Rattle.board.specs.declared.Direction.{Direction}
use Rattle.net.specs.View.{Held, nothing}
use Rattle.net.specs.declared.Net.{Net}
use Rattle.net.specs.declared.Pair.{Pair}
use Rattle.session_rules.specs.Session.{pairs}
use Rattle.net_places.specs.Places.{net, held_net, nets_from, nets_of}
use Rattle.call_rules.specs.Shape.{paths_from}
use Rattle.call_rules.specs.Report.{edges_used, turns_made, turns_at, turns_occurring, knock_knee, knock_knees, report_of}
use Rattle.call_rules.proofs.ReportLaws.{occurring_no_path, occurring_no_pair, occurring_more}
use Rattle.call_rules.specs.Judge.{paths_in}
use Rattle.net_places.proofs.CountLaws.{nets_more, nets_none}
use Rattle.judge_walk.specs.PartLaws.{Found, paths_out, paths_part}
use Rattle.judge_report.specs.Traces.{knocks_in}
use Rattle.judge_report.specs.Knocks.{vertex_at, knocks_are}
use Rattle.judge_report.specs.Measures.{dirs_of, Says, Measured, left, turns_left, MeasuresPlace}
use Rattle.judge_report.specs.Directions.{dirs_are}
use Rattle.judge_report.specs.Marks.{mark_knock}
use Rattle.judge_report.specs.declared.Trace.{Trace}
use Rattle.judge_report.specs.declared.Sum.{Sum}

pub left_out : (ns : List Net) (ws : List ℕ) (i : ℕ) → length ws ≤ i → left ns ws i ≡ []
left_out ns ws i h = rw (paths_out i ns ws h) refl

pub left_more : {ws : List ℕ} {i from to : ℕ} → Found ws i from to → (n : Net) (ns : List Net)
    → left (n ∷ ns) ws i ≡ dirs_of (take (to - from) (drop from ws)) ∷ left ns ws to
left_more {ws} {i} {from} {to} f n ns =
    rw (paths_part f n ns) (ap (λ (ds : List Direction). ds ∷ left ns ws to) (dirs_are (suc i) (take (to - from) (drop from ws))))

-- ── what a place holds ──
pub place_none : {ws : List ℕ} {s : Sum} {a : List ℕ} → MeasuresPlace None ws s a s a
place_none = record {
  edges = λ k ns. refl;
  turned = λ k ns. refl;
  marks = λ n h. (n, h, λ k ns v. refl);
}

pub place_out : {ends : Pair} {ws : List ℕ} {s : Sum} {a : List ℕ} → length ws ≤ s.at → MeasuresPlace (Some ends) ws s a s a
place_out {ends} {ws} {s} h = record {
  edges = λ k ns. rw (left_out (net k ends ∷ ns) ws s.at h, left_out ns ws s.at h) refl;
  turned = λ k ns. rw (left_out (net k ends ∷ ns) ws s.at h, left_out ns ws s.at h) refl;
  marks = λ n y. (
    n,
    y,
    λ k ns v.
        rw (
          left_out (net k ends ∷ ns) ws s.at h,
          left_out ns ws s.at h,
          occurring_no_path v (pairs ns),
          occurring_no_path v (pairs (net k ends ∷ ns)),
        ) refl,
  );
}

pub place_on : {ends : Pair} {ws : List ℕ} {s : Sum} {a a' : List ℕ} {from to : ℕ} → Found ws s.at from to
    → {t : Trace} → Measured ends.first (take (to - from) (drop from ws)) t a a'
    → {r : Sum} → r ≡ record { at = to; edges = s.edges + t.edges; turns = s.turns + t.turns } → MeasuresPlace (Some ends) ws s a r a'
unfolding edges_used turns_made
place_on {ends} {ws} {s} {a} {a'} {from} {to} f {t} m g = rw g (record {
  edges = λ k ns. rw (left_more f (net k ends) ns) (omega (arith, m.edges));
  turned = λ k ns. rw (left_more f (net k ends) ns) (omega (arith, m.turned));
  marks = λ n y. (
    (λ v. n v + turns_at v ends.first (dirs_of (take (to - from) (drop from ws)))),
    m.marks n y,
    λ k ns v.
        rw (left_more f (net k ends) ns)
        (omega (arith, occurring_more v ends (pairs ns) (dirs_of (take (to - from) (drop from ws))) (left ns ws to))),
  );
})

-- ── all places ──
-- DEFINITION: the sum s and the marks a once the first i places are measured, from the marks a₀
pub record Measuring (nets : List Held) (ws : List ℕ) (a₀ : List ℕ) (i : ℕ) (s : Sum) (a : List ℕ) : Type 0 where
  pub edges : s.edges + edges_used (left (nets_from (suc i) (drop i nets)) ws s.at) ≡ edges_used (left (nets_of nets) ws 0)
  pub turned : s.turns + turns_made (left (nets_from (suc i) (drop i nets)) ws s.at) ≡ turns_made (left (nets_of nets) ws 0)
  pub marks : Says (λ v. 0) a₀
      → (n : Vertex → ℕ) × Says n a
      × ((v : Vertex) → n v + turns_left v (nets_from (suc i) (drop i nets)) ws s.at ≡ turns_left v (nets_of nets) ws 0)

pub measuring_start : {nets : List Held} {ws : List ℕ} {a : List ℕ} → Measuring nets ws a 0 (record { at = 0; edges = 0; turns = 0 }) a
unfolding nets_of
measuring_start = record {
  edges = omega arith;
  turned = omega arith;
  marks = λ h. ((λ v. 0), h, λ v. omega arith);
}

pub measuring_on : {nets : List Held} {ws a₀ : List ℕ} {i : ℕ} {s : Sum} {a : List ℕ} → Measuring nets ws a₀ i s a → i < length nets
    → {r : Sum} {a' : List ℕ} → MeasuresPlace (get_or nets i nothing) ws s a r a' → Measuring nets ws a₀ (i + 1) r a'
measuring_on {nets} {ws} {a₀} {i} {s} {a} h l {r} {a'} p = rw (add-one i) (record {
  edges = omega (arith, h.edges, ap (λ (x : List Net). edges_used (left x ws s.at)) more, p.edges (suc i) ns);
  turned = omega (arith, h.turned, ap (λ (x : List Net). turns_made (left x ws s.at)) more, p.turned (suc i) ns);
  marks = λ y.
      let (n, q, z) = h.marks y in
      let (n', q', z') = p.marks n q in
      (n', q', λ v. omega (arith, z v, z' (suc i) ns v, ap (λ (x : List Net). turns_left v x ws s.at) more));
})
  where
    ns : List Net
    ns = nets_from (suc (suc i)) (drop (suc i) nets)

    more : nets_from (suc i) (drop i nets) ≡ held_net (suc i) (get_or nets i nothing) ns
    more = nets_more nets i l

-- ── the report ──
pub measuring_done : {nets : List Held} {ws a₀ : List ℕ} {i : ℕ} {s : Sum} {a : List ℕ} → Measuring nets ws a₀ i s a → length nets ≤ i
    → Says (λ v. 0) a₀
    → {n : ℕ} → n ≡ knocks_in a
    → record { edges = s.edges; turns = s.turns; knock_knees = n } ≡ report_of (pairs (nets_of nets)) (paths_in (paths_from 0 (nets_of nets) ws))
unfolding edges_used turns_made knock_knees knock_knee paths_from
measuring_done {nets} {ws} {a₀} {i} {s} {a} h l y {n} k = λ j. record { edges = pe j; turns = pt j; knock_knees = pk j }
  where
    dss : List (List Direction)
    dss = left (nets_of nets) ws 0

    none : nets_from (suc i) (drop i nets) ≡ []
    none = nets_none nets i l

    pe : s.edges ≡ edges_used dss
    pe = omega (arith, h.edges, ap (λ (x : List Net). edges_used (left x ws s.at)) none)

    pt : s.turns ≡ turns_made dss
    pt = omega (arith, h.turned, ap (λ (x : List Net). turns_made (left x ws s.at)) none)

    m : (c : Vertex → ℕ) × Says c a × ((v : Vertex) → c v + turns_left v (nets_from (suc i) (drop i nets)) ws s.at ≡ turns_left v (nets_of nets) ws 0)
    m = h.marks y

    all : (v : Vertex) → m.0 v ≡ turns_occurring v (pairs (nets_of nets)) dss
    all v = omega (arith, m.2 v, ap (λ (x : List Net). turns_left v x ws s.at) none, occurring_no_pair v (left [] ws s.at))

    at-index : (j : ℕ) → j < 1024 → ltb 1 (get_or a j 0) ≡ knock_knee (pairs (nets_of nets)) dss (vertex_at j)
    at-index j q =
        let x : j / 32 * 32 + j % 32 ≡ j = omega arith in
        let c = m.1.marks (j / 32) (j % 32) (omega arith) (omega arith) in
        rw (x, all (vertex_at j)) at (ap (ltb 1) c ∙ mark_knock (m.0 (vertex_at j)))

    pk : n ≡ knock_knees (pairs (nets_of nets)) dss
    pk = k ∙ knocks_are (knock_knee (pairs (nets_of nets)) dss) a m.1.long at-index
