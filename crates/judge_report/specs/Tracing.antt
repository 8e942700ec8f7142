-- A path traced run by run: its edges, its turns, and the marks of its turns.
-- Assumes nothing.
use Rattle.std.specs.Prelude.{◌≡◌, refl, Bool, true, false, cond, not, ◌&&◌, List, [], ◌++◌, ◌⊎◌, ℕ, suc, ◌+◌, ◌*◌, ◌<◌, ◌≤◌, ltb, eqb, length, drop, get_or, replicate, None, Some}
use Rattle.std.proofs.Common.{ap, ◌∙◌, inl, inr, add-one, arith, drop_of_length-le, drop-cons}
use Rattle.count.specs.TruthLaws.{bool}
use Rattle.board.specs.Board.{at}
use Rattle.board.specs.Path.{number, turns}
use Rattle.board.specs.declared.Vertex.{Vertex}
use Rattle.net.specs.Terminals.{same}
use Rattle.net.specs.Same.{same_exact}
use Rattle.words.specs.RoutingWord.{run_in}
use Rattle.words.specs.declared.Run.{Run}
use Rattle.call_rules.specs.Report.{turns_at}
use Rattle.judge_shape.specs.States.{Last}
use Rattle.net.specs.GridLaws.{length_changed, changed_same, changed_other}
use Rattle.judge_report.specs.Traces.{turn_by, trace_run, begin, marked, mark_at, mark_run}
use Rattle.judge_report.specs.Measures.{dirs_of, mark_of, Says, Measured}
use Rattle.judge_report.specs.Directions.{edges_run, turns_after, turns_run, turns_from, from_run}
use Rattle.judge_report.specs.Marks.{mark_more}
use Rattle.judge_report.specs.declared.Trace.{Trace}

-- ── the marks, one run on ──
turn_one : (l : Last) (r : Run) → (turn_by l r ≡ 0) ⊎ (turn_by l r ≡ 1)
turn_one None r = inl refl
turn_one (Some e) r = go (ltb 0 r.length && not (eqb (number e) (number r.direction)))
  where
    go : (t : Bool) → (◌≡◌ {A = ℕ} (cond t 1 0) 0) ⊎ (◌≡◌ {A = ℕ} (cond t 1 0) 1)
    go true = inr refl
    go false = inl refl

length_mark_run : (t : Trace) (r : Run) (a : List ℕ) → length (mark_run t r a) ≡ length a
unfolding mark_run
length_mark_run t r a = go (eqb (turn_by t.last r) 1)
  where
    go : (s : Bool) → length (cond s (mark_at t.line t.column a) a) ≡ length a
    go true = length_changed marked t.line t.column a
    go false = refl

-- the mark of the vertex (m, d), where n turns occurred before
mark-run : (n : ℕ) (t : Trace) (r : Run) (a : List ℕ) (m d : ℕ) → length a ≡ 1024 → m < 32 → d < 32
    → get_or a (m * 32 + d) 0 ≡ mark_of n
    → get_or (mark_run t r a) (m * 32 + d) 0 ≡ mark_of (n + cond (same (at t.line t.column) (at m d)) (turn_by t.last r) 0)
unfolding mark_run
mark-run n t r a m d e p q h = elim (turn_one t.last r) [
  | inl z ↦ rw z (none (same (at t.line t.column) (at m d)))
  | inr z ↦ elim (bool (same (at t.line t.column) (at m d))) [
    | inl s ↦
        let u = (same_exact (at t.line t.column) (at m d)).0 s in
        let ul : t.line ≡ m = ap (λ (v : Vertex). v.line) u in
        let uc : t.column ≡ d = ap (λ (v : Vertex). v.column) u in
        let y : n + 1 ≡ suc n = omega arith in
        rw (s, z, y, ul, uc, changed_same marked m d a e p q, h) (mark_more n)
    | inr s ↦
        let y : n + 0 ≡ n = omega arith in
        rw (s, z, y, changed_other marked t.line t.column m d a s q) h
  ]
]
  where
    none : (s : Bool) → get_or a (m * 32 + d) 0 ≡ mark_of (n + cond s 0 0)
    none true = let y : n + 0 ≡ n = omega arith in rw y h
    none false = let y : n + 0 ≡ n = omega arith in rw y h

-- ── a path ──
-- DEFINITION: its first i runs are traced
pub record Tracing (u : Vertex) (ws : List ℕ) (i : ℕ) (t : Trace) (a₀ a : List ℕ) : Type 0 where
  pub edges : t.edges + length (dirs_of (drop i ws)) ≡ length (dirs_of ws)
  pub turned : t.turns + turns_after t.last (dirs_of (drop i ws)) ≡ turns (dirs_of ws)
  pub long : length a ≡ length a₀
  pub marks : (n : Vertex → ℕ) → Says n a₀ → (l c : ℕ) → l < 32 → c < 32
      → (x : ℕ) × (get_or a (l * 32 + c) 0 ≡ mark_of (n (at l c) + x))
      × (x + turns_from (at l c) t.last (at t.line t.column) (dirs_of (drop i ws)) ≡ turns_at (at l c) u (dirs_of ws))

pub tracing_start : {u : Vertex} {ws : List ℕ} {a : List ℕ} → Tracing u ws 0 (begin u) a a
tracing_start = record {
  edges = omega arith;
  turned = omega arith;
  long = refl;
  marks = λ n s l c h j. (0, (let y : n (at l c) + 0 ≡ n (at l c) = omega arith in rw y (s.marks l c h j)), omega arith);
}

dirs_more : (ws : List ℕ) (i : ℕ) → i < length ws
    → dirs_of (drop i ws) ≡ replicate (run_in (get_or ws i 0)).length (run_in (get_or ws i 0)).direction ++ dirs_of (drop (suc i) ws)
unfolding dirs_of
dirs_more ws i h = rw (drop-cons ws i 0 h) refl

pub tracing_on : {u : Vertex} {ws : List ℕ} {i : ℕ} {t : Trace} {a₀ a : List ℕ} → Tracing u ws i t a₀ a → i < length ws
    → {r : Run} → r ≡ run_in (get_or ws i 0) → {t' : Trace} → t' ≡ trace_run t r → {a' : List ℕ} → a' ≡ mark_run t r a → Tracing u ws (i + 1) t' a₀ a'
unfolding trace_run
tracing_on {u} {ws} {i} {t} {a₀} {a} h l e f g = rw (add-one i, g, f, e) (record {
  edges = omega (arith, h.edges, ap length (dirs_more ws i l), edges_run w.length w.direction (dirs_of (drop (suc i) ws)));
  turned = omega (
    arith,
    h.turned,
    ap (turns_after t.last) (dirs_more ws i l),
    turns_run t.last w.length w.direction (dirs_of (drop (suc i) ws)),
  );
  long = length_mark_run t w a ∙ h.long;
  marks = λ n s m d hm hd.
      let (x, c, y) = h.marks n s m d hm hd in
      let v = at m d in
      let g = cond (same (at t.line t.column) v) (turn_by t.last w) 0 in
      let f : n v + (x + g) ≡ n v + x + g = omega arith in
      let z = ap (turns_from v t.last (at t.line t.column)) (dirs_more ws i l)
      ∙ from_run v t.last w.length w.direction t.line t.column (dirs_of (drop (suc i) ws)) in
      (x + g, rw f (mark-run (n v + x) t w a m d (h.long ∙ s.long) hm hd c), omega (arith, y, z));
})
  where
    w : Run
    w = run_in (get_or ws i 0)

pub tracing_done : {u : Vertex} {ws : List ℕ} {i : ℕ} {t : Trace} {a₀ a : List ℕ} → Tracing u ws i t a₀ a → length ws ≤ i
    → Measured u ws t a₀ a
unfolding dirs_of turns turns_at
tracing_done {u} {ws} {i} {t} {a₀} {a} h l = record {
  edges = omega (arith, h.edges, ap length none);
  turned = omega (arith, h.turned, ap (turns_after t.last) none, after t.last);
  marks = λ n s. record {
    long = h.long ∙ s.long;
    marks = λ m d hm hd.
        let (x, c, y) = h.marks n s m d hm hd in
        let z = ap (turns_from (at m d) t.last (at t.line t.column)) none ∙ from (at m d) t.last (at t.line t.column) in
        let e : x ≡ turns_at (at m d) u (dirs_of ws) = omega (arith, y, z) in
        rw (← e) c;
  };
}
  where
    none : dirs_of (drop i ws) ≡ []
    none = rw (drop_of_length-le ws l) refl

    after : (l : Last) → turns_after l [] ≡ 0
    after None = refl
    after (Some e) = refl

    from : (v : Vertex) (l : Last) (w : Vertex) → turns_from v l w [] ≡ 0
    from v None w = refl
    from v (Some e) w = refl
