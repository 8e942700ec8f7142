-- The directions of a path, one run on: how many edges and turns it has, and how often it turns at a vertex.
-- Assumes nothing.
use Rattle.std.specs.Prelude.{◌≡◌, refl, Bool, true, false, cond, not, List, [], ◌∷◌, ◌++◌, ℕ, zero, suc, ◌+◌, eqb, length, replicate, None, Some}
use Rattle.std.proofs.Common.{ap, ◌∙◌, arith, length-append, lt-ltb}
use Rattle.std.proofs.lemmas.List.{length-replicate}
use Rattle.board_convex.proofs.Turns.{turn_self}
use Rattle.board.specs.Board.{at}
use Rattle.board.specs.Path.{next, number, turn, turns}
use Rattle.board.specs.declared.Vertex.{Vertex}
use Rattle.board.specs.declared.Direction.{Direction}
use Rattle.board.specs.declared.Direction.TheVariants.{Up, Right, Down, Left}
use Rattle.net.specs.Terminals.{same}
use Rattle.words.specs.RoutingWord.{run_in}
use Rattle.words.specs.declared.Run.{Run}
use Rattle.call_rules.specs.Shape.{runs_from}
use Rattle.call_rules.specs.Report.{directions, turns_at}
use Rattle.judge_shape.specs.States.{Last}
use Rattle.judge_report.specs.Measures.{dirs_of}
use Rattle.judge_report.specs.Traces.{turn_by, last_after, line_after, column_after}

pub dirs_are : (i : ℕ) (ws : List ℕ) → directions (runs_from i ws) ≡ dirs_of ws
unfolding directions runs_from dirs_of
dirs_are i [] = refl
dirs_are i (w ∷ ws) = ap (λ (ds : List Direction). replicate (run_in w).length (run_in w).direction ++ ds) (dirs_are (suc i) ws)

abbrev run : Direction → ℕ → Run
run d n = record { direction = d; length = n }

-- ── edges ──
pub edges_run : (n : ℕ) (d : Direction) (ds : List Direction) → length (replicate n d ++ ds) ≡ n + length ds
edges_run n d ds = length-append (replicate n d) ds ∙ ap (λ (k : ℕ). k + length ds) (length-replicate n d)

-- ── turns ──
-- DEFINITION: the turns of a path with the directions ds still to go, after a step in the last direction
abbrev pub turns_after : Last → List Direction → ℕ
turns_after None ds = turns ds
turns_after (Some e) ds = turns (e ∷ ds)

turn_is : (e d : Direction) (n : ℕ) → turn e d ≡ turn_by (Some e) (run d (suc n))
unfolding turn
turn_is e d n = rw (lt-ltb 0 (suc n) (omega arith)) (go (eqb (number e) (number d)))
  where
    go : (t : Bool) → ◌≡◌ {A = ℕ} (cond t 0 1) (cond (not t) 1 0)
    go true = refl
    go false = refl

straight_turns : (n : ℕ) (d : Direction) (ds : List Direction) → turns (d ∷ (replicate n d ++ ds)) ≡ turns (d ∷ ds)
unfolding turns
straight_turns zero d ds = refl
straight_turns (suc n) d ds = omega (arith, turn_self d, straight_turns n d ds)

last_some : (l : Last) (d : Direction) (n : ℕ) → last_after l (run d (suc n)) ≡ Some d
last_some l d n = rw (lt-ltb 0 (suc n) (omega arith)) refl

turn_none : (l : Last) (d : Direction) → turn_by l (run d 0) ≡ 0
turn_none None d = refl
turn_none (Some e) d = refl

pub turns_run : (l : Last) (n : ℕ) (d : Direction) (ds : List Direction)
    → turns_after l (replicate n d ++ ds) ≡ turn_by l (run d n) + turns_after (last_after l (run d n)) ds
unfolding turns
turns_run l zero d ds = omega (arith, turn_none l d)
turns_run None (suc n) d ds = rw (last_some None d n) (omega (arith, straight_turns n d ds))
turns_run (Some e) (suc n) d ds = rw (last_some (Some e) d n, ← turn_is e d n) (omega (arith, straight_turns n d ds))

-- ── turns at a vertex ──
-- DEFINITION: how often a path turns at v, with the directions ds still to go from u, after a step in the last direction
abbrev pub turns_from : Vertex → Last → Vertex → List Direction → ℕ
turns_from v None u ds = turns_at v u ds
turns_from v (Some e) u [] = 0
turns_from v (Some e) u (d ∷ ds) = cond (same u v) (turn e d) 0 + turns_at v u (d ∷ ds)

step_from : (v u : Vertex) (d : Direction) (ds : List Direction) → turns_at v u (d ∷ ds) ≡ turns_from v (Some d) (next d u) ds
unfolding turns_at
step_from v u d [] = refl
step_from v u d (e ∷ ds) = refl

next_is : (d : Direction) (l c : ℕ) → next d (at l c) ≡ at (line_after d l 1) (column_after d c 1)
next_is Up l c = refl
next_is Right l c = let e : suc c ≡ c + 1 = omega arith in rw e refl
next_is Down l c = let e : suc l ≡ l + 1 = omega arith in rw e refl
next_is Left l c = refl

line_none : (d : Direction) (l : ℕ) → line_after d l 0 ≡ l
line_none Up l = omega arith
line_none Right l = refl
line_none Down l = omega arith
line_none Left l = refl

column_none : (d : Direction) (c : ℕ) → column_after d c 0 ≡ c
column_none Up c = refl
column_none Right c = omega arith
column_none Down c = refl
column_none Left c = omega arith

line_more : (d : Direction) (l n : ℕ) → line_after d (line_after d l 1) n ≡ line_after d l (suc n)
line_more Up l n = omega arith
line_more Right l n = refl
line_more Down l n = omega arith
line_more Left l n = refl

column_more : (d : Direction) (c n : ℕ) → column_after d (column_after d c 1) n ≡ column_after d c (suc n)
column_more Up c n = refl
column_more Right c n = omega arith
column_more Down c n = refl
column_more Left c n = omega arith

either_none : (t : Bool) → ◌≡◌ {A = ℕ} (cond t 0 0) 0
either_none true = refl
either_none false = refl

straight_from : (v : Vertex) (d : Direction) (n l c : ℕ) (ds : List Direction)
    → turns_from v (Some d) (at l c) (replicate n d ++ ds) ≡ turns_from v (Some d) (at (line_after d l n) (column_after d c n)) ds
straight_from v d zero l c ds = rw (line_none d l, column_none d c) refl
straight_from v d (suc n) l c ds =
    let s : cond (same (at l c) v) (turn d d) 0 ≡ 0 = rw (turn_self d) (either_none (same (at l c) v)) in
    let r = straight_from v d n (line_after d l 1) (column_after d c 1) ds in
    let q : turns_at v (at l c) (d ∷ (replicate n d ++ ds)) ≡ turns_from v (Some d) (at (line_after d l (suc n)) (column_after d c (suc n))) ds =
    step_from v (at l c) d (replicate n d ++ ds) ∙ (rw (next_is d l c, ← line_more d l n, ← column_more d c n) r) in
    omega (arith, s, q)

run_from : (v : Vertex) (d : Direction) (n l c : ℕ) (ds : List Direction)
    → turns_at v (at l c) (d ∷ (replicate n d ++ ds)) ≡ turns_from v (Some d) (at (line_after d l (suc n)) (column_after d c (suc n))) ds
run_from v d n l c ds =
    step_from v (at l c) d (replicate n d ++ ds)
    ∙ (rw (next_is d l c, ← line_more d l n, ← column_more d c n) (straight_from v d n (line_after d l 1) (column_after d c 1) ds))

pub from_run : (v : Vertex) (last : Last) (n : ℕ) (d : Direction) (l c : ℕ) (ds : List Direction)
    → turns_from v last (at l c) (replicate n d ++ ds)
    ≡ cond (same (at l c) v) (turn_by last (run d n)) 0 + turns_from v (last_after last (run d n)) (at (line_after d l n) (column_after d c n)) ds
from_run v last zero d l c ds =
    rw (turn_none last d, line_none d l, column_none d c) (omega (arith, either_none (same (at l c) v)))
from_run v None (suc n) d l c ds =
    let q = run_from v d n l c ds in
    rw (last_some None d n) (omega (arith, either_none (same (at l c) v), q))
from_run v (Some e) (suc n) d l c ds =
    let q = run_from v d n l c ds in
    rw (last_some (Some e) d n, ← turn_is e d n) (omega (arith, q))
