-- The runs of a path on a board within the limits: of 1 to 31 edges, two in a row in different directions; and they give its directions back.
-- Assumes that the board is within the limits.
use Rattle.std.specs.Prelude.{◌≡◌, refl, true, List, [], ◌∷◌, ◌⊎◌, ℕ, suc, ◌+◌, ◌-◌, ◌<◌, ◌≤◌, eqb}
use Rattle.std.proofs.Common.{ap, sym, ◌∙◌, subst, inl, inr, add-one, arith, eqb-true}
use Rattle.std.proofs.Math.Option.{none, some}
use Rattle.count.specs.TruthLaws.{bool}
use Rattle.board.specs.Board.{Board, Within}
use Rattle.board.specs.Path.{next, along, number, Path}
use Rattle.board.specs.declared.Vertex.{Vertex}
use Rattle.board.specs.declared.Direction.{Direction}
use Rattle.board.specs.declared.Direction.TheVariants.{Up, Right, Down, Left}
use Rattle.board_edges.proofs.Spans.{Across, Downward, edge_spans}
use Rattle.words.specs.RoutingWord.{direction, step_then, runs_of}
use Rattle.words.specs.declared.Run.{Run}
use Rattle.words.specs.Inverse.{direction_back}
use Rattle.judge_laws.specs.Runs.{run, steps, Runs, no_more, one_more}

-- ── the directions back ──
number_apart : (d e : Direction) → eqb (number d) (number e) ≡ true → d ≡ e
number_apart d e t = sym (direction_back d) ∙ (ap direction (eqb-true (number d) (number e) t) ∙ direction_back e)

steps_then : (d : Direction) (rs : List Run) → steps (step_then d rs) ≡ d ∷ steps rs
unfolding steps
steps_then d [] = refl
steps_then d (r ∷ rs) = elim (bool (eqb (number d) (number r.direction))) [
  | inl t ↦ rw (t, number_apart d r.direction t, add-one r.length) refl
  | inr t ↦ rw t refl
]

pub steps_back : (ds : List Direction) → steps (runs_of ds) ≡ ds
unfolding steps runs_of
steps_back [] = refl
steps_back (d ∷ ds) = steps_then d (runs_of ds) ∙ ap (λ (es : List Direction). d ∷ es) (steps_back ds)

-- ── the room for a run ──
-- how many edges there can be from v in a direction
abbrev room : Direction → Vertex → ℕ
room Up v = v.line
room Right v = 31 - v.column
room Down v = 31 - v.line
room Left v = v.column

step_room : (d : Direction) (u : Vertex) → Across (along d u) ⊎ Downward (along d u) → (room d (next d u) + 1 ≤ room d u) × (room d u < 32)
step_room Up u (inl a) = absurd (let k : u.column ≡ suc u.column = ap (λ (v : Vertex). v.column) a.to in omega arith)
step_room Up u (inr a) = let k : u.line ≡ suc (u.line - 1) = ap (λ (v : Vertex). v.line) a.to in let h = a.line in (omega arith, omega arith)
step_room Right u (inl a) = let h = a.column in (omega arith, omega arith)
step_room Right u (inr a) = absurd (let k : suc u.column ≡ u.column = ap (λ (v : Vertex). v.column) a.to in omega arith)
step_room Down u (inl a) = absurd (let k : suc u.line ≡ u.line = ap (λ (v : Vertex). v.line) a.to in omega arith)
step_room Down u (inr a) = let h = a.line in (omega arith, omega arith)
step_room Left u (inl a) = let k : u.column ≡ suc (u.column - 1) = ap (λ (v : Vertex). v.column) a.to in let h = a.column in
    (omega arith, omega arith)
step_room Left u (inr a) = absurd (let k : u.line ≡ suc u.line = ap (λ (v : Vertex). v.line) a.to in omega arith)

-- DEFINITION: the first run has room from u
abbrev FirstFits : Vertex → List Run → Type 0
FirstFits u [] = Unit {0}
FirstFits u (r ∷ rs) = r.length ≤ room r.direction u

-- one step more in front of runs
step_fits : (d : Direction) (u : Vertex) {rs : List Run} → room d (next d u) + 1 ≤ room d u → room d u < 32 → Runs none rs → FirstFits (next d u) rs
    → Runs none (step_then d rs) × FirstFits u (step_then d rs)
step_fits d u h k no_more f = (one_more (run d 1) (omega arith) (omega arith) refl no_more, omega arith)
step_fits d u h k (one_more {rs = rs} r p q e g) f = elim (bool (eqb (number d) (number r.direction))) [
  | inl t ↦
      let s = number_apart d r.direction t in
      let m : r.length + 1 ≤ room d u = (let y : r.length ≤ room d (next d u) =
      subst (λ (x : Direction). r.length ≤ room x (next d u)) (sym s) f in omega arith) in
      let g' : Runs (some d) rs = rw s g in
      rw t (one_more (run d (r.length + 1)) (omega arith) (omega arith) refl g', m)
  | inr t ↦ rw t (one_more (run d 1) (omega arith) (omega arith) refl (one_more r p q t g), omega arith)
]

pub runs_fit : (b : Board) → Within b → (ds : List Direction) (u v : Vertex) → Path b u ds v → Runs none (runs_of ds) × FirstFits u (runs_of ds)
unfolding runs_of
runs_fit b w [] u v p = (no_more, tt)
runs_fit b w (d ∷ ds) u v p =
    let r = step_room d u (edge_spans b w (along d u) p.0) in
    let h = runs_fit b w ds (next d u) v p.1 in
    step_fits d u r.0 r.1 h.0 h.1
