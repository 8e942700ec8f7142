-- A path with at most one bend that leads down from u to v keeps to u's column or to v's column in every row between.
-- Assumes nothing of the board.
use Rattle.std.specs.Prelude.{◌≡◌, refl, List, [], ◌∷◌, ◌⊎◌, ℕ, ◌≤◌, ◌<◌}
use Rattle.std.proofs.Common.{ap, sym, inl, inr, arith}
use Rattle.count.specs.TruthLaws.{le_or_lt}
use Rattle.board.specs.Board.{Board, IsEdge}
use Rattle.board.specs.Path.{next, along, Path, turns}
use Rattle.board.specs.declared.Vertex.{Vertex}
use Rattle.board.specs.declared.Direction.{Direction}
use Rattle.board.specs.declared.Direction.TheVariants.{Up, Right, Down, Left}
use Rattle.board_convex.proofs.Turns.{turn_case, turn_self, turns_more}
use Rattle.board_convex.proofs.Places.{HasColumn, down_column}

-- DEFINITION: every row between u's line and v's line has the column c
abbrev pub Through : Board → Vertex → Vertex → ℕ → Type 0
Through b u v c = (k : ℕ) → u.line ≤ k → k < v.line → HasColumn b k c

-- one row more at the top
through_more : (b : Board) (u v : Vertex) → IsEdge b (along Down u) → Through b (next Down u) v u.column → Through b u v u.column
through_more b u v e t k p q = elim (le_or_lt k u.line) [
  | inl r ↦ let f : k ≡ u.line = omega arith in rw f (down_column b u.line u.column e)
  | inr r ↦ t k (omega arith) q
]

-- ── straight paths ──
-- DEFINITION: what a straight path in the direction gives
abbrev Ran : Direction → Board → Vertex → Vertex → Type 0
Ran Up b u v = v.line ≤ u.line
Ran Right b u v = v.line ≡ u.line
Ran Down b u v = (v.column ≡ u.column) × Through b u v u.column
Ran Left b u v = v.line ≡ u.line

ran_none : (d : Direction) (b : Board) (u v : Vertex) → u ≡ v → Ran d b u v
ran_none Up b u v e = let f = ap (λ (w : Vertex). w.line) e in omega arith
ran_none Right b u v e = sym (ap (λ (w : Vertex). w.line) e)
ran_none Down b u v e = let f = ap (λ (w : Vertex). w.line) e in (sym (ap (λ (w : Vertex). w.column) e), λ k p q. absurd (omega arith))
ran_none Left b u v e = sym (ap (λ (w : Vertex). w.line) e)

ran_more : (d : Direction) (b : Board) (u v : Vertex) → IsEdge b (along d u) → Ran d b (next d u) v → Ran d b u v
ran_more Up b u v e r = omega arith
ran_more Right b u v e r = r
ran_more Down b u v e r = (r.0, through_more b u v e r.1)
ran_more Left b u v e r = r

straight : (d : Direction) (ds : List Direction) (b : Board) (u v : Vertex) → Path b u ds v → turns (d ∷ ds) ≤ 0 → Ran d b u v
straight d [] b u v p n = ran_none d b u v p
straight d (e ∷ ds) b u v (s, p) n = elim (turn_case d e) [
  | inl k ↦ rw k.1 (ran_more e b u v s (straight e ds b (next e u) v p (omega (arith, turns_more d e ds))))
  | inr k ↦ absurd (omega (arith, turns_more d e ds))
]

-- a straight path has both columns in every row that it leads down through
both : (d : Direction) (b : Board) (u v : Vertex) → Ran d b u v → Through b u v u.column × Through b u v v.column
both Up b u v r = (λ k p q. absurd (omega arith), λ k p q. absurd (omega arith))
both Right b u v r = (λ k p q. absurd (omega arith), λ k p q. absurd (omega arith))
both Down b u v r = (r.1, rw r.0 r.1)
both Left b u v r = (λ k p q. absurd (omega arith), λ k p q. absurd (omega arith))

-- ── at most one bend ──
-- DEFINITION: what a path with at most one bend gives, by its first direction
abbrev Bent : Direction → Board → Vertex → Vertex → Type 0
Bent Up b u v = Through b u v u.column
Bent Right b u v = Through b u v v.column
Bent Down b u v = Through b u v u.column
Bent Left b u v = Through b u v v.column

bent_both : (d : Direction) (b : Board) (u v : Vertex) → Through b u v u.column × Through b u v v.column → Bent d b u v
bent_both Up b u v t = t.0
bent_both Right b u v t = t.1
bent_both Down b u v t = t.0
bent_both Left b u v t = t.1

bent_more : (d : Direction) (b : Board) (u v : Vertex) → IsEdge b (along d u) → Bent d b (next d u) v → Bent d b u v
bent_more Up b u v e t = λ k p q. t k (omega arith) q
bent_more Right b u v e t = t
bent_more Down b u v e t = through_more b u v e t
bent_more Left b u v e t = t

bent : (d : Direction) (ds : List Direction) (b : Board) (u w v : Vertex)
    → next d u ≡ w → IsEdge b (along d u) → Path b w ds v → turns (d ∷ ds) ≤ 1 → Bent d b u v
bent d [] b u w v g e p n = bent_more d b u v e (rw g (bent_both d b w v (both d b w v (ran_none d b w v p))))
bent d (f ∷ ds) b u w v g e (s, p) n = elim (turn_case d f) [
  | inl k ↦ rw k.1 (bent_more f b u v (rw k.1 at e)
      (rw (rw k.1 at g) (bent f ds b w (next f w) v refl s p (omega (arith, turns_more d f ds)))))
  | inr k ↦ bent_more d b u v e (rw g (bent_both d b w v (both f b w v (straight f (f ∷ ds) b w v (s, p)
      (omega (arith, turns_more d f ds, turns_more f f ds, turn_self f))))))
]

pub one_bend : (b : Board) (u v : Vertex) (ds : List Direction) → Path b u ds v → turns ds ≤ 1 → Through b u v u.column ⊎ Through b u v v.column
one_bend b u v [] p n = inl (both Up b u v (ran_none Up b u v p)).0
one_bend b u v (d ∷ ds) (e, p) n = go d (bent d ds b u (next d u) v refl e p n)
  where
    go : (d : Direction) → Bent d b u v → Through b u v u.column ⊎ Through b u v v.column
    go Up t = inl t
    go Right t = inr t
    go Down t = inl t
    go Left t = inr t
