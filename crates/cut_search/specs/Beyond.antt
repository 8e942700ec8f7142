-- What a search need not look at: vertices past the board's lines and columns, which are none, and columns that no net crosses.
-- Assumes nothing.
use Rattle.std.specs.Prelude.{◌≡◌, Bool, false, ℕ, ◌-◌, ◌≤◌, min, None, Some}
use Rattle.std.proofs.Math.Path.{refl}
use Rattle.std.proofs.Common.{ap, arith, le-leb}
use Rattle.std.proofs.Math.Bool.{xor}
use mathlib.Core.List.{List, [], ◌++◌, map, head?}
use Rattle.std.proofs.Math.Option.{none}
use Rattle.count.specs.TruthLaws.{not_true}
use Rattle.count.specs.Lists.{rising, up_to, select, select-append, first, none-map, none-flat}
use Rattle.board.specs.Board.{Board, at}
use Rattle.board.specs.Degree.{vertex?}
use Rattle.board.specs.declared.Vertex.{Vertex}
use Rattle.net.specs.declared.Pair.{Pair}
use Rattle.cut.specs.Cut.{crosses, overfull?}
use Rattle.cut.specs.Odd.{odd?}
use Rattle.cut.specs.Tally.{held_crosses}
use Rattle.cut.specs.Extent.{lines_of, columns_of}
use Rattle.cut.specs.Laws.{overfull_exact, overfull_more}
use Rattle.cut.specs.Past.{no-vertex-below, no-vertex-right}
use Rattle.cut.specs.declared.Cut.TheVariants.{Column}
use Rattle.cut_search.specs.Found.{further, NoneCrossesFrom}
use Rattle.cut_search.specs.Reading.{lines_from}
use Rattle.net.specs.View.{Held}

-- ── vertices ──
first_skip : {A : Type 0} (t : A → Bool) (xs ys : List A) → select t xs ≡ [] → first t (xs ++ ys) ≡ first t ys
first_skip t xs ys e = rw (select-append t xs ys, e) refl

module _ (b : Board) (ps : List Pair) where
  no-vertex-even : (v : Vertex) → vertex? b v ≡ false → odd? b ps v ≡ false
  unfolding odd?
  no-vertex-even v e = rw e refl

  -- the rest of a line
  pub line_none : (l c : ℕ) → c ≡ columns_of b l → select (odd? b ps) (map (at l) (rising c (32 - c))) ≡ []
  line_none l c e = (none-map (odd? b ps) (at l) c (32 - c)).1
      (λ m p q. no-vertex-even (at l m) (no-vertex-right b l m (omega arith) (omega arith)))

  pub line-done : (l c : ℕ) (rest : List Vertex) → c ≡ columns_of b l
      → first (odd? b ps) (map (at l) (rising c (32 - c)) ++ rest) ≡ first (odd? b ps) rest
  line-done l c rest e = first_skip (odd? b ps) (map (at l) (rising c (32 - c))) rest (line_none l c e)

  -- the rest of the lines
  pub lines_none : (l : ℕ) → l ≡ lines_of b → select (odd? b ps) (lines_from l) ≡ []
  unfolding lines_from
  lines_none l e = (none-flat (odd? b ps) (λ k. map (at k) (up_to 32)) l (32 - l)).1
      (λ m p q. (none-map (odd? b ps) (at m) 0 32).1
      (λ k r s. no-vertex-even (at m k) (no-vertex-below b m k (omega arith) (omega arith))))

  pub lines-done : (l : ℕ) → l ≡ lines_of b → first (odd? b ps) (lines_from l) ≡ none
  lines-done l e = ap head? (lines_none l e)

-- ── columns ──
pub further_left : (m : ℕ) (h : Held) → m ≤ further m h
further_left m None = omega arith
further_left m (Some p) = omega arith

pub further_none : (m j : ℕ) (h : Held) → further m h ≤ j → held_crosses (Column j) h ≡ 0
unfolding crosses xor
further_none m j None e = refl
further_none m j (Some p) e = rw (le-leb p.first.column j (omega arith), le-leb p.second.column j (omega arith)) refl

pub columns_done : (b : Board) (ps : List Pair) (n j : ℕ) → NoneCrossesFrom ps n → min n 31 ≤ j
    → first (overfull? b ps) (map Column (rising j (31 - j))) ≡ none
columns_done b ps n j N h = ap head? ((none-map (overfull? b ps) Column j (31 - j)).1
    (λ m p q. not_true (overfull? b ps (Column m)) (λ e.
    omega (arith, (overfull_more b ps (Column m)).0 ((overfull_exact b ps (Column m)).0 e), N.none_crosses m (omega arith)))))
