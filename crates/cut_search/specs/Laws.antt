-- What the answers of the searches say: the cut or vertex found is the first, and nothing is found exactly where there is none.
-- Assumes for vertices that the board is within the limits.
use Rattle.std.specs.Prelude.{◌≡◌, refl, ℕ, ◌+◌, ◌*◌, ◌<◌, get_or, None, Some}
use mathlib.Core.List.{List, [], ◌∷◌, ◌++◌, head?}
use Rattle.std.proofs.Math.Option.{Option, none, some}
use Rattle.std.proofs.Common.{arith}
use Rattle.count.specs.Lists.{select-append, head-none}
use Rattle.board.specs.Board.{Board, Within, IsVertex, at}
use Rattle.board.specs.declared.Vertex.{Vertex}
use Rattle.net.specs.declared.Pair.{Pair}
use Rattle.cut.specs.Cut.{Overfull, overfull?, cuts, overfull_cuts}
use Rattle.cut.specs.Odd.{odd?, odd_vertices}
use Rattle.cut.specs.Order.{IsCut, FirstOverfull, Even, FirstOdd}
use Rattle.cut.specs.First.{no-overfull, first-overfull, no-odd, first-odd}
use Rattle.cut.specs.declared.Cut.{Cut}
use Rattle.net_terminals.specs.Counts.{Counts}
use Rattle.cut_search.specs.Found.{overfull_rows, overfull_columns, found_cut, odd_with, found_vertex}

-- ── rows first, then columns ──
pub rows_then_columns : (b : Board) (ps : List Pair) → overfull_cuts b ps ≡ overfull_rows b ps ++ overfull_columns b ps
unfolding overfull_cuts overfull_rows overfull_columns cuts
rows_then_columns b ps = select-append (overfull? b ps) _ _

pub head_then : {A : Type 0} (xs ys : List A) (x : A) → head? xs ≡ some x → head? (xs ++ ys) ≡ some x
head_then [] ys x e = absurd (let z : ◌≡◌ {A = ℕ} 0 1 = cc in omega arith)
head_then (y ∷ xs) ys x e = e

pub head_else : {A : Type 0} (xs ys : List A) → head? xs ≡ none → head? (xs ++ ys) ≡ head? ys
head_else [] ys e = refl
head_else (y ∷ xs) ys e = absurd (let z : ◌≡◌ {A = ℕ} 0 1 = cc in omega arith)

-- the first overfull cut is the first overfull row, and where there is none the first overfull column
pub found_some : (o : Option Cut) (x : Cut) → Some x ≡ found_cut o → o ≡ some x
found_some none x e = absurd (let z : ◌≡◌ {A = ℕ} 0 1 = cc in omega arith)
found_some (some y) x e = cc

pub found_none : (o : Option Cut) → None ≡ found_cut o → o ≡ none
found_none none e = refl
found_none (some y) e = absurd (let z : ◌≡◌ {A = ℕ} 0 1 = cc in omega arith)

pub first_is_row : (b : Board) (ps : List Pair) (x : Cut) → Some x ≡ found_cut (head? (overfull_rows b ps)) → Some x ≡ found_cut (head? (overfull_cuts b ps))
first_is_row b ps x e =
    rw (rows_then_columns b ps, head_then (overfull_rows b ps) (overfull_columns b ps) x (found_some (head? (overfull_rows b ps)) x e)) refl

pub first_is_column : (b : Board) (ps : List Pair) → None ≡ found_cut (head? (overfull_rows b ps))
    → found_cut (head? (overfull_columns b ps)) ≡ found_cut (head? (overfull_cuts b ps))
first_is_column b ps e =
    rw (rows_then_columns b ps, head_else (overfull_rows b ps) (overfull_columns b ps) (found_none (head? (overfull_rows b ps)) e)) refl

-- ── what the answers name ──
module _ (b : Board) (ps : List Pair) where
  -- the answer of `first_overfull`
  pub overfull-named : (x : Cut) → Some x ≡ found_cut (head? (overfull_cuts b ps)) → FirstOverfull b ps x
  overfull-named x e = (first-overfull b ps x).0 (found_some (head? (overfull_cuts b ps)) x e)

  pub overfull-nothing : None ≡ found_cut (head? (overfull_cuts b ps)) → (x : Cut) → IsCut b x → Overfull b ps x → ⊥
  overfull-nothing e = (no-overfull b ps).0 ((head-none (overfull_cuts b ps)).0 (found_none (head? (overfull_cuts b ps)) e))

pub vertex_some : (o : Option Vertex) (v : Vertex) → Some v ≡ found_vertex o → o ≡ some v
vertex_some none v e = absurd (let z : ◌≡◌ {A = ℕ} 0 1 = cc in omega arith)
vertex_some (some u) v e = cc

pub vertex_none : (o : Option Vertex) → None ≡ found_vertex o → o ≡ none
vertex_none none e = refl
vertex_none (some u) e = absurd (let z : ◌≡◌ {A = ℕ} 0 1 = cc in omega arith)

module _ (b : Board) (ps : List Pair) (W : Within b) where
  -- the answer of `first_odd`
  pub odd-named : (v : Vertex) → Some v ≡ found_vertex (head? (odd_vertices b ps)) → FirstOdd b ps v
  odd-named v e = (first-odd b ps W v).0 (vertex_some (head? (odd_vertices b ps)) v e)

  pub odd-nothing : None ≡ found_vertex (head? (odd_vertices b ps)) → (v : Vertex) → IsVertex b v → Even b ps v
  odd-nothing e = (no-odd b ps W).0 ((head-none (odd_vertices b ps)).0 (vertex_none (head? (odd_vertices b ps)) e))

-- ── odd by the count of terminals ──
pub odd_counted : (b : Board) (ps : List Pair) (a : List ℕ) → Counts ps a → (l c : ℕ) → l < 32 → c < 32
    → odd_with b (get_or a (l * 32 + c) 0) (at l c) ≡ odd? b ps (at l c)
unfolding odd?
odd_counted b ps a C l c p q = rw (C.here l c p q) refl
