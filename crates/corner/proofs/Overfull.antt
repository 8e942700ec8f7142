-- No cut is overfull, in numbers: no cut, on the board or beside it, has more nets than edges.
-- Assumes, beside the board, that it is within the limits and that every terminal stands on a vertex.
use Rattle.std.specs.Prelude.{◌≡◌, refl, Bool, true, false, cond, List, [], ◌∷◌, ◌++◌, map, ◌↔◌, ℕ, zero, suc, ◌+◌, ◌-◌, ◌≤◌, ◌<◌, T, ltb, pos, negsuc, ◌-ℤ◌}
use Rattle.std.proofs.Common.{◌∙◌, sym, subst, inl, inr, arith, le-leb, ltb-true, ltb-false, lt-ltb, le-ltb}
use Rattle.std.specs.Int.Signed.{lt_z}
use Rattle.count.specs.TruthLaws.{le_or_lt}
use Rattle.count.specs.Lists.{up_to}
use Rattle.board.specs.Board.{Board, height, Within, IsVertex}
use Rattle.board.specs.declared.Vertex.{Vertex}
use Rattle.net.specs.declared.Pair.{Pair}
use Rattle.cut.specs.declared.Cut.{Cut}
use Rattle.cut.specs.declared.Cut.TheVariants.{Row, Column}
use Rattle.cut.specs.Cut.{edges, side, crossing, margin, Overfull, overfull?, cuts, overfull_cuts}
use Rattle.count.specs.Each.{Each, up_to_each, append_each, map_each, select_none, none_select}
use Rattle.corner.specs.Pairs.{All}
use Rattle.corner.specs.Problem.{NoneOverfull}
use Rattle.corner.proofs.Tallies.{leaving_const}
use Rattle.corner.proofs.Exact.{vertex_cell}
use Rattle.corner.proofs.Counted.{crossing_leaving}

-- a difference is below zero exactly where the first number is less
below_zero : (e c : ℕ) → lt_z (pos e -ℤ pos c) (pos 0) ≡ ltb e c
below_zero e zero = le-ltb (e + 0) 0 (omega arith) ∙ sym (le-ltb e 0 (omega arith))
below_zero e (suc c) = go (ltb e (suc c))
  where
    go : (t : Bool) → lt_z (cond t (negsuc (suc c - suc e)) (pos (e - suc c))) (pos 0) ≡ t
    go true = refl
    go false = le-ltb (e - suc c) 0 (omega arith)

pub overfull_less : (b : Board) (ps : List Pair) (X : Cut) → overfull? b ps X ≡ ltb (edges b X) (crossing X ps)
unfolding overfull? margin
overfull_less b ps X = below_zero (edges b X) (crossing X ps)

-- the test says what Overfull says
pub overfull_exact : (b : Board) (ps : List Pair) (X : Cut) → (overfull? b ps X ≡ true) ↔ Overfull b ps X
unfolding overfull?
overfull_exact b ps X = ((λ e. record { lt = subst T (sym e) tt }), λ o. go (lt_z (margin b ps X) (pos 0)) o.lt)
  where
    go : (t : Bool) → T t → t ≡ true
    go true h = refl
    go false h = absurd h

pub overfull_count : (b : Board) (ps : List Pair) (X : Cut) → Overfull b ps X ↔ (edges b X < crossing X ps)
overfull_count b ps X = (
  (λ o. ltb-true (edges b X) (crossing X ps) (sym (overfull_less b ps X) ∙ (overfull_exact b ps X).1 o)),
  λ h. (overfull_exact b ps X).0 (overfull_less b ps X ∙ lt-ltb (edges b X) (crossing X ps) h),
)

pub not_overfull : (b : Board) (ps : List Pair) (X : Cut) → (Overfull b ps X → ⊥) → crossing X ps ≤ edges b X
not_overfull b ps X h = elim (le_or_lt (crossing X ps) (edges b X)) [ inl k ↦ k | inr k ↦ absurd (h ((overfull_count b ps X).1 k)) ]

-- ── the cuts of a board, and all cuts ──
pub none_overfull : (b : Board) (ps : List Pair) → NoneOverfull b ps → overfull_cuts b ps ≡ []
unfolding overfull_cuts
none_overfull b ps h = none_select (overfull? b ps) (cuts b) (all-cuts (cuts b))
  where
    all-cuts : (xs : List Cut) → Each (λ X. overfull? b ps X ≡ false) xs
    all-cuts [] = tt
    all-cuts (X ∷ xs) = (overfull_less b ps X ∙ le-ltb (edges b X) (crossing X ps) (h X), all-cuts xs)

-- a terminal of the board lies in the frame
pub vertex_frame : (b : Board) → Within b → (v : Vertex) → IsVertex b v → (v.line ≤ height b) × (v.column ≤ 31)
vertex_frame b W v h = let k = vertex_cell b v h in let r = k.4.row in let f = W.fits k.0 r in let t = k.4.to in (
  elim k.2 [ inl e ↦ omega arith | inr e ↦ omega arith ],
  elim k.3 [ inl e ↦ omega arith | inr e ↦ omega arith ],
)

-- beside the board nothing crosses
beside : (b : Board) (ps : List Pair) (X : Cut) → All (IsVertex b) ps → ((v : Vertex) → IsVertex b v → side X v ≡ true) → crossing X ps ≤ edges b X
beside b ps X st h = omega (arith, crossing_leaving X ps, leaving_const (IsVertex b) (side X) true h ps st)

pub overfull_none : (b : Board) (ps : List Pair) → Within b → All (IsVertex b) ps → overfull_cuts b ps ≡ [] → NoneOverfull b ps
unfolding overfull_cuts cuts
overfull_none b ps W st e X = go X
  where
    each : Each (λ Y. overfull? b ps Y ≡ false) (map Row (up_to (height b)) ++ map Column (up_to 31))
    each = select_none (overfull? b ps) (map Row (up_to (height b)) ++ map Column (up_to 31)) e

    both : Each (λ Y. overfull? b ps Y ≡ false) (map Row (up_to (height b))) × Each (λ Y. overfull? b ps Y ≡ false) (map Column (up_to 31))
    both = append_each (λ Y. overfull? b ps Y ≡ false) (map Row (up_to (height b))) (map Column (up_to 31)) each

    fits : (Y : Cut) → overfull? b ps Y ≡ false → crossing Y ps ≤ edges b Y
    fits Y f = ltb-false (edges b Y) (crossing Y ps) (sym (overfull_less b ps Y) ∙ f)

    go : (Y : Cut) → crossing Y ps ≤ edges b Y
    go (Row i) = elim (le_or_lt (height b) i) [
      | inl h ↦ beside b ps (Row i) st (λ v k. le-leb v.line i (omega (arith, vertex_frame b W v k)))
      | inr h ↦ fits (Row i) (up_to_each (λ j. overfull? b ps (Row j) ≡ false) (height b)
          (map_each (λ Y. overfull? b ps Y ≡ false) Row (up_to (height b)) both.0) i h)
    ]
    go (Column j) = elim (le_or_lt 31 j) [
      | inl h ↦ beside b ps (Column j) st (λ v k. le-leb v.column j (omega (arith, vertex_frame b W v k)))
      | inr h ↦ fits (Column j) (up_to_each (λ i. overfull? b ps (Column i) ≡ false) 31
          (map_each (λ Y. overfull? b ps Y ≡ false) Column (up_to 31) both.1) j h)
    ]
