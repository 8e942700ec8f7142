-- Taken pins: a list stays in reading order exactly when the next one is after the last (`order_more`, `order_next`), and of pins that fit their
-- words no line of 38 holds exactly when all are there (`lines_there`, `there_lines`).
-- Assumes nothing.
use Rattle.std.specs.Prelude.{◌≡◌, refl, true, false, not, ◌&&◌, List, [], ◌∷◌, ◌++◌, ℕ, suc}
use Rattle.std.proofs.Math.Option.{none}
use Rattle.std.proofs.lemmas.Bool.{not-true, not-false}
use Rattle.count.specs.TruthLaws.{and_true, and_yes}
use Rattle.board.specs.Board.{Board}
use Rattle.board_block.specs.Taken.{comes_before, in_order?, one_or_two, over_taken, all_there?}
use Rattle.board_block.specs.declared.Book.{Book}
use Rattle.board_block.specs.declared.TakenPins.{TakenPins}
use Rattle.session_rules.specs.Refusal.{first_refusal}
use Rattle.call_rules.specs.Reading.{not_after, pin_lines}
use Rattle.call_rules.proofs.Results.{line_passed}
use Rattle.board_roundtrip.specs.Parts.{PinsFit}

-- ── reading order ──
pub order_more : (ts : List TakenPins) (p : TakenPins) → in_order? ts ≡ true → not_after p.vertex ts ≡ false → in_order? (ts ++ (p ∷ [])) ≡ true
unfolding in_order?
order_more [] p o e = refl
order_more (t ∷ []) p o e = and_yes (comes_before t.vertex p.vertex) true (not-false (comes_before t.vertex p.vertex) e) refl
order_more (t ∷ (u ∷ us)) p o e =
    let k = and_true (comes_before t.vertex u.vertex) (in_order? (u ∷ us)) o in
    and_yes (comes_before t.vertex u.vertex) (in_order? ((u ∷ us) ++ (p ∷ []))) k.0 (order_more (u ∷ us) p k.1 e)

pub order_next : (ts : List TakenPins) (p : TakenPins) (ps : List TakenPins) → in_order? (ts ++ (p ∷ ps)) ≡ true → not_after p.vertex ts ≡ false
unfolding in_order?
order_next [] p ps o = refl
order_next (t ∷ []) p ps o = rw (and_true (comes_before t.vertex p.vertex) (in_order? (p ∷ ps)) o).0 refl
order_next (t ∷ (u ∷ us)) p ps o =
    order_next (u ∷ us) p ps (and_true (comes_before t.vertex u.vertex) (in_order? ((u ∷ us) ++ (p ∷ ps))) o).1

-- ── the lines of 38 ──
pub there_lines : (k : Book) (b : Board) (i : ℕ) (ts : List TakenPins) → all_there? k b ts ≡ true → first_refusal (pin_lines k b i ts) ≡ none
unfolding all_there? pin_lines
there_lines k b i [] e = refl
there_lines k b i (t ∷ ts) e =
    let x = and_true (one_or_two t.count && not (over_taken k b t)) (all_there? k b ts) e in
    rw (not-true (over_taken k b t) (and_true (one_or_two t.count) (not (over_taken k b t)) x.0).1) (there_lines k b (suc i) ts x.1)

pub lines_there : (k : Book) (b : Board) (i : ℕ) (ts : List TakenPins) → PinsFit ts → first_refusal (pin_lines k b i ts) ≡ none
    → all_there? k b ts ≡ true
unfolding all_there? pin_lines
lines_there k b i [] f e = refl
lines_there k b i (t ∷ ts) f e =
    let x = line_passed (over_taken k b t) 38 i (pin_lines k b (suc i) ts) e in
    rw (f.0.0, x.0) (lines_there k b (suc i) ts f.1 x.1)
