-- The loop that asks of each place whether its taken pins are there: before each turn, what was found, and that the places from there on pass, is
-- that all taken pins are there.
-- Assumes nothing.
use Rattle.std.specs.Prelude.{◌≡◌, Bool, ◌&&◌, List, ℕ, zero, suc, ◌+◌, ◌<◌, length, get_or, drop}
use Rattle.std.proofs.Math.Path.{refl, sym}
use Rattle.std.proofs.Common.{◌∙◌, arith, drop-cons, le-leb, ne_eqb}
use Rattle.std.proofs.Math.Bool.{true, false}
use Rattle.std.proofs.Math.Numerals.{add-one}
use Rattle.std.proofs.Math.Seq.{drop-length}
use Rattle.count.specs.TruthLaws.{and_assoc}
use Rattle.board.specs.Board.{Board}
use Rattle.board.specs.declared.Vertex.{Vertex}
use Rattle.board_block.specs.Taken.{all_there?}
use Rattle.board_block.specs.View.{vertex_at, taken_then, taken_from, there_at}
use Rattle.board_block.specs.declared.Book.{Book}
use Rattle.board_block.specs.declared.TakenPins.{TakenPins}

there_then : (k : Book) (b : Board) (v : Vertex) (n : ℕ) (ts : List TakenPins)
    → all_there? k b (taken_then v n ts) ≡ there_at k b v n && all_there? k b ts
unfolding all_there?
there_then k b v zero ts = refl
there_then k b v (suc n) ts = rw (le-leb 1 (suc n) (omega arith), ne_eqb (suc n) 0 (λ e. omega arith)) refl

module _ (k : Book) (b : Board) (a : List ℕ) where
  pub there-next : (i : ℕ) (ok this was : Bool) → i < length a → this ≡ there_at k b (vertex_at i) (get_or a i 0)
      → ok && all_there? k b (taken_from i (drop i a)) ≡ was → (ok && this) && all_there? k b (taken_from (i + 1) (drop (i + 1) a)) ≡ was
  unfolding taken_from
  there-next i ok this was h e inv =
      rw (e, and_assoc, add-one i) (rw (drop-cons a i 0 h, there_then k b (vertex_at i) (get_or a i 0) (taken_from (suc i) (drop (suc i) a))) at inv)

  pub there-last : (i : ℕ) (ok was : Bool) → i ≡ length a → ok && all_there? k b (taken_from i (drop i a)) ≡ was → ok ≡ was
  unfolding taken_from all_there?
  there-last i ok was e inv = sym (and_none ok) ∙ (rw (e, drop-length a) at inv)
    where
      and_none : (t : Bool) → t && true ≡ t
      and_none true = refl
      and_none false = refl
