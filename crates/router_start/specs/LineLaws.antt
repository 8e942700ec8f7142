-- The lines of a board, one after the other; all of them are the board's shape.
-- Assumes a board of 1 to 31 rows, and arrays of 32 entries.
use Rattle.std.specs.Prelude.{◌≡◌, refl, false, List, [], ◌∷◌, ◌++◌, map, ℕ, pred, ◌+◌, ◌-◌, ◌≤◌, ◌<◌, min, max, length, get_or, set}
use Rattle.std.proofs.Common.{ap, ap₂, ◌∙◌, sym, arith, add-one}
use Rattle.count.specs.Lists.{up_to, length-rising, getD-rising, rising_snoc}
use Rattle.board.specs.Board.{Board, height, no_row}
use Rattle.board.specs.View.{board_of}
use Rattle.board.specs.ViewLaws.{height_of, left-of, right_of}
use Rattle.board.specs.declared.Row.{Row}
use Rattle.board.specs.declared.Board as code
use Rattle.corner.proofs.Lines.{lines_of}
use Rattle.router_notes.specs.Alike.{Alike, shape_of}
use Rattle.router_start.specs.Front.{in_front}
use Rattle.router_start.specs.FrontLaws.{front-size, front-get, front-more}
use Rattle.router_start.specs.Lines.{Lined}

-- ── an array that holds f 0, f 1, .. ──
module _ (f : ℕ → ℕ) (before : List ℕ) where
  more : (now : List ℕ) (n x : ℕ) → now ≡ in_front (map f (up_to n)) before → n < length before → x ≡ f n
      → set now n x ≡ in_front (map f (up_to (n + 1))) before
  more now n x e h q =
      let z : 0 + n ≡ n = omega arith in
      let t : map f (up_to (n + 1)) ≡ map f (up_to n) ++ (f n ∷ []) =
      ap (λ (m : ℕ). map f (up_to m)) (add-one n) ∙ (rising_snoc f 0 n ∙ ap (λ (m : ℕ). map f (up_to n) ++ (f m ∷ [])) z) in
      rw (e, q) (front-more (map f (up_to n)) before n (f n) (length-rising f 0 n) h ∙ ap (λ (xs : List ℕ). in_front xs before) (sym t))

  holds : (now : List ℕ) (n l : ℕ) → now ≡ in_front (map f (up_to n)) before → l < n → get_or now l 0 ≡ f l
  holds now n l e h =
      let z : 0 + l ≡ l = omega arith in
      rw e (front-get (map f (up_to n)) before l (omega (arith, length-rising f 0 n)) ∙ (getD-rising f 0 n l 0 h ∙ ap f z))

  keeps : (now : List ℕ) (n : ℕ) → now ≡ in_front (map f (up_to n)) before → n ≤ length before → length now ≡ length before
  keeps now n e h = rw e (front-size (map f (up_to n)) before (omega (arith, length-rising f 0 n)))

-- ── line after line ──
pub lined_none : (b : Board) (lo hi : List ℕ) → Lined b 0 lo hi lo hi
lined_none b lo hi = record { first = refl; last = refl }

abbrev pub board_is : List Row → ℕ → code.Board
board_is rows n = record { count = n; rows = rows }

module _ (b : code.Board) (some : 1 ≤ b.count) where
  -- a line's two rows
  first-is : (l : ℕ) → l ≤ b.count → min (get_or b.rows (l - 1) no_row).left (get_or b.rows (min l (b.count - 1)) no_row).left
      ≡ (lines_of (board_of b)).a l
  first-is l h =
      let p : pred l ≡ l - 1 = omega arith in
      let q : min l (pred (height (board_of b))) ≡ min l (b.count - 1) = omega (arith, height_of b) in
      rw (p, q) (sym (ap₂ min (left-of b (l - 1) (omega arith)) (left-of b (min l (b.count - 1)) (omega arith))))

  last_is : (l : ℕ) → l ≤ b.count → max (get_or b.rows (l - 1) no_row).right (get_or b.rows (min l (b.count - 1)) no_row).right
      ≡ (lines_of (board_of b)).b l
  last_is l h =
      let p : pred l ≡ l - 1 = omega arith in
      let q : min l (pred (height (board_of b))) ≡ min l (b.count - 1) = omega (arith, height_of b) in
      rw (p, q) (sym (ap₂ max (right_of b (l - 1) (omega arith)) (right_of b (min l (b.count - 1)) (omega arith))))

  pub lined-more : {lo hi lo' hi' : List ℕ} (l x y : ℕ) → Lined (board_of b) l lo hi lo' hi' → l < length lo → l < length hi → l ≤ b.count
      → x ≡ min (get_or b.rows (l - 1) no_row).left (get_or b.rows (min l (b.count - 1)) no_row).left
      → y ≡ max (get_or b.rows (l - 1) no_row).right (get_or b.rows (min l (b.count - 1)) no_row).right
      → Lined (board_of b) (l + 1) lo hi (set lo' l x) (set hi' l y)
  lined-more {lo} {hi} {lo'} {hi'} l x y L s t h e f = record {
    first = more (lines_of (board_of b)).a lo lo' l x L.first s (e ∙ first-is l h);
    last = more (lines_of (board_of b)).b hi hi' l y L.last t (f ∙ last_is l h);
  }

-- ── all lines ──
module _ (b : Board) {lo hi lo' hi' : List ℕ} {n : ℕ} (L : Lined b n lo hi lo' hi') where
  pub lined-lo : n ≤ length lo → length lo' ≡ length lo
  lined-lo h = keeps (lines_of b).a lo lo' n L.first h

  pub lined-hi : n ≤ length hi → length hi' ≡ length hi
  lined-hi h = keeps (lines_of b).b hi hi' n L.last h

-- the arrays hold the board's shape
pub lined_alike : (b : Board) {lo hi lo' hi' : List ℕ} (n : ℕ) → 1 ≤ height b → n ≡ height b → Lined b (n + 1) lo hi lo' hi'
    → Alike (lines_of b) (shape_of lo' hi' 0 n false)
lined_alike b {lo} {hi} {lo'} {hi'} n s e L = record {
  top = refl;
  bottom = omega (arith, e);
  a = λ l h. sym (holds (lines_of b).a lo lo' (n + 1) l L.first (omega (arith, h.1)));
  b = λ l h. sym (holds (lines_of b).b hi hi' (n + 1) l L.last (omega (arith, h.1)));
}
