-- The odd vertices collected from the last one back, each in front of those collected.
-- Assumes nothing.
use Rattle.std.specs.Prelude.{◌≡◌, refl, Bool, true, false, cond, Option, None, Some, IfSome}
use Rattle.std.specs.Prelude.{List, [], ◌∷◌, ◌++◌, map, ℕ, zero, suc, ◌+◌, ◌-◌, ◌≤◌, ◌<◌, ltb, length, set, drop}
use Rattle.std.proofs.Common.{ap, ◌∙◌, inl, inr, ltb-true, ltb-false, length-set, drop-cons, drop-set-lt, get_or-set_same}
use Rattle.std.proofs.Common.{add-one}
use native.Mathlib.Omega.{arith}
use Rattle.count.specs.TruthLaws.{bool}
use Rattle.count.specs.Lists.{up_to, rising, select, select-append, rising_more}
use Rattle.board.specs.Board.{Board, at}
use Rattle.board.specs.declared.Vertex.{Vertex}
use Rattle.net.specs.declared.Pair.{Pair}
use Rattle.cut.specs.Odd.{odd?, odd_vertices}
use Rattle.cut.specs.Extent.{lines_of, columns_of}
use Rattle.cut_search.specs.Reading.{lines_from, lines_all, lines_more}
use Rattle.cut_search.specs.Beyond.{line_none, lines_none}
use Rattle.pairing_search.specs.View.{no_odds, put_odd, odds_of, Few, Collects}
use Rattle.pairing_search.specs.declared.Odds.{Odds}

pub few_none : Few [] no_odds
few_none = record { most = omega arith; count = refl; list = refl }

-- one vertex more in front of those in the last places
few_more : (vs : List Vertex) (o : Odds) → Few vs o → length o.list ≡ 12 → (v : Vertex) → o.count < 12
    → Few (v ∷ vs) (record { count = o.count + 1; list = set o.list (11 - o.count) v })
few_more vs o F l v h =
    let k = 11 - o.count in let a = set o.list k v in
    let p : 12 - (o.count + 1) ≡ k = omega arith in let q : suc k ≡ 12 - o.count = omega arith in
    record {
      most = omega arith;
      count = omega (arith, F.count);
      list = ap (λ i. drop i a) p
          ∙ drop-cons a k (at 0 0) (omega (arith, length-set o.list k v))
          ∙ rw (get_or-set_same o.list k v (at 0 0) (omega arith), drop-set-lt (suc k) o.list k v (omega arith), q, F.list) refl;
    }

-- ── the vertices as the code collects them ──
-- DEFINITION: those collected stand in twelve places
record Collected (vs : List Vertex) (r : Option Odds) : Type 0 where
  all : Collects vs r
  long : IfSome r (λ o. length o.list ≡ 12)

collected_more : (vs : List Vertex) (r : Option Odds) → Collected vs r → (v : Vertex) → Collected (v ∷ vs) (put_odd v r)
collected_more vs None C v = record {
  all = record { many = λ e. omega (arith, C.all.many refl); few = λ o e. absurd (cc) };
  long = C.long;
}
collected_more vs (Some o) C v = elim (bool (ltb o.count 12)) [
  | inl e ↦ rw e (record {
    all = record {
      many = λ n. absurd (cc);
      few = λ p n.
          let same : p ≡ record { count = o.count + 1; list = set o.list (11 - o.count) v } = cc in
          rw same (few_more vs o (C.all.few o refl) C.long v (ltb-true _ _ e));
    };
    long = length-set o.list (11 - o.count) v ∙ C.long;
  })
  | inr e ↦ rw e (record {
    all = record { many = λ n. omega (arith, (C.all.few o refl).count, ltb-false o.count 12 e); few = λ p n. absurd (cc) };
    long = tt;
  })
]

odds_collect : (vs : List Vertex) → Collected vs (odds_of vs)
odds_collect [] = record {
  all = record { many = λ n. absurd (cc); few = λ p n. let same : p ≡ no_odds = cc in rw same few_none };
  long = refl;
}
odds_collect (v ∷ vs) = collected_more vs (odds_of vs) (odds_collect vs) v

pub collected : (vs : List Vertex) (r : Option Odds) → r ≡ odds_of vs → Collects vs r
collected vs r e = rw e (odds_collect vs).all

-- ── a line from column c on, and one column more ──
-- DEFINITION: what a line has from column c on, and then the vertices vs
abbrev pub line_from : (Vertex → Bool) → (l c : ℕ) → List Vertex → List Vertex
line_from t l c vs = select t (map (at l) (rising c (32 - c))) ++ vs

line_step : (t : Vertex → Bool) (l c : ℕ) (vs : List Vertex) → c < 32
    → line_from t l c vs ≡ cond (t (at l c)) (at l c ∷ line_from t l (c + 1) vs) (line_from t l (c + 1) vs)
unfolding select
line_step t l c vs h = rw (rising_more c 32 h) (go (t (at l c)) (select t (map (at l) (rising (c + 1) (32 - (c + 1))))))
  where
    go : (u : Bool) (xs : List Vertex) → cond u (at l c ∷ xs) xs ++ vs ≡ cond u (at l c ∷ (xs ++ vs)) (xs ++ vs)
    go true xs = refl
    go false xs = refl

-- more than 12 stay more than 12
many_more : (xs vs : List Vertex) → None ≡ odds_of vs → None ≡ odds_of (xs ++ vs)
many_more [] vs e = e
many_more (x ∷ xs) vs e = ap (put_odd x) (many_more xs vs e)

module _ (b : Board) (ps : List Pair) (l : ℕ) (vs : List Vertex) where
  -- before the first turn: past the line's columns nothing is odd
  pub line_first : (n : ℕ) → n ≡ columns_of b l → (r : Option Odds) → r ≡ odds_of vs → r ≡ odds_of (line_from (odd? b ps) l n vs)
  line_first n all r e = rw (line_none b ps l n all) e

  -- the turn of column c: its vertex is put in front where it is odd
  pub line-odd : (c : ℕ) → c < 32 → odd? b ps (at l c) ≡ true → (r : Option Odds)
      → r ≡ odds_of (line_from (odd? b ps) l (c + 1) vs) → put_odd (at l c) r ≡ odds_of (line_from (odd? b ps) l c vs)
  line-odd c h t r e = rw (line_step (odd? b ps) l c vs h, t) (ap (put_odd (at l c)) e)

  pub line-even : (c : ℕ) → c < 32 → odd? b ps (at l c) ≡ false → (r : Option Odds)
      → r ≡ odds_of (line_from (odd? b ps) l (c + 1) vs) → r ≡ odds_of (line_from (odd? b ps) l c vs)
  line-even c h t r e = rw (line_step (odd? b ps) l c vs h, t) e

  pub line-many : (c : ℕ) → c ≤ 32 → None ≡ odds_of (line_from (odd? b ps) l c vs) → None ≡ odds_of (line_from (odd? b ps) l 0 vs)
  line-many zero h e = e
  line-many (suc c) h e = line-many c (omega arith) (go (odd? b ps (at l c)) (line_step (odd? b ps) l c vs (omega arith)))
    where
      rest : List Vertex
      rest = line_from (odd? b ps) l (c + 1) vs

      go : (t : Bool) → line_from (odd? b ps) l c vs ≡ cond t (at l c ∷ rest) rest → None ≡ odds_of (line_from (odd? b ps) l c vs)
      go true f = rw (f, add-one c) (ap (put_odd (at l c)) e)
      go false f = rw (f, add-one c) e

-- ── all lines from l on, and one line more ──
module _ (b : Board) (ps : List Pair) where
  pub lines-first : (n : ℕ) → n ≡ lines_of b → Some no_odds ≡ odds_of (select (odd? b ps) (lines_from n))
  lines-first n all = rw (lines_none b ps n all) refl

  -- `with_line` puts the odd vertices of line l in front
  pub lines-turn : (l : ℕ) → l < 32 → (o r : Option Odds) → ((vs : List Vertex) → o ≡ odds_of vs → r ≡ odds_of (line_from (odd? b ps) l 0 vs))
      → o ≡ odds_of (select (odd? b ps) (lines_from (l + 1))) → r ≡ odds_of (select (odd? b ps) (lines_from l))
  lines-turn l h o r W e =
      rw (lines_more l h, select-append (odd? b ps) (map (at l) (rising 0 (32 - 0))) (lines_from (l + 1)))
      (W (select (odd? b ps) (lines_from (l + 1))) e)

  lines-many : (l : ℕ) → l ≤ 32 → None ≡ odds_of (select (odd? b ps) (lines_from l)) → None ≡ odds_of (select (odd? b ps) (lines_from 0))
  lines-many zero h e = e
  lines-many (suc l) h e =
      lines-many l (omega arith)
      (lines-turn l (omega arith) None None (λ vs. many_more (select (odd? b ps) (map (at l) (up_to 32))) vs) (rw (add-one l) e))

  pub lines_last : (r : Option Odds) → r ≡ odds_of (select (odd? b ps) (lines_from 0)) → r ≡ odds_of (odd_vertices b ps)
  unfolding odd_vertices
  lines_last r e = rw lines_all at e

  pub lines_many : (l : ℕ) → l ≤ 32 → None ≡ odds_of (select (odd? b ps) (lines_from l)) → None ≡ odds_of (odd_vertices b ps)
  lines_many l h e = lines_last None (lines-many l h e)
