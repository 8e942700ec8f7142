-- The list of odd vertices has each odd vertex once: pairs that match it are helper pairs, and helper pairs match it.
-- Assumes that the board is within the limits.
use Rattle.std.specs.Prelude.{◌≡◌, refl, Bool, true, false, ℕ, zero, suc, ◌+◌, ◌≤◌, ◌<◌}
use Rattle.std.proofs.Math.Path.{ap, sym}
use Rattle.std.proofs.Common.{subst, ◌∙◌, arith}
use mathlib.Core.List.{List, [], ◌∷◌, map, flat_map}
use Rattle.std.proofs.Math.Logic.{inl, inr}
use Rattle.count.specs.Truth.{one}
use Rattle.count.specs.TruthLaws.{bool, clash, not_true, eq_or_ne}
use Rattle.count.specs.Lists.{rising, up_to, tally, select, select_yes, select_no}
use Rattle.board.specs.Board.{Board, Within, at, IsVertex}
use Rattle.board.specs.Degree.{vertex?}
use Rattle.board.specs.Tests.{vertex_exact}
use Rattle.board.specs.declared.Vertex.{Vertex}
use Rattle.net.specs.declared.Pair.{Pair}
use Rattle.net.specs.Terminals.{same, terminals}
use Rattle.net.specs.Same.{same_true, same_self}
use Rattle.cut.specs.Odd.{odd?, odd_vertices}
use Rattle.board.specs.Order.{reading_order}
use Rattle.cut.specs.First.{odd-exact}
use Rattle.corner.specs.Pairs.{All}
use Rattle.corner.proofs.Tallies.{standing_none}
use Rattle.corner.proofs.Counted.{terminals_standing}
use Rattle.corner.proofs.Overfull.{vertex_frame}
use Rattle.corner.proofs.Even.{odd_off}
use Rattle.corner.specs.Problem.{Helpers}
use Rattle.pairing.proofs.Times.{times, times_append}
use Rattle.pairing.proofs.Laws.{Matches}

-- ── the vertices that pass a test ──
select_none : (t : Vertex → Bool) (x : Vertex) (vs : List Vertex) → t x ≡ false → times x (select t vs) ≡ 0
unfolding times select
select_none t x [] e = refl
select_none t x (v ∷ vs) e = elim (bool (t v)) [
  | inl f ↦ omega (
    arith,
    ap (times x) (select_yes t v vs f),
    ap one (not_true (same x v) (λ s. clash (ap t (same_true x v s) ∙ f) e)),
    select_none t x vs e,
  )
  | inr f ↦ omega (arith, ap (times x) (select_no t v vs f), select_none t x vs e)
]

select_all : (t : Vertex → Bool) (x : Vertex) (vs : List Vertex) → t x ≡ true → times x (select t vs) ≡ times x vs
unfolding times select
select_all t x [] e = refl
select_all t x (v ∷ vs) e = elim (bool (t v)) [
  | inl f ↦ omega (arith, ap (times x) (select_yes t v vs f), select_all t x vs e)
  | inr f ↦ omega (
    arith,
    ap (times x) (select_no t v vs f),
    ap one (not_true (same x v) (λ s. clash e (ap t (same_true x v s) ∙ f))),
    select_all t x vs e,
  )
]

-- ── the reading order has each place once ──
sum_zero : (g : ℕ → ℕ) (i n : ℕ) → ((j : ℕ) → i ≤ j → g j ≡ 0) → tally g (rising i n) ≡ 0
unfolding tally
sum_zero g i zero h = refl
sum_zero g i (suc n) h = omega (arith, h i (omega arith), sum_zero g (suc i) n (λ j p. h j (omega arith)))

sum_once : (g : ℕ → ℕ) (k i n : ℕ) → ((j : ℕ) → (j ≡ k → ⊥) → g j ≡ 0) → i ≤ k → k < i + n → tally g (rising i n) ≡ g k
unfolding tally
sum_once g k i zero h p q = absurd (omega arith)
sum_once g k i (suc n) h p q = elim (eq_or_ne i k) [
  | inl e ↦ omega (arith, ap g e, sum_zero g (suc i) n (λ j l. h j (λ f. omega arith)))
  | inr e ↦ omega (arith, h i e, sum_once g k (suc i) n h (omega arith) (omega arith))
]

times_map : (x : Vertex) (f : ℕ → Vertex) (ks : List ℕ) → times x (map f ks) ≡ tally (λ k. one (same x (f k))) ks
unfolding times tally
times_map x f [] = refl
times_map x f (k ∷ ks) = omega (arith, times_map x f ks)

times_flat : (x : Vertex) (s : ℕ → List Vertex) (ks : List ℕ) → times x (flat_map s ks) ≡ tally (λ k. times x (s k)) ks
unfolding times tally flat_map
times_flat x s [] = refl
times_flat x s (k ∷ ks) = omega (arith, times_flat x s ks, times_append x (s k) (flat_map s ks))

other_place : (x : Vertex) (l c : ℕ) → ((l ≡ x.line) × (c ≡ x.column) → ⊥) → one (same x (at l c)) ≡ 0
other_place x l c h = ap one (not_true (same x (at l c)) (λ s.
    let e = same_true x (at l c) s in h (ap (λ (v : Vertex). v.line) (sym e), ap (λ (v : Vertex). v.column) (sym e))))

reading_once : (x : Vertex) → x.line ≤ 31 → x.column ≤ 31 → times x reading_order ≡ 1
reading_once x p q =
    times_flat x (λ l. map (at l) (up_to 32)) (up_to 32)
    ∙ sum_once (λ l. times x (map (at l) (up_to 32))) x.line 0 32
    (λ l n. times_map x (at l) (up_to 32) ∙ sum_zero (λ c. one (same x (at l c))) 0 32 (λ c h. other_place x l c (λ e. n e.0)))
    (omega arith) (omega arith)
    ∙ times_map x (at x.line) (up_to 32)
    ∙ sum_once (λ c. one (same x (at x.line c))) x.column 0 32 (λ c n. other_place x x.line c (λ e. n e.1)) (omega arith) (omega arith)
    ∙ ap one (same_self x)

module _ (b : Board) (ps : List Pair) (W : Within b) where
  odd-once : (x : Vertex) → times x (odd_vertices b ps) ≡ one (odd? b ps x)
  unfolding odd_vertices
  odd-once x = elim (bool (odd? b ps x)) [
    | inl e ↦
        let f = vertex_frame b W x ((odd-exact b ps x).0 e).0 in
        select_all (odd? b ps) x reading_order e ∙ reading_once x (omega (arith, W.few)) f.1 ∙ sym (ap one e)
    | inr e ↦ select_none (odd? b ps) x reading_order e ∙ sym (ap one e)
  ]

  -- ── helper pairs ──
  terminals-stand : (P : Vertex → Type 0) (hs : List Pair) → ((x : Vertex) → 1 ≤ terminals hs x → P x) → All P hs
  unfolding terminals
  terminals-stand P [] h = tt
  terminals-stand P (p ∷ hs) h = (
    h p.first (omega (arith, ap one (same_self p.first))),
    h p.second (omega (arith, ap one (same_self p.second))),
    terminals-stand P hs (λ x l. h x (omega arith)),
  )

  pub matches-helpers : (hs : List Pair) → Matches (odd_vertices b ps) hs → Helpers b ps hs
  matches-helpers hs M = record {
    stand = terminals-stand (IsVertex b) hs (λ x l. elim (bool (odd? b ps x)) [
      | inl e ↦ ((odd-exact b ps x).0 e).0
      | inr e ↦ absurd (omega (arith, M x, odd-once x, ap one e))
    ]);
    each = λ x h. M x ∙ odd-once x;
  }

  pub helpers-match : (hs : List Pair) → Helpers b ps hs → Matches (odd_vertices b ps) hs
  helpers-match hs H x = elim (bool (vertex? b x)) [
    | inl e ↦ H.each x ((vertex_exact b x).0 e) ∙ sym (odd-once x)
    | inr e ↦
        terminals_standing hs x
        ∙ standing_none (IsVertex b) (same x) (λ u h. not_true (same x u)
        (λ s. clash ((vertex_exact b x).1 (subst (IsVertex b) (sym (same_true x u s)) h)) e)) hs H.stand
        ∙ sym (odd-once x ∙ ap one (odd_off b ps x e))
  ]
