-- The search on arrays: the vertices in the last places, the pairs found in the first.
-- Assumes nothing.
use Rattle.std.specs.Prelude.{◌≡◌, refl, true, false, List, [], ◌∷◌, ◌++◌, length, get_or, set, take, drop, Some}
use Rattle.std.proofs.Common.{ap, ap₂, sym, ◌∙◌, length-drop, length-append, length-take-le, take-suc-set, drop-drop, get_or-drop}
use Rattle.std.proofs.Math.Option.{Option, none, some}
use Prim.Native.Nat.{ℕ, zero, suc, ◌+◌, ◌-◌, ◌≤◌, ◌<◌}
use native.Mathlib.Omega.{arith}
use Rattle.std.proofs.Math.Numerals.{add-one}
use Rattle.std.proofs.lemmas.List.{drop-set-add}
use Rattle.board.specs.Board.{Board, at}
use Rattle.board.specs.declared.Vertex.{Vertex}
use Rattle.net.specs.declared.Pair.{Pair}
use Rattle.corner.specs.Pairs.{pair}
use Rattle.pairing.specs.Search.{open?, others, or_else, first_of, with_pair, pair_up}
use Rattle.pairing_search.specs.View.{no_pairs, found_of, put_pair}
use Rattle.pairing.proofs.Laws.{attempt, pair_more, attempt_open, attempt_shut}
use Rattle.pairing_search.specs.declared.HelperPairs.{HelperPairs}

-- one pair more
pub found_more : (h : HelperPairs) (p : Pair) → h.count < length h.pairs
    → some (take (h.count + 1) (set h.pairs h.count p)) ≡ with_pair p (some (take h.count h.pairs))
found_more h p l = rw (add-one, take-suc-set) refl

-- and the whole value: it stands in the next place, before those that hold no pair
put_more : (hs ns : List Pair) (p : Pair) → length hs < length ns
    → set (hs ++ drop (length hs) ns) (length hs) p ≡ (hs ++ (p ∷ [])) ++ drop (length (hs ++ (p ∷ []))) ns
put_more [] [] p h = absurd (omega arith)
put_more [] (n ∷ ns) p h = refl
put_more (g ∷ hs) [] p h = absurd (omega arith)
put_more (g ∷ hs) (n ∷ ns) p h = ap (λ l. g ∷ l) (put_more hs ns p (omega arith))

found_put : (hs : List Pair) (p : Pair) → length hs < 6 → (h : HelperPairs) → Some h ≡ found_of (some hs)
    → Some (put_pair p h) ≡ found_of (some (hs ++ (p ∷ [])))
found_put hs p l h e =
    let same : h ≡ record { count = length hs; pairs = hs ++ drop (length hs) no_pairs } = cc in
    let make : ℕ → List Pair → HelperPairs = λ c ps. record { count = c; pairs = ps } in
    rw same (ap₂ (λ (c : ℕ) (ps : List Pair). Some (make c ps)) (sym (length-append hs (p ∷ []))) (put_more hs no_pairs p l))

pub found_whole : (h : HelperPairs) (p : Pair) → h.count < 6 → length h.pairs ≡ 6 → Some h ≡ found_of (some (take h.count h.pairs))
    → Some (put_pair p h) ≡ found_of (some (take (h.count + 1) (set h.pairs h.count p)))
found_whole h p few l w =
    found_put (take h.count h.pairs) p (omega (arith, length-take-le h.count h.pairs (omega arith))) h w
    ∙ ap found_of (sym (found_more h p (omega arith)))

-- ── the loop over the later vertices ──
list_loop : (b : Board) (n : ℕ) (vs : List Vertex) (qs : List Pair) → length vs ≡ n → 1 ≤ n
    → first_of (attempt b (n - 2) (get_or vs 0 (at 0 0)) (drop 1 vs) qs) 0 (n - 1) ≡ pair_up b n vs qs
unfolding pair_up first_of
list_loop b zero vs qs e h = absurd (omega arith)
list_loop b (suc zero) vs qs e h = refl
list_loop b (suc (suc n)) [] qs e h = absurd (omega arith)
list_loop b (suc (suc n)) (v ∷ vs) qs e h =
    let f : suc (suc n) - 2 ≡ n = omega arith in let g : suc (suc n) - 1 ≡ suc n = omega arith in
    rw (f, g) (sym (pair_more b n v vs qs))

-- ── one pair ──
-- the pair of the first of the last n vertices with the one at place k
abbrev pub pair_at : List Vertex → (n k : ℕ) → Pair
pair_at vs n k = pair (get_or vs (12 - n) (at 0 0)) (get_or vs k (at 0 0))

-- the attempts of the loop: attempt j is with the vertex j places behind the second
abbrev pub attempts : Board → List Vertex → ℕ → List Pair → ℕ → Option (List Pair)
attempts b vs n qs = attempt b (n - 2) (get_or vs (12 - n) (at 0 0)) (drop (12 - n + 1) vs) qs

-- the vertices are the last n of 12
pub loop_start : (b : Board) (n : ℕ) (vs : List Vertex) (qs : List Pair) → length vs ≡ 12 → n ≤ 12 → 1 ≤ n
    → first_of (attempts b vs n qs) 0 (n - 1) ≡ pair_up b n (drop (12 - n) vs) qs
loop_start b n vs qs e l h =
    let k = list_loop b n (drop (12 - n) vs) qs (omega (arith, length-drop (12 - n) vs)) h in
    let f : 12 - n + 0 ≡ 12 - n = omega arith in
    rw (get_or-drop, drop-drop, f) at k

-- of the answers from number j on, d are left
module _ {A : Type 0} (f : ℕ → Option A) (x : Option A) (j d : ℕ) (h : 1 ≤ d) (e : first_of f j d ≡ x) where
  step : or_else (f j) (first_of f (j + 1) (d - 1)) ≡ x
  unfolding first_of
  step = let p : d ≡ suc (d - 1) = omega arith in rw add-one (rw p at e)

  pub loop-none : f j ≡ none → (i r : ℕ) → i ≡ j + 1 → r ≡ d - 1 → first_of f i r ≡ x
  loop-none n i r p q = rw (p, q) (rw n at step)

  pub loop-some : (a : A) → f j ≡ some a → some a ≡ x
  loop-some a n = rw n at step

-- the loop has come to its end
pub loop_end : {A : Type 0} (f : ℕ → Option A) (x : Option A) (j d : ℕ) → d ≡ 0 → first_of f j d ≡ x → none ≡ x
unfolding first_of
loop_end f x j d p e = rw p at e

module _ (b : Board) (qs : List Pair) (n : ℕ) (vs : List Vertex) (j : ℕ) (h : j + 2 ≤ n) (l : n ≤ 12) where
  others-array : others (drop (12 - n + 1) vs) j ≡ drop (12 - (n - 2)) (set vs (12 - n + 1 + j) (get_or vs (12 - n + 1) (at 0 0)))
  others-array =
      let e : 12 - (n - 2) ≡ 12 - n + 1 + 1 = omega arith in let f : 12 - n + 1 + 0 ≡ 12 - n + 1 = omega arith in
      rw (e, ← drop-drop 1 (12 - n + 1), drop-set-add, get_or-drop, f) refl

  pub array-shut : open? b (pair_at vs n (12 - n + 1 + j) ∷ qs) ≡ false → attempts b vs n qs j ≡ none
  array-shut e = attempt_shut b (n - 2) (get_or vs (12 - n) (at 0 0)) (drop (12 - n + 1) vs) qs j (rw (get_or-drop (12 - n + 1) vs j (at 0 0)) e)

  pub array-open : open? b (pair_at vs n (12 - n + 1 + j) ∷ qs) ≡ true
      → attempts b vs n qs j ≡ with_pair (pair_at vs n (12 - n + 1 + j))
      (pair_up b (n - 2) (drop (12 - (n - 2)) (set vs (12 - n + 1 + j) (get_or vs (12 - n + 1) (at 0 0)))) (pair_at vs n (12 - n + 1 + j) ∷ qs))
  array-open e = rw (get_or-drop (12 - n + 1) vs j (at 0 0), others-array) at
      (attempt_open b (n - 2) (get_or vs (12 - n) (at 0 0)) (drop (12 - n + 1) vs) qs j (rw (get_or-drop (12 - n + 1) vs j (at 0 0)) e))
