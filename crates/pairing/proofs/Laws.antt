-- The search on any list of vertices: what it finds pairs them and leaves no cut overfull, and it finds pairs where there are any.
-- Assumes nothing.
use Rattle.std.specs.Prelude.{◌≡◌, refl, true, false, List, [], ◌∷◌, ◌++◌, ℕ, zero, suc, ◌+◌, ◌≤◌, ◌<◌, length, get_or}
use Rattle.std.proofs.Common.{ap, sym, subst, ◌∙◌, append_assoc, inl, inr, arith}
use Rattle.std.proofs.Math.Option.{Option, none, some}
use Rattle.count.specs.Truth.{one}
use Rattle.count.specs.TruthLaws.{bool, eq_or_ne}
use Rattle.board.specs.Board.{Board, at}
use Rattle.board.specs.declared.Vertex.{Vertex}
use Rattle.net.specs.declared.Pair.{Pair}
use Rattle.net.specs.Terminals.{same, terminals}
use Rattle.net.specs.Same.{same_self, same_sym}
use Rattle.cut.specs.declared.Cut.{Cut}
use Rattle.cut.specs.Cut.{crossing}
use Rattle.corner.specs.Pairs.{pair, Take}
use Rattle.corner.proofs.Taking.{pick, standing_take}
use Rattle.corner.proofs.Counted.{terminals_standing}
use Rattle.pairing.specs.Search.{open?, others, or_else, first_of, with_pair, pair_up}
use Rattle.pairing.proofs.Times.{times, times_others, length_others, times_found}
use Rattle.pairing.proofs.Test.{open_fewer, crossing_append, crossing_take, terminals_append}

-- DEFINITION: the ends of the pairs are the vertices of the list, each as often as it stands there
abbrev pub Matches : List Vertex → List Pair → Type 0
Matches vs hs = (x : Vertex) → terminals hs x ≡ times x vs

-- ── the first answer ──
first_some : {A : Type 0} (f : ℕ → Option A) (i n : ℕ) (a : A) → first_of f i n ≡ some a → (k : ℕ) × (k < i + n) × (f k ≡ some a)
unfolding first_of
first_some f i zero a e = absurd (let z : ◌≡◌ {A = ℕ} 0 1 = cc in omega arith)
first_some {A = A} f i (suc n) a e = go (f i) refl (first_some f (suc i) n a) e
  where
    go : (o : Option A) → f i ≡ o → (first_of f (suc i) n ≡ some a → (k : ℕ) × (k < suc i + n) × (f k ≡ some a))
        → or_else o (first_of f (suc i) n) ≡ some a → (k : ℕ) × (k < i + suc n) × (f k ≡ some a)
    go none p r q = let k = r q in (k.0, omega (arith, k.1), k.2)
    go (some c) p r q = (i, omega arith, p ∙ q)

pub some_first : {A : Type 0} (f : ℕ → Option A) (i n k : ℕ) (a : A) → i ≤ k → k < i + n → f k ≡ some a → (c : A) × (first_of f i n ≡ some c)
unfolding first_of
some_first f i zero k a h l e = absurd (omega arith)
some_first {A = A} f i (suc n) k a h l e = go (f i) refl (λ m. some_first f (suc i) n k a m (omega arith) e)
  where
    go : (o : Option A) → f i ≡ o → (i < k → (c : A) × (first_of f (suc i) n ≡ some c)) → (c : A) × (or_else o (first_of f (suc i) n) ≡ some c)
    go none p r = r (elim (eq_or_ne i k) [
      | inl q ↦ absurd (let g = ap f q in let z : ◌≡◌ {A = ℕ} 0 1 = cc in omega arith)
      | inr q ↦ omega arith
    ])
    go (some c) p r = (c, refl)

-- ── one pair ──
-- DEFINITION: the search with v paired with the vertex at place k of vs
unfoldable pub attempt : Board → ℕ → Vertex → List Vertex → List Pair → ℕ → Option (List Pair)
attempt b n v vs qs k = let p = pair v (get_or vs k (at 0 0)) in elim (open? b (p ∷ qs)) [
  | true ↦ with_pair p (pair_up b n (others vs k) (p ∷ qs))
  | false ↦ none
]

pub pair_more : (b : Board) (n : ℕ) (v : Vertex) (vs : List Vertex) (qs : List Pair)
    → pair_up b (suc (suc n)) (v ∷ vs) qs ≡ first_of (attempt b n v vs qs) 0 (suc n)
unfolding pair_up attempt
pair_more b n v vs qs = refl

pub attempt_open : (b : Board) (n : ℕ) (v : Vertex) (vs : List Vertex) (qs : List Pair) (k : ℕ) → open? b (pair v (get_or vs k (at 0 0)) ∷ qs) ≡ true
    → attempt b n v vs qs k ≡ with_pair (pair v (get_or vs k (at 0 0))) (pair_up b n (others vs k) (pair v (get_or vs k (at 0 0)) ∷ qs))
unfolding attempt
attempt_open b n v vs qs k e = rw (e, attempt) refl

pub attempt_shut : (b : Board) (n : ℕ) (v : Vertex) (vs : List Vertex) (qs : List Pair) (k : ℕ) → open? b (pair v (get_or vs k (at 0 0)) ∷ qs) ≡ false
    → attempt b n v vs qs k ≡ none
unfolding attempt
attempt_shut b n v vs qs k e = rw (e, attempt) refl

-- what an attempt has found
attempt_some : (b : Board) (n : ℕ) (v : Vertex) (vs : List Vertex) (qs : List Pair) (k : ℕ) (hs : List Pair) → attempt b n v vs qs k ≡ some hs
    → (gs : List Pair) × (open? b (pair v (get_or vs k (at 0 0)) ∷ qs) ≡ true)
    × (pair_up b n (others vs k) (pair v (get_or vs k (at 0 0)) ∷ qs) ≡ some gs) × (hs ≡ gs ++ (pair v (get_or vs k (at 0 0)) ∷ []))
attempt_some b n v vs qs k hs e = let p = pair v (get_or vs k (at 0 0)) in elim (bool (open? b (p ∷ qs))) [
  | inl t ↦ let r = go p (pair_up b n (others vs k) (p ∷ qs)) (sym (attempt_open b n v vs qs k t) ∙ e) in (r.0, t, r.1, r.2)
  | inr t ↦ absurd (let g = attempt_shut b n v vs qs k t in let z : ◌≡◌ {A = ℕ} 0 1 = cc in omega arith)
]
  where
    go : (p : Pair) (o : Option (List Pair)) → with_pair p o ≡ some hs → (gs : List Pair) × (o ≡ some gs) × (hs ≡ gs ++ (p ∷ []))
    go p none q = absurd (let z : ◌≡◌ {A = ℕ} 0 1 = cc in omega arith)
    go p (some gs) q = (gs, refl, cc)

-- ── what is found ──
pub found : (b : Board) (n : ℕ) (vs : List Vertex) (qs hs : List Pair) → length vs ≡ n → open? b qs ≡ true → pair_up b n vs qs ≡ some hs
    → Matches vs hs × (open? b (hs ++ qs) ≡ true)
unfolding pair_up terminals times
found b zero [] qs hs l t e = let z : [] ≡ hs = cc in subst (λ (gs : List Pair). Matches [] gs × (open? b (gs ++ qs) ≡ true)) z (λ x. refl, t)
found b zero (v ∷ vs) qs hs l t e = absurd (omega arith)
found b (suc zero) vs qs hs l t e = absurd (let z : ◌≡◌ {A = ℕ} 0 1 = cc in omega arith)
found b (suc (suc n)) [] qs hs l t e = absurd (omega arith)
found b (suc (suc n)) (v ∷ vs) qs hs l t e =
    let f = first_some (attempt b n v vs qs) 0 (suc n) hs (sym (pair_more b n v vs qs) ∙ e) in
    let k = f.0 in let w = get_or vs k (at 0 0) in let p = pair v w in
    let a = attempt_some b n v vs qs k hs f.2 in
    let r = found b n (others vs k) (p ∷ qs) a.0 (length_others vs k n (omega arith)) a.1 a.2 in (
      λ x. omega (
        arith,
        ap (λ (gs : List Pair). terminals gs x) a.3,
        terminals_append a.0 (p ∷ []) x,
        r.0 x,
        times_others x vs k (omega (arith, f.1)),
        ap one (same_sym x v),
        ap one (same_sym x w),
      ),
      rw (a.3, append_assoc) r.1,
    )

-- ── what there is, is found ──
-- the pair of the first vertex: its partner is a later vertex of the list, and the other pairs match the others
first_pair : (v : Vertex) (vs : List Vertex) (hs : List Pair) → Matches (v ∷ vs) hs
    → (k : ℕ) × (rest : List Pair) × (k < length vs) × Take v (get_or vs k (at 0 0)) hs rest × Matches (others vs k) rest
unfolding times
first_pair v vs hs M =
    let c = pick v hs (omega (arith, M v, terminals_standing hs v, ap one (same_self v))) in
    let s = c.0 in let rest = c.1 in
    let m : (x : Vertex) → times x vs ≡ one (same x s) + terminals rest x
    = λ x. omega (arith, M x, terminals_standing hs x, terminals_standing rest x, standing_take (same x) v s c.2) in
    let f = times_found s vs (omega (arith, m s, ap one (same_self s))) in (
      f.0,
      rest,
      f.1,
      subst (λ (w : Vertex). Take v w hs rest) f.2 c.2,
      λ x. omega (arith, m x, times_others x vs f.0 f.1, ap (λ (w : Vertex). one (same x w)) f.2),
    )

-- the pair taken out and put in front of the nets: no cut is crossed more often
crossings : (x : Cut) (v w : Vertex) (hs rest qs : List Pair) → Take v w hs rest → crossing x (rest ++ (pair v w ∷ qs)) ≤ crossing x (hs ++ qs)
unfolding crossing
crossings x v w hs rest qs t = omega (arith, crossing_append x rest (pair v w ∷ qs), crossing_append x hs qs, crossing_take x v w hs rest t)

pub complete : (b : Board) (n : ℕ) (vs : List Vertex) (qs hs : List Pair) → length vs ≡ n → Matches vs hs → open? b (hs ++ qs) ≡ true
    → (gs : List Pair) × (pair_up b n vs qs ≡ some gs)
unfolding pair_up
complete b zero vs qs hs l M t = ([], refl)
complete b (suc zero) [] qs hs l M t = absurd (omega arith)
complete b (suc zero) (v ∷ vs) qs hs l M t = let c = first_pair v vs hs M in absurd (omega (arith, c.2))
complete b (suc (suc n)) [] qs hs l M t = absurd (omega arith)
complete b (suc (suc n)) (v ∷ vs) qs hs l M t =
    let c = first_pair v vs hs M in let k = c.0 in let rest = c.1 in
    let w = get_or vs k (at 0 0) in let p = pair v w in
    let more : open? b (rest ++ (p ∷ qs)) ≡ true = open_fewer b (rest ++ (p ∷ qs)) (hs ++ qs) (λ x. crossings x v w hs rest qs c.3) t in
    let now : open? b (p ∷ qs) ≡ true = open_fewer b (p ∷ qs) (rest ++ (p ∷ qs)) (λ x. omega (arith, crossing_append x rest (p ∷ qs))) more in
    let r = complete b n (others vs k) (p ∷ qs) rest (length_others vs k n (omega arith)) c.4 more in
    let a : attempt b n v vs qs k ≡ some (r.0 ++ (p ∷ [])) = attempt_open b n v vs qs k now ∙ ap (with_pair p) r.1 in
    let f = some_first (attempt b n v vs qs) 0 (suc n) k (r.0 ++ (p ∷ [])) (omega arith) (omega (arith, c.2)) a in
    (f.0, pair_more b n v vs qs ∙ f.1)
