-- Numbers in rising order, and the elements of a list that pass a test.
-- Assumes nothing.
use Rattle.std.proofs.Math.Path.{◌≡◌, refl}
use Rattle.std.proofs.Common.{ap, sym, ◌∙◌, arith}
use Rattle.std.specs.Prelude.{Bool, true, false, cond, ◌⊎◌, ◌↔◌, length, get_or}
use mathlib.Core.List.{List, [], ◌∷◌, ◌++◌, map, flat_map, head?}
use Rattle.std.proofs.Math.Logic.{inl, inr}
use Rattle.std.proofs.Math.Option.{Option, none, some}
use Prim.Native.Nat.{ℕ, zero, suc, ◌+◌, ◌-◌, ◌≤◌, ◌<◌}
use Rattle.count.specs.TruthLaws.{bool, le_or_lt}

-- DEFINITION: i, i + 1, .., n of them
abbrev pub rising : ℕ → ℕ → List ℕ
rising i zero = []
rising i (suc n) = i ∷ rising (suc i) n

-- DEFINITION: 0, 1, .., n - 1
abbrev pub up_to : ℕ → List ℕ
up_to n = rising 0 n

-- DEFINITION: the elements that pass the test, in their order
unfoldable pub select {ℓ} : {A : Type ℓ} → (A → Bool) → List A → List A
select t [] = []
select t (x ∷ xs) = cond (t x) (x ∷ select t xs) (select t xs)

-- ── a function's values at rising numbers ──
pub length-rising {ℓ} : {A : Type ℓ} (f : ℕ → A) (i n : ℕ) → length (map f (rising i n)) ≡ n
length-rising f i zero = refl
length-rising f i (suc n) = ap suc (length-rising f (suc i) n)

pub getD-rising {ℓ} : {A : Type ℓ} (f : ℕ → A) (i n k : ℕ) (d : A) → k < n → get_or (map f (rising i n)) k d ≡ f (i + k)
getD-rising f i zero k d h = absurd (omega arith)
getD-rising f i (suc n) zero d h = let e : i + 0 ≡ i = omega arith in rw e refl
getD-rising f i (suc n) (suc k) d h = let e : i + suc k ≡ suc i + k = omega arith in rw e (getD-rising f (suc i) n k d (omega arith))

-- ── the first element that passes ──
pub select_yes {ℓ} : {A : Type ℓ} (t : A → Bool) (x : A) (xs : List A) → t x ≡ true → select t (x ∷ xs) ≡ x ∷ select t xs
unfolding select
select_yes t x xs e = rw e refl

pub select_no {ℓ} : {A : Type ℓ} (t : A → Bool) (x : A) (xs : List A) → t x ≡ false → select t (x ∷ xs) ≡ select t xs
unfolding select
select_no t x xs e = rw e refl

pub select-append {ℓ} : {A : Type ℓ} (t : A → Bool) (xs ys : List A) → select t (xs ++ ys) ≡ select t xs ++ select t ys
unfolding select
select-append t [] ys = refl
select-append {A = A} t (x ∷ xs) ys = go (t x) (select-append t xs ys)
  where
    go : {zs : List A} (b : Bool) → zs ≡ select t xs ++ select t ys → cond b (x ∷ zs) zs ≡ cond b (x ∷ select t xs) (select t xs) ++ select t ys
    go true e = ap (λ (l : List A). x ∷ l) e
    go false e = e

-- ── the numbers from i up to n, where i is below n ──
pub rising_more : (i n : ℕ) → i < n → rising i (n - i) ≡ i ∷ rising (i + 1) (n - (i + 1))
rising_more i n h = let e : n - i ≡ suc (n - (i + 1)) = omega arith in let f : suc i ≡ i + 1 = omega arith in rw (e, f) refl

pub rising_none : (n : ℕ) → rising n (n - n) ≡ []
rising_none n = let e : n - n ≡ 0 = omega arith in rw e refl

-- ── a sum over a list ──
unfoldable pub tally {ℓ} : {A : Type ℓ} → (A → ℕ) → List A → ℕ
tally f [] = 0
tally f (x ∷ xs) = f x + tally f xs

-- DEFINITION: the first element that passes the test, if there is one
abbrev pub first {ℓ} : {A : Type ℓ} → (A → Bool) → List A → Option A
first t xs = head? (select t xs)

-- a search, one element on
pub first-yes {ℓ} : {A : Type ℓ} (t : A → Bool) {xs ys : List A} {x : A} → xs ≡ x ∷ ys → t x ≡ true → first t xs ≡ some x
first-yes t {ys = ys} {x = x} e h = rw (e, select_yes t x ys h) refl

pub first-no {ℓ} : {A : Type ℓ} (t : A → Bool) {xs ys : List A} {x : A} → xs ≡ x ∷ ys → t x ≡ false → first t xs ≡ first t ys
first-no t {ys = ys} {x = x} e h = rw (e, select_no t x ys h) refl

pub first_none {ℓ} : {A : Type ℓ} (t : A → Bool) {xs : List A} → xs ≡ [] → first t xs ≡ none
unfolding select
first_none t e = rw e refl

-- one value more at the end
pub rising_snoc {ℓ} : {A : Type ℓ} (f : ℕ → A) (i n : ℕ) → map f (rising i (suc n)) ≡ map f (rising i n) ++ (f (i + n) ∷ [])
rising_snoc f i zero = let e : i + 0 ≡ i = omega arith in rw e refl
rising_snoc {A = A} f i (suc n) =
    let e : i + suc n ≡ suc i + n = omega arith in
    ap (λ (xs : List A). f i ∷ xs) (rw e (rising_snoc f (suc i) n))

-- two functions that agree there
pub map_rising {ℓ} : {A : Type ℓ} (f g : ℕ → A) (i n : ℕ) → ((k : ℕ) → i ≤ k → k < i + n → f k ≡ g k) → map f (rising i n) ≡ map g (rising i n)
map_rising f g i zero h = refl
map_rising f g i (suc n) h =
    rw (h i (omega arith) (omega arith), map_rising f g (suc i) n (λ k p q. h k (omega arith) (omega arith))) refl

-- ── what a search through a list says: it finds none exactly when no element passes, and those before the one found do not pass ──
pub none-cons {ℓ} : {A : Type ℓ} (t : A → Bool) (x : A) (xs : List A) → (select t (x ∷ xs) ≡ []) ↔ ((t x ≡ false) × (select t xs ≡ []))
none-cons t x xs = (
  λ e. elim (bool (t x)) [
    | inl h ↦ absurd (let f = select_yes t x xs h in let z : ◌≡◌ {A = ℕ} 0 1 = cc in omega arith)
    | inr h ↦ (h, let f = select_no t x xs h in cc)
  ],
  λ h. select_no t x xs h.0 ∙ h.1,
)

pub none-append {ℓ} : {A : Type ℓ} (t : A → Bool) (xs ys : List A) → (select t (xs ++ ys) ≡ []) ↔ ((select t xs ≡ []) × (select t ys ≡ []))
unfolding select
none-append t [] ys = (λ e. (refl, e), λ h. h.1)
none-append t (x ∷ xs) ys =
    let k = none-cons t x (xs ++ ys) in let m = none-cons t x xs in let r = none-append t xs ys in
    (λ e. let d = k.0 e in let q = r.0 d.1 in (m.1 (d.0, q.0), q.1), λ h. let d = m.0 h.0 in k.1 (d.0, r.1 (d.1, h.1)))

pub first-append {ℓ} : {A : Type ℓ} (t : A → Bool) (xs ys : List A) (x : A)
    → first t (xs ++ ys) ≡ some x → (first t xs ≡ some x) ⊎ ((select t xs ≡ []) × (first t ys ≡ some x))
first-append t xs ys x e = go (select t xs) (rw (select-append t xs ys) at e)
  where
    go : (zs : List _) → head? (zs ++ select t ys) ≡ some x → (head? zs ≡ some x) ⊎ ((zs ≡ []) × (first t ys ≡ some x))
    go [] e = inr (refl, e)
    go (z ∷ zs) e = inl e

pub head-none {ℓ} : {A : Type ℓ} (xs : List A) → (head? xs ≡ none) ↔ (xs ≡ [])
head-none [] = (λ e. refl, λ e. refl)
head-none (x ∷ xs) =
    (λ e. absurd (let z : ◌≡◌ {A = ℕ} 0 1 = cc in omega arith), λ e. absurd (let z : ◌≡◌ {A = ℕ} 0 1 = cc in omega arith))

-- ── the same through the values of a function at rising numbers ──
-- DEFINITION: Q holds of the n numbers from i on
abbrev pub All : (ℕ → Type 0) → ℕ → ℕ → Type 0
All Q i n = (m : ℕ) → i ≤ m → m < i + n → Q m

-- DEFINITION: P holds of one of the n numbers from i on, and Q of those before it
pub record Least (P Q : ℕ → Type 0) (i n : ℕ) : Type 0 where
  pub k : ℕ
  pub from : i ≤ k
  pub to : k < i + n
  pub here : P k
  pub before : (m : ℕ) → i ≤ m → m < k → Q m

all_more : (Q : ℕ → Type 0) (i n : ℕ) → Q i → All Q (suc i) n → All Q i (suc n)
all_more Q i n q h m a b = elim (le_or_lt m i) [
  | inl p ↦ let e : m ≡ i = omega arith in rw e q
  | inr p ↦ h m p (omega arith)
]

least_more : (P Q : ℕ → Type 0) (i n : ℕ) → Q i → Least P Q (suc i) n → Least P Q i (suc n)
least_more P Q i n q h = record {
  k = h.k;
  from = omega (arith, h.from);
  to = omega (arith, h.to);
  here = h.here;
  before = λ m a b. elim (le_or_lt m i) [
    | inl p ↦ let e : m ≡ i = omega arith in rw e q
    | inr p ↦ h.before m p b
  ];
}

module _ {A : Type 0} (t : A → Bool) where
  pub none-map : (f : ℕ → A) (i n : ℕ) → (select t (map f (rising i n)) ≡ []) ↔ All (λ m. t (f m) ≡ false) i n
  unfolding select
  none-map f i zero = (λ e m a b. absurd (omega arith), λ h. refl)
  none-map f i (suc n) =
      let k = none-cons t (f i) (map f (rising (suc i) n)) in let r = none-map f (suc i) n in (
        λ e. let d = k.0 e in all_more (λ m. t (f m) ≡ false) i n d.0 (r.0 d.1),
        λ h. k.1 (h i (omega arith) (omega arith), r.1 (λ m a b. h m (omega arith) (omega arith))),
      )

  pub first-map : (f : ℕ → A) (i n : ℕ) (x : A) → first t (map f (rising i n)) ≡ some x
      → Least (λ k. (x ≡ f k) × (t x ≡ true)) (λ m. t (f m) ≡ false) i n
  unfolding select
  first-map f i zero x e = absurd (let z : ◌≡◌ {A = ℕ} 0 1 = cc in omega arith)
  first-map f i (suc n) x e = elim (bool (t (f i))) [
    | inl h ↦
        let g = first-yes t {ys = map f (rising (suc i) n)} {x = f i} refl h in
        let p : x ≡ f i = cc in
        record { k = i; from = omega arith; to = omega arith; here = (p, cc); before = λ m a b. absurd (omega arith) }
    | inr h ↦ least_more (λ k. (x ≡ f k) × (t x ≡ true)) (λ m. t (f m) ≡ false) i n h
        (first-map f (suc i) n x (sym (first-no t {ys = map f (rising (suc i) n)} {x = f i} refl h) ∙ e))
  ]

  -- the same through one list after the other
  pub none-flat : (s : ℕ → List A) (i n : ℕ) → (select t (flat_map s (rising i n)) ≡ []) ↔ All (λ m. select t (s m) ≡ []) i n
  unfolding select flat_map
  none-flat s i zero = (λ e m a b. absurd (omega arith), λ h. refl)
  none-flat s i (suc n) =
      let k = none-append t (s i) (flat_map s (rising (suc i) n)) in let r = none-flat s (suc i) n in (
        λ e. let d = k.0 e in all_more (λ m. select t (s m) ≡ []) i n d.0 (r.0 d.1),
        λ h. k.1 (h i (omega arith) (omega arith), r.1 (λ m a b. h m (omega arith) (omega arith))),
      )

  pub first_flat : (s : ℕ → List A) (i n : ℕ) (x : A) → first t (flat_map s (rising i n)) ≡ some x
      → Least (λ k. first t (s k) ≡ some x) (λ m. select t (s m) ≡ []) i n
  unfolding select flat_map
  first_flat s i zero x e = absurd (let z : ◌≡◌ {A = ℕ} 0 1 = cc in omega arith)
  first_flat s i (suc n) x e = elim (first-append t (s i) (flat_map s (rising (suc i) n)) x e) [
    | inl h ↦ record { k = i; from = omega arith; to = omega arith; here = h; before = λ m a b. absurd (omega arith) }
    | inr h ↦ least_more (λ k. first t (s k) ≡ some x) (λ m. select t (s m) ≡ []) i n h.0 (first_flat s (suc i) n x h.1)
  ]

-- ── a first element is the only one ──
-- an order of any two
abbrev pub Ordered : {A : Type 0} → (A → A → Type 0) → Type 0
Ordered {A} Before = (x y : A) → Before x y ⊎ ((x ≡ y) ⊎ Before y x)

pub first_only : {A : Type 0} (Good : A → Type 0) (Before : A → A → Type 0) → Ordered Before → (x y : A)
    → Good x → ((z : A) → Good z → Before z x → ⊥) → Good y → ((z : A) → Good z → Before z y → ⊥) → x ≡ y
first_only Good Before order x y p f q g = elim (order x y) [
  | inl h ↦ absurd (g x p h)
  | inr (inl e) ↦ e
  | inr (inr h) ↦ absurd (f y q h)
]

-- where there is an element and each head is it, it is the head
pub head-is {ℓ} : {A : Type ℓ} (xs : List A) (x : A) → (xs ≡ [] → ⊥) → ((y : A) → head? xs ≡ some y → y ≡ x) → head? xs ≡ some x
head-is [] x n h = absurd (n refl)
head-is (y ∷ xs) x n h = ap some (h y refl)
