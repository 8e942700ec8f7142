-- The array of taken pins: what it says of one vertex (`taken_here`), also once pins were put into it (`taken_after`), that the pins it stands for
-- come in reading order (`taken_ordered`), and that pins put into it in reading order are those that it then stands for (`taken_all`).
-- Assumes nothing.
use Rattle.std.specs.Prelude.{◌≡◌, refl, Bool, true, false, cond, ◌&&◌, ◌||◌, List, [], ◌∷◌, ◌++◌, ℕ, zero, suc, ◌+◌, ◌-◌, ◌/◌, ◌%◌, ◌≤◌, ◌<◌, eqb, ltb, length, get_or, set, replicate}
use Rattle.std.proofs.Common.{ap, sym, ◌∙◌, append_assoc, append-nil, inl, inr, arith, get_or-set_other, lt-ltb, le-ltb, eq-eqb, ltb-true, ltb-false, eqb-true}
use Rattle.std.proofs.lemmas.List.{get_or-replicate, length-replicate}
use Rattle.std.proofs.Math.ListN.{get_or-eq_default}
use Rattle.count.specs.TruthLaws.{bool, not_true, and_true, and_yes, or_true, le_or_lt}
use Rattle.board.specs.Board.{Board}
use Rattle.board.specs.declared.Vertex.{Vertex}
use Rattle.net.specs.Terminals.{same}
use Rattle.net.specs.Same.{same_exact}
use Rattle.net.specs.Grid.{changed_at}
use Rattle.net.specs.GridLaws.{length_changed, changed_same, changed_other}
use Rattle.board_block.specs.Book.{pins_by}
use Rattle.board_block.specs.Block.{taken_at, pins_of}
use Rattle.board_block.specs.Taken.{comes_before, in_order?}
use Rattle.board_block.specs.View.{place_of, vertex_at, taken_then, taken_from, taken_of, block_by, block_of, entry_of}
use Rattle.board_block.specs.View.{with_taken, with_all, with_pins, none_taken}
use Rattle.board_block.specs.Promise.{TakesPins}
use Rattle.board_block.specs.declared.Block as code
use Rattle.board_block.specs.declared.Book.{Book}
use Rattle.board_block.specs.declared.TakenPins.{TakenPins}

-- ── places ──
vertex_same : {u v : Vertex} → u.line ≡ v.line → u.column ≡ v.column → u ≡ v
vertex_same e f = λ i. record { line = e i; column = f i }

pub at_place : (v : Vertex) → v.column < 32 → vertex_at (place_of v) ≡ v
at_place v h = vertex_same (omega arith) (omega arith)

at_other : (j : ℕ) (v : Vertex) → (place_of v ≡ j → ⊥) → same (vertex_at j) v ≡ false
at_other j v n = not_true (same (vertex_at j) v) (λ e. n (rw (← (same_exact (vertex_at j) v).0 e) (omega arith)))

at_outside : (j : ℕ) (v : Vertex) → 32 ≤ v.column → same (vertex_at j) v ≡ false
at_outside j v h =
    not_true (same (vertex_at j) v) (λ e. omega (arith, ap (λ (w : Vertex). w.column) ((same_exact (vertex_at j) v).0 e)))

-- ── what the array says of one vertex ──
then_at : (u : Vertex) (k : ℕ) (ts : List TakenPins) (v : Vertex) → taken_at (taken_then u k ts) v ≡ cond (same u v) k 0 + taken_at ts v
unfolding taken_at
then_at u zero ts v = go (same u v)
  where
    go : (b : Bool) → taken_at ts v ≡ cond b 0 0 + taken_at ts v
    go true = omega arith
    go false = omega arith
then_at u (suc k) ts v = refl

absent : (i : ℕ) (a : List ℕ) (v : Vertex) → ((j : ℕ) → i ≤ j → same (vertex_at j) v ≡ false) → taken_at (taken_from i a) v ≡ 0
unfolding taken_from taken_at
absent i [] v n = refl
absent i (k ∷ ks) v n =
    let e = then_at (vertex_at i) k (taken_from (suc i) ks) v in
    let f = absent (suc i) ks v (λ j h. n j (omega arith)) in
    e ∙ rw (n i (omega arith)) (omega arith)

here : (i : ℕ) (a : List ℕ) (v : Vertex) (j : ℕ) → v.column < 32 → place_of v ≡ i + j → taken_at (taken_from i a) v ≡ get_or a j 0
unfolding taken_from taken_at
here i [] v j h e = refl
here i (k ∷ ks) v zero h e =
    let p : place_of v ≡ i = omega arith in
    let s : same (vertex_at i) v ≡ true = (same_exact (vertex_at i) v).1 (rw (← p) (at_place v h)) in
    let f = absent (suc i) ks v (λ j l. at_other j v (λ q. omega arith)) in
    then_at (vertex_at i) k (taken_from (suc i) ks) v ∙ rw s (omega arith)
here i (k ∷ ks) v (suc j) h e =
    let f = here (suc i) ks v j h (omega arith) in
    then_at (vertex_at i) k (taken_from (suc i) ks) v ∙ rw (at_other i v (λ q. omega arith)) (omega arith)

pub taken_here : (a : List ℕ) (v : Vertex) → v.column < 32 → taken_at (taken_of a) v ≡ get_or a (place_of v) 0
taken_here a v h = here 0 a v (place_of v) h (omega arith)

-- outside lines and columns 0 to 31 no pin is taken
pub taken_below : (a : List ℕ) (v : Vertex) → length a ≡ 1024 → 32 ≤ v.line → taken_at (taken_of a) v ≡ 0
taken_below a v l h = elim (le_or_lt 32 v.column) [
  | inl q ↦ absent 0 a v (λ j p. at_outside j v q)
  | inr q ↦ taken_here a v q ∙ get_or-eq_default a 0 {n = place_of v} (omega arith)
]

pub taken_beside : (a : List ℕ) (v : Vertex) → 32 ≤ v.column → taken_at (taken_of a) v ≡ 0
taken_beside a v h = absent 0 a v (λ j p. at_outside j v h)

pub entry_taken : (a : List ℕ) (v : Vertex) → length a ≡ 1024 → entry_of a v ≡ taken_at (taken_of a) v
entry_taken a v l = elim (bool (ltb v.line 32)) [
  | inl p ↦ elim (bool (ltb v.column 32)) [
    | inl q ↦ rw (p, q) (sym (taken_here a v (ltb-true v.column 32 q)))
    | inr q ↦ rw (p, q) (sym (taken_beside a v (ltb-false v.column 32 q)))
  ]
  | inr p ↦ rw p (sym (taken_below a v l (ltb-false v.line 32 p)))
]

-- the pins that are left by an array's entry are those of the board with that array
pub left_pins : (k : Book) (b : Board) (a : List ℕ) (v : Vertex) → v.line < 32 → v.column < 32
    → pins_by k b v - entry_of a v ≡ pins_of (block_by k b a) v
unfolding pins_of
left_pins k b a v p q = rw (lt-ltb v.line 32 p, lt-ltb v.column 32 q, taken_here a v q) refl

-- ── reading order ──
before_later : (i j : ℕ) → i < j → comes_before (vertex_at i) (vertex_at j) ≡ true
before_later i j h = elim (le_or_lt (j / 32) (i / 32)) [
  | inl p ↦
      let e : i / 32 ≡ j / 32 = omega arith in
      let f : i % 32 < j % 32 = omega arith in
      rw (eq-eqb (i / 32) (j / 32) e, lt-ltb (i % 32) (j % 32) f) (or-on (ltb (i / 32) (j / 32)))
  | inr p ↦ rw (lt-ltb (i / 32) (j / 32) p) refl
]
  where
    or-on : (b : Bool) → b || true ≡ true
    or-on true = refl
    or-on false = refl

-- DEFINITION: the first of them stands at place i or after it
abbrev Starts : ℕ → List TakenPins → Type 0
Starts i [] = Unit {0}
Starts i (t ∷ ts) = (j : ℕ) × (i ≤ j) × (t.vertex ≡ vertex_at j)

starts_later : (i : ℕ) (ts : List TakenPins) → Starts (suc i) ts → Starts i ts
starts_later i [] s = tt
starts_later i (t ∷ ts) (j, h, e) = (j, omega arith, e)

starts : (i : ℕ) (a : List ℕ) → Starts i (taken_from i a)
unfolding taken_from
starts i [] = tt
starts i (zero ∷ ks) = starts_later i (taken_from (suc i) ks) (starts (suc i) ks)
starts i (suc k ∷ ks) = (i, omega arith, refl)

order_then : (i k : ℕ) (ts : List TakenPins) → Starts (suc i) ts → in_order? ts ≡ true → in_order? (taken_then (vertex_at i) k ts) ≡ true
unfolding in_order?
order_then i zero ts s o = o
order_then i (suc k) [] s o = refl
order_then i (suc k) (t ∷ ts) (j, h, e) o =
    let b : comes_before (vertex_at i) t.vertex ≡ true = rw e (before_later i j (omega arith)) in
    and_yes (comes_before (vertex_at i) t.vertex) (in_order? (t ∷ ts)) b o

pub ordered_from : (i : ℕ) (a : List ℕ) → in_order? (taken_from i a) ≡ true
unfolding taken_from in_order?
ordered_from i [] = refl
ordered_from i (k ∷ ks) = order_then i k (taken_from (suc i) ks) (starts (suc i) ks) (ordered_from (suc i) ks)

pub taken_ordered : (a : List ℕ) → in_order? (taken_of a) ≡ true
taken_ordered a = ordered_from 0 a

-- ── no pin is taken ──
none_from : (i n : ℕ) → taken_from i (replicate n 0) ≡ []
unfolding taken_from
none_from i zero = refl
none_from i (suc n) = none_from (suc i) n

pub none-taken : taken_of none_taken ≡ []
none-taken = none_from 0 1024

-- ── one more, behind all others ──
-- DEFINITION: from place n on no pin is taken
abbrev Clear : ℕ → List ℕ → Type 0
Clear n a = (j : ℕ) → n ≤ j → get_or a j 0 ≡ 0

clear_none : (i : ℕ) (a : List ℕ) → Clear 0 a → taken_from i a ≡ []
unfolding taken_from
clear_none i [] c = refl
clear_none i (zero ∷ ks) c = clear_none (suc i) ks (λ j h. c (suc j) (omega arith))
clear_none i (suc k ∷ ks) c = absurd (omega (arith, c 0 (omega arith)))

then_append : (v : Vertex) (k : ℕ) (ts us : List TakenPins) → taken_then v k (ts ++ us) ≡ taken_then v k ts ++ us
then_append v zero ts us = refl
then_append v (suc k) ts us = refl

set_last : (i n k : ℕ) (a : List ℕ) → n < length a → Clear n a
    → taken_from i (set a n (suc k)) ≡ taken_from i a ++ (record { vertex = vertex_at (i + n); count = suc k } ∷ [])
unfolding taken_from
set_last i n k [] h c = absurd (omega arith)
set_last i zero k (x ∷ xs) h c =
    let z : i + 0 ≡ i = omega arith in
    let t : TakenPins = record { vertex = vertex_at i; count = suc k } in
    let e = clear_none (suc i) xs (λ j l. c (suc j) (omega arith)) in
    let f = clear_none i (x ∷ xs) c in
    rw z (ap (λ (l : List TakenPins). t ∷ l) e ∙ sym (ap (λ (l : List TakenPins). l ++ (t ∷ [])) f))
set_last i (suc n) k (x ∷ xs) h c =
    let z : i + suc n ≡ suc i + n = omega arith in
    let e = set_last (suc i) n k xs (omega arith) (λ j l. c (suc j) (omega arith)) in
    rw (z, e) (then_append (vertex_at i) x (taken_from (suc i) xs) _)

-- DEFINITION: the pins of a vertex of 32 lines and 32 columns, at least one
pub record Placed (t : TakenPins) : Type 0 where
  pub line : t.vertex.line < 32
  pub column : t.vertex.column < 32
  pub some : 1 ≤ t.count

abbrev pub AllPlaced : List TakenPins → Type 0
AllPlaced [] = Unit {0}
AllPlaced (t ∷ ts) = Placed t × AllPlaced ts

-- within lines and columns 0 to 31 it is the entry at the vertex's place that is changed
with_set : (a : List ℕ) (t : TakenPins) → Placed t → with_taken a t ≡ set a (place_of t.vertex) t.count
unfolding changed_at
with_set a t p = rw (lt-ltb t.vertex.line 32 p.line, lt-ltb t.vertex.column 32 p.column) refl

with_one : (a : List ℕ) (t : TakenPins) → length a ≡ 1024 → Placed t → Clear (place_of t.vertex) a
    → taken_of (with_taken a t) ≡ taken_of a ++ (t ∷ [])
with_one a t l p c = rw (with_set a t p) (go t.count refl)
  where
    go : (k : ℕ) → t.count ≡ k → taken_of (set a (place_of t.vertex) k) ≡ taken_of a ++ (t ∷ [])
    go zero e = absurd (omega (arith, p.some))
    go (suc k) e =
        let h : place_of t.vertex < length a = omega (arith, p.line, p.column) in
        let z : 0 + place_of t.vertex ≡ place_of t.vertex = omega arith in
        let v : vertex_at (0 + place_of t.vertex) ≡ t.vertex = rw z (at_place t.vertex p.column) in
        let w : record { vertex = vertex_at (0 + place_of t.vertex); count = suc k } ≡ t = λ i. record { vertex = v i; count = sym e i } in
        set_last 0 (place_of t.vertex) k a h c ∙ ap (λ (u : TakenPins). taken_of a ++ (u ∷ [])) w

place_before : (u v : Vertex) → u.column < 32 → comes_before u v ≡ true → place_of u < place_of v
place_before u v h e = elim (or_true (ltb u.line v.line) (eqb u.line v.line && ltb u.column v.column) e) [
  | inl p ↦ let q = ltb-true u.line v.line p in omega arith
  | inr p ↦
      let q = and_true (eqb u.line v.line) (ltb u.column v.column) p in
      let x = eqb-true u.line v.line q.0 in let y = ltb-true u.column v.column q.1 in omega arith
]

with_more : (a : List ℕ) (ts : List TakenPins) (n : ℕ) → length a ≡ 1024 → AllPlaced ts → in_order? ts ≡ true → Clear n a
    → ((t : TakenPins) (us : List TakenPins) → ts ≡ t ∷ us → n ≤ place_of t.vertex) → taken_of (with_all a ts) ≡ taken_of a ++ ts
unfolding with_all in_order?
with_more a [] n l p o c f = sym (append-nil (taken_of a))
with_more a (t ∷ ts) n l p o c f =
    let b = with_taken a t in let m = place_of t.vertex in
    let g = f t ts refl in
    let e = with_one a t l p.0 (λ j h. c j (omega arith)) in
    let k : Clear (suc m) b = rw (with_set a t p.0) (λ j h. get_or-set_other a m j t.count 0 (λ z. omega arith) ∙ c j (omega arith)) in
    let z = length_changed (λ k. t.count) t.vertex.line t.vertex.column a in
    with_more b ts (suc m) (z ∙ l) p.1 (order-rest t ts o) k (next t ts o p.0.column)
    ∙ (rw e (append_assoc (taken_of a) (t ∷ []) ts))
  where
    order-rest : (t : TakenPins) (ts : List TakenPins) → in_order? (t ∷ ts) ≡ true → in_order? ts ≡ true
    order-rest t [] o = refl
    order-rest t (u ∷ us) o = (and_true (comes_before t.vertex u.vertex) (in_order? (u ∷ us)) o).1

    next : (t : TakenPins) (ts : List TakenPins) → in_order? (t ∷ ts) ≡ true → t.vertex.column < 32
        → (u : TakenPins) (us : List TakenPins) → ts ≡ u ∷ us → suc (place_of t.vertex) ≤ place_of u.vertex
    next t [] o h u us e = absurd (let z : ◌≡◌ {A = ℕ} 0 1 = cc in omega arith)
    next t (w ∷ ws) o h u us e =
        let x : w ≡ u = cc in
        rw (← x) (place_before t.vertex w.vertex h (and_true (comes_before t.vertex w.vertex) (in_order? (w ∷ ws)) o).0)

pub taken_all : (ts : List TakenPins) → AllPlaced ts → in_order? ts ≡ true → taken_of (with_all none_taken ts) ≡ ts
taken_all ts p o =
    with_more none_taken ts 0 (length-replicate {A = ℕ} 1024 0) p o clear (λ t us e. omega arith)
    ∙ ap (λ (us : List TakenPins). us ++ ts) none-taken
  where
    clear : Clear 0 none_taken
    clear j h = elim (le_or_lt 1024 j) [
      | inl p ↦ get_or-eq_default none_taken 0 {n = j} (omega (arith, length-replicate {A = ℕ} 1024 0))
      | inr p ↦ get_or-replicate {A = ℕ} 1024 j 0 0 p
    ]

-- ── of one vertex so many are taken, in place of what was; of the others as many as before ──
pub taken_after : (a : List ℕ) (t : TakenPins) (v : Vertex) → length a ≡ 1024 → t.vertex.line < 32 → t.vertex.column < 32
    → taken_at (taken_of (with_taken a t)) v ≡ cond (same t.vertex v) t.count (taken_at (taken_of a) v)
taken_after a t v l p q = elim (le_or_lt 32 v.column) [
  | inl h ↦ rw (other h, taken_beside (with_taken a t) v h, taken_beside a v h) refl
  | inr h ↦ taken_here (with_taken a t) v h ∙ elim (bool (same t.vertex v)) [
    | inl s ↦
        let u = (same_exact t.vertex v).0 s in
        rw (s, ← ap (λ (w : Vertex). w.line) u, ← ap (λ (w : Vertex). w.column) u)
        (changed_same (λ k. t.count) t.vertex.line t.vertex.column a l p q)
    | inr s ↦ rw s (changed_other (λ k. t.count) t.vertex.line t.vertex.column v.line v.column a s h ∙ sym (taken_here a v h))
  ]
]
  where
    other : 32 ≤ v.column → same t.vertex v ≡ false
    other h = not_true (same t.vertex v) (λ e. omega (arith, ap (λ (w : Vertex). w.column) ((same_exact t.vertex v).0 e)))

-- what a block with taken pins promises, from its value
pub takes_pins : (b : code.Block) (t : TakenPins) (r : code.Block) → length b.taken ≡ 1024 → r ≡ with_pins b t → TakesPins b t r
unfolding changed_at
takes_pins b t r l e = record {
  value = e;
  board = ap (λ (x : code.Block). (block_of x).board) e;
  book = ap (λ (x : code.Block). (block_of x).book) e;
  pins = λ p q v. rw e (taken_after b.taken t v l p q);
  beyond = λ o. e ∙ elim o [
    | inl p ↦ rw (le-ltb t.vertex.line 32 p) refl
    | inr p ↦ elim (bool (ltb t.vertex.line 32)) [
      | inl f ↦ rw (f, le-ltb t.vertex.column 32 p) refl
      | inr f ↦ rw f refl
    ]
  ];
}
