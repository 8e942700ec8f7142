-- The table of pairs is filled row by row from what the places hold; and a table that is filled has the pairs' rows.
-- Assumes arrays with room.
use Rattle.std.specs.Prelude.{◌≡◌, refl, List, [], ◌∷◌, ◌++◌, map, ℕ, zero, suc, ◌+◌, ◌≤◌, ◌<◌, length, get_or, set, take, None, Some}
use Rattle.std.proofs.Common.{ap, ◌∙◌, sym, subst, append-nil, append_assoc, inl, inr, arith, add-one, length-append, length-take-le, take-suc}
use Rattle.std.proofs.lemmas.List.{map-append, length-map}
use Rattle.std.proofs.Math.ListN.{get_or-map}
use Rattle.count.specs.TruthLaws.{le_or_lt}
use Rattle.count.specs.Lists.{rising, up_to}
use Rattle.net.specs.View.{Held, nothing, held_then, pairs_of}
use Rattle.net.specs.declared.Pair.{Pair}
use Rattle.router_notes.specs.declared.Notes.{Notes}
use Rattle.router_notes.specs.Limits.{pair_limit}
use Rattle.router_ends.specs.View.{Low}
use Rattle.router_start.specs.Front.{in_front, put_from}
use Rattle.router_start.specs.FrontLaws.{front-size, front-get, front-past, front-more}
use Rattle.router_start.specs.Table.{first_word, second_word, no_pair, Clear, Table, Fills, PutsOn, Row, TakesIn, StartsKept}

-- what two writers keep, both keep
pub kept_on : (m m' m'' : Notes) → StartsKept m m' → StartsKept m' m'' → StartsKept m m''
kept_on m m' m'' a b = (b.0 ∙ a.0, b.1 ∙ a.1, b.2 ∙ a.2, b.3 ∙ a.3, b.4 ∙ a.4)

-- ── the columns of a table ──
-- the next pair's word
word_more : (f : Pair → ℕ) (ps : List Pair) (p : Pair) (n : ℕ) (now before : List ℕ) → n ≡ length ps → n < length before
    → now ≡ in_front (map f ps) before → set now n (f p) ≡ in_front (map f (ps ++ (p ∷ []))) before
word_more f ps p n now before e h q =
    rw (q, map-append f ps (p ∷ [])) (front-more (map f ps) before n (f p) (length-map ps f ∙ sym e) h)

-- the next number
rising_end : (i n : ℕ) → rising i (suc n) ≡ rising i n ++ ((i + n) ∷ [])
rising_end i zero = let z : i + 0 ≡ i = omega arith in rw z refl
rising_end i (suc n) = let z : suc i + n ≡ i + suc n = omega arith in rw (← z) (ap (λ (l : List ℕ). i ∷ l) (rising_end (suc i) n))

length_numbers : (i n : ℕ) → length (rising i n) ≡ n
length_numbers i zero = refl
length_numbers i (suc n) = ap suc (length_numbers (suc i) n)

get_d_numbers : (i n k : ℕ) → k < n → get_or (rising i n) k 0 ≡ i + k
get_d_numbers i zero k h = absurd (omega arith)
get_d_numbers i (suc n) zero h = omega arith
get_d_numbers i (suc n) (suc k) h = let z : i + suc k ≡ suc i + k = omega arith in rw z (get_d_numbers (suc i) n k (omega arith))

number_more : (ps : List Pair) (p : Pair) (n : ℕ) (now before : List ℕ) → n ≡ length ps → n < length before → now ≡ in_front (up_to (length ps)) before
    → set now n n ≡ in_front (up_to (length (ps ++ (p ∷ [])))) before
number_more ps p n now before e h q =
    let l : length (ps ++ (p ∷ [])) ≡ suc n = rw length-append (omega arith) in
    let z : 0 + n ≡ n = omega arith in
    let t : up_to (length (ps ++ (p ∷ []))) ≡ up_to n ++ (n ∷ []) = ap up_to l ∙ (rising_end 0 n ∙ ap (λ (m : ℕ). up_to n ++ (m ∷ [])) z) in
    rw (q, ← e) (front-more (up_to n) before n n (length_numbers 0 n) h ∙ ap (λ (xs : List ℕ). in_front xs before) (sym t))

-- ── row by row ──
module _ {la₀ lb₀ ids₀ s1₀ s2₀ : List ℕ} (C : Clear la₀ lb₀ ids₀ s1₀ s2₀) {ps : List Pair} {k : ℕ} {la lb ids s1 s2 : List ℕ} (few : k < 64)
    (F : Fills ps k la₀ lb₀ ids₀ s1₀ s2₀ la lb ids s1 s2) {la' lb' ids' s1' s2' : List ℕ} where
  pub fills-row : (p : Pair) → Row p k la lb ids s1 s2 la' lb' ids' s1' s2'
      → Fills (ps ++ (p ∷ [])) (k + 1) la₀ lb₀ ids₀ s1₀ s2₀ la' lb' ids' s1' s2'
  fills-row p R = record {
    count = omega (arith, F.count, length-append ps (p ∷ []));
    la_is = R.la_is ∙ word_more first_word ps p k la la₀ F.count (omega (arith, C.la_size)) F.la_is;
    lb_is = R.lb_is ∙ word_more second_word ps p k lb lb₀ F.count (omega (arith, C.lb_size)) F.lb_is;
    ids_is = R.ids_is ∙ number_more ps p k ids ids₀ F.count (omega (arith, C.ids_size)) F.ids_is;
    s1_is = R.s1_is ∙ word_more first_word ps p k s1 s1₀ F.count (omega (arith, C.s1_size)) F.s1_is;
    s2_is = R.s2_is ∙ word_more second_word ps p k s2 s2₀ F.count (omega (arith, C.s2_size)) F.s2_is;
  }

  pub fills-place : (h : Held) {r : ℕ} → TakesIn h k la lb ids s1 s2 r la' lb' ids' s1' s2'
      → Fills (ps ++ held_then h []) r la₀ lb₀ ids₀ s1₀ s2₀ la' lb' ids' s1' s2'
  fills-place None t = rw (append-nil ps, t.0) (record {
    count = F.count;
    la_is = t.1 ∙ F.la_is;
    lb_is = t.2 ∙ F.lb_is;
    ids_is = t.3 ∙ F.ids_is;
    s1_is = t.4 ∙ F.s1_is;
    s2_is = t.5 ∙ F.s2_is;
  })
  fills-place (Some p) t = rw t.0 (fills-row p t.1)

-- ── a loop over the places ──
then_append : (h : Held) (ps qs : List Pair) → held_then h (ps ++ qs) ≡ held_then h ps ++ qs
then_append None ps qs = refl
then_append (Some p) ps qs = refl

pub pairs_more : (nets : List Held) (i : ℕ) → i < length nets
    → pairs_of (take (i + 1) nets) ≡ pairs_of (take i nets) ++ held_then (get_or nets i nothing) []
unfolding pairs_of
pairs_more [] i h = absurd (omega arith)
pairs_more (p ∷ nets) zero h = refl
pairs_more (p ∷ nets) (suc i) h = rw add-one (ap (held_then p) (rw add-one at (pairs_more nets i (omega arith)))
    ∙ then_append p (pairs_of (take i nets)) (held_then (get_or nets i nothing) []))

then_few : (h : Held) (ps : List Pair) (i : ℕ) → length ps ≤ i → length (held_then h ps) ≤ suc i
then_few None ps i l = omega arith
then_few (Some e) ps i l = omega arith

pub pairs_few : (nets : List Held) (i : ℕ) → length (pairs_of (take i nets)) ≤ i
unfolding pairs_of
pairs_few nets zero = omega arith
pairs_few [] (suc i) = omega arith
pairs_few (p ∷ nets) (suc i) = then_few p (pairs_of (take i nets)) i (pairs_few nets i)

pub fills_none : (nets : List Held) (la lb ids s1 s2 : List ℕ) → Fills (pairs_of (take 0 nets)) 0 la lb ids s1 s2 la lb ids s1 s2
unfolding pairs_of
fills_none nets la lb ids s1 s2 = record { count = refl; la_is = refl; lb_is = refl; ids_is = refl; s1_is = refl; s2_is = refl }

-- ── more pairs after those that are in ──
put_snoc : (xs : List ℕ) (k x : ℕ) (a : List ℕ) → put_from k (xs ++ (x ∷ [])) a ≡ set (put_from k xs a) (k + length xs) x
put_snoc [] k x a = let z : k + 0 ≡ k = omega arith in rw z refl
put_snoc (y ∷ xs) k x a = let z : k + suc (length xs) ≡ suc k + length xs = omega arith in rw z (put_snoc xs (suc k) x (set a k y))

pub puts_none : (hs : List Pair) (k : ℕ) (la lb ids s1 s2 : List ℕ) → PutsOn (take 0 hs) k la lb ids s1 s2 (k + 0) la lb ids s1 s2
puts_none hs k la lb ids s1 s2 = record { count = refl; la_is = refl; lb_is = refl; ids_is = refl; s1_is = refl; s2_is = refl }

module _ (hs : List Pair) (k i : ℕ) (h : i < length hs) where
  taken : length (take i hs) ≡ i
  taken = length-take-le i hs (omega arith)

  next : take (i + 1) hs ≡ take i hs ++ (get_or hs i no_pair ∷ [])
  next = rw add-one (take-suc hs i no_pair h)

  counted : length (take (i + 1) hs) ≡ suc i
  counted = ap length next ∙ rw (length-append, taken) (omega arith)

  word-put : (f : Pair → ℕ) (a now : List ℕ) → now ≡ put_from k (map f (take i hs)) a
      → set now (k + i) (f (get_or hs i no_pair)) ≡ put_from k (map f (take (i + 1) hs)) a
  word-put f a now e =
      let x = f (get_or hs i no_pair) in
      let l : length (map f (take i hs)) ≡ i = length-map (take i hs) f ∙ taken in
      ap (λ (m : List ℕ). set m (k + i) x) e
      ∙ ap (λ (n : ℕ). set (put_from k (map f (take i hs)) a) (k + n) x) (sym l)
      ∙ sym (put_snoc (map f (take i hs)) k x a)
      ∙ ap (λ (m : List ℕ). put_from k m a) (sym (ap (map f) next ∙ map-append f (take i hs) (get_or hs i no_pair ∷ [])))

  number_put : (a now : List ℕ) → now ≡ put_from k (rising k (length (take i hs))) a
      → set now (k + i) (k + i) ≡ put_from k (rising k (length (take (i + 1) hs))) a
  number_put a now e =
      ap (λ (m : List ℕ). set m (k + i) (k + i)) (e ∙ ap (λ (n : ℕ). put_from k (rising k n) a) taken)
      ∙ ap (λ (n : ℕ). set (put_from k (rising k i) a) (k + n) (k + i)) (sym (length_numbers k i))
      ∙ sym (put_snoc (rising k i) k (k + i) a)
      ∙ ap (λ (m : List ℕ). put_from k m a) (sym (ap (rising k) counted ∙ rising_end k i))

  pub puts-more : {la lb ids s1 s2 la' lb' ids' s1' s2' la'' lb'' ids'' s1'' s2'' : List ℕ}
      → PutsOn (take i hs) k la lb ids s1 s2 (k + i) la' lb' ids' s1' s2'
      → Row (get_or hs i no_pair) (k + i) la' lb' ids' s1' s2' la'' lb'' ids'' s1'' s2''
      → PutsOn (take (i + 1) hs) k la lb ids s1 s2 (k + (i + 1)) la'' lb'' ids'' s1'' s2''
  puts-more P R = record {
    count = omega (arith, counted);
    la_is = R.la_is ∙ word-put first_word _ _ P.la_is;
    lb_is = R.lb_is ∙ word-put second_word _ _ P.lb_is;
    ids_is = R.ids_is ∙ number_put _ _ P.ids_is;
    s1_is = R.s1_is ∙ word-put first_word _ _ P.s1_is;
    s2_is = R.s2_is ∙ word-put second_word _ _ P.s2_is;
  }

-- behind the pairs that a table holds
fills_on : (hs ps : List Pair) (k : ℕ) → k + length hs ≤ 64 → {la₀ lb₀ ids₀ s1₀ s2₀ la lb ids s1 s2 : List ℕ} → Clear la₀ lb₀ ids₀ s1₀ s2₀
    → Fills ps k la₀ lb₀ ids₀ s1₀ s2₀ la lb ids s1 s2
    → Fills (ps ++ hs) (k + length hs) la₀ lb₀ ids₀ s1₀ s2₀ (put_from k (map first_word hs) la) (put_from k (map second_word hs) lb)
    (put_from k (rising k (length hs)) ids) (put_from k (map first_word hs) s1) (put_from k (map second_word hs) s2)
fills_on [] ps k b C F = let z : k + 0 ≡ k = omega arith in rw (append-nil ps, z) F
fills_on (h ∷ hs) ps k b C F =
    let z : k + suc (length hs) ≡ suc k + length hs = omega arith in
    let row = fills-row C (omega arith) F h (record { la_is = refl; lb_is = refl; ids_is = refl; s1_is = refl; s2_is = refl }) in
    rw (z, ← append_assoc ps (h ∷ []) hs) (fills_on hs (ps ++ (h ∷ [])) (suc k) (omega arith) C (rw add-one at row))

pub puts_fill : (hs : List Pair) (k : ℕ) → k + length hs ≤ 64 → {la lb ids s1 s2 la' lb' ids' s1' s2' : List ℕ} {r : ℕ}
    → PutsOn hs k la lb ids s1 s2 r la' lb' ids' s1' s2' → {ps : List Pair} {la₀ lb₀ ids₀ s1₀ s2₀ : List ℕ} → Clear la₀ lb₀ ids₀ s1₀ s2₀
    → Fills ps k la₀ lb₀ ids₀ s1₀ s2₀ la lb ids s1 s2 → Fills (ps ++ hs) r la₀ lb₀ ids₀ s1₀ s2₀ la' lb' ids' s1' s2'
puts_fill hs k b P {ps} C F = rw (P.count, P.la_is, P.lb_is, P.ids_is, P.s1_is, P.s2_is) (fills_on hs ps k b C F)

-- ── the rows of a table that is filled ──
module _ {la lb ids s1 s2 : List ℕ} (C : Clear la lb ids s1 s2) {ps : List Pair} {n : ℕ} (few : n ≤ 64) {la' lb' ids' s1' s2' : List ℕ}
    (F : Fills ps n la lb ids s1 s2 la' lb' ids' s1' s2') where
  room : (xs before : List ℕ) → length xs ≡ length ps → length before ≡ pair_limit → length xs ≤ length before
  room xs before e s = omega (arith, F.count)

  word_at : (f : Pair → ℕ) → f no_pair ≡ 0 → (now before : List ℕ) → now ≡ in_front (map f ps) before → (i : ℕ) → i < n
      → get_or now i 0 ≡ f (get_or ps i no_pair)
  word_at f z now before e i l =
      rw e (front-get (map f ps) before i (omega (arith, F.count, length-map ps f))
      ∙ subst (λ (d : ℕ). get_or (map f ps) i d ≡ f (get_or ps i no_pair)) z (get_or-map f ps i no_pair))

  word_size : (f : Pair → ℕ) (now before : List ℕ) → now ≡ in_front (map f ps) before → length before ≡ pair_limit → length now ≡ pair_limit
  word_size f now before e s = rw e (front-size (map f ps) before (room (map f ps) before (length-map ps f) s) ∙ s)

  number_at : (i : ℕ) → i < n → get_or ids' i 0 ≡ i
  number_at i l =
      rw F.ids_is (front-get (up_to (length ps)) ids i (omega (arith, F.count, length_numbers 0 (length ps)))
      ∙ (get_d_numbers 0 (length ps) i (omega (arith, F.count)) ∙ omega arith))

  low : Low ids'
  low k = elim (le_or_lt n k) [
    | inl h ↦ omega (
      arith,
      C.low k,
      ap (λ (l : List ℕ). get_or l k 0) F.ids_is,
      front-past (up_to (length ps)) ids k (omega (arith, F.count, length_numbers 0 (length ps))),
    )
    | inr h ↦ omega (arith, number_at k h)
  ]

  pub fills-table : Table ps n la' lb' ids' s1' s2'
  fills-table = record {
    count = F.count;
    first = word_at first_word refl la' la F.la_is;
    second = word_at second_word refl lb' lb F.lb_is;
    number = number_at;
    made_first = λ i l. word_at first_word refl s1' s1 F.s1_is i l ∙ sym (word_at first_word refl la' la F.la_is i l);
    made_second = λ i l. word_at second_word refl s2' s2 F.s2_is i l ∙ sym (word_at second_word refl lb' lb F.lb_is i l);
    clear = record {
      low = low;
      la_size = word_size first_word la' la F.la_is C.la_size;
      lb_size = word_size second_word lb' lb F.lb_is C.lb_size;
      ids_size =
          rw F.ids_is (front-size (up_to (length ps)) ids (room (up_to (length ps)) ids (length_numbers 0 (length ps)) C.ids_size) ∙ C.ids_size);
      s1_size = word_size first_word s1' s1 F.s1_is C.s1_size;
      s2_size = word_size second_word s2' s2 F.s2_is C.s2_size;
    };
  }
