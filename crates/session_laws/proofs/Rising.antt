-- Nets in rising number: putting one in and taking one out keep it, and a net that was taken out goes back to its place.
-- Assumes nothing.
use Rattle.session_laws.specs.Rising.{From}
use Rattle.std.specs.Prelude.{◌≡◌, refl, Bool, true, false, cond, ◌||◌, List, [], ◌∷◌, ℕ, suc, ◌≤◌, ◌<◌, eqb, ltb}
use Rattle.std.proofs.Common.{sym, inl, inr, arith, ltb-true, ltb-false, eqb-true, lt-ltb, le-ltb, ne_eqb}
use Rattle.std.proofs.Math.Option.{some}
use Rattle.std.proofs.lemmas.Bool.{eqb-false}
use Rattle.count.specs.TruthLaws.{bool, clash, and_true, le_or_lt}
use Rattle.net.specs.declared.Net.{Net}
use Rattle.session_rules.specs.Session.{holds, insert, remove, net_of}
use Rattle.session_rules.specs.Sound.{rising?}
use Rattle.session_laws.proofs.Insert.{net_of_number, net_of_holds, remove_absent}

-- ── the test of it ──
from_after : (m : Net) (ns : List Net) → rising? (m ∷ ns) ≡ true → From (suc m.number) ns
unfolding rising?
from_after m [] e = tt
from_after m (n ∷ ns) e =
    let t = and_true (ltb m.number n.number) (rising? (n ∷ ns)) e in
    let l : m.number < n.number = ltb-true m.number n.number t.0 in
    (omega arith, from_after n ns t.1)

after_from : (m : Net) (ns : List Net) → From (suc m.number) ns → rising? (m ∷ ns) ≡ true
unfolding rising?
after_from m [] f = refl
after_from m (n ∷ ns) f = let l = f.0 in rw (lt-ltb m.number n.number (omega arith)) (after_from n ns f.1)

pub rising_from : (ns : List Net) → rising? ns ≡ true → From 0 ns
rising_from [] e = tt
rising_from (n ∷ ns) e = (omega arith, from_after n ns e)

pub from_rising : (ns : List Net) → From 0 ns → rising? ns ≡ true
unfolding rising?
from_rising [] f = refl
from_rising (n ∷ ns) f = after_from n ns f.1

-- ── numbers below ──
pub from_less : (k l : ℕ) (ns : List Net) → l ≤ k → From k ns → From l ns
from_less k l [] h f = tt
from_less k l (n ∷ ns) h f = let g = f.0 in (omega arith, f.1)

pub none_below : (k j : ℕ) (ns : List Net) → From k ns → j < k → holds j ns ≡ false
unfolding holds
none_below k j [] f h = refl
none_below k j (n ∷ ns) f h =
    let l = f.0 in
    rw (ne_eqb n.number j (λ e. omega arith)) (none_below (suc n.number) j ns f.1 (omega arith))

-- ── a net put in ──
insert_cond : (t : Bool) (k : ℕ) (n m : Net) (ms ns : List Net) → ltb n.number m.number ≡ t → k ≤ n.number → (n.number ≡ m.number → ⊥)
    → From k (m ∷ ms) → (m.number < n.number → From (suc m.number) ns) → From k (cond t (n ∷ (m ∷ ms)) (m ∷ ns))
insert_cond true k n m ms ns e h d f g = let l = ltb-true n.number m.number e in (h, (omega arith, f.1))
insert_cond false k n m ms ns e h d f g =
    let l : m.number ≤ n.number = ltb-false n.number m.number e in
    (f.0, g (omega arith))

apart_number : (a b : ℕ) (c : Bool) → eqb a b || c ≡ false → b ≡ a → ⊥
apart_number a b c h e = elim (bool (eqb a b)) [ inl t ↦ clash (rw t refl) h | inr t ↦ eqb-false a b t (sym e) ]

or_rest : (a b : Bool) → a || b ≡ false → b ≡ false
or_rest true b e = absurd (clash refl e)
or_rest false b e = e

pub from_insert : (k : ℕ) (n : Net) (ns : List Net) → k ≤ n.number → holds n.number ns ≡ false → From k ns → From k (insert n ns)
unfolding insert holds
from_insert k n [] h d f = (h, tt)
from_insert k n (m ∷ ms) h d f =
    insert_cond (ltb n.number m.number) k n m ms (insert n ms) refl h (apart_number m.number n.number (holds n.number ms) d) f
    (λ l. from_insert (suc m.number) n ms (omega arith) (or_rest (eqb m.number n.number) (holds n.number ms) d) f.1)

-- ── a net taken out ──
remove_cond : (t : Bool) (k : ℕ) (m : Net) (ns : List Net) → k ≤ m.number → From (suc m.number) ns → From k (cond t ns (m ∷ ns))
remove_cond true k m ns h f = from_less (suc m.number) k ns (omega arith) f
remove_cond false k m ns h f = (h, f)

pub from_remove : (k j : ℕ) (ns : List Net) → From k ns → From k (remove j ns)
unfolding remove
from_remove k j [] f = tt
from_remove k j (m ∷ ms) f = remove_cond (eqb m.number j) k m (remove j ms) f.0 (from_remove (suc m.number) j ms f.1)

-- ── a net taken out and put back ──
insert_first : (n : Net) (ns : List Net) → From (suc n.number) ns → insert n ns ≡ n ∷ ns
unfolding insert
insert_first n [] f = refl
insert_first n (m ∷ ms) f = let l = f.0 in rw (lt-ltb n.number m.number (omega arith)) refl

back_cond : (t : Bool) (j : ℕ) (n m : Net) (ms : List Net) → eqb m.number j ≡ t → From (suc m.number) ms → cond t (some m) (net_of j ms) ≡ some n
    → (net_of j ms ≡ some n → insert n (remove j ms) ≡ ms) → insert n (cond t (remove j ms) (m ∷ remove j ms)) ≡ m ∷ ms
unfolding insert
back_cond true j n m ms d f e g =
    let i : j ≡ m.number = sym (eqb-true m.number j d) in
    let same : n ≡ m = cc in
    rw (remove_absent j ms (none_below (suc m.number) j ms f (omega arith)), same) (insert_first m ms f)
back_cond false j n m ms d f e g =
    let k : n.number ≡ j = net_of_number j ms n e in
    let h : suc m.number ≤ j = elim (le_or_lt (suc m.number) j) [
      | inl h ↦ h
      | inr h ↦ absurd (clash (net_of_holds j ms n e) (none_below (suc m.number) j ms f h))
    ] in
    rw (le-ltb n.number m.number (omega arith), g e) refl

pub insert_remove : (k j : ℕ) (ns : List Net) (n : Net) → From k ns → net_of j ns ≡ some n → insert n (remove j ns) ≡ ns
unfolding remove net_of
insert_remove k j [] n f e = let z : ◌≡◌ {A = ℕ} 0 1 = cc in absurd (omega arith)
insert_remove k j (m ∷ ms) n f e = back_cond (eqb m.number j) j n m ms refl f.1 e (insert_remove (suc m.number) j ms n f.1)
