-- The nets of an array of places: which number is held, and the nets after a place is filled or emptied.
-- Each law is for places that are numbered from k, and number n at index i, n = k + i.
-- Assumes nothing.
use Rattle.std.specs.Prelude.{◌≡◌, refl, Bool, true, false, cond, ◌||◌, List, [], ◌∷◌, ℕ, zero, suc, ◌+◌, ◌<◌, ◌≤◌, eqb, length, get_or, set, replicate, None, Some}
use Rattle.std.proofs.Common.{ap, sym, ◌∙◌, arith, lt-ltb, le-ltb, eq-eqb, ne_eqb}
use Rattle.std.proofs.Math.Option.{none, some}
use Rattle.net.specs.View.{Held, nothing, held_then, pairs_of}
use Rattle.net.specs.declared.Pair.{Pair}
use Rattle.net.specs.declared.Net.{Net}
use Rattle.session_rules.specs.Session.{pairs, holds, insert, remove, net_of, recorded}
use Rattle.session_rules.specs.Sound.{rising?}
use Rattle.net_places.specs.Numbered.{replaced}
use Rattle.net_places.specs.Places.{net, holding, held_net, nets_from, nets_of, place_at}
use Rattle.net_places.specs.Nets.{held_as, is_held, same_pair, held_same, is_some}

-- ── their terminals ──
pairs_held : (k : ℕ) (h : Held) (ns : List Net) → pairs (held_net k h ns) ≡ held_then h (pairs ns)
pairs_held k None ns = refl
pairs_held k (Some e) ns = refl

pairs-from : (k : ℕ) (ps : List Held) → pairs (nets_from k ps) ≡ pairs_of ps
unfolding nets_from pairs_of
pairs-from k [] = refl
pairs-from k (p ∷ ps) = pairs_held k p (nets_from (suc k) ps) ∙ ap (held_then p) (pairs-from (suc k) ps)

pub pairs-of : (ps : List Held) → pairs (nets_of ps) ≡ pairs_of ps
unfolding nets_of
pairs-of ps = pairs-from 1 ps

net_other : (k n : ℕ) (h : Held) (ns : List Net) → (k ≡ n → ⊥) → net_of n (held_net k h ns) ≡ net_of n ns
unfolding net_of
net_other k n None ns d = refl
net_other k n (Some e) ns d = rw (ne_eqb k n d) refl

net_below : (k n : ℕ) (ps : List Held) → n < k → net_of n (nets_from k ps) ≡ none
unfolding nets_from net_of
net_below k n [] h = refl
net_below k n (p ∷ ps) h = net_other k n p (nets_from (suc k) ps) (λ e. omega arith) ∙ net_below (suc k) n ps (omega arith)

net_here : (k : ℕ) (h : Held) (ns : List Net) → net_of k ns ≡ none → net_of k (held_net k h ns) ≡ held_as k h
unfolding net_of
net_here k None ns e = e
net_here k (Some p) ns e = rw (eq-eqb k k refl) refl

net_from : (k i n : ℕ) (ps : List Held) → n ≡ k + i → net_of n (nets_from k ps) ≡ held_as n (get_or ps i nothing)
unfolding nets_from net_of
net_from k i n [] e = refl
net_from k zero n (p ∷ ps) e =
    let f : n ≡ k = omega arith in
    rw f (net_here k p (nets_from (suc k) ps) (net_below (suc k) k ps (omega arith)))
net_from k (suc i) n (p ∷ ps) e =
    net_other k n p (nets_from (suc k) ps) (λ d. omega arith) ∙ net_from (suc k) i n ps (omega arith)

pub net-of : (ps : List Held) (n : ℕ) → net_of n (nets_of ps) ≡ held_as n (place_at ps n)
unfolding nets_of
net-of ps zero = net_below 1 0 ps (omega arith)
net-of ps (suc i) = net_from 1 i (suc i) ps (omega arith)

pub holds_by : (k : ℕ) (ns : List Net) → holds k ns ≡ is_some (net_of k ns)
unfolding holds net_of
holds_by k [] = refl
holds_by k (n ∷ ns) = go (eqb n.number k) (holds_by k ns)
  where
    go : (b : Bool) → holds k ns ≡ is_some (net_of k ns) → b || holds k ns ≡ is_some (cond b (some n) (net_of k ns))
    go true e = refl
    go false e = e

some_held : (n : ℕ) (h : Held) → is_some (held_as n h) ≡ is_held h
some_held n None = refl
some_held n (Some e) = refl

pub holds_of : (ps : List Held) (n : ℕ) → holds n (nets_of ps) ≡ is_held (place_at ps n)
holds_of ps n = holds_by n (nets_of ps) ∙ ap is_some (net-of ps n) ∙ some_held n (place_at ps n)

recorded_other : (k : ℕ) (n : Net) (h : Held) (ns : List Net) → (n.number ≡ k → ⊥) → recorded n (held_net k h ns) ≡ recorded n ns
unfolding recorded
recorded_other k n None ns d = refl
recorded_other k n (Some e) ns d = rw (ne_eqb n.number k d) refl

recorded_below : (k : ℕ) (n : Net) (ps : List Held) → n.number < k → recorded n (nets_from k ps) ≡ false
unfolding nets_from recorded
recorded_below k n [] h = refl
recorded_below k n (p ∷ ps) h = recorded_other k n p (nets_from (suc k) ps) (λ e. omega arith) ∙ recorded_below (suc k) n ps (omega arith)

or_none : (b : Bool) → b || false ≡ b
or_none true = refl
or_none false = refl

recorded_here : (k : ℕ) (n : Net) (h : Held) (ns : List Net) → n.number ≡ k → recorded n ns ≡ false
    → recorded n (held_net k h ns) ≡ held_same n.ends h
unfolding recorded
recorded_here k n None ns d e = e
recorded_here k n (Some p) ns d e = rw (eq-eqb n.number k d, e) (or_none (same_pair n.ends p))

recorded_from : (k i : ℕ) (n : Net) (ps : List Held) → n.number ≡ k + i → recorded n (nets_from k ps) ≡ held_same n.ends (get_or ps i nothing)
unfolding nets_from recorded
recorded_from k i n [] e = refl
recorded_from k zero n (p ∷ ps) e =
    recorded_here k n p (nets_from (suc k) ps) (omega arith) (recorded_below (suc k) n ps (omega arith))
recorded_from k (suc i) n (p ∷ ps) e =
    recorded_other k n p (nets_from (suc k) ps) (λ d. omega arith) ∙ recorded_from (suc k) i n ps (omega arith)

pub recorded_of : (ps : List Held) (n : Net) → recorded n (nets_of ps) ≡ held_same n.ends (place_at ps n.number)
unfolding nets_of
recorded_of ps n = go n.number refl
  where
    go : (m : ℕ) → n.number ≡ m → recorded n (nets_of ps) ≡ held_same n.ends (place_at ps m)
    go zero e = recorded_below 1 n ps (omega arith)
    go (suc i) e = recorded_from 1 i n ps (omega arith)

-- ── a place is filled: the net goes in ──
insert_past : (k : ℕ) (n : Net) (h : Held) (ns : List Net) → k < n.number → insert n (held_net k h ns) ≡ held_net k h (insert n ns)
unfolding insert
insert_past k n None ns d = refl
insert_past k n (Some e) ns d = rw (le-ltb n.number k (omega arith)) refl

insert_front : (k : ℕ) (n : Net) (h : Held) (ns : List Net) → n.number < k → insert n ns ≡ n ∷ ns → insert n (held_net k h ns) ≡ n ∷ held_net k h ns
unfolding insert
insert_front k n None ns d e = e
insert_front k n (Some p) ns d e = rw (lt-ltb n.number k d) refl

insert_below : (k : ℕ) (n : Net) (ps : List Held) → n.number < k → insert n (nets_from k ps) ≡ n ∷ nets_from k ps
unfolding nets_from insert
insert_below k n [] h = refl
insert_below k n (p ∷ ps) h = insert_front k n p (nets_from (suc k) ps) h (insert_below (suc k) n ps (omega arith))

-- an empty place adds no net
empty_place : (k : ℕ) (h : Held) (ns : List Net) → is_held h ≡ false → held_net k h ns ≡ ns
empty_place k None ns e = refl
empty_place k (Some p) ns e = absurd (let z : ◌≡◌ {A = ℕ} 0 1 = cc in omega arith)

insert_from : (k i n : ℕ) (ps : List Held) (e : Pair) → n ≡ k + i → i < length ps → is_held (get_or ps i nothing) ≡ false
    → nets_from k (set ps i (holding e)) ≡ insert (net n e) (nets_from k ps)
unfolding nets_from
insert_from k i n [] e q h f = absurd (omega arith)
insert_from k zero n (p ∷ ps) e q h f =
    let m : n ≡ k = omega arith in
    rw (m, empty_place k p (nets_from (suc k) ps) f) (sym (insert_below (suc k) (net k e) ps (omega arith)))
insert_from k (suc i) n (p ∷ ps) e q h f =
    ap (held_net k p) (insert_from (suc k) i n ps e (omega arith) (omega arith) f)
    ∙ sym (insert_past k (net n e) p (nets_from (suc k) ps) (omega arith))

pub insert_of : (ps : List Held) (n : Net) → 1 ≤ n.number → n.number ≤ length ps → holds n.number (nets_of ps) ≡ false
    → nets_of (replaced ps n.number (holding n.ends)) ≡ insert n (nets_of ps)
unfolding nets_of
insert_of ps n low high free = go n.number refl
  where
    go : (m : ℕ) → n.number ≡ m → nets_of (replaced ps m (holding n.ends)) ≡ insert n (nets_of ps)
    go zero e = absurd (omega arith)
    go (suc i) e =
        let f : is_held (place_at ps (suc i)) ≡ false = sym (holds_of ps (suc i)) ∙ (rw e at free) in
        let x : n ≡ net (suc i) n.ends = ap (λ (m : ℕ). net m n.ends) e in
        rw x (insert_from 1 i (suc i) ps n.ends (omega arith) (omega arith) f)

-- ── a place is emptied: the net of its number comes out ──
remove_past : (k n : ℕ) (h : Held) (ns : List Net) → (k ≡ n → ⊥) → remove n (held_net k h ns) ≡ held_net k h (remove n ns)
unfolding remove
remove_past k n None ns d = refl
remove_past k n (Some e) ns d = rw (ne_eqb k n d) refl

remove_below : (k n : ℕ) (ps : List Held) → n < k → remove n (nets_from k ps) ≡ nets_from k ps
unfolding nets_from remove
remove_below k n [] h = refl
remove_below k n (p ∷ ps) h =
    remove_past k n p (nets_from (suc k) ps) (λ e. omega arith) ∙ ap (held_net k p) (remove_below (suc k) n ps (omega arith))

remove_here : (k : ℕ) (h : Held) (ns : List Net) → remove k (held_net k h ns) ≡ remove k ns
unfolding remove
remove_here k None ns = refl
remove_here k (Some e) ns = rw (eq-eqb k k refl) refl

remove_from : (k i n : ℕ) (ps : List Held) → n ≡ k + i → nets_from k (set ps i nothing) ≡ remove n (nets_from k ps)
unfolding nets_from remove
remove_from k i n [] e = refl
remove_from k zero n (p ∷ ps) e =
    let f : n ≡ k = omega arith in
    rw f (sym (remove_here k p (nets_from (suc k) ps) ∙ remove_below (suc k) k ps (omega arith)))
remove_from k (suc i) n (p ∷ ps) e =
    ap (held_net k p) (remove_from (suc k) i n ps (omega arith)) ∙ sym (remove_past k n p (nets_from (suc k) ps) (λ d. omega arith))

pub remove_of : (ps : List Held) (n : ℕ) → nets_of (replaced ps n nothing) ≡ remove n (nets_of ps)
unfolding nets_of
remove_of ps zero = sym (remove_below 1 0 ps (omega arith))
remove_of ps (suc i) = remove_from 1 i (suc i) ps (omega arith)

-- ── no place is filled ──
none_held : (k n : ℕ) → nets_from k (replicate n nothing) ≡ []
unfolding nets_from
none_held k zero = refl
none_held k (suc n) = none_held (suc k) n

pub no-nets : (n : ℕ) → nets_of (replicate n nothing) ≡ []
unfolding nets_of
no-nets n = none_held 1 n

-- ── they stand in rising number ──
rising_held : (k : ℕ) (m : Net) (h : Held) (ns : List Net) → m.number < k → rising? (m ∷ ns) ≡ true → ((e : Pair) → rising? (net k e ∷ ns) ≡ true)
    → rising? (m ∷ held_net k h ns) ≡ true
unfolding rising?
rising_held k m None ns d e f = e
rising_held k m (Some p) ns d e f = rw (lt-ltb m.number k d) (f p)

rising_after : (k : ℕ) (m : Net) (ps : List Held) → m.number < k → rising? (m ∷ nets_from k ps) ≡ true
unfolding nets_from rising?
rising_after k m [] h = refl
rising_after k m (p ∷ ps) h =
    rising_held k m p (nets_from (suc k) ps) h (rising_after (suc k) m ps (omega arith)) (λ e. rising_after (suc k) (net k e) ps (omega arith))

rising_first : (k : ℕ) (h : Held) (ns : List Net) → rising? ns ≡ true → ((e : Pair) → rising? (net k e ∷ ns) ≡ true) → rising? (held_net k h ns) ≡ true
rising_first k None ns e f = e
rising_first k (Some p) ns e f = f p

rising_from : (k : ℕ) (ps : List Held) → rising? (nets_from k ps) ≡ true
unfolding nets_from rising?
rising_from k [] = refl
rising_from k (p ∷ ps) =
    rising_first k p (nets_from (suc k) ps) (rising_from (suc k) ps) (λ e. rising_after (suc k) (net k e) ps (omega arith))

pub rising_of : (ps : List Held) → rising? (nets_of ps) ≡ true
unfolding nets_of
rising_of ps = rising_from 1 ps
