-- A net put in and a net taken out: which numbers are held, which nets are recorded, and how many terminals stand at a vertex.
-- Assumes nothing.
use Rattle.std.specs.Prelude.{◌≡◌, refl, Bool, true, false, cond, ◌||◌, List, [], ◌∷◌, ℕ, ◌+◌, ◌≤◌, eqb, ltb}
use Rattle.std.proofs.Common.{ap, sym, ◌∙◌, arith, eq-eqb, eqb-true}
use Rattle.std.proofs.Math.Option.{Option, some}
use Rattle.count.specs.TruthLaws.{or_left, or_right, or_false}
use Rattle.board.specs.declared.Vertex.{Vertex}
use Rattle.net.specs.Terminals.{ends, terminals}
use Rattle.net.specs.Same.{same_self}
use Rattle.net.specs.declared.Net.{Net}
use Rattle.session_rules.specs.Session.{pairs, holds, insert, remove, net_of, same_net, recorded}

-- ── the numbers held ──
or_swap : (a b c : Bool) → a || (b || c) ≡ b || (a || c)
or_swap true true c = refl
or_swap true false c = refl
or_swap false b c = refl

holds_cond : (t : Bool) (k : ℕ) (n m : Net) (ms ns : List Net) → holds k ns ≡ eqb n.number k || holds k ms
    → holds k (cond t (n ∷ (m ∷ ms)) (m ∷ ns)) ≡ eqb n.number k || holds k (m ∷ ms)
unfolding holds
holds_cond true k n m ms ns e = refl
holds_cond false k n m ms ns e = rw e (or_swap (eqb m.number k) (eqb n.number k) (holds k ms))

pub holds_insert : (k : ℕ) (n : Net) (ns : List Net) → holds k (insert n ns) ≡ eqb n.number k || holds k ns
unfolding insert holds
holds_insert k n [] = refl
holds_insert k n (m ∷ ms) = holds_cond (ltb n.number m.number) k n m ms (insert n ms) (holds_insert k n ms)

removed_cond : (t : Bool) (k : ℕ) (m : Net) (ns : List Net) → eqb m.number k ≡ t → holds k ns ≡ false → holds k (cond t ns (m ∷ ns)) ≡ false
unfolding holds
removed_cond true k m ns d e = e
removed_cond false k m ns d e = rw (d, e) refl

pub holds_removed : (k : ℕ) (ns : List Net) → holds k (remove k ns) ≡ false
unfolding remove holds
holds_removed k [] = refl
holds_removed k (m ∷ ms) = removed_cond (eqb m.number k) k m (remove k ms) refl (holds_removed k ms)

-- ── the net of a number ──
net_of_cond : (t : Bool) (k : ℕ) (m n : Net) (x : Option Net) → eqb m.number k ≡ t → (x ≡ some n → n.number ≡ k) → cond t (some m) x ≡ some n
    → n.number ≡ k
net_of_cond true k m n x d f e = let g : m ≡ n = cc in ap (λ (p : Net). p.number) (sym g) ∙ eqb-true m.number k d
net_of_cond false k m n x d f e = f e

pub net_of_number : (k : ℕ) (ns : List Net) (n : Net) → net_of k ns ≡ some n → n.number ≡ k
unfolding net_of
net_of_number k [] n e = let z : ◌≡◌ {A = ℕ} 0 1 = cc in absurd (omega arith)
net_of_number k (m ∷ ms) n e = net_of_cond (eqb m.number k) k m n (net_of k ms) refl (net_of_number k ms n) e

net_of_held : (t : Bool) (m n : Net) (x : Option Net) (h : Bool) → (x ≡ some n → h ≡ true) → cond t (some m) x ≡ some n → t || h ≡ true
net_of_held true m n x h f e = refl
net_of_held false m n x h f e = f e

pub net_of_holds : (k : ℕ) (ns : List Net) (n : Net) → net_of k ns ≡ some n → holds k ns ≡ true
unfolding net_of holds
net_of_holds k [] n e = let z : ◌≡◌ {A = ℕ} 0 1 = cc in absurd (omega arith)
net_of_holds k (m ∷ ms) n e = net_of_held (eqb m.number k) m n (net_of k ms) (holds k ms) (net_of_holds k ms n) e

-- ── recorded ──
net_itself : (n : Net) → same_net n n ≡ true
net_itself n = rw (eq-eqb n.number n.number refl, same_self n.ends.first, same_self n.ends.second) refl

recorded_cond : (t : Bool) (n m : Net) (ms ns : List Net) → recorded n ns ≡ true → recorded n (cond t (n ∷ (m ∷ ms)) (m ∷ ns)) ≡ true
unfolding recorded
recorded_cond true n m ms ns e = or_left (same_net n n) (recorded n (m ∷ ms)) (net_itself n)
recorded_cond false n m ms ns e = or_right (same_net n m) (recorded n ns) e

pub recorded_insert : (n : Net) (ns : List Net) → recorded n (insert n ns) ≡ true
unfolding insert recorded
recorded_insert n [] = or_left (same_net n n) false (net_itself n)
recorded_insert n (m ∷ ms) = recorded_cond (ltb n.number m.number) n m ms (insert n ms) (recorded_insert n ms)

-- ── terminals ──
terminals_cond : (t : Bool) (n m : Net) (ms ns : List Net) (v : Vertex) → terminals (pairs ns) v ≡ ends n.ends v + terminals (pairs ms) v
    → terminals (pairs (cond t (n ∷ (m ∷ ms)) (m ∷ ns))) v ≡ ends n.ends v + terminals (pairs (m ∷ ms)) v
unfolding terminals
terminals_cond true n m ms ns v e = refl
terminals_cond false n m ms ns v e = omega (arith, e)

pub terminals_insert : (n : Net) (ns : List Net) (v : Vertex) → terminals (pairs (insert n ns)) v ≡ ends n.ends v + terminals (pairs ns) v
unfolding insert terminals
terminals_insert n [] v = refl
terminals_insert n (m ∷ ms) v = terminals_cond (ltb n.number m.number) n m ms (insert n ms) v (terminals_insert n ms v)

fewer_cond : (t : Bool) (m : Net) (ms ns : List Net) (v : Vertex) → terminals (pairs ns) v ≤ terminals (pairs ms) v
    → terminals (pairs (cond t ns (m ∷ ns))) v ≤ terminals (pairs (m ∷ ms)) v
unfolding terminals
fewer_cond true m ms ns v e = omega (arith, e)
fewer_cond false m ms ns v e = omega (arith, e)

pub terminals_remove : (k : ℕ) (ns : List Net) (v : Vertex) → terminals (pairs (remove k ns)) v ≤ terminals (pairs ns) v
unfolding remove
terminals_remove k [] v = omega arith
terminals_remove k (m ∷ ms) v = fewer_cond (eqb m.number k) m ms (remove k ms) v (terminals_remove k ms v)

-- ── what was put in and taken out again ──
absent_cond : (t : Bool) (m : Net) (ms ns : List Net) → t ≡ false → ns ≡ ms → cond t ns (m ∷ ns) ≡ m ∷ ms
absent_cond t m ms ns e f = rw (e, f) refl

pub remove_absent : (k : ℕ) (ns : List Net) → holds k ns ≡ false → remove k ns ≡ ns
unfolding remove holds
remove_absent k [] h = refl
remove_absent k (m ∷ ms) h =
    let o = or_false (eqb m.number k) (holds k ms) h in
    absent_cond (eqb m.number k) m ms (remove k ms) o.0 (remove_absent k ms o.1)

undo_cond : (t : Bool) (n m : Net) (ms ns : List Net) → eqb m.number n.number ≡ false → remove n.number (m ∷ ms) ≡ m ∷ ms
    → remove n.number ns ≡ ms
    → remove n.number (cond t (n ∷ (m ∷ ms)) (m ∷ ns)) ≡ m ∷ ms
unfolding remove
undo_cond true n m ms ns d e f = rw (eq-eqb n.number n.number refl) e
undo_cond false n m ms ns d e f = rw (d, f) refl

pub remove_insert : (n : Net) (ns : List Net) → holds n.number ns ≡ false → remove n.number (insert n ns) ≡ ns
unfolding insert remove holds
remove_insert n [] h = rw (eq-eqb n.number n.number refl) refl
remove_insert n (m ∷ ms) h =
    let o = or_false (eqb m.number n.number) (holds n.number ms) h in
    undo_cond (ltb n.number m.number) n m ms (insert n ms) o.0 (remove_absent n.number (m ∷ ms) h) (remove_insert n ms o.1)
