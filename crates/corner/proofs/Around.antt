-- The unit edges at a vertex: a walk uses evenly many of them, its own ends aside, and so do the trails of a list of pairs.
-- Assumes nothing.
use Rattle.std.specs.Prelude.{◌≡◌, refl, Bool, true, false, ◌&&◌, List, [], ◌∷◌, ℕ, zero, suc, ◌+◌, eqb}
use Rattle.std.proofs.Common.{ap, sym, inl, inr, arith, ne_eqb}
use Rattle.count.specs.Truth.{one}
use Rattle.board.specs.Board.{at}
use Rattle.board.specs.declared.Vertex.{Vertex}
use Rattle.net.specs.declared.Pair.{Pair}
use Rattle.net.specs.Terminals.{same}
use Rattle.count.specs.Parity.{Even}
use Rattle.count.specs.Bits.{and_bit, eqb_suc}
use Rattle.corner.specs.Pairs.{tally, standing}
use Rattle.corner.specs.Shape.{Shape, present, behind, deg}
use Rattle.corner.specs.Trails.{Link, hor, ver, lo, hi, same_link, joined, Walk, used, Trails, total}

-- ── edges at a vertex ──
-- how often the ends of the list's edges are x
unfoldable meets : Vertex → List Link → ℕ
meets x [] = 0
meets x (f ∷ es) = one (same x (lo f)) + one (same x (hi f)) + meets x es

walk_meets : (x u w : Vertex) (es : List Link) → Walk u es w → Even (meets x es + one (same x u) + one (same x w))
unfolding meets
walk_meets x u w [] h = (one (same x u), omega (arith, ap (λ v. one (same x v)) h))
walk_meets x u w (e ∷ es) (inl h) = let k = walk_meets x (hi e) w es h.1 in
    (k.0 + one (same x (lo e)), omega (arith, k.1, ap (λ v. one (same x v)) h.0))
walk_meets x u w (e ∷ es) (inr h) = let k = walk_meets x (lo e) w es h.1 in
    (k.0 + one (same x (hi e)), omega (arith, k.1, ap (λ v. one (same x v)) h.0))

-- a sum over the four unit edges at (l, c)
abbrev pub prior : (ℕ → ℕ) → ℕ → ℕ
prior f zero = 0
prior f (suc n) = f n

unfoldable pub around : (Link → ℕ) → ℕ → ℕ → ℕ
around g l c = g (hor l c) + g (ver l c) + prior (λ k. g (hor l k)) c + prior (λ k. g (ver k c)) l

around_add : (g h : Link → ℕ) (l c : ℕ) → around (λ e. g e + h e) l c ≡ around g l c + around h l c
unfolding around
around_add g h zero zero = omega arith
around_add g h zero (suc c) = omega arith
around_add g h (suc l) zero = omega arith
around_add g h (suc l) (suc c) = omega arith

pub around_ext : (g h : Link → ℕ) → ((e : Link) → g e ≡ h e) → (l c : ℕ) → around g l c ≡ around h l c
unfolding around
around_ext g h q l c = omega (arith, q (hor l c), q (ver l c), left c, up l)
  where
    left : (k : ℕ) → prior (λ j. g (hor l j)) k ≡ prior (λ j. h (hor l j)) k
    left zero = refl
    left (suc k) = q (hor l k)

    up : (k : ℕ) → prior (λ j. g (ver j c)) k ≡ prior (λ j. h (ver j c)) k
    up zero = refl
    up (suc k) = q (ver k c)

around_link : (f : Link) (l c : ℕ) → one (same (at l c) (lo f)) + one (same (at l c) (hi f)) ≡ around (λ e. one (same_link e f)) l c
unfolding around
around_link (hor m d) l c = omega (arith, left c, up l)
  where
    left : (k : ℕ) → one (eqb l m && eqb k (suc d)) ≡ prior (λ j. one (eqb l m && eqb j d)) k
    left zero = omega (arith, ap one (ne_eqb 0 (suc d) (λ e. omega arith)), and_bit (eqb l m) (eqb 0 (suc d)))
    left (suc k) = rw (eqb_suc k d)

    up : (k : ℕ) → ◌≡◌ {A = ℕ} (prior (λ j. 0) k) 0
    up zero = refl
    up (suc k) = refl
around_link (ver m d) l c = omega (arith, up l, left c)
  where
    up : (k : ℕ) → one (eqb k (suc m) && eqb c d) ≡ prior (λ j. one (eqb j m && eqb c d)) k
    up zero = omega (arith, ap one (ne_eqb 0 (suc m) (λ e. omega arith)), and_bit (eqb 0 (suc m)) (eqb c d))
    up (suc k) = rw (eqb_suc k m)

    left : (k : ℕ) → ◌≡◌ {A = ℕ} (prior (λ j. 0) k) 0
    left zero = refl
    left (suc k) = refl

around_zero : (l c : ℕ) → around (λ e. 0) l c ≡ 0
unfolding around
around_zero zero zero = refl
around_zero zero (suc c) = refl
around_zero (suc l) zero = refl
around_zero (suc l) (suc c) = refl

around_meets : (es : List Link) (l c : ℕ) → meets (at l c) es ≡ around (λ e. used e es) l c
unfolding meets used
around_meets [] l c = sym (around_zero l c)
around_meets (f ∷ es) l c = omega (arith, around_meets es l c, around_link f l c, around_add (λ e. one (same_link e f)) (λ e. used e es) l c)

-- the edges used at a vertex have the parity of its ends
pub used_even : (ps : List Pair) (ts : Trails ps) (l c : ℕ) → Even (around (λ e. total e ps ts) l c + standing (same (at l c)) ps)
unfolding total standing tally
used_even [] ts l c = (0, omega (arith, around_zero l c))
used_even (p ∷ ps) ts l c =
    let k = used_even ps ts.1 l c in
    let w = walk_meets (at l c) p.first p.second ts.0.0 ts.0.1 in
    (k.0 + w.0, omega (arith, k.1, w.1, around_meets ts.0.0 l c, around_add (λ e. used e ts.0.0) (λ e. total e ps ts.1) l c))

pub around_deg : (S : Shape) (l c : ℕ) → present S l c ≡ true → around (λ e. one (joined S e)) l c ≡ deg (present S) l c
unfolding around deg
around_deg S l c h = omega (arith, right, down, left c h, up l h)
  where
    right : one (present S l c && present S l (suc c)) ≡ one (present S l (suc c))
    right = rw h

    down : one (present S l c && present S (suc l) c) ≡ one (present S (suc l) c)
    down = rw h

    tail : (b : Bool) → one (b && true) ≡ one b
    tail true = refl
    tail false = refl

    left : (k : ℕ) → present S l k ≡ true → prior (λ j. one (present S l j && present S l (suc j))) k ≡ one (behind (present S l) k)
    left zero e = refl
    left (suc k) e = rw e (tail (present S l k))

    up : (k : ℕ) → present S k c ≡ true → prior (λ j. one (present S j c && present S (suc j) c)) k ≡ one (behind (λ j. present S j c) k)
    up zero e = refl
    up (suc k) e = rw e (tail (present S k c))
