-- The pile of a value: its length, its top, and the pile and the array after a change is laid on.
-- Assumes nothing.
use Rattle.std.specs.Prelude.{◌≡◌, refl, List, [], ◌∷◌, ◌++◌, Bool, true, false, cond, ℕ, zero, suc, ◌+◌, ◌-◌, ◌<◌, ◌≤◌, length, get_or, set, take, drop, ltb}
use Rattle.std.proofs.Common.{ap, sym, ◌∙◌, inl, inr, arith, add-one, length-append, length-drop, length-set, get_or-set_same, get_or-set_other, get_or-drop, take_all, lt-ltb, le-ltb}
use Rattle.std.proofs.Math.ListN.{get_or-append}
use Rattle.std.proofs.lemmas.List.{get_or_at}
use Rattle.count.specs.TruthLaws.{le_or_lt}
use Rattle.net.specs.declared.Change.{Change}
use Rattle.session_rules.specs.Machine.{lay}
use Rattle.net_places.specs.Numbered.{entry}
use Rattle.session_pile.specs.Pile.{past_end, changes_of, pile_of, top_of, lifted, laid}
use Rattle.session_pile.specs.declared.Pile.{Pile}

length_changes : (cs : List Change) (d : ℕ) → length (changes_of cs d) ≡ d
unfolding changes_of
length_changes cs zero = refl
length_changes cs (suc d) = ap suc (length_changes cs d)

pub length_pile : (p : Pile) → length (pile_of p) ≡ p.depth
unfolding pile_of
length_pile p = length_changes p.changes p.depth

-- the pile is its top and what is left when that is lifted
changes_top : (cs : List Change) (d : ℕ) → 0 < d → changes_of cs d ≡ entry cs d past_end ∷ changes_of cs (d - 1)
unfolding changes_of
changes_top cs zero h = absurd (omega arith)
changes_top cs (suc d) h = let e : suc d - 1 ≡ d = omega arith in rw e refl

pub pile_top : (p : Pile) → 0 < p.depth → pile_of p ≡ top_of p ∷ pile_of (lifted p)
unfolding pile_of
pile_top p h = changes_top p.changes p.depth h

pub pile_empty : (p : Pile) → p.depth ≡ 0 → pile_of p ≡ []
unfolding pile_of changes_of
pile_empty p e = rw e refl

-- ── a change is laid on ──
changes_same : (cs ds : List Change) (d : ℕ) → ((j : ℕ) → j < d → get_or cs j past_end ≡ get_or ds j past_end) → changes_of cs d ≡ changes_of ds d
unfolding changes_of
changes_same cs ds zero h = refl
changes_same cs ds (suc d) h = rw (h d (omega arith), changes_same cs ds d (λ j k. h j (omega arith))) refl

-- without the lowest
changes_drop : (cs : List Change) (d : ℕ) → take d (changes_of cs (suc d)) ≡ changes_of (drop 1 cs) d
unfolding changes_of
changes_drop cs zero = refl
changes_drop cs (suc d) =
    let e : 1 + d ≡ suc d = omega arith in
    let f : get_or (drop 1 cs) d past_end ≡ get_or cs (suc d) past_end = get_or-drop 1 cs d past_end ∙ ap (λ (i : ℕ). get_or cs i past_end) e in
    rw (f, changes_drop cs d) refl

laid_more : (cs : List Change) (d : ℕ) (c : Change) → d < length cs → d < 64 → changes_of (set cs d c) (d + 1) ≡ lay c (changes_of cs d)
unfolding changes_of lay
laid_more cs d c h k =
    let same : changes_of (set cs d c) d ≡ changes_of cs d =
    changes_same (set cs d c) cs d (λ j l. get_or-set_other cs d j c past_end (λ e. omega arith)) in
    let short : length (c ∷ changes_of cs d) ≤ 64 = omega (arith, length_changes cs d) in
    rw (add-one d, get_or-set_same cs d c past_end h, same, take_all 64 (c ∷ changes_of cs d) short) refl

laid_full : (cs : List Change) (d : ℕ) (c : Change) → length cs ≡ suc d
    → changes_of (drop 1 cs ++ (c ∷ [])) (suc d) ≡ take (suc d) (c ∷ changes_of cs (suc d))
unfolding changes_of
laid_full cs d c h =
    let l : length (drop 1 cs) ≡ d = simp length-drop (omega arith) in
    let same : changes_of (drop 1 cs ++ (c ∷ [])) d ≡ changes_of (drop 1 cs) d
    = changes_same (drop 1 cs ++ (c ∷ [])) (drop 1 cs) d (λ j k. get_or-append (drop 1 cs) (c ∷ []) past_end j (omega arith)) in
    rw (get_or_at (drop 1 cs) c [] past_end d l, same) (ap (λ (r : List Change). c ∷ r) (sym (changes_drop cs d)))

-- the length of a full pile is kept a variable: at the numeral 64 the lists are written out
lay_at : (c : Change) (cs : List Change) (n : ℕ) → n ≡ 64 → take n (c ∷ cs) ≡ lay c cs
unfolding lay
lay_at c cs n e = ap (λ (m : ℕ). take m (c ∷ cs)) e

laid_at : (c : Change) (p : Pile) (n : ℕ) → n ≡ 64 → p.depth ≡ n → laid c p ≡ record { depth = n; changes = drop 1 p.changes ++ (c ∷ []) }
unfolding laid
laid_at c p n e f =
    let h : 64 ≤ p.depth = omega arith in
    rw (le-ltb p.depth 64 h) (ap (λ (m : ℕ). pile m) (sym e))
  where
    pile : ℕ → Pile
    pile m = record { depth = m; changes = drop 1 p.changes ++ (c ∷ []) }

laid_less : (c : Change) (p : Pile) → p.depth < 64 → laid c p ≡ record { depth = p.depth + 1; changes = set p.changes p.depth c }
unfolding laid
laid_less c p h = rw (lt-ltb p.depth 64 h) refl

full_pile : (p : Pile) (c : Change) (d : ℕ) → suc d ≡ 64 → p.depth ≡ suc d → length p.changes ≡ suc d → pile_of (laid c p) ≡ lay c (pile_of p)
unfolding pile_of
full_pile p c d e f l =
    rw (laid_at c p (suc d) e f, f) (laid_full p.changes d c l ∙ lay_at c (changes_of p.changes (suc d)) (suc d) e)

pub laid_pile : (p : Pile) (c : Change) → length p.changes ≡ 64 → p.depth ≤ 64 → pile_of (laid c p) ≡ lay c (pile_of p)
unfolding pile_of
laid_pile p c l d = elim (le_or_lt 64 p.depth) [
  | inl h ↦ full_pile p c (p.depth - 1) (omega arith) (omega arith) (omega arith)
  | inr h ↦ rw (laid_less c p h) (laid_more p.changes p.depth c (omega arith) h)
]

-- the array stays as long as it was
pub length_laid : (p : Pile) (c : Change) → 0 < length p.changes → length (laid c p).changes ≡ length p.changes
unfolding laid
length_laid p c l = either (ltb p.depth 64)
  where
    either : (b : Bool)
        → length (cond {A = Pile} b (record { depth = p.depth + 1; changes = set p.changes p.depth c })
        (record { depth = 64; changes = drop 1 p.changes ++ (c ∷ []) })).changes ≡ length p.changes
    either true = length-set p.changes p.depth c
    either false = simp (length-append, length-drop) (omega arith)
