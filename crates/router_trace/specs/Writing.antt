-- Texts written one after the other: what two writers leave is what one writer of both texts leaves.
-- Assumes nothing.
use Rattle.std.specs.Prelude.{ℕ, ◌+◌, ◌<◌, ◌≤◌, ◌≡◌, refl, List, [], ◌∷◌, ◌++◌, set, take, drop, length}
use Rattle.std.proofs.Common.{sym, ◌∙◌, append_assoc, arith, add-one, length-append, length-set, take-append-drop, take-suc-set, drop-set-lt, length-take-le, take_at, drop_at, drop-drop}
use Rattle.router_notes.specs.Limits.{path_limit}
use Rattle.router_trace.specs.Writes.{wrote, Room, Writes}

pub wrote_none : (out : List ℕ) (at : ℕ) → wrote out at [] ≡ out
unfolding wrote
wrote_none out at =
    let e : at + 0 ≡ at = omega arith in
    rw e (take-append-drop at out)

pub wrote_front : (out : List ℕ) (at x : ℕ) (w : List ℕ) → at < length out → wrote (set out at x) (at + 1) w ≡ wrote out at (x ∷ w)
unfolding wrote
wrote_front out at x w h =
    let e : at + 1 + length w ≡ at + length (x ∷ w) = omega arith in
    rw (add-one at, take-suc-set out at x h, append_assoc, ← add-one at, drop-set-lt (at + 1 + length w) out at x (omega arith), e)

-- two texts, one after the other
pub wrote_more : (out : List ℕ) (at : ℕ) (v w : List ℕ) → at + length v + length w ≤ length out
    → wrote (wrote out at v) (at + length v) w ≡ wrote out at (v ++ w)
unfolding wrote
wrote_more out at v w h =
    let t : length (take at out) ≡ at = length-take-le at out (omega arith) in
    let p : length (take at out ++ v) ≡ at + length v = rw (length-append, t) in
    let a : take (at + length v) (take at out ++ (v ++ drop (at + length v) out)) ≡ take at out ++ v =
    rw (← append_assoc) (take_at (take at out ++ v) (drop (at + length v) out) (at + length v) p) in
    let b : drop (at + length v) (take at out ++ (v ++ drop (at + length v) out)) ≡ drop (at + length v) out =
    rw (← append_assoc) (drop_at (take at out ++ v) (drop (at + length v) out) (at + length v) p) in
    let c : drop (at + length v + length w) (take at out ++ (v ++ drop (at + length v) out)) ≡ drop (at + length (v ++ w)) out =
    rw (← drop-drop (length w) (at + length v) (take at out ++ (v ++ drop (at + length v) out)), b, drop-drop, length-append)
    (let e : at + length v + length w ≡ at + (length v + length w) = omega arith in rw e) in
    rw (a, c) (simp append_assoc)

pub set_wrote : (out : List ℕ) (at x : ℕ) → at < length out → set out at x ≡ wrote out at (x ∷ [])
set_wrote out at x h = sym (wrote_none (set out at x) (at + 1)) ∙ wrote_front out at x [] h

pub writes_none : (at : ℕ) (out : List ℕ) → Writes [] at out at out
writes_none at out = record { kept = refl; end = λ h. omega arith; text = λ h. sym (wrote_none out at) }

pub writes_set : (at x : ℕ) (out : List ℕ) → at < path_limit → Writes (x ∷ []) at out (at + 1) (set out at x)
writes_set at x out h = record { kept = length-set out at x; end = λ k. omega arith; text = λ k. set_wrote out at x (omega arith) }

pub writes_full : (at x : ℕ) (out : List ℕ) → path_limit ≤ at → Writes (x ∷ []) at out at out
writes_full at x out h = record { kept = refl; end = λ k. absurd (omega arith); text = λ k. absurd (omega arith) }

-- one text after the other
pub writes_join : {at r s : ℕ} {v w out out1 out2 : List ℕ} → Writes v at out r out1 → Writes w r out1 s out2 → Writes (v ++ w) at out s out2
writes_join {at} {r} {s} {v} {w} {out} {out1} {out2} a b = record {
  kept = b.kept ∙ a.kept;
  end = λ h. omega (arith, b.end (second h), a.end (first h), length-append v w);
  text = λ h.
      b.text (second h)
      ∙ rw (a.end (first h), a.text (first h)) (wrote_more out at v w (omega (arith, length-append v w, h.fits)));
}
  where
    first : Room (v ++ w) at out → Room v at out
    first h = record { size = h.size; fits = omega (arith, length-append v w, h.fits) }

    second : Room (v ++ w) at out → Room w r out1
    second h = record { size = a.kept ∙ h.size; fits = omega (arith, length-append v w, h.fits, a.end (first h)) }
