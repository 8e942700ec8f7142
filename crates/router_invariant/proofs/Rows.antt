-- The rows of the table after a write.
-- Assumes that the row that is written is there.
use Rattle.std.specs.Prelude.{◌≡◌, refl, Bool, true, false, cond, List, ◌⊎◌, ℕ, ◌≤◌, ◌<◌, length, get_or, set, eqb}
use Rattle.std.proofs.Common.{ap, ◌∙◌, sym, subst, inl, inr, length-set, get_or-set_same, get_or-set_other, eqb-true}
use Rattle.std.proofs.lemmas.Bool.{eqb-false}
use Rattle.count.specs.TruthLaws.{bool}
use Rattle.count.specs.Bits.{eq_case}
use Rattle.corner.specs.Shape.{last}
use Rattle.router_notes.specs.Notes.{Move, start, finish, Item, Moved}
use Rattle.router_notes.specs.Corner.{moved_frame}
use Rattle.router_notes.specs.Arrays.{vtx, row_of}
use Rattle.router_table.specs.Writes.{moved_a, moved_b}

pub row_moved : (la lb ids : List ℕ) (i from to : ℕ) (m : Move) → i < length la → i < length lb → (get_or la i 0 ≡ from) ⊎ (get_or lb i 0 ≡ from)
    → start m ≡ vtx from → finish m ≡ vtx to → Moved (row_of la lb ids i) m (row_of (moved_a la i from to) (moved_b la lb i from to) ids i)
row_moved la lb ids i from to m hl hm at-end es ef = elim (bool (eqb (get_or la i 0) from)) [
  | inl e ↦ inl (ap vtx (eqb-true (get_or la i 0) from e) ∙ sym es, rw (e, get_or-set_same la i to 0 hl, ef))
  | inr e ↦ elim at-end [
    | inl q ↦ absurd (eqb-false (get_or la i 0) from e q)
    | inr q ↦ inr (ap vtx q ∙ sym es, rw (e, get_or-set_same lb i to 0 hm, ef))
  ]
]

pub row_kept : (la lb ids : List ℕ) (i j from to : ℕ) → (j ≡ i → ⊥) → row_of (moved_a la i from to) (moved_b la lb i from to) ids j ≡ row_of la lb ids j
row_kept la lb ids i j from to n = elim (bool (eqb (get_or la i 0) from)) [
  | inl e ↦ rw (e, get_or-set_other la i j to 0 n)
  | inr e ↦ rw (e, get_or-set_other lb i j to 0 n)
]

pub length_moved : (b : Bool) (la : List ℕ) (i x : ℕ) → (length (cond b (set la i x) la) ≡ length la) × (length (cond b la (set la i x)) ≡ length la)
length_moved true la i x = (length-set la i x, refl)
length_moved false la i x = (refl, length-set la i x)

pub moved_other : (b : Bool) (la : List ℕ) (i j x : ℕ) → (j ≡ i → ⊥)
    → (get_or (cond b (set la i x) la) j 0 ≡ get_or la j 0) × (get_or (cond b la (set la i x)) j 0 ≡ get_or la j 0)
moved_other true la i j x n = (get_or-set_other la i j x 0 n, refl)
moved_other false la i j x n = (refl, get_or-set_other la i j x 0 n)

-- one end moved: all ends still lie in the frame
pub frame_moved : (it it' : ℕ → Item) (n i : ℕ) (m : Move) → i < n → Moved (it i) m (it' i) → (finish m).line ≤ last
    → ((k : ℕ) → (k ≡ i → ⊥) → it' k ≡ it k)
    → ((k : ℕ) → k < n → ((it k).a.line ≤ last) × ((it k).b.line ≤ last)) → (k : ℕ) → k < n → ((it' k).a.line ≤ last) × ((it' k).b.line ≤ last)
frame_moved it it' n i m l mv f others h k b = elim (eq_case k i) [
  | inl e ↦ subst (λ j. ((it' j).a.line ≤ last) × ((it' j).b.line ≤ last)) (sym e.2) (moved_frame (it i) (it' i) m mv f (h i l))
  | inr e ↦ subst (λ (x : Item). (x.a.line ≤ last) × (x.b.line ≤ last)) (sym (others k e.2)) (h k b)
]
