-- The start and the end of all steps: zeroed notes with row i numbered i are in order, and with no live pair the notes give a routing of the start.
-- Assumes a good problem at the start.
use Rattle.std.specs.Prelude.{◌≡◌, List, ℕ, ◌+◌, ◌*◌, ◌≤◌, ◌<◌, get_or, ltb}
use Rattle.std.proofs.Common.{◌∙◌, sym, inl, inr, arith, eq-eqb, ne_eqb, le-leb}
use Rattle.std.proofs.lemmas.Bool.{lt-leb}
use Rattle.count.specs.TruthLaws.{bool}
use Rattle.corner.specs.Shape.{last, Good}
use Rattle.router_notes.specs.State.{State, Routes}
use Rattle.router_notes.specs.Leads.{leads_refl, leads_end}
use Rattle.router_notes.specs.Arrays.{hop_at, hop_d, hop_of, partD}
use Rattle.router_invariant.specs.Run.{Run, state_r, shape_r, pairs_r, notes_r, row_r, Holds}

abbrev Zeros : List ℕ → Type 0
Zeros l = (p : ℕ) → get_or l p 0 ≡ 0

no_hop : (side vert : List ℕ) → Zeros side → Zeros vert → (k l c : ℕ) → hop_d side vert k l c ≡ 4
unfolding hop_d hop_at
no_hop side vert a b k l c = elim (bool (ltb l 32)) [
  | inr e ↦ rw e
  | inl e ↦ elim (bool (ltb c 32)) [
    | inr f ↦ rw (e, f)
    | inl f ↦ rw (
      e,
      f,
      a (l * 32 + c),
      b (l * 32 + c),
      ne_eqb 0 (k + 1) (λ z. omega arith),
      ne_eqb 0 (2 * k + 2) (λ z. omega arith),
      ne_eqb 0 (2 * k + 3) (λ z. omega arith),
    )
  ]
]

-- DEFINITION: how the router starts
pub record Starts (R : Run) : Type 0 where
  pub side : Zeros R.side
  pub vert : Zeros R.vert
  pub half : Zeros R.half
  pub d1 : Zeros R.d1
  pub d2 : Zeros R.d2
  pub number : (i : ℕ) → i < R.n → get_or R.ids i 0 ≡ i
  pub first : (i : ℕ) → i < R.n → get_or R.s1 i 0 ≡ get_or R.la i 0
  pub second : (i : ℕ) → i < R.n → get_or R.s2 i 0 ≡ get_or R.lb i 0
  pub frame : (i : ℕ) → i < R.n → ((row_r R i).a.line ≤ last) × ((row_r R i).b.line ≤ last)
  pub next : R.next ≡ R.n
  pub good : Good (shape_r R) (pairs_r R)

pub start_holds : (R : Run) → Starts R → Holds (state_r R) R
unfolding hop_of partD
start_holds R Z = record {
  inv = record {
    lead = leads_refl _;
    fine = record {
      quiet = λ k v h. rw (no_hop R.side R.vert Z.side Z.vert k v.line v.column);
      uncut = λ k h. rw (eq-eqb (get_or R.half k 0) 0 (Z.half k));
      fresh = λ k h. rw (eq-eqb (get_or R.half k 0) 0 (Z.half k));
      ids = λ i l. omega (arith, Z.number i l, Z.next);
      once = λ i j li lj e. sym (Z.number i li) ∙ e ∙ Z.number j lj;
    };
    good = Z.good;
    link = λ v h. rw (le-leb v.line last h);
    out = λ v h. rw (lt-leb v.line last h);
    frame = Z.frame;
  };
  halves = λ k. inl (Z.half k);
  first = λ k. omega (arith, Z.d1 k);
  second = λ k. omega (arith, Z.d2 k);
  asked = omega (arith, Z.next);
  made = λ k l. rw (Z.number k l, Z.first k l, Z.second k l);
}

-- no pair is live: the notes route the start
pub routed_end : (s0 : State) (R : Run) → Holds s0 R → R.n ≡ 0 → Routes (notes_r R) s0
routed_end s0 R H z = leads_end s0 (state_r R) H.inv.lead z
