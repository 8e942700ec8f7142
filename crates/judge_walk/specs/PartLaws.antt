-- The part of the list that a path's runs are, and the paths after it.
-- Assumes nothing.
use Rattle.std.specs.Prelude.{◌≡◌, refl, List, [], ◌∷◌, ℕ, suc, ◌+◌, ◌-◌, ◌<◌, ◌≤◌, min, length, take, drop, get_or, Option, None, Some}
use Rattle.std.proofs.Common.{ap, ◌∙◌, inl, inr, arith, length-drop, drop_of_length-le, take_all, drop-cons, drop-drop}
use Rattle.count.specs.TruthLaws.{le_or_lt}
use Rattle.count.specs.Bits.{le_case}
use Rattle.net.specs.declared.Net.{Net}
use Rattle.words.specs.RoutingWord.{path_in}
use Rattle.call_rules.specs.Shape.{runs_from, paths_from}
use Rattle.judge_walk.specs.Parts.{part, part_at}
use Rattle.judge_walk.specs.declared.Part.{Part}

-- ── where the part lies ──
pub part_out : (ws : List ℕ) (i : ℕ) → length ws ≤ i → None ≡ part_at ws i
unfolding part_at
part_out ws i h = elim (le_case (length ws) i) [ inl e ↦ rw e.0 refl | inr e ↦ absurd (omega (arith, e.2)) ]

pub part_in : (ws : List ℕ) (i : ℕ) → i < length ws
    → Some (part (suc i) (min (suc i + (path_in (get_or ws i 0)).runs) (length ws))) ≡ part_at ws i
unfolding part_at
part_in ws i h = elim (le_case (length ws) i) [ inl e ↦ absurd (omega (arith, e.2)) | inr e ↦ rw e.0 refl ]

pub part_runs : (ws : List ℕ) (i : ℕ) → i < length ws → {from to : ℕ} → from ≡ suc i → to ≡ min (suc i + (path_in (get_or ws i 0)).runs) (length ws)
    → Some (part from to) ≡ part_at ws i
part_runs ws i h e f = rw (e, f) (part_in ws i h)

-- what is known of a part that is found
pub record Found (ws : List ℕ) (i from to : ℕ) : Type 0 where
  pub inside : i < length ws
  pub start : from ≡ suc i
  pub end : to ≡ min (suc i + (path_in (get_or ws i 0)).runs) (length ws)

pub part_found : {ws : List ℕ} {i from to : ℕ} {r : Option Part} → r ≡ part_at ws i → r ≡ Some (part from to) → Found ws i from to
part_found {ws} {i} {from} {to} e f = elim (le_or_lt (length ws) i) [
  | inl h ↦ absurd (let p = part_out ws i h in let z : ◌≡◌ {A = ℕ} 0 1 = cc in omega arith)
  | inr h ↦
      let p = part_in ws i h in
      let q : part from to ≡ part (suc i) (min (suc i + (path_in (get_or ws i 0)).runs) (length ws)) = cc in
      record { inside = h; start = ap (λ (x : Part). x.start) q; end = ap (λ (x : Part). x.end) q }
]

pub part_nothing : (ws : List ℕ) (i : ℕ) {r : Option Part} → r ≡ part_at ws i → r ≡ None → length ws ≤ i
part_nothing ws i e f = elim (le_or_lt (length ws) i) [
  | inl h ↦ h
  | inr h ↦ absurd (let p = part_in ws i h in let z : ◌≡◌ {A = ℕ} 0 1 = cc in omega arith)
]

-- ── the first path of what is left of the list ──
paths_none : (i : ℕ) (ns : List Net) → paths_from i ns [] ≡ []
unfolding paths_from
paths_none i [] = refl
paths_none i (n ∷ ns) = refl

pub paths_out : (i : ℕ) (ns : List Net) (ws : List ℕ) → length ws ≤ i → paths_from i ns (drop i ws) ≡ []
paths_out i ns ws h = rw (drop_of_length-le ws h) (paths_none i ns)

paths_more : (i : ℕ) (n : Net) (ns : List Net) (ws : List ℕ) → i < length ws
    → paths_from i (n ∷ ns) (drop i ws)
    ≡ record { index = i; net = n; runs = runs_from (suc i) (take (path_in (get_or ws i 0)).runs (drop (suc i) ws)) }
    ∷ paths_from (suc i + (path_in (get_or ws i 0)).runs) ns (drop (suc i + (path_in (get_or ws i 0)).runs) ws)
unfolding paths_from
paths_more i n ns ws h = rw (drop-cons ws i 0 h, drop-drop (path_in (get_or ws i 0)).runs (suc i) ws) refl

pub paths_part : {ws : List ℕ} {i from to : ℕ} → Found ws i from to → (n : Net) (ns : List Net)
    → paths_from i (n ∷ ns) (drop i ws)
    ≡ record { index = i; net = n; runs = runs_from (suc i) (take (to - from) (drop from ws)) } ∷ paths_from to ns (drop to ws)
paths_part {ws} {i} {from} {to} f n ns = paths_more i n ns ws f.inside ∙ elim (le_or_lt (suc i + runs) (length ws)) [
  | inl h ↦
      let e : to ≡ suc i + runs = omega (arith, f.end) in
      let g : (suc i + runs) - suc i ≡ runs = omega arith in
      rw (f.start, e, g) refl
  | inr h ↦
      let e : to ≡ length ws = omega (arith, f.end) in
      let l = length-drop (suc i) ws in
      rw (
        f.start,
        paths_out to ns ws (omega arith),
        paths_out (suc i + runs) ns ws (omega arith),
        take_all runs (drop (suc i) ws) (omega arith),
        take_all (to - suc i) (drop (suc i) ws) (omega arith),
      ) refl
]
  where
    runs : ℕ
    runs = (path_in (get_or ws i 0)).runs
