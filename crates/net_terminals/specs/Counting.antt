-- How a loop over the places counts the terminals of all vertices: after i places those of the first i.
-- Assumes nothing.
use Rattle.std.specs.Prelude.{◌≡◌, refl, Bool, true, false, List, ℕ, ◌+◌, ◌*◌, ◌≤◌, ◌<◌, length, get_or, drop, replicate, None, Some}
use Rattle.std.proofs.Common.{ap, ◌∙◌, inl, inr, arith, lt-ltb}
use Rattle.std.proofs.lemmas.List.{length-replicate, get_or-replicate}
use Rattle.count.specs.Truth.{one}
use Rattle.count.specs.TruthLaws.{bool}
use Rattle.count.specs.Lists.{tally}
use Rattle.board.specs.Board.{at}
use Rattle.board.specs.declared.Vertex.{Vertex}
use Rattle.net.specs.Terminals.{same, ends, terminals}
use Rattle.net.specs.Same.{same_exact}
use Rattle.net.specs.Grid.{changed_at}
use Rattle.net.specs.GridLaws.{length_changed, changed_same, changed_other}
use Rattle.net.specs.View.{Held, nothing, pairs_of, held_ends}
use Rattle.net.specs.ViewLaws.{tally_more, tally_none, terminals_tally}
use Rattle.net_terminals.specs.Counts.{raised, count_held, Counts}

-- ── one terminal, one place ──
counted : (v : Vertex) (a : List ℕ) (l c : ℕ) → length a ≡ 1024 → l < 32 → c < 32 → get_or a (l * 32 + c) 0 < 255
    → get_or (changed_at raised v.line v.column a) (l * 32 + c) 0 ≡ one (same v (at l c)) + get_or a (l * 32 + c) 0
counted v a l c e p q h = elim (bool (same v (at l c))) [
  | inl s ↦
      let u = (same_exact v (at l c)).0 s in
      let n = get_or a (l * 32 + c) 0 in
      let r : raised n ≡ 1 + n = rw (lt-ltb n 255 h) (omega arith) in
      rw (s, ap (λ (w : Vertex). w.line) u, ap (λ (w : Vertex). w.column) u) (changed_same raised l c a e p q ∙ r)
  | inr s ↦ let o = changed_other raised v.line v.column l c a s q in rw s (omega arith)
]

held_long : (h : Held) (a : List ℕ) → length (count_held h a) ≡ length a
held_long None a = refl
held_long (Some p) a =
    length_changed raised p.second.line p.second.column (changed_at raised p.first.line p.first.column a)
    ∙ length_changed raised p.first.line p.first.column a

held_counted : (h : Held) (a : List ℕ) (l c : ℕ) → length a ≡ 1024 → l < 32 → c < 32 → get_or a (l * 32 + c) 0 < 254
    → get_or (count_held h a) (l * 32 + c) 0 ≡ held_ends (at l c) h + get_or a (l * 32 + c) 0
held_counted None a l c e p q h = omega arith
held_counted (Some x) a l c e p q h =
    let b = changed_at raised x.first.line x.first.column a in
    let f = counted x.first a l c e p q (omega arith) in
    let o = one-small (same x.first (at l c)) in
    let g = counted x.second b l c (length_changed raised x.first.line x.first.column a ∙ e) p q (omega arith) in
    omega arith
  where
    one-small : (t : Bool) → one t ≤ 1
    one-small true = omega arith
    one-small false = omega arith

ends_few : (h : Held) (v : Vertex) → held_ends v h ≤ 2
ends_few None v = omega arith
ends_few (Some p) v = go (same p.first v) (same p.second v)
  where
    go : (s t : Bool) → one s + one t ≤ 2
    go true true = omega arith
    go true false = omega arith
    go false true = omega arith
    go false false = omega arith

-- ── the loop ──
-- DEFINITION: the first i places are counted
pub record Counting (nets : List Held) (i : ℕ) (a : List ℕ) : Type 0 where
  pub long : length a ≡ 1024
  pub low : (l c : ℕ) → l < 32 → c < 32 → get_or a (l * 32 + c) 0 ≤ 2 * i
  pub here : (l c : ℕ) → l < 32 → c < 32 → get_or a (l * 32 + c) 0 + tally (λ p. ends p (at l c)) (pairs_of (drop i nets))
      ≡ terminals (pairs_of nets) (at l c)

pub counting_start : (nets : List Held) → Counting nets 0 (replicate 1024 0)
counting_start nets = record {
  long = length-replicate {A = ℕ} 1024 0;
  low = λ l c p q. omega (arith, get_or-replicate {A = ℕ} 1024 (l * 32 + c) 0 0 (omega arith));
  here = λ l c p q. omega (arith, get_or-replicate {A = ℕ} 1024 (l * 32 + c) 0 0 (omega arith), terminals_tally (pairs_of nets) (at l c));
}

pub counting_more : {nets : List Held} {i : ℕ} {a : List ℕ} → Counting nets i a → i < 64 → length nets ≡ 64
    → Counting nets (i + 1) (count_held (get_or nets i nothing) a)
counting_more {nets} {i} {a} C h e = record {
  long = held_long (get_or nets i nothing) a ∙ C.long;
  low = λ l c p q. omega (arith, held l c p q, ends_few (get_or nets i nothing) (at l c), C.low l c p q);
  here = λ l c p q. omega (arith, held l c p q, tally_more (λ x. ends x (at l c)) nets i (omega arith), C.here l c p q);
}
  where
    held : (l c : ℕ) → l < 32 → c < 32
        → get_or (count_held (get_or nets i nothing) a) (l * 32 + c) 0 ≡ held_ends (at l c) (get_or nets i nothing) + get_or a (l * 32 + c) 0
    held l c p q = held_counted (get_or nets i nothing) a l c C.long p q (omega (arith, C.low l c p q))

pub counting_done : {nets : List Held} {i : ℕ} {a : List ℕ} → Counting nets i a → i ≡ length nets → Counts (pairs_of nets) a
counting_done {nets} {i} {a} C e = record {
  here = λ l c p q. omega (arith, rw e at (C.here l c p q), tally_none (λ x. ends x (at l c)) nets);
}
