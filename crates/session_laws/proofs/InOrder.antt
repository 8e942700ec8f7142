-- A net above all others goes to the end, so that nets in rising number can be put in one by one and stand in their order (`one_more`, `below_next`).
-- A net that add accepts is refused by no line (`accepted_none`).
-- Assumes nothing.
use Rattle.std.specs.Prelude.{◌≡◌, refl, true, List, [], ◌∷◌, ◌++◌, ℕ, suc, ◌≤◌, ◌<◌}
use Rattle.std.proofs.Common.{append_assoc, arith, le-ltb}
use Rattle.std.proofs.Math.Option.{Option, none, some}
use Rattle.count.specs.TruthLaws.{clash}
use Rattle.count.specs.Each.{Each, each_append}
use Rattle.board_block.specs.Block.{Block}
use Rattle.net.specs.declared.Net.{Net}
use Rattle.session_rules.specs.Refusal.{Refusal}
use Rattle.session_rules.specs.Session.{insert}
use Rattle.session_rules.specs.Add.{add_refused, is_none, accepts}

-- DEFINITION: the numbers are below k
abbrev pub Below : ℕ → List Net → Type 0
Below k ns = Each (λ (n : Net). n.number < k) ns

insert_last : (n : Net) (on : List Net) → Below n.number on → insert n on ≡ on ++ (n ∷ [])
unfolding insert
insert_last n [] h = refl
insert_last n (m ∷ ms) h = let l = h.0 in rw (le-ltb n.number m.number (omega arith), insert_last n ms h.1) refl

pub below_more : (k l : ℕ) (ns : List Net) → k ≤ l → Below k ns → Below l ns
below_more k l [] e h = tt
below_more k l (n ∷ ns) e h = let g = h.0 in (omega arith, below_more k l ns e h.1)

below_last : (n : Net) (ns : List Net) → Below n.number ns → Below (suc n.number) (ns ++ (n ∷ []))
below_last n ns h =
    each_append (λ (m : Net). m.number < suc n.number) ns (n ∷ []) (below_more n.number (suc n.number) ns (omega arith) h) (omega arith, tt)

pub one_more : (n : Net) (on ns : List Net) → Below n.number on → insert n on ++ ns ≡ on ++ (n ∷ ns)
one_more n on ns h = rw (insert_last n on h) (append_assoc on (n ∷ []) ns)

pub below_next : (n : Net) (on : List Net) → Below n.number on → Below (suc n.number) (insert n on)
below_next n on h = rw (insert_last n on h) (below_last n on h)

-- a net that add accepts is refused by no line
pub accepted_none : (b : Block) (on : List Net) (n : Net) → accepts b on n ≡ true → add_refused b on n ≡ none
unfolding accepts
accepted_none b on n e = go (add_refused b on n) e
  where
    go : (o : Option Refusal) → is_none o ≡ true → o ≡ none
    go none e = refl
    go (some r) e = absurd (clash e refl)
