-- Nets in rising number, added one by one, come to stand in their order; and they are accepted exactly when they could all be added.
-- Assumes nothing.
use Rattle.std.specs.Prelude.{◌≡◌, refl, true, List, [], ◌∷◌, ◌++◌, ℕ, suc}
use Rattle.std.proofs.Common.{ap, sym, ◌∙◌, append-nil, arith}
use Rattle.std.proofs.Math.Option.{Option, none, some}
use Rattle.count.specs.TruthLaws.{and_true, and_yes}
use Rattle.board_block.specs.Block.{Block}
use Rattle.net.specs.declared.Net.{Net}
use Rattle.session_rules.specs.Refusal.{Refusal}
use Rattle.session_rules.specs.Session.{insert}
use Rattle.session_rules.specs.Add.{add_refused, is_none, accepts}
use Rattle.session_rules.specs.Sound.{addable?}
use Rattle.session_laws.specs.Rising.{From}
use Rattle.session_laws.proofs.InOrder.{Below, below_more, one_more, below_next, accepted_none}
use Rattle.call_rules.specs.Result.{yes}
use Rattle.call_rules.specs.Reading.{Listed, placed_at, add_listed}
use Rattle.board_roundtrip.specs.Parts.{nets_in}
use Rattle.call_rules.proofs.Results.{yes_same, passed}

-- ── nets as adds ──
none_accepted : (b : Block) (on : List Net) (n : Net) (i : ℕ) → placed_at i (add_refused b on n) ≡ none → accepts b on n ≡ true
unfolding accepts
none_accepted b on n i e = go (add_refused b on n) e
  where
    go : (o : Option Refusal) → placed_at i o ≡ none → is_none o ≡ true
    go none e = refl
    go (some r) e = absurd (let z : ◌≡◌ {A = ℕ} 0 1 = cc in omega arith)

pub addable_listed : (b : Block) (on : List Net) (ls : List Listed) (k : ℕ) → Below k on → From k (nets_in ls) → addable? b on (nets_in ls) ≡ true
    → add_listed b on ls ≡ yes (on ++ nets_in ls)
unfolding add_listed addable?
addable_listed b on [] k h f e = ap (λ (ns : List Net). yes ns) (sym (append-nil on))
addable_listed b on (l ∷ ls) k h f e =
    let t = and_true (accepts b on l.net) (addable? b (insert l.net on) (nets_in ls)) e in
    let g = below_more k l.net.number on f.0 h in
    rw (accepted_none b on l.net t.0)
    (addable_listed b (insert l.net on) ls (suc l.net.number) (below_next l.net on g) f.1 t.1
    ∙ ap (λ (ns : List Net). yes ns) (one_more l.net on (nets_in ls) g))

pub listed_addable : (b : Block) (on : List Net) (ls : List Listed) (ns : List Net) (k : ℕ) → Below k on → From k (nets_in ls)
    → add_listed b on ls ≡ yes ns → (ns ≡ on ++ nets_in ls) × (addable? b on (nets_in ls) ≡ true)
unfolding add_listed addable?
listed_addable b on [] ns k h f e = (sym (yes_same on ns e) ∙ sym (append-nil on), refl)
listed_addable b on (l ∷ ls) ns k h f e =
    let p = passed (placed_at l.index (add_refused b on l.net)) (add_listed b (insert l.net on) ls) ns e in
    let g = below_more k l.net.number on f.0 h in
    let r = listed_addable b (insert l.net on) ls ns (suc l.net.number) (below_next l.net on g) f.1 p.1 in (
      r.0 ∙ one_more l.net on (nets_in ls) g,
      and_yes (accepts b on l.net) (addable? b (insert l.net on) (nets_in ls)) (none_accepted b on l.net l.index p.0) r.1,
    )
