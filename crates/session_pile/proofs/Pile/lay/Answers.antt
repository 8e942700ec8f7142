-- `lay` gives the pile with one more change; a full one loses its lowest.
use Rattle.std.proofs.Common.{◌≡◌, refl, ap, List, [], ◌∷◌, ◌++◌, set, drop, lt-ltb, le-ltb, rules}
use Rattle.net.specs.declared.Change.{Change}
use Rattle.session_pile.specs.declared.Pile.{Pile}
use Rattle.session_pile.specs.Pile.{laid, past_end}
use Rattle.session_pile.specs.Shift.{last_set}
use Rattle.session_pile.proofs.Pile.lay.Goals as goal

pub returns-then-self-lt64 : goal.returns-then-self-lt64
unfolding laid
returns-then-self-lt64 c = rw (lt-ltb _ _ c.if-self-lt64.true, c.from.ensures) refl

pub returns : goal.returns
unfolding laid
returns c =
    let a = c.args in
    let e : set c.copy_within.new.self 63 a.change ≡ drop 1 a.self.changes ++ (a.change ∷ [])
    = rw c.copy_within.ensures.after (last_set a.self.changes 63 a.change past_end (search rules)) in
    rw (le-ltb _ _ c.if-self-lt64.false) (ap (λ (cs : List Change). pile cs) e)
  where
    pile : List Change → Pile
    pile cs = record { depth = 64; changes = cs }
