-- Definitions only: the nets that an array of places holds, and the places once a change is reversed. Nothing is proved here.
use Rattle.std.specs.Prelude.{List, [], ◌∷◌, ℕ, suc, None, Some}
use Rattle.net.specs.View.{Held, nothing, held_by}
use Rattle.net.specs.declared.Pair.{Pair}
use Rattle.net.specs.declared.Net.{Net}
use Rattle.net.specs.declared.Change.{Change}
use Rattle.net.specs.declared.Change.TheVariants.{Added, Withdrawn}
use Rattle.net_places.specs.Numbered.{entry, replaced}

abbrev pub net : ℕ → Pair → Net
net k e = record { number = k; ends = e }

abbrev pub holding : Pair → Held
holding e = Some e

-- what a place holds under number k, before the nets ns
abbrev pub held_net : ℕ → Held → List Net → List Net
held_net k None ns = ns
held_net k (Some e) ns = net k e ∷ ns

-- the nets of places that are numbered from k
unfoldable pub nets_from : ℕ → List Held → List Net
nets_from k [] = []
nets_from k (p ∷ ps) = held_net k p (nets_from (suc k) ps)

-- "the nets in rising number": number n has place n - 1
unfoldable pub nets_of : List Held → List Net
nets_of ps = nets_from 1 ps

-- how many nets a place holds: 1 or 0
abbrev pub held_one : Held → ℕ
held_one h = held_by (λ p. 1) h

abbrev pub place_at : List Held → ℕ → Held
place_at ps n = entry ps n nothing

-- the places once a change is reversed
unfoldable pub reversed_in : Change → List Held → List Held
reversed_in (Added n) ps = replaced ps n.number nothing
reversed_in (Withdrawn n) ps = replaced ps n.number (holding n.ends)
