-- Definitions only: adding the nets of a list of words in a second pass over it, at the level of the code's values. Nothing is proved here.
use Rattle.std.specs.Prelude as prelude
use Rattle.std.specs.Prelude.{◌≡◌, List, [], ◌⊎◌, ℕ, suc, length, drop}
use Rattle.std.proofs.Math.Option.{Option, none, some}
use Rattle.board_block.specs.Block.{Block}
use Rattle.net_places.specs.Places.{nets_of}
use Rattle.session_rules.specs.Refusal.{Refusal}
use Rattle.call_rules.specs.Result.{no, yes}
use Rattle.call_rules.specs.Reading.{add_listed}
use Rattle.board_reading.specs.Listed.{listed}
use Rattle.board_reading.specs.Refused.{net_number, read_refusal}
use Rattle.board_reading.specs.declared.NetFault.{NetFault}
use Rattle.board_reading.specs.declared.ReadRefusal.{ReadRefusal}
use Rattle.net.specs.View.{Held}

-- a refusal's number, if there is one
abbrev pub number_in : Option Refusal → Option ℕ
number_in none = none
number_in (some r) = some r.number

-- the number of a net's fault, if it has one
abbrev pub net_answer : prelude.Result Unit NetFault → Option ℕ
net_answer (prelude.Ok u) = none
net_answer (prelude.Err f) = some (net_number f)

-- before word i the definition has still to add the nets of the words from i on to those in the places
pub record Adding (b : Block) (ws : List ℕ) (i : ℕ) (ps : List Held) : Type 0 where
  pub rest : add_listed b [] (listed 0 ws) ≡ add_listed b (nets_of ps) (listed i (drop i ws))
  pub size : length ps ≡ 64

-- what the pass promises: the refusal of the first net that is refused, or the nets of all words
abbrev pub AllPromise : Block → List ℕ → prelude.Result (List Held) ReadRefusal → Type 0
AllPromise b ws (prelude.Err e) = add_listed b [] (listed 0 ws) ≡ no (read_refusal e)
AllPromise b ws (prelude.Ok ps) = (add_listed b [] (listed 0 ws) ≡ yes (nets_of ps)) × (length ps ≡ 64)
