-- Definitions only: the refusals of the code, and which list of two has one. Nothing is proved here.
use Rattle.std.specs.Prelude.{List, [], ◌∷◌, ℕ, Option, None, Some}
use Rattle.session_rules.specs.Refusal as machine
use Rattle.words_bytes.specs.declared.FillError.{FillError}
use Rattle.words_bytes.specs.declared.FillError.TheVariants.{Uneven, Long}
use Rattle.judge_shape.specs.declared.Fault.TheVariants.{Length}
use Rattle.judge_list.specs.declared.BytesRefusal.{BytesRefusal}
use Rattle.judge_list.specs.declared.BytesRefusal.TheVariants as bytes
use Rattle.judge_list.specs.declared.Numbers.{Numbers}
use Rattle.judge_list.specs.declared.Which.{Which}
use Rattle.judge_list.specs.declared.Which.TheVariants.{First, Second}

-- the place number of a list
abbrev pub which_number : Which → ℕ
which_number First = 0
which_number Second = 1

-- what is wrong with bytes whose words do not fill a list
abbrev pub unfilled : FillError → BytesRefusal
unfilled Uneven = bytes.UnevenBytes
unfilled Long = bytes.List (record { fault = Length; place = 0 })

-- the refusal that numbers tell
abbrev pub second_place : Option ℕ → List ℕ
second_place None = []
second_place (Some p) = p ∷ []

abbrev pub refusal_by : Numbers → machine.Refusal
refusal_by n = record { number = n.number; place = n.first ∷ second_place n.second }
