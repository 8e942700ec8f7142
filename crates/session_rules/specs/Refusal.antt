-- Definitions only: refusals and how a table of them is read (document 01, "Refusals by place of check"). Nothing is proved here.
use Rattle.std.specs.Prelude.{Bool, cond, List, [], ◌∷◌, ℕ}
use Rattle.std.proofs.Math.Option.{Option, none, some}

-- A refusal has a number and one or two place numbers.
pub record Refusal : Type 0 where
  pub number : ℕ
  pub place : List ℕ

abbrev pub refusal : ℕ → ℕ → Refusal
refusal n p = record { number = n; place = p ∷ [] }

-- A line of the table: a condition, and the refusal where it holds.
pub record Line : Type 0 where
  pub holds : Bool
  pub gives : Refusal

-- the line with this condition, number and place number
abbrev pub line : Bool → ℕ → ℕ → Line
line c n p = record { holds = c; gives = refusal n p }

-- "A call is refused exactly when a condition laid down for it holds"; "Within a place the order is that of the lines."
abbrev pub first_refusal : List Line → Option Refusal
first_refusal [] = none
first_refusal (l ∷ ls) = cond l.holds (some l.gives) (first_refusal ls)
