-- Definitions only: a buffer with words written behind those that stand in it. Nothing is proved here.
use Rattle.std.specs.Prelude.{◌≡◌, List, ◌++◌, ℕ, ◌+◌, length}
use Rattle.call_rules.specs.Writing.{written_into}

-- a buffer `before` that starts with as many words as `from` says has become `after`, which has the words vs behind them; `at`
-- is the index after them
pub record Continues (vs before after : List ℕ) (from at : ℕ) : Type 0 where
  pub index : at ≡ from + length vs
  pub buffer : (ws first : List ℕ) → length ws ≡ from → before ≡ written_into first ws → after ≡ written_into first (ws ++ vs)
  pub size : length after ≡ length before

-- in a loop that writes the words `all` behind those that stand in a buffer: once `rest`, too, has been written, all have
abbrev pub Remains : (rest all before now : List ℕ) (from at : ℕ) → Type 0
Remains rest all before now from at = (after : List ℕ) (r : ℕ) → Continues rest now after at r → Continues all before after from r
