-- Definitions only: the parts of a list of board words, as the laws of this crate name them. Nothing is proved here.
use Rattle.std.specs.Prelude.{◌≡◌, true, false, List, [], ◌∷◌, ◌++◌, map, ℕ, suc, ◌≤◌, ◌<◌, ◌^◌}
use Rattle.count.specs.Each.{Each}
use Rattle.board.specs.declared.Row.{Row}
use Rattle.board_block.specs.declared.Book.{Book}
use Rattle.board_block.specs.declared.Book.TheVariants.{Old}
use Rattle.board_block.specs.declared.TakenPins.{TakenPins}
use Rattle.net.specs.declared.Net.{Net}
use Rattle.session_rules.specs.Session.{Session, with_nets}
use Rattle.session_rules.specs.Sound.{bare}
use Rattle.words.specs.BoardWord.{row_word, taken_word, net_word}
use Rattle.words.specs.Inverse.{TakenFits, NetFits}
use Rattle.call_rules.specs.Reading.{Listed, Parsed, not_above}

-- ── what was taken ──
-- before the end word, and with it
abbrev pub taken : List Row → List TakenPins → List Listed → Parsed
taken rs ts ls = record { rows = rs; pins = ts; nets = ls; book = Old; ended = false }

abbrev pub ended : Book → List Row → List TakenPins → List Listed → Parsed
ended k rs ts ls = record { rows = rs; pins = ts; nets = ls; book = k; ended = true }

abbrev pub listing : ℕ → Net → Listed
listing i n = record { index = i; net = n }

-- the nets of net words
abbrev pub nets_in : List Listed → List Net
nets_in ls = map (λ (l : Listed). l.net) ls

-- nets whose words stand from index i on, in their order
abbrev pub listed_from : ℕ → List Net → List Listed
listed_from i [] = []
listed_from i (n ∷ ns) = listing i n ∷ listed_from (suc i) ns

-- the same, laid one by one on those before, so that the last comes first
abbrev pub listed_onto : ℕ → List Net → List Listed → List Listed
listed_onto i [] before = before
listed_onto i (n ∷ ns) before = listed_onto (suc i) ns (listing i n ∷ before)

-- ── the words of what was taken, with words that follow ──
abbrev pub nets_then : List Listed → List ℕ → List ℕ
nets_then [] ws = ws
nets_then (l ∷ ls) ws = nets_then ls (net_word l.net ∷ ws)

abbrev pub said : Parsed → List ℕ → List ℕ
said t ws = map row_word t.rows ++ (map taken_word t.pins ++ nets_then t.nets ws)

-- ── numbers ──
-- the last net first: each number is above the one before it
abbrev pub Falling : List Listed → Type 0
Falling [] = Unit {0}
Falling (l ∷ ls) = (not_above l.net.number ls ≡ false) × Falling ls

-- ── fields that fit ──
abbrev pub RowsFit : List Row → Type 0
RowsFit rs = Each (λ (r : Row). (r.left < r.right) × (r.right ≤ 31)) rs

abbrev pub PinsFit : List TakenPins → Type 0
PinsFit ts = Each TakenFits ts

abbrev pub NetsFit : List Net → Type 0
NetsFit ns = Each NetFits ns

-- ── numbers as words and as bytes ──
abbrev pub Words : List ℕ → Type 0
Words ws = Each (λ (w : ℕ). w < 2 ^ 32) ws

abbrev pub Bytes : List ℕ → Type 0
Bytes bs = Each (λ (b : ℕ). b < 2 ^ 8) bs

-- ── sessions ──
-- what reading gives of a session that was written: its board and nets, with an empty pile and nothing kept
abbrev pub as_read : Session → Session
as_read s = with_nets (bare s.block) s.nets []
