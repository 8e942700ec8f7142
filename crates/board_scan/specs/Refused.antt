-- Definitions only: the numbers of the table, and the refusal, of what is wrong with a list of words. Nothing is proved here.
use Rattle.std.specs.Prelude.{ℕ}
use Rattle.session_rules.specs.Refusal.{Refusal, refusal}
use Rattle.board_scan.specs.declared.WordFault.{WordFault}
use Rattle.board_scan.specs.declared.WordFault.TheVariants.{Unknown, Misplaced, BadRow, WrongCount}
use Rattle.board_scan.specs.declared.ScanRefusal.{ScanRefusal}
use Rattle.board_scan.specs.declared.ScanRefusal.TheVariants.{BadLength, Word}

-- 12 an unknown word, 13 a misplaced one, 14 a bad row, 15 a bad count
abbrev pub fault_number : WordFault → ℕ
fault_number Unknown = 12
fault_number Misplaced = 13
fault_number BadRow = 14
fault_number WrongCount = 15

abbrev pub scan_number : ScanRefusal → ℕ
scan_number BadLength = 11
scan_number (Word f i) = fault_number f

abbrev pub scan_place : ScanRefusal → ℕ
scan_place BadLength = 0
scan_place (Word f i) = i

-- number and place
abbrev pub scan_refusal : ScanRefusal → Refusal
scan_refusal e = refusal (scan_number e) (scan_place e)
