-- Definitions only: the number and place, and the refusal, of what is wrong with a board. Nothing is proved here.
use Rattle.std.specs.Prelude.{ℕ}
use Rattle.session_rules.specs.Refusal.{Refusal, refusal}
use Rattle.board_scan.specs.Refused.{scan_number, scan_place}
use Rattle.board_reading.specs.declared.NetFault.{NetFault}
use Rattle.board_reading.specs.declared.NetFault.TheVariants.{BadNumber, NumberTaken, NoVertex, SameVertex, PinsTaken}
use Rattle.board_reading.specs.declared.ReadRefusal.{ReadRefusal}
use Rattle.board_reading.specs.declared.ReadRefusal.TheVariants.{Uneven, Words, NotConvex, Pins, Net}

-- 21 a bad number of a net, 22 a taken one, 23 no vertex, 24 the same vertex twice, 25 no pin left
abbrev pub net_number : NetFault → ℕ
net_number BadNumber = 21
net_number NumberTaken = 22
net_number NoVertex = 23
net_number SameVertex = 24
net_number PinsTaken = 25

abbrev pub read_number : ReadRefusal → ℕ
read_number Uneven = 10
read_number (Words e) = scan_number e
read_number NotConvex = 16
read_number (Pins i) = 38
read_number (Net f i) = net_number f

abbrev pub read_place : ReadRefusal → ℕ
read_place Uneven = 0
read_place (Words e) = scan_place e
read_place NotConvex = 0
read_place (Pins i) = i
read_place (Net f i) = i

-- document 01's number and place
abbrev pub read_refusal : ReadRefusal → Refusal
read_refusal e = refusal (read_number e) (read_place e)
