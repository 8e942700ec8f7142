-- What adding answers is the first of the machine's lines 21 to 25 that holds.
-- Assumes nothing.
use Rattle.std.specs.Prelude.{◌≡◌, refl, Bool, true, false, not, List, [], ◌∷◌, is_ok}
use Rattle.std.proofs.Math.Option.{Option, none, some}
use Rattle.board_block.specs.Block.{Block}
use Rattle.board.specs.Degree.{vertex?}
use Rattle.net.specs.Terminals.{same}
use Rattle.net.specs.declared.Net.{Net}
use Rattle.session_rules.specs.Refusal.{Refusal, line, first_refusal}
use Rattle.session_rules.specs.Session.{holds}
use Rattle.session_rules.specs.Machine.{Answer, accepted, refused}
use Rattle.session_rules.specs.Add.{good_number, full, add_lines, add_refused, is_none, accepts}
use Rattle.session_answers.specs.Answers.{add_answer}
use Rattle.session_add.specs.Lines.{first_of, check_of}

-- DEFINITION: a refusal, if there is one, as the machine's answer
abbrev pub answered : Option Refusal → Answer
answered none = accepted
answered (some r) = refused r

first_line : (a b c d e f g : Bool)
    → add_answer (first_of a b c d e f g)
    ≡ answered (first_refusal (line a 21 0 ∷ line b 22 0 ∷ line c 23 0 ∷ line d 23 1 ∷ line e 24 0 ∷ line f 25 0 ∷ line g 25 1 ∷ []))
unfolding first_of
first_line true b c d e f g = refl
first_line false true c d e f g = refl
first_line false false true d e f g = refl
first_line false false false true e f g = refl
first_line false false false false true f g = refl
first_line false false false false false true g = refl
first_line false false false false false false true = refl
first_line false false false false false false false = refl

pub check_answer : (b : Block) (ns : List Net) (n : Net) → add_answer (check_of b ns n) ≡ answered (add_refused b ns n)
unfolding check_of add_refused add_lines
check_answer b ns n =
    first_line (not (good_number n.number)) (holds n.number ns) (not (vertex? b.board n.ends.first))
    (not (vertex? b.board n.ends.second))
    (same n.ends.first n.ends.second) (full b ns n.ends.first) (full b ns n.ends.second)

first_none : (a b c d e f g : Bool)
    → is_ok (first_of a b c d e f g)
    ≡ is_none (first_refusal (line a 21 0 ∷ line b 22 0 ∷ line c 23 0 ∷ line d 23 1 ∷ line e 24 0 ∷ line f 25 0 ∷ line g 25 1 ∷ []))
unfolding first_of
first_none true b c d e f g = refl
first_none false true c d e f g = refl
first_none false false true d e f g = refl
first_none false false false true e f g = refl
first_none false false false false true f g = refl
first_none false false false false false true g = refl
first_none false false false false false false true = refl
first_none false false false false false false false = refl

pub check_accepts : (b : Block) (ns : List Net) (n : Net) → is_ok (check_of b ns n) ≡ accepts b ns n
unfolding check_of accepts add_refused add_lines
check_accepts b ns n =
    first_none (not (good_number n.number)) (holds n.number ns) (not (vertex? b.board n.ends.first))
    (not (vertex? b.board n.ends.second))
    (same n.ends.first n.ends.second) (full b ns n.ends.first) (full b ns n.ends.second)
