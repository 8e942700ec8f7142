-- What it takes that add accepts a net: none of the conditions 21 to 25 holds.
-- Assumes nothing.
use Rattle.std.specs.Prelude.{◌≡◌, refl, Bool, true, false, not, List, [], ◌∷◌, ◌≤◌, ◌<◌, leb}
use Rattle.std.proofs.Common.{leb-true, leb-false, le-leb}
use Rattle.std.proofs.lemmas.Bool.{lt-leb, not-false}
use Rattle.count.specs.TruthLaws.{clash, and_true}
use Rattle.board.specs.Degree.{vertex?}
use Rattle.board_block.specs.Block.{Block, pins_of}
use Rattle.net.specs.Terminals.{same, terminals}
use Rattle.net.specs.declared.Net.{Net}
use Rattle.session_rules.specs.Refusal.{line, first_refusal}
use Rattle.session_rules.specs.Session.{pairs, holds}
use Rattle.session_rules.specs.Add.{good_number, full, add_lines, add_refused, is_none, accepts}

pub record Free (b : Block) (ns : List Net) (n : Net) : Type 0 where
  pub low : 1 ≤ n.number
  pub high : n.number ≤ 64
  pub new : holds n.number ns ≡ false
  pub first : vertex? b.board n.ends.first ≡ true
  pub second : vertex? b.board n.ends.second ≡ true
  pub apart : same n.ends.first n.ends.second ≡ false
  pub room_first : terminals (pairs ns) n.ends.first < pins_of b n.ends.first
  pub room_second : terminals (pairs ns) n.ends.second < pins_of b n.ends.second

pub record AllFalse (a b c d e f g : Bool) : Type 0 where
  pub is21 : a ≡ false
  pub is22 : b ≡ false
  pub is23_0 : c ≡ false
  pub is23_1 : d ≡ false
  pub is24 : e ≡ false
  pub is25_0 : f ≡ false
  pub is25_1 : g ≡ false

none_holds : (a b c d e f g : Bool)
    → is_none (first_refusal (line a 21 0 ∷ line b 22 0 ∷ line c 23 0 ∷ line d 23 1 ∷ line e 24 0 ∷ line f 25 0 ∷ line g 25 1 ∷ [])) ≡ true
    → AllFalse a b c d e f g
none_holds true b c d e f g h = absurd (clash h refl)
none_holds false true c d e f g h = absurd (clash h refl)
none_holds false false true d e f g h = absurd (clash h refl)
none_holds false false false true e f g h = absurd (clash h refl)
none_holds false false false false true f g h = absurd (clash h refl)
none_holds false false false false false true g h = absurd (clash h refl)
none_holds false false false false false false true h = absurd (clash h refl)
none_holds false false false false false false false h = record {
  is21 = refl;
  is22 = refl;
  is23_0 = refl;
  is23_1 = refl;
  is24 = refl;
  is25_0 = refl;
  is25_1 = refl;
}

pub free_of : (b : Block) (ns : List Net) (n : Net) → accepts b ns n ≡ true → Free b ns n
unfolding accepts add_refused add_lines
free_of b ns n h =
    let f = none_holds (not (good_number n.number)) (holds n.number ns) (not (vertex? b.board n.ends.first))
    (not (vertex? b.board n.ends.second))
    (same n.ends.first n.ends.second) (full b ns n.ends.first) (full b ns n.ends.second) h in
    let k = and_true (leb 1 n.number) (leb n.number 64) (not-false (good_number n.number) f.is21) in
    record {
      low = leb-true 1 n.number k.0;
      high = leb-true n.number 64 k.1;
      new = f.is22;
      first = not-false (vertex? b.board n.ends.first) f.is23_0;
      second = not-false (vertex? b.board n.ends.second) f.is23_1;
      apart = f.is24;
      room_first = leb-false (pins_of b n.ends.first) (terminals (pairs ns) n.ends.first) f.is25_0;
      room_second = leb-false (pins_of b n.ends.second) (terminals (pairs ns) n.ends.second) f.is25_1;
    }

pub free_accepted : (b : Block) (ns : List Net) (n : Net) → Free b ns n → accepts b ns n ≡ true
unfolding accepts add_refused add_lines
free_accepted b ns n f =
    rw (
      le-leb 1 n.number f.low,
      le-leb n.number 64 f.high,
      f.new,
      f.first,
      f.second,
      f.apart,
      lt-leb (pins_of b n.ends.first) (terminals (pairs ns) n.ends.first) f.room_first,
      lt-leb (pins_of b n.ends.second) (terminals (pairs ns) n.ends.second) f.room_second,
    )
    refl
