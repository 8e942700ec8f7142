-- Words that are read as a session are its words, and it is sound, with an empty pile.
-- Assumes that the words are accepted.
use Rattle.std.specs.Prelude.{◌≡◌, refl, true, not, List, [], ◌∷◌, ◌++◌, map, ℕ, length}
use Rattle.std.proofs.Common.{ap, sym, ◌∙◌, subst, arith}
use Rattle.std.proofs.Math.Option.{none}
use Rattle.std.proofs.lemmas.Bool.{not-false}
use Rattle.count.specs.TruthLaws.{and_yes}
use Rattle.board_convex.specs.Test.{is_convex}
use Rattle.board_convex.proofs.Exact.{is-convex}
use Rattle.board_block.specs.Taken.{in_order?, all_there?, taken_fine?}
use Rattle.net.specs.declared.Net.{Net}
use Rattle.session_rules.specs.Refusal.{line, first_refusal}
use Rattle.session_rules.specs.Session.{nothing_kept, Session, with_nets}
use Rattle.session_rules.specs.Sound.{bare, Sound, addable?, lifts?}
use Rattle.session_laws.proofs.Stays.{fresh_bare}
use Rattle.session_laws.specs.Rising.{From}
use Rattle.session_laws.proofs.Rising.{from_rising}
use Rattle.words.specs.BoardWord.{row_word, taken_word, end_word}
use Rattle.call_rules.specs.Result.{yes, and_then}
use Rattle.call_rules.specs.Reading.{
  Parsed,
  nothing_parsed,
  take_words,
  add_listed,
  reverse,
  board_in,
  block_in,
  read_nets,
  pin_lines,
  read_parsed,
  bad_length,
  read_words,
}
use Rattle.call_rules.specs.Writing.{board_words}
use Rattle.board_roundtrip.specs.Parts.{nets_in, said}
use Rattle.call_rules.proofs.Results.{yes_same, passed, line_passed, then_yes}
use Rattle.board_roundtrip.specs.Pins.{lines_there}
use Rattle.board_roundtrip.specs.Adds.{listed_addable}
use Rattle.board_roundtrip.specs.Accepted.{taken_said, falling_from, then_reverse, length_reverse}

-- DEFINITION: these are the words of the session, which is sound and has an empty pile and nothing kept
pub record Holds (ws : List ℕ) (s : Session) : Type 0 where
  pub words : board_words s ≡ ws
  pub sound : Sound s
  pub bare_pile : s.pile ≡ []
  pub none_kept : s.names ≡ nothing_kept

-- DEFINITION: the session of what was taken
abbrev session_in : Parsed → Session
session_in u = with_nets (bare (block_in u)) (nets_in (reverse u.nets [])) []

-- its words are those that were taken
session_words : (u : Parsed) → board_words (session_in u) ≡ said u (end_word u.book (length u.rows) (length u.nets) ∷ [])
unfolding board_words
session_words u =
    let e : length (nets_in (reverse u.nets [])) ≡ length u.nets = omega (arith, length_reverse u.nets []) in
    rw e (ap (λ (l : List ℕ). map row_word u.rows ++ (map taken_word u.pins ++ l))
    (sym (then_reverse u.nets [] (end_word u.book (length u.rows) (length u.nets) ∷ []))))

-- and it is sound
session-sound : (u : Parsed) → is_convex (board_in u) ≡ true → taken_fine? (block_in u) ≡ true → From 0 (nets_in (reverse u.nets []))
    → addable? (block_in u) [] (nets_in (reverse u.nets [])) ≡ true → Sound (session_in u)
unfolding lifts?
session-sound u c t f a = let k = (is-convex (board_in u)).0 c in let start = (fresh_bare (block_in u) k.0 k.1 t).sound in record {
  within = k.0;
  convex = k.1;
  taken = t;
  rising = from_rising (nets_in (reverse u.nets [])) f;
  addable = a;
  short = omega arith;
  lifts = refl;
  eight = start.eight;
  kept_rising = start.kept_rising;
  kept_addable = start.kept_addable;
}

taken_holds : (ws : List ℕ) (u : Parsed) (ns : List Net) → take_words 0 nothing_parsed ws ≡ yes u → is_convex (board_in u) ≡ true
    → first_refusal (pin_lines u.book (board_in u) (length u.rows) u.pins) ≡ none → add_listed (block_in u) [] (reverse u.nets []) ≡ yes ns
    → Holds ws (with_nets (bare (block_in u)) ns [])
unfolding in_order?
taken_holds ws u ns e c l n =
    let t = taken_said ws 0 nothing_parsed u refl refl tt tt e in
    let there = lines_there u.book (board_in u) (length u.rows) u.pins t.fit l in
    let p = and_yes (in_order? u.pins) (all_there? u.book (board_in u) u.pins) t.ordered there in
    let f = falling_from u.nets [] t.falling tt in
    let a = listed_addable (block_in u) [] (reverse u.nets []) ns 0 tt f n in
    rw a.0 (record { words = session_words u ∙ sym t.words; sound = session-sound u c p f a.1; bare_pile = refl; none_kept = refl })

read_taken : (ws : List ℕ) (u : Parsed) (s : Session) → take_words 0 nothing_parsed ws ≡ yes u → read_parsed u ≡ yes s → Holds ws s
unfolding read_parsed read_nets
read_taken ws u s e r =
    let b = board_in u in let pins = pin_lines u.book b (length u.rows) u.pins in
    let p = passed (first_refusal (line (not (is_convex b)) 16 0 ∷ pins)) (read_nets u) s r in
    let l = line_passed (not (is_convex b)) 16 0 pins p.0 in
    let v = then_yes (add_listed (block_in u) [] (reverse u.nets [])) (λ (ns : List Net). yes (with_nets (bare (block_in u)) ns [])) s p.1 in
    subst (λ (x : Session). Holds ws x) (yes_same (with_nets (bare (block_in u)) v.0 []) s v.2)
    (taken_holds ws u v.0 e (not-false (is_convex b) l.0) l.1 v.1)

pub read_holds : (ws : List ℕ) (s : Session) → read_words ws ≡ yes s → Holds ws s
unfolding read_words
read_holds ws s e =
    let p = passed (first_refusal (line (bad_length ws) 11 0 ∷ [])) (and_then (take_words 0 nothing_parsed ws) read_parsed) s e in
    let q = then_yes (take_words 0 nothing_parsed ws) read_parsed s p.1 in
    read_taken ws q.0 s q.1 q.2
