-- The words of a sound session are read as its board, with its book and taken pins, and its nets.
-- Assumes that the session is sound.
use Rattle.std.specs.Prelude.{◌≡◌, true, ℕ, ◌+◌, ◌≤◌}
use Rattle.std.proofs.Math.Path.{refl}
use Rattle.std.proofs.Common.{ap, ◌∙◌, length-append}
use mathlib.Core.List.{List, [], ◌∷◌, ◌++◌, map, append-nil}
use native.Mathlib.Omega.{arith}
use Rattle.std.proofs.Math.ListN.{length}
use Rattle.std.proofs.lemmas.List.{length-map}
use borrow.Author.Tests.{ne_eqb, le-ltb}
use Rattle.count.specs.TruthLaws.{and_true}
use Rattle.board_block.specs.Taken.{in_order?, all_there?}
use Rattle.board_convex.proofs.Exact.{is-convex}
use Rattle.net.specs.declared.Net.{Net}
use Rattle.session_rules.specs.Session.{Session}
use Rattle.session_rules.specs.Sound.{Sound, addable?}
use Rattle.session_laws.specs.Rising.{From}
use Rattle.session_laws.proofs.Stays.{sound_fine}
use Rattle.words.specs.BoardWord.{row_word, taken_word, net_word, end_word}
use Rattle.call_rules.specs.Result.{yes}
use Rattle.call_rules.specs.Reading.{board_limit, nothing_parsed, take_words, add_listed, reverse, read_nets, read_parsed, read_words}
use Rattle.call_rules.specs.Writing.{board_words}
use Rattle.board_roundtrip.specs.Parts.{ended, nets_in, listed_from, listed_onto, as_read}
use Rattle.board_roundtrip.specs.Pins.{there_lines}
use Rattle.board_roundtrip.specs.Adds.{addable_listed}
use Rattle.board_roundtrip.specs.Packed.{take_rows, take_pins, take_nets, take_end, length_onto, reverse_onto, nets-from}
use Rattle.session_laws.proofs.Few.{few_nets, few_taken}
use Rattle.board_roundtrip.specs.Fits.{rows-fit, pins_fit, nets_fit}

-- ── their count ──
pub words_length : (s : Session)
    → length (board_words s) ≡ length s.block.board.rows + length s.block.taken + length s.nets + 1
unfolding board_words
words_length s =
    let rs = s.block.board.rows in let ts = s.block.taken in let ns = s.nets in
    let end = end_word s.block.book (length rs) (length ns) ∷ [] in
    omega (
      arith,
      length-append (map row_word rs) (map taken_word ts ++ (map net_word ns ++ end)),
      length-append (map taken_word ts) (map net_word ns ++ end),
      length-append (map net_word ns) end,
      length-map rs row_word,
      length-map ts taken_word,
      length-map ns net_word,
    )

-- DEFINITION: the index of the first net word
abbrev first_net : Session → ℕ
first_net s = length s.block.board.rows + length s.block.taken

module _ (s : Session) (h : Sound s) where
  few : length s.nets ≤ 64
  few = let f = sound_fine s h in few_nets s.block s.nets f.rising f.good

  pub words_few : length (board_words s) ≤ board_limit
  words_few = omega (arith, words_length s, few, h.within.few, few_taken s.block h.within h.convex h.taken)

  -- ── they are taken one by one ──
  pins-fine : (in_order? s.block.taken ≡ true) × (all_there? s.block.book s.block.board s.block.taken ≡ true)
  pins-fine = and_true (in_order? s.block.taken) (all_there? s.block.book s.block.board s.block.taken) h.taken

  written-taken : take_words 0 nothing_parsed (board_words s)
      ≡ yes (ended s.block.book s.block.board.rows s.block.taken (listed_onto (first_net s) s.nets []))
  unfolding board_words
  written-taken =
      let rs = s.block.board.rows in let ts = s.block.taken in let ns = s.nets in let i = first_net s in
      let f = sound_fine s h in let w = h.within in
      let some = w.some in let most = w.few in let nets = few in
      let z : 0 + length rs ≡ length rs = omega arith in
      let l : length (listed_onto i ns []) ≡ length ns = omega (arith, length_onto ns i []) in
      let end = end_word s.block.book (length rs) (length ns) ∷ [] in
      take_rows rs [] 0 (map taken_word ts ++ (map net_word ns ++ end)) (rows-fit s.block.board w) (omega arith)
      ∙ rw z (take_pins ts [] (length rs) rs (map net_word ns ++ end) (omega arith) (pins_fit s.block w h.taken) pins-fine.0)
      ∙ take_nets ns i 0 rs ts [] end (omega arith) (nets_fit s.block ns w f.good) f.rising (λ j p. refl)
      ∙ take_end s.block.book (i + length ns) rs ts (listed_onto i ns []) (length ns) (omega arith) (omega arith) (omega arith) l

  -- ── the board is convex, the taken pins are there, and each net is accepted ──
  listed-all : (i : ℕ) → add_listed s.block [] (reverse (listed_onto i s.nets []) []) ≡ yes s.nets
  listed-all i =
      let ns = s.nets in let e = nets-from ns i in
      let f : From 0 (nets_in (listed_from i ns)) = rw e (sound_fine s h).rising in
      let a : addable? s.block [] (nets_in (listed_from i ns)) ≡ true = rw e h.addable in
      rw (reverse_onto ns i [] [], append-nil (listed_from i ns))
      (addable_listed s.block [] (listed_from i ns) 0 tt f a ∙ ap (λ (ms : List Net). yes ms) e)

  taken-read : (i : ℕ)
      → read_parsed (ended s.block.book s.block.board.rows s.block.taken (listed_onto i s.nets [])) ≡ yes (as_read s)
  unfolding read_parsed read_nets
  taken-read i =
      let b = s.block.board in
      rw (
        (is-convex b).1 (h.within, h.convex),
        there_lines s.block.book b (length b.rows) s.block.taken pins-fine.1,
        listed-all i,
      ) refl

  pub words-read : read_words (board_words s) ≡ yes (as_read s)
  unfolding read_words
  words-read =
      let n = length (board_words s) in
      rw (ne_eqb n 0 (λ e. omega (arith, words_length s)), le-ltb board_limit n words_few, written-taken) (taken-read (first_net s))
