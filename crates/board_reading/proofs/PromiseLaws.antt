-- How the parts of reading make up its definition, so that it keeps its promise.
-- Assumes nothing.
use Rattle.std.specs.Prelude.{◌≡◌, Bool, false, List, [], ◌∷◌, ◌++◌, ℕ, ◌-◌, ◌<◌, eqb, leb, length, replicate, take, Ok, Err}
use Rattle.std.proofs.Math.Path.{refl}
use Rattle.std.proofs.Common.{ap, sym, ◌∙◌, arith}
use Rattle.std.proofs.Math.Bool.{true}
use Rattle.std.proofs.Math.Option.{none, some}
use Rattle.std.proofs.Math.Dec.{ltb}
use borrow.Author.Tests.{lt-ltb, leb-true}
use Rattle.count.specs.TruthLaws.{and_true, or_right}
use Rattle.board.specs.Board.{no_row}
use Rattle.board.specs.View.{board_of}
use Rattle.board.specs.declared.Row.{Row}
use Rattle.board.specs.declared.Board as code-board
use Rattle.board_block.specs.Taken.{in_order?}
use Rattle.board_block.specs.View.{taken_of, block_of, none_taken, with_all}
use Rattle.board_block.proofs.ViewLaws.{AllPlaced, taken_all}
use Rattle.board_block.specs.declared.Book.{Book}
use Rattle.board_block.specs.declared.TakenPins.{TakenPins}
use Rattle.board_block.specs.declared.Block as code-block
use Rattle.board_convex.specs.Test.{is_convex}
use Rattle.session_rules.specs.Refusal.{Refusal, refusal, line, first_refusal}
use Rattle.session_rules.specs.Session.{Session, with_nets}
use Rattle.session_rules.specs.Sound.{bare}
use Rattle.net_places.specs.Places.{nets_of}
use Rattle.session.specs.Value.{with_places, fresh_of}
use Rattle.session.specs.View.{session_of}
use Rattle.session.specs.Promise.{FreshPromise}
use Rattle.session.specs.declared.Session as code
use Rattle.call_rules.specs.Result.{Result, no, yes, and_then, unless}
use Rattle.call_rules.specs.Reading.{
  board_limit,
  Parsed,
  nothing_parsed,
  take_words,
  add_listed,
  reverse,
  board_in,
  block_in,
  read_nets,
  read_parsed,
  read_words,
  read_bytes,
  bad_length,
}
use Rattle.words.specs.Bytes.{words_in, uneven}
use Rattle.words_bytes.specs.WordsLaws.{Whole}
use Rattle.board_scan.specs.Promise.{take_all, ScanPromise}
use Rattle.board_scan.specs.Laws.{Follows, refused-scan, taken-scan}
use Rattle.board_scan.specs.Refused.{scan_refusal}
use Rattle.board_scan.specs.declared.Scan.{Scan}
use Rattle.board_scan.specs.declared.ScanRefusal.{ScanRefusal}
use Rattle.board_roundtrip.specs.Parts.{PinsFit}
use Rattle.board_roundtrip.specs.Accepted.{taken_said}
use Rattle.board_reading.specs.Value.{board_value, block_value, value_for}
use Rattle.board_reading.proofs.ValueLaws.{places-for}
use Rattle.board_reading.specs.Listed.{listed}
use Rattle.board_reading.proofs.ListedLaws.{taken_nets}
use Rattle.board_reading.specs.Pins.{pins_in, lines_in, PinsPromise}
use Rattle.board_reading.proofs.PinsLaws.{taken-pins, taken-lines}
use Rattle.board_reading.specs.Adding.{AllPromise}
use Rattle.board_reading.specs.Refused.{read_refusal}
use Rattle.board_reading.specs.declared.ReadRefusal.{ReadRefusal}
use Rattle.board_reading.specs.Promise.{SessionPromise}
use Rattle.net.specs.View.{Held}

-- ── reading in its parts ──
pub read_parts : (ws : List ℕ) → read_words ws ≡ and_then (take_all ws) read_parsed
unfolding read_words
read_parts ws = go (bad_length ws)
  where
    go : (b : Bool) → unless (first_refusal (line b 11 0 ∷ [])) (and_then (take_words 0 nothing_parsed ws) read_parsed)
        ≡ and_then (unless (first_refusal (line b 11 0 ∷ [])) (take_words 0 nothing_parsed ws)) read_parsed
    go true = refl
    go false = refl

pub words-refused : (ws : List ℕ) (r : Refusal) → take_all ws ≡ no r → read_words ws ≡ no r
words-refused ws r e = read_parts ws ∙ rw e refl

module _ (ws : List ℕ) (t : Parsed) (T : take_all ws ≡ yes t) where
  taken-words : take_words 0 nothing_parsed ws ≡ yes t
  taken-words = go (bad_length ws) T
    where
      go : (b : Bool) → unless (first_refusal (line b 11 0 ∷ [])) (take_words 0 nothing_parsed ws) ≡ yes t → take_words 0 nothing_parsed ws ≡ yes t
      go true e = absurd (let z : ◌≡◌ {A = ℕ} 0 1 = cc in omega arith)
      go false e = e

  nets-listed : reverse t.nets [] ≡ listed 0 ws
  nets-listed = taken_nets ws 0 nothing_parsed t taken-words

  pub convex-refused : is_convex (board_in t) ≡ false → read_words ws ≡ no (refusal 16 0)
  unfolding read_parsed
  convex-refused e = read_parts ws ∙ rw (T, e) refl

  -- 38 as the pass over the words tells it
  module _ (e : is_convex (board_in t) ≡ true) where
    taken-read : read_parsed t ≡ unless (first_refusal (lines_in t.book (board_in t) 0 ws)) (read_nets t)
    unfolding read_parsed
    taken-read = rw (e, taken-lines ws t taken-words t.book (board_in t)) refl

    pub pins-refused : (r : Refusal) → first_refusal (lines_in t.book (board_in t) 0 ws) ≡ some r → read_words ws ≡ no r
    pins-refused r p = read_parts ws ∙ rw (T, taken-read, p) refl

    pub nets-refused : first_refusal (lines_in t.book (board_in t) 0 ws) ≡ none → (r : Refusal) → add_listed (block_in t) [] (listed 0 ws) ≡ no r
        → read_words ws ≡ no r
    unfolding read_nets
    nets-refused p r f = read_parts ws ∙ rw (T, taken-read, p, nets-listed, f) refl

    pub all_read : first_refusal (lines_in t.book (board_in t) 0 ws) ≡ none → (ps : List Held)
        → add_listed (block_in t) [] (listed 0 ws) ≡ yes (nets_of ps) → read_words ws ≡ yes (with_nets (bare (block_in t)) (nets_of ps) [])
    unfolding read_nets
    all_read p ps f = read_parts ws ∙ rw (T, taken-read, p, nets-listed, f) refl

  -- the array of the pass stands for the taken pins
  placed : (ps : List TakenPins) → PinsFit ps → AllPlaced ps
  placed [] h = tt
  placed (p ∷ ps) h =
      let f = h.0 in (
        record {
          line = f.1.0;
          column = f.1.1;
          some = leb-true 1 p.count (and_true (leb 1 p.count) (leb p.count 2) f.0).0;
        },
        placed ps h.1,
      )

  pub array-stands : taken_of (with_all none_taken (pins_in ws)) ≡ t.pins
  unfolding in_order?
  array-stands =
      let s = taken_said ws 0 nothing_parsed t refl refl tt tt taken-words in
      rw (← taken-pins ws t taken-words) (taken_all t.pins (placed t.pins s.fit) s.ordered)

-- ── the value that is handed back ──
board-value : (b : code-board.Board) (rs : List Row) → b.count ≡ length rs → b.rows ≡ rs ++ replicate (31 - length rs) no_row → b ≡ board_value rs
board-value b rs e f = λ i. record { count = e i; rows = f i }

pub read_done : (x : Result Session) (t : Parsed) (b : code-board.Board) (k : Book) (a : List ℕ) (ps : List Held)
    (s : code.Session)
    → board_of b ≡ board_in t → b.count ≡ length t.rows → b.rows ≡ t.rows ++ replicate (31 - length t.rows) no_row
    → k ≡ t.book → taken_of a ≡ t.pins → a ≡ with_all none_taken t.pins
    → length ps ≡ 64 → FreshPromise (record { board = b; book = k; taken = a }) s → x ≡ yes (with_nets (bare (block_in t)) (nets_of ps) [])
    → SessionPromise x (Ok (with_places s ps s.pile))
unfolding value_for fresh_of
read_done x t b k a ps s e c r d p m l f h =
    let v : b ≡ board_value t.rows = board-value b t.rows c r in
    let same : s ≡ fresh_of (block_value (block_in t)) = f.value ∙ (λ i. fresh_of (record { board = v i; book = d i; taken = m i })) in
    let start : session_of s ≡ bare (block_in t) = f.bare ∙ (λ i. bare (record { board = e i; book = d i; taken = p i })) in
    rw h (
      λ i. yes (with_nets (sym start i) (nets_of ps) (sym start i).pile),
      λ i. with_places (same i) (sym (places-for ps l) i) (same i).pile,
    )

-- ── what the scan and the two passes over the words promise, put together ──
pub scan-refused : (ws : List ℕ) (e : ScanRefusal) → ScanPromise ws (Err e) → read_words ws ≡ no (scan_refusal e)
scan-refused ws e P = words-refused ws (scan_refusal e) (refused-scan ws e P)

module _ (ws : List ℕ) (s : Scan) (S : ScanPromise ws (Ok s)) where
  pub bent-refused : is_convex (board_of s.board) ≡ false → read_words ws ≡ no (refusal 16 0)
  bent-refused e = let t = taken-scan ws s S in convex-refused ws t.0 t.1 (rw t.2.board-is at e)

  module _ (e : is_convex (board_of s.board) ≡ true) where
    pub pin-refused : (r : ReadRefusal) → PinsPromise s.book (board_of s.board) ws (Err r) → read_words ws ≡ no (read_refusal r)
    pin-refused r P =
        let t = taken-scan ws s S in
        pins-refused ws t.0 t.1 (rw t.2.board-is at e) (read_refusal r) (rw (t.2.book_is, t.2.board-is) at P)

    -- none is taken too many: the block that was read
    module _ (a : List ℕ) (P : PinsPromise s.book (board_of s.board) ws (Ok a)) where
      abbrev block : code-block.Block
      block = record { board = s.board; book = s.book; taken = a }

      -- DEFINITION: the words say t, its board is convex, no pin of it gets 38, and the block stands for its block
      record Stands (t : Parsed) : Type 0 where
        says : take_all ws ≡ yes t
        convex : is_convex (board_in t) ≡ true
        fits : first_refusal (lines_in t.book (board_in t) 0 ws) ≡ none
        follows : Follows t s
        array : a ≡ with_all none_taken t.pins
        pins : taken_of a ≡ t.pins

      stands : (t : Parsed) × Stands t
      stands =
          let t = taken-scan ws s S in
          let w = taken-words ws t.0 t.1 in (
            t.0,
            record {
              says = t.1;
              convex = rw t.2.board-is at e;
              fits = rw (t.2.book_is, t.2.board-is) at P.0;
              follows = t.2;
              array = P.1 ∙ ap (with_all none_taken) (sym (taken-pins ws t.0 w));
              pins = ap taken_of P.1 ∙ array-stands ws t.0 t.1;
            },
          )

      block-is : (t : Parsed) → Stands t → block_of block ≡ block_in t
      block-is t s = λ i. record { board = s.follows.board-is i; book = s.follows.book_is i; taken = s.pins i }

      pub net-refused : (r : ReadRefusal) → AllPromise (block_of block) ws (Err r) → read_words ws ≡ no (read_refusal r)
      net-refused r A =
          let t = stands.0 in let q = stands.1 in
          nets-refused ws t q.says q.convex q.fits (read_refusal r) (rw (block-is t q) at A)

      pub session-read : (ps : List Held) → AllPromise (block_of block) ws (Ok ps) → (f : code.Session) → FreshPromise block f
          → SessionPromise (read_words ws) (Ok (with_places f ps f.pile))
      session-read ps A f F =
          let t = stands.0 in let q = stands.1 in let w = q.follows in
          read_done (read_words ws) t s.board s.book a ps f w.board-is w.count_is w.array_is w.book_is
          q.pins q.array A.1 F
          (all_read ws t q.says q.convex q.fits ps (rw (block-is t q) at A.0))

-- ── from bytes ──
module _ (bs : List ℕ) where
  pub bytes-uneven : uneven bs ≡ true → read_bytes bs ≡ no (refusal 10 0)
  unfolding read_bytes
  bytes-uneven h = rw h refl

  pub bytes_even : uneven bs ≡ false → read_bytes bs ≡ read_words (words_in bs)
  unfolding read_bytes
  bytes_even h = rw h refl

  pub bytes-long : uneven bs ≡ false → board_limit < length (words_in bs) → read_bytes bs ≡ no (refusal 11 0)
  unfolding read_words
  bytes-long h k =
      let l : ltb board_limit (length (words_in bs)) ≡ true = lt-ltb board_limit (length (words_in bs)) k in
      let b : bad_length (words_in bs) ≡ true = or_right (eqb (length (words_in bs)) 0) (ltb board_limit (length (words_in bs))) l in
      bytes_even h ∙ rw b refl

  -- the words in the buffer are all of them
  pub bytes-words : {n : ℕ} {after : List ℕ} → Whole bs n after → read_bytes bs ≡ read_words (take n after)
  bytes-words h = bytes_even h.even ∙ ap read_words (sym h.words)
