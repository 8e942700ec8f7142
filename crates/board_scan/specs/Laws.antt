-- What is known of a scan that was promised: with its refusal the words are refused, or it holds the board that they say.
-- Assumes nothing.
use Rattle.std.specs.Prelude as prelude
use Rattle.std.specs.Prelude.{◌≡◌, refl, List, ◌++◌, map, ℕ, ◌+◌, ◌-◌, ◌<◌, length, get_or, replicate}
use Rattle.std.proofs.Common.{ap, ◌∙◌, arith, ext_get_or}
use Rattle.std.proofs.Math.ListN.{get_or-append}
use Rattle.count.specs.Lists.{up_to, length-rising, getD-rising}
use Rattle.board.specs.Board.{no_row}
use Rattle.board.specs.View.{board_of}
use Rattle.board.specs.declared.Row.{Row}
use Rattle.call_rules.specs.Result.{Result, no, yes, and_then}
use Rattle.call_rules.specs.Reading.{Parsed, board_in}
use Rattle.board_scan.specs.Refused.{scan_refusal}
use Rattle.board_scan.specs.Promise.{take_all, scan_for, ScanPromise}
use Rattle.board_scan.specs.declared.Scan.{Scan}
use Rattle.board_scan.specs.declared.ScanRefusal.{ScanRefusal}

-- ── the board that a scan holds ──
module _ (rs zs : List Row) where
  abbrev row : ℕ → Row
  row i = get_or (rs ++ zs) i no_row

  row_at : (i : ℕ) → i < length (map row (up_to (length rs))) → get_or (map row (up_to (length rs))) i no_row ≡ get_or rs i no_row
  row_at i h =
      let l : i < length rs = omega (arith, length-rising row 0 (length rs)) in let z : 0 + i ≡ i = omega arith in
      getD-rising row 0 (length rs) i no_row l ∙ rw z (get_or-append rs zs no_row i l)

  rows-first : map row (up_to (length rs)) ≡ rs
  rows-first = ext_get_or no_row (map row (up_to (length rs))) rs (length-rising row 0 (length rs)) row_at

-- DEFINITION: the scan s holds the board that t has taken, its array too, and its book
pub record Follows (t : Parsed) (s : Scan) : Type 0 where
  pub board-is : board_of s.board ≡ board_in t
  pub count_is : s.board.count ≡ length t.rows
  pub array_is : s.board.rows ≡ t.rows ++ replicate (31 - length t.rows) no_row
  pub book_is : s.book ≡ t.book

follows : (t : Parsed) → Follows t (scan_for t)
unfolding board_of
follows t = record {
  board-is = ap (λ (rs : List Row). record { rows = rs }) (rows-first t.rows (replicate (31 - length t.rows) no_row));
  count_is = refl;
  array_is = refl;
  book_is = refl;
}

-- ── by the result ──
module _ (ws : List ℕ) where
  pub refused-scan : (e : ScanRefusal) → ScanPromise ws (prelude.Err e) → take_all ws ≡ no (scan_refusal e)
  refused-scan e P = go (take_all ws) P
    where
      go : (x : Result Parsed) → no (scan_refusal e) ≡ and_then x (λ t. yes (scan_for t)) → x ≡ no (scan_refusal e)
      go (yes t) f = absurd (let z : ◌≡◌ {A = ℕ} 0 1 = cc in omega arith)
      go (no r) f = cc

  pub taken-scan : (s : Scan) → ScanPromise ws (prelude.Ok s) → (t : Parsed) × (take_all ws ≡ yes t) × Follows t s
  taken-scan s P = go (take_all ws) refl P
    where
      go : (x : Result Parsed) → take_all ws ≡ x → yes s ≡ and_then x (λ t. yes (scan_for t))
          → (t : Parsed) × (take_all ws ≡ yes t) × Follows t s
      go (yes t) e f = let same : s ≡ scan_for t = cc in (t, e, rw same (follows t))
      go (no r) e f = absurd (let z : ◌≡◌ {A = ℕ} 0 1 = cc in omega arith)
