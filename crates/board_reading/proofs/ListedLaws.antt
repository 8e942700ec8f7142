-- The net words of a list, with their indices: what the definition has taken of them, and how a second pass over the words adds them.
-- Assumes nothing.
use Rattle.std.specs.Prelude.{◌≡◌, refl, not, List, [], ◌∷◌, ◌++◌, ℕ, suc, ◌+◌, ◌<◌, length, drop, get_or}
use Rattle.std.proofs.Common.{ap, sym, ◌∙◌, append_assoc, add-one, drop-cons}
use Rattle.std.proofs.Math.Seq.{drop-length}
use Rattle.session_rules.specs.Refusal.{line, first_refusal}
use Rattle.words.specs.BoardWord.{board_word}
use Rattle.words.specs.declared.BoardWord.{BoardWord}
use Rattle.words.specs.declared.BoardWord.TheVariants as word
use Rattle.call_rules.specs.Result.{yes}
use Rattle.call_rules.proofs.Results.{passed, yes_same}
use Rattle.call_rules.specs.Reading.{Listed, Parsed, word_lines, take, take_words, reverse}
use Rattle.board_reading.specs.Listed.{list_then, listed}

pub listed_more : (ws : List ℕ) (i : ℕ) → i < length ws
    → listed i (drop i ws) ≡ list_then i (board_word (get_or ws i 0)) (listed (i + 1) (drop (i + 1) ws))
unfolding listed
listed_more ws i h = rw (add-one i, drop-cons ws i 0) refl

pub listed_none : (ws : List ℕ) → listed (length ws) (drop (length ws) ws) ≡ []
unfolding listed
listed_none ws = rw (drop-length ws) refl

-- ── they are what the definition has taken ──
reverse_append : (xs ys : List Listed) → reverse xs ys ≡ reverse xs [] ++ ys
reverse_append [] ys = refl
reverse_append (x ∷ xs) ys =
    reverse_append xs (x ∷ ys) ∙ sym (ap (λ (l : List Listed). l ++ ys) (reverse_append xs (x ∷ [])) ∙ append_assoc (reverse xs []) (x ∷ []) ys)

take_nets : (i : ℕ) (t : Parsed) (w : BoardWord) (ls : List Listed) → reverse (take i t w).nets [] ++ ls ≡ reverse t.nets [] ++ list_then i w ls
take_nets i t (word.Row r) ls = refl
take_nets i t (word.Taken p) ls = refl
take_nets i t (word.Net n) ls =
    ap (λ (l : List Listed). l ++ ls) (reverse_append t.nets (record { index = i; net = n } ∷ []))
    ∙ append_assoc (reverse t.nets []) (record { index = i; net = n } ∷ []) ls
take_nets i t (word.End c) ls = refl
take_nets i t word.Unknown ls = refl

append_none : (xs : List Listed) → xs ++ [] ≡ xs
append_none [] = refl
append_none (x ∷ xs) = ap (λ (l : List Listed). x ∷ l) (append_none xs)

pub taken_nets : (ws : List ℕ) (i : ℕ) (t u : Parsed) → take_words i t ws ≡ yes u → reverse u.nets [] ≡ reverse t.nets [] ++ listed i ws
unfolding take_words listed
taken_nets [] i t u e =
    let k = passed (first_refusal (line (not t.ended) 13 i ∷ [])) (yes t) u e in
    let q : t ≡ u = yes_same t u k.1 in
    rw (← q) (sym (append_none (reverse t.nets [])))
taken_nets (w ∷ ws) i t u e =
    let k = passed (first_refusal (word_lines i t (board_word w))) (take_words (suc i) (take i t (board_word w)) ws) u e in
    taken_nets ws (suc i) (take i t (board_word w)) u k.1 ∙ take_nets i t (board_word w) (listed (suc i) ws)
