-- The pass that adds the nets of a list of words: it is that of the definition of reading.
-- Assumes nothing.
use Rattle.std.specs.Prelude.{◌≡◌, ℕ, zero, suc, ◌+◌, ◌<◌, length, drop, get_or, replicate}
use Rattle.std.proofs.Math.Path.{refl, ap}
use Rattle.std.proofs.Common.{sym, ◌∙◌, arith, length-set}
use Rattle.std.proofs.Math.Bool.{Bool, true, false}
use mathlib.Core.List.{List, []}
use Rattle.std.proofs.Math.Option.{Option, none, some}
use Rattle.board.specs.Degree.{vertex?}
use Rattle.board_block.specs.Block.{Block}
use Rattle.net.specs.Terminals.{same}
use Rattle.net.specs.View.{Held, nothing}
use Rattle.net.specs.declared.Net.{Net}
use Rattle.session_rules.specs.Refusal.{Refusal, refusal}
use Rattle.session_rules.specs.Session.{insert, holds}
use Rattle.session_rules.specs.Add.{good_number, full, add_refused, is_none, accepts}
use Rattle.session_laws.proofs.Accept.{free_of}
use Rattle.net_places.specs.Numbered.{replaced}
use Rattle.net_places.specs.Places.{holding, nets_from, nets_of}
use Rattle.net_places.proofs.NetsLaws.{insert_of}
use Rattle.session_answers.specs.Answers.{add_answer, add_refusal}
use Rattle.session_answers.specs.declared.AddRefusal.{AddRefusal}
use Rattle.session_answers.specs.declared.AddRefusal.TheVariants.{Unsound}
use Rattle.session_rules.specs.Machine.{refused}
use Rattle.std.specs.Prelude.{Result, Ok, Err, is_ok, not}
use Rattle.count.specs.TruthLaws.{clash}
use Rattle.session_add.specs.Check.{answered, check_answer, check_accepts}
use Rattle.session_add.specs.Lines.{first_of, check_of}
use Rattle.words.specs.BoardWord.{board_word}
use Rattle.words.specs.declared.BoardWord.{BoardWord}
use Rattle.words.specs.declared.BoardWord.TheVariants as word
use Rattle.call_rules.specs.Result.{no, yes}
use Rattle.call_rules.specs.Reading.{Listed, add_listed}
use Rattle.board_reading.specs.Listed.{list_then, listed}
use Rattle.board_reading.proofs.ListedLaws.{listed_more, listed_none}
use Rattle.board_reading.specs.Adding.{number_in, net_answer, Adding}
use Rattle.board_reading.specs.declared.NetFault.{NetFault}

-- ── the code's answer to add is the definition's refusal, and has its number ──
first-sound : (a b c d e f g : Bool) → first_of a b c d e f g ≡ Err Unsound → ⊥
unfolding first_of
first-sound true b c d e f g h = let z : ◌≡◌ {A = ℕ} 0 1 = cc in omega arith
first-sound false true c d e f g h = let z : ◌≡◌ {A = ℕ} 0 1 = cc in omega arith
first-sound false false true d e f g h = let z : ◌≡◌ {A = ℕ} 0 1 = cc in omega arith
first-sound false false false true e f g h = let z : ◌≡◌ {A = ℕ} 0 1 = cc in omega arith
first-sound false false false false true f g h = let z : ◌≡◌ {A = ℕ} 0 1 = cc in omega arith
first-sound false false false false false true g h = let z : ◌≡◌ {A = ℕ} 0 1 = cc in omega arith
first-sound false false false false false false true h = let z : ◌≡◌ {A = ℕ} 0 1 = cc in omega arith
first-sound false false false false false false false h = let z : ◌≡◌ {A = ℕ} 0 1 = cc in omega arith

module _ (b : Block) (ns : List Net) (n : Net) (a : Result Unit AddRefusal) (e : a ≡ check_of b ns n) where
  pub answer-none : is_ok a ≡ true → add_refused b ns n ≡ none
  unfolding accepts
  answer-none h = go (add_refused b ns n) (sym (check_accepts b ns n) ∙ (sym (ap is_ok e) ∙ h))
    where
      go : (o : Option Refusal) → is_none o ≡ true → o ≡ none
      go none f = refl
      go (some r) f = absurd (clash f refl)

  pub answer-some : (r : AddRefusal) → a ≡ Err r → add_refused b ns n ≡ some (add_refusal r)
  answer-some r h = go (add_refused b ns n) (sym (ap add_answer h) ∙ (ap add_answer e ∙ check_answer b ns n))
    where
      go : (o : Option Refusal) → refused (add_refusal r) ≡ answered o → o ≡ some (add_refusal r)
      go none f = absurd (let z : ◌≡◌ {A = ℕ} 0 1 = cc in omega arith)
      go (some q) f = cc

  pub number-none : a ≡ Ok tt → none ≡ number_in (add_refused b ns n)
  number-none h = rw (answer-none (ap is_ok h)) refl

  pub number-some : (r : AddRefusal) → a ≡ Err r → some (add_refusal r).number ≡ number_in (add_refused b ns n)
  number-some r h = rw (answer-some r h) refl

  -- no session is asked
  pub never-unsound : a ≡ Err Unsound → ⊥
  unfolding check_of first_of
  never-unsound h =
      first-sound (not (good_number n.number)) (holds n.number ns) (not (vertex? b.board n.ends.first))
      (not (vertex? b.board n.ends.second))
      (same n.ends.first n.ends.second) (full b ns n.ends.first) (full b ns n.ends.second) (sym e ∙ h)

-- a net with no fault is not refused
pub fault-none : (a : Result Unit NetFault) → is_ok a ≡ true → none ≡ net_answer a
fault-none (Ok u) h = refl
fault-none (Err f) h = absurd (clash h refl)

pub none-number : (o : Option Refusal) → none ≡ number_in o → o ≡ none
none-number none h = refl
none-number (some r) h = absurd (let z : ◌≡◌ {A = ℕ} 0 1 = cc in omega arith)

-- DEFINITION: the word says no net
abbrev pub NoNet : BoardWord → Type 0
NoNet w = (n : Net) → w ≡ word.Net n → ⊥

none_listed : (i : ℕ) (w : BoardWord) (ls : List Listed) → NoNet w → list_then i w ls ≡ ls
none_listed i (word.Row r) ls f = refl
none_listed i (word.Taken p) ls f = refl
none_listed i (word.Net n) ls f = absurd (f n refl)
none_listed i (word.End c) ls f = refl
none_listed i word.Unknown ls f = refl

-- the places with a net more
net_size : (ps : List Held) (k : ℕ) (p : Held) → length (replaced ps k p) ≡ length ps
net_size ps zero p = refl
net_size ps (suc k) p = length-set ps k p

net-added : (b : Block) (ps : List Held) → length ps ≡ 64 → (n : Net) → add_refused b (nets_of ps) n ≡ none
    → nets_of (replaced ps n.number (holding n.ends)) ≡ insert n (nets_of ps)
unfolding accepts
net-added b ps size n e =
    let f = free_of b (nets_of ps) n (let a : is_none (add_refused b (nets_of ps) n) ≡ true = rw e refl in a) in
    insert_of ps n f.low (omega (arith, f.high)) f.new

pub adding_start : (b : Block) (ws : List ℕ) → Adding b ws 0 (replicate 64 nothing)
unfolding nets_of nets_from
adding_start b ws = record { rest = refl; size = refl }

module _ (b : Block) (ws : List ℕ) (i : ℕ) (ps : List Held) (A : Adding b ws i ps) where
  module _ (h : i < length ws) where
    nets-here : add_listed b [] (listed 0 ws)
        ≡ add_listed b (nets_of ps) (list_then i (board_word (get_or ws i 0)) (listed (i + 1) (drop (i + 1) ws)))
    nets-here = A.rest ∙ ap (add_listed b (nets_of ps)) (listed_more ws i h)

    -- a net that is accepted
    pub adding-net : (n : Net) → board_word (get_or ws i 0) ≡ word.Net n → add_refused b (nets_of ps) n ≡ none
        → Adding b ws (i + 1) (replaced ps n.number (holding n.ends))
    unfolding add_listed
    adding-net n e f = record {
      rest = nets-here ∙ rw (e, f, net-added b ps A.size n f) refl;
      size = net_size ps n.number (holding n.ends) ∙ A.size;
    }

    -- another word is passed over
    pub adding-other : NoNet (board_word (get_or ws i 0)) → Adding b ws (i + 1) ps
    adding-other f = record {
      rest = nets-here ∙ ap (add_listed b (nets_of ps)) (none_listed i (board_word (get_or ws i 0)) (listed (i + 1) (drop (i + 1) ws)) f);
      size = A.size;
    }

    pub adding-refused : (n : Net) → board_word (get_or ws i 0) ≡ word.Net n → (k : ℕ) → some k ≡ number_in (add_refused b (nets_of ps) n)
        → add_listed b [] (listed 0 ws) ≡ no (refusal k i)
    unfolding add_listed
    adding-refused n e k f = nets-here ∙ rw e (go (add_refused b (nets_of ps) n) refl f)
      where
        go : (o : Option Refusal) → add_refused b (nets_of ps) n ≡ o → some k ≡ number_in o
            → add_listed b (nets_of ps) (list_then i (word.Net n) (listed (i + 1) (drop (i + 1) ws))) ≡ no (refusal k i)
        go none g h = absurd (let z : ◌≡◌ {A = ℕ} 0 1 = cc in omega arith)
        go (some r) g h = let s : k ≡ r.number = cc in rw (g, s) refl

  pub adding-end : i ≡ length ws → add_listed b [] (listed 0 ws) ≡ yes (nets_of ps)
  unfolding add_listed
  adding-end e =
      let l : listed i (drop i ws) ≡ [] = rw e (listed_none ws) in
      A.rest ∙ ap (add_listed b (nets_of ps)) l
