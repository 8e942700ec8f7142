-- The walk through a lent list of nets: what holds before each turn, and that it comes to the whole list's value.
-- Assumes nothing.
use Rattle.std.specs.Prelude.{◌≡◌, refl, true, false, List, ℕ, ◌+◌, ◌≤◌, ◌<◌, length, get_or, drop, is_ok}
use Rattle.std.proofs.Common.{sym, ◌∙◌, inl, inr, arith, add-one, drop-cons}
use Rattle.std.proofs.Math.Seq.{drop-length}
use Rattle.count.specs.TruthLaws.{bool}
use Rattle.net.specs.declared.Net.{Net}
use Rattle.session.specs.declared.Session.{Session}
use Rattle.session.specs.declared.After.{After}
use Rattle.session_answers.specs.declared.AddAllAnswer.{AddAllAnswer}
use Rattle.session.specs.Value.{add_sound, none_added, with_net, with_each, add_all_of}
use Rattle.session.proofs.AllKept.{each_refused}

-- DEFINITION: the nets from the i-th on lead from a to what the whole list comes to
pub record Turn (s : Session) (ns : List Net) (i : ℕ) (a : After AddAllAnswer) : Type 0 where
  pub comes_to : with_each a (drop i ns) ≡ add_all_of s ns
  pub within : a.answer.count ≤ i

module _ (s : Session) (ns : List Net) where
  pub turn-first : Turn s ns 0 (none_added s)
  unfolding none_added
  turn-first = record { comes_to = refl; within = omega arith }

  -- after a refusal, or at the end
  pub turn_refused : (i : ℕ) (a : After AddAllAnswer) → Turn s ns i a → is_ok a.answer.last ≡ false → a ≡ add_all_of s ns
  turn_refused i a t f = sym (each_refused (drop i ns) a f) ∙ t.comes_to

  pub turn_last : (a : After AddAllAnswer) → Turn s ns (length ns) a → a ≡ add_all_of s ns
  unfolding with_each
  turn_last a t = rw (drop-length ns) at t.comes_to

  counted : (a : After AddAllAnswer) (n : Net) → (with_net a n).answer.count ≤ a.answer.count + 1
  unfolding with_net
  counted a n = elim (bool (is_ok (add_sound a.session n).answer)) [ inl e ↦ rw e (omega arith) | inr e ↦ rw e (omega arith) ]

  pub turn-next : (i : ℕ) (a : After AddAllAnswer) (d : Net) → i < length ns → Turn s ns i a → is_ok a.answer.last ≡ true
      → Turn s ns (i + 1) (with_net a (get_or ns i d))
  unfolding with_each
  turn-next i a d h t f = record {
    comes_to = rw add-one (rw (drop-cons ns i d h, f) at t.comes_to);
    within = let c = counted a (get_or ns i d) in let w = t.within in omega arith;
  }
