-- Words written after those that stand in a buffer.
-- Assumes nothing.
use Rattle.std.specs.Prelude.{◌≡◌, refl, List, [], ◌∷◌, ◌++◌, ℕ, ◌+◌, ◌<◌, length, drop, set}
use Rattle.std.proofs.Common.{ap, sym, ◌∙◌, append_assoc, append-nil, arith, length-append, length-drop, length-set}
use Rattle.call_rules.specs.Writing.{written_into}
use Rattle.call_rules.proofs.WritingLaws.{store_next}
use Rattle.board_writing.specs.Buffer.{Continues, Remains}

pub continues_none : (before : List ℕ) (from : ℕ) → Continues [] before before from from
continues_none before from = record {
  index = omega arith;
  buffer = λ ws first e f. f ∙ ap (λ (l : List ℕ). written_into first l) (sym (append-nil ws));
  size = refl;
}

pub continues_one : (before : List ℕ) (from x : ℕ) → from < length before → Continues (x ∷ []) before (set before from x) from (from + 1)
continues_one before from x h = record {
  index = omega arith;
  buffer = λ ws first e f.
      let l = ap length f ∙ length-append ws (drop (length ws) first) in
      store_next ws before first from x e (omega (arith, length-drop (length ws) first)) f;
  size = length-set before from x;
}

pub continues_more : (vs us a b c : List ℕ) (f g h : ℕ) → Continues vs a b f g → Continues us b c g h → Continues (vs ++ us) a c f h
continues_more vs us a b c f g h X Y = record {
  index = omega (arith, X.index, Y.index, length-append vs us);
  buffer = λ ws first e z.
      let l : length (ws ++ vs) ≡ g = omega (arith, X.index, length-append ws vs) in
      Y.buffer (ws ++ vs) first l (X.buffer ws first e z) ∙ ap (λ (k : List ℕ). written_into first k) (append_assoc ws vs us);
  size = Y.size ∙ X.size;
}

-- ── in a loop, by what is still to be written ──
pub remains_next : (vs us all before a b : List ℕ) (from f g : ℕ) → Remains (vs ++ us) all before a from f → Continues vs a b f g
    → Remains us all before b from g
remains_next vs us all before a b from f g R X after r Y = R after r (continues_more vs us a b after f g r X Y)

pub remains_none : (all before a : List ℕ) (from at : ℕ) → Remains [] all before a from at → Continues all before a from at
remains_none all before a from at R = R a at (continues_none a at)
