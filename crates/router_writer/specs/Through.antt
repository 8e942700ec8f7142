-- The words of a routing, place by place: what the buffer holds after so many of the 64 places, and once the end word is there.
-- Assumes nothing.
use Rattle.std.specs.Prelude.{◌≡◌, ℕ, suc, ◌+◌, ◌-◌, ◌*◌, ◌<◌, ◌≤◌, get_or, set, None, Some}
use Rattle.std.proofs.Math.Path.{refl, ap}
use Rattle.std.proofs.Common.{sym, ◌∙◌, length-append, length-take, drop-cons, length-take-le}
use mathlib.Core.List.{List, [], ◌∷◌, ◌++◌}
use native.Mathlib.Omega.{arith}
use Rattle.std.proofs.Math.Numerals.{add-one}
use Rattle.std.proofs.Math.ListN.{take, drop, length, length-drop, drop_of_length-le}
use Rattle.std.proofs.Math.Seq.{take_all}
use Rattle.net.specs.View.{Held, nothing}
use Rattle.net.specs.declared.Net.{Net}
use Rattle.net_places.specs.Places.{held_net, nets_from, nets_of, held_one}
use Rattle.words.specs.RoutingWord.{paths_words, routing_words, routing_end_word}
use Rattle.router_notes.specs.Limits.{path_limit}
use Rattle.router_writer.specs.Written.{Written}
use Rattle.router_writer.specs.Blocks.{take_more, drop_more, block_inside, put_next, part-back}
use Rattle.router_writer.specs.Paths.{paths_from, Short, held_words, HeldShort}

module _ (P : ℕ → List ℕ) where
  -- DEFINITION: the words of the nets ns, whose pairs are numbered from k
  abbrev pub wordsFrom : ℕ → List Net → List ℕ
  wordsFrom k ns = paths_words ns (paths_from P k (length ns))

  -- those of one place in front
  held-words : (number k : ℕ) (h : Held) (ns : List Net)
      → wordsFrom k (held_net number h ns) ≡ held_words number h (P k) ++ wordsFrom (k + held_one h) ns
  unfolding paths_words paths_from
  held-words number k None ns = let e : k + 0 ≡ k = omega arith in rw e refl
  held-words number k (Some p) ns = rw (add-one k) refl

  held-count : (number k : ℕ) (h : Held) (ns : List Net) → k + length (held_net number h ns) ≡ (k + held_one h) + length ns
  held-count number k None ns = omega arith
  held-count number k (Some p) ns = omega arith

  held-short : (number k total : ℕ) (h : Held) (ns : List Net) → k + length (held_net number h ns) ≡ total → Short P total → HeldShort h (P k)
  held-short number k total None ns e s = tt
  held-short number k total (Some p) ns e s = s k (omega arith)

module _ (P : ℕ → List ℕ) (nets : List Held) where
  -- DEFINITION: the nets from place i on, and the words of them all
  abbrev pub Rest : ℕ → List Net
  Rest i = nets_from (i + 1) (drop i nets)

  abbrev pub All : List ℕ
  All = wordsFrom P 0 (nets_of nets)

  -- DEFINITION: `at` words of k nets are written after i places
  pub record Done (before : List ℕ) (at k i : ℕ) (out : List ℕ) : Type 0 where
    pub inside : at ≤ length All
    pub rest : drop at All ≡ wordsFrom P k (Rest i)
    pub text : at ≤ length before → out ≡ take at All ++ drop at before

  pub record Through (before : List ℕ) (at k i : ℕ) (out : List ℕ) : Type 0 where
    pub few : k ≤ i
    pub low : at ≤ (path_limit + 1) * i
    pub same : length out ≡ length before
    pub ids : k + length (Rest i) ≡ length (nets_of nets)
    pub done : Short P (length (nets_of nets)) → Done before at k i out

  pub through-none : (before : List ℕ) → Through before 0 0 0 before
  unfolding nets_of
  through-none before = record {
    few = omega arith;
    low = omega arith;
    same = refl;
    ids = omega arith;
    done = λ s. record { inside = omega arith; rest = refl; text = λ h. refl };
  }

  rest-step : (i : ℕ) → i < length nets → Rest i ≡ held_net (i + 1) (get_or nets i nothing) (Rest (i + 1))
  unfolding nets_from
  rest-step i h = rw (drop-cons nets i nothing h, add-one i, add-one (suc i)) refl

  -- the next place: the part of the buffer from `start` on was lent, and `last` came back
  module _ (before out last : List ℕ) (at k i start r : ℕ) (there : i < length nets) (t : Through before at k i out) (low : start ≤ length out)
      (met : at ≤ length out → start ≡ at) (most : r ≤ path_limit + 1) (kept : length last ≡ length (take (length out - start) (drop start out)))
      (wrote : HeldShort (get_or nets i nothing) (P k)
      → Written (held_words (i + 1) (get_or nets i nothing) (P k)) (take (length out - start) (drop start out)) r last) where
    abbrev h : Held
    h = (get_or nets i nothing)

    abbrev ws : List ℕ
    ws = held_words (i + 1) h (P k)

    abbrev after : List ℕ
    after = take start out ++ (last ++ drop (length out - start) (drop start out))

    ids_next : (k + held_one h) + length (Rest (i + 1)) ≡ length (nets_of nets)
    ids_next = sym (held-count P (i + 1) k h (Rest (i + 1))) ∙ (sym (ap (λ (ns : List Net). k + length ns) (rest-step i there)) ∙ t.ids)

    one_at_most : (x : Held) → held_one x ≤ 1
    one_at_most None = omega arith
    one_at_most (Some p) = omega arith

    length-after : length after ≡ length out
    length-after = simp (length-append, kept, length-take, length-drop) (omega arith)

    done_next : Short P (length (nets_of nets)) → Done before (at + r) (k + held_one h) (i + 1) after
    done_next s =
        let d = t.done s in
        let ids : k + length (held_net (i + 1) h (Rest (i + 1))) ≡ length (nets_of nets) = rw (← rest-step i there) t.ids in
        let w = wrote (held-short P (i + 1) k (length (nets_of nets)) h (Rest (i + 1)) ids s) in
        let next : drop at All ≡ ws ++ wordsFrom P (k + held_one h) (Rest (i + 1)) =
        d.rest ∙ (ap (wordsFrom P k) (rest-step i there) ∙ held-words P (i + 1) k h (Rest (i + 1))) in
        record {
          inside = rw w.counted (block_inside All at ws (wordsFrom P (k + held_one h) (Rest (i + 1))) next d.inside);
          rest = rw w.counted (drop_more All at ws (wordsFrom P (k + held_one h) (Rest (i + 1))) next);
          text = λ fits.
              let room : at + length ws ≤ length before = omega (arith, w.counted) in
              let same : length out ≡ length before = t.same in
              let here : length (take at All) ≡ at = length-take-le at All d.inside in
              let is : out ≡ take at All ++ drop at before = d.text (omega arith) in
              let e : start ≡ at = met (omega arith) in
              let p : length (take (length out - start) (drop start out)) ≡ length out - start = rw (length-take, length-drop) (omega arith) in
              let l : last ≡ ws ++ drop (length ws) (take (length out - start) (drop start out)) = w.text (omega arith) in
              rw (
                e,
                part-back (take at All) before out ws at here is room last (rw e at l),
                w.counted,
                take_more All at ws (wordsFrom P (k + held_one h) (Rest (i + 1))) next,
              ) refl;
        }

    pub through-next : Through before (at + r) (k + held_one h) (i + 1) after
    through-next = record {
      few = omega (arith, t.few, one_at_most h);
      low = omega (arith, t.low);
      same = length-after ∙ t.same;
      ids = ids_next;
      done = done_next;
    }

  -- no place is left: the end word follows
  pub through-all : {before out : List ℕ} {at k i w : ℕ} → Through before at k i out → length nets ≤ i → w ≡ routing_end_word k
      → Short P (length (nets_of nets)) → Written (routing_words (nets_of nets) (paths_from P 0 (length (nets_of nets)))) before (at + 1) (set out at w)
  unfolding routing_words nets_from paths_words
  through-all {before} {out} {at} {k} {i} {w} t h e s =
      let d = t.done s in
      let over : drop i nets ≡ [] = drop_of_length-le nets h in
      let none : Rest i ≡ [] = rw over refl in
      let total : k ≡ length (nets_of nets) = omega (arith, t.ids, ap length none) in
      let left : drop at All ≡ [] = d.rest ∙ rw none refl in
      let all : at ≡ length All = omega (arith, length-drop at All, ap length left, d.inside) in
      let count : at + 1 ≡ length (All ++ (routing_end_word (length (nets_of nets)) ∷ [])) = rw (length-append, ← all) refl in
      record {
        counted = count;
        text = λ fits.
            let room : at + 1 ≤ length before = omega (arith, count) in
            let is : out ≡ take at All ++ drop at before = d.text (omega arith) in
            let whole : take at All ≡ All = take_all at All (omega arith) in
            rw (is, whole, put_next All before at w (sym all) (omega arith), e, total, count) refl;
      }
