-- The words of a path, run by run: what the buffer holds after so many runs, and once the path word stands in front of them.
-- Assumes nothing.
use Rattle.std.specs.Prelude.{◌≡◌, refl, List, [], ◌∷◌, ◌++◌, map, ℕ, ◌+◌, ◌≤◌, get_or, set, take, drop, length}
use Rattle.std.proofs.Common.{ap, sym, ◌∙◌, append_assoc, append-nil, arith, add-one, length-append, length-drop, length-set, take-append-drop, drop_of_length-le, take_all, length-take-le}
use Rattle.std.proofs.lemmas.List.{length-map}
use Rattle.net.specs.declared.Net.{Net}
use Rattle.words.specs.RoutingWord.{direction, run, runs_of, run_word, path_word, path_words}
use Rattle.words.specs.RunLaws.{runs_few}
use Rattle.words.specs.declared.Run.{Run}
use Rattle.router_writer.specs.Written.{directions, RunAt, Written}
use Rattle.router_writer.specs.Blocks.{take_more, drop_more, block_inside, put_next}

-- DEFINITION: the runs of the path that bytes stand for
abbrev pub all_runs : List ℕ → List Run
all_runs bytes = runs_of (directions bytes)

-- DEFINITION: the buffer before, with the words of the first n runs after its first word
abbrev pub with_runs : (bytes before : List ℕ) (n : ℕ) → List ℕ
with_runs bytes before n = (take 1 before ++ map run_word (take n (all_runs bytes))) ++ drop (n + 1) before

-- DEFINITION: so many runs are written, and the scan stands at `from`
pub record Partly (bytes before : List ℕ) (n from : ℕ) (out : List ℕ) : Type 0 where
  pub few : n ≤ from
  pub within : from ≤ length bytes
  pub inside : n ≤ length (all_runs bytes)
  pub rest : drop n (all_runs bytes) ≡ all_runs (drop from bytes)
  pub same : length out ≡ length before
  pub text : n + 1 ≤ length before → out ≡ with_runs bytes before n

pub partly_none : (bytes before : List ℕ) → Partly bytes before 0 0 before
partly_none bytes before = record {
  few = omega arith;
  within = omega arith;
  inside = omega arith;
  rest = refl;
  same = refl;
  text = λ h. rw append-nil (sym (take-append-drop 1 before));
}

map_join : {A B : Type 0} (f : A → B) (xs ys : List A) → map f (xs ++ ys) ≡ map f xs ++ map f ys
map_join f [] ys = refl
map_join {B = B} f (x ∷ xs) ys = ap (λ (t : List B). f x ∷ t) (map_join f xs ys)

-- the words that stand there already
length_with : (bytes before : List ℕ) (n : ℕ) → n ≤ length (all_runs bytes) → 1 ≤ length before
    → length (take 1 before ++ map run_word (take n (all_runs bytes))) ≡ n + 1
length_with bytes before n h k =
    rw (length-append, length-map, length-take-le 1 before k, length-take-le n (all_runs bytes) h) (omega arith)

pub partly_next : {bytes before out : List ℕ} {n from len w : ℕ} → Partly bytes before n from out → RunAt bytes from len
    → w ≡ run_word (run (direction (get_or bytes from 0)) len) → Partly bytes before (n + 1) (from + len) (set out (n + 1) w)
partly_next {bytes} {before} {out} {n} {from} {len} {w} p r e = record {
  few = omega (arith, p.few, r.some);
  within = r.within;
  inside = block_inside (all_runs bytes) n (x ∷ []) (all_runs (drop (from + len) bytes)) next p.inside;
  rest = drop_more (all_runs bytes) n (x ∷ []) (all_runs (drop (from + len) bytes)) next;
  same = length-set out (n + 1) w ∙ p.same;
  text = λ h.
      let k : 1 ≤ length before = omega arith in
      let t : out ≡ with_runs bytes before n = p.text (omega arith) in
      rw (
        t,
        put_next (done n) before (n + 1) w (length_with bytes before n p.inside k) (omega arith),
        e,
        append_assoc (take 1 before) (map run_word (take n (all_runs bytes))) (run_word x ∷ []),
        one_more,
      ) refl;
}
  where
    x : Run
    x = run (direction (get_or bytes from 0)) len

    done : ℕ → List ℕ
    done k = take 1 before ++ map run_word (take k (all_runs bytes))

    next : drop n (all_runs bytes) ≡ (x ∷ []) ++ all_runs (drop (from + len) bytes)
    next = p.rest ∙ r.runs

    one_more : map run_word (take n (all_runs bytes)) ++ (run_word x ∷ []) ≡ map run_word (take (n + 1) (all_runs bytes))
    one_more = rw (take_more (all_runs bytes) n (x ∷ []) (all_runs (drop (from + len) bytes)) next)
        (sym (map_join run_word (take n (all_runs bytes)) (x ∷ [])))

-- the path word in front
set_first : (before xs : List ℕ) (w : ℕ) → 1 ≤ length before → set (take 1 before ++ xs) 0 w ≡ w ∷ xs
set_first [] xs w h = absurd (omega arith)
set_first (b ∷ before) xs w h = refl

-- at the end of the bytes every run is written
all_counted : {bytes before out : List ℕ} {n from : ℕ} → Partly bytes before n from out → length bytes ≤ from → n ≡ length (all_runs bytes)
unfolding runs_of
all_counted {bytes} {before} {out} {n} {from} p h =
    let end : drop from bytes ≡ [] = drop_of_length-le bytes h in
    let none : drop n (all_runs bytes) ≡ [] = p.rest ∙ rw end refl in
    omega (arith, length-drop n (all_runs bytes), ap length none, p.inside)

pub partly_all : {bytes before out : List ℕ} {n from w : ℕ} (net : Net) → Partly bytes before n from out → length bytes ≤ from
    → w ≡ path_word (record { number = net.number; runs = n }) → Written (path_words net (directions bytes)) before (n + 1) (set out 0 w)
unfolding path_words
partly_all {bytes} {before} {out} {n} {from} {w} net p h e =
    let count : n ≡ length (all_runs bytes) = all_counted p h in
    let long : length (map run_word (all_runs bytes)) ≡ n = length-map (all_runs bytes) run_word ∙ sym count in
    let size : n + 1 ≡ length (path_words net (directions bytes)) = rw long (add-one n) in
    record {
      counted = size;
      text = λ k.
          let room : n + 1 ≤ length before = omega arith in
          let all : take n (all_runs bytes) ≡ all_runs bytes = take_all n (all_runs bytes) (omega arith) in
          let front : 1 ≤ length before = omega arith in
          rw (
            p.text room,
            all,
            append_assoc (take 1 before),
            set_first before (map run_word (all_runs bytes) ++ drop (n + 1) before) w front,
            e,
            size,
            count,
          ) refl;
    }

pub few_words : (net : Net) (bytes : List ℕ) → length (path_words net (directions bytes)) ≤ length bytes + 1
unfolding path_words
few_words net bytes = omega (arith, runs_few (directions bytes), length-map (all_runs bytes) run_word, length-map bytes direction)
