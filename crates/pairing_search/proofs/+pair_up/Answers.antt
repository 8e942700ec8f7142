-- The search on an array: each turn of the loop is one attempt, and the answer for the other vertices is `first_of` of its attempts.
use Rattle.std.proofs.Common.{◌≡◌, refl, ◌∙◌, ◌+◌, ◌-◌, length-set, Some, None, rules, arith}
use Rattle.pairing.specs.Search.{pair_up}
use Rattle.pairing_search.specs.Arrays.{loop_start, loop-none, loop-some, loop_end, pair_at, attempts, found_more, found_whole}
use Rattle.pairing_search.specs.Turn.{turn-full, turn-found}
use Rattle.pairing_search.proofs.+pair_up.Goals as goal
use Rattle.pairing_search.proofs.+pair_up.Goals.{in-Some+in_default-pair_up, in_default}

pub returns-then-n-eq0 : goal.returns-then-n-eq0
unfolding pair_up
returns-then-n-eq0 t c =
    let args = c.args in let none_left : args.n ≡ 0 = c.if-n-eq0.true in
    rw c.no_helpers.ensures (record { few = omega arith; long = refl; whole = refl; exact = λ b qs L. rw none_left refl })

pub loop-k-init : goal.loop-k-init
loop-k-init t c b qs L =
    let args = c.args in let n = args.n in
    let i : 12 - n + 1 - (12 - n + 1) ≡ 0 = omega arith in let d : 12 - (12 - n + 1) ≡ n - 1 = omega arith in
    rw (i, d) (loop_start b n args.vs qs (search rules) (omega arith) (omega (arith, c.if-n-eq0.false)))

pub returns-in-Some-pair_up : goal.returns-in-Some-pair_up
returns-in-Some-pair_up t c =
    let args = c.args in let n = args.n in let vs = args.vs in let k = c.loop-k.k in let j = k - (12 - n + 1) in
    let found = c.in-Some-pair_up.found in let R = c.in-Some-pair_up.ensures in let p = pair_at vs n k in
    rw c.with_pair.ensures (record {
      few = omega (arith, R.few);
      long = length-set found.pairs found.count _ ∙ R.long;
      whole = found_whole found p (omega (arith, R.few)) R.long R.whole;
      exact = λ b qs L.
          let e = turn-found b qs n vs j k (omega arith) (omega arith) (omega arith) args.m args.left L c.in-Some.rest c.in-Some.ensures
          c.others.result c.others.ensures (Some found) R in
          let f = found_more found p (omega (arith, R.few, R.long)) in
          f ∙ loop-some (attempts b vs n qs) _ j (12 - k) (omega arith) (c.loop-k.invariant b qs L) _ (e);
    })

pub loop-k-preserved : goal.loop-k-preserved
loop-k-preserved t c b qs L =
    let args = c.args in let n = args.n in let vs = args.vs in let k = c.loop-k.k in let j = k - (12 - n + 1) in
    loop-none (attempts b vs n qs) _ j (12 - k) (omega arith) (c.loop-k.invariant b qs L) (elim c.match-slack_with.branch [
      | in-Some+in_default-pair_up w ↦ turn-found b qs n vs j k (omega arith) (omega arith) (omega arith) args.m args.left L w.in-Some.rest
          w.in-Some.ensures w.others.result w.others.ensures None w.in_default-pair_up.ensures
      | in_default w ↦ turn-full b qs n vs j k (omega arith) (omega arith) (omega arith) args.m args.left L w.in_default.ensures
    ]) _ _ (omega arith) (omega arith)

pub returns : goal.returns
returns t c = record {
  few = tt;
  long = tt;
  whole = refl;
  exact = λ b qs L.
      loop_end (attempts b c.args.vs c.args.n qs) _ (c.loop-k.k - (12 - c.args.n + 1)) (12 - c.loop-k.k) (omega arith) (c.loop-k.invariant b qs L);
}
