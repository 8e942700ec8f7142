-- What is left of a long list decides between 10 and 11.
use native.Mathlib.Omega.{arith}
use Rattle.route.specs.Laws.{long-text, uneven_text}
use borrow.Author.Rules.{rules}
use Rattle.route.proofs.long_text.Goals as goal

-- src/main.rt:33:9
pub refused-requires : goal.refused-requires
refused-requires c = search rules

-- src/main.rt:35:9
pub refused-requires-else-n-eq0 : goal.refused-requires-else-n-eq0
refused-requires-else-n-eq0 c = search rules

-- src/main.rt:28:1
pub returns-then-n-eq0 : goal.returns-then-n-eq0
returns-then-n-eq0 c =
    let refused = c.refused in
    let args = c.args in
    record {
      prefix_len = refused.ensures.0;
      by_index = λ bs l e. rw refused.ensures.1 (long-text args.n (omega arith) bs l e);
    }

-- src/main.rt:28:1
pub returns-else-n-eq0 : goal.returns-else-n-eq0
returns-else-n-eq0 c =
    let refused2 = c.refused-else-n-eq0 in
    let args = c.args in
    record {
      prefix_len = refused2.ensures.0;
      by_index = λ bs l e. rw refused2.ensures.1 (uneven_text args.n (λ z. omega arith) bs e);
    }
