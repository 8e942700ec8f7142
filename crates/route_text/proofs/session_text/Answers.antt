-- The text of the answer is the text for the session.
use Prim.Native.Nat.{ℕ}
use lib.ListN.{length-replicate}
use Rattle.session.specs.View.{session_of}
use Rattle.route_text.specs.Laws.{routed_text}
use borrow.Author.Rules.{rules}
use Rattle.route_text.proofs.session_text.Goals as goal

-- src/lib.rt:44:39
pub slice_bounds-route-end : goal.slice_bounds-route-end
slice_bounds-route-end c = search rules

-- src/lib.rt:44:9
pub route-answer-requires : goal.route-answer-requires
route-answer-requires c = search rules

-- src/lib.rt:45:5
pub answer_text-requires : goal.answer_text-requires
answer_text-requires c = search rules

-- src/lib.rt:39:1
pub returns : goal.returns
returns c =
    let answer-text = c.answer_text in
    let route = c.route-answer in
    let args = c.args in record {
      prefix_len = answer-text.ensures.0;
      route_text = rw answer-text.ensures.1 (routed_text (session_of args.s) (length-replicate {A = ℕ} 2049 0) route.ensures);
    }
