-- The line of the judgement is the line of what judging gives.
use Rattle.run_routing_words.proofs.list_line.Goals as goal

pub returns : goal.returns
returns c = rw c.judge_words.ensures at c.judgement_line.ensures
