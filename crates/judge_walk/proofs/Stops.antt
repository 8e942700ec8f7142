-- Where a run leaves the board: the law by which a tactic finds that refusal, in whatever form the code tells it.
use Rattle.judge_walk.specs.WalkLaws.{along-off}

pub ruleset stops = (along-off)
