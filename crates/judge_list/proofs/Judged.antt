-- What a check's answer makes of the verdict: the laws by which a tactic finds it, in whatever form the code hands that answer on.
use Rattle.judge_list.specs.VerdictLaws.{verdict-passed, verdict-refused}

pub ruleset judged = (verdict-passed, verdict-refused)
