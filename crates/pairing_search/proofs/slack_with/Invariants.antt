use Rattle.std.proofs.Common.{◌≡◌, length}
use Rattle.pairing_search.specs.Slack.{Lowering}
use Rattle.pairing_search.proofs.slack_with.Given as goal

abbrev pub invariant-loop-i : goal.invariant-loop-i
invariant-loop-i l = Lowering l.p l.initial.rest l.rest l.i × (length l.rest ≡ 62)
