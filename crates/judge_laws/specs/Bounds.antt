-- Every list that passes, of this or another tool, keeps within the figures that the session gives beforehand (document 02, §11).
-- Assumes of the session that its board is within the limits.
use Rattle.std.specs.Prelude.{◌≡◌, List, ℕ}
use Rattle.board.specs.Board.{Within}
use Rattle.board.specs.declared.Direction.{Direction}
use Rattle.session_rules.specs.Session.{Session, pairs}
use Rattle.call_rules.specs.Result.{yes}
use Rattle.call_rules.specs.Judge.{judged}
use Rattle.call_rules.specs.Wire.{Bounded}
use Rattle.routing_laws.proofs.Used.{used_most}
use Rattle.routing_laws.proofs.Crossed.{used_least}
use Rattle.routing_laws.proofs.Words.{words_few}
use Rattle.judge_laws.specs.Exact.{passes_sound}

-- THE LAW
pub judged_bounded : (s : Session) → Within s.block.board → (ws : List ℕ) (dss : List (List Direction)) → judged s ws ≡ yes dss → Bounded s ws dss
judged_bounded s w ws dss j =
    let p = passes_sound s ws dss j in let b = s.block.board in let ps = pairs s.nets in
    record {
      least = used_least b ps dss p.routing.joins;
      most = used_most b w ps dss p.routing;
      words = rw p.words (words_few b w s.nets dss p.routing);
    }
