use Rattle.router_trace.proofs.+back.Given as goal

abbrev pub decreases-back : goal.decreases-back
decreases-back l = l.fuel
