use Rattle.router_trace.proofs.+fore.Given as goal

abbrev pub decreases-fore : goal.decreases-fore
decreases-fore l = l.fuel
