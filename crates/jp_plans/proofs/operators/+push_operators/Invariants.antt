use Rattle.jp_plans.proofs.operators.+push_operators.Given as goal

abbrev pub decreases-push_operators : goal.decreases-push_operators
decreases-push_operators l = l.id
