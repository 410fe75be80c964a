use Rattle.jp_session.proofs.costs.+price_of.Given as goal

abbrev pub decreases-price_of : goal.decreases-price_of
decreases-price_of l = l.plan
