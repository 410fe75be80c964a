use Rattle.jp_explain.proofs.weights.+weight_of.Given as goal

abbrev pub decreases-weight_of : goal.decreases-weight_of
decreases-weight_of l = l.id
