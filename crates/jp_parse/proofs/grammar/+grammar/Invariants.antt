use Rattle.jp_parse.proofs.grammar.+grammar.Given as goal

abbrev pub decreases-expr : goal.decreases-expr
decreases-expr l = l.depth

abbrev pub decreases-select : goal.decreases-select
decreases-select l = l.depth

abbrev pub decreases-item : goal.decreases-item
decreases-item l = l.depth
