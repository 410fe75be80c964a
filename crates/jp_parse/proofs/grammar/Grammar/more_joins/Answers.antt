use Rattle.std.proofs.Common.{rules}
use Rattle.jp_parse.specs.Readers.{join_of, expr, select, item}
use Rattle.jp_parse.proofs.grammar.Grammar.more_joins.Goals as goal

pub returns : goal.returns
returns g c = c.many.ensures (join_of (expr c.args.self.now.depth) (select c.args.self.now.depth) (item c.args.self.now.depth)) (λ old new r p. search rules)
