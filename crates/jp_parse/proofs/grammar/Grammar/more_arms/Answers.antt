use Rattle.std.proofs.Common.{rules}
use Rattle.jp_parse.specs.Readers.{arm, expr}
use Rattle.jp_parse.proofs.grammar.Grammar.more_arms.Goals as goal

pub returns : goal.returns
returns g c = c.many.ensures (arm (expr c.args.self.now.depth)) (λ old new r p. search rules)
