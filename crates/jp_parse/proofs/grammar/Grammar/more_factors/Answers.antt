use Rattle.std.proofs.Common.{rules}
use Rattle.jp_parse.specs.Readers.{sign, expr, select}
use Rattle.jp_parse.proofs.grammar.Grammar.more_factors.Goals as goal

pub returns : goal.returns
returns g c = c.separated.ensures (sign (expr c.args.self.now.depth) (select c.args.self.now.depth)) (λ old new r p. search rules)
