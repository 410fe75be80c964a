use Rattle.std.proofs.Common.{rules}
use Rattle.jp_parse.specs.Readers.{expr}
use Rattle.jp_parse.proofs.grammar.Grammar.more_exprs.Goals as goal

pub returns : goal.returns
returns g c = c.separated.ensures (expr c.args.self.now.depth) (λ old new r p. search rules)
