use Rattle.std.proofs.Common.{rules}
use Rattle.jp_parse.specs.Readers.{not_level, expr, select}
use Rattle.jp_parse.proofs.grammar.Grammar.more_conditions.Goals as goal

pub returns : goal.returns
returns g c = c.separated.ensures (not_level (expr c.args.self.now.depth) (select c.args.self.now.depth)) (λ old new r p. search rules)
