use Rattle.std.proofs.Common.{rules}
use Rattle.jp_parse.specs.Readers.{term, expr, select}
use Rattle.jp_parse.proofs.grammar.Grammar.more_terms.Goals as goal

pub returns : goal.returns
returns g c = c.many.ensures (term (expr c.args.self.now.depth) (select c.args.self.now.depth)) (λ old new r p. search rules)
