use Rattle.std.proofs.Common.{rules}
use Rattle.jp_parse.specs.Readers.{target_of, expr}
use Rattle.jp_parse.proofs.grammar.Grammar.more_targets.Goals as goal

pub returns : goal.returns
returns g c = c.separated.ensures (target_of (expr c.args.self.now.depth)) (λ old new r p. search rules)
