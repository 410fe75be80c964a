use Rattle.std.proofs.Common.{rules}
use Rattle.jp_parse.specs.Readers.{item}
use Rattle.jp_parse.proofs.grammar.Grammar.more_items.Goals as goal

pub returns : goal.returns
returns g c = c.separated.ensures (item c.args.self.now.depth) (λ old new r p. search rules)
