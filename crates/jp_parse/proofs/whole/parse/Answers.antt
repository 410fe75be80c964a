use Rattle.jp_ast.specs.SeenTokens.{seen_tokens}
use Rattle.jp_ast.proofs.Fitting.{all_fit}
use Rattle.jp_parse.proofs.Answering.{answers}
use Rattle.jp_parse.proofs.whole.parse.Goals as goal

pub answered-requires : goal.answered-requires
answered-requires c = let (src, short, tokens) = c.requires in all_fit src c.args.tokens.now short tokens

pub returns : goal.returns
returns c = answers (seen_tokens c.args.tokens.now) c.answered.result c.answered.ensures
