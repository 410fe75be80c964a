use Rattle.jp_lex.proofs.Edges.{edges}
use Rattle.jp_lex.proofs.cut.token_at.Goals as goal

pub range-requires-clause-start_boundary : goal.range-requires-clause-start_boundary
range-requires-clause-start_boundary c = λ some. (edges c.args.text.now c.args.start c.args.found c.utf8.text c.requires.place c.requires.token).2

pub range-requires-clause-end_boundary : goal.range-requires-clause-end_boundary
range-requires-clause-end_boundary c = (edges c.args.text.now c.args.start c.args.found c.utf8.text c.requires.place c.requires.token).3
