use Rattle.std.proofs.Common.{sym, subst}
use Rattle.jp_query.specs.Typing.{IsTypedExpr}
use Rattle.jp_search_tests.proofs.PlainLaws.{typed_equality}
use Rattle.jp_search_tests.proofs.plain.clause.Goals as goal

pub returns : goal.returns
returns c = subst IsTypedExpr (sym c.in_ok-expr.ensures) (typed_equality c.args.left c.args.right c.requires.left c.requires.right)
