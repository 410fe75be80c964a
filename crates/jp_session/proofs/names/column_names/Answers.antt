use Rattle.std.proofs.Common.{◌∙◌, ◌++◌, ap, sym}
use Rattle.jp_session.specs.Names.{column_at}
use Rattle.jp_session.proofs.NameLaws.{column_more}
use Rattle.jp_session.proofs.names.column_names.Goals as goal

pub columns-preserved : goal.columns-preserved
columns-preserved c = c.in_ok-push_column.ensures ∙ ap (λ ns. ns ++ column_at c.args.columns.now c.columns.at) c.columns.invariant ∙ sym (column_more c.args.columns.now c.columns.at)
