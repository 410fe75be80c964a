use Rattle.std.proofs.Common.{◌∙◌, ap, ◌++◌, rules}
use Rattle.jp_base.specs.declared.values.Value.{Value}
use Rattle.jp_base.specs.Values.{are_equal}
use Rattle.jp_joins.specs.Keys.{once_if, table_at}
use Rattle.jp_indexes.proofs.IndexFacts.{row_more}
use Rattle.jp_indexes.proofs.index.numbers_by_value.Goals as goal

pub rows-preserved : goal.rows-preserved
rows-preserved c v =
    row_more c.args.col v c.args.table.now c.rows.row (table_at c.rows.numbers v) (table_at c.add_by_key.new.table v) (search rules) (c.rows.invariant v)
    (c.in_ok-add_by_key.ensures v ∙ ap (λ (u : Value). table_at c.rows.numbers v ++ once_if (are_equal v u) c.rows.row) (c.key_of-key.ensures ∙ c.cell_of.ensures))
