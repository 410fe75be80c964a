use Rattle.std.proofs.Common.{◌≡◌, ◌+◌, ◌-◌, ◌*◌, ◌^◌, map, take}
use Rattle.jp_query.specs.Tables.{rows_of_tables}
use Rattle.jp_lists.specs.Lists.{sources_of}
use Rattle.jp_items.specs.Rows.{rows_meant}
use Rattle.jp_items.specs.Sights.{env_around}
use Rattle.jp_exec.specs.Given.{AreGiven}
use Rattle.jp_exec.specs.Running.{given_by, tables_of}
use Rattle.jp_exec.proofs.execution.+execution.Given as goal

abbrev pub decreases-rows_of_block : goal.decreases-rows_of_block
decreases-rows_of_block l = (2 ^ 64 - l.number) * 8 + 6

abbrev pub decreases-side_of_block : goal.decreases-side_of_block
decreases-side_of_block l = (2 ^ 64 - l.number) * 8 + 6

abbrev pub decreases-sources_of : goal.decreases-sources_of
decreases-sources_of l = (2 ^ 64 - l.number) * 8 + 5

abbrev pub decreases-given_rows : goal.decreases-given_rows
decreases-given_rows l = (2 ^ 64 - l.number) * 8 + 5

abbrev pub decreases-rows_of_sublinks : goal.decreases-rows_of_sublinks
decreases-rows_of_sublinks l = (2 ^ 64 - l.number) * 8 + 4

abbrev pub decreases-add_given : goal.decreases-add_given
decreases-add_given l = (2 ^ 64 - l.number) * 8 + 3

abbrev pub decreases-item_rows : goal.decreases-item_rows
decreases-item_rows l = (2 ^ 64 - l.number) * 8 + 4

abbrev pub decreases-full_rows : goal.decreases-full_rows
decreases-full_rows l = (2 ^ 64 - l.number) * 8 + 3

abbrev pub decreases-rows_of_block-subs : goal.decreases-rows_of_block-subs
decreases-rows_of_block-subs l = (2 ^ 64 - l.number) * 8 + 2

abbrev pub decreases-side_of_block-subs : goal.decreases-side_of_block-subs
decreases-side_of_block-subs l = (2 ^ 64 - l.number) * 8 + 2

abbrev pub decreases-sub_rows : goal.decreases-sub_rows
decreases-sub_rows l = (2 ^ 64 - l.number) * 8 + 1

abbrev pub decreases-full_rows-subs : goal.decreases-full_rows-subs
decreases-full_rows-subs l = (2 ^ 64 - l.number) * 8 + 2

abbrev pub invariant-sources_of-items : goal.invariant-sources_of-items
invariant-sources_of-items l = map (rows_meant (tables_of l.run)) l.sources.items ≡ sources_of l.run.prepared.now.blocks (rows_of_tables (tables_of l.run)) (given_by l.run) (env_around l.around) (take l.item-index l.block.problem.items)

abbrev pub invariant-rows_of_sublinks-sublinks : goal.invariant-rows_of_sublinks-sublinks
invariant-rows_of_sublinks-sublinks l = AreGiven l.run l.given.items
