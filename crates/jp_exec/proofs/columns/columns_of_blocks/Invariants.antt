use Rattle.std.proofs.Common.{◌≡◌, map}
use Rattle.jp_exec.specs.Columns.{listed_columns, named_by}
use Rattle.jp_exec.proofs.columns.columns_of_blocks.Given as goal

abbrev pub invariant-blocks-2 : goal.invariant-blocks-2
invariant-blocks-2 l = map listed_columns l.list.items ≡ named_by l.prepared l.at
