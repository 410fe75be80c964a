use Rattle.jp_laws.proofs.Depends.{value_depends, tree_depends, rows_depend}
use Rattle.jp_laws.proofs.references.meaning_depends_on_references_alone.Goals as goal

pub returns : goal.returns
returns c = record { value = value_depends; tuples = tree_depends; rows = rows_depend }
