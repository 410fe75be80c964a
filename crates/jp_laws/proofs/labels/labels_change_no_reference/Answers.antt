use Rattle.jp_laws.proofs.LabelUses.{expr_references, tree_references, query_references}
use Rattle.jp_laws.proofs.labels.labels_change_no_reference.Goals as goal

pub returns : goal.returns
returns c = record { expr = expr_references; tree = tree_references; query = query_references }
