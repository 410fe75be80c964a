use Rattle.jp_folding.proofs.TypeLaws.{expr_type_kept, tree_type_kept, query_type_kept}
use Rattle.jp_folding.proofs.laws.folding_keeps_types.Goals as goal

pub returns : goal.returns
returns c = record { expr = expr_type_kept; tree = tree_type_kept; query = query_type_kept }
