use Rattle.jp_query.proofs.TreeRules.{folds, paras}
use Rattle.jp_examples.proofs.fresh.refused_for_copies.Goals as goal
use Rattle.std.proofs.Common.{refl}
use Rattle.std.specs.Prelude.{[], ◌∷◌}
use Rattle.jp_query.specs.TreeExamples.{one, exists, a, select, inner_select, ordered_by_itself}
use Rattle.jp_examples.proofs.TestLaws.{are_copies, not_copies, exists_sublink}

pub returns-clause-copied : goal.returns-clause-copied
returns-clause-copied c = simp (folds, paras)

pub returns-clause-equal : goal.returns-clause-equal
returns-clause-equal c = simp (folds, paras)

pub returns-clause-placed : goal.returns-clause-placed
returns-clause-placed c = simp (folds, paras)

pub returns-clause-copied_copies : goal.returns-clause-copied_copies
returns-clause-copied_copies c = are_copies (ordered_by_itself (exists inner_select)) (exists_sublink 1 inner_select) (exists_sublink 1 inner_select ∷ exists_sublink 1 inner_select ∷ []) (simp paras) (refl, (refl, tt))

pub returns-clause-placed_copies : goal.returns-clause-placed_copies
returns-clause-placed_copies c = are_copies (select one a (exists inner_select ∷ exists inner_select ∷ [])) (exists_sublink 1 inner_select) (exists_sublink 1 inner_select ∷ exists_sublink 1 inner_select ∷ []) (simp paras) (refl, (refl, tt))

pub returns-clause-equal_refuses : goal.returns-clause-equal_refuses
returns-clause-equal_refuses c = not_copies
