use Rattle.jp_query.proofs.TreeRules.{folds, paras}
use Rattle.jp_examples.proofs.fresh.refused_for_words_of_rewritings.Goals as goal
use Rattle.std.proofs.Common.{refl}
use Rattle.std.specs.Prelude.{[], ◌∷◌}
use Rattle.jp_query.specs.TreeExamples.{one, placeholder, exists_by, a, select, inner_select}
use Rattle.jp_examples.specs.Trees.{table}
use Rattle.jp_examples.proofs.TestLaws.{are_copies, exists_sublink}

pub returns-clause-placeholders : goal.returns-clause-placeholders
returns-clause-placeholders c = simp (folds, paras)

pub returns-clause-sublink_0 : goal.returns-clause-sublink_0
returns-clause-sublink_0 c = simp (folds, paras)

pub returns-clause-sublink_15 : goal.returns-clause-sublink_15
returns-clause-sublink_15 c = simp (folds, paras)

pub returns-clause-sublink_16 : goal.returns-clause-sublink_16
returns-clause-sublink_16 c = simp (folds, paras)

pub returns-clause-leaf_31 : goal.returns-clause-leaf_31
returns-clause-leaf_31 c = simp (folds, paras)

pub returns-clause-leaf_32 : goal.returns-clause-leaf_32
returns-clause-leaf_32 c = simp (folds, paras)

pub returns-clause-leaf_46 : goal.returns-clause-leaf_46
returns-clause-leaf_46 c = simp (folds, paras)

pub returns-clause-leaf_47 : goal.returns-clause-leaf_47
returns-clause-leaf_47 c = simp (folds, paras)

pub returns-clause-placeholders_copies : goal.returns-clause-placeholders_copies
returns-clause-placeholders_copies c = are_copies (select (placeholder one 1) a []) (exists_sublink 1 inner_select) ([]) (simp paras) tt

pub returns-clause-sublink_16_copies : goal.returns-clause-sublink_16_copies
returns-clause-sublink_16_copies c = are_copies (select one a (exists_by 16 inner_select ∷ [])) (exists_sublink 16 inner_select) (exists_sublink 16 inner_select ∷ []) (simp paras) (refl, tt)

pub returns-clause-leaf_copies : goal.returns-clause-leaf_copies
returns-clause-leaf_copies c = are_copies (select one (table 32 0) []) (exists_sublink 1 inner_select) ([]) (simp paras) tt
