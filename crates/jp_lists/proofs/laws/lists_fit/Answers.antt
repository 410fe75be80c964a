use Rattle.jp_lists.proofs.FitLaws.{rows_fit, tuples_inside, map_is_inside}
use Rattle.jp_lists.proofs.laws.lists_fit.Goals as goal

pub returns-clause-rows : goal.returns-clause-rows
returns-clause-rows c = rows_fit

pub returns-clause-tuples : goal.returns-clause-tuples
returns-clause-tuples c = tuples_inside

pub returns-clause-maps : goal.returns-clause-maps
returns-clause-maps c prepared whole tables number block env m belong there fits = map_is_inside prepared whole tables number block env belong there fits m
