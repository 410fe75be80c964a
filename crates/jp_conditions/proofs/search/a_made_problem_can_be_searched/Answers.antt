use Rattle.jp_conditions.proofs.Estimable.{made_estimable, made_searchable}
use Rattle.jp_conditions.proofs.search.a_made_problem_can_be_searched.Goals as goal

pub returns : goal.returns
returns c = record { estimable = made_estimable; searchable = made_searchable }
