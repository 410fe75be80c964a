use Rattle.jp_resolution.specs.Resolving.{resolved}
use Rattle.jp_resolution.proofs.TreeRules.{runs}
use Rattle.jp_resolution.proofs.examples.bounds_judged.Goals as goal

pub returns-clause-product_by_zero : goal.returns-clause-product_by_zero
unfolding resolved
returns-clause-product_by_zero c = simp runs

pub returns-clause-product_by_null : goal.returns-clause-product_by_null
unfolding resolved
returns-clause-product_by_null c = simp runs

pub returns-clause-inner_product : goal.returns-clause-inner_product
unfolding resolved
returns-clause-inner_product c = simp runs

pub returns-clause-bound_of_a_sub_select : goal.returns-clause-bound_of_a_sub_select
unfolding resolved
returns-clause-bound_of_a_sub_select c = simp runs

pub returns-clause-two_products : goal.returns-clause-two_products
unfolding resolved
returns-clause-two_products c = simp runs

pub returns-clause-one_product : goal.returns-clause-one_product
unfolding resolved
returns-clause-one_product c = simp runs

pub returns-clause-greatest_of_case : goal.returns-clause-greatest_of_case
unfolding resolved
returns-clause-greatest_of_case c = simp runs
