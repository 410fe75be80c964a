-- A problem that is made is that of a block, before its classes or with them.
use Rattle.std.proofs.Common.{◌≡◌, sym, subst, inl, inr, List, Some}
use Rattle.jp_query.specs.declared.Query.{Query}
use Rattle.jp_problem.specs.declared.types.Item.{Item}
use Rattle.jp_problem.specs.declared.types.Problem.{Problem}
use Rattle.jp_problem.specs.Blocks.{outline_of}
use Rattle.jp_problem.specs.Classes.{derived}
use Rattle.jp_problem.specs.Conditions.{MeetsConditions}
use Rattle.jp_problem.specs.Made.{IsBlock, IsMade}
use Rattle.jp_problem.specs.Problems.{AreItemsOf, problem_of}
use Rattle.jp_problem.specs.Trees.{Tree, IsPlan, spine}
use Rattle.jp_conditions.proofs.LaidBlocks.{laid, low}
use Rattle.jp_conditions.proofs.Meeting.{meets_conditions}
use Rattle.jp_conditions.proofs.SpineLaws.{spine_is_plan, spine_is_plan_with_classes}
use Rattle.jp_conditions.proofs.WithClasses.{derived_conditions}

pub block_conditions : (query : Query) (items : List Item) → IsBlock query → AreItemsOf query items → MeetsConditions (problem_of items query)
block_conditions query items block same = meets_conditions items (outline_of query) same (laid query block) (low query block)

pub block_derived_conditions : (query : Query) (items : List Item) → IsBlock query → AreItemsOf query items → MeetsConditions (derived (problem_of items query))
block_derived_conditions query items block same = derived_conditions items (outline_of query) same (laid query block) (low query block)

pub made_conditions : (problem : Problem) → IsMade problem → MeetsConditions problem
made_conditions problem made = elim made.made [
  | inl e ↦ subst MeetsConditions (sym e) (block_conditions made.query problem.items made.block made.items)
  | inr e ↦ subst MeetsConditions (sym e) (block_derived_conditions made.query problem.items made.block made.items)
]

pub made_spine : (problem : Problem) (made : IsMade problem) → (tree : Tree) × (spine made.query ≡ Some tree) × IsPlan problem tree
made_spine problem made = elim made.made [
  | inl e ↦ subst (λ p. (tree : Tree) × (spine made.query ≡ Some tree) × IsPlan p tree) (sym e) (spine_is_plan made.query problem.items made.block made.items)
  | inr e ↦ subst (λ p. (tree : Tree) × (spine made.query ≡ Some tree) × IsPlan p tree) (sym e) (spine_is_plan_with_classes made.query problem.items made.block made.items)
]
