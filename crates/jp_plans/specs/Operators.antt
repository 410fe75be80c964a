-- The operators of a plan's tree in postfix order, and what is left when they are done.
use Rattle.std.specs.Prelude.{◌≡◌, ◌<◌, List, [], ◌∷◌, ◌++◌, length}
use Rattle.jp_problem.specs.declared.types.Method.{Method}
use Rattle.jp_problem.specs.declared.types.Problem.{Problem}
use Rattle.jp_problem.specs.declared.types.Step.{Step}
use Rattle.jp_problem.specs.Trees.{Tree, IsLegalTree, set_of}
use Rattle.jp_problem.specs.Trees as tree
use Rattle.jp_joins.specs.Tuples.{maps_of}
use Rattle.jp_lists.specs.Steps.{Run, tree_list}
use Rattle.jp_plans.specs.declared.operators.Operator.{Operator}
use Rattle.jp_plans.specs.declared.operators.Operator.TheVariants as operator
use Rattle.jp_plans.specs.declared.steps.Part.{Part}

abbrev pub operators_of : Tree → List Operator
operators_of (tree.Scan item) = operator.Scan item ∷ []
operators_of (tree.Join how kind left right) = operators_of left ++ (operators_of right ++ operator.Join how kind ∷ [])

-- The trees that were made and not yet taken, the last one first, after one more operator.
abbrev pub done : Operator → List Tree → List Tree
done (operator.Scan item) trees = tree.Scan item ∷ trees
done (operator.Join how kind) (right ∷ left ∷ trees) = tree.Join how kind left right ∷ trees
done (operator.Join how kind) _ = []

-- the part is what the tree lists
pub record IsPart (run : Run) (problem : Problem) (t : Tree) (part : Part) : Type 0 where
  pub set : part.set ≡ set_of t
  pub list : maps_of part.tuples.items ≡ tree_list run problem t

-- the parts are those of the trees, of which the first has the last part
abbrev pub AreParts : Run → Problem → List Tree → List Part → Type 0
AreParts run problem [] parts = parts ≡ []
AreParts run problem (t ∷ trees) parts = (before : List Part) × (part : Part) × (parts ≡ before ++ part ∷ []) × IsPart run problem t part × AreParts run problem trees before

-- the last two parts are those of a legal step
pub record HasSides (run : Run) (problem : Problem) (how : Method) (kind : Step) (parts : List Part) : Type 0 where
  pub left : Tree
  pub right : Tree
  pub others : List Tree
  pub are : AreParts run problem (right ∷ left ∷ others) parts
  pub legal : IsLegalTree problem (tree.Join how kind left right)

-- the operator can be done with the parts
abbrev pub CanDo : Run → Problem → Operator → List Part → Type 0
CanDo run problem (operator.Scan item) parts = item < length problem.items
CanDo run problem (operator.Join how kind) parts = HasSides run problem how kind parts

-- with the trees, the operators make the tree and no other
abbrev pub Makes : List Operator → List Tree → Tree → Type 0
Makes [] trees t = trees ≡ t ∷ []
Makes (operator.Scan item ∷ operators) trees t = Makes operators (tree.Scan item ∷ trees) t
Makes (operator.Join how kind ∷ operators) (right ∷ left ∷ trees) t = Makes operators (tree.Join how kind left right ∷ trees) t
Makes (operator.Join how kind ∷ operators) _ t = ⊥

-- The parts are those of trees with which the operators make the tree.
pub record IsUnderWay (run : Run) (problem : Problem) (t : Tree) (operators : List Operator) (parts : List Part) : Type 0 where
  pub trees : List Tree
  pub are : AreParts run problem trees parts
  pub makes : Makes operators trees t
