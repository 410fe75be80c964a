-- Lists of what one rule reads.
use Rattle.std.specs.Prelude.{ℕ, Bool, List}
use Rattle.jp_ast.specs.declared.class.Class.{Class}
use Rattle.jp_ast.specs.declared.class.Class.TheVariants as k
use Rattle.jp_ast.specs.declared.tree.Ast.{Ast}
use Rattle.jp_cursor.specs.declared.nodes.Chain.{Chain}
use Rattle.jp_cursor.specs.declared.nodes.Chain.TheVariants as chain
use Rattle.jp_ast.specs.Nodes.{is_sign, or_node, and_node, concat_node, product_node}
use Rattle.jp_cursor.specs.Reading.{Reader, is, expect, begins_join, many, ◌>>◌}
use Rattle.jp_cursor.specs.declared.lists.Begin.{Begin}
use Rattle.jp_cursor.specs.declared.lists.Begin.TheVariants as begin

abbrev pub begins_by : Begin → Class → Bool
begins_by begin.Sign = is_sign
begins_by begin.When = is k.When
begins_by begin.Join = begins_join

-- as many as there are, each behind a token of the class
abbrev pub separated_by : {A : Type 0} → Class → Reader A → Reader (List A)
separated_by between member = many (is between) (expect between >> member)

-- the node of a chain of more than one member
abbrev pub node_by : Chain → ℕ → List Ast → Ast
node_by chain.Or = or_node
node_by chain.And = and_node
node_by chain.Concat = concat_node
node_by chain.Product = product_node
