-- What stands in a block of a planned statement: its expressions, the columns and sublinks in them, and the blocks that it
-- uses. What stands in a sublink's query belongs to the block of that query.
use Rattle.std.specs.Prelude.{◌≡◌, ℕ, List, [], ◌∷◌, ◌++◌, map, Some, Contains, slice_get}
use Rattle.std.specs.List.{flat_map}
use Rattle.jp_base.specs.Sets.{Has}
use Rattle.jp_base.specs.declared.values.Ty.{Ty}
use Rattle.jp_query.specs.declared.Expr.TheFolds.{fold-Expr, para-Expr}
use Rattle.jp_query.specs.declared.Output.{Output, out-Output}
use Rattle.jp_query.specs.declared.Expr.{Expr}
use Rattle.jp_query.specs.declared.Expr.TheOpen.{Expr-F}
use Rattle.jp_query.specs.Outermost.{Outer, Outers, Level, outers_in, outermost}
use Rattle.jp_query.specs.Parts.{all_in, parts, ColumnRef, node_column, node_placeholder}
use Rattle.jp_problem.specs.declared.types.Item.{Item}
use Rattle.jp_problem.specs.declared.types.ItemKind.{ItemKind}
use Rattle.jp_problem.specs.declared.types.ItemKind.TheVariants as kind
use Rattle.jp_problem.specs.Blocks.{output_expr, order_expr}
use Rattle.jp_problem.specs.StepClauses.{expr_of}
use Rattle.jp_problem.specs.Made.{exprs_of, item_exprs, join_exprs}
use Rattle.jp_tree.specs.declared.prepared.Block.{Block}
use Rattle.jp_tree.specs.declared.prepared.Prepared.{Prepared}

-- ---- expressions

abbrev pub output_ty : Output → Ty
output_ty output = (out-Output output).ty

-- those of its problem, its outputs and its ORDER BY
abbrev pub exprs_in : Block → List Expr
exprs_in block = exprs_of block.problem ++ (map output_expr block.columns ++ map order_expr block.order)

-- its clauses, and the members of its ON lists
abbrev pub conditions_in : Block → List Expr
conditions_in block = map expr_of block.problem.clauses ++ (flat_map join_exprs block.problem.joins ++ flat_map item_exprs block.problem.items)

-- ---- what an expression names, outside the queries of its sublinks

abbrev pub column_level : Expr-F (List ColumnRef) (Unit {0}) (Unit {0}) (Unit {0}) (Unit {0}) → List ColumnRef
column_level x = node_column x ++ all_in (parts x)

abbrev pub own_columns : Expr → List ColumnRef
own_columns = fold-Expr (List ColumnRef) (Unit {0}) (Unit {0}) (Unit {0}) (Unit {0}) column_level (λ t. tt) (λ o. tt) (λ u. tt) (λ q. tt)

-- the relation sets of its placeholders
abbrev pub placeholder_level : Expr-F (List ℕ) (Unit {0}) (Unit {0}) (Unit {0}) (Unit {0}) → List ℕ
placeholder_level x = node_placeholder x ++ all_in (parts x)

abbrev pub own_placeholders : Expr → List ℕ
own_placeholders = fold-Expr (List ℕ) (Unit {0}) (Unit {0}) (Unit {0}) (Unit {0}) placeholder_level (λ t. tt) (λ o. tt) (λ u. tt) (λ q. tt)

-- the sublinks that are IN, as `outermost` has all
abbrev pub in_here : Level → Outers
in_here (Expr-F.InSub sub operand query) = record { number = sub; query = query.0 } ∷ []
in_here _ = []

abbrev pub in_level : Level → Outers
in_level x = in_here x ++ all_in (map outers_in (parts x))

abbrev pub outermost_ins : Expr → Outers
outermost_ins = para-Expr Outers Outers Outers Outers Outers in_level (λ t. []) (λ o. []) (λ u. []) (λ q. [])

-- ---- of a block

abbrev pub columns_named : Block → List ColumnRef
columns_named block = flat_map own_columns (exprs_in block)

abbrev pub placeholders_named : Block → List ℕ
placeholders_named block = flat_map own_placeholders (exprs_in block)

abbrev pub sublinks_of : Block → List Outer
sublinks_of block = flat_map outermost (exprs_in block)

abbrev pub in_sublinks_of : Block → List Outer
in_sublinks_of block = flat_map outermost_ins (exprs_in block)

-- the relation belongs to an item of the block
abbrev pub HasRelation : Block → ℕ → Type 0
HasRelation block rel = (item : Item) × Contains block.problem.items item × Has item.rels rel

-- the blocks of an item
abbrev pub blocks_of_kind : ItemKind → List ℕ
blocks_of_kind (kind.Base rel table) = []
blocks_of_kind (kind.Sub rel block) = block ∷ []
blocks_of_kind (kind.Full left right on) = left ∷ right ∷ []

abbrev pub blocks_of_item : Item → List ℕ
blocks_of_item item = blocks_of_kind item.kind

abbrev pub item_blocks : Block → List ℕ
item_blocks block = flat_map blocks_of_item block.problem.items

-- ---- in a planned statement

abbrev pub IsBlockAt : Prepared → ℕ → Block → Type 0
IsBlockAt prepared number block = slice_get prepared.blocks number ≡ Some block

-- the block at this number is the query of the sublink
pub record IsOfSublink (prepared : Prepared) (sub number : ℕ) : Type 0 where
  pub block : Block
  pub there : IsBlockAt prepared number block
  pub named : block.sub ≡ Some sub

-- a block uses those of its items and of its sublinks
pub data Uses (prepared : Prepared) (block : Block) (number : ℕ) : Type 0 where
  by_item : Contains (item_blocks block) number → Uses prepared block number
  by_sublink : (sublink : Outer) → Contains (sublinks_of block) sublink → IsOfSublink prepared sublink.number number → Uses prepared block number

-- An outer reference of a block: a column in its expressions, or an outer reference of a block that it uses, whose relation
-- belongs to none of its items.
pub data IsOuterReference (prepared : Prepared) : ℕ → ColumnRef → Type 0 where
  named : {number : ℕ} {column : ColumnRef} (block : Block) → IsBlockAt prepared number block → Contains (columns_named block) column
      → ¬ HasRelation block column.relation → IsOuterReference prepared number column
  passed_on : {number : ℕ} {column : ColumnRef} (block : Block) (inner : ℕ) → IsBlockAt prepared number block → Uses prepared block inner
      → IsOuterReference prepared inner column → ¬ HasRelation block column.relation → IsOuterReference prepared number column
