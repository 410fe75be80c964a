-- When a planned statement is whole.
use Rattle.std.specs.Prelude.{◌≡◌, ℕ, ◌<◌, ◌==◌, Bool, true, [], ◌∷◌, map, length, find, All, Contains, Option, Some, IsSome, slice_get}
use Rattle.jp_base.specs.Sets.{Has}
use Rattle.jp_base.specs.declared.values.Ty.{Ty}
use Rattle.jp_query.specs.declared.Expr.{Expr}
use Rattle.jp_query.specs.declared.Output.{Output}
use Rattle.jp_query.specs.Conditions.{IsBoundedExpr, judged_expr, knows_columns}
use Rattle.jp_query.specs.Outermost.{Outer}
use Rattle.jp_query.specs.Parts.{ColumnRef}
use Rattle.jp_query.specs.Scopes.{Column, Schema, Scope, bound_of, columns_of_table, visible_columns}
use Rattle.jp_query.specs.Typing.{IsTypedExpr, IsBoolean, type_of, typed_query}
use Rattle.jp_problem.specs.declared.types.Item.{Item}
use Rattle.jp_problem.specs.declared.types.ItemKind.TheVariants as kind
use Rattle.jp_problem.specs.Blocks.{output_expr}
use Rattle.jp_problem.specs.Made.{IsMade, IsSearchable}
use Rattle.jp_problem.specs.Trees.{Tree, IsPlan}
use Rattle.jp_tree.specs.declared.prepared.Block.{Block}
use Rattle.jp_tree.specs.declared.prepared.Prepared.{Prepared}
use Rattle.jp_tree.specs.declared.prepared.RelName.{RelName}
use Rattle.jp_tree.specs.Pools.{IsTreeOf}
use Rattle.jp_tree.specs.BlockParts.{exprs_in, conditions_in, output_ty, columns_named, placeholders_named, sublinks_of, in_sublinks_of, HasRelation, item_blocks, IsBlockAt, IsOfSublink, IsOuterReference}

-- 1. Block 0 is there and refers to nothing outside.
pub record HasStatement (prepared : Prepared) : Type 0 where
  pub there : 0 < length prepared.blocks
  pub alone : (column : ColumnRef) → ¬ IsOuterReference prepared 0 column

-- 2. The block of an item sees none of the items beside it.
abbrev pub ItemsStandAlone : Prepared → Type 0
ItemsStandAlone prepared =
    (number inner : ℕ) (block : Block) (column : ColumnRef) → IsBlockAt prepared number block → Contains (item_blocks block) inner → IsOuterReference prepared inner column
    → ¬ HasRelation block column.relation

-- 3. A column is one of its relation's table in the schema, or an output of its relation's block, and has its type.
pub data IsColumn (schema : Schema) (prepared : Prepared) (c : ColumnRef) : Type 0 where
  of_table : (block : Block) (item : Item) (table : ℕ) (column : Column) → Contains prepared.blocks block → Contains block.problem.items item → item.kind ≡ kind.Base c.relation table
      → slice_get (columns_of_table (slice_get schema table)) c.column ≡ Some column → column.type ≡ c.type → IsColumn schema prepared c
  of_block : (block : Block) (item : Item) (number : ℕ) (inner : Block) (output : Output) → Contains prepared.blocks block → Contains block.problem.items item
      → item.kind ≡ kind.Sub c.relation number → IsBlockAt prepared number inner → slice_get inner.columns c.column ≡ Some output → output_ty output ≡ c.type → IsColumn schema prepared c

abbrev pub KnowsColumns : Schema → Prepared → Type 0
KnowsColumns schema prepared = All (λ (block : Block). All (IsColumn schema prepared) (columns_named block)) prepared.blocks

-- 4. Each problem is that of a block, and can be searched.
pub record IsPlannable (block : Block) : Type 0 where
  pub made : IsMade block.problem
  pub searchable : IsSearchable block.problem

-- 5. Each plan is a legal tree of all items.
abbrev pub HasPlan : Prepared → Block → Type 0
HasPlan prepared block = (tree : Tree) × IsTreeOf prepared.pool.nodes block.plan tree × IsPlan block.problem tree

-- 6. The block of an item is there, behind the block that names it.
abbrev pub ItemsAreBehind : Prepared → Type 0
ItemsAreBehind prepared =
    (number inner : ℕ) (block : Block) → IsBlockAt prepared number block → Contains (item_blocks block) inner → (number < inner) × (inner < length prepared.blocks)

-- 7. Each sublink has one block, behind the block in which it stands; that of an IN has one output, of the type that the IN
-- compares with.
pub record HasOneBlock (prepared : Prepared) (number sub : ℕ) : Type 0 where
  pub place : ℕ
  pub is : IsOfSublink prepared sub place
  pub behind : number < place
  pub only : (other : ℕ) → IsOfSublink prepared sub other → other ≡ place

abbrev pub SublinksHaveBlocks : Prepared → Type 0
SublinksHaveBlocks prepared = (number : ℕ) (block : Block) (sublink : Outer) → IsBlockAt prepared number block → Contains (sublinks_of block) sublink → HasOneBlock prepared number sublink.number

abbrev pub GivesOne : Outer → Block → Type 0
GivesOne sublink inner = (ty : Ty) × (map output_ty inner.columns ≡ ty ∷ []) × ((typed_query sublink.query).outputs ≡ ty ∷ [])

abbrev pub InsGiveOne : Prepared → Type 0
InsGiveOne prepared =
    (number place : ℕ) (block inner : Block) (sublink : Outer) → IsBlockAt prepared number block → Contains (in_sublinks_of block) sublink
    → IsBlockAt prepared place inner → inner.sub ≡ Some sublink.number → GivesOne sublink inner

-- 8. What is named has a name.
abbrev pub is_name_of : ℕ → RelName → Bool
is_name_of rel name = name.rel == rel

abbrev pub name_of : Prepared → ℕ → Option RelName
name_of prepared rel = find (is_name_of rel) prepared.names

abbrev pub NamesRelation : Prepared → ℕ → Type 0
NamesRelation prepared rel = IsSome (name_of prepared rel)

abbrev pub NamesRelations : Prepared → ℕ → Type 0
NamesRelations prepared rels = (rel : ℕ) → Has rels rel → NamesRelation prepared rel

abbrev pub NamesColumn : Prepared → ColumnRef → Type 0
NamesColumn prepared c = (name : RelName) × (name_of prepared c.relation ≡ Some name) × (c.column < length name.columns)

pub record IsNamed (prepared : Prepared) (block : Block) : Type 0 where
  pub items : All (λ (item : Item). NamesRelations prepared item.rels) block.problem.items
  pub placeholders : All (NamesRelations prepared) (placeholders_named block)
  pub columns : All (NamesColumn prepared) (columns_named block)

-- 9. Expressions are typed and bounded, outputs have their types, and conditions are booleans.

-- the columns that the items give, with their bounds: those of tables in the schema, those of outputs by their expressions
abbrev pub output_column : Schema → Scope → Output → Column
output_column schema scope output = record { type = output_ty output; bound = bound_of schema (output_expr output) scope }

pub record Shows (schema : Schema) (prepared : Prepared) (scope : Scope) : Type 0 where
  pub tables : (block : Block) (item : Item) (rel table : ℕ) → Contains prepared.blocks block → Contains block.problem.items item → item.kind ≡ kind.Base rel table
      → visible_columns scope rel ≡ columns_of_table (slice_get schema table)
  pub selects : (block : Block) (item : Item) (rel number : ℕ) (inner : Block) → Contains prepared.blocks block → Contains block.problem.items item → item.kind ≡ kind.Sub rel number
      → IsBlockAt prepared number inner → visible_columns scope rel ≡ map (output_column schema scope) inner.columns

abbrev pub HasItsType : Output → Type 0
HasItsType output = type_of (output_expr output) ≡ Some (output_ty output)

-- each column in it, also in the queries of its sublinks, is one that is visible there, and has its type
abbrev pub KnowsScope : Schema → Scope → Expr → Type 0
KnowsScope schema scope e = (judged_expr schema knows_columns e).passes scope ≡ true

pub record IsTypedBlock (schema : Schema) (scope : Scope) (block : Block) : Type 0 where
  pub typed : All IsTypedExpr (exprs_in block)
  pub known : All (KnowsScope schema scope) (exprs_in block)
  pub bounded : All (IsBoundedExpr schema scope) (exprs_in block)
  pub outputs : All HasItsType block.columns
  pub conditions : All IsBoolean (conditions_in block)

-- A planned statement that can be run and printed.
pub record IsWhole (prepared : Prepared) : Type 0 where
  pub schema : Schema
  pub scope : Scope
  pub shows : Shows schema prepared scope
  pub statement : HasStatement prepared
  pub alone : ItemsStandAlone prepared
  pub columns : KnowsColumns schema prepared
  pub plannable : All IsPlannable prepared.blocks
  pub plans : All (HasPlan prepared) prepared.blocks
  pub behind : ItemsAreBehind prepared
  pub sublinks : SublinksHaveBlocks prepared
  pub ins : InsGiveOne prepared
  pub named : All (IsNamed prepared) prepared.blocks
  pub typed : All (IsTypedBlock schema scope) prepared.blocks
