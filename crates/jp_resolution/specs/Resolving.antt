-- The query that a statement stands for over a catalogue, or its first refusal: one fold over the statement's tree.
use Rattle.std.specs.Prelude.{ℕ, nat_le, Bool, not, List, [], ◌∷◌, ◌++◌, map, Option, Some, None, option_map, Ok, Err, slice_get, codes, decimal, if◌then◌else◌}
use Rattle.jp_base.specs.declared.values.Ty.{Ty}
use Rattle.jp_catalog.specs.Names.{place_of}
use Rattle.jp_ast.specs.declared.tree.JoinWord.TheVariants as join_word
use Rattle.jp_query.specs.declared.JoinKind.{JoinKind}
use Rattle.jp_query.specs.declared.JoinKind.TheVariants as join
use Rattle.jp_query.specs.declared.Expr.{Expr}
use Rattle.jp_query.specs.declared.Expr.TheVariants as expr
use Rattle.jp_query.specs.declared.JoinTree.{JoinTree}
use Rattle.jp_query.specs.declared.JoinTree.TheVariants as tree
use Rattle.jp_query.specs.declared.Order.{Order, roll-Order}
use Rattle.jp_query.specs.declared.Output.{Output, out-Output, roll-Output}
use Rattle.jp_query.specs.declared.Query.{Query, roll-Query}
use Rattle.jp_resolution.specs.Layers.{Ast, FromItem, Target, Select, Ast-F, FromItem-F, Target-F, Select-F, fold-Ast, fold-FromItem, fold-Target, fold-Select, OrderAst, Stmt, JoinWord, Catalog, TableDef, Counts, Column, Entry, Selection, TypedExpr}
use Rattle.jp_resolution.specs.declared.error.ResolveError.TheVariants.{UnknownTable, DuplicateAlias, NotOneColumn, TooManyTables}
use Rattle.jp_resolution.specs.Answers.{Answer, ◌>>=◌, only_if, Gives}
use Rattle.jp_resolution.specs.Counting.{Levels, Part, none, one_entry, both, next_relation, simply, given, beside, listed, optional, sublinked}
use Rattle.jp_resolution.specs.Names.{VisibleColumn, entry_columns, columns_of, column_expr, repeats, named_column, qualified_entry, called, the_only, the_entry}
use Rattle.jp_resolution.specs.Ordering.{Written, as_name, as_number, as_literal, as_other, item_expr, signed}
use Rattle.jp_resolution.specs.Schemas.{bound_of}
use Rattle.jp_resolution.specs.Types.{CaseParts, can_be, expr_as, own_type, own_expr, truth, typed_if, number_literal, text_literal, truth_literal, null_literal, sign_node, sum_node, product_node, concat_node, compare_node, between_node, in_list_node, and_node, or_node, not_node, is_node, coalesce_node, case_node, condition}

-- ---- what the parts of a statement stand for

-- An expression; and, since a fold sees the tree no more, its place, the name of the column that it is, and how it is
-- written where it is an ORDER BY item.
pub record AstMeant : Type 0 where
  pub part : Part TypedExpr
  pub place : ℕ
  pub label : Option (List ℕ)
  pub written : Written

-- an output, with the bound of its expression
pub record Selected : Type 0 where
  pub output : Output
  pub bound : ℕ

-- a FROM item: its entries, from left to right, and its tree
pub record Source : Type 0 where
  pub entries : List Entry
  pub tree : JoinTree

-- What a FROM item gives depends on the entries before it in its list, too. The levels are those outside its select.
pub record ItemMeant : Type 0 where
  pub counts : Counts
  pub from : Levels → List Entry → Counts → Answer Source

abbrev pub Targets : Type 0
Targets = Part (List Selected)

-- ---- queries

abbrev pub query_of : Selection → List Order → Query
query_of s order = roll-Query (record { columns = s.outputs; distinct = s.distinct; tree = s.tree; conds = s.conds; order = order })

abbrev pub output_of : Selected → Output
output_of selected = selected.output

-- A sub-select's column has the name, the type and the bound of its output.
abbrev pub column_of : Selected → Column
column_of selected = record { name = (out-Output selected.output).name; ty = (out-Output selected.output).ty; bound = selected.bound }

-- ---- expressions

abbrev pub part_of : AstMeant → Part TypedExpr
part_of meant = meant.part

abbrev pub parts_of : List AstMeant → Part (List TypedExpr)
parts_of list = listed (map part_of list)

abbrev pub maybe_part : Option AstMeant → Part (Option TypedExpr)
maybe_part meant = optional (option_map part_of meant)

abbrev pub with_sign : Bool → TypedExpr → Answer (Bool × TypedExpr)
with_sign minus e = Ok (minus, e)

abbrev pub term_of : Bool × AstMeant → Part (Bool × TypedExpr)
term_of term = given term.1.part (with_sign term.0)

abbrev pub arm_of : AstMeant × AstMeant → Part (TypedExpr × TypedExpr)
arm_of arm = beside arm.0.part arm.1.part

abbrev pub case_parts : Option TypedExpr × (List (TypedExpr × TypedExpr) × Option TypedExpr) → CaseParts
case_parts parts = record { operand = parts.0; arms = parts.1.0; otherwise = parts.1.1 }

abbrev pub case_of : ℕ → Option TypedExpr × (List (TypedExpr × TypedExpr) × Option TypedExpr) → Answer TypedExpr
case_of at parts = case_node at (case_parts parts)

abbrev pub column : VisibleColumn → Answer TypedExpr
column c = Ok (column_expr c)

abbrev pub name_over : ℕ → List ℕ → Levels → Answer TypedExpr
name_over at name levels = the_only at (named_column name levels) >>= column

abbrev pub column_in : ℕ → List ℕ → Entry → Answer VisibleColumn
column_in at name entry = the_only at (called name (entry_columns entry))

abbrev pub qualified_over : ℕ → List ℕ → List ℕ → Levels → Answer TypedExpr
qualified_over at qualifier name levels = do
  entry ← the_entry at (qualified_entry qualifier levels)
  c ← column_in at name entry
  column c

abbrev pub exists_node : ℕ × Selection → Answer TypedExpr
exists_node sublink = Ok (truth (expr.Exists sublink.0 (query_of sublink.1 [])))

-- The sub-select of IN has one column.
abbrev pub the_column : ℕ → List Output → Answer Output
the_column at (output ∷ []) = Ok output
the_column at _ = Err (NotOneColumn at)

-- The operand and the column are of one type; a target needs none, so its NULL is a text.
abbrev pub in_query : ℕ → ℕ → TypedExpr → Selection → Output → Answer TypedExpr
in_query at number operand selection output =
    let type = (out-Output output).ty in
    typed_if at (can_be type operand) (truth (expr.InSub number (expr_as type operand) (query_of selection [])))

abbrev pub in_select_node : ℕ → ℕ × (TypedExpr × Selection) → Answer TypedExpr
in_select_node at sublink = the_column at sublink.1.1.outputs >>= in_query at sublink.0 sublink.1.0 sublink.1.1

abbrev pub ast_part : Ast-F AstMeant ItemMeant Targets (Part Selection) → Part TypedExpr
ast_part (Ast-F.Number n at) = simply (λ levels. number_literal at n)
ast_part (Ast-F.Text bytes at) = simply (λ levels. text_literal bytes)
ast_part (Ast-F.Bool b at) = simply (λ levels. truth_literal b)
ast_part (Ast-F.Null at) = simply (λ levels. null_literal)
ast_part (Ast-F.Name name at) = simply (name_over at name)
ast_part (Ast-F.Qualified qualifier name at) = simply (qualified_over at qualifier name)
ast_part (Ast-F.Sign minus operand at) = given operand.part (sign_node at minus)
ast_part (Ast-F.Sum terms at) = given (listed (map term_of terms)) (sum_node at)
ast_part (Ast-F.Product factors at) = given (parts_of factors) (product_node at)
ast_part (Ast-F.Concat parts at) = given (parts_of parts) (concat_node at)
ast_part (Ast-F.Compare op left right at) = given (beside left.part right.part) (compare_node at op)
ast_part (Ast-F.Between operand low high at) = given (beside operand.part (beside low.part high.part)) (between_node at)
ast_part (Ast-F.InList operand list at) = given (beside operand.part (parts_of list)) (in_list_node at)
ast_part (Ast-F.InSelect operand select at) = given (sublinked (beside operand.part select)) (in_select_node at)
ast_part (Ast-F.And list at) = given (parts_of list) (and_node at)
ast_part (Ast-F.Or list at) = given (parts_of list) (or_node at)
ast_part (Ast-F.Not operand at) = given operand.part (not_node at)
ast_part (Ast-F.Is operand negated word at) = given operand.part (is_node at negated word)
ast_part (Ast-F.Exists select at) = given (sublinked select) exists_node
ast_part (Ast-F.Coalesce list at) = given (parts_of list) (coalesce_node at)
ast_part (Ast-F.Case operand arms otherwise at) = given (beside (maybe_part operand) (beside (listed (map arm_of arms)) (maybe_part otherwise))) (case_of at)

module _ {A B C D : Type 0} where
  -- the place of a node's first token
  abbrev pub place_of_ast : Ast-F A B C D → ℕ
  place_of_ast (Ast-F.Number n at) = at
  place_of_ast (Ast-F.Text bytes at) = at
  place_of_ast (Ast-F.Bool b at) = at
  place_of_ast (Ast-F.Null at) = at
  place_of_ast (Ast-F.Name name at) = at
  place_of_ast (Ast-F.Qualified qualifier name at) = at
  place_of_ast (Ast-F.Sign minus operand at) = at
  place_of_ast (Ast-F.Sum terms at) = at
  place_of_ast (Ast-F.Product factors at) = at
  place_of_ast (Ast-F.Concat parts at) = at
  place_of_ast (Ast-F.Compare op left right at) = at
  place_of_ast (Ast-F.Between operand low high at) = at
  place_of_ast (Ast-F.InList operand list at) = at
  place_of_ast (Ast-F.InSelect operand select at) = at
  place_of_ast (Ast-F.And list at) = at
  place_of_ast (Ast-F.Or list at) = at
  place_of_ast (Ast-F.Not operand at) = at
  place_of_ast (Ast-F.Is operand negated word at) = at
  place_of_ast (Ast-F.Exists select at) = at
  place_of_ast (Ast-F.Coalesce list at) = at
  place_of_ast (Ast-F.Case operand arms otherwise at) = at

  -- the name of a column as it is written, without its qualifier
  abbrev pub label_of : Ast-F A B C D → Option (List ℕ)
  label_of (Ast-F.Name name at) = Some name
  label_of (Ast-F.Qualified qualifier name at) = Some name
  label_of _ = None

abbrev pub written_as : Ast-F AstMeant ItemMeant Targets (Part Selection) → Written
written_as (Ast-F.Name name at) = as_name name
written_as (Ast-F.Number n at) = as_number n
written_as (Ast-F.Text bytes at) = as_literal
written_as (Ast-F.Bool b at) = as_literal
written_as (Ast-F.Null at) = as_literal
written_as (Ast-F.Sign minus operand at) = signed operand.written
written_as _ = as_other

abbrev pub ast_meant : Ast-F AstMeant ItemMeant Targets (Part Selection) → AstMeant
ast_meant ast = record { part = ast_part ast; place = place_of_ast ast; label = label_of ast; written = written_as ast }

-- ---- FROM items

-- An entry's name is its alias, else its table's name.
abbrev pub entry_name : List ℕ → Option (List ℕ) → List ℕ
entry_name name (Some alias) = alias
entry_name name None = name

-- A sub-select without an alias has none; its leaf is printed as `sub` and its number.
abbrev pub leaf_name : ℕ → Option (List ℕ) → List ℕ
leaf_name relation (Some alias) = alias
leaf_name relation None = codes "sub" ++ decimal relation

-- Two equal names in one FROM list are refused at the second, before what comes behind it.
abbrev pub new_source : ℕ → Option (List ℕ) → List Entry → Source → Answer Source
new_source at name earlier source = only_if (not (repeats name earlier)) (DuplicateAlias at) source

-- a table's column: a number of a table has the bound 2^63
abbrev pub table_column : List ℕ × Ty → Column
table_column column = record { name = column.0; ty = column.1; bound = bound_of column.1 }

abbrev pub table_source : List ℕ → ℕ → ℕ → List (List ℕ × Ty) → Source
table_source name relation place columns =
    record { entries = record { name = Some name; relation = relation; columns = map table_column columns } ∷ []; tree = tree.Base relation name place }

-- the table of a name with its place in the catalogue, from 0
abbrev pub with_place : ℕ → Option (List ℕ × TableDef) → Option (ℕ × TableDef)
with_place place (Some table) = Some (place, table.1)
with_place place None = None

abbrev pub table_at : Catalog → Option ℕ → Option (ℕ × TableDef)
table_at catalog (Some place) = with_place place (slice_get catalog.tables place)
table_at catalog None = None

abbrev pub known : ℕ → Option (ℕ × TableDef) → Answer (ℕ × TableDef)
known at (Some table) = Ok table
known at None = Err (UnknownTable at)

-- A table that the catalogue doesn't have is refused before the entry's own name is judged.
abbrev pub table_from : Catalog → ℕ → List ℕ → Option (List ℕ) → Levels → List Entry → Counts → Answer Source
table_from catalog at name alias outer earlier before = do
  table ← known at (table_at catalog (place_of name catalog.tables))
  new_source at (Some (entry_name name alias)) earlier (table_source (entry_name name alias) (next_relation before) table.0 table.1.columns)

abbrev pub sub_source : ℕ → Option (List ℕ) → Selection → Source
sub_source relation alias selection = record {
  entries = record { name = alias; relation = relation; columns = selection.columns } ∷ [];
  tree = tree.Sub relation (leaf_name relation alias) (query_of selection []);
}

-- A sub-select doesn't see its siblings; it sees the levels outside its parent. Its inside comes before its own name.
abbrev pub sub_from : ℕ → Part Selection → Option (List ℕ) → Levels → List Entry → Counts → Answer Source
sub_from at select alias outer earlier before = do
  selection ← select.over outer (both before one_entry)
  new_source at alias earlier (sub_source (next_relation before) alias selection)

-- CROSS JOIN is an inner join without a condition
abbrev pub kind_of : JoinWord → JoinKind
kind_of join_word.Cross = join.Inner
kind_of join_word.Inner = join.Inner
kind_of join_word.Left = join.Left
kind_of join_word.Right = join.Right
kind_of join_word.Full = join.Full

-- a condition that may be missing
abbrev pub condition_of : Option AstMeant → Part (List Expr)
condition_of None = simply (λ levels. Ok [])
condition_of (Some meant) = given meant.part (condition meant.place)

-- ON comes right after its join's right operand. It sees the entries of its join's two sides, then the outer levels.
abbrev pub join_from : JoinKind → ItemMeant → ItemMeant → Part (List Expr) → Levels → List Entry → Counts → Answer Source
join_from kind left right on outer earlier before = do
  l ← left.from outer earlier before
  r ← right.from outer (earlier ++ l.entries) (both before left.counts)
  conds ← on.over ((l.entries ++ r.entries) ∷ outer) (both (both before left.counts) right.counts)
  Ok (record { entries = l.entries ++ r.entries; tree = tree.Join kind l.tree r.tree conds })

abbrev pub item_from : Catalog → FromItem-F AstMeant ItemMeant Targets (Part Selection) → Levels → List Entry → Counts → Answer Source
item_from catalog (FromItem-F.Table name alias at) = table_from catalog at name alias
item_from catalog (FromItem-F.Sub select alias at) = sub_from at select alias
item_from catalog (FromItem-F.Join kind left right on at) = join_from (kind_of kind) left right (condition_of on)

abbrev pub item_counts : FromItem-F AstMeant ItemMeant Targets (Part Selection) → Counts
item_counts (FromItem-F.Table name alias at) = one_entry
item_counts (FromItem-F.Sub select alias at) = both one_entry select.counts
item_counts (FromItem-F.Join kind left right on at) = both (both left.counts right.counts) (condition_of on).counts

abbrev pub item_meant : Catalog → FromItem-F AstMeant ItemMeant Targets (Part Selection) → ItemMeant
item_meant catalog item = record { counts = item_counts item; from = item_from catalog item }

-- a FROM list: the entries of all its items, and their trees
pub record Sources : Type 0 where
  pub entries : List Entry
  pub trees : List JoinTree

abbrev pub with_source : Source → Sources → Sources
with_source source more = record { entries = source.entries ++ more.entries; trees = source.tree ∷ more.trees }

-- FROM items are walked from left to right.
abbrev pub items_from : List ItemMeant → Levels → List Entry → Counts → Answer Sources
items_from [] outer earlier before = Ok (record { entries = []; trees = [] })
items_from (item ∷ items) outer earlier before = do
  source ← item.from outer earlier before
  more ← items_from items outer (earlier ++ source.entries) (both before item.counts)
  Ok (with_source source more)

abbrev pub counts_of_items : List ItemMeant → Counts
counts_of_items [] = none
counts_of_items (item ∷ items) = both item.counts (counts_of_items items)

-- ---- targets

abbrev pub selected : List ℕ → Ty → Expr → ℕ → Selected
selected name type e bound = record { output = roll-Output (record { name = name; ty = type; expr = e }); bound = bound }

-- An output's name is its alias, else the column's name, else `?column?`.
abbrev pub output_name : Option (List ℕ) → Option (List ℕ) → List ℕ
output_name (Some alias) label = alias
output_name None (Some name) = name
output_name None None = codes "?column?"

-- A target needs no type.
abbrev pub one_output : List ℕ → TypedExpr → Answer (List Selected)
one_output name e = Ok (selected name (own_type e) (own_expr e) e.bound ∷ [])

abbrev pub column_output : VisibleColumn → Selected
column_output c = selected c.column.name c.column.ty (column_expr c).expr c.column.bound

-- `*` gives all columns of the entries in order.
abbrev pub all_columns : Levels → Answer (List Selected)
all_columns [] = Ok []
all_columns (level ∷ levels) = Ok (map column_output (columns_of level))

abbrev pub entry_outputs : Entry → Answer (List Selected)
entry_outputs entry = Ok (map column_output (entry_columns entry))

-- `q.*` gives all columns of the entry that the qualifier takes.
abbrev pub all_columns_of : ℕ → List ℕ → Levels → Answer (List Selected)
all_columns_of at qualifier levels = the_entry at (qualified_entry qualifier levels) >>= entry_outputs

abbrev pub target_meant : Target-F AstMeant ItemMeant Targets (Part Selection) → Targets
target_meant (Target-F.All at) = simply all_columns
target_meant (Target-F.AllOf name at) = simply (all_columns_of at name)
target_meant (Target-F.One meant alias) = given meant.part (one_output (output_name alias meant.label))

abbrev pub outputs_in : List (List Selected) → List Selected
outputs_in [] = []
outputs_in (outputs ∷ more) = outputs ++ outputs_in more

abbrev pub all_outputs : List (List Selected) → Answer (List Selected)
all_outputs lists = Ok (outputs_in lists)

abbrev pub targets_of : List Targets → Targets
targets_of targets = given (listed targets) all_outputs

-- ---- selects

-- The tree is a From over the FROM items with an empty list, and the conditions are the WHERE list.
abbrev pub selection : Bool → Sources → List Expr → List Selected → Selection
selection distinct sources conds outputs =
    record { entries = sources.entries; outputs = map output_of outputs; columns = map column_of outputs; distinct = distinct; tree = tree.From sources.trees []; conds = conds }

-- The targets are written first, but FROM is walked first, then WHERE, then the targets.
abbrev pub select_over : Bool → Targets → List ItemMeant → Part (List Expr) → Levels → Counts → Answer Selection
select_over distinct targets items cond outer before = do
  sources ← items_from items outer [] (both before targets.counts)
  conds ← cond.over (sources.entries ∷ outer) (both (both before targets.counts) (counts_of_items items))
  outputs ← targets.over (sources.entries ∷ outer) before
  Ok (selection distinct sources conds outputs)

abbrev pub select_counts : Targets → List ItemMeant → Part (List Expr) → Counts
select_counts targets items cond = both (both targets.counts (counts_of_items items)) cond.counts

abbrev pub select_meant : Select-F AstMeant ItemMeant Targets (Part Selection) → Part Selection
select_meant s = record {
  counts = select_counts (targets_of s.targets) s.items (condition_of s.cond);
  over = select_over s.distinct (targets_of s.targets) s.items (condition_of s.cond);
}

-- ---- whole trees

module _ (catalog : Catalog) where
  abbrev pub meant_by : Ast → AstMeant
  meant_by = fold-Ast AstMeant ItemMeant Targets (Part Selection) ast_meant (item_meant catalog) target_meant select_meant

  abbrev pub item_by : FromItem → ItemMeant
  item_by = fold-FromItem AstMeant ItemMeant Targets (Part Selection) ast_meant (item_meant catalog) target_meant select_meant

  abbrev pub target_by : Target → Targets
  target_by = fold-Target AstMeant ItemMeant Targets (Part Selection) ast_meant (item_meant catalog) target_meant select_meant

  abbrev pub select_by : Select → Part Selection
  select_by = fold-Select AstMeant ItemMeant Targets (Part Selection) ast_meant (item_meant catalog) target_meant select_meant

-- ---- statements

abbrev pub order_of : Bool → Bool → Expr → Answer Order
order_of desc nulls_first e = Ok (roll-Order (record { expr = e; desc = desc; nulls_first = nulls_first }))

abbrev pub order_over : Bool → List Output → AstMeant → Bool → Bool → Levels → Counts → Answer Order
order_over distinct outputs meant desc nulls_first levels before =
    item_expr meant.place distinct outputs (meant.part.over levels before) meant.written >>= order_of desc nulls_first

abbrev pub order_part : Bool → List Output → AstMeant → Bool → Bool → Part Order
order_part distinct outputs meant desc nulls_first = record { counts = meant.part.counts; over = order_over distinct outputs meant desc nulls_first }

-- an item, over the outputs of its select
abbrev pub order_by : Catalog → Bool → List Output → OrderAst → Part Order
order_by catalog distinct outputs order = order_part distinct outputs (meant_by catalog order.expr) order.desc order.nulls_first

abbrev pub orders_by : Catalog → Bool → List Output → List OrderAst → Part (List Order)
orders_by catalog distinct outputs order = listed (map (order_by catalog distinct outputs) order)

-- what stands in an ORDER BY
abbrev pub counts_in_order : Catalog → OrderAst → Counts
counts_in_order catalog order = (meant_by catalog order.expr).part.counts

abbrev pub counts_in_orders : Catalog → List OrderAst → Counts
counts_in_orders catalog [] = none
counts_in_orders catalog (order ∷ more) = both (counts_in_order catalog order) (counts_in_orders catalog more)

-- what stands in a statement
abbrev pub counts_in : Catalog → Stmt → Counts
counts_in catalog stmt = both (select_by catalog stmt.select).counts (counts_in_orders catalog stmt.order)

-- The entries of all FROM lists, at every depth and in sublinks, are at most so many.
abbrev pub entry_limit : ℕ
entry_limit = 12

-- ORDER BY comes last, over the entries of FROM.
abbrev pub ordered : Catalog → List OrderAst → Counts → Selection → Answer Query
ordered catalog order before selection = do
  items ← (orders_by catalog selection.distinct selection.outputs order).over (selection.entries ∷ []) before
  Ok (query_of selection items)

-- a statement whose entries are few enough
abbrev pub counted : Catalog → Stmt → Answer Query
counted catalog stmt = do
  selection ← (select_by catalog stmt.select).over [] none
  ordered catalog stmt.order (select_by catalog stmt.select).counts selection

-- The query that a statement stands for, or its first refusal.
unfoldable pub resolved : Catalog → Stmt → Answer Query
resolved catalog stmt =
    if nat_le (counts_in catalog stmt).entries entry_limit then counted catalog stmt else Err (TooManyTables (counts_in catalog stmt).entries)

-- What `resolve` answers.
abbrev pub Resolves : Catalog → Stmt → Answer Query → Type 0
Resolves catalog stmt answer = Gives (resolved catalog stmt) answer
