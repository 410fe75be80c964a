-- How many entries the FROM lists of a statement have together, at every depth and in sublinks: tables and sub-selects
-- alike. A sub-select is an entry itself, beside those inside it.
use Rattle.std.specs.Prelude.{ℕ, ◌+◌, Option, Some, None}
use Rattle.std.specs.List.{sum_by}
use Rattle.jp_statements.specs.Layers.{Ast, FromItem, Target, Select, Ast-F, FromItem-F, Target-F, Select-F, fold-Ast, fold-FromItem, fold-Target, fold-Select, OrderAst, Stmt, itself, in_term}

-- ---- arms of CASE, and parts that may be missing

abbrev pub in_arm : {A : Type 0} → (A → ℕ) → A × A → ℕ
in_arm count arm = count arm.0 + count arm.1

abbrev pub in_maybe : {A : Type 0} → (A → ℕ) → Option A → ℕ
in_maybe count None = 0
in_maybe count (Some x) = count x

-- ---- one level of each tree, from the entries of what stands inside

abbrev pub ast_entries : Ast-F ℕ ℕ ℕ ℕ → ℕ
ast_entries (Ast-F.Sign minus operand at) = operand
ast_entries (Ast-F.Sum terms at) = sum_by (in_term itself) terms
ast_entries (Ast-F.Product factors at) = sum_by itself factors
ast_entries (Ast-F.Concat parts at) = sum_by itself parts
ast_entries (Ast-F.Compare op left right at) = left + right
ast_entries (Ast-F.Between operand low high at) = operand + (low + high)
ast_entries (Ast-F.InList operand list at) = operand + sum_by itself list
ast_entries (Ast-F.InSelect operand select at) = operand + select
ast_entries (Ast-F.And list at) = sum_by itself list
ast_entries (Ast-F.Or list at) = sum_by itself list
ast_entries (Ast-F.Not operand at) = operand
ast_entries (Ast-F.Is operand negated word at) = operand
ast_entries (Ast-F.Exists select at) = select
ast_entries (Ast-F.Coalesce list at) = sum_by itself list
ast_entries (Ast-F.Case operand arms otherwise at) = in_maybe itself operand + (sum_by (in_arm itself) arms + in_maybe itself otherwise)
-- literals and columns
ast_entries _ = 0

abbrev pub item_entries : FromItem-F ℕ ℕ ℕ ℕ → ℕ
item_entries (FromItem-F.Table name alias at) = 1
item_entries (FromItem-F.Sub select alias at) = 1 + select
item_entries (FromItem-F.Join kind left right on at) = left + (right + in_maybe itself on)

abbrev pub target_entries : Target-F ℕ ℕ ℕ ℕ → ℕ
target_entries (Target-F.One expr alias) = expr
target_entries _ = 0

abbrev pub select_entries : Select-F ℕ ℕ ℕ ℕ → ℕ
select_entries s = sum_by itself s.targets + (sum_by itself s.items + in_maybe itself s.cond)

-- ---- whole trees

abbrev pub entries_in_ast : Ast → ℕ
entries_in_ast = fold-Ast ℕ ℕ ℕ ℕ ast_entries item_entries target_entries select_entries

abbrev pub entries_in_item : FromItem → ℕ
entries_in_item = fold-FromItem ℕ ℕ ℕ ℕ ast_entries item_entries target_entries select_entries

abbrev pub entries_in_target : Target → ℕ
entries_in_target = fold-Target ℕ ℕ ℕ ℕ ast_entries item_entries target_entries select_entries

abbrev pub entries_in_select : Select → ℕ
entries_in_select = fold-Select ℕ ℕ ℕ ℕ ast_entries item_entries target_entries select_entries

abbrev pub entries_in_order : OrderAst → ℕ
entries_in_order order = entries_in_ast order.expr

-- a statement with its ORDER BY
abbrev pub entries_in_statement : Stmt → ℕ
entries_in_statement s = entries_in_select s.select + sum_by entries_in_order s.order
