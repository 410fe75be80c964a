-- Which statements are whole: lists have as many members as the grammar gives them, numbers are in range, and a join has
-- a condition where it wants one, at every depth.
use Rattle.std.specs.Prelude.{◌^◌, ℤ, pos, nat_lt, Bool, true, false, ◌&&◌, List, [], ◌∷◌, Option, Some, None}
use Rattle.std.specs.List.{list_all}
use Rattle.jp_ast.specs.declared.tree.JoinWord.TheVariants as join
use Rattle.jp_statements.specs.Layers.{Ast, FromItem, Target, Select, Ast-F, FromItem-F, Target-F, Select-F, fold-Ast, fold-FromItem, fold-Target, fold-Select, OrderAst, Stmt, JoinWord, itself, in_term}

-- ---- what is asked of one node

-- at least one member
abbrev pub has_one : {A : Type 0} → List A → Bool
has_one [] = false
has_one (x ∷ xs) = true

-- at least two members
abbrev pub has_two : {A : Type 0} → List A → Bool
has_two (x ∷ y ∷ xs) = true
has_two _ = false

-- from 0 to 2^127 - 1
abbrev pub is_literal : ℤ → Bool
is_literal (pos n) = nat_lt n (2 ^ 127)
is_literal _ = false

-- ON is missing exactly for CROSS, and passes where it stands
abbrev pub fits_join : {A : Type 0} → (A → Bool) → JoinWord → Option A → Bool
fits_join passes join.Cross None = true
fits_join passes join.Cross (Some on) = false
fits_join passes kind None = false
fits_join passes kind (Some on) = passes on

-- ---- what passes in arms of CASE, and where a part may be missing

abbrev pub arm_passes : {A : Type 0} → (A → Bool) → A × A → Bool
arm_passes passes arm = passes arm.0 && passes arm.1

abbrev pub maybe_passes : {A : Type 0} → (A → Bool) → Option A → Bool
maybe_passes passes None = true
maybe_passes passes (Some x) = passes x

-- ---- one level of each tree, from whether what stands inside is whole

abbrev pub ast_whole : Ast-F Bool Bool Bool Bool → Bool
ast_whole (Ast-F.Number value at) = is_literal value
-- sums, products, `||`, AND and OR have two members
ast_whole (Ast-F.Sum terms at) = has_two terms && list_all (in_term itself) terms
ast_whole (Ast-F.Product factors at) = has_two factors && list_all itself factors
ast_whole (Ast-F.Concat parts at) = has_two parts && list_all itself parts
ast_whole (Ast-F.And list at) = has_two list && list_all itself list
ast_whole (Ast-F.Or list at) = has_two list && list_all itself list
-- the lists of IN and COALESCE have a member, and CASE has an arm
ast_whole (Ast-F.InList operand list at) = operand && (has_one list && list_all itself list)
ast_whole (Ast-F.Coalesce list at) = has_one list && list_all itself list
ast_whole (Ast-F.Case operand arms otherwise at) = maybe_passes itself operand && ((has_one arms && list_all (arm_passes itself) arms) && maybe_passes itself otherwise)
-- of the others nothing is asked but of their parts
ast_whole (Ast-F.Sign minus operand at) = operand
ast_whole (Ast-F.Compare op left right at) = left && right
ast_whole (Ast-F.Between operand low high at) = operand && (low && high)
ast_whole (Ast-F.Not operand at) = operand
ast_whole (Ast-F.Is operand negated word at) = operand
ast_whole (Ast-F.InSelect operand select at) = operand && select
ast_whole (Ast-F.Exists select at) = select
-- texts, TRUE, FALSE, NULL and columns
ast_whole _ = true

-- the sides of a join are whole, and its ON fits its kind
abbrev pub item_whole : FromItem-F Bool Bool Bool Bool → Bool
item_whole (FromItem-F.Table name alias at) = true
item_whole (FromItem-F.Sub select alias at) = select
item_whole (FromItem-F.Join kind left right on at) = left && (right && fits_join itself kind on)

-- `*` and `name.*` ask for nothing
abbrev pub target_whole : Target-F Bool Bool Bool Bool → Bool
target_whole (Target-F.One expr alias) = expr
target_whole _ = true

-- the select list and FROM have a member
abbrev pub select_whole : Select-F Bool Bool Bool Bool → Bool
select_whole s = (has_one s.targets && list_all itself s.targets) && ((has_one s.items && list_all itself s.items) && maybe_passes itself s.cond)

-- ---- whole trees

abbrev pub is_whole_ast : Ast → Bool
is_whole_ast = fold-Ast Bool Bool Bool Bool ast_whole item_whole target_whole select_whole

abbrev pub is_whole_item : FromItem → Bool
is_whole_item = fold-FromItem Bool Bool Bool Bool ast_whole item_whole target_whole select_whole

abbrev pub is_whole_target : Target → Bool
is_whole_target = fold-Target Bool Bool Bool Bool ast_whole item_whole target_whole select_whole

abbrev pub is_whole_select : Select → Bool
is_whole_select = fold-Select Bool Bool Bool Bool ast_whole item_whole target_whole select_whole

abbrev pub is_whole_order : OrderAst → Bool
is_whole_order order = is_whole_ast order.expr

-- a statement with its ORDER BY
abbrev pub is_whole : Stmt → Bool
is_whole s = is_whole_select s.select && list_all is_whole_order s.order
