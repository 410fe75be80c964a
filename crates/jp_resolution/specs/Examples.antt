-- Small statements that the definitions are run on, with the places of the text in the comment above each.
use Rattle.std.specs.Prelude.{ℕ, pos, Bool, true, false, List, [], ◌∷◌, map, Option, Some, None, Ok, Err, codes}
use Rattle.jp_base.specs.declared.values.Ty.{Ty}
use Rattle.jp_base.specs.declared.values.Ty.TheVariants as ty
use Rattle.jp_base.specs.declared.values.Value.TheVariants as value
use Rattle.jp_ast.specs.declared.tree.Ast.TheViews.{roll-Ast, roll-FromItem, roll-Target, roll-Select}
use Rattle.jp_ast.specs.declared.tree.CmpWord.TheVariants as cmp
use Rattle.jp_ast.specs.declared.tree.IsWord.TheVariants as word
use Rattle.jp_ast.specs.declared.tree.JoinWord.TheVariants as join
use Rattle.jp_query.specs.declared.Expr.{Expr}
use Rattle.jp_query.specs.declared.Expr.TheVariants as expr
use Rattle.jp_query.specs.declared.JoinTree.{JoinTree}
use Rattle.jp_query.specs.declared.JoinTree.TheVariants as tree
use Rattle.jp_query.specs.declared.Output.{Output, out-Output, roll-Output}
use Rattle.jp_query.specs.declared.Query.{Query, out-Query, roll-Query}
use Rattle.jp_resolution.specs.Layers.{Ast, FromItem, Target, Select, Ast-F, FromItem-F, Target-F, Stmt, OrderAst, CmpWord, IsWord, JoinWord, Catalog, TableDef, ResolveError}
use Rattle.jp_resolution.specs.Answers.{Answer}

-- ---- the catalogue: a (id, x), b (id, aid, y), c (id, bid, z) and d (v) of numbers, e (t) of texts

abbrev pub number_column : List ℕ → List ℕ × Ty
number_column name = (name, ty.Number)

abbrev pub table_of : List (List ℕ × Ty) → TableDef
table_of columns = record { file = []; rows = 1; columns = columns; keys = [] }

abbrev pub catalog : Catalog
catalog = record {
  tables = (codes "a", table_of (number_column (codes "id") ∷ number_column (codes "x") ∷ []))
      ∷ (codes "b", table_of (number_column (codes "id") ∷ number_column (codes "aid") ∷ number_column (codes "y") ∷ []))
      ∷ (codes "c", table_of (number_column (codes "id") ∷ number_column (codes "bid") ∷ number_column (codes "z") ∷ []))
      ∷ (codes "d", table_of (number_column (codes "v") ∷ []))
      ∷ (codes "e", table_of ((codes "t", ty.Text) ∷ []))
      ∷ [];
}

-- ---- trees

abbrev pub number : ℕ → ℕ → Ast
number n at = roll-Ast (Ast-F.Number (pos n) at)

abbrev pub text : List ℕ → ℕ → Ast
text bytes at = roll-Ast (Ast-F.Text bytes at)

abbrev pub truth : Bool → ℕ → Ast
truth b at = roll-Ast (Ast-F.Bool b at)

abbrev pub null : ℕ → Ast
null at = roll-Ast (Ast-F.Null at)

abbrev pub name : List ℕ → ℕ → Ast
name n at = roll-Ast (Ast-F.Name n at)

abbrev pub qualified : List ℕ → List ℕ → ℕ → Ast
qualified q n at = roll-Ast (Ast-F.Qualified q n at)

abbrev pub sign : Bool → Ast → ℕ → Ast
sign minus e at = roll-Ast (Ast-F.Sign minus e at)

abbrev pub sum : List (Bool × Ast) → ℕ → Ast
sum terms at = roll-Ast (Ast-F.Sum terms at)

abbrev pub product : List Ast → ℕ → Ast
product factors at = roll-Ast (Ast-F.Product factors at)

abbrev pub concat : List Ast → ℕ → Ast
concat parts at = roll-Ast (Ast-F.Concat parts at)

abbrev pub compare : CmpWord → Ast → Ast → ℕ → Ast
compare op left right at = roll-Ast (Ast-F.Compare op left right at)

abbrev pub in_select : Ast → Select → ℕ → Ast
in_select e select at = roll-Ast (Ast-F.InSelect e select at)

abbrev pub and : List Ast → ℕ → Ast
and list at = roll-Ast (Ast-F.And list at)

abbrev pub or : List Ast → ℕ → Ast
or list at = roll-Ast (Ast-F.Or list at)

abbrev pub is : Ast → Bool → IsWord → ℕ → Ast
is e negated w at = roll-Ast (Ast-F.Is e negated w at)

abbrev pub exists : Select → ℕ → Ast
exists select at = roll-Ast (Ast-F.Exists select at)

abbrev pub coalesce : List Ast → ℕ → Ast
coalesce list at = roll-Ast (Ast-F.Coalesce list at)

abbrev pub case : Option Ast → List (Ast × Ast) → Option Ast → ℕ → Ast
case operand arms otherwise at = roll-Ast (Ast-F.Case operand arms otherwise at)

abbrev pub target : Ast → Option (List ℕ) → Target
target e alias = roll-Target (Target-F.One e alias)

abbrev pub star : ℕ → Target
star at = roll-Target (Target-F.All at)

abbrev pub star_of : List ℕ → ℕ → Target
star_of n at = roll-Target (Target-F.AllOf n at)

abbrev pub table : List ℕ → Option (List ℕ) → ℕ → FromItem
table n alias at = roll-FromItem (FromItem-F.Table n alias at)

abbrev pub sub : Select → Option (List ℕ) → ℕ → FromItem
sub s alias at = roll-FromItem (FromItem-F.Sub s alias at)

abbrev pub joined : JoinWord → FromItem → FromItem → Option Ast → ℕ → FromItem
joined kind left right on at = roll-FromItem (FromItem-F.Join kind left right on at)

abbrev pub select : Bool → List Target → List FromItem → Option Ast → Select
select distinct targets items cond = roll-Select (record { distinct = distinct; targets = targets; items = items; cond = cond })

abbrev pub order : Ast → Bool → OrderAst
order e desc = record { expr = e; desc = desc; nulls_first = desc }

abbrev pub statement : Select → List OrderAst → Stmt
statement s order = record { select = s; order = order }

-- ---- what is looked at of an answer

-- the refusal, or none where the statement is accepted
abbrev pub refusal_of : Answer Query → Option ResolveError
refusal_of (Ok query) = None
refusal_of (Err refusal) = Some refusal

-- the names and types of the outputs
abbrev pub output_shown : Output → List ℕ × Ty
output_shown output = ((out-Output output).name, (out-Output output).ty)

abbrev pub outputs_of : Answer Query → List (List ℕ × Ty)
outputs_of (Ok query) = map output_shown (out-Query query).columns
outputs_of (Err refusal) = []

-- ---- queries that are expected whole

abbrev pub query : List ℕ → Ty → Expr → JoinTree → List Expr → Query
query name type e leaf conds =
    roll-Query (record { columns = roll-Output (record { name = name; ty = type; expr = e }) ∷ []; distinct = false; tree = tree.From (leaf ∷ []) []; conds = conds; order = [] })

-- SELECT 1 FROM b, whose entry has this number
abbrev pub one_of_b : ℕ → Query
one_of_b relation = query (codes "?column?") ty.Number (expr.Lit (value.Num (pos 1)) ty.Number) (tree.Base relation (codes "b") 1) []

-- the query of `target_before_entries`
abbrev pub target_query : Query
target_query = query (codes "?column?") ty.Boolean (expr.Exists 1 (one_of_b 0)) (tree.Base 1 (codes "a") 0) []

-- SELECT EXISTS (SELECT 1 FROM d) FROM c, in `in_before_its_operand`
abbrev pub among : Query
among = query (codes "?column?") ty.Boolean
    (expr.Exists 3 (query (codes "?column?") ty.Number (expr.Lit (value.Num (pos 1)) ty.Number) (tree.Base 1 (codes "d") 3) []))
    (tree.Base 2 (codes "c") 2) []

-- the query of `in_before_its_operand`
abbrev pub in_query : Query
in_query = query (codes "?column?") ty.Boolean (expr.InSub 1 (expr.Exists 2 (one_of_b 0)) among) (tree.Base 3 (codes "a") 0) []

-- ---- statements

-- SELECT zz FROM a t1, a t2, a t3, a t4, a t5, a t6, a t7, a t8, a t9, a t10, a t11 WHERE EXISTS (SELECT 1 FROM (SELECT 1 FROM b) s)
abbrev pub thirteen_entries : Stmt
thirteen_entries = statement (select false ((target (name (codes "zz") 7) None) ∷ []) ((table (codes "a") (Some (codes "t1")) 15) ∷ (table (codes "a") (Some (codes "t2")) 21) ∷ (table (codes "a") (Some (codes "t3")) 27) ∷ (table (codes "a") (Some (codes "t4")) 33) ∷ (table (codes "a") (Some (codes "t5")) 39) ∷ (table (codes "a") (Some (codes "t6")) 45) ∷ (table (codes "a") (Some (codes "t7")) 51) ∷ (table (codes "a") (Some (codes "t8")) 57) ∷ (table (codes "a") (Some (codes "t9")) 63) ∷ (table (codes "a") (Some (codes "t10")) 69) ∷ (table (codes "a") (Some (codes "t11")) 76) ∷ []) (Some (exists (select false ((target (number 1 103) None) ∷ []) ((sub (select false ((target (number 1 118) None) ∷ []) ((table (codes "b") None 125) ∷ []) None) (Some (codes "s")) 110) ∷ []) None) 88))) []

-- SELECT t1.id FROM a t1, a t2, a t3, a t4, a t5, a t6, a t7, a t8, a t9, a t10, a t11 WHERE EXISTS (SELECT 1 FROM b)
abbrev pub twelve_entries : Stmt
twelve_entries = statement (select false ((target (qualified (codes "t1") (codes "id") 7) None) ∷ []) ((table (codes "a") (Some (codes "t1")) 18) ∷ (table (codes "a") (Some (codes "t2")) 24) ∷ (table (codes "a") (Some (codes "t3")) 30) ∷ (table (codes "a") (Some (codes "t4")) 36) ∷ (table (codes "a") (Some (codes "t5")) 42) ∷ (table (codes "a") (Some (codes "t6")) 48) ∷ (table (codes "a") (Some (codes "t7")) 54) ∷ (table (codes "a") (Some (codes "t8")) 60) ∷ (table (codes "a") (Some (codes "t9")) 66) ∷ (table (codes "a") (Some (codes "t10")) 72) ∷ (table (codes "a") (Some (codes "t11")) 79) ∷ []) (Some (exists (select false ((target (number 1 106) None) ∷ []) ((table (codes "b") None 113) ∷ []) None) 91))) []

-- SELECT EXISTS (SELECT 1 FROM b) FROM a
abbrev pub target_before_entries : Stmt
target_before_entries = statement (select false ((target (exists (select false ((target (number 1 22) None) ∷ []) ((table (codes "b") None 29) ∷ []) None) 7) None) ∷ []) ((table (codes "a") None 37) ∷ []) None) []

-- SELECT EXISTS (SELECT 1 FROM b) IN (SELECT EXISTS (SELECT 1 FROM d) FROM c) FROM a
abbrev pub in_before_its_operand : Stmt
in_before_its_operand = statement (select false ((target (in_select (exists (select false ((target (number 1 22) None) ∷ []) ((table (codes "b") None 29) ∷ []) None) 7) (select false ((target (exists (select false ((target (number 1 58) None) ∷ []) ((table (codes "d") None 65) ∷ []) None) 43) None) ∷ []) ((table (codes "c") None 73) ∷ []) None) 7) None) ∷ []) ((table (codes "a") None 81) ∷ []) None) []

-- SELECT zz FROM a WHERE yy = 1
abbrev pub where_before_targets : Stmt
where_before_targets = statement (select false ((target (name (codes "zz") 7) None) ∷ []) ((table (codes "a") None 15) ∷ []) (Some (compare cmp.Eq (name (codes "yy") 23) (number 1 28) 23))) []

-- SELECT zz FROM a ORDER BY yy
abbrev pub targets_before_order : Stmt
targets_before_order = statement (select false ((target (name (codes "zz") 7) None) ∷ []) ((table (codes "a") None 15) ∷ []) None) ((order (name (codes "yy") 26) false) ∷ [])

-- SELECT 1 FROM a JOIN b ON yy = 1, a
abbrev pub on_before_later_entries : Stmt
on_before_later_entries = statement (select false ((target (number 1 7) None) ∷ []) ((joined join.Inner (table (codes "a") None 14) (table (codes "b") None 21) (Some (compare cmp.Eq (name (codes "yy") 26) (number 1 31) 26)) 14) ∷ (table (codes "a") None 34) ∷ []) None) []

-- SELECT 1 FROM a JOIN a ON yy = 1
abbrev pub entry_before_on : Stmt
entry_before_on = statement (select false ((target (number 1 7) None) ∷ []) ((joined join.Inner (table (codes "a") None 14) (table (codes "a") None 21) (Some (compare cmp.Eq (name (codes "yy") 26) (number 1 31) 26)) 14) ∷ []) None) []

-- SELECT 1 FROM a s, zz s
abbrev pub table_before_its_name : Stmt
table_before_its_name = statement (select false ((target (number 1 7) None) ∷ []) ((table (codes "a") (Some (codes "s")) 14) ∷ (table (codes "zz") (Some (codes "s")) 19) ∷ []) None) []

-- SELECT 1 FROM a s, (SELECT q FROM b) s
abbrev pub inside_before_its_name : Stmt
inside_before_its_name = statement (select false ((target (number 1 7) None) ∷ []) ((table (codes "a") (Some (codes "s")) 14) ∷ (sub (select false ((target (name (codes "q") 27) None) ∷ []) ((table (codes "b") None 34) ∷ []) None) (Some (codes "s")) 19) ∷ []) None) []

-- SELECT 1 FROM a s, (SELECT y FROM b) s
abbrev pub repeated_sub_select : Stmt
repeated_sub_select = statement (select false ((target (number 1 7) None) ∷ []) ((table (codes "a") (Some (codes "s")) 14) ∷ (sub (select false ((target (name (codes "y") 27) None) ∷ []) ((table (codes "b") None 34) ∷ []) None) (Some (codes "s")) 19) ∷ []) None) []

-- SELECT id FROM a WHERE 1 OR zz
abbrev pub operands_before_type : Stmt
operands_before_type = statement (select false ((target (name (codes "id") 7) None) ∷ []) ((table (codes "a") None 15) ∷ []) (Some (or ((number 1 23) ∷ (name (codes "zz") 28) ∷ []) 23))) []

-- SELECT x * x * x + 'a' FROM a
abbrev pub bound_before_next_operand : Stmt
bound_before_next_operand = statement (select false ((target (sum ((false, (product ((name (codes "x") 7) ∷ (name (codes "x") 11) ∷ (name (codes "x") 15) ∷ []) 7)) ∷ (false, (text (codes "a") 19)) ∷ []) 7) None) ∷ []) ((table (codes "a") None 28) ∷ []) None) []

-- SELECT sub1.id FROM a, (SELECT id FROM b)
abbrev pub no_name_of_its_own : Stmt
no_name_of_its_own = statement (select false ((target (qualified (codes "sub1") (codes "id") 7) None) ∷ []) ((table (codes "a") None 20) ∷ (sub (select false ((target (name (codes "id") 31) None) ∷ []) ((table (codes "b") None 39) ∷ []) None) None 23) ∷ []) None) []

-- SELECT 1 FROM a WHERE EXISTS (SELECT 1 FROM b a WHERE a.x = 1)
abbrev pub innermost_qualifier : Stmt
innermost_qualifier = statement (select false ((target (number 1 7) None) ∷ []) ((table (codes "a") None 14) ∷ []) (Some (exists (select false ((target (number 1 37) None) ∷ []) ((table (codes "b") (Some (codes "a")) 44) ∷ []) (Some (compare cmp.Eq (qualified (codes "a") (codes "x") 54) (number 1 60) 54))) 22))) []

-- SELECT 1 FROM a WHERE EXISTS (SELECT 1 FROM b a WHERE a.aid = x)
abbrev pub name_of_outer_level : Stmt
name_of_outer_level = statement (select false ((target (number 1 7) None) ∷ []) ((table (codes "a") None 14) ∷ []) (Some (exists (select false ((target (number 1 37) None) ∷ []) ((table (codes "b") (Some (codes "a")) 44) ∷ []) (Some (compare cmp.Eq (qualified (codes "a") (codes "aid") 54) (name (codes "x") 62) 54))) 22))) []

-- SELECT s.id FROM (SELECT a.id, b.id FROM a, b) s
abbrev pub column_twice : Stmt
column_twice = statement (select false ((target (qualified (codes "s") (codes "id") 7) None) ∷ []) ((sub (select false ((target (qualified (codes "a") (codes "id") 25) None) ∷ (target (qualified (codes "b") (codes "id") 31) None) ∷ []) ((table (codes "a") None 41) ∷ (table (codes "b") None 44) ∷ []) None) (Some (codes "s")) 17) ∷ []) None) []

-- SELECT s.* FROM (SELECT a.id, b.id FROM a, b) s
abbrev pub star_of_columns_twice : Stmt
star_of_columns_twice = statement (select false ((star_of (codes "s") 7) ∷ []) ((sub (select false ((target (qualified (codes "a") (codes "id") 24) None) ∷ (target (qualified (codes "b") (codes "id") 30) None) ∷ []) ((table (codes "a") None 40) ∷ (table (codes "b") None 43) ∷ []) None) (Some (codes "s")) 16) ∷ []) None) []

-- SELECT id FROM a, b
abbrev pub column_of_two_entries : Stmt
column_of_two_entries = statement (select false ((target (name (codes "id") 7) None) ∷ []) ((table (codes "a") None 15) ∷ (table (codes "b") None 18) ∷ []) None) []

-- SELECT 1 FROM a, b WHERE EXISTS (SELECT 1 FROM c WHERE id = z)
abbrev pub inner_level_first : Stmt
inner_level_first = statement (select false ((target (number 1 7) None) ∷ []) ((table (codes "a") None 14) ∷ (table (codes "b") None 17) ∷ []) (Some (exists (select false ((target (number 1 40) None) ∷ []) ((table (codes "c") None 47) ∷ []) (Some (compare cmp.Eq (name (codes "id") 55) (name (codes "z") 60) 55))) 25))) []

-- SELECT 1 FROM b WHERE EXISTS (SELECT 1 FROM b x, c JOIN d ON b.id = d.v)
abbrev pub on_sees_outer_levels : Stmt
on_sees_outer_levels = statement (select false ((target (number 1 7) None) ∷ []) ((table (codes "b") None 14) ∷ []) (Some (exists (select false ((target (number 1 37) None) ∷ []) ((table (codes "b") (Some (codes "x")) 44) ∷ (joined join.Inner (table (codes "c") None 49) (table (codes "d") None 56) (Some (compare cmp.Eq (qualified (codes "b") (codes "id") 61) (qualified (codes "d") (codes "v") 68) 61)) 49) ∷ []) None) 22))) []

-- SELECT 1 FROM a, b JOIN c ON a.id = 1
abbrev pub on_sees_two_sides : Stmt
on_sees_two_sides = statement (select false ((target (number 1 7) None) ∷ []) ((table (codes "a") None 14) ∷ (joined join.Inner (table (codes "b") None 17) (table (codes "c") None 24) (Some (compare cmp.Eq (qualified (codes "a") (codes "id") 29) (number 1 36) 29)) 17) ∷ []) None) []

-- SELECT 1 FROM a, (SELECT 1 AS one FROM b WHERE b.aid = a.id) s
abbrev pub sibling_unseen : Stmt
sibling_unseen = statement (select false ((target (number 1 7) None) ∷ []) ((table (codes "a") None 14) ∷ (sub (select false ((target (number 1 25) (Some (codes "one"))) ∷ []) ((table (codes "b") None 39) ∷ []) (Some (compare cmp.Eq (qualified (codes "b") (codes "aid") 47) (qualified (codes "a") (codes "id") 55) 47))) (Some (codes "s")) 17) ∷ []) None) []

-- SELECT s.*, a.* FROM a, (SELECT v FROM d WHERE EXISTS (SELECT d.* FROM c)) s
abbrev pub star_of_outer_entry : Stmt
star_of_outer_entry = statement (select false ((star_of (codes "s") 7) ∷ (star_of (codes "a") 12) ∷ []) ((table (codes "a") None 21) ∷ (sub (select false ((target (name (codes "v") 32) None) ∷ []) ((table (codes "d") None 39) ∷ []) (Some (exists (select false ((star_of (codes "d") 62) ∷ []) ((table (codes "c") None 71) ∷ []) None) 47))) (Some (codes "s")) 24) ∷ []) None) []

-- SELECT q.* FROM a
abbrev pub star_unknown : Stmt
star_unknown = statement (select false ((star_of (codes "q") 7) ∷ []) ((table (codes "a") None 16) ∷ []) None) []

-- SELECT 1 FROM d WHERE EXISTS (SELECT d.* FROM c)
abbrev pub outer_star : Stmt
outer_star = statement (select false ((target (number 1 7) None) ∷ []) ((table (codes "d") None 14) ∷ []) (Some (exists (select false ((star_of (codes "d") 37) ∷ []) ((table (codes "c") None 46) ∷ []) None) 22))) []

-- SELECT 'a' || 'b' + 1 FROM a
abbrev pub sum_of_a_text : Stmt
sum_of_a_text = statement (select false ((target (concat ((text (codes "a") 7) ∷ (sum ((false, (text (codes "b") 14)) ∷ (false, (number 1 20)) ∷ []) 14) ∷ []) 7) None) ∷ []) ((table (codes "a") None 27) ∷ []) None) []

-- SELECT 1 FROM a WHERE x = 1 AND 2
abbrev pub member_of_and : Stmt
member_of_and = statement (select false ((target (number 1 7) None) ∷ []) ((table (codes "a") None 14) ∷ []) (Some (and ((compare cmp.Eq (name (codes "x") 22) (number 1 26) 22) ∷ (number 2 32) ∷ []) 22))) []

-- SELECT CASE WHEN 1 THEN 2 END FROM a
abbrev pub condition_of_when : Stmt
condition_of_when = statement (select false ((target (case None (((number 1 17), (number 2 24)) ∷ []) None 7) None) ∷ []) ((table (codes "a") None 35) ∷ []) None) []

-- SELECT 1 FROM a WHERE (x)
abbrev pub condition_in_parentheses : Stmt
condition_in_parentheses = statement (select false ((target (number 1 7) None) ∷ []) ((table (codes "a") None 14) ∷ []) (Some (name (codes "x") 23))) []

-- SELECT 1 FROM a WHERE (x) + 1
abbrev pub sum_in_condition : Stmt
sum_in_condition = statement (select false ((target (number 1 7) None) ∷ []) ((table (codes "a") None 14) ∷ []) (Some (sum ((false, (name (codes "x") 23)) ∷ (false, (number 1 28)) ∷ []) 22))) []

-- SELECT COALESCE(NULL) + 1 FROM a
abbrev pub coalesce_hands_nothing_down : Stmt
coalesce_hands_nothing_down = statement (select false ((target (sum ((false, (coalesce ((null 16) ∷ []) 7)) ∷ (false, (number 1 24)) ∷ []) 7) None) ∷ []) ((table (codes "a") None 31) ∷ []) None) []

-- SELECT +NULL || 'a' FROM a
abbrev pub signed_null_is_a_number : Stmt
signed_null_is_a_number = statement (select false ((target (concat ((sign false (null 8) 7) ∷ (text (codes "a") 16) ∷ []) 7) None) ∷ []) ((table (codes "a") None 25) ∷ []) None) []

-- SELECT 1 FROM a WHERE NULL
abbrev pub null_condition : Stmt
null_condition = statement (select false ((target (number 1 7) None) ∷ []) ((table (codes "a") None 14) ∷ []) (Some (null 22))) []

-- SELECT 1 FROM a WHERE id IN (SELECT NULL FROM b)
abbrev pub null_target_of_in : Stmt
null_target_of_in = statement (select false ((target (number 1 7) None) ∷ []) ((table (codes "a") None 14) ∷ []) (Some (in_select (name (codes "id") 22) (select false ((target (null 36) None) ∷ []) ((table (codes "b") None 46) ∷ []) None) 22))) []

-- SELECT 1 FROM a WHERE NULL IN (SELECT y FROM b)
abbrev pub null_operand_of_in : Stmt
null_operand_of_in = statement (select false ((target (number 1 7) None) ∷ []) ((table (codes "a") None 14) ∷ []) (Some (in_select (null 22) (select false ((target (name (codes "y") 38) None) ∷ []) ((table (codes "b") None 45) ∷ []) None) 22))) []

-- SELECT 1 FROM a WHERE 'x' IN (SELECT id, y FROM b)
abbrev pub two_columns_of_in : Stmt
two_columns_of_in = statement (select false ((target (number 1 7) None) ∷ []) ((table (codes "a") None 14) ∷ []) (Some (in_select (text (codes "x") 22) (select false ((target (name (codes "id") 37) None) ∷ (target (name (codes "y") 41) None) ∷ []) ((table (codes "b") None 48) ∷ []) None) 22))) []

-- SELECT 1 FROM a WHERE 'x' IN (SELECT q, y FROM b)
abbrev pub unknown_inside_in : Stmt
unknown_inside_in = statement (select false ((target (number 1 7) None) ∷ []) ((table (codes "a") None 14) ∷ []) (Some (in_select (text (codes "x") 22) (select false ((target (name (codes "q") 37) None) ∷ (target (name (codes "y") 40) None) ∷ []) ((table (codes "b") None 47) ∷ []) None) 22))) []

-- SELECT CASE x WHEN 1 THEN 2 WHEN t THEN 3 END FROM a, e
abbrev pub simple_case : Stmt
simple_case = statement (select false ((target (case (Some (name (codes "x") 12)) (((number 1 19), (number 2 26)) ∷ ((name (codes "t") 33), (number 3 40)) ∷ []) None 7) None) ∷ []) ((table (codes "a") None 51) ∷ (table (codes "e") None 54) ∷ []) None) []

-- SELECT CASE WHEN TRUE THEN NULL WHEN NULL THEN 1 ELSE 'a' END FROM a
abbrev pub results_of_case : Stmt
results_of_case = statement (select false ((target (case None (((truth true 17), (null 27)) ∷ ((null 37), (number 1 47)) ∷ []) (Some (text (codes "a") 54)) 7) None) ∷ []) ((table (codes "a") None 67) ∷ []) None) []

-- SELECT NULL AS n, COALESCE(NULL, x) FROM a
abbrev pub null_is_a_text : Stmt
null_is_a_text = statement (select false ((target (null 7) (Some (codes "n"))) ∷ (target (coalesce ((null 27) ∷ (name (codes "x") 33) ∷ []) 18) None) ∷ []) ((table (codes "a") None 41) ∷ []) None) []

-- SELECT 1 FROM e WHERE t IS NULL
abbrev pub is_null_of_a_text : Stmt
is_null_of_a_text = statement (select false ((target (number 1 7) None) ∷ []) ((table (codes "e") None 14) ∷ []) (Some (is (name (codes "t") 22) false word.Null 22))) []

-- SELECT 1 FROM e WHERE t IS NOT TRUE
abbrev pub is_true_of_a_text : Stmt
is_true_of_a_text = statement (select false ((target (number 1 7) None) ∷ []) ((table (codes "e") None 14) ∷ []) (Some (is (name (codes "t") 22) true word.True 22))) []

-- SELECT x * x * x * 0 FROM a
abbrev pub product_by_zero : Stmt
product_by_zero = statement (select false ((target (product ((name (codes "x") 7) ∷ (name (codes "x") 11) ∷ (name (codes "x") 15) ∷ (number 0 19) ∷ []) 7) None) ∷ []) ((table (codes "a") None 26) ∷ []) None) []

-- SELECT x * x * x * NULL FROM a
abbrev pub product_by_null : Stmt
product_by_null = statement (select false ((target (product ((name (codes "x") 7) ∷ (name (codes "x") 11) ∷ (name (codes "x") 15) ∷ (null 19) ∷ []) 7) None) ∷ []) ((table (codes "a") None 29) ∷ []) None) []

-- SELECT 0 * (x * x * x) FROM a
abbrev pub inner_product : Stmt
inner_product = statement (select false ((target (product ((number 0 7) ∷ (product ((name (codes "x") 12) ∷ (name (codes "x") 16) ∷ (name (codes "x") 20) ∷ []) 12) ∷ []) 7) None) ∷ []) ((table (codes "a") None 28) ∷ []) None) []

-- SELECT s.v * s.v * s.v FROM (SELECT 0 AS v FROM a) s
abbrev pub bound_of_a_sub_select : Stmt
bound_of_a_sub_select = statement (select false ((target (product ((qualified (codes "s") (codes "v") 7) ∷ (qualified (codes "s") (codes "v") 13) ∷ (qualified (codes "s") (codes "v") 19) ∷ []) 7) None) ∷ []) ((sub (select false ((target (number 0 36) (Some (codes "v"))) ∷ []) ((table (codes "a") None 48) ∷ []) None) (Some (codes "s")) 28) ∷ []) None) []

-- SELECT a.x * b.y + a.x * b.y AS v FROM a, b
abbrev pub two_products : Stmt
two_products = statement (select false ((target (sum ((false, (product ((qualified (codes "a") (codes "x") 7) ∷ (qualified (codes "b") (codes "y") 13) ∷ []) 7)) ∷ (false, (product ((qualified (codes "a") (codes "x") 19) ∷ (qualified (codes "b") (codes "y") 25) ∷ []) 19)) ∷ []) 7) (Some (codes "v"))) ∷ []) ((table (codes "a") None 39) ∷ (table (codes "b") None 42) ∷ []) None) []

-- SELECT a.x * b.y + a.x AS v FROM a, b
abbrev pub one_product : Stmt
one_product = statement (select false ((target (sum ((false, (product ((qualified (codes "a") (codes "x") 7) ∷ (qualified (codes "b") (codes "y") 13) ∷ []) 7)) ∷ (false, (qualified (codes "a") (codes "x") 19)) ∷ []) 7) (Some (codes "v"))) ∷ []) ((table (codes "a") None 33) ∷ (table (codes "b") None 36) ∷ []) None) []

-- SELECT CASE WHEN TRUE THEN x ELSE 2 END * x * x FROM a
abbrev pub greatest_of_case : Stmt
greatest_of_case = statement (select false ((target (product ((case None (((truth true 17), (name (codes "x") 27)) ∷ []) (Some (number 2 34)) 7) ∷ (name (codes "x") 42) ∷ (name (codes "x") 46) ∷ []) 7) None) ∷ []) ((table (codes "a") None 53) ∷ []) None) []

-- SELECT x AS q FROM a ORDER BY q
abbrev pub output_by_name : Stmt
output_by_name = statement (select false ((target (name (codes "x") 7) (Some (codes "q"))) ∷ []) ((table (codes "a") None 19) ∷ []) None) ((order (name (codes "q") 30) false) ∷ [])

-- SELECT x AS q FROM a ORDER BY q + 1
abbrev pub no_name_in_an_expression : Stmt
no_name_in_an_expression = statement (select false ((target (name (codes "x") 7) (Some (codes "q"))) ∷ []) ((table (codes "a") None 19) ∷ []) None) ((order (sum ((false, (name (codes "q") 30)) ∷ (false, (number 1 34)) ∷ []) 30) false) ∷ [])

-- SELECT x AS q FROM a ORDER BY +q
abbrev pub signed_name : Stmt
signed_name = statement (select false ((target (name (codes "x") 7) (Some (codes "q"))) ∷ []) ((table (codes "a") None 19) ∷ []) None) ((order (sign false (name (codes "q") 31) 30) false) ∷ [])

-- SELECT x AS v, a.x AS v FROM a ORDER BY v
abbrev pub equal_outputs : Stmt
equal_outputs = statement (select false ((target (name (codes "x") 7) (Some (codes "v"))) ∷ (target (qualified (codes "a") (codes "x") 15) (Some (codes "v"))) ∷ []) ((table (codes "a") None 29) ∷ []) None) ((order (name (codes "v") 40) false) ∷ [])

-- SELECT x + 1 AS v, 1 + x AS v FROM a ORDER BY v
abbrev pub different_outputs : Stmt
different_outputs = statement (select false ((target (sum ((false, (name (codes "x") 7)) ∷ (false, (number 1 11)) ∷ []) 7) (Some (codes "v"))) ∷ (target (sum ((false, (number 1 19)) ∷ (false, (name (codes "x") 23)) ∷ []) 19) (Some (codes "v"))) ∷ []) ((table (codes "a") None 35) ∷ []) None) ((order (name (codes "v") 46) false) ∷ [])

-- SELECT 1, 2 FROM a ORDER BY "?column?"
abbrev pub outputs_without_name : Stmt
outputs_without_name = statement (select false ((target (number 1 7) None) ∷ (target (number 2 10) None) ∷ []) ((table (codes "a") None 17) ∷ []) None) ((order (name (codes "?column?") 28) false) ∷ [])

-- SELECT x, 1 FROM a ORDER BY 2
abbrev pub output_by_number : Stmt
output_by_number = statement (select false ((target (name (codes "x") 7) None) ∷ (target (number 1 10) None) ∷ []) ((table (codes "a") None 17) ∷ []) None) ((order (number 2 28) false) ∷ [])

-- SELECT x FROM a ORDER BY 0
abbrev pub number_zero : Stmt
number_zero = statement (select false ((target (name (codes "x") 7) None) ∷ []) ((table (codes "a") None 14) ∷ []) None) ((order (number 0 25) false) ∷ [])

-- SELECT x FROM a ORDER BY (2)
abbrev pub number_beyond : Stmt
number_beyond = statement (select false ((target (name (codes "x") 7) None) ∷ []) ((table (codes "a") None 14) ∷ []) None) ((order (number 2 26) false) ∷ [])

-- SELECT x FROM a ORDER BY +1
abbrev pub number_with_plus : Stmt
number_with_plus = statement (select false ((target (name (codes "x") 7) None) ∷ []) ((table (codes "a") None 14) ∷ []) None) ((order (sign false (number 1 26) 25) false) ∷ [])

-- SELECT x FROM a ORDER BY -(1)
abbrev pub number_with_minus : Stmt
number_with_minus = statement (select false ((target (name (codes "x") 7) None) ∷ []) ((table (codes "a") None 14) ∷ []) None) ((order (sign true (number 1 27) 25) false) ∷ [])

-- SELECT x FROM a ORDER BY 'x'
abbrev pub text_as_position : Stmt
text_as_position = statement (select false ((target (name (codes "x") 7) None) ∷ []) ((table (codes "a") None 14) ∷ []) None) ((order (text (codes "x") 25) false) ∷ [])

-- SELECT x FROM a ORDER BY -NULL
abbrev pub null_as_position : Stmt
null_as_position = statement (select false ((target (name (codes "x") 7) None) ∷ []) ((table (codes "a") None 14) ∷ []) None) ((order (sign true (null 26) 25) false) ∷ [])

-- SELECT x FROM a ORDER BY -(-1)
abbrev pub two_signs : Stmt
two_signs = statement (select false ((target (name (codes "x") 7) None) ∷ []) ((table (codes "a") None 14) ∷ []) None) ((order (sign true (sign true (number 1 28) 27) 25) false) ∷ [])

-- SELECT DISTINCT id FROM a ORDER BY +id
abbrev pub distinct_signed_column : Stmt
distinct_signed_column = statement (select true ((target (name (codes "id") 16) None) ∷ []) ((table (codes "a") None 24) ∷ []) None) ((order (sign false (name (codes "id") 36) 35) false) ∷ [])

-- SELECT DISTINCT id FROM a ORDER BY a.id
abbrev pub distinct_qualified_column : Stmt
distinct_qualified_column = statement (select true ((target (name (codes "id") 16) None) ∷ []) ((table (codes "a") None 24) ∷ []) None) ((order (qualified (codes "a") (codes "id") 35) false) ∷ [])

-- SELECT DISTINCT id FROM a ORDER BY x
abbrev pub distinct_other_column : Stmt
distinct_other_column = statement (select true ((target (name (codes "id") 16) None) ∷ []) ((table (codes "a") None 24) ∷ []) None) ((order (name (codes "x") 35) false) ∷ [])

-- SELECT DISTINCT x + 1 FROM a ORDER BY 1 + x
abbrev pub distinct_turned_sum : Stmt
distinct_turned_sum = statement (select true ((target (sum ((false, (name (codes "x") 16)) ∷ (false, (number 1 20)) ∷ []) 16) None) ∷ []) ((table (codes "a") None 27) ∷ []) None) ((order (sum ((false, (number 1 38)) ∷ (false, (name (codes "x") 42)) ∷ []) 38) false) ∷ [])

-- SELECT DISTINCT EXISTS (SELECT 1 FROM b) AS e FROM a ORDER BY EXISTS (SELECT 1 FROM b)
abbrev pub distinct_sublink_again : Stmt
distinct_sublink_again = statement (select true ((target (exists (select false ((target (number 1 31) None) ∷ []) ((table (codes "b") None 38) ∷ []) None) 16) (Some (codes "e"))) ∷ []) ((table (codes "a") None 51) ∷ []) None) ((order (exists (select false ((target (number 1 77) None) ∷ []) ((table (codes "b") None 84) ∷ []) None) 62) false) ∷ [])

-- SELECT DISTINCT EXISTS (SELECT 1 FROM b) AS e FROM a ORDER BY e
abbrev pub distinct_sublink_by_name : Stmt
distinct_sublink_by_name = statement (select true ((target (exists (select false ((target (number 1 31) None) ∷ []) ((table (codes "b") None 38) ∷ []) None) 16) (Some (codes "e"))) ∷ []) ((table (codes "a") None 51) ∷ []) None) ((order (name (codes "e") 62) false) ∷ [])

-- SELECT (id), +id, id AS k FROM a
abbrev pub names_of_outputs : Stmt
names_of_outputs = statement (select false ((target (name (codes "id") 8) None) ∷ (target (sign false (name (codes "id") 14) 13) None) ∷ (target (name (codes "id") 18) (Some (codes "k"))) ∷ []) ((table (codes "a") None 31) ∷ []) None) []
