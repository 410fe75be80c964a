-- What can be computed in an environment: over some schema to which the tables belong, and inside some scope, it is typed,
-- its columns are those of the scope, relations that are visible together have distinct numbers, and no bound passes 128
-- bits; its sublinks of one number are equal; and each cell of the environment that is visible fits the scope.
use Rattle.std.specs.Prelude.{◌≡◌, ℕ, Bool, true, List, All, Contains}
use Rattle.jp_query.specs.declared.Expr.{Expr}
use Rattle.jp_query.specs.declared.JoinTree.{JoinTree}
use Rattle.jp_query.specs.declared.Query.{Query}
use Rattle.jp_query.specs.declared.Expr.TheFolds.{para-JoinTree}
use Rattle.jp_query.specs.Conditions.{Tests, judged_expr, judged_tree, judged_query, knows_columns, tells_relations_apart, keeps_bounds}
use Rattle.jp_query.specs.Fitting.{IsCellAt}
use Rattle.jp_query.specs.Freshness.{Found, Sublink, expr_found, tree_found, order_found, output_found, query_found, sublinks_in}
use Rattle.jp_naive.specs.Frames.{env_over}
use Rattle.jp_naive.specs.Joining.{Numbers}
use Rattle.jp_naive.specs.declared.frames.Leaf.{Leaf}
use Rattle.jp_query.specs.Meaning.{Env, has}
use Rattle.jp_query.specs.Parts.{ColumnRef}
use Rattle.jp_query.specs.Scopes.{Schema, Scope}
use Rattle.jp_query.specs.Subexpressions.{sublinks_of}
use Rattle.jp_query.specs.Tables.{TableRows, Belong}
use Rattle.jp_query.specs.Typing.{IsTypedExpr, tree_is_typed, typed_query}

-- sublinks of one number are equal
abbrev pub AreEqualByNumber : Found → Type 0
AreEqualByNumber found = (a b : Sublink) → Contains found a → Contains found b → a.number ≡ b.number → a.node ≡ b.node

abbrev pub sublinks_of_tree : JoinTree → Found
sublinks_of_tree = para-JoinTree Found Found Found Found Found expr_found tree_found order_found output_found query_found

abbrev pub Fits : Scope → Env → Type 0
Fits scope env = (c : ColumnRef) → IsCellAt scope env c

-- what is typed, passes tests inside scopes and has these sublinks
pub record CanRun (tables : TableRows) (typed : Type 0) (passes : Schema → Tests → Scope → Bool) (sublinks : Found) (env : Env) : Type 0 where
  pub schema : Schema
  pub scope : Scope
  pub belong : Belong schema tables
  pub is_typed : typed
  pub columns : passes schema knows_columns scope ≡ true
  pub distinct : passes schema tells_relations_apart scope ≡ true
  pub bounded : passes schema keeps_bounds scope ≡ true
  pub same : AreEqualByNumber sublinks
  pub fits : Fits scope env

abbrev pub CanRunExpr : TableRows → Expr → Env → Type 0
CanRunExpr tables expr = CanRun tables (IsTypedExpr expr) (λ schema tests. (judged_expr schema tests expr).passes) (sublinks_of expr)

abbrev pub CanRunTree : TableRows → JoinTree → Env → Type 0
CanRunTree tables tree = CanRun tables (tree_is_typed tree ≡ true) (λ schema tests. (judged_tree schema tests tree).passes) (sublinks_of_tree tree)

abbrev pub CanRunQuery : TableRows → Query → Env → Type 0
CanRunQuery tables query = CanRun tables ((typed_query query).is_typed ≡ true) (λ schema tests. (judged_query schema tests query).passes) (sublinks_in query)

-- each member of the list
abbrev pub CanRunAll : TableRows → List Expr → Env → Type 0
CanRunAll tables exprs env = All (λ expr. CanRunExpr tables expr env) exprs

-- the conditions at each pair of a left and a right tuple, where the right one's relations hide the left one's
abbrev pub CanRunPairs : TableRows → List Expr → List Leaf → List Numbers → List Leaf → List Numbers → Env → Type 0
CanRunPairs tables on left lefts right rights outer = All (λ l. All (λ r. CanRunAll tables on (env_over tables right r (env_over tables left l outer))) rights) lefts

-- the sets share no relation
abbrev pub AreApart : ℕ → ℕ → Type 0
AreApart left right = (n : ℕ) → has left n ≡ true → has right n ≡ true → ⊥
