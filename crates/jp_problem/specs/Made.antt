-- Problems that are those of a block, and what estimates and the search ask of a problem.
use Rattle.std.specs.Prelude.{◌≡◌, ℕ, ◌≤◌, ◌<◌, ◌^◌, ◌⊎◌, ⊤, List, [], ◌∷◌, ◌++◌, map, sum_by, length, All, Option, Some, None}
use Rattle.std.specs.List.{flat_map}
use Rattle.jp_base.specs.Sets.{Has}
use Rattle.jp_query.specs.declared.Expr.{Expr}
use Rattle.jp_query.specs.declared.Query.{Query}
use Rattle.jp_query.specs.Conditions.{IsTyped, IsBounded}
use Rattle.jp_query.specs.NoRight.{HasNoRight}
use Rattle.jp_query.specs.Parts.{ColumnRef, columns_in}
use Rattle.jp_query.specs.Scopes.{Schema, Scope}
use Rattle.jp_query.specs.Typing.{IsTypedExpr}
use Rattle.jp_problem.specs.declared.types.Problem.{Problem}
use Rattle.jp_problem.specs.declared.types.Item.{Item}
use Rattle.jp_problem.specs.declared.types.ItemKind.{ItemKind}
use Rattle.jp_problem.specs.declared.types.ItemKind.TheVariants as kind
use Rattle.jp_problem.specs.declared.types.Special.{Special}
use Rattle.jp_problem.specs.declared.types.Class.{Class}
use Rattle.jp_problem.specs.Classes.{derived}
use Rattle.jp_problem.specs.Legal.{Apart}
use Rattle.jp_problem.specs.Problems.{AreItemsOf, problem_of}
use Rattle.jp_problem.specs.StepClauses.{expr_of}
use Rattle.jp_problem.specs.Trees.{Tree, IsPlan}

-- A query that a problem can be made of: typed and bounded where it stands, and without a Right join.
pub record IsBlock (query : Query) : Type 0 where
  pub schema : Schema
  pub outer : Scope
  pub typed : IsTyped schema outer query
  pub bounded : IsBounded schema outer query
  pub no_right : HasNoRight query

-- The problem is that of some block, before its classes or with them.
pub record IsMade (problem : Problem) : Type 0 where
  pub query : Query
  pub block : IsBlock query
  pub items : AreItemsOf query problem.items
  pub made : (problem ≡ problem_of problem.items query) ⊎ (problem ≡ derived (problem_of problem.items query))

-- ---- what estimates ask

abbrev pub on_of_item : ItemKind → List Expr
on_of_item (kind.Full left right on) = on
on_of_item _ = []

abbrev pub item_exprs : Item → List Expr
item_exprs item = on_of_item item.kind

abbrev pub join_exprs : Special → List Expr
join_exprs s = s.on

abbrev pub constant_exprs : Option Expr → List Expr
constant_exprs (Some constant) = constant ∷ []
constant_exprs None = []

abbrev pub member_expr : Expr × ℕ → Expr
member_expr m = m.0

abbrev pub class_exprs : Class → List Expr
class_exprs class = constant_exprs class.constant ++ map member_expr class.members

-- the expressions of a problem
abbrev pub exprs_of : Problem → List Expr
exprs_of problem =
    flat_map item_exprs problem.items ++ flat_map join_exprs problem.joins ++ map expr_of problem.clauses ++ flat_map class_exprs problem.classes

-- the rows that are stated for an item
abbrev pub HasStatedRows : Item → Type 0
HasStatedRows item = (1 ≤ item.rows) × (item.rows ≤ 2 ^ 60)

abbrev pub IsPositive : ℕ → Type 0
IsPositive n = 1 ≤ n

-- a column of this relation has its place in the list
abbrev pub IsCounted : ℕ → List ℕ → ColumnRef → Type 0
IsCounted rel distinct c = c.relation ≡ rel → c.column < length distinct

-- a base item has a number, at least 1, for each of its columns that the problem names
abbrev pub CountsColumns : List Expr → List ℕ → ItemKind → Type 0
CountsColumns exprs distinct (kind.Base rel table) = All IsPositive distinct × All (IsCounted rel distinct) (flat_map columns_in exprs)
CountsColumns exprs distinct _ = ⊤

abbrev pub HasDistinct : List Expr → Item → Type 0
HasDistinct exprs item = CountsColumns exprs item.distinct item.kind

-- the left set isn't empty and misses the right one
abbrev pub HasApartSets : Special → Type 0
HasApartSets s = ((i : ℕ) × Has s.min_left i) × Apart s.min_left s.min_right

pub record IsEstimable (problem : Problem) : Type 0 where
  pub typed : All IsTypedExpr (exprs_of problem)
  pub rows : All HasStatedRows problem.items
  pub distinct : All (HasDistinct (exprs_of problem)) problem.items
  pub sets : All HasApartSets problem.joins

-- ---- what the search asks

abbrev pub cost_of : Item → ℕ
cost_of item = item.cost

pub record IsSearchable (problem : Problem) : Type 0 where
  pub some : 1 ≤ length problem.items
  pub few : length problem.items ≤ 16
  pub estimable : IsEstimable problem
  pub costs : sum_by cost_of problem.items ≤ 2 ^ 125
  pub tree : Tree
  pub plan : IsPlan problem tree
