-- The sublinks of an expression that stand in no other sublink's query.
use Rattle.std.specs.Prelude.{ℕ, List, [], ◌∷◌, ◌++◌, map}
use Rattle.std.specs.List.Sorted.{IsPermutation}
use Rattle.jp_query.specs.declared.Expr.TheFolds.{para-Expr}
use Rattle.jp_query.specs.Layers.{Expr, JoinTree, Order, Output, Query, Expr-F}
use Rattle.jp_query.specs.Meaning.{Row, Env, meaning}
use Rattle.jp_query.specs.Parts.{all_in, parts}

-- a sublink, by its number and its query
pub record Outer : Type 0 where
  pub number : ℕ
  pub query : Query

abbrev pub Outers : Type 0
Outers = List Outer

abbrev pub outers_in : Expr × Outers → Outers
outers_in part = part.1

abbrev pub Level : Type 0
Level = Expr-F (Expr × Outers) (JoinTree × Outers) (Order × Outers) (Output × Outers) (Query × Outers)

abbrev pub outer_here : Level → Outers
outer_here (Expr-F.Exists sub query) = record { number = sub; query = query.0 } ∷ []
outer_here (Expr-F.InSub sub operand query) = record { number = sub; query = query.0 } ∷ []
outer_here _ = []

abbrev pub expr_outers : Level → Outers
expr_outers x = outer_here x ++ all_in (map outers_in (parts x))

abbrev pub outermost : Expr → Outers
outermost = para-Expr Outers Outers Outers Outers Outers expr_outers (λ t. []) (λ o. []) (λ u. []) (λ q. [])

-- the rows given for the sublink's number are one bag with those of its query
abbrev pub IsGiven : (ℕ → List Row) → (ℕ → List Row) → Env → Outer → Type 0
IsGiven tables rows env sublink = IsPermutation (rows sublink.number) (meaning tables sublink.query env)
