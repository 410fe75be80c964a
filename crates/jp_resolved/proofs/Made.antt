-- The expressions, join trees and selects that resolution makes, over what is visible at their place and over the span of
-- their numbers; and the induction over them.
use Rattle.std.proofs.Common.{◌≡◌, refl, ℕ, Bool, true, false, List, [], ◌∷◌, ◌++◌, map, Some}
use Rattle.std.specs.List.{slice_get}
use Rattle.jp_query.specs.declared.Expr.TheVariants as expr
use Rattle.jp_query.specs.declared.Expr.TheViews.{roll-Expr, roll-Query}
use Rattle.jp_query.specs.declared.JoinTree.TheVariants as tree
use Rattle.jp_query.specs.declared.Expr.{Expr}
use Rattle.jp_query.specs.declared.JoinTree.{JoinTree}
use Rattle.jp_query.specs.declared.Expr.TheOpen.{Expr-F}
use Rattle.jp_query.specs.Layers.{ExprLayer, QueryLayer}
use Rattle.jp_query.specs.Conditions.{fits, has_distinct_numbers}
use Rattle.jp_query.specs.Parts.{parts}
use Rattle.jp_query.specs.Scopes.{join_entries, Column, Schema, Scope, visible_column, bound_of, columns_of_query}
use Rattle.jp_query.specs.Typing.{is_listed}
use Rattle.jp_ast.specs.declared.tree.JoinWord.{JoinWord}
use Rattle.jp_ast.specs.declared.tree.JoinWord.TheVariants as join_word
use Rattle.jp_resolution.specs.declared.words.Counts.{Counts}
use Rattle.jp_resolution.specs.Counting.{one_entry, one_sublink, both, next_relation, next_sublink}
use Rattle.jp_resolution.specs.Resolving.{kind_of}
use Rattle.jp_resolved.specs.Sorted.{expr_of_output}
use Rattle.jp_resolved.proofs.Spans.{Along}

-- a literal or an operator over expressions: no column, placeholder or sublink
abbrev pub is_operator : {A B C D F : Type 0} → Expr-F A B C D F → Bool
is_operator (Expr-F.Col rel col ty nulled) = false
is_operator (Expr-F.Place inner rels) = false
is_operator (Expr-F.Exists sub query) = false
is_operator (Expr-F.InSub sub operand query) = false
is_operator _ = true

mutual
  pub data MadeExpr (schema : Schema) : Scope → Counts → Counts → Expr → Type 0 where
    column : (scope : Scope) (a b : Counts) (rel place : ℕ) (c : Column) → a ≡ b → visible_column scope rel place ≡ Some c → fits c.bound ≡ true → MadeExpr schema scope a b (expr.Col rel place c.type 0)
    operator : (scope : Scope) (a b : Counts) (x : ExprLayer) → is_operator x ≡ true → fits (bound_of schema (roll-Expr x) scope) ≡ true → MadeExprs schema scope a b (parts x) → MadeExpr schema scope a b (roll-Expr x)
    exists : (scope : Scope) (a b : Counts) (level : QueryLayer) → level.order ≡ [] → MadeSelect schema scope (both a one_sublink) b level → MadeExpr schema scope a b (expr.Exists (next_sublink a) (roll-Query level))
    among : (scope : Scope) (a m b : Counts) (operand : Expr) (level : QueryLayer) → level.order ≡ [] → MadeExpr schema scope (both a one_sublink) m operand → MadeSelect schema scope m b level
        → MadeExpr schema scope a b (expr.InSub (next_sublink a) operand (roll-Query level))

  pub data MadeExprs (schema : Schema) : Scope → Counts → Counts → List Expr → Type 0 where
    no_exprs : (scope : Scope) (a b : Counts) → a ≡ b → MadeExprs schema scope a b []
    more_exprs : (scope : Scope) (a m b : Counts) (e : Expr) (es : List Expr) → MadeExpr schema scope a m e → MadeExprs schema scope m b es → MadeExprs schema scope a b (e ∷ es)

  -- with the entries that its tuples give rows to
  pub data MadeTree (schema : Schema) : Scope → Counts → Counts → Scope → JoinTree → Type 0 where
    base : (outer : Scope) (a b : Counts) (name : List ℕ) (place : ℕ) (columns : List Column) → both a one_entry ≡ b → has_distinct_numbers outer ≡ true → slice_get schema place ≡ Some columns
        → MadeTree schema outer a b (record { relation = next_relation a; columns = columns } ∷ []) (tree.Base (next_relation a) name place)
    sub : (outer : Scope) (a b : Counts) (name : List ℕ) (level : QueryLayer) → level.order ≡ [] → has_distinct_numbers outer ≡ true → MadeSelect schema outer (both a one_entry) b level
        → MadeTree schema outer a b (record { relation = next_relation a; columns = columns_of_query schema (roll-Query level) outer } ∷ []) (tree.Sub (next_relation a) name (roll-Query level))
    joined : (outer : Scope) (a m n b : Counts) (kind : JoinWord) (l r : Scope) (left right : JoinTree) (on : List Expr) → has_distinct_numbers ((l ++ r) ++ outer) ≡ true
        → MadeTree schema outer a m l left → MadeTree schema outer m n r right → MadeExprs schema ((l ++ r) ++ outer) n b on → MadeTree schema outer a b (l ++ r) (tree.Join (kind_of kind) left right on)

  pub data MadeTrees (schema : Schema) : Scope → Counts → Counts → Scope → List JoinTree → Type 0 where
    no_trees : (outer : Scope) (a b : Counts) → a ≡ b → MadeTrees schema outer a b [] []
    more_trees : (outer : Scope) (a m b : Counts) (l r : Scope) (t : JoinTree) (ts : List JoinTree) → MadeTree schema outer a m l t → MadeTrees schema outer m b r ts → MadeTrees schema outer a b (l ++ r) (t ∷ ts)

  -- whatever its ORDER BY is
  pub data MadeSelect (schema : Schema) : Scope → Counts → Counts → QueryLayer → Type 0 where
    select : (outer : Scope) (a m n b : Counts) (own : Scope) (level : QueryLayer) (members : List JoinTree) → is_listed members ≡ true → level.tree ≡ tree.From members [] → has_distinct_numbers (own ++ outer) ≡ true
        → MadeExprs schema (own ++ outer) a m (map expr_of_output level.columns) → MadeTrees schema outer m n own members → MadeExprs schema (own ++ outer) n b level.conds → MadeSelect schema outer a b level

-- ---- induction

module _ (P : Counts → Counts → Scope → JoinTree → Type 0) where
  -- trees with spans one behind the other, and their entries together
  abbrev pub TreesAlong : Counts → Counts → Scope → List JoinTree → Type 0
  TreesAlong a b own [] = (own ≡ []) × a ≡ b
  TreesAlong a b own (t ∷ ts) = (m : Counts) × (l : Scope) × (r : Scope) × (own ≡ l ++ r) × P a m l t × TreesAlong m b r ts

module _ (schema : Schema) (PE : Scope → Counts → Counts → Expr → Type 0) (PT : Scope → Counts → Counts → Scope → JoinTree → Type 0) (PQ : Scope → Counts → Counts → QueryLayer → Type 0) where
  pub record Steps : Type 0 where
    pub at_column : (scope : Scope) (a b : Counts) (rel place : ℕ) (c : Column) → a ≡ b → visible_column scope rel place ≡ Some c → fits c.bound ≡ true → PE scope a b (expr.Col rel place c.type 0)
    pub at_operator : (scope : Scope) (a b : Counts) (x : ExprLayer) → is_operator x ≡ true → fits (bound_of schema (roll-Expr x) scope) ≡ true → Along (PE scope) a b (parts x) → PE scope a b (roll-Expr x)
    pub at_exists : (scope : Scope) (a b : Counts) (level : QueryLayer) → PQ scope (both a one_sublink) b level → PE scope a b (expr.Exists (next_sublink a) (roll-Query level))
    pub at_among : (scope : Scope) (a m b : Counts) (operand : Expr) (level : QueryLayer) → PE scope (both a one_sublink) m operand → PQ scope m b level → PE scope a b (expr.InSub (next_sublink a) operand (roll-Query level))
    pub at_base : (outer : Scope) (a b : Counts) (name : List ℕ) (place : ℕ) (columns : List Column) → both a one_entry ≡ b → has_distinct_numbers outer ≡ true → slice_get schema place ≡ Some columns
        → PT outer a b (record { relation = next_relation a; columns = columns } ∷ []) (tree.Base (next_relation a) name place)
    pub at_sub : (outer : Scope) (a b : Counts) (name : List ℕ) (level : QueryLayer) → has_distinct_numbers outer ≡ true → PQ outer (both a one_entry) b level
        → PT outer a b (record { relation = next_relation a; columns = columns_of_query schema (roll-Query level) outer } ∷ []) (tree.Sub (next_relation a) name (roll-Query level))
    pub at_joined : (outer : Scope) (a m n b : Counts) (kind : JoinWord) (l r : Scope) (left right : JoinTree) (on : List Expr) → has_distinct_numbers ((l ++ r) ++ outer) ≡ true
        → PT outer a m l left → PT outer m n r right → Along (PE ((l ++ r) ++ outer)) n b on → PT outer a b (l ++ r) (tree.Join (kind_of kind) left right on)
    pub at_select : (outer : Scope) (a m n b : Counts) (own : Scope) (level : QueryLayer) (members : List JoinTree) → level.order ≡ [] → is_listed members ≡ true → level.tree ≡ tree.From members [] → has_distinct_numbers (own ++ outer) ≡ true
        → Along (PE (own ++ outer)) a m (map expr_of_output level.columns) → TreesAlong (PT outer) m n own members → Along (PE (own ++ outer)) n b level.conds → PQ outer a b level

  module _ (steps : Steps) where
    mutual
      pub expr_has : (scope : Scope) (a b : Counts) (e : Expr) → MadeExpr schema scope a b e → PE scope a b e
      expr_has s1 a1 b1 e (column scope a b rel place c all there small) = steps.at_column scope a b rel place c all there small
      expr_has s1 a1 b1 e (operator scope a b x is small made) = steps.at_operator scope a b x is small (exprs_have scope a b (parts x) made)
      expr_has s1 a1 b1 e (exists scope a b level plain made) = steps.at_exists scope a b level (select_has scope (both a one_sublink) b level plain made)
      expr_has s1 a1 b1 e (among scope a m b operand level plain made inner) = steps.at_among scope a m b operand level (expr_has scope (both a one_sublink) m operand made) (select_has scope m b level plain inner)

      pub exprs_have : (scope : Scope) (a b : Counts) (es : List Expr) → MadeExprs schema scope a b es → Along (PE scope) a b es
      exprs_have s1 a1 b1 es (no_exprs scope a b all) = all
      exprs_have s1 a1 b1 es (more_exprs scope a m b x xs made more) = (m, expr_has scope a m x made, exprs_have scope m b xs more)

      pub tree_has : (outer : Scope) (a b : Counts) (own : Scope) (t : JoinTree) → MadeTree schema outer a b own t → PT outer a b own t
      tree_has s1 a1 b1 own t (base outer a b name place columns all apart there) = steps.at_base outer a b name place columns all apart there
      tree_has s1 a1 b1 own t (sub outer a b name level plain apart made) = steps.at_sub outer a b name level apart (select_has outer (both a one_entry) b level plain made)
      tree_has s1 a1 b1 own t (joined outer a m n b kind l r left right on apart p q made) = steps.at_joined outer a m n b kind l r left right on apart (tree_has outer a m l left p) (tree_has outer m n r right q) (exprs_have ((l ++ r) ++ outer) n b on made)

      pub trees_have : (outer : Scope) (a b : Counts) (own : Scope) (ts : List JoinTree) → MadeTrees schema outer a b own ts → TreesAlong (PT outer) a b own ts
      trees_have s1 a1 b1 own ts (no_trees outer a b all) = (refl, all)
      trees_have s1 a1 b1 own ts (more_trees outer a m b l r x xs made more) = (m, l, r, refl, tree_has outer a m l x made, trees_have outer m b r xs more)

      pub select_has : (outer : Scope) (a b : Counts) (level : QueryLayer) → level.order ≡ [] → MadeSelect schema outer a b level → PQ outer a b level
      select_has s1 a1 b1 l1 plain (select outer a m n b own level members some is apart outputs trees conds) =
          steps.at_select outer a m n b own level members plain some is apart (exprs_have (own ++ outer) a m (map expr_of_output level.columns) outputs) (trees_have outer m n own members trees) (exprs_have (own ++ outer) n b level.conds conds)

-- a join of a statement gives rows to the entries of both sides
pub sides_of : (kind : JoinWord) (l r : Scope) → join_entries (kind_of kind) l r ≡ l ++ r
sides_of join_word.Cross l r = refl
sides_of join_word.Inner l r = refl
sides_of join_word.Left l r = refl
sides_of join_word.Right l r = refl
sides_of join_word.Full l r = refl
