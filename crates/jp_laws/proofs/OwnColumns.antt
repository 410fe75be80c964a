-- The columns of an expression outside its sublinks.
use Rattle.std.proofs.Common.{◌≡◌, ◌∙◌, ap, sym, subst, refl, List, [], ◌∷◌, map}
use Rattle.jp_query.specs.declared.Expr.{Expr}
use Rattle.jp_query.specs.declared.JoinTree.{JoinTree}
use Rattle.jp_query.specs.declared.Order.{Order}
use Rattle.jp_query.specs.declared.Output.{Output}
use Rattle.jp_query.specs.declared.Query.{Query}
use Rattle.jp_query.specs.declared.Expr.TheOpen.{Expr-F}
use Rattle.jp_query.specs.declared.Expr.TheViews.{roll-Expr}
use Rattle.jp_query.specs.declared.Expr.TheFolds.{fold-JoinTree, fold-Order, fold-Output, fold-Query, map-Expr, ind-Expr, fold-roll-Expr}
use Rattle.jp_query.specs.Parts.{all_in, parts, ColumnRef, node_column, columns_in}
use Rattle.jp_query.specs.Fitting.{own_columns, expr_own_columns}
use Rattle.jp_laws.proofs.EachPart.{Each, each_mapped, each_left, each_right, each_append, each_in_all, each_in_parts, parts_map}
use Rattle.jp_laws.proofs.GatheredParts.{in_tree, in_order, in_output, in_query, expr_has}

abbrev own_tree : JoinTree → Unit {0}
own_tree = fold-JoinTree (List ColumnRef) (Unit {0}) (Unit {0}) (Unit {0}) (Unit {0}) expr_own_columns (λ t. tt) (λ o. tt) (λ u. tt) (λ q. tt)

abbrev own_order : Order → Unit {0}
own_order = fold-Order (List ColumnRef) (Unit {0}) (Unit {0}) (Unit {0}) (Unit {0}) expr_own_columns (λ t. tt) (λ o. tt) (λ u. tt) (λ q. tt)

abbrev own_output : Output → Unit {0}
own_output = fold-Output (List ColumnRef) (Unit {0}) (Unit {0}) (Unit {0}) (Unit {0}) expr_own_columns (λ t. tt) (λ o. tt) (λ u. tt) (λ q. tt)

abbrev own_query : Query → Unit {0}
own_query = fold-Query (List ColumnRef) (Unit {0}) (Unit {0}) (Unit {0}) (Unit {0}) expr_own_columns (λ t. tt) (λ o. tt) (λ u. tt) (λ q. tt)

abbrev pub own_level : Expr-F Expr JoinTree Order Output Query → Expr-F (List ColumnRef) (Unit {0}) (Unit {0}) (Unit {0}) (Unit {0})
own_level = map-Expr Expr JoinTree Order Output Query (List ColumnRef) (Unit {0}) (Unit {0}) (Unit {0}) (Unit {0}) own_columns own_tree own_order own_output own_query

module _ {A B C D F A' B' C' D' F' : Type 0} (a : A → A') (b : B → B') (c : C → C') (d : D → D') (q : F → F') where
  pub column_map : (x : Expr-F A B C D F) → node_column (map-Expr A B C D F A' B' C' D' F' a b c d q x) ≡ node_column x
  column_map (Expr-F.Col rel col t nulled) = refl
  column_map x = refl

-- what holds of each column of a level holds of its own one and of those of its parts
pub own_has : (P : ColumnRef → Type 0) (x : Expr-F Expr JoinTree Order Output Query) → Each P (own_columns (roll-Expr x)) → Each P (node_column x) × Each (λ e. Each P (own_columns e)) (parts x)
own_has P x h =
    let all = subst (Each P) (fold-roll-Expr (List ColumnRef) (Unit {0}) (Unit {0}) (Unit {0}) (Unit {0}) expr_own_columns (λ t. tt) (λ o. tt) (λ u. tt) (λ q. tt) x) h in (
      subst (Each P) (column_map own_columns own_tree own_order own_output own_query x) (each_left P (node_column (own_level x)) (all_in (parts (own_level x))) all),
      each_mapped (Each P) own_columns (parts x) (subst (Each (Each P)) (parts_map own_columns own_tree own_order own_output own_query x) (each_in_all P (parts (own_level x)) (each_right P (node_column (own_level x)) (all_in (parts (own_level x))) all))),
    )

-- a fact of each column outside sublinks, by a fact of each part
module _ (P : ColumnRef → Type 0) (Q : Expr → Type 0) where
  abbrev Good : Expr → Type 0
  Good x = Q x → Each P (own_columns x)

  abbrev E : Type 0
  E = (x : Expr) × Good x

  abbrev Level : Type 0
  Level = Expr-F E (JoinTree × Unit {0}) (Order × Unit {0}) (Output × Unit {0}) (Query × Unit {0})

  abbrev bare : Level → Expr-F Expr JoinTree Order Output Query
  bare = map-Expr E (JoinTree × Unit {0}) (Order × Unit {0}) (Output × Unit {0}) (Query × Unit {0}) Expr JoinTree Order Output Query (λ y. y.0) (λ y. y.0) (λ y. y.0) (λ y. y.0) (λ y. y.0)

  children : (ys : List E) → Each Q (map (λ (y : E). y.0) ys) → Each (Each P) (map own_columns (map (λ (y : E). y.0) ys))
  children [] h = tt
  children (y ∷ ys) h = (y.1 h.0, children ys h.1)

  module _ (at_level : (x : Expr-F Expr JoinTree Order Output Query) → Q (roll-Expr x) → Each P (node_column x) × Each Q (parts x)) where
    step : (y : Level) → Good (roll-Expr (bare y))
    step y h =
        let x = bare y in
        let here = at_level x h in
        let at_parts : parts x ≡ map (λ (z : E). z.0) (parts y) = parts_map (λ (z : E). z.0) (λ z. z.0) (λ z. z.0) (λ z. z.0) (λ z. z.0) y in
        let inner = subst (Each (Each P)) (sym (parts_map own_columns own_tree own_order own_output own_query x ∙ ap (map own_columns) at_parts)) (children (parts y) (subst (Each Q) at_parts here.1)) in
        subst (Each P) (sym (fold-roll-Expr (List ColumnRef) (Unit {0}) (Unit {0}) (Unit {0}) (Unit {0}) expr_own_columns (λ t. tt) (λ o. tt) (λ u. tt) (λ q. tt) x))
        (each_append P (node_column (own_level x)) (all_in (parts (own_level x))) (subst (Each P) (sym (column_map own_columns own_tree own_order own_output own_query x)) here.0) (each_in_parts P (parts (own_level x)) inner))

    pub own_have : (x : Expr) → Good x
    own_have = ind-Expr Good (λ t. Unit {0}) (λ o. Unit {0}) (λ u. Unit {0}) (λ q. Unit {0})
        (λ x y e. subst (λ z. Good (roll-Expr z)) e (step y))
        (λ x y e. tt) (λ x y e. tt) (λ x y e. tt) (λ x y e. tt)

-- columns outside sublinks are among all columns
pub own_of_all : (P : ColumnRef → Type 0) (x : Expr) → Each P (columns_in x) → Each P (own_columns x)
own_of_all P = own_have P (λ x. Each P (columns_in x)) at_level
  where
    at_level : (x : Expr-F Expr JoinTree Order Output Query) → Each P (columns_in (roll-Expr x)) → Each P (node_column x) × Each (λ p. Each P (columns_in p)) (parts x)
    at_level x h =
        let has = expr_has ColumnRef node_column P x h in
        (subst (Each P) (column_map columns_in (in_tree ColumnRef node_column) (in_order ColumnRef node_column) (in_output ColumnRef node_column) (in_query ColumnRef node_column) x) has.node, has.exprs)
