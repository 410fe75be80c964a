-- The shape of each form of tree, as the code writes it.
use Rattle.std.proofs.Common.{◌≡◌, ◌∙◌, sym, ap, ap₂, refl, ℕ, List, [], ◌∷◌, map}
use Rattle.jp_query.specs.declared.Expr.{Expr}
use Rattle.jp_query.specs.declared.Expr.TheFolds.{para-roll-JoinTree}
use Rattle.jp_query.specs.declared.Expr.TheViews.{roll-JoinTree}
use Rattle.jp_query.specs.declared.Expr.TheOpen.{JoinTree-F}
use Rattle.jp_query.specs.declared.JoinKind.{JoinKind}
use Rattle.jp_query.specs.declared.JoinTree.{JoinTree}
use Rattle.jp_query.specs.declared.JoinTree.TheVariants as tree
use Rattle.jp_query.specs.declared.Query.{Query}
use Rattle.jp_problem.specs.Shapes.{Shape, item, filtered, together, joined, expr_beside, shape_beside, tree_shape, shape_of}

exprs_again : (on : List Expr) → map expr_beside (map (λ (e : Expr). (e, tt)) on) ≡ on
exprs_again [] = refl
exprs_again (e ∷ on) = ap (λ rest. e ∷ rest) (exprs_again on)

pub at_base : (rel : ℕ) (name : List ℕ) (table : ℕ) → shape_of (tree.Base rel name table) ≡ item (tree.Base rel name table)
at_base rel name table = ap shape_of (sym (tree.rolls-Base rel name table)) ∙ para-roll-JoinTree (Unit {0}) Shape (Unit {0}) (Unit {0}) (Unit {0}) (λ e. tt) tree_shape (λ o. tt) (λ u. tt) (λ q. tt) (JoinTree-F.Base rel name table) ∙ ap item (tree.rolls-Base rel name table)

pub at_sub : (rel : ℕ) (name : List ℕ) (query : Query) → shape_of (tree.Sub rel name query) ≡ item (tree.Sub rel name query)
at_sub rel name query = ap shape_of (sym (tree.rolls-Sub rel name query)) ∙ para-roll-JoinTree (Unit {0}) Shape (Unit {0}) (Unit {0}) (Unit {0}) (λ e. tt) tree_shape (λ o. tt) (λ u. tt) (λ q. tt) (JoinTree-F.Sub rel name query) ∙ ap item (tree.rolls-Sub rel name query)

-- a join, whose shape is by its kind
pub at_join : (kind : JoinKind) (left right : JoinTree) (on : List Expr) → shape_of (tree.Join kind left right on) ≡ joined kind (tree.Join kind left right on) (shape_of left) (shape_of right) on
at_join kind left right on =
    ap shape_of (sym (tree.rolls-Join kind left right on)) ∙ para-roll-JoinTree (Unit {0}) Shape (Unit {0}) (Unit {0}) (Unit {0}) (λ e. tt) tree_shape (λ o. tt) (λ u. tt) (λ q. tt) (JoinTree-F.Join kind left right on)
    ∙ ap₂ (λ t list. joined kind t (shape_of left) (shape_of right) list) (ap (λ list. roll-JoinTree (JoinTree-F.Join kind left right list)) (exprs_again on) ∙ tree.rolls-Join kind left right on) (exprs_again on)

members_beside : (members : List JoinTree) → map shape_beside (map (λ (t : JoinTree). (t, shape_of t)) members) ≡ map shape_of members
members_beside [] = refl
members_beside (t ∷ members) = ap (λ rest. shape_of t ∷ rest) (members_beside members)

pub at_from : (members : List JoinTree) (conds : List Expr) → shape_of (tree.From members conds) ≡ filtered (together (map shape_of members)) conds
at_from members conds =
    ap shape_of (sym (tree.rolls-From members conds)) ∙ para-roll-JoinTree (Unit {0}) Shape (Unit {0}) (Unit {0}) (Unit {0}) (λ e. tt) tree_shape (λ o. tt) (λ u. tt) (λ q. tt) (JoinTree-F.From members conds)
    ∙ ap₂ filtered (ap together (members_beside members)) (exprs_again conds)

pub ruleset shapes = (at_base, at_sub, at_join, at_from)
