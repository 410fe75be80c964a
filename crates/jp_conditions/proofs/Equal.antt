-- What the sides of an equality use the equality uses, and it uses nothing else.
use Rattle.std.proofs.Common.{ap₂, Bool, true, ◌&&◌, false, [], ◌∷◌, ◌≡◌, ◌∙◌, ap, sym, subst, refl, ℕ, inl, inr, List, Some, None}
use Rattle.std.specs.Prelude.{bit_or, is_some}
use Rattle.jp_base.specs.declared.values.Ty.{Ty}
use Rattle.jp_base.specs.declared.values.Ty.TheVariants as ty
use Rattle.jp_query.specs.Typing.{Typed, TypedOutput, TypedQuery, same_type, is_of, typed_if, one_type, type_of, expr_type, tree_typed, order_typed, output_typed, query_typed}
use Rattle.jp_query.proofs.FoldLaws as laws
use Rattle.jp_base.specs.Sets.{Has, Within}
use Rattle.jp_base.proofs.SetLemmas.{has_or}
use Rattle.jp_base.proofs.MaskAlgebra.{in_left, in_right}
use Rattle.jp_query.specs.declared.CmpOp.TheVariants as cmp
use Rattle.jp_query.specs.declared.Expr.{Expr}
use Rattle.jp_query.specs.declared.Expr.TheOpen.{Expr-F}
use Rattle.jp_query.specs.declared.Expr.TheVariants as expr
use Rattle.jp_query.specs.declared.Expr.TheViews.{roll-Expr, roll-out-Expr}
use Rattle.jp_query.specs.declared.Expr.{out-Expr}
use Rattle.jp_query.specs.Layers.{ExprLayer}
use Rattle.jp_query.specs.Refs.{refs_of}
use Rattle.jp_query.proofs.RefsLaws.{refs-Compare}
use Rattle.jp_problem.specs.Blocks.{items_with, used}
use Rattle.jp_problem.specs.Equalities.{Sides, sides_at, sides_of, equals}
use Rattle.jp_conditions.proofs.Items.{has_items, items_have}

-- more relations, more items
items_more : (rels : List ℕ) (a b : ℕ) → Within a b → Within (items_with rels a) (items_with rels b)
items_more rels a b w i h = let s = has_items rels a i h in items_have rels b i (s.0, s.1, (s.2.0, s.2.1, w s.2.0 s.2.2))

pub record Uses (rels : List ℕ) (sides : Sides) (set : ℕ) : Type 0 where
  pub first : Within (used rels sides.first) set
  pub second : Within (used rels sides.second) set

some_same : (a b : Sides) → Some a ≡ Some b → a ≡ b
some_same a b e = cc

at_level : (x : ExprLayer) (sides : Sides) → sides_at x ≡ Some sides → equals sides.first sides.second ≡ roll-Expr x
at_level (Expr-F.Compare cmp.Eq a b) sides found = subst (λ (s : Sides). equals s.first s.second ≡ roll-Expr (Expr-F.Compare cmp.Eq a b)) (some_same (record { first = a; second = b }) sides found) (sym (expr.rolls-Compare cmp.Eq a b))
at_level (Expr-F.Compare cmp.Ne a b) sides found = cc
at_level (Expr-F.Compare cmp.Lt a b) sides found = cc
at_level (Expr-F.Compare cmp.Le a b) sides found = cc
at_level (Expr-F.Compare cmp.Gt a b) sides found = cc
at_level (Expr-F.Compare cmp.Ge a b) sides found = cc
at_level (Expr-F.Col rel col ty nulled) sides found = cc
at_level (Expr-F.Lit value ty) sides found = cc
at_level (Expr-F.Place inner rs) sides found = cc
at_level (Expr-F.Neg operand) sides found = cc
at_level (Expr-F.Sum terms) sides found = cc
at_level (Expr-F.Product factors) sides found = cc
at_level (Expr-F.Concat pieces) sides found = cc
at_level (Expr-F.Between operand low high) sides found = cc
at_level (Expr-F.InList operand list) sides found = cc
at_level (Expr-F.And members) sides found = cc
at_level (Expr-F.Or members) sides found = cc
at_level (Expr-F.Not operand) sides found = cc
at_level (Expr-F.Test test operand) sides found = cc
at_level (Expr-F.Coalesce members) sides found = cc
at_level (Expr-F.Case operand arms otherwise) sides found = cc
at_level (Expr-F.Exists sub query) sides found = cc
at_level (Expr-F.InSub sub operand query) sides found = cc

pub equality_is : (e : Expr) (sides : Sides) → sides_of e ≡ Some sides → equals sides.first sides.second ≡ e
equality_is e sides found = at_level (out-Expr e) sides found ∙ roll-out-Expr e

pub equals_hold : (rels : List ℕ) (a b : Expr) → Uses rels (record { first = a; second = b }) (used rels (equals a b))
equals_hold rels a b = record {
  first = items_more rels (refs_of a) (refs_of (equals a b)) (subst (Within (refs_of a)) (sym (refs-Compare cmp.Eq a b)) (in_left (refs_of a) (refs_of b)));
  second = items_more rels (refs_of b) (refs_of (equals a b)) (subst (Within (refs_of b)) (sym (refs-Compare cmp.Eq a b)) (in_right (refs_of a) (refs_of b)));
}

pub sides_use : (rels : List ℕ) (e : Expr) (sides : Sides) → sides_of e ≡ Some sides → Uses rels sides (used rels e)
sides_use rels e sides found = subst (λ x. Uses rels sides (used rels x)) (equality_is e sides found) (equals_hold rels sides.first sides.second)

pub equals_uses : (rels : List ℕ) (a b : Expr) (set : ℕ) → Within (used rels a) set → Within (used rels b) set → Within (used rels (equals a b)) set
equals_uses rels a b set v w i h =
    let s = has_items rels (refs_of (equals a b)) i h in
    let here : Has (bit_or (refs_of a) (refs_of b)) s.2.0 = subst (λ n. Has n s.2.0) (refs-Compare cmp.Eq a b) s.2.2 in
    elim ((has_or (refs_of a) (refs_of b) s.2.0).0 here) [
      | inl p ↦ v i (items_have rels (refs_of a) i (s.0, s.1, (s.2.0, s.2.1, p)))
      | inr p ↦ w i (items_have rels (refs_of b) i (s.0, s.1, (s.2.0, s.2.1, p)))
    ]

-- ---- types

type_of_equals : (a b : Expr) → type_of (equals a b) ≡ typed_if (is_some (one_type (type_of a ∷ type_of b ∷ []))) ty.Boolean
type_of_equals a b = laws.at-Compare Typed Bool Typed TypedOutput TypedQuery expr_type tree_typed order_typed output_typed query_typed cmp.Eq a b

-- both sides have one type
pub record Compared (a b : Expr) : Type 0 where
  pub type : Ty
  pub first : type_of a ≡ Some type
  pub second : type_of b ≡ Some type

same_types : (t u : Ty) → same_type t u ≡ true → t ≡ u
same_types ty.Number ty.Number e = refl
same_types ty.Boolean ty.Boolean e = refl
same_types ty.Text ty.Text e = refl
same_types ty.Number ty.Boolean e = cc
same_types ty.Number ty.Text e = cc
same_types ty.Boolean ty.Number e = cc
same_types ty.Boolean ty.Text e = cc
same_types ty.Text ty.Number e = cc
same_types ty.Text ty.Boolean e = cc

same_itself : (t : Ty) → same_type t t ≡ true
same_itself ty.Number = refl
same_itself ty.Boolean = refl
same_itself ty.Text = refl

both_of : (a b : Expr) (x y : Typed) → type_of a ≡ x → type_of b ≡ y → is_of ty.Boolean (typed_if (is_some (one_type (x ∷ y ∷ []))) ty.Boolean) ≡ true → Compared a b
both_of a b None y e f h = cc
both_of a b (Some t) None e f h = cc
both_of a b (Some t) (Some u) e f h = record { type = t; first = e; second = f ∙ ap Some (sym (same_types t u (by (same_type t u) h))) }
  where
    by : (c : Bool) → is_of ty.Boolean (typed_if (is_some (typed_if (c && true) t)) ty.Boolean) ≡ true → c ≡ true
    by true h = refl
    by false h = cc

pub compared : (e : Expr) (sides : Sides) → sides_of e ≡ Some sides → is_of ty.Boolean (type_of e) ≡ true → Compared sides.first sides.second
compared e sides found typed =
    both_of sides.first sides.second (type_of sides.first) (type_of sides.second) refl refl
    (ap (is_of ty.Boolean) (sym (type_of_equals sides.first sides.second) ∙ ap type_of (equality_is e sides found)) ∙ typed)

pub comparable : (a b : Expr) (t : Ty) → type_of a ≡ Some t → type_of b ≡ Some t → is_of ty.Boolean (type_of (equals a b)) ≡ true
comparable a b t e f = ap (is_of ty.Boolean) (type_of_equals a b) ∙ ap₂ (λ x y. is_of ty.Boolean (typed_if (is_some (one_type (x ∷ y ∷ []))) ty.Boolean)) e f ∙ ap (λ c. is_of ty.Boolean (typed_if (is_some (typed_if (c && true) t)) ty.Boolean)) (same_itself t)
