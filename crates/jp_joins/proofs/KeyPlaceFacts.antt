-- The equality of the key holds where the values of its sides are equal.
use Rattle.std.proofs.Common.{◌≡◌, ◌∙◌, ap, ap₂, sym, subst, refl, ℕ, ◌⊎◌, inl, inr, ◌&&◌, ◌||◌, Bool, true, false, Option, Some, None, List, get_or}
use Rattle.std.specs.Prelude.{Contains}
use Rattle.std.specs.List.{list_any}
use Rattle.jp_base.specs.Values.{are_equal}
use Rattle.jp_facts.proofs.Members.{In, any_in, to_in}
use Rattle.jp_query.specs.Equality.{same_expr}
use Rattle.jp_query.specs.Layers.{ExprLayer}
use Rattle.jp_query.specs.Operators.{is_true}
use Rattle.jp_query.specs.Subexpressions.{sublinks_of}
use Rattle.jp_query.specs.declared.CmpOp.TheVariants as cmp
use Rattle.jp_query.specs.declared.Expr.{Expr, out-Expr}
use Rattle.jp_query.specs.declared.Expr.TheOpen.{Expr-F}
use Rattle.jp_query.specs.declared.Expr.TheVariants as expr
use Rattle.jp_query.specs.declared.Expr.TheViews.{roll-Expr, roll-out-Expr}
use Rattle.jp_laws.proofs.EqualityLaws.{same_are_equal}
use Rattle.jp_laws.proofs.SameItself.{same_as_itself}
use Rattle.jp_laws.proofs.ValueLaws.{and_left, and_right}
use Rattle.jp_problem.specs.Equalities.{Sides, equals, has_sublink, sides_at, sides_of}
use Rattle.jp_frame.specs.Maps.{Map}
use Rattle.jp_joins.specs.Conditions.{CanLookUp}
use Rattle.jp_joins.specs.KeyPlaces.{IsKeyPlace, are_sides, is_equality}
use Rattle.jp_joins.specs.Meant.{Meant, value_at}
use Rattle.jp_joins.specs.Working.{IsKnown, truth_at}
use Rattle.jp_joins.proofs.KeyFacts.{equal_turned}
use Rattle.jp_joins.proofs.LookFacts.{equals_at}
use Rattle.jp_joins.proofs.PlainFacts.{no_sublinks}

-- ---- an equality in a list is found

two_true : (p q : Bool) → p ≡ true → q ≡ true → (p && q) ≡ true
two_true p q e f = ap (λ x. x && q) e ∙ f

or_second : (p q : Bool) → q ≡ true → (p || q) ≡ true
or_second true q e = refl
or_second false q e = e

sides_of_equals : (a b : Expr) → sides_of (equals a b) ≡ Some (record { first = a; second = b })
sides_of_equals a b = ap sides_at (expr.outs-Compare cmp.Eq a b)

module _ (first second : Expr) where
  as_written : is_equality first second (equals first second) ≡ true
  as_written = ap (are_sides first second) (sides_of_equals first second)
      ∙ ap (λ p. p || (same_expr second first && same_expr first second)) (two_true (same_expr first first) (same_expr second second) (same_as_itself first) (same_as_itself second))

  as_turned : is_equality first second (equals second first) ≡ true
  as_turned = ap (are_sides first second) (sides_of_equals second first)
      ∙ or_second (same_expr first second && same_expr second first) (same_expr second second && same_expr first first) (two_true (same_expr second second) (same_expr first first) (same_as_itself second) (same_as_itself first))

  pub equality_found : (conds : List Expr) → Contains conds (equals first second) ⊎ Contains conds (equals second first) → list_any (is_equality first second) conds ≡ true
  equality_found conds (inl there) = any_in (is_equality first second) (equals first second) conds (to_in (equals first second) conds there) as_written
  equality_found conds (inr there) = any_in (is_equality first second) (equals second first) conds (to_in (equals second first) conds there) as_turned

-- the key of a step has its equality in the ON list
abbrev ListsKey : List Expr → Option (Expr × Expr) → Type 0
ListsKey conds (Some key) = list_any (is_equality key.0 key.1) conds ≡ true
ListsKey conds None = Unit {0}

pub key_listed : (meant : Meant) (left right : List Map) (first second : Expr) (conds : List Expr) → CanLookUp meant left right → meant.key ≡ Some (first, second) → conds ≡ meant.on → list_any (is_equality first second) conds ≡ true
key_listed meant left right first second conds look key on =
    subst (λ cs. list_any (is_equality first second) cs ≡ true) (sym on) (subst (ListsKey meant.on) (sym look.key ∙ key) (equality_found look.first look.second meant.on look.by.equality))

-- ---- what is found is such an equality

of_layer : (x : ExprLayer) (s : Sides) → sides_at x ≡ Some s → x ≡ Expr-F.Compare cmp.Eq s.first s.second
of_layer (Expr-F.Compare cmp.Eq a b) s e = cc
of_layer (Expr-F.Compare cmp.Ne a b) s e = absurd (cc)
of_layer (Expr-F.Compare cmp.Lt a b) s e = absurd (cc)
of_layer (Expr-F.Compare cmp.Le a b) s e = absurd (cc)
of_layer (Expr-F.Compare cmp.Gt a b) s e = absurd (cc)
of_layer (Expr-F.Compare cmp.Ge a b) s e = absurd (cc)
of_layer x s e = absurd (cc)

of_sides : (e : Expr) (s : Sides) → sides_of e ≡ Some s → e ≡ equals s.first s.second
of_sides e s h = sym (roll-out-Expr e) ∙ ap roll-Expr (of_layer (out-Expr e) s h ∙ sym (expr.outs-Compare cmp.Eq s.first s.second)) ∙ roll-out-Expr (equals s.first s.second)

-- an expression without sublinks is equal to what is the same
is_equal : (a b : Expr) → has_sublink a ≡ false → same_expr a b ≡ true → a ≡ b
is_equal a b none h = same_are_equal a b (λ s t q r e. absurd (subst (In s) (no_sublinks a none) (to_in s (sublinks_of a) q))) h

either_true : (p q : Bool) → (p || q) ≡ true → (p ≡ true) ⊎ (q ≡ true)
either_true true q e = inl refl
either_true false q e = inr e

module _ (meant : Meant) (m : Map) (first second : Expr) (first_plain : has_sublink first ≡ false) (second_plain : has_sublink second ≡ false)
    (equal : are_equal (value_at meant m first) (value_at meant m second) ≡ true) where
  equals_true : (a b : Expr) → are_equal (value_at meant m a) (value_at meant m b) ≡ true → is_true (truth_at meant m (equals a b)) ≡ true
  equals_true a b e = equals_at meant m a b ∙ e

  of_found : (e : Expr) (o : Option Sides) → sides_of e ≡ o → are_sides first second o ≡ true → is_true (truth_at meant m e) ≡ true
  of_found e None is h = absurd (cc)
  of_found e (Some s) is h = subst (λ x. is_true (truth_at meant m x) ≡ true) (sym (of_sides e s is)) (elim (either_true (same_expr first s.first && same_expr second s.second) (same_expr second s.first && same_expr first s.second) h) [
    | inl p ↦ equals_true s.first s.second (ap₂ (λ (a b : Expr). are_equal (value_at meant m a) (value_at meant m b))
        (sym (is_equal first s.first first_plain (and_left (same_expr first s.first) (same_expr second s.second) p))) (sym (is_equal second s.second second_plain (and_right (same_expr first s.first) (same_expr second s.second) p))) ∙ equal)
    | inr p ↦ equals_true s.first s.second (ap₂ (λ (a b : Expr). are_equal (value_at meant m a) (value_at meant m b))
        (sym (is_equal second s.first second_plain (and_left (same_expr second s.first) (same_expr first s.second) p))) (sym (is_equal first s.second first_plain (and_right (same_expr second s.first) (same_expr first s.second) p)))
        ∙ equal_turned (value_at meant m second) (value_at meant m first) ∙ equal)
  ])

  pub key_known : (conds : List Expr) (place : ℕ) → IsKeyPlace conds first second place → IsKnown meant conds place m
  key_known conds place key d low = of_found (get_or conds place d) (sides_of (get_or conds place d)) refl (key.is d)
