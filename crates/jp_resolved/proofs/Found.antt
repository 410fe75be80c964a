-- Expressions that are made, of a type and with a bound; and what was found, which may still take any type.
use Rattle.std.proofs.Common.{◌≡◌, ◌∙◌, ap, ap₂, sym, subst, refl, ℕ, true, List, [], ◌∷◌, map, Option, Some, None}
use Rattle.std.specs.List.{list_all}
use Rattle.std.proofs.lemmas.Bool.{and_parts, false≢true}
use Rattle.jp_base.specs.declared.values.Ty.{Ty}
use Rattle.jp_base.specs.declared.values.Ty.TheVariants as ty
use Rattle.jp_query.specs.declared.Expr.{Expr}
use Rattle.jp_query.specs.declared.Expr.TheViews.{roll-Expr}
use Rattle.jp_query.specs.Conditions.{fits}
use Rattle.jp_query.specs.Layers.{ExprLayer}
use Rattle.jp_query.specs.Parts.{parts}
use Rattle.jp_query.specs.Scopes.{Schema, Scope, bound_of}
use Rattle.jp_query.specs.Typing.{same_type, type_of}
use Rattle.jp_resolution.specs.declared.words.Counts.{Counts}
use Rattle.jp_resolution.specs.declared.words.TypedExpr.{TypedExpr}
use Rattle.jp_resolution.specs.Types.{takes_type, can_be, expr_as, bound_in, typed, or_type, own_type, own_expr}
use Rattle.jp_induction.proofs.EachPart.{Each}
use Rattle.jp_resolved.proofs.Spans.{Along}
use Rattle.jp_resolved.proofs.Made.{is_operator, MadeExpr, operator, MadeExprs, no_exprs, more_exprs}

pub same_types : (s t : Ty) → same_type s t ≡ true → s ≡ t
same_types ty.Number ty.Number h = refl
same_types ty.Boolean ty.Boolean h = refl
same_types ty.Text ty.Text h = refl
same_types _ _ h = absurd (false≢true h)

pub same_self : (t : Ty) → same_type t t ≡ true
same_self ty.Number = refl
same_self ty.Boolean = refl
same_self ty.Text = refl

module _ (schema : Schema) (scope : Scope) where
  abbrev pub HasType : Ty → Expr → Type 0
  HasType t e = type_of e ≡ Some t

  abbrev pub bound_at : Expr → ℕ
  bound_at e = bound_of schema e scope

  abbrev pub Fits : ℕ → Type 0
  Fits n = fits n ≡ true

  pub record IsExpr (a b : Counts) (t : Ty) (n : ℕ) (e : Expr) : Type 0 where
    pub made : MadeExpr schema scope a b e
    pub type : type_of e ≡ Some t
    pub bound : bound_of schema e scope ≡ n
    pub fit : fits n ≡ true

  -- as an expression of each type that it can be
  abbrev pub Found : Counts → Counts → TypedExpr → Type 0
  Found a b e = (needed : Ty) → can_be needed e ≡ true → IsExpr a b needed e.bound (expr_as needed e)

  pub found_typed : (a b : Counts) (t : Ty) (n : ℕ) (e : Expr) → IsExpr a b t n e → Found a b (typed t e n)
  found_typed a b t n e is needed h = subst (λ s. IsExpr a b s n e) (sym (same_types needed t h)) is

  own_can : (o : Option Ty) → takes_type (or_type o ty.Text) o ≡ true
  own_can (Some t) = same_self t
  own_can None = refl

  pub found_own : (a b : Counts) (e : TypedExpr) → Found a b e → IsExpr a b (own_type e) e.bound (own_expr e)
  found_own a b e is = is (own_type e) (own_can e.ty)

  -- an operator over expressions that are made
  pub node : (a b : Counts) (t : Ty) (n : ℕ) (x : ExprLayer) (e : Expr) → roll-Expr x ≡ e → is_operator x ≡ true → MadeExprs schema scope a b (parts x) → type_of e ≡ Some t → bound_of schema e scope ≡ n → fits n ≡ true → IsExpr a b t n e
  node a b t n x e same is made type bound fit = record {
    made = subst (MadeExpr schema scope a b) same (operator scope a b x is (ap (λ z. fits (bound_of schema z scope)) same ∙ ap fits bound ∙ fit) made);
    type = type;
    bound = bound;
    fit = fit;
  }

  -- expressions of one type
  pub record AreExprs (a b : Counts) (t : Ty) (ns : List ℕ) (es : List Expr) : Type 0 where
    pub made : MadeExprs schema scope a b es
    pub types : Each (HasType t) es
    pub bounds : map bound_at es ≡ ns
    pub fit : Each Fits ns

  pub no_more : (a b : Counts) (t : Ty) → a ≡ b → AreExprs a b t [] []
  no_more a b t all = record { made = no_exprs scope a b all; types = tt; bounds = refl; fit = tt }

  pub one_more : (a m b : Counts) (t : Ty) (n : ℕ) (ns : List ℕ) (e : Expr) (es : List Expr) → IsExpr a m t n e → AreExprs m b t ns es → AreExprs a b t (n ∷ ns) (e ∷ es)
  one_more a m b t n ns e es one more = record {
    made = more_exprs scope a m b e es one.made more.made;
    types = (one.type, more.types);
    bounds = ap₂ (λ x xs. x ∷ xs) one.bound more.bounds;
    fit = (one.fit, more.fit);
  }

  pub as_exprs : (a b : Counts) (t : Ty) (es : List TypedExpr) → Along Found a b es → list_all (can_be t) es ≡ true → AreExprs a b t (map bound_in es) (map (expr_as t) es)
  as_exprs a b t [] along h = no_more a b t along
  as_exprs a b t (e ∷ es) along h =
      let both = and_parts (can_be t e) (list_all (can_be t) es) h in
      one_more a along.0 b t e.bound (map bound_in es) (expr_as t e) (map (expr_as t) es) (along.1 t both.0) (as_exprs along.0 b t es along.2 both.1)
