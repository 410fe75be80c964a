-- The nodes that resolution makes of what was found: their types and their bounds.
use Rattle.std.proofs.Common.{◌≡◌, ◌∙◌, ◌^◌, ◌-◌, ap, subst, refl, ℕ, Bool, true, List, [], ◌∷◌, map, fold, Some, None, Ok, arith}
use Rattle.std.specs.Prelude.{ℤ, nat_abs, max}
use Rattle.std.specs.List.{list_all}
use Rattle.std.proofs.lemmas.Bool.{and_from, false≢true, le-leb, leb-true}
use Rattle.jp_base.specs.declared.values.Ty.{Ty}
use Rattle.jp_base.specs.declared.values.Ty.TheVariants as ty
use Rattle.jp_base.specs.declared.values.Value.TheVariants as value
use Rattle.jp_query.specs.declared.Expr.{Expr}
use Rattle.jp_query.specs.declared.Expr.TheVariants as expr
use Rattle.jp_query.specs.declared.Expr.TheOpen.{Expr-F}
use Rattle.jp_query.specs.Conditions.{fits}
use Rattle.jp_query.specs.Scopes.{Schema, Scope, BoundIn, EntriesIn, ColumnIn, ColumnsIn, in_scope, expr_bound, tree_entries, order_bound, output_column, query_columns, bound_of}
use Rattle.jp_query.specs.Typing.{Typed, TypedOutput, TypedQuery, type_of, typed_if, is_of, is_listed, are_all, one_type, expr_type, tree_typed, order_typed, output_typed, query_typed}
use Rattle.jp_query.proofs.FoldLaws as laws
use Rattle.jp_resolution.specs.declared.words.Counts.{Counts}
use Rattle.jp_resolution.specs.declared.words.TypedExpr.{TypedExpr}
use Rattle.jp_resolution.specs.Types.{typed, truth, number_literal, text_literal, truth_literal, null_literal}
use Rattle.jp_induction.proofs.EachPart.{Each}
use Rattle.jp_resolved.proofs.Answered.{same_Ok, if_parts}
use Rattle.jp_resolved.proofs.Made.{no_exprs}
use Rattle.jp_resolved.proofs.Found.{same_self, bound_at, Found, found_typed, node}

-- ---- types of lists

all_of : (t : Ty) (types : List Typed) → Each (λ type. type ≡ Some t) types → list_all (is_of t) types ≡ true
all_of t [] each = refl
all_of t (type ∷ types) each = and_from (is_of t type) (list_all (is_of t) types) (ap (is_of t) each.0 ∙ same_self t) (all_of t types each.1)

pub all_typed : (t : Ty) (types : List Typed) → is_listed types ≡ true → Each (λ type. type ≡ Some t) types → are_all t types ≡ true
all_typed t types some each = and_from (is_listed types) (list_all (is_of t) types) some (all_of t types each)

pub one_typed : (t : Ty) (types : List Typed) → is_listed types ≡ true → Each (λ type. type ≡ Some t) types → one_type types ≡ Some t
one_typed t [] some each = absurd (false≢true some)
one_typed t (type ∷ types) some each = ap (λ x. one_type (x ∷ types)) each.0 ∙ ap (λ b. typed_if b t) (all_of t types each.1)

pub types_of : (t : Ty) (es : List Expr) → Each (λ e. type_of e ≡ Some t) es → Each (λ type. type ≡ Some t) (map type_of es)
types_of t [] each = tt
types_of t (e ∷ es) each = (each.0, types_of t es each.1)

pub listed_map : {A B : Type 0} (f : A → B) (xs : List A) → is_listed xs ≡ true → is_listed (map f xs) ≡ true
listed_map f [] h = h
listed_map f (x ∷ xs) h = refl

-- ---- bounds of lists

pub fits_zero : fits 0 ≡ true
fits_zero = refl

pub greatest_fits : (n : ℕ) (ns : List ℕ) → fits n ≡ true → Each (λ m. fits m ≡ true) ns → fits (fold max n ns) ≡ true
greatest_fits n [] h each = h
greatest_fits n (m ∷ ns) h each = greatest_fits (max n m) ns (larger n m h each.0) each.1
  where
    larger : (x y : ℕ) → fits x ≡ true → fits y ≡ true → fits (max x y) ≡ true
    larger x y p q = le-leb (max x y) (2 ^ 127 - 1) (omega (arith, leb-true x (2 ^ 127 - 1) p, leb-true y (2 ^ 127 - 1) q))

module _ (schema : Schema) (scope : Scope) where
  pub bounds_of : (es : List Expr) → map (in_scope scope) (map (bound_of schema) es) ≡ map (bound_at schema scope) es
  bounds_of [] = refl
  bounds_of (e ∷ es) = ap (λ ns. bound_of schema e scope ∷ ns) (bounds_of es)

  -- ---- literals

  pub number_is : (a b : Counts) (at : ℕ) (n : ℤ) (e : TypedExpr) → a ≡ b → number_literal at n ≡ Ok e → Found schema scope a b e
  number_is a b at n e all h =
      let made = if_parts (fits (nat_abs n)) _ (typed ty.Number (expr.Lit (value.Num n) ty.Number) (nat_abs n)) e h in
      subst (Found schema scope a b) made.1
      (found_typed schema scope a b ty.Number (nat_abs n) (expr.Lit (value.Num n) ty.Number)
      (node schema scope a b ty.Number (nat_abs n) (Expr-F.Lit (value.Num n) ty.Number) (expr.Lit (value.Num n) ty.Number) (expr.rolls-Lit (value.Num n) ty.Number) refl (no_exprs scope a b all)
      (laws.at-Lit Typed Bool Typed TypedOutput TypedQuery expr_type tree_typed order_typed output_typed query_typed (value.Num n) ty.Number) (ap (λ (f : BoundIn). f scope) (laws.at-Lit BoundIn EntriesIn BoundIn ColumnIn ColumnsIn expr_bound (tree_entries schema) order_bound output_column query_columns (value.Num n) ty.Number)) made.0))

  pub text_is : (a b : Counts) (bytes : List ℕ) (e : TypedExpr) → a ≡ b → text_literal bytes ≡ Ok e → Found schema scope a b e
  text_is a b bytes e all h =
      subst (Found schema scope a b) (same_Ok (typed ty.Text (expr.Lit (value.Text bytes) ty.Text) 0) e h)
      (found_typed schema scope a b ty.Text 0 (expr.Lit (value.Text bytes) ty.Text)
      (node schema scope a b ty.Text 0 (Expr-F.Lit (value.Text bytes) ty.Text) (expr.Lit (value.Text bytes) ty.Text) (expr.rolls-Lit (value.Text bytes) ty.Text) refl (no_exprs scope a b all)
      (laws.at-Lit Typed Bool Typed TypedOutput TypedQuery expr_type tree_typed order_typed output_typed query_typed (value.Text bytes) ty.Text) (ap (λ (f : BoundIn). f scope) (laws.at-Lit BoundIn EntriesIn BoundIn ColumnIn ColumnsIn expr_bound (tree_entries schema) order_bound output_column query_columns (value.Text bytes) ty.Text)) fits_zero))

  pub truth_is : (a b : Counts) (v : Bool) (e : TypedExpr) → a ≡ b → truth_literal v ≡ Ok e → Found schema scope a b e
  truth_is a b v e all h =
      subst (Found schema scope a b) (same_Ok (truth (expr.Lit (value.Bool v) ty.Boolean)) e h)
      (found_typed schema scope a b ty.Boolean 0 (expr.Lit (value.Bool v) ty.Boolean)
      (node schema scope a b ty.Boolean 0 (Expr-F.Lit (value.Bool v) ty.Boolean) (expr.Lit (value.Bool v) ty.Boolean) (expr.rolls-Lit (value.Bool v) ty.Boolean) refl (no_exprs scope a b all)
      (laws.at-Lit Typed Bool Typed TypedOutput TypedQuery expr_type tree_typed order_typed output_typed query_typed (value.Bool v) ty.Boolean) (ap (λ (f : BoundIn). f scope) (laws.at-Lit BoundIn EntriesIn BoundIn ColumnIn ColumnsIn expr_bound (tree_entries schema) order_bound output_column query_columns (value.Bool v) ty.Boolean)) fits_zero))

  pub null_is : (a b : Counts) (e : TypedExpr) → a ≡ b → null_literal ≡ Ok e → Found schema scope a b e
  null_is a b e all h =
      subst (Found schema scope a b) (same_Ok (record { ty = None; expr = expr.Lit value.Null ty.Text; bound = 0 }) e h)
      (λ needed can. node schema scope a b needed 0 (Expr-F.Lit value.Null needed) (expr.Lit value.Null needed) (expr.rolls-Lit value.Null needed) refl (no_exprs scope a b all)
      (laws.at-Lit Typed Bool Typed TypedOutput TypedQuery expr_type tree_typed order_typed output_typed query_typed value.Null needed) (ap (λ (f : BoundIn). f scope) (laws.at-Lit BoundIn EntriesIn BoundIn ColumnIn ColumnsIn expr_bound (tree_entries schema) order_bound output_column query_columns value.Null needed)) fits_zero)
