-- The operators that resolution makes of what was found: their types and their bounds.
use Rattle.std.proofs.Common.{◌≡◌, ◌∙◌, ap, sym, subst, refl, ℕ, Bool, true, false, List, [], ◌∷◌, map, Some, Ok}
use Rattle.std.specs.Prelude.{◌&&◌, sum, is_some}
use Rattle.std.specs.List.{list_all}
use Rattle.jp_base.specs.declared.values.Ty.{Ty}
use Rattle.jp_base.specs.declared.values.Ty.TheVariants as ty
use Rattle.jp_ast.specs.declared.tree.CmpWord.{CmpWord}
use Rattle.jp_ast.specs.declared.tree.IsWord.{IsWord}
use Rattle.jp_ast.specs.declared.tree.IsWord.TheVariants as word
use Rattle.jp_query.specs.declared.Expr.{Expr}
use Rattle.jp_query.specs.declared.Expr.TheVariants as expr
use Rattle.jp_query.specs.declared.Expr.TheOpen.{Expr-F}
use Rattle.jp_query.specs.Conditions.{fits}
use Rattle.jp_query.specs.Parts.{term_part}
use Rattle.jp_query.specs.Scopes.{Schema, Scope, BoundIn, EntriesIn, ColumnIn, ColumnsIn, in_scope, greatest, product, expr_bound, tree_entries, order_bound, output_column, query_columns, bound_of}
use Rattle.jp_query.specs.Typing.{Typed, TypedOutput, TypedQuery, type_of, typed_if, is_of, is_listed, are_all, one_type, can_test, expr_type, tree_typed, order_typed, output_typed, query_typed}
use Rattle.jp_query.proofs.FoldLaws as laws
use Rattle.jp_resolution.specs.declared.error.ResolveError.{ResolveError}
use Rattle.jp_resolution.specs.declared.words.Counts.{Counts}
use Rattle.jp_resolution.specs.declared.words.TypedExpr.{TypedExpr}
use Rattle.jp_resolution.specs.Types.{typed_if as judged_if, can_be, expr_as, common_type, are_of_one_type, own_type, own_expr, typed, truth, bound_in, bounded, sign_node, term_as, sum_node, product_node, concat_node, op_of, compare_node, between_node, in_list_node, and_node, or_node, not_node, test_of, test_node, is_node, coalesce_node}
use Rattle.jp_resolution.specs.Answers.{◌>>=◌, only_if}
use Rattle.jp_resolved.proofs.Answered.{same_Ok, no_Ok, if_parts}
use Rattle.jp_resolved.proofs.Spans.{Along}
use Rattle.jp_resolved.proofs.Made.{MadeExprs, no_exprs, more_exprs}
use Rattle.jp_resolved.proofs.Found.{IsExpr, Found, found_typed, found_own, node, as_exprs}
use Rattle.jp_resolved.proofs.Nodes.{all_typed, one_typed, types_of, listed_map, fits_zero, greatest_fits, bounds_of}

-- a node that is judged by its type and then by its bound
bounded_parts : (passes : Bool) (refusal : ResolveError) (at : ℕ) (n e : TypedExpr) → (only_if passes refusal n >>= bounded at) ≡ Ok e → (passes ≡ true) × (fits n.bound ≡ true) × (n ≡ e)
bounded_parts true refusal at n e h = let made = if_parts (fits n.bound) _ n e h in (refl, made.0, made.1)
bounded_parts false refusal at n e h = absurd (no_Ok refusal e h)

terms_part : (t : Ty) (terms : List (Bool × TypedExpr)) → map term_part (map (term_as t) terms) ≡ map (expr_as t) (map term_part terms)
terms_part t [] = refl
terms_part t (x ∷ terms) = ap (λ xs. expr_as t x.1 ∷ xs) (terms_part t terms)

terms_map : {A B : Type 0} (f : A → B) (terms : List (Bool × A)) → map term_part (map (λ (t : Bool × A). (t.0, f t.1)) terms) ≡ map f (map term_part terms)
terms_map f [] = refl
terms_map f (x ∷ terms) = ap (λ xs. f x.1 ∷ xs) (terms_map f terms)

tests : (negated : Bool) (w : IsWord) (type : Typed) → type ≡ Some ty.Boolean → typed_if (can_test (test_of w negated) type) ty.Boolean ≡ Some ty.Boolean
tests false word.Null type h = ap (λ x. typed_if (is_some x) ty.Boolean) h
tests true word.Null type h = ap (λ x. typed_if (is_some x) ty.Boolean) h
tests false word.True type h = ap (λ x. typed_if (is_of ty.Boolean x) ty.Boolean) h
tests true word.True type h = ap (λ x. typed_if (is_of ty.Boolean x) ty.Boolean) h
tests false word.False type h = ap (λ x. typed_if (is_of ty.Boolean x) ty.Boolean) h
tests true word.False type h = ap (λ x. typed_if (is_of ty.Boolean x) ty.Boolean) h
tests false word.Unknown type h = ap (λ x. typed_if (is_of ty.Boolean x) ty.Boolean) h
tests true word.Unknown type h = ap (λ x. typed_if (is_of ty.Boolean x) ty.Boolean) h

null_tests : (negated : Bool) (t : Ty) (type : Typed) → type ≡ Some t → typed_if (can_test (test_of word.Null negated) type) ty.Boolean ≡ Some ty.Boolean
null_tests false t type h = ap (λ x. typed_if (is_some x) ty.Boolean) h
null_tests true t type h = ap (λ x. typed_if (is_some x) ty.Boolean) h

module _ (schema : Schema) (scope : Scope) where
  pub product_is : (a b : Counts) (at : ℕ) (es : List TypedExpr) (e : TypedExpr) → is_listed es ≡ true → Along (Found schema scope) a b es → product_node at es ≡ Ok e → Found schema scope a b e
  product_is a b at es e some along h =
      let made = bounded_parts (list_all (can_be ty.Number) es) _ at (typed ty.Number (expr.Product (map (expr_as ty.Number) es)) (product (map bound_in es))) e h in
      let are = as_exprs schema scope a b ty.Number es along made.0 in
      subst (Found schema scope a b) made.2
      (found_typed schema scope a b ty.Number (product (map bound_in es)) (expr.Product (map (expr_as ty.Number) es))
      (node schema scope a b ty.Number (product (map bound_in es)) (Expr-F.Product (map (expr_as ty.Number) es)) (expr.Product (map (expr_as ty.Number) es)) (expr.rolls-Product (map (expr_as ty.Number) es)) refl are.made
      (laws.at-Product Typed Bool Typed TypedOutput TypedQuery expr_type tree_typed order_typed output_typed query_typed (map (expr_as ty.Number) es) ∙ ap (λ x. typed_if x ty.Number) (all_typed ty.Number (map type_of (map (expr_as ty.Number) es)) (listed_map type_of (map (expr_as ty.Number) es) (listed_map (expr_as ty.Number) es some)) (types_of ty.Number (map (expr_as ty.Number) es) are.types)))
      (ap (λ (f : BoundIn). f scope) (laws.at-Product BoundIn EntriesIn BoundIn ColumnIn ColumnsIn expr_bound (tree_entries schema) order_bound output_column query_columns (map (expr_as ty.Number) es)) ∙ ap product (bounds_of schema scope (map (expr_as ty.Number) es) ∙ are.bounds))
      made.1))

  pub concat_is : (a b : Counts) (at : ℕ) (es : List TypedExpr) (e : TypedExpr) → is_listed es ≡ true → Along (Found schema scope) a b es → concat_node at es ≡ Ok e → Found schema scope a b e
  concat_is a b at es e some along h =
      let made = if_parts (list_all (can_be ty.Text) es) _ (typed ty.Text (expr.Concat (map (expr_as ty.Text) es)) 0) e h in
      let are = as_exprs schema scope a b ty.Text es along made.0 in
      subst (Found schema scope a b) made.1
      (found_typed schema scope a b ty.Text 0 (expr.Concat (map (expr_as ty.Text) es))
      (node schema scope a b ty.Text 0 (Expr-F.Concat (map (expr_as ty.Text) es)) (expr.Concat (map (expr_as ty.Text) es)) (expr.rolls-Concat (map (expr_as ty.Text) es)) refl are.made
      (laws.at-Concat Typed Bool Typed TypedOutput TypedQuery expr_type tree_typed order_typed output_typed query_typed (map (expr_as ty.Text) es) ∙ ap (λ x. typed_if x ty.Text) (all_typed ty.Text (map type_of (map (expr_as ty.Text) es)) (listed_map type_of (map (expr_as ty.Text) es) (listed_map (expr_as ty.Text) es some)) (types_of ty.Text (map (expr_as ty.Text) es) are.types)))
      (ap (λ (f : BoundIn). f scope) (laws.at-Concat BoundIn EntriesIn BoundIn ColumnIn ColumnsIn expr_bound (tree_entries schema) order_bound output_column query_columns (map (expr_as ty.Text) es)))
      fits_zero))

  pub and_is : (a b : Counts) (at : ℕ) (es : List TypedExpr) (e : TypedExpr) → is_listed es ≡ true → Along (Found schema scope) a b es → and_node at es ≡ Ok e → Found schema scope a b e
  and_is a b at es e some along h =
      let made = if_parts (list_all (can_be ty.Boolean) es) _ (typed ty.Boolean (expr.And (map (expr_as ty.Boolean) es)) 0) e h in
      let are = as_exprs schema scope a b ty.Boolean es along made.0 in
      subst (Found schema scope a b) made.1
      (found_typed schema scope a b ty.Boolean 0 (expr.And (map (expr_as ty.Boolean) es))
      (node schema scope a b ty.Boolean 0 (Expr-F.And (map (expr_as ty.Boolean) es)) (expr.And (map (expr_as ty.Boolean) es)) (expr.rolls-And (map (expr_as ty.Boolean) es)) refl are.made
      (laws.at-And Typed Bool Typed TypedOutput TypedQuery expr_type tree_typed order_typed output_typed query_typed (map (expr_as ty.Boolean) es) ∙ ap (λ x. typed_if x ty.Boolean) (all_typed ty.Boolean (map type_of (map (expr_as ty.Boolean) es)) (listed_map type_of (map (expr_as ty.Boolean) es) (listed_map (expr_as ty.Boolean) es some)) (types_of ty.Boolean (map (expr_as ty.Boolean) es) are.types)))
      (ap (λ (f : BoundIn). f scope) (laws.at-And BoundIn EntriesIn BoundIn ColumnIn ColumnsIn expr_bound (tree_entries schema) order_bound output_column query_columns (map (expr_as ty.Boolean) es)))
      fits_zero))

  pub or_is : (a b : Counts) (at : ℕ) (es : List TypedExpr) (e : TypedExpr) → is_listed es ≡ true → Along (Found schema scope) a b es → or_node at es ≡ Ok e → Found schema scope a b e
  or_is a b at es e some along h =
      let made = if_parts (list_all (can_be ty.Boolean) es) _ (typed ty.Boolean (expr.Or (map (expr_as ty.Boolean) es)) 0) e h in
      let are = as_exprs schema scope a b ty.Boolean es along made.0 in
      subst (Found schema scope a b) made.1
      (found_typed schema scope a b ty.Boolean 0 (expr.Or (map (expr_as ty.Boolean) es))
      (node schema scope a b ty.Boolean 0 (Expr-F.Or (map (expr_as ty.Boolean) es)) (expr.Or (map (expr_as ty.Boolean) es)) (expr.rolls-Or (map (expr_as ty.Boolean) es)) refl are.made
      (laws.at-Or Typed Bool Typed TypedOutput TypedQuery expr_type tree_typed order_typed output_typed query_typed (map (expr_as ty.Boolean) es) ∙ ap (λ x. typed_if x ty.Boolean) (all_typed ty.Boolean (map type_of (map (expr_as ty.Boolean) es)) (listed_map type_of (map (expr_as ty.Boolean) es) (listed_map (expr_as ty.Boolean) es some)) (types_of ty.Boolean (map (expr_as ty.Boolean) es) are.types)))
      (ap (λ (f : BoundIn). f scope) (laws.at-Or BoundIn EntriesIn BoundIn ColumnIn ColumnsIn expr_bound (tree_entries schema) order_bound output_column query_columns (map (expr_as ty.Boolean) es)))
      fits_zero))

  pub coalesce_is : (a b : Counts) (at : ℕ) (es : List TypedExpr) (e : TypedExpr) → is_listed es ≡ true → Along (Found schema scope) a b es → coalesce_node at es ≡ Ok e → Found schema scope a b e
  coalesce_is a b at es e some along h =
      let made = if_parts (are_of_one_type es) _ (typed (common_type es) (expr.Coalesce (map (expr_as (common_type es)) es)) (greatest (map bound_in es))) e h in
      let are = as_exprs schema scope a b (common_type es) es along made.0 in
      subst (Found schema scope a b) made.1
      (found_typed schema scope a b (common_type es) (greatest (map bound_in es)) (expr.Coalesce (map (expr_as (common_type es)) es))
      (node schema scope a b (common_type es) (greatest (map bound_in es)) (Expr-F.Coalesce (map (expr_as (common_type es)) es)) (expr.Coalesce (map (expr_as (common_type es)) es)) (expr.rolls-Coalesce (map (expr_as (common_type es)) es)) refl are.made
      (laws.at-Coalesce Typed Bool Typed TypedOutput TypedQuery expr_type tree_typed order_typed output_typed query_typed (map (expr_as (common_type es)) es) ∙ one_typed (common_type es) (map type_of (map (expr_as (common_type es)) es)) (listed_map type_of (map (expr_as (common_type es)) es) (listed_map (expr_as (common_type es)) es some)) (types_of (common_type es) (map (expr_as (common_type es)) es) are.types))
      (ap (λ (f : BoundIn). f scope) (laws.at-Coalesce BoundIn EntriesIn BoundIn ColumnIn ColumnsIn expr_bound (tree_entries schema) order_bound output_column query_columns (map (expr_as (common_type es)) es)) ∙ ap greatest (bounds_of schema scope (map (expr_as (common_type es)) es) ∙ are.bounds))
      (greatest_fits 0 (map bound_in es) fits_zero are.fit)))

  pub sum_is : (a b : Counts) (at : ℕ) (terms : List (Bool × TypedExpr)) (e : TypedExpr) → is_listed terms ≡ true → Along (Found schema scope) a b (map term_part terms) → sum_node at terms ≡ Ok e → Found schema scope a b e
  sum_is a b at terms e some along h =
      let node_of = typed ty.Number (expr.Sum (map (term_as ty.Number) terms)) (sum (map bound_in (map term_part terms))) in
      let made = bounded_parts (list_all (can_be ty.Number) (map term_part terms)) _ at node_of e h in
      let are = as_exprs schema scope a b ty.Number (map term_part terms) along made.0 in
      let found_exprs = map (expr_as ty.Number) (map term_part terms) in
      let types : map term_part (map (λ (t : Bool × Expr). (t.0, type_of t.1)) (map (term_as ty.Number) terms)) ≡ map type_of found_exprs = terms_map type_of (map (term_as ty.Number) terms) ∙ ap (map type_of) (terms_part ty.Number terms) in
      let bounds : map term_part (map (λ (t : Bool × Expr). (t.0, bound_of schema t.1)) (map (term_as ty.Number) terms)) ≡ map (bound_of schema) found_exprs = terms_map (bound_of schema) (map (term_as ty.Number) terms) ∙ ap (map (bound_of schema)) (terms_part ty.Number terms) in
      subst (Found schema scope a b) made.2
      (found_typed schema scope a b ty.Number (sum (map bound_in (map term_part terms))) (expr.Sum (map (term_as ty.Number) terms))
      (node schema scope a b ty.Number (sum (map bound_in (map term_part terms))) (Expr-F.Sum (map (term_as ty.Number) terms)) (expr.Sum (map (term_as ty.Number) terms)) (expr.rolls-Sum (map (term_as ty.Number) terms)) refl
      (subst (MadeExprs schema scope a b) (sym (terms_part ty.Number terms)) are.made)
      (laws.at-Sum Typed Bool Typed TypedOutput TypedQuery expr_type tree_typed order_typed output_typed query_typed (map (term_as ty.Number) terms) ∙ ap (λ xs. typed_if (are_all ty.Number xs) ty.Number) types ∙ ap (λ x. typed_if x ty.Number) (all_typed ty.Number (map type_of found_exprs) (listed_map type_of found_exprs (listed_map (expr_as ty.Number) (map term_part terms) (listed_map term_part terms some))) (types_of ty.Number found_exprs are.types)))
      (ap (λ (f : BoundIn). f scope) (laws.at-Sum BoundIn EntriesIn BoundIn ColumnIn ColumnsIn expr_bound (tree_entries schema) order_bound output_column query_columns (map (term_as ty.Number) terms)) ∙ ap (λ xs. sum (map (in_scope scope) xs)) bounds ∙ ap sum (bounds_of schema scope found_exprs ∙ are.bounds))
      made.1))

  pub sign_is : (a b : Counts) (at : ℕ) (minus : Bool) (e r : TypedExpr) → Found schema scope a b e → sign_node at minus e ≡ Ok r → Found schema scope a b r
  sign_is a b at true e r is h =
      let made = if_parts (can_be ty.Number e) _ (typed ty.Number (expr.Neg (expr_as ty.Number e)) e.bound) r h in
      let one = is ty.Number made.0 in
      subst (Found schema scope a b) made.1
      (found_typed schema scope a b ty.Number e.bound (expr.Neg (expr_as ty.Number e))
      (node schema scope a b ty.Number e.bound (Expr-F.Neg (expr_as ty.Number e)) (expr.Neg (expr_as ty.Number e)) (expr.rolls-Neg (expr_as ty.Number e)) refl
      (more_exprs scope a b b (expr_as ty.Number e) [] one.made (no_exprs scope b b refl))
      (laws.at-Neg Typed Bool Typed TypedOutput TypedQuery expr_type tree_typed order_typed output_typed query_typed (expr_as ty.Number e) ∙ ap (λ t. typed_if (is_of ty.Number t) ty.Number) one.type)
      (ap (λ (f : BoundIn). f scope) (laws.at-Neg BoundIn EntriesIn BoundIn ColumnIn ColumnsIn expr_bound (tree_entries schema) order_bound output_column query_columns (expr_as ty.Number e)) ∙ one.bound)
      one.fit))
  sign_is a b at false e r is h =
      let made = if_parts (can_be ty.Number e) _ (typed ty.Number (expr_as ty.Number e) e.bound) r h in
      subst (Found schema scope a b) made.1 (found_typed schema scope a b ty.Number e.bound (expr_as ty.Number e) (is ty.Number made.0))

  pub not_is : (a b : Counts) (at : ℕ) (e r : TypedExpr) → Found schema scope a b e → not_node at e ≡ Ok r → Found schema scope a b r
  not_is a b at e r is h =
      let made = if_parts (can_be ty.Boolean e) _ (truth (expr.Not (expr_as ty.Boolean e))) r h in
      let one = is ty.Boolean made.0 in
      subst (Found schema scope a b) made.1
      (found_typed schema scope a b ty.Boolean 0 (expr.Not (expr_as ty.Boolean e))
      (node schema scope a b ty.Boolean 0 (Expr-F.Not (expr_as ty.Boolean e)) (expr.Not (expr_as ty.Boolean e)) (expr.rolls-Not (expr_as ty.Boolean e)) refl
      (more_exprs scope a b b (expr_as ty.Boolean e) [] one.made (no_exprs scope b b refl))
      (laws.at-Not Typed Bool Typed TypedOutput TypedQuery expr_type tree_typed order_typed output_typed query_typed (expr_as ty.Boolean e) ∙ ap (λ t. typed_if (is_of ty.Boolean t) ty.Boolean) one.type)
      (ap (λ (f : BoundIn). f scope) (laws.at-Not BoundIn EntriesIn BoundIn ColumnIn ColumnsIn expr_bound (tree_entries schema) order_bound output_column query_columns (expr_as ty.Boolean e)))
      fits_zero))

  test_is : (a b : Counts) (negated : Bool) (w : IsWord) (t : Ty) (n : ℕ) (x : Expr) → IsExpr schema scope a b t n x → typed_if (can_test (test_of w negated) (type_of x)) ty.Boolean ≡ Some ty.Boolean → Found schema scope a b (truth (expr.Test (test_of w negated) x))
  test_is a b negated w t n x one type =
      found_typed schema scope a b ty.Boolean 0 (expr.Test (test_of w negated) x)
      (node schema scope a b ty.Boolean 0 (Expr-F.Test (test_of w negated) x) (expr.Test (test_of w negated) x) (expr.rolls-Test (test_of w negated) x) refl
      (more_exprs scope a b b x [] one.made (no_exprs scope b b refl))
      (laws.at-Test Typed Bool Typed TypedOutput TypedQuery expr_type tree_typed order_typed output_typed query_typed (test_of w negated) x ∙ type)
      (ap (λ (f : BoundIn). f scope) (laws.at-Test BoundIn EntriesIn BoundIn ColumnIn ColumnsIn expr_bound (tree_entries schema) order_bound output_column query_columns (test_of w negated) x))
      fits_zero)

  other_test : (a b : Counts) (at : ℕ) (negated : Bool) (w : IsWord) (e r : TypedExpr) → Found schema scope a b e → judged_if at (can_be ty.Boolean e) (test_node ty.Boolean negated w e) ≡ Ok r → Found schema scope a b r
  other_test a b at negated w e r is h =
      let made = if_parts (can_be ty.Boolean e) _ (test_node ty.Boolean negated w e) r h in
      let one = is ty.Boolean made.0 in
      subst (Found schema scope a b) made.1 (test_is a b negated w ty.Boolean e.bound (expr_as ty.Boolean e) one (tests negated w (type_of (expr_as ty.Boolean e)) one.type))

  pub is_is : (a b : Counts) (at : ℕ) (negated : Bool) (w : IsWord) (e r : TypedExpr) → Found schema scope a b e → is_node at negated w e ≡ Ok r → Found schema scope a b r
  is_is a b at negated word.Null e r is h =
      let one = found_own schema scope a b e is in
      subst (Found schema scope a b) (same_Ok (test_node (own_type e) negated word.Null e) r h) (test_is a b negated word.Null (own_type e) e.bound (own_expr e) one (null_tests negated (own_type e) (type_of (own_expr e)) one.type))
  is_is a b at negated word.True e r is h = other_test a b at negated word.True e r is h
  is_is a b at negated word.False e r is h = other_test a b at negated word.False e r is h
  is_is a b at negated word.Unknown e r is h = other_test a b at negated word.Unknown e r is h

  pub compare_is : (a b : Counts) (at : ℕ) (op : CmpWord) (l r : TypedExpr) (e : TypedExpr) → Along (Found schema scope) a b (l ∷ r ∷ []) → compare_node at op (l, r) ≡ Ok e → Found schema scope a b e
  compare_is a b at op l r e along h =
      let operands = l ∷ r ∷ [] in
      let t = common_type operands in
      let made = if_parts (are_of_one_type operands) _ (truth (expr.Compare (op_of op) (expr_as t l) (expr_as t r))) e h in
      let are = as_exprs schema scope a b t operands along made.0 in
      let es = map (expr_as t) operands in
      subst (Found schema scope a b) made.1
      (found_typed schema scope a b ty.Boolean 0 (expr.Compare (op_of op) (expr_as t l) (expr_as t r))
      (node schema scope a b ty.Boolean 0 (Expr-F.Compare (op_of op) (expr_as t l) (expr_as t r)) (expr.Compare (op_of op) (expr_as t l) (expr_as t r)) (expr.rolls-Compare (op_of op) (expr_as t l) (expr_as t r)) refl are.made
      (laws.at-Compare Typed Bool Typed TypedOutput TypedQuery expr_type tree_typed order_typed output_typed query_typed (op_of op) (expr_as t l) (expr_as t r) ∙ ap (λ o. typed_if (is_some o) ty.Boolean) (one_typed t (map type_of es) refl (types_of t es are.types)))
      (ap (λ (f : BoundIn). f scope) (laws.at-Compare BoundIn EntriesIn BoundIn ColumnIn ColumnsIn expr_bound (tree_entries schema) order_bound output_column query_columns (op_of op) (expr_as t l) (expr_as t r)))
      fits_zero))

  pub between_is : (a b : Counts) (at : ℕ) (x l r : TypedExpr) (e : TypedExpr) → Along (Found schema scope) a b (x ∷ l ∷ r ∷ []) → between_node at (x, (l, r)) ≡ Ok e → Found schema scope a b e
  between_is a b at x l r e along h =
      let operands = x ∷ l ∷ r ∷ [] in
      let t = common_type operands in
      let made = if_parts (are_of_one_type operands) _ (truth (expr.Between (expr_as t x) (expr_as t l) (expr_as t r))) e h in
      let are = as_exprs schema scope a b t operands along made.0 in
      let es = map (expr_as t) operands in
      subst (Found schema scope a b) made.1
      (found_typed schema scope a b ty.Boolean 0 (expr.Between (expr_as t x) (expr_as t l) (expr_as t r))
      (node schema scope a b ty.Boolean 0 (Expr-F.Between (expr_as t x) (expr_as t l) (expr_as t r)) (expr.Between (expr_as t x) (expr_as t l) (expr_as t r)) (expr.rolls-Between (expr_as t x) (expr_as t l) (expr_as t r)) refl are.made
      (laws.at-Between Typed Bool Typed TypedOutput TypedQuery expr_type tree_typed order_typed output_typed query_typed (expr_as t x) (expr_as t l) (expr_as t r) ∙ ap (λ o. typed_if (is_some o) ty.Boolean) (one_typed t (map type_of es) refl (types_of t es are.types)))
      (ap (λ (f : BoundIn). f scope) (laws.at-Between BoundIn EntriesIn BoundIn ColumnIn ColumnsIn expr_bound (tree_entries schema) order_bound output_column query_columns (expr_as t x) (expr_as t l) (expr_as t r)))
      fits_zero))

  pub in_list_is : (a b : Counts) (at : ℕ) (x : TypedExpr) (list : List TypedExpr) (e : TypedExpr) → is_listed list ≡ true → Along (Found schema scope) a b (x ∷ list) → in_list_node at (x, list) ≡ Ok e → Found schema scope a b e
  in_list_is a b at x list e some along h =
      let operands = x ∷ list in
      let t = common_type operands in
      let made = if_parts (are_of_one_type operands) _ (truth (expr.InList (expr_as t x) (map (expr_as t) list))) e h in
      let are = as_exprs schema scope a b t operands along made.0 in
      let es = map (expr_as t) operands in
      subst (Found schema scope a b) made.1
      (found_typed schema scope a b ty.Boolean 0 (expr.InList (expr_as t x) (map (expr_as t) list))
      (node schema scope a b ty.Boolean 0 (Expr-F.InList (expr_as t x) (map (expr_as t) list)) (expr.InList (expr_as t x) (map (expr_as t) list)) (expr.rolls-InList (expr_as t x) (map (expr_as t) list)) refl are.made
      (laws.at-InList Typed Bool Typed TypedOutput TypedQuery expr_type tree_typed order_typed output_typed query_typed (expr_as t x) (map (expr_as t) list) ∙ ap (λ v. typed_if (v && is_some (one_type (map type_of es))) ty.Boolean) (listed_map type_of (map (expr_as t) list) (listed_map (expr_as t) list some)) ∙ ap (λ o. typed_if (is_some o) ty.Boolean) (one_typed t (map type_of es) refl (types_of t es are.types)))
      (ap (λ (f : BoundIn). f scope) (laws.at-InList BoundIn EntriesIn BoundIn ColumnIn ColumnsIn expr_bound (tree_entries schema) order_bound output_column query_columns (expr_as t x) (map (expr_as t) list)))
      fits_zero))
