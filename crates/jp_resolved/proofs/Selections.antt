-- Selects that are made, with the types and bounds of their outputs; and sublinks over them.
use Rattle.std.proofs.Common.{◌≡◌, ◌∙◌, ap, ap₂, sym, subst, refl, ℕ, ◌≤◌, Bool, true, List, [], ◌∷◌, ◌++◌, map, Some, Ok}
use Rattle.std.specs.Prelude.{◌&&◌, is_some}
use Rattle.std.specs.List.{list_all}
use Rattle.std.proofs.lemmas.Bool.{and_from}
use Rattle.jp_base.specs.declared.values.Ty.{Ty}
use Rattle.jp_base.specs.declared.values.Ty.TheVariants as ty
use Rattle.jp_query.specs.declared.Expr.{Expr}
use Rattle.jp_query.specs.declared.Expr.TheVariants as expr
use Rattle.jp_query.specs.declared.Expr.TheFolds.{fold-Output, fold-Order, fold-roll-Query}
use Rattle.jp_query.specs.declared.Order.{Order}
use Rattle.jp_query.specs.declared.Output.{Output, out-Output}
use Rattle.jp_query.specs.declared.JoinTree.{JoinTree}
use Rattle.jp_query.specs.declared.JoinTree.TheVariants as tree
use Rattle.jp_query.specs.Conditions.{has_distinct_numbers}
use Rattle.jp_query.specs.Layers.{QueryLayer}
use Rattle.jp_query.specs.Scopes.{Schema, Scope, BoundIn, EntriesIn, ColumnIn, ColumnsIn, in_scope, expr_bound, tree_entries, order_bound, output_column, query_columns, bound_of, entries_of, columns_of_query}
use Rattle.jp_query.specs.Scopes as scopes
use Rattle.jp_query.specs.Typing.{Typed, TypedOutput, TypedQuery, type_of, tree_is_typed, typed_query, typed_if, is_of, is_listed, is_one_of, are_conditions, output_is_typed, output_type, expr_type, tree_typed, order_typed, output_typed, query_typed}
use Rattle.jp_query.proofs.FoldLaws as laws
use Rattle.jp_resolution.specs.declared.words.Counts.{Counts}
use Rattle.jp_resolution.specs.declared.words.Selection.{Selection}
use Rattle.jp_resolution.specs.declared.words.TypedExpr.{TypedExpr}
use Rattle.jp_resolution.specs.Answers.{◌>>=◌}
use Rattle.jp_resolution.specs.Counting.{one_sublink, both, next_sublink}
use Rattle.jp_resolution.specs.Resolving.{query_of, exists_node, the_column, in_query, in_select_node}
use Rattle.jp_resolution.specs.Types.{can_be, expr_as, truth}
use Rattle.jp_induction.proofs.EachPart.{Each}
use Rattle.jp_resolved.specs.Sorted.{expr_of_output}
use Rattle.jp_resolved.proofs.Answered.{same_Ok, no_Ok, if_parts}
use Rattle.jp_resolved.proofs.Made.{exists, among, MadeExprs, MadeTrees, MadeSelect, select}
use Rattle.jp_resolved.proofs.Seen.{seen_columns, seen_all, FitsColumn, IsOwn}
use Rattle.jp_resolved.proofs.Found.{same_self, IsExpr, Found, found_typed}
use Rattle.jp_resolved.proofs.Nodes.{fits_zero}

abbrev pub level_of : Selection → List Order → QueryLayer
level_of s order = record { columns = s.outputs; distinct = s.distinct; tree = s.tree; conds = s.conds; order = order }

abbrev pub type_of_output : Output → Ty
type_of_output output = (out-Output output).ty

abbrev pub IsTypedOutput : Output → Type 0
IsTypedOutput output = type_of (expr_of_output output) ≡ Some (type_of_output output)

abbrev pub IsTypedCondition : Expr → Type 0
IsTypedCondition e = type_of e ≡ Some ty.Boolean

-- ---- types

abbrev pub typed_output : Output → TypedOutput
typed_output = fold-Output Typed Bool Typed TypedOutput TypedQuery expr_type tree_typed order_typed output_typed query_typed

abbrev pub typed_order : Order → Typed
typed_order = fold-Order Typed Bool Typed TypedOutput TypedQuery expr_type tree_typed order_typed output_typed query_typed

outputs_typed : (outputs : List Output) → Each IsTypedOutput outputs → list_all output_is_typed (map typed_output outputs) ≡ true
outputs_typed [] each = refl
outputs_typed (o ∷ outputs) each =
    and_from (output_is_typed (typed_output o)) (list_all output_is_typed (map typed_output outputs))
    (ap output_is_typed (laws.at-Output Typed Bool Typed TypedOutput TypedQuery expr_type tree_typed order_typed output_typed query_typed o) ∙ ap (is_of (type_of_output o)) each.0 ∙ same_self (type_of_output o))
    (outputs_typed outputs each.1)

output_types : (outputs : List Output) → map output_type (map typed_output outputs) ≡ map type_of_output outputs
output_types [] = refl
output_types (o ∷ outputs) = ap₂ (λ x xs. x ∷ xs) (ap output_type (laws.at-Output Typed Bool Typed TypedOutput TypedQuery expr_type tree_typed order_typed output_typed query_typed o)) (output_types outputs)

conditions_typed : (es : List Expr) → Each IsTypedCondition es → are_conditions (map type_of es) ≡ true
conditions_typed [] each = refl
conditions_typed (e ∷ es) each = and_from (is_of ty.Boolean (type_of e)) (are_conditions (map type_of es)) (ap (is_of ty.Boolean) each.0) (conditions_typed es each.1)

pub conditions_are : (es : List Expr) → Each IsTypedCondition es → are_conditions (map type_of es) ≡ true
conditions_are = conditions_typed

pub select_typed : (s : Selection) (order : List Order) → Each IsTypedOutput s.outputs → tree_is_typed s.tree ≡ true → Each IsTypedCondition s.conds → list_all is_some (map typed_order order) ≡ true
    → typed_query (query_of s order) ≡ record { is_typed = true; outputs = map type_of_output s.outputs }
select_typed s order outputs tree conds sorted =
    fold-roll-Query Typed Bool Typed TypedOutput TypedQuery expr_type tree_typed order_typed output_typed query_typed (level_of s order)
    ∙ ap₂ (λ b ts. record { is_typed = b; outputs = ts })
    (and_from (list_all output_is_typed (map typed_output s.outputs)) (tree_is_typed s.tree && (are_conditions (map type_of s.conds) && list_all is_some (map typed_order order))) (outputs_typed s.outputs outputs)
    (and_from (tree_is_typed s.tree) (are_conditions (map type_of s.conds) && list_all is_some (map typed_order order)) tree
    (and_from (are_conditions (map type_of s.conds)) (list_all is_some (map typed_order order)) (conditions_typed s.conds conds) sorted)))
    (output_types s.outputs)

-- ---- columns

module _ (schema : Schema) where
  abbrev column_of_output : Output → ColumnIn
  column_of_output = fold-Output BoundIn EntriesIn BoundIn ColumnIn ColumnsIn expr_bound (tree_entries schema) order_bound output_column query_columns

  abbrev pub column_at : Scope → Output → scopes.Column
  column_at scope output = record { type = type_of_output output; bound = bound_of schema (expr_of_output output) scope }

  columns_at : (inner : Scope) (outputs : List Output) → map (in_scope inner) (map column_of_output outputs) ≡ map (column_at inner) outputs
  columns_at inner [] = refl
  columns_at inner (o ∷ outputs) = ap₂ (λ x xs. x ∷ xs) (ap (λ (f : ColumnIn). f inner) (laws.at-Output BoundIn EntriesIn BoundIn ColumnIn ColumnsIn expr_bound (tree_entries schema) order_bound output_column query_columns o)) (columns_at inner outputs)

  select_columns : (outer own : Scope) (s : Selection) (order : List Order) → entries_of schema s.tree outer ≡ own → columns_of_query schema (query_of s order) outer ≡ map (column_at (own ++ outer)) s.outputs
  select_columns outer own s order here =
      ap (λ (f : ColumnsIn). f outer) (fold-roll-Query BoundIn EntriesIn BoundIn ColumnIn ColumnsIn expr_bound (tree_entries schema) order_bound output_column query_columns (level_of s order))
      ∙ ap (λ es. map (in_scope (es ++ outer)) (map column_of_output s.outputs)) here
      ∙ columns_at (own ++ outer) s.outputs

  -- a select with its types and bounds
  pub record IsSelection (outer : Scope) (a b : Counts) (s : Selection) : Type 0 where
    pub middle : Counts
    pub end : Counts
    pub members : List JoinTree
    pub some : is_listed members ≡ true
    pub tree_is : s.tree ≡ tree.From members []
    pub apart : has_distinct_numbers (seen_all s.entries ++ outer) ≡ true
    pub made_outputs : MadeExprs schema (seen_all s.entries ++ outer) a middle (map expr_of_output s.outputs)
    pub made_trees : MadeTrees schema outer middle end (seen_all s.entries) members
    pub made_conds : MadeExprs schema (seen_all s.entries ++ outer) end b s.conds
    pub outputs : Each IsTypedOutput s.outputs
    pub columns : map (column_at (seen_all s.entries ++ outer)) s.outputs ≡ seen_columns s.columns
    pub fit : Each FitsColumn (seen_columns s.columns)
    pub typed : tree_is_typed s.tree ≡ true
    pub entries : entries_of schema s.tree outer ≡ seen_all s.entries
    pub conds : Each IsTypedCondition s.conds
    pub low : a.entries ≤ middle.entries
    pub inner : middle.entries ≤ end.entries
    pub high : end.entries ≤ b.entries
    pub own : IsOwn middle.entries end.entries (seen_all s.entries)

  pub select_made : (outer : Scope) (a b : Counts) (s : Selection) → IsSelection outer a b s → (order : List Order) → MadeSelect schema outer a b (level_of s order)
  select_made outer a b s is order = select outer a is.middle is.end b (seen_all s.entries) (level_of s order) is.members is.some is.tree_is is.apart is.made_outputs is.made_trees is.made_conds

  pub selection_typed : (outer : Scope) (a b : Counts) (s : Selection) → IsSelection outer a b s → typed_query (query_of s []) ≡ record { is_typed = true; outputs = map type_of_output s.outputs }
  selection_typed outer a b s is = select_typed s [] is.outputs is.typed is.conds refl

  pub selection_columns : (outer : Scope) (a b : Counts) (s : Selection) → IsSelection outer a b s → columns_of_query schema (query_of s []) outer ≡ seen_columns s.columns
  selection_columns outer a b s is = select_columns outer (seen_all s.entries) s [] is.entries ∙ is.columns

  -- ---- sublinks

  exists_made : (scope : Scope) (a b : Counts) (s : Selection) → IsSelection scope (both a one_sublink) b s → IsExpr schema scope a b ty.Boolean 0 (expr.Exists (next_sublink a) (query_of s []))
  exists_made scope a b s is = record {
    made = exists scope a b (level_of s []) refl (select_made scope (both a one_sublink) b s is []);
    type = laws.at-Exists Typed Bool Typed TypedOutput TypedQuery expr_type tree_typed order_typed output_typed query_typed (next_sublink a) (query_of s []) ∙ ap (λ (q : TypedQuery). typed_if q.is_typed ty.Boolean) (selection_typed scope (both a one_sublink) b s is);
    bound = ap (λ (f : BoundIn). f scope) (laws.at-Exists BoundIn EntriesIn BoundIn ColumnIn ColumnsIn expr_bound (tree_entries schema) order_bound output_column query_columns (next_sublink a) (query_of s []));
    fit = fits_zero;
  }

  pub exists_is : (scope : Scope) (a b : Counts) (n : ℕ) (s : Selection) (e : TypedExpr) → n ≡ next_sublink a → IsSelection scope (both a one_sublink) b s → exists_node (n, s) ≡ Ok e → Found schema scope a b e
  exists_is scope a b n s e number is h =
      subst (Found schema scope a b) (ap (λ k. truth (expr.Exists k (query_of s []))) (sym number) ∙ same_Ok (truth (expr.Exists n (query_of s []))) e h)
      (found_typed schema scope a b ty.Boolean 0 (expr.Exists (next_sublink a) (query_of s [])) (exists_made scope a b s is))

  in_made : (scope : Scope) (a m b : Counts) (operand : TypedExpr) (s : Selection) (output : Output) → s.outputs ≡ output ∷ [] → Found schema scope (both a one_sublink) m operand → IsSelection scope m b s → can_be (type_of_output output) operand ≡ true
      → IsExpr schema scope a b ty.Boolean 0 (expr.InSub (next_sublink a) (expr_as (type_of_output output) operand) (query_of s []))
  in_made scope a m b operand s output one found is can =
      let t = type_of_output output in
      let x = expr_as t operand in
      let operand_is = found t can in
      let typed : typed_query (query_of s []) ≡ record { is_typed = true; outputs = t ∷ [] } = selection_typed scope m b s is ∙ ap (λ os. record { is_typed = true; outputs = map type_of_output os }) one in
      record {
        made = among scope a m b x (level_of s []) refl operand_is.made (select_made scope m b s is []);
        type = laws.at-InSub Typed Bool Typed TypedOutput TypedQuery expr_type tree_typed order_typed output_typed query_typed (next_sublink a) x (query_of s [])
            ∙ ap (λ (q : TypedQuery). typed_if (q.is_typed && is_one_of (type_of x) q.outputs) ty.Boolean) typed
            ∙ ap (λ o. typed_if (is_of t o) ty.Boolean) operand_is.type
            ∙ ap (λ v. typed_if v ty.Boolean) (same_self t);
        bound = ap (λ (f : BoundIn). f scope) (laws.at-InSub BoundIn EntriesIn BoundIn ColumnIn ColumnsIn expr_bound (tree_entries schema) order_bound output_column query_columns (next_sublink a) x (query_of s []));
        fit = fits_zero;
      }

  in_found : (scope : Scope) (a m b : Counts) (at n : ℕ) (operand : TypedExpr) (s : Selection) (output : Output) (e : TypedExpr) → s.outputs ≡ output ∷ [] → n ≡ next_sublink a → Found schema scope (both a one_sublink) m operand → IsSelection scope m b s → in_query at n operand s output ≡ Ok e → Found schema scope a b e
  in_found scope a m b at n operand s output e one number found is h =
      let t = type_of_output output in
      let made = if_parts (can_be t operand) _ (truth (expr.InSub n (expr_as t operand) (query_of s []))) e h in
      subst (Found schema scope a b) (ap (λ k. truth (expr.InSub k (expr_as t operand) (query_of s []))) (sym number) ∙ made.1)
      (found_typed schema scope a b ty.Boolean 0 (expr.InSub (next_sublink a) (expr_as t operand) (query_of s [])) (in_made scope a m b operand s output one found is made.0))

  pub in_select_is : (scope : Scope) (a m b : Counts) (at n : ℕ) (operand : TypedExpr) (s : Selection) (e : TypedExpr) → n ≡ next_sublink a → Found schema scope (both a one_sublink) m operand → IsSelection scope m b s → in_select_node at (n, (operand, s)) ≡ Ok e → Found schema scope a b e
  in_select_is scope a m b at n operand s e number found is h = by_outputs s.outputs refl h
    where
      by_outputs : (outputs : List Output) → s.outputs ≡ outputs → (the_column at outputs >>= in_query at n operand s) ≡ Ok e → Found schema scope a b e
      by_outputs [] same g = absurd (no_Ok _ e g)
      by_outputs (output ∷ []) same g = in_found scope a m b at n operand s output e same number found is g
      by_outputs (x ∷ y ∷ more) same g = absurd (no_Ok _ e g)
