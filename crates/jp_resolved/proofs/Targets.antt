-- Outputs that are made, and the columns that names take, as expressions.
use Rattle.std.proofs.Common.{◌≡◌, ◌∙◌, ap, ap₂, sym, subst, refl, ℕ, Bool, List, [], ◌∷◌, ◌++◌, map, Some, Ok}
use Rattle.std.proofs.lemmas.Bool.{lt-ltb}
use Rattle.std.proofs.lemmas.List.{map-append}
use Rattle.jp_base.specs.declared.values.Ty.{Ty}
use Rattle.jp_query.specs.declared.Expr.{Expr}
use Rattle.jp_query.specs.declared.Expr.TheOpen.{Output-F}
use Rattle.jp_query.specs.declared.JoinTree.{JoinTree}
use Rattle.jp_query.specs.declared.Order.{Order}
use Rattle.jp_query.specs.declared.Query.{Query}
use Rattle.jp_query.specs.declared.Output.{Output, out-Output, roll-Output, out-roll-Output}
use Rattle.jp_query.specs.Scopes.{Schema, Scope, BoundIn, EntriesIn, ColumnIn, ColumnsIn, bound_of_column, visible_column, expr_bound, tree_entries, order_bound, output_column, query_columns, bound_of}
use Rattle.jp_query.specs.Scopes as scopes
use Rattle.jp_query.specs.Typing.{Typed, TypedOutput, TypedQuery, type_of, typed_if, expr_type, tree_typed, order_typed, output_typed, query_typed}
use Rattle.jp_query.proofs.FoldLaws as laws
use Rattle.jp_resolution.specs.declared.words.Counts.{Counts}
use Rattle.jp_resolution.specs.declared.words.TypedExpr.{TypedExpr}
use Rattle.jp_resolution.specs.Answers.{◌>>=◌}
use Rattle.jp_resolution.specs.Counting.{Levels, listed}
use Rattle.jp_resolution.specs.Names.{VisibleColumn, entry_columns, columns_of, column_expr, named_column, qualified_entry, called, the_only, the_entry}
use Rattle.jp_resolution.specs.Resolving.{Selected, Targets, output_of, column_of, selected, one_output, column_output, all_columns, entry_outputs, all_columns_of, outputs_in, all_outputs, targets_of, column, name_over, column_in, qualified_over}
use Rattle.jp_resolution.specs.Types.{own_type, own_expr}
use Rattle.jp_induction.proofs.EachPart.{Each, each_append}
use Rattle.jp_resolved.specs.Sorted.{expr_of_output}
use Rattle.jp_resolved.proofs.Answered.{same_Ok, then_parts}
use Rattle.jp_resolved.proofs.Spans.{Along}
use Rattle.jp_resolved.proofs.Made.{MadeExprs, column as made_column, no_exprs, more_exprs}
use Rattle.jp_resolved.proofs.Seen.{seen_column, seen_columns, scope_of, FitsColumn, IsSeen, entry_seen, level_seen, named_seen, only_seen, qualified_seen, the_entry_is, are_seen, each_filter}
use Rattle.jp_resolved.proofs.Found.{IsExpr, Found, found_typed, found_own}
use Rattle.jp_resolved.proofs.CaseNodes.{made_append}
use Rattle.jp_resolved.proofs.Parts.{IsPlace, Claim, Good, given_good, Several, all_good}
use Rattle.jp_resolved.proofs.Selections.{IsTypedOutput, column_at}

abbrev typed_with : Ty → ℕ → scopes.Column
typed_with t n = record { type = t; bound = n }

module _ (schema : Schema) where
  module _ (scope : Scope) where
    -- ---- columns

    pub column_is : (a b : Counts) (c : VisibleColumn) → a ≡ b → IsSeen scope c → IsExpr schema scope a b c.column.ty c.column.bound (column_expr c).expr
    column_is a b c same is = record {
      made = made_column scope a b c.relation c.place (seen_column c.column) same is.there is.fit;
      type = laws.at-Col Typed Bool Typed TypedOutput TypedQuery expr_type tree_typed order_typed output_typed query_typed c.relation c.place c.column.ty 0 ∙ ap (λ x. typed_if x c.column.ty) (lt-ltb c.relation 64 is.small);
      bound = ap (λ (f : BoundIn). f scope) (laws.at-Col BoundIn EntriesIn BoundIn ColumnIn ColumnsIn expr_bound (tree_entries schema) order_bound output_column query_columns c.relation c.place c.column.ty 0) ∙ ap bound_of_column is.there;
      fit = is.fit;
    }

    pub column_found : (a b : Counts) (c : VisibleColumn) (e : TypedExpr) → a ≡ b → IsSeen scope c → column c ≡ Ok e → Found schema scope a b e
    column_found a b c e same is h = subst (Found schema scope a b) (same_Ok (column_expr c) e h) (found_typed schema scope a b c.column.ty c.column.bound (column_expr c).expr (column_is a b c same is))

    -- ---- outputs

    pub record AreSelected (a b : Counts) (xs : List Selected) : Type 0 where
      pub made : MadeExprs schema scope a b (map expr_of_output (map output_of xs))
      pub types : Each IsTypedOutput (map output_of xs)
      pub bounds : map (column_at schema scope) (map output_of xs) ≡ seen_columns (map column_of xs)
      pub fit : Each FitsColumn (seen_columns (map column_of xs))

    pub none_selected : (a b : Counts) → a ≡ b → AreSelected a b []
    none_selected a b same = record { made = no_exprs scope a b same; types = tt; bounds = refl; fit = tt }

    pub one_selected : (a m b : Counts) (name : List ℕ) (t : Ty) (n : ℕ) (e : Expr) (xs : List Selected) → IsExpr schema scope a m t n e → AreSelected m b xs → AreSelected a b (selected name t e n ∷ xs)
    one_selected a m b name t n e xs is more =
        let output : Output-F Expr JoinTree Order Output Query = record { name = name; ty = t; expr = e } in
        let back : output ≡ out-Output (roll-Output output) = sym (out-roll-Output output) in
        record {
          made = subst (λ (o : Output-F Expr JoinTree Order Output Query). MadeExprs schema scope a b (o.expr ∷ map expr_of_output (map output_of xs))) back (more_exprs scope a m b e (map expr_of_output (map output_of xs)) is.made more.made);
          types = (subst (λ (o : Output-F Expr JoinTree Order Output Query). type_of o.expr ≡ Some o.ty) back is.type, more.types);
          bounds = ap₂ (λ x ys. x ∷ ys)
              (subst (λ (o : Output-F Expr JoinTree Order Output Query). typed_with o.ty (bound_of schema o.expr scope) ≡ typed_with o.ty n) back (ap (typed_with t) is.bound))
              more.bounds;
          fit = (is.fit, more.fit);
        }

    pub selected_append : (a m b : Counts) (xs ys : List Selected) → AreSelected a m xs → AreSelected m b ys → AreSelected a b (xs ++ ys)
    selected_append a m b xs ys p q =
        let outputs = map-append output_of xs ys in
        let columns = map-append column_of xs ys in
        let split = map-append seen_column (map column_of xs) (map column_of ys) in
        let whole : seen_columns (map column_of (xs ++ ys)) ≡ seen_columns (map column_of xs) ++ seen_columns (map column_of ys) = ap seen_columns columns ∙ split in
        record {
          made = subst (MadeExprs schema scope a b) (sym (ap (map expr_of_output) outputs ∙ map-append expr_of_output (map output_of xs) (map output_of ys))) (made_append schema scope a m b (map expr_of_output (map output_of xs)) (map expr_of_output (map output_of ys)) p.made q.made);
          types = subst (Each IsTypedOutput) (sym outputs) (each_append IsTypedOutput (map output_of xs) (map output_of ys) p.types q.types);
          bounds = ap (map (column_at schema scope)) outputs ∙ map-append (column_at schema scope) (map output_of xs) (map output_of ys) ∙ ap₂ (λ xs ys. xs ++ ys) p.bounds q.bounds ∙ sym whole;
          fit = subst (Each FitsColumn) (sym whole) (each_append FitsColumn (seen_columns (map column_of xs)) (seen_columns (map column_of ys)) p.fit q.fit);
        }

    pub columns_selected : (a b : Counts) (cs : List VisibleColumn) → a ≡ b → Each (IsSeen scope) cs → AreSelected a b (map column_output cs)
    columns_selected a b [] same each = none_selected a b same
    columns_selected a b (c ∷ cs) same each = one_selected a a b c.column.name c.column.ty c.column.bound (column_expr c).expr (map column_output cs) (column_is a a c refl each.0) (columns_selected a b cs same each.1)

    pub all_selected : (a b : Counts) (lists : List (List Selected)) → Along AreSelected a b lists → AreSelected a b (outputs_in lists)
    all_selected a b [] along = none_selected a b along
    all_selected a b (xs ∷ lists) along = selected_append a along.0 b xs (outputs_in lists) along.1 (all_selected along.0 b lists along.2)

  -- ---- parts

  abbrev pub FoundAt : Claim TypedExpr
  FoundAt levels a b e = Found schema (scope_of levels) a b e

  abbrev pub SelectedAt : Claim (List Selected)
  SelectedAt levels a b xs = AreSelected (scope_of levels) a b xs

  pub name_is : (at : ℕ) (name : List ℕ) (levels : Levels) (a b : Counts) (e : TypedExpr) → a ≡ b → IsPlace levels a b → name_over at name levels ≡ Ok e → FoundAt levels a b e
  name_is at name levels a b e same place h =
      let found = then_parts (the_only at (named_column name levels)) column e h in
      column_found (scope_of levels) a b found.0 e same
      (only_seen (IsSeen (scope_of levels)) at (named_column name levels) found.0 found.1 (named_seen (scope_of levels) name levels (are_seen a.entries b.entries levels place.opened)))
      found.2

  pub qualified_is : (at : ℕ) (qualifier name : List ℕ) (levels : Levels) (a b : Counts) (e : TypedExpr) → a ≡ b → IsPlace levels a b → qualified_over at qualifier name levels ≡ Ok e → FoundAt levels a b e
  qualified_is at qualifier name levels a b e same place h =
      let scope = scope_of levels in
      let entry = then_parts (the_entry at (qualified_entry qualifier levels)) (λ entry. column_in at name entry >>= column) e h in
      let c = then_parts (column_in at name entry.0) column e entry.2 in
      let seen = qualified_seen scope qualifier levels entry.0 (the_entry_is at (qualified_entry qualifier levels) entry.0 entry.1) (are_seen a.entries b.entries levels place.opened) in
      column_found scope a b c.0 e same (only_seen (IsSeen scope) at (called name (entry_columns entry.0)) c.0 c.1 (each_filter (IsSeen scope) _ (entry_columns entry.0) (entry_seen scope entry.0 seen))) c.2

  pub all_columns_are : (levels : Levels) (a b : Counts) (xs : List Selected) → a ≡ b → IsPlace levels a b → all_columns levels ≡ Ok xs → SelectedAt levels a b xs
  all_columns_are [] a b xs same place h = subst (AreSelected (scope_of []) a b) (same_Ok [] xs h) (none_selected (scope_of []) a b same)
  all_columns_are (level ∷ levels) a b xs same place h =
      let scope = scope_of (level ∷ levels) in
      subst (AreSelected scope a b) (same_Ok (map column_output (columns_of level)) xs h) (columns_selected scope a b (columns_of level) same (level_seen scope level (are_seen a.entries b.entries (level ∷ levels) place.opened).0))

  pub columns_of_are : (at : ℕ) (qualifier : List ℕ) (levels : Levels) (a b : Counts) (xs : List Selected) → a ≡ b → IsPlace levels a b → all_columns_of at qualifier levels ≡ Ok xs → SelectedAt levels a b xs
  columns_of_are at qualifier levels a b xs same place h =
      let scope = scope_of levels in
      let entry = then_parts (the_entry at (qualified_entry qualifier levels)) entry_outputs xs h in
      let seen = qualified_seen scope qualifier levels entry.0 (the_entry_is at (qualified_entry qualifier levels) entry.0 entry.1) (are_seen a.entries b.entries levels place.opened) in
      subst (AreSelected scope a b) (same_Ok (map column_output (entry_columns entry.0)) xs entry.2) (columns_selected scope a b (entry_columns entry.0) same (entry_seen scope entry.0 seen))

  pub one_is : (name : List ℕ) (levels : Levels) (a b : Counts) (e : TypedExpr) (xs : List Selected) → FoundAt levels a b e → one_output name e ≡ Ok xs → SelectedAt levels a b xs
  one_is name levels a b e xs found h =
      let scope = scope_of levels in
      subst (AreSelected scope a b) (same_Ok (selected name (own_type e) (own_expr e) e.bound ∷ []) xs h) (one_selected scope a b b name (own_type e) e.bound (own_expr e) [] (found_own schema scope a b e found) (none_selected scope b b refl))

  pub targets_good : (targets : List Targets) → Each (Good SelectedAt) targets → Good SelectedAt (targets_of targets)
  targets_good targets each = given_good (Several SelectedAt) SelectedAt (listed targets) all_outputs (all_good SelectedAt targets each)
      (λ levels a b lists xs along h. subst (AreSelected (scope_of levels) a b) (same_Ok (outputs_in lists) xs h) (all_selected (scope_of levels) a b lists along))
