-- What a judgement at each place of an expression says of its parts, and of its columns outside sublinks.
use Rattle.std.proofs.Common.{◌≡◌, subst, ℕ, true, ◌&&◌, List, ◌++◌, Option, Some, None}
use Rattle.std.specs.List.{list_all}
use Rattle.jp_base.specs.declared.values.Ty.{Ty}
use Rattle.jp_base.specs.declared.values.Value.{Value}
use Rattle.jp_base.specs.Values.{HasType}
use Rattle.jp_query.specs.declared.Expr.{Expr}
use Rattle.jp_query.specs.declared.JoinTree.{JoinTree}
use Rattle.jp_query.specs.declared.Order.{Order}
use Rattle.jp_query.specs.declared.Output.{Output}
use Rattle.jp_query.specs.declared.Query.{Query}
use Rattle.jp_query.specs.declared.Expr.TheOpen.{Expr-F}
use Rattle.jp_query.specs.declared.Expr.TheViews.{roll-Expr}
use Rattle.jp_query.specs.declared.Expr.TheFolds.{fold-Order, fold-Output, map-Expr, fold-roll-Expr}
use Rattle.jp_query.specs.Meaning.{Env, cell_in}
use Rattle.jp_query.specs.Parts.{option_part, parts, sublink_query, trees, conditions, leaf_query, ColumnRef, node_column, node_placeholder}
use Rattle.jp_query.specs.Scopes.{Column, Schema, Entry, Scope, visible_column, bound_of_column}
use Rattle.jp_query.specs.Conditions.{Tests, Judged, ExprLevel, TreeLevel, QueryLevel, passes_in, judged_bound, expr_judged, tree_judged, order_judged, output_judged, query_judged, all_entries, query_passes, judged_expr, judged_tree, judged_query, has_type, sees_column, knows_columns}
use Rattle.jp_query.specs.Fitting.{IsCellOfSome, IsCellAt, own_columns}
use Rattle.jp_laws.proofs.ValueLaws.{and_left, and_right}
use Rattle.jp_laws.proofs.EachPart.{Each, each_true, each_mapped, each_both, parts_map}
use Rattle.jp_laws.proofs.OwnColumns.{column_map, own_have}
use Rattle.jp_laws.proofs.ValuesFit.{Fits, IsSound, same}

-- ---- levels

module _ (schema : Schema) (tests : Tests) (scope : Scope) where
  pub record ExprPasses (x : ExprLevel) : Type 0 where
    pub bound : tests.bound (judged_bound x scope) ≡ true
    pub columns : Each (λ c. tests.column scope c ≡ true) (node_column x)
    pub parts : Each (λ (p : Judged ℕ). p.passes scope ≡ true) (parts x)
    pub sublinks : Each (λ (q : Judged (List Column)). q.passes scope ≡ true) (option_part (sublink_query x))

  pub expr_passes : (x : ExprLevel) → (expr_judged schema tests x).passes scope ≡ true → ExprPasses x
  expr_passes x h =
      let bound = tests.bound (judged_bound x scope) in
      let columns = list_all (tests.column scope) (node_column x) in
      let places = list_all (tests.placeholder scope) (node_placeholder x) in
      let inner = list_all (passes_in scope) (parts x) in
      let subs = list_all (passes_in scope) (option_part (sublink_query x)) in
      let h1 = and_right bound (columns && (places && (inner && subs))) h in
      let h2 = and_right columns (places && (inner && subs)) h1 in
      let h3 = and_right places (inner && subs) h2 in
      record {
        bound = and_left bound (columns && (places && (inner && subs))) h;
        columns = each_true (tests.column scope) (node_column x) (and_left columns (places && (inner && subs)) h1);
        parts = each_true (passes_in scope) (parts x) (and_left inner subs h3);
        sublinks = each_true (passes_in scope) (option_part (sublink_query x)) (and_right inner subs h3);
      }

  abbrev seen_by : TreeLevel → Scope
  seen_by t = all_entries (trees t) scope ++ scope

  pub record TreePasses (t : TreeLevel) : Type 0 where
    pub place : tests.scope (seen_by t) ≡ true
    pub conds : Each (λ (p : Judged ℕ). p.passes (seen_by t) ≡ true) (conditions t)
    pub inner : Each (λ (p : Judged (List Entry)). p.passes scope ≡ true) (trees t)
    pub leaf : Each (λ (q : Judged (List Column)). q.passes scope ≡ true) (option_part (leaf_query t))

  pub tree_passed : (t : TreeLevel) → (tree_judged schema tests t).passes scope ≡ true → TreePasses t
  tree_passed t h =
      let conds = list_all (passes_in (seen_by t)) (conditions t) in
      let ts = list_all (passes_in scope) (trees t) in
      let leaf = list_all (passes_in scope) (option_part (leaf_query t)) in
      let h1 = and_right (tests.scope (seen_by t)) (conds && (ts && leaf)) h in
      let h2 = and_right conds (ts && leaf) h1 in
      record {
        place = and_left (tests.scope (seen_by t)) (conds && (ts && leaf)) h;
        conds = each_true (passes_in (seen_by t)) (conditions t) (and_left conds (ts && leaf) h1);
        inner = each_true (passes_in scope) (trees t) (and_left ts leaf h2);
        leaf = each_true (passes_in scope) (option_part (leaf_query t)) (and_right ts leaf h2);
      }

  abbrev seen_above : QueryLevel → Scope
  seen_above q = q.tree.value scope ++ scope

  pub record QueryPasses (q : QueryLevel) : Type 0 where
    pub tree : q.tree.passes scope ≡ true
    pub place : tests.scope (seen_above q) ≡ true
    pub columns : Each (λ (u : Judged Column). u.passes (seen_above q) ≡ true) q.columns
    pub conds : Each (λ (e : Judged ℕ). e.passes (seen_above q) ≡ true) q.conds
    pub order : Each (λ (o : Judged ℕ). o.passes (seen_above q) ≡ true) q.order

  pub query_passed : (q : QueryLevel) → (query_judged schema tests q).passes scope ≡ true → QueryPasses q
  query_passed q h =
      let columns = list_all (passes_in (seen_above q)) q.columns in
      let conds = list_all (passes_in (seen_above q)) q.conds in
      let order = list_all (passes_in (seen_above q)) q.order in
      let h1 = and_right (q.tree.passes scope) (query_passes schema tests q (seen_above q)) h in
      let h2 = and_right (tests.scope (seen_above q)) (columns && (conds && order)) h1 in
      let h3 = and_right columns (conds && order) h2 in
      record {
        tree = and_left (q.tree.passes scope) (query_passes schema tests q (seen_above q)) h;
        place = and_left (tests.scope (seen_above q)) (columns && (conds && order)) h1;
        columns = each_true (passes_in (seen_above q)) q.columns (and_left columns (conds && order) h2);
        conds = each_true (passes_in (seen_above q)) q.conds (and_left conds order h3);
        order = each_true (passes_in (seen_above q)) q.order (and_right conds order h3);
      }

-- ---- columns that are seen

module _ (schema : Schema) where
  abbrev pub judged_order_by : Tests → Order → Judged ℕ
  judged_order_by tests = fold-Order (Judged ℕ) (Judged (List Entry)) (Judged ℕ) (Judged Column) (Judged (List Column)) (expr_judged schema tests) (tree_judged schema tests) (order_judged schema tests) (output_judged schema tests) (query_judged schema tests)

  abbrev pub judged_output_by : Tests → Output → Judged Column
  judged_output_by tests = fold-Output (Judged ℕ) (Judged (List Entry)) (Judged ℕ) (Judged Column) (Judged (List Column)) (expr_judged schema tests) (tree_judged schema tests) (order_judged schema tests) (output_judged schema tests) (query_judged schema tests)

  pub own_seen : (scope : Scope) (x : Expr) → (judged_expr schema knows_columns x).passes scope ≡ true → Each (λ c. sees_column scope c ≡ true) (own_columns x)
  own_seen scope = own_have (λ c. sees_column scope c ≡ true) (λ x. (judged_expr schema knows_columns x).passes scope ≡ true) at_level
    where
      at_level : (x : Expr-F Expr JoinTree Order Output Query) → (judged_expr schema knows_columns (roll-Expr x)).passes scope ≡ true → Each (λ c. sees_column scope c ≡ true) (node_column x) × Each (λ p. (judged_expr schema knows_columns p).passes scope ≡ true) (parts x)
      at_level x h =
          let level = map-Expr Expr JoinTree Order Output Query (Judged ℕ) (Judged (List Entry)) (Judged ℕ) (Judged Column) (Judged (List Column)) (judged_expr schema knows_columns) (judged_tree schema knows_columns) (judged_order_by knows_columns) (judged_output_by knows_columns) (judged_query schema knows_columns) x in
          let good = expr_passes schema knows_columns scope level (subst (λ (j : Judged ℕ). j.passes scope ≡ true) (fold-roll-Expr (Judged ℕ) (Judged (List Entry)) (Judged ℕ) (Judged Column) (Judged (List Column)) (expr_judged schema knows_columns) (tree_judged schema knows_columns) (order_judged schema knows_columns) (output_judged schema knows_columns) (query_judged schema knows_columns) x) h) in (
            subst (Each (λ c. sees_column scope c ≡ true)) (column_map (judged_expr schema knows_columns) (judged_tree schema knows_columns) (judged_order_by knows_columns) (judged_output_by knows_columns) (judged_query schema knows_columns) x) good.columns,
            each_mapped (λ (j : Judged ℕ). j.passes scope ≡ true) (judged_expr schema knows_columns) (parts x) (subst (Each (λ (j : Judged ℕ). j.passes scope ≡ true)) (parts_map (judged_expr schema knows_columns) (judged_tree schema knows_columns) (judged_order_by knows_columns) (judged_output_by knows_columns) (judged_query schema knows_columns) x) good.parts),
          )

sound_cell : (o : Option Column) (t : Ty) (v : Value) → has_type o t ≡ true → IsCellOfSome o v → Fits t (bound_of_column o) v
sound_cell (Some column) t v h c = record { typed = subst (λ u. HasType u v) (same column.type t h) c.typed; within = c.within }
sound_cell None t v h c = cc

-- a seen column whose cell fits is sound
pub sound : (scope : Scope) (env : Env) (cs : List ColumnRef) → Each (λ c. sees_column scope c ≡ true) cs → Each (IsCellAt scope env) cs → Each (IsSound scope env) cs
sound scope env = each_both (λ c. sees_column scope c ≡ true) (IsCellAt scope env) (IsSound scope env) (λ c. sound_cell (visible_column scope c.relation c.column) c.type (cell_in (env c.relation) c.column))
