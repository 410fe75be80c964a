-- The query that a statement stands for is typed and bounded.
use Rattle.std.proofs.Common.{◌≡◌, ◌∙◌, ap, sym, subst, ℕ, true, List, [], ◌∷◌, ◌++◌, map, Ok}
use Rattle.jp_catalog.specs.declared.types.Catalog.{Catalog}
use Rattle.jp_ast.specs.declared.tree.Stmt.{Stmt}
use Rattle.jp_statements.specs.Whole.{is_whole}
use Rattle.jp_query.specs.declared.Expr.{Expr}
use Rattle.jp_query.specs.declared.Order.{Order}
use Rattle.jp_query.specs.declared.Query.{Query}
use Rattle.jp_query.specs.Conditions.{Leaf, Leaves, beside, together, knows_columns, knows_placeholders, tells_relations_apart, keeps_bounds, judged_leaves, IsTyped, IsBounded}
use Rattle.jp_query.specs.Parts.{nothing_of_node, base_number, base_table, base_leaves_in, tables_in}
use Rattle.jp_query.specs.Scopes.{Scope, Schema}
use Rattle.jp_induction.proofs.EachPart.{Each, all_of_each}
use Rattle.jp_facts.proofs.Members.{In, in_append_left, in_append_right}
use Rattle.jp_resolution.specs.declared.words.Counts.{Counts}
use Rattle.jp_resolution.specs.declared.words.Selection.{Selection}
use Rattle.jp_resolution.specs.Counting.{none}
use Rattle.jp_resolution.specs.Resolving.{query_of, resolved}
use Rattle.jp_resolution.specs.Schemas.{schema_of}
use Rattle.jp_resolved.specs.Sorted.{expr_of_output, expr_of_order}
use Rattle.jp_resolved.proofs.Spans.{Along}
use Rattle.jp_resolved.proofs.Made.{exprs_have, trees_have}
use Rattle.jp_resolved.proofs.Seen.{seen_all}
use Rattle.jp_resolved.proofs.Rising.{rising_append}
use Rattle.jp_resolved.proofs.Selections.{level_of}
use Rattle.jp_resolved.proofs.Tops.{IsTop, top}
use Rattle.jp_resolved.proofs.Members.{each_in, each_from}
use Rattle.jp_resolved.proofs.Wholes.{orders_have}
use Rattle.jp_resolved.proofs.Leaving.{leaf_number, IsInside, of_expr, of_tree, of_output, ExprApart, TreeApart, SelectApart, leaving, body_apart, exprs_apart, outputs_are, orders_are, query_is, in_together, IsKnown, IsRepeated, with_orders}
use Rattle.jp_resolved.proofs.TypedTops.{low_between, IsLow, few_numbers, Numbers, base_sources, IsTable, Tables, table_sources, judged, gathers, rooted, expressions, takes_columns, takes_placeholders, takes_scopes, takes_bounds}

-- what each expression has by itself
abbrev IsAlone : Expr → Type 0
IsAlone e = ((of_expr e).apart ≡ true) × Each IsInside (of_expr e).leaves

alone_along : (scope : Scope) (a b : Counts) (es : List Expr) → Along (ExprApart scope) a b es → Each IsAlone es
alone_along scope a b [] along = tt
alone_along scope a b (e ∷ es) along = ((along.1.0.apart, along.1.1), alone_along scope along.0 b es along.2)

-- and among the leaves of a list that has theirs
repeated_in : (all : List Leaf) (es : List Expr) → ((x : Leaf) → In x (together (map of_expr es)).leaves → In x all) → Each IsAlone es → Each (IsRepeated all) es
repeated_in all es within each =
    each_from (IsRepeated all) es (λ e h.
    let alone = each_in IsAlone e es each h in
    (alone.0, each_from (IsKnown all) (of_expr e).leaves (λ x r. (within x (in_together e es x h r), each_in IsInside x (of_expr e).leaves alone.1 r))))

module _ (catalog : Catalog) (s : Selection) (items : List Order) (t : IsTop catalog s items) where
  abbrev schema : Schema
  schema = schema_of catalog

  abbrev scope : Scope
  scope = seen_all s.entries ++ []

  apart : (judged_leaves (query_of s items)).apart ≡ true
  apart =
      let sel = t.selection in
      let steps = leaving schema in
      let outs = map expr_of_output s.outputs in
      let first = exprs_have schema ExprApart TreeApart SelectApart steps scope none sel.middle outs sel.made_outputs in
      let second = trees_have schema ExprApart TreeApart SelectApart steps [] sel.middle sel.end (seen_all s.entries) sel.members sel.made_trees in
      let third = exprs_have schema ExprApart TreeApart SelectApart steps scope sel.end t.middle s.conds sel.made_conds in
      let fourth = exprs_have schema ExprApart TreeApart SelectApart steps scope t.middle t.end t.fresh t.made in
      let us = together (map of_output s.outputs) in
      let cs = together (map of_expr s.conds) in
      let body = beside (beside us (of_tree s.tree)) cs in
      let fs = together (map of_expr t.fresh) in
      let body_is = body_apart [] (seen_all s.entries) none sel.middle sel.end t.middle (level_of s items) sel.members sel.tree_is first second third in
      let fresh_is = exprs_apart scope t.middle t.end t.fresh fourth in
      let all = body.leaves ++ fs.leaves in
      let rising = rising_append leaf_number 0 t.middle.entries t.end.entries body.leaves fs.leaves body_is.rising fresh_is.rising in
      let us_in : (x : Leaf) → In x (together (map of_expr outs)).leaves → In x all = λ x h.
      in_append_left x body.leaves fs.leaves (in_append_left x (us.leaves ++ (of_tree s.tree).leaves) cs.leaves (in_append_left x us.leaves (of_tree s.tree).leaves (subst (λ ls. In x (together ls).leaves) (sym (outputs_are s.outputs)) h))) in
      let repeated = orders_have catalog (IsRepeated all) s.distinct s.outputs t.fresh items
      (repeated_in all outs us_in (alone_along scope none sel.middle outs first))
      (repeated_in all t.fresh (λ x h. in_append_right x body.leaves fs.leaves h) (alone_along scope t.middle t.end t.fresh fourth))
      t.listed in
      ap (λ (l : Leaves). l.apart) (query_is (level_of s items))
      ∙ ap (λ os. (beside body (together os)).apart) (orders_are items)
      ∙ with_orders t.end.entries all body (map expr_of_order items) rising body_is.apart (each_from (λ x. In x all) body.leaves (λ x h. in_append_left x body.leaves fs.leaves h)) repeated

  top_typed : IsTyped schema [] (query_of s items)
  top_typed = record {
    expressions = expressions catalog s items t;
    columns = judged catalog s items t knows_columns takes_columns;
    placeholders = judged catalog s items t knows_placeholders takes_placeholders;
    distinct = judged catalog s items t tells_relations_apart takes_scopes;
    apart = apart;
    tables = all_of_each (IsTable schema) (tables_in (query_of s items)) (gathers catalog s items t ℕ nothing_of_node base_table (Tables schema) (table_sources schema) (IsTable schema) (λ a b xs low h. h));
    rooted = rooted catalog s items t;
    few = few_numbers (base_leaves_in (query_of s items)) (gathers catalog s items t ℕ nothing_of_node base_number Numbers (base_sources schema) IsLow low_between);
  }

  top_bounded : IsBounded schema [] (query_of s items)
  top_bounded = judged catalog s items t keeps_bounds takes_bounds

pub query_typed : (catalog : Catalog) (stmt : Stmt) (q : Query) → is_whole stmt ≡ true → resolved catalog stmt ≡ Ok q → IsTyped (schema_of catalog) [] q
query_typed catalog stmt q whole h = let t = top catalog stmt q whole h in subst (IsTyped (schema_of catalog) []) (sym t.2) (top_typed catalog t.0 t.1 t.3)

pub query_bounded : (catalog : Catalog) (stmt : Stmt) (q : Query) → is_whole stmt ≡ true → resolved catalog stmt ≡ Ok q → IsBounded (schema_of catalog) [] q
query_bounded catalog stmt q whole h = let t = top catalog stmt q whole h in subst (IsBounded (schema_of catalog) []) (sym t.2) (top_bounded catalog t.0 t.1 t.3)
