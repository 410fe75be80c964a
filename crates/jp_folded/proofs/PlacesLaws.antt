-- What is asked of columns, placeholders and scopes at each place of a query holds when it is folded.
use Rattle.std.proofs.Common.{◌≡◌, sym, subst, refl, ℕ, zero, suc, true, List, [], ◌∷◌}
use Rattle.std.specs.Prelude.{slice_get}
use Rattle.jp_base.specs.declared.values.Ty.{Ty}
use Rattle.jp_base.specs.declared.values.Ty.TheVariants as ty
use Rattle.jp_base.specs.declared.values.Value.{Value}
use Rattle.jp_base.specs.declared.values.Value.TheVariants as value
use Rattle.jp_query.specs.declared.Expr.{Expr}
use Rattle.jp_query.specs.declared.JoinTree.{JoinTree}
use Rattle.jp_query.specs.declared.Order.{Order}
use Rattle.jp_query.specs.declared.Output.{Output}
use Rattle.jp_query.specs.declared.Query.{Query}
use Rattle.jp_query.specs.declared.Expr.TheOpen.{Expr-F}
use Rattle.jp_query.specs.declared.Expr.TheViews.{roll-Expr, roll-Order, roll-Output, roll-Query}
use Rattle.jp_query.specs.declared.Expr.TheFolds.{fold-roll-Expr}
use Rattle.jp_query.specs.Layers.{ExprLayer, QueryLayer}
use Rattle.jp_query.specs.Parts.{option_part, parts, sublink_query, trees, conditions, leaf_query, node_column, node_placeholder, ColumnRef}
use Rattle.jp_query.specs.Scopes.{Column, Schema, Scope, visible_columns}
use Rattle.jp_query.specs.Conditions.{Tests, has_type, knows_columns, knows_placeholders, tells_relations_apart}
use Rattle.jp_query.specs.Typing.{same_type}
use Rattle.jp_induction.specs.HandedDown.{HandsDown}
use Rattle.jp_induction.proofs.HandedDown as under
use Rattle.jp_laws.proofs.EachPart.{Each, each_both, each_weaker, each_map, parts_map, sublink_map}
use Rattle.jp_laws.proofs.OwnColumns.{column_map}
use Rattle.jp_folding.specs.Folding as fold
use Rattle.jp_folding.proofs.FineDown.{inside, above, expr_parts, tree_parts, order_part, output_part, query_parts}
use Rattle.jp_folding.proofs.TypeLaws.{folded_order, folded_output, expr_parts_folded}
use Rattle.jp_folded.proofs.LevelLaws as levels
use Rattle.jp_folded.proofs.ScopeLaws as scopes
use Rattle.jp_folded.proofs.JudgedMade as made
use Rattle.jp_folded.proofs.EntriesLaws as entries
use Rattle.jp_folded.proofs.TreesLaws as over

module _ (schema : Schema) where
  abbrev same : (c : Column) → entries.HasSameType schema c c
  same c = refl

  abbrev Stands : Scope → Scope → Type 0
  Stands s' s = scopes.Stands (entries.HasSameType schema) s' s

  -- a test holds in a scope that stands over one where it holds
  pub record IsKept (tests : Tests) : Type 0 where
    pub column : (s' s : Scope) (c : ColumnRef) → Stands s' s → tests.column s c ≡ true → tests.column s' c ≡ true
    pub placeholder : (s' s : Scope) (rels : ℕ) → Stands s' s → tests.placeholder s rels ≡ true → tests.placeholder s' rels ≡ true
    pub scope : (s' s : Scope) → Stands s' s → tests.scope s ≡ true → tests.scope s' ≡ true
    pub bound : (n : ℕ) → tests.bound n ≡ true

  module _ (tests : Tests) (keeps : IsKept tests) where
    abbrev apart : Tests
    apart = tells_relations_apart

    -- ---- what is handed down

    abbrev FineExpr : Scope → Expr → Type 0
    FineExpr s x = made.Passes schema tests s x × made.Passes schema apart s x

    abbrev FineTree : Scope → JoinTree → Type 0
    FineTree s x = made.PassesTree schema tests s x × made.PassesTree schema apart s x

    abbrev FineOrder : Scope → Order → Type 0
    FineOrder s x = made.PassesOrder schema tests s x × made.PassesOrder schema apart s x

    abbrev FineOutput : Scope → Output → Type 0
    FineOutput s x = made.PassesOutput schema tests s x × made.PassesOutput schema apart s x

    abbrev FineQuery : Scope → Query → Type 0
    FineQuery s x = made.PassesQuery schema tests s x × made.PassesQuery schema apart s x

    two : {X : Type 0} (A B : X → Type 0) (xs : List X) → Each A xs → Each B xs → Each (λ x. A x × B x) xs
    two A B = each_both A B (λ x. A x × B x) (λ x a b. (a, b))

    down : HandsDown Scope (inside schema) (above schema) FineExpr FineTree FineOrder FineOutput FineQuery
    down = record {
      expr = λ s x c.
          let p = expr_parts schema tests s x c.0 in
          let q = expr_parts schema apart s x c.1 in
          (two (made.Passes schema tests s) (made.Passes schema apart s) (parts x) p.0 q.0, two (made.PassesQuery schema tests s) (made.PassesQuery schema apart s) (option_part (sublink_query x)) p.1 q.1);
      tree = λ s x c.
          let p = tree_parts schema tests s x c.0 in
          let q = tree_parts schema apart s x c.1 in (
            two (made.PassesTree schema tests s) (made.PassesTree schema apart s) (trees x) p.sides q.sides,
            two (made.Passes schema tests (inside schema s x)) (made.Passes schema apart (inside schema s x)) (conditions x) p.conds q.conds,
            two (made.PassesQuery schema tests s) (made.PassesQuery schema apart s) (option_part (leaf_query x)) p.leaf q.leaf,
          );
      order = λ s x c. (order_part schema tests s x c.0, order_part schema apart s x c.1);
      output = λ s x c. (output_part schema tests s x c.0, output_part schema apart s x c.1);
      query = λ s x c.
          let p = query_parts schema tests s x c.0 in
          let q = query_parts schema apart s x c.1 in (
            two (made.PassesOutput schema tests (above schema s x)) (made.PassesOutput schema apart (above schema s x)) x.columns p.columns q.columns,
            (p.tree, q.tree),
            two (made.Passes schema tests (above schema s x)) (made.Passes schema apart (above schema s x)) x.conds p.conds q.conds,
            two (made.PassesOrder schema tests (above schema s x)) (made.PassesOrder schema apart (above schema s x)) x.order p.order q.order,
          );
    }

    -- ---- literals and conditions

    literal_passes : (s : Scope) (v : Value) (t : Ty) → made.Passes schema tests s (fold.literal v t)
    literal_passes s v t = made.expr_made schema tests s (Expr-F.Lit v t) (record { bound = keeps.bound _; columns = tt; places = tt }) tt tt

    closed : (s : Scope) → levels.IsClosed (made.Passes schema tests s)
    closed s = record {
      null = λ t. literal_passes s value.Null t;
      truth = λ b. literal_passes s (value.Bool b) ty.Boolean;
      and_parts = λ es h. (expr_parts schema tests s (Expr-F.And es) h).0;
      or_parts = λ es h. (expr_parts schema tests s (Expr-F.Or es) h).0;
      and_made = λ e es h. made.expr_made schema tests s (Expr-F.And (e ∷ es)) (record { bound = keeps.bound _; columns = tt; places = tt }) h tt;
      or_made = λ e es h. made.expr_made schema tests s (Expr-F.Or (e ∷ es)) (record { bound = keeps.bound _; columns = tt; places = tt }) h tt;
    }

    computed : (s : Scope) (x : ExprLayer) → levels.WhereComputed (made.Passes schema tests s) x
    computed s x none alone = literal_passes s _ _

    conditions_pass : (s : Scope) (es : List Expr) → Each (made.Passes schema tests s) es → Each (made.Passes schema tests s) (fold.conditions_folded es)
    conditions_pass s es h = levels.at_conditions (made.Passes schema tests s) (closed s) es (computed s (Expr-F.And es)) h

    -- ---- each level

    expr_step : (s : Scope) (x : ExprLayer) → FineExpr s (roll-Expr x) → Each (over.KeptExpr schema (entries.HasSameType schema) same tests s) (parts x) → Each (over.KeptQuery schema (entries.HasSameType schema) same tests s) (option_part (sublink_query x)) → over.KeptExpr schema (entries.HasSameType schema) same tests s (roll-Expr x)
    expr_step s x c ps qs s' h =
        let x' = expr_parts_folded x in
        let own = made.expr_own schema tests s x c.0 in
        let exprs = subst (Each (made.Passes schema tests s')) (sym (parts_map fold.folded_expr fold.folded_tree folded_order folded_output fold.folded x))
        (each_map (made.Passes schema tests s') fold.folded_expr (parts x) (over.in_scope_of schema (entries.HasSameType schema) same tests (λ o o' e. made.Passes schema tests o' (fold.folded_expr e)) s s' h (parts x) ps)) in
        let queries = subst (Each (made.PassesQuery schema tests s')) (sym (sublink_map fold.folded_expr fold.folded_tree folded_order folded_output fold.folded x))
        (each_map (made.PassesQuery schema tests s') fold.folded (option_part (sublink_query x)) (over.firsts_of schema (entries.HasSameType schema) same tests s s' h (option_part (sublink_query x)) qs)) in
        let columns = subst (Each (λ r. tests.column s' r ≡ true)) (sym (column_map fold.folded_expr fold.folded_tree folded_order folded_output fold.folded x)) (each_weaker (λ r. tests.column s r ≡ true) (λ r. tests.column s' r ≡ true) (λ r k. keeps.column s' s r h k) (node_column x) own.columns) in
        let places = subst (Each (λ r. tests.placeholder s' r ≡ true)) (sym (made.placeholder_map fold.folded_expr fold.folded_tree folded_order folded_output fold.folded x)) (each_weaker (λ r. tests.placeholder s r ≡ true) (λ r. tests.placeholder s' r ≡ true) (λ r k. keeps.placeholder s' s r h k) (node_placeholder x) own.places) in
        subst (made.Passes schema tests s') (sym (fold-roll-Expr Expr JoinTree Order Output Query fold.expr_folded fold.tree_folded roll-Order roll-Output fold.query_folded x))
        (levels.at_level (made.Passes schema tests s') (closed s') x' (computed s' x') exprs (made.expr_made schema tests s' x' (record { bound = keeps.bound _; columns = columns; places = places }) exprs queries))

    steps : under.StepsUnder Scope (inside schema) (above schema) FineExpr FineTree FineOrder FineOutput FineQuery down (over.KeptExpr schema (entries.HasSameType schema) same tests) (over.KeptTree schema (entries.HasSameType schema) same tests) (over.KeptOrder schema (entries.HasSameType schema) same tests) (over.KeptOutput schema (entries.HasSameType schema) same tests) (over.KeptQuery schema (entries.HasSameType schema) same tests)
    steps = record {
      expr = expr_step;
      tree = λ s t c ts cs qs. over.tree_step schema (entries.HasSameType schema) same tests conditions_pass keeps.scope s t c.0 c.1 ts cs qs;
      order = λ s o c k. over.order_step schema (entries.HasSameType schema) same tests conditions_pass keeps.scope s o k;
      output = λ s u c k s' h. (over.output_step schema (entries.HasSameType schema) same tests conditions_pass keeps.scope s' u (k s' h), entries.type_kept schema u s' s);
      query = λ s q c us t es os. over.query_step schema (entries.HasSameType schema) same tests conditions_pass keeps.scope s q c.0 c.1 us t es os;
    }

    pub query_kept : (s : Scope) (q : QueryLayer) → made.PassesQuery schema tests s (roll-Query q) → made.PassesQuery schema apart s (roll-Query q) → made.PassesQuery schema tests s (fold.folded (roll-Query q))
    query_kept s q h told = (under.under_query Scope (inside schema) (above schema) FineExpr FineTree FineOrder FineOutput FineQuery down (over.KeptExpr schema (entries.HasSameType schema) same tests) (over.KeptTree schema (entries.HasSameType schema) same tests) (over.KeptOrder schema (entries.HasSameType schema) same tests) (over.KeptOutput schema (entries.HasSameType schema) same tests) (over.KeptQuery schema (entries.HasSameType schema) same tests) steps (roll-Query q) s (h, told) s
        (over.itself schema (entries.HasSameType schema) same tests s q told)).0

  -- ---- the tests

  column_there : (cs ds : List Column) (k : ℕ) (t : Ty) → scopes.AreAlike (entries.HasSameType schema) cs ds → has_type (slice_get ds k) t ≡ true → has_type (slice_get cs k) t ≡ true
  column_there [] [] k t h g = g
  column_there [] (d ∷ ds) k t h g = absurd h
  column_there (c ∷ cs) [] k t h g = absurd h
  column_there (c ∷ cs) (d ∷ ds) zero t h g = subst (λ u. same_type u t ≡ true) (sym h.0) g
  column_there (c ∷ cs) (d ∷ ds) (suc k) t h g = column_there cs ds k t h.1 g

  pub columns_kept : IsKept knows_columns
  columns_kept = record {
    column = λ s' s c h k. column_there (visible_columns s' c.relation) (visible_columns s c.relation) c.column c.type (scopes.columns_alike (entries.HasSameType schema) s' s h c.relation) k;
    placeholder = λ s' s rels h k. refl;
    scope = λ s' s h k. refl;
    bound = λ n. refl;
  }

  pub placeholders_kept : IsKept knows_placeholders
  placeholders_kept = record {
    column = λ s' s c h k. refl;
    placeholder = λ s' s rels h k. scopes.relations_kept (entries.HasSameType schema) s' s h rels k;
    scope = λ s' s h k. refl;
    bound = λ n. refl;
  }

  pub apart_kept : IsKept tells_relations_apart
  apart_kept = record {
    column = λ s' s c h k. refl;
    placeholder = λ s' s rels h k. refl;
    scope = λ s' s h k. scopes.distinct_kept (entries.HasSameType schema) s' s h;
    bound = λ n. refl;
  }
