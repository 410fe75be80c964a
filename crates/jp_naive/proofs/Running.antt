-- Where a tree, a query or an expression can be computed, what stands in it can be computed at the tuples that it meets.
use Rattle.std.proofs.Common.{◌≡◌, ◌∙◌, ap, sym, subst, refl, ℕ, true, List, [], ◌∷◌, ◌++◌, length, map}
use Rattle.std.specs.Prelude.{All}
use Rattle.std.specs.Int.{bit_at}
use Rattle.std.proofs.lemmas.Bool.{eqb-true}
use Rattle.std.proofs.lemmas.List.{append-nil}
use Rattle.jp_base.specs.Sets.{Has}
use Rattle.jp_query.specs.declared.Expr.{Expr}
use Rattle.jp_query.specs.declared.JoinTree.{JoinTree}
use Rattle.jp_query.specs.declared.JoinTree.TheVariants as tree
use Rattle.jp_query.specs.declared.JoinKind.{JoinKind}
use Rattle.jp_query.specs.declared.Query.{Query, out-Query}
use Rattle.jp_query.specs.declared.Order.{Order}
use Rattle.jp_query.specs.declared.Output.{Output}
use Rattle.jp_query.specs.declared.Expr.TheOpen.{JoinTree-F}
use Rattle.jp_query.specs.declared.Expr.TheViews.{roll-JoinTree}
use Rattle.jp_query.specs.Meaning.{Row, Env, has, combined, tuples_of}
use Rattle.jp_query.specs.Scopes.{Schema, Entry, Scope, in_scope, entries_of}
use Rattle.jp_query.specs.Tables.{TableRows, Belong, rows_of_tables}
use Rattle.jp_query.specs.Typing.{tree_is_typed}
use Rattle.jp_query.specs.Conditions.{Tests, relation_of, are_distinct, all_entries, judged_tree, knows_columns, tells_relations_apart}
use Rattle.jp_query.specs.Fitting.{IsCellAt}
use Rattle.jp_laws.proofs.EachPart.{Each, all_of_each, each_both, each_of, each_mapped, each_weaker}
use Rattle.jp_laws.proofs.JudgedValues.{entries_judged}
use Rattle.jp_laws.proofs.RowsFit.{tree_fits}
use Rattle.jp_laws.proofs.TuplesFit.{Fit, AreRels, Disjoint, apart_from, distinct_start, both_fit, swapped, joined_entries, Members, none, more, members_fit, nothing_fits}
use Rattle.jp_naive.specs.Frames.{env_over, envs_over, rels_of}
use Rattle.jp_naive.specs.Joining.{Numbers}
use Rattle.jp_naive.specs.Lines.{output_expr, order_expr}
use Rattle.jp_naive.specs.Running.{AreApart, CanRunAll, CanRunExpr, CanRunPairs, CanRunTree, CanRunQuery, Fits}
use Rattle.jp_naive.specs.declared.frames.Leaf.{Leaf}
use Rattle.jp_naive.proofs.FrameFacts.{own_over}
use Rattle.jp_naive.proofs.Passing.{KnownTree, conditions_can, conds_can, columns_can, every, fits_inside, leaf_can, order_can, passed_tree, same_in, seen_in, tree_can, tree_known, trees_can, trees_known, typed_tree, typed_trees}

module _ (tables : TableRows) where
  abbrev rows : ℕ → List Row
  rows = rows_of_tables tables

  module _ (schema : Schema) (belong : Belong schema tables) (scope : Scope) (env : Env) (fits : Fits scope env) where
    tuples_fit : (t : JoinTree) → tree_is_typed t ≡ true → KnownTree tables schema belong knows_columns scope t → KnownTree tables schema belong tells_relations_apart scope t → Each (Fit (entries_of schema t scope) env) ((tuples_of rows t).tuples env)
    tuples_fit t typed knows apart = (tree_fits schema tables belong t).1 scope env typed knows apart (every (IsCellAt scope env) fits _)

    are_rels : (t : JoinTree) → AreRels (tuples_of rows t).rels (entries_of schema t scope)
    are_rels t = (tree_fits schema tables belong t).0 scope

    abbrev lists_of : List JoinTree → List (List Entry)
    lists_of ts = map (in_scope scope) (map (entries_of schema) ts)

    all_seen : (tests : Tests) (ts : List JoinTree) → all_entries (map (judged_tree schema tests) ts) scope ≡ joined_entries (lists_of ts)
    all_seen tests [] = refl
    all_seen tests (t ∷ ts) = λ i. entries_judged schema tests t i scope ++ all_seen tests ts i

    members_of : (ts : List JoinTree) → Each (λ t. tree_is_typed t ≡ true) ts → Each (KnownTree tables schema belong knows_columns scope) ts → Each (KnownTree tables schema belong tells_relations_apart scope) ts → Members env (map (tuples_of rows) ts) (lists_of ts)
    members_of [] a b c = none
    members_of (t ∷ ts) a b c = more (are_rels t) (tuples_fit t a.0 b.0 c.0) (members_of ts a.1 b.1 c.1)

  -- ---- queries

  pub query_tree : (q : Query) (env : Env) → CanRunQuery tables q env → CanRunTree tables (out-Query q).tree env
  query_tree q env h = tree_can tables h.schema h.belong q h.scope h.is_typed h.columns h.distinct h.bounded (same_in _ h.same) env h.fits

  pub record LineRuns (q : Query) (tuple : Env) : Type 0 where
    pub conds : CanRunAll tables (out-Query q).conds tuple
    pub columns : All (λ output. CanRunExpr tables (output_expr output) tuple) (out-Query q).columns
    pub order : All (λ order. CanRunExpr tables (order_expr order) tuple) (out-Query q).order

  pub lines_run : (q : Query) (env : Env) → CanRunQuery tables q env → Each (LineRuns q) ((tuples_of rows (out-Query q).tree).tuples env)
  lines_run q env h =
      let t = (out-Query q).tree in
      let entries = entries_of h.schema t h.scope in
      let same = same_in _ h.same in
      let fit = tuples_fit h.schema h.belong h.scope env h.fits t
      (typed_tree tables h.schema h.belong q h.scope h.is_typed h.columns h.distinct h.bounded same)
      (passed_tree tables h.schema h.belong q h.scope h.is_typed h.columns h.distinct h.bounded same knows_columns h.columns)
      (passed_tree tables h.schema h.belong q h.scope h.is_typed h.columns h.distinct h.bounded same tells_relations_apart h.distinct) in
      each_weaker (Fit entries env) (LineRuns q) (λ tuple f.
      let inside = fits_inside entries h.scope env tuple f h.fits in
      record {
        conds = all_of_each _ _ (conds_can tables h.schema h.belong q h.scope h.is_typed h.columns h.distinct h.bounded same tuple inside);
        columns = all_of_each _ _ (each_mapped (λ e. CanRunExpr tables e tuple) output_expr (out-Query q).columns (columns_can tables h.schema h.belong q h.scope h.is_typed h.columns h.distinct h.bounded same tuple inside));
        order = all_of_each _ _ (each_mapped (λ e. CanRunExpr tables e tuple) order_expr (out-Query q).order (order_can tables h.schema h.belong q h.scope h.is_typed h.columns h.distinct h.bounded same tuple inside));
      }) ((tuples_of rows t).tuples env) fit

  -- ---- trees

  pub sub_runs : (rel : ℕ) (name : List ℕ) (q : Query) (env : Env) → CanRunTree tables (tree.Sub rel name q) env → CanRunQuery tables q env
  sub_runs rel name q env h =
      let c = subst (λ t. CanRunTree tables t env) (sym (tree.rolls-Sub rel name q)) h in
      (leaf_can tables c.schema c.belong (JoinTree-F.Sub rel name q) c.scope c.is_typed c.columns c.distinct c.bounded (same_in _ c.same) env c.fits).0

  -- tuples as they are found: whole, with the relations of a tree, and meaning its tuples
  pub record Found (leaves : List Leaf) (list : List Numbers) (t : JoinTree) (env : Env) : Type 0 where
    pub whole : All (λ numbers. length numbers ≡ length leaves) list
    pub rels : rels_of leaves ≡ (tuples_of rows t).rels
    pub tuples : envs_over tables leaves env list ≡ (tuples_of rows t).tuples env

  has_is : (set n : ℕ) → has set n ≡ true → Has set n
  has_is set n h = eqb-true (bit_at set n) 1 h

  module _ (kind : JoinKind) (left right : JoinTree) (on : List Expr) (env : Env) where
    abbrev layer : JoinTree-F Expr JoinTree Order Output Query
    layer = JoinTree-F.Join kind left right on

    rolled : CanRunTree tables (tree.Join kind left right on) env → CanRunTree tables (roll-JoinTree layer) env
    rolled h = subst (λ t. CanRunTree tables t env) (sym (tree.rolls-Join kind left right on)) h

    both_run : CanRunTree tables (roll-JoinTree layer) env → CanRunTree tables left env × CanRunTree tables right env
    both_run c =
        let sides = trees_can tables c.schema c.belong layer c.scope c.is_typed c.columns c.distinct c.bounded (same_in _ c.same) env c.fits in
        (sides.0, sides.1.0)

    pub sides_run : CanRunTree tables (tree.Join kind left right on) env → CanRunTree tables left env × CanRunTree tables right env
    sides_run h = both_run (rolled h)

    module _ (c : CanRunTree tables (roll-JoinTree layer) env) where
      abbrev l : List Entry
      l = entries_of c.schema left c.scope

      abbrev r : List Entry
      r = entries_of c.schema right c.scope

      seen_both : (tests : Tests) → seen_in tables c.schema c.belong layer c.scope c.is_typed c.columns c.distinct c.bounded (same_in _ c.same) tests ≡ (l ++ r) ++ c.scope
      seen_both tests = ap (λ es. es ++ c.scope) (all_seen c.schema c.belong c.scope env c.fits tests (left ∷ right ∷ []) ∙ ap (λ es. l ++ es) (append-nil r))

      apart : Disjoint l r
      apart = apart_from l r (distinct_start (l ++ r) c.scope (subst (λ es. are_distinct (map relation_of es) ≡ true) (seen_both tells_relations_apart) (tree_known tables c.schema c.belong tells_relations_apart c.scope layer c.distinct).place))

      on_runs : (tuple : Env) → Fit (l ++ r) env tuple → CanRunAll tables on tuple
      on_runs tuple fit = all_of_each _ _ (conditions_can tables c.schema c.belong layer c.scope c.is_typed c.columns c.distinct c.bounded (same_in _ c.same) ((l ++ r) ++ c.scope) seen_both tuple (fits_inside (l ++ r) c.scope env tuple fit c.fits))

      module _ (ll : List Leaf) (lefts : List Numbers) (rl : List Leaf) (rights : List Numbers) (found_left : Found ll lefts left env) (found_right : Found rl rights right env) where
        typed_sides : Each (λ t. tree_is_typed t ≡ true) (left ∷ right ∷ [])
        typed_sides = typed_trees tables c.schema c.belong layer c.scope c.is_typed c.columns c.distinct c.bounded (same_in _ c.same)

        known_sides : (tests : Tests) → KnownTree tables c.schema c.belong tests c.scope (roll-JoinTree layer) → Each (KnownTree tables c.schema c.belong tests c.scope) (left ∷ right ∷ [])
        known_sides tests h = trees_known tables c.schema c.belong layer c.scope c.is_typed c.columns c.distinct c.bounded (same_in _ c.same) tests h

        left_fits : Each (λ ns. Fit l env (env_over tables ll ns env)) lefts
        left_fits = each_mapped (Fit l env) (λ ns. env_over tables ll ns env) lefts (subst (Each (Fit l env)) (sym found_left.tuples) (tuples_fit c.schema c.belong c.scope env c.fits left typed_sides.0 (known_sides knows_columns c.columns).0 (known_sides tells_relations_apart c.distinct).0))

        right_fits : Each (λ ns. Fit r env (env_over tables rl ns env)) rights
        right_fits = each_mapped (Fit r env) (λ ns. env_over tables rl ns env) rights (subst (Each (Fit r env)) (sym found_right.tuples) (tuples_fit c.schema c.belong c.scope env c.fits right typed_sides.1.0 (known_sides knows_columns c.columns).1.0 (known_sides tells_relations_apart c.distinct).1.0))

        left_are : AreRels (rels_of ll) l
        left_are = subst (λ n. AreRels n l) (sym found_left.rels) (are_rels c.schema c.belong c.scope env c.fits left)

        right_are : AreRels (rels_of rl) r
        right_are = subst (λ n. AreRels n r) (sym found_right.rels) (are_rels c.schema c.belong c.scope env c.fits right)

        apart_rels : AreApart (rels_of ll) (rels_of rl)
        apart_rels n p q = apart n ((left_are n).0 (has_is (rels_of ll) n p)) ((right_are n).0 (has_is (rels_of rl) n q))

        pair_runs : (lns rns : Numbers) → length rns ≡ length rl → Fit l env (env_over tables ll lns env) → Fit r env (env_over tables rl rns env) → CanRunAll tables on (env_over tables rl rns (env_over tables ll lns env))
        pair_runs lns rns size f g = on_runs (env_over tables rl rns (env_over tables ll lns env)) (subst (Fit (l ++ r) env) (sym (own_over tables rl rns (env_over tables ll lns env) env size))
            (both_fit l r (rels_of rl) right_are apart env (env_over tables ll lns env) (env_over tables rl rns env) f g))

        turned_runs : (lns rns : Numbers) → length lns ≡ length ll → Fit l env (env_over tables ll lns env) → Fit r env (env_over tables rl rns env) → CanRunAll tables on (env_over tables ll lns (env_over tables rl rns env))
        turned_runs lns rns size f g = on_runs (env_over tables ll lns (env_over tables rl rns env)) (subst (Fit (l ++ r) env) (sym (own_over tables ll lns (env_over tables rl rns env) env size))
            (swapped r l env _ (both_fit r l (rels_of ll) left_are (λ n p q. apart n q p) env (env_over tables rl rns env) (env_over tables ll lns env) g f)))

        pairs_run : CanRunPairs tables on ll lefts rl rights env
        pairs_run = all_of_each _ lefts (each_weaker (λ ns. Fit l env (env_over tables ll ns env)) _ (λ lns f.
            all_of_each _ rights (each_both (λ ns. length ns ≡ length rl) (λ ns. Fit r env (env_over tables rl ns env)) _ (λ rns size g. pair_runs lns rns size f g) rights (each_of (λ ns. length ns ≡ length rl) rights found_right.whole) right_fits)) lefts left_fits)

        pairs_turned : CanRunPairs tables on rl rights ll lefts env
        pairs_turned = all_of_each _ rights (each_weaker (λ ns. Fit r env (env_over tables rl ns env)) _ (λ rns g.
            all_of_each _ lefts (each_both (λ ns. length ns ≡ length ll) (λ ns. Fit l env (env_over tables ll ns env)) _ (λ lns size f. turned_runs lns rns size f g) lefts (each_of (λ ns. length ns ≡ length ll) lefts found_left.whole) left_fits)) rights right_fits)

    pub join_runs : (ll : List Leaf) (lefts : List Numbers) (rl : List Leaf) (rights : List Numbers) → Found ll lefts left env → Found rl rights right env → CanRunTree tables (tree.Join kind left right on) env → CanRunPairs tables on ll lefts rl rights env
    join_runs ll lefts rl rights f g h = pairs_run (rolled h) ll lefts rl rights f g

    pub join_turned : (ll : List Leaf) (lefts : List Numbers) (rl : List Leaf) (rights : List Numbers) → Found ll lefts left env → Found rl rights right env → CanRunTree tables (tree.Join kind left right on) env → CanRunPairs tables on rl rights ll lefts env
    join_turned ll lefts rl rights f g h = pairs_turned (rolled h) ll lefts rl rights f g

    pub join_apart : (ll : List Leaf) (lefts : List Numbers) (rl : List Leaf) (rights : List Numbers) → Found ll lefts left env → Found rl rights right env → CanRunTree tables (tree.Join kind left right on) env → AreApart (rels_of ll) (rels_of rl)
    join_apart ll lefts rl rights f g h = apart_rels (rolled h) ll lefts rl rights f g

  module _ (members : List JoinTree) (conds : List Expr) (env : Env) where
    abbrev from_layer : JoinTree-F Expr JoinTree Order Output Query
    from_layer = JoinTree-F.From members conds

    from_rolled : CanRunTree tables (tree.From members conds) env → CanRunTree tables (roll-JoinTree from_layer) env
    from_rolled h = subst (λ t. CanRunTree tables t env) (sym (tree.rolls-From members conds)) h

    members_can : CanRunTree tables (roll-JoinTree from_layer) env → All (λ t. CanRunTree tables t env) members
    members_can c = all_of_each _ members (trees_can tables c.schema c.belong from_layer c.scope c.is_typed c.columns c.distinct c.bounded (same_in _ c.same) env c.fits)

    pub members_run : CanRunTree tables (tree.From members conds) env → All (λ t. CanRunTree tables t env) members
    members_run h = members_can (from_rolled h)

    module _ (c : CanRunTree tables (roll-JoinTree from_layer) env) where
      abbrev es : List Entry
      es = joined_entries (lists_of c.schema c.belong c.scope env c.fits members)

      seen_all : (tests : Tests) → seen_in tables c.schema c.belong from_layer c.scope c.is_typed c.columns c.distinct c.bounded (same_in _ c.same) tests ≡ es ++ c.scope
      seen_all tests = ap (λ xs. xs ++ c.scope) (all_seen c.schema c.belong c.scope env c.fits tests members)

      apart_all : are_distinct (map relation_of es) ≡ true
      apart_all = distinct_start es c.scope (subst (λ xs. are_distinct (map relation_of xs) ≡ true) (seen_all tells_relations_apart) (tree_known tables c.schema c.belong tells_relations_apart c.scope from_layer c.distinct).place)

      all_fit : Each (Fit es env) (combined (map (tuples_of rows) members) env)
      all_fit = members_fit (members_of c.schema c.belong c.scope env c.fits members
          (typed_trees tables c.schema c.belong from_layer c.scope c.is_typed c.columns c.distinct c.bounded (same_in _ c.same))
          (trees_known tables c.schema c.belong from_layer c.scope c.is_typed c.columns c.distinct c.bounded (same_in _ c.same) knows_columns c.columns)
          (trees_known tables c.schema c.belong from_layer c.scope c.is_typed c.columns c.distinct c.bounded (same_in _ c.same) tells_relations_apart c.distinct))
          [] apart_all (env ∷ []) (nothing_fits env, tt)

      conds_run : Each (CanRunAll tables conds) (combined (map (tuples_of rows) members) env)
      conds_run = each_weaker (Fit es env) (CanRunAll tables conds) (λ tuple fit. all_of_each _ conds (conditions_can tables c.schema c.belong from_layer c.scope c.is_typed c.columns c.distinct c.bounded (same_in _ c.same) (es ++ c.scope) seen_all tuple (fits_inside es c.scope env tuple fit c.fits)))
          (combined (map (tuples_of rows) members) env) all_fit

    pub from_runs : CanRunTree tables (tree.From members conds) env → Each (CanRunAll tables conds) (combined (map (tuples_of rows) members) env)
    from_runs h = conds_run (from_rolled h)
