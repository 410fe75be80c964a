-- A folded tree or query passes a judgement where its parts do, in a scope that stands over its place.
use Rattle.std.proofs.Common.{◌≡◌, sym, subst, true, List, [], ◌∷◌, ◌++◌, map}
use Rattle.jp_query.specs.declared.JoinKind.TheVariants as join
use Rattle.jp_query.specs.declared.Expr.{Expr}
use Rattle.jp_query.specs.declared.JoinTree.{JoinTree}
use Rattle.jp_query.specs.declared.Order.{Order}
use Rattle.jp_query.specs.declared.Output.{Output}
use Rattle.jp_query.specs.declared.Query.{Query}
use Rattle.jp_query.specs.declared.Expr.TheOpen.{JoinTree-F}
use Rattle.jp_query.specs.declared.Expr.TheViews.{roll-JoinTree, roll-Order, roll-Output, roll-Query}
use Rattle.jp_query.specs.declared.Expr.TheFolds.{fold-roll-Order}
use Rattle.jp_query.specs.Layers.{JoinTreeLayer, OrderLayer, OutputLayer, QueryLayer}
use Rattle.jp_query.specs.Parts.{option_part, trees, conditions, leaf_query}
use Rattle.jp_query.specs.Scopes.{Column, Schema, Entry, Scope, entries_of}
use Rattle.jp_query.specs.Conditions.{Tests, relation_of, tells_relations_apart}
use Rattle.jp_facts.proofs.Members.{Distinct}
use Rattle.jp_laws.proofs.EachPart.{Each, each_weaker, each_map}
use Rattle.jp_folding.specs.Folding as fold
use Rattle.jp_folding.proofs.FineDown.{entries_in, entries_beside, inside, above, tree_parts}
use Rattle.jp_folding.proofs.TypeLaws.{folded_order, folded_output, tree_parts_folded}
use Rattle.jp_folded.proofs.ScopeLaws as scopes
use Rattle.jp_folded.proofs.JudgedMade as made
use Rattle.jp_folded.proofs.EntriesLaws as entries

-- a relation of columns, and a judgement that keeps to scopes whose columns stand in it
module _ (schema : Schema) (R : Column → Column → Type 0) (same : (c : Column) → R c c) (tests : Tests) where
  abbrev pub Stands : Scope → Scope → Type 0
  Stands s' s = scopes.Stands R s' s

  abbrev pub Told : Scope → JoinTree → Type 0
  Told s t = made.PassesTree schema tells_relations_apart s t

  -- ---- what is shown, in each scope that stands over the place

  abbrev pub KeptExpr : Scope → Expr → Type 0
  KeptExpr s x = (s' : Scope) → Stands s' s → made.Passes schema tests s' (fold.folded_expr x)

  abbrev pub KeptTree : Scope → JoinTree → Type 0
  KeptTree s x = (s' : Scope) → Stands s' s → made.PassesTree schema tests s' (fold.folded_tree x) × entries.TreeBelow schema R same s' s x

  abbrev pub KeptOrder : Scope → Order → Type 0
  KeptOrder s x = (s' : Scope) → Stands s' s → made.PassesOrder schema tests s' (folded_order x)

  abbrev pub KeptOutput : Scope → Output → Type 0
  KeptOutput s x = (s' : Scope) → Stands s' s → made.PassesOutput schema tests s' (folded_output x) × R (entries.column_of schema (folded_output x) s') (entries.column_of schema x s)

  abbrev pub KeptQuery : Scope → Query → Type 0
  KeptQuery s x = (s' : Scope) → Stands s' s → made.PassesQuery schema tests s' (fold.folded x) × entries.QueryAlike schema R same s' s x

  pub in_scope_of : {X : Type 0} (P : Scope → Scope → X → Type 0) (s s' : Scope) → Stands s' s → (xs : List X) → Each (λ x. (o : Scope) → Stands o s → P s o x) xs → Each (P s s') xs
  in_scope_of P s s' h = each_weaker (λ x. (o : Scope) → Stands o s → P s o x) (P s s') (λ x k. k s' h)

  firsts : {X : Type 0} (A B : X → Type 0) (xs : List X) → Each (λ x. A x × B x) xs → Each A xs
  firsts A B = each_weaker (λ x. A x × B x) A (λ x p. p.0)

  seconds : {X : Type 0} (A B : X → Type 0) (xs : List X) → Each (λ x. A x × B x) xs → Each B xs
  seconds A B = each_weaker (λ x. A x × B x) B (λ x p. p.1)

  pub firsts_of : (s s' : Scope) → Stands s' s → (qs : List Query) → Each (KeptQuery s) qs → Each (λ q. made.PassesQuery schema tests s' (fold.folded q)) qs
  firsts_of s s' h = each_weaker (KeptQuery s) (λ q. made.PassesQuery schema tests s' (fold.folded q)) (λ q k. (k s' h).0)

  -- what folding makes of a list of conditions passes, and what is asked of a scope is kept
  module _ (conditions_pass : (s : Scope) (es : List Expr) → Each (made.Passes schema tests s) es → Each (made.Passes schema tests s) (fold.conditions_folded es)) (scope_kept : (s' s : Scope) → Stands s' s → tests.scope s ≡ true → tests.scope s' ≡ true) where
    -- what is visible in a folded tree, with its sides in the order in which they were or exchanged
    stands_inside : (s s' : Scope) (t : JoinTreeLayer) (es : List Entry) → Told s (roll-JoinTree t) → Stands s' s → scopes.Below R es (entries_beside schema s (trees t)) → Stands (es ++ s') (inside schema s t)
    stands_inside s s' t es told h below = record {
      below = scopes.below_append R es (entries_beside schema s (trees t)) s' s below h.below;
      distinct = scopes.to_distinct (map relation_of (inside schema s t)) (tree_parts schema tells_relations_apart s t told).place;
    }

    -- a tree that folding makes of a level passes
    tree_passes : (s s' : Scope) (t y : JoinTreeLayer) → made.PassesTree schema tests s (roll-JoinTree t) → Told s (roll-JoinTree t) → Stands s' s → scopes.Below R (entries_beside schema s' (trees y)) (entries_beside schema s (trees t))
        → Each (made.Passes schema tests (inside schema s' y)) (conditions y) → Each (made.PassesTree schema tests s') (trees y) → Each (made.PassesQuery schema tests s') (option_part (leaf_query y)) → made.PassesTree schema tests s' (roll-JoinTree y)
    tree_passes s s' t y c told h below conds sides leaf = made.tree_made schema tests s' y
        (scope_kept (inside schema s' y) (inside schema s t) (stands_inside s s' t (entries_beside schema s' (trees y)) told h below) (tree_parts schema tests s t c).place) conds sides leaf

    conds_after : (s s' : Scope) (t : JoinTreeLayer) (es : List Entry) → Told s (roll-JoinTree t) → Stands s' s → scopes.Below R es (entries_beside schema s (trees t)) → Each (KeptExpr (inside schema s t)) (conditions t) → Each (made.Passes schema tests (es ++ s')) (fold.conditions_folded (map fold.folded_expr (conditions t)))
    conds_after s s' t es told h below cs = conditions_pass (es ++ s') (map fold.folded_expr (conditions t))
        (each_map (made.Passes schema tests (es ++ s')) fold.folded_expr (conditions t) (in_scope_of (λ o o' e. made.Passes schema tests o' (fold.folded_expr e)) (inside schema s t) (es ++ s') (stands_inside s s' t es told h below) (conditions t) cs))

    tree_made : (s s' : Scope) (t : JoinTreeLayer) → made.PassesTree schema tests s (roll-JoinTree t) → Told s (roll-JoinTree t) → Stands s' s
        → Each (λ x. made.PassesTree schema tests s' (fold.folded_tree x)) (trees t) → Each (entries.TreeBelow schema R same s' s) (trees t) → Each (KeptExpr (inside schema s t)) (conditions t) → Each (λ q. made.PassesQuery schema tests s' (fold.folded q)) (option_part (leaf_query t)) → made.PassesTree schema tests s' (fold.tree_folded (tree_parts_folded t))
    tree_made s s' (JoinTree-F.Base rel name table) c told h ts bs cs qs = tree_passes s s' (JoinTree-F.Base rel name table) (JoinTree-F.Base rel name table) c told h (scopes.below_none R) tt tt tt
    tree_made s s' (JoinTree-F.Sub rel name query) c told h ts bs cs qs = tree_passes s s' (JoinTree-F.Sub rel name query) (JoinTree-F.Sub rel name (fold.folded query)) c told h (scopes.below_none R) tt tt qs
    tree_made s s' (JoinTree-F.Join join.Right left right on) c told h ts bs cs qs =
        let crossed = scopes.below_turned R (entries_of schema (fold.folded_tree left) s') (entries_of schema left s) (entries_of schema (fold.folded_tree right) s') (entries_of schema right s) bs.0 bs.1.0 in
        tree_passes s s' (JoinTree-F.Join join.Right left right on) (JoinTree-F.Join join.Left (fold.folded_tree right) (fold.folded_tree left) (fold.conditions_folded (map fold.folded_expr on))) c told h crossed
        (conds_after s s' (JoinTree-F.Join join.Right left right on) (entries_of schema (fold.folded_tree right) s' ++ (entries_of schema (fold.folded_tree left) s' ++ [])) told h crossed cs) (ts.1.0, (ts.0, tt)) tt
    tree_made s s' (JoinTree-F.Join kind left right on) c told h ts bs cs qs =
        let below = entries.beside_below schema R same s' s (left ∷ right ∷ []) bs in
        tree_passes s s' (JoinTree-F.Join kind left right on) (JoinTree-F.Join kind (fold.folded_tree left) (fold.folded_tree right) (fold.conditions_folded (map fold.folded_expr on))) c told h below
        (conds_after s s' (JoinTree-F.Join kind left right on) (entries_beside schema s' (map fold.folded_tree (left ∷ right ∷ []))) told h below cs) ts tt
    tree_made s s' (JoinTree-F.From members conds) c told h ts bs cs qs =
        let below = entries.beside_below schema R same s' s members bs in
        tree_passes s s' (JoinTree-F.From members conds) (JoinTree-F.From (map fold.folded_tree members) (fold.conditions_folded (map fold.folded_expr conds))) c told h below
        (conds_after s s' (JoinTree-F.From members conds) (entries_beside schema s' (map fold.folded_tree members)) told h below cs)
        (each_map (made.PassesTree schema tests s') fold.folded_tree members ts) tt

    pub tree_step : (s : Scope) (t : JoinTreeLayer) → made.PassesTree schema tests s (roll-JoinTree t) → Told s (roll-JoinTree t) → Each (KeptTree s) (trees t) → Each (KeptExpr (inside schema s t)) (conditions t) → Each (KeptQuery s) (option_part (leaf_query t)) → KeptTree s (roll-JoinTree t)
    tree_step s t c told ts cs qs s' h =
        let ts' = in_scope_of (λ o o' x. made.PassesTree schema tests o' (fold.folded_tree x) × entries.TreeBelow schema R same o' o x) s s' h (trees t) ts in
        let qs' = in_scope_of (λ o o' x. made.PassesQuery schema tests o' (fold.folded x) × entries.QueryAlike schema R same o' o x) s s' h (option_part (leaf_query t)) qs in
        let bs = seconds (λ x. made.PassesTree schema tests s' (fold.folded_tree x)) (entries.TreeBelow schema R same s' s) (trees t) ts' in (
          subst (made.PassesTree schema tests s') (sym (entries.folded_at schema t))
              (tree_made s s' t c told h (firsts (λ x. made.PassesTree schema tests s' (fold.folded_tree x)) (entries.TreeBelow schema R same s' s) (trees t) ts') bs cs
              (firsts (λ x. made.PassesQuery schema tests s' (fold.folded x)) (entries.QueryAlike schema R same s' s) (option_part (leaf_query t)) qs')),
          entries.tree_below schema R same s' s t bs (seconds (λ x. made.PassesQuery schema tests s' (fold.folded x)) (entries.QueryAlike schema R same s' s) (option_part (leaf_query t)) qs'),
        )

    pub order_step : (s : Scope) (o : OrderLayer) → KeptExpr s o.expr → KeptOrder s (roll-Order o)
    order_step s o k s' h = subst (made.PassesOrder schema tests s') (sym (fold-roll-Order Expr JoinTree Order Output Query fold.expr_folded fold.tree_folded roll-Order roll-Output fold.query_folded o))
        (made.order_made schema tests s' (record { expr = fold.folded_expr o.expr; desc = o.desc; nulls_first = o.nulls_first }) (k s' h))

    pub output_step : (s' : Scope) (u : OutputLayer) → made.Passes schema tests s' (fold.folded_expr u.expr) → made.PassesOutput schema tests s' (folded_output (roll-Output u))
    output_step s' u k = subst (made.PassesOutput schema tests s') (sym (entries.folded_output_at schema u))
        (made.output_made schema tests s' (record { name = u.name; ty = u.ty; expr = fold.folded_expr u.expr }) k)

    pub query_step : (s : Scope) (q : QueryLayer) → made.PassesQuery schema tests s (roll-Query q) → made.PassesQuery schema tells_relations_apart s (roll-Query q) → Each (KeptOutput (above schema s q)) q.columns → KeptTree s q.tree → Each (KeptExpr (above schema s q)) q.conds → Each (KeptOrder (above schema s q)) q.order → KeptQuery s (roll-Query q)
    query_step s q c told us t es os s' h =
        let inner = above schema s q in
        let inner' = entries_in schema s' (fold.folded_tree q.tree) ++ s' in
        let below = (t s' h).1 in
        let over : Stands inner' inner = record {
          below = scopes.below_append R (entries_in schema s' (fold.folded_tree q.tree)) (entries_in schema s q.tree) s' s below h.below;
          distinct = scopes.to_distinct (map relation_of inner) (made.query_place schema tells_relations_apart s q told);
        } in
        let us' = in_scope_of (λ o o' x. made.PassesOutput schema tests o' (folded_output x) × R (entries.column_of schema (folded_output x) o') (entries.column_of schema x o)) inner inner' over q.columns us in (
          subst (made.PassesQuery schema tests s') (sym (entries.folded_query_at schema q))
              (made.query_made schema tests s' (entries.query_made schema q) (t s' h).0 (scope_kept inner' inner over (made.query_place schema tests s q c))
              (each_map (made.PassesOutput schema tests inner') folded_output q.columns (firsts (λ x. made.PassesOutput schema tests inner' (folded_output x)) (λ x. R (entries.column_of schema (folded_output x) inner') (entries.column_of schema x inner)) q.columns us'))
              (conditions_pass inner' (map fold.folded_expr q.conds) (each_map (made.Passes schema tests inner') fold.folded_expr q.conds (in_scope_of (λ o o' e. made.Passes schema tests o' (fold.folded_expr e)) inner inner' over q.conds es)))
              (each_map (made.PassesOrder schema tests inner') folded_order q.order (in_scope_of (λ o o' u. made.PassesOrder schema tests o' (folded_order u)) inner inner' over q.order os))),
          entries.query_alike schema R same s' s q (seconds (λ x. made.PassesOutput schema tests inner' (folded_output x)) (λ x. R (entries.column_of schema (folded_output x) inner') (entries.column_of schema x inner)) q.columns us'),
        )

  -- The scope of a query's place tells its relations apart where what is visible in the query does, so it stands over itself.
  pub itself : (s : Scope) (q : QueryLayer) → made.PassesQuery schema tells_relations_apart s (roll-Query q) → Stands s s
  itself s q h = record {
    below = scopes.below_itself R same s;
    distinct = scopes.distinct_right (map relation_of (entries_in schema s q.tree)) (map relation_of s)
        (subst Distinct (scopes.relations_append (entries_in schema s q.tree) s) (scopes.to_distinct (map relation_of (above schema s q)) (made.query_place schema tells_relations_apart s q h)));
  }
