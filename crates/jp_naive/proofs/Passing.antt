-- What can be computed passes to its parts: from an expression to its parts and the queries of its sublinks, from a tree to its
-- sides, members, conditions and sub-selects, from a query to its tree, outputs, conditions and ORDER BY items.
use Rattle.std.proofs.Common.{◌≡◌, ◌∙◌, ap, sym, subst, ℕ, Bool, true, List, [], ◌∷◌, ◌++◌, map}
use Rattle.std.specs.Prelude.{IsSome}
use Rattle.jp_query.specs.declared.Expr.{Expr}
use Rattle.jp_query.specs.declared.JoinTree.{JoinTree}
use Rattle.jp_query.specs.declared.Order.{Order, out-Order}
use Rattle.jp_query.specs.declared.Output.{Output, out-Output}
use Rattle.jp_query.specs.declared.Query.{Query, out-Query, roll-out-Query}
use Rattle.jp_query.specs.declared.Expr.TheOpen.{Expr-F, JoinTree-F, Query-F}
use Rattle.jp_query.specs.declared.Expr.TheViews.{roll-Expr, roll-JoinTree, roll-out-Order, roll-out-Output}
use Rattle.jp_query.specs.declared.Expr.TheFolds.{map-Expr, map-JoinTree, map-Query, fold-roll-Expr, fold-roll-JoinTree, fold_out-Order, fold_out-Output, fold_out-Query, para-Order, para-Output, para-roll-Expr, para-roll-JoinTree, para-roll-Order, para-roll-Output, para-roll-Query}
use Rattle.jp_query.specs.Layers.{ExprLayer, JoinTreeLayer}
use Rattle.jp_query.specs.Parts.{all_in, option_part, parts, sublink_query, trees, conditions, leaf_query}
use Rattle.jp_query.specs.Scopes.{Column, Schema, Entry, Scope, entries_of}
use Rattle.jp_query.specs.Meaning.{Env}
use Rattle.jp_query.specs.Tables.{TableRows, Belong}
use Rattle.jp_query.specs.Typing.{Typed, TypedOutput, TypedQuery, expr_type, tree_typed, order_typed, output_typed, query_typed, type_of, tree_is_typed, typed_query, IsTypedExpr}
use Rattle.jp_query.specs.Conditions.{Tests, Judged, all_entries, expr_judged, tree_judged, order_judged, output_judged, query_judged, judged_expr, judged_tree, judged_query, knows_columns, tells_relations_apart, keeps_bounds}
use Rattle.jp_query.specs.Freshness.{Found, Sublink, found_in, sublink_here, expr_found, tree_found, order_found, output_found, query_found, sublinks_in}
use Rattle.jp_query.specs.Subexpressions.{sublinks_of}
use Rattle.jp_facts.proofs.Members.{In, to_in, from_in, in_append_left, in_append_right}
use Rattle.jp_laws.proofs.EachPart.{Each, each_mapped, parts_map, sublink_map, trees_map, conditions_map, leaf_map}
use Rattle.jp_laws.proofs.GatheredLaws.{parts_typed, trees_typed, QueryParts, query_parts, typed_output, typed_order, of_is_some, IsTypedInner}
use Rattle.jp_laws.proofs.JudgedLaws.{ExprPasses, expr_passes, TreePasses, tree_passed, QueryPasses, query_passed, judged_order_by, judged_output_by}
use Rattle.jp_laws.proofs.JudgedValues.{entries_judged}
use Rattle.jp_laws.proofs.TuplesFit.{Fit, inner_cell}
use Rattle.jp_naive.specs.Lines.{output_expr, order_expr}
use Rattle.jp_naive.specs.Running.{AreEqualByNumber, Fits, CanRunExpr, CanRunTree, CanRunQuery, sublinks_of_tree}

-- ---- sublinks of one number

abbrev pub Same : Found → Type 0
Same found = (a b : Sublink) → In a found → In b found → a.number ≡ b.number → a.node ≡ b.node

pub same_in : (found : Found) → AreEqualByNumber found → Same found
same_in found same a b h k = same a b (from_in a found h) (from_in b found k)

pub same_from : (found : Found) → Same found → AreEqualByNumber found
same_from found same a b h k = same a b (to_in a found h) (to_in b found k)

abbrev Sub : Found → Found → Type 0
Sub xs ys = (s : Sublink) → In s xs → In s ys

smaller : (xs ys : Found) → Sub xs ys → Same ys → Same xs
smaller xs ys sub same a b h k = same a b (sub a h) (sub b k)

abbrev pub beside : {X : Type 0} → (X → Found) → X → X × Found
beside found x = (x, found x)

each_same : {X : Type 0} (found : X → Found) (xs : List X) (whole : Found) → Sub (all_in (map found_in (map (beside found) xs))) whole → Same whole → Each (λ x. Same (found x)) xs
each_same found [] whole sub same = tt
each_same found (x ∷ xs) whole sub same = (
  smaller (found x) whole (λ s h. sub s (in_append_left s (found x) (all_in (map found_in (map (beside found) xs))) h)) same,
  each_same found xs whole (λ s h. sub s (in_append_right s (found x) (all_in (map found_in (map (beside found) xs))) h)) same,
)

abbrev pub found_of_order : Order → Found
found_of_order = para-Order Found Found Found Found Found expr_found tree_found order_found output_found query_found

abbrev pub found_of_output : Output → Found
found_of_output = para-Output Found Found Found Found Found expr_found tree_found order_found output_found query_found

found_at_output : (u : Output) → found_of_output u ≡ sublinks_of (output_expr u)
found_at_output u = ap found_of_output (sym (roll-out-Output u)) ∙ para-roll-Output Found Found Found Found Found expr_found tree_found order_found output_found query_found (out-Output u)

found_at_order : (o : Order) → found_of_order o ≡ sublinks_of (order_expr o)
found_at_order o = ap found_of_order (sym (roll-out-Order o)) ∙ para-roll-Order Found Found Found Found Found expr_found tree_found order_found output_found query_found (out-Order o)

abbrev pub found_level : ExprLayer → Expr-F (Expr × Found) (JoinTree × Found) (Order × Found) (Output × Found) (Query × Found)
found_level = map-Expr Expr JoinTree Order Output Query (Expr × Found) (JoinTree × Found) (Order × Found) (Output × Found) (Query × Found) (beside sublinks_of) (beside sublinks_of_tree) (beside found_of_order) (beside found_of_output) (beside sublinks_in)

pub found_at : (x : ExprLayer) → sublinks_of (roll-Expr x) ≡ sublink_here (found_level x) ++ (all_in (map found_in (map (beside sublinks_of) (parts x))) ++ all_in (map found_in (map (beside sublinks_in) (option_part (sublink_query x)))))
found_at x = para-roll-Expr Found Found Found Found Found expr_found tree_found order_found output_found query_found x
    ∙ ap (λ ps. sublink_here (found_level x) ++ (all_in (map found_in ps) ++ all_in (map found_in (option_part (sublink_query (found_level x)))))) (parts_map (beside sublinks_of) (beside sublinks_of_tree) (beside found_of_order) (beside found_of_output) (beside sublinks_in) x)
    ∙ ap (λ qs. sublink_here (found_level x) ++ (all_in (map found_in (map (beside sublinks_of) (parts x))) ++ all_in (map found_in qs))) (sublink_map (beside sublinks_of) (beside sublinks_of_tree) (beside found_of_order) (beside found_of_output) (beside sublinks_in) x)

-- ---- environments

pub every : {X : Type 0} (P : X → Type 0) → ((x : X) → P x) → (xs : List X) → Each P xs
every P h [] = tt
every P h (x ∷ xs) = (h x, every P h xs)

pub fits_inside : (entries : List Entry) (scope : Scope) (env tuple : Env) → Fit entries env tuple → Fits scope env → Fits (entries ++ scope) tuple
fits_inside entries scope env tuple fit fits c = inner_cell entries scope env tuple fit c (fits c)

module _ (tables : TableRows) (schema : Schema) (belong : Belong schema tables) where
  abbrev pub Known : Tests → Scope → Expr → Type 0
  Known tests scope e = (judged_expr schema tests e).passes scope ≡ true

  abbrev pub KnownTree : Tests → Scope → JoinTree → Type 0
  KnownTree tests scope t = (judged_tree schema tests t).passes scope ≡ true

  abbrev pub KnownQuery : Tests → Scope → Query → Type 0
  KnownQuery tests scope q = (judged_query schema tests q).passes scope ≡ true

  -- ---- members of lists, from the facts one by one

  pub can_exprs : (scope : Scope) (env : Env) → Fits scope env → (xs : List Expr) → Each IsTypedExpr xs → Each (Known knows_columns scope) xs → Each (Known tells_relations_apart scope) xs → Each (Known keeps_bounds scope) xs → Each (λ x. Same (sublinks_of x)) xs
      → Each (λ x. CanRunExpr tables x env) xs
  can_exprs scope env fits [] a b c d e = tt
  can_exprs scope env fits (x ∷ xs) a b c d e = (
    record { schema = schema; scope = scope; belong = belong; is_typed = a.0; columns = b.0; distinct = c.0; bounded = d.0; same = same_from (sublinks_of x) e.0; fits = fits },
    can_exprs scope env fits xs a.1 b.1 c.1 d.1 e.1,
  )

  pub can_trees : (scope : Scope) (env : Env) → Fits scope env → (xs : List JoinTree) → Each (λ t. tree_is_typed t ≡ true) xs → Each (KnownTree knows_columns scope) xs → Each (KnownTree tells_relations_apart scope) xs → Each (KnownTree keeps_bounds scope) xs → Each (λ t. Same (sublinks_of_tree t)) xs
      → Each (λ t. CanRunTree tables t env) xs
  can_trees scope env fits [] a b c d e = tt
  can_trees scope env fits (x ∷ xs) a b c d e = (
    record { schema = schema; scope = scope; belong = belong; is_typed = a.0; columns = b.0; distinct = c.0; bounded = d.0; same = same_from (sublinks_of_tree x) e.0; fits = fits },
    can_trees scope env fits xs a.1 b.1 c.1 d.1 e.1,
  )

  pub can_queries : (scope : Scope) (env : Env) → Fits scope env → (xs : List Query) → Each (λ q. (typed_query q).is_typed ≡ true) xs → Each (KnownQuery knows_columns scope) xs → Each (KnownQuery tells_relations_apart scope) xs → Each (KnownQuery keeps_bounds scope) xs → Each (λ q. Same (sublinks_in q)) xs
      → Each (λ q. CanRunQuery tables q env) xs
  can_queries scope env fits [] a b c d e = tt
  can_queries scope env fits (x ∷ xs) a b c d e = (
    record { schema = schema; scope = scope; belong = belong; is_typed = a.0; columns = b.0; distinct = c.0; bounded = d.0; same = same_from (sublinks_in x) e.0; fits = fits },
    can_queries scope env fits xs a.1 b.1 c.1 d.1 e.1,
  )

  -- ---- expressions

  abbrev typed_level : ExprLayer → Expr-F Typed Bool Typed TypedOutput TypedQuery
  typed_level = map-Expr Expr JoinTree Order Output Query Typed Bool Typed TypedOutput TypedQuery type_of tree_is_typed typed_order typed_output typed_query

  abbrev judged_level : Tests → ExprLayer → Expr-F (Judged ℕ) (Judged (List Entry)) (Judged ℕ) (Judged Column) (Judged (List Column))
  judged_level tests = map-Expr Expr JoinTree Order Output Query (Judged ℕ) (Judged (List Entry)) (Judged ℕ) (Judged Column) (Judged (List Column)) (judged_expr schema tests) (judged_tree schema tests) (judged_order_by schema tests) (judged_output_by schema tests) (judged_query schema tests)

  module _ (tests : Tests) (scope : Scope) (x : ExprLayer) (h : Known tests scope (roll-Expr x)) where
    expr_passed : ExprPasses schema tests scope (judged_level tests x)
    expr_passed = expr_passes schema tests scope (judged_level tests x) (subst (λ (j : Judged ℕ). j.passes scope ≡ true) (fold-roll-Expr (Judged ℕ) (Judged (List Entry)) (Judged ℕ) (Judged Column) (Judged (List Column)) (expr_judged schema tests) (tree_judged schema tests) (order_judged schema tests) (output_judged schema tests) (query_judged schema tests) x) h)

    parts_known : Each (Known tests scope) (parts x)
    parts_known = each_mapped (λ (j : Judged ℕ). j.passes scope ≡ true) (judged_expr schema tests) (parts x) (subst (Each (λ (j : Judged ℕ). j.passes scope ≡ true)) (parts_map (judged_expr schema tests) (judged_tree schema tests) (judged_order_by schema tests) (judged_output_by schema tests) (judged_query schema tests) x) expr_passed.parts)

    sublink_known : Each (KnownQuery tests scope) (option_part (sublink_query x))
    sublink_known = each_mapped (λ (j : Judged (List Column)). j.passes scope ≡ true) (judged_query schema tests) (option_part (sublink_query x)) (subst (Each (λ (j : Judged (List Column)). j.passes scope ≡ true)) (sublink_map (judged_expr schema tests) (judged_tree schema tests) (judged_order_by schema tests) (judged_output_by schema tests) (judged_query schema tests) x) expr_passed.sublinks)

  module _ (x : ExprLayer) (same : Same (sublinks_of (roll-Expr x))) where
    inner_parts : Found
    inner_parts = all_in (map found_in (map (beside sublinks_of) (parts x)))

    inner_query : Found
    inner_query = all_in (map found_in (map (beside sublinks_in) (option_part (sublink_query x))))

    into_whole : (s : Sublink) → In s (inner_parts ++ inner_query) → In s (sublinks_of (roll-Expr x))
    unfolding inner_parts inner_query
    into_whole s h = subst (In s) (sym (found_at x)) (in_append_right s (sublink_here (found_level x)) (inner_parts ++ inner_query) h)

    parts_same : Each (λ y. Same (sublinks_of y)) (parts x)
    unfolding inner_parts inner_query
    parts_same = each_same sublinks_of (parts x) (sublinks_of (roll-Expr x)) (λ s h. into_whole s (in_append_left s inner_parts inner_query h)) same

    sublink_same : Each (λ q. Same (sublinks_in q)) (option_part (sublink_query x))
    unfolding inner_parts inner_query
    sublink_same = each_same sublinks_in (option_part (sublink_query x)) (sublinks_of (roll-Expr x)) (λ s h. into_whole s (in_append_right s inner_parts inner_query h)) same

  typed_inside : (x : ExprLayer) → IsTypedExpr (roll-Expr x) → Each IsSome (parts (typed_level x)) × Each IsTypedInner (option_part (sublink_query (typed_level x)))
  typed_inside x h = parts_typed (typed_level x) (subst IsSome (fold-roll-Expr Typed Bool Typed TypedOutput TypedQuery expr_type tree_typed order_typed output_typed query_typed x) h)

  pub parts_can : (x : ExprLayer) (scope : Scope) (env : Env) → IsTypedExpr (roll-Expr x) → Known knows_columns scope (roll-Expr x) → Known tells_relations_apart scope (roll-Expr x) → Known keeps_bounds scope (roll-Expr x) → Same (sublinks_of (roll-Expr x)) → Fits scope env
      → Each (λ y. CanRunExpr tables y env) (parts x)
  parts_can x scope env typed knows apart bounds same fits = can_exprs scope env fits (parts x)
      (each_mapped IsSome type_of (parts x) (subst (Each IsSome) (parts_map type_of tree_is_typed typed_order typed_output typed_query x) (typed_inside x typed).0))
      (parts_known knows_columns scope x knows) (parts_known tells_relations_apart scope x apart) (parts_known keeps_bounds scope x bounds) (parts_same x same)

  pub sublink_can : (x : ExprLayer) (scope : Scope) (env : Env) → IsTypedExpr (roll-Expr x) → Known knows_columns scope (roll-Expr x) → Known tells_relations_apart scope (roll-Expr x) → Known keeps_bounds scope (roll-Expr x) → Same (sublinks_of (roll-Expr x)) → Fits scope env
      → Each (λ q. CanRunQuery tables q env) (option_part (sublink_query x))
  sublink_can x scope env typed knows apart bounds same fits = can_queries scope env fits (option_part (sublink_query x))
      (each_mapped IsTypedInner typed_query (option_part (sublink_query x)) (subst (Each IsTypedInner) (sublink_map type_of tree_is_typed typed_order typed_output typed_query x) (typed_inside x typed).1))
      (sublink_known knows_columns scope x knows) (sublink_known tells_relations_apart scope x apart) (sublink_known keeps_bounds scope x bounds) (sublink_same x same)

  -- ---- trees

  abbrev typed_tree_level : JoinTreeLayer → JoinTree-F Typed Bool Typed TypedOutput TypedQuery
  typed_tree_level = map-JoinTree Expr JoinTree Order Output Query Typed Bool Typed TypedOutput TypedQuery type_of tree_is_typed typed_order typed_output typed_query

  abbrev pub judged_tree_level : Tests → JoinTreeLayer → JoinTree-F (Judged ℕ) (Judged (List Entry)) (Judged ℕ) (Judged Column) (Judged (List Column))
  judged_tree_level tests = map-JoinTree Expr JoinTree Order Output Query (Judged ℕ) (Judged (List Entry)) (Judged ℕ) (Judged Column) (Judged (List Column)) (judged_expr schema tests) (judged_tree schema tests) (judged_order_by schema tests) (judged_output_by schema tests) (judged_query schema tests)

  abbrev found_tree_level : JoinTreeLayer → JoinTree-F (Expr × Found) (JoinTree × Found) (Order × Found) (Output × Found) (Query × Found)
  found_tree_level = map-JoinTree Expr JoinTree Order Output Query (Expr × Found) (JoinTree × Found) (Order × Found) (Output × Found) (Query × Found) (beside sublinks_of) (beside sublinks_of_tree) (beside found_of_order) (beside found_of_output) (beside sublinks_in)

  pub tree_known : (tests : Tests) (scope : Scope) (t : JoinTreeLayer) → KnownTree tests scope (roll-JoinTree t) → TreePasses schema tests scope (judged_tree_level tests t)
  tree_known tests scope t h = tree_passed schema tests scope (judged_tree_level tests t) (subst (λ (j : Judged (List Entry)). j.passes scope ≡ true) (fold-roll-JoinTree (Judged ℕ) (Judged (List Entry)) (Judged ℕ) (Judged Column) (Judged (List Column)) (expr_judged schema tests) (tree_judged schema tests) (order_judged schema tests) (output_judged schema tests) (query_judged schema tests) t) h)

  tree_found_at : (t : JoinTreeLayer) → sublinks_of_tree (roll-JoinTree t) ≡ all_in (map found_in (map (beside sublinks_of_tree) (trees t))) ++ (all_in (map found_in (map (beside sublinks_of) (conditions t))) ++ all_in (map found_in (map (beside sublinks_in) (option_part (leaf_query t)))))
  tree_found_at t = para-roll-JoinTree Found Found Found Found Found expr_found tree_found order_found output_found query_found t
      ∙ ap (λ ts. all_in (map found_in ts) ++ (all_in (map found_in (conditions (found_tree_level t))) ++ all_in (map found_in (option_part (leaf_query (found_tree_level t)))))) (trees_map (beside sublinks_of) (beside sublinks_of_tree) (beside found_of_order) (beside found_of_output) (beside sublinks_in) t)
      ∙ ap (λ es. all_in (map found_in (map (beside sublinks_of_tree) (trees t))) ++ (all_in (map found_in es) ++ all_in (map found_in (option_part (leaf_query (found_tree_level t)))))) (conditions_map (beside sublinks_of) (beside sublinks_of_tree) (beside found_of_order) (beside found_of_output) (beside sublinks_in) t)
      ∙ ap (λ qs. all_in (map found_in (map (beside sublinks_of_tree) (trees t))) ++ (all_in (map found_in (map (beside sublinks_of) (conditions t))) ++ all_in (map found_in qs))) (leaf_map (beside sublinks_of) (beside sublinks_of_tree) (beside found_of_order) (beside found_of_output) (beside sublinks_in) t)

  module _ (t : JoinTreeLayer) (same : Same (sublinks_of_tree (roll-JoinTree t))) where
    abbrev in_trees : Found
    in_trees = all_in (map found_in (map (beside sublinks_of_tree) (trees t)))

    abbrev in_conditions : Found
    in_conditions = all_in (map found_in (map (beside sublinks_of) (conditions t)))

    abbrev in_leaf : Found
    in_leaf = all_in (map found_in (map (beside sublinks_in) (option_part (leaf_query t))))

    into_tree : (s : Sublink) → In s (in_trees ++ (in_conditions ++ in_leaf)) → In s (sublinks_of_tree (roll-JoinTree t))
    into_tree s h = subst (In s) (sym (tree_found_at t)) h

    trees_same : Each (λ y. Same (sublinks_of_tree y)) (trees t)
    trees_same = each_same sublinks_of_tree (trees t) (sublinks_of_tree (roll-JoinTree t)) (λ s h. into_tree s (in_append_left s in_trees (in_conditions ++ in_leaf) h)) same

    conditions_same : Each (λ y. Same (sublinks_of y)) (conditions t)
    conditions_same = each_same sublinks_of (conditions t) (sublinks_of_tree (roll-JoinTree t)) (λ s h. into_tree s (in_append_right s in_trees (in_conditions ++ in_leaf) (in_append_left s in_conditions in_leaf h))) same

    leaf_same : Each (λ q. Same (sublinks_in q)) (option_part (leaf_query t))
    leaf_same = each_same sublinks_in (option_part (leaf_query t)) (sublinks_of_tree (roll-JoinTree t)) (λ s h. into_tree s (in_append_right s in_trees (in_conditions ++ in_leaf) (in_append_right s in_conditions in_leaf h))) same

  module _ (t : JoinTreeLayer) (scope : Scope) (typed : tree_is_typed (roll-JoinTree t) ≡ true) (knows : KnownTree knows_columns scope (roll-JoinTree t)) (apart : KnownTree tells_relations_apart scope (roll-JoinTree t)) (bounds : KnownTree keeps_bounds scope (roll-JoinTree t)) (same : Same (sublinks_of_tree (roll-JoinTree t))) where
    abbrev typed_parts : Each (λ b. b ≡ true) (trees (typed_tree_level t)) × Each IsSome (conditions (typed_tree_level t)) × Each IsTypedInner (option_part (leaf_query (typed_tree_level t)))
    typed_parts = trees_typed (typed_tree_level t) (subst (λ b. b ≡ true) (fold-roll-JoinTree Typed Bool Typed TypedOutput TypedQuery expr_type tree_typed order_typed output_typed query_typed t) typed)

    pub trees_known : (tests : Tests) → KnownTree tests scope (roll-JoinTree t) → Each (KnownTree tests scope) (trees t)
    trees_known tests h = each_mapped (λ (j : Judged (List Entry)). j.passes scope ≡ true) (judged_tree schema tests) (trees t) (subst (Each (λ (j : Judged (List Entry)). j.passes scope ≡ true)) (trees_map (judged_expr schema tests) (judged_tree schema tests) (judged_order_by schema tests) (judged_output_by schema tests) (judged_query schema tests) t) (tree_known tests scope t h).inner)

    leaf_known : (tests : Tests) → KnownTree tests scope (roll-JoinTree t) → Each (KnownQuery tests scope) (option_part (leaf_query t))
    leaf_known tests h = each_mapped (λ (j : Judged (List Column)). j.passes scope ≡ true) (judged_query schema tests) (option_part (leaf_query t)) (subst (Each (λ (j : Judged (List Column)). j.passes scope ≡ true)) (leaf_map (judged_expr schema tests) (judged_tree schema tests) (judged_order_by schema tests) (judged_output_by schema tests) (judged_query schema tests) t) (tree_known tests scope t h).leaf)

    abbrev pub seen_in : Tests → Scope
    seen_in tests = all_entries (trees (judged_tree_level tests t)) scope ++ scope

    conditions_known : (tests : Tests) → KnownTree tests scope (roll-JoinTree t) → Each (Known tests (seen_in tests)) (conditions t)
    conditions_known tests h = each_mapped (λ (j : Judged ℕ). j.passes (seen_in tests) ≡ true) (judged_expr schema tests) (conditions t) (subst (Each (λ (j : Judged ℕ). j.passes (seen_in tests) ≡ true)) (conditions_map (judged_expr schema tests) (judged_tree schema tests) (judged_order_by schema tests) (judged_output_by schema tests) (judged_query schema tests) t) (tree_known tests scope t h).conds)

    pub typed_trees : Each (λ y. tree_is_typed y ≡ true) (trees t)
    typed_trees = each_mapped (λ b. b ≡ true) tree_is_typed (trees t) (subst (Each (λ b. b ≡ true)) (trees_map type_of tree_is_typed typed_order typed_output typed_query t) typed_parts.0)

    pub trees_can : (env : Env) → Fits scope env → Each (λ y. CanRunTree tables y env) (trees t)
    trees_can env fits = can_trees scope env fits (trees t)
        typed_trees
        (trees_known knows_columns knows) (trees_known tells_relations_apart apart) (trees_known keeps_bounds bounds) (trees_same t same)

    pub leaf_can : (env : Env) → Fits scope env → Each (λ q. CanRunQuery tables q env) (option_part (leaf_query t))
    leaf_can env fits = can_queries scope env fits (option_part (leaf_query t))
        (each_mapped IsTypedInner typed_query (option_part (leaf_query t)) (subst (Each IsTypedInner) (leaf_map type_of tree_is_typed typed_order typed_output typed_query t) typed_parts.2))
        (leaf_known knows_columns knows) (leaf_known tells_relations_apart apart) (leaf_known keeps_bounds bounds) (leaf_same t same)

    -- the conditions, in an environment that fits what they see
    pub conditions_can : (inner : Scope) → ((tests : Tests) → seen_in tests ≡ inner) → (tuple : Env) → Fits inner tuple → Each (λ y. CanRunExpr tables y tuple) (conditions t)
    conditions_can inner is tuple fits = can_exprs inner tuple fits (conditions t)
        (each_mapped IsSome type_of (conditions t) (subst (Each IsSome) (conditions_map type_of tree_is_typed typed_order typed_output typed_query t) typed_parts.1))
        (subst (λ s. Each (Known knows_columns s) (conditions t)) (is knows_columns) (conditions_known knows_columns knows))
        (subst (λ s. Each (Known tells_relations_apart s) (conditions t)) (is tells_relations_apart) (conditions_known tells_relations_apart apart))
        (subst (λ s. Each (Known keeps_bounds s) (conditions t)) (is keeps_bounds) (conditions_known keeps_bounds bounds))
        (conditions_same t same)

  -- ---- queries

  abbrev typed_query_level : Query → Query-F Typed Bool Typed TypedOutput TypedQuery
  typed_query_level q = map-Query Expr JoinTree Order Output Query Typed Bool Typed TypedOutput TypedQuery type_of tree_is_typed typed_order typed_output typed_query (out-Query q)

  abbrev judged_query_level : Tests → Query → Query-F (Judged ℕ) (Judged (List Entry)) (Judged ℕ) (Judged Column) (Judged (List Column))
  judged_query_level tests q = map-Query Expr JoinTree Order Output Query (Judged ℕ) (Judged (List Entry)) (Judged ℕ) (Judged Column) (Judged (List Column)) (judged_expr schema tests) (judged_tree schema tests) (judged_order_by schema tests) (judged_output_by schema tests) (judged_query schema tests) (out-Query q)

  query_known : (tests : Tests) (scope : Scope) (q : Query) → KnownQuery tests scope q → QueryPasses schema tests scope (judged_query_level tests q)
  query_known tests scope q h = query_passed schema tests scope (judged_query_level tests q) (subst (λ (j : Judged (List Column)). j.passes scope ≡ true) (fold_out-Query (Judged ℕ) (Judged (List Entry)) (Judged ℕ) (Judged Column) (Judged (List Column)) (expr_judged schema tests) (tree_judged schema tests) (order_judged schema tests) (output_judged schema tests) (query_judged schema tests) q) h)

  abbrev in_list : {X : Type 0} → (X → Found) → List X → Found
  in_list found xs = all_in (map found_in (map (beside found) xs))

  query_found_at : (q : Query) → sublinks_in q ≡ in_list found_of_output (out-Query q).columns ++ (sublinks_of_tree (out-Query q).tree ++ (in_list sublinks_of (out-Query q).conds ++ in_list found_of_order (out-Query q).order))
  query_found_at q = ap sublinks_in (sym (roll-out-Query q)) ∙ para-roll-Query Found Found Found Found Found expr_found tree_found order_found output_found query_found (out-Query q)

  output_known : (tests : Tests) (scope : Scope) (us : List Output) → Each (λ (u : Judged Column). u.passes scope ≡ true) (map (judged_output_by schema tests) us) → Each (Known tests scope) (map output_expr us)
  output_known tests scope [] h = tt
  output_known tests scope (u ∷ us) h = (
    subst (λ (j : Judged Column). j.passes scope ≡ true) (fold_out-Output (Judged ℕ) (Judged (List Entry)) (Judged ℕ) (Judged Column) (Judged (List Column)) (expr_judged schema tests) (tree_judged schema tests) (order_judged schema tests) (output_judged schema tests) (query_judged schema tests) u) h.0,
    output_known tests scope us h.1,
  )

  order_known : (tests : Tests) (scope : Scope) (os : List Order) → Each (λ (o : Judged ℕ). o.passes scope ≡ true) (map (judged_order_by schema tests) os) → Each (Known tests scope) (map order_expr os)
  order_known tests scope [] h = tt
  order_known tests scope (o ∷ os) h = (
    subst (λ (j : Judged ℕ). j.passes scope ≡ true) (fold_out-Order (Judged ℕ) (Judged (List Entry)) (Judged ℕ) (Judged Column) (Judged (List Column)) (expr_judged schema tests) (tree_judged schema tests) (order_judged schema tests) (output_judged schema tests) (query_judged schema tests) o) h.0,
    order_known tests scope os h.1,
  )

  outputs_typed : (us : List Output) → Each (λ (t : TypedOutput). t.is_typed ≡ true) (map typed_output us) → Each IsTypedExpr (map output_expr us)
  outputs_typed [] h = tt
  outputs_typed (u ∷ us) h = (
    of_is_some (out-Output u).ty (type_of (output_expr u)) (subst (λ (t : TypedOutput). t.is_typed ≡ true) (fold_out-Output Typed Bool Typed TypedOutput TypedQuery expr_type tree_typed order_typed output_typed query_typed u) h.0),
    outputs_typed us h.1,
  )

  orders_typed : (os : List Order) → Each IsSome (map typed_order os) → Each IsTypedExpr (map order_expr os)
  orders_typed [] h = tt
  orders_typed (o ∷ os) h = (subst IsSome (fold_out-Order Typed Bool Typed TypedOutput TypedQuery expr_type tree_typed order_typed output_typed query_typed o) h.0, orders_typed os h.1)

  output_sames : (us : List Output) → Each (λ u. Same (found_of_output u)) us → Each (λ e. Same (sublinks_of e)) (map output_expr us)
  output_sames [] h = tt
  output_sames (u ∷ us) h = (subst Same (found_at_output u) h.0, output_sames us h.1)

  order_sames : (os : List Order) → Each (λ o. Same (found_of_order o)) os → Each (λ e. Same (sublinks_of e)) (map order_expr os)
  order_sames [] h = tt
  order_sames (o ∷ os) h = (subst Same (found_at_order o) h.0, order_sames os h.1)

  module _ (q : Query) (scope : Scope) (typed : (typed_query q).is_typed ≡ true) (knows : KnownQuery knows_columns scope q) (apart : KnownQuery tells_relations_apart scope q) (bounds : KnownQuery keeps_bounds scope q) (same : Same (sublinks_in q)) where
    abbrev parts_of_query : QueryParts (typed_query_level q)
    parts_of_query = query_parts (typed_query_level q) (subst (λ (t : TypedQuery). t.is_typed ≡ true) (fold_out-Query Typed Bool Typed TypedOutput TypedQuery expr_type tree_typed order_typed output_typed query_typed q) typed)

    abbrev above : Scope
    above = entries_of schema (out-Query q).tree scope ++ scope

    above_is : (tests : Tests) → (judged_tree schema tests (out-Query q).tree).value scope ++ scope ≡ above
    above_is tests = ap (λ (e : Scope → List Entry). e scope ++ scope) (entries_judged schema tests (out-Query q).tree)

    abbrev f_columns : Found
    f_columns = in_list found_of_output (out-Query q).columns

    abbrev f_tree : Found
    f_tree = sublinks_of_tree (out-Query q).tree

    abbrev f_conds : Found
    f_conds = in_list sublinks_of (out-Query q).conds

    abbrev f_order : Found
    f_order = in_list found_of_order (out-Query q).order

    into_query : (s : Sublink) → In s (f_columns ++ (f_tree ++ (f_conds ++ f_order))) → In s (sublinks_in q)
    into_query s h = subst (In s) (sym (query_found_at q)) h

    pub typed_tree : tree_is_typed (out-Query q).tree ≡ true
    typed_tree = parts_of_query.tree

    pub passed_tree : (tests : Tests) → KnownQuery tests scope q → KnownTree tests scope (out-Query q).tree
    passed_tree tests h = (query_known tests scope q h).tree

    pub tree_can : (env : Env) → Fits scope env → CanRunTree tables (out-Query q).tree env
    tree_can env fits = record {
      schema = schema;
      scope = scope;
      belong = belong;
      is_typed = parts_of_query.tree;
      columns = (query_known knows_columns scope q knows).tree;
      distinct = (query_known tells_relations_apart scope q apart).tree;
      bounded = (query_known keeps_bounds scope q bounds).tree;
      same = same_from f_tree (smaller f_tree (sublinks_in q) (λ s h. into_query s (in_append_right s f_columns (f_tree ++ (f_conds ++ f_order)) (in_append_left s f_tree (f_conds ++ f_order) h))) same);
      fits = fits;
    }

    pub conds_can : (tuple : Env) → Fits above tuple → Each (λ e. CanRunExpr tables e tuple) (out-Query q).conds
    conds_can tuple fits = can_exprs above tuple fits (out-Query q).conds
        (each_mapped IsSome type_of (out-Query q).conds parts_of_query.conds)
        (here knows_columns knows) (here tells_relations_apart apart) (here keeps_bounds bounds)
        (each_same sublinks_of (out-Query q).conds (sublinks_in q) (λ s h. into_query s (in_append_right s f_columns (f_tree ++ (f_conds ++ f_order)) (in_append_right s f_tree (f_conds ++ f_order) (in_append_left s f_conds f_order h)))) same)
      where
        here : (tests : Tests) → KnownQuery tests scope q → Each (Known tests above) (out-Query q).conds
        here tests h = each_mapped (λ (j : Judged ℕ). j.passes above ≡ true) (judged_expr schema tests) (out-Query q).conds (subst (λ (s : Scope). Each (λ (j : Judged ℕ). j.passes s ≡ true) (map (judged_expr schema tests) (out-Query q).conds)) (above_is tests) (query_known tests scope q h).conds)

    pub columns_can : (tuple : Env) → Fits above tuple → Each (λ e. CanRunExpr tables e tuple) (map output_expr (out-Query q).columns)
    columns_can tuple fits = can_exprs above tuple fits (map output_expr (out-Query q).columns)
        (outputs_typed (out-Query q).columns parts_of_query.columns)
        (here knows_columns knows) (here tells_relations_apart apart) (here keeps_bounds bounds)
        (output_sames (out-Query q).columns (each_same found_of_output (out-Query q).columns (sublinks_in q) (λ s h. into_query s (in_append_left s f_columns (f_tree ++ (f_conds ++ f_order)) h)) same))
      where
        here : (tests : Tests) → KnownQuery tests scope q → Each (Known tests above) (map output_expr (out-Query q).columns)
        here tests h = output_known tests above (out-Query q).columns (subst (λ (s : Scope). Each (λ (j : Judged Column). j.passes s ≡ true) (map (judged_output_by schema tests) (out-Query q).columns)) (above_is tests) (query_known tests scope q h).columns)

    pub order_can : (tuple : Env) → Fits above tuple → Each (λ e. CanRunExpr tables e tuple) (map order_expr (out-Query q).order)
    order_can tuple fits = can_exprs above tuple fits (map order_expr (out-Query q).order)
        (orders_typed (out-Query q).order parts_of_query.order)
        (here knows_columns knows) (here tells_relations_apart apart) (here keeps_bounds bounds)
        (order_sames (out-Query q).order (each_same found_of_order (out-Query q).order (sublinks_in q) (λ s h. into_query s (in_append_right s f_columns (f_tree ++ (f_conds ++ f_order)) (in_append_right s f_tree (f_conds ++ f_order) (in_append_right s f_conds f_order h)))) same))
      where
        here : (tests : Tests) → KnownQuery tests scope q → Each (Known tests above) (map order_expr (out-Query q).order)
        here tests h = order_known tests above (out-Query q).order (subst (λ (s : Scope). Each (λ (j : Judged ℕ). j.passes s ≡ true) (map (judged_order_by schema tests) (out-Query q).order)) (above_is tests) (query_known tests scope q h).order)
