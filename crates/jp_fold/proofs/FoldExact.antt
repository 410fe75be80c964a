-- What is made of a typed and bounded query is what folding makes of it.
use Rattle.std.proofs.Common.{◌≡◌, ◌∙◌, ap, sym, subst, refl, ◌≤◌, Bool, true, ◌&&◌, List, [], ◌∷◌, map, Some, None, IsSome, is_some, arith}
use Rattle.std.specs.Prelude.{if◌then◌else◌}
use Rattle.std.specs.List.{list_all}
use Rattle.jp_base.specs.declared.values.Ty.TheVariants as ty
use Rattle.jp_base.specs.declared.values.Value.TheVariants as value
use Rattle.jp_query.specs.declared.JoinKind.TheVariants as join
use Rattle.jp_query.specs.declared.Expr.{Expr}
use Rattle.jp_query.specs.declared.JoinTree.{JoinTree}
use Rattle.jp_query.specs.declared.Order.{Order}
use Rattle.jp_query.specs.declared.Output.{Output}
use Rattle.jp_query.specs.declared.Query.{Query}
use Rattle.jp_query.specs.declared.Expr.TheOpen.{Expr-F, JoinTree-F}
use Rattle.jp_query.specs.declared.Expr.TheViews.{roll-Expr, roll-JoinTree, roll-Order, roll-Output, roll-Query, out-roll-Expr}
use Rattle.jp_query.specs.declared.Expr.TheFolds.{map-Expr, map-JoinTree, map-Query, fold-roll-Expr, fold-roll-JoinTree, fold-roll-Order, fold-roll-Output, fold-roll-Query}
use Rattle.jp_query.specs.Layers.{ExprLayer, JoinTreeLayer, QueryLayer}
use Rattle.jp_query.specs.Meaning.{no_tables, no_outer_rows}
use Rattle.jp_query.specs.Parts.{option_part, parts, sublink_query, trees, conditions, leaf_query}
use Rattle.jp_query.specs.Scopes.{Schema, Scope, BoundIn}
use Rattle.jp_query.specs.Typing.{Typed, expr_type, type_of, tree_is_typed, typed_query, are_conditions}
use Rattle.jp_query.specs.Conditions.{IsTyped, IsBounded}
use Rattle.jp_induction.proofs.HandedDown.{StepsUnder, under_query}
use Rattle.jp_induction.proofs.Levels.{expr_twice, tree_twice, query_twice}
use Rattle.jp_laws.proofs.EachPart.{Each}
use Rattle.jp_laws.proofs.GatheredLaws.{typed_order, typed_output}
use Rattle.jp_laws.proofs.ValueLaws.{and_left, and_right}
use Rattle.jp_folding.specs.Folding as fold
use Rattle.jp_folding.proofs.FineDown.{inside, above}
use Rattle.jp_folding.proofs.TypeLaws.{typed_level, type_at, folded_order, folded_output, expr_parts_folded, tree_parts_folded, query_parts_folded}
use Rattle.jp_eval.proofs.NumberLaws.{most}
use Rattle.jp_fold.specs.InBits as bits
use Rattle.jp_fold.proofs.BoundedDown.{GoodExpr, GoodTree, GoodOrder, GoodOutput, GoodQuery, bounded_down}
use Rattle.jp_folding.proofs.TypeLaws.{expr_type_kept, query_type_kept}
use Rattle.jp_fold.proofs.Exact.{Low, bounded_low, bound_at}
use Rattle.jp_query.specs.Typing.{TypedOutput, TypedQuery, tree_typed, order_typed, output_typed, query_typed, output_is_typed, is_true_test}
use Rattle.jp_eval.proofs.ComputedLaws as computing
use Rattle.jp_folding.proofs.Runs.{runs}
use Rattle.jp_fold.proofs.LevelsExact.{Ready, level_alike}

abbrev Keeps : Expr → Type 0
Keeps e = type_of (fold.folded_expr e) ≡ type_of e

kept : (es : List Expr) → Each (λ e. IsSome (type_of e)) es → Each Keeps es
kept [] h = tt
kept (e ∷ es) h = (expr_type_kept e h.0, kept es h.1)

types_kept : (es : List Expr) → Each Keeps es → map type_of (map fold.folded_expr es) ≡ map type_of es
types_kept [] h = refl
types_kept (e ∷ es) h = λ i. h.0 i ∷ types_kept es h.1 i

abbrev QueryKeeps : Query → Type 0
QueryKeeps q = typed_query (fold.folded q) ≡ typed_query q

queries_kept : (qs : List Query) → Each (λ q. (typed_query q).is_typed ≡ true) qs → Each QueryKeeps qs
queries_kept [] h = tt
queries_kept (q ∷ qs) h = (query_type_kept q h.0, queries_kept qs h.1)

-- ---- lists of conditions

none_folded : fold.conditions_folded [] ≡ []
none_folded = simp runs

none_made : bits.conditions_made [] ≡ []
unfolding roll-Expr denote.Hole.Carrier.roll bits.conditions_made
none_made = ap (λ v. fold.and_members (fold.literal v ty.Boolean)) (computing.computed-And no_tables no_outer_rows []) ∙ ap (λ x. fold.and_at x (fold.truth_literal true)) (out-roll-Expr (Expr-F.Lit (value.Bool true) ty.Boolean))

module _ (schema : Schema) (s : Scope) where
  typed_parts : (es : List Expr) → Each (GoodExpr schema s) es → Each (λ e. IsSome (type_of e)) es
  typed_parts [] h = tt
  typed_parts (e ∷ es) h = (h.0.0, typed_parts es h.1)

  typed_queries : (qs : List Query) → Each (GoodQuery schema s) qs → Each (λ q. (typed_query q).is_typed ≡ true) qs
  typed_queries [] h = tt
  typed_queries (q ∷ qs) h = (h.0.0, typed_queries qs h.1)

  conditions_alike : (es : List Expr) → are_conditions (map type_of es) ≡ true → Each (GoodExpr schema s) es → Each (Low schema s) es → bits.conditions_made (map fold.folded_expr es) ≡ fold.conditions_folded (map fold.folded_expr es)
  unfolding bits.conditions_made
  conditions_alike [] h good low = none_made ∙ sym none_folded
  conditions_alike (e ∷ es) h good low = ap fold.and_members (level_alike schema s (Expr-F.And (e ∷ es)) (record {
    typed = ap (λ b. is_some (if b then Some ty.Boolean else None)) (ap are_conditions (types_kept (e ∷ es) (kept (e ∷ es) (typed_parts (e ∷ es) good))) ∙ h);
    within = subst (λ n. n ≤ most) (sym (ap (λ (b : BoundIn). b s) (bound_at schema (Expr-F.And (e ∷ es))))) (omega arith);
    good = good;
    low = low;
  })).same

  ready : (x : ExprLayer) → GoodExpr schema s (roll-Expr x) → Each (GoodExpr schema s) (parts x) → Each (GoodQuery schema s) (option_part (sublink_query x)) → Each (Low schema s) (parts x) → Ready schema s x
  ready x c goods subs low =
      let same : typed_level (expr_parts_folded x) ≡ typed_level x = expr_twice type_of tree_is_typed typed_order typed_output typed_query fold.folded_expr fold.folded_tree folded_order folded_output fold.folded type_of tree_is_typed typed_order typed_output typed_query x (kept (parts x) (typed_parts (parts x) goods)) (queries_kept (option_part (sublink_query x)) (typed_queries (option_part (sublink_query x)) subs)) in
      record {
        typed = subst IsSome (type_at x ∙ sym (ap expr_type same)) c.0;
        within = bounded_low schema s (roll-Expr x) c.1;
        good = goods;
        low = low;
      }

-- ---- trees

abbrev tree_level : JoinTreeLayer → JoinTree-F Typed Bool Typed TypedOutput TypedQuery
tree_level = map-JoinTree Expr JoinTree Order Output Query Typed Bool Typed TypedOutput TypedQuery type_of tree_is_typed typed_order typed_output typed_query

conditions_of_tree : (t : JoinTreeLayer) → tree_typed (tree_level t) ≡ true → are_conditions (map type_of (conditions t)) ≡ true
conditions_of_tree (JoinTree-F.Base rel name table) h = refl
conditions_of_tree (JoinTree-F.Sub rel name query) h = refl
conditions_of_tree (JoinTree-F.Join kind left right on) h = and_right (tree_is_typed right) (are_conditions (map type_of on)) (and_right (tree_is_typed left) (tree_is_typed right && are_conditions (map type_of on)) h)
conditions_of_tree (JoinTree-F.From members conds) h = and_right (list_all is_true_test (map tree_is_typed members)) (are_conditions (map type_of conds)) h

conditions_of_query : (x : QueryLayer) → (typed_query (roll-Query x)).is_typed ≡ true → are_conditions (map type_of x.conds) ≡ true
conditions_of_query x typed =
    let h = subst (λ (t : TypedQuery). t.is_typed ≡ true) (fold-roll-Query Typed Bool Typed TypedOutput TypedQuery expr_type tree_typed order_typed output_typed query_typed x) typed in
    and_left (are_conditions (map type_of x.conds)) (list_all is_some (map typed_order x.order)) (and_right (tree_is_typed x.tree) (are_conditions (map type_of x.conds) && list_all is_some (map typed_order x.order)) (and_right (list_all output_is_typed (map typed_output x.columns)) (tree_is_typed x.tree && (are_conditions (map type_of x.conds) && list_all is_some (map typed_order x.order))) h))

abbrev tree_step : JoinTreeLayer → JoinTree
tree_step = fold.tree_by bits.made bits.kind_type

tree_alike : (t : JoinTreeLayer) → bits.conditions_made (map fold.folded_expr (conditions t)) ≡ fold.conditions_folded (map fold.folded_expr (conditions t)) → tree_step (tree_parts_folded t) ≡ fold.tree_folded (tree_parts_folded t)
unfolding bits.conditions_made
tree_alike (JoinTree-F.Base rel name table) h = refl
tree_alike (JoinTree-F.Sub rel name query) h = refl
tree_alike (JoinTree-F.Join join.Right left right on) h = λ i. roll-JoinTree (JoinTree-F.Join join.Left (fold.folded_tree right) (fold.folded_tree left) (h i))
tree_alike (JoinTree-F.Join kind left right on) h = λ i. roll-JoinTree (JoinTree-F.Join kind (fold.folded_tree left) (fold.folded_tree right) (h i))
tree_alike (JoinTree-F.From members conds) h = λ i. roll-JoinTree (JoinTree-F.From (map fold.folded_tree members) (h i))

-- ---- the induction

every : {X : Type 0} (P : X → Type 0) → ((x : X) → P x) → (xs : List X) → Each P xs
every P h [] = tt
every P h (x ∷ xs) = (h x, every P h xs)

abbrev SameExpr : Expr → Type 0
SameExpr e = bits.expr_made e ≡ fold.folded_expr e

abbrev SameTree : JoinTree → Type 0
SameTree t = bits.tree_made t ≡ fold.folded_tree t

abbrev SameOrder : Order → Type 0
SameOrder o = bits.order_made o ≡ folded_order o

abbrev SameOutput : Output → Type 0
SameOutput u = bits.output_made u ≡ folded_output u

abbrev SameQuery : Query → Type 0
SameQuery q = bits.query_made q ≡ fold.folded q

abbrev expr_parts_made : ExprLayer → ExprLayer
expr_parts_made = map-Expr Expr JoinTree Order Output Query Expr JoinTree Order Output Query bits.expr_made bits.tree_made bits.order_made bits.output_made bits.query_made

abbrev tree_parts_made : JoinTreeLayer → JoinTreeLayer
tree_parts_made = map-JoinTree Expr JoinTree Order Output Query Expr JoinTree Order Output Query bits.expr_made bits.tree_made bits.order_made bits.output_made bits.query_made

abbrev query_parts_made : QueryLayer → QueryLayer
query_parts_made = map-Query Expr JoinTree Order Output Query Expr JoinTree Order Output Query bits.expr_made bits.tree_made bits.order_made bits.output_made bits.query_made

same_exprs : (x : ExprLayer) → Each SameExpr (parts x) → Each SameQuery (option_part (sublink_query x)) → expr_parts_made x ≡ expr_parts_folded x
same_exprs x ps qs =
    sym (expr_twice bits.expr_made bits.tree_made bits.order_made bits.output_made bits.query_made (λ e. e) (λ t. t) (λ o. o) (λ u. u) (λ q. q) bits.expr_made bits.tree_made bits.order_made bits.output_made bits.query_made x
    (every (λ e. bits.expr_made e ≡ bits.expr_made e) (λ e. refl) (parts x)) (every (λ q. bits.query_made q ≡ bits.query_made q) (λ q. refl) (option_part (sublink_query x))))
    ∙ expr_twice bits.expr_made bits.tree_made bits.order_made bits.output_made bits.query_made (λ e. e) (λ t. t) (λ o. o) (λ u. u) (λ q. q) fold.folded_expr fold.folded_tree folded_order folded_output fold.folded x ps qs

same_trees : (x : JoinTreeLayer) → Each SameTree (trees x) → Each SameExpr (conditions x) → Each SameQuery (option_part (leaf_query x)) → tree_parts_made x ≡ tree_parts_folded x
same_trees x ts ps qs =
    sym (tree_twice bits.expr_made bits.tree_made bits.order_made bits.output_made bits.query_made (λ e. e) (λ t. t) (λ o. o) (λ u. u) (λ q. q) bits.expr_made bits.tree_made bits.order_made bits.output_made bits.query_made x
    (every (λ t. bits.tree_made t ≡ bits.tree_made t) (λ t. refl) (trees x)) (every (λ e. bits.expr_made e ≡ bits.expr_made e) (λ e. refl) (conditions x)) (every (λ q. bits.query_made q ≡ bits.query_made q) (λ q. refl) (option_part (leaf_query x))))
    ∙ tree_twice bits.expr_made bits.tree_made bits.order_made bits.output_made bits.query_made (λ e. e) (λ t. t) (λ o. o) (λ u. u) (λ q. q) fold.folded_expr fold.folded_tree folded_order folded_output fold.folded x ts ps qs

same_queries : (x : QueryLayer) → Each SameOutput x.columns → SameTree x.tree → Each SameExpr x.conds → Each SameOrder x.order → query_parts_made x ≡ query_parts_folded x
same_queries x us t ps os =
    sym (query_twice bits.expr_made bits.tree_made bits.order_made bits.output_made bits.query_made (λ e. e) (λ t. t) (λ o. o) (λ u. u) (λ q. q) bits.expr_made bits.tree_made bits.order_made bits.output_made bits.query_made x
    (every (λ u. bits.output_made u ≡ bits.output_made u) (λ u. refl) x.columns) refl (every (λ e. bits.expr_made e ≡ bits.expr_made e) (λ e. refl) x.conds) (every (λ o. bits.order_made o ≡ bits.order_made o) (λ o. refl) x.order))
    ∙ query_twice bits.expr_made bits.tree_made bits.order_made bits.output_made bits.query_made (λ e. e) (λ t. t) (λ o. o) (λ u. u) (λ q. q) fold.folded_expr fold.folded_tree folded_order folded_output fold.folded x us t ps os

module _ (schema : Schema) where
  abbrev ExprSame : Scope → Expr → Type 0
  ExprSame s e = SameExpr e × Low schema s e

  abbrev TreeSame : Scope → JoinTree → Type 0
  TreeSame s t = SameTree t

  abbrev OrderSame : Scope → Order → Type 0
  OrderSame s o = SameOrder o

  abbrev OutputSame : Scope → Output → Type 0
  OutputSame s u = SameOutput u

  abbrev QuerySame : Scope → Query → Type 0
  QuerySame s q = SameQuery q

  sames : (s : Scope) (es : List Expr) → Each (ExprSame s) es → Each SameExpr es
  sames s [] h = tt
  sames s (e ∷ es) h = (h.0.0, sames s es h.1)

  lows : (s : Scope) (es : List Expr) → Each (ExprSame s) es → Each (Low schema s) es
  lows s [] h = tt
  lows s (e ∷ es) h = (h.0.1, lows s es h.1)

  steps : StepsUnder Scope (inside schema) (above schema) (GoodExpr schema) (GoodTree schema) (GoodOrder schema) (GoodOutput schema) (GoodQuery schema) (bounded_down schema) ExprSame TreeSame OrderSame OutputSame QuerySame
  unfolding bits.conditions_made bits.expr_made bits.tree_made bits.order_made bits.output_made bits.query_made
  steps = record {
    expr = λ s x c ps subs.
        let down = (bounded_down schema).expr s x c in
        let alike = level_alike schema s x (ready schema s x c down.0 down.1 (lows s (parts x) ps)) in
        let folds = fold-roll-Expr Expr JoinTree Order Output Query fold.expr_folded fold.tree_folded roll-Order roll-Output fold.query_folded x in (
          fold-roll-Expr Expr JoinTree Order Output Query bits.expr_step tree_step roll-Order roll-Output (fold.query_by bits.made bits.kind_type) x ∙ ap bits.expr_step (same_exprs x (sames s (parts x) ps) subs) ∙ alike.same ∙ sym folds,
          λ v h. alike.low v (sym (ap fold.literal_of folds) ∙ h),
        );
    tree = λ s x c ts cs sub.
        let down = (bounded_down schema).tree s x c in
        let typed = conditions_of_tree x (sym (fold-roll-JoinTree Typed Bool Typed TypedOutput TypedQuery expr_type tree_typed order_typed output_typed query_typed x) ∙ c.0) in
        fold-roll-JoinTree Expr JoinTree Order Output Query bits.expr_step tree_step roll-Order roll-Output (fold.query_by bits.made bits.kind_type) x
        ∙ ap tree_step (same_trees x ts (sames (inside schema s x) (conditions x) cs) sub)
        ∙ tree_alike x (conditions_alike schema (inside schema s x) (conditions x) typed down.1 (lows (inside schema s x) (conditions x) cs))
        ∙ sym (fold-roll-JoinTree Expr JoinTree Order Output Query fold.expr_folded fold.tree_folded roll-Order roll-Output fold.query_folded x);
    order = λ s x c h. fold-roll-Order Expr JoinTree Order Output Query bits.expr_step tree_step roll-Order roll-Output (fold.query_by bits.made bits.kind_type) x
        ∙ ap (λ e. roll-Order (record { expr = e; desc = x.desc; nulls_first = x.nulls_first })) h.0
        ∙ sym (fold-roll-Order Expr JoinTree Order Output Query fold.expr_folded fold.tree_folded roll-Order roll-Output fold.query_folded x);
    output = λ s x c h. fold-roll-Output Expr JoinTree Order Output Query bits.expr_step tree_step roll-Order roll-Output (fold.query_by bits.made bits.kind_type) x
        ∙ ap (λ e. roll-Output (record { name = x.name; ty = x.ty; expr = e })) h.0
        ∙ sym (fold-roll-Output Expr JoinTree Order Output Query fold.expr_folded fold.tree_folded roll-Order roll-Output fold.query_folded x);
    query = λ s x c us t cs os.
        let down = (bounded_down schema).query s x c in
        fold-roll-Query Expr JoinTree Order Output Query bits.expr_step tree_step roll-Order roll-Output (fold.query_by bits.made bits.kind_type) x
        ∙ ap (fold.query_by bits.made bits.kind_type) (same_queries x us t (sames (above schema s x) x.conds cs) os)
        ∙ ap (λ conds. roll-Query (record { columns = map folded_output x.columns; distinct = x.distinct; tree = fold.folded_tree x.tree; conds = conds; order = map folded_order x.order }))
        (conditions_alike schema (above schema s x) x.conds (conditions_of_query x c.0) down.2 (lows (above schema s x) x.conds cs))
        ∙ sym (fold-roll-Query Expr JoinTree Order Output Query fold.expr_folded fold.tree_folded roll-Order roll-Output fold.query_folded x);
  }

  pub made_exactly : (s : Scope) (q : Query) → IsTyped schema s q → IsBounded schema s q → bits.query_made q ≡ fold.folded q
  made_exactly s q typed bounded = under_query Scope (inside schema) (above schema) (GoodExpr schema) (GoodTree schema) (GoodOrder schema) (GoodOutput schema) (GoodQuery schema) (bounded_down schema) ExprSame TreeSame OrderSame OutputSame QuerySame steps q s (typed.expressions, bounded)
