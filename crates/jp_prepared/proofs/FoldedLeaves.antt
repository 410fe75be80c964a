-- A leaf of a folded query is a leaf of the query, its sub-select folded.
use Rattle.std.proofs.Common.{sym, subst, refl, ℕ, inl, inr, Bool, true, false, List, [], ◌∷◌, ◌++◌, map}
use Rattle.std.specs.Prelude.{if◌then◌else◌}
use Rattle.std.specs.List.{list_any}
use Rattle.jp_base.specs.declared.values.Ty.{Ty}
use Rattle.jp_base.specs.declared.values.Value.{Value}
use Rattle.jp_base.specs.declared.values.Value.TheVariants as value
use Rattle.jp_facts.proofs.Members.{In, in_append_left, in_append_right, from_append}
use Rattle.jp_query.specs.declared.Expr.{Expr, out-Expr, roll-out-Expr}
use Rattle.jp_query.specs.declared.JoinKind.TheVariants as join
use Rattle.jp_query.specs.declared.JoinTree.{JoinTree}
use Rattle.jp_query.specs.declared.JoinTree.TheVariants as tree
use Rattle.jp_query.specs.declared.Order.{Order}
use Rattle.jp_query.specs.declared.Output.{Output}
use Rattle.jp_query.specs.declared.Query.{Query}
use Rattle.jp_query.specs.declared.Expr.TheOpen.{Expr-F, JoinTree-F}
use Rattle.jp_query.specs.declared.Expr.TheViews.{roll-Expr, roll-JoinTree, roll-Order, roll-Output, roll-Query}
use Rattle.jp_query.specs.declared.Expr.TheFolds.{fold-roll-Expr, fold-roll-JoinTree, fold-roll-Order, fold-roll-Output, fold-roll-Query}
use Rattle.jp_query.specs.Layers.{ExprLayer, JoinTreeLayer, OrderLayer, OutputLayer, QueryLayer}
use Rattle.jp_query.specs.Parts.{all_in, option_part, parts, sublink_query, trees, conditions, leaf_query}
use Rattle.jp_induction.proofs.EachPart.{Each, each_append, each_map, parts_map, sublink_map, trees_map, conditions_map, leaf_map}
use Rattle.jp_induction.proofs.Induction as induction
use Rattle.jp_conditions.proofs.Judging.{each_in}
use Rattle.jp_folding.specs.Folding as fold
use Rattle.jp_folding.proofs.TypeLaws.{folded_order, folded_output, expr_parts_folded, tree_parts_folded, query_parts_folded}
use Rattle.jp_prepared.proofs.Counted.{each_by}
use Rattle.jp_prepared.proofs.HeldTrees as held
use Rattle.jp_prepared.proofs.LeafTrees as lists
use Rattle.jp_prepared.proofs.LeafTrees.{OfSome, to_some, no_own, leaf_here}
use Rattle.jp_prepared.proofs.SameLeaves.{trees_in_expr, trees_in_tree, trees_in_order, trees_in_output, trees_in_query}

module _ (P : JoinTree → Type 0) where
  abbrev pub HE : Expr → Type 0
  HE e = (u : JoinTree) → In u (trees_in_expr e) → P u

  abbrev pub HT : JoinTree → Type 0
  HT t = (u : JoinTree) → In u (trees_in_tree t) → P u

  abbrev pub HO : Order → Type 0
  HO o = (u : JoinTree) → In u (trees_in_order o) → P u

  abbrev pub HU : Output → Type 0
  HU o = (u : JoinTree) → In u (trees_in_output o) → P u

  abbrev pub HQ : Query → Type 0
  HQ q = (u : JoinTree) → In u (trees_in_query q) → P u

  some_held : {A : Type 0} (f : A → List JoinTree) (xs : List A) → Each (λ x. (u : JoinTree) → In u (f x) → P u) xs → (u : JoinTree) → In u (all_in (map f xs)) → P u
  some_held f [] each u h = absurd h
  some_held f (x ∷ xs) each u h = elim (from_append u (f x) (all_in (map f xs)) h) [ inl k ↦ each.0 u k | inr k ↦ some_held f xs each.1 u k ]

  -- ---- one level

  pub rolled : (x : ExprLayer) → Each HE (parts x) → Each HQ (option_part (sublink_query x)) → HE (roll-Expr x)
  rolled x es qs u h =
      elim (from_append u (all_in (map trees_in_expr (parts x))) (all_in (map trees_in_query (option_part (sublink_query x)))) (subst (In u) (lists.at_expr JoinTree no_own leaf_here x) h)) [
        | inl k ↦ some_held trees_in_expr (parts x) es u k
        | inr k ↦ some_held trees_in_query (option_part (sublink_query x)) qs u k
      ]

  pub tree_rolled : (t : JoinTreeLayer) → Each P (leaf_here (lists.tree_level JoinTree no_own leaf_here t)) → Each HT (trees t) → Each HE (conditions t) → Each HQ (option_part (leaf_query t)) → HT (roll-JoinTree t)
  tree_rolled t own ts cs qs u h =
      let own_list = leaf_here (lists.tree_level JoinTree no_own leaf_here t) in
      let tl = all_in (map trees_in_tree (trees t)) in
      let cl = all_in (map trees_in_expr (conditions t)) in
      let ql = all_in (map trees_in_query (option_part (leaf_query t))) in
      elim (from_append u own_list (tl ++ (cl ++ ql)) (subst (In u) (lists.at_tree JoinTree no_own leaf_here t) h)) [
        | inl k ↦ each_in P own_list u own k
        | inr r ↦ elim (from_append u tl (cl ++ ql) r) [
          | inl k ↦ some_held trees_in_tree (trees t) ts u k
          | inr w ↦ elim (from_append u cl ql w) [ inl k ↦ some_held trees_in_expr (conditions t) cs u k | inr k ↦ some_held trees_in_query (option_part (leaf_query t)) qs u k ]
        ]
      ]

  of_literal : (v : Value) (t : Ty) → HE (fold.literal v t)
  of_literal v t = rolled (Expr-F.Lit v t) tt tt

  parts_held : (e : Expr) → HE e → Each HE (parts (out-Expr e))
  parts_held e h = (held.expr_down P tt (out-Expr e) (subst HE (sym (roll-out-Expr e)) h)).0

  and_at_held : (x : ExprLayer) (e : Expr) → Each HE (parts x) → HE e → Each HE (fold.and_at x e)
  and_at_held (Expr-F.And members) e p h = p
  and_at_held (Expr-F.Lit (value.Bool true) t) e p h = tt
  and_at_held x e p h = (h, tt)

  or_at_held : (x : ExprLayer) (e : Expr) → Each HE (parts x) → HE e → Each HE (fold.or_at x e)
  or_at_held (Expr-F.Or members) e p h = p
  or_at_held (Expr-F.Lit (value.Bool false) t) e p h = tt
  or_at_held x e p h = (h, tt)

  and_members_held : (e : Expr) → HE e → Each HE (fold.and_members e)
  and_members_held e h = and_at_held (out-Expr e) e (parts_held e h) h

  or_members_held : (e : Expr) → HE e → Each HE (fold.or_members e)
  or_members_held e h = or_at_held (out-Expr e) e (parts_held e h) h

  all_members : (f : Expr → List Expr) → ((e : Expr) → HE e → Each HE (f e)) → (es : List Expr) → Each HE es → Each HE (all_in (map f es))
  all_members f good [] h = tt
  all_members f good (e ∷ es) h = each_append HE (f e) (all_in (map f es)) (good e h.0) (all_members f good es h.1)

  choice : (b : Bool) (x y : Expr) → HE x → HE y → HE (if b then x else y)
  choice true x y h k = h
  choice false x y h k = k

  one_and_held : (es : List Expr) → Each HE es → HE (fold.one_and es)
  one_and_held [] h = of_literal (value.Bool true) _
  one_and_held (e ∷ []) h = h.0
  one_and_held (e ∷ d ∷ es) h = rolled (Expr-F.And (e ∷ d ∷ es)) h tt

  one_or_held : (es : List Expr) → Each HE es → HE (fold.one_or es)
  one_or_held [] h = of_literal (value.Bool false) _
  one_or_held (e ∷ []) h = h.0
  one_or_held (e ∷ d ∷ es) h = rolled (Expr-F.Or (e ∷ d ∷ es)) h tt

  and_held : (es : List Expr) → Each HE es → HE (fold.folded_and es)
  and_held es h = choice (list_any fold.is_false es) (fold.truth_literal false) (fold.one_and (all_in (map fold.and_members es))) (of_literal (value.Bool false) _) (one_and_held (all_in (map fold.and_members es)) (all_members fold.and_members and_members_held es h))

  or_held : (es : List Expr) → Each HE es → HE (fold.folded_or es)
  or_held es h = choice (list_any fold.is_true es) (fold.truth_literal true) (fold.one_or (all_in (map fold.or_members es))) (of_literal (value.Bool true) _) (one_or_held (all_in (map fold.or_members es)) (all_members fold.or_members or_members_held es h))

  computed_held : (x : ExprLayer) (e : Expr) → HE e → HE (fold.if_computed x e)
  computed_held x e h = choice (fold.has_literals_alone x) (fold.computed x) e (of_literal _ _) h

  strict_held : (x : ExprLayer) → HE (roll-Expr x) → HE (fold.if_computed x (fold.if_null x))
  strict_held x h = computed_held x (fold.if_null x) (choice (list_any fold.is_null (parts x)) (fold.literal value.Null (fold.type_at x)) (roll-Expr x) (of_literal value.Null (fold.type_at x)) h)

  level_held : (x : ExprLayer) → Each HE (parts x) → Each HQ (option_part (sublink_query x)) → HE (fold.expr_folded x)
  level_held (Expr-F.Neg operand) p q = strict_held (Expr-F.Neg operand) (rolled (Expr-F.Neg operand) p q)
  level_held (Expr-F.Sum terms) p q = strict_held (Expr-F.Sum terms) (rolled (Expr-F.Sum terms) p q)
  level_held (Expr-F.Product factors) p q = strict_held (Expr-F.Product factors) (rolled (Expr-F.Product factors) p q)
  level_held (Expr-F.Concat pieces) p q = strict_held (Expr-F.Concat pieces) (rolled (Expr-F.Concat pieces) p q)
  level_held (Expr-F.Compare op left right) p q = strict_held (Expr-F.Compare op left right) (rolled (Expr-F.Compare op left right) p q)
  level_held (Expr-F.And es) p q = computed_held (Expr-F.And es) (fold.folded_and es) (and_held es p)
  level_held (Expr-F.Or es) p q = computed_held (Expr-F.Or es) (fold.folded_or es) (or_held es p)
  level_held (Expr-F.Col rel col t nulled) p q = rolled (Expr-F.Col rel col t nulled) p q
  level_held (Expr-F.Lit v t) p q = rolled (Expr-F.Lit v t) p q
  level_held (Expr-F.Place inner rels) p q = rolled (Expr-F.Place inner rels) p q
  level_held (Expr-F.Exists sub query) p q = rolled (Expr-F.Exists sub query) p q
  level_held (Expr-F.InSub sub operand query) p q = rolled (Expr-F.InSub sub operand query) p q
  level_held x p q = computed_held x (roll-Expr x) (rolled x p q)

  conditions_held : (es : List Expr) → Each HE es → Each HE (fold.conditions_folded es)
  conditions_held es h = and_members_held (fold.expr_folded (Expr-F.And es)) (level_held (Expr-F.And es) h tt)

  abbrev pub own_leaf : JoinTreeLayer → List JoinTree
  own_leaf t = leaf_here (lists.tree_level JoinTree no_own leaf_here t)

  tree_level_held : (t : JoinTreeLayer) → Each P (own_leaf t) → Each HT (trees t) → Each HE (conditions t) → Each HQ (option_part (leaf_query t)) → HT (fold.tree_folded t)
  tree_level_held (JoinTree-F.Base rel name table) own ts cs q = tree_rolled (JoinTree-F.Base rel name table) own ts cs q
  tree_level_held (JoinTree-F.Sub rel name query) own ts cs q = tree_rolled (JoinTree-F.Sub rel name query) own ts cs q
  tree_level_held (JoinTree-F.Join join.Inner left right on) own ts cs q = tree_rolled (JoinTree-F.Join join.Inner left right (fold.conditions_folded on)) tt ts (conditions_held on cs) tt
  tree_level_held (JoinTree-F.Join join.Left left right on) own ts cs q = tree_rolled (JoinTree-F.Join join.Left left right (fold.conditions_folded on)) tt ts (conditions_held on cs) tt
  tree_level_held (JoinTree-F.Join join.Right left right on) own ts cs q = tree_rolled (JoinTree-F.Join join.Left right left (fold.conditions_folded on)) tt (ts.1.0, (ts.0, tt)) (conditions_held on cs) tt
  tree_level_held (JoinTree-F.Join join.Full left right on) own ts cs q = tree_rolled (JoinTree-F.Join join.Full left right (fold.conditions_folded on)) tt ts (conditions_held on cs) tt
  tree_level_held (JoinTree-F.Join join.Semi left right on) own ts cs q = tree_rolled (JoinTree-F.Join join.Semi left right (fold.conditions_folded on)) tt ts (conditions_held on cs) tt
  tree_level_held (JoinTree-F.Join join.Anti left right on) own ts cs q = tree_rolled (JoinTree-F.Join join.Anti left right (fold.conditions_folded on)) tt ts (conditions_held on cs) tt
  tree_level_held (JoinTree-F.From members conds) own ts cs q = tree_rolled (JoinTree-F.From members (fold.conditions_folded conds)) tt ts (conditions_held conds cs) tt

  pub query_rolled : (q : QueryLayer) → Each HU q.columns → HT q.tree → Each HE q.conds → Each HO q.order → HQ (roll-Query q)
  query_rolled q us t cs os u h =
      let ul = all_in (map trees_in_output q.columns) in
      let tl = trees_in_tree q.tree in
      let cl = all_in (map trees_in_expr q.conds) in
      let ol = all_in (map trees_in_order q.order) in
      elim (from_append u ul (tl ++ (cl ++ ol)) (subst (In u) (lists.at_query JoinTree no_own leaf_here q) h)) [
        | inl k ↦ some_held trees_in_output q.columns us u k
        | inr r ↦ elim (from_append u tl (cl ++ ol) r) [
          | inl k ↦ t u k
          | inr w ↦ elim (from_append u cl ol w) [ inl k ↦ some_held trees_in_expr q.conds cs u k | inr k ↦ some_held trees_in_order q.order os u k ]
        ]
      ]

  -- ---- the whole

  module _ (Before : JoinTree → Type 0) (of_base : (rel : ℕ) (name : List ℕ) (table : ℕ) → Before (tree.Base rel name table) → P (tree.Base rel name table)) (of_sub : (rel : ℕ) (name : List ℕ) (q : Query) → Before (tree.Sub rel name q) → P (tree.Sub rel name (fold.folded q))) where
    abbrev PE : Expr → Type 0
    PE e = ((u : JoinTree) → In u (trees_in_expr e) → Before u) → HE (fold.folded_expr e)

    abbrev PT : JoinTree → Type 0
    PT t = ((u : JoinTree) → In u (trees_in_tree t) → Before u) → HT (fold.folded_tree t)

    abbrev PO : Order → Type 0
    PO o = ((u : JoinTree) → In u (trees_in_order o) → Before u) → HO (folded_order o)

    abbrev PU : Output → Type 0
    PU o = ((u : JoinTree) → In u (trees_in_output o) → Before u) → HU (folded_output o)

    abbrev PQ : Query → Type 0
    PQ q = ((u : JoinTree) → In u (trees_in_query q) → Before u) → HQ (fold.folded q)

    applied : {A : Type 0} (C D : A → Type 0) (xs : List A) → Each (λ x. C x → D x) xs → Each C xs → Each D xs
    applied C D [] f h = tt
    applied C D (x ∷ xs) f h = (f.0 h.0, applied C D xs f.1 h.1)

    expr_step : (x : ExprLayer) → Each PE (parts x) → Each PQ (option_part (sublink_query x)) → PE (roll-Expr x)
    expr_step x exprs queries before =
        let d = held.expr_down Before tt x before in
        let es = applied (λ e. (u : JoinTree) → In u (trees_in_expr e) → Before u) (λ e. HE (fold.folded_expr e)) (parts x) exprs d.0 in
        let qs = applied (λ e. (u : JoinTree) → In u (trees_in_query e) → Before u) (λ e. HQ (fold.folded e)) (option_part (sublink_query x)) queries d.1 in
        subst HE (sym (fold-roll-Expr Expr JoinTree Order Output Query fold.expr_folded fold.tree_folded roll-Order roll-Output fold.query_folded x))
        (level_held (expr_parts_folded x) (subst (Each HE) (sym (parts_map fold.folded_expr fold.folded_tree folded_order folded_output fold.folded x)) (each_map HE fold.folded_expr (parts x) es))
        (subst (Each HQ) (sym (sublink_map fold.folded_expr fold.folded_tree folded_order folded_output fold.folded x)) (each_map HQ fold.folded (option_part (sublink_query x)) qs)))

    leaf_before : (t : JoinTreeLayer) → ((u : JoinTree) → In u (trees_in_tree (roll-JoinTree t)) → Before u) → Each P (own_leaf (tree_parts_folded t))
    leaf_before t before = at t (λ u m. before u (subst (In u) (sym (lists.at_tree JoinTree no_own leaf_here t)) (in_append_left u (own_leaf t) (all_in (map trees_in_tree (trees t)) ++ (all_in (map trees_in_expr (conditions t)) ++ all_in (map trees_in_query (option_part (leaf_query t))))) m)))
      where
        at : (y : JoinTreeLayer) → ((u : JoinTree) → In u (own_leaf y) → Before u) → Each P (own_leaf (tree_parts_folded y))
        at (JoinTree-F.Base rel name table) b = (of_base rel name table (b (tree.Base rel name table) (inl refl)), tt)
        at (JoinTree-F.Sub rel name query) b = (of_sub rel name query (b (tree.Sub rel name query) (inl refl)), tt)
        at (JoinTree-F.Join kind left right on) b = tt
        at (JoinTree-F.From members conds) b = tt

    tree_step : (t : JoinTreeLayer) → Each PT (trees t) → Each PE (conditions t) → Each PQ (option_part (leaf_query t)) → PT (roll-JoinTree t)
    tree_step t sides exprs queries before =
        let d = held.tree_down Before tt t before in
        let ts = applied (λ e. (u : JoinTree) → In u (trees_in_tree e) → Before u) (λ e. HT (fold.folded_tree e)) (trees t) sides d.0 in
        let es = applied (λ e. (u : JoinTree) → In u (trees_in_expr e) → Before u) (λ e. HE (fold.folded_expr e)) (conditions t) exprs d.1 in
        let qs = applied (λ e. (u : JoinTree) → In u (trees_in_query e) → Before u) (λ e. HQ (fold.folded e)) (option_part (leaf_query t)) queries d.2 in
        subst HT (sym (fold-roll-JoinTree Expr JoinTree Order Output Query fold.expr_folded fold.tree_folded roll-Order roll-Output fold.query_folded t))
        (tree_level_held (tree_parts_folded t) (leaf_before t before) (subst (Each HT) (sym (trees_map fold.folded_expr fold.folded_tree folded_order folded_output fold.folded t)) (each_map HT fold.folded_tree (trees t) ts))
        (subst (Each HE) (sym (conditions_map fold.folded_expr fold.folded_tree folded_order folded_output fold.folded t)) (each_map HE fold.folded_expr (conditions t) es))
        (subst (Each HQ) (sym (leaf_map fold.folded_expr fold.folded_tree folded_order folded_output fold.folded t)) (each_map HQ fold.folded (option_part (leaf_query t)) qs)))

    order_step : (o : OrderLayer) → PE o.expr → PO (roll-Order o)
    order_step o h before =
        let inner = h (λ u m. before u (subst (In u) (sym (lists.at_order JoinTree no_own leaf_here o)) m)) in
        subst HO (sym (fold-roll-Order Expr JoinTree Order Output Query fold.expr_folded fold.tree_folded roll-Order roll-Output fold.query_folded o)) (λ u m. inner u (subst (In u) (lists.at_order JoinTree no_own leaf_here (record { expr = fold.folded_expr o.expr; desc = o.desc; nulls_first = o.nulls_first })) m))

    output_step : (o : OutputLayer) → PE o.expr → PU (roll-Output o)
    output_step o h before =
        let inner = h (λ u m. before u (subst (In u) (sym (lists.at_output JoinTree no_own leaf_here o)) m)) in
        subst HU (sym (fold-roll-Output Expr JoinTree Order Output Query fold.expr_folded fold.tree_folded roll-Order roll-Output fold.query_folded o)) (λ u m. inner u (subst (In u) (lists.at_output JoinTree no_own leaf_here (record { name = o.name; ty = o.ty; expr = fold.folded_expr o.expr })) m))

    query_step : (q : QueryLayer) → Each PU q.columns → PT q.tree → Each PE q.conds → Each PO q.order → PQ (roll-Query q)
    query_step q columns inner conds order before =
        let ul = all_in (map trees_in_output q.columns) in
        let tl = trees_in_tree q.tree in
        let cl = all_in (map trees_in_expr q.conds) in
        let ol = all_in (map trees_in_order q.order) in
        let all = λ (u : JoinTree) (m : In u (ul ++ (tl ++ (cl ++ ol)))). before u (subst (In u) (sym (lists.at_query JoinTree no_own leaf_here q)) m) in
        let us = applied (λ e. (u : JoinTree) → In u (trees_in_output e) → Before u) (λ e. HU (folded_output e)) q.columns columns (each_by (λ e. (u : JoinTree) → In u (trees_in_output e) → Before u) q.columns (λ x m u k. all u (in_append_left u ul (tl ++ (cl ++ ol)) (lists.from_some trees_in_output q.columns u (x, m, k))))) in
        let t = inner (λ u k. all u (in_append_right u ul (tl ++ (cl ++ ol)) (in_append_left u tl (cl ++ ol) k))) in
        let es = applied (λ e. (u : JoinTree) → In u (trees_in_expr e) → Before u) (λ e. HE (fold.folded_expr e)) q.conds conds (each_by (λ e. (u : JoinTree) → In u (trees_in_expr e) → Before u) q.conds (λ x m u k. all u (in_append_right u ul (tl ++ (cl ++ ol)) (in_append_right u tl (cl ++ ol) (in_append_left u cl ol (lists.from_some trees_in_expr q.conds u (x, m, k))))))) in
        let os = applied (λ e. (u : JoinTree) → In u (trees_in_order e) → Before u) (λ e. HO (folded_order e)) q.order order (each_by (λ e. (u : JoinTree) → In u (trees_in_order e) → Before u) q.order (λ x m u k. all u (in_append_right u ul (tl ++ (cl ++ ol)) (in_append_right u tl (cl ++ ol) (in_append_right u cl ol (lists.from_some trees_in_order q.order u (x, m, k))))))) in
        let y = query_parts_folded q in
        subst HQ (sym (fold-roll-Query Expr JoinTree Order Output Query fold.expr_folded fold.tree_folded roll-Order roll-Output fold.query_folded q))
        (query_rolled (record y { conds = fold.conditions_folded y.conds }) (each_map HU folded_output q.columns us) t (conditions_held (map fold.folded_expr q.conds) (each_map HE fold.folded_expr q.conds es)) (each_map HO folded_order q.order os))

    pub leaves_folded : (q : Query) → PQ q
    leaves_folded = induction.at_query PE PT PO PU PQ (record { expr = expr_step; tree = tree_step; order = order_step; output = output_step; query = query_step })
