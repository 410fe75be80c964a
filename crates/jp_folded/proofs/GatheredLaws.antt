-- What a folded tree gathers from its levels, it gathered before.
use Rattle.std.proofs.Common.{◌≡◌, ◌∙◌, ap, sym, subst, List, [], ◌∷◌, ◌++◌, map}
use Rattle.jp_base.specs.declared.values.Ty.{Ty}
use Rattle.jp_base.specs.declared.values.Ty.TheVariants as ty
use Rattle.jp_base.specs.declared.values.Value.{Value}
use Rattle.jp_base.specs.declared.values.Value.TheVariants as value
use Rattle.jp_query.specs.declared.JoinKind.{JoinKind}
use Rattle.jp_query.specs.declared.JoinKind.TheVariants as join
use Rattle.jp_query.specs.declared.Expr.{Expr}
use Rattle.jp_query.specs.declared.JoinTree.{JoinTree}
use Rattle.jp_query.specs.declared.Order.{Order}
use Rattle.jp_query.specs.declared.Output.{Output}
use Rattle.jp_query.specs.declared.Query.{Query}
use Rattle.jp_query.specs.declared.Expr.TheOpen.{Expr-F, JoinTree-F}
use Rattle.jp_query.specs.declared.Expr.TheViews.{roll-Expr, roll-JoinTree, roll-Order, roll-Output, roll-Query}
use Rattle.jp_query.specs.declared.Expr.TheFolds.{fold-roll-Expr, fold-roll-JoinTree, fold-roll-Order, fold-roll-Output, fold-roll-Query}
use Rattle.jp_query.specs.Layers.{ExprLayer, JoinTreeLayer, OrderLayer, OutputLayer, QueryLayer}
use Rattle.jp_query.specs.Parts.{all_in, option_part, parts, sublink_query, trees, conditions, leaf_query}
use Rattle.jp_induction.proofs.Induction as induction
use Rattle.jp_laws.proofs.EachPart.{Each, each_left, each_right, each_append, each_in_all, each_in_parts, each_mapped, each_map, parts_map, sublink_map, trees_map, conditions_map, leaf_map}
use Rattle.jp_folding.specs.Folding as fold
use Rattle.jp_folding.proofs.TypeLaws.{folded_order, folded_output, expr_parts_folded, tree_parts_folded, query_parts_folded}
use Rattle.jp_folded.proofs.LevelLaws as levels
use Rattle.jp_folded.proofs.Lists.{kept}

-- Lists that are gathered from all levels of a tree: what a level gives by itself, and what its parts give.
module _ (X : Type 0) (in_expr : Expr → List X) (in_tree : JoinTree → List X) (in_order : Order → List X) (in_output : Output → List X) (in_query : Query → List X) (own : ExprLayer → List X) (leaf : JoinTreeLayer → List X) where
  pub record IsGathered : Type 0 where
    pub expr : (x : ExprLayer) → in_expr (roll-Expr x) ≡ own x ++ (all_in (map in_expr (parts x)) ++ all_in (map in_query (option_part (sublink_query x))))
    pub tree : (t : JoinTreeLayer) → in_tree (roll-JoinTree t) ≡ leaf t ++ (all_in (map in_tree (trees t)) ++ (all_in (map in_expr (conditions t)) ++ all_in (map in_query (option_part (leaf_query t)))))
    pub order : (o : OrderLayer) → in_order (roll-Order o) ≡ in_expr o.expr
    pub output : (u : OutputLayer) → in_output (roll-Output u) ≡ in_expr u.expr
    pub query : (q : QueryLayer) → in_query (roll-Query q) ≡ all_in (map in_output q.columns) ++ (in_tree q.tree ++ (all_in (map in_expr q.conds) ++ all_in (map in_order q.order)))

  -- What a level gives by itself is as P says when its parts are folded, where it was as Before says, and literals, ANDs,
  -- ORs, joins and FROM lists give nothing.
  pub record IsOwn (Before P : X → Type 0) : Type 0 where
    pub node : (x : ExprLayer) → Each Before (own x) → Each P (own (expr_parts_folded x))
    pub literal : (v : Value) (t : Ty) → own (Expr-F.Lit v t) ≡ []
    pub and_node : (es : List Expr) → own (Expr-F.And es) ≡ []
    pub or_node : (es : List Expr) → own (Expr-F.Or es) ≡ []
    pub own_leaf : (t : JoinTreeLayer) → Each Before (leaf t) → Each P (leaf (tree_parts_folded t))
    pub join_leaf : (kind : JoinKind) (left right : JoinTree) (on : List Expr) → leaf (JoinTree-F.Join kind left right on) ≡ []
    pub from_leaf : (members : List JoinTree) (conds : List Expr) → leaf (JoinTree-F.From members conds) ≡ []

  module _ (gathered : IsGathered) where
    module _ {Y : Type 0} (Q : X → Type 0) (f : Y → List X) where
      all_have : (ys : List Y) → Each (λ y. Each Q (f y)) ys → Each Q (all_in (map f ys))
      all_have ys h = each_in_parts Q (map f ys) (each_map (Each Q) f ys h)

      have_all : (ys : List Y) → Each Q (all_in (map f ys)) → Each (λ y. Each Q (f y)) ys
      have_all ys h = each_mapped (Each Q) f ys (each_in_all Q (map f ys) h)

    -- ---- one level

    module _ (Q : X → Type 0) where
      abbrev Has : Expr → Type 0
      Has e = Each Q (in_expr e)

      abbrev HasTree : JoinTree → Type 0
      HasTree t = Each Q (in_tree t)

      abbrev HasQuery : Query → Type 0
      HasQuery q = Each Q (in_query q)

      expr_made : (x : ExprLayer) → Each Q (own x) → Each Has (parts x) → Each HasQuery (option_part (sublink_query x)) → Has (roll-Expr x)
      expr_made x n p q = subst (Each Q) (sym (gathered.expr x)) (each_append Q (own x) (all_in (map in_expr (parts x)) ++ all_in (map in_query (option_part (sublink_query x)))) n
          (each_append Q (all_in (map in_expr (parts x))) (all_in (map in_query (option_part (sublink_query x)))) (all_have Q in_expr (parts x) p) (all_have Q in_query (option_part (sublink_query x)) q)))

      record ExprHas (x : ExprLayer) : Type 0 where
        node : Each Q (own x)
        exprs : Each Has (parts x)
        query : Each HasQuery (option_part (sublink_query x))

      expr_has : (x : ExprLayer) → Has (roll-Expr x) → ExprHas x
      expr_has x h =
          let all = subst (Each Q) (gathered.expr x) h in
          let inner = each_right Q (own x) (all_in (map in_expr (parts x)) ++ all_in (map in_query (option_part (sublink_query x)))) all in
          record {
            node = each_left Q (own x) (all_in (map in_expr (parts x)) ++ all_in (map in_query (option_part (sublink_query x)))) all;
            exprs = have_all Q in_expr (parts x) (each_left Q (all_in (map in_expr (parts x))) (all_in (map in_query (option_part (sublink_query x)))) inner);
            query = have_all Q in_query (option_part (sublink_query x)) (each_right Q (all_in (map in_expr (parts x))) (all_in (map in_query (option_part (sublink_query x)))) inner);
          }

      tree_made : (t : JoinTreeLayer) → Each Q (leaf t) → Each HasTree (trees t) → Each Has (conditions t) → Each HasQuery (option_part (leaf_query t)) → HasTree (roll-JoinTree t)
      tree_made t n ts cs q = subst (Each Q) (sym (gathered.tree t)) (each_append Q (leaf t) (all_in (map in_tree (trees t)) ++ (all_in (map in_expr (conditions t)) ++ all_in (map in_query (option_part (leaf_query t))))) n
          (each_append Q (all_in (map in_tree (trees t))) (all_in (map in_expr (conditions t)) ++ all_in (map in_query (option_part (leaf_query t)))) (all_have Q in_tree (trees t) ts)
          (each_append Q (all_in (map in_expr (conditions t))) (all_in (map in_query (option_part (leaf_query t)))) (all_have Q in_expr (conditions t) cs) (all_have Q in_query (option_part (leaf_query t)) q))))

      record TreeHas (t : JoinTreeLayer) : Type 0 where
        leaf_of : Each Q (leaf t)
        sides : Each HasTree (trees t)
        conds : Each Has (conditions t)
        query : Each HasQuery (option_part (leaf_query t))

      tree_has : (t : JoinTreeLayer) → HasTree (roll-JoinTree t) → TreeHas t
      tree_has t h =
          let all = subst (Each Q) (gathered.tree t) h in
          let rest = each_right Q (leaf t) (all_in (map in_tree (trees t)) ++ (all_in (map in_expr (conditions t)) ++ all_in (map in_query (option_part (leaf_query t))))) all in
          let last = each_right Q (all_in (map in_tree (trees t))) (all_in (map in_expr (conditions t)) ++ all_in (map in_query (option_part (leaf_query t)))) rest in
          record {
            leaf_of = each_left Q (leaf t) (all_in (map in_tree (trees t)) ++ (all_in (map in_expr (conditions t)) ++ all_in (map in_query (option_part (leaf_query t))))) all;
            sides = have_all Q in_tree (trees t) (each_left Q (all_in (map in_tree (trees t))) (all_in (map in_expr (conditions t)) ++ all_in (map in_query (option_part (leaf_query t)))) rest);
            conds = have_all Q in_expr (conditions t) (each_left Q (all_in (map in_expr (conditions t))) (all_in (map in_query (option_part (leaf_query t)))) last);
            query = have_all Q in_query (option_part (leaf_query t)) (each_right Q (all_in (map in_expr (conditions t))) (all_in (map in_query (option_part (leaf_query t)))) last);
          }

      record QueryHas (q : QueryLayer) : Type 0 where
        columns : Each (λ u. Each Q (in_output u)) q.columns
        tree : HasTree q.tree
        conds : Each Has q.conds
        order : Each (λ o. Each Q (in_order o)) q.order

      query_has : (q : QueryLayer) → HasQuery (roll-Query q) → QueryHas q
      query_has q h =
          let outputs = all_in (map in_output q.columns) in
          let conds = all_in (map in_expr q.conds) in
          let order = all_in (map in_order q.order) in
          let all = subst (Each Q) (gathered.query q) h in
          let rest = each_right Q outputs (in_tree q.tree ++ (conds ++ order)) all in
          let last = each_right Q (in_tree q.tree) (conds ++ order) rest in
          record {
            columns = have_all Q in_output q.columns (each_left Q outputs (in_tree q.tree ++ (conds ++ order)) all);
            tree = each_left Q (in_tree q.tree) (conds ++ order) rest;
            conds = have_all Q in_expr q.conds (each_left Q conds order last);
            order = have_all Q in_order q.order (each_right Q conds order last);
          }

      query_made : (q : QueryLayer) → QueryHas q → HasQuery (roll-Query q)
      query_made q h =
          let conds = all_in (map in_expr q.conds) in
          let order = all_in (map in_order q.order) in
          subst (Each Q) (sym (gathered.query q)) (each_append Q (all_in (map in_output q.columns)) (in_tree q.tree ++ (conds ++ order)) (all_have Q in_output q.columns h.columns)
          (each_append Q (in_tree q.tree) (conds ++ order) h.tree (each_append Q conds order (all_have Q in_expr q.conds h.conds) (all_have Q in_order q.order h.order))))

      nothing : (xs : List X) → xs ≡ [] → Each Q xs
      nothing xs h = subst (Each Q) (sym h) tt

    module _ (Before P : X → Type 0) (is : IsOwn Before P) where
      literal_has : (v : Value) (t : Ty) → Has P (fold.literal v t)
      literal_has v t = expr_made P (Expr-F.Lit v t) (nothing P (own (Expr-F.Lit v t)) (is.literal v t)) tt tt

      closed : levels.IsClosed (Has P)
      closed = record {
        null = λ t. literal_has value.Null t;
        truth = λ b. literal_has (value.Bool b) ty.Boolean;
        and_parts = λ es h. (expr_has P (Expr-F.And es) h).exprs;
        or_parts = λ es h. (expr_has P (Expr-F.Or es) h).exprs;
        and_made = λ e es h. expr_made P (Expr-F.And (e ∷ es)) (nothing P (own (Expr-F.And (e ∷ es))) (is.and_node (e ∷ es))) h tt;
        or_made = λ e es h. expr_made P (Expr-F.Or (e ∷ es)) (nothing P (own (Expr-F.Or (e ∷ es))) (is.or_node (e ∷ es))) h tt;
      }

      computed_has : (x : ExprLayer) → levels.WhereComputed (Has P) x
      computed_has x none alone = literal_has _ _

      conditions_have : (es : List Expr) → Each (Has P) es → Each (Has P) (fold.conditions_folded es)
      conditions_have es h = levels.at_conditions (Has P) closed es (computed_has (Expr-F.And es)) h

      tree_folds : (t : JoinTreeLayer) → TreeHas P t → HasTree P (fold.tree_folded t)
      tree_folds (JoinTree-F.Base rel name table) h = tree_made P (JoinTree-F.Base rel name table) h.leaf_of tt tt tt
      tree_folds (JoinTree-F.Sub rel name query) h = tree_made P (JoinTree-F.Sub rel name query) h.leaf_of tt tt h.query
      tree_folds (JoinTree-F.Join join.Right left right on) h = tree_made P (JoinTree-F.Join join.Left right left (fold.conditions_folded on)) (nothing P _ (is.join_leaf join.Left right left (fold.conditions_folded on))) (h.sides.1.0, (h.sides.0, tt)) (conditions_have on h.conds) tt
      tree_folds (JoinTree-F.Join kind left right on) h = tree_made P (JoinTree-F.Join kind left right (fold.conditions_folded on)) (nothing P _ (is.join_leaf kind left right (fold.conditions_folded on))) h.sides (conditions_have on h.conds) tt
      tree_folds (JoinTree-F.From members conds) h = tree_made P (JoinTree-F.From members (fold.conditions_folded conds)) (nothing P _ (is.from_leaf members (fold.conditions_folded conds))) h.sides (conditions_have conds h.conds) tt

      -- ---- the whole

      abbrev KeptExpr : Expr → Type 0
      KeptExpr e = Has Before e → Has P (fold.folded_expr e)

      abbrev KeptTree : JoinTree → Type 0
      KeptTree t = HasTree Before t → HasTree P (fold.folded_tree t)

      abbrev KeptOrder : Order → Type 0
      KeptOrder o = Each Before (in_order o) → Each P (in_order (folded_order o))

      abbrev KeptOutput : Output → Type 0
      KeptOutput u = Each Before (in_output u) → Each P (in_output (folded_output u))

      abbrev KeptQuery : Query → Type 0
      KeptQuery q = HasQuery Before q → HasQuery P (fold.folded q)

      steps : induction.Steps KeptExpr KeptTree KeptOrder KeptOutput KeptQuery
      steps = record {
        expr = λ x ps qs h.
            let has = expr_has Before x h in
            let x' = expr_parts_folded x in
            let exprs = subst (Each (Has P)) (sym (parts_map fold.folded_expr fold.folded_tree folded_order folded_output fold.folded x)) (each_map (Has P) fold.folded_expr (parts x) (kept (Has Before) (λ e. Has P (fold.folded_expr e)) (parts x) ps has.exprs)) in
            let queries = subst (Each (HasQuery P)) (sym (sublink_map fold.folded_expr fold.folded_tree folded_order folded_output fold.folded x)) (each_map (HasQuery P) fold.folded (option_part (sublink_query x)) (kept (HasQuery Before) (λ q. HasQuery P (fold.folded q)) (option_part (sublink_query x)) qs has.query)) in
            subst (Has P) (sym (fold-roll-Expr Expr JoinTree Order Output Query fold.expr_folded fold.tree_folded roll-Order roll-Output fold.query_folded x))
            (levels.at_level (Has P) closed x' (computed_has x') exprs (expr_made P x' (is.node x has.node) exprs queries));
        tree = λ t ts cs qs h.
            let has = tree_has Before t h in
            let t' = tree_parts_folded t in
            subst (HasTree P) (sym (fold-roll-JoinTree Expr JoinTree Order Output Query fold.expr_folded fold.tree_folded roll-Order roll-Output fold.query_folded t))
            (tree_folds t' (record {
              leaf_of = is.own_leaf t has.leaf_of;
              sides = subst (Each (HasTree P)) (sym (trees_map fold.folded_expr fold.folded_tree folded_order folded_output fold.folded t)) (each_map (HasTree P) fold.folded_tree (trees t) (kept (HasTree Before) (λ e. HasTree P (fold.folded_tree e)) (trees t) ts has.sides));
              conds = subst (Each (Has P)) (sym (conditions_map fold.folded_expr fold.folded_tree folded_order folded_output fold.folded t)) (each_map (Has P) fold.folded_expr (conditions t) (kept (Has Before) (λ e. Has P (fold.folded_expr e)) (conditions t) cs has.conds));
              query = subst (Each (HasQuery P)) (sym (leaf_map fold.folded_expr fold.folded_tree folded_order folded_output fold.folded t)) (each_map (HasQuery P) fold.folded (option_part (leaf_query t)) (kept (HasQuery Before) (λ q. HasQuery P (fold.folded q)) (option_part (leaf_query t)) qs has.query));
            }));
        order = λ o k h. subst (Each P) (sym (ap in_order (fold-roll-Order Expr JoinTree Order Output Query fold.expr_folded fold.tree_folded roll-Order roll-Output fold.query_folded o) ∙ gathered.order (record { expr = fold.folded_expr o.expr; desc = o.desc; nulls_first = o.nulls_first })))
            (k (subst (Each Before) (gathered.order o) h));
        output = λ u k h. subst (Each P) (sym (ap in_output (fold-roll-Output Expr JoinTree Order Output Query fold.expr_folded fold.tree_folded roll-Order roll-Output fold.query_folded u) ∙ gathered.output (record { name = u.name; ty = u.ty; expr = fold.folded_expr u.expr })))
            (k (subst (Each Before) (gathered.output u) h));
        query = λ q us t cs os h.
            let has = query_has Before q h in
            subst (HasQuery P) (sym (fold-roll-Query Expr JoinTree Order Output Query fold.expr_folded fold.tree_folded roll-Order roll-Output fold.query_folded q))
            (query_made P (record (query_parts_folded q) { conds = fold.conditions_folded (map fold.folded_expr q.conds) }) (record {
              columns = each_map (λ u. Each P (in_output u)) folded_output q.columns (kept (λ u. Each Before (in_output u)) (λ u. Each P (in_output (folded_output u))) q.columns us has.columns);
              tree = t has.tree;
              conds = conditions_have (map fold.folded_expr q.conds) (each_map (Has P) fold.folded_expr q.conds (kept (Has Before) (λ e. Has P (fold.folded_expr e)) q.conds cs has.conds));
              order = each_map (λ o. Each P (in_order o)) folded_order q.order (kept (λ o. Each Before (in_order o)) (λ o. Each P (in_order (folded_order o))) q.order os has.order);
            }));
      }

      -- what was as Before says of each thing gathered from a query is as P says when it is folded
      pub query_keeps : (q : Query) → Each Before (in_query q) → Each P (in_query (fold.folded q))
      query_keeps = induction.at_query KeptExpr KeptTree KeptOrder KeptOutput KeptQuery steps
