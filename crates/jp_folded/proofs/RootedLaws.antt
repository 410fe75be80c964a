-- Where each join tree in a query has a leaf, each has one when the query is folded.
use Rattle.std.proofs.Common.{◌≡◌, ◌∙◌, ap, sym, subst, refl, Bool, true, ◌&&◌, List, [], ◌∷◌, map}
use Rattle.jp_base.specs.declared.values.Ty.{Ty}
use Rattle.jp_base.specs.declared.values.Ty.TheVariants as ty
use Rattle.jp_base.specs.declared.values.Value.{Value}
use Rattle.jp_base.specs.declared.values.Value.TheVariants as value
use Rattle.jp_query.specs.declared.JoinKind.TheVariants as join
use Rattle.jp_query.specs.declared.Expr.{Expr}
use Rattle.jp_query.specs.declared.JoinTree.{JoinTree}
use Rattle.jp_query.specs.declared.Order.{Order}
use Rattle.jp_query.specs.declared.Output.{Output}
use Rattle.jp_query.specs.declared.Query.{Query}
use Rattle.jp_query.specs.declared.Expr.TheOpen.{Expr-F, JoinTree-F}
use Rattle.jp_query.specs.declared.Expr.TheViews.{roll-Expr, roll-JoinTree, roll-Order, roll-Output, roll-Query}
use Rattle.jp_query.specs.declared.Expr.TheFolds.{fold-Expr, fold-JoinTree, fold-Order, fold-Output, map-JoinTree, fold-roll-Expr, fold-roll-JoinTree, fold-roll-Order, fold-roll-Output, fold-roll-Query}
use Rattle.jp_query.specs.Conditions.{all_true, expr_rooted, tree_rooted, order_rooted, output_rooted, query_rooted, has_leaves}
use Rattle.jp_query.specs.Layers.{ExprLayer, JoinTreeLayer, QueryLayer}
use Rattle.jp_query.specs.Parts.{option_part, parts, sublink_query, trees, conditions, leaf_query}
use Rattle.jp_query.specs.Typing.{is_listed}
use Rattle.jp_induction.proofs.Induction as induction
use Rattle.jp_laws.proofs.EachPart.{Each, each_map, parts_map, sublink_map, trees_map, conditions_map, leaf_map}
use Rattle.jp_laws.proofs.ValueLaws.{and_left, and_right}
use Rattle.jp_folding.specs.Folding as fold
use Rattle.jp_folding.proofs.TypeLaws.{folded_order, folded_output, expr_parts_folded, tree_parts_folded, query_parts_folded}
use Rattle.jp_folded.proofs.LevelLaws as levels
use Rattle.jp_folded.proofs.Lists.{all_of, each_from, both, kept}

abbrev rooted_expr : Expr → Bool
rooted_expr = fold-Expr Bool Bool Bool Bool Bool expr_rooted tree_rooted order_rooted output_rooted query_rooted

abbrev rooted_tree : JoinTree → Bool
rooted_tree = fold-JoinTree Bool Bool Bool Bool Bool expr_rooted tree_rooted order_rooted output_rooted query_rooted

abbrev rooted_order : Order → Bool
rooted_order = fold-Order Bool Bool Bool Bool Bool expr_rooted tree_rooted order_rooted output_rooted query_rooted

abbrev rooted_output : Output → Bool
rooted_output = fold-Output Bool Bool Bool Bool Bool expr_rooted tree_rooted order_rooted output_rooted query_rooted

abbrev Free : Expr → Type 0
Free e = rooted_expr e ≡ true

abbrev FreeTree : JoinTree → Type 0
FreeTree t = rooted_tree t ≡ true

abbrev FreeQuery : Query → Type 0
FreeQuery q = has_leaves q ≡ true

-- ---- expressions

free_at : (x : ExprLayer) → rooted_expr (roll-Expr x) ≡ (all_true (map rooted_expr (parts x)) && all_true (map has_leaves (option_part (sublink_query x))))
free_at x = fold-roll-Expr Bool Bool Bool Bool Bool expr_rooted tree_rooted order_rooted output_rooted query_rooted x
    ∙ (λ i. all_true (parts_map rooted_expr rooted_tree rooted_order rooted_output has_leaves x i) && all_true (sublink_map rooted_expr rooted_tree rooted_order rooted_output has_leaves x i))

rolled : (x : ExprLayer) → Each Free (parts x) → Each FreeQuery (option_part (sublink_query x)) → Free (roll-Expr x)
rolled x ps qs = free_at x ∙ both (all_true (map rooted_expr (parts x))) (all_true (map has_leaves (option_part (sublink_query x)))) (all_of rooted_expr (parts x) ps) (all_of has_leaves (option_part (sublink_query x)) qs)

parts_of : (x : ExprLayer) → Free (roll-Expr x) → Each Free (parts x)
parts_of x h = each_from rooted_expr (parts x) (and_left (all_true (map rooted_expr (parts x))) (all_true (map has_leaves (option_part (sublink_query x)))) (sym (free_at x) ∙ h))

sublinks_of : (x : ExprLayer) → Free (roll-Expr x) → Each FreeQuery (option_part (sublink_query x))
sublinks_of x h = each_from has_leaves (option_part (sublink_query x)) (and_right (all_true (map rooted_expr (parts x))) (all_true (map has_leaves (option_part (sublink_query x)))) (sym (free_at x) ∙ h))

literal_free : (v : Value) (t : Ty) → Free (fold.literal v t)
literal_free v t = rolled (Expr-F.Lit v t) tt tt

closed : levels.IsClosed Free
closed = record {
  null = λ t. literal_free value.Null t;
  truth = λ b. literal_free (value.Bool b) ty.Boolean;
  and_parts = λ es h. parts_of (Expr-F.And es) h;
  or_parts = λ es h. parts_of (Expr-F.Or es) h;
  and_made = λ e es h. rolled (Expr-F.And (e ∷ es)) h tt;
  or_made = λ e es h. rolled (Expr-F.Or (e ∷ es)) h tt;
}

made : (x : ExprLayer) → levels.WhereComputed Free x
made x none alone = literal_free _ _

conditions_free : (es : List Expr) → Each Free es → Each Free (fold.conditions_folded es)
conditions_free es h = levels.at_conditions Free closed es (made (Expr-F.And es)) h

-- ---- trees

tree_at : (t : JoinTreeLayer) → rooted_tree (roll-JoinTree t) ≡ tree_rooted (map-JoinTree Expr JoinTree Order Output Query Bool Bool Bool Bool Bool rooted_expr rooted_tree rooted_order rooted_output has_leaves t)
tree_at = fold-roll-JoinTree Bool Bool Bool Bool Bool expr_rooted tree_rooted order_rooted output_rooted query_rooted

-- a FROM list has a member
abbrev IsFilled : JoinTreeLayer → Type 0
IsFilled (JoinTree-F.From members conds) = is_listed members ≡ true
IsFilled _ = Unit {0}

record TreeHas (t : JoinTreeLayer) : Type 0 where
  filled : IsFilled t
  sides : Each FreeTree (trees t)
  conds : Each Free (conditions t)
  query : Each FreeQuery (option_part (leaf_query t))

listed_map : {X Y : Type 0} (f : X → Y) (xs : List X) → is_listed (map f xs) ≡ is_listed xs
listed_map f [] = refl
listed_map f (x ∷ xs) = refl

tree_has : (t : JoinTreeLayer) → FreeTree (roll-JoinTree t) → TreeHas t
tree_has (JoinTree-F.Base rel name table) h = record { filled = tt; sides = tt; conds = tt; query = tt }
tree_has (JoinTree-F.Sub rel name query) h = record { filled = tt; sides = tt; conds = tt; query = (and_left (has_leaves query) true (sym (tree_at (JoinTree-F.Sub rel name query)) ∙ h), tt) }
tree_has (JoinTree-F.Join kind left right on) h =
    let all = sym (tree_at (JoinTree-F.Join kind left right on)) ∙ h in
    let sides = and_left (all_true (rooted_tree left ∷ rooted_tree right ∷ [])) (all_true (map rooted_expr on) && true) all in
    let rest = and_right (all_true (rooted_tree left ∷ rooted_tree right ∷ [])) (all_true (map rooted_expr on) && true) all in
    record { filled = tt; sides = each_from rooted_tree (left ∷ right ∷ []) sides; conds = each_from rooted_expr on (and_left (all_true (map rooted_expr on)) true rest); query = tt }
tree_has (JoinTree-F.From members conds) h =
    let all = sym (tree_at (JoinTree-F.From members conds)) ∙ h in
    let listed = is_listed (map rooted_tree members) in
    let ts = all_true (map rooted_tree members) in
    let cs = all_true (map rooted_expr conds) in
    let rest = and_right listed (ts && cs) all in
    record { filled = sym (listed_map rooted_tree members) ∙ and_left listed (ts && cs) all; sides = each_from rooted_tree members (and_left ts cs rest); conds = each_from rooted_expr conds (and_right ts cs rest); query = tt }

tree_made : (t : JoinTreeLayer) → TreeHas t → FreeTree (roll-JoinTree t)
tree_made (JoinTree-F.Base rel name table) h = tree_at (JoinTree-F.Base rel name table)
tree_made (JoinTree-F.Sub rel name query) h = tree_at (JoinTree-F.Sub rel name query) ∙ (λ i. h.query.0 i && true)
tree_made (JoinTree-F.Join kind left right on) h = tree_at (JoinTree-F.Join kind left right on) ∙ (λ i. all_of rooted_tree (left ∷ right ∷ []) h.sides i && (all_of rooted_expr on h.conds i && true))
tree_made (JoinTree-F.From members conds) h = tree_at (JoinTree-F.From members conds) ∙ (λ i. (listed_map rooted_tree members ∙ h.filled) i && (all_of rooted_tree members h.sides i && all_of rooted_expr conds h.conds i))

tree_folds : (t : JoinTreeLayer) → TreeHas t → FreeTree (fold.tree_folded t)
tree_folds (JoinTree-F.Base rel name table) h = tree_made (JoinTree-F.Base rel name table) h
tree_folds (JoinTree-F.Sub rel name query) h = tree_made (JoinTree-F.Sub rel name query) h
tree_folds (JoinTree-F.Join join.Right left right on) h = tree_made (JoinTree-F.Join join.Left right left (fold.conditions_folded on)) (record { filled = tt; sides = (h.sides.1.0, (h.sides.0, tt)); conds = conditions_free on h.conds; query = tt })
tree_folds (JoinTree-F.Join kind left right on) h = tree_made (JoinTree-F.Join kind left right (fold.conditions_folded on)) (record { filled = tt; sides = h.sides; conds = conditions_free on h.conds; query = tt })
tree_folds (JoinTree-F.From members conds) h = tree_made (JoinTree-F.From members (fold.conditions_folded conds)) (record { filled = h.filled; sides = h.sides; conds = conditions_free conds h.conds; query = tt })

query_at : (q : QueryLayer) → has_leaves (roll-Query q) ≡ (all_true (map rooted_output q.columns) && (rooted_tree q.tree && (all_true (map rooted_expr q.conds) && all_true (map rooted_order q.order))))
query_at = fold-roll-Query Bool Bool Bool Bool Bool expr_rooted tree_rooted order_rooted output_rooted query_rooted

-- ---- the whole

abbrev KeptExpr : Expr → Type 0
KeptExpr e = Free e → Free (fold.folded_expr e)

abbrev KeptTree : JoinTree → Type 0
KeptTree t = FreeTree t → FreeTree (fold.folded_tree t)

abbrev KeptOrder : Order → Type 0
KeptOrder o = rooted_order o ≡ true → rooted_order (folded_order o) ≡ true

abbrev KeptOutput : Output → Type 0
KeptOutput u = rooted_output u ≡ true → rooted_output (folded_output u) ≡ true

abbrev KeptQuery : Query → Type 0
KeptQuery q = FreeQuery q → FreeQuery (fold.folded q)

filled_map : (t : JoinTreeLayer) → IsFilled t → IsFilled (tree_parts_folded t)
filled_map (JoinTree-F.From members conds) h = listed_map fold.folded_tree members ∙ h
filled_map (JoinTree-F.Base rel name table) h = tt
filled_map (JoinTree-F.Sub rel name query) h = tt
filled_map (JoinTree-F.Join kind left right on) h = tt

steps : induction.Steps KeptExpr KeptTree KeptOrder KeptOutput KeptQuery
steps = record {
  expr = λ x ps qs h.
      let x' = expr_parts_folded x in
      let exprs = subst (Each Free) (sym (parts_map fold.folded_expr fold.folded_tree folded_order folded_output fold.folded x)) (each_map Free fold.folded_expr (parts x) (kept Free (λ e. Free (fold.folded_expr e)) (parts x) ps (parts_of x h))) in
      let queries = subst (Each FreeQuery) (sym (sublink_map fold.folded_expr fold.folded_tree folded_order folded_output fold.folded x)) (each_map FreeQuery fold.folded (option_part (sublink_query x)) (kept FreeQuery (λ q. FreeQuery (fold.folded q)) (option_part (sublink_query x)) qs (sublinks_of x h))) in
      subst Free (sym (fold-roll-Expr Expr JoinTree Order Output Query fold.expr_folded fold.tree_folded roll-Order roll-Output fold.query_folded x))
      (levels.at_level Free closed x' (made x') exprs (rolled x' exprs queries));
  tree = λ t ts cs qs h.
      let has = tree_has t h in
      subst FreeTree (sym (fold-roll-JoinTree Expr JoinTree Order Output Query fold.expr_folded fold.tree_folded roll-Order roll-Output fold.query_folded t))
      (tree_folds (tree_parts_folded t) (record {
        filled = filled_map t has.filled;
        sides = subst (Each FreeTree) (sym (trees_map fold.folded_expr fold.folded_tree folded_order folded_output fold.folded t)) (each_map FreeTree fold.folded_tree (trees t) (kept FreeTree (λ e. FreeTree (fold.folded_tree e)) (trees t) ts has.sides));
        conds = subst (Each Free) (sym (conditions_map fold.folded_expr fold.folded_tree folded_order folded_output fold.folded t)) (each_map Free fold.folded_expr (conditions t) (kept Free (λ e. Free (fold.folded_expr e)) (conditions t) cs has.conds));
        query = subst (Each FreeQuery) (sym (leaf_map fold.folded_expr fold.folded_tree folded_order folded_output fold.folded t)) (each_map FreeQuery fold.folded (option_part (leaf_query t)) (kept FreeQuery (λ q. FreeQuery (fold.folded q)) (option_part (leaf_query t)) qs has.query));
      }));
  order = λ o k h. ap rooted_order (fold-roll-Order Expr JoinTree Order Output Query fold.expr_folded fold.tree_folded roll-Order roll-Output fold.query_folded o)
      ∙ fold-roll-Order Bool Bool Bool Bool Bool expr_rooted tree_rooted order_rooted output_rooted query_rooted (record { expr = fold.folded_expr o.expr; desc = o.desc; nulls_first = o.nulls_first })
      ∙ k (sym (fold-roll-Order Bool Bool Bool Bool Bool expr_rooted tree_rooted order_rooted output_rooted query_rooted o) ∙ h);
  output = λ u k h. ap rooted_output (fold-roll-Output Expr JoinTree Order Output Query fold.expr_folded fold.tree_folded roll-Order roll-Output fold.query_folded u)
      ∙ fold-roll-Output Bool Bool Bool Bool Bool expr_rooted tree_rooted order_rooted output_rooted query_rooted (record { name = u.name; ty = u.ty; expr = fold.folded_expr u.expr })
      ∙ k (sym (fold-roll-Output Bool Bool Bool Bool Bool expr_rooted tree_rooted order_rooted output_rooted query_rooted u) ∙ h);
  query = λ q us t cs os h.
      let all = sym (query_at q) ∙ h in
      let b1 = all_true (map rooted_output q.columns) in
      let b2 = rooted_tree q.tree in
      let b3 = all_true (map rooted_expr q.conds) in
      let b4 = all_true (map rooted_order q.order) in
      let r1 = and_right b1 (b2 && (b3 && b4)) all in
      let r2 = and_right b2 (b3 && b4) r1 in
      let columns = all_of rooted_output (map folded_output q.columns) (each_map (λ u. rooted_output u ≡ true) folded_output q.columns (kept (λ u. rooted_output u ≡ true) (λ u. rooted_output (folded_output u) ≡ true) q.columns us (each_from rooted_output q.columns (and_left b1 (b2 && (b3 && b4)) all)))) in
      let conds = conditions_free (map fold.folded_expr q.conds) (each_map Free fold.folded_expr q.conds (kept Free (λ e. Free (fold.folded_expr e)) q.conds cs (each_from rooted_expr q.conds (and_left b3 b4 r2)))) in
      let order = all_of rooted_order (map folded_order q.order) (each_map (λ o. rooted_order o ≡ true) folded_order q.order (kept (λ o. rooted_order o ≡ true) (λ o. rooted_order (folded_order o) ≡ true) q.order os (each_from rooted_order q.order (and_right b3 b4 r2)))) in
      subst FreeQuery (sym (fold-roll-Query Expr JoinTree Order Output Query fold.expr_folded fold.tree_folded roll-Order roll-Output fold.query_folded q))
      (query_at (record (query_parts_folded q) { conds = fold.conditions_folded (map fold.folded_expr q.conds) })
      ∙ (λ i. columns i && (t (and_left b2 (b3 && b4) r1) i && (all_of rooted_expr (fold.conditions_folded (map fold.folded_expr q.conds)) conds i && order i))));
}

pub leaves_left : (q : Query) → has_leaves q ≡ true → has_leaves (fold.folded q) ≡ true
leaves_left = induction.at_query KeptExpr KeptTree KeptOrder KeptOutput KeptQuery steps
