-- What is folded has no Right join.
use Rattle.std.proofs.Common.{◌≡◌, ◌∙◌, ap, sym, subst, refl, Bool, true, false, ◌&&◌, List, [], ◌∷◌, ◌++◌, map}
use Rattle.std.specs.Prelude.{if◌then◌else◌}
use Rattle.std.specs.List.{list_all, list_any}
use Rattle.jp_base.specs.declared.values.Ty.{Ty}
use Rattle.jp_base.specs.declared.values.Value.{Value}
use Rattle.jp_base.specs.declared.values.Value.TheVariants as value
use Rattle.jp_query.specs.declared.JoinKind.{JoinKind}
use Rattle.jp_query.specs.declared.JoinKind.TheVariants as join
use Rattle.jp_query.specs.declared.Expr.{Expr, out-Expr}
use Rattle.jp_query.specs.declared.JoinTree.{JoinTree}
use Rattle.jp_query.specs.declared.Order.{Order}
use Rattle.jp_query.specs.declared.Output.{Output}
use Rattle.jp_query.specs.declared.Query.{Query}
use Rattle.jp_query.specs.declared.Expr.TheOpen.{Expr-F, JoinTree-F}
use Rattle.jp_query.specs.declared.Expr.TheViews.{roll-Expr, roll-JoinTree, roll-Order, roll-Output, roll-Query, roll-out-Expr}
use Rattle.jp_query.specs.declared.Expr.TheFolds.{fold-Order, fold-Output, map-Expr, map-JoinTree, fold-roll-Expr, fold-roll-JoinTree, fold-roll-Order, fold-roll-Output, fold-roll-Query}
use Rattle.jp_query.specs.Conditions.{all_true}
use Rattle.jp_query.specs.Layers.{ExprLayer, JoinTreeLayer, QueryLayer}
use Rattle.jp_query.specs.NoRight.{expr_without_right, tree_without_right, order_without_right, output_without_right, query_without_right, has_no_right_in_expr, has_no_right_in_tree, has_no_right}
use Rattle.jp_query.specs.Parts.{all_in, option_part, parts, sublink_query, trees, conditions, leaf_query}
use Rattle.jp_induction.proofs.Induction as induction
use Rattle.jp_laws.proofs.EachPart.{Each, each_append, each_mapped, each_map, each_true, parts_map, sublink_map, trees_map, conditions_map, leaf_map}
use Rattle.jp_laws.proofs.ValueLaws.{and_left, and_right}
use Rattle.jp_folding.specs.Folding as fold
use Rattle.jp_folding.proofs.TypeLaws.{folded_order, folded_output, expr_parts_folded, tree_parts_folded, query_parts_folded}

abbrev Free : Expr → Type 0
Free e = has_no_right_in_expr e ≡ true

abbrev FreeTree : JoinTree → Type 0
FreeTree t = has_no_right_in_tree t ≡ true

abbrev FreeQuery : Query → Type 0
FreeQuery q = has_no_right q ≡ true

abbrev of_order : Order → Bool
of_order = fold-Order Bool Bool Bool Bool Bool expr_without_right tree_without_right order_without_right output_without_right query_without_right

abbrev of_output : Output → Bool
of_output = fold-Output Bool Bool Bool Bool Bool expr_without_right tree_without_right order_without_right output_without_right query_without_right

-- ---- lists of tests

module _ {X : Type 0} (f : X → Bool) where
  all_of : (xs : List X) → Each (λ x. f x ≡ true) xs → all_true (map f xs) ≡ true
  all_of [] h = refl
  all_of (x ∷ xs) h = λ i. h.0 i && all_of xs h.1 i

  each_from : (xs : List X) → all_true (map f xs) ≡ true → Each (λ x. f x ≡ true) xs
  each_from [] h = tt
  each_from (x ∷ xs) h = (and_left (f x) (all_true (map f xs)) h, each_from xs (and_right (f x) (all_true (map f xs)) h))

both : (a b : Bool) → a ≡ true → b ≡ true → (a && b) ≡ true
both a b h k = λ i. h i && k i

-- ---- expressions

free_at : (x : ExprLayer) → has_no_right_in_expr (roll-Expr x) ≡ (all_true (map has_no_right_in_expr (parts x)) && all_true (map has_no_right (option_part (sublink_query x))))
free_at x = fold-roll-Expr Bool Bool Bool Bool Bool expr_without_right tree_without_right order_without_right output_without_right query_without_right x
    ∙ (λ i. all_true (parts_map has_no_right_in_expr has_no_right_in_tree of_order of_output has_no_right x i) && all_true (sublink_map has_no_right_in_expr has_no_right_in_tree of_order of_output has_no_right x i))

rolled : (x : ExprLayer) → Each Free (parts x) → Each FreeQuery (option_part (sublink_query x)) → Free (roll-Expr x)
rolled x ps qs = free_at x ∙ both (all_true (map has_no_right_in_expr (parts x))) (all_true (map has_no_right (option_part (sublink_query x)))) (all_of has_no_right_in_expr (parts x) ps) (all_of has_no_right (option_part (sublink_query x)) qs)

parts_of : (x : ExprLayer) → Free (roll-Expr x) → Each Free (parts x)
parts_of x h = each_from has_no_right_in_expr (parts x) (and_left (all_true (map has_no_right_in_expr (parts x))) (all_true (map has_no_right (option_part (sublink_query x)))) (sym (free_at x) ∙ h))

literal_free : (v : Value) (t : Ty) → Free (fold.literal v t)
literal_free v t = rolled (Expr-F.Lit v t) tt tt

if_computed_free : (x : ExprLayer) (e : Expr) → Free e → Free (fold.if_computed x e)
if_computed_free x e h = by (fold.has_literals_alone x)
  where
    by : (b : Bool) → Free (if b then fold.computed x else e)
    by true = literal_free _ _
    by false = h

if_null_free : (x : ExprLayer) → Free (roll-Expr x) → Free (fold.if_null x)
if_null_free x h = by (list_any fold.is_null (parts x))
  where
    by : (b : Bool) → Free (if b then fold.literal value.Null (fold.type_at x) else roll-Expr x)
    by true = literal_free value.Null (fold.type_at x)
    by false = h

and_at_free : (x : ExprLayer) (e : Expr) → Free (roll-Expr x) → Free e → Each Free (fold.and_at x e)
and_at_free (Expr-F.And members) e h k = parts_of (Expr-F.And members) h
and_at_free (Expr-F.Lit (value.Bool true) t) e h k = tt
and_at_free x e h k = (k, tt)

and_members_free : (e : Expr) → Free e → Each Free (fold.and_members e)
and_members_free e h = and_at_free (out-Expr e) e (ap has_no_right_in_expr (roll-out-Expr e) ∙ h) h

or_at_free : (x : ExprLayer) (e : Expr) → Free (roll-Expr x) → Free e → Each Free (fold.or_at x e)
or_at_free (Expr-F.Or members) e h k = parts_of (Expr-F.Or members) h
or_at_free (Expr-F.Lit (value.Bool false) t) e h k = tt
or_at_free x e h k = (k, tt)

or_members_free : (e : Expr) → Free e → Each Free (fold.or_members e)
or_members_free e h = or_at_free (out-Expr e) e (ap has_no_right_in_expr (roll-out-Expr e) ∙ h) h

all_free : (f : Expr → List Expr) → ((e : Expr) → Free e → Each Free (f e)) → (es : List Expr) → Each Free es → Each Free (all_in (map f es))
all_free f good [] h = tt
all_free f good (e ∷ es) h = each_append Free (f e) (all_in (map f es)) (good e h.0) (all_free f good es h.1)

one_and_free : (es : List Expr) → Each Free es → Free (fold.one_and es)
one_and_free [] h = literal_free (value.Bool true) _
one_and_free (e ∷ []) h = h.0
one_and_free (e ∷ d ∷ es) h = rolled (Expr-F.And (e ∷ d ∷ es)) h tt

one_or_free : (es : List Expr) → Each Free es → Free (fold.one_or es)
one_or_free [] h = literal_free (value.Bool false) _
one_or_free (e ∷ []) h = h.0
one_or_free (e ∷ d ∷ es) h = rolled (Expr-F.Or (e ∷ d ∷ es)) h tt

either_free : (b : Bool) (x y : Expr) → Free x → Free y → Free (if b then x else y)
either_free true x y h k = h
either_free false x y h k = k

and_free : (es : List Expr) → Each Free es → Free (fold.folded_and es)
and_free es h = either_free (list_any fold.is_false es) (fold.truth_literal false) (fold.one_and (all_in (map fold.and_members es))) (literal_free (value.Bool false) _) (one_and_free (all_in (map fold.and_members es)) (all_free fold.and_members and_members_free es h))

or_free : (es : List Expr) → Each Free es → Free (fold.folded_or es)
or_free es h = either_free (list_any fold.is_true es) (fold.truth_literal true) (fold.one_or (all_in (map fold.or_members es))) (literal_free (value.Bool true) _) (one_or_free (all_in (map fold.or_members es)) (all_free fold.or_members or_members_free es h))

level_free : (x : ExprLayer) → Each Free (parts x) → Each FreeQuery (option_part (sublink_query x)) → Free (fold.expr_folded x)
level_free (Expr-F.Neg operand) p q = if_computed_free (Expr-F.Neg operand) (fold.if_null (Expr-F.Neg operand)) (if_null_free (Expr-F.Neg operand) (rolled (Expr-F.Neg operand) p q))
level_free (Expr-F.Sum terms) p q = if_computed_free (Expr-F.Sum terms) (fold.if_null (Expr-F.Sum terms)) (if_null_free (Expr-F.Sum terms) (rolled (Expr-F.Sum terms) p q))
level_free (Expr-F.Product factors) p q = if_computed_free (Expr-F.Product factors) (fold.if_null (Expr-F.Product factors)) (if_null_free (Expr-F.Product factors) (rolled (Expr-F.Product factors) p q))
level_free (Expr-F.Concat pieces) p q = if_computed_free (Expr-F.Concat pieces) (fold.if_null (Expr-F.Concat pieces)) (if_null_free (Expr-F.Concat pieces) (rolled (Expr-F.Concat pieces) p q))
level_free (Expr-F.Compare op left right) p q = if_computed_free (Expr-F.Compare op left right) (fold.if_null (Expr-F.Compare op left right)) (if_null_free (Expr-F.Compare op left right) (rolled (Expr-F.Compare op left right) p q))
level_free (Expr-F.And es) p q = if_computed_free (Expr-F.And es) (fold.folded_and es) (and_free es p)
level_free (Expr-F.Or es) p q = if_computed_free (Expr-F.Or es) (fold.folded_or es) (or_free es p)
level_free (Expr-F.Col rel col t nulled) p q = rolled (Expr-F.Col rel col t nulled) p q
level_free (Expr-F.Lit v t) p q = rolled (Expr-F.Lit v t) p q
level_free (Expr-F.Place inner rels) p q = rolled (Expr-F.Place inner rels) p q
level_free (Expr-F.Exists sub query) p q = rolled (Expr-F.Exists sub query) p q
level_free (Expr-F.InSub sub operand query) p q = rolled (Expr-F.InSub sub operand query) p q
level_free x p q = if_computed_free x (roll-Expr x) (rolled x p q)

conditions_free : (es : List Expr) → Each Free es → Each Free (fold.conditions_folded es)
conditions_free es h = and_members_free (fold.expr_folded (Expr-F.And es)) (level_free (Expr-F.And es) h tt)

-- ---- trees

tree_at : (t : JoinTreeLayer) → has_no_right_in_tree (roll-JoinTree t) ≡ tree_without_right (map-JoinTree Expr JoinTree Order Output Query Bool Bool Bool Bool Bool has_no_right_in_expr has_no_right_in_tree of_order of_output has_no_right t)
tree_at = fold-roll-JoinTree Bool Bool Bool Bool Bool expr_without_right tree_without_right order_without_right output_without_right query_without_right

tree_case : (t : JoinTreeLayer) → Each FreeTree (trees t) → Each Free (conditions t) → Each FreeQuery (option_part (leaf_query t)) → FreeTree (fold.tree_folded t)
tree_case (JoinTree-F.Base rel name table) ts cs q = tree_at (JoinTree-F.Base rel name table)
tree_case (JoinTree-F.Sub rel name query) ts cs q = tree_at (JoinTree-F.Sub rel name query) ∙ (λ i. q.0 i && true)
tree_case (JoinTree-F.Join join.Inner left right on) ts cs q = tree_at (JoinTree-F.Join join.Inner left right (fold.conditions_folded on)) ∙ (λ i. ts.0 i && (ts.1.0 i && all_of has_no_right_in_expr (fold.conditions_folded on) (conditions_free on cs) i))
tree_case (JoinTree-F.Join join.Left left right on) ts cs q = tree_at (JoinTree-F.Join join.Left left right (fold.conditions_folded on)) ∙ (λ i. ts.0 i && (ts.1.0 i && all_of has_no_right_in_expr (fold.conditions_folded on) (conditions_free on cs) i))
tree_case (JoinTree-F.Join join.Right left right on) ts cs q = tree_at (JoinTree-F.Join join.Left right left (fold.conditions_folded on)) ∙ (λ i. ts.1.0 i && (ts.0 i && all_of has_no_right_in_expr (fold.conditions_folded on) (conditions_free on cs) i))
tree_case (JoinTree-F.Join join.Full left right on) ts cs q = tree_at (JoinTree-F.Join join.Full left right (fold.conditions_folded on)) ∙ (λ i. ts.0 i && (ts.1.0 i && all_of has_no_right_in_expr (fold.conditions_folded on) (conditions_free on cs) i))
tree_case (JoinTree-F.Join join.Semi left right on) ts cs q = tree_at (JoinTree-F.Join join.Semi left right (fold.conditions_folded on)) ∙ (λ i. ts.0 i && (ts.1.0 i && all_of has_no_right_in_expr (fold.conditions_folded on) (conditions_free on cs) i))
tree_case (JoinTree-F.Join join.Anti left right on) ts cs q = tree_at (JoinTree-F.Join join.Anti left right (fold.conditions_folded on)) ∙ (λ i. ts.0 i && (ts.1.0 i && all_of has_no_right_in_expr (fold.conditions_folded on) (conditions_free on cs) i))
tree_case (JoinTree-F.From members conds) ts cs q = tree_at (JoinTree-F.From members (fold.conditions_folded conds)) ∙ (λ i. all_of has_no_right_in_tree members ts i && (all_of has_no_right_in_expr (fold.conditions_folded conds) (conditions_free conds cs) i && true))

query_case : (q : QueryLayer) → Each (λ u. of_output u ≡ true) q.columns → FreeTree q.tree → Each Free q.conds → Each (λ o. of_order o ≡ true) q.order → FreeQuery (fold.query_folded q)
query_case q us t cs os = fold-roll-Query Bool Bool Bool Bool Bool expr_without_right tree_without_right order_without_right output_without_right query_without_right (record q { conds = fold.conditions_folded q.conds })
    ∙ (λ i. all_of of_output q.columns us i && (t i && (all_of has_no_right_in_expr (fold.conditions_folded q.conds) (conditions_free q.conds cs) i && all_of of_order q.order os i)))

-- ---- the whole

steps : induction.Steps (λ e. Free (fold.folded_expr e)) (λ t. FreeTree (fold.folded_tree t)) (λ o. of_order (folded_order o) ≡ true) (λ u. of_output (folded_output u) ≡ true) (λ q. FreeQuery (fold.folded q))
steps = record {
  expr = λ x ps qs. subst Free (sym (fold-roll-Expr Expr JoinTree Order Output Query fold.expr_folded fold.tree_folded roll-Order roll-Output fold.query_folded x))
      (level_free (expr_parts_folded x) (subst (Each Free) (sym (parts_map fold.folded_expr fold.folded_tree folded_order folded_output fold.folded x)) (each_map Free fold.folded_expr (parts x) ps))
      (subst (Each FreeQuery) (sym (sublink_map fold.folded_expr fold.folded_tree folded_order folded_output fold.folded x)) (each_map FreeQuery fold.folded (option_part (sublink_query x)) qs)));
  tree = λ x ts cs qs. subst FreeTree (sym (fold-roll-JoinTree Expr JoinTree Order Output Query fold.expr_folded fold.tree_folded roll-Order roll-Output fold.query_folded x))
      (tree_case (tree_parts_folded x) (subst (Each FreeTree) (sym (trees_map fold.folded_expr fold.folded_tree folded_order folded_output fold.folded x)) (each_map FreeTree fold.folded_tree (trees x) ts))
      (subst (Each Free) (sym (conditions_map fold.folded_expr fold.folded_tree folded_order folded_output fold.folded x)) (each_map Free fold.folded_expr (conditions x) cs))
      (subst (Each FreeQuery) (sym (leaf_map fold.folded_expr fold.folded_tree folded_order folded_output fold.folded x)) (each_map FreeQuery fold.folded (option_part (leaf_query x)) qs)));
  order = λ x h. ap of_order (fold-roll-Order Expr JoinTree Order Output Query fold.expr_folded fold.tree_folded roll-Order roll-Output fold.query_folded x)
      ∙ fold-roll-Order Bool Bool Bool Bool Bool expr_without_right tree_without_right order_without_right output_without_right query_without_right (record { expr = fold.folded_expr x.expr; desc = x.desc; nulls_first = x.nulls_first }) ∙ h;
  output = λ x h. ap of_output (fold-roll-Output Expr JoinTree Order Output Query fold.expr_folded fold.tree_folded roll-Order roll-Output fold.query_folded x)
      ∙ fold-roll-Output Bool Bool Bool Bool Bool expr_without_right tree_without_right order_without_right output_without_right query_without_right (record { name = x.name; ty = x.ty; expr = fold.folded_expr x.expr }) ∙ h;
  query = λ x us t cs os. subst FreeQuery (sym (fold-roll-Query Expr JoinTree Order Output Query fold.expr_folded fold.tree_folded roll-Order roll-Output fold.query_folded x))
      (query_case (query_parts_folded x) (each_map (λ u. of_output u ≡ true) folded_output x.columns us) t (each_map Free fold.folded_expr x.conds cs) (each_map (λ o. of_order o ≡ true) folded_order x.order os));
}

pub expr_has_none : (e : Expr) → has_no_right_in_expr (fold.folded_expr e) ≡ true
expr_has_none = induction.at_expr (λ e. Free (fold.folded_expr e)) (λ t. FreeTree (fold.folded_tree t)) (λ o. of_order (folded_order o) ≡ true) (λ u. of_output (folded_output u) ≡ true) (λ q. FreeQuery (fold.folded q)) steps

pub tree_has_none : (t : JoinTree) → has_no_right_in_tree (fold.folded_tree t) ≡ true
tree_has_none = induction.at_tree (λ e. Free (fold.folded_expr e)) (λ t. FreeTree (fold.folded_tree t)) (λ o. of_order (folded_order o) ≡ true) (λ u. of_output (folded_output u) ≡ true) (λ q. FreeQuery (fold.folded q)) steps

pub query_has_none : (q : Query) → has_no_right (fold.folded q) ≡ true
query_has_none = induction.at_query (λ e. Free (fold.folded_expr e)) (λ t. FreeTree (fold.folded_tree t)) (λ o. of_order (folded_order o) ≡ true) (λ u. of_output (folded_output u) ≡ true) (λ q. FreeQuery (fold.folded q)) steps
