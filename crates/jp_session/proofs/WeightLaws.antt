-- The parts that a block uses weigh less than its query, all of them together.
use Rattle.std.proofs.Common.{◌≡◌, ◌∙◌, ap, ap₂, sym, refl, subst, ℕ, ◌+◌, ◌<◌, ◌≤◌, List, [], ◌∷◌, ◌++◌, map, arith}
use Rattle.std.specs.Prelude.{false, fold}
use Rattle.std.specs.List.{flat_map}
use Rattle.std.proofs.lemmas.Grind.{flat_map-append}
use Rattle.jp_problem.proofs.ShapeLaws.{at_base, at_sub, at_join, at_from}
use Rattle.jp_query.specs.declared.JoinKind.{JoinKind}
use Rattle.jp_query.specs.declared.JoinKind.TheVariants as join
use Rattle.jp_query.specs.declared.Expr.TheFolds.{fold-roll-Expr, fold-roll-JoinTree, fold-roll-Query}
use Rattle.jp_query.specs.declared.Expr.TheViews.{roll-Expr, roll-JoinTree}
use Rattle.jp_query.specs.declared.Order.{out-Order}
use Rattle.jp_query.specs.declared.Output.{out-Output}
use Rattle.jp_query.specs.declared.Query.{out-Query}
use Rattle.jp_query.specs.declared.JoinTree.{out-JoinTree}
use Rattle.jp_query.specs.declared.JoinTree.{roll-out-JoinTree}
use Rattle.jp_query.specs.declared.JoinTree.TheVariants as tree
use Rattle.jp_query.specs.declared.Expr.{Expr}
use Rattle.jp_query.specs.declared.JoinTree.{JoinTree}
use Rattle.jp_query.specs.declared.Order.{Order}
use Rattle.jp_query.specs.declared.Output.{Output}
use Rattle.jp_query.specs.declared.Query.{Query}
use Rattle.jp_query.specs.declared.Expr.TheOpen.{Expr-F, JoinTree-F}
use Rattle.jp_query.specs.Layers.{ExprLayer, JoinTreeLayer}
use Rattle.jp_query.specs.Outermost.{Outer, Outers, outermost}
use Rattle.jp_query.specs.Parts.{option_part, parts, sublink_query, trees, conditions, leaf_query}
use Rattle.jp_query.proofs.FoldLaws as laws
use Rattle.jp_induction.proofs.EachPart.{Each, parts_map, sublink_map, trees_map, conditions_map, leaf_map}
use Rattle.jp_induction.proofs.Induction.{expr_alone, tree_alone}
use Rattle.jp_session.proofs.OuterLevels.{own_outers, outers_level}
use Rattle.jp_problem.specs.InnerBlocks.{side_block, blocks_at, exprs_at}
use Rattle.jp_problem.specs.Shapes.{Shape, nothing, item, beside, filtered, special, shape_of, items_in, exprs_in}
use Rattle.jp_session.specs.declared.sources.Part.{Part}
use Rattle.jp_session.specs.Parts.{condition_parts, item_part, item_parts, order_parts, output_parts, parts_of, parts_of_item, sublink_part, sublink_parts}
use Rattle.jp_session.specs.Weights.{expr_weight, tree_weight, order_weight, output_weight, query_weight, weight_of, weight_of_order, weight_of_output, weight_of_query, weight_of_tree, total}

abbrev pub part_weight : Part → ℕ
part_weight part = weight_of_query part.query

abbrev outer_weight : Outer → ℕ
outer_weight o = weight_of_query o.query

abbrev pub weighs : List Part → ℕ
weighs [] = 0
weighs (part ∷ parts) = part_weight part + weighs parts

abbrev weigh : Outers → ℕ
weigh [] = 0
weigh (o ∷ os) = outer_weight o + weigh os

weighs_both : (xs ys : List Part) → weighs (xs ++ ys) ≡ weighs xs + weighs ys
weighs_both [] ys = omega arith
weighs_both (x ∷ xs) ys = omega (arith, weighs_both xs ys)

weigh_both : (xs ys : Outers) → weigh (xs ++ ys) ≡ weigh xs + weigh ys
weigh_both [] ys = omega arith
weigh_both (x ∷ xs) ys = omega (arith, weigh_both xs ys)

-- ---- expressions

at_expr : (x : ExprLayer) → weight_of (roll-Expr x) ≡ total (map weight_of (parts x)) + total (map weight_of_query (option_part (sublink_query x)))
unfolding weight_of weight_of_query
at_expr x =
    fold-roll-Expr ℕ ℕ ℕ ℕ ℕ expr_weight tree_weight order_weight output_weight query_weight x
    ∙ ap₂ (λ (a b : List ℕ). total a + total b) (parts_map weight_of weight_of_tree weight_of_order weight_of_output weight_of_query x) (sublink_map weight_of weight_of_tree weight_of_order weight_of_output weight_of_query x)

here_weighs : (x : ExprLayer) → weigh (own_outers x) ≡ total (map weight_of_query (option_part (sublink_query x)))
here_weighs (Expr-F.Exists sub q) = refl
here_weighs (Expr-F.InSub sub e q) = refl
here_weighs x = refl

abbrev IsLight : Expr → Type 0
IsLight e = weigh (outermost e) ≤ weight_of e

parts_light : (es : List Expr) → Each IsLight es → weigh (flat_map outermost es) ≤ total (map weight_of es)
parts_light [] h = omega arith
parts_light (e ∷ es) h = omega (arith, weigh_both (outermost e) (flat_map outermost es), h.0, parts_light es h.1)

light_step : (x : ExprLayer) → Each IsLight (parts x) → IsLight (roll-Expr x)
light_step x inner =
    omega (arith, at_expr x, here_weighs x, parts_light (parts x) inner, ap (weigh) (outers_level x), weigh_both (own_outers x) (flat_map outermost (parts x)))

light : (e : Expr) → IsLight e
light = expr_alone IsLight light_step

mapped : (os : Outers) → weighs (map sublink_part os) ≡ weigh os
mapped [] = refl
mapped (o ∷ os) = ap (λ n. outer_weight o + n) (mapped os)

sublinks_light : (e : Expr) → weighs (sublink_parts e) ≤ weight_of e
unfolding sublink_parts
sublinks_light e = omega (arith, mapped (outermost e), light e)

list_light : {X : Type 0} (f : X → List Part) (w : X → ℕ) → ((x : X) → weighs (f x) ≤ w x) → (xs : List X) → weighs (flat_map f xs) ≤ total (map w xs)
list_light f w h [] = omega arith
list_light f w h (x ∷ xs) = omega (arith, weighs_both (f x) (flat_map f xs), h x, list_light f w h xs)

exprs_light : (es : List Expr) → weighs (flat_map sublink_parts es) ≤ total (map weight_of es)
exprs_light = list_light sublink_parts weight_of sublinks_light

output_light : (u : Output) → weighs (output_parts u) ≤ weight_of_output u
unfolding weight_of weight_of_output
output_light u = omega (arith, sublinks_light (out-Output u).expr, laws.at-Output ℕ ℕ ℕ ℕ ℕ expr_weight tree_weight order_weight output_weight query_weight u)

order_light : (o : Order) → weighs (order_parts o) ≤ weight_of_order o
unfolding weight_of weight_of_order
order_light o = omega (arith, sublinks_light (out-Order o).expr, laws.at-Order ℕ ℕ ℕ ℕ ℕ expr_weight tree_weight order_weight output_weight query_weight o)

-- ---- trees

at_tree : (t : JoinTreeLayer) → weight_of_tree (roll-JoinTree t) ≡ 2 + (total (map weight_of_tree (trees t)) + (total (map weight_of (conditions t)) + total (map weight_of_query (option_part (leaf_query t)))))
unfolding weight_of weight_of_tree weight_of_query
at_tree t =
    fold-roll-JoinTree ℕ ℕ ℕ ℕ ℕ expr_weight tree_weight order_weight output_weight query_weight t
    ∙ ap₂ (λ (a : List ℕ) (n : ℕ). 2 + (total a + n)) (trees_map weight_of weight_of_tree weight_of_order weight_of_output weight_of_query t)
    (ap₂ (λ (a b : List ℕ). total a + total b) (conditions_map weight_of weight_of_tree weight_of_order weight_of_output weight_of_query t) (leaf_map weight_of weight_of_tree weight_of_order weight_of_output weight_of_query t))

at_written : (kind : JoinKind) (left right : JoinTree) (on : List Expr) → weight_of_tree (tree.Join kind left right on) ≡ 2 + ((weight_of_tree left + (weight_of_tree right + 0)) + (total (map weight_of on) + 0))
at_written kind left right on = ap weight_of_tree (sym (tree.rolls-Join kind left right on)) ∙ at_tree (JoinTree-F.Join kind left right on)

from_written : (members : List JoinTree) (conds : List Expr) → weight_of_tree (tree.From members conds) ≡ 2 + (total (map weight_of_tree members) + (total (map weight_of conds) + 0))
from_written members conds = ap weight_of_tree (sym (tree.rolls-From members conds)) ∙ at_tree (JoinTree-F.From members conds)

at_query : (q : Query) → weight_of_query q ≡ 1 + (total (map weight_of_output (out-Query q).columns) + (weight_of_tree (out-Query q).tree + (total (map weight_of (out-Query q).conds) + total (map weight_of_order (out-Query q).order))))
unfolding weight_of weight_of_tree weight_of_output weight_of_order weight_of_query
at_query q = laws.at-Query ℕ ℕ ℕ ℕ ℕ expr_weight tree_weight order_weight output_weight query_weight q

side_weighs : (t : JoinTree) → weight_of_query (side_block t) ≡ 1 + weight_of_tree t
unfolding weight_of weight_of_tree weight_of_output weight_of_order weight_of_query
side_weighs t = fold-roll-Query ℕ ℕ ℕ ℕ ℕ expr_weight tree_weight order_weight output_weight query_weight (record { columns = []; distinct = false; tree = t; conds = []; order = [] }) ∙ omega arith

-- the parts of an item
item_light_at : (t : JoinTreeLayer) → weighs (map item_part (blocks_at t) ++ flat_map sublink_parts (exprs_at t)) ≤ weight_of_tree (roll-JoinTree t)
item_light_at (JoinTree-F.Base rel name table) = omega arith
item_light_at (JoinTree-F.Sub rel name query) = omega (arith, at_tree (JoinTree-F.Sub rel name query))
item_light_at (JoinTree-F.Join kind left right on) = omega (arith, at_tree (JoinTree-F.Join kind left right on), side_weighs left, side_weighs right, exprs_light on)
item_light_at (JoinTree-F.From members conds) = omega arith

item_light_out : (t : JoinTree) → weighs (parts_of_item t) ≤ weight_of_tree (roll-JoinTree (out-JoinTree t))
item_light_out t = item_light_at (out-JoinTree t)

item_light : (t : JoinTree) → weighs (parts_of_item t) ≤ weight_of_tree t
item_light t = subst (λ (u : JoinTree). weighs (parts_of_item t) ≤ weight_of_tree u) (roll-out-JoinTree t) (item_light_out t)

-- what the items and the conditions of a shape weigh
abbrev shape_weight : Shape → ℕ
shape_weight nothing = 0
shape_weight (item tree) = weight_of_tree tree
shape_weight (beside left right) = shape_weight left + shape_weight right
shape_weight (filtered shape conds) = shape_weight shape + total (map weight_of conds)
shape_weight (special kind left right on) = shape_weight left + (shape_weight right + total (map weight_of on))

two_lists : (left right : List Expr) → weighs (flat_map sublink_parts (left ++ right)) ≡ weighs (flat_map sublink_parts left) + weighs (flat_map sublink_parts right)
two_lists left right = ap (weighs) (flat_map-append sublink_parts left right) ∙ weighs_both (flat_map sublink_parts left) (flat_map sublink_parts right)

two_shapes : (left right : List JoinTree) → weighs (flat_map parts_of_item (left ++ right)) ≡ weighs (flat_map parts_of_item left) + weighs (flat_map parts_of_item right)
two_shapes left right = ap (weighs) (flat_map-append parts_of_item left right) ∙ weighs_both (flat_map parts_of_item left) (flat_map parts_of_item right)

shape_light : (s : Shape) → weighs (flat_map parts_of_item (items_in s)) + weighs (flat_map sublink_parts (exprs_in s)) ≤ shape_weight s
shape_light nothing = omega arith
shape_light (item tree) = omega (arith, item_light tree, weighs_both (parts_of_item tree) [])
shape_light (beside left right) = omega (arith, shape_light left, shape_light right, two_shapes (items_in left) (items_in right), two_lists (exprs_in left) (exprs_in right))
shape_light (filtered shape conds) = omega (arith, shape_light shape, two_lists (exprs_in shape) conds, exprs_light conds)
shape_light (special kind left right on) =
    omega (arith, shape_light left, shape_light right, two_shapes (items_in left) (items_in right), two_lists (exprs_in left ++ exprs_in right) on, two_lists (exprs_in left) (exprs_in right), exprs_light on)

-- ---- the shape of a tree weighs no more than the tree

abbrev HasLightShape : JoinTree → Type 0
HasLightShape t = shape_weight (shape_of t) ≤ weight_of_tree t

together_weighs : (start : Shape) (ts : List JoinTree) → Each HasLightShape ts → shape_weight (fold beside start (map shape_of ts)) ≤ shape_weight start + total (map weight_of_tree ts)
together_weighs start [] h = omega arith
together_weighs start (t ∷ ts) h = omega (arith, h.0, together_weighs (beside start (shape_of t)) ts h.1)

join_light : (kind : JoinKind) (left right : JoinTree) (on : List Expr) → HasLightShape left → HasLightShape right → HasLightShape (tree.Join kind left right on)
join_light join.Full left right on l r = omega (arith, ap shape_weight (at_join join.Full left right on))
join_light join.Inner left right on l r = omega (arith, l, r, ap shape_weight (at_join join.Inner left right on), at_written join.Inner left right on)
join_light join.Left left right on l r = omega (arith, l, r, ap shape_weight (at_join join.Left left right on), at_written join.Left left right on)
join_light join.Right left right on l r = omega (arith, l, r, ap shape_weight (at_join join.Right left right on), at_written join.Right left right on)
join_light join.Semi left right on l r = omega (arith, l, r, ap shape_weight (at_join join.Semi left right on), at_written join.Semi left right on)
join_light join.Anti left right on l r = omega (arith, l, r, ap shape_weight (at_join join.Anti left right on), at_written join.Anti left right on)

has_light_step : (t : JoinTreeLayer) → Each HasLightShape (trees t) → HasLightShape (roll-JoinTree t)
has_light_step (JoinTree-F.Base rel name table) h = subst HasLightShape (sym (tree.rolls-Base rel name table)) (omega (arith, ap shape_weight (at_base rel name table)))
has_light_step (JoinTree-F.Sub rel name query) h = subst HasLightShape (sym (tree.rolls-Sub rel name query)) (omega (arith, ap shape_weight (at_sub rel name query)))
has_light_step (JoinTree-F.Join kind left right on) h = subst HasLightShape (sym (tree.rolls-Join kind left right on)) (join_light kind left right on h.0 h.1.0)
has_light_step (JoinTree-F.From members conds) h =
    subst HasLightShape (sym (tree.rolls-From members conds)) (omega (arith, ap shape_weight (at_from members conds), together_weighs nothing members h, from_written members conds))

has_light : (t : JoinTree) → HasLightShape t
has_light = tree_alone HasLightShape has_light_step

-- ---- a query

pub parts_lighter : (q : Query) → weighs (parts_of q) < weight_of_query q
unfolding parts_of item_parts condition_parts
parts_lighter q =
    let s = shape_of (out-Query q).tree in
    let items = flat_map parts_of_item (items_in s) in
    let conds = flat_map sublink_parts (exprs_in s) in
    let where_parts = flat_map sublink_parts (out-Query q).conds in
    let outputs = flat_map output_parts (out-Query q).columns in
    let orders = flat_map order_parts (out-Query q).order in
    omega (
      arith,
      at_query q,
      shape_light s,
      has_light (out-Query q).tree,
      exprs_light (out-Query q).conds,
      list_light output_parts weight_of_output output_light (out-Query q).columns,
      list_light order_parts weight_of_order order_light (out-Query q).order,
      weighs_both items (conds ++ (where_parts ++ (outputs ++ orders))),
      weighs_both conds (where_parts ++ (outputs ++ orders)),
      weighs_both where_parts (outputs ++ orders),
      weighs_both outputs orders,
    )
