-- A block makes few blocks, sublinks apart.
use Rattle.std.proofs.Common.{◌≡◌, ◌∙◌, ap, sym, refl, ℕ, suc, ◌+◌, ◌*◌, ◌≤◌, Bool, true, false, List, [], ◌∷◌, ◌++◌, map, fold, length, arith}
use Rattle.std.specs.Prelude.{sum, sum_by}
use Rattle.std.specs.List.{flat_map}
use Rattle.std.proofs.lemmas.Bool.{and_parts}
use Rattle.std.proofs.lemmas.List.{length-append}
use Rattle.std.proofs.lemmas.List.Sums.{sum_by-cons, sum_by-append}
use Rattle.jp_query.specs.declared.Expr.{Expr}
use Rattle.jp_query.specs.declared.JoinKind.{JoinKind}
use Rattle.jp_query.specs.declared.JoinKind.TheVariants as join
use Rattle.jp_query.specs.declared.JoinTree.{JoinTree, out-JoinTree, out-roll-JoinTree}
use Rattle.jp_query.specs.declared.JoinTree.TheVariants as tree
use Rattle.jp_query.specs.declared.Order.{Order}
use Rattle.jp_query.specs.declared.Output.{Output}
use Rattle.jp_query.specs.declared.Query.{Query, out-Query}
use Rattle.jp_query.specs.declared.Expr.TheOpen.{JoinTree-F}
use Rattle.jp_query.specs.declared.Expr.TheViews.{roll-JoinTree}
use Rattle.jp_query.specs.declared.Expr.TheFolds.{map-JoinTree, fold-roll-JoinTree, fold-roll-Query}
use Rattle.jp_query.specs.Conditions.{expr_rooted, tree_rooted, order_rooted, output_rooted, query_rooted}
use Rattle.jp_query.specs.Layers.{JoinTreeLayer}
use Rattle.jp_query.specs.Parts.{all_in, option_part, trees, leaf_query}
use Rattle.jp_query.specs.Scopes.{Schema, Scope}
use Rattle.jp_query.specs.Typing.{is_listed}
use Rattle.jp_query.proofs.FoldLaws as laws
use Rattle.jp_induction.proofs.EachPart.{Each}
use Rattle.jp_induction.proofs.HandedDown as handed
use Rattle.jp_folding.proofs.FineDown.{inside, above}
use Rattle.jp_problem.specs.InnerBlocks.{blocks_at, blocks_of_item, side_block}
use Rattle.jp_problem.specs.Shapes.{Shape, nothing, beside, joined, shape_of, items_in}
use Rattle.jp_problem.proofs.ShapeLaws.{at_base, at_sub, at_join, at_from}
use Rattle.jp_conditions.proofs.Forms.{by_form}
use Rattle.jp_prepared.specs.Nests.{join_nest, tree_nest, query_nest, nest_of_tree, nest}
use Rattle.jp_prepared.specs.Sources.{queries_of_items}
use Rattle.jp_prepared.proofs.Down as down
use Rattle.jp_prepared.proofs.Nested.{nested, nested_in, nested_level, tree_nested, query_nested}
use Rattle.jp_prepared.proofs.NestedBounds.{few_leaves}
use Rattle.jp_prepared.proofs.Places.{ExprPlaced, TreePlaced, OrderPlaced, OutputPlaced, QueryPlaced, placed_down}

-- ---- the blocks of items

abbrev of_items : List JoinTree → ℕ
of_items ts = sum_by nest (flat_map blocks_of_item ts)

two_items : (xs ys : List JoinTree) → of_items (xs ++ ys) ≡ of_items xs + of_items ys
two_items [] ys = omega arith
two_items (x ∷ xs) ys =
    let rest = two_items xs ys in
    let all = sum_by-append nest (blocks_of_item x) (flat_map blocks_of_item (xs ++ ys)) in
    let some = sum_by-append nest (blocks_of_item x) (flat_map blocks_of_item xs) in
    omega (arith, rest, all, some)

abbrev IsNest : JoinTree → Type 0
IsNest t = nest_of_tree t ≡ of_items (items_in (shape_of t))

side_nest : (t : JoinTree) → nest (side_block t) ≡ suc (nest_of_tree t)
side_nest t = fold-roll-Query (Unit {0}) ℕ (Unit {0}) (Unit {0}) ℕ (λ x. tt) tree_nest (λ o. tt) (λ u. tt) query_nest (record { columns = []; distinct = false; tree = t; conds = []; order = [] })

one_item : (x : JoinTreeLayer) (t : JoinTree) → roll-JoinTree x ≡ t → of_items (t ∷ []) ≡ sum_by nest (blocks_at x)
one_item x t rolls =
    let opens = sym (ap out-JoinTree rolls) ∙ out-roll-JoinTree x in
    sum_by-append nest (blocks_of_item t) [] ∙ more (sum_by nest (blocks_of_item t)) ∙ ap (λ y. sum_by nest (blocks_at y)) opens
  where
    more : (n : ℕ) → n + 0 ≡ n
    more n = omega arith

sum_one : (q : Query) → sum_by nest (q ∷ []) ≡ nest q
sum_one q = let c = sum_by-cons nest q [] in omega (arith, c)

sum_two : (p q : Query) → sum_by nest (p ∷ q ∷ []) ≡ nest p + nest q
sum_two p q = let c = sum_by-cons nest p (q ∷ []) in let d = sum_one q in omega (arith, c, d)

kind_nest : (kind : JoinKind) (left right : JoinTree) (on : List Expr) → IsNest left → IsNest right → join_nest kind (nest_of_tree left) (nest_of_tree right) ≡ of_items (items_in (joined kind (tree.Join kind left right on) (shape_of left) (shape_of right) on))
kind_nest join.Full left right on p q =
    let one = one_item (JoinTree-F.Join join.Full left right on) (tree.Join join.Full left right on) (tree.rolls-Join join.Full left right on) in
    let two = sum_two (side_block left) (side_block right) in
    omega (arith, one, two, side_nest left, side_nest right)
kind_nest join.Inner left right on p q = let two = two_items (items_in (shape_of left)) (items_in (shape_of right)) in omega (arith, p, q, two)
kind_nest join.Left left right on p q = let two = two_items (items_in (shape_of left)) (items_in (shape_of right)) in omega (arith, p, q, two)
kind_nest join.Right left right on p q = let two = two_items (items_in (shape_of left)) (items_in (shape_of right)) in omega (arith, p, q, two)
kind_nest join.Semi left right on p q = let two = two_items (items_in (shape_of left)) (items_in (shape_of right)) in omega (arith, p, q, two)
kind_nest join.Anti left right on p q = let two = two_items (items_in (shape_of left)) (items_in (shape_of right)) in omega (arith, p, q, two)

members_nest : (ts : List JoinTree) (shape : Shape) → Each IsNest ts → of_items (items_in shape) + sum_by nest_of_tree ts ≡ of_items (items_in (fold beside shape (map shape_of ts)))
members_nest [] shape each = omega arith
members_nest (t ∷ ts) shape each =
    let rest = members_nest ts (beside shape (shape_of t)) each.1 in
    let two = two_items (items_in shape) (items_in (shape_of t)) in
    let all = sum_by-cons nest_of_tree t ts in
    let here = each.0 in
    omega (arith, rest, two, all, here)

nest_at : (t : JoinTree) → IsNest t
nest_at = by_form IsNest (record {
  base = λ rel name table.
      let e = laws.at-Base (Unit {0}) ℕ (Unit {0}) (Unit {0}) ℕ (λ x. tt) tree_nest (λ o. tt) (λ u. tt) query_nest rel name table in
      let one = one_item (JoinTree-F.Base rel name table) (tree.Base rel name table) (tree.rolls-Base rel name table) in
      e ∙ sym one ∙ sym (ap (λ s. of_items (items_in s)) (at_base rel name table));
  sub = λ rel name query.
      let e = laws.at-Sub (Unit {0}) ℕ (Unit {0}) (Unit {0}) ℕ (λ x. tt) tree_nest (λ o. tt) (λ u. tt) query_nest rel name query in
      let one = one_item (JoinTree-F.Sub rel name query) (tree.Sub rel name query) (tree.rolls-Sub rel name query) in
      e ∙ sym (sum_one query) ∙ sym one ∙ sym (ap (λ s. of_items (items_in s)) (at_sub rel name query));
  join = λ kind left right on p q.
      laws.at-Join (Unit {0}) ℕ (Unit {0}) (Unit {0}) ℕ (λ x. tt) tree_nest (λ o. tt) (λ u. tt) query_nest kind left right on ∙ kind_nest kind left right on p q ∙ sym (ap (λ s. of_items (items_in s)) (at_join kind left right on));
  from = λ members conds each.
      laws.at-From (Unit {0}) ℕ (Unit {0}) (Unit {0}) ℕ (λ x. tt) tree_nest (λ o. tt) (λ u. tt) query_nest members conds ∙ summed members ∙ members_nest members nothing each ∙ sym (ap (λ s. of_items (items_in s)) (at_from members conds));
})
  where
    summed : (ts : List JoinTree) → sum (map nest_of_tree ts) ≡ 0 + sum_by nest_of_tree ts
    summed [] = refl
    summed (t ∷ ts) = let rest = summed ts in let all = sum_by-cons nest_of_tree t ts in let one = sum_by-cons (λ n. n) (nest_of_tree t) (map nest_of_tree ts) in omega (arith, rest, all, one)

pub nest_is : (q : Query) → nest q ≡ 1 + sum_by nest (queries_of_items q)
nest_is q = let at = nest_at (out-Query q).tree in let e = laws.at-Query (Unit {0}) ℕ (Unit {0}) (Unit {0}) ℕ (λ x. tt) tree_nest (λ o. tt) (λ u. tt) query_nest q in omega (arith, at, e)

-- ---- no more than three for each leaf

module _ (schema : Schema) (bases : ℕ) where
  abbrev TreeFew : Scope → JoinTree → Type 0
  TreeFew s t = nest_of_tree t + 2 ≤ 3 * length (nested true t)

  abbrev QueryFew : Scope → Query → Type 0
  QueryFew s q = nest q + 1 ≤ 3 * length (nested_in true q)

  abbrev nest_level : JoinTreeLayer → JoinTree-F (Unit {0}) ℕ (Unit {0}) (Unit {0}) ℕ
  nest_level = map-JoinTree Expr JoinTree Order Output Query (Unit {0}) ℕ (Unit {0}) (Unit {0}) ℕ (λ e. tt) nest_of_tree (λ o. tt) (λ u. tt) nest

  kind_few : (kind : JoinKind) (a b : ℕ) (l r : List ℕ) → a + 2 ≤ 3 * length l → b + 2 ≤ 3 * length r → join_nest kind a b + 2 ≤ 3 * length (l ++ r)
  kind_few join.Full a b l r p q = omega (arith, p, q, length-append l r)
  kind_few join.Inner a b l r p q = omega (arith, p, q, length-append l r)
  kind_few join.Left a b l r p q = omega (arith, p, q, length-append l r)
  kind_few join.Right a b l r p q = omega (arith, p, q, length-append l r)
  kind_few join.Semi a b l r p q = omega (arith, p, q, length-append l r)
  kind_few join.Anti a b l r p q = omega (arith, p, q, length-append l r)

  members_few : (s : Scope) (ts : List JoinTree) → Each (TreeFew s) ts → sum (map nest_of_tree ts) ≤ 3 * length (all_in (map (nested true) ts))
  members_few s [] each = omega arith
  members_few s (t ∷ ts) each = let rest = members_few s ts each.1 in let here = each.0 in let one = sum_by-cons (λ n. n) (nest_of_tree t) (map nest_of_tree ts) in omega (arith, rest, here, one, length-append (nested true t) (all_in (map (nested true) ts)))

  some_member : (s : Scope) (ts : List JoinTree) (f : JoinTree → Bool) → is_listed (map f ts) ≡ true → Each (TreeFew s) ts → sum (map nest_of_tree ts) + 2 ≤ 3 * length (all_in (map (nested true) ts))
  some_member s [] f h each = cc
  some_member s (t ∷ ts) f h each = let rest = members_few s ts each.1 in let here = each.0 in let one = sum_by-cons (λ n. n) (nest_of_tree t) (map nest_of_tree ts) in omega (arith, rest, here, one, length-append (nested true t) (all_in (map (nested true) ts)))

  abbrev rooted : JoinTree → Bool
  rooted = down.tested_tree expr_rooted tree_rooted

  level_few : (s : Scope) (x : JoinTreeLayer) → TreePlaced schema bases s (roll-JoinTree x) → Each (TreeFew s) (trees x) → Each (QueryFew s) (option_part (leaf_query x)) → tree_nest (nest_level x) + 2 ≤ 3 * length (tree_nested true (nested_level true x))
  level_few s (JoinTree-F.Base rel name table) c sides inner = omega arith
  level_few s (JoinTree-F.Sub rel name query) c sides inner = let here = inner.0 in omega (arith, here)
  level_few s (JoinTree-F.Join kind left right on) c sides inner = kind_few kind (nest_of_tree left) (nest_of_tree right) (nested true left) (nested true right) sides.0 sides.1.0
  level_few s (JoinTree-F.From members conds) c sides inner = some_member s members rooted listed sides
    where
      listed : is_listed (map rooted members) ≡ true
      listed = (and_parts (is_listed (map rooted members)) _ (sym (fold-roll-JoinTree Bool Bool Bool Bool Bool expr_rooted tree_rooted order_rooted output_rooted query_rooted (JoinTree-F.From members conds)) ∙ c.1.0.0.1)).0

  steps : handed.StepsUnder Scope (inside schema) (above schema) (ExprPlaced schema bases) (TreePlaced schema bases) (OrderPlaced schema bases) (OutputPlaced schema bases) (QueryPlaced schema bases) (placed_down schema bases) (λ s e. Unit {0}) TreeFew (λ s o. Unit {0}) (λ s u. Unit {0}) QueryFew
  steps = record {
    expr = λ s x c exprs subs. tt;
    tree = λ s x c sides conds inner.
        let n = fold-roll-JoinTree (Unit {0}) ℕ (Unit {0}) (Unit {0}) ℕ (λ x. tt) tree_nest (λ o. tt) (λ u. tt) query_nest x in
        let l = ap length (fold-roll-JoinTree (Unit {0}) (List ℕ) (Unit {0}) (Unit {0}) (List ℕ) (λ x. tt) (tree_nested true) (λ o. tt) (λ u. tt) (query_nested true) x) in
        let few = level_few s x c sides inner in
        omega (arith, n, l, few);
    order = λ s x c h. tt;
    output = λ s x c h. tt;
    query = λ s q c columns tree conds order.
        let n = fold-roll-Query (Unit {0}) ℕ (Unit {0}) (Unit {0}) ℕ (λ x. tt) tree_nest (λ o. tt) (λ u. tt) query_nest q in
        let l = ap length (fold-roll-Query (Unit {0}) (List ℕ) (Unit {0}) (Unit {0}) (List ℕ) (λ x. tt) (tree_nested true) (λ o. tt) (λ u. tt) (query_nested true) q) in
        omega (arith, n, l, tree);
  }

  pub few_nested : (s : Scope) (q : Query) → QueryPlaced schema bases s q → nest q ≤ 192
  few_nested s q h =
      let few = handed.under_query Scope (inside schema) (above schema) (ExprPlaced schema bases) (TreePlaced schema bases) (OrderPlaced schema bases) (OutputPlaced schema bases) (QueryPlaced schema bases) (placed_down schema bases) (λ s e. Unit {0}) TreeFew (λ s o. Unit {0}) (λ s u. Unit {0}) QueryFew steps q s h in
      let most = few_leaves schema bases s q h in
      omega (arith, few, most)
