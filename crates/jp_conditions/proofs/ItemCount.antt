-- A block has from 1 to 16 items: each has a base leaf of its own, of which a typed query has at most 16.
use Rattle.std.proofs.Common.{◌≡◌, ◌∙◌, ap, sym, subst, ℕ, ◌≤◌, List, map, length, arith}
use Rattle.std.proofs.lemmas.List.{length-map}
use Rattle.jp_base.specs.Sets.{Has}
use Rattle.jp_facts.proofs.Members.{In, in_map, in_append_left, in_append_right}
use Rattle.jp_query.specs.declared.Query.{Query, out-Query}
use Rattle.jp_query.specs.Parts.{nothing_of_node, base_number, expr_gives, tree_gives, order_gives, output_gives, query_gives, base_leaves_in}
use Rattle.jp_query.specs.Refs.{only, union}
use Rattle.jp_query.proofs.FoldLaws as laws
use Rattle.jp_problem.specs.declared.types.Item.{Item}
use Rattle.jp_problem.specs.Made.{IsBlock}
use Rattle.jp_problem.specs.Problems.{rels_of_item, AreItemsOf}
use Rattle.jp_problem.specs.Shapes.{shape_of, items_in}
use Rattle.jp_problem.proofs.UnionLaws.{has_union}
use Rattle.jp_conditions.proofs.Based.{in_tree, BasedOn, based}
use Rattle.jp_conditions.proofs.Counting.{no_more}
use Rattle.jp_conditions.proofs.Judging.{tree_leaf_set}
use Rattle.jp_conditions.proofs.LaidBlocks.{with_leaves, leaves_told_apart, rooted, same_length}
use Rattle.jp_conditions.proofs.Spans.{has_itself}

module _ (query : Query) (items : List Item) (block : IsBlock query) (are : AreItemsOf query items) where
  as_many : length items ≡ length (items_in (shape_of (out-Query query).tree))
  as_many = sym (length-map items rels_of_item) ∙ ap length are ∙ sym (same_length query block)

  own : BasedOn (shape_of (out-Query query).tree) (in_tree (out-Query query).tree) (tree_leaf_set (out-Query query).tree)
  own = based (out-Query query).tree (with_leaves query block) (leaves_told_apart query block)

  of_query : (n : ℕ) → In n (in_tree (out-Query query).tree) → In n (base_leaves_in query)
  of_query n h =
      subst (In n) (sym (laws.at-Query (List ℕ) (List ℕ) (List ℕ) (List ℕ) (List ℕ) (expr_gives ℕ nothing_of_node base_number) (tree_gives ℕ nothing_of_node base_number) (order_gives ℕ nothing_of_node base_number) (output_gives ℕ nothing_of_node base_number) (query_gives ℕ nothing_of_node base_number) query))
      (in_append_right n _ _ (in_append_left n (in_tree (out-Query query).tree) _ h))

  counted : (n : ℕ) → In n own.numbers → Has (union (map only (base_leaves_in query))) n
  counted n h = (has_union (map only (base_leaves_in query)) n).1 (only n, in_map only n (base_leaves_in query) (of_query n (own.base n h)), has_itself n)

  pub some_items : 1 ≤ length items
  some_items = let some = (rooted query block).some in omega (arith, some, as_many)

  pub few_items : length items ≤ 16
  few_items =
      let most = no_more (union (map only (base_leaves_in query))) own.numbers own.apart.distinct counted in
      let few = block.typed.few in
      omega (arith, most, few, own.as_many, as_many)
