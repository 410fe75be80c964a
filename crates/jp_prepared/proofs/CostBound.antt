-- What the items of a block cost at most: for the base leaves below it, sublinks apart, a step each, and for its leaves
-- their rows.
use Rattle.std.proofs.Common.{◌≡◌, ◌∙◌, ap, sym, subst, ℕ, zero, suc, ◌+◌, ◌*◌, ◌^◌, ◌<◌, ◌≤◌, true, false, List, [], ◌∷◌, map, length, Option, Some, arith}
use Rattle.std.specs.Prelude.{slice_get, sum_by}
use Rattle.std.specs.List.{AllZip}
use Rattle.std.proofs.Math.Nat.{min-le_left, le-min}
use Rattle.std.proofs.lemmas.List.{length-append}
use Rattle.std.proofs.lemmas.List.Elements.{All-contains}
use Rattle.std.proofs.lemmas.List.Sums.{sum_by-cons}
use Rattle.std.proofs.lemmas.Nat.{mul-le}
use Rattle.std.proofs.lemmas.Option.{slice_get_within}
use Rattle.jp_facts.proofs.Members.{from_in}
use Rattle.jp_catalog.specs.Sound.{IsSound, IsSoundTable}
use Rattle.jp_catalog.specs.declared.types.Catalog.{Catalog}
use Rattle.jp_catalog.specs.declared.types.TableDef.{TableDef}
use Rattle.jp_query.specs.declared.Expr.{Expr}
use Rattle.jp_query.specs.declared.JoinKind.{JoinKind}
use Rattle.jp_query.specs.declared.JoinTree.{JoinTree, out-JoinTree, roll-out-JoinTree}
use Rattle.jp_query.specs.declared.JoinTree.TheVariants as tree
use Rattle.jp_query.specs.declared.Query.{Query, out-Query}
use Rattle.jp_query.specs.declared.Expr.TheOpen.{JoinTree-F}
use Rattle.jp_query.specs.declared.Expr.TheViews.{roll-JoinTree}
use Rattle.jp_query.specs.Layers.{JoinTreeLayer}
use Rattle.jp_query.specs.Parts.{all_in}
use Rattle.jp_laws.proofs.EachPart.{Each, all_of_each}
use Rattle.jp_problem.specs.declared.types.Item.{Item}
use Rattle.jp_problem.specs.InnerBlocks.{side_block}
use Rattle.jp_problem.specs.Made.{HasStatedRows, cost_of}
use Rattle.jp_problem.specs.Problems.{items_of}
use Rattle.jp_problem.specs.declared.types.Problem.{Problem}
use Rattle.jp_problem.specs.Trees.{Tree, Scan, Join, IsLegalTree}
use Rattle.jp_conditions.proofs.Numbers.{from_place}
use Rattle.jp_cost.specs.TreeCosts.{tree_cost}
use Rattle.jp_cost.proofs.CostLaws.{items_and_steps}
use Rattle.jp_cost.proofs.RangeLaws.{rounds_range}
use Rattle.jp_tree.specs.declared.pool.PlanNode.{PlanNode}
use Rattle.jp_tree.specs.declared.prepared.Block.{Block}
use Rattle.jp_tree.specs.Pools.{IsTreeOf}
use Rattle.jp_tree.proofs.PoolLaws.{same_tree}
use Rattle.jp_prepared.specs.Planned.{IsInner, IsItem, IsBlockFrom, rows_of, table_item, select_item, full_item}
use Rattle.jp_prepared.specs.Searched.{AreMadeBehind}
use Rattle.jp_prepared.specs.Sources.{Source, items_of_block, of_item}
use Rattle.jp_prepared.proofs.Nested.{nested, nested_in, nested_base, nested_sub, nested_join, nested_query, nested_side, items_give}

-- by the numbers of base leaves and of all leaves
abbrev pub IsBelow : ℕ → ℕ → ℕ → Type 0
IsBelow cost bases leaves = cost + 2 ^ 120 + 2 ^ 60 ≤ bases * 2 ^ 120 + 2 * leaves * 2 ^ 60

abbrev bases_below : JoinTree → ℕ
bases_below t = length (nested false t)

abbrev leaves_below : JoinTree → ℕ
leaves_below t = length (nested true t)

pub as_written : (leaf : JoinTree) (x : JoinTreeLayer) (t : JoinTree) → out-JoinTree leaf ≡ x → roll-JoinTree x ≡ t → leaf ≡ t
as_written leaf x t e rolls = sym (roll-out-JoinTree leaf) ∙ ap roll-JoinTree e ∙ rolls

-- a legal tree scans some item
some_item : (problem : Problem) (t : Tree) → IsLegalTree problem t → 1 ≤ length problem.items
some_item problem (Scan i) legal = omega (arith, legal)
some_item problem (Join m k a b) legal = some_item problem a legal.2

module _ (catalog : Catalog) (sound : IsSound catalog) (sources : List Source) (block_at : ℕ → Option Block) (nodes : List PlanNode) where
  record Bounded (leaf : JoinTree) (item : Item) : Type 0 where
    rows : HasStatedRows item
    cost : IsBelow item.cost (bases_below leaf) (leaves_below leaf)

  -- ---- a block whose items are bounded

  sum_below : (number : ℕ) (leaves : List JoinTree) (items : List Item) → AllZip (IsItem catalog sources block_at nodes number) leaves items → ((leaf : JoinTree) (item : Item) → IsItem catalog sources block_at nodes number leaf item → Bounded leaf item)
      → sum_by cost_of items + length items * 2 ^ 120 + length items * 2 ^ 60 ≤ length (all_in (map (nested false) leaves)) * 2 ^ 120 + 2 * length (all_in (map (nested true) leaves)) * 2 ^ 60
  sum_below number [] [] h each = omega arith
  sum_below number [] (item ∷ items) h each = absurd h
  sum_below number (leaf ∷ leaves) [] h each = absurd h
  sum_below number (leaf ∷ leaves) (item ∷ items) h each =
      let here = (each leaf item h.0).cost in
      let rest = sum_below number leaves items h.1 each in
      let all = sum_by-cons cost_of item items in
      let bases = length-append (nested false leaf) (all_in (map (nested false) leaves)) in
      let more = length-append (nested true leaf) (all_in (map (nested true) leaves)) in
      omega (arith, here, rest, all, bases, more)

  rows_stated : (number : ℕ) (leaves : List JoinTree) (items : List Item) → AllZip (IsItem catalog sources block_at nodes number) leaves items → ((leaf : JoinTree) (item : Item) → IsItem catalog sources block_at nodes number leaf item → Bounded leaf item) → Each HasStatedRows items
  rows_stated number [] [] h each = tt
  rows_stated number [] (item ∷ items) h each = absurd h
  rows_stated number (leaf ∷ leaves) [] h each = absurd h
  rows_stated number (leaf ∷ leaves) (item ∷ items) h each = ((each leaf item h.0).rows, rows_stated number leaves items h.1 each)

  record BlockBounded (query : Query) (block : Block) (tree : Tree) : Type 0 where
    some : 1 ≤ rows_of catalog sources block_at nodes block
    few : rows_of catalog sources block_at nodes block ≤ 2 ^ 60
    cost : IsBelow (tree_cost block.problem tree) (length (nested_in false query)) (length (nested_in true query))

  block_bounded : (number : ℕ) (query : Query) (block : Block) (tree : Tree) → IsBlockFrom catalog sources block_at nodes number (of_item query) block → IsTreeOf nodes block.plan tree
      → ((leaf : JoinTree) (item : Item) → IsItem catalog sources block_at nodes number leaf item → Bounded leaf item) → BlockBounded query block tree
  block_bounded number query block tree from is each =
      let stated = all_of_each HasStatedRows block.problem.items (rows_stated number (items_of_block query) block.problem.items from.items each) in
      let range = λ (set : ℕ). rounds_range block.problem stated (suc (length block.problem.joins)) set in
      let same = same_tree nodes block.plan from.plan.tree tree from.plan.is is in
      let legal = subst (λ t. IsLegalTree block.problem t) same from.plan.plan.legal in
      let most = items_and_steps block.problem (λ set. (range set).1) tree legal in
      let some = some_item block.problem tree legal in
      let sum = sum_below number (items_of_block query) block.problem.items from.items each in
      let bases = ap length (nested_query false query ∙ items_give false (out-Query query).tree) in
      let leaves = ap length (nested_query true query ∙ items_give true (out-Query query).tree) in
      record {
        some = (range (items_of block.problem)).0;
        few = (range (items_of block.problem)).1;
        cost = omega (arith, most, some, sum, bases, leaves);
      }

  -- ---- the items of a block, behind which all blocks are made

  ready_behind : (number inner : ℕ) → number < inner → AreMadeBehind catalog sources block_at nodes number → AreMadeBehind catalog sources block_at nodes inner
  ready_behind number inner low ready place source block behind at there = ready place source block (omega (arith, low, behind)) at there

  table_bounded : (leaf : JoinTree) (item : Item) (rel table : ℕ) (name text : List ℕ) (def : TableDef) → leaf ≡ tree.Base rel name table → slice_get catalog.tables table ≡ Some (text, def) → def.rows ≤ 2 ^ 60
      → item ≡ table_item catalog sources block_at nodes leaf rel table def → Bounded leaf item
  table_bounded leaf item rel table name text def is there few made =
      let some = (All-contains (λ (entry : List ℕ × TableDef). IsSoundTable entry.1) catalog.tables (text, def) sound.tables (from_in (text, def) catalog.tables (from_place catalog.tables table (text, def) there))).rows in
      let rows = ap (λ (i : Item). i.rows) made in
      let cost = ap cost_of made in
      let bases = ap length (ap (nested false) is ∙ nested_base false rel name table) in
      let leaves = ap length (ap (nested true) is ∙ nested_base true rel name table) in
      record { rows = (omega (arith, some, rows), omega (arith, few, rows)); cost = omega (arith, few, cost, bases, leaves) }

  select_bounded : (leaf : JoinTree) (item : Item) (rel inner : ℕ) (name : List ℕ) (query : Query) (block : Block) (t : Tree) → leaf ≡ tree.Sub rel name query → BlockBounded query block t
      → item ≡ select_item catalog sources block_at nodes leaf rel inner block t → Bounded leaf item
  select_bounded leaf item rel inner name query block t is below made =
      let rows = ap (λ (i : Item). i.rows) made in
      let cost = ap cost_of made in
      let bases = ap length (ap (nested false) is ∙ nested_sub false rel name query) in
      let leaves = ap length (ap (nested true) is ∙ nested_sub true rel name query) in
      let some = below.some in
      let few = below.few in
      let inside = below.cost in
      record { rows = (omega (arith, some, rows), omega (arith, few, rows)); cost = omega (arith, few, cost, bases, leaves, inside) }

  full_bounded : (leaf : JoinTree) (item : Item) (kind : JoinKind) (left right : JoinTree) (on : List Expr) (l r : ℕ) (lb rb : Block) (lt rt : Tree) → leaf ≡ tree.Join kind left right on
      → BlockBounded (side_block left) lb lt → BlockBounded (side_block right) rb rt → item ≡ full_item catalog sources block_at nodes leaf on l r lb rb lt rt → Bounded leaf item
  full_bounded leaf item kind left right on l r lb rb lt rt is a b made =
      let rows = ap (λ (i : Item). i.rows) made in
      let cost = ap cost_of made in
      let left_rows = rows_of catalog sources block_at nodes lb in
      let right_rows = rows_of catalog sources block_at nodes rb in
      let bases = ap length (ap (nested false) is ∙ nested_join false kind left right on) ∙ length-append (nested false left) (nested false right) in
      let leaves = ap length (ap (nested true) is ∙ nested_join true kind left right on) ∙ length-append (nested true left) (nested true right) in
      let left_bases = ap length (nested_side false left) in
      let left_leaves = ap length (nested_side true left) in
      let right_bases = ap length (nested_side false right) in
      let right_leaves = ap length (nested_side true right) in
      let a_some = a.some in
      let a_few = a.few in
      let a_cost = a.cost in
      let b_some = b.some in
      let b_few = b.few in
      let b_cost = b.cost in
      let most = min-le_left (2 ^ 60) (left_rows + right_rows) in
      let least = le-min {k = 1} {a = 2 ^ 60} {b = left_rows + right_rows} (omega arith) (omega (arith, a_some)) in
      let product = mul-le left_rows right_rows (2 ^ 60) (2 ^ 60) a_few b_few in
      record {
        rows = (omega (arith, least, rows), omega (arith, most, rows));
        cost = omega (arith, most, product, cost, bases, leaves, left_bases, left_leaves, right_bases, right_leaves, a_cost, b_cost);
      }

  item_bounded : (number : ℕ) (leaf : JoinTree) (item : Item) → ((query : Query) (inner : ℕ) (block : Block) (t : Tree) → IsInner catalog sources block_at nodes number query inner block t → BlockBounded query block t)
      → IsItem catalog sources block_at nodes number leaf item → Bounded leaf item
  item_bounded number leaf item below (IsItem.table rel table name text def e there few made) =
      table_bounded leaf item rel table name text def (as_written leaf (JoinTree-F.Base rel name table) (tree.Base rel name table) e (tree.rolls-Base rel name table)) there few made
  item_bounded number leaf item below (IsItem.select rel inner name query block t e is made) =
      select_bounded leaf item rel inner name query block t (as_written leaf (JoinTree-F.Sub rel name query) (tree.Sub rel name query) e (tree.rolls-Sub rel name query)) (below query inner block t is) made
  item_bounded number leaf item below (IsItem.full kind left right on l r lb rb lt rt e a b made) =
      full_bounded leaf item kind left right on l r lb rb lt rt (as_written leaf (JoinTree-F.Join kind left right on) (tree.Join kind left right on) e (tree.rolls-Join kind left right on))
      (below (side_block left) l lb lt a) (below (side_block right) r rb rt b) made

  bounded : (n number : ℕ) (leaf : JoinTree) (item : Item) → length sources ≤ number + n → AreMadeBehind catalog sources block_at nodes number → IsItem catalog sources block_at nodes number leaf item → Bounded leaf item
  bounded zero number leaf item long ready h =
      item_bounded number leaf item (λ query inner block t is. let low = slice_get_within sources inner (of_item query) is.source in let behind = is.behind in absurd (omega (arith, long, low, behind))) h
  bounded (suc n) number leaf item long ready h =
      item_bounded number leaf item (λ query inner block t is.
      let behind = is.behind in
      let inside = ready_behind number inner behind ready in
      block_bounded inner query block t (ready inner (of_item query) block behind is.source is.there) is.planned (λ l i k. bounded n inner l i (omega (arith, long, behind)) inside k)) h

  -- ---- what a block costs

  pub items_stated : (number : ℕ) (leaves : List JoinTree) (items : List Item) → AreMadeBehind catalog sources block_at nodes number → AllZip (IsItem catalog sources block_at nodes number) leaves items → Each HasStatedRows items
  items_stated number leaves items ready h = rows_stated number leaves items h (λ leaf item k. bounded (length sources) number leaf item (omega arith) ready k)

  pub items_cost : (number : ℕ) (query : Query) (items : List Item) → AreMadeBehind catalog sources block_at nodes number → AllZip (IsItem catalog sources block_at nodes number) (items_of_block query) items
      → sum_by cost_of items + length items * 2 ^ 120 + length items * 2 ^ 60 ≤ length (nested_in false query) * 2 ^ 120 + 2 * length (nested_in true query) * 2 ^ 60
  items_cost number query items ready h =
      let sum = sum_below number (items_of_block query) items h (λ leaf item k. bounded (length sources) number leaf item (omega arith) ready k) in
      let bases = ap length (nested_query false query ∙ items_give false (out-Query query).tree) in
      let leaves = ap length (nested_query true query ∙ items_give true (out-Query query).tree) in
      omega (arith, sum, bases, leaves)
