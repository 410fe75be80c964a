-- Blocks that are made one after another are those of the prepared statement.
use Rattle.std.proofs.Common.{◌≡◌, ◌∙◌, ap, ap₂, sym, refl, subst, ℕ, suc, ◌+◌, ◌<◌, inl, inr, Bool, true, false, List, [], ◌∷◌, ◌++◌, map, length, slice_get, Option, Some, None, append-nil, length-append, arith}
use Rattle.std.specs.Prelude.{nat_lt, if◌then◌else◌}
use Rattle.std.specs.List.{AllZip, flat_map}
use Rattle.std.proofs.lemmas.Bool.{lt-ltb, ltb-true}
use Rattle.jp_catalog.specs.declared.types.Catalog.{Catalog}
use Rattle.jp_query.specs.declared.Expr.{Expr}
use Rattle.jp_query.specs.declared.JoinTree.{JoinTree, out-JoinTree}
use Rattle.jp_query.specs.declared.Query.{Query, out-Query}
use Rattle.jp_query.specs.declared.Expr.TheOpen.{JoinTree-F}
use Rattle.jp_query.specs.Layers.{JoinTreeLayer}
use Rattle.jp_query.specs.Outermost.{Outer, outermost}
use Rattle.jp_problem.specs.declared.types.Item.{Item}
use Rattle.jp_problem.specs.Blocks.{known_rels, order_expr, output_expr}
use Rattle.jp_problem.specs.InnerBlocks.{blocks_at, blocks_of_item, exprs_of_item, side_block}
use Rattle.jp_problem.specs.Shapes.{exprs_in, shape_of}
use Rattle.jp_problem.specs.Trees.{Tree}
use Rattle.jp_tree.specs.declared.pool.PlanNode.{PlanNode}
use Rattle.jp_tree.specs.declared.prepared.Block.{Block}
use Rattle.jp_tree.specs.Pools.{IsTreeOf}
use Rattle.jp_tree.proofs.PoolLaws.{same_tree, tree_stays}
use Rattle.jp_prepared.specs.Planned.{IsBlockFrom, IsInner, IsItem, full_item, select_item}
use Rattle.jp_prepared.specs.Searched.{AreMadeBehind}
use Rattle.jp_prepared.specs.Sources.{IsSourceAt, Source, items_of_block, queries_of_items}
use Rattle.jp_session.specs.declared.gathering.Entry.{Entry}
use Rattle.jp_session.specs.declared.prices.Price.{Price}
use Rattle.jp_session.specs.declared.sources.Part.{Part}
use Rattle.jp_session.specs.Blocks.{AreMade, HasPrice, IsPlanned, block_from_end}
use Rattle.jp_session.specs.Found.{IsAt, AreFound, source_of, sources_of}
use Rattle.jp_session.specs.Items.{AreItems, IsItemOf, full_of, number_of, select_of}
use Rattle.jp_session.specs.Parts.{item_part, item_parts, condition_parts, order_parts, output_parts, parts_of, parts_of_item, sublink_part, sublink_parts}
use Rattle.jp_session.proofs.Places.{front, within, there, one_there, last_or_before, seam, turned_at, from_turned}

-- ---- the places of the blocks of items

abbrev pub with_query : Option ℕ → Query → List Query → List Query
with_query (Some n) q rest = rest
with_query None q rest = q ∷ rest

-- the queries of those parts that are items
abbrev pub item_queries : List Part → List Query
item_queries [] = []
item_queries (part ∷ parts) = with_query part.sub part.query (item_queries parts)

with_both : (o : Option ℕ) (q : Query) (xs ys zs : List Query) → zs ≡ xs ++ ys → with_query o q zs ≡ with_query o q xs ++ ys
with_both (Some n) q xs ys zs e = e
with_both None q xs ys zs e = ap (λ qs. q ∷ qs) e

queries_both : (xs ys : List Part) → item_queries (xs ++ ys) ≡ item_queries xs ++ item_queries ys
queries_both [] ys = refl
queries_both (x ∷ xs) ys = with_both x.sub x.query (item_queries xs) (item_queries ys) (item_queries (xs ++ ys)) (queries_both xs ys)

of_items : (qs : List Query) → item_queries (map item_part qs) ≡ qs
of_items [] = refl
of_items (q ∷ qs) = ap (λ rest. q ∷ rest) (of_items qs)

of_outers : (os : List Outer) → item_queries (map sublink_part os) ≡ []
of_outers [] = refl
of_outers (o ∷ os) = of_outers os

of_expr : (e : Expr) → item_queries (sublink_parts e) ≡ []
unfolding sublink_parts
of_expr e = of_outers (outermost e)

none_of : {X : Type 0} (f : X → List Part) → ((x : X) → item_queries (f x) ≡ []) → (xs : List X) → item_queries (flat_map f xs) ≡ []
none_of f h [] = refl
none_of f h (x ∷ xs) = queries_both (f x) (flat_map f xs) ∙ ap₂ (λ (us vs : List Query). us ++ vs) (h x) (none_of f h xs)

of_leaves : (ts : List JoinTree) → item_queries (flat_map parts_of_item ts) ≡ flat_map blocks_of_item ts
of_leaves [] = refl
of_leaves (t ∷ ts) =
    queries_both (parts_of_item t) (flat_map parts_of_item ts)
    ∙ ap₂ (λ (us vs : List Query). us ++ vs) (queries_both (map item_part (blocks_of_item t)) (flat_map sublink_parts (exprs_of_item t)) ∙ ap₂ (λ (us vs : List Query). us ++ vs) (of_items (blocks_of_item t)) (none_of sublink_parts of_expr (exprs_of_item t)) ∙ append-nil (blocks_of_item t)) (of_leaves ts)

pub of_block : (q : Query) → item_queries (parts_of q) ≡ queries_of_items q
unfolding parts_of item_parts condition_parts
of_block q =
    let items = flat_map parts_of_item (items_of_block q) in
    let conds = flat_map sublink_parts (exprs_in (shape_of (out-Query q).tree)) in
    let given = flat_map sublink_parts (out-Query q).conds in
    let outputs = flat_map output_parts (out-Query q).columns in
    let orders = flat_map order_parts (out-Query q).order in
    queries_both items (conds ++ (given ++ (outputs ++ orders)))
    ∙ ap₂ (λ (us vs : List Query). us ++ vs) (of_leaves (items_of_block q))
    (queries_both conds (given ++ (outputs ++ orders)) ∙ ap₂ (λ (us vs : List Query). us ++ vs) (none_of sublink_parts of_expr (exprs_in (shape_of (out-Query q).tree)))
    (queries_both given (outputs ++ orders) ∙ ap₂ (λ (us vs : List Query). us ++ vs) (none_of sublink_parts of_expr (out-Query q).conds)
    (queries_both outputs orders ∙ ap₂ (λ (us vs : List Query). us ++ vs) (none_of output_parts (λ u. of_expr (output_expr u)) (out-Query q).columns) (none_of order_parts (λ o. of_expr (order_expr o)) (out-Query q).order))))
    ∙ append-nil (queries_of_items q)

-- each query is that of the block at its place
pub data AtPlaces (entries : List Entry) : List Query → List ℕ → Type 0 where
  none : AtPlaces entries [] []
  more : {q : Query} {p : ℕ} {qs : List Query} {ps : List ℕ} → IsAt entries (item_part q) p → AtPlaces entries qs ps → AtPlaces entries (q ∷ qs) (p ∷ ps)

pub by_sub : (o : Option ℕ) (q : Query) (rest : List Query) → o ≡ None → with_query o q rest ≡ q ∷ rest
by_sub o q rest e = ap (λ s. with_query s q rest) e

pub not_item : (o : Option ℕ) (n : ℕ) (q : Query) (rest : List Query) → o ≡ Some n → with_query o q rest ≡ rest
not_item o n q rest e = ap (λ s. with_query s q rest) e

found_places : {entries : List Entry} {parts : List Part} {places : List ℕ} → AreFound entries parts places → AtPlaces entries (item_queries parts) places
found_places AreFound.none = AtPlaces.none
found_places {entries} (AreFound.item {part} {place} {parts} {places} s at f) =
    subst (λ qs. AtPlaces entries qs (place ∷ places)) (sym (by_sub part.sub part.query (item_queries parts) s))
    (AtPlaces.more (subst (λ (p : Part). IsAt entries p place) (ap (λ o. with_sub o part.query) s) at) (found_places f))
  where
    with_sub : Option ℕ → Query → Part
    with_sub o q = record { query = q; sub = o }
found_places {entries} (AreFound.sublink {part} {parts} {places} n s l f) =
    subst (λ qs. AtPlaces entries qs places) (sym (not_item part.sub n part.query (item_queries parts) s)) (found_places f)

pub block_places : (before : List Entry) (q : Query) (places : List ℕ) → AreFound before (parts_of q) places → AtPlaces before (queries_of_items q) places
block_places before q places f = subst (λ qs. AtPlaces before qs places) (of_block q) (found_places f)

pub places_count : {entries : List Entry} {qs : List Query} {ps : List ℕ} → AtPlaces entries qs ps → length ps ≡ length qs
places_count AtPlaces.none = refl
places_count (AtPlaces.more at h) = ap suc (places_count h)

cut_left : {entries : List Entry} (xs ys : List Query) (ps qs : List ℕ) → length ps ≡ length xs → AtPlaces entries (xs ++ ys) (ps ++ qs) → AtPlaces entries ys qs
cut_left [] ys [] qs e h = h
cut_left [] ys (p ∷ ps) qs e h = absurd (omega (arith, e))
cut_left (x ∷ xs) ys [] qs e h = absurd (omega (arith, e))
cut_left (x ∷ xs) ys (p ∷ ps) qs e (AtPlaces.more at h) = cut_left xs ys ps qs (omega (arith, e)) h

first_at : {entries : List Entry} {q : Query} {p : ℕ} {qs : List Query} {ps : List ℕ} → AtPlaces entries (q ∷ qs) (p ∷ ps) → IsAt entries (item_part q) p
first_at (AtPlaces.more at h) = at

rest_at : {entries : List Entry} {q : Query} {p : ℕ} {qs : List Query} {ps : List ℕ} → AtPlaces entries (q ∷ qs) (p ∷ ps) → AtPlaces entries qs ps
rest_at (AtPlaces.more at h) = h

-- ---- numbers and places

number_twice : (count p : ℕ) → p < count → number_of count (number_of count p) ≡ p
number_twice count p low = omega (arith, low)

pub block_at_number : (count p : ℕ) (blocks : List Block) (b : Block) → p < count → slice_get blocks p ≡ Some b → block_from_end count blocks (number_of count p) ≡ Some b
block_at_number count p blocks b low h =
    ap (λ (t : Bool). if t then slice_get blocks (number_of count (number_of count p)) else None) (lt-ltb (number_of count p) count (omega (arith, low)))
    ∙ ap (slice_get blocks) (number_twice count p low) ∙ h

none_some : {X : Type 0} {Y : Type 0} (y : Y) → None ≡ Some y → X
none_some y e = cc

place_of_number : (count n : ℕ) (blocks : List Block) (b : Block) (t : Bool) → nat_lt n count ≡ t → block_from_end count blocks n ≡ Some b → slice_get blocks (number_of count n) ≡ Some b
place_of_number count n blocks b true e h = sym (ap (λ (s : Bool). if s then slice_get blocks (number_of count n) else None) e) ∙ h
place_of_number count n blocks b false e h = none_some b (sym (ap (λ (s : Bool). if s then slice_get blocks (number_of count n) else None) e) ∙ h)

pub place_of_block : (count n : ℕ) (blocks : List Block) (b : Block) → block_from_end count blocks n ≡ Some b → (n < count) × (slice_get blocks (number_of count n) ≡ Some b)
place_of_block count n blocks b h = by_test (nat_lt n count) refl
  where
    by_test : (t : Bool) → nat_lt n count ≡ t → (n < count) × (slice_get blocks (number_of count n) ≡ Some b)
    by_test true e = (ltb-true n count e, place_of_number count n blocks b true e h)
    by_test false e = none_some b (sym (ap (λ (s : Bool). if s then slice_get blocks (number_of count n) else None) e) ∙ h)

pub more_blocks : (count n : ℕ) (blocks others : List Block) (b : Block) → block_from_end count blocks n ≡ Some b → block_from_end count (blocks ++ others) n ≡ Some b
more_blocks count n blocks others b h =
    let p = place_of_block count n blocks b h in
    ap (λ (s : Bool). if s then slice_get (blocks ++ others) (number_of count n) else None) (lt-ltb n count p.0) ∙ front blocks others (number_of count n) b p.1

-- ---- what is made stays so while more is made

zip_weaker : {X Y : Type 0} (P Q : X → Y → Type 0) → ((x : X) (y : Y) → P x y → Q x y) → (xs : List X) (ys : List Y) → AllZip P xs ys → AllZip Q xs ys
zip_weaker P Q h [] [] z = tt
zip_weaker P Q h [] (y ∷ ys) z = absurd z
zip_weaker P Q h (x ∷ xs) [] z = absurd z
zip_weaker P Q h (x ∷ xs) (y ∷ ys) z = (h x y z.0, zip_weaker P Q h xs ys z.1)

module _ (catalog : Catalog) (sources : List Source) (old new : ℕ → Option Block) (nodes others : List PlanNode) (stays : (n : ℕ) (b : Block) → old n ≡ Some b → new n ≡ Some b) where
  inner_grows : {number : ℕ} {q : Query} {inner : ℕ} {b : Block} {t : Tree} → IsInner catalog sources old nodes number q inner b t → IsInner catalog sources new (nodes ++ others) number q inner b t
  inner_grows {number} {q} {inner} {b} {t} i = record { behind = i.behind; source = i.source; there = stays inner b i.there; planned = tree_stays nodes others b.plan t i.planned }

  item_grows : (number : ℕ) (leaf : JoinTree) (item : Item) → IsItem catalog sources old nodes number leaf item → IsItem catalog sources new (nodes ++ others) number leaf item
  item_grows number leaf item (IsItem.table rel table name text def out there rows is) = IsItem.table rel table name text def out there rows is
  item_grows number leaf item (IsItem.select rel inner name query block tree out i is) = IsItem.select rel inner name query block tree out (inner_grows i) is
  item_grows number leaf item (IsItem.full kind left right on l r lb rb lt rt out i j is) = IsItem.full kind left right on l r lb rb lt rt out (inner_grows i) (inner_grows j) is

  pub block_grows : (number : ℕ) (s : Source) (b : Block) → IsBlockFrom catalog sources old nodes number s b → IsBlockFrom catalog sources new (nodes ++ others) number s b
  block_grows number s b h = record {
    items = zip_weaker (IsItem catalog sources old nodes number) (IsItem catalog sources new (nodes ++ others) number) (item_grows number) (items_of_block s.query) b.problem.items h.items;
    problem = h.problem;
    plan = record { tree = h.plan.tree; is = tree_stays nodes others b.plan h.plan.tree h.plan.is; plan = h.plan.plan; first = h.plan.first };
    columns = h.columns;
    distinct = h.distinct;
    order = h.order;
    sub = h.sub;
  }

price_grows : (nodes others : List PlanNode) (b : Block) (p : Price) (t : Tree) → IsTreeOf nodes b.plan t → HasPrice nodes b p → HasPrice (nodes ++ others) b p
price_grows nodes others b p t is h = record {
  rows = h.rows;
  cost = λ u on. h.cost u (subst (IsTreeOf nodes b.plan) (same_tree (nodes ++ others) b.plan t u (tree_stays nodes others b.plan t is) on) is);
  bounded = h.bounded;
}

-- ---- the items of the next block

module _ (catalog : Catalog) (entries : List Entry) (blocks : List Block) (prices : List Price) (nodes : List PlanNode) (made : AreMade catalog entries blocks prices nodes)
    (before behind : List Entry) (entry : Entry) (cut : entries ≡ before ++ entry ∷ behind) (here : length before ≡ length blocks) where
  abbrev count : ℕ
  count = length entries

  abbrev sources : List Source
  sources = sources_of entries

  abbrev block_at : ℕ → Option Block
  block_at = block_from_end count blocks

  abbrev number : ℕ
  number = number_of count (length blocks)

  count_is : count ≡ length before + suc (length behind)
  count_is = ap length cut ∙ length-append before (entry ∷ behind)

  -- the block of an item, with its tree and its price
  record Used (q : Query) (p : ℕ) (price : Price) : Type 0 where
    block : Block
    tree : Tree
    inner : IsInner catalog sources block_at nodes number q (number_of count p) block tree
    priced : HasPrice nodes block price

  used : (q : Query) (p : ℕ) (price : Price) → IsAt before (item_part q) p → slice_get prices p ≡ Some price → Used q p price
  used q p price at hp =
      let low = within before p at.entry at.there in
      let b = there blocks p (omega (arith, low, here)) in
      let in_all : slice_get entries p ≡ Some at.entry = ap (λ es. slice_get es p) cut ∙ front before (entry ∷ behind) p at.entry at.there in
      let from = made.are p at.entry b.0 in_all b.1 in
      let counted : p + number_of count p + 1 ≡ count = omega (arith, low, count_is) in
      record {
        block = b.0;
        tree = from.plan.tree;
        inner = record {
          behind = omega (arith, low, here, count_is);
          source = subst (IsSourceAt sources (number_of count p)) (ap (λ (x : Part). part_source x) at.is) (turned_at source_of entries p (number_of count p) at.entry counted in_all);
          there = block_at_number count p blocks b.0 (omega (arith, low, count_is)) b.1;
          planned = from.plan.is;
        };
        priced = made.priced p b.0 price b.1 hp;
      }
    where
      part_source : Part → Source
      part_source x = record { query = x.query; sub = x.sub }

  select_is : (leaf : JoinTree) (rel inner : ℕ) (block : Block) (tree : Tree) (price : Price) → HasPrice nodes block price → IsTreeOf nodes block.plan tree
      → select_of (known_rels leaf) rel inner price ≡ select_item catalog sources block_at nodes leaf rel inner block tree
  select_is leaf rel inner block tree price h is = ap₂ (λ r c. select_of (known_rels leaf) rel inner (record { rows = r; cost = c })) h.rows (h.cost tree is)

  full_is : (leaf : JoinTree) (on : List Expr) (l r : ℕ) (lb rb : Block) (lt rt : Tree) (lp rp : Price) → HasPrice nodes lb lp → HasPrice nodes rb rp → IsTreeOf nodes lb.plan lt → IsTreeOf nodes rb.plan rt
      → full_of (known_rels leaf) on l r lp rp ≡ full_item catalog sources block_at nodes leaf on l r lb rb lt rt
  full_is leaf on l r lb rb lt rt lp rp h k is js =
      ap₂ (λ p q. full_of (known_rels leaf) on l r p q) (ap₂ made_price h.rows (h.cost lt is)) (ap₂ made_price k.rows (k.cost rt js))
    where
      made_price : ℕ → ℕ → Price
      made_price rows cost = record { rows = rows; cost = cost }

  none_here : (leaf : JoinTree) (leaves : List JoinTree) (places : List ℕ) (layer : JoinTreeLayer) (qs : List Query) → out-JoinTree leaf ≡ layer → blocks_at layer ≡ qs → AtPlaces before (blocks_of_item leaf ++ flat_map blocks_of_item leaves) places
      → AtPlaces before (qs ++ flat_map blocks_of_item leaves) places
  none_here leaf leaves places layer qs out e h = subst (λ xs. AtPlaces before (xs ++ flat_map blocks_of_item leaves) places) (ap blocks_at out ∙ e) h

  -- one item and the places of the others
  record OneItem (leaf : JoinTree) (leaves : List JoinTree) (places : List ℕ) (item : Item) : Type 0 where
    one : IsItem catalog sources block_at nodes number leaf item
    rest : AtPlaces before (flat_map blocks_of_item leaves) places

  one_item : (leaf : JoinTree) (leaves : List JoinTree) (mine places : List ℕ) (item : Item) → IsItemOf catalog prices count (known_rels leaf) leaf mine item → AtPlaces before (blocks_of_item leaf ++ flat_map blocks_of_item leaves) (mine ++ places) → OneItem leaf leaves places item
  one_item leaf leaves mine places item (IsItemOf.table rel table name text def out empty at rows is) h = record {
    one = IsItem.table rel table name text def out at rows is;
    rest = none_here leaf leaves places (JoinTree-F.Base rel name table) [] out refl (subst (λ ps. AtPlaces before (blocks_of_item leaf ++ flat_map blocks_of_item leaves) (ps ++ places)) empty h);
  }
  one_item leaf leaves mine places item (IsItemOf.select rel name query place price out empty at is) h =
      let k = none_here leaf leaves (place ∷ places) (JoinTree-F.Sub rel name query) (query ∷ []) out refl (subst (λ ps. AtPlaces before (blocks_of_item leaf ++ flat_map blocks_of_item leaves) (ps ++ places)) empty h) in
      let u = used query place price (first_at k) at in
      record {
        one = IsItem.select rel (number_of count place) name query u.block u.tree out u.inner (is ∙ select_is leaf rel (number_of count place) u.block u.tree price u.priced u.inner.planned);
        rest = rest_at k;
      }
  one_item leaf leaves mine places item (IsItemOf.full kind left right on l r lp rp out empty at_l at_r is) h =
      let k = none_here leaf leaves (l ∷ r ∷ places) (JoinTree-F.Join kind left right on) (side_block left ∷ side_block right ∷ []) out refl (subst (λ ps. AtPlaces before (blocks_of_item leaf ++ flat_map blocks_of_item leaves) (ps ++ places)) empty h) in
      let u = used (side_block left) l lp (first_at k) at_l in
      let v = used (side_block right) r rp (first_at (rest_at k)) at_r in
      record {
        one = IsItem.full kind left right on (number_of count l) (number_of count r) u.block v.block u.tree v.tree out u.inner v.inner
            (is ∙ full_is leaf on (number_of count l) (number_of count r) u.block v.block u.tree v.tree lp rp u.priced v.priced u.inner.planned v.inner.planned);
        rest = rest_at (rest_at k);
      }

  pub items_are : {leaves : List JoinTree} {places : List ℕ} {items : List Item} → AreItems catalog prices count leaves places items → AtPlaces before (flat_map blocks_of_item leaves) places → AllZip (IsItem catalog sources block_at nodes number) leaves items
  items_are AreItems.none h = tt
  items_are (AreItems.more {leaf} {leaves} {mine} {places} {item} {items} it rest) h = let one = one_item leaf leaves mine places item it h in (one.one, items_are rest one.rest)

  -- ---- one block more

  entry_here : slice_get entries (length blocks) ≡ Some entry
  entry_here = ap (λ es. slice_get es (length blocks)) cut ∙ ap (slice_get (before ++ entry ∷ behind)) (sym here) ∙ seam before behind entry

  pub made_behind : AreMadeBehind catalog sources block_at nodes number
  made_behind place source block low at there_is =
      let f = from_turned source_of entries place source at in
      let same : number_of count place ≡ f.place = omega (arith, f.counted) in
      let again : number_of count f.place ≡ place = omega (arith, f.counted) in
      let in_blocks : slice_get blocks f.place ≡ Some block = ap (slice_get blocks) (sym same) ∙ place_of_number count place blocks block true (lt-ltb place count (omega (arith, f.counted))) there_is in
      subst (λ (s : Source). IsBlockFrom catalog sources block_at nodes place s block) f.is
      (subst (λ n. IsBlockFrom catalog sources block_at nodes n (source_of f.member) block) again (made.are f.place f.member block f.there in_blocks))

  module _ (others : List PlanNode) (block : Block) (price : Price) (planned : IsPlanned catalog prices count entry (nodes ++ others) block price) (places : AtPlaces before (queries_of_items entry.part.query) entry.inner) where
    abbrev new_blocks : List Block
    new_blocks = blocks ++ block ∷ []

    grow : (n : ℕ) (b : Block) → block_at n ≡ Some b → block_from_end count new_blocks n ≡ Some b
    grow n b h = more_blocks count n blocks (block ∷ []) b h

    new_block : IsBlockFrom catalog sources (block_from_end count new_blocks) (nodes ++ others) number (source_of entry) block
    new_block = record {
      items = zip_weaker (IsItem catalog sources block_at nodes number) (IsItem catalog sources (block_from_end count new_blocks) (nodes ++ others) number) (item_grows catalog sources block_at (block_from_end count new_blocks) nodes others grow number)
          (items_of_block entry.part.query) block.problem.items (items_are planned.items places);
      problem = planned.problem;
      plan = record { tree = planned.plan.tree; is = planned.plan.is; plan = planned.plan.plan; first = planned.plan.first };
      columns = planned.columns;
      distinct = planned.distinct;
      order = planned.order;
      sub = planned.sub;
    }

    pub one_more : AreMade catalog entries new_blocks (prices ++ price ∷ []) (nodes ++ others)
    one_more = record {
      few = omega (arith, count_is, here, length-append blocks (block ∷ []));
      same = omega (arith, made.same, length-append blocks (block ∷ []), length-append prices (price ∷ []));
      are = λ i e b he hb. (elim (last_or_before blocks block i b hb) [
        | inl h ↦ block_grows catalog sources block_at (block_from_end count new_blocks) nodes others grow (number_of count i) (source_of e) b (made.are i e b he h)
        | inr h ↦
            (let at : number ≡ number_of count i = ap (number_of count) (sym h.0) in
            let same_entry : entry ≡ e = one_there entries (length blocks) entry e entry_here (ap (slice_get entries) (sym h.0) ∙ he) in
            subst (λ n. IsBlockFrom catalog sources (block_from_end count new_blocks) (nodes ++ others) n (source_of e) b) at
            (subst (λ (x : Entry). IsBlockFrom catalog sources (block_from_end count new_blocks) (nodes ++ others) number (source_of x) b) same_entry
            (subst (λ x. IsBlockFrom catalog sources (block_from_end count new_blocks) (nodes ++ others) number (source_of entry) x) h.1 new_block)))
      ]);
      priced = λ i b p hb hp. (elim (last_or_before blocks block i b hb) [
        | inl h ↦
            (let low = within blocks i b h in
            let old = there prices i (omega (arith, low, made.same)) in
            let same_price : old.0 ≡ p = one_there (prices ++ price ∷ []) i old.0 p (front prices (price ∷ []) i old.0 old.1) hp in
            let e = there entries i (omega (arith, low, made.few)) in
            let from = made.are i e.0 b e.1 h in
            price_grows nodes others b p from.plan.tree from.plan.is (made.priced i b p h (old.1 ∙ ap Some same_price)))
        | inr h ↦
            (let at : i ≡ length prices = omega (arith, h.0, made.same) in
            let same_price : price ≡ p = one_there (prices ++ price ∷ []) (length prices) price p (seam prices [] price) (ap (slice_get (prices ++ price ∷ [])) (sym at) ∙ hp) in
            subst (λ x. HasPrice (nodes ++ others) x p) h.1 (subst (HasPrice (nodes ++ others) block) same_price planned.priced))
      ]);
    }
