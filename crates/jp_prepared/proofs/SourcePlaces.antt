-- Each block of a statement stands somewhere in the folded query, and is typed and bounded there; and so do its items, its
-- expressions and the blocks that it uses, in scopes of which each entry is what those of the block's own leaves and of the
-- outer scope are.
use Rattle.std.proofs.Common.{◌≡◌, ◌∙◌, sym, subst, refl, ℕ, zero, suc, ◌≤◌, inl, inr, List, [], ◌∷◌, ◌++◌, map, Some, None, arith}
use Rattle.std.specs.List.{flat_map}
use Rattle.jp_facts.proofs.Members.{In, to_in, from_flat_map}
use Rattle.jp_query.specs.declared.Expr.{Expr}
use Rattle.jp_query.specs.declared.JoinKind.{JoinKind}
use Rattle.jp_query.specs.declared.JoinTree.{JoinTree, out-JoinTree, roll-out-JoinTree}
use Rattle.jp_query.specs.declared.JoinTree.TheVariants as tree
use Rattle.jp_query.specs.declared.Order.{Order, out-Order, roll-out-Order}
use Rattle.jp_query.specs.declared.Output.{Output, out-Output, roll-out-Output}
use Rattle.jp_query.specs.declared.Query.{Query, out-Query, roll-out-Query}
use Rattle.jp_query.specs.declared.Expr.TheOpen.{JoinTree-F}
use Rattle.jp_query.specs.declared.Expr.TheViews.{roll-Expr, roll-JoinTree}
use Rattle.jp_query.specs.Layers.{ExprLayer, JoinTreeLayer}
use Rattle.jp_query.specs.Outermost.{Outer, outermost}
use Rattle.jp_query.specs.Parts.{option_part, parts, sublink_query}
use Rattle.jp_query.specs.Scopes.{Schema, Entry, Scope, entries_of}
use Rattle.jp_laws.proofs.EachPart.{Each, each_append, each_map, each_weaker}
use Rattle.jp_folding.proofs.FineDown.{entries_in, entries_beside, inside, above}
use Rattle.jp_problem.specs.Blocks.{block_exprs, listed_exprs, output_expr, order_expr}
use Rattle.jp_problem.specs.InnerBlocks.{blocks_at, blocks_of_item, exprs_at, exprs_of_item}
use Rattle.jp_problem.specs.Shapes.{block_shape, shape_of, exprs_in}
use Rattle.jp_conditions.proofs.Judging.{each_in}
use Rattle.jp_prepared.specs.Sources.{Source, IsSourceAt, AreSources, IsUsedBy, items_of_block, queries_of_items, sublinks_of_block}
use Rattle.jp_prepared.proofs.ItemForms.{NotFull, HasItemForm, IsItemTree, ItemsGood, left_good, right_good, member_good, entries_good, sides_good, items_formed}
use Rattle.jp_prepared.proofs.Places.{ExprPlaced, TreePlaced, OrderPlaced, OutputPlaced, QueryPlaced, placed_down, side_placed, sides_distinct}
use Rattle.jp_prepared.proofs.Reached as reached

module _ (schema : Schema) (bases : ℕ) (Good : Entry → Type 0) where
  -- in scopes of good entries
  abbrev pub ExprThere : Scope → Expr → Type 0
  ExprThere s e = ExprPlaced schema bases s e × Each Good s

  abbrev pub OwnGood : Scope → JoinTree → Type 0
  OwnGood s t = ItemsGood schema Good s t

  abbrev pub TreeThere : Scope → JoinTree → Type 0
  TreeThere s t = TreePlaced schema bases s t × Each Good s × OwnGood s t

  abbrev pub QueryThere : Scope → Query → Type 0
  QueryThere s q = QueryPlaced schema bases s q × Each Good s

  abbrev OutputThere : Scope → Output → Type 0
  OutputThere s u = OutputPlaced schema bases s u × Each Good s

  abbrev OrderThere : Scope → Order → Type 0
  OrderThere s o = OrderPlaced schema bases s o × Each Good s

  with_good : {X : Type 0} (P : X → Type 0) (s : Scope) (xs : List X) → Each Good s → Each P xs → Each (λ x. P x × Each Good s) xs
  with_good P s xs good h = each_weaker P (λ x. P x × Each Good s) (λ x p. (p, good)) xs h

  -- the entries of trees are those of their items
  beside_good : (s : Scope) (ts : List JoinTree) → Each (OwnGood s) ts → Each Good (entries_beside schema s ts)
  beside_good s [] h = tt
  beside_good s (t ∷ ts) h = each_append Good (entries_of schema t s) (entries_beside schema s ts) (entries_good schema Good s t h.0) (beside_good s ts h.1)

  expr_down : (s : Scope) (x : ExprLayer) → ExprThere s (roll-Expr x) → Each (ExprThere s) (parts x) × Each (QueryThere s) (option_part (sublink_query x))
  expr_down s x h = let d = (placed_down schema bases).expr s x h.0 in (with_good (ExprPlaced schema bases s) s (parts x) h.1 d.0, with_good (QueryPlaced schema bases s) s (option_part (sublink_query x)) h.1 d.1)

  three : (s : Scope) (ts : List JoinTree) → Each Good s → Each (TreePlaced schema bases s) ts → Each (OwnGood s) ts → Each (TreeThere s) ts
  three s [] good h own = tt
  three s (t ∷ ts) good h own = ((h.0, good, own.0), three s ts good h.1 own.1)

  join_down : (s : Scope) (kind : JoinKind) (left right : JoinTree) (on : List Expr) → NotFull kind → TreeThere s (tree.Join kind left right on) → TreeThere s left × TreeThere s right × Each (ExprThere (inside schema s (JoinTree-F.Join kind left right on))) on
  join_down s kind left right on apart h =
      let x = JoinTree-F.Join kind left right on in
      let d = (placed_down schema bases).tree s x (subst (TreePlaced schema bases s) (sym (tree.rolls-Join kind left right on)) h.0) in
      let l = left_good schema Good s kind left right on apart h.2 in
      let r = right_good schema Good s kind left right on apart h.2 in (
        (d.0.0, h.1, l),
        (d.0.1.0, h.1, r),
        with_good (ExprPlaced schema bases (inside schema s x)) (inside schema s x) on (each_append Good (entries_beside schema s (left ∷ right ∷ [])) s (beside_good s (left ∷ right ∷ []) (l, (r, tt))) h.1) d.1,
      )

  from_down : (s : Scope) (members : List JoinTree) (conds : List Expr) → TreeThere s (tree.From members conds) → Each (TreeThere s) members × Each (ExprThere (inside schema s (JoinTree-F.From members conds))) conds
  from_down s members conds h =
      let x = JoinTree-F.From members conds in
      let d = (placed_down schema bases).tree s x (subst (TreePlaced schema bases s) (sym (tree.rolls-From members conds)) h.0) in
      let own = among members (member_good schema Good s members conds h.2) in
      (three s members h.1 d.0 own, with_good (ExprPlaced schema bases (inside schema s x)) (inside schema s x) conds (each_append Good (entries_beside schema s members) s (beside_good s members own) h.1) d.1)
    where
      among : (ts : List JoinTree) → ((t : JoinTree) → In t ts → OwnGood s t) → Each (OwnGood s) ts
      among [] f = tt
      among (t ∷ ts) f = (f t (inl refl), among ts (λ u m. f u (inr m)))

  -- ---- the parts of a block

  abbrev pub ExprSomewhere : Expr → Type 0
  ExprSomewhere e = (s : Scope) × ExprThere s e

  abbrev pub QuerySomewhere : Query → Type 0
  QuerySomewhere q = (s : Scope) × QueryThere s q

  abbrev pub BlockThere : Scope → Query → Type 0
  BlockThere s q = QueryPlaced schema bases s q × Each Good s × OwnGood s (out-Query q).tree

  pub tree_there : (s : Scope) (q : Query) → BlockThere s q → TreeThere s (out-Query q).tree
  tree_there s q h = (((placed_down schema bases).query s (out-Query q) (subst (QueryPlaced schema bases s) (sym (roll-out-Query q)) h.0)).1, h.1, h.2)

  pub items_there : (s : Scope) (q : Query) → BlockThere s q → Each (TreeThere s) (items_of_block q)
  items_there s q h = reached.items_reached (inside schema) ExprThere TreeThere QueryThere expr_down join_down from_down (out-Query q).tree s (tree_there s q h)

  blocks_at_level : (s : Scope) (x : JoinTreeLayer) → TreeThere s (roll-JoinTree x) → Each (QueryThere s) (blocks_at x)
  blocks_at_level s (JoinTree-F.Base rel name table) h = tt
  blocks_at_level s (JoinTree-F.Sub rel name query) h = ((((placed_down schema bases).tree s (JoinTree-F.Sub rel name query) h.0).2.0, h.1), tt)
  blocks_at_level s (JoinTree-F.Join kind left right on) h =
      let d = (placed_down schema bases).tree s (JoinTree-F.Join kind left right on) h.0 in
      let distinct = sides_distinct schema bases s kind left right on (subst (TreePlaced schema bases s) (tree.rolls-Join kind left right on) h.0) in
      ((side_placed schema bases s left d.0.0 distinct.0, h.1), ((side_placed schema bases s right d.0.1.0 distinct.1, h.1), tt))
  blocks_at_level s (JoinTree-F.From members conds) h = tt

  -- the blocks of an item stand where the item does
  pub blocks_there : (s : Scope) (t : JoinTree) → TreeThere s t → Each (QueryThere s) (blocks_of_item t)
  blocks_there s t h = blocks_at_level s (out-JoinTree t) (subst (TreeThere s) (sym (roll-out-JoinTree t)) h)

  somewhere : (s : Scope) (es : List Expr) → Each (ExprThere s) es → Each ExprSomewhere es
  somewhere s [] h = tt
  somewhere s (e ∷ es) h = ((s, h.0), somewhere s es h.1)

  on_at_level : (s : Scope) (x : JoinTreeLayer) → HasItemForm x → TreePlaced schema bases s (roll-JoinTree x) → Each Good s → Each Good (entries_of schema (roll-JoinTree x) s) → Each ExprSomewhere (exprs_at x)
  on_at_level s (JoinTree-F.Base rel name table) form h good own = tt
  on_at_level s (JoinTree-F.Sub rel name query) form h good own = tt
  on_at_level s (JoinTree-F.From members conds) form h good own = absurd form
  on_at_level s (JoinTree-F.Join kind left right on) form h good own =
      let x = JoinTree-F.Join kind left right on in
      let sides = sides_good schema Good s left right on (subst (λ k. Each Good (entries_of schema (tree.Join k left right on) s)) form (subst (λ t. Each Good (entries_of schema t s)) (tree.rolls-Join kind left right on) own)) in
      somewhere (inside schema s x) on (with_good (ExprPlaced schema bases (inside schema s x)) (inside schema s x) on (each_append Good (entries_beside schema s (left ∷ right ∷ [])) s sides good) ((placed_down schema bases).tree s x h).1)

  items_on : (s : Scope) (ts : List JoinTree) → Each IsItemTree ts → Each (TreeThere s) ts → ((t : JoinTree) → In t ts → Each Good (entries_of schema t s)) → Each ExprSomewhere (flat_map exprs_of_item ts)
  items_on s [] form h own = tt
  items_on s (t ∷ ts) form h own =
      each_append ExprSomewhere (exprs_of_item t) (flat_map exprs_of_item ts)
      (on_at_level s (out-JoinTree t) form.0 (subst (TreePlaced schema bases s) (sym (roll-out-JoinTree t)) h.0.0) h.0.1 (subst (λ u. Each Good (entries_of schema u s)) (sym (roll-out-JoinTree t)) (own t (inl refl)))) (items_on s ts form.1 h.1 (λ u m. own u (inr m)))

  pub on_there : (s : Scope) (q : Query) → BlockThere s q → Each ExprSomewhere (flat_map exprs_of_item (items_of_block q))
  on_there s q h = items_on s (items_of_block q) (items_formed (out-Query q).tree) (items_there s q h) h.2

  output_there : (s : Scope) (u : Output) → OutputPlaced schema bases s u → ExprPlaced schema bases s (output_expr u)
  output_there s u h = (placed_down schema bases).output s (out-Output u) (subst (OutputPlaced schema bases s) (sym (roll-out-Output u)) h)

  order_there : (s : Scope) (o : Order) → OrderPlaced schema bases s o → ExprPlaced schema bases s (order_expr o)
  order_there s o h = (placed_down schema bases).order s (out-Order o) (subst (OrderPlaced schema bases s) (sym (roll-out-Order o)) h)

  abbrev up : Scope → Query → Scope
  up s q = above schema s (out-Query q)

  up_good : (s : Scope) (q : Query) → BlockThere s q → Each Good (up s q)
  up_good s q h = each_append Good (entries_in schema s (out-Query q).tree) s (entries_good schema Good s (out-Query q).tree h.2) h.1

  pub listed_there : (s : Scope) (q : Query) → BlockThere s q → Each (ExprThere (up s q)) (listed_exprs q)
  listed_there s q h =
      let layer = out-Query q in
      let d = (placed_down schema bases).query s layer (subst (QueryPlaced schema bases s) (sym (roll-out-Query q)) h.0) in
      each_append (ExprThere (up s q)) (map output_expr layer.columns) (map order_expr layer.order)
      (each_map (ExprThere (up s q)) output_expr layer.columns (each_weaker (OutputPlaced schema bases (up s q)) (λ u. ExprThere (up s q) (output_expr u)) (λ u p. (output_there (up s q) u p, up_good s q h)) layer.columns d.0))
      (each_map (ExprThere (up s q)) order_expr layer.order (each_weaker (OrderPlaced schema bases (up s q)) (λ o. ExprThere (up s q) (order_expr o)) (λ o p. (order_there (up s q) o p, up_good s q h)) layer.order d.3))

  pub shape_exprs_there : (s : Scope) (q : Query) → BlockThere s q → Each ExprSomewhere (exprs_in (block_shape q))
  shape_exprs_there s q h =
      let layer = out-Query q in
      let d = (placed_down schema bases).query s layer (subst (QueryPlaced schema bases s) (sym (roll-out-Query q)) h.0) in
      each_append ExprSomewhere (exprs_in (shape_of layer.tree)) layer.conds (reached.exprs_reached (inside schema) ExprThere TreeThere QueryThere expr_down join_down from_down layer.tree s (tree_there s q h))
      (somewhere (up s q) layer.conds (with_good (ExprPlaced schema bases (up s q)) (up s q) layer.conds (up_good s q h) d.2))

  pub exprs_there : (s : Scope) (q : Query) → BlockThere s q → Each ExprSomewhere (block_exprs q ++ flat_map exprs_of_item (items_of_block q))
  exprs_there s q h =
      each_append ExprSomewhere (block_exprs q) (flat_map exprs_of_item (items_of_block q))
      (each_append ExprSomewhere (exprs_in (block_shape q)) (listed_exprs q) (shape_exprs_there s q h) (somewhere (up s q) (listed_exprs q) (listed_there s q h))) (on_there s q h)

  -- ---- what a block uses

  at_once : (s : Scope) (os : List Outer) → Each (λ (o : Outer). QueryThere s o.query) os → Each (λ (o : Outer). QuerySomewhere o.query) os
  at_once s [] h = tt
  at_once s (o ∷ os) h = ((s, h.0), at_once s os h.1)

  sublinks_of : (es : List Expr) → Each ExprSomewhere es → Each (λ (o : Outer). QuerySomewhere o.query) (flat_map outermost es)
  sublinks_of [] h = tt
  sublinks_of (e ∷ es) h =
      each_append (λ (o : Outer). QuerySomewhere o.query) (outermost e) (flat_map outermost es)
      (at_once h.0.0 (outermost e) (reached.sublinks_reached (inside schema) ExprThere TreeThere QueryThere expr_down join_down from_down e h.0.0 h.0.1)) (sublinks_of es h.1)

  pub sublinks_there : (s : Scope) (q : Query) → BlockThere s q → Each (λ (o : Outer). QuerySomewhere o.query) (sublinks_of_block q)
  sublinks_there s q h = sublinks_of (block_exprs q ++ flat_map exprs_of_item (items_of_block q)) (exprs_there s q h)

  pub item_queries_there : (s : Scope) (q : Query) → BlockThere s q → (inner : Query) → In inner (queries_of_items q) → QueryThere s inner
  item_queries_there s q h inner m =
      let from = from_flat_map blocks_of_item inner (items_of_block q) m in
      each_in (QueryThere s) (blocks_of_item from.0) inner (blocks_there s from.0 (each_in (TreeThere s) (items_of_block q) from.0 (items_there s q h) from.1)) from.2

  pub used_there : (s : Scope) (q : Query) → BlockThere s q → (inner : Source) → IsUsedBy q inner → QuerySomewhere inner.query
  used_there s q h inner (inl item) = subst (λ (x : Source). QuerySomewhere x.query) (sym item.2) (s, item_queries_there s q h item.0 (to_in item.0 (queries_of_items q) item.1))
  used_there s q h inner (inr sublink) =
      subst (λ (x : Source). QuerySomewhere x.query) (sym sublink.2) (each_in (λ (o : Outer). QuerySomewhere o.query) (sublinks_of_block q) sublink.0 (sublinks_there s q h) (to_in sublink.0 (sublinks_of_block q) sublink.1))

-- ---- every source

module _ (schema : Schema) (bases : ℕ) (query : Query) (sources : List Source) (are : AreSources query sources) (Good : Entry → Type 0)
    (own : (number : ℕ) (source : Source) (s : Scope) → IsSourceAt sources number source → QueryPlaced schema bases s source.query → Each Good s → OwnGood schema bases Good s (out-Query source.query).tree) (top : QueryPlaced schema bases [] query) where
  unsome : (a b : Source) → Some a ≡ Some b → a ≡ b
  unsome a b e = cc

  below : (n number : ℕ) (source : Source) → number ≤ n → IsSourceAt sources number source → QuerySomewhere schema bases Good source.query
  below n zero source low at = subst (λ (x : Source). QuerySomewhere schema bases Good x.query) (unsome (record { query = query; sub = None }) source (sym are.statement ∙ at)) ([], (top, tt))
  below zero (suc number) source low at = absurd (omega (arith, low))
  below (suc n) (suc number) source low at =
      let by = are.used (suc number) source (omega arith) at in
      let outer = below n by.0 by.1 (omega (arith, low, by.2)) by.3 in
      used_there schema bases Good outer.0 by.1.query (outer.1.0, outer.1.1, own by.0 by.1 outer.0 by.3 outer.1.0 outer.1.1) source by.4

  pub source_there : (number : ℕ) (source : Source) → IsSourceAt sources number source → (s : Scope) × BlockThere schema bases Good s source.query
  source_there number source at = let h = below number number source (omega arith) at in (h.0, (h.1.0, h.1.1, own number source h.0 at h.1.0 h.1.1))

-- ---- without regard to entries

abbrev pub Any : Entry → Type 0
Any e = Unit {0}

pub any_all : (es : List Entry) → Each Any es
any_all [] = tt
any_all (e ∷ es) = (tt, any_all es)

pub source_placed : (schema : Schema) (bases : ℕ) (query : Query) (sources : List Source) → AreSources query sources → QueryPlaced schema bases [] query → (number : ℕ) (source : Source) → IsSourceAt sources number source → (s : Scope) × BlockThere schema bases Any s source.query
source_placed schema bases query sources are top number source at = source_there schema bases query sources are Any (λ number source s at placed good u own. any_all (entries_of schema u s)) top number source at
