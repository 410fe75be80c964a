-- What holds of the entries of leaves that are items of blocks holds of the entries of every block's tree.
use Rattle.std.proofs.Common.{◌≡◌, ◌∙◌, ap, sym, subst, refl, ℕ, inl, inr, false, List, [], ◌∷◌, map}
use Rattle.std.specs.List.{flat_map}
use Rattle.std.proofs.lemmas.List.Elements.{All-contains}
use Rattle.jp_facts.proofs.Members.{In, from_in, in_flat_map}
use Rattle.jp_query.specs.declared.Expr.{Expr}
use Rattle.jp_query.specs.declared.JoinKind.{JoinKind}
use Rattle.jp_query.specs.declared.JoinKind.TheVariants as join
use Rattle.jp_query.specs.declared.JoinTree.{JoinTree, out-JoinTree, out-roll-JoinTree}
use Rattle.jp_query.specs.declared.JoinTree.TheVariants as tree
use Rattle.jp_query.specs.declared.Query.{Query, out-Query, out-roll-Query}
use Rattle.jp_query.specs.declared.Expr.TheOpen.{JoinTree-F}
use Rattle.jp_query.specs.Layers.{QueryLayer}
use Rattle.jp_query.specs.Scopes.{Schema, Entry, Scope, BoundIn, EntriesIn, ColumnIn, ColumnsIn, in_scope, expr_bound, tree_entries, order_bound, output_column, query_columns, entries_of}
use Rattle.jp_query.proofs.FoldLaws as laws
use Rattle.jp_laws.proofs.EachPart.{Each, each_append}
use Rattle.jp_problem.specs.InnerBlocks.{blocks_at, blocks_of_item, side_block}
use Rattle.jp_problem.specs.Shapes.{shape_of, items_in, joined}
use Rattle.jp_problem.proofs.ShapeLaws.{at_base, at_sub, at_join, at_from}
use Rattle.jp_conditions.proofs.Forms.{by_form}
use Rattle.jp_conditions.proofs.Judging.{each_in}
use Rattle.jp_prepared.specs.Sources.{Source, IsSourceAt, AreSources, HasBehind, items_of_block, queries_of_items, of_item}
use Rattle.jp_prepared.proofs.ItemForms.{NotFull, IsItemTree, alone, of_kind, of_left, of_right, of_member, items_formed}
use Rattle.jp_prepared.proofs.Places.{QueryPlaced}
use Rattle.jp_prepared.proofs.SourcePlaces as there

module _ (schema : Schema) (bases : ℕ) (query : Query) (sources : List Source) (are : AreSources query sources) (Good : Entry → Type 0) (s : Scope) where
  -- the block of this source stands in the scope, and the leaf is an item of it
  abbrev pub LeafGood : Type 0
  LeafGood = (number : ℕ) (source : Source) → IsSourceAt sources number source → QueryPlaced schema bases s source.query
      → ((rel : ℕ) (name : List ℕ) (table : ℕ) → In (tree.Base rel name table) (items_of_block source.query) → Each Good (entries_of schema (tree.Base rel name table) s))
      × ((rel : ℕ) (name : List ℕ) (q : Query) → In (tree.Sub rel name q) (items_of_block source.query) → Each Good (entries_of schema (tree.Sub rel name q) s))

  module _ (leaf_good : LeafGood) where
    -- the items of a tree are items of a block
    abbrev IsInBlock : JoinTree → Type 0
    IsInBlock t = (number : ℕ) (source : Source) → IsSourceAt sources number source → QueryPlaced schema bases s source.query → ((v : JoinTree) → In v (items_in (shape_of t)) → In v (items_of_block source.query)) → Each Good (entries_of schema t s)

    joined_good : (kind : JoinKind) (left right : JoinTree) (on : List Expr) → Each Good (entries_of schema left s) → Each Good (entries_of schema right s) → Each Good (entries_of schema (tree.Join kind left right on) s)
    joined_good kind left right on a b = subst (Each Good) (sym (ap (λ (f : EntriesIn). f s) (laws.at-Join BoundIn EntriesIn BoundIn ColumnIn ColumnsIn expr_bound (tree_entries schema) order_bound output_column query_columns kind left right on)))
        (of_kind schema Good s kind (entries_of schema left s) (entries_of schema right s) a b)

    two_good : (kind : JoinKind) (left right : JoinTree) (on : List Expr) → NotFull kind → IsInBlock left → IsInBlock right → IsInBlock (tree.Join kind left right on)
    two_good kind left right on apart p q number source at placed items =
        let t = tree.Join kind left right on in
        let in_tree = λ (v : JoinTree) (m : In v (items_in (joined kind t (shape_of left) (shape_of right) on))). items v (subst (λ x. In v (items_in x)) (sym (at_join kind left right on)) m) in
        joined_good kind left right on (p number source at placed (λ v m. in_tree v (of_left t v (shape_of left) (shape_of right) on kind apart m))) (q number source at placed (λ v m. in_tree v (of_right t v (shape_of left) (shape_of right) on kind apart m)))

    full_good : (left right : JoinTree) (on : List Expr) → IsInBlock left → IsInBlock right → IsInBlock (tree.Join join.Full left right on)
    full_good left right on p q number source at placed items =
        joined_good join.Full left right on (p (a left l).0 (of_item (side_block left)) (a left l).2 (b left l) (side left)) (q (a right r).0 (of_item (side_block right)) (a right r).2 (b right r) (side right))
      where
        used : (inner : Query) → In inner (blocks_at (JoinTree-F.Join join.Full left right on)) → In inner (queries_of_items source.query)
        used inner m =
            let t = tree.Join join.Full left right on in
            let leaf = items t (subst (λ x. In t (items_in x)) (sym (at_join join.Full left right on)) (inl refl)) in
            let opened = sym (out-roll-JoinTree (JoinTree-F.Join join.Full left right on)) ∙ ap out-JoinTree (tree.rolls-Join join.Full left right on) in
            in_flat_map blocks_of_item t inner (items_of_block source.query) leaf (subst (λ x. In inner (blocks_at x)) opened m)

        l : In (side_block left) (queries_of_items source.query)
        l = used (side_block left) (inl refl)

        r : In (side_block right) (queries_of_items source.query)
        r = used (side_block right) (inr (inl refl))

        a : (t : JoinTree) → In (side_block t) (queries_of_items source.query) → HasBehind sources number (of_item (side_block t))
        a t m = All-contains (λ x. HasBehind sources number (of_item x)) (queries_of_items source.query) (side_block t) (are.items number source at) (from_in (side_block t) (queries_of_items source.query) m)

        b : (t : JoinTree) → In (side_block t) (queries_of_items source.query) → QueryPlaced schema bases s (side_block t)
        b t m = (there.item_queries_there schema bases there.Any s source.query (placed, there.any_all s, λ v k. there.any_all (entries_of schema v s)) (side_block t) m).0

        side : (t v : JoinTree) → In v (items_in (shape_of t)) → In v (items_of_block (side_block t))
        side t v m = subst (λ x. In v (items_in (shape_of x))) (sym (ap (λ (x : QueryLayer). x.tree) (out-roll-Query (record { columns = []; distinct = false; tree = t; conds = []; order = [] })))) m

    by_kind : (kind : JoinKind) (left right : JoinTree) (on : List Expr) → IsInBlock left → IsInBlock right → IsInBlock (tree.Join kind left right on)
    by_kind join.Full left right on p q = full_good left right on p q
    by_kind join.Inner left right on p q = two_good join.Inner left right on tt p q
    by_kind join.Left left right on p q = two_good join.Left left right on tt p q
    by_kind join.Right left right on p q = two_good join.Right left right on tt p q
    by_kind join.Semi left right on p q = two_good join.Semi left right on tt p q
    by_kind join.Anti left right on p q = two_good join.Anti left right on tt p q

    members_good : (number : ℕ) (source : Source) → IsSourceAt sources number source → QueryPlaced schema bases s source.query → (ts : List JoinTree) → Each IsInBlock ts → ((t v : JoinTree) → In t ts → In v (items_in (shape_of t)) → In v (items_of_block source.query)) → Each Good (flat_map (in_scope s) (map (entries_of schema) ts))
    members_good number source at placed [] each items = tt
    members_good number source at placed (t ∷ ts) each items = each_append Good (entries_of schema t s) (flat_map (in_scope s) (map (entries_of schema) ts)) (each.0 number source at placed (λ v m. items t v (inl refl) m)) (members_good number source at placed ts each.1 (λ u v m. items u v (inr m)))

    in_block : (t : JoinTree) → IsInBlock t
    in_block = by_form IsInBlock (record {
      base = λ rel name table number source at placed items. (leaf_good number source at placed).0 rel name table (items (tree.Base rel name table) (subst (λ x. In (tree.Base rel name table) (items_in x)) (sym (at_base rel name table)) (inl refl)));
      sub = λ rel name q number source at placed items. (leaf_good number source at placed).1 rel name q (items (tree.Sub rel name q) (subst (λ x. In (tree.Sub rel name q) (items_in x)) (sym (at_sub rel name q)) (inl refl)));
      join = by_kind;
      from = λ members conds each number source at placed items. subst (Each Good) (sym (ap (λ (f : EntriesIn). f s) (laws.at-From BoundIn EntriesIn BoundIn ColumnIn ColumnsIn expr_bound (tree_entries schema) order_bound output_column query_columns members conds)))
          (members_good number source at placed members each (λ t v m k. items v (subst (λ x. In v (items_in x)) (sym (at_from members conds)) (of_member v members t m k))));
    })

    pub items_good : (number : ℕ) (source : Source) → IsSourceAt sources number source → QueryPlaced schema bases s source.query → there.OwnGood schema bases Good s (out-Query source.query).tree
    items_good number source at placed v m =
        let form = each_in IsItemTree (items_of_block source.query) v (items_formed (out-Query source.query).tree) m in
        in_block v number source at placed (λ u k. subst (λ w. In w (items_of_block source.query)) (itself u v (subst (In u) (alone v form) k)) m)
      where
        itself : (u v : JoinTree) → In u (v ∷ []) → v ≡ u
        itself u v (inl e) = e
        itself u v (inr gone) = absurd gone
