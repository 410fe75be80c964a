-- The relations of a tree's items: its own leaves.
use Rattle.std.proofs.Common.{◌≡◌, sym, subst, refl, ℕ, true, Some, List, map}
use Rattle.std.specs.Prelude.{slice_get}
use Rattle.jp_base.specs.Sets.{Has}
use Rattle.jp_facts.proofs.Members.{In, to_in, in_map, from_map}
use Rattle.jp_query.specs.declared.JoinTree.{JoinTree}
use Rattle.jp_query.specs.Meaning.{Row, tuples_of}
use Rattle.jp_query.specs.OwnLeaves.{own_leaves}
use Rattle.jp_query.specs.Parts.{rels_of}
use Rattle.jp_query.specs.Refs.{union}
use Rattle.jp_query.specs.Typing.{tree_is_typed}
use Rattle.jp_query.proofs.RelsLaw.{rels_same}
use Rattle.jp_laws.proofs.LeafLaws.{rels_are_own}
use Rattle.jp_problem.specs.Blocks.{known_rels}
use Rattle.jp_problem.specs.Shapes.{shape_of, items_in}
use Rattle.jp_problem.proofs.UnionLaws.{has_union}
use Rattle.jp_conditions.proofs.Entering.{own_leaf, own_found}
use Rattle.jp_conditions.proofs.Judging.{tree_leaf_set}
use Rattle.jp_conditions.proofs.Laying.{known_has, mapped_place}
use Rattle.jp_conditions.proofs.Leaves.{HasLeaf}
use Rattle.jp_conditions.proofs.Numbers.{from_place}
use Rattle.jp_conditions.proofs.Shaping.{own_items, among_items}
use Rattle.jp_prepared.proofs.Counted.{in_some}
use Rattle.jp_spine.proofs.MeaningLaws.{low_known}
use Rattle.jp_spine.proofs.TreeTuples.{tree_low}

-- an item's relation is an own leaf of the tree
pub item_own : (t item : JoinTree) (rel : ℕ) → In item (items_in (shape_of t)) → Has (known_rels item) rel → In rel (own_leaves t)
item_own t item rel m h =
    subst (In rel) (sym (own_items t)) (in_some (items_in (shape_of t)) item rel m (to_in rel (own_leaves item) (rels_are_own item rel (known_has (rels_of item) rel h))))

pub place_own : (t : JoinTree) (i set rel : ℕ) → slice_get (map known_rels (items_in (shape_of t))) i ≡ Some set → Has set rel → In rel (own_leaves t)
place_own t i set rel e h =
    let p = mapped_place known_rels (items_in (shape_of t)) i set e in
    item_own t p.0 rel (from_place (items_in (shape_of t)) i p.0 p.1) (subst (λ n. Has n rel) (sym p.2) h)

pub union_own : (t : JoinTree) (rel : ℕ) → Has (union (map known_rels (items_in (shape_of t)))) rel → In rel (own_leaves t)
union_own t rel h =
    let some = (has_union (map known_rels (items_in (shape_of t))) rel).0 h in
    let item = from_map known_rels some.0 (items_in (shape_of t)) some.1 in
    item_own t item.0 rel item.1 (subst (λ n. Has n rel) (sym item.2) some.2)

pub own_is_leaf : (t : JoinTree) (rel : ℕ) → In rel (own_leaves t) → HasLeaf (tree_leaf_set t) rel
own_is_leaf t rel h = (own_leaf rel, own_found t rel h, refl)

-- ---- the relations that the tuples of a typed tree give rows to

module _ (tables : ℕ → List Row) (t : JoinTree) (typed : tree_is_typed t ≡ true) (rel : ℕ) (h : Has (tuples_of tables t).rels rel) where
  pub tuples_own : In rel (own_leaves t)
  tuples_own = to_in rel (own_leaves t) (rels_are_own t rel (subst (λ n. Has n rel) (rels_same tables t) h))

  pub tuples_union : Has (union (map known_rels (items_in (shape_of t)))) rel
  tuples_union =
      let item = among_items t rel (subst (λ n. Has n rel) (rels_same tables t) h) in
      (has_union (map known_rels (items_in (shape_of t))) rel).1 (known_rels item.0, in_map known_rels item.0 (items_in (shape_of t)) item.1, low_known (rels_of item.0) rel (tree_low tables t typed rel h) item.2)
