-- The leaves of different items of a block have different numbers, those inside the items' sublinks too.
use Rattle.std.proofs.Common.{◌≡◌, ◌∙◌, sym, subst, ℕ, inl, inr, true, ◌&&◌, List, [], ◌∷◌, ◌++◌, map, fold}
use Rattle.std.proofs.lemmas.Bool.{and_parts}
use Rattle.jp_facts.proofs.Members.{In, from_append, in_append_left, in_append_right}
use Rattle.jp_induction.proofs.EachPart.{Each}
use Rattle.jp_query.specs.declared.Expr.{Expr}
use Rattle.jp_query.specs.declared.JoinKind.{JoinKind}
use Rattle.jp_query.specs.declared.JoinKind.TheVariants as join
use Rattle.jp_query.specs.declared.JoinTree.{JoinTree}
use Rattle.jp_query.specs.declared.JoinTree.TheVariants as tree
use Rattle.jp_query.specs.Conditions.{Leaf, Leaves, no_leaves, are_apart, together, expr_leaves, tree_leaves, order_leaves, output_leaves, query_leaves}
use Rattle.jp_query.specs.Conditions.{beside as leaves_beside}
use Rattle.jp_query.proofs.FoldLaws as laws
use Rattle.jp_problem.specs.Shapes.{Shape, nothing, item, beside, joined, shape_of, items_in}
use Rattle.jp_problem.proofs.ShapeLaws.{at_base, at_sub, at_join, at_from}
use Rattle.jp_conditions.proofs.Entering.{own_leaf}
use Rattle.jp_conditions.proofs.Forms.{by_form}
use Rattle.jp_conditions.proofs.Judging.{expr_leaf_set, tree_leaf_set}
use Rattle.jp_conditions.proofs.Leaves.{HasLeaf}
use Rattle.jp_conditions.proofs.Sheltered.{none_inside, none_around}

-- the leaves of these trees are among all
pub record TreesIn (ts : List JoinTree) (all : Leaves) : Type 0 where
  pub inside : (t : JoinTree) (l : Leaf) → In t ts → In l (tree_leaf_set t).leaves → In l all.leaves
  pub one : all.apart ≡ true → (a b : JoinTree) (n : ℕ) → In a ts → In b ts → In (own_leaf n) (tree_leaf_set a).leaves → HasLeaf (tree_leaf_set b) n → a ≡ b

none_in : (all : Leaves) → TreesIn [] all
none_in all = record { inside = λ t l h m. absurd h; one = λ apart a b n h k own leaf. absurd h }

one_in : (t : JoinTree) → TreesIn (t ∷ []) (tree_leaf_set t)
one_in t = record {
  inside = λ u l h m. elim h [ inl e ↦ subst (λ x. In l (tree_leaf_set x).leaves) (sym e) m | inr gone ↦ absurd gone ];
  one = λ apart a b n h k own leaf. elim h [ inl e ↦ elim k [ inl f ↦ sym e ∙ f | inr gone ↦ absurd gone ] | inr gone ↦ absurd gone ];
}

pub parts_apart : (a b : Leaves) → (leaves_beside a b).apart ≡ true → (a.apart ≡ true) × (b.apart ≡ true) × (are_apart a.leaves b.leaves ≡ true)
parts_apart a b h = let p = and_parts a.apart (b.apart && are_apart a.leaves b.leaves) h in let q = and_parts b.apart (are_apart a.leaves b.leaves) p.1 in (p.0, q.0, q.1)

two_in : (xs ys : List JoinTree) (a b : Leaves) → TreesIn xs a → TreesIn ys b → TreesIn (xs ++ ys) (leaves_beside a b)
two_in xs ys a b p q = record {
  inside = λ t l h m. elim (from_append t xs ys h) [ inl k ↦ in_append_left l a.leaves b.leaves (p.inside t l k m) | inr k ↦ in_append_right l a.leaves b.leaves (q.inside t l k m) ];
  one = λ apart t u n h k own leaf.
      let parts = parts_apart a b apart in
      elim (from_append t xs ys h) [
        | inl h1 ↦ elim (from_append u xs ys k) [
          | inl k1 ↦ p.one parts.0 t u n h1 k1 own leaf
          | inr k2 ↦ absurd (none_inside n a.leaves b.leaves leaf.0 parts.2 (p.inside t (own_leaf n) h1 own) (q.inside u leaf.0 k2 leaf.1) leaf.2)
        ]
        | inr h2 ↦ elim (from_append u xs ys k) [
          | inl k1 ↦ absurd (none_around n a.leaves b.leaves leaf.0 parts.2 (p.inside u leaf.0 k1 leaf.1) (q.inside t (own_leaf n) h2 own) leaf.2)
          | inr k2 ↦ q.one parts.1 t u n h2 k2 own leaf
        ]
      ];
}

-- further leaves behind
with_more : (xs : List JoinTree) (a b : Leaves) → TreesIn xs a → TreesIn xs (leaves_beside a b)
with_more xs a b p = record {
  inside = λ t l h m. in_append_left l a.leaves b.leaves (p.inside t l h m);
  one = λ apart t u n h k own leaf. p.one (parts_apart a b apart).0 t u n h k own leaf;
}

behind_none : (xs : List JoinTree) (a : Leaves) → TreesIn xs a → TreesIn xs (leaves_beside no_leaves a)
behind_none xs a p = record { inside = p.inside; one = λ apart t u n h k own leaf. p.one (parts_apart no_leaves a apart).1 t u n h k own leaf }

abbrev ItemsIn : JoinTree → Type 0
ItemsIn t = TreesIn (items_in (shape_of t)) (tree_leaf_set t)

leaf_in : (t : JoinTree) → shape_of t ≡ item t → ItemsIn t
leaf_in t e = subst (λ s. TreesIn (items_in s) (tree_leaf_set t)) (sym e) (one_in t)

module _ (left right : JoinTree) (on : List Expr) (p : ItemsIn left) (q : ItemsIn right) where
  abbrev all : Leaves
  all = leaves_beside (leaves_beside (leaves_beside no_leaves (tree_leaf_set left)) (tree_leaf_set right)) (together (map expr_leaf_set on))

  both : TreesIn (items_in (shape_of left) ++ items_in (shape_of right)) all
  both =
      with_more (items_in (shape_of left) ++ items_in (shape_of right)) (leaves_beside (leaves_beside no_leaves (tree_leaf_set left)) (tree_leaf_set right)) (together (map expr_leaf_set on))
      (two_in (items_in (shape_of left)) (items_in (shape_of right)) (leaves_beside no_leaves (tree_leaf_set left)) (tree_leaf_set right) (behind_none (items_in (shape_of left)) (tree_leaf_set left) p) q)

  of_kind : (kind : JoinKind) (t : JoinTree) → TreesIn (t ∷ []) all → TreesIn (items_in (joined kind t (shape_of left) (shape_of right) on)) all
  of_kind join.Full t one = one
  of_kind join.Inner t one = both
  of_kind join.Left t one = both
  of_kind join.Right t one = both
  of_kind join.Semi t one = both
  of_kind join.Anti t one = both

  join_in : (kind : JoinKind) → ItemsIn (tree.Join kind left right on)
  join_in kind =
      let t = tree.Join kind left right on in
      let leaves = laws.at-Join Leaves Leaves Leaves Leaves Leaves expr_leaves tree_leaves order_leaves output_leaves query_leaves kind left right on in
      subst (λ s. TreesIn (items_in s) (tree_leaf_set t)) (sym (at_join kind left right on)) (subst (TreesIn (items_in (joined kind t (shape_of left) (shape_of right) on))) (sym leaves) (of_kind kind t (subst (TreesIn (t ∷ [])) leaves (one_in t))))

members_in : (ts : List JoinTree) (start : Leaves) (shape : Shape) → Each ItemsIn ts → TreesIn (items_in shape) start → TreesIn (items_in (fold beside shape (map shape_of ts))) (fold leaves_beside start (map tree_leaf_set ts))
members_in [] start shape each p = p
members_in (t ∷ ts) start shape each p = members_in ts (leaves_beside start (tree_leaf_set t)) (beside shape (shape_of t)) each.1 (two_in (items_in shape) (items_in (shape_of t)) start (tree_leaf_set t) p each.0)

pub items_apart : (t : JoinTree) → TreesIn (items_in (shape_of t)) (tree_leaf_set t)
items_apart = by_form ItemsIn (record {
  base = λ rel name table. leaf_in (tree.Base rel name table) (at_base rel name table);
  sub = λ rel name query. leaf_in (tree.Sub rel name query) (at_sub rel name query);
  join = λ kind left right on p q. join_in left right on p q kind;
  from = λ members conds each.
      let t = tree.From members conds in
      let leaves = laws.at-From Leaves Leaves Leaves Leaves Leaves expr_leaves tree_leaves order_leaves output_leaves query_leaves members conds in
      let inner = together (map tree_leaf_set members) in
      let items = items_in (fold beside nothing (map shape_of members)) in
      subst (λ s. TreesIn (items_in s) (tree_leaf_set t)) (sym (at_from members conds)) (subst (TreesIn items) (sym leaves) (with_more items inner (together (map expr_leaf_set conds)) (members_in members no_leaves nothing each (none_in no_leaves))));
})
