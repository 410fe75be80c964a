-- A tree's own leaves are among its leaves, and its relations among its own leaves.
use Rattle.std.proofs.Common.{◌≡◌, sym, subst, ℕ, ◌⊎◌, inl, inr, List, [], ◌∷◌, ◌++◌, map, fold, arith}
use Rattle.std.specs.Prelude.{Contains, bit_or}
use Rattle.std.proofs.lemmas.Bool.{cases_eq}
use Rattle.std.proofs.lemmas.Nat.Bits.{bit_at-zero, bit_at-pow_other}
use Rattle.jp_base.specs.Sets.{Has}
use Rattle.jp_base.proofs.SetLemmas.{has_or}
use Rattle.jp_query.specs.declared.Expr.{Expr}
use Rattle.jp_query.specs.declared.JoinTree.{JoinTree}
use Rattle.jp_query.specs.declared.JoinKind.{JoinKind}
use Rattle.jp_query.specs.declared.JoinKind.TheVariants as join
use Rattle.jp_query.specs.declared.Order.{Order}
use Rattle.jp_query.specs.declared.Output.{Output}
use Rattle.jp_query.specs.declared.Query.{Query, out-Query}
use Rattle.jp_query.specs.declared.Expr.TheOpen.{JoinTree-F}
use Rattle.jp_query.specs.declared.Expr.TheViews.{roll-JoinTree}
use Rattle.jp_query.specs.declared.Expr.TheFolds.{map-JoinTree, ind-JoinTree, fold-roll-JoinTree, fold-Order, fold-Output}
use Rattle.jp_query.specs.Joins.{join_rels}
use Rattle.jp_query.specs.Refs.{only}
use Rattle.jp_query.specs.OwnLeaves.{tree_own_leaves, own_leaves, leaves_in_tree}
use Rattle.jp_query.specs.Parts.{all_in, expr_gives, tree_gives, order_gives, output_gives, query_gives, nothing_of_node, leaf_number, leaves_in, tree_rels, rels_of, gathered}
use Rattle.jp_query.proofs.FoldLaws as laws
use Rattle.jp_facts.proofs.Members.{In, to_in, from_in, in_append_left, in_append_right, from_append}

abbrev Good : JoinTree → Type 0
Good t = ((rel : ℕ) → In rel (own_leaves t) → In rel (leaves_in_tree t)) × ((rel : ℕ) → Has (rels_of t) rel → In rel (own_leaves t))

abbrev T : Type 0
T = (t : JoinTree) × Good t

abbrev Level : Type 0
Level = JoinTree-F (Expr × Unit {0}) T (Order × Unit {0}) (Output × Unit {0}) (Query × Unit {0})

abbrev bare : Level → JoinTree-F Expr JoinTree Order Output Query
bare = map-JoinTree (Expr × Unit {0}) T (Order × Unit {0}) (Output × Unit {0}) (Query × Unit {0}) Expr JoinTree Order Output Query (λ x. x.0) (λ x. x.0) (λ x. x.0) (λ x. x.0) (λ x. x.0)

abbrev trees_of : List T → List JoinTree
trees_of = map (λ (y : T). y.0)

-- ---- own leaves are leaves

each_leaf : (ys : List T) (rel : ℕ) → In rel (all_in (map own_leaves (trees_of ys))) → In rel (all_in (map leaves_in_tree (trees_of ys)))
each_leaf [] rel h = h
each_leaf (y ∷ ys) rel h = elim (from_append rel (own_leaves y.0) (all_in (map own_leaves (trees_of ys))) h) [
  | inl p ↦ in_append_left rel (leaves_in_tree y.0) (all_in (map leaves_in_tree (trees_of ys))) (y.1.0 rel p)
  | inr q ↦ in_append_right rel (leaves_in_tree y.0) (all_in (map leaves_in_tree (trees_of ys))) (each_leaf ys rel q)
]

abbrev order_leaves : Order → List ℕ
order_leaves = fold-Order (List ℕ) (List ℕ) (List ℕ) (List ℕ) (List ℕ) (expr_gives ℕ nothing_of_node leaf_number) (tree_gives ℕ nothing_of_node leaf_number) (order_gives ℕ nothing_of_node leaf_number) (output_gives ℕ nothing_of_node leaf_number) (query_gives ℕ nothing_of_node leaf_number)

abbrev output_leaves : Output → List ℕ
output_leaves = fold-Output (List ℕ) (List ℕ) (List ℕ) (List ℕ) (List ℕ) (expr_gives ℕ nothing_of_node leaf_number) (tree_gives ℕ nothing_of_node leaf_number) (order_gives ℕ nothing_of_node leaf_number) (output_gives ℕ nothing_of_node leaf_number) (query_gives ℕ nothing_of_node leaf_number)

abbrev gives : JoinTree-F Expr JoinTree Order Output Query → List ℕ
gives x = tree_gives ℕ nothing_of_node leaf_number (map-JoinTree Expr JoinTree Order Output Query (List ℕ) (List ℕ) (List ℕ) (List ℕ) (List ℕ) (gathered ℕ nothing_of_node leaf_number) leaves_in_tree order_leaves output_leaves leaves_in x)

abbrev owns : JoinTree-F Expr JoinTree Order Output Query → List ℕ
owns x = tree_own_leaves (map-JoinTree Expr JoinTree Order Output Query (Unit {0}) (List ℕ) (Unit {0}) (Unit {0}) (Unit {0}) (λ e. tt) own_leaves (λ o. tt) (λ u. tt) (λ q. tt) x)

abbrev rels : JoinTree-F Expr JoinTree Order Output Query → ℕ
rels x = tree_rels (map-JoinTree Expr JoinTree Order Output Query (Unit {0}) ℕ (Unit {0}) (Unit {0}) (Unit {0}) (λ e. tt) rels_of (λ o. tt) (λ u. tt) (λ q. tt) x)

leaves_at : (y : Level) (rel : ℕ) → In rel (owns (bare y)) → In rel (gives (bare y))
leaves_at (JoinTree-F.Base r name table) rel (inl e) = inl e
leaves_at (JoinTree-F.Base r name table) rel (inr h) = absurd h
leaves_at (JoinTree-F.Sub r name query) rel (inl e) = inl e
leaves_at (JoinTree-F.Sub r name query) rel (inr h) = absurd h
leaves_at (JoinTree-F.Join kind left right on) rel h =
    in_append_left rel (leaves_in_tree left.0 ++ (leaves_in_tree right.0 ++ [])) (all_in (map (gathered ℕ nothing_of_node leaf_number) (map (λ x. x.0) on)) ++ [])
    (elim (from_append rel (own_leaves left.0) (own_leaves right.0) h) [
      | inl p ↦ in_append_left rel (leaves_in_tree left.0) (leaves_in_tree right.0 ++ []) (left.1.0 rel p)
      | inr q ↦ in_append_right rel (leaves_in_tree left.0) (leaves_in_tree right.0 ++ []) (in_append_left rel (leaves_in_tree right.0) [] (right.1.0 rel q))
    ])
leaves_at (JoinTree-F.From members conds) rel h =
    in_append_left rel (all_in (map leaves_in_tree (trees_of members))) (all_in (map (gathered ℕ nothing_of_node leaf_number) (map (λ x. x.0) conds)) ++ []) (each_leaf members rel h)

-- ---- relations are own leaves

only_that : (r rel : ℕ) → Has (only r) rel → r ≡ rel
only_that r rel h = elim (cases_eq rel r) [ inl e ↦ sym e | inr n ↦ absurd (omega (arith, bit_at-pow_other r rel n, h)) ]

either_side : (left right : T) (rel : ℕ) → Has (bit_or (rels_of left.0) (rels_of right.0)) rel → In rel (own_leaves left.0 ++ own_leaves right.0)
either_side left right rel h = elim ((has_or (rels_of left.0) (rels_of right.0) rel).0 h) [
  | inl p ↦ in_append_left rel (own_leaves left.0) (own_leaves right.0) (left.1.1 rel p)
  | inr q ↦ in_append_right rel (own_leaves left.0) (own_leaves right.0) (right.1.1 rel q)
]

join_side : (kind : JoinKind) (left right : T) (rel : ℕ) → Has (join_rels kind (rels_of left.0) (rels_of right.0)) rel → In rel (own_leaves left.0 ++ own_leaves right.0)
join_side join.Inner left right = either_side left right
join_side join.Left left right = either_side left right
join_side join.Right left right = either_side left right
join_side join.Full left right = either_side left right
join_side join.Semi left right = λ rel h. in_append_left rel (own_leaves left.0) (own_leaves right.0) (left.1.1 rel h)
join_side join.Anti left right = λ rel h. in_append_left rel (own_leaves left.0) (own_leaves right.0) (left.1.1 rel h)

some_member : (n : ℕ) (ys : List T) (rel : ℕ) → Has (fold bit_or n (map rels_of (trees_of ys))) rel → Has n rel ⊎ In rel (all_in (map own_leaves (trees_of ys)))
some_member n [] rel h = inl h
some_member n (y ∷ ys) rel h = elim (some_member (bit_or n (rels_of y.0)) ys rel h) [
  | inl p ↦ elim ((has_or n (rels_of y.0) rel).0 p) [ inl q ↦ inl q | inr r ↦ inr (in_append_left rel (own_leaves y.0) (all_in (map own_leaves (trees_of ys))) (y.1.1 rel r)) ]
  | inr q ↦ inr (in_append_right rel (own_leaves y.0) (all_in (map own_leaves (trees_of ys))) q)
]

none_in_zero : (rel : ℕ) → Has 0 rel → ⊥
none_in_zero rel h = omega (arith, bit_at-zero rel, h)

rels_at : (y : Level) (rel : ℕ) → Has (rels (bare y)) rel → In rel (owns (bare y))
rels_at (JoinTree-F.Base r name table) rel h = inl (only_that r rel h)
rels_at (JoinTree-F.Sub r name query) rel h = inl (only_that r rel h)
rels_at (JoinTree-F.Join kind left right on) rel h = join_side kind left right rel h
rels_at (JoinTree-F.From members conds) rel h = elim (some_member 0 members rel h) [ inl p ↦ absurd (none_in_zero rel p) | inr q ↦ q ]

-- ---- trees

owns_is : (x : JoinTree-F Expr JoinTree Order Output Query) → own_leaves (roll-JoinTree x) ≡ owns x
owns_is = fold-roll-JoinTree (Unit {0}) (List ℕ) (Unit {0}) (Unit {0}) (Unit {0}) (λ x. tt) tree_own_leaves (λ o. tt) (λ u. tt) (λ q. tt)

gives_is : (x : JoinTree-F Expr JoinTree Order Output Query) → leaves_in_tree (roll-JoinTree x) ≡ gives x
gives_is = fold-roll-JoinTree (List ℕ) (List ℕ) (List ℕ) (List ℕ) (List ℕ) (expr_gives ℕ nothing_of_node leaf_number) (tree_gives ℕ nothing_of_node leaf_number) (order_gives ℕ nothing_of_node leaf_number) (output_gives ℕ nothing_of_node leaf_number) (query_gives ℕ nothing_of_node leaf_number)

rels_is : (x : JoinTree-F Expr JoinTree Order Output Query) → rels_of (roll-JoinTree x) ≡ rels x
rels_is = fold-roll-JoinTree (Unit {0}) ℕ (Unit {0}) (Unit {0}) (Unit {0}) (λ x. tt) tree_rels (λ o. tt) (λ o. tt) (λ q. tt)

step : (y : Level) → Good (roll-JoinTree (bare y))
step y = (
  λ rel h. subst (λ ls. In rel ls) (sym (gives_is (bare y))) (leaves_at y rel (subst (λ ls. In rel ls) (owns_is (bare y)) h)),
  λ rel h. subst (λ ls. In rel ls) (sym (owns_is (bare y))) (rels_at y rel (subst (λ n. Has n rel) (rels_is (bare y)) h)),
)

good : (t : JoinTree) → Good t
good = ind-JoinTree (λ e. Unit {0}) Good (λ o. Unit {0}) (λ u. Unit {0}) (λ q. Unit {0})
    (λ x y e. tt)
    (λ x y e. subst (λ z. Good (roll-JoinTree z)) e (step y))
    (λ x y e. tt) (λ x y e. tt) (λ x y e. tt)

pub own_in_tree : (tree : JoinTree) (rel : ℕ) → Contains (own_leaves tree) rel → Contains (leaves_in_tree tree) rel
own_in_tree tree rel h = from_in rel (leaves_in_tree tree) ((good tree).0 rel (to_in rel (own_leaves tree) h))

pub own_in_query : (query : Query) (rel : ℕ) → Contains (own_leaves (out-Query query).tree) rel → Contains (leaves_in query) rel
own_in_query query rel h =
    let tree = (out-Query query).tree in
    let rest = all_in (map (gathered ℕ nothing_of_node leaf_number) (out-Query query).conds) ++ all_in (map order_leaves (out-Query query).order) in
    let outputs = all_in (map output_leaves (out-Query query).columns) in
    let there : In rel (outputs ++ (leaves_in_tree tree ++ rest)) = in_append_right rel outputs (leaves_in_tree tree ++ rest) (in_append_left rel (leaves_in_tree tree) rest ((good tree).0 rel (to_in rel (own_leaves tree) h))) in
    from_in rel (leaves_in query) (subst (λ ls. In rel ls) (sym (laws.at-Query (List ℕ) (List ℕ) (List ℕ) (List ℕ) (List ℕ) (expr_gives ℕ nothing_of_node leaf_number) (tree_gives ℕ nothing_of_node leaf_number) (order_gives ℕ nothing_of_node leaf_number) (output_gives ℕ nothing_of_node leaf_number) (query_gives ℕ nothing_of_node leaf_number) query)) there)

pub rels_are_own : (tree : JoinTree) (rel : ℕ) → Has (rels_of tree) rel → Contains (own_leaves tree) rel
rels_are_own tree rel h = from_in rel (own_leaves tree) ((good tree).1 rel h)
