-- How large trees are that are made of others.
use Rattle.std.proofs.Common.{◌≡◌, ◌∙◌, sym, ap, subst, ℕ, suc, ◌+◌, ◌<◌, ◌≤◌, slice_index_or, List, [], ◌∷◌, map, length, length-append, arith}
use Rattle.std.proofs.lemmas.List.{length-map}
use Rattle.jp_query.specs.declared.Expr.{Expr}
use Rattle.jp_query.specs.declared.JoinKind.{JoinKind}
use Rattle.jp_query.specs.declared.JoinKind.TheVariants as join
use Rattle.jp_query.specs.declared.JoinTree.{JoinTree}
use Rattle.jp_query.specs.declared.JoinTree.TheVariants as tree
use Rattle.jp_query.specs.declared.Query.{Query, out-Query}
use Rattle.jp_problem.specs.Blocks.{known_rels, outline_of, top}
use Rattle.jp_problem.specs.Shapes.{Shape, filtered, together, block_shape, items_in, count_joins, shape_of}
use Rattle.jp_problem.proofs.ShapeLaws.{at_base, at_from, at_join}
use Rattle.jp_special.specs.Walks.{HasRoom}
use Rattle.jp_special_trees.specs.Sizes.{size}

shape_size : Shape → ℕ
shape_size shape = length (items_in shape) + count_joins shape

pub leaf_size : (rel : ℕ) (name : List ℕ) (table : ℕ) → size (tree.Base rel name table) ≡ 1
unfolding size shape_size
leaf_size rel name table = ap shape_size (at_base rel name table)

pub join_size : (kind : JoinKind) (left right : JoinTree) (on : List Expr) → size (tree.Join kind left right on) ≤ suc (size left + size right)
unfolding size shape_size
join_size join.Full left right on = subst (λ s. shape_size s ≤ suc (size left + size right)) (sym (at_join join.Full left right on)) (omega arith)
join_size join.Inner left right on = subst (λ s. shape_size s ≤ suc (size left + size right)) (sym (at_join join.Inner left right on)) (omega (arith, length-append (items_in (shape_of left)) (items_in (shape_of right))))
join_size join.Left left right on = subst (λ s. shape_size s ≤ suc (size left + size right)) (sym (at_join join.Left left right on)) (omega (arith, length-append (items_in (shape_of left)) (items_in (shape_of right))))
join_size join.Right left right on = subst (λ s. shape_size s ≤ suc (size left + size right)) (sym (at_join join.Right left right on)) (omega (arith, length-append (items_in (shape_of left)) (items_in (shape_of right))))
join_size join.Semi left right on = subst (λ s. shape_size s ≤ suc (size left + size right)) (sym (at_join join.Semi left right on)) (omega (arith, length-append (items_in (shape_of left)) (items_in (shape_of right))))
join_size join.Anti left right on = subst (λ s. shape_size s ≤ suc (size left + size right)) (sym (at_join join.Anti left right on)) (omega (arith, length-append (items_in (shape_of left)) (items_in (shape_of right))))

pub one_member_size : (member : JoinTree) (conds : List Expr) → size (tree.From (member ∷ []) conds) ≡ size member
unfolding size shape_size
one_member_size member conds = ap shape_size (at_from (member ∷ []) conds) ∙ (let e : shape_size (filtered (together (map shape_of (member ∷ []))) conds) ≡ shape_size (shape_of member) = omega (arith, length-append (items_in (shape_of member)) []) in e)

-- a FROM list of one member, read from its slice
pub one_of_one : (t : JoinTree) (members : List JoinTree) (conds : List Expr) (member : JoinTree) (ms : List JoinTree) → t ≡ tree.From members conds → ms ≡ members → 1 ≤ length ms → length ms < 2 → member ≡ slice_index_or ms 0 member → size t ≡ size member
one_of_one t members conds member [] is same low high at = absurd (omega (arith, low))
one_of_one t members conds member (m ∷ []) is same low high at = ap size is ∙ ap (λ xs. size (tree.From xs conds)) (sym same) ∙ one_member_size m conds ∙ ap size (sym at)
one_of_one t members conds member (m ∷ n ∷ ms) is same low high at = absurd (omega (arith, high))

pub small_has_room : (query : Query) → size (out-Query query).tree ≤ 64 → HasRoom top (block_shape query)
unfolding size
small_has_room query low = record { items = omega (arith, low); joins = omega (arith, low) }

pub small_has_few : (query : Query) → size (out-Query query).tree ≤ 64 → length (outline_of query).rels ≤ 64
unfolding size
small_has_few query low = omega (arith, low, length-map (items_in (block_shape query)) known_rels)

pub ruleset sizes = (leaf_size, join_size, one_member_size)
