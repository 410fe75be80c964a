-- The items of each form of tree.
use Rattle.std.proofs.Common.{◌≡◌, ◌∙◌, ap, refl, ℕ, List, [], ◌∷◌, ◌++◌, map, true, false}
use Rattle.std.specs.Prelude.{bit_or, fold}
use Rattle.jp_query.specs.declared.Expr.{Expr}
use Rattle.jp_query.specs.declared.JoinKind.{JoinKind}
use Rattle.jp_query.specs.declared.JoinKind.TheVariants as join
use Rattle.jp_query.specs.declared.JoinTree.{JoinTree}
use Rattle.jp_query.specs.declared.JoinTree.TheVariants as tree
use Rattle.jp_query.specs.declared.Query.{Query}
use Rattle.jp_query.specs.Joins.{join_rels}
use Rattle.jp_query.specs.Parts.{tree_rels, rels_of}
use Rattle.jp_query.proofs.FoldLaws as laws
use Rattle.std.proofs.lemmas.Nat.{or_mod}
use Rattle.jp_query.specs.Refs.{only, union, below_64}
use Rattle.jp_problem.specs.Shapes.{Shape, beside, together, shape_of, items_in}
use Rattle.jp_problem.specs.Blocks.{known_rels, item_rels}
use Rattle.jp_problem.proofs.ShapeLaws.{at_base, at_sub, at_join, at_from}
use Rattle.jp_special.specs.Walks.{is_full}

map_append : {X Y : Type 0} (f : X → Y) (xs ys : List X) → map f (xs ++ ys) ≡ map f xs ++ map f ys
map_append f [] ys = refl
map_append f (x ∷ xs) ys = ap (λ rest. f x ∷ rest) (map_append f xs ys)

pub items_of_base : (rel : ℕ) (name : List ℕ) (table : ℕ) → item_rels (shape_of (tree.Base rel name table)) ≡ known_rels (tree.Base rel name table) ∷ []
items_of_base rel name table = ap item_rels (at_base rel name table)

pub items_of_sub : (rel : ℕ) (name : List ℕ) (query : Query) → item_rels (shape_of (tree.Sub rel name query)) ≡ known_rels (tree.Sub rel name query) ∷ []
items_of_sub rel name query = ap item_rels (at_sub rel name query)

pub items_of_full : (kind : JoinKind) (left right : JoinTree) (on : List Expr) → is_full kind ≡ true → item_rels (shape_of (tree.Join kind left right on)) ≡ known_rels (tree.Join kind left right on) ∷ []
items_of_full join.Full left right on e = ap item_rels (at_join join.Full left right on)
items_of_full join.Inner left right on e = cc
items_of_full join.Left left right on e = cc
items_of_full join.Right left right on e = cc
items_of_full join.Semi left right on e = cc
items_of_full join.Anti left right on e = cc

pub items_of_join : (kind : JoinKind) (left right : JoinTree) (on : List Expr) → is_full kind ≡ false → item_rels (shape_of (tree.Join kind left right on)) ≡ item_rels (shape_of left) ++ item_rels (shape_of right)
items_of_join join.Full left right on e = cc
items_of_join join.Inner left right on e = ap item_rels (at_join join.Inner left right on) ∙ map_append known_rels (items_in (shape_of left)) (items_in (shape_of right))
items_of_join join.Left left right on e = ap item_rels (at_join join.Left left right on) ∙ map_append known_rels (items_in (shape_of left)) (items_in (shape_of right))
items_of_join join.Right left right on e = ap item_rels (at_join join.Right left right on) ∙ map_append known_rels (items_in (shape_of left)) (items_in (shape_of right))
items_of_join join.Semi left right on e = ap item_rels (at_join join.Semi left right on) ∙ map_append known_rels (items_in (shape_of left)) (items_in (shape_of right))
items_of_join join.Anti left right on e = ap item_rels (at_join join.Anti left right on) ∙ map_append known_rels (items_in (shape_of left)) (items_in (shape_of right))

pub items_of_from : (members : List JoinTree) (conds : List Expr) → item_rels (shape_of (tree.From members conds)) ≡ item_rels (together (map shape_of members))
items_of_from members conds = ap item_rels (at_from members conds)

-- one member more
pub items_of_more : (left right : Shape) → item_rels (beside left right) ≡ item_rels left ++ item_rels right
items_of_more left right = map_append known_rels (items_in left) (items_in right)

-- ---- relations below 64

below_join : (kind : JoinKind) (a b : ℕ) → below_64 (join_rels kind a b) ≡ join_rels kind (below_64 a) (below_64 b)
below_join join.Inner a b = or_mod a b 64
below_join join.Left a b = or_mod a b 64
below_join join.Right a b = or_mod a b 64
below_join join.Full a b = or_mod a b 64
below_join join.Semi a b = refl
below_join join.Anti a b = refl

below_union : (sets : List ℕ) (start : ℕ) → below_64 (fold bit_or start sets) ≡ fold bit_or (below_64 start) (map below_64 sets)
below_union [] start = refl
below_union (set ∷ sets) start = below_union sets (bit_or start set) ∙ ap (λ n. fold bit_or n (map below_64 sets)) (or_mod start set 64)

each_known : (trees : List JoinTree) → map below_64 (map rels_of trees) ≡ map known_rels trees
each_known [] = refl
each_known (t ∷ trees) = ap (λ rest. known_rels t ∷ rest) (each_known trees)

pub known_join : (kind : JoinKind) (left right : JoinTree) (on : List Expr) → known_rels (tree.Join kind left right on) ≡ join_rels kind (known_rels left) (known_rels right)
known_join kind left right on = ap below_64 (laws.at-Join (Unit {0}) ℕ (Unit {0}) (Unit {0}) (Unit {0}) (λ x. tt) tree_rels (λ o. tt) (λ o. tt) (λ q. tt) kind left right on) ∙ below_join kind (rels_of left) (rels_of right)

pub known_from : (members : List JoinTree) (conds : List Expr) → known_rels (tree.From members conds) ≡ union (map known_rels members)
known_from members conds = ap below_64 (laws.at-From (Unit {0}) ℕ (Unit {0}) (Unit {0}) (Unit {0}) (λ x. tt) tree_rels (λ o. tt) (λ o. tt) (λ q. tt) members conds) ∙ below_union (map rels_of members) 0 ∙ ap union (each_known members)

pub known_base : (rel : ℕ) (name : List ℕ) (table : ℕ) → known_rels (tree.Base rel name table) ≡ below_64 (only rel)
known_base rel name table = ap below_64 (laws.at-Base (Unit {0}) ℕ (Unit {0}) (Unit {0}) (Unit {0}) (λ x. tt) tree_rels (λ o. tt) (λ o. tt) (λ q. tt) rel name table)

pub known_sub : (rel : ℕ) (name : List ℕ) (query : Query) → known_rels (tree.Sub rel name query) ≡ below_64 (only rel)
known_sub rel name query = ap below_64 (laws.at-Sub (Unit {0}) ℕ (Unit {0}) (Unit {0}) (Unit {0}) (λ x. tt) tree_rels (λ o. tt) (λ o. tt) (λ q. tt) rel name query)

pub ruleset surveys = (items_of_base, items_of_sub, items_of_full, items_of_join, items_of_from, items_of_more, known_join, known_from, known_base, known_sub)
