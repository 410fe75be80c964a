-- The leaves of a join tree at its own level: those of the FROM list that it stands for, and not those inside its
-- sub-selects or in sublinks of its conditions.
use Rattle.std.specs.Prelude.{ℕ, List, [], ◌∷◌, ◌++◌}
use Rattle.jp_query.specs.Layers.{JoinTree, JoinTree-F, fold-JoinTree}
use Rattle.jp_query.specs.Parts.{all_in, gathered_in_tree, nothing_of_node, leaf_number}

abbrev pub tree_own_leaves : JoinTree-F (Unit {0}) (List ℕ) (Unit {0}) (Unit {0}) (Unit {0}) → List ℕ
tree_own_leaves (JoinTree-F.Base rel name table) = rel ∷ []
tree_own_leaves (JoinTree-F.Sub rel name query) = rel ∷ []
tree_own_leaves (JoinTree-F.Join kind left right on) = left ++ right
tree_own_leaves (JoinTree-F.From members conds) = all_in members

-- their relations, from left to right, those in the right sides of Semi and Anti joins included
abbrev pub own_leaves : JoinTree → List ℕ
own_leaves = fold-JoinTree (Unit {0}) (List ℕ) (Unit {0}) (Unit {0}) (Unit {0}) (λ x. tt) tree_own_leaves (λ o. tt) (λ u. tt) (λ q. tt)

-- the relations of all its leaves, at every depth and in sublinks
abbrev pub leaves_in_tree : JoinTree → List ℕ
leaves_in_tree = gathered_in_tree ℕ nothing_of_node leaf_number
