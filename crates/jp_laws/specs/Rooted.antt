-- Join trees of which each tuple has a row of some relation.
use Rattle.std.specs.Prelude.{ℕ, Bool, true, ◌&&◌, ◌==◌, map, bit_and}
use Rattle.std.specs.List.{list_all}
use Rattle.jp_query.specs.declared.JoinKind.{JoinKind}
use Rattle.jp_query.specs.declared.JoinKind.TheVariants as join
use Rattle.jp_query.specs.declared.JoinTree.{JoinTree}
use Rattle.jp_query.specs.declared.Expr.TheOpen.{JoinTree-F}
use Rattle.jp_query.specs.declared.Expr.TheFolds.{fold-JoinTree}
use Rattle.jp_query.specs.Joins.{join_rels}
use Rattle.jp_query.specs.Refs.{only, union}
use Rattle.jp_query.specs.Typing.{is_listed}

-- the relations of a tree, and whether it is rooted
pub record Rooting : Type 0 where
  pub rels : ℕ
  pub rooted : Bool

abbrev pub rels_of_rooting : Rooting → ℕ
rels_of_rooting tree = tree.rels

abbrev pub has_root : Rooting → Bool
has_root tree = tree.rooted

-- both sides are rooted and they share no relation
abbrev pub both_rooted : Rooting → Rooting → Bool
both_rooted left right = left.rooted && (right.rooted && (bit_and left.rels right.rels == 0))

-- of Semi and Anti the left side counts
abbrev pub sides_rooted : JoinKind → Rooting → Rooting → Bool
sides_rooted join.Inner left right = both_rooted left right
sides_rooted join.Left left right = both_rooted left right
sides_rooted join.Right left right = both_rooted left right
sides_rooted join.Full left right = both_rooted left right
sides_rooted join.Semi left right = left.rooted
sides_rooted join.Anti left right = left.rooted

abbrev pub tree_rooting : JoinTree-F (Unit {0}) Rooting (Unit {0}) (Unit {0}) (Unit {0}) → Rooting
tree_rooting (JoinTree-F.Base rel name table) = record { rels = only rel; rooted = true }
tree_rooting (JoinTree-F.Sub rel name query) = record { rels = only rel; rooted = true }
tree_rooting (JoinTree-F.Join kind left right on) = record { rels = join_rels kind left.rels right.rels; rooted = sides_rooted kind left right }
tree_rooting (JoinTree-F.From members conds) = record { rels = union (map rels_of_rooting members); rooted = is_listed members && list_all has_root members }

abbrev pub rooting_of : JoinTree → Rooting
rooting_of = fold-JoinTree (Unit {0}) Rooting (Unit {0}) (Unit {0}) (Unit {0}) (λ x. tt) tree_rooting (λ o. tt) (λ o. tt) (λ q. tt)

-- each tree in it, but those in the right sides of Semi and Anti joins, has a leaf, and the sides of its other joins
-- share no relation
abbrev pub is_rooted : JoinTree → Bool
is_rooted tree = (rooting_of tree).rooted
