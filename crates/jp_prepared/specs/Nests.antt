-- How many blocks a block makes without those of sublinks: itself, and those of its items.
use Rattle.std.specs.Prelude.{ℕ, suc, ◌+◌, sum}
use Rattle.jp_query.specs.declared.JoinKind.{JoinKind}
use Rattle.jp_query.specs.declared.JoinKind.TheVariants as join
use Rattle.jp_query.specs.declared.JoinTree.{JoinTree}
use Rattle.jp_query.specs.declared.Query.{Query}
use Rattle.jp_query.specs.declared.Expr.TheOpen.{JoinTree-F, Query-F}
use Rattle.jp_query.specs.declared.Expr.TheFolds.{fold-JoinTree, fold-Query}

-- each side of a Full join is a block
abbrev pub join_nest : JoinKind → ℕ → ℕ → ℕ
join_nest join.Full left right = suc left + suc right
join_nest _ left right = left + right

abbrev pub tree_nest : JoinTree-F (Unit {0}) ℕ (Unit {0}) (Unit {0}) ℕ → ℕ
tree_nest (JoinTree-F.Base rel name table) = 0
tree_nest (JoinTree-F.Sub rel name query) = query
tree_nest (JoinTree-F.Join kind left right on) = join_nest kind left right
tree_nest (JoinTree-F.From members conds) = sum members

abbrev pub query_nest : Query-F (Unit {0}) ℕ (Unit {0}) (Unit {0}) ℕ → ℕ
query_nest q = suc q.tree

abbrev pub nest_of_tree : JoinTree → ℕ
nest_of_tree = fold-JoinTree (Unit {0}) ℕ (Unit {0}) (Unit {0}) ℕ (λ x. tt) tree_nest (λ o. tt) (λ u. tt) query_nest

abbrev pub nest : Query → ℕ
nest = fold-Query (Unit {0}) ℕ (Unit {0}) (Unit {0}) ℕ (λ x. tt) tree_nest (λ o. tt) (λ u. tt) query_nest
