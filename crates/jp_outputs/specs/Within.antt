-- Whether an expression names nothing but some relations.
use Rattle.std.specs.Prelude.{◌&&◌, ℕ, Bool, true, List, [], ◌∷◌}
use Rattle.std.specs.List.{list_all}
use Rattle.jp_problem.specs.Sets.{is_within}
use Rattle.jp_query.specs.declared.Expr.{Expr}
use Rattle.jp_query.specs.declared.Expr.TheFolds.{fold-Expr}
use Rattle.jp_query.specs.declared.Expr.TheOpen.{Expr-F}
use Rattle.jp_query.specs.Meaning.{has}
use Rattle.jp_query.specs.Parts.{parts}
use Rattle.jp_tree.specs.BlockParts.{exprs_in}
use Rattle.jp_tree.specs.declared.prepared.Block.{Block}

abbrev pub all_hold : List Bool → Bool
all_hold [] = true
all_hold (b ∷ bs) = b && all_hold bs

abbrev pub node_within : {A B C D F : Type 0} → ℕ → Expr-F A B C D F → Bool
node_within set (Expr-F.Col rel col ty nulled) = has set rel
node_within set (Expr-F.Place inner rels) = is_within rels set
node_within set _ = true

abbrev pub level_within : ℕ → Expr-F Bool (Unit {0}) (Unit {0}) (Unit {0}) (Unit {0}) → Bool
level_within set x = node_within set x && all_hold (parts x)

-- each column is one of these relations, and each placeholder's relations are among them, outside the queries of sublinks
unfoldable pub names_within : ℕ → Expr → Bool
names_within set = fold-Expr Bool (Unit {0}) (Unit {0}) (Unit {0}) (Unit {0}) (level_within set) (λ t. tt) (λ o. tt) (λ u. tt) (λ q. tt)

-- those of a block
abbrev pub block_within : ℕ → Block → Bool
block_within set block = list_all (names_within set) (exprs_in block)
