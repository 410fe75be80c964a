-- The sides of a key, where the equality of two expressions is one.
use Rattle.std.specs.Prelude.{◌||◌, ℕ, List, Option, None, if◌then◌else◌}
use Rattle.std.specs.Option.{option_map}
use Rattle.jp_query.specs.declared.CmpOp.TheVariants as cmp
use Rattle.jp_query.specs.declared.Expr.{Expr, out-Expr}
use Rattle.jp_query.specs.declared.Expr.TheOpen.{Expr-F}
use Rattle.jp_query.specs.Layers.{ExprLayer}
use Rattle.jp_lists.specs.Steps.{pair_of_sides}
use Rattle.jp_problem.specs.Equalities.{has_sublink}
use Rattle.jp_problem.specs.Keys.{as_key}

abbrev pub key_of_two : List ℕ → ℕ → ℕ → Expr → Expr → Option (Expr × Expr)
key_of_two rels left right first second = if has_sublink first || has_sublink second then None else option_map pair_of_sides (as_key rels left right (record { first = first; second = second }))

abbrev pub key_at : List ℕ → ℕ → ℕ → ExprLayer → Option (Expr × Expr)
key_at rels left right (Expr-F.Compare cmp.Eq first second) = key_of_two rels left right first second
key_at rels left right _ = None

abbrev pub key_here : List ℕ → ℕ → ℕ → Expr → Option (Expr × Expr)
key_here rels left right e = key_at rels left right (out-Expr e)
