-- Items that nothing but equalities of their columns names.
use Rattle.std.specs.Prelude.{◌≡◌, ℕ, ◌<◌, ◌≤◌, ◌^◌}
use Rattle.jp_query.specs.Typing.{IsTypedExpr}
use Rattle.jp_problem.specs.declared.types.Clause.{Clause}
use Rattle.jp_problem.specs.declared.types.Item.{Item}
use Rattle.jp_problem.specs.declared.types.ItemKind.TheVariants.{Sub}

abbrev pub HasRows : ℕ → Type 0
HasRows rows = (1 ≤ rows) × (rows ≤ 2 ^ 60)

pub record IsPlainItem (item : Item) : Type 0 where
  pub rel : ℕ
  pub kind : item.kind ≡ Sub rel 1
  pub rows : HasRows item.rows
  pub cost : item.cost ≡ 0

-- two numbers of relations
abbrev pub IsLink : ℕ × ℕ → Type 0
IsLink link = (link.0 < 64) × (link.1 < 64)

abbrev pub IsTypedClause : Clause → Type 0
IsTypedClause clause = IsTypedExpr clause.expr
