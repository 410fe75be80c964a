-- Cells that are of their columns' types.
use Rattle.std.specs.Prelude.{List, All}
use Rattle.jp_base.specs.Values.{HasType}
use Rattle.jp_query.specs.declared.Expr.{Expr}
use Rattle.jp_query.specs.Fitting.{own_columns}
use Rattle.jp_query.specs.Meaning.{Env, cell_in}
use Rattle.jp_query.specs.Parts.{ColumnRef}

-- the column's cell is NULL or of its type
abbrev pub HasItsType : Env → ColumnRef → Type 0
HasItsType env c = HasType c.type (cell_in (env c.relation) c.column)

-- each column of the expression outside its sublinks has such a cell
abbrev pub HasTypedCells : Env → Expr → Type 0
HasTypedCells env e = All (HasItsType env) (own_columns e)
