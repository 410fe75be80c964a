-- Parts of rules that the code has as functions.
use Rattle.std.specs.Prelude.{ℕ, Bool, List, Option, Some, None, if◌then◌else◌}
use Rattle.jp_ast.specs.declared.tree.Ast.{Ast}
use Rattle.jp_ast.specs.declared.tree.Ast.TheVariants as ast
use Rattle.jp_ast.specs.declared.tree.Select.{Select}
use Rattle.jp_ast.specs.declared.class.Class.TheVariants as k
use Rattle.jp_ast.specs.Nodes.{negated_at}
use Rattle.jp_parse.specs.Readers.{cat}
use Rattle.jp_ast.specs.declared.class.Class.{Class}
use Rattle.jp_ast.specs.Classes.{is_name}
use Rattle.jp_cursor.specs.Reading.{Reader, ◌>>=◌, pure, name, expect, ◌>>◌}

abbrev pub some_name : Reader (Option (List ℕ))
some_name = name >>= (λ n. pure (Some n))

abbrev pub bare_alias : Class → Reader (Option (List ℕ))
bare_alias c = if is_name c then some_name else pure None

abbrev pub some_expr : Reader Ast → Reader (Option Ast)
some_expr E = E >>= (λ a. pure (Some a))

-- `AND high` of BETWEEN
abbrev pub upper_bound : Reader Ast → Reader Select → ℕ → Ast → Bool → Ast → Reader Ast
upper_bound E Q at a negated low = expect k.And >> (cat E Q >>= (λ high. pure (negated_at at negated (ast.Between a low high at))))
