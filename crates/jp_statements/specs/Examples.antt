-- Small selects that the definitions are run on.
use Rattle.std.specs.Prelude.{ℤ, false, List, [], ◌∷◌, Option, Some, None}
use Rattle.jp_ast.specs.declared.tree.Ast.TheViews.{roll-Ast, roll-FromItem, roll-Target, roll-Select}
use Rattle.jp_statements.specs.Layers.{Ast, FromItem, Target, Select, Ast-F, FromItem-F, Target-F, JoinWord}

abbrev pub number : ℤ → Ast
number value = roll-Ast (Ast-F.Number value 0)

abbrev pub and : List Ast → Ast
and list = roll-Ast (Ast-F.And list 0)

abbrev pub exists : Select → Ast
exists select = roll-Ast (Ast-F.Exists select 0)

abbrev pub table : FromItem
table = roll-FromItem (FromItem-F.Table [] None 0)

abbrev pub sub : Select → FromItem
sub select = roll-FromItem (FromItem-F.Sub select None 0)

abbrev pub joined : JoinWord → FromItem → Option Ast → FromItem
joined kind right on = roll-FromItem (FromItem-F.Join kind table right on 0)

abbrev pub star : Target
star = roll-Target (Target-F.All 0)

abbrev pub select : List Target → List FromItem → Option Ast → Select
select targets items cond = roll-Select (record { distinct = false; targets = targets; items = items; cond = cond })

-- SELECT * FROM t
abbrev pub plain : Select
plain = select (star ∷ []) (table ∷ []) None

-- SELECT * FROM t WHERE ..
abbrev pub selected : Ast → Select
selected cond = select (star ∷ []) (table ∷ []) (Some cond)

-- SELECT * FROM t .. JOIN u ON ..
abbrev pub of_join : JoinWord → Option Ast → Select
of_join kind on = select (star ∷ []) (joined kind table on ∷ []) None
