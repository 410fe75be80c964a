-- The lines of a text. Each one begins with its indentation and ends with a line feed; a child's lines stand two spaces
-- deeper than its parent's.
use Rattle.std.specs.Prelude.{ℕ, Bool, true, false, List, [], ◌∷◌, ◌++◌, map, codes, decimal}
use Rattle.jp_query.specs.declared.Expr.{Expr}
use Rattle.jp_query.specs.declared.Order.{Order, out-Order}
use Rattle.jp_explain.specs.Expressions.{expr_text}
use Rattle.jp_explain.specs.Lists.{separated}
use Rattle.jp_explain.specs.Names.{Names}

abbrev pub deeper : List ℕ → List ℕ
deeper indent = indent ++ codes "  "

-- what ends the line of a node: the rows and the cost that it is estimated at
abbrev pub numbers : ℕ → ℕ → List ℕ
numbers rows cost = codes " rows=" ++ (decimal rows ++ (codes " cost=" ++ (decimal cost ++ codes "\n")))

-- a line of a title and texts with a mark between each two; none where there are no texts
unfoldable pub line_of : List ℕ → List ℕ → List ℕ → List (List ℕ) → List ℕ
line_of indent title mark [] = []
line_of indent title mark (text ∷ texts) = indent ++ (title ++ (separated mark (text ∷ texts) ++ codes "\n"))

abbrev pub conditions : Names → List ℕ → List ℕ → List Expr → List ℕ
conditions names indent title exprs = line_of indent title (codes "; ") (map (expr_text names) exprs)

-- ---- the head of a block

-- where NULLs stand is printed where it isn't the default, which is last where values ascend and first where they descend
abbrev pub nulls : Bool → Bool → List ℕ
nulls false false = []
nulls false true = codes " NULLS FIRST"
nulls true false = codes " NULLS LAST"
nulls true true = []

abbrev pub direction : Bool → List ℕ
direction false = []
direction true = codes " DESC"

abbrev pub order_text : Names → Order → List ℕ
order_text names order =
    let o = out-Order order in
    expr_text names o.expr ++ (direction o.desc ++ nulls o.desc o.nulls_first)

abbrev pub sort_line : Names → List ℕ → List Order → List ℕ
sort_line names indent orders = line_of indent (codes "Sort ") (codes ", ") (map (order_text names) orders)

abbrev pub distinct_line : List ℕ → Bool → List ℕ
distinct_line indent true = indent ++ codes "Distinct\n"
distinct_line indent false = []
