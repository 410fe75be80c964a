-- Rows that are lent for sublinks, by number, and which numbers an expression asks for.
use Rattle.std.specs.Prelude.{◌≡◌, ℕ, ◌==◌, List, [], ◌∷◌, ◌++◌, map, if◌then◌else◌, Result, IfOk, Vec}
use Rattle.std.specs.declared.alloc.Global.{Global}
use Rattle.jp_base.specs.declared.memory.Memory.{Memory}
use Rattle.jp_query.specs.declared.Expr.{Expr}
use Rattle.jp_query.specs.declared.Expr.TheOpen.{Expr-F}
use Rattle.jp_query.specs.declared.Expr.TheFolds.{fold-Expr}
use Rattle.jp_query.specs.Meaning.{Row}
use Rattle.jp_query.specs.Parts.{all_in, parts}
use Rattle.jp_joins.specs.declared.lending.Lent.{Lent}

-- the rows with the number, the first of them; none where there are no such rows
abbrev pub rows_by_number : List Lent → ℕ → List Row
rows_by_number [] number = []
rows_by_number (lent ∷ more) number = if lent.number == number then lent.rows.items else rows_by_number more number

abbrev pub number_here : {A B C D F : Type 0} → Expr-F A B C D F → List ℕ
number_here (Expr-F.Exists sub query) = sub ∷ []
number_here (Expr-F.InSub sub operand query) = sub ∷ []
number_here _ = []

abbrev pub expr_numbers : Expr-F (List ℕ) (Unit {0}) (Unit {0}) (Unit {0}) (Unit {0}) → List ℕ
expr_numbers x = number_here x ++ all_in (parts x)

-- the numbers of the sublinks that stand in no other sublink's query
unfoldable pub numbers_in : Expr → List ℕ
numbers_in = fold-Expr (List ℕ) (Unit {0}) (Unit {0}) (Unit {0}) (Unit {0}) expr_numbers (λ t. tt) (λ o. tt) (λ u. tt) (λ q. tt)

abbrev pub numbers_in_all : List Expr → List ℕ
numbers_in_all exprs = all_in (map numbers_in exprs)

abbrev pub number_of : Lent → ℕ
number_of lent = lent.number

-- the rows lent for each number are those that are meant
abbrev pub IsLentFor : (ℕ → List Row) → List Lent → ℕ → Type 0
IsLentFor rows lent number = rows_by_number lent number ≡ rows number

-- what is handed in gives the rows of each sublink, or refuses for want of memory
abbrev pub GivesAt : (ℕ → List Row) → (ℕ → Result (Vec Row Global) Memory → Type 0) → Type 0
GivesAt rows gives = (sub : ℕ) (r : Result (Vec Row Global) Memory) → gives sub r → IfOk r (λ v. v.items ≡ rows sub)
