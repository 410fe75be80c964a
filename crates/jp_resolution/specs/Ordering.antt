-- What an ORDER BY item is: an output, or an expression over the FROM entries.
use Rattle.std.specs.Prelude.{ℕ, suc, ℤ, pos, Bool, true, false, List, [], ◌∷◌, filter, Option, Some, None, Ok, Err, slice_get}
use Rattle.std.specs.List.{list_all, list_any}
use Rattle.std.specs.Str.{bytes_eq}
use Rattle.jp_query.specs.declared.Expr.{Expr}
use Rattle.jp_query.specs.declared.Output.{Output, out-Output}
use Rattle.jp_query.specs.Equality.{same_expr}
use Rattle.jp_resolution.specs.Layers.{TypedExpr}
use Rattle.jp_resolution.specs.declared.error.ResolveError.TheVariants.{Ambiguous, BadPosition, OrderNotSelected}
use Rattle.jp_resolution.specs.Answers.{Answer, ◌>>=◌, only_if}
use Rattle.jp_resolution.specs.Types.{own_expr}

-- What an item's expression is as it is written: a name alone, a number, another literal or one with a sign, or anything
-- else. Parentheses leave no node.
pub data Written : Type 0 where
  as_name : List ℕ → Written
  as_number : ℤ → Written
  as_literal : Written
  as_signed : Written
  as_other : Written

-- a sign before a literal; before a signed literal it makes an expression
abbrev pub signed : Written → Written
signed (as_number n) = as_signed
signed as_literal = as_signed
signed _ = as_other

-- ---- outputs

abbrev pub output_name : Output → List ℕ
output_name output = (out-Output output).name

abbrev pub output_expr : Output → Expr
output_expr output = (out-Output output).expr

abbrev pub has_output_name : List ℕ → Output → Bool
has_output_name name output = bytes_eq name (output_name output)

abbrev pub has_expr : Expr → Output → Bool
has_expr e output = same_expr e (output_expr output)

-- the output of a position, from 1
abbrev pub output_at : List Output → ℤ → Option Output
output_at outputs (pos (suc n)) = slice_get outputs n
output_at outputs _ = None

-- ---- items

abbrev pub position : ℕ → Option Output → Answer Expr
position at (Some output) = Ok (output_expr output)
position at None = Err (BadPosition at)

-- With DISTINCT an expression must equal a selected one.
abbrev pub selected : ℕ → Bool → List Output → TypedExpr → Answer Expr
selected at true outputs e = only_if (list_any (has_expr (own_expr e)) outputs) (OrderNotSelected at) (own_expr e)
selected at false outputs e = Ok (own_expr e)

abbrev pub expression : ℕ → Bool → List Output → Answer TypedExpr → Answer Expr
expression at distinct outputs e = e >>= selected at distinct outputs

-- A name that no output has is an expression. One that several have is ambiguous unless their expressions are equal.
abbrev pub named_output : ℕ → Bool → List Output → Answer TypedExpr → List Output → Answer Expr
named_output at distinct outputs e [] = expression at distinct outputs e
named_output at distinct outputs e (output ∷ more) = only_if (list_all (has_expr (output_expr output)) more) (Ambiguous at) (output_expr output)

-- an item at a place, by what its expression is over the FROM entries and how it is written
abbrev pub item_expr : ℕ → Bool → List Output → Answer TypedExpr → Written → Answer Expr
item_expr at distinct outputs e (as_name name) = named_output at distinct outputs e (filter (has_output_name name) outputs)
item_expr at distinct outputs e (as_number n) = position at (output_at outputs n)
item_expr at distinct outputs e as_literal = Err (BadPosition at)
item_expr at distinct outputs e as_signed = Err (BadPosition at)
item_expr at distinct outputs e as_other = expression at distinct outputs e
