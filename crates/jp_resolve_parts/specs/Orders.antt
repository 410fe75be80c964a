-- The outputs that a bare name of ORDER BY takes.
use Rattle.std.specs.Prelude.{ℕ, List, [], ◌∷◌, filter, Option, Some, None, Ok}
use Rattle.std.specs.List.{list_all}
use Rattle.jp_query.specs.declared.Expr.{Expr}
use Rattle.jp_query.specs.declared.Output.{Output}
use Rattle.jp_resolution.specs.declared.error.ResolveError.TheVariants.{Ambiguous}
use Rattle.jp_resolution.specs.Answers.{Answer, only_if}
use Rattle.jp_resolution.specs.Ordering.{has_output_name, has_expr, output_expr}

abbrev pub outputs_named : List ℕ → List Output → List Output
outputs_named name outputs = filter (has_output_name name) outputs

-- none where the name takes no output
abbrev pub named_answer : ℕ → List Output → Answer (Option Expr)
named_answer at [] = Ok None
named_answer at (output ∷ more) = only_if (list_all (has_expr (output_expr output)) more) (Ambiguous at) (Some (output_expr output))
