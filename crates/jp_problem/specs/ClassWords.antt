-- The members of a class by their places.
use Rattle.std.specs.Prelude.{ℕ, Bool, List, Option, Some, None, drop, filter}
use Rattle.std.specs.List.{slice_index_or}
use Rattle.jp_query.specs.declared.Expr.{Expr}
use Rattle.jp_query.specs.declared.Expr.TheVariants as expr
use Rattle.jp_base.specs.declared.values.Ty.TheVariants as ty
use Rattle.jp_base.specs.declared.values.Value.TheVariants as value
use Rattle.jp_problem.specs.declared.types.Stage.{Stage}
use Rattle.jp_problem.specs.Equalities.{equals}
use Rattle.jp_problem.specs.StepClauses.{Ranked, ranked_from, member_in, member_before, member_comes_up, comes_up, head, link, linked, is_there, was_there}

abbrev pub no_member : Expr × ℕ
no_member = (expr.Lit value.Null ty.Text, 0)

-- the member at a place, with its place
abbrev pub ranked_at : List (Expr × ℕ) → ℕ → Ranked
ranked_at members i = record { rank = i; expr = (slice_index_or members i no_member).0; needs = (slice_index_or members i no_member).1 }

abbrev pub needs_there : Option ℕ → Expr × ℕ → Bool
needs_there part member = is_there part member.1

abbrev pub needs_before : Stage → Expr × ℕ → Bool
needs_before stage member = was_there stage member.1

abbrev pub needs_come_up : Stage → Expr × ℕ → Bool
needs_come_up stage member = comes_up stage member.1

-- the equality of a member and a constant
abbrev pub equal_to : Expr → Expr × ℕ → Expr
equal_to constant member = equals member.0 constant

-- the members that come up from a place on
abbrev pub ups_from : Stage → List (Expr × ℕ) → ℕ → List Ranked
ups_from stage members i = filter (member_comes_up stage) (ranked_from i (drop i members))

abbrev pub places_of : Option ℕ → List (Expr × ℕ) → Option Ranked
places_of (Some i) members = Some (ranked_at members i)
places_of None members = None

-- the equality of the first members of the two parts, and those with the members that come up
abbrev pub link_of : Stage → List (Expr × ℕ) → List Expr
link_of stage members = link (head (filter (member_in stage.left) (ranked_from 0 members))) (head (filter (member_in stage.right) (ranked_from 0 members)))

abbrev pub linked_of : Stage → List (Expr × ℕ) → List Expr
linked_of stage members = linked (head (filter (member_before stage) (ranked_from 0 members))) (filter (member_comes_up stage) (ranked_from 0 members))
