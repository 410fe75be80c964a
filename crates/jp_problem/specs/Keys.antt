-- Equalities, the key of a step, and the methods that a step allows.
use Rattle.std.specs.Prelude.{◌≡◌, ℕ, ◌&&◌, Bool, true, false, not, List, [], ◌∷◌, Option, Some, None, IsSome, if◌then◌else◌}
use Rattle.jp_query.specs.declared.Expr.{Expr}
use Rattle.jp_problem.specs.declared.types.Problem.{Problem}
use Rattle.jp_problem.specs.declared.types.Special.{Special}
use Rattle.jp_problem.specs.declared.types.Method.{Method}
use Rattle.jp_problem.specs.declared.types.Method.TheVariants.{Nest, Hash, HashRight, Merge}
use Rattle.jp_problem.specs.declared.types.Step.{Step}
use Rattle.jp_problem.specs.declared.types.Step.TheVariants.{Inner, By}
use Rattle.jp_problem.specs.Sets.{is_within, is_empty}
use Rattle.jp_problem.specs.Blocks.{used}
use Rattle.jp_problem.specs.MinimumSets.{is_left_join}
use Rattle.jp_problem.specs.Problems.{problem_rels, join_of}
use Rattle.jp_problem.specs.StepClauses.{step_clauses}
use Rattle.jp_problem.specs.Equalities.{Sides, sides_of, has_sublink}

-- the items that the expression uses are some, and all in the set
abbrev pub is_over : List ℕ → ℕ → Expr → Bool
is_over rels set e = not (is_empty (used rels e)) && is_within (used rels e) set

-- the two sides, that of the left set first
abbrev pub as_key : List ℕ → ℕ → ℕ → Sides → Option Sides
as_key rels left right sides =
    if is_over rels left sides.first && is_over rels right sides.second then Some sides
    else (if is_over rels left sides.second && is_over rels right sides.first then Some (record { first = sides.second; second = sides.first }) else None)

abbrev pub key_of_sides : List ℕ → ℕ → ℕ → Option Sides → Option Sides
key_of_sides rels left right (Some sides) = as_key rels left right sides
key_of_sides rels left right None = None

-- an equality without sublinks, one side over the left set and the other over the right one
abbrev pub key_in : List ℕ → ℕ → ℕ → Expr → Option Sides
key_in rels left right e = if has_sublink e then None else key_of_sides rels left right (sides_of e)

abbrev pub or_key : Option Sides → Option Sides → Option Sides
or_key (Some sides) other = Some sides
or_key None other = other

abbrev pub first_key : List ℕ → ℕ → ℕ → List Expr → Option Sides
first_key rels left right [] = None
first_key rels left right (e ∷ list) = or_key (key_in rels left right e) (first_key rels left right list)

abbrev pub on_of : Option Special → List Expr
on_of (Some s) = s.on
on_of None = []

-- where the key is looked for: in the step clauses of an inner step, in the ON list of a step by a join
abbrev pub key_list : Problem → ℕ → ℕ → Step → List Expr
key_list problem left right Inner = step_clauses problem left right
key_list problem left right (By number) = on_of (join_of problem.joins number)

-- the key of a step: the first equality that can be one, with its side over the left set first
abbrev pub key_of : Problem → ℕ → ℕ → Step → Option Sides
key_of problem left right kind = first_key (problem_rels problem) left right (key_list problem left right kind)

abbrev pub is_some_left : Option Special → Bool
is_some_left (Some s) = is_left_join s
is_some_left None = false

abbrev pub is_by_left : Problem → Step → Bool
is_by_left problem Inner = false
is_by_left problem (By number) = is_some_left (join_of problem.joins number)

-- Nest needs nothing, the others a key; from the right side only left joins are hashed
abbrev pub IsAllowed : Problem → ℕ → ℕ → Step → Method → Type 0
IsAllowed problem left right kind Nest = Unit {0}
IsAllowed problem left right kind Hash = IsSome (key_of problem left right kind)
IsAllowed problem left right kind HashRight = IsSome (key_of problem left right kind) × (is_by_left problem kind ≡ true)
IsAllowed problem left right kind Merge = IsSome (key_of problem left right kind)
