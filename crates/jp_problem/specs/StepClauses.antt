-- The clauses that are tested at a step or at a scan.
use Rattle.std.specs.Prelude.{ℕ, zero, suc, ◌&&◌, ◌||◌, Bool, false, not, nat_lt, bit_or, is_none, List, [], ◌∷◌, ◌++◌, map, filter, Option, Some, None, if◌then◌else◌}
use Rattle.std.specs.List.{flat_map}
use Rattle.jp_query.specs.declared.Expr.{Expr}
use Rattle.jp_query.specs.Refs.{only}
use Rattle.jp_problem.specs.declared.types.Problem.{Problem}
use Rattle.jp_problem.specs.declared.types.Special.{Special}
use Rattle.jp_problem.specs.declared.types.Clause.{Clause}
use Rattle.jp_problem.specs.declared.types.Class.{Class}
use Rattle.jp_problem.specs.declared.types.Stage.{Stage}
use Rattle.jp_problem.specs.Sets.{is_within}
use Rattle.jp_problem.specs.Equalities.{equals}
use Rattle.jp_problem.specs.Problems.{join_of}

abbrev pub step_stage : ℕ → ℕ → Stage
step_stage left right = record { whole = bit_or left right; left = Some left; right = Some right }

abbrev pub scan_stage : ℕ → Stage
scan_stage i = record { whole = only i; left = None; right = None }

abbrev pub is_there : Option ℕ → ℕ → Bool
is_there (Some part) needs = is_within needs part
is_there None needs = false

-- what lay in a part before
abbrev pub was_there : Stage → ℕ → Bool
was_there stage needs = is_there stage.left needs || is_there stage.right needs

-- what lies in the whole and lay in no part
abbrev pub comes_up : Stage → ℕ → Bool
comes_up stage needs = is_within needs stage.whole && not (was_there stage needs)

-- ---- regions

abbrev pub is_done : ℕ → Special → Bool
is_done set s = is_within s.min_left set && is_within s.min_right set

abbrev pub is_some_done : ℕ → Option Special → Bool
is_some_done set (Some s) = is_done set s
is_some_done set None = false

-- region 0 is done in no set
abbrev pub region_done : List Special → ℕ → ℕ → Bool
region_done joins set zero = false
region_done joins set (suc r) = is_some_done set (join_of joins (suc r))

abbrev pub is_open : List Special → ℕ → ℕ → Bool
is_open joins set region = not (region_done joins set region)

-- ---- classes

-- a member with its place among the members
pub record Ranked : Type 0 where
  pub rank : ℕ
  pub expr : Expr
  pub needs : ℕ

abbrev pub ranked_from : ℕ → List (Expr × ℕ) → List Ranked
ranked_from rank [] = []
ranked_from rank (member ∷ members) = record { rank = rank; expr = member.0; needs = member.1 } ∷ ranked_from (suc rank) members

abbrev pub member_in : Option ℕ → Ranked → Bool
member_in part m = is_there part m.needs

abbrev pub member_before : Stage → Ranked → Bool
member_before stage m = was_there stage m.needs

abbrev pub member_comes_up : Stage → Ranked → Bool
member_comes_up stage m = comes_up stage m.needs

abbrev pub head : List Ranked → Option Ranked
head [] = None
head (m ∷ members) = Some m

-- the earlier member stands on the left
abbrev pub equality : Ranked → Ranked → Expr
equality m n = if nat_lt m.rank n.rank then equals m.expr n.expr else equals n.expr m.expr

abbrev pub with_constant : Expr → Ranked → Expr
with_constant constant m = equals m.expr constant

-- the first of each part are equal
abbrev pub link : Option Ranked → Option Ranked → List Expr
link (Some m) (Some n) = equality m n ∷ []
link _ _ = []

-- those that come up are equal to the first one that was there, or to the first of them
abbrev pub linked : Option Ranked → List Ranked → List Expr
linked (Some first) ups = map (equality first) ups
linked None [] = []
linked None (first ∷ ups) = map (equality first) ups

abbrev pub of_constant : Option Expr → Stage → List Ranked → List Expr
of_constant (Some constant) stage members = map (with_constant constant) (filter (member_comes_up stage) members)
of_constant None stage members =
    link (head (filter (member_in stage.left) members)) (head (filter (member_in stage.right) members))
    ++ linked (head (filter (member_before stage) members)) (filter (member_comes_up stage) members)

abbrev pub of_class : Stage → Class → List Expr
of_class stage class = of_constant class.constant stage (ranked_from 0 class.members)

-- ---- the list

abbrev pub is_open_class : List Special → ℕ → Class → Bool
is_open_class joins set class = is_open joins set class.region

-- a clause that is no equality of a class
abbrev pub stands_alone : List Special → Stage → Clause → Bool
stands_alone joins stage c = is_none c.class && (is_open joins stage.whole c.region && comes_up stage c.req)

abbrev pub expr_of : Clause → Expr
expr_of c = c.expr

-- first enough equalities of each class whose region isn't done, then the other clauses that come up
abbrev pub clauses_of_stage : Problem → Stage → List Expr
clauses_of_stage problem stage =
    flat_map (of_class stage) (filter (is_open_class problem.joins stage.whole) problem.classes)
    ++ map expr_of (filter (stands_alone problem.joins stage) problem.clauses)

abbrev pub step_clauses : Problem → ℕ → ℕ → List Expr
step_clauses problem left right = clauses_of_stage problem (step_stage left right)

abbrev pub scan_clauses : Problem → ℕ → List Expr
scan_clauses problem i = clauses_of_stage problem (scan_stage i)
