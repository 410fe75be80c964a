-- What the walks over a block's tree give.
use Rattle.std.specs.Prelude.{ℕ, ◌+◌, ◌<◌, ◌≤◌, Bool, true, false, length, List, [], ◌∷◌, ◌++◌, map, filter}
use Rattle.jp_query.specs.declared.JoinKind.{JoinKind}
use Rattle.jp_query.specs.declared.JoinKind.TheVariants as join
use Rattle.jp_query.specs.declared.Expr.{Expr}
use Rattle.jp_query.specs.declared.Query.{Query}
use Rattle.jp_query.specs.Parts.{all_in}
use Rattle.jp_problem.specs.declared.types.Place.{Place}
use Rattle.jp_problem.specs.declared.types.Written.{Written}
use Rattle.jp_problem.specs.Shapes.{Shape, nothing, item, beside, filtered, special, items_in, count_joins, block_shape, exprs_in}
use Rattle.jp_problem.specs.Blocks.{placeholders_in, listed_exprs, is_clause_of_side, placed_in, joins_at, clauses_at}
use Rattle.jp_special.specs.declared.walk.Walked.{Walked}

-- a Full join is one item
abbrev pub is_full : JoinKind → Bool
is_full join.Full = true
is_full _ = false

abbrev pub is_inner : JoinKind → Bool
is_inner join.Inner = true
is_inner _ = false

-- the kinds of the special joins, in post-order
abbrev pub kinds_in : Shape → List JoinKind
kinds_in nothing = []
kinds_in (item tree) = []
kinds_in (beside left right) = kinds_in left ++ kinds_in right
kinds_in (filtered shape conds) = kinds_in shape
kinds_in (special kind left right on) = kinds_in left ++ kinds_in right ++ kind ∷ []

-- the special joins and the clauses of a part
abbrev pub walk_of : List ℕ → Shape → Place → Walked
walk_of rels shape at = record { joins = joins_at rels shape at; clauses = clauses_at rels shape at }

-- of two parts beside each other
abbrev pub walked_beside : Walked → Walked → Walked
walked_beside first second = record { joins = first.joins ++ second.joins; clauses = first.clauses ++ second.clauses }

-- of a part under conditions
abbrev pub walked_under : List ℕ → ℕ → List Expr → Walked → Walked
walked_under rels region conds walked = record { joins = walked.joins; clauses = walked.clauses ++ map (placed_in rels region) conds }

-- of a special join, from what its sides give: itself, and the members of its written ON list that are clauses of its region
abbrev pub walked_with : List ℕ → List Expr → Written → Walked → Walked
walked_with rels on own walked = record {
  joins = walked.joins ++ own ∷ [];
  clauses = walked.clauses ++ map (placed_in rels own.no) (filter (is_clause_of_side rels own.syn_right) on);
}

-- the numbers of the part's items lie below 64, and those of its special joins below 256
pub record HasRoom (at : Place) (shape : Shape) : Type 0 where
  pub items : at.items + length (items_in shape) ≤ 64
  pub joins : at.joins + count_joins shape < 256

-- the placeholders of a block: those of its conditions, its outputs and its ORDER BY items
abbrev pub placeholder_list : Query → List ℕ
placeholder_list query = all_in (map placeholders_in (exprs_in (block_shape query) ++ listed_exprs query))
