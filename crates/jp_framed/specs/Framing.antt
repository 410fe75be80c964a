-- The problem of a block as a frame: its items with their rows, its joins and its clauses as tests on maps.
use Rattle.std.specs.Prelude.{◌≡◌, ℕ, Bool, false, List, [], map, length, All, Contains, Some, None, slice_get, slice_index_or}
use Rattle.jp_base.specs.Sets.{Has}
use Rattle.jp_base.specs.declared.values.Ty.TheVariants as ty
use Rattle.jp_base.specs.declared.values.Value.TheVariants as value
use Rattle.jp_query.specs.declared.Expr.{Expr}
use Rattle.jp_query.specs.declared.Expr.TheVariants as expr
use Rattle.jp_query.specs.declared.JoinKind.{JoinKind}
use Rattle.jp_query.specs.declared.JoinKind.TheVariants as join
use Rattle.jp_query.specs.Meaning.{holds, is_true_at}
use Rattle.jp_query.specs.Typing.{IsTypedExpr}
use Rattle.jp_problem.specs.declared.types.Clause.{Clause}
use Rattle.jp_problem.specs.declared.types.Problem.{Problem}
use Rattle.jp_problem.specs.declared.types.Special.{Special}
use Rattle.jp_problem.specs.Blocks.{used, used_by}
use Rattle.jp_problem.specs.Problems.{problem_rels}
use Rattle.jp_frame.specs.Maps.{Map}
use Rattle.jp_frame.specs.Frames.{Frame, Kind, Left, Semi, Anti}
use Rattle.jp_framed.specs.Environments.{Setting, value_by, source_at, env_of}

-- a special join is a Left, a Semi or an Anti join
abbrev pub kind_of : JoinKind → Kind
kind_of join.Semi = Semi
kind_of join.Anti = Anti
kind_of _ = Left

-- joins and clauses by their places; past the end of a list stands one without items
abbrev pub no_join : Special
no_join = record { no = 0; kind = join.Left; min_left = 0; min_right = 0; syn_left = 0; syn_right = 0; lhs_strict = false; region = 0; on = [] }

abbrev pub join_at : List Special → ℕ → Special
join_at joins k = slice_index_or joins k no_join

abbrev pub no_clause : Clause
no_clause = record { expr = expr.Lit value.Null ty.Boolean; region = 0; req = 0; class = None }

abbrev pub clause_at : List Clause → ℕ → Clause
clause_at clauses k = slice_index_or clauses k no_clause

-- a list of conditions, and one of them, as tests on maps
abbrev pub list_holds : List ℕ → Setting → List Expr → Map → Bool
list_holds rels setting conds m = holds (map (value_by setting.sublinks) conds) (env_of rels setting m)

abbrev pub expr_holds : List ℕ → Setting → Expr → Map → Bool
expr_holds rels setting e m = is_true_at (env_of rels setting m) (value_by setting.sublinks e)

-- The frame of a problem. The join of number k + 1 stands at place k, and regions are numbers of joins in both.
abbrev pub frame_of : Problem → Setting → Frame
frame_of problem setting =
    let rels = problem_rels problem in
    record {
      items = length problem.items;
      rows = λ i. length (source_at setting.sources i);
      joins = length problem.joins;
      kind = λ s. kind_of (join_at problem.joins s).kind;
      left = λ s. (join_at problem.joins s).min_left;
      right = λ s. (join_at problem.joins s).min_right;
      on = λ s. list_holds rels setting (join_at problem.joins s).on;
      on_uses = λ s. used_by rels (join_at problem.joins s).on;
      clauses = length problem.clauses;
      region = λ c. (clause_at problem.clauses c).region;
      needs = λ c. (clause_at problem.clauses c).req;
      holds = λ c. expr_holds rels setting (clause_at problem.clauses c).expr;
      uses = λ c. used rels (clause_at problem.clauses c).expr;
    }

-- ---- what the problem has to be beside its conditions

-- no relation belongs to two items
abbrev pub AreApart : List ℕ → Type 0
AreApart rels = (j k r q rel : ℕ) → slice_get rels j ≡ Some r → slice_get rels k ≡ Some q → Has r rel → Has q rel → j ≡ k

-- the members of ON lists and the clauses are typed
pub record AreConditionsTyped (problem : Problem) : Type 0 where
  pub joins : (s : Special) → Contains problem.joins s → All IsTypedExpr s.on
  pub clauses : (c : Clause) → Contains problem.clauses c → IsTypedExpr c.expr
