-- The problem of a block is made.
use Rattle.std.proofs.Common.{◌≡◌, sym, subst, inl, refl, List}
use Rattle.jp_query.specs.declared.Query.{Query}
use Rattle.jp_problem.specs.declared.types.Item.{Item}
use Rattle.jp_problem.specs.declared.types.Problem.{Problem}
use Rattle.jp_problem.specs.Made.{IsBlock, IsMade}
use Rattle.jp_problem.specs.Problems.{AreItemsOf, problem_of}

pub made_of : (problem : Problem) (query : Query) (items : List Item) → IsBlock query → AreItemsOf query items → problem ≡ problem_of items query → IsMade problem
made_of problem query items block are is = subst IsMade (sym is) (record { query = query; block = block; items = are; made = inl refl })
