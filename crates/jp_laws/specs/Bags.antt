-- Members of FROM that are one bag, and the rows that a query makes of lines.
use Rattle.std.specs.Prelude.{◌≡◌, ℕ, ⊤, List, [], ◌∷◌, map}
use Rattle.std.specs.List.Sorted.{IsPermutation}
use Rattle.jp_query.specs.declared.Query.{Query, out-Query}
use Rattle.jp_query.specs.InOrder.{output_of, key_of, directions_of}
use Rattle.jp_query.specs.Meaning.{Env, Tuples, line_at}
use Rattle.jp_query.specs.Ordering.{Row, Line, outputs_of, distinct_lines, sorted}

-- the members have the same relations and, in the environment, one bag of tuples
pub record IsOneBag (env : Env) (member other : Tuples) : Type 0 where
  pub rels : member.rels ≡ other.rels
  pub tuples : IsPermutation (member.tuples env) (other.tuples env)

-- the lists are of one length, and the members at each place are one bag
abbrev pub AreOneBag : Env → List Tuples → List Tuples → Type 0
AreOneBag env [] [] = ⊤
AreOneBag env (member ∷ members) (other ∷ others) = IsOneBag env member other × AreOneBag env members others
AreOneBag env _ _ = ⊥

-- the lines that the tuples give, by the query's outputs and ORDER BY items
abbrev pub lines_at : (ℕ → List Row) → Query → List Env → List Line
lines_at tables query tuples = map (line_at (map (output_of tables) (out-Query query).columns) (map (key_of tables) (out-Query query).order)) tuples

-- the rows that the query makes of lines: DISTINCT where it has it, and the sort
abbrev pub rows_from : Query → List Line → List Row
rows_from query lines = map outputs_of (sorted (directions_of query) (distinct_lines (out-Query query).distinct lines))
