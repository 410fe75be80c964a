-- A query makes one bag of rows of lines that are one bag, in its order.
use Rattle.std.proofs.Common.{◌≡◌, ◌∙◌, ap, sym, subst, ℕ, Bool, true, false, List, map}
use Rattle.std.specs.Prelude.{Contains}
use Rattle.std.specs.List.Sorted.{IsPermutation}
use Rattle.std.proofs.lemmas.List.Elements.{All-contains, All-contains_itself}
use Rattle.std.proofs.lemmas.List.Sorted.{Contains-permutation, IsPermutation-sym, IsPermutation-trans, IsPermutation-map}
use Rattle.jp_query.specs.declared.Query.{Query, out-Query}
use Rattle.jp_query.specs.InOrder.{IsInOrder, StandFor, output_of, key_of, passing_tuples, lines_of, directions_of}
use Rattle.jp_query.specs.Meaning.{Env, line_at, meaning}
use Rattle.jp_query.specs.Ordering.{Row, Line, Direction, outputs_of, distinct_lines, sorted}
use Rattle.jp_laws.specs.Bags.{lines_at, rows_from}
use Rattle.jp_laws.proofs.FirstLines.{distinct_bag}
use Rattle.jp_laws.proofs.OrderedRows.{meaning_is, firsts_stand, sorted_in_order}
use Rattle.jp_laws.proofs.SortLaws.{permutes}

sorted_bag : (keys keys' : List Direction) (distinct : Bool) (lines others : List Line) → IsPermutation lines others → IsPermutation (map outputs_of (sorted keys (distinct_lines distinct lines))) (map outputs_of (sorted keys' (distinct_lines distinct others)))
sorted_bag keys keys' distinct lines others p =
    let kept = distinct_lines distinct lines in
    let kept' = distinct_lines distinct others in
    IsPermutation-trans (map outputs_of (sorted keys kept)) (map outputs_of kept) (map outputs_of (sorted keys' kept'))
    (IsPermutation-sym (map outputs_of kept) (map outputs_of (sorted keys kept)) (IsPermutation-map outputs_of kept (sorted keys kept) (permutes keys kept)))
    (IsPermutation-trans (map outputs_of kept) (map outputs_of kept') (map outputs_of (sorted keys' kept'))
    (distinct_bag distinct lines others p) (IsPermutation-map outputs_of kept' (sorted keys' kept') (permutes keys' kept')))

stand_on : (distinct : Bool) (all lines kept : List Line) → IsPermutation all lines → StandFor distinct lines kept → StandFor distinct all kept
stand_on false all lines kept p h = IsPermutation-trans all lines kept p h
stand_on true all lines kept p h = λ k d low.
    Contains-permutation lines all _ (IsPermutation-sym all lines p) (All-contains (Contains lines) kept _ h (All-contains_itself kept k d low))

module _ (tables : ℕ → List Row) (query : Query) (env : Env) (lines : List Line) (p : IsPermutation (lines_of tables query env) lines) where
  pub rows_bag : IsPermutation (meaning tables query env) (rows_from query lines)
  rows_bag =
      subst (λ rows. IsPermutation rows (rows_from query lines)) (meaning_is tables query env)
      (sorted_bag (directions_of query) (directions_of query) (out-Query query).distinct (lines_of tables query env) lines p)

  pub rows_ordered : IsInOrder tables query env (rows_from query lines)
  rows_ordered =
      let distinct = (out-Query query).distinct in
      sorted_in_order tables query env (distinct_lines distinct lines) (stand_on distinct (lines_of tables query env) lines (distinct_lines distinct lines) p (firsts_stand distinct lines))

-- ---- tuples

module _ (tables : ℕ → List Row) (query : Query) (env : Env) (tuples : List Env) (p : IsPermutation (passing_tuples tables query env) tuples) where
  lines_bag : IsPermutation (lines_of tables query env) (lines_at tables query tuples)
  lines_bag = IsPermutation-map (line_at (map (output_of tables) (out-Query query).columns) (map (key_of tables) (out-Query query).order)) (passing_tuples tables query env) tuples p

  pub tuples_bag : IsPermutation (meaning tables query env) (rows_from query (lines_at tables query tuples))
  tuples_bag = rows_bag tables query env (lines_at tables query tuples) lines_bag

  pub tuples_ordered : IsInOrder tables query env (rows_from query (lines_at tables query tuples))
  tuples_ordered = rows_ordered tables query env (lines_at tables query tuples) lines_bag

-- ---- another query

module _ (tables : ℕ → List Row) (query other : Query) (env : Env) (d : (out-Query other).distinct ≡ (out-Query query).distinct) (p : IsPermutation (lines_of tables query env) (lines_of tables other env)) where
  abbrev made : List Direction → Bool → List Row
  made keys distinct = map outputs_of (sorted keys (distinct_lines distinct (lines_of tables other env)))

  pub queries_bag : IsPermutation (meaning tables query env) (meaning tables other env)
  queries_bag =
      subst (λ rows. IsPermutation rows (meaning tables other env)) (meaning_is tables query env)
      (subst (IsPermutation (rows_from query (lines_of tables query env))) (ap (made (directions_of other)) (sym d) ∙ meaning_is tables other env)
      (sorted_bag (directions_of query) (directions_of other) (out-Query query).distinct (lines_of tables query env) (lines_of tables other env) p))

  pub queries_ordered : directions_of other ≡ directions_of query → IsInOrder tables query env (meaning tables other env)
  queries_ordered o =
      subst (IsInOrder tables query env) (ap (made (directions_of query)) (sym d) ∙ ap (λ keys. made keys (out-Query other).distinct) (sym o) ∙ meaning_is tables other env)
      (rows_ordered tables query env (lines_of tables other env) p)
