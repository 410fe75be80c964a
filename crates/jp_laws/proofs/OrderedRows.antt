-- The rows of a query are in the order of its ORDER BY.
use Rattle.std.proofs.Common.{◌≡◌, ◌∙◌, ap, ap₂, sym, subst, refl, ℕ, inl, inr, Bool, true, false, List, [], ◌∷◌, map}
use Rattle.std.specs.Prelude.{Contains}
use Rattle.std.proofs.lemmas.List.Elements.{All-contains, All-contains_itself}
use Rattle.std.proofs.lemmas.List.Sorted.{Contains-permutation, IsPermutation-refl, IsPermutation-sym, IsPermutation-trans}
use Rattle.jp_query.specs.declared.Order.{Order}
use Rattle.jp_query.specs.declared.Query.{Query, out-Query}
use Rattle.jp_query.specs.InOrder.{IsInOrder, StandFor, output_of, key_of, lines_of, direction_of, directions_of}
use Rattle.jp_query.specs.Meaning.{Env, ValueIn, Tuples, SortKey, RowsIn, in_place, expr_value, tree_tuples, order_key, output_value, query_rows, direction, value_of, tuples_of, meaning}
use Rattle.jp_query.specs.Ordering.{Row, Line, Direction, outputs_of, differs, first_lines, distinct_lines, sorted}
use Rattle.jp_query.proofs.FoldLaws as laws
use Rattle.jp_facts.proofs.Members.{In, to_in, from_in, from_filter}
use Rattle.jp_laws.proofs.SortLaws.{permutes, in_order}

maps_same : {X Y : Type 0} (f g : X → Y) → ((x : X) → f x ≡ g x) → (xs : List X) → map f xs ≡ map g xs
maps_same f g e [] = refl
maps_same f g e (x ∷ xs) = ap (λ y. y ∷ map f xs) (e x) ∙ ap (λ ys. g x ∷ ys) (maps_same f g e xs)

in_first : (lines : List Line) (line : Line) → In line (first_lines lines) → In line lines
in_first [] line h = absurd h
in_first (x ∷ xs) line (inl q) = inl q
in_first (x ∷ xs) line (inr r) = inr (in_first xs line (from_filter (differs x) line (first_lines xs) r).1)

pub firsts_stand : (distinct : Bool) (all : List Line) → StandFor distinct all (distinct_lines distinct all)
firsts_stand false all = IsPermutation-refl all
firsts_stand true all = λ k d low. from_in _ all (in_first all _ (to_in _ (first_lines all) (All-contains_itself (first_lines all) k d low)))

sort_stands : (distinct : Bool) (keys : List Direction) (all lines : List Line) → StandFor distinct all lines → StandFor distinct all (sorted keys lines)
sort_stands false keys all lines h = IsPermutation-trans all lines (sorted keys lines) h (permutes keys lines)
sort_stands true keys all lines h = λ k d low.
    let kept = sorted keys lines in
    All-contains (Contains all) lines _ h (Contains-permutation kept lines _ (IsPermutation-sym lines kept (permutes keys lines)) (All-contains_itself kept k d low))

module _ (tables : ℕ → List Row) where
  directions_are : (order : List Order) → map direction (map (key_of tables) order) ≡ map direction_of order
  directions_are [] = refl
  directions_are (item ∷ order) = ap (λ ds. direction_of item ∷ ds) (directions_are order)

  abbrev pub kept_lines : Query → Env → List Line
  kept_lines query env = distinct_lines (out-Query query).distinct (lines_of tables query env)

  pub meaning_is : (query : Query) (env : Env) → map outputs_of (sorted (directions_of query) (kept_lines query env)) ≡ meaning tables query env
  meaning_is query env =
      let q = out-Query query in
      let rows = λ (columns : List ValueIn) (order : List SortKey). query_rows (record { columns = columns; distinct = q.distinct; tree = tuples_of tables q.tree; conds = map (value_of tables) q.conds; order = order }) env in
      let means_output = laws.of_output ValueIn Tuples SortKey ValueIn RowsIn (expr_value in_place) (tree_tuples tables) order_key output_value query_rows in
      let means_order = laws.of_order ValueIn Tuples SortKey ValueIn RowsIn (expr_value in_place) (tree_tuples tables) order_key output_value query_rows in
      sym (
      ap (λ (r : RowsIn). r env) (laws.at-Query ValueIn Tuples SortKey ValueIn RowsIn (expr_value in_place) (tree_tuples tables) order_key output_value query_rows query)
      ∙ ap₂ rows
      (maps_same means_output (output_of tables) (laws.at-Output ValueIn Tuples SortKey ValueIn RowsIn (expr_value in_place) (tree_tuples tables) order_key output_value query_rows) q.columns)
      (maps_same means_order (key_of tables) (laws.at-Order ValueIn Tuples SortKey ValueIn RowsIn (expr_value in_place) (tree_tuples tables) order_key output_value query_rows) q.order)
      ∙ ap (λ (keys : List Direction). map outputs_of (sorted keys (kept_lines query env))) (directions_are q.order)
      )

  pub sorted_in_order : (query : Query) (env : Env) (lines : List Line) → StandFor (out-Query query).distinct (lines_of tables query env) lines → IsInOrder tables query env (map outputs_of (sorted (directions_of query) lines))
  sorted_in_order query env lines h = record {
    lines = sorted (directions_of query) lines;
    outputs = refl;
    passing = sort_stands (out-Query query).distinct (directions_of query) (lines_of tables query env) lines h;
    in_order = in_order (directions_of query) lines;
  }

  pub rows_in_order : (query : Query) (env : Env) → IsInOrder tables query env (meaning tables query env)
  rows_in_order query env = subst (IsInOrder tables query env) (meaning_is query env) (sorted_in_order query env (kept_lines query env) (firsts_stand (out-Query query).distinct (lines_of tables query env)))
