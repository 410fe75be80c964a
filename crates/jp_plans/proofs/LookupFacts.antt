-- Rows of an item that an index finds are enough for its scan.
use Rattle.std.proofs.Common.{◌≡◌, ◌∙◌, ap, ap₂, sym, subst, refl, ℕ, zero, suc, ◌+◌, ◌<◌, Bool, true, false, cond, List, [], ◌∷◌, ◌++◌, map, filter, length, get_or, Option, Some, None, arith}
use Rattle.std.specs.Prelude.{◌==◌, All, Contains, IfSome, slice_index_or, if◌then◌else◌}
use Rattle.std.specs.Borrow.{Bor}
use Rattle.std.proofs.lemmas.Bool.{eq-eqb}
use Rattle.jp_base.specs.declared.values.Value.{Value}
use Rattle.jp_base.specs.Values.{are_equal}
use Rattle.jp_facts.proofs.Members.{to_in}
use Rattle.jp_indexes.specs.Indexes.{IsIndex, has_cell}
use Rattle.jp_indexes.specs.declared.index.Index.{Index}
use Rattle.jp_query.specs.declared.CmpOp.TheVariants as cmp
use Rattle.jp_query.specs.declared.Expr.{Expr, out-Expr}
use Rattle.jp_query.specs.declared.Expr.TheOpen.{Expr-F}
use Rattle.jp_query.specs.declared.Expr.TheVariants as expr
use Rattle.jp_query.specs.declared.Expr.TheViews.{roll-Expr, roll-out-Expr}
use Rattle.jp_query.specs.Layers.{ExprLayer}
use Rattle.jp_query.specs.Meaning.{Env, Row, ValueIn, Tuples, SortKey, RowsIn, cell_in, expr_value, given, has, no_outer_rows, no_tables, order_key, output_value, query_rows, tree_tuples, value_given, with_row}
use Rattle.jp_query.specs.Operators.{is_true}
use Rattle.jp_query.specs.Tables.{TableRows, rows_of_tables}
use Rattle.jp_query.proofs.FoldLaws as laws
use Rattle.jp_problem.specs.Equalities.{Sides, sides_at, sides_of}
use Rattle.jp_problem.specs.StepClauses.{scan_clauses}
use Rattle.jp_problem.specs.declared.types.Problem.{Problem}
use Rattle.jp_conditions.proofs.Equal.{equality_is}
use Rattle.jp_frame.specs.Maps.{Map, at}
use Rattle.jp_frame.specs.Methods.{one_row, rows_of_item}
use Rattle.jp_framed.specs.Environments.{row_at}
use Rattle.jp_induction.proofs.EachPart.{Each, all_of_each}
use Rattle.jp_joins.specs.Keys.{once_if, places_where}
use Rattle.jp_joins.specs.Meant.{Meant, list_holds, value_at}
use Rattle.jp_joins.specs.Working.{truth_at}
use Rattle.jp_joins.proofs.KeyFacts.{equal_turned}
use Rattle.jp_joins.proofs.LookFacts.{equals_at, held_in}
use Rattle.jp_lists.specs.Lists.{only_rows}
use Rattle.jp_items.specs.Rows.{rows_meant, single_rows, source_rows}
use Rattle.jp_items.specs.Sights.{env_around, sight_env, source_of}
use Rattle.jp_items.specs.declared.rows.ItemRows.{ItemRows}
use Rattle.jp_items.specs.declared.rows.ItemRows.TheVariants as item
use Rattle.jp_items.specs.declared.rows.RelRows.{RelRows}
use Rattle.jp_items.specs.declared.rows.Source.TheVariants as source
use Rattle.jp_items.specs.declared.scene.Scene.{Scene}
use Rattle.jp_items.proofs.SightFacts.{in_row, outside}
use Rattle.jp_plans.specs.Known.{known_scan}
use Rattle.jp_plans.specs.Lookups.{AreEnough, Finds, FindsAt, FindsRows, FindsStored, IsLookedUp, column_at, env_has, item_maps}
use Rattle.jp_plans.proofs.RowFacts.{length_one, rows_wide}

-- ---- the value of a column

column_of_layer : (x : ExprLayer) (c : ℕ × ℕ) → column_at x ≡ Some c → (rows : ℕ → List Row) (env : Env) → value_given rows (roll-Expr x) env ≡ cell_in (env c.0) c.1
column_of_layer (Expr-F.Col rel col ty nulled) c is rows env =
    let same : (rel, col) ≡ c = cc in
    ap (λ e. value_given rows e env) (expr.rolls-Col rel col ty nulled)
    ∙ ap (λ (v : ValueIn). v env) (laws.at-Col ValueIn Tuples SortKey ValueIn RowsIn (expr_value (given rows)) (tree_tuples no_tables) order_key output_value query_rows rel col ty nulled)
    ∙ ap (λ (p : ℕ × ℕ). cell_in (env p.0) p.1) same
column_of_layer x c is rows env = absurd (cc)

column_value : (rows : ℕ → List Row) (e : Expr) (c : ℕ × ℕ) (env : Env) → Some c ≡ column_at (out-Expr e) → value_given rows e env ≡ cell_in (env c.0) c.1
column_value rows e c env is = ap (λ x. value_given rows x env) (sym (roll-out-Expr e)) ∙ column_of_layer (out-Expr e) c (sym is) rows env

-- ---- rows that are looked up

module _ (scene : Scene) (item : ℕ) (first second : Expr) (inner outer : ℕ × ℕ) (numbers : List ℕ) (is : IsLookedUp scene item inner outer numbers)
    (one : Some inner ≡ column_at (out-Expr first)) (two : Some outer ≡ column_at (out-Expr second)) where
  value_around : Value
  value_around = cell_in (env_around scene.sight.around outer.0) outer.1

  abbrev cell_of_row : ℕ → Value
  cell_of_row r = cell_in (row_at (source_of scene.sight item) (Some r) inner.0) inner.1

  module _ (meant : Meant) (same : meant.environment ≡ sight_env scene.sight) (m : Map) where
    first_is : (r : ℕ) → Some r ≡ at m item → value_at meant m first ≡ cell_of_row r
    first_is r row = column_value (meant.sublink_rows m) first inner (meant.environment m) one ∙ ap (λ (e : Map → Env). cell_in (e m inner.0) inner.1) same
        ∙ ap (λ (o : Option Row). cell_in o inner.1) (in_row scene.sight m inner.0 item r is.inside row)

    second_is : value_at meant m second ≡ cell_in (env_around scene.sight.around outer.0) outer.1
    second_is = column_value (meant.sublink_rows m) second outer (meant.environment m) two ∙ ap (λ (e : Map → Env). cell_in (e m outer.0) outer.1) same
        ∙ ap (λ (o : Option Row). cell_in o outer.1) (outside scene.sight m outer.0 is.outside)

  pub found_straight : FindsRows scene item first second numbers
  found_straight = record {
    test = env_has inner.0 inner.1 (cell_in (env_around scene.sight.around outer.0) outer.1);
    are = is.are;
    passes = λ meant same m r row equal. equal_turned (cell_in (env_around scene.sight.around outer.0) outer.1) (cell_of_row r) ∙ sym (ap₂ are_equal (first_is meant same m r row) (second_is meant same m)) ∙ equal;
  }

  pub found_turned : FindsRows scene item second first numbers
  found_turned = record {
    test = env_has inner.0 inner.1 (cell_in (env_around scene.sight.around outer.0) outer.1);
    are = is.are;
    passes = λ meant same m r row equal. sym (ap₂ are_equal (second_is meant same m) (first_is meant same m r row)) ∙ equal;
  }

module _ (scene : Scene) (item : ℕ) where
  pub some_turned : (first second : Expr) (inner outer : ℕ × ℕ) → Some inner ≡ column_at (out-Expr first) → Some outer ≡ column_at (out-Expr second)
      → (o : Option (Bor (List ℕ))) → IfSome o (λ numbers. IsLookedUp scene item inner outer numbers.now) → IfSome o (λ numbers. FindsRows scene item second first numbers.now)
  some_turned first second inner outer one two None h = tt
  some_turned first second inner outer one two (Some numbers) is = found_turned scene item first second inner outer numbers.now is one two

  -- the sides of the clause
  abbrev FindsSides : ExprLayer → List ℕ → Type 0
  FindsSides x numbers = (sides : Sides) × (sides_at x ≡ Some sides) × FindsRows scene item sides.first sides.second numbers

  finds_sides : (x : ExprLayer) (numbers : List ℕ) → FindsAt scene item x numbers → FindsSides x numbers
  finds_sides (Expr-F.Compare cmp.Eq first second) numbers h = (record { first = first; second = second }, refl, h)
  finds_sides x numbers h = absurd h

-- ---- the rows of a stored relation

source_there : (f : ItemRows → List Env) (xs : List ItemRows) (i : ℕ) (x : ItemRows) → i < length xs → x ≡ get_or xs i x → slice_index_or (map f xs) i [] ≡ f x
source_there f [] i x low e = absurd (omega (arith, low))
source_there f (y ∷ xs) zero x low e = ap f (sym e)
source_there f (y ∷ xs) (suc i) x low e = source_there f xs i x (omega (arith, low)) e

module _ (rels rel col : ℕ) (v : Value) (there : has rels rel ≡ true) where
  row_seen : (own : ℕ) (row : Row) → rel ≡ own → env_has rel col v (only_rows rels (with_row no_outer_rows own row)) ≡ has_cell col v row
  row_seen own row same =
      ap (λ b. are_equal v (cell_in (if b then (if rel == own then Some row else None) else None) col)) there
      ∙ ap (λ b. are_equal v (cell_in (if b then Some row else None) col)) (eq-eqb rel own same)

  rows_seen : (own k : ℕ) (rows : List Row) → rel ≡ own → places_where (env_has rel col v) k (map (only_rows rels) (map (with_row no_outer_rows own) rows)) ≡ places_where (has_cell col v) k rows
  rows_seen own k [] same = refl
  rows_seen own k (row ∷ rows) same = ap₂ (λ b ks. once_if b k ++ ks) (row_seen own row same) (rows_seen own (suc k) rows same)

single_meant : (tables : TableRows) (rels : ℕ) (part : RelRows) → rows_meant tables (item.Single rels part) ≡ single_rows tables rels part
unfolding rows_meant
single_meant tables rels part = refl

stored_found : (scene : Scene) (place rel col rels table : ℕ) (part : RelRows) (index : Index) (rows : ItemRows) → place < length scene.sight.sources.now → rows ≡ get_or scene.sight.sources.now place rows → rows ≡ item.Single rels part → part.rel ≡ rel → has rels rel ≡ true → part.source ≡ source.Stored table
    → index.table ≡ table → index.col ≡ col → IsIndex scene.sight.tables.now.list index → FindsStored scene place rel col index
stored_found scene place rel col rels table part index rows low there single own seen stored of_table of_col is v =
    let tables = scene.sight.tables.now.list in
    is v ∙ (λ i. places_where (has_cell (of_col i) v) 0 (rows_of_tables tables (of_table i)))
    ∙ ap (λ s. places_where (has_cell col v) 0 (source_rows tables s)) (sym stored)
    ∙ sym (ap (places_where (env_has rel col v) 0) (source_there (rows_meant tables) scene.sight.sources.now place rows low there ∙ ap (rows_meant tables) single ∙ single_meant tables rels part)
    ∙ rows_seen rels rel col v seen part.rel 0 (source_rows tables part.source) (sym own))

module _ (scene : Scene) (place rel col rels table : ℕ) (part : RelRows) (indexes : List Index) (rows : ItemRows) where
  pub some_found : place < length scene.sight.sources.now → rows ≡ get_or scene.sight.sources.now place rows → rows ≡ item.Single rels part → part.rel ≡ rel → has rels rel ≡ true → part.source ≡ source.Stored table → All (IsIndex scene.sight.tables.now.list) indexes
      → (o : Option (Bor Index)) → IfSome o (λ index. Contains indexes index.now × (index.now.table ≡ table) × (index.now.col ≡ col)) → IfSome o (λ index. FindsStored scene place rel col index.now)
  some_found low there single own seen stored all None h = tt
  some_found low there single own seen stored all (Some index) (is, of_table, of_col) =
      stored_found scene place rel col rels table part index.now rows low there single own seen stored of_table of_col (subst (IsIndex scene.sight.tables.now.list) is.2 (all is.0 index.now is.1))

-- ---- rows that are enough

at_one : (n i r : ℕ) → i < n → Some r ≡ at (one_row n i r) i
at_one zero i r low = absurd (omega (arith, low))
at_one (suc n) zero r low = refl
at_one (suc n) (suc i) r low = at_one n i r (omega (arith, low))

module _ (n i : ℕ) (holds : Map → Bool) (test : Env → Bool) where
  abbrev picked : List ℕ → List Map
  picked numbers = filter holds (map (one_row n i) numbers)

  pick_first : (k : ℕ) (ks : List ℕ) (more : List Map) (b t : Bool) → holds (one_row n i k) ≡ t → (t ≡ true → b ≡ true) → picked ks ≡ more → picked (once_if b k ++ ks) ≡ cond (holds (one_row n i k)) (one_row n i k ∷ more) more
  pick_first k ks more true t is h e = ap (λ ms. cond (holds (one_row n i k)) (one_row n i k ∷ ms) ms) e
  pick_first k ks more false true is h e = absurd (let no : false ≡ true = h refl in cc)
  pick_first k ks more false false is h e = e ∙ sym (ap (λ b. cond b (one_row n i k ∷ more) more) is)

  -- each row from number k on at which the condition holds passes the test
  abbrev Passing : ℕ → List Env → Type 0
  Passing k rows = (j : ℕ) → j < length rows → holds (one_row n i (k + j)) ≡ true → test (slice_index_or rows j no_outer_rows) ≡ true

  pick_all : (k : ℕ) (rows : List Env) → Passing k rows → picked (places_where test k rows) ≡ filter holds (rows_of_item n i k (length rows))
  pick_all k [] h = refl
  pick_all k (row ∷ rows) h =
      pick_first k (places_where test (suc k) rows) (filter holds (rows_of_item n i (suc k) (length rows))) (test row) (holds (one_row n i k)) refl
      (λ t. h 0 (omega arith) (ap (λ x. holds (one_row n i x)) (let e : k + 0 ≡ k = omega arith in e) ∙ t))
      (pick_all (suc k) rows (λ j low t. h (suc j) (omega (arith, low)) (ap (λ x. holds (one_row n i x)) (let e : k + suc j ≡ suc k + j = omega arith in e) ∙ t)))

each_one_wide : (n i : ℕ) (numbers : List ℕ) → Each (λ m. length m ≡ n) (map (one_row n i) numbers)
each_one_wide n i [] = tt
each_one_wide n i (k ∷ numbers) = (length_one n i k, each_one_wide n i numbers)

module _ (scene : Scene) (problem : Problem) (item : ℕ) where
  abbrev meant : Meant
  meant = known_scan scene problem item

  pub all_enough : (maps : List Map) → maps ≡ item_maps scene problem item → AreEnough scene problem item maps
  all_enough maps are = record {
    wide = subst (All (λ m. length m ≡ length problem.items)) (sym are) (rows_wide (length problem.items) item 0 (length (source_of scene.sight item)));
    kept = ap (filter (list_holds meant (scan_clauses problem item))) are;
  }

  pub found_enough : item < length problem.items → (numbers : List ℕ) (clause : Expr) → Contains (scan_clauses problem item) clause → Finds scene item clause numbers → (maps : List Map) → maps ≡ map (one_row (length problem.items) item) numbers → AreEnough scene problem item maps
  found_enough low numbers clause there found maps are = record {
    wide = subst (All (λ m. length m ≡ length problem.items)) (sym are) (all_of_each (λ m. length m ≡ length problem.items) (map (one_row (length problem.items) item) numbers) (each_one_wide (length problem.items) item numbers));
    kept = ap (filter holds) (are ∙ ap (map (one_row (length problem.items) item)) finds.are) ∙ pick_all (length problem.items) item holds finds.test 0 (source_of scene.sight item) passing;
  }
    where
      of_sides : FindsSides scene item (out-Expr clause) numbers
      of_sides = finds_sides scene item (out-Expr clause) numbers found

      sides : Sides
      sides = of_sides.0

      is : sides_of clause ≡ Some sides
      is = of_sides.1

      finds : FindsRows scene item sides.first sides.second numbers
      finds = of_sides.2

      holds : Map → Bool
      holds = list_holds meant (scan_clauses problem item)

      equal : (m : Map) → holds m ≡ true → are_equal (value_at meant m sides.first) (value_at meant m sides.second) ≡ true
      equal m h = sym (equals_at meant m sides.first sides.second) ∙ ap (λ e. is_true (truth_at meant m e)) (equality_is clause sides is) ∙ held_in meant m (scan_clauses problem item) clause (to_in clause (scan_clauses problem item) there) h

      passing : Passing (length problem.items) item holds finds.test 0 (source_of scene.sight item)
      passing j below h = let e : 0 + j ≡ j = omega arith in
          finds.passes meant refl (one_row (length problem.items) item (0 + j)) j (ap Some (sym e) ∙ at_one (length problem.items) item (0 + j) low) (equal (one_row (length problem.items) item (0 + j)) h)
