-- The steps of the slow evaluator: evaluation at a place, and one member more of each loop.
use Rattle.std.proofs.Common.{◌≡◌, ◌∙◌, ap, ap₂, sym, subst, refl, ℕ, suc, ◌+◌, ◌<◌, ◌&&◌, Bool, true, false, cond, List, [], ◌∷◌, ◌++◌, length, get_or, take, drop, map, filter, arith, rules, eqb-true}
use Rattle.std.specs.Prelude.{All, IfOk, Ok, Err, Result, fold, bit_or, vec_len, ◌==◌}
use Rattle.std.specs.List.{flat_map}
use Rattle.std.proofs.Math.Path.{fun_ext}
use Rattle.std.proofs.lemmas.List.{at_drop_more, map-append, take_more}
use Rattle.jp_query.specs.declared.Expr.{Expr}
use Rattle.jp_query.specs.declared.JoinKind.{JoinKind}
use Rattle.jp_query.specs.declared.JoinTree.{JoinTree}
use Rattle.jp_query.specs.declared.JoinTree.TheVariants as tree
use Rattle.jp_query.specs.declared.Order.{Order}
use Rattle.jp_query.specs.declared.Query.{Query, out-Query}
use Rattle.jp_query.specs.Fitting.{IsCellAt}
use Rattle.jp_query.specs.InOrder.{direction_of, lines_of}
use Rattle.jp_query.specs.Joins.{join_rels}
use Rattle.jp_query.specs.Meaning.{Row, Env, ValueIn, Tuples, SortKey, RowsIn, Line, combined, with_member, with_row, with_rows, in_place, expr_value, tree_tuples, order_key, output_value, query_rows, holds, is_true_at, join_tuples, meaning, outputs_of, distinct_lines, sorted, rels_in, tuples_of, value_given, value_of}
use Rattle.jp_query.specs.Outermost.{IsGiven, outermost}
use Rattle.jp_query.specs.Parts.{columns_in}
use Rattle.jp_query.specs.Refs.{only, union}
use Rattle.jp_query.specs.Tables.{TableRows, rows_of_tables}
use Rattle.jp_query.proofs.FoldLaws as laws
use Rattle.jp_eval.specs.Evaluation.{CanEvaluate}
use Rattle.jp_laws.proofs.EachPart.{Each, all_of_each}
use Rattle.jp_laws.proofs.GivenLaws.{given_is_in_place}
use Rattle.jp_laws.proofs.LentLaws.{in_place_gives_lent}
use Rattle.jp_laws.proofs.OrderedRows.{meaning_is}
use Rattle.jp_naive.specs.Frames.{env_of, env_over, envs_over, place_env, rels_of}
use Rattle.jp_naive.specs.Joining.{Numbers, pair_of}
use Rattle.jp_naive.specs.Lines.{values_of}
use Rattle.jp_naive.specs.Running.{CanRunExpr}
use Rattle.jp_naive.specs.Sublinks.{env_of_place_env, rows_by_number}
use Rattle.jp_naive.specs.declared.env.PlaceEnv.{PlaceEnv}
use Rattle.jp_naive.specs.declared.frames.Leaf.{Leaf}
use Rattle.jp_naive.specs.declared.frames.Place.{Place}
use Rattle.jp_naive.specs.Whole.{AreWhole}
use Rattle.jp_naive.specs.declared.frames.OuterRow.{OuterRow}
use Rattle.jp_naive.specs.declared.leaves.Tuples.{Tuples as Tuples'}
use Rattle.jp_naive.specs.declared.sublinks.Lent.{Lent}
use Rattle.jp_naive.proofs.FrameFacts.{pair_over}
use Rattle.jp_naive.proofs.Passing.{every}

fold_last : {X Y : Type 0} (f : Y → X → Y) (y : Y) (xs : List X) (x : X) → fold f y (xs ++ x ∷ []) ≡ f (fold f y xs) x
fold_last f y [] x = refl
fold_last f y (z ∷ xs) x = fold_last f (f y z) xs x

pub width_is : (t : Tuples') → AreWhole t → t.numbers.width ≡ length t.leaves.items
width_is t h =
    let size : vec_len t.leaves ≡ length t.leaves.items = search rules in
    h.width ∙ size

pub whole_lengths : (t : Tuples') → AreWhole t → All (λ numbers. length numbers ≡ length t.leaves.items) t.numbers.list
whole_lengths t h k d low = h.each k d low ∙ width_is t h

-- ---- answers

pub both_ok : {X E : Type 0} (r : Result X E) (P Q R : X → Type 0) → ((x : X) → P x → Q x → R x) → IfOk r P → IfOk r Q → IfOk r R
both_ok (Ok x) P Q R f p q = f x p q
both_ok (Err e) P Q R f p q = tt

-- ---- members of lists

pub nothing : {X : Type 0} (xs : List X) → true ≡ (length xs == 0) → xs ≡ []
nothing [] e = refl
nothing (x ∷ xs) e = absurd (omega (arith, eqb-true (length (x ∷ xs)) 0 (sym e)))

module _ {X : Type 0} (P : X → Type 0) (xs : List X) (i : ℕ) (x : X) (there : i < length xs) (is : x ≡ get_or xs i x) where
  pub all_there : All P xs → P x
  all_there h = subst P (sym is) (h i x there)

  pub each_there : Each P xs → P x
  each_there h = all_there (all_of_each P xs h)

module _ (tables : TableRows) where
  abbrev rows : ℕ → List Row
  rows = rows_of_tables tables

  -- ---- evaluation at a place

  can_evaluate : (e : Expr) (env : Env) (given : ℕ → List Row) → CanRunExpr tables e env → All (IsGiven rows given env) (outermost e) → CanEvaluate given e env
  can_evaluate e env given h all = record {
    schema = h.schema;
    scope = h.scope;
    typed = h.is_typed;
    columns = h.columns;
    bounded = h.bounded;
    fits = in_place_gives_lent h.schema tables h.scope given e env h.is_typed h.columns h.distinct (record { cells = all_of_each (IsCellAt h.scope env) (columns_in e) (every (IsCellAt h.scope env) h.fits (columns_in e)); belong = h.belong }) all;
  }

  module _ (e : Expr) (place : Place) (at : PlaceEnv) (list : List Lent) (is : env_of_place_env at ≡ place_env tables place) (lent : at.lent.now ≡ list) (all : All (IsGiven rows (rows_by_number list) (place_env tables place)) (outermost e)) where
    pub evaluates : CanRunExpr tables e (place_env tables place) → CanEvaluate (rows_by_number at.lent.now) e (env_of_place_env at)
    evaluates h = subst (λ ls. CanEvaluate (rows_by_number ls) e (env_of_place_env at)) (sym lent) (subst (CanEvaluate (rows_by_number list) e) (sym is) (can_evaluate e (place_env tables place) (rows_by_number list) h all))

    pub value_there : value_given (rows_by_number at.lent.now) e (env_of_place_env at) ≡ value_of rows e (place_env tables place)
    value_there = ap₂ (λ (ls : List Lent) (env : Env). value_given (rows_by_number ls) e env) lent is ∙ given_is_in_place rows (rows_by_number list) e (place_env tables place) all

  -- the place in a tuple
  pub alone_at : (place : Place) (leaves : List Leaf) (numbers : Numbers) (outer : List OuterRow) → place.first.leaves.now ≡ leaves → place.first.numbers.now ≡ numbers → place.second.leaves.now ≡ [] → place.outer.now ≡ outer
      → place_env tables place ≡ env_over tables leaves numbers (env_of tables outer)
  alone_at place leaves numbers outer a b c d =
      let ls = place.first.leaves.now in
      let ns = place.first.numbers.now in
      ap (λ xs. env_over tables ls ns (env_over tables xs place.second.numbers.now (env_of tables place.outer.now))) c
      ∙ ap (env_over tables ls ns) (fun_ext (λ n. refl))
      ∙ ap (λ os. env_over tables ls ns (env_of tables os)) d
      ∙ ap₂ (λ xs ys. env_over tables xs ys (env_of tables outer)) a b

  -- ---- conditions

  pub no_conds : (conds : List Expr) (envs : List Env) → conds ≡ [] → filter (holds (values_of rows conds)) envs ≡ envs
  no_conds conds envs e = ap (λ cs. filter (holds (values_of rows cs)) envs) e ∙ every_kept envs
    where
      every_kept : (es : List Env) → filter (holds []) es ≡ es
      every_kept [] = refl
      every_kept (e ∷ es) = ap (λ xs. e ∷ xs) (every_kept es)

  pub cond_more : (conds : List Expr) (i : ℕ) (cond : Expr) (env : Env) → i < length conds → cond ≡ get_or conds i cond → holds (values_of rows (drop i conds)) env ≡ (is_true_at env (value_of rows cond) && holds (values_of rows (drop (i + 1) conds)) env)
  cond_more conds i cond env there is = at_drop_more (λ es. holds (values_of rows es) env) conds i cond there ∙ ap (λ e. is_true_at env (value_of rows e) && holds (values_of rows (drop (i + 1) conds)) env) (sym is)

  -- ---- queries

  pub rows_mean : (query : Query) (env : Env) (order : List Order) (lines : List Line) (made : List Row) → order ≡ (out-Query query).order → lines ≡ lines_of rows query env → made ≡ map outputs_of (sorted (map direction_of order) (distinct_lines (out-Query query).distinct lines)) → made ≡ meaning rows query env
  rows_mean query env order lines made o is e = e ∙ ap (λ (os : List Order). map outputs_of (sorted (map direction_of os) (distinct_lines (out-Query query).distinct lines))) o ∙ ap (λ ls. map outputs_of (sorted (map direction_of (out-Query query).order) (distinct_lines (out-Query query).distinct ls))) is ∙ meaning_is rows query env

  -- ---- trees

  pub base_is : (rel : ℕ) (name : List ℕ) (table : ℕ) → tuples_of rows (tree.Base rel name table) ≡ record { rels = only rel; tuples = λ env. map (with_row env rel) (rows table) }
  base_is rel name table = laws.at-Base ValueIn Tuples SortKey ValueIn RowsIn (expr_value in_place) (tree_tuples rows) order_key output_value query_rows rel name table

  pub sub_is : (rel : ℕ) (name : List ℕ) (query : Query) → tuples_of rows (tree.Sub rel name query) ≡ record { rels = only rel; tuples = λ env. map (with_row env rel) (meaning rows query env) }
  sub_is rel name query = laws.at-Sub ValueIn Tuples SortKey ValueIn RowsIn (expr_value in_place) (tree_tuples rows) order_key output_value query_rows rel name query

  pub join_is : (kind : JoinKind) (left right : JoinTree) (on : List Expr) → tuples_of rows (tree.Join kind left right on) ≡ record {
    rels = join_rels kind (tuples_of rows left).rels (tuples_of rows right).rels;
    tuples = λ env. join_tuples kind (values_of rows on) (tuples_of rows left).rels ((tuples_of rows left).tuples env) (tuples_of rows right).rels ((tuples_of rows right).tuples env);
  }
  join_is kind left right on = laws.at-Join ValueIn Tuples SortKey ValueIn RowsIn (expr_value in_place) (tree_tuples rows) order_key output_value query_rows kind left right on

  pub from_is : (members : List JoinTree) (conds : List Expr) → tuples_of rows (tree.From members conds) ≡ record {
    rels = union (map rels_in (map (tuples_of rows) members));
    tuples = λ env. filter (holds (values_of rows conds)) (combined (map (tuples_of rows) members) env);
  }
  from_is members conds = laws.at-From ValueIn Tuples SortKey ValueIn RowsIn (expr_value in_place) (tree_tuples rows) order_key output_value query_rows members conds

  -- ---- combinations

  module _ (outer : Env) (ll rl : List Leaf) where
    pairs_with : (l : Numbers) (rights : List Numbers) → All (λ r. length r ≡ length rl) rights → envs_over tables (rl ++ ll) outer (map (pair_of l) rights) ≡ map (with_rows (rels_of rl) (env_over tables ll l outer)) (envs_over tables rl outer rights)
    pairs_with l [] h = refl
    pairs_with l (r ∷ rights) h = ap₂ (λ (e : Env) (es : List Env). e ∷ es) (pair_over tables rl ll r l outer (h 0 [] (omega arith))) (pairs_with l rights (λ k d low. h (suc k) d (omega (arith, low))))

    pub all_pairs_mean : (lefts rights : List Numbers) → All (λ r. length r ≡ length rl) rights
        → envs_over tables (rl ++ ll) outer (flat_map (λ l. map (pair_of l) rights) lefts) ≡ flat_map (λ e. map (with_rows (rels_of rl) e) (envs_over tables rl outer rights)) (envs_over tables ll outer lefts)
    all_pairs_mean [] rights h = refl
    all_pairs_mean (l ∷ lefts) rights h =
        map-append (λ numbers. env_over tables (rl ++ ll) numbers outer) (map (pair_of l) rights) (flat_map (λ x. map (pair_of x) rights) lefts)
        ∙ ap₂ (λ (xs ys : List Env). xs ++ ys) (pairs_with l rights h) (all_pairs_mean lefts rights h)

  module _ (members : List JoinTree) (i : ℕ) (m : JoinTree) (there : i < length members) (is : m ≡ get_or members i m) where
    taken : map (tuples_of rows) (take (i + 1) members) ≡ map (tuples_of rows) (take i members) ++ tuples_of rows m ∷ []
    taken = ap (map (tuples_of rows)) (take_more members i m there ∙ ap (λ t. take i members ++ t ∷ []) (sym is)) ∙ map-append (tuples_of rows) (take i members) (m ∷ [])

    pub member_more : (env : Env) → combined (map (tuples_of rows) (take (i + 1) members)) env ≡ with_member env (combined (map (tuples_of rows) (take i members)) env) (tuples_of rows m)
    member_more env = ap (λ ts. combined ts env) taken ∙ fold_last (with_member env) (env ∷ []) (map (tuples_of rows) (take i members)) (tuples_of rows m)

    pub rels_more : union (map rels_in (map (tuples_of rows) (take (i + 1) members))) ≡ bit_or (union (map rels_in (map (tuples_of rows) (take i members)))) (tuples_of rows m).rels
    rels_more = ap (λ ts. union (map rels_in ts)) taken ∙ ap union (map-append rels_in (map (tuples_of rows) (take i members)) (tuples_of rows m ∷ []))
        ∙ fold_last bit_or 0 (map rels_in (map (tuples_of rows) (take i members))) (tuples_of rows m).rels

-- ---- tuples that are kept

module _ {X Y : Type 0} (test : X → Bool) (f : X → Y) where
  pub one_filtered : (x : X) (xs : List X) → map f (filter test (x ∷ xs)) ≡ map f (filter test (x ∷ [])) ++ map f (filter test xs)
  one_filtered x xs = at (test x)
    where
      at : (b : Bool) → map f (cond b (x ∷ filter test xs) (filter test xs)) ≡ map f (cond b (x ∷ []) []) ++ map f (filter test xs)
      at true = refl
      at false = refl

pub one_kept : {X : Type 0} (test : X → Bool) (x : X) (xs : List X) → filter test (x ∷ xs) ≡ filter test (x ∷ []) ++ filter test xs
one_kept test x xs = at (test x)
  where
    at : (b : Bool) → cond b (x ∷ filter test xs) (filter test xs) ≡ cond b (x ∷ []) [] ++ filter test xs
    at true = refl
    at false = refl
