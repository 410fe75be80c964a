-- A block gives what its query means, where the blocks behind it do.
use Rattle.std.proofs.Common.{◌≡◌, ◌∙◌, ap, ap₂, sym, subst, refl, ℕ, zero, suc, ◌+◌, ◌<◌, ◌≤◌, inl, inr, List, [], ◌∷◌, ◌++◌, map, length, Some, None, eq-eqb, arith}
use mathlib.Core.Path.{fun_ext}
use Rattle.std.specs.Prelude.{slice_get, if◌then◌else◌}
use Rattle.std.specs.Int.{bit_at}
use Rattle.std.specs.List.{AllZip, flat_map}
use Rattle.std.specs.List.Sorted.{IsPermutation}
use Rattle.std.specs.Option.{option_map}
use Rattle.std.proofs.lemmas.Bool.{ne_eqb}
use Rattle.std.proofs.lemmas.Option.{get_or_from_slice_get, slice_get-map, slice_get_within}
use Rattle.jp_base.specs.Sets.{Has}
use Rattle.jp_facts.proofs.Members.{In, to_in, in_map, in_flat_map, in_append_left, in_append_right}
use Rattle.jp_catalog.specs.Sound.{IsSound}
use Rattle.jp_catalog.specs.declared.types.Catalog.{Catalog}
use Rattle.jp_query.specs.declared.Expr.{Expr}
use Rattle.jp_query.specs.declared.JoinTree.{JoinTree}
use Rattle.jp_query.specs.declared.Order.{Order}
use Rattle.jp_query.specs.declared.Output.{Output}
use Rattle.jp_query.specs.declared.Query.{Query, out-Query}
use Rattle.jp_query.specs.Conditions.{IsTyped, IsBounded, judged_leaves}
use Rattle.jp_query.specs.InOrder.{IsInOrder, output_of, key_of, direction_of, passing_tuples}
use Rattle.jp_query.specs.Meaning.{Row, Env, with_rows, value_at, key_at, line_at, value_of, tuples_of, meaning}
use Rattle.jp_query.specs.NoRight.{HasNoRight}
use Rattle.jp_query.specs.Ordering.{outputs_of, distinct_lines, sorted}
use Rattle.jp_query.specs.OwnLeaves.{own_leaves}
use Rattle.jp_query.specs.Parts.{base_leaves_in}
use Rattle.jp_query.specs.Refs.{only, union}
use Rattle.jp_resolution.specs.Schemas.{schema_of}
use Rattle.jp_laws.specs.Bags.{lines_at, rows_from}
use Rattle.jp_folding.specs.Folding.{folded}
use Rattle.jp_problem.specs.declared.types.Item.{Item}
use Rattle.jp_problem.specs.declared.types.Problem.{Problem}
use Rattle.jp_problem.specs.Blocks.{known_rels, item_rels, block_exprs, listed_exprs, output_expr, order_expr, outline_of}
use Rattle.jp_problem.specs.InnerBlocks.{exprs_of_item}
use Rattle.jp_problem.specs.Made.{join_exprs}
use Rattle.jp_problem.specs.MinimumSets.{specials_in}
use Rattle.jp_problem.specs.Problems.{clauses_in, problem_rels, problem_of}
use Rattle.jp_problem.specs.StepClauses.{expr_of}
use Rattle.jp_problem.specs.Shapes.{block_shape, exprs_in}
use Rattle.jp_problem.specs.Trees.{Tree, IsPlan}
use Rattle.jp_conditions.proofs.Judging.{each_in, expr_leaf_set}
use Rattle.jp_conditions.proofs.MadeLaws.{made_conditions}
use Rattle.jp_conditions.proofs.Numbers.{from_place}
use Rattle.jp_conditions.proofs.Sheltered.{Sheltered}
use Rattle.jp_frame.specs.Maps.{Map}
use Rattle.jp_frame.specs.Trees.{Tree as FrameTree, rows_of}
use Rattle.jp_frame.proofs.Sets.{decide_has}
use Rattle.jp_framed.specs.Environments.{Setting, env_from, env_of, source_at, HasNoOwnRows}
use Rattle.jp_framed.specs.Framing.{frame_of}
use Rattle.jp_framed.specs.Running.{IsRunOf, run_of, tuples_of_run}
use Rattle.jp_framed.proofs.MadeLaws.{plain_without_classes}
use Rattle.jp_framed.proofs.MapRows.{other_row}
use Rattle.jp_framed.proofs.RunLaws.{own_run}
use Rattle.jp_spine.specs.ItemTuples.{in_place_over, HoldItems}
use Rattle.jp_spine.specs.Written.{rels_of_number}
use Rattle.jp_spine.proofs.TupleLaws.{orders_meant, orders_rows, orders_sorted}
use Rattle.jp_tree.specs.declared.prepared.Block.{Block}
use Rattle.jp_tree.specs.declared.prepared.Prepared.{Prepared}
use Rattle.jp_tree.specs.PlanTrees.{tree_at}
use Rattle.jp_tree.specs.Pools.{IsPool}
use Rattle.jp_tree.proofs.PlanTreeLaws.{tree_named}
use Rattle.jp_prepared.specs.Planned.{IsPrepared}
use Rattle.jp_prepared.specs.Searched.{CanBeSearched}
use Rattle.jp_prepared.specs.Sources.{Source, IsSourceAt, items_of_block}
use Rattle.jp_prepared.proofs.ItemForms.{IsItemTree, items_formed}
use Rattle.jp_prepared.proofs.Places.{placed_there}
use Rattle.jp_prepared.proofs.PreparedBlocks as blocks
use Rattle.jp_prepared.proofs.ProblemExprs.{problem_exprs}
use Rattle.jp_prepared.proofs.SearchLaws.{source_searched}
use Rattle.jp_prepared.proofs.SourcePlaces as there
use Rattle.jp_lists.specs.Lists.{Listed, Listing, sublink_rows, listed_value, item_source, sources_of, listed_output, listed_key, listed_line, rows_of_lines, around_block, tuples_of_block, listed_block}
use Rattle.jp_lists.specs.Steps.{Run, tree_list}
use Rattle.jp_listed.specs.Plans.{run_in, HaveTheirValues, key_orders}
use Rattle.jp_listed.proofs.Clear.{ClearOf, IsClear, block_sheltered, tree_clear, item_clear}
use Rattle.jp_listed.proofs.ItemRows.{item_held}
use Rattle.jp_listed.proofs.Relations.{place_own, union_own, own_is_leaf}
use Rattle.jp_listed.proofs.Sublinks.{Gives, IsGood, value_same}
use Rattle.jp_listed.proofs.TreeLists.{block_listed}

zip_at : {X Y : Type 0} (R : X → Y → Type 0) (xs : List X) (ys : List Y) → AllZip R xs ys → (i : ℕ) (x : X) → slice_get xs i ≡ Some x → (y : Y) × (slice_get ys i ≡ Some y) × R x y
zip_at R [] ys h i x e = cc
zip_at R (z ∷ xs) [] h i x e = absurd h
zip_at R (z ∷ xs) (y ∷ ys) h zero x e = (y, refl, subst (λ w. R w y) (first z x e) h.0)
  where
    first : {X : Type 0} (a b : X) → Some a ≡ Some b → a ≡ b
    first a b e = cc
zip_at R (z ∷ xs) (y ∷ ys) h (suc i) x e = zip_at R xs ys h.1 i x e

-- ---- lines

module _ (bs : List Block) (inner : Listing) (tables : ℕ → List Row) (x : Env) where
  outputs_same : (us : List Output) → ((u : Output) → In u us → listed_value bs inner (output_expr u) x ≡ value_of tables (output_expr u) x) → map (value_at x) (map (listed_output bs inner) us) ≡ map (value_at x) (map (output_of tables) us)
  outputs_same [] h = refl
  outputs_same (u ∷ us) h = ap₂ ◌∷◌ (h u (inl refl)) (outputs_same us (λ v m. h v (inr m)))

  keys_same : (os : List Order) → ((o : Order) → In o os → listed_value bs inner (order_expr o) x ≡ value_of tables (order_expr o) x) → map (key_at x) (map (listed_key bs inner) os) ≡ map (key_at x) (map (key_of tables) os)
  keys_same [] h = refl
  keys_same (o ∷ os) h = ap₂ ◌∷◌ (h o (inl refl)) (keys_same os (λ v m. h v (inr m)))

  pub line_same : (q : Query) → ((e : Expr) → In e (listed_exprs q) → listed_value bs inner e x ≡ value_of tables e x)
      → line_at (map (listed_output bs inner) (out-Query q).columns) (map (listed_key bs inner) (out-Query q).order) x ≡ line_at (map (output_of tables) (out-Query q).columns) (map (key_of tables) (out-Query q).order) x
  line_same q h =
      let outputs = map output_expr (out-Query q).columns in
      let orders = map order_expr (out-Query q).order in
      ap₂ (λ vs ks. record { outputs = vs; keys = ks })
      (outputs_same (out-Query q).columns (λ u m. h (output_expr u) (in_append_left (output_expr u) outputs orders (in_map output_expr u (out-Query q).columns m))))
      (keys_same (out-Query q).order (λ o m. h (order_expr o) (in_append_right (order_expr o) outputs orders (in_map order_expr o (out-Query q).order m))))

map_alike : {X Y Z : Type 0} (f g : Y → Z) (k : X → Y) (xs : List X) → ((x : X) → f (k x) ≡ g (k x)) → map f (map k xs) ≡ map g (map k xs)
map_alike f g k [] h = refl
map_alike f g k (x ∷ xs) h = ap₂ ◌∷◌ (h x) (map_alike f g k xs h)

module _ (catalog : Catalog) (sound : IsSound catalog) (query : Query) (prepared : Prepared) (is : IsPrepared catalog query prepared)
    (typed : IsTyped (schema_of catalog) [] (folded query)) (bounded : IsBounded (schema_of catalog) [] (folded query)) (no_right : HasNoRight (folded query)) (pool : IsPool prepared.pool.nodes)
    (tables : ℕ → List Row) (inner : Listing)
    (unfolds : (number : ℕ) (block : Block) (env : Env) → slice_get prepared.blocks number ≡ Some block → inner number env ≡ listed_block prepared.blocks prepared.pool.nodes tables inner block env) where
  module _ (number : ℕ) (source : Source) (at : IsSourceAt is.sources number source) (behind : (place : ℕ) → number < place → IsGood catalog sound query prepared is tables inner place)
      (block : Block) (stands : slice_get prepared.blocks number ≡ Some block) (outer : Env) (clear : IsClear outer source.query) where
    abbrev q : Query
    q = source.query

    abbrev t : JoinTree
    t = (out-Query source.query).tree

    abbrev items : List Item
    items = block.problem.items

    abbrev problem : Problem
    problem = problem_of block.problem.items source.query

    abbrev rels : List ℕ
    rels = problem_rels (problem_of block.problem.items source.query)

    abbrev sources : List (List Env)
    sources = sources_of prepared.blocks tables inner outer block.problem.items

    abbrev setting : Setting
    setting = in_place_over tables (sources_of prepared.blocks tables inner outer block.problem.items) outer

    abbrev rows : Env → ℕ → List Row
    rows = sublink_rows prepared.blocks inner

    from : blocks.IsFrom catalog sound query prepared is number source block
    from = is.blocks number source block at stands

    can : CanBeSearched source.query block.problem.items
    can = source_searched catalog sound is.sources (slice_get prepared.blocks) prepared.pool.nodes number (folded query) typed bounded no_right is.are (blocks.ready catalog sound query prepared is number) source block.problem.items at from.items

    sheltered : Sheltered (own_leaves t) (block_exprs q) (judged_leaves q)
    sheltered = block_sheltered q can.block.typed.apart

    -- ---- relations

    item_own : (i set rel : ℕ) → slice_get rels i ≡ Some set → Has set rel → In rel (own_leaves t)
    item_own i set rel e h = place_own t i set rel (subst (λ rs. slice_get rs i ≡ Some set) can.are e) h

    own_none : (rel : ℕ) → In rel (own_leaves t) → outer rel ≡ None
    own_none rel own = tree_clear q outer clear rel (own_is_leaf t rel own)

    clear_own : HasNoOwnRows rels outer
    clear_own i set rel e h = own_none rel (item_own i set rel e h)

    map_clear : (m : Map) (e : Expr) → In e (block_exprs q) → ClearOf (env_of rels setting m) (expr_leaf_set e)
    map_clear m e k rel leaf = other_row rels setting m rel (λ i set here h. sheltered.away e rel k (item_own i set rel here h) leaf) ∙ clear rel (sheltered.inner e rel k leaf)

    at_map : (e : Expr) → In e (block_exprs q) → (m : Map) → listed_value prepared.blocks inner e (env_of rels setting m) ≡ value_of tables e (env_of rels setting m)
    at_map e k m = value_same catalog sound query prepared is tables inner number source at behind e (env_of rels setting m) (in_append_left e (block_exprs q) (flat_map exprs_of_item (items_of_block q)) k) (map_clear m e k)

    -- ---- conditions

    condition : (e : Expr) → In e (exprs_in (block_shape q)) → In e (block_exprs q)
    condition e h = in_append_left e (exprs_in (block_shape q)) (listed_exprs q) h

    no_items : (e : Expr) → In e (flat_map join_exprs (specials_in (outline_of q)) ++ map expr_of (clauses_in (outline_of q))) → In e (exprs_in (block_shape q))
    no_items e h = elim (problem_exprs q [] e (in_append_left e (flat_map join_exprs (specials_in (outline_of q)) ++ map expr_of (clauses_in (outline_of q))) [] h)) [ inl gone ↦ absurd gone | inr k ↦ k ]

    values : HaveTheirValues problem setting rows
    values = record {
      on = λ s e h k. at_map e (condition e (no_items e (in_append_left e (flat_map join_exprs (specials_in (outline_of q))) (map expr_of (clauses_in (outline_of q))) (in_flat_map join_exprs s e (specials_in (outline_of q)) (to_in s (specials_in (outline_of q)) h) (to_in e s.on k)))));
      clauses = λ c h. at_map c.expr (condition c.expr (no_items c.expr (in_append_right c.expr (flat_map join_exprs (specials_in (outline_of q))) (map expr_of (clauses_in (outline_of q))) (in_map expr_of c (clauses_in (outline_of q)) (to_in c (clauses_in (outline_of q)) h)))));
    }

    -- ---- items

    hold : HoldItems tables q sources outer
    hold i leaf e =
        let found = zip_at (blocks.IsItemOf catalog sound query prepared is number) (items_of_block q) items from.items i leaf e in
        let m = from_place (items_of_block q) i leaf e in
        let bases = union (map only (base_leaves_in (folded query))) in
        let placed = there.source_placed (schema_of catalog) bases (folded query) is.sources is.are (placed_there (schema_of catalog) [] (folded query) typed bounded no_right) number source at in
        let here = (each_in (there.TreeThere (schema_of catalog) bases there.Any placed.0) (items_of_block q) leaf (there.items_there (schema_of catalog) bases there.Any placed.0 q placed.1) m).0 in
        let rels_are : rels_of_number (item_rels (block_shape q)) i ≡ known_rels leaf = get_or_from_slice_get (map known_rels (items_of_block q)) i (known_rels leaf) 0 (slice_get-map known_rels (items_of_block q) i ∙ ap (option_map known_rels) e) in
        let source_is : source_at sources i ≡ item_source prepared.blocks tables inner outer found.0 = get_or_from_slice_get (map (item_source prepared.blocks tables inner outer) items) i (item_source prepared.blocks tables inner outer found.0) []
        (slice_get-map (item_source prepared.blocks tables inner outer) items i ∙ ap (option_map (item_source prepared.blocks tables inner outer)) found.1) in
        subst (λ xs. IsPermutation xs ((tuples_of tables leaf).tuples outer)) (sym (ap₂ (λ r xs. map (with_rows r outer) xs) rels_are source_is))
        (item_held catalog sound query prepared is tables inner number source at behind outer leaf m (each_in IsItemTree (items_of_block q) leaf (items_formed t) m) here.1.0.0.0 here.1.0.1.1 (item_clear outer t leaf (tree_clear q outer clear) m) found.0 found.2)

    -- ---- the plan

    abbrev plan_tree : Tree
    plan_tree = from.plan.tree

    abbrev run : FrameTree
    run = run_of problem setting (key_orders (run_in problem setting rows) problem) plan_tree

    is_plan : IsPlan problem plan_tree
    is_plan = subst (λ p. IsPlan p plan_tree) from.problem from.plan.plan

    is_run : IsRunOf (frame_of problem setting) plan_tree run
    is_run = own_run problem setting (key_orders (run_in problem setting rows) problem) (made_conditions problem can.made) (plain_without_classes items q) plan_tree

    around : around_block block outer ≡ outer
    around =
        let all = union (problem_rels block.problem) in
        fun_ext (λ rel. elim (decide_has all rel) [
          | inl p ↦ ap (λ b. if b then None else outer rel) (eq-eqb (bit_at all rel) 1 p) ∙ sym (own_none rel (union_own t rel (subst (λ rs. Has (union rs) rel) can.are p)))
          | inr n ↦ ap (λ b. if b then None else outer rel) (ne_eqb (bit_at all rel) 1 n)
        ])

    -- ---- what the block gives

    abbrev run_by : Env → Run
    run_by o = record { sources = sources_of prepared.blocks tables inner o items; environment = env_from 0 (problem_rels block.problem) (sources_of prepared.blocks tables inner o items) o; sublinks = rows }

    abbrev list_by : Env → List Env
    list_by o = map (run_by o).environment (tree_list (run_by o) block.problem (tree_at prepared.pool.nodes block.plan))

    abbrev tuples : List Env
    tuples = tuples_of_run problem setting run

    tuples_listed : tuples_of_block prepared.blocks prepared.pool.nodes tables inner outer block ≡ tuples
    tuples_listed =
        ap list_by around
        ∙ ap₂ (λ p x. map (env_of rels setting) (tree_list (run_in problem setting rows) p x)) from.problem (tree_named prepared.pool.nodes pool block.plan plan_tree from.plan.is)
        ∙ ap (map (env_of rels setting)) (block_listed q items setting rows plan_tree can.block can.are values is_plan.legal)

    lines_listed : map (listed_line prepared.blocks inner block) tuples ≡ lines_at tables q tuples
    lines_listed =
        ap₂ (λ us os. map (line_at (map (listed_output prepared.blocks inner) us) (map (listed_key prepared.blocks inner) os)) tuples) from.columns from.order
        ∙ map_alike (line_at (map (listed_output prepared.blocks inner) (out-Query q).columns) (map (listed_key prepared.blocks inner) (out-Query q).order)) (line_at (map (output_of tables) (out-Query q).columns) (map (key_of tables) (out-Query q).order))
        (env_of rels setting) (rows_of (frame_of problem setting) run) (λ m. line_same prepared.blocks inner tables (env_of rels setting m) q (λ e h. at_map e (in_append_right e (exprs_in (block_shape q)) (listed_exprs q) h) m))

    rows_listed : rows_of_lines block (map (listed_line prepared.blocks inner block) (tuples_of_block prepared.blocks prepared.pool.nodes tables inner outer block)) ≡ rows_from q (lines_at tables q tuples)
    rows_listed =
        ap (λ xs. rows_of_lines block (map (listed_line prepared.blocks inner block) xs)) tuples_listed
        ∙ ap (rows_of_lines block) lines_listed
        ∙ ap₂ (λ d os. map outputs_of (sorted (map direction_of os) (distinct_lines d (lines_at tables q tuples)))) from.distinct from.order

    tuples_is : (inner number outer).tuples ≡ tuples
    unfolding listed_block
    tuples_is = ap (λ (l : Listed). l.tuples) (unfolds number block outer stands) ∙ tuples_listed

    rows_is : (inner number outer).rows ≡ rows_from q (lines_at tables q tuples)
    unfolding listed_block
    rows_is = ap (λ (l : Listed). l.rows) (unfolds number block outer stands) ∙ rows_listed

    pub block_gives : Gives catalog sound query prepared is tables inner number source.query outer
    block_gives = record {
      rows = subst (IsPermutation (meaning tables q outer)) (sym rows_is) (orders_rows tables q items sources outer can.block can.are clear_own hold plan_tree run is_plan is_run);
      tuples = subst (λ xs. IsPermutation xs (passing_tuples tables q outer)) (sym tuples_is) (orders_meant tables q items sources outer can.block can.are clear_own hold plan_tree run is_plan is_run);
      in_order = subst (IsInOrder tables q outer) (sym rows_is) (orders_sorted tables q items sources outer can.block can.are clear_own hold plan_tree run is_plan is_run);
    }

  -- ---- every block, from the last

  good_from : (n number : ℕ) → length is.sources ≤ number + n → IsGood catalog sound query prepared is tables inner number
  good_from zero number long source env at clear = let low = slice_get_within is.sources number source at in absurd (omega (arith, long, low))
  good_from (suc n) number long source env at clear =
      let block = blocks.block_of catalog sound query prepared is number source at in
      block_gives number source at (λ place later. good_from n place (omega (arith, long, later))) block.0 block.1 env clear

  pub every_block_gives : (number : ℕ) → IsGood catalog sound query prepared is tables inner number
  every_block_gives number = good_from (length is.sources) number (omega arith)
