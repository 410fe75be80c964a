-- Rows, tuples and environments of a block fit where its outer references do.
use Rattle.std.proofs.Common.{◌≡◌, ◌∙◌, ap, sym, subst, refl, ℕ, zero, suc, ◌<◌, ◌⊎◌, inl, inr, List, [], ◌∷◌, ◌++◌, map, filter, length, Option, Some, None, eq-eqb}
use Rattle.std.specs.Prelude.{All, slice_get, slice_index_or, if◌then◌else◌}
use Rattle.std.specs.Int.{bit_at}
use Rattle.std.proofs.lemmas.Bool.{cases_eq, ne_eqb}
use Rattle.jp_base.specs.Sets.{Within}
use Rattle.jp_facts.proofs.Members.{In, from_in, in_append_left, in_append_right, in_map, in_flat_map}
use Rattle.jp_query.specs.declared.JoinKind.TheVariants as join
use Rattle.jp_query.specs.declared.Expr.{Expr}
use Rattle.jp_query.specs.declared.Output.{Output}
use Rattle.jp_query.specs.Fitting.{IsCellOfSome, IsCellAt, IsRowFor, IsRowOfTypes, IsLent, own_ins, FitsLent}
use Rattle.jp_query.specs.InOrder.{direction_of}
use Rattle.jp_query.specs.Meaning.{Row, Env, ValueIn, cell_in, no_outer_rows, value_at, holds, with_row, with_rows, without, pairs, pairs_or_alone, is_unmatched, left_join, join_tuples}
use Rattle.jp_query.specs.Ordering.{Line, outputs_of, distinct_lines, sorted}
use Rattle.jp_query.specs.Outermost.{Outer, outermost}
use Rattle.jp_query.specs.Parts.{ColumnRef}
use Rattle.jp_query.specs.Scopes.{Column, Scope, columns_of_table, visible_columns, visible_column}
use Rattle.jp_query.specs.Tables.{TableRows, IsRowOf, Belong, rows_of_tables}
use Rattle.jp_query.specs.Typing.{IsTypedExpr, typed_query}
use Rattle.jp_query.specs.Conditions.{IsBoundedExpr}
use Rattle.jp_eval.specs.Evaluation.{CanEvaluate}
use Rattle.jp_problem.specs.declared.types.Item.{Item}
use Rattle.jp_problem.specs.declared.types.ItemKind.{ItemKind}
use Rattle.jp_problem.specs.declared.types.ItemKind.TheVariants as kind
use Rattle.jp_problem.specs.Blocks.{output_expr, order_expr}
use Rattle.jp_problem.specs.Made.{exprs_of}
use Rattle.jp_problem.specs.Problems.{problem_rels}
use Rattle.jp_frame.specs.Maps.{Map, at}
use Rattle.jp_framed.specs.Environments.{source_at, row_at, env_from}
use Rattle.jp_framed.proofs.MapRows.{overlaid, left_alone}
use Rattle.jp_induction.proofs.EachPart.{Each, each_of, all_of_each, each_append, each_weaker, each_map, each_anyway}
use Rattle.jp_laws.proofs.FitLaws.{with_lent}
use Rattle.jp_laws.proofs.TuplesFit.{each_filter, each_flat, each_mapped_to}
use Rattle.jp_lists.specs.Lists.{Listed, Listing, sublink_rows, block_of_sublink, only_rows, rels_of_block, listed_value, kind_source, sources_of, listed_output, listed_line, rows_of_lines, around_block, run_of_block, tuples_of_block, listed_block, listing, list_of}
use Rattle.jp_lists.specs.Seen.{FitsOutside, IsInside, IsEvaluated}
use Rattle.jp_lists.specs.Steps.{Run, tree_list}
use Rattle.jp_lists.proofs.Arounds.{at_in, each_from, from_each, in_range, from_behind, own_rels, relation_own, item_within, gone, stays}
use Rattle.jp_lists.proofs.CellFacts.{cell_fits, typed_row, stored_rows, lines_fit, else_fits, each_at}
use Rattle.jp_lists.proofs.InParts.{as_in, ins_are_outermost, own_ins_have}
use Rattle.jp_lists.proofs.SeenLaws.{lists_nothing}
use Rattle.jp_lists.proofs.Sublinks.{sublink_place}
use Rattle.jp_lists.proofs.Unfolds.{block_unfolds}
use Rattle.jp_tree.specs.BlockParts.{exprs_in, output_ty, own_columns, columns_named, sublinks_of, in_sublinks_of, outermost_ins, item_blocks, blocks_of_kind, blocks_of_item, HasRelation, IsBlockAt, Uses, by_item, by_sublink, named, passed_on}
use Rattle.jp_tree.specs.Prepared.{IsWhole, IsTypedBlock, KnowsScope, HasItsType, output_column}
use Rattle.jp_tree.specs.declared.prepared.Block.{Block}
use Rattle.jp_tree.specs.declared.prepared.Prepared.{Prepared}
use Rattle.jp_tree.specs.PlanTrees.{tree_at}

-- ---- environments that rows were put into

module _ (scope : Scope) where
  -- each relation has no row, or one of its visible columns
  abbrev HasRows : Env → Type 0
  HasRows env = (rel : ℕ) → IsRowFor (visible_columns scope rel) (env rel)

  module _ (outer : Env) where
    pub put_inside : (rels : ℕ) (x u : Env) → IsInside scope outer x → IsInside scope outer u → IsInside scope outer (with_rows rels x u)
    put_inside rels x u f g rel = elim (cases_eq (bit_at rels rel) 1) [
      | inl p ↦ subst (λ (o : Option Row). IsRowFor (visible_columns scope rel) o ⊎ (o ≡ outer rel)) (sym (overlaid rels x u rel p)) (g rel)
      | inr n ↦ subst (λ (o : Option Row). IsRowFor (visible_columns scope rel) o ⊎ (o ≡ outer rel)) (sym (left_alone rels x u rel n)) (f rel)
    ]

    left_inside : (rels : ℕ) (x : Env) → IsInside scope outer x → IsInside scope outer (without rels x)
    left_inside rels x f rel = elim (cases_eq (bit_at rels rel) 1) [
      | inl p ↦ inl (subst (IsRowFor (visible_columns scope rel)) (sym (gone rels x rel p)) tt)
      | inr n ↦ subst (λ (o : Option Row). IsRowFor (visible_columns scope rel) o ⊎ (o ≡ outer rel)) (sym (stays rels x rel n)) (f rel)
    ]

    -- the tuples of a Full join of two sides
    module _ (on : List ValueIn) (l r : ℕ) (rights : List Env) (h : Each (IsInside scope outer) rights) where
      pairs_inside : (x : Env) → IsInside scope outer x → Each (IsInside scope outer) (pairs on r rights x)
      pairs_inside x f = each_filter (IsInside scope outer) (holds on) (map (with_rows r x) rights) (each_mapped_to (IsInside scope outer) (IsInside scope outer) (with_rows r x) (λ u g. put_inside r x u f g) rights h)

      full_inside : (lefts : List Env) → Each (IsInside scope outer) lefts → Each (IsInside scope outer) (join_tuples join.Full on l lefts r rights)
      full_inside lefts f = each_append (IsInside scope outer) (left_join on r lefts rights) (map (without l) (filter (is_unmatched on r lefts) rights))
          (each_flat (IsInside scope outer) (IsInside scope outer) (pairs_or_alone on r rights) (λ x p. else_fits (IsInside scope outer) (pairs on r rights x) (without r x) (left_inside r x p) (pairs_inside x p)) lefts f)
          (each_mapped_to (IsInside scope outer) (IsInside scope outer) (without l) (λ u g. left_inside l u g) (filter (is_unmatched on r lefts) rights) (each_filter (IsInside scope outer) (is_unmatched on r lefts) rights h))

    -- maps of rows that fit
    module _ (sources : List (List Env)) (fit : Each (Each HasRows) sources) (m : Map) where
      source_fits : (more : List (List Env)) → Each (Each HasRows) more → (i : ℕ) → Each HasRows (source_at more i)
      source_fits [] h i = tt
      source_fits (s ∷ more) h zero = h.0
      source_fits (s ∷ more) h (suc i) = source_fits more h.1 i

      some_row : (rows : List Env) → Each HasRows rows → (k : ℕ) → HasRows (slice_index_or rows k no_outer_rows)
      some_row [] h k rel = tt
      some_row (x ∷ rows) h zero rel = h.0 rel
      some_row (x ∷ rows) h (suc k) rel = some_row rows h.1 k rel

      row_fits : (rows : List Env) → Each HasRows rows → (place : Option ℕ) → HasRows (row_at rows place)
      row_fits rows h (Some k) rel = some_row rows h k rel
      row_fits rows h None rel = tt

      pub map_inside : (first : ℕ) (rels : List ℕ) → IsInside scope outer (env_from first rels sources outer m)
      map_inside first [] rel = inr refl
      map_inside first (r ∷ rels) rel = put_inside r (env_from (suc first) rels sources outer m) (row_at (source_at sources first) (at m first)) (map_inside (suc first) rels) (λ n. inl (row_fits (source_at sources first) (source_fits sources fit first) (at m first) n)) rel

module _ (prepared : Prepared) (whole : IsWhole prepared) where
  abbrev scope : Scope
  scope = whole.scope

  abbrev Fits : ℕ → Env → Type 0
  Fits = FitsOutside prepared scope

  -- what a block gives in an environment fits
  pub record Fitting (tables : TableRows) (number : ℕ) (block : Block) (env : Env) : Type 0 where
    pub rows : Each (IsRowOf (map (output_column whole.schema scope) block.columns)) (listing prepared (rows_of_tables tables) number env).rows
    pub tuples : Each (IsInside scope env) (listing prepared (rows_of_tables tables) number env).tuples

  module _ (number : ℕ) (block : Block) (there : IsBlockAt prepared number block) (env : Env) (fits : Fits number env) where
    abbrev around : Env
    around = around_block block env

    -- ---- what is seen around the block and inside it

    around_fits : (c : ColumnRef) → (¬ HasRelation block c.relation → IsCellAt scope env c) → IsCellAt scope around c
    around_fits c h = elim (cases_eq (bit_at (own_rels block) c.relation) 1) [
      | inl p ↦ cell_fits scope around c (subst (IsRowFor (visible_columns scope c.relation)) (sym (gone (own_rels block) env c.relation p)) tt)
      | inr n ↦ subst (λ (o : Option Row). IsCellOfSome (visible_column scope c.relation c.column) (cell_in o c.column)) (sym (stays (own_rels block) env c.relation n)) (h (λ r. n (relation_own block c.relation r)))
    ]

    inside_fits : (x : Env) → IsInside scope around x → (c : ColumnRef) → (¬ HasRelation block c.relation → IsCellAt scope env c) → IsCellAt scope x c
    inside_fits x f c h = elim (f c.relation) [
      | inl row ↦ cell_fits scope x c row
      | inr same ↦ subst (λ (o : Option Row). IsCellOfSome (visible_column scope c.relation c.column) (cell_in o c.column)) (sym same) (around_fits c h)
    ]

    pub used_fits : (inner : ℕ) (x : Env) → IsInside scope around x → Uses prepared block inner → Fits inner x
    used_fits inner x f uses c r = inside_fits x f c (λ out. fits c (passed_on block inner there uses r out))

    pub item_fits : (inner : ℕ) → In inner (item_blocks block) → Fits inner around
    item_fits inner h = used_fits inner around (λ rel. inr refl) (by_item (from_in inner (item_blocks block) h))

    module _ (tables : TableRows) (belong : Belong whole.schema tables) where
      abbrev lists : Listing
      lists = listing prepared (rows_of_tables tables)

      module _ (behind : (n : ℕ) → number < n → n < length prepared.blocks → (x : Env) → Fits n x → (at : Block) → IsBlockAt prepared n at → Fitting tables n at x) where
        -- ---- expressions

        column_types : (us : List Output) → map (λ (c : Column). c.type) (map (output_column whole.schema scope) us) ≡ map output_ty us
        column_types [] = refl
        column_types (u ∷ us) = ap (λ ts. output_ty u ∷ ts) (column_types us)

        in_lent : (x : Env) → IsInside scope around x → (o : Outer) → In o (in_sublinks_of block) → In o (sublinks_of block) → IsLent (sublink_rows prepared.blocks lists x) (as_in o)
        in_lent x f o h k =
            let used = from_in o (sublinks_of block) k in
            let one = whole.sublinks number block o there used in
            let at = one.is.block in
            let uses : Uses prepared block one.place = by_sublink o used one.is in
            let fitting = behind one.place one.behind (in_range prepared.blocks one.place at one.is.there) x (used_fits one.place x f uses) at one.is.there in
            let gives = whole.ins number one.place block at o there (from_in o (in_sublinks_of block) h) one.is.there one.is.named in
            let columns = map (output_column whole.schema scope) at.columns in
            let same : map (λ (c : Column). c.type) columns ≡ (typed_query o.query).outputs = column_types at.columns ∙ gives.1 ∙ sym gives.2 in
            let rows = each_weaker (IsRowOf columns) (IsRowOfTypes (map (λ (c : Column). c.type) columns)) (typed_row columns) (lists one.place x).rows fitting.rows in
            all_of_each (IsRowOfTypes (typed_query o.query).outputs) (lists (block_of_sublink prepared.blocks o.number) x).rows
            (subst (λ n. Each (IsRowOfTypes (typed_query o.query).outputs) (lists n x).rows) (sym (sublink_place prepared number o.number one))
            (subst (λ ts. Each (IsRowOfTypes ts) (lists one.place x).rows) same rows))

        pub expr_fits : (x : Env) → IsInside scope around x → (e : Expr) → In e (exprs_in block) → FitsLent scope (sublink_rows prepared.blocks lists x) e x
        expr_fits x f e h = record {
          cells = all_of_each (IsCellAt scope x) (own_columns e) (each_from (IsCellAt scope x) (own_columns e) (λ c r. inside_fits x f c (λ out. fits c (named block there (from_in c (columns_named block) (in_flat_map own_columns e c (exprs_in block) h r)) out))));
          lent = all_of_each (IsLent (sublink_rows prepared.blocks lists x)) (own_ins e) (own_ins_have (IsLent (sublink_rows prepared.blocks lists x)) e
              (each_from (λ o. IsLent (sublink_rows prepared.blocks lists x) (as_in o)) (outermost_ins e) (λ o r. in_lent x f o (in_flat_map outermost_ins e o (exprs_in block) h r)
              (in_flat_map outermost e o (exprs_in block) h (from_each (λ o. In o (outermost e)) o (outermost_ins e) (ins_are_outermost e) r)))));
        }

        pub of_block : IsTypedBlock whole.schema scope block
        of_block = each_at (IsTypedBlock whole.schema scope) prepared.blocks number block there (each_of (IsTypedBlock whole.schema scope) prepared.blocks whole.typed)

        module _ {X : Type 0} where
          all_in_list : (P : X → Type 0) (x : X) (xs : List X) → All P xs → In x xs → P x
          all_in_list P x xs h r = from_each P x xs (each_of P xs h) r

        evaluated : (x : Env) → IsInside scope around x → (e : Expr) → In e (exprs_in block) → CanEvaluate (sublink_rows prepared.blocks lists x) e x
        evaluated x f e h = record {
          schema = whole.schema;
          scope = scope;
          typed = all_in_list IsTypedExpr e (exprs_in block) of_block.typed h;
          columns = all_in_list (KnowsScope whole.schema scope) e (exprs_in block) of_block.known h;
          bounded = all_in_list (IsBoundedExpr whole.schema scope) e (exprs_in block) of_block.bounded h;
          fits = expr_fits x f e h;
        }

        pub all_evaluated : (x : Env) → IsInside scope around x → All (IsEvaluated (sublink_rows prepared.blocks lists x) x) (exprs_in block)
        all_evaluated x f = all_of_each (IsEvaluated (sublink_rows prepared.blocks lists x) x) (exprs_in block) (each_from (IsEvaluated (sublink_rows prepared.blocks lists x) x) (exprs_in block) (evaluated x f))

        -- ---- the rows of items

        seen_rows : (rels : ℕ) (x : Env) → Within rels (own_rels block) → IsInside scope around x → HasRows scope (only_rows rels x)
        seen_rows rels x within f rel = elim (cases_eq (bit_at rels rel) 1) [
          | inl p ↦ subst (IsRowFor (visible_columns scope rel)) (sym (overlaid rels no_outer_rows x rel p)) (elim (f rel) [
            | inl row ↦ row
            | inr same ↦ subst (IsRowFor (visible_columns scope rel)) (sym (same ∙ gone (own_rels block) env rel (within rel p))) tt
          ])
          | inr n ↦ subst (IsRowFor (visible_columns scope rel)) (sym (left_alone rels no_outer_rows x rel n)) tt
        ]

        one_row : (rel : ℕ) (row : Row) → IsRowOf (visible_columns scope rel) row → IsInside scope around (with_row no_outer_rows rel row)
        one_row rel row h n = elim (cases_eq n rel) [
          | inl e ↦ inl (subst (IsRowFor (visible_columns scope n)) (sym (ap (λ b. if b then Some row else None) (eq-eqb n rel e))) (subst (λ k. IsRowOf (visible_columns scope k) row) (sym e) h))
          | inr d ↦ inl (subst (IsRowFor (visible_columns scope n)) (sym (ap (λ b. if b then Some row else None) (ne_eqb n rel d))) tt)
        ]

        kind_fits : (item : Item) → In item block.problem.items → (k : ItemKind) → item.kind ≡ k → Each (IsInside scope around) (kind_source prepared.blocks (rows_of_tables tables) lists around k)
        kind_fits item held (kind.Base rel table) e =
            each_mapped_to (IsRowOf (columns_of_table (slice_get whole.schema table))) (IsInside scope around) (with_row no_outer_rows rel)
            (λ row h. one_row rel row (subst (λ cs. IsRowOf cs row) (sym (whole.shows.tables block item rel table (from_in block prepared.blocks (at_in prepared.blocks number block there)) (from_in item block.problem.items held) e)) h))
            (rows_of_tables tables table) (stored_rows whole.schema tables table belong)
        kind_fits item held (kind.Sub rel n) e = sub_fits (slice_get prepared.blocks n) refl
          where
            used : In n (item_blocks block)
            used = in_flat_map blocks_of_item item n block.problem.items held (subst (λ k. In n (blocks_of_kind k)) (sym e) (inl refl))

            sub_fits : (o : Option Block) → slice_get prepared.blocks n ≡ o → Each (IsInside scope around) (map (with_row no_outer_rows rel) (lists n around).rows)
            sub_fits None none = subst (λ (l : Env → Listed). Each (IsInside scope around) (map (with_row no_outer_rows rel) (l around).rows)) (sym (lists_nothing prepared (rows_of_tables tables) n none)) tt
            sub_fits (Some at) some =
                let place = whole.behind number n block there (from_in n (item_blocks block) used) in
                each_mapped_to (IsRowOf (map (output_column whole.schema scope) at.columns)) (IsInside scope around) (with_row no_outer_rows rel)
                (λ row h. one_row rel row (subst (λ cs. IsRowOf cs row) (sym (whole.shows.selects block item rel n at (from_in block prepared.blocks (at_in prepared.blocks number block there)) (from_in item block.problem.items held) e some)) h))
                (lists n around).rows (behind n place.0 place.1 around (item_fits n used) at some).rows
        kind_fits item held (kind.Full l r on) e =
            full_inside scope around (map (listed_value prepared.blocks lists) on) (rels_of_block prepared.blocks l) (rels_of_block prepared.blocks r) (lists r around).tuples (side r (inr (inl refl)) (slice_get prepared.blocks r) refl) (lists l around).tuples (side l (inl refl) (slice_get prepared.blocks l) refl)
          where
            side : (n : ℕ) → In n (blocks_of_kind (kind.Full l r on)) → (o : Option Block) → slice_get prepared.blocks n ≡ o → Each (IsInside scope around) (lists n around).tuples
            side n h None none = subst (λ (l : Env → Listed). Each (IsInside scope around) (l around).tuples) (sym (lists_nothing prepared (rows_of_tables tables) n none)) tt
            side n h (Some at) some =
                let used = in_flat_map blocks_of_item item n block.problem.items held (subst (λ k. In n (blocks_of_kind k)) (sym e) h) in
                let place = whole.behind number n block there (from_in n (item_blocks block) used) in
                (behind n place.0 place.1 around (item_fits n used) at some).tuples

        sources_fit : (items : List Item) → ((item : Item) → In item items → In item block.problem.items) → Each (Each (HasRows scope)) (sources_of prepared.blocks (rows_of_tables tables) lists around items)
        sources_fit [] w = tt
        sources_fit (item ∷ items) w = (
          each_mapped_to (IsInside scope around) (HasRows scope) (only_rows item.rels) (λ x f. seen_rows item.rels x (item_within block item (w item (inl refl))) f) (kind_source prepared.blocks (rows_of_tables tables) lists around item.kind) (kind_fits item (w item (inl refl)) item.kind refl),
          sources_fit items (λ i h. w i (inr h)),
        )

        -- ---- the block

        abbrev run : Run
        run = run_of_block prepared.blocks (rows_of_tables tables) lists env block

        pub maps_inside : (m : Map) → IsInside scope around (run.environment m)
        maps_inside m = map_inside scope around run.sources (sources_fit block.problem.items (λ item h. h)) m 0 (problem_rels block.problem)

        abbrev tuples : List Env
        tuples = tuples_of_block prepared.blocks prepared.pool.nodes (rows_of_tables tables) lists env block

        around_tuples : Each (IsInside scope around) tuples
        around_tuples = each_map (IsInside scope around) run.environment (tree_list run block.problem (tree_at prepared.pool.nodes block.plan)) (each_anyway (λ m. IsInside scope around (run.environment m)) maps_inside (tree_list run block.problem (tree_at prepared.pool.nodes block.plan)))

        outside : (x : Env) → IsInside scope around x → IsInside scope env x
        outside x f rel = elim (f rel) [
          | inl row ↦ inl row
          | inr same ↦ elim (cases_eq (bit_at (own_rels block) rel) 1) [
            | inl p ↦ inl (subst (IsRowFor (visible_columns scope rel)) (sym (same ∙ gone (own_rels block) env rel p)) tt)
            | inr n ↦ inr (same ∙ stays (own_rels block) env rel n)
          ]
        ]

        outputs_fit : (x : Env) → IsInside scope around x → (us : List Output) → ((u : Output) → In u us → In u block.columns) → IsRowOf (map (output_column whole.schema scope) us) (map (value_at x) (map (listed_output prepared.blocks lists) us))
        outputs_fit x f [] w = tt
        outputs_fit x f (u ∷ us) w = (
          with_lent whole.schema scope (sublink_rows prepared.blocks lists x) (output_expr u) x (output_ty u) (all_in_list HasItsType u block.columns of_block.outputs here) (all_in_list (KnowsScope whole.schema scope) (output_expr u) (exprs_in block) of_block.known listed) (expr_fits x f (output_expr u) listed),
          outputs_fit x f us (λ v h. w v (inr h)),
        )
          where
            here : In u block.columns
            here = w u (inl refl)

            listed : In (output_expr u) (exprs_in block)
            listed = in_append_right (output_expr u) (exprs_of block.problem) (map output_expr block.columns ++ map order_expr block.order) (in_append_left (output_expr u) (map output_expr block.columns) (map order_expr block.order) (in_map output_expr u block.columns here))

        IsLine : Line → Type 0
        IsLine line = IsRowOf (map (output_column whole.schema scope) block.columns) line.outputs

        all_lines : Each IsLine (map (listed_line prepared.blocks lists block) tuples)
        unfolding IsLine
        all_lines = each_mapped_to (IsInside scope around) IsLine (listed_line prepared.blocks lists block) (λ x f. outputs_fit x f block.columns (λ u h. h)) tuples around_tuples

        all_rows : Each (IsRowOf (map (output_column whole.schema scope) block.columns)) (rows_of_lines block (map (listed_line prepared.blocks lists block) tuples))
        unfolding IsLine
        all_rows = each_map (IsRowOf (map (output_column whole.schema scope) block.columns)) outputs_of (sorted (map direction_of block.order) (distinct_lines block.distinct (map (listed_line prepared.blocks lists block) tuples)))
            (lines_fit IsLine (map direction_of block.order) block.distinct (map (listed_line prepared.blocks lists block) tuples) all_lines)

        listed_rows : Each (IsRowOf (map (output_column whole.schema scope) block.columns)) (listed_block prepared.blocks prepared.pool.nodes (rows_of_tables tables) lists block env).rows
        unfolding listed_block
        listed_rows = all_rows

        listed_tuples : Each (IsInside scope env) (listed_block prepared.blocks prepared.pool.nodes (rows_of_tables tables) lists block env).tuples
        unfolding listed_block
        listed_tuples = each_weaker (IsInside scope around) (IsInside scope env) outside tuples around_tuples

        pub fitting_here : Fitting tables number block env
        fitting_here = record {
          rows = subst (λ (l : Listed). Each (IsRowOf (map (output_column whole.schema scope) block.columns)) l.rows) (sym (block_unfolds prepared (rows_of_tables tables) number block env whole there)) listed_rows;
          tuples = subst (λ (l : Listed). Each (IsInside scope env) l.tuples) (sym (block_unfolds prepared (rows_of_tables tables) number block env whole there)) listed_tuples;
        }

  module _ (tables : TableRows) (belong : Belong whole.schema tables) where
    abbrev Good : ℕ → Type 0
    Good number = (env : Env) → Fits number env → (block : Block) → IsBlockAt prepared number block → Fitting tables number block env

    pub fitting : (number : ℕ) → Good number
    fitting = from_behind Good (length prepared.blocks) (λ number behind env fits block there. fitting_here number block there env fits tables belong (λ n low less x f at is. behind n low less x f at is))

-- ---- the laws

pub rows_fit : (prepared : Prepared) (whole : IsWhole prepared) (tables : TableRows) (number : ℕ) (block : Block) (env : Env) → Belong whole.schema tables → IsBlockAt prepared number block → FitsOutside prepared whole.scope number env
    → All (IsRowOf (map (output_column whole.schema whole.scope) block.columns)) (list_of prepared (rows_of_tables tables) number env)
rows_fit prepared whole tables number block env belong there fits = all_of_each (IsRowOf (map (output_column whole.schema whole.scope) block.columns)) (list_of prepared (rows_of_tables tables) number env) (fitting prepared whole tables belong number env fits block there).rows

pub tuples_inside : (prepared : Prepared) (whole : IsWhole prepared) (tables : TableRows) (number : ℕ) (block : Block) (env : Env) → Belong whole.schema tables → IsBlockAt prepared number block → FitsOutside prepared whole.scope number env
    → All (IsInside whole.scope env) (listing prepared (rows_of_tables tables) number env).tuples
tuples_inside prepared whole tables number block env belong there fits = all_of_each (IsInside whole.scope env) (listing prepared (rows_of_tables tables) number env).tuples (fitting prepared whole tables belong number env fits block there).tuples

module _ (prepared : Prepared) (whole : IsWhole prepared) (tables : TableRows) (number : ℕ) (block : Block) (env : Env) (belong : Belong whole.schema tables) (there : IsBlockAt prepared number block) (fits : FitsOutside prepared whole.scope number env) where
  pub behind_fits : (n : ℕ) → number < n → n < length prepared.blocks → (x : Env) → FitsOutside prepared whole.scope n x → (at : Block) → IsBlockAt prepared n at → Fitting prepared whole tables n at x
  behind_fits n low less x f at is = fitting prepared whole tables belong n x f at is

  pub map_is_inside : (m : Map) → IsInside whole.scope (around_block block env) ((run_of_block prepared.blocks (rows_of_tables tables) (listing prepared (rows_of_tables tables)) env block).environment m)
  map_is_inside = maps_inside prepared whole number block there env fits tables belong behind_fits

  pub each_evaluated : (x : Env) → IsInside whole.scope (around_block block env) x → All (IsEvaluated (sublink_rows prepared.blocks (listing prepared (rows_of_tables tables)) x) x) (exprs_in block)
  each_evaluated = all_evaluated prepared whole number block there env fits tables belong behind_fits
