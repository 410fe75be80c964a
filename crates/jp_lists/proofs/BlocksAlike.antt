-- A block lists the same in two environments, and by two listings of the blocks behind it, where what it uses of them is the
-- same.
use Rattle.std.proofs.Common.{◌≡◌, ap, sym, subst, refl, inl, inr, ℕ, List, [], ◌∷◌, ◌++◌, map}
use Rattle.std.specs.List.{flat_map}
use Rattle.std.specs.Prelude.{bit_or}
use Rattle.jp_base.specs.Sets.{Within}
use Rattle.jp_facts.proofs.Members.{In, in_append_left, in_append_right, in_map, in_flat_map}
use Rattle.jp_query.specs.declared.CmpOp.TheVariants as cmp
use Rattle.jp_query.specs.declared.JoinKind.TheVariants as join
use Rattle.jp_query.specs.declared.Expr.{Expr, out-Expr}
use Rattle.jp_query.specs.declared.Expr.TheVariants as expr
use Rattle.jp_query.specs.declared.Expr.TheOpen.{Expr-F}
use Rattle.jp_query.specs.Parts.{ColumnRef}
use Rattle.jp_query.specs.declared.Expr.TheViews.{roll-Expr, roll-out-Expr}
use Rattle.jp_query.specs.declared.Expr.TheFolds.{fold-roll-Expr, para-roll-Expr}
use Rattle.jp_query.specs.declared.Order.{Order}
use Rattle.jp_query.specs.declared.Output.{Output}
use Rattle.jp_query.specs.Layers.{ExprLayer}
use Rattle.jp_query.specs.Meaning.{Row, Env, no_outer_rows, with_row, holds, value_at, key_at}
use Rattle.jp_query.specs.Outermost.{Outers, expr_outers, outermost}
use Rattle.jp_query.specs.Refs.{union}
use Rattle.jp_problem.specs.declared.types.Item.{Item}
use Rattle.jp_problem.specs.declared.types.ItemKind.{ItemKind}
use Rattle.jp_problem.specs.declared.types.ItemKind.TheVariants as kind
use Rattle.jp_problem.specs.Blocks.{output_expr, order_expr}
use Rattle.jp_problem.specs.Equalities.{sides_at, sides_of, equals}
use Rattle.jp_problem.specs.Made.{exprs_of, on_of_item, item_exprs, join_exprs, class_exprs}
use Rattle.jp_problem.specs.Problems.{rels_of_item, problem_rels}
use Rattle.jp_problem.specs.StepClauses.{expr_of}
use Rattle.jp_problem.proofs.UnionLaws.{has_union}
use Rattle.jp_frame.specs.Maps.{Map}
use Rattle.jp_framed.specs.Environments.{env_from}
use Rattle.jp_induction.specs.Alike.{Alike, none, more}
use Rattle.jp_induction.proofs.Alike.{alike_same}
use Rattle.jp_induction.proofs.Between.{Kept, holds_same, join_alike}
use Rattle.jp_induction.proofs.EachPart.{Each, each_append, each_weaker}
use Rattle.jp_laws.specs.SameCells.{IsSameCell, IsSamePresence}
use Rattle.jp_lists.specs.Lists.{Listing, sublink_rows, listed_value, only_rows, rels_of_block, kind_source, item_source, sources_of, listed_output, listed_key, listed_line, rows_of_lines, around_block, run_of_block, tuples_of_block, listed_block}
use Rattle.jp_lists.specs.Seen.{HasSameRows}
use Rattle.jp_lists.specs.Steps.{Run, tree_list}
use Rattle.jp_lists.proofs.GivenCells.{Sees, parts_see, value_by_sight}
use Rattle.jp_lists.proofs.StageLaws.{IsPair}
use Rattle.jp_lists.proofs.TreesAlike.{IsSameAt, trees_same}
use Rattle.jp_tree.specs.BlockParts.{exprs_in, own_columns, column_level, own_placeholders, placeholder_level, blocks_of_kind, blocks_of_item, item_blocks}
use Rattle.jp_tree.specs.declared.pool.PlanNode.{PlanNode}
use Rattle.jp_tree.specs.declared.prepared.Block.{Block}
use Rattle.jp_tree.specs.PlanTrees.{tree_at}

-- ---- equalities

module _ {X : Type 0} (P : X → Type 0) where
  two : (xs ys : List X) → Each P xs → Each P ys → Each P (xs ++ (ys ++ []))
  two xs ys p q = each_append P xs (ys ++ []) p (each_append P ys [] q tt)

module _ (rows others : ℕ → List Row) (env other : Env) where
  -- an equality looks at what its sides look at
  equality_sees : (a b : Expr) → Sees rows others env other a → Sees rows others env other b → Sees rows others env other (equals a b)
  equality_sees a b s t = subst (Sees rows others env other) (expr.rolls-Compare cmp.Eq a b) (record {
    cells = subst (Each (IsSameCell env other)) (sym (fold-roll-Expr (List ColumnRef) (Unit {0}) (Unit {0}) (Unit {0}) (Unit {0}) column_level (λ t. tt) (λ o. tt) (λ u. tt) (λ q. tt) (Expr-F.Compare cmp.Eq a b))) (two (IsSameCell env other) (own_columns a) (own_columns b) s.cells t.cells);
    presence = subst (Each (IsSamePresence env other)) (sym (fold-roll-Expr (List ℕ) (Unit {0}) (Unit {0}) (Unit {0}) (Unit {0}) placeholder_level (λ t. tt) (λ o. tt) (λ u. tt) (λ q. tt) (Expr-F.Compare cmp.Eq a b))) (two (IsSamePresence env other) (own_placeholders a) (own_placeholders b) s.presence t.presence);
    lists = subst (Each (HasSameRows rows others)) (sym (para-roll-Expr Outers Outers Outers Outers Outers expr_outers (λ t. []) (λ o. []) (λ u. []) (λ q. []) (Expr-F.Compare cmp.Eq a b))) (two (HasSameRows rows others) (outermost a) (outermost b) s.lists t.lists);
  })

-- what a relation of environments, by the relations of tuples, has to give
module _ (blocks : List Block) (tables : ℕ → List Row) (inner inner' : Listing) (outer outer' : Env) (block : Block) (N : ℕ → Env → Env → Type 0) where
  abbrev around : Env
  around = around_block block outer

  abbrev around' : Env
  around' = around_block block outer'

  abbrev own : ℕ
  own = union (problem_rels block.problem)

  pub record Alikeness : Type 0 where
    pub kept : Kept N
    pub seen : (rels n : ℕ) (x y : Env) → Within rels own → N n x y → only_rows rels x ≡ only_rows rels y
    pub maps : (sources : List (List Env)) (m : Map) → N own (env_from 0 (problem_rels block.problem) sources around m) (env_from 0 (problem_rels block.problem) sources around' m)
    pub rows : (n : ℕ) → In n (item_blocks block) → (inner n around).rows ≡ (inner' n around').rows
    pub tuples : (n : ℕ) → In n (item_blocks block) → Alike (N (rels_of_block blocks n)) (inner n around).tuples (inner' n around').tuples
    pub sight : (n : ℕ) (x y : Env) → N n x y → (e : Expr) → In e (exprs_in block) → Sees (sublink_rows blocks inner x) (sublink_rows blocks inner' y) x y e

  module _ (alike : Alikeness) where
    abbrev Ok : Expr → Type 0
    Ok e = (n : ℕ) (x y : Env) → N n x y → Sees (sublink_rows blocks inner x) (sublink_rows blocks inner' y) x y e

    sides_ok : (x : ExprLayer) → Ok (roll-Expr x) → IsPair Ok (sides_at x)
    sides_ok (Expr-F.Compare cmp.Eq a b) h = (
      λ n x y t. (parts_see (sublink_rows blocks inner x) (sublink_rows blocks inner' y) x y (Expr-F.Compare cmp.Eq a b) (h n x y t)).0,
      λ n x y t. (parts_see (sublink_rows blocks inner x) (sublink_rows blocks inner' y) x y (Expr-F.Compare cmp.Eq a b) (h n x y t)).1.0,
    )
    sides_ok x h = tt

    up : (a b : Expr) → Ok a → Ok b → Ok (equals a b)
    up a b p q n x y t = equality_sees (sublink_rows blocks inner x) (sublink_rows blocks inner' y) x y a b (p n x y t) (q n x y t)

    down : (e : Expr) → Ok e → IsPair Ok (sides_of e)
    down e h = sides_ok (out-Expr e) (subst Ok (sym (roll-out-Expr e)) h)

    each_ok : (es : List Expr) → ((e : Expr) → In e es → In e (exprs_in block)) → Each Ok es
    each_ok [] w = tt
    each_ok (e ∷ es) w = (λ n x y t. alike.sight n x y t e (w e (inl refl)), each_ok es (λ f h. w f (inr h)))

    abbrev listed_of : List Expr
    listed_of = map output_expr block.columns ++ map order_expr block.order

    problem_ok : Each Ok (exprs_of block.problem)
    problem_ok = each_ok (exprs_of block.problem) (λ e h. in_append_left e (exprs_of block.problem) listed_of h)

    outputs_ok : Each Ok (map output_expr block.columns)
    outputs_ok = each_ok (map output_expr block.columns) (λ e h. in_append_right e (exprs_of block.problem) listed_of (in_append_left e (map output_expr block.columns) (map order_expr block.order) h))

    order_ok : Each Ok (map order_expr block.order)
    order_ok = each_ok (map order_expr block.order) (λ e h. in_append_right e (exprs_of block.problem) listed_of (in_append_right e (map output_expr block.columns) (map order_expr block.order) h))

    item_ok : (item : Item) → In item block.problem.items → Each Ok (item_exprs item)
    item_ok item there = each_ok (item_exprs item) (λ e h. in_append_left e (exprs_of block.problem) listed_of
        (in_append_left e ((flat_map item_exprs block.problem.items ++ flat_map join_exprs block.problem.joins) ++ map expr_of block.problem.clauses) (flat_map class_exprs block.problem.classes)
        (in_append_left e (flat_map item_exprs block.problem.items ++ flat_map join_exprs block.problem.joins) (map expr_of block.problem.clauses)
        (in_append_left e (flat_map item_exprs block.problem.items) (flat_map join_exprs block.problem.joins) (in_flat_map item_exprs item e block.problem.items there h)))))

    same_at : (e : Expr) → Ok e → (n : ℕ) (x y : Env) → N n x y → listed_value blocks inner e x ≡ listed_value blocks inner' e y
    same_at e ok n x y t = value_by_sight (sublink_rows blocks inner x) (sublink_rows blocks inner' y) x y e (ok n x y t)

    -- ---- the rows of items

    on_same : (on : List Expr) → Each Ok on → (n : ℕ) (x y : Env) → N n x y → holds (map (listed_value blocks inner) on) x ≡ holds (map (listed_value blocks inner') on) y
    on_same on ok n x y t = holds_same (listed_value blocks inner) (listed_value blocks inner') x y on
        (each_weaker Ok (λ e. listed_value blocks inner e x ≡ listed_value blocks inner' e y) (λ e p. same_at e p n x y t) on ok)

    kind_same : (k : ItemKind) (rels : ℕ) → ((n : ℕ) → In n (blocks_of_kind k) → In n (item_blocks block)) → Each Ok (on_of_item k) → Within rels own
        → map (only_rows rels) (kind_source blocks tables inner around k) ≡ map (only_rows rels) (kind_source blocks tables inner' around' k)
    kind_same (kind.Base rel table) rels there ok within = refl
    kind_same (kind.Sub rel n) rels there ok within = λ i. map (only_rows rels) (map (with_row no_outer_rows rel) (alike.rows n (there n (inl refl)) i))
    kind_same (kind.Full l r on) rels there ok within =
        let left = rels_of_block blocks l in
        let right = rels_of_block blocks r in
        alike_same {R = N (bit_or left right)} (only_rows rels) (only_rows rels) (λ x y t. alike.seen rels (bit_or left right) x y within t)
        (join_alike N alike.kept (map (listed_value blocks inner) on) (map (listed_value blocks inner') on) (on_same on ok) join.Full left right (inner l around).tuples (inner' l around').tuples (inner r around).tuples (inner' r around').tuples
        (alike.tuples l (there l (inl refl))) (alike.tuples r (there r (inr (inl refl)))))

    item_same : (item : Item) → In item block.problem.items → item_source blocks tables inner around item ≡ item_source blocks tables inner' around' item
    item_same item there = kind_same item.kind item.rels (λ n h. in_flat_map blocks_of_item item n block.problem.items there h) (item_ok item there) within
      where
        within : Within item.rels own
        within i h = (has_union (problem_rels block.problem) i).1 (item.rels, in_map rels_of_item item block.problem.items there, h)

    sources_same : (items : List Item) → ((item : Item) → In item items → In item block.problem.items) → sources_of blocks tables inner around items ≡ sources_of blocks tables inner' around' items
    sources_same [] w = refl
    sources_same (item ∷ items) w = λ i. item_same item (w item (inl refl)) i ∷ sources_same items (λ x h. w x (inr h)) i

    -- ---- the tuples and the rows of the block

    abbrev run : Run
    run = run_of_block blocks tables inner outer block

    abbrev run' : Run
    run' = run_of_block blocks tables inner' outer' block

    sources : run.sources ≡ run'.sources
    sources = sources_same block.problem.items (λ item h. h)

    maps_alike : (m : Map) → N own (run.environment m) (run'.environment m)
    maps_alike m = subst (λ (s : List (List Env)). N own (env_from 0 (problem_rels block.problem) run.sources around m) (env_from 0 (problem_rels block.problem) s around' m)) sources (alike.maps run.sources m)

    alike_maps : (ms : List Map) → Alike (N own) (map run.environment ms) (map run'.environment ms)
    alike_maps [] = none
    alike_maps (m ∷ ms) = more (maps_alike m) (alike_maps ms)

    same_in_runs : (e : Expr) → Ok e → IsSameAt run run' e
    same_in_runs e ok m = same_at e ok own (run.environment m) (run'.environment m) (maps_alike m)

    module _ (nodes : List PlanNode) where
      pub tuples_alike : Alike (N own) (tuples_of_block blocks nodes tables inner outer block) (tuples_of_block blocks nodes tables inner' outer' block)
      tuples_alike = subst (λ ms. Alike (N own) (map run.environment (tree_list run block.problem (tree_at nodes block.plan))) (map run'.environment ms))
          (trees_same run run' block.problem Ok up down same_in_runs problem_ok sources (tree_at nodes block.plan)) (alike_maps (tree_list run block.problem (tree_at nodes block.plan)))

      outputs_same : (columns : List Output) → Each Ok (map output_expr columns) → (x y : Env) → N own x y → map (value_at x) (map (listed_output blocks inner) columns) ≡ map (value_at y) (map (listed_output blocks inner') columns)
      outputs_same [] ok x y t = refl
      outputs_same (u ∷ columns) ok x y t = λ i. same_at (output_expr u) ok.0 own x y t i ∷ outputs_same columns ok.1 x y t i

      keys_same : (order : List Order) → Each Ok (map order_expr order) → (x y : Env) → N own x y → map (key_at x) (map (listed_key blocks inner) order) ≡ map (key_at y) (map (listed_key blocks inner') order)
      keys_same [] ok x y t = refl
      keys_same (o ∷ order) ok x y t = λ i. same_at (order_expr o) ok.0 own x y t i ∷ keys_same order ok.1 x y t i

      line_same : (x y : Env) → N own x y → listed_line blocks inner block x ≡ listed_line blocks inner' block y
      line_same x y t = λ i. record { outputs = outputs_same block.columns outputs_ok x y t i; keys = keys_same block.order order_ok x y t i }

      pub rows_alike : rows_of_lines block (map (listed_line blocks inner block) (tuples_of_block blocks nodes tables inner outer block)) ≡ rows_of_lines block (map (listed_line blocks inner' block) (tuples_of_block blocks nodes tables inner' outer' block))
      rows_alike = ap (rows_of_lines block) (alike_same (listed_line blocks inner block) (listed_line blocks inner' block) line_same tuples_alike)

      pub block_rows : (listed_block blocks nodes tables inner block outer).rows ≡ (listed_block blocks nodes tables inner' block outer').rows
      unfolding listed_block
      block_rows = rows_alike

      pub block_tuples : Alike (N own) (listed_block blocks nodes tables inner block outer).tuples (listed_block blocks nodes tables inner' block outer').tuples
      unfolding listed_block
      block_tuples = tuples_alike
