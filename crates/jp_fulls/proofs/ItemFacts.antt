-- The sides of a Full item of a block.
use Rattle.std.proofs.Common.{◌≡◌, ◌∙◌, ap, sym, subst, refl, ℕ, zero, suc, ◌<◌, ◌⊎◌, inl, inr, arith, List, [], ◌∷◌, ◌++◌, map, length, Option, Some, None}
use Rattle.std.specs.Prelude.{All, Contains, slice_get, slice_index_or}
use Rattle.std.specs.Int.{bit_at}
use Rattle.std.specs.List.{flat_map}
use Rattle.std.proofs.lemmas.Bool.{cases_eq}
use Rattle.jp_facts.proofs.Members.{In, to_in, from_in, in_append_left, in_append_right, in_flat_map}
use Rattle.jp_query.specs.declared.Expr.{Expr}
use Rattle.jp_query.specs.Fitting.{IsRowFor}
use Rattle.jp_query.specs.Meaning.{Row, Env, no_outer_rows, with_rows}
use Rattle.jp_query.specs.Outermost.{outermost}
use Rattle.jp_query.specs.Refs.{union}
use Rattle.jp_query.specs.Scopes.{Scope, visible_columns}
use Rattle.jp_query.specs.Tables.{TableRows}
use Rattle.jp_query.specs.Typing.{IsBoolean}
use Rattle.jp_problem.specs.declared.types.Item.{Item}
use Rattle.jp_problem.specs.declared.types.ItemKind.TheVariants as kind
use Rattle.jp_problem.specs.Blocks.{output_expr, order_expr}
use Rattle.jp_problem.specs.Made.{class_exprs, exprs_of, item_exprs, join_exprs, on_of_item}
use Rattle.jp_problem.specs.Problems.{problem_rels}
use Rattle.jp_problem.specs.StepClauses.{expr_of}
use Rattle.jp_problem.proofs.UnionLaws.{has_union}
use Rattle.jp_frame.specs.Maps.{Map, at}
use Rattle.jp_framed.specs.Environments.{env_from, row_at}
use Rattle.jp_framed.proofs.MapRows.{overlaid, left_alone}
use Rattle.jp_induction.proofs.EachPart.{Each, all_of_each, each_of}
use Rattle.jp_laws.proofs.TuplesFit.{each_mapped_to}
use Rattle.jp_lists.specs.Lists.{Listed, around_block, kind_source, listed_block, listing, only_rows, rels_of_some, run_of_block, sublink_rows}
use Rattle.jp_lists.specs.Seen.{IsEvaluated, IsInside}
use Rattle.jp_lists.specs.Steps.{Run, tree_list}
use Rattle.jp_lists.proofs.Arounds.{each_from, from_each, at_in, gone, item_within, other_rows, own_rels, stays}
use Rattle.jp_lists.proofs.FitLaws.{each_evaluated, item_fits, put_inside, tuples_inside}
use Rattle.jp_lists.proofs.Unfolds.{block_unfolds}
use Rattle.jp_tree.specs.BlockParts.{IsBlockAt, blocks_of_item, blocks_of_kind, conditions_in, exprs_in, item_blocks, sublinks_of}
use Rattle.jp_tree.specs.PlanTrees.{tree_at}
use Rattle.jp_tree.specs.Prepared.{IsTypedBlock, IsWhole}
use Rattle.jp_tree.specs.declared.prepared.Block.{Block}
use Rattle.jp_tree.specs.declared.prepared.Prepared.{Prepared}
use Rattle.jp_items.specs.Scenes.{IsListed, IsScene, run_of, listing_in, rows_listed, tables_in}
use Rattle.jp_items.specs.Sights.{env_around, sight_env, sources_in}
use Rattle.jp_items.specs.declared.scene.Scene.{Scene}
use Rattle.jp_fulls.specs.Fulls.{HasListedSublinks, HasNoRowsBeside, IsAround, IsFullScene, alone_maps, full_envs, matched_maps}
use Rattle.jp_fulls.specs.Sides.{IsSceneOfSides, side_rels, side_tuples}
use Rattle.jp_fulls.proofs.FullFacts.{full_is}

-- ---- the tuples of a block have its own relations' rows alone

module _ (prepared : Prepared) (whole : IsWhole prepared) (tables : ℕ → List Row) (number : ℕ) (block : Block) (env : Env) (there : IsBlockAt prepared number block) where
  run_is_around : (m : Map) → IsAround env (own_rels block) ((run_of_block prepared.blocks tables (listing prepared tables) env block).environment m)
  run_is_around m rel n =
      other_rows (run_of_block prepared.blocks tables (listing prepared tables) env block).sources m (around_block block env) 0 (problem_rels block.problem) rel (λ h. n ((has_union (problem_rels block.problem) rel).1 h))
      ∙ stays (own_rels block) env rel n

  each_tuple : (ms : List Map) → Each (IsAround env (own_rels block)) (map (run_of_block prepared.blocks tables (listing prepared tables) env block).environment ms)
  each_tuple [] = tt
  each_tuple (m ∷ ms) = (run_is_around m, each_tuple ms)

  listed_around : Each (IsAround env (own_rels block)) (listed_block prepared.blocks prepared.pool.nodes tables (listing prepared tables) block env).tuples
  unfolding listed_block
  listed_around = each_tuple (tree_list (run_of_block prepared.blocks tables (listing prepared tables) env block) block.problem (tree_at prepared.pool.nodes block.plan))

  all_around : All (IsAround env (own_rels block)) (listing prepared tables number env).tuples
  all_around = subst (λ (l : Listed). All (IsAround env (own_rels block)) l.tuples) (sym (block_unfolds prepared tables number block env whole there)) (all_of_each (IsAround env (own_rels block)) (listed_block prepared.blocks prepared.pool.nodes tables (listing prepared tables) block env).tuples listed_around)

-- ---- rows that are inside

module _ (scope : Scope) (around : Env) where
  only_inside : (rels : ℕ) (x : Env) → IsInside scope around x → IsInside scope around (only_rows rels x)
  only_inside rels x f rel = elim (cases_eq (bit_at rels rel) 1) [
    | inl p ↦ subst (λ (o : Option Row). IsRowFor (visible_columns scope rel) o ⊎ (o ≡ around rel)) (sym (overlaid rels no_outer_rows x rel p)) (f rel)
    | inr n ↦ inl (subst (IsRowFor (visible_columns scope rel)) (sym (left_alone rels no_outer_rows x rel n)) tt)
  ]

  some_inside : (rows : List Env) → Each (IsInside scope around) rows → (k : ℕ) → IsInside scope around (slice_index_or rows k no_outer_rows)
  some_inside [] h zero rel = inl tt
  some_inside [] h (suc k) rel = inl tt
  some_inside (x ∷ rows) h zero rel = h.0 rel
  some_inside (x ∷ rows) h (suc k) rel = some_inside rows h.1 k rel

  row_inside : (rows : List Env) → Each (IsInside scope around) rows → (place : Option ℕ) → IsInside scope around (row_at rows place)
  row_inside rows h (Some k) = some_inside rows h k
  row_inside rows h None = λ rel. inl tt

  pub two_inside : (l r : ℕ) (lefts rights : List Env) (m : Map) → Each (IsInside scope around) lefts → Each (IsInside scope around) rights
      → IsInside scope around (env_from 0 (r ∷ l ∷ []) (map (only_rows r) rights ∷ map (only_rows l) lefts ∷ []) around m)
  two_inside l r lefts rights m h k =
      put_inside scope around r (with_rows l around (row_at (map (only_rows l) lefts) (at m 1))) (row_at (map (only_rows r) rights) (at m 0))
      (put_inside scope around l around (row_at (map (only_rows l) lefts) (at m 1)) (λ rel. inr refl) (row_inside (map (only_rows l) lefts) (each_mapped_to (IsInside scope around) (IsInside scope around) (only_rows l) (λ x f. only_inside l x f) lefts h) (at m 1)))
      (row_inside (map (only_rows r) rights) (each_mapped_to (IsInside scope around) (IsInside scope around) (only_rows r) (λ x f. only_inside r x f) rights k) (at m 0))

-- ---- the scene

module _ (scene : Scene) (block : Block) (item : Item) (left right : ℕ) (on : List Expr) (is : IsSceneOfSides scene block left right) (held : Contains block.problem.items item) (kind_is : item.kind ≡ kind.Full left right on) where
  abbrev prepared : Prepared
  prepared = scene.prepared.now

  abbrev tables : TableRows
  tables = scene.sight.tables.now.list

  abbrev around : Env
  around = around_block block is.outer

  inside_items : In item block.problem.items
  inside_items = to_in item block.problem.items held

  -- ---- the sides

  used : (n : ℕ) → In n (blocks_of_kind (kind.Full left right on)) → In n (item_blocks block)
  used n h = in_flat_map blocks_of_item item n block.problem.items inside_items (subst (λ k. In n (blocks_of_kind k)) (sym kind_is) h)

  abbrev IsSide : ℕ → Type 0
  IsSide n = In n (blocks_of_kind (kind.Full left right on))

  side_at : (n : ℕ) → n < length prepared.blocks → (at : Block) × IsBlockAt prepared n at
  side_at n low = found prepared.blocks n low
    where
      found : (bs : List Block) (k : ℕ) → k < length bs → (b : Block) × (slice_get bs k ≡ Some b)
      found [] k low = absurd (omega (arith, low))
      found (b ∷ bs) zero low = (b, refl)
      found (b ∷ bs) (suc k) low = found bs k (omega (arith, low))

  side_there : (n : ℕ) → IsSide n → (at : Block) × IsBlockAt prepared n at
  side_there n h = side_at n (is.whole.behind is.number n block is.there (from_in n (item_blocks block) (used n h))).1

  side_inside : (n : ℕ) → IsSide n → Each (IsInside is.whole.scope around) (listing_in scene n around).tuples
  side_inside n h =
      let at = side_there n h in
      each_of (IsInside is.whole.scope around) (listing_in scene n around).tuples
      (tuples_inside prepared is.whole tables n at.0 around is.belong at.1 (item_fits prepared is.whole is.number block is.there is.outer is.fits n (used n h)))

  side_around : (n : ℕ) → IsSide n → All (IsAround around (side_rels scene n)) (listing_in scene n around).tuples
  side_around n h =
      let at = side_there n h in
      subst (λ (o : Option Block). All (IsAround around (rels_of o)) (listing_in scene n around).tuples) (sym at.1) (all_around prepared is.whole (tables_in scene) n at.0 around at.1)
    where
      rels_of : Option Block → ℕ
      rels_of (Some b) = own_rels b
      rels_of None = 0

  left_side : IsSide left
  left_side = inl refl

  right_side : IsSide right
  right_side = inr (inl refl)

  -- ---- the ON list

  of_item : (e : Expr) → In e on → In e (item_exprs item)
  of_item e h = subst (λ k. In e (on_of_item k)) (sym kind_is) h

  of_items : (e : Expr) → In e on → In e (flat_map item_exprs block.problem.items)
  of_items e h = in_flat_map item_exprs item e block.problem.items inside_items (of_item e h)

  evaluated_there : (e : Expr) → In e on → In e (exprs_in block)
  evaluated_there e h = in_append_left e (exprs_of block.problem) (map output_expr block.columns ++ map order_expr block.order)
      (in_append_left e (flat_map item_exprs block.problem.items ++ flat_map join_exprs block.problem.joins ++ map expr_of block.problem.clauses) (flat_map class_exprs block.problem.classes)
      (in_append_left e (flat_map item_exprs block.problem.items ++ flat_map join_exprs block.problem.joins) (map expr_of block.problem.clauses)
      (in_append_left e (flat_map item_exprs block.problem.items) (flat_map join_exprs block.problem.joins) (of_items e h))))

  tested_there : (e : Expr) → In e on → In e (conditions_in block)
  tested_there e h = in_append_right e (map expr_of block.problem.clauses) (flat_map join_exprs block.problem.joins ++ flat_map item_exprs block.problem.items)
      (in_append_right e (flat_map join_exprs block.problem.joins) (flat_map item_exprs block.problem.items) (of_items e h))

  all_in : {X : Type 0} (P : X → Type 0) (xs ys : List X) → ((x : X) → In x xs → In x ys) → All P ys → All P xs
  all_in P xs ys w h = all_of_each P xs (each_from P xs (λ x r. from_each P x ys (each_of P ys h) (w x r)))

  sight_is : (m : Map) → sight_env scene.sight m
      ≡ env_from 0 (side_rels scene right ∷ side_rels scene left ∷ []) (map (only_rows (side_rels scene right)) (listing_in scene right around).tuples ∷ map (only_rows (side_rels scene left)) (listing_in scene left around).tuples ∷ []) around m
  unfolding sight_env
  sight_is m =
      ap (λ rels. env_from 0 rels (sources_in scene.sight) (env_around scene.sight.around) m) is.layout
      ∙ ap (λ sources. env_from 0 (side_rels scene right ∷ side_rels scene left ∷ []) sources (env_around scene.sight.around) m) is.sources
      ∙ ap (λ x. env_from 0 (side_rels scene right ∷ side_rels scene left ∷ []) (map (only_rows (side_rels scene right)) (listing_in scene right x).tuples ∷ map (only_rows (side_rels scene left)) (listing_in scene left x).tuples ∷ []) x m) is.around

  sight_inside : (m : Map) → IsInside is.whole.scope around (sight_env scene.sight m)
  sight_inside m = subst (IsInside is.whole.scope around) (sym (sight_is m))
      (two_inside is.whole.scope around (side_rels scene left) (side_rels scene right) (listing_in scene left around).tuples (listing_in scene right around).tuples m (side_inside left left_side) (side_inside right right_side))

  listed_in : (e : Expr) → In e on → HasListedSublinks scene.sublinks.now e
  listed_in e h = all_in (IsListed scene.sublinks.now) (outermost e) (sublinks_of block) (λ o r. in_flat_map outermost e o (exprs_in block) (evaluated_there e h) r) is.sublinks

  typed : All IsBoolean (conditions_in block)
  typed = (from_each (IsTypedBlock is.whole.schema is.whole.scope) block prepared.blocks (each_of (IsTypedBlock is.whole.schema is.whole.scope) prepared.blocks is.whole.typed) (at_in prepared.blocks is.number block is.there)).conditions

  pub full_scene : IsFullScene scene on
  full_scene = record {
    evaluated = λ m. all_in (IsEvaluated (rows_listed scene m) (sight_env scene.sight m)) on (exprs_in block) evaluated_there (each_evaluated prepared is.whole tables is.number block is.outer is.belong is.there is.fits (sight_env scene.sight m) (sight_inside m));
    booleans = all_in IsBoolean on (conditions_in block) tested_there typed;
    sublinks = all_of_each (HasListedSublinks scene.sublinks.now) on (each_from (HasListedSublinks scene.sublinks.now) on listed_in);
  }

  -- ---- its rows

  here : (n : ℕ) → IsSide n → All (IsAround (env_around scene.sight.around) (side_rels scene n)) (side_tuples scene n)
  here n h = subst (λ x. All (IsAround x (side_rels scene n)) (listing_in scene n x).tuples) (sym is.around) (side_around n h)

  pub full_source : full_envs (side_rels scene left) (env_from 0 scene.sight.layout.now (sources_in scene.sight) (env_around scene.sight.around)) (matched_maps scene on) (alone_maps scene on)
      ≡ kind_source prepared.blocks (tables_in scene) (listing_in scene) (env_around scene.sight.around) item.kind
  full_source =
      full_is scene on full_scene (side_rels scene left) (side_rels scene right) (side_tuples scene left) (side_tuples scene right) is.layout is.sources (here left left_side) (here right right_side)
      ∙ ap (kind_source prepared.blocks (tables_in scene) (listing_in scene) (env_around scene.sight.around)) (sym kind_is)

pub bare : (scene : Scene) (block : Block) (item : Item) (left right : ℕ) → IsSceneOfSides scene block left right → Contains block.problem.items item
    → HasNoRowsBeside (union scene.sight.layout.now) item.rels (env_around scene.sight.around)
bare scene block item left right is held rel p n = ap (λ (x : Env). x rel) is.around ∙ gone (own_rels block) is.outer rel (item_within block item (to_in item block.problem.items held) rel p)

-- ---- the scene of a block

module _ (scene : Scene) (block : Block) (is : IsScene scene block) where
  abbrev run_there : Run
  run_there = run_of_block scene.prepared.now.blocks (tables_in scene) (listing_in scene) is.outer block

  environments : sight_env scene.sight ≡ run_there.environment
  unfolding sight_env
  environments = λ i. env_from 0 (is.layout i) (is.sources i) (is.around i)

  runs : run_of scene ≡ run_there
  runs = λ i. record { sources = is.sources i; environment = environments i; sublinks = sublink_rows scene.prepared.now.blocks (listing_in scene) }

  abbrev maps : Run → List Map
  maps run = tree_list run block.problem (tree_at scene.prepared.now.pool.nodes block.plan)

  in_sight : map (env_from 0 scene.sight.layout.now (sources_in scene.sight) (env_around scene.sight.around)) (maps (run_of scene)) ≡ map (sight_env scene.sight) (maps (run_of scene))
  unfolding sight_env
  in_sight = refl

  listed_there : map run_there.environment (maps run_there) ≡ (listed_block scene.prepared.now.blocks scene.prepared.now.pool.nodes (tables_in scene) (listing_in scene) block is.outer).tuples
  unfolding listed_block
  listed_there = refl

  pub side_listed : map (env_from 0 scene.sight.layout.now (sources_in scene.sight) (env_around scene.sight.around)) (tree_list (run_of scene) block.problem (tree_at scene.prepared.now.pool.nodes block.plan)) ≡ (listing_in scene is.number is.outer).tuples
  side_listed =
      in_sight ∙ ap (λ (run : Run). map run.environment (maps run)) runs ∙ listed_there
      ∙ ap (λ (l : Listed). l.tuples) (sym (block_unfolds scene.prepared.now (tables_in scene) is.number block is.outer is.whole is.there))

  pub side_relations : union scene.sight.layout.now ≡ side_rels scene is.number
  side_relations = ap union is.layout ∙ ap rels_of_some (sym is.there)
