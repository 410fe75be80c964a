-- What a block's expressions give at a map of its scene.
use Rattle.std.proofs.Common.{◌≡◌, ◌∙◌, ap, ap₂, sym, subst, refl, inl, inr, ℕ, true, List, [], ◌∷◌, ◌++◌, map}
use Rattle.std.specs.Prelude.{All, if◌then◌else◌}
use Rattle.jp_base.specs.declared.values.Value.{Value}
use Rattle.jp_facts.proofs.Members.{In, in_append_left, in_append_right, in_flat_map, in_map}
use Rattle.jp_query.specs.declared.Expr.{Expr}
use Rattle.jp_query.specs.declared.Order.{Order}
use Rattle.jp_query.specs.declared.Output.{Output}
use Rattle.jp_query.specs.Meaning.{Row, Env, value_at, key_at}
use Rattle.jp_query.specs.InOrder.{direction_of}
use Rattle.jp_query.specs.Ordering.{Line, distinct_lines, outputs_of, sorted}
use Rattle.jp_query.specs.Outermost.{outermost}
use Rattle.jp_problem.specs.Blocks.{output_expr, order_expr}
use Rattle.jp_problem.specs.Made.{exprs_of}
use Rattle.jp_problem.specs.Problems.{problem_rels}
use Rattle.jp_frame.specs.Maps.{Map}
use Rattle.jp_framed.specs.Environments.{env_from}
use Rattle.jp_induction.proofs.EachPart.{Each, each_of, all_of_each, each_anyway, each_map}
use Rattle.jp_laws.specs.SameCells.{IsSameCell, IsSamePresence}
use Rattle.jp_lists.specs.Lists.{around_block, listed_line, listed_output, listed_key, listed_value, rows_of_lines, run_in}
use Rattle.jp_lists.specs.Seen.{HasSameRows, IsInside, IsEvaluated}
use Rattle.jp_lists.proofs.Arounds.{each_from, from_each}
use Rattle.jp_lists.proofs.AskedLaws.{asked_evaluated}
use Rattle.jp_lists.proofs.FitLaws.{map_is_inside, each_evaluated}
use Rattle.jp_lists.proofs.GivenCells.{value_by_own}
use Rattle.jp_tree.specs.BlockParts.{exprs_in, own_columns, own_placeholders, sublinks_of}
use Rattle.jp_tree.specs.declared.prepared.Block.{Block}
use Rattle.jp_items.specs.Scenes.{IsScene, IsListed, is_listed, known_rows, rows_known, rows_listed, listing_in, tables_in}
use Rattle.jp_items.specs.Sights.{env_around, sight_env, sources_in}
use Rattle.jp_items.specs.declared.scene.Scene.{Scene}
use Rattle.jp_items.specs.Scenes.{meant_by}
use Rattle.jp_items.specs.declared.scene.SceneStep.{SceneStep}
use Rattle.jp_joins.specs.Conditions.{CanEvaluateAt}
use Rattle.jp_joins.specs.Meant.{Meant, value_at as value_meant}
use Rattle.jp_outputs.specs.Values.{AreEvaluable, values_at, line_of}

-- ---- at one map

module _ (step : SceneStep) (block : Block) (is : IsScene step.scene block) (m : Map) where
  abbrev scene : Scene
  scene = step.scene

  abbrev meant : Meant
  meant = meant_by step

  abbrev env : Env
  env = sight_env scene.sight m

  same_env : (run_in scene.prepared.now (tables_in scene) block is.outer).environment m ≡ env
  unfolding sight_env
  same_env = sym (ap (λ rels. env_from 0 rels (sources_in scene.sight) (env_around scene.sight.around) m) is.layout
      ∙ ap₂ (λ sources around. env_from 0 (problem_rels block.problem) sources around m) is.sources is.around)

  inside : IsInside is.whole.scope (around_block block is.outer) env
  inside = subst (IsInside is.whole.scope (around_block block is.outer)) same_env
      (map_is_inside scene.prepared.now is.whole scene.sight.tables.now.list is.number block is.outer is.belong is.there is.fits m)

  evaluated : Each (IsEvaluated (rows_listed scene m) env) (exprs_in block)
  evaluated = each_of (IsEvaluated (rows_listed scene m) env) (exprs_in block)
      (each_evaluated scene.prepared.now is.whole scene.sight.tables.now.list is.number block is.outer is.belong is.there is.fits env inside)

  known_is : (numbers : List ℕ) (rows : ℕ → List Row) (sub : ℕ) → is_listed numbers sub ≡ true → known_rows numbers rows sub ≡ rows sub
  known_is numbers rows sub listed = ap (λ b. if b then rows sub else []) listed

  -- the sublinks of the block's expressions are known
  same_rows : (e : Expr) → In e (exprs_in block) → All (HasSameRows (rows_known scene m) (rows_listed scene m)) (outermost e)
  same_rows e h = all_of_each (HasSameRows (rows_known scene m) (rows_listed scene m)) (outermost e)
      (each_from (HasSameRows (rows_known scene m) (rows_listed scene m)) (outermost e) (λ o r. known_is scene.sublinks.now (rows_listed scene m) o.number
      (from_each (IsListed scene.sublinks.now) o (sublinks_of block) (each_of (IsListed scene.sublinks.now) (sublinks_of block) is.sublinks) (in_flat_map outermost e o (exprs_in block) h r))))

  pub evaluable : (e : Expr) → In e (exprs_in block) → CanEvaluateAt (meant_by step) m e
  evaluable e h = asked_evaluated (rows_known scene m) (rows_listed scene m) e env (same_rows e h) (from_each (IsEvaluated (rows_listed scene m) env) e (exprs_in block) evaluated h)

  value_is : (e : Expr) → In e (exprs_in block) → value_meant meant m e ≡ listed_value scene.prepared.now.blocks (listing_in scene) e env
  value_is e h = value_by_own (rows_known scene m) (rows_listed scene m) e env env
      (all_of_each (IsSameCell env env) (own_columns e) (each_anyway (IsSameCell env env) (λ c. refl) (own_columns e)))
      (all_of_each (IsSamePresence env env) (own_placeholders e) (each_anyway (IsSamePresence env env) (λ rels i low k. refl) (own_placeholders e)))
      (same_rows e h)

  -- outputs and keys

  output_in : (u : Output) → In u block.columns → In (output_expr u) (exprs_in block)
  output_in u h = in_append_right (output_expr u) (exprs_of block.problem) (map output_expr block.columns ++ map order_expr block.order)
      (in_append_left (output_expr u) (map output_expr block.columns) (map order_expr block.order) (in_map output_expr u block.columns h))

  key_in : (o : Order) → In o block.order → In (order_expr o) (exprs_in block)
  key_in o h = in_append_right (order_expr o) (exprs_of block.problem) (map output_expr block.columns ++ map order_expr block.order)
      (in_append_right (order_expr o) (map output_expr block.columns) (map order_expr block.order) (in_map order_expr o block.order h))

  outputs_same : (us : List Output) → ((u : Output) → In u us → In (output_expr u) (exprs_in block))
      → values_at meant (map output_expr us) m ≡ map (value_at env) (map (listed_output scene.prepared.now.blocks (listing_in scene)) us)
  outputs_same [] h = refl
  outputs_same (u ∷ us) h = ap₂ (λ (v : Value) (vs : Row). v ∷ vs) (value_is (output_expr u) (h u (inl refl))) (outputs_same us (λ w p. h w (inr p)))

  keys_same : (os : List Order) → ((o : Order) → In o os → In (order_expr o) (exprs_in block))
      → values_at meant (map order_expr os) m ≡ map (key_at env) (map (listed_key scene.prepared.now.blocks (listing_in scene)) os)
  keys_same [] h = refl
  keys_same (o ∷ os) h = ap₂ (λ (v : Value) (vs : Row). v ∷ vs) (value_is (order_expr o) (h o (inl refl))) (keys_same os (λ w p. h w (inr p)))

  line_is : line_of (meant_by step) (map output_expr block.columns) (map order_expr block.order) m ≡ listed_line scene.prepared.now.blocks (listing_in scene) block env
  line_is = ap₂ (λ (row keys : Row). record { outputs = row; keys = keys }) (outputs_same block.columns output_in) (keys_same block.order key_in)

-- ---- where the step is one of the scene, and the expressions are the outputs and the keys

module _ (step : SceneStep) (scene : Scene) (block : Block) (same : step.scene ≡ scene) (given : IsScene scene block) where
  is : IsScene step.scene block
  is = subst (λ s. IsScene s block) (sym same) given

  pub outputs_evaluable : (outputs : List Expr) → outputs ≡ map output_expr block.columns → AreEvaluable (meant_by step) outputs
  outputs_evaluable outputs are = subst (AreEvaluable (meant_by step)) (sym are) (λ m. all_of_each (CanEvaluateAt (meant_by step) m) (map output_expr block.columns) (each_map (CanEvaluateAt (meant_by step) m) output_expr block.columns
      (each_from (λ u. CanEvaluateAt (meant_by step) m (output_expr u)) block.columns (λ u h. evaluable step block is m (output_expr u) (output_in step block is m u h)))))

  pub keys_evaluable : (keys : List Expr) → keys ≡ map order_expr block.order → AreEvaluable (meant_by step) keys
  keys_evaluable keys are = subst (AreEvaluable (meant_by step)) (sym are) (λ m. all_of_each (CanEvaluateAt (meant_by step) m) (map order_expr block.order) (each_map (CanEvaluateAt (meant_by step) m) order_expr block.order
      (each_from (λ o. CanEvaluateAt (meant_by step) m (order_expr o)) block.order (λ o h. evaluable step block is m (order_expr o) (key_in step block is m o h)))))

  each_line : (maps : List Map) → map (line_of (meant_by step) (map output_expr block.columns) (map order_expr block.order)) maps
      ≡ map (listed_line step.scene.prepared.now.blocks (listing_in step.scene) block) (map (sight_env step.scene.sight) maps)
  each_line [] = refl
  each_line (m ∷ maps) = ap₂ (λ (l : Line) (ls : List Line). l ∷ ls) (line_is step block is m) (each_line maps)

  pub rows_are : (outputs keys : List Expr) (order : List Order) (maps : List Map) (lines : List Line) (rows : List Row) → outputs ≡ map output_expr block.columns → keys ≡ map order_expr block.order → order ≡ block.order
      → lines ≡ map (line_of (meant_by step) outputs keys) maps → rows ≡ map outputs_of (sorted (map direction_of order) (distinct_lines block.distinct lines))
      → rows ≡ rows_of_lines block (map (listed_line scene.prepared.now.blocks (listing_in scene) block) (map (sight_env scene.sight) maps))
  rows_are outputs keys order maps lines rows os ks by ls rs =
      rs ∙ ap (λ ds. map outputs_of (sorted (map direction_of ds) (distinct_lines block.distinct lines))) by
      ∙ ap (rows_of_lines block) (ls ∙ ap₂ (λ (xs ys : List Expr). map (line_of (meant_by step) xs ys) maps) os ks ∙ each_line maps
      ∙ ap (λ (s : Scene). map (listed_line s.prepared.now.blocks (listing_in s) block) (map (sight_env s.sight) maps)) same)
