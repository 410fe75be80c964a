-- The row set of all items of a block has the tuples of the block as it is written, and so has every legal tree.
use Rattle.std.proofs.Common.{Some, ◌≡◌, ◌∙◌, ap, sym, subst, refl, ℕ, zero, suc, ◌<◌, inl, inr, List, map, filter, length, arith}
use Rattle.std.specs.List.Sorted.{IsPermutation}
use Rattle.std.proofs.lemmas.List.{length-map}
use Rattle.std.proofs.lemmas.List.Sorted.{IsPermutation-sym, IsPermutation-trans, IsPermutation-map}
use Rattle.jp_base.specs.Sets.{Within}
use Rattle.jp_base.specs.declared.values.Ty.TheVariants as ty
use Rattle.jp_base.proofs.MaskAlgebra.{in_left, in_right}
use Rattle.jp_facts.proofs.Members.{In, to_in}
use Rattle.jp_query.specs.declared.Query.{Query}
use Rattle.jp_query.specs.Typing.{IsTypedExpr, type_of}
use Rattle.jp_query.specs.Meaning.{Env}
use Rattle.jp_strict.proofs.SoundTests.{of_typed}
use Rattle.jp_problem.specs.declared.types.Clause.{Clause}
use Rattle.jp_problem.specs.declared.types.Item.{Item}
use Rattle.jp_problem.specs.declared.types.Outline.{Outline}
use Rattle.jp_problem.specs.declared.types.Placed.{Placed}
use Rattle.jp_problem.specs.declared.types.Problem.{Problem}
use Rattle.jp_problem.specs.Blocks.{top, outline_of}
use Rattle.jp_problem.specs.Conditions.{MeetsConditions}
use Rattle.jp_problem.specs.Made.{IsBlock, IsMade}
use Rattle.jp_problem.specs.MinimumSets.{clause_needs, specials_in}
use Rattle.jp_problem.specs.Problems.{AreItemsOf, rels_of_item, problem_rels, items_of, region_items, problem_of}
use Rattle.jp_problem.specs.Sets.{span}
use Rattle.jp_problem.specs.Shapes.{Shape, block_shape}
use Rattle.jp_problem.specs.Trees.{Tree, IsPlan, spine}
use Rattle.jp_conditions.proofs.Bounds.{Laid, bounded, needs_bounded, stands_at}
use Rattle.jp_conditions.proofs.LaidBlocks.{laid, rooted, block_seen, same_length}
use Rattle.jp_conditions.proofs.MadeLaws.{made_conditions}
use Rattle.jp_conditions.proofs.Sources.{special_sides}
use Rattle.jp_conditions.proofs.SpineLaws.{spine_found}
use Rattle.jp_conditions.proofs.WithClasses.{IsNested}
use Rattle.jp_frame.specs.Maps.{Map}
use Rattle.jp_frame.specs.Frames.{Frame, IsFrame}
use Rattle.jp_frame.specs.Legal.{IsDone, IsActive}
use Rattle.jp_frame.specs.Rows.{row_set}
use Rattle.jp_frame.specs.Trees.{Tree as Run, rows_of}
use Rattle.jp_frame.proofs.TreeLaws.{tree_bag}
use Rattle.jp_framed.specs.Environments.{Setting, env_of, HasNoOwnRows}
use Rattle.jp_framed.specs.Framing.{join_at, list_holds, frame_of, AreApart}
use Rattle.jp_framed.specs.Running.{IsRunOf, tuples_of_run}
use Rattle.jp_framed.proofs.MadeLaws.{made_apart, made_frame}
use Rattle.jp_framed.proofs.Reading.{join_stands}
use Rattle.jp_framed.proofs.RunLaws.{run_bag}
use Rattle.jp_spine.specs.Written.{written_tuples}
use Rattle.jp_spine.proofs.ActiveLaws.{active_test, filter_same}
use Rattle.jp_spine.proofs.BareLists.{bare}
use Rattle.jp_spine.proofs.OwnConditions.{own_conds, placed_own, top_found, Part}
use Rattle.jp_spine.proofs.RunLists.{nest_rows}
use Rattle.jp_spine.proofs.SpineRows.{plain_run, plain_set, plain_legal, Ran, ran}
use Rattle.jp_spine.proofs.WrittenLists.{clause_from_place, region_test, is_written}

module _ (query : Query) (items : List Item) (setting : Setting) (is_block : IsBlock query) (are : AreItemsOf query items) (clear : HasNoOwnRows (problem_rels (problem_of items query)) setting.outer) where
  abbrev problem : Problem
  problem = problem_of items query

  abbrev block : Outline
  block = outline_of query

  abbrev shape : Shape
  shape = block_shape query

  abbrev f : Frame
  f = frame_of problem setting

  abbrev set : ℕ
  set = span 0 (length block.rels)

  made : IsMade problem
  made = record { query = query; block = is_block; items = are; made = inl refl }

  ok : IsFrame f
  ok = made_frame problem setting made

  meets : MeetsConditions problem
  meets = made_conditions problem made

  lay : Laid block set
  lay = laid query is_block

  apart : AreApart block.rels
  apart = subst AreApart are (made_apart problem made)

  none_outside : HasNoOwnRows block.rels setting.outer
  none_outside = subst (λ r. HasNoOwnRows r setting.outer) are clear

  many : length items ≡ length block.rels
  many = sym (length-map items rels_of_item) ∙ ap length are

  typed : (c : Placed) → In c block.clauses → IsTypedExpr c.expr
  typed c h = of_typed ty.Boolean (type_of c.expr) (lay.typed_clauses c h)

  whole : Part block.rels block.clauses block.joins shape top
  whole = record { within = λ c h. h; inside = λ c h low high. h; region = inl refl; joined = λ w h. h }

  -- every join is done in all items
  all_done : (r : ℕ) → r < f.joins → IsDone f set r
  all_done r low =
      let x = join_at problem.joins r in
      let h = to_in x (specials_in block) (join_stands problem.joins r low) in
      let b = bounded block set lay x h in
      let w = lay.standing.within (special_sides x) (stands_at block set lay x h) in
      record { join = low; left = λ i p. w i (in_left x.syn_left x.syn_right i (b.left i p)); right = λ i p. w i (in_right x.syn_left x.syn_right i (b.right i p)) }

  active_is_free : (k : ℕ) → IsActive f set k → f.region k ≡ 0
  active_is_free k a = by (f.region k) refl
    where
      by : (n : ℕ) → f.region k ≡ n → n ≡ 0
      by zero e = refl
      by (suc r) e = absurd (a.open_region r e (all_done r (ok.region_join k r a.clause e)))

  free_within : (c : Placed) → In c block.clauses → c.region ≡ 0 → Within (clause_needs (specials_in block) (region_items set (specials_in block) c.region) c.uses) set
  free_within c h e = subst (λ r. Within (clause_needs (specials_in block) (region_items set (specials_in block) r) c.uses) set) (sym e)
      (needs_bounded block set lay (specials_in block) set c.uses (λ t k. bounded block set lay t k) (elim (lay.clauses c h) [
        | inl p ↦ p.1
        | inr p ↦ (λ i q. lay.standing.within p.0 p.1 i (in_right p.0.left p.0.right i (p.3 i q)))
      ]))

  free_is_active : (k : ℕ) → k < f.clauses → f.region k ≡ 0 → IsActive f set k
  free_is_active k low e =
      let c = clause_from_place items block set lay setting are ok meets apart none_outside many typed k low in
      record {
        clause = low;
        within = subst (λ (x : Clause). Within x.req set) c.2 (free_within c.0 c.1 (ap (λ (x : Clause). x.region) c.2 ∙ e));
        open_region = λ r q d. absurd (omega (arith, e, q));
      }

  all_test : (m : Map) → active_test f set m ≡ list_holds block.rels setting (own_conds shape) m
  all_test m = region_test items block set lay setting are ok meets apart none_outside many typed set 0 (own_conds shape) m active_is_free free_is_active
      (λ c h e. top_found block.rels shape top c refl h e) (λ e h. placed_own block.rels shape top e h)

  record Spine : Type 0 where
    tree : Tree
    is : spine query ≡ Some tree
    nests : IsNested tree
    plan : IsPlan problem tree
    ran : Ran problem setting ok meets shape top tree

  the_spine : Spine
  the_spine = let found = spine_found query items is_block are in
      record { tree = found.0; is = found.1; nests = found.3; plan = found.2; ran = ran problem setting ok meets shape top (rooted query is_block).rooted found.0 found.1 found.2.legal }

  -- the spine's list, map by map
  spine_list : map (env_of block.rels setting) (rows_of f (plain_run f the_spine.tree)) ≡ written_tuples block.rels setting shape top
  spine_list =
      ap (map (env_of block.rels setting)) (the_spine.ran.rows
      ∙ ap (λ n. filter (active_test f n) (bare f shape top)) (ap (span 0) (same_length query is_block))
      ∙ filter_same (active_test f set) (list_holds block.rels setting (own_conds shape)) (bare f shape top) (λ m h. all_test m))
      ∙ is_written items block set lay setting are ok meets apart none_outside many typed shape top whole (block_seen query is_block) the_spine.ran.places (omega (arith, same_length query is_block))

  spine_bag : IsPermutation (rows_of f (plain_run f the_spine.tree)) (row_set f (items_of problem))
  spine_bag = subst (λ n. IsPermutation (rows_of f (plain_run f the_spine.tree)) (row_set f n)) (plain_set problem setting ok meets the_spine.tree ∙ the_spine.plan.whole)
      (tree_bag f ok (plain_run f the_spine.tree) (plain_legal problem setting ok meets the_spine.tree the_spine.plan.legal))

  abbrev tuples : List Map → List Env
  tuples = map (env_of (problem_rels problem) setting)

  pub rows_written : IsPermutation (map (env_of (problem_rels (problem_of items query)) setting) (row_set (frame_of (problem_of items query) setting) (items_of (problem_of items query)))) (written_tuples (problem_rels (problem_of items query)) setting (block_shape query) top)
  rows_written = subst (λ es. IsPermutation (tuples (row_set f (items_of problem))) es) (ap (λ r. map (env_of r setting) (rows_of f (plain_run f the_spine.tree))) are ∙ spine_list ∙ ap (λ r. written_tuples r setting shape top) (sym are))
      (IsPermutation-map (env_of (problem_rels problem) setting) (row_set f (items_of problem)) (rows_of f (plain_run f the_spine.tree)) (IsPermutation-sym (rows_of f (plain_run f the_spine.tree)) (row_set f (items_of problem)) spine_bag))

  pub every_order : (t : Tree) (r : Run) → IsPlan (problem_of items query) t → IsRunOf (frame_of (problem_of items query) setting) t r → IsPermutation (tuples_of_run (problem_of items query) setting r) (written_tuples (problem_rels (problem_of items query)) setting (block_shape query) top)
  every_order t r plan h = IsPermutation-trans (tuples_of_run problem setting r) (tuples (row_set f (items_of problem))) (written_tuples (problem_rels problem) setting shape top)
      (IsPermutation-map (env_of (problem_rels problem) setting) (rows_of f r) (row_set f (items_of problem)) (subst (λ n. IsPermutation (rows_of f r) (row_set f n)) plan.whole (run_bag problem setting made t r plan.legal h))) rows_written

  same_tree : (t u : Tree) → Some t ≡ Some u → t ≡ u
  same_tree t u e = cc

  -- the list of every run of the spine, in its order
  pub in_order : (t : Tree) (r : Run) → spine query ≡ Some t → IsRunOf (frame_of (problem_of items query) setting) t r → tuples_of_run (problem_of items query) setting r ≡ written_tuples (problem_rels (problem_of items query)) setting (block_shape query) top
  in_order t r e h =
      let here = subst (λ u. IsRunOf f u r) (same_tree t the_spine.tree (sym e ∙ the_spine.is)) h in
      ap tuples (nest_rows problem setting ok meets the_spine.tree r the_spine.nests the_spine.plan.legal here)
      ∙ ap (λ q. map (env_of q setting) (rows_of f (plain_run f the_spine.tree))) are ∙ spine_list ∙ ap (λ q. written_tuples q setting shape top) (sym are)
