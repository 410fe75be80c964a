-- What the blocks of a statement need to be run, one inside another.
use Rattle.std.proofs.Common.{◌≡◌, ◌∙◌, ap, ap₂, sym, subst, refl, inl, inr, ℕ, zero, suc, ◌+◌, ◌<◌, ◌≤◌, ◌^◌, true, false, List, [], ◌∷◌, ◌++◌, map, length, get_or, Some, None, arith}
use Rattle.std.specs.Prelude.{◌==◌, Contains, Vec, slice_get, if◌then◌else◌}
use Rattle.std.specs.declared.alloc.Global.{Global}
use Rattle.std.specs.List.{range_with_len}
use Rattle.std.specs.Int.{bit_at}
use Rattle.std.proofs.lemmas.Bool.{eqb-true, ne_eqb}
use Rattle.jp_base.specs.Sets.{Has}
use Rattle.jp_base.proofs.SetLemmas.{small_below}
use Rattle.jp_facts.proofs.Members.{In, to_in, from_in, in_flat_map, from_any, from_map}
use Rattle.jp_query.specs.declared.Expr.{Expr}
use Rattle.jp_query.specs.Meaning.{Env, Row, no_outer_rows, with_row}
use Rattle.jp_query.specs.Outermost.{Outer}
use Rattle.jp_query.specs.Refs.{union}
use Rattle.jp_query.specs.Tables.{rows_of_tables}
use Rattle.jp_problem.specs.declared.types.Item.{Item}
use Rattle.jp_problem.specs.declared.types.ItemKind.TheVariants as kind
use Rattle.jp_problem.specs.Problems.{problem_rels}
use Rattle.jp_problem.proofs.UnionLaws.{InSome, has_union}
use Rattle.jp_frame.specs.Maps.{Map}
use Rattle.jp_framed.specs.Environments.{env_from}
use Rattle.jp_induction.proofs.EachPart.{Each, each_of}
use Rattle.jp_tree.specs.declared.prepared.Block.{Block}
use Rattle.jp_tree.specs.declared.prepared.Prepared.{Prepared}
use Rattle.jp_tree.specs.BlockParts.{blocks_of_item, blocks_of_kind, item_blocks, sublinks_of, IsBlockAt, Uses}
use Rattle.jp_tree.specs.BlockParts as parts
use Rattle.jp_tree.specs.Prepared.{IsWhole, HasOneBlock}
use Rattle.jp_lists.specs.Lists.{around_block, block_of_sublink, item_source, kind_source, only_rows, rels_of_block, run_of_block, sources_of, sublink_rows}
use Rattle.jp_lists.specs.Steps.{Run}
use Rattle.jp_lists.specs.Seen.{FitsOutside, IsInside}
use Rattle.jp_lists.proofs.Arounds.{gone, in_range, item_within, other_rows, own_rels}
use Rattle.jp_lists.proofs.FitLaws.{item_fits, map_is_inside, tuples_inside, used_fits}
use Rattle.jp_lists.proofs.SeenLaws.{list_by_sight}
use Rattle.jp_lists.proofs.Sublinks.{sublink_place}
use Rattle.jp_items.specs.declared.params.Around.{Around}
use Rattle.jp_items.specs.declared.params.Params.{Params}
use Rattle.jp_items.specs.declared.rows.ItemRows.{ItemRows}
use Rattle.jp_items.specs.declared.rows.ItemRows.TheVariants as rows
use Rattle.jp_items.specs.declared.rows.Source.TheVariants as source
use Rattle.jp_items.specs.Params.{Cells, env_given, env_of_params, row_given}
use Rattle.jp_items.specs.Rows.{rows_meant}
use Rattle.jp_items.specs.Scenes.{is_listed}
use Rattle.jp_items.specs.Sights.{env_around}
use Rattle.jp_outputs.specs.Columns.{places_from}
use Rattle.jp_outputs.specs.Exprs.{sublink_number}
use Rattle.jp_fulls.specs.Fulls.{HasNoRowsBeside}
use Rattle.jp_fulls.proofs.ItemFacts.{two_inside}
use Rattle.jp_exec.specs.Cells.{IsHandedIn}
use Rattle.jp_exec.specs.Columns.{listed_columns, named_by}
use Rattle.jp_exec.specs.Interiors.{CanRunSublinks, IsFullInterior, IsInterior, IsInteriorOf, IsInteriorOfSides, interior_env, interior_rows, interior_sources}
use Rattle.jp_exec.specs.Running.{CanRun, CanRunItems, given_by, side_of, tables_of}
use Rattle.jp_exec.specs.declared.execution.Execution.{Execution}
use Rattle.jp_exec.specs.declared.interior.Interior.{Interior}
use Rattle.jp_exec.proofs.HandedIn.{fits_handed, seen_alike}
use Rattle.jp_exec.proofs.InteriorFacts.{run_same}

-- ---- columns

at_range : {X : Type 0} (f : ℕ → X) (first count k : ℕ) → k < count → slice_get (map f (range_with_len first count)) k ≡ Some (f (first + k))
at_range f first zero k low = absurd (omega (arith, low))
at_range f first (suc count) zero low = ap (λ n. Some (f n)) (omega arith)
at_range f first (suc count) (suc k) low = at_range f (first + 1) count k (omega (arith, low)) ∙ ap (λ n. Some (f n)) (omega arith)

some_same : {X : Type 0} (x y : X) → Some x ≡ Some y → x ≡ y
some_same x y e = cc

low_of_map : (vs : List (Vec (ℕ × ℕ) Global)) (k : ℕ) (x : List (ℕ × ℕ)) → slice_get (map listed_columns vs) k ≡ Some x → k < length vs
low_of_map [] k x is = cc
low_of_map (v ∷ vs) zero x is = omega arith
low_of_map (v ∷ vs) (suc k) x is = let rest = low_of_map vs k x is in omega (arith, rest)

pub map_at : (vs : List (Vec (ℕ × ℕ) Global)) (k : ℕ) (v : Vec (ℕ × ℕ) Global) → k < length vs → v ≡ get_or vs k v → slice_get (map listed_columns vs) k ≡ Some (listed_columns v)
map_at [] k v low is = absurd (omega (arith, low))
map_at (w ∷ vs) zero v low is = ap (λ u. Some (listed_columns u)) (sym is)
map_at (w ∷ vs) (suc k) v low is = map_at vs k v (omega (arith, low)) is

range_more : {X : Type 0} (f : ℕ → X) (first count : ℕ) → map f (range_with_len first (suc count)) ≡ map f (range_with_len first count) ++ f (first + count) ∷ []
range_more f first zero = ap (λ n. f n ∷ []) (omega arith)
range_more f first (suc count) = ap (λ xs. f first ∷ xs) (range_more f (first + 1) count ∙ ap (λ n. map f (range_with_len (first + 1) count) ++ f n ∷ []) (omega arith))

pub named_more : (prepared : Prepared) (count : ℕ) → named_by prepared (count + 1) ≡ named_by prepared count ++ places_from prepared count ∷ []
named_more prepared count =
    let next : count + 1 ≡ suc count = omega arith in
    ap (named_by prepared) next ∙ range_more (places_from prepared) 0 count ∙ ap (λ n. named_by prepared count ++ places_from prepared n ∷ []) (omega arith)

module _ (run : Execution) (k : ℕ) (same : map listed_columns run.columns.now ≡ named_by run.prepared.now (length run.prepared.now.blocks)) (low : k < length run.prepared.now.blocks) where
  listed_at : slice_get (map listed_columns run.columns.now) k ≡ Some (places_from run.prepared.now k)
  listed_at = ap (λ xs. slice_get xs k) same ∙ at_range (places_from run.prepared.now) 0 (length run.prepared.now.blocks) k low ∙ ap (λ n. Some (places_from run.prepared.now n)) (omega arith)

  pub columns_low : k < length run.columns.now
  columns_low = low_of_map run.columns.now k (places_from run.prepared.now k) listed_at

  pub columns_are : (columns : List (ℕ × ℕ)) → slice_get (map listed_columns run.columns.now) k ≡ Some columns → columns ≡ places_from run.prepared.now k
  columns_are columns is = some_same columns (places_from run.prepared.now k) (sym is ∙ listed_at)

-- ---- inside a block

beyond_inside : (run : Execution) (around : Around) (interior : Interior) (rels : List ℕ) → interior.layout ≡ rels → (m : Map) (rel : ℕ) → ¬ InSome rels rel → env_around around rel ≡ None → interior_env run around interior m rel ≡ None
beyond_inside run around interior rels layout m rel other none = ap (λ rs. env_from 0 rs (interior_sources run interior) (env_around around) m rel) layout
    ∙ other_rows (interior_sources run interior) m (env_around around) 0 rels rel other
    ∙ none

module _ (run : Execution) (number : ℕ) (outer : Env) (runs : CanRun run number outer) (block : Block) (there : IsBlockAt run.prepared.now number block) (around : Around)
    (around_is : env_around around ≡ around_block block outer) where
  pub items_run : CanRunItems run number block (env_around around)
  items_run = record { outer = outer; runs = runs; there = there; around = around_is }

  module _ (sources : List ItemRows) (interior : Interior) (of_block : IsInteriorOf block sources interior)
      (rows : map (rows_meant (tables_of run)) sources ≡ sources_of run.prepared.now.blocks (rows_of_tables (tables_of run)) (given_by run) (env_around around) block.problem.items) where
    pub interior_is : IsInterior run number outer block around interior
    interior_is = record {
      runs = runs;
      there = there;
      around_is = around_is;
      layout = of_block.layout;
      sources = ap (map (rows_meant (tables_of run))) of_block.sources_are ∙ rows ∙ ap (λ env. sources_of run.prepared.now.blocks (rows_of_tables (tables_of run)) (given_by run) env block.problem.items) around_is;
      listed = of_block.listed;
    }

    env_in_block : (m : Map) → interior_env run around interior m ≡ (run_of_block run.prepared.now.blocks (rows_of_tables (tables_of run)) (given_by run) outer block).environment m
    env_in_block m = ap (λ (r : Run). r.environment m) (run_same run number outer block around interior interior_is)

    inside : (m : Map) → IsInside runs.can.whole.scope (around_block block outer) (interior_env run around interior m)
    inside m = subst (IsInside runs.can.whole.scope (around_block block outer)) (sym (env_in_block m))
        (map_is_inside run.prepared.now runs.can.whole (tables_of run) number block outer runs.can.belong there runs.can.fits m)

    module _ (own_below : union (problem_rels block.problem) < 2 ^ 64) (beyond_around : (rel : ℕ) → 64 ≤ rel → env_around around rel ≡ None) where
      not_own : (rel : ℕ) → 64 ≤ rel → ¬ InSome (problem_rels block.problem) rel
      not_own rel high some =
          let low = (small_below (union (problem_rels block.problem))).0 own_below rel ((has_union (problem_rels block.problem) rel).1 some) in
          absurd (omega (arith, high, low))

      pub sublinks_run : CanRunSublinks run number around interior
      sublinks_run = record {
        outer = outer;
        runs = runs;
        block = block;
        there = there;
        inside = inside;
        beyond = λ m rel high. beyond_inside run around interior (problem_rels block.problem) of_block.layout m rel (not_own rel high) (beyond_around rel high);
        own = of_block.sublinks;
      }

-- ---- blocks of items

module _ (run : Execution) (number : ℕ) (block : Block) (env : Env) (can : CanRunItems run number block env) (item : Item) (held : Contains block.problem.items item) (inner : ℕ) (named : In inner (blocks_of_item item)) where
  named_in : In inner (item_blocks block)
  named_in = in_flat_map blocks_of_item item inner block.problem.items (to_in item block.problem.items held) named

  place : (number < inner) × (inner < length run.prepared.now.blocks)
  place = can.runs.can.whole.behind number inner block can.there (from_in inner (item_blocks block) named_in)

  pub item_further : number < inner
  item_further = place.0

  pub item_runs : CanRun run inner env
  item_runs = record {
    can = record {
      whole = can.runs.can.whole;
      belong = can.runs.can.belong;
      there = place.1;
      fits = subst (FitsOutside run.prepared.now can.runs.can.whole.scope inner) (sym can.around) (item_fits run.prepared.now can.runs.can.whole number block can.there can.outer can.runs.can.fits inner named_in);
    };
    columns = can.runs.columns;
    indexes = can.runs.indexes;
  }

-- ---- the sides of a Full item

block_at : (blocks : List Block) (k : ℕ) → k < length blocks → (b : Block) × (slice_get blocks k ≡ Some b)
block_at [] k low = absurd (omega (arith, low))
block_at (b ∷ blocks) zero low = (b, refl)
block_at (b ∷ blocks) (suc k) low = block_at blocks k (omega (arith, low))

module _ (run : Execution) (number : ℕ) (block : Block) (around : Around) (can : CanRunItems run number block (env_around around)) (item : Item) (held : Contains block.problem.items item)
    (left right : ℕ) (on : List Expr) (kind_is : item.kind ≡ kind.Full left right on) where
  abbrev IsSide : ℕ → Type 0
  IsSide n = In n (blocks_of_kind (kind.Full left right on))

  side_named : (n : ℕ) → IsSide n → In n (blocks_of_item item)
  side_named n h = subst (λ k. In n (blocks_of_kind k)) (sym kind_is) h

  pub left_named : In left (blocks_of_item item)
  left_named = side_named left (inl refl)

  pub right_named : In right (blocks_of_item item)
  right_named = side_named right (inr (inl refl))

  side_inside : (n : ℕ) → In n (blocks_of_item item) → Each (IsInside can.runs.can.whole.scope (env_around around)) (given_by run n (env_around around)).tuples
  unfolding item_runs
  side_inside n h =
      let runs = item_runs run number block (env_around around) can item held n h in
      let at = block_at run.prepared.now.blocks n runs.can.there in
      each_of (IsInside runs.can.whole.scope (env_around around)) (given_by run n (env_around around)).tuples
      (tuples_inside run.prepared.now runs.can.whole (tables_of run) n at.0 (env_around around) runs.can.belong at.1 runs.can.fits)

  -- no relation of the item has a row around it
  pub bare : (own : ℕ) → HasNoRowsBeside own item.rels (env_around around)
  bare own rel h out = ap (λ (e : Env). e rel) can.around ∙ gone (own_rels block) can.outer rel (item_within block item (to_in item block.problem.items held) rel h)

  module _ (rows_right rows_left : ItemRows) (rels_right rels_left : ℕ) (interior : Interior) (of_sides : IsInteriorOfSides block rows_right rels_right rows_left rels_left interior)
      (right_is : rows_meant (tables_of run) rows_right ≡ side_of run right (env_around around)) (left_is : rows_meant (tables_of run) rows_left ≡ side_of run left (env_around around))
      (rels_right_is : rels_right ≡ rels_of_block run.prepared.now.blocks right) (rels_left_is : rels_left ≡ rels_of_block run.prepared.now.blocks left) where
    layout_is : interior.layout ≡ rels_of_block run.prepared.now.blocks right ∷ rels_of_block run.prepared.now.blocks left ∷ []
    layout_is = of_sides.layout ∙ ap₂ (λ (r l : ℕ). r ∷ l ∷ []) rels_right_is rels_left_is

    sources_are : interior_sources run interior ≡ side_of run right (env_around around) ∷ side_of run left (env_around around) ∷ []
    sources_are = ap (map (rows_meant (tables_of run))) of_sides.sources_are ∙ ap₂ (λ (rs ls : List Env). rs ∷ ls ∷ []) right_is left_is

    pub full_interior : IsFullInterior run number can.outer block item left right on around interior
    full_interior = record {
      runs = can.runs;
      there = can.there;
      held = held;
      kind_is = kind_is;
      around_is = can.around;
      layout = layout_is;
      sources = sources_are;
      listed = of_sides.listed;
    }

    sides_inside : (m : Map) → IsInside can.runs.can.whole.scope (around_block block can.outer) (interior_env run around interior m)
    sides_inside m = subst (λ e. IsInside can.runs.can.whole.scope e (interior_env run around interior m)) can.around
        (subst (IsInside can.runs.can.whole.scope (env_around around)) (sym seen)
        (two_inside can.runs.can.whole.scope (env_around around) (rels_of_block run.prepared.now.blocks left) (rels_of_block run.prepared.now.blocks right) (given_by run left (env_around around)).tuples
        (given_by run right (env_around around)).tuples m (side_inside left left_named) (side_inside right right_named)))
      where
        seen : interior_env run around interior m ≡ env_from 0 (rels_of_block run.prepared.now.blocks right ∷ rels_of_block run.prepared.now.blocks left ∷ [])
            (side_of run right (env_around around) ∷ side_of run left (env_around around) ∷ []) (env_around around) m
        seen = ap₂ (λ rels sources. env_from 0 rels sources (env_around around) m) layout_is sources_are

    module _ (right_below : rels_right < 2 ^ 64) (left_below : rels_left < 2 ^ 64) (beyond_around : (rel : ℕ) → 64 ≤ rel → env_around around rel ≡ None) where
      past : (set rel : ℕ) → set < 2 ^ 64 → 64 ≤ rel → ¬ Has set rel
      past set rel small high h = let low = (small_below set).0 small rel h in absurd (omega (arith, high, low))

      in_no_side : (rel : ℕ) → 64 ≤ rel → ¬ InSome (rels_right ∷ rels_left ∷ []) rel
      in_no_side rel high (set, inl e, h) = past rels_right rel right_below high (subst (λ s. Has s rel) (sym e) h)
      in_no_side rel high (set, inr (inl e), h) = past rels_left rel left_below high (subst (λ s. Has s rel) (sym e) h)
      in_no_side rel high (set, inr (inr none), h) = absurd none

      pub sides_run : CanRunSublinks run number around interior
      sides_run = record {
        outer = can.outer;
        runs = can.runs;
        block = block;
        there = can.there;
        inside = sides_inside;
        beyond = λ m rel high. beyond_inside run around interior (rels_right ∷ rels_left ∷ []) of_sides.layout m rel (in_no_side rel high) (beyond_around rel high);
        own = of_sides.sublinks;
      }

-- ---- blocks of sublinks

module _ (run : Execution) (number : ℕ) (around : Around) (interior : Interior) (can : CanRunSublinks run number around interior) (sub : ℕ) (listed : is_listed interior.sublinks.items sub ≡ true) (m : Map) where
  abbrev pub prepared : Prepared
  prepared = run.prepared.now

  abbrev pub whole : IsWhole prepared
  whole = can.runs.can.whole

  pub found : (n : ℕ) × In n (map sublink_number (sublinks_of can.block)) × ((n == sub) ≡ true)
  found = from_any (λ n. n == sub) (map sublink_number (sublinks_of can.block)) (sym (ap (λ ns. is_listed ns sub) can.own) ∙ listed)

  pub outer_of : (o : Outer) × In o (sublinks_of can.block) × (sublink_number o ≡ found.0)
  outer_of = from_map sublink_number found.0 (sublinks_of can.block) found.1

  abbrev pub the_sublink : Outer
  the_sublink = outer_of.0

  numbered : the_sublink.number ≡ sub
  numbered = outer_of.2 ∙ eqb-true found.0 sub found.2

  used : Contains (sublinks_of can.block) the_sublink
  used = from_in the_sublink (sublinks_of can.block) outer_of.1

  pub one : HasOneBlock prepared number the_sublink.number
  one = whole.sublinks number can.block the_sublink can.there used

  pub inner_is : block_of_sublink prepared.blocks sub ≡ one.place
  inner_is = ap (block_of_sublink prepared.blocks) (sym numbered) ∙ sublink_place prepared number the_sublink.number one

  pub inner_further : number < block_of_sublink prepared.blocks sub
  inner_further = subst (λ k. number < k) (sym inner_is) one.behind

  pub inner_there : block_of_sublink prepared.blocks sub < length prepared.blocks
  inner_there = subst (λ k. k < length prepared.blocks) (sym inner_is) (in_range prepared.blocks one.place one.is.block one.is.there)

  uses : Uses prepared can.block (block_of_sublink prepared.blocks sub)
  uses = subst (Uses prepared can.block) (sym inner_is) (parts.by_sublink the_sublink used one.is)

  abbrev pub env : Env
  env = interior_env run around interior m

  fits : FitsOutside prepared whole.scope (block_of_sublink prepared.blocks sub) env
  fits = used_fits prepared whole number can.block can.there can.outer can.runs.can.fits (block_of_sublink prepared.blocks sub) env (can.inside m) uses

  module _ (params : Params) (given : IsHandedIn (places_from prepared (block_of_sublink prepared.blocks sub)) env params) where
    pub inner_runs : CanRun run (block_of_sublink prepared.blocks sub) (env_of_params params)
    inner_runs = record {
      can = record {
        whole = whole;
        belong = can.runs.can.belong;
        there = inner_there;
        fits = fits_handed prepared whole (block_of_sublink prepared.blocks sub) env (can.beyond m) params given fits;
      };
      columns = can.runs.columns;
      indexes = can.runs.indexes;
    }

    pub rows_are : (given_by run (block_of_sublink prepared.blocks sub) (env_of_params params)).rows ≡ interior_rows run around interior m sub
    rows_are = sym (list_by_sight prepared (rows_of_tables (tables_of run)) (block_of_sublink prepared.blocks sub) env (env_of_params params) whole
        (seen_alike prepared whole (block_of_sublink prepared.blocks sub) env (can.beyond m) params given))
        ∙ sym (ap (λ b. if b then sublink_rows prepared.blocks (given_by run) env sub else []) listed)

module _ (run : Execution) (number : ℕ) (around : Around) (interior : Interior) (can : CanRunSublinks run number around interior) (sub : ℕ) (listed : is_listed interior.sublinks.items sub ≡ true) (m : Map)
    (inner : ℕ) (inner_e : inner ≡ block_of_sublink run.prepared.now.blocks sub) where
  pub at_further : number < inner
  at_further = subst (λ k. number < k) (sym inner_e) (inner_further run number around interior can sub listed m)

  at_there : inner < length run.prepared.now.blocks
  at_there = subst (λ k. k < length run.prepared.now.blocks) (sym inner_e) (inner_there run number around interior can sub listed m)

  pub at_low : inner < length run.columns.now
  at_low = columns_low run inner can.runs.columns at_there

  module _ (columns : List (ℕ × ℕ)) (here : slice_get (map listed_columns run.columns.now) inner ≡ Some columns) (params : Params) (given : IsHandedIn columns (interior_env run around interior m) params) where
    given_there : IsHandedIn (places_from run.prepared.now (block_of_sublink run.prepared.now.blocks sub)) (interior_env run around interior m) params
    given_there = subst (λ cs. IsHandedIn cs (interior_env run around interior m) params) (columns_are run inner can.runs.columns at_there columns here ∙ ap (places_from run.prepared.now) inner_e) given

    pub at_runs : CanRun run inner (env_of_params params)
    at_runs = subst (λ k. CanRun run k (env_of_params params)) (sym inner_e) (inner_runs run number around interior can sub listed m params given_there)

    pub at_rows : (given_by run inner (env_of_params params)).rows ≡ interior_rows run around interior m sub
    at_rows = ap (λ k. (given_by run k (env_of_params params)).rows) inner_e ∙ rows_are run number around interior can sub listed m params given_there

pub unlisted_rows : (run : Execution) (around : Around) (interior : Interior) (m : Map) (sub : ℕ) → is_listed interior.sublinks.items sub ≡ false → [] ≡ interior_rows run around interior m sub
unlisted_rows run around interior m sub not_listed = sym (ap (λ b. if b then sublink_rows run.prepared.now.blocks (given_by run) (interior_env run around interior m) sub else []) not_listed)

-- ---- items

pub base_rows : (run : Execution) (env : Env) (item : Item) (rel table : ℕ) → item.kind ≡ kind.Base rel table
    → rows_meant (tables_of run) (rows.Single item.rels (record { rel = rel; source = source.Stored table })) ≡ item_source run.prepared.now.blocks (rows_of_tables (tables_of run)) (given_by run) env item
unfolding rows_meant
base_rows run env item rel table is = sym (ap (λ k. map (only_rows item.rels) (kind_source run.prepared.now.blocks (rows_of_tables (tables_of run)) (given_by run) env k)) is)

pub sub_select_rows : (run : Execution) (env : Env) (item : Item) (rel inner : ℕ) (made : Vec Row Global) → item.kind ≡ kind.Sub rel inner → made.items ≡ (given_by run inner env).rows
    → rows_meant (tables_of run) (rows.Single item.rels (record { rel = rel; source = source.Made made })) ≡ item_source run.prepared.now.blocks (rows_of_tables (tables_of run)) (given_by run) env item
unfolding rows_meant
sub_select_rows run env item rel inner made is are = ap (λ xs. map (only_rows item.rels) (map (with_row no_outer_rows rel) xs)) are
    ∙ sym (ap (λ k. map (only_rows item.rels) (kind_source run.prepared.now.blocks (rows_of_tables (tables_of run)) (given_by run) env k)) is)

pub sub_named : (item : Item) (rel inner : ℕ) → item.kind ≡ kind.Sub rel inner → In inner (blocks_of_item item)
sub_named item rel inner is = subst (λ k. In inner (blocks_of_kind k)) (sym is) (inl refl)

-- ---- what stands around

pub nothing_past : (cells : Cells) (present : ℕ) → present < 2 ^ 64 → (rel : ℕ) → 64 ≤ rel → env_given cells present rel ≡ None
nothing_past cells present small rel high =
    ap (λ b. if b then Some (row_given cells rel) else None) (ne_eqb (bit_at present rel) 1 (λ h. let low = (small_below present).0 small rel h in absurd (omega (arith, high, low))))

pub block_is : (xs ys : List Block) (k : ℕ) (b : Block) → xs ≡ ys → k < length ys → b ≡ get_or xs k b → slice_get ys k ≡ Some b
block_is xs ys k b same low is = at_get ys k b low ∙ ap (λ zs. Some (get_or zs k b)) (sym same) ∙ ap Some (sym is)
  where
    at_get : (zs : List Block) (k : ℕ) (d : Block) → k < length zs → slice_get zs k ≡ Some (get_or zs k d)
    at_get [] k d low = absurd (omega (arith, low))
    at_get (z ∷ zs) zero d low = refl
    at_get (z ∷ zs) (suc k) d low = at_get zs k d (omega (arith, low))
