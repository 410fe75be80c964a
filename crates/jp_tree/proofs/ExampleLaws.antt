-- The plan of a select from one table is whole.
use lib.Count.{ones}
use Rattle.std.proofs.Common.{◌≡◌, ◌∙◌, ap, sym, refl, subst, subst₂, ℕ, suc, zero, ◌<◌, ◌≤◌, inl, inr, false, [], ◌∷◌, ◌++◌, map, arith, lit<, lit≤, Some}
use Rattle.std.specs.List.{flat_map}
use Rattle.std.specs.Prelude.{All, Contains, slice_get, count_ones}
use Rattle.std.proofs.lemmas.Bool.{cases_eq}
use Rattle.std.proofs.lemmas.Nat.Bits.{bit_at-pow_other}
use Rattle.jp_base.specs.Sets.{Has}
use Rattle.jp_base.specs.declared.values.Ty.TheVariants as ty
use Rattle.jp_query.specs.declared.Output.{out-roll-Output}
use Rattle.jp_query.specs.declared.Query.{out-roll-Query}
use Rattle.jp_query.specs.Layers.{QueryLayer, OutputLayer}
use Rattle.jp_query.specs.Conditions.{IsTyped, IsBounded, IsBoundedExpr}
use Rattle.jp_query.specs.NoRight.{HasNoRight}
use Rattle.jp_query.specs.Outermost.{outermost}
use Rattle.jp_query.specs.Parts.{ColumnRef, tables_in, base_leaves_in}
use Rattle.jp_query.specs.Refs.{only, union}
use Rattle.jp_query.specs.Scopes.{Scope, columns_of_table, visible_columns}
use Rattle.jp_query.specs.TreeExamples.{a, col, schema, number_column}
use Rattle.jp_query.specs.Typing.{IsBoolean, IsTypedExpr, type_of}
use Rattle.jp_query.proofs.TreeRules.{folds, paras}
use Rattle.jp_problem.specs.declared.types.Item.{Item}
use Rattle.jp_problem.specs.declared.types.ItemKind.TheVariants.{Base, Sub}
use Rattle.jp_problem.specs.declared.types.Outline.{Outline}
use Rattle.jp_problem.specs.Blocks.{outline_of, outline_in, output_expr, order_expr}
use Rattle.jp_problem.specs.Made.{HasApartSets, HasDistinct, HasStatedRows, IsCounted, IsMade, IsPositive, IsSearchable}
use Rattle.jp_problem.specs.Problems.{problem_in}
use Rattle.jp_problem.specs.Shapes.{item, filtered, shape_of}
use Rattle.jp_problem.specs.Trees.{Scan, IsPlan}
use Rattle.jp_tree.specs.declared.prepared.Block.{Block}
use Rattle.jp_tree.specs.BlockParts.{own_columns, own_placeholders, outermost_ins, exprs_in, columns_named, placeholders_named, sublinks_of, in_sublinks_of, item_blocks, output_ty, HasRelation, IsOuterReference, named, passed_on, Uses, by_item, by_sublink}
use Rattle.jp_tree.specs.Examples.{a_block, a_column, a_item, a_name, a_query, a_scan}
use Rattle.jp_tree.specs.Prepared.{HasItsType, HasPlan, IsColumn, of_table, IsNamed, IsPlannable, IsTypedBlock, IsWhole, KnowsScope, NamesColumn, NamesRelation, NamesRelations, Shows}

-- ---- the column

the_columns : own_columns (col 0 0) ≡ record { relation = 0; column = 0; type = ty.Number } ∷ []
the_columns = simp folds refl

no_placeholders : own_placeholders (col 0 0) ≡ []
no_placeholders = simp folds refl

-- ---- the query

typed_query : IsTyped schema [] a_query
unfolding ones
typed_query = record {
  expressions = simp folds refl;
  columns = simp folds refl;
  placeholders = simp folds refl;
  distinct = simp folds refl;
  apart = simp folds refl;
  tables = subst (All (λ table. table < 2)) (sym the_tables) (λ k d low. go k d low);
  rooted = simp folds refl;
  few = subst (λ tables. count_ones (union (map only tables)) ≤ 16) (sym the_leaves) (lit≤ tt);
}
  where
    the_tables : tables_in a_query ≡ 0 ∷ []
    the_tables = simp folds refl

    the_leaves : base_leaves_in a_query ≡ 0 ∷ []
    the_leaves = simp folds refl

    go : All (λ table. table < 2) (0 ∷ [])
    go zero d low = lit< tt
    go (suc k) d low = absurd (omega (arith, low))

bounded_query : IsBounded schema [] a_query
bounded_query = simp folds refl

no_right : HasNoRight a_query
no_right = simp folds refl

-- ---- the block

outline_at : QueryLayer → Outline
outline_at q = outline_in (filtered (shape_of q.tree) q.conds) (map output_expr q.columns ++ map order_expr q.order)

of_rows : outline_of a_query ≡ outline_in (filtered (shape_of a) []) (col 0 0 ∷ [])
unfolding outline_at
of_rows =
    ap outline_at (out-roll-Query (record { columns = a_column ∷ []; distinct = false; tree = a; conds = []; order = [] }))
    ∙ ap (λ (o : OutputLayer). outline_in (filtered (shape_of a) []) (o.expr ∷ [])) (out-roll-Output (record { name = []; ty = ty.Number; expr = col 0 0 }))

shape_a : shape_of a ≡ item a
shape_a = simp paras

the_outline : outline_of a_query ≡ record { rels = 1 ∷ []; joins = []; clauses = []; placeholders = [] }
the_outline = of_rows ∙ ap (λ shape. outline_in (filtered shape []) (col 0 0 ∷ [])) shape_a ∙ simp folds

made : IsMade a_block.problem
made = record {
  query = a_query;
  block = record { schema = schema; outer = []; typed = typed_query; bounded = bounded_query; no_right = no_right };
  items = sym (ap (λ (o : Outline). o.rels) the_outline);
  made = inl (sym (ap (problem_in (a_item ∷ [])) the_outline));
}

-- ---- lists of one

module _ {X : Type 0} (y : X) where
  is_one : (x : X) → Contains (y ∷ []) x → x ≡ y
  is_one x (zero, low, e) = sym e
  is_one x (suc k, low, e) = absurd (omega (arith, low))

  has_one : Contains (y ∷ []) y
  has_one = (0, lit< tt, refl)

  all_one : (P : X → Type 0) → P y → All P (y ∷ [])
  all_one P p zero d low = p
  all_one P p (suc k) d low = absurd (omega (arith, low))

  at_one : (k : ℕ) (x : X) → slice_get (y ∷ []) k ≡ Some x → x ≡ y
  at_one zero x e = cc
  at_one (suc k) x e = cc

none_in : {X : Type 0} (x : X) → ¬ Contains [] x
none_in x (k, low, e) = omega (arith, low)

all_none : {X : Type 0} (P : X → Type 0) → All P []
all_none P k d low = absurd (omega (arith, low))

-- ---- what stands in the block

c : ColumnRef
c = record { relation = 0; column = 0; type = ty.Number }

the_expr : output_expr a_column ≡ col 0 0
the_expr = ap (λ (o : OutputLayer). o.expr) (out-roll-Output (record { name = []; ty = ty.Number; expr = col 0 0 }))

the_ty : output_ty a_column ≡ ty.Number
the_ty = ap (λ (o : OutputLayer). o.ty) (out-roll-Output (record { name = []; ty = ty.Number; expr = col 0 0 }))

the_exprs : exprs_in a_block ≡ col 0 0 ∷ []
the_exprs = ap (λ e. e ∷ []) the_expr

names_c : columns_named a_block ≡ c ∷ []
unfolding c
names_c = ap (flat_map own_columns) the_exprs ∙ ap (λ cs. cs ++ []) the_columns

no_place : placeholders_named a_block ≡ []
no_place = ap (flat_map own_placeholders) the_exprs ∙ ap (λ ps. ps ++ []) no_placeholders

no_sublinks : sublinks_of a_block ≡ []
no_sublinks = ap (flat_map outermost) the_exprs ∙ simp paras

no_ins : in_sublinks_of a_block ≡ []
no_ins = ap (flat_map outermost_ins) the_exprs ∙ simp paras

has_relation : HasRelation a_block 0
has_relation = (a_item, has_one a_item, refl)

no_outer : (number : ℕ) (column : ColumnRef) → ¬ IsOuterReference a_scan number column
unfolding c
no_outer number column (named block at names hidden) =
    let is = at_one a_block number block at in
    let column_is : column ≡ c = is_one c column (subst (λ cs. Contains cs column) names_c (subst (λ b. Contains (columns_named b) column) is names)) in
    hidden (subst (λ b. HasRelation b column.relation) (sym is) (subst (λ (x : ColumnRef). HasRelation a_block x.relation) (sym column_is) has_relation))
no_outer number column (passed_on block inner at uses outer hidden) = no_uses (subst (λ b. Uses a_scan b inner) (at_one a_block number block at) uses)
  where
    no_uses : ¬ Uses a_scan a_block inner
    no_uses (by_item there) = none_in inner there
    no_uses (by_sublink sublink there is) = none_in sublink (subst (λ ss. Contains ss sublink) no_sublinks there)

-- ---- whole

scope : Scope
scope = record { relation = 0; columns = number_column ∷ number_column ∷ [] } ∷ []

plan : IsPlan a_block.problem (Scan 0)
plan = record { legal = lit< tt; whole = refl }

searchable : IsSearchable a_block.problem
searchable = record {
  some = lit≤ tt;
  few = lit≤ tt;
  estimable = record {
    typed = all_none IsTypedExpr;
    rows = all_one a_item HasStatedRows (lit≤ tt, lit≤ tt);
    distinct = all_one a_item (HasDistinct []) (positive, all_none (IsCounted 0 (10 ∷ 10 ∷ [])));
    sets = all_none HasApartSets;
  };
  costs = lit≤ tt;
  tree = Scan 0;
  plan = plan;
}
  where
    positive : All IsPositive (10 ∷ 10 ∷ [])
    positive zero d low = lit≤ tt
    positive (suc zero) d low = lit≤ tt
    positive (suc (suc k)) d low = absurd (omega (arith, low))

base_rel : (rel table : ℕ) → Base 0 0 ≡ Base rel table → 0 ≡ rel
base_rel rel table e = cc

base_table : (rel table : ℕ) → Base 0 0 ≡ Base rel table → 0 ≡ table
base_table rel table e = cc

base_not_sub : {X : Type 0} (rel number : ℕ) → Base 0 0 ≡ Sub rel number → X
base_not_sub rel number e = cc

shows : Shows schema a_scan scope
unfolding scope
shows = record {
  tables = λ block item rel table in_blocks in_items is.
      let kind = sym (ap (λ (x : Item). x.kind) (is_one a_item item (subst (λ (b : Block). Contains b.problem.items item) (is_one a_block block in_blocks) in_items))) ∙ is in
      subst₂ (λ r t. visible_columns scope r ≡ columns_of_table (slice_get schema t)) (base_rel rel table kind) (base_table rel table kind) refl;
  selects = λ block item rel number inner in_blocks in_items is at.
      base_not_sub rel number (sym (ap (λ (x : Item). x.kind) (is_one a_item item (subst (λ (b : Block). Contains b.problem.items item) (is_one a_block block in_blocks) in_items))) ∙ is);
}

only_zero : (rel : ℕ) → Has 1 rel → NamesRelation a_scan rel
only_zero rel h = elim (cases_eq rel 0) [
  | inl e ↦ subst (NamesRelation a_scan) (sym e) refl
  | inr d ↦ absurd (omega (arith, bit_at-pow_other 0 rel d, h))
]

pub a_scan_is_whole : IsWhole a_scan
unfolding c scope
a_scan_is_whole = record {
  schema = schema;
  scope = scope;
  shows = shows;
  statement = record { there = lit< tt; alone = no_outer 0 };
  alone = λ number inner block column at there outer. absurd (no_outer inner column outer);
  columns = all_one a_block (λ (b : Block). All (IsColumn schema a_scan) (columns_named b)) (subst (All (IsColumn schema a_scan)) (sym names_c) (all_one c (IsColumn schema a_scan) (of_table a_block a_item 0 number_column (has_one a_block) (has_one a_item) refl refl refl)));
  plannable = all_one a_block IsPlannable (record { made = made; searchable = searchable });
  plans = all_one a_block (HasPlan a_scan) (Scan 0, refl, plan);
  behind = λ number inner block at there. absurd (none_in inner (subst (λ b. Contains (item_blocks b) inner) (at_one a_block number block at) there));
  sublinks = λ number block sublink at there. absurd (none_in sublink (subst (λ ss. Contains ss sublink) no_sublinks (subst (λ b. Contains (sublinks_of b) sublink) (at_one a_block number block at) there)));
  ins = λ number place block inner sublink at there inner_at sub. absurd (none_in sublink (subst (λ ss. Contains ss sublink) no_ins (subst (λ b. Contains (in_sublinks_of b) sublink) (at_one a_block number block at) there)));
  named = all_one a_block (IsNamed a_scan) (record {
    items = all_one a_item (λ (x : Item). NamesRelations a_scan x.rels) only_zero;
    placeholders = subst (All (NamesRelations a_scan)) (sym no_place) (all_none (NamesRelations a_scan));
    columns = subst (All (NamesColumn a_scan)) (sym names_c) (all_one c (NamesColumn a_scan) (a_name, refl, lit< tt));
  });
  typed = all_one a_block (IsTypedBlock schema scope) (record {
    typed = subst (All IsTypedExpr) (sym the_exprs) (all_one (col 0 0) IsTypedExpr (simp folds refl));
    known = subst (All (KnowsScope schema scope)) (sym the_exprs) (all_one (col 0 0) (KnowsScope schema scope) known);
    bounded = subst (All (IsBoundedExpr schema scope)) (sym the_exprs) (all_one (col 0 0) (IsBoundedExpr schema scope) bounded);
    outputs = all_one a_column HasItsType (ap type_of the_expr ∙ its_type ∙ sym (ap (λ t. Some t) the_ty));
    conditions = all_none IsBoolean;
  });
}
  where
    known : KnowsScope schema scope (col 0 0)
    known = simp folds refl

    bounded : IsBoundedExpr schema scope (col 0 0)
    bounded = simp folds refl

    its_type : type_of (col 0 0) ≡ Some ty.Number
    its_type = simp folds refl
