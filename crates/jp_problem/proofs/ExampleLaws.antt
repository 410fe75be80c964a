-- The definitions run on the worked chains of left joins.
use Rattle.std.proofs.Common.{◌≡◌, ◌∙◌, ap, sym, refl, [], ◌∷◌, ◌++◌, ℕ, List, map, Bool, true, false, arith}
use Rattle.jp_query.specs.declared.Expr.{Expr}
use Rattle.jp_query.specs.declared.JoinKind.TheVariants as join
use Rattle.jp_query.specs.declared.JoinTree.{JoinTree}
use Rattle.jp_base.specs.declared.values.Ty.TheVariants as ty
use Rattle.jp_query.specs.declared.Output.{Output, out-roll-Output}
use Rattle.jp_query.specs.declared.Expr.TheViews.{roll-Output}
use Rattle.jp_query.specs.declared.Query.{out-roll-Query}
use Rattle.jp_query.specs.Layers.{QueryLayer, OutputLayer}
use Rattle.jp_query.specs.Nullness.{rejects}
use Rattle.jp_query.specs.Nullness.Gone.{relations}
use Rattle.jp_query.specs.TreeExamples.{a, b, one, col, coalesce, equals}
use Rattle.jp_query.proofs.TreeRules.{folds, paras}
use Rattle.jp_problem.specs.declared.types.Special.{Special}
use Rattle.jp_problem.specs.Shapes.{Shape, item, filtered, special, shape_of}
use Rattle.jp_problem.specs.declared.types.Outline.{Outline}
use Rattle.jp_problem.specs.declared.types.Written.{Written}
use Rattle.jp_problem.specs.Blocks.{outline_of, outline_in, output_expr, order_expr}
use Rattle.jp_problem.specs.MinimumSets.{specials_in, specials_of}
use Rattle.std.proofs.lemmas.Bool.{both_ways}
use Rattle.jp_problem.specs.declared.types.Item.{Item}
use Rattle.jp_problem.specs.Legal.{IsJoinable}
use Rattle.jp_problem.specs.Problems.{problem_of}
use Rattle.jp_problem.proofs.LegalLaws.{joinable_says}
use Rattle.jp_problem.specs.LegalTests.{is_joinable, stands, others_hang, hanging, hangs_by, is_inside}
use Rattle.jp_problem.specs.Examples.{c, d, a_b_c, a_b_keeps_c, chain, chain_keeps_d, rows_of, sets_in, sets_of}

-- the ON lists
abbrev a_is_b : List Expr
a_is_b = equals (col 0 0) (col 1 1) ∷ []

abbrev b_is_c : List Expr
b_is_c = equals (col 1 0) (col 2 1) ∷ []

abbrev b_or_one_is_c : List Expr
b_or_one_is_c = equals (coalesce (col 1 0) one) (col 2 1) ∷ []

abbrev c_is_d : List Expr
c_is_d = equals (col 2 2) (col 3 0) ∷ []

abbrev c_or_one_is_d : List Expr
c_or_one_is_d = equals (coalesce (col 2 2) one) (col 3 0) ∷ []

strict_a : rejects (relations 1) a_is_b ≡ true
strict_a = grind (arith, folds)

strict_b : rejects (relations 2) b_is_c ≡ true
strict_b = grind (arith, folds)

open_b : rejects (relations 2) b_or_one_is_c ≡ false
open_b = grind (arith, folds)

open_ab : rejects (relations 3) b_or_one_is_c ≡ false
open_ab = grind (arith, folds)

strict_c : rejects (relations 4) c_is_d ≡ true
strict_c = grind (arith, folds)

open_c : rejects (relations 4) c_or_one_is_d ≡ false
open_c = grind (arith, folds)

open_b_of_d : rejects (relations 2) c_or_one_is_d ≡ false
open_b_of_d = grind (arith, folds)

open_abc : rejects (relations 7) c_or_one_is_d ≡ false
open_abc = grind (arith, folds)

not_b_of_d : rejects (relations 2) c_is_d ≡ false
not_b_of_d = grind (arith, folds)

-- ---- a select without WHERE and ORDER BY

one_row : Output
one_row = roll-Output (record { name = []; ty = ty.Number; expr = one })

outline_at : QueryLayer → Outline
outline_at q = outline_in (filtered (shape_of q.tree) q.conds) (map output_expr q.columns ++ map order_expr q.order)

of_rows : (tree : JoinTree) → outline_of (rows_of tree) ≡ outline_in (filtered (shape_of tree) []) (one ∷ [])
unfolding outline_at one_row
of_rows tree =
    ap outline_at (out-roll-Query (record { columns = one_row ∷ []; distinct = false; tree = tree; conds = []; order = [] }))
    ∙ ap (λ (o : OutputLayer). outline_in (filtered (shape_of tree) []) (o.expr ∷ [])) (out-roll-Output (record { name = []; ty = ty.Number; expr = one }))

-- ---- shapes

abbrev lefts : Shape → Shape → List Expr → Shape
lefts left right on = special join.Left left right on

shape_a_b_c : shape_of a_b_c ≡ lefts (lefts (item a) (item b) a_is_b) (item c) b_is_c
shape_a_b_c = simp paras

shape_a_b_keeps_c : shape_of a_b_keeps_c ≡ lefts (lefts (item a) (item b) a_is_b) (item c) b_or_one_is_c
shape_a_b_keeps_c = simp paras

shape_chain : shape_of chain ≡ lefts (lefts (lefts (item a) (item b) a_is_b) (item c) b_is_c) (item d) c_is_d
shape_chain = simp paras

shape_chain_keeps_d : shape_of chain_keeps_d ≡ lefts (lefts (lefts (item a) (item b) a_is_b) (item c) b_is_c) (item d) c_or_one_is_d
shape_chain_keeps_d = simp paras

-- ---- blocks

abbrev chained : ℕ → ℕ → ℕ → List Expr → ℕ → Written
chained number left right on uses = record { no = number; kind = join.Left; syn_left = left; syn_right = right; region = 0; on = on; uses = uses }

abbrev chain_of : List ℕ → List Written → Outline
chain_of rels joins = record { rels = rels; joins = joins; clauses = []; placeholders = [] }

block_a_b_c : outline_of (rows_of a_b_c) ≡ chain_of (1 ∷ 2 ∷ 4 ∷ []) (chained 1 1 2 a_is_b 3 ∷ chained 2 3 4 b_is_c 6 ∷ [])
block_a_b_c = of_rows a_b_c ∙ ap (λ shape. outline_in (filtered shape []) (one ∷ [])) shape_a_b_c ∙ simp folds

block_a_b_keeps_c : outline_of (rows_of a_b_keeps_c) ≡ chain_of (1 ∷ 2 ∷ 4 ∷ []) (chained 1 1 2 a_is_b 3 ∷ chained 2 3 4 b_or_one_is_c 6 ∷ [])
block_a_b_keeps_c = of_rows a_b_keeps_c ∙ ap (λ shape. outline_in (filtered shape []) (one ∷ [])) shape_a_b_keeps_c ∙ simp folds

block_chain : outline_of (rows_of chain) ≡ chain_of (1 ∷ 2 ∷ 4 ∷ 8 ∷ []) (chained 1 1 2 a_is_b 3 ∷ chained 2 3 4 b_is_c 6 ∷ chained 3 7 8 c_is_d 12 ∷ [])
block_chain = of_rows chain ∙ ap (λ shape. outline_in (filtered shape []) (one ∷ [])) shape_chain ∙ simp folds

block_chain_keeps_d : outline_of (rows_of chain_keeps_d) ≡ chain_of (1 ∷ 2 ∷ 4 ∷ 8 ∷ []) (chained 1 1 2 a_is_b 3 ∷ chained 2 3 4 b_is_c 6 ∷ chained 3 7 8 c_or_one_is_d 12 ∷ [])
block_chain_keeps_d = of_rows chain_keeps_d ∙ ap (λ shape. outline_in (filtered shape []) (one ∷ [])) shape_chain_keeps_d ∙ simp folds

-- ---- special joins

abbrev joined : ℕ → ℕ → ℕ → ℕ → ℕ → List Expr → Bool → Special
joined number needed needed_right left right on strict = record { no = number; kind = join.Left; min_left = needed; min_right = needed_right; syn_left = left; syn_right = right; lhs_strict = strict; region = 0; on = on }

abbrev specials_a_b : List Special
specials_a_b = joined 1 1 2 1 2 a_is_b true ∷ []

abbrev specials_a_b_c : List Special
specials_a_b_c = specials_a_b ++ joined 2 2 4 3 4 b_is_c true ∷ []

abbrev specials_a_b_keeps_c : List Special
specials_a_b_keeps_c = specials_a_b ++ joined 2 3 4 3 4 b_or_one_is_c false ∷ []

abbrev specials_chain : List Special
specials_chain = specials_a_b_c ++ joined 3 4 8 7 8 c_is_d true ∷ []

abbrev specials_chain_keeps_d : List Special
specials_chain_keeps_d = specials_a_b_c ++ joined 3 7 8 7 8 c_or_one_is_d false ∷ []

pub of_a_b_c : specials_of (rows_of a_b_c) ≡ specials_a_b_c
of_a_b_c = ap specials_in block_a_b_c ∙ simp (strict_a, strict_b)

pub of_a_b_keeps_c : specials_of (rows_of a_b_keeps_c) ≡ specials_a_b_keeps_c
of_a_b_keeps_c = ap specials_in block_a_b_keeps_c ∙ simp (strict_a, open_b, open_ab)

pub of_chain : specials_of (rows_of chain) ≡ specials_chain
of_chain = ap specials_in block_chain ∙ simp (strict_a, strict_b, strict_c, not_b_of_d)

pub of_chain_keeps_d : specials_of (rows_of chain_keeps_d) ≡ specials_chain_keeps_d
of_chain_keeps_d = ap specials_in block_chain_keeps_d ∙ simp (strict_a, strict_b, open_c, open_b_of_d, open_abc)

-- ---- what is said of them

pub sets_a_b_c : sets_in a_b_c ≡ (1, 2) ∷ (2, 4) ∷ []
sets_a_b_c = ap (map sets_of) of_a_b_c

pub sets_a_b_keeps_c : sets_in a_b_keeps_c ≡ (1, 2) ∷ (3, 4) ∷ []
sets_a_b_keeps_c = ap (map sets_of) of_a_b_keeps_c

pub sets_chain : sets_in chain ≡ (1, 2) ∷ (2, 4) ∷ (4, 8) ∷ []
sets_chain = ap (map sets_of) of_chain

pub sets_chain_keeps_d : sets_in chain_keeps_d ≡ (1, 2) ∷ (2, 4) ∷ (7, 8) ∷ []
sets_chain_keeps_d = ap (map sets_of) of_chain_keeps_d

-- a set is joinable, or isn't, as the test computes
module _ (tree : JoinTree) (joins : List Special) (are : specials_of (rows_of tree) ≡ joins) (set : ℕ) (items : List Item) where
  pub can_join : is_joinable joins set ≡ true → IsJoinable (problem_of items (rows_of tree)) set
  can_join e = (joinable_says (problem_of items (rows_of tree)) set).0 (ap (λ js. is_joinable js set) are ∙ e)

  pub cannot_join : is_joinable joins set ≡ false → ¬ IsJoinable (problem_of items (rows_of tree)) set
  cannot_join e j = both_ways (is_joinable joins set) e (sym (ap (λ js. is_joinable js set) are) ∙ (joinable_says (problem_of items (rows_of tree)) set).1 j)

module _ (items : List Item) where
  pub b_c_in_a_b_c : IsJoinable (problem_of items (rows_of a_b_c)) 6
  unfolding is_joinable stands others_hang hanging hangs_by is_inside
  b_c_in_a_b_c = can_join a_b_c specials_a_b_c of_a_b_c 6 items refl

  pub b_c_in_a_b_keeps_c : ¬ IsJoinable (problem_of items (rows_of a_b_keeps_c)) 6
  unfolding is_joinable stands others_hang hanging hangs_by is_inside
  b_c_in_a_b_keeps_c = cannot_join a_b_keeps_c specials_a_b_keeps_c of_a_b_keeps_c 6 items refl

  pub b_c_in_chain_keeps_d : IsJoinable (problem_of items (rows_of chain_keeps_d)) 6
  unfolding is_joinable stands others_hang hanging hangs_by is_inside
  b_c_in_chain_keeps_d = can_join chain_keeps_d specials_chain_keeps_d of_chain_keeps_d 6 items refl

  pub c_d_in_chain_keeps_d : ¬ IsJoinable (problem_of items (rows_of chain_keeps_d)) 12
  unfolding is_joinable stands others_hang hanging hangs_by is_inside
  c_d_in_chain_keeps_d = cannot_join chain_keeps_d specials_chain_keeps_d of_chain_keeps_d 12 items refl

  pub b_c_d_in_chain_keeps_d : ¬ IsJoinable (problem_of items (rows_of chain_keeps_d)) 14
  unfolding is_joinable stands others_hang hanging hangs_by is_inside
  b_c_d_in_chain_keeps_d = cannot_join chain_keeps_d specials_chain_keeps_d of_chain_keeps_d 14 items refl

  pub c_d_in_chain : IsJoinable (problem_of items (rows_of chain)) 12
  unfolding is_joinable stands others_hang hanging hangs_by is_inside
  c_d_in_chain = can_join chain specials_chain of_chain 12 items refl

  pub b_c_d_in_chain : IsJoinable (problem_of items (rows_of chain)) 14
  unfolding is_joinable stands others_hang hanging hangs_by is_inside
  b_c_d_in_chain = can_join chain specials_chain of_chain 14 items refl

  pub b_d_in_chain : ¬ IsJoinable (problem_of items (rows_of chain)) 10
  unfolding is_joinable stands others_hang hanging hangs_by is_inside
  b_d_in_chain = cannot_join chain specials_chain of_chain 10 items refl
