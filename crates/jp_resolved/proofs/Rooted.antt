-- Each join tree in what is made has a leaf.
use Rattle.std.proofs.Common.{◌≡◌, ◌∙◌, ap, ap₂, sym, subst, refl, Bool, true, List, [], ◌∷◌, map}
use Rattle.std.specs.Prelude.{◌&&◌}
use Rattle.std.proofs.lemmas.Bool.{and_from, false≢true}
use Rattle.jp_query.specs.Conditions.{all_true, expr_rooted, tree_rooted, order_rooted, output_rooted, query_rooted, has_leaves}
use Rattle.jp_query.specs.Parts.{parts}
use Rattle.jp_query.specs.Typing.{is_listed}
use Rattle.jp_induction.proofs.EachPart.{Each, parts_map}
use Rattle.jp_query.specs.declared.Expr.{Expr}
use Rattle.jp_query.specs.declared.Expr.TheViews.{roll-Expr, roll-Query}
use Rattle.jp_query.specs.declared.Expr.TheFolds.{map-Expr, fold-Order, fold-Output, fold-roll-Expr, fold-roll-Query}
use Rattle.jp_query.specs.declared.JoinTree.{JoinTree}
use Rattle.jp_query.specs.declared.JoinTree.TheVariants as tree
use Rattle.jp_query.specs.declared.Order.{Order}
use Rattle.jp_query.specs.declared.Output.{Output}
use Rattle.jp_query.specs.declared.Query.{Query}
use Rattle.jp_query.specs.Layers.{ExprLayer, QueryLayer}
use Rattle.jp_query.specs.Scopes.{Scope, Schema}
use Rattle.jp_query.proofs.FoldLaws as laws
use Rattle.jp_resolution.specs.declared.words.Counts.{Counts}
use Rattle.jp_resolution.specs.Counting.{next_relation, next_sublink}
use Rattle.jp_resolution.specs.Resolving.{kind_of}
use Rattle.jp_resolved.specs.Sorted.{expr_of_output, expr_of_order}
use Rattle.jp_resolved.proofs.Made.{is_operator, Steps, TreesAlong}
use Rattle.jp_resolved.proofs.Operands.{no_sublink, operator_map, along_each}

abbrev of_expr : Expr → Bool
of_expr = laws.of_expr Bool Bool Bool Bool Bool expr_rooted tree_rooted order_rooted output_rooted query_rooted

abbrev of_tree : JoinTree → Bool
of_tree = laws.of_tree Bool Bool Bool Bool Bool expr_rooted tree_rooted order_rooted output_rooted query_rooted

abbrev of_output : Output → Bool
of_output = fold-Output Bool Bool Bool Bool Bool expr_rooted tree_rooted order_rooted output_rooted query_rooted

abbrev of_order : Order → Bool
of_order = fold-Order Bool Bool Bool Bool Bool expr_rooted tree_rooted order_rooted output_rooted query_rooted

abbrev pub IsRooted : Expr → Type 0
IsRooted e = of_expr e ≡ true

abbrev pub ExprRooted : Scope → Counts → Counts → Expr → Type 0
ExprRooted scope a b e = IsRooted e

abbrev pub TreeRooted : Scope → Counts → Counts → Scope → JoinTree → Type 0
TreeRooted outer a b own t = of_tree t ≡ true

abbrev pub SelectRooted : Scope → Counts → Counts → QueryLayer → Type 0
SelectRooted outer a b level = has_leaves (roll-Query level) ≡ true

all_of : (es : List Expr) → Each IsRooted es → all_true (map of_expr es) ≡ true
all_of [] each = refl
all_of (e ∷ es) each = and_from (of_expr e) (all_true (map of_expr es)) each.0 (all_of es each.1)

outputs_of : (outputs : List Output) → Each IsRooted (map expr_of_output outputs) → all_true (map of_output outputs) ≡ true
outputs_of [] each = refl
outputs_of (o ∷ outputs) each = and_from (of_output o) (all_true (map of_output outputs)) (laws.at-Output Bool Bool Bool Bool Bool expr_rooted tree_rooted order_rooted output_rooted query_rooted o ∙ each.0) (outputs_of outputs each.1)

orders_of : (orders : List Order) → Each IsRooted (map expr_of_order orders) → all_true (map of_order orders) ≡ true
orders_of [] each = refl
orders_of (o ∷ orders) each = and_from (of_order o) (all_true (map of_order orders)) (laws.at-Order Bool Bool Bool Bool Bool expr_rooted tree_rooted order_rooted output_rooted query_rooted o ∙ each.0) (orders_of orders each.1)

trees_of : (outer : Scope) (a b : Counts) (own : Scope) (ts : List JoinTree) → TreesAlong (TreeRooted outer) a b own ts → all_true (map of_tree ts) ≡ true
trees_of outer a b own [] along = refl
trees_of outer a b own (t ∷ ts) along = and_from (of_tree t) (all_true (map of_tree ts)) along.4 (trees_of outer along.0 b along.2 ts along.5)

operator_rooted : (x : ExprLayer) → is_operator x ≡ true → Each IsRooted (parts x) → IsRooted (roll-Expr x)
operator_rooted x is each =
    let level = map-Expr Expr JoinTree Order Output Query Bool Bool Bool Bool Bool of_expr of_tree of_order of_output has_leaves x in
    let op = operator_map of_expr of_tree of_order of_output has_leaves x is in
    fold-roll-Expr Bool Bool Bool Bool Bool expr_rooted tree_rooted order_rooted output_rooted query_rooted x
    ∙ ap (λ qs. all_true (parts level) && all_true qs) (no_sublink level op)
    ∙ ap (λ ps. all_true ps && true) (parts_map of_expr of_tree of_order of_output has_leaves x)
    ∙ and_from (all_true (map of_expr (parts x))) true (all_of (parts x) each) refl

listed_map : (members : List JoinTree) → is_listed members ≡ true → is_listed (map of_tree members) ≡ true
listed_map [] h = absurd (false≢true h)
listed_map (t ∷ members) h = refl

pub select_rooted : (outer own : Scope) (m n : Counts) (level : QueryLayer) (members : List JoinTree) → is_listed members ≡ true → level.tree ≡ tree.From members [] → Each IsRooted (map expr_of_output level.columns) → TreesAlong (TreeRooted outer) m n own members → Each IsRooted level.conds → Each IsRooted (map expr_of_order level.order) → has_leaves (roll-Query level) ≡ true
select_rooted outer own m n level members some is outputs trees conds orders =
    let us = map of_output level.columns in
    let cs = map of_expr level.conds in
    let os = map of_order level.order in
    let from : of_tree level.tree ≡ true = ap of_tree is ∙ laws.at-From Bool Bool Bool Bool Bool expr_rooted tree_rooted order_rooted output_rooted query_rooted members [] ∙ and_from (is_listed (map of_tree members)) (all_true (map of_tree members) && true) (listed_map members some) (and_from (all_true (map of_tree members)) true (trees_of outer m n own members trees) refl) in
    fold-roll-Query Bool Bool Bool Bool Bool expr_rooted tree_rooted order_rooted output_rooted query_rooted level
    ∙ and_from (all_true us) (of_tree level.tree && (all_true cs && all_true os)) (outputs_of level.columns outputs)
    (and_from (of_tree level.tree) (all_true cs && all_true os) from (and_from (all_true cs) (all_true os) (all_of level.conds conds) (orders_of level.order orders)))

pub rooting : (schema : Schema) → Steps schema ExprRooted TreeRooted SelectRooted
rooting schema = record {
  at_column = λ scope a b rel place c all there small. laws.at-Col Bool Bool Bool Bool Bool expr_rooted tree_rooted order_rooted output_rooted query_rooted rel place c.type 0;
  at_operator = λ scope a b x is small along. operator_rooted x is (along_each IsRooted a b (parts x) along);
  at_exists = λ scope a b level h. laws.at-Exists Bool Bool Bool Bool Bool expr_rooted tree_rooted order_rooted output_rooted query_rooted (next_sublink a) (roll-Query level) ∙ ap (λ v. v && true) h;
  at_among = λ scope a m b operand level p h. laws.at-InSub Bool Bool Bool Bool Bool expr_rooted tree_rooted order_rooted output_rooted query_rooted (next_sublink a) operand (roll-Query level) ∙ ap₂ (λ u v. (u && true) && (v && true)) p h;
  at_base = λ outer a b name place columns all apart there. laws.at-Base Bool Bool Bool Bool Bool expr_rooted tree_rooted order_rooted output_rooted query_rooted (next_relation a) name place;
  at_sub = λ outer a b name level apart h. laws.at-Sub Bool Bool Bool Bool Bool expr_rooted tree_rooted order_rooted output_rooted query_rooted (next_relation a) name (roll-Query level) ∙ ap (λ v. v && true) h;
  at_joined = λ outer a m n b kind l r left right on apart p q along.
      laws.at-Join Bool Bool Bool Bool Bool expr_rooted tree_rooted order_rooted output_rooted query_rooted (kind_of kind) left right on ∙ and_from (of_tree left && (of_tree right && true)) (all_true (map of_expr on) && true) (ap₂ (λ u v. u && (v && true)) p q)
      (and_from (all_true (map of_expr on)) true (all_of on (along_each IsRooted n b on along)) refl);
  at_select = λ outer a m n b own level members plain some is apart outputs trees conds.
      select_rooted outer own m n level members some is (along_each IsRooted a m (map expr_of_output level.columns) outputs) trees (along_each IsRooted n b level.conds conds) (subst (λ os. Each IsRooted (map expr_of_order os)) (sym plain) tt);
}
