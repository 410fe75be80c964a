-- What is made gathers from its levels: nothing from its expressions, and from each leaf what stands at the leaf's number.
use Rattle.std.proofs.Common.{◌≡◌, ◌∙◌, ap, ap₂, sym, subst, refl, ℕ, ◌+◌, Bool, true, false, List, [], ◌∷◌, ◌++◌, map, Some}
use Rattle.std.specs.List.{slice_get}
use Rattle.std.proofs.lemmas.List.{append-nil}
use Rattle.jp_ast.specs.declared.tree.JoinWord.{JoinWord}
use Rattle.jp_query.specs.Parts.{all_in, parts, option_part, sublink_query, expr_gives, tree_gives, order_gives, output_gives, query_gives, gathered, gathered_in_tree, gathered_in_query}
use Rattle.jp_induction.proofs.EachPart.{parts_map}
use Rattle.jp_query.specs.declared.Expr.{Expr}
use Rattle.jp_query.specs.declared.Expr.TheVariants as expr
use Rattle.jp_query.specs.declared.Expr.TheOpen.{Expr-F, JoinTree-F}
use Rattle.jp_query.specs.declared.Expr.TheViews.{roll-Expr, roll-Query}
use Rattle.jp_query.specs.declared.Expr.TheFolds.{map-Expr, fold-Order, fold-Output, fold-roll-Expr, fold-roll-Query}
use Rattle.jp_query.specs.declared.JoinTree.{JoinTree}
use Rattle.jp_query.specs.declared.JoinTree.TheVariants as tree
use Rattle.jp_query.specs.declared.Order.{Order}
use Rattle.jp_query.specs.declared.Output.{Output}
use Rattle.jp_query.specs.declared.Query.{Query}
use Rattle.jp_query.specs.Layers.{ExprLayer, QueryLayer}
use Rattle.jp_query.specs.Scopes.{Column, Scope, Schema}
use Rattle.jp_query.proofs.FoldLaws as laws
use Rattle.jp_resolution.specs.declared.words.Counts.{Counts}
use Rattle.jp_resolution.specs.Counting.{next_relation, next_sublink}
use Rattle.jp_resolution.specs.Resolving.{kind_of}
use Rattle.jp_resolved.specs.Sorted.{expr_of_output, expr_of_order}
use Rattle.jp_resolved.proofs.Spans.{right_zero, Along}
use Rattle.jp_resolved.proofs.Made.{is_operator, Steps, TreesAlong}
use Rattle.jp_resolved.proofs.Operands.{is_place, operator_no_place, no_sublink, operator_map}

abbrev pub is_leaf : {A B C D F : Type 0} → JoinTree-F A B C D F → Bool
is_leaf (JoinTree-F.Base rel name table) = true
is_leaf (JoinTree-F.Sub rel name query) = true
is_leaf _ = false

module _ (X : Type 0) (of_node : Expr-F (List X) (List X) (List X) (List X) (List X) → List X) (of_leaf : JoinTree-F (List X) (List X) (List X) (List X) (List X) → List X) (schema : Schema) (Q : ℕ → ℕ → List X → Type 0) where
  -- what is gathered by itself, over the span of the leaves' numbers
  pub record Sources : Type 0 where
    pub nodes : (x : Expr-F (List X) (List X) (List X) (List X) (List X)) → is_place x ≡ false → of_node x ≡ []
    pub inner : (t : JoinTree-F (List X) (List X) (List X) (List X) (List X)) → is_leaf t ≡ false → of_leaf t ≡ []
    pub none : (n : ℕ) → Q n n []
    pub base : (n : ℕ) (name : List ℕ) (place : ℕ) (columns : List Column) → slice_get schema place ≡ Some columns → Q n (n + 1) (of_leaf (JoinTree-F.Base n name place))
    pub sub : (n : ℕ) (name : List ℕ) (query : List X) → Q n (n + 1) (of_leaf (JoinTree-F.Sub n name query))
    pub join : (a m b : ℕ) (xs ys : List X) → Q a m xs → Q m b ys → Q a b (xs ++ ys)

  module _ (sources : Sources) where
    abbrev pub of_expr : Expr → List X
    of_expr = gathered X of_node of_leaf

    abbrev pub of_tree : JoinTree → List X
    of_tree = gathered_in_tree X of_node of_leaf

    abbrev pub of_query : Query → List X
    of_query = gathered_in_query X of_node of_leaf

    abbrev of_output : Output → List X
    of_output = fold-Output (List X) (List X) (List X) (List X) (List X) (expr_gives X of_node of_leaf) (tree_gives X of_node of_leaf) (order_gives X of_node of_leaf) (output_gives X of_node of_leaf) (query_gives X of_node of_leaf)

    abbrev of_order : Order → List X
    of_order = fold-Order (List X) (List X) (List X) (List X) (List X) (expr_gives X of_node of_leaf) (tree_gives X of_node of_leaf) (order_gives X of_node of_leaf) (output_gives X of_node of_leaf) (query_gives X of_node of_leaf)

    abbrev pub ExprGives : Scope → Counts → Counts → Expr → Type 0
    ExprGives scope a b e = Q a.entries b.entries (of_expr e)

    abbrev pub TreeGives : Scope → Counts → Counts → Scope → JoinTree → Type 0
    TreeGives outer a b own t = Q a.entries b.entries (of_tree t)

    abbrev pub SelectGives : Scope → Counts → Counts → QueryLayer → Type 0
    SelectGives outer a b level = Q a.entries b.entries (of_query (roll-Query level))

    same_none : (a b : Counts) → a ≡ b → Q a.entries b.entries []
    same_none a b same = subst (λ (c : Counts). Q a.entries c.entries []) same (sources.none a.entries)

    pub all_along : (scope : Scope) (a b : Counts) (es : List Expr) → Along (ExprGives scope) a b es → Q a.entries b.entries (all_in (map of_expr es))
    all_along scope a b [] along = same_none a b along
    all_along scope a b (e ∷ es) along = sources.join a.entries along.0.entries b.entries (of_expr e) (all_in (map of_expr es)) along.1 (all_along scope along.0 b es along.2)

    pub trees_along : (outer : Scope) (a b : Counts) (own : Scope) (ts : List JoinTree) → TreesAlong (TreeGives outer) a b own ts → Q a.entries b.entries (all_in (map of_tree ts))
    trees_along outer a b own [] along = same_none a b along.1
    trees_along outer a b own (t ∷ ts) along = sources.join a.entries along.0.entries b.entries (of_tree t) (all_in (map of_tree ts)) along.4 (trees_along outer along.0 b along.2 ts along.5)

    abbrev level_of : ExprLayer → Expr-F (List X) (List X) (List X) (List X) (List X)
    level_of x = map-Expr Expr JoinTree Order Output Query (List X) (List X) (List X) (List X) (List X) of_expr of_tree of_order of_output of_query x

    operator_gives : (x : ExprLayer) → is_operator x ≡ true → of_expr (roll-Expr x) ≡ all_in (map of_expr (parts x))
    operator_gives x is =
        let level = level_of x in
        let op = operator_map of_expr of_tree of_order of_output of_query x is in
        fold-roll-Expr (List X) (List X) (List X) (List X) (List X) (expr_gives X of_node of_leaf) (tree_gives X of_node of_leaf) (order_gives X of_node of_leaf) (output_gives X of_node of_leaf) (query_gives X of_node of_leaf) x
        ∙ ap (λ ns. ns ++ (all_in (parts level) ++ all_in (option_part (sublink_query level)))) (sources.nodes level (operator_no_place level op))
        ∙ ap (λ qs. all_in (parts level) ++ all_in qs) (no_sublink level op)
        ∙ append-nil (all_in (parts level))
        ∙ ap all_in (parts_map of_expr of_tree of_order of_output of_query x)

    column_gives : (rel place : ℕ) (c : Column) → of_expr (expr.Col rel place c.type 0) ≡ []
    column_gives rel place c = laws.at-Col (List X) (List X) (List X) (List X) (List X) (expr_gives X of_node of_leaf) (tree_gives X of_node of_leaf) (order_gives X of_node of_leaf) (output_gives X of_node of_leaf) (query_gives X of_node of_leaf) rel place c.type 0 ∙ ap (λ ns. ns ++ []) (sources.nodes (Expr-F.Col rel place c.type 0) refl)

    exists_gives : (sub : ℕ) (q : Query) → of_expr (expr.Exists sub q) ≡ of_query q
    exists_gives sub q = laws.at-Exists (List X) (List X) (List X) (List X) (List X) (expr_gives X of_node of_leaf) (tree_gives X of_node of_leaf) (order_gives X of_node of_leaf) (output_gives X of_node of_leaf) (query_gives X of_node of_leaf) sub q ∙ ap (λ ns. ns ++ (of_query q ++ [])) (sources.nodes (Expr-F.Exists sub (of_query q)) refl) ∙ append-nil (of_query q)

    among_gives : (sub : ℕ) (operand : Expr) (q : Query) → of_expr (expr.InSub sub operand q) ≡ of_expr operand ++ of_query q
    among_gives sub operand q =
        laws.at-InSub (List X) (List X) (List X) (List X) (List X) (expr_gives X of_node of_leaf) (tree_gives X of_node of_leaf) (order_gives X of_node of_leaf) (output_gives X of_node of_leaf) (query_gives X of_node of_leaf) sub operand q ∙ ap (λ ns. ns ++ ((of_expr operand ++ []) ++ (of_query q ++ []))) (sources.nodes (Expr-F.InSub sub (of_expr operand) (of_query q)) refl)
        ∙ ap₂ (λ xs ys. xs ++ ys) (append-nil (of_expr operand)) (append-nil (of_query q))

    base_gives : (rel : ℕ) (name : List ℕ) (place : ℕ) → of_tree (tree.Base rel name place) ≡ of_leaf (JoinTree-F.Base rel name place)
    base_gives rel name place = laws.at-Base (List X) (List X) (List X) (List X) (List X) (expr_gives X of_node of_leaf) (tree_gives X of_node of_leaf) (order_gives X of_node of_leaf) (output_gives X of_node of_leaf) (query_gives X of_node of_leaf) rel name place ∙ append-nil (of_leaf (JoinTree-F.Base rel name place))

    sub_gives : (rel : ℕ) (name : List ℕ) (q : Query) → of_tree (tree.Sub rel name q) ≡ of_leaf (JoinTree-F.Sub rel name (of_query q)) ++ of_query q
    sub_gives rel name q = laws.at-Sub (List X) (List X) (List X) (List X) (List X) (expr_gives X of_node of_leaf) (tree_gives X of_node of_leaf) (order_gives X of_node of_leaf) (output_gives X of_node of_leaf) (query_gives X of_node of_leaf) rel name q ∙ ap (λ xs. of_leaf (JoinTree-F.Sub rel name (of_query q)) ++ xs) (append-nil (of_query q))

    joined_gives : (kind : JoinWord) (left right : JoinTree) (on : List Expr) → of_tree (tree.Join (kind_of kind) left right on) ≡ (of_tree left ++ of_tree right) ++ all_in (map of_expr on)
    joined_gives kind left right on =
        laws.at-Join (List X) (List X) (List X) (List X) (List X) (expr_gives X of_node of_leaf) (tree_gives X of_node of_leaf) (order_gives X of_node of_leaf) (output_gives X of_node of_leaf) (query_gives X of_node of_leaf) (kind_of kind) left right on
        ∙ ap (λ xs. xs ++ ((of_tree left ++ (of_tree right ++ [])) ++ (all_in (map of_expr on) ++ []))) (sources.inner (JoinTree-F.Join (kind_of kind) (of_tree left) (of_tree right) (map of_expr on)) refl)
        ∙ ap₂ (λ xs ys. (of_tree left ++ xs) ++ ys) (append-nil (of_tree right)) (append-nil (all_in (map of_expr on)))

    from_gives : (members : List JoinTree) → of_tree (tree.From members []) ≡ all_in (map of_tree members)
    from_gives members =
        laws.at-From (List X) (List X) (List X) (List X) (List X) (expr_gives X of_node of_leaf) (tree_gives X of_node of_leaf) (order_gives X of_node of_leaf) (output_gives X of_node of_leaf) (query_gives X of_node of_leaf) members [] ∙ ap (λ xs. xs ++ (all_in (map of_tree members) ++ [])) (sources.inner (JoinTree-F.From (map of_tree members) []) refl) ∙ append-nil (all_in (map of_tree members))

    outputs_give : (outputs : List Output) → all_in (map of_output outputs) ≡ all_in (map of_expr (map expr_of_output outputs))
    outputs_give [] = refl
    outputs_give (o ∷ outputs) = ap₂ (λ xs ys. xs ++ ys) (laws.at-Output (List X) (List X) (List X) (List X) (List X) (expr_gives X of_node of_leaf) (tree_gives X of_node of_leaf) (order_gives X of_node of_leaf) (output_gives X of_node of_leaf) (query_gives X of_node of_leaf) o) (outputs_give outputs)

    orders_give : (orders : List Order) → all_in (map of_order orders) ≡ all_in (map of_expr (map expr_of_order orders))
    orders_give [] = refl
    orders_give (o ∷ orders) = ap₂ (λ xs ys. xs ++ ys) (laws.at-Order (List X) (List X) (List X) (List X) (List X) (expr_gives X of_node of_leaf) (tree_gives X of_node of_leaf) (order_gives X of_node of_leaf) (output_gives X of_node of_leaf) (query_gives X of_node of_leaf) o) (orders_give orders)

    pub query_is : (level : QueryLayer) (members : List JoinTree) → level.tree ≡ tree.From members []
        → of_query (roll-Query level) ≡ all_in (map of_expr (map expr_of_output level.columns)) ++ (all_in (map of_tree members) ++ (all_in (map of_expr level.conds) ++ all_in (map of_expr (map expr_of_order level.order))))
    query_is level members is =
        fold-roll-Query (List X) (List X) (List X) (List X) (List X) (expr_gives X of_node of_leaf) (tree_gives X of_node of_leaf) (order_gives X of_node of_leaf) (output_gives X of_node of_leaf) (query_gives X of_node of_leaf) level
        ∙ ap (λ xs. xs ++ (of_tree level.tree ++ (all_in (map of_expr level.conds) ++ all_in (map of_order level.order)))) (outputs_give level.columns)
        ∙ ap (λ xs. all_in (map of_expr (map expr_of_output level.columns)) ++ (xs ++ (all_in (map of_expr level.conds) ++ all_in (map of_order level.order)))) (ap of_tree is ∙ from_gives members)
        ∙ ap (λ xs. all_in (map of_expr (map expr_of_output level.columns)) ++ (all_in (map of_tree members) ++ (all_in (map of_expr level.conds) ++ xs))) (orders_give level.order)

    more_none : (n m : ℕ) (xs : List X) → Q (n + 0) m xs → Q n m xs
    more_none n m xs h = subst (λ k. Q k m xs) (right_zero n) h

    select_gives : (outer own : Scope) (a m n b : Counts) (level : QueryLayer) (members : List JoinTree) → level.order ≡ [] → level.tree ≡ tree.From members [] → Along (ExprGives (own ++ outer)) a m (map expr_of_output level.columns) → TreesAlong (TreeGives outer) m n own members → Along (ExprGives (own ++ outer)) n b level.conds → SelectGives outer a b level
    select_gives outer own a m n b level members plain is outputs trees conds =
        let us = all_in (map of_expr (map expr_of_output level.columns)) in
        let ts = all_in (map of_tree members) in
        let cs = all_in (map of_expr level.conds) in
        let os = ap (λ os. all_in (map of_expr (map expr_of_order os))) plain in
        subst (Q a.entries b.entries) (sym (query_is level members is ∙ ap (λ xs. us ++ (ts ++ (cs ++ xs))) os ∙ ap (λ xs. us ++ (ts ++ xs)) (append-nil cs)))
        (sources.join a.entries m.entries b.entries us (ts ++ cs) (all_along (own ++ outer) a m (map expr_of_output level.columns) outputs)
        (sources.join m.entries n.entries b.entries ts cs (trees_along outer m n own members trees) (all_along (own ++ outer) n b level.conds conds)))

    pub gathering : Steps schema ExprGives TreeGives SelectGives
    gathering = record {
      at_column = λ scope a b rel place c all there small. subst (Q a.entries b.entries) (sym (column_gives rel place c)) (same_none a b all);
      at_operator = λ scope a b x is small along. subst (Q a.entries b.entries) (sym (operator_gives x is)) (all_along scope a b (parts x) along);
      at_exists = λ scope a b level h. subst (Q a.entries b.entries) (sym (exists_gives (next_sublink a) (roll-Query level))) (more_none a.entries b.entries (of_query (roll-Query level)) h);
      at_among = λ scope a m b operand level p h. subst (Q a.entries b.entries) (sym (among_gives (next_sublink a) operand (roll-Query level))) (sources.join a.entries m.entries b.entries (of_expr operand) (of_query (roll-Query level)) (more_none a.entries m.entries (of_expr operand) p) h);
      at_base = λ outer a b name place columns all apart there. subst (Q a.entries b.entries) (sym (base_gives (next_relation a) name place)) (subst (λ (c : Counts). Q a.entries c.entries (of_leaf (JoinTree-F.Base a.entries name place))) all (sources.base a.entries name place columns there));
      at_sub = λ outer a b name level apart h. subst (Q a.entries b.entries) (sym (sub_gives (next_relation a) name (roll-Query level)))
          (sources.join a.entries (a.entries + 1) b.entries (of_leaf (JoinTree-F.Sub a.entries name (of_query (roll-Query level)))) (of_query (roll-Query level)) (sources.sub a.entries name (of_query (roll-Query level))) h);
      at_joined = λ outer a m n b kind l r left right on apart p q along. subst (Q a.entries b.entries) (sym (joined_gives kind left right on))
          (sources.join a.entries n.entries b.entries (of_tree left ++ of_tree right) (all_in (map of_expr on)) (sources.join a.entries m.entries n.entries (of_tree left) (of_tree right) p q) (all_along ((l ++ r) ++ outer) n b on along));
      at_select = λ outer a m n b own level members plain some is apart outputs trees conds. select_gives outer own a m n b level members plain is outputs trees conds;
    }
