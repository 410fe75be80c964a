-- Relations of a query's leaves, at every depth, that have no row around it; and the relations of a block's items, which are
-- those of no leaf inside one of its expressions.
use Rattle.std.proofs.Common.{◌≡◌, ◌∙◌, ap, ap₂, sym, subst, refl, ℕ, inl, inr, true, false, List, [], ◌∷◌, ◌++◌, map, append-nil, None}
use Rattle.jp_facts.proofs.Members.{In, in_map, from_append, in_append_left, in_append_right}
use Rattle.jp_induction.proofs.EachPart.{Each, parts_map, sublink_map}
use Rattle.jp_query.specs.declared.Expr.{Expr}
use Rattle.jp_query.specs.declared.Expr.TheFolds.{fold-roll-Expr, fold-roll-Query}
use Rattle.jp_query.specs.declared.Expr.TheViews.{roll-Expr}
use Rattle.jp_query.specs.declared.JoinKind.{JoinKind}
use Rattle.jp_query.specs.declared.JoinTree.{JoinTree}
use Rattle.jp_query.specs.declared.JoinTree.TheVariants as tree
use Rattle.jp_query.specs.declared.Order.{Order}
use Rattle.jp_query.specs.declared.Output.{Output}
use Rattle.jp_query.specs.declared.Query.{Query, out-Query}
use Rattle.jp_query.specs.Conditions.{Leaves, leaf, no_leaves, beside, together, expr_leaves, tree_leaves, order_leaves, output_leaves, query_leaves, judged_leaves}
use Rattle.jp_query.specs.Layers.{ExprLayer}
use Rattle.jp_query.specs.Meaning.{Env}
use Rattle.jp_query.specs.Outermost.{Outer, outermost}
use Rattle.jp_query.specs.OwnLeaves.{own_leaves}
use Rattle.jp_query.specs.Parts.{option_part, parts, sublink_query}
use Rattle.jp_query.proofs.FoldLaws as laws
use Rattle.jp_problem.specs.Blocks.{block_exprs, output_expr, order_expr}
use Rattle.jp_problem.specs.InnerBlocks.{side_block}
use Rattle.jp_problem.specs.Shapes.{shape_of, items_in, exprs_in}
use Rattle.jp_conditions.proofs.Judging.{expr_leaf_set, tree_leaf_set, order_leaf_set, output_leaf_set, leaves_level}
use Rattle.jp_conditions.proofs.Leaves.{HasLeaf, of_first, of_second, of_together, part_leaf, sublink_leaf}
use Rattle.jp_conditions.proofs.Sheltered.{Sheltered, sheltered_two, with_exprs, nothing_yet, told}
use Rattle.jp_prepared.proofs.Counted.{each_by}
use Rattle.jp_prepared.proofs.ItemsApart.{items_apart}
use Rattle.jp_prepared.proofs.Reached as reached

-- none of these leaves' relations has a row
abbrev pub ClearOf : Env → Leaves → Type 0
ClearOf env all = (rel : ℕ) → HasLeaf all rel → env rel ≡ None

abbrev pub IsClear : Env → Query → Type 0
IsClear env query = ClearOf env (judged_leaves query)

-- ---- sublinks

module _ (env : Env) where
  parts_clear : (x : ExprLayer) → ClearOf env (expr_leaf_set (roll-Expr x)) → Each (λ e. ClearOf env (expr_leaf_set e)) (parts x) × Each (IsClear env) (option_part (sublink_query x))
  parts_clear x h =
      let y = leaves_level x in
      let k : ClearOf env (expr_leaves y) = subst (ClearOf env) (fold-roll-Expr Leaves Leaves Leaves Leaves Leaves expr_leaves tree_leaves order_leaves output_leaves query_leaves x) h in (
        each_by (λ e. ClearOf env (expr_leaf_set e)) (parts x)
            (λ e m rel l. k rel (part_leaf rel y (expr_leaf_set e) (subst (In (expr_leaf_set e)) (sym (parts_map expr_leaf_set tree_leaf_set order_leaf_set output_leaf_set judged_leaves x)) (in_map expr_leaf_set e (parts x) m)) l)),
        each_by (IsClear env) (option_part (sublink_query x))
            (λ q m rel l. k rel (sublink_leaf rel y (judged_leaves q) (subst (In (judged_leaves q)) (sym (sublink_map expr_leaf_set tree_leaf_set order_leaf_set output_leaf_set judged_leaves x)) (in_map judged_leaves q (option_part (sublink_query x)) m)) l)),
      )

  -- the queries of an expression's outermost sublinks are clear where the expression is
  pub sublinks_clear : (e : Expr) → ClearOf env (expr_leaf_set e) → Each (λ (o : Outer). IsClear env o.query) (outermost e)
  sublinks_clear e h = reached.sublinks_reached {S = Unit {0}} (λ s x. s) (λ s x. ClearOf env (expr_leaf_set x)) (λ s t. ⊥) (λ s q. IsClear env q) (λ s x k. parts_clear x k) (λ s kind left right on apart k. absurd k) (λ s members conds k. absurd k) e tt h

-- ---- own leaves of a block

of_exprs : (es : List Expr) → Sheltered [] es (together (map expr_leaf_set es))
of_exprs es =
    record { distinct = tt; found = λ n h. absurd h; inner = λ e n h l. of_together n (map expr_leaf_set es) (expr_leaf_set e) (in_map expr_leaf_set e es h) l; away = λ e n h k l. absurd k }

outputs_same : (us : List Output) → map output_leaf_set us ≡ map expr_leaf_set (map output_expr us)
outputs_same [] = refl
outputs_same (u ∷ us) = ap₂ ◌∷◌ (laws.at-Output Leaves Leaves Leaves Leaves Leaves expr_leaves tree_leaves order_leaves output_leaves query_leaves u) (outputs_same us)

orders_same : (os : List Order) → map order_leaf_set os ≡ map expr_leaf_set (map order_expr os)
orders_same [] = refl
orders_same (o ∷ os) = ap₂ ◌∷◌ (laws.at-Order Leaves Leaves Leaves Leaves Leaves expr_leaves tree_leaves order_leaves output_leaves query_leaves o) (orders_same os)

module _ (q : Query) where
  abbrev t : JoinTree
  t = (out-Query q).tree

  abbrev columns : List Expr
  columns = map output_expr (out-Query q).columns

  abbrev conds : List Expr
  conds = (out-Query q).conds

  abbrev orders : List Expr
  orders = map order_expr (out-Query q).order

  abbrev inside : List Expr
  inside = exprs_in (shape_of t)

  abbrev two : Leaves
  two = beside (together (map expr_leaf_set columns)) (tree_leaf_set t)

  abbrev three : Leaves
  three = beside two (together (map expr_leaf_set conds))

  abbrev four : Leaves
  four = beside three (together (map expr_leaf_set orders))

  leaves_are : judged_leaves q ≡ four
  leaves_are =
      laws.at-Query Leaves Leaves Leaves Leaves Leaves expr_leaves tree_leaves order_leaves output_leaves query_leaves q
      ∙ ap₂ (λ us os. beside (beside (beside (together us) (tree_leaf_set t)) (together (map expr_leaf_set conds))) (together os)) (outputs_same (out-Query q).columns) (orders_same (out-Query q).order)

  four_told : four.apart ≡ true → Sheltered (own_leaves t) (((columns ++ inside) ++ conds) ++ orders) four
  four_told = with_exprs (own_leaves t) ((columns ++ inside) ++ conds) orders three
      (with_exprs (own_leaves t) (columns ++ inside) conds two
      (sheltered_two [] (own_leaves t) columns inside (together (map expr_leaf_set columns)) (tree_leaf_set t) (λ e. of_exprs columns) (told t)))

  among : (e : Expr) → In e (block_exprs q) → In e (((columns ++ inside) ++ conds) ++ orders)
  among e h = elim (from_append e (inside ++ conds) (columns ++ orders) h) [
    | inl a ↦ in_append_left e ((columns ++ inside) ++ conds) orders (elim (from_append e inside conds a) [
      | inl k ↦ in_append_left e (columns ++ inside) conds (in_append_right e columns inside k)
      | inr k ↦ in_append_right e (columns ++ inside) conds k
    ])
    | inr b ↦ elim (from_append e columns orders b) [
      | inl k ↦ in_append_left e ((columns ++ inside) ++ conds) orders (in_append_left e (columns ++ inside) conds (in_append_left e columns inside k))
      | inr k ↦ in_append_right e ((columns ++ inside) ++ conds) orders k
    ]
  ]

  -- no leaf inside an expression of a block has the number of an own leaf of its tree
  pub block_sheltered : (judged_leaves q).apart ≡ true → Sheltered (own_leaves (out-Query q).tree) (block_exprs q) (judged_leaves q)
  block_sheltered apart =
      let s = four_told (sym (ap (λ (l : Leaves). l.apart) leaves_are) ∙ apart) in
      subst (Sheltered (own_leaves t) (block_exprs q)) (sym leaves_are) (record { distinct = s.distinct; found = s.found; inner = λ e n h l. s.inner e n (among e h) l; away = λ e n h k l. s.away e n (among e h) k l })

  pub tree_clear : (env : Env) → IsClear env q → ClearOf env (tree_leaf_set (out-Query q).tree)
  tree_clear env clear rel h = clear rel (subst (λ l. HasLeaf l rel) (sym leaves_are)
      (of_first rel three (together (map expr_leaf_set orders)) (of_first rel two (together (map expr_leaf_set conds)) (of_second rel (together (map expr_leaf_set columns)) (tree_leaf_set t) h))))

-- the leaves of an item are among those of its block's tree
pub item_clear : (env : Env) (t item : JoinTree) → ClearOf env (tree_leaf_set t) → In item (items_in (shape_of t)) → ClearOf env (tree_leaf_set item)
item_clear env t item clear m rel h = clear rel (h.0, (items_apart t).inside item h.0 m h.1, h.2)

-- ---- the sides of a Full join

module _ (kind : JoinKind) (left right : JoinTree) (on : List Expr) where
  join_leaves : tree_leaf_set (tree.Join kind left right on) ≡ beside (together (tree_leaf_set left ∷ tree_leaf_set right ∷ [])) (together (map expr_leaf_set on))
  join_leaves = laws.at-Join Leaves Leaves Leaves Leaves Leaves expr_leaves tree_leaves order_leaves output_leaves query_leaves kind left right on

  pub join_sheltered : (tree_leaf_set (tree.Join kind left right on)).apart ≡ true → Sheltered (own_leaves left ++ own_leaves right) ((exprs_in (shape_of left) ++ exprs_in (shape_of right)) ++ on) (tree_leaf_set (tree.Join kind left right on))
  join_sheltered apart =
      let first = beside no_leaves (tree_leaf_set left) in
      let own = own_leaves left ++ own_leaves right in
      let es = exprs_in (shape_of left) ++ exprs_in (shape_of right) in
      subst (Sheltered own (es ++ on)) (sym join_leaves)
      (with_exprs own es on (beside first (tree_leaf_set right))
      (sheltered_two (own_leaves left) (own_leaves right) (exprs_in (shape_of left)) (exprs_in (shape_of right)) first (tree_leaf_set right)
      (sheltered_two [] (own_leaves left) [] (exprs_in (shape_of left)) no_leaves (tree_leaf_set left) (λ e. nothing_yet) (told left)) (told right))
      (sym (ap (λ (l : Leaves). l.apart) join_leaves) ∙ apart))

  pub side_leaf : (rel : ℕ) (side : Leaves) → In side (tree_leaf_set left ∷ tree_leaf_set right ∷ []) → HasLeaf side rel → HasLeaf (tree_leaf_set (tree.Join kind left right on)) rel
  side_leaf rel side m h = subst (λ l. HasLeaf l rel) (sym join_leaves) (of_first rel (together (tree_leaf_set left ∷ tree_leaf_set right ∷ [])) (together (map expr_leaf_set on)) (of_together rel (tree_leaf_set left ∷ tree_leaf_set right ∷ []) side m h))

-- the block of a side has the leaves of the side
side_leaves : (t : JoinTree) (rel : ℕ) → HasLeaf (judged_leaves (side_block t)) rel → HasLeaf (tree_leaf_set t) rel
side_leaves t rel h =
    let k = subst (λ l. HasLeaf l rel) (fold-roll-Query Leaves Leaves Leaves Leaves Leaves expr_leaves tree_leaves order_leaves output_leaves query_leaves (record { columns = []; distinct = false; tree = t; conds = []; order = [] })) h in
    let none = append-nil (tree_leaf_set t).leaves in
    (k.0, subst (In k.0) none (subst (In k.0) (append-nil ((tree_leaf_set t).leaves ++ [])) k.1), k.2)

pub left_clear : (env : Env) (kind : JoinKind) (left right : JoinTree) (on : List Expr) → ClearOf env (tree_leaf_set (tree.Join kind left right on)) → IsClear env (side_block left)
left_clear env kind left right on clear rel h = clear rel (side_leaf kind left right on rel (tree_leaf_set left) (inl refl) (side_leaves left rel h))

pub right_clear : (env : Env) (kind : JoinKind) (left right : JoinTree) (on : List Expr) → ClearOf env (tree_leaf_set (tree.Join kind left right on)) → IsClear env (side_block right)
right_clear env kind left right on clear rel h = clear rel (side_leaf kind left right on rel (tree_leaf_set right) (inr (inl refl)) (side_leaves right rel h))

-- ---- a sub-select

pub select_clear : (env : Env) (rel : ℕ) (name : List ℕ) (query : Query) → ClearOf env (tree_leaf_set (tree.Sub rel name query)) → IsClear env query
select_clear env rel name query clear n h =
    clear n (subst (λ l. HasLeaf l n) (sym (laws.at-Sub Leaves Leaves Leaves Leaves Leaves expr_leaves tree_leaves order_leaves output_leaves query_leaves rel name query)) (of_second n (leaf rel) (judged_leaves query) h))
