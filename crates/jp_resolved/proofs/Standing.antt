-- The occurrences of sublinks in what is made have rising numbers.
use Rattle.std.proofs.Common.{◌≡◌, ◌∙◌, ap, ap₂, sym, subst, refl, ℕ, suc, ◌+◌, ◌≤◌, inl, inr, Bool, true, false, List, [], ◌∷◌, ◌++◌, map, length, Some}
use Rattle.std.proofs.Math.Nat.{le_refl}
use Rattle.std.specs.Prelude.{if◌then◌else◌}
use Rattle.std.proofs.lemmas.Bool.{false≢true}
use Rattle.std.proofs.lemmas.List.{append-nil}
use Rattle.jp_query.specs.Freshness.{Occurrence, below, from_parts, inside, listed_here, expr_occurrences, tree_occurrences, order_occurrences, output_occurrences, query_occurrences, occurrences_in}
use Rattle.jp_query.specs.Parts.{all_in, parts}
use Rattle.jp_query.specs.Typing.{is_listed}
use Rattle.jp_induction.proofs.EachPart.{Each, parts_map}
use Rattle.jp_facts.proofs.Members.{In}
use Rattle.jp_query.specs.declared.Expr.{Expr}
use Rattle.jp_query.specs.declared.Expr.TheOpen.{Expr-F}
use Rattle.jp_query.specs.declared.Expr.TheViews.{roll-Expr, roll-Query}
use Rattle.jp_query.specs.declared.Expr.TheFolds.{map-Expr, fold-Order, fold-Output, fold-roll-Expr, fold-roll-Query}
use Rattle.jp_query.specs.declared.JoinTree.{JoinTree}
use Rattle.jp_query.specs.declared.JoinTree.TheVariants as tree
use Rattle.jp_query.specs.declared.Order.{Order}
use Rattle.jp_query.specs.declared.Output.{Output}
use Rattle.jp_query.specs.declared.Query.{Query}
use Rattle.jp_query.specs.Layers.{ExprLayer, QueryLayer}
use Rattle.jp_query.specs.Scopes.{Scope, Schema}
use Rattle.jp_query.proofs.FoldLaws as laws
use Rattle.jp_resolution.specs.declared.words.Counts.{Counts}
use Rattle.jp_resolution.specs.Counting.{one_entry, both, next_relation, next_sublink}
use Rattle.jp_resolution.specs.Resolving.{kind_of}
use Rattle.jp_resolved.specs.Sorted.{expr_of_output, expr_of_order}
use Rattle.jp_resolved.proofs.Spans.{next_first, right_zero, Along}
use Rattle.jp_resolved.proofs.Made.{is_operator, Steps, TreesAlong}
use Rattle.jp_resolved.proofs.Operands.{operator_map}
use Rattle.jp_resolved.proofs.Rising.{Rising, rising_append, rising_map}
use Rattle.jp_resolved.proofs.Members.{each_from}

abbrev pub occurrence_number : Occurrence → ℕ
occurrence_number s = s.number

abbrev pub of_expr : Expr → List Occurrence
of_expr = laws.of_expr (List Occurrence) (List Occurrence) (List Occurrence) (List Occurrence) (List Occurrence) expr_occurrences tree_occurrences order_occurrences output_occurrences query_occurrences

abbrev pub of_tree : JoinTree → List Occurrence
of_tree = laws.of_tree (List Occurrence) (List Occurrence) (List Occurrence) (List Occurrence) (List Occurrence) expr_occurrences tree_occurrences order_occurrences output_occurrences query_occurrences

abbrev pub of_output : Output → List Occurrence
of_output = fold-Output (List Occurrence) (List Occurrence) (List Occurrence) (List Occurrence) (List Occurrence) expr_occurrences tree_occurrences order_occurrences output_occurrences query_occurrences

abbrev pub of_order : Order → List Occurrence
of_order = fold-Order (List Occurrence) (List Occurrence) (List Occurrence) (List Occurrence) (List Occurrence) expr_occurrences tree_occurrences order_occurrences output_occurrences query_occurrences

abbrev Rises : Counts → Counts → List Occurrence → Type 0
Rises a b xs = Rising occurrence_number (suc a.sublinks) (suc b.sublinks) xs

abbrev pub ExprStands : Scope → Counts → Counts → Expr → Type 0
ExprStands scope a b e = Rises a b (of_expr e)

abbrev pub TreeStands : Scope → Counts → Counts → Scope → JoinTree → Type 0
TreeStands outer a b own t = Rises a b (of_tree t)

abbrev pub SelectStands : Scope → Counts → Counts → QueryLayer → Type 0
SelectStands outer a b level = Rises a b (occurrences_in (roll-Query level))

same_none : (a b : Counts) → a ≡ b → Rises a b []
same_none a b same = subst (λ (c : Counts). suc a.sublinks ≤ suc c.sublinks) same (le_refl (suc a.sublinks))

pub below_rises : (i a b : ℕ) (xs : List Occurrence) → Rising occurrence_number a b xs → Rising occurrence_number a b (map (below i) xs)
below_rises i a b xs h = rising_map occurrence_number occurrence_number (below i) (λ x. refl) a b xs h

join_rises : (a m b : ℕ) (xs ys : List Occurrence) → Rising occurrence_number a m xs → Rising occurrence_number m b ys → Rising occurrence_number a b (xs ++ ys)
join_rises = rising_append occurrence_number

pub parts_rise : (scope : Scope) (a b : Counts) (es : List Expr) (i : ℕ) → Along (ExprStands scope) a b es → Rises a b (from_parts i (map of_expr es))
parts_rise scope a b [] i along = same_none a b along
parts_rise scope a b (e ∷ es) i along = join_rises (suc a.sublinks) (suc along.0.sublinks) (suc b.sublinks) (map (below i) (of_expr e)) (from_parts (i + 1) (map of_expr es)) (below_rises i (suc a.sublinks) (suc along.0.sublinks) (of_expr e) along.1) (parts_rise scope along.0 b es (i + 1) along.2)

pub all_rise : (scope : Scope) (a b : Counts) (es : List Expr) → Along (ExprStands scope) a b es → Rises a b (all_in (map of_expr es))
all_rise scope a b [] along = same_none a b along
all_rise scope a b (e ∷ es) along = join_rises (suc a.sublinks) (suc along.0.sublinks) (suc b.sublinks) (of_expr e) (all_in (map of_expr es)) along.1 (all_rise scope along.0 b es along.2)

-- each expression's occurrences, among those of a list that has them
pub parts_of : (scope : Scope) (a b : Counts) (es : List Expr) (all : List Occurrence) → ((e : Expr) → In e es → (x : Occurrence) → In x (of_expr e) → In x all) → Along (ExprStands scope) a b es → Each (λ e. (c : ℕ) × (d : ℕ) × Rising occurrence_number c d (of_expr e) × Each (λ s. In s all) (of_expr e)) es
parts_of scope a b [] all within along = tt
parts_of scope a b (e ∷ es) all within along = (
  (suc a.sublinks, suc along.0.sublinks, along.1, each_from (λ s. In s all) (of_expr e) (within e (inl refl))),
  parts_of scope along.0 b es all (λ f h x p. within f (inr h) x p) along.2,
)

trees_rise : (outer : Scope) (a b : Counts) (own : Scope) (ts : List JoinTree) (i : ℕ) → TreesAlong (TreeStands outer) a b own ts → Rises a b (from_parts i (map of_tree ts))
trees_rise outer a b own [] i along = same_none a b along.1
trees_rise outer a b own (t ∷ ts) i along = join_rises (suc a.sublinks) (suc along.0.sublinks) (suc b.sublinks) (map (below i) (of_tree t)) (from_parts (i + 1) (map of_tree ts)) (below_rises i (suc a.sublinks) (suc along.0.sublinks) (of_tree t) along.4) (trees_rise outer along.0 b along.2 ts (i + 1) along.5)

operator_stands : (x : Expr-F (List Occurrence) (List Occurrence) (List Occurrence) (List Occurrence) (List Occurrence)) → is_operator x ≡ true → expr_occurrences x ≡ from_parts 0 (parts x)
operator_stands (Expr-F.Exists sub query) h = absurd (false≢true h)
operator_stands (Expr-F.InSub sub operand query) h = absurd (false≢true h)
operator_stands _ h = refl

operator_is : (x : ExprLayer) → is_operator x ≡ true → of_expr (roll-Expr x) ≡ from_parts 0 (map of_expr (parts x))
operator_is x is =
    fold-roll-Expr (List Occurrence) (List Occurrence) (List Occurrence) (List Occurrence) (List Occurrence) expr_occurrences tree_occurrences order_occurrences output_occurrences query_occurrences x
    ∙ operator_stands (map-Expr Expr JoinTree Order Output Query (List Occurrence) (List Occurrence) (List Occurrence) (List Occurrence) (List Occurrence) of_expr of_tree of_order of_output occurrences_in x) (operator_map of_expr of_tree of_order of_output occurrences_in x is)
    ∙ ap (from_parts 0) (parts_map of_expr of_tree of_order of_output occurrences_in x)

one_part : (i a b : ℕ) (xs : List Occurrence) → Rising occurrence_number a b xs → Rising occurrence_number a b (from_parts i (xs ∷ []))
one_part i a b xs h = subst (Rising occurrence_number a b) (sym (append-nil (map (below i) xs))) (below_rises i a b xs h)

inside_rises : (sub a b : ℕ) (xs : List Occurrence) → Rising occurrence_number a b xs → Rising occurrence_number a b (map (inside sub) xs)
inside_rises sub a b xs h = rising_map occurrence_number occurrence_number (inside sub) (λ x. refl) a b xs h

pub listed_number : (s : Occurrence) → occurrence_number (listed_here s) ≡ occurrence_number s
listed_number s = either (is_listed s.around)
  where
    either : (b : Bool) → occurrence_number (if b then s else record s { listed_in = Some [] }) ≡ s.number
    either true = refl
    either false = refl

pub outputs_are : (outputs : List Output) → map of_output outputs ≡ map of_expr (map expr_of_output outputs)
outputs_are [] = refl
outputs_are (o ∷ outputs) = ap₂ (λ x xs. x ∷ xs) (laws.at-Output (List Occurrence) (List Occurrence) (List Occurrence) (List Occurrence) (List Occurrence) expr_occurrences tree_occurrences order_occurrences output_occurrences query_occurrences o) (outputs_are outputs)

pub orders_are : (orders : List Order) → map of_order orders ≡ map of_expr (map expr_of_order orders)
orders_are [] = refl
orders_are (o ∷ orders) = ap₂ (λ x xs. x ∷ xs) (laws.at-Order (List Occurrence) (List Occurrence) (List Occurrence) (List Occurrence) (List Occurrence) expr_occurrences tree_occurrences order_occurrences output_occurrences query_occurrences o) (orders_are orders)

-- the tree and the conditions of a select
pub rest_rises : (outer own : Scope) (i : ℕ) (m n b : Counts) (level : QueryLayer) (members : List JoinTree) → level.tree ≡ tree.From members [] → TreesAlong (TreeStands outer) m n own members → Along (ExprStands (own ++ outer)) n b level.conds
    → Rising occurrence_number (suc m.sublinks) (suc b.sublinks) (from_parts i (of_tree level.tree ∷ map of_expr level.conds))
rest_rises outer own i m n b level members is trees conds =
    let t : Rising occurrence_number (suc m.sublinks) (suc n.sublinks) (of_tree level.tree) =
    subst (λ t. Rising occurrence_number (suc m.sublinks) (suc n.sublinks) (of_tree t)) (sym is)
    (subst (Rising occurrence_number (suc m.sublinks) (suc n.sublinks)) (sym (laws.at-From (List Occurrence) (List Occurrence) (List Occurrence) (List Occurrence) (List Occurrence) expr_occurrences tree_occurrences order_occurrences output_occurrences query_occurrences members [] ∙ ap (from_parts 0) (append-nil (map of_tree members)))) (trees_rise outer m n own members 0 trees)) in
    join_rises (suc m.sublinks) (suc n.sublinks) (suc b.sublinks) (map (below i) (of_tree level.tree)) (from_parts (i + 1) (map of_expr level.conds)) (below_rises i (suc m.sublinks) (suc n.sublinks) (of_tree level.tree) t) (parts_rise (own ++ outer) n b level.conds (i + 1) conds)

select_stands : (outer own : Scope) (a m n b : Counts) (level : QueryLayer) (members : List JoinTree) → level.order ≡ [] → level.tree ≡ tree.From members [] → Along (ExprStands (own ++ outer)) a m (map expr_of_output level.columns) → TreesAlong (TreeStands outer) m n own members → Along (ExprStands (own ++ outer)) n b level.conds → SelectStands outer a b level
select_stands outer own a m n b level members plain is outputs trees conds =
    let lists = map of_expr (map expr_of_output level.columns) in
    let rest = of_tree level.tree ∷ map of_expr level.conds in
    let same : map of_output level.columns ++ map of_order level.order ≡ lists = ap (λ os. map of_output level.columns ++ map of_order os) plain ∙ append-nil (map of_output level.columns) ∙ outputs_are level.columns in
    subst (Rises a b) (sym (fold-roll-Query (List Occurrence) (List Occurrence) (List Occurrence) (List Occurrence) (List Occurrence) expr_occurrences tree_occurrences order_occurrences output_occurrences query_occurrences level ∙ ap (λ ls. map listed_here (from_parts 0 ls) ++ from_parts (length ls) rest) same))
    (join_rises (suc a.sublinks) (suc m.sublinks) (suc b.sublinks) (map listed_here (from_parts 0 lists)) (from_parts (length lists) rest)
    (rising_map occurrence_number occurrence_number listed_here listed_number (suc a.sublinks) (suc m.sublinks) (from_parts 0 lists) (parts_rise (own ++ outer) a m (map expr_of_output level.columns) 0 outputs))
    (rest_rises outer own (length lists) m n b level members is trees conds))

more_none : (n m : ℕ) (xs : List Occurrence) → Rising occurrence_number (suc (n + 0)) m xs → Rising occurrence_number (suc n) m xs
more_none n m xs h = subst (λ k. Rising occurrence_number (suc k) m xs) (right_zero n) h

pub standing : (schema : Schema) → Steps schema ExprStands TreeStands SelectStands
standing schema = record {
  at_column = λ scope a b rel place c all there small. subst (Rises a b) (sym (laws.at-Col (List Occurrence) (List Occurrence) (List Occurrence) (List Occurrence) (List Occurrence) expr_occurrences tree_occurrences order_occurrences output_occurrences query_occurrences rel place c.type 0)) (same_none a b all);
  at_operator = λ scope a b x is small along. subst (Rises a b) (sym (operator_is x is)) (parts_rise scope a b (parts x) 0 along);
  at_exists = λ scope a b level h.
      let q = occurrences_in (roll-Query level) in
      subst (Rises a b) (sym (laws.at-Exists (List Occurrence) (List Occurrence) (List Occurrence) (List Occurrence) (List Occurrence) expr_occurrences tree_occurrences order_occurrences output_occurrences query_occurrences (next_sublink a) (roll-Query level)))
      (next_first a.sublinks, inside_rises (next_sublink a) (suc (a.sublinks + 1)) (suc b.sublinks) (from_parts 0 (q ∷ [])) (one_part 0 (suc (a.sublinks + 1)) (suc b.sublinks) q h));
  at_among = λ scope a m b operand level p h.
      let q = occurrences_in (roll-Query level) in
      subst (Rises a b) (sym (laws.at-InSub (List Occurrence) (List Occurrence) (List Occurrence) (List Occurrence) (List Occurrence) expr_occurrences tree_occurrences order_occurrences output_occurrences query_occurrences (next_sublink a) operand (roll-Query level))) (
        next_first a.sublinks,
        join_rises (suc (a.sublinks + 1)) (suc m.sublinks) (suc b.sublinks) (from_parts 0 (of_expr operand ∷ [])) (map (inside (next_sublink a)) (from_parts 1 (q ∷ []))) (one_part 0 (suc (a.sublinks + 1)) (suc m.sublinks) (of_expr operand) p)
            (inside_rises (next_sublink a) (suc m.sublinks) (suc b.sublinks) (from_parts 1 (q ∷ [])) (one_part 1 (suc m.sublinks) (suc b.sublinks) q h)),
      );
  at_base = λ outer a b name place columns all apart there. subst (Rises a b) (sym (laws.at-Base (List Occurrence) (List Occurrence) (List Occurrence) (List Occurrence) (List Occurrence) expr_occurrences tree_occurrences order_occurrences output_occurrences query_occurrences (next_relation a) name place)) (more_none a.sublinks (suc b.sublinks) [] (same_none (both a one_entry) b all));
  at_sub = λ outer a b name level apart h.
      let q = occurrences_in (roll-Query level) in
      subst (Rises a b) (sym (laws.at-Sub (List Occurrence) (List Occurrence) (List Occurrence) (List Occurrence) (List Occurrence) expr_occurrences tree_occurrences order_occurrences output_occurrences query_occurrences (next_relation a) name (roll-Query level))) (more_none a.sublinks (suc b.sublinks) (from_parts 0 (q ∷ [])) (one_part 0 (suc (a.sublinks + 0)) (suc b.sublinks) q h));
  at_joined = λ outer a m n b kind l r left right on apart p q along.
      subst (Rises a b) (sym (laws.at-Join (List Occurrence) (List Occurrence) (List Occurrence) (List Occurrence) (List Occurrence) expr_occurrences tree_occurrences order_occurrences output_occurrences query_occurrences (kind_of kind) left right on))
      (join_rises (suc a.sublinks) (suc m.sublinks) (suc b.sublinks) (map (below 0) (of_tree left)) (from_parts 1 (of_tree right ∷ map of_expr on)) (below_rises 0 (suc a.sublinks) (suc m.sublinks) (of_tree left) p)
      (join_rises (suc m.sublinks) (suc n.sublinks) (suc b.sublinks) (map (below 1) (of_tree right)) (from_parts 2 (map of_expr on)) (below_rises 1 (suc m.sublinks) (suc n.sublinks) (of_tree right) q) (parts_rise ((l ++ r) ++ outer) n b on 2 along)));
  at_select = λ outer a m n b own level members plain some is apart outputs trees conds. select_stands outer own a m n b level members plain is outputs trees conds;
}
