-- The leaves of what is made have rising numbers, so each two are apart; those of an expression stand inside its sublinks.
use Rattle.std.proofs.Common.{◌≡◌, ◌∙◌, ap, ap₂, sym, subst, refl, ℕ, ◌+◌, ◌<◌, ◌≤◌, Bool, true, false, List, [], ◌∷◌, ◌++◌, map, fold, append_assoc, arith}
use Rattle.std.proofs.Math.Nat.{le_refl}
use Rattle.std.specs.Prelude.{◌&&◌, ◌||◌, ◌==◌, not}
use Rattle.std.specs.List.{list_all, list_any}
use Rattle.std.proofs.lemmas.Bool.{and_from, false≢true, ne_eqb, eq-eqb, eqb-true}
use Rattle.std.proofs.lemmas.List.{append-nil}
use Rattle.jp_query.specs.Conditions.{Leaf, Leaves, no_leaves, beside, together, shares, leaf_is_apart, are_apart, leaf_inside, leaves_inside, leaf, expr_leaves, tree_leaves, order_leaves, output_leaves, query_leaves, judged_leaves}
use Rattle.jp_query.specs.Parts.{all_in, parts}
use Rattle.jp_query.specs.Typing.{is_listed}
use Rattle.jp_induction.proofs.EachPart.{Each, parts_map, each_append}
use Rattle.jp_facts.proofs.Members.{In}
use Rattle.jp_query.specs.declared.Expr.{Expr}
use Rattle.jp_query.specs.declared.Expr.TheOpen.{Expr-F}
use Rattle.jp_query.specs.declared.Expr.TheViews.{roll-Expr, roll-Query}
use Rattle.jp_query.specs.declared.Expr.TheFolds.{map-Expr, fold-Order, fold-Output, fold-roll-Expr, fold-roll-Query}
use Rattle.jp_query.specs.declared.JoinTree.{JoinTree}
use Rattle.jp_query.specs.declared.JoinTree.TheVariants as tree
use Rattle.jp_query.specs.declared.Order.{Order}
use Rattle.jp_query.specs.declared.Output.{Output}
use Rattle.jp_query.specs.declared.Query.{Query}
use Rattle.jp_query.specs.Layers.{ExprLayer, QueryLayer}
use Rattle.jp_query.specs.Scopes.{Scope, Schema}
use Rattle.jp_query.proofs.FoldLaws as laws
use Rattle.jp_resolution.specs.declared.words.Counts.{Counts}
use Rattle.jp_resolution.specs.Counting.{next_relation, next_sublink}
use Rattle.jp_resolution.specs.Resolving.{kind_of}
use Rattle.jp_resolved.specs.Sorted.{expr_of_output, expr_of_order}
use Rattle.jp_resolved.proofs.Spans.{right_zero, Along}
use Rattle.jp_resolved.proofs.Made.{is_operator, Steps, TreesAlong}
use Rattle.jp_resolved.proofs.Operands.{operator_map}
use Rattle.jp_resolved.proofs.Rising.{Rising, IsBetween, rising_append, rising_between, rising_map, rising_same}
use Rattle.jp_resolved.proofs.Members.{in_all}

abbrev pub leaf_number : Leaf → ℕ
leaf_number leaf = leaf.number

-- in sublinks
abbrev pub IsInside : Leaf → Type 0
IsInside leaf = is_listed leaf.sublinks ≡ true

pub record AreApart (a b : ℕ) (l : Leaves) : Type 0 where
  pub apart : l.apart ≡ true
  pub rising : Rising leaf_number a b l.leaves

-- ---- leaves of different numbers

one_apart : (a m b : ℕ) (x : Leaf) (ys : List Leaf) → IsBetween leaf_number a m x → Each (IsBetween leaf_number m b) ys → list_all (leaf_is_apart x) ys ≡ true
one_apart a m b x [] p each = refl
one_apart a m b x (y ∷ ys) p each =
    ap (λ same. (not same || shares x.sublinks y.sublinks) && list_all (leaf_is_apart x) ys) (ne_eqb x.number y.number (λ e. omega (arith, e, p.1, each.0.0)))
    ∙ one_apart a m b x ys p each.1

all_apart : (a m b : ℕ) (xs ys : List Leaf) → Each (IsBetween leaf_number a m) xs → Each (IsBetween leaf_number m b) ys → are_apart xs ys ≡ true
all_apart a m b [] ys each more = refl
all_apart a m b (x ∷ xs) ys each more = and_from (list_all (leaf_is_apart x) ys) (are_apart xs ys) (one_apart a m b x ys each.0 more) (all_apart a m b xs ys each.1 more)

pub beside_apart : (a m b : ℕ) (x y : Leaves) → AreApart a m x → AreApart m b y → AreApart a b (beside x y)
beside_apart a m b x y p q = record {
  apart = and_from x.apart (y.apart && are_apart x.leaves y.leaves) p.apart (and_from y.apart (are_apart x.leaves y.leaves) q.apart
      (all_apart a m b x.leaves y.leaves (rising_between leaf_number a m x.leaves p.rising) (rising_between leaf_number m b y.leaves q.rising)));
  rising = rising_append leaf_number a m b x.leaves y.leaves p.rising q.rising;
}

none_apart : (a b : Counts) → a ≡ b → AreApart a.entries b.entries no_leaves
none_apart a b same = record { apart = refl; rising = subst (λ (c : Counts). a.entries ≤ c.entries) same (le_refl a.entries) }

-- ---- whole trees

abbrev pub of_expr : Expr → Leaves
of_expr = laws.of_expr Leaves Leaves Leaves Leaves Leaves expr_leaves tree_leaves order_leaves output_leaves query_leaves

abbrev pub of_tree : JoinTree → Leaves
of_tree = laws.of_tree Leaves Leaves Leaves Leaves Leaves expr_leaves tree_leaves order_leaves output_leaves query_leaves

abbrev pub of_output : Output → Leaves
of_output = fold-Output Leaves Leaves Leaves Leaves Leaves expr_leaves tree_leaves order_leaves output_leaves query_leaves

abbrev pub of_order : Order → Leaves
of_order = fold-Order Leaves Leaves Leaves Leaves Leaves expr_leaves tree_leaves order_leaves output_leaves query_leaves

abbrev pub ExprApart : Scope → Counts → Counts → Expr → Type 0
ExprApart scope a b e = AreApart a.entries b.entries (of_expr e) × Each IsInside (of_expr e).leaves

abbrev pub TreeApart : Scope → Counts → Counts → Scope → JoinTree → Type 0
TreeApart outer a b own t = AreApart a.entries b.entries (of_tree t)

abbrev pub SelectApart : Scope → Counts → Counts → QueryLayer → Type 0
SelectApart outer a b level = AreApart a.entries b.entries (judged_leaves (roll-Query level))

exprs_from : (scope : Scope) (first : ℕ) (a b : Counts) (done : Leaves) (es : List Expr) → AreApart first a.entries done → Along (ExprApart scope) a b es → AreApart first b.entries (fold beside done (map of_expr es))
exprs_from scope first a b done [] h along = subst (λ (c : Counts). AreApart first c.entries done) along h
exprs_from scope first a b done (e ∷ es) h along = exprs_from scope first along.0 b (beside done (of_expr e)) es (beside_apart first a.entries along.0.entries done (of_expr e) h along.1.0) along.2

pub exprs_apart : (scope : Scope) (a b : Counts) (es : List Expr) → Along (ExprApart scope) a b es → AreApart a.entries b.entries (together (map of_expr es))
exprs_apart scope a b es along = exprs_from scope a.entries a b no_leaves es (none_apart a a refl) along

trees_from : (outer : Scope) (first : ℕ) (a b : Counts) (own : Scope) (done : Leaves) (ts : List JoinTree) → AreApart first a.entries done → TreesAlong (TreeApart outer) a b own ts → AreApart first b.entries (fold beside done (map of_tree ts))
trees_from outer first a b own done [] h along = subst (λ (c : Counts). AreApart first c.entries done) along.1 h
trees_from outer first a b own done (t ∷ ts) h along = trees_from outer first along.0 b along.2 (beside done (of_tree t)) ts (beside_apart first a.entries along.0.entries done (of_tree t) h along.4) along.5

pub trees_apart : (outer : Scope) (a b : Counts) (own : Scope) (ts : List JoinTree) → TreesAlong (TreeApart outer) a b own ts → AreApart a.entries b.entries (together (map of_tree ts))
trees_apart outer a b own ts along = trees_from outer a.entries a b own no_leaves ts (none_apart a a refl) along

inside_from : (done : Leaves) (es : List Expr) → Each IsInside done.leaves → Each (λ e. Each IsInside (of_expr e).leaves) es → Each IsInside (fold beside done (map of_expr es)).leaves
inside_from done [] h each = h
inside_from done (e ∷ es) h each = inside_from (beside done (of_expr e)) es (each_append IsInside done.leaves (of_expr e).leaves h each.0) each.1

along_inside : (scope : Scope) (a b : Counts) (es : List Expr) → Along (ExprApart scope) a b es → Each (λ e. Each IsInside (of_expr e).leaves) es
along_inside scope a b [] along = tt
along_inside scope a b (e ∷ es) along = (along.1.1, along_inside scope along.0 b es along.2)

exprs_inside : (scope : Scope) (a b : Counts) (es : List Expr) → Along (ExprApart scope) a b es → Each IsInside (together (map of_expr es)).leaves
exprs_inside scope a b es along = inside_from no_leaves es tt (along_inside scope a b es along)

operator_leaves : (x : Expr-F Leaves Leaves Leaves Leaves Leaves) → is_operator x ≡ true → expr_leaves x ≡ together (parts x)
operator_leaves (Expr-F.Exists sub query) h = absurd (false≢true h)
operator_leaves (Expr-F.InSub sub operand query) h = absurd (false≢true h)
operator_leaves _ h = refl

operator_is : (x : ExprLayer) → is_operator x ≡ true → of_expr (roll-Expr x) ≡ together (map of_expr (parts x))
operator_is x is =
    fold-roll-Expr Leaves Leaves Leaves Leaves Leaves expr_leaves tree_leaves order_leaves output_leaves query_leaves x
    ∙ operator_leaves (map-Expr Expr JoinTree Order Output Query Leaves Leaves Leaves Leaves Leaves of_expr of_tree of_order of_output judged_leaves x) (operator_map of_expr of_tree of_order of_output judged_leaves x is)
    ∙ ap together (parts_map of_expr of_tree of_order of_output judged_leaves x)

each_inside : (sub : ℕ) (ls : List Leaf) → Each IsInside (map (leaf_inside sub) ls)
each_inside sub [] = tt
each_inside sub (l ∷ ls) = (refl, each_inside sub ls)

inside_apart : (sub a b : ℕ) (l : Leaves) → AreApart a b l → AreApart a b (leaves_inside sub l)
inside_apart sub a b l h = record { apart = h.apart; rising = rising_map leaf_number leaf_number (leaf_inside sub) (λ x. refl) a b l.leaves h.rising }

first_zero : (n m : ℕ) (l : Leaves) → AreApart (n + 0) m l → AreApart n m l
first_zero n m l h = subst (λ k. AreApart k m l) (right_zero n) h

leaf_apart : (n m : ℕ) → n < m → AreApart n m (leaf n)
leaf_apart n m h = record { apart = refl; rising = (le_refl n, h) }

both_inside : (x y : Leaves) → Each IsInside x.leaves → Each IsInside y.leaves → Each IsInside (beside x y).leaves
both_inside x y p q = each_append IsInside x.leaves y.leaves p q

pub query_is : (level : QueryLayer) → judged_leaves (roll-Query level) ≡ beside (beside (beside (together (map of_output level.columns)) (of_tree level.tree)) (together (map of_expr level.conds))) (together (map of_order level.order))
query_is level = fold-roll-Query Leaves Leaves Leaves Leaves Leaves expr_leaves tree_leaves order_leaves output_leaves query_leaves level

pub outputs_are : (outputs : List Output) → map of_output outputs ≡ map of_expr (map expr_of_output outputs)
outputs_are [] = refl
outputs_are (o ∷ outputs) = ap₂ (λ x xs. x ∷ xs) (laws.at-Output Leaves Leaves Leaves Leaves Leaves expr_leaves tree_leaves order_leaves output_leaves query_leaves o) (outputs_are outputs)

pub orders_are : (orders : List Order) → map of_order orders ≡ map of_expr (map expr_of_order orders)
orders_are [] = refl
orders_are (o ∷ orders) = ap₂ (λ x xs. x ∷ xs) (laws.at-Order Leaves Leaves Leaves Leaves Leaves expr_leaves tree_leaves order_leaves output_leaves query_leaves o) (orders_are orders)

from_apart : (outer : Scope) (a b : Counts) (own : Scope) (members : List JoinTree) → TreesAlong (TreeApart outer) a b own members → AreApart a.entries b.entries (of_tree (tree.From members []))
from_apart outer a b own members along =
    subst (AreApart a.entries b.entries) (sym (laws.at-From Leaves Leaves Leaves Leaves Leaves expr_leaves tree_leaves order_leaves output_leaves query_leaves members []))
    (beside_apart a.entries b.entries b.entries (together (map of_tree members)) no_leaves (trees_apart outer a b own members along) (none_apart b b refl))

-- outputs, tree and conditions of a select
pub body_apart : (outer own : Scope) (a m n b : Counts) (level : QueryLayer) (members : List JoinTree) → level.tree ≡ tree.From members [] → Along (ExprApart (own ++ outer)) a m (map expr_of_output level.columns) → TreesAlong (TreeApart outer) m n own members → Along (ExprApart (own ++ outer)) n b level.conds
    → AreApart a.entries b.entries (beside (beside (together (map of_output level.columns)) (of_tree level.tree)) (together (map of_expr level.conds)))
body_apart outer own a m n b level members is outputs trees conds =
    let us = subst (λ ls. AreApart a.entries m.entries (together ls)) (sym (outputs_are level.columns)) (exprs_apart (own ++ outer) a m (map expr_of_output level.columns) outputs) in
    let t = subst (λ t. AreApart m.entries n.entries (of_tree t)) (sym is) (from_apart outer m n own members trees) in
    beside_apart a.entries n.entries b.entries (beside (together (map of_output level.columns)) (of_tree level.tree)) (together (map of_expr level.conds))
    (beside_apart a.entries m.entries n.entries (together (map of_output level.columns)) (of_tree level.tree) us t) (exprs_apart (own ++ outer) n b level.conds conds)

select_apart : (outer own : Scope) (a m n b : Counts) (level : QueryLayer) (members : List JoinTree) → level.order ≡ [] → level.tree ≡ tree.From members [] → Along (ExprApart (own ++ outer)) a m (map expr_of_output level.columns) → TreesAlong (TreeApart outer) m n own members → Along (ExprApart (own ++ outer)) n b level.conds → SelectApart outer a b level
select_apart outer own a m n b level members plain is outputs trees conds =
    let body = beside (beside (together (map of_output level.columns)) (of_tree level.tree)) (together (map of_expr level.conds)) in
    subst (AreApart a.entries b.entries) (sym (query_is level ∙ ap (λ os. beside body (together (map of_order os))) plain))
    (beside_apart a.entries b.entries b.entries body no_leaves (body_apart outer own a m n b level members is outputs trees conds) (none_apart b b refl))

pub leaving : (schema : Schema) → Steps schema ExprApart TreeApart SelectApart
leaving schema = record {
  at_column = λ scope a b rel place c all there small. let e = sym (laws.at-Col Leaves Leaves Leaves Leaves Leaves expr_leaves tree_leaves order_leaves output_leaves query_leaves rel place c.type 0) in (subst (AreApart a.entries b.entries) e (none_apart a b all), subst (λ (l : Leaves). Each IsInside l.leaves) e tt);
  at_operator = λ scope a b x is small along. let e = sym (operator_is x is) in (subst (AreApart a.entries b.entries) e (exprs_apart scope a b (parts x) along), subst (λ (l : Leaves). Each IsInside l.leaves) e (exprs_inside scope a b (parts x) along));
  at_exists = λ scope a b level h.
      let q = judged_leaves (roll-Query level) in
      let e = sym (laws.at-Exists Leaves Leaves Leaves Leaves Leaves expr_leaves tree_leaves order_leaves output_leaves query_leaves (next_sublink a) (roll-Query level)) in
      (subst (AreApart a.entries b.entries) e (inside_apart (next_sublink a) a.entries b.entries q (first_zero a.entries b.entries q h)), subst (λ (l : Leaves). Each IsInside l.leaves) e (each_inside (next_sublink a) q.leaves));
  at_among = λ scope a m b operand level p h.
      let q = judged_leaves (roll-Query level) in
      let x = of_expr operand in
      let e = sym (laws.at-InSub Leaves Leaves Leaves Leaves Leaves expr_leaves tree_leaves order_leaves output_leaves query_leaves (next_sublink a) operand (roll-Query level)) in (
        subst (AreApart a.entries b.entries) e (beside_apart a.entries m.entries b.entries x (leaves_inside (next_sublink a) q) (first_zero a.entries m.entries x p.0) (inside_apart (next_sublink a) m.entries b.entries q h)),
        subst (λ (l : Leaves). Each IsInside l.leaves) e (both_inside x (leaves_inside (next_sublink a) q) p.1 (each_inside (next_sublink a) q.leaves)),
      );
  at_base = λ outer a b name place columns all apart there. subst (AreApart a.entries b.entries) (sym (laws.at-Base Leaves Leaves Leaves Leaves Leaves expr_leaves tree_leaves order_leaves output_leaves query_leaves (next_relation a) name place)) (subst (λ (c : Counts). AreApart a.entries c.entries (leaf a.entries)) all (leaf_apart a.entries (a.entries + 1) (omega arith)));
  at_sub = λ outer a b name level apart h. subst (AreApart a.entries b.entries) (sym (laws.at-Sub Leaves Leaves Leaves Leaves Leaves expr_leaves tree_leaves order_leaves output_leaves query_leaves (next_relation a) name (roll-Query level)))
      (beside_apart a.entries (a.entries + 1) b.entries (leaf a.entries) (judged_leaves (roll-Query level)) (leaf_apart a.entries (a.entries + 1) (omega arith)) h);
  at_joined = λ outer a m n b kind l r left right on apart p q along. subst (AreApart a.entries b.entries) (sym (laws.at-Join Leaves Leaves Leaves Leaves Leaves expr_leaves tree_leaves order_leaves output_leaves query_leaves (kind_of kind) left right on))
      (beside_apart a.entries n.entries b.entries (together (of_tree left ∷ of_tree right ∷ [])) (together (map of_expr on))
      (beside_apart a.entries m.entries n.entries (beside no_leaves (of_tree left)) (of_tree right) (beside_apart a.entries a.entries m.entries no_leaves (of_tree left) (none_apart a a refl) p) q)
      (exprs_apart ((l ++ r) ++ outer) n b on along));
  at_select = λ outer a m n b own level members plain some is apart outputs trees conds. select_apart outer own a m n b level members plain is outputs trees conds;
}

-- ---- ORDER BY items that repeat

abbrev leaves_of : Expr → List Leaf
leaves_of e = (of_expr e).leaves

leaves_from : (done : Leaves) (es : List Expr) → (fold beside done (map of_expr es)).leaves ≡ done.leaves ++ all_in (map leaves_of es)
leaves_from done [] = sym (append-nil done.leaves)
leaves_from done (e ∷ es) = leaves_from (beside done (of_expr e)) es ∙ append_assoc done.leaves (leaves_of e) (all_in (map leaves_of es))

pub in_together : (e : Expr) (es : List Expr) (x : Leaf) → In e es → In x (of_expr e).leaves → In x (together (map of_expr es)).leaves
in_together e es x h p = subst (In x) (sym (leaves_from no_leaves es)) (in_all leaves_of e es x h p)

-- a leaf of the list, inside a sublink
abbrev pub IsKnown : List Leaf → Leaf → Type 0
IsKnown all x = In x all × IsInside x

shares_itself : (xs : List ℕ) → is_listed xs ≡ true → shares xs xs ≡ true
shares_itself [] h = absurd (false≢true h)
shares_itself (x ∷ xs) h = ap (λ b. (b || list_any (◌==◌ x) xs) || list_any (λ y. list_any (◌==◌ y) (x ∷ xs)) xs) (eq-eqb x x refl)

known_apart : (b : ℕ) (all : List Leaf) → Rising leaf_number 0 b all → (x y : Leaf) → In x all → IsKnown all y → leaf_is_apart x y ≡ true
known_apart b all rising x y p q = either (x.number == y.number) refl
  where
    ne : (n m : ℕ) → (n == m) ≡ true → n ≡ m
    ne n m h = eqb-true n m h

    either : (same : Bool) → (x.number == y.number) ≡ same → leaf_is_apart x y ≡ true
    either false e = ap (λ same. not same || shares x.sublinks y.sublinks) e
    either true e =
        let equal = rising_same leaf_number 0 b all rising x y p q.0 (ne x.number y.number e) in
        ap (λ same. not same || shares x.sublinks y.sublinks) e ∙ ap (λ (z : Leaf). shares z.sublinks y.sublinks) equal ∙ shares_itself y.sublinks q.1

one_known : (b : ℕ) (all : List Leaf) → Rising leaf_number 0 b all → (x : Leaf) (ys : List Leaf) → In x all → Each (IsKnown all) ys → list_all (leaf_is_apart x) ys ≡ true
one_known b all rising x [] p each = refl
one_known b all rising x (y ∷ ys) p each = and_from (leaf_is_apart x y) (list_all (leaf_is_apart x) ys) (known_apart b all rising x y p each.0) (one_known b all rising x ys p each.1)

set_apart : (b : ℕ) (all : List Leaf) → Rising leaf_number 0 b all → (xs ys : List Leaf) → Each (λ x. In x all) xs → Each (IsKnown all) ys → are_apart xs ys ≡ true
set_apart b all rising [] ys each known = refl
set_apart b all rising (x ∷ xs) ys each known = and_from (list_all (leaf_is_apart x) ys) (are_apart xs ys) (one_known b all rising x ys each.0 known) (set_apart b all rising xs ys each.1 known)

only_in : (all ls : List Leaf) → Each (IsKnown all) ls → Each (λ x. In x all) ls
only_in all [] each = tt
only_in all (l ∷ ls) each = (each.0.0, only_in all ls each.1)

-- an expression whose leaves are known, and apart
abbrev pub IsRepeated : List Leaf → Expr → Type 0
IsRepeated all e = ((of_expr e).apart ≡ true) × Each (IsKnown all) (of_expr e).leaves

repeated_from : (b : ℕ) (all : List Leaf) → Rising leaf_number 0 b all → (done : Leaves) (es : List Expr) → done.apart ≡ true → Each (IsKnown all) done.leaves → Each (IsRepeated all) es → ((fold beside done (map of_expr es)).apart ≡ true) × Each (IsKnown all) (fold beside done (map of_expr es)).leaves
repeated_from b all rising done [] h known each = (h, known)
repeated_from b all rising done (e ∷ es) h known each =
    let l = of_expr e in
    repeated_from b all rising (beside done l) es
    (and_from done.apart (l.apart && are_apart done.leaves l.leaves) h (and_from l.apart (are_apart done.leaves l.leaves) each.0.0 (set_apart b all rising done.leaves l.leaves (only_in all done.leaves known) each.0.1)))
    (each_append (IsKnown all) done.leaves l.leaves known each.0.1) each.1

-- a select whose ORDER BY items repeat, or are behind it
pub with_orders : (b : ℕ) (all : List Leaf) (body : Leaves) (es : List Expr) → Rising leaf_number 0 b all → body.apart ≡ true → Each (λ x. In x all) body.leaves → Each (IsRepeated all) es → (beside body (together (map of_expr es))).apart ≡ true
with_orders b all body es rising apart within each =
    let o = together (map of_expr es) in
    let known = repeated_from b all rising no_leaves es refl tt each in
    and_from body.apart (o.apart && are_apart body.leaves o.leaves) apart (and_from o.apart (are_apart body.leaves o.leaves) known.0 (set_apart b all rising body.leaves o.leaves within known.1))
