-- The sublinks of what is made have rising numbers.
use Rattle.std.proofs.Common.{◌≡◌, ◌∙◌, ap, ap₂, sym, subst, refl, ℕ, suc, ◌+◌, ◌≤◌, true, List, [], ◌∷◌, ◌++◌, map}
use Rattle.std.proofs.Math.Nat.{le_refl}
use Rattle.std.proofs.lemmas.Bool.{false≢true}
use Rattle.std.proofs.lemmas.List.{append-nil}
use Rattle.jp_ast.specs.declared.tree.JoinWord.{JoinWord}
use Rattle.jp_query.specs.Freshness.{Sublink, Found, ExprParts, found_in, sublink_here, expr_found, tree_found, order_found, output_found, query_found, sublinks_in}
use Rattle.jp_query.specs.Parts.{all_in, parts, option_part, sublink_query}
use Rattle.jp_query.specs.Subexpressions.{sublinks_of}
use Rattle.jp_induction.proofs.EachPart.{parts_map}
use Rattle.jp_query.specs.declared.Expr.{Expr}
use Rattle.jp_query.specs.declared.Expr.TheVariants as expr
use Rattle.jp_query.specs.declared.Expr.TheOpen.{Expr-F, JoinTree-F}
use Rattle.jp_query.specs.declared.Expr.TheViews.{roll-Expr, roll-Query, roll-out-Order, roll-out-Output}
use Rattle.jp_query.specs.declared.Expr.TheFolds.{map-Expr, para-JoinTree, para-Order, para-Output, para-roll-Expr, para-roll-JoinTree, para-roll-Order, para-roll-Output, para-roll-Query}
use Rattle.jp_query.specs.declared.JoinTree.{JoinTree}
use Rattle.jp_query.specs.declared.JoinTree.TheVariants as tree
use Rattle.jp_query.specs.declared.Order.{Order, out-Order}
use Rattle.jp_query.specs.declared.Output.{Output, out-Output}
use Rattle.jp_query.specs.declared.Query.{Query}
use Rattle.jp_query.specs.Layers.{ExprLayer, QueryLayer}
use Rattle.jp_query.specs.Scopes.{Column, Scope, Schema}
use Rattle.jp_resolution.specs.declared.words.Counts.{Counts}
use Rattle.jp_resolution.specs.Counting.{one_entry, both, next_relation, next_sublink}
use Rattle.jp_resolution.specs.Resolving.{kind_of}
use Rattle.jp_resolved.specs.Sorted.{expr_of_output, expr_of_order}
use Rattle.jp_resolved.proofs.Spans.{next_first, right_zero, Along}
use Rattle.jp_resolved.proofs.Made.{is_operator, Steps, TreesAlong}
use Rattle.jp_resolved.proofs.Operands.{no_sublink, operator_map}
use Rattle.jp_resolved.proofs.Rising.{Rising, rising_append}

abbrev pub sublink_number : Sublink → ℕ
sublink_number s = s.number

abbrev pub of_tree : JoinTree → Found
of_tree = para-JoinTree Found Found Found Found Found expr_found tree_found order_found output_found query_found

abbrev of_output : Output → Found
of_output = para-Output Found Found Found Found Found expr_found tree_found order_found output_found query_found

abbrev of_order : Order → Found
of_order = para-Order Found Found Found Found Found expr_found tree_found order_found output_found query_found

abbrev expr_pair : Expr → Expr × Found
expr_pair e = (e, sublinks_of e)

abbrev tree_pair : JoinTree → JoinTree × Found
tree_pair t = (t, of_tree t)

abbrev order_pair : Order → Order × Found
order_pair o = (o, of_order o)

abbrev output_pair : Output → Output × Found
output_pair o = (o, of_output o)

abbrev query_pair : Query → Query × Found
query_pair q = (q, sublinks_in q)

abbrev level_of : ExprLayer → ExprParts
level_of = map-Expr Expr JoinTree Order Output Query (Expr × Found) (JoinTree × Found) (Order × Found) (Output × Found) (Query × Found) expr_pair tree_pair order_pair output_pair query_pair

at_expr : (x : ExprLayer) → sublinks_of (roll-Expr x) ≡ expr_found (level_of x)
at_expr = para-roll-Expr Found Found Found Found Found expr_found tree_found order_found output_found query_found

pairs : (es : List Expr) → map found_in (map expr_pair es) ≡ map sublinks_of es
pairs [] = refl
pairs (e ∷ es) = ap (λ xs. sublinks_of e ∷ xs) (pairs es)

tree_pairs : (ts : List JoinTree) → map found_in (map tree_pair ts) ≡ map of_tree ts
tree_pairs [] = refl
tree_pairs (t ∷ ts) = ap (λ xs. of_tree t ∷ xs) (tree_pairs ts)

none_here : (x : ExprParts) → is_operator x ≡ true → sublink_here x ≡ []
none_here (Expr-F.Exists sub query) h = absurd (false≢true h)
none_here (Expr-F.InSub sub operand query) h = absurd (false≢true h)
none_here _ h = refl

operator_is : (x : ExprLayer) → is_operator x ≡ true → sublinks_of (roll-Expr x) ≡ all_in (map sublinks_of (parts x))
operator_is x is =
    let level = level_of x in
    let op = operator_map expr_pair tree_pair order_pair output_pair query_pair x is in
    at_expr x
    ∙ ap (λ ns. ns ++ (all_in (map found_in (parts level)) ++ all_in (map found_in (option_part (sublink_query level))))) (none_here level op)
    ∙ ap (λ qs. all_in (map found_in (parts level)) ++ all_in (map found_in qs)) (no_sublink level op)
    ∙ append-nil (all_in (map found_in (parts level)))
    ∙ ap (λ ps. all_in (map found_in ps)) (parts_map expr_pair tree_pair order_pair output_pair query_pair x)
    ∙ ap all_in (pairs (parts x))

column_is : (rel place : ℕ) (c : Column) → sublinks_of (expr.Col rel place c.type 0) ≡ []
column_is rel place c = ap sublinks_of (sym (expr.rolls-Col rel place c.type 0)) ∙ at_expr (Expr-F.Col rel place c.type 0)

abbrev at_sublink : ℕ → Expr → Sublink
at_sublink n e = record { number = n; node = e }

exists_is : (sub : ℕ) (q : Query) → sublinks_of (expr.Exists sub q) ≡ at_sublink sub (expr.Exists sub q) ∷ sublinks_in q
exists_is sub q = ap sublinks_of (sym (expr.rolls-Exists sub q)) ∙ at_expr (Expr-F.Exists sub q) ∙ ap (λ xs. at_sublink sub (expr.Exists sub q) ∷ xs) (append-nil (sublinks_in q))

among_is : (sub : ℕ) (operand : Expr) (q : Query) → sublinks_of (expr.InSub sub operand q) ≡ at_sublink sub (expr.InSub sub operand q) ∷ (sublinks_of operand ++ sublinks_in q)
among_is sub operand q =
    ap sublinks_of (sym (expr.rolls-InSub sub operand q)) ∙ at_expr (Expr-F.InSub sub operand q)
    ∙ ap₂ (λ xs ys. at_sublink sub (expr.InSub sub operand q) ∷ (xs ++ ys)) (append-nil (sublinks_of operand)) (append-nil (sublinks_in q))

base_is : (rel : ℕ) (name : List ℕ) (place : ℕ) → of_tree (tree.Base rel name place) ≡ []
base_is rel name place = ap of_tree (sym (tree.rolls-Base rel name place)) ∙ para-roll-JoinTree Found Found Found Found Found expr_found tree_found order_found output_found query_found (JoinTree-F.Base rel name place)

sub_is : (rel : ℕ) (name : List ℕ) (q : Query) → of_tree (tree.Sub rel name q) ≡ sublinks_in q
sub_is rel name q = ap of_tree (sym (tree.rolls-Sub rel name q)) ∙ para-roll-JoinTree Found Found Found Found Found expr_found tree_found order_found output_found query_found (JoinTree-F.Sub rel name q) ∙ append-nil (sublinks_in q)

joined_is : (kind : JoinWord) (left right : JoinTree) (on : List Expr) → of_tree (tree.Join (kind_of kind) left right on) ≡ (of_tree left ++ of_tree right) ++ all_in (map sublinks_of on)
joined_is kind left right on =
    ap of_tree (sym (tree.rolls-Join (kind_of kind) left right on)) ∙ para-roll-JoinTree Found Found Found Found Found expr_found tree_found order_found output_found query_found (JoinTree-F.Join (kind_of kind) left right on)
    ∙ ap₂ (λ xs ys. (of_tree left ++ xs) ++ ys) (append-nil (of_tree right)) (append-nil (all_in (map found_in (map expr_pair on))) ∙ ap all_in (pairs on))

from_is : (members : List JoinTree) → of_tree (tree.From members []) ≡ all_in (map of_tree members)
from_is members = ap of_tree (sym (tree.rolls-From members [])) ∙ para-roll-JoinTree Found Found Found Found Found expr_found tree_found order_found output_found query_found (JoinTree-F.From members []) ∙ append-nil (all_in (map found_in (map tree_pair members))) ∙ ap all_in (tree_pairs members)

outputs_are : (outputs : List Output) → all_in (map found_in (map output_pair outputs)) ≡ all_in (map sublinks_of (map expr_of_output outputs))
outputs_are [] = refl
outputs_are (o ∷ outputs) = ap₂ (λ xs ys. xs ++ ys) (ap of_output (sym (roll-out-Output o)) ∙ para-roll-Output Found Found Found Found Found expr_found tree_found order_found output_found query_found (out-Output o)) (outputs_are outputs)

orders_are : (orders : List Order) → all_in (map found_in (map order_pair orders)) ≡ all_in (map sublinks_of (map expr_of_order orders))
orders_are [] = refl
orders_are (o ∷ orders) = ap₂ (λ xs ys. xs ++ ys) (ap of_order (sym (roll-out-Order o)) ∙ para-roll-Order Found Found Found Found Found expr_found tree_found order_found output_found query_found (out-Order o)) (orders_are orders)

pub query_is : (level : QueryLayer) (members : List JoinTree) → level.tree ≡ tree.From members []
    → sublinks_in (roll-Query level) ≡ all_in (map sublinks_of (map expr_of_output level.columns)) ++ (all_in (map of_tree members) ++ (all_in (map sublinks_of level.conds) ++ all_in (map sublinks_of (map expr_of_order level.order))))
query_is level members is =
    para-roll-Query Found Found Found Found Found expr_found tree_found order_found output_found query_found level
    ∙ ap (λ xs. xs ++ (of_tree level.tree ++ (all_in (map found_in (map expr_pair level.conds)) ++ all_in (map found_in (map order_pair level.order))))) (outputs_are level.columns)
    ∙ ap (λ xs. all_in (map sublinks_of (map expr_of_output level.columns)) ++ (xs ++ (all_in (map found_in (map expr_pair level.conds)) ++ all_in (map found_in (map order_pair level.order))))) (ap of_tree is ∙ from_is members)
    ∙ ap₂ (λ xs ys. all_in (map sublinks_of (map expr_of_output level.columns)) ++ (all_in (map of_tree members) ++ (xs ++ ys))) (ap all_in (pairs level.conds)) (orders_are level.order)

-- ---- rising numbers

abbrev Rises : Counts → Counts → Found → Type 0
Rises a b xs = Rising sublink_number (suc a.sublinks) (suc b.sublinks) xs

abbrev pub ExprFinds : Scope → Counts → Counts → Expr → Type 0
ExprFinds scope a b e = Rises a b (sublinks_of e)

abbrev pub TreeFinds : Scope → Counts → Counts → Scope → JoinTree → Type 0
TreeFinds outer a b own t = Rises a b (of_tree t)

abbrev pub SelectFinds : Scope → Counts → Counts → QueryLayer → Type 0
SelectFinds outer a b level = Rises a b (sublinks_in (roll-Query level))

same_none : (a b : Counts) → a ≡ b → Rises a b []
same_none a b same = subst (λ (c : Counts). suc a.sublinks ≤ suc c.sublinks) same (le_refl (suc a.sublinks))

pub all_along : (scope : Scope) (a b : Counts) (es : List Expr) → Along (ExprFinds scope) a b es → Rises a b (all_in (map sublinks_of es))
all_along scope a b [] along = same_none a b along
all_along scope a b (e ∷ es) along = rising_append sublink_number (suc a.sublinks) (suc along.0.sublinks) (suc b.sublinks) (sublinks_of e) (all_in (map sublinks_of es)) along.1 (all_along scope along.0 b es along.2)

trees_along : (outer : Scope) (a b : Counts) (own : Scope) (ts : List JoinTree) → TreesAlong (TreeFinds outer) a b own ts → Rises a b (all_in (map of_tree ts))
trees_along outer a b own [] along = same_none a b along.1
trees_along outer a b own (t ∷ ts) along = rising_append sublink_number (suc a.sublinks) (suc along.0.sublinks) (suc b.sublinks) (of_tree t) (all_in (map of_tree ts)) along.4 (trees_along outer along.0 b along.2 ts along.5)

-- outputs, tree and conditions
abbrev pub body_of : QueryLayer → List JoinTree → Found
body_of level members = all_in (map sublinks_of (map expr_of_output level.columns)) ++ (all_in (map of_tree members) ++ all_in (map sublinks_of level.conds))

pub body_rises : (outer own : Scope) (a m n b : Counts) (level : QueryLayer) (members : List JoinTree) → Along (ExprFinds (own ++ outer)) a m (map expr_of_output level.columns) → TreesAlong (TreeFinds outer) m n own members → Along (ExprFinds (own ++ outer)) n b level.conds
    → Rising sublink_number (suc a.sublinks) (suc b.sublinks) (body_of level members)
body_rises outer own a m n b level members outputs trees conds =
    let us = all_in (map sublinks_of (map expr_of_output level.columns)) in
    let ts = all_in (map of_tree members) in
    let cs = all_in (map sublinks_of level.conds) in
    rising_append sublink_number (suc a.sublinks) (suc m.sublinks) (suc b.sublinks) us (ts ++ cs) (all_along (own ++ outer) a m (map expr_of_output level.columns) outputs)
    (rising_append sublink_number (suc m.sublinks) (suc n.sublinks) (suc b.sublinks) ts cs (trees_along outer m n own members trees) (all_along (own ++ outer) n b level.conds conds))

select_finds : (outer own : Scope) (a m n b : Counts) (level : QueryLayer) (members : List JoinTree) → level.order ≡ [] → level.tree ≡ tree.From members [] → Along (ExprFinds (own ++ outer)) a m (map expr_of_output level.columns) → TreesAlong (TreeFinds outer) m n own members → Along (ExprFinds (own ++ outer)) n b level.conds → SelectFinds outer a b level
select_finds outer own a m n b level members plain is outputs trees conds =
    let us = all_in (map sublinks_of (map expr_of_output level.columns)) in
    let ts = all_in (map of_tree members) in
    let cs = all_in (map sublinks_of level.conds) in
    subst (Rises a b) (sym (query_is level members is ∙ ap (λ os. us ++ (ts ++ (cs ++ all_in (map sublinks_of (map expr_of_order os))))) plain ∙ ap (λ xs. us ++ (ts ++ xs)) (append-nil cs)))
    (body_rises outer own a m n b level members outputs trees conds)

more_none : (n m : ℕ) (xs : Found) → Rising sublink_number (suc (n + 0)) m xs → Rising sublink_number (suc n) m xs
more_none n m xs h = subst (λ k. Rising sublink_number (suc k) m xs) (right_zero n) h

pub finding : (schema : Schema) → Steps schema ExprFinds TreeFinds SelectFinds
finding schema = record {
  at_column = λ scope a b rel place c all there small. subst (Rises a b) (sym (column_is rel place c)) (same_none a b all);
  at_operator = λ scope a b x is small along. subst (Rises a b) (sym (operator_is x is)) (all_along scope a b (parts x) along);
  at_exists = λ scope a b level h. subst (Rises a b) (sym (exists_is (next_sublink a) (roll-Query level))) (next_first a.sublinks, h);
  at_among = λ scope a m b operand level p h. subst (Rises a b) (sym (among_is (next_sublink a) operand (roll-Query level)))
      (next_first a.sublinks, rising_append sublink_number (suc (a.sublinks + 1)) (suc m.sublinks) (suc b.sublinks) (sublinks_of operand) (sublinks_in (roll-Query level)) p h);
  at_base = λ outer a b name place columns all apart there. subst (Rises a b) (sym (base_is (next_relation a) name place)) (more_none a.sublinks (suc b.sublinks) [] (same_none (both a one_entry) b all));
  at_sub = λ outer a b name level apart h. subst (Rises a b) (sym (sub_is (next_relation a) name (roll-Query level))) (more_none a.sublinks (suc b.sublinks) (sublinks_in (roll-Query level)) h);
  at_joined = λ outer a m n b kind l r left right on apart p q along. subst (Rises a b) (sym (joined_is kind left right on))
      (rising_append sublink_number (suc a.sublinks) (suc n.sublinks) (suc b.sublinks) (of_tree left ++ of_tree right) (all_in (map sublinks_of on))
      (rising_append sublink_number (suc a.sublinks) (suc m.sublinks) (suc n.sublinks) (of_tree left) (of_tree right) p q) (all_along ((l ++ r) ++ outer) n b on along));
  at_select = λ outer a m n b own level members plain some is apart outputs trees conds. select_finds outer own a m n b level members plain is outputs trees conds;
}
