-- Each item of a block has a base leaf, in no sublink, and these leaves have different numbers.
use Rattle.std.proofs.Common.{◌≡◌, ◌∙◌, ap, ap₂, sym, subst, refl, ℕ, ◌+◌, inl, inr, Bool, true, ◌&&◌, List, [], ◌∷◌, ◌++◌, map, fold, length, length-append, append-nil, append_assoc}
use Rattle.std.specs.List.{list_all}
use Rattle.std.proofs.lemmas.Bool.{and_parts}
use Rattle.jp_facts.proofs.Members.{In, from_append, in_append_left, in_append_right}
use Rattle.jp_induction.proofs.EachPart.{Each}
use Rattle.jp_induction.proofs.Induction as induction
use Rattle.jp_query.specs.declared.Expr.{Expr}
use Rattle.jp_query.specs.declared.JoinKind.{JoinKind}
use Rattle.jp_query.specs.declared.JoinKind.TheVariants as join
use Rattle.jp_query.specs.declared.JoinTree.{JoinTree}
use Rattle.jp_query.specs.declared.JoinTree.TheVariants as tree
use Rattle.jp_query.specs.declared.Order.{Order}
use Rattle.jp_query.specs.declared.Output.{Output}
use Rattle.jp_query.specs.declared.Query.{Query}
use Rattle.jp_query.specs.declared.Expr.TheOpen.{JoinTree-F}
use Rattle.jp_query.specs.declared.Expr.TheFolds.{fold-Expr, fold-Order, fold-Output, fold-Query, map-JoinTree, fold-roll-JoinTree, fold-roll-Query}
use Rattle.jp_query.specs.declared.Expr.TheViews.{roll-JoinTree, roll-Query}
use Rattle.jp_query.specs.Layers.{JoinTreeLayer, QueryLayer}
use Rattle.jp_query.specs.Conditions.{Leaves, no_leaves, together, leaf, expr_leaves, tree_leaves, order_leaves, output_leaves, query_leaves, judged_leaves, all_true, expr_rooted, tree_rooted, order_rooted, output_rooted, query_rooted}
use Rattle.jp_query.specs.Conditions.{beside as leaves_beside}
use Rattle.jp_query.specs.Parts.{all_in, option_part, trees, conditions, leaf_query, nothing_of_node, base_number, expr_gives, tree_gives, order_gives, output_gives, query_gives, gathered, gathered_in_tree, base_leaves_in}
use Rattle.jp_query.specs.Typing.{is_listed, is_true_test}
use Rattle.jp_query.proofs.FoldLaws as laws
use Rattle.jp_problem.specs.Shapes.{Shape, nothing, item, beside, filtered, joined, shape_of, items_in}
use Rattle.jp_problem.specs.Shapes.{together as shapes_together}
use Rattle.jp_problem.proofs.ShapeLaws.{at_base, at_sub, at_join, at_from}
use Rattle.jp_conditions.proofs.Entering.{own_leaf, kept_first}
use Rattle.jp_conditions.proofs.Forms.{by_form}
use Rattle.jp_conditions.proofs.Judging.{expr_leaf_set, tree_leaf_set, tree_leaves_level, query_leaves_level}
use Rattle.jp_conditions.proofs.Shaping.{is_rooted}
use Rattle.jp_conditions.proofs.Sheltered.{Sheltered, sheltered_two, with_exprs, fewer_exprs, nothing_yet}

-- ---- base leaves of each type

abbrev in_expr : Expr → List ℕ
in_expr = gathered ℕ nothing_of_node base_number

abbrev pub in_tree : JoinTree → List ℕ
in_tree = gathered_in_tree ℕ nothing_of_node base_number

abbrev in_order : Order → List ℕ
in_order = fold-Order (List ℕ) (List ℕ) (List ℕ) (List ℕ) (List ℕ) (expr_gives ℕ nothing_of_node base_number) (tree_gives ℕ nothing_of_node base_number) (order_gives ℕ nothing_of_node base_number) (output_gives ℕ nothing_of_node base_number) (query_gives ℕ nothing_of_node base_number)

abbrev in_output : Output → List ℕ
in_output = fold-Output (List ℕ) (List ℕ) (List ℕ) (List ℕ) (List ℕ) (expr_gives ℕ nothing_of_node base_number) (tree_gives ℕ nothing_of_node base_number) (order_gives ℕ nothing_of_node base_number) (output_gives ℕ nothing_of_node base_number) (query_gives ℕ nothing_of_node base_number)

abbrev leafy_expr : Expr → Bool
leafy_expr = fold-Expr Bool Bool Bool Bool Bool expr_rooted tree_rooted order_rooted output_rooted query_rooted

abbrev leafy_order : Order → Bool
leafy_order = fold-Order Bool Bool Bool Bool Bool expr_rooted tree_rooted order_rooted output_rooted query_rooted

abbrev leafy_output : Output → Bool
leafy_output = fold-Output Bool Bool Bool Bool Bool expr_rooted tree_rooted order_rooted output_rooted query_rooted

abbrev leafy_query : Query → Bool
leafy_query = fold-Query Bool Bool Bool Bool Bool expr_rooted tree_rooted order_rooted output_rooted query_rooted

-- a number of a base leaf among these, which no sublink holds
abbrev pub HasBase : List ℕ → Leaves → Type 0
HasBase bases leaves = (n : ℕ) × In n bases × In (own_leaf n) leaves.leaves

abbrev PT : JoinTree → Type 0
PT t = is_rooted t ≡ true → HasBase (in_tree t) (tree_leaf_set t)

abbrev PQ : Query → Type 0
PQ q = leafy_query q ≡ true → HasBase (base_leaves_in q) (judged_leaves q)

abbrev rooted_level : JoinTreeLayer → JoinTree-F Bool Bool Bool Bool Bool
rooted_level = map-JoinTree Expr JoinTree Order Output Query Bool Bool Bool Bool Bool leafy_expr is_rooted leafy_order leafy_output leafy_query

abbrev gathered_level : JoinTreeLayer → JoinTree-F (List ℕ) (List ℕ) (List ℕ) (List ℕ) (List ℕ)
gathered_level = map-JoinTree Expr JoinTree Order Output Query (List ℕ) (List ℕ) (List ℕ) (List ℕ) (List ℕ) in_expr in_tree in_order in_output base_leaves_in

at_level : (x : JoinTreeLayer) → Each PT (trees x) → Each PQ (option_part (leaf_query x)) → tree_rooted (rooted_level x) ≡ true → HasBase (tree_gives ℕ nothing_of_node base_number (gathered_level x)) (tree_leaves (tree_leaves_level x))
at_level (JoinTree-F.Base rel name table) sides inner e = (rel, inl refl, inl refl)
at_level (JoinTree-F.Sub rel name query) sides inner e =
    let found = inner.0 (and_parts (leafy_query query) true e).0 in
    (found.0, in_append_left found.0 (base_leaves_in query) [] found.1, in_append_right (own_leaf found.0) (leaf rel).leaves (judged_leaves query).leaves found.2)
at_level (JoinTree-F.Join kind left right on) sides inner e =
    let parts = and_parts (all_true (is_rooted left ∷ is_rooted right ∷ [])) _ e in
    let found = sides.0 (and_parts (is_rooted left) _ parts.0).0 in (
      found.0,
      in_append_left found.0 (in_tree left ++ (in_tree right ++ [])) (all_in (map in_expr on) ++ []) (in_append_left found.0 (in_tree left) (in_tree right ++ []) found.1),
      in_append_left (own_leaf found.0) (together (tree_leaf_set left ∷ tree_leaf_set right ∷ [])).leaves (together (map expr_leaf_set on)).leaves (in_append_left (own_leaf found.0) (tree_leaf_set left).leaves (tree_leaf_set right).leaves found.2),
    )
at_level (JoinTree-F.From members conds) sides inner e =
    let parts = and_parts (is_listed (map is_rooted members)) _ e in
    let more = and_parts (all_true (map is_rooted members)) _ parts.1 in
    let found = first members sides parts.0 more.0 in
    (found.0, in_append_left found.0 (all_in (map in_tree members)) (all_in (map in_expr conds) ++ []) found.1, in_append_left (own_leaf found.0) (together (map tree_leaf_set members)).leaves (together (map expr_leaf_set conds)).leaves found.2)
  where
    first : (ts : List JoinTree) → Each PT ts → is_listed (map is_rooted ts) ≡ true → list_all is_true_test (map is_rooted ts) ≡ true → HasBase (all_in (map in_tree ts)) (together (map tree_leaf_set ts))
    first [] each e f = cc
    first (t ∷ ts) each e f =
        let found = each.0 (and_parts (is_rooted t) (list_all is_true_test (map is_rooted ts)) f).0 in
        (found.0, in_append_left found.0 (in_tree t) (all_in (map in_tree ts)) found.1, kept_first (own_leaf found.0) (leaves_beside no_leaves (tree_leaf_set t)) (map tree_leaf_set ts) found.2)

tree_step : (x : JoinTreeLayer) → Each PT (trees x) → Each (λ (e : Expr). Unit {0}) (conditions x) → Each PQ (option_part (leaf_query x)) → PT (roll-JoinTree x)
tree_step x sides conds inner e =
    subst (λ (l : Leaves). HasBase (in_tree (roll-JoinTree x)) l) (sym (fold-roll-JoinTree Leaves Leaves Leaves Leaves Leaves expr_leaves tree_leaves order_leaves output_leaves query_leaves x))
    (subst (λ bs. HasBase bs (tree_leaves (tree_leaves_level x))) (sym (fold-roll-JoinTree (List ℕ) (List ℕ) (List ℕ) (List ℕ) (List ℕ) (expr_gives ℕ nothing_of_node base_number) (tree_gives ℕ nothing_of_node base_number) (order_gives ℕ nothing_of_node base_number) (output_gives ℕ nothing_of_node base_number) (query_gives ℕ nothing_of_node base_number) x))
    (at_level x sides inner (sym (fold-roll-JoinTree Bool Bool Bool Bool Bool expr_rooted tree_rooted order_rooted output_rooted query_rooted x) ∙ e)))

query_step : (q : QueryLayer) → Each (λ (u : Output). Unit {0}) q.columns → PT q.tree → Each (λ (e : Expr). Unit {0}) q.conds → Each (λ (o : Order). Unit {0}) q.order → PQ (roll-Query q)
query_step q columns inner conds order e =
    let level = query_leaves_level q in
    let parts = and_parts _ _ (sym (fold-roll-Query Bool Bool Bool Bool Bool expr_rooted tree_rooted order_rooted output_rooted query_rooted q) ∙ e) in
    let found = inner (and_parts (is_rooted q.tree) _ parts.1).0 in (
      found.0,
      subst (In found.0) (sym (fold-roll-Query (List ℕ) (List ℕ) (List ℕ) (List ℕ) (List ℕ) (expr_gives ℕ nothing_of_node base_number) (tree_gives ℕ nothing_of_node base_number) (order_gives ℕ nothing_of_node base_number) (output_gives ℕ nothing_of_node base_number) (query_gives ℕ nothing_of_node base_number) q))
          (in_append_right found.0 (all_in (map in_output q.columns)) (in_tree q.tree ++ (all_in (map in_expr q.conds) ++ all_in (map in_order q.order))) (in_append_left found.0 (in_tree q.tree) (all_in (map in_expr q.conds) ++ all_in (map in_order q.order)) found.1)),
      subst (λ (l : Leaves). In (own_leaf found.0) l.leaves) (sym (fold-roll-Query Leaves Leaves Leaves Leaves Leaves expr_leaves tree_leaves order_leaves output_leaves query_leaves q))
          (in_append_left (own_leaf found.0) (leaves_beside (leaves_beside (together level.columns) level.tree) (together level.conds)).leaves (together level.order).leaves
          (in_append_left (own_leaf found.0) (leaves_beside (together level.columns) level.tree).leaves (together level.conds).leaves (in_append_right (own_leaf found.0) (together level.columns).leaves level.tree.leaves found.2))),
    )

has_base : (t : JoinTree) → is_rooted t ≡ true → HasBase (in_tree t) (tree_leaf_set t)
has_base = induction.at_tree (λ e. Unit {0}) PT (λ o. Unit {0}) (λ u. Unit {0}) PQ (record {
  expr = λ x inner query. tt;
  tree = tree_step;
  order = λ o inner. tt;
  output = λ u inner. tt;
  query = query_step;
})

-- ---- one for each item

-- distinct numbers of base leaves, as many as the shape has items
pub record BasedOn (shape : Shape) (bases : List ℕ) (all : Leaves) : Type 0 where
  pub numbers : List ℕ
  pub as_many : length numbers ≡ length (items_in shape)
  pub apart : Sheltered numbers [] all
  pub base : (n : ℕ) → In n numbers → In n bases

one_item : (t : JoinTree) → is_rooted t ≡ true → BasedOn (item t) (in_tree t) (tree_leaf_set t)
one_item t e =
    let found = has_base t e in
    record {
      numbers = found.0 ∷ [];
      as_many = refl;
      apart = record { distinct = (λ h. absurd h, tt); found = λ n h. elim h [ inl same ↦ subst (λ m. In (own_leaf m) (tree_leaf_set t).leaves) same found.2 | inr gone ↦ absurd gone ]; inner = λ x n h l. absurd h; away = λ x n h k l. absurd h };
      base = λ n h. elim h [ inl same ↦ subst (λ m. In m (in_tree t)) same found.1 | inr gone ↦ absurd gone ];
    }

two_items : (l r : Shape) (xs ys : List ℕ) (a b : Leaves) → (a.apart ≡ true → BasedOn l xs a) → (b.apart ≡ true → BasedOn r ys b) → (leaves_beside a b).apart ≡ true → BasedOn (beside l r) (xs ++ ys) (leaves_beside a b)
two_items l r xs ys a b p q e =
    let outer = and_parts a.apart _ e in
    let left = p outer.0 in
    let right = q (and_parts b.apart _ outer.1).0 in
    record {
      numbers = left.numbers ++ right.numbers;
      as_many = length-append left.numbers right.numbers ∙ ap₂ ◌+◌ left.as_many right.as_many ∙ sym (length-append (items_in l) (items_in r));
      apart = sheltered_two left.numbers right.numbers [] [] a b (λ f. left.apart) (λ f. right.apart) e;
      base = λ n h. elim (from_append n left.numbers right.numbers h) [ inl k ↦ in_append_left n xs ys (left.base n k) | inr k ↦ in_append_right n xs ys (right.base n k) ];
    }

-- conditions over it add no items
above : (shape : Shape) (xs more : List ℕ) (conds : List Expr) (a : Leaves) → (a.apart ≡ true → BasedOn shape xs a) → (leaves_beside a (together (map expr_leaf_set conds))).apart ≡ true → BasedOn shape (xs ++ more) (leaves_beside a (together (map expr_leaf_set conds)))
above shape xs more conds a p e =
    let inner = p (and_parts a.apart _ e).0 in
    record {
      numbers = inner.numbers;
      as_many = inner.as_many;
      apart = fewer_exprs inner.numbers ([] ++ conds) (leaves_beside a (together (map expr_leaf_set conds))) (with_exprs inner.numbers [] conds a (λ f. inner.apart) e);
      base = λ n h. in_append_left n xs more (inner.base n h);
    }

abbrev Told : JoinTree → Type 0
Told t = is_rooted t ≡ true → (tree_leaf_set t).apart ≡ true → BasedOn (shape_of t) (in_tree t) (tree_leaf_set t)

leaf_told : (t : JoinTree) → shape_of t ≡ item t → Told t
leaf_told t e rooted apart = subst (λ s. BasedOn s (in_tree t) (tree_leaf_set t)) (sym e) (one_item t rooted)

module _ (left right : JoinTree) (on : List Expr) (p : Told left) (q : Told right) where
  abbrev pair : Leaves
  pair = leaves_beside (leaves_beside no_leaves (tree_leaf_set left)) (tree_leaf_set right)

  abbrev all : Leaves
  all = leaves_beside (leaves_beside (leaves_beside no_leaves (tree_leaf_set left)) (tree_leaf_set right)) (together (map expr_leaf_set on))

  abbrev bases : List ℕ
  bases = (in_tree left ++ (in_tree right ++ [])) ++ (all_in (map in_expr on) ++ [])

  none_yet : no_leaves.apart ≡ true → BasedOn nothing [] no_leaves
  none_yet e = record { numbers = []; as_many = refl; apart = nothing_yet; base = λ n h. h }

  sides : is_rooted left ≡ true → is_rooted right ≡ true → all.apart ≡ true → BasedOn (beside (shape_of left) (shape_of right)) bases all
  sides e f apart =
      above (beside (shape_of left) (shape_of right)) (in_tree left ++ (in_tree right ++ [])) (all_in (map in_expr on) ++ []) on pair
      (λ h. two_items (shape_of left) (shape_of right) (in_tree left) (in_tree right ++ []) (leaves_beside no_leaves (tree_leaf_set left)) (tree_leaf_set right)
      (λ k. alone (p e) k) (λ k. let b = q f k in record { numbers = b.numbers; as_many = b.as_many; apart = b.apart; base = λ n m. in_append_left n (in_tree right) [] (b.base n m) }) h) apart
    where
      alone : ((tree_leaf_set left).apart ≡ true → BasedOn (shape_of left) (in_tree left) (tree_leaf_set left)) → (leaves_beside no_leaves (tree_leaf_set left)).apart ≡ true → BasedOn (shape_of left) (in_tree left) (leaves_beside no_leaves (tree_leaf_set left))
      alone h k =
          let b = h (and_parts (tree_leaf_set left).apart _ k).0 in
          record { numbers = b.numbers; as_many = b.as_many; apart = sheltered_two [] b.numbers [] [] no_leaves (tree_leaf_set left) (λ m. nothing_yet) (λ m. b.apart) k; base = b.base }

  of_kind : (kind : JoinKind) (t : JoinTree) → BasedOn (item t) bases all → BasedOn (beside (shape_of left) (shape_of right)) bases all → BasedOn (joined kind t (shape_of left) (shape_of right) on) bases all
  of_kind join.Full t one both = one
  of_kind join.Inner t one both = record { numbers = both.numbers; as_many = both.as_many; apart = both.apart; base = both.base }
  of_kind join.Left t one both = record { numbers = both.numbers; as_many = both.as_many; apart = both.apart; base = both.base }
  of_kind join.Right t one both = record { numbers = both.numbers; as_many = both.as_many; apart = both.apart; base = both.base }
  of_kind join.Semi t one both = record { numbers = both.numbers; as_many = both.as_many; apart = both.apart; base = both.base }
  of_kind join.Anti t one both = record { numbers = both.numbers; as_many = both.as_many; apart = both.apart; base = both.base }

  join_told : (kind : JoinKind) → Told (tree.Join kind left right on)
  join_told kind rooted apart =
      let t = tree.Join kind left right on in
      let leaves = laws.at-Join Leaves Leaves Leaves Leaves Leaves expr_leaves tree_leaves order_leaves output_leaves query_leaves kind left right on in
      let bases_are = laws.at-Join (List ℕ) (List ℕ) (List ℕ) (List ℕ) (List ℕ) (expr_gives ℕ nothing_of_node base_number) (tree_gives ℕ nothing_of_node base_number) (order_gives ℕ nothing_of_node base_number) (output_gives ℕ nothing_of_node base_number) (query_gives ℕ nothing_of_node base_number) kind left right on in
      let parts : (all_true (is_rooted left ∷ is_rooted right ∷ []) && _) ≡ true = sym (laws.at-Join Bool Bool Bool Bool Bool expr_rooted tree_rooted order_rooted output_rooted query_rooted kind left right on) ∙ rooted in
      let both = and_parts _ _ (and_parts _ _ parts).0 in
      let second = and_parts _ _ both.1 in
      let one = subst (BasedOn (item t) (in_tree t)) leaves (one_item t rooted) in
      subst (λ s. BasedOn s (in_tree t) (tree_leaf_set t)) (sym (at_join kind left right on)) (subst (λ l. BasedOn (joined kind t (shape_of left) (shape_of right) on) (in_tree t) l) (sym leaves) (subst (λ bs. BasedOn (joined kind t (shape_of left) (shape_of right) on) bs all) (sym bases_are)
      (of_kind kind t (subst (λ bs. BasedOn (item t) bs all) bases_are one) (sides both.0 second.0 (sym (ap (λ (l : Leaves). l.apart) leaves) ∙ apart)))))

members_told : (ts : List JoinTree) (start : Leaves) (xs : List ℕ) (shape : Shape) → Each Told ts → list_all is_true_test (map is_rooted ts) ≡ true → (start.apart ≡ true → BasedOn shape xs start) → (fold leaves_beside start (map tree_leaf_set ts)).apart ≡ true
    → BasedOn (fold beside shape (map shape_of ts)) (xs ++ all_in (map in_tree ts)) (fold leaves_beside start (map tree_leaf_set ts))
members_told [] start xs shape each rooted p e = subst (λ ns. BasedOn shape ns start) (sym (append-nil xs)) (p e)
members_told (t ∷ ts) start xs shape each rooted p e =
    let parts = and_parts (is_rooted t) (list_all is_true_test (map is_rooted ts)) rooted in
    subst (λ ns. BasedOn (fold beside (beside shape (shape_of t)) (map shape_of ts)) ns (fold leaves_beside (leaves_beside start (tree_leaf_set t)) (map tree_leaf_set ts))) (append_assoc xs (in_tree t) (all_in (map in_tree ts)))
    (members_told ts (leaves_beside start (tree_leaf_set t)) (xs ++ in_tree t) (beside shape (shape_of t)) each.1 parts.1 (two_items shape (shape_of t) xs (in_tree t) start (tree_leaf_set t) p (each.0 parts.0)) e)

from_told : (members : List JoinTree) (conds : List Expr) → Each Told members → Told (tree.From members conds)
from_told members conds each rooted apart =
    let t = tree.From members conds in
    let leaves = laws.at-From Leaves Leaves Leaves Leaves Leaves expr_leaves tree_leaves order_leaves output_leaves query_leaves members conds in
    let bases_are = laws.at-From (List ℕ) (List ℕ) (List ℕ) (List ℕ) (List ℕ) (expr_gives ℕ nothing_of_node base_number) (tree_gives ℕ nothing_of_node base_number) (order_gives ℕ nothing_of_node base_number) (output_gives ℕ nothing_of_node base_number) (query_gives ℕ nothing_of_node base_number) members conds in
    let parts = and_parts (is_listed (map is_rooted members)) _ (sym (laws.at-From Bool Bool Bool Bool Bool expr_rooted tree_rooted order_rooted output_rooted query_rooted members conds) ∙ rooted) in
    let inner = and_parts (all_true (map is_rooted members)) _ parts.1 in
    let whole = above (shapes_together (map shape_of members)) (all_in (map in_tree members)) (all_in (map in_expr conds) ++ []) conds (together (map tree_leaf_set members))
    (members_told members no_leaves [] nothing each inner.0 (λ e. record { numbers = []; as_many = refl; apart = nothing_yet; base = λ n h. h })) (sym (ap (λ (l : Leaves). l.apart) leaves) ∙ apart) in
    subst (λ s. BasedOn s (in_tree t) (tree_leaf_set t)) (sym (at_from members conds)) (subst (λ l. BasedOn (filtered (shapes_together (map shape_of members)) conds) (in_tree t) l) (sym leaves)
    (subst (λ bs. BasedOn (filtered (shapes_together (map shape_of members)) conds) bs (leaves_beside (together (map tree_leaf_set members)) (together (map expr_leaf_set conds)))) (sym bases_are) (record { numbers = whole.numbers; as_many = whole.as_many; apart = whole.apart; base = whole.base })))

pub based : (t : JoinTree) → is_rooted t ≡ true → (tree_leaf_set t).apart ≡ true → BasedOn (shape_of t) (in_tree t) (tree_leaf_set t)
based = by_form Told (record {
  base = λ rel name table. leaf_told (tree.Base rel name table) (at_base rel name table);
  sub = λ rel name query. leaf_told (tree.Sub rel name query) (at_sub rel name query);
  join = λ kind left right on p q. join_told left right on p q kind;
  from = from_told;
})
