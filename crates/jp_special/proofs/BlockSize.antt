-- How many items and special joins a block has: its items are no more than its own leaves, whose numbers are distinct and
-- lie below 64.
use Rattle.std.proofs.Common.{◌≡◌, ◌∙◌, sym, ap, refl, subst, ℕ, zero, suc, ◌+◌, ◌<◌, ◌≤◌, inl, inr, Bool, true, false, not, ◌&&◌, cond, List, [], ◌∷◌, ◌++◌, map, filter, length, length-append, append_assoc, append-nil, ◌||◌, arith, nat_eq, nat_lt}
use Rattle.std.specs.Prelude.{fold}
use Rattle.std.specs.List.{list_all}
use Rattle.std.proofs.lemmas.Bool.{and_parts, cases_eq, eq-eqb, ne_eqb, ltb-true}
use Rattle.std.proofs.lemmas.List.{length-map}
use Rattle.jp_facts.proofs.Members.{In, Distinct, in_map, from_append, in_append_left, in_append_right, from_filter, distinct_filter, distinct_append}
use Rattle.jp_induction.proofs.EachPart.{Each}
use Rattle.jp_induction.proofs.Induction.{tree_alone}
use Rattle.jp_query.specs.declared.Expr.{Expr}
use Rattle.jp_query.specs.declared.Expr.TheFolds.{fold-JoinTree}
use Rattle.jp_query.specs.declared.Expr.TheOpen.{JoinTree-F}
use Rattle.jp_query.specs.declared.Expr.TheViews.{roll-JoinTree}
use Rattle.jp_query.specs.declared.JoinKind.{JoinKind}
use Rattle.jp_query.specs.declared.JoinKind.TheVariants as join
use Rattle.jp_query.specs.declared.JoinTree.{JoinTree}
use Rattle.jp_query.specs.declared.JoinTree.TheVariants as tree
use Rattle.jp_query.specs.declared.Query.{Query, out-Query}
use Rattle.jp_query.specs.Conditions.{all_true, expr_rooted, tree_rooted, order_rooted, output_rooted, query_rooted, Leaf, Leaves, leaf_is_apart, are_apart, no_leaves, leaf, expr_leaves, tree_leaves, order_leaves, output_leaves, query_leaves}
use Rattle.jp_query.specs.Conditions.{beside as leaves_beside, together as leaves_together}
use Rattle.jp_query.specs.Layers.{JoinTreeLayer}
use Rattle.jp_query.specs.OwnLeaves.{tree_own_leaves, own_leaves}
use Rattle.jp_query.specs.Parts.{all_in, trees}
use Rattle.jp_query.specs.Typing.{is_listed, is_true_test, Typed, TypedOutput, TypedQuery, expr_type, tree_typed, order_typed, output_typed, query_typed, tree_is_typed}
use Rattle.jp_query.proofs.FoldLaws as laws
use Rattle.jp_problem.specs.Blocks.{known_rels, outline_of, top}
use Rattle.jp_problem.specs.Made.{IsBlock}
use Rattle.jp_special.specs.Walks.{HasRoom}
use Rattle.jp_problem.specs.Shapes.{Shape, nothing, item, beside, special, shape_of, block_shape, items_in, count_joins}
use Rattle.jp_problem.proofs.ShapeLaws.{at_base, at_sub, at_join, at_from}

abbrev is_rooted : JoinTree → Bool
is_rooted = fold-JoinTree Bool Bool Bool Bool Bool expr_rooted tree_rooted order_rooted output_rooted query_rooted

-- a tree with leaves has fewer special joins than items, and no more items than leaves of its own
pub record IsSmall (shape : Shape) (leaves : List ℕ) : Type 0 where
  pub joins : suc (count_joins shape) ≤ length (items_in shape)
  pub items : length (items_in shape) ≤ length leaves

abbrev Small : JoinTree → Type 0
Small t = is_rooted t ≡ true → IsSmall (shape_of t) (own_leaves t)

one_item : (t : JoinTree) (leaves : List ℕ) → 1 ≤ length leaves → IsSmall (item t) leaves
one_item t leaves some = record { joins = omega arith; items = some }

two : (l r : Shape) (a b : List ℕ) → IsSmall l a → IsSmall r b → IsSmall (beside l r) (a ++ b)
two l r a b p q = record {
  joins = omega (arith, length-append (items_in l) (items_in r), p.joins, q.joins);
  items = omega (arith, length-append (items_in l) (items_in r), length-append a b, p.items, q.items);
}

two_joined : (kind : JoinKind) (l r : Shape) (on : List Expr) (a b : List ℕ) → IsSmall l a → IsSmall r b → IsSmall (special kind l r on) (a ++ b)
two_joined kind l r on a b p q = record {
  joins = omega (arith, length-append (items_in l) (items_in r), p.joins, q.joins);
  items = omega (arith, length-append (items_in l) (items_in r), length-append a b, p.items, q.items);
}

leaf_base : (rel : ℕ) (name : List ℕ) (table : ℕ) → Small (tree.Base rel name table)
leaf_base rel name table rooted = subst (λ s. IsSmall s (own_leaves (tree.Base rel name table))) (sym (at_base rel name table)) (subst (IsSmall (item (tree.Base rel name table))) (sym (laws.at-Base (Unit {0}) (List ℕ) (Unit {0}) (Unit {0}) (Unit {0}) (λ x. tt) tree_own_leaves (λ o. tt) (λ u. tt) (λ q. tt) rel name table)) (one_item (tree.Base rel name table) (rel ∷ []) (omega arith)))

leaf_sub : (rel : ℕ) (name : List ℕ) (query : Query) → Small (tree.Sub rel name query)
leaf_sub rel name query rooted = subst (λ s. IsSmall s (own_leaves (tree.Sub rel name query))) (sym (at_sub rel name query)) (subst (IsSmall (item (tree.Sub rel name query))) (sym (laws.at-Sub (Unit {0}) (List ℕ) (Unit {0}) (Unit {0}) (Unit {0}) (λ x. tt) tree_own_leaves (λ o. tt) (λ u. tt) (λ q. tt) rel name query)) (one_item (tree.Sub rel name query) (rel ∷ []) (omega arith)))

joined_small : (kind : JoinKind) (left right : JoinTree) (on : List Expr) → IsSmall (shape_of left) (own_leaves left) → IsSmall (shape_of right) (own_leaves right) → IsSmall (shape_of (tree.Join kind left right on)) (own_leaves left ++ own_leaves right)
joined_small join.Full left right on p q = subst (λ s. IsSmall s (own_leaves left ++ own_leaves right)) (sym (at_join join.Full left right on)) (one_item (tree.Join join.Full left right on) (own_leaves left ++ own_leaves right) (omega (arith, length-append (own_leaves left) (own_leaves right), p.items, p.joins)))
joined_small join.Inner left right on p q = subst (λ s. IsSmall s (own_leaves left ++ own_leaves right)) (sym (at_join join.Inner left right on)) (let h = two (shape_of left) (shape_of right) (own_leaves left) (own_leaves right) p q in record { joins = h.joins; items = h.items })
joined_small join.Left left right on p q = subst (λ s. IsSmall s (own_leaves left ++ own_leaves right)) (sym (at_join join.Left left right on)) (two_joined join.Left (shape_of left) (shape_of right) on (own_leaves left) (own_leaves right) p q)
joined_small join.Right left right on p q = subst (λ s. IsSmall s (own_leaves left ++ own_leaves right)) (sym (at_join join.Right left right on)) (two_joined join.Right (shape_of left) (shape_of right) on (own_leaves left) (own_leaves right) p q)
joined_small join.Semi left right on p q = subst (λ s. IsSmall s (own_leaves left ++ own_leaves right)) (sym (at_join join.Semi left right on)) (two_joined join.Semi (shape_of left) (shape_of right) on (own_leaves left) (own_leaves right) p q)
joined_small join.Anti left right on p q = subst (λ s. IsSmall s (own_leaves left ++ own_leaves right)) (sym (at_join join.Anti left right on)) (two_joined join.Anti (shape_of left) (shape_of right) on (own_leaves left) (own_leaves right) p q)

join_small : (kind : JoinKind) (left right : JoinTree) (on : List Expr) → Small left → Small right → Small (tree.Join kind left right on)
join_small kind left right on p q rooted =
    let parts : (all_true (is_rooted left ∷ is_rooted right ∷ []) && _) ≡ true = sym (laws.at-Join Bool Bool Bool Bool Bool expr_rooted tree_rooted order_rooted output_rooted query_rooted kind left right on) ∙ rooted in
    let sides = and_parts _ _ (and_parts _ _ parts).0 in
    let second = and_parts _ _ sides.1 in
    subst (IsSmall (shape_of (tree.Join kind left right on))) (sym (laws.at-Join (Unit {0}) (List ℕ) (Unit {0}) (Unit {0}) (Unit {0}) (λ x. tt) tree_own_leaves (λ o. tt) (λ u. tt) (λ q. tt) kind left right on)) (joined_small kind left right on (p sides.0) (q second.0))

-- so many members give as many items more than special joins
record Sums (n : ℕ) (shape : Shape) (leaves : List ℕ) : Type 0 where
  pub joins : n + count_joins shape ≤ length (items_in shape)
  pub items : length (items_in shape) ≤ length leaves

one_more : (n : ℕ) (s t : Shape) (a b : List ℕ) → Sums n s a → IsSmall t b → Sums (suc n) (beside s t) (a ++ b)
one_more n s t a b p q = record {
  joins = omega (arith, length-append (items_in s) (items_in t), p.joins, q.joins);
  items = omega (arith, length-append (items_in s) (items_in t), length-append a b, p.items, q.items);
}

all_rooted : (members : List JoinTree) → Each Small members → list_all is_true_test (map is_rooted members) ≡ true → Each (λ t. IsSmall (shape_of t) (own_leaves t)) members
all_rooted [] each e = tt
all_rooted (t ∷ members) each e = let parts = and_parts (is_rooted t) (list_all is_true_test (map is_rooted members)) e in (each.0 parts.0, all_rooted members each.1 parts.1)

members_sum : (n : ℕ) (start : Shape) (a : List ℕ) (members : List JoinTree) → Sums n start a → Each (λ t. IsSmall (shape_of t) (own_leaves t)) members → Sums (n + length members) (fold beside start (map shape_of members)) (a ++ all_in (map own_leaves members))
members_sum n start a [] p each = record { joins = omega (arith, p.joins); items = omega (arith, length-append a [], p.items) }
members_sum n start a (t ∷ members) p each =
    let rest = members_sum (suc n) (beside start (shape_of t)) (a ++ own_leaves t) members (one_more n start (shape_of t) a (own_leaves t) p each.0) each.1 in
    record {
      joins = omega (arith, rest.joins);
      items = omega (arith, rest.items, length-append (a ++ own_leaves t) (all_in (map own_leaves members)), length-append a (own_leaves t), length-append a (own_leaves t ++ all_in (map own_leaves members)), length-append (own_leaves t) (all_in (map own_leaves members)));
    }

listed : (members : List JoinTree) → is_listed (map is_rooted members) ≡ true → 1 ≤ length members
listed [] e = cc
listed (t ∷ members) e = omega arith

from_small : (members : List JoinTree) (conds : List Expr) → Each Small members → Small (tree.From members conds)
from_small members conds each rooted =
    let parts = and_parts (is_listed (map is_rooted members)) _ (sym (laws.at-From Bool Bool Bool Bool Bool expr_rooted tree_rooted order_rooted output_rooted query_rooted members conds) ∙ rooted) in
    let inner = and_parts (all_true (map is_rooted members)) _ parts.1 in
    let some = listed members parts.0 in
    let sums = members_sum 0 nothing [] members (record { joins = omega arith; items = omega arith }) (all_rooted members each inner.0) in
    subst (IsSmall (shape_of (tree.From members conds))) (sym (laws.at-From (Unit {0}) (List ℕ) (Unit {0}) (Unit {0}) (Unit {0}) (λ x. tt) tree_own_leaves (λ o. tt) (λ u. tt) (λ q. tt) members conds)) (subst (λ s. IsSmall s (all_in (map own_leaves members))) (sym (at_from members conds)) (record { joins = omega (arith, sums.joins, some); items = sums.items }))

pub small : (t : JoinTree) → Small t
small = tree_alone Small step
  where
    step : (t : JoinTreeLayer) → Each Small (trees t) → Small (roll-JoinTree t)
    step (JoinTree-F.Base rel name table) each = subst Small (sym (tree.rolls-Base rel name table)) (leaf_base rel name table)
    step (JoinTree-F.Sub rel name query) each = subst Small (sym (tree.rolls-Sub rel name query)) (leaf_sub rel name query)
    step (JoinTree-F.Join kind left right on) each = subst Small (sym (tree.rolls-Join kind left right on)) (join_small kind left right on each.0 each.1.0)
    step (JoinTree-F.From members conds) each = subst Small (sym (tree.rolls-From members conds)) (from_small members conds each)

-- ---- the numbers of its own leaves lie below 64

abbrev Below : List ℕ → Type 0
Below xs = (n : ℕ) → In n xs → n < 64

below_append : (xs ys : List ℕ) → Below xs → Below ys → Below (xs ++ ys)
below_append xs ys p q n h = elim (from_append n xs ys h) [ inl a ↦ p n a | inr b ↦ q n b ]

abbrev Low : JoinTree → Type 0
Low t = tree_is_typed t ≡ true → Below (own_leaves t)

low_leaf : (rel : ℕ) → nat_lt rel 64 ≡ true → Below (rel ∷ [])
low_leaf rel e n (inl same) = subst (λ m. m < 64) same (ltb-true rel 64 e)
low_leaf rel e n (inr h) = absurd h

low_all : (members : List JoinTree) → Each Low members → list_all is_true_test (map tree_is_typed members) ≡ true → Below (all_in (map own_leaves members))
low_all [] each e = λ n h. absurd h
low_all (t ∷ members) each e = let parts = and_parts (tree_is_typed t) (list_all is_true_test (map tree_is_typed members)) e in below_append (own_leaves t) (all_in (map own_leaves members)) (each.0 parts.0) (low_all members each.1 parts.1)

pub low : (t : JoinTree) → Low t
low = tree_alone Low step
  where
    base : (rel : ℕ) (name : List ℕ) (table : ℕ) → Low (tree.Base rel name table)
    base rel name table e = subst Below (sym (laws.at-Base (Unit {0}) (List ℕ) (Unit {0}) (Unit {0}) (Unit {0}) (λ x. tt) tree_own_leaves (λ o. tt) (λ u. tt) (λ q. tt) rel name table)) (low_leaf rel (sym (laws.at-Base Typed Bool Typed TypedOutput TypedQuery expr_type tree_typed order_typed output_typed query_typed rel name table) ∙ e))

    sub : (rel : ℕ) (name : List ℕ) (query : Query) → Low (tree.Sub rel name query)
    sub rel name query e = subst Below (sym (laws.at-Sub (Unit {0}) (List ℕ) (Unit {0}) (Unit {0}) (Unit {0}) (λ x. tt) tree_own_leaves (λ o. tt) (λ u. tt) (λ q. tt) rel name query)) (low_leaf rel (and_parts (nat_lt rel 64) _ (sym (laws.at-Sub Typed Bool Typed TypedOutput TypedQuery expr_type tree_typed order_typed output_typed query_typed rel name query) ∙ e)).0)

    both : (kind : JoinKind) (left right : JoinTree) (on : List Expr) → Low left → Low right → Low (tree.Join kind left right on)
    both kind left right on p q e =
        let parts = and_parts (tree_is_typed left) _ (sym (laws.at-Join Typed Bool Typed TypedOutput TypedQuery expr_type tree_typed order_typed output_typed query_typed kind left right on) ∙ e) in
        let more = and_parts (tree_is_typed right) _ parts.1 in
        subst Below (sym (laws.at-Join (Unit {0}) (List ℕ) (Unit {0}) (Unit {0}) (Unit {0}) (λ x. tt) tree_own_leaves (λ o. tt) (λ u. tt) (λ q. tt) kind left right on)) (below_append (own_leaves left) (own_leaves right) (p parts.0) (q more.0))

    from : (members : List JoinTree) (conds : List Expr) → Each Low members → Low (tree.From members conds)
    from members conds each e =
        let parts = and_parts (list_all is_true_test (map tree_is_typed members)) _ (sym (laws.at-From Typed Bool Typed TypedOutput TypedQuery expr_type tree_typed order_typed output_typed query_typed members conds) ∙ e) in
        subst Below (sym (laws.at-From (Unit {0}) (List ℕ) (Unit {0}) (Unit {0}) (Unit {0}) (λ x. tt) tree_own_leaves (λ o. tt) (λ u. tt) (λ q. tt) members conds)) (low_all members each parts.0)

    step : (t : JoinTreeLayer) → Each Low (trees t) → Low (roll-JoinTree t)
    step (JoinTree-F.Base rel name table) each = subst Low (sym (tree.rolls-Base rel name table)) (base rel name table)
    step (JoinTree-F.Sub rel name query) each = subst Low (sym (tree.rolls-Sub rel name query)) (sub rel name query)
    step (JoinTree-F.Join kind left right on) each = subst Low (sym (tree.rolls-Join kind left right on)) (both kind left right on each.0 each.1.0)
    step (JoinTree-F.From members conds) each = subst Low (sym (tree.rolls-From members conds)) (from members conds each)

-- ---- and are distinct

abbrev leaves_of : JoinTree → Leaves
leaves_of = fold-JoinTree Leaves Leaves Leaves Leaves Leaves expr_leaves tree_leaves order_leaves output_leaves query_leaves

abbrev own_leaf : ℕ → Leaf
own_leaf n = record { number = n; sublinks = [] }

abbrev Found : List ℕ → Leaves → Type 0
Found xs all = (n : ℕ) → In n xs → In (own_leaf n) all.leaves

pub record Apart (xs : List ℕ) (all : Leaves) : Type 0 where
  pub distinct : Distinct xs
  pub found : Found xs all

abbrev Told : JoinTree → Type 0
Told t = (leaves_of t).apart ≡ true → Apart (own_leaves t) (leaves_of t)

in_all : {X : Type 0} (p : X → Bool) (x : X) (xs : List X) → list_all p xs ≡ true → In x xs → p x ≡ true
in_all p x [] e h = absurd h
in_all p x (y ∷ xs) e (inl same) = ap p (sym same) ∙ (and_parts (p y) (list_all p xs) e).0
in_all p x (y ∷ xs) e (inr h) = in_all p x xs (and_parts (p y) (list_all p xs) e).1 h

-- one number at one level stands in one part
never : (n : ℕ) → leaf_is_apart (own_leaf n) (own_leaf n) ≡ true → ⊥
never n e = elim (cases_eq n n) [ inl same ↦ absurd (two_values (sym (ap (λ b. not b || false) (eq-eqb n n refl)) ∙ e)) | inr other ↦ absurd (other refl) ]
  where
    two_values : false ≡ true → ⊥
    two_values e = cc

none_in_both : (n : ℕ) (xs ys : List Leaf) → are_apart xs ys ≡ true → In (own_leaf n) xs → In (own_leaf n) ys → ⊥
none_in_both n xs ys e p q = never n (in_all (leaf_is_apart (own_leaf n)) (own_leaf n) ys (in_all (λ a. list_all (leaf_is_apart a) ys) (own_leaf n) xs e p) q)

apart_beside : (xs ys : List ℕ) (a b : Leaves) → (a.apart ≡ true → Apart xs a) → (b.apart ≡ true → Apart ys b) → (leaves_beside a b).apart ≡ true → Apart (xs ++ ys) (leaves_beside a b)
apart_beside xs ys a b p q e =
    let parts = and_parts a.apart (b.apart && are_apart a.leaves b.leaves) e in
    let more = and_parts b.apart (are_apart a.leaves b.leaves) parts.1 in
    let left = p parts.0 in
    let right = q more.0 in
    record {
      distinct = distinct_append xs ys left.distinct right.distinct (λ n h k. none_in_both n a.leaves b.leaves more.1 (left.found n h) (right.found n k));
      found = λ n h. elim (from_append n xs ys h) [ inl k ↦ in_append_left (own_leaf n) a.leaves b.leaves (left.found n k) | inr k ↦ in_append_right (own_leaf n) a.leaves b.leaves (right.found n k) ];
    }

apart_left : (xs : List ℕ) (a b : Leaves) → (a.apart ≡ true → Apart xs a) → (leaves_beside a b).apart ≡ true → Apart xs (leaves_beside a b)
apart_left xs a b p e =
    let left = p (and_parts a.apart (b.apart && are_apart a.leaves b.leaves) e).0 in
    record { distinct = left.distinct; found = λ n h. in_append_left (own_leaf n) a.leaves b.leaves (left.found n h) }

apart_leaf : (rel : ℕ) → Apart (rel ∷ []) (leaf rel)
apart_leaf rel = record { distinct = (λ h. absurd h, tt); found = λ n h. in_map own_leaf n (rel ∷ []) h }

members_apart : (start : Leaves) (xs : List ℕ) (members : List JoinTree) → Each Told members → (start.apart ≡ true → Apart xs start) → (fold leaves_beside start (map leaves_of members)).apart ≡ true → Apart (xs ++ all_in (map own_leaves members)) (fold leaves_beside start (map leaves_of members))
members_apart start xs [] each p e = subst (λ ys. Apart ys start) (sym (append-nil xs)) (p e)
members_apart start xs (t ∷ members) each p e =
    subst (λ ys. Apart ys (fold leaves_beside start (map leaves_of (t ∷ members)))) (append_assoc xs (own_leaves t) (all_in (map own_leaves members)))
    (members_apart (leaves_beside start (leaves_of t)) (xs ++ own_leaves t) members each.1 (apart_beside xs (own_leaves t) start (leaves_of t) p each.0) e)

pub told : (t : JoinTree) → Told t
told = tree_alone Told step
  where
    own_of : (t : JoinTree) (xs : List ℕ) (all : Leaves) → own_leaves t ≡ xs → leaves_of t ≡ all → (all.apart ≡ true → Apart xs all) → Told t
    own_of t xs all own same h e = subst (λ ys. Apart ys (leaves_of t)) (sym own) (subst (Apart xs) (sym same) (h (sym (ap (λ (l : Leaves). l.apart) same) ∙ e)))

    none : no_leaves.apart ≡ true → Apart [] no_leaves
    none e = record { distinct = tt; found = λ n h. absurd h }

    base : (rel : ℕ) (name : List ℕ) (table : ℕ) → Told (tree.Base rel name table)
    base rel name table = own_of (tree.Base rel name table) (rel ∷ []) (leaf rel) (laws.at-Base (Unit {0}) (List ℕ) (Unit {0}) (Unit {0}) (Unit {0}) (λ x. tt) tree_own_leaves (λ o. tt) (λ u. tt) (λ q. tt) rel name table) (laws.at-Base Leaves Leaves Leaves Leaves Leaves expr_leaves tree_leaves order_leaves output_leaves query_leaves rel name table) (λ e. apart_leaf rel)

    sub : (rel : ℕ) (name : List ℕ) (query : Query) → Told (tree.Sub rel name query)
    sub rel name query = own_of (tree.Sub rel name query) (rel ∷ []) (leaves_beside (leaf rel) _) (laws.at-Sub (Unit {0}) (List ℕ) (Unit {0}) (Unit {0}) (Unit {0}) (λ x. tt) tree_own_leaves (λ o. tt) (λ u. tt) (λ q. tt) rel name query) (laws.at-Sub Leaves Leaves Leaves Leaves Leaves expr_leaves tree_leaves order_leaves output_leaves query_leaves rel name query) (apart_left (rel ∷ []) (leaf rel) _ (λ e. apart_leaf rel))

    both : (kind : JoinKind) (left right : JoinTree) (on : List Expr) → Told left → Told right → Told (tree.Join kind left right on)
    both kind left right on p q =
        own_of (tree.Join kind left right on) (own_leaves left ++ own_leaves right) (leaves_beside (leaves_beside (leaves_beside no_leaves (leaves_of left)) (leaves_of right)) _)
        (laws.at-Join (Unit {0}) (List ℕ) (Unit {0}) (Unit {0}) (Unit {0}) (λ x. tt) tree_own_leaves (λ o. tt) (λ u. tt) (λ q. tt) kind left right on) (laws.at-Join Leaves Leaves Leaves Leaves Leaves expr_leaves tree_leaves order_leaves output_leaves query_leaves kind left right on)
        (apart_left (own_leaves left ++ own_leaves right) (leaves_beside (leaves_beside no_leaves (leaves_of left)) (leaves_of right)) _ (apart_beside (own_leaves left) (own_leaves right) (leaves_beside no_leaves (leaves_of left)) (leaves_of right) (apart_beside [] (own_leaves left) no_leaves (leaves_of left) none p) q))

    from : (members : List JoinTree) (conds : List Expr) → Each Told members → Told (tree.From members conds)
    from members conds each =
        own_of (tree.From members conds) (all_in (map own_leaves members)) (leaves_beside (leaves_together (map leaves_of members)) _)
        (laws.at-From (Unit {0}) (List ℕ) (Unit {0}) (Unit {0}) (Unit {0}) (λ x. tt) tree_own_leaves (λ o. tt) (λ u. tt) (λ q. tt) members conds) (laws.at-From Leaves Leaves Leaves Leaves Leaves expr_leaves tree_leaves order_leaves output_leaves query_leaves members conds)
        (apart_left (all_in (map own_leaves members)) (leaves_together (map leaves_of members)) _ (members_apart no_leaves [] members each none))

    step : (t : JoinTreeLayer) → Each Told (trees t) → Told (roll-JoinTree t)
    step (JoinTree-F.Base rel name table) each = subst Told (sym (tree.rolls-Base rel name table)) (base rel name table)
    step (JoinTree-F.Sub rel name query) each = subst Told (sym (tree.rolls-Sub rel name query)) (sub rel name query)
    step (JoinTree-F.Join kind left right on) each = subst Told (sym (tree.rolls-Join kind left right on)) (both kind left right on each.0 each.1.0)
    step (JoinTree-F.From members conds) each = subst Told (sym (tree.rolls-From members conds)) (from members conds each)

-- ---- so many distinct numbers below a bound

abbrev others : ℕ → List ℕ → List ℕ
others k = filter (λ m. not (nat_eq m k))

all_others : (k : ℕ) (xs : List ℕ) → (In k xs → ⊥) → length xs ≤ length (others k xs)
all_others k [] h = omega arith
all_others k (x ∷ xs) h = elim (cases_eq x k) [
  | inl same ↦ absurd (h (inl same))
  | inr other ↦ subst (λ b. suc (length xs) ≤ length (cond (not b) (x ∷ others k xs) (others k xs))) (sym (ne_eqb x k other)) (let rest = all_others k xs (λ p. h (inr p)) in omega (arith, rest))
]

but_one : (k : ℕ) (xs : List ℕ) → Distinct xs → length xs ≤ suc (length (others k xs))
but_one k [] d = omega arith
but_one k (x ∷ xs) d = elim (cases_eq x k) [
  | inl same ↦ subst (λ b. suc (length xs) ≤ suc (length (cond (not b) (x ∷ others k xs) (others k xs)))) (sym (eq-eqb x k same)) (let rest = all_others k xs (subst (λ m. In m xs → ⊥) same d.0) in omega (arith, rest))
  | inr other ↦ subst (λ b. suc (length xs) ≤ suc (length (cond (not b) (x ∷ others k xs) (others k xs)))) (sym (ne_eqb x k other)) (let rest = but_one k xs d.1 in omega (arith, rest))
]

pub at_most : (k : ℕ) (xs : List ℕ) → Distinct xs → ((n : ℕ) → In n xs → n < k) → length xs ≤ k
at_most zero [] d h = omega arith
at_most zero (x ∷ xs) d h = let low = h x (inl refl) in absurd (omega (arith, low))
at_most (suc k) xs d h =
    let rest = at_most k (others k xs) (distinct_filter (λ m. not (nat_eq m k)) xs d) (λ n p. let q = from_filter (λ m. not (nat_eq m k)) n xs p in elim (cases_eq n k) [
      | inl same ↦ absurd (unequal (sym (ap not (eq-eqb n k same)) ∙ q.0))
      | inr other ↦ let low = h n q.1 in omega (arith, low, other)
    ]) in
    let one = but_one k xs d in
    omega (arith, rest, one)
  where
    unequal : false ≡ true → ⊥
    unequal e = cc

-- ---- a block

few_leaves : (query : Query) → IsBlock query → length (own_leaves (out-Query query).tree) ≤ 64
few_leaves query block =
    let typed = and_parts _ _ (sym (ap (λ (t : TypedQuery). t.is_typed) (laws.at-Query Typed Bool Typed TypedOutput TypedQuery expr_type tree_typed order_typed output_typed query_typed query)) ∙ block.typed.expressions) in
    let tree_typed_too = and_parts _ _ typed.1 in
    let apart = sym (ap (λ (l : Leaves). l.apart) (laws.at-Query Leaves Leaves Leaves Leaves Leaves expr_leaves tree_leaves order_leaves output_leaves query_leaves query)) ∙ block.typed.apart in
    let outer = and_parts _ _ apart in
    let middle = and_parts _ _ outer.0 in
    let inner = and_parts _ _ middle.0 in
    let tree_apart = and_parts _ _ inner.1 in
    at_most 64 (own_leaves (out-Query query).tree) (told (out-Query query).tree tree_apart.0).distinct (low (out-Query query).tree tree_typed_too.0)

small_block : (query : Query) → IsBlock query → IsSmall (shape_of (out-Query query).tree) (own_leaves (out-Query query).tree)
small_block query block =
    let parts = and_parts _ _ (sym (laws.at-Query Bool Bool Bool Bool Bool expr_rooted tree_rooted order_rooted output_rooted query_rooted query) ∙ block.typed.rooted) in
    small (out-Query query).tree (and_parts _ _ parts.1).0

-- a block has at most 64 items, and fewer special joins
pub has_room : (query : Query) → IsBlock query → HasRoom top (block_shape query)
has_room query block =
    let leaves = few_leaves query block in
    let s = small_block query block in
    record { items = omega (arith, leaves, s.items); joins = omega (arith, leaves, s.items, s.joins) }

pub few_items : (query : Query) → IsBlock query → length (outline_of query).rels ≤ 64
few_items query block = let room = has_room query block in omega (arith, room.items, length-map (items_in (block_shape query)) known_rels)

pub ruleset block_sizes = (has_room, few_items)
