-- What the shape of a tree keeps: its own leaves, its relations, and that each part has items.
use Rattle.std.proofs.Common.{◌≡◌, ◌∙◌, ap, ap₂, sym, subst, refl, ℕ, ◌≤◌, ◌⊎◌, inl, inr, Bool, true, ◌&&◌, List, [], ◌∷◌, ◌++◌, map, length, append-nil, append_assoc, length-append, arith}
use Rattle.std.specs.Prelude.{bit_or, fold}
use Rattle.std.specs.List.{list_all}
use Rattle.std.proofs.lemmas.Bool.{and_parts}
use Rattle.jp_base.specs.Sets.{Has}
use Rattle.jp_base.proofs.SetLemmas.{has_or}
use Rattle.jp_base.proofs.MaskAlgebra.{has_none}
use Rattle.jp_facts.proofs.Members.{In, in_append_left, in_append_right}
use Rattle.jp_induction.proofs.EachPart.{Each}
use Rattle.jp_query.specs.declared.Expr.{Expr}
use Rattle.jp_query.specs.declared.JoinKind.{JoinKind}
use Rattle.jp_query.specs.declared.JoinKind.TheVariants as join
use Rattle.jp_query.specs.declared.JoinTree.{JoinTree}
use Rattle.jp_query.specs.declared.JoinTree.TheVariants as tree
use Rattle.jp_query.specs.declared.Expr.TheFolds.{fold-JoinTree}
use Rattle.jp_query.specs.Conditions.{all_true, expr_rooted, tree_rooted, order_rooted, output_rooted, query_rooted}
use Rattle.jp_query.specs.Joins.{join_rels}
use Rattle.jp_query.specs.OwnLeaves.{tree_own_leaves, own_leaves}
use Rattle.jp_query.specs.Parts.{all_in, rels_of, tree_rels}
use Rattle.jp_query.specs.Typing.{is_listed, is_true_test}
use Rattle.jp_query.proofs.FoldLaws as laws
use Rattle.jp_problem.specs.Shapes.{Shape, nothing, item, beside, filtered, special, together, joined, shape_of, items_in}
use Rattle.jp_problem.proofs.ShapeLaws.{at_base, at_sub, at_join, at_from}
use Rattle.jp_conditions.proofs.Forms.{by_form}
use Rattle.jp_conditions.proofs.Places.{IsRooted}

abbrev pub is_rooted : JoinTree → Bool
is_rooted = fold-JoinTree Bool Bool Bool Bool Bool expr_rooted tree_rooted order_rooted output_rooted query_rooted

-- ---- own leaves are those of the items

all_in_two : (xs ys : List JoinTree) → all_in (map own_leaves (xs ++ ys)) ≡ all_in (map own_leaves xs) ++ all_in (map own_leaves ys)
all_in_two [] ys = refl
all_in_two (x ∷ xs) ys = ap (λ rest. own_leaves x ++ rest) (all_in_two xs ys) ∙ sym (append_assoc (own_leaves x) (all_in (map own_leaves xs)) (all_in (map own_leaves ys)))

abbrev leaves_at : Shape → List ℕ
leaves_at shape = all_in (map own_leaves (items_in shape))

abbrev OwnSame : JoinTree → Type 0
OwnSame t = own_leaves t ≡ leaves_at (shape_of t)

own_one : (t : JoinTree) → shape_of t ≡ item t → OwnSame t
own_one t e = sym (append-nil (own_leaves t)) ∙ sym (ap leaves_at e)

own_kind : (kind : JoinKind) (left right : JoinTree) (on : List Expr) → own_leaves (tree.Join kind left right on) ≡ own_leaves left ++ own_leaves right → OwnSame left → OwnSame right → own_leaves (tree.Join kind left right on) ≡ leaves_at (joined kind (tree.Join kind left right on) (shape_of left) (shape_of right) on)
own_kind join.Inner left right on e p q = e ∙ ap₂ ◌++◌ p q ∙ sym (all_in_two (items_in (shape_of left)) (items_in (shape_of right)))
own_kind join.Left left right on e p q = e ∙ ap₂ ◌++◌ p q ∙ sym (all_in_two (items_in (shape_of left)) (items_in (shape_of right)))
own_kind join.Right left right on e p q = e ∙ ap₂ ◌++◌ p q ∙ sym (all_in_two (items_in (shape_of left)) (items_in (shape_of right)))
own_kind join.Full left right on e p q = sym (append-nil (own_leaves (tree.Join join.Full left right on)))
own_kind join.Semi left right on e p q = e ∙ ap₂ ◌++◌ p q ∙ sym (all_in_two (items_in (shape_of left)) (items_in (shape_of right)))
own_kind join.Anti left right on e p q = e ∙ ap₂ ◌++◌ p q ∙ sym (all_in_two (items_in (shape_of left)) (items_in (shape_of right)))

own_members : (ts : List JoinTree) (shape : Shape) (xs : List ℕ) → Each OwnSame ts → xs ≡ leaves_at shape → xs ++ all_in (map own_leaves ts) ≡ leaves_at (fold beside shape (map shape_of ts))
own_members [] shape xs each e = append-nil xs ∙ e
own_members (t ∷ ts) shape xs each e = sym (append_assoc xs (own_leaves t) (all_in (map own_leaves ts))) ∙ own_members ts (beside shape (shape_of t)) (xs ++ own_leaves t) each.1 (ap₂ ◌++◌ e each.0 ∙ sym (all_in_two (items_in shape) (items_in (shape_of t))))

pub own_items : (t : JoinTree) → own_leaves t ≡ all_in (map own_leaves (items_in (shape_of t)))
own_items = by_form OwnSame (record {
  base = λ rel name table. own_one (tree.Base rel name table) (at_base rel name table);
  sub = λ rel name query. own_one (tree.Sub rel name query) (at_sub rel name query);
  join = λ kind left right on p q. own_kind kind left right on (laws.at-Join (Unit {0}) (List ℕ) (Unit {0}) (Unit {0}) (Unit {0}) (λ x. tt) tree_own_leaves (λ o. tt) (λ u. tt) (λ q. tt) kind left right on) p q ∙ sym (ap leaves_at (at_join kind left right on));
  from = λ members conds each. laws.at-From (Unit {0}) (List ℕ) (Unit {0}) (Unit {0}) (Unit {0}) (λ x. tt) tree_own_leaves (λ o. tt) (λ u. tt) (λ q. tt) members conds ∙ own_members members nothing [] each refl ∙ sym (ap leaves_at (at_from members conds));
})

-- ---- the relations of a tree are those of its items

abbrev pub OfItems : Shape → ℕ → Type 0
OfItems shape rel = (t : JoinTree) × In t (items_in shape) × Has (rels_of t) rel

pub of_left : (l r : Shape) (rel : ℕ) → OfItems l rel → OfItems (beside l r) rel
of_left l r rel h = (h.0, in_append_left h.0 (items_in l) (items_in r) h.1, h.2)

pub of_right : (l r : Shape) (rel : ℕ) → OfItems r rel → OfItems (beside l r) rel
of_right l r rel h = (h.0, in_append_right h.0 (items_in l) (items_in r) h.1, h.2)

of_start : (ts : List JoinTree) (shape : Shape) (rel : ℕ) → OfItems shape rel → OfItems (fold beside shape (map shape_of ts)) rel
of_start [] shape rel h = h
of_start (t ∷ ts) shape rel h = of_start ts (beside shape (shape_of t)) rel (of_left shape (shape_of t) rel h)

of_member_from : (ts : List JoinTree) (shape : Shape) (t : JoinTree) (rel : ℕ) → In t ts → OfItems (shape_of t) rel → OfItems (fold beside shape (map shape_of ts)) rel
of_member_from [] shape t rel m h = absurd m
of_member_from (u ∷ ts) shape t rel (inl e) h = of_start ts (beside shape (shape_of u)) rel (of_right shape (shape_of u) rel (subst (λ x. OfItems (shape_of x) rel) (sym e) h))
of_member_from (u ∷ ts) shape t rel (inr m) h = of_member_from ts (beside shape (shape_of u)) t rel m h

pub of_member : (ts : List JoinTree) (t : JoinTree) (rel : ℕ) → In t ts → OfItems (shape_of t) rel → OfItems (together (map shape_of ts)) rel
of_member ts t rel m h = of_member_from ts nothing t rel m h

abbrev AmongItems : JoinTree → Type 0
AmongItems t = (rel : ℕ) → Has (rels_of t) rel → OfItems (shape_of t) rel

among_itself : (t : JoinTree) → shape_of t ≡ item t → AmongItems t
among_itself t e rel h = subst (λ s. OfItems s rel) (sym e) (t, inl refl, h)

among_kind : (kind : JoinKind) (left right : JoinTree) (on : List Expr) (rel : ℕ) → AmongItems left → AmongItems right → Has (rels_of (tree.Join kind left right on)) rel → Has (join_rels kind (rels_of left) (rels_of right)) rel → OfItems (joined kind (tree.Join kind left right on) (shape_of left) (shape_of right) on) rel
among_kind join.Full left right on rel p q whole h = (tree.Join join.Full left right on, inl refl, whole)
among_kind join.Inner left right on rel p q whole h = elim ((has_or (rels_of left) (rels_of right) rel).0 h) [ inl k ↦ of_left (shape_of left) (shape_of right) rel (p rel k) | inr k ↦ of_right (shape_of left) (shape_of right) rel (q rel k) ]
among_kind join.Left left right on rel p q whole h = elim ((has_or (rels_of left) (rels_of right) rel).0 h) [ inl k ↦ of_left (shape_of left) (shape_of right) rel (p rel k) | inr k ↦ of_right (shape_of left) (shape_of right) rel (q rel k) ]
among_kind join.Right left right on rel p q whole h = elim ((has_or (rels_of left) (rels_of right) rel).0 h) [ inl k ↦ of_left (shape_of left) (shape_of right) rel (p rel k) | inr k ↦ of_right (shape_of left) (shape_of right) rel (q rel k) ]
among_kind join.Semi left right on rel p q whole h = of_left (shape_of left) (shape_of right) rel (p rel h)
among_kind join.Anti left right on rel p q whole h = of_left (shape_of left) (shape_of right) rel (p rel h)

among_members : (ts all : List JoinTree) (rel : ℕ) (n : ℕ) → ((t : JoinTree) → In t ts → In t all) → Each AmongItems ts → Has (fold bit_or n (map rels_of ts)) rel → Has n rel ⊎ OfItems (together (map shape_of all)) rel
among_members [] all rel n sub each h = inl h
among_members (t ∷ ts) all rel n sub each h = elim (among_members ts all rel (bit_or n (rels_of t)) (λ u m. sub u (inr m)) each.1 h) [
  | inr p ↦ inr p
  | inl p ↦ elim ((has_or n (rels_of t) rel).0 p) [ inl q ↦ inl q | inr q ↦ inr (of_member all t rel (sub t (inl refl)) (each.0 rel q)) ]
]

pub among_items : (t : JoinTree) (rel : ℕ) → Has (rels_of t) rel → OfItems (shape_of t) rel
among_items = by_form AmongItems (record {
  base = λ rel name table. among_itself (tree.Base rel name table) (at_base rel name table);
  sub = λ rel name query. among_itself (tree.Sub rel name query) (at_sub rel name query);
  join = λ kind left right on p q rel h. subst (λ s. OfItems s rel) (sym (at_join kind left right on)) (among_kind kind left right on rel p q h (subst (λ n. Has n rel) (laws.at-Join (Unit {0}) ℕ (Unit {0}) (Unit {0}) (Unit {0}) (λ x. tt) tree_rels (λ o. tt) (λ o. tt) (λ q. tt) kind left right on) h));
  from = λ members conds each rel h. subst (λ s. OfItems s rel) (sym (at_from members conds)) (elim (among_members members members rel 0 (λ t m. m) each (subst (λ n. Has n rel) (laws.at-From (Unit {0}) ℕ (Unit {0}) (Unit {0}) (Unit {0}) (λ x. tt) tree_rels (λ o. tt) (λ o. tt) (λ q. tt) members conds) h)) [ inl z ↦ absurd (has_none rel z) | inr p ↦ p ]);
})

-- ---- each tree has items

pub record HasItems (shape : Shape) : Type 0 where
  pub some : 1 ≤ length (items_in shape)
  pub rooted : IsRooted shape

abbrev Kept : JoinTree → Type 0
Kept t = is_rooted t ≡ true → HasItems (shape_of t)

one_item : (t : JoinTree) → shape_of t ≡ item t → Kept t
one_item t e rooted = subst HasItems (sym e) (record { some = omega arith; rooted = tt })

two_items : (l r : Shape) → HasItems l → HasItems r → HasItems (beside l r)
two_items l r p q = record { some = omega (arith, length-append (items_in l) (items_in r), p.some); rooted = (p.rooted, q.rooted) }

special_items : (kind : JoinKind) (l r : Shape) (on : List Expr) → HasItems l → HasItems r → HasItems (special kind l r on)
special_items kind l r on p q = record { some = omega (arith, length-append (items_in l) (items_in r), p.some); rooted = (p.some, q.some, p.rooted, q.rooted) }

filtered_items : (shape : Shape) (conds : List Expr) → HasItems shape → HasItems (filtered shape conds)
filtered_items shape conds p = record { some = p.some; rooted = p.rooted }

kept_kind : (kind : JoinKind) (t : JoinTree) (l r : Shape) (on : List Expr) → HasItems l → HasItems r → HasItems (joined kind t l r on)
kept_kind join.Full t l r on p q = record { some = omega arith; rooted = tt }
kept_kind join.Inner t l r on p q = filtered_items (beside l r) on (two_items l r p q)
kept_kind join.Left t l r on p q = special_items join.Left l r on p q
kept_kind join.Right t l r on p q = special_items join.Right l r on p q
kept_kind join.Semi t l r on p q = special_items join.Semi l r on p q
kept_kind join.Anti t l r on p q = special_items join.Anti l r on p q

kept_join : (kind : JoinKind) (left right : JoinTree) (on : List Expr) → Kept left → Kept right → Kept (tree.Join kind left right on)
kept_join kind left right on p q rooted =
    let parts : (all_true (is_rooted left ∷ is_rooted right ∷ []) && _) ≡ true = sym (laws.at-Join Bool Bool Bool Bool Bool expr_rooted tree_rooted order_rooted output_rooted query_rooted kind left right on) ∙ rooted in
    let sides = and_parts _ _ (and_parts _ _ parts).0 in
    let second = and_parts _ _ sides.1 in
    subst HasItems (sym (at_join kind left right on)) (kept_kind kind (tree.Join kind left right on) (shape_of left) (shape_of right) on (p sides.0) (q second.0))

-- once some member has items, all together have
members_kept : (ts : List JoinTree) (shape : Shape) → Each Kept ts → list_all is_true_test (map is_rooted ts) ≡ true → HasItems shape → HasItems (fold beside shape (map shape_of ts))
members_kept [] shape each e p = p
members_kept (t ∷ ts) shape each e p = let parts = and_parts (is_rooted t) (list_all is_true_test (map is_rooted ts)) e in members_kept ts (beside shape (shape_of t)) each.1 parts.1 (two_items shape (shape_of t) p (each.0 parts.0))

first_kept : (ts : List JoinTree) → Each Kept ts → is_listed (map is_rooted ts) ≡ true → list_all is_true_test (map is_rooted ts) ≡ true → HasItems (together (map shape_of ts))
first_kept [] each e f = cc
first_kept (t ∷ ts) each e f =
    let parts = and_parts (is_rooted t) (list_all is_true_test (map is_rooted ts)) f in
    let here = each.0 parts.0 in
    members_kept ts (beside nothing (shape_of t)) each.1 parts.1 (record { some = here.some; rooted = (tt, here.rooted) })

kept_from : (members : List JoinTree) (conds : List Expr) → Each Kept members → Kept (tree.From members conds)
kept_from members conds each rooted =
    let parts = and_parts (is_listed (map is_rooted members)) _ (sym (laws.at-From Bool Bool Bool Bool Bool expr_rooted tree_rooted order_rooted output_rooted query_rooted members conds) ∙ rooted) in
    let inner = and_parts (all_true (map is_rooted members)) _ parts.1 in
    subst HasItems (sym (at_from members conds)) (filtered_items (together (map shape_of members)) conds (first_kept members each parts.0 inner.0))

pub has_items : (t : JoinTree) → is_rooted t ≡ true → HasItems (shape_of t)
has_items = by_form Kept (record {
  base = λ rel name table. one_item (tree.Base rel name table) (at_base rel name table);
  sub = λ rel name query. one_item (tree.Sub rel name query) (at_sub rel name query);
  join = kept_join;
  from = kept_from;
})
