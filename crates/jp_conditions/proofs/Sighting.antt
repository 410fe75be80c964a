-- The expressions at each place of a block's shape refer to relations of the items there, and to relations that are foreign to
-- the block: those of leaves inside its expressions and outer ones.
use Rattle.std.proofs.Common.{◌≡◌, ◌∙◌, sym, subst, refl, ℕ, ◌⊎◌, inl, inr, Bool, true, ◌&&◌, List, [], ◌∷◌, ◌++◌, map}
use Rattle.std.specs.Prelude.{fold}
use Rattle.std.specs.List.{list_all}
use Rattle.std.proofs.lemmas.Bool.{and_parts}
use Rattle.jp_base.specs.Sets.{Has}
use Rattle.jp_facts.proofs.Members.{In, in_append_left, in_append_right}
use Rattle.jp_induction.proofs.EachPart.{Each}
use Rattle.jp_query.specs.declared.Expr.{Expr}
use Rattle.jp_query.specs.declared.JoinKind.{JoinKind}
use Rattle.jp_query.specs.declared.JoinKind.TheVariants as join
use Rattle.jp_query.specs.declared.JoinTree.{JoinTree}
use Rattle.jp_query.specs.declared.JoinTree.TheVariants as tree
use Rattle.jp_query.specs.declared.Expr.TheOpen.{JoinTree-F}
use Rattle.jp_query.specs.Conditions.{Tests, judged_expr, judged_tree, knows_columns, knows_placeholders}
use Rattle.jp_query.specs.Refs.{refs_of}
use Rattle.jp_query.specs.Scopes.{Schema, Scope, entries_of}
use Rattle.jp_query.specs.Typing.{Typed, TypedOutput, TypedQuery, is_true_test, are_conditions, type_of, tree_is_typed, expr_type, tree_typed, order_typed, output_typed, query_typed}
use Rattle.jp_query.proofs.FoldLaws as laws
use Rattle.jp_laws.proofs.TuplesFit.{InEntries, in_either}
use Rattle.jp_problem.specs.Shapes.{Shape, nothing, item, beside, filtered, special, together, joined, shape_of, exprs_in}
use Rattle.jp_problem.proofs.ShapeLaws.{at_base, at_sub, at_join, at_from}
use Rattle.jp_conditions.proofs.Entering.{are_rels}
use Rattle.jp_conditions.proofs.Forms.{by_form}
use Rattle.jp_conditions.proofs.Judging.{all_of, TreeDown, tree_down, expr_leaf_set}
use Rattle.jp_conditions.proofs.Leaves.{HasLeaf}
use Rattle.jp_conditions.proofs.Shaping.{OfItems, of_left, of_right, of_member, among_items}
use Rattle.jp_conditions.proofs.Visible.{seen_or_inside}

module _ (Foreign : ℕ → Type 0) where
  -- the expression refers to relations of these items and to foreign ones
  abbrev pub Sees : Shape → Expr → Type 0
  Sees shape e = (rel : ℕ) → Has (refs_of e) rel → OfItems shape rel ⊎ Foreign rel

  abbrev pub SeenBy : Shape → Type 0
  SeenBy nothing = Unit {0}
  SeenBy (item tree) = Unit {0}
  SeenBy (beside left right) = SeenBy left × SeenBy right
  SeenBy (filtered shape conds) = SeenBy shape × Each (Sees shape) conds × (are_conditions (map type_of conds) ≡ true)
  SeenBy (special kind left right on) = SeenBy left × SeenBy right × Each (Sees (beside left right)) on × (are_conditions (map type_of on) ≡ true)

module _ (schema : Schema) (outer : Scope) (Foreign : ℕ → Type 0) (outside : (rel : ℕ) → InEntries outer rel → Foreign rel) where
  -- the leaves inside these expressions are foreign
  abbrev pub Hidden : List Expr → Type 0
  Hidden es = (e : Expr) (rel : ℕ) → In e es → HasLeaf (expr_leaf_set e) rel → Foreign rel

  abbrev Knows : Tests → JoinTree → Type 0
  Knows tests t = (judged_tree schema tests t).passes outer ≡ true

  abbrev KnowsExpr : Tests → List JoinTree → Expr → Type 0
  KnowsExpr tests ts e = (judged_expr schema tests e).passes (all_of schema outer ts ++ outer) ≡ true

  -- the entries of trees are relations of items
  entry_items : (shape : Shape) (ts : List JoinTree) → ((t : JoinTree) (rel : ℕ) → In t ts → OfItems (shape_of t) rel → OfItems shape rel) → (rel : ℕ) → InEntries (all_of schema outer ts) rel → OfItems shape rel
  entry_items shape [] among rel h = cc
  entry_items shape (t ∷ ts) among rel h = elim (in_either (entries_of schema t outer) (all_of schema outer ts) rel h) [
    | inl p ↦ among t rel (inl refl) (among_items t rel ((are_rels schema outer t rel).1 p))
    | inr p ↦ entry_items shape ts (λ u r m. among u r (inr m)) rel p
  ]

  pub sees : (shape : Shape) (entries : Scope) (e : Expr) → ((rel : ℕ) → InEntries entries rel → OfItems shape rel) → (judged_expr schema knows_columns e).passes (entries ++ outer) ≡ true → (judged_expr schema knows_placeholders e).passes (entries ++ outer) ≡ true → ((rel : ℕ) → HasLeaf (expr_leaf_set e) rel → Foreign rel) → Sees Foreign shape e
  sees shape entries e among columns places hidden rel h = elim (seen_or_inside schema rel (entries ++ outer) e columns places h) [
    | inr leaf ↦ inr (hidden rel leaf)
    | inl seen ↦ elim (in_either entries outer rel seen) [ inl p ↦ inl (among rel p) | inr p ↦ inr (outside rel p) ]
  ]

  all_see : (shape : Shape) (ts : List JoinTree) (es : List Expr) → ((t : JoinTree) (rel : ℕ) → In t ts → OfItems (shape_of t) rel → OfItems shape rel) → Each (KnowsExpr knows_columns ts) es → Each (KnowsExpr knows_placeholders ts) es → Hidden es → Each (Sees Foreign shape) es
  all_see shape ts [] among columns places hidden = tt
  all_see shape ts (e ∷ es) among columns places hidden =
      (sees shape (all_of schema outer ts) e (entry_items shape ts among) columns.0 places.0 (λ rel l. hidden e rel (inl refl) l), all_see shape ts es among columns.1 places.1 (λ x rel m l. hidden x rel (inr m) l))

  record Fine (t : JoinTree) : Type 0 where
    columns : Knows knows_columns t
    places : Knows knows_placeholders t
    typed : tree_is_typed t ≡ true

  abbrev Told : JoinTree → Type 0
  Told t = Fine t → Hidden (exprs_in (shape_of t)) → SeenBy Foreign (shape_of t)

  leaf_told : (t : JoinTree) → shape_of t ≡ item t → Told t
  leaf_told t e fine hidden = subst (SeenBy Foreign) (sym e) tt

  module _ (left right : JoinTree) (on : List Expr) (p : Told left) (q : Told right) where
    typed_parts : (kind : JoinKind) → tree_is_typed (tree.Join kind left right on) ≡ true → (tree_is_typed left && (tree_is_typed right && are_conditions (map type_of on))) ≡ true
    typed_parts kind h = sym (laws.at-Join Typed Bool Typed TypedOutput TypedQuery expr_type tree_typed order_typed output_typed query_typed kind left right on) ∙ h

    down : (tests : Tests) (kind : JoinKind) → Knows tests (tree.Join kind left right on) → TreeDown schema tests outer (JoinTree-F.Join kind left right on)
    down tests kind h = tree_down schema tests outer (JoinTree-F.Join kind left right on) (subst (Knows tests) (sym (tree.rolls-Join kind left right on)) h)

    of_two : (t : JoinTree) (rel : ℕ) → In t (left ∷ right ∷ []) → OfItems (shape_of t) rel → OfItems (beside (shape_of left) (shape_of right)) rel
    of_two t rel (inl e) h = of_left (shape_of left) (shape_of right) rel (subst (λ x. OfItems (shape_of x) rel) (sym e) h)
    of_two t rel (inr (inl e)) h = of_right (shape_of left) (shape_of right) rel (subst (λ x. OfItems (shape_of x) rel) (sym e) h)
    of_two t rel (inr (inr m)) h = absurd m

    record Sided : Type 0 where
      in_left : SeenBy Foreign (shape_of left)
      in_right : SeenBy Foreign (shape_of right)
      above : Each (Sees Foreign (beside (shape_of left) (shape_of right))) on
      conds : are_conditions (map type_of on) ≡ true

    sided : (kind : JoinKind) → Fine (tree.Join kind left right on) → Hidden (exprs_in (shape_of left) ++ exprs_in (shape_of right) ++ on) → Sided
    sided kind fine hidden =
        let c = down knows_columns kind fine.columns in
        let d = down knows_placeholders kind fine.places in
        let t1 = and_parts (tree_is_typed left) (tree_is_typed right && are_conditions (map type_of on)) (typed_parts kind fine.typed) in
        let t2 = and_parts (tree_is_typed right) (are_conditions (map type_of on)) t1.1 in
        let sides = exprs_in (shape_of left) ++ exprs_in (shape_of right) in
        record {
          in_left = p (record { columns = c.sides.0; places = d.sides.0; typed = t1.0 }) (λ e rel m l. hidden e rel (in_append_left e sides on (in_append_left e (exprs_in (shape_of left)) (exprs_in (shape_of right)) m)) l);
          in_right = q (record { columns = c.sides.1.0; places = d.sides.1.0; typed = t2.0 }) (λ e rel m l. hidden e rel (in_append_left e sides on (in_append_right e (exprs_in (shape_of left)) (exprs_in (shape_of right)) m)) l);
          above = all_see (beside (shape_of left) (shape_of right)) (left ∷ right ∷ []) on of_two c.conds d.conds (λ e rel m l. hidden e rel (in_append_right e sides on m) l);
          conds = t2.1;
        }

    of_kind : (kind : JoinKind) → Fine (tree.Join kind left right on) → Hidden (exprs_in (joined kind (tree.Join kind left right on) (shape_of left) (shape_of right) on)) → SeenBy Foreign (joined kind (tree.Join kind left right on) (shape_of left) (shape_of right) on)
    of_kind join.Full fine hidden = tt
    of_kind join.Inner fine hidden = let s = sided join.Inner fine hidden in ((s.in_left, s.in_right), s.above, s.conds)
    of_kind join.Left fine hidden = let s = sided join.Left fine hidden in (s.in_left, s.in_right, s.above, s.conds)
    of_kind join.Right fine hidden = let s = sided join.Right fine hidden in (s.in_left, s.in_right, s.above, s.conds)
    of_kind join.Semi fine hidden = let s = sided join.Semi fine hidden in (s.in_left, s.in_right, s.above, s.conds)
    of_kind join.Anti fine hidden = let s = sided join.Anti fine hidden in (s.in_left, s.in_right, s.above, s.conds)

    join_told : (kind : JoinKind) → Told (tree.Join kind left right on)
    join_told kind fine hidden = subst (SeenBy Foreign) (sym (at_join kind left right on)) (of_kind kind fine (subst (λ s. Hidden (exprs_in s)) (at_join kind left right on) hidden))

  members_told : (ts : List JoinTree) (shape : Shape) → Each Told ts → Each (Knows knows_columns) ts → Each (Knows knows_placeholders) ts → list_all is_true_test (map tree_is_typed ts) ≡ true → Hidden (exprs_in (fold beside shape (map shape_of ts))) → (Hidden (exprs_in shape) → SeenBy Foreign shape) → SeenBy Foreign (fold beside shape (map shape_of ts))
  members_told [] shape each columns places typed hidden h = h hidden
  members_told (t ∷ ts) shape each columns places typed hidden h =
      let parts = and_parts (tree_is_typed t) (list_all is_true_test (map tree_is_typed ts)) typed in
      members_told ts (beside shape (shape_of t)) each.1 columns.1 places.1 parts.1 hidden
      (λ both. (h (λ e rel m l. both e rel (in_append_left e (exprs_in shape) (exprs_in (shape_of t)) m) l), each.0 (record { columns = columns.0; places = places.0; typed = parts.0 }) (λ e rel m l. both e rel (in_append_right e (exprs_in shape) (exprs_in (shape_of t)) m) l)))

  from_told : (members : List JoinTree) (conds : List Expr) → Each Told members → Told (tree.From members conds)
  from_told members conds each fine hidden =
      let c = tree_down schema knows_columns outer (JoinTree-F.From members conds) (subst (Knows knows_columns) (sym (tree.rolls-From members conds)) fine.columns) in
      let d = tree_down schema knows_placeholders outer (JoinTree-F.From members conds) (subst (Knows knows_placeholders) (sym (tree.rolls-From members conds)) fine.places) in
      let t = and_parts (list_all is_true_test (map tree_is_typed members)) (are_conditions (map type_of conds)) (sym (laws.at-From Typed Bool Typed TypedOutput TypedQuery expr_type tree_typed order_typed output_typed query_typed members conds) ∙ fine.typed) in
      let shape = together (map shape_of members) in
      let inner = subst (λ s. Hidden (exprs_in s)) (at_from members conds) hidden in
      subst (SeenBy Foreign) (sym (at_from members conds)) (
        members_told members nothing each c.sides d.sides t.0 (λ e rel m l. inner e rel (in_append_left e (exprs_in shape) conds m) l) (λ none. tt),
        all_see shape members conds (of_member members) c.conds d.conds (λ e rel m l. inner e rel (in_append_right e (exprs_in shape) conds m) l),
        t.1,
      )

  told : (t : JoinTree) → Told t
  told = by_form Told (record {
    base = λ rel name table. leaf_told (tree.Base rel name table) (at_base rel name table);
    sub = λ rel name query. leaf_told (tree.Sub rel name query) (at_sub rel name query);
    join = λ kind left right on p q. join_told left right on p q kind;
    from = from_told;
  })

  pub tree_seen : (t : JoinTree) → (judged_tree schema knows_columns t).passes outer ≡ true → (judged_tree schema knows_placeholders t).passes outer ≡ true → tree_is_typed t ≡ true → Hidden (exprs_in (shape_of t)) → SeenBy Foreign (shape_of t)
  tree_seen t columns places typed hidden = told t (record { columns = columns; places = places; typed = typed }) hidden
