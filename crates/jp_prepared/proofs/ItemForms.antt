-- The items of a tree and their entries: an item is a leaf or a Full join, and the entries of a tree are those of its items.
use Rattle.std.proofs.Common.{◌≡◌, ◌∙◌, ap, sym, subst, refl, inl, inr, List, [], ◌∷◌, ◌++◌, map, fold}
use Rattle.std.specs.List.{flat_map}
use Rattle.jp_facts.proofs.Members.{In, in_append_left, in_append_right}
use Rattle.jp_query.specs.declared.Expr.{Expr}
use Rattle.jp_query.specs.declared.JoinKind.{JoinKind}
use Rattle.jp_query.specs.declared.JoinKind.TheVariants as join
use Rattle.jp_query.specs.declared.JoinTree.{JoinTree, out-JoinTree, out-roll-JoinTree, roll-out-JoinTree}
use Rattle.jp_query.specs.declared.JoinTree.TheVariants as tree
use Rattle.jp_query.specs.declared.Expr.TheOpen.{JoinTree-F}
use Rattle.jp_query.specs.declared.Expr.TheViews.{roll-JoinTree}
use Rattle.jp_query.specs.Layers.{JoinTreeLayer}
use Rattle.jp_query.specs.Scopes.{Schema, Entry, Scope, BoundIn, EntriesIn, ColumnIn, ColumnsIn, in_scope, join_entries, expr_bound, tree_entries, order_bound, output_column, query_columns, entries_of}
use Rattle.jp_query.proofs.FoldLaws as laws
use Rattle.jp_laws.proofs.EachPart.{Each, each_append, each_left, each_right}
use Rattle.jp_problem.specs.Shapes.{Shape, nothing, item, beside, together, joined, shape_of, items_in}
use Rattle.jp_problem.proofs.ShapeLaws.{at_base, at_sub, at_join, at_from}
use Rattle.jp_conditions.proofs.Forms.{by_form}

abbrev pub NotFull : JoinKind → Type 0
NotFull join.Full = ⊥
NotFull kind = Unit {0}

-- ---- items of parts

module _ (t : JoinTree) (v : JoinTree) (l r : Shape) (on : List Expr) where
  pub of_left : (kind : JoinKind) → NotFull kind → In v (items_in l) → In v (items_in (joined kind t l r on))
  of_left join.Full full h = absurd full
  of_left join.Inner full h = in_append_left v (items_in l) (items_in r) h
  of_left join.Left full h = in_append_left v (items_in l) (items_in r) h
  of_left join.Right full h = in_append_left v (items_in l) (items_in r) h
  of_left join.Semi full h = in_append_left v (items_in l) (items_in r) h
  of_left join.Anti full h = in_append_left v (items_in l) (items_in r) h

  pub of_right : (kind : JoinKind) → NotFull kind → In v (items_in r) → In v (items_in (joined kind t l r on))
  of_right join.Full full h = absurd full
  of_right join.Inner full h = in_append_right v (items_in l) (items_in r) h
  of_right join.Left full h = in_append_right v (items_in l) (items_in r) h
  of_right join.Right full h = in_append_right v (items_in l) (items_in r) h
  of_right join.Semi full h = in_append_right v (items_in l) (items_in r) h
  of_right join.Anti full h = in_append_right v (items_in l) (items_in r) h

of_start : (v : JoinTree) (ts : List JoinTree) (shape : Shape) → In v (items_in shape) → In v (items_in (fold beside shape (map shape_of ts)))
of_start v [] shape h = h
of_start v (t ∷ ts) shape h = of_start v ts (beside shape (shape_of t)) (in_append_left v (items_in shape) (items_in (shape_of t)) h)

of_member_from : (v : JoinTree) (ts : List JoinTree) (shape : Shape) (t : JoinTree) → In t ts → In v (items_in (shape_of t)) → In v (items_in (fold beside shape (map shape_of ts)))
of_member_from v [] shape t m h = absurd m
of_member_from v (x ∷ ts) shape t (inl e) h = of_start v ts (beside shape (shape_of x)) (in_append_right v (items_in shape) (items_in (shape_of x)) (subst (λ y. In v (items_in (shape_of y))) (sym e) h))
of_member_from v (x ∷ ts) shape t (inr m) h = of_member_from v ts (beside shape (shape_of x)) t m h

pub of_member : (v : JoinTree) (ts : List JoinTree) (t : JoinTree) → In t ts → In v (items_in (shape_of t)) → In v (items_in (together (map shape_of ts)))
of_member v ts t m h = of_member_from v ts nothing t m h

-- what holds of the items of all parts holds of those of a tree
module _ (P : JoinTree → Type 0) where
  pub items_of_kind : (kind : JoinKind) (t : JoinTree) (l r : Shape) (on : List Expr) → P t → Each P (items_in l) → Each P (items_in r) → Each P (items_in (joined kind t l r on))
  items_of_kind join.Inner t l r on here a b = each_append P (items_in l) (items_in r) a b
  items_of_kind join.Left t l r on here a b = each_append P (items_in l) (items_in r) a b
  items_of_kind join.Right t l r on here a b = each_append P (items_in l) (items_in r) a b
  items_of_kind join.Full t l r on here a b = (here, tt)
  items_of_kind join.Semi t l r on here a b = each_append P (items_in l) (items_in r) a b
  items_of_kind join.Anti t l r on here a b = each_append P (items_in l) (items_in r) a b

  pub items_of_members : (ts : List JoinTree) (shape : Shape) → Each P (items_in shape) → Each (λ t. Each P (items_in (shape_of t))) ts → Each P (items_in (fold beside shape (map shape_of ts)))
  items_of_members [] shape start each = start
  items_of_members (t ∷ ts) shape start each = items_of_members ts (beside shape (shape_of t)) (each_append P (items_in shape) (items_in (shape_of t)) start each.0) each.1

-- ---- the form of an item

abbrev pub HasItemForm : JoinTreeLayer → Type 0
HasItemForm (JoinTree-F.Base rel name table) = Unit {0}
HasItemForm (JoinTree-F.Sub rel name query) = Unit {0}
HasItemForm (JoinTree-F.Join kind left right on) = kind ≡ join.Full
HasItemForm (JoinTree-F.From members conds) = ⊥

abbrev pub IsItemTree : JoinTree → Type 0
IsItemTree t = HasItemForm (out-JoinTree t)

formed : (x : JoinTreeLayer) (t : JoinTree) → roll-JoinTree x ≡ t → HasItemForm x → IsItemTree t
formed x t rolls h = subst HasItemForm (sym (out-roll-JoinTree x) ∙ ap out-JoinTree rolls) h

abbrev Formed : JoinTree → Type 0
Formed t = Each IsItemTree (items_in (shape_of t))

join_formed : (kind : JoinKind) (left right : JoinTree) (on : List Expr) → Formed left → Formed right → Each IsItemTree (items_in (joined kind (tree.Join kind left right on) (shape_of left) (shape_of right) on))
join_formed join.Full left right on p q = (formed (JoinTree-F.Join join.Full left right on) (tree.Join join.Full left right on) (tree.rolls-Join join.Full left right on) refl, tt)
join_formed join.Inner left right on p q = each_append IsItemTree (items_in (shape_of left)) (items_in (shape_of right)) p q
join_formed join.Left left right on p q = each_append IsItemTree (items_in (shape_of left)) (items_in (shape_of right)) p q
join_formed join.Right left right on p q = each_append IsItemTree (items_in (shape_of left)) (items_in (shape_of right)) p q
join_formed join.Semi left right on p q = each_append IsItemTree (items_in (shape_of left)) (items_in (shape_of right)) p q
join_formed join.Anti left right on p q = each_append IsItemTree (items_in (shape_of left)) (items_in (shape_of right)) p q

pub items_formed : (t : JoinTree) → Each IsItemTree (items_in (shape_of t))
items_formed = by_form Formed (record {
  base = λ rel name table. subst (λ s. Each IsItemTree (items_in s)) (sym (at_base rel name table)) (formed (JoinTree-F.Base rel name table) (tree.Base rel name table) (tree.rolls-Base rel name table) tt, tt);
  sub = λ rel name query. subst (λ s. Each IsItemTree (items_in s)) (sym (at_sub rel name query)) (formed (JoinTree-F.Sub rel name query) (tree.Sub rel name query) (tree.rolls-Sub rel name query) tt, tt);
  join = λ kind left right on p q. subst (λ s. Each IsItemTree (items_in s)) (sym (at_join kind left right on)) (join_formed kind left right on p q);
  from = λ members conds each. subst (λ s. Each IsItemTree (items_in s)) (sym (at_from members conds)) (items_of_members IsItemTree members nothing tt each);
})

-- an item is the one item of its own shape
pub alone : (v : JoinTree) → IsItemTree v → items_in (shape_of v) ≡ v ∷ []
alone v form = at (out-JoinTree v) (roll-out-JoinTree v) form
  where
    one : (t : JoinTree) → t ≡ v → shape_of t ≡ item t → items_in (shape_of v) ≡ v ∷ []
    one t e shape = subst (λ u. items_in (shape_of u) ≡ u ∷ []) e (ap items_in shape)

    at : (x : JoinTreeLayer) → roll-JoinTree x ≡ v → HasItemForm x → items_in (shape_of v) ≡ v ∷ []
    at (JoinTree-F.Base rel name table) rolls f = one (tree.Base rel name table) (sym (tree.rolls-Base rel name table) ∙ rolls) (at_base rel name table)
    at (JoinTree-F.Sub rel name query) rolls f = one (tree.Sub rel name query) (sym (tree.rolls-Sub rel name query) ∙ rolls) (at_sub rel name query)
    at (JoinTree-F.Join kind left right on) rolls f =
        one (tree.Join kind left right on) (sym (tree.rolls-Join kind left right on) ∙ rolls) (at_join kind left right on ∙ ap (λ k. joined k (tree.Join kind left right on) (shape_of left) (shape_of right) on) f)
    at (JoinTree-F.From members conds) rolls f = absurd f

-- ---- entries

-- what holds of the entries of a tree's items holds of the entries of the tree
module _ (schema : Schema) (Good : Entry → Type 0) (s : Scope) where
  abbrev pub ItemsGood : JoinTree → Type 0
  ItemsGood t = (v : JoinTree) → In v (items_in (shape_of t)) → Each Good (entries_of schema v s)

  abbrev Owned : JoinTree → Type 0
  Owned t = ItemsGood t → Each Good (entries_of schema t s)

  abbrev at_scope : EntriesIn → List Entry
  at_scope entries = entries s

  pub of_kind : (kind : JoinKind) (l r : List Entry) → Each Good l → Each Good r → Each Good (join_entries kind l r)
  of_kind join.Inner l r a b = each_append Good l r a b
  of_kind join.Left l r a b = each_append Good l r a b
  of_kind join.Right l r a b = each_append Good l r a b
  of_kind join.Full l r a b = each_append Good l r a b
  of_kind join.Semi l r a b = a
  of_kind join.Anti l r a b = a

  pub left_good : (kind : JoinKind) (left right : JoinTree) (on : List Expr) → NotFull kind → ItemsGood (tree.Join kind left right on) → ItemsGood left
  left_good kind left right on apart good v m = good v (subst (λ x. In v (items_in x)) (sym (at_join kind left right on)) (of_left (tree.Join kind left right on) v (shape_of left) (shape_of right) on kind apart m))

  pub right_good : (kind : JoinKind) (left right : JoinTree) (on : List Expr) → NotFull kind → ItemsGood (tree.Join kind left right on) → ItemsGood right
  right_good kind left right on apart good v m = good v (subst (λ x. In v (items_in x)) (sym (at_join kind left right on)) (of_right (tree.Join kind left right on) v (shape_of left) (shape_of right) on kind apart m))

  pub member_good : (members : List JoinTree) (conds : List Expr) → ItemsGood (tree.From members conds) → (t : JoinTree) → In t members → ItemsGood t
  member_good members conds good t among v m = good v (subst (λ x. In v (items_in x)) (sym (at_from members conds)) (of_member v members t among m))

  itself_good : (kind : JoinKind) (left right : JoinTree) (on : List Expr) → kind ≡ join.Full → ItemsGood (tree.Join kind left right on) → Each Good (entries_of schema (tree.Join kind left right on) s)
  itself_good kind left right on full good =
      subst (λ k. ItemsGood (tree.Join k left right on) → Each Good (entries_of schema (tree.Join k left right on) s)) (sym full) (λ g. g (tree.Join join.Full left right on) (subst (λ x. In (tree.Join join.Full left right on) (items_in x)) (sym (at_join join.Full left right on)) (inl refl))) good

  join_owned : (kind : JoinKind) (left right : JoinTree) (on : List Expr) → NotFull kind → Owned left → Owned right → Owned (tree.Join kind left right on)
  join_owned kind left right on apart p q good = subst (Each Good) (sym (ap at_scope (laws.at-Join BoundIn EntriesIn BoundIn ColumnIn ColumnsIn expr_bound (tree_entries schema) order_bound output_column query_columns kind left right on)))
      (of_kind kind (entries_of schema left s) (entries_of schema right s) (p (left_good kind left right on apart good)) (q (right_good kind left right on apart good)))

  by_kind : (kind : JoinKind) (left right : JoinTree) (on : List Expr) → Owned left → Owned right → Owned (tree.Join kind left right on)
  by_kind join.Full left right on p q good = itself_good join.Full left right on refl good
  by_kind join.Inner left right on p q good = join_owned join.Inner left right on tt p q good
  by_kind join.Left left right on p q good = join_owned join.Left left right on tt p q good
  by_kind join.Right left right on p q good = join_owned join.Right left right on tt p q good
  by_kind join.Semi left right on p q good = join_owned join.Semi left right on tt p q good
  by_kind join.Anti left right on p q good = join_owned join.Anti left right on tt p q good

  of_members : (ts : List JoinTree) → Each Owned ts → ((t : JoinTree) → In t ts → ItemsGood t) → Each Good (flat_map (in_scope s) (map (entries_of schema) ts))
  of_members [] each good = tt
  of_members (t ∷ ts) each good = each_append Good (entries_of schema t s) (flat_map (in_scope s) (map (entries_of schema) ts)) (each.0 (good t (inl refl))) (of_members ts each.1 (λ u m. good u (inr m)))

  pub entries_good : (t : JoinTree) → ItemsGood t → Each Good (entries_of schema t s)
  entries_good = by_form Owned (record {
    base = λ rel name table good. good (tree.Base rel name table) (subst (λ x. In (tree.Base rel name table) (items_in x)) (sym (at_base rel name table)) (inl refl));
    sub = λ rel name query good. good (tree.Sub rel name query) (subst (λ x. In (tree.Sub rel name query) (items_in x)) (sym (at_sub rel name query)) (inl refl));
    join = by_kind;
    from = λ members conds each good. subst (Each Good) (sym (ap at_scope (laws.at-From BoundIn EntriesIn BoundIn ColumnIn ColumnsIn expr_bound (tree_entries schema) order_bound output_column query_columns members conds)))
        (of_members members each (member_good members conds good));
  })

  -- of a Full join both sides are good
  pub sides_good : (left right : JoinTree) (on : List Expr) → Each Good (entries_of schema (tree.Join join.Full left right on) s) → Each Good (entries_of schema left s ++ (entries_of schema right s ++ []))
  sides_good left right on h =
      let both = subst (Each Good) (ap at_scope (laws.at-Join BoundIn EntriesIn BoundIn ColumnIn ColumnsIn expr_bound (tree_entries schema) order_bound output_column query_columns join.Full left right on)) h in
      each_append Good (entries_of schema left s) (entries_of schema right s ++ []) (each_left Good (entries_of schema left s) (entries_of schema right s) both)
      (each_append Good (entries_of schema right s) [] (each_right Good (entries_of schema left s) (entries_of schema right s) both) tt)
