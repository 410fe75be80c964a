-- The leaves of a tree in sub-selects too, but in no sublink: they have distinct numbers.
use Rattle.std.proofs.Common.{◌≡◌, ◌∙◌, ap, ap₂, sym, subst, refl, ℕ, inl, inr, Bool, true, false, List, [], ◌∷◌, ◌++◌, map, fold}
use Rattle.std.specs.Prelude.{if◌then◌else◌}
use Rattle.std.proofs.lemmas.List.{append_assoc, append-nil}
use Rattle.jp_facts.proofs.Members.{In, Distinct, distinct_append, from_append, in_append_left, in_append_right}
use Rattle.jp_query.specs.declared.Expr.{Expr}
use Rattle.jp_query.specs.declared.JoinKind.{JoinKind}
use Rattle.jp_query.specs.declared.JoinKind.TheVariants as join
use Rattle.jp_query.specs.declared.JoinTree.{JoinTree}
use Rattle.jp_query.specs.declared.JoinTree.TheVariants as tree
use Rattle.jp_query.specs.declared.Order.{Order}
use Rattle.jp_query.specs.declared.Output.{Output}
use Rattle.jp_query.specs.declared.Query.{Query, out-Query}
use Rattle.jp_query.specs.declared.Expr.TheOpen.{JoinTree-F, Query-F}
use Rattle.jp_query.specs.declared.Expr.TheViews.{roll-JoinTree, roll-Query}
use Rattle.jp_query.specs.declared.Expr.TheFolds.{fold-JoinTree, fold-Query, map-JoinTree, fold-roll-JoinTree, fold-roll-Query}
use Rattle.jp_query.specs.Conditions.{Leaves, leaf, no_leaves, beside, together, are_apart, expr_leaves, tree_leaves, order_leaves, output_leaves, query_leaves, judged_leaves}
use Rattle.jp_query.specs.Layers.{JoinTreeLayer, QueryLayer}
use Rattle.jp_query.specs.Parts.{all_in, option_part, trees, leaf_query}
use Rattle.jp_query.proofs.FoldLaws as laws
use Rattle.jp_induction.proofs.EachPart.{Each}
use Rattle.jp_induction.proofs.Induction as induction
use Rattle.jp_problem.specs.InnerBlocks.{side_block}
use Rattle.jp_problem.specs.Shapes.{Shape, nothing, item, joined, shape_of, items_in}
use Rattle.jp_problem.specs.Shapes.{beside as shapes_beside}
use Rattle.jp_problem.proofs.ShapeLaws.{at_base, at_sub, at_join, at_from}
use Rattle.jp_conditions.proofs.Entering.{own_leaf}
use Rattle.jp_conditions.proofs.Forms.{by_form}
use Rattle.jp_conditions.proofs.Judging.{expr_leaf_set, tree_leaf_set, tree_leaves_level, query_leaves_level}
use Rattle.jp_conditions.proofs.Sheltered.{none_inside}
use Rattle.jp_prepared.proofs.ItemsApart.{parts_apart}

-- with the numbers of sub-select leaves, or of base leaves alone
module _ (with_selects : Bool) where
  abbrev pub select_number : ℕ → List ℕ
  select_number rel = if with_selects then rel ∷ [] else []

  abbrev pub tree_nested : JoinTree-F (Unit {0}) (List ℕ) (Unit {0}) (Unit {0}) (List ℕ) → List ℕ
  tree_nested (JoinTree-F.Base rel name table) = rel ∷ []
  tree_nested (JoinTree-F.Sub rel name query) = select_number rel ++ query
  tree_nested (JoinTree-F.Join kind left right on) = left ++ right
  tree_nested (JoinTree-F.From members conds) = all_in members

  abbrev pub query_nested : Query-F (Unit {0}) (List ℕ) (Unit {0}) (Unit {0}) (List ℕ) → List ℕ
  query_nested q = q.tree

  abbrev pub nested : JoinTree → List ℕ
  nested = fold-JoinTree (Unit {0}) (List ℕ) (Unit {0}) (Unit {0}) (List ℕ) (λ x. tt) tree_nested (λ o. tt) (λ u. tt) query_nested

  abbrev pub nested_in : Query → List ℕ
  nested_in = fold-Query (Unit {0}) (List ℕ) (Unit {0}) (Unit {0}) (List ℕ) (λ x. tt) tree_nested (λ o. tt) (λ u. tt) query_nested

  pub nested_base : (rel : ℕ) (name : List ℕ) (table : ℕ) → nested (tree.Base rel name table) ≡ rel ∷ []
  nested_base rel name table = laws.at-Base (Unit {0}) (List ℕ) (Unit {0}) (Unit {0}) (List ℕ) (λ x. tt) tree_nested (λ o. tt) (λ u. tt) query_nested rel name table

  pub nested_sub : (rel : ℕ) (name : List ℕ) (query : Query) → nested (tree.Sub rel name query) ≡ select_number rel ++ nested_in query
  nested_sub rel name query = laws.at-Sub (Unit {0}) (List ℕ) (Unit {0}) (Unit {0}) (List ℕ) (λ x. tt) tree_nested (λ o. tt) (λ u. tt) query_nested rel name query

  pub nested_join : (kind : JoinKind) (left right : JoinTree) (on : List Expr) → nested (tree.Join kind left right on) ≡ nested left ++ nested right
  nested_join kind left right on = laws.at-Join (Unit {0}) (List ℕ) (Unit {0}) (Unit {0}) (List ℕ) (λ x. tt) tree_nested (λ o. tt) (λ u. tt) query_nested kind left right on

  nested_from : (members : List JoinTree) (conds : List Expr) → nested (tree.From members conds) ≡ all_in (map nested members)
  nested_from members conds = laws.at-From (Unit {0}) (List ℕ) (Unit {0}) (Unit {0}) (List ℕ) (λ x. tt) tree_nested (λ o. tt) (λ u. tt) query_nested members conds

  pub nested_query : (q : Query) → nested_in q ≡ nested (out-Query q).tree
  nested_query q = laws.at-Query (Unit {0}) (List ℕ) (Unit {0}) (Unit {0}) (List ℕ) (λ x. tt) tree_nested (λ o. tt) (λ u. tt) query_nested q

  pub nested_side : (t : JoinTree) → nested_in (side_block t) ≡ nested t
  nested_side t = fold-roll-Query (Unit {0}) (List ℕ) (Unit {0}) (Unit {0}) (List ℕ) (λ x. tt) tree_nested (λ o. tt) (λ u. tt) query_nested (record { columns = []; distinct = false; tree = t; conds = []; order = [] })

  -- ---- they are those of the items

  abbrev of_items : Shape → List ℕ
  of_items shape = all_in (map nested (items_in shape))

  all_of_two : (xs ys : List JoinTree) → all_in (map nested (xs ++ ys)) ≡ all_in (map nested xs) ++ all_in (map nested ys)
  all_of_two [] ys = refl
  all_of_two (x ∷ xs) ys = ap (λ rest. nested x ++ rest) (all_of_two xs ys) ∙ sym (append_assoc (nested x) (all_in (map nested xs)) (all_in (map nested ys)))

  abbrev Gives : JoinTree → Type 0
  Gives t = nested t ≡ of_items (shape_of t)

  one_gives : (t : JoinTree) → shape_of t ≡ item t → Gives t
  one_gives t e = sym (append-nil (nested t)) ∙ sym (ap of_items e)

  two_give : (l r : Shape) (xs ys : List ℕ) → xs ≡ of_items l → ys ≡ of_items r → xs ++ ys ≡ all_in (map nested (items_in l ++ items_in r))
  two_give l r xs ys p q = ap₂ ◌++◌ p q ∙ sym (all_of_two (items_in l) (items_in r))

  kind_gives : (kind : JoinKind) (left right : JoinTree) (on : List Expr) → Gives left → Gives right → nested (tree.Join kind left right on) ≡ of_items (joined kind (tree.Join kind left right on) (shape_of left) (shape_of right) on)
  kind_gives join.Full left right on p q = sym (append-nil (nested (tree.Join join.Full left right on)))
  kind_gives join.Inner left right on p q = nested_join join.Inner left right on ∙ two_give (shape_of left) (shape_of right) (nested left) (nested right) p q
  kind_gives join.Left left right on p q = nested_join join.Left left right on ∙ two_give (shape_of left) (shape_of right) (nested left) (nested right) p q
  kind_gives join.Right left right on p q = nested_join join.Right left right on ∙ two_give (shape_of left) (shape_of right) (nested left) (nested right) p q
  kind_gives join.Semi left right on p q = nested_join join.Semi left right on ∙ two_give (shape_of left) (shape_of right) (nested left) (nested right) p q
  kind_gives join.Anti left right on p q = nested_join join.Anti left right on ∙ two_give (shape_of left) (shape_of right) (nested left) (nested right) p q

  members_give : (ts : List JoinTree) (shape : Shape) (xs : List ℕ) → Each Gives ts → xs ≡ of_items shape → xs ++ all_in (map nested ts) ≡ of_items (fold shapes_beside shape (map shape_of ts))
  members_give [] shape xs each e = append-nil xs ∙ e
  members_give (t ∷ ts) shape xs each e = sym (append_assoc xs (nested t) (all_in (map nested ts))) ∙ members_give ts (shapes_beside shape (shape_of t)) (xs ++ nested t) each.1 (two_give shape (shape_of t) xs (nested t) e each.0)

  pub items_give : (t : JoinTree) → nested t ≡ all_in (map nested (items_in (shape_of t)))
  items_give = by_form Gives (record {
    base = λ rel name table. one_gives (tree.Base rel name table) (at_base rel name table);
    sub = λ rel name query. one_gives (tree.Sub rel name query) (at_sub rel name query);
    join = λ kind left right on p q. kind_gives kind left right on p q ∙ sym (ap of_items (at_join kind left right on));
    from = λ members conds each. nested_from members conds ∙ members_give members nothing [] each refl ∙ sym (ap of_items (at_from members conds));
  })

  -- ---- they are distinct

  pub record Among (all : Leaves) (xs : List ℕ) : Type 0 where
    pub distinct : Distinct xs
    pub found : (n : ℕ) → In n xs → In (own_leaf n) all.leaves

  in_first : (a b : Leaves) (xs : List ℕ) → Among a xs → Among (beside a b) xs
  in_first a b xs h = record { distinct = h.distinct; found = λ n m. in_append_left (own_leaf n) a.leaves b.leaves (h.found n m) }

  in_second : (a b : Leaves) (xs : List ℕ) → Among b xs → Among (beside a b) xs
  in_second a b xs h = record { distinct = h.distinct; found = λ n m. in_append_right (own_leaf n) a.leaves b.leaves (h.found n m) }

  in_both : (a b : Leaves) (xs ys : List ℕ) → Among a xs → Among b ys → are_apart a.leaves b.leaves ≡ true → Among (beside a b) (xs ++ ys)
  in_both a b xs ys h k apart = record {
    distinct = distinct_append xs ys h.distinct k.distinct (λ n p q. none_inside n a.leaves b.leaves (own_leaf n) apart (h.found n p) (k.found n q) refl);
    found = λ n m. elim (from_append n xs ys m) [ inl p ↦ in_append_left (own_leaf n) a.leaves b.leaves (h.found n p) | inr q ↦ in_append_right (own_leaf n) a.leaves b.leaves (k.found n q) ];
  }

  one_among : (rel : ℕ) → Among (leaf rel) (rel ∷ [])
  one_among rel = record { distinct = (λ h. h, tt); found = λ n h. elim h [ inl e ↦ inl (ap own_leaf e) | inr gone ↦ absurd gone ] }

  none_among : (a : Leaves) → Among a []
  none_among a = record { distinct = tt; found = λ n h. absurd h }

  abbrev TreeNests : JoinTree → Type 0
  TreeNests t = (tree_leaf_set t).apart ≡ true → Among (tree_leaf_set t) (nested t)

  abbrev QueryNests : Query → Type 0
  QueryNests q = (judged_leaves q).apart ≡ true → Among (judged_leaves q) (nested_in q)

  select_among : (b : Bool) (rel : ℕ) (all : Leaves) (xs : List ℕ) → Among all xs → are_apart (leaf rel).leaves all.leaves ≡ true → Among (beside (leaf rel) all) ((if b then rel ∷ [] else []) ++ xs)
  select_among true rel all xs h apart = in_both (leaf rel) all (rel ∷ []) xs (one_among rel) h apart
  select_among false rel all xs h apart = in_second (leaf rel) all xs h

  members_among : (ts : List JoinTree) (start : Leaves) (xs : List ℕ) → Each TreeNests ts → (start.apart ≡ true → Among start xs) → (fold beside start (map tree_leaf_set ts)).apart ≡ true → Among (fold beside start (map tree_leaf_set ts)) (xs ++ all_in (map nested ts))
  members_among [] start xs each p h = subst (Among start) (sym (append-nil xs)) (p h)
  members_among (t ∷ ts) start xs each p h =
      subst (Among (fold beside (beside start (tree_leaf_set t)) (map tree_leaf_set ts))) (append_assoc xs (nested t) (all_in (map nested ts)))
      (members_among ts (beside start (tree_leaf_set t)) (xs ++ nested t) each.1 (λ k. let a = parts_apart start (tree_leaf_set t) k in in_both start (tree_leaf_set t) xs (nested t) (p a.0) (each.0 a.1) a.2) h)

  abbrev pub nested_level : JoinTreeLayer → JoinTree-F (Unit {0}) (List ℕ) (Unit {0}) (Unit {0}) (List ℕ)
  nested_level = map-JoinTree Expr JoinTree Order Output Query (Unit {0}) (List ℕ) (Unit {0}) (Unit {0}) (List ℕ) (λ e. tt) nested (λ o. tt) (λ u. tt) nested_in

  level_among : (x : JoinTreeLayer) → Each TreeNests (trees x) → Each QueryNests (option_part (leaf_query x)) → (tree_leaves (tree_leaves_level x)).apart ≡ true → Among (tree_leaves (tree_leaves_level x)) (tree_nested (nested_level x))
  level_among (JoinTree-F.Base rel name table) sides inner h = one_among rel
  level_among (JoinTree-F.Sub rel name query) sides inner h = let a = parts_apart (leaf rel) (judged_leaves query) h in select_among with_selects rel (judged_leaves query) (nested_in query) (inner.0 a.1) a.2
  level_among (JoinTree-F.Join kind left right on) sides inner h =
      let both = together (tree_leaf_set left ∷ tree_leaf_set right ∷ []) in
      let a = parts_apart both (together (map expr_leaf_set on)) h in
      let one = beside no_leaves (tree_leaf_set left) in
      let b = parts_apart one (tree_leaf_set right) a.0 in
      let l = sides.0 (parts_apart no_leaves (tree_leaf_set left) b.0).1 in
      in_first both (together (map expr_leaf_set on)) (nested left ++ nested right) (in_both one (tree_leaf_set right) (nested left) (nested right) (in_second no_leaves (tree_leaf_set left) (nested left) l) (sides.1.0 b.1) b.2)
  level_among (JoinTree-F.From members conds) sides inner h =
      let all = together (map tree_leaf_set members) in
      in_first all (together (map expr_leaf_set conds)) (all_in (map nested members)) (members_among members no_leaves [] sides (λ k. none_among no_leaves) (parts_apart all (together (map expr_leaf_set conds)) h).0)

  tree_step : (x : JoinTreeLayer) → Each TreeNests (trees x) → Each QueryNests (option_part (leaf_query x)) → TreeNests (roll-JoinTree x)
  tree_step x sides inner =
      subst (λ (l : Leaves). l.apart ≡ true → Among l (nested (roll-JoinTree x))) (sym (fold-roll-JoinTree Leaves Leaves Leaves Leaves Leaves expr_leaves tree_leaves order_leaves output_leaves query_leaves x))
      (subst (λ ns. (tree_leaves (tree_leaves_level x)).apart ≡ true → Among (tree_leaves (tree_leaves_level x)) ns) (sym (fold-roll-JoinTree (Unit {0}) (List ℕ) (Unit {0}) (Unit {0}) (List ℕ) (λ x. tt) tree_nested (λ o. tt) (λ u. tt) query_nested x)) (level_among x sides inner))

  query_step : (q : QueryLayer) → TreeNests q.tree → QueryNests (roll-Query q)
  query_step q inner =
      subst (λ (l : Leaves). l.apart ≡ true → Among l (nested_in (roll-Query q))) (sym (fold-roll-Query Leaves Leaves Leaves Leaves Leaves expr_leaves tree_leaves order_leaves output_leaves query_leaves q))
      (subst (λ ns. (query_leaves (query_leaves_level q)).apart ≡ true → Among (query_leaves (query_leaves_level q)) ns) (sym (fold-roll-Query (Unit {0}) (List ℕ) (Unit {0}) (Unit {0}) (List ℕ) (λ x. tt) tree_nested (λ o. tt) (λ u. tt) query_nested q)) at)
    where
      at : (query_leaves (query_leaves_level q)).apart ≡ true → Among (query_leaves (query_leaves_level q)) (nested q.tree)
      at h =
          let two = beside (together (query_leaves_level q).columns) (query_leaves_level q).tree in
          let three = beside two (together (query_leaves_level q).conds) in
          let a = parts_apart three (together (query_leaves_level q).order) h in
          let b = parts_apart two (together (query_leaves_level q).conds) a.0 in
          let c = parts_apart (together (query_leaves_level q).columns) (query_leaves_level q).tree b.0 in
          in_first three (together (query_leaves_level q).order) (nested q.tree) (in_first two (together (query_leaves_level q).conds) (nested q.tree) (in_second (together (query_leaves_level q).columns) (query_leaves_level q).tree (nested q.tree) (inner c.1)))

  steps : induction.Steps (λ e. Unit {0}) TreeNests (λ o. Unit {0}) (λ u. Unit {0}) QueryNests
  steps = record {
    expr = λ x inner query. tt;
    tree = λ t sides conds query. tree_step t sides query;
    order = λ o inner. tt;
    output = λ u inner. tt;
    query = λ q columns tree conds order. query_step q tree;
  }

  pub nested_distinct : (q : Query) → (judged_leaves q).apart ≡ true → Distinct (nested_in q)
  nested_distinct q h = (induction.at_query (λ e. Unit {0}) TreeNests (λ o. Unit {0}) (λ u. Unit {0}) QueryNests steps q h).distinct
