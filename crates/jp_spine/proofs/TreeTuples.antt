-- The tuples of each tree are the outer environment but for the tree's relations, and a typed tree's have numbers below 64.
use Rattle.std.proofs.Common.{◌≡◌, ◌∙◌, ap, sym, subst, ℕ, ◌<◌, inl, inr, ◌&&◌, Bool, true, List, [], ◌∷◌, map, fold, arith}
use Rattle.std.specs.Prelude.{bit_or, nat_lt}
use Rattle.std.specs.List.{list_all}
use Rattle.std.proofs.lemmas.Bool.{and_parts, ltb-true}
use Rattle.jp_base.specs.Sets.{Has}
use Rattle.jp_base.proofs.SetLemmas.{has_or}
use Rattle.jp_base.proofs.MaskAlgebra.{has_none}
use Rattle.jp_facts.proofs.Members.{In, from_append, from_filter}
use Rattle.jp_induction.proofs.EachPart.{Each}
use Rattle.jp_query.specs.declared.Expr.{Expr}
use Rattle.jp_query.specs.declared.Expr.TheOpen.{JoinTree-F}
use Rattle.jp_query.specs.declared.JoinKind.{JoinKind}
use Rattle.jp_query.specs.declared.JoinKind.TheVariants as join
use Rattle.jp_query.specs.declared.JoinTree.{JoinTree}
use Rattle.jp_query.specs.declared.JoinTree.TheVariants as tree
use Rattle.jp_query.specs.declared.Query.{Query}
use Rattle.jp_query.specs.Joins.{join_rels}
use Rattle.jp_query.specs.Meaning.{Row, Env, ValueIn, RowsIn, SortKey, Tuples, holds, in_place, expr_value, tree_tuples, order_key, output_value, query_rows, combined, rels_in, value_of, tuples_of, meaning}
use Rattle.jp_query.specs.Refs.{only}
use Rattle.jp_query.specs.Typing.{Typed, TypedOutput, TypedQuery, expr_type, tree_typed, order_typed, output_typed, query_typed, tree_is_typed, type_of, typed_query, are_conditions, is_true_test}
use Rattle.jp_query.proofs.FoldLaws as laws
use Rattle.jp_problem.specs.Shapes.{Shape, nothing, item, beside, joined, shape_of, items_in}
use Rattle.jp_problem.proofs.ShapeLaws.{at_base, at_sub, at_join, at_from}
use Rattle.jp_conditions.proofs.Forms.{by_form}
use Rattle.jp_conditions.proofs.Spans.{has_only}
use Rattle.jp_spine.proofs.Outside.{AllOut, leaf_out, join_out, rest_out}

pub both_typed : (kind : JoinKind) (left right : JoinTree) (on : List Expr) → tree_is_typed (tree.Join kind left right on) ≡ true → (tree_is_typed left ≡ true) × (tree_is_typed right ≡ true)
both_typed kind left right on typed =
    let a = and_parts (tree_is_typed left) (tree_is_typed right && are_conditions (map type_of on)) (sym (laws.at-Join Typed Bool Typed TypedOutput TypedQuery expr_type tree_typed order_typed output_typed query_typed kind left right on) ∙ typed) in
    (a.0, (and_parts (tree_is_typed right) (are_conditions (map type_of on)) a.1).0)

pub members_typed : (members : List JoinTree) (conds : List Expr) → tree_is_typed (tree.From members conds) ≡ true → list_all is_true_test (map tree_is_typed members) ≡ true
members_typed members conds typed = (and_parts (list_all is_true_test (map tree_is_typed members)) (are_conditions (map type_of conds)) (sym (laws.at-From Typed Bool Typed TypedOutput TypedQuery expr_type tree_typed order_typed output_typed query_typed members conds) ∙ typed)).0

module _ (tables : ℕ → List Row) where
  pub at_tree_base : (rel : ℕ) (name : List ℕ) (table : ℕ) → tuples_of tables (tree.Base rel name table) ≡ tree_tuples tables (JoinTree-F.Base rel name table)
  at_tree_base = laws.at-Base ValueIn Tuples SortKey ValueIn RowsIn (expr_value in_place) (tree_tuples tables) order_key output_value query_rows

  pub at_tree_sub : (rel : ℕ) (name : List ℕ) (query : Query) → tuples_of tables (tree.Sub rel name query) ≡ tree_tuples tables (JoinTree-F.Sub rel name (meaning tables query))
  at_tree_sub = laws.at-Sub ValueIn Tuples SortKey ValueIn RowsIn (expr_value in_place) (tree_tuples tables) order_key output_value query_rows

  pub at_tree_join : (kind : JoinKind) (left right : JoinTree) (on : List Expr) → tuples_of tables (tree.Join kind left right on) ≡ tree_tuples tables (JoinTree-F.Join kind (tuples_of tables left) (tuples_of tables right) (map (value_of tables) on))
  at_tree_join = laws.at-Join ValueIn Tuples SortKey ValueIn RowsIn (expr_value in_place) (tree_tuples tables) order_key output_value query_rows

  pub at_tree_from : (members : List JoinTree) (conds : List Expr) → tuples_of tables (tree.From members conds) ≡ tree_tuples tables (JoinTree-F.From (map (tuples_of tables) members) (map (value_of tables) conds))
  at_tree_from = laws.at-From ValueIn Tuples SortKey ValueIn RowsIn (expr_value in_place) (tree_tuples tables) order_key output_value query_rows

  abbrev N : JoinTree → ℕ
  N t = (tuples_of tables t).rels

  -- ---- outside its relations

  module _ (outer : Env) where
    abbrev OutBy : Tuples → Type 0
    OutBy t = AllOut outer t.rels (t.tuples outer)

    start_out : AllOut outer 0 (outer ∷ [])
    start_out x (inl e) rel none = ap (λ (z : Env). z rel) (sym e)
    start_out x (inr h) rel none = absurd h

    pub tree_out : (t : JoinTree) → AllOut outer (tuples_of tables t).rels ((tuples_of tables t).tuples outer)
    tree_out = by_form (λ t. OutBy (tuples_of tables t)) (record {
      base = λ rel name table. subst OutBy (sym (at_tree_base rel name table)) (leaf_out outer rel (tables table));
      sub = λ rel name query. subst OutBy (sym (at_tree_sub rel name query)) (leaf_out outer rel (meaning tables query outer));
      join = λ kind left right on p q. subst OutBy (sym (at_tree_join kind left right on)) (join_out outer kind (map (value_of tables) on) (N left) (N right) ((tuples_of tables left).tuples outer) ((tuples_of tables right).tuples outer) p q);
      from = λ members conds each. subst OutBy (sym (at_tree_from members conds)) (λ x h. rest_out outer 0 (outer ∷ []) (map (tuples_of tables) members) start_out x (from_filter (holds (map (value_of tables) conds)) x (combined (map (tuples_of tables) members) outer) h).1);
    })

  -- ---- numbers below 64

  abbrev LowBy : Tuples → Type 0
  LowBy t = (i : ℕ) → Has t.rels i → i < 64

  abbrev Low : JoinTree → Type 0
  Low t = tree_is_typed t ≡ true → LowBy (tuples_of tables t)

  leaf_low : (rel : ℕ) → rel < 64 → (i : ℕ) → Has (only rel) i → i < 64
  leaf_low rel low i h = let same = has_only rel i h in omega (arith, same, low)

  join_low : (kind : JoinKind) (a b i : ℕ) → (Has a i → i < 64) → (Has b i → i < 64) → Has (join_rels kind a b) i → i < 64
  join_low join.Inner a b i f g h = elim ((has_or a b i).0 h) [ inl p ↦ f p | inr p ↦ g p ]
  join_low join.Left a b i f g h = elim ((has_or a b i).0 h) [ inl p ↦ f p | inr p ↦ g p ]
  join_low join.Right a b i f g h = elim ((has_or a b i).0 h) [ inl p ↦ f p | inr p ↦ g p ]
  join_low join.Full a b i f g h = elim ((has_or a b i).0 h) [ inl p ↦ f p | inr p ↦ g p ]
  join_low join.Semi a b i f g h = f h
  join_low join.Anti a b i f g h = f h

  fold_low : (ts : List JoinTree) (n i : ℕ) → Each Low ts → list_all is_true_test (map tree_is_typed ts) ≡ true → (Has n i → i < 64) → Has (fold bit_or n (map rels_in (map (tuples_of tables) ts))) i → i < 64
  fold_low [] n i each e f h = f h
  fold_low (t ∷ ts) n i each e f h =
      let a = and_parts (tree_is_typed t) (list_all is_true_test (map tree_is_typed ts)) e in
      fold_low ts (bit_or n (N t)) i each.1 a.1 (λ p. elim ((has_or n (N t) i).0 p) [ inl q ↦ f q | inr q ↦ each.0 a.0 i q ]) h

  pub tree_low : (t : JoinTree) → tree_is_typed t ≡ true → (i : ℕ) → Has (tuples_of tables t).rels i → i < 64
  tree_low = by_form Low (record {
    base = λ rel name table typed. subst LowBy (sym (at_tree_base rel name table)) (leaf_low rel (ltb-true rel 64 (sym (laws.at-Base Typed Bool Typed TypedOutput TypedQuery expr_type tree_typed order_typed output_typed query_typed rel name table) ∙ typed)));
    sub = λ rel name query typed. subst LowBy (sym (at_tree_sub rel name query)) (leaf_low rel (ltb-true rel 64 (and_parts (nat_lt rel 64) (typed_query query).is_typed (sym (laws.at-Sub Typed Bool Typed TypedOutput TypedQuery expr_type tree_typed order_typed output_typed query_typed rel name query) ∙ typed)).0));
    join = λ kind left right on p q typed. (let a = both_typed kind left right on typed in subst LowBy (sym (at_tree_join kind left right on)) (λ i h. join_low kind (N left) (N right) i (p a.0 i) (q a.1 i) h));
    from = λ members conds each typed. subst LowBy (sym (at_tree_from members conds)) (λ i h. fold_low members 0 i each (members_typed members conds typed) (λ p. absurd (has_none i p)) h);
  })

-- ---- the items of a typed tree are typed

abbrev AllTyped : Shape → Type 0
AllTyped shape = (u : JoinTree) → In u (items_in shape) → tree_is_typed u ≡ true

abbrev HasTyped : JoinTree → Type 0
HasTyped t = tree_is_typed t ≡ true → AllTyped (shape_of t)

itself_typed : (t : JoinTree) → tree_is_typed t ≡ true → AllTyped (item t)
itself_typed t typed u (inl e) = subst (λ x. tree_is_typed x ≡ true) e typed
itself_typed t typed u (inr h) = absurd h

two_typed : (a b : Shape) → AllTyped a → AllTyped b → AllTyped (beside a b)
two_typed a b p q u h = elim (from_append u (items_in a) (items_in b) h) [ inl k ↦ p u k | inr k ↦ q u k ]

kind_typed : (kind : JoinKind) (t : JoinTree) (a b : Shape) (on : List Expr) → tree_is_typed t ≡ true → AllTyped a → AllTyped b → AllTyped (joined kind t a b on)
kind_typed join.Inner t a b on typed p q = two_typed a b p q
kind_typed join.Left t a b on typed p q = two_typed a b p q
kind_typed join.Right t a b on typed p q = two_typed a b p q
kind_typed join.Full t a b on typed p q = itself_typed t typed
kind_typed join.Semi t a b on typed p q = two_typed a b p q
kind_typed join.Anti t a b on typed p q = two_typed a b p q

fold_typed : (ts : List JoinTree) (s : Shape) → Each HasTyped ts → list_all is_true_test (map tree_is_typed ts) ≡ true → AllTyped s → AllTyped (fold beside s (map shape_of ts))
fold_typed [] s each e p = p
fold_typed (t ∷ ts) s each e p =
    let a = and_parts (tree_is_typed t) (list_all is_true_test (map tree_is_typed ts)) e in
    fold_typed ts (beside s (shape_of t)) each.1 a.1 (two_typed s (shape_of t) p (each.0 a.0))

pub items_typed : (t : JoinTree) → tree_is_typed t ≡ true → (u : JoinTree) → In u (items_in (shape_of t)) → tree_is_typed u ≡ true
items_typed = by_form HasTyped (record {
  base = λ rel name table typed. subst AllTyped (sym (at_base rel name table)) (itself_typed (tree.Base rel name table) typed);
  sub = λ rel name query typed. subst AllTyped (sym (at_sub rel name query)) (itself_typed (tree.Sub rel name query) typed);
  join = λ kind left right on p q typed. (let a = both_typed kind left right on typed in subst AllTyped (sym (at_join kind left right on)) (kind_typed kind (tree.Join kind left right on) (shape_of left) (shape_of right) on typed (p a.0) (q a.1)));
  from = λ members conds each typed. subst AllTyped (sym (at_from members conds)) (fold_typed members nothing each (members_typed members conds typed) (λ u h. absurd h));
})
