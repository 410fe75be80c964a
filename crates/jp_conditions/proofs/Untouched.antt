-- Where relations are gone to which an expression doesn't refer, the tests of nullness say of it what they say where nothing
-- is gone.
use Rattle.std.proofs.Common.{◌≡◌, ◌∙◌, ap, ap₂, sym, subst, refl, ℕ, ◌<◌, inl, inr, Bool, true, false, ◌||◌, List, [], ◌∷◌, map}
use Rattle.std.specs.Prelude.{bit_or}
use Rattle.std.specs.Int.{bit_at}
use Rattle.std.specs.List.{list_any, list_all}
use Rattle.std.proofs.lemmas.Bool.{eqb-true}
use Rattle.jp_base.specs.Sets.{Has, Within}
use Rattle.jp_base.proofs.MaskAlgebra.{has_none, in_right}
use Rattle.jp_induction.proofs.EachPart.{Each, each_both, each_mapped, parts_map}
use Rattle.jp_induction.proofs.Induction.{expr_alone}
use Rattle.jp_query.specs.declared.Expr.{Expr}
use Rattle.jp_query.specs.declared.JoinTree.{JoinTree}
use Rattle.jp_query.specs.declared.Order.{Order}
use Rattle.jp_query.specs.declared.Output.{Output}
use Rattle.jp_query.specs.declared.Query.{Query}
use Rattle.jp_query.specs.declared.Expr.TheOpen.{Expr-F}
use Rattle.jp_query.specs.declared.Expr.TheFolds.{map-Expr, fold-roll-Expr}
use Rattle.jp_query.specs.declared.Expr.TheViews.{roll-Expr}
use Rattle.jp_query.specs.Layers.{ExprLayer}
use Rattle.jp_query.specs.Meaning.{has}
use Rattle.jp_query.specs.Nullness.{Gone, Surely, surely, is_null, is_not_true, is_not_false, each, is_gone, are_gone, of_test, expr_surely, surely_of, rejects}
use Rattle.jp_query.specs.Parts.{parts}
use Rattle.jp_query.specs.Refs.{only, below_64, expr_refs, tree_refs, order_refs, output_refs, query_refs, refs_of, refs_of_tree, refs_of_order, refs_of_output, refs_of_query}
use Rattle.jp_laws.proofs.GatheredLaws.{parts_inside, Inside}
use Rattle.jp_laws.proofs.Agreeing.{has_only}
use Rattle.jp_problem.specs.Legal.{Apart}
use Rattle.jp_problem.specs.Sets.{is_within}
use Rattle.jp_problem.proofs.SetTests.{is_within_says, same_test}
use Rattle.jp_facts.proofs.Members.{In}

same_list : {A B : Type 0} (f g : A → B) (xs : List A) → Each (λ x. f x ≡ g x) xs → map f xs ≡ map g xs
same_list f g [] each = refl
same_list f g (x ∷ xs) each = ap₂ ◌∷◌ each.0 (same_list f g xs each.1)

abbrev with_tests : (Expr → Surely) → ExprLayer → Expr-F Surely (Unit {0}) (Unit {0}) (Unit {0}) (Unit {0})
with_tests f = map-Expr Expr JoinTree Order Output Query Surely (Unit {0}) (Unit {0}) (Unit {0}) (Unit {0}) f (λ t. tt) (λ o. tt) (λ u. tt) (λ q. tt)

module _ (a b : Gone) (f g : Expr → Surely) where
  -- what the level itself looks at
  abbrev OwnSame : ExprLayer → Type 0
  OwnSame (Expr-F.Col rel col ty nulled) = is_gone a rel col ≡ is_gone b rel col
  OwnSame (Expr-F.Place inner rels) = are_gone a rels ≡ are_gone b rels
  OwnSame x = Unit {0}

  same_parts : (x : ExprLayer) → Each (λ y. f y ≡ g y) (parts x) → parts (with_tests f x) ≡ parts (with_tests g x)
  same_parts x each =
      parts_map f (λ t. tt) (λ o. tt) (λ u. tt) (λ q. tt) x ∙ same_list f g (parts x) each ∙ sym (parts_map g (λ t. tt) (λ o. tt) (λ u. tt) (λ q. tt) x)

  level_same : (x : ExprLayer) → Each (λ y. f y ≡ g y) (parts x) → OwnSame x → expr_surely a (with_tests f x) ≡ expr_surely b (with_tests g x)
  level_same (Expr-F.Col rel col ty nulled) same own = ap (λ e. surely e false false) own
  level_same (Expr-F.Lit v ty) same own = refl
  level_same (Expr-F.Place inner rels) same own = ap₂ (λ e (s : Surely). surely (e || s.null) s.not_true s.not_false) own same.0
  level_same (Expr-F.Neg operand) same own = ap (λ (s : Surely). surely s.null false false) same.0
  level_same (Expr-F.Sum terms) same own = ap (λ list. surely (list_any is_null list) false false) (same_parts (Expr-F.Sum terms) same)
  level_same (Expr-F.Product factors) same own = ap (λ list. surely (list_any is_null list) false false) (same_list f g factors same)
  level_same (Expr-F.Concat pieces) same own = ap (λ list. surely (list_any is_null list) false false) (same_list f g pieces same)
  level_same (Expr-F.Compare op left right) same own = ap₂ (λ (s t : Surely). surely (s.null || t.null) false false) same.0 same.1.0
  level_same (Expr-F.Between operand low high) same own =
      ap₂ (λ (s t : Surely). surely s.null (s.null || (t.null || (f high).null)) false) same.0 same.1.0 ∙ ap (λ (r : Surely). surely (g operand).null ((g operand).null || ((g low).null || r.null)) false) same.1.1.0
  level_same (Expr-F.InList operand list) same own = ap (λ (s : Surely). surely s.null false false) same.0
  level_same (Expr-F.And members) same own = ap (λ list. surely (each is_null list) (list_any is_not_true list) (each is_not_false list)) (same_list f g members same)
  level_same (Expr-F.Or members) same own = ap (λ list. surely (each is_null list) (each is_not_true list) (list_any is_not_false list)) (same_list f g members same)
  level_same (Expr-F.Not operand) same own = ap (λ (s : Surely). surely s.null s.not_false s.not_true) same.0
  level_same (Expr-F.Test test operand) same own = ap (of_test test) same.0
  level_same (Expr-F.Coalesce members) same own = ap (λ list. surely (list_all is_null list) false false) (same_list f g members same)
  level_same (Expr-F.Case operand arms otherwise) same own = refl
  level_same (Expr-F.Exists sub query) same own = refl
  level_same (Expr-F.InSub sub operand query) same own = ap (λ (s : Surely). surely false s.null false) same.0

module _ (set : ℕ) (low : (i : ℕ) → Has set i → i < 64) where
  abbrev IsSame : Expr → Type 0
  IsSame x = Apart set (refs_of x) → surely_of (Gone.relations set) x ≡ surely_of (Gone.relations 0) x

  bit_same : (b c : Bool) → (b ≡ true → ⊥) → (c ≡ true → ⊥) → b ≡ c
  bit_same true c p q = absurd (p refl)
  bit_same false true p q = absurd (q refl)
  bit_same false false p q = refl

  col_same : (rel : ℕ) → Apart set (below_64 (only rel)) → has set rel ≡ has 0 rel
  col_same rel apart =
      bit_same (has set rel) (has 0 rel)
      (λ e. let h = eqb-true (bit_at set rel) 1 e in apart (rel, h, has_only rel (low rel h)))
      (λ e. has_none rel (eqb-true (bit_at 0 rel) 1 e))

  place_same : (inner rels : ℕ) → Apart set (bit_or inner rels) → is_within rels set ≡ is_within rels 0
  place_same inner rels apart = same_test (is_within rels set) (is_within rels 0)
      (λ e. (is_within_says rels 0).1 (λ i h. absurd (apart (i, (is_within_says rels set).0 e i h, in_right inner rels i h))))
      (λ e. (is_within_says rels set).1 (λ i h. absurd (has_none i ((is_within_says rels 0).0 e i h))))

  own_same : (x : ExprLayer) → Apart set (expr_refs (map-Expr Expr JoinTree Order Output Query ℕ ℕ ℕ ℕ ℕ refs_of refs_of_tree refs_of_order refs_of_output refs_of_query x)) → OwnSame (Gone.relations set) (Gone.relations 0) (surely_of (Gone.relations set)) (surely_of (Gone.relations 0)) x
  own_same (Expr-F.Col rel col ty nulled) apart = col_same rel apart
  own_same (Expr-F.Place inner rels) apart = place_same (refs_of inner) rels apart
  own_same x apart = tt

  untouched_level : (x : ExprLayer) → Each IsSame (parts x) → IsSame (roll-Expr x)
  untouched_level x inner apart =
      let level = map-Expr Expr JoinTree Order Output Query ℕ ℕ ℕ ℕ ℕ refs_of refs_of_tree refs_of_order refs_of_output refs_of_query x in
      let here : Apart set (expr_refs level) = subst (Apart set) (fold-roll-Expr ℕ ℕ ℕ ℕ ℕ expr_refs tree_refs order_refs output_refs query_refs x) apart in
      let smaller = each_mapped (Inside (expr_refs level)) refs_of (parts x) (subst (Each (Inside (expr_refs level))) (parts_map refs_of refs_of_tree refs_of_order refs_of_output refs_of_query x) (parts_inside level (expr_refs level) (λ i h. h)).0) in
      let same = each_both IsSame (λ y. Within (refs_of y) (expr_refs level)) (λ y. surely_of (Gone.relations set) y ≡ surely_of (Gone.relations 0) y) (λ y good w. good (λ m. here (m.0, m.1, w m.0 m.2))) (parts x) inner smaller in
      fold-roll-Expr Surely (Unit {0}) (Unit {0}) (Unit {0}) (Unit {0}) (expr_surely (Gone.relations set)) (λ t. tt) (λ o. tt) (λ o. tt) (λ q. tt) x
      ∙ level_same (Gone.relations set) (Gone.relations 0) (surely_of (Gone.relations set)) (surely_of (Gone.relations 0)) x same (own_same x here)
      ∙ sym (fold-roll-Expr Surely (Unit {0}) (Unit {0}) (Unit {0}) (Unit {0}) (expr_surely (Gone.relations 0)) (λ t. tt) (λ o. tt) (λ o. tt) (λ q. tt) x)

  pub untouched : (x : Expr) → Apart set (refs_of x) → surely_of (Gone.relations set) x ≡ surely_of (Gone.relations 0) x
  untouched = expr_alone IsSame untouched_level

  -- so a list that rejects their nulls rejects them where nothing is gone
  pub rejects_anyway : (conds : List Expr) → ((e : Expr) → In e conds → Apart set (refs_of e)) → rejects (Gone.relations set) conds ≡ rejects (Gone.relations 0) conds
  rejects_anyway [] apart = refl
  rejects_anyway (e ∷ conds) apart = ap₂ ◌||◌ (ap (λ (s : Surely). s.not_true) (untouched e (apart e (inl refl)))) (rejects_anyway conds (λ x h. apart x (inr h)))
