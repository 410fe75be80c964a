-- A problem of plain items can be searched: each order of its items is legal.
use Rattle.std.proofs.Common.{◌≡◌, ◌∙◌, sym, ap, ap₂, subst, refl, ℕ, zero, suc, ◌+◌, ◌-◌, ◌^◌, ◌<◌, ◌≤◌, ◌↔◌, inl, inr, arith, List, [], ◌∷◌, ◌++◌, length, map, get_or, Some, None}
use Rattle.std.specs.List.{flat_map}
use Rattle.std.specs.Prelude.{bit_or, All, sum_by}
use Rattle.std.proofs.lemmas.Bool.{cases_eq, lt-ltb}
use Rattle.std.proofs.lemmas.List.{append-nil}
use Rattle.std.proofs.lemmas.List.Elements.{All-head, All-tail}
use Rattle.std.proofs.lemmas.List.Sums.{sum_by-cons}
use Rattle.std.proofs.lemmas.Nat.Bits.{bit_at-pow_same}
use Rattle.jp_base.specs.Sets.{Has}
use Rattle.jp_base.proofs.SetLemmas.{has_or, same_set}
use Rattle.jp_query.specs.TreeExamples.{col, equals}
use Rattle.jp_query.specs.Typing.{IsTypedExpr}
use Rattle.jp_query.proofs.TreeRules.{folds}
use Rattle.jp_problem.specs.StepClauses.{expr_of}
use Rattle.jp_problem.specs.declared.types.Class.{Class}
use Rattle.jp_problem.specs.declared.types.Clause.{Clause}
use Rattle.jp_problem.specs.declared.types.Special.{Special}
use Rattle.jp_problem.specs.declared.types.Item.{Item}
use Rattle.jp_problem.specs.declared.types.Method.TheVariants.{Nest}
use Rattle.jp_problem.specs.declared.types.Problem.{Problem}
use Rattle.jp_problem.specs.declared.types.Step.TheVariants.{Inner}
use Rattle.jp_problem.specs.Legal.{IsJoinable, IsLegalStep}
use Rattle.jp_problem.specs.Made.{CountsColumns, IsSearchable, cost_of, exprs_of, item_exprs, on_of_item}
use Rattle.jp_problem.specs.Problems.{items_of}
use Rattle.jp_problem.specs.Trees.{Tree, Scan, Join, set_of, IsLegalTree}
use Rattle.jp_search.proofs.NumberLaws.{of_one}
use Rattle.jp_search.proofs.TableLaws.{has_span}
use Rattle.jp_search_tests.specs.Plain.{IsTypedClause, IsPlainItem}

abbrev pub plain : List Item → List Clause → Problem
plain items clauses = record { items = items; joins = []; clauses = clauses; classes = [] }

-- ---- the tree that joins the items from left to right

unfoldable pub deep : ℕ → Tree
deep zero = Scan 0
deep (suc k) = Join Nest Inner (deep k) (Scan (suc k))

pub deep_has : (k i : ℕ) → Has (set_of (deep k)) i ↔ (i < suc k)
unfolding deep
deep_has zero i = (λ h. omega (arith, of_one 0 i h), λ low. subst (λ j. Has 1 j) (zero_is low) (bit_at-pow_same 0))
  where
    zero_is : i < 1 → 0 ≡ i
    zero_is low = omega (arith, low)
deep_has (suc k) i = deep_more k i (deep_has k i)
  where
    deep_more : (k i : ℕ) → Has (set_of (deep k)) i ↔ (i < suc k) → Has (bit_or (set_of (deep k)) (2 ^ suc k)) i ↔ (i < suc (suc k))
    deep_more k i has = (to, from)
      where
        to : Has (bit_or (set_of (deep k)) (2 ^ suc k)) i → i < suc (suc k)
        to h = elim ((has_or (set_of (deep k)) (2 ^ suc k) i).0 h) [ inl p ↦ omega (arith, has.0 p) | inr q ↦ omega (arith, of_one (suc k) i q) ]

        from : i < suc (suc k) → Has (bit_or (set_of (deep k)) (2 ^ suc k)) i
        from low = elim (cases_eq i (suc k)) [
          | inl e ↦ (has_or (set_of (deep k)) (2 ^ suc k) i).1 (inr (subst (λ j. Has (2 ^ suc k) j) (sym e) (bit_at-pow_same (suc k))))
          | inr d ↦ (has_or (set_of (deep k)) (2 ^ suc k) i).1 (inl (has.1 (omega (arith, low, d))))
        ]

module _ (items : List Item) (clauses : List Clause) where
  can_join : (set i : ℕ) → Has set i → IsJoinable (plain items clauses) set
  can_join set i h = record { some = (i, h); stands = λ k d low. absurd (omega (arith, low)) }

  step : (k : ℕ) → IsLegalStep (plain items clauses) (set_of (deep k)) (2 ^ suc k) Inner
  step k = record {
    step = record {
      apart = λ h. omega (arith, (deep_has k h.0).0 h.1, of_one (suc k) h.0 h.2);
      left_joinable = can_join (set_of (deep k)) 0 zero_in;
      right_joinable = can_join (2 ^ suc k) (suc k) (bit_at-pow_same (suc k));
      joinable = can_join (bit_or (set_of (deep k)) (2 ^ suc k)) 0 ((has_or (set_of (deep k)) (2 ^ suc k) 0).1 (inl zero_in));
    };
    of_kind = λ n s at new. none_some s at;
  }
    where
      zero_in : Has (set_of (deep k)) 0
      zero_in = (deep_has k 0).1 (omega arith)

      none_some : {X : Type 0} {Y : Type 0} (x : X) → None ≡ Some x → Y
      none_some x e = cc

  deep_legal : (k : ℕ) → k < length items → IsLegalTree (plain items clauses) (deep k)
  unfolding deep
  deep_legal zero low = low
  deep_legal (suc k) low = (step k, tt, deep_legal k (omega (arith, low)), low)

-- ---- what estimates ask

pub no_exprs : (items : List Item) → All IsPlainItem items → flat_map item_exprs items ≡ []
no_exprs [] all = refl
no_exprs (item ∷ items) all = ap₂ (λ xs ys. xs ++ ys) (ap on_of_item (All-head IsPlainItem item items all).kind) (no_exprs items (All-tail IsPlainItem item items all))

-- an equality of two columns is typed
pub typed_equality : (left right : ℕ) → left < 64 → right < 64 → IsTypedExpr (equals (col left 0) (col right 0))
typed_equality left right low low' = simp (folds, lt-ltb left 64 low, lt-ltb right 64 low') refl

pub all_more : {X : Type 0} (P : X → Type 0) (x : X) (xs : List X) → P x → All P xs → All P (x ∷ xs)
all_more P x xs p all zero d low = p
all_more P x xs p all (suc k) d low = all k d (omega (arith, low))

clause_exprs : (clauses : List Clause) → All IsTypedClause clauses → All IsTypedExpr (map expr_of clauses)
clause_exprs [] all = λ k d low. absurd (omega (arith, low))
clause_exprs (clause ∷ clauses) all = all_more IsTypedExpr clause.expr (map expr_of clauses) (All-head IsTypedClause clause clauses all) (clause_exprs clauses (All-tail IsTypedClause clause clauses all))

pub no_costs : (items : List Item) → All IsPlainItem items → sum_by cost_of items ≡ 0
no_costs [] all = refl
no_costs (item ∷ items) all = sum_by-cons cost_of item items ∙ ap₂ (λ m n. m + n) (All-head IsPlainItem item items all).cost (no_costs items (All-tail IsPlainItem item items all))

pub all_items : (items : List Item) (clauses : List Clause) → 1 ≤ length items → set_of (deep (length items - 1)) ≡ items_of (plain items clauses)
all_items items clauses some = same_set (set_of (deep (length items - 1))) (items_of (plain items clauses)) (λ i. (
  λ h. (has_span 0 (length items) i).1 (omega arith, omega (arith, (deep_has (length items - 1) i).0 h, some)),
  λ h. (deep_has (length items - 1) i).1 (omega (arith, ((has_span 0 (length items) i).0 h).1, some)),
))

plain_searchable : (items : List Item) (clauses : List Clause) → 1 ≤ length items → length items ≤ 16 → All IsPlainItem items → All IsTypedClause clauses → IsSearchable (plain items clauses)
plain_searchable items clauses some few all typed = record {
  some = some;
  few = few;
  estimable = record {
    typed = subst (All IsTypedExpr) (sym (ap (λ es. es ++ [] ++ map expr_of clauses ++ []) (no_exprs items all) ∙ append-nil (map expr_of clauses))) (clause_exprs clauses typed);
    rows = λ k d low. (all k d low).rows;
    distinct = λ k d low. subst (CountsColumns (exprs_of (plain items clauses)) (get_or items k d).distinct) (sym (all k d low).kind) tt;
    sets = λ k d low. absurd (omega (arith, low));
  };
  costs = omega (arith, no_costs items all);
  tree = deep (length items - 1);
  plan = record { legal = deep_legal items clauses (length items - 1) (omega (arith, some)); whole = all_items items clauses some };
}

pub plain_made : (items : List Item) (joins : List Special) (clauses : List Clause) (classes : List Class) → joins ≡ [] → classes ≡ [] → 1 ≤ length items → length items ≤ 16 → All IsPlainItem items → All IsTypedClause clauses
    → IsSearchable (record { items = items; joins = joins; clauses = clauses; classes = classes })
plain_made items joins clauses classes no_joins no_classes some few all typed =
    subst (λ x. IsSearchable (record { items = items; joins = x; clauses = clauses; classes = classes })) (sym no_joins)
    (subst (λ x. IsSearchable (record { items = items; joins = []; clauses = clauses; classes = x })) (sym no_classes) (plain_searchable items clauses some few all typed))
