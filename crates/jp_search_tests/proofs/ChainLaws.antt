-- A chain of left joins can be searched: joining its items from left to right is legal.
use Rattle.std.proofs.Common.{◌≡◌, ◌∙◌, sym, ap, ap₂, subst, refl, ℕ, zero, suc, ◌+◌, ◌-◌, ◌^◌, ◌<◌, ◌≤◌, ◌↔◌, inl, inr, arith, List, [], ◌∷◌, ◌++◌, length, get_or, Some, None}
use Rattle.std.specs.List.{flat_map}
use Rattle.std.specs.Prelude.{true, bit_or, All, slice_get}
use Rattle.std.proofs.lemmas.Bool.{cases_eq, cases_lt}
use Rattle.std.proofs.lemmas.Nat.Bits.{bit_at-pow_same}
use Rattle.std.proofs.lemmas.Option.{slice_get-get_or}
use Rattle.jp_base.specs.Sets.{Has}
use Rattle.jp_query.specs.declared.JoinKind.TheVariants.{Left}
use Rattle.jp_query.specs.Typing.{IsTypedExpr}
use Rattle.jp_problem.specs.declared.types.Class.{Class}
use Rattle.jp_problem.specs.declared.types.Clause.{Clause}
use Rattle.jp_problem.specs.declared.types.Item.{Item}
use Rattle.jp_problem.specs.declared.types.Method.TheVariants.{Nest}
use Rattle.jp_problem.specs.declared.types.Problem.{Problem}
use Rattle.jp_problem.specs.declared.types.Special.{Special}
use Rattle.jp_problem.specs.declared.types.Step.TheVariants.{By}
use Rattle.jp_problem.specs.Legal.{IsJoinable, IsLegalStep, IsNew, Stands, misses, lies_in}
use Rattle.jp_problem.specs.Made.{CountsColumns, HasApartSets, IsSearchable, exprs_of, join_exprs}
use Rattle.jp_problem.specs.Trees.{Tree, Scan, Join, set_of, IsLegalTree}
use Rattle.jp_search.proofs.NumberLaws.{of_one}
use Rattle.jp_search_tests.specs.Chain.{IsChainFrom, IsChainJoin}
use Rattle.jp_search_tests.specs.Plain.{IsPlainItem}
use Rattle.jp_search_tests.proofs.PlainLaws.{all_more, deep, deep_has, no_exprs, no_costs, all_items}

-- ---- the joins by their places

pub one_more : (first : ℕ) (joins : List Special) (s : Special) → IsChainFrom first joins → IsChainJoin (first + length joins + 1) s → IsChainFrom first (joins ++ s ∷ [])
one_more first [] s chain is = (subst (λ n. IsChainJoin n s) next is, tt)
  where
    next : first + 0 + 1 ≡ suc first
    next = omega arith
one_more first (t ∷ joins) s chain is = (chain.0, one_more (suc first) joins s chain.1 (subst (λ n. IsChainJoin n s) (next (length joins)) is))
  where
    next : (k : ℕ) → first + suc k + 1 ≡ suc first + k + 1
    next k = omega arith

at_place : (first k : ℕ) (joins : List Special) (s : Special) → IsChainFrom first joins → slice_get joins k ≡ Some s → IsChainJoin (first + k + 1) s
at_place first k [] s chain e = absurd (none_some s e)
  where
    none_some : (s : Special) → None ≡ Some s → ⊥
    none_some s e = cc
at_place first zero (t ∷ joins) s chain e = subst (λ n. IsChainJoin n s) next (subst (IsChainJoin (suc first)) (some_is t s e) chain.0)
  where
    some_is : (t s : Special) → Some t ≡ Some s → t ≡ s
    some_is t s e = cc

    next : suc first ≡ first + 0 + 1
    next = omega arith
at_place first (suc k) (t ∷ joins) s chain e = subst (λ n. IsChainJoin n s) next (at_place (suc first) k joins s chain.1 e)
  where
    next : suc first + k + 1 ≡ first + suc k + 1
    next = omega arith

-- ---- the tree that joins the items from left to right

chained : ℕ → Tree
chained zero = Scan 0
chained (suc k) = Join Nest (By (suc k)) (chained k) (Scan (suc k))

chained_set : (k : ℕ) → set_of (chained k) ≡ set_of (deep k)
unfolding chained deep
chained_set zero = refl
chained_set (suc k) = ap (λ set. bit_or set (2 ^ suc k)) (chained_set k)

chained_has : (k i : ℕ) → Has (set_of (chained k)) i ↔ (i < suc k)
chained_has k i = subst (λ set. Has set i ↔ (i < suc k)) (sym (chained_set k)) (deep_has k i)

module _ (items : List Item) (joins : List Special) (chain : IsChainFrom 0 joins) where
  abbrev problem : Problem
  problem = record { items = items; joins = joins; clauses = []; classes = [] }

  at : (k : ℕ) (s : Special) → slice_get joins k ≡ Some s → IsChainJoin (k + 1) s
  at k s e = subst (λ n. IsChainJoin n s) next (at_place 0 k joins s chain e)
    where
      next : 0 + k + 1 ≡ k + 1
      next = omega arith

  each : (set : ℕ) → ((k : ℕ) (s : Special) → IsChainJoin (k + 1) s → Stands joins set s) → All (Stands joins set) joins
  each set stands k d low = stands k (get_or joins k d) (at k (get_or joins k d) (slice_get-get_or joins k d low))

  -- the items up to one
  front_stands : (k j : ℕ) (s : Special) → IsChainJoin (j + 1) s → Stands joins (set_of (chained k)) s
  front_stands k j s is = elim (cases_lt j k) [
    | inl low ↦ Stands.is_done (record {
      left = λ i h. (chained_has k i).1 (omega (arith, (is.left i).0 h, is.next, low));
      right = λ i h. (chained_has k i).1 (omega (arith, (is.right i).0 h, low));
    })
    | inr high ↦ misses (λ h. omega (arith, (chained_has k h.0).0 h.1, (is.right h.0).0 h.2, high))
  ]

  one_stands : (n j : ℕ) (s : Special) → IsChainJoin (j + 1) s → Stands joins (2 ^ n) s
  one_stands n j s is = elim (cases_eq n (j + 1)) [
    | inl e ↦ lies_in (λ i h. (is.right i).1 (of_one n i h ∙ e))
    | inr d ↦ misses (λ h. d (sym (of_one n h.0 h.1) ∙ (is.right h.0).0 h.2))
  ]

  front_joinable : (k : ℕ) → IsJoinable problem (set_of (chained k))
  front_joinable k = record { some = (0, (chained_has k 0).1 (omega arith)); stands = each (set_of (chained k)) (front_stands k) }

  one_joinable : (n : ℕ) → IsJoinable problem (2 ^ n)
  one_joinable n = record { some = (n, bit_at-pow_same n); stands = each (2 ^ n) (one_stands n) }

  -- the join behind the item k is the only new one where the next item is joined
  new_is : (k j : ℕ) (s : Special) → IsChainJoin (j + 1) s → IsNew (set_of (chained k)) (2 ^ suc k) s → j ≡ k
  unfolding chained
  new_is k j s is new = elim (cases_lt j k) [
    | inl low ↦ absurd (new.not_left (record {
      left = λ i h. (chained_has k i).1 (omega (arith, (is.left i).0 h, is.next, low));
      right = λ i h. (chained_has k i).1 (omega (arith, (is.right i).0 h, low));
    }))
    | inr high ↦ let last = (chained_has (suc k) (j + 1)).0 (new.in_union.right (j + 1) ((is.right (j + 1)).1 refl)) in omega (arith, last, high)
  ]

  is_new : (k : ℕ) (s : Special) → IsChainJoin (k + 1) s → IsNew (set_of (chained k)) (2 ^ suc k) s
  unfolding chained
  is_new k s is = record {
    in_union = record {
      left = λ i h. (chained_has (suc k) i).1 (omega (arith, (is.left i).0 h, is.next));
      right = λ i h. (chained_has (suc k) i).1 (omega (arith, (is.right i).0 h));
    };
    not_left = λ done. omega (arith, (chained_has k (k + 1)).0 (done.right (k + 1) ((is.right (k + 1)).1 refl)));
    not_right = λ done. omega (arith, of_one (suc k) is.before (done.left is.before ((is.left is.before).1 refl)), is.next);
  }

  step : (k : ℕ) (s : Special) → slice_get joins k ≡ Some s → IsLegalStep problem (set_of (chained k)) (2 ^ suc k) (By (suc k))
  unfolding chained
  step k s e = record {
    step = record {
      apart = λ h. omega (arith, (chained_has k h.0).0 h.1, of_one (suc k) h.0 h.2);
      left_joinable = front_joinable k;
      right_joinable = one_joinable (suc k);
      joinable = front_joinable (suc k);
    };
    of_kind = record {
      join = s;
      numbered = is.no ∙ next;
      only_new = record { place = k; join = e; new = is_new k s is; only = λ j t there new. new_is k j t (at j t there) new };
      on_left = λ i h. (chained_has k i).1 (omega (arith, (is.left i).0 h, is.next));
      on_right = λ i h. subst (λ n. Has (2 ^ suc k) n) (sym ((is.right i).0 h ∙ next)) (bit_at-pow_same (suc k));
    };
  }
    where
      is : IsChainJoin (k + 1) s
      is = at k s e

      next : k + 1 ≡ suc k
      next = omega arith

  legal : (k : ℕ) → k < length items → k ≤ length joins → (d : Special) → IsLegalTree problem (chained k)
  unfolding chained
  legal zero low few d = low
  legal (suc k) low few d = (step k (get_or joins k d) (slice_get-get_or joins k d (omega (arith, few))), tt, legal k (omega (arith, low)) (omega (arith, few)) d, low)

no_on : (first : ℕ) (joins : List Special) → IsChainFrom first joins → flat_map join_exprs joins ≡ []
no_on first [] chain = refl
no_on first (s ∷ joins) chain = ap₂ (λ xs ys. xs ++ ys) chain.0.on (no_on (suc first) joins chain.1)

apart_sets : (first : ℕ) (joins : List Special) → IsChainFrom first joins → All HasApartSets joins
apart_sets first [] chain = λ k d low. absurd (omega (arith, low))
apart_sets first (s ∷ joins) chain = all_more HasApartSets s joins ((chain.0.before, (chain.0.left chain.0.before).1 refl), λ h. omega (arith, (chain.0.left h.0).0 h.1, (chain.0.right h.0).0 h.2, chain.0.next)) (apart_sets (suc first) joins chain.1)

chain_searchable : (items : List Item) (joins : List Special) → 1 ≤ length items → length items ≤ 16 → length joins + 1 ≡ length items → All IsPlainItem items → IsChainFrom 0 joins → IsSearchable (record { items = items; joins = joins; clauses = []; classes = [] })
chain_searchable items joins some few count all chain = record {
  some = some;
  few = few;
  estimable = record {
    typed = subst (λ es. All IsTypedExpr (es ++ [] ++ [])) (sym (ap₂ (λ xs ys. xs ++ ys) (no_exprs items all) (no_on 0 joins chain))) (λ k d low. absurd (omega (arith, low)));
    rows = λ k d low. (all k d low).rows;
    distinct = λ k d low. subst (CountsColumns (exprs_of (problem items joins chain)) (get_or items k d).distinct) (sym (all k d low).kind) tt;
    sets = apart_sets 0 joins chain;
  };
  costs = omega (arith, no_costs items all);
  tree = chained (length items - 1);
  plan = record {
    legal = legal items joins chain (length items - 1) (omega (arith, some)) (omega (arith, count)) any;
    whole = chained_set (length items - 1) ∙ all_items items [] some;
  };
}
  where
    any : Special
    any = record { no = 0; kind = Left; min_left = 0; min_right = 0; syn_left = 0; syn_right = 0; lhs_strict = true; region = 0; on = [] }

pub chain_made : (items : List Item) (joins : List Special) (clauses : List Clause) (classes : List Class) → clauses ≡ [] → classes ≡ [] → 1 ≤ length items → length items ≤ 16 → length joins + 1 ≡ length items → All IsPlainItem items → IsChainFrom 0 joins
    → IsSearchable (record { items = items; joins = joins; clauses = clauses; classes = classes })
chain_made items joins clauses classes no_clauses no_classes some few count all chain =
    subst (λ x. IsSearchable (record { items = items; joins = joins; clauses = x; classes = classes })) (sym no_clauses)
    (subst (λ x. IsSearchable (record { items = items; joins = joins; clauses = []; classes = x })) (sym no_classes) (chain_searchable items joins some few count all chain))
