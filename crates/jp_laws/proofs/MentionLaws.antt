-- Each number once, where it first stands: the same members, and none twice.
use Rattle.std.proofs.Common.{◌≡◌, ◌∙◌, ap, sym, subst, refl, ℕ, inl, inr, Bool, true, false, cond, not, List, [], ◌∷◌, filter, eq-eqb}
use Rattle.std.specs.Prelude.{Contains, ◌==◌, ◌&&◌, ◌||◌, ◌↔◌}
use Rattle.std.specs.List.{list_any}
use Rattle.std.proofs.lemmas.Bool.{eqb-true}
use Rattle.std.proofs.lemmas.Map.Views.{any-filter_same}
use Rattle.jp_query.specs.Conditions.{are_distinct}
use Rattle.jp_query.specs.Mentions.{is_other, first_of_each}
use Rattle.jp_facts.proofs.Members.{In, to_in, from_in}
use Rattle.jp_laws.proofs.ValueLaws.{and_left, and_right}

false_true : false ≡ true → ⊥
false_true h = cc

true_false : true ≡ false → ⊥
true_false h = cc

-- ---- the same members

second_true : (a b : Bool) → b ≡ true → (a || b) ≡ true
second_true true b h = refl
second_true false b h = h

in_any : (m : ℕ) (xs : List ℕ) → In m xs → list_any (◌==◌ m) xs ≡ true
in_any m [] h = absurd h
in_any m (x ∷ xs) (inl e) = ap (λ b. b || list_any (◌==◌ m) xs) (eq-eqb m x (sym e))
in_any m (x ∷ xs) (inr r) = second_true (m == x) (list_any (◌==◌ m) xs) (in_any m xs r)

any_here : (m x : ℕ) (xs : List ℕ) (b : Bool) → (m == x) ≡ b → (list_any (◌==◌ m) xs ≡ true → In m xs) → (b || list_any (◌==◌ m) xs) ≡ true → In m (x ∷ xs)
any_here m x xs true e rest h = inl (sym (eqb-true m x e))
any_here m x xs false e rest h = inr (rest h)

any_in : (m : ℕ) (xs : List ℕ) → list_any (◌==◌ m) xs ≡ true → In m xs
any_in m [] h = absurd (false_true h)
any_in m (x ∷ xs) h = any_here m x xs (m == x) refl (any_in m xs) h

turned_as : (a b : ℕ) (c : Bool) → (a == b) ≡ c → (b == a) ≡ false → c ≡ false
turned_as a b true q n = sym (eq-eqb b a (sym (eqb-true a b q))) ∙ n
turned_as a b false q n = refl

-- what equals m is other than x, where m is
others_pass : (m x : ℕ) → (m == x) ≡ false → (k : ℕ) → (m == k) ≡ true → is_other x k ≡ true
others_pass m x e k h = ap not (subst (λ n. (x == n) ≡ false) (eqb-true m k h) (turned_as x m (x == m) refl e))

any_beside : (m x : ℕ) (xs : List ℕ) (b : Bool) → (m == x) ≡ b → list_any (◌==◌ m) (first_of_each xs) ≡ list_any (◌==◌ m) xs → (b || list_any (◌==◌ m) (filter (is_other x) (first_of_each xs))) ≡ (b || list_any (◌==◌ m) xs)
any_beside m x xs true e rest = refl
any_beside m x xs false e rest = any-filter_same (◌==◌ m) (is_other x) true (others_pass m x e) (first_of_each xs) ∙ rest

-- a test finds the same in the list and among the first of each
any_of_each : (m : ℕ) (xs : List ℕ) → list_any (◌==◌ m) (first_of_each xs) ≡ list_any (◌==◌ m) xs
any_of_each m [] = refl
any_of_each m (x ∷ xs) = any_beside m x xs (m == x) refl (any_of_each m xs)

pub same_members : (xs : List ℕ) (m : ℕ) → Contains (first_of_each xs) m ↔ Contains xs m
same_members xs m = (
  λ h. from_in m xs (any_in m xs (sym (any_of_each m xs) ∙ in_any m (first_of_each xs) (to_in m (first_of_each xs) h))),
  λ h. from_in m (first_of_each xs) (any_in m (first_of_each xs) (any_of_each m xs ∙ in_any m xs (to_in m xs h))),
)

-- ---- none twice

either_false : (a b : Bool) → (a || b) ≡ false → (a ≡ false) × (b ≡ false)
either_false true b h = absurd (true_false h)
either_false false b h = (refl, h)

not_true : (b : Bool) → not b ≡ true → b ≡ false
not_true true h = sym h
not_true false h = refl

none_kept : (test : ℕ → Bool) (x : ℕ) (xs : List ℕ) (b : Bool) → test x ≡ false → list_any test xs ≡ false → list_any test (cond b (x ∷ xs) xs) ≡ false
none_kept test x xs true e rest = ap (λ c. c || list_any test xs) e ∙ rest
none_kept test x xs false e rest = rest

none_left : (test p : ℕ → Bool) (xs : List ℕ) → list_any test xs ≡ false → list_any test (filter p xs) ≡ false
none_left test p [] h = refl
none_left test p (x ∷ xs) h = let parts = either_false (test x) (list_any test xs) h in none_kept test x (filter p xs) (p x) parts.0 (none_left test p xs parts.1)

distinct_kept : (x : ℕ) (xs : List ℕ) (b : Bool) → list_any (◌==◌ x) xs ≡ false → are_distinct xs ≡ true → are_distinct (cond b (x ∷ xs) xs) ≡ true
distinct_kept x xs true e rest = ap (λ c. not c && are_distinct xs) e ∙ rest
distinct_kept x xs false e rest = rest

distinct_left : (p : ℕ → Bool) (xs : List ℕ) → are_distinct xs ≡ true → are_distinct (filter p xs) ≡ true
distinct_left p [] h = refl
distinct_left p (x ∷ xs) h =
    distinct_kept x (filter p xs) (p x) (none_left (◌==◌ x) p xs (not_true (list_any (◌==◌ x) xs) (and_left (not (list_any (◌==◌ x) xs)) (are_distinct xs) h))) (distinct_left p xs (and_right (not (list_any (◌==◌ x) xs)) (are_distinct xs) h))

pub none_twice : (xs : List ℕ) → are_distinct (first_of_each xs) ≡ true
none_twice [] = refl
none_twice (x ∷ xs) = ap (λ c. not c && are_distinct (filter (is_other x) (first_of_each xs))) (any-filter_same (◌==◌ x) (is_other x) false (λ k h. ap not h) (first_of_each xs)) ∙ distinct_left (is_other x) (first_of_each xs) (none_twice xs)
