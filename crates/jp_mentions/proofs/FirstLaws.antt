-- Each number once, where it first stands, of a list with one more at its end.
use Rattle.std.proofs.Common.{◌≡◌, ◌∙◌, ap, sym, refl, ℕ, ◌+◌, ◌<◌, Bool, true, false, cond, not, List, [], ◌∷◌, ◌++◌, ◌==◌, filter, take, length, get_or, eq-eqb}
use Rattle.std.specs.Prelude.{◌||◌, if◌then◌else◌}
use Rattle.std.specs.List.{list_any}
use Rattle.std.proofs.lemmas.Bool.{eqb-true}
use Rattle.std.proofs.lemmas.List.{append-nil, take_more}
use Rattle.std.proofs.lemmas.List.Elements.{filter-append}
use Rattle.jp_query.specs.Mentions.{is_other, first_of_each}
use Rattle.jp_mentions.specs.Walk.{with_new}

turned : (a b : ℕ) (c d : Bool) → (a == b) ≡ c → (b == a) ≡ d → c ≡ d
turned a b true d p q = sym (eq-eqb b a (sym (eqb-true a b p))) ∙ q
turned a b false true p q = sym p ∙ eq-eqb a b (sym (eqb-true b a q))
turned a b false false p q = refl

-- another number is among those that are kept where it is among all
any_step : (x n y : ℕ) (xs : List ℕ) (b : Bool) → (n == x) ≡ false → (x == y) ≡ b → list_any (◌==◌ n) (filter (is_other x) xs) ≡ list_any (◌==◌ n) xs → list_any (◌==◌ n) (cond (not b) (y ∷ filter (is_other x) xs) (filter (is_other x) xs)) ≡ ((n == y) || list_any (◌==◌ n) xs)
any_step x n y xs true e p rest =
    let differs : (n == y) ≡ false = ap (λ z. n == z) (sym (eqb-true x y p)) ∙ e in
    rest ∙ sym (ap (λ c. c || list_any (◌==◌ n) xs) differs)
any_step x n y xs false e p rest = ap (λ c. (n == y) || c) rest

any_kept : (x n : ℕ) (xs : List ℕ) → (n == x) ≡ false → list_any (◌==◌ n) (filter (is_other x) xs) ≡ list_any (◌==◌ n) xs
any_kept x n [] e = refl
any_kept x n (y ∷ xs) e = any_step x n y xs (x == y) e refl (any_kept x n xs e)

-- what is kept of a list with one more at its end
last_kept : (x n : ℕ) (xs : List ℕ) (b : Bool) → (x == n) ≡ b → filter (is_other x) (xs ++ n ∷ []) ≡ filter (is_other x) xs ++ (if b then [] else n ∷ [])
last_kept x n xs b e = filter-append (is_other x) xs (n ∷ []) ∙ ap (λ c. filter (is_other x) xs ++ cond (not c) (n ∷ []) []) e ∙ ap (λ ys. filter (is_other x) xs ++ ys) (turned_over b)
  where
    turned_over : (b : Bool) → cond (not b) (n ∷ []) [] ≡ (if b then [] else n ∷ [])
    turned_over true = refl
    turned_over false = refl

beside : (x n : ℕ) (xs : List ℕ) (a b : Bool) → (n == x) ≡ a → list_any (◌==◌ n) xs ≡ b → x ∷ filter (is_other x) (with_new xs n) ≡ with_new (x ∷ filter (is_other x) xs) n
beside x n xs true true p q =
    ap (λ c. x ∷ filter (is_other x) (cond c xs (xs ++ n ∷ []))) q
    ∙ sym (ap (λ c. cond (c || list_any (◌==◌ n) (filter (is_other x) xs)) (x ∷ filter (is_other x) xs) ((x ∷ filter (is_other x) xs) ++ n ∷ [])) p)
beside x n xs true false p q =
    ap (λ c. x ∷ filter (is_other x) (cond c xs (xs ++ n ∷ []))) q
    ∙ ap (λ ys. x ∷ ys) (last_kept x n xs true (sym (turned n x true (x == n) p refl)) ∙ append-nil (filter (is_other x) xs))
    ∙ sym (ap (λ c. cond (c || list_any (◌==◌ n) (filter (is_other x) xs)) (x ∷ filter (is_other x) xs) ((x ∷ filter (is_other x) xs) ++ n ∷ [])) p)
beside x n xs false true p q =
    ap (λ c. x ∷ filter (is_other x) (cond c xs (xs ++ n ∷ []))) q
    ∙ sym (ap (λ c. cond c (x ∷ filter (is_other x) xs) ((x ∷ filter (is_other x) xs) ++ n ∷ [])) (ap (λ c. c || list_any (◌==◌ n) (filter (is_other x) xs)) p ∙ any_kept x n xs p ∙ q))
beside x n xs false false p q =
    ap (λ c. x ∷ filter (is_other x) (cond c xs (xs ++ n ∷ []))) q
    ∙ ap (λ ys. x ∷ ys) (last_kept x n xs false (sym (turned n x false (x == n) p refl)))
    ∙ sym (ap (λ c. cond c (x ∷ filter (is_other x) xs) ((x ∷ filter (is_other x) xs) ++ n ∷ [])) (ap (λ c. c || list_any (◌==◌ n) (filter (is_other x) xs)) p ∙ any_kept x n xs p ∙ q))

first_last : (xs : List ℕ) (n : ℕ) → first_of_each (xs ++ n ∷ []) ≡ with_new (first_of_each xs) n
first_last [] n = refl
first_last (x ∷ xs) n = ap (λ ys. x ∷ filter (is_other x) ys) (first_last xs n) ∙ beside x n (first_of_each xs) (n == x) (list_any (◌==◌ n) (first_of_each xs)) refl refl

-- one more element of a loop
pub first_more : (xs : List ℕ) (i d : ℕ) → i < length xs → first_of_each (take (i + 1) xs) ≡ with_new (first_of_each (take i xs)) (get_or xs i d)
first_more xs i d within = ap first_of_each (take_more xs i d within) ∙ first_last (take i xs) (get_or xs i d)

pub ruleset firsts = (first_more)
