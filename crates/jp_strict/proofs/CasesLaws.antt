-- What the cases of an expression are at each constructor, and what a loop adds at a step.
use Rattle.std.proofs.Common.{◌≡◌, ◌∙◌, ap, refl, ℕ, ◌+◌, ◌<◌, Bool, List, [], ◌∷◌, ◌++◌, map, fold, length, get_or, take, Option}
use Rattle.std.proofs.lemmas.List.{take_more}
use Rattle.jp_query.specs.declared.Expr.TheVariants as expr
use Rattle.jp_query.specs.declared.Expr.{Expr}
use Rattle.jp_query.specs.declared.Query.{Query}
use Rattle.jp_query.specs.Refs.{union}
use Rattle.jp_query.proofs.FoldLaws as laws
use Rattle.jp_strict.specs.declared.absence.Absence.{Absence}
use Rattle.jp_strict.specs.declared.absence.Surely.{Surely}
use Rattle.jp_strict.specs.declared.absence.Members.{Members}
use Rattle.jp_strict.specs.Cases.{cases_level, cases_of, members_of, no_members, with_member, all_cases, and_cases, or_cases, null_in, null_term, null_of_term, tests}

fold_onto : (all : ℕ) (start : Members) (xs ys : List Surely) → fold (with_member all) start (xs ++ ys) ≡ fold (with_member all) (fold (with_member all) start xs) ys
fold_onto all start [] ys = refl
fold_onto all start (x ∷ xs) ys = fold_onto all (with_member all start x) xs ys

map_onto : {X Y : Type 0} (f : X → Y) (xs ys : List X) → map f (xs ++ ys) ≡ map f xs ++ map f ys
map_onto f [] ys = refl
map_onto f (x ∷ xs) ys = ap (λ zs. f x ∷ zs) (map_onto f xs ys)

maps : {A B C : Type 0} (g : B → C) (f : A → B) (h : A → C) → ((x : A) → g (f x) ≡ h x) → (xs : List A) → map g (map f xs) ≡ map h xs
maps g f h e [] = refl
maps g f h e (x ∷ xs) = ap (λ y. y ∷ map g (map f xs)) (e x) ∙ ap (λ ys. h x ∷ ys) (maps g f h e xs)

-- one more member
pub members_more : (all : ℕ) (f : Expr → Surely) (xs : List Expr) (i : ℕ) (d : Expr) → i < length xs → members_of all (map f (take (i + 1) xs)) ≡ with_member all (members_of all (map f (take i xs))) (f (get_or xs i d))
members_more all f xs i d within =
    ap (λ ys. members_of all (map f ys)) (take_more xs i d within)
    ∙ ap (members_of all) (map_onto f (take i xs) (get_or xs i d ∷ []))
    ∙ fold_onto all (no_members all) (map f (take i xs)) (f (get_or xs i d) ∷ [])

module _ (a : Absence) where
  abbrev one : Type 0
  one = Unit {0}

  pub at-Sum : (terms : List (Bool × Expr)) → cases_of a (expr.Sum terms) ≡ null_in (union (map (null_of_term a) terms))
  at-Sum terms = laws.at-Sum Surely one one one one (cases_level a) (λ t. tt) (λ o. tt) (λ o. tt) (λ q. tt) terms ∙ ap (λ sets. null_in (union sets)) (maps null_term (laws.of_term Surely one one one one (cases_level a) (λ t. tt) (λ o. tt) (λ o. tt) (λ q. tt)) (null_of_term a) (λ _. refl) terms)

  pub at-Product : (factors : List Expr) → cases_of a (expr.Product factors) ≡ null_in (members_of (all_cases a) (map (cases_of a) factors)).some.null
  at-Product = laws.at-Product Surely one one one one (cases_level a) (λ t. tt) (λ o. tt) (λ o. tt) (λ q. tt)

  pub at-Concat : (parts : List Expr) → cases_of a (expr.Concat parts) ≡ null_in (members_of (all_cases a) (map (cases_of a) parts)).some.null
  at-Concat = laws.at-Concat Surely one one one one (cases_level a) (λ t. tt) (λ o. tt) (λ o. tt) (λ q. tt)

  pub at-InList : (operand : Expr) (list : List Expr) → cases_of a (expr.InList operand list) ≡ null_in (cases_of a operand).null
  at-InList = laws.at-InList Surely one one one one (cases_level a) (λ t. tt) (λ o. tt) (λ o. tt) (λ q. tt)

  pub at-And : (members : List Expr) → cases_of a (expr.And members) ≡ and_cases (members_of (all_cases a) (map (cases_of a) members))
  at-And = laws.at-And Surely one one one one (cases_level a) (λ t. tt) (λ o. tt) (λ o. tt) (λ q. tt)

  pub at-Or : (members : List Expr) → cases_of a (expr.Or members) ≡ or_cases (members_of (all_cases a) (map (cases_of a) members))
  at-Or = laws.at-Or Surely one one one one (cases_level a) (λ t. tt) (λ o. tt) (λ o. tt) (λ q. tt)

  pub at-Coalesce : (members : List Expr) → cases_of a (expr.Coalesce members) ≡ null_in (members_of (all_cases a) (map (cases_of a) members)).every.null
  at-Coalesce = laws.at-Coalesce Surely one one one one (cases_level a) (λ t. tt) (λ o. tt) (λ o. tt) (λ q. tt)

  pub at-Case : (operand : Option Expr) (arms : List (Expr × Expr)) (otherwise : Option Expr) → cases_of a (expr.Case operand arms otherwise) ≡ null_in 0
  at-Case = laws.at-Case Surely one one one one (cases_level a) (λ t. tt) (λ o. tt) (λ o. tt) (λ q. tt)

  pub at-Exists : (sub : ℕ) (query : Query) → cases_of a (expr.Exists sub query) ≡ null_in 0
  at-Exists = laws.at-Exists Surely one one one one (cases_level a) (λ t. tt) (λ o. tt) (λ o. tt) (λ q. tt)

  pub at-InSub : (sub : ℕ) (operand : Expr) (query : Query) → cases_of a (expr.InSub sub operand query) ≡ tests 0 (cases_of a operand).null 0
  at-InSub = laws.at-InSub Surely one one one one (cases_level a) (λ t. tt) (λ o. tt) (λ o. tt) (λ q. tt)

pub ruleset equations = (at-Sum, at-Product, at-Concat, at-InList, at-And, at-Or, at-Coalesce, at-Case, at-Exists, at-InSub)
