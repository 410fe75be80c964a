-- Which columns a condition forces to be NULL, at each constructor.
use Rattle.std.proofs.Common.{◌≡◌, ◌∙◌, ap, refl, ℕ, Bool, List, [], ◌∷◌, ◌++◌, map, Option}
use Rattle.std.specs.List.{flat_map}
use Rattle.jp_query.specs.declared.Expr.TheVariants as expr
use Rattle.jp_query.specs.declared.Expr.{Expr}
use Rattle.jp_query.specs.declared.Query.{Query}
use Rattle.jp_query.specs.Nullness.{Forced, forced_part, forces_nothing, expr_forced, forcing, forced_by}
use Rattle.jp_query.specs.Parts.{all_in}
use Rattle.jp_query.proofs.FoldLaws as laws

abbrev one : Type 0
one = Unit {0}

flat : (xs : List Expr) → all_in (map forced_part (map forcing xs)) ≡ flat_map forced_by xs
flat [] = refl
flat (x ∷ xs) = ap (λ l. forced_by x ++ l) (flat xs)

pub at-Sum : (terms : List (Bool × Expr)) → forcing (expr.Sum terms) ≡ forces_nothing
at-Sum = laws.at-Sum Forced one one one one expr_forced (λ t. tt) (λ o. tt) (λ o. tt) (λ q. tt)

pub at-Product : (factors : List Expr) → forcing (expr.Product factors) ≡ forces_nothing
at-Product = laws.at-Product Forced one one one one expr_forced (λ t. tt) (λ o. tt) (λ o. tt) (λ q. tt)

pub at-Concat : (parts : List Expr) → forcing (expr.Concat parts) ≡ forces_nothing
at-Concat = laws.at-Concat Forced one one one one expr_forced (λ t. tt) (λ o. tt) (λ o. tt) (λ q. tt)

pub at-InList : (operand : Expr) (list : List Expr) → forcing (expr.InList operand list) ≡ forces_nothing
at-InList = laws.at-InList Forced one one one one expr_forced (λ t. tt) (λ o. tt) (λ o. tt) (λ q. tt)

pub at-And : (members : List Expr) → forcing (expr.And members) ≡ record { itself = []; forced = flat_map forced_by members }
at-And members = laws.at-And Forced one one one one expr_forced (λ t. tt) (λ o. tt) (λ o. tt) (λ q. tt) members ∙ ap (λ l. record { itself = []; forced = l }) (flat members)

pub at-Or : (members : List Expr) → forcing (expr.Or members) ≡ forces_nothing
at-Or = laws.at-Or Forced one one one one expr_forced (λ t. tt) (λ o. tt) (λ o. tt) (λ q. tt)

pub at-Coalesce : (members : List Expr) → forcing (expr.Coalesce members) ≡ forces_nothing
at-Coalesce = laws.at-Coalesce Forced one one one one expr_forced (λ t. tt) (λ o. tt) (λ o. tt) (λ q. tt)

pub at-Case : (operand : Option Expr) (arms : List (Expr × Expr)) (otherwise : Option Expr) → forcing (expr.Case operand arms otherwise) ≡ forces_nothing
at-Case = laws.at-Case Forced one one one one expr_forced (λ t. tt) (λ o. tt) (λ o. tt) (λ q. tt)

pub at-Exists : (sub : ℕ) (query : Query) → forcing (expr.Exists sub query) ≡ forces_nothing
at-Exists = laws.at-Exists Forced one one one one expr_forced (λ t. tt) (λ o. tt) (λ o. tt) (λ q. tt)

pub at-InSub : (sub : ℕ) (operand : Expr) (query : Query) → forcing (expr.InSub sub operand query) ≡ forces_nothing
at-InSub = laws.at-InSub Forced one one one one expr_forced (λ t. tt) (λ o. tt) (λ o. tt) (λ q. tt)

pub ruleset equations = (at-Sum, at-Product, at-Concat, at-InList, at-And, at-Or, at-Coalesce, at-Case, at-Exists, at-InSub)
