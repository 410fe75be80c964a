-- One level of a tree in which each child stands beside a value of it.
use Rattle.std.proofs.Common.{◌≡◌, ap, refl, Bool, List, [], ◌∷◌, map, Option, Some, None}
use Rattle.jp_query.specs.declared.Expr.{Expr}
use Rattle.jp_query.specs.declared.JoinTree.{JoinTree}
use Rattle.jp_query.specs.declared.Order.{Order}
use Rattle.jp_query.specs.declared.Output.{Output}
use Rattle.jp_query.specs.declared.Query.{Query}
use Rattle.jp_query.specs.declared.Expr.TheOpen.{Expr-F}
use Rattle.jp_query.specs.declared.Expr.TheShapes.{former-Expr-Case-0}
use Rattle.jp_query.specs.declared.Expr.TheFolds.{map-Expr}

-- a level with values beside its children, without them
module _ (A B C D F : Type 0) (f : Expr → A) (g : JoinTree → B) (h : Order → C) (k : Output → D) (m : Query → F) where
  abbrev pub with_values : Expr-F Expr JoinTree Order Output Query → Expr-F (Expr × A) (JoinTree × B) (Order × C) (Output × D) (Query × F)
  with_values = map-Expr Expr JoinTree Order Output Query (Expr × A) (JoinTree × B) (Order × C) (Output × D) (Query × F) (λ x. (x, f x)) (λ x. (x, g x)) (λ x. (x, h x)) (λ x. (x, k x)) (λ x. (x, m x))

  abbrev pub without_values : Expr-F (Expr × A) (JoinTree × B) (Order × C) (Output × D) (Query × F) → Expr-F Expr JoinTree Order Output Query
  without_values = map-Expr (Expr × A) (JoinTree × B) (Order × C) (Output × D) (Query × F) Expr JoinTree Order Output Query (λ x. x.0) (λ x. x.0) (λ x. x.0) (λ x. x.0) (λ x. x.0)

  list_back : (xs : List Expr) → map (λ (p : Expr × A). p.0) (map (λ x. (x, f x)) xs) ≡ xs
  list_back [] = refl
  list_back (x ∷ xs) = ap (λ ys. x ∷ ys) (list_back xs)

  terms_back : (terms : List (Bool × Expr)) → map (λ (t : Bool × (Expr × A)). (t.0, t.1.0)) (map (λ t. (t.0, (t.1, f t.1))) terms) ≡ terms
  terms_back [] = refl
  terms_back (t ∷ terms) = ap (λ ys. t ∷ ys) (terms_back terms)

  arms_back : (arms : List (Expr × Expr)) → map (λ (a : (Expr × A) × (Expr × A)). (a.0.0, a.1.0)) (map (λ a. ((a.0, f a.0), (a.1, f a.1))) arms) ≡ arms
  arms_back [] = refl
  arms_back (a ∷ arms) = ap (λ ys. a ∷ ys) (arms_back arms)

  option_back : (o : Option Expr) → (former-Expr-Case-0).map (Expr × A) Expr (λ p. p.0) ((former-Expr-Case-0).map Expr (Expr × A) (λ x. (x, f x)) o) ≡ o
  option_back None = refl
  option_back (Some x) = refl

  pub values_go : (x : Expr-F Expr JoinTree Order Output Query) → without_values (with_values x) ≡ x
  values_go (Expr-F.Col rel col ty nulled) = refl
  values_go (Expr-F.Lit value ty) = refl
  values_go (Expr-F.Place inner rels) = refl
  values_go (Expr-F.Neg operand) = refl
  values_go (Expr-F.Sum terms) = ap Expr-F.Sum (terms_back terms)
  values_go (Expr-F.Product factors) = ap Expr-F.Product (list_back factors)
  values_go (Expr-F.Concat pieces) = ap Expr-F.Concat (list_back pieces)
  values_go (Expr-F.Compare op left right) = refl
  values_go (Expr-F.Between operand low high) = refl
  values_go (Expr-F.InList operand list) = ap (Expr-F.InList operand) (list_back list)
  values_go (Expr-F.And members) = ap Expr-F.And (list_back members)
  values_go (Expr-F.Or members) = ap Expr-F.Or (list_back members)
  values_go (Expr-F.Not operand) = refl
  values_go (Expr-F.Test test operand) = refl
  values_go (Expr-F.Coalesce members) = ap Expr-F.Coalesce (list_back members)
  values_go (Expr-F.Case operand arms otherwise) = λ i. Expr-F.Case (option_back operand i) (arms_back arms i) (option_back otherwise i)
  values_go (Expr-F.Exists sub query) = refl
  values_go (Expr-F.InSub sub operand query) = refl
