-- The sides of a key, one expression of the list after the other.
use Rattle.std.proofs.Common.{◌≡◌, ◌∙◌, ap, sym, refl, ℕ, ◌+◌, ◌<◌, Bool, true, false, List, ◌∷◌, length, drop, get_or, Option, Some, None}
use Rattle.std.specs.Prelude.{◌||◌, if◌then◌else◌}
use Rattle.std.specs.Option.{option_map}
use Rattle.std.proofs.lemmas.List.{at_drop_more}
use Rattle.jp_query.specs.declared.CmpOp.TheVariants as cmp
use Rattle.jp_query.specs.declared.Expr.{Expr, out-Expr}
use Rattle.jp_query.specs.declared.Expr.TheVariants as expr
use Rattle.jp_query.specs.declared.Expr.TheOpen.{Expr-F}
use Rattle.jp_query.specs.declared.Expr.TheViews.{roll-Expr, roll-out-Expr}
use Rattle.jp_query.specs.Layers.{ExprLayer}
use Rattle.jp_problem.specs.Equalities.{Sides, sides_at, has_sublink}
use Rattle.jp_problem.specs.Keys.{as_key, first_key, key_in, key_of_sides, or_key}
use Rattle.jp_problem.proofs.SublinkLaws.{in-Compare}
use Rattle.jp_lists.specs.Steps.{pair_of_sides}
use Rattle.jp_plans.specs.KeyWords.{key_at, key_here}

abbrev Pair : Type 0
Pair = Option (Expr × Expr)

abbrev pairs : Option Sides → Pair
pairs sides = option_map pair_of_sides sides

abbrev earlier : Pair → Pair → Pair
earlier (Some pair) other = Some pair
earlier None other = other

mapped_or : (a b : Option Sides) → pairs (or_key a b) ≡ earlier (pairs a) (pairs b)
mapped_or (Some s) b = refl
mapped_or None b = refl

mapped_if : (b : Bool) (o : Option Sides) → pairs (if b then None else o) ≡ (if b then None else pairs o)
mapped_if true o = refl
mapped_if false o = refl

never : (b : Bool) → pairs (if b then None else None) ≡ None
never true = refl
never false = refl

module _ (rels : List ℕ) (left right : ℕ) where
  key_at_layer : (x : ExprLayer) (e : Expr) → e ≡ roll-Expr x → pairs (if has_sublink e then None else key_of_sides rels left right (sides_at x)) ≡ key_at rels left right x
  key_at_layer (Expr-F.Compare cmp.Eq a b) e is =
      let holds : has_sublink e ≡ (has_sublink a || has_sublink b) = ap has_sublink (is ∙ expr.rolls-Compare cmp.Eq a b) ∙ in-Compare cmp.Eq a b in
      (λ i. pairs (if holds i then None else as_key rels left right (record { first = a; second = b })))
      ∙ mapped_if (has_sublink a || has_sublink b) (as_key rels left right (record { first = a; second = b }))
  key_at_layer x e is = never (has_sublink e)

  key_is : (e : Expr) → pairs (key_in rels left right e) ≡ key_here rels left right e
  key_is e = key_at_layer (out-Expr e) e (sym (roll-out-Expr e))

  abbrev found : List Expr → Pair
  found list = pairs (first_key rels left right list)

  at_first : (e : Expr) (list : List Expr) (o : Pair) → key_here rels left right e ≡ o → found (e ∷ list) ≡ earlier o (found list)
  at_first e list o is = mapped_or (key_in rels left right e) (first_key rels left right list) ∙ ap (λ p. earlier p (found list)) (key_is e ∙ is)

  pub found_here : (list : List Expr) (k : ℕ) (d : Expr) (sides : Expr × Expr) → k < length list → key_here rels left right (get_or list k d) ≡ Some sides → found (drop k list) ≡ Some sides
  found_here list k d sides low is = at_drop_more found list k d low ∙ at_first (get_or list k d) (drop (k + 1) list) (Some sides) is

  pub not_here : (list : List Expr) (k : ℕ) (d : Expr) → k < length list → key_here rels left right (get_or list k d) ≡ None → found (drop k list) ≡ found (drop (k + 1) list)
  not_here list k d low is = at_drop_more found list k d low ∙ at_first (get_or list k d) (drop (k + 1) list) None is
