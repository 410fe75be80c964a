-- Two meanings of a step list the same where they test and order maps alike.
use Rattle.std.proofs.Common.{◌≡◌, ◌∙◌, ap, List, filter, Option, Some, None}
use Rattle.std.specs.List.{flat_map}
use Rattle.jp_query.specs.declared.Expr.{Expr}
use Rattle.jp_problem.specs.declared.types.Method.{Method}
use Rattle.jp_problem.specs.declared.types.Method.TheVariants as method
use Rattle.jp_frame.specs.Maps.{Map}
use Rattle.jp_frame.specs.Methods.{right_first, sorted_by}
use Rattle.jp_joins.specs.Meant.{Meant, list_holds, is_match, kept, left_gives, plain_list}
use Rattle.jp_joins.specs.Sorting.{stands_before, merged_by}
use Rattle.jp_lists.specs.Steps.{method_list}

module _ (one two : Meant) where
  -- both sides of the key order maps alike
  abbrev pub OrderAlike : Option (Expr × Expr) → Type 0
  OrderAlike None = Unit {0}
  OrderAlike (Some key) = (stands_before one key.0 ≡ stands_before two key.0) × (stands_before one key.1 ≡ stands_before two key.1)

  module _ (kinds : one.kind ≡ two.kind) (ons : is_match one ≡ is_match two) (filters : list_holds one one.filters ≡ list_holds two two.filters) (keys : one.key ≡ two.key) (orders : OrderAlike two.key) where
    plain_same : (l l' r r' : List Map) → l ≡ l' → r ≡ r' → plain_list one l r ≡ plain_list two l' r'
    plain_same l l' r r' p q = λ i. kept (kinds i) (filters i) (flat_map (left_gives (kinds i) (ons i) (q i)) (p i))

    merged_same : (key : Option (Expr × Expr)) → OrderAlike key → (l l' r r' : List Map) → l ≡ l' → r ≡ r' → merged_by one key l r ≡ merged_by two key l' r'
    merged_same None h l l' r r' p q = plain_same l l' r r' p q
    merged_same (Some key) h l l' r r' p q = plain_same (sorted_by (stands_before one key.0) l) (sorted_by (stands_before two key.0) l') (sorted_by (stands_before one key.1) r) (sorted_by (stands_before two key.1) r')
        (λ i. sorted_by (h.0 i) (p i)) (λ i. sorted_by (h.1 i) (q i))

    pub method_same : (how : Method) (l l' r r' : List Map) → l ≡ l' → r ≡ r' → method_list how one l r ≡ method_list how two l' r'
    method_same method.Nest l l' r r' p q = plain_same l l' r r' p q
    method_same method.Hash l l' r r' p q = plain_same l l' r r' p q
    method_same method.HashRight l l' r r' p q = λ i. filter (filters i) (right_first (ons i) (p i) (q i))
    method_same method.Merge l l' r r' p q = ap (λ key. merged_by one key l r) keys ∙ merged_same two.key orders l l' r r' p q
