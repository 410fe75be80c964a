-- One item more of ORDER BY.
use Rattle.std.proofs.Common.{◌≡◌, ◌∙◌, ap, ap₂, sym, refl, ℕ, zero, suc, ◌+◌, ◌<◌, List, [], ◌∷◌, map, length, get_or, drop, add-one}
use Rattle.std.proofs.lemmas.List.{at_drop_more}
use Rattle.std.specs.declared.cmp.Ordering.{Ordering}
use Rattle.std.specs.Ordering.{ordering_then}
use Rattle.jp_base.specs.declared.values.Value.TheVariants as value
use Rattle.jp_query.specs.InOrder.{direction_of}
use Rattle.jp_query.specs.declared.Order.{Order}
use Rattle.jp_query.specs.Ordering.{Row, key_order, keys_order, first_key, later_keys}

first_of_rest : (keys : Row) (i : ℕ) → first_key (drop i keys) ≡ get_or keys i value.Null
first_of_rest [] zero = refl
first_of_rest [] (suc i) = refl
first_of_rest (key ∷ keys) zero = refl
first_of_rest (key ∷ keys) (suc i) = first_of_rest keys i

later_of_rest : (keys : Row) (i : ℕ) → later_keys (drop i keys) ≡ drop (suc i) keys
later_of_rest [] zero = refl
later_of_rest [] (suc i) = refl
later_of_rest (key ∷ keys) zero = refl
later_of_rest (key ∷ keys) (suc i) = later_of_rest keys i

rest_more : (keys : Row) (i : ℕ) → later_keys (drop i keys) ≡ drop (i + 1) keys
rest_more keys i = later_of_rest keys i ∙ ap (λ n. drop n keys) (sym (add-one i))

pub one_more : (order : List Order) (left right : Row) (i : ℕ) (item : Order) (o : Ordering) → item ≡ get_or order i item → i < length order
    → o ≡ key_order (direction_of item) (get_or left i value.Null) (get_or right i value.Null)
    → keys_order (map direction_of (drop i order)) (drop i left) (drop i right) ≡ ordering_then o (keys_order (map direction_of (drop (i + 1) order)) (drop (i + 1) left) (drop (i + 1) right))
one_more order left right i item o is there e =
    at_drop_more (λ os. keys_order (map direction_of os) (drop i left) (drop i right)) order i item there
    ∙ ap₂ ordering_then
    (ap (λ d. key_order (direction_of d) (first_key (drop i left)) (first_key (drop i right))) (sym is)
    ∙ ap₂ (key_order (direction_of item)) (first_of_rest left i) (first_of_rest right i) ∙ sym e)
    (ap₂ (keys_order (map direction_of (drop (i + 1) order))) (rest_more left i) (rest_more right i))
