-- Keys by which tuples are looked up.
use Rattle.std.specs.Prelude.{◌≡◌, ℕ, suc, Bool, true, false, List, [], ◌∷◌, ◌++◌, map, slice_index_or, Option, Some, None}
use Rattle.std.specs.HashMap as hash
use Rattle.std.specs.HashMap.{HashMap}
use Rattle.std.specs.Borrow.{Bor}
use Rattle.jp_base.specs.declared.values.Value.{Value}
use Rattle.jp_base.specs.declared.values.Value.TheVariants as value
use Rattle.jp_base.specs.Values.{are_equal}
use Rattle.jp_query.specs.declared.Expr.{Expr, out-Expr}
use Rattle.jp_query.specs.declared.Expr.TheOpen.{Expr-F}
use Rattle.jp_query.specs.Layers.{ExprLayer}
use Rattle.jp_frame.specs.Maps.{Map}
use Rattle.jp_joins.specs.Meant.{Meant, value_at}
use Rattle.jp_joins.specs.Tuples.{map_of}
use Rattle.jp_joins.specs.declared.keys.Key.{Key}
use Rattle.jp_joins.specs.declared.keys.Key.TheVariants as key
use Rattle.jp_joins.specs.declared.listed.Listed.{Listed}
use Rattle.jp_joins.specs.declared.listed.Listed.TheVariants as few
use Rattle.jp_joins.specs.declared.tuples.Tuple.{Tuple}

abbrev pub value_of_key : Key → Value
value_of_key (key.Number number) = value.Num number
value_of_key (key.Boolean truth) = value.Bool truth
value_of_key (key.Text text) = value.Text text.now

-- NULL has no key
abbrev pub value_of_some : Option Key → Value
value_of_some (Some k) = value_of_key k
value_of_some None = value.Null

-- the values of a side of the key: a column's are lent, those of another expression are made for each map
abbrev pub AreMadeAt : ExprLayer → List Value → List Value → Type 0
AreMadeAt (Expr-F.Col rel col ty nulled) values made = Unit {0}
AreMadeAt _ values made = made ≡ values

abbrev pub values_at : Meant → Expr → List Map → List Value
values_at meant side maps = map (λ m. value_at meant m side) maps

abbrev pub AreMade : Meant → Expr → List Map → List Value → Type 0
AreMade meant side maps made = AreMadeAt (out-Expr side) (values_at meant side maps) made

-- a map's value of the side is equal to the value
abbrev pub has_value : Meant → Expr → Value → Map → Bool
has_value meant side v m = are_equal v (value_at meant m side)

abbrev pub tuple_has : Meant → Expr → Value → Tuple → Bool
tuple_has meant side v tuple = has_value meant side v (map_of tuple)

-- what a table lists at the keys that have the value
abbrev pub items_of : {X : Type 0} → Listed X → List X
items_of (few.One x) = x ∷ []
items_of (few.Many xs) = xs.items

abbrev pub listed : {X : Type 0} → Option (Listed X) → List X
listed (Some those) = items_of those
listed None = []

abbrev pub has_key : Value → Key → Bool
has_key v k = are_equal v (value_of_key k)

abbrev pub table_at : {X S : Type 0} → HashMap Key (Listed X) S → Value → List X
table_at table v = listed (hash.get_by (has_key v) table)

-- the lists that are lent
abbrev pub lists_of : {X : Type 0} → List (Bor (List X)) → List (List X)
lists_of lent = map (λ l. l.now) lent

abbrev pub once_if : {X : Type 0} → Bool → X → List X
once_if true x = x ∷ []
once_if false x = []

-- the places of what passes a test, where the first of the list has the place i
abbrev pub places_where : {X : Type 0} → (X → Bool) → ℕ → List X → List ℕ
places_where p i [] = []
places_where p i (x ∷ xs) = once_if (p x) i ++ places_where p (suc i) xs

-- the maps at places
abbrev pub map_at : List Map → ℕ → Map
map_at maps i = slice_index_or maps i []

abbrev pub maps_at : List Map → List ℕ → List Map
maps_at maps places = map (map_at maps) places
