-- Keys of tables stand for values, and a table lists tuples by the values of its keys.
use Rattle.std.proofs.Common.{◌≡◌, ◌∙◌, ap, ap₂, sym, ◌+◌, ◌<◌, filter, length, get_or, take, subst, refl, ℕ, ◌⊎◌, inl, inr, Bool, true, false, cond, Option, Some, None, List, [], ◌∷◌, ◌++◌, append-nil}
use Rattle.std.specs.HashMap as hash
use Rattle.std.specs.HashMap.{HashMap}
use Rattle.std.proofs.lemmas.Map.Text.{is_eq-slice_cmp}
use Rattle.std.specs.Map.{lookup}
use mathlib.Core.Path.{fun_ext}
use Rattle.std.proofs.lemmas.List.{take_more}
use Rattle.std.proofs.lemmas.List.Elements.{filter-append}
use Rattle.jp_base.specs.Values.{are_equal}
use Rattle.jp_base.specs.declared.values.Value.{Value}
use Rattle.jp_base.specs.declared.values.Value.TheVariants as value
use Rattle.jp_base.proofs.ValueOrder.{equal_is}
use Rattle.jp_joins.specs.Keys.{has_key, items_of, listed, once_if, table_at, tuple_has, value_of_key, value_of_some}
use Rattle.jp_joins.specs.Meant.{Meant, value_at}
use Rattle.jp_joins.specs.Tuples.{map_of}
use Rattle.jp_query.specs.declared.Expr.{Expr}
use Rattle.jp_joins.specs.contracts.keys.KeyPartialEq.TheImpl as key_equal
use Rattle.jp_joins.specs.declared.keys.Key.{Key}
use Rattle.jp_joins.specs.declared.keys.Key.TheVariants as key
use Rattle.jp_joins.specs.declared.listed.Listed.{Listed}
use Rattle.jp_joins.specs.declared.tuples.Tuple.{Tuple}

abbrev pub same_key : Key → Key → Bool
same_key = (key_equal.ghosts).eq

same_truth : (a b : Bool) → same_key (key.Boolean a) (key.Boolean b) ≡ are_equal (value.Bool a) (value.Bool b)
same_truth true true = refl
same_truth true false = refl
same_truth false true = refl
same_truth false false = refl

same_value : (p q : Key) → same_key p q ≡ are_equal (value_of_key p) (value_of_key q)
same_value (key.Number a) (key.Number b) = refl
same_value (key.Boolean a) (key.Boolean b) = same_truth a b
same_value (key.Text a) (key.Text b) = sym (is_eq-slice_cmp a.now b.now)
same_value (key.Number a) (key.Boolean b) = refl
same_value (key.Number a) (key.Text b) = refl
same_value (key.Boolean a) (key.Number b) = refl
same_value (key.Boolean a) (key.Text b) = refl
same_value (key.Text a) (key.Number b) = refl
same_value (key.Text a) (key.Boolean b) = refl

turned : (a b : Value) (p q : Bool) → are_equal a b ≡ p → are_equal b a ≡ q → p ≡ q
turned a b true q e f = let same = equal_is a b e in sym e ∙ ap (λ x. are_equal x b) same ∙ ap (are_equal b) (sym same) ∙ f
turned a b false true e f = let same = equal_is b a f in sym e ∙ ap (λ x. are_equal x b) (sym same) ∙ ap (are_equal b) same ∙ f
turned a b false false e f = refl

pub equal_turned : (a b : Value) → are_equal a b ≡ are_equal b a
equal_turned a b = turned a b (are_equal a b) (are_equal b a) refl refl

pub null_equals_none : (v : Value) → are_equal value.Null v ≡ false
null_equals_none value.Null = refl
null_equals_none (value.Num n) = refl
null_equals_none (value.Bool b) = refl
null_equals_none (value.Text t) = refl

-- each value but NULL has a key
has_keys : (v : Value) → (v ≡ value.Null) ⊎ ((q : Key) × (value_of_key q ≡ v))
has_keys value.Null = inl refl
has_keys (value.Num n) = inr (key.Number n, refl)
has_keys (value.Bool b) = inr (key.Boolean b, refl)
has_keys (value.Text t) = inr (key.Text (record { ref_ptr = (0, 0); now = t }), refl)

abbrev Table : Type 0 → Type 0 → Type 0
Table X S = HashMap Key (Listed X) S

none_listed : {X : Type 0} (es : List (Key × Listed X)) → lookup (has_key value.Null) es ≡ None
none_listed [] = refl
none_listed (e ∷ es) = ap (λ b. cond b (Some e.1) (lookup (has_key value.Null) es)) (null_equals_none (value_of_key e.0)) ∙ none_listed es

module _ {X S : Type 0} where
  pub at_key : (table : Table X S) (q : Key) → hash.get_by (has_key (value_of_key q)) table ≡ hash.get same_key table q
  at_key table q = ap (λ (test : Key → Bool). hash.get_by test table) (fun_ext (λ k. sym (same_value q k)))

  pub at_null : (table : Table X S) → table_at table value.Null ≡ []
  at_null table = ap listed (none_listed table.entries)

  pick : (m : Table X S) (key q : Key) (w : Listed X) (t : X) (b : Bool) → items_of w ≡ listed (hash.get same_key m key) ++ t ∷ [] → same_key key q ≡ b
      → listed (cond b (Some w) (hash.get same_key m q)) ≡ table_at m (value_of_key q) ++ once_if b t
  pick m key q w t true w_is e =
      let same : value_of_key key ≡ value_of_key q = equal_is (value_of_key key) (value_of_key q) (sym (same_value key q) ∙ e) in
      w_is ∙ ap (λ xs. xs ++ t ∷ []) (ap listed (sym (at_key m key)) ∙ ap (table_at m) same)
  pick m key q w t false w_is e = ap listed (sym (at_key m q)) ∙ sym (append-nil (table_at m (value_of_key q)))

  at_some : (m n : Table X S) (key q : Key) (w : Listed X) (t : X) → ((q : Key) → hash.get same_key n q ≡ cond (same_key key q) (Some w) (hash.get same_key m q)) → items_of w ≡ listed (hash.get same_key m key) ++ t ∷ []
      → table_at n (value_of_key q) ≡ table_at m (value_of_key q) ++ once_if (has_key (value_of_key q) key) t
  at_some m n key q w t updates w_is =
      ap listed (at_key n q ∙ updates q) ∙ pick m key q w t (same_key key q) w_is refl
      ∙ ap (λ b. table_at m (value_of_key q) ++ once_if b t) (same_value key q ∙ equal_turned (value_of_key key) (value_of_key q))

  -- the table after a tuple is put behind those of a key
  pub table_more : (m n : Table X S) (key : Key) (w : Listed X) (t : X) → ((q : Key) → hash.get same_key n q ≡ cond (same_key key q) (Some w) (hash.get same_key m q)) → items_of w ≡ listed (hash.get same_key m key) ++ t ∷ []
      → (v : Value) → table_at n v ≡ table_at m v ++ once_if (has_key v key) t
  table_more m n key w t updates w_is v = elim (has_keys v) [
    | inl null ↦ subst (λ u. table_at n u ≡ table_at m u ++ once_if (has_key u key) t) (sym null)
        (at_null n ∙ sym (ap (λ xs. xs ++ once_if (has_key value.Null key) t) (at_null m) ∙ ap (λ b. once_if b t) (null_equals_none (value_of_key key))))
    | inr some ↦ subst (λ u. table_at n u ≡ table_at m u ++ once_if (has_key u key) t) some.1 (at_some m n key some.0 w t updates w_is)
  ]

-- what the table lists at a key, and where there is none
module _ {X S : Type 0} (table : Table X S) (q : Key) (o : Option Key) (is : o ≡ Some q) where
  at_same : table_at table (value_of_some o) ≡ listed (hash.get same_key table q)
  at_same = ap (λ (k : Option Key). table_at table (value_of_some k)) is ∙ ap listed (at_key table q)

  pub some_listed : (ts : Listed X) → Some ts ≡ hash.get same_key table q → items_of ts ≡ table_at table (value_of_some o)
  some_listed ts e = ap listed e ∙ sym at_same

  pub none_listed_at : None ≡ hash.get same_key table q → [] ≡ table_at table (value_of_some o)
  none_listed_at e = ap listed e ∙ sym at_same

pub no_key : {X S : Type 0} (table : Table X S) (o : Option Key) → o ≡ None → [] ≡ table_at table (value_of_some o)
no_key table o is = sym (ap (λ (k : Option Key). table_at table (value_of_some k)) is ∙ at_null table)

-- ---- the table of some tuples

module _ (meant : Meant) (side : Expr) where
  one_kept : (v : Value) (t : Tuple) → filter (tuple_has meant side v) (t ∷ []) ≡ once_if (tuple_has meant side v t) t
  one_kept v t = pick_one (tuple_has meant side v t)
    where
      pick_one : (b : Bool) → cond b (t ∷ []) [] ≡ once_if b t
      pick_one true = refl
      pick_one false = refl

  -- one more tuple, put behind those with its key
  pub listed_more : (tuples : List Tuple) (i : ℕ) (d : Tuple) (k v : Value) (before now : List Tuple) → i < length tuples → k ≡ value_at meant (map_of (get_or tuples i d)) side
      → before ≡ filter (tuple_has meant side v) (take i tuples) → now ≡ before ++ once_if (are_equal v k) (get_or tuples i d)
      → now ≡ filter (tuple_has meant side v) (take (i + 1) tuples)
  listed_more tuples i d k v before now h is e f =
      f ∙ ap₂ (λ (xs : List Tuple) (u : Value). xs ++ once_if (are_equal v u) (get_or tuples i d)) e is
      ∙ ap (λ xs. filter (tuple_has meant side v) (take i tuples) ++ xs) (sym (one_kept v (get_or tuples i d)))
      ∙ sym (filter-append (tuple_has meant side v) (take i tuples) (get_or tuples i d ∷ []))
      ∙ ap (filter (tuple_has meant side v)) (sym (take_more tuples i d h))
