-- IN over values, as SQL says it in words.
use Rattle.std.proofs.Common.{◌≡◌, ◌∙◌, ap, sym, refl, Bool, true, false, ◌||◌, ◌&&◌, List, [], ◌∷◌, map, fold}
use Rattle.std.specs.Prelude.{All}
use Rattle.std.proofs.lemmas.List.Elements.{All-head, All-tail}
use Rattle.std.specs.List.{list_any}
use Rattle.std.specs.Ordering.{is_eq, int_cmp, bool_cmp, nat_cmp}
use Rattle.std.specs.Cmp.Lexicographic.{slice_cmp}
use Rattle.jp_base.specs.declared.truth.Truth.{Truth}
use Rattle.jp_base.specs.declared.truth.Truth.TheVariants.{True, False, Unknown}
use Rattle.jp_base.specs.declared.values.Value.{Value}
use Rattle.jp_base.specs.declared.values.Value.TheVariants as value
use Rattle.jp_base.specs.Truth.{truth_of_bool, or_of}
use Rattle.jp_base.specs.Values.{IsComparable, is_null, are_equal}
use Rattle.jp_query.specs.declared.CmpOp.TheVariants as cmp
use Rattle.jp_query.specs.Operators.{any_of, compared, among}
use Rattle.jp_query.specs.InWords.{verdict, is_some_value, in_words}

or_assoc : (a b c : Truth) → or_of (or_of a b) c ≡ or_of a (or_of b c)
or_assoc True True True = refl
or_assoc True True False = refl
or_assoc True True Unknown = refl
or_assoc True False True = refl
or_assoc True False False = refl
or_assoc True False Unknown = refl
or_assoc True Unknown True = refl
or_assoc True Unknown False = refl
or_assoc True Unknown Unknown = refl
or_assoc False True True = refl
or_assoc False True False = refl
or_assoc False True Unknown = refl
or_assoc False False True = refl
or_assoc False False False = refl
or_assoc False False Unknown = refl
or_assoc False Unknown True = refl
or_assoc False Unknown False = refl
or_assoc False Unknown Unknown = refl
or_assoc Unknown True True = refl
or_assoc Unknown True False = refl
or_assoc Unknown True Unknown = refl
or_assoc Unknown False True = refl
or_assoc Unknown False False = refl
or_assoc Unknown False Unknown = refl
or_assoc Unknown Unknown True = refl
or_assoc Unknown Unknown False = refl
or_assoc Unknown Unknown Unknown = refl

or_false : (a : Truth) → a ≡ or_of a False
or_false True = refl
or_false False = refl
or_false Unknown = refl

false_or : (a : Truth) → or_of False a ≡ a
false_or True = refl
false_or False = refl
false_or Unknown = refl

or_more : (a : Truth) (more : List Truth) → fold or_of a more ≡ or_of a (any_of more)
or_more a [] = or_false a
or_more a (t ∷ more) = or_more (or_of a t) more ∙ or_assoc a t (any_of more) ∙ ap (or_of a) (sym (ap (λ b. fold or_of b more) (false_or t) ∙ or_more t more))

-- one more value, by what it is
null_operand : (n N L : Bool) → or_of Unknown (verdict false N true L) ≡ verdict false (n || N) true true
null_operand true true true = refl
null_operand true true false = refl
null_operand true false true = refl
null_operand true false false = refl
null_operand false true true = refl
null_operand false true false = refl
null_operand false false true = refl
null_operand false false false = refl

null_value : (E N L : Bool) → or_of Unknown (verdict E N false L) ≡ verdict E true false true
null_value true true true = refl
null_value true true false = refl
null_value true false true = refl
null_value true false false = refl
null_value false true true = refl
null_value false true false = refl
null_value false false true = refl
null_value false false false = refl

two_values : (e E N L : Bool) → or_of (truth_of_bool e) (verdict E N false L) ≡ verdict (e || E) N false true
two_values true true true true = refl
two_values true true true false = refl
two_values true true false true = refl
two_values true true false false = refl
two_values true false true true = refl
two_values true false true false = refl
two_values true false false true = refl
two_values true false false false = refl
two_values false true true true = refl
two_values false true true false = refl
two_values false true false true = refl
two_values false true false false = refl
two_values false false true true = refl
two_values false false true false = refl
two_values false false false true = refl
two_values false false false false = refl

-- nothing is equal to NULL
none_equal : (values : List Value) → list_any (are_equal value.Null) values ≡ false
none_equal [] = refl
none_equal (v ∷ values) = none_equal values

more : (x v : Value) (values : List Value) → IsComparable x v → or_of (compared cmp.Eq x v) (in_words x values) ≡ in_words x (v ∷ values)
more value.Null v values c =
    ap (λ e. or_of Unknown (verdict e (list_any is_null values) true (is_some_value values))) (none_equal values)
    ∙ null_operand (is_null v) (list_any is_null values) (is_some_value values)
    ∙ ap (λ e. verdict e (is_null v || list_any is_null values) true true) (sym (none_equal values))
more (value.Num a) value.Null values c = null_value (list_any (are_equal (value.Num a)) values) (list_any is_null values) (is_some_value values)
more (value.Bool a) value.Null values c = null_value (list_any (are_equal (value.Bool a)) values) (list_any is_null values) (is_some_value values)
more (value.Text a) value.Null values c = null_value (list_any (are_equal (value.Text a)) values) (list_any is_null values) (is_some_value values)
more (value.Num a) (value.Num b) values c = two_values (is_eq (int_cmp a b)) (list_any (are_equal (value.Num a)) values) (list_any is_null values) (is_some_value values)
more (value.Bool a) (value.Bool b) values c = two_values (is_eq (bool_cmp a b)) (list_any (are_equal (value.Bool a)) values) (list_any is_null values) (is_some_value values)
more (value.Text a) (value.Text b) values c = two_values (is_eq (slice_cmp nat_cmp a b)) (list_any (are_equal (value.Text a)) values) (list_any is_null values) (is_some_value values)
more (value.Num a) (value.Bool b) values c = absurd c
more (value.Num a) (value.Text b) values c = absurd c
more (value.Bool a) (value.Num b) values c = absurd c
more (value.Bool a) (value.Text b) values c = absurd c
more (value.Text a) (value.Num b) values c = absurd c
more (value.Text a) (value.Bool b) values c = absurd c

pub among_reads : (x : Value) (values : List Value) → All (IsComparable x) values → among x values ≡ in_words x values
among_reads value.Null [] c = refl
among_reads (value.Num a) [] c = refl
among_reads (value.Bool a) [] c = refl
among_reads (value.Text a) [] c = refl
among_reads x (v ∷ values) c =
    ap (λ t. fold or_of t (map (compared cmp.Eq x) values)) (false_or (compared cmp.Eq x v))
    ∙ or_more (compared cmp.Eq x v) (map (compared cmp.Eq x) values)
    ∙ ap (or_of (compared cmp.Eq x v)) (among_reads x values (All-tail (IsComparable x) v values c))
    ∙ more x v values (All-head (IsComparable x) v values c)
