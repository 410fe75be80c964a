-- The order of all values is a total one: by the rank of the type, then as numbers, as truths and as texts, where a value
-- of another type counts as 0, false and the empty text.
use Rattle.std.proofs.Common.{◌≡◌, ◌∙◌, ap, sym, refl, ℕ, Bool, true, false, List, [], Some}
use Rattle.std.specs.Prelude.{ℤ, pos}
use Rattle.std.specs.Cmp.{IsTotalOrder, IsStrictWeakOrder, bool_cmp_total}
use Rattle.std.specs.Cmp.Lexicographic.{slice_cmp}
use Rattle.std.specs.declared.cmp.Ordering.{Ordering}
use Rattle.std.specs.declared.cmp.Ordering.TheVariants.{Less, Equal, Greater}
use Rattle.std.specs.Ordering.{is_eq, ordering_reverse, nat_cmp, int_cmp, bool_cmp, on, then_cmp, ordering_then}
use Rattle.std.proofs.lemmas.Cmp.{then_total, on_total, nat_cmp_total, int_cmp_total, nat_list_cmp_total, tied_itself}
use Rattle.std.proofs.lemmas.List.MinMax.{ranks_by}
use Rattle.std.proofs.lemmas.Map.Lookups.{exact_signed, exact_bytes}
use Rattle.jp_base.specs.declared.values.Value.{Value}
use Rattle.jp_base.specs.declared.values.Value.TheVariants as value
use Rattle.jp_base.specs.Values.{order_of, type_rank, total_order_of, is_below, are_equal}

abbrev number_in : Value → ℤ
number_in (value.Num n) = n
number_in _ = pos 0

abbrev truth_in : Value → Bool
truth_in (value.Bool b) = b
truth_in _ = false

abbrev text_in : Value → List ℕ
text_in (value.Text t) = t
text_in _ = []

abbrev in_parts : Value → Value → Ordering
in_parts = then_cmp (on type_rank nat_cmp) (then_cmp (on number_in int_cmp) (then_cmp (on truth_in bool_cmp) (on text_in (slice_cmp nat_cmp))))

-- ties behind an order change nothing
then_tie : (o : Ordering) → ordering_then o Equal ≡ o
then_tie Less = refl
then_tie Equal = refl
then_tie Greater = refl

parts_are : (a b : Value) → in_parts a b ≡ total_order_of a b
parts_are value.Null value.Null = refl
parts_are value.Null (value.Num b) = refl
parts_are value.Null (value.Bool b) = refl
parts_are value.Null (value.Text b) = refl
parts_are (value.Num a) value.Null = refl
parts_are (value.Num a) (value.Num b) = then_tie (int_cmp a b)
parts_are (value.Num a) (value.Bool b) = refl
parts_are (value.Num a) (value.Text b) = refl
parts_are (value.Bool a) value.Null = refl
parts_are (value.Bool a) (value.Num b) = refl
parts_are (value.Bool a) (value.Bool b) = then_tie (bool_cmp a b)
parts_are (value.Bool a) (value.Text b) = refl
parts_are (value.Text a) value.Null = refl
parts_are (value.Text a) (value.Num b) = refl
parts_are (value.Text a) (value.Bool b) = refl
parts_are (value.Text a) (value.Text b) = refl

-- an order that answers as a total one is total
pub same_total : {K : Type 0} (R S : K → K → Ordering) → ((x y : K) → R x y ≡ S x y) → IsTotalOrder R → IsTotalOrder S
same_total R S is o = record {
  antisymm = λ x y. sym (is x y) ∙ o.antisymm x y ∙ ap ordering_reverse (is y x);
  trans = λ x y z p q. sym (is x z) ∙ o.trans x y z (is x y ∙ p) (is y z ∙ q);
  congr = λ x y z p. sym (is x z) ∙ o.congr x y z (is x y ∙ p) ∙ is y z;
}

pub values_total : IsTotalOrder total_order_of
values_total = same_total in_parts total_order_of parts_are (then_total (on_total type_rank nat_cmp_total) (then_total (on_total number_in int_cmp_total) (then_total (on_total truth_in bool_cmp_total) (on_total text_in nat_list_cmp_total))))

pub values_weak : IsStrictWeakOrder is_below
values_weak = ranks_by values_total (λ v. v)

bool_exact : (a b : Bool) → bool_cmp a b ≡ Equal → a ≡ b
bool_exact false false h = refl
bool_exact false true h = cc
bool_exact true false h = cc
bool_exact true true h = refl

pub tie_equal : (a b : Value) → total_order_of a b ≡ Equal → a ≡ b
tie_equal value.Null value.Null h = refl
tie_equal value.Null (value.Num b) h = cc
tie_equal value.Null (value.Bool b) h = cc
tie_equal value.Null (value.Text b) h = cc
tie_equal (value.Num a) value.Null h = cc
tie_equal (value.Num a) (value.Num b) h = ap (λ n. value.Num n) (exact_signed a b h)
tie_equal (value.Num a) (value.Bool b) h = cc
tie_equal (value.Num a) (value.Text b) h = cc
tie_equal (value.Bool a) value.Null h = cc
tie_equal (value.Bool a) (value.Num b) h = cc
tie_equal (value.Bool a) (value.Bool b) h = ap (λ n. value.Bool n) (bool_exact a b h)
tie_equal (value.Bool a) (value.Text b) h = cc
tie_equal (value.Text a) value.Null h = cc
tie_equal (value.Text a) (value.Num b) h = cc
tie_equal (value.Text a) (value.Bool b) h = cc
tie_equal (value.Text a) (value.Text b) h = ap (λ n. value.Text n) (exact_bytes a b h)

pub tied : (o : Ordering) → is_eq o ≡ true → o ≡ Equal
tied Less e = cc
tied Equal e = refl
tied Greater e = cc

-- values that are equal are one
pub equal_is : (a b : Value) → are_equal a b ≡ true → a ≡ b
equal_is value.Null b e = cc
equal_is (value.Num a) value.Null e = cc
equal_is (value.Num a) (value.Num b) e = tie_equal (value.Num a) (value.Num b) (tied (int_cmp a b) e)
equal_is (value.Num a) (value.Bool b) e = cc
equal_is (value.Num a) (value.Text b) e = cc
equal_is (value.Bool a) value.Null e = cc
equal_is (value.Bool a) (value.Num b) e = cc
equal_is (value.Bool a) (value.Bool b) e = tie_equal (value.Bool a) (value.Bool b) (tied (bool_cmp a b) e)
equal_is (value.Bool a) (value.Text b) e = cc
equal_is (value.Text a) value.Null e = cc
equal_is (value.Text a) (value.Num b) e = cc
equal_is (value.Text a) (value.Bool b) e = cc
equal_is (value.Text a) (value.Text b) e = tie_equal (value.Text a) (value.Text b) (tied (slice_cmp nat_cmp a b) e)

pub equal_tie : (a b : Value) → a ≡ b → total_order_of a b ≡ Equal
equal_tie a b e = ap (total_order_of a) (sym e) ∙ tied_itself values_total a

got : (o p : Ordering) → Some o ≡ Some p → o ≡ p
got o p h = cc

pub same_order : (a b : Value) (o : Ordering) → order_of a b ≡ Some o → total_order_of a b ≡ o
same_order value.Null b o h = cc
same_order (value.Num a) value.Null o h = cc
same_order (value.Num a) (value.Num b) o h = got (int_cmp a b) o h
same_order (value.Num a) (value.Bool b) o h = cc
same_order (value.Num a) (value.Text b) o h = cc
same_order (value.Bool a) value.Null o h = cc
same_order (value.Bool a) (value.Num b) o h = cc
same_order (value.Bool a) (value.Bool b) o h = got (bool_cmp a b) o h
same_order (value.Bool a) (value.Text b) o h = cc
same_order (value.Text a) value.Null o h = cc
same_order (value.Text a) (value.Num b) o h = cc
same_order (value.Text a) (value.Bool b) o h = cc
same_order (value.Text a) (value.Text b) o h = got (slice_cmp nat_cmp a b) o h
