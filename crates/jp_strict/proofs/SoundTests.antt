-- Where something is gone, a typed expression is as its tests say: NULL, not true or not false.
use Rattle.std.proofs.Common.{◌≡◌, ◌∙◌, ap, ap₂, sym, subst, subst₂, refl, ℕ, inl, inr, pos, Bool, true, false, ◌&&◌, ◌||◌, List, [], ◌∷◌, map, fold, Some, None}
use Rattle.std.specs.Prelude.{◌==◌, is_some, nat_lt, bit_and, if◌then◌else◌, ◌^◌}
use Rattle.std.specs.Int.{bit_at}
use Rattle.std.specs.List.{list_any, list_all}
use Rattle.std.proofs.lemmas.Bool.{cases_Bool, false≢true, true≢false, eqb-true}
use Rattle.jp_base.specs.Truth.{not_of, and_of, or_of}
use Rattle.jp_base.specs.Values.{is_null as is_null_value}
use Rattle.jp_base.specs.declared.truth.Truth.{Truth}
use Rattle.jp_base.specs.declared.truth.Truth.TheVariants.{True, False, Unknown}
use Rattle.jp_base.specs.declared.values.Ty.{Ty}
use Rattle.jp_base.specs.declared.values.Ty.TheVariants as ty
use Rattle.jp_base.specs.declared.values.Value.{Value}
use Rattle.jp_base.specs.declared.values.Value.TheVariants as value
use Rattle.jp_base.proofs.SetLemmas.{within_and}
use Rattle.jp_query.specs.declared.CmpOp.{CmpOp}
use Rattle.jp_query.specs.declared.CmpOp.TheVariants as cmp
use Rattle.jp_query.specs.declared.IsTest.{IsTest}
use Rattle.jp_query.specs.declared.IsTest.TheVariants as is
use Rattle.jp_query.specs.declared.Expr.TheViews.{roll-Expr}
use Rattle.jp_query.specs.declared.Expr.TheFolds.{map-Expr, ind-Expr, fold-roll-Expr, fold-Expr, fold-JoinTree, fold-Order, fold-Output, fold-Query}
use Rattle.jp_query.specs.declared.Expr.{Expr}
use Rattle.jp_query.specs.declared.JoinTree.{JoinTree}
use Rattle.jp_query.specs.declared.Order.{Order}
use Rattle.jp_query.specs.declared.Output.{Output}
use Rattle.jp_query.specs.declared.Query.{Query}
use Rattle.jp_query.specs.declared.Expr.TheOpen.{Expr-F}
use Rattle.jp_query.specs.Meaning.{Row, Env, ValueIn, Tuples, SortKey, RowsIn, SublinkRows, cell_in, any_present, value_at, term_at, truth_at, first_of, expr_value, tree_tuples, order_key, output_value, query_rows}
use Rattle.jp_query.specs.Nullness.{Gone, Surely, surely, is_gone, are_gone, is_null, is_not_true, is_not_false, of_literal, of_test, each, expr_surely, surely_of}
use Rattle.jp_query.specs.Operators.{value_of_truth, truth_of_value, is_true, is_false, all_of, any_of, compared, between, among, passes, negated, plus, times, joined, signed, first_value}
use Rattle.jp_query.specs.Parts.{term_part}
use Rattle.jp_query.specs.Typing.{Typed, TypedOutput, TypedQuery, is_of, typed_if, is_listed, are_all, one_type, can_test, is_one_of, expr_type, tree_typed, order_typed, output_typed, query_typed, type_of}
use Rattle.jp_query.proofs.PresentLaws.{some_present}
use Rattle.jp_strict.specs.Absence.{IsGoneIn}

-- ---- what a value is

pub record Sound (s : Surely) (v : Value) : Type 0 where
  pub null : s.null ≡ true → v ≡ value.Null
  pub not_true : s.not_true ≡ true → is_true (truth_of_value v) ≡ false
  pub not_false : s.not_false ≡ true → is_false (truth_of_value v) ≡ false

pub never : {A : Type 0} → false ≡ true → A
never h = absurd (false≢true h)

pub either : (b c : Bool) (A : Type 0) → (b ≡ true → A) → (c ≡ true → A) → (b || c) ≡ true → A
either true c A f g h = f refl
either false c A f g h = g h

pub left_of : (b c : Bool) → (b && c) ≡ true → b ≡ true
left_of true c h = refl
left_of false c h = h

pub right_of : (b c : Bool) → (b && c) ≡ true → c ≡ true
right_of true c h = h
right_of false c h = never h

sure_sound : (b c d : Bool) (v : Value) → (b ≡ true → v ≡ value.Null) → (c ≡ true → is_true (truth_of_value v) ≡ false) → (d ≡ true → is_false (truth_of_value v) ≡ false) → Sound (surely b c d) v
sure_sound b c d v p q r = record {
  null = p;
  not_true = either b c (is_true (truth_of_value v) ≡ false) (λ h. ap (λ w. is_true (truth_of_value w)) (p h)) q;
  not_false = either b d (is_false (truth_of_value v) ≡ false) (λ h. ap (λ w. is_false (truth_of_value w)) (p h)) r;
}

back : (t : Truth) → truth_of_value (value_of_truth t) ≡ t
back True = refl
back False = refl
back Unknown = refl

truth_sound : (b c d : Bool) (t : Truth) → (b ≡ true → t ≡ Unknown) → (c ≡ true → is_true t ≡ false) → (d ≡ true → is_false t ≡ false) → Sound (surely b c d) (value_of_truth t)
truth_sound b c d t p q r = sure_sound b c d (value_of_truth t) (λ h. ap value_of_truth (p h)) (λ h. ap is_true (back t) ∙ q h) (λ h. ap is_false (back t) ∙ r h)

null_sound : (b : Bool) (v : Value) → (b ≡ true → v ≡ value.Null) → Sound (surely b false false) v
null_sound b v p = sure_sound b false false v p never never

nothing_sound : (v : Value) → Sound (surely false false false) v
nothing_sound v = null_sound false v never

literal_sound : (v : Value) → Sound (of_literal v) v
literal_sound value.Null = null_sound true value.Null (λ h. refl)
literal_sound (value.Bool false) = sure_sound false true false (value.Bool false) never (λ h. refl) never
literal_sound (value.Bool true) = sure_sound false false true (value.Bool true) never never (λ h. refl)
literal_sound (value.Num n) = nothing_sound (value.Num n)
literal_sound (value.Text t) = nothing_sound (value.Text t)

bool_sound : (b : Bool) (t : Bool) → (b ≡ true → t ≡ false) → Sound (surely false b false) (value.Bool t)
bool_sound b true h = sure_sound false b false (value.Bool true) never (λ e. h e) never
bool_sound b false h = sure_sound false b false (value.Bool false) never (λ e. refl) never

test_sound : (t : IsTest) (s : Surely) (v : Value) → Sound s v → Sound (of_test t s) (value.Bool (passes t v))
test_sound is.NotNull s v h = bool_sound s.null (passes is.NotNull v) (λ e. ap (passes is.NotNull) (h.null e))
test_sound is.NotUnknown s v h = bool_sound s.null (passes is.NotUnknown v) (λ e. ap (passes is.NotUnknown) (h.null e))
test_sound is.True s v h = bool_sound s.not_true (passes is.True v) h.not_true
test_sound is.False s v h = bool_sound s.not_false (passes is.False v) h.not_false
test_sound is.Null s v h = nothing_sound (value.Bool (passes is.Null v))
test_sound is.NotTrue s v h = nothing_sound (value.Bool (passes is.NotTrue v))
test_sound is.NotFalse s v h = nothing_sound (value.Bool (passes is.NotFalse v))
test_sound is.Unknown s v h = nothing_sound (value.Bool (passes is.Unknown v))

-- ---- operators on NULL

left_null : (op : CmpOp) (a b : Value) → a ≡ value.Null → compared op a b ≡ Unknown
left_null op a b e = ap (λ x. compared op x b) e ∙ at op b
  where
    at : (op : CmpOp) (b : Value) → compared op value.Null b ≡ Unknown
    at op value.Null = refl
    at op (value.Num n) = refl
    at op (value.Bool t) = refl
    at op (value.Text t) = refl

right_null : (op : CmpOp) (a b : Value) → b ≡ value.Null → compared op a b ≡ Unknown
right_null op a b e = ap (compared op a) e ∙ at op a
  where
    at : (op : CmpOp) (a : Value) → compared op a value.Null ≡ Unknown
    at op value.Null = refl
    at op (value.Num n) = refl
    at op (value.Bool t) = refl
    at op (value.Text t) = refl

and_unknown : (t u : Truth) → t ≡ Unknown → is_true (and_of t u) ≡ false
and_unknown t u e = ap (λ x. is_true (and_of x u)) e ∙ at u
  where
    at : (u : Truth) → is_true (and_of Unknown u) ≡ false
    at True = refl
    at False = refl
    at Unknown = refl

and_unknown_right : (t u : Truth) → u ≡ Unknown → is_true (and_of t u) ≡ false
and_unknown_right t u e = ap (λ x. is_true (and_of t x)) e ∙ at t
  where
    at : (t : Truth) → is_true (and_of t Unknown) ≡ false
    at True = refl
    at False = refl
    at Unknown = refl

not_unknown : (v : Value) → v ≡ value.Null → truth_of_value v ≡ Unknown
not_unknown v e = ap truth_of_value e

turned_true : (t : Truth) → is_true (not_of t) ≡ is_false t
turned_true True = refl
turned_true False = refl
turned_true Unknown = refl

turned_false : (t : Truth) → is_false (not_of t) ≡ is_true t
turned_false True = refl
turned_false False = refl
turned_false Unknown = refl

-- of NULL, IN is unknown or, among nothing, false
still_unknown : (values : List Value) → fold or_of Unknown (map (compared cmp.Eq value.Null) values) ≡ Unknown
still_unknown [] = refl
still_unknown (v ∷ values) = ap (λ t. fold or_of (or_of Unknown t) (map (compared cmp.Eq value.Null) values)) (left_null cmp.Eq value.Null v refl) ∙ still_unknown values

first_unknown : (v : Value) (values : List Value) → among value.Null (v ∷ values) ≡ Unknown
first_unknown v values = ap (λ t. fold or_of (or_of False t) (map (compared cmp.Eq value.Null) values)) (left_null cmp.Eq value.Null v refl) ∙ still_unknown values

never_among : (values : List Value) → is_true (among value.Null values) ≡ false
never_among [] = refl
never_among (v ∷ values) = ap is_true (first_unknown v values)

plus_null : (v : Value) → plus v value.Null ≡ value.Null
plus_null value.Null = refl
plus_null (value.Num n) = refl
plus_null (value.Bool t) = refl
plus_null (value.Text t) = refl

times_null : (v : Value) → times v value.Null ≡ value.Null
times_null value.Null = refl
times_null (value.Num n) = refl
times_null (value.Bool t) = refl
times_null (value.Text t) = refl

joined_null : (v : Value) → joined v value.Null ≡ value.Null
joined_null value.Null = refl
joined_null (value.Num n) = refl
joined_null (value.Bool t) = refl
joined_null (value.Text t) = refl

signed_null : (b : Bool) (v : Value) → v ≡ value.Null → signed (b, v) ≡ value.Null
signed_null true v e = ap negated e
signed_null false v e = e

-- ---- lists

abbrev pub SoundEach : List Surely → List Value → Type 0
SoundEach [] [] = Unit {0}
SoundEach (s ∷ ss) (v ∷ vs) = Sound s v × SoundEach ss vs
SoundEach _ _ = ⊥

-- an operator that gives NULL for NULL
module _ (op : Value → Value → Value) (left : (v : Value) → op value.Null v ≡ value.Null) (right : (v : Value) → op v value.Null ≡ value.Null) where
  from_null : (vs : List Value) → fold op value.Null vs ≡ value.Null
  from_null [] = refl
  from_null (v ∷ vs) = ap (λ a. fold op a vs) (left v) ∙ from_null vs

  any_null : (a : Value) (ss : List Surely) (vs : List Value) → SoundEach ss vs → list_any is_null ss ≡ true → fold op a vs ≡ value.Null
  any_null a [] [] h e = never e
  any_null a (s ∷ ss) (v ∷ vs) h e = either s.null (list_any is_null ss) (fold op (op a v) vs ≡ value.Null)
      (λ p. ap (λ b. fold op b vs) (ap (op a) (h.0.null p) ∙ right a) ∙ from_null vs)
      (any_null (op a v) ss vs h.1) e
  any_null a [] (v ∷ vs) h e = absurd h
  any_null a (s ∷ ss) [] h e = absurd h

all_null : (ss : List Surely) (vs : List Value) → SoundEach ss vs → list_all is_null ss ≡ true → first_value vs ≡ value.Null
all_null [] [] h e = refl
all_null (s ∷ ss) (v ∷ vs) h e = ap (λ w. if is_null_value w then first_value vs else w) (h.0.null (left_of s.null (list_all is_null ss) e)) ∙ all_null ss vs h.1 (right_of s.null (list_all is_null ss) e)
all_null [] (v ∷ vs) h e = absurd h
all_null (s ∷ ss) [] h e = absurd h

-- AND and OR go on from a truth value
and_keeps : (t u : Truth) → is_true t ≡ false → is_true (and_of t u) ≡ false
and_keeps True True h = h
and_keeps True False h = refl
and_keeps True Unknown h = refl
and_keeps False True h = refl
and_keeps False False h = refl
and_keeps False Unknown h = refl
and_keeps Unknown True h = refl
and_keeps Unknown False h = refl
and_keeps Unknown Unknown h = refl

and_takes : (t u : Truth) → is_true u ≡ false → is_true (and_of t u) ≡ false
and_takes True True h = h
and_takes False True h = refl
and_takes Unknown True h = refl
and_takes True False h = refl
and_takes False False h = refl
and_takes Unknown False h = refl
and_takes True Unknown h = refl
and_takes False Unknown h = refl
and_takes Unknown Unknown h = refl

and_not_false : (t u : Truth) → is_false t ≡ false → is_false u ≡ false → is_false (and_of t u) ≡ false
and_not_false True True g h = refl
and_not_false True False g h = h
and_not_false True Unknown g h = refl
and_not_false False u g h = absurd (true≢false g)
and_not_false Unknown True g h = refl
and_not_false Unknown False g h = h
and_not_false Unknown Unknown g h = refl

or_keeps : (t u : Truth) → is_false t ≡ false → is_false (or_of t u) ≡ false
or_keeps True True h = refl
or_keeps True False h = refl
or_keeps True Unknown h = refl
or_keeps False u h = absurd (true≢false h)
or_keeps Unknown True h = refl
or_keeps Unknown False h = refl
or_keeps Unknown Unknown h = refl

or_takes : (t u : Truth) → is_false u ≡ false → is_false (or_of t u) ≡ false
or_takes True True h = refl
or_takes True False h = refl
or_takes True Unknown h = refl
or_takes False True h = refl
or_takes False False h = h
or_takes False Unknown h = refl
or_takes Unknown True h = refl
or_takes Unknown False h = refl
or_takes Unknown Unknown h = refl

or_not_true : (t u : Truth) → is_true t ≡ false → is_true u ≡ false → is_true (or_of t u) ≡ false
or_not_true True u g h = absurd (true≢false g)
or_not_true False True g h = h
or_not_true False False g h = refl
or_not_true False Unknown g h = refl
or_not_true Unknown True g h = h
or_not_true Unknown False g h = refl
or_not_true Unknown Unknown g h = refl

abbrev truths : List Value → List Truth
truths vs = map truth_of_value vs

module _ (op : Truth → Truth → Truth) (test : Truth → Bool) (keeps : (t u : Truth) → test t ≡ false → test (op t u) ≡ false) where
  stays : (t : Truth) (us : List Truth) → test t ≡ false → test (fold op t us) ≡ false
  stays t [] h = h
  stays t (u ∷ us) h = stays (op t u) us (keeps t u h)

  some_takes : (of : Surely → Bool) → ((s : Surely) (v : Value) → Sound s v → of s ≡ true → test (truth_of_value v) ≡ false) → ((t u : Truth) → test u ≡ false → test (op t u) ≡ false)
      → (t : Truth) (ss : List Surely) (vs : List Value) → SoundEach ss vs → list_any of ss ≡ true → test (fold op t (truths vs)) ≡ false
  some_takes of here takes t [] [] h e = never e
  some_takes of here takes t (s ∷ ss) (v ∷ vs) h e = either (of s) (list_any of ss) (test (fold op (op t (truth_of_value v)) (truths vs)) ≡ false)
      (λ p. stays (op t (truth_of_value v)) (truths vs) (takes t (truth_of_value v) (here s v h.0 p)))
      (some_takes of here takes (op t (truth_of_value v)) ss vs h.1) e
  some_takes of here takes t [] (v ∷ vs) h e = absurd h
  some_takes of here takes t (s ∷ ss) [] h e = absurd h

module _ (op : Truth → Truth → Truth) (test : Truth → Bool) (keeps : (t u : Truth) → test t ≡ false → test u ≡ false → test (op t u) ≡ false) (of : Surely → Bool) (here : (s : Surely) (v : Value) → Sound s v → of s ≡ true → test (truth_of_value v) ≡ false) where
  all_keep : (t : Truth) (ss : List Surely) (vs : List Value) → SoundEach ss vs → test t ≡ false → list_all of ss ≡ true → test (fold op t (truths vs)) ≡ false
  all_keep t [] [] h g e = g
  all_keep t (s ∷ ss) (v ∷ vs) h g e = all_keep (op t (truth_of_value v)) ss vs h.1 (keeps t (truth_of_value v) g (here s v h.0 (left_of (of s) (list_all of ss) e))) (right_of (of s) (list_all of ss) e)
  all_keep t [] (v ∷ vs) h g e = absurd h
  all_keep t (s ∷ ss) [] h g e = absurd h

module _ (op : Truth → Truth → Truth) (again : op Unknown Unknown ≡ Unknown) (start : Truth) (begins : op start Unknown ≡ Unknown) where
  on_unknown : (ss : List Surely) (vs : List Value) → SoundEach ss vs → list_all is_null ss ≡ true → fold op Unknown (truths vs) ≡ Unknown
  on_unknown [] [] h e = refl
  on_unknown (s ∷ ss) (v ∷ vs) h e = ap (λ t. fold op t (truths vs)) (ap (op Unknown) (not_unknown v (h.0.null (left_of s.null (list_all is_null ss) e))) ∙ again) ∙ on_unknown ss vs h.1 (right_of s.null (list_all is_null ss) e)
  on_unknown [] (v ∷ vs) h e = absurd h
  on_unknown (s ∷ ss) [] h e = absurd h

  each_unknown : (ss : List Surely) (vs : List Value) → SoundEach ss vs → each is_null ss ≡ true → fold op start (truths vs) ≡ Unknown
  each_unknown [] [] h e = never e
  each_unknown (s ∷ ss) (v ∷ vs) h e = ap (λ t. fold op t (truths vs)) (ap (op start) (not_unknown v (h.0.null (left_of s.null (list_all is_null ss) e))) ∙ begins) ∙ on_unknown ss vs h.1 (right_of s.null (list_all is_null ss) e)
  each_unknown [] (v ∷ vs) h e = absurd h
  each_unknown (s ∷ ss) [] h e = absurd h

listed_each : (of : Surely → Bool) (ss : List Surely) → each of ss ≡ true → list_all of ss ≡ true
listed_each of ss e = right_of (is_listed ss) (list_all of ss) e

and_sound : (ss : List Surely) (vs : List Value) → SoundEach ss vs → Sound (surely (each is_null ss) (list_any is_not_true ss) (each is_not_false ss)) (value_of_truth (all_of (truths vs)))
and_sound ss vs h = truth_sound (each is_null ss) (list_any is_not_true ss) (each is_not_false ss) (all_of (truths vs))
    (each_unknown and_of refl True refl ss vs h)
    (some_takes and_of is_true and_keeps is_not_true (λ s v k. k.not_true) and_takes True ss vs h)
    (λ e. all_keep and_of is_false and_not_false is_not_false (λ s v k. k.not_false) True ss vs h refl (listed_each is_not_false ss e))

or_sound : (ss : List Surely) (vs : List Value) → SoundEach ss vs → Sound (surely (each is_null ss) (each is_not_true ss) (list_any is_not_false ss)) (value_of_truth (any_of (truths vs)))
or_sound ss vs h = truth_sound (each is_null ss) (each is_not_true ss) (list_any is_not_false ss) (any_of (truths vs))
    (each_unknown or_of refl False refl ss vs h)
    (λ e. all_keep or_of is_true or_not_true is_not_true (λ s v k. k.not_true) False ss vs h refl (listed_each is_not_true ss e))
    (some_takes or_of is_false or_keeps is_not_false (λ s v k. k.not_false) or_takes False ss vs h)

not_sound : (s : Surely) (v : Value) → Sound s v → Sound (surely s.null s.not_false s.not_true) (value_of_truth (not_of (truth_of_value v)))
not_sound s v h = truth_sound s.null s.not_false s.not_true (not_of (truth_of_value v)) (λ e. ap (λ w. not_of (truth_of_value w)) (h.null e)) (λ e. turned_true (truth_of_value v) ∙ h.not_false e) (λ e. turned_false (truth_of_value v) ∙ h.not_true e)

between_sound : (s t u : Surely) (x l h : Value) → Sound s x → Sound t l → Sound u h → Sound (surely s.null (s.null || (t.null || u.null)) false) (value_of_truth (between x l h))
between_sound s t u x l h p q r = truth_sound s.null (s.null || (t.null || u.null)) false (between x l h)
    (λ e. ap₂ and_of (left_null cmp.Ge x l (p.null e)) (left_null cmp.Le x h (p.null e)))
    (either s.null (t.null || u.null) (is_true (between x l h) ≡ false)
    (λ e. and_unknown (compared cmp.Ge x l) (compared cmp.Le x h) (left_null cmp.Ge x l (p.null e)))
    (either t.null u.null (is_true (between x l h) ≡ false)
    (λ e. and_unknown (compared cmp.Ge x l) (compared cmp.Le x h) (right_null cmp.Ge x l (q.null e)))
    (λ e. and_unknown_right (compared cmp.Ge x l) (compared cmp.Le x h) (right_null cmp.Le x h (r.null e)))))
    never

compare_sound : (op : CmpOp) (s t : Surely) (a b : Value) → Sound s a → Sound t b → Sound (surely (s.null || t.null) false false) (value_of_truth (compared op a b))
compare_sound op s t a b p q = null_sound (s.null || t.null) (value_of_truth (compared op a b)) (either s.null t.null (value_of_truth (compared op a b) ≡ value.Null) (λ e. ap value_of_truth (left_null op a b (p.null e))) (λ e. ap value_of_truth (right_null op a b (q.null e))))

-- ---- types of parts

abbrev IsTyped : Typed → Type 0
IsTyped o = is_some o ≡ true

pub of_typed : (t : Ty) (o : Typed) → is_of t o ≡ true → IsTyped o
of_typed t (Some u) h = refl
of_typed t None h = never h

pub when_typed : (b : Bool) (t : Ty) → IsTyped (typed_if b t) → b ≡ true
when_typed true t h = refl
when_typed false t h = never h

all_typed : (t : Ty) (types : List Typed) → list_all (is_of t) types ≡ true → list_all is_some types ≡ true
all_typed t [] h = refl
all_typed t (o ∷ types) h = ap₂ ◌&&◌ (of_typed t o (left_of (is_of t o) (list_all (is_of t) types) h)) (all_typed t types (right_of (is_of t o) (list_all (is_of t) types) h))

all_of_typed : (t u : Ty) (types : List Typed) → IsTyped (typed_if (are_all t types) u) → list_all is_some types ≡ true
all_of_typed t u types h = all_typed t types (right_of (is_listed types) (list_all (is_of t) types) (when_typed (are_all t types) u h))

one_typed : (types : List Typed) → IsTyped (one_type types) → list_all is_some types ≡ true
one_typed [] h = never h
one_typed (None ∷ types) h = never h
one_typed (Some t ∷ types) h = all_typed t types (when_typed (list_all (is_of t) types) t h)

test_typed : (t : IsTest) (o : Typed) → can_test t o ≡ true → IsTyped o
test_typed is.Null o h = h
test_typed is.NotNull o h = h
test_typed is.True o h = of_typed ty.Boolean o h
test_typed is.NotTrue o h = of_typed ty.Boolean o h
test_typed is.False o h = of_typed ty.Boolean o h
test_typed is.NotFalse o h = of_typed ty.Boolean o h
test_typed is.Unknown o h = of_typed ty.Boolean o h
test_typed is.NotUnknown o h = of_typed ty.Boolean o h

place_typed : (b : Bool) (o : Typed) → IsTyped (if b then o else None) → IsTyped o
place_typed true o h = h
place_typed false o h = never h

in_typed : (o : Typed) (types : List Ty) → is_one_of o types ≡ true → IsTyped o
in_typed o [] h = never h
in_typed o (t ∷ []) h = of_typed t o h
in_typed o (t ∷ u ∷ types) h = never h

-- ---- values

module _ (subs : SublinkRows) (tables : ℕ → List Row) where
  abbrev pub val_of : Expr → ValueIn
  val_of = fold-Expr ValueIn Tuples SortKey ValueIn RowsIn (expr_value subs) (tree_tuples tables) order_key output_value query_rows

-- ---- what is gone

module _ (gone : Gone) (env : Env) (is_so : IsGoneIn gone env) where
  at_column : (g : Gone) → IsGoneIn g env → (rel col : ℕ) → is_gone g rel col ≡ true → cell_in (env rel) col ≡ value.Null
  at_column (Gone.relations set) so rel col h = ap (λ r. cell_in r col) (so rel (eqb-true (bit_at set rel) 1 h))
  at_column (Gone.column r c) so rel col h =
      subst₂ (λ x y. cell_in (env x) y ≡ value.Null) (eqb-true r rel (left_of (r == rel) (c == col) h)) (eqb-true c col (right_of (r == rel) (c == col) h)) so

  at_place : (g : Gone) → IsGoneIn g env → (rels : ℕ) → are_gone g rels ≡ true → any_present rels env ≡ false
  at_place (Gone.relations set) so rels h = elim (cases_Bool (any_present rels env)) [
    | inl some ↦ (
        let it = some_present rels env some in
        let member = (within_and rels set).0 (eqb-true (bit_and rels set) rels h) it.0 it.2 in
        absurd (false≢true (sym (ap is_some (so it.0 member)) ∙ it.3)))
    | inr e ↦ e
  ]
  at_place (Gone.column r c) so rels h = never h

  place_sound : (rels : ℕ) (s : Surely) (v : Value) → Sound s v → Sound (surely (are_gone gone rels || s.null) s.not_true s.not_false) (if any_present rels env then v else value.Null)
  place_sound rels s v h = by (any_present rels env) refl
    where
      by : (b : Bool) → any_present rels env ≡ b → Sound (surely (are_gone gone rels || s.null) s.not_true s.not_false) (if b then v else value.Null)
      by true e = sure_sound (are_gone gone rels || s.null) s.not_true s.not_false v (either (are_gone gone rels) s.null (v ≡ value.Null) (λ g. absurd (true≢false (sym e ∙ at_place gone is_so rels g))) h.null) h.not_true h.not_false
      by false e = sure_sound (are_gone gone rels || s.null) s.not_true s.not_false value.Null (λ g. refl) (λ g. refl) (λ g. refl)

  -- ---- expressions

  module _ (subs : SublinkRows) (tables : ℕ → List Row) where
    abbrev val : Expr → ValueIn
    val = val_of subs tables

    abbrev by_tests : Expr-F Expr JoinTree Order Output Query → Expr-F Surely (Unit {0}) (Unit {0}) (Unit {0}) (Unit {0})
    by_tests = map-Expr Expr JoinTree Order Output Query Surely (Unit {0}) (Unit {0}) (Unit {0}) (Unit {0}) (surely_of gone) (λ t. tt) (λ o. tt) (λ u. tt) (λ q. tt)

    abbrev by_types : Expr-F Expr JoinTree Order Output Query → Expr-F Typed Bool Typed TypedOutput TypedQuery
    by_types = map-Expr Expr JoinTree Order Output Query Typed Bool Typed TypedOutput TypedQuery type_of
        (fold-JoinTree Typed Bool Typed TypedOutput TypedQuery expr_type tree_typed order_typed output_typed query_typed)
        (fold-Order Typed Bool Typed TypedOutput TypedQuery expr_type tree_typed order_typed output_typed query_typed)
        (fold-Output Typed Bool Typed TypedOutput TypedQuery expr_type tree_typed order_typed output_typed query_typed)
        (fold-Query Typed Bool Typed TypedOutput TypedQuery expr_type tree_typed order_typed output_typed query_typed)

    abbrev by_values : Expr-F Expr JoinTree Order Output Query → Expr-F ValueIn Tuples SortKey ValueIn RowsIn
    by_values = map-Expr Expr JoinTree Order Output Query ValueIn Tuples SortKey ValueIn RowsIn val
        (fold-JoinTree ValueIn Tuples SortKey ValueIn RowsIn (expr_value subs) (tree_tuples tables) order_key output_value query_rows)
        (fold-Order ValueIn Tuples SortKey ValueIn RowsIn (expr_value subs) (tree_tuples tables) order_key output_value query_rows)
        (fold-Output ValueIn Tuples SortKey ValueIn RowsIn (expr_value subs) (tree_tuples tables) order_key output_value query_rows)
        (fold-Query ValueIn Tuples SortKey ValueIn RowsIn (expr_value subs) (tree_tuples tables) order_key output_value query_rows)

    abbrev Good : Expr → Type 0
    Good x = IsTyped (type_of x) → Sound (surely_of gone x) (val x env)

    abbrev E : Type 0
    E = (x : Expr) × Good x

    abbrev Level : Type 0
    Level = Expr-F E (JoinTree × Unit {0}) (Order × Unit {0}) (Output × Unit {0}) (Query × Unit {0})

    abbrev bare : Level → Expr-F Expr JoinTree Order Output Query
    bare = map-Expr E (JoinTree × Unit {0}) (Order × Unit {0}) (Output × Unit {0}) (Query × Unit {0}) Expr JoinTree Order Output Query (λ y. y.0) (λ y. y.0) (λ y. y.0) (λ y. y.0) (λ y. y.0)

    abbrev exprs : List E → List Expr
    exprs ys = map (λ (y : E). y.0) ys

    sound_each : (ys : List E) → list_all is_some (map type_of (exprs ys)) ≡ true → SoundEach (map (surely_of gone) (exprs ys)) (map (value_at env) (map val (exprs ys)))
    sound_each [] h = tt
    sound_each (y ∷ ys) h =
        (y.1 (left_of (is_some (type_of y.0)) (list_all is_some (map type_of (exprs ys))) h), sound_each ys (right_of (is_some (type_of y.0)) (list_all is_some (map type_of (exprs ys))) h))

    truths_at : (xs : List Expr) → map (truth_at env) (map val xs) ≡ truths (map (value_at env) (map val xs))
    truths_at [] = refl
    truths_at (x ∷ xs) = ap (λ ts. truth_of_value (val x env) ∷ ts) (truths_at xs)

    abbrev bare_terms : List (Bool × E) → List (Bool × Expr)
    bare_terms ts = map (λ (t : Bool × E). (t.0, t.1.0)) ts

    abbrev type_terms : List (Bool × E) → List Typed
    type_terms ts = map term_part (map (λ t. (t.0, type_of t.1)) (bare_terms ts))

    sound_terms : (ts : List (Bool × E)) → list_all is_some (type_terms ts) ≡ true → SoundEach (map term_part (map (λ t. (t.0, surely_of gone t.1)) (bare_terms ts))) (map term_part (map (term_at env) (map (λ t. (t.0, val t.1)) (bare_terms ts))))
    sound_terms [] h = tt
    sound_terms (t ∷ ts) h = (t.1.1 (left_of (is_some (type_of t.1.0)) (list_all is_some (type_terms ts)) h), sound_terms ts (right_of (is_some (type_of t.1.0)) (list_all is_some (type_terms ts)) h))

    null_sum : (ts : List (Bool × Value)) (ss : List Surely) (a : Value) → SoundEach ss (map term_part ts) → list_any is_null ss ≡ true → fold plus a (map signed ts) ≡ value.Null
    null_sum [] [] a h e = never e
    null_sum (t ∷ ts) (s ∷ ss) a h e = either s.null (list_any is_null ss) (fold plus (plus a (signed t)) (map signed ts) ≡ value.Null)
        (λ p. ap (λ b. fold plus b (map signed ts)) (ap (plus a) (signed_null t.0 t.1 (h.0.null p)) ∙ plus_null a) ∙ from_null plus (λ v. refl) plus_null (map signed ts))
        (null_sum ts ss (plus a (signed t)) h.1) e
    null_sum [] (s ∷ ss) a h e = absurd h
    null_sum (t ∷ ts) [] a h e = absurd h

    level : (y : Level) → IsTyped (expr_type (by_types (bare y))) → Sound (expr_surely gone (by_tests (bare y))) (expr_value subs (by_values (bare y)) env)
    level (Expr-F.Col rel col t nulled) h = null_sound (is_gone gone rel col) (cell_in (env rel) col) (at_column gone is_so rel col)
    level (Expr-F.Lit v t) h = literal_sound v
    level (Expr-F.Place inner rels) h = place_sound rels (surely_of gone inner.0) (val inner.0 env) (inner.1 (place_typed (nat_lt rels (2 ^ 64)) (type_of inner.0) h))
    level (Expr-F.Neg operand) h =
        let k = operand.1 (of_typed ty.Number (type_of operand.0) (when_typed (is_of ty.Number (type_of operand.0)) ty.Number h)) in
        null_sound (surely_of gone operand.0).null (negated (val operand.0 env)) (λ e. ap negated (k.null e))
    level (Expr-F.Sum terms) h =
        let ss = map term_part (map (λ t. (t.0, surely_of gone t.1)) (bare_terms terms)) in
        let vs = map (term_at env) (map (λ t. (t.0, val t.1)) (bare_terms terms)) in
        null_sound (list_any is_null ss) (fold plus (value.Num (pos 0)) (map signed vs)) (null_sum vs ss (value.Num (pos 0)) (sound_terms terms (all_of_typed ty.Number ty.Number (type_terms terms) h)))
    level (Expr-F.Product factors) h =
        let ss = map (surely_of gone) (exprs factors) in
        let vs = map (value_at env) (map val (exprs factors)) in
        null_sound (list_any is_null ss) (fold times (value.Num (pos 1)) vs) (any_null times (λ v. refl) times_null (value.Num (pos 1)) ss vs (sound_each factors (all_of_typed ty.Number ty.Number (map type_of (exprs factors)) h)))
    level (Expr-F.Concat parts) h =
        let ss = map (surely_of gone) (exprs parts) in
        let vs = map (value_at env) (map val (exprs parts)) in
        null_sound (list_any is_null ss) (fold joined (value.Text []) vs) (any_null joined (λ v. refl) joined_null (value.Text []) ss vs (sound_each parts (all_of_typed ty.Text ty.Text (map type_of (exprs parts)) h)))
    level (Expr-F.Compare op l r) h =
        let types = type_of l.0 ∷ type_of r.0 ∷ [] in
        let both = sound_each (l ∷ r ∷ []) (one_typed types (when_typed (is_some (one_type types)) ty.Boolean h)) in
        compare_sound op (surely_of gone l.0) (surely_of gone r.0) (val l.0 env) (val r.0 env) both.0 both.1.0
    level (Expr-F.Between operand low high) h =
        let types = type_of operand.0 ∷ type_of low.0 ∷ type_of high.0 ∷ [] in
        let three = sound_each (operand ∷ low ∷ high ∷ []) (one_typed types (when_typed (is_some (one_type types)) ty.Boolean h)) in
        between_sound (surely_of gone operand.0) (surely_of gone low.0) (surely_of gone high.0) (val operand.0 env) (val low.0 env) (val high.0 env) three.0 three.1.0 three.1.1.0
    level (Expr-F.InList operand []) h = never (left_of false (is_some (one_type (type_of operand.0 ∷ []))) (when_typed (false && is_some (one_type (type_of operand.0 ∷ []))) ty.Boolean h))
    level (Expr-F.InList operand (x ∷ list)) h =
        let types = type_of operand.0 ∷ type_of x.0 ∷ map type_of (exprs list) in
        let k = operand.1 (left_of (is_some (type_of operand.0)) (list_all is_some (type_of x.0 ∷ map type_of (exprs list))) (one_typed types (when_typed (is_some (one_type types)) ty.Boolean h))) in
        let vs = map (value_at env) (map val (exprs list)) in
        null_sound (surely_of gone operand.0).null (value_of_truth (among (val operand.0 env) (val x.0 env ∷ vs))) (λ e. ap value_of_truth (ap (λ v. among v (val x.0 env ∷ vs)) (k.null e) ∙ first_unknown (val x.0 env) vs))
    level (Expr-F.And members) h =
        let ss = map (surely_of gone) (exprs members) in
        let vs = map (value_at env) (map val (exprs members)) in
        subst (λ ts. Sound (surely (each is_null ss) (list_any is_not_true ss) (each is_not_false ss)) (value_of_truth (all_of ts))) (sym (truths_at (exprs members)))
        (and_sound ss vs (sound_each members (all_of_typed ty.Boolean ty.Boolean (map type_of (exprs members)) h)))
    level (Expr-F.Or members) h =
        let ss = map (surely_of gone) (exprs members) in
        let vs = map (value_at env) (map val (exprs members)) in
        subst (λ ts. Sound (surely (each is_null ss) (each is_not_true ss) (list_any is_not_false ss)) (value_of_truth (any_of ts))) (sym (truths_at (exprs members)))
        (or_sound ss vs (sound_each members (all_of_typed ty.Boolean ty.Boolean (map type_of (exprs members)) h)))
    level (Expr-F.Not operand) h = not_sound (surely_of gone operand.0) (val operand.0 env) (operand.1 (of_typed ty.Boolean (type_of operand.0) (when_typed (is_of ty.Boolean (type_of operand.0)) ty.Boolean h)))
    level (Expr-F.Test test operand) h = test_sound test (surely_of gone operand.0) (val operand.0 env) (operand.1 (test_typed test (type_of operand.0) (when_typed (can_test test (type_of operand.0)) ty.Boolean h)))
    level (Expr-F.Coalesce members) h =
        let ss = map (surely_of gone) (exprs members) in
        let vs = map (value_at env) (map val (exprs members)) in
        null_sound (list_all is_null ss) (first_value vs) (all_null ss vs (sound_each members (one_typed (map type_of (exprs members)) h)))
    level (Expr-F.Case operand arms otherwise) h = nothing_sound (expr_value subs (by_values (bare (Expr-F.Case operand arms otherwise))) env)
    level (Expr-F.Exists sub query) h = nothing_sound (expr_value subs (by_values (bare (Expr-F.Exists sub query))) env)
    level (Expr-F.InSub sub operand query) h =
        let inner = fold-Query Typed Bool Typed TypedOutput TypedQuery expr_type tree_typed order_typed output_typed query_typed query.0 in
        let k = operand.1 (in_typed (type_of operand.0) inner.outputs (right_of inner.is_typed (is_one_of (type_of operand.0) inner.outputs) (when_typed (inner.is_typed && is_one_of (type_of operand.0) inner.outputs) ty.Boolean h))) in
        let vs = map first_of (subs sub (fold-Query ValueIn Tuples SortKey ValueIn RowsIn (expr_value subs) (tree_tuples tables) order_key output_value query_rows query.0) env) in
        truth_sound false (surely_of gone operand.0).null false (among (val operand.0 env) vs) never (λ e. ap (λ v. is_true (among v vs)) (k.null e) ∙ never_among vs) never

    pub tests_sound : (x : Expr) → Good x
    tests_sound = ind-Expr Good (λ t. Unit {0}) (λ o. Unit {0}) (λ u. Unit {0}) (λ q. Unit {0})
        (λ x y e. subst (λ z. Good (roll-Expr z)) e (step y))
        (λ x y e. tt) (λ x y e. tt) (λ x y e. tt) (λ x y e. tt)
      where
        step : (y : Level) → Good (roll-Expr (bare y))
        step y h = subst₂ Sound
            (sym (fold-roll-Expr Surely (Unit {0}) (Unit {0}) (Unit {0}) (Unit {0}) (expr_surely gone) (λ t. tt) (λ o. tt) (λ o. tt) (λ q. tt) (bare y)))
            (sym (ap (λ (v : ValueIn). v env) (fold-roll-Expr ValueIn Tuples SortKey ValueIn RowsIn (expr_value subs) (tree_tuples tables) order_key output_value query_rows (bare y))))
            (level y (subst IsTyped (fold-roll-Expr Typed Bool Typed TypedOutput TypedQuery expr_type tree_typed order_typed output_typed query_typed (bare y)) h))
