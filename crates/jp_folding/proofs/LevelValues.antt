-- At one level, what folding gives has the value that the level has, where the level is typed and the cells of its columns fit.
use Rattle.std.proofs.Common.{◌≡◌, ◌∙◌, ap, sym, subst, refl, ℕ, Bool, true, false, ◌||◌, List, [], ◌∷◌, ◌++◌, map, fold, Option, Some, None, IsSome, is_some, ◌⊎◌, inl, inr, pos}
use Rattle.std.specs.Prelude.{if◌then◌else◌}
use Rattle.std.specs.List.{list_all, list_any}
use Rattle.jp_base.specs.declared.truth.Truth.{Truth}
use Rattle.jp_base.specs.declared.truth.Truth.TheVariants.{True, False, Unknown}
use Rattle.jp_base.specs.Truth.{and_of, or_of}
use Rattle.jp_base.specs.Values.{HasType}
use Rattle.jp_base.specs.declared.values.Ty.{Ty}
use Rattle.jp_base.specs.declared.values.Ty.TheVariants as ty
use Rattle.jp_base.specs.declared.values.Value.{Value}
use Rattle.jp_base.specs.declared.values.Value.TheVariants as value
use Rattle.jp_query.specs.declared.CmpOp.{CmpOp}
use Rattle.jp_query.specs.declared.Expr.{Expr, out-Expr}
use Rattle.jp_query.specs.declared.JoinTree.{JoinTree}
use Rattle.jp_query.specs.declared.Order.{Order}
use Rattle.jp_query.specs.declared.Output.{Output}
use Rattle.jp_query.specs.declared.Query.{Query}
use Rattle.jp_query.specs.declared.Expr.TheOpen.{Expr-F}
use Rattle.jp_query.specs.declared.Expr.TheViews.{roll-Expr, roll-out-Expr}
use Rattle.jp_query.specs.declared.Expr.TheFolds.{map-Expr, fold-roll-Expr}
use Rattle.jp_query.specs.Layers.{ExprLayer}
use Rattle.jp_query.specs.Operators.{value_of_truth, truth_of_value, all_of, any_of, compared, negated, plus, times, joined, signed, sum_of, product_of, concat_of}
use Rattle.jp_query.specs.Meaning.{Row, Env, ValueIn, Tuples, SortKey, RowsIn, in_place, given, no_tables, no_outer_rows, value_at, term_at, truth_at, expr_value, tree_tuples, order_key, output_value, query_rows, value_of, tuples_of, meaning, value_given}
use Rattle.jp_query.specs.Parts.{all_in, parts, term_part, node_column}
use Rattle.jp_query.specs.Scopes.{Scope, bound_of}
use Rattle.jp_query.specs.Typing.{are_all, expr_type, type_of}
use Rattle.jp_query.specs.Fitting.{own_columns}
use Rattle.jp_query.proofs.FoldLaws as laws
use Rattle.jp_induction.proofs.Between.{OwnSame, value_same}
use Rattle.jp_induction.proofs.Meanings.{key_of, output_of, expr_level, at_expr}
use Rattle.jp_laws.proofs.EachPart.{Each}
use Rattle.jp_laws.proofs.GatheredLaws.{when_some}
use Rattle.jp_laws.proofs.ValueLaws.{and_left, and_right}
use Rattle.jp_laws.proofs.ValuesFit.{IsSound, value_fits}
use Rattle.jp_folding.specs.Folding as fold
use Rattle.jp_folding.proofs.OwnKept.{Have, and_members_have, or_members_have, all_have}
use Rattle.jp_folding.proofs.TypeLaws.{typed_level, AreBooleans, booleans, all_typed, and_members_typed, or_members_typed}

-- ---- three-valued AND and OR

and_assoc : (a b c : Truth) → and_of (and_of a b) c ≡ and_of a (and_of b c)
and_assoc True True True = refl
and_assoc True True False = refl
and_assoc True True Unknown = refl
and_assoc True False True = refl
and_assoc True False False = refl
and_assoc True False Unknown = refl
and_assoc True Unknown True = refl
and_assoc True Unknown False = refl
and_assoc True Unknown Unknown = refl
and_assoc False True True = refl
and_assoc False True False = refl
and_assoc False True Unknown = refl
and_assoc False False True = refl
and_assoc False False False = refl
and_assoc False False Unknown = refl
and_assoc False Unknown True = refl
and_assoc False Unknown False = refl
and_assoc False Unknown Unknown = refl
and_assoc Unknown True True = refl
and_assoc Unknown True False = refl
and_assoc Unknown True Unknown = refl
and_assoc Unknown False True = refl
and_assoc Unknown False False = refl
and_assoc Unknown False Unknown = refl
and_assoc Unknown Unknown True = refl
and_assoc Unknown Unknown False = refl
and_assoc Unknown Unknown Unknown = refl

or_assoc : (a b c : Truth) → or_of (or_of a b) c ≡ or_of a (or_of b c)
or_assoc True True True = refl
or_assoc True True False = refl
or_assoc True True Unknown = refl
or_assoc True False True = refl
or_assoc True False False = refl
or_assoc True False Unknown = refl
or_assoc True Unknown True = refl
or_assoc True Unknown False = refl
or_assoc True Unknown Unknown = refl
or_assoc False True True = refl
or_assoc False True False = refl
or_assoc False True Unknown = refl
or_assoc False False True = refl
or_assoc False False False = refl
or_assoc False False Unknown = refl
or_assoc False Unknown True = refl
or_assoc False Unknown False = refl
or_assoc False Unknown Unknown = refl
or_assoc Unknown True True = refl
or_assoc Unknown True False = refl
or_assoc Unknown True Unknown = refl
or_assoc Unknown False True = refl
or_assoc Unknown False False = refl
or_assoc Unknown False Unknown = refl
or_assoc Unknown Unknown True = refl
or_assoc Unknown Unknown False = refl
or_assoc Unknown Unknown Unknown = refl

and_first : (a : Truth) → and_of True a ≡ a
and_first True = refl
and_first False = refl
and_first Unknown = refl

and_last : (a : Truth) → and_of a True ≡ a
and_last True = refl
and_last False = refl
and_last Unknown = refl

and_stops : (a : Truth) → and_of False a ≡ False
and_stops True = refl
and_stops False = refl
and_stops Unknown = refl

and_stopped : (a : Truth) → and_of a False ≡ False
and_stopped True = refl
and_stopped False = refl
and_stopped Unknown = refl

or_first : (a : Truth) → or_of False a ≡ a
or_first True = refl
or_first False = refl
or_first Unknown = refl

or_last : (a : Truth) → or_of a False ≡ a
or_last True = refl
or_last False = refl
or_last Unknown = refl

or_stops : (a : Truth) → or_of True a ≡ True
or_stops True = refl
or_stops False = refl
or_stops Unknown = refl

or_stopped : (a : Truth) → or_of a True ≡ True
or_stopped True = refl
or_stopped False = refl
or_stopped Unknown = refl

back : (t : Truth) → truth_of_value (value_of_truth t) ≡ t
back True = refl
back False = refl
back Unknown = refl

-- a boolean or NULL is what its truth gives
forth : (v : Value) → HasType ty.Boolean v → value_of_truth (truth_of_value v) ≡ v
forth value.Null h = refl
forth (value.Bool true) h = refl
forth (value.Bool false) h = refl
forth (value.Num n) h = absurd h
forth (value.Text s) h = absurd h

-- an operation of truths over a list: its first member goes to the front, and two lists are put together
module _ (g : Truth → Truth → Truth) (unit : Truth) (assoc : (a b c : Truth) → g (g a b) c ≡ g a (g b c)) (first : (a : Truth) → g unit a ≡ a) (last : (a : Truth) → g a unit ≡ a) where
  start : (a : Truth) (ts : List Truth) → fold g a ts ≡ g a (fold g unit ts)
  start a [] = sym (last a)
  start a (t ∷ ts) = start (g a t) ts ∙ assoc a t (fold g unit ts) ∙ ap (g a) (sym (start t ts) ∙ ap (λ u. fold g u ts) (sym (first t)))

  one_more : (t : Truth) (ts : List Truth) → fold g unit (t ∷ ts) ≡ g t (fold g unit ts)
  one_more t ts = ap (λ u. fold g u ts) (first t) ∙ start t ts

  module _ {X : Type 0} (f : X → Truth) where
    two_lists : (xs ys : List X) → fold g unit (map f (xs ++ ys)) ≡ g (fold g unit (map f xs)) (fold g unit (map f ys))
    two_lists [] ys = sym (first (fold g unit (map f ys)))
    two_lists (x ∷ xs) ys = one_more (f x) (map f (xs ++ ys)) ∙ ap (g (f x)) (two_lists xs ys) ∙ sym (assoc (f x) (fold g unit (map f xs)) (fold g unit (map f ys))) ∙ ap (λ u. g u (fold g unit (map f ys))) (sym (one_more (f x) (map f xs)))

    -- a list whose members are replaced by lists of the same truth
    spliced : (parts_of : X → List X) → ((x : X) → fold g unit (map f (parts_of x)) ≡ f x) → (xs : List X) → fold g unit (map f (all_in (map parts_of xs))) ≡ fold g unit (map f xs)
    spliced parts_of same [] = refl
    spliced parts_of same (x ∷ xs) = two_lists (parts_of x) (all_in (map parts_of xs)) ∙ ap (λ u. g u (fold g unit (map f (all_in (map parts_of xs))))) (same x) ∙ ap (g (f x)) (spliced parts_of same xs) ∙ sym (one_more (f x) (map f xs))

    -- a member that settles it
    settled : (zero : Truth) → ((a : Truth) → g zero a ≡ zero) → ((a : Truth) → g a zero ≡ zero) → (test : X → Bool) → ((x : X) → test x ≡ true → f x ≡ zero) → (xs : List X) → list_any test xs ≡ true → fold g unit (map f xs) ≡ zero
    settled zero stops stopped test good [] h = cc
    settled zero stops stopped test good (x ∷ xs) h = by (settled zero stops stopped test good xs) (test x) refl
      where
        by : (list_any test xs ≡ true → fold g unit (map f xs) ≡ zero) → (b : Bool) → test x ≡ b → fold g unit (map f (x ∷ xs)) ≡ zero
        by rest true e = one_more (f x) (map f xs) ∙ ap (λ u. g u (fold g unit (map f xs))) (good x e) ∙ stops (fold g unit (map f xs))
        by rest false e = one_more (f x) (map f xs) ∙ ap (g (f x)) (rest (ap (λ b. b || list_any test xs) (sym e) ∙ h)) ∙ stopped (f x)

-- ---- operators with a NULL operand

module _ (g : Value → Value → Value) (left : (v : Value) → g value.Null v ≡ value.Null) (right : (v : Value) → g v value.Null ≡ value.Null) where
  null_stays : (vs : List Value) → fold g value.Null vs ≡ value.Null
  null_stays [] = refl
  null_stays (v ∷ vs) = ap (λ u. fold g u vs) (left v) ∙ null_stays vs

  some_null : {X : Type 0} (f : X → Value) (test : X → Bool) → ((x : X) → test x ≡ true → f x ≡ value.Null) → (a : Value) (xs : List X) → list_any test xs ≡ true → fold g a (map f xs) ≡ value.Null
  some_null f test good a [] h = cc
  some_null f test good a (x ∷ xs) h = by (some_null f test good (g a (f x)) xs) (test x) refl
    where
      by : (list_any test xs ≡ true → fold g (g a (f x)) (map f xs) ≡ value.Null) → (b : Bool) → test x ≡ b → fold g (g a (f x)) (map f xs) ≡ value.Null
      by rest true e = ap (λ v. fold g (g a v) (map f xs)) (good x e) ∙ ap (λ u. fold g u (map f xs)) (right a) ∙ null_stays (map f xs)
      by rest false e = rest (ap (λ b. b || list_any test xs) (sym e) ∙ h)

plus_left : (v : Value) → plus value.Null v ≡ value.Null
plus_left v = refl

plus_right : (v : Value) → plus v value.Null ≡ value.Null
plus_right value.Null = refl
plus_right (value.Num n) = refl
plus_right (value.Bool b) = refl
plus_right (value.Text s) = refl

times_left : (v : Value) → times value.Null v ≡ value.Null
times_left v = refl

times_right : (v : Value) → times v value.Null ≡ value.Null
times_right value.Null = refl
times_right (value.Num n) = refl
times_right (value.Bool b) = refl
times_right (value.Text s) = refl

joined_left : (v : Value) → joined value.Null v ≡ value.Null
joined_left v = refl

joined_right : (v : Value) → joined v value.Null ≡ value.Null
joined_right value.Null = refl
joined_right (value.Num n) = refl
joined_right (value.Bool b) = refl
joined_right (value.Text s) = refl

compared_right : (op : CmpOp) (v : Value) → compared op v value.Null ≡ Unknown
compared_right op value.Null = refl
compared_right op (value.Num n) = refl
compared_right op (value.Bool b) = refl
compared_right op (value.Text s) = refl

signed_null : (b : Bool) → signed (b, value.Null) ≡ value.Null
signed_null true = refl
signed_null false = refl

maps : {A B C : Type 0} (g : B → C) (f : A → B) (h : A → C) → ((x : A) → g (f x) ≡ h x) → (xs : List A) → map g (map f xs) ≡ map h xs
maps g f h e [] = refl
maps g f h e (x ∷ xs) = λ i. e x i ∷ maps g f h e xs i

any_mapped : {A B : Type 0} (test : B → Bool) (f : A → B) (xs : List A) → list_any test (map f xs) ≡ list_any (λ x. test (f x)) xs
any_mapped test f [] = refl
any_mapped test f (x ∷ xs) = ap (λ b. test (f x) || b) (any_mapped test f xs)

-- ---- literals

null_value : (o : Option Value) → fold.is_null_of o ≡ true → o ≡ Some value.Null
null_value (Some value.Null) h = refl
null_value (Some (value.Num n)) h = cc
null_value (Some (value.Bool b)) h = cc
null_value (Some (value.Text s)) h = cc
null_value None h = cc

true_value : (o : Option Value) → fold.is_true_of o ≡ true → o ≡ Some (value.Bool true)
true_value (Some value.Null) h = cc
true_value (Some (value.Num n)) h = cc
true_value (Some (value.Bool b)) h = ap (λ c. Some (value.Bool c)) h
true_value (Some (value.Text s)) h = cc
true_value None h = cc

false_value : (o : Option Value) → fold.is_false_of o ≡ true → o ≡ Some (value.Bool false)
false_value (Some value.Null) h = cc
false_value (Some (value.Num n)) h = cc
false_value (Some (value.Bool true)) h = cc
false_value (Some (value.Bool false)) h = refl
false_value (Some (value.Text s)) h = cc
false_value None h = cc

module _ (tables : ℕ → List Row) (env : Env) where
  abbrev pub val : Expr → Value
  val e = value_of tables e env

  abbrev pub truth : Expr → Truth
  truth e = truth_of_value (val e)

  at_level : (x : ExprLayer) → val (roll-Expr x) ≡ expr_value in_place (expr_level tables x) env
  at_level x = ap (λ (v : ValueIn). v env) (at_expr tables x)

  literal_at : (x : ExprLayer) (v : Value) → fold.literal_at x ≡ Some v → expr_value in_place (expr_level tables x) env ≡ v
  literal_at (Expr-F.Lit w t) v h = cc
  literal_at x v h = cc

  literal_value : (e : Expr) (v : Value) → fold.literal_of e ≡ Some v → val e ≡ v
  literal_value e v h = ap val (sym (roll-out-Expr e)) ∙ at_level (out-Expr e) ∙ literal_at (out-Expr e) v h

  null_literal : (e : Expr) → fold.is_null e ≡ true → val e ≡ value.Null
  null_literal e h = literal_value e value.Null (null_value (fold.literal_of e) h)

  true_literal : (e : Expr) → fold.is_true e ≡ true → truth e ≡ True
  true_literal e h = ap truth_of_value (literal_value e (value.Bool true) (true_value (fold.literal_of e) h))

  false_literal : (e : Expr) → fold.is_false e ≡ true → truth e ≡ False
  false_literal e h = ap truth_of_value (literal_value e (value.Bool false) (false_value (fold.literal_of e) h))

  -- ---- what is computed

  some_literal : (o : Option Value) → is_some o ≡ true → (v : Value) × (o ≡ Some v)
  some_literal (Some v) h = (v, refl)
  some_literal None h = cc

  given_at : (x : ExprLayer) (v : Value) → fold.literal_at x ≡ Some v → value_given no_tables (roll-Expr x) no_outer_rows ≡ v
  given_at (Expr-F.Lit w t) v h = ap (λ (u : ValueIn). u no_outer_rows) (fold-roll-Expr ValueIn Tuples SortKey ValueIn RowsIn (expr_value (given no_tables)) (tree_tuples no_tables) order_key output_value query_rows (Expr-F.Lit w t)) ∙ (cc)
  given_at x v h = cc

  -- a literal has one value everywhere
  literal_same : (e : Expr) → fold.is_literal e ≡ true → value_given no_tables e no_outer_rows ≡ val e
  literal_same e h = let some = some_literal (fold.literal_of e) h in
      ap (λ d. value_given no_tables d no_outer_rows) (sym (roll-out-Expr e)) ∙ given_at (out-Expr e) some.0 some.1 ∙ sym (literal_value e some.0 some.1)

  literals_same : (es : List Expr) → list_all fold.is_literal es ≡ true → Each (λ e. value_given no_tables e no_outer_rows ≡ val e) es
  literals_same [] h = tt
  literals_same (e ∷ es) h = (literal_same e (and_left (fold.is_literal e) (list_all fold.is_literal es) h), literals_same es (and_right (fold.is_literal e) (list_all fold.is_literal es) h))

  abbrev Own : ExprLayer → Type 0
  Own = OwnSame (value_given no_tables) (value_of tables)
      (laws.of_tree ValueIn Tuples SortKey ValueIn RowsIn (expr_value (given no_tables)) (tree_tuples no_tables) order_key output_value query_rows) (tuples_of tables)
      (laws.of_order ValueIn Tuples SortKey ValueIn RowsIn (expr_value (given no_tables)) (tree_tuples no_tables) order_key output_value query_rows) (key_of tables)
      (laws.of_output ValueIn Tuples SortKey ValueIn RowsIn (expr_value (given no_tables)) (tree_tuples no_tables) order_key output_value query_rows) (output_of tables)
      (laws.of_query ValueIn Tuples SortKey ValueIn RowsIn (expr_value (given no_tables)) (tree_tuples no_tables) order_key output_value query_rows) (meaning tables)
      (given no_tables) in_place no_outer_rows env

  computed_value : (x : ExprLayer) → Own x → fold.has_literals_alone x ≡ true → val (fold.computed x) ≡ expr_value in_place (expr_level tables x) env
  computed_value x own alone =
      at_level (Expr-F.Lit (value_given no_tables (roll-Expr x) no_outer_rows) (fold.type_at x))
      ∙ ap (λ (u : ValueIn). u no_outer_rows) (fold-roll-Expr ValueIn Tuples SortKey ValueIn RowsIn (expr_value (given no_tables)) (tree_tuples no_tables) order_key output_value query_rows x)
      ∙ value_same (value_given no_tables) (value_of tables)
      (laws.of_tree ValueIn Tuples SortKey ValueIn RowsIn (expr_value (given no_tables)) (tree_tuples no_tables) order_key output_value query_rows) (tuples_of tables)
      (laws.of_order ValueIn Tuples SortKey ValueIn RowsIn (expr_value (given no_tables)) (tree_tuples no_tables) order_key output_value query_rows) (key_of tables)
      (laws.of_output ValueIn Tuples SortKey ValueIn RowsIn (expr_value (given no_tables)) (tree_tuples no_tables) order_key output_value query_rows) (output_of tables)
      (laws.of_query ValueIn Tuples SortKey ValueIn RowsIn (expr_value (given no_tables)) (tree_tuples no_tables) order_key output_value query_rows) (meaning tables)
      (given no_tables) in_place no_outer_rows env x (literals_same (parts x) alone) own

  abbrev pub Keeps : ExprLayer → Expr → Type 0
  Keeps x e = val e ≡ expr_value in_place (expr_level tables x) env

  if_computed : (x : ExprLayer) (e : Expr) → Own x → Keeps x e → Keeps x (fold.if_computed x e)
  if_computed x e own h = by (fold.has_literals_alone x) refl
    where
      by : (b : Bool) → fold.has_literals_alone x ≡ b → Keeps x (if b then fold.computed x else e)
      by true alone = computed_value x own alone
      by false some = h

  -- ---- what is NULL

  null_at : (x : ExprLayer) → (list_any fold.is_null (parts x) ≡ true → expr_value in_place (expr_level tables x) env ≡ value.Null) → Keeps x (fold.if_null x)
  null_at x h = by (list_any fold.is_null (parts x)) refl
    where
      by : (b : Bool) → list_any fold.is_null (parts x) ≡ b → Keeps x (if b then fold.literal value.Null (fold.type_at x) else roll-Expr x)
      by true e = at_level (Expr-F.Lit value.Null (fold.type_at x)) ∙ sym (h e)
      by false e = at_level x

  or_cases : (a b : Bool) → (a || (b || false)) ≡ true → (a ≡ true) ⊎ (b ≡ true)
  or_cases true b h = inl refl
  or_cases false true h = inr refl
  or_cases false false h = cc

  one_case : (a : Bool) → (a || false) ≡ true → a ≡ true
  one_case true h = refl
  one_case false h = cc

  neg_null : (operand : Expr) → list_any fold.is_null (operand ∷ []) ≡ true → negated (val operand) ≡ value.Null
  neg_null operand h = ap negated (null_literal operand (one_case (fold.is_null operand) h))

  sum_null : (terms : List (Bool × Expr)) → list_any fold.is_null (map term_part terms) ≡ true → sum_of (map (term_at env) (map (λ t. (t.0, value_of tables t.1)) terms)) ≡ value.Null
  sum_null terms h =
      ap (λ ts. fold plus (value.Num (pos 0)) (map signed ts)) (maps (term_at env) (λ t. (t.0, value_of tables t.1)) (λ t. (t.0, val t.1)) (λ t. refl) terms)
      ∙ ap (fold plus (value.Num (pos 0))) (maps signed (λ t. (t.0, val t.1)) (λ t. signed (t.0, val t.1)) (λ t. refl) terms)
      ∙ some_null plus plus_left plus_right (λ t. signed (t.0, val t.1)) (λ t. fold.is_null t.1) (λ t e. ap (λ v. signed (t.0, v)) (null_literal t.1 e) ∙ signed_null t.0) (value.Num (pos 0)) terms (sym (any_mapped fold.is_null term_part terms) ∙ h)

  product_null : (es : List Expr) → list_any fold.is_null es ≡ true → product_of (map (value_at env) (map (value_of tables) es)) ≡ value.Null
  product_null es h = ap product_of (maps (value_at env) (value_of tables) val (λ e. refl) es) ∙ some_null times times_left times_right val fold.is_null null_literal (value.Num (pos 1)) es h

  concat_null : (es : List Expr) → list_any fold.is_null es ≡ true → concat_of (map (value_at env) (map (value_of tables) es)) ≡ value.Null
  concat_null es h = ap concat_of (maps (value_at env) (value_of tables) val (λ e. refl) es) ∙ some_null joined joined_left joined_right val fold.is_null null_literal (value.Text []) es h

  compare_null : (op : CmpOp) (left right : Expr) → list_any fold.is_null (left ∷ right ∷ []) ≡ true → value_of_truth (compared op (val left) (val right)) ≡ value.Null
  compare_null op left right h = elim (or_cases (fold.is_null left) (fold.is_null right) h) [
    | inl e ↦ ap (λ v. value_of_truth (compared op v (val right))) (null_literal left e)
    | inr e ↦ ap (λ v. value_of_truth (compared op (val left) v)) (null_literal right e) ∙ ap value_of_truth (compared_right op (val left))
  ]

  -- ---- AND and OR

  truths : (es : List Expr) → map (truth_at env) (map (value_of tables) es) ≡ map truth es
  truths = maps (truth_at env) (value_of tables) truth (λ e. refl)

  and_level : (es : List Expr) → expr_value in_place (expr_level tables (Expr-F.And es)) env ≡ value_of_truth (all_of (map truth es))
  and_level es = ap (λ ts. value_of_truth (all_of ts)) (truths es)

  or_level : (es : List Expr) → expr_value in_place (expr_level tables (Expr-F.Or es)) env ≡ value_of_truth (any_of (map truth es))
  or_level es = ap (λ ts. value_of_truth (any_of ts)) (truths es)

  and_at : (x : ExprLayer) (e : Expr) → val e ≡ expr_value in_place (expr_level tables x) env → all_of (map truth (fold.and_at x e)) ≡ truth e
  and_at (Expr-F.And es) e h = sym (ap truth_of_value (h ∙ and_level es) ∙ back (all_of (map truth es)))
  and_at (Expr-F.Lit (value.Bool true) t) e h = sym (ap truth_of_value h)
  and_at x e h = and_first (truth e)

  pub and_members_same : (e : Expr) → all_of (map truth (fold.and_members e)) ≡ truth e
  and_members_same e = and_at (out-Expr e) e (ap val (sym (roll-out-Expr e)) ∙ at_level (out-Expr e))

  or_at : (x : ExprLayer) (e : Expr) → val e ≡ expr_value in_place (expr_level tables x) env → any_of (map truth (fold.or_at x e)) ≡ truth e
  or_at (Expr-F.Or es) e h = sym (ap truth_of_value (h ∙ or_level es) ∙ back (any_of (map truth es)))
  or_at (Expr-F.Lit (value.Bool false) t) e h = sym (ap truth_of_value h)
  or_at x e h = or_first (truth e)

  or_members_same : (e : Expr) → any_of (map truth (fold.or_members e)) ≡ truth e
  or_members_same e = or_at (out-Expr e) e (ap val (sym (roll-out-Expr e)) ∙ at_level (out-Expr e))

  -- the truth of a folded AND, whatever its members are
  one_truth : (es : List Expr) → truth (fold.one_and es) ≡ all_of (map truth es)
  one_truth [] = ap truth_of_value (at_level (Expr-F.Lit (value.Bool true) ty.Boolean))
  one_truth (e ∷ []) = sym (and_first (truth e))
  one_truth (e ∷ d ∷ es) = ap truth_of_value (at_level (Expr-F.And (e ∷ d ∷ es)) ∙ and_level (e ∷ d ∷ es)) ∙ back (all_of (map truth (e ∷ d ∷ es)))

  shorter_truth : (es : List Expr) → truth (fold.folded_and es) ≡ all_of (map truth es)
  shorter_truth es = by (list_any fold.is_false es) refl
    where
      by : (b : Bool) → list_any fold.is_false es ≡ b → truth (if b then fold.truth_literal false else fold.one_and (all_in (map fold.and_members es))) ≡ all_of (map truth es)
      by true e = ap truth_of_value (at_level (Expr-F.Lit (value.Bool false) ty.Boolean)) ∙ sym (settled and_of True and_assoc and_first and_last truth False and_stops and_stopped fold.is_false false_literal es e)
      by false e = one_truth (all_in (map fold.and_members es)) ∙ spliced and_of True and_assoc and_first and_last truth fold.and_members and_members_same es

  pub and_truth : (es : List Expr) → truth (fold.expr_folded (Expr-F.And es)) ≡ all_of (map truth es)
  and_truth es = by (fold.has_literals_alone (Expr-F.And es)) refl
    where
      by : (b : Bool) → fold.has_literals_alone (Expr-F.And es) ≡ b → truth (if b then fold.computed (Expr-F.And es) else fold.folded_and es) ≡ all_of (map truth es)
      by true alone = ap truth_of_value (computed_value (Expr-F.And es) tt alone ∙ and_level es) ∙ back (all_of (map truth es))
      by false some = shorter_truth es

  module _ (scope : Scope) where
    abbrev pub Sound : Expr → Type 0
    Sound = Have (IsSound scope env)

    boolean_value : (e : Expr) → type_of e ≡ Some ty.Boolean → Sound e → HasType ty.Boolean (val e)
    boolean_value e typed sound = (value_fits [] in_place tables scope env e sound ty.Boolean typed).typed

    one_and : (es : List Expr) → AreBooleans es → Each Sound es → val (fold.one_and es) ≡ value_of_truth (all_of (map truth es))
    one_and [] typed sound = at_level (Expr-F.Lit (value.Bool true) ty.Boolean)
    one_and (e ∷ []) typed sound = sym (forth (val e) (boolean_value e typed.0 sound.0)) ∙ ap value_of_truth (sym (and_first (truth e)))
    one_and (e ∷ d ∷ es) typed sound = at_level (Expr-F.And (e ∷ d ∷ es)) ∙ and_level (e ∷ d ∷ es)

    one_or : (es : List Expr) → AreBooleans es → Each Sound es → val (fold.one_or es) ≡ value_of_truth (any_of (map truth es))
    one_or [] typed sound = at_level (Expr-F.Lit (value.Bool false) ty.Boolean)
    one_or (e ∷ []) typed sound = sym (forth (val e) (boolean_value e typed.0 sound.0)) ∙ ap value_of_truth (sym (or_first (truth e)))
    one_or (e ∷ d ∷ es) typed sound = at_level (Expr-F.Or (e ∷ d ∷ es)) ∙ or_level (e ∷ d ∷ es)

    folded_and : (es : List Expr) → AreBooleans es → Each Sound es → val (fold.folded_and es) ≡ value_of_truth (all_of (map truth es))
    folded_and es typed sound = by (list_any fold.is_false es) refl
      where
        by : (b : Bool) → list_any fold.is_false es ≡ b → val (if b then fold.truth_literal false else fold.one_and (all_in (map fold.and_members es))) ≡ value_of_truth (all_of (map truth es))
        by true e = at_level (Expr-F.Lit (value.Bool false) ty.Boolean) ∙ sym (ap value_of_truth (settled and_of True and_assoc and_first and_last truth False and_stops and_stopped fold.is_false false_literal es e))
        by false e = one_and (all_in (map fold.and_members es)) (all_typed fold.and_members and_members_typed es typed) (all_have (IsSound scope env) fold.and_members (and_members_have (IsSound scope env)) es sound)
            ∙ ap value_of_truth (spliced and_of True and_assoc and_first and_last truth fold.and_members and_members_same es)

    folded_or : (es : List Expr) → AreBooleans es → Each Sound es → val (fold.folded_or es) ≡ value_of_truth (any_of (map truth es))
    folded_or es typed sound = by (list_any fold.is_true es) refl
      where
        by : (b : Bool) → list_any fold.is_true es ≡ b → val (if b then fold.truth_literal true else fold.one_or (all_in (map fold.or_members es))) ≡ value_of_truth (any_of (map truth es))
        by true e = at_level (Expr-F.Lit (value.Bool true) ty.Boolean) ∙ sym (ap value_of_truth (settled or_of False or_assoc or_first or_last truth True or_stops or_stopped fold.is_true true_literal es e))
        by false e = one_or (all_in (map fold.or_members es)) (all_typed fold.or_members or_members_typed es typed) (all_have (IsSound scope env) fold.or_members (or_members_have (IsSound scope env)) es sound)
            ∙ ap value_of_truth (spliced or_of False or_assoc or_first or_last truth fold.or_members or_members_same es)

    -- ---- the level

    pub level_kept : (x : ExprLayer) → IsSome (expr_type (typed_level x)) → Each Sound (parts x) → Keeps x (fold.expr_folded x)
    level_kept (Expr-F.Neg operand) typed sound = if_computed (Expr-F.Neg operand) (fold.if_null (Expr-F.Neg operand)) tt (null_at (Expr-F.Neg operand) (neg_null operand))
    level_kept (Expr-F.Sum terms) typed sound = if_computed (Expr-F.Sum terms) (fold.if_null (Expr-F.Sum terms)) tt (null_at (Expr-F.Sum terms) (sum_null terms))
    level_kept (Expr-F.Product factors) typed sound = if_computed (Expr-F.Product factors) (fold.if_null (Expr-F.Product factors)) tt (null_at (Expr-F.Product factors) (product_null factors))
    level_kept (Expr-F.Concat pieces) typed sound = if_computed (Expr-F.Concat pieces) (fold.if_null (Expr-F.Concat pieces)) tt (null_at (Expr-F.Concat pieces) (concat_null pieces))
    level_kept (Expr-F.Compare op left right) typed sound = if_computed (Expr-F.Compare op left right) (fold.if_null (Expr-F.Compare op left right)) tt (null_at (Expr-F.Compare op left right) (compare_null op left right))
    level_kept (Expr-F.And es) typed sound = if_computed (Expr-F.And es) (fold.folded_and es) tt (folded_and es (booleans es (when_some (are_all ty.Boolean (map type_of es)) ty.Boolean typed)) sound ∙ sym (and_level es))
    level_kept (Expr-F.Or es) typed sound = if_computed (Expr-F.Or es) (fold.folded_or es) tt (folded_or es (booleans es (when_some (are_all ty.Boolean (map type_of es)) ty.Boolean typed)) sound ∙ sym (or_level es))
    level_kept (Expr-F.Col rel col t nulled) typed sound = at_level (Expr-F.Col rel col t nulled)
    level_kept (Expr-F.Lit v t) typed sound = at_level (Expr-F.Lit v t)
    level_kept (Expr-F.Place inner rels) typed sound = at_level (Expr-F.Place inner rels)
    level_kept (Expr-F.Exists sub query) typed sound = at_level (Expr-F.Exists sub query)
    level_kept (Expr-F.InSub sub operand query) typed sound = at_level (Expr-F.InSub sub operand query)
    level_kept x typed sound = if_computed x (roll-Expr x) tt (at_level x)
