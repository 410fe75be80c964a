-- A typed expression has a value that is NULL or of its type, and a number within its bound, where the cells of its
-- columns are so. Its sublinks don't matter: EXISTS and IN are booleans whatever their rows.
use Rattle.std.proofs.Common.{◌≡◌, ap, sym, subst, refl, ℕ, zero, suc, ◌+◌, ◌*◌, ◌-◌, ◌≤◌, max, ◌^◌, ℤ, pos, negsuc, ◌+ℤ◌, ◌*ℤ◌, neg_ℤ, nat_abs, Bool, true, false, ◌&&◌, List, [], ◌∷◌, ◌++◌, map, fold, sum, Option, Some, None, nat_lt, is_some, cond, ltb, arith}
use Rattle.std.proofs.lemmas.Nat.{mul-le}
use Rattle.std.specs.Prelude.{if◌then◌else◌}
use Rattle.std.specs.List.{list_all}
use Rattle.std.specs.Option.{option_map}
use Rattle.jp_base.specs.declared.truth.Truth.{Truth}
use Rattle.jp_base.specs.declared.truth.Truth.TheVariants.{True, False, Unknown}
use Rattle.jp_base.specs.declared.values.Ty.{Ty}
use Rattle.jp_base.specs.declared.values.Ty.TheVariants as ty
use Rattle.jp_base.specs.declared.values.Value.{Value}
use Rattle.jp_base.specs.declared.values.Value.TheVariants as value
use Rattle.jp_base.specs.Truth.{not_of}
use Rattle.jp_base.specs.Values.{is_null}
use Rattle.jp_query.specs.declared.Expr.TheShapes.{former-Expr-Case-0}
use Rattle.jp_query.specs.declared.Expr.TheViews.{roll-Expr}
use Rattle.jp_query.specs.declared.Expr.TheFolds.{fold-Expr, fold-JoinTree, fold-Order, fold-Output, fold-Query, map-Expr, ind-Expr, fold-roll-Expr}
use Rattle.jp_query.specs.declared.Expr.{Expr}
use Rattle.jp_query.specs.declared.JoinTree.{JoinTree}
use Rattle.jp_query.specs.declared.Order.{Order}
use Rattle.jp_query.specs.declared.Output.{Output}
use Rattle.jp_query.specs.declared.Query.{Query}
use Rattle.jp_query.specs.declared.Expr.TheOpen.{Expr-F}
use Rattle.jp_query.specs.Operators.{value_of_truth, all_of, any_of, compared, between, among, passes, negated, plus, times, joined, signed, product_of, concat_of, first_value, is_chosen, first_arm, value_or_null}
use Rattle.jp_query.specs.Meaning.{Row, Env, ValueIn, Tuples, SortKey, RowsIn, SublinkRows, cell_in, any_present, value_at, term_at, arm_at, truth_at, first_of, is_row, expr_value, tree_tuples, order_key, output_value, query_rows}
use Rattle.jp_query.specs.Parts.{term_part, arm_parts, option_part, parts, ColumnRef, node_column}
use Rattle.jp_query.specs.Scopes.{Schema, Scope, BoundIn, EntriesIn, ColumnIn, ColumnsIn, visible_column, bound_of_column, magnitude, product, in_scope, arm_result, expr_bound, tree_entries, order_bound, output_column, query_columns, bound_of}
use Rattle.jp_query.specs.Tables.{IsCellOf}
use Rattle.jp_query.specs.Typing.{same_type, can_test, is_one_of, Typed, TypedOutput, TypedQuery, is_of, typed_if, is_listed, are_all, one_type, is_literal, are_whens, arm_when, expr_type, tree_typed, order_typed, output_typed, query_typed, type_of}
use Rattle.jp_query.specs.Fitting.{own_columns}
use Rattle.jp_laws.proofs.ValueLaws.{and_left, and_right}
use Rattle.jp_laws.proofs.EachPart.{Each, each_left, each_right, parts_map}
use Rattle.jp_laws.proofs.OwnColumns.{own_has}

-- ---- types

abbrev pub Fits : Ty → ℕ → Value → Type 0
Fits t bound v = IsCellOf (record { type = t; bound = bound }) v

some_of : Ty → Option Ty → Ty
some_of d (Some t) = t
some_of d None = d

pub unsome : (u t : Ty) → Some u ≡ Some t → u ≡ t
unfolding some_of
unsome u t h = ap (some_of u) h

pub typed_when : (b : Bool) (u t : Ty) → typed_if b u ≡ Some t → (b ≡ true) × (u ≡ t)
typed_when true u t h = (refl, unsome u t h)
typed_when false u t h = cc

pub type_when : (b : Bool) (o : Typed) (t : Ty) → (if b then o else None) ≡ Some t → o ≡ Some t
type_when true o t h = h
type_when false o t h = cc

pub same : (t u : Ty) → same_type t u ≡ true → t ≡ u
same ty.Number ty.Number h = refl
same ty.Number ty.Boolean h = cc
same ty.Number ty.Text h = cc
same ty.Boolean ty.Number h = cc
same ty.Boolean ty.Boolean h = refl
same ty.Boolean ty.Text h = cc
same ty.Text ty.Number h = cc
same ty.Text ty.Boolean h = cc
same ty.Text ty.Text h = refl

pub is_of_some : (t : Ty) (o : Typed) → is_of t o ≡ true → o ≡ Some t
is_of_some t (Some u) h = ap Some (sym (same t u h))
is_of_some t None h = cc

all_of_type : (t : Ty) (types : List Typed) → list_all (is_of t) types ≡ true → Each (λ o. o ≡ Some t) types
all_of_type t [] h = tt
all_of_type t (o ∷ types) h = (is_of_some t o (and_left (is_of t o) (list_all (is_of t) types) h), all_of_type t types (and_right (is_of t o) (list_all (is_of t) types) h))

pub all_types : (t : Ty) (types : List Typed) → are_all t types ≡ true → Each (λ o. o ≡ Some t) types
all_types t types h = all_of_type t types (and_right (is_listed types) (list_all (is_of t) types) h)

pub one_types : (types : List Typed) (t : Ty) → one_type types ≡ Some t → Each (λ o. o ≡ Some t) types
one_types [] t h = cc
one_types (None ∷ types) t h = cc
one_types (Some u ∷ types) t h =
    let w = typed_when (list_all (is_of u) types) u t h in
    (ap Some w.1, subst (λ v. Each (λ o. o ≡ Some v) types) w.1 (all_of_type u types w.0))

-- ---- numbers

abs_neg : (n : ℕ) → nat_abs (neg_ℤ (pos n)) ≡ n
abs_neg zero = refl
abs_neg (suc n) = refl

abs_turned : (a : ℤ) → nat_abs (neg_ℤ a) ≡ nat_abs a
abs_turned (pos n) = abs_neg n
abs_turned (negsuc n) = refl

pub abs_product : (a b : ℤ) → nat_abs (a *ℤ b) ≡ nat_abs a * nat_abs b
abs_product (pos a) (pos b) = refl
abs_product (pos a) (negsuc b) = abs_neg (a * suc b)
abs_product (negsuc a) (pos b) = abs_neg (suc a * b)
abs_product (negsuc a) (negsuc b) = refl

either_abs : (t : Bool) (x y n : ℕ) → suc x ≤ n → y ≤ n → nat_abs (cond t (negsuc x) (pos y)) ≤ n
either_abs true x y n p q = p
either_abs false x y n p q = q

abs_sum : (a b : ℤ) → nat_abs (a +ℤ b) ≤ nat_abs a + nat_abs b
abs_sum (pos a) (pos b) = omega arith
abs_sum (pos a) (negsuc b) = either_abs (ltb a (suc b)) (suc b - suc a) (a - suc b) (a + suc b) (omega arith) (omega arith)
abs_sum (negsuc a) (pos b) = either_abs (ltb b (suc a)) (suc a - suc b) (b - suc a) (suc a + b) (omega arith) (omega arith)
abs_sum (negsuc a) (negsuc b) = omega arith

-- ---- values

pub nothing : (t : Ty) (n : ℕ) → Fits t n value.Null
nothing t n = record { typed = tt; within = tt }

truth_fits : (n : ℕ) (t : Truth) → Fits ty.Boolean n (value_of_truth t)
truth_fits n True = record { typed = tt; within = tt }
truth_fits n False = record { typed = tt; within = tt }
truth_fits n Unknown = record { typed = tt; within = tt }

bool_fits : (n : ℕ) (b : Bool) → Fits ty.Boolean n (value.Bool b)
bool_fits n b = record { typed = tt; within = tt }

pub number_fits : (n : ℕ) (a : ℤ) → nat_abs a ≤ n → Fits ty.Number n (value.Num a)
number_fits n a h = record { typed = tt; within = h }

literal_fits : (v : Value) (t : Ty) → is_literal v t ≡ true → Fits t (magnitude v) v
literal_fits value.Null t h = nothing t 0
literal_fits (value.Num a) t h = subst (λ u. Fits u (nat_abs a) (value.Num a)) (same ty.Number t h) (number_fits (nat_abs a) a (omega arith))
literal_fits (value.Bool b) t h = subst (λ u. Fits u 0 (value.Bool b)) (same ty.Boolean t h) (bool_fits 0 b)
literal_fits (value.Text s) t h = subst (λ u. Fits u 0 (value.Text s)) (same ty.Text t h) (record { typed = tt; within = tt })

either_fits : (b : Bool) (t : Ty) (n : ℕ) (v : Value) → Fits t n v → Fits t n (if b then v else value.Null)
either_fits true t n v h = h
either_fits false t n v h = nothing t n

wider : (t : Ty) (n m : ℕ) (v : Value) → n ≤ m → Fits t n v → Fits t m v
wider t n m value.Null le h = nothing t m
wider t n m (value.Num a) le h = record { typed = h.typed; within = omega (arith, le, h.within) }
wider t n m (value.Bool b) le h = record { typed = h.typed; within = tt }
wider t n m (value.Text s) le h = record { typed = h.typed; within = tt }

pub turned_fits : (n : ℕ) (v : Value) → Fits ty.Number n v → Fits ty.Number n (negated v)
turned_fits n (value.Num a) h = number_fits n (neg_ℤ a) (subst (λ k. k ≤ n) (sym (abs_turned a)) h.within)
turned_fits n value.Null h = nothing ty.Number n
turned_fits n (value.Bool b) h = nothing ty.Number n
turned_fits n (value.Text s) h = nothing ty.Number n

pub plus_fits : (n m : ℕ) (a b : Value) → Fits ty.Number n a → Fits ty.Number m b → Fits ty.Number (n + m) (plus a b)
plus_fits n m (value.Num a) (value.Num b) p q = number_fits (n + m) (a +ℤ b) (omega (arith, abs_sum a b, p.within, q.within))
plus_fits n m (value.Num a) value.Null p q = nothing ty.Number (n + m)
plus_fits n m (value.Num a) (value.Bool b) p q = nothing ty.Number (n + m)
plus_fits n m (value.Num a) (value.Text b) p q = nothing ty.Number (n + m)
plus_fits n m value.Null b p q = nothing ty.Number (n + m)
plus_fits n m (value.Bool a) b p q = nothing ty.Number (n + m)
plus_fits n m (value.Text a) b p q = nothing ty.Number (n + m)

pub times_fits : (n m : ℕ) (a b : Value) → Fits ty.Number n a → Fits ty.Number m b → Fits ty.Number (n * m) (times a b)
times_fits n m (value.Num a) (value.Num b) p q = number_fits (n * m) (a *ℤ b) (subst (λ k. k ≤ n * m) (sym (abs_product a b)) (mul-le (nat_abs a) (nat_abs b) n m p.within q.within))
times_fits n m (value.Num a) value.Null p q = nothing ty.Number (n * m)
times_fits n m (value.Num a) (value.Bool b) p q = nothing ty.Number (n * m)
times_fits n m (value.Num a) (value.Text b) p q = nothing ty.Number (n * m)
times_fits n m value.Null b p q = nothing ty.Number (n * m)
times_fits n m (value.Bool a) b p q = nothing ty.Number (n * m)
times_fits n m (value.Text a) b p q = nothing ty.Number (n * m)

joined_fits : (n : ℕ) (a b : Value) → Fits ty.Text n (joined a b)
joined_fits n (value.Text a) (value.Text b) = record { typed = tt; within = tt }
joined_fits n (value.Text a) value.Null = nothing ty.Text n
joined_fits n (value.Text a) (value.Num b) = nothing ty.Text n
joined_fits n (value.Text a) (value.Bool b) = nothing ty.Text n
joined_fits n value.Null b = nothing ty.Text n
joined_fits n (value.Num a) b = nothing ty.Text n
joined_fits n (value.Bool a) b = nothing ty.Text n

text_fits : (n : ℕ) (a : Value) (values : List Value) → Fits ty.Text n a → Fits ty.Text n (fold joined a values)
text_fits n a [] h = h
text_fits n a (v ∷ values) h = text_fits n (joined a v) values (joined_fits n a v)

pub signed_fits : (b : Bool) (n : ℕ) (v : Value) → Fits ty.Number n v → Fits ty.Number n (signed (b, v))
signed_fits true n v h = turned_fits n v h
signed_fits false n v h = h

first_fits : (t : Ty) (n : ℕ) (v rest : Value) → Fits t n v → Fits t n rest → Fits t n (if is_null v then rest else v)
first_fits t n value.Null rest p q = q
first_fits t n (value.Num a) rest p q = p
first_fits t n (value.Bool a) rest p q = p
first_fits t n (value.Text a) rest p q = p

chosen_fits : (b : Bool) (t : Ty) (n : ℕ) (v rest : Value) → Fits t n v → Fits t n rest → Fits t n (if b then v else rest)
chosen_fits true t n v rest p q = p
chosen_fits false t n v rest p q = q

-- ---- one level

abbrev pub IsSound : Scope → Env → ColumnRef → Type 0
IsSound scope env c = Fits c.type (bound_of_column (visible_column scope c.relation c.column)) (cell_in (env c.relation) c.column)

module _ (schema : Schema) (subs : SublinkRows) (tables : ℕ → List Row) where
  abbrev val : Expr → ValueIn
  val = fold-Expr ValueIn Tuples SortKey ValueIn RowsIn (expr_value subs) (tree_tuples tables) order_key output_value query_rows

  abbrev typed_level : Expr-F Expr JoinTree Order Output Query → Expr-F Typed Bool Typed TypedOutput TypedQuery
  typed_level = map-Expr Expr JoinTree Order Output Query Typed Bool Typed TypedOutput TypedQuery type_of
      (fold-JoinTree Typed Bool Typed TypedOutput TypedQuery expr_type tree_typed order_typed output_typed query_typed)
      (fold-Order Typed Bool Typed TypedOutput TypedQuery expr_type tree_typed order_typed output_typed query_typed)
      (fold-Output Typed Bool Typed TypedOutput TypedQuery expr_type tree_typed order_typed output_typed query_typed)
      (fold-Query Typed Bool Typed TypedOutput TypedQuery expr_type tree_typed order_typed output_typed query_typed)

  abbrev bound_level : Expr-F Expr JoinTree Order Output Query → Expr-F BoundIn EntriesIn BoundIn ColumnIn ColumnsIn
  bound_level = map-Expr Expr JoinTree Order Output Query BoundIn EntriesIn BoundIn ColumnIn ColumnsIn (bound_of schema)
      (fold-JoinTree BoundIn EntriesIn BoundIn ColumnIn ColumnsIn expr_bound (tree_entries schema) order_bound output_column query_columns)
      (fold-Order BoundIn EntriesIn BoundIn ColumnIn ColumnsIn expr_bound (tree_entries schema) order_bound output_column query_columns)
      (fold-Output BoundIn EntriesIn BoundIn ColumnIn ColumnsIn expr_bound (tree_entries schema) order_bound output_column query_columns)
      (fold-Query BoundIn EntriesIn BoundIn ColumnIn ColumnsIn expr_bound (tree_entries schema) order_bound output_column query_columns)

  abbrev val_level : Expr-F Expr JoinTree Order Output Query → Expr-F ValueIn Tuples SortKey ValueIn RowsIn
  val_level = map-Expr Expr JoinTree Order Output Query ValueIn Tuples SortKey ValueIn RowsIn val
      (fold-JoinTree ValueIn Tuples SortKey ValueIn RowsIn (expr_value subs) (tree_tuples tables) order_key output_value query_rows)
      (fold-Order ValueIn Tuples SortKey ValueIn RowsIn (expr_value subs) (tree_tuples tables) order_key output_value query_rows)
      (fold-Output ValueIn Tuples SortKey ValueIn RowsIn (expr_value subs) (tree_tuples tables) order_key output_value query_rows)
      (fold-Query ValueIn Tuples SortKey ValueIn RowsIn (expr_value subs) (tree_tuples tables) order_key output_value query_rows)

  module _ (scope : Scope) (env : Env) where
    abbrev Ok : Expr → Type 0
    Ok x = (t : Ty) → type_of x ≡ Some t → Fits t (bound_of schema x scope) (val x env)

    boolean : (b : Bool) (t : Ty) (v : Value) → typed_if b ty.Boolean ≡ Some t → Fits ty.Boolean 0 v → Fits t 0 v
    boolean b t v h f = subst (λ u. Fits u 0 v) (typed_when b ty.Boolean t h).1 f

    abbrev term_types : List (Bool × Expr) → List Typed
    term_types terms = map term_part (map (λ t. (t.0, type_of t.1)) terms)

    abbrev term_bounds : List (Bool × Expr) → List ℕ
    term_bounds terms = map (in_scope scope) (map term_part (map (λ t. (t.0, bound_of schema t.1)) terms))

    abbrev term_values : List (Bool × Expr) → List Value
    term_values terms = map signed (map (term_at env) (map (λ t. (t.0, val t.1)) terms))

    sums_fit : (terms : List (Bool × Expr)) (n : ℕ) (v : Value) → Fits ty.Number n v → Each Ok (map term_part terms) → Each (λ o. o ≡ Some ty.Number) (term_types terms) → Fits ty.Number (fold (λ a x. a + x) n (term_bounds terms)) (fold plus v (term_values terms))
    sums_fit [] n v h ok typed = h
    sums_fit (term ∷ terms) n v h ok typed = sums_fit terms (n + bound_of schema term.1 scope) (plus v (signed (term.0, val term.1 env)))
        (plus_fits n (bound_of schema term.1 scope) v (signed (term.0, val term.1 env)) h (signed_fits term.0 (bound_of schema term.1 scope) (val term.1 env) (ok.0 ty.Number typed.0))) ok.1 typed.1

    products_fit : (factors : List Expr) (n : ℕ) (v : Value) → Fits ty.Number n v → Each Ok factors → Each (λ o. o ≡ Some ty.Number) (map type_of factors) → Fits ty.Number (fold ◌*◌ n (map (in_scope scope) (map (bound_of schema) factors))) (fold times v (map (value_at env) (map val factors)))
    products_fit [] n v h ok typed = h
    products_fit (factor ∷ factors) n v h ok typed = products_fit factors (n * bound_of schema factor scope) (times v (val factor env)) (times_fits n (bound_of schema factor scope) v (val factor env) h (ok.0 ty.Number typed.0)) ok.1 typed.1

    -- the greatest of a list is no less than where it began, and than each of it
    greater : (n : ℕ) (ns : List ℕ) → n ≤ fold max n ns
    greater n [] = omega arith
    greater n (m ∷ ns) = omega (arith, greater (max n m) ns)

    first_of_fit : (members : List Expr) (n : ℕ) (t : Ty) → Each Ok members → Each (λ o. o ≡ Some t) (map type_of members) → Fits t (fold max n (map (in_scope scope) (map (bound_of schema) members))) (first_value (map (value_at env) (map val members)))
    first_of_fit [] n t ok typed = nothing t n
    first_of_fit (member ∷ members) n t ok typed =
        let bounds = map (in_scope scope) (map (bound_of schema) members) in
        first_fits t (fold max (max n (bound_of schema member scope)) bounds) (val member env) (first_value (map (value_at env) (map val members)))
        (wider t (bound_of schema member scope) (fold max (max n (bound_of schema member scope)) bounds) (val member env) (omega (arith, greater (max n (bound_of schema member scope)) bounds)) (ok.0 t typed.0))
        (first_of_fit members (max n (bound_of schema member scope)) t ok.1 typed.1)

    arms_fit : (operand : Option Value) (arms : List (Expr × Expr)) (otherwise : Option Expr) (n : ℕ) (t : Ty) → Each Ok (arm_parts arms) → Each Ok (option_part otherwise)
        → Each (λ o. o ≡ Some t) (map arm_result (map (λ a. (type_of a.0, type_of a.1)) arms) ++ option_part ((former-Expr-Case-0).map Expr Typed type_of otherwise))
        → Fits t (fold max n (map (in_scope scope) (map arm_result (map (λ a. (bound_of schema a.0, bound_of schema a.1)) arms) ++ option_part ((former-Expr-Case-0).map Expr BoundIn (bound_of schema) otherwise))))
        (first_arm operand (map (arm_at env) (map (λ a. (val a.0, val a.1)) arms)) (value_or_null (option_map (value_at env) ((former-Expr-Case-0).map Expr ValueIn val otherwise))))
    arms_fit operand [] None n t ok else_ok typed = nothing t n
    arms_fit operand [] (Some e) n t ok else_ok typed = wider t (bound_of schema e scope) (max n (bound_of schema e scope)) (val e env) (omega arith) (else_ok.0 t typed.0)
    arms_fit operand (arm ∷ arms) otherwise n t ok else_ok typed =
        let bounds = map (in_scope scope) (map arm_result (map (λ a. (bound_of schema a.0, bound_of schema a.1)) arms) ++ option_part ((former-Expr-Case-0).map Expr BoundIn (bound_of schema) otherwise)) in
        let here = bound_of schema arm.1 scope in
        chosen_fits (is_chosen operand (val arm.0 env)) t (fold max (max n here) bounds) (val arm.1 env)
        (first_arm operand (map (arm_at env) (map (λ a. (val a.0, val a.1)) arms)) (value_or_null (option_map (value_at env) ((former-Expr-Case-0).map Expr ValueIn val otherwise))))
        (wider t here (fold max (max n here) bounds) (val arm.1 env) (omega (arith, greater (max n here) bounds)) (ok.1.0 t typed.0))
        (arms_fit operand arms otherwise (max n here) t ok.1.1 else_ok typed.1)

    level_ok : (x : Expr-F Expr JoinTree Order Output Query) → Each Ok (parts x) → Each (IsSound scope env) (node_column x) → (t : Ty) → expr_type (typed_level x) ≡ Some t → Fits t (expr_bound (bound_level x) scope) (expr_value subs (val_level x) env)
    level_ok (Expr-F.Col rel col u nulled) ok cells t h = subst (λ s. Fits s (bound_of_column (visible_column scope rel col)) (cell_in (env rel) col)) (typed_when (nat_lt rel 64) u t h).1 cells.0
    level_ok (Expr-F.Lit v u) ok cells t h = let w = typed_when (is_literal v u) u t h in subst (λ s. Fits s (magnitude v) v) w.1 (literal_fits v u w.0)
    level_ok (Expr-F.Place inner rels) ok cells t h = either_fits (any_present rels env) t (bound_of schema inner scope) (val inner env) (ok.0 t (type_when (nat_lt rels (2 ^ 64)) (type_of inner) t h))
    level_ok (Expr-F.Neg operand) ok cells t h =
        let w = typed_when (is_of ty.Number (type_of operand)) ty.Number t h in
        subst (λ s. Fits s (bound_of schema operand scope) (negated (val operand env))) w.1 (turned_fits (bound_of schema operand scope) (val operand env) (ok.0 ty.Number (is_of_some ty.Number (type_of operand) w.0)))
    level_ok (Expr-F.Sum terms) ok cells t h =
        let w = typed_when (are_all ty.Number (term_types terms)) ty.Number t h in
        subst (λ s. Fits s (sum (term_bounds terms)) (fold plus (value.Num (pos 0)) (term_values terms))) w.1
        (sums_fit terms 0 (value.Num (pos 0)) (number_fits 0 (pos 0) (omega arith)) ok (all_types ty.Number (term_types terms) w.0))
    level_ok (Expr-F.Product factors) ok cells t h =
        let w = typed_when (are_all ty.Number (map type_of factors)) ty.Number t h in
        subst (λ s. Fits s (product (map (in_scope scope) (map (bound_of schema) factors))) (product_of (map (value_at env) (map val factors)))) w.1
        (products_fit factors 1 (value.Num (pos 1)) (number_fits 1 (pos 1) (omega arith)) ok (all_types ty.Number (map type_of factors) w.0))
    level_ok (Expr-F.Concat pieces) ok cells t h =
        subst (λ s. Fits s 0 (concat_of (map (value_at env) (map val pieces)))) (typed_when (are_all ty.Text (map type_of pieces)) ty.Text t h).1
        (text_fits 0 (value.Text []) (map (value_at env) (map val pieces)) (record { typed = tt; within = tt }))
    level_ok (Expr-F.Compare op left right) ok cells t h = boolean (is_some (one_type (type_of left ∷ type_of right ∷ []))) t (expr_value subs (val_level (Expr-F.Compare op left right)) env) h (truth_fits 0 (compared op (val left env) (val right env)))
    level_ok (Expr-F.Between operand low high) ok cells t h = boolean (is_some (one_type (type_of operand ∷ type_of low ∷ type_of high ∷ []))) t (expr_value subs (val_level (Expr-F.Between operand low high)) env) h (truth_fits 0 (between (val operand env) (val low env) (val high env)))
    level_ok (Expr-F.InList operand list) ok cells t h = boolean (is_listed (map type_of list) && is_some (one_type (type_of operand ∷ map type_of list))) t (expr_value subs (val_level (Expr-F.InList operand list)) env) h (truth_fits 0 (among (val operand env) (map (value_at env) (map val list))))
    level_ok (Expr-F.And members) ok cells t h = boolean (are_all ty.Boolean (map type_of members)) t (expr_value subs (val_level (Expr-F.And members)) env) h (truth_fits 0 (all_of (map (truth_at env) (map val members))))
    level_ok (Expr-F.Or members) ok cells t h = boolean (are_all ty.Boolean (map type_of members)) t (expr_value subs (val_level (Expr-F.Or members)) env) h (truth_fits 0 (any_of (map (truth_at env) (map val members))))
    level_ok (Expr-F.Not operand) ok cells t h = boolean (is_of ty.Boolean (type_of operand)) t (expr_value subs (val_level (Expr-F.Not operand)) env) h (truth_fits 0 (not_of (truth_at env (val operand))))
    level_ok (Expr-F.Test test operand) ok cells t h = boolean (can_test test (type_of operand)) t (expr_value subs (val_level (Expr-F.Test test operand)) env) h (bool_fits 0 (passes test (val operand env)))
    level_ok (Expr-F.Coalesce members) ok cells t h = first_of_fit members 0 t ok (one_types (map type_of members) t h)
    level_ok (Expr-F.Case operand arms otherwise) ok cells t h =
        let more = each_right Ok (option_part operand) (arm_parts arms ++ option_part otherwise) ok in
        let results = map arm_result (map (λ a. (type_of a.0, type_of a.1)) arms) ++ option_part ((former-Expr-Case-0).map Expr Typed type_of otherwise) in
        let one : one_type results ≡ Some t = type_when (are_whens ((former-Expr-Case-0).map Expr Typed type_of operand) (map arm_when (map (λ a. (type_of a.0, type_of a.1)) arms))) (one_type results) t h in
        arms_fit (option_map (value_at env) ((former-Expr-Case-0).map Expr ValueIn val operand)) arms otherwise 0 t (each_left Ok (arm_parts arms) (option_part otherwise) more) (each_right Ok (arm_parts arms) (option_part otherwise) more) (one_types results t one)
    level_ok (Expr-F.Exists sub query) ok cells t h = boolean (fold-Query Typed Bool Typed TypedOutput TypedQuery expr_type tree_typed order_typed output_typed query_typed query).is_typed t (expr_value subs (val_level (Expr-F.Exists sub query)) env) h
        (bool_fits 0 (is_row (subs sub (fold-Query ValueIn Tuples SortKey ValueIn RowsIn (expr_value subs) (tree_tuples tables) order_key output_value query_rows query) env)))
    level_ok (Expr-F.InSub sub operand query) ok cells t h =
        let inner : TypedQuery = fold-Query Typed Bool Typed TypedOutput TypedQuery expr_type tree_typed order_typed output_typed query_typed query in
        boolean (inner.is_typed && is_one_of (type_of operand) inner.outputs) t (expr_value subs (val_level (Expr-F.InSub sub operand query)) env) h
        (truth_fits 0 (among (val operand env) (map first_of (subs sub (fold-Query ValueIn Tuples SortKey ValueIn RowsIn (expr_value subs) (tree_tuples tables) order_key output_value query_rows query) env))))

    -- ---- the induction

    abbrev Good : Expr → Type 0
    Good x = Each (IsSound scope env) (own_columns x) → Ok x

    abbrev E : Type 0
    E = (x : Expr) × Good x

    abbrev Level : Type 0
    Level = Expr-F E (JoinTree × Unit {0}) (Order × Unit {0}) (Output × Unit {0}) (Query × Unit {0})

    abbrev bare : Level → Expr-F Expr JoinTree Order Output Query
    bare = map-Expr E (JoinTree × Unit {0}) (Order × Unit {0}) (Output × Unit {0}) (Query × Unit {0}) Expr JoinTree Order Output Query (λ y. y.0) (λ y. y.0) (λ y. y.0) (λ y. y.0) (λ y. y.0)

    children : (ys : List E) → Each (λ e. Each (IsSound scope env) (own_columns e)) (map (λ (y : E). y.0) ys) → Each Ok (map (λ (y : E). y.0) ys)
    children [] h = tt
    children (y ∷ ys) h = (y.1 h.0, children ys h.1)

    step : (y : Level) → Good (roll-Expr (bare y))
    step y sound t typed =
        let x = bare y in
        let has = own_has (IsSound scope env) x sound in
        let at_parts : parts x ≡ map (λ (z : E). z.0) (parts y) = parts_map (λ (z : E). z.0) (λ z. z.0) (λ z. z.0) (λ z. z.0) (λ z. z.0) y in
        let ok = subst (Each Ok) (sym at_parts) (children (parts y) (subst (Each (λ e. Each (IsSound scope env) (own_columns e))) at_parts has.1)) in
        let fits = level_ok x ok has.0 t (subst (λ o. o ≡ Some t) (fold-roll-Expr Typed Bool Typed TypedOutput TypedQuery expr_type tree_typed order_typed output_typed query_typed x) typed) in
        let bounded = subst (λ (b : BoundIn). Fits t (b scope) (expr_value subs (val_level x) env)) (sym (fold-roll-Expr BoundIn EntriesIn BoundIn ColumnIn ColumnsIn expr_bound (tree_entries schema) order_bound output_column query_columns x)) fits in
        subst (λ (v : ValueIn). Fits t (bound_of schema (roll-Expr x) scope) (v env)) (sym (fold-roll-Expr ValueIn Tuples SortKey ValueIn RowsIn (expr_value subs) (tree_tuples tables) order_key output_value query_rows x)) bounded

    pub value_fits : (x : Expr) → Each (IsSound scope env) (own_columns x) → (t : Ty) → type_of x ≡ Some t → Fits t (bound_of schema x scope) (val x env)
    value_fits = ind-Expr Good (λ t. Unit {0}) (λ o. Unit {0}) (λ u. Unit {0}) (λ q. Unit {0})
        (λ x y e. subst (λ z. Good (roll-Expr z)) e (step y))
        (λ x y e. tt) (λ x y e. tt) (λ x y e. tt) (λ x y e. tt)
