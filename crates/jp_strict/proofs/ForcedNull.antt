-- Where a condition is true, the columns that it forces are NULL.
use Rattle.std.proofs.Common.{◌≡◌, ◌∙◌, ap, sym, subst, refl, ℕ, inl, inr, Bool, true, false, ◌&&◌, List, [], ◌∷◌, ◌++◌, map, fold, Option, Some, None}
use Rattle.std.specs.Prelude.{Contains, All, is_some, nat_lt}
use Rattle.std.specs.List.{list_all}
use Rattle.std.proofs.lemmas.Bool.{false≢true}
use Rattle.jp_base.specs.declared.truth.Truth.{Truth}
use Rattle.jp_base.specs.declared.truth.Truth.TheVariants.{True, False, Unknown}
use Rattle.jp_base.specs.declared.values.Ty.{Ty}
use Rattle.jp_base.specs.declared.values.Ty.TheVariants as ty
use Rattle.jp_base.specs.declared.values.Value.{Value}
use Rattle.jp_base.specs.declared.values.Value.TheVariants as value
use Rattle.jp_base.specs.Truth.{and_of}
use Rattle.jp_base.specs.Values.{HasType, is_null as is_null_value}
use Rattle.jp_facts.proofs.Members.{In, to_in, from_append}
use Rattle.jp_query.specs.declared.IsTest.{IsTest}
use Rattle.jp_query.specs.declared.IsTest.TheVariants as is
use Rattle.jp_query.specs.declared.Expr.{Expr}
use Rattle.jp_query.specs.declared.JoinTree.{JoinTree}
use Rattle.jp_query.specs.declared.Order.{Order}
use Rattle.jp_query.specs.declared.Output.{Output}
use Rattle.jp_query.specs.declared.Query.{Query}
use Rattle.jp_query.specs.declared.Expr.TheOpen.{Expr-F}
use Rattle.jp_query.specs.declared.Expr.TheViews.{roll-Expr}
use Rattle.jp_query.specs.declared.Expr.TheFolds.{map-Expr, fold-roll-Expr, fold-JoinTree, fold-Order, fold-Output, fold-Query}
use Rattle.jp_query.specs.Fitting.{own_columns, expr_own_columns}
use Rattle.jp_query.specs.Layers.{ExprLayer}
use Rattle.jp_query.specs.Meaning.{Row, Env, ValueIn, Tuples, SortKey, RowsIn, SublinkRows, cell_in, truth_at, holds, is_true_at, expr_value, tree_tuples, order_key, output_value, query_rows}
use Rattle.jp_query.specs.Nullness.{Forced, forced_part, forces_nothing, expr_forced, forcing, forced_by, forced_null}
use Rattle.jp_query.specs.Operators.{truth_of_value, value_of_truth, is_true, is_unknown, all_of, passes}
use Rattle.jp_query.specs.Parts.{ColumnRef, all_in, node_column, parts}
use Rattle.jp_query.specs.Typing.{Typed, TypedOutput, TypedQuery, is_of, typed_if, are_all, are_conditions, can_test, expr_type, tree_typed, order_typed, output_typed, query_typed, type_of, same_type}
use Rattle.jp_induction.proofs.EachPart.{Each, each_append, each_of, each_left, each_right, each_weaker, each_both}
use Rattle.jp_induction.proofs.Induction.{expr_alone}
use Rattle.jp_strict.specs.Cells.{HasItsType, HasTypedCells}
use Rattle.jp_strict.proofs.SoundTests.{val_of, never, left_of, right_of, when_typed, of_typed}

-- ---- truth

null_is : (v : Value) → is_null_value v ≡ true → v ≡ value.Null
null_is value.Null h = refl
null_is (value.Num n) h = never h
null_is (value.Bool b) h = never h
null_is (value.Text t) h = never h

unknown_is : (v : Value) → HasType ty.Boolean v → is_unknown (truth_of_value v) ≡ true → v ≡ value.Null
unknown_is value.Null fits h = refl
unknown_is (value.Num n) fits h = absurd fits
unknown_is (value.Bool true) fits h = never h
unknown_is (value.Bool false) fits h = never h
unknown_is (value.Text t) fits h = absurd fits

told : (b : Bool) → is_true (truth_of_value (value.Bool b)) ≡ true → b ≡ true
told true h = refl
told false h = never h

back : (t : Truth) → truth_of_value (value_of_truth t) ≡ t
back True = refl
back False = refl
back Unknown = refl

and_true : (t u : Truth) → is_true (and_of t u) ≡ true → (is_true t ≡ true) × (is_true u ≡ true)
and_true True True h = (refl, refl)
and_true True False h = never h
and_true True Unknown h = never h
and_true False True h = never h
and_true False False h = never h
and_true False Unknown h = never h
and_true Unknown True h = never h
and_true Unknown False h = never h
and_true Unknown Unknown h = never h

all_true_from : (start : Truth) (ts : List Truth) → is_true (fold and_of start ts) ≡ true → (is_true start ≡ true) × Each (λ t. is_true t ≡ true) ts
all_true_from start [] h = (h, tt)
all_true_from start (t ∷ ts) h =
    let rest = all_true_from (and_of start t) ts h in
    let both = and_true start t rest.0 in
    (both.0, (both.1, rest.1))

some_type : (t : Typed) → is_of ty.Boolean t ≡ true → t ≡ Some ty.Boolean
some_type (Some ty.Boolean) h = refl
some_type (Some ty.Number) h = never h
some_type (Some ty.Text) h = never h
some_type None h = never h

typed_is : (b : Bool) (t u : Ty) → typed_if b t ≡ Some u → t ≡ u
typed_is true t u h = cc
typed_is false t u h = cc

module _ (env : Env) where
  abbrev cell : ℕ × ℕ → Value
  cell rc = cell_in (env rc.0) rc.1

  abbrev IsNull : ℕ × ℕ → Type 0
  IsNull rc = cell rc ≡ value.Null

  -- what an expression's value, type and columns say of the columns that it forces
  record Forces (f : Forced) (v : Value) (t : Typed) (columns : List ColumnRef) : Type 0 where
    -- the column that it is itself
    pub itself : Each (λ rc. v ≡ cell rc) f.itself
    pub kind : (u : Ty) → t ≡ Some u → Each (HasItsType env) columns → Each (λ rc. HasType u (cell rc)) f.itself
    pub forced : is_some t ≡ true → Each (HasItsType env) columns → is_true (truth_of_value v) ≡ true → Each IsNull f.forced

  nothing_forced : (v : Value) (t : Typed) (columns : List ColumnRef) → Forces forces_nothing v t columns
  nothing_forced v t columns = record { itself = tt; kind = λ u e fits. tt; forced = λ typed fits h. tt }

  module _ (subs : SublinkRows) (tables : ℕ → List Row) where
    abbrev val : Expr → ValueIn
    val = val_of subs tables

    abbrev Good : Expr → Type 0
    Good e = Forces (forcing e) (val e env) (type_of e) (own_columns e)

    abbrev by_forced : ExprLayer → Expr-F Forced (Unit {0}) (Unit {0}) (Unit {0}) (Unit {0})
    by_forced = map-Expr Expr JoinTree Order Output Query Forced (Unit {0}) (Unit {0}) (Unit {0}) (Unit {0}) forcing (λ t. tt) (λ o. tt) (λ u. tt) (λ q. tt)

    abbrev by_columns : ExprLayer → Expr-F (List ColumnRef) (Unit {0}) (Unit {0}) (Unit {0}) (Unit {0})
    by_columns = map-Expr Expr JoinTree Order Output Query (List ColumnRef) (Unit {0}) (Unit {0}) (Unit {0}) (Unit {0}) own_columns (λ t. tt) (λ o. tt) (λ u. tt) (λ q. tt)

    abbrev by_types : ExprLayer → Expr-F Typed Bool Typed TypedOutput TypedQuery
    by_types = map-Expr Expr JoinTree Order Output Query Typed Bool Typed TypedOutput TypedQuery type_of
        (fold-JoinTree Typed Bool Typed TypedOutput TypedQuery expr_type tree_typed order_typed output_typed query_typed)
        (fold-Order Typed Bool Typed TypedOutput TypedQuery expr_type tree_typed order_typed output_typed query_typed)
        (fold-Output Typed Bool Typed TypedOutput TypedQuery expr_type tree_typed order_typed output_typed query_typed)
        (fold-Query Typed Bool Typed TypedOutput TypedQuery expr_type tree_typed order_typed output_typed query_typed)

    abbrev by_values : ExprLayer → Expr-F ValueIn Tuples SortKey ValueIn RowsIn
    by_values = map-Expr Expr JoinTree Order Output Query ValueIn Tuples SortKey ValueIn RowsIn val
        (fold-JoinTree ValueIn Tuples SortKey ValueIn RowsIn (expr_value subs) (tree_tuples tables) order_key output_value query_rows)
        (fold-Order ValueIn Tuples SortKey ValueIn RowsIn (expr_value subs) (tree_tuples tables) order_key output_value query_rows)
        (fold-Output ValueIn Tuples SortKey ValueIn RowsIn (expr_value subs) (tree_tuples tables) order_key output_value query_rows)
        (fold-Query ValueIn Tuples SortKey ValueIn RowsIn (expr_value subs) (tree_tuples tables) order_key output_value query_rows)

    abbrev AtLevel : ExprLayer → Type 0
    AtLevel x = Forces (expr_forced (by_forced x)) (expr_value subs (by_values x) env) (expr_type (by_types x)) (expr_own_columns (by_columns x))

    -- the operand of a test has columns of its own alone
    of_operand : (operand : Expr) → Each (HasItsType env) (own_columns operand ++ []) → Each (HasItsType env) (own_columns operand)
    of_operand operand = each_left (HasItsType env) (own_columns operand) []

    by_null : (operand : Expr) → Good operand → AtLevel (Expr-F.Test is.Null operand)
    by_null operand g = record {
      itself = tt;
      kind = λ u e fits. tt;
      forced = λ typed fits h.
          let null = null_is (val operand env) (told (is_null_value (val operand env)) h) in
          each_weaker (λ rc. val operand env ≡ cell rc) IsNull (λ rc e. sym e ∙ null) (forcing operand).itself g.itself;
    }

    by_unknown : (operand : Expr) → Good operand → AtLevel (Expr-F.Test is.Unknown operand)
    by_unknown operand g = record {
      itself = tt;
      kind = λ u e fits. tt;
      forced = λ typed fits h.
          let boolean = some_type (type_of operand) (when_typed (can_test is.Unknown (type_of operand)) ty.Boolean typed) in
          let unknown = told (is_unknown (truth_of_value (val operand env))) h in
          each_both (λ rc. val operand env ≡ cell rc) (λ rc. HasType ty.Boolean (cell rc)) IsNull
          (λ rc e k. sym e ∙ unknown_is (val operand env) (subst (HasType ty.Boolean) (sym e) k) unknown) (forcing operand).itself g.itself (g.kind ty.Boolean boolean (of_operand operand fits));
    }

    members_null : (ms : List Expr) → Each Good ms → list_all (is_of ty.Boolean) (map type_of ms) ≡ true → Each (HasItsType env) (all_in (map own_columns ms)) → Each (λ t. is_true t ≡ true) (map (truth_at env) (map val ms)) → Each IsNull (all_in (map forced_part (map forcing ms)))
    members_null [] g typed fits h = tt
    members_null (m ∷ ms) g typed fits h =
        each_append IsNull (forced_by m) (all_in (map forced_part (map forcing ms)))
        (g.0.forced (of_typed ty.Boolean (type_of m) (left_of (is_of ty.Boolean (type_of m)) (list_all (is_of ty.Boolean) (map type_of ms)) typed)) (each_left (HasItsType env) (own_columns m) (all_in (map own_columns ms)) fits) h.0)
        (members_null ms g.1 (right_of (is_of ty.Boolean (type_of m)) (list_all (is_of ty.Boolean) (map type_of ms)) typed) (each_right (HasItsType env) (own_columns m) (all_in (map own_columns ms)) fits) h.1)

    by_and : (ms : List Expr) → Each Good ms → AtLevel (Expr-F.And ms)
    by_and ms g = record {
      itself = tt;
      kind = λ u e fits. tt;
      forced = λ typed fits h.
          let truths = map (truth_at env) (map val ms) in
          members_null ms g (right_of _ (list_all (is_of ty.Boolean) (map type_of ms)) (when_typed (are_all ty.Boolean (map type_of ms)) ty.Boolean typed)) fits
          (all_true_from True truths (ap is_true (sym (back (all_of truths))) ∙ h)).1;
    }

    test_level : (t : IsTest) (operand : Expr) → Good operand → AtLevel (Expr-F.Test t operand)
    test_level is.Null operand g = by_null operand g
    test_level is.Unknown operand g = by_unknown operand g
    test_level is.NotNull operand g = nothing_forced _ _ _
    test_level is.True operand g = nothing_forced _ _ _
    test_level is.NotTrue operand g = nothing_forced _ _ _
    test_level is.False operand g = nothing_forced _ _ _
    test_level is.NotFalse operand g = nothing_forced _ _ _
    test_level is.NotUnknown operand g = nothing_forced _ _ _

    level : (x : ExprLayer) → Each Good (parts x) → AtLevel x
    level (Expr-F.Col rel col t nulled) g = record {
      itself = (refl, tt);
      kind = λ u e fits. (subst (λ k. HasType k (cell (rel, col))) (typed_is (nat_lt rel 64) t u e) fits.0, tt);
      forced = λ typed fits h. tt;
    }
    level (Expr-F.Test t operand) g = test_level t operand g.0
    level (Expr-F.And ms) g = by_and ms g
    level (Expr-F.Lit v t) g = nothing_forced _ _ _
    level (Expr-F.Place inner rels) g = nothing_forced _ _ _
    level (Expr-F.Neg operand) g = nothing_forced _ _ _
    level (Expr-F.Sum terms) g = nothing_forced _ _ _
    level (Expr-F.Product factors) g = nothing_forced _ _ _
    level (Expr-F.Concat list) g = nothing_forced _ _ _
    level (Expr-F.Compare op l r) g = nothing_forced _ _ _
    level (Expr-F.Between operand low high) g = nothing_forced _ _ _
    level (Expr-F.InList operand list) g = nothing_forced _ _ _
    level (Expr-F.Or ms) g = nothing_forced _ _ _
    level (Expr-F.Not operand) g = nothing_forced _ _ _
    level (Expr-F.Coalesce ms) g = nothing_forced _ _ _
    level (Expr-F.Case operand arms otherwise) g = nothing_forced _ _ _
    level (Expr-F.Exists sub query) g = nothing_forced _ _ _
    level (Expr-F.InSub sub operand query) g = nothing_forced _ _ _

    step : (x : ExprLayer) → Each Good (parts x) → Good (roll-Expr x)
    step x g =
        subst (λ f. Forces f (val (roll-Expr x) env) (type_of (roll-Expr x)) (own_columns (roll-Expr x))) (sym (fold-roll-Expr Forced (Unit {0}) (Unit {0}) (Unit {0}) (Unit {0}) expr_forced (λ t. tt) (λ o. tt) (λ u. tt) (λ q. tt) x))
        (subst (λ v. Forces (expr_forced (by_forced x)) v (type_of (roll-Expr x)) (own_columns (roll-Expr x))) (sym (ap (λ (v : ValueIn). v env) (fold-roll-Expr ValueIn Tuples SortKey ValueIn RowsIn (expr_value subs) (tree_tuples tables) order_key output_value query_rows x)))
        (subst (λ t. Forces (expr_forced (by_forced x)) (expr_value subs (by_values x) env) t (own_columns (roll-Expr x))) (sym (fold-roll-Expr Typed Bool Typed TypedOutput TypedQuery expr_type tree_typed order_typed output_typed query_typed x))
        (subst (λ c. Forces (expr_forced (by_forced x)) (expr_value subs (by_values x) env) (expr_type (by_types x)) c) (sym (fold-roll-Expr (List ColumnRef) (Unit {0}) (Unit {0}) (Unit {0}) (Unit {0}) expr_own_columns (λ t. tt) (λ o. tt) (λ u. tt) (λ q. tt) x)) (level x g))))

    forces : (e : Expr) → Good e
    forces = expr_alone Good step

    -- ---- lists

    in_each : {X : Type 0} (P : X → Type 0) (x : X) (xs : List X) → Each P xs → In x xs → P x
    in_each P x [] h p = absurd p
    in_each P x (y ∷ ys) h (inl e) = subst P e h.0
    in_each P x (y ∷ ys) h (inr r) = in_each P x ys h.1 r

    list_forced : (conds : List Expr) → are_conditions (map type_of conds) ≡ true → Each (HasTypedCells env) conds → holds (map val conds) env ≡ true → Each IsNull (all_in (map forced_by conds))
    list_forced [] typed cells h = tt
    list_forced (e ∷ es) typed cells h =
        each_append IsNull (forced_by e) (all_in (map forced_by es))
        ((forces e).forced (of_typed ty.Boolean (type_of e) (left_of (is_of ty.Boolean (type_of e)) (are_conditions (map type_of es)) typed)) (each_of (HasItsType env) (own_columns e) cells.0) (left_of (is_true_at env (val e)) (holds (map val es) env) h))
        (list_forced es (right_of (is_of ty.Boolean (type_of e)) (are_conditions (map type_of es)) typed) cells.1 (right_of (is_true_at env (val e)) (holds (map val es) env) h))

    pub forced_cells : (conds : List Expr) → are_conditions (map type_of conds) ≡ true → All (HasTypedCells env) conds → holds (map val conds) env ≡ true → (rel col : ℕ) → Contains (forced_null conds) (rel, col) → cell_in (env rel) col ≡ value.Null
    forced_cells conds typed cells h rel col c = in_each IsNull (rel, col) (forced_null conds) (list_forced conds typed (each_of (HasTypedCells env) conds cells) h) (to_in (rel, col) (forced_null conds) c)
