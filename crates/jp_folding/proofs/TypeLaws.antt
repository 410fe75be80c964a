-- A folded tree has the types that it had.
use Rattle.std.proofs.Common.{◌≡◌, ◌∙◌, ap, sym, subst, refl, ℕ, Bool, true, false, ◌&&◌, List, [], ◌∷◌, ◌++◌, map, Option, Some, None, IsSome, is_some}
use Rattle.std.specs.Prelude.{if◌then◌else◌}
use Rattle.std.specs.List.{list_all, list_any}
use Rattle.jp_base.specs.declared.values.Ty.{Ty}
use Rattle.jp_base.specs.declared.values.Ty.TheVariants as ty
use Rattle.jp_base.specs.declared.values.Value.{Value}
use Rattle.jp_base.specs.declared.values.Value.TheVariants as value
use Rattle.jp_base.specs.Values.{HasType}
use Rattle.jp_query.specs.declared.JoinKind.{JoinKind}
use Rattle.jp_query.specs.declared.JoinKind.TheVariants as join
use Rattle.jp_query.specs.declared.Expr.{Expr, out-Expr}
use Rattle.jp_query.specs.declared.JoinTree.{JoinTree}
use Rattle.jp_query.specs.declared.Order.{Order}
use Rattle.jp_query.specs.declared.Output.{Output}
use Rattle.jp_query.specs.declared.Query.{Query}
use Rattle.jp_query.specs.declared.Expr.TheOpen.{Expr-F, JoinTree-F, Query-F}
use Rattle.jp_query.specs.declared.Expr.TheViews.{roll-Expr, roll-JoinTree, roll-Order, roll-Output, roll-Query, roll-out-Expr, out-roll-Expr}
use Rattle.jp_query.specs.declared.Expr.TheFolds.{fold-Order, fold-Output, map-Expr, map-JoinTree, map-Query, fold-roll-Expr, fold-roll-JoinTree, fold-roll-Order, fold-roll-Output, fold-roll-Query}
use Rattle.jp_query.specs.Layers.{ExprLayer, JoinTreeLayer, OrderLayer, OutputLayer, QueryLayer}
use Rattle.jp_query.specs.Meaning.{given, no_tables, no_outer_rows, value_given}
use Rattle.jp_query.specs.Parts.{all_in, parts, ColumnRef, node_column}
use Rattle.jp_query.specs.Scopes.{bound_of}
use Rattle.jp_query.specs.Fitting.{expr_own_columns, own_columns}
use Rattle.jp_query.specs.Typing.{Typed, TypedOutput, TypedQuery, is_of, are_all, are_conditions, is_true_test, output_is_typed, output_type, is_literal, expr_type, tree_typed, order_typed, output_typed, query_typed, type_of, tree_is_typed, typed_query}
use Rattle.jp_laws.proofs.EachPart.{Each, each_append, each_mapped, parts_map}
use Rattle.jp_laws.proofs.GatheredLaws.{IsTypedInner, typed_order, typed_output, when_some, query_parts}
use Rattle.jp_laws.proofs.ValueLaws.{and_left, and_right}
use Rattle.jp_laws.proofs.OwnColumns.{column_map, own_level}
use Rattle.jp_laws.proofs.ValuesFit.{Fits, IsSound, all_types, typed_when, value_fits}
use Rattle.jp_induction.proofs.HandedDown.{StepsUnder, under_expr, under_tree, under_query}
use Rattle.jp_induction.proofs.Levels.{expr_twice, tree_twice, query_twice}
use Rattle.jp_folding.specs.Folding as fold
use Rattle.jp_folding.proofs.Runs.{runs}
use Rattle.jp_folding.proofs.TypedDown.{IsTypedExprAt, IsTypedTreeAt, IsTypedOrderAt, IsTypedOutputAt, IsTypedQueryAt, same_place, place_above, typed_down}

-- ---- types of levels

abbrev pub typed_level : ExprLayer → Expr-F Typed Bool Typed TypedOutput TypedQuery
typed_level = map-Expr Expr JoinTree Order Output Query Typed Bool Typed TypedOutput TypedQuery type_of tree_is_typed typed_order typed_output typed_query

pub type_at : (x : ExprLayer) → type_of (roll-Expr x) ≡ expr_type (typed_level x)
type_at = fold-roll-Expr Typed Bool Typed TypedOutput TypedQuery expr_type tree_typed order_typed output_typed query_typed

some_type : (o : Typed) → IsSome o → o ≡ Some (fold.type_or_text o)
some_type (Some t) h = refl
some_type None h = cc

pub literal_type : (v : Value) (t : Ty) → is_literal v t ≡ true → type_of (fold.literal v t) ≡ Some t
literal_type v t h = type_at (Expr-F.Lit v t) ∙ ap (λ b. if b then Some t else None) h

-- a value of a type is a literal of it
literal_of_type : (v : Value) (t : Ty) → HasType t v → is_literal v t ≡ true
literal_of_type value.Null t h = refl
literal_of_type (value.Num n) ty.Number h = refl
literal_of_type (value.Num n) ty.Boolean h = absurd h
literal_of_type (value.Num n) ty.Text h = absurd h
literal_of_type (value.Bool b) ty.Number h = absurd h
literal_of_type (value.Bool b) ty.Boolean h = refl
literal_of_type (value.Bool b) ty.Text h = absurd h
literal_of_type (value.Text s) ty.Number h = absurd h
literal_of_type (value.Text s) ty.Boolean h = absurd h
literal_of_type (value.Text s) ty.Text h = refl

-- ---- literals refer to no column

pub own_at : (x : ExprLayer) → own_columns (roll-Expr x) ≡ expr_own_columns (own_level x)
own_at = fold-roll-Expr (List ColumnRef) (Unit {0}) (Unit {0}) (Unit {0}) (Unit {0}) expr_own_columns (λ t. tt) (λ o. tt) (λ u. tt) (λ q. tt)

none_at : (x : ExprLayer) → is_some (fold.literal_at x) ≡ true → expr_own_columns (own_level x) ≡ []
none_at (Expr-F.Lit v t) h = refl
none_at x h = cc

none_of_literal : (e : Expr) → fold.is_literal e ≡ true → own_columns e ≡ []
none_of_literal e h = ap own_columns (sym (roll-out-Expr e)) ∙ own_at (out-Expr e) ∙ none_at (out-Expr e) h

none_of_literals : (es : List Expr) → list_all fold.is_literal es ≡ true → all_in (map own_columns es) ≡ []
none_of_literals [] h = refl
none_of_literals (e ∷ es) h = (λ i. none_of_literal e (and_left (fold.is_literal e) (list_all fold.is_literal es) h) i ++ all_in (map own_columns es)) ∙ none_of_literals es (and_right (fold.is_literal e) (list_all fold.is_literal es) h)

pub none_of_level : (x : ExprLayer) → node_column x ≡ [] → fold.has_literals_alone x ≡ true → own_columns (roll-Expr x) ≡ []
none_of_level x none h = own_at x
    ∙ ap (λ cs. cs ++ all_in (parts (own_level x))) (column_map own_columns (λ t. tt) (λ o. tt) (λ u. tt) (λ q. tt) x ∙ none)
    ∙ ap all_in (parts_map own_columns (λ t. tt) (λ o. tt) (λ u. tt) (λ q. tt) x)
    ∙ none_of_literals (parts x) h

-- ---- steps that compute

-- the value of an operator of literals, in any environment, is of its type and lies within its bound
pub computed_fits : (x : ExprLayer) (t : Ty) → node_column x ≡ [] → fold.has_literals_alone x ≡ true → type_of (roll-Expr x) ≡ Some t → Fits t (bound_of [] (roll-Expr x) []) (value_given no_tables (roll-Expr x) no_outer_rows)
computed_fits x t none alone typed = value_fits [] (given no_tables) no_tables [] no_outer_rows (roll-Expr x) (subst (Each (IsSound [] no_outer_rows)) (sym (none_of_level x none alone)) tt) t typed

module _ (x : ExprLayer) (none : node_column x ≡ []) (typed : IsSome (expr_type (typed_level x))) where
  known : type_of (roll-Expr x) ≡ Some (fold.type_at x)
  known = some_type (type_of (roll-Expr x)) (subst IsSome (sym (type_at x)) typed)

  computed_typed : fold.has_literals_alone x ≡ true → type_of (fold.computed x) ≡ expr_type (typed_level x)
  computed_typed alone = literal_type (value_given no_tables (roll-Expr x) no_outer_rows) (fold.type_at x)
      (literal_of_type (value_given no_tables (roll-Expr x) no_outer_rows) (fold.type_at x) (computed_fits x (fold.type_at x) none alone known).typed)
      ∙ sym known ∙ type_at x

  null_typed : type_of (fold.if_null x) ≡ expr_type (typed_level x)
  null_typed = by_null (list_any fold.is_null (parts x))
    where
      by_null : (b : Bool) → type_of (if b then fold.literal value.Null (fold.type_at x) else roll-Expr x) ≡ expr_type (typed_level x)
      by_null true = literal_type value.Null (fold.type_at x) refl ∙ sym known ∙ type_at x
      by_null false = type_at x

  pub if_computed_typed : (e : Expr) → type_of e ≡ expr_type (typed_level x) → type_of (fold.if_computed x e) ≡ expr_type (typed_level x)
  if_computed_typed e h = by_parts (fold.has_literals_alone x) refl
    where
      by_parts : (b : Bool) → fold.has_literals_alone x ≡ b → type_of (if b then fold.computed x else e) ≡ expr_type (typed_level x)
      by_parts true alone = computed_typed alone
      by_parts false some = h

-- ---- AND and OR

abbrev pub AreBooleans : List Expr → Type 0
AreBooleans = Each (λ e. type_of e ≡ Some ty.Boolean)

pub booleans : (es : List Expr) → are_all ty.Boolean (map type_of es) ≡ true → AreBooleans es
booleans es h = each_mapped (λ o. o ≡ Some ty.Boolean) type_of es (all_types ty.Boolean (map type_of es) h)

pub boolean_list : (es : List Expr) → AreBooleans es → list_all (is_of ty.Boolean) (map type_of es) ≡ true
boolean_list [] h = refl
boolean_list (e ∷ es) h = λ i. is_of ty.Boolean (h.0 i) && boolean_list es h.1 i

and_parts_typed : (x : ExprLayer) (e : Expr) → type_of (roll-Expr x) ≡ Some ty.Boolean → type_of e ≡ Some ty.Boolean → AreBooleans (fold.and_at x e)
and_parts_typed (Expr-F.And members) e h k = booleans members (typed_when (are_all ty.Boolean (map type_of members)) ty.Boolean ty.Boolean (sym (type_at (Expr-F.And members)) ∙ h)).0
and_parts_typed (Expr-F.Lit (value.Bool true) t) e h k = tt
and_parts_typed x e h k = (k, tt)

pub and_members_typed : (e : Expr) → type_of e ≡ Some ty.Boolean → AreBooleans (fold.and_members e)
and_members_typed e h = and_parts_typed (out-Expr e) e (ap type_of (roll-out-Expr e) ∙ h) h

or_parts_typed : (x : ExprLayer) (e : Expr) → type_of (roll-Expr x) ≡ Some ty.Boolean → type_of e ≡ Some ty.Boolean → AreBooleans (fold.or_at x e)
or_parts_typed (Expr-F.Or members) e h k = booleans members (typed_when (are_all ty.Boolean (map type_of members)) ty.Boolean ty.Boolean (sym (type_at (Expr-F.Or members)) ∙ h)).0
or_parts_typed (Expr-F.Lit (value.Bool false) t) e h k = tt
or_parts_typed x e h k = (k, tt)

pub or_members_typed : (e : Expr) → type_of e ≡ Some ty.Boolean → AreBooleans (fold.or_members e)
or_members_typed e h = or_parts_typed (out-Expr e) e (ap type_of (roll-out-Expr e) ∙ h) h

pub all_typed : (f : Expr → List Expr) → ((e : Expr) → type_of e ≡ Some ty.Boolean → AreBooleans (f e)) → (es : List Expr) → AreBooleans es → AreBooleans (all_in (map f es))
all_typed f good [] h = tt
all_typed f good (e ∷ es) h = each_append (λ x. type_of x ≡ Some ty.Boolean) (f e) (all_in (map f es)) (good e h.0) (all_typed f good es h.1)

one_and_typed : (es : List Expr) → AreBooleans es → type_of (fold.one_and es) ≡ Some ty.Boolean
one_and_typed [] h = literal_type (value.Bool true) ty.Boolean refl
one_and_typed (e ∷ []) h = h.0
one_and_typed (e ∷ d ∷ es) h = type_at (Expr-F.And (e ∷ d ∷ es)) ∙ ap (λ b. if b then Some ty.Boolean else None) (boolean_list (e ∷ d ∷ es) h)

one_or_typed : (es : List Expr) → AreBooleans es → type_of (fold.one_or es) ≡ Some ty.Boolean
one_or_typed [] h = literal_type (value.Bool false) ty.Boolean refl
one_or_typed (e ∷ []) h = h.0
one_or_typed (e ∷ d ∷ es) h = type_at (Expr-F.Or (e ∷ d ∷ es)) ∙ ap (λ b. if b then Some ty.Boolean else None) (boolean_list (e ∷ d ∷ es) h)

either_typed : (b : Bool) (x y : Expr) → type_of x ≡ Some ty.Boolean → type_of y ≡ Some ty.Boolean → type_of (if b then x else y) ≡ Some ty.Boolean
either_typed true x y h k = h
either_typed false x y h k = k

and_typed : (es : List Expr) → IsSome (expr_type (typed_level (Expr-F.And es))) → type_of (fold.folded_and es) ≡ expr_type (typed_level (Expr-F.And es))
and_typed es typed =
    let all = when_some (are_all ty.Boolean (map type_of es)) ty.Boolean typed in
    either_typed (list_any fold.is_false es) (fold.truth_literal false) (fold.one_and (all_in (map fold.and_members es))) (literal_type (value.Bool false) ty.Boolean refl)
    (one_and_typed (all_in (map fold.and_members es)) (all_typed fold.and_members and_members_typed es (booleans es all)))
    ∙ sym (ap (λ b. if b then Some ty.Boolean else None) all)

or_typed : (es : List Expr) → IsSome (expr_type (typed_level (Expr-F.Or es))) → type_of (fold.folded_or es) ≡ expr_type (typed_level (Expr-F.Or es))
or_typed es typed =
    let all = when_some (are_all ty.Boolean (map type_of es)) ty.Boolean typed in
    either_typed (list_any fold.is_true es) (fold.truth_literal true) (fold.one_or (all_in (map fold.or_members es))) (literal_type (value.Bool true) ty.Boolean refl)
    (one_or_typed (all_in (map fold.or_members es)) (all_typed fold.or_members or_members_typed es (booleans es all)))
    ∙ sym (ap (λ b. if b then Some ty.Boolean else None) all)

-- ---- one level

pub level_typed : (x : ExprLayer) → IsSome (expr_type (typed_level x)) → type_of (fold.expr_folded x) ≡ expr_type (typed_level x)
level_typed (Expr-F.Neg operand) typed = if_computed_typed (Expr-F.Neg operand) refl typed (fold.if_null (Expr-F.Neg operand)) (null_typed (Expr-F.Neg operand) refl typed)
level_typed (Expr-F.Sum terms) typed = if_computed_typed (Expr-F.Sum terms) refl typed (fold.if_null (Expr-F.Sum terms)) (null_typed (Expr-F.Sum terms) refl typed)
level_typed (Expr-F.Product factors) typed = if_computed_typed (Expr-F.Product factors) refl typed (fold.if_null (Expr-F.Product factors)) (null_typed (Expr-F.Product factors) refl typed)
level_typed (Expr-F.Concat pieces) typed = if_computed_typed (Expr-F.Concat pieces) refl typed (fold.if_null (Expr-F.Concat pieces)) (null_typed (Expr-F.Concat pieces) refl typed)
level_typed (Expr-F.Compare op left right) typed = if_computed_typed (Expr-F.Compare op left right) refl typed (fold.if_null (Expr-F.Compare op left right)) (null_typed (Expr-F.Compare op left right) refl typed)
level_typed (Expr-F.And es) typed = if_computed_typed (Expr-F.And es) refl typed (fold.folded_and es) (and_typed es typed)
level_typed (Expr-F.Or es) typed = if_computed_typed (Expr-F.Or es) refl typed (fold.folded_or es) (or_typed es typed)
level_typed (Expr-F.Col rel col t nulled) typed = type_at (Expr-F.Col rel col t nulled)
level_typed (Expr-F.Lit v t) typed = type_at (Expr-F.Lit v t)
level_typed (Expr-F.Place inner rels) typed = type_at (Expr-F.Place inner rels)
level_typed (Expr-F.Exists sub query) typed = type_at (Expr-F.Exists sub query)
level_typed (Expr-F.InSub sub operand query) typed = type_at (Expr-F.InSub sub operand query)
level_typed x typed = if_computed_typed x refl typed (roll-Expr x) (type_at x)

-- ---- trees, and the whole

abbrev pub folded_order : Order → Order
folded_order = fold-Order Expr JoinTree Order Output Query fold.expr_folded fold.tree_folded roll-Order roll-Output fold.query_folded

abbrev pub folded_output : Output → Output
folded_output = fold-Output Expr JoinTree Order Output Query fold.expr_folded fold.tree_folded roll-Order roll-Output fold.query_folded

no_members : fold.and_members (fold.expr_folded (Expr-F.And [])) ≡ []
no_members = simp runs

conditions_typed : (es : List Expr) → are_conditions (map type_of es) ≡ true → are_conditions (map type_of (fold.conditions_folded es)) ≡ true
conditions_typed [] h = ap (λ xs. are_conditions (map type_of xs)) no_members
conditions_typed (e ∷ es) h =
    let whole = level_typed (Expr-F.And (e ∷ es)) (ap (λ b. is_some (if b then Some ty.Boolean else None)) h) ∙ ap (λ b. if b then Some ty.Boolean else None) h in
    boolean_list (fold.conditions_folded (e ∷ es)) (and_members_typed (fold.expr_folded (Expr-F.And (e ∷ es))) whole)

-- a list of conditions that was typed is typed when it is folded
conditions_same : (es : List Expr) → are_conditions (map type_of es) ≡ true → are_conditions (map type_of (fold.conditions_folded es)) ≡ are_conditions (map type_of es)
conditions_same es h = conditions_typed es h ∙ sym h

abbrev tree_level : JoinTreeLayer → JoinTree-F Typed Bool Typed TypedOutput TypedQuery
tree_level = map-JoinTree Expr JoinTree Order Output Query Typed Bool Typed TypedOutput TypedQuery type_of tree_is_typed typed_order typed_output typed_query

tree_at : (x : JoinTreeLayer) → tree_is_typed (roll-JoinTree x) ≡ tree_typed (tree_level x)
tree_at = fold-roll-JoinTree Typed Bool Typed TypedOutput TypedQuery expr_type tree_typed order_typed output_typed query_typed

join_typed : (kind other : JoinKind) (left right : JoinTree) (on : List Expr) → tree_typed (tree_level (JoinTree-F.Join kind left right on)) ≡ true → tree_is_typed (roll-JoinTree (JoinTree-F.Join other left right (fold.conditions_folded on))) ≡ tree_typed (tree_level (JoinTree-F.Join kind left right on))
join_typed kind other left right on h = tree_at (JoinTree-F.Join other left right (fold.conditions_folded on))
    ∙ ap (λ b. tree_is_typed left && (tree_is_typed right && b)) (conditions_same on (and_right (tree_is_typed right) (are_conditions (map type_of on)) (and_right (tree_is_typed left) (tree_is_typed right && are_conditions (map type_of on)) h)))

turned : (a b c : Bool) → (b && (a && c)) ≡ (a && (b && c))
turned true true c = refl
turned true false c = refl
turned false true c = refl
turned false false c = refl

tree_kept : (x : JoinTreeLayer) → tree_typed (tree_level x) ≡ true → tree_is_typed (fold.tree_folded x) ≡ tree_typed (tree_level x)
tree_kept (JoinTree-F.Join join.Right left right on) h =
    tree_at (JoinTree-F.Join join.Left right left (fold.conditions_folded on))
    ∙ turned (tree_is_typed left) (tree_is_typed right) (are_conditions (map type_of (fold.conditions_folded on)))
    ∙ ap (λ b. tree_is_typed left && (tree_is_typed right && b)) (conditions_same on (and_right (tree_is_typed right) (are_conditions (map type_of on)) (and_right (tree_is_typed left) (tree_is_typed right && are_conditions (map type_of on)) h)))
tree_kept (JoinTree-F.Join kind left right on) h = join_typed kind kind left right on h
tree_kept (JoinTree-F.From members conds) h = tree_at (JoinTree-F.From members (fold.conditions_folded conds))
    ∙ ap (λ b. list_all is_true_test (map tree_is_typed members) && b) (conditions_same conds (and_right (list_all is_true_test (map tree_is_typed members)) (are_conditions (map type_of conds)) h))
tree_kept x h = tree_at x

abbrev query_level : QueryLayer → Query-F Typed Bool Typed TypedOutput TypedQuery
query_level = map-Query Expr JoinTree Order Output Query Typed Bool Typed TypedOutput TypedQuery type_of tree_is_typed typed_order typed_output typed_query

query_kept : (x : QueryLayer) → (query_typed (query_level x)).is_typed ≡ true → typed_query (fold.query_folded x) ≡ query_typed (query_level x)
query_kept x h =
    let parts = query_parts (query_level x) h in
    let low = and_left (are_conditions (map type_of x.conds)) (list_all is_some (map typed_order x.order)) (and_right (tree_is_typed x.tree) (are_conditions (map type_of x.conds) && list_all is_some (map typed_order x.order)) (and_right (list_all output_is_typed (map typed_output x.columns)) (tree_is_typed x.tree && (are_conditions (map type_of x.conds) && list_all is_some (map typed_order x.order))) h)) in
    fold-roll-Query Typed Bool Typed TypedOutput TypedQuery expr_type tree_typed order_typed output_typed query_typed (record x { conds = fold.conditions_folded x.conds })
    ∙ ap (λ b. record { is_typed = list_all output_is_typed (map typed_output x.columns) && (tree_is_typed x.tree && (b && list_all is_some (map typed_order x.order))); outputs = map output_type (map typed_output x.columns) }) (conditions_same x.conds low)

-- ---- the induction

abbrev ExprKept : Unit {0} → Expr → Type 0
ExprKept s x = type_of (fold.folded_expr x) ≡ type_of x

abbrev TreeKept : Unit {0} → JoinTree → Type 0
TreeKept s x = tree_is_typed (fold.folded_tree x) ≡ tree_is_typed x

abbrev OrderKept : Unit {0} → Order → Type 0
OrderKept s x = typed_order (folded_order x) ≡ typed_order x

abbrev OutputKept : Unit {0} → Output → Type 0
OutputKept s x = typed_output (folded_output x) ≡ typed_output x

abbrev QueryKept : Unit {0} → Query → Type 0
QueryKept s x = typed_query (fold.folded x) ≡ typed_query x

abbrev pub expr_parts_folded : ExprLayer → ExprLayer
expr_parts_folded = map-Expr Expr JoinTree Order Output Query Expr JoinTree Order Output Query fold.folded_expr fold.folded_tree folded_order folded_output fold.folded

abbrev pub tree_parts_folded : JoinTreeLayer → JoinTreeLayer
tree_parts_folded = map-JoinTree Expr JoinTree Order Output Query Expr JoinTree Order Output Query fold.folded_expr fold.folded_tree folded_order folded_output fold.folded

abbrev pub query_parts_folded : QueryLayer → QueryLayer
query_parts_folded = map-Query Expr JoinTree Order Output Query Expr JoinTree Order Output Query fold.folded_expr fold.folded_tree folded_order folded_output fold.folded

steps : StepsUnder (Unit {0}) same_place place_above IsTypedExprAt IsTypedTreeAt IsTypedOrderAt IsTypedOutputAt IsTypedQueryAt typed_down ExprKept TreeKept OrderKept OutputKept QueryKept
steps = record {
  expr = λ s x c ps subs.
      let same : typed_level (expr_parts_folded x) ≡ typed_level x = expr_twice type_of tree_is_typed typed_order typed_output typed_query fold.folded_expr fold.folded_tree folded_order folded_output fold.folded type_of tree_is_typed typed_order typed_output typed_query x ps subs in
      let here = type_at x ∙ sym (ap expr_type same) in
      ap type_of (fold-roll-Expr Expr JoinTree Order Output Query fold.expr_folded fold.tree_folded roll-Order roll-Output fold.query_folded x) ∙ level_typed (expr_parts_folded x) (subst IsSome here c) ∙ sym here;
  tree = λ s x c ts cs sub.
      let same : tree_level (tree_parts_folded x) ≡ tree_level x = tree_twice type_of tree_is_typed typed_order typed_output typed_query fold.folded_expr fold.folded_tree folded_order folded_output fold.folded type_of tree_is_typed typed_order typed_output typed_query x ts cs sub in
      let here = tree_at x ∙ sym (ap tree_typed same) in
      ap tree_is_typed (fold-roll-JoinTree Expr JoinTree Order Output Query fold.expr_folded fold.tree_folded roll-Order roll-Output fold.query_folded x) ∙ tree_kept (tree_parts_folded x) (sym here ∙ c) ∙ sym here;
  order = λ s x c h. ap typed_order (fold-roll-Order Expr JoinTree Order Output Query fold.expr_folded fold.tree_folded roll-Order roll-Output fold.query_folded x)
      ∙ fold-roll-Order Typed Bool Typed TypedOutput TypedQuery expr_type tree_typed order_typed output_typed query_typed (record { expr = fold.folded_expr x.expr; desc = x.desc; nulls_first = x.nulls_first }) ∙ h
      ∙ sym (fold-roll-Order Typed Bool Typed TypedOutput TypedQuery expr_type tree_typed order_typed output_typed query_typed x);
  output = λ s x c h. ap typed_output (fold-roll-Output Expr JoinTree Order Output Query fold.expr_folded fold.tree_folded roll-Order roll-Output fold.query_folded x)
      ∙ fold-roll-Output Typed Bool Typed TypedOutput TypedQuery expr_type tree_typed order_typed output_typed query_typed (record { name = x.name; ty = x.ty; expr = fold.folded_expr x.expr }) ∙ (λ i. record { is_typed = is_of x.ty (h i); type = x.ty })
      ∙ sym (fold-roll-Output Typed Bool Typed TypedOutput TypedQuery expr_type tree_typed order_typed output_typed query_typed x);
  query = λ s x c us t es os.
      let same : query_level (query_parts_folded x) ≡ query_level x = query_twice type_of tree_is_typed typed_order typed_output typed_query fold.folded_expr fold.folded_tree folded_order folded_output fold.folded type_of tree_is_typed typed_order typed_output typed_query x us t es os in
      let here = fold-roll-Query Typed Bool Typed TypedOutput TypedQuery expr_type tree_typed order_typed output_typed query_typed x ∙ sym (ap query_typed same) in
      ap typed_query (fold-roll-Query Expr JoinTree Order Output Query fold.expr_folded fold.tree_folded roll-Order roll-Output fold.query_folded x) ∙ query_kept (query_parts_folded x) (subst IsTypedInner here c) ∙ sym here;
}

pub expr_type_kept : (x : Expr) → IsSome (type_of x) → type_of (fold.folded_expr x) ≡ type_of x
expr_type_kept x = under_expr (Unit {0}) same_place place_above IsTypedExprAt IsTypedTreeAt IsTypedOrderAt IsTypedOutputAt IsTypedQueryAt typed_down ExprKept TreeKept OrderKept OutputKept QueryKept steps x tt

pub tree_type_kept : (x : JoinTree) → tree_is_typed x ≡ true → tree_is_typed (fold.folded_tree x) ≡ true
tree_type_kept x h = under_tree (Unit {0}) same_place place_above IsTypedExprAt IsTypedTreeAt IsTypedOrderAt IsTypedOutputAt IsTypedQueryAt typed_down ExprKept TreeKept OrderKept OutputKept QueryKept steps x tt h ∙ h

pub query_type_kept : (x : Query) → (typed_query x).is_typed ≡ true → typed_query (fold.folded x) ≡ typed_query x
query_type_kept x = under_query (Unit {0}) same_place place_above IsTypedExprAt IsTypedTreeAt IsTypedOrderAt IsTypedOutputAt IsTypedQueryAt typed_down ExprKept TreeKept OrderKept OutputKept QueryKept steps x tt
