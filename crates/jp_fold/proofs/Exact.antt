-- What the code makes is what folding is, for a typed and bounded query.
use Rattle.std.proofs.Common.{◌≡◌, ◌∙◌, ap, sym, subst, refl, ℕ, ◌+◌, ◌*◌, ◌≤◌, max, Bool, true, false, ◌&&◌, List, [], ◌∷◌, ◌++◌, map, fold, Option, Some, None, IsSome, is_some, arith}
use Rattle.std.specs.Prelude.{if◌then◌else◌, All}
use Rattle.std.specs.List.{list_all}
use Rattle.std.proofs.lemmas.Bool.Decides.{nat_tests}
use Rattle.std.proofs.lemmas.Nat.{mul-le}
use Rattle.jp_base.specs.declared.values.Ty.{Ty}
use Rattle.jp_base.specs.declared.values.Ty.TheVariants as ty
use Rattle.jp_base.specs.declared.values.Value.{Value}
use Rattle.jp_base.specs.declared.values.Value.TheVariants as value
use Rattle.jp_query.specs.declared.Expr.{Expr, out-Expr}
use Rattle.jp_query.specs.declared.JoinTree.{JoinTree}
use Rattle.jp_query.specs.declared.Order.{Order}
use Rattle.jp_query.specs.declared.Output.{Output}
use Rattle.jp_query.specs.declared.Query.{Query}
use Rattle.jp_query.specs.declared.Expr.TheOpen.{Expr-F}
use Rattle.jp_query.specs.declared.Expr.TheShapes.{former-Expr-Case-0}
use Rattle.jp_query.specs.declared.Expr.TheViews.{roll-Expr, roll-out-Expr, out-roll-Expr}
use Rattle.jp_query.specs.declared.Expr.TheFolds.{fold-JoinTree, fold-Order, fold-Output, fold-Query, map-Expr, fold-roll-Expr}
use Rattle.jp_query.specs.Layers.{ExprLayer}
use Rattle.jp_query.specs.Meaning.{no_tables, no_outer_rows, value_given}
use Rattle.jp_query.specs.Parts.{all_in, option_part, parts, sublink_query, term_part, arm_parts, node_column, node_placeholder}
use Rattle.jp_query.specs.Scopes.{Column, Schema, Entry, Scope, BoundIn, EntriesIn, ColumnIn, ColumnsIn, magnitude, in_scope, arm_result, expr_bound, tree_entries, order_bound, output_column, query_columns, bound_of}
use Rattle.jp_query.specs.Tables.{IsWithin}
use Rattle.jp_query.specs.Typing.{Typed, typed_if, is_of, is_literal, one_type, are_whens, arm_when, expr_type, type_of}
use Rattle.jp_query.specs.Conditions.{Tests, Judged, expr_judged, tree_judged, order_judged, output_judged, query_judged, judged_expr, judged_tree, judged_query, judged_value, passes_in, knows_columns, keeps_bounds, fits}
use Rattle.jp_query.specs.Fitting.{IsCellAt, IsLent, own_ins, InQuery, expr_own_ins, node_in}
use Rattle.jp_laws.proofs.EachPart.{Each, all_of_each, parts_map, sublink_map}
use Rattle.jp_laws.proofs.JudgedLaws.{expr_passes, judged_order_by, judged_output_by}
use Rattle.jp_laws.proofs.JudgedValues.{bound_judged}
use Rattle.jp_laws.proofs.OwnColumns.{column_map}
use Rattle.jp_laws.proofs.ValueLaws.{and_left, and_right}
use Rattle.jp_folding.specs.Folding as fold
use Rattle.jp_folding.proofs.TypeLaws.{typed_level, type_at, computed_fits, none_of_level, expr_parts_folded}
use Rattle.jp_eval.proofs.ExactLaws.{exact}
use Rattle.jp_eval.proofs.NumberLaws.{most}
use Rattle.jp_eval.specs.Evaluation.{CanEvaluate}
use Rattle.jp_fold.specs.InBits as bits
use Rattle.jp_fold.proofs.BoundedDown.{GoodExpr}

-- ---- bounds grow with the bounds of the parts

abbrev pub AreBelow : List ℕ → List ℕ → Type 0
AreBelow [] [] = Unit {0}
AreBelow (n ∷ ns) (m ∷ ms) = (n ≤ m) × AreBelow ns ms
AreBelow _ _ = ⊥

below_both : (ks ls cs ds : List ℕ) → AreBelow ks ls → AreBelow cs ds → AreBelow (ks ++ cs) (ls ++ ds)
below_both [] [] cs ds p q = q
below_both [] (b ∷ ls) cs ds p q = absurd p
below_both (a ∷ ks) [] cs ds p q = absurd p
below_both (a ∷ ks) (b ∷ ls) cs ds p q = (p.0, below_both ks ls cs ds p.1 q)

pub sum_grows : (n m : ℕ) (ns ms : List ℕ) → n ≤ m → AreBelow ns ms → fold (λ a x. a + x) n ns ≤ fold (λ a x. a + x) m ms
sum_grows n m [] [] h p = h
sum_grows n m [] (b ∷ ls) h p = absurd p
sum_grows n m (a ∷ ks) [] h p = absurd p
sum_grows n m (a ∷ ks) (b ∷ ls) h p = sum_grows (n + a) (m + b) ks ls (omega (arith, h, p.0)) p.1

pub product_grows : (n m : ℕ) (ns ms : List ℕ) → n ≤ m → AreBelow ns ms → fold ◌*◌ n ns ≤ fold ◌*◌ m ms
product_grows n m [] [] h p = h
product_grows n m [] (b ∷ ls) h p = absurd p
product_grows n m (a ∷ ks) [] h p = absurd p
product_grows n m (a ∷ ks) (b ∷ ls) h p = product_grows (n * a) (m * b) ks ls (mul-le n a m b h p.0) p.1

pub greatest_grows : (n m : ℕ) (ns ms : List ℕ) → n ≤ m → AreBelow ns ms → fold max n ns ≤ fold max m ms
greatest_grows n m [] [] h p = h
greatest_grows n m [] (b ∷ ls) h p = absurd p
greatest_grows n m (a ∷ ks) [] h p = absurd p
greatest_grows n m (a ∷ ks) (b ∷ ls) h p = greatest_grows (max n a) (max m b) ks ls (omega (arith, h, p.0)) p.1

small_of : (n : ℕ) → fits n ≡ true → n ≤ most
small_of n h = grind (arith, nat_tests)

fits_of : (n : ℕ) → n ≤ most → fits n ≡ true
fits_of n h = grind (arith, nat_tests)

-- ---- literals

literal_is : (e : Expr) (v : Value) → fold.literal_of e ≡ Some v → (t : Ty) × (e ≡ fold.literal v t)
literal_is e v h = let found = at (out-Expr e) h in (found.0, sym (roll-out-Expr e) ∙ ap roll-Expr found.1)
  where
    at : (x : ExprLayer) → fold.literal_at x ≡ Some v → (t : Ty) × (x ≡ Expr-F.Lit v t)
    at (Expr-F.Lit w t) p = (t, ap (λ u. Expr-F.Lit u t) (some_same w v p))
      where
        some_same : (a b : Value) → Some a ≡ Some b → a ≡ b
        some_same a b q = cc
    at x p = cc

some_literal : (o : Option Value) → is_some o ≡ true → (v : Value) × (o ≡ Some v)
some_literal (Some v) h = (v, refl)
some_literal None h = cc

within : (n : ℕ) (v : Value) → IsWithin n v → magnitude v ≤ n
within n value.Null h = omega arith
within n (value.Num a) h = h
within n (value.Bool b) h = omega arith
within n (value.Text t) h = omega arith

-- a boolean has no magnitude
boolean_magnitude : (v : Value) (t : Ty) → typed_if (is_literal v t) t ≡ Some ty.Boolean → magnitude v ≤ 0
boolean_magnitude value.Null t h = omega arith
boolean_magnitude (value.Num a) ty.Number h = cc
boolean_magnitude (value.Num a) ty.Boolean h = cc
boolean_magnitude (value.Num a) ty.Text h = cc
boolean_magnitude (value.Bool b) t h = omega arith
boolean_magnitude (value.Text s) t h = omega arith

-- ---- levels of literals can be evaluated

module _ {A B C D F A' B' C' D' F' : Type 0} (a : A → A') (b : B → B') (c : C → C') (d : D → D') (q : F → F') where
  placeholder_map : (x : Expr-F A B C D F) → node_placeholder (map-Expr A B C D F A' B' C' D' F' a b c d q x) ≡ node_placeholder x
  placeholder_map (Expr-F.Place inner rels) = refl
  placeholder_map x = refl

abbrev pub bound_level : Schema → ExprLayer → Expr-F BoundIn EntriesIn BoundIn ColumnIn ColumnsIn
bound_level schema x = map-Expr Expr JoinTree Order Output Query BoundIn EntriesIn BoundIn ColumnIn ColumnsIn (bound_of schema)
    (fold-JoinTree BoundIn EntriesIn BoundIn ColumnIn ColumnsIn expr_bound (tree_entries schema) order_bound output_column query_columns)
    (fold-Order BoundIn EntriesIn BoundIn ColumnIn ColumnsIn expr_bound (tree_entries schema) order_bound output_column query_columns)
    (fold-Output BoundIn EntriesIn BoundIn ColumnIn ColumnsIn expr_bound (tree_entries schema) order_bound output_column query_columns)
    (fold-Query BoundIn EntriesIn BoundIn ColumnIn ColumnsIn expr_bound (tree_entries schema) order_bound output_column query_columns) x

pub bound_at : (schema : Schema) (x : ExprLayer) → bound_of schema (roll-Expr x) ≡ expr_bound (bound_level schema x)
bound_at schema = fold-roll-Expr BoundIn EntriesIn BoundIn ColumnIn ColumnsIn expr_bound (tree_entries schema) order_bound output_column query_columns

literal_bound : (e : Expr) (v : Value) → fold.literal_of e ≡ Some v → bound_of [] e [] ≡ magnitude v
literal_bound e v h = let found = literal_is e v h in ap (λ d. bound_of [] d []) found.1 ∙ ap (λ (b : BoundIn). b []) (bound_at [] (Expr-F.Lit v found.0))

module _ (tests : Tests) where
  judged_at : (x : ExprLayer) → judged_expr [] tests (roll-Expr x) ≡ expr_judged [] tests (map-Expr Expr JoinTree Order Output Query (Judged ℕ) (Judged (List Entry)) (Judged ℕ) (Judged Column) (Judged (List Column)) (judged_expr [] tests) (judged_tree [] tests) (judged_order_by [] tests) (judged_output_by [] tests) (judged_query [] tests) x)
  judged_at = fold-roll-Expr (Judged ℕ) (Judged (List Entry)) (Judged ℕ) (Judged Column) (Judged (List Column)) (expr_judged [] tests) (tree_judged [] tests) (order_judged [] tests) (output_judged [] tests) (query_judged [] tests)

  all_pass : (es : List Expr) → Each (λ e. (judged_expr [] tests e).passes [] ≡ true) es → list_all (passes_in []) (map (judged_expr [] tests) es) ≡ true
  all_pass [] h = refl
  all_pass (e ∷ es) h = λ i. h.0 i && all_pass es h.1 i

  level_passes : (x : ExprLayer) → node_column x ≡ [] → node_placeholder x ≡ [] → option_part (sublink_query x) ≡ [] → tests.bound (bound_of [] (roll-Expr x) []) ≡ true → Each (λ e. (judged_expr [] tests e).passes [] ≡ true) (parts x) → (judged_expr [] tests (roll-Expr x)).passes [] ≡ true
  level_passes x no_column no_place no_sub low inner =
      let bound = sym (ap (λ (b : BoundIn). tests.bound (b [])) (sym (ap judged_value (judged_at x)) ∙ bound_judged [] tests (roll-Expr x))) in
      ap (λ (j : Judged ℕ). j.passes []) (judged_at x)
      ∙ (λ i. (sym bound ∙ low) i && (list_all (tests.column []) ((column_map (judged_expr [] tests) (judged_tree [] tests) (judged_order_by [] tests) (judged_output_by [] tests) (judged_query [] tests) x ∙ no_column) i)
      && (list_all (tests.placeholder []) ((placeholder_map (judged_expr [] tests) (judged_tree [] tests) (judged_order_by [] tests) (judged_output_by [] tests) (judged_query [] tests) x ∙ no_place) i)
      && ((ap (list_all (passes_in [])) (parts_map (judged_expr [] tests) (judged_tree [] tests) (judged_order_by [] tests) (judged_output_by [] tests) (judged_query [] tests) x) ∙ all_pass (parts x) inner) i
      && list_all (passes_in []) ((sublink_map (judged_expr [] tests) (judged_tree [] tests) (judged_order_by [] tests) (judged_output_by [] tests) (judged_query [] tests) x ∙ ap (map (judged_query [] tests)) no_sub) i)))))

-- ---- an operator of literals

-- it stands where no column, placeholder or sublink does
pub record IsOperator (x : ExprLayer) : Type 0 where
  pub no_column : node_column x ≡ []
  pub no_place : node_placeholder x ≡ []
  pub no_sublink : option_part (sublink_query x) ≡ []
  pub no_in : (f : Expr → List InQuery) (t : JoinTree → Unit {0}) (o : Order → Unit {0}) (u : Output → Ty) (q : Query → List Ty) → node_in (map-Expr Expr JoinTree Order Output Query (List InQuery) (Unit {0}) (Unit {0}) Ty (List Ty) f t o u q x) ≡ []

module _ (x : ExprLayer) (op : IsOperator x) (alone : fold.has_literals_alone x ≡ true) (typed : IsSome (expr_type (typed_level x))) (low : bound_of [] (roll-Expr x) [] ≤ most) where
  known : type_of (roll-Expr x) ≡ Some (fold.type_at x)
  known = some_type (type_of (roll-Expr x)) (subst IsSome (sym (type_at x)) typed)
    where
      some_type : (o : Typed) → IsSome o → o ≡ Some (fold.type_or_text o)
      some_type (Some t) h = refl
      some_type None h = cc

  abbrev pub Small : Expr → Type 0
  Small e = (v : Value) → fold.literal_of e ≡ Some v → magnitude v ≤ most

  literal_passes : (tests : Tests) → ((n : ℕ) → n ≤ most → tests.bound n ≡ true) → (e : Expr) → fold.is_literal e ≡ true → Small e → (judged_expr [] tests e).passes [] ≡ true
  literal_passes tests good e is small =
      let some = some_literal (fold.literal_of e) is in
      let found = literal_is e some.0 some.1 in
      subst (λ d. (judged_expr [] tests d).passes [] ≡ true) (sym found.1)
      (level_passes tests (Expr-F.Lit some.0 found.0) refl refl refl (good (bound_of [] (fold.literal some.0 found.0) []) (subst (λ n. n ≤ most) (sym (ap (λ (b : BoundIn). b []) (bound_at [] (Expr-F.Lit some.0 found.0)))) (small some.0 some.1))) tt)

  literals_pass : (tests : Tests) → ((n : ℕ) → n ≤ most → tests.bound n ≡ true) → (es : List Expr) → list_all fold.is_literal es ≡ true → Each Small es → Each (λ e. (judged_expr [] tests e).passes [] ≡ true) es
  literals_pass tests good [] all small = tt
  literals_pass tests good (e ∷ es) all small = (literal_passes tests good e (and_left (fold.is_literal e) (list_all fold.is_literal es) all) small.0, literals_pass tests good es (and_right (fold.is_literal e) (list_all fold.is_literal es) all) small.1)

  no_ins : (e : Expr) → fold.is_literal e ≡ true → own_ins e ≡ []
  no_ins e is = let some = some_literal (fold.literal_of e) is in let found = literal_is e some.0 some.1 in
      ap own_ins found.1 ∙ fold-roll-Expr (List InQuery) (Unit {0}) (Unit {0}) Ty (List Ty) expr_own_ins (λ t. tt) (λ o. tt) (λ u. u.ty) (λ q. q.columns) (Expr-F.Lit some.0 found.0)

  all_no_ins : (es : List Expr) → list_all fold.is_literal es ≡ true → all_in (map own_ins es) ≡ []
  all_no_ins [] all = refl
  all_no_ins (e ∷ es) all = (λ i. no_ins e (and_left (fold.is_literal e) (list_all fold.is_literal es) all) i ++ all_in (map own_ins es)) ∙ all_no_ins es (and_right (fold.is_literal e) (list_all fold.is_literal es) all)

  can : Each Small (parts x) → CanEvaluate no_tables (roll-Expr x) no_outer_rows
  can small = record {
    schema = [];
    scope = [];
    typed = subst IsSome (sym (type_at x)) typed;
    columns = level_passes knows_columns x op.no_column op.no_place op.no_sublink refl (literals_pass knows_columns (λ n h. refl) (parts x) alone small);
    bounded = level_passes keeps_bounds x op.no_column op.no_place op.no_sublink (fits_of (bound_of [] (roll-Expr x) []) low) (literals_pass keeps_bounds fits_of (parts x) alone small);
    fits = record {
      cells = subst (All (IsCellAt [] no_outer_rows)) (sym (none_of_level x op.no_column alone)) (all_of_each (IsCellAt [] no_outer_rows) [] tt);
      lent = subst (All (IsLent no_tables)) (sym ins) (all_of_each (IsLent no_tables) [] tt);
    };
  }
    where
      tree_types : JoinTree → Unit {0}
      tree_types t = tt

      ins : own_ins (roll-Expr x) ≡ []
      ins = fold-roll-Expr (List InQuery) (Unit {0}) (Unit {0}) Ty (List Ty) expr_own_ins (λ t. tt) (λ o. tt) (λ u. u.ty) (λ q. q.columns) x
          ∙ ap (λ ns. ns ++ all_in (parts (map-Expr Expr JoinTree Order Output Query (List InQuery) (Unit {0}) (Unit {0}) Ty (List Ty) own_ins (λ t. tt) (λ o. tt)
          (fold-Output (List InQuery) (Unit {0}) (Unit {0}) Ty (List Ty) expr_own_ins (λ t. tt) (λ o. tt) (λ u. u.ty) (λ q. q.columns)) (fold-Query (List InQuery) (Unit {0}) (Unit {0}) Ty (List Ty) expr_own_ins (λ t. tt) (λ o. tt) (λ u. u.ty) (λ q. q.columns)) x)))
          (op.no_in own_ins (λ t. tt) (λ o. tt) (fold-Output (List InQuery) (Unit {0}) (Unit {0}) Ty (List Ty) expr_own_ins (λ t. tt) (λ o. tt) (λ u. u.ty) (λ q. q.columns)) (fold-Query (List InQuery) (Unit {0}) (Unit {0}) Ty (List Ty) expr_own_ins (λ t. tt) (λ o. tt) (λ u. u.ty) (λ q. q.columns)))
          ∙ ap all_in (parts_map own_ins (λ t. tt) (λ o. tt) (fold-Output (List InQuery) (Unit {0}) (Unit {0}) Ty (List Ty) expr_own_ins (λ t. tt) (λ o. tt) (λ u. u.ty) (λ q. q.columns)) (fold-Query (List InQuery) (Unit {0}) (Unit {0}) Ty (List Ty) expr_own_ins (λ t. tt) (λ o. tt) (λ u. u.ty) (λ q. q.columns)) x)
          ∙ all_no_ins (parts x) alone

  -- the literal that is made of it is the one of folding
  pub made_same : bits.kind_type x ≡ fold.type_at x → Each Small (parts x) → bits.made x ≡ fold.computed x
  made_same kind small = λ i. fold.literal (exact no_tables (roll-Expr x) no_outer_rows (can small) i) (kind i)

  -- and its magnitude is no more than its bound
  pub made_low : (v : Value) → fold.literal_of (fold.computed x) ≡ Some v → magnitude v ≤ bound_of [] (roll-Expr x) []
  made_low v h =
      let it = value_given no_tables (roll-Expr x) no_outer_rows in
      subst (λ w. magnitude w ≤ bound_of [] (roll-Expr x) []) (its it v (sym (ap fold.literal_at (out-roll-Expr (Expr-F.Lit it (fold.type_at x)))) ∙ h)) (within (bound_of [] (roll-Expr x) []) it (computed_fits x (fold.type_at x) op.no_column alone known).within)
    where
      its : (a b : Value) → Some a ≡ Some b → a ≡ b
      its a b h = cc

-- ---- the type of an operator of literals

pub if_some : (b : Bool) (t : Ty) → IsSome (typed_if b t) → typed_if b t ≡ Some t
if_some true t h = refl
if_some false t h = cc

pub type_is : (x : ExprLayer) (t : Ty) → expr_type (typed_level x) ≡ Some t → t ≡ fold.type_at x
type_is x t h = sym (ap fold.type_or_text (type_at x ∙ h))

first_type : (o : Typed) (os : List Typed) → IsSome (one_type (o ∷ os)) → one_type (o ∷ os) ≡ o
first_type None os h = cc
first_type (Some t) os h = if_some (list_all (is_of t) os) t h

guarded : (b : Bool) (o : Typed) → IsSome (if b then o else None) → (if b then o else None) ≡ o
guarded true o h = refl
guarded false o h = cc

literal_typed : (e : Expr) → fold.is_literal e ≡ true → IsSome (type_of e) → type_of e ≡ Some (bits.type_of_literal e)
literal_typed e is typed =
    let some = some_literal (fold.literal_of e) is in
    let found = literal_is e some.0 some.1 in
    let here : type_of (fold.literal some.0 found.0) ≡ typed_if (is_literal some.0 found.0) found.0 = type_at (Expr-F.Lit some.0 found.0) in
    ap type_of found.1 ∙ here ∙ if_some (is_literal some.0 found.0) found.0 (subst IsSome (ap type_of found.1 ∙ here) typed)
    ∙ ap Some (sym (ap bits.type_of_literal found.1 ∙ ap bits.type_of_level (out-roll-Expr (Expr-F.Lit some.0 found.0))))

all_right : (xs ys : List Expr) → list_all fold.is_literal (xs ++ ys) ≡ true → list_all fold.is_literal ys ≡ true
all_right [] ys h = h
all_right (x ∷ xs) ys h = all_right xs ys (and_right (fold.is_literal x) (list_all fold.is_literal (xs ++ ys)) h)

pub coalesce_kind : (es : List Expr) → IsSome (expr_type (typed_level (Expr-F.Coalesce es))) → fold.has_literals_alone (Expr-F.Coalesce es) ≡ true → bits.kind_type (Expr-F.Coalesce es) ≡ fold.type_at (Expr-F.Coalesce es)
coalesce_kind [] typed alone = cc
coalesce_kind (e ∷ es) typed alone =
    let first = first_type (type_of e) (map type_of es) typed in
    type_is (Expr-F.Coalesce (e ∷ es)) (bits.type_of_literal e) (first ∙ literal_typed e (and_left (fold.is_literal e) (list_all fold.is_literal es) alone) (subst IsSome first typed))

pub case_kind : (operand : Option Expr) (arms : List (Expr × Expr)) (otherwise : Option Expr) → IsSome (expr_type (typed_level (Expr-F.Case operand arms otherwise))) → fold.has_literals_alone (Expr-F.Case operand arms otherwise) ≡ true
    → bits.kind_type (Expr-F.Case operand arms otherwise) ≡ fold.type_at (Expr-F.Case operand arms otherwise)
case_kind None [] otherwise typed alone = cc
case_kind (Some operand) [] otherwise typed alone = cc
case_kind operand (arm ∷ arms) otherwise typed alone =
    let x = Expr-F.Case operand (arm ∷ arms) otherwise in
    let whens = are_whens ((former-Expr-Case-0).map Expr Typed type_of operand) (map arm_when (map (λ a. (type_of a.0, type_of a.1)) (arm ∷ arms))) in
    let rest = map arm_result (map (λ a. (type_of a.0, type_of a.1)) arms) ++ option_part ((former-Expr-Case-0).map Expr Typed type_of otherwise) in
    let inner : expr_type (typed_level x) ≡ one_type (type_of arm.1 ∷ rest) = guarded whens (one_type (type_of arm.1 ∷ rest)) typed in
    let first = inner ∙ first_type (type_of arm.1) rest (subst IsSome inner typed) in
    let there = all_right (option_part operand) (arm_parts (arm ∷ arms) ++ option_part otherwise) alone in
    let is = and_left (fold.is_literal arm.1) (list_all fold.is_literal (arm_parts arms ++ option_part otherwise)) (and_right (fold.is_literal arm.0) (list_all fold.is_literal (arm.1 ∷ (arm_parts arms ++ option_part otherwise))) there) in
    type_is x (bits.type_of_literal arm.1) (first ∙ literal_typed arm.1 is (subst IsSome first typed))

-- ---- levels

module _ (schema : Schema) (s : Scope) where
  -- a literal that an expression is folded to lies within the expression's bound
  abbrev pub Low : Expr → Type 0
  Low e = (v : Value) → fold.literal_of (fold.folded_expr e) ≡ Some v → magnitude v ≤ bound_of schema e s

  abbrev pub BoundLow : Expr → Type 0
  BoundLow e = bound_of [] (fold.folded_expr e) [] ≤ bound_of schema e s

  pub bounded_low : (e : Expr) → (judged_expr schema keeps_bounds e).passes s ≡ true → bound_of schema e s ≤ most
  bounded_low e h = small_of (bound_of schema e s) (subst (λ d. fits (bound_of schema d s) ≡ true) (roll-out-Expr e) (at (out-Expr e) (subst (λ d. (judged_expr schema keeps_bounds d).passes s ≡ true) (sym (roll-out-Expr e)) h)))
    where
      at : (x : ExprLayer) → (judged_expr schema keeps_bounds (roll-Expr x)).passes s ≡ true → fits (bound_of schema (roll-Expr x) s) ≡ true
      at x p =
          let level = map-Expr Expr JoinTree Order Output Query (Judged ℕ) (Judged (List Entry)) (Judged ℕ) (Judged Column) (Judged (List Column)) (judged_expr schema keeps_bounds) (judged_tree schema keeps_bounds) (judged_order_by schema keeps_bounds) (judged_output_by schema keeps_bounds) (judged_query schema keeps_bounds) x in
          let rolls = fold-roll-Expr (Judged ℕ) (Judged (List Entry)) (Judged ℕ) (Judged Column) (Judged (List Column)) (expr_judged schema keeps_bounds) (tree_judged schema keeps_bounds) (order_judged schema keeps_bounds) (output_judged schema keeps_bounds) (query_judged schema keeps_bounds) x in
          let good = expr_passes schema keeps_bounds s level (subst (λ (j : Judged ℕ). j.passes s ≡ true) rolls p) in
          subst (λ (b : BoundIn). fits (b s) ≡ true) (sym (ap judged_value rolls) ∙ bound_judged schema keeps_bounds (roll-Expr x)) good.bound

  pub literals_low : (es : List Expr) → list_all fold.is_literal (map fold.folded_expr es) ≡ true → Each Low es → Each BoundLow es
  literals_low [] h low = tt
  literals_low (e ∷ es) h low =
      let some = some_literal (fold.literal_of (fold.folded_expr e)) (and_left (fold.is_literal (fold.folded_expr e)) (list_all fold.is_literal (map fold.folded_expr es)) h) in
      (subst (λ n. n ≤ bound_of schema e s) (sym (literal_bound (fold.folded_expr e) some.0 some.1)) (low.0 some.0 some.1), literals_low es (and_right (fold.is_literal (fold.folded_expr e)) (list_all fold.is_literal (map fold.folded_expr es)) h) low.1)

  pub smalls : (es : List Expr) → Each Low es → Each (GoodExpr schema s) es → Each (λ e. (v : Value) → fold.literal_of e ≡ Some v → magnitude v ≤ most) (map fold.folded_expr es)
  smalls [] low good = tt
  smalls (e ∷ es) low good = ((λ v h. omega (arith, low.0 v h, bounded_low e good.0.1)), smalls es low.1 good.1)

  pub exprs_below : (es : List Expr) → Each BoundLow es → AreBelow (map (in_scope []) (map (bound_of []) (map fold.folded_expr es))) (map (in_scope s) (map (bound_of schema) es))
  exprs_below [] h = tt
  exprs_below (e ∷ es) h = (h.0, exprs_below es h.1)

  pub terms_below : (terms : List (Bool × Expr)) → Each BoundLow (map term_part terms)
      → AreBelow (map (in_scope []) (map term_part (map (λ (t : Bool × Expr). (t.0, bound_of [] t.1)) (map (λ (t : Bool × Expr). (t.0, fold.folded_expr t.1)) terms)))) (map (in_scope s) (map term_part (map (λ (t : Bool × Expr). (t.0, bound_of schema t.1)) terms)))
  terms_below [] h = tt
  terms_below (t ∷ terms) h = (h.0, terms_below terms h.1)

  pub arms_below : (arms : List (Expr × Expr)) (otherwise : Option Expr) → Each BoundLow (arm_parts arms) → Each BoundLow (option_part otherwise)
      → AreBelow (map (in_scope []) (map arm_result (map (λ (a : Expr × Expr). (bound_of [] a.0, bound_of [] a.1)) (map (λ (a : Expr × Expr). (fold.folded_expr a.0, fold.folded_expr a.1)) arms)) ++ option_part ((former-Expr-Case-0).map Expr BoundIn (bound_of []) ((former-Expr-Case-0).map Expr Expr fold.folded_expr otherwise))))
      (map (in_scope s) (map arm_result (map (λ (a : Expr × Expr). (bound_of schema a.0, bound_of schema a.1)) arms) ++ option_part ((former-Expr-Case-0).map Expr BoundIn (bound_of schema) otherwise)))
  arms_below [] None h k = tt
  arms_below [] (Some e) h k = (k.0, tt)
  arms_below (a ∷ arms) otherwise h k = (h.1.0, arms_below arms otherwise h.1.1 k)

  abbrev pub At : ExprLayer → Type 0
  At x = bound_of [] (roll-Expr (expr_parts_folded x)) [] ≤ bound_of schema (roll-Expr x) s

  pub low_at : (x : ExprLayer) → expr_bound (bound_level [] (expr_parts_folded x)) [] ≤ expr_bound (bound_level schema x) s → At x
  low_at x h = subst (λ n. n ≤ bound_of schema (roll-Expr x) s) (sym (ap (λ (b : BoundIn). b []) (bound_at [] (expr_parts_folded x)))) (subst (λ n. expr_bound (bound_level [] (expr_parts_folded x)) [] ≤ n) (sym (ap (λ (b : BoundIn). b s) (bound_at schema x))) h)
