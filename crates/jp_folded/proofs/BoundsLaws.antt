-- A folded expression's number has no greater bound, and a bounded query is bounded when it is folded.
use Rattle.std.proofs.Common.{◌≡◌, ◌∙◌, ap, sym, subst, refl, ℕ, zero, suc, ◌≤◌, ◌-◌, ◌^◌, Bool, true, false, List, [], ◌∷◌, map, nat_lt, Some, None, IsSome, is_some, arith}
use Rattle.std.specs.Prelude.{if◌then◌else◌, slice_get}
use Rattle.std.specs.List.{list_any}
use Rattle.std.proofs.lemmas.Bool.{leb-true, le-leb}
use Rattle.jp_base.specs.declared.values.Ty.{Ty}
use Rattle.jp_base.specs.declared.values.Ty.TheVariants as ty
use Rattle.jp_base.specs.declared.values.Value.{Value}
use Rattle.jp_base.specs.declared.values.Value.TheVariants as value
use Rattle.jp_base.specs.declared.truth.Truth.{Truth}
use Rattle.jp_base.specs.declared.truth.Truth.TheVariants.{True, False, Unknown}
use Rattle.jp_query.specs.declared.Expr.{Expr, out-Expr}
use Rattle.jp_query.specs.declared.JoinTree.{JoinTree}
use Rattle.jp_query.specs.declared.Order.{Order}
use Rattle.jp_query.specs.declared.Output.{Output}
use Rattle.jp_query.specs.declared.Query.{Query}
use Rattle.jp_query.specs.declared.Expr.TheOpen.{Expr-F}
use Rattle.jp_query.specs.declared.Expr.TheViews.{roll-Expr, roll-Order, roll-Output, roll-Query, roll-out-Expr}
use Rattle.jp_query.specs.declared.Expr.TheFolds.{fold-roll-Expr, fold-roll-Output}
use Rattle.jp_query.specs.Layers.{ExprLayer, OutputLayer, QueryLayer}
use Rattle.jp_query.specs.Meaning.{no_tables, no_outer_rows, value_given}
use Rattle.jp_query.specs.Operators.{value_of_truth}
use Rattle.jp_query.specs.Parts.{option_part, parts, sublink_query, trees, conditions, leaf_query, node_column, node_placeholder, ColumnRef, term_part}
use Rattle.jp_query.specs.Scopes.{Column, Schema, Scope, visible_columns, visible_column, bound_of_column, magnitude, bound_of}
use Rattle.jp_query.specs.Conditions.{fits, has_type, sees_column, keeps_bounds, knows_columns}
use Rattle.jp_query.specs.Typing.{Typed, TypedOutput, TypedQuery, are_all, typed_if, type_of, expr_type, tree_typed, order_typed, output_typed, query_typed, typed_query, tree_is_typed}
use Rattle.jp_induction.specs.HandedDown.{HandsDown}
use Rattle.jp_induction.proofs.HandedDown as under
use Rattle.jp_induction.proofs.Levels.{expr_twice}
use Rattle.jp_laws.proofs.EachPart.{Each, each_both, each_weaker, each_map, each_true, parts_map, sublink_map}
use Rattle.jp_laws.proofs.GatheredLaws.{when_some, typed_order, typed_output}
use Rattle.jp_laws.proofs.ValuesFit.{Fits, same, typed_when, is_of_some}
use Rattle.jp_folding.specs.Folding as fold
use Rattle.jp_folding.proofs.FineDown as fine
use Rattle.jp_folding.proofs.Runs.{value_rolls}
use Rattle.jp_folding.proofs.TypeLaws.{typed_level, type_at, computed_fits, expr_type_kept, query_type_kept, folded_order, folded_output, expr_parts_folded}
use Rattle.jp_folded.proofs.LevelLaws as levels
use Rattle.jp_folded.proofs.ScopeLaws as scopes
use Rattle.jp_folded.proofs.JudgedMade as made
use Rattle.jp_folded.proofs.EntriesLaws as entries
use Rattle.jp_folded.proofs.TreesLaws as over
use Rattle.jp_folded.proofs.NumberLaws.{bound_parts, number_of, here, bound_at, number_after, no_greater, greatest_within, of_parts, IsNumber, numbers_in}

-- ---- the limit

limit : ℕ
limit = 2 ^ 127 - 1

abbrev IsFitting : ℕ → Type 0
IsFitting n = fits n ≡ true

lower_fits : (m n : ℕ) → m ≤ n → IsFitting n → IsFitting m
lower_fits m n h k = let below : n ≤ 2 ^ 127 - 1 = leb-true n (2 ^ 127 - 1) k in le-leb m (2 ^ 127 - 1) (omega (arith, h, below))

to_limit : (n : ℕ) → IsFitting n → n ≤ 2 ^ 127 - 1
to_limit n k = leb-true n (2 ^ 127 - 1) k

from_limit : (n : ℕ) → n ≤ 2 ^ 127 - 1 → IsFitting n
from_limit n h = le-leb n (2 ^ 127 - 1) h

none_fits : IsFitting 0
none_fits = from_limit 0 (omega arith)

-- ---- columns

pub record IsLesser (c d : Column) : Type 0 where
  pub type : c.type ≡ d.type
  pub number : d.type ≡ ty.Number → c.bound ≤ d.bound
  pub fitting : IsFitting d.bound → IsFitting c.bound

itself : (c : Column) → IsLesser c c
itself c = record { type = refl; number = λ h. omega arith; fitting = λ h. h }

abbrev Stands : Scope → Scope → Type 0
Stands s' s = scopes.Stands IsLesser s' s

at_place : (cs ds : List Column) (k : ℕ) → scopes.AreAlike IsLesser cs ds → IsFitting (bound_of_column (slice_get ds k)) → IsFitting (bound_of_column (slice_get cs k))
at_place [] [] k h g = g
at_place [] (d ∷ ds) k h g = absurd h
at_place (c ∷ cs) [] k h g = absurd h
at_place (c ∷ cs) (d ∷ ds) zero h g = h.0.fitting g
at_place (c ∷ cs) (d ∷ ds) (suc k) h g = at_place cs ds k h.1 g

number_at_place : (cs ds : List Column) (k : ℕ) → scopes.AreAlike IsLesser cs ds → has_type (slice_get ds k) ty.Number ≡ true → bound_of_column (slice_get cs k) ≤ bound_of_column (slice_get ds k)
number_at_place [] [] k h g = omega arith
number_at_place [] (d ∷ ds) k h g = absurd h
number_at_place (c ∷ cs) [] k h g = absurd h
number_at_place (c ∷ cs) (d ∷ ds) zero h g = h.0.number (same d.type ty.Number g)
number_at_place (c ∷ cs) (d ∷ ds) (suc k) h g = number_at_place cs ds k h.1 g

-- ---- literals

within_of : (t : Ty) (n : ℕ) (v : Value) → Fits t n v → magnitude v ≤ n
within_of t n value.Null h = omega arith
within_of t n (value.Num a) h = h.within
within_of t n (value.Bool b) h = omega arith
within_of t n (value.Text x) h = omega arith

literal_at_bound : (x : ExprLayer) (a b : Schema) (s o : Scope) → is_some (fold.literal_at x) ≡ true → bound_of a (roll-Expr x) s ≡ bound_of b (roll-Expr x) o
literal_at_bound (Expr-F.Lit v t) a b s o h = bound_at a s (Expr-F.Lit v t) ∙ sym (bound_at b o (Expr-F.Lit v t))
literal_at_bound x a b s o h = cc

literal_bound : (a b : Schema) (s o : Scope) (e : Expr) → fold.is_literal e ≡ true → bound_of a e s ≤ bound_of b e o
literal_bound a b s o e h =
    let is : bound_of a (roll-Expr (out-Expr e)) s ≡ bound_of b (roll-Expr (out-Expr e)) o = literal_at_bound (out-Expr e) a b s o h in
    let is' : bound_of a e s ≡ bound_of b e o = subst (λ d. bound_of a d s ≡ bound_of b d o) (roll-out-Expr e) is in
    omega (arith, is')

none_each : (P : ColumnRef → Type 0) (cs : List ColumnRef) → cs ≡ [] → Each P cs
none_each P cs h = subst (Each P) (sym h) tt

-- a level of literals alone has no greater bound in one scope than in another
literals_bound : (a b : Schema) (s o : Scope) (x : ExprLayer) → node_column x ≡ [] → fold.has_literals_alone x ≡ true → bound_of a (roll-Expr x) s ≤ bound_of b (roll-Expr x) o
literals_bound a b s o x none alone =
    let parts_less = each_weaker (λ e. fold.is_literal e ≡ true) (λ e. bound_of a e s ≤ bound_of b e o) (literal_bound a b s o) (parts x) (each_true fold.is_literal (parts x) alone) in
    let less = no_greater (λ e. bound_of a e s) (λ e. bound_of b e o) (here a s) (here b o) x (none_each (λ c. here a s c ≤ here b o c) (node_column x) none) (of_parts (λ e. bound_of a e s ≤ bound_of b e o) x parts_less) in
    omega (arith, bound_at a s x, bound_at b o x, less)

module _ (schema : Schema) where
  -- the literal that is made of an operator of literals has no greater bound than the operator
  computed_less : (s : Scope) (x : ExprLayer) (t : Ty) → type_of (roll-Expr x) ≡ Some t → node_column x ≡ [] → fold.has_literals_alone x ≡ true → magnitude (value_given no_tables (roll-Expr x) no_outer_rows) ≤ bound_of schema (roll-Expr x) s
  computed_less s x t typed none alone =
      let own = within_of t (bound_of [] (roll-Expr x) []) (value_given no_tables (roll-Expr x) no_outer_rows) (computed_fits x t none alone typed) in
      let over = literals_bound [] schema [] s x none alone in
      omega (arith, own, over)

  literal_is : (s : Scope) (v : Value) (t : Ty) → bound_of schema (fold.literal v t) s ≡ magnitude v
  literal_is s v t = bound_at schema s (Expr-F.Lit v t)

  -- ---- what passes

  abbrev Passes : Scope → Expr → Type 0
  Passes = made.Passes schema keeps_bounds

  passes_bound : (s : Scope) (e : Expr) → Passes s e → IsFitting (bound_of schema e s)
  passes_bound s e h = subst (λ d. IsFitting (bound_of schema d s)) (roll-out-Expr e) (made.expr_own schema keeps_bounds s (out-Expr e) (subst (Passes s) (sym (roll-out-Expr e)) h)).bound

  all_columns : (s : Scope) (x : ExprLayer) → Each (λ c. keeps_bounds.column s c ≡ true) (node_column x)
  all_columns s (Expr-F.Col rel col t nulled) = (refl, tt)
  all_columns s x = tt

  all_places : (s : Scope) (x : ExprLayer) → Each (λ r. keeps_bounds.placeholder s r ≡ true) (node_placeholder x)
  all_places s (Expr-F.Place inner rels) = (refl, tt)
  all_places s x = tt

  literal_passes : (s : Scope) (v : Value) (t : Ty) → IsFitting (magnitude v) → Passes s (fold.literal v t)
  literal_passes s v t h = made.expr_made schema keeps_bounds s (Expr-F.Lit v t) (record { bound = subst IsFitting (sym (literal_is s v t)) h; columns = tt; places = tt }) tt tt

  list_passes : (s : Scope) (x : ExprLayer) → number_of (λ e. bound_of schema e s) (here schema s) x ≡ 0 → Each (Passes s) (parts x) → option_part (sublink_query x) ≡ [] → Passes s (roll-Expr x)
  list_passes s x none h no_query = made.expr_made schema keeps_bounds s x (record { bound = subst IsFitting (sym (bound_at schema s x ∙ none)) none_fits; columns = all_columns s x; places = all_places s x }) h
      (subst (Each (made.PassesQuery schema keeps_bounds s)) (sym no_query) tt)

  closed : (s : Scope) → levels.IsClosed (Passes s)
  closed s = record {
    null = λ t. literal_passes s value.Null t none_fits;
    truth = λ b. literal_passes s (value.Bool b) ty.Boolean none_fits;
    and_parts = λ es h. (fine.expr_parts schema keeps_bounds s (Expr-F.And es) h).0;
    or_parts = λ es h. (fine.expr_parts schema keeps_bounds s (Expr-F.Or es) h).0;
    and_made = λ e es h. list_passes s (Expr-F.And (e ∷ es)) refl h refl;
    or_made = λ e es h. list_passes s (Expr-F.Or (e ∷ es)) refl h refl;
  }

  truth_is_none : (t : Truth) → magnitude (value_of_truth t) ≡ 0
  truth_is_none True = refl
  truth_is_none False = refl
  truth_is_none Unknown = refl

  and_is_none : (es : List Expr) → magnitude (value_given no_tables (roll-Expr (Expr-F.And es)) no_outer_rows) ≡ 0
  and_is_none es = ap magnitude (value_rolls no_tables (Expr-F.And es) no_outer_rows) ∙ truth_is_none _

  conditions_pass : (s : Scope) (es : List Expr) → Each (Passes s) es → Each (Passes s) (fold.conditions_folded es)
  conditions_pass s es h = levels.at_conditions (Passes s) (closed s) es (λ none alone. literal_passes s _ _ (subst IsFitting (sym (and_is_none es)) none_fits)) h

  -- ---- what is handed down

  abbrev FineExpr : Scope → Expr → Type 0
  FineExpr s x = fine.FineExpr schema s x × Passes s x

  abbrev FineTree : Scope → JoinTree → Type 0
  FineTree s x = fine.FineTree schema s x × made.PassesTree schema keeps_bounds s x

  abbrev FineOrder : Scope → Order → Type 0
  FineOrder s x = fine.FineOrder schema s x × made.PassesOrder schema keeps_bounds s x

  abbrev FineOutput : Scope → Output → Type 0
  FineOutput s x = fine.FineOutput schema s x × made.PassesOutput schema keeps_bounds s x

  abbrev FineQuery : Scope → Query → Type 0
  FineQuery s x = fine.FineQuery schema s x × made.PassesQuery schema keeps_bounds s x

  two : {X : Type 0} (A B : X → Type 0) (xs : List X) → Each A xs → Each B xs → Each (λ x. A x × B x) xs
  two A B = each_both A B (λ x. A x × B x) (λ x a b. (a, b))

  down : HandsDown Scope (fine.inside schema) (fine.above schema) FineExpr FineTree FineOrder FineOutput FineQuery
  down = record {
    expr = λ s x c.
        let p = (fine.fine_down schema).expr s x c.0 in
        let q = fine.expr_parts schema keeps_bounds s x c.1 in
        (two (fine.FineExpr schema s) (Passes s) (parts x) p.0 q.0, two (fine.FineQuery schema s) (made.PassesQuery schema keeps_bounds s) (option_part (sublink_query x)) p.1 q.1);
    tree = λ s x c.
        let p = (fine.fine_down schema).tree s x c.0 in
        let q = fine.tree_parts schema keeps_bounds s x c.1 in (
          two (fine.FineTree schema s) (made.PassesTree schema keeps_bounds s) (trees x) p.0 q.sides,
          two (fine.FineExpr schema (fine.inside schema s x)) (Passes (fine.inside schema s x)) (conditions x) p.1 q.conds,
          two (fine.FineQuery schema s) (made.PassesQuery schema keeps_bounds s) (option_part (leaf_query x)) p.2 q.leaf,
        );
    order = λ s x c. ((fine.fine_down schema).order s x c.0, fine.order_part schema keeps_bounds s x c.1);
    output = λ s x c. ((fine.fine_down schema).output s x c.0, fine.output_part schema keeps_bounds s x c.1);
    query = λ s x c.
        let p = (fine.fine_down schema).query s x c.0 in
        let q = fine.query_parts schema keeps_bounds s x c.1 in (
          two (fine.FineOutput schema (fine.above schema s x)) (made.PassesOutput schema keeps_bounds (fine.above schema s x)) x.columns p.0 q.columns,
          (p.1, q.tree),
          two (fine.FineExpr schema (fine.above schema s x)) (Passes (fine.above schema s x)) x.conds p.2 q.conds,
          two (fine.FineOrder schema (fine.above schema s x)) (made.PassesOrder schema keeps_bounds (fine.above schema s x)) x.order p.3 q.order,
        );
  }

  -- ---- an expression

  -- it passes when it is folded, and the bound of a number is no greater
  abbrev Kept : Scope → Expr → Type 0
  Kept s x = (s' : Scope) → Stands s' s → Passes s' (fold.folded_expr x) × (IsNumber x → bound_of schema (fold.folded_expr x) s' ≤ bound_of schema x s)

  abbrev KeptQuery : Scope → Query → Type 0
  KeptQuery = over.KeptQuery schema IsLesser itself keeps_bounds

  column_numbers : (x : ExprLayer) → expr_type (typed_level x) ≡ Some ty.Number → Each (λ c. c.type ≡ ty.Number) (node_column x)
  column_numbers (Expr-F.Col rel col t nulled) h = ((typed_when (nat_lt rel 64) t ty.Number h).1, tt)
  column_numbers x h = tt

  module _ (s s' : Scope) (over_place : Stands s' s) (x : ExprLayer) (c : FineExpr s (roll-Expr x)) (ps : Each (λ p. Passes s' (fold.folded_expr p) × (IsNumber p → bound_of schema (fold.folded_expr p) s' ≤ bound_of schema p s)) (parts x)) where
    abbrev x' : ExprLayer
    x' = expr_parts_folded x

    abbrev after : Expr → ℕ
    after e = bound_of schema (fold.folded_expr e) s'

    typed_here : IsSome (expr_type (typed_level x))
    typed_here = subst IsSome (type_at x) c.0.typed

    seen : Each (λ r. sees_column s r ≡ true) (node_column x)
    seen = (made.expr_own schema knows_columns s x c.0.knows).columns

    columns_less : expr_type (typed_level x) ≡ Some ty.Number → Each (λ r. here schema s' r ≤ here schema s r) (node_column x)
    columns_less number = each_both (λ r. r.type ≡ ty.Number) (λ r. sees_column s r ≡ true) (λ r. here schema s' r ≤ here schema s r)
        (λ r n k. number_at_place (visible_columns s' r.relation) (visible_columns s r.relation) r.column (scopes.columns_alike IsLesser s' s over_place r.relation) (subst (λ t. has_type (visible_column s r.relation r.column) t ≡ true) n k))
        (node_column x) (column_numbers x number) seen

    parts_less : expr_type (typed_level x) ≡ Some ty.Number → Each (λ p. after p ≤ bound_of schema p s) (bound_parts x)
    parts_less number = each_both (λ p. Passes s' (fold.folded_expr p) × (IsNumber p → after p ≤ bound_of schema p s)) IsNumber (λ p. after p ≤ bound_of schema p s) (λ p k n. k.1 n) (bound_parts x) (of_parts (λ p. Passes s' (fold.folded_expr p) × (IsNumber p → after p ≤ bound_of schema p s)) x ps) (numbers_in x number)

    -- the level of folded parts has no greater bound, where it is a number
    level_less : expr_type (typed_level x) ≡ Some ty.Number → bound_of schema (roll-Expr x') s' ≤ bound_of schema (roll-Expr x) s
    level_less number =
        let less = no_greater after (λ e. bound_of schema e s) (here schema s') (here schema s) x (columns_less number) (parts_less number) in
        omega (arith, bound_at schema s' x', number_after (λ e. bound_of schema e s') (here schema s') x, bound_at schema s x, less)

    own_fits : IsFitting (bound_of schema (roll-Expr x) s)
    own_fits = (made.expr_own schema keeps_bounds s x c.1).bound

    fits_of_number : expr_type (typed_level x) ≡ Some ty.Number → IsFitting (bound_of schema (roll-Expr x') s')
    fits_of_number number = lower_fits (bound_of schema (roll-Expr x') s') (bound_of schema (roll-Expr x) s) (level_less number) own_fits

    -- ---- the level of folded parts fits

    part_fits : (e : Expr) → Passes s' (fold.folded_expr e) × (IsNumber e → after e ≤ bound_of schema e s) → after e ≤ 2 ^ 127 - 1
    part_fits e k = to_limit (after e) (passes_bound s' (fold.folded_expr e) k.0)

    parts_fit : Each (λ p. after p ≤ 2 ^ 127 - 1) (bound_parts x)
    parts_fit = each_weaker (λ p. Passes s' (fold.folded_expr p) × (IsNumber p → after p ≤ bound_of schema p s)) (λ p. after p ≤ 2 ^ 127 - 1) part_fits (bound_parts x) (of_parts (λ p. Passes s' (fold.folded_expr p) × (IsNumber p → after p ≤ bound_of schema p s)) x ps)

    column_fits : (rel col : ℕ) → IsFitting (bound_of_column (visible_column s rel col)) → IsFitting (bound_of_column (visible_column s' rel col))
    column_fits rel col h = at_place (visible_columns s' rel) (visible_columns s rel) col (scopes.columns_alike IsLesser s' s over_place rel) h

    number_if : (b : Bool) → IsSome (typed_if b ty.Number) → typed_if b ty.Number ≡ Some ty.Number
    number_if b h = ap (λ c. typed_if c ty.Number) (when_some b ty.Number h)

  -- by the form of the level: `after` are the bounds of its folded parts
  module _ (s s' : Scope) (over_place : Stands s' s) where
    fits_at : (x : ExprLayer) → FineExpr s (roll-Expr x) → Each (λ p. Passes s' (fold.folded_expr p) × (IsNumber p → bound_of schema (fold.folded_expr p) s' ≤ bound_of schema p s)) (parts x) → IsFitting (number_of (λ e. bound_of schema (fold.folded_expr e) s') (here schema s') x)
    fits_at (Expr-F.Col rel col t nulled) c ps = column_fits s s' over_place (Expr-F.Col rel col t nulled) c ps rel col (subst IsFitting (bound_at schema s (Expr-F.Col rel col t nulled)) (own_fits s s' over_place (Expr-F.Col rel col t nulled) c ps))
    fits_at (Expr-F.Lit v t) c ps = subst IsFitting (bound_at schema s (Expr-F.Lit v t)) (own_fits s s' over_place (Expr-F.Lit v t) c ps)
    fits_at (Expr-F.Place inner rels) c ps = from_limit (bound_of schema (fold.folded_expr inner) s') (parts_fit s s' over_place (Expr-F.Place inner rels) c ps).0
    fits_at (Expr-F.Neg operand) c ps = from_limit (bound_of schema (fold.folded_expr operand) s') (parts_fit s s' over_place (Expr-F.Neg operand) c ps).0
    fits_at (Expr-F.Sum ts) c ps = subst IsFitting (bound_at schema s' (expr_parts_folded (Expr-F.Sum ts)) ∙ number_after (λ e. bound_of schema e s') (here schema s') (Expr-F.Sum ts))
        (fits_of_number s s' over_place (Expr-F.Sum ts) c ps (number_if s s' over_place (Expr-F.Sum ts) c ps (are_all ty.Number (map term_part (map (λ t. (t.0, type_of t.1)) ts))) (typed_here s s' over_place (Expr-F.Sum ts) c ps)))
    fits_at (Expr-F.Product factors) c ps = subst IsFitting (bound_at schema s' (expr_parts_folded (Expr-F.Product factors)) ∙ number_after (λ e. bound_of schema e s') (here schema s') (Expr-F.Product factors))
        (fits_of_number s s' over_place (Expr-F.Product factors) c ps (number_if s s' over_place (Expr-F.Product factors) c ps (are_all ty.Number (map type_of factors)) (typed_here s s' over_place (Expr-F.Product factors) c ps)))
    fits_at (Expr-F.Coalesce members) c ps = from_limit (number_of (λ e. bound_of schema (fold.folded_expr e) s') (here schema s') (Expr-F.Coalesce members)) (greatest_within (2 ^ 127 - 1) 0 (λ e. bound_of schema (fold.folded_expr e) s') members (omega arith) (parts_fit s s' over_place (Expr-F.Coalesce members) c ps))
    fits_at (Expr-F.Case operand arms otherwise) c ps = from_limit (number_of (λ e. bound_of schema (fold.folded_expr e) s') (here schema s') (Expr-F.Case operand arms otherwise)) (greatest_within (2 ^ 127 - 1) 0 (λ e. bound_of schema (fold.folded_expr e) s') (bound_parts (Expr-F.Case operand arms otherwise)) (omega arith) (parts_fit s s' over_place (Expr-F.Case operand arms otherwise) c ps))
    fits_at x c ps = none_fits

    level_fits : (x : ExprLayer) → FineExpr s (roll-Expr x) → Each (λ p. Passes s' (fold.folded_expr p) × (IsNumber p → bound_of schema (fold.folded_expr p) s' ≤ bound_of schema p s)) (parts x) → IsFitting (bound_of schema (roll-Expr (expr_parts_folded x)) s')
    level_fits x c ps = subst IsFitting (sym (bound_at schema s' (expr_parts_folded x) ∙ number_after (λ e. bound_of schema e s') (here schema s') x)) (fits_at x c ps)

  -- ---- what folding makes of the level

  -- a number's folded level has no greater bound than the level
  if_computed_less : (s : Scope) (x : ExprLayer) (e : Expr) (n : ℕ) → (fold.has_literals_alone x ≡ true → magnitude (value_given no_tables (roll-Expr x) no_outer_rows) ≤ n) → bound_of schema e s ≤ n → bound_of schema (fold.if_computed x e) s ≤ n
  if_computed_less s x e n made h = by (fold.has_literals_alone x) refl
    where
      by : (b : Bool) → fold.has_literals_alone x ≡ b → bound_of schema (if b then fold.computed x else e) s ≤ n
      by true alone = omega (arith, literal_is s (value_given no_tables (roll-Expr x) no_outer_rows) (fold.type_at x), made alone)
      by false some = h

  if_null_less : (s : Scope) (x : ExprLayer) → bound_of schema (fold.if_null x) s ≤ bound_of schema (roll-Expr x) s
  if_null_less s x = by (list_any fold.is_null (parts x))
    where
      by : (b : Bool) → bound_of schema (if b then fold.literal value.Null (fold.type_at x) else roll-Expr x) s ≤ bound_of schema (roll-Expr x) s
      by true = omega (arith, literal_is s value.Null (fold.type_at x))
      by false = omega arith

  no_boolean : (b : Bool) → typed_if b ty.Boolean ≡ Some ty.Number → ⊥
  no_boolean b h = let same : ty.Boolean ≡ ty.Number = (typed_when b ty.Boolean ty.Number h).1 in cc

  folded_less : (s : Scope) (x : ExprLayer) → expr_type (typed_level x) ≡ Some ty.Number → bound_of schema (fold.expr_folded x) s ≤ bound_of schema (roll-Expr x) s
  folded_less s (Expr-F.Neg operand) h = if_computed_less s (Expr-F.Neg operand) (fold.if_null (Expr-F.Neg operand)) (bound_of schema (roll-Expr (Expr-F.Neg operand)) s) (computed_less s (Expr-F.Neg operand) ty.Number (type_at (Expr-F.Neg operand) ∙ h) refl) (if_null_less s (Expr-F.Neg operand))
  folded_less s (Expr-F.Sum ts) h = if_computed_less s (Expr-F.Sum ts) (fold.if_null (Expr-F.Sum ts)) (bound_of schema (roll-Expr (Expr-F.Sum ts)) s) (computed_less s (Expr-F.Sum ts) ty.Number (type_at (Expr-F.Sum ts) ∙ h) refl) (if_null_less s (Expr-F.Sum ts))
  folded_less s (Expr-F.Product factors) h = if_computed_less s (Expr-F.Product factors) (fold.if_null (Expr-F.Product factors)) (bound_of schema (roll-Expr (Expr-F.Product factors)) s) (computed_less s (Expr-F.Product factors) ty.Number (type_at (Expr-F.Product factors) ∙ h) refl) (if_null_less s (Expr-F.Product factors))
  folded_less s (Expr-F.Concat pieces) h = if_computed_less s (Expr-F.Concat pieces) (fold.if_null (Expr-F.Concat pieces)) (bound_of schema (roll-Expr (Expr-F.Concat pieces)) s) (computed_less s (Expr-F.Concat pieces) ty.Number (type_at (Expr-F.Concat pieces) ∙ h) refl) (if_null_less s (Expr-F.Concat pieces))
  folded_less s (Expr-F.Compare op left right) h = if_computed_less s (Expr-F.Compare op left right) (fold.if_null (Expr-F.Compare op left right)) (bound_of schema (roll-Expr (Expr-F.Compare op left right)) s) (computed_less s (Expr-F.Compare op left right) ty.Number (type_at (Expr-F.Compare op left right) ∙ h) refl) (if_null_less s (Expr-F.Compare op left right))
  folded_less s (Expr-F.And es) h = absurd (no_boolean (are_all ty.Boolean (map type_of es)) h)
  folded_less s (Expr-F.Or es) h = absurd (no_boolean (are_all ty.Boolean (map type_of es)) h)
  folded_less s (Expr-F.Col rel col t nulled) h = omega arith
  folded_less s (Expr-F.Lit v t) h = omega arith
  folded_less s (Expr-F.Place inner rels) h = omega arith
  folded_less s (Expr-F.Exists sub query) h = omega arith
  folded_less s (Expr-F.InSub sub operand query) h = omega arith
  folded_less s x h = if_computed_less s x (roll-Expr x) (bound_of schema (roll-Expr x) s) (computed_less s x ty.Number (type_at x ∙ h) refl) (omega arith)

  -- the types of a level's parts are those of the folded parts
  types_same : (s : Scope) (x : ExprLayer) → FineExpr s (roll-Expr x) → typed_level (expr_parts_folded x) ≡ typed_level x
  types_same s x c =
      let parts_typed = (fine.fine_down schema).expr s x c.0 in
      expr_twice type_of tree_is_typed typed_order typed_output typed_query fold.folded_expr fold.folded_tree folded_order folded_output fold.folded type_of tree_is_typed typed_order typed_output typed_query x
      (each_weaker (fine.FineExpr schema s) (λ p. type_of (fold.folded_expr p) ≡ type_of p) (λ p k. expr_type_kept p k.typed) (parts x) parts_typed.0)
      (each_weaker (fine.FineQuery schema s) (λ q. typed_query (fold.folded q) ≡ typed_query q) (λ q k. query_type_kept q k.typed) (option_part (sublink_query x)) parts_typed.1)

  some_is : (o : Typed) → IsSome o → (t : Ty) × (o ≡ Some t)
  some_is (Some t) h = (t, refl)
  some_is None h = cc

  expr_step : (s : Scope) (x : ExprLayer) → FineExpr s (roll-Expr x) → Each (Kept s) (parts x) → Each (KeptQuery s) (option_part (sublink_query x)) → Kept s (roll-Expr x)
  expr_step s x c kept qs s' over_place =
      let x' = expr_parts_folded x in
      let ps = over.in_scope_of schema IsLesser itself keeps_bounds (λ o o' p. Passes o' (fold.folded_expr p) × (IsNumber p → bound_of schema (fold.folded_expr p) o' ≤ bound_of schema p o)) s s' over_place (parts x) kept in
      let exprs = subst (Each (Passes s')) (sym (parts_map fold.folded_expr fold.folded_tree folded_order folded_output fold.folded x)) (each_map (Passes s') fold.folded_expr (parts x) (each_weaker (λ p. Passes s' (fold.folded_expr p) × (IsNumber p → bound_of schema (fold.folded_expr p) s' ≤ bound_of schema p s)) (λ p. Passes s' (fold.folded_expr p)) (λ p k. k.0) (parts x) ps)) in
      let queries = subst (Each (made.PassesQuery schema keeps_bounds s')) (sym (sublink_map fold.folded_expr fold.folded_tree folded_order folded_output fold.folded x)) (each_map (made.PassesQuery schema keeps_bounds s') fold.folded (option_part (sublink_query x)) (over.firsts_of schema IsLesser itself keeps_bounds s s' over_place (option_part (sublink_query x)) qs)) in
      let fitting = level_fits s s' over_place x c ps in
      let whole = made.expr_made schema keeps_bounds s' x' (record { bound = fitting; columns = all_columns s' x'; places = all_places s' x' }) exprs queries in
      let same = types_same s x c in
      let (t, typed) = some_is (type_of (roll-Expr x')) (subst IsSome (type_at x ∙ sym (type_at x' ∙ ap expr_type same)) c.0.typed) in
      let computed = λ (none : node_column x' ≡ []) (alone : fold.has_literals_alone x' ≡ true).
      literal_passes s' (value_given no_tables (roll-Expr x') no_outer_rows) (fold.type_at x') (lower_fits (magnitude (value_given no_tables (roll-Expr x') no_outer_rows)) (bound_of schema (roll-Expr x') s') (computed_less s' x' t typed none alone) fitting) in
      let at_x = fold-roll-Expr Expr JoinTree Order Output Query fold.expr_folded fold.tree_folded roll-Order roll-Output fold.query_folded x in (
        subst (Passes s') (sym at_x) (levels.at_level (Passes s') (closed s') x' computed exprs whole),
        λ number.
            let number_x : expr_type (typed_level x) ≡ Some ty.Number = sym (type_at x) ∙ number in
            let number_x' : expr_type (typed_level x') ≡ Some ty.Number = ap expr_type same ∙ number_x in
            let first = folded_less s' x' number_x' in
            let second = level_less s s' over_place x c ps number_x in
            omega (arith, ap (λ e. bound_of schema e s') at_x, first, second),
      )

  -- ---- the whole

  forget : (s : Scope) (xs : List Expr) → Each (Kept s) xs → Each (over.KeptExpr schema IsLesser itself keeps_bounds s) xs
  forget s = each_weaker (Kept s) (over.KeptExpr schema IsLesser itself keeps_bounds s) (λ x k s' h. (k s' h).0)

  output_lesser : (s s' : Scope) (u : OutputLayer) → FineOutput s (roll-Output u) → Passes s' (fold.folded_expr u.expr) → (IsNumber u.expr → bound_of schema (fold.folded_expr u.expr) s' ≤ bound_of schema u.expr s) → IsLesser (entries.column_of schema (folded_output (roll-Output u)) s') (entries.column_of schema (roll-Output u) s)
  output_lesser s s' u c h less =
      let new : Column = record { type = u.ty; bound = bound_of schema (fold.folded_expr u.expr) s' } in
      let old : Column = record { type = u.ty; bound = bound_of schema u.expr s } in
      let is_new : entries.column_of schema (folded_output (roll-Output u)) s' ≡ new = ap (λ v. entries.column_of schema v s') (entries.folded_output_at schema u) ∙ entries.column_at schema (record { name = u.name; ty = u.ty; expr = fold.folded_expr u.expr }) s' in
      let typed : type_of u.expr ≡ Some u.ty = is_of_some u.ty (type_of u.expr) (subst (λ (o : TypedOutput). o.is_typed ≡ true) (fold-roll-Output Typed Bool Typed TypedOutput TypedQuery expr_type tree_typed order_typed output_typed query_typed u) c.0.typed) in
      let lesser : IsLesser new old = record {
        type = refl;
        number = λ number. less (typed ∙ ap (λ t. Some t) number);
        fitting = λ k. passes_bound s' (fold.folded_expr u.expr) h;
      } in
      subst (λ d. IsLesser (entries.column_of schema (folded_output (roll-Output u)) s') d) (sym (entries.column_at schema u s)) (subst (λ d. IsLesser d old) (sym is_new) lesser)

  steps : under.StepsUnder Scope (fine.inside schema) (fine.above schema) FineExpr FineTree FineOrder FineOutput FineQuery down Kept (over.KeptTree schema IsLesser itself keeps_bounds) (over.KeptOrder schema IsLesser itself keeps_bounds) (over.KeptOutput schema IsLesser itself keeps_bounds) (over.KeptQuery schema IsLesser itself keeps_bounds)
  steps = record {
    expr = expr_step;
    tree = λ s t c ts cs qs. over.tree_step schema IsLesser itself keeps_bounds conditions_pass (λ s' s h k. refl) s t c.1 c.0.apart ts (forget (fine.inside schema s t) (conditions t) cs) qs;
    order = λ s o c k. over.order_step schema IsLesser itself keeps_bounds conditions_pass (λ s' s h k. refl) s o (λ s' h. (k s' h).0);
    output = λ s u c k s' h. (over.output_step schema IsLesser itself keeps_bounds conditions_pass (λ s' s h k. refl) s' u (k s' h).0, output_lesser s s' u c (k s' h).0 (k s' h).1);
    query = λ s q c us t es os. over.query_step schema IsLesser itself keeps_bounds conditions_pass (λ s' s h k. refl) s q c.1 c.0.apart us t (forget (fine.above schema s q) q.conds es) os;
  }

  pub query_bounded : (s : Scope) (q : QueryLayer) → fine.FineQuery schema s (roll-Query q) → made.PassesQuery schema keeps_bounds s (roll-Query q) → made.PassesQuery schema keeps_bounds s (fold.folded (roll-Query q))
  query_bounded s q c h = (under.under_query Scope (fine.inside schema) (fine.above schema) FineExpr FineTree FineOrder FineOutput FineQuery down Kept (over.KeptTree schema IsLesser itself keeps_bounds) (over.KeptOrder schema IsLesser itself keeps_bounds) (over.KeptOutput schema IsLesser itself keeps_bounds) (over.KeptQuery schema IsLesser itself keeps_bounds) steps (roll-Query q) s (c, h) s
      (over.itself schema IsLesser itself keeps_bounds s q c.apart)).0
