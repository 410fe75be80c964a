-- The bound of a level as a number, by the bounds of the parts that it rests on.
use Rattle.std.proofs.Common.{◌≡◌, ◌∙◌, ap, refl, ℕ, ◌≤◌, ◌+◌, ◌*◌, max, Bool, List, [], ◌∷◌, ◌++◌, map, fold, sum, Option, Some, None, ◌^◌, nat_lt, arith}
use Rattle.std.proofs.lemmas.Nat.{mul-le}
use Rattle.jp_base.specs.declared.values.Ty.{Ty}
use Rattle.jp_base.specs.declared.values.Ty.TheVariants as ty
use Rattle.jp_query.specs.declared.Expr.{Expr}
use Rattle.jp_query.specs.declared.JoinTree.{JoinTree}
use Rattle.jp_query.specs.declared.Order.{Order}
use Rattle.jp_query.specs.declared.Output.{Output}
use Rattle.jp_query.specs.declared.Query.{Query}
use Rattle.jp_query.specs.declared.Expr.TheOpen.{Expr-F}
use Rattle.jp_query.specs.declared.Expr.TheShapes.{former-Expr-Case-0}
use Rattle.jp_query.specs.declared.Expr.TheViews.{roll-Expr}
use Rattle.jp_query.specs.declared.Expr.TheFolds.{fold-Order, fold-Output, map-Expr, fold-roll-Expr}
use Rattle.jp_query.specs.Layers.{ExprLayer}
use Rattle.jp_query.specs.Parts.{term_part, arm_parts, option_part, parts, node_column, ColumnRef}
use Rattle.jp_query.specs.Scopes.{Schema, Scope, BoundIn, EntriesIn, ColumnIn, ColumnsIn, visible_column, bound_of_column, magnitude, greatest, product, in_scope, arm_result, expr_bound, tree_entries, order_bound, output_column, query_columns, bound_of, entries_of, columns_of_query}
use Rattle.jp_query.specs.Typing.{Typed, is_of, are_all, one_type, are_whens, arm_when, type_of, expr_type}
use Rattle.jp_laws.proofs.EachPart.{Each, each_left, each_right, each_append, each_mapped}
use Rattle.jp_laws.proofs.ValuesFit.{typed_when, type_when, is_of_some, all_types, one_types}
use Rattle.jp_folding.proofs.TypeLaws.{typed_level, expr_parts_folded}
use Rattle.jp_folding.specs.Folding as fold

-- the parts on whose bounds a level's rests
abbrev pub bound_parts : ExprLayer → List Expr
bound_parts (Expr-F.Place inner rels) = inner ∷ []
bound_parts (Expr-F.Neg operand) = operand ∷ []
bound_parts (Expr-F.Sum terms) = map term_part terms
bound_parts (Expr-F.Product factors) = factors
bound_parts (Expr-F.Coalesce members) = members
bound_parts (Expr-F.Case operand arms otherwise) = map arm_result arms ++ option_part otherwise
bound_parts _ = []

module _ (f : Expr → ℕ) (column : ColumnRef → ℕ) where
  abbrev pub number_of : ExprLayer → ℕ
  number_of (Expr-F.Col rel col t nulled) = column (record { relation = rel; column = col; type = t })
  number_of (Expr-F.Lit v t) = magnitude v
  number_of (Expr-F.Place inner rels) = f inner
  number_of (Expr-F.Neg operand) = f operand
  number_of (Expr-F.Sum terms) = sum (map f (map term_part terms))
  number_of (Expr-F.Product factors) = product (map f factors)
  number_of (Expr-F.Coalesce members) = greatest (map f members)
  number_of (Expr-F.Case operand arms otherwise) = greatest (map f (map arm_result arms ++ option_part otherwise))
  number_of _ = 0

-- ---- the bound of an expression is that number

module _ (schema : Schema) (s : Scope) where
  abbrev in_here : Expr → ℕ
  in_here e = bound_of schema e s

  abbrev pub here : ColumnRef → ℕ
  here c = bound_of_column (visible_column s c.relation c.column)

  abbrev of_order : Order → BoundIn
  of_order = fold-Order BoundIn EntriesIn BoundIn ColumnIn ColumnsIn expr_bound (tree_entries schema) order_bound output_column query_columns

  abbrev of_output : Output → ColumnIn
  of_output = fold-Output BoundIn EntriesIn BoundIn ColumnIn ColumnsIn expr_bound (tree_entries schema) order_bound output_column query_columns

  abbrev level : ExprLayer → Expr-F BoundIn EntriesIn BoundIn ColumnIn ColumnsIn
  level = map-Expr Expr JoinTree Order Output Query BoundIn EntriesIn BoundIn ColumnIn ColumnsIn (bound_of schema) (entries_of schema) of_order of_output (columns_of_query schema)

  each : (es : List Expr) → map (in_scope s) (map (bound_of schema) es) ≡ map in_here es
  each [] = refl
  each (e ∷ es) = ap (λ ns. in_here e ∷ ns) (each es)

  terms_here : (ts : List (Bool × Expr)) → map (in_scope s) (map term_part (map (λ t. (t.0, bound_of schema t.1)) ts)) ≡ map in_here (map term_part ts)
  terms_here [] = refl
  terms_here (t ∷ ts) = ap (λ ns. in_here t.1 ∷ ns) (terms_here ts)

  results_here : (arms : List (Expr × Expr)) (otherwise : Option Expr) → map (in_scope s) (map arm_result (map (λ a. (bound_of schema a.0, bound_of schema a.1)) arms) ++ option_part ((former-Expr-Case-0).map Expr BoundIn (bound_of schema) otherwise)) ≡ map in_here (map arm_result arms ++ option_part otherwise)
  results_here [] None = refl
  results_here [] (Some e) = refl
  results_here (a ∷ arms) otherwise = ap (λ ns. in_here a.1 ∷ ns) (results_here arms otherwise)

  at_level : (x : ExprLayer) → expr_bound (level x) s ≡ number_of in_here here x
  at_level (Expr-F.Sum ts) = ap sum (terms_here ts)
  at_level (Expr-F.Product factors) = ap product (each factors)
  at_level (Expr-F.Coalesce members) = ap greatest (each members)
  at_level (Expr-F.Case operand arms otherwise) = ap greatest (results_here arms otherwise)
  at_level x = refl

  pub bound_at : (x : ExprLayer) → bound_of schema (roll-Expr x) s ≡ number_of in_here here x
  bound_at x = ap (λ (f : BoundIn). f s) (fold-roll-Expr BoundIn EntriesIn BoundIn ColumnIn ColumnsIn expr_bound (tree_entries schema) order_bound output_column query_columns x) ∙ at_level x

-- ---- of a level whose parts are folded

module _ (f : Expr → ℕ) (column : ColumnRef → ℕ) where
  abbrev after : Expr → ℕ
  after e = f (fold.folded_expr e)

  each_after : (es : List Expr) → map f (map fold.folded_expr es) ≡ map after es
  each_after [] = refl
  each_after (e ∷ es) = ap (λ ns. after e ∷ ns) (each_after es)

  terms_after : (ts : List (Bool × Expr)) → map f (map term_part (map (λ t. (t.0, fold.folded_expr t.1)) ts)) ≡ map after (map term_part ts)
  terms_after [] = refl
  terms_after (t ∷ ts) = ap (λ ns. after t.1 ∷ ns) (terms_after ts)

  results_after : (arms : List (Expr × Expr)) (otherwise : Option Expr) → map f (map arm_result (map (λ a. (fold.folded_expr a.0, fold.folded_expr a.1)) arms) ++ option_part ((former-Expr-Case-0).map Expr Expr fold.folded_expr otherwise)) ≡ map after (map arm_result arms ++ option_part otherwise)
  results_after [] None = refl
  results_after [] (Some e) = refl
  results_after (a ∷ arms) otherwise = ap (λ ns. after a.1 ∷ ns) (results_after arms otherwise)

  pub number_after : (x : ExprLayer) → number_of f column (expr_parts_folded x) ≡ number_of after column x
  number_after (Expr-F.Sum ts) = ap sum (terms_after ts)
  number_after (Expr-F.Product factors) = ap product (each_after factors)
  number_after (Expr-F.Coalesce members) = ap greatest (each_after members)
  number_after (Expr-F.Case operand arms otherwise) = ap greatest (results_after arms otherwise)
  number_after x = refl

-- ---- no greater where the parts' bounds are no greater

module _ (f g : Expr → ℕ) where
  abbrev NoGreater : Expr → Type 0
  NoGreater e = f e ≤ g e

  summed : (m n : ℕ) (es : List Expr) → m ≤ n → Each NoGreater es → fold ◌+◌ m (map f es) ≤ fold ◌+◌ n (map g es)
  summed m n [] h k = h
  summed m n (e ∷ es) h k = summed (m + f e) (n + g e) es (omega (arith, h, k.0)) k.1

  multiplied : (m n : ℕ) (es : List Expr) → m ≤ n → Each NoGreater es → fold ◌*◌ m (map f es) ≤ fold ◌*◌ n (map g es)
  multiplied m n [] h k = h
  multiplied m n (e ∷ es) h k = multiplied (m * f e) (n * g e) es (mul-le m (f e) n (g e) h k.0) k.1

  greatest_of : (m n : ℕ) (es : List Expr) → m ≤ n → Each NoGreater es → fold max m (map f es) ≤ fold max n (map g es)
  greatest_of m n [] h k = h
  greatest_of m n (e ∷ es) h k = greatest_of (max m (f e)) (max n (g e)) es (omega (arith, h, k.0)) k.1

  pub no_greater : (cf cg : ColumnRef → ℕ) (x : ExprLayer) → Each (λ c. cf c ≤ cg c) (node_column x) → Each NoGreater (bound_parts x) → number_of f cf x ≤ number_of g cg x
  no_greater cf cg (Expr-F.Col rel col t nulled) cs ps = cs.0
  no_greater cf cg (Expr-F.Lit v t) cs ps = omega arith
  no_greater cf cg (Expr-F.Place inner rels) cs ps = ps.0
  no_greater cf cg (Expr-F.Neg operand) cs ps = ps.0
  no_greater cf cg (Expr-F.Sum ts) cs ps = summed 0 0 (map term_part ts) (omega arith) ps
  no_greater cf cg (Expr-F.Product factors) cs ps = multiplied 1 1 factors (omega arith) ps
  no_greater cf cg (Expr-F.Coalesce members) cs ps = greatest_of 0 0 members (omega arith) ps
  no_greater cf cg (Expr-F.Case operand arms otherwise) cs ps = greatest_of 0 0 (map arm_result arms ++ option_part otherwise) (omega arith) ps
  no_greater cf cg x cs ps = omega arith

-- the greatest of numbers that are no greater than a limit
pub greatest_within : (limit m : ℕ) (f : Expr → ℕ) (es : List Expr) → m ≤ limit → Each (λ e. f e ≤ limit) es → fold max m (map f es) ≤ limit
greatest_within limit m f [] h k = h
greatest_within limit m f (e ∷ es) h k = greatest_within limit (max m (f e)) f es (omega (arith, h, k.0)) k.1

-- ---- those parts are parts, and numbers where the level is a number

results_of : (P : Expr → Type 0) (arms : List (Expr × Expr)) → Each P (arm_parts arms) → Each P (map arm_result arms)
results_of P [] h = tt
results_of P (a ∷ arms) h = (h.1.0, results_of P arms h.1.1)

pub of_parts : (P : Expr → Type 0) (x : ExprLayer) → Each P (parts x) → Each P (bound_parts x)
of_parts P (Expr-F.Place inner rels) h = h
of_parts P (Expr-F.Neg operand) h = h
of_parts P (Expr-F.Sum ts) h = h
of_parts P (Expr-F.Product factors) h = h
of_parts P (Expr-F.Coalesce members) h = h
of_parts P (Expr-F.Case operand arms otherwise) h =
    let more = each_right P (option_part operand) (arm_parts arms ++ option_part otherwise) h in
    each_append P (map arm_result arms) (option_part otherwise) (results_of P arms (each_left P (arm_parts arms) (option_part otherwise) more)) (each_right P (arm_parts arms) (option_part otherwise) more)
of_parts P x h = tt

abbrev pub IsNumber : Expr → Type 0
IsNumber e = type_of e ≡ Some ty.Number

typed_terms : (ts : List (Bool × Expr)) → Each (λ o. o ≡ Some ty.Number) (map term_part (map (λ t. (t.0, type_of t.1)) ts)) → Each IsNumber (map term_part ts)
typed_terms [] h = tt
typed_terms (t ∷ ts) h = (h.0, typed_terms ts h.1)

typed_results : (t : Ty) (arms : List (Expr × Expr)) (otherwise : Option Expr) → Each (λ o. o ≡ Some t) (map arm_result (map (λ a. (type_of a.0, type_of a.1)) arms) ++ option_part ((former-Expr-Case-0).map Expr Typed type_of otherwise)) → Each (λ e. type_of e ≡ Some t) (map arm_result arms ++ option_part otherwise)
typed_results t [] None h = tt
typed_results t [] (Some e) h = h
typed_results t (a ∷ arms) otherwise h = (h.0, typed_results t arms otherwise h.1)

pub numbers_in : (x : ExprLayer) → expr_type (typed_level x) ≡ Some ty.Number → Each IsNumber (bound_parts x)
numbers_in (Expr-F.Place inner rels) h = (type_when (nat_lt rels (2 ^ 64)) (type_of inner) ty.Number h, tt)
numbers_in (Expr-F.Neg operand) h = (is_of_some ty.Number (type_of operand) (typed_when (is_of ty.Number (type_of operand)) ty.Number ty.Number h).0, tt)
numbers_in (Expr-F.Sum ts) h = typed_terms ts (all_types ty.Number (map term_part (map (λ t. (t.0, type_of t.1)) ts)) (typed_when (are_all ty.Number (map term_part (map (λ t. (t.0, type_of t.1)) ts))) ty.Number ty.Number h).0)
numbers_in (Expr-F.Product factors) h = each_mapped (λ o. o ≡ Some ty.Number) type_of factors (all_types ty.Number (map type_of factors) (typed_when (are_all ty.Number (map type_of factors)) ty.Number ty.Number h).0)
numbers_in (Expr-F.Coalesce members) h = each_mapped (λ o. o ≡ Some ty.Number) type_of members (one_types (map type_of members) ty.Number h)
numbers_in (Expr-F.Case operand arms otherwise) h =
    let results = map arm_result (map (λ a. (type_of a.0, type_of a.1)) arms) ++ option_part ((former-Expr-Case-0).map Expr Typed type_of otherwise) in
    let one : one_type results ≡ Some ty.Number = type_when (are_whens ((former-Expr-Case-0).map Expr Typed type_of operand) (map arm_when (map (λ a. (type_of a.0, type_of a.1)) arms))) (one_type results) ty.Number h in
    typed_results ty.Number arms otherwise (one_types results ty.Number one)
numbers_in x h = tt
