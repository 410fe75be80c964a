-- An equality can be evaluated where its sides can be and have one type, and its sides where it can be.
use Rattle.std.proofs.Common.{◌≡◌, sym, subst, refl, true, ◌&&◌, List, [], ◌∷◌, ◌++◌, ℕ}
use Rattle.jp_query.specs.declared.CmpOp.TheVariants as cmp
use Rattle.jp_query.specs.declared.Expr.{Expr, out-Expr}
use Rattle.jp_query.specs.declared.JoinTree.{JoinTree}
use Rattle.jp_query.specs.declared.Order.{Order}
use Rattle.jp_query.specs.declared.Output.{Output}
use Rattle.jp_query.specs.declared.Query.{Query}
use Rattle.jp_query.specs.declared.Expr.TheOpen.{Expr-F}
use Rattle.jp_query.specs.declared.Expr.TheVariants as expr
use Rattle.jp_query.specs.declared.Expr.TheViews.{roll-Expr, roll-out-Expr}
use Rattle.jp_query.specs.declared.Expr.TheFolds.{map-Expr, fold-roll-Expr}
use Rattle.jp_query.specs.Layers.{ExprLayer}
use Rattle.jp_query.specs.Conditions.{Tests, Judged, ExprLevel, expr_judged, tree_judged, order_judged, output_judged, query_judged, judged_expr, judged_tree, judged_query, knows_columns, keeps_bounds, IsBoundedExpr}
use Rattle.jp_query.specs.Fitting.{IsCellAt, own_columns, expr_own_columns, IsLent, own_ins}
use Rattle.jp_query.specs.Meaning.{Row, Env}
use Rattle.jp_query.specs.Parts.{ColumnRef, parts}
use Rattle.jp_query.specs.Scopes.{Schema, Scope, Entry, Column}
use Rattle.jp_problem.specs.Equalities.{sides_at, sides_of, equals}
use Rattle.jp_induction.proofs.EachPart.{Each, each_append, each_mapped, parts_map}
use Rattle.jp_laws.proofs.JudgedLaws.{expr_passes, judged_order_by, judged_output_by}
use Rattle.jp_laws.proofs.OwnColumns.{own_has}
use Rattle.jp_lists.proofs.InParts.{parts_have_ins, ins_from_parts}
use Rattle.jp_lists.proofs.StageLaws.{IsPair}

module _ (schema : Schema) (scope : Scope) where
  module _ (tests : Tests) where
    abbrev Passes : Expr → Type 0
    Passes e = (judged_expr schema tests e).passes scope ≡ true

    abbrev judged_level : ExprLayer → ExprLevel
    judged_level = map-Expr Expr JoinTree Order Output Query (Judged ℕ) (Judged (List Entry)) (Judged ℕ) (Judged Column) (Judged (List Column)) (judged_expr schema tests) (judged_tree schema tests) (judged_order_by schema tests) (judged_output_by schema tests) (judged_query schema tests)

    at_level : (x : ExprLayer) → judged_expr schema tests (roll-Expr x) ≡ expr_judged schema tests (judged_level x)
    at_level = fold-roll-Expr (Judged ℕ) (Judged (List Entry)) (Judged ℕ) (Judged Column) (Judged (List Column)) (expr_judged schema tests) (tree_judged schema tests) (order_judged schema tests) (output_judged schema tests) (query_judged schema tests)

    parts_pass : (x : ExprLayer) → Passes (roll-Expr x) → Each Passes (parts x)
    parts_pass x h = each_mapped (λ (j : Judged ℕ). j.passes scope ≡ true) (judged_expr schema tests) (parts x)
        (subst (Each (λ (j : Judged ℕ). j.passes scope ≡ true)) (parts_map (judged_expr schema tests) (judged_tree schema tests) (judged_order_by schema tests) (judged_output_by schema tests) (judged_query schema tests) x)
        (expr_passes schema tests scope (judged_level x) (subst (λ (j : Judged ℕ). j.passes scope ≡ true) (at_level x) h)).parts)

    equality_passes : (a b : Expr) → tests.bound 0 ≡ true → Passes a → Passes b → Passes (roll-Expr (Expr-F.Compare cmp.Eq a b))
    equality_passes a b low p q = subst (λ (j : Judged ℕ). j.passes scope ≡ true) (sym (at_level (Expr-F.Compare cmp.Eq a b))) (λ i. low i && ((p i && (q i && true)) && true))

  module _ (Where : Env → Type 0) (rows : Env → ℕ → List Row) where
    -- all but the type that an evaluation asks of an expression
    pub record IsHalf (e : Expr) : Type 0 where
      pub known : (judged_expr schema knows_columns e).passes scope ≡ true
      pub bounded : IsBoundedExpr schema scope e
      pub cells : (x : Env) → Where x → Each (IsCellAt scope x) (own_columns e)
      pub lent : (x : Env) → Where x → Each (IsLent (rows x)) (own_ins e)

    halves : (es : List Expr) → Each (Passes knows_columns) es → Each (Passes keeps_bounds) es → ((x : Env) → Where x → Each (λ e. Each (IsCellAt scope x) (own_columns e)) es) → ((x : Env) → Where x → Each (λ e. Each (IsLent (rows x)) (own_ins e)) es) → Each IsHalf es
    halves [] a b c d = tt
    halves (e ∷ es) a b c d = (record { known = a.0; bounded = b.0; cells = λ x f. (c x f).0; lent = λ x f. (d x f).0 }, halves es a.1 b.1 (λ x f. (c x f).1) (λ x f. (d x f).1))

    parts_half : (x : ExprLayer) → IsHalf (roll-Expr x) → Each IsHalf (parts x)
    parts_half x h = halves (parts x) (parts_pass knows_columns x h.known) (parts_pass keeps_bounds x h.bounded) (λ u f. (own_has (IsCellAt scope u) x (h.cells u f)).1) (λ u f. parts_have_ins (IsLent (rows u)) x (h.lent u f))

    pub half_up : (a b : Expr) → IsHalf a → IsHalf b → IsHalf (equals a b)
    half_up a b p q = subst IsHalf (expr.rolls-Compare cmp.Eq a b) (record {
      known = equality_passes knows_columns a b refl p.known q.known;
      bounded = equality_passes keeps_bounds a b refl p.bounded q.bounded;
      cells = λ x f. subst (Each (IsCellAt scope x)) (sym (fold-roll-Expr (List ColumnRef) (Unit {0}) (Unit {0}) (Unit {0}) (Unit {0}) expr_own_columns (λ t. tt) (λ o. tt) (λ u. tt) (λ q. tt) (Expr-F.Compare cmp.Eq a b)))
          (each_append (IsCellAt scope x) (own_columns a) (own_columns b ++ []) (p.cells x f) (each_append (IsCellAt scope x) (own_columns b) [] (q.cells x f) tt));
      lent = λ x f. ins_from_parts (IsLent (rows x)) (Expr-F.Compare cmp.Eq a b) tt (p.lent x f, (q.lent x f, tt));
    })

    down_at : (x : ExprLayer) → IsHalf (roll-Expr x) → IsPair IsHalf (sides_at x)
    down_at (Expr-F.Compare cmp.Eq a b) h = let each = parts_half (Expr-F.Compare cmp.Eq a b) h in (each.0, each.1.0)
    down_at x h = tt

    pub half_down : (e : Expr) → IsHalf e → IsPair IsHalf (sides_of e)
    half_down e h = down_at (out-Expr e) (subst IsHalf (sym (roll-out-Expr e)) h)
