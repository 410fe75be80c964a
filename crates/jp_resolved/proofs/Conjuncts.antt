-- The conjuncts of a condition that is made are made, with its numbers.
use Rattle.std.proofs.Common.{◌≡◌, ◌∙◌, ap, sym, subst, refl, Bool, true, false, List, [], ◌∷◌, map, Some, None}
use Rattle.std.specs.List.{list_all}
use Rattle.std.proofs.lemmas.Bool.{and_parts}
use Rattle.jp_base.specs.declared.values.Ty.TheVariants as ty
use Rattle.jp_query.specs.declared.Expr.{Expr}
use Rattle.jp_query.specs.declared.JoinTree.{JoinTree}
use Rattle.jp_query.specs.declared.Order.{Order}
use Rattle.jp_query.specs.declared.Output.{Output}
use Rattle.jp_query.specs.declared.Query.{Query}
use Rattle.jp_query.specs.declared.Expr.TheVariants as expr
use Rattle.jp_query.specs.declared.Expr.TheOpen.{Expr-F}
use Rattle.jp_query.specs.declared.Expr.TheViews.{roll-Expr, roll-Query}
use Rattle.jp_query.specs.declared.Expr.TheFolds.{map-Expr, fold-roll-Expr, para-JoinTree, para-Order, para-Output, para-Query, para-roll-Expr}
use Rattle.jp_query.specs.Conjuncts.{expr_conjuncts, conjuncts, is_and}
use Rattle.jp_query.specs.Layers.{ExprLayer}
use Rattle.jp_query.specs.Parts.{all_in, parts}
use Rattle.jp_query.specs.Scopes.{Schema, Scope}
use Rattle.jp_query.specs.Subexpressions.{Exprs, exprs_beside}
use Rattle.jp_query.specs.Typing.{Typed, TypedOutput, TypedQuery, type_of, typed_if, is_of, is_listed, are_all, expr_type, tree_typed, order_typed, output_typed, query_typed}
use Rattle.jp_laws.proofs.LevelLaws.{values_go}
use Rattle.jp_resolution.specs.declared.words.Counts.{Counts}
use Rattle.jp_resolution.specs.Counting.{next_sublink}
use Rattle.jp_induction.proofs.EachPart.{Each, each_append}
use Rattle.jp_resolved.proofs.Made.{MadeExpr, column, operator, exists, among, MadeExprs, no_exprs, more_exprs}
use Rattle.jp_resolved.proofs.CaseNodes.{made_append}

abbrev of_tree : JoinTree → Unit {0}
of_tree = para-JoinTree Exprs (Unit {0}) (Unit {0}) (Unit {0}) (Unit {0}) expr_conjuncts (λ t. tt) (λ o. tt) (λ u. tt) (λ q. tt)

abbrev of_order : Order → Unit {0}
of_order = para-Order Exprs (Unit {0}) (Unit {0}) (Unit {0}) (Unit {0}) expr_conjuncts (λ t. tt) (λ o. tt) (λ u. tt) (λ q. tt)

abbrev of_output : Output → Unit {0}
of_output = para-Output Exprs (Unit {0}) (Unit {0}) (Unit {0}) (Unit {0}) expr_conjuncts (λ t. tt) (λ o. tt) (λ u. tt) (λ q. tt)

abbrev of_query : Query → Unit {0}
of_query = para-Query Exprs (Unit {0}) (Unit {0}) (Unit {0}) (Unit {0}) expr_conjuncts (λ t. tt) (λ o. tt) (λ u. tt) (λ q. tt)

abbrev beside : ExprLayer → Expr-F (Expr × Exprs) (JoinTree × Unit {0}) (Order × Unit {0}) (Output × Unit {0}) (Query × Unit {0})
beside = map-Expr Expr JoinTree Order Output Query (Expr × Exprs) (JoinTree × Unit {0}) (Order × Unit {0}) (Output × Unit {0}) (Query × Unit {0}) (λ x. (x, conjuncts x)) (λ x. (x, of_tree x)) (λ x. (x, of_order x)) (λ x. (x, of_output x)) (λ x. (x, of_query x))

conjuncts_at : (x : ExprLayer) → conjuncts (roll-Expr x) ≡ expr_conjuncts (beside x)
conjuncts_at = para-roll-Expr Exprs (Unit {0}) (Unit {0}) (Unit {0}) (Unit {0}) expr_conjuncts (λ t. tt) (λ o. tt) (λ u. tt) (λ q. tt)

true_false : true ≡ false → ⊥
true_false h = cc

itself : (x : ExprLayer) → is_and x ≡ false → expr_conjuncts (beside x) ≡ roll-Expr x ∷ []
itself (Expr-F.And members) h = absurd (true_false h)
itself x h = ap (λ z. roll-Expr z ∷ []) (values_go Exprs (Unit {0}) (Unit {0}) (Unit {0}) (Unit {0}) conjuncts of_tree of_order of_output of_query x)

-- what is no AND is its one conjunct
alone : (x : ExprLayer) (e : Expr) → roll-Expr x ≡ e → is_and x ≡ false → conjuncts e ≡ e ∷ []
alone x e same h = ap conjuncts (sym same) ∙ conjuncts_at x ∙ itself x h ∙ ap (λ z. z ∷ []) same

when_typed : (b : Bool) → typed_if b ty.Boolean ≡ Some ty.Boolean → b ≡ true
when_typed true h = refl
when_typed false h = cc

is_boolean : (type : Typed) → is_of ty.Boolean type ≡ true → type ≡ Some ty.Boolean
is_boolean (Some ty.Boolean) h = refl
is_boolean (Some ty.Number) h = cc
is_boolean (Some ty.Text) h = cc
is_boolean None h = cc

abbrev IsCondition : Expr → Type 0
IsCondition e = type_of e ≡ Some ty.Boolean

members_boolean : (es : List Expr) → list_all (is_of ty.Boolean) (map type_of es) ≡ true → Each IsCondition es
members_boolean [] h = tt
members_boolean (e ∷ es) h =
    let both = and_parts (is_of ty.Boolean (type_of e)) (list_all (is_of ty.Boolean) (map type_of es)) h in
    (is_boolean (type_of e) both.0, members_boolean es both.1)

and_members : (es : List Expr) → type_of (roll-Expr (Expr-F.And es)) ≡ Some ty.Boolean → Each IsCondition es
and_members es h =
    let typed = when_typed (are_all ty.Boolean (map type_of es)) (sym (fold-roll-Expr Typed Bool Typed TypedOutput TypedQuery expr_type tree_typed order_typed output_typed query_typed (Expr-F.And es)) ∙ h) in
    members_boolean es (and_parts (is_listed (map type_of es)) (list_all (is_of ty.Boolean) (map type_of es)) typed).1

abbrev conjuncts_of : List Expr → Exprs
conjuncts_of xs = all_in (map exprs_beside (map (λ (x : Expr). (x, conjuncts x)) xs))

module _ (schema : Schema) (scope : Scope) (a b : Counts) where
  -- conditions of a span
  abbrev pub AreConditions : List Expr → Type 0
  AreConditions es = MadeExprs schema scope a b es × Each IsCondition es

  one_condition : (x : ExprLayer) (e : Expr) → roll-Expr x ≡ e → is_and x ≡ false → MadeExpr schema scope a b e → IsCondition e → AreConditions (conjuncts e)
  one_condition x e same h made typed = subst AreConditions (sym (alone x e same h)) (more_exprs scope a b b e [] made (no_exprs scope b b refl), (typed, tt))

  at_level : (x : ExprLayer) → MadeExpr schema scope a b (roll-Expr x) → IsCondition (roll-Expr x) → ((es : List Expr) → parts x ≡ es → Each IsCondition es → AreConditions (conjuncts_of es)) → AreConditions (conjuncts (roll-Expr x))
  at_level (Expr-F.And members) made typed inner = subst AreConditions (sym (conjuncts_at (Expr-F.And members))) (inner members refl (and_members members typed))
  at_level x made typed inner = one_condition x (roll-Expr x) refl refl made typed

module _ (schema : Schema) where
  mutual
    pub conjuncts_made : (scope : Scope) (a b : Counts) (e : Expr) → MadeExpr schema scope a b e → IsCondition e → AreConditions schema scope a b (conjuncts e)
    conjuncts_made s1 a1 b1 e (column scope a b rel place c all there small) typed = one_condition schema scope a b (Expr-F.Col rel place c.type 0) (expr.Col rel place c.type 0) (expr.rolls-Col rel place c.type 0) refl (column scope a b rel place c all there small) typed
    conjuncts_made s1 a1 b1 e (operator scope a b x is small made) typed = at_level schema scope a b x (operator scope a b x is small made) typed (λ es same types. conjuncts_all scope a b (parts x) made es same types)
    conjuncts_made s1 a1 b1 e (exists scope a b level plain made) typed = one_condition schema scope a b (Expr-F.Exists (next_sublink a) (roll-Query level)) (expr.Exists (next_sublink a) (roll-Query level)) (expr.rolls-Exists (next_sublink a) (roll-Query level)) refl (exists scope a b level plain made) typed
    conjuncts_made s1 a1 b1 e (among scope a m b operand level plain made inner) typed =
        one_condition schema scope a b (Expr-F.InSub (next_sublink a) operand (roll-Query level)) (expr.InSub (next_sublink a) operand (roll-Query level)) (expr.rolls-InSub (next_sublink a) operand (roll-Query level)) refl (among scope a m b operand level plain made inner) typed

    conjuncts_all : (scope : Scope) (a b : Counts) (es : List Expr) → MadeExprs schema scope a b es → (fs : List Expr) → es ≡ fs → Each IsCondition fs → AreConditions schema scope a b (conjuncts_of fs)
    conjuncts_all s1 a1 b1 es (no_exprs scope a b all) fs same types = subst (λ xs. AreConditions schema scope a b (conjuncts_of xs)) same (no_exprs scope a b all, tt)
    conjuncts_all s1 a1 b1 es (more_exprs scope a m b x xs made more) fs same types =
        let each = subst (Each IsCondition) (sym same) types in
        let first = conjuncts_made scope a m x made each.0 in
        let rest = conjuncts_all scope m b xs more xs refl each.1 in
        subst (λ ys. AreConditions schema scope a b (conjuncts_of ys)) same
        (made_append schema scope a m b (conjuncts x) (conjuncts_of xs) first.0 rest.0, each_append IsCondition (conjuncts x) (conjuncts_of xs) first.1 rest.1)
