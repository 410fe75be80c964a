-- CASE over what was found: its types and its bound.
use Rattle.std.proofs.Common.{◌≡◌, ◌∙◌, ap, ap₂, sym, subst, refl, ℕ, Bool, true, List, [], ◌∷◌, ◌++◌, map, Option, Some, None, Ok}
use Rattle.std.specs.Prelude.{◌&&◌, is_some, if◌then◌else◌}
use Rattle.std.specs.List.{list_all}
use Rattle.std.specs.Option.{option_map}
use Rattle.std.proofs.lemmas.List.{map-append}
use Rattle.std.proofs.lemmas.List.Folds.{list_all-append}
use Rattle.std.proofs.lemmas.Bool.{and_parts, and_from, false≢true}
use Rattle.jp_base.specs.declared.values.Ty.{Ty}
use Rattle.jp_base.specs.declared.values.Ty.TheVariants as ty
use Rattle.jp_query.specs.declared.Expr.{Expr}
use Rattle.jp_query.specs.declared.Expr.TheVariants as expr
use Rattle.jp_query.specs.declared.Expr.TheOpen.{Expr-F}
use Rattle.jp_query.specs.Parts.{arm_parts, option_part}
use Rattle.jp_query.specs.Scopes.{Schema, Scope, BoundIn, EntriesIn, ColumnIn, ColumnsIn, in_scope, arm_result, greatest, expr_bound, tree_entries, order_bound, output_column, query_columns, bound_of}
use Rattle.jp_query.specs.Typing.{arm_when, are_whens, Typed, TypedOutput, TypedQuery, type_of, is_listed, one_type, expr_type, tree_typed, order_typed, output_typed, query_typed}
use Rattle.jp_query.proofs.FoldLaws as laws
use Rattle.jp_resolution.specs.declared.words.Counts.{Counts}
use Rattle.jp_resolution.specs.declared.words.TypedExpr.{TypedExpr}
use Rattle.jp_resolution.specs.Types.{CaseParts, when_type, arm_as, compared, results, case_expr, case_node, can_be, expr_as, common_type, are_of_one_type, typed, bound_in}
use Rattle.jp_induction.proofs.EachPart.{Each, each_append}
use Rattle.jp_resolved.proofs.Answered.{if_parts}
use Rattle.jp_resolved.proofs.Spans.{Along}
use Rattle.jp_resolved.proofs.Made.{MadeExprs, no_exprs, more_exprs}
use Rattle.jp_resolved.proofs.Found.{Fits, Found, found_typed, node}
use Rattle.jp_resolved.proofs.Nodes.{all_typed, one_typed, listed_map, fits_zero, greatest_fits}

module _ (schema : Schema) (scope : Scope) where
  pub made_append : (a m b : Counts) (xs ys : List Expr) → MadeExprs schema scope a m xs → MadeExprs schema scope m b ys → MadeExprs schema scope a b (xs ++ ys)
  made_append a1 m1 b1 xs ys (no_exprs s a m same) q = subst (λ c. MadeExprs schema scope c b1 ys) (sym same) q
  made_append a1 m1 b1 xs ys (more_exprs s a n m e es p more) q = more_exprs scope a n b1 e (es ++ ys) p (made_append n m b1 es ys more q)

  abbrev IsTyped : Ty → Typed → Type 0
  IsTyped t type = type ≡ Some t

  abbrev type_of_arm : Expr × Expr → Typed × Typed
  type_of_arm arm = (type_of arm.0, type_of arm.1)

  abbrev bound_of_arm : Expr × Expr → BoundIn × BoundIn
  bound_of_arm arm = (bound_of schema arm.0, bound_of schema arm.1)

  -- the arms of CASE
  abbrev pub FoundArm : Counts → Counts → TypedExpr × TypedExpr → Type 0
  FoundArm a b arm = (m : Counts) × Found schema scope a m arm.0 × Found schema scope m b arm.1

  record AreArms (a b : Counts) (w r : Ty) (arms : List (TypedExpr × TypedExpr)) : Type 0 where
    made : MadeExprs schema scope a b (arm_parts (map (arm_as w r) arms))
    whens : Each (IsTyped w) (map arm_when (map type_of_arm (map (arm_as w r) arms)))
    thens : Each (IsTyped r) (map arm_result (map type_of_arm (map (arm_as w r) arms)))
    bounds : map (in_scope scope) (map arm_result (map bound_of_arm (map (arm_as w r) arms))) ≡ map bound_in (map arm_result arms)
    fit : Each (Fits schema scope) (map bound_in (map arm_result arms))

  are_arms : (a b : Counts) (w r : Ty) (arms : List (TypedExpr × TypedExpr)) → Along FoundArm a b arms → list_all (can_be w) (map arm_when arms) ≡ true → list_all (can_be r) (map arm_result arms) ≡ true → AreArms a b w r arms
  are_arms a b w r [] along p q = record { made = no_exprs scope a b along; whens = tt; thens = tt; bounds = refl; fit = tt }
  are_arms a b w r (arm ∷ arms) along p q =
      let pw = and_parts (can_be w arm.0) (list_all (can_be w) (map arm_when arms)) p in
      let qr = and_parts (can_be r arm.1) (list_all (can_be r) (map arm_result arms)) q in
      let when = along.1.1 w pw.0 in
      let ending = along.1.2 r qr.0 in
      let rest = are_arms along.0 b w r arms along.2 pw.1 qr.1 in
      record {
        made = more_exprs scope a along.1.0 b (expr_as w arm.0) (expr_as r arm.1 ∷ arm_parts (map (arm_as w r) arms)) when.made (more_exprs scope along.1.0 along.0 b (expr_as r arm.1) (arm_parts (map (arm_as w r) arms)) ending.made rest.made);
        whens = (when.type, rest.whens);
        thens = (ending.type, rest.thens);
        bounds = ap₂ (λ n ns. n ∷ ns) ending.bound rest.bounds;
        fit = (ending.fit, rest.fit);
      }

  -- a part of CASE that may be missing
  abbrev pub FoundOption : Counts → Counts → Option TypedExpr → Type 0
  FoundOption a b None = a ≡ b
  FoundOption a b (Some e) = Found schema scope a b e

  record IsOption (a b : Counts) (t : Ty) (o : Option TypedExpr) : Type 0 where
    made : MadeExprs schema scope a b (option_part (option_map (expr_as t) o))
    types : Each (IsTyped t) (option_part (option_map type_of (option_map (expr_as t) o)))
    bounds : map (in_scope scope) (option_part (option_map (bound_of schema) (option_map (expr_as t) o))) ≡ map bound_in (option_part o)
    fit : Each (Fits schema scope) (map bound_in (option_part o))

  is_option : (a b : Counts) (t : Ty) (o : Option TypedExpr) → FoundOption a b o → list_all (can_be t) (option_part o) ≡ true → IsOption a b t o
  is_option a b t None same h = record { made = no_exprs scope a b same; types = tt; bounds = refl; fit = tt }
  is_option a b t (Some e) found h =
      let one = found t (and_parts (can_be t e) true h).0 in
      record { made = more_exprs scope a b b (expr_as t e) [] one.made (no_exprs scope b b refl); types = (one.type, tt); bounds = ap (λ n. n ∷ []) one.bound; fit = (one.fit, tt) }

  -- the first expressions of the arms have the operand's type, or are conditions
  whens_typed : (o : Option TypedExpr) (whens : List TypedExpr) (types : List Typed) → let w = when_type o whens in is_listed types ≡ true → Each (IsTyped w) (option_part (option_map type_of (option_map (expr_as w) o))) → Each (IsTyped w) types → are_whens (option_map type_of (option_map (expr_as w) o)) types ≡ true
  whens_typed None whens types some one each = all_typed ty.Boolean types some each
  whens_typed (Some e) whens types some one each = and_from (is_listed types) (is_some (one_type (type_of (expr_as (common_type (e ∷ whens)) e) ∷ types))) some (ap is_some (one_typed (common_type (e ∷ whens)) (type_of (expr_as (common_type (e ∷ whens)) e) ∷ types) refl (one.0, each)))

  listed_left : {A : Type 0} (xs ys : List A) → is_listed xs ≡ true → is_listed (xs ++ ys) ≡ true
  listed_left [] ys h = absurd (false≢true h)
  listed_left (x ∷ xs) ys h = refl

  each_fit : (xs ys : List TypedExpr) → Each (Fits schema scope) (map bound_in xs) → Each (Fits schema scope) (map bound_in ys) → Each (Fits schema scope) (map bound_in (xs ++ ys))
  each_fit xs ys p q = subst (Each (Fits schema scope)) (sym (map-append bound_in xs ys)) (each_append (Fits schema scope) (map bound_in xs) (map bound_in ys) p q)

  pub case_is : (a m n b : Counts) (at : ℕ) (parts : CaseParts) (e : TypedExpr) → is_listed parts.arms ≡ true → FoundOption a m parts.operand → Along FoundArm m n parts.arms → FoundOption n b parts.otherwise → case_node at parts ≡ Ok e → Found schema scope a b e
  case_is a m n b at parts e some operand_found arms_found otherwise_found h =
      let w = when_type parts.operand (map arm_when parts.arms) in
      let rs = results parts in
      let r = common_type rs in
      let made = if_parts (list_all (can_be w) (compared parts) && are_of_one_type rs) _ (typed r (case_expr w r parts) (greatest (map bound_in rs))) e h in
      let both = and_parts (list_all (can_be w) (compared parts)) (are_of_one_type rs) made.0 in
      let left = and_parts (list_all (can_be w) (option_part parts.operand)) (list_all (can_be w) (map arm_when parts.arms)) (sym (list_all-append (can_be w) (option_part parts.operand) (map arm_when parts.arms)) ∙ both.0) in
      let right = and_parts (list_all (can_be r) (map arm_result parts.arms)) (list_all (can_be r) (option_part parts.otherwise)) (sym (list_all-append (can_be r) (map arm_result parts.arms) (option_part parts.otherwise)) ∙ both.1) in
      let operand = is_option a m w parts.operand operand_found left.0 in
      let arms = are_arms m n w r parts.arms arms_found left.1 right.0 in
      let otherwise = is_option n b r parts.otherwise otherwise_found right.1 in
      let o = option_map (expr_as w) parts.operand in
      let l = map (arm_as w r) parts.arms in
      let d = option_map (expr_as r) parts.otherwise in
      let whens = map arm_when (map type_of_arm l) in
      let thens = map arm_result (map type_of_arm l) in
      let ends = option_part (option_map type_of d) in
      let some_l : is_listed l ≡ true = listed_map (arm_as w r) parts.arms some in
      let some_whens : is_listed whens ≡ true = listed_map arm_when (map type_of_arm l) (listed_map type_of_arm l some_l) in
      let some_thens : is_listed (thens ++ ends) ≡ true = listed_left thens ends (listed_map arm_result (map type_of_arm l) (listed_map type_of_arm l some_l)) in
      subst (Found schema scope a b) made.1
      (found_typed schema scope a b r (greatest (map bound_in rs)) (expr.Case o l d)
      (node schema scope a b r (greatest (map bound_in rs)) (Expr-F.Case o l d) (expr.Case o l d) (expr.rolls-Case o l d) refl
      (made_append a m b (option_part o) (arm_parts l ++ option_part d) operand.made (made_append m n b (arm_parts l) (option_part d) arms.made otherwise.made))
      (laws.at-Case Typed Bool Typed TypedOutput TypedQuery expr_type tree_typed order_typed output_typed query_typed o l d ∙ ap (λ v. if v then one_type (thens ++ ends) else None) (whens_typed parts.operand (map arm_when parts.arms) whens some_whens operand.types arms.whens)
      ∙ one_typed r (thens ++ ends) some_thens (each_append (IsTyped r) thens ends arms.thens otherwise.types))
      (ap (λ (f : BoundIn). f scope) (laws.at-Case BoundIn EntriesIn BoundIn ColumnIn ColumnsIn expr_bound (tree_entries schema) order_bound output_column query_columns o l d) ∙ ap greatest (map-append (in_scope scope) (map arm_result (map bound_of_arm l)) (option_part (option_map (bound_of schema) d)) ∙ ap₂ (λ xs ys. xs ++ ys) arms.bounds otherwise.bounds ∙ sym (map-append bound_in (map arm_result parts.arms) (option_part parts.otherwise))))
      (greatest_fits 0 (map bound_in rs) fits_zero (each_fit (map arm_result parts.arms) (option_part parts.otherwise) arms.fit otherwise.fit))))
