-- A level of folded parts is folded in 128 bits as it is folded.
use Rattle.std.proofs.Common.{◌≡◌, ◌∙◌, ap, sym, subst, refl, ◌≤◌, Bool, true, false, List, [], ◌++◌, map, Option, Some, None, IsSome, arith}
use Rattle.std.specs.Prelude.{if◌then◌else◌}
use Rattle.std.specs.List.{list_all, list_any}
use Rattle.jp_base.specs.declared.values.Ty.{Ty}
use Rattle.jp_base.specs.declared.values.Ty.TheVariants as ty
use Rattle.jp_base.specs.declared.values.Value.{Value}
use Rattle.jp_base.specs.declared.values.Value.TheVariants as value
use Rattle.jp_query.specs.declared.Expr.{Expr, out-Expr}
use Rattle.jp_query.specs.declared.Expr.TheOpen.{Expr-F}
use Rattle.jp_query.specs.declared.Expr.TheShapes.{former-Expr-Case-0}
use Rattle.jp_query.specs.declared.Expr.TheViews.{roll-Expr, roll-out-Expr, out-roll-Expr}
use Rattle.jp_query.specs.Layers.{ExprLayer}
use Rattle.jp_query.specs.Parts.{option_part, parts, term_part, arm_parts}
use Rattle.jp_query.specs.Scopes.{Schema, Scope, BoundIn, magnitude, in_scope, arm_result, expr_bound, bound_of}
use Rattle.jp_query.specs.Typing.{typed_if, is_of, is_literal, expr_type, type_of}
use Rattle.jp_laws.proofs.EachPart.{Each, each_left, each_right, parts_map}
use Rattle.jp_folding.specs.Folding as fold
use Rattle.jp_folding.proofs.TypeLaws.{typed_level, type_at, level_typed, folded_order, folded_output, expr_parts_folded}
use Rattle.jp_eval.proofs.NumberLaws.{most}
use Rattle.jp_fold.specs.InBits as bits
use Rattle.jp_fold.proofs.BoundedDown.{GoodExpr}
use Rattle.jp_fold.proofs.Exact.{bound_level, IsOperator, Low, BoundLow, At, sum_grows, product_grows, greatest_grows, made_same, made_low, if_some, type_is, coalesce_kind, case_kind, literals_low, smalls, exprs_below, terms_below, arms_below, low_at, bound_at}

-- ---- operators

abbrev is_operator : ExprLayer → Bool
is_operator (Expr-F.Col rel col t nulled) = false
is_operator (Expr-F.Lit v t) = false
is_operator (Expr-F.Place inner rels) = false
is_operator (Expr-F.Exists sub query) = false
is_operator (Expr-F.InSub sub operand query) = false
is_operator x = true

operator : (x : ExprLayer) → is_operator x ≡ true → IsOperator x
operator (Expr-F.Col rel col t nulled) h = cc
operator (Expr-F.Lit v t) h = cc
operator (Expr-F.Place inner rels) h = cc
operator (Expr-F.Exists sub query) h = cc
operator (Expr-F.InSub sub operand query) h = cc
operator x h = record { no_column = refl; no_place = refl; no_sublink = refl; no_in = λ f t o u q. refl }

not_literal : (x : ExprLayer) → is_operator x ≡ true → (v : Value) → fold.literal_of (roll-Expr x) ≡ Some v → ⊥
not_literal x h v p = at x h v (sym (ap fold.literal_at (out-roll-Expr x)) ∙ p)
  where
    at : (x : ExprLayer) → is_operator x ≡ true → (v : Value) → fold.literal_at x ≡ Some v → ⊥
    at (Expr-F.Lit w t) h v p = cc
    at x h v p = cc

abbrev is_number : Ty → Bool
is_number ty.Number = true
is_number _ = false

-- a literal of another type than a number has no magnitude
other_magnitude : (v : Value) (t : Ty) → is_number t ≡ false → is_literal v t ≡ true → magnitude v ≤ 0
other_magnitude value.Null t h k = omega arith
other_magnitude (value.Num a) ty.Number h k = cc
other_magnitude (value.Num a) ty.Boolean h k = cc
other_magnitude (value.Num a) ty.Text h k = cc
other_magnitude (value.Bool b) t h k = omega arith
other_magnitude (value.Text b) t h k = omega arith

-- ---- levels

module _ (schema : Schema) (s : Scope) where
  pub record Ready (x : ExprLayer) : Type 0 where
    pub typed : IsSome (expr_type (typed_level (expr_parts_folded x)))
    pub within : bound_of schema (roll-Expr x) s ≤ most
    pub good : Each (GoodExpr schema s) (parts x)
    pub low : Each (Low schema s) (parts x)

  same_parts : (x : ExprLayer) → parts (expr_parts_folded x) ≡ map fold.folded_expr (parts x)
  same_parts x = parts_map fold.folded_expr fold.folded_tree folded_order folded_output fold.folded x

  belows : (x : ExprLayer) → Ready x → fold.has_literals_alone (expr_parts_folded x) ≡ true → Each (BoundLow schema s) (parts x)
  belows x r alone = literals_low schema s (parts x) (sym (ap (list_all fold.is_literal) (same_parts x)) ∙ alone) r.low

  abbrev Grows : ExprLayer → Type 0
  Grows x = fold.has_literals_alone (expr_parts_folded x) ≡ true → At schema s x

  abbrev Kind : ExprLayer → Type 0
  Kind x = fold.has_literals_alone (expr_parts_folded x) ≡ true → bits.kind_type (expr_parts_folded x) ≡ fold.type_at (expr_parts_folded x)

  small_parts : (x : ExprLayer) → Ready x → Each (λ e. (v : Value) → fold.literal_of e ≡ Some v → magnitude v ≤ most) (parts (expr_parts_folded x))
  small_parts x r = subst (Each (λ e. (v : Value) → fold.literal_of e ≡ Some v → magnitude v ≤ most)) (sym (same_parts x)) (smalls schema s (parts x) r.low r.good)

  low_whole : (x : ExprLayer) → Ready x → Grows x → fold.has_literals_alone (expr_parts_folded x) ≡ true → bound_of [] (roll-Expr (expr_parts_folded x)) [] ≤ most
  low_whole x r grows alone = let h = grows alone in let k = r.within in omega (arith, h, k)

  if_same : (x : ExprLayer) → is_operator (expr_parts_folded x) ≡ true → Ready x → Grows x → Kind x → (e d : Expr) → e ≡ d → fold.if_made bits.made (expr_parts_folded x) e ≡ fold.if_made fold.computed (expr_parts_folded x) d
  if_same x op r grows kind e d same = by_alone (fold.has_literals_alone (expr_parts_folded x)) refl
    where
      by_alone : (b : Bool) → fold.has_literals_alone (expr_parts_folded x) ≡ b → (if b then bits.made (expr_parts_folded x) else e) ≡ (if b then fold.computed (expr_parts_folded x) else d)
      by_alone true alone = made_same (expr_parts_folded x) (operator (expr_parts_folded x) op) alone r.typed (low_whole x r grows alone) (kind alone) (small_parts x r)
      by_alone false some = same

  null_same : (y : ExprLayer) → bits.kind_type y ≡ fold.type_at y → fold.if_null_of bits.kind_type y ≡ fold.if_null_of fold.type_at y
  null_same y kind = ap (λ t. if list_any fold.is_null (parts y) then fold.literal value.Null t else roll-Expr y) kind

  abbrev pub LowAt : ExprLayer → Expr → Type 0
  LowAt x e = (v : Value) → fold.literal_of e ≡ Some v → magnitude v ≤ bound_of schema (roll-Expr x) s

  if_low : (x : ExprLayer) → is_operator (expr_parts_folded x) ≡ true → Ready x → Grows x → (d : Expr) → LowAt x d → LowAt x (fold.if_made fold.computed (expr_parts_folded x) d)
  if_low x op r grows d low = by_alone (fold.has_literals_alone (expr_parts_folded x)) refl
    where
      by_alone : (b : Bool) → fold.has_literals_alone (expr_parts_folded x) ≡ b → LowAt x (if b then fold.computed (expr_parts_folded x) else d)
      by_alone true alone = λ v h. let k = made_low (expr_parts_folded x) (operator (expr_parts_folded x) op) alone r.typed (low_whole x r grows alone) v h in let g = grows alone in omega (arith, k, g)
      by_alone false some = low

  null_low : (x : ExprLayer) → is_operator (expr_parts_folded x) ≡ true → LowAt x (fold.if_null (expr_parts_folded x))
  null_low x op = by_null (list_any fold.is_null (parts (expr_parts_folded x)))
    where
      null_is : (v : Value) → Some value.Null ≡ Some v → magnitude v ≤ 0
      null_is value.Null h = omega arith
      null_is (value.Num a) h = cc
      null_is (value.Bool b) h = cc
      null_is (value.Text t) h = cc

      by_null : (b : Bool) → LowAt x (if b then fold.literal value.Null (fold.type_at (expr_parts_folded x)) else roll-Expr (expr_parts_folded x))
      by_null true v h = let k = null_is v (sym (ap fold.literal_at (out-roll-Expr (Expr-F.Lit value.Null (fold.type_at (expr_parts_folded x))))) ∙ h) in omega (arith, k)
      by_null false v h = absurd (not_literal (expr_parts_folded x) op v h)

  rolled_low : (x : ExprLayer) → is_operator (expr_parts_folded x) ≡ true → LowAt x (roll-Expr (expr_parts_folded x))
  rolled_low x op v h = absurd (not_literal (expr_parts_folded x) op v h)

  -- what is made has the type of the level
  other_low : (x : ExprLayer) (t : Ty) → is_number t ≡ false → Ready x → expr_type (typed_level (expr_parts_folded x)) ≡ Some t → LowAt x (fold.expr_folded (expr_parts_folded x))
  other_low x t other r is v h =
      let k = of_literal (fold.expr_folded (expr_parts_folded x)) (level_typed (expr_parts_folded x) r.typed ∙ is) h in omega (arith, k)
    where
      literal_of_level : (y : ExprLayer) → expr_type (typed_level y) ≡ Some t → fold.literal_at y ≡ Some v → magnitude v ≤ 0
      literal_of_level (Expr-F.Lit w u) p q = of_both w u v p q
        where
          same_if : (b : Bool) (u : Ty) → typed_if b u ≡ Some t → b ≡ true
          same_if true u p = refl
          same_if false u p = cc

          same_type : (b : Bool) (u : Ty) → typed_if b u ≡ Some t → is_number u ≡ false
          same_type true u p = cc
          same_type false u p = cc

          of_both : (w : Value) (u : Ty) (v : Value) → typed_if (is_literal w u) u ≡ Some t → Some w ≡ Some v → magnitude v ≤ 0
          of_both w u v p q = subst (λ z. magnitude z ≤ 0) (its w v q) (other_magnitude w u (same_type (is_literal w u) u p) (same_if (is_literal w u) u p))
            where
              its : (a b : Value) → Some a ≡ Some b → a ≡ b
              its a b h = cc
      literal_of_level y p q = cc

      of_literal : (e : Expr) → type_of e ≡ Some t → fold.literal_of e ≡ Some v → magnitude v ≤ 0
      of_literal e p q = literal_of_level (out-Expr e) (sym (type_at (out-Expr e)) ∙ ap type_of (roll-out-Expr e) ∙ p) q

  -- ---- each level

  const_kind : (x : ExprLayer) (b : Bool) (t : Ty) → Ready x → expr_type (typed_level (expr_parts_folded x)) ≡ typed_if b t → t ≡ fold.type_at (expr_parts_folded x)
  const_kind x b t r is = type_is (expr_parts_folded x) t (is ∙ if_some b t (subst IsSome is r.typed))

  const_type : (x : ExprLayer) (b : Bool) (t : Ty) → Ready x → expr_type (typed_level (expr_parts_folded x)) ≡ typed_if b t → expr_type (typed_level (expr_parts_folded x)) ≡ Some t
  const_type x b t r is = is ∙ if_some b t (subst IsSome is r.typed)

  pub record Alike (x : ExprLayer) : Type 0 where
    pub same : bits.expr_step (expr_parts_folded x) ≡ fold.expr_folded (expr_parts_folded x)
    pub low : LowAt x (fold.expr_folded (expr_parts_folded x))

  no_bound : (x : ExprLayer) → expr_bound (bound_level [] (expr_parts_folded x)) [] ≡ 0 → Grows x
  no_bound x none alone = low_at schema s x (subst (λ n. n ≤ expr_bound (bound_level schema x) s) (sym none) (omega arith))

  truth : (x : ExprLayer) (b : Bool) → is_operator (expr_parts_folded x) ≡ true → Ready x → bits.kind_type (expr_parts_folded x) ≡ ty.Boolean → expr_type (typed_level (expr_parts_folded x)) ≡ typed_if b ty.Boolean → Kind x
  truth x b op r kind is alone = kind ∙ const_kind x b ty.Boolean r is

  grows_neg : (operand : Expr) → Ready (Expr-F.Neg operand) → Grows (Expr-F.Neg operand)
  grows_neg operand r alone = low_at schema s (Expr-F.Neg operand) (belows (Expr-F.Neg operand) r alone).0

  grows_sum : (terms : List (Bool × Expr)) → Ready (Expr-F.Sum terms) → Grows (Expr-F.Sum terms)
  grows_sum terms r alone = low_at schema s (Expr-F.Sum terms) (sum_grows 0 0 (map (in_scope []) (map term_part (map (λ (t : Bool × Expr). (t.0, bound_of [] t.1)) (map (λ (t : Bool × Expr). (t.0, fold.folded_expr t.1)) terms)))) (map (in_scope s) (map term_part (map (λ (t : Bool × Expr). (t.0, bound_of schema t.1)) terms))) (omega arith) (terms_below schema s terms (belows (Expr-F.Sum terms) r alone)))

  grows_product : (factors : List Expr) → Ready (Expr-F.Product factors) → Grows (Expr-F.Product factors)
  grows_product factors r alone = low_at schema s (Expr-F.Product factors) (product_grows 1 1 (map (in_scope []) (map (bound_of []) (map fold.folded_expr factors))) (map (in_scope s) (map (bound_of schema) factors)) (omega arith) (exprs_below schema s factors (belows (Expr-F.Product factors) r alone)))

  grows_coalesce : (members : List Expr) → Ready (Expr-F.Coalesce members) → Grows (Expr-F.Coalesce members)
  grows_coalesce members r alone = low_at schema s (Expr-F.Coalesce members) (greatest_grows 0 0 (map (in_scope []) (map (bound_of []) (map fold.folded_expr members))) (map (in_scope s) (map (bound_of schema) members)) (omega arith) (exprs_below schema s members (belows (Expr-F.Coalesce members) r alone)))

  grows_case : (operand : Option Expr) (arms : List (Expr × Expr)) (otherwise : Option Expr) → Ready (Expr-F.Case operand arms otherwise) → Grows (Expr-F.Case operand arms otherwise)
  grows_case operand arms otherwise r alone =
      let all = belows (Expr-F.Case operand arms otherwise) r alone in
      let rest = each_right (BoundLow schema s) (option_part operand) (arm_parts arms ++ option_part otherwise) all in
      low_at schema s (Expr-F.Case operand arms otherwise) (greatest_grows 0 0
      (map (in_scope []) (map arm_result (map (λ (a : Expr × Expr). (bound_of [] a.0, bound_of [] a.1)) (map (λ (a : Expr × Expr). (fold.folded_expr a.0, fold.folded_expr a.1)) arms)) ++ option_part ((former-Expr-Case-0).map Expr BoundIn (bound_of []) ((former-Expr-Case-0).map Expr Expr fold.folded_expr otherwise))))
      (map (in_scope s) (map arm_result (map (λ (a : Expr × Expr). (bound_of schema a.0, bound_of schema a.1)) arms) ++ option_part ((former-Expr-Case-0).map Expr BoundIn (bound_of schema) otherwise)))
      (omega arith) (arms_below schema s arms otherwise (each_left (BoundLow schema s) (arm_parts arms) (option_part otherwise) rest) (each_right (BoundLow schema s) (arm_parts arms) (option_part otherwise) rest)))

  -- an operator that is NULL where an operand is
  strict : (x : ExprLayer) → is_operator (expr_parts_folded x) ≡ true → Ready x → Grows x → bits.kind_type (expr_parts_folded x) ≡ fold.type_at (expr_parts_folded x)
      → bits.expr_step (expr_parts_folded x) ≡ fold.strict_by bits.made bits.kind_type (expr_parts_folded x) → fold.expr_folded (expr_parts_folded x) ≡ fold.strict_by fold.computed fold.type_at (expr_parts_folded x) → Alike x
  strict x op r grows kind made folded = record {
    same = made ∙ if_same x op r grows (λ alone. kind) (fold.if_null_of bits.kind_type (expr_parts_folded x)) (fold.if_null (expr_parts_folded x)) (null_same (expr_parts_folded x) kind) ∙ sym folded;
    low = subst (LowAt x) (sym folded) (if_low x op r grows (fold.if_null (expr_parts_folded x)) (null_low x op));
  }

  -- a condition
  condition : (x : ExprLayer) (b : Bool) (e : Expr) → is_operator (expr_parts_folded x) ≡ true → Ready x → bits.kind_type (expr_parts_folded x) ≡ ty.Boolean → expr_type (typed_level (expr_parts_folded x)) ≡ typed_if b ty.Boolean → expr_bound (bound_level [] (expr_parts_folded x)) [] ≡ 0
      → bits.expr_step (expr_parts_folded x) ≡ fold.if_made bits.made (expr_parts_folded x) e → fold.expr_folded (expr_parts_folded x) ≡ fold.if_made fold.computed (expr_parts_folded x) e → Alike x
  condition x b e op r kind is none made folded = record {
    same = made ∙ if_same x op r (no_bound x none) (truth x b op r kind is) e e refl ∙ sym folded;
    low = other_low x ty.Boolean refl r (const_type x b ty.Boolean r is);
  }

  pub level_alike : (x : ExprLayer) → Ready x → Alike x
  level_alike (Expr-F.Col rel col t nulled) r = record { same = refl; low = λ v h. absurd (never v (sym (ap fold.literal_at (out-roll-Expr (Expr-F.Col rel col t nulled))) ∙ h)) }
    where
      never : (v : Value) → None ≡ Some v → ⊥
      never v h = cc
  level_alike (Expr-F.Lit w t) r = record { same = refl; low = λ v h. lit v (sym (ap fold.literal_at (out-roll-Expr (Expr-F.Lit w t))) ∙ h) }
    where
      its : (v : Value) → Some w ≡ Some v → w ≡ v
      its v h = cc

      at : bound_of schema (roll-Expr (Expr-F.Lit w t)) s ≡ magnitude w
      at = ap (λ (b : BoundIn). b s) (bound_at schema (Expr-F.Lit w t))

      lit : (v : Value) → Some w ≡ Some v → magnitude v ≤ bound_of schema (roll-Expr (Expr-F.Lit w t)) s
      lit v h = subst (λ z. magnitude z ≤ bound_of schema (roll-Expr (Expr-F.Lit w t)) s) (its v h) (omega (arith, at))
  level_alike (Expr-F.Place inner rels) r = record { same = refl; low = λ v h. absurd (never v (sym (ap fold.literal_at (out-roll-Expr (Expr-F.Place (fold.folded_expr inner) rels))) ∙ h)) }
    where
      never : (v : Value) → None ≡ Some v → ⊥
      never v h = cc
  level_alike (Expr-F.Exists sub query) r = record { same = refl; low = λ v h. absurd (never v (sym (ap fold.literal_at (out-roll-Expr (Expr-F.Exists sub (fold.folded query)))) ∙ h)) }
    where
      never : (v : Value) → None ≡ Some v → ⊥
      never v h = cc
  level_alike (Expr-F.InSub sub operand query) r = record { same = refl; low = λ v h. absurd (never v (sym (ap fold.literal_at (out-roll-Expr (Expr-F.InSub sub (fold.folded_expr operand) (fold.folded query)))) ∙ h)) }
    where
      never : (v : Value) → None ≡ Some v → ⊥
      never v h = cc
  level_alike (Expr-F.Neg operand) r = strict (Expr-F.Neg operand) refl r (grows_neg operand r) (const_kind (Expr-F.Neg operand) (is_of ty.Number (type_of (fold.folded_expr operand))) ty.Number r refl) refl refl
  level_alike (Expr-F.Sum terms) r = strict (Expr-F.Sum terms) refl r (grows_sum terms r) (const_kind (Expr-F.Sum terms) _ ty.Number r refl) refl refl
  level_alike (Expr-F.Product factors) r = strict (Expr-F.Product factors) refl r (grows_product factors r) (const_kind (Expr-F.Product factors) _ ty.Number r refl) refl refl
  level_alike (Expr-F.Concat pieces) r = strict (Expr-F.Concat pieces) refl r (no_bound (Expr-F.Concat pieces) refl) (const_kind (Expr-F.Concat pieces) _ ty.Text r refl) refl refl
  level_alike (Expr-F.Compare op left right) r = strict (Expr-F.Compare op left right) refl r (no_bound (Expr-F.Compare op left right) refl) (const_kind (Expr-F.Compare op left right) _ ty.Boolean r refl) refl refl
  level_alike (Expr-F.And members) r = condition (Expr-F.And members) _ (fold.folded_and (map fold.folded_expr members)) refl r refl refl refl refl refl
  level_alike (Expr-F.Or members) r = condition (Expr-F.Or members) _ (fold.folded_or (map fold.folded_expr members)) refl r refl refl refl refl refl
  level_alike (Expr-F.Coalesce members) r = record {
    same = if_same (Expr-F.Coalesce members) refl r (grows_coalesce members r) (λ alone. coalesce_kind (map fold.folded_expr members) r.typed alone) (roll-Expr (expr_parts_folded (Expr-F.Coalesce members))) (roll-Expr (expr_parts_folded (Expr-F.Coalesce members))) refl;
    low = if_low (Expr-F.Coalesce members) refl r (grows_coalesce members r) (roll-Expr (expr_parts_folded (Expr-F.Coalesce members))) (rolled_low (Expr-F.Coalesce members) refl);
  }
  level_alike (Expr-F.Case operand arms otherwise) r = record {
    same = if_same (Expr-F.Case operand arms otherwise) refl r (grows_case operand arms otherwise r) (λ alone. case_kind ((former-Expr-Case-0).map Expr Expr fold.folded_expr operand) (map (λ (a : Expr × Expr). (fold.folded_expr a.0, fold.folded_expr a.1)) arms) ((former-Expr-Case-0).map Expr Expr fold.folded_expr otherwise) r.typed alone)
        (roll-Expr (expr_parts_folded (Expr-F.Case operand arms otherwise))) (roll-Expr (expr_parts_folded (Expr-F.Case operand arms otherwise))) refl;
    low = if_low (Expr-F.Case operand arms otherwise) refl r (grows_case operand arms otherwise r) (roll-Expr (expr_parts_folded (Expr-F.Case operand arms otherwise))) (rolled_low (Expr-F.Case operand arms otherwise) refl);
  }
  level_alike (Expr-F.Between operand low high) r = condition (Expr-F.Between operand low high) _ (roll-Expr (expr_parts_folded (Expr-F.Between operand low high))) refl r refl refl refl refl refl
  level_alike (Expr-F.InList operand list) r = condition (Expr-F.InList operand list) _ (roll-Expr (expr_parts_folded (Expr-F.InList operand list))) refl r refl refl refl refl refl
  level_alike (Expr-F.Not operand) r = condition (Expr-F.Not operand) _ (roll-Expr (expr_parts_folded (Expr-F.Not operand))) refl r refl refl refl refl refl
  level_alike (Expr-F.Test test operand) r = condition (Expr-F.Test test operand) _ (roll-Expr (expr_parts_folded (Expr-F.Test test operand))) refl r refl refl refl refl refl
