-- A folded expression has no column outside sublinks that it had not.
use Rattle.std.proofs.Common.{◌≡◌, ap, sym, subst, refl, ℕ, Bool, true, false, List, [], ◌∷◌, ◌++◌, map}
use Rattle.std.specs.Prelude.{if◌then◌else◌}
use Rattle.std.specs.List.{list_any}
use Rattle.jp_base.specs.declared.values.Ty.{Ty}
use Rattle.jp_base.specs.declared.values.Value.{Value}
use Rattle.jp_base.specs.declared.values.Value.TheVariants as value
use Rattle.jp_query.specs.declared.Expr.{Expr, out-Expr}
use Rattle.jp_query.specs.declared.JoinTree.{JoinTree}
use Rattle.jp_query.specs.declared.Order.{Order}
use Rattle.jp_query.specs.declared.Output.{Output}
use Rattle.jp_query.specs.declared.Query.{Query}
use Rattle.jp_query.specs.declared.Expr.TheOpen.{Expr-F}
use Rattle.jp_query.specs.declared.Expr.TheViews.{roll-Expr, roll-Order, roll-Output, roll-out-Expr}
use Rattle.jp_query.specs.declared.Expr.TheFolds.{fold-Order, fold-Output, map-Expr, fold-roll-Expr}
use Rattle.jp_query.specs.Layers.{ExprLayer}
use Rattle.jp_query.specs.Parts.{all_in, parts, ColumnRef, node_column}
use Rattle.jp_query.specs.Fitting.{expr_own_columns, own_columns}
use Rattle.jp_induction.proofs.Induction.{expr_alone}
use Rattle.jp_laws.proofs.EachPart.{Each, each_append, each_mapped, each_map, each_in_parts, parts_map}
use Rattle.jp_laws.proofs.OwnColumns.{column_map, own_has, own_level}
use Rattle.jp_folding.specs.Folding as fold
use Rattle.jp_folding.proofs.TypeLaws.{own_at, folded_order, folded_output, expr_parts_folded}

module _ (P : ColumnRef → Type 0) where
  abbrev pub Have : Expr → Type 0
  Have e = Each P (own_columns e)

  literal_has : (v : Value) (t : Ty) → Have (fold.literal v t)
  literal_has v t = subst (Each P) (sym (own_at (Expr-F.Lit v t))) tt

  -- a level whose parts have them
  rolled_has : (x : ExprLayer) → Each P (node_column x) → Each Have (parts x) → Have (roll-Expr x)
  rolled_has x here inner = subst (Each P) (sym (own_at x))
      (each_append P (node_column (own_level x)) (all_in (parts (own_level x))) (subst (Each P) (sym (column_map own_columns (λ t. tt) (λ o. tt) (λ u. tt) (λ q. tt) x)) here)
      (each_in_parts P (parts (own_level x)) (subst (Each (Each P)) (sym (parts_map own_columns (λ t. tt) (λ o. tt) (λ u. tt) (λ q. tt) x)) (each_map (Each P) own_columns (parts x) inner))))

  computed_has : (x : ExprLayer) (e : Expr) → Have e → Have (fold.if_computed x e)
  computed_has x e h = by (fold.has_literals_alone x)
    where
      by : (b : Bool) → Have (if b then fold.computed x else e)
      by true = literal_has _ _
      by false = h

  null_has : (x : ExprLayer) → Have (roll-Expr x) → Have (fold.if_null x)
  null_has x h = by (list_any fold.is_null (parts x))
    where
      by : (b : Bool) → Have (if b then fold.literal value.Null (fold.type_at x) else roll-Expr x)
      by true = literal_has value.Null (fold.type_at x)
      by false = h

  and_at_has : (x : ExprLayer) (e : Expr) → Have (roll-Expr x) → Have e → Each Have (fold.and_at x e)
  and_at_has (Expr-F.And members) e h k = (own_has P (Expr-F.And members) h).1
  and_at_has (Expr-F.Lit (value.Bool true) t) e h k = tt
  and_at_has x e h k = (k, tt)

  pub and_members_have : (e : Expr) → Have e → Each Have (fold.and_members e)
  and_members_have e h = and_at_has (out-Expr e) e (subst Have (sym (roll-out-Expr e)) h) h

  or_at_has : (x : ExprLayer) (e : Expr) → Have (roll-Expr x) → Have e → Each Have (fold.or_at x e)
  or_at_has (Expr-F.Or members) e h k = (own_has P (Expr-F.Or members) h).1
  or_at_has (Expr-F.Lit (value.Bool false) t) e h k = tt
  or_at_has x e h k = (k, tt)

  pub or_members_have : (e : Expr) → Have e → Each Have (fold.or_members e)
  or_members_have e h = or_at_has (out-Expr e) e (subst Have (sym (roll-out-Expr e)) h) h

  pub all_have : (f : Expr → List Expr) → ((e : Expr) → Have e → Each Have (f e)) → (es : List Expr) → Each Have es → Each Have (all_in (map f es))
  all_have f good [] h = tt
  all_have f good (e ∷ es) h = each_append Have (f e) (all_in (map f es)) (good e h.0) (all_have f good es h.1)

  one_and_has : (es : List Expr) → Each Have es → Have (fold.one_and es)
  one_and_has [] h = literal_has (value.Bool true) _
  one_and_has (e ∷ []) h = h.0
  one_and_has (e ∷ d ∷ es) h = rolled_has (Expr-F.And (e ∷ d ∷ es)) tt h

  one_or_has : (es : List Expr) → Each Have es → Have (fold.one_or es)
  one_or_has [] h = literal_has (value.Bool false) _
  one_or_has (e ∷ []) h = h.0
  one_or_has (e ∷ d ∷ es) h = rolled_has (Expr-F.Or (e ∷ d ∷ es)) tt h

  either_has : (b : Bool) (x y : Expr) → Have x → Have y → Have (if b then x else y)
  either_has true x y h k = h
  either_has false x y h k = k

  and_has : (es : List Expr) → Each Have es → Have (fold.folded_and es)
  and_has es h = either_has (list_any fold.is_false es) (fold.truth_literal false) (fold.one_and (all_in (map fold.and_members es))) (literal_has (value.Bool false) _) (one_and_has (all_in (map fold.and_members es)) (all_have fold.and_members and_members_have es h))

  or_has : (es : List Expr) → Each Have es → Have (fold.folded_or es)
  or_has es h = either_has (list_any fold.is_true es) (fold.truth_literal true) (fold.one_or (all_in (map fold.or_members es))) (literal_has (value.Bool true) _) (one_or_has (all_in (map fold.or_members es)) (all_have fold.or_members or_members_have es h))

  level_has : (x : ExprLayer) → Each P (node_column x) → Each Have (parts x) → Have (fold.expr_folded x)
  level_has (Expr-F.Neg operand) here h = computed_has (Expr-F.Neg operand) (fold.if_null (Expr-F.Neg operand)) (null_has (Expr-F.Neg operand) (rolled_has (Expr-F.Neg operand) here h))
  level_has (Expr-F.Sum terms) here h = computed_has (Expr-F.Sum terms) (fold.if_null (Expr-F.Sum terms)) (null_has (Expr-F.Sum terms) (rolled_has (Expr-F.Sum terms) here h))
  level_has (Expr-F.Product factors) here h = computed_has (Expr-F.Product factors) (fold.if_null (Expr-F.Product factors)) (null_has (Expr-F.Product factors) (rolled_has (Expr-F.Product factors) here h))
  level_has (Expr-F.Concat pieces) here h = computed_has (Expr-F.Concat pieces) (fold.if_null (Expr-F.Concat pieces)) (null_has (Expr-F.Concat pieces) (rolled_has (Expr-F.Concat pieces) here h))
  level_has (Expr-F.Compare op left right) here h = computed_has (Expr-F.Compare op left right) (fold.if_null (Expr-F.Compare op left right)) (null_has (Expr-F.Compare op left right) (rolled_has (Expr-F.Compare op left right) here h))
  level_has (Expr-F.And es) here h = computed_has (Expr-F.And es) (fold.folded_and es) (and_has es h)
  level_has (Expr-F.Or es) here h = computed_has (Expr-F.Or es) (fold.folded_or es) (or_has es h)
  level_has (Expr-F.Col rel col t nulled) here h = rolled_has (Expr-F.Col rel col t nulled) here h
  level_has (Expr-F.Lit v t) here h = rolled_has (Expr-F.Lit v t) here h
  level_has (Expr-F.Place inner rels) here h = rolled_has (Expr-F.Place inner rels) here h
  level_has (Expr-F.Exists sub query) here h = rolled_has (Expr-F.Exists sub query) here h
  level_has (Expr-F.InSub sub operand query) here h = rolled_has (Expr-F.InSub sub operand query) here h
  level_has x here h = computed_has x (roll-Expr x) (rolled_has x here h)

  given : (xs : List Expr) → Each (λ e. Have e → Have (fold.folded_expr e)) xs → Each Have xs → Each Have (map fold.folded_expr xs)
  given [] p h = tt
  given (x ∷ xs) p h = (p.0 h.0, given xs p.1 h.1)

  pub own_kept : (x : Expr) → Have x → Have (fold.folded_expr x)
  own_kept = expr_alone (λ e. Have e → Have (fold.folded_expr e)) step
    where
      step : (x : ExprLayer) → Each (λ e. Have e → Have (fold.folded_expr e)) (parts x) → Have (roll-Expr x) → Have (fold.folded_expr (roll-Expr x))
      step x p h =
          let has = own_has P x h in
          subst Have (sym (fold-roll-Expr Expr JoinTree Order Output Query fold.expr_folded fold.tree_folded roll-Order roll-Output fold.query_folded x))
          (level_has (expr_parts_folded x) (subst (Each P) (sym (column_map fold.folded_expr fold.folded_tree folded_order folded_output fold.folded x)) has.0)
          (subst (Each Have) (sym (parts_map fold.folded_expr fold.folded_tree folded_order folded_output fold.folded x)) (given (parts x) p has.1)))
