-- What holds of an expression when it is folded: a claim that holds of the literals that folding makes, and that goes up to
-- ANDs and ORs from their members and down to them, holds of a folded level where it holds of the level and its parts.
use Rattle.std.proofs.Common.{◌≡◌, sym, subst, refl, Bool, true, false, List, [], ◌∷◌, map}
use Rattle.std.specs.Prelude.{if◌then◌else◌}
use Rattle.std.specs.List.{list_any}
use Rattle.jp_base.specs.declared.values.Ty.{Ty}
use Rattle.jp_base.specs.declared.values.Value.TheVariants as value
use Rattle.jp_query.specs.declared.Expr.{Expr, out-Expr}
use Rattle.jp_query.specs.declared.Expr.TheOpen.{Expr-F}
use Rattle.jp_query.specs.declared.Expr.TheViews.{roll-Expr, roll-out-Expr}
use Rattle.jp_query.specs.Layers.{ExprLayer}
use Rattle.jp_query.specs.Parts.{all_in, parts, node_column}
use Rattle.jp_laws.proofs.EachPart.{Each, each_append}
use Rattle.jp_folding.specs.Folding as fold
use Rattle.jp_folding.proofs.Runs.{runs}

module _ (Free : Expr → Type 0) where
  pub record IsClosed : Type 0 where
    pub null : (t : Ty) → Free (fold.literal value.Null t)
    pub truth : (b : Bool) → Free (fold.truth_literal b)
    pub and_parts : (es : List Expr) → Free (roll-Expr (Expr-F.And es)) → Each Free es
    pub or_parts : (es : List Expr) → Free (roll-Expr (Expr-F.Or es)) → Each Free es
    pub and_made : (e : Expr) (es : List Expr) → Each Free (e ∷ es) → Free (roll-Expr (Expr-F.And (e ∷ es)))
    pub or_made : (e : Expr) (es : List Expr) → Each Free (e ∷ es) → Free (roll-Expr (Expr-F.Or (e ∷ es)))

  -- the literal that is made of an operator of literals
  abbrev pub WhereComputed : ExprLayer → Type 0
  WhereComputed x = node_column x ≡ [] → fold.has_literals_alone x ≡ true → Free (fold.computed x)

  module _ (closed : IsClosed) where
    if_computed : (x : ExprLayer) (e : Expr) → node_column x ≡ [] → WhereComputed x → Free e → Free (fold.if_computed x e)
    if_computed x e none made h = by (fold.has_literals_alone x) refl
      where
        by : (b : Bool) → fold.has_literals_alone x ≡ b → Free (if b then fold.computed x else e)
        by true alone = made none alone
        by false some = h

    if_null : (x : ExprLayer) → Free (roll-Expr x) → Free (fold.if_null x)
    if_null x h = by (list_any fold.is_null (parts x))
      where
        by : (b : Bool) → Free (if b then fold.literal value.Null (fold.type_at x) else roll-Expr x)
        by true = closed.null (fold.type_at x)
        by false = h

    and_at : (x : ExprLayer) (e : Expr) → Free (roll-Expr x) → Free e → Each Free (fold.and_at x e)
    and_at (Expr-F.And members) e h k = closed.and_parts members h
    and_at (Expr-F.Lit (value.Bool true) t) e h k = tt
    and_at x e h k = (k, tt)

    pub and_members : (e : Expr) → Free e → Each Free (fold.and_members e)
    and_members e h = and_at (out-Expr e) e (subst Free (sym (roll-out-Expr e)) h) h

    or_at : (x : ExprLayer) (e : Expr) → Free (roll-Expr x) → Free e → Each Free (fold.or_at x e)
    or_at (Expr-F.Or members) e h k = closed.or_parts members h
    or_at (Expr-F.Lit (value.Bool false) t) e h k = tt
    or_at x e h k = (k, tt)

    or_members : (e : Expr) → Free e → Each Free (fold.or_members e)
    or_members e h = or_at (out-Expr e) e (subst Free (sym (roll-out-Expr e)) h) h

    all_of : (f : Expr → List Expr) → ((e : Expr) → Free e → Each Free (f e)) → (es : List Expr) → Each Free es → Each Free (all_in (map f es))
    all_of f good [] h = tt
    all_of f good (e ∷ es) h = each_append Free (f e) (all_in (map f es)) (good e h.0) (all_of f good es h.1)

    one_and : (es : List Expr) → Each Free es → Free (fold.one_and es)
    one_and [] h = closed.truth true
    one_and (e ∷ []) h = h.0
    one_and (e ∷ d ∷ es) h = closed.and_made e (d ∷ es) h

    one_or : (es : List Expr) → Each Free es → Free (fold.one_or es)
    one_or [] h = closed.truth false
    one_or (e ∷ []) h = h.0
    one_or (e ∷ d ∷ es) h = closed.or_made e (d ∷ es) h

    either : (b : Bool) (x y : Expr) → Free x → Free y → Free (if b then x else y)
    either true x y h k = h
    either false x y h k = k

    and_folded : (es : List Expr) → Each Free es → Free (fold.folded_and es)
    and_folded es h = either (list_any fold.is_false es) (fold.truth_literal false) (fold.one_and (all_in (map fold.and_members es))) (closed.truth false) (one_and (all_in (map fold.and_members es)) (all_of fold.and_members and_members es h))

    or_folded : (es : List Expr) → Each Free es → Free (fold.folded_or es)
    or_folded es h = either (list_any fold.is_true es) (fold.truth_literal true) (fold.one_or (all_in (map fold.or_members es))) (closed.truth true) (one_or (all_in (map fold.or_members es)) (all_of fold.or_members or_members es h))

    and_level : (es : List Expr) → WhereComputed (Expr-F.And es) → Each Free es → Free (fold.expr_folded (Expr-F.And es))
    and_level es made h = if_computed (Expr-F.And es) (fold.folded_and es) refl made (and_folded es h)

    pub at_level : (x : ExprLayer) → WhereComputed x → Each Free (parts x) → Free (roll-Expr x) → Free (fold.expr_folded x)
    at_level (Expr-F.Neg operand) made p h = if_computed (Expr-F.Neg operand) (fold.if_null (Expr-F.Neg operand)) refl made (if_null (Expr-F.Neg operand) h)
    at_level (Expr-F.Sum terms) made p h = if_computed (Expr-F.Sum terms) (fold.if_null (Expr-F.Sum terms)) refl made (if_null (Expr-F.Sum terms) h)
    at_level (Expr-F.Product factors) made p h = if_computed (Expr-F.Product factors) (fold.if_null (Expr-F.Product factors)) refl made (if_null (Expr-F.Product factors) h)
    at_level (Expr-F.Concat pieces) made p h = if_computed (Expr-F.Concat pieces) (fold.if_null (Expr-F.Concat pieces)) refl made (if_null (Expr-F.Concat pieces) h)
    at_level (Expr-F.Compare op left right) made p h = if_computed (Expr-F.Compare op left right) (fold.if_null (Expr-F.Compare op left right)) refl made (if_null (Expr-F.Compare op left right) h)
    at_level (Expr-F.And es) made p h = and_level es made p
    at_level (Expr-F.Or es) made p h = if_computed (Expr-F.Or es) (fold.folded_or es) refl made (or_folded es p)
    at_level (Expr-F.Col rel col t nulled) made p h = h
    at_level (Expr-F.Lit v t) made p h = h
    at_level (Expr-F.Place inner rels) made p h = h
    at_level (Expr-F.Exists sub query) made p h = h
    at_level (Expr-F.InSub sub operand query) made p h = h
    at_level x made p h = if_computed x (roll-Expr x) refl made h

    none_left : fold.conditions_folded [] ≡ []
    none_left = simp runs

    -- a list of conditions is folded as the AND of its members, where there are some
    pub at_conditions : (es : List Expr) → WhereComputed (Expr-F.And es) → Each Free es → Each Free (fold.conditions_folded es)
    at_conditions [] made h = subst (Each Free) (sym none_left) tt
    at_conditions (e ∷ es) made h = and_members (fold.expr_folded (Expr-F.And (e ∷ es))) (and_level (e ∷ es) made h)
