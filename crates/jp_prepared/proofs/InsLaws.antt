-- The sublinks of an expression that are IN are among its outermost ones, and the query of each has one output.
use Rattle.std.proofs.Common.{◌≡◌, ◌∙◌, ap, sym, subst, refl, inl, inr, Bool, true, ◌&&◌, List, [], ◌∷◌, ◌++◌, map, IsSome}
use Rattle.std.proofs.lemmas.Bool.{and_parts}
use Rattle.jp_base.specs.declared.values.Ty.{Ty}
use Rattle.jp_base.specs.declared.values.Ty.TheVariants as ty
use Rattle.jp_facts.proofs.Members.{In, in_append_left, in_append_right}
use Rattle.jp_query.specs.declared.Expr.{Expr}
use Rattle.jp_query.specs.declared.JoinTree.{JoinTree}
use Rattle.jp_query.specs.declared.Order.{Order}
use Rattle.jp_query.specs.declared.Output.{Output}
use Rattle.jp_query.specs.declared.Query.{Query}
use Rattle.jp_query.specs.declared.Expr.TheOpen.{Expr-F}
use Rattle.jp_query.specs.declared.Expr.TheViews.{roll-Expr}
use Rattle.jp_query.specs.declared.Expr.TheFolds.{map-Expr, para-JoinTree, para-Order, para-Output, para-Query, para-roll-Expr, fold-roll-Expr}
use Rattle.jp_query.specs.Layers.{ExprLayer}
use Rattle.jp_query.specs.Outermost.{Outer, Outers, Level, outers_in, outer_here, expr_outers, outermost}
use Rattle.jp_query.specs.Parts.{all_in, parts}
use Rattle.jp_query.specs.Typing.{Typed, TypedOutput, TypedQuery, is_one_of, expr_type, tree_typed, order_typed, output_typed, query_typed, type_of, typed_query, IsTypedExpr}
use Rattle.jp_induction.proofs.EachPart.{Each, each_append, each_weaker, each_in_parts, each_map, parts_map}
use Rattle.jp_induction.proofs.Induction.{expr_alone}
use Rattle.jp_laws.proofs.GatheredLaws.{when_some}
use Rattle.jp_folding.proofs.TypedDown.{typed_down}
use Rattle.jp_tree.specs.BlockParts.{in_here, in_level, outermost_ins}
use Rattle.jp_prepared.proofs.ColumnsSeen.{each_among}
use Rattle.jp_prepared.proofs.Reached.{beside_expr, beside_tree, beside_order, beside_output, beside_query, outer_level, inner_outers}

-- ---- the levels

abbrev ins_beside : Expr → Expr × Outers
ins_beside x = (x, outermost_ins x)

abbrev ins_level : ExprLayer → Level
ins_level = map-Expr Expr JoinTree Order Output Query (Expr × Outers) (JoinTree × Outers) (Order × Outers) (Output × Outers) (Query × Outers) ins_beside
    (λ t. (t, para-JoinTree Outers Outers Outers Outers Outers in_level (λ t. []) (λ o. []) (λ u. []) (λ q. []) t)) (λ o. (o, para-Order Outers Outers Outers Outers Outers in_level (λ t. []) (λ o. []) (λ u. []) (λ q. []) o))
    (λ u. (u, para-Output Outers Outers Outers Outers Outers in_level (λ t. []) (λ o. []) (λ u. []) (λ q. []) u)) (λ q. (q, para-Query Outers Outers Outers Outers Outers in_level (λ t. []) (λ o. []) (λ u. []) (λ q. []) q))

inner_ins : (xs : List Expr) → map outers_in (map ins_beside xs) ≡ map outermost_ins xs
inner_ins [] = refl
inner_ins (x ∷ xs) = ap (λ os. outermost_ins x ∷ os) (inner_ins xs)

ins_parts : (x : ExprLayer) → map outers_in (parts (ins_level x)) ≡ map outermost_ins (parts x)
ins_parts x = ap (map outers_in) (parts_map ins_beside
    (λ t. (t, para-JoinTree Outers Outers Outers Outers Outers in_level (λ t. []) (λ o. []) (λ u. []) (λ q. []) t)) (λ o. (o, para-Order Outers Outers Outers Outers Outers in_level (λ t. []) (λ o. []) (λ u. []) (λ q. []) o))
    (λ u. (u, para-Output Outers Outers Outers Outers Outers in_level (λ t. []) (λ o. []) (λ u. []) (λ q. []) u)) (λ q. (q, para-Query Outers Outers Outers Outers Outers in_level (λ t. []) (λ o. []) (λ u. []) (λ q. []) q)) x) ∙ inner_ins (parts x)

at_outers : (x : ExprLayer) → outermost (roll-Expr x) ≡ outer_here (outer_level x) ++ all_in (map outermost (parts x))
at_outers x =
    para-roll-Expr Outers Outers Outers Outers Outers expr_outers (λ t. []) (λ o. []) (λ u. []) (λ q. []) x
    ∙ ap (λ os. outer_here (outer_level x) ++ all_in os) (ap (map outers_in) (parts_map beside_expr beside_tree beside_order beside_output beside_query x) ∙ inner_outers (parts x))

in_some : (o : Outer) (es : List Expr) (e : Expr) → In e es → In o (outermost e) → In o (all_in (map outermost es))
in_some o [] e m h = absurd m
in_some o (x ∷ es) e (inl same) h = in_append_left o (outermost x) (all_in (map outermost es)) (subst (λ y. In o (outermost y)) (sym same) h)
in_some o (x ∷ es) e (inr m) h = in_append_right o (outermost x) (all_in (map outermost es)) (in_some o es e m h)

-- ---- the claim

abbrev pub HasOneOutput : Outer → Type 0
HasOneOutput o = (t : Ty) × ((typed_query o.query).outputs ≡ t ∷ [])

abbrev Fine : Expr → Outer → Type 0
Fine e o = In o (outermost e) × HasOneOutput o

abbrev Told : Expr → Type 0
Told e = IsTypedExpr e → Each (Fine e) (outermost_ins e)

one_output : (operand : Typed) (types : List Ty) → is_one_of operand types ≡ true → (t : Ty) × (types ≡ t ∷ [])
one_output operand [] h = cc
one_output operand (t ∷ []) h = (t, refl)
one_output operand (t ∷ u ∷ types) h = cc

here_fine : (x : ExprLayer) → IsTypedExpr (roll-Expr x) → Each (Fine (roll-Expr x)) (in_here (ins_level x))
here_fine (Expr-F.InSub sub operand query) typed = ((subst (In (record { number = sub; query = query })) (sym (at_outers (Expr-F.InSub sub operand query))) (inl refl), one_output (type_of operand) (typed_query query).outputs both.1), tt)
  where
    both : ((typed_query query).is_typed ≡ true) × (is_one_of (type_of operand) (typed_query query).outputs ≡ true)
    both = and_parts (typed_query query).is_typed (is_one_of (type_of operand) (typed_query query).outputs)
        (when_some ((typed_query query).is_typed && is_one_of (type_of operand) (typed_query query).outputs) ty.Boolean (subst IsSome (fold-roll-Expr Typed Bool Typed TypedOutput TypedQuery expr_type tree_typed order_typed output_typed query_typed (Expr-F.InSub sub operand query)) typed))
here_fine x typed = tt

parts_fine : (es : List Expr) → Each Told es → Each IsTypedExpr es → Each (λ e. Each (Fine e) (outermost_ins e)) es
parts_fine [] each typed = tt
parts_fine (e ∷ es) each typed = (each.0 typed.0, parts_fine es each.1 typed.1)

pub ins_fine : (e : Expr) → IsTypedExpr e → Each (λ o. In o (outermost e) × HasOneOutput o) (outermost_ins e)
ins_fine = expr_alone Told step
  where
    step : (x : ExprLayer) → Each Told (parts x) → Told (roll-Expr x)
    step x each typed =
        let e = roll-Expr x in
        let inner = parts_fine (parts x) each (typed_down.expr tt x typed).0 in
        let moved = each_among (λ p. Each (Fine p) (outermost_ins p)) (λ p. Each (Fine e) (outermost_ins p)) (parts x)
        (λ p m h. each_weaker (Fine p) (Fine e) (λ o f. (subst (In o) (sym (at_outers x)) (in_append_right o (outer_here (outer_level x)) (all_in (map outermost (parts x))) (in_some o (parts x) p m f.0)), f.1)) (outermost_ins p) h) inner in
        subst (Each (Fine e)) (sym (para-roll-Expr Outers Outers Outers Outers Outers in_level (λ t. []) (λ o. []) (λ u. []) (λ q. []) x))
        (each_append (Fine e) (in_here (ins_level x)) (all_in (map outers_in (parts (ins_level x)))) (here_fine x typed) (each_in_parts (Fine e) (map outers_in (parts (ins_level x))) (subst (Each (Each (Fine e))) (sym (ins_parts x)) (each_map (Each (Fine e)) outermost_ins (parts x) moved))))
