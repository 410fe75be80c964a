-- The sublinks of an expression that stands in a query are sublinks of the query.
use Rattle.std.proofs.Common.{◌≡◌, ◌∙◌, ap, sym, subst, inl, inr, true, List, [], ◌∷◌, ◌++◌, map}
use Rattle.std.specs.Prelude.{Contains, ◌↔◌}
use Rattle.jp_query.specs.declared.Expr.{Expr, out-Expr, roll-out-Expr}
use Rattle.jp_query.specs.declared.JoinTree.{JoinTree}
use Rattle.jp_query.specs.declared.Order.{Order, out-Order, roll-out-Order}
use Rattle.jp_query.specs.declared.Output.{Output, out-Output, roll-out-Output}
use Rattle.jp_query.specs.declared.Query.{Query, out-Query, roll-out-Query}
use Rattle.jp_query.specs.declared.Expr.TheOpen.{Expr-F, JoinTree-F, Order-F, Output-F, Query-F}
use Rattle.jp_query.specs.declared.Expr.TheViews.{roll-Expr, roll-JoinTree, roll-Order, roll-Output, roll-Query}
use Rattle.jp_query.specs.declared.Expr.TheFolds.{map-Expr, map-JoinTree, map-Order, map-Output, map-Query, ind-Query, para-Expr, para-JoinTree, para-Order, para-Output, para-roll-Expr, para-roll-JoinTree, para-roll-Order, para-roll-Output, para-roll-Query}
use Rattle.jp_query.specs.Parts.{all_in, parts, sublink_query, option_part}
use Rattle.jp_query.specs.Equality.{same_expr}
use Rattle.jp_query.specs.Freshness.{Sublink, Found, found_in, sublink_here, expr_found, tree_found, order_found, output_found, query_found, sublinks_in, IsFresh}
use Rattle.jp_query.specs.Subexpressions.{Exprs, exprs_beside, expr_exprs, tree_exprs, order_exprs, output_exprs, query_exprs, expressions_in, sublinks_of}
use Rattle.jp_facts.proofs.Members.{In, to_in, from_in, in_append_left, in_append_right, from_append}
use Rattle.jp_laws.proofs.EachPart.{parts_map, sublink_map}
use Rattle.jp_laws.proofs.EqualityLaws.{same_are_equal}
use Rattle.jp_laws.proofs.LevelLaws.{values_go}
use Rattle.jp_laws.proofs.SameItself.{same_as_itself}

-- each expression in the one list has its sublinks in the other
abbrev Kept : Exprs → Found → Type 0
Kept exprs found = (e : Expr) (s : Sublink) → In e exprs → In s (sublinks_of e) → In s found

kept_both : (xs ys : Exprs) (fs gs : Found) → Kept xs fs → Kept ys gs → Kept (xs ++ ys) (fs ++ gs)
kept_both xs ys fs gs k l e s h m = elim (from_append e xs ys h) [ inl p ↦ in_append_left s fs gs (k e s p m) | inr q ↦ in_append_right s fs gs (l e s q m) ]

-- of parts, each with its expressions and its sublinks
module _ (X : Type 0) (exprs : X → Exprs) (found : X → Found) where
  abbrev Part : Type 0
  Part = (x : X) × Kept (exprs x) (found x)

  abbrev exprs_of_all : List X → Exprs
  exprs_of_all xs = all_in (map exprs_beside (map (λ (x : X). (x, exprs x)) xs))

  abbrev found_of_all : List X → Found
  found_of_all xs = all_in (map found_in (map (λ (x : X). (x, found x)) xs))

  kept_all : (ys : List Part) → Kept (exprs_of_all (map (λ (y : Part). y.0) ys)) (found_of_all (map (λ (y : Part). y.0) ys))
  kept_all [] = λ e s h m. h
  kept_all (y ∷ ys) = kept_both (exprs y.0) (exprs_of_all (map (λ (y : Part). y.0) ys)) (found y.0) (found_of_all (map (λ (y : Part). y.0) ys)) y.1 (kept_all ys)

abbrev exprs_of : Expr → Exprs
exprs_of = para-Expr Exprs Exprs Exprs Exprs Exprs expr_exprs tree_exprs order_exprs output_exprs query_exprs

abbrev exprs_of_tree : JoinTree → Exprs
exprs_of_tree = para-JoinTree Exprs Exprs Exprs Exprs Exprs expr_exprs tree_exprs order_exprs output_exprs query_exprs

abbrev exprs_of_order : Order → Exprs
exprs_of_order = para-Order Exprs Exprs Exprs Exprs Exprs expr_exprs tree_exprs order_exprs output_exprs query_exprs

abbrev exprs_of_output : Output → Exprs
exprs_of_output = para-Output Exprs Exprs Exprs Exprs Exprs expr_exprs tree_exprs order_exprs output_exprs query_exprs

abbrev found_of_tree : JoinTree → Found
found_of_tree = para-JoinTree Found Found Found Found Found expr_found tree_found order_found output_found query_found

abbrev found_of_order : Order → Found
found_of_order = para-Order Found Found Found Found Found expr_found tree_found order_found output_found query_found

abbrev found_of_output : Output → Found
found_of_output = para-Output Found Found Found Found Found expr_found tree_found order_found output_found query_found

abbrev E : Type 0
E = Part Expr exprs_of sublinks_of

abbrev T : Type 0
T = Part JoinTree exprs_of_tree found_of_tree

abbrev O : Type 0
O = Part Order exprs_of_order found_of_order

abbrev U : Type 0
U = Part Output exprs_of_output found_of_output

abbrev Q : Type 0
Q = Part Query expressions_in sublinks_in

-- ---- a level without proofs, with the expressions beside its children, and with the sublinks

abbrev bare_expr : Expr-F E T O U Q → Expr-F Expr JoinTree Order Output Query
bare_expr = map-Expr E T O U Q Expr JoinTree Order Output Query (λ x. x.0) (λ x. x.0) (λ x. x.0) (λ x. x.0) (λ x. x.0)

abbrev bare_tree : JoinTree-F E T O U Q → JoinTree-F Expr JoinTree Order Output Query
bare_tree = map-JoinTree E T O U Q Expr JoinTree Order Output Query (λ x. x.0) (λ x. x.0) (λ x. x.0) (λ x. x.0) (λ x. x.0)

abbrev bare_order : Order-F E T O U Q → Order-F Expr JoinTree Order Output Query
bare_order = map-Order E T O U Q Expr JoinTree Order Output Query (λ x. x.0) (λ x. x.0) (λ x. x.0) (λ x. x.0) (λ x. x.0)

abbrev bare_output : Output-F E T O U Q → Output-F Expr JoinTree Order Output Query
bare_output = map-Output E T O U Q Expr JoinTree Order Output Query (λ x. x.0) (λ x. x.0) (λ x. x.0) (λ x. x.0) (λ x. x.0)

abbrev bare_query : Query-F E T O U Q → Query-F Expr JoinTree Order Output Query
bare_query = map-Query E T O U Q Expr JoinTree Order Output Query (λ x. x.0) (λ x. x.0) (λ x. x.0) (λ x. x.0) (λ x. x.0)

abbrev with_exprs : Expr-F Expr JoinTree Order Output Query → Expr-F (Expr × Exprs) (JoinTree × Exprs) (Order × Exprs) (Output × Exprs) (Query × Exprs)
with_exprs = map-Expr Expr JoinTree Order Output Query (Expr × Exprs) (JoinTree × Exprs) (Order × Exprs) (Output × Exprs) (Query × Exprs) (λ x. (x, exprs_of x)) (λ x. (x, exprs_of_tree x)) (λ x. (x, exprs_of_order x)) (λ x. (x, exprs_of_output x)) (λ x. (x, expressions_in x))

abbrev with_found : Expr-F Expr JoinTree Order Output Query → Expr-F (Expr × Found) (JoinTree × Found) (Order × Found) (Output × Found) (Query × Found)
with_found = map-Expr Expr JoinTree Order Output Query (Expr × Found) (JoinTree × Found) (Order × Found) (Output × Found) (Query × Found) (λ x. (x, sublinks_of x)) (λ x. (x, found_of_tree x)) (λ x. (x, found_of_order x)) (λ x. (x, found_of_output x)) (λ x. (x, sublinks_in x))

abbrev tree_with_exprs : JoinTree-F Expr JoinTree Order Output Query → JoinTree-F (Expr × Exprs) (JoinTree × Exprs) (Order × Exprs) (Output × Exprs) (Query × Exprs)
tree_with_exprs = map-JoinTree Expr JoinTree Order Output Query (Expr × Exprs) (JoinTree × Exprs) (Order × Exprs) (Output × Exprs) (Query × Exprs) (λ x. (x, exprs_of x)) (λ x. (x, exprs_of_tree x)) (λ x. (x, exprs_of_order x)) (λ x. (x, exprs_of_output x)) (λ x. (x, expressions_in x))

abbrev tree_with_found : JoinTree-F Expr JoinTree Order Output Query → JoinTree-F (Expr × Found) (JoinTree × Found) (Order × Found) (Output × Found) (Query × Found)
tree_with_found = map-JoinTree Expr JoinTree Order Output Query (Expr × Found) (JoinTree × Found) (Order × Found) (Output × Found) (Query × Found) (λ x. (x, sublinks_of x)) (λ x. (x, found_of_tree x)) (λ x. (x, found_of_order x)) (λ x. (x, found_of_output x)) (λ x. (x, sublinks_in x))

-- ---- expressions

parts_with_exprs : (y : Expr-F E T O U Q) → parts (with_exprs (bare_expr y)) ≡ map (λ (x : Expr). (x, exprs_of x)) (map (λ (x : E). x.0) (parts y))
parts_with_exprs y =
    parts_map {A = Expr} {B = JoinTree} {C = Order} {D = Output} {F = Query} {A' = Expr × Exprs} {B' = JoinTree × Exprs} {C' = Order × Exprs} {D' = Output × Exprs} {F' = Query × Exprs} (λ x. (x, exprs_of x)) (λ x. (x, exprs_of_tree x)) (λ x. (x, exprs_of_order x)) (λ x. (x, exprs_of_output x)) (λ x. (x, expressions_in x)) (bare_expr y)
    ∙ ap (map (λ (x : Expr). (x, exprs_of x))) (parts_map {A = E} {B = T} {C = O} {D = U} {F = Q} {A' = Expr} {B' = JoinTree} {C' = Order} {D' = Output} {F' = Query} (λ x. x.0) (λ x. x.0) (λ x. x.0) (λ x. x.0) (λ x. x.0) y)

parts_with_found : (y : Expr-F E T O U Q) → parts (with_found (bare_expr y)) ≡ map (λ (x : Expr). (x, sublinks_of x)) (map (λ (x : E). x.0) (parts y))
parts_with_found y =
    parts_map {A = Expr} {B = JoinTree} {C = Order} {D = Output} {F = Query} {A' = Expr × Found} {B' = JoinTree × Found} {C' = Order × Found} {D' = Output × Found} {F' = Query × Found} (λ x. (x, sublinks_of x)) (λ x. (x, found_of_tree x)) (λ x. (x, found_of_order x)) (λ x. (x, found_of_output x)) (λ x. (x, sublinks_in x)) (bare_expr y)
    ∙ ap (map (λ (x : Expr). (x, sublinks_of x))) (parts_map {A = E} {B = T} {C = O} {D = U} {F = Q} {A' = Expr} {B' = JoinTree} {C' = Order} {D' = Output} {F' = Query} (λ x. x.0) (λ x. x.0) (λ x. x.0) (λ x. x.0) (λ x. x.0) y)

query_with_exprs : (y : Expr-F E T O U Q) → option_part (sublink_query (with_exprs (bare_expr y))) ≡ map (λ (x : Query). (x, expressions_in x)) (map (λ (x : Q). x.0) (option_part (sublink_query y)))
query_with_exprs y =
    sublink_map {A = Expr} {B = JoinTree} {C = Order} {D = Output} {F = Query} {A' = Expr × Exprs} {B' = JoinTree × Exprs} {C' = Order × Exprs} {D' = Output × Exprs} {F' = Query × Exprs} (λ x. (x, exprs_of x)) (λ x. (x, exprs_of_tree x)) (λ x. (x, exprs_of_order x)) (λ x. (x, exprs_of_output x)) (λ x. (x, expressions_in x)) (bare_expr y)
    ∙ ap (map (λ (x : Query). (x, expressions_in x))) (sublink_map {A = E} {B = T} {C = O} {D = U} {F = Q} {A' = Expr} {B' = JoinTree} {C' = Order} {D' = Output} {F' = Query} (λ x. x.0) (λ x. x.0) (λ x. x.0) (λ x. x.0) (λ x. x.0) y)

query_with_found : (y : Expr-F E T O U Q) → option_part (sublink_query (with_found (bare_expr y))) ≡ map (λ (x : Query). (x, sublinks_in x)) (map (λ (x : Q). x.0) (option_part (sublink_query y)))
query_with_found y =
    sublink_map {A = Expr} {B = JoinTree} {C = Order} {D = Output} {F = Query} {A' = Expr × Found} {B' = JoinTree × Found} {C' = Order × Found} {D' = Output × Found} {F' = Query × Found} (λ x. (x, sublinks_of x)) (λ x. (x, found_of_tree x)) (λ x. (x, found_of_order x)) (λ x. (x, found_of_output x)) (λ x. (x, sublinks_in x)) (bare_expr y)
    ∙ ap (map (λ (x : Query). (x, sublinks_in x))) (sublink_map {A = E} {B = T} {C = O} {D = U} {F = Q} {A' = Expr} {B' = JoinTree} {C' = Order} {D' = Output} {F' = Query} (λ x. x.0) (λ x. x.0) (λ x. x.0) (λ x. x.0) (λ x. x.0) y)

-- what stands inside an expression
inside_kept : (y : Expr-F E T O U Q) → Kept (all_in (map exprs_beside (parts (with_exprs (bare_expr y)))) ++ all_in (map exprs_beside (option_part (sublink_query (with_exprs (bare_expr y))))))
    (all_in (map found_in (parts (with_found (bare_expr y)))) ++ all_in (map found_in (option_part (sublink_query (with_found (bare_expr y))))))
inside_kept y = kept_both
    (all_in (map exprs_beside (parts (with_exprs (bare_expr y))))) (all_in (map exprs_beside (option_part (sublink_query (with_exprs (bare_expr y))))))
    (all_in (map found_in (parts (with_found (bare_expr y))))) (all_in (map found_in (option_part (sublink_query (with_found (bare_expr y))))))
    (subst (λ ps. Kept (all_in (map exprs_beside ps)) (all_in (map found_in (parts (with_found (bare_expr y)))))) (sym (parts_with_exprs y))
    (subst (λ ps. Kept (exprs_of_all Expr exprs_of sublinks_of (map (λ (x : E). x.0) (parts y))) (all_in (map found_in ps))) (sym (parts_with_found y)) (kept_all Expr exprs_of sublinks_of (parts y))))
    (subst (λ ps. Kept (all_in (map exprs_beside ps)) (all_in (map found_in (option_part (sublink_query (with_found (bare_expr y))))))) (sym (query_with_exprs y))
    (subst (λ ps. Kept (exprs_of_all Query expressions_in sublinks_in (map (λ (x : Q). x.0) (option_part (sublink_query y)))) (all_in (map found_in ps))) (sym (query_with_found y)) (kept_all Query expressions_in sublinks_in (option_part (sublink_query y)))))

expr_kept : (y : Expr-F E T O U Q) → Kept (exprs_of (roll-Expr (bare_expr y))) (sublinks_of (roll-Expr (bare_expr y)))
expr_kept y e s h m =
    let exprs_at = para-roll-Expr Exprs Exprs Exprs Exprs Exprs expr_exprs tree_exprs order_exprs output_exprs query_exprs (bare_expr y) in
    let found_at = para-roll-Expr Found Found Found Found Found expr_found tree_found order_found output_found query_found (bare_expr y) in
    let there : In e (expr_exprs (with_exprs (bare_expr y))) = subst (λ es. In e es) exprs_at h in
    elim there [
      | inl q ↦ subst (λ x. In s (sublinks_of x)) (sym (sym (ap roll-Expr (values_go Exprs Exprs Exprs Exprs Exprs exprs_of exprs_of_tree exprs_of_order exprs_of_output expressions_in (bare_expr y))) ∙ q)) m
      | inr r ↦ subst (λ fs. In s fs) (sym found_at) (in_append_right s (sublink_here (with_found (bare_expr y))) (all_in (map found_in (parts (with_found (bare_expr y)))) ++ all_in (map found_in (option_part (sublink_query (with_found (bare_expr y)))))) (inside_kept y e s r m))
    ]

-- ---- trees, ORDER BY items, outputs, queries

tree_inside : (y : JoinTree-F E T O U Q) → Kept (tree_exprs (tree_with_exprs (bare_tree y))) (tree_found (tree_with_found (bare_tree y)))
tree_inside (JoinTree-F.Base rel name table) = λ e s h m. h
tree_inside (JoinTree-F.Sub rel name query) = kept_all Query expressions_in sublinks_in (query ∷ [])
tree_inside (JoinTree-F.Join kind left right on) = kept_both
    (exprs_of_all JoinTree exprs_of_tree found_of_tree (left.0 ∷ right.0 ∷ [])) (exprs_of_all Expr exprs_of sublinks_of (map (λ (x : E). x.0) on) ++ [])
    (found_of_all JoinTree exprs_of_tree found_of_tree (left.0 ∷ right.0 ∷ [])) (found_of_all Expr exprs_of sublinks_of (map (λ (x : E). x.0) on) ++ [])
    (kept_all JoinTree exprs_of_tree found_of_tree (left ∷ right ∷ []))
    (kept_both (exprs_of_all Expr exprs_of sublinks_of (map (λ (x : E). x.0) on)) [] (found_of_all Expr exprs_of sublinks_of (map (λ (x : E). x.0) on)) [] (kept_all Expr exprs_of sublinks_of on) (λ e s h m. absurd h))
tree_inside (JoinTree-F.From members conds) = kept_both
    (exprs_of_all JoinTree exprs_of_tree found_of_tree (map (λ (x : T). x.0) members)) (exprs_of_all Expr exprs_of sublinks_of (map (λ (x : E). x.0) conds) ++ [])
    (found_of_all JoinTree exprs_of_tree found_of_tree (map (λ (x : T). x.0) members)) (found_of_all Expr exprs_of sublinks_of (map (λ (x : E). x.0) conds) ++ [])
    (kept_all JoinTree exprs_of_tree found_of_tree members)
    (kept_both (exprs_of_all Expr exprs_of sublinks_of (map (λ (x : E). x.0) conds)) [] (found_of_all Expr exprs_of sublinks_of (map (λ (x : E). x.0) conds)) [] (kept_all Expr exprs_of sublinks_of conds) (λ e s h m. absurd h))

tree_kept : (y : JoinTree-F E T O U Q) → Kept (exprs_of_tree (roll-JoinTree (bare_tree y))) (found_of_tree (roll-JoinTree (bare_tree y)))
tree_kept y =
    subst (λ es. Kept es (found_of_tree (roll-JoinTree (bare_tree y)))) (sym (para-roll-JoinTree Exprs Exprs Exprs Exprs Exprs expr_exprs tree_exprs order_exprs output_exprs query_exprs (bare_tree y)))
    (subst (λ fs. Kept (tree_exprs (tree_with_exprs (bare_tree y))) fs) (sym (para-roll-JoinTree Found Found Found Found Found expr_found tree_found order_found output_found query_found (bare_tree y))) (tree_inside y))

order_kept : (y : Order-F E T O U Q) → Kept (exprs_of_order (roll-Order (bare_order y))) (found_of_order (roll-Order (bare_order y)))
order_kept y =
    subst (λ es. Kept es (found_of_order (roll-Order (bare_order y)))) (sym (para-roll-Order Exprs Exprs Exprs Exprs Exprs expr_exprs tree_exprs order_exprs output_exprs query_exprs (bare_order y)))
    (subst (λ fs. Kept (exprs_of y.expr.0) fs) (sym (para-roll-Order Found Found Found Found Found expr_found tree_found order_found output_found query_found (bare_order y))) y.expr.1)

output_kept : (y : Output-F E T O U Q) → Kept (exprs_of_output (roll-Output (bare_output y))) (found_of_output (roll-Output (bare_output y)))
output_kept y =
    subst (λ es. Kept es (found_of_output (roll-Output (bare_output y)))) (sym (para-roll-Output Exprs Exprs Exprs Exprs Exprs expr_exprs tree_exprs order_exprs output_exprs query_exprs (bare_output y)))
    (subst (λ fs. Kept (exprs_of y.expr.0) fs) (sym (para-roll-Output Found Found Found Found Found expr_found tree_found order_found output_found query_found (bare_output y))) y.expr.1)

query_inside : (y : Query-F E T O U Q)
    → Kept (exprs_of_all Output exprs_of_output found_of_output (map (λ (x : U). x.0) y.columns) ++ (exprs_of_tree y.tree.0 ++ (exprs_of_all Expr exprs_of sublinks_of (map (λ (x : E). x.0) y.conds) ++ exprs_of_all Order exprs_of_order found_of_order (map (λ (x : O). x.0) y.order))))
    (found_of_all Output exprs_of_output found_of_output (map (λ (x : U). x.0) y.columns) ++ (found_of_tree y.tree.0 ++ (found_of_all Expr exprs_of sublinks_of (map (λ (x : E). x.0) y.conds) ++ found_of_all Order exprs_of_order found_of_order (map (λ (x : O). x.0) y.order))))
query_inside y =
    let conds = exprs_of_all Expr exprs_of sublinks_of (map (λ (x : E). x.0) y.conds) in
    let order = exprs_of_all Order exprs_of_order found_of_order (map (λ (x : O). x.0) y.order) in
    let conds_found = found_of_all Expr exprs_of sublinks_of (map (λ (x : E). x.0) y.conds) in
    let order_found_all = found_of_all Order exprs_of_order found_of_order (map (λ (x : O). x.0) y.order) in
    kept_both (exprs_of_all Output exprs_of_output found_of_output (map (λ (x : U). x.0) y.columns)) (exprs_of_tree y.tree.0 ++ (conds ++ order))
    (found_of_all Output exprs_of_output found_of_output (map (λ (x : U). x.0) y.columns)) (found_of_tree y.tree.0 ++ (conds_found ++ order_found_all))
    (kept_all Output exprs_of_output found_of_output y.columns)
    (kept_both (exprs_of_tree y.tree.0) (conds ++ order) (found_of_tree y.tree.0) (conds_found ++ order_found_all) y.tree.1
    (kept_both conds order conds_found order_found_all (kept_all Expr exprs_of sublinks_of y.conds) (kept_all Order exprs_of_order found_of_order y.order)))

query_kept : (y : Query-F E T O U Q) → Kept (expressions_in (roll-Query (bare_query y))) (sublinks_in (roll-Query (bare_query y)))
query_kept y =
    subst (λ es. Kept es (sublinks_in (roll-Query (bare_query y)))) (sym (para-roll-Query Exprs Exprs Exprs Exprs Exprs expr_exprs tree_exprs order_exprs output_exprs query_exprs (bare_query y)))
    (subst (λ fs. Kept (exprs_of_all Output exprs_of_output found_of_output (map (λ (x : U). x.0) y.columns) ++ (exprs_of_tree y.tree.0 ++ (exprs_of_all Expr exprs_of sublinks_of (map (λ (x : E). x.0) y.conds) ++ exprs_of_all Order exprs_of_order found_of_order (map (λ (x : O). x.0) y.order)))) fs)
    (sym (para-roll-Query Found Found Found Found Found expr_found tree_found order_found output_found query_found (bare_query y))) (query_inside y))

kept : (query : Query) → Kept (expressions_in query) (sublinks_in query)
kept = ind-Query (λ x. Kept (exprs_of x) (sublinks_of x)) (λ x. Kept (exprs_of_tree x) (found_of_tree x)) (λ x. Kept (exprs_of_order x) (found_of_order x)) (λ x. Kept (exprs_of_output x) (found_of_output x)) (λ x. Kept (expressions_in x) (sublinks_in x))
    (λ x y e. subst (λ z. Kept (exprs_of (roll-Expr z)) (sublinks_of (roll-Expr z))) e (expr_kept y))
    (λ x y e. subst (λ z. Kept (exprs_of_tree (roll-JoinTree z)) (found_of_tree (roll-JoinTree z))) e (tree_kept y))
    (λ x y e. subst (λ z. Kept (exprs_of_order (roll-Order z)) (found_of_order (roll-Order z))) e (order_kept y))
    (λ x y e. subst (λ z. Kept (exprs_of_output (roll-Output z)) (found_of_output (roll-Output z))) e (output_kept y))
    (λ x y e. subst (λ z. Kept (expressions_in (roll-Query z)) (sublinks_in (roll-Query z))) e (query_kept y))

pub stands : (query : Query) (e : Expr) (s : Sublink) → Contains (expressions_in query) e → Contains (sublinks_of e) s → Contains (sublinks_in query) s
stands query e s h m = from_in s (sublinks_in query) (kept query e s (to_in e (expressions_in query) h) (to_in s (sublinks_of e) m))

pub same_in_fresh : (query : Query) (a b : Expr) → IsFresh query → Contains (expressions_in query) a → Contains (expressions_in query) b → (same_expr a b ≡ true) ↔ (a ≡ b)
same_in_fresh query a b fresh h k = (
  λ same. same_are_equal a b (λ s t p q e. fresh.equal s t (stands query a s h p) (stands query b t k q) e) same,
  λ e. subst (λ x. same_expr a x ≡ true) e (same_as_itself a),
)

-- ---- what a query has by its fields

abbrev Plain : Type 0
Plain = Expr-F Expr JoinTree Order Output Query

itself_at : (x : Plain) → In (roll-Expr x) (exprs_of (roll-Expr x))
itself_at x = subst (λ es. In (roll-Expr x) es) (sym (para-roll-Expr Exprs Exprs Exprs Exprs Exprs expr_exprs tree_exprs order_exprs output_exprs query_exprs x))
    (inl (ap roll-Expr (values_go Exprs Exprs Exprs Exprs Exprs exprs_of exprs_of_tree exprs_of_order exprs_of_output expressions_in x)))

itself : (x : Expr) → In x (exprs_of x)
itself x = subst (λ z. In z (exprs_of z)) (roll-out-Expr x) (itself_at (out-Expr x))

of_output : (x : Output) → In (out-Output x).expr (exprs_of_output x)
of_output x = subst (λ es. In (out-Output x).expr es)
    (sym (ap exprs_of_output (sym (roll-out-Output x)) ∙ para-roll-Output Exprs Exprs Exprs Exprs Exprs expr_exprs tree_exprs order_exprs output_exprs query_exprs (out-Output x)))
    (itself (out-Output x).expr)

of_order : (x : Order) → In (out-Order x).expr (exprs_of_order x)
of_order x = subst (λ es. In (out-Order x).expr es)
    (sym (ap exprs_of_order (sym (roll-out-Order x)) ∙ para-roll-Order Exprs Exprs Exprs Exprs Exprs expr_exprs tree_exprs order_exprs output_exprs query_exprs (out-Order x)))
    (itself (out-Order x).expr)

in_all : (X : Type 0) (exprs : X → Exprs) (found : X → Found) (x : X) (xs : List X) (e : Expr) → In x xs → In e (exprs x) → In e (exprs_of_all X exprs found xs)
in_all X exprs found x [] e h k = absurd h
in_all X exprs found x (y ∷ ys) e (inl q) k = in_append_left e (exprs y) (exprs_of_all X exprs found ys) (subst (λ z. In e (exprs z)) (sym q) k)
in_all X exprs found x (y ∷ ys) e (inr r) k = in_append_right e (exprs y) (exprs_of_all X exprs found ys) (in_all X exprs found x ys e r k)

abbrev outputs_in : Query → Exprs
outputs_in query = exprs_of_all Output exprs_of_output found_of_output (out-Query query).columns

abbrev conditions_in : Query → Exprs
conditions_in query = exprs_of_all Expr exprs_of sublinks_of (out-Query query).conds

abbrev orders_in : Query → Exprs
orders_in query = exprs_of_all Order exprs_of_order found_of_order (out-Query query).order

by_fields : (query : Query) → expressions_in query ≡ outputs_in query ++ (exprs_of_tree (out-Query query).tree ++ (conditions_in query ++ orders_in query))
by_fields query = ap expressions_in (sym (roll-out-Query query)) ∙ para-roll-Query Exprs Exprs Exprs Exprs Exprs expr_exprs tree_exprs order_exprs output_exprs query_exprs (out-Query query)

pub output_stands : (query : Query) (output : Output) → Contains (out-Query query).columns output → Contains (expressions_in query) (out-Output output).expr
output_stands query output h =
    let e = (out-Output output).expr in
    let rest = exprs_of_tree (out-Query query).tree ++ (conditions_in query ++ orders_in query) in
    from_in e (expressions_in query) (subst (λ es. In e es) (sym (by_fields query)) (in_append_left e (outputs_in query) rest
    (in_all Output exprs_of_output found_of_output output (out-Query query).columns e (to_in output (out-Query query).columns h) (of_output output))))

pub condition_stands : (query : Query) (cond : Expr) → Contains (out-Query query).conds cond → Contains (expressions_in query) cond
condition_stands query cond h =
    let tree = exprs_of_tree (out-Query query).tree in
    let rest = conditions_in query ++ orders_in query in
    from_in cond (expressions_in query) (subst (λ es. In cond es) (sym (by_fields query)) (in_append_right cond (outputs_in query) (tree ++ rest) (in_append_right cond tree rest (in_append_left cond (conditions_in query) (orders_in query)
    (in_all Expr exprs_of sublinks_of cond (out-Query query).conds cond (to_in cond (out-Query query).conds h) (itself cond))))))

pub order_stands : (query : Query) (order : Order) → Contains (out-Query query).order order → Contains (expressions_in query) (out-Order order).expr
order_stands query order h =
    let e = (out-Order order).expr in
    let tree = exprs_of_tree (out-Query query).tree in
    let rest = conditions_in query ++ orders_in query in
    from_in e (expressions_in query) (subst (λ es. In e es) (sym (by_fields query)) (in_append_right e (outputs_in query) (tree ++ rest) (in_append_right e tree rest (in_append_right e (conditions_in query) (orders_in query)
    (in_all Order exprs_of_order found_of_order order (out-Query query).order e (to_in order (out-Query query).order h) (of_order order))))))
