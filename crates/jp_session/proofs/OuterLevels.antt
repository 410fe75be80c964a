-- The sublinks of an expression that stand in no other, from one level and from its parts.
use Rattle.std.proofs.Common.{◌≡◌, ◌∙◌, ap, refl, List, [], ◌∷◌, ◌++◌, map}
use Rattle.std.specs.List.{flat_map}
use Rattle.std.proofs.lemmas.List.{map-append}
use Rattle.jp_query.specs.declared.Expr.TheFolds.{map-Expr, para-JoinTree, para-Order, para-Output, para-Query, para-roll-Expr}
use Rattle.jp_query.specs.declared.Expr.TheViews.{roll-Expr}
use Rattle.jp_query.specs.declared.Expr.{Expr}
use Rattle.jp_query.specs.declared.JoinTree.{JoinTree}
use Rattle.jp_query.specs.declared.Order.{Order}
use Rattle.jp_query.specs.declared.Output.{Output}
use Rattle.jp_query.specs.declared.Query.{Query}
use Rattle.jp_query.specs.Layers.{ExprLayer}
use Rattle.jp_query.specs.Outermost.{Outers, outers_in, outer_here, expr_outers, outermost}
use Rattle.jp_query.specs.Parts.{all_in, parts}
use Rattle.jp_induction.proofs.EachPart.{parts_map}
use Rattle.jp_session.specs.Parts.{sublink_part, sublink_parts}

abbrev with_outers : Expr → Expr × Outers
with_outers e = (e, outermost e)

abbrev tree_with : JoinTree → JoinTree × Outers
tree_with t = (t, para-JoinTree Outers Outers Outers Outers Outers expr_outers (λ t. []) (λ o. []) (λ u. []) (λ q. []) t)

abbrev order_with : Order → Order × Outers
order_with o = (o, para-Order Outers Outers Outers Outers Outers expr_outers (λ t. []) (λ o. []) (λ u. []) (λ q. []) o)

abbrev output_with : Output → Output × Outers
output_with u = (u, para-Output Outers Outers Outers Outers Outers expr_outers (λ t. []) (λ o. []) (λ u. []) (λ q. []) u)

abbrev query_with : Query → Query × Outers
query_with q = (q, para-Query Outers Outers Outers Outers Outers expr_outers (λ t. []) (λ o. []) (λ u. []) (λ q. []) q)

-- those of the level itself
abbrev pub own_outers : ExprLayer → Outers
own_outers x = outer_here (map-Expr Expr JoinTree Order Output Query (Expr × Outers) (JoinTree × Outers) (Order × Outers) (Output × Outers) (Query × Outers) with_outers tree_with order_with output_with query_with x)

beside_them : (es : List Expr) → all_in (map outers_in (map with_outers es)) ≡ flat_map outermost es
beside_them [] = refl
beside_them (e ∷ es) = ap (λ os. outermost e ++ os) (beside_them es)

pub outers_level : (x : ExprLayer) → outermost (roll-Expr x) ≡ own_outers x ++ flat_map outermost (parts x)
outers_level x =
    para-roll-Expr Outers Outers Outers Outers Outers expr_outers (λ t. []) (λ o. []) (λ u. []) (λ q. []) x
    ∙ ap (λ os. own_outers x ++ os) (ap (λ es. all_in (map outers_in es)) (parts_map with_outers tree_with order_with output_with query_with x) ∙ beside_them (parts x))

as_parts : (es : List Expr) → map sublink_part (flat_map outermost es) ≡ flat_map sublink_parts es
unfolding sublink_parts
as_parts [] = refl
as_parts (e ∷ es) = map-append sublink_part (outermost e) (flat_map outermost es) ∙ ap (λ ps. sublink_parts e ++ ps) (as_parts es)

pub parts_level : (x : ExprLayer) → sublink_parts (roll-Expr x) ≡ map sublink_part (own_outers x) ++ flat_map sublink_parts (parts x)
unfolding sublink_parts
parts_level x = ap (map sublink_part) (outers_level x) ∙ map-append sublink_part (own_outers x) (flat_map outermost (parts x)) ∙ ap (λ ps. map sublink_part (own_outers x) ++ ps) (as_parts (parts x))
