-- What every expression of a statement's query has, where its select's and the ones that its ORDER BY makes have it.
use Rattle.std.proofs.Common.{inl, inr, Bool, List, [], ◌∷◌, map}
use Rattle.jp_catalog.specs.declared.types.Catalog.{Catalog}
use Rattle.jp_query.specs.declared.Expr.{Expr}
use Rattle.jp_query.specs.declared.Order.{Order}
use Rattle.jp_query.specs.declared.Output.{Output}
use Rattle.jp_induction.proofs.EachPart.{Each}
use Rattle.jp_resolved.specs.Sorted.{expr_of_output, expr_of_order}
use Rattle.jp_resolved.proofs.Tops.{IsListed}
use Rattle.jp_resolved.proofs.Members.{each_in}

-- each ORDER BY item has what the outputs and the expressions made for it have
pub orders_have : (catalog : Catalog) (P : Expr → Type 0) (distinct : Bool) (outputs : List Output) (fresh : List Expr) (items : List Order) → Each P (map expr_of_output outputs) → Each P fresh → Each (IsListed catalog distinct outputs fresh) items → Each P (map expr_of_order items)
orders_have catalog P distinct outputs fresh [] us fs each = tt
orders_have catalog P distinct outputs fresh (o ∷ items) us fs each = (
  elim each.0 [ inl r ↦ each_in P (expr_of_order o) (map expr_of_output outputs) us r | inr r ↦ each_in P (expr_of_order o) fresh fs r ],
  orders_have catalog P distinct outputs fresh items us fs each.1,
)
