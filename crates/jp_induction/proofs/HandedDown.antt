-- Induction under a condition that is handed down: a claim at a place holds of every tree that meets the condition there, if
-- it holds of each level that meets it and whose parts the claim holds of, each at its own place.
use Rattle.std.proofs.Common.{List}
use Rattle.jp_query.specs.declared.Expr.{Expr}
use Rattle.jp_query.specs.declared.JoinTree.{JoinTree}
use Rattle.jp_query.specs.declared.Order.{Order}
use Rattle.jp_query.specs.declared.Output.{Output}
use Rattle.jp_query.specs.declared.Query.{Query}
use Rattle.jp_query.specs.declared.Expr.TheViews.{roll-Expr, roll-JoinTree, roll-Order, roll-Output, roll-Query}
use Rattle.jp_query.specs.Layers.{ExprLayer, JoinTreeLayer, OrderLayer, OutputLayer, QueryLayer}
use Rattle.jp_query.specs.Parts.{option_part, parts, sublink_query, trees, conditions, leaf_query}
use Rattle.jp_induction.specs.HandedDown.{HandsDown}
use Rattle.jp_induction.proofs.EachPart.{Each, each_both}
use Rattle.jp_induction.proofs.Induction as induction

module _ (S : Type 0) (inside : S → JoinTreeLayer → S) (above : S → QueryLayer → S) (CE : S → Expr → Type 0) (CT : S → JoinTree → Type 0) (CO : S → Order → Type 0) (CU : S → Output → Type 0) (CQ : S → Query → Type 0) (down : HandsDown S inside above CE CT CO CU CQ)
    (PE : S → Expr → Type 0) (PT : S → JoinTree → Type 0) (PO : S → Order → Type 0) (PU : S → Output → Type 0) (PQ : S → Query → Type 0) where
  -- what is to be shown of each level that meets the condition
  pub record StepsUnder : Type 0 where
    pub expr : (s : S) (x : ExprLayer) → CE s (roll-Expr x) → Each (PE s) (parts x) → Each (PQ s) (option_part (sublink_query x)) → PE s (roll-Expr x)
    pub tree : (s : S) (t : JoinTreeLayer) → CT s (roll-JoinTree t) → Each (PT s) (trees t) → Each (PE (inside s t)) (conditions t) → Each (PQ s) (option_part (leaf_query t)) → PT s (roll-JoinTree t)
    pub order : (s : S) (o : OrderLayer) → CO s (roll-Order o) → PE s o.expr → PO s (roll-Order o)
    pub output : (s : S) (u : OutputLayer) → CU s (roll-Output u) → PE s u.expr → PU s (roll-Output u)
    pub query : (s : S) (q : QueryLayer) → CQ s (roll-Query q) → Each (PU (above s q)) q.columns → PT s q.tree → Each (PE (above s q)) q.conds → Each (PO (above s q)) q.order → PQ s (roll-Query q)

  abbrev ExprUnder : Expr → Type 0
  ExprUnder x = (s : S) → CE s x → PE s x

  abbrev JoinTreeUnder : JoinTree → Type 0
  JoinTreeUnder x = (s : S) → CT s x → PT s x

  abbrev OrderUnder : Order → Type 0
  OrderUnder x = (s : S) → CO s x → PO s x

  abbrev OutputUnder : Output → Type 0
  OutputUnder x = (s : S) → CU s x → PU s x

  abbrev QueryUnder : Query → Type 0
  QueryUnder x = (s : S) → CQ s x → PQ s x

  module _ {A : Type 0} (C P : S → A → Type 0) (s : S) where
    at_place : (xs : List A) → Each (λ x. (s : S) → C s x → P s x) xs → Each (C s) xs → Each (P s) xs
    at_place = each_both (λ x. (s : S) → C s x → P s x) (C s) (P s) (λ x good c. good s c)

  module _ (steps : StepsUnder) where
    under : induction.Steps ExprUnder JoinTreeUnder OrderUnder OutputUnder QueryUnder
    under = record {
      expr = λ x exprs subs s c. let d = down.expr s x c in steps.expr s x c (at_place CE PE s (parts x) exprs d.0) (at_place CQ PQ s (option_part (sublink_query x)) subs d.1);
      tree = λ t sides conds leaf s c. let d = down.tree s t c in steps.tree s t c (at_place CT PT s (trees t) sides d.0) (at_place CE PE (inside s t) (conditions t) conds d.1) (at_place CQ PQ s (option_part (leaf_query t)) leaf d.2);
      order = λ o good s c. steps.order s o c (good s (down.order s o c));
      output = λ u good s c. steps.output s u c (good s (down.output s u c));
      query = λ q columns tree conds order s c. let d = down.query s q c in
          steps.query s q c (at_place CU PU (above s q) q.columns columns d.0) (tree s d.1) (at_place CE PE (above s q) q.conds conds d.2) (at_place CO PO (above s q) q.order order d.3);
    }

    pub under_expr : (x : Expr) → ExprUnder x
    under_expr = induction.at_expr ExprUnder JoinTreeUnder OrderUnder OutputUnder QueryUnder under

    pub under_tree : (x : JoinTree) → JoinTreeUnder x
    under_tree = induction.at_tree ExprUnder JoinTreeUnder OrderUnder OutputUnder QueryUnder under

    pub under_order : (x : Order) → OrderUnder x
    under_order = induction.at_order ExprUnder JoinTreeUnder OrderUnder OutputUnder QueryUnder under

    pub under_output : (x : Output) → OutputUnder x
    under_output = induction.at_output ExprUnder JoinTreeUnder OrderUnder OutputUnder QueryUnder under

    pub under_query : (x : Query) → QueryUnder x
    under_query = induction.at_query ExprUnder JoinTreeUnder OrderUnder OutputUnder QueryUnder under
