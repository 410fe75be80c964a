-- The theorem on rewritings, for any two folds: where functions take what one gives to what the other gives at each level,
-- they do so at each tree. A rewriting is a fold that gives trees; with it as the first fold, a meaning as the second and the
-- meaning as the functions it says that a rewriting that keeps the meaning of each level keeps that of every query.
-- It is the theorem under a condition, with one that everything meets.
use Rattle.std.proofs.Common.{◌≡◌}
use Rattle.jp_query.specs.declared.Expr.{Expr}
use Rattle.jp_query.specs.declared.JoinTree.{JoinTree}
use Rattle.jp_query.specs.declared.Order.{Order}
use Rattle.jp_query.specs.declared.Output.{Output}
use Rattle.jp_query.specs.declared.Query.{Query}
use Rattle.jp_query.specs.declared.Expr.TheOpen.{Expr-F, JoinTree-F, Order-F, Output-F, Query-F}
use Rattle.jp_query.specs.declared.Expr.TheFolds.{map-Expr, map-JoinTree, map-Order, map-Output, map-Query}
use Rattle.jp_query.specs.Layers.{ExprLayer, JoinTreeLayer, OrderLayer, OutputLayer, QueryLayer}
use Rattle.jp_query.specs.Parts.{option_part, parts, sublink_query, trees, conditions, leaf_query}
use Rattle.jp_induction.specs.HandedDown.{HandsDown}
use Rattle.jp_induction.proofs.EachPart.{each_anyway}
use Rattle.jp_induction.proofs.RewritingUnder as under

abbrev Met : {X : Type 0} → Unit {0} → X → Type 0
Met s x = Unit {0}

inside : Unit {0} → JoinTreeLayer → Unit {0}
inside s t = tt

above : Unit {0} → QueryLayer → Unit {0}
above s q = tt

met_down : HandsDown (Unit {0}) inside above Met Met Met Met Met
met_down = record {
  expr = λ s x c. (each_anyway (Met s) (λ e. tt) (parts x), each_anyway (Met s) (λ q. tt) (option_part (sublink_query x)));
  tree = λ s t c. (each_anyway (Met s) (λ t. tt) (trees t), each_anyway (Met (inside s t)) (λ e. tt) (conditions t), each_anyway (Met s) (λ q. tt) (option_part (leaf_query t)));
  order = λ s o c. tt;
  output = λ s u c. tt;
  query = λ s q c. (each_anyway (Met (above s q)) (λ u. tt) q.columns, tt, each_anyway (Met (above s q)) (λ e. tt) q.conds, each_anyway (Met (above s q)) (λ o. tt) q.order);
}

module _ (A B C D F A' B' C' D' F' : Type 0)
    (e : Expr-F A B C D F → A) (t : JoinTree-F A B C D F → B) (o : Order-F A B C D F → C) (u : Output-F A B C D F → D) (q : Query-F A B C D F → F)
    (e' : Expr-F A' B' C' D' F' → A') (t' : JoinTree-F A' B' C' D' F' → B') (o' : Order-F A' B' C' D' F' → C') (u' : Output-F A' B' C' D' F' → D') (q' : Query-F A' B' C' D' F' → F')
    (fa : A → A') (fb : B → B') (fc : C → C') (fd : D → D') (ff : F → F')
    (at_expr : (x : Expr-F A B C D F) → fa (e x) ≡ e' (map-Expr A B C D F A' B' C' D' F' fa fb fc fd ff x)) (at_tree : (x : JoinTree-F A B C D F) → fb (t x) ≡ t' (map-JoinTree A B C D F A' B' C' D' F' fa fb fc fd ff x))
    (at_order : (x : Order-F A B C D F) → fc (o x) ≡ o' (map-Order A B C D F A' B' C' D' F' fa fb fc fd ff x)) (at_output : (x : Output-F A B C D F) → fd (u x) ≡ u' (map-Output A B C D F A' B' C' D' F' fa fb fc fd ff x))
    (at_query : (x : Query-F A B C D F) → ff (q x) ≡ q' (map-Query A B C D F A' B' C' D' F' fa fb fc fd ff x)) where
  pub fused_expr : (x : Expr) → under.ExprSame A B C D F A' B' C' D' F' e t o u q e' t' o' u' q' fa fb fc fd ff x
  fused_expr x = under.same_expr A B C D F A' B' C' D' F' e t o u q e' t' o' u' q' fa fb fc fd ff (Unit {0}) inside above Met Met Met Met Met met_down
      (λ s y c. at_expr (under.expr_level A B C D F A' B' C' D' F' e t o u q e' t' o' u' q' fa fb fc fd ff y)) (λ s y c. at_tree (under.tree_level A B C D F A' B' C' D' F' e t o u q e' t' o' u' q' fa fb fc fd ff y))
      (λ s y c. at_order (under.order_level A B C D F A' B' C' D' F' e t o u q e' t' o' u' q' fa fb fc fd ff y)) (λ s y c. at_output (under.output_level A B C D F A' B' C' D' F' e t o u q e' t' o' u' q' fa fb fc fd ff y))
      (λ s y c. at_query (under.query_level A B C D F A' B' C' D' F' e t o u q e' t' o' u' q' fa fb fc fd ff y)) x tt tt

  pub fused_tree : (x : JoinTree) → under.JoinTreeSame A B C D F A' B' C' D' F' e t o u q e' t' o' u' q' fa fb fc fd ff x
  fused_tree x = under.same_tree A B C D F A' B' C' D' F' e t o u q e' t' o' u' q' fa fb fc fd ff (Unit {0}) inside above Met Met Met Met Met met_down
      (λ s y c. at_expr (under.expr_level A B C D F A' B' C' D' F' e t o u q e' t' o' u' q' fa fb fc fd ff y)) (λ s y c. at_tree (under.tree_level A B C D F A' B' C' D' F' e t o u q e' t' o' u' q' fa fb fc fd ff y))
      (λ s y c. at_order (under.order_level A B C D F A' B' C' D' F' e t o u q e' t' o' u' q' fa fb fc fd ff y)) (λ s y c. at_output (under.output_level A B C D F A' B' C' D' F' e t o u q e' t' o' u' q' fa fb fc fd ff y))
      (λ s y c. at_query (under.query_level A B C D F A' B' C' D' F' e t o u q e' t' o' u' q' fa fb fc fd ff y)) x tt tt

  pub fused_order : (x : Order) → under.OrderSame A B C D F A' B' C' D' F' e t o u q e' t' o' u' q' fa fb fc fd ff x
  fused_order x = under.same_order A B C D F A' B' C' D' F' e t o u q e' t' o' u' q' fa fb fc fd ff (Unit {0}) inside above Met Met Met Met Met met_down
      (λ s y c. at_expr (under.expr_level A B C D F A' B' C' D' F' e t o u q e' t' o' u' q' fa fb fc fd ff y)) (λ s y c. at_tree (under.tree_level A B C D F A' B' C' D' F' e t o u q e' t' o' u' q' fa fb fc fd ff y))
      (λ s y c. at_order (under.order_level A B C D F A' B' C' D' F' e t o u q e' t' o' u' q' fa fb fc fd ff y)) (λ s y c. at_output (under.output_level A B C D F A' B' C' D' F' e t o u q e' t' o' u' q' fa fb fc fd ff y))
      (λ s y c. at_query (under.query_level A B C D F A' B' C' D' F' e t o u q e' t' o' u' q' fa fb fc fd ff y)) x tt tt

  pub fused_output : (x : Output) → under.OutputSame A B C D F A' B' C' D' F' e t o u q e' t' o' u' q' fa fb fc fd ff x
  fused_output x = under.same_output A B C D F A' B' C' D' F' e t o u q e' t' o' u' q' fa fb fc fd ff (Unit {0}) inside above Met Met Met Met Met met_down
      (λ s y c. at_expr (under.expr_level A B C D F A' B' C' D' F' e t o u q e' t' o' u' q' fa fb fc fd ff y)) (λ s y c. at_tree (under.tree_level A B C D F A' B' C' D' F' e t o u q e' t' o' u' q' fa fb fc fd ff y))
      (λ s y c. at_order (under.order_level A B C D F A' B' C' D' F' e t o u q e' t' o' u' q' fa fb fc fd ff y)) (λ s y c. at_output (under.output_level A B C D F A' B' C' D' F' e t o u q e' t' o' u' q' fa fb fc fd ff y))
      (λ s y c. at_query (under.query_level A B C D F A' B' C' D' F' e t o u q e' t' o' u' q' fa fb fc fd ff y)) x tt tt

  pub fused_query : (x : Query) → under.QuerySame A B C D F A' B' C' D' F' e t o u q e' t' o' u' q' fa fb fc fd ff x
  fused_query x = under.same_query A B C D F A' B' C' D' F' e t o u q e' t' o' u' q' fa fb fc fd ff (Unit {0}) inside above Met Met Met Met Met met_down
      (λ s y c. at_expr (under.expr_level A B C D F A' B' C' D' F' e t o u q e' t' o' u' q' fa fb fc fd ff y)) (λ s y c. at_tree (under.tree_level A B C D F A' B' C' D' F' e t o u q e' t' o' u' q' fa fb fc fd ff y))
      (λ s y c. at_order (under.order_level A B C D F A' B' C' D' F' e t o u q e' t' o' u' q' fa fb fc fd ff y)) (λ s y c. at_output (under.output_level A B C D F A' B' C' D' F' e t o u q e' t' o' u' q' fa fb fc fd ff y))
      (λ s y c. at_query (under.query_level A B C D F A' B' C' D' F' e t o u q e' t' o' u' q' fa fb fc fd ff y)) x tt tt
