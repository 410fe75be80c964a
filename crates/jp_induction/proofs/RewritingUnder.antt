-- The theorem on rewritings under a condition that is handed down: where functions take what one fold gives to what the other
-- gives at each level that meets the condition, they do so at each tree that meets it.
use Rattle.std.proofs.Common.{◌≡◌, ◌∙◌, ap, sym}
use Rattle.jp_query.specs.declared.Expr.{Expr}
use Rattle.jp_query.specs.declared.JoinTree.{JoinTree}
use Rattle.jp_query.specs.declared.Order.{Order}
use Rattle.jp_query.specs.declared.Output.{Output}
use Rattle.jp_query.specs.declared.Query.{Query}
use Rattle.jp_query.specs.declared.Expr.TheOpen.{Expr-F, JoinTree-F, Order-F, Output-F, Query-F}
use Rattle.jp_query.specs.declared.Expr.TheViews.{roll-Expr, roll-JoinTree, roll-Order, roll-Output, roll-Query}
use Rattle.jp_query.specs.declared.Expr.TheFolds.{fold-Expr, fold-JoinTree, fold-Order, fold-Output, fold-Query, map-Expr, map-JoinTree, map-Order, map-Output, map-Query, fold-roll-Expr, fold-roll-JoinTree, fold-roll-Order, fold-roll-Output, fold-roll-Query}
use Rattle.jp_query.specs.Layers.{ExprLayer, JoinTreeLayer, OrderLayer, OutputLayer, QueryLayer}
use Rattle.jp_induction.proofs.Levels.{expr_twice, tree_twice, order_twice, output_twice, query_twice}
use Rattle.jp_induction.specs.HandedDown.{HandsDown}
use Rattle.jp_induction.proofs.HandedDown as handed

module _ (A B C D F A' B' C' D' F' : Type 0)
    (e : Expr-F A B C D F → A) (t : JoinTree-F A B C D F → B) (o : Order-F A B C D F → C) (u : Output-F A B C D F → D) (q : Query-F A B C D F → F)
    (e' : Expr-F A' B' C' D' F' → A') (t' : JoinTree-F A' B' C' D' F' → B') (o' : Order-F A' B' C' D' F' → C') (u' : Output-F A' B' C' D' F' → D') (q' : Query-F A' B' C' D' F' → F')
    (fa : A → A') (fb : B → B') (fc : C → C') (fd : D → D') (ff : F → F') where
  abbrev pub of_expr : Expr → A
  of_expr = fold-Expr A B C D F e t o u q

  abbrev pub to_expr : Expr → A'
  to_expr = fold-Expr A' B' C' D' F' e' t' o' u' q'

  abbrev pub ExprSame : Expr → Type 0
  ExprSame x = fa (of_expr x) ≡ to_expr x

  abbrev pub of_tree : JoinTree → B
  of_tree = fold-JoinTree A B C D F e t o u q

  abbrev pub to_tree : JoinTree → B'
  to_tree = fold-JoinTree A' B' C' D' F' e' t' o' u' q'

  abbrev pub JoinTreeSame : JoinTree → Type 0
  JoinTreeSame x = fb (of_tree x) ≡ to_tree x

  abbrev pub of_order : Order → C
  of_order = fold-Order A B C D F e t o u q

  abbrev pub to_order : Order → C'
  to_order = fold-Order A' B' C' D' F' e' t' o' u' q'

  abbrev pub OrderSame : Order → Type 0
  OrderSame x = fc (of_order x) ≡ to_order x

  abbrev pub of_output : Output → D
  of_output = fold-Output A B C D F e t o u q

  abbrev pub to_output : Output → D'
  to_output = fold-Output A' B' C' D' F' e' t' o' u' q'

  abbrev pub OutputSame : Output → Type 0
  OutputSame x = fd (of_output x) ≡ to_output x

  abbrev pub of_query : Query → F
  of_query = fold-Query A B C D F e t o u q

  abbrev pub to_query : Query → F'
  to_query = fold-Query A' B' C' D' F' e' t' o' u' q'

  abbrev pub QuerySame : Query → Type 0
  QuerySame x = ff (of_query x) ≡ to_query x

  abbrev pub turned_expr : Expr-F A B C D F → Expr-F A' B' C' D' F'
  turned_expr = map-Expr A B C D F A' B' C' D' F' fa fb fc fd ff

  abbrev pub turned_tree : JoinTree-F A B C D F → JoinTree-F A' B' C' D' F'
  turned_tree = map-JoinTree A B C D F A' B' C' D' F' fa fb fc fd ff

  abbrev pub turned_order : Order-F A B C D F → Order-F A' B' C' D' F'
  turned_order = map-Order A B C D F A' B' C' D' F' fa fb fc fd ff

  abbrev pub turned_output : Output-F A B C D F → Output-F A' B' C' D' F'
  turned_output = map-Output A B C D F A' B' C' D' F' fa fb fc fd ff

  abbrev pub turned_query : Query-F A B C D F → Query-F A' B' C' D' F'
  turned_query = map-Query A B C D F A' B' C' D' F' fa fb fc fd ff

  abbrev pub expr_level : ExprLayer → Expr-F A B C D F
  expr_level = map-Expr Expr JoinTree Order Output Query A B C D F of_expr of_tree of_order of_output of_query

  abbrev pub tree_level : JoinTreeLayer → JoinTree-F A B C D F
  tree_level = map-JoinTree Expr JoinTree Order Output Query A B C D F of_expr of_tree of_order of_output of_query

  abbrev pub order_level : OrderLayer → Order-F A B C D F
  order_level = map-Order Expr JoinTree Order Output Query A B C D F of_expr of_tree of_order of_output of_query

  abbrev pub output_level : OutputLayer → Output-F A B C D F
  output_level = map-Output Expr JoinTree Order Output Query A B C D F of_expr of_tree of_order of_output of_query

  abbrev pub query_level : QueryLayer → Query-F A B C D F
  query_level = map-Query Expr JoinTree Order Output Query A B C D F of_expr of_tree of_order of_output of_query

  module _ (S : Type 0) (inside : S → JoinTreeLayer → S) (above : S → QueryLayer → S) (CE : S → Expr → Type 0) (CT : S → JoinTree → Type 0) (CO : S → Order → Type 0) (CU : S → Output → Type 0) (CQ : S → Query → Type 0) (down : HandsDown S inside above CE CT CO CU CQ)
      (at_expr : (s : S) (x : ExprLayer) → CE s (roll-Expr x) → fa (e (expr_level x)) ≡ e' (turned_expr (expr_level x))) (at_tree : (s : S) (x : JoinTreeLayer) → CT s (roll-JoinTree x) → fb (t (tree_level x)) ≡ t' (turned_tree (tree_level x))) (at_order : (s : S) (x : OrderLayer) → CO s (roll-Order x) → fc (o (order_level x)) ≡ o' (turned_order (order_level x))) (at_output : (s : S) (x : OutputLayer) → CU s (roll-Output x) → fd (u (output_level x)) ≡ u' (turned_output (output_level x))) (at_query : (s : S) (x : QueryLayer) → CQ s (roll-Query x) → ff (q (query_level x)) ≡ q' (turned_query (query_level x))) where
    steps : handed.StepsUnder S inside above CE CT CO CU CQ down (λ s. ExprSame) (λ s. JoinTreeSame) (λ s. OrderSame) (λ s. OutputSame) (λ s. QuerySame)
    steps = record {
      expr = λ s x c p sub. ap fa (fold-roll-Expr A B C D F e t o u q x) ∙ at_expr s x c ∙ ap e' (expr_twice fa fb fc fd ff of_expr of_tree of_order of_output of_query to_expr to_tree to_order to_output to_query x p sub) ∙ sym (fold-roll-Expr A' B' C' D' F' e' t' o' u' q' x);
      tree = λ s x c ts cs sub. ap fb (fold-roll-JoinTree A B C D F e t o u q x) ∙ at_tree s x c ∙ ap t' (tree_twice fa fb fc fd ff of_expr of_tree of_order of_output of_query to_expr to_tree to_order to_output to_query x ts cs sub) ∙ sym (fold-roll-JoinTree A' B' C' D' F' e' t' o' u' q' x);
      order = λ s x c h. ap fc (fold-roll-Order A B C D F e t o u q x) ∙ at_order s x c ∙ ap o' (order_twice fa fb fc fd ff of_expr of_tree of_order of_output of_query to_expr to_tree to_order to_output to_query x h) ∙ sym (fold-roll-Order A' B' C' D' F' e' t' o' u' q' x);
      output = λ s x c h. ap fd (fold-roll-Output A B C D F e t o u q x) ∙ at_output s x c ∙ ap u' (output_twice fa fb fc fd ff of_expr of_tree of_order of_output of_query to_expr to_tree to_order to_output to_query x h) ∙ sym (fold-roll-Output A' B' C' D' F' e' t' o' u' q' x);
      query = λ s x c us h es os. ap ff (fold-roll-Query A B C D F e t o u q x) ∙ at_query s x c ∙ ap q' (query_twice fa fb fc fd ff of_expr of_tree of_order of_output of_query to_expr to_tree to_order to_output to_query x us h es os) ∙ sym (fold-roll-Query A' B' C' D' F' e' t' o' u' q' x);
    }

    pub same_expr : (x : Expr) (s : S) → CE s x → ExprSame x
    same_expr = handed.under_expr S inside above CE CT CO CU CQ down (λ s. ExprSame) (λ s. JoinTreeSame) (λ s. OrderSame) (λ s. OutputSame) (λ s. QuerySame) steps

    pub same_tree : (x : JoinTree) (s : S) → CT s x → JoinTreeSame x
    same_tree = handed.under_tree S inside above CE CT CO CU CQ down (λ s. ExprSame) (λ s. JoinTreeSame) (λ s. OrderSame) (λ s. OutputSame) (λ s. QuerySame) steps

    pub same_order : (x : Order) (s : S) → CO s x → OrderSame x
    same_order = handed.under_order S inside above CE CT CO CU CQ down (λ s. ExprSame) (λ s. JoinTreeSame) (λ s. OrderSame) (λ s. OutputSame) (λ s. QuerySame) steps

    pub same_output : (x : Output) (s : S) → CU s x → OutputSame x
    same_output = handed.under_output S inside above CE CT CO CU CQ down (λ s. ExprSame) (λ s. JoinTreeSame) (λ s. OrderSame) (λ s. OutputSame) (λ s. QuerySame) steps

    pub same_query : (x : Query) (s : S) → CQ s x → QuerySame x
    same_query = handed.under_query S inside above CE CT CO CU CQ down (λ s. ExprSame) (λ s. JoinTreeSame) (λ s. OrderSame) (λ s. OutputSame) (λ s. QuerySame) steps
