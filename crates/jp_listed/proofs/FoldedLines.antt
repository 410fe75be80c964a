-- A folded query has the lines that it had, and what stands in its order stands in that of the query.
use Rattle.std.proofs.Common.{◌≡◌, ◌∙◌, ap, ap₂, sym, subst, refl, ℕ, inl, inr, ◌&&◌, List, [], ◌∷◌, ◌++◌, map, filter}
use Rattle.std.specs.List.{list_all}
use Rattle.jp_base.specs.declared.truth.Truth.TheVariants.{True}
use Rattle.jp_facts.proofs.Members.{In, from_filter}
use Rattle.jp_induction.proofs.EachPart.{Each, each_of, each_weaker}
use Rattle.jp_query.specs.declared.Expr.{Expr}
use Rattle.jp_query.specs.declared.Expr.TheOpen.{Expr-F}
use Rattle.jp_query.specs.declared.Expr.TheViews.{roll-Order, roll-Output}
use Rattle.jp_query.specs.declared.JoinTree.{JoinTree}
use Rattle.jp_query.specs.declared.Order.{Order, out-Order, roll-out-Order, out-roll-Order}
use Rattle.jp_query.specs.declared.Output.{Output, out-Output, roll-out-Output, out-roll-Output}
use Rattle.jp_query.specs.declared.Query.{Query, out-Query, roll-out-Query, out-roll-Query}
use Rattle.jp_query.specs.Conditions.{IsTyped}
use Rattle.jp_query.specs.Fitting.{IsCellAt}
use Rattle.jp_query.specs.InOrder.{IsInOrder, StandFor, output_of, key_of, direction_of, lines_of}
use Rattle.jp_query.specs.Layers.{OrderLayer, OutputLayer, QueryLayer}
use Rattle.jp_query.specs.Meaning.{Row, Env, value_at, key_at, line_at, holds, value_of, tuples_of}
use Rattle.jp_query.specs.Operators.{is_true, truth_of_value}
use Rattle.jp_query.specs.Ordering.{Line, AreInOrder}
use Rattle.jp_query.specs.Parts.{ColumnRef, node_column, columns_in, columns_in_query}
use Rattle.jp_query.specs.Scopes.{Schema, Entry, Scope}
use Rattle.jp_query.specs.Tables.{TableRows, Belong, rows_of_tables}
use Rattle.jp_query.proofs.FoldLaws as laws
use Rattle.jp_laws.proofs.ConjunctLaws.{all_from}
use Rattle.jp_laws.proofs.GatheredParts.{QueryHas, in_query, in_order, in_output, query_has, output_has, order_has}
use Rattle.jp_laws.proofs.RowsFit.{tree_fits}
use Rattle.jp_laws.proofs.TuplesFit.{Fit, inner_cell}
use Rattle.jp_problem.specs.Blocks.{output_expr, order_expr}
use Rattle.jp_conditions.proofs.Judging.{each_in}
use Rattle.jp_folding.specs.Folding.{expr_folded, tree_folded, query_folded, conditions_folded, folded_expr, folded_tree, folded}
use Rattle.jp_folding.proofs.FineDown.{entries_in, FineExpr, FineTree, FineOrder, FineOutput, FineQuery, fine_down}
use Rattle.jp_folding.proofs.LevelValues.{truth, and_members_same, and_truth}
use Rattle.jp_folding.proofs.RowsKept.{value_kept, tuples_kept}
use Rattle.jp_folding.proofs.TypeLaws.{folded_order, folded_output}
use Rattle.jp_spine.proofs.ActiveLaws.{filter_same}

module _ (tables : ℕ → List Row) (env : Env) where
  holds_of : (es : List Expr) → holds (map (value_of tables) es) env ≡ list_all is_true (map (truth tables env) es)
  holds_of [] = refl
  holds_of (e ∷ es) = ap (λ b. is_true (truth tables env e) && b) (holds_of es)

  -- a folded list of conditions holds where the list does
  conditions_hold : (es : List Expr) → holds (map (value_of tables) (conditions_folded es)) env ≡ holds (map (value_of tables) es) env
  conditions_hold es =
      holds_of (conditions_folded es)
      ∙ sym (all_from True (map (truth tables env) (conditions_folded es)))
      ∙ ap is_true (and_members_same tables env (expr_folded (Expr-F.And es)) ∙ and_truth tables env es)
      ∙ all_from True (map (truth tables env) es)
      ∙ sym (holds_of es)

output_folded : (u : Output) → output_expr (folded_output u) ≡ folded_expr (output_expr u)
output_folded u =
    ap output_expr (laws.at-Output Expr JoinTree Order Output Query expr_folded tree_folded roll-Order roll-Output query_folded u)
    ∙ ap (λ (x : OutputLayer). x.expr) (out-roll-Output (record { name = (out-Output u).name; ty = (out-Output u).ty; expr = folded_expr (output_expr u) }))

abbrev folded_key : Order → OrderLayer
folded_key o = record { expr = folded_expr (order_expr o); desc = (out-Order o).desc; nulls_first = (out-Order o).nulls_first }

order_folded : (o : Order) → out-Order (folded_order o) ≡ folded_key o
order_folded o = ap out-Order (laws.at-Order Expr JoinTree Order Output Query expr_folded tree_folded roll-Order roll-Output query_folded o) ∙ out-roll-Order (folded_key o)

directions_kept : (os : List Order) → map direction_of (map folded_order os) ≡ map direction_of os
directions_kept [] = refl
directions_kept (o ∷ os) = ap₂ ◌∷◌ (ap (λ (x : OrderLayer). record { desc = x.desc; nulls_first = x.nulls_first }) (order_folded o)) (directions_kept os)

abbrev folded_level : Query → QueryLayer
folded_level q = record {
  columns = map folded_output (out-Query q).columns;
  distinct = (out-Query q).distinct;
  tree = folded_tree (out-Query q).tree;
  conds = conditions_folded (map folded_expr (out-Query q).conds);
  order = map folded_order (out-Query q).order;
}

level_is : (q : Query) → out-Query (folded q) ≡ folded_level q
level_is q = ap out-Query (laws.at-Query Expr JoinTree Order Output Query expr_folded tree_folded roll-Order roll-Output query_folded q) ∙ out-roll-Query (folded_level q)

map_in : {X Y : Type 0} (f g : X → Y) (xs : List X) → ((x : X) → In x xs → f x ≡ g x) → map f xs ≡ map g xs
map_in f g [] h = refl
map_in f g (x ∷ xs) h = ap₂ ◌∷◌ (h x (inl refl)) (map_in f g xs (λ y m. h y (inr m)))

module _ (schema : Schema) (data_tables : TableRows) (belong : Belong schema data_tables) (q : Query) (s : Scope) (fine : FineQuery schema s q) (env : Env) (cells : Each (IsCellAt s env) (columns_in_query q)) where
  abbrev tables : ℕ → List Row
  tables = rows_of_tables data_tables

  abbrev x : QueryLayer
  x = out-Query q

  abbrev entries : List Entry
  entries = entries_in schema s (out-Query q).tree

  abbrev tuples : List Env
  tuples = (tuples_of tables (out-Query q).tree).tuples env

  abbrev all : Scope
  all = entries_in schema s (out-Query q).tree ++ s

  has : QueryHas ColumnRef node_column (IsCellAt s env) x
  has = query_has ColumnRef node_column (IsCellAt s env) x (subst (λ p. Each (IsCellAt s env) (in_query ColumnRef node_column p)) (sym (roll-out-Query q)) cells)

  down : Each (FineOutput schema all) x.columns × FineTree schema s x.tree × Each (FineExpr schema all) x.conds × Each (FineOrder schema all) x.order
  down = (fine_down schema).query s x (subst (FineQuery schema s) (sym (roll-out-Query q)) fine)

  fits : Each (Fit entries env) tuples
  fits = (tree_fits schema data_tables belong x.tree).1 s env down.1.typed down.1.knows down.1.apart has.tree

  module _ (e : Env) (fit : Fit entries env e) where
    kept_at : (c : Expr) → FineExpr schema all c → Each (IsCellAt s env) (columns_in c) → value_of tables (folded_expr c) e ≡ value_of tables c e
    kept_at c f h = value_kept schema data_tables belong c all f e (each_weaker (IsCellAt s env) (IsCellAt all e) (inner_cell entries s env e fit) (columns_in c) h)

    conds_kept : (cs : List Expr) → Each (FineExpr schema all) cs → Each (λ c. Each (IsCellAt s env) (columns_in c)) cs → holds (map (value_of tables) (map folded_expr cs)) e ≡ holds (map (value_of tables) cs) e
    conds_kept [] f h = refl
    conds_kept (c ∷ cs) f h = ap₂ ◌&&◌ (ap (λ v. is_true (truth_of_value v)) (kept_at c f.0 h.0)) (conds_kept cs f.1 h.1)

    outputs_kept : (us : List Output) → Each (FineOutput schema all) us → Each (λ u. Each (IsCellAt s env) (in_output ColumnRef node_column u)) us → map (value_at e) (map (output_of tables) (map folded_output us)) ≡ map (value_at e) (map (output_of tables) us)
    outputs_kept [] f h = refl
    outputs_kept (u ∷ us) f h = ap₂ ◌∷◌
        (ap (λ c. value_of tables c e) (output_folded u)
        ∙ kept_at (output_expr u) ((fine_down schema).output all (out-Output u) (subst (FineOutput schema all) (sym (roll-out-Output u)) f.0))
        (output_has ColumnRef node_column (IsCellAt s env) (out-Output u) (subst (λ w. Each (IsCellAt s env) (in_output ColumnRef node_column w)) (sym (roll-out-Output u)) h.0)))
        (outputs_kept us f.1 h.1)

    keys_kept : (os : List Order) → Each (FineOrder schema all) os → Each (λ o. Each (IsCellAt s env) (in_order ColumnRef node_column o)) os → map (key_at e) (map (key_of tables) (map folded_order os)) ≡ map (key_at e) (map (key_of tables) os)
    keys_kept [] f h = refl
    keys_kept (o ∷ os) f h = ap₂ ◌∷◌
        (ap (λ (k : OrderLayer). value_of tables k.expr e) (order_folded o)
        ∙ kept_at (order_expr o) ((fine_down schema).order all (out-Order o) (subst (FineOrder schema all) (sym (roll-out-Order o)) f.0))
        (order_has ColumnRef node_column (IsCellAt s env) (out-Order o) (subst (λ w. Each (IsCellAt s env) (in_order ColumnRef node_column w)) (sym (roll-out-Order o)) h.0)))
        (keys_kept os f.1 h.1)

  abbrev line : QueryLayer → Env → Line
  line y = line_at (map (output_of tables) y.columns) (map (key_of tables) y.order)

  abbrev passing : QueryLayer → List Env
  passing y = filter (holds (map (value_of tables) y.conds)) ((tuples_of tables y.tree).tuples env)

  line_kept : (e : Env) → Fit entries env e → line (folded_level q) e ≡ line x e
  line_kept e fit = ap₂ (λ vs ks. record { outputs = vs; keys = ks }) (outputs_kept e fit x.columns down.0 has.columns) (keys_kept e fit x.order down.3 has.order)

  passing_kept : passing (folded_level q) ≡ passing x
  passing_kept =
      ap (filter (holds (map (value_of tables) (conditions_folded (map folded_expr x.conds))))) (tuples_kept schema data_tables belong x.tree s down.1 env has.tree).1
      ∙ filter_same (holds (map (value_of tables) (conditions_folded (map folded_expr x.conds)))) (holds (map (value_of tables) x.conds)) tuples
      (λ e m. conditions_hold tables e (map folded_expr x.conds) ∙ conds_kept e (each_in (Fit entries env) tuples e fits m) x.conds down.2 has.conds)

  pub lines_kept : lines_of (rows_of_tables data_tables) (folded q) env ≡ lines_of (rows_of_tables data_tables) q env
  lines_kept =
      ap (λ y. map (line y) (passing y)) (level_is q)
      ∙ ap (map (line (folded_level q))) passing_kept
      ∙ map_in (line (folded_level q)) (line x) (passing x) (λ e m. line_kept e (each_in (Fit entries env) tuples e fits (from_filter (holds (map (value_of tables) x.conds)) e tuples m).1))

  pub order_kept : (rows : List Row) → IsInOrder (rows_of_tables data_tables) (folded q) env rows → IsInOrder (rows_of_tables data_tables) q env rows
  order_kept rows h = record {
    lines = h.lines;
    outputs = h.outputs;
    passing = subst (λ d. StandFor d (lines_of tables q env) h.lines) (ap (λ (y : QueryLayer). y.distinct) (level_is q)) (subst (λ ls. StandFor (out-Query (folded q)).distinct ls h.lines) lines_kept h.passing);
    in_order = subst (λ ds. AreInOrder ds h.lines) (ap (λ (y : QueryLayer). map direction_of y.order) (level_is q) ∙ directions_kept x.order) h.in_order;
  }

pub statement_order : (schema : Schema) (tables : TableRows) (q : Query) (env : Env) → IsTyped schema [] q → Belong schema tables → (rows : List Row) → IsInOrder (rows_of_tables tables) (folded q) env rows → IsInOrder (rows_of_tables tables) q env rows
statement_order schema tables q env typed belong rows h =
    order_kept schema tables belong q [] (record { typed = typed.expressions; knows = typed.columns; apart = typed.distinct }) env (each_of (IsCellAt [] env) (columns_in_query q) (λ k d low. tt)) rows h
