-- With given rows for its sublinks, the value of a typed expression depends on its references alone, as it does in place.
use Rattle.std.proofs.Common.{◌≡◌, ◌∙◌, ap, sym, refl, ℕ, List, is_some}
use Rattle.jp_base.specs.Sets.{Has}
use Rattle.jp_query.specs.declared.Expr.{Expr}
use Rattle.jp_query.specs.declared.JoinTree.{JoinTree}
use Rattle.jp_query.specs.declared.Order.{Order}
use Rattle.jp_query.specs.declared.Output.{Output}
use Rattle.jp_query.specs.declared.Query.{Query}
use Rattle.jp_query.specs.declared.Expr.TheOpen.{Expr-F}
use Rattle.jp_query.specs.declared.Expr.TheViews.{roll-Expr}
use Rattle.jp_query.specs.declared.Expr.TheFolds.{fold-JoinTree, fold-Order, fold-Output, fold-Query, fold-roll-Expr}
use Rattle.jp_query.specs.Layers.{ExprLayer}
use Rattle.jp_query.specs.Meaning.{Row, Env, ValueIn, Tuples, SortKey, RowsIn, cell_in, given, no_tables, expr_value, tree_tuples, order_key, output_value, query_rows, value_given}
use Rattle.jp_query.specs.Parts.{parts, ColumnRef, node_column, node_placeholder, columns_in}
use Rattle.jp_query.specs.Refs.{refs_of}
use Rattle.jp_query.specs.Typing.{IsTypedExpr}
use Rattle.jp_induction.proofs.Between.{SameValue, OwnSame, value_same}
use Rattle.jp_induction.proofs.EachPart.{Each, each_both, each_weaker}
use Rattle.jp_induction.proofs.Induction.{expr_alone}
use Rattle.jp_laws.specs.Referred.{placeholders_in, IsReferred, AreReferred}
use Rattle.jp_laws.specs.SameCells.{IsSameCell, IsSamePresence}
use Rattle.jp_laws.proofs.GatheredLaws.{columns_referred, places_referred}
use Rattle.jp_laws.proofs.GatheredParts.{in_expr, node_level, expr_has}
use Rattle.jp_laws.proofs.TwinLaws.{any_same}

module _ (rows : ℕ → List Row) (env other : Env) where
  abbrev given_tree : JoinTree → Tuples
  given_tree = fold-JoinTree ValueIn Tuples SortKey ValueIn RowsIn (expr_value (given rows)) (tree_tuples no_tables) order_key output_value query_rows

  abbrev given_order : Order → SortKey
  given_order = fold-Order ValueIn Tuples SortKey ValueIn RowsIn (expr_value (given rows)) (tree_tuples no_tables) order_key output_value query_rows

  abbrev given_output : Output → ValueIn
  given_output = fold-Output ValueIn Tuples SortKey ValueIn RowsIn (expr_value (given rows)) (tree_tuples no_tables) order_key output_value query_rows

  abbrev given_query : Query → RowsIn
  given_query = fold-Query ValueIn Tuples SortKey ValueIn RowsIn (expr_value (given rows)) (tree_tuples no_tables) order_key output_value query_rows

  abbrev SeesCells : Expr → Type 0
  SeesCells x = Each (IsSameCell env other) (in_expr ColumnRef node_column x)

  abbrev SeesPlaces : Expr → Type 0
  SeesPlaces x = Each (IsSamePresence env other) (in_expr ℕ node_placeholder x)

  abbrev Good : Expr → Type 0
  Good x = SeesCells x → SeesPlaces x → value_given rows x env ≡ value_given rows x other

  abbrev GoodOnce : Expr → Type 0
  GoodOnce x = SeesPlaces x → value_given rows x env ≡ value_given rows x other

  own : (x : ExprLayer) → Each (IsSameCell env other) (node_column (node_level ColumnRef node_column x)) → Each (IsSamePresence env other) (node_placeholder (node_level ℕ node_placeholder x))
      → OwnSame (value_given rows) (value_given rows) given_tree given_tree given_order given_order given_output given_output given_query given_query (given rows) (given rows) env other x
  own (Expr-F.Col rel col ty nulled) c w = c.0
  own (Expr-F.Place inner rels) c w = any_same env other rels w.0
  own (Expr-F.Exists sub query) c w = refl
  own (Expr-F.InSub sub operand query) c w = λ v. refl
  own x c w = tt

  step : (x : ExprLayer) → Each Good (parts x) → Good (roll-Expr x)
  step x good cells places =
      let c = expr_has ColumnRef node_column (IsSameCell env other) x cells in
      let w = expr_has ℕ node_placeholder (IsSamePresence env other) x places in
      ap (λ (v : ValueIn). v env) (fold-roll-Expr ValueIn Tuples SortKey ValueIn RowsIn (expr_value (given rows)) (tree_tuples no_tables) order_key output_value query_rows x)
      ∙ value_same (value_given rows) (value_given rows) given_tree given_tree given_order given_order given_output given_output given_query given_query (given rows) (given rows) env other x
      (each_both GoodOnce SeesPlaces (SameValue (value_given rows) (value_given rows) env other) (λ y g s. g s) (parts x) (each_both Good SeesCells GoodOnce (λ y g s. g s) (parts x) good c.exprs) w.exprs)
      (own x c.node w.node)
      ∙ sym (ap (λ (v : ValueIn). v other) (fold-roll-Expr ValueIn Tuples SortKey ValueIn RowsIn (expr_value (given rows)) (tree_tuples no_tables) order_key output_value query_rows x))

  cell_same : (set : ℕ) → ((i : ℕ) → Has set i → env i ≡ other i) → (c : ColumnRef) → IsReferred set c → IsSameCell env other c
  cell_same set agree c h = ap (λ r. cell_in r c.column) (agree c.relation h.1)

  presence_same : (set : ℕ) → ((i : ℕ) → Has set i → env i ≡ other i) → (rels : ℕ) → AreReferred set rels → IsSamePresence env other rels
  presence_same set agree rels h i low p = ap is_some (agree i (h.1 i p))

  pub given_by_references : (e : Expr) → IsTypedExpr e → ((i : ℕ) → Has (refs_of e) i → env i ≡ other i) → value_given rows e env ≡ value_given rows e other
  given_by_references e typed agree = expr_alone Good step e
      (each_weaker (IsReferred (refs_of e)) (IsSameCell env other) (cell_same (refs_of e) agree) (columns_in e) (columns_referred e typed))
      (each_weaker (AreReferred (refs_of e)) (IsSamePresence env other) (presence_same (refs_of e) agree) (placeholders_in e) (places_referred e typed))
