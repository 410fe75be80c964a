-- With given rows for its sublinks a value depends on the cells of an expression's own columns, on which relations of its own
-- placeholders are present, and on these rows.
use Rattle.std.specs.Prelude.{All}
use Rattle.std.proofs.Common.{◌≡◌, ◌∙◌, ap, sym, subst, ℕ, List, [], ◌∷◌, ◌++◌, map, refl}
use Rattle.jp_query.specs.declared.Expr.{Expr}
use Rattle.jp_query.specs.declared.JoinTree.{JoinTree}
use Rattle.jp_query.specs.declared.Order.{Order}
use Rattle.jp_query.specs.declared.Output.{Output}
use Rattle.jp_query.specs.declared.Query.{Query}
use Rattle.jp_query.specs.declared.Expr.TheOpen.{Expr-F}
use Rattle.jp_query.specs.declared.Expr.TheViews.{roll-Expr}
use Rattle.jp_query.specs.declared.Expr.TheFolds.{fold-JoinTree, fold-Order, fold-Output, fold-Query, para-JoinTree, para-Order, para-Output, para-Query, map-Expr, fold-roll-Expr, para-roll-Expr}
use Rattle.jp_query.specs.Layers.{ExprLayer}
use Rattle.jp_query.specs.Meaning.{Row, Env, ValueIn, Tuples, SortKey, RowsIn, given, no_tables, is_row, first_of, expr_value, tree_tuples, order_key, output_value, query_rows, value_given}
use Rattle.jp_query.specs.Operators.{among}
use Rattle.jp_query.specs.Outermost.{Outer, Outers, outers_in, Level, outer_here, expr_outers, outermost}
use Rattle.jp_query.specs.Parts.{all_in, parts, node_column, node_placeholder}
use Rattle.jp_induction.proofs.Between.{SameValue, OwnSame, value_same}
use Rattle.jp_induction.proofs.EachPart.{Each, each_left, each_right, each_both, each_in_all, each_mapped, each_of, each_append, each_in_parts, each_map, parts_map}
use Rattle.jp_induction.proofs.Induction.{expr_alone}
use Rattle.jp_laws.specs.SameCells.{IsSameCell, IsSamePresence}
use Rattle.jp_laws.proofs.OwnColumns.{own_has}
use Rattle.jp_laws.proofs.TwinLaws.{any_same}
use Rattle.jp_lists.specs.Seen.{HasSameRows}
use Rattle.jp_tree.specs.BlockParts.{own_columns, own_placeholders, placeholder_level}

-- ---- what a level and its parts have

abbrev place_level : ExprLayer → Expr-F (List ℕ) (Unit {0}) (Unit {0}) (Unit {0}) (Unit {0})
place_level = map-Expr Expr JoinTree Order Output Query (List ℕ) (Unit {0}) (Unit {0}) (Unit {0}) (Unit {0}) own_placeholders (λ t. tt) (λ o. tt) (λ u. tt) (λ q. tt)

places_mapped : (x : ExprLayer) → node_placeholder (place_level x) ≡ node_placeholder x
places_mapped (Expr-F.Place inner rels) = refl
places_mapped x = refl

pub places_have : (P : ℕ → Type 0) (x : ExprLayer) → Each P (own_placeholders (roll-Expr x)) → Each P (node_placeholder x) × Each (λ e. Each P (own_placeholders e)) (parts x)
places_have P x h =
    let all = subst (Each P) (fold-roll-Expr (List ℕ) (Unit {0}) (Unit {0}) (Unit {0}) (Unit {0}) placeholder_level (λ t. tt) (λ o. tt) (λ u. tt) (λ q. tt) x) h in (
      subst (Each P) (places_mapped x) (each_left P (node_placeholder (place_level x)) (all_in (parts (place_level x))) all),
      each_mapped (Each P) own_placeholders (parts x) (subst (Each (Each P)) (parts_map own_placeholders (λ t. tt) (λ o. tt) (λ u. tt) (λ q. tt) x) (each_in_all P (parts (place_level x)) (each_right P (node_placeholder (place_level x)) (all_in (parts (place_level x))) all))),
    )

pub places_from : (P : ℕ → Type 0) (x : ExprLayer) → Each P (node_placeholder x) → Each (λ e. Each P (own_placeholders e)) (parts x) → Each P (own_placeholders (roll-Expr x))
places_from P x here inner = subst (Each P) (sym (fold-roll-Expr (List ℕ) (Unit {0}) (Unit {0}) (Unit {0}) (Unit {0}) placeholder_level (λ t. tt) (λ o. tt) (λ u. tt) (λ q. tt) x))
    (each_append P (node_placeholder (place_level x)) (all_in (parts (place_level x))) (subst (Each P) (sym (places_mapped x)) here)
    (each_in_parts P (parts (place_level x)) (subst (Each (Each P)) (sym (parts_map own_placeholders (λ t. tt) (λ o. tt) (λ u. tt) (λ q. tt) x)) (each_map (Each P) own_placeholders (parts x) inner))))

abbrev beside : Expr → Expr × Outers
beside x = (x, outermost x)

abbrev tree_beside : JoinTree → JoinTree × Outers
tree_beside x = (x, para-JoinTree Outers Outers Outers Outers Outers expr_outers (λ t. []) (λ o. []) (λ u. []) (λ q. []) x)

abbrev order_beside : Order → Order × Outers
order_beside x = (x, para-Order Outers Outers Outers Outers Outers expr_outers (λ t. []) (λ o. []) (λ u. []) (λ q. []) x)

abbrev output_beside : Output → Output × Outers
output_beside x = (x, para-Output Outers Outers Outers Outers Outers expr_outers (λ t. []) (λ o. []) (λ u. []) (λ q. []) x)

abbrev query_beside : Query → Query × Outers
query_beside x = (x, para-Query Outers Outers Outers Outers Outers expr_outers (λ t. []) (λ o. []) (λ u. []) (λ q. []) x)

abbrev pub outer_level : ExprLayer → Level
outer_level = map-Expr Expr JoinTree Order Output Query (Expr × Outers) (JoinTree × Outers) (Order × Outers) (Output × Outers) (Query × Outers) beside tree_beside order_beside output_beside query_beside

pub outers_have : (P : Outer → Type 0) (x : ExprLayer) → Each P (outermost (roll-Expr x)) → Each P (outer_here (outer_level x)) × Each (λ e. Each P (outermost e)) (parts x)
outers_have P x h =
    let all : Each P (outer_here (outer_level x) ++ all_in (map outers_in (parts (outer_level x)))) = subst (Each P) (para-roll-Expr Outers Outers Outers Outers Outers expr_outers (λ t. []) (λ o. []) (λ u. []) (λ q. []) x) h in
    let inner : Each (Each P) (map outers_in (map beside (parts x))) = subst (λ ys. Each (Each P) (map outers_in ys)) (parts_map beside tree_beside order_beside output_beside query_beside x)
    (each_in_all P (map outers_in (parts (outer_level x))) (each_right P (outer_here (outer_level x)) (all_in (map outers_in (parts (outer_level x)))) all)) in
    (each_left P (outer_here (outer_level x)) (all_in (map outers_in (parts (outer_level x)))) all, each_mapped (λ y. Each P (outers_in y)) beside (parts x) (each_mapped (Each P) outers_in (map beside (parts x)) inner))

-- ---- values

abbrev given_tree : (ℕ → List Row) → JoinTree → Tuples
given_tree rows = fold-JoinTree ValueIn Tuples SortKey ValueIn RowsIn (expr_value (given rows)) (tree_tuples no_tables) order_key output_value query_rows

abbrev given_order : (ℕ → List Row) → Order → SortKey
given_order rows = fold-Order ValueIn Tuples SortKey ValueIn RowsIn (expr_value (given rows)) (tree_tuples no_tables) order_key output_value query_rows

abbrev given_output : (ℕ → List Row) → Output → ValueIn
given_output rows = fold-Output ValueIn Tuples SortKey ValueIn RowsIn (expr_value (given rows)) (tree_tuples no_tables) order_key output_value query_rows

abbrev given_query : (ℕ → List Row) → Query → RowsIn
given_query rows = fold-Query ValueIn Tuples SortKey ValueIn RowsIn (expr_value (given rows)) (tree_tuples no_tables) order_key output_value query_rows

module _ (rows others : ℕ → List Row) (env other : Env) where
  -- what the expression looks at is the same in both
  pub record Sees (e : Expr) : Type 0 where
    pub cells : Each (IsSameCell env other) (own_columns e)
    pub presence : Each (IsSamePresence env other) (own_placeholders e)
    pub lists : Each (HasSameRows rows others) (outermost e)

  pub each_sees : (es : List Expr) → Each (λ e. Each (IsSameCell env other) (own_columns e)) es → Each (λ e. Each (IsSamePresence env other) (own_placeholders e)) es → Each (λ e. Each (HasSameRows rows others) (outermost e)) es → Each Sees es
  each_sees [] a b c = tt
  each_sees (e ∷ es) a b c = (record { cells = a.0; presence = b.0; lists = c.0 }, each_sees es a.1 b.1 c.1)

  pub parts_see : (x : ExprLayer) → Sees (roll-Expr x) → Each Sees (parts x)
  parts_see x s = each_sees (parts x) (own_has (IsSameCell env other) x s.cells).1 (places_have (IsSamePresence env other) x s.presence).1 (outers_have (HasSameRows rows others) x s.lists).1

  own : (x : ExprLayer) → Each (IsSameCell env other) (node_column x) → Each (IsSamePresence env other) (node_placeholder x) → Each (HasSameRows rows others) (outer_here (outer_level x))
      → OwnSame (value_given rows) (value_given others) (given_tree rows) (given_tree others) (given_order rows) (given_order others) (given_output rows) (given_output others) (given_query rows) (given_query others) (given rows) (given others) env other x
  own (Expr-F.Col rel col ty nulled) c w q = c.0
  own (Expr-F.Place inner rels) c w q = any_same env other rels w.0
  own (Expr-F.Exists sub query) c w q = λ i. is_row (q.0 i)
  own (Expr-F.InSub sub operand query) c w q = λ v i. among v (map first_of (q.0 i))
  own x c w q = tt

  abbrev Good : Expr → Type 0
  Good x = Sees x → value_given rows x env ≡ value_given others x other

  step : (x : ExprLayer) → Each Good (parts x) → Good (roll-Expr x)
  step x good s =
      ap (λ (v : ValueIn). v env) (fold-roll-Expr ValueIn Tuples SortKey ValueIn RowsIn (expr_value (given rows)) (tree_tuples no_tables) order_key output_value query_rows x)
      ∙ value_same (value_given rows) (value_given others) (given_tree rows) (given_tree others) (given_order rows) (given_order others) (given_output rows) (given_output others) (given_query rows) (given_query others) (given rows) (given others) env other x
      (each_both Good Sees (SameValue (value_given rows) (value_given others) env other) (λ y g h. g h) (parts x) good (parts_see x s))
      (own x (own_has (IsSameCell env other) x s.cells).0 (places_have (IsSamePresence env other) x s.presence).0 (outers_have (HasSameRows rows others) x s.lists).0)
      ∙ sym (ap (λ (v : ValueIn). v other) (fold-roll-Expr ValueIn Tuples SortKey ValueIn RowsIn (expr_value (given others)) (tree_tuples no_tables) order_key output_value query_rows x))

  pub value_by_sight : (e : Expr) → Good e
  value_by_sight = expr_alone Good step

pub value_by_own : (rows others : ℕ → List Row) (e : Expr) (env other : Env) → All (IsSameCell env other) (own_columns e) → All (IsSamePresence env other) (own_placeholders e) → All (HasSameRows rows others) (outermost e)
    → value_given rows e env ≡ value_given others e other
value_by_own rows others e env other cells presence lists = value_by_sight rows others env other e (record {
  cells = each_of (IsSameCell env other) (own_columns e) cells;
  presence = each_of (IsSamePresence env other) (own_placeholders e) presence;
  lists = each_of (HasSameRows rows others) (outermost e) lists;
})
