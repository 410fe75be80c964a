-- The laws of cells, as functions' contracts have them.
use Rattle.std.proofs.Common.{◌≡◌, ap, subst, ℕ, true, List, is_some}
use Rattle.std.specs.Prelude.{All}
use Rattle.jp_base.specs.Sets.{Has}
use Rattle.jp_query.specs.declared.Expr.{Expr}
use Rattle.jp_query.specs.declared.JoinTree.{JoinTree}
use Rattle.jp_query.specs.declared.Query.{Query}
use Rattle.jp_query.specs.Fitting.{columns_in_tree}
use Rattle.jp_query.proofs.RelsLaw.{rels_same}
use Rattle.jp_induction.specs.Alike.{Alike}
use Rattle.jp_query.specs.Meaning.{Row, Env, cell_in, value_of, tuples_of, meaning}
use Rattle.jp_query.specs.Parts.{ColumnRef, rels_of, columns_in, columns_in_query, placeholders_in_query}
use Rattle.jp_query.specs.Refs.{refs_of, refs_of_query}
use Rattle.jp_query.specs.Typing.{IsTypedExpr, typed_query}
use Rattle.jp_laws.specs.Referred.{placeholders_in, placeholders_in_tree, IsReferred, AreReferred}
use Rattle.jp_laws.specs.SameCells.{IsSameCell, IsSamePresence, AreTwins}
use Rattle.jp_laws.proofs.EachPart.{each_of, each_weaker}
use Rattle.jp_laws.proofs.GatheredLaws.{columns_referred, places_referred, columns_referred_in, places_referred_in}
use Rattle.jp_laws.proofs.CellLaws.{value_by_cells, tuples_by_cells, rows_by_cells}

pub value_of_cells : (tables : ℕ → List Row) (expr : Expr) (env other : Env) → All (IsSameCell env other) (columns_in expr) → All (IsSamePresence env other) (placeholders_in expr) → value_of tables expr env ≡ value_of tables expr other
value_of_cells tables expr env other cells present = value_by_cells tables expr env other (each_of (IsSameCell env other) (columns_in expr) cells, each_of (IsSamePresence env other) (placeholders_in expr) present)

pub tuples_of_cells : (tables : ℕ → List Row) (tree : JoinTree) (env other : Env) → All (IsSameCell env other) (columns_in_tree tree) → All (IsSamePresence env other) (placeholders_in_tree tree) → Alike (AreTwins (rels_of tree) env other) ((tuples_of tables tree).tuples env) ((tuples_of tables tree).tuples other)
tuples_of_cells tables tree env other cells present = subst (λ n. Alike (AreTwins n env other) ((tuples_of tables tree).tuples env) ((tuples_of tables tree).tuples other)) (rels_same tables tree)
    (tuples_by_cells tables tree env other (each_of (IsSameCell env other) (columns_in_tree tree) cells, each_of (IsSamePresence env other) (placeholders_in_tree tree) present))

pub rows_of_cells : (tables : ℕ → List Row) (query : Query) (env other : Env) → All (IsSameCell env other) (columns_in_query query) → All (IsSamePresence env other) (placeholders_in_query query) → meaning tables query env ≡ meaning tables query other
rows_of_cells tables query env other cells present = rows_by_cells tables query env other (each_of (IsSameCell env other) (columns_in_query query) cells, each_of (IsSamePresence env other) (placeholders_in_query query) present)

module _ (set : ℕ) (env other : Env) (agree : (i : ℕ) → Has set i → env i ≡ other i) where
  cell_same : (c : ColumnRef) → IsReferred set c → IsSameCell env other c
  cell_same c h = ap (λ r. cell_in r c.column) (agree c.relation h.1)

  presence_same : (rels : ℕ) → AreReferred set rels → IsSamePresence env other rels
  presence_same rels h i low p = ap is_some (agree i (h.1 i p))

pub value_of_references : (tables : ℕ → List Row) (expr : Expr) (env other : Env) → IsTypedExpr expr → ((i : ℕ) → Has (refs_of expr) i → env i ≡ other i) → value_of tables expr env ≡ value_of tables expr other
value_of_references tables expr env other typed agree = value_by_cells tables expr env other (
  each_weaker (IsReferred (refs_of expr)) (IsSameCell env other) (cell_same (refs_of expr) env other agree) (columns_in expr) (columns_referred expr typed),
  each_weaker (AreReferred (refs_of expr)) (IsSamePresence env other) (presence_same (refs_of expr) env other agree) (placeholders_in expr) (places_referred expr typed),
)

pub rows_of_references : (tables : ℕ → List Row) (query : Query) (env other : Env) → (typed_query query).is_typed ≡ true → ((i : ℕ) → Has (refs_of_query query) i → env i ≡ other i) → meaning tables query env ≡ meaning tables query other
rows_of_references tables query env other typed agree = rows_by_cells tables query env other (
  each_weaker (IsReferred (refs_of_query query)) (IsSameCell env other) (cell_same (refs_of_query query) env other agree) (columns_in_query query) (columns_referred_in query typed),
  each_weaker (AreReferred (refs_of_query query)) (IsSamePresence env other) (presence_same (refs_of_query query) env other agree) (placeholders_in_query query) (places_referred_in query typed),
)
