-- The laws of folding, as functions' contracts have them.
use Rattle.std.proofs.Common.{◌≡◌, true, []}
use Rattle.std.specs.Prelude.{All}
use Rattle.jp_query.specs.declared.Expr.{Expr}
use Rattle.jp_query.specs.declared.JoinTree.{JoinTree}
use Rattle.jp_query.specs.declared.Query.{Query}
use Rattle.jp_query.specs.Conditions.{IsTyped, judged_expr, judged_tree, judged_query, knows_columns, tells_relations_apart}
use Rattle.jp_query.specs.Fitting.{IsCellAt, FitsInPlace, FitsTree, FitsQuery, columns_in_tree}
use Rattle.jp_query.specs.Meaning.{Env, value_of, tuples_of, meaning}
use Rattle.jp_query.specs.Parts.{ColumnRef, columns_in, columns_in_query, outer_references}
use Rattle.jp_query.specs.Scopes.{Schema, Scope}
use Rattle.jp_query.specs.Tables.{TableRows, Belong, rows_of_tables}
use Rattle.jp_query.specs.Typing.{IsTypedExpr, tree_is_typed, typed_query}
use Rattle.jp_laws.proofs.EachPart.{each_of}
use Rattle.jp_laws.proofs.FitLaws.{outer_suffice}
use Rattle.jp_folding.specs.Folding.{folded_expr, folded_tree, folded}
use Rattle.jp_folding.proofs.ListsKept.{SameMember}
use Rattle.jp_folding.proofs.RowsKept.{value_kept, tuples_kept, rows_kept}

pub value_same : (schema : Schema) (tables : TableRows) (scope : Scope) (expr : Expr) (env : Env) → IsTypedExpr expr → (judged_expr schema knows_columns expr).passes scope ≡ true → (judged_expr schema tells_relations_apart expr).passes scope ≡ true → FitsInPlace schema tables scope expr env
    → value_of (rows_of_tables tables) (folded_expr expr) env ≡ value_of (rows_of_tables tables) expr env
value_same schema tables scope expr env typed knows apart fits = value_kept schema tables fits.belong expr scope (record { typed = typed; knows = knows; apart = apart }) env (each_of (IsCellAt scope env) (columns_in expr) fits.cells)

tree_same : (schema : Schema) (tables : TableRows) (outer : Scope) (tree : JoinTree) (env : Env) → tree_is_typed tree ≡ true → (judged_tree schema knows_columns tree).passes outer ≡ true → (judged_tree schema tells_relations_apart tree).passes outer ≡ true → FitsTree schema tables outer tree env
    → SameMember env (tuples_of (rows_of_tables tables) (folded_tree tree)) (tuples_of (rows_of_tables tables) tree)
tree_same schema tables outer tree env typed knows apart fits = tuples_kept schema tables fits.belong tree outer (record { typed = typed; knows = knows; apart = apart }) env (each_of (IsCellAt outer env) (columns_in_tree tree) fits.cells)

pub relations_same : (schema : Schema) (tables : TableRows) (outer : Scope) (tree : JoinTree) (env : Env) → tree_is_typed tree ≡ true → (judged_tree schema knows_columns tree).passes outer ≡ true → (judged_tree schema tells_relations_apart tree).passes outer ≡ true → FitsTree schema tables outer tree env
    → (tuples_of (rows_of_tables tables) (folded_tree tree)).rels ≡ (tuples_of (rows_of_tables tables) tree).rels
relations_same schema tables outer tree env typed knows apart fits = (tree_same schema tables outer tree env typed knows apart fits).0

pub tuples_same : (schema : Schema) (tables : TableRows) (outer : Scope) (tree : JoinTree) (env : Env) → tree_is_typed tree ≡ true → (judged_tree schema knows_columns tree).passes outer ≡ true → (judged_tree schema tells_relations_apart tree).passes outer ≡ true → FitsTree schema tables outer tree env
    → (tuples_of (rows_of_tables tables) (folded_tree tree)).tuples env ≡ (tuples_of (rows_of_tables tables) tree).tuples env
tuples_same schema tables outer tree env typed knows apart fits = (tree_same schema tables outer tree env typed knows apart fits).1

pub rows_same : (schema : Schema) (tables : TableRows) (outer : Scope) (query : Query) (env : Env) → (typed_query query).is_typed ≡ true → (judged_query schema knows_columns query).passes outer ≡ true → (judged_query schema tells_relations_apart query).passes outer ≡ true → FitsQuery schema tables outer query env
    → meaning (rows_of_tables tables) (folded query) env ≡ meaning (rows_of_tables tables) query env
rows_same schema tables outer query env typed knows apart fits = rows_kept schema tables fits.belong query outer (record { typed = typed; knows = knows; apart = apart }) env (each_of (IsCellAt outer env) (columns_in_query query) (outer_suffice schema outer query env apart fits.cells))

pub statement_same : (schema : Schema) (tables : TableRows) (query : Query) (env : Env) → IsTyped schema [] query → Belong schema tables → meaning (rows_of_tables tables) (folded query) env ≡ meaning (rows_of_tables tables) query env
statement_same schema tables query env typed belong = rows_same schema tables [] query env typed.expressions typed.columns typed.distinct (record { cells = λ k d low. tt; belong = belong })
