-- Labels change no value, tuple, row or reference.
use Rattle.std.proofs.Common.{◌≡◌, ◌∙◌, ap, sym, refl, ℕ, List}
use Rattle.jp_query.specs.declared.Expr.{Expr}
use Rattle.jp_query.specs.declared.JoinTree.{JoinTree}
use Rattle.jp_query.specs.declared.Query.{Query}
use Rattle.jp_query.specs.Meaning.{Row, ValueIn, Tuples, SortKey, RowsIn, in_place, given, no_tables, expr_value, tree_tuples, order_key, output_value, query_rows, value_of, value_given, tuples_of, meaning}
use Rattle.jp_query.specs.Refs.{expr_refs, tree_refs, order_refs, output_refs, query_refs, refs_of, refs_of_tree, refs_of_query}
use Rattle.jp_laws.specs.Labels.{Relabelling, unlabelled, relabelled, relabelled_tree, relabelled_query}
use Rattle.jp_laws.proofs.LabelLaws as whole

pub value : (tables : ℕ → List Row) (label : Relabelling) (expr : Expr) → value_of tables (relabelled label expr) ≡ value_of tables expr
value tables label = whole.same_expr label ValueIn Tuples SortKey ValueIn RowsIn (expr_value in_place) (tree_tuples tables) order_key output_value query_rows (λ rel col ty a b. refl)

pub given_value : (rows : ℕ → List Row) (label : Relabelling) (expr : Expr) → value_given rows (relabelled label expr) ≡ value_given rows expr
given_value rows label = whole.same_expr label ValueIn Tuples SortKey ValueIn RowsIn (expr_value (given rows)) (tree_tuples no_tables) order_key output_value query_rows (λ rel col ty a b. refl)

pub tuples : (tables : ℕ → List Row) (label : Relabelling) (tree : JoinTree) → tuples_of tables (relabelled_tree label tree) ≡ tuples_of tables tree
tuples tables label = whole.same_tree label ValueIn Tuples SortKey ValueIn RowsIn (expr_value in_place) (tree_tuples tables) order_key output_value query_rows (λ rel col ty a b. refl)

pub rows : (tables : ℕ → List Row) (label : Relabelling) (query : Query) → meaning tables (relabelled_query label query) ≡ meaning tables query
rows tables label = whole.same_query label ValueIn Tuples SortKey ValueIn RowsIn (expr_value in_place) (tree_tuples tables) order_key output_value query_rows (λ rel col ty a b. refl)

pub alike_values : (tables : ℕ → List Row) (a b : Expr) → relabelled unlabelled a ≡ relabelled unlabelled b → value_of tables a ≡ value_of tables b
alike_values tables a b e = sym (value tables unlabelled a) ∙ ap (value_of tables) e ∙ value tables unlabelled b

pub alike_tuples : (tables : ℕ → List Row) (a b : JoinTree) → relabelled_tree unlabelled a ≡ relabelled_tree unlabelled b → tuples_of tables a ≡ tuples_of tables b
alike_tuples tables a b e = sym (tuples tables unlabelled a) ∙ ap (tuples_of tables) e ∙ tuples tables unlabelled b

pub alike_rows : (tables : ℕ → List Row) (a b : Query) → relabelled_query unlabelled a ≡ relabelled_query unlabelled b → meaning tables a ≡ meaning tables b
alike_rows tables a b e = sym (rows tables unlabelled a) ∙ ap (meaning tables) e ∙ rows tables unlabelled b

pub expr_references : (label : Relabelling) (expr : Expr) → refs_of (relabelled label expr) ≡ refs_of expr
expr_references label = whole.same_expr label ℕ ℕ ℕ ℕ ℕ expr_refs tree_refs order_refs output_refs query_refs (λ rel col ty a b. refl)

pub tree_references : (label : Relabelling) (tree : JoinTree) → refs_of_tree (relabelled_tree label tree) ≡ refs_of_tree tree
tree_references label = whole.same_tree label ℕ ℕ ℕ ℕ ℕ expr_refs tree_refs order_refs output_refs query_refs (λ rel col ty a b. refl)

pub query_references : (label : Relabelling) (query : Query) → refs_of_query (relabelled_query label query) ≡ refs_of_query query
query_references label = whole.same_query label ℕ ℕ ℕ ℕ ℕ expr_refs tree_refs order_refs output_refs query_refs (λ rel col ty a b. refl)
