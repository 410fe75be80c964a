-- Rows lent for the sublinks of a typed expression that are one bag with the rows of their queries fit.
use Rattle.std.proofs.Common.{◌≡◌, ◌∙◌, ap, sym, subst, refl, ℕ, Bool, true, List, [], ◌∷◌, ◌++◌, map, IsSome}
use Rattle.std.specs.Prelude.{All}
use Rattle.std.specs.List.Sorted.{IsPermutation}
use Rattle.std.proofs.lemmas.List.Sorted.{All-permutation, IsPermutation-sym}
use Rattle.jp_base.specs.declared.values.Ty.{Ty}
use Rattle.jp_query.specs.declared.Expr.{Expr}
use Rattle.jp_query.specs.declared.JoinTree.{JoinTree}
use Rattle.jp_query.specs.declared.Order.{Order}
use Rattle.jp_query.specs.declared.Output.{Output}
use Rattle.jp_query.specs.declared.Query.{Query, out-Query}
use Rattle.jp_query.specs.declared.Expr.TheOpen.{Expr-F}
use Rattle.jp_query.specs.declared.Expr.TheViews.{roll-Expr}
use Rattle.jp_query.specs.declared.Expr.TheFolds.{fold-JoinTree, fold-Order, fold-Output, fold-Query, map-Expr, ind-Expr, fold-roll-Expr, para-JoinTree, para-Order, para-Output, para-Query, para-roll-Expr, fold_out-Output, fold_out-Query}
use Rattle.jp_query.specs.Meaning.{Row, Env, meaning}
use Rattle.jp_query.specs.Outermost.{Outers, outers_in, Level, outer_here, expr_outers, outermost, IsGiven}
use Rattle.jp_query.specs.Parts.{all_in, option_part, parts, sublink_query, ColumnRef, node_column, columns_in}
use Rattle.jp_query.specs.Scopes.{Column, Schema, Entry, Scope, BoundIn, EntriesIn, ColumnIn, ColumnsIn, in_scope, expr_bound, tree_entries, order_bound, output_column, query_columns, entries_of, columns_of_query}
use Rattle.jp_query.specs.Tables.{TableRows, IsRowOf, Belong, rows_of_tables}
use Rattle.jp_query.specs.Typing.{Typed, TypedOutput, TypedQuery, expr_type, tree_typed, order_typed, output_typed, query_typed, type_of, tree_is_typed, typed_query, IsTypedExpr}
use Rattle.jp_query.specs.Conditions.{Tests, Judged, expr_judged, tree_judged, order_judged, output_judged, query_judged, judged_expr, judged_tree, judged_query, knows_columns, tells_relations_apart}
use Rattle.jp_query.specs.Fitting.{IsCellAt, InQuery, node_in, expr_own_ins, own_ins, own_columns, IsRowOfTypes, IsLent, FitsLent, FitsInPlace}
use Rattle.jp_laws.proofs.EachPart.{Each, each_of, all_of_each, each_left, each_right, each_append, each_weaker, each_in_all, each_in_parts, each_mapped, parts_map, sublink_map}
use Rattle.jp_laws.proofs.GatheredLaws.{parts_typed, IsTypedInner, typed_output, typed_order}
use Rattle.jp_laws.proofs.GatheredParts.{in_query, expr_has}
use Rattle.jp_laws.proofs.JudgedLaws.{expr_passes, judged_order_by, judged_output_by}
use Rattle.jp_laws.proofs.OwnColumns.{own_of_all}
use Rattle.jp_laws.proofs.RowsFit.{query_fits}

-- ---- the types of a query's rows

abbrev types_of_output : Output → Ty
types_of_output = fold-Output (List InQuery) (Unit {0}) (Unit {0}) Ty (List Ty) expr_own_ins (λ t. tt) (λ o. tt) (λ u. u.ty) (λ q. q.columns)

abbrev types_of_tree : JoinTree → Unit {0}
types_of_tree = fold-JoinTree (List InQuery) (Unit {0}) (Unit {0}) Ty (List Ty) expr_own_ins (λ t. tt) (λ o. tt) (λ u. u.ty) (λ q. q.columns)

abbrev types_of_order : Order → Unit {0}
types_of_order = fold-Order (List InQuery) (Unit {0}) (Unit {0}) Ty (List Ty) expr_own_ins (λ t. tt) (λ o. tt) (λ u. u.ty) (λ q. q.columns)

abbrev types_of : Query → List Ty
types_of = fold-Query (List InQuery) (Unit {0}) (Unit {0}) Ty (List Ty) expr_own_ins (λ t. tt) (λ o. tt) (λ u. u.ty) (λ q. q.columns)

typed_row : (columns : List Column) (row : Row) → IsRowOf columns row → IsRowOfTypes (map (λ (c : Column). c.type) columns) row
typed_row [] [] h = tt
typed_row [] (v ∷ row) h = absurd h
typed_row (c ∷ columns) [] h = absurd h
typed_row (c ∷ columns) (v ∷ row) h = (h.0.typed, typed_row columns row h.1)

module _ (schema : Schema) where
  abbrev column_of_output : Output → ColumnIn
  column_of_output = fold-Output BoundIn EntriesIn BoundIn ColumnIn ColumnsIn expr_bound (tree_entries schema) order_bound output_column query_columns

  output_type_same : (u : Output) (inner : Scope) → (column_of_output u inner).type ≡ types_of_output u
  output_type_same u inner = ap (λ (c : ColumnIn). (c inner).type) (fold_out-Output BoundIn EntriesIn BoundIn ColumnIn ColumnsIn expr_bound (tree_entries schema) order_bound output_column query_columns u)
      ∙ sym (fold_out-Output (List InQuery) (Unit {0}) (Unit {0}) Ty (List Ty) expr_own_ins (λ t. tt) (λ o. tt) (λ u. u.ty) (λ q. q.columns) u)

  outputs_types : (us : List Output) (inner : Scope) → map (λ (c : Column). c.type) (map (in_scope inner) (map column_of_output us)) ≡ map types_of_output us
  outputs_types [] inner = refl
  outputs_types (u ∷ us) inner = λ i. output_type_same u inner i ∷ outputs_types us inner i

  query_types : (q : Query) (scope : Scope) → map (λ (c : Column). c.type) (columns_of_query schema q scope) ≡ types_of q
  query_types q scope = ap (λ (cs : ColumnsIn). map (λ (c : Column). c.type) (cs scope)) (fold_out-Query BoundIn EntriesIn BoundIn ColumnIn ColumnsIn expr_bound (tree_entries schema) order_bound output_column query_columns q)
      ∙ outputs_types (out-Query q).columns (entries_of schema (out-Query q).tree scope ++ scope)
      ∙ sym (fold_out-Query (List InQuery) (Unit {0}) (Unit {0}) Ty (List Ty) expr_own_ins (λ t. tt) (λ o. tt) (λ u. u.ty) (λ q. q.columns) q)

-- ---- the outermost sublinks of the parts

abbrev beside : Expr → Expr × Outers
beside x = (x, outermost x)

abbrev beside_tree : JoinTree → JoinTree × Outers
beside_tree x = (x, para-JoinTree Outers Outers Outers Outers Outers expr_outers (λ t. []) (λ o. []) (λ u. []) (λ q. []) x)

abbrev beside_order : Order → Order × Outers
beside_order x = (x, para-Order Outers Outers Outers Outers Outers expr_outers (λ t. []) (λ o. []) (λ u. []) (λ q. []) x)

abbrev beside_output : Output → Output × Outers
beside_output x = (x, para-Output Outers Outers Outers Outers Outers expr_outers (λ t. []) (λ o. []) (λ u. []) (λ q. []) x)

abbrev beside_query : Query → Query × Outers
beside_query x = (x, para-Query Outers Outers Outers Outers Outers expr_outers (λ t. []) (λ o. []) (λ u. []) (λ q. []) x)

inner_outers : (xs : List Expr) → map outers_in (map beside xs) ≡ map outermost xs
inner_outers [] = refl
inner_outers (x ∷ xs) = ap (λ os. outermost x ∷ os) (inner_outers xs)

abbrev outer_level : Expr-F Expr JoinTree Order Output Query → Level
outer_level = map-Expr Expr JoinTree Order Output Query (Expr × Outers) (JoinTree × Outers) (Order × Outers) (Output × Outers) (Query × Outers) beside beside_tree beside_order beside_output beside_query

-- ---- the rows lent for each IN

module _ (schema : Schema) (data_tables : TableRows) (belong : Belong schema data_tables) (rows : ℕ → List Row) (scope : Scope) (env : Env) where
  abbrev tables : ℕ → List Row
  tables = rows_of_tables data_tables

  record Ready (x : Expr) : Type 0 where
    typed : IsSome (type_of x)
    knows : (judged_expr schema knows_columns x).passes scope ≡ true
    apart : (judged_expr schema tells_relations_apart x).passes scope ≡ true
    cells : Each (IsCellAt scope env) (columns_in x)
    given : Each (IsGiven tables rows env) (outermost x)

  ready : (xs : List Expr) → Each (λ x. IsSome (type_of x)) xs → Each (λ x. (judged_expr schema knows_columns x).passes scope ≡ true) xs → Each (λ x. (judged_expr schema tells_relations_apart x).passes scope ≡ true) xs
      → Each (λ x. Each (IsCellAt scope env) (columns_in x)) xs → Each (λ x. Each (IsGiven tables rows env) (outermost x)) xs → Each Ready xs
  ready [] a b c d e = tt
  ready (x ∷ xs) a b c d e = (record { typed = a.0; knows = b.0; apart = c.0; cells = d.0; given = e.0 }, ready xs a.1 b.1 c.1 d.1 e.1)

  abbrev typed_level : Expr-F Expr JoinTree Order Output Query → Expr-F Typed Bool Typed TypedOutput TypedQuery
  typed_level = map-Expr Expr JoinTree Order Output Query Typed Bool Typed TypedOutput TypedQuery type_of tree_is_typed typed_order typed_output typed_query

  abbrev judged_level : Tests → Expr-F Expr JoinTree Order Output Query → Expr-F (Judged ℕ) (Judged (List Entry)) (Judged ℕ) (Judged Column) (Judged (List Column))
  judged_level tests = map-Expr Expr JoinTree Order Output Query (Judged ℕ) (Judged (List Entry)) (Judged ℕ) (Judged Column) (Judged (List Column)) (judged_expr schema tests) (judged_tree schema tests) (judged_order_by schema tests) (judged_output_by schema tests) (judged_query schema tests)

  abbrev ins_level : Expr-F Expr JoinTree Order Output Query → Expr-F (List InQuery) (Unit {0}) (Unit {0}) Ty (List Ty)
  ins_level = map-Expr Expr JoinTree Order Output Query (List InQuery) (Unit {0}) (Unit {0}) Ty (List Ty) own_ins types_of_tree types_of_order types_of_output types_of

  lent_rows : (sub : ℕ) (q : Query) → IsPermutation (rows sub) (meaning tables q env) → (typed_query q).is_typed ≡ true → (judged_query schema knows_columns q).passes scope ≡ true → (judged_query schema tells_relations_apart q).passes scope ≡ true → Each (IsCellAt scope env) (in_query ColumnRef node_column q)
      → IsLent rows (record { number = sub; outputs = types_of q })
  lent_rows sub q bag typed knows apart cells =
      let fit = query_fits schema data_tables belong q scope env typed knows apart cells in
      let of_types = subst (λ ts. Each (IsRowOfTypes ts) (meaning tables q env)) (query_types schema q scope) (each_weaker (IsRowOf (columns_of_query schema q scope)) (IsRowOfTypes (map (λ (c : Column). c.type) (columns_of_query schema q scope))) (typed_row (columns_of_query schema q scope)) (meaning tables q env) fit) in
      All-permutation (IsRowOfTypes (types_of q)) (meaning tables q env) (rows sub) (IsPermutation-sym (rows sub) (meaning tables q env) bag) (all_of_each (IsRowOfTypes (types_of q)) (meaning tables q env) of_types)

  node_lent : (x : Expr-F Expr JoinTree Order Output Query) → Each (IsGiven tables rows env) (outer_here (outer_level x)) → Each (λ (q : Query). (typed_query q).is_typed ≡ true) (option_part (sublink_query x)) → Each (λ q. (judged_query schema knows_columns q).passes scope ≡ true) (option_part (sublink_query x))
      → Each (λ q. (judged_query schema tells_relations_apart q).passes scope ≡ true) (option_part (sublink_query x)) → Each (λ q. Each (IsCellAt scope env) (in_query ColumnRef node_column q)) (option_part (sublink_query x)) → Each (IsLent rows) (node_in (ins_level x))
  node_lent (Expr-F.InSub sub operand query) g a b c d = (lent_rows sub query g.0 a.0 b.0 c.0 d.0, tt)
  node_lent x g a b c d = tt

  at_level : (x : Expr-F Expr JoinTree Order Output Query) → Ready (roll-Expr x) → Each (IsLent rows) (node_in (ins_level x)) × Each Ready (parts x)
  at_level x h =
      let typed = parts_typed (typed_level x) (subst IsSome (fold-roll-Expr Typed Bool Typed TypedOutput TypedQuery expr_type tree_typed order_typed output_typed query_typed x) h.typed) in
      let knows = expr_passes schema knows_columns scope (judged_level knows_columns x) (subst (λ (j : Judged ℕ). j.passes scope ≡ true) (fold-roll-Expr (Judged ℕ) (Judged (List Entry)) (Judged ℕ) (Judged Column) (Judged (List Column)) (expr_judged schema knows_columns) (tree_judged schema knows_columns) (order_judged schema knows_columns) (output_judged schema knows_columns) (query_judged schema knows_columns) x) h.knows) in
      let apart = expr_passes schema tells_relations_apart scope (judged_level tells_relations_apart x) (subst (λ (j : Judged ℕ). j.passes scope ≡ true) (fold-roll-Expr (Judged ℕ) (Judged (List Entry)) (Judged ℕ) (Judged Column) (Judged (List Column)) (expr_judged schema tells_relations_apart) (tree_judged schema tells_relations_apart) (order_judged schema tells_relations_apart) (output_judged schema tells_relations_apart) (query_judged schema tells_relations_apart) x) h.apart) in
      let cells = expr_has ColumnRef node_column (IsCellAt scope env) x h.cells in
      let given = subst (Each (IsGiven tables rows env)) (para-roll-Expr Outers Outers Outers Outers Outers expr_outers (λ t. []) (λ o. []) (λ u. []) (λ q. []) x) h.given in
      let inner = each_in_all (IsGiven tables rows env) (map outers_in (parts (outer_level x))) (each_right (IsGiven tables rows env) (outer_here (outer_level x)) (all_in (map outers_in (parts (outer_level x)))) given) in
      let of_parts = each_mapped (Each (IsGiven tables rows env)) outermost (parts x) (subst (Each (Each (IsGiven tables rows env))) (ap (map outers_in) (parts_map beside beside_tree beside_order beside_output beside_query x) ∙ inner_outers (parts x)) inner) in (
        node_lent x (each_left (IsGiven tables rows env) (outer_here (outer_level x)) (all_in (map outers_in (parts (outer_level x)))) given)
            (each_mapped IsTypedInner typed_query (option_part (sublink_query x)) (subst (Each IsTypedInner) (sublink_map type_of tree_is_typed typed_order typed_output typed_query x) typed.1))
            (each_mapped (λ (j : Judged (List Column)). j.passes scope ≡ true) (judged_query schema knows_columns) (option_part (sublink_query x)) (subst (Each (λ (j : Judged (List Column)). j.passes scope ≡ true)) (sublink_map (judged_expr schema knows_columns) (judged_tree schema knows_columns) (judged_order_by schema knows_columns) (judged_output_by schema knows_columns) (judged_query schema knows_columns) x) knows.sublinks))
            (each_mapped (λ (j : Judged (List Column)). j.passes scope ≡ true) (judged_query schema tells_relations_apart) (option_part (sublink_query x)) (subst (Each (λ (j : Judged (List Column)). j.passes scope ≡ true)) (sublink_map (judged_expr schema tells_relations_apart) (judged_tree schema tells_relations_apart) (judged_order_by schema tells_relations_apart) (judged_output_by schema tells_relations_apart) (judged_query schema tells_relations_apart) x) apart.sublinks))
            cells.query,
        ready (parts x)
            (each_mapped IsSome type_of (parts x) (subst (Each IsSome) (parts_map type_of tree_is_typed typed_order typed_output typed_query x) typed.0))
            (each_mapped (λ (j : Judged ℕ). j.passes scope ≡ true) (judged_expr schema knows_columns) (parts x) (subst (Each (λ (j : Judged ℕ). j.passes scope ≡ true)) (parts_map (judged_expr schema knows_columns) (judged_tree schema knows_columns) (judged_order_by schema knows_columns) (judged_output_by schema knows_columns) (judged_query schema knows_columns) x) knows.parts))
            (each_mapped (λ (j : Judged ℕ). j.passes scope ≡ true) (judged_expr schema tells_relations_apart) (parts x) (subst (Each (λ (j : Judged ℕ). j.passes scope ≡ true)) (parts_map (judged_expr schema tells_relations_apart) (judged_tree schema tells_relations_apart) (judged_order_by schema tells_relations_apart) (judged_output_by schema tells_relations_apart) (judged_query schema tells_relations_apart) x) apart.parts))
            cells.exprs of_parts,
      )

  -- ---- the induction

  abbrev Good : Expr → Type 0
  Good x = Ready x → Each (IsLent rows) (own_ins x)

  abbrev E : Type 0
  E = (x : Expr) × Good x

  abbrev Node : Type 0
  Node = Expr-F E (JoinTree × Unit {0}) (Order × Unit {0}) (Output × Unit {0}) (Query × Unit {0})

  abbrev bare : Node → Expr-F Expr JoinTree Order Output Query
  bare = map-Expr E (JoinTree × Unit {0}) (Order × Unit {0}) (Output × Unit {0}) (Query × Unit {0}) Expr JoinTree Order Output Query (λ y. y.0) (λ y. y.0) (λ y. y.0) (λ y. y.0) (λ y. y.0)

  children : (ys : List E) → Each Ready (map (λ (y : E). y.0) ys) → Each (Each (IsLent rows)) (map own_ins (map (λ (y : E). y.0) ys))
  children [] h = tt
  children (y ∷ ys) h = (y.1 h.0, children ys h.1)

  step : (y : Node) → Good (roll-Expr (bare y))
  step y h =
      let x = bare y in
      let here = at_level x h in
      let at_parts : parts x ≡ map (λ (z : E). z.0) (parts y) = parts_map (λ (z : E). z.0) (λ z. z.0) (λ z. z.0) (λ z. z.0) (λ z. z.0) y in
      let inner = subst (Each (Each (IsLent rows))) (sym (parts_map own_ins types_of_tree types_of_order types_of_output types_of x ∙ ap (map own_ins) at_parts)) (children (parts y) (subst (Each Ready) at_parts here.1)) in
      subst (Each (IsLent rows)) (sym (fold-roll-Expr (List InQuery) (Unit {0}) (Unit {0}) Ty (List Ty) expr_own_ins (λ t. tt) (λ o. tt) (λ u. u.ty) (λ q. q.columns) x))
      (each_append (IsLent rows) (node_in (ins_level x)) (all_in (parts (ins_level x))) here.0 (each_in_parts (IsLent rows) (parts (ins_level x)) inner))

  ins_fit : (x : Expr) → Good x
  ins_fit = ind-Expr Good (λ t. Unit {0}) (λ o. Unit {0}) (λ u. Unit {0}) (λ q. Unit {0})
      (λ x y e. subst (λ z. Good (roll-Expr z)) e (step y))
      (λ x y e. tt) (λ x y e. tt) (λ x y e. tt) (λ x y e. tt)

  -- the same, from the facts one by one
  pub lent_fit : (x : Expr) → IsSome (type_of x) → (judged_expr schema knows_columns x).passes scope ≡ true → (judged_expr schema tells_relations_apart x).passes scope ≡ true → Each (IsCellAt scope env) (columns_in x) → Each (IsGiven tables rows env) (outermost x) → Each (IsLent rows) (own_ins x)
  lent_fit x a b c d e = ins_fit x (record { typed = a; knows = b; apart = c; cells = d; given = e })

pub in_place_gives_lent : (schema : Schema) (data_tables : TableRows) (scope : Scope) (rows : ℕ → List Row) (expr : Expr) (env : Env)
    → IsTypedExpr expr → (judged_expr schema knows_columns expr).passes scope ≡ true → (judged_expr schema tells_relations_apart expr).passes scope ≡ true
    → FitsInPlace schema data_tables scope expr env → All (IsGiven (rows_of_tables data_tables) rows env) (outermost expr) → FitsLent scope rows expr env
in_place_gives_lent schema data_tables scope rows expr env typed knows apart fits given =
    let cells = each_of (IsCellAt scope env) (columns_in expr) fits.cells in
    record {
      cells = all_of_each (IsCellAt scope env) (own_columns expr) (own_of_all (IsCellAt scope env) expr cells);
      lent = all_of_each (IsLent rows) (own_ins expr) (lent_fit schema data_tables fits.belong rows scope env expr typed knows apart cells (each_of (IsGiven (rows_of_tables data_tables) rows env) (outermost expr) given));
    }
