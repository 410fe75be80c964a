-- A folded tree means what it meant, in every environment that fits it.
use Rattle.std.proofs.Common.{◌≡◌, ◌∙◌, ap, sym, subst, refl, ℕ, Bool, true, false, ◌&&◌, List, [], ◌∷◌, ◌++◌, map, filter, fold, Option, Some, None, IsSome}
use Rattle.std.specs.List.{list_all}
use Rattle.std.proofs.lemmas.List.{append-nil}
use Rattle.std.proofs.lemmas.Nat.{or_comm}
use Rattle.jp_base.specs.declared.truth.Truth.{Truth}
use Rattle.jp_base.specs.declared.truth.Truth.TheVariants.{True}
use Rattle.jp_base.specs.declared.values.Value.{Value}
use Rattle.jp_query.specs.declared.JoinKind.{JoinKind}
use Rattle.jp_query.specs.declared.JoinKind.TheVariants as join
use Rattle.jp_query.specs.declared.Expr.{Expr}
use Rattle.jp_query.specs.declared.JoinTree.{JoinTree}
use Rattle.jp_query.specs.declared.Order.{Order, out-Order}
use Rattle.jp_query.specs.declared.Output.{Output}
use Rattle.jp_query.specs.declared.Query.{Query}
use Rattle.jp_query.specs.declared.Expr.TheOpen.{Expr-F, JoinTree-F, Query-F}
use Rattle.jp_query.specs.declared.Expr.TheViews.{roll-Expr, roll-JoinTree, roll-Order, roll-Output, roll-Query}
use Rattle.jp_query.specs.declared.Expr.TheFolds.{map-Expr, fold-roll-Expr, fold-roll-JoinTree, fold-roll-Order, fold-roll-Output, fold-roll-Query, fold_out-Order}
use Rattle.jp_query.specs.Joins.{join_rels}
use Rattle.jp_query.specs.Refs.{union}
use Rattle.jp_query.specs.Layers.{ExprLayer, JoinTreeLayer, OrderLayer, OutputLayer, QueryLayer}
use Rattle.jp_query.specs.Operators.{truth_of_value, is_true, all_of, among}
use Rattle.jp_query.specs.Meaning.{Row, Env, ValueIn, Tuples, SortKey, RowsIn, in_place, value_at, key_at, line_at, direction, first_of, is_row, holds, with_row, with_rows, join_tuples, with_member, combined, rels_in, outputs_of, distinct_lines, sorted, expr_value, tree_tuples, order_key, output_value, query_rows, value_of, tuples_of, meaning}
use Rattle.jp_query.specs.Parts.{option_part, parts, sublink_query, trees, conditions, leaf_query, ColumnRef, node_column, columns_in}
use Rattle.jp_query.specs.Scopes.{Column, Schema, Entry, Scope, entries_of}
use Rattle.jp_query.specs.Tables.{TableRows, Belong, rows_of_tables}
use Rattle.jp_query.specs.Typing.{expr_type, type_of, tree_is_typed, typed_query}
use Rattle.jp_query.specs.Conditions.{relation_of, are_distinct}
use Rattle.jp_query.specs.Fitting.{IsCellAt, own_columns}
use Rattle.jp_induction.proofs.Between.{OwnSame, value_same}
use Rattle.jp_induction.proofs.HandedDown.{StepsUnder, under_expr, under_tree, under_query}
use Rattle.jp_induction.proofs.Levels.{expr_twice}
use Rattle.jp_induction.proofs.Meanings.{key_of, output_of, expr_level, tree_level, query_level, at_expr, at_tree, at_order, at_output, at_query}
use Rattle.jp_laws.proofs.ConjunctLaws.{all_from}
use Rattle.jp_laws.proofs.EachPart.{Each, each_both, each_weaker, parts_map}
use Rattle.jp_laws.proofs.GatheredLaws.{typed_order, typed_output}
use Rattle.jp_laws.proofs.GatheredParts.{in_tree, in_query, in_order, in_output, expr_has, tree_has, query_has, order_has, output_has}
use Rattle.jp_laws.proofs.JudgedLaws.{own_seen, sound}
use Rattle.jp_laws.proofs.OwnColumns.{own_of_all}
use Rattle.jp_laws.proofs.RowsFit.{tree_fits}
use Rattle.jp_laws.proofs.TuplesFit.{Fit, AreRels, Disjoint, Members, none, more, both_fit, swapped, members_fit, nothing_fits, each_filter, joined_entries, apart_from, distinct_start, inner_cell}
use Rattle.jp_laws.proofs.ValuesFit.{IsSound}
use Rattle.jp_folding.specs.Folding as fold
use Rattle.jp_folding.proofs.FineDown.{entries_in, entries_beside, FineExpr, FineTree, FineOrder, FineOutput, FineQuery, inside, above, told_apart, fine_down}
use Rattle.jp_folding.proofs.LevelValues.{val, truth, level_kept, and_members_same, and_truth}
use Rattle.jp_folding.proofs.ListsKept.{filter_same, map_same, each_by, each_at_map, SameMember, join_same, members_same, members_rels}
use Rattle.jp_folding.proofs.OwnKept.{Have, own_kept}
use Rattle.jp_folding.proofs.TypedDown.{typed_down}
use Rattle.jp_folding.proofs.TypeLaws.{typed_level, type_at, expr_type_kept, query_type_kept, folded_order, folded_output, expr_parts_folded, tree_parts_folded, query_parts_folded}

pub always : {X : Type 0} (P : X → Type 0) → ((x : X) → P x) → (xs : List X) → Each P xs
always P w [] = tt
always P w (x ∷ xs) = (w x, always P w xs)

map_map : {A B C : Type 0} (g : B → C) (f : A → B) (xs : List A) → map g (map f xs) ≡ map (λ x. g (f x)) xs
map_map g f [] = refl
map_map g f (x ∷ xs) = ap (λ ys. g (f x) ∷ ys) (map_map g f xs)

abbrev fold_members : Env → List Tuples → List Env
fold_members env members = fold (with_member env) (env ∷ []) members

-- ---- the types of a level with folded parts

pub types_same : (x : ExprLayer) → IsSome (type_of (roll-Expr x)) → typed_level (expr_parts_folded x) ≡ typed_level x
types_same x typed =
    let d = typed_down.expr tt x typed in
    expr_twice type_of tree_is_typed typed_order typed_output typed_query fold.folded_expr fold.folded_tree folded_order folded_output fold.folded type_of tree_is_typed typed_order typed_output typed_query x
    (each_by (λ e. IsSome (type_of e)) (λ e. type_of (fold.folded_expr e) ≡ type_of e) expr_type_kept (parts x) d.0)
    (each_by (λ q. (typed_query q).is_typed ≡ true) (λ q. typed_query (fold.folded q) ≡ typed_query q) query_type_kept (option_part (sublink_query x)) d.1)

-- ---- conditions

module _ (tables : ℕ → List Row) where
  holds_of : (env : Env) (es : List Expr) → holds (map (value_of tables) es) env ≡ list_all is_true (map (truth tables env) es)
  holds_of env [] = refl
  holds_of env (e ∷ es) = ap (λ b. is_true (truth tables env e) && b) (holds_of env es)

  -- a folded list of conditions holds where the list does
  conditions_hold : (env : Env) (es : List Expr) → holds (map (value_of tables) (fold.conditions_folded es)) env ≡ holds (map (value_of tables) es) env
  conditions_hold env es =
      holds_of env (fold.conditions_folded es)
      ∙ sym (all_from True (map (truth tables env) (fold.conditions_folded es)))
      ∙ ap is_true (and_members_same tables env (fold.expr_folded (Expr-F.And es)) ∙ and_truth tables env es)
      ∙ all_from True (map (truth tables env) es)
      ∙ sym (holds_of env es)

  holds_same : (env : Env) (f : Expr → Expr) (es : List Expr) → Each (λ e. value_of tables (f e) env ≡ value_of tables e env) es → holds (map (value_of tables) (map f es)) env ≡ holds (map (value_of tables) es) env
  holds_same env f [] h = refl
  holds_same env f (e ∷ es) h = λ i. is_true (truth_of_value (h.0 i)) && holds_same env f es h.1 i

-- ---- the claims

module _ (schema : Schema) (data_tables : TableRows) (belong : Belong schema data_tables) where
  abbrev tables : ℕ → List Row
  tables = rows_of_tables data_tables

  abbrev ExprMeans : Scope → Expr → Type 0
  ExprMeans s x = (env : Env) → Each (IsCellAt s env) (columns_in x) → value_of tables (fold.folded_expr x) env ≡ value_of tables x env

  abbrev TreeMeans : Scope → JoinTree → Type 0
  TreeMeans s x = (env : Env) → Each (IsCellAt s env) (in_tree ColumnRef node_column x) → SameMember env (tuples_of tables (fold.folded_tree x)) (tuples_of tables x)

  abbrev OrderMeans : Scope → Order → Type 0
  OrderMeans s x = (env : Env) → Each (IsCellAt s env) (in_order ColumnRef node_column x) → (key_of tables (folded_order x)).key env ≡ (key_of tables x).key env

  abbrev OutputMeans : Scope → Output → Type 0
  OutputMeans s x = (env : Env) → Each (IsCellAt s env) (in_output ColumnRef node_column x) → output_of tables (folded_output x) env ≡ output_of tables x env

  abbrev QueryMeans : Scope → Query → Type 0
  QueryMeans s x = (env : Env) → Each (IsCellAt s env) (in_query ColumnRef node_column x) → meaning tables (fold.folded x) env ≡ meaning tables x env

  -- a claim at each of a list, in an environment in which the cells fit
  at_env : {A : Type 0} (f : A → List ColumnRef) (P : Env → A → Type 0) (s : Scope) (env : Env) (xs : List A) → Each (λ x. (e : Env) → Each (IsCellAt s e) (f x) → P e x) xs → Each (λ x. Each (IsCellAt s env) (f x)) xs → Each (P env) xs
  at_env f P s env [] h cells = tt
  at_env f P s env (x ∷ xs) h cells = (h.0 env cells.0, at_env f P s env xs h.1 cells.1)

  -- cells that fit outside fit above a tree
  cells_above : {A : Type 0} (f : A → List ColumnRef) (entries : List Entry) (s : Scope) (env tuple : Env) → Fit entries env tuple → (xs : List A) → Each (λ x. Each (IsCellAt s env) (f x)) xs → Each (λ x. Each (IsCellAt (entries ++ s) tuple) (f x)) xs
  cells_above f entries s env tuple fit = each_by (λ x. Each (IsCellAt s env) (f x)) (λ x. Each (IsCellAt (entries ++ s) tuple) (f x)) (λ x. each_weaker (IsCellAt s env) (IsCellAt (entries ++ s) tuple) (inner_cell entries s env tuple fit) (f x))

  -- ---- expressions

  module _ (s : Scope) (env : Env) where
    sound_part : (e : Expr) → FineExpr schema s e → Each (IsCellAt s env) (columns_in e) → Have (IsSound s env) (fold.folded_expr e)
    sound_part e fine cells = own_kept (IsSound s env) e (sound s env (own_columns e) (own_seen schema s e fine.knows) (own_of_all (IsCellAt s env) e cells))

    sound_parts : (es : List Expr) → Each (FineExpr schema s) es → Each (λ e. Each (IsCellAt s env) (columns_in e)) es → Each (Have (IsSound s env)) (map fold.folded_expr es)
    sound_parts [] fine cells = tt
    sound_parts (e ∷ es) fine cells = (sound_part e fine.0 cells.0, sound_parts es fine.1 cells.1)

    abbrev OwnAlike : ExprLayer → Type 0
    OwnAlike = OwnSame (λ e. value_of tables (fold.folded_expr e)) (value_of tables) (λ t. tuples_of tables (fold.folded_tree t)) (tuples_of tables) (λ o. key_of tables (folded_order o)) (key_of tables)
        (λ u. output_of tables (folded_output u)) (output_of tables) (λ q. meaning tables (fold.folded q)) (meaning tables) in_place in_place env env

    own_alike : (x : ExprLayer) → Each (λ q. meaning tables (fold.folded q) env ≡ meaning tables q env) (option_part (sublink_query x)) → OwnAlike x
    own_alike (Expr-F.Col rel col t nulled) h = refl
    own_alike (Expr-F.Place inner rels) h = refl
    own_alike (Expr-F.Exists sub query) h = ap is_row h.0
    own_alike (Expr-F.InSub sub operand query) h = λ w. ap (λ rs. among w (map first_of rs)) h.0
    own_alike x h = tt

    expr_step : (x : ExprLayer) → FineExpr schema s (roll-Expr x) → Each (ExprMeans s) (parts x) → Each (QueryMeans s) (option_part (sublink_query x)) → Each (IsCellAt s env) (columns_in (roll-Expr x)) → value_of tables (fold.folded_expr (roll-Expr x)) env ≡ value_of tables (roll-Expr x) env
    expr_step x c ps subs cells =
        let has = expr_has ColumnRef node_column (IsCellAt s env) x cells in
        let fine = (fine_down schema).expr s x c in
        let y = expr_parts_folded x in
        let typed = subst IsSome (type_at x ∙ sym (ap expr_type (types_same x c.typed))) c.typed in
        let sounds = subst (Each (Have (IsSound s env))) (sym (parts_map fold.folded_expr fold.folded_tree folded_order folded_output fold.folded x)) (sound_parts (parts x) fine.0 has.exprs) in
        let values = at_env columns_in (λ e p. value_of tables (fold.folded_expr p) e ≡ value_of tables p e) s env (parts x) ps has.exprs in
        let rows = at_env (in_query ColumnRef node_column) (λ e q. meaning tables (fold.folded q) e ≡ meaning tables q e) s env (option_part (sublink_query x)) subs has.query in
        let once = expr_twice (value_of tables) (tuples_of tables) (key_of tables) (output_of tables) (meaning tables) fold.folded_expr fold.folded_tree folded_order folded_output fold.folded
        (λ e. value_of tables (fold.folded_expr e)) (λ t. tuples_of tables (fold.folded_tree t)) (λ o. key_of tables (folded_order o)) (λ u. output_of tables (folded_output u)) (λ q. meaning tables (fold.folded q)) x
        (always (λ e. value_of tables (fold.folded_expr e) ≡ value_of tables (fold.folded_expr e)) (λ e. refl) (parts x)) (always (λ q. meaning tables (fold.folded q) ≡ meaning tables (fold.folded q)) (λ q. refl) (option_part (sublink_query x))) in
        ap (λ e. value_of tables e env) (fold-roll-Expr Expr JoinTree Order Output Query fold.expr_folded fold.tree_folded roll-Order roll-Output fold.query_folded x)
        ∙ level_kept tables env s y typed sounds
        ∙ ap (λ l. expr_value in_place l env) once
        ∙ value_same (λ e. value_of tables (fold.folded_expr e)) (value_of tables) (λ t. tuples_of tables (fold.folded_tree t)) (tuples_of tables) (λ o. key_of tables (folded_order o)) (key_of tables)
        (λ u. output_of tables (folded_output u)) (output_of tables) (λ q. meaning tables (fold.folded q)) (meaning tables) in_place in_place env env x values (own_alike x rows)
        ∙ sym (ap (λ (v : ValueIn). v env) (at_expr tables x))

  -- ---- trees

  module _ (s : Scope) (env : Env) where
    abbrev TreeSame : JoinTree → Type 0
    TreeSame t = SameMember env (tuples_of tables (fold.folded_tree t)) (tuples_of tables t)

    -- the tuples of a tree fit, and its relations are those of its entries
    fits_of : (t : JoinTree) → FineTree schema s t → Each (IsCellAt s env) (in_tree ColumnRef node_column t) → Each (Fit (entries_in schema s t) env) ((tuples_of tables t).tuples env)
    fits_of t fine cells = (tree_fits schema data_tables belong t).1 s env fine.typed fine.knows fine.apart cells

    are_of : (t : JoinTree) → AreRels (tuples_of tables t).rels (entries_in schema s t)
    are_of t = (tree_fits schema data_tables belong t).0 s

    members_of : (ts : List JoinTree) → Each (FineTree schema s) ts → Each (λ t. Each (IsCellAt s env) (in_tree ColumnRef node_column t)) ts → Members env (map (tuples_of tables) ts) (map (entries_in schema s) ts)
    members_of [] fine cells = none
    members_of (t ∷ ts) fine cells = more (are_of t) (fits_of t fine.0 cells.0) (members_of ts fine.1 cells.1)

    -- a folded list of conditions above the tuples that fit
    conditions_at : (entries : List Entry) (on : List Expr) → Each (ExprMeans (entries ++ s)) on → Each (λ c. Each (IsCellAt s env) (columns_in c)) on → (tuple : Env) → Fit entries env tuple
        → holds (map (value_of tables) (fold.conditions_folded (map fold.folded_expr on))) tuple ≡ holds (map (value_of tables) on) tuple
    conditions_at entries on means cells tuple fit = conditions_hold tables tuple (map fold.folded_expr on)
        ∙ holds_same tables tuple fold.folded_expr on (at_env columns_in (λ e p. value_of tables (fold.folded_expr p) e ≡ value_of tables p e) (entries ++ s) tuple on means (cells_above columns_in entries s env tuple fit on cells))

    abbrev rels_of : JoinTree → ℕ
    rels_of t = (tuples_of tables t).rels

    abbrev list_of : JoinTree → List Env
    list_of t = (tuples_of tables t).tuples env

    join_kept : (kind : JoinKind) (left right : JoinTree) (on : List Expr) → are_distinct (map relation_of (entries_beside schema s (left ∷ right ∷ []) ++ s)) ≡ true → FineTree schema s left → FineTree schema s right → TreeSame left → TreeSame right
        → Each (ExprMeans (entries_beside schema s (left ∷ right ∷ []) ++ s)) on → Each (IsCellAt s env) (in_tree ColumnRef node_column left) → Each (IsCellAt s env) (in_tree ColumnRef node_column right) → Each (λ c. Each (IsCellAt s env) (columns_in c)) on
        → join_tuples kind (map (value_of tables) (fold.conditions_folded (map fold.folded_expr on))) (rels_of (fold.folded_tree left)) (list_of (fold.folded_tree left)) (rels_of (fold.folded_tree right)) (list_of (fold.folded_tree right))
        ≡ join_tuples kind (map (value_of tables) on) (rels_of left) (list_of left) (rels_of right) (list_of right)
    join_kept kind left right on distinct fine_left fine_right same_left same_right means cells_left cells_right cells_on =
        let on' = map (value_of tables) (fold.conditions_folded (map fold.folded_expr on)) in
        let l = entries_in schema s left in
        let r = entries_in schema s right in
        let apart : Disjoint l r = apart_from l r (subst (λ es. are_distinct (map relation_of (l ++ es)) ≡ true) (append-nil r) (distinct_start (l ++ (r ++ [])) s distinct)) in
        let beside : l ++ r ≡ l ++ (r ++ []) = ap (λ es. l ++ es) (sym (append-nil r)) in
        (λ i. join_tuples kind on' (same_left.0 i) (same_left.1 i) (same_right.0 i) (same_right.1 i))
        ∙ join_same kind on' (map (value_of tables) on) (rels_of left) (rels_of right) (Fit l env) (Fit r env)
        (λ x u p q. conditions_at (l ++ (r ++ [])) on means cells_on (with_rows (rels_of right) x u) (subst (λ es. Fit es env (with_rows (rels_of right) x u)) beside (both_fit l r (rels_of right) (are_of right) apart env x u p q)))
        (λ u x q p. conditions_at (l ++ (r ++ [])) on means cells_on (with_rows (rels_of left) u x)
        (subst (λ es. Fit es env (with_rows (rels_of left) u x)) beside (swapped r l env (with_rows (rels_of left) u x) (both_fit r l (rels_of left) (are_of left) (λ n a b. apart n b a) env u x q p))))
        (list_of left) (list_of right) (fits_of left fine_left cells_left) (fits_of right fine_right cells_right)

    from_kept : (members : List JoinTree) (conds : List Expr) → are_distinct (map relation_of (entries_beside schema s members ++ s)) ≡ true → Each (FineTree schema s) members → Each TreeSame members
        → Each (ExprMeans (entries_beside schema s members ++ s)) conds → Each (λ t. Each (IsCellAt s env) (in_tree ColumnRef node_column t)) members → Each (λ c. Each (IsCellAt s env) (columns_in c)) conds
        → filter (holds (map (value_of tables) (fold.conditions_folded (map fold.folded_expr conds)))) (combined (map (tuples_of tables) (map fold.folded_tree members)) env) ≡ filter (holds (map (value_of tables) conds)) (combined (map (tuples_of tables) members) env)
    from_kept members conds distinct fine same means cells cells_on =
        let on' = holds (map (value_of tables) (fold.conditions_folded (map fold.folded_expr conds))) in
        let all = entries_beside schema s members in
        let tuples = members_fit (members_of members fine cells) [] (distinct_start all s distinct) (env ∷ []) (nothing_fits env, tt) in
        ap (filter on') (ap (λ ms. fold_members env ms) (map_map (tuples_of tables) fold.folded_tree members) ∙ members_same (λ t. tuples_of tables (fold.folded_tree t)) (tuples_of tables) env members same (env ∷ []))
        ∙ filter_same on' (holds (map (value_of tables) conds)) (combined (map (tuples_of tables) members) env)
        (each_by (Fit all env) (λ e. on' e ≡ holds (map (value_of tables) conds) e) (conditions_at all conds means cells_on) (combined (map (tuples_of tables) members) env) tuples)

    moved : (a a' b b' : Tuples) → a ≡ a' → b ≡ b' → SameMember env a' b' → SameMember env a b
    moved a a' b b' p q same = subst (λ (t : Tuples). SameMember env t b) (sym p) (subst (λ (t : Tuples). SameMember env a' t) (sym q) same)

    abbrev RowsSame : Query → Type 0
    RowsSame q = meaning tables (fold.folded q) env ≡ meaning tables q env

    abbrev Cells : {A : Type 0} → (A → List ColumnRef) → A → Type 0
    Cells f x = Each (IsCellAt s env) (f x)

    -- what each form of tree is known by
    record TreeFacts (x : JoinTreeLayer) : Type 0 where
      distinct : are_distinct (map relation_of (entries_beside schema s (trees x) ++ s)) ≡ true
      fine : Each (FineTree schema s) (trees x)
      sides : Each TreeSame (trees x)
      conds : Each (ExprMeans (entries_beside schema s (trees x) ++ s)) (conditions x)
      rows : Each RowsSame (option_part (leaf_query x))
      side_cells : Each (Cells (in_tree ColumnRef node_column)) (trees x)
      cond_cells : Each (Cells columns_in) (conditions x)

    tuples_joined : (kind : JoinKind) (left right : JoinTree) (on : List Expr) → TreeFacts (JoinTree-F.Join kind left right on)
        → join_tuples kind (map (value_of tables) (fold.conditions_folded (map fold.folded_expr on))) (rels_of (fold.folded_tree left)) (list_of (fold.folded_tree left)) (rels_of (fold.folded_tree right)) (list_of (fold.folded_tree right))
        ≡ join_tuples kind (map (value_of tables) on) (rels_of left) (list_of left) (rels_of right) (list_of right)
    tuples_joined kind left right on f = join_kept kind left right on f.distinct f.fine.0 f.fine.1.0 f.sides.0 f.sides.1.0 f.conds f.side_cells.0 f.side_cells.1.0 f.cond_cells

    plain_join : (kind : JoinKind) (left right : JoinTree) (on : List Expr) → TreeFacts (JoinTree-F.Join kind left right on)
        → SameMember env (tuples_of tables (roll-JoinTree (JoinTree-F.Join kind (fold.folded_tree left) (fold.folded_tree right) (fold.conditions_folded (map fold.folded_expr on))))) (tuples_of tables (roll-JoinTree (JoinTree-F.Join kind left right on)))
    plain_join kind left right on f =
        let x' = JoinTree-F.Join kind (fold.folded_tree left) (fold.folded_tree right) (fold.conditions_folded (map fold.folded_expr on)) in
        let x = JoinTree-F.Join kind left right on in
        moved (tuples_of tables (roll-JoinTree x')) (tree_tuples tables (tree_level tables x')) (tuples_of tables (roll-JoinTree x)) (tree_tuples tables (tree_level tables x)) (at_tree tables x') (at_tree tables x)
        ((λ i. join_rels kind (f.sides.0.0 i) (f.sides.1.0.0 i)), tuples_joined kind left right on f)

    right_join : (left right : JoinTree) (on : List Expr) → TreeFacts (JoinTree-F.Join join.Right left right on)
        → SameMember env (tuples_of tables (roll-JoinTree (JoinTree-F.Join join.Left (fold.folded_tree right) (fold.folded_tree left) (fold.conditions_folded (map fold.folded_expr on))))) (tuples_of tables (roll-JoinTree (JoinTree-F.Join join.Right left right on)))
    right_join left right on f =
        let x' = JoinTree-F.Join join.Left (fold.folded_tree right) (fold.folded_tree left) (fold.conditions_folded (map fold.folded_expr on)) in
        let x = JoinTree-F.Join join.Right left right on in
        moved (tuples_of tables (roll-JoinTree x')) (tree_tuples tables (tree_level tables x')) (tuples_of tables (roll-JoinTree x)) (tree_tuples tables (tree_level tables x)) (at_tree tables x') (at_tree tables x)
        (or_comm (rels_of (fold.folded_tree right)) (rels_of (fold.folded_tree left)) ∙ (λ i. join_rels join.Right (f.sides.0.0 i) (f.sides.1.0.0 i)), tuples_joined join.Right left right on f)

    tree_case : (x : JoinTreeLayer) → TreeFacts x → SameMember env (tuples_of tables (fold.tree_folded (tree_parts_folded x))) (tuples_of tables (roll-JoinTree x))
    tree_case (JoinTree-F.Base rel name table) f = (refl, refl)
    tree_case (JoinTree-F.Sub rel name query) f =
        let x' = JoinTree-F.Sub rel name (fold.folded query) in
        let x = JoinTree-F.Sub rel name query in
        moved (tuples_of tables (roll-JoinTree x')) (tree_tuples tables (tree_level tables x')) (tuples_of tables (roll-JoinTree x)) (tree_tuples tables (tree_level tables x)) (at_tree tables x') (at_tree tables x)
        (refl, ap (map (with_row env rel)) f.rows.0)
    tree_case (JoinTree-F.Join join.Inner left right on) f = plain_join join.Inner left right on f
    tree_case (JoinTree-F.Join join.Left left right on) f = plain_join join.Left left right on f
    tree_case (JoinTree-F.Join join.Right left right on) f = right_join left right on f
    tree_case (JoinTree-F.Join join.Full left right on) f = plain_join join.Full left right on f
    tree_case (JoinTree-F.Join join.Semi left right on) f = plain_join join.Semi left right on f
    tree_case (JoinTree-F.Join join.Anti left right on) f = plain_join join.Anti left right on f
    tree_case (JoinTree-F.From members conds) f =
        let x' = JoinTree-F.From (map fold.folded_tree members) (fold.conditions_folded (map fold.folded_expr conds)) in
        let x = JoinTree-F.From members conds in
        moved (tuples_of tables (roll-JoinTree x')) (tree_tuples tables (tree_level tables x')) (tuples_of tables (roll-JoinTree x)) (tree_tuples tables (tree_level tables x)) (at_tree tables x') (at_tree tables x)
        (ap (λ ms. union (map rels_in ms)) (map_map (tuples_of tables) fold.folded_tree members) ∙ ap union (members_rels (λ t. tuples_of tables (fold.folded_tree t)) (tuples_of tables) env members f.sides), from_kept members conds f.distinct f.fine f.sides f.conds f.side_cells f.cond_cells)

    tree_step : (x : JoinTreeLayer) → FineTree schema s (roll-JoinTree x) → Each (TreeMeans s) (trees x) → Each (ExprMeans (inside schema s x)) (conditions x) → Each (QueryMeans s) (option_part (leaf_query x)) → Each (IsCellAt s env) (in_tree ColumnRef node_column (roll-JoinTree x))
        → SameMember env (tuples_of tables (fold.folded_tree (roll-JoinTree x))) (tuples_of tables (roll-JoinTree x))
    tree_step x c ts cs sub cells =
        let has = tree_has ColumnRef node_column (IsCellAt s env) x cells in
        subst (λ (t : JoinTree). SameMember env (tuples_of tables t) (tuples_of tables (roll-JoinTree x))) (sym (fold-roll-JoinTree Expr JoinTree Order Output Query fold.expr_folded fold.tree_folded roll-Order roll-Output fold.query_folded x))
        (tree_case x (record {
          distinct = told_apart schema s x c;
          fine = ((fine_down schema).tree s x c).0;
          sides = at_env (in_tree ColumnRef node_column) (λ e t. SameMember e (tuples_of tables (fold.folded_tree t)) (tuples_of tables t)) s env (trees x) ts has.sides;
          conds = cs;
          rows = at_env (in_query ColumnRef node_column) (λ e q. meaning tables (fold.folded q) e ≡ meaning tables q e) s env (option_part (leaf_query x)) sub has.query;
          side_cells = has.sides;
          cond_cells = has.conds;
        }))

  -- ---- ORDER BY, outputs, queries

  order_step : (s : Scope) (env : Env) (x : OrderLayer) → ExprMeans s x.expr → Each (IsCellAt s env) (in_order ColumnRef node_column (roll-Order x)) → (key_of tables (folded_order (roll-Order x))).key env ≡ (key_of tables (roll-Order x)).key env
  order_step s env x h cells =
      ap (λ (o : Order). (key_of tables o).key env) (fold-roll-Order Expr JoinTree Order Output Query fold.expr_folded fold.tree_folded roll-Order roll-Output fold.query_folded x)
      ∙ ap (λ (k : SortKey). k.key env) (at_order tables (record { expr = fold.folded_expr x.expr; desc = x.desc; nulls_first = x.nulls_first }))
      ∙ h env (order_has ColumnRef node_column (IsCellAt s env) x cells)
      ∙ sym (ap (λ (k : SortKey). k.key env) (at_order tables x))

  output_step : (s : Scope) (env : Env) (x : OutputLayer) → ExprMeans s x.expr → Each (IsCellAt s env) (in_output ColumnRef node_column (roll-Output x)) → output_of tables (folded_output (roll-Output x)) env ≡ output_of tables (roll-Output x) env
  output_step s env x h cells =
      ap (λ (o : Output). output_of tables o env) (fold-roll-Output Expr JoinTree Order Output Query fold.expr_folded fold.tree_folded roll-Order roll-Output fold.query_folded x)
      ∙ ap (λ (v : ValueIn). v env) (at_output tables (record { name = x.name; ty = x.ty; expr = fold.folded_expr x.expr }))
      ∙ h env (output_has ColumnRef node_column (IsCellAt s env) x cells)
      ∙ sym (ap (λ (v : ValueIn). v env) (at_output tables x))

  direction_kept : (o : Order) → direction (key_of tables (folded_order o)) ≡ direction (key_of tables o)
  direction_kept o =
      ap (λ (p : Order). direction (key_of tables p)) (fold_out-Order Expr JoinTree Order Output Query fold.expr_folded fold.tree_folded roll-Order roll-Output fold.query_folded o)
      ∙ ap direction (at_order tables (record { expr = fold.folded_expr (out-Order o).expr; desc = (out-Order o).desc; nulls_first = (out-Order o).nulls_first }))
      ∙ sym (ap direction (fold_out-Order ValueIn Tuples SortKey ValueIn RowsIn (expr_value in_place) (tree_tuples tables) order_key output_value query_rows o))

  directions_kept : (os : List Order) → map direction (map (key_of tables) (map folded_order os)) ≡ map direction (map (key_of tables) os)
  directions_kept [] = refl
  directions_kept (o ∷ os) = λ i. direction_kept o i ∷ directions_kept os i

  outputs_kept : (env : Env) (us : List Output) → Each (λ u. output_of tables (folded_output u) env ≡ output_of tables u env) us → map (value_at env) (map (output_of tables) (map folded_output us)) ≡ map (value_at env) (map (output_of tables) us)
  outputs_kept env [] h = refl
  outputs_kept env (u ∷ us) h = λ i. h.0 i ∷ outputs_kept env us h.1 i

  keys_kept : (env : Env) (os : List Order) → Each (λ o. (key_of tables (folded_order o)).key env ≡ (key_of tables o).key env) os → map (key_at env) (map (key_of tables) (map folded_order os)) ≡ map (key_at env) (map (key_of tables) os)
  keys_kept env [] h = refl
  keys_kept env (o ∷ os) h = λ i. h.0 i ∷ keys_kept env os h.1 i

  query_step : (s : Scope) (env : Env) (x : QueryLayer) → FineQuery schema s (roll-Query x) → Each (OutputMeans (above schema s x)) x.columns → TreeMeans s x.tree → Each (ExprMeans (above schema s x)) x.conds → Each (OrderMeans (above schema s x)) x.order
      → Each (IsCellAt s env) (in_query ColumnRef node_column (roll-Query x)) → meaning tables (fold.folded (roll-Query x)) env ≡ meaning tables (roll-Query x) env
  query_step s env x c us t es os cells =
      let has = query_has ColumnRef node_column (IsCellAt s env) x cells in
      let y = query_parts_folded x in
      let z = record y { conds = fold.conditions_folded y.conds } in
      let entries = entries_in schema s x.tree in
      let tuples = (tuples_of tables x.tree).tuples env in
      let fits = fits_of s env x.tree ((fine_down schema).query s x c).1 has.tree in
      let on' = holds (map (value_of tables) (fold.conditions_folded (map fold.folded_expr x.conds))) in
      let on = holds (map (value_of tables) x.conds) in
      let cols' = map (output_of tables) (map folded_output x.columns) in
      let cols = map (output_of tables) x.columns in
      let keys' = map (key_of tables) (map folded_order x.order) in
      let keys = map (key_of tables) x.order in
      let held : filter on' ((tuples_of tables (fold.folded_tree x.tree)).tuples env) ≡ filter on tuples =
      ap (filter on') (t env has.tree).1 ∙ filter_same on' on tuples (each_by (Fit entries env) (λ e. on' e ≡ on e) (conditions_at s env entries x.conds es has.conds) tuples fits) in
      let line : (e : Env) → Fit entries env e → line_at cols' keys' e ≡ line_at cols keys e = λ e fit.
      let outputs = outputs_kept e x.columns (at_env (in_output ColumnRef node_column) (λ v u. output_of tables (folded_output u) v ≡ output_of tables u v) (entries ++ s) e x.columns us (cells_above (in_output ColumnRef node_column) entries s env e fit x.columns has.columns)) in
      let sort_keys = keys_kept e x.order (at_env (in_order ColumnRef node_column) (λ v o. (key_of tables (folded_order o)).key v ≡ (key_of tables o).key v) (entries ++ s) e x.order os (cells_above (in_order ColumnRef node_column) entries s env e fit x.order has.order)) in
      λ i. record { outputs = outputs i; keys = sort_keys i } in
      let lines : map (line_at cols' keys') (filter on' ((tuples_of tables (fold.folded_tree x.tree)).tuples env)) ≡ map (line_at cols keys) (filter on tuples) =
      ap (map (line_at cols' keys')) held ∙ map_same (line_at cols' keys') (line_at cols keys) (filter on tuples) (each_by (Fit entries env) (λ e. line_at cols' keys' e ≡ line_at cols keys e) line (filter on tuples) (each_filter (Fit entries env) on tuples fits)) in
      ap (λ (q : Query). meaning tables q env) (fold-roll-Query Expr JoinTree Order Output Query fold.expr_folded fold.tree_folded roll-Order roll-Output fold.query_folded x)
      ∙ ap (λ (r : RowsIn). r env) (at_query tables z)
      ∙ (λ i. map outputs_of (sorted (directions_kept x.order i) (distinct_lines x.distinct (lines i))))
      ∙ sym (ap (λ (r : RowsIn). r env) (at_query tables x))

  -- ---- the whole

  steps : StepsUnder Scope (inside schema) (above schema) (FineExpr schema) (FineTree schema) (FineOrder schema) (FineOutput schema) (FineQuery schema) (fine_down schema) ExprMeans TreeMeans OrderMeans OutputMeans QueryMeans
  steps = record {
    expr = λ s x c ps subs env cells. expr_step s env x c ps subs cells;
    tree = λ s x c ts cs sub env cells. tree_step s env x c ts cs sub cells;
    order = λ s x c h env cells. order_step s env x h cells;
    output = λ s x c h env cells. output_step s env x h cells;
    query = λ s x c us t es os env cells. query_step s env x c us t es os cells;
  }

  pub value_kept : (x : Expr) (s : Scope) → FineExpr schema s x → ExprMeans s x
  value_kept = under_expr Scope (inside schema) (above schema) (FineExpr schema) (FineTree schema) (FineOrder schema) (FineOutput schema) (FineQuery schema) (fine_down schema) ExprMeans TreeMeans OrderMeans OutputMeans QueryMeans steps

  pub tuples_kept : (x : JoinTree) (s : Scope) → FineTree schema s x → TreeMeans s x
  tuples_kept = under_tree Scope (inside schema) (above schema) (FineExpr schema) (FineTree schema) (FineOrder schema) (FineOutput schema) (FineQuery schema) (fine_down schema) ExprMeans TreeMeans OrderMeans OutputMeans QueryMeans steps

  pub rows_kept : (x : Query) (s : Scope) → FineQuery schema s x → QueryMeans s x
  rows_kept = under_query Scope (inside schema) (above schema) (FineExpr schema) (FineTree schema) (FineOrder schema) (FineOutput schema) (FineQuery schema) (fine_down schema) ExprMeans TreeMeans OrderMeans OutputMeans QueryMeans steps
