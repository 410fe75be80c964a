-- The leaves of each form of expression and of tree, and what the list of printed names is.
use Rattle.std.proofs.Common.{◌≡◌, ◌∙◌, ap, ap₂, sym, refl, ℕ, zero, suc, ◌+◌, ◌<◌, ◌≤◌, Bool, true, false, cond, List, [], ◌∷◌, ◌++◌, map, length, get_or, take, drop, Option, Some, None, append-nil, append_assoc, arith}
use Rattle.std.specs.Prelude.{find, option_map, slice_get, if◌then◌else◌}
use Rattle.std.specs.Fmt.{decimal}
use Rattle.jp_problem.proofs.KeyLaws.{any_map}
use Rattle.std.specs.List.{flat_map}
use Rattle.std.proofs.lemmas.Bool.{eq-eqb}
use Rattle.std.proofs.Math.Numerals.{add-one}
use Rattle.std.proofs.lemmas.List.{map-append, take_more}
use Rattle.std.proofs.lemmas.Grind.{flat_map-append}
use Rattle.jp_base.specs.declared.values.Ty.{Ty}
use Rattle.jp_base.specs.declared.values.Value.{Value}
use Rattle.jp_catalog.specs.declared.types.Catalog.{Catalog}
use Rattle.jp_query.specs.declared.CmpOp.{CmpOp}
use Rattle.jp_query.specs.declared.IsTest.{IsTest}
use Rattle.jp_query.specs.declared.JoinKind.{JoinKind}
use Rattle.jp_query.specs.declared.Expr.TheVariants as expr
use Rattle.jp_query.specs.declared.JoinTree.TheVariants as tree
use Rattle.jp_query.specs.declared.Expr.{Expr}
use Rattle.jp_query.specs.declared.Expr.TheOpen.{Expr-F, JoinTree-F}
use Rattle.jp_query.specs.declared.Expr.TheFolds.{map-JoinTree, para-Expr, para-JoinTree, para-Order, para-Output, para-roll-Expr, para-roll-JoinTree, para-roll-Order, para-roll-Output, para-roll-Query}
use Rattle.jp_query.specs.declared.Expr.TheViews.{roll-Expr, roll-JoinTree}
use Rattle.jp_query.specs.declared.JoinTree.{JoinTree}
use Rattle.jp_query.specs.declared.Order.{Order, out-Order, roll-out-Order}
use Rattle.jp_query.specs.declared.Output.{Output, out-Output, roll-out-Output}
use Rattle.jp_query.specs.declared.Query.{Query, out-Query, roll-out-Query}
use Rattle.jp_query.specs.Layers.{ExprLayer, JoinTreeLayer}
use Rattle.jp_query.specs.Parts.{all_in, arm_parts, option_part, parts, sublink_query, term_part, trees, conditions, leaf_query}
use Rattle.jp_induction.proofs.EachPart.{parts_map, sublink_map, trees_map, conditions_map, leaf_map}
use Rattle.jp_prepared.specs.Names.{Leaf, Leaves, below, column_name, is_leaf_of, leaf_here, leaves_beside, leaves_of, name_at, named, names_of, names_of_table, output_name, expr_leaves, tree_leaves, order_leaves, output_leaves, query_leaves}
use Rattle.jp_tree.specs.declared.prepared.RelName.{RelName}
use Rattle.jp_session.specs.Names.{as_name, arm_names, column_at, expr_names, is_earlier, is_relation, option_names, order_names, output_names, printed, printed_at, printed_first, query_names, term_names, tree_names}

module _ (catalog : Catalog) where
  abbrev of_expr : Expr → Leaves
  of_expr = para-Expr Leaves Leaves Leaves Leaves Leaves (expr_leaves catalog) (tree_leaves catalog) (order_leaves catalog) (output_leaves catalog) (query_leaves catalog)

  abbrev of_tree : JoinTree → Leaves
  of_tree = para-JoinTree Leaves Leaves Leaves Leaves Leaves (expr_leaves catalog) (tree_leaves catalog) (order_leaves catalog) (output_leaves catalog) (query_leaves catalog)

  abbrev of_order : Order → Leaves
  of_order = para-Order Leaves Leaves Leaves Leaves Leaves (expr_leaves catalog) (tree_leaves catalog) (order_leaves catalog) (output_leaves catalog) (query_leaves catalog)

  abbrev of_output : Output → Leaves
  of_output = para-Output Leaves Leaves Leaves Leaves Leaves (expr_leaves catalog) (tree_leaves catalog) (order_leaves catalog) (output_leaves catalog) (query_leaves catalog)

  abbrev with_leaves : {X : Type 0} → (X → Leaves) → X → X × Leaves
  with_leaves leaves x = (x, leaves x)

  all_names : {X : Type 0} (leaves : X → Leaves) (xs : List X) → map as_name (all_in (map (leaves_beside catalog) (map (with_leaves leaves) xs))) ≡ flat_map (λ (x : X). map as_name (leaves x)) xs
  all_names leaves [] = refl
  all_names leaves (x ∷ xs) = map-append as_name (leaves x) (all_in (map (leaves_beside catalog) (map (with_leaves leaves) xs))) ∙ ap (λ ns. map as_name (leaves x) ++ ns) (all_names leaves xs)

  at_expr : (x : ExprLayer) → expr_names catalog (roll-Expr x) ≡ flat_map (expr_names catalog) (parts x) ++ flat_map (query_names catalog) (option_part (sublink_query x))
  unfolding expr_names query_names
  at_expr x =
      ap (map as_name) (para-roll-Expr Leaves Leaves Leaves Leaves Leaves (expr_leaves catalog) (tree_leaves catalog) (order_leaves catalog) (output_leaves catalog) (query_leaves catalog) x
      ∙ ap₂ (λ es qs. all_in (map (leaves_beside catalog) es) ++ all_in (map (leaves_beside catalog) qs)) (parts_map (with_leaves of_expr) (with_leaves of_tree) (with_leaves of_order) (with_leaves of_output) (with_leaves (leaves_of catalog)) x) (sublink_map (with_leaves of_expr) (with_leaves of_tree) (with_leaves of_order) (with_leaves of_output) (with_leaves (leaves_of catalog)) x))
      ∙ map-append as_name (all_in (map (leaves_beside catalog) (map (with_leaves of_expr) (parts x)))) (all_in (map (leaves_beside catalog) (map (with_leaves (leaves_of catalog)) (option_part (sublink_query x)))))
      ∙ ap₂ (λ ns ms. ns ++ ms) (all_names of_expr (parts x)) (all_names (leaves_of catalog) (option_part (sublink_query x)))

  abbrev own_names : JoinTreeLayer → List RelName
  own_names t = map as_name (leaf_here catalog (map-JoinTree Expr JoinTree Order Output Query (Expr × Leaves) (JoinTree × Leaves) (Order × Leaves) (Output × Leaves) (Query × Leaves) (with_leaves of_expr) (with_leaves of_tree) (with_leaves of_order) (with_leaves of_output) (with_leaves (leaves_of catalog)) t))

  at_tree : (t : JoinTreeLayer) → tree_names catalog (roll-JoinTree t) ≡ own_names t ++ (flat_map (tree_names catalog) (trees t) ++ (flat_map (expr_names catalog) (conditions t) ++ flat_map (query_names catalog) (option_part (leaf_query t))))
  unfolding expr_names tree_names query_names
  at_tree t =
      let own = leaf_here catalog (map-JoinTree Expr JoinTree Order Output Query (Expr × Leaves) (JoinTree × Leaves) (Order × Leaves) (Output × Leaves) (Query × Leaves) (with_leaves of_expr) (with_leaves of_tree) (with_leaves of_order) (with_leaves of_output) (with_leaves (leaves_of catalog)) t) in
      let ts = all_in (map (leaves_beside catalog) (map (with_leaves of_tree) (trees t))) in
      let cs = all_in (map (leaves_beside catalog) (map (with_leaves of_expr) (conditions t))) in
      let qs = all_in (map (leaves_beside catalog) (map (with_leaves (leaves_of catalog)) (option_part (leaf_query t)))) in
      ap (map as_name) (para-roll-JoinTree Leaves Leaves Leaves Leaves Leaves (expr_leaves catalog) (tree_leaves catalog) (order_leaves catalog) (output_leaves catalog) (query_leaves catalog) t
      ∙ ap₂ (λ (us : List (JoinTree × Leaves)) (rest : Leaves). own ++ (all_in (map (leaves_beside catalog) us) ++ rest)) (trees_map (with_leaves of_expr) (with_leaves of_tree) (with_leaves of_order) (with_leaves of_output) (with_leaves (leaves_of catalog)) t)
      (ap₂ (λ (es : List (Expr × Leaves)) (rs : List (Query × Leaves)). all_in (map (leaves_beside catalog) es) ++ all_in (map (leaves_beside catalog) rs)) (conditions_map (with_leaves of_expr) (with_leaves of_tree) (with_leaves of_order) (with_leaves of_output) (with_leaves (leaves_of catalog)) t) (leaf_map (with_leaves of_expr) (with_leaves of_tree) (with_leaves of_order) (with_leaves of_output) (with_leaves (leaves_of catalog)) t)))
      ∙ map-append as_name own (ts ++ (cs ++ qs))
      ∙ ap (λ ns. map as_name own ++ ns) (map-append as_name ts (cs ++ qs) ∙ ap₂ (λ ns ms. ns ++ ms) (all_names of_tree (trees t))
      (map-append as_name cs qs ∙ ap₂ (λ ns ms. ns ++ ms) (all_names of_expr (conditions t)) (all_names (leaves_of catalog) (option_part (leaf_query t)))))

  at_output : (u : Output) → map as_name (of_output u) ≡ output_names catalog u
  unfolding expr_names
  at_output u = ap (map as_name) (ap of_output (sym (roll-out-Output u)) ∙ para-roll-Output Leaves Leaves Leaves Leaves Leaves (expr_leaves catalog) (tree_leaves catalog) (order_leaves catalog) (output_leaves catalog) (query_leaves catalog) (out-Output u))

  at_order : (o : Order) → map as_name (of_order o) ≡ order_names catalog o
  unfolding expr_names
  at_order o = ap (map as_name) (ap of_order (sym (roll-out-Order o)) ∙ para-roll-Order Leaves Leaves Leaves Leaves Leaves (expr_leaves catalog) (tree_leaves catalog) (order_leaves catalog) (output_leaves catalog) (query_leaves catalog) (out-Order o))

  each_same : {X : Type 0} (f g : X → List RelName) → ((x : X) → f x ≡ g x) → (xs : List X) → flat_map f xs ≡ flat_map g xs
  each_same f g h [] = refl
  each_same f g h (x ∷ xs) = ap₂ (λ ns ms. ns ++ ms) (h x) (each_same f g h xs)

  pub names-Query : (q : Query) → query_names catalog q ≡ flat_map (output_names catalog) (out-Query q).columns ++ (tree_names catalog (out-Query q).tree ++ (flat_map (expr_names catalog) (out-Query q).conds ++ flat_map (order_names catalog) (out-Query q).order))
  unfolding expr_names tree_names query_names
  names-Query q =
      let us = all_in (map (leaves_beside catalog) (map (with_leaves of_output) (out-Query q).columns)) in
      let ts = of_tree (out-Query q).tree in
      let cs = all_in (map (leaves_beside catalog) (map (with_leaves of_expr) (out-Query q).conds)) in
      let os = all_in (map (leaves_beside catalog) (map (with_leaves of_order) (out-Query q).order)) in
      ap (map as_name) (ap (leaves_of catalog) (sym (roll-out-Query q)) ∙ para-roll-Query Leaves Leaves Leaves Leaves Leaves (expr_leaves catalog) (tree_leaves catalog) (order_leaves catalog) (output_leaves catalog) (query_leaves catalog) (out-Query q))
      ∙ map-append as_name us (ts ++ (cs ++ os))
      ∙ ap₂ (λ ns ms. ns ++ ms) (all_names of_output (out-Query q).columns ∙ each_same (λ (u : Output). map as_name (of_output u)) (output_names catalog) at_output (out-Query q).columns)
      (map-append as_name ts (cs ++ os) ∙ ap (λ ns. map as_name ts ++ ns)
      (map-append as_name cs os ∙ ap₂ (λ ns ms. ns ++ ms) (all_names of_expr (out-Query q).conds) (all_names of_order (out-Query q).order ∙ each_same (λ (o : Order). map as_name (of_order o)) (order_names catalog) at_order (out-Query q).order)))

  -- ---- expressions

  of_terms : (terms : List (Bool × Expr)) → flat_map (expr_names catalog) (map term_part terms) ≡ flat_map (term_names catalog) terms
  of_terms [] = refl
  of_terms (t ∷ ts) = ap (λ ns. expr_names catalog t.1 ++ ns) (of_terms ts)

  of_arms : (arms : List (Expr × Expr)) → flat_map (expr_names catalog) (arm_parts arms) ≡ flat_map (arm_names catalog) arms
  of_arms [] = refl
  of_arms (a ∷ more) = ap (λ ns. expr_names catalog a.0 ++ (expr_names catalog a.1 ++ ns)) (of_arms more) ∙ sym (append_assoc (expr_names catalog a.0) (expr_names catalog a.1) (flat_map (arm_names catalog) more))

  of_optional : (o : Option Expr) → flat_map (expr_names catalog) (option_part o) ≡ option_names catalog o
  of_optional (Some e) = append-nil (expr_names catalog e)
  of_optional None = refl

  one : (ns : List RelName) → (ns ++ []) ++ [] ≡ ns
  one ns = append-nil (ns ++ []) ∙ append-nil ns

  pub names-Col : (rel col : ℕ) (ty : Ty) (nulled : ℕ) → expr_names catalog (expr.Col rel col ty nulled) ≡ []
  names-Col rel col ty nulled = ap (expr_names catalog) (sym (expr.rolls-Col rel col ty nulled)) ∙ at_expr (Expr-F.Col rel col ty nulled)

  pub names-Lit : (v : Value) (ty : Ty) → expr_names catalog (expr.Lit v ty) ≡ []
  names-Lit v ty = ap (expr_names catalog) (sym (expr.rolls-Lit v ty)) ∙ at_expr (Expr-F.Lit v ty)

  pub names-Place : (e : Expr) (rels : ℕ) → expr_names catalog (expr.Place e rels) ≡ expr_names catalog e
  names-Place e rels = ap (expr_names catalog) (sym (expr.rolls-Place e rels)) ∙ at_expr (Expr-F.Place e rels) ∙ one (expr_names catalog e)

  pub names-Neg : (e : Expr) → expr_names catalog (expr.Neg e) ≡ expr_names catalog e
  names-Neg e = ap (expr_names catalog) (sym (expr.rolls-Neg e)) ∙ at_expr (Expr-F.Neg e) ∙ one (expr_names catalog e)

  pub names-Not : (e : Expr) → expr_names catalog (expr.Not e) ≡ expr_names catalog e
  names-Not e = ap (expr_names catalog) (sym (expr.rolls-Not e)) ∙ at_expr (Expr-F.Not e) ∙ one (expr_names catalog e)

  pub names-Test : (test : IsTest) (e : Expr) → expr_names catalog (expr.Test test e) ≡ expr_names catalog e
  names-Test test e = ap (expr_names catalog) (sym (expr.rolls-Test test e)) ∙ at_expr (Expr-F.Test test e) ∙ one (expr_names catalog e)

  pub names-Sum : (terms : List (Bool × Expr)) → expr_names catalog (expr.Sum terms) ≡ flat_map (term_names catalog) terms
  names-Sum terms = ap (expr_names catalog) (sym (expr.rolls-Sum terms)) ∙ at_expr (Expr-F.Sum terms) ∙ append-nil _ ∙ of_terms terms

  pub names-Product : (es : List Expr) → expr_names catalog (expr.Product es) ≡ flat_map (expr_names catalog) es
  names-Product es = ap (expr_names catalog) (sym (expr.rolls-Product es)) ∙ at_expr (Expr-F.Product es) ∙ append-nil _

  pub names-Concat : (es : List Expr) → expr_names catalog (expr.Concat es) ≡ flat_map (expr_names catalog) es
  names-Concat es = ap (expr_names catalog) (sym (expr.rolls-Concat es)) ∙ at_expr (Expr-F.Concat es) ∙ append-nil _

  pub names-And : (es : List Expr) → expr_names catalog (expr.And es) ≡ flat_map (expr_names catalog) es
  names-And es = ap (expr_names catalog) (sym (expr.rolls-And es)) ∙ at_expr (Expr-F.And es) ∙ append-nil _

  pub names-Or : (es : List Expr) → expr_names catalog (expr.Or es) ≡ flat_map (expr_names catalog) es
  names-Or es = ap (expr_names catalog) (sym (expr.rolls-Or es)) ∙ at_expr (Expr-F.Or es) ∙ append-nil _

  pub names-Coalesce : (es : List Expr) → expr_names catalog (expr.Coalesce es) ≡ flat_map (expr_names catalog) es
  names-Coalesce es = ap (expr_names catalog) (sym (expr.rolls-Coalesce es)) ∙ at_expr (Expr-F.Coalesce es) ∙ append-nil _

  pub names-Compare : (op : CmpOp) (a b : Expr) → expr_names catalog (expr.Compare op a b) ≡ expr_names catalog a ++ expr_names catalog b
  names-Compare op a b = ap (expr_names catalog) (sym (expr.rolls-Compare op a b)) ∙ at_expr (Expr-F.Compare op a b) ∙ append-nil _ ∙ ap (λ ns. expr_names catalog a ++ ns) (append-nil (expr_names catalog b))

  pub names-Between : (a b c : Expr) → expr_names catalog (expr.Between a b c) ≡ expr_names catalog a ++ (expr_names catalog b ++ expr_names catalog c)
  names-Between a b c = ap (expr_names catalog) (sym (expr.rolls-Between a b c)) ∙ at_expr (Expr-F.Between a b c) ∙ append-nil _ ∙ ap (λ ns. expr_names catalog a ++ (expr_names catalog b ++ ns)) (append-nil (expr_names catalog c))

  pub names-InList : (e : Expr) (es : List Expr) → expr_names catalog (expr.InList e es) ≡ expr_names catalog e ++ flat_map (expr_names catalog) es
  names-InList e es = ap (expr_names catalog) (sym (expr.rolls-InList e es)) ∙ at_expr (Expr-F.InList e es) ∙ append-nil _

  pub names-Case : (operand : Option Expr) (arms : List (Expr × Expr)) (otherwise : Option Expr) → expr_names catalog (expr.Case operand arms otherwise) ≡ option_names catalog operand ++ (flat_map (arm_names catalog) arms ++ option_names catalog otherwise)
  names-Case operand arms otherwise =
      ap (expr_names catalog) (sym (expr.rolls-Case operand arms otherwise)) ∙ at_expr (Expr-F.Case operand arms otherwise) ∙ append-nil _
      ∙ flat_map-append (expr_names catalog) (option_part operand) (arm_parts arms ++ option_part otherwise)
      ∙ ap₂ (λ xs ys. xs ++ ys) (of_optional operand) (flat_map-append (expr_names catalog) (arm_parts arms) (option_part otherwise) ∙ ap₂ (λ xs ys. xs ++ ys) (of_arms arms) (of_optional otherwise))

  pub names-Exists : (sub : ℕ) (q : Query) → expr_names catalog (expr.Exists sub q) ≡ query_names catalog q
  names-Exists sub q = ap (expr_names catalog) (sym (expr.rolls-Exists sub q)) ∙ at_expr (Expr-F.Exists sub q) ∙ append-nil (query_names catalog q)

  pub names-InSub : (sub : ℕ) (e : Expr) (q : Query) → expr_names catalog (expr.InSub sub e q) ≡ expr_names catalog e ++ query_names catalog q
  names-InSub sub e q = ap (expr_names catalog) (sym (expr.rolls-InSub sub e q)) ∙ at_expr (Expr-F.InSub sub e q) ∙ ap₂ (λ xs ys. xs ++ ys) (append-nil (expr_names catalog e)) (append-nil (query_names catalog q))

  -- ---- trees

  abbrev pub leaf_name : ℕ → List ℕ → List (List ℕ) → RelName
  leaf_name rel name columns = record { rel = rel; name = name; columns = columns }

  pub names-Base : (rel : ℕ) (name : List ℕ) (table : ℕ) → tree_names catalog (tree.Base rel name table) ≡ leaf_name rel name (names_of_table (slice_get catalog.tables table)) ∷ []
  names-Base rel name table = ap (tree_names catalog) (sym (tree.rolls-Base rel name table)) ∙ at_tree (JoinTree-F.Base rel name table)

  pub names-Sub : (rel : ℕ) (name : List ℕ) (query : Query) → tree_names catalog (tree.Sub rel name query) ≡ leaf_name rel name (map output_name (out-Query query).columns) ∷ query_names catalog query
  names-Sub rel name query = ap (tree_names catalog) (sym (tree.rolls-Sub rel name query)) ∙ at_tree (JoinTree-F.Sub rel name query) ∙ ap (λ ns. leaf_name rel name (map output_name (out-Query query).columns) ∷ ns) (append-nil (query_names catalog query))

  pub names-Join : (kind : JoinKind) (left right : JoinTree) (on : List Expr) → tree_names catalog (tree.Join kind left right on) ≡ tree_names catalog left ++ (tree_names catalog right ++ flat_map (expr_names catalog) on)
  names-Join kind left right on =
      ap (tree_names catalog) (sym (tree.rolls-Join kind left right on)) ∙ at_tree (JoinTree-F.Join kind left right on)
      ∙ ap₂ (λ xs ys. (tree_names catalog left ++ xs) ++ ys) (append-nil (tree_names catalog right)) (append-nil (flat_map (expr_names catalog) on))
      ∙ append_assoc (tree_names catalog left) (tree_names catalog right) (flat_map (expr_names catalog) on)

  pub names-From : (members : List JoinTree) (conds : List Expr) → tree_names catalog (tree.From members conds) ≡ flat_map (tree_names catalog) members ++ flat_map (expr_names catalog) conds
  names-From members conds = ap (tree_names catalog) (sym (tree.rolls-From members conds)) ∙ at_tree (JoinTree-F.From members conds) ∙ ap (λ ns. flat_map (tree_names catalog) members ++ ns) (append-nil (flat_map (expr_names catalog) conds))

-- ---- loops

pub names_more : {X : Type 0} (f : X → List RelName) (xs : List X) (i : ℕ) (d : X) → i < length xs → flat_map f (take (i + 1) xs) ≡ flat_map f (take i xs) ++ f (get_or xs i d)
names_more f xs i d within =
    ap (flat_map f) (take_more xs i d within)
    ∙ flat_map-append f (take i xs) (get_or xs i d ∷ [])
    ∙ ap (λ ys. flat_map f (take i xs) ++ ys) (append-nil (f (get_or xs i d)))

-- what a loop has put at the end behind one more element
pub name_pushed : {X : Type 0} (f : X → List RelName) (xs : List X) (i : ℕ) (x : X) (old now next : List RelName) → i < length xs → x ≡ get_or xs i x → now ≡ old ++ flat_map f (take i xs) → next ≡ now ++ f x → next ≡ old ++ flat_map f (take (i + 1) xs)
name_pushed f xs i x old now next low is p q =
    q ∙ ap (λ ys. ys ++ f x) p ∙ append_assoc old (flat_map f (take i xs)) (f x)
    ∙ ap (λ ys. old ++ ys) (ap (λ y. flat_map f (take i xs) ++ f y) is ∙ sym (names_more f xs i x low))

-- what is put at the end for a CASE
pub case_named : (catalog : Catalog) (operand : Option Expr) (arms : List (Expr × Expr)) (otherwise : Option Expr) (old first second last : List RelName) → first ≡ old ++ option_names catalog operand → second ≡ first ++ flat_map (arm_names catalog) arms
    → last ≡ second ++ option_names catalog otherwise → last ≡ old ++ expr_names catalog (expr.Case operand arms otherwise)
case_named catalog operand arms otherwise old first second last p q r =
    r ∙ ap (λ xs. xs ++ option_names catalog otherwise) (q ∙ ap (λ xs. xs ++ flat_map (arm_names catalog) arms) p)
    ∙ append_assoc (old ++ option_names catalog operand) (flat_map (arm_names catalog) arms) (option_names catalog otherwise)
    ∙ append_assoc old (option_names catalog operand) (flat_map (arm_names catalog) arms ++ option_names catalog otherwise)
    ∙ ap (λ xs. old ++ xs) (sym (names-Case catalog operand arms otherwise))

pub ruleset equations = (names-Col, names-Lit, names-Place, names-Neg, names-Not, names-Test, names-Sum, names-Product, names-Concat, names-And, names-Or, names-Coalesce, names-Compare, names-Between, names-InList, names-Case, names-Exists, names-InSub, names-Base, names-Sub, names-Join, names-From, names-Query, names_more, append-nil, append_assoc)

-- ---- printed names

find_at : (x : Leaf) (b : Bool) (o : Option RelName) (p : Option Leaf) → o ≡ option_map as_name p → cond b (Some (as_name x)) o ≡ option_map as_name (cond b (Some x) p)
find_at x true o p e = refl
find_at x false o p e = e

find_same : (rel : ℕ) (leaves : Leaves) → find (is_relation rel) (map as_name leaves) ≡ option_map as_name (find (is_leaf_of rel) leaves)
find_same rel [] = refl
find_same rel (x ∷ xs) = find_at x (is_leaf_of rel x) (find (is_relation rel) (map as_name xs)) (find (is_leaf_of rel) xs) (find_same rel xs)

printed_same : (leaves : Leaves) (leaf : Leaf) → printed (map as_name leaves) (as_name leaf) ≡ named leaves leaf
printed_same leaves leaf = ap (λ (b : Bool). with_text leaf (if b then leaf.name ++ 95 ∷ decimal leaf.relation else leaf.name)) (any_map (is_earlier (as_name leaf)) as_name leaves)
  where
    with_text : Leaf → List ℕ → RelName
    with_text l text = record { rel = l.relation; name = text; columns = l.columns }

first_same : (leaves : Leaves) (o : Option Leaf) → printed_first (map as_name leaves) (option_map as_name o) ≡ map (named leaves) (option_part o)
first_same leaves (Some leaf) = ap (λ (n : RelName). n ∷ []) (printed_same leaves leaf)
first_same leaves None = refl

at_same : (leaves : Leaves) (rel : ℕ) → printed_at (map as_name leaves) rel ≡ name_at leaves rel
at_same leaves rel = ap (printed_first (map as_name leaves)) (find_same rel leaves) ∙ first_same leaves (find (is_leaf_of rel) leaves)

all_same : (leaves : Leaves) (rels : List ℕ) → flat_map (printed_at (map as_name leaves)) rels ≡ flat_map (name_at leaves) rels
all_same leaves [] = refl
all_same leaves (rel ∷ rels) = ap₂ (λ ns ms. ns ++ ms) (at_same leaves rel) (all_same leaves rels)

-- the names of the relations from those of the leaves
pub names_are : (catalog : Catalog) (q : Query) (leaves : List RelName) (names : List RelName) → leaves ≡ query_names catalog q → names ≡ flat_map (printed_at leaves) (below 64) → names ≡ names_of catalog q
unfolding query_names
names_are catalog q leaves names e f = f ∙ ap (λ ls. flat_map (printed_at ls) (below 64)) e ∙ all_same (leaves_of catalog q) (below 64)

pub below_more : (f : ℕ → List RelName) (n : ℕ) → flat_map f (below (n + 1)) ≡ flat_map f (below n) ++ f n
unfolding below
below_more f n = ap (λ m. flat_map f (below m)) (add-one n) ∙ flat_map-append f (below n) (n ∷ []) ∙ ap (λ ns. flat_map f (below n) ++ ns) (append-nil (f n))

pub none_below : (f : ℕ → List RelName) → flat_map f (below 0) ≡ []
unfolding below
none_below f = refl

-- ---- the names of columns

column_next : (columns : List (List ℕ × Ty)) (at : ℕ) → map column_name (take (suc at) columns) ≡ map column_name (take at columns) ++ column_at columns at
column_next [] zero = refl
column_next [] (suc at) = refl
column_next (c ∷ cs) zero = refl
column_next (c ∷ cs) (suc at) = ap (λ ns. column_name c ∷ ns) (column_next cs at)

pub column_more : (columns : List (List ℕ × Ty)) (at : ℕ) → map column_name (take (at + 1) columns) ≡ map column_name (take at columns) ++ column_at columns at
column_more columns at = ap (λ n. map column_name (take n columns)) (add-one at) ∙ column_next columns at

-- ---- the first leaf of a number

pub found_at : (leaves : List RelName) (i : ℕ) (leaf : RelName) (rel : ℕ) → i < length leaves → leaf ≡ get_or leaves i leaf → leaf.rel ≡ rel → find (is_relation rel) (drop i leaves) ≡ Some leaf
found_at [] i leaf rel low is e = absurd (omega (arith, low))
found_at (x ∷ xs) zero leaf rel low is e = ap (λ (b : Bool). cond b (Some x) (find (is_relation rel) xs)) (ap (is_relation rel) (sym is) ∙ eq-eqb leaf.rel rel e) ∙ ap Some (sym is)
found_at (x ∷ xs) (suc i) leaf rel low is e = found_at xs i leaf rel (omega (arith, low)) is e

pub none_past : (leaves : List RelName) (i : ℕ) (rel : ℕ) → length leaves ≤ i → find (is_relation rel) (drop i leaves) ≡ None
none_past [] zero rel low = refl
none_past [] (suc i) rel low = refl
none_past (x ∷ xs) zero rel low = absurd (omega (arith, low))
none_past (x ∷ xs) (suc i) rel low = none_past xs i rel (omega (arith, low))

pub one_printed : (leaves old now new : List RelName) (i : ℕ) (leaf : RelName) (rel : ℕ) → i < length leaves → leaf ≡ get_or leaves i leaf → leaf.rel ≡ rel → find (is_relation rel) (drop i leaves) ≡ find (is_relation rel) leaves
    → now ≡ old → new ≡ now ++ printed leaves leaf ∷ [] → new ≡ old ++ printed_at leaves rel
one_printed leaves old now new i leaf rel low is e rest same pushed =
    pushed ∙ ap (λ ns. ns ++ printed leaves leaf ∷ []) same ∙ ap (λ (o : Option RelName). old ++ printed_first leaves o) (sym (found_at leaves i leaf rel low is e) ∙ rest)

pub none_printed : (leaves old now : List RelName) (i : ℕ) (rel : ℕ) → length leaves ≤ i → find (is_relation rel) (drop i leaves) ≡ find (is_relation rel) leaves → now ≡ old → now ≡ old ++ printed_at leaves rel
none_printed leaves old now i rel low rest same = same ∙ sym (append-nil old) ∙ ap (λ (o : Option RelName). old ++ printed_first leaves o) (sym (none_past leaves i rel low) ∙ rest)
