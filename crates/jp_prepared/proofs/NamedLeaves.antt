-- The named leaves of a query are those that it has as trees, and each has its name.
use Rattle.std.proofs.Common.{◌≡◌, ◌∙◌, ap, ap₂, sym, subst, refl, ℕ, ◌<◌, inl, inr, Bool, true, false, List, [], ◌∷◌, ◌++◌, map, cond, Option, Some, None, eq-eqb, eqb-true}
use Rattle.std.specs.Prelude.{find, slice_get}
use Rattle.jp_facts.proofs.Members.{In, in_map, from_map, in_flat_map, from_flat_map}
use Rattle.jp_catalog.specs.declared.types.Catalog.{Catalog}
use Rattle.jp_query.specs.declared.Expr.{Expr}
use Rattle.jp_query.specs.declared.JoinTree.{JoinTree, out-JoinTree, out-roll-JoinTree}
use Rattle.jp_query.specs.declared.JoinTree.TheVariants as tree
use Rattle.jp_query.specs.declared.Order.{Order}
use Rattle.jp_query.specs.declared.Output.{Output}
use Rattle.jp_query.specs.declared.Query.{Query, out-Query}
use Rattle.jp_query.specs.declared.Expr.TheOpen.{JoinTree-F}
use Rattle.jp_query.specs.declared.Expr.TheViews.{roll-Expr, roll-JoinTree, roll-Query}
use Rattle.jp_query.specs.Layers.{ExprLayer, JoinTreeLayer, QueryLayer}
use Rattle.jp_query.specs.Parts.{all_in, option_part, parts, sublink_query, trees, conditions, leaf_query}
use Rattle.jp_induction.proofs.EachPart.{Each, append_map}
use Rattle.jp_induction.proofs.Induction as induction
use Rattle.jp_tree.specs.declared.prepared.RelName.{RelName}
use Rattle.jp_tree.specs.Prepared.{is_name_of}
use Rattle.jp_prepared.specs.Names.{Leaf, names_of_table, output_name, leaf_here, leaves_of, is_leaf_of, named, name_at, names_of, below}
use Rattle.jp_prepared.proofs.LeafTrees as lists
use Rattle.jp_prepared.proofs.LeafTrees.{no_own}
use Rattle.jp_prepared.proofs.LeafTrees.{leaf_here as tree_here}
use Rattle.jp_prepared.proofs.OneScope.{in_below}
use Rattle.jp_prepared.proofs.SameLeaves.{trees_in_expr, trees_in_tree, trees_in_order, trees_in_output, trees_in_query}

-- ---- what is found in a list

module _ {X : Type 0} (p : X → Bool) where
  found_at : (x : X) (xs : List X) (b : Bool) → p x ≡ b → ((y : X) → find p xs ≡ Some y → In y xs × (p y ≡ true)) → (y : X) → cond b (Some x) (find p xs) ≡ Some y → In y (x ∷ xs) × (p y ≡ true)
  found_at x xs true e rest y h = let same : x ≡ y = one x y h in (inl same, subst (λ z. p z ≡ true) same e)
    where
      one : (x y : X) → Some x ≡ Some y → x ≡ y
      one x y h = cc
  found_at x xs false e rest y h = let r = rest y h in (inr r.0, r.1)

  pub is_found : (xs : List X) (y : X) → find p xs ≡ Some y → In y xs × (p y ≡ true)
  is_found [] y h = cc
  is_found (x ∷ xs) y h = found_at x xs (p x) refl (is_found xs) y h

  some_at : (x : X) (xs : List X) (b : Bool) → (b ≡ false → (y : X) × (find p xs ≡ Some y)) → (y : X) × (cond b (Some x) (find p xs) ≡ Some y)
  some_at x xs true rest = (x, refl)
  some_at x xs false rest = rest refl

  pub finds : (xs : List X) (x : X) → In x xs → p x ≡ true → (y : X) × (find p xs ≡ Some y)
  finds [] x m h = absurd m
  finds (y ∷ xs) x (inl same) h = some_at y xs (p y) (λ e. absurd (not_both (p y) (ap p same ∙ h) e))
    where
      not_both : (b : Bool) → b ≡ true → b ≡ false → ⊥
      not_both b t f = two (sym t ∙ f)
        where
          two : true ≡ false → ⊥
          two e = cc
  finds (y ∷ xs) x (inr m) h = some_at y xs (p y) (λ e. finds xs x m h)

-- ---- leaves by name and as trees

module _ (catalog : Catalog) where
  abbrev pub record_at : JoinTreeLayer → Leaf
  record_at (JoinTree-F.Base rel name table) = record { relation = rel; name = name; columns = names_of_table (slice_get catalog.tables table) }
  record_at (JoinTree-F.Sub rel name query) = record { relation = rel; name = name; columns = map output_name (out-Query query).columns }
  record_at t = record { relation = 0; name = []; columns = [] }

  abbrev pub record_of : JoinTree → Leaf
  record_of t = record_at (out-JoinTree t)

  opens : (x : JoinTreeLayer) (t : JoinTree) → roll-JoinTree x ≡ t → record_of t ≡ record_at x
  opens x t rolls = ap record_at (sym (ap out-JoinTree rolls) ∙ out-roll-JoinTree x)

  pub record_base : (rel : ℕ) (name : List ℕ) (table : ℕ) → record_of (tree.Base rel name table) ≡ record { relation = rel; name = name; columns = names_of_table (slice_get catalog.tables table) }
  record_base rel name table = opens (JoinTree-F.Base rel name table) (tree.Base rel name table) (tree.rolls-Base rel name table)

  pub record_sub : (rel : ℕ) (name : List ℕ) (query : Query) → record_of (tree.Sub rel name query) ≡ record { relation = rel; name = name; columns = map output_name (out-Query query).columns }
  record_sub rel name query = opens (JoinTree-F.Sub rel name query) (tree.Sub rel name query) (tree.rolls-Sub rel name query)

  abbrev ne : Expr → List Leaf
  ne = lists.in_expr Leaf no_own (leaf_here catalog)

  abbrev nt : JoinTree → List Leaf
  nt = lists.in_tree Leaf no_own (leaf_here catalog)

  abbrev n_order : Order → List Leaf
  n_order = lists.in_order Leaf no_own (leaf_here catalog)

  abbrev nu : Output → List Leaf
  nu = lists.in_output Leaf no_own (leaf_here catalog)

  abbrev nq : Query → List Leaf
  nq = lists.in_query Leaf no_own (leaf_here catalog)

  same_list : {A : Type 0} (f : A → List Leaf) (g : A → List JoinTree) (xs : List A) → Each (λ x. f x ≡ map record_of (g x)) xs → all_in (map f xs) ≡ map record_of (all_in (map g xs))
  same_list f g [] h = refl
  same_list f g (x ∷ xs) h = ap₂ ◌++◌ h.0 (same_list f g xs h.1) ∙ sym (append_map record_of (g x) (all_in (map g xs)))

  joined : (a b : List Leaf) (c d : List JoinTree) → a ≡ map record_of c → b ≡ map record_of d → a ++ b ≡ map record_of (c ++ d)
  joined a b c d p q = ap₂ ◌++◌ p q ∙ sym (append_map record_of c d)

  expr_step : (x : ExprLayer) → Each (λ e. ne e ≡ map record_of (trees_in_expr e)) (parts x) → Each (λ q. nq q ≡ map record_of (trees_in_query q)) (option_part (sublink_query x)) → ne (roll-Expr x) ≡ map record_of (trees_in_expr (roll-Expr x))
  expr_step x es qs =
      lists.at_expr Leaf no_own (leaf_here catalog) x
      ∙ joined (all_in (map ne (parts x))) (all_in (map nq (option_part (sublink_query x)))) (all_in (map trees_in_expr (parts x))) (all_in (map trees_in_query (option_part (sublink_query x)))) (same_list ne trees_in_expr (parts x) es) (same_list nq trees_in_query (option_part (sublink_query x)) qs)
      ∙ sym (ap (map record_of) (lists.at_expr JoinTree no_own tree_here x))

  own_same : (t : JoinTreeLayer) → leaf_here catalog (lists.tree_level Leaf no_own (leaf_here catalog) t) ≡ map record_of (tree_here (lists.tree_level JoinTree no_own tree_here t))
  own_same (JoinTree-F.Base rel name table) = ap (λ l. l ∷ []) (sym (record_base rel name table))
  own_same (JoinTree-F.Sub rel name query) = ap (λ l. l ∷ []) (sym (record_sub rel name query))
  own_same (JoinTree-F.Join kind left right on) = refl
  own_same (JoinTree-F.From members conds) = refl

  tree_step : (t : JoinTreeLayer) → Each (λ u. nt u ≡ map record_of (trees_in_tree u)) (trees t) → Each (λ e. ne e ≡ map record_of (trees_in_expr e)) (conditions t) → Each (λ q. nq q ≡ map record_of (trees_in_query q)) (option_part (leaf_query t)) → nt (roll-JoinTree t) ≡ map record_of (trees_in_tree (roll-JoinTree t))
  tree_step t ts es qs =
      let tl = all_in (map trees_in_tree (trees t)) in
      let cl = all_in (map trees_in_expr (conditions t)) in
      let ql = all_in (map trees_in_query (option_part (leaf_query t))) in
      let a = same_list nt trees_in_tree (trees t) ts in
      let b = same_list ne trees_in_expr (conditions t) es in
      let c = same_list nq trees_in_query (option_part (leaf_query t)) qs in
      lists.at_tree Leaf no_own (leaf_here catalog) t
      ∙ joined _ _ (tree_here (lists.tree_level JoinTree no_own tree_here t)) (tl ++ (cl ++ ql)) (own_same t) (joined _ _ tl (cl ++ ql) a (joined _ _ cl ql b c))
      ∙ sym (ap (map record_of) (lists.at_tree JoinTree no_own tree_here t))

  query_step : (q : QueryLayer) → Each (λ u. nu u ≡ map record_of (trees_in_output u)) q.columns → nt q.tree ≡ map record_of (trees_in_tree q.tree) → Each (λ e. ne e ≡ map record_of (trees_in_expr e)) q.conds → Each (λ o. n_order o ≡ map record_of (trees_in_order o)) q.order → nq (roll-Query q) ≡ map record_of (trees_in_query (roll-Query q))
  query_step q us t es os =
      let ul = all_in (map trees_in_output q.columns) in
      let cl = all_in (map trees_in_expr q.conds) in
      let ol = all_in (map trees_in_order q.order) in
      lists.at_query Leaf no_own (leaf_here catalog) q
      ∙ joined _ _ ul (trees_in_tree q.tree ++ (cl ++ ol)) (same_list nu trees_in_output q.columns us) (joined _ _ (trees_in_tree q.tree) (cl ++ ol) t (joined _ _ cl ol (same_list ne trees_in_expr q.conds es) (same_list n_order trees_in_order q.order os)))
      ∙ sym (ap (map record_of) (lists.at_query JoinTree no_own tree_here q))

  pub leaves_are : (q : Query) → leaves_of catalog q ≡ map record_of (trees_in_query q)
  leaves_are = induction.at_query (λ e. ne e ≡ map record_of (trees_in_expr e)) (λ t. nt t ≡ map record_of (trees_in_tree t)) (λ o. n_order o ≡ map record_of (trees_in_order o)) (λ u. nu u ≡ map record_of (trees_in_output u)) (λ q. nq q ≡ map record_of (trees_in_query q)) (record {
    expr = expr_step;
    tree = tree_step;
    order = λ o h. lists.at_order Leaf no_own (leaf_here catalog) o ∙ h ∙ sym (ap (map record_of) (lists.at_order JoinTree no_own tree_here o));
    output = λ u h. lists.at_output Leaf no_own (leaf_here catalog) u ∙ h ∙ sym (ap (map record_of) (lists.at_output JoinTree no_own tree_here u));
    query = query_step;
  })

  -- ---- the name of a leaf

  -- a name that is found is that of a leaf of the number
  pub name_found : (q : Query) (u : JoinTree) → In u (trees_in_query q) → (record_of u).relation < 64 → (name : RelName) × (find (is_name_of (record_of u).relation) (names_of catalog q) ≡ Some name) × (v : JoinTree) × In v (trees_in_query q) × ((record_of v).relation ≡ (record_of u).relation) × (name.columns ≡ (record_of v).columns)
  name_found q u m low =
      let rel = (record_of u).relation in
      let leaves = leaves_of catalog q in
      let leaf = subst (In (record_of u)) (sym (leaves_are q)) (in_map record_of u (trees_in_query q) m) in
      let first = finds (is_leaf_of rel) leaves (record_of u) leaf (eq-eqb rel rel refl) in
      let first_is = is_found (is_leaf_of rel) leaves first.0 first.1 in
      let here : In (named leaves first.0) (name_at leaves rel) = subst (λ o. In (named leaves first.0) (map (named leaves) (option_part o))) (sym first.1) (inl refl) in
      let listed = in_flat_map (name_at leaves) rel (named leaves first.0) (below 64) (in_below rel 64 low) here in
      let name = finds (is_name_of rel) (names_of catalog q) (named leaves first.0) listed first_is.1 in
      let name_is = is_found (is_name_of rel) (names_of catalog q) name.0 name.1 in
      let from = from_flat_map (name_at leaves) name.0 (below 64) name_is.0 in
      let of = of_option leaves from.0 (find (is_leaf_of from.0) leaves) refl name.0 from.2 in
      let tree = from_map record_of of.0 (trees_in_query q) (subst (In of.0) (leaves_are q) of.1) in
      (name.0, name.1, tree.0, tree.1, ap (λ (l : Leaf). l.relation) tree.2 ∙ ap (λ (n : RelName). n.rel) of.2 ∙ eqb-true name.0.rel rel name_is.1, sym (ap (λ (n : RelName). n.columns) of.2) ∙ sym (ap (λ (l : Leaf). l.columns) tree.2))
    where
      of_option : (leaves : List Leaf) (k : ℕ) (o : Option Leaf) → find (is_leaf_of k) leaves ≡ o → (n : RelName) → In n (map (named leaves) (option_part o)) → (l : Leaf) × In l leaves × (named leaves l ≡ n)
      of_option leaves k (Some l) e n (inl same) = (l, (is_found (is_leaf_of k) leaves l e).0, same)
      of_option leaves k (Some l) e n (inr gone) = absurd gone
      of_option leaves k None e n gone = absurd gone
