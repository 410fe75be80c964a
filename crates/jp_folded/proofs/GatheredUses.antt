-- A folded query has no placeholder, leaf or table that it didn't have.
use Rattle.std.proofs.Common.{◌≡◌, ◌∙◌, sym, subst, refl, ℕ, zero, suc, ◌+◌, ◌/◌, ◌%◌, ◌≤◌, List, [], ◌∷◌, ◌++◌, map, count_ones, All, arith}
use Rattle.std.specs.Int.{bit_at}
use Rattle.std.proofs.lemmas.Nat.Bits.{bit_at_lowest, bit_at-suc, bit_at-lt}
use Rattle.std.specs.Int.Count.{ones_step}
use Rattle.jp_base.specs.Sets.{Within}
use Rattle.jp_base.proofs.MaskAlgebra.{EachWithin, fold_within, within_fold, has_none}
use Rattle.jp_query.specs.declared.JoinKind.{JoinKind}
use Rattle.jp_query.specs.declared.Expr.{Expr}
use Rattle.jp_query.specs.declared.JoinTree.{JoinTree}
use Rattle.jp_query.specs.declared.Order.{Order}
use Rattle.jp_query.specs.declared.Output.{Output}
use Rattle.jp_query.specs.declared.Query.{Query}
use Rattle.jp_query.specs.declared.Expr.TheOpen.{Expr-F, JoinTree-F}
use Rattle.jp_query.specs.declared.Expr.TheFolds.{fold-Order, fold-Output, map-Expr, map-JoinTree, fold-roll-Expr, fold-roll-JoinTree, fold-roll-Order, fold-roll-Output, fold-roll-Query}
use Rattle.jp_query.specs.Layers.{ExprLayer, JoinTreeLayer}
use Rattle.jp_query.specs.Parts.{all_in, expr_gives, tree_gives, order_gives, output_gives, query_gives, gathered, gathered_in_tree, gathered_in_query, nothing_of_node, nothing_of_leaf, node_placeholder, leaf_number, base_number, base_table, placeholders_in_query, leaves_in, base_leaves_in, tables_in}
use Rattle.jp_query.specs.Refs.{only, union}
use Rattle.jp_laws.proofs.EachPart.{Each, each_of, all_of_each, parts_map, sublink_map, trees_map, conditions_map, leaf_map}
use Rattle.jp_folding.specs.Folding as fold
use Rattle.jp_folding.proofs.TypeLaws.{expr_parts_folded, tree_parts_folded}
use Rattle.jp_folded.proofs.GatheredLaws as gather

-- ---- lists by what a node and a leaf give

module _ (of_node : Expr-F (List ℕ) (List ℕ) (List ℕ) (List ℕ) (List ℕ) → List ℕ) (of_leaf : JoinTree-F (List ℕ) (List ℕ) (List ℕ) (List ℕ) (List ℕ) → List ℕ) where
  abbrev in_expr : Expr → List ℕ
  in_expr = gathered ℕ of_node of_leaf

  abbrev in_tree : JoinTree → List ℕ
  in_tree = gathered_in_tree ℕ of_node of_leaf

  abbrev in_query : Query → List ℕ
  in_query = gathered_in_query ℕ of_node of_leaf

  abbrev in_order : Order → List ℕ
  in_order = fold-Order (List ℕ) (List ℕ) (List ℕ) (List ℕ) (List ℕ) (expr_gives ℕ of_node of_leaf) (tree_gives ℕ of_node of_leaf) (order_gives ℕ of_node of_leaf) (output_gives ℕ of_node of_leaf) (query_gives ℕ of_node of_leaf)

  abbrev in_output : Output → List ℕ
  in_output = fold-Output (List ℕ) (List ℕ) (List ℕ) (List ℕ) (List ℕ) (expr_gives ℕ of_node of_leaf) (tree_gives ℕ of_node of_leaf) (order_gives ℕ of_node of_leaf) (output_gives ℕ of_node of_leaf) (query_gives ℕ of_node of_leaf)

  abbrev node_level : ExprLayer → Expr-F (List ℕ) (List ℕ) (List ℕ) (List ℕ) (List ℕ)
  node_level = map-Expr Expr JoinTree Order Output Query (List ℕ) (List ℕ) (List ℕ) (List ℕ) (List ℕ) in_expr in_tree in_order in_output in_query

  abbrev leaf_level : JoinTreeLayer → JoinTree-F (List ℕ) (List ℕ) (List ℕ) (List ℕ) (List ℕ)
  leaf_level = map-JoinTree Expr JoinTree Order Output Query (List ℕ) (List ℕ) (List ℕ) (List ℕ) (List ℕ) in_expr in_tree in_order in_output in_query

  abbrev own : ExprLayer → List ℕ
  own x = of_node (node_level x)

  abbrev leaf_of : JoinTreeLayer → List ℕ
  leaf_of t = of_leaf (leaf_level t)

  is_gathered : gather.IsGathered ℕ in_expr in_tree in_order in_output in_query own leaf_of
  is_gathered = record {
    expr = λ x. fold-roll-Expr (List ℕ) (List ℕ) (List ℕ) (List ℕ) (List ℕ) (expr_gives ℕ of_node of_leaf) (tree_gives ℕ of_node of_leaf) (order_gives ℕ of_node of_leaf) (output_gives ℕ of_node of_leaf) (query_gives ℕ of_node of_leaf) x
        ∙ (λ i. of_node (node_level x) ++ (all_in (parts_map in_expr in_tree in_order in_output in_query x i) ++ all_in (sublink_map in_expr in_tree in_order in_output in_query x i)));
    tree = λ t. fold-roll-JoinTree (List ℕ) (List ℕ) (List ℕ) (List ℕ) (List ℕ) (expr_gives ℕ of_node of_leaf) (tree_gives ℕ of_node of_leaf) (order_gives ℕ of_node of_leaf) (output_gives ℕ of_node of_leaf) (query_gives ℕ of_node of_leaf) t
        ∙ (λ i. of_leaf (leaf_level t) ++ (all_in (trees_map in_expr in_tree in_order in_output in_query t i) ++ (all_in (conditions_map in_expr in_tree in_order in_output in_query t i) ++ all_in (leaf_map in_expr in_tree in_order in_output in_query t i))));
    order = fold-roll-Order (List ℕ) (List ℕ) (List ℕ) (List ℕ) (List ℕ) (expr_gives ℕ of_node of_leaf) (tree_gives ℕ of_node of_leaf) (order_gives ℕ of_node of_leaf) (output_gives ℕ of_node of_leaf) (query_gives ℕ of_node of_leaf);
    output = fold-roll-Output (List ℕ) (List ℕ) (List ℕ) (List ℕ) (List ℕ) (expr_gives ℕ of_node of_leaf) (tree_gives ℕ of_node of_leaf) (order_gives ℕ of_node of_leaf) (output_gives ℕ of_node of_leaf) (query_gives ℕ of_node of_leaf);
    query = fold-roll-Query (List ℕ) (List ℕ) (List ℕ) (List ℕ) (List ℕ) (expr_gives ℕ of_node of_leaf) (tree_gives ℕ of_node of_leaf) (order_gives ℕ of_node of_leaf) (output_gives ℕ of_node of_leaf) (query_gives ℕ of_node of_leaf);
  }

  abbrev IsOwn : (ℕ → Type 0) → Type 0
  IsOwn P = gather.IsOwn ℕ in_expr in_tree in_order in_output in_query own leaf_of P P

  keeps : (P : ℕ → Type 0) → IsOwn P → (q : Query) → Each P (in_query q) → Each P (in_query (fold.folded q))
  keeps P = gather.query_keeps ℕ in_expr in_tree in_order in_output in_query own leaf_of is_gathered P P

place_own : (P : ℕ → Type 0) (x : ExprLayer) → Each P (own node_placeholder nothing_of_leaf x) → Each P (own node_placeholder nothing_of_leaf (expr_parts_folded x))
place_own P (Expr-F.Place inner rels) h = h
place_own P x h = tt

places_own : (P : ℕ → Type 0) → IsOwn node_placeholder nothing_of_leaf P
places_own P = record {
  node = place_own P;
  literal = λ v t. refl;
  and_node = λ es. refl;
  or_node = λ es. refl;
  own_leaf = λ t h. tt;
  join_leaf = λ kind left right on. refl;
  from_leaf = λ members conds. refl;
}

module _ (of_leaf : JoinTree-F (List ℕ) (List ℕ) (List ℕ) (List ℕ) (List ℕ) → List ℕ) (same : (t : JoinTreeLayer) → leaf_of nothing_of_node of_leaf (tree_parts_folded t) ≡ leaf_of nothing_of_node of_leaf t)
    (join_none : (kind : JoinKind) (left right : JoinTree) (on : List Expr) → leaf_of nothing_of_node of_leaf (JoinTree-F.Join kind left right on) ≡ []) (from_none : (members : List JoinTree) (conds : List Expr) → leaf_of nothing_of_node of_leaf (JoinTree-F.From members conds) ≡ []) (P : ℕ → Type 0) where
  leaves_own : IsOwn nothing_of_node of_leaf P
  leaves_own = record {
    node = λ x h. tt;
    literal = λ v t. refl;
    and_node = λ es. refl;
    or_node = λ es. refl;
    own_leaf = λ t h. subst (Each P) (sym (same t)) h;
    join_leaf = join_none;
    from_leaf = from_none;
  }

leaf_same : (t : JoinTreeLayer) → leaf_of nothing_of_node leaf_number (tree_parts_folded t) ≡ leaf_of nothing_of_node leaf_number t
leaf_same (JoinTree-F.Base rel name table) = refl
leaf_same (JoinTree-F.Sub rel name query) = refl
leaf_same t = refl

base_same : (t : JoinTreeLayer) → leaf_of nothing_of_node base_number (tree_parts_folded t) ≡ leaf_of nothing_of_node base_number t
base_same (JoinTree-F.Base rel name table) = refl
base_same t = refl

table_same : (t : JoinTreeLayer) → leaf_of nothing_of_node base_table (tree_parts_folded t) ≡ leaf_of nothing_of_node base_table t
table_same (JoinTree-F.Base rel name table) = refl
table_same t = refl

-- ---- in a query

none : {X : Type 0} (xs : List X) → Each (λ x. ⊥) xs → xs ≡ []
none [] h = refl
none (x ∷ xs) h = absurd h.0

each_none : {X : Type 0} (xs : List X) → xs ≡ [] → Each (λ x. ⊥) xs
each_none xs h = subst (Each (λ x. ⊥)) (sym h) tt

pub no_placeholder : (q : Query) → placeholders_in_query q ≡ [] → placeholders_in_query (fold.folded q) ≡ []
no_placeholder q h = none (placeholders_in_query (fold.folded q)) (keeps node_placeholder nothing_of_leaf (λ x. ⊥) (places_own (λ x. ⊥)) q (each_none (placeholders_in_query q) h))

pub leaves_keep : (P : ℕ → Type 0) (q : Query) → All P (leaves_in q) → All P (leaves_in (fold.folded q))
leaves_keep P q h = all_of_each P (leaves_in (fold.folded q)) (keeps nothing_of_node leaf_number P (leaves_own leaf_number leaf_same (λ kind left right on. refl) (λ members conds. refl) P) q (each_of P (leaves_in q) h))

pub tables_keep : (P : ℕ → Type 0) (q : Query) → All P (tables_in q) → All P (tables_in (fold.folded q))
tables_keep P q h = all_of_each P (tables_in (fold.folded q)) (keeps nothing_of_node base_table P (leaves_own base_table table_same (λ kind left right on. refl) (λ members conds. refl) P) q (each_of P (tables_in q) h))

-- ---- counts of members

within_half : (a b : ℕ) → Within a b → Within (a / 2) (b / 2)
within_half a b h i e = subst (λ n. n ≡ 1) (bit_at-suc b i) (h (suc i) (subst (λ n. n ≡ 1) (sym (bit_at-suc a i)) e))

low_digit : (a b : ℕ) → Within a b → a % 2 ≤ b % 2
low_digit a b h = by (bit_at a 0) refl
  where
    by : (d : ℕ) → bit_at a 0 ≡ d → a % 2 ≤ b % 2
    by zero e = omega (arith, bit_at_lowest a, e)
    by (suc zero) e = omega (arith, bit_at_lowest a, bit_at_lowest b, e, h 0 e)
    by (suc (suc d)) e = absurd (omega (arith, bit_at-lt a 0, e))

fewer : (n a b : ℕ) → a ≤ n → b ≤ n → Within a b → count_ones a ≤ count_ones b
fewer zero a b la lb h = let same : a ≡ b = omega arith in subst (λ c. count_ones a ≤ count_ones c) same (omega arith)
fewer (suc n) a b la lb h =
    let rest = fewer n (a / 2) (b / 2) (omega arith) (omega arith) (within_half a b h) in
    omega (arith, ones_step a, ones_step b, rest, low_digit a b h)

pub fewer_members : (a b : ℕ) → Within a b → count_ones a ≤ count_ones b
fewer_members a b = fewer (a + b) a b (omega arith) (omega arith)

each_in_union : (set : ℕ) (ns : List ℕ) → Each (λ n. Within (only n) set) ns → EachWithin set (map only ns)
each_in_union set [] h = tt
each_in_union set (n ∷ ns) h = (h.0, each_in_union set ns h.1)

in_union : (set : ℕ) (ns : List ℕ) → EachWithin set (map only ns) → Each (λ n. Within (only n) set) ns
in_union set [] h = tt
in_union set (n ∷ ns) h = (h.0, in_union set ns h.1)

pub bases_fewer : (q : Query) → count_ones (union (map only (base_leaves_in (fold.folded q)))) ≤ count_ones (union (map only (base_leaves_in q)))
bases_fewer q =
    let all = union (map only (base_leaves_in q)) in
    let inner = in_union all (base_leaves_in q) (fold_within all 0 (map only (base_leaves_in q)) (λ i e. e)).1 in
    let kept = keeps nothing_of_node base_number (λ n. Within (only n) all) (leaves_own base_number base_same (λ kind left right on. refl) (λ members conds. refl) (λ n. Within (only n) all)) q inner in
    fewer_members (union (map only (base_leaves_in (fold.folded q)))) all
    (within_fold all 0 (map only (base_leaves_in (fold.folded q))) (λ i e. absurd (has_none i e)) (each_in_union all (base_leaves_in (fold.folded q)) kept))
