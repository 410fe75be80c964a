-- The sublinks of a folded query are those that it had, folded, with their numbers.
use Rattle.std.proofs.Common.{◌≡◌, ◌∙◌, ap, sym, subst, refl, ℕ, ◌≤◌, inl, inr, List, [], ◌∷◌, ◌++◌, map, All, Contains}
use Rattle.jp_query.specs.declared.Expr.{Expr}
use Rattle.jp_query.specs.declared.Expr.TheVariants as expr
use Rattle.jp_query.specs.declared.JoinTree.{JoinTree}
use Rattle.jp_query.specs.declared.Order.{Order}
use Rattle.jp_query.specs.declared.Output.{Output}
use Rattle.jp_query.specs.declared.Query.{Query}
use Rattle.jp_query.specs.declared.Expr.TheOpen.{Expr-F}
use Rattle.jp_query.specs.declared.Expr.TheViews.{roll-Order, roll-Output}
use Rattle.jp_query.specs.declared.Expr.TheFolds.{para-Expr, para-JoinTree, para-Order, para-Output, map-Expr, para-roll-Expr, para-roll-JoinTree, para-roll-Order, para-roll-Output, para-roll-Query}
use Rattle.jp_query.specs.Layers.{ExprLayer}
use Rattle.jp_query.specs.Parts.{all_in, option_part, parts, sublink_query, trees, conditions, leaf_query}
use Rattle.jp_query.specs.Freshness.{Sublink, Found, found_in, sublink_here, expr_found, tree_found, order_found, output_found, query_found, sublinks_in}
use Rattle.jp_query.proofs.FoldLaws as laws
use Rattle.jp_facts.proofs.Members.{In, to_in, from_in}
use Rattle.jp_laws.proofs.EachPart.{Each, each_of, all_of_each, each_weaker, parts_map, sublink_map, trees_map, conditions_map, leaf_map}
use Rattle.jp_folding.specs.Folding as fold
use Rattle.jp_folding.proofs.TypeLaws.{expr_parts_folded}
use Rattle.jp_folded.proofs.GatheredLaws as gather

abbrev in_expr : Expr → Found
in_expr = para-Expr Found Found Found Found Found expr_found tree_found order_found output_found query_found

abbrev in_tree : JoinTree → Found
in_tree = para-JoinTree Found Found Found Found Found expr_found tree_found order_found output_found query_found

abbrev in_order : Order → Found
in_order = para-Order Found Found Found Found Found expr_found tree_found order_found output_found query_found

abbrev in_output : Output → Found
in_output = para-Output Found Found Found Found Found expr_found tree_found order_found output_found query_found

-- the sublink that a level is
abbrev own : ExprLayer → Found
own (Expr-F.Exists sub query) = record { number = sub; node = expr.Exists sub query } ∷ []
own (Expr-F.InSub sub operand query) = record { number = sub; node = expr.InSub sub operand query } ∷ []
own _ = []

with_found : {X : Type 0} (f : X → Found) (xs : List X) → map found_in (map (λ (x : X). (x, f x)) xs) ≡ map f xs
with_found f [] = refl
with_found f (x ∷ xs) = ap (λ fs. f x ∷ fs) (with_found f xs)

abbrev with_e : Expr → Expr × Found
with_e x = (x, in_expr x)

abbrev with_t : JoinTree → JoinTree × Found
with_t x = (x, in_tree x)

abbrev with_o : Order → Order × Found
with_o x = (x, in_order x)

abbrev with_u : Output → Output × Found
with_u x = (x, in_output x)

abbrev with_q : Query → Query × Found
with_q x = (x, sublinks_in x)

abbrev beside : ExprLayer → Expr-F (Expr × Found) (JoinTree × Found) (Order × Found) (Output × Found) (Query × Found)
beside = map-Expr Expr JoinTree Order Output Query (Expr × Found) (JoinTree × Found) (Order × Found) (Output × Found) (Query × Found) with_e with_t with_o with_u with_q

here_is : (x : ExprLayer) → sublink_here (beside x) ≡ own x
here_is (Expr-F.Exists sub query) = refl
here_is (Expr-F.InSub sub operand query) = refl
here_is x = refl

is_gathered : gather.IsGathered Sublink in_expr in_tree in_order in_output sublinks_in own (λ t. [])
is_gathered = record {
  expr = λ x. para-roll-Expr Found Found Found Found Found expr_found tree_found order_found output_found query_found x
      ∙ (λ i. here_is x i ++ (all_in ((ap (map found_in) (parts_map with_e with_t with_o with_u with_q x) ∙ with_found in_expr (parts x)) i)
      ++ all_in ((ap (map found_in) (sublink_map with_e with_t with_o with_u with_q x) ∙ with_found sublinks_in (option_part (sublink_query x))) i)));
  tree = λ t. para-roll-JoinTree Found Found Found Found Found expr_found tree_found order_found output_found query_found t
      ∙ (λ i. all_in ((ap (map found_in) (trees_map with_e with_t with_o with_u with_q t) ∙ with_found in_tree (trees t)) i)
      ++ (all_in ((ap (map found_in) (conditions_map with_e with_t with_o with_u with_q t) ∙ with_found in_expr (conditions t)) i)
      ++ all_in ((ap (map found_in) (leaf_map with_e with_t with_o with_u with_q t) ∙ with_found sublinks_in (option_part (leaf_query t))) i)));
  order = para-roll-Order Found Found Found Found Found expr_found tree_found order_found output_found query_found;
  output = para-roll-Output Found Found Found Found Found expr_found tree_found order_found output_found query_found;
  query = λ q. para-roll-Query Found Found Found Found Found expr_found tree_found order_found output_found query_found q
      ∙ (λ i. all_in (with_found in_output q.columns i) ++ (in_tree q.tree ++ (all_in (with_found in_expr q.conds i) ++ all_in (with_found in_order q.order i))));
}

abbrev folded_sublink : Sublink → Sublink
folded_sublink s = record { number = s.number; node = fold.folded_expr s.node }

exists_folded : (sub : ℕ) (query : Query) → fold.folded_expr (expr.Exists sub query) ≡ expr.Exists sub (fold.folded query)
exists_folded sub query = laws.at-Exists Expr JoinTree Order Output Query fold.expr_folded fold.tree_folded roll-Order roll-Output fold.query_folded sub query ∙ expr.rolls-Exists sub (fold.folded query)

in_folded : (sub : ℕ) (operand : Expr) (query : Query) → fold.folded_expr (expr.InSub sub operand query) ≡ expr.InSub sub (fold.folded_expr operand) (fold.folded query)
in_folded sub operand query = laws.at-InSub Expr JoinTree Order Output Query fold.expr_folded fold.tree_folded roll-Order roll-Output fold.query_folded sub operand query ∙ expr.rolls-InSub sub (fold.folded_expr operand) (fold.folded query)

node_kept : (P : Sublink → Type 0) (x : ExprLayer) → Each (λ s. P (folded_sublink s)) (own x) → Each P (own (expr_parts_folded x))
node_kept P (Expr-F.Exists sub query) h = (subst (λ e. P (record { number = sub; node = e })) (exists_folded sub query) h.0, tt)
node_kept P (Expr-F.InSub sub operand query) h = (subst (λ e. P (record { number = sub; node = e })) (in_folded sub operand query) h.0, tt)
node_kept P x h = tt

is_own : (P : Sublink → Type 0) → gather.IsOwn Sublink in_expr in_tree in_order in_output sublinks_in own (λ t. []) (λ s. P (folded_sublink s)) P
is_own P = record {
  node = node_kept P;
  literal = λ v t. refl;
  and_node = λ es. refl;
  or_node = λ es. refl;
  own_leaf = λ t h. tt;
  join_leaf = λ kind left right on. refl;
  from_leaf = λ members conds. refl;
}

-- what holds of each sublink when it is folded holds of each in the folded query
pub sublinks_keep : (P : Sublink → Type 0) (q : Query) → Each (λ s. P (folded_sublink s)) (sublinks_in q) → Each P (sublinks_in (fold.folded q))
sublinks_keep P = gather.query_keeps Sublink in_expr in_tree in_order in_output sublinks_in own (λ t. []) is_gathered (λ s. P (folded_sublink s)) P (is_own P)

-- ---- what is asked of a fresh query's sublinks

pub numbers_kept : (q : Query) → All (λ s. (1 ≤ s.number) × (s.number ≤ 15)) (sublinks_in q) → All (λ s. (1 ≤ s.number) × (s.number ≤ 15)) (sublinks_in (fold.folded q))
numbers_kept q h = all_of_each (λ s. (1 ≤ s.number) × (s.number ≤ 15)) (sublinks_in (fold.folded q)) (sublinks_keep (λ s. (1 ≤ s.number) × (s.number ≤ 15)) q (each_of (λ s. (1 ≤ s.number) × (s.number ≤ 15)) (sublinks_in q) h))

abbrev IsFolded : Query → Sublink → Type 0
IsFolded q t = (s : Sublink) × In s (sublinks_in q) × (t ≡ folded_sublink s)

itself_there : (xs all : Found) → ((s : Sublink) → In s xs → In s all) → Each (λ s. In s all) xs
itself_there [] all h = tt
itself_there (x ∷ xs) all h = (h x (inl refl), itself_there xs all (λ s p. h s (inr p)))

each_folded : (q : Query) → Each (IsFolded q) (sublinks_in (fold.folded q))
each_folded q = sublinks_keep (IsFolded q) q (each_weaker (λ s. In s (sublinks_in q)) (λ s. IsFolded q (folded_sublink s)) (λ s p. (s, p, refl)) (sublinks_in q) (itself_there (sublinks_in q) (sublinks_in q) (λ s p. p)))

each_in : {X : Type 0} (P : X → Type 0) (xs : List X) → Each P xs → (x : X) → In x xs → P x
each_in P [] h x p = absurd p
each_in P (y ∷ xs) h x (inl e) = subst P e h.0
each_in P (y ∷ xs) h x (inr p) = each_in P xs h.1 x p

pub equal_kept : (q : Query) → ((a b : Sublink) → Contains (sublinks_in q) a → Contains (sublinks_in q) b → a.number ≡ b.number → a.node ≡ b.node) → (a b : Sublink) → Contains (sublinks_in (fold.folded q)) a → Contains (sublinks_in (fold.folded q)) b → a.number ≡ b.number → a.node ≡ b.node
equal_kept q h a b p r same =
    let (s, in_s, is_s) = each_in (IsFolded q) (sublinks_in (fold.folded q)) (each_folded q) a (to_in a (sublinks_in (fold.folded q)) p) in
    let (t, in_t, is_t) = each_in (IsFolded q) (sublinks_in (fold.folded q)) (each_folded q) b (to_in b (sublinks_in (fold.folded q)) r) in
    let numbers : s.number ≡ t.number = sym (ap (λ (x : Sublink). x.number) is_s) ∙ same ∙ ap (λ (x : Sublink). x.number) is_t in
    ap (λ (x : Sublink). x.node) is_s ∙ ap fold.folded_expr (h s t (from_in s (sublinks_in q) in_s) (from_in t (sublinks_in q) in_t) numbers) ∙ sym (ap (λ (x : Sublink). x.node) is_t)
