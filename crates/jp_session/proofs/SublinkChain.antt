-- The sublinks of a part are among those of the query whose block uses it, and so is the part itself where it is a sublink.
use Rattle.std.proofs.Common.{◌≡◌, ◌∙◌, ap, ap₂, sym, refl, subst, ℕ, inl, inr, Bool, true, false, List, [], ◌∷◌, ◌++◌, map, Some, None, append-nil, append_assoc}
use Rattle.std.specs.Prelude.{fold}
use Rattle.std.specs.List.{flat_map}
use Rattle.jp_facts.proofs.Members.{In, in_append_left, in_append_right, from_append, in_flat_map, from_flat_map}
use Rattle.jp_query.specs.declared.JoinKind.{JoinKind}
use Rattle.jp_query.specs.declared.Expr.{out-Expr}
use Rattle.jp_query.specs.declared.Expr.TheFolds.{map-Expr, para-JoinTree, para-Order, para-Output, para-roll-Expr, para-roll-JoinTree, para-roll-Output, para-roll-Order, para-roll-Query}
use Rattle.jp_query.specs.declared.Expr.TheVariants as expr
use Rattle.jp_query.specs.declared.JoinTree.TheVariants as tree
use Rattle.jp_query.specs.declared.Expr.TheViews.{roll-Expr, roll-JoinTree, roll-Query, outs-Exists, outs-InSub}
use Rattle.jp_query.specs.declared.Order.{out-Order, roll-out-Order}
use Rattle.jp_query.specs.declared.Output.{out-Output, roll-out-Output}
use Rattle.jp_query.specs.declared.Query.{out-Query, roll-out-Query}
use Rattle.jp_query.specs.declared.Expr.{Expr}
use Rattle.jp_query.specs.declared.JoinTree.{JoinTree}
use Rattle.jp_query.specs.declared.Order.{Order}
use Rattle.jp_query.specs.declared.Output.{Output}
use Rattle.jp_query.specs.declared.Query.{Query}
use Rattle.jp_query.specs.declared.Expr.TheOpen.{Expr-F, JoinTree-F}
use Rattle.jp_query.specs.Layers.{ExprLayer, JoinTreeLayer, QueryLayer}
use Rattle.jp_query.specs.Freshness.{Found, Sublink, found_in, sublink_here, expr_found, tree_found, order_found, output_found, query_found, sublinks_in}
use Rattle.jp_query.specs.Parts.{all_in, option_part, parts, sublink_query, trees, conditions, leaf_query}
use Rattle.jp_query.specs.Subexpressions.{sublinks_of}
use Rattle.jp_induction.proofs.EachPart.{Each, parts_map, sublink_map, trees_map, conditions_map, leaf_map}
use Rattle.jp_induction.proofs.Induction.{expr_alone, tree_alone}
use Rattle.jp_problem.specs.Blocks.{order_expr, output_expr}
use Rattle.jp_problem.specs.InnerBlocks.{side_block}
use Rattle.jp_problem.specs.Shapes.{Shape, nothing, beside, together, shape_of}
use Rattle.jp_session.specs.declared.sources.Part.{Part}
use Rattle.jp_session.specs.Parts.{condition_parts, is_full, item_part, item_parts, order_parts, output_parts, parts_of, sublink_part, sublink_parts}
use Rattle.jp_session.proofs.OuterLevels.{own_outers, parts_level}
use Rattle.jp_session.proofs.PartLaws as laws

-- ---- the sublinks at one level

abbrev found_of_tree : JoinTree → Found
found_of_tree = para-JoinTree Found Found Found Found Found expr_found tree_found order_found output_found query_found

abbrev found_of_order : Order → Found
found_of_order = para-Order Found Found Found Found Found expr_found tree_found order_found output_found query_found

abbrev found_of_output : Output → Found
found_of_output = para-Output Found Found Found Found Found expr_found tree_found order_found output_found query_found

abbrev with_found : {X : Type 0} → (X → Found) → X → X × Found
with_found found x = (x, found x)

at_output : (u : Output) → found_of_output u ≡ sublinks_of (output_expr u)
at_output u = ap found_of_output (sym (roll-out-Output u)) ∙ para-roll-Output Found Found Found Found Found expr_found tree_found order_found output_found query_found (out-Output u)

at_order : (o : Order) → found_of_order o ≡ sublinks_of (order_expr o)
at_order o = ap found_of_order (sym (roll-out-Order o)) ∙ para-roll-Order Found Found Found Found Found expr_found tree_found order_found output_found query_found (out-Order o)

all_with : {X : Type 0} (found : X → Found) (xs : List X) → all_in (map found_in (map (with_found found) xs)) ≡ flat_map found xs
all_with found [] = refl
all_with found (x ∷ xs) = ap (λ ss. found x ++ ss) (all_with found xs)

abbrev own_found : ExprLayer → Found
own_found x = sublink_here (map-Expr Expr JoinTree Order Output Query (Expr × Found) (JoinTree × Found) (Order × Found) (Output × Found) (Query × Found) (with_found sublinks_of) (with_found found_of_tree) (with_found found_of_order) (with_found found_of_output) (with_found sublinks_in) x)

at_expr : (x : ExprLayer) → sublinks_of (roll-Expr x) ≡ own_found x ++ (flat_map sublinks_of (parts x) ++ flat_map sublinks_in (option_part (sublink_query x)))
at_expr x =
    para-roll-Expr Found Found Found Found Found expr_found tree_found order_found output_found query_found x
    ∙ ap₂ (λ ps qs. own_found x ++ (ps ++ qs))
    (ap (λ ps. all_in (map found_in ps)) (parts_map (with_found sublinks_of) (with_found found_of_tree) (with_found found_of_order) (with_found found_of_output) (with_found sublinks_in) x) ∙ all_with sublinks_of (parts x))
    (ap (λ qs. all_in (map found_in qs)) (sublink_map (with_found sublinks_of) (with_found found_of_tree) (with_found found_of_order) (with_found found_of_output) (with_found sublinks_in) x) ∙ all_with sublinks_in (option_part (sublink_query x)))

at_tree : (t : JoinTreeLayer) → found_of_tree (roll-JoinTree t) ≡ flat_map found_of_tree (trees t) ++ (flat_map sublinks_of (conditions t) ++ flat_map sublinks_in (option_part (leaf_query t)))
at_tree t =
    para-roll-JoinTree Found Found Found Found Found expr_found tree_found order_found output_found query_found t
    ∙ ap₂ (λ ps qs. ps ++ qs)
    (ap (λ ps. all_in (map found_in ps)) (trees_map (with_found sublinks_of) (with_found found_of_tree) (with_found found_of_order) (with_found found_of_output) (with_found sublinks_in) t) ∙ all_with found_of_tree (trees t))
    (ap₂ (λ ps qs. ps ++ qs)
    (ap (λ ps. all_in (map found_in ps)) (conditions_map (with_found sublinks_of) (with_found found_of_tree) (with_found found_of_order) (with_found found_of_output) (with_found sublinks_in) t) ∙ all_with sublinks_of (conditions t))
    (ap (λ ps. all_in (map found_in ps)) (leaf_map (with_found sublinks_of) (with_found found_of_tree) (with_found found_of_order) (with_found found_of_output) (with_found sublinks_in) t) ∙ all_with sublinks_in (option_part (leaf_query t))))

at_query_level : (q : QueryLayer) → sublinks_in (roll-Query q) ≡ flat_map found_of_output q.columns ++ (found_of_tree q.tree ++ (flat_map sublinks_of q.conds ++ flat_map found_of_order q.order))
at_query_level q =
    para-roll-Query Found Found Found Found Found expr_found tree_found order_found output_found query_found q
    ∙ ap₂ (λ ps qs. ps ++ (found_of_tree q.tree ++ qs)) (all_with found_of_output q.columns) (ap₂ (λ ps qs. ps ++ qs) (all_with sublinks_of q.conds) (all_with found_of_order q.order))

at_query : (q : Query) → sublinks_in q ≡ flat_map found_of_output (out-Query q).columns ++ (found_of_tree (out-Query q).tree ++ (flat_map sublinks_of (out-Query q).conds ++ flat_map found_of_order (out-Query q).order))
at_query q = ap sublinks_in (sym (roll-out-Query q)) ∙ at_query_level (out-Query q)

-- ---- a part among sublinks

abbrev pub Sub : Found → Found → Type 0
Sub xs ys = (s : Sublink) → In s xs → In s ys

-- where the part is a sublink, it is there
pub record IsThere (found : Found) (number : ℕ) (query : Query) : Type 0 where
  pub sublink : Sublink
  pub there : In sublink found
  pub numbered : sublink.number ≡ number
  pub means : sublink_query (out-Expr sublink.node) ≡ Some query

pub record HasInside (found : Found) (part : Part) : Type 0 where
  pub inner : (s : Sublink) → In s (sublinks_in part.query) → In s found
  pub itself : (number : ℕ) → part.sub ≡ Some number → IsThere found number part.query

pub wider : (xs ys : Found) (part : Part) → Sub xs ys → HasInside xs part → HasInside ys part
wider xs ys part sub h = record {
  inner = λ s k. sub s (h.inner s k);
  itself = λ n e. (let t = h.itself n e in record { sublink = t.sublink; there = sub t.sublink t.there; numbered = t.numbered; means = t.means });
}

pub no_number : (found : Found) (query : Query) → Sub (sublinks_in query) found → HasInside found (item_part query)
no_number found query sub = record { inner = sub; itself = λ n e. absurd (clash n e) }
  where
    clash : (n : ℕ) → None ≡ Some n → ⊥
    clash n e = cc

sub_left : (xs ys : Found) → Sub xs (xs ++ ys)
sub_left xs ys s h = in_append_left s xs ys h

sub_right : (xs ys : Found) → Sub ys (xs ++ ys)
sub_right xs ys s h = in_append_right s xs ys h

sub_of : {X : Type 0} (found : X → Found) (x : X) (xs : List X) → In x xs → Sub (found x) (flat_map found xs)
sub_of found x xs h s k = in_flat_map found x s xs h k

-- ---- expressions

abbrev HasParts : Expr → Type 0
HasParts e = (part : Part) → In part (sublink_parts e) → HasInside (sublinks_of e) part

unsome : (n m : ℕ) → Some n ≡ Some m → n ≡ m
unsome n m e = cc

own_part : (x : ExprLayer) (part : Part) → In part (map sublink_part (own_outers x)) → HasInside (own_found x ++ (flat_map sublinks_of (parts x) ++ flat_map sublinks_in (option_part (sublink_query x)))) part
own_part (Expr-F.Exists sub q) part (inl e) = subst (HasInside _) e (record {
  inner = λ s h. inr (in_append_left s (sublinks_in q) [] h);
  itself = λ n g. record { sublink = record { number = sub; node = expr.Exists sub q }; there = inl refl; numbered = unsome sub n g; means = ap sublink_query (outs-Exists sub q) };
})
own_part (Expr-F.Exists sub q) part (inr r) = absurd r
own_part (Expr-F.InSub sub operand q) part (inl e) = subst (HasInside _) e (record {
  inner = λ s h. inr (in_append_right s (sublinks_of operand ++ []) (sublinks_in q ++ []) (in_append_left s (sublinks_in q) [] h));
  itself = λ n g. record { sublink = record { number = sub; node = expr.InSub sub operand q }; there = inl refl; numbered = unsome sub n g; means = ap sublink_query (outs-InSub sub operand q) };
})
own_part (Expr-F.InSub sub operand q) part (inr r) = absurd r
own_part x part h = absurd h

in_some : (es : List Expr) → Each HasParts es → (part : Part) → In part (flat_map sublink_parts es) → HasInside (flat_map sublinks_of es) part
in_some [] h part k = absurd k
in_some (e ∷ es) h part k = elim (from_append part (sublink_parts e) (flat_map sublink_parts es) k) [
  | inl g ↦ wider (sublinks_of e) (flat_map sublinks_of (e ∷ es)) part (sub_left (sublinks_of e) (flat_map sublinks_of es)) (h.0 part g)
  | inr g ↦ wider (flat_map sublinks_of es) (flat_map sublinks_of (e ∷ es)) part (sub_right (sublinks_of e) (flat_map sublinks_of es)) (in_some es h.1 part g)
]

expr_step : (x : ExprLayer) → Each HasParts (parts x) → HasParts (roll-Expr x)
expr_step x good part h =
    let own = own_found x in
    let inner = flat_map sublinks_of (parts x) in
    let query = flat_map sublinks_in (option_part (sublink_query x)) in
    subst (λ found. HasInside found part) (sym (at_expr x))
    (elim (from_append part (map sublink_part (own_outers x)) (flat_map sublink_parts (parts x)) (subst (In part) (parts_level x) h)) [
      | inl g ↦ own_part x part g
      | inr g ↦ wider inner (own ++ (inner ++ query)) part (λ s k. sub_right own (inner ++ query) s (sub_left inner query s k)) (in_some (parts x) good part g)
    ])

pub in_expr : (e : Expr) → HasParts e
in_expr = expr_alone HasParts expr_step

in_exprs : (es : List Expr) (part : Part) → In part (flat_map sublink_parts es) → HasInside (flat_map sublinks_of es) part
in_exprs es part h = let k = from_flat_map sublink_parts part es h in wider (sublinks_of k.0) (flat_map sublinks_of es) part (sub_of sublinks_of k.0 es k.1) (in_expr k.0 part k.2)

-- ---- trees

pub record HasTreeParts (t : JoinTree) : Type 0 where
  pub items : (part : Part) → In part (item_parts (shape_of t)) → HasInside (found_of_tree t) part
  pub conditions : (part : Part) → In part (condition_parts (shape_of t)) → HasInside (found_of_tree t) part

written_join : (kind : JoinKind) (left right : JoinTree) (on : List Expr) → found_of_tree (tree.Join kind left right on) ≡ (found_of_tree left ++ (found_of_tree right ++ [])) ++ (flat_map sublinks_of on ++ [])
written_join kind left right on = ap found_of_tree (sym (tree.rolls-Join kind left right on)) ∙ at_tree (JoinTree-F.Join kind left right on)

written_from : (members : List JoinTree) (conds : List Expr) → found_of_tree (tree.From members conds) ≡ flat_map found_of_tree members ++ (flat_map sublinks_of conds ++ [])
written_from members conds = ap found_of_tree (sym (tree.rolls-From members conds)) ∙ at_tree (JoinTree-F.From members conds)

written_sub : (rel : ℕ) (name : List ℕ) (query : Query) → found_of_tree (tree.Sub rel name query) ≡ sublinks_in query ++ []
written_sub rel name query = ap found_of_tree (sym (tree.rolls-Sub rel name query)) ∙ at_tree (JoinTree-F.Sub rel name query)

by_tree : (t : JoinTree) (xs ys : Found) (part : Part) → found_of_tree t ≡ ys → Sub xs ys → HasInside xs part → HasInside (found_of_tree t) part
by_tree t xs ys part e sub h = subst (λ found. HasInside found part) (sym e) (wider xs ys part sub h)

side_found : (t : JoinTree) → Sub (sublinks_in (side_block t)) (found_of_tree t)
side_found t s h = elim (from_append s (found_of_tree t) [] (subst (In s) (at_query_level (record { columns = []; distinct = false; tree = t; conds = []; order = [] })) h)) [
  | inl g ↦ g
  | inr g ↦ absurd g
]

module _ (kind : JoinKind) (left right : JoinTree) (on : List Expr) where
  abbrev whole : Found
  whole = (found_of_tree left ++ (found_of_tree right ++ [])) ++ (flat_map sublinks_of on ++ [])

  of_left : Sub (found_of_tree left) whole
  of_left s h = sub_left (found_of_tree left ++ (found_of_tree right ++ [])) (flat_map sublinks_of on ++ []) s (sub_left (found_of_tree left) (found_of_tree right ++ []) s h)

  of_right : Sub (found_of_tree right) whole
  of_right s h = sub_left (found_of_tree left ++ (found_of_tree right ++ [])) (flat_map sublinks_of on ++ []) s (sub_right (found_of_tree left) (found_of_tree right ++ []) s (sub_left (found_of_tree right) [] s h))

  of_on : Sub (flat_map sublinks_of on) whole
  of_on s h = sub_right (found_of_tree left ++ (found_of_tree right ++ [])) (flat_map sublinks_of on ++ []) s (sub_left (flat_map sublinks_of on) [] s h)

  abbrev it : JoinTree
  it = tree.Join kind left right on

  join_items : (b : Bool) → is_full kind ≡ b → HasTreeParts left → HasTreeParts right → (part : Part) → In part (item_parts (shape_of it)) → HasInside (found_of_tree it) part
  join_items true e l r part h = full (subst (In part) (laws.items-Full kind left right on e) h)
    where
      full : In part (item_part (side_block left) ∷ item_part (side_block right) ∷ flat_map sublink_parts on) → HasInside (found_of_tree it) part
      full (inl g) = subst (HasInside (found_of_tree it)) g (no_number (found_of_tree it) (side_block left) (λ s k. subst (In s) (sym (written_join kind left right on)) (of_left s (side_found left s k))))
      full (inr (inl g)) = subst (HasInside (found_of_tree it)) g (no_number (found_of_tree it) (side_block right) (λ s k. subst (In s) (sym (written_join kind left right on)) (of_right s (side_found right s k))))
      full (inr (inr g)) = by_tree it (flat_map sublinks_of on) whole part (written_join kind left right on) of_on (in_exprs on part g)
  join_items false e l r part h = elim (from_append part (item_parts (shape_of left)) (item_parts (shape_of right)) (subst (In part) (laws.items-Join kind left right on e) h)) [
    | inl g ↦ by_tree it (found_of_tree left) whole part (written_join kind left right on) of_left (l.items part g)
    | inr g ↦ by_tree it (found_of_tree right) whole part (written_join kind left right on) of_right (r.items part g)
  ]

  join_conditions : (b : Bool) → is_full kind ≡ b → HasTreeParts left → HasTreeParts right → (part : Part) → In part (condition_parts (shape_of it)) → HasInside (found_of_tree it) part
  join_conditions true e l r part h = absurd (subst (In part) (laws.conds-Full kind left right on e) h)
  join_conditions false e l r part h = elim (from_append part (condition_parts (shape_of left)) (condition_parts (shape_of right) ++ flat_map sublink_parts on) (subst (In part) (laws.conds-Join kind left right on e) h)) [
    | inl g ↦ by_tree it (found_of_tree left) whole part (written_join kind left right on) of_left (l.conditions part g)
    | inr g ↦ (elim (from_append part (condition_parts (shape_of right)) (flat_map sublink_parts on) g) [
      | inl k ↦ by_tree it (found_of_tree right) whole part (written_join kind left right on) of_right (r.conditions part k)
      | inr k ↦ by_tree it (flat_map sublinks_of on) whole part (written_join kind left right on) of_on (in_exprs on part k)
    ])
  ]

  join_parts : HasTreeParts left → HasTreeParts right → HasTreeParts it
  join_parts l r = record { items = join_items (is_full kind) refl l r; conditions = join_conditions (is_full kind) refl l r }

items_of_some : (start : Shape) (ts : List JoinTree) → item_parts (fold beside start (map shape_of ts)) ≡ item_parts start ++ flat_map (λ (t : JoinTree). item_parts (shape_of t)) ts
items_of_some start [] = sym (append-nil (item_parts start))
items_of_some start (t ∷ ts) = items_of_some (beside start (shape_of t)) ts ∙ ap (λ ps. ps ++ flat_map (λ (u : JoinTree). item_parts (shape_of u)) ts) (laws.items-beside start (shape_of t)) ∙ append_assoc (item_parts start) (item_parts (shape_of t)) (flat_map (λ (u : JoinTree). item_parts (shape_of u)) ts)

conditions_of_some : (start : Shape) (ts : List JoinTree) → condition_parts (fold beside start (map shape_of ts)) ≡ condition_parts start ++ flat_map (λ (t : JoinTree). condition_parts (shape_of t)) ts
conditions_of_some start [] = sym (append-nil (condition_parts start))
conditions_of_some start (t ∷ ts) = conditions_of_some (beside start (shape_of t)) ts ∙ ap (λ ps. ps ++ flat_map (λ (u : JoinTree). condition_parts (shape_of u)) ts) (laws.conds-beside start (shape_of t)) ∙ append_assoc (condition_parts start) (condition_parts (shape_of t)) (flat_map (λ (u : JoinTree). condition_parts (shape_of u)) ts)

no_items : (ts : List JoinTree) → item_parts nothing ++ flat_map (λ (t : JoinTree). item_parts (shape_of t)) ts ≡ flat_map (λ (t : JoinTree). item_parts (shape_of t)) ts
unfolding item_parts
no_items ts = refl

no_conditions : (ts : List JoinTree) → condition_parts nothing ++ flat_map (λ (t : JoinTree). condition_parts (shape_of t)) ts ≡ flat_map (λ (t : JoinTree). condition_parts (shape_of t)) ts
unfolding condition_parts
no_conditions ts = refl

each_in : {X : Type 0} (P : X → Type 0) (x : X) (xs : List X) → Each P xs → In x xs → P x
each_in P x [] h k = absurd k
each_in P x (y ∷ ys) h (inl e) = subst P e h.0
each_in P x (y ∷ ys) h (inr r) = each_in P x ys h.1 r

module _ (members : List JoinTree) (conds : List Expr) (good : Each HasTreeParts members) where
  abbrev list : JoinTree
  list = tree.From members conds

  of_members : (parts_in : Shape → List Part) → ((t : JoinTree) → HasTreeParts t → (part : Part) → In part (parts_in (shape_of t)) → HasInside (found_of_tree t) part)
      → (part : Part) → In part (flat_map (λ (t : JoinTree). parts_in (shape_of t)) members) → HasInside (found_of_tree list) part
  of_members parts_in has part h =
      let k = from_flat_map (λ (t : JoinTree). parts_in (shape_of t)) part members h in
      by_tree list (found_of_tree k.0) (flat_map found_of_tree members ++ (flat_map sublinks_of conds ++ [])) part (written_from members conds)
      (λ s g. sub_left (flat_map found_of_tree members) (flat_map sublinks_of conds ++ []) s (sub_of found_of_tree k.0 members k.1 s g)) (has k.0 (each_in HasTreeParts k.0 members good k.1) part k.2)

  from_parts : HasTreeParts list
  from_parts = record {
    items = λ part h. of_members item_parts (λ t g. g.items) part (subst (In part) (laws.items-From members conds ∙ items_of_some nothing members ∙ no_items members) h);
    conditions = λ part h. (elim (from_append part (condition_parts (together (map shape_of members))) (flat_map sublink_parts conds) (subst (In part) (laws.conds-From members conds) h)) [
      | inl g ↦ of_members condition_parts (λ t g. g.conditions) part (subst (In part) (conditions_of_some nothing members ∙ no_conditions members) g)
      | inr g ↦ by_tree list (flat_map sublinks_of conds) (flat_map found_of_tree members ++ (flat_map sublinks_of conds ++ [])) part (written_from members conds)
          (λ s k. sub_right (flat_map found_of_tree members) (flat_map sublinks_of conds ++ []) s (sub_left (flat_map sublinks_of conds) [] s k)) (in_exprs conds part g)
    ]);
  }

tree_step : (t : JoinTreeLayer) → Each HasTreeParts (trees t) → HasTreeParts (roll-JoinTree t)
tree_step (JoinTree-F.Base rel name table) h = subst HasTreeParts (sym (tree.rolls-Base rel name table)) (record {
  items = λ part k. absurd (subst (In part) (laws.items-Base rel name table) k);
  conditions = λ part k. absurd (subst (In part) (laws.conds-Base rel name table) k);
})
tree_step (JoinTree-F.Sub rel name query) h = subst HasTreeParts (sym (tree.rolls-Sub rel name query)) (record {
  items = λ part k. select_part part (subst (In part) (laws.items-Sub rel name query) k);
  conditions = λ part k. absurd (subst (In part) (laws.conds-Sub rel name query) k);
})
  where
    select_part : (part : Part) → In part (item_part query ∷ []) → HasInside (found_of_tree (tree.Sub rel name query)) part
    select_part part (inl e) = subst (HasInside (found_of_tree (tree.Sub rel name query))) e
        (no_number (found_of_tree (tree.Sub rel name query)) query (λ s g. subst (In s) (sym (written_sub rel name query)) (sub_left (sublinks_in query) [] s g)))
    select_part part (inr r) = absurd r
tree_step (JoinTree-F.Join kind left right on) h = subst HasTreeParts (sym (tree.rolls-Join kind left right on)) (join_parts kind left right on h.0 h.1.0)
tree_step (JoinTree-F.From members conds) h = subst HasTreeParts (sym (tree.rolls-From members conds)) (from_parts members conds h)

in_tree : (t : JoinTree) → HasTreeParts t
in_tree = tree_alone HasTreeParts tree_step

-- ---- a query

outputs_found : (us : List Output) (part : Part) → In part (flat_map output_parts us) → HasInside (flat_map found_of_output us) part
outputs_found us part h =
    let k = from_flat_map output_parts part us h in
    wider (found_of_output k.0) (flat_map found_of_output us) part (sub_of found_of_output k.0 us k.1) (subst (λ found. HasInside found part) (sym (at_output k.0)) (in_expr (output_expr k.0) part k.2))

orders_found : (os : List Order) (part : Part) → In part (flat_map order_parts os) → HasInside (flat_map found_of_order os) part
orders_found os part h =
    let k = from_flat_map order_parts part os h in
    wider (found_of_order k.0) (flat_map found_of_order os) part (sub_of found_of_order k.0 os k.1) (subst (λ found. HasInside found part) (sym (at_order k.0)) (in_expr (order_expr k.0) part k.2))

pub inside : (q : Query) (part : Part) → In part (parts_of q) → HasInside (sublinks_in q) part
unfolding parts_of
inside q part h =
    let t = (out-Query q).tree in
    let us = flat_map found_of_output (out-Query q).columns in
    let ts = found_of_tree t in
    let cs = flat_map sublinks_of (out-Query q).conds in
    let os = flat_map found_of_order (out-Query q).order in
    let conds = condition_parts (shape_of t) in
    let given = flat_map sublink_parts (out-Query q).conds in
    let outputs = flat_map output_parts (out-Query q).columns in
    let orders = flat_map order_parts (out-Query q).order in
    let of_tree : Sub ts (us ++ (ts ++ (cs ++ os))) = λ s k. sub_right us (ts ++ (cs ++ os)) s (sub_left ts (cs ++ os) s k) in
    let of_conds : Sub cs (us ++ (ts ++ (cs ++ os))) = λ s k. sub_right us (ts ++ (cs ++ os)) s (sub_right ts (cs ++ os) s (sub_left cs os s k)) in
    let of_orders : Sub os (us ++ (ts ++ (cs ++ os))) = λ s k. sub_right us (ts ++ (cs ++ os)) s (sub_right ts (cs ++ os) s (sub_right cs os s k)) in
    subst (λ found. HasInside found part) (sym (at_query q))
    (elim (from_append part (item_parts (shape_of t)) (conds ++ (given ++ (outputs ++ orders))) h) [
      | inl g ↦ wider ts (us ++ (ts ++ (cs ++ os))) part of_tree ((in_tree t).items part g)
      | inr g ↦ (elim (from_append part conds (given ++ (outputs ++ orders)) g) [
        | inl k ↦ wider ts (us ++ (ts ++ (cs ++ os))) part of_tree ((in_tree t).conditions part k)
        | inr k ↦ (elim (from_append part given (outputs ++ orders) k) [
          | inl j ↦ wider cs (us ++ (ts ++ (cs ++ os))) part of_conds (in_exprs (out-Query q).conds part j)
          | inr j ↦ (elim (from_append part outputs orders j) [
            | inl i ↦ wider us (us ++ (ts ++ (cs ++ os))) part (sub_left us (ts ++ (cs ++ os))) (outputs_found (out-Query q).columns part i)
            | inr i ↦ wider os (us ++ (ts ++ (cs ++ os))) part of_orders (orders_found (out-Query q).order part i)
          ])
        ])
      ])
    ])
