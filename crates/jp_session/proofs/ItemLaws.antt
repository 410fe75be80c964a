-- The items of each form of tree, and what a loop over the items has made.
use Rattle.std.proofs.Common.{◌≡◌, ◌∙◌, ap, ap₂, sym, refl, subst, ℕ, zero, suc, ◌+◌, ◌-◌, ◌<◌, ◌≤◌, ◌^◌, Bool, true, false, List, [], ◌∷◌, ◌++◌, map, length, get_or, take, take_all, drop, length-drop, slice_get, Option, Some, None, append_assoc, append-nil, length-append, arith}
use Rattle.std.specs.Prelude.{fold, All}
use Rattle.std.proofs.lemmas.Option.{get_or_from_slice_get, slice_get_within}
use Rattle.std.specs.Borrow.{Bor}
use Rattle.std.specs.List.{flat_map}
use Rattle.std.proofs.Math.Numerals.{add-one}
use Rattle.std.proofs.lemmas.List.{map-append, take-append-drop}
use Rattle.jp_prepared.specs.Names.{below}
use Rattle.jp_catalog.specs.declared.types.Catalog.{Catalog}
use Rattle.jp_catalog.specs.declared.types.TableDef.{TableDef}
use Rattle.jp_problem.specs.declared.types.Item.{Item}
use Rattle.jp_problem.specs.Blocks.{known_rels}
use Rattle.jp_problem.specs.InnerBlocks.{blocks_at, blocks_of_item}
use Rattle.jp_session.specs.declared.prices.Price.{Price}
use Rattle.jp_query.specs.declared.Expr.{Expr}
use Rattle.jp_query.specs.declared.Expr.TheOpen.{JoinTree-F}
use Rattle.jp_query.specs.declared.Expr.TheViews.{outs-Base, outs-Sub, outs-Join, outs-From, roll-JoinTree}
use Rattle.jp_query.specs.declared.JoinKind.{JoinKind}
use Rattle.jp_query.specs.declared.JoinKind.TheVariants as join
use Rattle.jp_query.specs.declared.JoinTree.{JoinTree, out-JoinTree}
use Rattle.jp_query.specs.declared.JoinTree.TheVariants as tree
use Rattle.jp_query.specs.declared.Query.{Query}
use Rattle.jp_query.specs.Layers.{JoinTreeLayer}
use Rattle.jp_query.specs.Parts.{trees}
use Rattle.jp_induction.proofs.EachPart.{Each, each_append}
use Rattle.jp_induction.proofs.Induction.{tree_alone}
use Rattle.jp_problem.proofs.ShapeLaws.{at_base, at_sub, at_join, at_from}
use Rattle.jp_problem.specs.Shapes.{Shape, nothing, beside, together, shape_of, items_in}
use Rattle.jp_session.specs.Items.{AreItems, HasTable, HasTableAt, IsItemOf, full_of, is_item, is_item_at, lent, number_of, select_of, table_of}
use Rattle.jp_session.proofs.Places.{there}
use Rattle.jp_session.specs.Parts.{is_full}

-- ---- the items of each form of tree

pub leaves-Base : (rel : ℕ) (name : List ℕ) (table : ℕ) → items_in (shape_of (tree.Base rel name table)) ≡ tree.Base rel name table ∷ []
leaves-Base rel name table = ap items_in (at_base rel name table)

pub leaves-Sub : (rel : ℕ) (name : List ℕ) (query : Query) → items_in (shape_of (tree.Sub rel name query)) ≡ tree.Sub rel name query ∷ []
leaves-Sub rel name query = ap items_in (at_sub rel name query)

pub leaves-Full : (kind : JoinKind) (left right : JoinTree) (on : List Expr) → is_full kind ≡ true → items_in (shape_of (tree.Join kind left right on)) ≡ tree.Join kind left right on ∷ []
leaves-Full join.Full left right on e = ap items_in (at_join join.Full left right on)
leaves-Full join.Inner left right on e = cc
leaves-Full join.Left left right on e = cc
leaves-Full join.Right left right on e = cc
leaves-Full join.Semi left right on e = cc
leaves-Full join.Anti left right on e = cc

pub leaves-Join : (kind : JoinKind) (left right : JoinTree) (on : List Expr) → is_full kind ≡ false → items_in (shape_of (tree.Join kind left right on)) ≡ items_in (shape_of left) ++ items_in (shape_of right)
leaves-Join join.Full left right on e = cc
leaves-Join join.Inner left right on e = ap items_in (at_join join.Inner left right on)
leaves-Join join.Left left right on e = ap items_in (at_join join.Left left right on)
leaves-Join join.Right left right on e = ap items_in (at_join join.Right left right on)
leaves-Join join.Semi left right on e = ap items_in (at_join join.Semi left right on)
leaves-Join join.Anti left right on e = ap items_in (at_join join.Anti left right on)

pub leaves-From : (members : List JoinTree) (conds : List Expr) → items_in (shape_of (tree.From members conds)) ≡ items_in (together (map shape_of members))
leaves-From members conds = ap items_in (at_from members conds)

pub lent_push : (xs : List (Bor JoinTree)) (x : Bor JoinTree) → lent (xs ++ x ∷ []) ≡ lent xs ++ x.now ∷ []
lent_push xs x = map-append (λ (t : Bor JoinTree). t.now) xs (x ∷ [])

pub ruleset leaves = (lent_push, leaves-Base, leaves-Sub, leaves-Full, leaves-Join, leaves-From, append-nil, append_assoc)

-- ---- each is a leaf or a Full join

abbrev HasItems : JoinTree → Type 0
HasItems t = Each (λ u. is_item u ≡ true) (items_in (shape_of t))

abbrev Good : Shape → Type 0
Good s = Each (λ u. is_item u ≡ true) (items_in s)

join_items : (kind : JoinKind) (left right : JoinTree) (on : List Expr) (b : Bool) → is_full kind ≡ b → HasItems left → HasItems right → HasItems (tree.Join kind left right on)
join_items kind left right on true e l r = subst (Each (λ u. is_item u ≡ true)) (sym (leaves-Full kind left right on e)) (ap is_item_at (outs-Join kind left right on), tt)
join_items kind left right on false e l r = subst (Each (λ u. is_item u ≡ true)) (sym (leaves-Join kind left right on e)) (each_append _ (items_in (shape_of left)) (items_in (shape_of right)) l r)

together_items : (start : Shape) (ts : List JoinTree) → Good start → Each HasItems ts → Good (fold beside start (map shape_of ts))
together_items start [] g h = g
together_items start (t ∷ ts) g h = together_items (beside start (shape_of t)) ts (each_append _ (items_in start) (items_in (shape_of t)) g h.0) h.1

items_step : (t : JoinTreeLayer) → Each HasItems (trees t) → HasItems (roll-JoinTree t)
items_step (JoinTree-F.Base rel name table) h = subst HasItems (sym (tree.rolls-Base rel name table)) (subst (Each (λ u. is_item u ≡ true)) (sym (leaves-Base rel name table)) (ap is_item_at (outs-Base rel name table), tt))
items_step (JoinTree-F.Sub rel name query) h = subst HasItems (sym (tree.rolls-Sub rel name query)) (subst (Each (λ u. is_item u ≡ true)) (sym (leaves-Sub rel name query)) (ap is_item_at (outs-Sub rel name query), tt))
items_step (JoinTree-F.Join kind left right on) h = subst HasItems (sym (tree.rolls-Join kind left right on)) (join_items kind left right on (is_full kind) refl h.0 h.1.0)
items_step (JoinTree-F.From members conds) h = subst HasItems (sym (tree.rolls-From members conds)) (subst (Each (λ u. is_item u ≡ true)) (sym (leaves-From members conds)) (together_items nothing members tt h))

pub has_items : (t : JoinTree) → HasItems t
has_items = tree_alone HasItems items_step

-- ---- a loop over the items

drop_here : {X : Type 0} (xs : List X) (i : ℕ) (x : X) → slice_get xs i ≡ Some x → drop i xs ≡ x ∷ drop (suc i) xs
drop_here [] i x e = none_of x e
  where
    none_of : {Y Z : Type 0} (y : Y) → None ≡ Some y → Z
    none_of y e = cc
drop_here (y ∷ ys) zero x e = ap (λ z. z ∷ ys) (some_is y x e)
  where
    some_is : {Y : Type 0} (a b : Y) → Some a ≡ Some b → a ≡ b
    some_is a b e = cc
drop_here (y ∷ ys) (suc i) x e = drop_here ys i x e

drop_past : {X : Type 0} (xs : List X) (i : ℕ) → length xs ≤ i → drop i xs ≡ []
drop_past [] zero low = refl
drop_past [] (suc i) low = refl
drop_past (x ∷ xs) zero low = absurd (omega (arith, low))
drop_past (x ∷ xs) (suc i) low = drop_past xs i (omega (arith, low))

drop_drop : (m n : ℕ) (xs : List ℕ) → drop (m + n) xs ≡ drop n (drop m xs)
drop_drop zero n xs = let e : 0 + n ≡ n = omega arith in ap (λ k. drop k xs) e
drop_drop (suc m) n [] = drop_past [] (suc m + n) (omega arith) ∙ sym (drop_past [] n (omega arith))
drop_drop (suc m) n (x ∷ xs) = let e : suc m + n ≡ suc (m + n) = omega arith in ap (λ k. drop k (x ∷ xs)) e ∙ drop_drop m n xs

module _ (catalog : Catalog) (prices : List Price) (count : ℕ) (leaves : List JoinTree) (inner : List ℕ) where
  -- so many items are made, and so many places are used
  pub record Goes (at next : ℕ) (done : List Item) : Type 0 where
    pub counted : next + length (flat_map blocks_of_item (drop at leaves)) ≡ length inner
    pub leads : (items : List Item) → AreItems catalog prices count (drop at leaves) (drop next inner) items → AreItems catalog prices count leaves inner (done ++ items)

  pub begins : length inner ≡ length (flat_map blocks_of_item leaves) → Goes 0 0 []
  begins e = record { counted = omega (arith, e); leads = λ items h. h }

  some_left : (i : ℕ) (leaf : JoinTree) → slice_get leaves i ≡ Some leaf → drop i leaves ≡ leaf ∷ drop (i + 1) leaves
  some_left i leaf e = drop_here leaves i leaf e ∙ ap (λ n. leaf ∷ drop n leaves) (sym (add-one i))

  pub room : (at next : ℕ) (done : List Item) (leaf : JoinTree) → Goes at next done → slice_get leaves at ≡ Some leaf → next + length (blocks_of_item leaf) ≤ length inner
  room at next done leaf g e =
      omega (arith, g.counted, ap (λ ts. length (flat_map blocks_of_item ts)) (some_left at leaf e), length-append (blocks_of_item leaf) (flat_map blocks_of_item (drop (at + 1) leaves)))

  pub one_more : (at next k : ℕ) (done : List Item) (leaf : JoinTree) (rels : ℕ) (item : Item) → Goes at next done → slice_get leaves at ≡ Some leaf → rels ≡ known_rels leaf → k ≡ length (blocks_of_item leaf)
      → IsItemOf catalog prices count rels leaf (take (length (blocks_of_item leaf)) (drop next inner)) item → Goes (at + 1) (next + k) (done ++ item ∷ [])
  one_more at next k done leaf rels item g e r n it = record {
    counted = omega (arith, n, g.counted, ap (λ ts. length (flat_map blocks_of_item ts)) (some_left at leaf e), length-append (blocks_of_item leaf) (flat_map blocks_of_item (drop (at + 1) leaves)));
    leads = λ items h.
        (let own = subst (λ x. IsItemOf catalog prices count x leaf (take (length (blocks_of_item leaf)) (drop next inner)) item) r it in
        let rest : AreItems catalog prices count (drop (at + 1) leaves) (drop (length (blocks_of_item leaf)) (drop next inner)) items =
        subst (λ ps. AreItems catalog prices count (drop (at + 1) leaves) ps items) (ap (λ m. drop (next + m) inner) n ∙ drop_drop next (length (blocks_of_item leaf)) inner) h in
        let both = subst (λ ps. AreItems catalog prices count (leaf ∷ drop (at + 1) leaves) ps (item ∷ items)) (take-append-drop (length (blocks_of_item leaf)) (drop next inner)) (AreItems.more own rest) in
        subst (AreItems catalog prices count leaves inner) (sym (append_assoc done (item ∷ []) items)) (g.leads (item ∷ items) (subst (λ ts. AreItems catalog prices count ts (drop next inner) (item ∷ items)) (sym (some_left at leaf e)) both)));
  }

  pub ends : (at next : ℕ) (done : List Item) → Goes at next done → length leaves ≤ at → AreItems catalog prices count leaves inner done
  ends at next done g past =
      let none : drop at leaves ≡ [] = drop_past leaves at past in
      let all : length inner ≤ next = omega (arith, g.counted, ap (λ ts. length (flat_map blocks_of_item ts)) none) in
      subst (AreItems catalog prices count leaves inner) (append-nil done)
      (g.leads [] (subst (λ ts. AreItems catalog prices count ts (drop next inner) []) (sym none) (subst (λ ps. AreItems catalog prices count [] ps []) (sym (drop_past inner next all)) AreItems.none)))

-- ---- lists over the numbers below another

pub map_below : (f : ℕ → ℕ) (n : ℕ) → map f (below (n + 1)) ≡ map f (below n) ++ f n ∷ []
unfolding below
map_below f n = ap (λ m. map f (below m)) (add-one n) ∙ map-append f (below n) (n ∷ [])

pub map_none : (f : ℕ → ℕ) → map f (below 0) ≡ []
unfolding below
map_none f = refl

-- ---- what the code shows of one item

pub no_table : (catalog : Catalog) (leaf : JoinTree) (rel : ℕ) (name : List ℕ) (table : ℕ) → leaf ≡ tree.Base rel name table → HasTable catalog leaf → slice_get catalog.tables table ≡ None → ⊥
no_table catalog leaf rel name table e h none =
    let low : table < length catalog.tables = subst (HasTableAt catalog) (ap out-JoinTree e ∙ outs-Base rel name table) h in
    let t = there catalog.tables table low in
    clash t.0 (sym none ∙ t.1)
  where
    clash : (x : List ℕ × TableDef) → None ≡ Some x → ⊥
    clash x k = cc

no_list : (leaf : JoinTree) (x : JoinTreeLayer) → out-JoinTree leaf ≡ x → is_item_at x ≡ false → is_item leaf ≡ true → ⊥
no_list leaf x e f h = differ (sym f ∙ ap is_item_at (sym e) ∙ h)
  where
    differ : false ≡ true → ⊥
    differ k = cc

pub no_from : (leaf : JoinTree) (members : List JoinTree) (conds : List Expr) → leaf ≡ tree.From members conds → is_item leaf ≡ true → ⊥
no_from leaf members conds e h = no_list leaf (JoinTree-F.From members conds) (ap out-JoinTree e ∙ outs-From members conds) refl h

blocks_here : (leaf : JoinTree) (x : JoinTreeLayer) (places : List ℕ) → out-JoinTree leaf ≡ x → take (length (blocks_of_item leaf)) places ≡ take (length (blocks_at x)) places
blocks_here leaf x places e = ap (λ l. take (length (blocks_at l)) places) e

pub all_at : {X : Type 0} (P : X → Type 0) (xs : List X) (i : ℕ) (x : X) → All P xs → slice_get xs i ≡ Some x → P x
all_at P xs i x h e = subst P (get_or_from_slice_get xs i x x e) (h i x (slice_get_within xs i x e))

-- the first places
take_one : (ps : List ℕ) → 1 ≤ length ps → take 1 ps ≡ get_or ps 0 0 ∷ []
take_one [] h = absurd (omega (arith, h))
take_one (p ∷ ps) h = refl

take_two : (ps : List ℕ) → 2 ≤ length ps → take 2 ps ≡ get_or ps 0 0 ∷ get_or ps 1 0 ∷ []
take_two [] h = absurd (omega (arith, h))
take_two (p ∷ []) h = absurd (omega (arith, h))
take_two (p ∷ q ∷ ps) h = refl

module _ (catalog : Catalog) (prices : List Price) (count rels : ℕ) (leaf : JoinTree) (places : List ℕ) (item : Item) where
  pub table_made : (rel table : ℕ) (name text : List ℕ) (def : TableDef) → leaf ≡ tree.Base rel name table → slice_get catalog.tables table ≡ Some (text, def) → def.rows ≤ 2 ^ 60 → item ≡ table_of rels rel table def
      → IsItemOf catalog prices count rels leaf (take (length (blocks_of_item leaf)) places) item
  table_made rel table name text def e at rows is =
      let out = ap out-JoinTree e ∙ outs-Base rel name table in
      IsItemOf.table rel table name text def out (blocks_here leaf (JoinTree-F.Base rel name table) places out) at rows is

  price_at : (i : ℕ) → i < length places → All (λ place. place < length prices) places → (price : Price) × (slice_get prices (get_or places i 0) ≡ Some price)
  price_at i low h = there prices (get_or places i 0) (h i 0 low)

  pub select_made : (rel : ℕ) (name : List ℕ) (query : Query) → leaf ≡ tree.Sub rel name query → length (blocks_of_item leaf) ≤ length places → All (λ place. place < length prices) places
      → ((price : Price) → slice_get prices (get_or places 0 0) ≡ Some price → item ≡ select_of rels rel (number_of count (get_or places 0 0)) price) → IsItemOf catalog prices count rels leaf (take (length (blocks_of_item leaf)) places) item
  select_made rel name query e few low made =
      let out = ap out-JoinTree e ∙ outs-Sub rel name query in
      let one : 1 ≤ length places = omega (arith, few, ap (λ l. length (blocks_at l)) out) in
      let p = price_at 0 one low in
      IsItemOf.select rel name query (get_or places 0 0) p.0 out (blocks_here leaf (JoinTree-F.Sub rel name query) places out ∙ take_one places one) p.1 (made p.0 p.1)

  pub full_made : (kind : JoinKind) (left right : JoinTree) (on : List Expr) → leaf ≡ tree.Join kind left right on → length (blocks_of_item leaf) ≤ length places → All (λ place. place < length prices) places
      → ((lp rp : Price) → slice_get prices (get_or places 0 0) ≡ Some lp → slice_get prices (get_or places 1 0) ≡ Some rp → item ≡ full_of rels on (number_of count (get_or places 0 0)) (number_of count (get_or places 1 0)) lp rp)
      → IsItemOf catalog prices count rels leaf (take (length (blocks_of_item leaf)) places) item
  full_made kind left right on e few low made =
      let out = ap out-JoinTree e ∙ outs-Join kind left right on in
      let two : 2 ≤ length places = omega (arith, few, ap (λ l. length (blocks_at l)) out) in
      let p = price_at 0 (omega (arith, two)) low in
      let q = price_at 1 (omega (arith, two)) low in
      IsItemOf.full kind left right on (get_or places 0 0) (get_or places 1 0) p.0 q.0 out (blocks_here leaf (JoinTree-F.Join kind left right on) places out ∙ take_two places two) p.1 q.1 (made p.0 q.0 p.1 q.1)

-- ---- places in lists that are lent

none_some_tree : (t : JoinTree) → None ≡ Some t → ⊥
none_some_tree t h = cc

some_tree : (x y : JoinTree) → Some x ≡ Some y → x ≡ y
some_tree x y h = cc

pub lent_at : (leaves : List (Bor JoinTree)) (i : ℕ) (x : Bor JoinTree) → i < length leaves → x ≡ get_or leaves i x → slice_get (lent leaves) i ≡ Some x.now
lent_at [] i x low is = absurd (omega (arith, low))
lent_at (y ∷ ys) zero x low is = ap (λ (t : Bor JoinTree). Some t.now) (sym is)
lent_at (y ∷ ys) (suc i) x low is = lent_at ys i x (omega (arith, low)) is

known_at : (ts : List JoinTree) (i : ℕ) (t : JoinTree) (r : ℕ) → slice_get ts i ≡ Some t → get_or (map known_rels ts) i r ≡ known_rels t
known_at [] i t r h = absurd (none_some_tree t h)
known_at (y ∷ ys) zero t r h = ap known_rels (some_tree y t h)
known_at (y ∷ ys) (suc i) t r h = known_at ys i t r h

pub rels_at : (leaves : List JoinTree) (rels : List ℕ) (i : ℕ) (leaf : JoinTree) (r : ℕ) → rels ≡ map known_rels leaves → slice_get leaves i ≡ Some leaf → r ≡ get_or rels i r → r ≡ known_rels leaf
rels_at leaves rels i leaf r e h is = is ∙ ap (λ rs. get_or rs i r) e ∙ known_at leaves i leaf r h

pub rest_is : (xs : List ℕ) (n : ℕ) → take (length xs - n) (drop n xs) ≡ drop n xs
rest_is xs n = take_all (length xs - n) (drop n xs) (omega (arith, length-drop n xs))
