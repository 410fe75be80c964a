-- A list of blocks that was made by visits, read from its end, has the sources of the query.
use Rattle.std.proofs.Common.{◌≡◌, ◌∙◌, ap, ap₂, sym, refl, subst, ℕ, zero, suc, ◌+◌, ◌<◌, inl, inr, true, List, [], ◌∷◌, ◌++◌, map, length, slice_get, Option, Some, None, append_assoc, length-append, arith}
use Rattle.std.specs.List.{flat_map}
use Rattle.std.specs.Prelude.{All}
use Rattle.std.proofs.lemmas.Bool.{cases_lt, eqb-true}
use Rattle.jp_facts.proofs.Members.{In, from_in, in_append_left, in_append_right, from_append, in_flat_map, from_flat_map, in_map, from_map, from_any}
use Rattle.jp_query.specs.declared.Expr.{Expr, out-Expr}
use Rattle.jp_query.specs.declared.JoinTree.{JoinTree}
use Rattle.jp_query.specs.declared.Order.{Order}
use Rattle.jp_query.specs.declared.Output.{Output}
use Rattle.jp_query.specs.declared.Query.{Query, out-Query}
use Rattle.jp_query.specs.Freshness.{IsFresh, sublinks_in}
use Rattle.jp_query.specs.Outermost.{Outer, outermost}
use Rattle.jp_query.specs.Parts.{sublink_query}
use Rattle.jp_induction.proofs.EachPart.{Each, all_of_each}
use Rattle.jp_problem.specs.Blocks.{block_exprs, listed_exprs, order_expr, output_expr}
use Rattle.jp_problem.specs.InnerBlocks.{blocks_of_item, exprs_of_item}
use Rattle.jp_problem.specs.Shapes.{shape_of, exprs_in}
use Rattle.jp_prepared.specs.Sources.{Source, AreSources, HasBehind, IsSourceAt, IsUsedBy, items_of_block, of_item, of_sublink, queries_of_items, sublinks_of_block}
use Rattle.jp_session.specs.declared.gathering.Entry.{Entry}
use Rattle.jp_session.specs.declared.sources.Part.{Part}
use Rattle.jp_session.specs.Found.{IsAt, AreFound, AreSettled, source_of, sources_of}
use Rattle.jp_session.specs.Parts.{condition_parts, item_part, item_parts, order_parts, output_parts, parts_of, parts_of_item, sublink_part, sublink_parts}
use Rattle.jp_session.specs.Visits.{IsPut, Visits, is_listed, is_number, is_of_sublink}
use Rattle.jp_session.proofs.Places.{front, seam, within, there, one_there, last_or_before, place_in, turned_at, FromEnd, from_turned}
use Rattle.jp_session.proofs.SublinkChain.{HasInside, IsThere, inside, no_number, wider}
use Rattle.jp_session.proofs.VisitLaws.{AreApart, IsUsedBehind, apart, found, settled, used, behind_stays}
use Rattle.jp_session.specs.Weights.{weight_of_query}

-- ---- the parts of a block are its items' queries and its sublinks

pub data Uses (b : Query) (part : Part) : Type 0 where
  item : (q : Query) → In q (queries_of_items b) → item_part q ≡ part → Uses b part
  sublink : (o : Outer) → In o (sublinks_of_block b) → sublink_part o ≡ part → Uses b part

sublink_from : (e : Expr) (part : Part) → In part (sublink_parts e) → (o : Outer) × In o (outermost e) × (sublink_part o ≡ part)
unfolding sublink_parts
sublink_from e part h = from_map sublink_part part (outermost e) h

sublink_to : (e : Expr) (o : Outer) → In o (outermost e) → In (sublink_part o) (sublink_parts e)
unfolding sublink_parts
sublink_to e o h = in_map sublink_part o (outermost e) h

by_exprs : (b : Query) (es : List Expr) (part : Part) → ((o : Outer) → In o (flat_map outermost es) → In o (sublinks_of_block b)) → In part (flat_map sublink_parts es) → Uses b part
by_exprs b es part sub h =
    let k = from_flat_map sublink_parts part es h in
    let o = sublink_from k.0 part k.2 in
    Uses.sublink o.0 (sub o.0 (in_flat_map outermost k.0 o.0 es k.1 o.1)) o.2

module _ (b : Query) where
  abbrev items : List JoinTree
  items = items_of_block b

  abbrev tree_exprs : List Expr
  tree_exprs = exprs_in (shape_of (out-Query b).tree)

  abbrev full_exprs : List Expr
  full_exprs = flat_map exprs_of_item items

  abbrev in_list : List Expr → Type 0
  in_list es = (e : Expr) → In e es → In e (block_exprs b ++ full_exprs)

  outers_of : (es : List Expr) → in_list es → (o : Outer) → In o (flat_map outermost es) → In o (sublinks_of_block b)
  outers_of es sub o h = let k = from_flat_map outermost o es h in in_flat_map outermost k.0 o (block_exprs b ++ full_exprs) (sub k.0 k.1) k.2

  by_block : (es : List Expr) → ((e : Expr) → In e es → In e (block_exprs b)) → in_list es
  by_block es sub e h = in_append_left e (block_exprs b) full_exprs (sub e h)

  of_tree : in_list tree_exprs
  of_tree = by_block tree_exprs (λ e h. in_append_left e (tree_exprs ++ (out-Query b).conds) (listed_exprs b) (in_append_left e tree_exprs (out-Query b).conds h))

  of_conds : in_list (out-Query b).conds
  of_conds = by_block (out-Query b).conds (λ e h. in_append_left e (tree_exprs ++ (out-Query b).conds) (listed_exprs b) (in_append_right e tree_exprs (out-Query b).conds h))

  of_columns : in_list (map output_expr (out-Query b).columns)
  of_columns = by_block (map output_expr (out-Query b).columns) (λ e h. in_append_right e (tree_exprs ++ (out-Query b).conds) (listed_exprs b) (in_append_left e (map output_expr (out-Query b).columns) (map order_expr (out-Query b).order) h))

  of_order : in_list (map order_expr (out-Query b).order)
  of_order = by_block (map order_expr (out-Query b).order) (λ e h. in_append_right e (tree_exprs ++ (out-Query b).conds) (listed_exprs b) (in_append_right e (map output_expr (out-Query b).columns) (map order_expr (out-Query b).order) h))

  of_full : in_list full_exprs
  of_full e h = in_append_right e (block_exprs b) full_exprs h

  mapped_columns : (us : List Output) → flat_map output_parts us ≡ flat_map sublink_parts (map output_expr us)
  mapped_columns [] = refl
  mapped_columns (u ∷ us) = ap (λ ps. output_parts u ++ ps) (mapped_columns us)

  mapped_order : (os : List Order) → flat_map order_parts os ≡ flat_map sublink_parts (map order_expr os)
  mapped_order [] = refl
  mapped_order (o ∷ os) = ap (λ ps. order_parts o ++ ps) (mapped_order os)

  item_uses : (part : Part) → In part (item_parts (shape_of (out-Query b).tree)) → Uses b part
  unfolding item_parts
  item_uses part h = let k = from_flat_map parts_of_item part items h in (elim (from_append part (map item_part (blocks_of_item k.0)) (flat_map sublink_parts (exprs_of_item k.0)) k.2) [
    | inl g ↦ (let q = from_map item_part part (blocks_of_item k.0) g in Uses.item q.0 (in_flat_map blocks_of_item k.0 q.0 items k.1 q.1) q.2)
    | inr g ↦ by_exprs b (exprs_of_item k.0) part (outers_of (exprs_of_item k.0) (λ e i. of_full e (in_flat_map exprs_of_item k.0 e items k.1 i))) g
  ])

  pub uses : (part : Part) → In part (parts_of b) → Uses b part
  unfolding parts_of condition_parts
  uses part h = elim (from_append part (item_parts (shape_of (out-Query b).tree)) _ h) [
    | inl g ↦ item_uses part g
    | inr g ↦ (elim (from_append part (flat_map sublink_parts tree_exprs) _ g) [
      | inl k ↦ by_exprs b tree_exprs part (outers_of tree_exprs of_tree) k
      | inr k ↦ (elim (from_append part (flat_map sublink_parts (out-Query b).conds) _ k) [
        | inl j ↦ by_exprs b (out-Query b).conds part (outers_of (out-Query b).conds of_conds) j
        | inr j ↦ (elim (from_append part (flat_map output_parts (out-Query b).columns) (flat_map order_parts (out-Query b).order) j) [
          | inl i ↦ by_exprs b (map output_expr (out-Query b).columns) part (outers_of (map output_expr (out-Query b).columns) of_columns) (subst (In part) (mapped_columns (out-Query b).columns) i)
          | inr i ↦ by_exprs b (map order_expr (out-Query b).order) part (outers_of (map order_expr (out-Query b).order) of_order) (subst (In part) (mapped_order (out-Query b).order) i)
        ])
      ])
    ])
  ]

  -- ---- and the other way

  abbrev tree_parts : List Part
  tree_parts = item_parts (shape_of (out-Query b).tree)

  abbrev given : List Part
  given = flat_map sublink_parts (out-Query b).conds

  abbrev outputs : List Part
  outputs = flat_map output_parts (out-Query b).columns

  abbrev orders : List Part
  orders = flat_map order_parts (out-Query b).order

  in_items : (t : JoinTree) (part : Part) → In t items → In part (parts_of_item t) → In part (parts_of b)
  unfolding parts_of item_parts
  in_items t part h k = in_append_left part tree_parts _ (in_flat_map parts_of_item t part items h k)

  pub query_part : (q : Query) → In q (queries_of_items b) → In (item_part q) (parts_of b)
  query_part q h = let k = from_flat_map blocks_of_item q items h in
      in_items k.0 (item_part q) k.1 (in_append_left (item_part q) (map item_part (blocks_of_item k.0)) (flat_map sublink_parts (exprs_of_item k.0)) (in_map item_part q (blocks_of_item k.0) k.2))

  parts_in : (e : Expr) (es : List Expr) (o : Outer) → In e es → In o (outermost e) → In (sublink_part o) (flat_map sublink_parts es)
  parts_in e es o h k = in_flat_map sublink_parts e (sublink_part o) es h (sublink_to e o k)

  behind_items : (part : Part) → In part (condition_parts (shape_of (out-Query b).tree) ++ (given ++ (outputs ++ orders))) → In part (parts_of b)
  unfolding parts_of
  behind_items part h = in_append_right part tree_parts (condition_parts (shape_of (out-Query b).tree) ++ (given ++ (outputs ++ orders))) h

  listed_part : (e : Expr) (o : Outer) → In e (listed_exprs b) → In o (outermost e) → In (sublink_part o) (outputs ++ orders)
  listed_part e o h k = elim (from_append e (map output_expr (out-Query b).columns) (map order_expr (out-Query b).order) h) [
    | inl g ↦ in_append_left (sublink_part o) outputs orders (subst (In (sublink_part o)) (sym (mapped_columns (out-Query b).columns)) (parts_in e (map output_expr (out-Query b).columns) o g k))
    | inr g ↦ in_append_right (sublink_part o) outputs orders (subst (In (sublink_part o)) (sym (mapped_order (out-Query b).order)) (parts_in e (map order_expr (out-Query b).order) o g k))
  ]

  shape_part : (e : Expr) (o : Outer) → In e (tree_exprs ++ (out-Query b).conds) → In o (outermost e) → In (sublink_part o) (parts_of b)
  unfolding condition_parts
  shape_part e o h k = elim (from_append e tree_exprs (out-Query b).conds h) [
    | inl g ↦ behind_items (sublink_part o) (in_append_left (sublink_part o) (flat_map sublink_parts tree_exprs) (given ++ (outputs ++ orders)) (parts_in e tree_exprs o g k))
    | inr g ↦ behind_items (sublink_part o) (in_append_right (sublink_part o) (flat_map sublink_parts tree_exprs) (given ++ (outputs ++ orders)) (in_append_left (sublink_part o) given (outputs ++ orders) (parts_in e (out-Query b).conds o g k)))
  ]

  block_part : (e : Expr) (o : Outer) → In e (block_exprs b) → In o (outermost e) → In (sublink_part o) (parts_of b)
  unfolding condition_parts
  block_part e o h k = elim (from_append e (tree_exprs ++ (out-Query b).conds) (listed_exprs b) h) [
    | inl g ↦ shape_part e o g k
    | inr g ↦ behind_items (sublink_part o) (in_append_right (sublink_part o) (flat_map sublink_parts tree_exprs) (given ++ (outputs ++ orders)) (in_append_right (sublink_part o) given (outputs ++ orders) (listed_part e o g k)))
  ]

  pub sublink_in_parts : (o : Outer) → In o (sublinks_of_block b) → In (sublink_part o) (parts_of b)
  sublink_in_parts o h = let k = from_flat_map outermost o (block_exprs b ++ full_exprs) h in (elim (from_append k.0 (block_exprs b) full_exprs k.1) [
    | inl g ↦ block_part k.0 o g k.2
    | inr g ↦ (let i = from_flat_map exprs_of_item k.0 items g in
        in_items i.0 (sublink_part o) i.1 (in_append_right (sublink_part o) (map item_part (blocks_of_item i.0)) (flat_map sublink_parts (exprs_of_item i.0)) (parts_in k.0 (exprs_of_item i.0) o i.2 k.2)))
  ])

-- ---- what stands before a block

pub record IsSettledAt (entries : List Entry) (place : ℕ) (entry : Entry) : Type 0 where
  pub before : List Entry
  pub behind : List Entry
  pub is : entries ≡ before ++ entry ∷ behind
  pub at : length before ≡ place
  pub found : AreFound before (parts_of entry.part.query) entry.inner

no_entry : (e : Entry) → None ≡ Some e → ⊥
no_entry e f = cc

pub settled_at : {entries : List Entry} → AreSettled entries → (place : ℕ) (entry : Entry) → slice_get entries place ≡ Some entry → IsSettledAt entries place entry
settled_at AreSettled.none = λ place entry h. absurd (no_entry entry h)
settled_at (AreSettled.more {entries} last h f) = λ place entry g. elim (last_or_before entries last place entry g) [
  | inl k ↦ (let s = settled_at h place entry k in
      record { before = s.before; behind = s.behind ++ last ∷ []; is = ap (λ es. es ++ last ∷ []) s.is ∙ append_assoc s.before (entry ∷ s.behind) (last ∷ []); at = s.at; found = s.found })
  | inr k ↦ subst (IsSettledAt (entries ++ last ∷ []) place) k.1 (record { before = entries; behind = []; is = refl; at = sym k.0; found = f })
]

no_sub : (n : ℕ) (o : Option ℕ) → o ≡ None → o ≡ Some n → ⊥
no_sub n o e f = cc

-- an item's part has a place, and a sublink is listed
item_found : {entries : List Entry} {parts : List Part} {places : List ℕ} → AreFound entries parts places → (part : Part) → In part parts → part.sub ≡ None → (place : ℕ) × IsAt entries part place
item_found AreFound.none = λ part h e. absurd h
item_found {entries} (AreFound.item {part = p} {place} s at f) = λ part h e. elim h [
  | inl g ↦ (place, subst (λ (x : Part). IsAt entries x place) g at)
  | inr g ↦ item_found f part g e
]
item_found {entries} (AreFound.sublink {part = p} k s l f) = λ part h e. elim h [
  | inl g ↦ absurd (no_sub k part.sub e (ap (λ (x : Part). x.sub) (sym g) ∙ s))
  | inr g ↦ item_found f part g e
]

same_number : (n k : ℕ) (o : Option ℕ) → o ≡ Some k → o ≡ Some n → k ≡ n
same_number n k o e f = cc

sublink_found : {entries : List Entry} {parts : List Part} {places : List ℕ} → AreFound entries parts places → (part : Part) (n : ℕ) → In part parts → part.sub ≡ Some n → is_listed entries n ≡ true
sublink_found AreFound.none = λ part n h e. absurd h
sublink_found {entries} (AreFound.item {part = p} {place} s at f) = λ part n h e. elim h [
  | inl g ↦ absurd (no_sub n part.sub (ap (λ (x : Part). x.sub) (sym g) ∙ s) e)
  | inr g ↦ sublink_found f part n g e
]
sublink_found {entries} (AreFound.sublink {part = p} k s l f) = λ part n h e. elim h [
  | inl g ↦ subst (λ m. is_listed entries m ≡ true) (same_number n k part.sub (ap (λ (x : Part). x.sub) (sym g) ∙ s) e) l
  | inr g ↦ sublink_found f part n g e
]

number_is : (o : Option ℕ) (n : ℕ) → is_number n o ≡ true → o ≡ Some n
number_is (Some k) n e = ap Some (eqb-true k n e)
number_is None n e = cc

-- a listed sublink has a block
record IsListedAt (entries : List Entry) (n : ℕ) : Type 0 where
  pub place : ℕ
  pub entry : Entry
  pub there : slice_get entries place ≡ Some entry
  pub is : entry.part.sub ≡ Some n

listed_somewhere : (entries : List Entry) (n : ℕ) → is_listed entries n ≡ true → IsListedAt entries n
listed_somewhere entries n h =
    let k = from_any (is_of_sublink n) entries h in
    let p = place_in k.0 entries k.1 in
    record { place = p.0; entry = k.0; there = p.1; is = number_is k.0.part.sub n k.2 }

-- ---- the whole list

pub gap : (i n : ℕ) → i < n → (k : ℕ) × (i + k + 1 ≡ n)
gap i zero low = absurd (omega arith)
gap zero (suc n) low = (n, omega arith)
gap (suc i) (suc n) low = let k = gap i n (omega arith) in (k.0, omega (arith, k.1))

unsome_query : (a b : Query) → Some a ≡ Some b → a ≡ b
unsome_query a b e = cc

abbrev source_like : Part → Source
source_like part = record { query = part.query; sub = part.sub }

abbrev made_source : Query → Option ℕ → Source
made_source query sub = record { query = query; sub = sub }

each_from : {X : Type 0} (P : X → Type 0) (xs : List X) → ((x : X) → In x xs → P x) → Each P xs
each_from P [] h = tt
each_from P (x ∷ xs) h = (h x (inl refl), each_from P xs (λ y k. h y (inr k)))

as_used : (b : Query) (part : Part) → Uses b part → IsUsedBy b (source_like part)
as_used b part (Uses.item r h e) = inl (r, from_in r (queries_of_items b) h, ap source_like (sym e))
as_used b part (Uses.sublink o h e) = inr (o, from_in o (sublinks_of_block b) h, ap source_like (sym e))

module _ (q : Query) (entries : List Entry) (put : IsPut [] (item_part q) entries) where
  abbrev pub last : Entry
  last = record { part = item_part q; inner = put.inner }

  abbrev sources : List Source
  sources = sources_of entries

  pub are_settled : AreSettled entries
  are_settled = subst AreSettled (sym put.is) (AreSettled.more last (settled AreSettled.none put.visits) (found put.visits))

  pub count_is : length entries ≡ length put.used + 1
  count_is = ap length put.is ∙ length-append put.used (last ∷ [])

  last_there : slice_get entries (length put.used) ≡ Some last
  last_there = ap (λ es. slice_get es (length put.used)) put.is ∙ seam put.used [] last

  pub behind : (i : ℕ) (e : Entry) → i < length put.used → slice_get entries i ≡ Some e → IsUsedBehind entries i e.part
  behind i e low h =
      let k = there put.used i low in
      let same : k.0 ≡ e = one_there entries i k.0 e (ap (λ es. slice_get es i) put.is ∙ front put.used (last ∷ []) i k.0 k.1) h in
      let at : slice_get put.used i ≡ Some e = k.1 ∙ ap Some same in
      (elim (used put.visits i e (omega arith) at) [
        | inl g ↦ record { at = length put.used; entry = last; behind = low; there = last_there; uses = g }
        | inr g ↦ behind_stays put.used entries (last ∷ []) i e.part put.is g
      ])

  pub last_is : (i : ℕ) (e : Entry) → i + 0 + 1 ≡ length entries → slice_get entries i ≡ Some e → last ≡ e
  last_is i e c h =
      let at : i ≡ length put.used = omega (arith, count_is, c) in
      one_there entries (length put.used) last e last_there (ap (slice_get entries) (sym at) ∙ h)

  -- each block is that of a part of the query
  inside_from : (n i k : ℕ) (e : Entry) → k < n → i + k + 1 ≡ length entries → slice_get entries i ≡ Some e → HasInside (sublinks_in q) e.part
  inside_from zero i k e low c h = absurd (omega arith)
  inside_from (suc n) i zero e low c h =
      subst (λ (x : Entry). HasInside (sublinks_in q) x.part) (last_is i e c h) (no_number (sublinks_in q) q (λ s g. g))
  inside_from (suc n) i (suc k) e low c h =
      let b = behind i e (omega (arith, count_is, c)) h in
      let far = within entries b.at b.entry b.there in
      let k' = gap b.at (length entries) far in
      let it = inside_from n b.at k'.0 b.entry (omega (arith, k'.1, b.behind, c)) k'.1 b.there in
      wider (sublinks_in b.entry.part.query) (sublinks_in q) e.part it.inner (inside b.entry.part.query e.part b.uses)

  pub is_inside : (i : ℕ) (e : Entry) → slice_get entries i ≡ Some e → HasInside (sublinks_in q) e.part
  is_inside i e h = let k = gap i (length entries) (within entries i e h) in inside_from (suc k.0) i k.0 e (omega arith) k.1 h

  module _ (fresh : IsFresh q) where
    same_queries : (n : ℕ) (a b : Query) → IsThere (sublinks_in q) n a → IsThere (sublinks_in q) n b → a ≡ b
    same_queries n a b x y =
        let node : x.sublink.node ≡ y.sublink.node = fresh.equal x.sublink y.sublink (from_in x.sublink (sublinks_in q) x.there) (from_in y.sublink (sublinks_in q) y.there) (x.numbered ∙ sym y.numbered) in
        unsome_query a b (sym x.means ∙ ap (λ e. sublink_query (out-Expr e)) node ∙ y.means)

    copies_same : (i j n : ℕ) (x y : Entry) → slice_get entries i ≡ Some x → slice_get entries j ≡ Some y → x.part.sub ≡ Some n → y.part.sub ≡ Some n → x.part.query ≡ y.part.query
    copies_same i j n x y hx hy sx sy = same_queries n x.part.query y.part.query ((is_inside i x hx).itself n sx) ((is_inside j y hy).itself n sy)

    all_apart : AreApart [] entries
    all_apart = subst (AreApart []) (sym put.is) (apart (Visits.item {part = item_part q} refl put.visits (Visits.done refl)))

    pub not_before : (i j n : ℕ) (x y : Entry) → i < j → slice_get entries i ≡ Some x → slice_get entries j ≡ Some y → x.part.sub ≡ Some n → y.part.sub ≡ Some n → ⊥
    not_before i j n x y less hx hy sx sy = omega (arith, all_apart i j n x y less (omega arith) hx hy sx sy, ap weight_of_query (copies_same i j n x y hx hy sx sy))

    one_place : (i j n : ℕ) (x y : Entry) → slice_get entries i ≡ Some x → slice_get entries j ≡ Some y → x.part.sub ≡ Some n → y.part.sub ≡ Some n → i ≡ j
    one_place i j n x y hx hy sx sy = elim (cases_lt i j) [
      | inl g ↦ absurd (not_before i j n x y g hx hy sx sy)
      | inr g ↦ (elim (cases_lt j i) [
        | inl k ↦ absurd (not_before j i n y x k hy hx sy sx)
        | inr k ↦ omega (arith, g, k)
      ])
    ]

    -- ---- by numbers

    number_at : (i k : ℕ) (e : Entry) → i + k + 1 ≡ length entries → slice_get entries i ≡ Some e → IsSourceAt sources k (source_of e)
    number_at i k e c h = turned_at source_of entries i k e c h

    -- a block that stands before the place has a greater number
    behind_number : (i k j : ℕ) (e : Entry) (s : Source) → i + k + 1 ≡ length entries → j < i → slice_get entries j ≡ Some e → source_of e ≡ s → HasBehind sources k s
    behind_number i k j e s c low h is =
        let m = gap j (length entries) (within entries j e h) in
        (m.0, omega (arith, m.1, c), subst (IsSourceAt sources m.0) is (number_at j m.0 e m.1 h))

    in_before : (i j : ℕ) (e x : Entry) (s : IsSettledAt entries i e) → slice_get s.before j ≡ Some x → slice_get entries j ≡ Some x
    in_before i j e x s h = ap (λ es. slice_get es j) s.is ∙ front s.before (e ∷ s.behind) j x h

    query_behind : (i k : ℕ) (e : Entry) → i + k + 1 ≡ length entries → slice_get entries i ≡ Some e → (b : Query) → In b (queries_of_items e.part.query) → HasBehind sources k (of_item b)
    query_behind i k e c h b g =
        let s = settled_at are_settled i e h in
        let f = item_found s.found (item_part b) (query_part e.part.query b g) refl in
        let low = within s.before f.0 f.1.entry f.1.there in
        behind_number i k f.0 f.1.entry (of_item b) c (omega (arith, low, s.at)) (in_before i f.0 e f.1.entry s f.1.there) (ap (λ (p : Part). source_like p) f.1.is)

    sublink_behind : (i k : ℕ) (e : Entry) → i + k + 1 ≡ length entries → slice_get entries i ≡ Some e → (o : Outer) → In o (sublinks_of_block e.part.query) → HasBehind sources k (of_sublink o)
    sublink_behind i k e c h o g =
        let s = settled_at are_settled i e h in
        let part_in = sublink_in_parts e.part.query o g in
        let l = listed_somewhere s.before o.number (sublink_found s.found (sublink_part o) o.number part_in refl) in
        let low = within s.before l.place l.entry l.there in
        let at = in_before i l.place e l.entry s l.there in
        let own = wider (sublinks_in e.part.query) (sublinks_in q) (sublink_part o) (is_inside i e h).inner (inside e.part.query (sublink_part o) part_in) in
        let same : l.entry.part.query ≡ o.query = same_queries o.number l.entry.part.query o.query ((is_inside l.place l.entry at).itself o.number l.is) (own.itself o.number refl) in
        behind_number i k l.place l.entry (of_sublink o) c (omega (arith, low, s.at)) at (ap₂ made_source same l.is)

    used_by : (i k : ℕ) (e : Entry) → 0 < k → i + k + 1 ≡ length entries → slice_get entries i ≡ Some e → (outer : ℕ) × (by : Source) × (outer < k) × IsSourceAt sources outer by × IsUsedBy by.query (source_of e)
    used_by i k e low c h =
        let b = behind i e (omega (arith, count_is, c, low)) h in
        let m = gap b.at (length entries) (within entries b.at b.entry b.there) in
        (m.0, source_of b.entry, omega (arith, m.1, b.behind, c), number_at b.at m.0 b.entry m.1 b.there, as_used b.entry.part.query e.part (uses b.entry.part.query e.part b.uses))

    source_number : (k : ℕ) (s : Source) → IsSourceAt sources k s → FromEnd source_of entries k s
    source_number k s h = from_turned source_of entries k s h

    pub are_sources : AreSources q sources
    are_sources = record {
      statement = number_at (length put.used) 0 last (omega (arith, count_is)) last_there;
      items = λ k s h. (let f = source_number k s h in subst (λ (x : Source). All (λ b. HasBehind sources k (of_item b)) (queries_of_items x.query)) f.is
          (all_of_each _ _ (each_from _ _ (query_behind f.place k f.member f.counted f.there))));
      sublinks = λ k s h. (let f = source_number k s h in subst (λ (x : Source). All (λ o. HasBehind sources k (of_sublink o)) (sublinks_of_block x.query)) f.is
          (all_of_each _ _ (each_from _ _ (sublink_behind f.place k f.member f.counted f.there))));
      used = λ k s low h. (let f = source_number k s h in subst (λ (x : Source). (outer : ℕ) × (by : Source) × (outer < k) × IsSourceAt sources outer by × IsUsedBy by.query x) f.is (used_by f.place k f.member low f.counted f.there));
      one = λ m n sub a b ha hb sa sb. (let f = source_number m a ha in let g = source_number n b hb in
          omega (arith, one_place f.place g.place sub f.member g.member f.there g.there (ap (λ (x : Source). x.sub) f.is ∙ sa) (ap (λ (x : Source). x.sub) g.is ∙ sb), f.counted, g.counted));
    }
