-- When a block sees nothing of what stands around it, and what follows for its list.
use Rattle.std.proofs.Common.{◌≡◌, ◌∙◌, ap, sym, subst, refl, ℕ, ◌<◌, inl, inr, true, List, map, length, Some}
use Rattle.std.specs.Prelude.{Contains, bit_or}
use Rattle.std.specs.Int.{bit_at}
use Rattle.std.proofs.lemmas.Bool.{eqb-true}
use Rattle.jp_base.specs.Sets.{Has}
use Rattle.jp_base.proofs.SetLemmas.{empty_zero, has_or}
use Rattle.jp_facts.proofs.Members.{In, in_flat_map, from_flat_map, from_in, from_map, in_map, to_in}
use Rattle.jp_query.specs.declared.Expr.{Expr}
use Rattle.jp_query.specs.Meaning.{Env, Row, has}
use Rattle.jp_query.specs.Outermost.{Outer}
use Rattle.jp_query.specs.Parts.{ColumnRef}
use Rattle.jp_query.specs.Scopes.{Scope}
use Rattle.jp_problem.specs.declared.types.Item.{Item}
use Rattle.jp_problem.specs.declared.types.ItemKind.TheVariants as kind
use Rattle.jp_problem.specs.Sets.{is_within}
use Rattle.jp_problem.proofs.SetTests.{is_within_says}
use Rattle.jp_induction.proofs.EachPart.{Each, each_true}
use Rattle.jp_tree.specs.declared.prepared.Block.{Block}
use Rattle.jp_tree.specs.declared.prepared.Prepared.{Prepared}
use Rattle.jp_tree.specs.BlockParts.{blocks_of_item, blocks_of_kind, columns_named, exprs_in, item_blocks, own_columns, own_placeholders, placeholders_named, sublinks_of, HasRelation, IsBlockAt, IsOuterReference, Uses}
use Rattle.jp_tree.specs.BlockParts as parts
use Rattle.jp_tree.specs.Prepared.{HasOneBlock, IsWhole}
use Rattle.jp_lists.specs.Lists.{block_of_sublink, list_of}
use Rattle.jp_lists.specs.Seen.{AreSeenAlike, FitsOutside, IsOuterPresence}
use Rattle.jp_lists.specs.Seen as seen
use Rattle.jp_lists.proofs.Arounds.{from_each, in_range, own_relation, own_rels}
use Rattle.jp_lists.proofs.SeenLaws.{list_by_sight}
use Rattle.jp_lists.proofs.Sublinks.{sublink_place}
use Rattle.jp_outputs.specs.Exprs.{sublink_number}
use Rattle.jp_outputs.specs.Within.{block_within, names_within}
use Rattle.jp_outputs.proofs.WithinLaws.{own_columns_within, own_placeholders_within}
use Rattle.jp_exec.specs.Given.{RefersWithin}

-- ---- what a block names

module _ (set : ℕ) (block : Block) (all : block_within set block ≡ true) where
  named_by_one : (e : Expr) → In e (exprs_in block) → names_within set e ≡ true
  named_by_one e h = from_each (λ x. names_within set x ≡ true) e (exprs_in block) (each_true (names_within set) (exprs_in block) all) h

  pub column_within : (c : ColumnRef) → In c (columns_named block) → Has set c.relation
  column_within c h =
      let e = from_flat_map own_columns c (exprs_in block) h in
      eqb-true (bit_at set c.relation) 1 (from_each (λ (x : ColumnRef). has set x.relation ≡ true) c (own_columns e.0) (own_columns_within set e.0 (named_by_one e.0 e.1)) e.2)

  pub placeholder_within : (rels : ℕ) → In rels (placeholders_named block) → (rel : ℕ) → Has rels rel → Has set rel
  placeholder_within rels h =
      let e = from_flat_map own_placeholders rels (exprs_in block) h in
      (is_within_says rels set).0 (from_each (λ x. is_within x set ≡ true) rels (own_placeholders e.0) (own_placeholders_within set e.0 (named_by_one e.0 e.1)) e.2)

-- ---- the blocks of sublinks

module _ (prepared : Prepared) (whole : IsWhole prepared) (number : ℕ) (block : Block) (there : IsBlockAt prepared number block) where
  module _ (sub : ℕ) (own : In sub (map sublink_number (sublinks_of block))) where
    found : (o : Outer) × In o (sublinks_of block) × (sublink_number o ≡ sub)
    found = from_map sublink_number sub (sublinks_of block) own

    one : HasOneBlock prepared number found.0.number
    one = whole.sublinks number block found.0 there (from_in found.0 (sublinks_of block) found.1)

    place_is : block_of_sublink prepared.blocks sub ≡ one.place
    place_is = ap (block_of_sublink prepared.blocks) (sym found.2) ∙ sublink_place prepared number found.0.number one

    pub sub_further : number < block_of_sublink prepared.blocks sub
    sub_further = subst (λ k. number < k) (sym place_is) one.behind

    pub sub_there : block_of_sublink prepared.blocks sub < length prepared.blocks
    sub_there = subst (λ k. k < length prepared.blocks) (sym place_is) (in_range prepared.blocks one.place one.is.block one.is.there)

  pub item_place : (item : Item) → Contains block.problem.items item → (inner : ℕ) → In inner (blocks_of_item item) → (number < inner) × (inner < length prepared.blocks)
  item_place item held inner named =
      whole.behind number inner block there (from_in inner (item_blocks block) (in_flat_map blocks_of_item item inner block.problem.items (to_in item block.problem.items held) named))

  -- ---- what a block and those that it uses refer to

  module _ (set : ℕ) (named : block_within (bit_or set (own_rels block)) block ≡ true) (items : Each (RefersWithin prepared (bit_or set (own_rels block))) (item_blocks block))
      (subs : Each (RefersWithin prepared (bit_or set (own_rels block))) (map (block_of_sublink prepared.blocks) (map sublink_number (sublinks_of block)))) where
    abbrev inside : ℕ
    inside = bit_or set (own_rels block)

    here : (other : Block) → IsBlockAt prepared number other → block ≡ other
    here other is = same (sym there ∙ is)
      where
        same : Some block ≡ Some other → block ≡ other
        same e = cc

    outside : (rel : ℕ) → Has inside rel → ¬ HasRelation block rel → Has set rel
    outside rel h out = elim ((has_or set (own_rels block) rel).0 h) [ inl p ↦ p | inr q ↦ absurd (out (own_relation block rel q)) ]

    used_within : (inner : ℕ) → Uses prepared block inner → RefersWithin prepared inside inner
    used_within inner (parts.by_item h) = from_each (RefersWithin prepared inside) inner (item_blocks block) items (to_in inner (item_blocks block) h)
    used_within inner (parts.by_sublink o h sub) =
        let its = whole.sublinks number block o there h in
        let k = block_of_sublink prepared.blocks o.number in
        let listed = in_map (block_of_sublink prepared.blocks) o.number (map sublink_number (sublinks_of block)) (in_map sublink_number o (sublinks_of block) (to_in o (sublinks_of block) h)) in
        subst (RefersWithin prepared inside) (sublink_place prepared number o.number its ∙ sym (its.only inner sub)) (from_each (RefersWithin prepared inside) k (map (block_of_sublink prepared.blocks) (map sublink_number (sublinks_of block))) subs listed)

    columns : (c : ColumnRef) → IsOuterReference prepared number c → Has set c.relation
    columns c (parts.named other is h out) =
        let same = here other is in
        outside c.relation (column_within inside block named c (to_in c (columns_named block) (subst (λ b. Contains (columns_named b) c) (sym same) h))) (subst (λ b. ¬ HasRelation b c.relation) (sym same) out)
    columns c (parts.passed_on other inner is uses more out) =
        let same = here other is in
        outside c.relation ((used_within inner (subst (λ b. Uses prepared b inner) (sym same) uses)).columns c more) (subst (λ b. ¬ HasRelation b c.relation) (sym same) out)

    presence : (rel : ℕ) → IsOuterPresence prepared number rel → Has set rel
    presence rel (seen.named other rels is h has out) =
        let same = here other is in
        outside rel (placeholder_within inside block named rels (to_in rels (placeholders_named block) (subst (λ b. Contains (placeholders_named b) rels) (sym same) h)) rel has) (subst (λ b. ¬ HasRelation b rel) (sym same) out)
    presence rel (seen.passed_on other inner is uses more out) =
        let same = here other is in
        outside rel ((used_within inner (subst (λ b. Uses prepared b inner) (sym same) uses)).presence rel more) (subst (λ b. ¬ HasRelation b rel) (sym same) out)

    pub refers_within : RefersWithin prepared set number
    refers_within = record { columns = columns; presence = presence }

  pub refers_by : (set inside : ℕ) → inside ≡ bit_or set (own_rels block) → block_within inside block ≡ true → Each (RefersWithin prepared inside) (item_blocks block) → (numbers : List ℕ) → numbers ≡ map sublink_number (sublinks_of block)
      → Each (RefersWithin prepared inside) (map (block_of_sublink prepared.blocks) numbers) → RefersWithin prepared set number
  refers_by set inside is named items numbers are subs =
      refers_within set (subst (λ i. block_within i block ≡ true) is named) (subst (λ i. Each (RefersWithin prepared i) (item_blocks block)) is items)
      (subst (λ i. Each (RefersWithin prepared i) (map (block_of_sublink prepared.blocks) (map sublink_number (sublinks_of block)))) is
      (subst (λ ns. Each (RefersWithin prepared inside) (map (block_of_sublink prepared.blocks) ns)) are subs))

pub left_named : (item : Item) (left right : ℕ) (on : List Expr) → item.kind ≡ kind.Full left right on → In left (blocks_of_item item)
left_named item left right on is = subst (λ k. In left (blocks_of_kind k)) (sym is) (inl refl)

pub right_named : (item : Item) (left right : ℕ) (on : List Expr) → item.kind ≡ kind.Full left right on → In right (blocks_of_item item)
right_named item left right on is = subst (λ k. In right (blocks_of_kind k)) (sym is) (inr (inl refl))

-- ---- a block that sees nothing

module _ (prepared : Prepared) (number : ℕ) (closed : RefersWithin prepared 0 number) where
  pub fits_closed : (scope : Scope) (env : Env) → FitsOutside prepared scope number env
  fits_closed scope env c h = absurd (empty_zero 0 refl c.relation (closed.columns c h))

  seen_closed : (env other : Env) → AreSeenAlike prepared number env other
  seen_closed env other = record {
    cells = λ c h. absurd (empty_zero 0 refl c.relation (closed.columns c h));
    presence = λ rel low h. absurd (empty_zero 0 refl rel (closed.presence rel h));
  }

  pub rows_closed : IsWhole prepared → (tables : ℕ → List Row) (env other : Env) → list_of prepared tables number env ≡ list_of prepared tables number other
  rows_closed whole tables env other = list_by_sight prepared tables number env other whole (seen_closed env other)
