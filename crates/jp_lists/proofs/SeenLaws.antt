-- What a block lists depends on what it sees of the environment around it alone.
use Rattle.std.proofs.Common.{◌≡◌, ◌∙◌, ap, sym, subst, refl, ℕ, zero, suc, ◌-◌, ◌<◌, List, [], ◌∷◌, length, Option, Some, None, arith}
use Rattle.std.specs.Prelude.{slice_get, slice_index_or, is_some}
use Rattle.jp_base.specs.Sets.{Has}
use Rattle.jp_facts.proofs.Members.{In, from_in, in_flat_map}
use Rattle.jp_query.specs.declared.Expr.{Expr}
use Rattle.jp_query.specs.Meaning.{Row, Env}
use Rattle.jp_query.specs.Outermost.{Outer, outermost}
use Rattle.jp_query.specs.Parts.{ColumnRef}
use Rattle.jp_induction.specs.Alike.{Alike, none}
use Rattle.jp_induction.proofs.Alike.{alike_weaker}
use Rattle.jp_laws.specs.SameCells.{IsSameCell, IsSamePresence, AreTwins}
use Rattle.jp_laws.proofs.TwinLaws.{twins_kept, twin_cell}
use Rattle.jp_lists.specs.Lists.{Listed, sublink_rows, rels_of_some, rels_of_block, around_block, listed_block, nothing_listed, listed_from, listing, list_of}
use Rattle.jp_lists.specs.Seen.{IsOuterPresence, named, passed_on, AreSeenAlike, HasSameRows}
use Rattle.jp_lists.proofs.Arounds.{each_from, in_range, from_behind, own_rels, stays, around_cell, around_presence, twin_row, seen_same, maps_twins}
use Rattle.jp_lists.proofs.BlocksAlike.{Alikeness, block_rows, block_tuples}
use Rattle.jp_lists.proofs.GivenCells.{Sees}
use Rattle.jp_lists.proofs.Sublinks.{sublink_place}
use Rattle.jp_lists.proofs.Unfolds.{block_unfolds}
use Rattle.jp_tree.specs.BlockParts.{exprs_in, own_columns, columns_named, own_placeholders, placeholders_named, sublinks_of, item_blocks, HasRelation, IsBlockAt, Uses, by_item, by_sublink, IsOuterReference}
use Rattle.jp_tree.specs.BlockParts as parts
use Rattle.jp_tree.specs.Prepared.{IsWhole}
use Rattle.jp_tree.specs.declared.pool.PlanNode.{PlanNode}
use Rattle.jp_tree.specs.declared.prepared.Block.{Block}
use Rattle.jp_tree.specs.declared.prepared.Prepared.{Prepared}

-- ---- where there is no block

nothing_at : (blocks : List Block) (nodes : List PlanNode) (tables : ℕ → List Row) (first k : ℕ) (behind : List Block) → slice_get behind k ≡ None → slice_index_or (listed_from blocks nodes tables first behind) k (λ outer. nothing_listed) ≡ (λ outer. nothing_listed)
unfolding listed_from
nothing_at blocks nodes tables first k [] e = refl
nothing_at blocks nodes tables first zero (b ∷ behind) e = cc
nothing_at blocks nodes tables first (suc k) (b ∷ behind) e = nothing_at blocks nodes tables (suc first) k behind e

pub lists_nothing : (prepared : Prepared) (tables : ℕ → List Row) (number : ℕ) → slice_get prepared.blocks number ≡ None → listing prepared tables number ≡ (λ outer. nothing_listed)
lists_nothing prepared tables number e = ap (λ k. slice_index_or (listed_from prepared.blocks prepared.pool.nodes tables 0 prepared.blocks) k (λ outer. nothing_listed)) same ∙ nothing_at prepared.blocks prepared.pool.nodes tables 0 number prepared.blocks e
  where
    same : number - 0 ≡ number
    same = omega arith

module _ (prepared : Prepared) (whole : IsWhole prepared) (tables : ℕ → List Row) where
  record AreListedAlike (number : ℕ) (env other : Env) : Type 0 where
    rows : (listing prepared tables number env).rows ≡ (listing prepared tables number other).rows
    tuples : Alike (AreTwins (rels_of_block prepared.blocks number) env other) (listing prepared tables number env).tuples (listing prepared tables number other).tuples

  abbrev Good : ℕ → Type 0
  Good number = (env other : Env) → AreSeenAlike prepared number env other → AreListedAlike number env other

  module _ (number : ℕ) (behind : (n : ℕ) → number < n → n < length prepared.blocks → Good n) (block : Block) (there : IsBlockAt prepared number block) (env other : Env) (s : AreSeenAlike prepared number env other) where
    abbrev around : Env
    around = around_block block env

    abbrev around' : Env
    around' = around_block block other

    named_cell : (c : ColumnRef) → In c (columns_named block) → IsSameCell around around' c
    named_cell c h = around_cell block env other c (λ out. s.cells c (parts.named block there (from_in c (columns_named block) h) out))

    passed_cell : (n : ℕ) → Uses prepared block n → (c : ColumnRef) → IsOuterReference prepared n c → IsSameCell around around' c
    passed_cell n uses c h = around_cell block env other c (λ out. s.cells c (parts.passed_on block n there uses h out))

    passed_presence : (n : ℕ) → Uses prepared block n → (rel : ℕ) → rel < 64 → IsOuterPresence prepared n rel → is_some (around rel) ≡ is_some (around' rel)
    passed_presence n uses rel low h = around_presence block env other rel (λ out. s.presence rel low (passed_on block n there uses h out))

    named_presence : (rels : ℕ) → In rels (placeholders_named block) → (rel : ℕ) → rel < 64 → Has rels rel → is_some (around rel) ≡ is_some (around' rel)
    named_presence rels m rel low h = around_presence block env other rel (λ out. s.presence rel low (named block rels there (from_in rels (placeholders_named block) m) h out))

    item_alike : (n : ℕ) → In n (item_blocks block) → AreListedAlike n around around'
    item_alike n h =
        let used = from_in n (item_blocks block) h in
        let place = whole.behind number n block there used in
        behind n place.0 place.1 around around' (record { cells = passed_cell n (by_item used); presence = passed_presence n (by_item used) })

    sublink_alike : (k : ℕ) (x y : Env) → AreTwins k around around' x y → (sublink : Outer) → In sublink (sublinks_of block) → HasSameRows (sublink_rows prepared.blocks (listing prepared tables) x) (sublink_rows prepared.blocks (listing prepared tables) y) sublink
    sublink_alike k x y t sublink h =
        let used = from_in sublink (sublinks_of block) h in
        let one = whole.sublinks number block sublink there used in
        let uses : Uses prepared block one.place = by_sublink sublink used one.is in
        let alike = behind one.place one.behind (in_range prepared.blocks one.place one.is.block one.is.there) x y (record {
          cells = λ c r. twin_cell around around' k x y t c (passed_cell one.place uses c r);
          presence = λ rel low r. twin_row block env other k x y t rel (passed_presence one.place uses rel low r);
        }) in
        subst (λ n. (listing prepared tables n x).rows ≡ (listing prepared tables n y).rows) (sym (sublink_place prepared number sublink.number one)) alike.rows

    sight : (k : ℕ) (x y : Env) → AreTwins k around around' x y → (e : Expr) → In e (exprs_in block) → Sees (sublink_rows prepared.blocks (listing prepared tables) x) (sublink_rows prepared.blocks (listing prepared tables) y) x y e
    sight k x y t e m = record {
      cells = each_from (IsSameCell x y) (own_columns e) (λ c r. twin_cell around around' k x y t c (named_cell c (in_flat_map own_columns e c (exprs_in block) m r)));
      presence = each_from (IsSamePresence x y) (own_placeholders e) (λ rels r rel low h. twin_row block env other k x y t rel (named_presence rels (in_flat_map own_placeholders e rels (exprs_in block) m r) rel low h));
      lists = each_from (HasSameRows (sublink_rows prepared.blocks (listing prepared tables) x) (sublink_rows prepared.blocks (listing prepared tables) y)) (outermost e) (λ sublink r. sublink_alike k x y t sublink (in_flat_map outermost e sublink (exprs_in block) m r));
    }

    alikeness : Alikeness prepared.blocks tables (listing prepared tables) (listing prepared tables) env other block (λ n. AreTwins n around around')
    alikeness = record {
      kept = twins_kept around around';
      seen = seen_same block env other;
      maps = maps_twins block env other;
      rows = λ n h. (item_alike n h).rows;
      tuples = λ n h. (item_alike n h).tuples;
      sight = sight;
    }

    outside : (x y : Env) → AreTwins (own_rels block) around around' x y → AreTwins (own_rels block) env other x y
    outside x y t = record { own = t.own; others = λ i n. ((t.others i n).0 ∙ stays (own_rels block) env i n, (t.others i n).1 ∙ stays (own_rels block) other i n) }

    alike_here : AreListedAlike number env other
    alike_here = record {
      rows = ap (λ (l : Listed). l.rows) (block_unfolds prepared tables number block env whole there)
          ∙ block_rows prepared.blocks tables (listing prepared tables) (listing prepared tables) env other block (λ n. AreTwins n around around') alikeness prepared.pool.nodes
          ∙ sym (ap (λ (l : Listed). l.rows) (block_unfolds prepared tables number block other whole there));
      tuples = subst (λ n. Alike (AreTwins n env other) (listing prepared tables number env).tuples (listing prepared tables number other).tuples) (sym (ap rels_of_some there))
          (subst (λ (l : Listed). Alike (AreTwins (own_rels block) env other) (listing prepared tables number env).tuples l.tuples) (sym (block_unfolds prepared tables number block other whole there))
          (subst (λ (l : Listed). Alike (AreTwins (own_rels block) env other) l.tuples (listed_block prepared.blocks prepared.pool.nodes tables (listing prepared tables) block other).tuples) (sym (block_unfolds prepared tables number block env whole there))
          (alike_weaker outside (block_tuples prepared.blocks tables (listing prepared tables) (listing prepared tables) env other block (λ n. AreTwins n around around') alikeness prepared.pool.nodes))));
    }

  alike_nowhere : (number : ℕ) (env other : Env) → slice_get prepared.blocks number ≡ None → AreListedAlike number env other
  alike_nowhere number env other e =
      let nothing = lists_nothing prepared tables number e in
      record {
        rows = ap (λ (l : Env → Listed). (l env).rows) nothing ∙ sym (ap (λ (l : Env → Listed). (l other).rows) nothing);
        tuples = subst (λ (l : Env → Listed). Alike (AreTwins (rels_of_block prepared.blocks number) env other) (l env).tuples (l other).tuples) (sym nothing) none;
      }

  alike_at : (number : ℕ) → ((n : ℕ) → number < n → n < length prepared.blocks → Good n) → (o : Option Block) → slice_get prepared.blocks number ≡ o → Good number
  alike_at number behind None e env other s = alike_nowhere number env other e
  alike_at number behind (Some block) e env other s = alike_here number behind block e env other s

  alike_everywhere : (number : ℕ) → Good number
  alike_everywhere = from_behind Good (length prepared.blocks) (λ number behind. alike_at number behind (slice_get prepared.blocks number) refl)

pub list_by_sight : (prepared : Prepared) (tables : ℕ → List Row) (number : ℕ) (env other : Env) → IsWhole prepared → AreSeenAlike prepared number env other → list_of prepared tables number env ≡ list_of prepared tables number other
list_by_sight prepared tables number env other whole s = (alike_everywhere prepared whole tables number env other s).rows
