-- What a block gives is made of what the blocks behind it give.
use Rattle.std.proofs.Common.{◌≡◌, ◌∙◌, ap, sym, subst, refl, ℕ, zero, suc, ◌+◌, ◌-◌, ◌<◌, inl, inr, List, [], ◌∷◌, Some, arith}
use Rattle.std.specs.Prelude.{slice_get, slice_index_or}
use Rattle.jp_facts.proofs.Members.{In, from_in, in_flat_map}
use Rattle.jp_query.specs.declared.Expr.{Expr}
use Rattle.jp_query.specs.Meaning.{Row, Env, with_rows, without}
use Rattle.jp_query.specs.Outermost.{Outer, outermost}
use Rattle.jp_induction.specs.Alike.{Alike, none, more}
use Rattle.jp_induction.proofs.Between.{Kept}
use Rattle.jp_induction.proofs.EachPart.{Each, each_anyway}
use Rattle.jp_laws.specs.SameCells.{IsSameCell, IsSamePresence}
use Rattle.jp_lists.specs.Lists.{Listed, Listing, sublink_rows, only_rows, block_of_sublink, around_block, listed_block, nothing_listed, listing_of, listed_from, listing}
use Rattle.jp_lists.specs.Seen.{HasSameRows}
use Rattle.jp_lists.proofs.BlocksAlike.{Alikeness, block_rows, block_tuples}
use Rattle.jp_lists.proofs.GivenCells.{Sees}
use Rattle.jp_lists.proofs.Sublinks.{sublink_place}
use Rattle.jp_tree.specs.BlockParts.{exprs_in, own_columns, own_placeholders, sublinks_of, item_blocks, IsBlockAt}
use Rattle.jp_tree.specs.Prepared.{IsWhole}
use Rattle.jp_tree.specs.declared.pool.PlanNode.{PlanNode}
use Rattle.jp_tree.specs.declared.prepared.Block.{Block}
use Rattle.jp_tree.specs.declared.prepared.Prepared.{Prepared}

-- ---- the list of blocks

module _ (blocks : List Block) (nodes : List PlanNode) (tables : ℕ → List Row) where
  -- what a block is made of, which is the listing at all numbers behind it
  record IsMadeAt (first : ℕ) (behind : List Block) (number : ℕ) (block : Block) : Type 0 where
    inner : Listing
    agrees : (n : ℕ) → number < n → inner n ≡ listing_of first (listed_from blocks nodes tables first behind) n
    made : listing_of first (listed_from blocks nodes tables first behind) number ≡ listed_block blocks nodes tables inner block

  same_block : (a b : Block) → Some a ≡ Some b → a ≡ b
  same_block a b e = cc

  later : (first n : ℕ) (b : Block) (behind : List Block) → first < n
      → listing_of (suc first) (listed_from blocks nodes tables (suc first) behind) n ≡ listing_of first (listed_from blocks nodes tables first (b ∷ behind)) n
  unfolding listed_from
  later first n b behind low = ap (λ k. slice_index_or (listed_from blocks nodes tables first (b ∷ behind)) k (λ outer. nothing_listed)) apart
    where
      apart : suc (n - suc first) ≡ n - first
      apart = omega (arith, low)

  one_more : (first k : ℕ) (b : Block) (behind : List Block) (block : Block) → IsMadeAt (suc first) behind (suc first + k) block → IsMadeAt first (b ∷ behind) (first + suc k) block
  one_more first k b behind block m = record {
    inner = m.inner;
    agrees = λ n low. m.agrees n (omega (arith, low)) ∙ later first n b behind (omega (arith, low));
    made = ap (listing_of first (listed_from blocks nodes tables first (b ∷ behind))) same ∙ sym (later first (suc first + k) b behind (omega arith)) ∙ m.made;
  }
    where
      same : first + suc k ≡ suc first + k
      same = omega arith

  made_at : (first k : ℕ) (behind : List Block) (block : Block) → slice_get behind k ≡ Some block → IsMadeAt first behind (first + k) block
  unfolding listed_from
  made_at first k [] block there = cc
  made_at first zero (b ∷ behind) block there = record {
    inner = listing_of (suc first) (listed_from blocks nodes tables (suc first) behind);
    agrees = λ n low. later first n b behind (omega (arith, low));
    made = ap (λ k. slice_index_or (listed_from blocks nodes tables first (b ∷ behind)) k (λ outer. nothing_listed)) none_apart ∙ ap (listed_block blocks nodes tables (listing_of (suc first) (listed_from blocks nodes tables (suc first) behind))) (same_block b block there);
  }
    where
      none_apart : (first + 0) - first ≡ 0
      none_apart = omega arith
  made_at first (suc k) (b ∷ behind) block there = one_more first k b behind block (made_at (suc first) k behind block there)

-- ---- two listings that agree behind a block

abbrev AreEqual : ℕ → Env → Env → Type 0
AreEqual n x y = x ≡ y

equal_kept : Kept AreEqual
equal_kept = record { pair = λ l r x y u v a b i. with_rows r (a i) (b i); alone = λ l r x y a i. without r (a i) }

itself : (xs : List Env) → Alike (AreEqual 0) xs xs
itself [] = none
itself (x ∷ xs) = more refl (itself xs)

equal_lists : {xs ys : List Env} → Alike (AreEqual 0) xs ys → xs ≡ ys
equal_lists none = refl
equal_lists (more {x} {y} {xs} {ys} e a) = λ i. e i ∷ equal_lists a i

module _ (prepared : Prepared) (whole : IsWhole prepared) (tables : ℕ → List Row) (number : ℕ) (block : Block) (there : IsBlockAt prepared number block) (inner inner' : Listing) (agrees : (n : ℕ) → number < n → inner n ≡ inner' n) where
  sublinks_agree : (env : Env) (sublink : Outer) → In sublink (sublinks_of block) → HasSameRows (sublink_rows prepared.blocks inner env) (sublink_rows prepared.blocks inner' env) sublink
  sublinks_agree env sublink h =
      let one = whole.sublinks number block sublink there (from_in sublink (sublinks_of block) h) in
      ap (λ (l : Env → Listed). (l env).rows) (agrees (block_of_sublink prepared.blocks sublink.number) (subst (λ n. number < n) (sym (sublink_place prepared number sublink.number one)) one.behind))

  each_agrees : (env : Env) (sublinks : List Outer) → ((s : Outer) → In s sublinks → In s (sublinks_of block)) → Each (HasSameRows (sublink_rows prepared.blocks inner env) (sublink_rows prepared.blocks inner' env)) sublinks
  each_agrees env [] w = tt
  each_agrees env (s ∷ sublinks) w = (sublinks_agree env s (w s (inl refl)), each_agrees env sublinks (λ t h. w t (inr h)))

  sees_itself : (env : Env) (e : Expr) → In e (exprs_in block) → Sees (sublink_rows prepared.blocks inner env) (sublink_rows prepared.blocks inner' env) env env e
  sees_itself env e h = record {
    cells = each_anyway (IsSameCell env env) (λ c. refl) (own_columns e);
    presence = each_anyway (IsSamePresence env env) (λ rels i low m. refl) (own_placeholders e);
    lists = each_agrees env (outermost e) (λ s k. in_flat_map outermost e s (exprs_in block) h k);
  }

  alikeness : (outer : Env) → Alikeness prepared.blocks tables inner inner' outer outer block AreEqual
  alikeness outer = record {
    kept = equal_kept;
    seen = λ rels n x y within e i. only_rows rels (e i);
    maps = λ sources m. refl;
    rows = λ n h. ap (λ (l : Env → Listed). (l (around_block block outer)).rows) (agrees n (whole.behind number n block there (from_in n (item_blocks block) h)).0);
    tuples = λ n h. subst (λ (l : Env → Listed). Alike (AreEqual 0) (inner n (around_block block outer)).tuples (l (around_block block outer)).tuples) (agrees n (whole.behind number n block there (from_in n (item_blocks block) h)).0) (itself (inner n (around_block block outer)).tuples);
    sight = λ n x y e f h. subst (λ z. Sees (sublink_rows prepared.blocks inner x) (sublink_rows prepared.blocks inner' z) x z f) e (sees_itself x f h);
  }

  pub listings_agree : (nodes : List PlanNode) (outer : Env) → listed_block prepared.blocks nodes tables inner block outer ≡ listed_block prepared.blocks nodes tables inner' block outer
  listings_agree nodes outer =
      let a = listed_block prepared.blocks nodes tables inner block outer in
      let b = listed_block prepared.blocks nodes tables inner' block outer in
      let tuples = equal_lists (block_tuples prepared.blocks tables inner inner' outer outer block AreEqual (alikeness outer) nodes) in
      let rows = block_rows prepared.blocks tables inner inner' outer outer block AreEqual (alikeness outer) nodes in
      λ i. record { tuples = tuples i; rows = rows i }

pub block_unfolds : (prepared : Prepared) (tables : ℕ → List Row) (number : ℕ) (block : Block) (env : Env) → IsWhole prepared → IsBlockAt prepared number block
    → listing prepared tables number env ≡ listed_block prepared.blocks prepared.pool.nodes tables (listing prepared tables) block env
block_unfolds prepared tables number block env whole there =
    let m = made_at prepared.blocks prepared.pool.nodes tables 0 number prepared.blocks block there in
    ap (λ k. listing prepared tables k env) same ∙ ap (λ (l : Env → Listed). l env) m.made ∙ listings_agree prepared whole tables number block there m.inner (listing prepared tables) (λ n low. m.agrees n (omega (arith, low))) prepared.pool.nodes env
  where
    same : number ≡ 0 + number
    same = omega arith
