-- With the rows of its sublinks from the blocks behind, an expression of a block has the value that it has in place.
use Rattle.std.proofs.Common.{◌≡◌, ◌∙◌, ap, sym, subst, refl, ℕ, zero, suc, ◌+◌, ◌<◌, List, [], ◌∷◌, ◌++◌, Option, Some, None, eq-eqb, arith}
use Rattle.std.specs.Prelude.{slice_get, if◌then◌else◌}
use Rattle.std.specs.List.{flat_map}
use Rattle.std.specs.List.Sorted.{IsPermutation}
use Rattle.std.proofs.lemmas.Bool.{ne_eqb}
use Rattle.std.proofs.lemmas.List.Elements.{All-contains}
use Rattle.std.proofs.lemmas.List.Sorted.{IsPermutation-sym}
use Rattle.jp_facts.proofs.Members.{In, from_in, in_flat_map}
use Rattle.jp_induction.proofs.EachPart.{all_of_each}
use Rattle.jp_catalog.specs.Sound.{IsSound}
use Rattle.jp_catalog.specs.declared.types.Catalog.{Catalog}
use Rattle.jp_query.specs.declared.Expr.{Expr}
use Rattle.jp_query.specs.declared.Query.{Query}
use Rattle.jp_query.specs.InOrder.{IsInOrder, passing_tuples}
use Rattle.jp_query.specs.Meaning.{Row, Env, meaning, value_of}
use Rattle.jp_query.specs.Outermost.{Outer, outermost, IsGiven}
use Rattle.jp_laws.proofs.GivenLaws.{given_is_in_place}
use Rattle.jp_problem.specs.Blocks.{block_exprs}
use Rattle.jp_problem.specs.InnerBlocks.{exprs_of_item}
use Rattle.jp_conditions.proofs.Judging.{each_in, expr_leaf_set}
use Rattle.jp_tree.specs.declared.prepared.Block.{Block}
use Rattle.jp_tree.specs.declared.prepared.Prepared.{Prepared}
use Rattle.jp_prepared.specs.Planned.{IsPrepared}
use Rattle.jp_prepared.specs.Sources.{Source, IsSourceAt, items_of_block, sublinks_of_block, of_sublink, HasBehind}
use Rattle.jp_prepared.proofs.Counted.{each_by}
use Rattle.jp_prepared.proofs.PreparedBlocks as blocks
use Rattle.jp_lists.specs.Lists.{Listing, is_of_sublink, block_of_sublink_from, block_of_sublink, sublink_rows, listed_value}
use Rattle.jp_listed.proofs.Clear.{ClearOf, IsClear, sublinks_clear}

-- ---- the block of a sublink

same_some : {X : Type 0} (a b : X) → Some a ≡ Some b → a ≡ b
same_some a b e = cc

first_found : (first : ℕ) (bs : List Block) (sub k : ℕ) (b : Block) → slice_get bs k ≡ Some b → b.sub ≡ Some sub → ((j : ℕ) (c : Block) → slice_get bs j ≡ Some c → c.sub ≡ Some sub → j ≡ k) → block_of_sublink_from first bs sub ≡ first + k
unfolding block_of_sublink_from
first_found first [] sub k b e f one = cc
first_found first (c ∷ bs) sub zero b e f one =
    ap (λ o. if is_of_sublink sub o then first else block_of_sublink_from (suc first) bs sub) (ap (λ (x : Block). x.sub) (same_some c b e) ∙ f)
    ∙ ap (λ t. if t then first else block_of_sublink_from (suc first) bs sub) (eq-eqb sub sub refl) ∙ omega arith
first_found first (c ∷ bs) sub (suc k) b e f one =
    passed c.sub (λ same. let clash = one 0 c refl same in omega (arith, clash)) ∙ first_found (suc first) bs sub k b e f (λ j x g h. let same = one (suc j) x g h in omega (arith, same)) ∙ omega arith
  where
    passed : (o : Option ℕ) → (o ≡ Some sub → ⊥) → (if is_of_sublink sub o then first else block_of_sublink_from (suc first) bs sub) ≡ block_of_sublink_from (suc first) bs sub
    passed None other = refl
    passed (Some n) other = ap (λ t. if t then first else block_of_sublink_from (suc first) bs sub) (ne_eqb n sub (λ p. other (ap Some p)))

module _ (catalog : Catalog) (sound : IsSound catalog) (query : Query) (prepared : Prepared) (is : IsPrepared catalog query prepared) (tables : ℕ → List Row) (inner : Listing) where
  pub block_is : (o : Outer) (place : ℕ) → IsSourceAt is.sources place (of_sublink o) → block_of_sublink prepared.blocks o.number ≡ place
  block_is o place at =
      let b = blocks.block_of catalog sound query prepared is place (of_sublink o) at in
      first_found 0 prepared.blocks o.number place b.0 b.1 (is.blocks place (of_sublink o) b.0 at b.1).sub
      (λ k c there sub. let s = blocks.source_of catalog sound query prepared is k c there in is.are.one k place o.number s.0 (of_sublink o) s.1 at (sym s.2.sub ∙ sub) refl)
      ∙ omega arith

  -- ---- what a block gives

  -- In an environment the block of this number gives what the query means there.
  pub record Gives (number : ℕ) (q : Query) (env : Env) : Type 0 where
    pub rows : IsPermutation (meaning tables q env) (inner number env).rows
    pub tuples : IsPermutation (inner number env).tuples (passing_tuples tables q env)
    pub in_order : IsInOrder tables q env (inner number env).rows

  abbrev pub IsGood : ℕ → Type 0
  IsGood number = (source : Source) (env : Env) → IsSourceAt is.sources number source → IsClear env source.query → Gives number source.query env

  module _ (number : ℕ) (source : Source) (at : IsSourceAt is.sources number source) (behind : (place : ℕ) → number < place → IsGood place) where
    abbrev pub all_exprs : List Expr
    all_exprs = block_exprs source.query ++ flat_map exprs_of_item (items_of_block source.query)

    sublink_given : (env : Env) (o : Outer) → In o (sublinks_of_block source.query) → IsClear env o.query → IsGiven tables (sublink_rows prepared.blocks inner env) env o
    sublink_given env o m clear =
        let place = All-contains (λ (s : Outer). HasBehind is.sources number (of_sublink s)) (sublinks_of_block source.query) o (is.are.sublinks number source at) (from_in o (sublinks_of_block source.query) m) in
        subst (λ n. IsPermutation (inner n env).rows (meaning tables o.query env)) (sym (block_is o place.0 place.2))
        (IsPermutation-sym (meaning tables o.query env) (inner place.0 env).rows (behind place.0 place.1 (of_sublink o) env place.2 clear).rows)

    pub value_same : (e : Expr) (env : Env) → In e (block_exprs source.query ++ flat_map exprs_of_item (items_of_block source.query)) → ClearOf env (expr_leaf_set e) → listed_value prepared.blocks inner e env ≡ value_of tables e env
    value_same e env m clear =
        given_is_in_place tables (sublink_rows prepared.blocks inner env) e env
        (all_of_each (IsGiven tables (sublink_rows prepared.blocks inner env) env) (outermost e)
        (each_by (IsGiven tables (sublink_rows prepared.blocks inner env) env) (outermost e)
        (λ o k. sublink_given env o (in_flat_map outermost e o all_exprs m k) (each_in (λ (x : Outer). IsClear env x.query) (outermost e) o (sublinks_clear env e clear) k))))
