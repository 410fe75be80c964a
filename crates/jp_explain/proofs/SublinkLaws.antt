-- The blocks of sublinks, one number and one block at a time.
use Rattle.std.proofs.Common.{◌≡◌, ◌∙◌, ap, sym, refl, ℕ, zero, suc, ◌+◌, ◌-◌, ◌<◌, ◌≤◌, List, [], ◌∷◌, ◌++◌, length, get_or, drop, append_assoc, append-nil, add-one, arith}
use Rattle.std.specs.Prelude.{if◌then◌else◌}
use Rattle.std.proofs.lemmas.List.{at_drop_more, at_drop_all}
use Rattle.jp_tree.specs.declared.prepared.Block.{Block}
use Rattle.jp_tree.specs.declared.prepared.Prepared.{Prepared}
use Rattle.jp_explain.specs.Plans.{blocks_of_sublink, is_of_sublink, sublink_text, sublinks_from}

no_blocks : (prepared : Prepared) (sub first : ℕ) → blocks_of_sublink prepared sub first [] ≡ []
unfolding blocks_of_sublink
no_blocks prepared sub first = refl

one_block : (prepared : Prepared) (sub first : ℕ) (block : Block) (blocks : List Block)
    → blocks_of_sublink prepared sub first (block ∷ blocks) ≡ (if is_of_sublink sub block.sub then sublink_text prepared sub first else []) ++ blocks_of_sublink prepared sub (first + 1) blocks
unfolding blocks_of_sublink
one_block prepared sub first block blocks = ap (λ n. (if is_of_sublink sub block.sub then sublink_text prepared sub first else []) ++ blocks_of_sublink prepared sub n blocks) (sym (add-one first))

pub blocks_step : (prepared : Prepared) (sub i : ℕ) (blocks : List Block) (block : Block) → i < length blocks → block ≡ get_or blocks i block
    → blocks_of_sublink prepared sub i (drop i blocks) ≡ (if is_of_sublink sub block.sub then sublink_text prepared sub i else []) ++ blocks_of_sublink prepared sub (i + 1) (drop (i + 1) blocks)
blocks_step prepared sub i blocks block low is =
    at_drop_more (blocks_of_sublink prepared sub i) blocks i block low ∙ ap (λ b. blocks_of_sublink prepared sub i (b ∷ drop (i + 1) blocks)) (sym is) ∙ one_block prepared sub i block (drop (i + 1) blocks)

pub blocks_end : (prepared : Prepared) (sub i : ℕ) (blocks : List Block) → length blocks ≤ i → blocks_of_sublink prepared sub i (drop i blocks) ≡ []
blocks_end prepared sub i blocks past = at_drop_all (blocks_of_sublink prepared sub i) blocks i past ∙ no_blocks prepared sub i

pub sublinks_step : (prepared : Prepared) (sub : ℕ) → sub < 256 → sublinks_from prepared sub (256 - sub) ≡ blocks_of_sublink prepared sub 0 prepared.blocks ++ sublinks_from prepared (sub + 1) (256 - (sub + 1))
unfolding sublinks_from
sublinks_step prepared sub low = ap (sublinks_from prepared sub) less ∙ ap (λ k. blocks_of_sublink prepared sub 0 prepared.blocks ++ sublinks_from prepared k (256 - (sub + 1))) (sym (add-one sub))
  where
    less : 256 - sub ≡ suc (256 - (sub + 1))
    less = omega (arith, low)

pub sublinks_end : (prepared : Prepared) (sub : ℕ) → 256 ≤ sub → sublinks_from prepared sub (256 - sub) ≡ []
unfolding sublinks_from
sublinks_end prepared sub past = ap (sublinks_from prepared sub) none
  where
    none : 256 - sub ≡ 0
    none = omega (arith, past)

pub ruleset sublink_equations = (sublinks_step, sublinks_end, append_assoc, append-nil)
