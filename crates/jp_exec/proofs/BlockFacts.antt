-- The block of a sublink is looked for from the first block on.
use Rattle.std.proofs.Common.{◌≡◌, ◌∙◌, ap, refl, ℕ, suc, ◌+◌, ◌<◌, true, false, List, [], ◌∷◌, drop, get_or, length, arith}
use Rattle.std.specs.Prelude.{if◌then◌else◌}
use Rattle.std.proofs.lemmas.List.{drop_more}
use Rattle.jp_lists.specs.Lists.{block_of_sublink_from, is_of_sublink}
use Rattle.jp_tree.specs.declared.prepared.Block.{Block}

step : (first sub : ℕ) (block : Block) (blocks : List Block) → block_of_sublink_from first (block ∷ blocks) sub ≡ (if is_of_sublink sub block.sub then first else block_of_sublink_from (suc first) blocks sub)
unfolding block_of_sublink_from
step first sub block blocks = refl

ended : (blocks : List Block) (first sub : ℕ) → block_of_sublink_from first (drop (length blocks) blocks) sub ≡ first
unfolding block_of_sublink_from
ended [] first sub = refl
ended (b ∷ blocks) first sub = ended blocks first sub

module _ (blocks : List Block) (sub at : ℕ) (d : Block) (low : at < length blocks) where
  abbrev block : Block
  block = get_or blocks at d

  from_here : block_of_sublink_from at (drop at blocks) sub ≡ (if is_of_sublink sub block.sub then at else block_of_sublink_from (suc at) (drop (at + 1) blocks) sub)
  from_here = ap (λ bs. block_of_sublink_from at bs sub) (drop_more blocks at d low) ∙ step at sub block (drop (at + 1) blocks)

  pub found_here : is_of_sublink sub block.sub ≡ true → block_of_sublink_from at (drop at blocks) sub ≡ at
  found_here is = from_here ∙ ap (λ b. if b then at else block_of_sublink_from (suc at) (drop (at + 1) blocks) sub) is

  pub found_later : is_of_sublink sub block.sub ≡ false → block_of_sublink_from at (drop at blocks) sub ≡ block_of_sublink_from (at + 1) (drop (at + 1) blocks) sub
  found_later is = from_here ∙ ap (λ b. if b then at else block_of_sublink_from (suc at) (drop (at + 1) blocks) sub) is ∙ ap (λ n. block_of_sublink_from n (drop (at + 1) blocks) sub) (omega arith)

pub found_nowhere : (blocks : List Block) (sub at : ℕ) → at ≡ length blocks → block_of_sublink_from at (drop at blocks) sub ≡ length blocks
found_nowhere blocks sub at e = ap (λ n. block_of_sublink_from at (drop n blocks) sub) e ∙ ended blocks at sub ∙ e
