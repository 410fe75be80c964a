-- The block of a sublink is the one that a whole statement has for it.
use Rattle.std.proofs.Common.{◌≡◌, ◌∙◌, ap, refl, ℕ, zero, suc, ◌+◌, Bool, true, false, List, [], ◌∷◌, Option, Some, None, arith, eq-eqb}
use Rattle.std.specs.Prelude.{slice_get, if◌then◌else◌}
use Rattle.std.proofs.lemmas.Bool.{eqb-true}
use Rattle.jp_lists.specs.Lists.{is_of_sublink, block_of_sublink_from, block_of_sublink}
use Rattle.jp_tree.specs.Prepared.{HasOneBlock}
use Rattle.jp_tree.specs.declared.prepared.Block.{Block}
use Rattle.jp_tree.specs.declared.prepared.Prepared.{Prepared}

-- a block of the sublink, from a number on, with its place
record Found (first : ℕ) (blocks : List Block) (sub number : ℕ) : Type 0 where
  place : ℕ
  block : Block
  there : slice_get blocks place ≡ Some block
  named : block.sub ≡ Some sub
  is : number ≡ first + place

names : (sub : ℕ) (o : Option ℕ) → is_of_sublink sub o ≡ true → o ≡ Some sub
names sub (Some n) h = ap Some (eqb-true n sub h)
names sub None h = cc

is_named : (sub : ℕ) (o : Option ℕ) → o ≡ Some sub → is_of_sublink sub o ≡ true
is_named sub o e = ap (is_of_sublink sub) e ∙ eq-eqb sub sub refl

same_block : (a b : Block) → Some a ≡ Some b → a ≡ b
same_block a b e = cc

module _ (sub : ℕ) where
  found_by : (first : ℕ) (b : Block) (blocks : List Block) (t : Bool) → is_of_sublink sub b.sub ≡ t → (t ≡ false → Found (suc first) blocks sub (block_of_sublink_from (suc first) blocks sub))
      → Found first (b ∷ blocks) sub (if t then first else block_of_sublink_from (suc first) blocks sub)
  found_by first b blocks true e rest = record { place = 0; block = b; there = refl; named = names sub b.sub e; is = omega arith }
  found_by first b blocks false e rest =
      let f = rest refl in
      record { place = suc f.place; block = f.block; there = f.there; named = f.named; is = omega (arith, f.is) }

  clash : (t : Bool) → t ≡ true → t ≡ false → ⊥
  clash t p q = cc

  found : (first : ℕ) (blocks : List Block) (k : ℕ) (block : Block) → slice_get blocks k ≡ Some block → block.sub ≡ Some sub → Found first blocks sub (block_of_sublink_from first blocks sub)
  unfolding block_of_sublink_from
  found first [] k block there named = cc
  found first (b ∷ blocks) zero block there named = found_by first b blocks (is_of_sublink sub b.sub) refl
      (λ e. absurd (clash (is_of_sublink sub b.sub) (is_named sub b.sub (ap (λ (x : Block). x.sub) (same_block b block there) ∙ named)) e))
  found first (b ∷ blocks) (suc k) block there named = found_by first b blocks (is_of_sublink sub b.sub) refl (λ e. found (suc first) blocks k block there named)

pub sublink_place : (prepared : Prepared) (number sub : ℕ) (one : HasOneBlock prepared number sub) → block_of_sublink prepared.blocks sub ≡ one.place
sublink_place prepared number sub one =
    let f = found sub 0 prepared.blocks one.place one.is.block one.is.there one.is.named in
    let is : block_of_sublink prepared.blocks sub ≡ f.place = omega (arith, f.is) in
    one.only (block_of_sublink prepared.blocks sub) (record { block = f.block; there = ap (slice_get prepared.blocks) is ∙ f.there; named = f.named })
