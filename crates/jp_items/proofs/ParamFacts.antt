-- Cells that are given.
use Rattle.std.proofs.Common.{◌≡◌, ◌∙◌, ap, sym, refl, ℕ, zero, suc, ◌+◌, ◌<◌, ◌^◌, Bool, true, false, get_or, map, Some, None, arith}
use Rattle.std.specs.Prelude.{if◌then◌else◌}
use Rattle.std.specs.List.{range_with_len}
use Rattle.jp_base.specs.declared.values.Value.{Value}
use Rattle.jp_base.specs.declared.values.Value.TheVariants as value
use Rattle.jp_query.specs.Meaning.{Row, cell_in, has}
use Rattle.jp_items.specs.Params.{Cells, cell_given, env_given, row_given}

at : (f : ℕ → Value) (a n col : ℕ) → col < n → get_or (map f (range_with_len a n)) col value.Null ≡ f (a + col)
at f a zero col h = absurd (omega (arith, h))
at f a (suc n) zero h = ap f (omega arith)
at f a (suc n) (suc col) h = at f (a + 1) n col (omega (arith, h)) ∙ ap f (omega arith)

pub row_cell : (cells : Cells) (rel col : ℕ) → col < 2 ^ 32 → cell_in (Some (row_given cells rel)) col ≡ cell_given cells rel col
unfolding row_given
row_cell cells rel col h = at (cell_given cells rel) 0 (2 ^ 32) col h ∙ ap (cell_given cells rel) (omega arith)

pub there : (cells : Cells) (present rel col : ℕ) (v : Value) → col < 2 ^ 32 → has present rel ≡ true → v ≡ cell_given cells rel col → v ≡ cell_in (env_given cells present rel) col
there cells present rel col v h is same = same ∙ sym (ap (λ (b : Bool). cell_in (if b then Some (row_given cells rel) else None) col) is ∙ row_cell cells rel col h)

pub absent : (cells : Cells) (present rel col : ℕ) → has present rel ≡ false → value.Null ≡ cell_in (env_given cells present rel) col
absent cells present rel col is = sym (ap (λ (b : Bool). cell_in (if b then Some (row_given cells rel) else None) col) is)
