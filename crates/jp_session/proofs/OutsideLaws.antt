-- An environment in which nothing is given.
use Rattle.std.proofs.Common.{◌≡◌, ap, ℕ, Bool, Some, None}
use Rattle.std.specs.Prelude.{if◌then◌else◌}
use Rattle.std.specs.Int.{bit_at}
use Rattle.std.proofs.lemmas.Bool.{ne_eqb}
use mathlib.Core.Path.{fun_ext}
use Rattle.jp_base.specs.Sets.{IsEmpty}
use Rattle.jp_items.specs.Params.{Cells, env_given, row_given}
use Rattle.jp_query.specs.Meaning.{no_outer_rows}

-- where no relation has a row
pub none_given : (cells : Cells) (present : ℕ) → IsEmpty present → env_given cells present ≡ no_outer_rows
none_given cells present none = fun_ext (λ rel. ap (λ (b : Bool). if b then Some (row_given cells rel) else None) (ne_eqb (bit_at present rel) 1 (none rel)))
