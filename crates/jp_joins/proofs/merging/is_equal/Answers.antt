use Rattle.std.proofs.Common.{◌∙◌, ap₂, sym}
use Rattle.std.proofs.lemmas.Map.Text.{is_eq-slice_cmp}
use Rattle.jp_base.specs.Cells.{value_of_cell}
use Rattle.jp_base.specs.Values.{are_equal}
use Rattle.jp_joins.proofs.merging.is_equal.Goals as goal

pub returns-in-Text-Text : goal.returns-in-Text-Text
returns-in-Text-Text c = c.eq.ensures ∙ sym (is_eq-slice_cmp c.in-Text-Text.left.now c.in-Text-Text.right.now) ∙ sym (ap₂ (λ a b. are_equal (value_of_cell a) (value_of_cell b)) c.in-Text-Text.is-0 c.in-Text-Text.is-1)
