use Rattle.std.proofs.Common.{◌∙◌, ap}
use Rattle.jp_joins.specs.Lending.{numbers_in_all}
use Rattle.jp_tree.specs.BlockParts.{exprs_in, sublinks_of}
use Rattle.jp_outputs.specs.Exprs.{lent_exprs}
use Rattle.jp_outputs.proofs.NumberFacts.{all_numbers_are, all_listed}
use Rattle.jp_outputs.proofs.sublinks.sublinks_of.Goals as goal

pub returns-clause-numbers : goal.returns-clause-numbers
returns-clause-numbers c =
    c.in_ok-numbers.ensures
    ∙ ap (λ es. numbers_in_all (lent_exprs es)) c.as_slice.ensures.value
    ∙ ap numbers_in_all c.in_ok-exprs.ensures
    ∙ all_numbers_are (exprs_in c.args.block.now)

pub returns-clause-listed : goal.returns-clause-listed
returns-clause-listed c =
    all_listed (sublinks_of c.args.block.now) c.in_ok-numbers.numbers.items
    (c.in_ok-numbers.ensures
    ∙ ap (λ es. numbers_in_all (lent_exprs es)) c.as_slice.ensures.value
    ∙ ap numbers_in_all c.in_ok-exprs.ensures
    ∙ all_numbers_are (exprs_in c.args.block.now))
