use Rattle.std.proofs.Common.{◌∙◌}
use Rattle.jp_fold.proofs.FoldExact.{made_exactly}
use Rattle.jp_fold.proofs.fold.Goals as goal

pub returns : goal.returns
returns c = c.into_inner.ensures ∙ c.in_ok-folded.ensures ∙ made_exactly c.requires.schema c.requires.outer c.args.query c.requires.typed c.requires.bounded
