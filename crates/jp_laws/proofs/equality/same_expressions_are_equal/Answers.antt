use Rattle.jp_laws.proofs.EqualityLaws.{same_are_equal}
use Rattle.jp_laws.proofs.SameItself.{same_as_itself}
use Rattle.jp_laws.proofs.StandingLaws.{same_in_fresh}
use Rattle.jp_laws.proofs.equality.same_expressions_are_equal.Goals as goal

pub returns : goal.returns
returns c = record { itself = same_as_itself; equal = same_are_equal; fresh = same_in_fresh }
