use Rattle.jp_frame.proofs.PermutationLaws.{keyed_matches, keyed_matched, keyed_matches_to}
use Rattle.jp_frame.proofs.steps.lookups_by_key_find_each_match.Goals as goal

pub returns : goal.returns
returns c = record {
  left = λ test same_key right a. keyed_matches test a (same_key a) right;
  matched = λ test same_key right a. keyed_matched test a (same_key a) right;
  right = λ test same_key left b. keyed_matches_to test b (same_key b) left;
}
