use Rattle.std.proofs.Common.{◌-◌, refl, arith}
use Rattle.jp_search_tests.proofs.chain.chain_join.Goals as goal

pub returns : goal.returns
returns c = record {
  no = refl;
  kind = refl;
  before = c.args.number - 1;
  next = omega (arith, c.requires.some);
  left = c.one.ensures.members;
  right = c.one-2.ensures.members;
  on = c.new.ensures;
}
