use Rattle.jp_strict.proofs.SharedSets.{one_below}
use Rattle.jp_strict.proofs.nullness.all_relations.Goals as goal

pub loop-rel-preserved : goal.loop-rel-preserved
loop-rel-preserved c = one_below c.loop-rel.all c.loop-rel.rel c.relation.result c.both-all.result c.loop-rel-test.true c.loop-rel.invariant c.relation.ensures c.both-all.ensures
