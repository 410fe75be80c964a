use Rattle.jp_joins.specs.Tuples.{map_of}
use Rattle.jp_items.specs.Sights.{sight_env}
use Rattle.jp_items.proofs.SightFacts.{present_more}
use Rattle.jp_items.proofs.sight.Sight.present.Goals as goal

pub rels-preserved : goal.rels-preserved
rels-preserved c = present_more (sight_env c.args.self.now (map_of c.args.tuple)) c.rels.rel c.rels.present c.with_relation-present.result c.has.result c.has.ensures c.rels.invariant c.with_relation-present.ensures
