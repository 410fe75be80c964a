use Rattle.std.proofs.Common.{sym}
use Rattle.jp_plans.proofs.LookupFacts.{some_found}
use Rattle.jp_plans.proofs.lookups.index_at.Goals as goal

pub returns-in-Stored : goal.returns-in-Stored
returns-in-Stored c = some_found c.args.scene.now c.args.item c.args.rel c.args.col c.in-Some-Single.rels c.in-Stored.table c.in-Some-Single.part c.args.indexes.now c.in-Some-Single.field-0.now
    c.in-Some-Single.ensures.lookup.3.0 c.in-Some-Single.ensures.lookup.1 c.in-Some-Single.field-0-is c.if-part-rel.false (sym c.if-not-has_relation.ensures) c.in-Stored.is c.requires c.index_with.result c.index_with.ensures
