use Rattle.jp_tree.proofs.PoolLaws.{named_below}
use Rattle.jp_search_tests.proofs.shapes.counted_shape.Goals as goal

pub write_shape-requires : goal.write_shape-requires
write_shape-requires g c = let plan = c.in_ok-id.ensures.plan in named_below c.best.new.pool.nodes c.in_ok-id.id plan.0 plan.1
