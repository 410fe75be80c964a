use Rattle.jp_naive.specs.Frames.{place_env}
use Rattle.jp_naive.proofs.FrameFacts.{present_more}
use Rattle.jp_naive.proofs.env.relations.Goals as goal

pub relations-preserved : goal.relations-preserved
relations-preserved c tables = present_more (place_env tables c.args.place) c.relations.rel c.relations.present c.with_relation-present.result c.is_present.result
    (c.is_present.ensures tables) (c.relations.invariant tables) c.with_relation-present.ensures
