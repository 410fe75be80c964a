use Rattle.std.proofs.Common.{◌∙◌, ap}
use Rattle.jp_query.specs.Meaning.{no_outer_rows}
use Rattle.jp_naive.specs.Frames.{env_after, env_of, frame_env}
use Rattle.jp_naive.proofs.FrameFacts.{after_more}
use Rattle.jp_naive.proofs.outer.outer_rows.Goals as goal

pub returns : goal.returns
returns c =
    let tables = c.args.tables.now.list in
    let far = env_of tables c.args.place.outer.now in
    after_more tables c.add_frame-2.new.rows.items c.add_outer.new.rows.items c.args.place.outer.now no_outer_rows c.in_ok-add_outer.ensures
    ∙ c.in_ok-add_frame-2.ensures far
    ∙ c.in_ok-add_frame.ensures (frame_env tables c.args.place.second far)
    ∙ ap (λ rs. env_after tables rs (frame_env tables c.args.place.first (frame_env tables c.args.place.second far))) c.new-rows.ensures.items
