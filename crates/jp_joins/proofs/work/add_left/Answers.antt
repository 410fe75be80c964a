use Rattle.std.proofs.Common.{◌∙◌, sym}
use Rattle.jp_joins.specs.Meant.{is_match}
use Rattle.jp_joins.specs.Tuples.{map_of, maps_of}
use Rattle.jp_joins.specs.Working.{is_kept}
use Rattle.jp_joins.proofs.StepFacts.{left_found, left_alone}
use Rattle.jp_joins.proofs.work.add_left.Goals as goal

pub returns-in_ok-add_kept-in-Left : goal.returns-in_ok-add_kept-in-Left
returns-in_ok-add_kept-in-Left g c =
    let meant = g.E.TupleEnv.meant c.args.work.now.env.now in
    left_alone (is_kept meant) (is_match meant) (maps_of c.args.rights.now) (map_of c.args.left) meant.kind (sym c.in-Left.is ∙ c.join_kind.ensures)
    (maps_of c.args.found.now.items) (maps_of c.add_matches-in-Left.new.found.items) (maps_of c.add_kept.new.found.items)
    (sym c.if-not-branch.true ∙ c.in_ok-add_matches-in-Left.ensures.any) c.in_ok-add_matches-in-Left.ensures.more c.in_ok-add_kept-in-Left.ensures

pub returns-else-not-branch : goal.returns-else-not-branch
returns-else-not-branch g c =
    let meant = g.E.TupleEnv.meant c.args.work.now.env.now in
    left_found (is_kept meant) (is_match meant) (maps_of c.args.rights.now) (map_of c.args.left) meant.kind (sym c.in-Left.is ∙ c.join_kind.ensures)
    (maps_of c.args.found.now.items) (maps_of c.add_matches-in-Left.new.found.items)
    (sym c.if-not-branch.false ∙ c.in_ok-add_matches-in-Left.ensures.any) c.in_ok-add_matches-in-Left.ensures.more
