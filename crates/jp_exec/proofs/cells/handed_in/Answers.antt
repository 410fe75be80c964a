use Rattle.std.proofs.Common.{subst}
use Rattle.jp_query.specs.Meaning.{Env}
use Rattle.jp_frame.specs.Maps.{Map}
use Rattle.jp_joins.specs.Tuples.{map_of}
use Rattle.jp_exec.specs.Cells.{IsHandedIn}
use Rattle.jp_exec.proofs.InteriorFacts.{sight_same}
use Rattle.jp_exec.proofs.cells.handed_in.Goals as goal

pub returns : goal.returns
returns c =
    let e = c.sight_in-sight.ensures in
    subst (λ (env : Map → Env). IsHandedIn c.args.columns.now (env (map_of c.args.tuple)) (record { cells = c.in_ok-cells.cells; present = c.present-present.result }))
    (sight_same c.args.tables.now c.args.around.now c.args.interior.now c.sight_in-sight.result e.tables e.around e.sources e.layout)
    (record { cells = c.in_ok-cells.ensures; present = c.present-present.ensures })
