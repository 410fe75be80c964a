use Rattle.std.proofs.Common.{◌∙◌, []}
use Rattle.jp_joins.specs.Lending.{rows_by_number}
use Rattle.jp_joins.specs.Tuples.{map_of}
use Rattle.jp_joins.proofs.PlainFacts.{plain_value}
use Rattle.jp_joins.proofs.keys.made_value.Goals as goal

pub returns : goal.returns
returns g c =
    let meant = g.E.TupleEnv.meant c.args.env.now in
    let m = map_of c.args.tuple in
    c.in_ok-value.ensures ∙ plain_value (rows_by_number []) (meant.sublink_rows m) c.args.side.now (meant.environment m) c.requires.plain
