use Rattle.std.proofs.Common.{◌≡◌, map, take}
use Rattle.jp_joins.specs.Tuples.{maps_of}
use Rattle.jp_outputs.specs.Exprs.{lent_exprs}
use Rattle.jp_outputs.specs.Values.{line_of}
use Rattle.jp_outputs.proofs.rows.lines_at.Given as goal

abbrev pub invariant-tuples : goal.invariant-tuples
invariant-tuples g l = l.lines ≡ map (line_of (g.E.TupleEnv.meant l.fn.env) (lent_exprs l.fn.outputs.exprs.items) (lent_exprs l.fn.keys.exprs.items)) (maps_of (take l.tuple-index l.tuples))
