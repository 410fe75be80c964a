use Rattle.std.proofs.Common.{◌≡◌, take}
use Rattle.jp_joins.specs.Tuples.{map_of}
use Rattle.jp_outputs.specs.Exprs.{lent_exprs}
use Rattle.jp_outputs.specs.Values.{values_at}
use Rattle.jp_outputs.proofs.values.values_lent.Given as goal

abbrev pub invariant-exprs : goal.invariant-exprs
invariant-exprs g l = l.row ≡ values_at (g.E.TupleEnv.meant l.fn.env) (lent_exprs (take l.expr-index l.exprs)) (map_of l.fn.tuple)
