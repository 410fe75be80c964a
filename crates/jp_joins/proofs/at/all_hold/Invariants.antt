use Rattle.std.proofs.Common.{◌≡◌, drop}
use Rattle.jp_joins.specs.Meant.{list_holds}
use Rattle.jp_joins.specs.Tuples.{map_of}
use Rattle.jp_joins.proofs.at.all_hold.Given as goal

abbrev pub invariant-conds : goal.invariant-conds
invariant-conds g l = list_holds (g.E.TupleEnv.meant l.fn.env) (drop l.place l.conds) (map_of l.fn.tuple) ≡ list_holds (g.E.TupleEnv.meant l.fn.env) l.conds (map_of l.fn.tuple)
