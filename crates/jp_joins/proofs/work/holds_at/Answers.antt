use Rattle.std.proofs.Common.{subst, sym}
use Rattle.std.specs.Prelude.{All}
use Rattle.jp_joins.specs.Lending.{IsLentFor, numbers_in_all}
use Rattle.jp_joins.specs.Tuples.{map_of}
use Rattle.jp_joins.proofs.work.holds_at.Goals as goal

pub all_hold-requires-clause-lent : goal.all_hold-requires-clause-lent
all_hold-requires-clause-lent g c =
    let rows = (g.E.TupleEnv.meant c.args.work.now.env.now).sublink_rows (map_of c.args.tuple) in
    subst (λ xs. All (IsLentFor rows xs) (numbers_in_all c.args.conds.now)) (sym c.as_slice.ensures.value)
    (subst (All (IsLentFor rows c.in_ok-lent.lent.items)) c.requires.numbers (c.in_ok-lent.ensures rows (c.requires.gives c.args.tuple)))
