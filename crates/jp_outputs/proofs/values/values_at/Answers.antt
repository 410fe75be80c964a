use Rattle.std.proofs.Common.{◌∙◌, subst, sym, ap}
use Rattle.std.specs.Prelude.{All}
use Rattle.jp_joins.specs.Lending.{IsLentFor, numbers_in_all}
use Rattle.jp_joins.specs.Tuples.{map_of}
use Rattle.jp_outputs.specs.Exprs.{lent_exprs}
use Rattle.jp_outputs.proofs.values.values_at.Goals as goal

pub values_lent-requires-clause-lent : goal.values_lent-requires-clause-lent
values_lent-requires-clause-lent g c =
    let rows = (g.E.TupleEnv.meant c.args.env.now).sublink_rows (map_of c.args.tuple) in
    subst (λ xs. All (IsLentFor rows xs) (numbers_in_all (lent_exprs c.as_slice-2.result.now))) (sym c.as_slice-3.ensures.value)
    (subst (All (IsLentFor rows c.in_ok-lent.lent.items)) (c.as_slice.ensures.value ∙ c.requires.numbers ∙ ap (λ es. numbers_in_all (lent_exprs es)) (sym c.as_slice-2.ensures.value))
    (c.in_ok-lent.ensures rows (c.requires.gives c.args.tuple)))
