use Rattle.std.proofs.Common.{◌≡◌, ◌∙◌, ap, sym, arith}
use Rattle.std.specs.Prelude.{Some, None, if◌then◌else◌, unwrap_or}
use Rattle.std.proofs.lemmas.Bool.{eq-eqb}
use Rattle.std.proofs.lemmas.Option.{unwrap_or-slice_get}
use Rattle.jp_base.specs.declared.values.Value.TheVariants as value
use Rattle.jp_query.specs.Meaning.{cell_in}
use Rattle.jp_eval.proofs.tests.LentEnv.cell.Goals as goal

pub returns-in-None : goal.returns-in-None
returns-in-None c =
    let row = c.args.self.now.row in
    let there : c.args.rel ≡ 0 = omega arith in
    sym (ap (λ b. cell_in (if b then Some row else None) c.args.col) (eq-eqb c.args.rel 0 there)
    ∙ sym (unwrap_or-slice_get row c.args.col value.Null)
    ∙ ap (λ o. unwrap_or o value.Null) (sym c.in-None.ensures.value))
