use Rattle.std.proofs.Common.{◌≡◌, ◌∙◌, ◌++◌, ◌∷◌, [], ap}
use Rattle.std.specs.Prelude.{Some}
use Rattle.jp_naive_tests.proofs.rows.one_table.Goals as goal

pub returns : goal.returns
returns c =
    let is : c.push.new.self ≡ Some c.in_ok-table.table ∷ [] = c.in_ok-push.ensures.ok ∙ ap (λ l. l ++ Some c.in_ok-table.table ∷ []) c.new-list.ensures in
    record { types = c.in_ok-table.ensures.types; rows = c.in_ok-table.table; all = is; fit = c.in_ok-table.ensures.fit }
