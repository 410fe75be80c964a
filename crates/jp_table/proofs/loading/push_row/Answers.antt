use Rattle.std.proofs.Common.{◌≡◌, arith, length}
use Rattle.csv.specs.Records.{fields_of}
use Rattle.jp_table.proofs.LoadingFacts.{wrong_count}
use Rattle.jp_table.proofs.loading.push_row.Goals as goal

pub returns-then-len : goal.returns-then-len
returns-then-len c =
    wrong_count c.args.columns.now.items c.args.record_no (fields_of c.args.fields.now) c.len-then-len.result c.len-then-len.ensures
    (λ (same : length (fields_of c.args.fields.now) ≡ length c.args.columns.now.items). omega (arith, same, c.if-len.true, c.len.ensures, c.len-2.ensures, c.args.columns.now.ok.0))
