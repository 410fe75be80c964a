use Rattle.std.proofs.Common.{arith}
use Rattle.jp_catalog.specs.Sound.{IsSoundTable, IsOfSize}
use Rattle.jp_table.specs.Loading.{column_types}
use Rattle.jp_naive_tests.proofs.TableFacts.{table_is}
use Rattle.jp_naive_tests.proofs.rows.first_table.Goals as goal

pub load-requires : goal.load-requires
load-requires c =
    let size : IsOfSize c.in-Some.def.now = table_is IsOfSize c.args.catalog.now.tables 0 c.in-Some.field-0-0.now c.in-Some.def.now c.in-Some.ensures c.requires.size in
    record {
      sound = table_is IsSoundTable c.args.catalog.now.tables 0 c.in-Some.field-0-0.now c.in-Some.def.now c.in-Some.ensures c.requires.sound.tables;
      numbered = omega (arith, size.few);
    }

pub returns : goal.returns
returns c = record { types = column_types c.in-Some.def.now; fit = c.in_ok-table.ensures.fits }
