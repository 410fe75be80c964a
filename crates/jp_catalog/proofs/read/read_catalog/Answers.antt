use Rattle.std.proofs.Common.{Some}
use Rattle.toml.specs.View.{table_view}
use Rattle.jp_catalog.specs.Reading.{document_read}
use Rattle.jp_catalog.proofs.SoundLaws.{document_sound}
use Rattle.jp_catalog.proofs.Steps.{agreed}
use Rattle.jp_catalog.proofs.read.read_catalog.Goals as goal

pub returns-in_ok-catalog-in-Ok-clause-sound : goal.returns-in_ok-catalog-in-Ok-clause-sound
returns-in_ok-catalog-in-Ok-clause-sound c =
    let read = c.in_ok-catalog-in-Ok in
    let document = Some (table_view c.in-Ok.top) in record {
      names = read.ensures.names;
      tables = λ k table there. (document_sound document read.catalog (agreed read.catalog (document_read document) read.ensures.agrees) k table there).0;
    }

pub returns-in_ok-catalog-in-Ok-clause-size : goal.returns-in_ok-catalog-in-Ok-clause-size
returns-in_ok-catalog-in-Ok-clause-size c = λ k table there. (document_sound (Some (table_view c.in-Ok.top)) c.in_ok-catalog-in-Ok.catalog (agreed c.in_ok-catalog-in-Ok.catalog (document_read (Some (table_view c.in-Ok.top))) c.in_ok-catalog-in-Ok.ensures.agrees) k table there).1
