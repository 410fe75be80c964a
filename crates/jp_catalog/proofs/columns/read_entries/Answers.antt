use Rattle.std.proofs.Common.{◌≡◌, ◌++◌, ◌∷◌, [], ◌∙◌, sym, length-append, arith}
use Rattle.std.specs.Str.{bytes_eq}
use Rattle.indexmap.proofs.CallerLemmas.{insert_entry-new}
use Rattle.jp_catalog.specs.Reading.{NamedColumn}
use Rattle.jp_catalog.proofs.Steps.{agreed, columns_step}
use Rattle.jp_catalog.proofs.columns.read_entries.Goals as goal

pub loop-entry-preserved : goal.loop-entry-preserved
loop-entry-preserved c =
    let l = c.loop-entry in
    let column : NamedColumn = (c.in_ok-name.name, c.in_ok-name.ty) in
    let put : c.insert.new.self.entries ≡ l.columns.entries ++ column ∷ [] = c.in-Ok.ensures.entries ∙ insert_entry-new bytes_eq l.columns c.in_ok-name.name c.in_ok-name.ty c.in_ok-name.ensures.new in
    let read = agreed column _ c.in_ok-name.ensures.agrees in
    let step = columns_step c.args.table.now l.columns.entries c.args.entries.now l.entry-index c.entry-item.result column (omega arith) (rw (← c.entry-item.is) read) in record {
      reads = rw put (sym step ∙ l.invariant.reads);
      one_each = rw (put, length-append) (omega arith);
    }
