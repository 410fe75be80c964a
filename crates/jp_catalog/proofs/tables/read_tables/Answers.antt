use Rattle.std.proofs.Common.{◌≡◌, Ok, string_bytes, ◌∙◌}
use Rattle.toml.specs.View.{view}
use Rattle.toml.proofs.Views.{Entry}
use Rattle.jp_catalog.specs.Reading.{table_read}
use Rattle.jp_catalog.proofs.Steps.{agreed, tables_turn}
use Rattle.jp_catalog.proofs.tables.read_tables.Goals as goal

pub loop-name-preserved : goal.loop-name-preserved
loop-name-preserved c =
    let l = c.loop-name in
    let e : Entry = (c.in-Some.name.now, c.in-Some.value.now) in
    let read : table_read (string_bytes e.0) (view e.1) ≡ Ok c.in_ok-def.def = rw (← c.as_str.ensures.value) (agreed c.in_ok-def.def _ c.in_ok-def.ensures) in
    let copied = agreed c.in_ok-name.name _ c.in_ok-name.ensures in
    let named : c.in_ok-name.name ≡ string_bytes e.0 = cc (copied, c.as_str-in-loop-name.ensures.value) in
    tables_turn c.args.tables.now.entries l.name-iterator c.next.new.self e l.defs c.put.new.defs.entries c.in_ok-def.def c.iter-name-items.ensures.ordered c.in-Some.ensures.steps read (c.in_ok-put.ensures.put ∙ rw named) l.invariant
