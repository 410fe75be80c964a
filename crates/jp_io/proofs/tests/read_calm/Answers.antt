-- No call is to fail, so the count of the name stays 0.
use Rattle.std.proofs.Common.{◌≡◌, ◌<◌, ◌^◌, ◌-◌, ◌∙◌, ◌==◌, ◌&&◌, ap, ap₂, sym, subst, true, length, is_some, Some, IfOk, arith}
use Rattle.jp_io.specs.MemFiles.{told_files, holds_name, is_calm, fault_count, is_surely_read}
use Rattle.jp_io.proofs.Results.{content_if_ok, no_rise}
use Rattle.jp_io.proofs.tests.read_calm.Goals as goal

pub returns-clause-calm : goal.returns-clause-calm
returns-clause-calm c =
    let calm : is_calm c.new-files.result ≡ true = ap (λ xs. length xs == 0) (c.new-files.ensures.fails ∙ c.new.ensures.items) in
    let holds : holds_name c.new-files.result c.args.name.now ≡ true =
    subst (λ told. is_some (told c.args.name.now) ≡ true) (sym c.new-files.ensures.told) c.requires in
    let sure : is_surely_read c.new-files.result c.args.name.now ≡ true = ap₂ (λ a b. a && b) calm holds in
    let below : fault_count c.new-files.result c.args.name.now < 2 ^ 64 - 1 = omega (arith, c.new-files.ensures.faults c.args.name.now) in
    λ failed. no_rise (fault_count c.new-files.result c.args.name.now) (fault_count c.read_file-outcome.new.files c.args.name.now) below
    (c.read_file-outcome.ensures.sound c.args.name.now sure).1 (c.read_file-outcome.ensures.cause failed)

pub returns-clause-whole : goal.returns-clause-whole
returns-clause-whole c =
    subst (λ told. IfOk c.read_file-outcome.result (λ v. told c.args.name.now ≡ Some v.items)) c.new-files.ensures.told
    (content_if_ok (told_files c.new-files.result) c.args.name.now 100 c.read_file-outcome.result c.read_file-outcome.ensures.whole)
