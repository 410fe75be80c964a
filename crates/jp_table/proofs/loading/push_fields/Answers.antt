use Rattle.std.proofs.Common.{◌≡◌, ◌<◌, ◌∙◌, arith, length, refl, set}
use Rattle.std.proofs.lemmas.List.{get_or-set_same}
use Rattle.csv.specs.Records.{fields_of}
use Rattle.jp_table.proofs.LoadingFacts.{pushed-more, pushed-none, pushed-stop, pushed_length}
use Rattle.jp_table.proofs.loading.push_fields.Goals as goal

pub loop-i-init : goal.loop-i-init
loop-i-init c = pushed-none c.args.columns.now.items (fields_of c.args.fields.now)

pub index_mut-requires : goal.index_mut-requires
index_mut-requires c =
    omega (arith, c.loop-i-test.true, c.loop-i.auto.i-end, c.len-i-end.ensures, c.args.columns.now.ok.0, c.loop-i.columns.ok.0, pushed_length c.args.columns.now.items c.loop-i.columns.items (fields_of c.args.fields.now) c.loop-i.i c.loop-i.invariant)

pub index-requires : goal.index-requires
index-requires c =
    omega (arith, c.loop-i-test.true, c.loop-i.auto.i-end, c.len-i-end.ensures, c.args.columns.now.ok.0, c.loop-i.columns.ok.0, pushed_length c.args.columns.now.items c.loop-i.columns.items (fields_of c.args.fields.now) c.loop-i.i c.loop-i.invariant)

pub loop-i-preserved : goal.loop-i-preserved
loop-i-preserved c =
    let there : c.loop-i.i < length c.args.columns.now.items = omega (arith, c.args.columns.now.ok.0) in
    pushed-more c.args.columns.now.items c.loop-i.columns.items (fields_of c.args.fields.now) c.loop-i.i c.index_mut.result.now c.push.new.self c.field_at.result.now
    c.loop-i.invariant there c.requires.one_each c.index_mut.ensures.value c.field_at.ensures (rw c.if-not-branch.false at c.in_ok-push.ensures)

pub returns-then-not-branch : goal.returns-then-not-branch
returns-then-not-branch c =
    let there : c.loop-i.i < length c.args.columns.now.items = omega (arith, c.args.columns.now.ok.0) in
    let far : c.loop-i.i < length c.loop-i.columns.items = omega (arith, there, pushed_length c.args.columns.now.items c.loop-i.columns.items (fields_of c.args.fields.now) c.loop-i.i c.loop-i.invariant) in
    let out = rw c.if-not-branch.true at c.in_ok-push.ensures in
    let stop = pushed-stop c.args.columns.now.items c.loop-i.columns.items (set c.loop-i.columns.items c.loop-i.i c.push.new.self) (fields_of c.args.fields.now) c.loop-i.i c.index_mut.result.now c.push.new.self c.field_at.result.now c.args.record_no
    c.loop-i.invariant there c.requires.one_each c.index_mut.ensures.value c.field_at.ensures out.0 out.1 refl in
    let same : c.index.result.now ≡ c.index_mut.result.now = c.index.ensures ∙ (get_or-set_same c.loop-i.columns.items c.loop-i.i c.push.new.self c.index.result.now far ∙ out.1) in
    (rw (c.bad_field.ensures, same) stop.0, stop.1)
