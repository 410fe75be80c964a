use Rattle.std.proofs.Common.{◌∙◌, sym, ap, Bool, true, false}
use Rattle.jp_problem.specs.Keys.{key_of}
use Rattle.jp_search.specs.Splits.{by_key}
use Rattle.jp_search.proofs.MethodLaws.{without_any, no_dearer, passed_over, by_its_key, has_none, lacks_key}
use Rattle.jp_search.proofs.methods.step.Goals as goal

pub returns-then-not-keys : goal.returns-then-not-keys
returns-then-not-keys c = without_any c.args.problem.now c.args.left c.args.right c.args.kind c.args.a c.args.b c.args.least c.stepped-nest.result c.stepped-nest.ensures (sym c.requires.keys ∙ c.if-not-keys.true)

pub returns-then-nest-keyed : goal.returns-then-nest-keyed
returns-then-nest-keyed c =
    let is = c.by_key-method.ensures ∙ ap (λ left. by_key left c.args.a.rows c.args.b.rows) c.is_by_left.ensures in
    no_dearer c.args.problem.now c.args.left c.args.right c.args.kind c.args.a c.args.b c.args.least c.stepped-nest.result c.stepped-keyed.result c.by_key-method.result c.stepped-nest.ensures is c.stepped-keyed.ensures c.if-nest-keyed.true

pub returns-then-is_dearer : goal.returns-then-is_dearer
returns-then-is_dearer c =
    let is = c.by_key-method.ensures ∙ ap (λ left. by_key left c.args.a.rows c.args.b.rows) c.is_by_left.ensures in
    passed_over c.args.problem.now c.args.left c.args.right c.args.kind c.args.a c.args.b c.args.least c.stepped-nest.result c.stepped-keyed.result c.by_key-method.result c.stepped-nest.ensures is c.stepped-keyed.ensures c.if-nest-keyed.false (sym c.is_dearer.ensures ∙ c.if-is_dearer.true)

pub returns-then-has_key : goal.returns-then-has_key
returns-then-has_key c =
    let is = c.by_key-method.ensures ∙ ap (λ left. by_key left c.args.a.rows c.args.b.rows) c.is_by_left.ensures in
    by_its_key c.args.problem.now c.args.left c.args.right c.args.kind c.args.a c.args.b c.args.least c.stepped-nest.result c.stepped-keyed.result c.by_key-method.result c.stepped-nest.ensures is c.stepped-keyed.ensures c.if-nest-keyed.false ((c.has_key.ensures c.args.kind c.requires.legal).0 c.if-has_key.true)

pub returns-else-has_key : goal.returns-else-has_key
returns-else-has_key c =
    let is = c.by_key-method.ensures ∙ ap (λ left. by_key left c.args.a.rows c.args.b.rows) c.is_by_left.ensures in
    has_none c.args.problem.now c.args.left c.args.right c.args.kind c.args.a c.args.b c.args.least c.stepped-nest.result c.stepped-keyed.result c.by_key-method.result c.stepped-nest.ensures is c.stepped-keyed.ensures (lacks_key (key_of c.args.problem.now c.args.left c.args.right c.args.kind) c.has_key.result (c.has_key.ensures c.args.kind c.requires.legal) c.if-has_key.false)
