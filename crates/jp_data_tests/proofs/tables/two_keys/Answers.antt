use Rattle.std.proofs.Common.{All, sym, subst}
use Rattle.std.proofs.lemmas.List.Elements.{All-nil, All-push}
use Rattle.jp_catalog.specs.Sound.{IsSoundKey}
use Rattle.jp_data_tests.proofs.tables.two_keys.Goals as goal

pub returns : goal.returns
returns c =
    let none : All (IsSoundKey 2) c.new-keys.result = subst (All (IsSoundKey 2)) (sym c.new-keys.ensures) (All-nil (IsSoundKey 2)) in
    let one : All (IsSoundKey 2) c.push.new.self = subst (All (IsSoundKey 2)) (sym c.in_ok-push.ensures.ok) (All-push (IsSoundKey 2) c.new-keys.result c.in_ok-key_of.field-0 none c.in_ok-key_of.ensures) in
    subst (All (IsSoundKey 2)) (sym c.in_ok-push-2.ensures.ok) (All-push (IsSoundKey 2) c.push.new.self c.in_ok-key_of-2.field-0 one c.in_ok-key_of-2.ensures)
