use Rattle.std.proofs.Common.{◌∙◌, ap, sym, ◌++◌}
use Rattle.std.specs.Prelude.{string_bytes}
use Rattle.std.specs.List.{flat_map}
use Rattle.std.proofs.lemmas.Iterator.{YieldsList-from_chars}
use Rattle.std.proofs.lemmas.Iterator.Consumers.{YieldsList-end}
use Rattle.std.proofs.lemmas.List.{map-id}
use Rattle.jp_explain.specs.Values.{in_quotes}
use Rattle.jp_explain.proofs.values.push_characters.Goals as goal

pub returns : goal.returns
returns c =
    let t = YieldsList-end (YieldsList-from_chars c.args.literal.now c.utf8.literal cc) c.characters.yielded _ c.characters.yielded_by _ _ c.in-None.is c.next.ensures.steps in
    c.characters.invariant ∙ ap (λ xs. string_bytes c.args.text.now ++ flat_map in_quotes xs) (sym (map-id c.characters.yielded) ∙ t.0)
