use Rattle.std.proofs.Common.{◌≡◌, ◌++◌, arith, rules}
use Rattle.std.proofs.lemmas.Str.{IsUtf8-string_bytes}
use Rattle.std.specs.Prelude.{string_bytes}
use Rattle.jp_table.proofs.TextFacts.{kept_places, places_more, texts_more}
use Rattle.jp_table.proofs.texts.Texts.push.Goals as goal
use Rattle.jp_table.proofs.texts.Texts.push.Goals.{in-Ok-push, in-Err-push}

pub invariant_of-self-2 : goal.invariant_of-self-2
invariant_of-self-2 c =
    let bytes = string_bytes c.self.inside.buffer in
    let is : string_bytes c.push_str.new.self ≡ bytes ++ c.args.text.now = search rules in
    elim c.match-push.branch [
      | in-Ok-push w ↦ rw w.in-Ok-push.ensures.items
          (places_more bytes c.args.text.now (string_bytes c.push_str.new.self) c.len-start.result c.len-end.result c.self.inside.places.items (IsUtf8-string_bytes c.self.inside.buffer) c.utf8.text c.self.invariant is (omega (arith, c.len-start.ensures, c.self.inside.buffer.bytes.ok.0)) (omega (arith, c.len-end.ensures, c.push_str.new.self.bytes.ok.0)))
      | in-Err-push w ↦ rw (w.in-Err-push.ensures.items, is) (kept_places bytes c.args.text.now c.self.inside.places.items (IsUtf8-string_bytes c.self.inside.buffer) c.utf8.text c.self.invariant)
    ]

pub returns : goal.returns
returns c =
    let bytes = string_bytes c.self.inside.buffer in
    let is : string_bytes c.push_str.new.self ≡ bytes ++ c.args.text.now = search rules in
    elim c.match-push.branch [
      | in-Ok-push w ↦ rw (w.result-is, w.in-Ok-push.ensures.items, ← c.self.view_is)
          (texts_more bytes c.args.text.now (string_bytes c.push_str.new.self) c.len-start.result c.len-end.result c.self.inside.places.items c.self.invariant is (omega (arith, c.len-start.ensures, c.self.inside.buffer.bytes.ok.0)) (omega (arith, c.len-end.ensures, c.push_str.new.self.bytes.ok.0)))
      | in-Err-push w ↦ rw w.result-is tt
    ]
