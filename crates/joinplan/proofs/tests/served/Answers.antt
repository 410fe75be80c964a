-- No call is to fail, and each file of an output is there.
use Rattle.std.proofs.Common.{◌&&◌, ◌==◌, ap₂, inl, inr, length, map, subst, sym, Some, None, IfOk, if◌then◌else◌}
use Rattle.std.specs.Prelude.{string_bytes}
use Rattle.std.proofs.lemmas.Option.{same_Some}
use Rattle.jp_io.specs.MemFiles.{fault_count, is_surely_read, told_files}
use Rattle.jp_io.specs.MemSink.{room_left, sure_room, taken_bytes}
use Rattle.jp_io.specs.Sinks.{HasRoom}
use Rattle.joinplan.specs.Answers.{answer_of}
use Rattle.joinplan.specs.Outcomes.{AreSure, HasRoomFor, IsServed}
use Rattle.joinplan.proofs.HeldLemmas.{names_held}
use Rattle.joinplan.proofs.tests.served.Goals as goal

pub returns : goal.returns
returns c = λ output e fits.
    let words = map string_bytes c.args.words.now in
    let files = c.args.files.now in
    let out = c.args.out.now in
    let answer = answer_of words (told_files files) in
    let served = subst (λ a. IfOk a (λ output. AreSure (is_surely_read files) (fault_count files) answer.names → HasRoomFor (sure_room out) output → IsServed output c.joinplan.result (Some (taken_bytes out)) (Some (taken_bytes c.joinplan.new.out)))) e c.joinplan.ensures.surely in
    let sure : AreSure (is_surely_read files) (fault_count files) answer.names = λ name within. (ap₂ (λ a b. a && b) c.requires.calm (names_held (told_files files) words output e name within), c.requires.low name) in
    let room : HasRoomFor (sure_room out) output = λ bytes has. subst (λ xs. HasRoom (if length xs == 0 then Some (room_left out) else None) (length bytes)) (sym c.requires.calm_out) (fits bytes has) in
    elim (served sure room) [
      | inl (text, zero, has, took) ↦ inl (text, zero, has, same_Some _ _ took)
      | inr memory ↦ inr memory
    ]
