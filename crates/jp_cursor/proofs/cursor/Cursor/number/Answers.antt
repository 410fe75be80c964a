use Rattle.std.proofs.Common.{◌∙◌, ◌<◌, ◌^◌, ap, sym, subst, pos, rules, arith}
use Rattle.std.proofs.lemmas.Grind.{common_steps}
use Rattle.std.proofs.lemmas.Int.{to_z_pos}
use Rattle.jp_lex.specs.Cutting.{value}
use Rattle.jp_ast.specs.declared.class.Class.TheVariants as k
use Rattle.jp_ast.specs.Seen.{number_in}
use Rattle.jp_cursor.specs.Reading.{is, number}
use Rattle.std.specs.Int.{w128}
use Rattle.jp_cursor.proofs.FirstFacts.{is_number, number_text}
use Rattle.jp_cursor.proofs.Taken.{token_if_is}
use Rattle.jp_cursor.proofs.cursor.Cursor.number.Goals as goal

pub number_value-requires : goal.number_value-requires
number_value-requires c =
    let taken = c.in-Some.ensures.taken in
    let is_one = taken.class ∙ is_number _ (sym c.sees-passes.ensures ∙ taken.passed) in
    subst (λ text. value text < 2 ^ 127) (number_text c.in-Some.token.now is_one ∙ sym c.as_bytes.ensures.value) (taken.fits.number is_one)

pub overflow_cast-result : goal.overflow_cast-result
overflow_cast-result c =
    let taken = c.in-Some.ensures.taken in
    let is_one = taken.class ∙ is_number _ (sym c.sees-passes.ensures ∙ taken.passed) in
    let below = subst (λ text. value text < 2 ^ 127) (number_text c.in-Some.token.now is_one ∙ sym c.as_bytes.ensures.value) (taken.fits.number is_one) in
    let small = subst (λ n. n < 2 ^ 127) (sym c.number_value.ensures) below in
    first_of (search rules, grind (arith, common_steps))

pub returns : goal.returns
unfolding number
returns c =
    let taken = c.in-Some.ensures.taken in
    let is_one = taken.class ∙ is_number _ (sym c.sees-passes.ensures ∙ taken.passed) in
    let text = number_text c.in-Some.token.now is_one ∙ sym c.as_bytes.ensures.value in
    let below = subst (λ text. value text < 2 ^ 127) text (taken.fits.number is_one) in
    let small = subst (λ n. n < 2 ^ 127) (sym c.number_value.ensures) below in
    let same = to_z_pos w128 _ small ∙ ap pos (c.number_value.ensures ∙ sym (ap value text)) in
    let read = token_if_is (is k.Number) number_in c.args.self.now in
    first_of (search rules, grind (arith, common_steps))
