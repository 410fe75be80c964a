use Rattle.std.proofs.Common.{inr, sym, subst}
use Rattle.std.specs.Str.{IsValidUpTo}
use Rattle.jp_lex.specs.Cutting.{lexemes}
use Rattle.jp_lex.proofs.Whole.{Answers, answers_from_cut, only_tokens, only_refusal, are_slices, ascends, only_invalid}
use Rattle.jp_lex.proofs.tokens.Goals as goal
use Rattle.jp_lex.proofs.tokens.Goals.{After-cut}

answers : (c : After-cut) → Answers (λ v. lexemes v.items) c.args.src.now c.cut.result
answers c = answers_from_cut (λ v. lexemes v.items) c.in-Ok.text.now c.args.src.now c.cut.result c.in-Ok.ensures.cases.0 c.in-Ok.ensures.cases.1 c.cut.ensures

pub returns-in-Ok-clause-only_tokens : goal.returns-in-Ok-clause-only_tokens
returns-in-Ok-clause-only_tokens c = only_tokens (λ v. lexemes v.items) c.args.src.now c.cut.result (answers c)

pub returns-in-Ok-clause-only_refusal : goal.returns-in-Ok-clause-only_refusal
returns-in-Ok-clause-only_refusal c = only_refusal (λ v. lexemes v.items) c.args.src.now c.cut.result (answers c)

pub returns-in-Ok-clause-slices : goal.returns-in-Ok-clause-slices
returns-in-Ok-clause-slices c = are_slices (λ v. lexemes v.items) c.args.src.now c.cut.result (answers c)

pub returns-in-Ok-clause-ascending : goal.returns-in-Ok-clause-ascending
returns-in-Ok-clause-ascending c = ascends (λ v. lexemes v.items) c.args.src.now c.cut.result (answers c)

pub returns-in-Err-clause-only_refusal : goal.returns-in-Err-clause-only_refusal
returns-in-Err-clause-only_refusal c = λ e refused.
    let valid : IsValidUpTo c.args.src.now c.valid_up_to.result = subst (IsValidUpTo c.args.src.now) (sym c.valid_up_to.ensures) c.in-Err.ensures.cases.1 in
    inr (only_invalid c.args.src.now c.valid_up_to.result e valid refused)
