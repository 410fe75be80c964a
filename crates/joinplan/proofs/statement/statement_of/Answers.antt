use Rattle.std.proofs.Common.{Ok, Err, inr, subst}
use Rattle.jp_ast.specs.Answer.{ParsedAs}
use Rattle.jp_ast.specs.SeenTokens.{seen_tokens}
use Rattle.joinplan.proofs.StatementLemmas.{grammar_read, grammar_refused, source_read}
use Rattle.joinplan.proofs.statement.statement_of.Goals as goal

pub returns-in-Ok-parse-clause-given : goal.returns-in-Ok-parse-clause-given
returns-in-Ok-parse-clause-given c =
    let as_parsed : ParsedAs (seen_tokens c.in-Ok.tokens.items) (Ok c.in-Ok-parse.stmt) = subst (λ ts. ParsedAs (seen_tokens ts) (Ok c.in-Ok-parse.stmt)) c.as_slice.ensures.value c.in-Ok-parse.ensures in
    inr (grammar_read c.args.source.now c.in-Ok.tokens.items c.in-Ok-parse.stmt (c.each_source_is_cut_as_answered.ensures.tokens c.args.source.now) c.in-Ok.ensures.tokens as_parsed)

pub returns-in-Ok-parse-clause-whole : goal.returns-in-Ok-parse-clause-whole
returns-in-Ok-parse-clause-whole c =
    let as_parsed : ParsedAs (seen_tokens c.in-Ok.tokens.items) (Ok c.in-Ok-parse.stmt) = subst (λ ts. ParsedAs (seen_tokens ts) (Ok c.in-Ok-parse.stmt)) c.as_slice.ensures.value c.in-Ok-parse.ensures in
    source_read c.args.source.now c.in-Ok.tokens.items c.in-Ok-parse.stmt c.requires c.in-Ok.ensures.tokens as_parsed

pub returns-clause-given : goal.returns-clause-given
returns-clause-given c =
    let as_parsed : ParsedAs (seen_tokens c.in-Ok.tokens.items) (Err c.in-Err-parse.error) = subst (λ ts. ParsedAs (seen_tokens ts) (Err c.in-Err-parse.error)) c.as_slice.ensures.value c.in-Err-parse.ensures in
    grammar_refused c.args.source.now c.in-Ok.tokens.items c.in-Err-parse.error c.from-in-Err-parse.result (c.each_source_is_cut_as_answered.ensures.tokens c.args.source.now) c.in-Ok.ensures.tokens as_parsed c.from-in-Err-parse.ensures
