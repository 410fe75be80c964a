use Rattle.std.proofs.Common.{◌≡◌, ◌≤◌, drop}
use Rattle.jp_parse.specs.Verdict.{passing_from}
use Rattle.jp_ast.specs.SeenTokens.{seen_tokens}
use Rattle.jp_parse.proofs.whole.passing.Given as goal

abbrev pub invariant-tokens : goal.invariant-tokens
invariant-tokens l = (l.nesting ≤ 64) × (passing_from l.nesting (seen_tokens (drop l.token-index l.tokens)) ≡ passing_from 0 (seen_tokens l.fn.tokens))
