use Rattle.std.proofs.Common.{◌-◌, ◌≤◌, List, ◌++◌, length, drop}
use Rattle.jp_lex.specs.declared.token.LexError.{LexError}
use Rattle.jp_lex.specs.Cutting.{Lexeme, lexemes, Cut, Refusal}
use Rattle.jp_lex.proofs.cut.cut.Given as goal

abbrev pub invariant-tokens : goal.invariant-tokens
invariant-tokens l = record {
  within : l.at ≤ length l.text;
  cut : (ts : List Lexeme) → Cut l.at (drop l.at l.text) ts → Cut 0 l.text (lexemes l.found.items ++ ts);
  refusal : (e : LexError) → Refusal l.at (drop l.at l.text) e → Refusal 0 l.text e;
}

abbrev pub decreases-tokens : goal.decreases-tokens
decreases-tokens l = length l.text - l.at
