-- What a token of a text in UTF-8 stands for is in UTF-8.
use Rattle.std.proofs.Common.{◌≡◌, ℕ, ◌<◌, true, [], ◌∷◌, map, sym, subst, arith}
use Rattle.std.proofs.lemmas.Bool.{and_parts}
use Rattle.std.proofs.lemmas.Bool.Decides.{nat_tests}
use Rattle.std.proofs.lemmas.Str.{IsUtf8-from_ascii}
use Rattle.std.proofs.lemmas.Str.Ascii.{IsAscii-cons, IsAscii-nil}
use Rattle.std.specs.List.{list_all}
use Rattle.std.specs.Str.{IsAscii, IsUtf8}
use Rattle.jp_lex.specs.declared.token.TokenKind.{TokenKind}
use Rattle.jp_lex.specs.Chars.{is_letter, is_word_byte, lower}
use Rattle.jp_lex.specs.Cutting.{Bytes, Form}
use Rattle.jp_lex.proofs.TextLaws.{content_utf8}
use Rattle.jp_ast.specs.Seen.{content_of, folded}
use Rattle.jp_ast.proofs.Contents.{content_is}

letter_lower : (b : ℕ) → is_letter b ≡ true → lower b < 128
letter_lower b h = grind (arith, nat_tests)

word_lower : (b : ℕ) → is_word_byte b ≡ true → lower b < 128
word_lower b h = grind (arith, nat_tests)

lower_ascii : (v : Bytes) → list_all is_word_byte v ≡ true → IsAscii (map lower v)
lower_ascii [] all = IsAscii-nil
lower_ascii (b ∷ v) all =
    let both = and_parts (is_word_byte b) (list_all is_word_byte v) all in
    IsAscii-cons (lower b) (map lower v) (word_lower b both.0) (lower_ascii v both.1)

folded_utf8 : (kind : TokenKind) (u content : Bytes) → Form kind u content → IsUtf8 content → IsUtf8 (folded kind content)
folded_utf8 k u content (Form.word b v is letter rest) utf8 =
    subst (λ u. IsUtf8 (map lower u)) (sym is) (IsUtf8-from_ascii (map lower (b ∷ v)) (IsAscii-cons (lower b) (map lower v) (letter_lower b letter) (lower_ascii v rest)))
folded_utf8 k u content (Form.quoted v is body) utf8 = utf8
folded_utf8 k u content (Form.number b v is digit rest) utf8 = utf8
folded_utf8 k u content (Form.text v is body) utf8 = utf8
folded_utf8 k u content (Form.symbol b is sign) utf8 = utf8
folded_utf8 k u content (Form.long_symbol b next is sign) utf8 = utf8

pub seen_utf8 : (kind : TokenKind) (u content : Bytes) → Form kind u content → IsUtf8 u → IsUtf8 (content_of kind u)
seen_utf8 kind u content form utf8 = subst IsUtf8 (sym (content_is kind u content form)) (folded_utf8 kind u content form (content_utf8 kind u content form utf8))
