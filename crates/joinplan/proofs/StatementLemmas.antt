-- The statement of a source and its query, from the answers of tokens, grammar and resolution.
use Rattle.std.proofs.Common.{◌≡◌, ◌≤◌, ◌∙◌, ap, sym, subst, refl, inl, inr, ◌⊎◌, ℕ, List, [], ◌∷◌, length, map, Option, Some, None, Result, Ok, Err, true}
use Rattle.std.specs.Prelude.{IfErr, MatchResult}
use Rattle.jp_base.specs.Answers.{OrMemory}
use Rattle.jp_lex.specs.Answer as cutting
use Rattle.jp_lex.specs.Cutting.{Bytes, Lexeme, Refused, Tokens, lexemes}
use Rattle.jp_lex.specs.declared.token.LexError.{LexError}
use Rattle.jp_lex.specs.declared.token.LexError.TheVariants as lex
use Rattle.jp_lex.specs.declared.token.Token.{Token}
use Rattle.jp_ast.specs.Answer.{ParsedAs, Says}
use Rattle.jp_ast.specs.Seen.{Seen, seen}
use Rattle.jp_ast.specs.SeenTokens.{seen_token, seen_tokens}
use Rattle.jp_ast.specs.declared.errors.ParseError.{ParseError}
use Rattle.jp_ast.specs.declared.errors.ParseError.TheVariants as parse
use Rattle.jp_ast.specs.declared.tree.Stmt.{Stmt}
use Rattle.jp_parse.specs.Verdict as reading
use Rattle.jp_parse.proofs.Answering.{answer_is}
use Rattle.jp_parse.proofs.Top.{one_answer}
use Rattle.jp_catalog.specs.declared.types.Catalog.{Catalog}
use Rattle.jp_query.specs.declared.Query.{Query}
use Rattle.jp_resolution.specs.Resolving.{resolved}
use Rattle.jp_resolution.specs.declared.error.ResolveError.{ResolveError}
use Rattle.jp_resolution.specs.declared.error.ResolveError.TheVariants as resolve
use Rattle.jp_statements.specs.Whole.{is_whole}
use Rattle.jp_statements.proofs.Bounds.{source_whole}
use Rattle.joinplan.specs.declared.refusal.Refusal.{Refusal}
use Rattle.joinplan.specs.declared.refusal.Refusal.TheVariants as refusal
use Rattle.joinplan.specs.Answers.{parsed, query_of, refused_as, statement_of}
use Rattle.joinplan.specs.Faults.{Counts, IsExplained}
use Rattle.joinplan.specs.Headline.{IsStatementOf}
use Rattle.joinplan.specs.Readings.{AgreesRefused, AgreesTold, Held, known}
use Rattle.joinplan.specs.Refusals.{IsOfStatement, lex_refusal, parse_refusal, resolve_refusal}

-- ---- refusals of a statement by itself

pub lex_own : (e : LexError) → IsOfStatement (lex_refusal e)
lex_own (lex.BadByte at) = tt
lex_own (lex.OpenString at) = tt
lex_own (lex.OpenIdent at) = tt
lex_own (lex.OpenComment at) = tt
lex_own (lex.NameTooLong at) = tt
lex_own (lex.NumberTooWide at) = tt
lex_own lex.Memory = tt

pub parse_own : (e : ParseError) → IsOfStatement (parse_refusal e)
parse_own (parse.Syntax at) = tt
parse_own (parse.TooDeep at) = tt
parse_own parse.Memory = tt

pub resolve_own : (e : ResolveError) → IsOfStatement (resolve_refusal e)
resolve_own (resolve.UnknownTable at) = tt
resolve_own (resolve.UnknownColumn at) = tt
resolve_own (resolve.Ambiguous at) = tt
resolve_own (resolve.DuplicateAlias at) = tt
resolve_own (resolve.TypeMismatch at) = tt
resolve_own (resolve.NotOneColumn at) = tt
resolve_own (resolve.NumberTooWide at) = tt
resolve_own (resolve.OrderNotSelected at) = tt
resolve_own (resolve.BadPosition at) = tt
resolve_own (resolve.TooManyTables count) = tt
resolve_own resolve.Memory = tt

own_agrees : {A : Type 0} (answer : Result A Refusal) (r : Refusal) → IsOfStatement r → answer ≡ Err r → AgreesRefused r (known answer)
own_agrees answer (refusal.Statement what at) own e = e
own_agrees answer (refusal.TooDeep at) own e = e
own_agrees answer (refusal.TooManyTables count) own e = e
own_agrees answer refusal.Memory own e = tt
own_agrees answer refusal.Usage own e = absurd own
own_agrees answer (refusal.Catalogue error) own e = absurd own
own_agrees answer (refusal.Data name error) own e = absurd own
own_agrees answer (refusal.FileTooLarge name) own e = absurd own
own_agrees answer refusal.StatementTooLarge own e = absurd own
own_agrees answer (refusal.ReadFault name) own e = absurd own
own_agrees answer refusal.WriteFault own e = absurd own

pub own_explained : (May : List ℕ → Type 0) (before now : Counts) (r : Refusal) → IsOfStatement r → IsExplained May before now r
own_explained May before now (refusal.Statement what at) own = tt
own_explained May before now (refusal.TooDeep at) own = tt
own_explained May before now (refusal.TooManyTables count) own = tt
own_explained May before now refusal.Memory own = tt
own_explained May before now refusal.Usage own = absurd own
own_explained May before now (refusal.Catalogue error) own = absurd own
own_explained May before now (refusal.Data name error) own = absurd own
own_explained May before now (refusal.FileTooLarge name) own = absurd own
own_explained May before now refusal.StatementTooLarge own = absurd own
own_explained May before now (refusal.ReadFault name) own = absurd own
own_explained May before now refusal.WriteFault own = absurd own

abbrev pub refused_with : {A : Type 0} → Refusal → Result A Refusal
refused_with r = Err r

memory_agrees : {A : Type 0} (answer : Result A Refusal) (r : Refusal) → refused_with {A = A} r ≡ refused_with {A = A} refusal.Memory → AgreesRefused r (known answer)
memory_agrees answer refusal.Memory e = tt
memory_agrees answer refusal.Usage e = cc
memory_agrees answer (refusal.Catalogue error) e = cc
memory_agrees answer (refusal.Data name error) e = cc
memory_agrees answer (refusal.Statement what at) e = cc
memory_agrees answer (refusal.FileTooLarge name) e = cc
memory_agrees answer refusal.StatementTooLarge e = cc
memory_agrees answer (refusal.TooDeep at) e = cc
memory_agrees answer (refusal.TooManyTables count) e = cc
memory_agrees answer (refusal.ReadFault name) e = cc
memory_agrees answer refusal.WriteFault e = cc

-- what is answered of a statement without a file
pub told_own : {A : Type 0} (contents : Option Held) (answer result : Result A Refusal) → OrMemory refusal.Memory answer result → IfErr result IsOfStatement → AgreesTold {X = A} (λ a. a) result contents (λ held. known answer)
told_own None answer result given own = tt
told_own (Some held) answer (Ok value) (inl e) own = absurd cc
told_own (Some held) answer (Ok value) (inr e) own = sym e
told_own (Some held) answer (Err r) (inl e) own = memory_agrees answer r e
told_own (Some held) answer (Err r) (inr e) own = own_agrees answer r own (sym e)

-- ---- tokens and grammar

same_seen : (ts : List Token) → map seen (lexemes ts) ≡ seen_tokens ts
same_seen [] = refl
same_seen (t ∷ ts) = ap (λ xs. seen_token t ∷ xs) (same_seen ts)

parsed_is : (ts : List Seen) (r : Result Stmt ParseError) → ParsedAs ts r → Says r → r ≡ reading.answer ts
parsed_is ts r as_parsed says = one_answer ts r (reading.answer ts) as_parsed (answer_is ts).0 says (answer_is ts).1

abbrev refused : Refusal → Result Stmt Refusal
refused r = Err r

pub cut_refused : (src : Bytes) (e : LexError) (r : Refusal) → ((f : LexError) → Refused src f → cutting.answer src ≡ Err f) → (e ≡ lex.Memory) ⊎ Refused src e → r ≡ lex_refusal e → OrMemory refusal.Memory (statement_of src) (refused r)
cut_refused src e r law (inl memory) is = inl (ap refused (is ∙ ap lex_refusal memory))
cut_refused src e r law (inr why) is = inr (ap refused is ∙ sym (ap parsed (law e why)))

read_as : (src : Bytes) (ts : List Token) (answer : Result Stmt ParseError) → cutting.answer src ≡ Ok (lexemes ts) → answer ≡ reading.answer (seen_tokens ts) → statement_of src ≡ refused_as parse_refusal answer
read_as src ts answer cut is = ap parsed cut ∙ ap (λ xs. refused_as parse_refusal (reading.answer xs)) (same_seen ts) ∙ ap (refused_as parse_refusal) (sym is)

pub grammar_refused : (src : Bytes) (ts : List Token) (e : ParseError) (r : Refusal) → ((us : List Lexeme) → Tokens src us → cutting.answer src ≡ Ok us) → Tokens src (lexemes ts) → ParsedAs (seen_tokens ts) (Err e) → r ≡ parse_refusal e → OrMemory refusal.Memory (statement_of src) (refused r)
grammar_refused src ts parse.Memory r law cut as_parsed is = inl (ap refused is)
grammar_refused src ts (parse.Syntax at) r law cut as_parsed is = inr (ap refused is ∙ sym (read_as src ts (Err (parse.Syntax at)) (law (lexemes ts) cut) (parsed_is (seen_tokens ts) (Err (parse.Syntax at)) as_parsed tt)))
grammar_refused src ts (parse.TooDeep at) r law cut as_parsed is = inr (ap refused is ∙ sym (read_as src ts (Err (parse.TooDeep at)) (law (lexemes ts) cut) (parsed_is (seen_tokens ts) (Err (parse.TooDeep at)) as_parsed tt)))

pub grammar_read : (src : Bytes) (ts : List Token) (s : Stmt) → ((us : List Lexeme) → Tokens src us → cutting.answer src ≡ Ok us) → Tokens src (lexemes ts) → ParsedAs (seen_tokens ts) (Ok s) → Ok s ≡ statement_of src
grammar_read src ts s law cut as_parsed = sym (read_as src ts (Ok s) (law (lexemes ts) cut) (parsed_is (seen_tokens ts) (Ok s) as_parsed tt))

pub source_read : (src : Bytes) (ts : List Token) (s : Stmt) → length src ≤ 65536 → Tokens src (lexemes ts) → ParsedAs (seen_tokens ts) (Ok s) → is_whole s ≡ true
source_read src ts s short cut as_parsed = source_whole s (record { source = src; tokens = ts; short = short; cut = cut; derived = as_parsed.1 })

-- ---- resolution

pub query_refused : (catalog : Catalog) (stmt : Stmt) (e : ResolveError) (r : Refusal) → OrMemory resolve.Memory (resolved catalog stmt) (Err e) → r ≡ resolve_refusal e → OrMemory refusal.Memory (query_of catalog stmt) (refused_with {A = Query} r)
query_refused catalog stmt e r (inl memory) is = let same : e ≡ resolve.Memory = cc in inl (ap (refused_with {A = Query}) (is ∙ ap resolve_refusal same))
query_refused catalog stmt e r (inr given) is = inr (ap (refused_with {A = Query}) is ∙ ap (refused_as resolve_refusal) given)

pub query_given : (catalog : Catalog) (stmt : Stmt) (q : Query) → OrMemory resolve.Memory (resolved catalog stmt) (Ok q) → OrMemory refusal.Memory (query_of catalog stmt) (Ok q)
query_given catalog stmt q (inl memory) = absurd cc
query_given catalog stmt q (inr given) = inr (ap (refused_as resolve_refusal) given)

-- ---- back from the answers

pub found : {A E : Type 0} (named : E → Refusal) (o : Result A E) (v : A) → refused_as named o ≡ Ok v → o ≡ Ok v
found named (Ok x) v e = cc
found named (Err x) v e = cc

-- the statement that is answered is derived from the tokens of its source
pub statement_found : ((src : Bytes) → MatchResult (cutting.answer src) (Tokens src) (Refused src)) → (src : Bytes) (s : Stmt) → statement_of src ≡ Ok s → IsStatementOf src s
statement_found law src s e = step (cutting.answer src) (law src) e
  where
    step : (answer : Result (List Lexeme) LexError) → MatchResult answer (Tokens src) (Refused src) → parsed answer ≡ Ok s → IsStatementOf src s
    step (Ok ts) cut read =
        let is : reading.answer (map seen ts) ≡ Ok s = found parse_refusal (reading.answer (map seen ts)) s read in
        let as_parsed : ParsedAs (map seen ts) (Ok s) = subst (ParsedAs (map seen ts)) is (answer_is (map seen ts)).0 in
        record { tokens = ts; cut = cut; nested = as_parsed.0; derived = as_parsed.1 }
    step (Err error) refused read = absurd cc
