-- The answer of the readers is the answer to the tokens.
use Rattle.std.proofs.Common.{◌≡◌, inl, inr, ap, sym, subst, refl, ℕ, Bool, true, List, [], ◌∷◌, ◌++◌, append_assoc, Option, Some, None, Result, Ok, Err, cond, arith}
use Rattle.std.specs.Prelude.{nat_lt}
use Rattle.std.proofs.lemmas.Bool.{cases_Bool, ltb-true, ltb-false}
use Rattle.std.proofs.lemmas.List.{append-nil}
use Rattle.jp_ast.specs.declared.errors.ParseError.{ParseError}
use Rattle.jp_ast.specs.declared.tree.Stmt.{Stmt}
use Rattle.jp_ast.specs.Answer.{ParsedAs, Says}
use Rattle.jp_ast.specs.Nesting.{NestsWithin, PassesAt, max_nesting, nested, nesting}
use Rattle.jp_ast.specs.Seen.{Seen}
use Rattle.jp_parse.specs.Readers.{parsed}
use Rattle.jp_parse.specs.Verdict.{Agrees, answer, as_error, judged, passing_from}
use Rattle.jp_parse.proofs.Uses.{nesting_more, nests_more, nests_none, parsed_refusal, parsed_statement, passes_at}

abbrev Nests : List Seen → List Seen → Option ℕ → Type 0
Nests before ts (Some n) = PassesAt (before ++ ts) n
Nests before ts None = NestsWithin (before ++ ts)

nests_from : (before ts : List Seen) → NestsWithin before → Nests before ts (passing_from (nesting before) ts)
nests_from before [] within = subst NestsWithin (sym (append-nil before)) within
nests_from before (t ∷ ts) within =
    let next = nested (nesting before) t in
    elim (cases_Bool (nat_lt max_nesting next)) [
      | inl passes ↦ subst (Nests before (t ∷ ts)) (ap (λ b. cond b (Some t.at) (passing_from next ts)) (sym passes)) (passes_at before t ts within (ltb-true max_nesting next passes))
      | inr low ↦
          let more = nests_from (before ++ (t ∷ [])) ts (nests_more before t within (omega (arith, ltb-false max_nesting next low))) in
          let here : passing_from (nesting (before ++ (t ∷ []))) ts ≡ passing_from next ts = ap (λ n. passing_from n ts) (nesting_more before t) in
          let moved = moved_on before t ts (passing_from next ts) (subst (Nests (before ++ (t ∷ [])) ts) here more) in
          subst (Nests before (t ∷ ts)) (ap (λ b. cond b (Some t.at) (passing_from next ts)) (sym low)) moved
    ]
  where
    moved_on : (before : List Seen) (t : Seen) (ts : List Seen) (found : Option ℕ) → Nests (before ++ (t ∷ [])) ts found → Nests before (t ∷ ts) found
    moved_on before t ts (Some n) h = subst (λ us. PassesAt us n) (append_assoc before (t ∷ []) ts) h
    moved_on before t ts None h = subst NestsWithin (append_assoc before (t ∷ []) ts) h

read_answers : (ts : List Seen) (read : Result Stmt ℕ) → NestsWithin ts → parsed ts ≡ read → ParsedAs ts (as_error read)
read_answers ts (Ok s) within e = parsed_statement ts s within e
read_answers ts (Err n) within e = parsed_refusal ts n within e

judged_answers : (ts : List Seen) (found : Option ℕ) → Nests [] ts found → ParsedAs ts (judged ts found)
judged_answers ts (Some n) h = h
judged_answers ts None h = read_answers ts (parsed ts) h refl

pub answers : (ts : List Seen) (r : Result Stmt ParseError) → Agrees r (answer ts) → ParsedAs ts r
answers ts r (inl memory) = subst (ParsedAs ts) (sym memory) tt
answers ts r (inr is) = subst (ParsedAs ts) (sym is) (judged_answers ts (passing_from 0 ts) (nests_from [] ts nests_none))

read_says : (read : Result Stmt ℕ) → Says (as_error read)
read_says (Ok s) = tt
read_says (Err n) = tt

judged_says : (ts : List Seen) (found : Option ℕ) → Says (judged ts found)
judged_says ts (Some n) = tt
judged_says ts None = read_says (parsed ts)

pub answer_is : (ts : List Seen) → ParsedAs ts (answer ts) × Says (answer ts)
answer_is ts = (answers ts (answer ts) (inr refl), judged_says ts (passing_from 0 ts))
