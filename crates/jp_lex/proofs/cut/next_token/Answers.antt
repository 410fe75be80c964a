use Rattle.std.proofs.Common.{◌+◌, drop, Some, None, sym, ◌∙◌, subst, rules}
use Rattle.jp_lex.specs.Scan.{TokenAt, GoesBefore}
use Rattle.jp_lex.proofs.Found.{token_finds}
use Rattle.jp_lex.proofs.Edges.{edges}
use Rattle.jp_lex.proofs.Next.{gap_of, scan_of, rest_of, start_fits, next_good, next_bad, next_refusal, next_end}
use Rattle.jp_lex.proofs.cut.next_token.Goals as goal
use Rattle.jp_lex.proofs.cut.next_token.Goals.{In-Some}

found_at : (c : In-Some) → TokenAt (drop (c.args.at + c.gap_len.result) c.args.text.now) c.in-Some.found
found_at c =
    token_finds (drop (c.args.at + c.gap_len.result) c.args.text.now) c.in-Some.found
    (scan_of c.args.text.now c.as_bytes-src.result.now (c.args.at + c.gap_len.result) (Some c.in-Some.found) c.as_bytes-src.ensures.value c.in-Some.ensures)

pub token_at-requires-clause-room : goal.token_at-requires-clause-room
token_at-requires-clause-room c =
    let start = start_fits c.args.text.now c.as_bytes-src.result.now c.args.at c.gap_len.result c.as_bytes-src.ensures.value c.requires.place c.gap_len.ensures.within in
    (edges c.args.text.now (c.args.at + c.gap_len.result) c.in-Some.found c.utf8.text start (found_at c)).1

pub token_at-requires-clause-token : goal.token_at-requires-clause-token
token_at-requires-clause-token c = found_at c

pub returns-in_err-token-in-Some : goal.returns-in_err-token-in-Some
returns-in_err-token-in-Some c =
    let gap = gap_of c.args.text.now c.as_bytes-src.result.now c.args.at c.gap_len.result c.as_bytes-src.ensures.value c.gap_len.ensures.longest in
    let bad = next_bad c.args.text.now c.args.at c.gap_len.result c.in-Some.found c.in_err-token-in-Some.field-0.0 gap (found_at (goal.at.returns-in_err-token-in-Some c).In-Some) c.in_err-token-in-Some.ensures in
    search rules

pub returns-in_ok-token-in-Some : goal.returns-in_ok-token-in-Some
returns-in_ok-token-in-Some c =
    let gap = gap_of c.args.text.now c.as_bytes-src.result.now c.args.at c.gap_len.result c.as_bytes-src.ensures.value c.gap_len.ensures.longest in
    let token = found_at (goal.at.returns-in_ok-token-in-Some c).In-Some in
    subst (GoesBefore c.args.text.now c.args.at) (sym c.in_ok-token-in-Some.ensures.0)
    (next_good c.args.text.now c.args.at c.gap_len.result c.in-Some.found c.requires.place gap token c.in_ok-token-in-Some.ensures.1)

pub returns-in-Some-end_or_refusal : goal.returns-in-Some-end_or_refusal
returns-in-Some-end_or_refusal c =
    let same = c.as_bytes-src.ensures.value in
    let start = c.args.at + c.gap_len.result in
    let gap = gap_of c.args.text.now c.as_bytes-src.result.now c.args.at c.gap_len.result same c.gap_len.ensures.longest in
    next_refusal c.args.text.now _ c.args.at c.gap_len.result c.in-Some-end_or_refusal.error gap (scan_of c.args.text.now c.as_bytes-src.result.now start None same c.in-None.ensures)
    (rest_of c.args.text.now c.as_bytes-src.result.now start same) c.in-Some-end_or_refusal.ensures

pub returns-in-None-end_or_refusal : goal.returns-in-None-end_or_refusal
returns-in-None-end_or_refusal c =
    let same = c.as_bytes-src.ensures.value in
    let gap = gap_of c.args.text.now c.as_bytes-src.result.now c.args.at c.gap_len.result same c.gap_len.ensures.longest in
    next_end c.args.text.now c.args.at c.gap_len.result gap (sym (rest_of c.args.text.now c.as_bytes-src.result.now (c.args.at + c.gap_len.result) same) ∙ c.in-None-end_or_refusal.ensures)
