-- Whole statements: what the reader answers, the one statement and the one place.
use Rattle.std.proofs.Common.{◌≡◌, ℕ, suc, [], ◌∷◌, ◌++◌, length, Result, Ok, Err, ◌⊎◌, inl, inr, refl, sym, ap, ◌∙◌, subst, arith, append_assoc, append-nil, length-append}
use Rattle.jp_ast.specs.declared.tree.Stmt.{Stmt}
use Rattle.jp_ast.specs.declared.errors.ParseError.{ParseError}
use Rattle.jp_ast.specs.declared.errors.ParseError.TheVariants.{Syntax, TooDeep, Memory}
use Rattle.jp_ast.specs.Seen.{Seen}
use Rattle.jp_ast.specs.Grammar.{Derives}
use Rattle.jp_ast.specs.Nesting.{NestsWithin, PassesAt}
use Rattle.jp_ast.specs.Place.{Viable, Stuck}
use Rattle.jp_ast.specs.Answer.{ReadAs, ParsedAs, Says}
use Rattle.jp_cursor.specs.Reading.{Outcome}
use Rattle.jp_parse.specs.Readers.{statement, verdict, parsed}
use Rattle.jp_parse.proofs.Exact.{Tokens, Exact}
use Rattle.jp_parse.proofs.Sets.{more_statement}
use Rattle.jp_parse.proofs.Selects.{alike_self}
use Rattle.jp_parse.proofs.Statements.{reads_statement}

exact : (ts : Tokens) → Exact Derives more_statement ts (statement (suc (length ts)) ts)
exact ts = reads_statement (suc (length ts)) ts (omega arith)

-- ---- what the reader answers

longer : (used rest : Tokens) (t : Seen) → used ++ (t ∷ rest) ≡ used → ⊥
longer used rest t e = omega (arith, ap length e, length-append used (t ∷ rest))

one_behind : (used more : Tokens) (t : Seen) → used ++ (t ∷ more) ≡ (used ++ (t ∷ [])) ++ more
one_behind used more t = sym (append_assoc used (t ∷ []) more)

read_as : (ts : Tokens) (o : Outcome Stmt) → Exact Derives more_statement ts o → ReadAs ts (verdict ts o)
read_as ts (Ok (s, [])) h = subst (λ w. Derives w s) (sym (h.cut ∙ append-nil h.used)) h.is
read_as ts (Ok (s, t ∷ rest)) h = (
  λ v d. longer h.used rest t (sym h.cut ∙ (h.only (t ∷ rest) ts [] v refl (sym h.cut ∙ sym (append-nil ts)) d refl).0),
  Stuck.at_token h.used t rest h.cut ([], s, subst (λ w. Derives w s) (sym (append-nil h.used)) h.is)
      (λ viable. longer h.used viable.0 t (one_behind h.used viable.0 t ∙ (h.only (t ∷ viable.0) ((h.used ++ (t ∷ [])) ++ viable.0) [] viable.1 refl (one_behind h.used viable.0 t ∙ sym (append-nil ((h.used ++ (t ∷ [])) ++ viable.0))) viable.2 refl).0)) refl,
)
read_as ts (Err []) h = (λ v d. h.none [] ts [] v tt (sym h.cut ∙ sym (append-nil ts)) d refl, Stuck.at_end (h.more, h.value, subst (λ w. Derives (w ++ h.more) h.value) (sym (h.cut ∙ append-nil h.used)) h.goes_on) refl)
read_as ts (Err (t ∷ rest)) h = (
  λ v d. h.none (t ∷ rest) ts [] v refl (sym h.cut ∙ sym (append-nil ts)) d refl,
  Stuck.at_token h.used t rest h.cut (h.more, h.value, h.goes_on) (λ viable. h.none (t ∷ viable.0) ((h.used ++ (t ∷ [])) ++ viable.0) [] viable.1 refl (one_behind h.used viable.0 t ∙ sym (append-nil ((h.used ++ (t ∷ [])) ++ viable.0))) viable.2 refl) refl,
)

pub parsed_read : (ts : Tokens) → ReadAs ts (parsed ts)
unfolding parsed
parsed_read ts = read_as ts (statement (suc (length ts)) ts) (exact ts)

-- ---- one statement

pub one_statement : (ts : Tokens) (s t : Stmt) → Derives ts s → Derives ts t → s ≡ t
one_statement ts s t d e = go (statement (suc (length ts)) ts) (exact ts)
  where
    go : (o : Outcome Stmt) → Exact Derives more_statement ts o → s ≡ t
    go (Ok p) h = (h.only p.1 ts [] s (alike_self p.1) (sym h.cut ∙ sym (append-nil ts)) d refl).1 ∙ sym (h.only p.1 ts [] t (alike_self p.1) (sym h.cut ∙ sym (append-nil ts)) e refl).1
    go (Err rest) h = absurd (h.none rest ts [] s (alike_self rest) (sym h.cut ∙ sym (append-nil ts)) d refl)

-- ---- one place

-- two cuts of one list: they are the same, or one ends in the front of the other
abbrev Cuts : Tokens → Seen → Tokens → Seen → Type 0
Cuts b t c u = ((b ≡ c) × (t ≡ u)) ⊎ (((x : Tokens) × (c ≡ b ++ (t ∷ x))) ⊎ ((x : Tokens) × (b ≡ c ++ (u ∷ x))))

cuts_behind : (h k : Seen) (b c : Tokens) (t u : Seen) → h ≡ k → Cuts b t c u → Cuts (h ∷ b) t (k ∷ c) u
cuts_behind h k b c t u e (inl same) = inl (let f = same.0 in (cc, same.1))
cuts_behind h k b c t u e (inr (inl more)) = inr (inl (more.0, let f = more.1 in cc))
cuts_behind h k b c t u e (inr (inr more)) = inr (inr (more.0, let f = more.1 in cc))

cuts : (b a c d : Tokens) (t u : Seen) → b ++ (t ∷ a) ≡ c ++ (u ∷ d) → Cuts b t c u
cuts [] a [] d t u e = inl (refl, cc)
cuts [] a (k ∷ c) d t u e = inr (inl (c, cc))
cuts (h ∷ b) a [] d t u e = inr (inr (b, cc))
cuts (h ∷ b) a (k ∷ c) d t u e = let f : b ++ (t ∷ a) ≡ c ++ (u ∷ d) = cc in let g : h ≡ k = cc in cuts_behind h k b c t u g (cuts b a c d t u f)

viable_front : (b x : Tokens) (t : Seen) (ts : Tokens) → ts ≡ b ++ (t ∷ x) → Viable ts → Viable (b ++ (t ∷ []))
viable_front b x t ts e (more, s, d) = (x ++ more, s, subst (λ w. Derives w s) (ap (λ w. w ++ more) e ∙ append_assoc b (t ∷ x) more ∙ one_behind b (x ++ more) t) d)

pub one_place : (ts : Tokens) (n m : ℕ) → Stuck ts n → Stuck ts m → n ≡ m
one_place ts n m (Stuck.at_token b t a cut viable stop at) (Stuck.at_token c u d cut' viable' stop' at') = go (cuts b a c d t u (sym cut ∙ cut'))
  where
    go : Cuts b t c u → n ≡ m
    go (inl same) = at ∙ ap (λ (x : Seen). x.at) same.1 ∙ sym at'
    go (inr (inl more)) = absurd (stop (viable_front b more.0 t c more.1 viable'))
    go (inr (inr more)) = absurd (stop' (viable_front c more.0 u b more.1 viable))
one_place ts n m (Stuck.at_token b t a cut viable stop at) (Stuck.at_end whole at') = absurd (stop (viable_front b a t ts cut whole))
one_place ts n m (Stuck.at_end whole at) (Stuck.at_token b t a cut viable stop at') = absurd (stop (viable_front b a t ts cut whole))
one_place ts n m (Stuck.at_end whole at) (Stuck.at_end whole' at') = at ∙ sym at'

-- ---- one answer

passes_within : (ts : Tokens) (n : ℕ) → PassesAt ts n → NestsWithin ts → ⊥
passes_within ts n h all = omega (arith, h.passes, all (h.before ++ (h.token ∷ [])) h.after (h.cut ∙ one_behind h.before h.after h.token))

passes_once : (ts : Tokens) (n m : ℕ) → PassesAt ts n → PassesAt ts m → n ≡ m
passes_once ts n m h g = go (cuts h.before h.after g.before g.after h.token g.token (sym h.cut ∙ g.cut))
  where
    go : Cuts h.before h.token g.before g.token → n ≡ m
    go (inl same) = h.place ∙ ap (λ (x : Seen). x.at) same.1 ∙ sym g.place
    go (inr (inl more)) = absurd (omega (arith, h.passes, g.within (h.before ++ (h.token ∷ [])) more.0 (more.1 ∙ one_behind h.before more.0 h.token)))
    go (inr (inr more)) = absurd (omega (arith, g.passes, h.within (g.before ++ (g.token ∷ [])) more.0 (more.1 ∙ one_behind g.before more.0 g.token)))

pub one_answer : (ts : Tokens) (r q : Result Stmt ParseError) → ParsedAs ts r → ParsedAs ts q → Says r → Says q → r ≡ q
one_answer ts (Ok s) (Ok t) a b says says' = ap Ok (one_statement ts s t a.1 b.1)
one_answer ts (Ok s) (Err (Syntax n)) a b says says' = absurd (b.1 s a.1)
one_answer ts (Ok s) (Err (TooDeep n)) a b says says' = absurd (passes_within ts n b a.0)
one_answer ts (Ok s) (Err Memory) a b says says' = absurd says'
one_answer ts (Err (Syntax n)) (Ok t) a b says says' = absurd (a.1 t b.1)
one_answer ts (Err (Syntax n)) (Err (Syntax m)) a b says says' = ap (λ x. Err (Syntax x)) (one_place ts n m a.2 b.2)
one_answer ts (Err (Syntax n)) (Err (TooDeep m)) a b says says' = absurd (passes_within ts m b a.0)
one_answer ts (Err (Syntax n)) (Err Memory) a b says says' = absurd says'
one_answer ts (Err (TooDeep n)) (Ok t) a b says says' = absurd (passes_within ts n a b.0)
one_answer ts (Err (TooDeep n)) (Err (Syntax m)) a b says says' = absurd (passes_within ts n a b.0)
one_answer ts (Err (TooDeep n)) (Err (TooDeep m)) a b says says' = ap (λ x. Err (TooDeep x)) (passes_once ts n m a b)
one_answer ts (Err (TooDeep n)) (Err Memory) a b says says' = absurd says'
one_answer ts (Err Memory) q a b says says' = absurd says
