-- What the code cites: the first pass over the tokens, and the answer of the readers as the answer to the tokens.
use Rattle.std.proofs.Common.{◌≡◌, ℕ, ◌<◌, ◌≤◌, [], ◌∷◌, ◌++◌, fold, Ok, Err, ◌⊎◌, inl, inr, refl, sym, ap, ◌∙◌, subst, arith}
use Rattle.jp_ast.specs.declared.tree.Stmt.{Stmt}
use Rattle.jp_ast.specs.declared.errors.ParseError.TheVariants.{Syntax}
use Rattle.jp_ast.specs.Seen.{Seen}
use Rattle.jp_ast.specs.Nesting.{nested, nesting, max_nesting, NestsWithin, PassesAt}
use Rattle.jp_ast.specs.Answer.{ReadAs, ParsedAs}
use Rattle.jp_parse.specs.Readers.{parsed}
use Rattle.jp_parse.proofs.Exact.{Tokens}
use Rattle.jp_parse.proofs.Top.{parsed_read}

-- ---- the nesting, token by token

pub nesting_more : (ts : Tokens) (t : Seen) → nesting (ts ++ (t ∷ [])) ≡ nested (nesting ts) t
nesting_more ts t = go 0 ts
  where
    go : (n : ℕ) (us : Tokens) → fold nested n (us ++ (t ∷ [])) ≡ nested (fold nested n us) t
    go n [] = refl
    go n (u ∷ us) = go (nested n u) us

abbrev IsFront : Tokens → Tokens → Type 0
IsFront before ts = (rest : Tokens) × (ts ≡ before ++ rest)

front_behind : (h k : Seen) (ts before : Tokens) (t : Seen) → h ≡ k → (before ≡ ts ++ (t ∷ [])) ⊎ IsFront before ts → (k ∷ before ≡ (h ∷ ts) ++ (t ∷ [])) ⊎ IsFront (k ∷ before) (h ∷ ts)
front_behind h k ts before t e (inl whole) = inl (let f = whole in cc)
front_behind h k ts before t e (inr front) = inr (front.0, let f = front.1 in cc)

-- a front of a list with one token behind is all of it, or a front of the list
fronts : (ts before after : Tokens) (t : Seen) → ts ++ (t ∷ []) ≡ before ++ after → (before ≡ ts ++ (t ∷ [])) ⊎ IsFront before ts
fronts [] [] after t e = inr ([], refl)
fronts [] (b ∷ []) after t e = inl (let f : t ≡ b = cc in cc)
fronts [] (b ∷ c ∷ before) after t e = absurd (let f : [] ≡ c ∷ (before ++ after) = cc in cc)
fronts (h ∷ ts) [] after t e = inr (h ∷ ts, refl)
fronts (h ∷ ts) (k ∷ before) after t e = let f : ts ++ (t ∷ []) ≡ before ++ after = cc in let g : h ≡ k = cc in front_behind h k ts before t g (fronts ts before after t f)

pub nests_none : NestsWithin []
nests_none [] after e = omega arith
nests_none (t ∷ before) after e = absurd (let f : [] ≡ t ∷ (before ++ after) = e in cc)

pub nests_more : (ts : Tokens) (t : Seen) → NestsWithin ts → nested (nesting ts) t ≤ max_nesting → NestsWithin (ts ++ (t ∷ []))
nests_more ts t all low before after e = go (fronts ts before after t e)
  where
    go : (before ≡ ts ++ (t ∷ [])) ⊎ IsFront before ts → nesting before ≤ max_nesting
    go (inl whole) = subst (λ n. n ≤ max_nesting) (sym (ap nesting whole ∙ nesting_more ts t)) low
    go (inr front) = all before front.0 front.1

pub passes_at : (before : Tokens) (t : Seen) (after : Tokens) → NestsWithin before → max_nesting < nested (nesting before) t → PassesAt (before ++ (t ∷ after)) t.at
passes_at before t after all high = record { before = before; token = t; after = after; cut = refl; within = all; passes = subst (λ n. max_nesting < n) (sym (nesting_more before t)) high; place = refl }

-- ---- the answer

pub parsed_statement : (ts : Tokens) (s : Stmt) → NestsWithin ts → parsed ts ≡ Ok s → ParsedAs ts (Ok s)
parsed_statement ts s all e = (all, subst (ReadAs ts) e (parsed_read ts))

pub parsed_refusal : (ts : Tokens) (n : ℕ) → NestsWithin ts → parsed ts ≡ Err n → ParsedAs ts (Err (Syntax n))
parsed_refusal ts n all e = let h = subst (ReadAs ts) e (parsed_read ts) in (all, h.0, h.1)
