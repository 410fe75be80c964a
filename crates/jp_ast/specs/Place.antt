-- The place where a list of tokens stops being the beginning of a statement.
use Rattle.std.specs.Prelude.{◌≡◌, ℕ, List, [], ◌∷◌, ◌++◌}
use Rattle.jp_ast.specs.declared.tree.Stmt.{Stmt}
use Rattle.jp_ast.specs.Seen.{Seen}
use Rattle.jp_ast.specs.Grammar.{Derives}

-- some list that derives a statement begins with the tokens
abbrev pub Viable : List Seen → Type 0
Viable ts = (more : List Seen) × (s : Stmt) × Derives (ts ++ more) s

-- the place behind the last token
abbrev pub end_of : List Seen → ℕ
end_of [] = 0
end_of (t ∷ []) = t.end
end_of (t ∷ u ∷ ts) = end_of (u ∷ ts)

-- The place of the first token such that no list that derives a statement begins with the tokens up to and with it;
-- where there is no such token, the end of the last token.
pub data Stuck : List Seen → ℕ → Type 0 where
  at_token : {ts : List Seen} {n : ℕ} (before : List Seen) (t : Seen) (after : List Seen) → ts ≡ before ++ (t ∷ after) → Viable before → (Viable (before ++ (t ∷ [])) → ⊥) → n ≡ t.at → Stuck ts n
  at_end : {ts : List Seen} {n : ℕ} → Viable ts → n ≡ end_of ts → Stuck ts n
