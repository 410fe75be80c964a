-- How entries and sublinks are numbered: in the order of their first tokens, in the whole statement. So a part has numbers
-- by what begins before it, in whatever order the parts are walked.
use Rattle.std.specs.Prelude.{ℕ, ◌+◌, List, [], ◌∷◌, Option, Some, None, Ok}
use Rattle.jp_resolution.specs.Layers.{Counts, Entry}
use Rattle.jp_resolution.specs.Answers.{Answer, ◌>>=◌}

abbrev pub none : Counts
none = record { entries = 0; sublinks = 0 }

abbrev pub one_entry : Counts
one_entry = record { entries = 1; sublinks = 0 }

abbrev pub one_sublink : Counts
one_sublink = record { entries = 0; sublinks = 1 }

abbrev pub both : Counts → Counts → Counts
both a b = record { entries = a.entries + b.entries; sublinks = a.sublinks + b.sublinks }

-- Entries are numbered from 0.
abbrev pub next_relation : Counts → ℕ
next_relation before = before.entries

-- Sublinks are numbered from 1.
abbrev pub next_sublink : Counts → ℕ
next_sublink before = before.sublinks + 1

-- the visible entries, those of the innermost level first
abbrev pub Levels : Type 0
Levels = List (List Entry)

-- A part of a statement: what stands in it, and what it gives where these levels are visible and so much begins before it.
pub record Part (A : Type 0) : Type 0 where
  pub counts : Counts
  pub over : Levels → Counts → Answer A

-- ---- parts made of parts: written, walked and numbered from left to right

-- without entries and sublinks
abbrev pub simply : {A : Type 0} → (Levels → Answer A) → Part A
simply answer = record { counts = none; over = λ levels before. answer levels }

module _ {A B : Type 0} where
  -- the operands come first, then what is made of them
  abbrev pub given : Part A → (A → Answer B) → Part B
  given part made = record { counts = part.counts; over = λ levels before. part.over levels before >>= made }

  abbrev pub both_over : Part A → Part B → Levels → Counts → Answer (A × B)
  both_over left right levels before = do
    x ← left.over levels before
    y ← right.over levels (both before left.counts)
    Ok (x, y)

  abbrev pub beside : Part A → Part B → Part (A × B)
  beside left right = record { counts = both left.counts right.counts; over = both_over left right }

module _ {A : Type 0} where
  abbrev pub counts_of_all : List (Part A) → Counts
  counts_of_all [] = none
  counts_of_all (part ∷ parts) = both part.counts (counts_of_all parts)

  -- a list stops at its first refusal
  abbrev pub all_over : List (Part A) → Levels → Counts → Answer (List A)
  all_over [] levels before = Ok []
  all_over (part ∷ parts) levels before = do
    x ← part.over levels before
    xs ← all_over parts levels (both before part.counts)
    Ok (x ∷ xs)

  abbrev pub listed : List (Part A) → Part (List A)
  listed parts = record { counts = counts_of_all parts; over = all_over parts }

  abbrev pub is_there : A → Answer (Option A)
  is_there x = Ok (Some x)

  -- a part that may be missing
  abbrev pub optional : Option (Part A) → Part (Option A)
  optional None = simply (λ levels. Ok None)
  optional (Some part) = given part is_there

  -- A sublink, with its number. It begins no later than what stands in it, its operand included, so its number is the
  -- lowest of them.
  abbrev pub sublinked_over : Part A → Levels → Counts → Answer (ℕ × A)
  sublinked_over part levels before = do
    x ← part.over levels (both before one_sublink)
    Ok (next_sublink before, x)

  abbrev pub sublinked : Part A → Part (ℕ × A)
  sublinked part = record { counts = both one_sublink part.counts; over = sublinked_over part }
