-- How the blocks of a query are listed: first those that a block uses, then the block itself.
use Rattle.std.specs.Prelude.{◌≡◌, ℕ, ◌==◌, Bool, true, false, length, List, [], ◌∷◌, ◌++◌, Option, Some, None}
use Rattle.std.specs.List.{list_any}
use Rattle.jp_session.specs.declared.gathering.Entry.{Entry}
use Rattle.jp_session.specs.declared.sources.Part.{Part}
use Rattle.jp_session.specs.Parts.{parts_of}

abbrev pub is_number : ℕ → Option ℕ → Bool
is_number number (Some n) = n == number
is_number number None = false

abbrev pub is_of_sublink : ℕ → Entry → Bool
is_of_sublink number entry = is_number number entry.part.sub

-- a block of this sublink is listed
abbrev pub is_listed : List Entry → ℕ → Bool
is_listed entries number = list_any (is_of_sublink number) entries

-- one block behind those that are listed
abbrev pub with_block : List Entry → Part → List ℕ → List Entry
with_block entries part inner = entries ++ record { part = part; inner = inner } ∷ []

-- The parts are listed one after another, each with all that it uses before it, but a sublink of which there is a block
-- isn't listed again; of those that are items the places are kept.
pub data Visits : List Entry → List Part → List ℕ → List Entry → Type 0 where
  done : {a c : List Entry} → c ≡ a → Visits a [] [] c
  item : {a b c : List Entry} {part : Part} {parts : List Part} {inner places : List ℕ} → part.sub ≡ None → Visits a (parts_of part.query) inner b
      → Visits (with_block b part inner) parts places c → Visits a (part ∷ parts) (length b ∷ places) c
  sublink : {a b c : List Entry} {part : Part} {parts : List Part} {inner places : List ℕ} (number : ℕ) → part.sub ≡ Some number → is_listed a number ≡ false
      → Visits a (parts_of part.query) inner b → Visits (with_block b part inner) parts places c → Visits a (part ∷ parts) places c
  known : {a c : List Entry} {part : Part} {parts : List Part} {places : List ℕ} (number : ℕ) → part.sub ≡ Some number → is_listed a number ≡ true
      → Visits a parts places c → Visits a (part ∷ parts) places c

-- the block of a part is listed last, behind all that it uses
pub record IsPut (before : List Entry) (part : Part) (after : List Entry) : Type 0 where
  pub used : List Entry
  pub inner : List ℕ
  pub visits : Visits before (parts_of part.query) inner used
  pub is : after ≡ with_block used part inner

-- Where the rest is listed from here on, all was listed from there on.
abbrev pub Leads : List Entry → List ℕ → List Part → List Entry → List ℕ → List Part → Type 0
Leads before places parts now inner rest = (more : List ℕ) (after : List Entry) → Visits now rest more after → (found : List ℕ) × Visits before parts found after × (places ++ found ≡ inner ++ more)
