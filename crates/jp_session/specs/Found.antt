-- What a list of blocks has of the parts that a block uses.
use Rattle.std.specs.Prelude.{◌≡◌, ℕ, true, List, [], ◌∷◌, ◌++◌, Some, None, slice_get}
use Rattle.jp_prepared.specs.Sources.{Source}
use Rattle.jp_session.specs.Turned.{turned}
use Rattle.jp_session.specs.declared.gathering.Entry.{Entry}
use Rattle.jp_session.specs.declared.sources.Part.{Part}
use Rattle.jp_session.specs.Parts.{parts_of}
use Rattle.jp_session.specs.Visits.{is_listed}

-- the part is that of the block at the place
pub record IsAt (entries : List Entry) (part : Part) (place : ℕ) : Type 0 where
  pub entry : Entry
  pub there : slice_get entries place ≡ Some entry
  pub is : entry.part ≡ part

-- each part is listed: those that are items at these places, one after another, and sublinks somewhere
pub data AreFound (entries : List Entry) : List Part → List ℕ → Type 0 where
  none : AreFound entries [] []
  item : {part : Part} {place : ℕ} {parts : List Part} {places : List ℕ} → part.sub ≡ None → IsAt entries part place → AreFound entries parts places → AreFound entries (part ∷ parts) (place ∷ places)
  sublink : {part : Part} {parts : List Part} {places : List ℕ} (number : ℕ) → part.sub ≡ Some number → is_listed entries number ≡ true → AreFound entries parts places → AreFound entries (part ∷ parts) places

-- each block stands behind all that it uses
pub data AreSettled : List Entry → Type 0 where
  none : AreSettled []
  more : {entries : List Entry} (entry : Entry) → AreSettled entries → AreFound entries (parts_of entry.part.query) entry.inner → AreSettled (entries ++ entry ∷ [])

-- ---- what the blocks are made of, by their numbers: the last one of the list is block 0

abbrev pub source_of : Entry → Source
source_of entry = record { query = entry.part.query; sub = entry.part.sub }

abbrev pub sources_of : List Entry → List Source
sources_of entries = turned source_of entries
