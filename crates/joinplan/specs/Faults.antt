-- What is known of a refusal where no contents are told: the counts of faults show which file couldn't be read.
use Rattle.std.specs.Prelude.{◌≡◌, ℕ, ◌⊎◌, ◌≢◌, List, Option, Some, None, Ok, Any}
use Rattle.jp_io.specs.Files.{Rose}
use Rattle.jp_catalog.specs.declared.types.Catalog.{Catalog}
use Rattle.jp_catalog.specs.Reading.{catalogue_of}
use Rattle.jp_catalog.specs.declared.error.CatalogError.TheVariants as catalogue
use Rattle.jp_table.specs.declared.error.TableError.TheVariants as table
use Rattle.joinplan.specs.declared.refusal.Refusal.{Refusal}
use Rattle.joinplan.specs.declared.refusal.Refusal.TheVariants as refusal
use Rattle.joinplan.specs.Words.{Command, Run, Explain, Check}

-- counts of faults, one for each name
abbrev pub Counts : Type 0
Counts = List ℕ → ℕ

-- a refusal that reading may give: a fault is one of these names, and its count rose; want of memory is none of a text
abbrev pub IsExplained : (List ℕ → Type 0) → Counts → Counts → Refusal → Type 0
IsExplained MayBe before now refusal.Usage = ⊥
IsExplained MayBe before now refusal.WriteFault = ⊥
IsExplained MayBe before now (refusal.ReadFault name) = MayBe name × Rose (before name) (now name)
IsExplained MayBe before now (refusal.Catalogue error) = error ≢ catalogue.Memory
IsExplained MayBe before now (refusal.Data name error) = error ≢ table.Memory
IsExplained MayBe before now _ = Unit {0}

abbrev pub IsTableFile : Catalog → List ℕ → Type 0
IsTableFile catalog name = Any (λ table. table.1.file ≡ name) catalog.tables

-- the file of a table of some catalogue
abbrev pub IsSomeTableFile : List ℕ → Type 0
IsSomeTableFile name = (bytes : List ℕ) × (catalog : Catalog) × (catalogue_of bytes ≡ Ok catalog) × IsTableFile catalog name

-- a name that the words give, or the file of a table
abbrev pub MayBeRead : Option Command → List ℕ → Type 0
MayBeRead None name = ⊥
MayBeRead (Some (Run catalogue statement)) name = (name ≡ catalogue) ⊎ ((name ≡ statement) ⊎ IsSomeTableFile name)
MayBeRead (Some (Explain catalogue statement)) name = (name ≡ catalogue) ⊎ (name ≡ statement)
MayBeRead (Some (Check catalogue)) name = (name ≡ catalogue) ⊎ IsSomeTableFile name
