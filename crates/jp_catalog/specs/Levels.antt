-- Which keys the format has.
use Rattle.std.specs.Prelude.{ℕ, Bool, ◌||◌, List, codes}
use Rattle.std.specs.Str.{bytes_eq}
use Rattle.jp_catalog.specs.declared.level.Level.{Level}
use Rattle.jp_catalog.specs.declared.level.Level.TheVariants.{Top, Table, Column}

abbrev pub has_key : Level → List ℕ → Bool
has_key Top key = bytes_eq key (codes "version") || bytes_eq key (codes "tables")
has_key Table key =
    bytes_eq key (codes "file") || bytes_eq key (codes "rows") || bytes_eq key (codes "columns") || bytes_eq key (codes "primary_key") || bytes_eq key (codes "unique")
has_key Column key = bytes_eq key (codes "name") || bytes_eq key (codes "type")
