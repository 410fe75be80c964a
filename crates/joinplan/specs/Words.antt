-- The words of a command.
use Rattle.std.specs.Prelude.{ℕ, List, [], ◌∷◌, Option, Some, None, codes, if◌then◌else◌}
use Rattle.std.specs.Str.{bytes_eq}

-- the forms that are built, with the names of files that they give
pub data Command : Type 0 where
  -- `run CATALOG STATEMENT`
  Run : List ℕ → List ℕ → Command
  -- `explain CATALOG STATEMENT`
  Explain : List ℕ → List ℕ → Command
  -- `check CATALOG`
  Check : List ℕ → Command

abbrev pub command_of : List (List ℕ) → Option Command
command_of (verb ∷ catalogue ∷ statement ∷ []) = if bytes_eq verb (codes "run") then Some (Run catalogue statement) else (if bytes_eq verb (codes "explain") then Some (Explain catalogue statement) else None)
command_of (verb ∷ catalogue ∷ []) = if bytes_eq verb (codes "check") then Some (Check catalogue) else None
command_of _ = None
