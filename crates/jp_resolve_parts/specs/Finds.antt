-- How many finds there are: none, one or several.
use Rattle.std.specs.Prelude.{ℕ, List, [], ◌∷◌, Ok, Err}
use Rattle.jp_resolution.specs.declared.error.ResolveError.TheVariants.{UnknownColumn, Ambiguous}
use Rattle.jp_resolution.specs.Answers.{Answer}
use Rattle.jp_resolve_parts.specs.declared.lookups.Found.{Found}
use Rattle.jp_resolve_parts.specs.declared.lookups.Found.TheVariants as found

module _ {A : Type 0} where
  abbrev pub found_of : List A → Found A
  found_of [] = found.Nothing
  found_of (x ∷ []) = found.One x
  found_of (x ∷ y ∷ xs) = found.Several

  -- those of one list, then those of another
  abbrev pub together : Found A → Found A → Found A
  together found.Nothing y = y
  together (found.One x) found.Nothing = found.One x
  together (found.One x) y = found.Several
  together found.Several y = found.Several

  -- the first unless there is none
  abbrev pub or_else : Found A → Found A → Found A
  or_else found.Nothing y = y
  or_else x y = x

  abbrev pub the_find : ℕ → Found A → Answer A
  the_find at found.Nothing = Err (UnknownColumn at)
  the_find at (found.One x) = Ok x
  the_find at found.Several = Err (Ambiguous at)

abbrev pub found_map : {A B : Type 0} → (A → B) → Found A → Found B
found_map f found.Nothing = found.Nothing
found_map f (found.One x) = found.One (f x)
found_map f found.Several = found.Several
