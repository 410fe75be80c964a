-- A line of texts, where there are some and where there are none.
use Rattle.std.proofs.Common.{◌≡◌, refl, ℕ, zero, suc, ◌<◌, List, [], ◌∷◌, ◌++◌, length, map, append_assoc, append-nil, arith}
use Rattle.std.specs.Prelude.{codes}
use Rattle.jp_explain.specs.Lines.{line_of}
use Rattle.jp_explain.specs.Lists.{separated}

pub line_none : {X : Type 0} (indent title mark : List ℕ) (f : X → List ℕ) (xs : List X) → length xs ≡ 0 → line_of indent title mark (map f xs) ≡ []
unfolding line_of
line_none indent title mark f [] none = refl
line_none indent title mark f (x ∷ xs) none = absurd (omega (arith, none))

pub line_some : {X : Type 0} (indent title mark : List ℕ) (f : X → List ℕ) (xs : List X) → ¬ (length xs ≡ 0) → line_of indent title mark (map f xs) ≡ indent ++ (title ++ (separated mark (map f xs) ++ codes "\n"))
unfolding line_of
line_some indent title mark f [] some = absurd (some refl)
line_some indent title mark f (x ∷ xs) some = refl

pub ruleset line_equations = (line_none, line_some, append_assoc, append-nil)
