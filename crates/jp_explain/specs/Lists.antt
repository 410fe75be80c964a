-- Texts one behind another.
use Rattle.std.specs.Prelude.{ℕ, Bool, true, false, List, [], ◌∷◌, ◌++◌, if◌then◌else◌}

-- what stands before a text: nothing before the first one, else the mark
abbrev pub gap : Bool → List ℕ → List ℕ
gap first mark = if first then [] else mark

-- texts from one on, which is the first of all or isn't, with the mark between each two
abbrev pub separated_from : Bool → List ℕ → List (List ℕ) → List ℕ
separated_from first mark [] = []
separated_from first mark (text ∷ texts) = gap first mark ++ (text ++ separated_from false mark texts)

abbrev pub separated : List ℕ → List (List ℕ) → List ℕ
separated mark texts = separated_from true mark texts
