-- The printed names of relations and of their columns.
use Rattle.std.specs.Prelude.{ℕ, zero, suc, ◌==◌, Bool, false, List, [], ◌∷◌, ◌++◌, map, find, Option, Some, None, slice_get, codes, if◌then◌else◌}
use Rattle.std.specs.Int.{bit_at}
use Rattle.jp_tree.specs.declared.prepared.RelName.{RelName}
use Rattle.jp_tree.specs.Prepared.{is_name_of}
use Rattle.jp_explain.specs.Lists.{gap, separated}

abbrev pub Names : Type 0
Names = List RelName

abbrev pub name_in : Option RelName → List ℕ
name_in (Some name) = name.name
name_in None = []

abbrev pub or_nothing : Option (List ℕ) → List ℕ
or_nothing (Some text) = text
or_nothing None = []

abbrev pub column_in : Option RelName → ℕ → List ℕ
column_in (Some name) col = or_nothing (slice_get name.columns col)
column_in None col = []

-- what a whole statement names has a name, so these are never empty for want of one
abbrev pub relation_name : Names → ℕ → List ℕ
relation_name names rel = name_in (find (is_name_of rel) names)

abbrev pub column_name : Names → ℕ → ℕ → List ℕ
column_name names rel col = column_in (find (is_name_of rel) names) col

abbrev pub qualified : Names → ℕ → ℕ → List ℕ
qualified names rel col = relation_name names rel ++ (codes "." ++ column_name names rel col)

-- ---- the relations of a set

abbrev pub is_member : ℕ → ℕ → Bool
is_member set i = bit_at set i == 1

-- the members among the numbers from `first` on, so many, in ascending order
unfoldable pub members_from : ℕ → ℕ → ℕ → List ℕ
members_from set first zero = []
members_from set first (suc count) = if is_member set first then first ∷ members_from set (suc first) count else members_from set (suc first) count

-- what is written of one number, and whether the next name is still the first one
abbrev pub member_text : Names → ℕ → Bool → ℕ → List ℕ
member_text names set first i = if is_member set i then gap first (codes ", ") ++ relation_name names i else []

abbrev pub is_still_first : ℕ → Bool → ℕ → Bool
is_still_first set first i = if is_member set i then false else first

abbrev pub members : ℕ → List ℕ
members set = members_from set 0 64

abbrev pub relation_names : Names → ℕ → List ℕ
relation_names names rels = separated (codes ", ") (map (relation_name names) (members rels))
