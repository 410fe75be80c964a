-- Items in a row, linked by left joins.
use Rattle.std.specs.Prelude.{◌≡◌, ℕ, suc, ◌+◌, List, [], ◌∷◌}
use Rattle.jp_base.specs.Sets.{IsOnly}
use Rattle.jp_query.specs.declared.JoinKind.TheVariants.{Left}
use Rattle.jp_problem.specs.declared.types.Special.{Special}

-- the left join of the item before the one of its number, and that one
pub record IsChainJoin (number : ℕ) (s : Special) : Type 0 where
  pub no : s.no ≡ number
  pub kind : s.kind ≡ Left
  pub before : ℕ
  pub next : number ≡ before + 1
  pub left : IsOnly before s.min_left
  pub right : IsOnly number s.min_right
  pub on : s.on ≡ []

-- the joins behind the first so many items
abbrev pub IsChainFrom : ℕ → List Special → Type 0
IsChainFrom first [] = Unit {0}
IsChainFrom first (s ∷ joins) = IsChainJoin (suc first) s × IsChainFrom (suc first) joins
