-- The splits of a set into a left and a right part, and the best of them.
use Rattle.std.specs.Prelude.{◌≡◌, ℕ, ◌+◌, ◌<◌, ◌≤◌, nat_lt, ◌||◌, Bool, false, length, List, Option, Some, None, is_some, slice_get, if◌then◌else◌}
use Rattle.std.specs.List.{list_any}
use Rattle.jp_base.specs.Sets.{Within}
use Rattle.jp_problem.specs.declared.types.Problem.{Problem}
use Rattle.jp_problem.specs.declared.types.Clause.{Clause}
use Rattle.jp_problem.specs.declared.types.Method.{Method}
use Rattle.jp_problem.specs.declared.types.Method.TheVariants.{Nest, Hash, HashRight, Merge}
use Rattle.jp_problem.specs.declared.types.Step.{Step}
use Rattle.jp_problem.specs.Keys.{is_by_left, key_of}
use Rattle.jp_problem.specs.LegalTests.{step_of}
use Rattle.jp_problem.specs.Sets.{is_within, without}
use Rattle.jp_cost.specs.Costs.{cost}
use Rattle.jp_tree.specs.declared.pool.PlanNode.TheVariants.{Scan, Join}
use Rattle.jp_search.specs.declared.table.Choice.{Choice}
use Rattle.jp_search.specs.declared.table.Found.{Found}
use Rattle.jp_search.specs.Tables.{entry_at}
use Rattle.jp_cost.specs.TreeCosts.{scan_cost}
use Rattle.jp_search.specs.TreeOrder.{Then}

-- the scan of an item
abbrev pub scanned : Problem → ℕ → Choice
scanned problem item = record { node = Scan item; cost = scan_cost (slice_get problem.items item) }

-- of two methods the one whose step costs less, and the first where they cost the same
abbrev pub cheaper : ℕ → ℕ → Method → Method → Method
cheaper left right m n = if nat_lt (cost n left right) (cost m left right) then n else m

-- of the methods that need a key, HashRight at a step by a Left join alone
abbrev pub by_key : Bool → ℕ → ℕ → Method
by_key by_left left right = cheaper left right (if by_left then cheaper left right Hash HashRight else Hash) Merge

-- of the methods that the step of two sets allows, for parts of so many rows
unfoldable pub method_of : Problem → ℕ → ℕ → Step → ℕ → ℕ → Method
method_of problem left right kind rows others =
    if is_some (key_of problem left right kind) then cheaper rows others Nest (by_key (is_by_left problem kind) rows others) else Nest

-- there is a clause of the set, a class or a special join, without which no step of its parts has a key
abbrev pub lies_in : ℕ → Clause → Bool
lies_in set c = is_within c.req set

unfoldable pub may_have_key : Problem → ℕ → Bool
may_have_key problem set = nat_lt 0 (length problem.classes) || (nat_lt 0 (length problem.joins) || list_any (lies_in set) problem.clauses)

-- a step by this method and of this kind of the first trees of two sets
abbrev pub stepped : Method → Step → Found → Found → Choice
stepped method kind left right = record { node = Join method kind left.plan right.plan; cost = left.cost + right.cost + cost method left.rows right.rows }

-- it takes a legal step and a tree of each part
abbrev pub joined : Problem → ℕ → ℕ → Option Step → Option Found → Option Found → Option Choice
joined problem left right (Some kind) (Some f) (Some g) = Some (stepped (method_of problem left right kind f.rows g.rows) kind f g)
joined problem left right (Some kind) (Some f) None = None
joined problem left right (Some kind) None g = None
joined problem left right None f g = None

unfoldable pub split_of : Problem → List (Option Found) → ℕ → ℕ → Option Choice
split_of problem entries left right = joined problem left right (step_of problem.joins left right) (entry_at entries left) (entry_at entries right)

-- a part of the set that isn't all of it, above this one as a number
pub record IsPartAbove (set from part : ℕ) : Type 0 where
  pub within : Within part set
  pub above : from < part
  pub below : part < set

abbrev pub at_part : Problem → List (Option Found) → ℕ → ℕ → Option Choice
at_part problem entries set part = split_of problem entries part (without set part)

-- Of the splits with left parts above this one, it is the one of least cost, and of those of equal cost that of the least
-- left part as a number.
abbrev pub IsLeastAbove : Problem → List (Option Found) → ℕ → ℕ → Option Choice → Type 0
IsLeastAbove problem entries set from None = (part : ℕ) → IsPartAbove set from part → at_part problem entries set part ≡ None
IsLeastAbove problem entries set from (Some c) =
    (part : ℕ) × IsPartAbove set from part × (at_part problem entries set part ≡ Some c)
    × ((q : ℕ) (d : Choice) → IsPartAbove set from q → at_part problem entries set q ≡ Some d → Then c.cost d.cost (part ≤ q))

-- the one that costs less, and the second where they cost the same
abbrev pub lesser : Option Choice → Option Choice → Option Choice
lesser (Some a) (Some b) = if nat_lt a.cost b.cost then Some a else Some b
lesser (Some a) None = Some a
lesser None b = b

-- more than what is the least so far
abbrev pub is_dearer : ℕ → Option Choice → Bool
is_dearer cost (Some least) = nat_lt least.cost cost
is_dearer cost None = false
