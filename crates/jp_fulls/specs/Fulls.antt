-- A Full join of two sides, which are the items of a scene: the right side at place 0 and the left one at place 1, since the
-- right side's rows hide those of the left one where both have a relation.
use Rattle.std.specs.Prelude.{◌≡◌, ℕ, Bool, true, false, List, [], ◌++◌, All, map, length, Option, Some, None}
use Rattle.jp_base.specs.Sets.{Has}
use Rattle.jp_query.specs.declared.Expr.{Expr}
use Rattle.jp_query.specs.declared.JoinKind.{JoinKind}
use Rattle.jp_query.specs.declared.JoinKind.TheVariants as join
use Rattle.jp_query.specs.Meaning.{Env, without}
use Rattle.jp_query.specs.Outermost.{outermost}
use Rattle.jp_query.specs.Typing.{IsBoolean}
use Rattle.jp_frame.specs.Maps.{Map}
use Rattle.jp_frame.specs.Methods.{rows_of_item}
use Rattle.jp_framed.specs.Environments.{source_at}
use Rattle.jp_joins.specs.Meant.{Meant, plain_list}
use Rattle.jp_lists.specs.Seen.{IsEvaluated}
use Rattle.jp_items.specs.Scenes.{IsListed, rows_known, rows_listed}
use Rattle.jp_items.specs.Sights.{sight_env, sources_in}
use Rattle.jp_items.specs.declared.scene.Scene.{Scene}

-- the sublinks of an expression are known
abbrev pub HasListedSublinks : List ℕ → Expr → Type 0
HasListedSublinks numbers e = All (IsListed numbers) (outermost e)

-- The ON list can be tested at each map of the sides: its members can be evaluated there, with the rows that the blocks of
-- their sublinks list, and are boolean, and their sublinks are known.
pub record IsFullScene (scene : Scene) (on : List Expr) : Type 0 where
  pub evaluated : (m : Map) → All (IsEvaluated (rows_listed scene m) (sight_env scene.sight m)) on
  pub booleans : All IsBoolean on
  pub sublinks : All (HasListedSublinks scene.sublinks.now) on

-- ---- the tuples

abbrev pub place_if : Bool → ℕ → Option ℕ
place_if true row = Some row
place_if false row = None

abbrev pub side_maps : Scene → ℕ → List Map
side_maps scene side = rows_of_item 2 side 0 (length (source_at (sources_in scene.sight) side))

abbrev pub full_step : Scene → JoinKind → List Expr → Meant
full_step scene kind on = record { kind = kind; environment = sight_env scene.sight; sublink_rows = rows_known scene; key = None; on = on; filters = [] }

-- each left row with its matches in right order, or alone
unfoldable pub matched_maps : Scene → List Expr → List Map
matched_maps scene on = plain_list (full_step scene join.Left on) (side_maps scene 1) (side_maps scene 0)

-- the right rows without a match
unfoldable pub alone_maps : Scene → List Expr → List Map
alone_maps scene on = plain_list (full_step scene join.Anti on) (side_maps scene 0) (side_maps scene 1)

-- ---- the rows

-- At a right row without a match the relations of the left side have no rows, even those that the right side has too.
abbrev pub full_envs : ℕ → (Map → Env) → List Map → List Map → List Env
full_envs left_rels env matched alone = map env matched ++ map (without left_rels) (map env alone)

-- the relations that are looked at and aren't the items' own have no rows around
abbrev pub HasNoRowsBeside : ℕ → ℕ → Env → Type 0
HasNoRowsBeside own rels outer = (rel : ℕ) → Has rels rel → ¬ Has own rel → outer rel ≡ None

-- an environment is the one around it but for some relations
abbrev pub IsAround : Env → ℕ → Env → Type 0
IsAround around rels env = (rel : ℕ) → ¬ Has rels rel → env rel ≡ around rel
