-- From maps to environments: the rows of a block's items give its relations their rows.
use Rattle.std.specs.Prelude.{◌≡◌, ℕ, suc, List, [], ◌∷◌, Option, Some, None, slice_get, slice_index_or}
use Rattle.jp_base.specs.Sets.{Has}
use Rattle.jp_frame.specs.Maps.{Map, at}
use Rattle.jp_query.specs.declared.Expr.{Expr}
use Rattle.jp_query.specs.Meaning.{Row, Env, ValueIn, no_outer_rows, with_rows, value_of, value_given}

-- What gives sublinks their rows: the tables that their queries read, or lists that are given by number.
pub data Sublinks : Type 0 where
  in_place : (ℕ → List Row) → Sublinks
  given : (ℕ → List Row) → Sublinks

abbrev pub value_by : Sublinks → Expr → ValueIn
value_by (Sublinks.in_place tables) = value_of tables
value_by (Sublinks.given rows) = value_given rows

-- What a block is run on.
pub record Setting : Type 0 where
  -- For each item a list of its rows. A row is an environment, of which the item's relations alone are looked at: a row of
  -- a table or of a sub-select gives its one relation a row, a tuple of a Full join may leave some without.
  pub sources : List (List Env)
  pub sublinks : Sublinks
  -- the rows of the relations around the block
  pub outer : Env

-- the rows of an item; past the end of the list there are none
abbrev pub source_at : List (List Env) → ℕ → List Env
source_at sources i = slice_index_or sources i []

-- what a place of a map stands for: the row of this number, or no row of any relation
abbrev pub row_at : List Env → Option ℕ → Env
row_at source (Some r) = slice_index_or source r no_outer_rows
row_at source None = no_outer_rows

-- The relations of each item, from `first` on, get their rows from the item's place; all others keep the outer ones.
abbrev pub env_from : ℕ → List ℕ → List (List Env) → Env → Map → Env
env_from first [] sources outer m = outer
env_from first (rels ∷ more) sources outer m = with_rows rels (env_from (suc first) more sources outer m) (row_at (source_at sources first) (at m first))

-- the environment of a map, by the relations of the items
abbrev pub env_of : List ℕ → Setting → Map → Env
env_of rels setting m = env_from 0 rels setting.sources setting.outer m

-- a map has rows of the set's items alone
abbrev pub LiesOn : ℕ → Map → Type 0
LiesOn set m = (i : ℕ) → ¬ Has set i → at m i ≡ None

-- around the block no relation of its items has a row
abbrev pub HasNoOwnRows : List ℕ → Env → Type 0
HasNoOwnRows rels outer = (i set rel : ℕ) → slice_get rels i ≡ Some set → Has set rel → outer rel ≡ None
