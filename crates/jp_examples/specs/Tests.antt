-- The conditions of typed and of fresh queries, as a record of which of them hold.
use Rattle.std.specs.Prelude.{◌≡◌, ◌&&◌, ℕ, Bool, true, false, not, nat_lt, nat_le, length, count_ones, [], ◌∷◌, map, Contains}
use Rattle.std.specs.List.{list_all, range_with_len}
use Rattle.jp_base.specs.declared.values.Ty.TheVariants as ty
use Rattle.jp_query.specs.Conditions.{judged_query, knows_columns, knows_placeholders, tells_relations_apart, judged_leaves, has_leaves}
use Rattle.jp_query.specs.Freshness.{Sublink, sublinks_in, each_pair, may_stand, occurrences_in}
use Rattle.jp_query.specs.declared.JoinTree.{JoinTree}
use Rattle.jp_query.specs.declared.Query.{Query}
use Rattle.jp_query.specs.Parts.{tables_in, base_leaves_in, leaves_in, placeholders_in_query}
use Rattle.jp_query.specs.Refs.{only, union}
use Rattle.jp_query.specs.Scopes.{Schema, Scope}
use Rattle.jp_query.specs.TreeExamples.{one, exists, a, b, select, inner_select}
use Rattle.jp_query.specs.Typing.{typed_query, is_listed}
use Rattle.jp_examples.specs.Trees as tree

pub record TypedTests : Type 0 where
  pub expressions : Bool
  pub columns : Bool
  pub placeholders : Bool
  pub distinct : Bool
  pub apart : Bool
  pub tables : Bool
  pub rooted : Bool
  pub few : Bool

abbrev pub all_typed : TypedTests
all_typed = record { expressions = true; columns = true; placeholders = true; distinct = true; apart = true; tables = true; rooted = true; few = true }

abbrev pub is_table : Schema → ℕ → Bool
is_table schema table = nat_lt table (length schema)

abbrev pub typed_tests : Schema → Scope → Query → TypedTests
typed_tests schema outer query = record {
  expressions = (typed_query query).is_typed;
  columns = (judged_query schema knows_columns query).passes outer;
  placeholders = (judged_query schema knows_placeholders query).passes outer;
  distinct = (judged_query schema tells_relations_apart query).passes outer;
  apart = (judged_leaves query).apart;
  tables = list_all (is_table schema) (tables_in query);
  rooted = has_leaves query;
  few = nat_le (count_ones (union (map only (base_leaves_in query)))) 16;
}

-- the tests of a fresh query, but the one that compares sublinks
pub record FreshTests : Type 0 where
  pub placeholders : Bool
  pub numbers : Bool
  pub leaves : Bool
  pub placed : Bool

abbrev pub all_fresh : FreshTests
all_fresh = record { placeholders = true; numbers = true; leaves = true; placed = true }

abbrev pub has_number : Sublink → Bool
has_number s = nat_le 1 s.number && nat_le s.number 15

abbrev pub is_free : ℕ → Bool
is_free n = not (nat_le 32 n && nat_le n 46)

abbrev pub fresh_tests : Query → FreshTests
fresh_tests query = record {
  placeholders = not (is_listed (placeholders_in_query query));
  numbers = list_all has_number (sublinks_in query);
  leaves = list_all is_free (leaves_in query);
  placed = each_pair may_stand (occurrences_in query);
}

-- two sublinks of one number are equal
abbrev pub AreCopies : Query → Type 0
AreCopies query = (a b : Sublink) → Contains (sublinks_in query) a → Contains (sublinks_in query) b → a.number ≡ b.number → a.node ≡ b.node

-- SELECT 1, 1 FROM b
abbrev pub two_columns : Query
two_columns = tree.select (tree.numeric one ∷ tree.numeric one ∷ []) b []

-- a FROM with as many base leaves
abbrev pub leaf : ℕ → JoinTree
leaf rel = tree.table rel 0

abbrev pub leaves : ℕ → JoinTree
leaves count = tree.from (map leaf (range_with_len 0 count)) []

-- SELECT EXISTS (SELECT 1 FROM b) FROM a ORDER BY EXISTS (SELECT 1 FROM b WHERE b.1 = a.0), both of number 1
abbrev pub two_sublinks : Query
two_sublinks = tree.query false (tree.output ty.Boolean (exists (select one b [])) ∷ []) a [] (tree.item (exists inner_select) false false ∷ [])
