use Rattle.std.proofs.Common.{◌≡◌, [], drop, filter}
use Rattle.std.specs.List.{list_any, slice_index_or}
use Rattle.jp_table.specs.Loading.{has_null, is_primary}
use Rattle.jp_table.proofs.keys.lacks_primary.Given as goal

abbrev pub invariant-keys : goal.invariant-keys
invariant-keys l =
    list_any (has_null (slice_index_or l.table l.row [])) (filter is_primary (drop l.key-index l.keys)) ≡ list_any (has_null (slice_index_or l.table l.row [])) (filter is_primary l.keys)
