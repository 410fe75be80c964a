-- The tuples of a block as it is written: each condition is tested at its own place.
use Rattle.std.specs.Prelude.{ℕ, List, [], ◌∷◌, map, filter, slice_index_or}
use Rattle.jp_query.specs.declared.JoinKind.TheVariants as join
use Rattle.jp_query.specs.Meaning.{Env, ValueIn, with_rows, holds, left_join, has_match, has_no_match, join_tuples}
use Rattle.jp_problem.specs.declared.types.Place.{Place}
use Rattle.jp_problem.specs.Blocks.{rels_at, behind, in_right_side, items_at}
use Rattle.jp_problem.specs.Shapes.{Shape, nothing, item, beside, filtered, special}
use Rattle.jp_frame.specs.Frames.{Kind, Left, Semi, Anti}
use Rattle.jp_framed.specs.Environments.{Setting, value_by, source_at}
use Rattle.jp_framed.specs.Framing.{kind_of}

-- the tuples of a special join; `rels` are the relations of the right ones
abbrev pub special_tuples : Kind → List ValueIn → ℕ → List Env → List Env → List Env
special_tuples Left on rels lefts rights = left_join on rels lefts rights
special_tuples Semi on rels lefts rights = filter (has_match on rels rights) lefts
special_tuples Anti on rels lefts rights = filter (has_no_match on rels rights) lefts

-- the relations of the item of a number
abbrev pub rels_of_number : List ℕ → ℕ → ℕ
rels_of_number rels i = slice_index_or rels i 0

-- Of a shape, by the relations of the block's items and the rows that the setting gives them.
abbrev pub written_tuples : List ℕ → Setting → Shape → Place → List Env
written_tuples rels setting nothing at = setting.outer ∷ []
written_tuples rels setting (item tree) at = map (with_rows (rels_of_number rels at.items) setting.outer) (source_at setting.sources at.items)
written_tuples rels setting (beside left right) at =
    join_tuples join.Inner [] 0 (written_tuples rels setting left at) (rels_at rels (items_at (behind left at) right)) (written_tuples rels setting right (behind left at))
written_tuples rels setting (filtered shape conds) at = filter (holds (map (value_by setting.sublinks) conds)) (written_tuples rels setting shape at)
written_tuples rels setting (special kind left right on) at =
    special_tuples (kind_of kind) (map (value_by setting.sublinks) on) (rels_at rels (items_at (behind left at) right)) (written_tuples rels setting left at) (written_tuples rels setting right (in_right_side left right at))
