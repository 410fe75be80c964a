-- The least sets of items that a special join needs to its left and to its right, and the least set that a clause needs.
-- Where PostgreSQL computes `min_lefthand` and `min_righthand` (make_outerjoininfo in initsplan.c) these rules have the same
-- purpose; they are this product's own.
use Rattle.std.specs.Prelude.{ℕ, suc, ◌==◌, ◌&&◌, ◌||◌, Bool, true, false, not, bit_and, bit_or, List, [], ◌∷◌, ◌++◌, map, filter, fold, if◌then◌else◌}
use Rattle.jp_query.specs.declared.JoinKind.{JoinKind}
use Rattle.jp_query.specs.declared.JoinKind.TheVariants as join
use Rattle.jp_query.specs.declared.Query.{Query}
use Rattle.jp_query.specs.Meaning.{has}
use Rattle.jp_query.specs.Nullness.{rejects}
use Rattle.jp_query.specs.Nullness.Gone.{relations}
use Rattle.jp_query.specs.Refs.{union}
use Rattle.jp_problem.specs.declared.types.Special.{Special}
use Rattle.jp_problem.specs.Sets.{is_within, or_if_empty, set_if, without}
use Rattle.jp_problem.specs.declared.types.Rule.{Rule}
use Rattle.jp_problem.specs.Closure.{closure}
use Rattle.jp_problem.specs.declared.types.Written.{Written}
use Rattle.jp_problem.specs.declared.types.Placed.{Placed}
use Rattle.jp_problem.specs.declared.types.Outline.{Outline}
use Rattle.jp_problem.specs.Blocks.{rels_at, outline_of}

abbrev pub is_left : JoinKind → Bool
is_left join.Left = true
is_left _ = false

abbrev pub is_left_join : Special → Bool
is_left_join s = is_left s.kind

-- the items that a join needs
abbrev pub both_sets : Special → ℕ
both_sets s = bit_or s.min_left s.min_right

-- the join stands in a side, or in the whole tree, with these items
abbrev pub stands_in : ℕ → Special → Bool
stands_in side s = is_within (bit_or s.syn_left s.syn_right) side

abbrev pub joins_in : ℕ → List Special → List Special
joins_in side joins = filter (stands_in side) joins

-- a set that meets the right set of the join takes in both of its sets
abbrev pub taken_by_right : Special → Rule
taken_by_right s = record { met = s.min_right; taken = both_sets s }

abbrev pub taken_by_left : Special → Rule
taken_by_left s = record { met = s.min_left; taken = both_sets s }

-- ---- requirements

-- The least set that holds these items and is closed under the joins of a side, or of the whole tree.
abbrev pub taken_in_side : List Special → ℕ → List Rule
taken_in_side joins side = map taken_by_right (joins_in side joins)

abbrev pub requirement : List Special → ℕ → ℕ → ℕ
requirement joins side set = closure (taken_in_side joins side) set

-- of a clause: from the items that it uses, or from all of the side where it uses none
abbrev pub clause_needs : List Special → ℕ → ℕ → ℕ
clause_needs joins side uses = requirement joins side (or_if_empty uses side)

-- ---- the left set

-- The join t in the left side of s needs not come first: s is a Left join, and its ON list isn't true where the right set of
-- t is absent.
abbrev pub may_come_later : List ℕ → Written → Special → Bool
may_come_later rels s t = is_left s.kind && rejects (relations (rels_at rels t.min_right)) s.on

abbrev pub comes_first : List ℕ → Written → Special → Bool
comes_first rels s t = not (may_come_later rels s t)

-- the items of a side that the ON list uses, or all of the side where it uses none
abbrev pub used_in : Written → ℕ → ℕ
used_in s side = or_if_empty (bit_and s.uses side) side

abbrev pub is_needed_left : List ℕ → Written → Special → Bool
is_needed_left rels s t = stands_in s.syn_left t && comes_first rels s t

abbrev pub left_rules : List ℕ → List Special → Written → List Rule
left_rules rels joins s = map taken_by_right (filter (is_needed_left rels s) joins)

abbrev pub left_set : List ℕ → List Special → Written → ℕ
left_set rels joins s = closure (left_rules rels joins s) (used_in s s.syn_left)

-- ---- the right set

-- The items that a Left join below s makes absent.
abbrev pub is_below : Written → Special → Bool
is_below s t = stands_in s.syn_left t || stands_in s.syn_right t

abbrev pub right_of : Special → ℕ
right_of s = s.min_right

abbrev pub is_left_below : Written → Special → Bool
is_left_below s t = is_left_join t && is_below s t

abbrev pub nulled_below : List Special → Written → ℕ
nulled_below joins s = union (map right_of (filter (is_left_below s) joins))

-- An anchor of a Left join u in the right side of s: an item that no Left join below s makes absent, and whose absence the ON
-- list of u rejects. u can't be true without it.
abbrev pub is_anchor : ℕ → Special → ℕ → ℕ → Bool
is_anchor nulled u i rels = not (has nulled i) && rejects (relations rels) u.on

abbrev pub any_anchor_from : ℕ → List ℕ → ℕ → Special → Bool
any_anchor_from first [] nulled u = false
any_anchor_from first (rels ∷ more) nulled u = is_anchor nulled u first rels || any_anchor_from (suc first) more nulled u

abbrev pub has_anchor : List ℕ → ℕ → Special → Bool
has_anchor rels nulled u = any_anchor_from 0 rels nulled u

-- a Semi or Anti join whose region is s
abbrev pub filters_side : Written → Special → Bool
filters_side s v = v.region == s.no && not (is_left_join v)

abbrev pub is_in_region : ℕ → Placed → Bool
is_in_region region c = c.region == region

abbrev pub needs_in : List Special → ℕ → Placed → ℕ
needs_in joins side c = clause_needs joins side c.uses

-- the placeholder's items, where all of them lie in the side
abbrev pub kept_in : ℕ → ℕ → ℕ
kept_in side items = set_if (is_within items side) items

-- ---- what the right set of a Left join holds from the start

-- the sets of the Semi and Anti joins of its region
abbrev pub filtering_sets : List Special → Written → ℕ
filtering_sets joins s = union (map both_sets (filter (filters_side s) joins))

-- what the clauses of its region need
abbrev pub region_needs : List Placed → List Special → Written → ℕ
region_needs clauses joins s = union (map (needs_in joins s.syn_right) (filter (is_in_region s.no) clauses))

-- the items of the placeholders whose items lie in its right side
abbrev pub kept_placeholders : List ℕ → Written → ℕ
kept_placeholders placeholders s = union (map (kept_in s.syn_right) placeholders)

-- The items that its ON list uses, those that no Left join below makes absent, its region's joins and clauses, and
-- placeholders.
abbrev pub right_seed : Outline → List Special → Written → ℕ
right_seed block joins s =
    union (used_in s s.syn_right ∷ without s.syn_right (nulled_below joins s) ∷ filtering_sets joins s ∷ region_needs block.clauses joins s ∷ kept_placeholders block.placeholders s ∷ [])

-- Left joins in the right side come along where the set holds an item that they make absent, and, if they have no anchor,
-- where it holds an item of their left set.
abbrev pub has_no_anchor : List ℕ → ℕ → Special → Bool
has_no_anchor rels nulled u = not (has_anchor rels nulled u)

abbrev pub is_left_inside : Written → Special → Bool
is_left_inside s u = is_left_join u && stands_in s.syn_right u

abbrev pub is_unanchored : List ℕ → ℕ → Written → Special → Bool
is_unanchored rels nulled s u = is_left_inside s u && has_no_anchor rels nulled u

abbrev pub right_rules : List ℕ → List Special → Written → List Rule
right_rules rels joins s =
    map taken_by_right (filter (is_left_inside s) joins) ++ map taken_by_left (filter (is_unanchored rels (nulled_below joins s) s) joins)

abbrev pub right_set : Outline → List Special → Written → ℕ
right_set block joins s = if is_left s.kind then closure (right_rules block.rels joins s) (right_seed block joins s) else s.syn_right

-- ---- the special joins of a block

-- a join with its sets, from those of the joins before it, among which are all joins below it
abbrev pub with_sets : Outline → List Special → Written → Special
with_sets block joins s =
    let needed = left_set block.rels joins s in
    record {
      no = s.no;
      kind = s.kind;
      min_left = needed;
      min_right = right_set block joins s;
      syn_left = s.syn_left;
      syn_right = s.syn_right;
      lhs_strict = rejects (relations (rels_at block.rels needed)) s.on;
      region = s.region;
      on = s.on;
    }

abbrev pub one_more : Outline → List Special → Written → List Special
one_more block joins s = joins ++ with_sets block joins s ∷ []

-- by ascending number
abbrev pub specials_in : Outline → List Special
specials_in block = fold (one_more block) [] block.joins

abbrev pub specials_of : Query → List Special
specials_of query = specials_in (outline_of query)
