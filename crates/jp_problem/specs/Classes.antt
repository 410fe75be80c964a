-- Classes of expressions that the clauses of a region make equal, the equalities that follow, and constants carried into
-- outer joins. PostgreSQL's equivclass.c does the like; which clauses are taken, and their order, is this product's own.
use Rattle.std.specs.Prelude.{ℕ, suc, ◌==◌, ◌&&◌, ◌||◌, Bool, false, not, nat_le, min, max, bit_or, List, [], ◌∷◌, ◌++◌, map, filter, fold, length, reverse, Option, Some, None, if◌then◌else◌}
use Rattle.std.specs.List.{flat_map, list_any}
use Rattle.jp_query.specs.declared.Expr.{Expr}
use Rattle.jp_query.specs.Equality.{same_expr}
use Rattle.jp_problem.specs.declared.types.Problem.{Problem}
use Rattle.jp_problem.specs.declared.types.Special.{Special}
use Rattle.jp_problem.specs.declared.types.Clause.{Clause}
use Rattle.jp_problem.specs.declared.types.Class.{Class}
use Rattle.jp_problem.specs.Sets.{is_within, is_empty, span}
use Rattle.jp_problem.specs.Equalities.{Sides, sides_of, equals, has_sublink}
use Rattle.jp_problem.specs.Blocks.{used}
use Rattle.jp_problem.specs.MinimumSets.{requirement, clause_needs}
use Rattle.jp_problem.specs.Problems.{problem_rels, region_items}

-- ---- groups: expressions in order of first appearance, each with the place of the first of its class

pub record Grouped : Type 0 where
  pub expr : Expr
  pub group : ℕ

abbrev pub is_entry_of : Expr → Grouped → Bool
is_entry_of e g = same_expr g.expr e

abbrev pub with_expr : List Grouped → Expr → List Grouped
with_expr groups e = if list_any (is_entry_of e) groups then groups else groups ++ record { expr = e; group = length groups } ∷ []

abbrev pub group_of : List Grouped → Expr → ℕ
group_of [] e = 0
group_of (g ∷ groups) e = if same_expr g.expr e then g.group else group_of groups e

abbrev pub moved : ℕ → ℕ → Grouped → Grouped
moved from into g = if g.group == from then record g { group = into } else g

-- the classes of both sides become one
abbrev pub with_equality : List Grouped → Sides → List Grouped
with_equality groups sides =
    let both = with_expr (with_expr groups sides.first) sides.second in
    let a = group_of both sides.first in
    let b = group_of both sides.second in
    map (moved (max a b) (min a b)) both

abbrev pub is_constant : List ℕ → Expr → Bool
is_constant rels e = is_empty (used rels e)

abbrev pub is_in_group : ℕ → Grouped → Bool
is_in_group group g = g.group == group

abbrev pub is_constant_of : List ℕ → ℕ → Grouped → Bool
is_constant_of rels group g = is_in_group group g && is_constant rels g.expr

-- of the class that the equality makes
abbrev pub constants_with : List ℕ → List Grouped → Sides → ℕ
constants_with rels groups sides =
    let joined = with_equality groups sides in
    length (filter (is_constant_of rels (group_of joined sides.first)) joined)

-- An equality is absorbed where neither side holds a sublink, the sides differ, one uses an item, and no class comes to have
-- two expressions without items.
abbrev pub is_absorbed : List ℕ → List Grouped → Sides → Bool
is_absorbed rels groups sides =
    not (has_sublink sides.first) && (not (has_sublink sides.second) && (not (same_expr sides.first sides.second) && (not (is_constant rels sides.first && is_constant rels sides.second) && nat_le (constants_with rels groups sides) 1)))

abbrev pub absorb_sides : List ℕ → List Grouped → Option Sides → List Grouped
absorb_sides rels groups (Some sides) = if is_absorbed rels groups sides then with_equality groups sides else groups
absorb_sides rels groups None = groups

abbrev pub absorb : List ℕ → List Grouped → Clause → List Grouped
absorb rels groups c = absorb_sides rels groups (sides_of c.expr)

-- ---- the classes of a region

abbrev pub is_clause_in : ℕ → Clause → Bool
is_clause_in region c = c.region == region

abbrev pub groups_of : List ℕ → List Clause → ℕ → List Grouped
groups_of rels clauses region = fold (absorb rels) [] (filter (is_clause_in region) clauses)

-- the first of each class, by their places
abbrev pub firsts_from : ℕ → List Grouped → List ℕ
firsts_from place [] = []
firsts_from place (g ∷ groups) = if g.group == place then place ∷ firsts_from (suc place) groups else firsts_from (suc place) groups

abbrev pub grouped_expr : Grouped → Expr
grouped_expr g = g.expr

abbrev pub head_of : List Expr → Option Expr
head_of [] = None
head_of (e ∷ list) = Some e

abbrev pub is_member_of : List ℕ → ℕ → Grouped → Bool
is_member_of rels group g = is_in_group group g && not (is_constant rels g.expr)

abbrev pub member_of : List ℕ → List Special → ℕ → Grouped → Expr × ℕ
member_of rels joins side g = (g.expr, requirement joins side (used rels g.expr))

-- its expression without items is the class's constant, the others are its members
abbrev pub class_of : List ℕ → List Special → ℕ → ℕ → List Grouped → ℕ → Class
class_of rels joins region side groups group = record {
  region = region;
  constant = head_of (map grouped_expr (filter (is_constant_of rels group) groups));
  members = map (member_of rels joins side) (filter (is_member_of rels group) groups);
}

abbrev pub classes_of : List ℕ → List Special → List Clause → ℕ → ℕ → List Class
classes_of rels joins clauses region side =
    let groups = groups_of rels clauses region in
    map (class_of rels joins region side groups) (firsts_from 0 groups)

-- ---- the equalities of a class

abbrev pub new_clause : ℕ → ℕ → Expr → Clause
new_clause region needs e = record { expr = e; region = region; req = needs; class = None }

abbrev pub with_member : ℕ → Expr × ℕ → Expr × ℕ → Clause
with_member region m n = new_clause region (bit_or m.1 n.1) (equals m.0 n.0)

abbrev pub to_constant : ℕ → Option Expr → Expr × ℕ → List Clause
to_constant region (Some constant) m = new_clause region m.1 (equals m.0 constant) ∷ []
to_constant region None m = []

-- each member with the constant, and then with each later member
abbrev pub equalities_from : ℕ → Option Expr → List (Expr × ℕ) → List Clause
equalities_from region constant [] = []
equalities_from region constant (m ∷ members) =
    to_constant region constant m ++ map (with_member region m) members ++ equalities_from region constant members

-- one equality, in either orientation
abbrev pub same_sides : Sides → Sides → Bool
same_sides a b =
    (same_expr a.first b.first && same_expr a.second b.second) || (same_expr a.first b.second && same_expr a.second b.first)

abbrev pub same_equality : Option Sides → Option Sides → Bool
same_equality (Some a) (Some b) = same_sides a b
same_equality _ _ = false

abbrev pub is_same_clause : Clause → Clause → Bool
is_same_clause c d = c.region == d.region && same_equality (sides_of c.expr) (sides_of d.expr)

abbrev pub is_no_clause_yet : List Clause → Clause → Bool
is_no_clause_yet clauses c = not (list_any (is_same_clause c) clauses)

abbrev pub equalities_of : Class → List Clause
equalities_of class = equalities_from class.region class.constant class.members

abbrev pub derived_from : List Clause → List Class → List Clause
derived_from clauses classes = filter (is_no_clause_yet clauses) (flat_map equalities_of classes)

-- ---- carried constants

abbrev pub is_member : Expr → Expr × ℕ → Bool
is_member e m = same_expr m.0 e

-- the constant of the class with this member
abbrev pub constant_with : List Class → Expr → Option Expr
constant_with [] e = None
constant_with (class ∷ classes) e = if list_any (is_member e) class.members then class.constant else constant_with classes e

abbrev pub lies_in : List ℕ → ℕ → Expr → Bool
lies_in rels side e = not (is_constant rels e) && is_within (used rels e) side

abbrev pub carried_to : List ℕ → List Special → Special → Expr → Option Expr → List Clause
carried_to rels joins s right (Some constant) =
    new_clause s.no (clause_needs joins s.syn_right (used rels (equals right constant))) (equals right constant) ∷ []
carried_to rels joins s right None = []

-- a side over the left items of the join, which a class makes equal to a constant, and the other over its right items
abbrev pub carried_by : List ℕ → List Special → List Class → Special → Sides → List Clause
carried_by rels joins classes s sides =
    if lies_in rels s.syn_left sides.first && lies_in rels s.syn_right sides.second then carried_to rels joins s sides.second (constant_with classes sides.first) else []

abbrev pub turned : Sides → Sides
turned sides = record { first = sides.second; second = sides.first }

abbrev pub carried_sides : List ℕ → List Special → List Class → Special → Option Sides → List Clause
carried_sides rels joins classes s (Some sides) = carried_by rels joins classes s sides ++ carried_by rels joins classes s (turned sides)
carried_sides rels joins classes s None = []

abbrev pub carried_member : List ℕ → List Special → List Class → Special → Expr → List Clause
carried_member rels joins classes s e = carried_sides rels joins classes s (sides_of e)

abbrev pub carried_into : List ℕ → List Special → List Class → Special → List Clause
carried_into rels joins classes s = flat_map (carried_member rels joins classes s) s.on

abbrev pub is_join_in : ℕ → Special → Bool
is_join_in region s = s.region == region

abbrev pub carried_from : List ℕ → List Special → List Class → ℕ → List Clause
carried_from rels joins classes region = flat_map (carried_into rels joins classes) (filter (is_join_in region) joins)

-- ---- all regions: the top, and then the special joins by descending number, since constants are carried downwards

pub record Derived : Type 0 where
  pub clauses : List Clause
  pub classes : List Class

abbrev pub with_region : List ℕ → List Special → Derived → ℕ → Derived
with_region rels joins d region =
    let side = region_items (span 0 (length rels)) joins region in
    let classes = classes_of rels joins d.clauses region side in
    let clauses = d.clauses ++ derived_from d.clauses classes in
    record { clauses = clauses ++ carried_from rels joins classes region; classes = d.classes ++ classes }

abbrev pub join_number : Special → ℕ
join_number s = s.no

abbrev pub regions : List Special → List ℕ
regions joins = 0 ∷ reverse (map join_number joins)

-- ---- which class a clause is an equality of

abbrev pub is_that_constant : Option Expr → Expr → Bool
is_that_constant (Some constant) e = same_expr constant e
is_that_constant None e = false

abbrev pub is_listed_in : Class → Expr → Bool
is_listed_in class e = list_any (is_member e) class.members || is_that_constant class.constant e

abbrev pub holds_sides : Class → Option Sides → Bool
holds_sides class (Some sides) = not (same_expr sides.first sides.second) && (is_listed_in class sides.first && is_listed_in class sides.second)
holds_sides class None = false

abbrev pub is_equality_of : Clause → Class → Bool
is_equality_of c class = c.region == class.region && holds_sides class (sides_of c.expr)

abbrev pub class_place_from : ℕ → List Class → Clause → Option ℕ
class_place_from place [] c = None
class_place_from place (class ∷ classes) c = if is_equality_of c class then Some place else class_place_from (suc place) classes c

abbrev pub with_class : List Class → Clause → Clause
with_class classes c = record c { class = class_place_from 0 classes c }

-- The problem with its classes: its clauses, the equalities that follow from them, and the constants that are carried into
-- outer joins.
abbrev pub derived : Problem → Problem
derived problem =
    let all = fold (with_region (problem_rels problem) problem.joins) (record { clauses = problem.clauses; classes = [] }) (regions problem.joins) in
    record problem { clauses = map (with_class all.classes) all.clauses; classes = all.classes }
