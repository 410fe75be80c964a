-- The problem of a block: its items as they are handed in, its special joins and its clauses with what each needs.
use Rattle.std.specs.Prelude.{◌≡◌, ℕ, zero, suc, ◌==◌, List, [], ◌∷◌, map, length, Option, Some, None, if◌then◌else◌}
use Rattle.jp_query.specs.declared.Query.{Query}
use Rattle.jp_problem.specs.declared.types.Problem.{Problem}
use Rattle.jp_problem.specs.declared.types.Item.{Item}
use Rattle.jp_problem.specs.declared.types.Special.{Special}
use Rattle.jp_problem.specs.declared.types.Clause.{Clause}
use Rattle.jp_problem.specs.Sets.{span}
use Rattle.jp_problem.specs.declared.types.Placed.{Placed}
use Rattle.jp_problem.specs.declared.types.Outline.{Outline}
use Rattle.jp_problem.specs.Blocks.{outline_of}
use Rattle.jp_problem.specs.MinimumSets.{clause_needs, specials_in}

abbrev pub rels_of_item : Item → ℕ
rels_of_item item = item.rels

abbrev pub problem_rels : Problem → List ℕ
problem_rels problem = map rels_of_item problem.items

-- the set of all items
abbrev pub items_of : Problem → ℕ
items_of problem = span 0 (length problem.items)

abbrev pub join_of : List Special → ℕ → Option Special
join_of [] number = None
join_of (s ∷ joins) number = if s.no == number then Some s else join_of joins number

abbrev pub side_of : Option Special → ℕ
side_of (Some s) = s.syn_right
side_of None = 0

-- the items of a region: all of them at the top, else those of the right side of its join
abbrev pub region_items : ℕ → List Special → ℕ → ℕ
region_items all joins zero = all
region_items all joins (suc r) = side_of (join_of joins (suc r))

abbrev pub clause_of : List ℕ → List Special → Placed → Clause
clause_of rels joins c = record {
  expr = c.expr;
  region = c.region;
  req = clause_needs joins (region_items (span 0 (length rels)) joins c.region) c.uses;
  class = None;
}

abbrev pub clauses_in : Outline → List Clause
clauses_in block = map (clause_of block.rels (specials_in block)) block.clauses

abbrev pub clauses_of : Query → List Clause
clauses_of query = clauses_in (outline_of query)

-- without classes
abbrev pub problem_in : List Item → Outline → Problem
problem_in items block = record { items = items; joins = specials_in block; clauses = clauses_in block; classes = [] }

abbrev pub problem_of : List Item → Query → Problem
problem_of items query = problem_in items (outline_of query)

-- the items have the relations of the block's
abbrev pub AreItemsOf : Query → List Item → Type 0
AreItemsOf query items = map rels_of_item items ≡ (outline_of query).rels
