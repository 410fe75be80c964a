-- What a block's tree says of its items, its special joins and its conditions, by one walk over its shape.
use Rattle.std.specs.Prelude.{ℕ, suc, ◌+◌, ◌&&◌, Bool, not, bit_or, List, [], ◌∷◌, ◌++◌, map, filter, length}
use Rattle.jp_query.specs.declared.JoinKind.{JoinKind}
use Rattle.jp_query.specs.declared.Output.{out-Output}
use Rattle.jp_query.specs.declared.Order.{out-Order}
use Rattle.jp_query.specs.declared.Query.{out-Query}
use Rattle.jp_query.specs.declared.Expr.{Expr}
use Rattle.jp_query.specs.declared.Order.{Order}
use Rattle.jp_query.specs.declared.JoinTree.{JoinTree}
use Rattle.jp_query.specs.declared.Output.{Output}
use Rattle.jp_query.specs.declared.Query.{Query}
use Rattle.jp_query.specs.Meaning.{has}
use Rattle.jp_query.specs.Parts.{all_in, gathered, node_placeholder, nothing_of_leaf, rels_of}
use Rattle.jp_query.specs.Refs.{only, union, below_64, refs_of}
use Rattle.jp_problem.specs.declared.types.Outline.{Outline}
use Rattle.jp_problem.specs.declared.types.Place.{Place}
use Rattle.jp_problem.specs.declared.types.Placed.{Placed}
use Rattle.jp_problem.specs.declared.types.Written.{Written}
use Rattle.jp_problem.specs.Sets.{is_within, is_empty, meets, set_if, span}
use Rattle.jp_problem.specs.Shapes.{Shape, nothing, item, beside, filtered, special, block_shape, items_in, count_joins, exprs_in}

-- ---- items and relations

-- The relations of an item. A number from 64 on, which no typed query has, is in no set.
abbrev pub known_rels : JoinTree → ℕ
known_rels tree = below_64 (rels_of tree)

-- of each item, in order
abbrev pub item_rels : Shape → List ℕ
item_rels shape = map known_rels (items_in shape)

-- the items, from `first` on, that have a relation of the set
abbrev pub items_from : ℕ → List ℕ → ℕ → ℕ
items_from first [] set = 0
items_from first (rels ∷ more) set = bit_or (set_if (meets rels set) (only first)) (items_from (suc first) more set)

abbrev pub items_with : List ℕ → ℕ → ℕ
items_with rels set = items_from 0 rels set

-- the relations of the items of a set
abbrev pub rels_from : ℕ → List ℕ → ℕ → ℕ
rels_from first [] set = 0
rels_from first (rels ∷ more) set = bit_or (set_if (has set first) rels) (rels_from (suc first) more set)

abbrev pub rels_at : List ℕ → ℕ → ℕ
rels_at rels set = rels_from 0 rels set

-- the items that an expression uses: those of its columns and of its placeholders' relations, sublinks included
abbrev pub used : List ℕ → Expr → ℕ
used rels e = items_with rels (refs_of e)

abbrev pub used_by : List ℕ → List Expr → ℕ
used_by rels conds = union (map (used rels) conds)

-- ---- special joins and conditions by their places

-- nothing stands before the whole tree
abbrev pub top : Place
top = record { items = 0; joins = 0; region = 0 }

-- behind another part, in the same region
abbrev pub behind : Shape → Place → Place
behind left at = record at { items = at.items + length (items_in left); joins = at.joins + count_joins left }

-- special joins are numbered from 1 in post-order
abbrev pub number_of : Shape → Shape → Place → ℕ
number_of left right at = suc (at.joins + (count_joins left + count_joins right))

-- the right side of a special join
abbrev pub in_right_side : Shape → Shape → Place → Place
in_right_side left right at = record (behind left at) { region = number_of left right at }

abbrev pub items_at : Place → Shape → ℕ
items_at at shape = span at.items (length (items_in shape))

-- A member of an ON list that uses items, but of the right side alone, is no member of the join's own list: it is a clause
-- of the join's region.
abbrev pub is_clause_of_side : List ℕ → ℕ → Expr → Bool
is_clause_of_side rels side e = not (is_empty (used rels e)) && is_within (used rels e) side

abbrev pub stays_in_on : List ℕ → ℕ → Expr → Bool
stays_in_on rels side e = not (is_clause_of_side rels side e)

abbrev pub placed_in : List ℕ → ℕ → Expr → Placed
placed_in rels region e = record { expr = e; region = region; uses = used rels e }

module _ (rels : List ℕ) where
  abbrev pub written : JoinKind → Shape → Shape → List Expr → Place → Written
  written kind left right on at =
      let side = items_at (behind left at) right in
      let own = filter (stays_in_on rels side) on in
      record {
        no = number_of left right at;
        kind = kind;
        syn_left = items_at at left;
        syn_right = side;
        region = at.region;
        on = own;
        uses = used_by rels own;
      }

  -- the special joins in post-order: those of the left side, of the right side, the join
  abbrev pub joins_at : Shape → Place → List Written
  joins_at nothing at = []
  joins_at (item tree) at = []
  joins_at (beside left right) at = joins_at left at ++ joins_at right (behind left at)
  joins_at (filtered shape conds) at = joins_at shape at
  joins_at (special kind left right on) at = joins_at left at ++ joins_at right (in_right_side left right at) ++ written kind left right on at ∷ []

  -- the clauses in post-order of their places, in list order
  abbrev pub clauses_at : Shape → Place → List Placed
  clauses_at nothing at = []
  clauses_at (item tree) at = []
  clauses_at (beside left right) at = clauses_at left at ++ clauses_at right (behind left at)
  clauses_at (filtered shape conds) at = clauses_at shape at ++ map (placed_in rels at.region) conds
  clauses_at (special kind left right on) at =
      clauses_at left at ++ clauses_at right (in_right_side left right at) ++ map (placed_in rels (number_of left right at)) (filter (is_clause_of_side rels (items_at (behind left at) right)) on)

-- ---- a block

-- the relation sets of an expression's placeholders, sublinks included
abbrev pub placeholders_in : Expr → List ℕ
placeholders_in = gathered ℕ node_placeholder nothing_of_leaf

abbrev pub output_expr : Output → Expr
output_expr output = (out-Output output).expr

abbrev pub order_expr : Order → Expr
order_expr order = (out-Order order).expr

-- the expressions of a query's outputs and ORDER BY items
abbrev pub listed_exprs : Query → List Expr
listed_exprs query = map output_expr (out-Query query).columns ++ map order_expr (out-Query query).order

-- The expressions of a block: those of its conditions and ON lists, and those listed. What stands inside an item, as the ON
-- list of a Full join, isn't among them.
abbrev pub block_exprs : Query → List Expr
block_exprs query = exprs_in (block_shape query) ++ listed_exprs query

-- from its shape and the further expressions in which its placeholders may stand
abbrev pub outline_in : Shape → List Expr → Outline
outline_in shape listed = record {
  rels = item_rels shape;
  joins = joins_at (item_rels shape) shape top;
  clauses = clauses_at (item_rels shape) shape top;
  placeholders = map (items_with (item_rels shape)) (all_in (map placeholders_in (exprs_in shape ++ listed)));
}

-- A block is a statement's select, the select of a sub-select or a sublink, or a side of a Full join, which is a query of
-- that tree without conditions, outputs and ORDER BY.
abbrev pub outline_of : Query → Outline
outline_of query = outline_in (block_shape query) (listed_exprs query)

abbrev pub all_items : Outline → ℕ
all_items block = span 0 (length block.rels)
