-- Whether a step has a key, by tests.
use Rattle.std.specs.Prelude.{ℕ, suc, ◌&&◌, ◌||◌, Bool, true, false, not, List, [], ◌∷◌}
use Rattle.std.specs.List.{list_any}
use Rattle.jp_query.specs.declared.CmpOp.TheVariants as cmp
use Rattle.jp_query.specs.declared.Expr.{Expr, out-Expr}
use Rattle.jp_query.specs.declared.Expr.TheOpen.{Expr-F}
use Rattle.jp_query.specs.Layers.{ExprLayer}
use Rattle.jp_query.specs.Refs.{only}
use Rattle.jp_problem.specs.declared.types.Item.{Item}
use Rattle.jp_problem.specs.declared.types.Special.{Special}
use Rattle.jp_problem.specs.declared.types.Clause.{Clause}
use Rattle.jp_problem.specs.declared.types.Class.{Class}
use Rattle.jp_problem.specs.declared.types.Stage.{Stage}
use Rattle.jp_problem.specs.Equalities.{has_sublink}
use Rattle.jp_problem.specs.ClassWords.{needs_come_up}
use Rattle.jp_problem.specs.Sets.{is_within, meets}
use Rattle.jp_problem.specs.Keys.{is_over}
use Rattle.jp_problem.specs.StepClauses.{Ranked, is_open_class, of_class, stands_alone, expr_of, equality}

module _ (rels : List ℕ) (left right : ℕ) where
  -- the equality of two expressions can be a step's key
  abbrev pub are_key : Expr → Expr → Bool
  are_key a b = not (has_sublink a || has_sublink b) && ((is_over rels left a && is_over rels right b) || (is_over rels left b && is_over rels right a))

  -- an expression can
  abbrev pub is_key_at : ExprLayer → Bool
  is_key_at (Expr-F.Compare cmp.Eq a b) = are_key a b
  is_key_at _ = false

  abbrev pub is_key : Expr → Bool
  is_key e = is_key_at (out-Expr e)

  abbrev pub is_key_class : Stage → Class → Bool
  is_key_class stage class = list_any is_key (of_class stage class)

  abbrev pub is_open_key_class : List Special → Stage → Class → Bool
  is_open_key_class joins stage class = is_open_class joins stage.whole class && is_key_class stage class

  abbrev pub is_key_clause : List Special → Stage → Clause → Bool
  is_key_clause joins stage clause = stands_alone joins stage clause && is_key (expr_of clause)

  abbrev pub is_up_with : Stage → Expr → Expr × ℕ → Bool
  is_up_with stage constant member = needs_come_up stage member && are_key member.0 constant

  abbrev pub is_key_equality : Ranked → Ranked → Bool
  is_key_equality m n = is_key (equality m n)

abbrev pub has_number : ℕ → ℕ → Bool
has_number set i = is_within (only i) set

-- each item, the first being number i, that has one of the relations lies in the set
abbrev pub lies_from : List ℕ → ℕ → ℕ → ℕ → Bool
lies_from [] set rels i = true
lies_from (item ∷ items) set rels i = (not (meets item rels) || has_number set i) && lies_from items set rels (suc i)

-- the item has one of the relations
abbrev pub has_rel : ℕ → Item → Bool
has_rel rels item = meets item.rels rels
