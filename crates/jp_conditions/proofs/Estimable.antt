-- What estimates and the search ask of a problem that is made, but for what its items are.
use Rattle.std.proofs.Common.{◌≡◌, ◌∙◌, ap, sym, subst, refl, ℕ, ◌≤◌, ◌^◌, ◌⊎◌, inl, inr, true, List, ◌++◌, map, get_or, Option, Some, None, arith}
use Rattle.std.specs.Prelude.{All, is_some, sum_by}
use Rattle.std.specs.List.{flat_map}
use Rattle.std.proofs.lemmas.List.Elements.{All-contains, Contains-get_or}
use Rattle.jp_base.specs.declared.values.Ty.{Ty}
use Rattle.jp_base.specs.declared.values.Ty.TheVariants as ty
use Rattle.jp_facts.proofs.Members.{In, to_in, from_in, from_append, from_map, from_flat_map}
use Rattle.jp_query.specs.declared.Expr.{Expr}
use Rattle.jp_query.specs.declared.Query.{Query}
use Rattle.jp_query.specs.Typing.{IsTypedExpr, is_of, type_of}
use Rattle.jp_strict.proofs.SoundTests.{of_typed}
use Rattle.jp_problem.specs.declared.types.Class.{Class}
use Rattle.jp_problem.specs.declared.types.Clause.{Clause}
use Rattle.jp_problem.specs.declared.types.Item.{Item}
use Rattle.jp_problem.specs.declared.types.Problem.{Problem}
use Rattle.jp_problem.specs.declared.types.Special.{Special}
use Rattle.jp_problem.specs.Blocks.{outline_of}
use Rattle.jp_problem.specs.Classes.{derived}
use Rattle.jp_problem.specs.Conditions.{MeetsConditions}
use Rattle.jp_problem.specs.Made.{IsBlock, IsMade, item_exprs, join_exprs, constant_exprs, member_expr, class_exprs, exprs_of, HasStatedRows, HasDistinct, HasApartSets, IsEstimable, cost_of, IsSearchable}
use Rattle.jp_problem.specs.MinimumSets.{specials_in}
use Rattle.jp_problem.specs.Problems.{AreItemsOf, clause_of, problem_of}
use Rattle.jp_problem.specs.StepClauses.{expr_of}
use Rattle.jp_conditions.proofs.Covering.{typed_on}
use Rattle.jp_conditions.proofs.ItemCount.{some_items, few_items}
use Rattle.jp_conditions.proofs.LaidBlocks.{laid, low}
use Rattle.jp_conditions.proofs.Laying.{condition_at}
use Rattle.jp_conditions.proofs.MadeLaws.{made_conditions, made_spine}
use Rattle.jp_conditions.proofs.WithClasses.{all_good, good}

all_from : {X : Type 0} (P : X → Type 0) (xs : List X) → ((x : X) → In x xs → P x) → All P xs
all_from P xs each = λ k d low. each (get_or xs k d) (to_in (get_or xs k d) xs (Contains-get_or xs k d low))

at_type : (e : Expr) (t : Ty) → type_of e ≡ Some t → IsTypedExpr e
at_type e t is = ap is_some is

-- an expression of a class is its constant or a member
listed : (class : Class) (e : Expr) → In e (class_exprs class) → ((m : Expr × ℕ) × In m class.members × (m.0 ≡ e)) ⊎ (class.constant ≡ Some e)
listed class e h = elim (from_append e (constant_exprs class.constant) (map member_expr class.members) h) [
  | inl k ↦ inr (constant class.constant refl k)
  | inr k ↦ (let f = from_map member_expr e class.members k in inl (f.0, f.1, f.2))
]
  where
    constant : (o : Option Expr) → class.constant ≡ o → In e (constant_exprs o) → class.constant ≡ Some e
    constant (Some k) is (inl same) = is ∙ ap Some same
    constant (Some k) is (inr gone) = absurd gone
    constant None is gone = absurd gone

-- the parts of a problem that its expressions come from, but for its items
record TypedParts (problem : Problem) : Type 0 where
  joins : (s : Special) (e : Expr) → In s problem.joins → In e s.on → IsTypedExpr e
  clauses : (c : Clause) → In c problem.clauses → IsTypedExpr c.expr
  classes : (class : Class) (e : Expr) → In class problem.classes → In e (class_exprs class) → IsTypedExpr e

typed_exprs : (problem : Problem) → TypedParts problem → All IsTypedExpr (flat_map item_exprs problem.items) → All IsTypedExpr (exprs_of problem)
typed_exprs problem parts items = all_from IsTypedExpr (exprs_of problem) at
  where
    of_items : (e : Expr) → In e (flat_map item_exprs problem.items) → IsTypedExpr e
    of_items e h = All-contains IsTypedExpr (flat_map item_exprs problem.items) e items (from_in e (flat_map item_exprs problem.items) h)

    of_joins : (e : Expr) → In e (flat_map join_exprs problem.joins) → IsTypedExpr e
    of_joins e h = let f = from_flat_map join_exprs e problem.joins h in parts.joins f.0 e f.1 f.2

    of_clauses : (e : Expr) → In e (map expr_of problem.clauses) → IsTypedExpr e
    of_clauses e h = let f = from_map expr_of e problem.clauses h in subst IsTypedExpr f.2 (parts.clauses f.0 f.1)

    of_classes : (e : Expr) → In e (flat_map class_exprs problem.classes) → IsTypedExpr e
    of_classes e h = let f = from_flat_map class_exprs e problem.classes h in parts.classes f.0 e f.1 f.2

    at : (e : Expr) → In e (exprs_of problem) → IsTypedExpr e
    at e h = elim (from_append e (flat_map item_exprs problem.items ++ flat_map join_exprs problem.joins ++ map expr_of problem.clauses) (flat_map class_exprs problem.classes) h) [
      | inr k ↦ of_classes e k
      | inl k ↦ elim (from_append e (flat_map item_exprs problem.items ++ flat_map join_exprs problem.joins) (map expr_of problem.clauses) k) [
        | inr m ↦ of_clauses e m
        | inl m ↦ elim (from_append e (flat_map item_exprs problem.items) (flat_map join_exprs problem.joins) m) [ inl n ↦ of_items e n | inr n ↦ of_joins e n ]
      ]
    ]

module _ (query : Query) (items : List Item) (block : IsBlock query) (are : AreItemsOf query items) where
  boolean : (e : Expr) → is_of ty.Boolean (type_of e) ≡ true → IsTypedExpr e
  boolean e h = of_typed ty.Boolean (type_of e) h

  of_joins : (s : Special) (e : Expr) → In s (specials_in (outline_of query)) → In e s.on → IsTypedExpr e
  of_joins s e h m = boolean e (condition_at s.on e (typed_on (outline_of query) _ (laid query block) s h) m)

  plain_parts : TypedParts (problem_of items query)
  plain_parts = record {
    joins = of_joins;
    clauses = λ c h. let p = from_map (clause_of (outline_of query).rels (specials_in (outline_of query))) c (outline_of query).clauses h in subst (λ (x : Clause). IsTypedExpr x.expr) p.2 (boolean p.0.expr ((laid query block).typed_clauses p.0 p.1));
    classes = λ class e h. absurd h;
  }

  derived_parts : TypedParts (derived (problem_of items query))
  derived_parts = record {
    joins = of_joins;
    clauses = λ c h. boolean c.expr (good items (outline_of query) are (laid query block) (low query block) c (from_in c (derived (problem_of items query)).clauses h)).typed;
    classes = λ class e h m. let t = (all_good items (outline_of query) are (laid query block) (low query block)).classes class e h (listed class e m) in at_type e t.0 t.1;
  }

made_parts : (problem : Problem) → IsMade problem → TypedParts problem
made_parts problem made = elim made.made [
  | inl e ↦ subst TypedParts (sym e) (plain_parts made.query problem.items made.block made.items)
  | inr e ↦ subst TypedParts (sym e) (derived_parts made.query problem.items made.block made.items)
]

apart_sets : (problem : Problem) → MeetsConditions problem → (s : Special) → In s problem.joins → HasApartSets s
apart_sets problem m s h =
    let k = from_in s problem.joins h in
    (m.left_some s k, λ met. let before = m.in_order s met.0 met.0 k met.1 met.2 in omega (arith, before))

pub made_estimable : (problem : Problem) → IsMade problem → All IsTypedExpr (flat_map item_exprs problem.items) → All HasStatedRows problem.items → All (HasDistinct (exprs_of problem)) problem.items → IsEstimable problem
made_estimable problem made typed rows distinct = record {
  typed = typed_exprs problem (made_parts problem made) typed;
  rows = rows;
  distinct = distinct;
  sets = all_from HasApartSets problem.joins (apart_sets problem (made_conditions problem made));
}

pub made_searchable : (problem : Problem) → IsMade problem → IsEstimable problem → sum_by cost_of problem.items ≤ 2 ^ 125 → IsSearchable problem
made_searchable problem made estimable costs =
    let spine = made_spine problem made in
    record {
      some = some_items made.query problem.items made.block made.items;
      few = few_items made.query problem.items made.block made.items;
      estimable = estimable;
      costs = costs;
      tree = spine.0;
      plan = spine.2;
    }
