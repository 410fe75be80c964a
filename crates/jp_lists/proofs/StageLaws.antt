-- What holds of the expressions of a problem holds of the clauses of its stages and of the keys of its steps.
use Rattle.std.proofs.Common.{ℕ, suc, Bool, true, false, ◌&&◌, List, [], ◌∷◌, ◌++◌, map, filter, Option, Some, None}
use Rattle.std.specs.Prelude.{◌==◌, if◌then◌else◌, nat_lt}
use Rattle.std.specs.List.{flat_map}
use Rattle.jp_query.specs.declared.Expr.{Expr}
use Rattle.jp_problem.specs.declared.types.Class.{Class}
use Rattle.jp_problem.specs.declared.types.Problem.{Problem}
use Rattle.jp_problem.specs.declared.types.Special.{Special}
use Rattle.jp_problem.specs.declared.types.Stage.{Stage}
use Rattle.jp_problem.specs.declared.types.Step.{Step}
use Rattle.jp_problem.specs.declared.types.Step.TheVariants as step
use Rattle.jp_problem.specs.Equalities.{Sides, sides_of, equals, has_sublink}
use Rattle.jp_problem.specs.Keys.{is_over, key_of_sides, key_in, or_key, first_key, on_of, key_list, key_of}
use Rattle.jp_problem.specs.Made.{exprs_of, item_exprs, join_exprs, constant_exprs, member_expr, class_exprs}
use Rattle.jp_problem.specs.Problems.{problem_rels, join_of}
use Rattle.jp_problem.specs.StepClauses.{Ranked, ranked_from, member_in, member_before, member_comes_up, head, equality, with_constant, link, linked, of_constant, of_class, is_open_class, stands_alone, expr_of, clauses_of_stage, step_stage}
use Rattle.jp_induction.proofs.EachPart.{Each, each_left, each_right, each_append, each_mapped, each_map}
use Rattle.jp_laws.proofs.TuplesFit.{each_filter}
use Rattle.jp_lists.specs.Steps.{filters_of}
use Rattle.jp_lists.proofs.Arounds.{each_flat_map}

-- ---- the equalities of a class, where a fact of two expressions gives one of their equality

module _ (Ok Made : Expr → Type 0) (up : (a b : Expr) → Ok a → Ok b → Made (equals a b)) where
  abbrev OkRanked : Ranked → Type 0
  OkRanked m = Ok m.expr

  ranked_ok : (rank : ℕ) (members : List (Expr × ℕ)) → Each Ok (map member_expr members) → Each OkRanked (ranked_from rank members)
  ranked_ok rank [] h = tt
  ranked_ok rank (m ∷ members) h = (h.0, ranked_ok (suc rank) members h.1)

  OkHead : Option Ranked → Type 0
  OkHead (Some m) = OkRanked m
  OkHead None = Unit {0}

  head_ok : (ms : List Ranked) → Each OkRanked ms → OkHead (head ms)
  unfolding OkHead
  head_ok [] h = tt
  head_ok (m ∷ ms) h = h.0

  either_order : (b : Bool) (x y : Expr) → Ok x → Ok y → Made (if b then equals x y else equals y x)
  either_order true x y p q = up x y p q
  either_order false x y p q = up y x q p

  equality_made : (m n : Ranked) → OkRanked m → OkRanked n → Made (equality m n)
  equality_made m n p q = either_order (nat_lt m.rank n.rank) m.expr n.expr p q

  link_made : (a b : Option Ranked) → OkHead a → OkHead b → Each Made (link a b)
  unfolding OkHead
  link_made (Some m) (Some n) p q = (equality_made m n p q, tt)
  link_made (Some m) None p q = tt
  link_made None b p q = tt

  equal_all : (m : Ranked) → OkRanked m → (ups : List Ranked) → Each OkRanked ups → Each Made (map (equality m) ups)
  equal_all m p [] h = tt
  equal_all m p (n ∷ ups) h = (equality_made m n p h.0, equal_all m p ups h.1)

  linked_made : (first : Option Ranked) (ups : List Ranked) → OkHead first → Each OkRanked ups → Each Made (linked first ups)
  unfolding OkHead
  linked_made (Some m) ups p h = equal_all m p ups h
  linked_made None [] p h = tt
  linked_made None (m ∷ ups) p h = equal_all m h.0 ups h.1

  constants_made : (c : Expr) → Ok c → (ms : List Ranked) → Each OkRanked ms → Each Made (map (with_constant c) ms)
  constants_made c p [] h = tt
  constants_made c p (m ∷ ms) h = (up m.expr c h.0 p, constants_made c p ms h.1)

  of_constant_made : (constant : Option Expr) (stage : Stage) (ms : List Ranked) → Each Ok (constant_exprs constant) → Each OkRanked ms → Each Made (of_constant constant stage ms)
  of_constant_made (Some c) stage ms p h = constants_made c p.0 (filter (member_comes_up stage) ms) (each_filter OkRanked (member_comes_up stage) ms h)
  of_constant_made None stage ms p h = each_append Made (link (head (filter (member_in stage.left) ms)) (head (filter (member_in stage.right) ms))) (linked (head (filter (member_before stage) ms)) (filter (member_comes_up stage) ms))
      (link_made (head (filter (member_in stage.left) ms)) (head (filter (member_in stage.right) ms)) (head_ok (filter (member_in stage.left) ms) (each_filter OkRanked (member_in stage.left) ms h)) (head_ok (filter (member_in stage.right) ms) (each_filter OkRanked (member_in stage.right) ms h)))
      (linked_made (head (filter (member_before stage) ms)) (filter (member_comes_up stage) ms) (head_ok (filter (member_before stage) ms) (each_filter OkRanked (member_before stage) ms h)) (each_filter OkRanked (member_comes_up stage) ms h))

  pub class_made : (stage : Stage) (class : Class) → Each Ok (class_exprs class) → Each Made (of_class stage class)
  class_made stage class h = of_constant_made class.constant stage (ranked_from 0 class.members) (each_left Ok (constant_exprs class.constant) (map member_expr class.members) h)
      (ranked_ok 0 class.members (each_right Ok (constant_exprs class.constant) (map member_expr class.members) h))

-- ---- the parts of a problem

module _ (Ok : Expr → Type 0) where
  pub flat_parts : {X : Type 0} (f : X → List Expr) (xs : List X) → Each Ok (flat_map f xs) → Each (λ x. Each Ok (f x)) xs
  flat_parts f [] h = tt
  flat_parts f (x ∷ xs) h = (each_left Ok (f x) (flat_map f xs) h, flat_parts f xs (each_right Ok (f x) (flat_map f xs) h))

  pub record OfParts (problem : Problem) : Type 0 where
    pub joins : Each (λ (s : Special). Each Ok (join_exprs s)) problem.joins
    pub clauses : Each Ok (map expr_of problem.clauses)
    pub classes : Each (λ (c : Class). Each Ok (class_exprs c)) problem.classes

  pub parts_of : (problem : Problem) → Each Ok (exprs_of problem) → OfParts problem
  parts_of problem all = record {
    joins = flat_parts join_exprs problem.joins (each_right Ok items joins (each_left Ok (items ++ joins) clauses (each_left Ok ((items ++ joins) ++ clauses) classes all)));
    clauses = each_right Ok (items ++ joins) clauses (each_left Ok ((items ++ joins) ++ clauses) classes all);
    classes = flat_parts class_exprs problem.classes (each_right Ok ((items ++ joins) ++ clauses) classes all);
  }
    where
      items : List Expr
      items = flat_map item_exprs problem.items

      joins : List Expr
      joins = flat_map join_exprs problem.joins

      clauses : List Expr
      clauses = map expr_of problem.clauses

      classes : List Expr
      classes = flat_map class_exprs problem.classes

-- ---- the clauses of a stage, and what a step tests

module _ (Made : Expr → Type 0) (problem : Problem) (joins : Each (λ (s : Special). Each Made (join_exprs s)) problem.joins) (clauses : Each Made (map expr_of problem.clauses)) (classes : (stage : Stage) → Each (λ (c : Class). Each Made (of_class stage c)) problem.classes) where
  pub stage_made : (stage : Stage) → Each Made (clauses_of_stage problem stage)
  stage_made stage = each_append Made (flat_map (of_class stage) (filter (is_open_class problem.joins stage.whole) problem.classes)) (map expr_of (filter (stands_alone problem.joins stage) problem.clauses))
      (each_flat_map (λ c. Each Made (of_class stage c)) Made (of_class stage) (λ c h. h) (filter (is_open_class problem.joins stage.whole) problem.classes) (each_filter (λ c. Each Made (of_class stage c)) (is_open_class problem.joins stage.whole) problem.classes (classes stage)))
      (each_map Made expr_of (filter (stands_alone problem.joins stage) problem.clauses) (each_filter (λ c. Made (expr_of c)) (stands_alone problem.joins stage) problem.clauses (each_mapped Made expr_of problem.clauses clauses)))

  on_if : (b : Bool) (s : Special) (rest : Option Special) → Each Made (join_exprs s) → Each Made (on_of rest) → Each Made (on_of (if b then Some s else rest))
  on_if true s rest p h = p
  on_if false s rest p h = h

  on_made : (some : List Special) (number : ℕ) → Each (λ s. Each Made (join_exprs s)) some → Each Made (on_of (join_of some number))
  on_made [] number h = tt
  on_made (s ∷ some) number h = on_if (s.no == number) s (join_of some number) h.0 (on_made some number h.1)

  pub list_made : (left right : ℕ) (kind : Step) → Each Made (key_list problem left right kind)
  list_made left right step.Inner = stage_made (step_stage left right)
  list_made left right (step.By number) = on_made problem.joins number joins

  pub filters_made : (left right : ℕ) (kind : Step) → Each Made (filters_of problem left right kind)
  filters_made left right step.Inner = tt
  filters_made left right (step.By number) = stage_made (step_stage left right)

-- ---- keys, where a fact of an equality gives one of its sides

abbrev pub IsPair : (Expr → Type 0) → Option Sides → Type 0
IsPair Ok (Some sides) = Ok sides.first × Ok sides.second
IsPair Ok None = Unit {0}

module _ (Made Ok : Expr → Type 0) (down : (e : Expr) → Made e → IsPair Ok (sides_of e)) where
  pair_if : (b : Bool) (x y : Option Sides) → IsPair Ok x → IsPair Ok y → IsPair Ok (if b then x else y)
  pair_if true x y p q = p
  pair_if false x y p q = q

  sides_ok : (rels : List ℕ) (left right : ℕ) (o : Option Sides) → IsPair Ok o → IsPair Ok (key_of_sides rels left right o)
  sides_ok rels left right None p = tt
  sides_ok rels left right (Some s) p = pair_if (is_over rels left s.first && is_over rels right s.second) (Some s) (if is_over rels left s.second && is_over rels right s.first then Some (record { first = s.second; second = s.first }) else None) p
      (pair_if (is_over rels left s.second && is_over rels right s.first) (Some (record { first = s.second; second = s.first })) None (p.1, p.0) tt)

  or_ok : (x y : Option Sides) → IsPair Ok x → IsPair Ok y → IsPair Ok (or_key x y)
  or_ok (Some s) y p q = p
  or_ok None y p q = q

  first_ok : (rels : List ℕ) (left right : ℕ) (es : List Expr) → Each Made es → IsPair Ok (first_key rels left right es)
  first_ok rels left right [] h = tt
  first_ok rels left right (e ∷ es) h = or_ok (key_in rels left right e) (first_key rels left right es)
      (pair_if (has_sublink e) None (key_of_sides rels left right (sides_of e)) tt (sides_ok rels left right (sides_of e) (down e h.0)))
      (first_ok rels left right es h.1)

  pub key_ok : (problem : Problem) (left right : ℕ) (kind : Step) → Each Made (key_list problem left right kind) → IsPair Ok (key_of problem left right kind)
  key_ok problem left right kind h = first_ok (problem_rels problem) left right (key_list problem left right kind) h
