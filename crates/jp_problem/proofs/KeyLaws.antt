-- The key of a step is there where one of its list can be it.
use Rattle.std.proofs.Common.{◌≡◌, ◌∙◌, ap, sym, refl, ℕ, suc, ◌^◌, ◌<◌, ◌≤◌, Bool, true, false, not, cond, ◌&&◌, ◌||◌, List, [], ◌∷◌, ◌++◌, map, filter, is_some, Option, Some, None, arith}
use Rattle.std.specs.Prelude.{bit_or, if◌then◌else◌, nat_lt}
use Rattle.std.specs.List.{flat_map, list_any}
use Rattle.std.proofs.lemmas.Bool.{eqb-true}
use Rattle.std.proofs.lemmas.Nat.Bits.{bit_at-pow_same, bit_at_above}
use Rattle.jp_base.specs.Sets.{Has}
use Rattle.jp_base.proofs.MaskAlgebra.{in_left, in_right, left_within, right_within, both_within, has_none}
use Rattle.jp_query.specs.declared.CmpOp.{CmpOp}
use Rattle.jp_query.specs.declared.CmpOp.TheVariants as cmp
use Rattle.jp_query.specs.declared.Expr.{Expr, out-Expr}
use Rattle.jp_query.specs.declared.Expr.TheVariants as expr
use Rattle.jp_query.specs.declared.Expr.TheOpen.{Expr-F}
use Rattle.jp_query.specs.declared.Expr.TheViews.{roll-Expr, out-roll-Expr, roll-out-Expr}
use Rattle.jp_query.specs.Layers.{ExprLayer}
use Rattle.jp_query.specs.Refs.{only, refs_of}
use Rattle.jp_problem.specs.declared.types.Problem.{Problem}
use Rattle.jp_problem.specs.declared.types.Item.{Item}
use Rattle.jp_problem.specs.declared.types.Stage.{Stage}
use Rattle.jp_problem.specs.Blocks.{items_from}
use Rattle.jp_problem.specs.Sets.{is_within, is_empty, meets, set_if}
use Rattle.jp_problem.specs.Equalities.{Sides, sides_at, sides_of, equals, has_sublink}
use Rattle.jp_problem.specs.Problems.{rels_of_item}
use Rattle.jp_problem.specs.Keys.{is_over, as_key, key_of_sides, key_in, or_key, first_key}
use Rattle.jp_problem.specs.ClassWords.{equal_to, needs_come_up}
use Rattle.jp_problem.specs.KeyTests.{has_rel, are_key, is_key_at, is_key, is_open_key_class, is_key_clause, is_up_with, is_key_equality, has_number, lies_from}
use Rattle.jp_problem.specs.StepClauses.{Ranked, is_open_class, of_class, stands_alone, expr_of, equality, clauses_of_stage, with_constant, ranked_from, member_comes_up}
use Rattle.jp_problem.proofs.PushLaws.{constants}
use Rattle.jp_problem.proofs.SetTests.{same_test, is_within_says, not_empty_says}
use Rattle.jp_problem.proofs.SublinkLaws.{in-Compare, or_assoc}

-- ---- tests of lists

or_false : (b : Bool) → (b || false) ≡ b
or_false true = refl
or_false false = refl

module _ {X : Type 0} (p : X → Bool) where
  any_append : (xs ys : List X) → list_any p (xs ++ ys) ≡ (list_any p xs || list_any p ys)
  any_append [] ys = refl
  any_append (x ∷ xs) ys = ap (λ b. p x || b) (any_append xs ys) ∙ sym (or_assoc (p x) (list_any p xs) (list_any p ys))

  any_filter : (q : X → Bool) (xs : List X) → list_any p (filter q xs) ≡ list_any (λ x. q x && p x) xs
  any_filter q [] = refl
  any_filter q (x ∷ xs) = by (q x) (any_filter q xs)
    where
      by : (b : Bool) → list_any p (filter q xs) ≡ list_any (λ x. q x && p x) xs → list_any p (cond b (x ∷ filter q xs) (filter q xs)) ≡ ((b && p x) || list_any (λ x. q x && p x) xs)
      by true more = ap (λ b. p x || b) more
      by false more = more

module _ {X Y : Type 0} (p : Y → Bool) where
  pub any_map : (f : X → Y) (xs : List X) → list_any p (map f xs) ≡ list_any (λ x. p (f x)) xs
  any_map f [] = refl
  any_map f (x ∷ xs) = ap (λ b. p (f x) || b) (any_map f xs)

  any_flat : (f : X → List Y) (xs : List X) → list_any p (flat_map f xs) ≡ list_any (λ x. list_any p (f x)) xs
  any_flat f [] = refl
  any_flat f (x ∷ xs) = any_append p (f x) (flat_map f xs) ∙ ap (λ b. list_any p (f x) || b) (any_flat f xs)

any_same : {X : Type 0} (p q : X → Bool) → ((x : X) → p x ≡ q x) → (xs : List X) → list_any p xs ≡ list_any q xs
any_same p q same [] = refl
any_same p q same (x ∷ xs) = λ i. same x i || any_same p q same xs i

-- ---- the key is one of the list

module _ (rels : List ℕ) (left right : ℕ) where
  some_or : (a b : Option Sides) → is_some (or_key a b) ≡ (is_some a || is_some b)
  some_or (Some s) b = refl
  some_or None b = refl

  as_key_there : (s : Sides) → is_some (as_key rels left right s) ≡ ((is_over rels left s.first && is_over rels right s.second) || (is_over rels left s.second && is_over rels right s.first))
  as_key_there s = by (is_over rels left s.first && is_over rels right s.second) (is_over rels left s.second && is_over rels right s.first)
    where
      by : (b c : Bool) → is_some (if b then Some s else (if c then Some (record { first = s.second; second = s.first }) else None)) ≡ (b || c)
      by true c = refl
      by false true = refl
      by false false = refl

  unless_sublink : (b : Bool) (o : Option Sides) → is_some (if b then None else o) ≡ (not b && is_some o)
  unless_sublink true o = refl
  unless_sublink false o = refl

  and_false : (b : Bool) → (b && false) ≡ false
  and_false true = refl
  and_false false = refl

  sublink_at : (op : CmpOp) (a b : Expr) → has_sublink (roll-Expr (Expr-F.Compare op a b)) ≡ (has_sublink a || has_sublink b)
  sublink_at op a b = ap has_sublink (expr.rolls-Compare op a b) ∙ in-Compare op a b

  test_at : (x : ExprLayer) (e : Expr) → e ≡ roll-Expr x → (not (has_sublink e) && is_some (key_of_sides rels left right (sides_at x))) ≡ is_key_at rels left right x
  test_at (Expr-F.Compare cmp.Eq a b) e is = λ i. not ((ap has_sublink is ∙ sublink_at cmp.Eq a b) i) && as_key_there (record { first = a; second = b }) i
  test_at x e is = and_false (not (has_sublink e))

  pub key_there : (e : Expr) → is_some (key_in rels left right e) ≡ is_key rels left right e
  key_there e = unless_sublink (has_sublink e) (key_of_sides rels left right (sides_of e)) ∙ test_at (out-Expr e) e (sym (roll-out-Expr e))

  pub first_there : (list : List Expr) → is_some (first_key rels left right list) ≡ list_any (is_key rels left right) list
  first_there [] = refl
  first_there (e ∷ list) = some_or (key_in rels left right e) (first_key rels left right list) ∙ (λ i. key_there e i || first_there list i)

  pub equals_key : (a b : Expr) → is_key rels left right (equals a b) ≡ are_key rels left right a b
  equals_key a b = ap (is_key_at rels left right) (ap out-Expr (sym (expr.rolls-Compare cmp.Eq a b)) ∙ out-roll-Expr (Expr-F.Compare cmp.Eq a b))

  pub ranked_key : (m n : Ranked) → is_key_equality rels left right m n ≡ (if nat_lt m.rank n.rank then are_key rels left right m.expr n.expr else are_key rels left right n.expr m.expr)
  ranked_key m n = by (nat_lt m.rank n.rank)
    where
      by : (b : Bool) → is_key rels left right (if b then equals m.expr n.expr else equals n.expr m.expr) ≡ (if b then are_key rels left right m.expr n.expr else are_key rels left right n.expr m.expr)
      by true = equals_key m.expr n.expr
      by false = equals_key n.expr m.expr

  -- ---- step clauses

  pub of_stage : (problem : Problem) (stage : Stage) → list_any (is_key rels left right) (clauses_of_stage problem stage) ≡ (list_any (is_open_key_class rels left right problem.joins stage) problem.classes || list_any (is_key_clause rels left right problem.joins stage) problem.clauses)
  of_stage problem stage =
      any_append (is_key rels left right) (flat_map (of_class stage) (filter (is_open_class problem.joins stage.whole) problem.classes)) (map expr_of (filter (stands_alone problem.joins stage) problem.clauses))
      ∙ (λ i. (any_flat (is_key rels left right) (of_class stage) (filter (is_open_class problem.joins stage.whole) problem.classes) ∙ any_filter (λ c. list_any (is_key rels left right) (of_class stage c)) (is_open_class problem.joins stage.whole) problem.classes) i
      || (any_map (is_key rels left right) expr_of (filter (stands_alone problem.joins stage) problem.clauses) ∙ any_filter (λ c. is_key rels left right (expr_of c)) (stands_alone problem.joins stage) problem.clauses) i)

  pub with_constants : (stage : Stage) (constant : Expr) (ms : List (Expr × ℕ)) → list_any (is_up_with rels left right stage constant) ms ≡ list_any (is_key rels left right) (map (with_constant constant) (filter (member_comes_up stage) (ranked_from 0 ms)))
  with_constants stage constant ms =
      any_same (is_up_with rels left right stage constant) (λ m. needs_come_up stage m && is_key rels left right (equal_to constant m)) (λ m. ap (λ b. needs_come_up stage m && b) (sym (equals_key m.0 constant))) ms
      ∙ sym (any_filter (λ m. is_key rels left right (equal_to constant m)) (needs_come_up stage) ms)
      ∙ sym (any_map (is_key rels left right) (equal_to constant) (filter (needs_come_up stage) ms))
      ∙ ap (list_any (is_key rels left right)) (constants stage constant 0 ms)

  pub of_links : (xs ys : List Expr) → list_any (is_key rels left right) (xs ++ ys) ≡ (list_any (is_key rels left right) xs || list_any (is_key rels left right) ys)
  of_links = any_append (is_key rels left right)

  pub of_ups : (m : Ranked) (ups : List Ranked) → list_any (is_key rels left right) (map (equality m) ups) ≡ list_any (is_key_equality rels left right m) ups
  of_ups m ups = any_map (is_key rels left right) (equality m) ups

  pub one_link : (m n : Ranked) → list_any (is_key rels left right) (equality m n ∷ []) ≡ is_key_equality rels left right m n
  one_link m n = or_false (is_key rels left right (equality m n))

-- ---- sets of items

or_within : (a b c : ℕ) → is_within (bit_or a b) c ≡ (is_within a c && is_within b c)
or_within a b c = same_test (is_within (bit_or a b) c) (is_within a c && is_within b c)
    (λ h. let w = (is_within_says (bit_or a b) c).0 h in both (is_within a c) (is_within b c) ((is_within_says a c).1 (left_within a b c w)) ((is_within_says b c).1 (right_within a b c w)))
    (λ h. (is_within_says (bit_or a b) c).1 (both_within a b c ((is_within_says a c).0 (and_left (is_within a c) (is_within b c) h)) ((is_within_says b c).0 (and_right (is_within a c) (is_within b c) h))))
  where
    both : (p q : Bool) → p ≡ true → q ≡ true → (p && q) ≡ true
    both p q h k = λ i. h i && k i

    and_left : (p q : Bool) → (p && q) ≡ true → p ≡ true
    and_left true q h = refl
    and_left false q h = h

    and_right : (p q : Bool) → (p && q) ≡ true → q ≡ true
    and_right true q h = h
    and_right false q h = cc

none_within : (set : ℕ) → is_within 0 set ≡ true
none_within set = (is_within_says 0 set).1 (λ i h. absurd (has_none i h))

-- the items that have one of the relations lie in the set
pub lies_is : (rels : List ℕ) (set r i : ℕ) → is_within (items_from i rels r) set ≡ lies_from rels set r i
lies_is [] set r i = none_within set
lies_is (item ∷ rels) set r i = or_within (set_if (meets item r) (only i)) (items_from (suc i) rels r) set ∙ (λ k. at (meets item r) k && lies_is rels set r (suc i) k)
  where
    at : (b : Bool) → is_within (set_if b (only i)) set ≡ (not b || has_number set i)
    at true = refl
    at false = none_within set

or_not_empty : (a b : ℕ) → not (is_empty (bit_or a b)) ≡ (not (is_empty a) || not (is_empty b))
or_not_empty a b = by (is_empty a) refl (is_empty b) refl
  where
    some_of : (x y : ℕ) → ((i : ℕ) → Has x i → Has y i) → not (is_empty x) ≡ true → not (is_empty y) ≡ true
    some_of x y sub h = let s = (not_empty_says x).0 h in (not_empty_says y).1 (s.0, sub s.0 s.1)

    by : (p : Bool) → is_empty a ≡ p → (q : Bool) → is_empty b ≡ q → not (is_empty (bit_or a b)) ≡ (not p || not q)
    by false e q f = some_of a (bit_or a b) (in_left a b) (ap not e)
    by true e false f = some_of b (bit_or a b) (in_right a b) (ap not f)
    by true e true f =
        let za : a ≡ 0 = eqb-true a 0 e in
        let zb : b ≡ 0 = eqb-true b 0 f in
        (λ i. not (is_empty (bit_or (za i) (zb i))))

some_of_rels : (rels : List ℕ) (r i : ℕ) → not (is_empty (items_from i rels r)) ≡ list_any (λ item. meets item r) rels
some_of_rels [] r i = refl
some_of_rels (item ∷ rels) r i = or_not_empty (set_if (meets item r) (only i)) (items_from (suc i) rels r) ∙ (λ k. at (meets item r) k || some_of_rels rels r (suc i) k)
  where
    at : (b : Bool) → not (is_empty (set_if b (only i))) ≡ b
    at true = (not_empty_says (only i)).1 (i, bit_at-pow_same i)
    at false = refl

pub beyond : (set i : ℕ) → set < 2 ^ 64 → 64 ≤ i → false ≡ has_number set i
beyond set i low high = by (has_number set i) refl
  where
    by : (b : Bool) → has_number set i ≡ b → false ≡ has_number set i
    by false h = sym h
    by true h = absurd (let has = (is_within_says (only i) set).0 h i (bit_at-pow_same i) in omega (arith, has, bit_at_above set 64 i low high))

pub some_is : (items : List Item) (r : ℕ) → not (is_empty (items_from 0 (map rels_of_item items) r)) ≡ list_any (has_rel r) items
some_is items r = some_of_rels (map rels_of_item items) r 0 ∙ any_map (λ rels. meets rels r) rels_of_item items

-- ---- tests one after the other

pub or_first : (a b whole : Bool) → whole ≡ (a || b) → a ≡ true → a ≡ whole
or_first a b whole h t = t ∙ sym (h ∙ ap (λ c. c || b) t)

pub or_second : (a b whole : Bool) → whole ≡ (a || b) → a ≡ false → b ≡ whole
or_second a b whole h f = sym (h ∙ ap (λ c. c || b) f)

and_first : (a b whole : Bool) → whole ≡ (a && b) → a ≡ false → a ≡ whole
and_first a b whole h f = f ∙ sym (h ∙ ap (λ c. c && b) f)

and_second : (a b whole : Bool) → whole ≡ (a && b) → a ≡ true → b ≡ whole
and_second a b whole h t = sym (h ∙ ap (λ c. c && b) t)

over_is : (items : List Item) (set r : ℕ) (e : Expr) → r ≡ refs_of e → is_over (map rels_of_item items) set e ≡ (list_any (has_rel r) items && lies_from (map rels_of_item items) set r 0)
over_is items set r e is = ap (λ s. not (is_empty (items_from 0 (map rels_of_item items) s)) && is_within (items_from 0 (map rels_of_item items) s) set) (sym is) ∙ (λ k. some_is items r k && lies_is (map rels_of_item items) set r 0 k)

pub over_if_some : (items : List Item) (set r : ℕ) (e : Expr) → r ≡ refs_of e → list_any (has_rel r) items ≡ true → lies_from (map rels_of_item items) set r 0 ≡ is_over (map rels_of_item items) set e
over_if_some items set r e is h = and_second (list_any (has_rel r) items) (lies_from (map rels_of_item items) set r 0) (is_over (map rels_of_item items) set e) (over_is items set r e is) h

pub over_if_none : (items : List Item) (set r : ℕ) (e : Expr) → r ≡ refs_of e → list_any (has_rel r) items ≡ false → list_any (has_rel r) items ≡ is_over (map rels_of_item items) set e
over_if_none items set r e is h = and_first (list_any (has_rel r) items) (lies_from (map rels_of_item items) set r 0) (is_over (map rels_of_item items) set e) (over_is items set r e is) h
