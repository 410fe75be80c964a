-- In each case the tests of the walk are those of what is gone in that case.
use Rattle.std.proofs.Common.{◌≡◌, ◌∙◌, ap, ap₂, sym, subst, refl, ℕ, ◌<◌, ◌↔◌, inl, inr, Bool, true, false, ◌&&◌, ◌||◌, List, [], ◌∷◌, map, fold, arith}
use Rattle.std.specs.Prelude.{bit_or, bit_and, ◌==◌, if◌then◌else◌}
use Rattle.std.specs.Int.{bit_at}
use Rattle.std.specs.List.{list_any, list_all}
use Rattle.std.proofs.lemmas.Bool.{cases_eq, eq-eqb, ne_eqb, eqb-true, true≢false}
use Rattle.std.proofs.lemmas.Nat.Bits.{bit_at-pow_same, bit_at-pow_other}
use Rattle.jp_base.specs.Sets.{Has}
use Rattle.jp_base.specs.declared.values.Value.{Value}
use Rattle.jp_base.specs.declared.values.Value.TheVariants as value
use Rattle.jp_base.proofs.SetLemmas.{has_or, has_and, same_set}
use Rattle.jp_base.proofs.MaskAlgebra.{has_none}
use Rattle.jp_query.specs.declared.IsTest.{IsTest}
use Rattle.jp_query.specs.declared.IsTest.TheVariants as is
use Rattle.jp_query.specs.declared.Expr.{Expr}
use Rattle.jp_query.specs.declared.Expr.TheOpen.{Expr-F}
use Rattle.jp_query.specs.declared.Expr.TheFolds.{map-Expr}
use Rattle.jp_query.specs.Meaning.{has}
use Rattle.jp_query.specs.Nullness as nullness
use Rattle.jp_query.specs.Nullness.{Gone, surely, is_gone, are_gone, is_null, is_not_true, is_not_false, of_literal, of_test, each, expr_surely, surely_of, rejects, rejects_relation, nonnull_items}
use Rattle.jp_query.specs.Parts.{term_part}
use Rattle.jp_query.specs.Refs.{below_64, only, union}
use Rattle.jp_query.specs.Typing.{is_listed}
use Rattle.jp_induction.proofs.Rewriting.{fused_expr}
use Rattle.jp_strict.specs.declared.absence.Absence.{Absence}
use Rattle.jp_strict.specs.declared.absence.Absence.TheVariants as absence
use Rattle.jp_strict.specs.declared.absence.Surely.{Surely}
use Rattle.jp_strict.specs.declared.absence.Members.{Members}
use Rattle.jp_strict.specs.Cases.{gone_in, in_case, kept, all_cases, column_cases, leaves_alone, relation_cases, tests, null_in, literal_cases, test_cases, either, shared, no_members, with_member, members_of, null_term, cases_level, cases_of}
use Rattle.jp_strict.proofs.SharedSets.{in_one, has_only, in_kept, to_kept, leaves}
use Rattle.jp_strict.proofs.SoundLists.{nonnull_rejected, nonnull_low, rejected_nonnull}

-- ---- masks and tests

same_bool : (b c : Bool) → (b ≡ true → c ≡ true) → (c ≡ true → b ≡ true) → b ≡ c
same_bool true true f g = refl
same_bool true false f g = sym (f refl)
same_bool false true f g = g refl
same_bool false false f g = refl

has_to : (set i : ℕ) → has set i ≡ true → Has set i
has_to set i = eqb-true (bit_at set i) 1

to_has : (set i : ℕ) → Has set i → has set i ≡ true
to_has set i = eq-eqb (bit_at set i) 1

pub has_either : (a b i : ℕ) → has (bit_or a b) i ≡ (has a i || has b i)
has_either a b i = by (has a i) (has b i) refl refl
  where
    by : (x y : Bool) → has a i ≡ x → has b i ≡ y → has (bit_or a b) i ≡ (x || y)
    by true y p q = to_has (bit_or a b) i ((has_or a b i).1 (inl (has_to a i p)))
    by false true p q = to_has (bit_or a b) i ((has_or a b i).1 (inr (has_to b i q)))
    by false false p q = ne_eqb (bit_at (bit_or a b) i) 1 (λ h. elim ((has_or a b i).0 h) [ inl m ↦ true≢false (sym (to_has a i m) ∙ p) | inr m ↦ true≢false (sym (to_has b i m) ∙ q) ])

has_both : (a b i : ℕ) → has (bit_and a b) i ≡ (has a i && has b i)
has_both a b i = by (has a i) (has b i) refl refl
  where
    by : (x y : Bool) → has a i ≡ x → has b i ≡ y → has (bit_and a b) i ≡ (x && y)
    by true true p q = to_has (bit_and a b) i ((has_and a b i).1 (has_to a i p, has_to b i q))
    by true false p q = ne_eqb (bit_at (bit_and a b) i) 1 (λ h. true≢false (sym (to_has b i ((has_and a b i).0 h).1) ∙ q))
    by false y p q = ne_eqb (bit_at (bit_and a b) i) 1 (λ h. true≢false (sym (to_has a i ((has_and a b i).0 h).0) ∙ p))

has_nothing : (i : ℕ) → has 0 i ≡ false
has_nothing i = ne_eqb (bit_at 0 i) 1 (has_none i)

or_assoc : (x y z : Bool) → ((x || y) || z) ≡ (x || (y || z))
or_assoc true y z = refl
or_assoc false y z = refl

and_assoc : (x y z : Bool) → ((x && y) && z) ≡ (x && (y && z))
and_assoc true y z = refl
and_assoc false y z = refl

-- the tests of one case
abbrev pub at : ℕ → Surely → nullness.Surely
at i s = record { null = has s.null i; not_true = has s.not_true i; not_false = has s.not_false i }

same_tests : (m n o m' n' o' : Bool) → m ≡ m' → n ≡ n' → o ≡ o' → surely m n o ≡ surely m' n' o'
same_tests m n o m' n' o' p q r = ap (λ x. surely x n o) p ∙ ap (λ x. surely m' x o) q ∙ ap (λ x. surely m' n' x) r

module _ (i : ℕ) where
  at_tests : (m n o : ℕ) → at i (tests m n o) ≡ surely (has m i) (has n i) (has o i)
  at_tests m n o =
      ap (λ x. record { null = has m i; not_true = x; not_false = has (bit_or m o) i }) (has_either m n i)
      ∙ ap (λ x. record { null = has m i; not_true = has m i || has n i; not_false = x }) (has_either m o i)

  at_null : (m : ℕ) → at i (null_in m) ≡ surely (has m i) false false
  at_null m = at_tests m 0 0 ∙ same_tests (has m i) (has 0 i) (has 0 i) (has m i) false false refl (has_nothing i) (has_nothing i)

  -- ---- lists of members

  module _ (all : ℕ) (get : Surely → ℕ) (test : nullness.Surely → Bool) (reads : (s : Surely) → test (at i s) ≡ has (get s) i) where
    some_at : ((a b : Surely) → get (either a b) ≡ bit_or (get a) (get b)) → (start : Members) (ms : List Surely) → has (get (fold (with_member all) start ms).some) i ≡ (has (get start.some) i || list_any test (map (at i) ms))
    some_at splits start [] = by (has (get start.some) i)
      where
        by : (b : Bool) → b ≡ (b || false)
        by true = refl
        by false = refl
    some_at splits start (s ∷ ms) =
        some_at splits (with_member all start s) ms
        ∙ ap (λ n. has n i || list_any test (map (at i) ms)) (splits start.some s)
        ∙ ap (λ b. b || list_any test (map (at i) ms)) (has_either (get start.some) (get s) i)
        ∙ or_assoc (has (get start.some) i) (has (get s) i) (list_any test (map (at i) ms))
        ∙ ap (λ b. has (get start.some) i || (b || list_any test (map (at i) ms))) (sym (reads s))

    every_at : ((a b : Surely) → get (shared a b) ≡ bit_and (get a) (get b)) → (start : Members) (ms : List Surely) → has (get (fold (with_member all) start ms).every) i ≡ (has (get start.every) i && list_all test (map (at i) ms))
    every_at splits start [] = by (has (get start.every) i)
      where
        by : (b : Bool) → b ≡ (b && true)
        by true = refl
        by false = refl
    every_at splits start (s ∷ ms) =
        every_at splits (with_member all start s) ms
        ∙ ap (λ n. has n i && list_all test (map (at i) ms)) (splits start.every s)
        ∙ ap (λ b. b && list_all test (map (at i) ms)) (has_both (get start.every) (get s) i)
        ∙ and_assoc (has (get start.every) i) (has (get s) i) (list_all test (map (at i) ms))
        ∙ ap (λ b. has (get start.every) i && (b && list_all test (map (at i) ms))) (sym (reads s))

  module _ (all : ℕ) (case : Has all i) where
    whole : has all i ≡ true
    whole = to_has all i case

    listed_on : (start : Members) (ms : List Surely) → has start.listed i ≡ true → has (fold (with_member all) start ms).listed i ≡ true
    listed_on start [] h = h
    listed_on start (s ∷ ms) h = listed_on (with_member all start s) ms whole

    listed_at : (ms : List Surely) → has (members_of all ms).listed i ≡ is_listed (map (at i) ms)
    listed_at [] = has_nothing i
    listed_at (s ∷ ms) = listed_on (with_member all (no_members all) s) ms whole

    module _ (get : Surely → ℕ) (test : nullness.Surely → Bool) (reads : (s : Surely) → test (at i s) ≡ has (get s) i) where
      some_of : ((a b : Surely) → get (either a b) ≡ bit_or (get a) (get b)) → get (no_members all).some ≡ 0 → (ms : List Surely) → has (get (members_of all ms).some) i ≡ list_any test (map (at i) ms)
      some_of splits empty ms = some_at all get test reads splits (no_members all) ms ∙ ap (λ n. has n i || list_any test (map (at i) ms)) empty ∙ ap (λ b. b || list_any test (map (at i) ms)) (has_nothing i)

      every_of : ((a b : Surely) → get (shared a b) ≡ bit_and (get a) (get b)) → get (no_members all).every ≡ all → (ms : List Surely) → has (get (members_of all ms).every) i ≡ list_all test (map (at i) ms)
      every_of splits full ms = every_at all get test reads splits (no_members all) ms ∙ ap (λ n. has n i && list_all test (map (at i) ms)) full ∙ ap (λ b. b && list_all test (map (at i) ms)) whole

      each_of : ((a b : Surely) → get (shared a b) ≡ bit_and (get a) (get b)) → get (no_members all).every ≡ all → (ms : List Surely) → has (bit_and (members_of all ms).listed (get (members_of all ms).every)) i ≡ each test (map (at i) ms)
      each_of splits full ms = has_both (members_of all ms).listed (get (members_of all ms).every) i ∙ ap₂ (λ b c. b && c) (listed_at ms) (every_of splits full ms)

  null_terms : (start : ℕ) (terms : List (Bool × Surely)) → has (fold bit_or start (map null_term terms)) i ≡ (has start i || list_any is_null (map (at i) (map term_part terms)))
  null_terms start [] = by (has start i)
    where
      by : (b : Bool) → b ≡ (b || false)
      by true = refl
      by false = refl
  null_terms start (t ∷ terms) =
      null_terms (bit_or start (null_term t)) terms
      ∙ ap (λ b. b || list_any is_null (map (at i) (map term_part terms))) (has_either start (null_term t) i)
      ∙ or_assoc (has start i) (has (null_term t) i) (list_any is_null (map (at i) (map term_part terms)))

-- ---- what is gone in a case

module _ (a : Absence) (i : ℕ) (low : i < 64) (case : Has (all_cases a) i) where
  -- a test in the one case
  in_the_case : (b : Bool) → Has (below_64 (only 0)) i → has (in_case b) i ≡ b
  in_the_case true here = to_has (below_64 (only 0)) i here
  in_the_case false here = has_nothing i

  one_number : (rel : ℕ) → has (below_64 (only rel)) i ≡ has (only i) rel
  one_number rel = elim (cases_eq rel i) [
    | inl same ↦ to_has (below_64 (only rel)) i (subst (λ n. Has (below_64 (only n)) i) (sym same) (has_only i low)) ∙ sym (to_has (only i) rel (subst (λ n. Has (only i) n) (sym same) (bit_at-pow_same i)))
    | inr other ↦
        ne_eqb (bit_at (below_64 (only rel)) i) 1 (λ h. other (sym (in_one rel i h)))
        ∙ sym (ne_eqb (bit_at (only i) rel) 1 (λ h. absurd (omega (arith, bit_at-pow_other i rel other, h))))
  ]

  column_at : (x : Absence) → Has (all_cases x) i → (rel col : ℕ) → has (column_cases x rel col) i ≡ is_gone (gone_in x i) rel col
  column_at (absence.Relations set) here rel col = in_the_case (has set rel) here
  column_at (absence.Column r c) here rel col = in_the_case (r == rel && c == col) here
  column_at (absence.Each rels) here rel col = has_both rels (below_64 (only rel)) i ∙ ap (λ b. b && has (below_64 (only rel)) i) (to_has rels i here) ∙ one_number rel

  alone_at : (set rels : ℕ) → Has set i → (b : Bool) → (rels == 0) ≡ b → has (if b then set else kept set (leaves_alone rels)) i ≡ leaves_alone rels i
  alone_at set rels here true e = to_has set i here ∙ sym (leaves rels i (λ k p. absurd (has_none k (subst (λ n. Has n k) (eqb-true rels 0 e) p))))
  alone_at set rels here false e =
      same_bool (has (kept set (leaves_alone rels)) i) (leaves_alone rels i) (λ h. (in_kept set (leaves_alone rels) i (has_to (kept set (leaves_alone rels)) i h)).1) (λ t. to_has (kept set (leaves_alone rels)) i (to_kept set (leaves_alone rels) i low here t))

  relations_at : (x : Absence) → Has (all_cases x) i → (rels : ℕ) → has (relation_cases x rels) i ≡ are_gone (gone_in x i) rels
  relations_at (absence.Relations set) here rels = in_the_case (bit_and rels set == rels) here
  relations_at (absence.Column r c) here rels = has_nothing i
  relations_at (absence.Each set) here rels = alone_at set rels here (rels == 0) refl

  literal_at : (v : Value) → at i (literal_cases (all_cases a) v) ≡ of_literal v
  literal_at value.Null = at_null i (all_cases a) ∙ ap (λ b. surely b false false) (to_has (all_cases a) i case)
  literal_at (value.Bool true) = at_tests i 0 0 (all_cases a) ∙ same_tests (has 0 i) (has 0 i) (has (all_cases a) i) false false true (has_nothing i) (has_nothing i) (to_has (all_cases a) i case)
  literal_at (value.Bool false) = at_tests i 0 (all_cases a) 0 ∙ same_tests (has 0 i) (has (all_cases a) i) (has 0 i) false true false (has_nothing i) (to_has (all_cases a) i case) (has_nothing i)
  literal_at (value.Num n) = at_null i 0 ∙ ap (λ b. surely b false false) (has_nothing i)
  literal_at (value.Text t) = at_null i 0 ∙ ap (λ b. surely b false false) (has_nothing i)

  nowhere : at i (null_in 0) ≡ surely false false false
  nowhere = at_null i 0 ∙ ap (λ b. surely b false false) (has_nothing i)

  not_true_where : (n : ℕ) → at i (tests 0 n 0) ≡ surely false (has n i) false
  not_true_where n = at_tests i 0 n 0 ∙ same_tests (has 0 i) (has n i) (has 0 i) false (has n i) false (has_nothing i) refl (has_nothing i)

  test_at : (t : IsTest) (s : Surely) → at i (test_cases t s) ≡ of_test t (at i s)
  test_at is.NotNull s = not_true_where s.null
  test_at is.NotUnknown s = not_true_where s.null
  test_at is.True s = not_true_where s.not_true
  test_at is.False s = not_true_where s.not_false
  test_at is.Null s = nowhere
  test_at is.NotTrue s = nowhere
  test_at is.NotFalse s = nowhere
  test_at is.Unknown s = nowhere

  some_null : (ms : List Surely) → has (members_of (all_cases a) ms).some.null i ≡ list_any is_null (map (at i) ms)
  some_null = some_of i (all_cases a) case (λ s. s.null) is_null (λ s. refl) (λ x y. refl) refl

  level_at : (x : Expr-F Surely (Unit {0}) (Unit {0}) (Unit {0}) (Unit {0})) → at i (cases_level a x) ≡ expr_surely (gone_in a i) (map-Expr Surely (Unit {0}) (Unit {0}) (Unit {0}) (Unit {0}) nullness.Surely (Unit {0}) (Unit {0}) (Unit {0}) (Unit {0}) (at i) (λ t. t) (λ o. o) (λ u. u) (λ q. q) x)
  level_at (Expr-F.Col rel col ty nulled) = at_null i (column_cases a rel col) ∙ ap (λ b. surely b false false) (column_at a case rel col)
  level_at (Expr-F.Lit v ty) = literal_at v
  level_at (Expr-F.Place inner rels) =
      at_tests i (bit_or (relation_cases a rels) inner.null) inner.not_true inner.not_false
      ∙ ap (λ b. surely b (has inner.not_true i) (has inner.not_false i)) (has_either (relation_cases a rels) inner.null i ∙ ap (λ b. b || has inner.null i) (relations_at a case rels))
  level_at (Expr-F.Neg operand) = at_null i operand.null
  level_at (Expr-F.Sum terms) = at_null i (union (map null_term terms)) ∙ ap (λ b. surely b false false) (null_terms i 0 terms ∙ ap (λ b. b || list_any is_null (map (at i) (map term_part terms))) (has_nothing i) ∙ terms_same terms)
    where
      terms_same : (ts : List (Bool × Surely)) → list_any is_null (map (at i) (map term_part ts)) ≡ list_any is_null (map term_part (map (λ (t : Bool × Surely). (t.0, at i t.1)) ts))
      terms_same [] = refl
      terms_same (t ∷ ts) = ap (λ b. has t.1.null i || b) (terms_same ts)
  level_at (Expr-F.Product factors) = at_null i (members_of (all_cases a) factors).some.null ∙ ap (λ b. surely b false false) (some_null factors)
  level_at (Expr-F.Concat parts) = at_null i (members_of (all_cases a) parts).some.null ∙ ap (λ b. surely b false false) (some_null parts)
  level_at (Expr-F.Compare op left right) = at_null i (bit_or left.null right.null) ∙ ap (λ b. surely b false false) (has_either left.null right.null i)
  level_at (Expr-F.Between operand low high) =
      at_tests i operand.null (bit_or operand.null (bit_or low.null high.null)) 0
      ∙ same_tests (has operand.null i) (has (bit_or operand.null (bit_or low.null high.null)) i) (has 0 i) (has operand.null i) (has operand.null i || (has low.null i || has high.null i)) false refl
      (has_either operand.null (bit_or low.null high.null) i ∙ ap (λ b. has operand.null i || b) (has_either low.null high.null i)) (has_nothing i)
  level_at (Expr-F.InList operand list) = at_null i operand.null
  level_at (Expr-F.Not operand) = at_tests i operand.null operand.not_false operand.not_true
  level_at (Expr-F.And members) =
      let m = members_of (all_cases a) members in
      at_tests i (bit_and m.listed m.every.null) m.some.not_true (bit_and m.listed m.every.not_false)
      ∙ same_tests (has (bit_and m.listed m.every.null) i) (has m.some.not_true i) (has (bit_and m.listed m.every.not_false) i) (each is_null (map (at i) members)) (list_any is_not_true (map (at i) members)) (each is_not_false (map (at i) members))
      (each_of i (all_cases a) case (λ s. s.null) is_null (λ s. refl) (λ x y. refl) refl members)
      (some_of i (all_cases a) case (λ s. s.not_true) is_not_true (λ s. refl) (λ x y. refl) refl members)
      (each_of i (all_cases a) case (λ s. s.not_false) is_not_false (λ s. refl) (λ x y. refl) refl members)
  level_at (Expr-F.Or members) =
      let m = members_of (all_cases a) members in
      at_tests i (bit_and m.listed m.every.null) (bit_and m.listed m.every.not_true) m.some.not_false
      ∙ same_tests (has (bit_and m.listed m.every.null) i) (has (bit_and m.listed m.every.not_true) i) (has m.some.not_false i) (each is_null (map (at i) members)) (each is_not_true (map (at i) members)) (list_any is_not_false (map (at i) members))
      (each_of i (all_cases a) case (λ s. s.null) is_null (λ s. refl) (λ x y. refl) refl members)
      (each_of i (all_cases a) case (λ s. s.not_true) is_not_true (λ s. refl) (λ x y. refl) refl members)
      (some_of i (all_cases a) case (λ s. s.not_false) is_not_false (λ s. refl) (λ x y. refl) refl members)
  level_at (Expr-F.Coalesce members) = at_null i (members_of (all_cases a) members).every.null ∙ ap (λ b. surely b false false) (every_of i (all_cases a) case (λ s. s.null) is_null (λ s. refl) (λ x y. refl) refl members)
  level_at (Expr-F.Test test operand) = test_at test operand
  level_at (Expr-F.InSub sub operand query) = not_true_where operand.null
  level_at (Expr-F.Case operand arms otherwise) = nowhere
  level_at (Expr-F.Exists sub query) = nowhere

  pub tests_at : (e : Expr) → at i (cases_of a e) ≡ surely_of (gone_in a i) e
  tests_at e = fused_expr Surely (Unit {0}) (Unit {0}) (Unit {0}) (Unit {0}) nullness.Surely (Unit {0}) (Unit {0}) (Unit {0}) (Unit {0})
      (cases_level a) (λ t. tt) (λ o. tt) (λ u. tt) (λ q. tt) (expr_surely (gone_in a i)) (λ t. tt) (λ o. tt) (λ u. tt) (λ q. tt) (at i) (λ t. t) (λ o. o) (λ u. u) (λ q. q)
      level_at (λ x. refl) (λ x. refl) (λ x. refl) (λ x. refl) e

-- ---- the one case of number 0

pub relations_told : (set : ℕ) (e : Expr) → at 0 (cases_of (absence.Relations set) e) ≡ surely_of (Gone.relations set) e
relations_told set e = tests_at (absence.Relations set) 0 (omega arith) (has_only 0 (omega arith)) e

pub column_told : (rel col : ℕ) (e : Expr) → at 0 (cases_of (absence.Column rel col) e) ≡ surely_of (Gone.column rel col) e
column_told rel col e = tests_at (absence.Column rel col) 0 (omega arith) (has_only 0 (omega arith)) e

-- a list of one condition rejects where the condition does
pub alone_rejects : (gone : Gone) (e : Expr) (b : Bool) → b ≡ (surely_of gone e).not_true → b ≡ rejects gone (e ∷ [])
alone_rejects gone e b is = is ∙ by (surely_of gone e).not_true
  where
    by : (c : Bool) → c ≡ (c || false)
    by true = refl
    by false = refl

-- ---- each relation alone

pub nonnull_cases : (all mask : ℕ) (e : Expr) → ((i : ℕ) → Has all i ↔ (i < 64)) → mask ≡ (cases_of (absence.Each all) e).not_true → bit_and all mask ≡ nonnull_items (e ∷ [])
nonnull_cases all mask e bounds is = same_set (bit_and all mask) (nonnull_items (e ∷ [])) (λ i. (to i, from i))
  where
    told : (i : ℕ) → i < 64 → has mask i ≡ rejects_relation (e ∷ []) i
    told i low = alone_rejects (Gone.relations (only i)) e (has mask i) (ap (λ n. has n i) is ∙ ap (λ (s : nullness.Surely). s.not_true) (tests_at (absence.Each all) i low ((bounds i).1 low) e))

    to : (i : ℕ) → Has (bit_and all mask) i → Has (nonnull_items (e ∷ [])) i
    to i h =
        let both = (has_and all mask i).0 h in
        let low = (bounds i).0 both.0 in
        rejected_nonnull (e ∷ []) i low (sym (told i low) ∙ to_has mask i both.1)

    from : (i : ℕ) → Has (nonnull_items (e ∷ [])) i → Has (bit_and all mask) i
    from i h =
        let low : i < 64 = nonnull_low (e ∷ []) i h in
        (has_and all mask i).1 ((bounds i).1 low, has_to mask i (told i low ∙ nonnull_rejected (e ∷ []) i h))
