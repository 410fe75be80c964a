-- A query is typed, or fresh, where it passes the tests; and what is needed to see that sublinks are equal or aren't.
use Rattle.std.proofs.Common.{◌≡◌, ◌∙◌, ap, ap₂, sym, subst, refl, ℕ, zero, suc, ◌<◌, ◌≤◌, Bool, true, false, ◌&&◌, not, List, [], ◌∷◌, length, get_or, arith, true≢false}
use Rattle.std.specs.Prelude.{All, Contains, nat_le}
use Rattle.std.specs.List.{list_all}
use Rattle.std.proofs.lemmas.Bool.{and_parts, ltb-true, leb-true, lt-ltb, le-leb}
use Rattle.std.proofs.lemmas.List.Elements.{All-cons, All-head, All-tail}
use Rattle.jp_query.specs.declared.Expr.TheVariants as expr
use Rattle.jp_query.proofs.FoldLaws as laws
use Rattle.jp_query.proofs.TreeRules.{folds, paras}
use Rattle.jp_query.specs.Conditions.{IsTyped}
use Rattle.jp_query.specs.Freshness.{Sublink, IsFresh, sublinks_in}
use Rattle.jp_query.specs.declared.Query.{Query}
use Rattle.jp_query.specs.declared.Expr.TheOpen.{Expr-F}
use Rattle.jp_query.specs.Parts.{expr_nodes, tree_nodes, order_nodes, output_nodes, query_nodes, nodes_in, nodes_in_query, tables_in, leaves_in}
use Rattle.jp_query.specs.Scopes.{Schema, Scope}
use Rattle.jp_query.specs.TreeExamples.{one, b, select, inner_select}
use Rattle.jp_query.specs.Typing.{is_listed}
use Rattle.jp_examples.specs.Tests.{TypedTests, typed_tests, all_typed, is_table, FreshTests, fresh_tests, all_fresh, has_number, is_free, AreCopies, two_sublinks}

-- ---- tests of lists

module _ {X : Type 0} (P : X → Type 0) (p : X → Bool) where
  to_all : ((x : X) → P x → p x ≡ true) → (xs : List X) → All P xs → list_all p xs ≡ true
  to_all w [] h = refl
  to_all w (x ∷ xs) h = ap₂ ◌&&◌ (w x (All-head P x xs h)) (to_all w xs (All-tail P x xs h))

  from_all : ((x : X) → p x ≡ true → P x) → (xs : List X) → list_all p xs ≡ true → All P xs
  from_all w [] h = λ k d low. absurd (omega (arith, low))
  from_all w (x ∷ xs) h = let parts = and_parts (p x) (list_all p xs) h in All-cons P x xs (w x parts.0) (from_all w xs parts.1)

to_empty : {X : Type 0} (xs : List X) → xs ≡ [] → not (is_listed xs) ≡ true
to_empty xs e = ap (λ l. not (is_listed l)) e

from_empty : {X : Type 0} (xs : List X) → not (is_listed xs) ≡ true → xs ≡ []
from_empty [] h = refl
from_empty (x ∷ xs) h = absurd (true≢false (sym h))

-- ---- typed queries

module _ (s : Schema) (outer : Scope) (query : Query) where
  pub to_typed_tests : IsTyped s outer query → typed_tests s outer query ≡ all_typed
  to_typed_tests h =
      let listed : list_all (is_table s) (tables_in query) ≡ true =
      to_all (λ table. table < length s) (is_table s) (λ table low. lt-ltb table (length s) low) (tables_in query) h.tables in
      let bounded : (typed_tests s outer query).few ≡ true = le-leb _ 16 h.few in
      λ i. record {
        expressions = h.expressions i;
        columns = h.columns i;
        placeholders = h.placeholders i;
        distinct = h.distinct i;
        apart = h.apart i;
        tables = listed i;
        rooted = h.rooted i;
        few = bounded i;
      }

  pub from_typed_tests : typed_tests s outer query ≡ all_typed → IsTyped s outer query
  from_typed_tests e = record {
    expressions = ap (λ (t : TypedTests). t.expressions) e;
    columns = ap (λ (t : TypedTests). t.columns) e;
    placeholders = ap (λ (t : TypedTests). t.placeholders) e;
    distinct = ap (λ (t : TypedTests). t.distinct) e;
    apart = ap (λ (t : TypedTests). t.apart) e;
    tables = from_all (λ table. table < length s) (is_table s) (λ table t. ltb-true table (length s) t) (tables_in query) (ap (λ (t : TypedTests). t.tables) e);
    rooted = ap (λ (t : TypedTests). t.rooted) e;
    few = leb-true _ 16 (ap (λ (t : TypedTests). t.few) e);
  }

-- ---- fresh queries

abbrev HasNumber : Sublink → Type 0
HasNumber s = (1 ≤ s.number) × (s.number ≤ 15)

abbrev IsFree : ℕ → Type 0
IsFree n = ((32 ≤ n) × (n ≤ 46)) → ⊥

to_number : (s : Sublink) → HasNumber s → has_number s ≡ true
to_number s h = ap₂ ◌&&◌ (le-leb 1 s.number h.0) (le-leb s.number 15 h.1)

from_number : (s : Sublink) → has_number s ≡ true → HasNumber s
from_number s h = let parts = and_parts (nat_le 1 s.number) (nat_le s.number 15) h in (leb-true 1 s.number parts.0, leb-true s.number 15 parts.1)

to_free : (n : ℕ) → IsFree n → is_free n ≡ true
to_free n h = go (nat_le 32 n) (nat_le n 46) refl refl
  where
    go : (x y : Bool) → nat_le 32 n ≡ x → nat_le n 46 ≡ y → not (x && y) ≡ true
    go true true e f = absurd (h (leb-true 32 n e, leb-true n 46 f))
    go true false e f = refl
    go false y e f = refl

from_free : (n : ℕ) → is_free n ≡ true → IsFree n
from_free n e h = true≢false (sym e ∙ ap not (ap₂ ◌&&◌ (le-leb 32 n h.0) (le-leb n 46 h.1)))

module _ (query : Query) where
  pub to_fresh_tests : IsFresh query → (fresh_tests query ≡ all_fresh) × AreCopies query
  to_fresh_tests h =
      let empty : (fresh_tests query).placeholders ≡ true = to_empty _ h.placeholders in
      let numbered : (fresh_tests query).numbers ≡ true = to_all HasNumber has_number to_number (sublinks_in query) h.numbers in
      let free : (fresh_tests query).leaves ≡ true = to_all IsFree is_free to_free (leaves_in query) h.leaves in
      ((λ i. record { placeholders = empty i; numbers = numbered i; leaves = free i; placed = h.placed i }), h.equal)

  pub from_fresh_tests : (fresh_tests query ≡ all_fresh) × AreCopies query → IsFresh query
  from_fresh_tests h = record {
    placeholders = from_empty _ (ap (λ (t : FreshTests). t.placeholders) h.0);
    numbers = from_all HasNumber has_number from_number (sublinks_in query) (ap (λ (t : FreshTests). t.numbers) h.0);
    leaves = from_all IsFree is_free from_free (leaves_in query) (ap (λ (t : FreshTests). t.leaves) h.0);
    equal = h.1;
    placed = ap (λ (t : FreshTests). t.placed) h.0;
  }

-- ---- equal sublinks

abbrev pub AreAll : Sublink → List Sublink → Type 0
AreAll s [] = Unit {0}
AreAll s (x ∷ xs) = (x ≡ s) × AreAll s xs

each_is : (s : Sublink) (xs : List Sublink) → AreAll s xs → (x : Sublink) (k : ℕ) → k < length xs → get_or xs k x ≡ x → x ≡ s
each_is s [] h x k low e = absurd (omega (arith, low))
each_is s (y ∷ xs) h x zero low e = sym e ∙ h.0
each_is s (y ∷ xs) h x (suc k) low e = each_is s xs h.1 x k (omega (arith, low)) e

-- all sublinks of the query are this one
pub are_copies : (query : Query) (s : Sublink) (found : List Sublink) → sublinks_in query ≡ found → AreAll s found → AreCopies query
are_copies query s found e same x y p q n = ap (λ (z : Sublink). z.node) (is x p ∙ sym (is y q))
  where
    is : (z : Sublink) → Contains (sublinks_in query) z → z ≡ s
    is z h = let c = subst (λ l. Contains l z) e h in each_is s found same z c.0 c.1 c.2

abbrev pub exists_sublink : ℕ → Query → Sublink
exists_sublink n query = record { number = n; node = expr.Exists n query }

-- two sublinks that differ
nodes_of : (query : Query) → nodes_in (expr.Exists 1 query) ≡ expr_nodes (Expr-F.Exists 1 (nodes_in_query query))
nodes_of query = laws.at-Exists ℕ ℕ ℕ ℕ ℕ expr_nodes tree_nodes order_nodes output_nodes query_nodes 1 query

pub not_copies : AreCopies two_sublinks → ⊥
not_copies h =
    let first = exists_sublink 1 (select one b []) in
    let second = exists_sublink 1 inner_select in
    let found : sublinks_in two_sublinks ≡ first ∷ second ∷ [] = simp paras in
    let p : Contains (sublinks_in two_sublinks) first = subst (λ l. Contains l first) (sym found) (0, omega arith, refl) in
    let q : Contains (sublinks_in two_sublinks) second = subst (λ l. Contains l second) (sym found) (1, omega arith, refl) in
    let small : nodes_in first.node ≡ 2 = nodes_of (select one b []) ∙ simp folds in
    let large : nodes_in second.node ≡ 5 = nodes_of inner_select ∙ simp folds in
    let contrary : 2 ≡ 5 = sym small ∙ ap nodes_in (h first second p q refl) ∙ large in
    absurd (omega (arith, contrary))
