-- The queries of the tests are typed, fresh, and name a table that is there.
use Rattle.std.proofs.Common.{◌≡◌, ◌∙◌, ◌⊎◌, inl, inr, ap, sym, subst, refl, ℕ, zero, suc, ◌<◌, ◌≤◌, List, [], ◌∷◌, get_or, length, map, arith, true, ap₂}
use Rattle.std.specs.Prelude.{All, Contains, pos, ⊤, count_ones}
use Rattle.std.proofs.lemmas.Nat.{ones_le_self}
use Rattle.jp_query.specs.declared.Query.{Query}
use Rattle.jp_query.specs.declared.Expr.TheVariants as expr
use Rattle.jp_query.specs.Conditions.{IsTyped, IsBounded, Leaves, leaves_inside, no_leaves, expr_leaves, tree_leaves, order_leaves, output_leaves, query_leaves, judged_leaves}
use Rattle.jp_query.specs.Freshness.{IsFresh, Sublink, sublinks_in}
use Rattle.jp_query.specs.Parts.{tables_in, leaves_in, base_leaves_in}
use Rattle.jp_query.specs.Refs.{only, union}
use Rattle.jp_query.specs.Scopes.{Column}
use Rattle.jp_query.specs.Tables.{TableRows, IsLoaded, AllLoaded, IsTypedOver}
use Rattle.jp_query.specs.TreeExamples.{col}
use Rattle.jp_query.specs.declared.Expr.{Expr}
use Rattle.jp_query.specs.declared.Expr.TheFolds.{fold-roll-Expr, fold-roll-JoinTree, fold-roll-Query}
use Rattle.jp_query.specs.declared.Expr.TheOpen.{Expr-F, JoinTree-F}
use Rattle.jp_query.specs.declared.Expr.TheViews.{roll-JoinTree}
use Rattle.jp_query.specs.declared.JoinKind.TheVariants as join
use Rattle.jp_query.specs.declared.JoinTree.{JoinTree}
use Rattle.jp_query.specs.declared.Order.{Order}
use Rattle.jp_query.specs.declared.Output.{Output}
use Rattle.jp_query.proofs.FoldLaws as laws
use Rattle.jp_query.proofs.TreeRules.{folds, paras}
use Rattle.jp_naive_tests.specs.Queries.{full_apart, literal, nothing, same_inner, same_outer, same_two_levels_out, not_in_nothing, ones, twos, by_x, output}
use Rattle.jp_naive_tests.specs.Tables.{IsOneTable}
use Rattle.jp_naive_tests.proofs.TableFacts.{belongs, column}

abbrev IsSmall : ℕ → Type 0
IsSmall n = ¬ ((32 ≤ n) × (n ≤ 46))

all_loaded : (tables : TableRows) → IsOneTable tables → (q : Query) → All (λ table. table ≡ 0) (tables_in q) → AllLoaded tables q
all_loaded tables one q h k d low = subst (IsLoaded tables) (sym (h k d low)) (subst (λ ts. IsLoaded ts 0) (sym one.all) (one.rows, refl))

-- each member, one by one
abbrev Each : {X : Type 0} → (X → Type 0) → List X → Type 0
Each P [] = ⊤
Each P (x ∷ xs) = P x × Each P xs

all : {X : Type 0} (P : X → Type 0) (xs : List X) → Each P xs → All P xs
all P [] h k d low = absurd (omega (arith, low))
all P (x ∷ xs) h zero d low = h.0
all P (x ∷ xs) h (suc k) d low = all P xs h.1 k d (omega (arith, low))

-- two sublinks of different numbers
one_of_two : (s t a : Sublink) (xs : List Sublink) → xs ≡ s ∷ t ∷ [] → Contains xs a → (s ≡ a) ⊎ (t ≡ a)
one_of_two s t a xs e (zero, low, is) = inl (sym (ap (λ ys. get_or ys 0 a) e) ∙ is)
one_of_two s t a xs e (suc zero, low, is) = inr (sym (ap (λ ys. get_or ys 1 a) e) ∙ is)
one_of_two s t a xs e (suc (suc k), low, is) = absurd (omega (arith, low, ap length e))

few_leaves : (n : ℕ) → n ≤ 16 → count_ones n ≤ 16
few_leaves n h = let is : count_ones n ≤ n = ones_le_self n in omega (arith, is, h)

only_one : (s a : Sublink) (xs : List Sublink) → xs ≡ s ∷ [] → Contains xs a → s ≡ a
only_one s a xs e (zero, low, is) = sym (ap (λ ys. get_or ys 0 a) e) ∙ is
only_one s a xs e (suc k, low, is) = absurd (omega (arith, low, ap length e))

-- ---- full_apart

full_tables : tables_in full_apart ≡ 0 ∷ 0 ∷ 0 ∷ 0 ∷ []
full_tables = simp folds

full_leaves : leaves_in full_apart ≡ 4 ∷ 0 ∷ 5 ∷ 1 ∷ 2 ∷ 3 ∷ []
full_leaves = simp folds

full_base_leaves : base_leaves_in full_apart ≡ 0 ∷ 1 ∷ 2 ∷ 3 ∷ []
full_base_leaves = simp folds

abbrev outer_sublink : Sublink
outer_sublink = record { number = 1; node = expr.Exists 1 same_outer }

abbrev inner_sublink : Sublink
inner_sublink = record { number = 2; node = expr.Exists 2 same_inner }

full_sublinks : sublinks_in full_apart ≡ outer_sublink ∷ inner_sublink ∷ []
full_sublinks = simp paras

abbrev of_expr : Expr → Leaves
of_expr = laws.of_expr Leaves Leaves Leaves Leaves Leaves expr_leaves tree_leaves order_leaves output_leaves query_leaves

abbrev of_tree : JoinTree → Leaves
of_tree = laws.of_tree Leaves Leaves Leaves Leaves Leaves expr_leaves tree_leaves order_leaves output_leaves query_leaves

abbrev of_output : Output → Leaves
of_output = laws.of_output Leaves Leaves Leaves Leaves Leaves expr_leaves tree_leaves order_leaves output_leaves query_leaves

abbrev of_order : Order → Leaves
of_order = laws.of_order Leaves Leaves Leaves Leaves Leaves expr_leaves tree_leaves order_leaves output_leaves query_leaves

abbrev full_judged : Leaves
full_judged = record { leaves = record { number = 4; sublinks = [] } ∷ record { number = 0; sublinks = [] } ∷ record { number = 5; sublinks = [] } ∷ record { number = 1; sublinks = [] } ∷ record { number = 2; sublinks = 1 ∷ [] } ∷ record { number = 3; sublinks = 1 ∷ 2 ∷ [] } ∷ []; apart = true }

outer_judged : judged_leaves same_outer ≡ record { leaves = record { number = 2; sublinks = [] } ∷ record { number = 3; sublinks = 2 ∷ [] } ∷ []; apart = true }
outer_judged = simp folds

on_judged : of_expr same_two_levels_out ≡ record { leaves = record { number = 2; sublinks = 1 ∷ [] } ∷ record { number = 3; sublinks = 1 ∷ 2 ∷ [] } ∷ []; apart = true }
on_judged = fold-roll-Expr Leaves Leaves Leaves Leaves Leaves expr_leaves tree_leaves order_leaves output_leaves query_leaves (Expr-F.Exists 1 same_outer) ∙ ap (leaves_inside 1) outer_judged

abbrev ones_leaves : Leaves
ones_leaves = record { leaves = record { number = 4; sublinks = [] } ∷ record { number = 0; sublinks = [] } ∷ []; apart = true }

ones_judged : of_tree ones ≡ ones_leaves
ones_judged = simp folds

abbrev twos_leaves : Leaves
twos_leaves = record { leaves = record { number = 5; sublinks = [] } ∷ record { number = 1; sublinks = [] } ∷ []; apart = true }

twos_judged : of_tree twos ≡ twos_leaves
twos_judged = simp folds

abbrev full_tree : JoinTree-F Expr JoinTree Order Output Query
full_tree = JoinTree-F.Join join.Full ones twos (same_two_levels_out ∷ [])

tree_judged : of_tree (roll-JoinTree full_tree) ≡ full_judged
tree_judged = fold-roll-JoinTree Leaves Leaves Leaves Leaves Leaves expr_leaves tree_leaves order_leaves output_leaves query_leaves full_tree
    ∙ ap₂ (λ l r. tree_leaves (JoinTree-F.Join join.Full l r (of_expr same_two_levels_out ∷ []))) ones_judged twos_judged
    ∙ ap (λ e. tree_leaves (JoinTree-F.Join join.Full ones_leaves twos_leaves (e ∷ []))) on_judged

x_judged : of_output (output (col 4 0)) ≡ no_leaves
x_judged = simp folds

y_judged : of_output (output (col 5 0)) ≡ no_leaves
y_judged = simp folds

order_judged : of_order by_x ≡ no_leaves
order_judged = simp folds

full_apart_leaves : judged_leaves full_apart ≡ full_judged
full_apart_leaves = fold-roll-Query Leaves Leaves Leaves Leaves Leaves expr_leaves tree_leaves order_leaves output_leaves query_leaves (record { columns = output (col 4 0) ∷ output (col 5 0) ∷ []; distinct = true; tree = roll-JoinTree full_tree; conds = []; order = by_x ∷ [] })
    ∙ ap (λ t. query_leaves (record { columns = of_output (output (col 4 0)) ∷ of_output (output (col 5 0)) ∷ []; distinct = true; tree = t; conds = []; order = of_order by_x ∷ [] })) tree_judged
    ∙ ap₂ (λ u v. query_leaves (record { columns = u ∷ v ∷ []; distinct = true; tree = full_judged; conds = []; order = of_order by_x ∷ [] })) x_judged y_judged
    ∙ ap (λ o. query_leaves (record { columns = no_leaves ∷ no_leaves ∷ []; distinct = true; tree = full_judged; conds = []; order = o ∷ [] })) order_judged

full_is_typed : (columns : List Column) → IsTyped (columns ∷ []) [] full_apart
full_is_typed columns = record {
  expressions = simp folds;
  columns = simp folds;
  placeholders = simp folds;
  distinct = simp folds;
  apart = ap (λ (l : Leaves). l.apart) full_apart_leaves;
  tables = subst (All (λ table. table < 1)) (sym full_tables) (all (λ table. table < 1) (0 ∷ 0 ∷ 0 ∷ 0 ∷ []) (omega arith, (omega arith, (omega arith, (omega arith, tt)))));
  rooted = simp folds;
  few = subst (λ leaves. count_ones (union (map only leaves)) ≤ 16) (sym full_base_leaves) (few_leaves 15 (omega arith));
}

full_bounded : (columns : List Column) → IsBounded (columns ∷ []) [] full_apart
full_bounded columns = simp folds

pub full_typed : (tables : TableRows) → IsOneTable tables → IsTypedOver tables full_apart
full_typed tables one = record {
  schema = map column one.types ∷ [];
  belong = belongs tables one;
  typed = full_is_typed (map column one.types);
  bounded = full_bounded (map column one.types);
}

pub full_fresh : IsFresh full_apart
full_fresh = record {
  placeholders = simp folds;
  numbers = subst (All (λ (s : Sublink). (1 ≤ s.number) × (s.number ≤ 15))) (sym full_sublinks) (all (λ (s : Sublink). (1 ≤ s.number) × (s.number ≤ 15)) (outer_sublink ∷ inner_sublink ∷ []) ((omega arith, omega arith), ((omega arith, omega arith), tt)));
  leaves = subst (All IsSmall) (sym full_leaves) (all IsSmall (4 ∷ 0 ∷ 5 ∷ 1 ∷ 2 ∷ 3 ∷ []) ((λ h. omega (arith, h.0)), ((λ h. omega (arith, h.0)), ((λ h. omega (arith, h.0)), ((λ h. omega (arith, h.0)), ((λ h. omega (arith, h.0)), ((λ h. omega (arith, h.0)), tt)))))));
  equal = λ x y p q same. elim (one_of_two outer_sublink inner_sublink x (sublinks_in full_apart) full_sublinks p) [
    | inl a ↦ elim (one_of_two outer_sublink inner_sublink y (sublinks_in full_apart) full_sublinks q) [
      | inl b ↦ ap (λ (s : Sublink). s.node) (sym a ∙ b)
      | inr b ↦ absurd (omega (arith, same, ap (λ (s : Sublink). s.number) a, ap (λ (s : Sublink). s.number) b))
    ]
    | inr a ↦ elim (one_of_two outer_sublink inner_sublink y (sublinks_in full_apart) full_sublinks q) [
      | inl b ↦ absurd (omega (arith, same, ap (λ (s : Sublink). s.number) a, ap (λ (s : Sublink). s.number) b))
      | inr b ↦ ap (λ (s : Sublink). s.node) (sym a ∙ b)
    ]
  ];
  placed = simp folds;
}

pub full_loaded : (tables : TableRows) → IsOneTable tables → AllLoaded tables full_apart
full_loaded tables one = all_loaded tables one full_apart (subst (All (λ table. table ≡ 0)) (sym full_tables) (all (λ table. table ≡ 0) (0 ∷ 0 ∷ 0 ∷ 0 ∷ []) (refl, (refl, (refl, (refl, tt))))))

-- ---- not_in_nothing

among_tables : tables_in not_in_nothing ≡ 0 ∷ 0 ∷ []
among_tables = simp folds

among_leaves : leaves_in not_in_nothing ≡ 0 ∷ 1 ∷ []
among_leaves = simp folds

among_base_leaves : base_leaves_in not_in_nothing ≡ 0 ∷ 1 ∷ []
among_base_leaves = simp folds

abbrev among_nothing : Sublink
among_nothing = record { number = 1; node = expr.InSub 1 (literal (pos 1)) nothing }

among_sublinks : sublinks_in not_in_nothing ≡ among_nothing ∷ []
among_sublinks = simp paras

abbrev among_judged : Leaves
among_judged = record { leaves = record { number = 0; sublinks = [] } ∷ record { number = 1; sublinks = 1 ∷ [] } ∷ []; apart = true }

among_apart : judged_leaves not_in_nothing ≡ among_judged
among_apart = simp folds

among_is_typed : (columns : List Column) → IsTyped (columns ∷ []) [] not_in_nothing
among_is_typed columns = record {
  expressions = simp folds;
  columns = simp folds;
  placeholders = simp folds;
  distinct = simp folds;
  apart = ap (λ (l : Leaves). l.apart) among_apart;
  tables = subst (All (λ table. table < 1)) (sym among_tables) (all (λ table. table < 1) (0 ∷ 0 ∷ []) (omega arith, (omega arith, tt)));
  rooted = simp folds;
  few = subst (λ leaves. count_ones (union (map only leaves)) ≤ 16) (sym among_base_leaves) (few_leaves 3 (omega arith));
}

among_bounded : (columns : List Column) → IsBounded (columns ∷ []) [] not_in_nothing
among_bounded columns = simp folds

pub among_typed : (tables : TableRows) → IsOneTable tables → IsTypedOver tables not_in_nothing
among_typed tables one = record {
  schema = map column one.types ∷ [];
  belong = belongs tables one;
  typed = among_is_typed (map column one.types);
  bounded = among_bounded (map column one.types);
}

pub among_fresh : IsFresh not_in_nothing
among_fresh = record {
  placeholders = simp folds;
  numbers = subst (All (λ (s : Sublink). (1 ≤ s.number) × (s.number ≤ 15))) (sym among_sublinks) (all (λ (s : Sublink). (1 ≤ s.number) × (s.number ≤ 15)) (among_nothing ∷ []) ((omega arith, omega arith), tt));
  leaves = subst (All IsSmall) (sym among_leaves) (all IsSmall (0 ∷ 1 ∷ []) ((λ h. omega (arith, h.0)), ((λ h. omega (arith, h.0)), tt)));
  equal = λ x y p q same. ap (λ (s : Sublink). s.node) (sym (only_one among_nothing x (sublinks_in not_in_nothing) among_sublinks p) ∙ only_one among_nothing y (sublinks_in not_in_nothing) among_sublinks q);
  placed = simp folds;
}

pub among_loaded : (tables : TableRows) → IsOneTable tables → AllLoaded tables not_in_nothing
among_loaded tables one = all_loaded tables one not_in_nothing (subst (All (λ table. table ≡ 0)) (sym among_tables) (all (λ table. table ≡ 0) (0 ∷ 0 ∷ []) (refl, (refl, tt))))
