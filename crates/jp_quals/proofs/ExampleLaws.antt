-- The query of the test is a block.
use Rattle.std.proofs.Common.{◌≡◌, sym, ap, subst, ℕ, zero, suc, ◌<◌, ◌≤◌, List, [], ◌∷◌, map, arith, true}
use Rattle.std.specs.Prelude.{All, ⊤, count_ones}
use Rattle.std.proofs.lemmas.Nat.{ones_le_self}
use Rattle.jp_query.specs.Conditions.{IsTyped, IsBounded, Leaves, judged_leaves}
use Rattle.jp_query.specs.declared.Query.{Query}
use Rattle.jp_query.specs.NoRight.{HasNoRight}
use Rattle.jp_query.specs.Parts.{tables_in, base_leaves_in}
use Rattle.jp_query.specs.Refs.{only, union}
use Rattle.jp_query.specs.TreeExamples.{schema}
use Rattle.jp_query.proofs.TreeRules.{folds}
use Rattle.jp_problem.specs.Made.{IsBlock}
use Rattle.jp_quals.specs.Examples.{two_left_joins}

-- each member, one by one
abbrev Each : {X : Type 0} → (X → Type 0) → List X → Type 0
Each P [] = ⊤
Each P (x ∷ xs) = P x × Each P xs

all : {X : Type 0} (P : X → Type 0) (xs : List X) → Each P xs → All P xs
all P [] h k d low = absurd (omega (arith, low))
all P (x ∷ xs) h zero d low = h.0
all P (x ∷ xs) h (suc k) d low = all P xs h.1 k d (omega (arith, low))

few_leaves : (n : ℕ) → n ≤ 16 → count_ones n ≤ 16
few_leaves n h = let is : count_ones n ≤ n = ones_le_self n in omega (arith, is, h)

tables : tables_in two_left_joins ≡ 0 ∷ 1 ∷ 0 ∷ []
tables = simp folds

leaves : base_leaves_in two_left_joins ≡ 0 ∷ 1 ∷ 2 ∷ []
leaves = simp folds

abbrev judged : Leaves
judged = record { leaves = record { number = 0; sublinks = [] } ∷ record { number = 1; sublinks = [] } ∷ record { number = 2; sublinks = [] } ∷ []; apart = true }

are_apart : judged_leaves two_left_joins ≡ judged
are_apart = simp folds

is_typed : IsTyped schema [] two_left_joins
is_typed = record {
  expressions = simp folds;
  columns = simp folds;
  placeholders = simp folds;
  distinct = simp folds;
  apart = ap (λ (l : Leaves). l.apart) are_apart;
  tables = subst (All (λ table. table < 2)) (sym tables) (all (λ table. table < 2) (0 ∷ 1 ∷ 0 ∷ []) (omega arith, (omega arith, (omega arith, tt))));
  rooted = simp folds;
  few = subst (λ ls. count_ones (union (map only ls)) ≤ 16) (sym leaves) (few_leaves 7 (omega arith));
}

is_bounded : IsBounded schema [] two_left_joins
is_bounded = simp folds

no_right : HasNoRight two_left_joins
no_right = simp folds

pub is_block : IsBlock two_left_joins
is_block = record { schema = schema; outer = []; typed = is_typed; bounded = is_bounded; no_right = no_right }

pub block_of : (query : Query) → query ≡ two_left_joins → IsBlock query
block_of query is = subst IsBlock (sym is) is_block
