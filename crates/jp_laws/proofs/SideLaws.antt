-- What Left, Semi and Anti joins do with the left tuples.
use Rattle.std.proofs.Common.{◌≡◌, ◌∙◌, ap, sym, subst, refl, ℕ, inl, inr, Bool, true, false, cond, not, List, [], ◌∷◌, ◌++◌, map, filter, None}
use Rattle.std.specs.Prelude.{Contains, if◌then◌else◌}
use Rattle.std.specs.Int.{bit_at}
use Rattle.std.specs.List.Sorted.{IsPermutation}
use Rattle.std.proofs.lemmas.List.Sorted.{IsPermutation-refl, IsPermutation-cons, IsPermutation-sym, IsPermutation-trans, IsPermutation-middle}
use Rattle.jp_base.specs.Sets.{Has}
use Rattle.jp_query.specs.declared.Expr.{Expr}
use Rattle.jp_query.specs.declared.JoinTree.{JoinTree}
use Rattle.jp_query.specs.declared.JoinTree.TheVariants as tree
use Rattle.jp_query.specs.declared.JoinKind.{JoinKind}
use Rattle.jp_query.specs.declared.JoinKind.TheVariants as join
use Rattle.jp_query.specs.Meaning.{Row, Env, ValueIn, Tuples, SortKey, RowsIn, holds, with_rows, without, or_else, pairs, pairs_or_alone, has_match, left_join, join_tuples, in_place, expr_value, tree_tuples, order_key, output_value, query_rows, value_of, tuples_of}
use Rattle.jp_query.proofs.FoldLaws as laws
use Rattle.std.proofs.lemmas.Bool.{ne_eqb}
use Rattle.jp_facts.proofs.Members.{In, to_in, from_in, from_filter, in_flat_map}

-- ---- a Left join

module _ (on : List ValueIn) (r : ℕ) where
  abbrev Elsewhere : Env → Env → Type 0
  Elsewhere joined tuple = (i : ℕ) → (Has r i → ⊥) → joined i ≡ tuple i

  rows_elsewhere : (x u : Env) → Elsewhere (with_rows r x u) x
  rows_elsewhere x u i n = ap (λ b. if b then u i else x i) (ne_eqb (bit_at r i) 1 n)

  without_elsewhere : (x : Env) → Elsewhere (without r x) x
  without_elsewhere x i n = ap (λ b. if b then None else x i) (ne_eqb (bit_at r i) 1 n)

  mapped : (x m : Env) (rights : List Env) → In m (map (with_rows r x) rights) → Elsewhere m x
  mapped x m [] h = absurd h
  mapped x m (u ∷ rights) (inl e) = λ i n. ap (λ (z : Env). z i) (sym e) ∙ rows_elsewhere x u i n
  mapped x m (u ∷ rights) (inr h) = mapped x m rights h

  chosen : (x : Env) (found : List Env) → ((m : Env) → In m found → Elsewhere m x) → (m : Env) × In m (or_else found (without r x)) × Elsewhere m x
  chosen x [] h = (without r x, inl refl, without_elsewhere x)
  chosen x (m ∷ found) h = (m, inl refl, h m (inl refl))

  kept_left : (lefts rights : List Env) (x : Env) → Contains lefts x → (m : Env) × Contains (left_join on r lefts rights) m × Elsewhere m x
  kept_left lefts rights x h =
      let c = chosen x (pairs on r rights x) (λ m g. mapped x m rights (from_filter (holds on) m (map (with_rows r x) rights) g).1) in
      (c.0, from_in c.0 (left_join on r lefts rights) (in_flat_map (pairs_or_alone on r rights) x c.0 lefts (to_in x lefts h) c.1), c.2)

-- ---- Semi and Anti joins

split_at : (x : Env) (xs ps ns : List Env) (b : Bool) → IsPermutation xs (ps ++ ns) → IsPermutation (x ∷ xs) (cond b (x ∷ ps) ps ++ cond (not b) (x ∷ ns) ns)
split_at x xs ps ns true ih = IsPermutation-cons x xs (ps ++ ns) ih
split_at x xs ps ns false ih = IsPermutation-trans (x ∷ xs) (x ∷ (ps ++ ns)) (ps ++ x ∷ ns) (IsPermutation-cons x xs (ps ++ ns) ih) (IsPermutation-sym (ps ++ x ∷ ns) (x ∷ (ps ++ ns)) (IsPermutation-middle ps x ns))

split : (p : Env → Bool) (xs : List Env) → IsPermutation xs (filter p xs ++ filter (λ x. not (p x)) xs)
split p [] = IsPermutation-refl []
split p (x ∷ xs) = split_at x xs (filter p xs) (filter (λ y. not (p y)) xs) (p x) (split p xs)

-- ---- trees

module _ (tables : ℕ → List Row) (left right : JoinTree) (on : List Expr) (env : Env) where
  at : (kind : JoinKind) → join_tuples kind (map (value_of tables) on) (tuples_of tables left).rels ((tuples_of tables left).tuples env) (tuples_of tables right).rels ((tuples_of tables right).tuples env) ≡ (tuples_of tables (tree.Join kind left right on)).tuples env
  at kind = sym (ap (λ (t : Tuples). t.tuples env) (laws.at-Join ValueIn Tuples SortKey ValueIn RowsIn (expr_value in_place) (tree_tuples tables) order_key output_value query_rows kind left right on))

  pub left_keeps : (tuple : Env) → Contains ((tuples_of tables left).tuples env) tuple → (joined : Env) × Contains ((tuples_of tables (tree.Join join.Left left right on)).tuples env) joined × ((i : ℕ) → (Has (tuples_of tables right).rels i → ⊥) → joined i ≡ tuple i)
  left_keeps tuple h =
      let k = kept_left (map (value_of tables) on) (tuples_of tables right).rels ((tuples_of tables left).tuples env) ((tuples_of tables right).tuples env) tuple h in
      (k.0, subst (λ (ts : List Env). Contains ts k.0) (at join.Left) k.1, k.2)

  pub sides_split : IsPermutation ((tuples_of tables left).tuples env) ((tuples_of tables (tree.Join join.Semi left right on)).tuples env ++ (tuples_of tables (tree.Join join.Anti left right on)).tuples env)
  sides_split = subst (λ (ts : List Env). IsPermutation ((tuples_of tables left).tuples env) (ts ++ (tuples_of tables (tree.Join join.Anti left right on)).tuples env)) (at join.Semi)
      (subst (λ (ts : List Env). IsPermutation ((tuples_of tables left).tuples env) (filter (has_match (map (value_of tables) on) (tuples_of tables right).rels ((tuples_of tables right).tuples env)) ((tuples_of tables left).tuples env) ++ ts)) (at join.Anti)
      (split (has_match (map (value_of tables) on) (tuples_of tables right).rels ((tuples_of tables right).tuples env)) ((tuples_of tables left).tuples env)))
