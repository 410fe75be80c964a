-- Each tuple of a rooted tree has some relation of the tree present.
use Rattle.std.proofs.Common.{◌≡◌, ◌∙◌, ap, sym, subst, refl, ℕ, inl, inr, true, false, List, [], ◌∷◌, map, fold, filter, Some, None, eq-eqb}
use Rattle.std.specs.Prelude.{Contains, bit_or, bit_and, ◌==◌, ◌&&◌, if◌then◌else◌}
use Rattle.std.specs.Int.{bit_at}
use Rattle.std.specs.List.{list_all, flat_map}
use Rattle.std.proofs.lemmas.Bool.{and_parts, eqb-true}
use Rattle.std.proofs.lemmas.Nat.{or_comm}
use Rattle.std.proofs.lemmas.Nat.Bits.{bit_at-pow_same}
use Rattle.jp_base.specs.Sets.{Has}
use Rattle.jp_base.proofs.SetLemmas.{has_or, has_and, empty_zero}
use Rattle.jp_query.specs.declared.Expr.{Expr}
use Rattle.jp_query.specs.declared.Expr.TheOpen.{JoinTree-F}
use Rattle.jp_query.specs.declared.Expr.TheFolds.{map-JoinTree, fold-roll-JoinTree}
use Rattle.jp_query.specs.declared.JoinKind.{JoinKind}
use Rattle.jp_query.specs.declared.JoinKind.TheVariants as join
use Rattle.jp_query.specs.declared.JoinTree.{JoinTree}
use Rattle.jp_query.specs.declared.Order.{Order}
use Rattle.jp_query.specs.declared.Output.{Output}
use Rattle.jp_query.specs.declared.Query.{Query}
use Rattle.jp_query.specs.Joins.{join_rels}
use Rattle.jp_query.specs.Refs.{only, union}
use Rattle.jp_query.specs.Typing.{is_listed}
use Rattle.jp_query.specs.Meaning.{Row, Env, ValueIn, Tuples, holds, with_row, with_rows, without, or_else, pairs, pairs_or_alone, has_match, has_no_match, is_unmatched, left_join, join_tuples, extended, with_member, combined, rels_in, tree_tuples, value_of, tuples_of, meaning}
use Rattle.jp_query.specs.Layers.{JoinTreeLayer}
use Rattle.jp_query.specs.Parts.{trees, tree_rels, rels_of}
use Rattle.jp_query.proofs.RelsLaw.{rels_same}
use Rattle.jp_induction.proofs.EachPart.{Each}
use Rattle.jp_induction.proofs.Induction.{tree_alone}
use Rattle.jp_induction.proofs.Meanings.{tree_level, at_tree}
use Rattle.jp_induction.proofs.Rewriting.{fused_tree}
use Rattle.jp_laws.specs.Rooted.{Rooting, rels_of_rooting, has_root, both_rooted, sides_rooted, tree_rooting, rooting_of, is_rooted}
use Rattle.std.proofs.lemmas.Bool.{ne_eqb}
use Rattle.jp_facts.proofs.Members.{In, to_in, from_filter, from_append}
use Rattle.jp_laws.proofs.ValueLaws.{and_left, and_right}

-- ---- members of lists

module _ (S : Env → Type 0) where
  from_map : (f : Env → Env) (xs : List Env) → ((u : Env) → In u xs → S (f u)) → (m : Env) → In m (map f xs) → S m
  from_map f [] each m h = absurd h
  from_map f (x ∷ xs) each m (inl e) = subst S e (each x (inl refl))
  from_map f (x ∷ xs) each m (inr r) = from_map f xs (λ u g. each u (inr g)) m r

  from_flat : (f : Env → List Env) (xs : List Env) → ((u : Env) → In u xs → (m : Env) → In m (f u) → S m) → (m : Env) → In m (flat_map f xs) → S m
  from_flat f [] each m h = absurd h
  from_flat f (x ∷ xs) each m h = elim (from_append m (f x) (flat_map f xs) h) [
    | inl p ↦ each x (inl refl) m p
    | inr q ↦ from_flat f xs (λ u g. each u (inr g)) m q
  ]

  from_else : (alone : Env) (xs : List Env) → S alone → ((m : Env) → In m xs → S m) → (m : Env) → In m (or_else xs alone) → S m
  from_else alone [] s each m (inl e) = subst S e s
  from_else alone [] s each m (inr r) = absurd r
  from_else alone (x ∷ xs) s each m h = each m h

-- ---- presence

abbrev Shown : ℕ → Env → Type 0
Shown rels x = (i : ℕ) × Has rels i × (row : Row) × (x i ≡ Some row)

abbrev AllShown : ℕ → List Env → Type 0
AllShown rels xs = (x : Env) → In x xs → Shown rels x

leaf_shown : (rel : ℕ) (env : Env) (rows : List Row) → AllShown (only rel) (map (with_row env rel) rows)
leaf_shown rel env [] x h = absurd h
leaf_shown rel env (row ∷ rows) x (inl e) = (rel, bit_at-pow_same rel, row, ap (λ (z : Env). z rel) (sym e) ∙ ap (λ b. if b then Some row else env rel) (eq-eqb rel rel refl))
leaf_shown rel env (row ∷ rows) x (inr r) = leaf_shown rel env rows x r

shown_rows : (l r : ℕ) (x u : Env) → Shown r u → Shown (bit_or l r) (with_rows r x u)
shown_rows l r x u s = (s.0, (has_or l r s.0).1 (inr s.1), s.2, ap (λ b. if b then u s.0 else x s.0) (eq-eqb (bit_at r s.0) 1 s.1) ∙ s.3)

abbrev Apart : ℕ → ℕ → Type 0
Apart l r = (i : ℕ) → Has l i → Has r i → ⊥

shown_without : (l r : ℕ) → Apart l r → (x : Env) → Shown l x → Shown (bit_or l r) (without r x)
shown_without l r apart x s = (s.0, (has_or l r s.0).1 (inl s.1), s.2, ap (λ b. if b then None else x s.0) (ne_eqb (bit_at r s.0) 1 (apart s.0 s.1)) ∙ s.3)

module _ (on : List ValueIn) where
  pairs_shown : (l r : ℕ) (rights : List Env) → AllShown r rights → (x : Env) → AllShown (bit_or l r) (pairs on r rights x)
  pairs_shown l r rights each x m h = from_map (Shown (bit_or l r)) (with_rows r x) rights (λ u g. shown_rows l r x u (each u g)) m (from_filter (holds on) m (map (with_rows r x) rights) h).1

  left_shown : (l r : ℕ) → Apart l r → (lefts rights : List Env) → AllShown l lefts → AllShown r rights → AllShown (bit_or l r) (left_join on r lefts rights)
  left_shown l r apart lefts rights a b = from_flat (Shown (bit_or l r)) (pairs_or_alone on r rights) lefts
      (λ x g. from_else (Shown (bit_or l r)) (without r x) (pairs on r rights x) (shown_without l r apart x (a x g)) (pairs_shown l r rights b x))

  full_shown : (l r : ℕ) → Apart l r → (lefts rights : List Env) → AllShown l lefts → AllShown r rights → AllShown (bit_or l r) (join_tuples join.Full on l lefts r rights)
  full_shown l r apart lefts rights a b m h = elim (from_append m (left_join on r lefts rights) (map (without l) (filter (is_unmatched on r lefts) rights)) h) [
    | inl p ↦ left_shown l r apart lefts rights a b m p
    | inr q ↦ subst (λ n. Shown n m) (or_comm r l) (from_map (Shown (bit_or r l)) (without l) (filter (is_unmatched on r lefts) rights) (λ u g. shown_without r l (λ i p q. apart i q p) u (b u (from_filter (is_unmatched on r lefts) u rights g).1)) m q)
  ]

-- ---- trees

abbrev Good : Tuples → Rooting → Type 0
Good t r = (t.rels ≡ r.rels) × (r.rooted ≡ true → (env : Env) → AllShown t.rels (t.tuples env))

both_apart : (left right : Tuples) (a b : Rooting) → left.rels ≡ a.rels → right.rels ≡ b.rels → both_rooted a b ≡ true → Apart left.rels right.rels
both_apart left right a b e f h i p q =
    let zero_and : bit_and a.rels b.rels ≡ 0 = eqb-true (bit_and a.rels b.rels) 0 (and_right b.rooted (bit_and a.rels b.rels == 0) (and_right a.rooted (b.rooted && (bit_and a.rels b.rels == 0)) h)) in
    empty_zero (bit_and a.rels b.rels) zero_and i ((has_and a.rels b.rels i).1 (subst (λ n. Has n i) e p, subst (λ n. Has n i) f q))

first_rooted : (a b : Rooting) → both_rooted a b ≡ true → a.rooted ≡ true
first_rooted a b h = and_left a.rooted (b.rooted && (bit_and a.rels b.rels == 0)) h

second_rooted : (a b : Rooting) → both_rooted a b ≡ true → b.rooted ≡ true
second_rooted a b h = and_left b.rooted (bit_and a.rels b.rels == 0) (and_right a.rooted (b.rooted && (bit_and a.rels b.rels == 0)) h)

join_good : (kind : JoinKind) (on : List ValueIn) (left right : Tuples) (a b : Rooting) → Good left a → Good right b → sides_rooted kind a b ≡ true → (env : Env) → AllShown (join_rels kind left.rels right.rels) (join_tuples kind on left.rels (left.tuples env) right.rels (right.tuples env))
join_good join.Inner on left right a b g k h env = from_flat (Shown (bit_or left.rels right.rels)) (pairs on right.rels (right.tuples env)) (left.tuples env) (λ x p. pairs_shown on left.rels right.rels (right.tuples env) (k.1 (second_rooted a b h) env) x)
join_good join.Left on left right a b g k h env = left_shown on left.rels right.rels (both_apart left right a b g.0 k.0 h) (left.tuples env) (right.tuples env) (g.1 (first_rooted a b h) env) (k.1 (second_rooted a b h) env)
join_good join.Right on left right a b g k h env = λ m p. subst (λ n. Shown n m) (or_comm right.rels left.rels) (left_shown on right.rels left.rels (λ i q r. both_apart left right a b g.0 k.0 h i r q) (right.tuples env) (left.tuples env) (k.1 (second_rooted a b h) env) (g.1 (first_rooted a b h) env) m p)
join_good join.Full on left right a b g k h env = full_shown on left.rels right.rels (both_apart left right a b g.0 k.0 h) (left.tuples env) (right.tuples env) (g.1 (first_rooted a b h) env) (k.1 (second_rooted a b h) env)
join_good join.Semi on left right a b g k h env = λ m p. g.1 h env m (from_filter (has_match on right.rels (right.tuples env)) m (left.tuples env) p).1
join_good join.Anti on left right a b g k h env = λ m p. g.1 h env m (from_filter (has_no_match on right.rels (right.tuples env)) m (left.tuples env) p).1

abbrev EachShown : List Tuples → Type 0
EachShown [] = Unit {0}
EachShown (t ∷ ts) = ((env : Env) → AllShown t.rels (t.tuples env)) × EachShown ts

member_shown : (env : Env) (n : ℕ) (start : List Env) (t : Tuples) → AllShown t.rels (t.tuples env) → AllShown (bit_or n t.rels) (with_member env start t)
member_shown env n start t each = from_flat (Shown (bit_or n t.rels)) (extended t env) start (λ u g. from_map (Shown (bit_or n t.rels)) (with_rows t.rels u) (t.tuples env) (λ v p. shown_rows n t.rels u v (each v p)))

rest_shown : (env : Env) (n : ℕ) (start : List Env) (ts : List Tuples) → AllShown n start → EachShown ts → AllShown (fold bit_or n (map rels_in ts)) (fold (with_member env) start ts)
rest_shown env n start [] s each = s
rest_shown env n start (t ∷ ts) s each = rest_shown env (bit_or n t.rels) (with_member env start t) ts (member_shown env n start t (each.0 env)) each.1

combined_shown : (env : Env) (ts : List Tuples) → is_listed ts ≡ true → EachShown ts → AllShown (union (map rels_in ts)) (combined ts env)
combined_shown env [] l each = absurd (false_true l)
  where
    false_true : false ≡ true → ⊥
    false_true h = cc
combined_shown env (t ∷ ts) l each = rest_shown env (bit_or 0 t.rels) (with_member env (env ∷ []) t) ts (member_shown env 0 (env ∷ []) t (each.0 env)) each.1

-- the relations that are kept beside the word are those of the tree
pub rooting_rels : (t : JoinTree) → (rooting_of t).rels ≡ rels_of t
rooting_rels = fused_tree (Unit {0}) Rooting (Unit {0}) (Unit {0}) (Unit {0}) (Unit {0}) ℕ (Unit {0}) (Unit {0}) (Unit {0}) (λ x. tt) tree_rooting (λ o. tt) (λ o. tt) (λ q. tt) (λ x. tt) tree_rels (λ o. tt) (λ o. tt) (λ q. tt)
    (λ x. x) rels_of_rooting (λ x. x) (λ x. x) (λ x. x) (λ x. refl) at_level (λ x. refl) (λ x. refl) (λ x. refl)
  where
    at_level : (x : JoinTree-F (Unit {0}) Rooting (Unit {0}) (Unit {0}) (Unit {0})) → (tree_rooting x).rels ≡ tree_rels (map-JoinTree (Unit {0}) Rooting (Unit {0}) (Unit {0}) (Unit {0}) (Unit {0}) ℕ (Unit {0}) (Unit {0}) (Unit {0}) (λ x. x) rels_of_rooting (λ x. x) (λ x. x) (λ x. x) x)
    at_level (JoinTree-F.Base rel name table) = refl
    at_level (JoinTree-F.Sub rel name query) = refl
    at_level (JoinTree-F.Join kind left right on) = refl
    at_level (JoinTree-F.From members conds) = refl

module _ (tables : ℕ → List Row) where
  abbrev Holds : JoinTree → Type 0
  Holds t = is_rooted t ≡ true → (env : Env) → AllShown (tuples_of tables t).rels ((tuples_of tables t).tuples env)

  abbrev good_side : (t : JoinTree) → Holds t → Good (tuples_of tables t) (rooting_of t)
  good_side t h = (rels_same tables t ∙ sym (rooting_rels t), h)

  listed_same : (ts : List JoinTree) → is_listed (map rooting_of ts) ≡ true → is_listed (map (tuples_of tables) ts) ≡ true
  listed_same [] h = h
  listed_same (t ∷ ts) h = h

  shown_each : (ts : List JoinTree) → Each Holds ts → list_all has_root (map rooting_of ts) ≡ true → EachShown (map (tuples_of tables) ts)
  shown_each [] g h = tt
  shown_each (t ∷ ts) g h = let both = and_parts (is_rooted t) (list_all has_root (map rooting_of ts)) h in (g.0 both.0, shown_each ts g.1 both.1)

  level : (x : JoinTreeLayer) → Each Holds (trees x) → (tree_rooting (map-JoinTree Expr JoinTree Order Output Query (Unit {0}) Rooting (Unit {0}) (Unit {0}) (Unit {0}) (λ e. tt) rooting_of (λ o. tt) (λ u. tt) (λ q. tt) x)).rooted ≡ true
      → (env : Env) → AllShown (tree_tuples tables (tree_level tables x)).rels ((tree_tuples tables (tree_level tables x)).tuples env)
  level (JoinTree-F.Base rel name table) g h env = leaf_shown rel env (tables table)
  level (JoinTree-F.Sub rel name query) g h env = leaf_shown rel env (meaning tables query env)
  level (JoinTree-F.Join kind left right on) g h env = join_good kind (map (value_of tables) on) (tuples_of tables left) (tuples_of tables right) (rooting_of left) (rooting_of right) (good_side left g.0) (good_side right g.1.0) h env
  level (JoinTree-F.From members conds) g h env = λ m p.
      let both = and_parts (is_listed (map rooting_of members)) (list_all has_root (map rooting_of members)) h in
      combined_shown env (map (tuples_of tables) members) (listed_same members both.0) (shown_each members g both.1) m (from_filter (holds (map (value_of tables) conds)) m (combined (map (tuples_of tables) members) env) p).1

  good : (t : JoinTree) → Holds t
  good = tree_alone Holds (λ x g h. subst (λ (t : Tuples). (env : Env) → AllShown t.rels (t.tuples env)) (sym (at_tree tables x))
      (level x g (subst (λ (r : Rooting). r.rooted ≡ true) (fold-roll-JoinTree (Unit {0}) Rooting (Unit {0}) (Unit {0}) (Unit {0}) (λ x. tt) tree_rooting (λ o. tt) (λ o. tt) (λ q. tt) x) h)))

  pub some_present : (tree : JoinTree) (env tuple : Env) → is_rooted tree ≡ true → Contains ((tuples_of tables tree).tuples env) tuple → (i : ℕ) × Has (rels_of tree) i × (row : Row) × (tuple i ≡ Some row)
  some_present tree env tuple h c = subst (λ n. Shown n tuple) (rels_same tables tree) (good tree h env tuple (to_in tuple ((tuples_of tables tree).tuples env) c))
