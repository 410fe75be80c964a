-- The own leaves of a tree have different numbers, and no leaf inside one of its conditions has one of them.
use Rattle.std.proofs.Common.{◌≡◌, ◌∙◌, ap, sym, subst, refl, ℕ, ◌⊎◌, inl, inr, Bool, true, false, not, ◌&&◌, ◌||◌, List, [], ◌∷◌, ◌++◌, map, append-nil, append_assoc, eq-eqb}
use Rattle.std.specs.Prelude.{fold}
use Rattle.std.specs.List.{list_all}
use Rattle.std.proofs.lemmas.Bool.{and_parts}
use Rattle.jp_facts.proofs.Members.{In, Distinct, in_map, from_append, in_append_left, in_append_right, distinct_append}
use Rattle.jp_induction.proofs.EachPart.{Each}
use Rattle.jp_query.specs.declared.Expr.{Expr}
use Rattle.jp_query.specs.declared.JoinKind.{JoinKind}
use Rattle.jp_query.specs.declared.JoinKind.TheVariants as join
use Rattle.jp_query.specs.declared.JoinTree.{JoinTree}
use Rattle.jp_query.specs.declared.JoinTree.TheVariants as tree
use Rattle.jp_query.specs.declared.Query.{Query}
use Rattle.jp_query.specs.Conditions.{Leaf, Leaves, shares, leaf_is_apart, are_apart, no_leaves, leaf, expr_leaves, tree_leaves, order_leaves, output_leaves, query_leaves}
use Rattle.jp_query.specs.Conditions.{beside as leaves_beside, together as leaves_together}
use Rattle.jp_query.specs.OwnLeaves.{tree_own_leaves, own_leaves}
use Rattle.jp_query.specs.Parts.{all_in}
use Rattle.jp_query.proofs.FoldLaws as laws
use Rattle.jp_problem.specs.Shapes.{Shape, nothing, item, beside, filtered, together, joined, shape_of, exprs_in}
use Rattle.jp_problem.proofs.ShapeLaws.{at_base, at_sub, at_join, at_from}
use Rattle.jp_conditions.proofs.Entering.{own_leaf}
use Rattle.jp_conditions.proofs.Forms.{by_form}
use Rattle.jp_conditions.proofs.Judging.{expr_leaf_set, tree_leaf_set}
use Rattle.jp_conditions.proofs.Leaves.{HasLeaf, of_first, of_second, of_together}

-- ---- two lists of leaves that are apart

in_all : {X : Type 0} (p : X → Bool) (x : X) (xs : List X) → list_all p xs ≡ true → In x xs → p x ≡ true
in_all p x [] e h = absurd h
in_all p x (y ∷ xs) e (inl same) = ap p (sym same) ∙ (and_parts (p y) (list_all p xs) e).0
in_all p x (y ∷ xs) e (inr h) = in_all p x xs (and_parts (p y) (list_all p xs) e).1 h

unequal : false ≡ true → ⊥
unequal e = cc

none_shared : (xs : List ℕ) → shares xs [] ≡ false
none_shared [] = refl
none_shared (x ∷ xs) = none_shared xs

pub none_inside : (n : ℕ) (xs ys : List Leaf) (l : Leaf) → are_apart xs ys ≡ true → In (own_leaf n) xs → In l ys → l.number ≡ n → ⊥
none_inside n xs ys l e p q same =
    let test = in_all (leaf_is_apart (own_leaf n)) l ys (in_all (λ a. list_all (leaf_is_apart a) ys) (own_leaf n) xs e p) q in
    unequal (sym (ap (λ b. not b || false) (eq-eqb n l.number (sym same))) ∙ test)

pub none_around : (n : ℕ) (xs ys : List Leaf) (l : Leaf) → are_apart xs ys ≡ true → In l xs → In (own_leaf n) ys → l.number ≡ n → ⊥
none_around n xs ys l e p q same =
    let test = in_all (leaf_is_apart l) (own_leaf n) ys (in_all (λ a. list_all (leaf_is_apart a) ys) l xs e p) q in
    unequal (sym (ap (λ b. not b || shares l.sublinks []) (eq-eqb l.number n same) ∙ none_shared l.sublinks) ∙ test)

-- ---- leaves with own numbers and expressions

pub record Sheltered (xs : List ℕ) (es : List Expr) (all : Leaves) : Type 0 where
  pub distinct : Distinct xs
  pub found : (n : ℕ) → In n xs → In (own_leaf n) all.leaves
  pub inner : (e : Expr) (n : ℕ) → In e es → HasLeaf (expr_leaf_set e) n → HasLeaf all n
  pub away : (e : Expr) (n : ℕ) → In e es → In n xs → HasLeaf (expr_leaf_set e) n → ⊥

module _ (xs ys : List ℕ) (es fs : List Expr) (a b : Leaves) (p : a.apart ≡ true → Sheltered xs es a) (q : b.apart ≡ true → Sheltered ys fs b) (whole : (leaves_beside a b).apart ≡ true) where
  outer : (a.apart ≡ true) × ((b.apart && are_apart a.leaves b.leaves) ≡ true)
  outer = and_parts a.apart (b.apart && are_apart a.leaves b.leaves) whole

  both : (b.apart ≡ true) × (are_apart a.leaves b.leaves ≡ true)
  both = and_parts b.apart (are_apart a.leaves b.leaves) outer.1

  left : Sheltered xs es a
  left = p outer.0

  right : Sheltered ys fs b
  right = q both.0

  away_from : (e : Expr) (n : ℕ) → In e es ⊎ In e fs → In n xs ⊎ In n ys → HasLeaf (expr_leaf_set e) n → ⊥
  away_from e n (inl h) (inl k) l = left.away e n h k l
  away_from e n (inr h) (inr k) l = right.away e n h k l
  away_from e n (inl h) (inr k) l = let m = left.inner e n h l in none_around n a.leaves b.leaves m.0 both.1 m.1 (right.found n k) m.2
  away_from e n (inr h) (inl k) l = let m = right.inner e n h l in none_inside n a.leaves b.leaves m.0 both.1 (left.found n k) m.1 m.2

  inner_from : (e : Expr) (n : ℕ) → In e es ⊎ In e fs → HasLeaf (expr_leaf_set e) n → HasLeaf (leaves_beside a b) n
  inner_from e n (inl h) l = of_first n a b (left.inner e n h l)
  inner_from e n (inr h) l = of_second n a b (right.inner e n h l)

  pub sheltered_two : Sheltered (xs ++ ys) (es ++ fs) (leaves_beside a b)
  sheltered_two = record {
    distinct = distinct_append xs ys left.distinct right.distinct (λ n h k. none_inside n a.leaves b.leaves (own_leaf n) both.1 (left.found n h) (right.found n k) refl);
    found = λ n h. elim (from_append n xs ys h) [ inl k ↦ in_append_left (own_leaf n) a.leaves b.leaves (left.found n k) | inr k ↦ in_append_right (own_leaf n) a.leaves b.leaves (right.found n k) ];
    inner = λ e n h l. inner_from e n (from_append e es fs h) l;
    away = λ e n h k l. away_from e n (from_append e es fs h) (from_append n xs ys k) l;
  }

-- expressions alone, among the leaves inside them
of_exprs : (es : List Expr) → Sheltered [] es (leaves_together (map expr_leaf_set es))
of_exprs es = record {
  distinct = tt;
  found = λ n h. absurd h;
  inner = λ e n h l. of_together n (map expr_leaf_set es) (expr_leaf_set e) (in_map expr_leaf_set e es h) l;
  away = λ e n h k l. absurd k;
}

pub with_exprs : (xs : List ℕ) (es fs : List Expr) (a : Leaves) → (a.apart ≡ true → Sheltered xs es a) → (leaves_beside a (leaves_together (map expr_leaf_set fs))).apart ≡ true → Sheltered xs (es ++ fs) (leaves_beside a (leaves_together (map expr_leaf_set fs)))
with_exprs xs es fs a p whole = subst (λ ns. Sheltered ns (es ++ fs) (leaves_beside a (leaves_together (map expr_leaf_set fs)))) (append-nil xs) (sheltered_two xs [] es fs a (leaves_together (map expr_leaf_set fs)) p (λ e. of_exprs fs) whole)

pub fewer_exprs : (xs : List ℕ) (es : List Expr) (all : Leaves) → Sheltered xs es all → Sheltered xs [] all
fewer_exprs xs es all s = record { distinct = s.distinct; found = s.found; inner = λ e n h l. absurd h; away = λ e n h k l. absurd h }

one_leaf : (rel : ℕ) → Sheltered (rel ∷ []) [] (leaf rel)
one_leaf rel = record { distinct = (λ h. absurd h, tt); found = λ n h. in_map own_leaf n (rel ∷ []) h; inner = λ e n h l. absurd h; away = λ e n h k l. absurd h }

one_leaf_over : (rel : ℕ) (inside : Leaves) → Sheltered (rel ∷ []) [] (leaves_beside (leaf rel) inside)
one_leaf_over rel inside = record { distinct = (λ h. absurd h, tt); found = λ n h. in_append_left (own_leaf n) (leaf rel).leaves inside.leaves (in_map own_leaf n (rel ∷ []) h); inner = λ e n h l. absurd h; away = λ e n h k l. absurd h }

pub nothing_yet : Sheltered [] [] no_leaves
nothing_yet = record { distinct = tt; found = λ n h. absurd h; inner = λ e n h l. absurd h; away = λ e n h k l. absurd h }

-- ---- trees

abbrev Told : JoinTree → Type 0
Told t = (tree_leaf_set t).apart ≡ true → Sheltered (own_leaves t) (exprs_in (shape_of t)) (tree_leaf_set t)

told_of : (t : JoinTree) (xs : List ℕ) (shape : Shape) (all : Leaves) → own_leaves t ≡ xs → shape_of t ≡ shape → tree_leaf_set t ≡ all → (all.apart ≡ true → Sheltered xs (exprs_in shape) all) → Told t
told_of t xs shape all own form same h e =
    subst (λ ns. Sheltered ns (exprs_in (shape_of t)) (tree_leaf_set t)) (sym own) (subst (λ s. Sheltered xs (exprs_in s) (tree_leaf_set t)) (sym form) (subst (Sheltered xs (exprs_in shape)) (sym same) (h (sym (ap (λ (l : Leaves). l.apart) same) ∙ e))))

told_base : (rel : ℕ) (name : List ℕ) (table : ℕ) → Told (tree.Base rel name table)
told_base rel name table = told_of (tree.Base rel name table) (rel ∷ []) (item (tree.Base rel name table)) (leaf rel) (laws.at-Base (Unit {0}) (List ℕ) (Unit {0}) (Unit {0}) (Unit {0}) (λ x. tt) tree_own_leaves (λ o. tt) (λ u. tt) (λ q. tt) rel name table) (at_base rel name table)
    (laws.at-Base Leaves Leaves Leaves Leaves Leaves expr_leaves tree_leaves order_leaves output_leaves query_leaves rel name table) (λ e. one_leaf rel)

told_sub : (rel : ℕ) (name : List ℕ) (query : Query) → Told (tree.Sub rel name query)
told_sub rel name query = told_of (tree.Sub rel name query) (rel ∷ []) (item (tree.Sub rel name query)) (leaves_beside (leaf rel) _) (laws.at-Sub (Unit {0}) (List ℕ) (Unit {0}) (Unit {0}) (Unit {0}) (λ x. tt) tree_own_leaves (λ o. tt) (λ u. tt) (λ q. tt) rel name query) (at_sub rel name query)
    (laws.at-Sub Leaves Leaves Leaves Leaves Leaves expr_leaves tree_leaves order_leaves output_leaves query_leaves rel name query) (λ e. one_leaf_over rel _)

module _ (left right : JoinTree) (on : List Expr) (p : Told left) (q : Told right) where
  abbrev pair : Leaves
  pair = leaves_beside (leaves_beside no_leaves (tree_leaf_set left)) (tree_leaf_set right)

  abbrev all : Leaves
  all = leaves_beside (leaves_beside (leaves_beside no_leaves (tree_leaf_set left)) (tree_leaf_set right)) (leaves_together (map expr_leaf_set on))

  pair_told : pair.apart ≡ true → Sheltered (own_leaves left ++ own_leaves right) (exprs_in (shape_of left) ++ exprs_in (shape_of right)) pair
  pair_told = sheltered_two (own_leaves left) (own_leaves right) (exprs_in (shape_of left)) (exprs_in (shape_of right)) (leaves_beside no_leaves (tree_leaf_set left)) (tree_leaf_set right)
      (sheltered_two [] (own_leaves left) [] (exprs_in (shape_of left)) no_leaves (tree_leaf_set left) (λ e. nothing_yet) p) q

  all_told : all.apart ≡ true → Sheltered (own_leaves left ++ own_leaves right) (exprs_in (shape_of left) ++ exprs_in (shape_of right) ++ on) all
  all_told = with_exprs (own_leaves left ++ own_leaves right) (exprs_in (shape_of left) ++ exprs_in (shape_of right)) on pair pair_told

  of_kind : (kind : JoinKind) → all.apart ≡ true → Sheltered (own_leaves left ++ own_leaves right) (exprs_in (joined kind (tree.Join kind left right on) (shape_of left) (shape_of right) on)) all
  of_kind join.Inner e = all_told e
  of_kind join.Left e = all_told e
  of_kind join.Right e = all_told e
  of_kind join.Full e = fewer_exprs (own_leaves left ++ own_leaves right) (exprs_in (shape_of left) ++ exprs_in (shape_of right) ++ on) all (all_told e)
  of_kind join.Semi e = all_told e
  of_kind join.Anti e = all_told e

  told_join : (kind : JoinKind) → Told (tree.Join kind left right on)
  told_join kind = told_of (tree.Join kind left right on) (own_leaves left ++ own_leaves right) (joined kind (tree.Join kind left right on) (shape_of left) (shape_of right) on) all
      (laws.at-Join (Unit {0}) (List ℕ) (Unit {0}) (Unit {0}) (Unit {0}) (λ x. tt) tree_own_leaves (λ o. tt) (λ u. tt) (λ q. tt) kind left right on) (at_join kind left right on)
      (laws.at-Join Leaves Leaves Leaves Leaves Leaves expr_leaves tree_leaves order_leaves output_leaves query_leaves kind left right on) (of_kind kind)

members_told : (ts : List JoinTree) (start : Leaves) (xs : List ℕ) (shape : Shape) → Each Told ts → (start.apart ≡ true → Sheltered xs (exprs_in shape) start) → (fold leaves_beside start (map tree_leaf_set ts)).apart ≡ true
    → Sheltered (xs ++ all_in (map own_leaves ts)) (exprs_in (fold beside shape (map shape_of ts))) (fold leaves_beside start (map tree_leaf_set ts))
members_told [] start xs shape each p e = subst (λ ns. Sheltered ns (exprs_in shape) start) (sym (append-nil xs)) (p e)
members_told (t ∷ ts) start xs shape each p e =
    subst (λ ns. Sheltered ns (exprs_in (fold beside (beside shape (shape_of t)) (map shape_of ts))) (fold leaves_beside (leaves_beside start (tree_leaf_set t)) (map tree_leaf_set ts))) (append_assoc xs (own_leaves t) (all_in (map own_leaves ts)))
    (members_told ts (leaves_beside start (tree_leaf_set t)) (xs ++ own_leaves t) (beside shape (shape_of t)) each.1 (sheltered_two xs (own_leaves t) (exprs_in shape) (exprs_in (shape_of t)) start (tree_leaf_set t) p each.0) e)

told_from : (members : List JoinTree) (conds : List Expr) → Each Told members → Told (tree.From members conds)
told_from members conds each = told_of (tree.From members conds) (all_in (map own_leaves members)) (filtered (together (map shape_of members)) conds) (leaves_beside (leaves_together (map tree_leaf_set members)) (leaves_together (map expr_leaf_set conds)))
    (laws.at-From (Unit {0}) (List ℕ) (Unit {0}) (Unit {0}) (Unit {0}) (λ x. tt) tree_own_leaves (λ o. tt) (λ u. tt) (λ q. tt) members conds) (at_from members conds)
    (laws.at-From Leaves Leaves Leaves Leaves Leaves expr_leaves tree_leaves order_leaves output_leaves query_leaves members conds)
    (with_exprs (all_in (map own_leaves members)) (exprs_in (together (map shape_of members))) conds (leaves_together (map tree_leaf_set members)) (members_told members no_leaves [] nothing each (λ e. nothing_yet)))

pub told : (t : JoinTree) → (tree_leaf_set t).apart ≡ true → Sheltered (own_leaves t) (exprs_in (shape_of t)) (tree_leaf_set t)
told = by_form Told (record { base = told_base; sub = told_sub; join = λ kind left right on p q. told_join left right on p q kind; from = told_from })
