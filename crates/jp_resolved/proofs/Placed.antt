-- Where two sublinks of one number stand in a select whose ORDER BY items repeat its outputs.
use Rattle.std.proofs.Common.{◌≡◌, ◌∙◌, ap, ap₂, sym, subst, refl, ℕ, suc, ◌+◌, ◌<◌, ◌≤◌, ◌⊎◌, inl, inr, Bool, true, false, List, [], ◌∷◌, ◌++◌, map, length, Option, arith}
use Rattle.std.specs.Prelude.{◌&&◌, ◌||◌, ◌==◌, not}
use Rattle.std.specs.List.{list_all, list_any}
use Rattle.std.proofs.lemmas.Bool.{and_from, ne_eqb, eq-eqb, eqb-true, or_left, or_right}
use Rattle.std.proofs.lemmas.List.{map-append}
use Rattle.jp_query.specs.declared.Expr.{Expr}
use Rattle.jp_query.specs.declared.Expr.TheFolds.{fold-roll-Query}
use Rattle.jp_query.specs.declared.Expr.TheViews.{roll-Query}
use Rattle.jp_query.specs.Freshness.{Position, Larger, Occurrence, larger_below, position_below, below, from_parts, listed_here, same_position, in_one_list, are_copies, inside_copies, may_stand, each_pair, expr_occurrences, tree_occurrences, order_occurrences, output_occurrences, query_occurrences, occurrences_in}
use Rattle.jp_query.specs.Layers.{QueryLayer}
use Rattle.jp_induction.proofs.EachPart.{Each, each_append}
use Rattle.jp_facts.proofs.Members.{In}
use Rattle.jp_resolved.specs.Sorted.{expr_of_output, expr_of_order}
use Rattle.jp_resolved.proofs.Rising.{Rising, IsBetween, rising_between, rising_map, rising_same}
use Rattle.jp_resolved.proofs.Standing.{occurrence_number, of_expr, of_tree, of_output, of_order, listed_number, outputs_are, orders_are}

-- ---- pairs

module _ {X : Type 0} (test : X → X → Bool) where
  pub pairs_append : (xs ys : List X) → each_pair test xs ≡ true → each_pair test ys ≡ true → Each (λ x. list_all (test x) ys ≡ true) xs → each_pair test (xs ++ ys) ≡ true
  pairs_append [] ys p q cross = q
  pairs_append (x ∷ xs) ys p q cross =
      and_from (list_all (test x) (xs ++ ys)) (each_pair test (xs ++ ys))
      (all_append x xs ys (left (list_all (test x) xs) (each_pair test xs) p) cross.0)
      (pairs_append xs ys (right (list_all (test x) xs) (each_pair test xs) p) q cross.1)
    where
      left : (a b : Bool) → (a && b) ≡ true → a ≡ true
      left true b h = refl
      left false b h = cc

      right : (a b : Bool) → (a && b) ≡ true → b ≡ true
      right true b h = h
      right false b h = cc

      all_append : (x : X) (xs ys : List X) → list_all (test x) xs ≡ true → list_all (test x) ys ≡ true → list_all (test x) (xs ++ ys) ≡ true
      all_append x [] ys p q = q
      all_append x (z ∷ xs) ys p q = and_from (test x z) (list_all (test x) (xs ++ ys)) (left (test x z) (list_all (test x) xs) p) (all_append x xs ys (right (test x z) (list_all (test x) xs) p) q)

  pub all_from : (x : X) (ys : List X) → Each (λ y. test x y ≡ true) ys → list_all (test x) ys ≡ true
  all_from x [] each = refl
  all_from x (y ∷ ys) each = and_from (test x y) (list_all (test x) ys) each.0 (all_from x ys each.1)

-- two of different numbers
apart_stand : (x y : Occurrence) → (x.number ≡ y.number → ⊥) → may_stand x y ≡ true
apart_stand x y h = ap (λ same. not same || (in_one_list x.listed_in y.listed_in || inside_copies x.around y.around)) (ne_eqb x.number y.number h)

all_behind : (a b : ℕ) (x : Occurrence) (ys : List Occurrence) → x.number < a → Each (IsBetween occurrence_number a b) ys → list_all (may_stand x) ys ≡ true
all_behind a b x [] low each = refl
all_behind a b x (y ∷ ys) low each = and_from (may_stand x y) (list_all (may_stand x) ys) (apart_stand x y (λ e. omega (arith, e, low, each.0.0))) (all_behind a b x ys low each.1)

pub rising_pairs : (a b : ℕ) (xs : List Occurrence) → Rising occurrence_number a b xs → each_pair may_stand xs ≡ true
rising_pairs a b [] h = refl
rising_pairs a b (x ∷ xs) h =
    and_from (list_all (may_stand x) xs) (each_pair may_stand xs)
    (all_behind (suc x.number) b x xs (omega arith) (rising_between occurrence_number (suc x.number) b xs h.1))
    (rising_pairs (suc x.number) b xs h.1)

-- ---- one sublink in two lists of a select

both_ways : Occurrence → Occurrence → Bool
both_ways x y = in_one_list x.listed_in y.listed_in || inside_copies x.around y.around

copy_of : (n : ℕ) (p : Position) (i j : ℕ) → (i ≡ j → ⊥) → ((n == n) && not ((i == j) && same_position p p)) ≡ true
copy_of n p i j apart = ap₂ (λ x y. x && not (y && same_position p p)) (eq-eqb n n refl) (ne_eqb i j apart)

in_copies : (p q : Larger) (ps qs : List Larger) → are_copies p q ≡ true → inside_copies (p ∷ ps) (q ∷ qs) ≡ true
in_copies p q ps qs h = or_left (list_any (are_copies p) (q ∷ qs)) (list_any (λ p. list_any (are_copies p) (q ∷ qs)) ps) (or_left (are_copies p q) (list_any (are_copies p) qs) h)

abbrev occurs : ℕ → List Larger → Option Position → Occurrence
occurs n around listed = record { number = n; around = around; listed_in = listed }

listed_twice : (n : ℕ) (around : List Larger) (listed : Option Position) (i j : ℕ) → (i ≡ j → ⊥)
    → both_ways (listed_here (below i (occurs n around listed))) (listed_here (below j (occurs n around listed))) ≡ true
unfolding both_ways
listed_twice n [] listed i j apart = refl
listed_twice n (p ∷ ps) listed i j apart =
    or_right (in_one_list (position_below i listed) (position_below j listed)) (inside_copies (map (larger_below i) (p ∷ ps)) (map (larger_below j) (p ∷ ps)))
    (in_copies (larger_below i p) (larger_below j p) (map (larger_below i) ps) (map (larger_below j) ps) (copy_of p.number p.position i j apart))

module _ (b : ℕ) (all : List Occurrence) (rising : Rising occurrence_number 1 b all) where
  -- an occurrence of the list, in a part from i on
  abbrev Shown : ℕ → Occurrence → Type 0
  Shown i z = (j : ℕ) × (s : Occurrence) × (i ≤ j) × In s all × (z ≡ listed_here (below j s))

  shown_stand : (i j : ℕ) (x y : Occurrence) → (i ≡ j → ⊥) → In x all → In y all → may_stand (listed_here (below i x)) (listed_here (below j y)) ≡ true
  unfolding both_ways
  shown_stand i j x y apart p q = either (x.number == y.number) refl
    where
      left_number : (i : ℕ) (x : Occurrence) → (listed_here (below i x)).number ≡ x.number
      left_number i x = listed_number (below i x)

      either : (same : Bool) → (x.number == y.number) ≡ same → may_stand (listed_here (below i x)) (listed_here (below j y)) ≡ true
      either false e = apart_stand (listed_here (below i x)) (listed_here (below j y)) (λ h. differ (x.number == y.number) e (eq-eqb x.number y.number (sym (left_number i x) ∙ h ∙ left_number j y)))
        where
          differ : (b : Bool) → b ≡ false → b ≡ true → ⊥
          differ true p q = cc
          differ false p q = cc
      either true e =
          let equal = rising_same occurrence_number 1 b all rising x y p q (eqb-true x.number y.number e) in
          subst (λ z. may_stand (listed_here (below i x)) (listed_here (below j z)) ≡ true) equal
          (or_right (not ((listed_here (below i x)).number == (listed_here (below j x)).number)) (both_ways (listed_here (below i x)) (listed_here (below j x))) (listed_twice x.number x.around x.listed_in i j apart))

  shown_all : (i j : ℕ) (x : Occurrence) (zs : List Occurrence) → i < j → In x all → Each (Shown j) zs → list_all (may_stand (listed_here (below i x))) zs ≡ true
  shown_all i j x [] less p each = refl
  shown_all i j x (z ∷ zs) less p each =
      and_from (may_stand (listed_here (below i x)) z) (list_all (may_stand (listed_here (below i x))) zs)
      (subst (λ w. may_stand (listed_here (below i x)) w ≡ true) (sym each.0.4) (shown_stand i each.0.0 x each.0.1 (λ e. omega (arith, e, less, each.0.2)) p each.0.3))
      (shown_all i j x zs less p each.1)

  -- what is asked of each list
  abbrev pub IsPart : Expr → Type 0
  IsPart e = (c : ℕ) × (d : ℕ) × Rising occurrence_number c d (of_expr e) × Each (λ s. In s all) (of_expr e)

  shown_part : (k j : ℕ) (xs : List Occurrence) → k ≤ j → Each (λ s. In s all) xs → Each (Shown k) (map listed_here (map (below j) xs))
  shown_part k j [] low each = tt
  shown_part k j (x ∷ xs) low each = ((j, x, low, each.0, refl), shown_part k j xs low each.1)

  shown_parts : (k j : ℕ) (es : List Expr) → k ≤ j → Each IsPart es → Each (Shown k) (map listed_here (from_parts j (map of_expr es)))
  shown_parts k j [] low each = tt
  shown_parts k j (e ∷ es) low each =
      subst (Each (Shown k)) (sym (map-append listed_here (map (below j) (of_expr e)) (from_parts (j + 1) (map of_expr es))))
      (each_append (Shown k) (map listed_here (map (below j) (of_expr e))) (map listed_here (from_parts (j + 1) (map of_expr es))) (shown_part k j (of_expr e) low each.0.3) (shown_parts k (j + 1) es (omega (arith, low)) each.1))

  cross : (i : ℕ) (xs zs : List Occurrence) → Each (λ s. In s all) xs → Each (Shown (i + 1)) zs → Each (λ x. list_all (may_stand x) zs ≡ true) (map listed_here (map (below i) xs))
  cross i [] zs each shown = tt
  cross i (x ∷ xs) zs each shown = (shown_all i (i + 1) x zs (omega arith) each.0 shown, cross i xs zs each.1 shown)

  part_rises : (i c d : ℕ) (xs : List Occurrence) → Rising occurrence_number c d xs → Rising occurrence_number c d (map listed_here (map (below i) xs))
  part_rises i c d xs h = rising_map occurrence_number occurrence_number listed_here listed_number c d (map (below i) xs) (rising_map occurrence_number occurrence_number (below i) (λ x. refl) c d xs h)

  listed_pairs : (i : ℕ) (es : List Expr) → Each IsPart es → each_pair may_stand (map listed_here (from_parts i (map of_expr es))) ≡ true
  listed_pairs i [] each = refl
  listed_pairs i (e ∷ es) each =
      let first = map listed_here (map (below i) (of_expr e)) in
      let more = map listed_here (from_parts (i + 1) (map of_expr es)) in
      ap (each_pair may_stand) (map-append listed_here (map (below i) (of_expr e)) (from_parts (i + 1) (map of_expr es)))
      ∙ pairs_append may_stand first more (rising_pairs each.0.0 each.0.1 first (part_rises i each.0.0 each.0.1 (of_expr e) each.0.2)) (listed_pairs (i + 1) es each.1)
      (cross i (of_expr e) more each.0.3 (shown_parts (i + 1) (i + 1) es (omega arith) each.1))

  -- those that stand elsewhere have other numbers
  others : (m n : ℕ) (zs ws : List Occurrence) → ((s : Occurrence) → In s all → (s.number < m) ⊎ (n ≤ s.number)) → Each (Shown 0) zs → Each (IsBetween occurrence_number m n) ws → Each (λ z. list_all (may_stand z) ws ≡ true) zs
  others m n [] ws out shown each = tt
  others m n (z ∷ zs) ws out shown each = (one ws each, others m n zs ws out shown.1 each)
    where
      number_is : z.number ≡ shown.0.1.number
      number_is = ap occurrence_number shown.0.4 ∙ listed_number (below shown.0.0 shown.0.1)

      one : (ws : List Occurrence) → Each (IsBetween occurrence_number m n) ws → list_all (may_stand z) ws ≡ true
      one [] each = refl
      one (w ∷ ws) each =
          and_from (may_stand z w) (list_all (may_stand z) ws)
          (apart_stand z w (λ e. elim (out shown.0.1 shown.0.3) [ inl h ↦ omega (arith, e, number_is, h, each.0.0) | inr h ↦ omega (arith, e, number_is, h, each.0.1) ]))
          (one ws each.1)

  pub all_placed : (level : QueryLayer) (m n : ℕ) → Each IsPart (map expr_of_output level.columns ++ map expr_of_order level.order) → ((s : Occurrence) → In s all → (s.number < m) ⊎ (n ≤ s.number))
      → ((i : ℕ) → Rising occurrence_number m n (from_parts i (of_tree level.tree ∷ map of_expr level.conds))) → each_pair may_stand (occurrences_in (roll-Query level)) ≡ true
  all_placed level m n parts out rest =
      let es = map expr_of_output level.columns ++ map expr_of_order level.order in
      let lists = map of_output level.columns ++ map of_order level.order in
      let same : lists ≡ map of_expr es = ap₂ (λ xs ys. xs ++ ys) (outputs_are level.columns) (orders_are level.order) ∙ sym (map-append of_expr (map expr_of_output level.columns) (map expr_of_order level.order)) in
      let here = map listed_here (from_parts 0 (map of_expr es)) in
      let k = length (map of_expr es) in
      let there = from_parts k (of_tree level.tree ∷ map of_expr level.conds) in
      ap (each_pair may_stand) (fold-roll-Query (List Occurrence) (List Occurrence) (List Occurrence) (List Occurrence) (List Occurrence) expr_occurrences tree_occurrences order_occurrences output_occurrences query_occurrences level ∙ ap (λ ls. map listed_here (from_parts 0 ls) ++ from_parts (length ls) (of_tree level.tree ∷ map of_expr level.conds)) same)
      ∙ pairs_append may_stand here there (listed_pairs 0 es parts) (rising_pairs m n there (rest k))
      (others m n here there out (shown_parts 0 0 es (omega arith) parts) (rising_between occurrence_number m n there (rest k)))
