-- The lists of the methods under permutations of their inputs: each is a permutation of the plain list.
use Rattle.std.proofs.Common.{◌≡◌, ◌∙◌, ap, sym, subst, refl, inl, inr, Bool, true, false, not, cond, List, [], ◌∷◌, ◌++◌, map, filter, arith, append_assoc, append-nil, ◌||◌}
use Rattle.std.specs.List.{list_any, flat_map}
use Rattle.std.specs.List.Sorted.{IsPermutation}
use Rattle.std.proofs.lemmas.Bool.{both_ways, cond-false, false_from_ne_true}
use Rattle.std.proofs.lemmas.List.Sorted.{IsPermutation-refl, IsPermutation-sym, IsPermutation-cons, IsPermutation-trans, IsPermutation-middle, IsPermutation-append, IsPermutation-append_left, IsPermutation-append_right, IsPermutation-append_comm, IsPermutation-map, length_permutation, list_any-IsPermutation}
use Rattle.sqlite_keyed.proofs.ListLemmas.{along_permutation, IsPermutation-same, IsPermutation-flat_map, IsPermutation-filter, IsPermutation-flat_map_each, flat_map_none, flat_map_same_on}
use Rattle.jp_frame.specs.Maps.{Map, both}
use Rattle.jp_frame.specs.Frames.{Frame, Kind, Left, Semi, Anti}
use Rattle.jp_frame.specs.Steps.{Step, Inner, By}
use Rattle.jp_frame.specs.Methods.{matches, is_matched, left_rows, once_where, joined_rows, plain, both_with, matches_to, is_unmatched, right_first, inserted, sorted_by, Method, Nest, Hash, HashRight, Merge, IsAllowed, list_of}
use Rattle.jp_facts.proofs.Members.{In, Distinct, from_any, any_none, in_filter, from_filter}

-- ---- two lists per element

module _ {A B : Type 0} (g h : A → List B) where
  -- four lists in a row, the two in the middle exchanged
  middle : (a b c d : List B) → IsPermutation ((a ++ b) ++ (c ++ d)) ((a ++ c) ++ (b ++ d))
  middle a b c d =
      IsPermutation-trans ((a ++ b) ++ (c ++ d)) (a ++ ((c ++ b) ++ d)) ((a ++ c) ++ (b ++ d))
      (IsPermutation-trans ((a ++ b) ++ (c ++ d)) (a ++ ((b ++ c) ++ d)) (a ++ ((c ++ b) ++ d))
      (IsPermutation-same ((a ++ b) ++ (c ++ d)) (a ++ ((b ++ c) ++ d)) (simp append_assoc))
      (IsPermutation-append_right a ((b ++ c) ++ d) ((c ++ b) ++ d) (IsPermutation-append_left d (b ++ c) (c ++ b) (IsPermutation-append_comm b c))))
      (IsPermutation-same (a ++ ((c ++ b) ++ d)) ((a ++ c) ++ (b ++ d)) (simp append_assoc))

  pub flat_map_both : (xs : List A) → IsPermutation (flat_map (λ x. g x ++ h x) xs) (flat_map g xs ++ flat_map h xs)
  flat_map_both [] = IsPermutation-refl []
  flat_map_both (x ∷ xs) =
      IsPermutation-trans ((g x ++ h x) ++ flat_map (λ y. g y ++ h y) xs) ((g x ++ h x) ++ (flat_map g xs ++ flat_map h xs)) ((g x ++ flat_map g xs) ++ (h x ++ flat_map h xs))
      (IsPermutation-append_right (g x ++ h x) (flat_map (λ y. g y ++ h y) xs) (flat_map g xs ++ flat_map h xs) (flat_map_both xs))
      (middle (g x) (h x) (flat_map g xs) (flat_map h xs))

module _ (test : Map → Bool) where
  first_where : (x : Map) (xs : List Map) (b : Bool) → cond b (x ∷ filter test xs) (filter test xs) ≡ once_where b x ++ filter test xs
  first_where x xs true = refl
  first_where x xs false = refl

  filter_once : (xs : List Map) → flat_map (λ x. once_where (test x) x) xs ≡ filter test xs
  filter_once [] = refl
  filter_once (x ∷ xs) = ap (λ l. once_where (test x) x ++ l) (filter_once xs) ∙ sym (first_where x xs (test x))

-- ---- pairs of two lists, by the one or by the other first

module _ (test : Map → Bool) where
  one_where : Map → Map → List Map
  one_where a b = once_where (test (both a b)) (both a b)

  row_of : (a : Map) (rs : List Map) → flat_map (one_where a) rs ≡ matches test rs a
  unfolding one_where
  row_of a [] = refl
  row_of a (b ∷ rs) = ap (λ l. once_where (test (both a b)) (both a b) ++ l) (row_of a rs) ∙ sym (first_where test (both a b) (map (both a) rs) (test (both a b)))

  column_of : (a : Map) (ls : List Map) (b : Map) → one_where a b ++ matches_to test ls b ≡ matches_to test (a ∷ ls) b
  unfolding one_where
  column_of a ls b = sym (first_where test (both a b) (map (both_with b) ls) (test (both a b)))

  pub turned : (ls rs : List Map) → IsPermutation (flat_map (matches test rs) ls) (flat_map (matches_to test ls) rs)
  turned [] rs = IsPermutation-same [] (flat_map (matches_to test []) rs) (sym (flat_map_none (matches_to test []) (λ b. refl) rs))
  turned (a ∷ ls) rs =
      IsPermutation-trans (matches test rs a ++ flat_map (matches test rs) ls) (flat_map (one_where a) rs ++ flat_map (matches_to test ls) rs) (flat_map (matches_to test (a ∷ ls)) rs)
      (IsPermutation-append (matches test rs a) (flat_map (one_where a) rs) (flat_map (matches test rs) ls) (flat_map (matches_to test ls) rs)
      (IsPermutation-same (matches test rs a) (flat_map (one_where a) rs) (sym (row_of a rs))) (turned ls rs))
      (IsPermutation-trans (flat_map (one_where a) rs ++ flat_map (matches_to test ls) rs) (flat_map (λ b. one_where a b ++ matches_to test ls b) rs) (flat_map (matches_to test (a ∷ ls)) rs)
      (IsPermutation-sym (flat_map (λ b. one_where a b ++ matches_to test ls b) rs) (flat_map (one_where a) rs ++ flat_map (matches_to test ls) rs) (flat_map_both (one_where a) (matches_to test ls) rs))
      (IsPermutation-same (flat_map (λ b. one_where a b ++ matches_to test ls b) rs) (flat_map (matches_to test (a ∷ ls)) rs)
      (flat_map_same_on (λ b. one_where a b ++ matches_to test ls b) (matches_to test (a ∷ ls)) (column_of a ls) rs)))

  -- the rows of a left map are its matches, or it alone where there are none
  left_rows_at : (a : Map) (xs found : List Map) (b : Bool) → filter test xs ≡ found → list_any test xs ≡ b → left_rows a found ≡ found ++ once_where (not b) a
  left_rows_at a xs [] true e any = let h = from_any test xs any in absurd (subst (In h.0) e (in_filter test h.0 xs h.2 h.1))
  left_rows_at a xs [] false e any = refl
  left_rows_at a xs (x ∷ found) true e any = sym (append-nil (x ∷ found))
  left_rows_at a xs (x ∷ found) false e any = absurd (go (from_filter test x xs (subst (In x) (sym e) (inl refl))))
    where
      go : (test x ≡ true) × In x xs → ⊥
      go h = both_ways (test x) (any_none test x xs any h.1) h.0

  pub left_rows_are : (rs : List Map) (a : Map) → joined_rows Left test rs a ≡ matches test rs a ++ once_where (is_unmatched test rs a) a
  left_rows_are rs a = left_rows_at a (map (both a) rs) (matches test rs a) (is_matched test rs a) refl refl

  pub right_first_is : (ls rs : List Map) → IsPermutation (flat_map (joined_rows Left test rs) ls) (right_first test ls rs)
  right_first_is ls rs =
      IsPermutation-trans (flat_map (joined_rows Left test rs) ls) (flat_map (matches test rs) ls ++ filter (is_unmatched test rs) ls) (right_first test ls rs)
      (IsPermutation-trans (flat_map (joined_rows Left test rs) ls) (flat_map (λ a. matches test rs a ++ once_where (is_unmatched test rs a) a) ls) (flat_map (matches test rs) ls ++ filter (is_unmatched test rs) ls)
      (IsPermutation-same (flat_map (joined_rows Left test rs) ls) (flat_map (λ a. matches test rs a ++ once_where (is_unmatched test rs a) a) ls) (flat_map_same_on (joined_rows Left test rs) (λ a. matches test rs a ++ once_where (is_unmatched test rs a) a) (left_rows_are rs) ls))
      (subst (λ l. IsPermutation (flat_map (λ a. matches test rs a ++ once_where (is_unmatched test rs a) a) ls) (flat_map (matches test rs) ls ++ l)) (filter_once (is_unmatched test rs) ls)
      (flat_map_both (matches test rs) (λ a. once_where (is_unmatched test rs a) a) ls)))
      (IsPermutation-append_left (filter (is_unmatched test rs) ls) (flat_map (matches test rs) ls) (flat_map (matches_to test ls) rs) (turned ls rs))

-- ---- permuted inputs

left_rows_permuted : (a : Map) (xs ys : List Map) → IsPermutation xs ys → IsPermutation (left_rows a xs) (left_rows a ys)
left_rows_permuted a [] [] p = IsPermutation-refl (a ∷ [])
left_rows_permuted a [] (y ∷ ys) p = absurd (omega (arith, length_permutation [] (y ∷ ys) p))
left_rows_permuted a (x ∷ xs) [] p = absurd (omega (arith, length_permutation (x ∷ xs) [] p))
left_rows_permuted a (x ∷ xs) (y ∷ ys) p = p

module _ (test : Map → Bool) (rs others : List Map) (p : IsPermutation rs others) where
  matches_permuted : (a : Map) → IsPermutation (matches test rs a) (matches test others a)
  matches_permuted a = IsPermutation-filter test (map (both a) rs) (map (both a) others) (IsPermutation-map (both a) rs others p)

  matched_same : (a : Map) → is_matched test rs a ≡ is_matched test others a
  matched_same a = list_any-IsPermutation test (map (both a) rs) (map (both a) others) (IsPermutation-map (both a) rs others p)

  joined_permuted : (k : Kind) (a : Map) → IsPermutation (joined_rows k test rs a) (joined_rows k test others a)
  joined_permuted Left a = left_rows_permuted a (matches test rs a) (matches test others a) (matches_permuted a)
  joined_permuted Semi a = IsPermutation-same (joined_rows Semi test rs a) (joined_rows Semi test others a) (ap (λ b. once_where b a) (matched_same a))
  joined_permuted Anti a = IsPermutation-same (joined_rows Anti test rs a) (joined_rows Anti test others a) (ap (λ b. once_where (not b) a) (matched_same a))

module _ (f : Frame) (test : Map → Bool) (ls lefts rs rights : List Map) (p : IsPermutation ls lefts) (q : IsPermutation rs rights) where
  pub plain_permuted : (step : Step) → IsPermutation (plain f step test ls rs) (plain f step test lefts rights)
  plain_permuted Inner =
      IsPermutation-trans (flat_map (matches test rs) ls) (flat_map (matches test rights) ls) (flat_map (matches test rights) lefts)
      (IsPermutation-flat_map_each (matches test rs) (matches test rights) (matches_permuted test rs rights q) ls) (IsPermutation-flat_map (matches test rights) ls lefts p)
  plain_permuted (By s) =
      IsPermutation-filter test (flat_map (joined_rows (f.kind s) (f.on s) rs) ls) (flat_map (joined_rows (f.kind s) (f.on s) rights) lefts)
      (IsPermutation-trans (flat_map (joined_rows (f.kind s) (f.on s) rs) ls) (flat_map (joined_rows (f.kind s) (f.on s) rights) ls) (flat_map (joined_rows (f.kind s) (f.on s) rights) lefts)
      (IsPermutation-flat_map_each (joined_rows (f.kind s) (f.on s) rs) (joined_rows (f.kind s) (f.on s) rights) (joined_permuted (f.on s) rs rights q (f.kind s)) ls)
      (IsPermutation-flat_map (joined_rows (f.kind s) (f.on s) rights) ls lefts p))

-- ---- sorts

module _ (is_before : Map → Map → Bool) where
  inserted_at : (m n : Map) (rest : List Map) (b : Bool) → IsPermutation (m ∷ rest) (inserted is_before m rest) → IsPermutation (m ∷ n ∷ rest) (cond b (n ∷ inserted is_before m rest) (m ∷ n ∷ rest))
  inserted_at m n rest true p =
      IsPermutation-trans (m ∷ n ∷ rest) (n ∷ m ∷ rest) (n ∷ inserted is_before m rest) (IsPermutation-sym (n ∷ m ∷ rest) (m ∷ n ∷ rest) (IsPermutation-middle (n ∷ []) m rest)) (IsPermutation-cons n (m ∷ rest) (inserted is_before m rest) p)
  inserted_at m n rest false p = IsPermutation-refl (m ∷ n ∷ rest)

  inserted_permuted : (m : Map) (rest : List Map) → IsPermutation (m ∷ rest) (inserted is_before m rest)
  inserted_permuted m [] = IsPermutation-refl (m ∷ [])
  inserted_permuted m (n ∷ rest) = inserted_at m n rest (is_before n m) (inserted_permuted m rest)

  pub sorted_permuted : (rows : List Map) → IsPermutation rows (sorted_by is_before rows)
  sorted_permuted [] = IsPermutation-refl []
  sorted_permuted (m ∷ rest) =
      IsPermutation-trans (m ∷ rest) (m ∷ sorted_by is_before rest) (inserted is_before m (sorted_by is_before rest)) (IsPermutation-cons m rest (sorted_by is_before rest) (sorted_permuted rest)) (inserted_permuted m (sorted_by is_before rest))

-- ---- the methods

module _ (f : Frame) (test : Map → Bool) (ls rs : List Map) where
  pub method_permuted : (method : Method) (step : Step) → IsAllowed f method step → IsPermutation (plain f step test ls rs) (list_of f method step test ls rs)
  method_permuted Nest step allowed = IsPermutation-refl (plain f step test ls rs)
  method_permuted Hash step allowed = IsPermutation-refl (plain f step test ls rs)
  method_permuted HashRight Inner allowed = absurd allowed
  method_permuted HashRight (By s) allowed =
      IsPermutation-filter test (flat_map (joined_rows (f.kind s) (f.on s) rs) ls) (right_first (f.on s) ls rs)
      (subst (λ k. IsPermutation (flat_map (joined_rows k (f.on s) rs) ls) (right_first (f.on s) ls rs)) (sym allowed) (right_first_is (f.on s) ls rs))
  method_permuted (Merge by_left by_right) step allowed = plain_permuted f test ls (sorted_by by_left ls) rs (sorted_by by_right rs) (sorted_permuted by_left ls) (sorted_permuted by_right rs) step

-- ---- what a permutation keeps

pub record Keeps (xs ys : List Map) : Type 0 where
  pub to : (m : Map) → In m xs → In m ys
  pub from : (m : Map) → In m ys → In m xs
  pub distinct : Distinct xs → Distinct ys

keeps_turn : (x y : Map) (xs : List Map) → Keeps (x ∷ y ∷ xs) (y ∷ x ∷ xs)
keeps_turn x y xs = record {
  to = λ m p. elim p [ inl e ↦ inr (inl e) | inr q ↦ elim q [ inl e ↦ inl e | inr r ↦ inr (inr r) ] ];
  from = λ m p. elim p [ inl e ↦ inr (inl e) | inr q ↦ elim q [ inl e ↦ inl e | inr r ↦ inr (inr r) ] ];
  distinct = λ d. ((λ p. elim p [ inl e ↦ d.0 (inl (sym e)) | inr q ↦ d.1.0 q ]), ((λ p. d.0 (inr p)), d.1.1));
}

pub keeps : (xs ys : List Map) → IsPermutation xs ys → Keeps xs ys
keeps = along_permutation Keeps
    (λ xs. record { to = λ m p. p; from = λ m p. p; distinct = λ d. d })
    (λ x xs ys k. record {
      to = λ m p. elim p [ inl e ↦ inl e | inr q ↦ inr (k.to m q) ];
      from = λ m p. elim p [ inl e ↦ inl e | inr q ↦ inr (k.from m q) ];
      distinct = λ d. ((λ p. d.0 (k.from x p)), k.distinct d.1);
    })
    keeps_turn
    (λ xs ys zs k l. record { to = λ m p. l.to m (k.to m p); from = λ m p. k.from m (l.from m p); distinct = λ d. l.distinct (k.distinct d) })

-- ---- look-ups by key

module _ (test : Map → Bool) (a : Map) (same_key : Map → Bool) where
  skipped : (b : Map) (rest : List Map) (k : Bool) → same_key b ≡ k → (test (both a b) ≡ true → same_key b ≡ true) → matches test (filter same_key rest) a ≡ matches test rest a → matches test (cond k (b ∷ filter same_key rest) (filter same_key rest)) a ≡ matches test (b ∷ rest) a
  skipped b rest true e implies more = ap (λ l. cond (test (both a b)) (both a b ∷ l) l) more
  skipped b rest false e implies more = more ∙ sym (cond-false (test (both a b)) (both a b ∷ matches test rest a) (matches test rest a) (false_from_ne_true (test (both a b)) (λ t. both_ways (same_key b) e (implies t))))

  pub keyed_matches : (right : List Map) → ((b : Map) → test (both a b) ≡ true → same_key b ≡ true) → matches test (filter same_key right) a ≡ matches test right a
  keyed_matches [] implies = refl
  keyed_matches (b ∷ rest) implies = skipped b rest (same_key b) refl (implies b) (keyed_matches rest implies)

-- whether some map matches, by the list of those that do
is_found : List Map → Bool
is_found [] = false
is_found (m ∷ found) = true

any_of_filter : (test : Map → Bool) (xs : List Map) → list_any test xs ≡ is_found (filter test xs)
unfolding is_found
any_of_filter test [] = refl
any_of_filter test (x ∷ xs) = elim (test x) as (λ b. (b || list_any test xs) ≡ is_found (cond b (x ∷ filter test xs) (filter test xs))) [ true ↦ refl | false ↦ any_of_filter test xs ]

pub keyed_matched : (test : Map → Bool) (a : Map) (same_key : Map → Bool) (right : List Map) → ((b : Map) → test (both a b) ≡ true → same_key b ≡ true) → is_matched test (filter same_key right) a ≡ is_matched test right a
keyed_matched test a same_key right implies =
    any_of_filter test (map (both a) (filter same_key right)) ∙ ap is_found (keyed_matches test a same_key right implies) ∙ sym (any_of_filter test (map (both a) right))

module _ (test : Map → Bool) (b : Map) (same_key : Map → Bool) where
  skipped_to : (a : Map) (rest : List Map) (k : Bool) → same_key a ≡ k → (test (both a b) ≡ true → same_key a ≡ true) → matches_to test (filter same_key rest) b ≡ matches_to test rest b → matches_to test (cond k (a ∷ filter same_key rest) (filter same_key rest)) b ≡ matches_to test (a ∷ rest) b
  skipped_to a rest true e implies more = ap (λ l. cond (test (both a b)) (both a b ∷ l) l) more
  skipped_to a rest false e implies more = more ∙ sym (cond-false (test (both a b)) (both a b ∷ matches_to test rest b) (matches_to test rest b) (false_from_ne_true (test (both a b)) (λ t. both_ways (same_key a) e (implies t))))

  pub keyed_matches_to : (left : List Map) → ((a : Map) → test (both a b) ≡ true → same_key a ≡ true) → matches_to test (filter same_key left) b ≡ matches_to test left b
  keyed_matches_to [] implies = refl
  keyed_matches_to (a ∷ rest) implies = skipped_to a rest (same_key a) refl (implies a) (keyed_matches_to rest implies)
