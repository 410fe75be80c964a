-- A stable sort of tuples by their keys is the sort of their maps.
use Rattle.std.proofs.Common.{◌≡◌, ◌∙◌, ap, ap₂, sym, subst, refl, ℕ, suc, zero, ◌+◌, ◌<◌, Bool, true, false, cond, not, ◌&&◌, List, [], ◌∷◌, ◌++◌, map, filter, length, get_or, take, arith}
use Rattle.std.specs.Prelude.{All, if◌then◌else◌}
use Rattle.std.specs.Cmp.{IsStrictWeakOrder}
use Rattle.std.specs.declared.cmp.Ordering.{Ordering}
use Rattle.std.specs.declared.cmp.Ordering.TheVariants as ordering
use Rattle.std.specs.Ordering.{is_lt, ordering_then}
use Rattle.std.specs.List.Sorted.{IsPermutation, IsSortedBy, IsStableBy, ties}
use Rattle.std.proofs.lemmas.List.{get_or-map, length-map, map-append, take_more}
use Rattle.std.proofs.lemmas.List.Sorted.{All-permutation, IsPermutation-refl, IsPermutation-cons, IsPermutation-sym, IsPermutation-trans, IsPermutation-middle}
use Rattle.jp_base.specs.Cells.{value_of_cell}
use Rattle.jp_base.specs.declared.cells.Cell.{Cell}
use Rattle.jp_base.specs.declared.cells.Cell.TheVariants as cell
use Rattle.jp_base.specs.declared.values.Value.{Value}
use Rattle.jp_base.specs.declared.values.Value.TheVariants as value
use Rattle.jp_query.specs.declared.Expr.{Expr}
use Rattle.jp_query.specs.Ordering.{Line, is_before, key_order}
use Rattle.jp_laws.proofs.UniqueSorts.{one_list}
use Rattle.jp_laws.proofs.ValueLaws.{lines_weak, and_left, and_right}
use Rattle.jp_induction.proofs.EachPart.{Each, all_of_each, each_append, each_of}
use Rattle.jp_frame.specs.Maps.{Map}
use Rattle.jp_frame.specs.Methods.{inserted, sorted_by}
use Rattle.jp_joins.specs.Meant.{Meant, value_at}
use Rattle.jp_joins.specs.Sorting.{IsKeyed, ascending, key_before, keyed_before, map_of_keyed, stands_before, value_of_keyed}
use Rattle.jp_joins.specs.Tuples.{map_of, maps_of}
use Rattle.jp_joins.specs.declared.sorting.Keyed.{Keyed}
use Rattle.jp_joins.specs.declared.tuples.Tuple.{Tuple}
use Rattle.jp_joins.proofs.JoinFacts.{no_tuple, value_of_map}

module _ (lt : Map → Map → Bool) (weak : IsStrictWeakOrder lt) where
  moved : (line next : Map) (lines : List Map) (b : Bool) → IsPermutation (line ∷ lines) (inserted lt line lines) → IsPermutation (line ∷ next ∷ lines) (if b then next ∷ inserted lt line lines else line ∷ next ∷ lines)
  moved line next lines true ih = IsPermutation-trans (line ∷ next ∷ lines) (next ∷ line ∷ lines) (next ∷ inserted lt line lines) (IsPermutation-sym (next ∷ line ∷ lines) (line ∷ next ∷ lines) (IsPermutation-middle (next ∷ []) line lines)) (IsPermutation-cons next (line ∷ lines) (inserted lt line lines) ih)
  moved line next lines false ih = IsPermutation-refl (line ∷ next ∷ lines)

  inserts : (line : Map) (lines : List Map) → IsPermutation (line ∷ lines) (inserted lt line lines)
  inserts line [] = IsPermutation-refl (line ∷ [])
  inserts line (next ∷ lines) = moved line next lines (lt next line) (inserts line lines)

  pub permutes : (lines : List Map) → IsPermutation lines (sorted_by lt lines)
  permutes [] = IsPermutation-refl []
  permutes (line ∷ lines) = IsPermutation-trans (line ∷ lines) (line ∷ sorted_by lt lines) (inserted lt line (sorted_by lt lines)) (IsPermutation-cons line lines (sorted_by lt lines) (permutes lines)) (inserts line (sorted_by lt lines))

  -- ---- in order

  abbrev Ahead : Map → List Map → Type 0
  Ahead line [] = Unit {0}
  Ahead line (next ∷ lines) = lt next line ≡ false

  abbrev Up : List Map → Type 0
  Up [] = Unit {0}
  Up (line ∷ lines) = Ahead line lines × Up lines

  ahead_at : (first line next : Map) (lines : List Map) (b : Bool) → lt line first ≡ false → lt next first ≡ false → Ahead first (if b then next ∷ inserted lt line lines else line ∷ next ∷ lines)
  ahead_at first line next lines true p q = q
  ahead_at first line next lines false p q = p

  ahead : (first line : Map) (lines : List Map) → lt line first ≡ false → Ahead first lines → Ahead first (inserted lt line lines)
  ahead first line [] p a = p
  ahead first line (next ∷ lines) p a = ahead_at first line next lines (lt next line) p a

  up_at : (line next : Map) (lines : List Map) (b : Bool) → lt next line ≡ b → Ahead next lines → Up lines → Up (inserted lt line lines) → Up (if b then next ∷ inserted lt line lines else line ∷ next ∷ lines)
  up_at line next lines true e a u ih = (ahead next line lines (weak.one_way next line e) a, ih)
  up_at line next lines false e a u ih = (e, (a, u))

  up_inserted : (line : Map) (lines : List Map) → Up lines → Up (inserted lt line lines)
  up_inserted line [] u = (tt, tt)
  up_inserted line (next ∷ lines) u = up_at line next lines (lt next line) refl u.0 u.1 (up_inserted line lines u.1)

  up_sorted : (lines : List Map) → Up (sorted_by lt lines)
  up_sorted [] = tt
  up_sorted (line ∷ lines) = up_inserted line (sorted_by lt lines) (up_sorted lines)

  up_pairs : (lines : List Map) → Up lines → (k : ℕ) (d : Map) → suc k < length lines → lt (get_or lines (suc k) d) (get_or lines k d) ≡ false
  up_pairs [] u k d low = absurd (omega arith)
  up_pairs (x ∷ []) u k d low = absurd (omega arith)
  up_pairs (x ∷ y ∷ lines) u zero d low = u.0
  up_pairs (x ∷ y ∷ lines) u (suc k) d low = up_pairs (y ∷ lines) u.1 k d (omega arith)

  pub neighbours : (lines : List Map) → IsSortedBy (lt) (sorted_by lt lines)
  neighbours lines k d low high = let e : suc k ≡ k + 1 = omega arith in subst (λ m. lt (get_or (sorted_by lt lines) m d) (get_or (sorted_by lt lines) k d) ≡ false) e (up_pairs (sorted_by lt lines) (up_sorted lines) k d (omega arith))

  -- ---- what a test passes keeps its order, where none of it is before another

  module _ (p : Map → Bool) (level : (a b : Map) → p a ≡ true → p b ≡ true → lt a b ≡ false) where
    swaps : (line next : Map) (rest : List Map) (b c : Bool) → p line ≡ b → p next ≡ c → lt next line ≡ true → cond c (next ∷ cond b (line ∷ rest) rest) (cond b (line ∷ rest) rest) ≡ cond b (line ∷ cond c (next ∷ rest) rest) (cond c (next ∷ rest) rest)
    swaps line next rest true true e f h = let contrary : true ≡ false = sym h ∙ level next line f e in cc
    swaps line next rest true false e f h = refl
    swaps line next rest false true e f h = refl
    swaps line next rest false false e f h = refl

    kept_at : (line next : Map) (lines : List Map) (b : Bool) → lt next line ≡ b → filter p (inserted lt line lines) ≡ filter p (line ∷ lines) → filter p (if b then next ∷ inserted lt line lines else line ∷ next ∷ lines) ≡ filter p (line ∷ next ∷ lines)
    kept_at line next lines true e ih = ap (λ zs. cond (p next) (next ∷ zs) zs) ih ∙ swaps line next (filter p lines) (p line) (p next) refl refl e
    kept_at line next lines false e ih = refl

    kept : (line : Map) (lines : List Map) → filter p (inserted lt line lines) ≡ filter p (line ∷ lines)
    kept line [] = refl
    kept line (next ∷ lines) = kept_at line next lines (lt next line) refl (kept line lines)

    keeps : (lines : List Map) → filter p (sorted_by lt lines) ≡ filter p lines
    keeps [] = refl
    keeps (line ∷ lines) = kept line (sorted_by lt lines) ∙ ap (λ zs. cond (p line) (line ∷ zs) zs) (keeps lines)

  not_true : (b : Bool) → not b ≡ true → b ≡ false
  not_true true h = cc
  not_true false h = refl

  pub stable : (lines : List Map) → IsStableBy (lt) lines (sorted_by lt lines)
  stable lines x = keeps (ties (lt) x) (λ a b p q. weak.chain a x b (tied_one a p) (tied_two b q)) lines
    where
      tied_one : (a : Map) → ties (lt) x a ≡ true → lt a x ≡ false
      tied_one a h = not_true (lt a x) (and_right (not (lt x a)) (not (lt a x)) h)

      tied_two : (b : Map) → ties (lt) x b ≡ true → lt x b ≡ false
      tied_two b h = not_true (lt x b) (and_left (not (lt x b)) (not (lt b x)) h)

-- ---- the order of keys

only_first : (o : Ordering) → is_lt (ordering_then o ordering.Equal) ≡ is_lt o
only_first ordering.Less = refl
only_first ordering.Equal = refl
only_first ordering.Greater = refl

abbrev line_of : Value → Line
line_of v = record { outputs = []; keys = v ∷ [] }

as_lines : (v w : Value) → is_before (ascending ∷ []) (line_of v) (line_of w) ≡ key_before v w
as_lines v w = only_first (key_order ascending v w)

pub keys_weak : IsStrictWeakOrder key_before
keys_weak =
    let weak = lines_weak (ascending ∷ []) in
    record {
      one_way = λ v w h. sym (as_lines w v) ∙ weak.one_way (line_of v) (line_of w) (as_lines v w ∙ h);
      chain = λ u v w h k. sym (as_lines u w) ∙ weak.chain (line_of u) (line_of v) (line_of w) (as_lines u v ∙ h) (as_lines v w ∙ k);
    }

pub keyed_weak : IsStrictWeakOrder keyed_before
keyed_weak = record { one_way = λ a b. keys_weak.one_way (value_of_keyed a) (value_of_keyed b); chain = λ a b c. keys_weak.chain (value_of_keyed a) (value_of_keyed b) (value_of_keyed c) }

pub maps_weak : (meant : Meant) (side : Expr) → IsStrictWeakOrder (stands_before meant side)
maps_weak meant side = record { one_way = λ a b. keys_weak.one_way (value_at meant a side) (value_at meant b side); chain = λ a b c. keys_weak.chain (value_at meant a side) (value_at meant b side) (value_at meant c side) }

-- ---- the sort of tuples with their keys

cell_of : Value → Cell
cell_of value.Null = cell.Null
cell_of (value.Num n) = cell.Num n
cell_of (value.Bool b) = cell.Bool b
cell_of (value.Text t) = cell.Text (record { ref_ptr = (0, 0); now = t })

of_cell_of : (v : Value) → value_of_cell (cell_of v) ≡ v
unfolding cell_of
of_cell_of value.Null = refl
of_cell_of (value.Num n) = refl
of_cell_of (value.Bool b) = refl
of_cell_of (value.Text t) = refl

module _ (meant : Meant) (side : Expr) where
  abbrev before : Map → Map → Bool
  before = stands_before meant side

  -- a tuple that ties with what a map ties with
  abbrev like : Map → Keyed
  like z = record { key = cell_of (value_at meant z side); tuple = no_tuple }

  ties_same : (z : Map) (k : Keyed) → IsKeyed meant side k → ties before z (map_of_keyed k) ≡ ties keyed_before (like z) k
  ties_same z k is = ap₂ (λ (v w : Value). not (key_before v w) && not (key_before w v)) (sym (of_cell_of (value_at meant z side))) (sym is)

  pick : (k : Keyed) (ks : List Keyed) (rest : List Map) (p q : Bool) → p ≡ q → rest ≡ map map_of_keyed ks → cond p (map_of_keyed k ∷ rest) rest ≡ map map_of_keyed (cond q (k ∷ ks) ks)
  pick k ks rest p true e is = ap (λ b. cond b (map_of_keyed k ∷ rest) rest) e ∙ ap (λ ms. map_of_keyed k ∷ ms) is
  pick k ks rest p false e is = ap (λ b. cond b (map_of_keyed k ∷ rest) rest) e ∙ is

  tied : (z : Map) (ks : List Keyed) → Each (IsKeyed meant side) ks → filter (ties before z) (map map_of_keyed ks) ≡ map map_of_keyed (filter (ties keyed_before (like z)) ks)
  tied z [] h = refl
  tied z (k ∷ ks) h = pick k (filter (ties keyed_before (like z)) ks) (filter (ties before z) (map map_of_keyed ks)) (ties before z (map_of_keyed k)) (ties keyed_before (like z) k) (ties_same z k h.0) (tied z ks h.1)

  pub sorted_maps : (ks others : List Keyed) → All (IsKeyed meant side) ks → IsPermutation ks others → IsSortedBy keyed_before others → IsStableBy keyed_before ks others → map map_of_keyed others ≡ sorted_by before (map map_of_keyed ks)
  sorted_maps ks others keyed moved up stays =
      let there = All-permutation (IsKeyed meant side) ks others moved keyed in
      one_list before (maps_weak meant side) (map map_of_keyed others) (sorted_by before (map map_of_keyed ks)) (rises there)
      (neighbours before (maps_weak meant side) (map map_of_keyed ks))
      (λ z. tied z others (each_of (IsKeyed meant side) others there) ∙ ap (map map_of_keyed) (stays (like z)) ∙ sym (tied z ks (each_of (IsKeyed meant side) ks keyed)) ∙ sym (stable before (maps_weak meant side) (map map_of_keyed ks) z))
    where
      rises : All (IsKeyed meant side) others → IsSortedBy before (map map_of_keyed others)
      rises there k d low h =
          let next : k + 1 < length others = omega (arith, h, length-map others map_of_keyed) in
          let here : k < length others = omega (arith, next) in
          let x : Keyed = like d in
          ap₂ before (get_or-map map_of_keyed others (k + 1) x d next) (get_or-map map_of_keyed others k x d here)
          ∙ ap₂ key_before (sym (there (k + 1) x next)) (sym (there k x here)) ∙ up k x low next

  -- one more tuple with its key
  pub keyed_more : (ts : List Tuple) (i : ℕ) (d : Tuple) (ks now : List Keyed) (k : Keyed) → i < length ts → now ≡ ks ++ k ∷ [] → map_of_keyed k ≡ map_of (get_or ts i d)
      → value_of_keyed k ≡ value_at meant (get_or (maps_of ts) i []) side → map map_of_keyed ks ≡ maps_of (take i ts) → All (IsKeyed meant side) ks
      → (map map_of_keyed now ≡ maps_of (take (i + 1) ts)) × All (IsKeyed meant side) now
  keyed_more ts i d ks now k h is at key maps keys = (
    ap (map map_of_keyed) is ∙ map-append map_of_keyed ks (k ∷ []) ∙ ap₂ (λ (ms : List Map) (m : Map). ms ++ m ∷ []) maps at
        ∙ sym (ap maps_of (take_more ts i d h) ∙ map-append map_of (take i ts) (get_or ts i d ∷ [])),
    subst (All (IsKeyed meant side)) (sym is) (all_of_each (IsKeyed meant side) (ks ++ k ∷ []) (each_append (IsKeyed meant side) ks (k ∷ []) (each_of (IsKeyed meant side) ks keys)
        (key ∙ value_of_map meant side ts i d h ∙ ap (λ m. value_at meant m side) (sym at), tt))),
  )

-- what stands past the end of a list
abbrev pub no_keyed : Keyed
no_keyed = record { key = cell.Null; tuple = no_tuple }
