-- The environments of tuples: the search for a leaf, tuples that are put together, and relations that have a row.
use Rattle.std.proofs.Common.{◌≡◌, ◌∙◌, ap, ap₂, sym, subst, refl, ℕ, zero, suc, ◌+◌, ◌^◌, ◌<◌, ◌≤◌, ◌⊎◌, ◌↔◌, inl, inr, Bool, true, false, List, [], ◌∷◌, ◌++◌, length, get_or, drop, map, append_assoc, arith}
use Rattle.std.specs.Prelude.{Option, None, IsSome, IsTrue, is_some, min, bit_or, ◌==◌, ◌||◌, replicate, if◌then◌else◌}
use Rattle.std.proofs.Math.Path.{fun_ext}
use Rattle.std.proofs.lemmas.Bool.{cases_eq, cases_lt, eq-eqb, ne_eqb}
use Rattle.std.proofs.lemmas.List.{at_drop_more, at_drop_all, length-append}
use Rattle.std.proofs.lemmas.Nat.Bits.{bit_at-zero, bit_at-lt, bit_at_or, bit_at-pow_same, bit_at-pow_other}
use Rattle.std.specs.Int.{bit_at}
use Rattle.jp_base.specs.Sets.{Has}
use Rattle.jp_base.proofs.SetLemmas.{has_or, same_set}
use Rattle.jp_query.specs.Meaning.{Row, Env, has, with_row, with_rows, without}
use Rattle.jp_query.specs.Refs.{only}
use Rattle.jp_query.specs.Tables.{TableRows}
use Rattle.jp_naive.specs.Frames.{row_at, env_over, envs_over, env_after, kept_row, leaf_rows, rels_of}
use Rattle.jp_naive.specs.Joining.{single}
use Rattle.jp_naive.specs.declared.frames.Kept.{Kept}
use Rattle.std.specs.List.{range_with_len}
use Rattle.jp_naive.specs.declared.frames.OuterRow.{OuterRow}
use Rattle.jp_naive.specs.declared.frames.Leaf.{Leaf}

-- ---- sets of relations

has_none : (n : ℕ) → has 0 n ≡ false
has_none n = ap (λ k. k == 1) (bit_at-zero n)

has_more : (m s n : ℕ) → has (bit_or (only m) s) n ≡ (n == m || has s n)
has_more m s n = elim (cases_eq n m) [
  | inl same ↦ eq-eqb (bit_at (bit_or (2 ^ m) s) n) 1 (omega (arith, bit_at_or (2 ^ m) s n, bit_at-lt s n, ap (bit_at (2 ^ m)) same, bit_at-pow_same m)) ∙ sym (ap (λ b. b || has s n) (eq-eqb n m same))
  | inr other ↦ ap (λ k. k == 1) (omega (arith, bit_at_or (2 ^ m) s n, bit_at-pow_other m n other)) ∙ sym (ap (λ b. b || has s n) (ne_eqb n m other))
]

swapped : (a b c : ℕ) → bit_or a (bit_or b c) ≡ bit_or b (bit_or a c)
swapped a b c = same_set _ _ (λ i. (one_way a b c i, one_way b a c i))
  where
    one_way : (a b c i : ℕ) → Has (bit_or a (bit_or b c)) i → Has (bit_or b (bit_or a c)) i
    one_way a b c i h = elim ((has_or a (bit_or b c) i).0 h) [
      | inl p ↦ (has_or b (bit_or a c) i).1 (inr ((has_or a c i).1 (inl p)))
      | inr q ↦ elim ((has_or b c i).0 q) [
        | inl p ↦ (has_or b (bit_or a c) i).1 (inl p)
        | inr r ↦ (has_or b (bit_or a c) i).1 (inr ((has_or a c i).1 (inr r)))
      ]
    ]

pub with_none : (a : ℕ) → bit_or a 0 ≡ a
with_none a = same_set _ _ (λ i. (λ h. elim ((has_or a 0 i).0 h) [ inl p ↦ p | inr q ↦ absurd (omega (arith, bit_at-zero i, q)) ], λ h. (has_or a 0 i).1 (inl h)))

pub or_turned : (a b : ℕ) → bit_or a b ≡ bit_or b a
or_turned a b = ap (bit_or a) (sym (with_none b)) ∙ swapped a b 0 ∙ ap (bit_or b) (with_none a)

pub rels_together : (rights lefts : List Leaf) → rels_of (rights ++ lefts) ≡ bit_or (rels_of lefts) (rels_of rights)
rels_together [] lefts = sym (with_none (rels_of lefts))
rels_together (leaf ∷ rights) lefts = ap (bit_or (only leaf.rel)) (rels_together rights lefts) ∙ swapped (only leaf.rel) (rels_of lefts) (rels_of rights)

pub rels_of_one : (leaf : Leaf) → rels_of (leaf ∷ []) ≡ only leaf.rel
rels_of_one leaf = with_none (only leaf.rel)

-- ---- environments

module _ (tables : TableRows) where
  turned : (b h : Bool) (x y z : Option Row) → (if b then x else (if h then y else z)) ≡ (if b || h then (if b then x else y) else z)
  turned true h x y z = refl
  turned false h x y z = refl

  -- of its own relations a tuple has its rows, of the others those of the outer environment
  own_rows : (leaves : List Leaf) (numbers : List (Option ℕ)) (outer other : Env) (n : ℕ) → length numbers ≡ length leaves
      → env_over tables leaves numbers outer n ≡ with_rows (rels_of leaves) outer (env_over tables leaves numbers other) n
  own_rows [] numbers outer other n e = ap (λ (b : Bool). if b then other n else outer n) (sym (has_none n))
  own_rows (leaf ∷ leaves) [] outer other n e = absurd (omega (arith, e))
  own_rows (leaf ∷ leaves) (number ∷ numbers) outer other n e =
      let there = row_at tables leaf number in
      ap (λ (x : Option Row). if n == leaf.rel then there else x) (own_rows leaves numbers outer other n (omega (arith, e)))
      ∙ turned (n == leaf.rel) (has (rels_of leaves) n) there (env_over tables leaves numbers other n) (outer n)
      ∙ ap (λ (b : Bool). if b then (if n == leaf.rel then there else env_over tables leaves numbers other n) else outer n) (sym (has_more leaf.rel (rels_of leaves) n))

  pub own_over : (leaves : List Leaf) (numbers : List (Option ℕ)) (outer other : Env) → length numbers ≡ length leaves
      → env_over tables leaves numbers outer ≡ with_rows (rels_of leaves) outer (env_over tables leaves numbers other)
  own_over leaves numbers outer other e = fun_ext (λ n. own_rows leaves numbers outer other n e)

  -- the leaves of both, one after the other
  put_together : (rights lefts : List Leaf) (r l : List (Option ℕ)) (outer : Env) → length r ≡ length rights
      → env_over tables (rights ++ lefts) (r ++ l) outer ≡ env_over tables rights r (env_over tables lefts l outer)
  put_together [] lefts [] l outer e = refl
  put_together [] lefts (x ∷ r) l outer e = absurd (omega (arith, e))
  put_together (leaf ∷ rights) lefts [] l outer e = absurd (omega (arith, e))
  put_together (leaf ∷ rights) lefts (x ∷ r) l outer e = fun_ext (λ n. ap (λ (env : Env). if n == leaf.rel then row_at tables leaf x else env n) (put_together rights lefts r l outer (omega (arith, e))))

  pub pair_over : (rights lefts : List Leaf) (r l : List (Option ℕ)) (outer : Env) → length r ≡ length rights
      → env_over tables (rights ++ lefts) (r ++ l) outer ≡ with_rows (rels_of rights) (env_over tables lefts l outer) (env_over tables rights r outer)
  pair_over rights lefts r l outer e = put_together rights lefts r l outer e ∙ own_over rights r (env_over tables lefts l outer) outer e

  abbrev none : Option ℕ
  none = None

  pub length_absent : (n : ℕ) → length (replicate n none) ≡ n
  length_absent zero = refl
  length_absent (suc n) = ap suc (length_absent n)

  -- where its numbers are absent, a tuple takes its relations away
  absent_at : (leaves : List Leaf) (outer : Env) (n : ℕ) → env_over tables leaves (replicate (length leaves) None) outer n ≡ without (rels_of leaves) outer n
  absent_at [] outer n = ap (λ (b : Bool). if b then None else outer n) (sym (has_none n))
  absent_at (leaf ∷ leaves) outer n =
      ap (λ (x : Option Row). if n == leaf.rel then None else x) (absent_at leaves outer n)
      ∙ turned (n == leaf.rel) (has (rels_of leaves) n) None None (outer n)
      ∙ joined (n == leaf.rel) (n == leaf.rel || has (rels_of leaves) n)
      ∙ ap (λ (b : Bool). if b then None else outer n) (sym (has_more leaf.rel (rels_of leaves) n))
    where
      joined : (b c : Bool) → (if c then (if b then None else None) else outer n) ≡ (if c then None else outer n)
      joined true c = refl
      joined false c = refl

  pub absent_over : (leaves : List Leaf) (outer : Env) → env_over tables leaves (replicate (length leaves) None) outer ≡ without (rels_of leaves) outer
  absent_over leaves outer = fun_ext (absent_at leaves outer)

  pub left_alone : (rights lefts : List Leaf) (l : List (Option ℕ)) (outer : Env)
      → env_over tables (rights ++ lefts) (replicate (length rights) None ++ l) outer ≡ without (rels_of rights) (env_over tables lefts l outer)
  left_alone rights lefts l outer = put_together rights lefts (replicate (length rights) None) l outer (length_absent (length rights)) ∙ absent_over rights (env_over tables lefts l outer)

  without_later : (b h : Bool) (x y : Option Row) → (b ≡ true → h ≡ true → ⊥) → (if b then x else (if h then None else y)) ≡ (if h then None else (if b then x else y))
  without_later true true x y apart = absurd (apart refl refl)
  without_later true false x y apart = refl
  without_later false h x y apart = refl

  pub right_alone : (rights lefts : List Leaf) (r : List (Option ℕ)) (outer : Env) → length r ≡ length rights → ((n : ℕ) → has (rels_of lefts) n ≡ true → has (rels_of rights) n ≡ true → ⊥)
      → env_over tables (rights ++ lefts) (r ++ replicate (length lefts) None) outer ≡ without (rels_of lefts) (env_over tables rights r outer)
  right_alone rights lefts r outer e apart =
      put_together rights lefts r (replicate (length lefts) None) outer e
      ∙ ap (env_over tables rights r) (absent_over lefts outer)
      ∙ own_over rights r (without (rels_of lefts) outer) outer e
      ∙ fun_ext (λ n. without_later (has (rels_of rights) n) (has (rels_of lefts) n) (env_over tables rights r outer n) (outer n) (λ p q. apart n q p))
      ∙ ap (without (rels_of lefts)) (sym (own_over rights r outer outer e))

  -- ---- the search for a leaf

  pub next_leaf : (leaves : List Leaf) (numbers : List (Option ℕ)) (at : ℕ) (leaf : Leaf) (number : Option ℕ) (outer : Env) (n : ℕ) → at < length leaves → at < length numbers
      → env_over tables (drop at leaves) (drop at numbers) outer n
      ≡ (if n == (get_or leaves at leaf).rel then row_at tables (get_or leaves at leaf) (get_or numbers at number) else env_over tables (drop (at + 1) leaves) (drop (at + 1) numbers) outer n)
  next_leaf leaves numbers at leaf number outer n h k =
      at_drop_more (λ ls. env_over tables ls (drop at numbers) outer n) leaves at leaf h
      ∙ at_drop_more (λ rs. env_over tables (get_or leaves at leaf ∷ drop (at + 1) leaves) rs outer n) numbers at number k

  no_rows : (leaves : List Leaf) (outer : Env) (n : ℕ) → env_over tables leaves [] outer n ≡ outer n
  no_rows [] outer n = refl
  no_rows (leaf ∷ leaves) outer n = refl

  pub no_leaf : (leaves : List Leaf) (numbers : List (Option ℕ)) (at : ℕ) (outer : Env) (n : ℕ) → min (length leaves) (length numbers) ≤ at → env_over tables (drop at leaves) (drop at numbers) outer n ≡ outer n
  no_leaf leaves numbers at outer n h = elim (cases_lt (length numbers) (length leaves)) [
    | inl p ↦ at_drop_all (λ rs. env_over tables (drop at leaves) rs outer n) numbers at (omega (arith, h, p)) ∙ no_rows (drop at leaves) outer n
    | inr q ↦ at_drop_all (λ ls. env_over tables ls (drop at numbers) outer n) leaves at (omega (arith, h, q))
  ]

  pub passed_leaf : (leaves : List Leaf) (numbers : List (Option ℕ)) (at : ℕ) (leaf : Leaf) (outer : Env) (n : ℕ) → at < length leaves → at < length numbers → ¬ ((get_or leaves at leaf).rel ≡ n)
      → env_over tables (drop at leaves) (drop at numbers) outer n ≡ env_over tables (drop (at + 1) leaves) (drop (at + 1) numbers) outer n
  passed_leaf leaves numbers at leaf outer n h k other =
      let rest = env_over tables (drop (at + 1) leaves) (drop (at + 1) numbers) outer n in
      next_leaf leaves numbers at leaf None outer n h k
      ∙ ap (λ (b : Bool). if b then row_at tables (get_or leaves at leaf) (get_or numbers at None) else rest) (ne_eqb n (get_or leaves at leaf).rel (λ i. other (sym i)))

  pub this_leaf : (leaves : List Leaf) (numbers : List (Option ℕ)) (at : ℕ) (leaf : Leaf) (number : Option ℕ) (outer : Env) (n : ℕ) → at < length leaves → at < length numbers
      → leaf ≡ get_or leaves at leaf → number ≡ get_or numbers at number → leaf.rel ≡ n → env_over tables (drop at leaves) (drop at numbers) outer n ≡ row_at tables leaf number
  this_leaf leaves numbers at leaf number outer n h k is and_is same =
      let rest = env_over tables (drop (at + 1) leaves) (drop (at + 1) numbers) outer n in
      next_leaf leaves numbers at leaf number outer n h k
      ∙ ap₂ (λ (l : Leaf) (x : Option ℕ). if n == l.rel then row_at tables l x else rest) (sym is) (sym and_is)
      ∙ ap (λ (b : Bool). if b then row_at tables leaf number else rest) (eq-eqb n leaf.rel (sym same))

-- ---- the relations that have a row

pub present_more : (env : Env) (rel set new : ℕ) (found : Bool) → found ≡ is_some (env rel) → ((i : ℕ) → Has set i ↔ ((i < rel) × IsSome (env i)))
    → ((i : ℕ) → Has new i ↔ (Has set i ⊎ ((i ≡ rel) × IsTrue found))) → (i : ℕ) → Has new i ↔ ((i < rel + 1) × IsSome (env i))
present_more env rel set new found e inv more i = (to, from)
  where
    to : Has new i → (i < rel + 1) × IsSome (env i)
    to h = elim ((more i).0 h) [
      | inl p ↦ (omega (arith, ((inv i).0 p).0), ((inv i).0 p).1)
      | inr p ↦ (omega (arith, p.0), subst (λ k. IsSome (env k)) (sym p.0) (sym e ∙ p.1))
    ]

    from : (i < rel + 1) × IsSome (env i) → Has new i
    from h = elim (cases_eq i rel) [
      | inl same ↦ (more i).1 (inr (same, e ∙ subst (λ k. IsSome (env k)) same h.1))
      | inr other ↦ (more i).1 (inl ((inv i).1 (omega (arith, h.0, other), h.1)))
    ]

-- ---- outer rows

module _ (tables : TableRows) where
  after_both : (rs ss : List OuterRow) (further : Env) → env_after tables (rs ++ ss) further ≡ env_after tables rs (env_after tables ss further)
  after_both [] ss further = refl
  after_both (r ∷ rs) ss further = fun_ext (λ n. ap (λ (env : Env). if n == r.rel then kept_row tables r.row else env n) (after_both rs ss further))

  pub after_more : (rows more news : List OuterRow) (further : Env) → more ≡ rows ++ news → env_after tables more further ≡ env_after tables rows (env_after tables news further)
  after_more rows more news further e = ap (λ rs. env_after tables rs further) e ∙ after_both rows news further

  -- the rows of a tuple's leaves, one after the other
  pub kept_more : (leaves : List Leaf) (numbers : List (Option ℕ)) (at : ℕ) (leaf : Leaf) (kept : Option Kept) (outer : Env) → at < length leaves → at < length numbers → leaf ≡ get_or leaves at leaf
      → kept_row tables kept ≡ row_at tables leaf (get_or numbers at None) → env_over tables (drop at leaves) (drop at numbers) outer ≡ env_after tables (record { rel = leaf.rel; row = kept } ∷ []) (env_over tables (drop (at + 1) leaves) (drop (at + 1) numbers) outer)
  kept_more leaves numbers at leaf kept outer h k is e = fun_ext (λ n.
      let rest = env_over tables (drop (at + 1) leaves) (drop (at + 1) numbers) outer n in
      next_leaf tables leaves numbers at leaf None outer n h k
      ∙ ap (λ (l : Leaf). if n == l.rel then row_at tables l (get_or numbers at None) else rest) (sym is)
      ∙ ap (λ (x : Option Row). if n == leaf.rel then x else rest) (sym e))

  pub all_passed : (leaves : List Leaf) (numbers : List (Option ℕ)) (at : ℕ) (outer : Env) → min (length leaves) (length numbers) ≤ at → env_over tables (drop at leaves) (drop at numbers) outer ≡ outer
  all_passed leaves numbers at outer h = fun_ext (λ n. no_leaf tables leaves numbers at outer n h)

  -- ---- tuples of one leaf

  at_place : (before rows : List Row) (row d : Row) → get_or (before ++ row ∷ rows) (length before) d ≡ row
  at_place [] rows row d = refl
  at_place (b ∷ before) rows row d = at_place before rows row d

  rows_from : (f : Row → Env) (before rows : List Row) → map (λ k. f (get_or (before ++ rows) k [])) (range_with_len (length before) (length rows)) ≡ map f rows
  rows_from f before [] = refl
  rows_from f before (row ∷ rows) = ap₂ (λ (e : Env) (es : List Env). e ∷ es) (ap f (at_place before rows row []))
      (ap₂ (λ (all : List Row) (n : ℕ). map (λ k. f (get_or all k [])) (range_with_len n (length rows))) (sym (append_assoc before (row ∷ []) rows)) (omega (arith, length-append before (row ∷ [])))
      ∙ rows_from f (before ++ row ∷ []) rows)

  singles : (leaf : Leaf) (outer : Env) (ks : List ℕ) → envs_over tables (leaf ∷ []) outer (map single ks) ≡ map (λ k. with_row outer leaf.rel (get_or (leaf_rows tables leaf.source) k [])) ks
  singles leaf outer [] = refl
  singles leaf outer (k ∷ ks) = ap (λ es. with_row outer leaf.rel (get_or (leaf_rows tables leaf.source) k []) ∷ es) (singles leaf outer ks)

  pub one_leaf_envs : (leaf : Leaf) (outer : Env) (leaves : List Leaf) (list : List (List (Option ℕ))) (count : ℕ) → leaves ≡ leaf ∷ [] → list ≡ map single (range_with_len 0 count) → count ≡ length (leaf_rows tables leaf.source)
      → envs_over tables leaves outer list ≡ map (with_row outer leaf.rel) (leaf_rows tables leaf.source)
  one_leaf_envs leaf outer leaves list count e f g =
      ap₂ (λ ls ns. envs_over tables ls outer ns) e (f ∙ ap (λ n. map single (range_with_len 0 n)) g)
      ∙ singles leaf outer (range_with_len 0 (length (leaf_rows tables leaf.source)))
      ∙ rows_from (with_row outer leaf.rel) [] (leaf_rows tables leaf.source)
