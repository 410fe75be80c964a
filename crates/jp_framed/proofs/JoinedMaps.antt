-- Joins of maps are joins of their environments.
use Rattle.std.proofs.Common.{◌≡◌, ◌∙◌, ap, ap₂, sym, subst, refl, ℕ, suc, zero, ◌+◌, ◌<◌, inl, inr, Bool, true, false, not, ◌||◌, cond, List, [], ◌∷◌, ◌++◌, map, filter, length, get_or, Some, None, eq-eqb, arith}
use mathlib.Core.Path.{fun_ext}
use Rattle.std.specs.Prelude.{slice_get, if◌then◌else◌}
use Rattle.std.specs.Int.{bit_at}
use Rattle.std.specs.List.{list_any, flat_map}
use Rattle.std.proofs.lemmas.Bool.{cases_eq, ne_eqb}
use Rattle.std.proofs.lemmas.List.{length-append, append_assoc}
use Rattle.jp_base.specs.Sets.{Has}
use Rattle.jp_facts.proofs.Members.{In}
use Rattle.jp_query.specs.declared.Expr.{Expr}
use Rattle.jp_query.specs.Meaning.{Env, ValueIn, with_rows, without, or_else, holds, pairs, pairs_or_alone, has_match, has_no_match, no_outer_rows}
use Rattle.jp_problem.specs.Blocks.{rels_at}
use Rattle.jp_conditions.proofs.Items.{rels_of_set}
use Rattle.jp_frame.specs.Maps.{Map, at, both, NoneOn}
use Rattle.jp_frame.specs.Frames.{Left, Semi, Anti}
use Rattle.jp_frame.specs.Methods.{one_row, none_row, rows_of_item, matches, is_matched, left_rows, once_where, joined_rows}
use Rattle.jp_frame.proofs.MapLaws.{both_left, both_right}
use Rattle.jp_frame.proofs.Sets.{decide_has}
use Rattle.jp_framed.specs.Environments.{Setting, value_by, source_at, row_at, env_of, LiesOn, HasNoOwnRows}
use Rattle.jp_framed.specs.Framing.{AreApart, list_holds}
use Rattle.jp_framed.proofs.MapRows.{overlaid, left_alone, own_row, other_row, absent_rows, from_rels}

cleared : (r : ℕ) (x : Env) (i : ℕ) → Has r i → without r x i ≡ None
cleared r x i p = ap (λ b. if b then None else x i) (eq-eqb (bit_at r i) 1 p)

not_cleared : (r : ℕ) (x : Env) (i : ℕ) → ¬ Has r i → without r x i ≡ x i
not_cleared r x i n = ap (λ b. if b then None else x i) (ne_eqb (bit_at r i) 1 n)

-- the item of a relation, if there is one
pub data Owner (rels : List ℕ) (rel : ℕ) : Type 0 where
  owned : (i set : ℕ) → slice_get rels i ≡ Some set → Has set rel → Owner rels rel
  free : ((i set : ℕ) → slice_get rels i ≡ Some set → ¬ Has set rel) → Owner rels rel

same_some : {X : Type 0} (a b : X) → Some a ≡ Some b → a ≡ b
same_some a b e = cc

pub owner : (rels : List ℕ) (rel : ℕ) → Owner rels rel
owner [] rel = free (λ i set e. cc)
owner (r ∷ rels) rel = elim (decide_has r rel) [ inl p ↦ owned 0 r refl p | inr n ↦ later n (owner rels rel) ]
  where
    none_of : ¬ Has r rel → ((i set : ℕ) → slice_get rels i ≡ Some set → ¬ Has set rel) → (i set : ℕ) → slice_get (r ∷ rels) i ≡ Some set → ¬ Has set rel
    none_of n others zero set e h = n (subst (λ k. Has k rel) (sym (same_some r set e)) h)
    none_of n others (suc i) set e h = others i set e h

    later : ¬ Has r rel → Owner rels rel → Owner (r ∷ rels) rel
    later n (owned i set e p) = owned (suc i) set e p
    later n (free others) = free (none_of n others)

at_middle : (before rest : List Env) (x : Env) → get_or (before ++ x ∷ rest) (length before) no_outer_rows ≡ x
at_middle [] rest x = refl
at_middle (y ∷ before) rest x = at_middle before rest x

-- ---- tests of environments

module _ (env : Map → Env) (p : Env → Bool) where
  kept_one : (x : Map) (xs : List Map) (b : Bool) → map env (cond b (x ∷ xs) xs) ≡ cond b (env x ∷ map env xs) (map env xs)
  kept_one x xs true = refl
  kept_one x xs false = refl

  pub filtered : (xs : List Map) → map env (filter (λ m. p (env m)) xs) ≡ filter p (map env xs)
  filtered [] = refl
  filtered (x ∷ xs) = kept_one x (filter (λ m. p (env m)) xs) (p (env x)) ∙ ap (λ rest. cond (p (env x)) (env x ∷ rest) rest) (filtered xs)

module _ (rels : List ℕ) (setting : Setting) (apart : AreApart rels) where
  abbrev env : Map → Env
  env = env_of rels setting

  -- a relation of item i is one of the set exactly where i is in the set
  in_set : (set i own rel : ℕ) → slice_get rels i ≡ Some own → Has own rel → Has set i → Has (rels_at rels set) rel
  in_set set i own rel e p h = rels_of_set rels set i own e h rel p

  not_in_set : (set i own rel : ℕ) → slice_get rels i ≡ Some own → Has own rel → ¬ Has set i → ¬ Has (rels_at rels set) rel
  not_in_set set i own rel e p n h =
      let found = from_rels 0 rels set rel h in
      n (subst (Has set) (apart (0 + found.0) i found.1 own rel (subst (λ k. slice_get rels k ≡ Some found.1) (omega arith) found.2) e found.4 p) found.3)

  free_of_set : (set rel : ℕ) → ((i own : ℕ) → slice_get rels i ≡ Some own → ¬ Has own rel) → ¬ Has (rels_at rels set) rel
  free_of_set set rel none h = let found = from_rels 0 rels set rel h in none found.0 found.1 found.2 found.4

  module _ (right : ℕ) where
    both_at : (a b : Map) → NoneOn right a → LiesOn right b → (rel : ℕ) → Owner rels rel → env (both a b) rel ≡ with_rows (rels_at rels right) (env a) (env b) rel
    both_at a b none lies rel (free others) =
        other_row rels setting (both a b) rel others
        ∙ sym (other_row rels setting a rel others)
        ∙ sym (left_alone (rels_at rels right) (env a) (env b) rel (free_of_set right rel others))
    both_at a b none lies rel (owned i set e p) = own_row rels setting (both a b) i set rel apart e p ∙ elim (decide_has right i) [
      | inl h ↦ ap (λ place. row_at (source_at setting.sources i) place rel) (both_right a b i (none i h))
          ∙ sym (own_row rels setting b i set rel apart e p)
          ∙ sym (overlaid (rels_at rels right) (env a) (env b) rel (in_set right i set rel e p h))
      | inr n ↦ ap (λ place. row_at (source_at setting.sources i) place rel) (both_left a b i (lies i n))
          ∙ sym (own_row rels setting a i set rel apart e p)
          ∙ sym (left_alone (rels_at rels right) (env a) (env b) rel (not_in_set right i set rel e p n))
    ]

    pub env_both : (a b : Map) → NoneOn right a → LiesOn right b → env (both a b) ≡ with_rows (rels_at rels right) (env a) (env b)
    env_both a b none lies = fun_ext (λ rel. both_at a b none lies rel (owner rels rel))

    alone_at : (a : Map) → NoneOn right a → (rel : ℕ) → env a rel ≡ without (rels_at rels right) (env a) rel
    alone_at a none rel = elim (decide_has (rels_at rels right) rel) [
      | inl p ↦ absent_rows rels setting right a apart none rel p ∙ sym (cleared (rels_at rels right) (env a) rel p)
      | inr n ↦ sym (not_cleared (rels_at rels right) (env a) rel n)
    ]

    pub env_alone : (a : Map) → NoneOn right a → env a ≡ without (rels_at rels right) (env a)
    env_alone a none = fun_ext (alone_at a none)

  -- ---- scans

  none_rows : (n i : ℕ) → at (none_row n) i ≡ None
  none_rows zero i = refl
  none_rows (suc n) zero = refl
  none_rows (suc n) (suc i) = none_rows n i

  at_own : (n i r : ℕ) → i < n → at (one_row n i r) i ≡ Some r
  at_own zero i r low = absurd (omega arith)
  at_own (suc n) zero r low = refl
  at_own (suc n) (suc i) r low = at_own n i r (omega arith)

  at_other : (n i r j : ℕ) → (j ≡ i → ⊥) → at (one_row n i r) j ≡ None
  at_other zero i r j other = refl
  at_other (suc n) zero r zero other = absurd (other refl)
  at_other (suc n) zero r (suc j) other = none_rows n j
  at_other (suc n) (suc i) r zero other = refl
  at_other (suc n) (suc i) r (suc j) other = at_other n i r j (λ e. other (ap suc e))

  module _ (n i set r : ℕ) (low : i < n) (here : slice_get rels i ≡ Some set) (clear : HasNoOwnRows rels setting.outer) where
    abbrev row : Env
    row = row_at (source_at setting.sources i) (Some r)

    one_at : (rel : ℕ) → Owner rels rel → env (one_row n i r) rel ≡ with_rows set setting.outer row rel
    one_at rel (free others) = other_row rels setting (one_row n i r) rel others ∙ sym (left_alone set setting.outer row rel (others i set here))
    one_at rel (owned j own e p) = elim (cases_eq j i) [
      | inl same ↦ (let mine : Has set rel = subst (λ k. Has k rel) (same_some own set (sym e ∙ ap (slice_get rels) same ∙ here)) p in
          own_row rels setting (one_row n i r) i set rel apart here mine
          ∙ ap (λ place. row_at (source_at setting.sources i) place rel) (at_own n i r low)
          ∙ sym (overlaid set setting.outer row rel mine))
      | inr other ↦ own_row rels setting (one_row n i r) j own rel apart e p
          ∙ ap (λ place. row_at (source_at setting.sources j) place rel) (at_other n i r j other)
          ∙ sym (clear j own rel e p)
          ∙ sym (left_alone set setting.outer row rel (λ q. other (apart j i own set rel e here p q)))
    ]

    pub env_one : env (one_row n i r) ≡ with_rows set setting.outer row
    env_one = fun_ext (λ rel. one_at rel (owner rels rel))

  module _ (n i set : ℕ) (low : i < n) (here : slice_get rels i ≡ Some set) (clear : HasNoOwnRows rels setting.outer) where
    -- the item's rows from those in `before` on
    rows_from : (before rest : List Env) → source_at setting.sources i ≡ before ++ rest → map env (rows_of_item n i (length before) (length rest)) ≡ map (with_rows set setting.outer) rest
    rows_from before [] e = refl
    rows_from before (x ∷ rest) e =
        let one = env_one n i set (length before) low here clear ∙ ap (λ (source : List Env). with_rows set setting.outer (get_or source (length before) no_outer_rows)) e ∙ ap (with_rows set setting.outer) (at_middle before rest x) in
        let more = ap (λ k. map env (rows_of_item n i k (length rest))) (sym (length-append before (x ∷ []) ∙ omega arith)) ∙ rows_from (before ++ x ∷ []) rest (e ∙ sym (append_assoc before (x ∷ []) rest)) in
        ap₂ ◌∷◌ one more

    pub scanned : map env (rows_of_item n i 0 (length (source_at setting.sources i))) ≡ map (with_rows set setting.outer) (source_at setting.sources i)
    scanned = rows_from [] (source_at setting.sources i) refl

  -- ---- lists

  map_both : (xs ys : List Map) → map env (xs ++ ys) ≡ map env xs ++ map env ys
  map_both [] ys = refl
  map_both (x ∷ xs) ys = ap (λ rest. env x ∷ rest) (map_both xs ys)

  module _ (conds : List Expr) (right : ℕ) (rights : List Map) (lie : (b : Map) → In b rights → LiesOn right b) where
    abbrev test : Map → Bool
    test = list_holds rels setting conds

    abbrev on : List ValueIn
    on = map (value_by setting.sublinks) conds

    abbrev R : ℕ
    R = rels_at rels right

    all_both : (a : Map) → NoneOn right a → (bs : List Map) → ((b : Map) → In b bs → LiesOn right b) → map env (map (both a) bs) ≡ map (with_rows R (env a)) (map env bs)
    all_both a none [] l = refl
    all_both a none (b ∷ bs) l = ap₂ ◌∷◌ (env_both right a b none (l b (inl refl))) (all_both a none bs (λ x h. l x (inr h)))

    found : (a : Map) → NoneOn right a → map env (matches test rights a) ≡ pairs on R (map env rights) (env a)
    found a none = filtered env (holds on) (map (both a) rights) ∙ ap (filter (holds on)) (all_both a none rights lie)

    any_mapped : (p : Env → Bool) (xs : List Map) → list_any (λ m. p (env m)) xs ≡ list_any p (map env xs)
    any_mapped p [] = refl
    any_mapped p (x ∷ xs) = ap (λ b. p (env x) || b) (any_mapped p xs)

    any_row : (a : Map) (es : List Env) → list_any (holds on) (map (with_rows R (env a)) es) ≡ has_match on R es (env a)
    any_row a [] = refl
    any_row a (e ∷ es) = ap (λ b. holds on (with_rows R (env a) e) || b) (any_row a es)

    matched : (a : Map) → NoneOn right a → is_matched test rights a ≡ has_match on R (map env rights) (env a)
    matched a none = any_mapped (holds on) (map (both a) rights) ∙ ap (list_any (holds on)) (all_both a none rights lie) ∙ any_row a (map env rights)

    alone_or : (a : Map) (xs : List Map) → map env (left_rows a xs) ≡ or_else (map env xs) (env a)
    alone_or a [] = refl
    alone_or a (x ∷ xs) = refl

    with_alone : (a : Map) → NoneOn right a → map env (left_rows a (matches test rights a)) ≡ pairs_or_alone on R (map env rights) (env a)
    with_alone a none = alone_or a (matches test rights a) ∙ ap₂ or_else (found a none) (env_alone right a none)

    once : (b : Bool) (a : Map) (es : List Env) → map env (once_where b a) ++ es ≡ cond b (env a ∷ es) es
    once true a es = refl
    once false a es = refl

    abbrev AllNone : List Map → Type 0
    AllNone lefts = (a : Map) → In a lefts → NoneOn right a

    pub inner_joined : (lefts : List Map) → AllNone lefts → map env (flat_map (matches test rights) lefts) ≡ flat_map (pairs on R (map env rights)) (map env lefts)
    inner_joined [] none = refl
    inner_joined (a ∷ lefts) none = map_both (matches test rights a) (flat_map (matches test rights) lefts) ∙ ap₂ ◌++◌ (found a (none a (inl refl))) (inner_joined lefts (λ x h. none x (inr h)))

    pub left_joined : (lefts : List Map) → AllNone lefts → map env (flat_map (joined_rows Left test rights) lefts) ≡ flat_map (pairs_or_alone on R (map env rights)) (map env lefts)
    left_joined [] none = refl
    left_joined (a ∷ lefts) none = map_both (left_rows a (matches test rights a)) (flat_map (joined_rows Left test rights) lefts) ∙ ap₂ ◌++◌ (with_alone a (none a (inl refl))) (left_joined lefts (λ x h. none x (inr h)))

    pub semi_joined : (lefts : List Map) → AllNone lefts → map env (flat_map (joined_rows Semi test rights) lefts) ≡ filter (has_match on R (map env rights)) (map env lefts)
    semi_joined [] none = refl
    semi_joined (a ∷ lefts) none =
        map_both (once_where (is_matched test rights a) a) (flat_map (joined_rows Semi test rights) lefts)
        ∙ once (is_matched test rights a) a (map env (flat_map (joined_rows Semi test rights) lefts))
        ∙ ap₂ (λ b rest. cond b (env a ∷ rest) rest) (matched a (none a (inl refl))) (semi_joined lefts (λ x h. none x (inr h)))

    pub anti_joined : (lefts : List Map) → AllNone lefts → map env (flat_map (joined_rows Anti test rights) lefts) ≡ filter (has_no_match on R (map env rights)) (map env lefts)
    anti_joined [] none = refl
    anti_joined (a ∷ lefts) none =
        map_both (once_where (not (is_matched test rights a)) a) (flat_map (joined_rows Anti test rights) lefts)
        ∙ once (not (is_matched test rights a)) a (map env (flat_map (joined_rows Anti test rights) lefts))
        ∙ ap₂ (λ b rest. cond (not b) (env a ∷ rest) rest) (matched a (none a (inl refl))) (anti_joined lefts (λ x h. none x (inr h)))
