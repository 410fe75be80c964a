-- What the numbers of parts stand for.
use Rattle.std.proofs.Common.{◌≡◌, ◌∙◌, ap, ap₂, sym, subst, refl, ℕ, zero, suc, ◌+◌, ◌<◌, ◌≢◌, inl, inr, Bool, true, false, ◌&&◌, List, [], ◌∷◌, ◌++◌, map, get_or, Some, None, eq-eqb, arith}
use Rattle.std.specs.Prelude.{Option, Vec, ◌==◌, if◌then◌else◌, slice_get, slice_index_or}
use Rattle.std.specs.declared.alloc.Global.{Global}
use Rattle.std.specs.Int.{bit_at}
use Rattle.std.proofs.lemmas.List.{map-append}
use Rattle.std.proofs.lemmas.Bool.{cases_eq, ne_eqb}
use mathlib.Core.Path.{fun_ext}
use Rattle.jp_base.specs.Sets.{Has, IsEmpty}
use Rattle.jp_query.specs.Meaning.{Row, Env, has, no_outer_rows, with_row, without}
use Rattle.jp_query.specs.Refs.{union}
use Rattle.jp_query.specs.Tables.{TableRows}
use Rattle.jp_problem.proofs.UnionLaws.{InSome, has_union}
use Rattle.jp_frame.specs.Maps.{Map, at}
use Rattle.jp_framed.specs.Environments.{env_from, row_at, source_at}
use Rattle.jp_framed.proofs.MapRows.{overlaid, left_alone}
use Rattle.jp_lists.specs.Lists.{only_rows}
use Rattle.jp_items.specs.Numbers.{Numbered}
use Rattle.jp_items.specs.Rows.{joined_rows, part_row, parts_env, rows_meant, source_rows}
use Rattle.jp_items.specs.Seeing.{place_from, place_of, seen_at}
use Rattle.jp_items.specs.declared.rows.RelRows.{RelRows}
use Rattle.jp_items.specs.declared.rows.ItemRows.{ItemRows}
use Rattle.jp_items.specs.declared.rows.ItemRows.TheVariants as item
use Rattle.jp_items.proofs.SeeingFacts.{seen_by_place}
use Rattle.jp_fulls.specs.Fulls.{HasNoRowsBeside, full_envs}
use Rattle.jp_fulls.specs.Leaves.{is_at, is_shown, leaf_if, leaves_from, leaves_of_parts, number_at, number_in, number_of_row, numbers_at, numbers_of, part_of_leaf, parts_of, rels_of}
use Rattle.jp_fulls.specs.declared.apart.Leaf.{Leaf}

abbrev pub nothing : Option Row
nothing = None

abbrev pub chosen : Bool → Option Row → Option Row
chosen b o = if b then o else None

abbrev pub unless : Bool → Option Row → Option Row
unless b o = if b then None else o

abbrev pub either : Bool → Option Row → Option Row → Option Row
either b o other = if b then o else other

alike : (b : Bool) (o : Option Row) → either b o o ≡ o
alike true o = refl
alike false o = refl

no_entry : (k : ℕ) → get_or [] k None ≡ (let none : Option ℕ = None in none)
no_entry zero = refl
no_entry (suc k) = refl

no_row : (k rel : ℕ) → slice_index_or [] k no_outer_rows rel ≡ nothing
no_row zero rel = refl
no_row (suc k) rel = refl

module _ (tables : TableRows) (rel : ℕ) where
  -- the row of the first part with the relation, by numbers of the parts from a place on
  abbrev by_number : (ℕ → Option ℕ) → ℕ → List RelRows → Option Row
  by_number num place [] = None
  by_number num place (part ∷ parts) = either (rel == part.rel) (part_row tables part (num place)) (by_number num (suc place) parts)

  unnumbered : (num : ℕ → Option ℕ) (place : ℕ) → ((k : ℕ) → num (place + k) ≡ None) → (parts : List RelRows) → by_number num place parts ≡ None
  unnumbered num place none [] = refl
  unnumbered num place none (part ∷ parts) =
      ap₂ (λ (o : Option ℕ) (r : Option Row). either (rel == part.rel) (part_row tables part o) r) (ap num (omega arith) ∙ none 0) (unnumbered num (suc place) (λ k. ap num (omega arith) ∙ none (suc k)) parts)
      ∙ alike (rel == part.rel) None

  by_list : (ns : List (Option ℕ)) (num : ℕ → Option ℕ) (place : ℕ) → ((k : ℕ) → get_or ns k None ≡ num (place + k)) → (parts : List RelRows) → parts_env tables parts ns rel ≡ by_number num place parts
  by_list ns num place same [] = refl
  by_list [] num place same (part ∷ parts) = sym (unnumbered num place (λ k. sym (same k) ∙ no_entry k) (part ∷ parts))
  by_list (n ∷ ns) num place same (part ∷ parts) =
      ap₂ (λ (o : Option ℕ) (r : Option Row). either (rel == part.rel) (part_row tables part o) r) (same 0 ∙ ap num (omega arith)) (by_list ns num (suc place) (λ k. same (suc k) ∙ ap num (omega arith)) parts)

  -- ---- a row of an item

  single_at : (rels own : ℕ) (xs : List Row) (i : ℕ) → slice_index_or (map (only_rows rels) (map (with_row no_outer_rows own) xs)) i no_outer_rows rel ≡ chosen (has rels rel) (chosen (rel == own) (slice_get xs i))
  single_at rels own [] i = no_row i rel ∙ sym (ap (chosen (has rels rel)) (alike (rel == own) None) ∙ alike (has rels rel) None)
  single_at rels own (x ∷ xs) zero = refl
  single_at rels own (x ∷ xs) (suc i) = single_at rels own xs i

  no_numbers : (parts : List RelRows) → parts_env tables parts [] rel ≡ None
  no_numbers [] = refl
  no_numbers (part ∷ parts) = refl

  joined_at : (rels : ℕ) (parts : List RelRows) (ns : List (List (Option ℕ))) (i : ℕ) → slice_index_or (joined_rows tables rels parts ns) i no_outer_rows rel ≡ chosen (has rels rel) (parts_env tables parts (get_or ns i []) rel)
  joined_at rels parts [] i = no_row i rel ∙ sym (ap (λ ns. chosen (has rels rel) (parts_env tables parts ns rel)) (none i) ∙ ap (chosen (has rels rel)) (no_numbers parts) ∙ alike (has rels rel) None)
    where
      none : (i : ℕ) → get_or [] i [] ≡ (let ns : List (Option ℕ) = [] in ns)
      none zero = refl
      none (suc i) = refl
  joined_at rels parts (n ∷ ns) zero = refl
  joined_at rels parts (n ∷ ns) (suc i) = joined_at rels parts ns i

  row_by_number : (rows : ItemRows) (row : Option ℕ) → row_at (rows_meant tables rows) row rel ≡ chosen (has (rels_of rows) rel) (by_number (λ place. number_of_row (numbers_of rows) place row) 0 (parts_of rows))
  unfolding rows_meant
  row_by_number (item.Single rels part) None = sym (ap (chosen (has rels rel)) (alike (rel == part.rel) None) ∙ alike (has rels rel) None)
  row_by_number (item.Single rels part) (Some row) = single_at rels part.rel (source_rows tables part.source) row
  row_by_number (item.Joined rels parts numbers) None = sym (ap (chosen (has rels rel)) (unnumbered (λ place. None) 0 (λ k. refl) parts.items) ∙ alike (has rels rel) None)
  row_by_number (item.Joined rels parts numbers) (Some row) =
      joined_at rels parts.items numbers.list row ∙ ap (chosen (has rels rel)) (by_list (get_or numbers.list row []) (λ place. number_in (Some numbers) place row) 0 (λ k. ap (λ j. get_or (get_or numbers.list row []) j None) (omega arith)) parts.items)

  -- ---- the parts that are shown

  module _ (layout : List ℕ) (numbers : List (Option Numbered)) (hidden : ℕ) (m : Map) where
    abbrev pub seen : List Leaf → Option Row
    seen leaves = parts_env tables (map part_of_leaf leaves) (map (number_at numbers hidden m) leaves) rel

    abbrev number_from : ℕ → ℕ → Option ℕ
    number_from i place = number_of_row (slice_index_or numbers i None) place (at m i)

    hidden_part : (b : Bool) (part : RelRows) (n : Option ℕ) → part_row tables part (if b then None else n) ≡ unless b (part_row tables part n)
    hidden_part true part n = refl
    hidden_part false part n = refl

    -- the parts of an item, before others that don't have the relation if the item shows it
    module _ (i rels : ℕ) (rest : List Leaf) (none : is_shown layout i rels rel ≡ true → seen rest ≡ None) where
      abbrev expected : ℕ → List RelRows → Option Row
      expected place parts = either (is_shown layout i rels rel) (unless (has hidden rel) (by_number (number_from i) place parts)) (seen rest)

      abbrev first_leaf : RelRows → ℕ → Leaf
      first_leaf part place = record { part = part; item = i; place = place }

      abbrev given : Bool → RelRows → ℕ → List RelRows → Option Row
      given b part place parts = seen ((leaf_if b (first_leaf part place) ++ leaves_of_parts layout i rels (suc place) parts) ++ rest)

      last : (b : Bool) → is_shown layout i rels rel ≡ b → seen rest ≡ either b (unless (has hidden rel) None) (seen rest)
      last true e = none e ∙ sym (alike (has hidden rel) None)
      last false e = refl

      module _ (part : RelRows) (place : ℕ) (parts : List RelRows) (ih : seen (leaves_of_parts layout i rels (suc place) parts ++ rest) ≡ expected (suc place) parts) where
        abbrev number : Option ℕ
        number = number_from i place

        abbrev after : Option Row
        after = by_number (number_from i) (suc place) parts

        -- the part as a leaf, with those after it
        abbrev with_leaf : Bool → Option Row
        with_leaf b = either b (part_row tables part (number_at numbers hidden m (first_leaf part place))) (seen (leaves_of_parts layout i rels (suc place) parts ++ rest))

        later : rel ≢ part.rel → expected (suc place) parts ≡ expected place (part ∷ parts)
        later other = ap (λ b. either (is_shown layout i rels rel) (unless (has hidden rel) (either b (part_row tables part number) after)) (seen rest)) (sym (ne_eqb rel part.rel other))

        taken : rel ≡ part.rel → is_shown layout i rels part.rel ≡ true → with_leaf (rel == part.rel) ≡ expected place (part ∷ parts)
        taken same shown =
            ap with_leaf (eq-eqb rel part.rel same)
            ∙ hidden_part (has hidden part.rel) part number
            ∙ ap (λ r. unless (has hidden r) (part_row tables part number)) (sym same)
            ∙ ap (λ b. unless (has hidden rel) (either b (part_row tables part number) after)) (sym (eq-eqb rel part.rel same))
            ∙ ap (λ b. either b (unless (has hidden rel) (by_number (number_from i) place (part ∷ parts))) (seen rest)) (sym (ap (is_shown layout i rels) same ∙ shown))

        passed_by : rel ≡ part.rel → is_shown layout i rels part.rel ≡ false → expected (suc place) parts ≡ expected place (part ∷ parts)
        passed_by same shown =
            let not_shown : is_shown layout i rels rel ≡ false = ap (is_shown layout i rels) same ∙ shown in
            ap (λ b. either b (unless (has hidden rel) after) (seen rest)) not_shown
            ∙ ap (λ b. either b (unless (has hidden rel) (by_number (number_from i) place (part ∷ parts))) (seen rest)) (sym not_shown)

        by_test : (b : Bool) → is_shown layout i rels part.rel ≡ b → given b part place parts ≡ expected place (part ∷ parts)
        by_test true shown = elim (cases_eq rel part.rel) [
          | inl same ↦ taken same shown
          | inr other ↦ ap with_leaf (ne_eqb rel part.rel other) ∙ ih ∙ later other
        ]
        by_test false shown = ih ∙ elim (cases_eq rel part.rel) [
          | inl same ↦ passed_by same shown
          | inr other ↦ later other
        ]

      pub of_parts : (place : ℕ) (parts : List RelRows) → seen (leaves_of_parts layout i rels place parts ++ rest) ≡ expected place parts
      of_parts place [] = last (is_shown layout i rels rel) refl
      of_parts place (part ∷ parts) = by_test part place parts (of_parts (suc place) parts) (is_shown layout i rels part.rel) refl

    -- ---- the items

    nowhere_else : (b : Bool) → (b && false) ≡ false
    nowhere_else true = refl
    nowhere_else false = refl

    -- an item that doesn't show the relation
    passed : (k : ℕ) (rows : ItemRows) (more : List ItemRows) → is_shown layout k (rels_of rows) rel ≡ false → seen (leaves_from layout k (rows ∷ more)) ≡ seen (leaves_from layout (suc k) more)
    passed k rows more e =
        of_parts k (rels_of rows) (leaves_from layout (suc k) more) (λ s. absurd (cc)) 0 (parts_of rows)
        ∙ ap (λ b. either b (unless (has hidden rel) (by_number (number_from k) 0 (parts_of rows))) (seen (leaves_from layout (suc k) more))) e

    pub absent : place_of layout rel ≡ None → (k : ℕ) (more : List ItemRows) → seen (leaves_from layout k more) ≡ None
    absent place k [] = refl
    absent place k (rows ∷ more) = passed k rows more (ap (λ p. has (rels_of rows) rel && is_at p k) place ∙ nowhere_else (has (rels_of rows) rel)) ∙ absent place (suc k) more

    module _ (i : ℕ) (place : place_of layout rel ≡ Some i) where
      elsewhere : (k rels : ℕ) → i ≢ k → is_shown layout k rels rel ≡ false
      elsewhere k rels other = ap (λ p. has rels rel && is_at p k) place ∙ ap (λ b. has rels rel && b) (ne_eqb i k other) ∙ nowhere_else (has rels rel)

      behind : (k : ℕ) → i < k → (more : List ItemRows) → seen (leaves_from layout k more) ≡ None
      behind k low [] = refl
      behind k low (rows ∷ more) = passed k rows more (elsewhere k (rels_of rows) (λ e. absurd (omega (arith, low, e)))) ∙ behind (suc k) (omega (arith, low)) more

      here : (rels : ℕ) → is_shown layout i rels rel ≡ has rels rel
      here rels = ap (λ p. has rels rel && is_at p i) place ∙ ap (λ b. has rels rel && b) (eq-eqb i i refl) ∙ whole (has rels rel)
        where
          whole : (b : Bool) → (b && true) ≡ b
          whole true = refl
          whole false = refl

      turned : (b h : Bool) (x r : Option Row) → r ≡ None → either b (unless h x) r ≡ unless h (chosen b x)
      turned true h x r e = refl
      turned false true x r e = e
      turned false false x r e = e

      -- the numbers of the items from a number on
      abbrev AreNumbers : ℕ → List ItemRows → Type 0
      AreNumbers first more = (j : ℕ) → slice_index_or numbers (first + j) None ≡ slice_index_or (map numbers_of more) j None

      no_source : (row : Option ℕ) (k : ℕ) → row_at (source_at [] k) row rel ≡ nothing
      no_source None k = refl
      no_source (Some r) zero = no_row r rel
      no_source (Some r) (suc k) = no_row r rel

      pub there : (k first : ℕ) (more : List ItemRows) → i ≡ first + k → AreNumbers first more → seen (leaves_from layout first more) ≡ unless (has hidden rel) (row_at (source_at (map (rows_meant tables) more) k) (at m i) rel)
      there k first [] e same = sym (ap (unless (has hidden rel)) (no_source (at m i) k) ∙ alike (has hidden rel) None)
      there zero first (rows ∷ more) e same =
          let is : first ≡ i = omega (arith, e) in
          let after : seen (leaves_from layout (suc first) more) ≡ None = behind (suc first) (omega (arith, is)) more in
          let own : slice_index_or numbers i None ≡ numbers_of rows = ap (λ j. slice_index_or numbers j None) (omega (arith, e)) ∙ same 0 in
          of_parts first (rels_of rows) (leaves_from layout (suc first) more) (λ s. after) 0 (parts_of rows)
          ∙ ap (λ j. either (is_shown layout j (rels_of rows) rel) (unless (has hidden rel) (by_number (number_from j) 0 (parts_of rows))) (seen (leaves_from layout (suc first) more))) is
          ∙ ap (λ b. either b (unless (has hidden rel) (by_number (number_from i) 0 (parts_of rows))) (seen (leaves_from layout (suc first) more))) (here (rels_of rows))
          ∙ turned (has (rels_of rows) rel) (has hidden rel) (by_number (number_from i) 0 (parts_of rows)) (seen (leaves_from layout (suc first) more)) after
          ∙ ap (λ ns. unless (has hidden rel) (chosen (has (rels_of rows) rel) (by_number (λ p. number_of_row ns p (at m i)) 0 (parts_of rows)))) own
          ∙ ap (unless (has hidden rel)) (sym (row_by_number rows (at m i)))
      there (suc k) first (rows ∷ more) e same =
          passed first rows more (elsewhere first (rels_of rows) (λ s. absurd (omega (arith, e, s))))
          ∙ there k (suc first) more (omega (arith, e)) (λ j. ap (λ n. slice_index_or numbers n None) (omega arith) ∙ same (suc j))

-- ---- all relations

-- a relation of the items has a place
placed_somewhere : (first : ℕ) (layout : List ℕ) (rel : ℕ) → InSome layout rel → place_from first layout rel ≡ None → ⊥
placed_somewhere first [] rel h e = h.1
placed_somewhere first (set ∷ layout) rel h e = elim (cases_eq (bit_at set rel) 1) [
  | inl p ↦ (let found = sym (ap (λ (b : Bool). if b then Some first else place_from (suc first) layout rel) (eq-eqb (bit_at set rel) 1 p)) ∙ e in clash first found)
  | inr n ↦ elim h.1 [
    | inl same ↦ n (subst (λ s. Has s rel) (sym same) h.2)
    | inr more ↦ placed_somewhere (suc first) layout rel (h.0, more, h.2) (sym (ap (λ (b : Bool). if b then Some first else place_from (suc first) layout rel) (ne_eqb (bit_at set rel) 1 n)) ∙ e)
  ]
]
  where
    clash : (k : ℕ) → Some k ≡ None → ⊥
    clash k c = cc

module _ (tables : TableRows) (layout : List ℕ) (sources : List ItemRows) (outer : Env) (hidden : ℕ) where
  abbrev pub leaves : List Leaf
  leaves = leaves_from layout 0 sources

  abbrev pub env : Map → Env
  env = env_from 0 layout (map (rows_meant tables) sources) outer

  abbrev pub parts_at : Map → Env
  parts_at m = parts_env tables (map part_of_leaf leaves) (numbers_at (map numbers_of sources) leaves hidden m)

  shown_row : (m : Map) (rel : ℕ) → (¬ Has (union layout) rel → outer rel ≡ None) → parts_at m rel ≡ without hidden (env m) rel
  shown_row m rel bare = by_place (place_of layout rel) refl
    where
      by_place : (p : Option ℕ) → place_of layout rel ≡ p → parts_at m rel ≡ without hidden (env m) rel
      by_place None e =
          absent tables rel layout (map numbers_of sources) hidden m e 0 sources
          ∙ sym (ap (unless (has hidden rel)) (seen_by_place 0 layout (map (rows_meant tables) sources) outer m rel ∙ ap (λ p. seen_at (map (rows_meant tables) sources) outer m p rel) e ∙ bare (λ u. placed_somewhere 0 layout rel ((has_union layout rel).0 u) e))
          ∙ alike (has hidden rel) None)
      by_place (Some i) e =
          there tables rel layout (map numbers_of sources) hidden m i e i 0 sources (omega arith) (λ j. ap (λ n. slice_index_or (map numbers_of sources) n None) (omega arith))
          ∙ ap (unless (has hidden rel)) (sym (seen_by_place 0 layout (map (rows_meant tables) sources) outer m rel ∙ ap (λ p. seen_at (map (rows_meant tables) sources) outer m p rel) e))

  module _ (rels : ℕ) (bare : HasNoRowsBeside (union layout) rels outer) where
    shown_env : (m : Map) → only_rows rels (parts_at m) ≡ only_rows rels (without hidden (env m))
    shown_env m = fun_ext (λ rel. elim (cases_eq (bit_at rels rel) 1) [
      | inl p ↦ overlaid rels no_outer_rows (parts_at m) rel p ∙ shown_row m rel (bare rel p) ∙ sym (overlaid rels no_outer_rows (without hidden (env m)) rel p)
      | inr n ↦ left_alone rels no_outer_rows (parts_at m) rel n ∙ sym (left_alone rels no_outer_rows (without hidden (env m)) rel n)
    ])

    -- the rows of the numbers at some maps
    pub shown_rows : (ms : List Map) → joined_rows tables rels (map part_of_leaf leaves) (map (numbers_at (map numbers_of sources) leaves hidden) ms) ≡ map (only_rows rels) (map (without hidden) (map env ms))
    shown_rows [] = refl
    shown_rows (m ∷ ms) = ap₂ ◌∷◌ (shown_env m) (shown_rows ms)

without_none : (hidden : ℕ) → IsEmpty hidden → (x : Env) → without hidden x ≡ x
without_none hidden none x = fun_ext (λ rel. ap (λ (b : Bool). if b then None else x rel) (ne_eqb (bit_at hidden rel) 1 (none rel)))

pub nothing_hidden : (hidden : ℕ) → IsEmpty hidden → (xs : List Env) → map (without hidden) xs ≡ xs
nothing_hidden hidden none [] = refl
nothing_hidden hidden none (x ∷ xs) = ap₂ ◌∷◌ (without_none hidden none x) (nothing_hidden hidden none xs)

-- ---- the rows that are made

pub all_own : (own rels : ℕ) (outer : Env) → rels ≡ own → HasNoRowsBeside own rels outer
all_own own rels outer is rel p n = absurd (n (subst (λ s. Has s rel) is p))

module _ (tables : TableRows) (layout : List ℕ) (sources : List ItemRows) (outer : Env) (rels : ℕ) (bare : HasNoRowsBeside (union layout) rels outer) (parts : Vec RelRows Global) (numbers : Numbered) (given_leaves : List Leaf) (own : List (Option Numbered))
    (leaves_are : given_leaves ≡ leaves_from layout 0 sources) (own_are : own ≡ map numbers_of sources) (parts_are : parts.items ≡ map part_of_leaf given_leaves) where
  abbrev listed : ℕ → List Map → List (List (Option ℕ))
  listed hidden ms = map (numbers_at own given_leaves hidden) ms

  parts_meant : (hidden : ℕ) (ms : List Map) → joined_rows tables rels parts.items (listed hidden ms) ≡ map (only_rows rels) (map (without hidden) (map (env tables layout sources outer hidden) ms))
  parts_meant hidden ms =
      ap₂ (joined_rows tables rels) (parts_are ∙ ap (map part_of_leaf) leaves_are) (ap₂ (λ o ls. map (numbers_at o ls hidden) ms) own_are leaves_are)
      ∙ shown_rows tables layout sources outer hidden rels bare ms

  whole_meant : (hidden : ℕ) (ms : List Map) → IsEmpty hidden → joined_rows tables rels parts.items (listed hidden ms) ≡ map (only_rows rels) (map (env_from 0 layout (map (rows_meant tables) sources) outer) ms)
  whole_meant hidden ms none = parts_meant hidden ms ∙ ap (map (only_rows rels)) (nothing_hidden hidden none (map (env_from 0 layout (map (rows_meant tables) sources) outer) ms))

  pub side_meant : (hidden : ℕ) (ms : List Map) (before : List (List (Option ℕ))) → IsEmpty hidden → before ≡ [] → numbers.list ≡ before ++ listed hidden ms
      → rows_meant tables (item.Joined rels parts numbers) ≡ map (only_rows rels) (map (env_from 0 layout (map (rows_meant tables) sources) outer) ms)
  unfolding rows_meant
  side_meant hidden ms before none empty e = ap (joined_rows tables rels parts.items) (e ∙ ap (λ ns. ns ++ listed hidden ms) empty) ∙ whole_meant hidden ms none

  joined_append : (ns more : List (List (Option ℕ))) → joined_rows tables rels parts.items (ns ++ more) ≡ joined_rows tables rels parts.items ns ++ joined_rows tables rels parts.items more
  joined_append [] more = refl
  joined_append (n ∷ ns) more = ap (λ (rest : List Env). only_rows rels (parts_env tables parts.items n) ∷ rest) (joined_append ns more)

  pub full_meant : (none hidden : ℕ) (matched alone ms ns : List Map) (before between : List (List (Option ℕ))) → IsEmpty none → before ≡ [] → ms ≡ matched → ns ≡ alone → between ≡ before ++ listed none ms → numbers.list ≡ between ++ listed hidden ns
      → rows_meant tables (item.Joined rels parts numbers) ≡ map (only_rows rels) (full_envs hidden (env_from 0 layout (map (rows_meant tables) sources) outer) matched alone)
  unfolding rows_meant
  full_meant none hidden matched alone ms ns before between empty start same and_same e f =
      ap (joined_rows tables rels parts.items) (f ∙ ap (λ xs. xs ++ listed hidden ns) (e ∙ ap (λ xs. xs ++ listed none ms) start) ∙ ap₂ (λ xs ys. listed none xs ++ listed hidden ys) same and_same)
      ∙ joined_append (listed none matched) (listed hidden alone)
      ∙ ap₂ ◌++◌ (whole_meant none matched empty) (parts_meant hidden alone)
      ∙ sym (map-append (only_rows rels) (map (env_from 0 layout (map (rows_meant tables) sources) outer) matched) (map (without hidden) (map (env_from 0 layout (map (rows_meant tables) sources) outer) alone)))
