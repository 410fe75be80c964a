-- The rows of an item, and the search for a relation among its parts.
use Rattle.std.proofs.Common.{◌≡◌, ◌∙◌, ap, ap₂, sym, subst, refl, ℕ, zero, suc, ◌+◌, ◌<◌, ◌≤◌, ◌⊎◌, inl, inr, Bool, true, false, List, [], ◌∷◌, length, get_or, drop, map, arith}
use Rattle.std.specs.Prelude.{Option, Some, None, min, slice_get, slice_index_or, ◌==◌, if◌then◌else◌, Vec}
use Rattle.std.specs.declared.alloc.Global.{Global}
use Rattle.std.proofs.lemmas.Bool.{cases_lt, eq-eqb, ne_eqb}
use Rattle.std.proofs.lemmas.List.{at_drop_more, at_drop_all}
use Rattle.jp_query.specs.Meaning.{Row, Env, has, no_outer_rows, with_row}
use Rattle.jp_query.specs.Tables.{TableRows}
use Rattle.jp_framed.specs.Environments.{row_at}
use Rattle.jp_lists.specs.Lists.{only_rows}
use Rattle.jp_items.specs.Numbers.{Numbered}
use Rattle.jp_items.specs.Rows.{joined_rows, part_row, parts_env, rows_meant, single_rows, source_rows}
use Rattle.jp_items.specs.declared.rows.RelRows.{RelRows}
use Rattle.jp_items.specs.declared.rows.ItemRows.{ItemRows}
use Rattle.jp_items.specs.declared.rows.ItemRows.TheVariants as item

abbrev pub nothing : Option Row
nothing = None

neither : (b c : Bool) → nothing ≡ (if b then (if c then None else None) else None)
neither true true = refl
neither true false = refl
neither false c = refl

single_at : (rels own rel : ℕ) (xs : List Row) (i : ℕ)
    → slice_index_or (map (only_rows rels) (map (with_row no_outer_rows own) xs)) i no_outer_rows rel ≡ (if has rels rel then (if rel == own then slice_get xs i else None) else None)
single_at rels own rel [] i = at_none i ∙ neither (has rels rel) (rel == own)
  where
    at_none : (i : ℕ) → slice_index_or [] i no_outer_rows rel ≡ nothing
    at_none zero = refl
    at_none (suc i) = refl
single_at rels own rel (x ∷ xs) zero = refl
single_at rels own rel (x ∷ xs) (suc i) = single_at rels own rel xs i

none_at : (b : Bool) → nothing ≡ (if b then None else None)
none_at true = refl
none_at false = refl

abbrev pub chosen : Bool → Option Row → Option Row
chosen b o = if b then o else None

module _ (tables : TableRows) (rels : ℕ) where
  pub single_there : (part : RelRows) (row rel : ℕ) (o : Option Row) → has rels rel ≡ true → rel ≡ part.rel → o ≡ slice_get (source_rows tables part.source) row
      → o ≡ slice_index_or (single_rows tables rels part) row no_outer_rows rel
  single_there part row rel o h same is =
      is ∙ sym (single_at rels part.rel rel (source_rows tables part.source) row
      ∙ ap (λ b. chosen b (chosen (rel == part.rel) (slice_get (source_rows tables part.source) row))) h
      ∙ ap (λ b. chosen b (slice_get (source_rows tables part.source) row)) (eq-eqb rel part.rel same))

  pub single_hidden : (part : RelRows) (row rel : ℕ) → has rels rel ≡ false → nothing ≡ slice_index_or (single_rows tables rels part) row no_outer_rows rel
  single_hidden part row rel h = sym (single_at rels part.rel rel (source_rows tables part.source) row ∙ ap (λ b. chosen b (chosen (rel == part.rel) (slice_get (source_rows tables part.source) row))) h)

  pub single_elsewhere : (part : RelRows) (row rel : ℕ) → (rel ≡ part.rel → ⊥) → nothing ≡ slice_index_or (single_rows tables rels part) row no_outer_rows rel
  single_elsewhere part row rel other = sym (single_at rels part.rel rel (source_rows tables part.source) row
      ∙ ap (λ b. chosen (has rels rel) (chosen b (slice_get (source_rows tables part.source) row))) (ne_eqb rel part.rel other)
      ∙ sym (neither (has rels rel) false))

  pub no_numbers : (parts : List RelRows) (rel : ℕ) → parts_env tables parts [] rel ≡ None
  no_numbers [] rel = refl
  no_numbers (part ∷ parts) rel = refl

  joined_at : (parts : List RelRows) (rel : ℕ) (ns : List (List (Option ℕ))) (i : ℕ) → slice_index_or (joined_rows tables rels parts ns) i no_outer_rows rel ≡ chosen (has rels rel) (parts_env tables parts (get_or ns i []) rel)
  joined_at parts rel [] zero = none_at (has rels rel) ∙ ap (chosen (has rels rel)) (sym (no_numbers parts rel))
  joined_at parts rel [] (suc i) = none_at (has rels rel) ∙ ap (chosen (has rels rel)) (sym (no_numbers parts rel))
  joined_at parts rel (n ∷ ns) zero = refl
  joined_at parts rel (n ∷ ns) (suc i) = joined_at parts rel ns i

  pub joined_there : (parts : List RelRows) (row rel : ℕ) (ns : List (List (Option ℕ))) (numbers : List (Option ℕ)) (o : Option Row) → has rels rel ≡ true → numbers ≡ get_or ns row []
      → o ≡ parts_env tables parts numbers rel → o ≡ slice_index_or (joined_rows tables rels parts ns) row no_outer_rows rel
  joined_there parts row rel ns numbers o h same is =
      is ∙ ap (λ n. parts_env tables parts n rel) same ∙ sym (joined_at parts rel ns row ∙ ap (λ b. chosen b (parts_env tables parts (get_or ns row []) rel)) h)

  pub joined_hidden : (parts : List RelRows) (row rel : ℕ) (ns : List (List (Option ℕ))) → has rels rel ≡ false → nothing ≡ slice_index_or (joined_rows tables rels parts ns) row no_outer_rows rel
  joined_hidden parts row rel ns h = sym (joined_at parts rel ns row ∙ ap (λ b. chosen b (parts_env tables parts (get_or ns row []) rel)) h)

  past : (ns : List (List (Option ℕ))) (i : ℕ) → length ns ≤ i → get_or ns i [] ≡ []
  past [] i h = refl
  past (n ∷ ns) zero h = absurd (omega (arith, h))
  past (n ∷ ns) (suc i) h = past ns i (omega (arith, h))

  pub joined_past : (parts : List RelRows) (row rel : ℕ) (ns : List (List (Option ℕ))) → length ns ≤ row → nothing ≡ slice_index_or (joined_rows tables rels parts ns) row no_outer_rows rel
  joined_past parts row rel ns h = sym (joined_at parts rel ns row ∙ ap (λ n. chosen (has rels rel) (parts_env tables parts n rel)) (past ns row h) ∙ ap (chosen (has rels rel)) (no_numbers parts rel) ∙ sym (none_at (has rels rel)))

-- ---- how many rows

size : {X Y : Type 0} (f : X → Y) (xs : List X) → length (map f xs) ≡ length xs
size f [] = refl
size f (x ∷ xs) = ap suc (size f xs)

pub single_count : (tables : TableRows) (rels : ℕ) (part : RelRows) → length (single_rows tables rels part) ≡ length (source_rows tables part.source)
single_count tables rels part = size (only_rows rels) (map (with_row no_outer_rows part.rel) (source_rows tables part.source)) ∙ size (with_row no_outer_rows part.rel) (source_rows tables part.source)

pub joined_count : (tables : TableRows) (rels : ℕ) (parts : List RelRows) (ns : List (List (Option ℕ))) → length (joined_rows tables rels parts ns) ≡ length ns
joined_count tables rels parts ns = size (only_rows rels) (map (parts_env tables parts) ns) ∙ size (parts_env tables parts) ns

pub count_single : (tables : TableRows) (rows : ItemRows) (rels : ℕ) (part : RelRows) (n : ℕ) → rows ≡ item.Single rels part → n ≡ length (source_rows tables part.source) → n ≡ length (rows_meant tables rows)
unfolding rows_meant
count_single tables rows rels part n is count = count ∙ sym (single_count tables rels part) ∙ sym (ap (λ (r : ItemRows). length (rows_meant tables r)) is)

pub count_joined : (tables : TableRows) (rows : ItemRows) (rels : ℕ) (parts : Vec RelRows Global) (numbers : Numbered) (n : ℕ) → rows ≡ item.Joined rels parts numbers → n ≡ length numbers.list → n ≡ length (rows_meant tables rows)
unfolding rows_meant
count_joined tables rows rels parts numbers n is count = count ∙ sym (joined_count tables rels parts.items numbers.list) ∙ sym (ap (λ (r : ItemRows). length (rows_meant tables r)) is)

pub seen_single : (tables : TableRows) (rows : ItemRows) (rels : ℕ) (part : RelRows) (row rel : ℕ) (o : Option Row) → rows ≡ item.Single rels part → o ≡ row_at (single_rows tables rels part) (Some row) rel → o ≡ row_at (rows_meant tables rows) (Some row) rel
unfolding rows_meant
seen_single tables rows rels part row rel o is seen = seen ∙ sym (ap (λ (r : ItemRows). row_at (rows_meant tables r) (Some row) rel) is)

pub seen_joined : (tables : TableRows) (rows : ItemRows) (rels : ℕ) (parts : Vec RelRows Global) (numbers : Numbered) (row rel : ℕ) (o : Option Row) → rows ≡ item.Joined rels parts numbers
    → o ≡ row_at (joined_rows tables rels parts.items numbers.list) (Some row) rel → o ≡ row_at (rows_meant tables rows) (Some row) rel
unfolding rows_meant
seen_joined tables rows rels parts numbers row rel o is seen = seen ∙ sym (ap (λ (r : ItemRows). row_at (rows_meant tables r) (Some row) rel) is)

-- ---- the search for a relation

module _ (tables : TableRows) where
  pub next_part : (parts : List RelRows) (numbers : List (Option ℕ)) (at : ℕ) (part : RelRows) (number : Option ℕ) (rel : ℕ) → at < length parts → at < length numbers
      → parts_env tables (drop at parts) (drop at numbers) rel
      ≡ (if rel == (get_or parts at part).rel then part_row tables (get_or parts at part) (get_or numbers at number) else parts_env tables (drop (at + 1) parts) (drop (at + 1) numbers) rel)
  next_part parts numbers at part number rel h k =
      at_drop_more (λ ls. parts_env tables ls (drop at numbers) rel) parts at part h
      ∙ at_drop_more (λ rs. parts_env tables (get_or parts at part ∷ drop (at + 1) parts) rs rel) numbers at number k

  pub no_part : (parts : List RelRows) (numbers : List (Option ℕ)) (at rel : ℕ) → min (length parts) (length numbers) ≤ at → nothing ≡ parts_env tables (drop at parts) (drop at numbers) rel
  no_part parts numbers at rel h = elim (cases_lt (length numbers) (length parts)) [
    | inl p ↦ sym (at_drop_all (λ rs. parts_env tables (drop at parts) rs rel) numbers at (omega (arith, h, p)) ∙ no_numbers tables 0 (drop at parts) rel)
    | inr q ↦ sym (at_drop_all (λ ls. parts_env tables ls (drop at numbers) rel) parts at (omega (arith, h, q)))
  ]

  pub passed_part : (parts : List RelRows) (numbers : List (Option ℕ)) (at : ℕ) (part : RelRows) (rel : ℕ) → at < length parts → at < length numbers → ¬ ((get_or parts at part).rel ≡ rel)
      → parts_env tables (drop at parts) (drop at numbers) rel ≡ parts_env tables (drop (at + 1) parts) (drop (at + 1) numbers) rel
  passed_part parts numbers at part rel h k other =
      let rest = parts_env tables (drop (at + 1) parts) (drop (at + 1) numbers) rel in
      next_part parts numbers at part None rel h k
      ∙ ap (λ (b : Bool). if b then part_row tables (get_or parts at part) (get_or numbers at None) else rest) (ne_eqb rel (get_or parts at part).rel (λ i. other (sym i)))

  pub this_part : (parts : List RelRows) (numbers : List (Option ℕ)) (at : ℕ) (part : RelRows) (number : Option ℕ) (rel : ℕ) → at < length parts → at < length numbers
      → part ≡ get_or parts at part → number ≡ get_or numbers at number → part.rel ≡ rel → parts_env tables (drop at parts) (drop at numbers) rel ≡ part_row tables part number
  this_part parts numbers at part number rel h k is and_is same =
      let rest = parts_env tables (drop (at + 1) parts) (drop (at + 1) numbers) rel in
      next_part parts numbers at part number rel h k
      ∙ ap₂ (λ (l : RelRows) (x : Option ℕ). if rel == l.rel then part_row tables l x else rest) (sym is) (sym and_is)
      ∙ ap (λ (b : Bool). if b then part_row tables part number else rest) (eq-eqb rel part.rel (sym same))
