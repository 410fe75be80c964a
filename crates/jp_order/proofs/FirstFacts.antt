-- Choosing the new rows gives the first lines.
use Rattle.std.proofs.Common.{◌≡◌, ◌∙◌, ap, ap₂, sym, subst, refl, ℕ, suc, ◌+◌, ◌<◌, Bool, true, false, cond, not, ◌&&◌, ◌||◌, List, [], ◌∷◌, ◌++◌, map, filter, length, get_or, take, drop, append_assoc, arith}
use Rattle.std.specs.List.{list_any}
use Rattle.std.proofs.lemmas.List.{take_more, at_drop_more}
use Rattle.std.proofs.lemmas.List.Folds.{list_any-append}
use Rattle.jp_query.specs.Ordering.{Row, Line, outputs_of, same_rows, differs, first_lines}
use Rattle.jp_order.specs.Lines.{line_of, lines_with, without_keys, first_rows, is_new, news_after, chosen}
use Rattle.jp_laws.proofs.ValueLaws.{rows_equal, rows_same}

-- ---- the same rows, from either side

either : (b c : Bool) → (b ≡ true → c ≡ true) → (c ≡ true → b ≡ true) → b ≡ c
either true c f g = sym (f refl)
either false true f g = g refl
either false false f g = refl

pub same_turned : (a b : Row) → same_rows a b ≡ same_rows b a
same_turned a b = either (same_rows a b) (same_rows b a) (turned a b) (turned b a)
  where
    turned : (a b : Row) → same_rows a b ≡ true → same_rows b a ≡ true
    turned a b e = subst (λ c. same_rows b c ≡ true) (sym (rows_equal a b e)) (rows_same b)

-- ---- one row more

pub news_more : (rows : List Row) (i : ℕ) (d : Row) → i < length rows → news_after (take i rows) (drop i rows) ≡ is_new (take i rows) (get_or rows i d) ∷ news_after (take (i + 1) rows) (drop (i + 1) rows)
news_more rows i d h =
    at_drop_more (λ rs. news_after (take i rows) rs) rows i d h
    ∙ ap (λ before. is_new (take i rows) (get_or rows i d) ∷ news_after before (drop (i + 1) rows)) (sym (take_more rows i d h))

pub seen_more : (rows : List Row) (i : ℕ) (d row : Row) → i < length rows → list_any (same_rows row) (take (i + 1) rows) ≡ (list_any (same_rows row) (take i rows) || (same_rows row (get_or rows i d) || false))
seen_more rows i d row h = ap (list_any (same_rows row)) (take_more rows i d h) ∙ list_any-append (same_rows row) (take i rows) (get_or rows i d ∷ [])

-- ---- choosing

module _ {X : Type 0} where
  at_mark : (m : Bool) (x : X) (ms : List Bool) (xs : List X) → chosen (m ∷ ms) (x ∷ xs) ≡ cond m (x ∷ chosen ms xs) (chosen ms xs)
  at_mark true x ms xs = refl
  at_mark false x ms xs = refl

  under_filter : (p : X → Bool) (x : X) (xs : List X) (b : Bool) → filter p (cond b (x ∷ xs) xs) ≡ cond b (cond (p x) (x ∷ filter p xs) (filter p xs)) (filter p xs)
  under_filter p x xs true = refl
  under_filter p x xs false = refl

  joined : (x : X) (xs : List X) (a b : Bool) → cond b (cond a (x ∷ xs) xs) xs ≡ cond (a && b) (x ∷ xs) xs
  joined x xs true b = refl
  joined x xs false true = refl
  joined x xs false false = refl

  -- two tests one after the other, as one test
  filters_one : (p q r : X → Bool) → ((x : X) → r x ≡ (p x && q x)) → (xs : List X) → filter p (filter q xs) ≡ filter r xs
  filters_one p q r e [] = refl
  filters_one p q r e (x ∷ xs) =
      under_filter p x (filter q xs) (q x)
      ∙ ap (λ l. cond (q x) (cond (p x) (x ∷ l) l) l) (filters_one p q r e xs)
      ∙ joined x (filter r xs) (p x) (q x)
      ∙ ap (λ b. cond b (x ∷ filter r xs) (filter r xs)) (sym (e x))

  kept_all : (p : X → Bool) → ((x : X) → p x ≡ true) → (xs : List X) → filter p xs ≡ xs
  kept_all p e [] = refl
  kept_all p e (x ∷ xs) = ap (λ b. cond b (x ∷ filter p xs) (filter p xs)) (e x) ∙ ap (λ l. x ∷ l) (kept_all p e xs)

not_either : (a b : Bool) → not (a || (b || false)) ≡ (not a && not b)
not_either true b = refl
not_either false true = refl
not_either false false = refl

abbrev new_line : List Row → Line → Bool
new_line earlier line = is_new earlier line.outputs

new_after_one : (earlier : List Row) (x line : Line) → new_line (earlier ++ x.outputs ∷ []) line ≡ (new_line earlier line && differs x line)
new_after_one earlier x line =
    ap not (list_any-append (same_rows line.outputs) earlier (x.outputs ∷ []))
    ∙ ap (λ b. not (list_any (same_rows line.outputs) earlier || (b || false))) (same_turned line.outputs x.outputs)
    ∙ not_either (list_any (same_rows line.outputs) earlier) (same_rows x.outputs line.outputs)

-- the lines whose rows are new are the first ones
new_lines : (earlier : List Row) (lines : List Line) → chosen (news_after earlier (map outputs_of lines)) lines ≡ filter (new_line earlier) (first_lines lines)
new_lines earlier [] = refl
new_lines earlier (x ∷ xs) =
    let later = chosen (news_after (earlier ++ x.outputs ∷ []) (map outputs_of xs)) xs in
    let rest : later ≡ filter (new_line earlier) (filter (differs x) (first_lines xs)) =
    new_lines (earlier ++ x.outputs ∷ []) xs ∙ sym (filters_one (new_line earlier) (differs x) (new_line (earlier ++ x.outputs ∷ [])) (new_after_one earlier x) (first_lines xs)) in
    at_mark (new_line earlier x) x (news_after (earlier ++ x.outputs ∷ []) (map outputs_of xs)) xs
    ∙ ap (λ l. cond (new_line earlier x) (x ∷ l) l) rest

firsts : (lines : List Line) → chosen (news_after [] (map outputs_of lines)) lines ≡ first_lines lines
firsts lines = new_lines [] lines ∙ kept_all (new_line []) (λ x. refl) (first_lines lines)

-- ---- rows

under_map : {X Y : Type 0} (f : X → Y) (x : X) (xs : List X) (b : Bool) → map f (cond b (x ∷ xs) xs) ≡ cond b (f x ∷ map f xs) (map f xs)
under_map f x xs true = refl
under_map f x xs false = refl

chosen_map : {X Y : Type 0} (f : X → Y) (ms : List Bool) (xs : List X) → chosen ms (map f xs) ≡ map f (chosen ms xs)
chosen_map f ms [] = refl
chosen_map f [] (x ∷ xs) = refl
chosen_map f (m ∷ ms) (x ∷ xs) =
    at_mark m (f x) ms (map f xs)
    ∙ ap (λ l. cond m (f x ∷ l) l) (chosen_map f ms xs)
    ∙ sym (under_map f x (chosen ms xs) m)
    ∙ ap (map f) (sym (at_mark m x ms xs))

bare_outputs : (rows : List Row) → map outputs_of (map without_keys rows) ≡ rows
bare_outputs [] = refl
bare_outputs (row ∷ rows) = ap (λ rs. row ∷ rs) (bare_outputs rows)

pub rows_first : (rows : List Row) (marks : List Bool) → marks ≡ news_after [] rows → chosen marks rows ≡ first_rows rows
rows_first rows marks e =
    ap (λ ms. chosen ms rows) e
    ∙ ap (λ rs. chosen (news_after [] rs) rs) (sym (bare_outputs rows))
    ∙ chosen_map outputs_of (news_after [] (map outputs_of (map without_keys rows))) (map without_keys rows)
    ∙ ap (map outputs_of) (firsts (map without_keys rows))

-- ---- rows with keys

pub line_outputs : (rows keys : List Row) → length rows ≡ length keys → map outputs_of (lines_with rows keys) ≡ rows
line_outputs [] keys e = refl
line_outputs (row ∷ rows) [] e = absurd (omega (arith, e))
line_outputs (row ∷ rows) (key ∷ keys) e = ap (λ rs. row ∷ rs) (line_outputs rows keys (omega (arith, e)))

beside : (m : Bool) (row key : Row) (rows keys : List Row) → lines_with (cond m (row ∷ rows) rows) (cond m (key ∷ keys) keys) ≡ cond m (line_of (row, key) ∷ lines_with rows keys) (lines_with rows keys)
beside true row key rows keys = refl
beside false row key rows keys = refl

chosen_with : (ms : List Bool) (rows keys : List Row) → length rows ≡ length keys → lines_with (chosen ms rows) (chosen ms keys) ≡ chosen ms (lines_with rows keys)
chosen_with ms [] keys e = refl
chosen_with ms (row ∷ rows) [] e = absurd (omega (arith, e))
chosen_with [] (row ∷ rows) (key ∷ keys) e = refl
chosen_with (m ∷ ms) (row ∷ rows) (key ∷ keys) e =
    ap₂ lines_with (at_mark m row ms rows) (at_mark m key ms keys)
    ∙ beside m row key (chosen ms rows) (chosen ms keys)
    ∙ ap (λ l. cond m (line_of (row, key) ∷ l) l) (chosen_with ms rows keys (omega (arith, e)))
    ∙ sym (at_mark m (line_of (row, key)) ms (lines_with rows keys))

pub lines_first : (rows keys : List Row) (marks : List Bool) → length rows ≡ length keys → marks ≡ news_after [] rows → lines_with (chosen marks rows) (chosen marks keys) ≡ first_lines (lines_with rows keys)
lines_first rows keys marks e m =
    chosen_with marks rows keys e
    ∙ ap (λ ms. chosen ms (lines_with rows keys)) (m ∙ ap (news_after []) (sym (line_outputs rows keys e)))
    ∙ firsts (lines_with rows keys)

counted : (m : Bool) (row key : Row) (rows keys : List Row) → length rows ≡ length keys → length (cond m (row ∷ rows) rows) ≡ length (cond m (key ∷ keys) keys)
counted true row key rows keys e = ap suc e
counted false row key rows keys e = e

pub as_many : (ms : List Bool) (rows keys : List Row) → length rows ≡ length keys → length (chosen ms rows) ≡ length (chosen ms keys)
as_many ms [] [] e = refl
as_many ms [] (key ∷ keys) e = absurd (omega (arith, e))
as_many ms (row ∷ rows) [] e = absurd (omega (arith, e))
as_many [] (row ∷ rows) (key ∷ keys) e = refl
as_many (m ∷ ms) (row ∷ rows) (key ∷ keys) e =
    ap length (at_mark m row ms rows)
    ∙ counted m row key (chosen ms rows) (chosen ms keys) (as_many ms rows keys (omega (arith, e)))
    ∙ ap length (sym (at_mark m key ms keys))

-- ---- a step of the loop over the rows

module _ (rows : List Row) (i : ℕ) (row : Row) (is : row ≡ get_or rows i row) (there : i < length rows) where
  pub mark_more : (marks more : List Bool) (new : Bool) → marks ++ news_after (take i rows) (drop i rows) ≡ news_after [] rows → more ≡ marks ++ new ∷ [] → new ≡ is_new (take i rows) row
      → more ++ news_after (take (i + 1) rows) (drop (i + 1) rows) ≡ news_after [] rows
  mark_more marks more new before grown e =
      ap (λ ms. ms ++ news_after (take (i + 1) rows) (drop (i + 1) rows)) grown
      ∙ append_assoc marks (new ∷ []) (news_after (take (i + 1) rows) (drop (i + 1) rows))
      ∙ ap (λ ms. marks ++ ms) (ap (λ b. b ∷ news_after (take (i + 1) rows) (drop (i + 1) rows)) (e ∙ ap (is_new (take i rows)) is) ∙ sym (news_more rows i row there))
      ∙ before

  whether : (a b : Bool) → cond a true b ≡ (b || (a || false))
  whether true true = refl
  whether true false = refl
  whether false true = refl
  whether false false = refl

  pub part_more : (values : Row) (a b : Bool) → a ≡ same_rows row values → b ≡ list_any (same_rows values) (take i rows) → cond a true b ≡ list_any (same_rows values) (take (i + 1) rows)
  part_more values a b e f =
      whether a b
      ∙ ap₂ (λ x y. y || (x || false)) (e ∙ same_turned row values ∙ ap (same_rows values) is) f
      ∙ sym (seen_more rows i row values there)
