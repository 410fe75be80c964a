-- A writer that allows any number of fields writes as the default one.
use Rattle.std.proofs.Common.{◌≤◌, ◌+◌, ◌<◌, take, get_or, append_assoc, ◌≡◌, ℕ, List, [], ◌∷◌, ◌++◌, ◌==◌, length, if◌then◌else◌, true, refl, sym, ◌∙◌, ap, ap₂}
use Rattle.std.specs.List.{flat_map}
use Rattle.std.proofs.lemmas.Grind.{flat_map-append}
use Rattle.std.proofs.lemmas.List.{take_more, take_all, append-nil}
use Rattle.std.proofs.lemmas.List.Concat.{flat_map-cons}
use Rattle.csv.specs.Writing.{default_writer, with_flexible, row_text, row_body, fields_text, field_text, escaped, is_blank}

same_escaped : (field : List ℕ) → escaped (with_flexible default_writer true) field ≡ escaped default_writer field
unfolding escaped
same_escaped [] = refl
same_escaped (b ∷ rest) = rw (same_escaped rest) refl

same_field : (field : List ℕ) → field_text (with_flexible default_writer true) field ≡ field_text default_writer field
same_field field = rw (same_escaped field) refl

same_fields : (fields : List (List ℕ)) → fields_text (with_flexible default_writer true) fields ≡ fields_text default_writer fields
unfolding fields_text
same_fields [] = refl
same_fields (field ∷ rest) = rw (same_field field, same_fields rest) refl

same_blank : (fields : List (List ℕ)) → is_blank (with_flexible default_writer true) fields ≡ is_blank default_writer fields
unfolding is_blank
same_blank [] = refl
same_blank (field ∷ []) = ap (λ text. length text == 0) (same_field field)
same_blank (field ∷ next ∷ rest) = refl

same_body : (fields : List (List ℕ)) → row_body (with_flexible default_writer true) fields ≡ row_body default_writer fields
same_body [] = refl
same_body (field ∷ rest) = ap₂ (λ a b. a ++ b) (same_field field) (same_fields rest)

pub same_row : (fields : List (List ℕ)) → row_text (with_flexible default_writer true) fields ≡ row_text default_writer fields
same_row fields = ap₂ (λ body blank. body ++ ((if blank then 34 ∷ 34 ∷ [] else []) ++ 10 ∷ [])) (same_body fields) (same_blank fields)

-- the text of one more row
pub text_more : {X : Type 0} (f : X → List ℕ) (text : List ℕ) (rows : List X) (i : ℕ) (row : X) → i < length rows → row ≡ get_or rows i row → (text ++ flat_map f (take i rows)) ++ f row ≡ text ++ flat_map f (take (i + 1) rows)
text_more f text rows i row below is =
    let more : take (i + 1) rows ≡ take i rows ++ row ∷ [] = take_more rows i row below ∙ ap (λ x. take i rows ++ x ∷ []) (sym is) in
    let last : flat_map f (row ∷ []) ≡ f row = flat_map-cons f row [] ∙ append-nil (f row) in
    append_assoc text (flat_map f (take i rows)) (f row) ∙ ap (λ ys. text ++ ys) (ap (λ ys. flat_map f (take i rows) ++ ys) (sym last) ∙ sym (flat_map-append f (take i rows) (row ∷ [])) ∙ ap (flat_map f) (sym more))

-- the text of all rows
pub text_all : {X : Type 0} (f : X → List ℕ) (text : List ℕ) (rows : List X) (i : ℕ) → length rows ≤ i → text ++ flat_map f (take i rows) ≡ text ++ flat_map f rows
text_all f text rows i all = ap (λ ys. text ++ flat_map f ys) (take_all i rows all)
