-- One turn of each loop of the reader.
use Rattle.std.proofs.Common.{◌≡◌, ℕ, ◌+◌, ◌<◌, false, List, [], ◌∷◌, ◌++◌, length, get_or, drop, map, None, Ok, Err, Less, Greater, string_bytes, nat_cmp, refl, sym, ap, subst, ◌∙◌, arith, append_assoc, inl, inr}
use Rattle.std.proofs.lemmas.Cmp.{nat_list_cmp_total}
use Rattle.std.proofs.lemmas.List.{append-nil}
use Rattle.std.proofs.lemmas.Map.Text.{is_eq-slice_cmp}
use Rattle.std.specs.Cmp.Lexicographic.{slice_cmp}
use Rattle.std.specs.List.{AllByRecursion}
use Rattle.std.specs.List.Sorted.{IsStrictlySortedBy}
use Rattle.std.specs.Map.{keys_of}
use Rattle.std.specs.Ordering.{is_eq, ordering_reverse}
use Rattle.std.specs.Str.{bytes_eq}
use Rattle.std.specs.String.{string_cmp}
use Rattle.toml.specs.View.{view, items_view, members_view}
use Rattle.toml.specs.declared.value.Value.{Value}
use Rattle.toml.proofs.Views.{Entry, items_view-drop}
use Rattle.indexmap.specs.IndexMap.{IndexMap, insert_entry}
use Rattle.indexmap.proofs.CallerLemmas.{insert_entry-new}
use Rattle.jp_catalog.specs.Names.{value_of}
use Rattle.jp_catalog.specs.Paths.{unique_path}
use Rattle.jp_catalog.specs.Reading.{Read, Agrees, ◌>>=◌, NamedColumn, NamedTable, count_of, column_read, columns_after, key_column_read, places_after, key_read, unique_from, table_read, tables_read}
use Rattle.jp_catalog.specs.declared.types.Key.{Key}
use Rattle.jp_catalog.specs.declared.types.TableDef.{TableDef}

-- an answer that isn't want of memory is the defined one
pub agreed : {A : Type 0} (x : A) (defined : Read A) → Agrees (Ok x) defined → defined ≡ Ok x
agreed x defined (inl memory) = cc
agreed x defined (inr same) = sym same

pub count_of_items : (vs : List Value) → count_of (items_view vs) ≡ length vs
count_of_items [] = refl
count_of_items (v ∷ vs) = omega (arith, count_of_items vs)

pub columns_step : (table : List ℕ) (found : List NamedColumn) (vs : List Value) (i : ℕ) (entry : Value) (column : NamedColumn) → i < length vs
    → column_read table found (view (get_or vs i entry)) ≡ Ok column
    → columns_after table found (items_view (drop i vs)) ≡ columns_after table (found ++ column ∷ []) (items_view (drop (i + 1) vs))
columns_step table found vs i entry column within read = rw (items_view-drop vs i entry within, read)

pub places_step : (path : List ℕ) (columns : List NamedColumn) (found : List ℕ) (vs : List Value) (i : ℕ) (name : Value) (place : ℕ) → i < length vs
    → key_column_read path columns found (view (get_or vs i name)) ≡ Ok place
    → places_after path columns found (items_view (drop i vs)) ≡ places_after path columns (found ++ place ∷ []) (items_view (drop (i + 1) vs))
places_step path columns found vs i name place within read = rw (items_view-drop vs i name within, read)

-- the items read before, and those that are left
abbrev pub front : {A : Type 0} → List A → Read (List A) → Read (List A)
front xs (Ok ys) = Ok (xs ++ ys)
front xs (Err e) = Err e

pub front-nil : {A : Type 0} (r : Read (List A)) → front [] r ≡ r
front-nil (Ok ys) = refl
front-nil (Err e) = refl

pub front-more : {A : Type 0} (xs : List A) (x : A) (r : Read (List A)) → front xs (r >>= (λ ys. Ok (x ∷ ys))) ≡ front (xs ++ x ∷ []) r
front-more xs x (Ok ys) = ap Ok (sym (append_assoc xs (x ∷ []) ys))
front-more xs x (Err e) = refl

pub front-end : {A : Type 0} (xs : List A) → front xs (Ok []) ≡ Ok xs
front-end xs = ap Ok (append-nil xs)

pub unique_step : (table : List ℕ) (columns : List NamedColumn) (found : List Key) (vs : List Value) (i : ℕ) (names : Value) (key : Key) → i < length vs
    → key_read (unique_path table i) columns false (view (get_or vs i names)) ≡ Ok key
    → front found (unique_from table columns i (items_view (drop i vs))) ≡ front (found ++ key ∷ []) (unique_from table columns (i + 1) (items_view (drop (i + 1) vs)))
unique_step table columns found vs i names key within read = rw (items_view-drop vs i names within, read) (front-more found key _)

pub unique_error : (table : List ℕ) (columns : List NamedColumn) (found : List Key) (vs : List Value) (i : ℕ) (names : Value) (e : _) → i < length vs
    → key_read (unique_path table i) columns false (view (get_or vs i names)) ≡ Err e
    → front found (unique_from table columns i (items_view (drop i vs))) ≡ Err e
unique_error table columns found vs i names e within read = rw (items_view-drop vs i names within, read)

pub tables_step : (found : List NamedTable) (entry : Entry) (more : List Entry) (def : TableDef) → table_read (string_bytes entry.0) (view entry.1) ≡ Ok def
    → front found (tables_read (members_view (entry ∷ more))) ≡ front (found ++ (string_bytes entry.0, def) ∷ []) (tables_read (members_view more))
tables_step found entry more def read = rw read (front-more found (string_bytes entry.0, def) _)

below_middle : (first : Entry) (es : List Entry) (e : Entry) (more : List Entry) → AllByRecursion (λ y. string_cmp first.0 y ≡ Less) (keys_of (es ++ e ∷ more)) → string_cmp first.0 e.0 ≡ Less
below_middle first [] e more h = h.0
below_middle first (x ∷ es) e more h = below_middle first es e more h.1

-- a table's name is none of those before it
pub new_table : (done : List Entry) (found : List NamedTable) (e : Entry) (more : List Entry) → IsStrictlySortedBy string_cmp (keys_of (done ++ e ∷ more))
    → keys_of found ≡ map string_bytes (keys_of done) → value_of (string_bytes e.0) found ≡ None
unfolding IsStrictlySortedBy
new_table [] [] e more h same = refl
new_table [] (x ∷ found) e more h same = absurd (omega (arith, ap length same))
new_table (x ∷ done) [] e more h same = absurd (omega (arith, ap length same))
new_table (x ∷ done) (y ∷ found) e more h same =
    let heads : y.0 ≡ string_bytes x.0 = ap (λ ks. get_or ks 0 y.0) same in
    let tails : keys_of found ≡ map string_bytes (keys_of done) = ap (drop 1) same in
    let above : slice_cmp nat_cmp (string_bytes e.0) (string_bytes x.0) ≡ Greater =
    nat_list_cmp_total.antisymm (string_bytes e.0) (string_bytes x.0) ∙ ap ordering_reverse (below_middle x done e more h.0) in
    let other : bytes_eq (string_bytes e.0) (string_bytes x.0) ≡ false = sym (is_eq-slice_cmp (string_bytes e.0) (string_bytes x.0)) ∙ ap is_eq above in
    rw (heads, other) (new_table done found e more h.1 tails)

-- how far the loop over the tables has come: found is what the tables before those left say
abbrev pub HasRead : List Entry → List NamedTable → List Entry → Type 0
HasRead all found left =
    (done : List Entry) × (all ≡ done ++ left) × (keys_of found ≡ map string_bytes (keys_of done)) × (front found (tables_read (members_view left)) ≡ tables_read (members_view all))

keys_of-push : (found : List NamedTable) (column : NamedTable) → keys_of (found ++ column ∷ []) ≡ keys_of found ++ column.0 ∷ []
keys_of-push [] column = refl
keys_of-push (x ∷ found) column = ap (λ ks. x.0 ∷ ks) (keys_of-push found column)

names-push : (done : List Entry) (e : Entry) → map string_bytes (keys_of (done ++ e ∷ [])) ≡ map string_bytes (keys_of done) ++ string_bytes e.0 ∷ []
names-push [] e = refl
names-push (x ∷ done) e = ap (λ ks. string_bytes x.0 ∷ ks) (names-push done e)

pub tables_turn : {S : Type 0} (all left next : List Entry) (e : Entry) (m : IndexMap (List ℕ) TableDef S) (new : List NamedTable) (def : TableDef)
    → IsStrictlySortedBy string_cmp (keys_of all) → left ≡ e ∷ next → table_read (string_bytes e.0) (view e.1) ≡ Ok def
    → new ≡ insert_entry bytes_eq m.entries (string_bytes e.0) def → HasRead all m.entries left → HasRead all new next
tables_turn all left next e m new def sorted first read put (done, whole, same, reads) =
    let split : all ≡ done ++ e ∷ next = whole ∙ ap (λ es. done ++ es) first in
    let fresh = new_table done m.entries e next (subst (λ es. IsStrictlySortedBy string_cmp (keys_of es)) split sorted) same in
    let pushed : new ≡ m.entries ++ (string_bytes e.0, def) ∷ [] = put ∙ insert_entry-new bytes_eq m (string_bytes e.0) def fresh in
    let step = tables_step m.entries e next def read in
    let before : front m.entries (tables_read (members_view (e ∷ next))) ≡ tables_read (members_view all) = ap (λ es. front m.entries (tables_read (members_view es))) (sym first) ∙ reads in (
      done ++ e ∷ [],
      split ∙ sym (append_assoc done (e ∷ []) next),
      ap keys_of pushed ∙ keys_of-push m.entries (string_bytes e.0, def) ∙ ap (λ ks. ks ++ string_bytes e.0 ∷ []) same ∙ sym (names-push done e),
      ap (λ found. front found (tables_read (members_view next))) pushed ∙ sym step ∙ before,
    )
