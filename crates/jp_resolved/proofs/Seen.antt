-- What is visible under levels of entries, and the columns that names take there.
use Rattle.std.proofs.Common.{◌≡◌, ◌∙◌, ap, subst, refl, ℕ, suc, ◌+◌, ◌<◌, ◌≤◌, ◌⊎◌, inl, inr, Bool, true, false, List, [], ◌∷◌, ◌++◌, map, filter, cond, Option, Some, None, Ok, arith}
use Rattle.std.specs.Prelude.{◌&&◌, ◌||◌, ◌==◌, not, if◌then◌else◌}
use Rattle.std.specs.List.{list_any, slice_get, find, enumerate_from}
use Rattle.std.proofs.lemmas.Bool.{or_from, and_parts, eq-eqb, ne_eqb, or_parts}
use Rattle.std.proofs.lemmas.Option.{none-some, same_Some}
use Rattle.jp_query.specs.Conditions.{fits, has_distinct_numbers, relation_of}
use Rattle.jp_query.specs.Scopes.{Scope, visible_columns, visible_column}
use Rattle.jp_query.specs.Scopes as scopes
use Rattle.jp_resolution.specs.declared.words.Column.{Column}
use Rattle.jp_resolution.specs.declared.words.Entry.{Entry}
use Rattle.jp_resolution.specs.Counting.{Levels}
use Rattle.jp_resolution.specs.Names.{VisibleColumn, visible_at, entry_columns, columns_of, is_entry, called, or_outer, named_column, or_outer_entry, qualified_entry, the_only, the_entry}
use Rattle.jp_induction.proofs.EachPart.{Each, each_append, each_left, each_right}
use Rattle.jp_resolved.proofs.Answered.{same_Ok, no_Ok}
use Rattle.jp_resolved.proofs.Rising.{Rising, rising_within}

-- ---- scopes

abbrev pub seen_column : Column → scopes.Column
seen_column c = record { type = c.ty; bound = c.bound }

abbrev pub seen_columns : List Column → List scopes.Column
seen_columns columns = map seen_column columns

abbrev pub seen : Entry → scopes.Entry
seen entry = record { relation = entry.relation; columns = seen_columns entry.columns }

abbrev pub seen_all : List Entry → Scope
seen_all entries = map seen entries

abbrev pub scope_of : Levels → Scope
scope_of [] = []
scope_of (level ∷ levels) = seen_all level ++ scope_of levels

abbrev pub FitsColumn : scopes.Column → Type 0
FitsColumn c = fits c.bound ≡ true

-- an entry of a relation below 64 whose columns' bounds fit
abbrev pub IsSmall : scopes.Entry → Type 0
IsSmall entry = (entry.relation < 64) × Each FitsColumn entry.columns

abbrev pub IsOutside : ℕ → ℕ → scopes.Entry → Type 0
IsOutside a b entry = (entry.relation < a) ⊎ (b ≤ entry.relation)

-- nothing visible has a number of the span
pub record IsOpen (a b : ℕ) (scope : Scope) : Type 0 where
  pub distinct : has_distinct_numbers scope ≡ true
  pub outside : Each (IsOutside a b) scope
  pub small : Each IsSmall scope

pub outside_narrower : (a b c d : ℕ) → a ≤ c → d ≤ b → (scope : Scope) → Each (IsOutside a b) scope → Each (IsOutside c d) scope
outside_narrower a b c d low high [] each = tt
outside_narrower a b c d low high (e ∷ scope) each = (elim each.0 [ inl h ↦ inl (omega (arith, low, h)) | inr h ↦ inr (omega (arith, high, h)) ], outside_narrower a b c d low high scope each.1)

pub open_narrower : (a b c d : ℕ) (scope : Scope) → a ≤ c → d ≤ b → IsOpen a b scope → IsOpen c d scope
open_narrower a b c d scope low high opened = record { distinct = opened.distinct; outside = outside_narrower a b c d low high scope opened.outside; small = opened.small }

-- the entries of a FROM list, whose numbers rise within a span
pub record IsOwn (a b : ℕ) (own : Scope) : Type 0 where
  pub rising : Rising relation_of a b own
  pub small : Each IsSmall own

-- ---- distinct numbers

not_in : (n a b : ℕ) (own : Scope) → n < a → Rising relation_of a b own → list_any (◌==◌ n) (map relation_of own) ≡ false
not_in n a b [] low h = refl
not_in n a b (e ∷ own) low h = or_from (n == e.relation) (list_any (◌==◌ n) (map relation_of own)) (ne_eqb n e.relation (λ s. omega (arith, s, low, h.0))) (not_in n (suc e.relation) b own (omega (arith, low, h.0)) h.1)

not_outside : (n a b : ℕ) (scope : Scope) → a ≤ n → n < b → Each (IsOutside a b) scope → list_any (◌==◌ n) (map relation_of scope) ≡ false
not_outside n a b [] low high each = refl
not_outside n a b (e ∷ scope) low high each = or_from (n == e.relation) (list_any (◌==◌ n) (map relation_of scope)) (ne_eqb n e.relation (λ s. elim each.0 [ inl h ↦ omega (arith, s, low, h) | inr h ↦ omega (arith, s, high, h) ])) (not_outside n a b scope low high each.1)

any_append : (p : ℕ → Bool) (xs ys : Scope) → list_any p (map relation_of xs) ≡ false → list_any p (map relation_of ys) ≡ false → list_any p (map relation_of (xs ++ ys)) ≡ false
any_append p [] ys h g = g
any_append p (x ∷ xs) ys h g = let both = or_parts (p x.relation) (list_any p (map relation_of xs)) h in ap (λ b. b || list_any p (map relation_of (xs ++ ys))) both.0 ∙ any_append p xs ys both.1 g

-- entries of a FROM list before what is visible outside it
pub own_distinct : (a b c d : ℕ) (own outer : Scope) → a ≤ c → d ≤ b → Rising relation_of c d own → has_distinct_numbers outer ≡ true → Each (IsOutside a b) outer → has_distinct_numbers (own ++ outer) ≡ true
own_distinct a b c d [] outer low high rising distinct outside = distinct
own_distinct a b c d (e ∷ own) outer low high rising distinct outside =
    let within : suc e.relation ≤ d = rising_within relation_of (suc e.relation) d own rising.1 in
    ap (λ x. not x && has_distinct_numbers (own ++ outer))
    (any_append (◌==◌ e.relation) own outer (not_in e.relation (suc e.relation) d own (omega arith) rising.1) (not_outside e.relation a b outer (omega (arith, low, rising.0)) (omega (arith, within, high)) outside))
    ∙ own_distinct a b (suc e.relation) d own outer (omega (arith, low, rising.0)) high rising.1 distinct outside

own_outside : (c d e f : ℕ) (own : Scope) → (f ≤ c) ⊎ (d ≤ e) → Rising relation_of c d own → Each (IsOutside e f) own
own_outside c d e f [] side rising = tt
own_outside c d e f (x ∷ own) side rising =
    let within : suc x.relation ≤ d = rising_within relation_of (suc x.relation) d own rising.1 in (
      elim side [ inl h ↦ inr (omega (arith, h, rising.0)) | inr h ↦ inl (omega (arith, h, within)) ],
      own_outside (suc x.relation) d e f own (elim side [ inl h ↦ inl (omega (arith, h, rising.0)) | inr h ↦ inr h ]) rising.1,
    )

-- what an expression beside the FROM list sees, whose own numbers lie before or behind those of its entries
pub open_inside : (a b c d e f : ℕ) (own outer : Scope) → a ≤ c → d ≤ b → a ≤ e → f ≤ b → (f ≤ c) ⊎ (d ≤ e) → IsOpen a b outer → IsOwn c d own → IsOpen e f (own ++ outer)
open_inside a b c d e f own outer low high first end side opened is = record {
  distinct = own_distinct a b c d own outer low high is.rising opened.distinct opened.outside;
  outside = each_append (IsOutside e f) own outer (own_outside c d e f own side is.rising) (outside_narrower a b e f first end outer opened.outside);
  small = each_append IsSmall own outer is.small opened.small;
}

-- ---- what a relation's number takes

abbrev HasColumns : Scope → scopes.Entry → Type 0
HasColumns scope entry = visible_columns scope entry.relation ≡ entry.columns

later : (e : scopes.Entry) (scope rest : Scope) → list_any (◌==◌ e.relation) (map relation_of rest) ≡ false → Each (HasColumns scope) rest → Each (HasColumns (e ∷ scope)) rest
later e scope [] none each = tt
later e scope (x ∷ rest) none each =
    let both = or_parts (e.relation == x.relation) (list_any (◌==◌ e.relation) (map relation_of rest)) none in
    (ap (λ b. if b then e.columns else visible_columns scope x.relation) both.0 ∙ each.0, later e scope rest both.1 each.1)

not_true : (b : Bool) → not b ≡ true → b ≡ false
not_true true h = cc
not_true false h = refl

have_columns : (scope : Scope) → has_distinct_numbers scope ≡ true → Each (HasColumns scope) scope
have_columns [] h = tt
have_columns (e ∷ scope) h =
    let both = and_parts (not (list_any (◌==◌ e.relation) (map relation_of scope))) (has_distinct_numbers scope) h in
    (ap (λ b. if b then e.columns else visible_columns scope e.relation) (eq-eqb e.relation e.relation refl), later e scope scope (not_true (list_any (◌==◌ e.relation) (map relation_of scope)) both.0) (have_columns scope both.1))

-- a column where it is visible
pub record IsSeen (scope : Scope) (c : VisibleColumn) : Type 0 where
  pub small : c.relation < 64
  pub there : visible_column scope c.relation c.place ≡ Some (seen_column c.column)
  pub fit : fits c.column.bound ≡ true

pub record IsSeenEntry (scope : Scope) (entry : Entry) : Type 0 where
  pub small : entry.relation < 64
  pub columns : visible_columns scope entry.relation ≡ seen_columns entry.columns
  pub fit : Each FitsColumn (seen_columns entry.columns)

seen_placed : (scope : Scope) (relation : ℕ) (whole : List scopes.Column) → relation < 64 → visible_columns scope relation ≡ whole → (k : ℕ) (columns : List Column) → ((j : ℕ) → slice_get whole (k + j) ≡ slice_get (seen_columns columns) j) → Each FitsColumn (seen_columns columns)
    → Each (IsSeen scope) (map (visible_at relation) (enumerate_from k columns))
seen_placed scope relation whole low here k [] at fit = tt
seen_placed scope relation whole low here k (c ∷ columns) at fit = (
  record { small = low; there = ap (λ cs. slice_get cs k) here ∙ ap (slice_get whole) (first k) ∙ at 0; fit = fit.0 },
  seen_placed scope relation whole low here (k + 1) columns (λ j. ap (slice_get whole) (next k j) ∙ at (suc j)) fit.1,
)
  where
    first : (n : ℕ) → n ≡ n + 0
    first n = omega arith

    next : (n j : ℕ) → n + 1 + j ≡ n + suc j
    next n j = omega arith

from_first : (whole : List scopes.Column) (j : ℕ) → slice_get whole (0 + j) ≡ slice_get whole j
from_first whole j = ap (slice_get whole) (zero_first j)
  where
    zero_first : (n : ℕ) → 0 + n ≡ n
    zero_first n = omega arith

pub entry_seen : (scope : Scope) (entry : Entry) → IsSeenEntry scope entry → Each (IsSeen scope) (entry_columns entry)
entry_seen scope entry is = seen_placed scope entry.relation (seen_columns entry.columns) is.small is.columns 0 entry.columns (from_first (seen_columns entry.columns)) is.fit

abbrev pub AreSeen : Scope → Levels → Type 0
AreSeen scope levels = Each (Each (IsSeenEntry scope)) levels

seen_level : (scope : Scope) (entries : List Entry) → Each (HasColumns scope) (seen_all entries) → Each IsSmall (seen_all entries) → Each (IsSeenEntry scope) entries
seen_level scope [] h g = tt
seen_level scope (e ∷ entries) h g = (record { small = g.0.0; columns = h.0; fit = g.0.1 }, seen_level scope entries h.1 g.1)

seen_levels : (scope : Scope) (levels : Levels) → Each (HasColumns scope) (scope_of levels) → Each IsSmall (scope_of levels) → AreSeen scope levels
seen_levels scope [] h g = tt
seen_levels scope (level ∷ levels) h g = (
  seen_level scope level (each_left (HasColumns scope) (seen_all level) (scope_of levels) h) (each_left IsSmall (seen_all level) (scope_of levels) g),
  seen_levels scope levels (each_right (HasColumns scope) (seen_all level) (scope_of levels) h) (each_right IsSmall (seen_all level) (scope_of levels) g),
)

pub are_seen : (a b : ℕ) (levels : Levels) → IsOpen a b (scope_of levels) → AreSeen (scope_of levels) levels
are_seen a b levels opened = seen_levels (scope_of levels) levels (have_columns (scope_of levels) opened.distinct) opened.small

-- ---- names

pub level_seen : (scope : Scope) (entries : List Entry) → Each (IsSeenEntry scope) entries → Each (IsSeen scope) (columns_of entries)
level_seen scope [] each = tt
level_seen scope (e ∷ entries) each = each_append (IsSeen scope) (entry_columns e) (columns_of entries) (entry_seen scope e each.0) (level_seen scope entries each.1)

module _ {X : Type 0} (P : X → Type 0) (p : X → Bool) where
  each_cond : (b : Bool) (x : X) (xs : List X) → P x → Each P xs → Each P (cond b (x ∷ xs) xs)
  each_cond true x xs h each = (h, each)
  each_cond false x xs h each = each

  pub each_filter : (xs : List X) → Each P xs → Each P (filter p xs)
  each_filter [] each = tt
  each_filter (x ∷ xs) each = each_cond (p x) x (filter p xs) each.0 (each_filter xs each.1)

  either : (b : Bool) (y : X) (o : Option X) (x : X) → (if b then Some y else o) ≡ Some x → P y → (o ≡ Some x → P x) → P x
  either true y o x e h g = subst P (same_Some y x e) h
  either false y o x e h g = g e

  pub found : (xs : List X) (x : X) → find p xs ≡ Some x → Each P xs → P x
  found [] x e each = absurd (none-some x e)
  found (y ∷ ys) x e each = either (p y) y (find p ys) x e each.0 (λ g. found ys x g each.1)

outer_seen : (P : VisibleColumn → Type 0) (xs ys : List VisibleColumn) → Each P xs → Each P ys → Each P (or_outer xs ys)
outer_seen P [] ys p q = q
outer_seen P (x ∷ xs) ys p q = p

pub named_seen : (scope : Scope) (name : List ℕ) (levels : Levels) → AreSeen scope levels → Each (IsSeen scope) (named_column name levels)
named_seen scope name [] each = tt
named_seen scope name (level ∷ levels) each = outer_seen (IsSeen scope) (called name (columns_of level)) (named_column name levels) (each_filter (IsSeen scope) _ (columns_of level) (level_seen scope level each.0)) (named_seen scope name levels each.1)

pub only_seen : (P : VisibleColumn → Type 0) (at : ℕ) (cs : List VisibleColumn) (c : VisibleColumn) → the_only at cs ≡ Ok c → Each P cs → P c
only_seen P at [] c e each = absurd (no_Ok _ c e)
only_seen P at (x ∷ []) c e each = subst P (same_Ok x c e) each.0
only_seen P at (x ∷ y ∷ more) c e each = absurd (no_Ok _ c e)

either_entry : (P : Entry → Type 0) (x y : Option Entry) (e : Entry) → or_outer_entry x y ≡ Some e → (x ≡ Some e → P e) → (y ≡ Some e → P e) → P e
either_entry P (Some x) y e h p q = p h
either_entry P None y e h p q = q h

pub qualified_seen : (scope : Scope) (qualifier : List ℕ) (levels : Levels) (e : Entry) → qualified_entry qualifier levels ≡ Some e → AreSeen scope levels → IsSeenEntry scope e
qualified_seen scope qualifier [] e h each = absurd (none-some e h)
qualified_seen scope qualifier (level ∷ levels) e h each = either_entry (IsSeenEntry scope) (find (is_entry qualifier) level) (qualified_entry qualifier levels) e h (λ g. found (IsSeenEntry scope) (is_entry qualifier) level e g each.0) (λ g. qualified_seen scope qualifier levels e g each.1)

pub the_entry_is : (at : ℕ) (o : Option Entry) (e : Entry) → the_entry at o ≡ Ok e → o ≡ Some e
the_entry_is at (Some x) e h = ap Some (same_Ok x e h)
the_entry_is at None e h = absurd (no_Ok _ e h)
