-- Tuples that fit the entries of a tree, and what joins make of them.
use Rattle.std.proofs.Common.{◌≡◌, ◌∙◌, ap, sym, subst, refl, ℕ, zero, suc, ◌⊎◌, ◌↔◌, inl, inr, Bool, true, false, cond, not, ◌&&◌, ◌||◌, List, [], ◌∷◌, ◌++◌, map, fold, filter, Option, Some, None, eq-eqb, append_assoc, ◌^◌}
use Rattle.std.specs.Prelude.{bit_or, ◌==◌, slice_get, slice_index_or, if◌then◌else◌}
use Rattle.std.specs.Int.{bit_at}
use Rattle.std.specs.List.{flat_map}
use Rattle.std.proofs.lemmas.Bool.{cases_eq, eqb-true}
use Rattle.std.proofs.lemmas.List.{append-nil}
use Rattle.std.proofs.lemmas.Nat.Bits.{bit_at-pow_same, bit_at-pow_other}
use Rattle.std.proofs.Common.{arith}
use Rattle.jp_base.specs.Sets.{Has}
use Rattle.jp_base.proofs.SetLemmas.{has_or, empty_zero}
use Rattle.jp_base.specs.declared.values.Value.TheVariants as value
use Rattle.jp_query.specs.declared.JoinKind.{JoinKind}
use Rattle.jp_query.specs.declared.JoinKind.TheVariants as join
use Rattle.jp_query.specs.Joins.{join_rels}
use Rattle.jp_query.specs.Refs.{only}
use Rattle.jp_query.specs.Meaning.{Row, Env, ValueIn, Tuples, cell_in, holds, with_row, with_rows, without, or_else, pairs, pairs_or_alone, has_match, has_no_match, is_unmatched, left_join, join_tuples, extended, with_member}
use Rattle.jp_query.specs.Parts.{ColumnRef}
use Rattle.jp_query.specs.Scopes.{Column, Entry, Scope, EntriesIn, visible_columns, visible_column, in_scope, join_entries}
use Rattle.jp_query.specs.Tables.{IsRowOf}
use Rattle.jp_query.specs.Conditions.{relation_of, are_distinct}
use Rattle.jp_query.specs.Fitting.{IsCellOfSome, IsCellAt, IsRowFor, IsEntryOf, is_entry}
use Rattle.std.proofs.lemmas.Bool.{ne_eqb}
use Rattle.jp_laws.proofs.ValueLaws.{and_left, and_right}
use Rattle.jp_laws.proofs.EachPart.{Each, each_left, each_right, each_append, each_weaker}

-- ---- entries

abbrev pub InEntries : List Entry → ℕ → Type 0
InEntries entries n = is_entry entries n ≡ true

or_true : (a b : Bool) → (a || b) ≡ true → (a ≡ true) ⊎ (b ≡ true)
or_true true b h = inl refl
or_true false b h = inr h

or_first : (a b : Bool) → a ≡ true → (a || b) ≡ true
or_first true b h = refl
or_first false b h = cc

or_second : (a b : Bool) → b ≡ true → (a || b) ≡ true
or_second true b h = refl
or_second false b h = h

eq_self : (n : ℕ) → (n == n) ≡ true
eq_self n = eq-eqb n n refl

pub is_first : (entry : Entry) (entries : List Entry) → InEntries (entry ∷ entries) entry.relation
is_first entry entries = or_first (entry.relation == entry.relation) (is_entry entries entry.relation) (eq_self entry.relation)

pub is_later : (entry : Entry) (entries : List Entry) (n : ℕ) → InEntries entries n → InEntries (entry ∷ entries) n
is_later entry entries n h = or_second (n == entry.relation) (is_entry entries n) h

pub in_left : (left right : List Entry) (n : ℕ) → InEntries left n → InEntries (left ++ right) n
in_left [] right n h = cc
in_left (e ∷ left) right n h = elim (or_true (n == e.relation) (is_entry left n) h) [
  | inl p ↦ or_first (n == e.relation) (is_entry (left ++ right) n) p
  | inr p ↦ or_second (n == e.relation) (is_entry (left ++ right) n) (in_left left right n p)
]

pub in_right : (left right : List Entry) (n : ℕ) → InEntries right n → InEntries (left ++ right) n
in_right [] right n h = h
in_right (e ∷ left) right n h = or_second (n == e.relation) (is_entry (left ++ right) n) (in_right left right n h)

pub in_either : (left right : List Entry) (n : ℕ) → InEntries (left ++ right) n → InEntries left n ⊎ InEntries right n
in_either [] right n h = inr h
in_either (e ∷ left) right n h = elim (or_true (n == e.relation) (is_entry (left ++ right) n) h) [
  | inl p ↦ inl (or_first (n == e.relation) (is_entry left n) p)
  | inr p ↦ elim (in_either left right n p) [ inl q ↦ inl (or_second (n == e.relation) (is_entry left n) q) | inr q ↦ inr q ]
]

abbrev pub Disjoint : List Entry → List Entry → Type 0
Disjoint left right = (n : ℕ) → InEntries left n → InEntries right n → ⊥

pub not_true : (b : Bool) → not b ≡ true → b ≡ true → ⊥
not_true true h e = cc
not_true false h e = cc

pub apart_from : (left right : List Entry) → are_distinct (map relation_of (left ++ right)) ≡ true → Disjoint left right
apart_from [] right d n p q = cc
apart_from (e ∷ left) right d n p q =
    let inner = are_distinct (map relation_of (left ++ right)) in
    let first = not (is_entry (left ++ right) e.relation) in
    elim (or_true (n == e.relation) (is_entry left n) p) [
      | inl s ↦ not_true (is_entry (left ++ right) e.relation) (and_left first inner d) (in_right left right e.relation (subst (λ k. InEntries right k) (eqb-true n e.relation s) q))
      | inr s ↦ apart_from left right (and_right first inner d) n s q
    ]

pub apart_later : (left right : List Entry) → are_distinct (map relation_of (left ++ right)) ≡ true → are_distinct (map relation_of right) ≡ true
apart_later [] right d = d
apart_later (e ∷ left) right d = apart_later left right (and_right (not (is_entry (left ++ right) e.relation)) (are_distinct (map relation_of (left ++ right))) d)

and_true : (b c : Bool) → b ≡ true → c ≡ true → (b && c) ≡ true
and_true true c p q = q
and_true false c p q = p

-- what holds of the greater list, turned round
not_in : (b c : Bool) → (b ≡ true → c ≡ true) → not c ≡ true → not b ≡ true
not_in true true w h = h
not_in true false w h = absurd (false_true (w refl))
  where
    false_true : false ≡ true → ⊥
    false_true e = cc
not_in false c w h = refl

pub distinct_start : (entries outer : List Entry) → are_distinct (map relation_of (entries ++ outer)) ≡ true → are_distinct (map relation_of entries) ≡ true
distinct_start [] outer d = refl
distinct_start (e ∷ entries) outer d =
    let first = not (is_entry (entries ++ outer) e.relation) in
    let rest = are_distinct (map relation_of (entries ++ outer)) in
    and_true (not (is_entry entries e.relation)) (are_distinct (map relation_of entries)) (not_in (is_entry entries e.relation) (is_entry (entries ++ outer) e.relation) (in_left entries outer e.relation) (and_left first rest d))
    (distinct_start entries outer (and_right first rest d))

-- a part in the middle left out
pub distinct_ends : (left middle outer : List Entry) → are_distinct (map relation_of (left ++ (middle ++ outer))) ≡ true → are_distinct (map relation_of (left ++ outer)) ≡ true
distinct_ends [] middle outer d = apart_later middle outer d
distinct_ends (e ∷ left) middle outer d =
    let first = not (is_entry (left ++ (middle ++ outer)) e.relation) in
    let rest = are_distinct (map relation_of (left ++ (middle ++ outer))) in
    and_true (not (is_entry (left ++ outer) e.relation)) (are_distinct (map relation_of (left ++ outer))) (not_in (is_entry (left ++ outer) e.relation) (is_entry (left ++ (middle ++ outer)) e.relation) more_in (and_left first rest d))
    (distinct_ends left middle outer (and_right first rest d))
  where
    more_in : InEntries (left ++ outer) e.relation → InEntries (left ++ (middle ++ outer)) e.relation
    more_in h = elim (in_either left outer e.relation h) [
      | inl p ↦ in_left left (middle ++ outer) e.relation p
      | inr p ↦ in_right left (middle ++ outer) e.relation (in_right middle outer e.relation p)
    ]

-- the entries of a list of trees
abbrev pub joined_entries : List (List Entry) → List Entry
joined_entries [] = []
joined_entries (entries ∷ lists) = entries ++ joined_entries lists

pub flat_joined : (outer : Scope) (fs : List EntriesIn) → flat_map (in_scope outer) fs ≡ joined_entries (map (in_scope outer) fs)
flat_joined outer [] = refl
flat_joined outer (f ∷ fs) = ap (λ es. f outer ++ es) (flat_joined outer fs)

-- ---- tuples

pub record Fit (entries : List Entry) (env : Env) (tuple : Env) : Type 0 where
  pub rows : Each (IsEntryOf tuple) entries
  pub others : (n : ℕ) → (InEntries entries n → ⊥) → tuple n ≡ env n

-- the facts of each entry, where its relation is one of the list
each_entry : (P Q : Entry → Type 0) (entries : List Entry) → ((e : Entry) → InEntries entries e.relation → P e → Q e) → Each P entries → Each Q entries
each_entry P Q [] w h = tt
each_entry P Q (e ∷ entries) w h = (w e (is_first e entries) h.0, each_entry P Q entries (λ x p. w x (is_later e entries x.relation p)) h.1)

abbrev pub AreRels : ℕ → List Entry → Type 0
AreRels rels entries = (n : ℕ) → Has rels n ↔ InEntries entries n

there : (rels n : ℕ) (x u : Env) → Has rels n → with_rows rels x u n ≡ u n
there rels n x u h = ap (λ b. if b then u n else x n) (eq-eqb (bit_at rels n) 1 h)

elsewhere : (rels n : ℕ) (x u : Env) → (Has rels n → ⊥) → with_rows rels x u n ≡ x n
elsewhere rels n x u h = ap (λ b. if b then u n else x n) (ne_eqb (bit_at rels n) 1 h)

gone : (rels n : ℕ) (x : Env) → Has rels n → without rels x n ≡ None
gone rels n x h = ap (λ b. if b then None else x n) (eq-eqb (bit_at rels n) 1 h)

stays : (rels n : ℕ) (x : Env) → (Has rels n → ⊥) → without rels x n ≡ x n
stays rels n x h = ap (λ b. if b then None else x n) (ne_eqb (bit_at rels n) 1 h)

module _ (left right : List Entry) (rels : ℕ) (are : AreRels rels right) (apart : Disjoint left right) (env : Env) where
  pub both_fit : (x u : Env) → Fit left env x → Fit right env u → Fit (left ++ right) env (with_rows rels x u)
  both_fit x u f g = record {
    rows = each_append (IsEntryOf (with_rows rels x u)) left right
        (each_entry (IsEntryOf x) (IsEntryOf (with_rows rels x u)) left (λ e p r. subst (IsRowFor e.columns) (sym (elsewhere rels e.relation x u (λ h. apart e.relation p ((are e.relation).0 h)))) r) f.rows)
        (each_entry (IsEntryOf u) (IsEntryOf (with_rows rels x u)) right (λ e p r. subst (IsRowFor e.columns) (sym (there rels e.relation x u ((are e.relation).1 p))) r) g.rows);
    others = λ n out. elsewhere rels n x u (λ h. out (in_right left right n ((are n).0 h))) ∙ f.others n (λ p. out (in_left left right n p));
  }

  alone_fits : (x : Env) → Fit left env x → Fit (left ++ right) env (without rels x)
  alone_fits x f = record {
    rows = each_append (IsEntryOf (without rels x)) left right
        (each_entry (IsEntryOf x) (IsEntryOf (without rels x)) left (λ e p r. subst (IsRowFor e.columns) (sym (stays rels e.relation x (λ h. apart e.relation p ((are e.relation).0 h)))) r) f.rows)
        (absent right (λ e p. p));
    others = λ n out. stays rels n x (λ h. out (in_right left right n ((are n).0 h))) ∙ f.others n (λ p. out (in_left left right n p));
  }
    where
      absent : (some : List Entry) → ((e : Entry) → InEntries some e.relation → InEntries right e.relation) → Each (IsEntryOf (without rels x)) some
      absent [] w = tt
      absent (e ∷ some) w = (subst (IsRowFor e.columns) (sym (gone rels e.relation x ((are e.relation).1 (w e (is_first e some))))) tt, absent some (λ y p. w y (is_later e some y.relation p)))

-- the entries of the sides in the other order
pub swapped : (left right : List Entry) (env x : Env) → Fit (left ++ right) env x → Fit (right ++ left) env x
swapped left right env x f = record {
  rows = each_append (IsEntryOf x) right left (each_right (IsEntryOf x) left right f.rows) (each_left (IsEntryOf x) left right f.rows);
  others = λ n out. f.others n (λ p. out (elim (in_either left right n p) [ inl q ↦ in_right right left n q | inr q ↦ in_left right left n q ]));
}

-- ---- lists of tuples

module _ {X : Type 0} where
  kept : (P : X → Type 0) (x : X) (xs : List X) (b : Bool) → P x → Each P xs → Each P (cond b (x ∷ xs) xs)
  kept P x xs true p h = (p, h)
  kept P x xs false p h = h

  pub each_filter : (P : X → Type 0) (test : X → Bool) (xs : List X) → Each P xs → Each P (filter test xs)
  each_filter P test [] h = tt
  each_filter P test (x ∷ xs) h = kept P x (filter test xs) (test x) h.0 (each_filter P test xs h.1)

pub each_flat : (P Q : Env → Type 0) (f : Env → List Env) → ((x : Env) → P x → Each Q (f x)) → (xs : List Env) → Each P xs → Each Q (flat_map f xs)
each_flat P Q f w [] h = tt
each_flat P Q f w (x ∷ xs) h = each_append Q (f x) (flat_map f xs) (w x h.0) (each_flat P Q f w xs h.1)

pub each_mapped_to : {X Y : Type 0} (P : X → Type 0) (Q : Y → Type 0) (f : X → Y) → ((x : X) → P x → Q (f x)) → (xs : List X) → Each P xs → Each Q (map f xs)
each_mapped_to P Q f w [] h = tt
each_mapped_to P Q f w (x ∷ xs) h = (w x h.0, each_mapped_to P Q f w xs h.1)

else_fits : (P : Env → Type 0) (xs : List Env) (x : Env) → P x → Each P xs → Each P (or_else xs x)
else_fits P [] x p h = (p, tt)
else_fits P (y ∷ xs) x p h = h

module _ (on : List ValueIn) (left right : List Entry) (rels : ℕ) (are : AreRels rels right) (apart : Disjoint left right) (env : Env) where
  pairs_fit : (rights : List Env) → Each (Fit right env) rights → (x : Env) → Fit left env x → Each (Fit (left ++ right) env) (pairs on rels rights x)
  pairs_fit rights h x f = each_filter (Fit (left ++ right) env) (holds on) (map (with_rows rels x) rights) (each_mapped_to (Fit right env) (Fit (left ++ right) env) (with_rows rels x) (λ u g. both_fit left right rels are apart env x u f g) rights h)

  left_fits : (lefts rights : List Env) → Each (Fit left env) lefts → Each (Fit right env) rights → Each (Fit (left ++ right) env) (left_join on rels lefts rights)
  left_fits lefts rights f g = each_flat (Fit left env) (Fit (left ++ right) env) (pairs_or_alone on rels rights) (λ x p. else_fits (Fit (left ++ right) env) (pairs on rels rights x) (without rels x) (alone_fits left right rels are apart env x p) (pairs_fit rights g x p)) lefts f

pub join_fits : (kind : JoinKind) (on : List ValueIn) (left right : List Entry) (l r : ℕ) → AreRels l left → AreRels r right → Disjoint left right → (env : Env) (lefts rights : List Env)
    → Each (Fit left env) lefts → Each (Fit right env) rights → Each (Fit (join_entries kind left right) env) (join_tuples kind on l lefts r rights)
join_fits join.Inner on left right l r a b apart env lefts rights f g = each_flat (Fit left env) (Fit (left ++ right) env) (pairs on r rights) (λ x p. pairs_fit on left right r b apart env rights g x p) lefts f
join_fits join.Left on left right l r a b apart env lefts rights f g = left_fits on left right r b apart env lefts rights f g
join_fits join.Right on left right l r a b apart env lefts rights f g = each_weaker (Fit (right ++ left) env) (Fit (left ++ right) env) (swapped right left env) (left_join on l rights lefts) (left_fits on right left l a (λ n p q. apart n q p) env rights lefts g f)
join_fits join.Full on left right l r a b apart env lefts rights f g =
    each_append (Fit (left ++ right) env) (left_join on r lefts rights) (map (without l) (filter (is_unmatched on r lefts) rights)) (left_fits on left right r b apart env lefts rights f g)
    (each_mapped_to (Fit right env) (Fit (left ++ right) env) (without l) (λ u p. swapped right left env (without l u) (alone_fits right left l a (λ n p' q. apart n q p') env u p)) (filter (is_unmatched on r lefts) rights) (each_filter (Fit right env) (is_unmatched on r lefts) rights g))
join_fits join.Semi on left right l r a b apart env lefts rights f g = each_filter (Fit left env) (has_match on r rights) lefts f
join_fits join.Anti on left right l r a b apart env lefts rights f g = each_filter (Fit left env) (has_no_match on r rights) lefts f

pub both_are : (left right : List Entry) (l r : ℕ) → AreRels l left → AreRels r right → AreRels (bit_or l r) (left ++ right)
both_are left right l r a b n = (
  λ h. elim ((has_or l r n).0 h) [ inl p ↦ in_left left right n ((a n).0 p) | inr p ↦ in_right left right n ((b n).0 p) ],
  λ h. (has_or l r n).1 (elim (in_either left right n h) [ inl p ↦ inl ((a n).1 p) | inr p ↦ inr ((b n).1 p) ]),
)

pub join_are : (kind : JoinKind) (left right : List Entry) (l r : ℕ) → AreRels l left → AreRels r right → AreRels (join_rels kind l r) (join_entries kind left right)
join_are join.Inner left right l r a b = both_are left right l r a b
join_are join.Left left right l r a b = both_are left right l r a b
join_are join.Right left right l r a b = both_are left right l r a b
join_are join.Full left right l r a b = both_are left right l r a b
join_are join.Semi left right l r a b = a
join_are join.Anti left right l r a b = a

-- ---- the tuples of a FROM list

-- each member's tuples fit its entries, whose relations are its own
pub data Members (env : Env) : List Tuples → List (List Entry) → Type 0 where
  none : Members env [] []
  more : {member : Tuples} {here : List Entry} {members : List Tuples} {lists : List (List Entry)} → AreRels member.rels here → Each (Fit here env) (member.tuples env) → Members env members lists → Members env (member ∷ members) (here ∷ lists)

pub nothing_fits : (env : Env) → Fit [] env env
nothing_fits env = record { rows = tt; others = λ n out. refl }

pub none_are : AreRels 0 []
none_are n = (λ h. absurd (empty_zero 0 refl n h), λ h. cc)

pub members_fit : {env : Env} {members : List Tuples} {lists : List (List Entry)} → Members env members lists → (entries : List Entry) → are_distinct (map relation_of (entries ++ joined_entries lists)) ≡ true
    → (tuples : List Env) → Each (Fit entries env) tuples → Each (Fit (entries ++ joined_entries lists) env) (fold (with_member env) tuples members)
members_fit {env} none entries d tuples h = subst (λ es. Each (Fit es env) tuples) (sym (append-nil entries)) h
members_fit {env} (more {member} {here} {members} {lists} are fits rest) entries d tuples h =
    let e : (entries ++ here) ++ joined_entries lists ≡ entries ++ (here ++ joined_entries lists) = append_assoc entries here (joined_entries lists) in
    let apart : Disjoint entries here = λ n p q. apart_from entries (here ++ joined_entries lists) d n p (in_left here (joined_entries lists) n q) in
    subst (λ es. Each (Fit es env) (fold (with_member env) (with_member env tuples member) members)) e
    (members_fit rest (entries ++ here) (subst (λ es. are_distinct (map relation_of es) ≡ true) (sym e) d) (with_member env tuples member)
    (each_flat (Fit entries env) (Fit (entries ++ here) env) (extended member env) (λ x f. each_mapped_to (Fit here env) (Fit (entries ++ here) env) (with_rows member.rels x) (λ u g. both_fit entries here member.rels are apart env x u f g) (member.tuples env) fits) tuples h))

-- ---- a leaf

pub leaf_are : (rel : ℕ) (columns : List Column) → AreRels (only rel) (record { relation = rel; columns = columns } ∷ [])
leaf_are rel columns n = (
  λ h. elim (cases_eq n rel) [
    | inl e ↦ or_first (n == rel) false (eq-eqb n rel e)
    | inr other ↦ absurd (omega (arith, bit_at-pow_other rel n other, h))
  ],
  λ h. elim (or_true (n == rel) false h) [
    | inl e ↦ subst (λ k. Has (2 ^ rel) k) (sym (eqb-true n rel e)) (bit_at-pow_same rel)
    | inr other ↦ cc
  ],
)

pub leaf_fits : (rel : ℕ) (columns : List Column) (env : Env) (row : Row) → IsRowOf columns row → Fit (record { relation = rel; columns = columns } ∷ []) env (with_row env rel row)
leaf_fits rel columns env row h = record {
  rows = (subst (IsRowFor columns) (sym (ap (λ b. if b then Some row else env rel) (eq_self rel))) h, tt);
  others = λ n out. ap (λ b. if b then Some row else env n) (ne_eqb n rel (λ e. out (or_first (n == rel) false (eq-eqb n rel e))));
}

-- ---- cells of an expression above a tree

row_cell : (columns : List Column) (row : Row) (col : ℕ) → IsRowOf columns row → IsCellOfSome (slice_get columns col) (slice_index_or row col value.Null)
row_cell [] [] col h = tt
row_cell [] (v ∷ row) col h = absurd h
row_cell (c ∷ columns) [] col h = absurd h
row_cell (c ∷ columns) (v ∷ row) zero h = h.0
row_cell (c ∷ columns) (v ∷ row) (suc col) h = row_cell columns row col h.1

null_cell : (o : Option Column) → IsCellOfSome o value.Null
null_cell (Some column) = record { typed = tt; within = tt }
null_cell None = tt

entry_cell : (columns : List Column) (row : Option Row) (col : ℕ) → IsRowFor columns row → IsCellOfSome (slice_get columns col) (cell_in row col)
entry_cell columns (Some row) col h = row_cell columns row col h
entry_cell columns None col h = null_cell (slice_get columns col)

seen_cell : (tuple : Env) (rel col : ℕ) (outer : Scope) (entries : List Entry) → Each (IsEntryOf tuple) entries → ((InEntries entries rel → ⊥) → IsCellOfSome (slice_get (visible_columns outer rel) col) (cell_in (tuple rel) col))
    → IsCellOfSome (slice_get (visible_columns (entries ++ outer) rel) col) (cell_in (tuple rel) col)
seen_cell tuple rel col outer [] h o = o (λ p. cc)
seen_cell tuple rel col outer (e ∷ entries) h o = elim (cases_eq e.relation rel) [
  | inl same ↦ subst (λ b. IsCellOfSome (slice_get (if b then e.columns else visible_columns (entries ++ outer) rel) col) (cell_in (tuple rel) col)) (sym (eq-eqb e.relation rel same))
      (entry_cell e.columns (tuple rel) col (subst (λ n. IsRowFor e.columns (tuple n)) same h.0))
  | inr other ↦ subst (λ b. IsCellOfSome (slice_get (if b then e.columns else visible_columns (entries ++ outer) rel) col) (cell_in (tuple rel) col)) (sym (ne_eqb e.relation rel other))
      (seen_cell tuple rel col outer entries h.1 (λ out. o (λ p. elim (or_true (rel == e.relation) (is_entry entries rel) p) [ inl q ↦ other (sym (eqb-true rel e.relation q)) | inr q ↦ out q ])))
]

pub inner_cell : (entries : List Entry) (outer : Scope) (env tuple : Env) → Fit entries env tuple → (c : ColumnRef) → IsCellAt outer env c → IsCellAt (entries ++ outer) tuple c
inner_cell entries outer env tuple f c h = seen_cell tuple c.relation c.column outer entries f.rows (λ out. subst (λ (r : Option Row). IsCellOfSome (visible_column outer c.relation c.column) (cell_in r c.column)) (sym (f.others c.relation out)) h)
