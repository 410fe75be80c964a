-- Looking up a relation in a scope.
use Rattle.std.proofs.Common.{◌≡◌, ◌∙◌, ap, sym, subst, refl, ℕ, ◌⊎◌, inl, inr, false, List, [], ◌∷◌, ◌++◌, eq-eqb, eqb-true}
use Rattle.std.specs.Prelude.{◌==◌, if◌then◌else◌}
use Rattle.std.proofs.lemmas.Bool.{cases_eq, ne_eqb, or_cases}
use Rattle.jp_facts.proofs.Members.{In}
use Rattle.jp_query.specs.Scopes.{Entry, Scope, visible_columns}
use Rattle.jp_laws.proofs.TuplesFit.{InEntries, is_first, is_later, in_either}

-- the one entry of a list
only_entry : (e : Entry) (rel : ℕ) → InEntries (e ∷ []) rel → e.relation ≡ rel
only_entry e rel h = elim (or_cases (rel == e.relation) false h) [ inl q ↦ sym (eqb-true rel e.relation q) | inr gone ↦ cc ]

pub in_or_not : (es : List Entry) (rel : ℕ) → InEntries es rel ⊎ (InEntries es rel → ⊥)
in_or_not [] rel = inr (λ h. cc)
in_or_not (e ∷ es) rel = elim (cases_eq e.relation rel) [
  | inl same ↦ inl (subst (InEntries (e ∷ es)) same (is_first e es))
  | inr other ↦ elim (in_or_not es rel) [
    | inl there ↦ inl (is_later e es rel there)
    | inr none ↦ inr (λ h. elim (in_either (e ∷ []) es rel h) [ inl here ↦ other (only_entry e rel here) | inr there ↦ none there ])
  ]
]

-- relations that aren't in front are seen as behind
pub seen_behind : (es s : Scope) (rel : ℕ) → (InEntries es rel → ⊥) → visible_columns (es ++ s) rel ≡ visible_columns s rel
seen_behind [] s rel none = refl
seen_behind (e ∷ es) s rel none = elim (cases_eq e.relation rel) [
  | inl same ↦ absurd (none (subst (InEntries (e ∷ es)) same (is_first e es)))
  | inr other ↦ ap (λ b. if b then e.columns else visible_columns (es ++ s) rel) (ne_eqb e.relation rel other) ∙ seen_behind es s rel (λ h. none (is_later e es rel h))
]

-- what is seen of a relation is one of its entries
pub seen_entry : (s : Scope) (rel : ℕ) → InEntries s rel → (e : Entry) × In e s × (e.relation ≡ rel) × (visible_columns s rel ≡ e.columns)
seen_entry [] rel h = cc
seen_entry (e ∷ s) rel h = elim (cases_eq e.relation rel) [
  | inl same ↦ (e, inl refl, same, ap (λ b. if b then e.columns else visible_columns s rel) (eq-eqb e.relation rel same))
  | inr other ↦ (
      let rest = seen_entry s rel (elim (in_either (e ∷ []) s rel h) [ inl here ↦ absurd (other (only_entry e rel here)) | inr there ↦ there ]) in
      (rest.0, inr rest.1, rest.2, ap (λ b. if b then e.columns else visible_columns s rel) (ne_eqb e.relation rel other) ∙ rest.3)
      )
]

pub unseen : (s : Scope) (rel : ℕ) → (InEntries s rel → ⊥) → visible_columns s rel ≡ []
unseen [] rel none = refl
unseen (e ∷ s) rel none = elim (cases_eq e.relation rel) [
  | inl same ↦ absurd (none (subst (InEntries (e ∷ s)) same (is_first e s)))
  | inr other ↦ ap (λ b. if b then e.columns else visible_columns s rel) (ne_eqb e.relation rel other) ∙ unseen s rel (λ h. none (is_later e s rel h))
]

pub entered : (e : Entry) (s : Scope) → In e s → InEntries s e.relation
entered e [] h = absurd h
entered e (d ∷ s) (inl same) = subst (λ (x : Entry). InEntries (d ∷ s) x.relation) same (is_first d s)
entered e (d ∷ s) (inr h) = is_later d s e.relation (entered e s h)

-- what is in front is seen whatever stands behind
pub seen_front : (es s : Scope) (rel : ℕ) → InEntries es rel → visible_columns (es ++ s) rel ≡ visible_columns es rel
seen_front [] s rel h = cc
seen_front (e ∷ es) s rel h = elim (cases_eq e.relation rel) [
  | inl same ↦ ap (λ b. if b then e.columns else visible_columns (es ++ s) rel) (eq-eqb e.relation rel same) ∙ sym (ap (λ b. if b then e.columns else visible_columns es rel) (eq-eqb e.relation rel same))
  | inr other ↦ ap (λ b. if b then e.columns else visible_columns (es ++ s) rel) (ne_eqb e.relation rel other)
      ∙ seen_front es s rel (elim (in_either (e ∷ []) es rel h) [ inl here ↦ absurd (other (only_entry e rel here)) | inr there ↦ there ])
      ∙ sym (ap (λ b. if b then e.columns else visible_columns es rel) (ne_eqb e.relation rel other))
]
