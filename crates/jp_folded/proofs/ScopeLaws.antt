-- Scopes with the same relations, whose columns stand to one another as a relation says, in any order.
use Rattle.std.proofs.Common.{◌≡◌, ◌∙◌, ap, sym, subst, refl, ℕ, ◌⊎◌, inl, inr, Bool, true, false, not, ◌==◌, List, [], ◌∷◌, ◌++◌, map, bit_and}
use Rattle.std.specs.Prelude.{if◌then◌else◌}
use Rattle.std.specs.List.{list_any}
use Rattle.std.proofs.lemmas.Bool.{eq-eqb}
use Rattle.std.proofs.lemmas.List.{append-nil}
use Rattle.std.proofs.lemmas.Bool.Decides.{eqb_tells}
use Rattle.jp_base.specs.Sets.{Within}
use Rattle.jp_base.proofs.MaskAlgebra.{EachWithin, fold_within, within_fold, has_none, same_within}
use Rattle.jp_facts.proofs.Members.{In, Distinct, in_append_left, in_append_right, from_append, in_map, from_map, distinct_append, any_in, none_any}
use Rattle.jp_query.specs.Scopes.{Column, Entry, Scope, visible_columns}
use Rattle.jp_query.specs.Refs.{only, union}
use Rattle.jp_query.specs.Conditions.{relation_of, are_distinct, has_distinct_numbers, sees_relations}
use Rattle.jp_laws.proofs.ValueLaws.{and_left, and_right}
use Rattle.jp_folded.proofs.Lists.{both}

-- ---- lists without a repetition

one_of : (n m : ℕ) → (n == m) ≡ true → n ≡ m
one_of n m h = elim (eqb_tells n m) [ inl same ↦ same.1 | inr other ↦ let never : true ≡ false = sym h ∙ other.0 in cc ]

pub to_distinct : (ns : List ℕ) → are_distinct ns ≡ true → Distinct ns
to_distinct [] h = tt
to_distinct (n ∷ ns) h =
    let none = and_left (not (list_any (◌==◌ n) ns)) (are_distinct ns) h in (
      λ p. let never : not (list_any (◌==◌ n) ns) ≡ false = ap not (any_in (◌==◌ n) n ns p (eq-eqb n n refl)) in let bad : true ≡ false = sym none ∙ never in cc,
      to_distinct ns (and_right (not (list_any (◌==◌ n) ns)) (are_distinct ns) h),
    )

pub from_distinct : (ns : List ℕ) → Distinct ns → are_distinct ns ≡ true
from_distinct [] h = refl
from_distinct (n ∷ ns) h = both (not (list_any (◌==◌ n) ns)) (are_distinct ns) (ap not (none_any (◌==◌ n) ns (λ m p. differs m p (n == m) refl))) (from_distinct ns h.1)
  where
    differs : (m : ℕ) → In m ns → (b : Bool) → (n == m) ≡ b → (n == m) ≡ false
    differs m p true e = absurd (h.0 (subst (λ k. In k ns) (sym (one_of n m e)) p))
    differs m p false e = e

distinct_left : (ns ms : List ℕ) → Distinct (ns ++ ms) → Distinct ns
distinct_left [] ms h = tt
distinct_left (n ∷ ns) ms h = (λ p. h.0 (in_append_left n ns ms p), distinct_left ns ms h.1)

pub distinct_right : (ns ms : List ℕ) → Distinct (ns ++ ms) → Distinct ms
distinct_right [] ms h = h
distinct_right (n ∷ ns) ms h = distinct_right ns ms h.1

distinct_between : (ns ms : List ℕ) (n : ℕ) → Distinct (ns ++ ms) → In n ns → In n ms → ⊥
distinct_between [] ms n h p q = p
distinct_between (m ∷ ns) ms n h (inl e) q = h.0 (subst (λ k. In k (ns ++ ms)) (sym e) (in_append_right n ns ms q))
distinct_between (m ∷ ns) ms n h (inr p) q = distinct_between ns ms n h.1 p q

pub relations_append : (es ds : List Entry) → map relation_of (es ++ ds) ≡ map relation_of es ++ map relation_of ds
relations_append [] ds = refl
relations_append (e ∷ es) ds = ap (λ ns. relation_of e ∷ ns) (relations_append es ds)

-- ---- scopes side by side

module _ (R : Column → Column → Type 0) where
  abbrev pub AreAlike : List Column → List Column → Type 0
  AreAlike [] [] = Unit {0}
  AreAlike (c ∷ cs) (d ∷ ds) = R c d × AreAlike cs ds
  AreAlike _ _ = ⊥

  -- each entry of the one has one of the same relation in the other, with columns that are alike
  pub record Below (es ds : List Entry) : Type 0 where
    pub apart : Distinct (map relation_of ds) → Distinct (map relation_of es)
    pub found : (n : ℕ) → In n (map relation_of ds) → In n (map relation_of es)
    pub entries : (e : Entry) → In e es → (d : Entry) × In d ds × (e.relation ≡ d.relation) × AreAlike e.columns d.columns

  also : (es ds : List Entry) → Below es ds → (n : ℕ) → In n (map relation_of es) → In n (map relation_of ds)
  also es ds h n p =
      let (e, q, same) = from_map relation_of n es p in
      let (d, r, eq, alike) = h.entries e q in
      subst (λ m. In m (map relation_of ds)) (sym eq ∙ same) (in_map relation_of d ds r)

  pub below_none : Below [] []
  below_none = record { apart = λ h. h; found = λ n p. p; entries = λ e p. absurd p }

  pub below_one : (rel : ℕ) (cs ds : List Column) → AreAlike cs ds → Below (record { relation = rel; columns = cs } ∷ []) (record { relation = rel; columns = ds } ∷ [])
  below_one rel cs ds h = record {
    apart = λ k. k;
    found = λ n p. p;
    entries = λ e p. elim p [ inl same ↦ (record { relation = rel; columns = ds }, inl refl, sym (ap relation_of same), subst (λ (x : Entry). AreAlike x.columns ds) same h) | inr never ↦ absurd never ];
  }

  module _ (es ds fs gs : List Entry) (h : Below es ds) (k : Below fs gs) where
    parted : Distinct (map relation_of (ds ++ gs)) → Distinct (map relation_of ds ++ map relation_of gs)
    parted = subst Distinct (relations_append ds gs)

    no_common : Distinct (map relation_of (ds ++ gs)) → (n : ℕ) → In n (map relation_of es) → In n (map relation_of fs) → ⊥
    no_common d n p q = distinct_between (map relation_of ds) (map relation_of gs) n (parted d) (also es ds h n p) (also fs gs k n q)

    pub below_append : Below (es ++ fs) (ds ++ gs)
    below_append = record {
      apart = λ d. subst Distinct (sym (relations_append es fs)) (distinct_append (map relation_of es) (map relation_of fs) (h.apart (distinct_left (map relation_of ds) (map relation_of gs) (parted d))) (k.apart (distinct_right (map relation_of ds) (map relation_of gs) (parted d))) (no_common d));
      found = λ n p. subst (In n) (sym (relations_append es fs)) (elim (from_append n (map relation_of ds) (map relation_of gs) (subst (In n) (relations_append ds gs) p))
          [ inl q ↦ in_append_left n (map relation_of es) (map relation_of fs) (h.found n q) | inr q ↦ in_append_right n (map relation_of es) (map relation_of fs) (k.found n q) ]);
      entries = λ e p. elim (from_append e es fs p)
          [ inl q ↦ let x = h.entries e q in (x.0, in_append_left x.0 ds gs x.1, x.2, x.3) | inr q ↦ let x = k.entries e q in (x.0, in_append_right x.0 ds gs x.1, x.2, x.3) ];
    }

    -- the sides exchanged
    pub below_crossed : Below (fs ++ es) (ds ++ gs)
    below_crossed = record {
      apart = λ d. subst Distinct (sym (relations_append fs es)) (distinct_append (map relation_of fs) (map relation_of es) (k.apart (distinct_right (map relation_of ds) (map relation_of gs) (parted d))) (h.apart (distinct_left (map relation_of ds) (map relation_of gs) (parted d))) (λ n p q. no_common d n q p));
      found = λ n p. subst (In n) (sym (relations_append fs es)) (elim (from_append n (map relation_of ds) (map relation_of gs) (subst (In n) (relations_append ds gs) p))
          [ inl q ↦ in_append_right n (map relation_of fs) (map relation_of es) (h.found n q) | inr q ↦ in_append_left n (map relation_of fs) (map relation_of es) (k.found n q) ]);
      entries = λ e p. elim (from_append e fs es p)
          [ inl q ↦ let x = k.entries e q in (x.0, in_append_right x.0 ds gs x.1, x.2, x.3) | inr q ↦ let x = h.entries e q in (x.0, in_append_left x.0 ds gs x.1, x.2, x.3) ];
    }

  -- of two lists of entries, each behind which nothing stands, the sides exchanged
  pub below_turned : (es ds fs gs : List Entry) → Below es ds → Below fs gs → Below (fs ++ (es ++ [])) (ds ++ (gs ++ []))
  below_turned es ds fs gs h k = below_crossed (es ++ []) ds fs (gs ++ [])
      (subst (λ xs. Below xs ds) (sym (append-nil es)) h) (subst (Below fs) (sym (append-nil gs)) k)

  alike_same : ((c : Column) → R c c) → (cs : List Column) → AreAlike cs cs
  alike_same one [] = tt
  alike_same one (c ∷ cs) = (one c, alike_same one cs)

  pub below_itself : ((c : Column) → R c c) → (es : List Entry) → Below es es
  below_itself one es = record { apart = λ d. d; found = λ n p. p; entries = λ e p. (e, p, refl, alike_same one e.columns) }

  -- ---- what is visible

  -- one scope over another, which tells its relations apart
  pub record Stands (s' s : Scope) : Type 0 where
    pub below : Below s' s
    pub distinct : Distinct (map relation_of s)

  data Seen (es : List Entry) (rel : ℕ) : Type 0 where
    nowhere : visible_columns es rel ≡ [] → ¬ In rel (map relation_of es) → Seen es rel
    entry : (e : Entry) → In e es → e.relation ≡ rel → visible_columns es rel ≡ e.columns → Seen es rel

  seen : (es : List Entry) (rel : ℕ) → Seen es rel
  seen [] rel = nowhere refl (λ p. p)
  seen (e ∷ es) rel = at_head (eqb_tells e.relation rel) (seen es rel)
    where
      at_head : (((e.relation == rel) ≡ true) × (e.relation ≡ rel)) ⊎ (((e.relation == rel) ≡ false) × (e.relation ≡ rel → ⊥)) → Seen es rel → Seen (e ∷ es) rel
      at_head (inl same) rest = entry e (inl refl) same.1 (ap (λ b. if b then e.columns else visible_columns es rel) same.0)
      at_head (inr other) (nowhere none out) = nowhere (ap (λ b. if b then e.columns else visible_columns es rel) other.0 ∙ none) (λ p. elim p [ inl q ↦ other.1 q | inr q ↦ out q ])
      at_head (inr other) (entry d p r v) = entry d (inr p) r (ap (λ b. if b then e.columns else visible_columns es rel) other.0 ∙ v)

  pub seen_as : (ds : List Entry) (rel : ℕ) (d : Entry) → In d ds → d.relation ≡ rel → Distinct (map relation_of ds) → visible_columns ds rel ≡ d.columns
  seen_as [] rel d p e h = absurd p
  seen_as (x ∷ ds) rel d (inl q) e h = ap (λ b. if b then x.columns else visible_columns ds rel) (eq-eqb x.relation rel (ap relation_of q ∙ e)) ∙ ap (λ (y : Entry). y.columns) q
  seen_as (x ∷ ds) rel d (inr p) e h = later (eqb_tells x.relation rel) (seen_as ds rel d p e h.1)
    where
      later : (((x.relation == rel) ≡ true) × (x.relation ≡ rel)) ⊎ (((x.relation == rel) ≡ false) × (x.relation ≡ rel → ⊥)) → visible_columns ds rel ≡ d.columns → visible_columns (x ∷ ds) rel ≡ d.columns
      later (inl same) rest = absurd (h.0 (subst (λ n. In n (map relation_of ds)) (e ∙ sym same.1) (in_map relation_of d ds p)))
      later (inr other) rest = ap (λ b. if b then x.columns else visible_columns ds rel) other.0 ∙ rest

  pub columns_alike : (s' s : Scope) → Stands s' s → (rel : ℕ) → AreAlike (visible_columns s' rel) (visible_columns s rel)
  columns_alike s' s h rel = by (seen s' rel) (seen s rel)
    where
      by : Seen s' rel → Seen s rel → AreAlike (visible_columns s' rel) (visible_columns s rel)
      by (entry e p r v) other =
          let (d, q, eq, alike) = h.below.entries e p in
          let w = seen_as s rel d q (sym eq ∙ r) h.distinct in
          subst (λ cs. AreAlike cs (visible_columns s rel)) (sym v) (subst (λ ds. AreAlike e.columns ds) (sym w) alike)
      by (nowhere none out) (nowhere none' out') = subst (λ cs. AreAlike cs (visible_columns s rel)) (sym none) (subst (λ ds. AreAlike [] ds) (sym none') tt)
      by (nowhere none out) (entry d q r v) = absurd (out (subst (λ n. In n (map relation_of s')) r (h.below.found d.relation (in_map relation_of d s q))))

  pub distinct_kept : (s' s : Scope) → Stands s' s → has_distinct_numbers s' ≡ true
  distinct_kept s' s h = from_distinct (map relation_of s') (h.below.apart h.distinct)

  -- ---- the relations that are visible, as a set

  each_only : (set : ℕ) (ns ms : List ℕ) → ((n : ℕ) → In n ns → In n ms) → EachWithin set (map only ms) → EachWithin set (map only ns)
  each_only set [] ms sub h = tt
  each_only set (n ∷ ns) ms sub h = (at n ms (sub n (inl refl)) h, each_only set ns ms (λ m p. sub m (inr p)) h)
    where
      at : (m : ℕ) (ms : List ℕ) → In m ms → EachWithin set (map only ms) → Within (only m) set
      at m [] p h = absurd p
      at m (k ∷ ms) (inl e) h = subst (λ x. Within (only x) set) e h.0
      at m (k ∷ ms) (inr p) h = at m ms p h.1

  within : (ns ms : List ℕ) → ((n : ℕ) → In n ns → In n ms) → Within (union (map only ns)) (union (map only ms))
  within ns ms sub = within_fold (union (map only ms)) 0 (map only ns) (λ i e. absurd (has_none i e)) (each_only (union (map only ms)) ns ms sub (fold_within (union (map only ms)) 0 (map only ms) (λ i e. e)).1)

  pub relations_same : (es ds : List Entry) → Below es ds → union (map only (map relation_of es)) ≡ union (map only (map relation_of ds))
  relations_same es ds h = same_within (union (map only (map relation_of es))) (union (map only (map relation_of ds))) (within (map relation_of es) (map relation_of ds) (also es ds h)) (within (map relation_of ds) (map relation_of es) h.found)

  pub relations_kept : (s' s : Scope) → Stands s' s → (rels : ℕ) → sees_relations s rels ≡ true → sees_relations s' rels ≡ true
  relations_kept s' s h rels k = subst (λ set. (bit_and rels set == rels) ≡ true) (sym (relations_same s' s h.below)) k
