-- Items by their relations: which items have a relation of a set, and which relations those of a set of items are.
use Rattle.std.proofs.Common.{◌≡◌, ◌∙◌, sym, subst, refl, ℕ, zero, suc, ◌+◌, inl, inr, Bool, true, false, List, [], ◌∷◌, map, Some, arith}
use Rattle.std.specs.Prelude.{slice_get}
use Rattle.std.specs.Int.{bit_at}
use Rattle.std.proofs.lemmas.Bool.{eq-eqb}
use Rattle.jp_base.specs.Sets.{Has, Within, Meets}
use Rattle.jp_base.proofs.SetLemmas.{has_or}
use Rattle.jp_base.proofs.MaskAlgebra.{has_none}
use Rattle.jp_facts.proofs.Members.{In, in_map, from_map}
use Rattle.jp_query.specs.declared.Expr.{Expr}
use Rattle.jp_query.specs.Meaning.{has}
use Rattle.jp_query.specs.Refs.{only}
use Rattle.jp_problem.specs.Blocks.{items_from, items_with, rels_from, rels_at, used, used_by}
use Rattle.jp_problem.specs.Sets.{meets, set_if}
use Rattle.jp_problem.proofs.SetTests.{meets_says}
use Rattle.jp_problem.proofs.UnionLaws.{has_union}
use Rattle.jp_conditions.proofs.Spans.{has_itself, has_only}

-- the item at this place has a relation of the set
abbrev pub Shares : List ℕ → ℕ → ℕ → Type 0
Shares rels set i = (r : ℕ) × (slice_get rels i ≡ Some r) × Meets r set

if_has : (test : Bool) (set i : ℕ) → Has (set_if test set) i → (test ≡ true) × Has set i
if_has true set i h = (refl, h)
if_has false set i h = absurd (has_none i h)

has_if : (test : Bool) (set i : ℕ) → test ≡ true → Has set i → Has (set_if test set) i
has_if true set i e h = h
has_if false set i e h = cc

items_found : (first : ℕ) (rels : List ℕ) (set i : ℕ) → Has (items_from first rels set) i → (k : ℕ) × (i ≡ first + k) × Shares rels set k
items_found first [] set i h = absurd (has_none i h)
items_found first (r ∷ rels) set i h = elim ((has_or (set_if (meets r set) (only first)) (items_from (suc first) rels set) i).0 h) [
  | inl p ↦ (let q = if_has (meets r set) (only first) i p in (0, has_only first i q.1 ∙ omega arith, (r, refl, (meets_says r set).0 q.0)))
  | inr p ↦ (let q = items_found (suc first) rels set i p in (suc q.0, q.1 ∙ omega arith, q.2))
]

found_items : (first : ℕ) (rels : List ℕ) (set k : ℕ) → Shares rels set k → Has (items_from first rels set) (first + k)
found_items first [] set k s = cc
found_items first (r ∷ rels) set zero s =
    (has_or (set_if (meets r set) (only first)) (items_from (suc first) rels set) (first + 0)).1 (inl (has_if (meets r set) (only first) (first + 0) ((meets_says r set).1 (subst (λ n. Meets n set) (sym (same r s.0 s.1)) s.2)) (subst (Has (only first)) (omega arith) (has_itself first))))
  where
    same : (a b : ℕ) → Some a ≡ Some b → a ≡ b
    same a b e = cc
found_items first (r ∷ rels) set (suc k) s =
    (has_or (set_if (meets r set) (only first)) (items_from (suc first) rels set) (first + suc k)).1 (inr (subst (Has (items_from (suc first) rels set)) (omega arith) (found_items (suc first) rels set k s)))

pub has_items : (rels : List ℕ) (set i : ℕ) → Has (items_with rels set) i → Shares rels set i
has_items rels set i h = let f = items_found 0 rels set i h in subst (Shares rels set) (sym (f.1 ∙ omega arith)) f.2

pub items_have : (rels : List ℕ) (set i : ℕ) → Shares rels set i → Has (items_with rels set) i
items_have rels set i s = subst (Has (items_with rels set)) (omega arith) (found_items 0 rels set i s)

-- the relations of an item of the set are among those of the set
rels_found : (first : ℕ) (rels : List ℕ) (set k r rel : ℕ) → slice_get rels k ≡ Some r → Has set (first + k) → Has r rel → Has (rels_from first rels set) rel
rels_found first [] set k r rel e h m = cc
rels_found first (q ∷ rels) set zero r rel e h m =
    (has_or (set_if (has set first) q) (rels_from (suc first) rels set) rel).1 (inl (has_if (has set first) q rel (eq-eqb (bit_at set first) 1 (subst (Has set) (omega arith) h)) (subst (λ n. Has n rel) (sym (same q r e)) m)))
  where
    same : (a b : ℕ) → Some a ≡ Some b → a ≡ b
    same a b e = cc
rels_found first (q ∷ rels) set (suc k) r rel e h m =
    (has_or (set_if (has set first) q) (rels_from (suc first) rels set) rel).1 (inr (rels_found (suc first) rels set k r rel e (subst (Has set) (omega arith) h) m))

pub rels_of_set : (rels : List ℕ) (set k r : ℕ) → slice_get rels k ≡ Some r → Has set k → Within r (rels_at rels set)
rels_of_set rels set k r e h rel m = rels_found 0 rels set k r rel e (subst (Has set) (omega arith) h) m

-- ---- what lists use

pub used_member : (rels : List ℕ) (conds : List Expr) (e : Expr) → In e conds → Within (used rels e) (used_by rels conds)
used_member rels conds e h i m = (has_union (map (used rels) conds) i).1 (used rels e, in_map (used rels) e conds h, m)

pub used_from : (rels : List ℕ) (conds : List Expr) (i : ℕ) → Has (used_by rels conds) i → (e : Expr) × In e conds × Has (used rels e) i
used_from rels conds i h =
    let found = (has_union (map (used rels) conds) i).0 h in
    let origin = from_map (used rels) found.0 conds found.1 in
    (origin.0, origin.1, subst (λ n. Has n i) (sym origin.2) found.2)
