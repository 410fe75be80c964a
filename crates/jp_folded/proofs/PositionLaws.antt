-- Occurrences of sublinks whose positions are renamed one to one.
use Rattle.std.proofs.Common.{◌≡◌, ◌∙◌, ap, sym, subst, refl, ℕ, inl, inr, Bool, true, false, not, ◌||◌, ◌==◌, List, [], ◌∷◌, Option, Some, None}
use Rattle.std.specs.List.{list_any}
use Rattle.std.proofs.lemmas.Bool.{eq-eqb}
use Rattle.std.proofs.lemmas.Bool.Decides.{eqb_tells}
use Rattle.jp_query.specs.Freshness.{Position, same_position, Larger, Occurrence, in_one_list, are_copies, inside_copies, may_stand}
use Rattle.jp_facts.proofs.Members.{In, any_in, from_any}
use Rattle.jp_laws.proofs.ValueLaws.{and_left, and_right}
use Rattle.jp_folded.proofs.Lists.{both}
use Rattle.jp_folded.proofs.IntoLaws.{Into}

-- ---- equal positions

equal_numbers : (n m : ℕ) → (n == m) ≡ true → n ≡ m
equal_numbers n m h = elim (eqb_tells n m) [ inl same ↦ same.1 | inr other ↦ let never : true ≡ false = sym h ∙ other.0 in cc ]

same_to : (p q : Position) → same_position p q ≡ true → p ≡ q
same_to [] [] h = refl
same_to [] (j ∷ q) h = cc
same_to (i ∷ p) [] h = cc
same_to (i ∷ p) (j ∷ q) h = λ k. equal_numbers i j (and_left (i == j) (same_position p q) h) k ∷ same_to p q (and_right (i == j) (same_position p q) h) k

same_itself : (p : Position) → same_position p p ≡ true
same_itself [] = refl
same_itself (i ∷ p) = both (i == i) (same_position p p) (eq-eqb i i refl) (same_itself p)

same_from : (p q : Position) → p ≡ q → same_position p q ≡ true
same_from p q h = subst (λ r. same_position p r ≡ true) h (same_itself p)

-- ---- renamings, as lists of pairs of a new and an old position

abbrev pub Renamed : Type 0
Renamed = Position × Position

abbrev pub IsOneToOne : List Renamed → Type 0
IsOneToOne pairs = (a b : Renamed) → In a pairs → In b pairs → (a.0 ≡ b.0 → a.1 ≡ b.1) × (a.1 ≡ b.1 → a.0 ≡ b.0)

module _ (pairs : List Renamed) where
  abbrev pub AroundMoved : List Larger → List Larger → Type 0
  AroundMoved [] [] = Unit {0}
  AroundMoved (l' ∷ ls') (l ∷ ls) = (l'.number ≡ l.number) × In (l'.position, l.position) pairs × AroundMoved ls' ls
  AroundMoved _ _ = ⊥

  abbrev pub PlaceMoved : Option Position → Option Position → Type 0
  PlaceMoved None None = Unit {0}
  PlaceMoved (Some p') (Some p) = In (p', p) pairs
  PlaceMoved _ _ = ⊥

  pub record Moved (new old : Occurrence) : Type 0 where
    pub number : new.number ≡ old.number
    pub around : AroundMoved new.around old.around
    pub place : PlaceMoved new.listed_in old.listed_in

-- the new occurrences are some of the old ones, at renamed positions
pub record Embeds (new old : List Occurrence) : Type 0 where
  pub pairs : List Renamed
  pub one : IsOneToOne pairs
  pub into : Into (Moved pairs) new old

-- ---- may stand

same_number : (a b c d : ℕ) → a ≡ c → b ≡ d → (a == b) ≡ (c == d)
same_number a b c d h k = λ i. h i == k i

module _ (pairs : List Renamed) (one : IsOneToOne pairs) where
  in_one_kept : (p' q' p q : Option Position) → PlaceMoved pairs p' p → PlaceMoved pairs q' q → in_one_list p q ≡ true → in_one_list p' q' ≡ true
  in_one_kept None q' None q h k e = cc
  in_one_kept None q' (Some p) q h k e = absurd h
  in_one_kept (Some p') q' None q h k e = absurd h
  in_one_kept (Some p') None (Some p) None h k e = cc
  in_one_kept (Some p') None (Some p) (Some q) h k e = absurd k
  in_one_kept (Some p') (Some q') (Some p) None h k e = absurd k
  in_one_kept (Some p') (Some q') (Some p) (Some q) h k e = same_from p' q' ((one (p', p) (q', q) h k).1 (same_to p q e))

  new_of : (ls' ls : List Larger) → AroundMoved pairs ls' ls → (l : Larger) → In l ls → (l' : Larger) × In l' ls' × (l'.number ≡ l.number) × In (l'.position, l.position) pairs
  new_of [] [] h l p = absurd p
  new_of [] (x ∷ ls) h l p = absurd h
  new_of (x' ∷ ls') [] h l p = absurd h
  new_of (x' ∷ ls') (x ∷ ls) h l (inl e) = (x', inl refl, h.0 ∙ ap (λ (y : Larger). y.number) e, subst (λ (y : Larger). In (x'.position, y.position) pairs) e h.1)
  new_of (x' ∷ ls') (x ∷ ls) h l (inr p) = let r = new_of ls' ls h.2 l p in (r.0, inr r.1, r.2, r.3)

  copies_kept : (l' m' l m : Larger) → l'.number ≡ l.number → m'.number ≡ m.number → In (l'.position, l.position) pairs → In (m'.position, m.position) pairs → are_copies l m ≡ true → are_copies l' m' ≡ true
  copies_kept l' m' l m e f p q h = both (l'.number == m'.number) (not (same_position l'.position m'.position))
      (same_number l'.number m'.number l.number m.number e f ∙ and_left (l.number == m.number) (not (same_position l.position m.position)) h)
      (differ (same_position l'.position m'.position) refl)
    where
      differ : (b : Bool) → same_position l'.position m'.position ≡ b → not (same_position l'.position m'.position) ≡ true
      differ false g = ap not g
      differ true g =
          let old : l.position ≡ m.position = (one (l'.position, l.position) (m'.position, m.position) p q).0 (same_to l'.position m'.position g) in
          let bad : not (same_position l.position m.position) ≡ false = ap not (same_from l.position m.position old) in
          let never : true ≡ false = sym (and_right (l.number == m.number) (not (same_position l.position m.position)) h) ∙ bad in cc

  inside_kept : (ls' ms' ls ms : List Larger) → AroundMoved pairs ls' ls → AroundMoved pairs ms' ms → inside_copies ls ms ≡ true → inside_copies ls' ms' ≡ true
  inside_kept ls' ms' ls ms h k e =
      let (l, p, f) = from_any (λ l. list_any (are_copies l) ms) ls e in
      let (m, q, c) = from_any (are_copies l) ms f in
      let x = new_of ls' ls h l p in
      let y = new_of ms' ms k m q in
      any_in (λ l. list_any (are_copies l) ms') x.0 ls' x.1 (any_in (are_copies x.0) y.0 ms' y.1 (copies_kept x.0 y.0 l m x.2 y.2 x.3 y.3 c))

  pub stand_kept : (a' b' a b : Occurrence) → Moved pairs a' a → Moved pairs b' b → may_stand a b ≡ true → may_stand a' b' ≡ true
  stand_kept a' b' a b h k e = by (a.number == b.number) refl (in_one_list a.listed_in b.listed_in) refl
    where
      numbers : (a'.number == b'.number) ≡ (a.number == b.number)
      numbers = same_number a'.number b'.number a.number b.number h.number k.number

      or_true : (c : Bool) → (c || true) ≡ true
      or_true true = refl
      or_true false = refl

      by : (c : Bool) → (a.number == b.number) ≡ c → (d : Bool) → in_one_list a.listed_in b.listed_in ≡ d → may_stand a' b' ≡ true
      by false n d l = ap (λ c. not c || (in_one_list a'.listed_in b'.listed_in || inside_copies a'.around b'.around)) (numbers ∙ n)
      by true n true l = ap (λ c. not (a'.number == b'.number) || (c || inside_copies a'.around b'.around)) (in_one_kept a'.listed_in b'.listed_in a.listed_in b.listed_in h.place k.place l) ∙ or_true (not (a'.number == b'.number))
      by true n false l =
          let last : inside_copies a.around b.around ≡ true = sym (λ i. not (n i) || (l i || inside_copies a.around b.around)) ∙ e in
          let now = inside_kept a'.around b'.around a.around b.around h.around k.around last in
          ap (λ c. not (a'.number == b'.number) || (in_one_list a'.listed_in b'.listed_in || c)) now ∙ ap (λ c. not (a'.number == b'.number) || c) (or_true (in_one_list a'.listed_in b'.listed_in)) ∙ or_true (not (a'.number == b'.number))

-- ---- the test is symmetric

same_turned : (p q : Position) → same_position p q ≡ true → same_position q p ≡ true
same_turned p q h = same_from q p (sym (same_to p q h))

differ_turned : (p q : Position) → not (same_position p q) ≡ true → not (same_position q p) ≡ true
differ_turned p q h = by (same_position q p) refl
  where
    by : (b : Bool) → same_position q p ≡ b → not (same_position q p) ≡ true
    by false g = ap not g
    by true g = let bad : not (same_position p q) ≡ false = ap not (same_turned q p g) in let never : true ≡ false = sym h ∙ bad in cc

in_one_turned : (p q : Option Position) → in_one_list p q ≡ true → in_one_list q p ≡ true
in_one_turned (Some p) (Some q) h = same_turned p q h
in_one_turned (Some p) None h = cc
in_one_turned None q h = cc

copies_turned : (l m : Larger) → are_copies l m ≡ true → are_copies m l ≡ true
copies_turned l m h = both (m.number == l.number) (not (same_position m.position l.position))
    (eq-eqb m.number l.number (sym (equal_numbers l.number m.number (and_left (l.number == m.number) (not (same_position l.position m.position)) h))))
    (differ_turned l.position m.position (and_right (l.number == m.number) (not (same_position l.position m.position)) h))

inside_turned : (ls ms : List Larger) → inside_copies ls ms ≡ true → inside_copies ms ls ≡ true
inside_turned ls ms h =
    let (l, p, k) = from_any (λ l. list_any (are_copies l) ms) ls h in
    let (m, q, c) = from_any (are_copies l) ms k in
    any_in (λ m. list_any (are_copies m) ls) m ms q (any_in (are_copies m) l ls p (copies_turned l m c))

pub stand_turned : (a b : Occurrence) → may_stand a b ≡ true → may_stand b a ≡ true
stand_turned a b h = by (b.number == a.number) refl (in_one_list a.listed_in b.listed_in) refl
  where
    or_true : (c : Bool) → (c || true) ≡ true
    or_true true = refl
    or_true false = refl

    by : (c : Bool) → (b.number == a.number) ≡ c → (d : Bool) → in_one_list a.listed_in b.listed_in ≡ d → may_stand b a ≡ true
    by false n d l = ap (λ c. not c || (in_one_list b.listed_in a.listed_in || inside_copies b.around a.around)) n
    by true n true l = ap (λ c. not (b.number == a.number) || (c || inside_copies b.around a.around)) (in_one_turned a.listed_in b.listed_in l) ∙ or_true (not (b.number == a.number))
    by true n false l =
        let equal : (a.number == b.number) ≡ true = eq-eqb a.number b.number (sym (equal_numbers b.number a.number n)) in
        let last : inside_copies a.around b.around ≡ true = sym (λ i. not (equal i) || (l i || inside_copies a.around b.around)) ∙ h in
        ap (λ c. not (b.number == a.number) || (in_one_list b.listed_in a.listed_in || c)) (inside_turned a.around b.around last) ∙ ap (λ c. not (b.number == a.number) || c) (or_true (in_one_list b.listed_in a.listed_in)) ∙ or_true (not (b.number == a.number))
