-- What parts of a statement give, over what is visible at their place and over the span of their numbers; and parts made of
-- parts.
use Rattle.std.proofs.Common.{◌≡◌, sym, subst, refl, ℕ, ◌≤◌, true, List, [], ◌∷◌, Option, Some, None, Ok, arith}
use Rattle.jp_query.specs.Typing.{is_listed}
use Rattle.jp_resolution.specs.declared.words.Counts.{Counts}
use Rattle.jp_resolution.specs.Answers.{Answer, ◌>>=◌}
use Rattle.jp_resolution.specs.Counting.{none, one_sublink, both, next_sublink, Levels, Part, simply, given, beside, counts_of_all, all_over, listed, is_there, optional, sublinked}
use Rattle.jp_induction.proofs.EachPart.{Each}
use Rattle.jp_resolved.proofs.Answered.{same_Ok, then_parts}
use Rattle.jp_resolved.proofs.Spans.{Along, both_assoc, both_none}
use Rattle.jp_resolved.proofs.Seen.{scope_of, IsOpen, open_narrower}

-- a place over whose span nothing visible is numbered
pub record IsPlace (levels : Levels) (a b : Counts) : Type 0 where
  pub opened : IsOpen a.entries b.entries (scope_of levels)
  pub few : b.entries ≤ 64

pub place_narrower : (levels : Levels) (a b c d : Counts) → a.entries ≤ c.entries → d.entries ≤ b.entries → IsPlace levels a b → IsPlace levels c d
place_narrower levels a b c d low high place = record { opened = open_narrower a.entries b.entries c.entries d.entries (scope_of levels) low high place.opened; few = omega (arith, high, place.few) }

left_place : (levels : Levels) (before c d : Counts) → IsPlace levels before (both before (both c d)) → IsPlace levels before (both before c)
left_place levels before c d place = place_narrower levels before (both before (both c d)) before (both before c) (omega arith) (omega arith) place

right_place : (levels : Levels) (before c d : Counts) → IsPlace levels before (both before (both c d)) → IsPlace levels (both before c) (both (both before c) d)
right_place levels before c d place = place_narrower levels before (both before (both c d)) (both before c) (both (both before c) d) (omega arith) (omega arith) place

-- what is claimed of what a part gives
abbrev pub Claim : Type 0 → Type 1
Claim A = Levels → Counts → Counts → A → Type 0

module _ {A : Type 0} (P : Claim A) where
  abbrev pub Good : Part A → Type 0
  Good part = (levels : Levels) (before : Counts) (x : A) → IsPlace levels before (both before part.counts) → part.over levels before ≡ Ok x → P levels before (both before part.counts) x

  pub simply_good : (answer : Levels → Answer A) → ((levels : Levels) (a b : Counts) (x : A) → a ≡ b → IsPlace levels a b → answer levels ≡ Ok x → P levels a b x) → Good (simply answer)
  simply_good answer h levels before x place e = h levels before (both before none) x (sym (both_none before)) place e

module _ {A B : Type 0} (P : Claim A) (Q : Claim B) where
  pub given_good : (part : Part A) (f : A → Answer B) → Good P part → ((levels : Levels) (a b : Counts) (x : A) (y : B) → P levels a b x → f x ≡ Ok y → Q levels a b y) → Good Q (given part f)
  given_good part f good step levels before y place e =
      let found = then_parts (part.over levels before) f y e in
      step levels before (both before part.counts) found.0 y (good levels before found.0 place found.1) found.2

  -- one behind the other
  abbrev pub Two : Claim (A × B)
  Two levels a b pair = (m : Counts) × P levels a m pair.0 × Q levels m b pair.1

  pub beside_good : (left : Part A) (right : Part B) → Good P left → Good Q right → Good Two (beside left right)
  beside_good left right l r levels before pair place e =
      let x = then_parts (left.over levels before) (λ x. right.over levels (both before left.counts) >>= (λ y. Ok (x, y))) pair e in
      let y = then_parts (right.over levels (both before left.counts)) (λ y. Ok (x.0, y)) pair x.2 in
      let same = same_Ok (x.0, y.0) pair y.2 in
      subst (Two levels before (both before (both left.counts right.counts))) same (
        both before left.counts,
        l levels before x.0 (left_place levels before left.counts right.counts place) x.1,
        subst (λ b. Q levels (both before left.counts) b y.0) (both_assoc before left.counts right.counts) (r levels (both before left.counts) y.0 (right_place levels before left.counts right.counts place) y.1),
      )

module _ {A : Type 0} (P : Claim A) where
  -- all, one behind the other
  abbrev pub Several : Claim (List A)
  Several levels a b xs = Along (P levels) a b xs

  pub all_good : (parts : List (Part A)) → Each (Good P) parts → Good Several (listed parts)
  all_good [] each levels before xs place e = subst (Several levels before (both before none)) (same_Ok [] xs e) (sym (both_none before))
  all_good (part ∷ parts) each levels before xs place e =
      let x = then_parts (part.over levels before) (λ x. all_over parts levels (both before part.counts) >>= (λ xs. Ok (x ∷ xs))) xs e in
      let more = then_parts (all_over parts levels (both before part.counts)) (λ xs. Ok (x.0 ∷ xs)) xs x.2 in
      let rest = all_good parts each.1 levels (both before part.counts) more.0 (right_place levels before part.counts (counts_of_all parts) place) more.1 in
      subst (Several levels before (both before (both part.counts (counts_of_all parts)))) (same_Ok (x.0 ∷ more.0) xs more.2) (
        both before part.counts,
        each.0 levels before x.0 (left_place levels before part.counts (counts_of_all parts) place) x.1,
        subst (λ b. Several levels (both before part.counts) b more.0) (both_assoc before part.counts (counts_of_all parts)) rest,
      )

  pub some_of : (parts : List (Part A)) (levels : Levels) (before : Counts) (xs : List A) → is_listed parts ≡ true → all_over parts levels before ≡ Ok xs → is_listed xs ≡ true
  some_of [] levels before xs some e = subst (λ ys. is_listed ys ≡ true) (same_Ok [] xs e) some
  some_of (part ∷ parts) levels before xs some e =
      let x = then_parts (part.over levels before) (λ x. all_over parts levels (both before part.counts) >>= (λ xs. Ok (x ∷ xs))) xs e in
      let more = then_parts (all_over parts levels (both before part.counts)) (λ xs. Ok (x.0 ∷ xs)) xs x.2 in
      subst (λ ys. is_listed ys ≡ true) (same_Ok (x.0 ∷ more.0) xs more.2) refl

  -- at least one
  abbrev pub Some_of : Claim (List A)
  Some_of levels a b xs = (is_listed xs ≡ true) × Along (P levels) a b xs

  pub some_good : (parts : List (Part A)) → is_listed parts ≡ true → Each (Good P) parts → Good Some_of (listed parts)
  some_good parts some each levels before xs place e = (some_of parts levels before xs some e, all_good parts each levels before xs place e)

  abbrev pub Maybe : Claim (Option A)
  Maybe levels a b None = a ≡ b
  Maybe levels a b (Some x) = P levels a b x

  pub none_good : Good Maybe (optional None)
  none_good levels before x place e = subst (Maybe levels before (both before none)) (same_Ok None x e) (sym (both_none before))

  pub there_good : (part : Part A) → Good P part → Good Maybe (optional (Some part))
  there_good part good levels before y place e =
      let found = then_parts (part.over levels before) is_there y e in
      subst (Maybe levels before (both before part.counts)) (same_Ok (Some found.0) y found.2) (good levels before found.0 place found.1)

  -- with the number of a sublink
  abbrev pub Sublinked : Claim (ℕ × A)
  Sublinked levels a b pair = (pair.0 ≡ next_sublink a) × P levels (both a one_sublink) b pair.1

  pub sublinked_good : (part : Part A) → Good P part → Good Sublinked (sublinked part)
  sublinked_good part good levels before y place e =
      let found = then_parts (part.over levels (both before one_sublink)) (λ x. Ok (next_sublink before, x)) y e in
      subst (Sublinked levels before (both before (both one_sublink part.counts))) (same_Ok (next_sublink before, found.0) y found.2) (
        refl,
        subst (λ b. P levels (both before one_sublink) b found.0) (both_assoc before one_sublink part.counts)
            (good levels (both before one_sublink) found.0 (right_place levels before one_sublink part.counts place) found.1),
      )
