-- The special joins of a shape stand as its tree says, and their numbers go up by one.
use Rattle.std.proofs.Common.{◌≡◌, ◌∙◌, ap, ap₂, sym, subst, refl, ℕ, suc, ◌+◌, ◌≤◌, List, [], ◌∷◌, ◌++◌, map, length, length-append, arith}
use Rattle.std.specs.Prelude.{bit_or}
use Rattle.jp_base.proofs.SetLemmas.{same_set}
use Rattle.jp_query.specs.declared.Expr.{Expr}
use Rattle.jp_query.specs.declared.JoinKind.{JoinKind}
use Rattle.jp_problem.specs.declared.types.Place.{Place}
use Rattle.jp_problem.specs.declared.types.Written.{Written}
use Rattle.jp_problem.specs.Blocks.{behind, number_of, in_right_side, items_at, written, joins_at}
use Rattle.jp_problem.specs.Sets.{span}
use Rattle.jp_problem.specs.Shapes.{Shape, nothing, item, beside, filtered, special, items_in, count_joins}
use Rattle.jp_conditions.proofs.Numbers.{Numbered, numbered_append}
use Rattle.jp_conditions.proofs.Spans.{has_span, span_parts, spans_apart}
use Rattle.jp_conditions.proofs.Standing.{Sides, IsJoin, Standing, none, together, joined}

abbrev pub sides_of : Written → Sides
sides_of w = record { no = w.no; left = w.syn_left; right = w.syn_right; region = w.region }

abbrev pub written_no : Written → ℕ
written_no w = w.no

-- both sides of each special join have items
abbrev pub IsRooted : Shape → Type 0
IsRooted nothing = Unit {0}
IsRooted (item tree) = Unit {0}
IsRooted (beside left right) = IsRooted left × IsRooted right
IsRooted (filtered shape conds) = IsRooted shape
IsRooted (special kind left right on) = (1 ≤ length (items_in left)) × (1 ≤ length (items_in right)) × IsRooted left × IsRooted right

pub span_two : (first m n : ℕ) → bit_or (span first m) (span (first + m) n) ≡ span first (m + n)
span_two first m n = same_set (bit_or (span first m) (span (first + m) n)) (span first (m + n)) (λ i. ((span_parts first m n i).1, (span_parts first m n i).0))

pub items_beside : (first : ℕ) (left right : Shape) → bit_or (span first (length (items_in left))) (span (first + length (items_in left)) (length (items_in right))) ≡ span first (length (items_in left ++ items_in right))
items_beside first left right = span_two first (length (items_in left)) (length (items_in right)) ∙ ap (span first) (sym (length-append (items_in left) (items_in right)))

map_two : {X Y : Type 0} (f : X → Y) (xs ys : List X) → map f xs ++ map f ys ≡ map f (xs ++ ys)
map_two f [] ys = refl
map_two f (x ∷ xs) ys = ap (λ rest. f x ∷ rest) (map_two f xs ys)

moved : (a b low high top region : ℕ) (xs ys : List Sides) → a ≡ b → high ≡ top → xs ≡ ys → Standing a low high region xs → Standing b low top region ys
moved a b low high top region xs ys e f g p = subst (λ s. Standing s low top region ys) e (subst (λ n. Standing a low n region ys) f (subst (Standing a low high region) g p))

module _ (rels : List ℕ) where
  abbrev pub sides_at : Shape → Place → List Sides
  sides_at shape at = map sides_of (joins_at rels shape at)

  is_join : (kind : JoinKind) (left right : Shape) (on : List Expr) (at : Place) → 1 ≤ length (items_in left) → 1 ≤ length (items_in right) → IsJoin (sides_of (written rels kind left right on at))
  is_join kind left right on at some more =
      let m = length (items_in left) in
      let n = length (items_in right) in
      record {
        left_some = (at.items, (has_span at.items m at.items).1 (omega arith, omega (arith, some)));
        right_first = (at.items + m, (has_span (at.items + m) n (at.items + m)).1 (omega arith, omega (arith, more)), λ k h. ((has_span (at.items + m) n k).0 h).0);
        in_order = λ i j h k. let p = (has_span at.items m i).0 h in let q = (has_span (at.items + m) n j).0 k in omega (arith, p.1, q.0);
      }

  pub stands : (shape : Shape) (at : Place) → IsRooted shape → Standing (items_at at shape) at.joins (at.joins + count_joins shape) at.region (sides_at shape at)
  stands nothing at r = none (items_at at nothing) at.joins (at.joins + 0) at.region
  stands (item tree) at r = none (items_at at (item tree)) at.joins (at.joins + 0) at.region
  stands (filtered shape conds) at r = stands shape at r
  stands (beside left right) at r =
      moved (bit_or (items_at at left) (items_at (behind left at) right)) (items_at at (beside left right)) at.joins (at.joins + count_joins left + count_joins right) (at.joins + (count_joins left + count_joins right)) at.region
      (sides_at left at ++ sides_at right (behind left at)) (sides_at (beside left right) at) (items_beside at.items left right) (omega arith) (map_two sides_of (joins_at rels left at) (joins_at rels right (behind left at)))
      (together (items_at at left) (items_at (behind left at) right) at.joins (at.joins + count_joins left) (at.joins + count_joins left + count_joins right) at.region (sides_at left at) (sides_at right (behind left at))
      (stands left at r.0) (stands right (behind left at) r.1) (spans_apart at.items (length (items_in left)) (length (items_in right))) (omega arith) (omega arith))
  stands (special kind left right on) at r =
      let here = in_right_side left right at in
      moved (bit_or (items_at at left) (items_at (behind left at) right)) (items_at at (special kind left right on)) at.joins (number_of left right at) (at.joins + suc (count_joins left + count_joins right)) at.region
      (sides_at left at ++ sides_at right here ++ sides_of (written rels kind left right on at) ∷ []) (sides_at (special kind left right on) at) (items_beside at.items left right) (omega arith)
      (ap (λ list. list ++ sides_of (written rels kind left right on at) ∷ []) (map_two sides_of (joins_at rels left at) (joins_at rels right here)) ∙ map_two sides_of (joins_at rels left at ++ joins_at rels right here) (written rels kind left right on at ∷ []))
      (joined at.joins (at.joins + count_joins left) (at.joins + count_joins left + count_joins right) (sides_at left at) (sides_at right here) (sides_of (written rels kind left right on at))
      (stands left at r.2) (stands right here r.3) (is_join kind left right on at r.0 r.1) (spans_apart at.items (length (items_in left)) (length (items_in right))) (omega arith) (omega arith) (omega arith))

  pub so_many : (shape : Shape) (at : Place) → length (joins_at rels shape at) ≡ count_joins shape
  so_many nothing at = refl
  so_many (item tree) at = refl
  so_many (filtered shape conds) at = so_many shape at
  so_many (beside left right) at = length-append (joins_at rels left at) (joins_at rels right (behind left at)) ∙ ap₂ ◌+◌ (so_many left at) (so_many right (behind left at))
  so_many (special kind left right on) at =
      let here = in_right_side left right at in
      let w = written rels kind left right on at in
      let both : length (joins_at rels left at ++ joins_at rels right here) ≡ count_joins left + count_joins right = length-append (joins_at rels left at) (joins_at rels right here) ∙ ap₂ ◌+◌ (so_many left at) (so_many right here) in
      omega (arith, length-append (joins_at rels left at ++ joins_at rels right here) (w ∷ []), both)

  pub numbered : (shape : Shape) (at : Place) → Numbered written_no at.joins (joins_at rels shape at)
  numbered nothing at = tt
  numbered (item tree) at = tt
  numbered (filtered shape conds) at = numbered shape at
  numbered (beside left right) at =
      numbered_append written_no at.joins (joins_at rels left at) (joins_at rels right (behind left at)) (numbered left at)
      (subst (λ n. Numbered written_no (at.joins + n) (joins_at rels right (behind left at))) (sym (so_many left at)) (numbered right (behind left at)))
  numbered (special kind left right on) at =
      let here = in_right_side left right at in
      let w = written rels kind left right on at in
      let both : length (joins_at rels left at ++ joins_at rels right here) ≡ count_joins left + count_joins right = length-append (joins_at rels left at) (joins_at rels right here) ∙ ap₂ ◌+◌ (so_many left at) (so_many right here) in
      numbered_append written_no at.joins (joins_at rels left at ++ joins_at rels right here) (w ∷ [])
      (numbered_append written_no at.joins (joins_at rels left at) (joins_at rels right here) (numbered left at) (subst (λ n. Numbered written_no (at.joins + n) (joins_at rels right here)) (sym (so_many left at)) (numbered right here)))
      (ap (λ n. suc (at.joins + n)) (sym both), tt)
