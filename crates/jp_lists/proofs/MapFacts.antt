-- The maps that a tree lists have one place for each item, and rows of the tree's items alone.
use Rattle.std.proofs.Common.{◌≡◌, ◌∙◌, ap, sym, refl, ℕ, zero, suc, inl, inr, Bool, true, false, not, List, [], ◌∷◌, map, filter, length, Option, Some, None}
use Rattle.std.specs.Prelude.{bit_or, if◌then◌else◌}
use Rattle.std.specs.Int.{bit_at}
use Rattle.std.specs.List.{flat_map}
use Rattle.std.proofs.lemmas.Nat.Bits.{bit_at-pow_same}
use Rattle.jp_base.proofs.SetLemmas.{has_or}
use Rattle.jp_query.specs.declared.Expr.{Expr}
use Rattle.jp_query.specs.declared.JoinKind.{JoinKind}
use Rattle.jp_query.specs.declared.JoinKind.TheVariants as join
use Rattle.jp_query.specs.Refs.{only}
use Rattle.jp_problem.specs.declared.types.Method.{Method}
use Rattle.jp_problem.specs.declared.types.Method.TheVariants as method
use Rattle.jp_problem.specs.declared.types.Problem.{Problem}
use Rattle.jp_problem.specs.StepClauses.{scan_clauses}
use Rattle.jp_problem.specs.Trees.{Tree, set_of}
use Rattle.jp_frame.specs.Maps.{Map, at, both, either_row}
use Rattle.jp_frame.specs.Methods.{none_row, one_row, rows_of_item, matches, is_matched, left_rows, once_where, both_with, matches_to, is_unmatched, right_first, inserted, sorted_by}
use Rattle.jp_frame.proofs.MapLaws.{at_both, length_both}
use Rattle.jp_framed.specs.Environments.{source_at, LiesOn}
use Rattle.jp_induction.proofs.EachPart.{Each, each_append, each_weaker}
use Rattle.jp_joins.specs.Meant.{Meant, list_holds, is_match, kept, left_gives, plain_list, right_list}
use Rattle.jp_joins.specs.Sorting.{stands_before, merged_by}
use Rattle.jp_laws.proofs.TuplesFit.{each_filter, each_mapped_to}
use Rattle.jp_lists.specs.Steps.{Run, run_holds, meant_of, method_list, tree_list}
use Rattle.jp_lists.proofs.Arounds.{each_flat_map}

-- ---- the rows of an item

length_none : (n : ℕ) → length (none_row n) ≡ n
length_none zero = refl
length_none (suc n) = ap suc (length_none n)

length_one : (n i r : ℕ) → length (one_row n i r) ≡ n
length_one zero i r = refl
length_one (suc n) zero r = ap suc (length_none n)
length_one (suc n) (suc i) r = ap suc (length_one n i r)

none_there : (n j : ℕ) → at (none_row n) j ≡ None
none_there zero j = refl
none_there (suc n) zero = refl
none_there (suc n) (suc j) = none_there n j

none_beside : (n i r j : ℕ) → (j ≡ i → ⊥) → at (one_row n i r) j ≡ None
none_beside zero i r j other = refl
none_beside (suc n) zero r zero other = absurd (other refl)
none_beside (suc n) zero r (suc j) other = none_there n j
none_beside (suc n) (suc i) r zero other = refl
none_beside (suc n) (suc i) r (suc j) other = none_beside n i r j (λ e. other (ap suc e))

-- ---- maps with n places

module _ (n : ℕ) where
  -- a map of n items has rows of the set's items alone
  pub record IsOver (set : ℕ) (m : Map) : Type 0 where
    pub wide : length m ≡ n
    pub lies : LiesOn set m

  one_over : (i r : ℕ) → IsOver (only i) (one_row n i r)
  one_over i r = record { wide = length_one n i r; lies = λ j out. none_beside n i r j (λ e. out (ap (λ k. bit_at (only i) k) e ∙ bit_at-pow_same i)) }

  rows_over : (i r k : ℕ) → Each (IsOver (only i)) (rows_of_item n i r k)
  rows_over i r zero = tt
  rows_over i r (suc k) = (one_over i r, rows_over i (suc r) k)

  module _ (l r : ℕ) where
    abbrev Whole : Map → Type 0
    Whole = IsOver (bit_or l r)

    pub pair_over : (a b : Map) → IsOver l a → IsOver r b → Whole (both a b)
    pair_over a b p q = record {
      wide = length_both a b (p.wide ∙ sym q.wide) ∙ p.wide;
      lies = λ i out. at_both a b i ∙ (λ k. either_row (p.lies i (λ h. out ((has_or l r i).1 (inl h))) k) (q.lies i (λ h. out ((has_or l r i).1 (inr h))) k));
    }

    left_over : (a : Map) → IsOver l a → Whole a
    left_over a p = record { wide = p.wide; lies = λ i out. p.lies i (λ h. out ((has_or l r i).1 (inl h))) }

    matches_over : (test : Map → Bool) (right : List Map) → Each (IsOver r) right → (a : Map) → IsOver l a → Each Whole (matches test right a)
    matches_over test right h a p = each_filter Whole test (map (both a) right) (each_mapped_to (IsOver r) Whole (both a) (λ b q. pair_over a b p q) right h)

    alone_over : (a : Map) → IsOver l a → (found : List Map) → Each Whole found → Each Whole (left_rows a found)
    alone_over a p [] h = (left_over a p, tt)
    alone_over a p (m ∷ found) h = h

    once_over : (b : Bool) (a : Map) → IsOver l a → Each Whole (once_where b a)
    once_over true a p = (left_over a p, tt)
    once_over false a p = tt

    gives_over : (kind : JoinKind) (test : Map → Bool) (right : List Map) → Each (IsOver r) right → (a : Map) → IsOver l a → Each Whole (left_gives kind test right a)
    gives_over join.Inner test right h a p = matches_over test right h a p
    gives_over join.Left test right h a p = alone_over a p (matches test right a) (matches_over test right h a p)
    gives_over join.Semi test right h a p = once_over (is_matched test right a) a p
    gives_over join.Anti test right h a p = once_over (not (is_matched test right a)) a p
    gives_over join.Right test right h a p = tt
    gives_over join.Full test right h a p = tt

    kept_over : (kind : JoinKind) (test : Map → Bool) (rows : List Map) → Each Whole rows → Each Whole (kept kind test rows)
    kept_over join.Inner test rows h = h
    kept_over join.Left test rows h = each_filter Whole test rows h
    kept_over join.Right test rows h = each_filter Whole test rows h
    kept_over join.Full test rows h = each_filter Whole test rows h
    kept_over join.Semi test rows h = each_filter Whole test rows h
    kept_over join.Anti test rows h = each_filter Whole test rows h

    module _ (meant : Meant) where
      plain_over : (left right : List Map) → Each (IsOver l) left → Each (IsOver r) right → Each Whole (plain_list meant left right)
      plain_over left right f g = kept_over meant.kind (list_holds meant meant.filters) (flat_map (left_gives meant.kind (is_match meant) right) left)
          (each_flat_map (IsOver l) Whole (left_gives meant.kind (is_match meant) right) (gives_over meant.kind (is_match meant) right g) left f)

      right_over : (left right : List Map) → Each (IsOver l) left → Each (IsOver r) right → Each Whole (right_list meant left right)
      right_over left right f g = each_filter Whole (list_holds meant meant.filters) (right_first (is_match meant) left right)
          (each_append Whole (flat_map (matches_to (is_match meant) left) right) (filter (is_unmatched (is_match meant) right) left)
          (each_flat_map (IsOver r) Whole (matches_to (is_match meant) left) (λ b q. each_filter Whole (is_match meant) (map (both_with b) left) (each_mapped_to (IsOver l) Whole (both_with b) (λ a p. pair_over a b p q) left f)) right g)
          (each_weaker (IsOver l) Whole left_over (filter (is_unmatched (is_match meant) right) left) (each_filter (IsOver l) (is_unmatched (is_match meant) right) left f)))

  -- ---- sorted lists

  put_over : (P : Map → Type 0) (is_before : Map → Map → Bool) (m : Map) (rest : List Map) → P m → Each P rest → Each P (inserted is_before m rest)
  put_over P is_before m [] p h = (p, tt)
  put_over P is_before m (x ∷ rest) p h = by (is_before x m) (put_over P is_before m rest p h.1)
    where
      by : (b : Bool) → Each P (inserted is_before m rest) → Each P (if b then x ∷ inserted is_before m rest else m ∷ x ∷ rest)
      by true more = (h.0, more)
      by false more = (p, h)

  sorted_over : (P : Map → Type 0) (is_before : Map → Map → Bool) (ms : List Map) → Each P ms → Each P (sorted_by is_before ms)
  sorted_over P is_before [] h = tt
  sorted_over P is_before (m ∷ ms) h = put_over P is_before m (sorted_by is_before ms) h.0 (sorted_over P is_before ms h.1)

  module _ (l r : ℕ) (meant : Meant) where
    merged_over : (key : Option (Expr × Expr)) (left right : List Map) → Each (IsOver l) left → Each (IsOver r) right → Each (IsOver (bit_or l r)) (merged_by meant key left right)
    merged_over None left right f g = plain_over l r meant left right f g
    merged_over (Some key) left right f g = plain_over l r meant (sorted_by (stands_before meant key.0) left) (sorted_by (stands_before meant key.1) right) (sorted_over (IsOver l) (stands_before meant key.0) left f) (sorted_over (IsOver r) (stands_before meant key.1) right g)

    method_over : (how : Method) (left right : List Map) → Each (IsOver l) left → Each (IsOver r) right → Each (IsOver (bit_or l r)) (method_list how meant left right)
    method_over method.Nest left right f g = plain_over l r meant left right f g
    method_over method.Hash left right f g = plain_over l r meant left right f g
    method_over method.HashRight left right f g = right_over l r meant left right f g
    method_over method.Merge left right f g = merged_over meant.key left right f g

-- ---- trees

module _ (run : Run) (problem : Problem) where
  pub tree_over : (t : Tree) → Each (IsOver (length problem.items) (set_of t)) (tree_list run problem t)
  unfolding tree_list
  tree_over (Tree.Scan i) = each_filter (IsOver (length problem.items) (only i)) (run_holds run (scan_clauses problem i)) (rows_of_item (length problem.items) i 0 (length (source_at run.sources i))) (rows_over (length problem.items) i 0 (length (source_at run.sources i)))
  tree_over (Tree.Join how kind left right) = method_over (length problem.items) (set_of left) (set_of right) (meant_of run problem (set_of left) (set_of right) kind) how (tree_list run problem left) (tree_list run problem right) (tree_over left) (tree_over right)
