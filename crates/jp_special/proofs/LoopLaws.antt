-- One step more of the loops over items and over joins.
use Rattle.std.proofs.Common.{◌≡◌, ◌∙◌, sym, ap, ap₂, refl, ℕ, suc, ◌+◌, ◌-◌, ◌<◌, ◌≤◌, List, [], ◌∷◌, ◌++◌, length, take, drop, get_or, arith, drop-cons}
use Rattle.std.specs.Prelude.{bit_or, fold}
use Rattle.std.proofs.lemmas.List.{take_more, drop_all}
use Rattle.std.specs.Int.Bits.{or_zero_l, or_zero_r}
use Rattle.jp_base.proofs.MaskAlgebra.{or_assoc}
use Rattle.jp_query.specs.Meaning.{has}
use Rattle.jp_problem.specs.declared.types.Outline.{Outline}
use Rattle.jp_problem.specs.declared.types.Special.{Special}
use Rattle.jp_problem.specs.declared.types.Written.{Written}
use Rattle.jp_problem.specs.Sets.{meets, set_if, span}
use Rattle.jp_query.specs.Refs.{only}
use Rattle.jp_problem.specs.Blocks.{items_from, rels_from}
use Rattle.jp_problem.specs.MinimumSets.{one_more, with_sets}

pub rels_further : (rels : List ℕ) (set i found one d : ℕ) → i < length rels → one ≡ set_if (has set i) (get_or rels i d) → bit_or (bit_or found one) (rels_from (i + 1) (drop (i + 1) rels) set) ≡ bit_or found (rels_from i (drop i rels) set)
rels_further rels set i found one d low is =
    or_assoc found one (rels_from (i + 1) (drop (i + 1) rels) set)
    ∙ ap (λ more. bit_or found more) (ap₂ bit_or is (ap (λ n. rels_from n (drop n rels) set) here) ∙ sym (ap (λ xs. rels_from i xs set) (drop-cons rels i d low)))
  where
    here : i + 1 ≡ suc i
    here = omega arith

pub rels_ended : (rels : List ℕ) (set i found all : ℕ) → length rels ≤ i → bit_or found (rels_from i (drop i rels) set) ≡ all → found ≡ all
rels_ended rels set i found all past e = sym (or_zero_r found) ∙ sym (ap (λ xs. bit_or found (rels_from i xs set)) (drop_all i rels past)) ∙ e

pub items_further : (rels : List ℕ) (set i found here d : ℕ) → i < length rels → here ≡ set_if (meets (get_or rels i d) set) (only i) → bit_or (bit_or found here) (items_from (i + 1) (drop (i + 1) rels) set) ≡ bit_or found (items_from i (drop i rels) set)
items_further rels set i found here d low is =
    or_assoc found here (items_from (i + 1) (drop (i + 1) rels) set)
    ∙ ap (λ more. bit_or found more) (ap₂ bit_or is (ap (λ n. items_from n (drop n rels) set) next) ∙ sym (ap (λ xs. items_from i xs set) (drop-cons rels i d low)))
  where
    next : i + 1 ≡ suc i
    next = omega arith

pub items_ended : (rels : List ℕ) (set i found all : ℕ) → length rels ≤ i → bit_or found (items_from i (drop i rels) set) ≡ all → found ≡ all
items_ended rels set i found all past e = sym (or_zero_r found) ∙ sym (ap (λ xs. bit_or found (items_from i xs set)) (drop_all i rels past)) ∙ e

pub span_further : (i end found here : ℕ) → i < end → here ≡ only i → bit_or (bit_or found here) (span (i + 1) (end - (i + 1))) ≡ bit_or found (span i (end - i))
span_further i end found here low is =
    or_assoc found here (span (i + 1) (end - (i + 1)))
    ∙ ap (λ more. bit_or found more) (ap₂ bit_or is (ap (λ n. span n (end - n)) next) ∙ sym (ap (span i) left))
  where
    next : i + 1 ≡ suc i
    next = omega arith

    left : end - i ≡ suc (end - suc i)
    left = omega arith

pub span_ended : (i end found all : ℕ) → end ≤ i → bit_or found (span i (end - i)) ≡ all → found ≡ all
span_ended i end found all past e = sym (or_zero_r found) ∙ sym (ap (λ n. bit_or found (span i n)) none) ∙ e
  where
    none : end - i ≡ 0
    none = omega arith

pub span_begins : (first count : ℕ) → bit_or 0 (span first (first + count - first)) ≡ span first count
span_begins first count = or_zero_l (span first (first + count - first)) ∙ ap (span first) same
  where
    same : first + count - first ≡ count
    same = omega arith

pub joins_further : (outline : Outline) (ws : List Written) (i : ℕ) (s : Written) (joins after : List Special) (special : Special) → i < length ws → s ≡ get_or ws i s → joins ≡ fold (one_more outline) [] (take i ws) → special ≡ with_sets outline joins s → after ≡ joins ++ special ∷ [] → after ≡ fold (one_more outline) [] (take (i + 1) ws)
joins_further outline ws i s joins after special low is before one e =
    e ∙ ap (λ x. joins ++ x ∷ []) one ∙ ap₂ (one_more outline) before is ∙ sym (fold_last [] (take i ws)) ∙ sym (ap (fold (one_more outline) []) (take_more ws i s low))
  where
    fold_last : (start : List Special) (xs : List Written) → fold (one_more outline) start (xs ++ get_or ws i s ∷ []) ≡ one_more outline (fold (one_more outline) start xs) (get_or ws i s)
    fold_last start [] = refl
    fold_last start (x ∷ xs) = fold_last (one_more outline start x) xs
