-- Whether an expression uses items.
use Rattle.std.proofs.Common.{◌≡◌, ◌∙◌, ap, sym, subst, refl, ℕ, suc, inl, Bool, true, false, not, List, [], ◌∷◌, map}
use Rattle.std.specs.Prelude.{bit_or}
use Rattle.std.specs.List.{list_any}
use Rattle.std.specs.Int.Bits.{or_zero_l}
use Rattle.std.proofs.lemmas.Bool.{ne_eqb}
use Rattle.std.proofs.lemmas.Nat.Bits.{bit_at-pow_same}
use Rattle.jp_base.specs.Sets.{Has}
use Rattle.jp_base.proofs.MaskAlgebra.{has_none}
use Rattle.jp_base.proofs.SetLemmas.{has_or}
use Rattle.jp_query.specs.Refs.{only}
use Rattle.jp_problem.specs.declared.types.Item.{Item}
use Rattle.jp_problem.specs.Blocks.{items_from}
use Rattle.jp_problem.specs.Problems.{rels_of_item}
use Rattle.jp_problem.specs.Sets.{is_empty, meets, set_if}
use Rattle.jp_cost.specs.Items.{meets_rels}

-- a set with a member isn't empty
some_member : (set i : ℕ) → Has set i → not (is_empty set) ≡ true
some_member set i h = ap not (ne_eqb set 0 (λ e. has_none i (subst (λ n. Has n i) e h)))

pub uses_some : (first rels : ℕ) (items : List Item) → list_any (meets_rels rels) items ≡ not (is_empty (items_from first (map rels_of_item items) rels))
uses_some first rels [] = refl
uses_some first rels (item ∷ items) = by (meets item.rels rels) refl (uses_some (suc first) rels items)
  where
    rest : ℕ
    rest = items_from (suc first) (map rels_of_item items) rels

    by : (b : Bool) → meets item.rels rels ≡ b → list_any (meets_rels rels) items ≡ not (is_empty rest) → list_any (meets_rels rels) (item ∷ items) ≡ not (is_empty (bit_or (set_if (meets item.rels rels) (only first)) rest))
    by true e more = rw e (sym (some_member (bit_or (only first) rest) first ((has_or (only first) rest first).1 (inl (bit_at-pow_same first)))))
    by false e more = rw e (more ∙ ap (λ n. not (is_empty n)) (sym (or_zero_l rest)))
