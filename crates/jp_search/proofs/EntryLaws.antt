-- From the choice for a set to its entry in the table.
use Rattle.std.proofs.Common.{◌≡◌, ◌∙◌, sym, ap, subst, subst₂, refl, ℕ, zero, suc, ◌^◌, ◌<◌, ◌≤◌, ◌⊎◌, inl, inr, arith, List, [], ◌∷◌, ◌++◌, length, Option, Some, None}
use Rattle.std.specs.Prelude.{slice_get}
use Rattle.std.proofs.lemmas.Bool.{cases_eq, cases_lt}
use Rattle.std.proofs.Math.Nat.{pow-le-pow_right}
use Rattle.std.proofs.lemmas.Nat.Bits.{bit_at-pow_same}
use Rattle.jp_base.specs.Sets.{Has}
use Rattle.jp_problem.specs.declared.types.Problem.{Problem}
use Rattle.jp_problem.specs.Made.{IsSearchable}
use Rattle.jp_problem.specs.Trees.{Tree, Scan, Join, set_of, IsLegalTree}
use Rattle.jp_cost.specs.Estimates.{estimate}
use Rattle.jp_cost.proofs.CostLaws.{rows_at_most, tree_at_most}
use Rattle.jp_tree.specs.declared.pool.PlanNode.{PlanNode}
use Rattle.jp_tree.specs.declared.pool.PlanNode.TheVariants as node
use Rattle.jp_tree.specs.Pools.{IsTreeOf, HasChildrenBelow}
use Rattle.jp_tree.proofs.PoolLaws.{tree_stays, named_below}
use Rattle.jp_search.specs.declared.table.Choice.{Choice}
use Rattle.jp_search.specs.declared.table.Found.{Found}
use Rattle.jp_search.specs.Entries.{IsEntry, Knows}
use Rattle.jp_search.specs.Joins.{facts_of}
use Rattle.jp_search.specs.Ready.{IsReady, IsTold}
use Rattle.jp_search.specs.Splits.{IsLeastAbove, scanned}
use Rattle.jp_search.specs.Tables.{entry_at}
use Rattle.jp_cost.specs.TreeCosts.{tree_cost}
use Rattle.jp_search.specs.TreeOrder.{ComesBefore, IsFirst}
use Rattle.jp_search.proofs.FirstLaws.{no_tree, first_tree}
use Rattle.jp_search.proofs.NumberLaws.{of_one}
use Rattle.jp_search.proofs.PartLaws.{one_not_two}
use Rattle.jp_search.proofs.TreeLaws.{IsTreeBy, tree_item}

none_some : {X : Type 0} (x : X) → None ≡ Some x → ⊥
none_some x e = cc

some_is : (a b : Choice) → Some a ≡ Some b → a ≡ b
some_is a b e = cc

-- ---- the pool

-- a node that is put at the end is named by its number
last_is : (nodes : List PlanNode) (node : PlanNode) → slice_get (nodes ++ node ∷ []) (length nodes) ≡ Some node
last_is [] node = refl
last_is (n ∷ nodes) node = last_is nodes node

pub pushed : (nodes : List PlanNode) (node : PlanNode) (t : Tree) → IsTreeBy nodes node t → IsTreeOf (nodes ++ node ∷ []) (length nodes) t
pushed nodes (node.Scan i) t is = subst (IsTreeOf (nodes ++ node.Scan i ∷ []) (length nodes)) (sym is) (last_is nodes (node.Scan i))
pushed nodes (node.Join m k l r) t (a, b, on_a, on_b, is) =
    subst (IsTreeOf (nodes ++ node.Join m k l r ∷ []) (length nodes)) (sym is)
    (l, r, last_is nodes (node.Join m k l r), tree_stays nodes (node.Join m k l r ∷ []) l a on_a, tree_stays nodes (node.Join m k l r ∷ []) r b on_b)

pub children_below : (nodes : List PlanNode) (node : PlanNode) (t : Tree) → IsTreeBy nodes node t → HasChildrenBelow (length nodes) node
children_below nodes (node.Scan i) t is = tt
children_below nodes (node.Join m k l r) t (a, b, on_a, on_b, is) = (named_below nodes l a on_a, named_below nodes r b on_b)

-- ---- the entry

-- a set below 2 ^ n is that of one item, or of none
below_one : (n set : ℕ) → ((i : ℕ) × (set ≡ 2 ^ i)) ⊎ ((i : ℕ) → i < n → ¬ (set ≡ 2 ^ i))
below_one zero set = inr (λ i low e. omega (arith, low))
below_one (suc n) set = elim (cases_eq set (2 ^ n)) [
  | inl e ↦ inl (n, e)
  | inr d ↦ elim (below_one n set) [
    | inl found ↦ inl found
    | inr none ↦ inr (λ i low e. elim (cases_eq i n) [ inl same ↦ d (e ∙ ap (λ k. 2 ^ k) same) | inr other ↦ none i (omega (arith, low, other)) e ])
  ]
]

one_or_several : (n set : ℕ) → set < 2 ^ n → ((i : ℕ) × (set ≡ 2 ^ i)) ⊎ ((i : ℕ) → ¬ (set ≡ 2 ^ i))
one_or_several n set small = elim (below_one n set) [
  | inl found ↦ inl found
  | inr none ↦ inr (λ i e. elim (cases_lt i n) [ inl low ↦ none i low e | inr high ↦ omega (arith, small, e, pow-le-pow_right {n = 2} (omega arith) {i = n} {j = i} high) ])
]

module _ (problem : Problem) (nodes : List PlanNode) (entries : List (Option Found)) (set : ℕ) (knows : Knows problem nodes entries set)
    (choice : Option Choice)
    (single : (i : ℕ) → set ≡ 2 ^ i → choice ≡ Some (scanned problem i))
    (several : ((i : ℕ) → ¬ (set ≡ 2 ^ i)) → IsLeastAbove problem entries set 0 choice) where
  pub none_entry : choice ≡ None → IsEntry problem nodes set None
  none_entry e = no_tree problem nodes entries set knows no_one (subst (IsLeastAbove problem entries set 0) e (several no_one))
    where
      no_one : (i : ℕ) → ¬ (set ≡ 2 ^ i)
      no_one i is = none_some (scanned problem i) (sym e ∙ single i is)

  -- the scan is the only tree of one item
  scan_tree : (i : ℕ) → i < length problem.items → set ≡ 2 ^ i → IsFirst problem set (Scan i)
  scan_tree i low is = record { legal = low; covers = sym is; first = first }
    where
      first : (other : Tree) → IsLegalTree problem other → set_of other ≡ set → ¬ ComesBefore problem other (Scan i)
      first (Scan k) legal covers before =
          let same : k ≡ i = of_one i k (subst (λ s. Has s k) (covers ∙ is) (bit_at-pow_same k)) in
          omega (arith, before, ap (λ n. tree_cost problem (Scan n)) same)
      first (Join m l a b) legal covers before =
          let here = tree_item problem a legal.2 in
          let there = tree_item problem b legal.3 in
          one_not_two i (set_of a) (set_of b) here.0 there.0 (λ n h. of_one i n (subst (λ s. Has s n) (covers ∙ is) h)) legal.0.step.apart here.1 there.1

  pub some_tree : (n : ℕ) → n ≡ length problem.items → set < 2 ^ n → (c : Choice) → choice ≡ Some c → (t : Tree) × IsTreeBy nodes c.node t × IsFirst problem set t × (c.cost ≡ tree_cost problem t)
  some_tree n count small c e = elim (one_or_several n set small) [
    | inl (i, is) ↦
        let c_is : c ≡ scanned problem i = some_is c (scanned problem i) (sym e ∙ single i is) in
        (Scan i, subst (λ (d : Choice). IsTreeBy nodes d.node (Scan i)) (sym c_is) refl, scan_tree i (item_low i is) is, ap (λ (d : Choice). d.cost) c_is)
    | inr many ↦ first_tree problem nodes entries set knows many c (subst (IsLeastAbove problem entries set 0) e (several many))
  ]
    where
      item_low : (i : ℕ) → set ≡ 2 ^ i → i < length problem.items
      item_low i is = elim (cases_lt i n) [ inl low ↦ omega (arith, low, count) | inr high ↦ absurd (omega (arith, small, is, pow-le-pow_right {n = 2} (omega arith) {i = n} {j = i} high)) ]

  pub some_entry : (c : Choice) (t : Tree) (more : Found) (after : List PlanNode) → IsTreeBy nodes c.node t × IsFirst problem set t × (c.cost ≡ tree_cost problem t) → after ≡ nodes ++ c.node ∷ [] → more.plan ≡ length nodes → more.cost ≡ c.cost → more.rows ≡ estimate problem set → more.facts ≡ facts_of problem.joins set → IsEntry problem after set (Some more)
  some_entry c t more after (by, first, cost) after_is plan same rows facts = (t, subst₂ (λ ns id. IsTreeOf ns id t) (sym after_is) (sym plan) (pushed nodes c.node t by), first, same ∙ cost, rows, facts)

-- ---- the table

-- a table that knows its sets has room for steps
pub ready : (problem : Problem) (nodes : List PlanNode) (entries : List (Option Found)) (set : ℕ) → IsSearchable problem → length entries ≡ 2 ^ length problem.items → set < length entries → 0 < set → Knows problem nodes entries set → IsReady problem entries set
ready problem nodes entries set ok size there some knows = record { few = ok.few; sets = ok.estimable.sets; size = size; there = there; some = some; told = told }
  where
    known_at : (part : ℕ) (found : Found) → part < set → entry_at entries part ≡ Some found → IsEntry problem nodes part (Some found)
    known_at part found below e = subst (IsEntry problem nodes part) e (knows.known part below)

    told : (part : ℕ) → part < set → IsTold problem entries part
    told part below = record {
      cost = λ found e. let known = known_at part found below e in subst (λ n. n ≤ 2 ^ 126) (sym known.3) (tree_at_most problem ok known.0 known.2.legal);
      rows = λ found e. let known = known_at part found below e in subst (λ n. n ≤ 2 ^ 60) (sym known.4) (rows_at_most problem ok.estimable part);
      facts = λ found e. (known_at part found below e).5;
    }
