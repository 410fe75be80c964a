-- A stage is a part of a block's tree: its items can be joined by themselves, and the joins that are done in them are its own.
use Rattle.std.proofs.Common.{◌≡◌, sym, subst, ℕ, zero, suc, ◌<◌, ◌≤◌, ◌⊎◌, inl, inr, true, List, map, get_or, arith}
use Rattle.std.specs.Prelude.{bit_and}
use Rattle.std.specs.Int.{bit_at}
use Rattle.std.proofs.lemmas.Bool.{cases_Bool, cases_eq, cases_lt}
use Rattle.std.proofs.lemmas.List.Elements.{Contains-get_or}
use Rattle.jp_base.specs.Sets.{Has, Within, Meets}
use Rattle.jp_base.proofs.SetLemmas.{has_and}
use Rattle.jp_base.proofs.MaskAlgebra.{in_left, in_right}
use Rattle.jp_facts.proofs.Members.{In, to_in, from_in}
use Rattle.jp_problem.specs.declared.types.Item.{Item}
use Rattle.jp_problem.specs.declared.types.Outline.{Outline}
use Rattle.jp_problem.specs.declared.types.Special.{Special}
use Rattle.jp_problem.specs.Legal.{Apart, IsDone, Hangs, Stands, IsJoinable}
use Rattle.jp_problem.specs.MinimumSets.{is_left, specials_in}
use Rattle.jp_problem.specs.Problems.{problem_in}
use Rattle.jp_problem.specs.Sets.{is_within}
use Rattle.jp_problem.proofs.SetTests.{is_within_says}
use Rattle.jp_conditions.proofs.Bounds.{Laid, written_items, bounded, from_one, stands_at}
use Rattle.jp_conditions.proofs.Covering.{left_kind}
use Rattle.jp_conditions.proofs.Meeting.{meet_or_apart}
use Rattle.jp_conditions.proofs.Nesting.{apart_sides, captured, in_order, is_lower, left_some, right_some}
use Rattle.jp_conditions.proofs.Places.{sides_of}
use Rattle.jp_conditions.proofs.Rules.{NulledBy, right_rules_of, whole_of}
use Rattle.jp_conditions.proofs.SetForms as forms
use Rattle.jp_conditions.proofs.Sources.{special_sides}
use Rattle.jp_conditions.proofs.Standing.{Sides, whole}

-- where a part of the tree stands that isn't in the tree of s and doesn't hold it
pub data Outside (part : ℕ) (s : Sides) : Type 0 where
  in_its_left : Within part s.left → Outside part s
  in_its_right : Within part s.right → Outside part s
  away : Apart part (whole s) → Outside part s

-- a part of the tree with its items and its joins, among all joins of the tree
pub record Stage (xs : List Sides) (part : ℕ) (ys : List Sides) : Type 0 where
  pub inside : (u : Sides) → In u ys → In u xs
  pub within : (u : Sides) → In u ys → Within (whole u) part
  pub others : (s : Sides) → In s xs → In s ys ⊎ Outside part s

shrunk : (a part : ℕ) (s : Sides) → Within a part → Outside part s → Outside a s
shrunk a part s w (Outside.in_its_left v) = Outside.in_its_left (λ i h. v i (w i h))
shrunk a part s w (Outside.in_its_right v) = Outside.in_its_right (λ i h. v i (w i h))
shrunk a part s w (Outside.away apart) = Outside.away (λ m. apart (m.0, w m.0 m.1, m.2))

-- a smaller part
pub narrowed : (xs : List Sides) (part : ℕ) (ys : List Sides) (a : ℕ) (zs : List Sides) → Stage xs part ys → Within a part → ((u : Sides) → In u zs → In u ys) → ((u : Sides) → In u zs → Within (whole u) a) → ((u : Sides) → In u ys → In u zs ⊎ Outside a u) → Stage xs a zs
narrowed xs part ys a zs stage w sub within each = record {
  inside = λ u h. stage.inside u (sub u h);
  within = within;
  others = λ s h. elim (stage.others s h) [ inl k ↦ each s k | inr o ↦ inr (shrunk a part s w o) ];
}

-- ---- the least item that two sets share

pub least_found : (m n : ℕ) → ((i : ℕ) × Has m i × ((k : ℕ) → Has m k → i ≤ k)) ⊎ ((k : ℕ) → k < n → ¬ Has m k)
least_found m zero = inr (λ k low h. absurd (omega (arith, low)))
least_found m (suc n) = elim (least_found m n) [
  | inl f ↦ inl f
  | inr none ↦ elim (cases_eq (bit_at m n) 1) [
    | inl h ↦ inl (n, h, λ k p. elim (cases_lt k n) [ inl low ↦ absurd (none k low p) | inr high ↦ high ])
    | inr other ↦ inr (λ k low p. elim (cases_eq k n) [ inl e ↦ other (subst (Has m) e p) | inr apart ↦ none k (omega (arith, low, apart)) p ])
  ]
]

least_common : (a b : ℕ) → Meets a b → (i : ℕ) × Has a i × Has b i × ((k : ℕ) → Has a k → Has b k → i ≤ k)
least_common a b met = elim (least_found (bit_and a b) (suc met.0)) [
  | inl f ↦ (let p = (has_and a b f.0).0 f.1 in (f.0, p.0, p.1, λ k h m. f.2 k ((has_and a b k).1 (h, m))))
  | inr none ↦ absurd (none met.0 (omega arith) ((has_and a b met.0).1 (met.1, met.2)))
]

module _ (block : Outline) (set : ℕ) (laid : Laid block set) (part : ℕ) (ys : List Sides) (stage : Stage (map sides_of block.joins) part ys) where
  -- a join of the part, or one outside it
  pub place : (s : Special) → In s (specials_in block) → In (special_sides s) ys ⊎ Outside part (special_sides s)
  place s h = stage.others (special_sides s) (stands_at block set laid s h)

  pub own_done : (s : Special) → In s (specials_in block) → In (special_sides s) ys → IsDone part s
  own_done s h k =
      let b = bounded block set laid s h in
      let w = stage.within (special_sides s) k in
      record { left = λ i p. w i (in_left s.syn_left s.syn_right i (b.left i p)); right = λ i p. w i (in_right s.syn_left s.syn_right i (b.right i p)) }

  -- a join that is done in the items of the part is one of the part
  pub done_own : (s : Special) → In s (specials_in block) → IsDone part s → In (special_sides s) ys
  done_own s h done = elim (place s h) [ inl k ↦ k | inr o ↦ absurd (never o) ]
    where
      never : Outside part (special_sides s) → ⊥
      never (Outside.in_its_left w) = let j = right_some block set laid s h in apart_sides block set laid s h (j.0, w j.0 (done.right j.0 j.1), (bounded block set laid s h).right j.0 j.1)
      never (Outside.in_its_right w) = let i = left_some block set laid s h in apart_sides block set laid s h (i.0, (bounded block set laid s h).left i.0 i.1, w i.0 (done.left i.0 i.1))
      never (Outside.away apart) = let i = left_some block set laid s h in apart (i.0, done.left i.0 i.1, in_left s.syn_left s.syn_right i.0 ((bounded block set laid s h).left i.0 i.1))

  -- a join whose right set holds an item of the part is one of the part, or has the part in its right side
  own_or_right : (x : Special) (k : ℕ) → In x (specials_in block) → Has part k → Has x.min_right k → In (special_sides x) ys ⊎ Within part x.syn_right
  own_or_right x k h p q = elim (place x h) [ inl m ↦ inl m | inr o ↦ inr (right o) ]
    where
      here : Has x.syn_right k
      here = (bounded block set laid x h).right k q

      right : Outside part (special_sides x) → Within part x.syn_right
      right (Outside.in_its_left w) = absurd (apart_sides block set laid x h (k, w k p, here))
      right (Outside.in_its_right w) = w
      right (Outside.away apart) = absurd (apart (k, p, in_right x.syn_left x.syn_right k here))

  -- ---- a part in the right side of a Left join whose right set it meets

  module _ (s : Special) (h : In s (specials_in block)) (stands : Within part s.syn_right) (i : ℕ) (shared : Has s.min_right i) (of_part : Has part i) (least : (k : ℕ) → Has part k → Has s.min_right k → i ≤ k) (j : ℕ) (item : Has part j) (beyond : ¬ Has s.min_right j) where
    -- a Left join of the part whose right set holds j
    pub record Hung : Type 0 where
      pub join : Special
      pub known : In join (specials_in block)
      pub kind : is_left join.kind ≡ true
      pub own : In (special_sides join) ys
      pub right : Has join.min_right j

    record Above (x : Special) : Type 0 where
      known : In x (specials_in block)
      kind : is_left x.kind ≡ true
      below : Within (written_items x) s.syn_right
      holds : Within part x.syn_right

    -- what stands below a join in the right side of s stands there too
    deeper : (x w : Special) → Within (written_items x) s.syn_right → Within (written_items w) x.syn_right → Within (written_items w) s.syn_right
    deeper x w a b k p = a k (in_right x.syn_left x.syn_right k (b k p))

    -- no Left join of the part holds i: what it needs to its left would be shared too, and stand before i
    not_own : (w : Special) → In w (specials_in block) → Within (written_items w) s.syn_right → Has w.min_right i → In (special_sides w) ys → ⊥
    not_own w k inside p own =
        let took = captured block set laid s w h k inside (i, shared, p) in
        let first = left_some block set laid w k in
        let before = in_order block set laid w first.0 i k first.1 p in
        let behind = least first.0 ((own_done w k own).left first.0 first.1) (took.left first.0 first.1) in
        omega (arith, before, behind)

    descend : (n : ℕ) (x : Special) → Above x → x.no ≤ n → Has x.min_right i ⊎ Has x.min_right j → Hung
    descend zero x a low which = let one = from_one block set laid x a.known in absurd (omega (arith, low, one))
    descend (suc n) x a low which = by (cases_eq (bit_at x.min_right i) 1) (cases_eq (bit_at x.min_right j) 1) (λ w b lower. descend n w b (omega (arith, low, lower)))
      where
        rules : (k : ℕ) → Has part k → Has x.min_right k ⊎ NulledBy (specials_in block) x k
        rules k p = (right_rules_of block set laid x a.known).own k (a.holds k p)

        further : (w : Special) → In w (specials_in block) → is_left w.kind ≡ true → Within (written_items w) x.syn_right → Within part w.syn_right → Above w
        further w k kind inside holds = record { known = k; kind = kind; below = deeper x w a.below inside; holds = holds }

        by : Has x.min_right i ⊎ (¬ Has x.min_right i) → Has x.min_right j ⊎ (¬ Has x.min_right j) → ((w : Special) → Above w → w.no < x.no → Has w.min_right i ⊎ Has w.min_right j → Hung) → Hung
        by (inl p) (inl q) again = absurd (beyond ((captured block set laid s x h a.known a.below (i, shared, p)).right j q))
        by (inl p) (inr q) again = elim (rules j item) [
          | inl r ↦ absurd (q r)
          | inr w ↦ elim (own_or_right w.0 j w.1 item w.4) [
            | inl own ↦ record { join = w.0; known = w.1; kind = w.2; own = own; right = w.4 }
            | inr holds ↦ again w.0 (further w.0 w.1 w.2 w.3 holds) (is_lower block set laid x w.0 a.known w.1 w.3) (inr w.4)
          ]
        ]
        by (inr p) (inl q) again = elim (rules i of_part) [
          | inl r ↦ absurd (p r)
          | inr w ↦ elim (own_or_right w.0 i w.1 of_part w.4) [
            | inl own ↦ absurd (not_own w.0 w.1 (deeper x w.0 a.below w.3) w.4 own)
            | inr holds ↦ again w.0 (further w.0 w.1 w.2 w.3 holds) (is_lower block set laid x w.0 a.known w.1 w.3) (inl w.4)
          ]
        ]
        by (inr p) (inr q) again = absurd (elim which [ inl r ↦ p r | inr r ↦ q r ])

    pub hung : Hung
    hung = elim ((right_rules_of block set laid s h).own j (stands j item)) [
      | inl r ↦ absurd (beyond r)
      | inr x ↦ elim (own_or_right x.0 j x.1 item x.4) [
        | inl own ↦ record { join = x.0; known = x.1; kind = x.2; own = own; right = x.4 }
        | inr holds ↦ descend x.0.no x.0 (record { known = x.1; kind = x.2; below = x.3; holds = holds }) (omega arith) (inr x.4)
      ]
    ]

  hangs : (s : Special) → In s (specials_in block) → Within part s.syn_right → Meets part s.min_right → (j : ℕ) → Has part j → ¬ Has s.min_right j → Hangs (specials_in block) part s j
  hangs s h stands met j item beyond =
      let first = least_common part s.min_right met in
      let found = hung s h stands first.0 first.2 first.1 first.3 j item beyond in
      let u = found.join in
      (u, from_in u (specials_in block) found.known, record { kind = left_kind u.kind found.kind; done = own_done u found.known found.own; outside = λ inside. beyond (inside.right j found.right); right = found.right })

  right_stands : (s : Special) → In s (specials_in block) → Within part s.syn_right → is_left s.kind ≡ true → Stands (specials_in block) part s
  right_stands s h w kind = elim (meet_or_apart part s.min_right) [
    | inr apart ↦ Stands.misses apart
    | inl met ↦ elim (cases_Bool (is_within part s.min_right)) [
      | inl e ↦ Stands.lies_in ((is_within_says part s.min_right).0 e)
      | inr e ↦ Stands.hangs (left_kind s.kind kind) (λ m. apart_sides block set laid s h (m.0, (bounded block set laid s h).left m.0 m.2, w m.0 m.1)) (hangs s h w met)
    ]
  ]

  outside_stands : (s : Special) → In s (specials_in block) → Outside part (special_sides s) → Stands (specials_in block) part s
  outside_stands s h (Outside.in_its_left w) = Stands.misses (λ m. apart_sides block set laid s h (m.0, w m.0 m.1, (bounded block set laid s h).right m.0 m.2))
  outside_stands s h (Outside.in_its_right w) = elim (cases_Bool (is_left s.kind)) [
    | inl kind ↦ right_stands s h w kind
    | inr kind ↦ Stands.lies_in (subst (Within part) (sym (whole_of block set laid s h kind)) w)
  ]
  outside_stands s h (Outside.away apart) = Stands.misses (λ m. apart (m.0, m.1, in_right s.syn_left s.syn_right m.0 ((bounded block set laid s h).right m.0 m.2)))

  stands : (s : Special) → In s (specials_in block) → Stands (specials_in block) part s
  stands s h = elim (place s h) [ inl own ↦ Stands.is_done (own_done s h own) | inr o ↦ outside_stands s h o ]

  -- the items of a part can be joined by themselves
  pub joinable : (items : List Item) → forms.Some part → IsJoinable (problem_in items block) part
  joinable items some = record { some = some; stands = λ k d low. stands (get_or (specials_in block) k d) (to_in (get_or (specials_in block) k d) (specials_in block) (Contains-get_or (specials_in block) k d low)) }
