-- The conditions of a part of the tree that stand in the part's own region, and the clauses of a block by their regions.
use Rattle.std.proofs.Common.{◌≡◌, ap, sym, subst, refl, ℕ, ◌+◌, ◌<◌, ◌≤◌, ◌⊎◌, inl, inr, List, [], ◌∷◌, ◌++◌, map, filter, arith}
use Rattle.jp_base.specs.Sets.{Within}
use Rattle.jp_facts.proofs.Members.{In, from_append, in_append_left, in_append_right, in_map, from_map}
use Rattle.jp_query.specs.declared.Expr.{Expr}
use Rattle.jp_query.specs.declared.JoinKind.{JoinKind}
use Rattle.jp_problem.specs.declared.types.Place.{Place}
use Rattle.jp_problem.specs.declared.types.Placed.{Placed}
use Rattle.jp_problem.specs.declared.types.Written.{Written}
use Rattle.jp_problem.specs.Blocks.{used, behind, in_right_side, number_of, items_at, is_clause_of_side, placed_in, written, joins_at, clauses_at}
use Rattle.jp_problem.specs.Shapes.{Shape, nothing, item, beside, filtered, special, count_joins}
use Rattle.jp_conditions.proofs.Judging.{each_in}
use Rattle.jp_conditions.proofs.Laying.{Seen, left_items, right_items}

abbrev pub own_conds : Shape → List Expr
own_conds nothing = []
own_conds (item tree) = []
own_conds (beside left right) = own_conds left ++ own_conds right
own_conds (filtered shape conds) = own_conds shape ++ conds
own_conds (special kind left right on) = own_conds left

module _ (rels : List ℕ) where
  -- the members of an ON list that are clauses of its join's region
  abbrev pub side_members : Shape → Shape → List Expr → Place → List Expr
  side_members left right on at = filter (is_clause_of_side rels (items_at (behind left at) right)) on

  -- the clauses of a special join's region
  abbrev pub side_conds : Shape → Shape → List Expr → Place → List Expr
  side_conds left right on at = own_conds right ++ side_members left right on at

  data Owned (shape : Shape) (at : Place) (c : Placed) : Type 0 where
    own : c.region ≡ at.region → In c.expr (own_conds shape) → Owned shape at c
    deeper : at.joins < c.region → c.region ≤ at.joins + count_joins shape → Owned shape at c

  of_list : (region : ℕ) (es : List Expr) (c : Placed) → In c (map (placed_in rels region) es) → (c.region ≡ region) × In c.expr es
  of_list region es c h = let e = from_map (placed_in rels region) c es h in (ap (λ (x : Placed). x.region) (sym e.2), subst (λ (x : Placed). In x.expr es) e.2 e.1)

  owned : (shape : Shape) (at : Place) (c : Placed) → In c (clauses_at rels shape at) → Owned shape at c
  owned nothing at c h = absurd h
  owned (item tree) at c h = absurd h
  owned (filtered shape conds) at c h = elim (from_append c (clauses_at rels shape at) (map (placed_in rels at.region) conds) h) [
    | inl k ↦ wider (owned shape at c k)
    | inr k ↦ (let e = of_list at.region conds c k in Owned.own e.0 (in_append_right c.expr (own_conds shape) conds e.1))
  ]
    where
      wider : Owned shape at c → Owned (filtered shape conds) at c
      wider (Owned.own e m) = Owned.own e (in_append_left c.expr (own_conds shape) conds m)
      wider (Owned.deeper a b) = Owned.deeper a b
  owned (beside left right) at c h = elim (from_append c (clauses_at rels left at) (clauses_at rels right (behind left at)) h) [
    | inl k ↦ of_left (owned left at c k)
    | inr k ↦ of_right (owned right (behind left at) c k)
  ]
    where
      of_left : Owned left at c → Owned (beside left right) at c
      of_left (Owned.own e m) = Owned.own e (in_append_left c.expr (own_conds left) (own_conds right) m)
      of_left (Owned.deeper a b) = Owned.deeper a (omega (arith, b))

      of_right : Owned right (behind left at) c → Owned (beside left right) at c
      of_right (Owned.own e m) = Owned.own e (in_append_right c.expr (own_conds left) (own_conds right) m)
      of_right (Owned.deeper a b) = Owned.deeper (omega (arith, a)) (omega (arith, b))
  owned (special kind left right on) at c h =
      elim (from_append c (clauses_at rels left at ++ clauses_at rels right (in_right_side left right at)) (map (placed_in rels (number_of left right at)) (side_members left right on at)) h) [
        | inl k ↦ elim (from_append c (clauses_at rels left at) (clauses_at rels right (in_right_side left right at)) k) [ inl m ↦ of_left (owned left at c m) | inr m ↦ of_right (owned right (in_right_side left right at) c m) ]
        | inr k ↦ (let e = of_list (number_of left right at) (side_members left right on at) c k in of_number e.0)
      ]
    where
      of_number : c.region ≡ number_of left right at → Owned (special kind left right on) at c
      of_number e = Owned.deeper (omega (arith, e)) (omega (arith, e))

      of_left : Owned left at c → Owned (special kind left right on) at c
      of_left (Owned.own e m) = Owned.own e m
      of_left (Owned.deeper a b) = Owned.deeper a (omega (arith, b))

      of_right : Owned right (in_right_side left right at) c → Owned (special kind left right on) at c
      of_right (Owned.own e m) = of_number e
      of_right (Owned.deeper a b) = Owned.deeper (omega (arith, a)) (omega (arith, b))

  pub placed_own : (shape : Shape) (at : Place) (e : Expr) → In e (own_conds shape) → In (placed_in rels at.region e) (clauses_at rels shape at)
  placed_own nothing at e h = absurd h
  placed_own (item tree) at e h = absurd h
  placed_own (filtered shape conds) at e h = elim (from_append e (own_conds shape) conds h) [
    | inl k ↦ in_append_left (placed_in rels at.region e) (clauses_at rels shape at) (map (placed_in rels at.region) conds) (placed_own shape at e k)
    | inr k ↦ in_append_right (placed_in rels at.region e) (clauses_at rels shape at) (map (placed_in rels at.region) conds) (in_map (placed_in rels at.region) e conds k)
  ]
  placed_own (beside left right) at e h = elim (from_append e (own_conds left) (own_conds right) h) [
    | inl k ↦ in_append_left (placed_in rels at.region e) (clauses_at rels left at) (clauses_at rels right (behind left at)) (placed_own left at e k)
    | inr k ↦ in_append_right (placed_in rels at.region e) (clauses_at rels left at) (clauses_at rels right (behind left at)) (placed_own right (behind left at) e k)
  ]
  placed_own (special kind left right on) at e h =
      in_append_left (placed_in rels at.region e) (clauses_at rels left at ++ clauses_at rels right (in_right_side left right at)) (map (placed_in rels (number_of left right at)) (side_members left right on at))
      (in_append_left (placed_in rels at.region e) (clauses_at rels left at) (clauses_at rels right (in_right_side left right at)) (placed_own left at e h))

  pub own_seen : (shape : Shape) (at : Place) → Seen rels shape at → (e : Expr) → In e (own_conds shape) → Within (used rels e) (items_at at shape)
  own_seen nothing at s e h = absurd h
  own_seen (item tree) at s e h = absurd h
  own_seen (filtered shape conds) at s e h = elim (from_append e (own_conds shape) conds h) [ inl k ↦ own_seen shape at s.0 e k | inr k ↦ each_in (λ x. Within (used rels x) (items_at at shape)) conds e s.1 k ]
  own_seen (beside left right) at s e h = elim (from_append e (own_conds left) (own_conds right) h) [
    | inl k ↦ (λ i p. left_items rels left right at i (own_seen left at s.0 e k i p))
    | inr k ↦ (λ i p. right_items rels left right at i (own_seen right (behind left at) s.1 e k i p))
  ]
  own_seen (special kind left right on) at s e h = λ i p. left_items rels left right at i (own_seen left at s.0 e h i p)

  -- ---- a part of a tree whose clauses are `all` and whose joins are `joins`

  pub record Part (all : List Placed) (joins : List Written) (shape : Shape) (at : Place) : Type 0 where
    pub within : (c : Placed) → In c (clauses_at rels shape at) → In c all
    pub inside : (c : Placed) → In c all → at.joins < c.region → c.region ≤ at.joins + count_joins shape → In c (clauses_at rels shape at)
    pub region : (at.region ≡ 0) ⊎ (at.joins + count_joins shape < at.region)
    pub joined : (w : Written) → In w (joins_at rels shape at) → In w joins

  module _ (all : List Placed) (joins : List Written) where
    pub part_filtered : (shape : Shape) (conds : List Expr) (at : Place) → Part all joins (filtered shape conds) at → Part all joins shape at
    part_filtered shape conds at p = record {
      within = λ c h. p.within c (in_append_left c (clauses_at rels shape at) (map (placed_in rels at.region) conds) h);
      inside = λ c h low high. elim (from_append c (clauses_at rels shape at) (map (placed_in rels at.region) conds) (p.inside c h low high)) [
        | inl k ↦ k
        | inr k ↦ (let e = (of_list at.region conds c k).0 in absurd (never c e low high))
      ];
      region = p.region;
      joined = p.joined;
    }
      where
        never : (c : Placed) → c.region ≡ at.region → at.joins < c.region → c.region ≤ at.joins + count_joins shape → ⊥
        never c e low high = elim p.region [ inl z ↦ omega (arith, e, low, z) | inr z ↦ omega (arith, e, high, z) ]

    module _ (left right : Shape) (at : Place) (p : Part all joins (beside left right) at) where
      not_right : (c : Placed) → at.joins < c.region → c.region ≤ at.joins + count_joins left → Owned right (behind left at) c → ⊥
      not_right c low high (Owned.own e m) = elim p.region [ inl z ↦ omega (arith, e, low, z) | inr z ↦ omega (arith, e, high, z) ]
      not_right c low high (Owned.deeper a b) = omega (arith, a, high)

      not_left : (c : Placed) → at.joins + count_joins left < c.region → c.region ≤ at.joins + count_joins left + count_joins right → Owned left at c → ⊥
      not_left c low high (Owned.own e m) = elim p.region [ inl z ↦ omega (arith, e, low, z) | inr z ↦ omega (arith, e, high, z) ]
      not_left c low high (Owned.deeper a b) = omega (arith, b, low)

      pub part_left : Part all joins left at
      part_left = record {
        within = λ c h. p.within c (in_append_left c (clauses_at rels left at) (clauses_at rels right (behind left at)) h);
        inside = λ c h low high. elim (from_append c (clauses_at rels left at) (clauses_at rels right (behind left at)) (p.inside c h low (omega (arith, high)))) [ inl k ↦ k | inr k ↦ absurd (not_right c low high (owned right (behind left at) c k)) ];
        region = elim p.region [ inl z ↦ inl z | inr z ↦ inr (omega (arith, z)) ];
        joined = λ w h. p.joined w (in_append_left w (joins_at rels left at) (joins_at rels right (behind left at)) h);
      }

      pub part_right : Part all joins right (behind left at)
      part_right = record {
        within = λ c h. p.within c (in_append_right c (clauses_at rels left at) (clauses_at rels right (behind left at)) h);
        inside = λ c h low high. elim (from_append c (clauses_at rels left at) (clauses_at rels right (behind left at)) (p.inside c h (omega (arith, low)) (omega (arith, high)))) [ inr k ↦ k | inl k ↦ absurd (not_left c low high (owned left at c k)) ];
        region = elim p.region [ inl z ↦ inl z | inr z ↦ inr (omega (arith, z)) ];
        joined = λ w h. p.joined w (in_append_right w (joins_at rels left at) (joins_at rels right (behind left at)) h);
      }

    module _ (kind : JoinKind) (left right : Shape) (on : List Expr) (at : Place) (p : Part all joins (special kind left right on) at) where
      abbrev here : Place
      here = in_right_side left right at

      abbrev no : ℕ
      no = number_of left right at

      data From (c : Placed) : Type 0 where
        of_left : In c (clauses_at rels left at) → From c
        of_right : In c (clauses_at rels right (in_right_side left right at)) → From c
        of_on : c.region ≡ number_of left right at → In c.expr (side_members left right on at) → From c

      from : (c : Placed) → In c (clauses_at rels (special kind left right on) at) → From c
      from c h = elim (from_append c (clauses_at rels left at ++ clauses_at rels right here) (map (placed_in rels no) (side_members left right on at)) h) [
        | inl k ↦ elim (from_append c (clauses_at rels left at) (clauses_at rels right here) k) [ inl m ↦ of_left m | inr m ↦ of_right m ]
        | inr k ↦ (let e = of_list no (side_members left right on at) c k in of_on e.0 e.1)
      ]

      to_left : (c : Placed) → In c (clauses_at rels left at) → In c all
      to_left c h = p.within c (in_append_left c (clauses_at rels left at ++ clauses_at rels right here) (map (placed_in rels no) (side_members left right on at)) (in_append_left c (clauses_at rels left at) (clauses_at rels right here) h))

      to_right : (c : Placed) → In c (clauses_at rels right here) → In c all
      to_right c h = p.within c (in_append_left c (clauses_at rels left at ++ clauses_at rels right here) (map (placed_in rels no) (side_members left right on at)) (in_append_right c (clauses_at rels left at) (clauses_at rels right here) h))

      left_only : (c : Placed) → at.joins < c.region → c.region ≤ at.joins + count_joins left → From c → In c (clauses_at rels left at)
      left_only c low high (of_left h) = h
      left_only c low high (of_on e m) = absurd (omega (arith, e, high))
      left_only c low high (of_right h) = absurd (by (owned right here c h))
        where
          by : Owned right (in_right_side left right at) c → ⊥
          by (Owned.own e m) = omega (arith, e, high)
          by (Owned.deeper a b) = omega (arith, a, high)

      right_only : (c : Placed) → at.joins + count_joins left < c.region → c.region ≤ at.joins + count_joins left + count_joins right → From c → In c (clauses_at rels right (in_right_side left right at))
      right_only c low high (of_right h) = h
      right_only c low high (of_on e m) = absurd (omega (arith, e, high))
      right_only c low high (of_left h) = absurd (by (owned left at c h))
        where
          by : Owned left at c → ⊥
          by (Owned.own e m) = elim p.region [ inl z ↦ omega (arith, e, low, z) | inr z ↦ omega (arith, e, high, z) ]
          by (Owned.deeper a b) = omega (arith, b, low)

      pub special_left : Part all joins left at
      special_left = record {
        within = to_left;
        inside = λ c h low high. left_only c low high (from c (p.inside c h low (omega (arith, high))));
        region = elim p.region [ inl z ↦ inl z | inr z ↦ inr (omega (arith, z)) ];
        joined = λ w h. p.joined w (in_append_left w (joins_at rels left at ++ joins_at rels right here) (written rels kind left right on at ∷ []) (in_append_left w (joins_at rels left at) (joins_at rels right here) h));
      }

      pub special_right : Part all joins right (in_right_side left right at)
      special_right = record {
        within = to_right;
        inside = λ c h low high. right_only c low high (from c (p.inside c h (omega (arith, low)) (omega (arith, high))));
        region = inr (omega arith);
        joined = λ w h. p.joined w (in_append_left w (joins_at rels left at ++ joins_at rels right here) (written rels kind left right on at ∷ []) (in_append_right w (joins_at rels left at) (joins_at rels right here) h));
      }

      pub this_join : In (written rels kind left right on at) joins
      this_join = p.joined (written rels kind left right on at) (in_append_right (written rels kind left right on at) (joins_at rels left at ++ joins_at rels right here) (written rels kind left right on at ∷ []) (inl refl))

      -- the clauses of the join's region are its right side's own and the members of its ON list
      pub side_found : (c : Placed) → In c all → c.region ≡ number_of left right at → In c.expr (side_conds left right on at)
      side_found c h e = by (from c (p.inside c h (omega (arith, e)) (omega (arith, e))))
        where
          in_right : Owned right (in_right_side left right at) c → In c.expr (side_conds left right on at)
          in_right (Owned.own q m) = in_append_left c.expr (own_conds right) (side_members left right on at) m
          in_right (Owned.deeper a b) = absurd (omega (arith, b, e))

          in_left : Owned left at c → ⊥
          in_left (Owned.own q m) = elim p.region [ inl z ↦ omega (arith, e, q, z) | inr z ↦ omega (arith, e, q, z) ]
          in_left (Owned.deeper a b) = omega (arith, b, e)

          by : From c → In c.expr (side_conds left right on at)
          by (of_left k) = absurd (in_left (owned left at c k))
          by (of_right k) = in_right (owned right (in_right_side left right at) c k)
          by (of_on q m) = in_append_right c.expr (own_conds right) (side_members left right on at) m

      pub side_placed : (e : Expr) → In e (side_conds left right on at) → In (placed_in rels (number_of left right at) e) all
      side_placed e h = elim (from_append e (own_conds right) (side_members left right on at) h) [
        | inl k ↦ to_right (placed_in rels no e) (placed_own right here e k)
        | inr k ↦ p.within (placed_in rels no e) (in_append_right (placed_in rels no e) (clauses_at rels left at ++ clauses_at rels right here) (map (placed_in rels no) (side_members left right on at)) (in_map (placed_in rels no) e (side_members left right on at) k))
      ]

  -- at the top all clauses of no region are the shape's own
  pub top_found : (shape : Shape) (at : Place) (c : Placed) → at.region ≡ 0 → In c (clauses_at rels shape at) → c.region ≡ 0 → In c.expr (own_conds shape)
  top_found shape at c z h e = by (owned shape at c h)
    where
      by : Owned shape at c → In c.expr (own_conds shape)
      by (Owned.own q m) = m
      by (Owned.deeper a b) = absurd (omega (arith, a, e))
