-- From relations to items: what the expressions at each place of a shape refer to lies among the items of their place.
use Rattle.std.proofs.Common.{◌≡◌, ◌∙◌, ap, sym, subst, refl, ℕ, zero, suc, ◌+◌, ◌*◌, ◌/◌, ◌%◌, ◌^◌, ◌<◌, ◌⊎◌, inl, inr, Bool, true, false, not, List, [], ◌∷◌, ◌++◌, map, filter, length, Some, arith}
use Rattle.std.specs.Prelude.{bit_or, slice_get, if◌then◌else◌}
use Rattle.std.specs.Int.{bit_at}
use Rattle.std.proofs.lemmas.Bool.{and_parts, and_from}
use Rattle.std.proofs.lemmas.Nat.Bits.{bit_at_cat_low}
use Rattle.std.proofs.lemmas.Option.{slice_get_within}
use Rattle.jp_base.specs.Sets.{Has, Within}
use Rattle.jp_base.specs.declared.values.Ty.TheVariants as ty
use Rattle.jp_base.proofs.SetLemmas.{has_below}
use Rattle.jp_base.proofs.MaskAlgebra.{in_left, in_right}
use Rattle.jp_facts.proofs.Members.{In, Distinct, from_append, in_append_left, in_append_right, from_map, from_filter}
use Rattle.jp_induction.proofs.EachPart.{Each, each_weaker}
use Rattle.jp_query.specs.declared.Expr.{Expr}
use Rattle.jp_query.specs.declared.JoinKind.{JoinKind}
use Rattle.jp_query.specs.declared.JoinTree.{JoinTree}
use Rattle.jp_query.specs.OwnLeaves.{own_leaves}
use Rattle.jp_query.specs.Parts.{all_in, rels_of}
use Rattle.jp_query.specs.Refs.{refs_of, below_64}
use Rattle.jp_query.specs.Typing.{is_of, are_conditions, type_of}
use Rattle.jp_problem.specs.declared.types.Place.{Place}
use Rattle.jp_problem.specs.declared.types.Placed.{Placed}
use Rattle.jp_problem.specs.declared.types.Written.{Written}
use Rattle.jp_problem.specs.Blocks.{known_rels, used, used_by, behind, number_of, in_right_side, items_at, is_clause_of_side, stays_in_on, placed_in, written, joins_at, clauses_at}
use Rattle.jp_problem.specs.Sets.{is_within, is_empty, span}
use Rattle.jp_problem.specs.Shapes.{Shape, nothing, item, beside, filtered, special, items_in}
use Rattle.jp_problem.proofs.SetTests.{is_within_says}
use Rattle.jp_conditions.proofs.Items.{has_items, used_from}
use Rattle.jp_conditions.proofs.Judging.{each_in}
use Rattle.jp_conditions.proofs.Numbers.{at_place, from_place}
use Rattle.jp_conditions.proofs.Places.{items_beside}
use Rattle.jp_conditions.proofs.Sighting.{Sees, SeenBy}
use Rattle.jp_conditions.proofs.Spans.{has_span}

-- ---- known relations are those below 64

pub low_bits : (x i : ℕ) → i < 64 → bit_at (x % 2 ^ 64) i ≡ bit_at x i
low_bits x i low = sym (bit_at_cat_low (x / 2 ^ 64) 64 (x % 2 ^ 64) i low) ∙ ap (λ n. bit_at n i) whole
  where
    whole : (x / 2 ^ 64) * 2 ^ 64 + x % 2 ^ 64 ≡ x
    whole = omega arith

pub known_low : (x i : ℕ) → Has (below_64 x) i → i < 64
known_low x i h = has_below (x % 2 ^ 64) i (omega arith) h

pub known_has : (x i : ℕ) → Has (below_64 x) i → Has x i
known_has x i h = sym (low_bits x i (known_low x i h)) ∙ h

-- ---- places in lists

module _ {X : Type 0} where
  get_left : (xs ys : List X) (k : ℕ) (x : X) → slice_get xs k ≡ Some x → slice_get (xs ++ ys) k ≡ Some x
  get_left [] ys k x e = cc
  get_left (y ∷ xs) ys zero x e = e
  get_left (y ∷ xs) ys (suc k) x e = get_left xs ys k x e

  get_right : (xs ys : List X) (k : ℕ) (x : X) → slice_get ys k ≡ Some x → slice_get (xs ++ ys) (length xs + k) ≡ Some x
  get_right [] ys k x e = subst (λ n. slice_get ys n ≡ Some x) (omega arith) e
  get_right (y ∷ xs) ys k x e = subst (λ n. slice_get (y ∷ xs ++ ys) n ≡ Some x) (next (length xs)) (get_right xs ys k x e)
    where
      next : (n : ℕ) → suc (n + k) ≡ suc n + k
      next n = omega arith

pub mapped_place : {X Y : Type 0} (f : X → Y) (xs : List X) (k : ℕ) (y : Y) → slice_get (map f xs) k ≡ Some y → (x : X) × (slice_get xs k ≡ Some x) × (f x ≡ y)
mapped_place f [] k y e = cc
mapped_place f (x ∷ xs) zero y e = (x, refl, same (f x) y e)
  where
    same : {Z : Type 0} (a b : Z) → Some a ≡ Some b → a ≡ b
    same a b e = cc
mapped_place f (x ∷ xs) (suc k) y e = mapped_place f xs k y e

-- ---- one number stands at one place

distinct_rest : {X : Type 0} (xs ys : List X) → Distinct (xs ++ ys) → Distinct ys
distinct_rest [] ys d = d
distinct_rest (x ∷ xs) ys d = distinct_rest xs ys d.1

distinct_sides : {X : Type 0} (n : X) (xs ys : List X) → Distinct (xs ++ ys) → In n xs → In n ys → ⊥
distinct_sides n [] ys d h k = h
distinct_sides n (x ∷ xs) ys d (inl e) k = d.0 (in_append_right x xs ys (subst (λ m. In m ys) (sym e) k))
distinct_sides n (x ∷ xs) ys d (inr h) k = distinct_sides n xs ys d.1 h k

in_all_of : (n : ℕ) (xs : List JoinTree) (k : ℕ) (t : JoinTree) → slice_get xs k ≡ Some t → In n (own_leaves t) → In n (all_in (map own_leaves xs))
in_all_of n [] k t e h = cc
in_all_of n (x ∷ xs) zero t e h = in_append_left n (own_leaves x) (all_in (map own_leaves xs)) (subst (λ u. In n (own_leaves u)) (sym (same x t e)) h)
  where
    same : (a b : JoinTree) → Some a ≡ Some b → a ≡ b
    same a b e = cc
in_all_of n (x ∷ xs) (suc k) t e h = in_append_right n (own_leaves x) (all_in (map own_leaves xs)) (in_all_of n xs k t e h)

pub one_place : (xs : List JoinTree) → Distinct (all_in (map own_leaves xs)) → (j k : ℕ) (t u : JoinTree) (n : ℕ) → slice_get xs j ≡ Some t → slice_get xs k ≡ Some u → In n (own_leaves t) → In n (own_leaves u) → j ≡ k
one_place [] d j k t u n e f h m = cc
one_place (x ∷ xs) d zero zero t u n e f h m = refl
one_place (x ∷ xs) d zero (suc k) t u n e f h m = absurd (distinct_sides n (own_leaves x) (all_in (map own_leaves xs)) d (subst (λ z. In n (own_leaves z)) (sym (same x t e)) h) (in_all_of n xs k u f m))
  where
    same : (a b : JoinTree) → Some a ≡ Some b → a ≡ b
    same a b e = cc
one_place (x ∷ xs) d (suc j) zero t u n e f h m = absurd (distinct_sides n (own_leaves x) (all_in (map own_leaves xs)) d (subst (λ z. In n (own_leaves z)) (sym (same x u f)) m) (in_all_of n xs j t e h))
  where
    same : (a b : JoinTree) → Some a ≡ Some b → a ≡ b
    same a b e = cc
one_place (x ∷ xs) d (suc j) (suc k) t u n e f h m = ap suc (one_place xs (distinct_rest (own_leaves x) (all_in (map own_leaves xs)) d) j k t u n e f h m)

-- each member of a list of conditions is a boolean
pub condition_at : (es : List Expr) (e : Expr) → are_conditions (map type_of es) ≡ true → In e es → is_of ty.Boolean (type_of e) ≡ true
condition_at [] e h m = absurd m
condition_at (x ∷ es) e h (inl same) = subst (λ y. is_of ty.Boolean (type_of y) ≡ true) same (and_parts (is_of ty.Boolean (type_of x)) (are_conditions (map type_of es)) h).0
condition_at (x ∷ es) e h (inr m) = condition_at es e (and_parts (is_of ty.Boolean (type_of x)) (are_conditions (map type_of es)) h).1 m

-- ---- expressions at the places of a shape

module _ (rels : List ℕ) where
  -- what each expression of a shape uses lies among the items of its place, and ON lists are conditions
  abbrev pub Seen : Shape → Place → Type 0
  Seen nothing at = Unit {0}
  Seen (item tree) at = Unit {0}
  Seen (beside left right) at = Seen left at × Seen right (behind left at)
  Seen (filtered shape conds) at = Seen shape at × Each (λ e. Within (used rels e) (items_at at shape)) conds × (are_conditions (map type_of conds) ≡ true)
  Seen (special kind left right on) at =
      Seen left at × Seen right (in_right_side left right at) × Each (λ e. Within (used rels e) (bit_or (items_at at left) (items_at (behind left at) right))) on × (are_conditions (map type_of on) ≡ true)

  pub record WrittenFacts (w : Written) : Type 0 where
    pub uses : Within w.uses (bit_or w.syn_left w.syn_right)
    pub uses_of_on : w.uses ≡ used_by rels w.on
    pub typed : are_conditions (map type_of w.on) ≡ true

  kept_conditions : (p : Expr → Bool) (es : List Expr) → are_conditions (map type_of es) ≡ true → are_conditions (map type_of (filter p es)) ≡ true
  kept_conditions p [] h = h
  kept_conditions p (e ∷ es) h =
      let parts = and_parts (is_of ty.Boolean (type_of e)) (are_conditions (map type_of es)) h in
      by (p e) parts.0 (kept_conditions p es parts.1)
    where
      by : (b : Bool) → is_of ty.Boolean (type_of e) ≡ true → are_conditions (map type_of (filter p es)) ≡ true → are_conditions (map type_of (if b then e ∷ filter p es else filter p es)) ≡ true
      by true first rest = and_from (is_of ty.Boolean (type_of e)) (are_conditions (map type_of (filter p es))) first rest
      by false first rest = rest

  pub joins_seen : (shape : Shape) (at : Place) → Seen shape at → (w : Written) → In w (joins_at rels shape at) → WrittenFacts w
  joins_seen nothing at s w h = absurd h
  joins_seen (item tree) at s w h = absurd h
  joins_seen (filtered shape conds) at s w h = joins_seen shape at s.0 w h
  joins_seen (beside left right) at s w h = elim (from_append w (joins_at rels left at) (joins_at rels right (behind left at)) h) [ inl k ↦ joins_seen left at s.0 w k | inr k ↦ joins_seen right (behind left at) s.1 w k ]
  joins_seen (special kind left right on) at s w h =
      let here = in_right_side left right at in
      let this = written rels kind left right on at in
      elim (from_append w (joins_at rels left at ++ joins_at rels right here) (this ∷ []) h) [
        | inl k ↦ elim (from_append w (joins_at rels left at) (joins_at rels right here) k) [ inl m ↦ joins_seen left at s.0 w m | inr m ↦ joins_seen right here s.1 w m ]
        | inr k ↦ elim k [ inl e ↦ subst WrittenFacts e (this_seen kind left right on at s.2 s.3) | inr gone ↦ absurd gone ]
      ]
    where
      this_seen : (kind : JoinKind) (left right : Shape) (on : List Expr) (at : Place) → Each (λ e. Within (used rels e) (bit_or (items_at at left) (items_at (behind left at) right))) on → are_conditions (map type_of on) ≡ true → WrittenFacts (written rels kind left right on at)
      this_seen kind left right on at each typed =
          let test = stays_in_on rels (items_at (behind left at) right) in
          record {
            uses = λ i h. let found = used_from rels (filter test on) i h in each_in (λ e. Within (used rels e) (bit_or (items_at at left) (items_at (behind left at) right))) on found.0 each (from_filter test found.0 on found.1).1 i found.2;
            uses_of_on = refl;
            typed = kept_conditions test on typed;
          }

  -- the clause stands in the region of the whole part and uses its items, or in that of a join inside
  pub record ClauseFacts (shape : Shape) (at : Place) (c : Placed) : Type 0 where
    pub uses_of_expr : c.uses ≡ used rels c.expr
    pub typed : is_of ty.Boolean (type_of c.expr) ≡ true
    pub lies : ((c.region ≡ at.region) × Within c.uses (items_at at shape)) ⊎ ((w : Written) × In w (joins_at rels shape at) × (w.no ≡ c.region) × Within c.uses w.syn_right)

  pub left_items : (left right : Shape) (at : Place) → Within (items_at at left) (span at.items (length (items_in left ++ items_in right)))
  left_items left right at = subst (Within (items_at at left)) (items_beside at.items left right) (in_left (items_at at left) (items_at (behind left at) right))

  pub right_items : (left right : Shape) (at : Place) → Within (items_at (behind left at) right) (span at.items (length (items_in left ++ items_in right)))
  right_items left right at = subst (Within (items_at (behind left at) right)) (items_beside at.items left right) (in_right (items_at at left) (items_at (behind left at) right))

  placed_here : (region set : ℕ) (es : List Expr) (c : Placed) → ((e : Expr) → In e es → Within (used rels e) set × (is_of ty.Boolean (type_of e) ≡ true)) → In c (map (placed_in rels region) es) → (c.region ≡ region) × Within c.uses set × (c.uses ≡ used rels c.expr) × (is_of ty.Boolean (type_of c.expr) ≡ true)
  placed_here region set es c each h =
      let found = from_map (placed_in rels region) c es h in
      let facts = each found.0 found.1 in
      subst (λ (p : Placed). (p.region ≡ region) × Within p.uses set × (p.uses ≡ used rels p.expr) × (is_of ty.Boolean (type_of p.expr) ≡ true)) found.2 (refl, facts.0, refl, facts.1)

  pub clauses_seen : (shape : Shape) (at : Place) → Seen shape at → (c : Placed) → In c (clauses_at rels shape at) → ClauseFacts shape at c
  clauses_seen nothing at s c h = absurd h
  clauses_seen (item tree) at s c h = absurd h
  clauses_seen (filtered shape conds) at s c h = elim (from_append c (clauses_at rels shape at) (map (placed_in rels at.region) conds) h) [
    | inl k ↦ (let f = clauses_seen shape at s.0 c k in record { uses_of_expr = f.uses_of_expr; typed = f.typed; lies = f.lies })
    | inr k ↦ (let p = placed_here at.region (items_at at shape) conds c (λ e m. (each_in (λ x. Within (used rels x) (items_at at shape)) conds e s.1 m, condition_at conds e s.2 m)) k in record { uses_of_expr = p.2; typed = p.3; lies = inl (p.0, p.1) })
  ]
  clauses_seen (beside left right) at s c h = elim (from_append c (clauses_at rels left at) (clauses_at rels right (behind left at)) h) [
    | inl k ↦ (let f = clauses_seen left at s.0 c k in record {
      uses_of_expr = f.uses_of_expr;
      typed = f.typed;
      lies = elim f.lies [ inl p ↦ inl (p.0, λ i m. left_items left right at i (p.1 i m)) | inr p ↦ inr (p.0, in_append_left p.0 (joins_at rels left at) (joins_at rels right (behind left at)) p.1, p.2, p.3) ];
    })
    | inr k ↦ (let f = clauses_seen right (behind left at) s.1 c k in record {
      uses_of_expr = f.uses_of_expr;
      typed = f.typed;
      lies = elim f.lies [ inl p ↦ inl (p.0, λ i m. right_items left right at i (p.1 i m)) | inr p ↦ inr (p.0, in_append_right p.0 (joins_at rels left at) (joins_at rels right (behind left at)) p.1, p.2, p.3) ];
    })
  ]
  clauses_seen (special kind left right on) at s c h =
      let here = in_right_side left right at in
      let this = written rels kind left right on at in
      let inner = joins_at rels left at ++ joins_at rels right here in
      let mine = is_clause_of_side rels (items_at (behind left at) right) in
      elim (from_append c (clauses_at rels left at ++ clauses_at rels right here) (map (placed_in rels (number_of left right at)) (filter mine on)) h) [
        | inr k ↦ (let p = placed_here (number_of left right at) (items_at (behind left at) right) (filter mine on) c (λ e m. ((is_within_says (used rels e) (items_at (behind left at) right)).0 (and_parts (not (is_empty (used rels e))) (is_within (used rels e) (items_at (behind left at) right)) (from_filter mine e on m).0).1, condition_at on e s.3 (from_filter mine e on m).1)) k in
            record { uses_of_expr = p.2; typed = p.3; lies = inr (this, in_append_right this inner (this ∷ []) (inl refl), sym p.0, p.1) })
        | inl k ↦ elim (from_append c (clauses_at rels left at) (clauses_at rels right here) k) [
          | inl m ↦ (let f = clauses_seen left at s.0 c m in record {
            uses_of_expr = f.uses_of_expr;
            typed = f.typed;
            lies = elim f.lies [ inl p ↦ inl (p.0, λ i q. left_items left right at i (p.1 i q)) | inr p ↦ inr (p.0, in_append_left p.0 inner (this ∷ []) (in_append_left p.0 (joins_at rels left at) (joins_at rels right here) p.1), p.2, p.3) ];
          })
          | inr m ↦ (let f = clauses_seen right here s.1 c m in record {
            uses_of_expr = f.uses_of_expr;
            typed = f.typed;
            lies = elim f.lies [ inl p ↦ inr (this, in_append_right this inner (this ∷ []) (inl refl), sym p.0, p.1) | inr p ↦ inr (p.0, in_append_left p.0 inner (this ∷ []) (in_append_right p.0 (joins_at rels left at) (joins_at rels right here) p.1), p.2, p.3) ];
          })
        ]
      ]

-- ---- the items of a block, of which each has relations of its own

module _ (all : List JoinTree) (one : (j k : ℕ) (t u : JoinTree) (rel : ℕ) → slice_get all j ≡ Some t → slice_get all k ≡ Some u → Has (rels_of t) rel → Has (rels_of u) rel → j ≡ k) where
  -- no item has the relation
  abbrev pub Foreign : ℕ → Type 0
  Foreign rel = (t : JoinTree) → In t all → Has (rels_of t) rel → ⊥

  -- these items stand from this place on
  abbrev pub Part : ℕ → List JoinTree → Type 0
  Part first xs = (k : ℕ) (t : JoinTree) → slice_get xs k ≡ Some t → slice_get all (first + k) ≡ Some t

  pub first_part : (first : ℕ) (xs ys : List JoinTree) → Part first (xs ++ ys) → Part first xs
  first_part first xs ys p k t e = p k t (get_left xs ys k t e)

  pub second_part : (first : ℕ) (xs ys : List JoinTree) → Part first (xs ++ ys) → Part (first + length xs) ys
  second_part first xs ys p k t e = subst (λ n. slice_get all n ≡ Some t) (omega arith) (p (length xs + k) t (get_right xs ys k t e))

  member_at : (k : ℕ) (t : JoinTree) → slice_get all k ≡ Some t → In t all
  member_at k t e = from_place all k t e

  used_here : (shape : Shape) (at : Place) (e : Expr) → Part at.items (items_in shape) → Sees Foreign shape e → Within (used (map known_rels all) e) (items_at at shape)
  used_here shape at e part sees i h =
      let shared = has_items (map known_rels all) (refs_of e) i h in
      let place = mapped_place known_rels all i shared.0 shared.1 in
      let rel = shared.2.0 in
      let here : Has (rels_of place.0) rel = known_has (rels_of place.0) rel (subst (λ n. Has n rel) (sym place.2) shared.2.1) in
      elim (sees rel shared.2.2) [
        | inr foreign ↦ absurd (foreign place.0 (member_at i place.0 place.1) here)
        | inl found ↦ (let k = at_place (items_in shape) found.0 found.1 in
            let same = one i (at.items + k.0) place.0 found.0 rel place.1 (part k.0 found.0 k.1) here found.2 in
            let low = slice_get_within (items_in shape) k.0 found.0 k.1 in
            (has_span at.items (length (items_in shape)) i).1 (omega (arith, same), omega (arith, same, low)))
      ]

  pub seen : (shape : Shape) (at : Place) → Part at.items (items_in shape) → SeenBy Foreign shape → Seen (map known_rels all) shape at
  seen nothing at part s = tt
  seen (item tree) at part s = tt
  seen (beside left right) at part s = (seen left at (first_part at.items (items_in left) (items_in right) part) s.0, seen right (behind left at) (second_part at.items (items_in left) (items_in right) part) s.1)
  seen (filtered shape conds) at part s = (seen shape at part s.0, each_weaker (Sees Foreign shape) (λ e. Within (used (map known_rels all) e) (items_at at shape)) (λ e h. used_here shape at e part h) conds s.1, s.2)
  seen (special kind left right on) at part s = (
    seen left at (first_part at.items (items_in left) (items_in right) part) s.0,
    seen right (in_right_side left right at) (second_part at.items (items_in left) (items_in right) part) s.1,
    each_weaker (Sees Foreign (beside left right)) (λ e. Within (used (map known_rels all) e) (bit_or (items_at at left) (items_at (behind left at) right)))
        (λ e h. subst (Within (used (map known_rels all) e)) (sym (items_beside at.items left right)) (used_here (beside left right) at e part h)) on s.2,
    s.3,
  )
