-- The tree that joins as a block is written is a legal tree of all its items.
use Rattle.std.proofs.Common.{◌≡◌, ◌∙◌, ap, ap₂, sym, subst, refl, ℕ, suc, ◌+◌, ◌<◌, ◌≤◌, ◌⊎◌, inl, inr, List, [], ◌∷◌, ◌++◌, map, length, length-append, Some, None, arith}
use Rattle.std.specs.Prelude.{bit_or}
use Rattle.std.proofs.lemmas.List.{length-map}
use Rattle.jp_base.specs.Sets.{Has, Within}
use Rattle.jp_base.proofs.SetLemmas.{same_set, has_or}
use Rattle.jp_base.proofs.MaskAlgebra.{has_none, in_left}
use Rattle.jp_facts.proofs.Members.{In, from_append, in_append_left, in_append_right, in_map, from_map}
use Rattle.jp_query.specs.declared.Expr.{Expr}
use Rattle.jp_query.specs.declared.JoinKind.{JoinKind}
use Rattle.jp_query.specs.declared.Query.{Query}
use Rattle.jp_query.specs.Refs.{only}
use Rattle.jp_problem.specs.declared.types.Item.{Item}
use Rattle.jp_problem.specs.declared.types.Method.TheVariants.{Nest}
use Rattle.jp_problem.specs.declared.types.Outline.{Outline}
use Rattle.jp_problem.specs.declared.types.Place.{Place}
use Rattle.jp_problem.specs.declared.types.Special.{Special}
use Rattle.jp_problem.specs.declared.types.Step.{Step}
use Rattle.jp_problem.specs.declared.types.Step.TheVariants.{Inner, By}
use Rattle.jp_problem.specs.declared.types.Written.{Written}
use Rattle.jp_problem.specs.Blocks.{top, behind, number_of, in_right_side, items_at, written, joins_at, outline_of}
use Rattle.jp_problem.specs.Classes.{derived}
use Rattle.jp_problem.specs.Legal.{Apart, IsLegalStep}
use Rattle.jp_problem.specs.Made.{IsBlock}
use Rattle.jp_problem.specs.Problems.{AreItemsOf, rels_of_item, problem_in, problem_of}
use Rattle.jp_problem.specs.Sets.{span}
use Rattle.jp_problem.specs.Shapes.{Shape, nothing, item, beside, filtered, special, block_shape, items_in}
use Rattle.jp_problem.specs.Trees.{Tree, set_of, IsLegalTree, IsPlan, stepped, spine_at, spine}
use Rattle.jp_problem.specs.Trees.Tree.{Scan, Join}
use Rattle.jp_conditions.proofs.Bounds.{Laid}
use Rattle.jp_conditions.proofs.LaidBlocks.{laid, rooted, same_length}
use Rattle.jp_conditions.proofs.Laying.{left_items, right_items}
use Rattle.jp_conditions.proofs.Nesting.{special_at}
use Rattle.jp_conditions.proofs.Places.{sides_of, IsRooted, items_beside, sides_at, stands}
use Rattle.jp_conditions.proofs.SetForms as forms
use Rattle.jp_conditions.proofs.Sources.{special_sides}
use Rattle.jp_conditions.proofs.Spans.{has_span, spans_apart, apart_within, apart_turned}
use Rattle.jp_conditions.proofs.Stages.{Outside, Stage, narrowed}
use Rattle.jp_conditions.proofs.Standing.{Sides, whole}
use Rattle.jp_conditions.proofs.Steps.{inner_step, by_step}
use Rattle.jp_conditions.proofs.WithClasses.{IsNested, plan_still}

module _ {X Y : Type 0} (f : X → Y) (xs ys : List X) (y : Y) where
  mapped_left : In y (map f xs) → In y (map f (xs ++ ys))
  mapped_left h = let k = from_map f y xs h in subst (λ z. In z (map f (xs ++ ys))) k.2 (in_map f k.0 (xs ++ ys) (in_append_left k.0 xs ys k.1))

  mapped_right : In y (map f ys) → In y (map f (xs ++ ys))
  mapped_right h = let k = from_map f y ys h in subst (λ z. In z (map f (xs ++ ys))) k.2 (in_map f k.0 (xs ++ ys) (in_append_right k.0 xs ys k.1))

  mapped_either : In y (map f (xs ++ ys)) → In y (map f xs) ⊎ In y (map f ys)
  mapped_either h = let k = from_map f y (xs ++ ys) h in elim (from_append k.0 xs ys k.1) [
    | inl m ↦ inl (subst (λ z. In z (map f xs)) k.2 (in_map f k.0 xs m))
    | inr m ↦ inr (subst (λ z. In z (map f ys)) k.2 (in_map f k.0 ys m))
  ]

pub one_item : (first : ℕ) → only first ≡ span first 1
one_item first = same_set (only first) (span first 1) (λ i. (λ h. in_left (only first) (span (suc first) 0) i h, λ h. elim ((has_or (only first) 0 i).0 h) [ inl p ↦ p | inr p ↦ absurd (has_none i p) ]))

pub behind_none : (first m n : ℕ) → m ≡ 0 → span (first + m) n ≡ span first (m + n)
behind_none first m n e = let p : first + m ≡ first = omega (arith, e) in let q : n ≡ m + n = omega (arith, e) in ap₂ span p q

pub before_none : (first m n : ℕ) → n ≡ 0 → span first m ≡ span first (m + n)
before_none first m n e = let q : m ≡ m + n = omega (arith, e) in ap (span first) q

some_span : (first n : ℕ) → 1 ≤ n → forms.Some (span first n)
some_span first n low = (first, (has_span first n first).1 (omega arith, omega (arith, low)))

module _ (items : List Item) (block : Outline) (set : ℕ) (laid : Laid block set) (bound : (i : ℕ) → Has set i → i < length items) where
  abbrev pub StageAt : Shape → Place → Type 0
  StageAt shape at = Stage (map sides_of block.joins) (items_at at shape) (sides_at block.rels shape at)

  -- what the spine of a shape is: none where it has no items, else a legal tree of them
  pub data Walked (shape : Shape) (at : Place) : Type 0 where
    empty : length (items_in shape) ≡ 0 → spine_at shape at ≡ None → Walked shape at
    tree : (t : Tree) → 1 ≤ length (items_in shape) → spine_at shape at ≡ Some t → set_of t ≡ items_at at shape → IsNested t → IsLegalTree (problem_in items block) t → Walked shape at

  -- ---- two parts of a tree and the join over them

  module _ (left right : Shape) (at : Place) where
    parts_apart : Apart (items_at at left) (items_at (behind left at) right)
    parts_apart = spans_apart at.items (length (items_in left)) (length (items_in right))

    same : bit_or (items_at at left) (items_at (behind left at) right) ≡ span at.items (length (items_in left ++ items_in right))
    same = items_beside at.items left right

    left_within : IsRooted left → (u : Sides) → In u (sides_at block.rels left at) → Within (whole u) (items_at at left)
    left_within r u h = (stands block.rels left at r).within u h

    right_within : (here : Place) → here.items ≡ at.items + length (items_in left) → IsRooted right → (u : Sides) → In u (sides_at block.rels right here) → Within (whole u) (items_at here right)
    right_within here e r u h = (stands block.rels right here r).within u h

    -- the step over the two, once both are walked
    stepped_tree : (kind : Step) (shape : Shape) (here : Place) → items_in shape ≡ items_in left ++ items_in right → spine_at shape at ≡ stepped kind (spine_at left at) (spine_at right here) → items_at here right ≡ items_at (behind left at) right
        → (1 ≤ length (items_in left) → 1 ≤ length (items_in right) → IsLegalStep (problem_in items block) (items_at at left) (items_at (behind left at) right) kind) → Walked left at → Walked right here → Walked shape at
    stepped_tree kind shape here is spine where_right legal (Walked.empty none e) (Walked.empty gone f) = Walked.empty (ap length is ∙ length-append (items_in left) (items_in right) ∙ ap₂ ◌+◌ none gone) (spine ∙ ap₂ (stepped kind) e f)
    stepped_tree kind shape here is spine where_right legal (Walked.empty none e) (Walked.tree t some f all nest good) =
        Walked.tree t (subst (λ xs. 1 ≤ length xs) (sym is) (omega (arith, length-append (items_in left) (items_in right), some))) (spine ∙ ap₂ (stepped kind) e f)
        (all ∙ where_right ∙ behind_none at.items (length (items_in left)) (length (items_in right)) none ∙ ap (span at.items) (sym (length-append (items_in left) (items_in right))) ∙ ap (λ xs. span at.items (length xs)) (sym is)) nest good
    stepped_tree kind shape here is spine where_right legal (Walked.tree t some e all nest good) (Walked.empty gone f) =
        Walked.tree t (subst (λ xs. 1 ≤ length xs) (sym is) (omega (arith, length-append (items_in left) (items_in right), some))) (spine ∙ ap₂ (stepped kind) e f)
        (all ∙ before_none at.items (length (items_in left)) (length (items_in right)) gone ∙ ap (span at.items) (sym (length-append (items_in left) (items_in right))) ∙ ap (λ xs. span at.items (length xs)) (sym is)) nest good
    stepped_tree kind shape here is spine where_right legal (Walked.tree t some e all nest good) (Walked.tree u more f rest below fine) =
        Walked.tree (Join Nest kind t u) (subst (λ xs. 1 ≤ length xs) (sym is) (omega (arith, length-append (items_in left) (items_in right), some))) (spine ∙ ap₂ (stepped kind) e f)
        (ap₂ bit_or all (rest ∙ where_right) ∙ same ∙ ap (λ xs. span at.items (length xs)) (sym is))
        (refl, nest, below)
        (subst (λ n. IsLegalStep (problem_in items block) n (set_of u) kind) (sym all) (subst (λ n. IsLegalStep (problem_in items block) (items_at at left) n kind) (sym (rest ∙ where_right)) (legal some more)), tt, good, fine)

  -- ---- each shape

  -- two parts of a tree beside each other
  module _ (left right : Shape) (at : Place) (r : IsRooted left) (q : IsRooted right) (stage : StageAt (beside left right) at) where
    abbrev L : List Written
    L = joins_at block.rels left at

    abbrev R : List Written
    R = joins_at block.rels right (behind left at)

    left_stage : StageAt left at
    left_stage = narrowed (map sides_of block.joins) (items_at at (beside left right)) (sides_at block.rels (beside left right) at) (items_at at left) (sides_at block.rels left at) stage (left_items block.rels left right at) (mapped_left sides_of L R) (left_within left right at r)
        (λ u h. elim (mapped_either sides_of L R u h) [ inl m ↦ inl m | inr m ↦ inr (Outside.away (apart_within (items_at at left) (whole u) (items_at at left) (items_at (behind left at) right) (λ i p. p) (right_within left right at (behind left at) refl q u m) (parts_apart left right at))) ])

    right_stage : StageAt right (behind left at)
    right_stage = narrowed (map sides_of block.joins) (items_at at (beside left right)) (sides_at block.rels (beside left right) at) (items_at (behind left at) right) (sides_at block.rels right (behind left at)) stage (right_items block.rels left right at) (mapped_right sides_of L R) (right_within left right at (behind left at) refl q)
        (λ u h. elim (mapped_either sides_of L R u h) [ inr m ↦ inl m | inl m ↦ inr (Outside.away (apart_within (items_at (behind left at) right) (whole u) (items_at (behind left at) right) (items_at at left) (λ i p. p) (left_within left right at r u m) (apart_turned (items_at at left) (items_at (behind left at) right) (parts_apart left right at)))) ])

    inner : 1 ≤ length (items_in left) → 1 ≤ length (items_in right) → IsLegalStep (problem_in items block) (items_at at left) (items_at (behind left at) right) Inner
    inner some more = inner_step items block set laid (items_at at left) (items_at (behind left at) right) (items_at at (beside left right)) (sides_at block.rels left at) (sides_at block.rels right (behind left at)) (sides_at block.rels (beside left right) at) (same left right at) (parts_apart left right at)
        (some_span at.items (length (items_in left)) some) (some_span (at.items + length (items_in left)) (length (items_in right)) more) left_stage right_stage stage (mapped_either sides_of L R)

  -- a special join over two parts
  module _ (kind : JoinKind) (left right : Shape) (on : List Expr) (at : Place) (r : IsRooted left) (q : IsRooted right) (stage : StageAt (special kind left right on) at) where
    abbrev here : Place
    here = in_right_side left right at

    abbrev this : Written
    this = written block.rels kind left right on at

    abbrev sides : Sides
    sides = sides_of (written block.rels kind left right on at)

    abbrev l : List Written
    l = joins_at block.rels left at

    abbrev rs : List Written
    rs = joins_at block.rels right (in_right_side left right at)

    data Where (u : Sides) : Type 0 where
      of_left : In u (sides_at block.rels left at) → Where u
      of_right : In u (sides_at block.rels right (in_right_side left right at)) → Where u
      itself : sides_of (written block.rels kind left right on at) ≡ u → Where u

    find : (u : Sides) → In u (sides_at block.rels (special kind left right on) at) → Where u
    find u h = elim (mapped_either sides_of (l ++ rs) (this ∷ []) u h) [
      | inl k ↦ elim (mapped_either sides_of l rs u k) [ inl m ↦ of_left m | inr m ↦ of_right m ]
      | inr k ↦ elim k [ inl e ↦ itself e | inr gone ↦ absurd gone ]
    ]

    own : In (sides_of (written block.rels kind left right on at)) (sides_at block.rels (special kind left right on) at)
    own = mapped_right sides_of (l ++ rs) (this ∷ []) sides (inl refl)

    outside_left : (u : Sides) → Where u → In u (sides_at block.rels left at) ⊎ Outside (items_at at left) u
    outside_left u (of_left m) = inl m
    outside_left u (of_right m) = inr (Outside.away (apart_within (items_at at left) (whole u) (items_at at left) (items_at (behind left at) right) (λ i p. p) (right_within left right at here refl q u m) (parts_apart left right at)))
    outside_left u (itself e) = inr (subst (Outside (items_at at left)) e (Outside.in_its_left (λ i p. p)))

    outside_right : (u : Sides) → Where u → In u (sides_at block.rels right (in_right_side left right at)) ⊎ Outside (items_at (behind left at) right) u
    outside_right u (of_right m) = inl m
    outside_right u (of_left m) = inr (Outside.away (apart_within (items_at (behind left at) right) (whole u) (items_at (behind left at) right) (items_at at left) (λ i p. p) (left_within left right at r u m) (apart_turned (items_at at left) (items_at (behind left at) right) (parts_apart left right at))))
    outside_right u (itself e) = inr (subst (Outside (items_at (behind left at) right)) e (Outside.in_its_right (λ i p. p)))

    left_side : StageAt left at
    left_side = narrowed (map sides_of block.joins) (items_at at (special kind left right on)) (sides_at block.rels (special kind left right on) at) (items_at at left) (sides_at block.rels left at) stage (left_items block.rels left right at)
        (λ u h. mapped_left sides_of (l ++ rs) (this ∷ []) u (mapped_left sides_of l rs u h)) (left_within left right at r) (λ u h. outside_left u (find u h))

    right_side : StageAt right (in_right_side left right at)
    right_side = narrowed (map sides_of block.joins) (items_at at (special kind left right on)) (sides_at block.rels (special kind left right on) at) (items_at (behind left at) right) (sides_at block.rels right (in_right_side left right at)) stage (right_items block.rels left right at)
        (λ u h. mapped_left sides_of (l ++ rs) (this ∷ []) u (mapped_right sides_of l rs u h)) (right_within left right at here refl q) (λ u h. outside_right u (find u h))

    among : (w : Special) → special_sides w ≡ sides_of (written block.rels kind left right on at) → (u : Sides) → Where u → (In u (sides_at block.rels left at) ⊎ In u (sides_at block.rels right (in_right_side left right at))) ⊎ (special_sides w ≡ u)
    among w e u (of_left m) = inl (inl m)
    among w e u (of_right m) = inl (inr m)
    among w e u (itself f) = inr (e ∙ f)

    by_join : 1 ≤ length (items_in left) → 1 ≤ length (items_in right) → IsLegalStep (problem_in items block) (items_at at left) (items_at (behind left at) right) (By (number_of left right at))
    by_join some more =
        let found = special_at block set laid sides (stage.inside sides own) in
        let w = found.0 in
        let e = found.2 in
        by_step items block set laid (items_at at left) (items_at (behind left at) right) (items_at at (special kind left right on)) (sides_at block.rels left at) (sides_at block.rels right (in_right_side left right at)) (sides_at block.rels (special kind left right on) at) (same left right at) (parts_apart left right at)
        (some_span at.items (length (items_in left)) some) (some_span (at.items + length (items_in left)) (length (items_in right)) more) left_side right_side stage
        w found.1 (ap (λ (s : Sides). s.left) e) (ap (λ (s : Sides). s.right) e) (subst (λ s. In s (sides_at block.rels (special kind left right on) at)) (sym e) own) (λ u h. among w e u (find u h)) (number_of left right at) (ap (λ (s : Sides). s.no) e)

  again : (shape : Shape) (conds : List Expr) (at : Place) → Walked shape at → Walked (filtered shape conds) at
  again shape conds at (Walked.empty none e) = Walked.empty none e
  again shape conds at (Walked.tree t some e all nest good) = Walked.tree t some e all nest good

  pub walked : (shape : Shape) (at : Place) → IsRooted shape → Within (items_at at shape) set → StageAt shape at → Walked shape at
  walked nothing at r w stage = Walked.empty refl refl
  walked (item t) at r w stage = Walked.tree (Scan at.items) (omega arith) refl (one_item at.items) tt (bound at.items (w at.items ((has_span at.items 1 at.items).1 (omega arith, omega arith))))
  walked (filtered shape conds) at r w stage = again shape conds at (walked shape at r w stage)
  walked (beside left right) at r w stage =
      stepped_tree left right at Inner (beside left right) (behind left at) refl refl refl (inner left right at r.0 r.1 stage)
      (walked left at r.0 (λ i p. w i (left_items block.rels left right at i p)) (left_stage left right at r.0 r.1 stage)) (walked right (behind left at) r.1 (λ i p. w i (right_items block.rels left right at i p)) (right_stage left right at r.0 r.1 stage))
  walked (special kind left right on) at r w stage =
      stepped_tree left right at (By (number_of left right at)) (special kind left right on) (in_right_side left right at) refl refl refl (by_join kind left right on at r.2 r.3 stage)
      (walked left at r.2 (λ i p. w i (left_items block.rels left right at i p)) (left_side kind left right on at r.2 r.3 stage)) (walked right (in_right_side left right at) r.3 (λ i p. w i (right_items block.rels left right at i p)) (right_side kind left right on at r.2 r.3 stage))

-- ---- a block

module _ (query : Query) (items : List Item) (block : IsBlock query) (are : AreItemsOf query items) where
  as_many : length items ≡ length (outline_of query).rels
  as_many = sym (length-map items rels_of_item) ∙ ap length are

  bound : (i : ℕ) → Has (span 0 (length (outline_of query).rels)) i → i < length items
  bound i h = let k = (has_span 0 (length (outline_of query).rels) i).0 h in omega (arith, k.1, as_many)

  all_items : items_at top (block_shape query) ≡ span 0 (length (outline_of query).rels)
  all_items = ap (span 0) (same_length query block)

  whole_stage : StageAt items (outline_of query) (span 0 (length (outline_of query).rels)) (laid query block) bound (block_shape query) top
  whole_stage = record {
    inside = λ u h. h;
    within = λ u h. subst (Within (whole u)) (sym all_items) ((laid query block).standing.within u h);
    others = λ s h. inl h;
  }

  of_walked : Walked items (outline_of query) (span 0 (length (outline_of query).rels)) (laid query block) bound (block_shape query) top → (tree : Tree) × (spine query ≡ Some tree) × IsPlan (problem_of items query) tree × IsNested tree
  of_walked (Walked.empty none e) = let some = (rooted query block).some in absurd (omega (arith, none, some))
  of_walked (Walked.tree t some e all nest good) = (t, e, record { legal = good; whole = all ∙ all_items ∙ ap (span 0) (sym as_many) }, nest)

  pub spine_found : (tree : Tree) × (spine query ≡ Some tree) × IsPlan (problem_of items query) tree × IsNested tree
  spine_found = of_walked (walked items (outline_of query) (span 0 (length (outline_of query).rels)) (laid query block) bound (block_shape query) top (rooted query block).rooted (λ i h. subst (λ n. Has n i) all_items h) whole_stage)

  pub spine_is_plan : (tree : Tree) × (spine query ≡ Some tree) × IsPlan (problem_of items query) tree
  spine_is_plan = let found = spine_found in (found.0, found.1, found.2)

  pub spine_is_plan_with_classes : (tree : Tree) × (spine query ≡ Some tree) × IsPlan (derived (problem_of items query)) tree
  spine_is_plan_with_classes = let found = spine_found in (found.0, found.1, plan_still (problem_of items query) found.0 found.3 found.2)
