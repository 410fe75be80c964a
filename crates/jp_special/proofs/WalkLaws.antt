-- What a walk gives at each form of tree, and that its parts have room where the whole has.
use Rattle.std.proofs.Common.{◌≡◌, ◌∙◌, sym, ap, ap₂, refl, subst, ℕ, ◌+◌, ◌<◌, List, [], ◌∷◌, ◌++◌, map, length, length-append, take, drop, get_or, true, false, arith}
use Rattle.std.specs.Prelude.{fold}
use Rattle.std.proofs.lemmas.List.{take_more, take-append-drop}
use Rattle.jp_query.specs.declared.Expr.{Expr}
use Rattle.jp_query.specs.declared.JoinKind.{JoinKind}
use Rattle.jp_query.specs.declared.JoinKind.TheVariants as join
use Rattle.jp_query.specs.declared.JoinTree.{JoinTree}
use Rattle.jp_query.specs.declared.JoinTree.TheVariants as tree
use Rattle.jp_query.specs.declared.Query.{Query}
use Rattle.jp_problem.specs.declared.types.Place.{Place}
use Rattle.jp_problem.specs.declared.types.Written.{Written}
use Rattle.jp_problem.specs.Shapes.{Shape, nothing, beside, filtered, special, together, shape_of, items_in}
use Rattle.jp_problem.specs.Blocks.{behind, in_right_side, written}
use Rattle.jp_problem.proofs.ShapeLaws.{at_base, at_sub, at_join, at_from}
use Rattle.jp_special.specs.declared.walk.Walked.{Walked}
use Rattle.jp_special.specs.Walks.{is_full, is_inner, walk_of, walked_beside, walked_under, walked_with, HasRoom}
use Rattle.jp_special.proofs.KindLaws.{special_shape}

abbrev pub no_walk : Walked
no_walk = record { joins = []; clauses = [] }

module _ (rels : List ℕ) where
  pub walk_base : (rel : ℕ) (name : List ℕ) (table : ℕ) (at : Place) → walk_of rels (shape_of (tree.Base rel name table)) at ≡ no_walk
  walk_base rel name table at = ap (λ s. walk_of rels s at) (at_base rel name table)

  pub walk_sub : (rel : ℕ) (name : List ℕ) (query : Query) (at : Place) → walk_of rels (shape_of (tree.Sub rel name query)) at ≡ no_walk
  walk_sub rel name query at = ap (λ s. walk_of rels s at) (at_sub rel name query)

  pub walk_full : (kind : JoinKind) (left right : JoinTree) (on : List Expr) (at : Place) → is_full kind ≡ true → walk_of rels (shape_of (tree.Join kind left right on)) at ≡ no_walk
  walk_full join.Full left right on at e = ap (λ s. walk_of rels s at) (at_join join.Full left right on)
  walk_full join.Inner left right on at e = cc
  walk_full join.Left left right on at e = cc
  walk_full join.Right left right on at e = cc
  walk_full join.Semi left right on at e = cc
  walk_full join.Anti left right on at e = cc

  pub walk_inner : (kind : JoinKind) (left right : JoinTree) (on : List Expr) (at : Place) → is_inner kind ≡ true → walk_of rels (shape_of (tree.Join kind left right on)) at ≡ walked_under rels at.region on (walked_beside (walk_of rels (shape_of left) at) (walk_of rels (shape_of right) (behind (shape_of left) at)))
  walk_inner join.Inner left right on at e = ap (λ s. walk_of rels s at) (at_join join.Inner left right on)
  walk_inner join.Full left right on at e = cc
  walk_inner join.Left left right on at e = cc
  walk_inner join.Right left right on at e = cc
  walk_inner join.Semi left right on at e = cc
  walk_inner join.Anti left right on at e = cc

  pub walk_special : (kind : JoinKind) (left right : JoinTree) (on : List Expr) (at : Place) → is_full kind ≡ false → is_inner kind ≡ false → walk_of rels (shape_of (tree.Join kind left right on)) at ≡ walked_with rels on (written rels kind (shape_of left) (shape_of right) on at) (walked_beside (walk_of rels (shape_of left) at) (walk_of rels (shape_of right) (in_right_side (shape_of left) (shape_of right) at)))
  walk_special kind left right on at e f = ap (λ s. walk_of rels s at) (special_shape kind left right on e f)

  pub walk_from : (members : List JoinTree) (conds : List Expr) (at : Place) → walk_of rels (shape_of (tree.From members conds)) at ≡ walked_under rels at.region conds (walk_of rels (together (map shape_of members)) at)
  walk_from members conds at = ap (λ s. walk_of rels s at) (at_from members conds)

-- ---- room

room_same : (at : Place) (s t : Shape) → s ≡ t → HasRoom at s → HasRoom at t
room_same at s t e h = subst (HasRoom at) e h

room_beside_left : (at : Place) (l r : Shape) → HasRoom at (beside l r) → HasRoom at l
room_beside_left at l r h =
    let n = length-append (items_in l) (items_in r) in
    let i = h.items in
    let j = h.joins in
    record { items = omega (arith, n, i); joins = omega (arith, j) }

room_beside_right : (at : Place) (l r : Shape) → HasRoom at (beside l r) → HasRoom (behind l at) r
room_beside_right at l r h =
    let n = length-append (items_in l) (items_in r) in
    let i = h.items in
    let j = h.joins in
    record { items = omega (arith, n, i); joins = omega (arith, j) }

room_special_left : (at : Place) (kind : JoinKind) (l r : Shape) (on : List Expr) → HasRoom at (special kind l r on) → HasRoom at l
room_special_left at kind l r on h =
    let n = length-append (items_in l) (items_in r) in
    let i = h.items in
    let j = h.joins in
    record { items = omega (arith, n, i); joins = omega (arith, j) }

room_special_right : (at : Place) (kind : JoinKind) (l r : Shape) (on : List Expr) → HasRoom at (special kind l r on) → HasRoom (in_right_side l r at) r
room_special_right at kind l r on h =
    let n = length-append (items_in l) (items_in r) in
    let i = h.items in
    let j = h.joins in
    record { items = omega (arith, n, i); joins = omega (arith, j) }

inner_shape : (kind : JoinKind) (left right : JoinTree) (on : List Expr) → is_inner kind ≡ true → shape_of (tree.Join kind left right on) ≡ filtered (beside (shape_of left) (shape_of right)) on
inner_shape join.Inner left right on e = at_join join.Inner left right on
inner_shape join.Full left right on e = cc
inner_shape join.Left left right on e = cc
inner_shape join.Right left right on e = cc
inner_shape join.Semi left right on e = cc
inner_shape join.Anti left right on e = cc

room_filtered : (at : Place) (s : Shape) (conds : List Expr) → HasRoom at (filtered s conds) → HasRoom at s
room_filtered at s conds h = record { items = h.items; joins = h.joins }

module _ (at : Place) (kind : JoinKind) (left right : JoinTree) (on : List Expr) (room : HasRoom at (shape_of (tree.Join kind left right on))) where
  pub inner_left : is_inner kind ≡ true → HasRoom at (shape_of left)
  inner_left e = room_beside_left at (shape_of left) (shape_of right) (room_filtered at (beside (shape_of left) (shape_of right)) on (subst (HasRoom at) (inner_shape kind left right on e) room))

  pub inner_right : is_inner kind ≡ true → HasRoom (behind (shape_of left) at) (shape_of right)
  inner_right e = room_beside_right at (shape_of left) (shape_of right) (room_filtered at (beside (shape_of left) (shape_of right)) on (subst (HasRoom at) (inner_shape kind left right on e) room))

  pub whole_special : is_full kind ≡ false → is_inner kind ≡ false → HasRoom at (special kind (shape_of left) (shape_of right) on)
  whole_special e f = subst (HasRoom at) (special_shape kind left right on e f) room

  pub special_left : is_full kind ≡ false → is_inner kind ≡ false → HasRoom at (shape_of left)
  special_left e f = room_special_left at kind (shape_of left) (shape_of right) on (whole_special e f)

  pub special_right : is_full kind ≡ false → is_inner kind ≡ false → HasRoom (in_right_side (shape_of left) (shape_of right) at) (shape_of right)
  special_right e f = room_special_right at kind (shape_of left) (shape_of right) on (whole_special e f)

pub from_members : (at : Place) (members : List JoinTree) (conds : List Expr) → HasRoom at (shape_of (tree.From members conds)) → HasRoom at (together (map shape_of members))
from_members at members conds room = room_filtered at (together (map shape_of members)) conds (subst (HasRoom at) (at_from members conds) room)

-- ---- the members of a FROM list

together_last : (start : Shape) (xs : List JoinTree) (x : JoinTree) → fold beside start (map shape_of (xs ++ x ∷ [])) ≡ beside (fold beside start (map shape_of xs)) (shape_of x)
together_last start [] x = refl
together_last start (y ∷ xs) x = together_last (beside start (shape_of y)) xs x

-- the first members, of which there are so many
abbrev pub first_members : List JoinTree → ℕ → Shape
first_members members i = together (map shape_of (take i members))

pub one_member_more : (members : List JoinTree) (i : ℕ) (d : JoinTree) → i < length members → first_members members (i + 1) ≡ beside (first_members members i) (shape_of (get_or members i d))
one_member_more members i d low = ap (λ xs. together (map shape_of xs)) (take_more members i d low) ∙ together_last nothing (take i members) (get_or members i d)

-- what is added keeps what was there
room_grows : (at : Place) (start : Shape) (more : List JoinTree) → HasRoom at (fold beside start (map shape_of more)) → HasRoom at start
room_grows at start [] h = h
room_grows at start (x ∷ more) h = room_beside_left at start (shape_of x) (room_grows at (beside start (shape_of x)) more h)

fold_append : (start : Shape) (xs ys : List JoinTree) → fold beside start (map shape_of (xs ++ ys)) ≡ fold beside (fold beside start (map shape_of xs)) (map shape_of ys)
fold_append start [] ys = refl
fold_append start (x ∷ xs) ys = fold_append (beside start (shape_of x)) xs ys

pub room_member : (at : Place) (members : List JoinTree) (i : ℕ) (d : JoinTree) → i < length members → HasRoom at (together (map shape_of members)) → HasRoom (behind (first_members members i) at) (shape_of (get_or members i d))
room_member at members i d low room =
    let whole : HasRoom at (fold beside (first_members members (i + 1)) (map shape_of (drop (i + 1) members))) =
    subst (HasRoom at) (ap (λ xs. together (map shape_of xs)) (sym (take-append-drop (i + 1) members)) ∙ fold_append nothing (take (i + 1) members) (drop (i + 1) members)) room
    in
    let prefix : HasRoom at (first_members members (i + 1)) = room_grows at (first_members members (i + 1)) (drop (i + 1) members) whole in
    room_beside_right at (first_members members i) (shape_of (get_or members i d)) (subst (HasRoom at) (one_member_more members i d low) prefix)

pub behind_more : (at : Place) (left right : Shape) → behind (beside left right) at ≡ behind right (behind left at)
behind_more at left right = ap₂ (λ i j. record { items = i; joins = j; region = at.region }) (omega (arith, length-append (items_in left) (items_in right))) (omega arith)

-- ---- the same for trees that are equal to those named

module _ (at : Place) (t : JoinTree) (kind : JoinKind) (left right : JoinTree) (on : List Expr) (is : t ≡ tree.Join kind left right on) (room : HasRoom at (shape_of t)) where
  whole_room : HasRoom at (shape_of (tree.Join kind left right on))
  whole_room = subst (λ u. HasRoom at (shape_of u)) is room

  pub inner_left_of : true ≡ is_inner kind → (l : JoinTree) → l ≡ left → HasRoom at (shape_of l)
  inner_left_of e l same = subst (λ u. HasRoom at (shape_of u)) (sym same) (inner_left at kind left right on whole_room (sym e))

  pub inner_right_of : true ≡ is_inner kind → (r l : JoinTree) (there : Place) → r ≡ right → l ≡ left → there ≡ behind (shape_of l) at → HasRoom there (shape_of r)
  inner_right_of e r l there same_r same_l place = subst (λ p. HasRoom p (shape_of r)) (sym (place ∙ ap (λ u. behind (shape_of u) at) same_l)) (subst (λ u. HasRoom (behind (shape_of left) at) (shape_of u)) (sym same_r) (inner_right at kind left right on whole_room (sym e)))

  pub special_whole_of : false ≡ is_full kind → false ≡ is_inner kind → (l r : JoinTree) (list : List Expr) → l ≡ left → r ≡ right → list ≡ on → HasRoom at (special kind (shape_of l) (shape_of r) list)
  special_whole_of e f l r list same_l same_r same_on =
      subst (HasRoom at) (ap₂ (λ a b. special kind (shape_of a) (shape_of b) on) (sym same_l) (sym same_r) ∙ ap (special kind (shape_of l) (shape_of r)) (sym same_on)) (whole_special at kind left right on whole_room (sym e) (sym f))

  pub special_left_of : false ≡ is_full kind → false ≡ is_inner kind → (l : JoinTree) → l ≡ left → HasRoom at (shape_of l)
  special_left_of e f l same = subst (λ u. HasRoom at (shape_of u)) (sym same) (special_left at kind left right on whole_room (sym e) (sym f))

  pub special_right_of : false ≡ is_full kind → false ≡ is_inner kind → (l r r' : JoinTree) (there : Place) → l ≡ left → r ≡ right → r' ≡ right → there ≡ in_right_side (shape_of l) (shape_of r) at → HasRoom there (shape_of r')
  special_right_of e f l r r' there same_l same_r same_r' place =
      subst (λ p. HasRoom p (shape_of r')) (sym (place ∙ ap₂ (λ a b. in_right_side (shape_of a) (shape_of b) at) same_l same_r)) (subst (λ u. HasRoom (in_right_side (shape_of left) (shape_of right) at) (shape_of u)) (sym same_r') (special_right at kind left right on whole_room (sym e) (sym f)))

-- ---- the results

module _ (rels : List ℕ) (at : Place) (t : JoinTree) (kind : JoinKind) (left right : JoinTree) (on : List Expr) (is : t ≡ tree.Join kind left right on) where
  tree_is : walk_of rels (shape_of t) at ≡ walk_of rels (shape_of (tree.Join kind left right on)) at
  tree_is = ap (λ u. walk_of rels (shape_of u) at) is

  pub full_gives : true ≡ is_full kind → (all : Walked) → all ≡ no_walk → all ≡ walk_of rels (shape_of t) at
  full_gives e all none = none ∙ sym (tree_is ∙ walk_full rels kind left right on at (sym e))

  pub inner_gives : true ≡ is_inner kind → (l l' r : JoinTree) (list : List Expr) (there : Place) (first second both all : Walked) → l ≡ left → l' ≡ left → r ≡ right → list ≡ on → there ≡ behind (shape_of l') at → first ≡ walk_of rels (shape_of l) at → second ≡ walk_of rels (shape_of r) there → both ≡ walked_beside first second → all ≡ walked_under rels at.region list both → all ≡ walk_of rels (shape_of t) at
  inner_gives e l l' r list there first second both all same_l same_l' same_r same_on place one two together_is whole =
      whole
      ∙ ap₂ (walked_under rels at.region) same_on (together_is ∙ ap₂ walked_beside (one ∙ ap (λ u. walk_of rels (shape_of u) at) same_l) (two ∙ ap₂ (λ u p. walk_of rels (shape_of u) p) same_r (place ∙ ap (λ u. behind (shape_of u) at) same_l')))
      ∙ sym (tree_is ∙ walk_inner rels kind left right on at (sym e))

  pub special_gives : false ≡ is_full kind → false ≡ is_inner kind → (l l' l'' r r' r'' : JoinTree) (list list' : List Expr) (there : Place) (own : Written) (first second both all : Walked) → l ≡ left → l' ≡ left → l'' ≡ left → r ≡ right → r' ≡ right → r'' ≡ right → list ≡ on → list' ≡ on → there ≡ in_right_side (shape_of l') (shape_of r') at → first ≡ walk_of rels (shape_of l) at → second ≡ walk_of rels (shape_of r) there → both ≡ walked_beside first second → own ≡ written rels kind (shape_of l'') (shape_of r'') list at → all ≡ walked_with rels list' own both → all ≡ walk_of rels (shape_of t) at
  special_gives e f l l' l'' r r' r'' list list' there own first second both all same_l same_l' same_l'' same_r same_r' same_r'' same_on same_on' place one two together_is own_is whole =
      whole
      ∙ ap₂ (λ ms b. walked_with rels ms own b) same_on' (together_is ∙ ap₂ walked_beside (one ∙ ap (λ u. walk_of rels (shape_of u) at) same_l) (two ∙ ap₂ (λ u p. walk_of rels (shape_of u) p) same_r (place ∙ ap₂ (λ u v. in_right_side (shape_of u) (shape_of v) at) same_l' same_r')))
      ∙ ap (λ w. walked_with rels on w (walked_beside (walk_of rels (shape_of left) at) (walk_of rels (shape_of right) (in_right_side (shape_of left) (shape_of right) at)))) (own_is ∙ ap₂ (λ u v. written rels kind (shape_of u) (shape_of v) list at) same_l'' same_r'' ∙ ap (λ ms. written rels kind (shape_of left) (shape_of right) ms at) same_on)
      ∙ sym (tree_is ∙ walk_special rels kind left right on at (sym e) (sym f))

module _ (rels : List ℕ) (at : Place) (t : JoinTree) where
  pub base_gives : (rel : ℕ) (name : List ℕ) (table : ℕ) → t ≡ tree.Base rel name table → (all : Walked) → all ≡ no_walk → all ≡ walk_of rels (shape_of t) at
  base_gives rel name table is all none = none ∙ sym (ap (λ u. walk_of rels (shape_of u) at) is ∙ walk_base rels rel name table at)

  pub sub_gives : (rel : ℕ) (name : List ℕ) (query : Query) → t ≡ tree.Sub rel name query → (all : Walked) → all ≡ no_walk → all ≡ walk_of rels (shape_of t) at
  sub_gives rel name query is all none = none ∙ sym (ap (λ u. walk_of rels (shape_of u) at) is ∙ walk_sub rels rel name query at)

  pub from_gives : (members : List JoinTree) (conds : List Expr) → t ≡ tree.From members conds → (list : List JoinTree) (on : List Expr) (inner all : Walked) → list ≡ members → on ≡ conds → inner ≡ walk_of rels (together (map shape_of list)) at → all ≡ walked_under rels at.region on inner → all ≡ walk_of rels (shape_of t) at
  from_gives members conds is list on inner all same same_on one whole =
      whole ∙ ap₂ (walked_under rels at.region) same_on (one ∙ ap (λ ms. walk_of rels (together (map shape_of ms)) at) same) ∙ sym (ap (λ u. walk_of rels (shape_of u) at) is ∙ walk_from rels members conds at)

  pub from_room : (members : List JoinTree) (conds : List Expr) → t ≡ tree.From members conds → HasRoom at (shape_of t) → (list : List JoinTree) → list ≡ members → HasRoom at (together (map shape_of list))
  from_room members conds is room list same = subst (λ ms. HasRoom at (together (map shape_of ms))) (sym same) (from_members at members conds (subst (λ u. HasRoom at (shape_of u)) is room))

-- ---- one member more

pub room_member_of : (at : Place) (members : List JoinTree) (i : ℕ) (member : JoinTree) (there : Place) → i < length members → member ≡ get_or members i member → there ≡ behind (first_members members i) at → HasRoom at (together (map shape_of members)) → HasRoom there (shape_of member)
room_member_of at members i member there low is place room = subst (λ u. HasRoom there (shape_of u)) (sym is) (subst (λ p. HasRoom p (shape_of (get_or members i member))) (sym place) (room_member at members i member low room))

pub behind_member : (at : Place) (members : List JoinTree) (i : ℕ) (member : JoinTree) (there after : Place) → i < length members → member ≡ get_or members i member → there ≡ behind (first_members members i) at → after ≡ behind (shape_of member) there → after ≡ behind (first_members members (i + 1)) at
behind_member at members i member there after low is place more =
    more ∙ ap₂ (λ u p. behind (shape_of u) p) is place ∙ sym (behind_more at (first_members members i) (shape_of (get_or members i member))) ∙ sym (ap (λ s. behind s at) (one_member_more members i member low))

pub walked_member : (rels : List ℕ) (at : Place) (members : List JoinTree) (i : ℕ) (member : JoinTree) (there : Place) (walked more after : Walked) → i < length members → member ≡ get_or members i member → there ≡ behind (first_members members i) at → walked ≡ walk_of rels (first_members members i) at → more ≡ walk_of rels (shape_of member) there → after ≡ walked_beside walked more → after ≡ walk_of rels (first_members members (i + 1)) at
walked_member rels at members i member there walked more after low is place before one all =
    all ∙ ap₂ walked_beside before (one ∙ ap₂ (λ u p. walk_of rels (shape_of u) p) is place) ∙ sym (ap (λ s. walk_of rels s at) (one_member_more members i member low))
