-- The operators of a tree, done one after the other.
use Rattle.std.proofs.Common.{◌≡◌, ◌∙◌, ap, ap₂, sym, subst, refl, ℕ, ◌+◌, ◌<◌, List, [], ◌∷◌, ◌++◌, length, drop, get_or, append_assoc}
use Rattle.std.specs.Prelude.{bit_or}
use Rattle.std.proofs.lemmas.List.{at_drop_more}
use Rattle.jp_query.specs.Refs.{only}
use Rattle.jp_problem.specs.declared.types.Method.{Method}
use Rattle.jp_problem.specs.declared.types.Problem.{Problem}
use Rattle.jp_problem.specs.declared.types.Step.{Step}
use Rattle.jp_problem.specs.Trees.{Tree, IsLegalTree, set_of}
use Rattle.jp_problem.specs.Trees as tree
use Rattle.jp_lists.specs.Steps.{Run, tree_list}
use Rattle.jp_joins.specs.Tuples.{maps_of}
use Rattle.jp_induction.proofs.EachPart.{Each}
use Rattle.jp_plans.specs.Operators.{AreParts, CanDo, IsPart, IsUnderWay, Makes, done, operators_of}
use Rattle.jp_plans.specs.declared.operators.Operator.{Operator}
use Rattle.jp_plans.specs.declared.operators.Operator.TheVariants as operator
use Rattle.jp_plans.specs.declared.steps.Part.{Part}

-- ---- lists

pub three_pushed : {X : Type 0} (start one two three : List X) (a b c : List X) → one ≡ start ++ a → two ≡ one ++ b → three ≡ two ++ c → three ≡ start ++ (a ++ (b ++ c))
three_pushed start one two three a b c p q r =
    r ∙ ap (λ xs. xs ++ c) (q ∙ ap (λ xs. xs ++ b) p ∙ append_assoc start a b) ∙ append_assoc start (a ++ b) c ∙ ap (λ xs. start ++ xs) (append_assoc a b c)

pub pushed_as : (start now a b : List Operator) → now ≡ start ++ a → a ≡ b → now ≡ start ++ b
pushed_as start now a b pushed same = pushed ∙ ap (λ os. start ++ os) same

pub pushed_first : (none now lent a : List Operator) → lent ≡ now → now ≡ none ++ a → none ≡ [] → lent ≡ a
pushed_first none now lent a is pushed empty = is ∙ pushed ∙ ap (λ os. os ++ a) empty

none_pushed : {X : Type 0} (ys : List X) (y : X) → [] ≡ ys ++ y ∷ [] → ⊥
none_pushed [] y e = cc
none_pushed (z ∷ ys) y e = cc

one_pushed : {X : Type 0} (xs ys : List X) (x y : X) → xs ++ x ∷ [] ≡ ys ++ y ∷ [] → (xs ≡ ys) × (x ≡ y)
one_pushed [] [] x y e = (refl, cc)
one_pushed [] (b ∷ ys) x y e =
    let rest : [] ≡ ys ++ y ∷ [] = cc in
    absurd (none_pushed ys y rest)
one_pushed (a ∷ xs) [] x y e =
    let rest : [] ≡ xs ++ x ∷ [] = cc in
    absurd (none_pushed xs x rest)
one_pushed (a ∷ xs) (b ∷ ys) x y e =
    let first : a ≡ b = cc in
    let rest : xs ++ x ∷ [] ≡ ys ++ y ∷ [] = cc in
    let same = one_pushed xs ys x y rest in
    (ap₂ (λ c cs. c ∷ cs) first same.0, same.1)

-- ---- what operators make

all_made : (t whole : Tree) (more : List Operator) (trees : List Tree) → Makes more (t ∷ trees) whole → Makes (operators_of t ++ more) trees whole
all_made (tree.Scan item) whole more trees h = h
all_made (tree.Join how kind left right) whole more trees h =
    subst (λ os. Makes os trees whole) (sym (append_assoc (operators_of left) (operators_of right ++ operator.Join how kind ∷ []) more ∙ ap (λ os. operators_of left ++ os) (append_assoc (operators_of right) (operator.Join how kind ∷ []) more)))
    (all_made left whole (operators_of right ++ operator.Join how kind ∷ more) trees (all_made right whole (operator.Join how kind ∷ more) (left ∷ trees) h))

append_none : {X : Type 0} (xs : List X) → xs ++ [] ≡ xs
append_none [] = refl
append_none (x ∷ xs) = ap (λ ys. x ∷ ys) (append_none xs)

makes_itself : (t : Tree) → Makes (operators_of t) [] t
makes_itself t = subst (λ os. Makes os [] t) (append_none (operators_of t)) (all_made t t [] [] refl)

module _ (problem : Problem) (whole : Tree) (legal : IsLegalTree problem whole) where
  all_legal : (operators : List Operator) (trees : List Tree) → Makes operators trees whole → Each (IsLegalTree problem) trees
  all_legal [] trees h = subst (Each (IsLegalTree problem)) (sym h) (legal, tt)
  all_legal (operator.Scan item ∷ operators) trees h = (all_legal operators (tree.Scan item ∷ trees) h).1
  all_legal (operator.Join how kind ∷ operators) (right ∷ left ∷ trees) h =
      let after = all_legal operators (tree.Join how kind left right ∷ trees) h in
      (after.0.3, (after.0.2, after.1))
  all_legal (operator.Join how kind ∷ operators) (right ∷ []) h = absurd h
  all_legal (operator.Join how kind ∷ operators) [] h = absurd h

  module _ (run : Run) where
    can_do : (o : Operator) (operators : List Operator) (trees : List Tree) (parts : List Part) → AreParts run problem trees parts → Makes (o ∷ operators) trees whole → CanDo run problem o parts
    can_do (operator.Scan item) operators trees parts are h = (all_legal operators (tree.Scan item ∷ trees) h).0
    can_do (operator.Join how kind) operators (right ∷ left ∷ trees) parts are h = record { left = left; right = right; others = trees; are = are; legal = (all_legal operators (tree.Join how kind left right ∷ trees) h).0 }
    can_do (operator.Join how kind) operators (right ∷ []) parts are h = absurd h
    can_do (operator.Join how kind) operators [] parts are h = absurd h

    pub next_can : (operators : List Operator) (k : ℕ) (d : Operator) (parts : List Part) → k < length operators → IsUnderWay run problem whole (drop k operators) parts → CanDo run problem (get_or operators k d) parts
    next_can operators k d parts low way = can_do (get_or operators k d) (drop (k + 1) operators) way.trees parts way.are (subst (λ os. Makes os way.trees whole) (at_drop_more (λ os. os) operators k d low) way.makes)

makes_more : (whole : Tree) (o : Operator) (operators : List Operator) (trees : List Tree) → Makes (o ∷ operators) trees whole → Makes operators (done o trees) whole
makes_more whole (operator.Scan item) operators trees h = h
makes_more whole (operator.Join how kind) operators (right ∷ left ∷ trees) h = h
makes_more whole (operator.Join how kind) operators (right ∷ []) h = absurd h
makes_more whole (operator.Join how kind) operators [] h = absurd h

module _ (run : Run) (problem : Problem) where
  pub begins : (t : Tree) (operators : List Operator) (parts : List Part) → operators ≡ operators_of t → parts ≡ [] → IsUnderWay run problem t operators parts
  begins t operators parts are none = record { trees = []; are = none; makes = subst (λ os. Makes os [] t) (sym are) (makes_itself t) }

  pub next_way : (whole : Tree) (operators : List Operator) (k : ℕ) (d : Operator) (old new : List Part) → k < length operators → IsUnderWay run problem whole (drop k operators) old
      → ((trees : List Tree) → AreParts run problem trees old → AreParts run problem (done (get_or operators k d) trees) new) → IsUnderWay run problem whole (drop (k + 1) operators) new
  next_way whole operators k d old new low way does = record {
    trees = done (get_or operators k d) way.trees;
    are = does way.trees way.are;
    makes = makes_more whole (get_or operators k d) (drop (k + 1) operators) way.trees (subst (λ os. Makes os way.trees whole) (at_drop_more (λ os. os) operators k d low) way.makes);
  }

  -- at the end there is the one part
  pub ends : (whole : Tree) (operators : List Operator) (parts before : List Part) (part : Part) → operators ≡ [] → IsUnderWay run problem whole operators parts → parts ≡ before ++ part ∷ [] → IsPart run problem whole part
  ends whole operators parts before part over way pushed =
      let made : way.trees ≡ whole ∷ [] = subst (λ os. Makes os way.trees whole) over way.makes in
      let are : AreParts run problem (whole ∷ []) parts = subst (λ ts. AreParts run problem ts parts) made way.are in
      subst (IsPart run problem whole) (sym (one_pushed before are.0 part are.1 (sym pushed ∙ are.2)).1) are.3

  pub ends_with_one : (whole : Tree) (operators : List Operator) (parts : List Part) → operators ≡ [] → IsUnderWay run problem whole operators parts → parts ≡ [] → ⊥
  ends_with_one whole operators parts over way none =
      let made : way.trees ≡ whole ∷ [] = subst (λ os. Makes os way.trees whole) over way.makes in
      let are : AreParts run problem (whole ∷ []) parts = subst (λ ts. AreParts run problem ts parts) made way.are in
      none_pushed are.0 are.1 (sym none ∙ are.2)

  -- ---- one operator

  pub scan_done : (item : ℕ) (trees : List Tree) (old new : List Part) (part : Part) → new ≡ old ++ part ∷ [] → part.set ≡ only item → maps_of part.tuples.items ≡ tree_list run problem (tree.Scan item)
      → AreParts run problem trees old → AreParts run problem (done (operator.Scan item) trees) new
  scan_done item trees old new part pushed set list are = (old, part, pushed, record { set = set; list = list }, are)

  module _ (how : Method) (kind : Step) (old middle first : List Part) (left right : Part) (one : old ≡ middle ++ right ∷ []) (two : middle ≡ first ++ left ∷ []) where
    pub sides_are : (l r : Tree) (trees : List Tree) → AreParts run problem (r ∷ l ∷ trees) old → IsPart run problem l left × IsPart run problem r right × AreParts run problem trees first
    sides_are l r trees are =
        let upper = one_pushed middle are.0 right are.1 (sym one ∙ are.2) in
        let below = are.4 in
        let lower = one_pushed first below.0 left below.1 (sym two ∙ upper.0 ∙ below.2) in
        (subst (IsPart run problem l) (sym lower.1) below.3, subst (IsPart run problem r) (sym upper.1) are.3, subst (AreParts run problem trees) (sym lower.0) below.4)

    pub join_done : (new : List Part) (part : Part) → new ≡ first ++ part ∷ [] → part.set ≡ bit_or left.set right.set
        → ((l r : Tree) → IsPart run problem l left → IsPart run problem r right → maps_of part.tuples.items ≡ tree_list run problem (tree.Join how kind l r))
        → (trees : List Tree) → AreParts run problem trees old → AreParts run problem (done (operator.Join how kind) trees) new
    join_done new part pushed set list (r ∷ l ∷ trees) are =
        let sides = sides_are l r trees are in
        (first, part, pushed, record { set = set ∙ ap₂ bit_or sides.0.set sides.1.set; list = list l r sides.0 sides.1 }, sides.2)
    join_done new part pushed set list (r ∷ []) are =
        let upper = one_pushed middle are.0 right are.1 (sym one ∙ are.2) in
        absurd (none_pushed first left (sym (upper.0 ∙ are.4) ∙ two))
    join_done new part pushed set list [] are = absurd (none_pushed middle right (sym are ∙ one))
