-- Leaves that are told apart in a query are told apart when it is folded.
use Rattle.std.proofs.Common.{◌≡◌, ◌∙◌, ap, sym, subst, refl, ℕ, inl, inr, Bool, true, false, not, ◌&&◌, ◌||◌, ◌==◌, List, [], ◌∷◌, ◌++◌, map, fold, append_assoc}
use Rattle.std.specs.Prelude.{if◌then◌else◌}
use Rattle.std.specs.List.{list_all, list_any}
use Rattle.std.proofs.lemmas.List.{append-nil}
use Rattle.std.proofs.lemmas.Bool.{eq-eqb}
use Rattle.std.proofs.lemmas.Bool.Decides.{eqb_tells}
use Rattle.jp_base.specs.declared.values.Ty.{Ty}
use Rattle.jp_base.specs.declared.values.Value.{Value}
use Rattle.jp_base.specs.declared.values.Value.TheVariants as value
use Rattle.jp_query.specs.declared.JoinKind.{JoinKind}
use Rattle.jp_query.specs.declared.JoinKind.TheVariants as join
use Rattle.jp_query.specs.declared.Expr.{Expr, out-Expr}
use Rattle.jp_query.specs.declared.JoinTree.{JoinTree}
use Rattle.jp_query.specs.declared.Order.{Order}
use Rattle.jp_query.specs.declared.Output.{Output}
use Rattle.jp_query.specs.declared.Query.{Query}
use Rattle.jp_query.specs.declared.Expr.TheOpen.{Expr-F, JoinTree-F}
use Rattle.jp_query.specs.declared.Expr.TheViews.{roll-Expr, roll-JoinTree, roll-Order, roll-Output, roll-Query, roll-out-Expr}
use Rattle.jp_query.specs.declared.Expr.TheFolds.{fold-Expr, fold-JoinTree, fold-Order, fold-Output, map-Expr, map-JoinTree, fold-roll-Expr, fold-roll-JoinTree, fold-roll-Order, fold-roll-Output, fold-roll-Query}
use Rattle.jp_query.specs.Conditions.{Leaf, Leaves, no_leaves, beside, together, shares, leaf_is_apart, are_apart, leaf_inside, leaves_inside, expr_leaves, tree_leaves, order_leaves, output_leaves, query_leaves, judged_leaves, leaf}
use Rattle.jp_query.specs.Layers.{ExprLayer, JoinTreeLayer, QueryLayer}
use Rattle.jp_query.specs.Parts.{all_in, option_part, parts, sublink_query, trees, conditions, leaf_query}
use Rattle.jp_facts.proofs.Members.{any_in, from_any}
use Rattle.jp_induction.proofs.Induction as induction
use Rattle.jp_laws.proofs.EachPart.{Each, append_map, parts_map}
use Rattle.jp_laws.proofs.ValueLaws.{and_left, and_right}
use Rattle.jp_folding.specs.Folding as fold
use Rattle.jp_folding.proofs.TypeLaws.{folded_order, folded_output, expr_parts_folded, tree_parts_folded, query_parts_folded}
use Rattle.jp_folded.proofs.Lists.{both}
use Rattle.jp_folded.proofs.IntoLaws.{Into, into_append, into_crossed, member_of, all_in_list, all_from_list}

-- ---- lists that are apart

shuffled : (a b c ab ac bc : Bool) → ((a && (b && ab)) && (c && (ac && bc))) ≡ (a && ((b && (c && bc)) && (ab && ac)))
shuffled false b c ab ac bc = refl
shuffled true false c ab ac bc = refl
shuffled true true false false ac bc = refl
shuffled true true false true ac bc = refl
shuffled true true true false ac false = refl
shuffled true true true false ac true = refl
shuffled true true true true false false = refl
shuffled true true true true false true = refl
shuffled true true true true true false = refl
shuffled true true true true true true = refl

and_assoc : (a b c : Bool) → ((a && b) && c) ≡ (a && (b && c))
and_assoc true b c = refl
and_assoc false b c = refl

and_true : (b : Bool) → (b && true) ≡ b
and_true true = refl
and_true false = refl

swapped : (a b c d : Bool) → ((a && b) && (c && d)) ≡ ((a && c) && (b && d))
swapped false b c d = refl
swapped true false false d = refl
swapped true false true d = refl
swapped true true c d = refl

module _ {X : Type 0} (f : X → Bool) where
  all_append : (xs ys : List X) → list_all f (xs ++ ys) ≡ (list_all f xs && list_all f ys)
  all_append [] ys = refl
  all_append (x ∷ xs) ys = ap (λ b. f x && b) (all_append xs ys) ∙ sym (and_assoc (f x) (list_all f xs) (list_all f ys))

apart_left : (a b c : List Leaf) → are_apart (a ++ b) c ≡ (are_apart a c && are_apart b c)
apart_left a b c = all_append (λ x. list_all (leaf_is_apart x) c) a b

apart_right : (a b c : List Leaf) → are_apart a (b ++ c) ≡ (are_apart a b && are_apart a c)
apart_right [] b c = refl
apart_right (x ∷ a) b c = (λ i. all_append (leaf_is_apart x) b c i && apart_right a b c i) ∙ swapped (list_all (leaf_is_apart x) b) (list_all (leaf_is_apart x) c) (are_apart a b) (are_apart a c)

apart_none : (a : List Leaf) → are_apart a [] ≡ true
apart_none [] = refl
apart_none (x ∷ a) = apart_none a

beside_assoc : (a b c : Leaves) → beside (beside a b) c ≡ beside a (beside b c)
beside_assoc a b c = λ i. record {
  leaves = append_assoc a.leaves b.leaves c.leaves i;
  apart = ((λ j. (a.apart && (b.apart && are_apart a.leaves b.leaves)) && (c.apart && apart_left a.leaves b.leaves c.leaves j))
      ∙ shuffled a.apart b.apart c.apart (are_apart a.leaves b.leaves) (are_apart a.leaves c.leaves) (are_apart b.leaves c.leaves)
      ∙ (λ j. a.apart && ((b.apart && (c.apart && are_apart b.leaves c.leaves)) && sym (apart_right a.leaves b.leaves c.leaves) j))) i;
}

none_before : (b : Leaves) → beside no_leaves b ≡ b
none_before b = λ i. record { leaves = b.leaves; apart = and_true b.apart i }

none_behind : (a : Leaves) → beside a no_leaves ≡ a
none_behind a = λ i. record { leaves = append-nil a.leaves i; apart = ((λ j. a.apart && apart_none a.leaves j) ∙ and_true a.apart) i }

from_start : (a b : Leaves) (ls : List Leaves) → fold beside (beside a b) ls ≡ beside a (fold beside b ls)
from_start a b [] = refl
from_start a b (l ∷ ls) = ap (λ s. fold beside s ls) (beside_assoc a b l) ∙ from_start a (beside b l) ls

together_from : (a : Leaves) (ls : List Leaves) → fold beside a ls ≡ beside a (together ls)
together_from a ls = ap (λ s. fold beside s ls) (sym (none_behind a)) ∙ from_start a no_leaves ls

together_cons : (l : Leaves) (ls : List Leaves) → together (l ∷ ls) ≡ beside l (together ls)
together_cons l ls = together_from (beside no_leaves l) ls ∙ ap (λ s. beside s (together ls)) (none_before l)

together_append : (ks ls : List Leaves) → together (ks ++ ls) ≡ beside (together ks) (together ls)
together_append [] ls = sym (none_before (together ls))
together_append (k ∷ ks) ls = together_cons k (ks ++ ls) ∙ ap (beside k) (together_append ks ls) ∙ sym (beside_assoc k (together ks) (together ls)) ∙ ap (λ s. beside s (together ls)) (sym (together_cons k ks))

-- ---- no more leaves than before

equal_numbers : (n m : ℕ) → (n == m) ≡ true → (m == n) ≡ true
equal_numbers n m h = elim (eqb_tells n m) [ inl same ↦ eq-eqb m n (sym same.1) | inr other ↦ let never : true ≡ false = sym h ∙ other.0 in cc ]

shares_turned : (xs ys : List ℕ) → shares xs ys ≡ true → shares ys xs ≡ true
shares_turned xs ys h =
    let (x, p, k) = from_any (λ x. list_any (◌==◌ x) ys) xs h in
    let (y, q, e) = from_any (◌==◌ x) ys k in
    any_in (λ y. list_any (◌==◌ y) xs) y ys q (any_in (◌==◌ y) x xs p (equal_numbers x y e))

apart_turned : (a b : Leaf) → leaf_is_apart a b ≡ true → leaf_is_apart b a ≡ true
apart_turned a b h = by (a.number == b.number) refl (b.number == a.number) refl (shares a.sublinks b.sublinks) refl
  where
    by : (p : Bool) → (a.number == b.number) ≡ p → (q : Bool) → (b.number == a.number) ≡ q → (r : Bool) → shares a.sublinks b.sublinks ≡ r → leaf_is_apart b a ≡ true
    by p e false f r g = ap (λ c. not c || shares b.sublinks a.sublinks) f
    by p e true f true g = ap (λ c. not (b.number == a.number) || c) (shares_turned a.sublinks b.sublinks g) ∙ or_true (not (b.number == a.number))
      where
        or_true : (c : Bool) → (c || true) ≡ true
        or_true true = refl
        or_true false = refl
    by p e true f false g = let same : (a.number == b.number) ≡ true = equal_numbers b.number a.number f in let bad : (not (a.number == b.number) || shares a.sublinks b.sublinks) ≡ false = (λ i. not (same i) || g i) in let never : true ≡ false = sym h ∙ bad in cc

record Fewer (l' l : Leaves) : Type 0 where
  into : Into (λ x y. x ≡ y) l'.leaves l.leaves
  apart : l.apart ≡ true → l'.apart ≡ true

itself_into : (xs : List Leaf) → Into (λ x y. x ≡ y) xs xs
itself_into [] = tt
itself_into (x ∷ xs) = ([], x, xs, refl, refl, itself_into xs)

itself : (l : Leaves) → Fewer l l
itself l = record { into = itself_into l.leaves; apart = λ h. h }

none_fewer : (l : Leaves) → Fewer no_leaves l
none_fewer l = record { into = tt; apart = λ h. refl }

apart_of : (as' as'' bs' bs'' : List Leaf) → Into (λ x y. x ≡ y) as' as'' → Into (λ x y. x ≡ y) bs' bs'' → are_apart as'' bs'' ≡ true → are_apart as' bs' ≡ true
apart_of xs' xs ys' ys h k apart = all_from_list (λ x. list_all (leaf_is_apart x) ys') xs' (λ x p.
    let m = member_of (λ x y. x ≡ y) x xs' xs h p in
    let with_m = all_in_list (λ x. list_all (leaf_is_apart x) ys) xs apart m.0 m.1 in
    all_from_list (leaf_is_apart x) ys' (λ y q.
    let n = member_of (λ x y. x ≡ y) y ys' ys k q in
    subst (λ z. leaf_is_apart z y ≡ true) (sym m.2) (subst (λ z. leaf_is_apart m.0 z ≡ true) (sym n.2) (all_in_list (leaf_is_apart m.0) ys with_m n.0 n.1))))

are_turned : (xs ys : List Leaf) → are_apart xs ys ≡ true → are_apart ys xs ≡ true
are_turned xs ys h = all_from_list (λ y. list_all (leaf_is_apart y) xs) ys (λ y q. all_from_list (leaf_is_apart y) xs (λ x p. apart_turned x y (all_in_list (leaf_is_apart x) ys (all_in_list (λ x. list_all (leaf_is_apart x) ys) xs h x p) y q)))

module _ (a' a b' b : Leaves) (h : Fewer a' a) (k : Fewer b' b) where
  both_fewer : Fewer (beside a' b') (beside a b)
  both_fewer = record {
    into = into_append (λ x y. x ≡ y) a'.leaves b'.leaves a.leaves b.leaves h.into k.into;
    apart = λ all.
        let rest = and_right a.apart (b.apart && are_apart a.leaves b.leaves) all in
        both a'.apart (b'.apart && are_apart a'.leaves b'.leaves) (h.apart (and_left a.apart (b.apart && are_apart a.leaves b.leaves) all))
        (both b'.apart (are_apart a'.leaves b'.leaves) (k.apart (and_left b.apart (are_apart a.leaves b.leaves) rest)) (apart_of a'.leaves a.leaves b'.leaves b.leaves h.into k.into (and_right b.apart (are_apart a.leaves b.leaves) rest)));
  }

  crossed_fewer : Fewer (beside b' a') (beside a b)
  crossed_fewer = record {
    into = into_crossed (λ x y. x ≡ y) b'.leaves a'.leaves a.leaves b.leaves k.into h.into;
    apart = λ all.
        let rest = and_right a.apart (b.apart && are_apart a.leaves b.leaves) all in
        both b'.apart (a'.apart && are_apart b'.leaves a'.leaves) (k.apart (and_left b.apart (are_apart a.leaves b.leaves) rest))
        (both a'.apart (are_apart b'.leaves a'.leaves) (h.apart (and_left a.apart (b.apart && are_apart a.leaves b.leaves) all))
        (are_turned a'.leaves b'.leaves (apart_of a'.leaves a.leaves b'.leaves b.leaves h.into k.into (and_right b.apart (are_apart a.leaves b.leaves) rest))));
  }

inside_into : (sub : ℕ) (xs ys : List Leaf) → Into (λ x y. x ≡ y) xs ys → Into (λ x y. x ≡ y) (map (leaf_inside sub) xs) (map (leaf_inside sub) ys)
inside_into sub [] ys h = tt
inside_into sub (x ∷ xs) ys h = (
  map (leaf_inside sub) h.0,
  leaf_inside sub h.1,
  map (leaf_inside sub) h.2,
  ap (map (leaf_inside sub)) h.3 ∙ append_map (leaf_inside sub) h.0 (h.1 ∷ h.2),
  ap (leaf_inside sub) h.4,
  subst (Into (λ x y. x ≡ y) (map (leaf_inside sub) xs)) (append_map (leaf_inside sub) h.0 h.2) (inside_into sub xs (h.0 ++ h.2) h.5),
)

inside_fewer : (sub : ℕ) (l' l : Leaves) → Fewer l' l → Fewer (leaves_inside sub l') (leaves_inside sub l)
inside_fewer sub l' l h = record { into = inside_into sub l'.leaves l.leaves h.into; apart = h.apart }

-- ---- leaves of levels

abbrev of_expr : Expr → Leaves
of_expr = fold-Expr Leaves Leaves Leaves Leaves Leaves expr_leaves tree_leaves order_leaves output_leaves query_leaves

abbrev of_tree : JoinTree → Leaves
of_tree = fold-JoinTree Leaves Leaves Leaves Leaves Leaves expr_leaves tree_leaves order_leaves output_leaves query_leaves

abbrev of_order : Order → Leaves
of_order = fold-Order Leaves Leaves Leaves Leaves Leaves expr_leaves tree_leaves order_leaves output_leaves query_leaves

abbrev of_output : Output → Leaves
of_output = fold-Output Leaves Leaves Leaves Leaves Leaves expr_leaves tree_leaves order_leaves output_leaves query_leaves

abbrev level : ExprLayer → Expr-F Leaves Leaves Leaves Leaves Leaves
level = map-Expr Expr JoinTree Order Output Query Leaves Leaves Leaves Leaves Leaves of_expr of_tree of_order of_output judged_leaves

at : (x : ExprLayer) → of_expr (roll-Expr x) ≡ expr_leaves (level x)
at = fold-roll-Expr Leaves Leaves Leaves Leaves Leaves expr_leaves tree_leaves order_leaves output_leaves query_leaves

-- the leaves of a list of expressions
abbrev total : List Expr → Leaves
total es = together (map of_expr es)

and_at_same : (x : ExprLayer) (e : Expr) → of_expr e ≡ of_expr (roll-Expr x) → total (fold.and_at x e) ≡ of_expr e
and_at_same (Expr-F.And members) e h = sym (at (Expr-F.And members)) ∙ sym h
and_at_same (Expr-F.Lit (value.Bool true) t) e h = sym (at (Expr-F.Lit (value.Bool true) t)) ∙ sym h
and_at_same x e h = none_before (of_expr e)

and_members_same : (e : Expr) → total (fold.and_members e) ≡ of_expr e
and_members_same e = and_at_same (out-Expr e) e (ap of_expr (sym (roll-out-Expr e)))

or_at_same : (x : ExprLayer) (e : Expr) → of_expr e ≡ of_expr (roll-Expr x) → total (fold.or_at x e) ≡ of_expr e
or_at_same (Expr-F.Or members) e h = sym (at (Expr-F.Or members)) ∙ sym h
or_at_same (Expr-F.Lit (value.Bool false) t) e h = sym (at (Expr-F.Lit (value.Bool false) t)) ∙ sym h
or_at_same x e h = none_before (of_expr e)

or_members_same : (e : Expr) → total (fold.or_members e) ≡ of_expr e
or_members_same e = or_at_same (out-Expr e) e (ap of_expr (sym (roll-out-Expr e)))

total_append : (ds es : List Expr) → total (ds ++ es) ≡ beside (total ds) (total es)
total_append ds es = ap together (append_map of_expr ds es) ∙ together_append (map of_expr ds) (map of_expr es)

all_same : (f : Expr → List Expr) → ((e : Expr) → total (f e) ≡ of_expr e) → (es : List Expr) → total (all_in (map f es)) ≡ total es
all_same f same [] = refl
all_same f same (e ∷ es) = total_append (f e) (all_in (map f es)) ∙ (λ i. beside (same e i) (all_same f same es i)) ∙ sym (together_cons (of_expr e) (map of_expr es))

one_and_same : (es : List Expr) → of_expr (fold.one_and es) ≡ total es
one_and_same [] = at (Expr-F.Lit (value.Bool true) _)
one_and_same (e ∷ []) = sym (none_before (of_expr e))
one_and_same (e ∷ d ∷ es) = at (Expr-F.And (e ∷ d ∷ es))

one_or_same : (es : List Expr) → of_expr (fold.one_or es) ≡ total es
one_or_same [] = at (Expr-F.Lit (value.Bool false) _)
one_or_same (e ∷ []) = sym (none_before (of_expr e))
one_or_same (e ∷ d ∷ es) = at (Expr-F.Or (e ∷ d ∷ es))

-- what folding makes of a level has the leaves of the level or none
module _ (P : Leaves → Type 0) (none : P no_leaves) where
  literal : (v : Value) (t : Ty) → P (of_expr (fold.literal v t))
  literal v t = subst P (sym (at (Expr-F.Lit v t))) none

  either : (b : Bool) (d e : Expr) → P (of_expr d) → P (of_expr e) → P (of_expr (if b then d else e))
  either true d e h k = h
  either false d e h k = k

  if_computed : (x : ExprLayer) (e : Expr) → P (of_expr e) → P (of_expr (fold.if_computed x e))
  if_computed x e h = either (fold.has_literals_alone x) (fold.computed x) e (literal _ _) h

  if_null : (x : ExprLayer) → P (of_expr (roll-Expr x)) → P (of_expr (fold.if_null x))
  if_null x h = either (list_any fold.is_null (parts x)) (fold.literal value.Null (fold.type_at x)) (roll-Expr x) (literal value.Null (fold.type_at x)) h

  and_folded : (es : List Expr) → P (total es) → P (of_expr (fold.folded_and es))
  and_folded es h = either (list_any fold.is_false es) (fold.truth_literal false) (fold.one_and (all_in (map fold.and_members es))) (literal _ _) (subst P (sym (one_and_same (all_in (map fold.and_members es)) ∙ all_same fold.and_members and_members_same es)) h)

  or_folded : (es : List Expr) → P (total es) → P (of_expr (fold.folded_or es))
  or_folded es h = either (list_any fold.is_true es) (fold.truth_literal true) (fold.one_or (all_in (map fold.or_members es))) (literal _ _) (subst P (sym (one_or_same (all_in (map fold.or_members es)) ∙ all_same fold.or_members or_members_same es)) h)

  at_level : (x : ExprLayer) → P (of_expr (roll-Expr x)) → P (of_expr (fold.expr_folded x))
  at_level (Expr-F.Neg operand) h = if_computed (Expr-F.Neg operand) (fold.if_null (Expr-F.Neg operand)) (if_null (Expr-F.Neg operand) h)
  at_level (Expr-F.Sum terms) h = if_computed (Expr-F.Sum terms) (fold.if_null (Expr-F.Sum terms)) (if_null (Expr-F.Sum terms) h)
  at_level (Expr-F.Product factors) h = if_computed (Expr-F.Product factors) (fold.if_null (Expr-F.Product factors)) (if_null (Expr-F.Product factors) h)
  at_level (Expr-F.Concat pieces) h = if_computed (Expr-F.Concat pieces) (fold.if_null (Expr-F.Concat pieces)) (if_null (Expr-F.Concat pieces) h)
  at_level (Expr-F.Compare op left right) h = if_computed (Expr-F.Compare op left right) (fold.if_null (Expr-F.Compare op left right)) (if_null (Expr-F.Compare op left right) h)
  at_level (Expr-F.And es) h = if_computed (Expr-F.And es) (fold.folded_and es) (and_folded es (subst P (at (Expr-F.And es)) h))
  at_level (Expr-F.Or es) h = if_computed (Expr-F.Or es) (fold.folded_or es) (or_folded es (subst P (at (Expr-F.Or es)) h))
  at_level (Expr-F.Col rel col t nulled) h = h
  at_level (Expr-F.Lit v t) h = h
  at_level (Expr-F.Place inner rels) h = h
  at_level (Expr-F.Exists sub query) h = h
  at_level (Expr-F.InSub sub operand query) h = h
  at_level x h = if_computed x (roll-Expr x) h

  at_conditions : (es : List Expr) → P (total es) → P (total (fold.conditions_folded es))
  at_conditions es h = subst P (sym (and_members_same (fold.expr_folded (Expr-F.And es)))) (at_level (Expr-F.And es) (subst P (sym (at (Expr-F.And es))) h))

-- ---- what is shown

abbrev KeptExpr : Expr → Type 0
KeptExpr e = Fewer (of_expr (fold.folded_expr e)) (of_expr e)

abbrev KeptTree : JoinTree → Type 0
KeptTree t = Fewer (of_tree (fold.folded_tree t)) (of_tree t)

abbrev KeptOrder : Order → Type 0
KeptOrder o = Fewer (of_order (folded_order o)) (of_order o)

abbrev KeptOutput : Output → Type 0
KeptOutput u = Fewer (of_output (folded_output u)) (of_output u)

abbrev KeptQuery : Query → Type 0
KeptQuery q = Fewer (judged_leaves (fold.folded q)) (judged_leaves q)

lists_fewer : {X : Type 0} (f g : X → Leaves) (xs : List X) → Each (λ x. Fewer (g x) (f x)) xs → (a' a : Leaves) → Fewer a' a → Fewer (fold beside a' (map g xs)) (fold beside a (map f xs))
lists_fewer f g [] h a' a k = k
lists_fewer f g (x ∷ xs) h a' a k = lists_fewer f g xs h.1 (beside a' (g x)) (beside a (f x)) (both_fewer a' a (g x) (f x) k h.0)

mapped : {X Y : Type 0} (g : Y → Leaves) (f : X → Y) (xs : List X) → map g (map f xs) ≡ map (λ x. g (f x)) xs
mapped g f [] = refl
mapped g f (x ∷ xs) = ap (λ ls. g (f x) ∷ ls) (mapped g f xs)

-- the leaves of a list, each of whose members has fewer when it is folded
parts_fewer : {X : Type 0} (f : X → Leaves) (g : X → X) (xs : List X) → Each (λ x. Fewer (f (g x)) (f x)) xs → Fewer (together (map f (map g xs))) (together (map f xs))
parts_fewer f g xs h = subst (λ ls. Fewer (together ls) (together (map f xs))) (sym (mapped f g xs)) (lists_fewer f (λ x. f (g x)) xs h no_leaves no_leaves (itself no_leaves))

-- of expressions without a sublink, the leaves are those of their parts
expr_fewer : (x : ExprLayer) → Each KeptExpr (parts x) → Each KeptQuery (option_part (sublink_query x)) → Fewer (of_expr (roll-Expr (expr_parts_folded x))) (of_expr (roll-Expr x))
expr_fewer (Expr-F.Exists sub query) ps qs =
    subst (λ l. Fewer l (of_expr (roll-Expr (Expr-F.Exists sub query)))) (sym (at (Expr-F.Exists sub (fold.folded query))))
    (subst (Fewer (leaves_inside sub (judged_leaves (fold.folded query)))) (sym (at (Expr-F.Exists sub query))) (inside_fewer sub (judged_leaves (fold.folded query)) (judged_leaves query) qs.0))
expr_fewer (Expr-F.InSub sub operand query) ps qs =
    subst (λ l. Fewer l (of_expr (roll-Expr (Expr-F.InSub sub operand query)))) (sym (at (Expr-F.InSub sub (fold.folded_expr operand) (fold.folded query))))
    (subst (Fewer (beside (of_expr (fold.folded_expr operand)) (leaves_inside sub (judged_leaves (fold.folded query))))) (sym (at (Expr-F.InSub sub operand query)))
    (both_fewer (of_expr (fold.folded_expr operand)) (of_expr operand) (leaves_inside sub (judged_leaves (fold.folded query))) (leaves_inside sub (judged_leaves query)) ps.0 (inside_fewer sub (judged_leaves (fold.folded query)) (judged_leaves query) qs.0)))
expr_fewer x ps qs =
    let all = parts_fewer of_expr fold.folded_expr (parts x) ps in
    let same : parts (level (expr_parts_folded x)) ≡ map of_expr (map fold.folded_expr (parts x)) = parts_map of_expr of_tree of_order of_output judged_leaves (expr_parts_folded x) ∙ ap (map of_expr) (parts_map fold.folded_expr fold.folded_tree folded_order folded_output fold.folded x) in
    subst (λ l. Fewer l (of_expr (roll-Expr x))) (sym (at (expr_parts_folded x) ∙ ap together same)) (subst (Fewer (together (map of_expr (map fold.folded_expr (parts x))))) (sym (at x ∙ ap together (parts_map of_expr of_tree of_order of_output judged_leaves x))) all)

conditions_fewer : (es : List Expr) → Each KeptExpr es → Fewer (total (fold.conditions_folded (map fold.folded_expr es))) (total es)
conditions_fewer es h = at_conditions (λ l. Fewer l (total es)) (none_fewer (total es)) (map fold.folded_expr es) (parts_fewer of_expr fold.folded_expr es h)

-- ---- trees

tree_at : (t : JoinTreeLayer) → of_tree (roll-JoinTree t) ≡ tree_leaves (map-JoinTree Expr JoinTree Order Output Query Leaves Leaves Leaves Leaves Leaves of_expr of_tree of_order of_output judged_leaves t)
tree_at = fold-roll-JoinTree Leaves Leaves Leaves Leaves Leaves expr_leaves tree_leaves order_leaves output_leaves query_leaves

two : (a b : Leaves) → together (a ∷ b ∷ []) ≡ beside a b
two a b = ap (λ l. beside l b) (none_before a)

made : (t y : JoinTreeLayer) → Fewer (tree_leaves (map-JoinTree Expr JoinTree Order Output Query Leaves Leaves Leaves Leaves Leaves of_expr of_tree of_order of_output judged_leaves y)) (tree_leaves (map-JoinTree Expr JoinTree Order Output Query Leaves Leaves Leaves Leaves Leaves of_expr of_tree of_order of_output judged_leaves t)) → Fewer (of_tree (roll-JoinTree y)) (of_tree (roll-JoinTree t))
made t y h = subst (λ l. Fewer l (of_tree (roll-JoinTree t))) (sym (tree_at y)) (subst (Fewer (tree_leaves (map-JoinTree Expr JoinTree Order Output Query Leaves Leaves Leaves Leaves Leaves of_expr of_tree of_order of_output judged_leaves y))) (sym (tree_at t)) h)

join_fewer : (kind other : JoinKind) (left right : JoinTree) (on : List Expr) → KeptTree left → KeptTree right → Each KeptExpr on → Fewer (of_tree (roll-JoinTree (JoinTree-F.Join other (fold.folded_tree left) (fold.folded_tree right) (fold.conditions_folded (map fold.folded_expr on))))) (of_tree (roll-JoinTree (JoinTree-F.Join kind left right on)))
join_fewer kind other left right on h k cs = made (JoinTree-F.Join kind left right on) (JoinTree-F.Join other (fold.folded_tree left) (fold.folded_tree right) (fold.conditions_folded (map fold.folded_expr on)))
    (both_fewer (together (of_tree (fold.folded_tree left) ∷ of_tree (fold.folded_tree right) ∷ [])) (together (of_tree left ∷ of_tree right ∷ [])) (total (fold.conditions_folded (map fold.folded_expr on))) (total on)
    (lists_fewer of_tree (λ t. of_tree (fold.folded_tree t)) (left ∷ right ∷ []) (h, (k, tt)) no_leaves no_leaves (itself no_leaves)) (conditions_fewer on cs))

tree_case : (t : JoinTreeLayer) → Each KeptTree (trees t) → Each KeptExpr (conditions t) → Each KeptQuery (option_part (leaf_query t)) → Fewer (of_tree (fold.tree_folded (tree_parts_folded t))) (of_tree (roll-JoinTree t))
tree_case (JoinTree-F.Base rel name table) ts cs qs = itself (of_tree (roll-JoinTree (JoinTree-F.Base rel name table)))
tree_case (JoinTree-F.Sub rel name query) ts cs qs = made (JoinTree-F.Sub rel name query) (JoinTree-F.Sub rel name (fold.folded query)) (both_fewer (leaf rel) (leaf rel) (judged_leaves (fold.folded query)) (judged_leaves query) (itself (leaf rel)) qs.0)
tree_case (JoinTree-F.Join join.Right left right on) ts cs qs = made (JoinTree-F.Join join.Right left right on) (JoinTree-F.Join join.Left (fold.folded_tree right) (fold.folded_tree left) (fold.conditions_folded (map fold.folded_expr on)))
    (both_fewer (together (of_tree (fold.folded_tree right) ∷ of_tree (fold.folded_tree left) ∷ [])) (together (of_tree left ∷ of_tree right ∷ [])) (total (fold.conditions_folded (map fold.folded_expr on))) (total on)
    (subst (λ l. Fewer l (together (of_tree left ∷ of_tree right ∷ []))) (sym (two (of_tree (fold.folded_tree right)) (of_tree (fold.folded_tree left))))
    (subst (Fewer (beside (of_tree (fold.folded_tree right)) (of_tree (fold.folded_tree left)))) (sym (two (of_tree left) (of_tree right))) (crossed_fewer (of_tree (fold.folded_tree left)) (of_tree left) (of_tree (fold.folded_tree right)) (of_tree right) ts.0 ts.1.0)))
    (conditions_fewer on cs))
tree_case (JoinTree-F.Join kind left right on) ts cs qs = join_fewer kind kind left right on ts.0 ts.1.0 cs
tree_case (JoinTree-F.From members conds) ts cs qs = made (JoinTree-F.From members conds) (JoinTree-F.From (map fold.folded_tree members) (fold.conditions_folded (map fold.folded_expr conds)))
    (both_fewer (together (map of_tree (map fold.folded_tree members))) (together (map of_tree members)) (total (fold.conditions_folded (map fold.folded_expr conds))) (total conds) (parts_fewer of_tree fold.folded_tree members ts) (conditions_fewer conds cs))

-- ---- the whole

query_at : (q : QueryLayer) → judged_leaves (roll-Query q) ≡ beside (beside (beside (together (map of_output q.columns)) (of_tree q.tree)) (together (map of_expr q.conds))) (together (map of_order q.order))
query_at = fold-roll-Query Leaves Leaves Leaves Leaves Leaves expr_leaves tree_leaves order_leaves output_leaves query_leaves

abbrev folded_query : QueryLayer → QueryLayer
folded_query q = record (query_parts_folded q) { conds = fold.conditions_folded (map fold.folded_expr q.conds) }

query_case : (q : QueryLayer) → Each KeptOutput q.columns → KeptTree q.tree → Each KeptExpr q.conds → Each KeptOrder q.order → Fewer (judged_leaves (roll-Query (folded_query q))) (judged_leaves (roll-Query q))
query_case q us t cs os =
    let columns' = together (map of_output (map folded_output q.columns)) in
    let conds' = total (fold.conditions_folded (map fold.folded_expr q.conds)) in
    let order' = together (map of_order (map folded_order q.order)) in
    let columns = together (map of_output q.columns) in
    let one = both_fewer columns' columns (of_tree (fold.folded_tree q.tree)) (of_tree q.tree) (parts_fewer of_output folded_output q.columns us) t in
    let more = both_fewer (beside columns' (of_tree (fold.folded_tree q.tree))) (beside columns (of_tree q.tree)) conds' (total q.conds) one (conditions_fewer q.conds cs) in
    let all = both_fewer (beside (beside columns' (of_tree (fold.folded_tree q.tree))) conds') (beside (beside columns (of_tree q.tree)) (total q.conds)) order' (together (map of_order q.order)) more (parts_fewer of_order folded_order q.order os) in
    subst (λ l. Fewer l (judged_leaves (roll-Query q))) (sym (query_at (folded_query q))) (subst (Fewer (beside (beside (beside columns' (of_tree (fold.folded_tree q.tree))) conds') order')) (sym (query_at q)) all)

steps : induction.Steps KeptExpr KeptTree KeptOrder KeptOutput KeptQuery
steps = record {
  expr = λ x ps qs. subst (λ e. Fewer (of_expr e) (of_expr (roll-Expr x))) (sym (fold-roll-Expr Expr JoinTree Order Output Query fold.expr_folded fold.tree_folded roll-Order roll-Output fold.query_folded x))
      (at_level (λ l. Fewer l (of_expr (roll-Expr x))) (none_fewer (of_expr (roll-Expr x))) (expr_parts_folded x) (expr_fewer x ps qs));
  tree = λ t ts cs qs. subst (λ e. Fewer (of_tree e) (of_tree (roll-JoinTree t))) (sym (fold-roll-JoinTree Expr JoinTree Order Output Query fold.expr_folded fold.tree_folded roll-Order roll-Output fold.query_folded t)) (tree_case t ts cs qs);
  order = λ o h. subst (λ l. Fewer l (of_order (roll-Order o))) (sym (ap of_order (fold-roll-Order Expr JoinTree Order Output Query fold.expr_folded fold.tree_folded roll-Order roll-Output fold.query_folded o)
      ∙ fold-roll-Order Leaves Leaves Leaves Leaves Leaves expr_leaves tree_leaves order_leaves output_leaves query_leaves (record { expr = fold.folded_expr o.expr; desc = o.desc; nulls_first = o.nulls_first })))
      (subst (Fewer (of_expr (fold.folded_expr o.expr))) (sym (fold-roll-Order Leaves Leaves Leaves Leaves Leaves expr_leaves tree_leaves order_leaves output_leaves query_leaves o)) h);
  output = λ u h. subst (λ l. Fewer l (of_output (roll-Output u))) (sym (ap of_output (fold-roll-Output Expr JoinTree Order Output Query fold.expr_folded fold.tree_folded roll-Order roll-Output fold.query_folded u)
      ∙ fold-roll-Output Leaves Leaves Leaves Leaves Leaves expr_leaves tree_leaves order_leaves output_leaves query_leaves (record { name = u.name; ty = u.ty; expr = fold.folded_expr u.expr })))
      (subst (Fewer (of_expr (fold.folded_expr u.expr))) (sym (fold-roll-Output Leaves Leaves Leaves Leaves Leaves expr_leaves tree_leaves order_leaves output_leaves query_leaves u)) h);
  query = λ q us t cs os. subst (λ e. Fewer (judged_leaves e) (judged_leaves (roll-Query q))) (sym (fold-roll-Query Expr JoinTree Order Output Query fold.expr_folded fold.tree_folded roll-Order roll-Output fold.query_folded q)) (query_case q us t cs os);
}

pub leaves_apart : (q : Query) → (judged_leaves q).apart ≡ true → (judged_leaves (fold.folded q)).apart ≡ true
leaves_apart q = (induction.at_query KeptExpr KeptTree KeptOrder KeptOutput KeptQuery steps q).apart
