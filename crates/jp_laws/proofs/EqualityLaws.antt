-- Expressions that are the same are equal, if their sublinks of one number are.
use Rattle.std.proofs.Common.{◌≡◌, ◌∙◌, ap, ap₂, sym, subst, refl, inl, Bool, true, List, [], ◌∷◌, ◌++◌, map, Option, Some, None}
use Rattle.std.specs.Prelude.{Contains, ◌&&◌, ◌==◌}
use Rattle.jp_base.specs.Values.{are_same}
use Rattle.jp_query.specs.declared.Expr.{Expr, out-Expr}
use Rattle.jp_query.specs.declared.Expr.TheVariants as expr
use Rattle.jp_query.specs.declared.JoinTree.{JoinTree}
use Rattle.jp_query.specs.declared.Order.{Order}
use Rattle.jp_query.specs.declared.Output.{Output}
use Rattle.jp_query.specs.declared.Query.{Query}
use Rattle.jp_query.specs.declared.Expr.TheOpen.{Expr-F}
use Rattle.jp_query.specs.declared.Expr.TheShapes.{former-Expr-Case-0}
use Rattle.jp_query.specs.declared.Expr.TheViews.{roll-Expr, roll-out-Expr}
use Rattle.jp_query.specs.declared.Expr.TheFolds.{map-Expr, ind-Expr, para-JoinTree, para-Order, para-Output, para-Query, para-roll-Expr}
use Rattle.jp_query.specs.Parts.{all_in, term_part, arm_parts, option_part}
use Rattle.jp_query.specs.Typing.{same_type}
use Rattle.jp_query.specs.Freshness.{Sublink, Found, found_in, expr_found, tree_found, order_found, output_found, query_found}
use Rattle.jp_query.specs.Subexpressions.{sublinks_of}
use Rattle.jp_query.specs.Equality.{same_op, same_test, same_sign, same_each, same_part, same_term, same_arm, same_option, same_level, same_expr}
use Rattle.jp_facts.proofs.Members.{In, from_in, in_append_left, in_append_right}
use Rattle.jp_laws.proofs.SameWords.{false_true, ops_equal, tests_equal, signs_equal, types_equal, values_equal, numbers_equal, at_level, Plain, tests, test_of_term, test_of_arm, test_of_option}
use Rattle.jp_laws.proofs.ValueLaws.{and_left, and_right}

-- sublinks of one number in the two lists are equal
abbrev Equal : Found → Found → Type 0
Equal xs ys = (a b : Sublink) → In a xs → In b ys → a.number ≡ b.number → a.node ≡ b.node

first : (xs more ys others : Found) → Equal (xs ++ more) (ys ++ others) → Equal xs ys
first xs more ys others p a b h k = p a b (in_append_left a xs more h) (in_append_left b ys others k)

rest : (xs more ys others : Found) → Equal (xs ++ more) (ys ++ others) → Equal more others
rest xs more ys others p a b h k = p a b (in_append_right a xs more h) (in_append_right b ys others k)

-- a list of sublinks that stands before nothing
alone : (xs ys : Found) → Equal (xs ++ []) (ys ++ []) → Equal xs ys
alone xs ys = first xs [] ys []

abbrev Good : Expr → Type 0
Good x = (b : Expr) → Equal (sublinks_of x) (sublinks_of b) → same_expr x b ≡ true → x ≡ b

abbrev E : Type 0
E = (x : Expr) × Good x

abbrev Node : Type 0
Node = Expr-F E (JoinTree × Unit {0}) (Order × Unit {0}) (Output × Unit {0}) (Query × Unit {0})

abbrev bare : Node → Plain
bare = map-Expr E (JoinTree × Unit {0}) (Order × Unit {0}) (Output × Unit {0}) (Query × Unit {0}) Expr JoinTree Order Output Query (λ x. x.0) (λ x. x.0) (λ x. x.0) (λ x. x.0) (λ x. x.0)

abbrev levels : Plain → Expr-F (Expr × Found) (JoinTree × Found) (Order × Found) (Output × Found) (Query × Found)
levels = map-Expr Expr JoinTree Order Output Query (Expr × Found) (JoinTree × Found) (Order × Found) (Output × Found) (Query × Found) (λ x. (x, sublinks_of x))
    (λ x. (x, para-JoinTree Found Found Found Found Found expr_found tree_found order_found output_found query_found x))
    (λ x. (x, para-Order Found Found Found Found Found expr_found tree_found order_found output_found query_found x))
    (λ x. (x, para-Output Found Found Found Found Found expr_found tree_found order_found output_found query_found x))
    (λ x. (x, para-Query Found Found Found Found Found expr_found tree_found order_found output_found query_found x))

abbrev beside : Expr → Expr × Found
beside x = (x, sublinks_of x)

abbrev exprs : List E → List Expr
exprs = map (λ (y : E). y.0)

abbrev bare_terms : List (Bool × E) → List (Bool × Expr)
bare_terms = map (λ (y : Bool × E). (y.0, y.1.0))

abbrev bare_arms : List (E × E) → List (Expr × Expr)
bare_arms = map (λ (y : E × E). (y.0.0, y.1.0))

abbrev bare_option : Option E → Option Expr
bare_option = (former-Expr-Case-0).map E Expr (λ x. x.0)

abbrev inside : List (Expr × Found) → Found
inside xs = all_in (map found_in xs)

abbrev in_list : List Expr → Found
in_list xs = inside (map beside xs)

abbrev term_parts : List (Bool × Expr) → List (Expr × Found)
term_parts xs = map term_part (map (λ (t : Bool × Expr). (t.0, beside t.1)) xs)

abbrev parts_of_arms : List (Expr × Expr) → List (Expr × Found)
parts_of_arms xs = arm_parts (map (λ (a : Expr × Expr). (beside a.0, beside a.1)) xs)

abbrev parts_of_option : Option Expr → List (Expr × Found)
parts_of_option x = option_part ((former-Expr-Case-0).map Expr (Expr × Found) (λ x. (x, sublinks_of x)) x)

each : (ys : List E) (zs : List Expr) → Equal (in_list (exprs ys)) (in_list zs) → same_each same_part (map same_expr (exprs ys)) zs ≡ true → exprs ys ≡ zs
each [] [] p h = refl
each [] (z ∷ zs) p h = absurd (false_true h)
each (y ∷ ys) [] p h = absurd (false_true h)
each (y ∷ ys) (z ∷ zs) p h = ap₂ ◌∷◌
    (y.1 z (first (sublinks_of y.0) (in_list (exprs ys)) (sublinks_of z) (in_list zs) p) (and_left (same_expr y.0 z) (same_each same_part (map same_expr (exprs ys)) zs) h))
    (each ys zs (rest (sublinks_of y.0) (in_list (exprs ys)) (sublinks_of z) (in_list zs) p) (and_right (same_expr y.0 z) (same_each same_part (map same_expr (exprs ys)) zs) h))

terms : (ys : List (Bool × E)) (zs : List (Bool × Expr)) → Equal (inside (term_parts (bare_terms ys))) (inside (term_parts zs)) → same_each same_term (map test_of_term (bare_terms ys)) zs ≡ true → bare_terms ys ≡ zs
terms [] [] p h = refl
terms [] (z ∷ zs) p h = absurd (false_true h)
terms (y ∷ ys) [] p h = absurd (false_true h)
terms (y ∷ ys) (z ∷ zs) p h =
    let here = and_left (same_sign y.0 z.0 && same_expr y.1.0 z.1) (same_each same_term (map test_of_term (bare_terms ys)) zs) h in
    ap₂ ◌∷◌
    (λ i. (signs_equal y.0 z.0 (and_left (same_sign y.0 z.0) (same_expr y.1.0 z.1) here) i, y.1.1 z.1 (first (sublinks_of y.1.0) (inside (term_parts (bare_terms ys))) (sublinks_of z.1) (inside (term_parts zs)) p) (and_right (same_sign y.0 z.0) (same_expr y.1.0 z.1) here) i))
    (terms ys zs (rest (sublinks_of y.1.0) (inside (term_parts (bare_terms ys))) (sublinks_of z.1) (inside (term_parts zs)) p) (and_right (same_sign y.0 z.0 && same_expr y.1.0 z.1) (same_each same_term (map test_of_term (bare_terms ys)) zs) h))

arms : (ys : List (E × E)) (zs : List (Expr × Expr)) → Equal (inside (parts_of_arms (bare_arms ys))) (inside (parts_of_arms zs)) → same_each same_arm (map test_of_arm (bare_arms ys)) zs ≡ true → bare_arms ys ≡ zs
arms [] [] p h = refl
arms [] (z ∷ zs) p h = absurd (false_true h)
arms (y ∷ ys) [] p h = absurd (false_true h)
arms (y ∷ ys) (z ∷ zs) p h =
    let here = and_left (same_expr y.0.0 z.0 && same_expr y.1.0 z.1) (same_each same_arm (map test_of_arm (bare_arms ys)) zs) h in
    let later = rest (sublinks_of y.0.0) (sublinks_of y.1.0 ++ inside (parts_of_arms (bare_arms ys))) (sublinks_of z.0) (sublinks_of z.1 ++ inside (parts_of_arms zs)) p in
    ap₂ ◌∷◌
    (λ i. (y.0.1 z.0 (first (sublinks_of y.0.0) (sublinks_of y.1.0 ++ inside (parts_of_arms (bare_arms ys))) (sublinks_of z.0) (sublinks_of z.1 ++ inside (parts_of_arms zs)) p) (and_left (same_expr y.0.0 z.0) (same_expr y.1.0 z.1) here) i, y.1.1 z.1 (first (sublinks_of y.1.0) (inside (parts_of_arms (bare_arms ys))) (sublinks_of z.1) (inside (parts_of_arms zs)) later) (and_right (same_expr y.0.0 z.0) (same_expr y.1.0 z.1) here) i))
    (arms ys zs (rest (sublinks_of y.1.0) (inside (parts_of_arms (bare_arms ys))) (sublinks_of z.1) (inside (parts_of_arms zs)) later) (and_right (same_expr y.0.0 z.0 && same_expr y.1.0 z.1) (same_each same_arm (map test_of_arm (bare_arms ys)) zs) h))

option : (y : Option E) (z : Option Expr) → Equal (inside (parts_of_option (bare_option y))) (inside (parts_of_option z)) → same_option (test_of_option (bare_option y)) z ≡ true → bare_option y ≡ z
option None None p h = refl
option None (Some z) p h = absurd (false_true h)
option (Some y) None p h = absurd (false_true h)
option (Some y) (Some z) p h = ap Some (y.1 z (alone (sublinks_of y.0) (sublinks_of z) p) h)

-- the sublinks of two lists of parts
split : (xs ys zs ws : List (Expr × Found)) → Equal (inside (xs ++ ys)) (inside (zs ++ ws)) → Equal (inside xs) (inside zs) × Equal (inside ys) (inside ws)
split xs ys zs ws p = let q = subst (λ f. Equal f (inside (zs ++ ws))) (inside_of xs ys) p in let r = subst (λ f. Equal (inside xs ++ inside ys) f) (inside_of zs ws) q in (first (inside xs) (inside ys) (inside zs) (inside ws) r, rest (inside xs) (inside ys) (inside zs) (inside ws) r)
  where
    regroup : (xs ys zs : Found) → xs ++ (ys ++ zs) ≡ (xs ++ ys) ++ zs
    regroup [] ys zs = refl
    regroup (x ∷ xs) ys zs = ap (λ rs. x ∷ rs) (regroup xs ys zs)

    inside_of : (xs ys : List (Expr × Found)) → inside (xs ++ ys) ≡ inside xs ++ inside ys
    inside_of [] ys = refl
    inside_of (x ∷ xs) ys = ap (λ rs. x.1 ++ rs) (inside_of xs ys) ∙ regroup x.1 (inside xs) (inside ys)

one : (y : E) (z : Expr) → Equal ((sublinks_of y.0 ++ []) ++ []) ((sublinks_of z ++ []) ++ []) → same_expr y.0 z ≡ true → y.0 ≡ z
one y z p h = y.1 z (alone (sublinks_of y.0) (sublinks_of z) (alone (sublinks_of y.0 ++ []) (sublinks_of z ++ []) p)) h

good_at : (y : Node) (z : Plain) → Equal (expr_found (levels (bare y))) (expr_found (levels z)) → same_level (tests (bare y)) z ≡ true → bare y ≡ z
unfolding same_level
good_at (Expr-F.Col rel col t nulled) (Expr-F.Col rel' col' t' nulled') p h =
    let more = and_right (rel == rel') ((col == col') && (same_type t t' && (nulled == nulled'))) h in
    let last = and_right (col == col') (same_type t t' && (nulled == nulled')) more in
    λ i. Expr-F.Col (numbers_equal rel rel' (and_left (rel == rel') ((col == col') && (same_type t t' && (nulled == nulled'))) h) i) (numbers_equal col col' (and_left (col == col') (same_type t t' && (nulled == nulled')) more) i) (types_equal t t' (and_left (same_type t t') (nulled == nulled') last) i) (numbers_equal nulled nulled' (and_right (same_type t t') (nulled == nulled') last) i)
good_at (Expr-F.Lit value t) (Expr-F.Lit value' t') p h = λ i. Expr-F.Lit (values_equal value value' (and_left (are_same value value') (same_type t t') h) i) (types_equal t t' (and_right (are_same value value') (same_type t t') h) i)
good_at (Expr-F.Place inner rels) (Expr-F.Place inner' rels') p h = λ i. Expr-F.Place (one inner inner' p (and_right (rels == rels') (same_expr inner.0 inner') h) i) (numbers_equal rels rels' (and_left (rels == rels') (same_expr inner.0 inner') h) i)
good_at (Expr-F.Neg operand) (Expr-F.Neg operand') p h = ap Expr-F.Neg (one operand operand' p h)
good_at (Expr-F.Sum ys) (Expr-F.Sum zs) p h = ap Expr-F.Sum (terms ys zs (alone (inside (term_parts (bare_terms ys))) (inside (term_parts zs)) p) h)
good_at (Expr-F.Product ys) (Expr-F.Product zs) p h = ap Expr-F.Product (each ys zs (alone (in_list (exprs ys)) (in_list zs) p) h)
good_at (Expr-F.Concat ys) (Expr-F.Concat zs) p h = ap Expr-F.Concat (each ys zs (alone (in_list (exprs ys)) (in_list zs) p) h)
good_at (Expr-F.Compare op left right) (Expr-F.Compare op' left' right') p h =
    let both = and_right (same_op op op') (same_expr left.0 left' && same_expr right.0 right') h in
    let q = alone (sublinks_of left.0 ++ (sublinks_of right.0 ++ [])) (sublinks_of left' ++ (sublinks_of right' ++ [])) p in
    λ i. Expr-F.Compare (ops_equal op op' (and_left (same_op op op') (same_expr left.0 left' && same_expr right.0 right') h) i)
    (left.1 left' (first (sublinks_of left.0) (sublinks_of right.0 ++ []) (sublinks_of left') (sublinks_of right' ++ []) q) (and_left (same_expr left.0 left') (same_expr right.0 right') both) i)
    (right.1 right' (alone (sublinks_of right.0) (sublinks_of right') (rest (sublinks_of left.0) (sublinks_of right.0 ++ []) (sublinks_of left') (sublinks_of right' ++ []) q)) (and_right (same_expr left.0 left') (same_expr right.0 right') both) i)
good_at (Expr-F.Between operand low high) (Expr-F.Between operand' low' high') p h =
    let both = and_right (same_expr operand.0 operand') (same_expr low.0 low' && same_expr high.0 high') h in
    let q = alone (sublinks_of operand.0 ++ (sublinks_of low.0 ++ (sublinks_of high.0 ++ []))) (sublinks_of operand' ++ (sublinks_of low' ++ (sublinks_of high' ++ []))) p in
    let r = rest (sublinks_of operand.0) (sublinks_of low.0 ++ (sublinks_of high.0 ++ [])) (sublinks_of operand') (sublinks_of low' ++ (sublinks_of high' ++ [])) q in
    λ i. Expr-F.Between
    (operand.1 operand' (first (sublinks_of operand.0) (sublinks_of low.0 ++ (sublinks_of high.0 ++ [])) (sublinks_of operand') (sublinks_of low' ++ (sublinks_of high' ++ [])) q) (and_left (same_expr operand.0 operand') (same_expr low.0 low' && same_expr high.0 high') h) i)
    (low.1 low' (first (sublinks_of low.0) (sublinks_of high.0 ++ []) (sublinks_of low') (sublinks_of high' ++ []) r) (and_left (same_expr low.0 low') (same_expr high.0 high') both) i)
    (high.1 high' (alone (sublinks_of high.0) (sublinks_of high') (rest (sublinks_of low.0) (sublinks_of high.0 ++ []) (sublinks_of low') (sublinks_of high' ++ []) r)) (and_right (same_expr low.0 low') (same_expr high.0 high') both) i)
good_at (Expr-F.InList operand ys) (Expr-F.InList operand' zs) p h =
    let q = alone (sublinks_of operand.0 ++ in_list (exprs ys)) (sublinks_of operand' ++ in_list zs) p in
    λ i. Expr-F.InList
    (operand.1 operand' (first (sublinks_of operand.0) (in_list (exprs ys)) (sublinks_of operand') (in_list zs) q) (and_left (same_expr operand.0 operand') (same_each same_part (map same_expr (exprs ys)) zs) h) i)
    (each ys zs (rest (sublinks_of operand.0) (in_list (exprs ys)) (sublinks_of operand') (in_list zs) q) (and_right (same_expr operand.0 operand') (same_each same_part (map same_expr (exprs ys)) zs) h) i)
good_at (Expr-F.And ys) (Expr-F.And zs) p h = ap Expr-F.And (each ys zs (alone (in_list (exprs ys)) (in_list zs) p) h)
good_at (Expr-F.Or ys) (Expr-F.Or zs) p h = ap Expr-F.Or (each ys zs (alone (in_list (exprs ys)) (in_list zs) p) h)
good_at (Expr-F.Not operand) (Expr-F.Not operand') p h = ap Expr-F.Not (one operand operand' p h)
good_at (Expr-F.Test test operand) (Expr-F.Test test' operand') p h = λ i. Expr-F.Test (tests_equal test test' (and_left (same_test test test') (same_expr operand.0 operand') h) i) (one operand operand' p (and_right (same_test test test') (same_expr operand.0 operand') h) i)
good_at (Expr-F.Coalesce ys) (Expr-F.Coalesce zs) p h = ap Expr-F.Coalesce (each ys zs (alone (in_list (exprs ys)) (in_list zs) p) h)
good_at (Expr-F.Case operand ys otherwise) (Expr-F.Case operand' zs otherwise') p h =
    let same_arms = same_each same_arm (map test_of_arm (bare_arms ys)) zs in
    let same_otherwise = same_option (test_of_option (bare_option otherwise)) otherwise' in
    let same_operand = same_option (test_of_option (bare_option operand)) operand' in
    let both = and_right same_operand (same_arms && same_otherwise) h in
    let q = split (parts_of_option (bare_option operand)) (parts_of_arms (bare_arms ys) ++ parts_of_option (bare_option otherwise)) (parts_of_option operand') (parts_of_arms zs ++ parts_of_option otherwise')
    (alone (inside (parts_of_option (bare_option operand) ++ (parts_of_arms (bare_arms ys) ++ parts_of_option (bare_option otherwise)))) (inside (parts_of_option operand' ++ (parts_of_arms zs ++ parts_of_option otherwise'))) p) in
    let r = split (parts_of_arms (bare_arms ys)) (parts_of_option (bare_option otherwise)) (parts_of_arms zs) (parts_of_option otherwise') q.1 in
    λ i. Expr-F.Case (option operand operand' q.0 (and_left same_operand (same_arms && same_otherwise) h) i) (arms ys zs r.0 (and_left same_arms same_otherwise both) i) (option otherwise otherwise' r.1 (and_right same_arms same_otherwise both) i)
good_at (Expr-F.Exists sub query) (Expr-F.Exists sub' query') p h =
    sym (expr.outs-Exists sub query.0)
    ∙ ap out-Expr (p (record { number = sub; node = expr.Exists sub query.0 }) (record { number = sub'; node = expr.Exists sub' query' }) (inl refl) (inl refl) (numbers_equal sub sub' h))
    ∙ expr.outs-Exists sub' query'
good_at (Expr-F.InSub sub operand query) (Expr-F.InSub sub' operand' query') p h =
    sym (expr.outs-InSub sub operand.0 query.0)
    ∙ ap out-Expr (p (record { number = sub; node = expr.InSub sub operand.0 query.0 }) (record { number = sub'; node = expr.InSub sub' operand' query' }) (inl refl) (inl refl) (numbers_equal sub sub' h))
    ∙ expr.outs-InSub sub' operand' query'
good_at _ _ p h = absurd (false_true h)

sublinks_at : (x : Plain) → sublinks_of (roll-Expr x) ≡ expr_found (levels x)
sublinks_at = para-roll-Expr Found Found Found Found Found expr_found tree_found order_found output_found query_found

step : (y : Node) → Good (roll-Expr (bare y))
step y b p h =
    let other = out-Expr b in
    let q = subst (λ f. Equal f (sublinks_of b)) (sublinks_at (bare y)) p in
    let r = subst (λ f. Equal (expr_found (levels (bare y))) f) (ap sublinks_of (sym (roll-out-Expr b)) ∙ sublinks_at other) q in
    ap roll-Expr (good_at y other r (sym (at_level (bare y) b) ∙ h)) ∙ roll-out-Expr b

good : (x : Expr) → Good x
good = ind-Expr Good (λ t. Unit {0}) (λ o. Unit {0}) (λ u. Unit {0}) (λ q. Unit {0})
    (λ x y e. subst (λ z. Good (roll-Expr z)) e (step y))
    (λ x y e. tt) (λ x y e. tt) (λ x y e. tt) (λ x y e. tt)

pub same_are_equal : (a b : Expr) → ((s t : Sublink) → Contains (sublinks_of a) s → Contains (sublinks_of b) t → s.number ≡ t.number → s.node ≡ t.node) → same_expr a b ≡ true → a ≡ b
same_are_equal a b p h = good a b (λ s t q r e. p s t (from_in s (sublinks_of a) q) (from_in t (sublinks_of b) r) e) h
