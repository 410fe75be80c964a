-- The query of an outermost sublink is less deep than the expression.
use Rattle.std.proofs.Common.{◌≡◌, ◌∙◌, ap, sym, subst, ℕ, ◌+◌, ◌<◌, ◌≤◌, Bool, List, [], ◌∷◌, ◌++◌, map, arith}
use Rattle.std.specs.Prelude.{Option, Some, None, max}
use Rattle.jp_query.specs.declared.Expr.{Expr, size-Expr, size_is-Expr, out-roll-Expr}
use Rattle.jp_query.specs.declared.Expr.TheBlock.{weighs-Expr, the_members, the_sigs, the_carrier, the_depth}
use Rattle.jp_query.specs.declared.Expr.TheOpen.{Expr-F}
use Rattle.jp_query.specs.declared.Expr.TheViews.{roll-Expr}
use Rattle.jp_query.specs.declared.Query.{size-Query}
use Rattle.jp_query.specs.Layers.{ExprLayer}
use Rattle.jp_query.specs.Outermost.{Outer, outer_here, outermost}
use Rattle.jp_query.specs.Parts.{all_in, term_part, arm_parts, option_part, parts}
use Rattle.jp_laws.proofs.EachPart.{Each, each_append, each_both, each_in_parts, each_map, each_weaker}
use Rattle.jp_induction.proofs.Induction.{expr_alone}
use Rattle.jp_naive.proofs.GivenFacts.{outer_level, outers_at}
use denote.Hole.Carrier as Carrier
use denote.Param.Weighed.{most}
use Rattle.jp_query.specs.declared.Expr.TheViews.{weight-Expr-Case-0}

-- how deep the deepest child of a level is
abbrev weight : ExprLayer → ℕ
weight = (weighs-Expr).weight (Carrier.Values the_members the_sigs the_carrier) the_depth

level_size : (x : ExprLayer) → size-Expr (roll-Expr x) ≡ weight x + 1
level_size x = size_is-Expr (roll-Expr x) ∙ ap (λ o. weight o + 1) (out-roll-Expr x)

each_most : {X : Type 0} (μ : X → ℕ) (xs : List X) → Each (λ x. μ x ≤ most μ xs) xs
each_most μ [] = tt
each_most μ (x ∷ xs) = (omega arith, each_weaker (λ y. μ y ≤ most μ xs) (λ y. μ y ≤ most μ (x ∷ xs)) (λ y h. omega (arith, h)) xs (each_most μ xs))

all_below : (μ : Expr → ℕ) (es : List Expr) (n : ℕ) → most μ es ≤ n → Each (λ e. μ e ≤ n) es
all_below μ es n h = each_weaker (λ e. μ e ≤ most μ es) (λ e. μ e ≤ n) (λ e k. omega (arith, h, k)) es (each_most μ es)

terms_below : (terms : List (Bool × Expr)) (n : ℕ) → most (λ (t : Bool × Expr). max 0 (max (size-Expr t.1) 0)) terms ≤ n → Each (λ e. size-Expr e ≤ n) (map term_part terms)
terms_below [] n h = tt
terms_below (t ∷ ts) n h = (omega (arith, h), terms_below ts n (omega (arith, h)))

arms_below : (arms : List (Expr × Expr)) (n : ℕ) → most (λ (a : Expr × Expr). max (size-Expr a.0) (max (size-Expr a.1) 0)) arms ≤ n → Each (λ e. size-Expr e ≤ n) (arm_parts arms)
arms_below [] n h = tt
arms_below (a ∷ as') n h = (omega (arith, h), (omega (arith, h), arms_below as' n (omega (arith, h))))

option_below : (o : Option Expr) (n : ℕ) → weight-Expr-Case-0 o ≤ n → Each (λ e. size-Expr e ≤ n) (option_part o)
option_below None n h = tt
option_below (Some e) n h = (omega (arith, h), tt)

abbrev Below : ExprLayer → Expr → Type 0
Below x e = size-Expr e ≤ weight x

parts_below : (x : ExprLayer) → Each (Below x) (parts x)
parts_below (Expr-F.Col rel col ty nulled) = tt
parts_below (Expr-F.Lit v ty) = tt
parts_below (Expr-F.Place inner rels) = (omega arith, tt)
parts_below (Expr-F.Neg e) = (omega arith, tt)
parts_below (Expr-F.Sum terms) = terms_below terms (weight (Expr-F.Sum terms)) (omega arith)
parts_below (Expr-F.Product es) = all_below size-Expr es (weight (Expr-F.Product es)) (omega arith)
parts_below (Expr-F.Concat es) = all_below size-Expr es (weight (Expr-F.Concat es)) (omega arith)
parts_below (Expr-F.Compare op a b) = (omega arith, (omega arith, tt))
parts_below (Expr-F.Between a b c) = (omega arith, (omega arith, (omega arith, tt)))
parts_below (Expr-F.InList e es) = (omega arith, all_below size-Expr es (weight (Expr-F.InList e es)) (omega arith))
parts_below (Expr-F.And es) = all_below size-Expr es (weight (Expr-F.And es)) (omega arith)
parts_below (Expr-F.Or es) = all_below size-Expr es (weight (Expr-F.Or es)) (omega arith)
parts_below (Expr-F.Not e) = (omega arith, tt)
parts_below (Expr-F.Test test e) = (omega arith, tt)
parts_below (Expr-F.Coalesce es) = all_below size-Expr es (weight (Expr-F.Coalesce es)) (omega arith)
parts_below (Expr-F.Case operand arms otherwise) = each_append (Below (Expr-F.Case operand arms otherwise)) (option_part operand) (arm_parts arms ++ option_part otherwise)
    (option_below operand (weight (Expr-F.Case operand arms otherwise)) (omega arith))
    (each_append (Below (Expr-F.Case operand arms otherwise)) (arm_parts arms) (option_part otherwise)
    (arms_below arms (weight (Expr-F.Case operand arms otherwise)) (omega arith)) (option_below otherwise (weight (Expr-F.Case operand arms otherwise)) (omega arith)))
parts_below (Expr-F.Exists sub q) = tt
parts_below (Expr-F.InSub sub e q) = (omega arith, tt)

here_below : (x : ExprLayer) → Each (λ o. size-Query o.query ≤ weight x) (outer_here (outer_level x))
here_below (Expr-F.Exists sub q) = (omega arith, tt)
here_below (Expr-F.InSub sub e q) = (omega arith, tt)
here_below x = tt

abbrev Deeper : Expr → Type 0
Deeper e = Each (λ o. size-Query o.query < size-Expr e) (outermost e)

deeper_step : (x : ExprLayer) → Each Deeper (parts x) → Deeper (roll-Expr x)
deeper_step x good =
    let P : Outer → Type 0 = λ o. size-Query o.query < size-Expr (roll-Expr x) in
    subst (Each P) (sym (outers_at x)) (each_append P (outer_here (outer_level x)) (all_in (map outermost (parts x)))
    (each_weaker (λ o. size-Query o.query ≤ weight x) P (λ o h. omega (arith, h, level_size x)) (outer_here (outer_level x)) (here_below x))
    (each_in_parts P (map outermost (parts x)) (each_map (Each P) outermost (parts x)
    (each_both Deeper (Below x) (λ e. Each P (outermost e)) (λ e deep below. each_weaker (λ o. size-Query o.query < size-Expr e) P (λ o h. omega (arith, h, below, level_size x)) (outermost e) deep) (parts x) good (parts_below x)))))

pub deeper : (e : Expr) → Each (λ o. size-Query o.query < size-Expr e) (outermost e)
deeper = expr_alone Deeper deeper_step
