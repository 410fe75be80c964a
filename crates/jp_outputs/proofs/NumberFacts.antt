-- The numbers that are found in expressions are those of their outermost sublinks.
use Rattle.std.proofs.Common.{◌≡◌, ◌∙◌, ap, ap₂, sym, subst, refl, ℕ, ◌+◌, ◌<◌, List, [], ◌∷◌, ◌++◌, map, length, get_or, take, append-nil, append_assoc, true, eq-eqb}
use Rattle.std.specs.Prelude.{All, ◌==◌}
use Rattle.std.proofs.lemmas.List.{take_more}
use Rattle.std.specs.List.{flat_map}
use Rattle.std.specs.Borrow.{Bor}
use Rattle.jp_facts.proofs.Members.{In, any_in}
use Rattle.jp_query.specs.declared.Expr.{Expr}
use Rattle.jp_query.specs.declared.Expr.TheOpen.{Expr-F}
use Rattle.jp_query.specs.declared.Expr.TheViews.{roll-Expr}
use Rattle.jp_query.specs.declared.JoinTree.{JoinTree}
use Rattle.jp_query.specs.declared.Order.{Order}
use Rattle.jp_query.specs.declared.Output.{Output}
use Rattle.jp_query.specs.declared.Query.{Query}
use Rattle.jp_query.specs.declared.Expr.TheFolds.{para-JoinTree, para-Order, para-Output, para-Query, para-roll-Expr}
use Rattle.jp_query.specs.Layers.{ExprLayer}
use Rattle.jp_query.specs.Outermost.{Outer, Outers, outers_in, outer_here, expr_outers, outermost}
use Rattle.jp_query.specs.Parts.{all_in, parts}
use Rattle.jp_induction.proofs.EachPart.{Each, all_of_each, append_map, each_mapped, parts_map}
use Rattle.jp_induction.proofs.Induction.{expr_alone}
use Rattle.jp_joins.specs.Lending.{number_here, numbers_in, numbers_in_all}
use Rattle.jp_joins.proofs.SameRows.{numbers_at}
use Rattle.jp_items.specs.Scenes.{IsListed, is_listed}
use Rattle.jp_lists.proofs.GivenCells.{outer_level}
use Rattle.jp_lists.proofs.Arounds.{each_from}
use Rattle.jp_outputs.specs.Exprs.{lent_exprs, sublink_number}

-- ---- one expression

abbrev beside : Expr → Expr × Outers
beside x = (x, outermost x)

abbrev tree_beside : JoinTree → JoinTree × Outers
tree_beside x = (x, para-JoinTree Outers Outers Outers Outers Outers expr_outers (λ t. []) (λ o. []) (λ u. []) (λ q. []) x)

abbrev order_beside : Order → Order × Outers
order_beside x = (x, para-Order Outers Outers Outers Outers Outers expr_outers (λ t. []) (λ o. []) (λ u. []) (λ q. []) x)

abbrev output_beside : Output → Output × Outers
output_beside x = (x, para-Output Outers Outers Outers Outers Outers expr_outers (λ t. []) (λ o. []) (λ u. []) (λ q. []) x)

abbrev query_beside : Query → Query × Outers
query_beside x = (x, para-Query Outers Outers Outers Outers Outers expr_outers (λ t. []) (λ o. []) (λ u. []) (λ q. []) x)

inner_outers : (xs : List Expr) → map outers_in (map beside xs) ≡ map outermost xs
inner_outers [] = refl
inner_outers (x ∷ xs) = ap (λ os. outermost x ∷ os) (inner_outers xs)

outers_at : (x : ExprLayer) → outermost (roll-Expr x) ≡ outer_here (outer_level x) ++ all_in (map outermost (parts x))
outers_at x = para-roll-Expr Outers Outers Outers Outers Outers expr_outers (λ t. []) (λ o. []) (λ u. []) (λ q. []) x
    ∙ ap (λ os. outer_here (outer_level x) ++ all_in os) (ap (map outers_in) (parts_map beside tree_beside order_beside output_beside query_beside x) ∙ inner_outers (parts x))

here_same : (x : ExprLayer) → number_here x ≡ map sublink_number (outer_here (outer_level x))
here_same (Expr-F.Exists sub query) = refl
here_same (Expr-F.InSub sub operand query) = refl
here_same x = refl

abbrev Good : Expr → Type 0
Good e = numbers_in e ≡ map sublink_number (outermost e)

all_good : (es : List Expr) → Each Good es → all_in (map numbers_in es) ≡ map sublink_number (all_in (map outermost es))
all_good [] h = refl
all_good (e ∷ es) h = ap₂ (λ (ns ms : List ℕ). ns ++ ms) h.0 (all_good es h.1) ∙ sym (append_map sublink_number (outermost e) (all_in (map outermost es)))

step : (x : ExprLayer) → Each Good (parts x) → Good (roll-Expr x)
step x good = numbers_at x ∙ ap₂ (λ (ns ms : List ℕ). ns ++ ms) (here_same x) (all_good (parts x) good)
    ∙ sym (append_map sublink_number (outer_here (outer_level x)) (all_in (map outermost (parts x)))) ∙ ap (map sublink_number) (sym (outers_at x))

pub numbers_are : (e : Expr) → numbers_in e ≡ map sublink_number (outermost e)
numbers_are = expr_alone Good step

-- ---- several

all_numbers_both : (es fs : List Expr) → numbers_in_all (es ++ fs) ≡ numbers_in_all es ++ numbers_in_all fs
all_numbers_both [] fs = refl
all_numbers_both (e ∷ es) fs = ap (λ ns. numbers_in e ++ ns) (all_numbers_both es fs) ∙ sym (append_assoc (numbers_in e) (numbers_in_all es) (numbers_in_all fs))

pub all_numbers_are : (es : List Expr) → numbers_in_all es ≡ map sublink_number (flat_map outermost es)
all_numbers_are [] = refl
all_numbers_are (e ∷ es) = ap₂ (λ (ns ms : List ℕ). ns ++ ms) (numbers_are e) (all_numbers_are es) ∙ sym (append_map sublink_number (outermost e) (flat_map outermost es))

-- each of the sublinks is among those whose numbers were found
pub all_listed : (os : List Outer) (numbers : List ℕ) → numbers ≡ map sublink_number os → All (IsListed numbers) os
all_listed os numbers is = all_of_each (IsListed numbers) os (each_mapped (λ k. is_listed numbers k ≡ true) sublink_number os
    (each_from (λ k. is_listed numbers k ≡ true) (map sublink_number os) (λ k h. any_in (λ number. number == k) k numbers (subst (In k) (sym is) h) (eq-eqb k k refl))))

-- ---- a loop over lent expressions

pub numbers_more : (es : List (Bor Expr)) (i : ℕ) (d : Bor Expr) (old new found : List ℕ) → i < length es → old ≡ numbers_in_all (lent_exprs (take i es)) → new ≡ old ++ found → found ≡ numbers_in (get_or es i d).now
    → new ≡ numbers_in_all (lent_exprs (take (i + 1) es))
numbers_more es i d old new found h is more one =
    more ∙ ap₂ (λ (ns ms : List ℕ). ns ++ ms) is (one ∙ sym (append-nil (numbers_in (get_or es i d).now)))
    ∙ sym (all_numbers_both (lent_exprs (take i es)) ((get_or es i d).now ∷ []))
    ∙ ap numbers_in_all (sym (append_map (λ (e : Bor Expr). e.now) (take i es) (get_or es i d ∷ []))) ∙ ap (λ xs. numbers_in_all (lent_exprs xs)) (sym (take_more es i d h))
