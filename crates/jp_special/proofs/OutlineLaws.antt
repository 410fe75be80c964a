-- The placeholders of the conditions of each form of tree.
use Rattle.std.proofs.Common.{◌≡◌, ◌∙◌, sym, ap, ap₂, refl, ℕ, ◌+◌, ◌<◌, List, [], ◌∷◌, ◌++◌, map, length, get_or, true, false, append_assoc}
use Rattle.jp_query.specs.declared.Expr.{Expr}
use Rattle.jp_query.specs.declared.JoinKind.{JoinKind}
use Rattle.jp_query.specs.declared.JoinKind.TheVariants as join
use Rattle.jp_query.specs.declared.JoinTree.{JoinTree}
use Rattle.jp_query.specs.declared.JoinTree.TheVariants as tree
use Rattle.jp_query.specs.declared.Order.{Order}
use Rattle.jp_query.specs.declared.Output.{Output}
use Rattle.jp_query.specs.declared.Query.{Query, out-Query}
use Rattle.jp_problem.specs.Shapes.{Shape, shape_of, block_shape, exprs_in, together}
use Rattle.jp_problem.specs.Blocks.{placeholders_in, output_expr, order_expr, listed_exprs}
use Rattle.jp_problem.proofs.ShapeLaws.{at_base, at_sub, at_join, at_from}
use Rattle.jp_special.specs.Placeholders.{in_each, in_output, in_order}
use Rattle.jp_special.specs.Walks.{is_full, placeholder_list}
use Rattle.jp_special.proofs.PlaceholderLaws.{at_output, at_order}
use Rattle.jp_special.proofs.WalkLaws.{first_members, one_member_more}

abbrev pub found_in : Shape → List ℕ
found_in shape = in_each placeholders_in (exprs_in shape)

pub each_append : (xs ys : List Expr) → in_each placeholders_in (xs ++ ys) ≡ in_each placeholders_in xs ++ in_each placeholders_in ys
each_append [] ys = refl
each_append (x ∷ xs) ys = ap (λ rest. placeholders_in x ++ rest) (each_append xs ys) ∙ sym (append_assoc (placeholders_in x) (in_each placeholders_in xs) (in_each placeholders_in ys))

three : (l r on : List Expr) → in_each placeholders_in (l ++ r ++ on) ≡ (in_each placeholders_in l ++ in_each placeholders_in r) ++ in_each placeholders_in on
three l r on = each_append (l ++ r) on ∙ ap (λ x. x ++ in_each placeholders_in on) (each_append l r)

pub conditions_base : (rel : ℕ) (name : List ℕ) (table : ℕ) → found_in (shape_of (tree.Base rel name table)) ≡ []
conditions_base rel name table = ap found_in (at_base rel name table)

pub conditions_sub : (rel : ℕ) (name : List ℕ) (query : Query) → found_in (shape_of (tree.Sub rel name query)) ≡ []
conditions_sub rel name query = ap found_in (at_sub rel name query)

pub conditions_full : (kind : JoinKind) (left right : JoinTree) (on : List Expr) → is_full kind ≡ true → found_in (shape_of (tree.Join kind left right on)) ≡ []
conditions_full join.Full left right on e = ap found_in (at_join join.Full left right on)
conditions_full join.Inner left right on e = cc
conditions_full join.Left left right on e = cc
conditions_full join.Right left right on e = cc
conditions_full join.Semi left right on e = cc
conditions_full join.Anti left right on e = cc

pub conditions_join : (kind : JoinKind) (left right : JoinTree) (on : List Expr) → is_full kind ≡ false → found_in (shape_of (tree.Join kind left right on)) ≡ (found_in (shape_of left) ++ found_in (shape_of right)) ++ in_each placeholders_in on
conditions_join join.Full left right on e = cc
conditions_join join.Inner left right on e = ap found_in (at_join join.Inner left right on) ∙ three (exprs_in (shape_of left)) (exprs_in (shape_of right)) on
conditions_join join.Left left right on e = ap found_in (at_join join.Left left right on) ∙ three (exprs_in (shape_of left)) (exprs_in (shape_of right)) on
conditions_join join.Right left right on e = ap found_in (at_join join.Right left right on) ∙ three (exprs_in (shape_of left)) (exprs_in (shape_of right)) on
conditions_join join.Semi left right on e = ap found_in (at_join join.Semi left right on) ∙ three (exprs_in (shape_of left)) (exprs_in (shape_of right)) on
conditions_join join.Anti left right on e = ap found_in (at_join join.Anti left right on) ∙ three (exprs_in (shape_of left)) (exprs_in (shape_of right)) on

pub conditions_from : (members : List JoinTree) (conds : List Expr) → found_in (shape_of (tree.From members conds)) ≡ found_in (together (map shape_of members)) ++ in_each placeholders_in conds
conditions_from members conds = ap found_in (at_from members conds) ∙ each_append (exprs_in (together (map shape_of members))) conds

pub conditions_more : (members : List JoinTree) (i : ℕ) (d : JoinTree) → i < length members → found_in (first_members members (i + 1)) ≡ found_in (first_members members i) ++ found_in (shape_of (get_or members i d))
conditions_more members i d low = ap found_in (one_member_more members i d low) ∙ each_append (exprs_in (first_members members i)) (exprs_in (shape_of (get_or members i d)))

pub loop_more : (members : List JoinTree) (i : ℕ) (member : JoinTree) (all more after : List ℕ) → i < length members → member ≡ get_or members i member → all ≡ found_in (first_members members i) → more ≡ found_in (shape_of member) → after ≡ all ++ more → after ≡ found_in (first_members members (i + 1))
loop_more members i member all more after low is before one e = e ∙ ap₂ ◌++◌ before (one ∙ ap (λ t. found_in (shape_of t)) is) ∙ sym (conditions_more members i member low)

-- ---- outputs and ORDER BY items

outputs_each : (outputs : List Output) → in_each placeholders_in (map output_expr outputs) ≡ in_each in_output outputs
outputs_each [] = refl
outputs_each (o ∷ outputs) = ap₂ ◌++◌ (sym (at_output o)) (outputs_each outputs)

orders_each : (orders : List Order) → in_each placeholders_in (map order_expr orders) ≡ in_each in_order orders
orders_each [] = refl
orders_each (o ∷ orders) = ap₂ ◌++◌ (sym (at_order o)) (orders_each orders)

pub list_is : (query : Query) → placeholder_list query ≡ (found_in (shape_of (out-Query query).tree) ++ in_each placeholders_in (out-Query query).conds) ++ (in_each in_output (out-Query query).columns ++ in_each in_order (out-Query query).order)
list_is query =
    each_append (exprs_in (block_shape query)) (listed_exprs query)
    ∙ ap₂ ◌++◌ (each_append (exprs_in (shape_of (out-Query query).tree)) (out-Query query).conds)
    (each_append (map output_expr (out-Query query).columns) (map order_expr (out-Query query).order) ∙ ap₂ ◌++◌ (outputs_each (out-Query query).columns) (orders_each (out-Query query).order))

pub ruleset conditions = (conditions_base, conditions_sub, conditions_full, conditions_join, conditions_from, list_is)
