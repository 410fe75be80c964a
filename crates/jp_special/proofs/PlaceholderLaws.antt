-- The placeholders of each form of expression, tree and query, as the code gathers them.
use Rattle.std.proofs.Common.{◌≡◌, ◌∙◌, ap, ap₂, sym, refl, ℕ, ◌+◌, ◌<◌, Bool, List, [], ◌∷◌, ◌++◌, map, length, get_or, take, Option, Some, None, append_assoc}
use Rattle.std.specs.Option.{option_map}
use Rattle.std.proofs.lemmas.List.{take_more, append-nil}
use Rattle.jp_base.specs.declared.values.Ty.{Ty}
use Rattle.jp_base.specs.declared.values.Value.{Value}
use Rattle.jp_query.specs.declared.CmpOp.{CmpOp}
use Rattle.jp_query.specs.declared.IsTest.{IsTest}
use Rattle.jp_query.specs.declared.JoinKind.{JoinKind}
use Rattle.jp_query.specs.declared.Expr.{Expr}
use Rattle.jp_query.specs.declared.Expr.TheVariants as expr
use Rattle.jp_query.specs.declared.JoinTree.{JoinTree}
use Rattle.jp_query.specs.declared.JoinTree.TheVariants as tree
use Rattle.jp_query.specs.declared.Order.{Order, out-Order}
use Rattle.jp_query.specs.declared.Output.{Output, out-Output}
use Rattle.jp_query.specs.declared.Query.{Query, out-Query}
use Rattle.jp_query.specs.Parts.{all_in, term_part, arm_parts, option_part, node_placeholder, nothing_of_leaf, expr_gives, tree_gives, order_gives, output_gives, query_gives}
use Rattle.jp_query.proofs.FoldLaws as laws
use Rattle.jp_problem.specs.Blocks.{placeholders_in}
use Rattle.jp_special.specs.Placeholders.{in_tree, in_query, in_order, in_output, in_term, in_arm, in_option, in_each}

one_part : (a : List ℕ) → (a ++ []) ++ [] ≡ a
one_part a = append-nil (a ++ []) ∙ append-nil a

two_parts : (a b : List ℕ) → (a ++ (b ++ [])) ++ [] ≡ a ++ b
two_parts a b = append-nil (a ++ (b ++ [])) ∙ ap (λ x. a ++ x) (append-nil b)

three_parts : (a b d : List ℕ) → (a ++ (b ++ (d ++ []))) ++ [] ≡ (a ++ b) ++ d
three_parts a b d = append-nil (a ++ (b ++ (d ++ []))) ∙ ap (λ x. a ++ (b ++ x)) (append-nil d) ∙ sym (append_assoc a b d)

maps : {A B C : Type 0} (g : B → C) (f : A → B) (h : A → C) → ((x : A) → g (f x) ≡ h x) → (xs : List A) → map g (map f xs) ≡ map h xs
maps g f h e [] = refl
maps g f h e (x ∷ xs) = ap₂ ◌∷◌ (e x) (maps g f h e xs)

-- one more element of a loop
all_onto : {X : Type 0} (f : X → List ℕ) (xs : List X) (x : X) → all_in (map f (xs ++ x ∷ [])) ≡ all_in (map f xs) ++ f x
all_onto f [] x = append-nil (f x)
all_onto f (y ∷ xs) x = ap (λ rest. f y ++ rest) (all_onto f xs x) ∙ sym (append_assoc (f y) (all_in (map f xs)) (f x))

pub each_more : {X : Type 0} (f : X → List ℕ) (xs : List X) (i : ℕ) (d : X) → i < length xs → in_each f (take (i + 1) xs) ≡ in_each f (take i xs) ++ f (get_or xs i d)
each_more f xs i d within = ap (λ ys. all_in (map f ys)) (take_more xs i d within) ∙ all_onto f (take i xs) (get_or xs i d)

pub at_col : (rel col : ℕ) (ty : Ty) (nulled : ℕ) → placeholders_in (expr.Col rel col ty nulled) ≡ []
at_col rel col ty nulled = laws.at-Col (List ℕ) (List ℕ) (List ℕ) (List ℕ) (List ℕ) (expr_gives ℕ node_placeholder nothing_of_leaf) (tree_gives ℕ node_placeholder nothing_of_leaf) (order_gives ℕ node_placeholder nothing_of_leaf) (output_gives ℕ node_placeholder nothing_of_leaf) (query_gives ℕ node_placeholder nothing_of_leaf) rel col ty nulled

pub at_lit : (value : Value) (ty : Ty) → placeholders_in (expr.Lit value ty) ≡ []
at_lit value ty = laws.at-Lit (List ℕ) (List ℕ) (List ℕ) (List ℕ) (List ℕ) (expr_gives ℕ node_placeholder nothing_of_leaf) (tree_gives ℕ node_placeholder nothing_of_leaf) (order_gives ℕ node_placeholder nothing_of_leaf) (output_gives ℕ node_placeholder nothing_of_leaf) (query_gives ℕ node_placeholder nothing_of_leaf) value ty

pub at_place : (inner : Expr) (rels : ℕ) → placeholders_in (expr.Place inner rels) ≡ rels ∷ placeholders_in inner
at_place inner rels = laws.at-Place (List ℕ) (List ℕ) (List ℕ) (List ℕ) (List ℕ) (expr_gives ℕ node_placeholder nothing_of_leaf) (tree_gives ℕ node_placeholder nothing_of_leaf) (order_gives ℕ node_placeholder nothing_of_leaf) (output_gives ℕ node_placeholder nothing_of_leaf) (query_gives ℕ node_placeholder nothing_of_leaf) inner rels ∙ ap (λ x. rels ∷ x) (one_part (placeholders_in inner))

pub at_neg : (operand : Expr) → placeholders_in (expr.Neg operand) ≡ placeholders_in operand
at_neg operand = laws.at-Neg (List ℕ) (List ℕ) (List ℕ) (List ℕ) (List ℕ) (expr_gives ℕ node_placeholder nothing_of_leaf) (tree_gives ℕ node_placeholder nothing_of_leaf) (order_gives ℕ node_placeholder nothing_of_leaf) (output_gives ℕ node_placeholder nothing_of_leaf) (query_gives ℕ node_placeholder nothing_of_leaf) operand ∙ one_part (placeholders_in operand)

pub at_not : (operand : Expr) → placeholders_in (expr.Not operand) ≡ placeholders_in operand
at_not operand = laws.at-Not (List ℕ) (List ℕ) (List ℕ) (List ℕ) (List ℕ) (expr_gives ℕ node_placeholder nothing_of_leaf) (tree_gives ℕ node_placeholder nothing_of_leaf) (order_gives ℕ node_placeholder nothing_of_leaf) (output_gives ℕ node_placeholder nothing_of_leaf) (query_gives ℕ node_placeholder nothing_of_leaf) operand ∙ one_part (placeholders_in operand)

pub at_test : (test : IsTest) (operand : Expr) → placeholders_in (expr.Test test operand) ≡ placeholders_in operand
at_test test operand = laws.at-Test (List ℕ) (List ℕ) (List ℕ) (List ℕ) (List ℕ) (expr_gives ℕ node_placeholder nothing_of_leaf) (tree_gives ℕ node_placeholder nothing_of_leaf) (order_gives ℕ node_placeholder nothing_of_leaf) (output_gives ℕ node_placeholder nothing_of_leaf) (query_gives ℕ node_placeholder nothing_of_leaf) test operand ∙ one_part (placeholders_in operand)

pub at_product : (list : List Expr) → placeholders_in (expr.Product list) ≡ in_each placeholders_in list
at_product list = laws.at-Product (List ℕ) (List ℕ) (List ℕ) (List ℕ) (List ℕ) (expr_gives ℕ node_placeholder nothing_of_leaf) (tree_gives ℕ node_placeholder nothing_of_leaf) (order_gives ℕ node_placeholder nothing_of_leaf) (output_gives ℕ node_placeholder nothing_of_leaf) (query_gives ℕ node_placeholder nothing_of_leaf) list ∙ append-nil (in_each placeholders_in list)

pub at_concat : (list : List Expr) → placeholders_in (expr.Concat list) ≡ in_each placeholders_in list
at_concat list = laws.at-Concat (List ℕ) (List ℕ) (List ℕ) (List ℕ) (List ℕ) (expr_gives ℕ node_placeholder nothing_of_leaf) (tree_gives ℕ node_placeholder nothing_of_leaf) (order_gives ℕ node_placeholder nothing_of_leaf) (output_gives ℕ node_placeholder nothing_of_leaf) (query_gives ℕ node_placeholder nothing_of_leaf) list ∙ append-nil (in_each placeholders_in list)

pub at_and : (list : List Expr) → placeholders_in (expr.And list) ≡ in_each placeholders_in list
at_and list = laws.at-And (List ℕ) (List ℕ) (List ℕ) (List ℕ) (List ℕ) (expr_gives ℕ node_placeholder nothing_of_leaf) (tree_gives ℕ node_placeholder nothing_of_leaf) (order_gives ℕ node_placeholder nothing_of_leaf) (output_gives ℕ node_placeholder nothing_of_leaf) (query_gives ℕ node_placeholder nothing_of_leaf) list ∙ append-nil (in_each placeholders_in list)

pub at_or : (list : List Expr) → placeholders_in (expr.Or list) ≡ in_each placeholders_in list
at_or list = laws.at-Or (List ℕ) (List ℕ) (List ℕ) (List ℕ) (List ℕ) (expr_gives ℕ node_placeholder nothing_of_leaf) (tree_gives ℕ node_placeholder nothing_of_leaf) (order_gives ℕ node_placeholder nothing_of_leaf) (output_gives ℕ node_placeholder nothing_of_leaf) (query_gives ℕ node_placeholder nothing_of_leaf) list ∙ append-nil (in_each placeholders_in list)

pub at_coalesce : (list : List Expr) → placeholders_in (expr.Coalesce list) ≡ in_each placeholders_in list
at_coalesce list = laws.at-Coalesce (List ℕ) (List ℕ) (List ℕ) (List ℕ) (List ℕ) (expr_gives ℕ node_placeholder nothing_of_leaf) (tree_gives ℕ node_placeholder nothing_of_leaf) (order_gives ℕ node_placeholder nothing_of_leaf) (output_gives ℕ node_placeholder nothing_of_leaf) (query_gives ℕ node_placeholder nothing_of_leaf) list ∙ append-nil (in_each placeholders_in list)

pub at_sum : (terms : List (Bool × Expr)) → placeholders_in (expr.Sum terms) ≡ in_each in_term terms
at_sum terms = laws.at-Sum (List ℕ) (List ℕ) (List ℕ) (List ℕ) (List ℕ) (expr_gives ℕ node_placeholder nothing_of_leaf) (tree_gives ℕ node_placeholder nothing_of_leaf) (order_gives ℕ node_placeholder nothing_of_leaf) (output_gives ℕ node_placeholder nothing_of_leaf) (query_gives ℕ node_placeholder nothing_of_leaf) terms ∙ append-nil (all_in (map term_part (map (laws.of_term (List ℕ) (List ℕ) (List ℕ) (List ℕ) (List ℕ) (expr_gives ℕ node_placeholder nothing_of_leaf) (tree_gives ℕ node_placeholder nothing_of_leaf) (order_gives ℕ node_placeholder nothing_of_leaf) (output_gives ℕ node_placeholder nothing_of_leaf) (query_gives ℕ node_placeholder nothing_of_leaf)) terms))) ∙ ap all_in (maps term_part (laws.of_term (List ℕ) (List ℕ) (List ℕ) (List ℕ) (List ℕ) (expr_gives ℕ node_placeholder nothing_of_leaf) (tree_gives ℕ node_placeholder nothing_of_leaf) (order_gives ℕ node_placeholder nothing_of_leaf) (output_gives ℕ node_placeholder nothing_of_leaf) (query_gives ℕ node_placeholder nothing_of_leaf)) in_term (λ _. refl) terms)

pub at_compare : (op : CmpOp) (left right : Expr) → placeholders_in (expr.Compare op left right) ≡ placeholders_in left ++ placeholders_in right
at_compare op left right = laws.at-Compare (List ℕ) (List ℕ) (List ℕ) (List ℕ) (List ℕ) (expr_gives ℕ node_placeholder nothing_of_leaf) (tree_gives ℕ node_placeholder nothing_of_leaf) (order_gives ℕ node_placeholder nothing_of_leaf) (output_gives ℕ node_placeholder nothing_of_leaf) (query_gives ℕ node_placeholder nothing_of_leaf) op left right ∙ two_parts (placeholders_in left) (placeholders_in right)

pub at_between : (operand low high : Expr) → placeholders_in (expr.Between operand low high) ≡ (placeholders_in operand ++ placeholders_in low) ++ placeholders_in high
at_between operand low high = laws.at-Between (List ℕ) (List ℕ) (List ℕ) (List ℕ) (List ℕ) (expr_gives ℕ node_placeholder nothing_of_leaf) (tree_gives ℕ node_placeholder nothing_of_leaf) (order_gives ℕ node_placeholder nothing_of_leaf) (output_gives ℕ node_placeholder nothing_of_leaf) (query_gives ℕ node_placeholder nothing_of_leaf) operand low high ∙ three_parts (placeholders_in operand) (placeholders_in low) (placeholders_in high)

pub at_in_list : (operand : Expr) (list : List Expr) → placeholders_in (expr.InList operand list) ≡ placeholders_in operand ++ in_each placeholders_in list
at_in_list operand list = laws.at-InList (List ℕ) (List ℕ) (List ℕ) (List ℕ) (List ℕ) (expr_gives ℕ node_placeholder nothing_of_leaf) (tree_gives ℕ node_placeholder nothing_of_leaf) (order_gives ℕ node_placeholder nothing_of_leaf) (output_gives ℕ node_placeholder nothing_of_leaf) (query_gives ℕ node_placeholder nothing_of_leaf) operand list ∙ append-nil (placeholders_in operand ++ in_each placeholders_in list)

pub at_exists : (sub : ℕ) (query : Query) → placeholders_in (expr.Exists sub query) ≡ in_query query
at_exists sub query = laws.at-Exists (List ℕ) (List ℕ) (List ℕ) (List ℕ) (List ℕ) (expr_gives ℕ node_placeholder nothing_of_leaf) (tree_gives ℕ node_placeholder nothing_of_leaf) (order_gives ℕ node_placeholder nothing_of_leaf) (output_gives ℕ node_placeholder nothing_of_leaf) (query_gives ℕ node_placeholder nothing_of_leaf) sub query ∙ append-nil (in_query query)

pub at_in_sub : (sub : ℕ) (operand : Expr) (query : Query) → placeholders_in (expr.InSub sub operand query) ≡ placeholders_in operand ++ in_query query
at_in_sub sub operand query = laws.at-InSub (List ℕ) (List ℕ) (List ℕ) (List ℕ) (List ℕ) (expr_gives ℕ node_placeholder nothing_of_leaf) (tree_gives ℕ node_placeholder nothing_of_leaf) (order_gives ℕ node_placeholder nothing_of_leaf) (output_gives ℕ node_placeholder nothing_of_leaf) (query_gives ℕ node_placeholder nothing_of_leaf) sub operand query ∙ ap₂ ◌++◌ (append-nil (placeholders_in operand)) (append-nil (in_query query))

arms_apart : (arms : List (Expr × Expr)) → all_in (arm_parts (map (laws.of_arm (List ℕ) (List ℕ) (List ℕ) (List ℕ) (List ℕ) (expr_gives ℕ node_placeholder nothing_of_leaf) (tree_gives ℕ node_placeholder nothing_of_leaf) (order_gives ℕ node_placeholder nothing_of_leaf) (output_gives ℕ node_placeholder nothing_of_leaf) (query_gives ℕ node_placeholder nothing_of_leaf)) arms)) ≡ in_each in_arm arms
arms_apart [] = refl
arms_apart (arm ∷ arms) = ap (λ x. placeholders_in arm.0 ++ (placeholders_in arm.1 ++ x)) (arms_apart arms) ∙ sym (append_assoc (placeholders_in arm.0) (placeholders_in arm.1) (in_each in_arm arms))

all_append : (xs ys : List (List ℕ)) → all_in (xs ++ ys) ≡ all_in xs ++ all_in ys
all_append [] ys = refl
all_append (x ∷ xs) ys = ap (λ rest. x ++ rest) (all_append xs ys) ∙ sym (append_assoc x (all_in xs) (all_in ys))

option_apart : (o : Option Expr) → all_in (option_part (option_map placeholders_in o)) ≡ in_option o
option_apart None = refl
option_apart (Some e) = append-nil (placeholders_in e)

pub at_case : (operand : Option Expr) (arms : List (Expr × Expr)) (otherwise : Option Expr) → placeholders_in (expr.Case operand arms otherwise) ≡ (in_option operand ++ in_each in_arm arms) ++ in_option otherwise
at_case operand arms otherwise =
    laws.at-Case (List ℕ) (List ℕ) (List ℕ) (List ℕ) (List ℕ) (expr_gives ℕ node_placeholder nothing_of_leaf) (tree_gives ℕ node_placeholder nothing_of_leaf) (order_gives ℕ node_placeholder nothing_of_leaf) (output_gives ℕ node_placeholder nothing_of_leaf) (query_gives ℕ node_placeholder nothing_of_leaf) operand arms otherwise
    ∙ append-nil (all_in (option_part (option_map placeholders_in operand) ++ (arm_parts (map (laws.of_arm (List ℕ) (List ℕ) (List ℕ) (List ℕ) (List ℕ) (expr_gives ℕ node_placeholder nothing_of_leaf) (tree_gives ℕ node_placeholder nothing_of_leaf) (order_gives ℕ node_placeholder nothing_of_leaf) (output_gives ℕ node_placeholder nothing_of_leaf) (query_gives ℕ node_placeholder nothing_of_leaf)) arms) ++ option_part (option_map placeholders_in otherwise))))
    ∙ all_append (option_part (option_map placeholders_in operand)) (arm_parts (map (laws.of_arm (List ℕ) (List ℕ) (List ℕ) (List ℕ) (List ℕ) (expr_gives ℕ node_placeholder nothing_of_leaf) (tree_gives ℕ node_placeholder nothing_of_leaf) (order_gives ℕ node_placeholder nothing_of_leaf) (output_gives ℕ node_placeholder nothing_of_leaf) (query_gives ℕ node_placeholder nothing_of_leaf)) arms) ++ option_part (option_map placeholders_in otherwise))
    ∙ ap₂ ◌++◌ (option_apart operand) (all_append (arm_parts (map (laws.of_arm (List ℕ) (List ℕ) (List ℕ) (List ℕ) (List ℕ) (expr_gives ℕ node_placeholder nothing_of_leaf) (tree_gives ℕ node_placeholder nothing_of_leaf) (order_gives ℕ node_placeholder nothing_of_leaf) (output_gives ℕ node_placeholder nothing_of_leaf) (query_gives ℕ node_placeholder nothing_of_leaf)) arms)) (option_part (option_map placeholders_in otherwise)) ∙ ap₂ ◌++◌ (arms_apart arms) (option_apart otherwise))
    ∙ sym (append_assoc (in_option operand) (in_each in_arm arms) (in_option otherwise))

-- ---- trees, outputs, ORDER BY items and queries

pub at_base : (rel : ℕ) (name : List ℕ) (table : ℕ) → in_tree (tree.Base rel name table) ≡ []
at_base rel name table = laws.at-Base (List ℕ) (List ℕ) (List ℕ) (List ℕ) (List ℕ) (expr_gives ℕ node_placeholder nothing_of_leaf) (tree_gives ℕ node_placeholder nothing_of_leaf) (order_gives ℕ node_placeholder nothing_of_leaf) (output_gives ℕ node_placeholder nothing_of_leaf) (query_gives ℕ node_placeholder nothing_of_leaf) rel name table

pub at_sub : (rel : ℕ) (name : List ℕ) (query : Query) → in_tree (tree.Sub rel name query) ≡ in_query query
at_sub rel name query = laws.at-Sub (List ℕ) (List ℕ) (List ℕ) (List ℕ) (List ℕ) (expr_gives ℕ node_placeholder nothing_of_leaf) (tree_gives ℕ node_placeholder nothing_of_leaf) (order_gives ℕ node_placeholder nothing_of_leaf) (output_gives ℕ node_placeholder nothing_of_leaf) (query_gives ℕ node_placeholder nothing_of_leaf) rel name query ∙ append-nil (in_query query)

pub at_join : (kind : JoinKind) (left right : JoinTree) (on : List Expr) → in_tree (tree.Join kind left right on) ≡ (in_tree left ++ in_tree right) ++ in_each placeholders_in on
at_join kind left right on = laws.at-Join (List ℕ) (List ℕ) (List ℕ) (List ℕ) (List ℕ) (expr_gives ℕ node_placeholder nothing_of_leaf) (tree_gives ℕ node_placeholder nothing_of_leaf) (order_gives ℕ node_placeholder nothing_of_leaf) (output_gives ℕ node_placeholder nothing_of_leaf) (query_gives ℕ node_placeholder nothing_of_leaf) kind left right on ∙ ap₂ ◌++◌ (ap (λ x. in_tree left ++ x) (append-nil (in_tree right))) (append-nil (in_each placeholders_in on))

pub at_from : (members : List JoinTree) (conds : List Expr) → in_tree (tree.From members conds) ≡ in_each in_tree members ++ in_each placeholders_in conds
at_from members conds = laws.at-From (List ℕ) (List ℕ) (List ℕ) (List ℕ) (List ℕ) (expr_gives ℕ node_placeholder nothing_of_leaf) (tree_gives ℕ node_placeholder nothing_of_leaf) (order_gives ℕ node_placeholder nothing_of_leaf) (output_gives ℕ node_placeholder nothing_of_leaf) (query_gives ℕ node_placeholder nothing_of_leaf) members conds ∙ ap (λ x. in_each in_tree members ++ x) (append-nil (in_each placeholders_in conds))

pub at_output : (output : Output) → in_output output ≡ placeholders_in (out-Output output).expr
at_output output = laws.at-Output (List ℕ) (List ℕ) (List ℕ) (List ℕ) (List ℕ) (expr_gives ℕ node_placeholder nothing_of_leaf) (tree_gives ℕ node_placeholder nothing_of_leaf) (order_gives ℕ node_placeholder nothing_of_leaf) (output_gives ℕ node_placeholder nothing_of_leaf) (query_gives ℕ node_placeholder nothing_of_leaf) output

pub at_order : (order : Order) → in_order order ≡ placeholders_in (out-Order order).expr
at_order order = laws.at-Order (List ℕ) (List ℕ) (List ℕ) (List ℕ) (List ℕ) (expr_gives ℕ node_placeholder nothing_of_leaf) (tree_gives ℕ node_placeholder nothing_of_leaf) (order_gives ℕ node_placeholder nothing_of_leaf) (output_gives ℕ node_placeholder nothing_of_leaf) (query_gives ℕ node_placeholder nothing_of_leaf) order

four_parts : (a b c d : List ℕ) → a ++ (b ++ (c ++ d)) ≡ ((a ++ b) ++ c) ++ d
four_parts a b c d = sym (append_assoc a b (c ++ d)) ∙ sym (append_assoc (a ++ b) c d)

pub at_query : (query : Query) → in_query query ≡ ((in_each in_output (out-Query query).columns ++ in_tree (out-Query query).tree) ++ in_each placeholders_in (out-Query query).conds) ++ in_each in_order (out-Query query).order
at_query query =
    laws.at-Query (List ℕ) (List ℕ) (List ℕ) (List ℕ) (List ℕ) (expr_gives ℕ node_placeholder nothing_of_leaf) (tree_gives ℕ node_placeholder nothing_of_leaf) (order_gives ℕ node_placeholder nothing_of_leaf) (output_gives ℕ node_placeholder nothing_of_leaf) (query_gives ℕ node_placeholder nothing_of_leaf) query
    ∙ four_parts (in_each in_output (out-Query query).columns) (in_tree (out-Query query).tree) (in_each placeholders_in (out-Query query).conds) (in_each in_order (out-Query query).order)

pub ruleset placeholders = (at_col, at_lit, at_place, at_neg, at_not, at_test, at_product, at_concat, at_and, at_or, at_coalesce, at_sum, at_compare, at_between, at_in_list, at_exists, at_in_sub, at_case, at_base, at_sub, at_join, at_from, at_output, at_order, at_query)

pub loop_more : {X : Type 0} (f : X → List ℕ) (xs : List X) (i : ℕ) (x : X) (all more after : List ℕ) → i < length xs → x ≡ get_or xs i x → all ≡ in_each f (take i xs) → more ≡ f x → after ≡ all ++ more → after ≡ in_each f (take (i + 1) xs)
loop_more f xs i x all more after low is before one e = e ∙ ap₂ ◌++◌ before (one ∙ ap f is) ∙ sym (each_more f xs i x low)

pub case_gives : (e : Expr) (operand : Option Expr) (arms : List (Expr × Expr)) (otherwise : Option Expr) (list : List (Expr × Expr)) (a b d first all : List ℕ) → e ≡ expr.Case operand arms otherwise → a ≡ in_option operand → d ≡ in_option otherwise → list ≡ arms → b ≡ in_each in_arm list → first ≡ a ++ b → all ≡ first ++ d → all ≡ placeholders_in e
case_gives e operand arms otherwise list a b d first all is one two same three fst whole =
    whole ∙ ap₂ ◌++◌ (fst ∙ ap₂ ◌++◌ one (three ∙ ap (in_each in_arm) same)) two ∙ sym (ap placeholders_in is ∙ at_case operand arms otherwise)
