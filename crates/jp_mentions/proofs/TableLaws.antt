-- What the tables of a part are at each constructor, and what a loop adds at a step.
use Rattle.std.proofs.Common.{◌≡◌, ◌∙◌, ap, ap₂, sym, refl, ℕ, ◌+◌, ◌<◌, Bool, List, [], ◌∷◌, ◌++◌, map, length, get_or, take, Option, Some, None, append_assoc}
use Rattle.std.specs.Option.{option_map}
use Rattle.std.specs.List.{flat_map}
use Rattle.std.proofs.lemmas.List.{append-nil, take_more}
use Rattle.std.proofs.lemmas.Grind.{flat_map-append}
use Rattle.jp_base.specs.declared.values.Ty.{Ty}
use Rattle.jp_base.specs.declared.values.Value.{Value}
use Rattle.jp_query.specs.declared.CmpOp.{CmpOp}
use Rattle.jp_query.specs.declared.IsTest.{IsTest}
use Rattle.jp_query.specs.declared.JoinKind.{JoinKind}
use Rattle.jp_query.specs.declared.Expr.TheVariants as expr
use Rattle.jp_query.specs.declared.JoinTree.TheVariants as tree
use Rattle.jp_query.specs.declared.Expr.{Expr}
use Rattle.jp_query.specs.declared.JoinTree.{JoinTree}
use Rattle.jp_query.specs.declared.Order.{Order, out-Order}
use Rattle.jp_query.specs.declared.Output.{Output, out-Output}
use Rattle.jp_query.specs.declared.Query.{Query, out-Query}
use Rattle.jp_query.specs.Parts.{all_in, arm_parts, option_part, term_part, base_table, nothing_of_node, expr_gives, tree_gives, order_gives, output_gives, query_gives}
use Rattle.jp_query.proofs.FoldLaws as laws
use Rattle.jp_mentions.specs.Walk.{tables_of, tables_of_tree, tables_of_order, tables_of_output, tables_of_query, tables_of_term, tables_of_arm, tables_of_option}

all_mapped : {X : Type 0} (f : X → List ℕ) (xs : List X) → all_in (map f xs) ≡ flat_map f xs
all_mapped f [] = refl
all_mapped f (x ∷ xs) = ap (λ ys. f x ++ ys) (all_mapped f xs)

all_append : (xs ys : List (List ℕ)) → all_in (xs ++ ys) ≡ all_in xs ++ all_in ys
all_append [] ys = refl
all_append (x ∷ xs) ys = ap (λ zs. x ++ zs) (all_append xs ys) ∙ sym (append_assoc x (all_in xs) (all_in ys))

one : (xs : List ℕ) → (xs ++ []) ++ [] ≡ xs
one xs = append-nil (xs ++ []) ∙ append-nil xs

two : (xs ys : List ℕ) → (xs ++ (ys ++ [])) ++ [] ≡ xs ++ ys
two xs ys = append-nil (xs ++ (ys ++ [])) ∙ ap (λ zs. xs ++ zs) (append-nil ys)

three : (xs ys zs : List ℕ) → (xs ++ (ys ++ (zs ++ []))) ++ [] ≡ xs ++ (ys ++ zs)
three xs ys zs = append-nil (xs ++ (ys ++ (zs ++ []))) ∙ ap (λ more. xs ++ (ys ++ more)) (append-nil zs)

listed : {X : Type 0} (f : X → List ℕ) (xs : List X) → all_in (map f xs) ++ [] ≡ flat_map f xs
listed f xs = append-nil (all_in (map f xs)) ∙ all_mapped f xs

module _ (f : Expr → List ℕ) where
  terms_listed : (terms : List (Bool × Expr)) → all_in (map term_part (map (λ (term : Bool × Expr). (term.0, f term.1)) terms)) ≡ flat_map (λ (term : Bool × Expr). f term.1) terms
  terms_listed [] = refl
  terms_listed (term ∷ terms) = ap (λ ys. f term.1 ++ ys) (terms_listed terms)

  arms_listed : (arms : List (Expr × Expr)) → all_in (arm_parts (map (λ (arm : Expr × Expr). (f arm.0, f arm.1)) arms)) ≡ flat_map (λ (arm : Expr × Expr). f arm.0 ++ f arm.1) arms
  arms_listed [] = refl
  arms_listed (arm ∷ arms) = ap (λ ys. f arm.0 ++ (f arm.1 ++ ys)) (arms_listed arms) ∙ sym (append_assoc (f arm.0) (f arm.1) _)

maybe : (o : Option Expr) → all_in (option_part (option_map tables_of o)) ≡ tables_of_option o
maybe None = refl
maybe (Some e) = append-nil (tables_of e)

-- one more element of a loop
pub tables_more : {X : Type 0} (f : X → List ℕ) (xs : List X) (i : ℕ) (d : X) → i < length xs → flat_map f (take (i + 1) xs) ≡ flat_map f (take i xs) ++ f (get_or xs i d)
tables_more f xs i d within =
    ap (flat_map f) (take_more xs i d within)
    ∙ flat_map-append f (take i xs) (get_or xs i d ∷ [])
    ∙ ap (λ ys. flat_map f (take i xs) ++ ys) (append-nil (f (get_or xs i d)))

case_listed : (operand : Option Expr) (arms : List (Expr × Expr)) (otherwise : Option Expr) → all_in (option_part (option_map tables_of operand) ++ (arm_parts (map (λ (arm : Expr × Expr). (tables_of arm.0, tables_of arm.1)) arms) ++ option_part (option_map tables_of otherwise))) ++ [] ≡ tables_of_option operand ++ (flat_map tables_of_arm arms ++ tables_of_option otherwise)
case_listed operand arms otherwise =
    append-nil _
    ∙ all_append (option_part (option_map tables_of operand)) (arm_parts (map (λ (arm : Expr × Expr). (tables_of arm.0, tables_of arm.1)) arms) ++ option_part (option_map tables_of otherwise))
    ∙ ap₂ (λ xs ys. xs ++ ys) (maybe operand)
    (all_append (arm_parts (map (λ (arm : Expr × Expr). (tables_of arm.0, tables_of arm.1)) arms)) (option_part (option_map tables_of otherwise))
    ∙ ap₂ (λ xs ys. xs ++ ys) (arms_listed tables_of arms) (maybe otherwise))

pub tables-Col : (rel col : ℕ) (ty : Ty) (nulled : ℕ) → tables_of (expr.Col rel col ty nulled) ≡ []
unfolding tables_of tables_of_tree tables_of_order tables_of_output tables_of_query
tables-Col rel col ty nulled = laws.at-Col (List ℕ) (List ℕ) (List ℕ) (List ℕ) (List ℕ) (expr_gives ℕ nothing_of_node base_table) (tree_gives ℕ nothing_of_node base_table) (order_gives ℕ nothing_of_node base_table) (output_gives ℕ nothing_of_node base_table) (query_gives ℕ nothing_of_node base_table) rel col ty nulled

pub tables-Lit : (value : Value) (ty : Ty) → tables_of (expr.Lit value ty) ≡ []
unfolding tables_of tables_of_tree tables_of_order tables_of_output tables_of_query
tables-Lit value ty = laws.at-Lit (List ℕ) (List ℕ) (List ℕ) (List ℕ) (List ℕ) (expr_gives ℕ nothing_of_node base_table) (tree_gives ℕ nothing_of_node base_table) (order_gives ℕ nothing_of_node base_table) (output_gives ℕ nothing_of_node base_table) (query_gives ℕ nothing_of_node base_table) value ty

pub tables-Place : (inner : Expr) (rels : ℕ) → tables_of (expr.Place inner rels) ≡ tables_of inner
unfolding tables_of tables_of_tree tables_of_order tables_of_output tables_of_query
tables-Place inner rels = laws.at-Place (List ℕ) (List ℕ) (List ℕ) (List ℕ) (List ℕ) (expr_gives ℕ nothing_of_node base_table) (tree_gives ℕ nothing_of_node base_table) (order_gives ℕ nothing_of_node base_table) (output_gives ℕ nothing_of_node base_table) (query_gives ℕ nothing_of_node base_table) inner rels ∙ one (tables_of inner)

pub tables-Neg : (operand : Expr) → tables_of (expr.Neg operand) ≡ tables_of operand
unfolding tables_of tables_of_tree tables_of_order tables_of_output tables_of_query
tables-Neg operand = laws.at-Neg (List ℕ) (List ℕ) (List ℕ) (List ℕ) (List ℕ) (expr_gives ℕ nothing_of_node base_table) (tree_gives ℕ nothing_of_node base_table) (order_gives ℕ nothing_of_node base_table) (output_gives ℕ nothing_of_node base_table) (query_gives ℕ nothing_of_node base_table) operand ∙ one (tables_of operand)

pub tables-Sum : (terms : List (Bool × Expr)) → tables_of (expr.Sum terms) ≡ flat_map tables_of_term terms
unfolding tables_of tables_of_tree tables_of_order tables_of_output tables_of_query
tables-Sum terms = laws.at-Sum (List ℕ) (List ℕ) (List ℕ) (List ℕ) (List ℕ) (expr_gives ℕ nothing_of_node base_table) (tree_gives ℕ nothing_of_node base_table) (order_gives ℕ nothing_of_node base_table) (output_gives ℕ nothing_of_node base_table) (query_gives ℕ nothing_of_node base_table) terms ∙ append-nil _ ∙ terms_listed tables_of terms

pub tables-Product : (factors : List Expr) → tables_of (expr.Product factors) ≡ flat_map tables_of factors
unfolding tables_of tables_of_tree tables_of_order tables_of_output tables_of_query
tables-Product factors = laws.at-Product (List ℕ) (List ℕ) (List ℕ) (List ℕ) (List ℕ) (expr_gives ℕ nothing_of_node base_table) (tree_gives ℕ nothing_of_node base_table) (order_gives ℕ nothing_of_node base_table) (output_gives ℕ nothing_of_node base_table) (query_gives ℕ nothing_of_node base_table) factors ∙ listed tables_of factors

pub tables-Concat : (parts : List Expr) → tables_of (expr.Concat parts) ≡ flat_map tables_of parts
unfolding tables_of tables_of_tree tables_of_order tables_of_output tables_of_query
tables-Concat parts = laws.at-Concat (List ℕ) (List ℕ) (List ℕ) (List ℕ) (List ℕ) (expr_gives ℕ nothing_of_node base_table) (tree_gives ℕ nothing_of_node base_table) (order_gives ℕ nothing_of_node base_table) (output_gives ℕ nothing_of_node base_table) (query_gives ℕ nothing_of_node base_table) parts ∙ listed tables_of parts

pub tables-And : (members : List Expr) → tables_of (expr.And members) ≡ flat_map tables_of members
unfolding tables_of tables_of_tree tables_of_order tables_of_output tables_of_query
tables-And members = laws.at-And (List ℕ) (List ℕ) (List ℕ) (List ℕ) (List ℕ) (expr_gives ℕ nothing_of_node base_table) (tree_gives ℕ nothing_of_node base_table) (order_gives ℕ nothing_of_node base_table) (output_gives ℕ nothing_of_node base_table) (query_gives ℕ nothing_of_node base_table) members ∙ listed tables_of members

pub tables-Or : (members : List Expr) → tables_of (expr.Or members) ≡ flat_map tables_of members
unfolding tables_of tables_of_tree tables_of_order tables_of_output tables_of_query
tables-Or members = laws.at-Or (List ℕ) (List ℕ) (List ℕ) (List ℕ) (List ℕ) (expr_gives ℕ nothing_of_node base_table) (tree_gives ℕ nothing_of_node base_table) (order_gives ℕ nothing_of_node base_table) (output_gives ℕ nothing_of_node base_table) (query_gives ℕ nothing_of_node base_table) members ∙ listed tables_of members

pub tables-Coalesce : (members : List Expr) → tables_of (expr.Coalesce members) ≡ flat_map tables_of members
unfolding tables_of tables_of_tree tables_of_order tables_of_output tables_of_query
tables-Coalesce members = laws.at-Coalesce (List ℕ) (List ℕ) (List ℕ) (List ℕ) (List ℕ) (expr_gives ℕ nothing_of_node base_table) (tree_gives ℕ nothing_of_node base_table) (order_gives ℕ nothing_of_node base_table) (output_gives ℕ nothing_of_node base_table) (query_gives ℕ nothing_of_node base_table) members ∙ listed tables_of members

pub tables-Compare : (op : CmpOp) (left right : Expr) → tables_of (expr.Compare op left right) ≡ tables_of left ++ tables_of right
unfolding tables_of tables_of_tree tables_of_order tables_of_output tables_of_query
tables-Compare op left right = laws.at-Compare (List ℕ) (List ℕ) (List ℕ) (List ℕ) (List ℕ) (expr_gives ℕ nothing_of_node base_table) (tree_gives ℕ nothing_of_node base_table) (order_gives ℕ nothing_of_node base_table) (output_gives ℕ nothing_of_node base_table) (query_gives ℕ nothing_of_node base_table) op left right ∙ two (tables_of left) (tables_of right)

pub tables-Between : (operand low high : Expr) → tables_of (expr.Between operand low high) ≡ tables_of operand ++ (tables_of low ++ tables_of high)
unfolding tables_of tables_of_tree tables_of_order tables_of_output tables_of_query
tables-Between operand low high = laws.at-Between (List ℕ) (List ℕ) (List ℕ) (List ℕ) (List ℕ) (expr_gives ℕ nothing_of_node base_table) (tree_gives ℕ nothing_of_node base_table) (order_gives ℕ nothing_of_node base_table) (output_gives ℕ nothing_of_node base_table) (query_gives ℕ nothing_of_node base_table) operand low high ∙ three (tables_of operand) (tables_of low) (tables_of high)

pub tables-InList : (operand : Expr) (list : List Expr) → tables_of (expr.InList operand list) ≡ tables_of operand ++ flat_map tables_of list
unfolding tables_of tables_of_tree tables_of_order tables_of_output tables_of_query
tables-InList operand list = laws.at-InList (List ℕ) (List ℕ) (List ℕ) (List ℕ) (List ℕ) (expr_gives ℕ nothing_of_node base_table) (tree_gives ℕ nothing_of_node base_table) (order_gives ℕ nothing_of_node base_table) (output_gives ℕ nothing_of_node base_table) (query_gives ℕ nothing_of_node base_table) operand list ∙ append-nil (tables_of operand ++ all_in (map tables_of list)) ∙ ap (λ xs. tables_of operand ++ xs) (all_mapped tables_of list)

pub tables-Not : (operand : Expr) → tables_of (expr.Not operand) ≡ tables_of operand
unfolding tables_of tables_of_tree tables_of_order tables_of_output tables_of_query
tables-Not operand = laws.at-Not (List ℕ) (List ℕ) (List ℕ) (List ℕ) (List ℕ) (expr_gives ℕ nothing_of_node base_table) (tree_gives ℕ nothing_of_node base_table) (order_gives ℕ nothing_of_node base_table) (output_gives ℕ nothing_of_node base_table) (query_gives ℕ nothing_of_node base_table) operand ∙ one (tables_of operand)

pub tables-Test : (test : IsTest) (operand : Expr) → tables_of (expr.Test test operand) ≡ tables_of operand
unfolding tables_of tables_of_tree tables_of_order tables_of_output tables_of_query
tables-Test test operand = laws.at-Test (List ℕ) (List ℕ) (List ℕ) (List ℕ) (List ℕ) (expr_gives ℕ nothing_of_node base_table) (tree_gives ℕ nothing_of_node base_table) (order_gives ℕ nothing_of_node base_table) (output_gives ℕ nothing_of_node base_table) (query_gives ℕ nothing_of_node base_table) test operand ∙ one (tables_of operand)

pub tables-Case : (operand : Option Expr) (arms : List (Expr × Expr)) (otherwise : Option Expr) → tables_of (expr.Case operand arms otherwise) ≡ tables_of_option operand ++ (flat_map tables_of_arm arms ++ tables_of_option otherwise)
unfolding tables_of tables_of_tree tables_of_order tables_of_output tables_of_query
tables-Case operand arms otherwise = laws.at-Case (List ℕ) (List ℕ) (List ℕ) (List ℕ) (List ℕ) (expr_gives ℕ nothing_of_node base_table) (tree_gives ℕ nothing_of_node base_table) (order_gives ℕ nothing_of_node base_table) (output_gives ℕ nothing_of_node base_table) (query_gives ℕ nothing_of_node base_table) operand arms otherwise ∙ case_listed operand arms otherwise

pub tables-Exists : (sub : ℕ) (query : Query) → tables_of (expr.Exists sub query) ≡ tables_of_query query
unfolding tables_of tables_of_tree tables_of_order tables_of_output tables_of_query
tables-Exists sub query = laws.at-Exists (List ℕ) (List ℕ) (List ℕ) (List ℕ) (List ℕ) (expr_gives ℕ nothing_of_node base_table) (tree_gives ℕ nothing_of_node base_table) (order_gives ℕ nothing_of_node base_table) (output_gives ℕ nothing_of_node base_table) (query_gives ℕ nothing_of_node base_table) sub query ∙ append-nil (tables_of_query query)

pub tables-InSub : (sub : ℕ) (operand : Expr) (query : Query) → tables_of (expr.InSub sub operand query) ≡ tables_of operand ++ tables_of_query query
unfolding tables_of tables_of_tree tables_of_order tables_of_output tables_of_query
tables-InSub sub operand query = laws.at-InSub (List ℕ) (List ℕ) (List ℕ) (List ℕ) (List ℕ) (expr_gives ℕ nothing_of_node base_table) (tree_gives ℕ nothing_of_node base_table) (order_gives ℕ nothing_of_node base_table) (output_gives ℕ nothing_of_node base_table) (query_gives ℕ nothing_of_node base_table) sub operand query ∙ ap₂ (λ xs ys. xs ++ ys) (append-nil (tables_of operand)) (append-nil (tables_of_query query))

pub tables-Base : (rel : ℕ) (name : List ℕ) (table : ℕ) → tables_of_tree (tree.Base rel name table) ≡ table ∷ []
unfolding tables_of tables_of_tree tables_of_order tables_of_output tables_of_query
tables-Base rel name table = laws.at-Base (List ℕ) (List ℕ) (List ℕ) (List ℕ) (List ℕ) (expr_gives ℕ nothing_of_node base_table) (tree_gives ℕ nothing_of_node base_table) (order_gives ℕ nothing_of_node base_table) (output_gives ℕ nothing_of_node base_table) (query_gives ℕ nothing_of_node base_table) rel name table

pub tables-Sub : (rel : ℕ) (name : List ℕ) (query : Query) → tables_of_tree (tree.Sub rel name query) ≡ tables_of_query query
unfolding tables_of tables_of_tree tables_of_order tables_of_output tables_of_query
tables-Sub rel name query = laws.at-Sub (List ℕ) (List ℕ) (List ℕ) (List ℕ) (List ℕ) (expr_gives ℕ nothing_of_node base_table) (tree_gives ℕ nothing_of_node base_table) (order_gives ℕ nothing_of_node base_table) (output_gives ℕ nothing_of_node base_table) (query_gives ℕ nothing_of_node base_table) rel name query ∙ append-nil (tables_of_query query)

pub tables-Join : (kind : JoinKind) (left right : JoinTree) (on : List Expr) → tables_of_tree (tree.Join kind left right on) ≡ tables_of_tree left ++ (tables_of_tree right ++ flat_map tables_of on)
unfolding tables_of tables_of_tree tables_of_order tables_of_output tables_of_query
tables-Join kind left right on = laws.at-Join (List ℕ) (List ℕ) (List ℕ) (List ℕ) (List ℕ) (expr_gives ℕ nothing_of_node base_table) (tree_gives ℕ nothing_of_node base_table) (order_gives ℕ nothing_of_node base_table) (output_gives ℕ nothing_of_node base_table) (query_gives ℕ nothing_of_node base_table) kind left right on ∙ ap₂ (λ xs ys. (tables_of_tree left ++ xs) ++ ys) (append-nil (tables_of_tree right)) (listed tables_of on) ∙ append_assoc (tables_of_tree left) (tables_of_tree right) (flat_map tables_of on)

pub tables-From : (members : List JoinTree) (conds : List Expr) → tables_of_tree (tree.From members conds) ≡ flat_map tables_of_tree members ++ flat_map tables_of conds
unfolding tables_of tables_of_tree tables_of_order tables_of_output tables_of_query
tables-From members conds = laws.at-From (List ℕ) (List ℕ) (List ℕ) (List ℕ) (List ℕ) (expr_gives ℕ nothing_of_node base_table) (tree_gives ℕ nothing_of_node base_table) (order_gives ℕ nothing_of_node base_table) (output_gives ℕ nothing_of_node base_table) (query_gives ℕ nothing_of_node base_table) members conds ∙ ap₂ (λ xs ys. xs ++ ys) (all_mapped tables_of_tree members) (listed tables_of conds)

pub tables-Order : (x : Order) → tables_of_order x ≡ tables_of (out-Order x).expr
unfolding tables_of tables_of_tree tables_of_order tables_of_output tables_of_query
tables-Order x = laws.at-Order (List ℕ) (List ℕ) (List ℕ) (List ℕ) (List ℕ) (expr_gives ℕ nothing_of_node base_table) (tree_gives ℕ nothing_of_node base_table) (order_gives ℕ nothing_of_node base_table) (output_gives ℕ nothing_of_node base_table) (query_gives ℕ nothing_of_node base_table) x

pub tables-Output : (x : Output) → tables_of_output x ≡ tables_of (out-Output x).expr
unfolding tables_of tables_of_tree tables_of_order tables_of_output tables_of_query
tables-Output x = laws.at-Output (List ℕ) (List ℕ) (List ℕ) (List ℕ) (List ℕ) (expr_gives ℕ nothing_of_node base_table) (tree_gives ℕ nothing_of_node base_table) (order_gives ℕ nothing_of_node base_table) (output_gives ℕ nothing_of_node base_table) (query_gives ℕ nothing_of_node base_table) x

pub tables-Query : (x : Query) → tables_of_query x ≡ flat_map tables_of_output (out-Query x).columns ++ (tables_of_tree (out-Query x).tree ++ (flat_map tables_of (out-Query x).conds ++ flat_map tables_of_order (out-Query x).order))
unfolding tables_of tables_of_tree tables_of_order tables_of_output tables_of_query
tables-Query x = laws.at-Query (List ℕ) (List ℕ) (List ℕ) (List ℕ) (List ℕ) (expr_gives ℕ nothing_of_node base_table) (tree_gives ℕ nothing_of_node base_table) (order_gives ℕ nothing_of_node base_table) (output_gives ℕ nothing_of_node base_table) (query_gives ℕ nothing_of_node base_table) x ∙ ap₂ (λ xs ys. xs ++ (tables_of_tree (out-Query x).tree ++ ys)) (all_mapped tables_of_output (out-Query x).columns) (ap₂ (λ xs ys. xs ++ ys) (all_mapped tables_of (out-Query x).conds) (all_mapped tables_of_order (out-Query x).order))

-- what a loop has put at the end behind one more element
pub pushed_more : {X : Type 0} (f : X → List ℕ) (xs : List X) (i : ℕ) (x : X) (old now next : List ℕ) → i < length xs → x ≡ get_or xs i x → now ≡ old ++ flat_map f (take i xs) → next ≡ now ++ f x → next ≡ old ++ flat_map f (take (i + 1) xs)
pushed_more f xs i x old now next within is p q =
    q ∙ ap (λ ys. ys ++ f x) p ∙ append_assoc old (flat_map f (take i xs)) (f x)
    ∙ ap (λ ys. old ++ ys) (ap (λ y. flat_map f (take i xs) ++ f y) is ∙ sym (tables_more f xs i x within))

-- what is put at the end for a CASE
pub case_pushed : (operand : Option Expr) (arms : List (Expr × Expr)) (otherwise : Option Expr) (old first second last : List ℕ) → first ≡ old ++ tables_of_option operand → second ≡ first ++ flat_map tables_of_arm arms → last ≡ second ++ tables_of_option otherwise → last ≡ old ++ tables_of (expr.Case operand arms otherwise)
case_pushed operand arms otherwise old first second last p q r =
    r ∙ ap (λ xs. xs ++ tables_of_option otherwise) (q ∙ ap (λ xs. xs ++ flat_map tables_of_arm arms) p)
    ∙ append_assoc (old ++ tables_of_option operand) (flat_map tables_of_arm arms) (tables_of_option otherwise)
    ∙ append_assoc old (tables_of_option operand) (flat_map tables_of_arm arms ++ tables_of_option otherwise)
    ∙ ap (λ xs. old ++ xs) (sym (tables-Case operand arms otherwise))

pub ruleset equations = (tables-Col, tables-Lit, tables-Place, tables-Neg, tables-Sum, tables-Product, tables-Concat, tables-Compare, tables-Between, tables-InList, tables-And, tables-Or, tables-Not, tables-Test, tables-Coalesce, tables-Case, tables-Exists, tables-InSub, tables-Base, tables-Sub, tables-Join, tables-From, tables-Order, tables-Output, tables-Query, tables_more, append-nil, append_assoc)
