-- What `refs_of` is at each constructor, and what a loop adds at a step.
use Rattle.std.proofs.Common.{◌≡◌, ◌∙◌, ap, refl, ℕ, ◌+◌, ◌<◌, Bool, List, [], ◌∷◌, ◌++◌, map, fold, length, get_or, take, Option, Some, None}
use Rattle.std.specs.Prelude.{bit_or}
use Rattle.std.specs.Option.{option_map}
use Rattle.std.proofs.lemmas.List.{take_more}
use Rattle.jp_base.specs.declared.values.Ty.{Ty}
use Rattle.jp_base.specs.declared.values.Value.{Value}
use Rattle.jp_query.specs.declared.CmpOp.{CmpOp}
use Rattle.jp_query.specs.declared.IsTest.{IsTest}
use Rattle.jp_query.specs.declared.JoinKind.{JoinKind}
use Rattle.jp_query.specs.declared.Expr.TheVariants as expr
use Rattle.jp_query.specs.declared.JoinTree.TheVariants as tree
use Rattle.jp_query.specs.declared.Order.{out-Order}
use Rattle.jp_query.specs.declared.Output.{out-Output}
use Rattle.jp_query.specs.declared.Query.{out-Query}
use Rattle.jp_query.specs.Layers.{Expr, JoinTree, Order, Output, Query}
use Rattle.jp_query.specs.Refs.{only, union, below_64, term_refs, arm_refs, maybe_refs, expr_refs, tree_refs, order_refs, output_refs, query_refs, refs_of, refs_of_tree, refs_of_order, refs_of_output, refs_of_query, refs_of_term, refs_of_arm, refs_of_option}
use Rattle.jp_query.proofs.FoldLaws as laws

pub two : {a b c d : ℕ} → a ≡ c → b ≡ d → bit_or a b ≡ bit_or c d
two {a} {b} {c} {d} p q = ap (λ x. bit_or x b) p ∙ ap (λ y. bit_or c y) q

maps : {A B C : Type 0} (g : B → C) (f : A → B) (h : A → C) → ((x : A) → g (f x) ≡ h x) → (xs : List A) → map g (map f xs) ≡ map h xs
maps g f h e [] = refl
maps g f h e (x ∷ xs) = ap (λ y. y ∷ map g (map f xs)) (e x) ∙ ap (λ ys. h x ∷ ys) (maps g f h e xs)

fold_onto : (a : ℕ) (xs ys : List ℕ) → fold bit_or a (xs ++ ys) ≡ fold bit_or (fold bit_or a xs) ys
fold_onto a [] ys = refl
fold_onto a (x ∷ xs) ys = fold_onto (bit_or a x) xs ys

map_onto : {X : Type 0} (f : X → ℕ) (xs ys : List X) → map f (xs ++ ys) ≡ map f xs ++ map f ys
map_onto f [] ys = refl
map_onto f (x ∷ xs) ys = ap (λ zs. f x ∷ zs) (map_onto f xs ys)

-- one more element of a loop
pub union_more : {X : Type 0} (f : X → ℕ) (xs : List X) (i : ℕ) (d : X) → i < length xs → union (map f (take (i + 1) xs)) ≡ bit_or (union (map f (take i xs))) (f (get_or xs i d))
union_more f xs i d within =
    ap (λ ys. union (map f ys)) (take_more xs i d within)
    ∙ ap union (map_onto f (take i xs) (get_or xs i d ∷ []))
    ∙ fold_onto 0 (map f (take i xs)) (f (get_or xs i d) ∷ [])

maybe : (o : Option Expr) → maybe_refs (option_map refs_of o) ≡ refs_of_option o
maybe None = refl
maybe (Some e) = refl

pub refs-Col : (rel col : ℕ) (ty : Ty) (nulled : ℕ) → refs_of (expr.Col rel col ty nulled) ≡ below_64 (only rel)
refs-Col rel col ty nulled = laws.at-Col ℕ ℕ ℕ ℕ ℕ expr_refs tree_refs order_refs output_refs query_refs rel col ty nulled

pub refs-Lit : (value : Value) (ty : Ty) → refs_of (expr.Lit value ty) ≡ 0
refs-Lit value ty = laws.at-Lit ℕ ℕ ℕ ℕ ℕ expr_refs tree_refs order_refs output_refs query_refs value ty

pub refs-Place : (inner : Expr) (rels : ℕ) → refs_of (expr.Place inner rels) ≡ bit_or (refs_of inner) rels
refs-Place inner rels = laws.at-Place ℕ ℕ ℕ ℕ ℕ expr_refs tree_refs order_refs output_refs query_refs inner rels

pub refs-Neg : (operand : Expr) → refs_of (expr.Neg operand) ≡ refs_of operand
refs-Neg operand = laws.at-Neg ℕ ℕ ℕ ℕ ℕ expr_refs tree_refs order_refs output_refs query_refs operand

pub refs-Sum : (terms : List (Bool × Expr)) → refs_of (expr.Sum terms) ≡ union (map refs_of_term terms)
refs-Sum terms = laws.at-Sum ℕ ℕ ℕ ℕ ℕ expr_refs tree_refs order_refs output_refs query_refs terms ∙ ap union (maps term_refs (laws.of_term ℕ ℕ ℕ ℕ ℕ expr_refs tree_refs order_refs output_refs query_refs) refs_of_term (λ _. refl) terms)

pub refs-Product : (factors : List Expr) → refs_of (expr.Product factors) ≡ union (map refs_of factors)
refs-Product factors = laws.at-Product ℕ ℕ ℕ ℕ ℕ expr_refs tree_refs order_refs output_refs query_refs factors

pub refs-Concat : (parts : List Expr) → refs_of (expr.Concat parts) ≡ union (map refs_of parts)
refs-Concat parts = laws.at-Concat ℕ ℕ ℕ ℕ ℕ expr_refs tree_refs order_refs output_refs query_refs parts

pub refs-Compare : (op : CmpOp) (left right : Expr) → refs_of (expr.Compare op left right) ≡ bit_or (refs_of left) (refs_of right)
refs-Compare op left right = laws.at-Compare ℕ ℕ ℕ ℕ ℕ expr_refs tree_refs order_refs output_refs query_refs op left right

pub refs-Between : (operand low high : Expr) → refs_of (expr.Between operand low high) ≡ bit_or (bit_or (refs_of operand) (refs_of low)) (refs_of high)
refs-Between operand low high = laws.at-Between ℕ ℕ ℕ ℕ ℕ expr_refs tree_refs order_refs output_refs query_refs operand low high

pub refs-InList : (operand : Expr) (list : List Expr) → refs_of (expr.InList operand list) ≡ bit_or (refs_of operand) (union (map refs_of list))
refs-InList operand list = laws.at-InList ℕ ℕ ℕ ℕ ℕ expr_refs tree_refs order_refs output_refs query_refs operand list

pub refs-And : (members : List Expr) → refs_of (expr.And members) ≡ union (map refs_of members)
refs-And members = laws.at-And ℕ ℕ ℕ ℕ ℕ expr_refs tree_refs order_refs output_refs query_refs members

pub refs-Or : (members : List Expr) → refs_of (expr.Or members) ≡ union (map refs_of members)
refs-Or members = laws.at-Or ℕ ℕ ℕ ℕ ℕ expr_refs tree_refs order_refs output_refs query_refs members

pub refs-Not : (operand : Expr) → refs_of (expr.Not operand) ≡ refs_of operand
refs-Not operand = laws.at-Not ℕ ℕ ℕ ℕ ℕ expr_refs tree_refs order_refs output_refs query_refs operand

pub refs-Test : (test : IsTest) (operand : Expr) → refs_of (expr.Test test operand) ≡ refs_of operand
refs-Test test operand = laws.at-Test ℕ ℕ ℕ ℕ ℕ expr_refs tree_refs order_refs output_refs query_refs test operand

pub refs-Coalesce : (members : List Expr) → refs_of (expr.Coalesce members) ≡ union (map refs_of members)
refs-Coalesce members = laws.at-Coalesce ℕ ℕ ℕ ℕ ℕ expr_refs tree_refs order_refs output_refs query_refs members

pub refs-Case : (operand : Option Expr) (arms : List (Expr × Expr)) (otherwise : Option Expr) → refs_of (expr.Case operand arms otherwise) ≡ bit_or (bit_or (refs_of_option operand) (union (map refs_of_arm arms))) (refs_of_option otherwise)
refs-Case operand arms otherwise = laws.at-Case ℕ ℕ ℕ ℕ ℕ expr_refs tree_refs order_refs output_refs query_refs operand arms otherwise
    ∙ two (two (maybe operand) (ap union (maps arm_refs (laws.of_arm ℕ ℕ ℕ ℕ ℕ expr_refs tree_refs order_refs output_refs query_refs) refs_of_arm (λ _. refl) arms))) (maybe otherwise)

pub refs-Exists : (sub : ℕ) (query : Query) → refs_of (expr.Exists sub query) ≡ refs_of_query query
refs-Exists sub query = laws.at-Exists ℕ ℕ ℕ ℕ ℕ expr_refs tree_refs order_refs output_refs query_refs sub query

pub refs-InSub : (sub : ℕ) (operand : Expr) (query : Query) → refs_of (expr.InSub sub operand query) ≡ bit_or (refs_of operand) (refs_of_query query)
refs-InSub sub operand query = laws.at-InSub ℕ ℕ ℕ ℕ ℕ expr_refs tree_refs order_refs output_refs query_refs sub operand query

pub refs-Base : (rel : ℕ) (name : List ℕ) (table : ℕ) → refs_of_tree (tree.Base rel name table) ≡ 0
refs-Base rel name table = laws.at-Base ℕ ℕ ℕ ℕ ℕ expr_refs tree_refs order_refs output_refs query_refs rel name table

pub refs-Sub : (rel : ℕ) (name : List ℕ) (query : Query) → refs_of_tree (tree.Sub rel name query) ≡ refs_of_query query
refs-Sub rel name query = laws.at-Sub ℕ ℕ ℕ ℕ ℕ expr_refs tree_refs order_refs output_refs query_refs rel name query

pub refs-Join : (kind : JoinKind) (left right : JoinTree) (on : List Expr) → refs_of_tree (tree.Join kind left right on) ≡ bit_or (bit_or (refs_of_tree left) (refs_of_tree right)) (union (map refs_of on))
refs-Join kind left right on = laws.at-Join ℕ ℕ ℕ ℕ ℕ expr_refs tree_refs order_refs output_refs query_refs kind left right on

pub refs-From : (members : List JoinTree) (conds : List Expr) → refs_of_tree (tree.From members conds) ≡ bit_or (union (map refs_of_tree members)) (union (map refs_of conds))
refs-From members conds = laws.at-From ℕ ℕ ℕ ℕ ℕ expr_refs tree_refs order_refs output_refs query_refs members conds

pub refs-Order : (x : Order) → refs_of_order x ≡ refs_of (out-Order x).expr
refs-Order x = laws.at-Order ℕ ℕ ℕ ℕ ℕ expr_refs tree_refs order_refs output_refs query_refs x

pub refs-Output : (x : Output) → refs_of_output x ≡ refs_of (out-Output x).expr
refs-Output x = laws.at-Output ℕ ℕ ℕ ℕ ℕ expr_refs tree_refs order_refs output_refs query_refs x

pub refs-Query : (x : Query) → refs_of_query x ≡ bit_or (bit_or (bit_or (union (map refs_of_output (out-Query x).columns)) (refs_of_tree (out-Query x).tree)) (union (map refs_of (out-Query x).conds))) (union (map refs_of_order (out-Query x).order))
refs-Query x = laws.at-Query ℕ ℕ ℕ ℕ ℕ expr_refs tree_refs order_refs output_refs query_refs x

pub ruleset equations = (refs-Col, refs-Lit, refs-Place, refs-Neg, refs-Sum, refs-Product, refs-Concat, refs-Compare, refs-Between, refs-InList, refs-And, refs-Or, refs-Not, refs-Test, refs-Coalesce, refs-Case, refs-Exists, refs-InSub, refs-Base, refs-Sub, refs-Join, refs-From, refs-Order, refs-Output, refs-Query, union_more)
