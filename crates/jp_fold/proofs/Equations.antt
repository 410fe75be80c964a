-- What is made of an expression at each constructor, for the code.
use Rattle.std.proofs.Common.{◌≡◌, ◌∙◌, ap, sym, refl, ℕ, ◌<◌, length, arith, Bool, true, false, ◌&&◌, List, [], ◌∷◌, ◌++◌, map, Option, Some, None}
use Rattle.std.specs.Prelude.{if◌then◌else◌, slice_get}
use Rattle.std.specs.List.{list_all}
use Rattle.std.specs.Option.{option_map}
use Rattle.jp_base.specs.declared.values.Ty.{Ty}
use Rattle.jp_base.specs.declared.values.Ty.TheVariants as ty
use Rattle.jp_base.specs.declared.values.Value.{Value}
use Rattle.jp_base.specs.declared.values.Value.TheVariants as value
use Rattle.jp_query.specs.declared.CmpOp.{CmpOp}
use Rattle.jp_query.specs.declared.IsTest.{IsTest}
use Rattle.jp_query.specs.declared.JoinKind.{JoinKind}
use Rattle.jp_query.specs.declared.JoinKind.TheVariants as join
use Rattle.jp_query.specs.declared.Expr.{Expr, out-Expr}
use Rattle.jp_query.specs.declared.Expr.TheVariants as expr
use Rattle.jp_query.specs.declared.JoinTree.{JoinTree}
use Rattle.jp_query.specs.declared.JoinTree.TheVariants as tree
use Rattle.jp_query.specs.declared.Order.{Order, out-Order}
use Rattle.jp_query.specs.declared.Output.{Output, out-Output}
use Rattle.jp_query.specs.declared.Query.{Query, out-Query}
use Rattle.jp_query.specs.declared.Expr.TheOpen.{Expr-F, JoinTree-F}
use Rattle.jp_query.specs.declared.Expr.TheShapes.{former-Expr-Case-0}
use Rattle.jp_query.specs.declared.Expr.TheViews.{roll-Expr, roll-Order, roll-Output, roll-Query, roll-out-Expr, out-roll-Expr}
use Rattle.jp_query.specs.declared.Expr.TheFolds.{map-Expr, fold-roll-Expr}
use Rattle.jp_query.specs.Layers.{ExprLayer}
use Rattle.jp_query.specs.Meaning.{no_tables, no_outer_rows}
use Rattle.jp_query.specs.Parts.{arm_parts, option_part}
use Rattle.jp_query.proofs.FoldLaws as laws
use Rattle.jp_eval.specs.Computed as evaluation
use Rattle.jp_folding.specs.Folding as fold
use Rattle.jp_fold.specs.InBits as bits

abbrev level_made : ExprLayer → ExprLayer
level_made = map-Expr Expr JoinTree Order Output Query Expr JoinTree Order Output Query bits.expr_made bits.tree_made bits.order_made bits.output_made bits.query_made

parts_at : (x : ExprLayer) (e d : Expr) → roll-Expr x ≡ e → roll-Expr (level_made x) ≡ d → bits.parts_made e ≡ d
unfolding bits.parts_made
parts_at x e d p q = ap (λ z. roll-Expr (level_made (out-Expr z))) (sym p) ∙ ap (λ y. roll-Expr (level_made y)) (out-roll-Expr x) ∙ q

made_at : (x : ExprLayer) (e : Expr) → roll-Expr x ≡ e → bits.expr_made e ≡ bits.expr_step (level_made x)
unfolding bits.expr_made bits.tree_made bits.order_made bits.output_made bits.query_made
made_at x e p = ap bits.expr_made (sym p) ∙ fold-roll-Expr Expr JoinTree Order Output Query (fold.expr_by bits.made bits.kind_type) (fold.tree_by bits.made bits.kind_type) roll-Order roll-Output (fold.query_by bits.made bits.kind_type) x

out_parts : (x : ExprLayer) (e : Expr) → roll-Expr x ≡ e → out-Expr (bits.parts_made e) ≡ level_made x
out_parts x e p = ap out-Expr (parts_at x e (roll-Expr (level_made x)) p refl) ∙ out-roll-Expr (level_made x)

stay_at : (x : ExprLayer) (e : Expr) → roll-Expr x ≡ e → bits.expr_step (level_made x) ≡ roll-Expr (level_made x) → bits.expr_made e ≡ bits.parts_made e
stay_at x e p h = made_at x e p ∙ h ∙ sym (parts_at x e (roll-Expr (level_made x)) p refl)

strict_at : (x : ExprLayer) (e : Expr) → roll-Expr x ≡ e → bits.expr_step (level_made x) ≡ fold.strict_by bits.made bits.kind_type (level_made x) → bits.expr_made e ≡ bits.strict_made (bits.parts_made e)
unfolding bits.strict_made
strict_at x e p h = made_at x e p ∙ h ∙ sym (ap (fold.strict_by bits.made bits.kind_type) (out_parts x e p))

operator_at : (x : ExprLayer) (e : Expr) → roll-Expr x ≡ e → bits.expr_step (level_made x) ≡ fold.if_made bits.made (level_made x) (roll-Expr (level_made x)) → bits.expr_made e ≡ bits.operator_made (bits.parts_made e)
unfolding bits.operator_made
operator_at x e p h = made_at x e p ∙ h ∙ sym (ap (λ y. fold.if_made bits.made y (roll-Expr y)) (out_parts x e p))

-- the map over a part of CASE that may be missing
maybe_maps : {A B : Type 0} (f : A → B) (o : Option A) → (former-Expr-Case-0).map A B f o ≡ option_map f o
maybe_maps f None = refl
maybe_maps f (Some x) = refl

-- ---- each constructor

pub parts-Col : (rel col : ℕ) (t : Ty) (nulled : ℕ) → bits.parts_made (expr.Col rel col t nulled) ≡ expr.Col rel col t nulled
parts-Col rel col t nulled = parts_at (Expr-F.Col rel col t nulled) (expr.Col rel col t nulled) (expr.Col rel col t nulled) (expr.rolls-Col rel col t nulled) (expr.rolls-Col rel col t nulled)

pub made-Col : (rel col : ℕ) (t : Ty) (nulled : ℕ) → bits.expr_made (expr.Col rel col t nulled) ≡ bits.parts_made (expr.Col rel col t nulled)
made-Col rel col t nulled = stay_at (Expr-F.Col rel col t nulled) (expr.Col rel col t nulled) (expr.rolls-Col rel col t nulled) refl

pub parts-Lit : (v : Value) (t : Ty) → bits.parts_made (expr.Lit v t) ≡ expr.Lit v t
parts-Lit v t = parts_at (Expr-F.Lit v t) (expr.Lit v t) (expr.Lit v t) (expr.rolls-Lit v t) (expr.rolls-Lit v t)

pub made-Lit : (v : Value) (t : Ty) → bits.expr_made (expr.Lit v t) ≡ bits.parts_made (expr.Lit v t)
made-Lit v t = stay_at (Expr-F.Lit v t) (expr.Lit v t) (expr.rolls-Lit v t) refl

pub parts-Place : (inner : Expr) (rels : ℕ) → bits.parts_made (expr.Place inner rels) ≡ expr.Place (bits.expr_made inner) rels
parts-Place inner rels = parts_at (Expr-F.Place inner rels) (expr.Place inner rels) (expr.Place (bits.expr_made inner) rels) (expr.rolls-Place inner rels) (expr.rolls-Place (bits.expr_made inner) rels)

pub made-Place : (inner : Expr) (rels : ℕ) → bits.expr_made (expr.Place inner rels) ≡ bits.parts_made (expr.Place inner rels)
made-Place inner rels = stay_at (Expr-F.Place inner rels) (expr.Place inner rels) (expr.rolls-Place inner rels) refl

pub parts-Neg : (operand : Expr) → bits.parts_made (expr.Neg operand) ≡ expr.Neg (bits.expr_made operand)
parts-Neg operand = parts_at (Expr-F.Neg operand) (expr.Neg operand) (expr.Neg (bits.expr_made operand)) (expr.rolls-Neg operand) (expr.rolls-Neg (bits.expr_made operand))

pub made-Neg : (operand : Expr) → bits.expr_made (expr.Neg operand) ≡ bits.strict_made (bits.parts_made (expr.Neg operand))
made-Neg operand = strict_at (Expr-F.Neg operand) (expr.Neg operand) (expr.rolls-Neg operand) refl

pub parts-Sum : (terms : List (Bool × Expr)) → bits.parts_made (expr.Sum terms) ≡ expr.Sum (map bits.term_made terms)
parts-Sum terms = parts_at (Expr-F.Sum terms) (expr.Sum terms) (expr.Sum (map bits.term_made terms)) (expr.rolls-Sum terms) (expr.rolls-Sum (map bits.term_made terms))

pub made-Sum : (terms : List (Bool × Expr)) → bits.expr_made (expr.Sum terms) ≡ bits.strict_made (bits.parts_made (expr.Sum terms))
made-Sum terms = strict_at (Expr-F.Sum terms) (expr.Sum terms) (expr.rolls-Sum terms) refl

pub parts-Product : (factors : List Expr) → bits.parts_made (expr.Product factors) ≡ expr.Product (map bits.expr_made factors)
parts-Product factors = parts_at (Expr-F.Product factors) (expr.Product factors) (expr.Product (map bits.expr_made factors)) (expr.rolls-Product factors) (expr.rolls-Product (map bits.expr_made factors))

pub made-Product : (factors : List Expr) → bits.expr_made (expr.Product factors) ≡ bits.strict_made (bits.parts_made (expr.Product factors))
made-Product factors = strict_at (Expr-F.Product factors) (expr.Product factors) (expr.rolls-Product factors) refl

pub parts-Concat : (pieces : List Expr) → bits.parts_made (expr.Concat pieces) ≡ expr.Concat (map bits.expr_made pieces)
parts-Concat pieces = parts_at (Expr-F.Concat pieces) (expr.Concat pieces) (expr.Concat (map bits.expr_made pieces)) (expr.rolls-Concat pieces) (expr.rolls-Concat (map bits.expr_made pieces))

pub made-Concat : (pieces : List Expr) → bits.expr_made (expr.Concat pieces) ≡ bits.strict_made (bits.parts_made (expr.Concat pieces))
made-Concat pieces = strict_at (Expr-F.Concat pieces) (expr.Concat pieces) (expr.rolls-Concat pieces) refl

pub parts-Compare : (op : CmpOp) (left right : Expr) → bits.parts_made (expr.Compare op left right) ≡ expr.Compare op (bits.expr_made left) (bits.expr_made right)
parts-Compare op left right = parts_at (Expr-F.Compare op left right) (expr.Compare op left right) (expr.Compare op (bits.expr_made left) (bits.expr_made right)) (expr.rolls-Compare op left right) (expr.rolls-Compare op (bits.expr_made left) (bits.expr_made right))

pub made-Compare : (op : CmpOp) (left right : Expr) → bits.expr_made (expr.Compare op left right) ≡ bits.strict_made (bits.parts_made (expr.Compare op left right))
made-Compare op left right = strict_at (Expr-F.Compare op left right) (expr.Compare op left right) (expr.rolls-Compare op left right) refl

pub parts-Between : (operand low high : Expr) → bits.parts_made (expr.Between operand low high) ≡ expr.Between (bits.expr_made operand) (bits.expr_made low) (bits.expr_made high)
parts-Between operand low high = parts_at (Expr-F.Between operand low high) (expr.Between operand low high) (expr.Between (bits.expr_made operand) (bits.expr_made low) (bits.expr_made high)) (expr.rolls-Between operand low high) (expr.rolls-Between (bits.expr_made operand) (bits.expr_made low) (bits.expr_made high))

pub made-Between : (operand low high : Expr) → bits.expr_made (expr.Between operand low high) ≡ bits.operator_made (bits.parts_made (expr.Between operand low high))
made-Between operand low high = operator_at (Expr-F.Between operand low high) (expr.Between operand low high) (expr.rolls-Between operand low high) refl

pub parts-InList : (operand : Expr) (list : List Expr) → bits.parts_made (expr.InList operand list) ≡ expr.InList (bits.expr_made operand) (map bits.expr_made list)
parts-InList operand list = parts_at (Expr-F.InList operand list) (expr.InList operand list) (expr.InList (bits.expr_made operand) (map bits.expr_made list)) (expr.rolls-InList operand list) (expr.rolls-InList (bits.expr_made operand) (map bits.expr_made list))

pub made-InList : (operand : Expr) (list : List Expr) → bits.expr_made (expr.InList operand list) ≡ bits.operator_made (bits.parts_made (expr.InList operand list))
made-InList operand list = operator_at (Expr-F.InList operand list) (expr.InList operand list) (expr.rolls-InList operand list) refl

pub parts-And : (members : List Expr) → bits.parts_made (expr.And members) ≡ expr.And (map bits.expr_made members)
parts-And members = parts_at (Expr-F.And members) (expr.And members) (expr.And (map bits.expr_made members)) (expr.rolls-And members) (expr.rolls-And (map bits.expr_made members))

pub made-And : (members : List Expr) → bits.expr_made (expr.And members) ≡ bits.conjunction_made (map bits.expr_made members)
unfolding bits.conjunction_made
made-And members = made_at (Expr-F.And members) (expr.And members) (expr.rolls-And members)

pub parts-Or : (members : List Expr) → bits.parts_made (expr.Or members) ≡ expr.Or (map bits.expr_made members)
parts-Or members = parts_at (Expr-F.Or members) (expr.Or members) (expr.Or (map bits.expr_made members)) (expr.rolls-Or members) (expr.rolls-Or (map bits.expr_made members))

pub made-Or : (members : List Expr) → bits.expr_made (expr.Or members) ≡ bits.disjunction_made (map bits.expr_made members)
unfolding bits.disjunction_made
made-Or members = made_at (Expr-F.Or members) (expr.Or members) (expr.rolls-Or members)

pub parts-Not : (operand : Expr) → bits.parts_made (expr.Not operand) ≡ expr.Not (bits.expr_made operand)
parts-Not operand = parts_at (Expr-F.Not operand) (expr.Not operand) (expr.Not (bits.expr_made operand)) (expr.rolls-Not operand) (expr.rolls-Not (bits.expr_made operand))

pub made-Not : (operand : Expr) → bits.expr_made (expr.Not operand) ≡ bits.operator_made (bits.parts_made (expr.Not operand))
made-Not operand = operator_at (Expr-F.Not operand) (expr.Not operand) (expr.rolls-Not operand) refl

pub parts-Test : (test : IsTest) (operand : Expr) → bits.parts_made (expr.Test test operand) ≡ expr.Test test (bits.expr_made operand)
parts-Test test operand = parts_at (Expr-F.Test test operand) (expr.Test test operand) (expr.Test test (bits.expr_made operand)) (expr.rolls-Test test operand) (expr.rolls-Test test (bits.expr_made operand))

pub made-Test : (test : IsTest) (operand : Expr) → bits.expr_made (expr.Test test operand) ≡ bits.operator_made (bits.parts_made (expr.Test test operand))
made-Test test operand = operator_at (Expr-F.Test test operand) (expr.Test test operand) (expr.rolls-Test test operand) refl

pub parts-Coalesce : (members : List Expr) → bits.parts_made (expr.Coalesce members) ≡ expr.Coalesce (map bits.expr_made members)
parts-Coalesce members = parts_at (Expr-F.Coalesce members) (expr.Coalesce members) (expr.Coalesce (map bits.expr_made members)) (expr.rolls-Coalesce members) (expr.rolls-Coalesce (map bits.expr_made members))

pub made-Coalesce : (members : List Expr) → bits.expr_made (expr.Coalesce members) ≡ bits.operator_made (bits.parts_made (expr.Coalesce members))
made-Coalesce members = operator_at (Expr-F.Coalesce members) (expr.Coalesce members) (expr.rolls-Coalesce members) refl

pub parts-Exists : (sub : ℕ) (query : Query) → bits.parts_made (expr.Exists sub query) ≡ expr.Exists sub (bits.query_made query)
parts-Exists sub query = parts_at (Expr-F.Exists sub query) (expr.Exists sub query) (expr.Exists sub (bits.query_made query)) (expr.rolls-Exists sub query) (expr.rolls-Exists sub (bits.query_made query))

pub made-Exists : (sub : ℕ) (query : Query) → bits.expr_made (expr.Exists sub query) ≡ bits.parts_made (expr.Exists sub query)
made-Exists sub query = stay_at (Expr-F.Exists sub query) (expr.Exists sub query) (expr.rolls-Exists sub query) refl

pub parts-InSub : (sub : ℕ) (operand : Expr) (query : Query) → bits.parts_made (expr.InSub sub operand query) ≡ expr.InSub sub (bits.expr_made operand) (bits.query_made query)
parts-InSub sub operand query = parts_at (Expr-F.InSub sub operand query) (expr.InSub sub operand query) (expr.InSub sub (bits.expr_made operand) (bits.query_made query)) (expr.rolls-InSub sub operand query) (expr.rolls-InSub sub (bits.expr_made operand) (bits.query_made query))

pub made-InSub : (sub : ℕ) (operand : Expr) (query : Query) → bits.expr_made (expr.InSub sub operand query) ≡ bits.parts_made (expr.InSub sub operand query)
made-InSub sub operand query = stay_at (Expr-F.InSub sub operand query) (expr.InSub sub operand query) (expr.rolls-InSub sub operand query) refl

pub parts-Case : (operand : Option Expr) (arms : List (Expr × Expr)) (otherwise : Option Expr) → bits.parts_made (expr.Case operand arms otherwise) ≡ expr.Case (option_map bits.expr_made operand) (map bits.arm_made arms) (option_map bits.expr_made otherwise)
parts-Case operand arms otherwise = parts_at (Expr-F.Case operand arms otherwise) (expr.Case operand arms otherwise) (expr.Case (option_map bits.expr_made operand) (map bits.arm_made arms) (option_map bits.expr_made otherwise)) (expr.rolls-Case operand arms otherwise)
    ((λ i. roll-Expr (Expr-F.Case (maybe_maps bits.expr_made operand i) (map bits.arm_made arms) (maybe_maps bits.expr_made otherwise i))) ∙ expr.rolls-Case (option_map bits.expr_made operand) (map bits.arm_made arms) (option_map bits.expr_made otherwise))

pub made-Case : (operand : Option Expr) (arms : List (Expr × Expr)) (otherwise : Option Expr) → bits.expr_made (expr.Case operand arms otherwise) ≡ bits.operator_made (bits.parts_made (expr.Case operand arms otherwise))
made-Case operand arms otherwise = operator_at (Expr-F.Case operand arms otherwise) (expr.Case operand arms otherwise) (expr.rolls-Case operand arms otherwise) refl

-- ---- what becomes of a level

pub literal-is : (e : Expr) → bits.literal_made e ≡ expr.Lit (evaluation.computed no_tables e no_outer_rows) (bits.kind_type (out-Expr e))
unfolding bits.literal_made
literal-is e = ap (λ d. fold.literal (evaluation.computed no_tables d no_outer_rows) (bits.kind_type (out-Expr e))) (roll-out-Expr e) ∙ expr.rolls-Lit (evaluation.computed no_tables e no_outer_rows) (bits.kind_type (out-Expr e))

pub strict-is : (e : Expr) → bits.strict_made e ≡ (if bits.has_literals e then bits.literal_made e else if bits.has_null e then expr.Lit value.Null (bits.kind_type (out-Expr e)) else e)
unfolding bits.strict_made bits.literal_made
strict-is e = λ i. if bits.has_literals e then bits.literal_made e else if bits.has_null e then expr.rolls-Lit value.Null (bits.kind_type (out-Expr e)) i else roll-out-Expr e i

pub operator-is : (e : Expr) → bits.operator_made e ≡ (if bits.has_literals e then bits.literal_made e else e)
unfolding bits.operator_made bits.literal_made
operator-is e = λ i. if bits.has_literals e then bits.literal_made e else roll-out-Expr e i

out_and : (es : List Expr) → out-Expr (expr.And es) ≡ Expr-F.And es
out_and es = ap out-Expr (sym (expr.rolls-And es)) ∙ out-roll-Expr (Expr-F.And es)

out_or : (es : List Expr) → out-Expr (expr.Or es) ≡ Expr-F.Or es
out_or es = ap out-Expr (sym (expr.rolls-Or es)) ∙ out-roll-Expr (Expr-F.Or es)

pub conjunction-is : (es : List Expr) → bits.conjunction_made es ≡ (if list_all fold.is_literal es then bits.literal_made (expr.And es) else fold.folded_and es)
unfolding bits.conjunction_made bits.literal_made
conjunction-is es = λ i. if list_all fold.is_literal es then bits.made (sym (out_and es) i) else fold.folded_and es

pub disjunction-is : (es : List Expr) → bits.disjunction_made es ≡ (if list_all fold.is_literal es then bits.literal_made (expr.Or es) else fold.folded_or es)
unfolding bits.disjunction_made bits.literal_made
disjunction-is es = λ i. if list_all fold.is_literal es then bits.made (sym (out_or es) i) else fold.folded_or es

pub conditions-is : (es : List Expr) → bits.conditions_made es ≡ fold.and_members (bits.conjunction_made es)
unfolding bits.conditions_made bits.conjunction_made
conditions-is es = refl

-- ---- trees

pub made-Base : (rel : ℕ) (name : List ℕ) (table : ℕ) → bits.tree_made (tree.Base rel name table) ≡ tree.Base rel name table
unfolding bits.expr_made bits.tree_made bits.order_made bits.output_made bits.query_made
made-Base rel name table = laws.at-Base Expr JoinTree Order Output Query (fold.expr_by bits.made bits.kind_type) (fold.tree_by bits.made bits.kind_type) roll-Order roll-Output (fold.query_by bits.made bits.kind_type) rel name table ∙ tree.rolls-Base rel name table

pub made-Sub : (rel : ℕ) (name : List ℕ) (query : Query) → bits.tree_made (tree.Sub rel name query) ≡ tree.Sub rel name (bits.query_made query)
unfolding bits.expr_made bits.tree_made bits.order_made bits.output_made bits.query_made
made-Sub rel name query = laws.at-Sub Expr JoinTree Order Output Query (fold.expr_by bits.made bits.kind_type) (fold.tree_by bits.made bits.kind_type) roll-Order roll-Output (fold.query_by bits.made bits.kind_type) rel name query ∙ tree.rolls-Sub rel name (bits.query_made query)

pub made-Join : (kind : JoinKind) (left right : JoinTree) (on : List Expr) → bits.tree_made (tree.Join kind left right on) ≡ bits.join_made kind (bits.tree_made left) (bits.tree_made right) (bits.conditions_made (map bits.expr_made on))
unfolding bits.expr_made bits.tree_made bits.order_made bits.output_made bits.query_made bits.conditions_made
made-Join kind left right on = laws.at-Join Expr JoinTree Order Output Query (fold.expr_by bits.made bits.kind_type) (fold.tree_by bits.made bits.kind_type) roll-Order roll-Output (fold.query_by bits.made bits.kind_type) kind left right on ∙ at kind
  where
    at : (kind : JoinKind) → fold.tree_by bits.made bits.kind_type (JoinTree-F.Join kind (bits.tree_made left) (bits.tree_made right) (map bits.expr_made on)) ≡ bits.join_made kind (bits.tree_made left) (bits.tree_made right) (bits.conditions_made (map bits.expr_made on))
    at join.Right = tree.rolls-Join join.Left (bits.tree_made right) (bits.tree_made left) (bits.conditions_made (map bits.expr_made on))
    at kind = tree.rolls-Join kind (bits.tree_made left) (bits.tree_made right) (bits.conditions_made (map bits.expr_made on))

pub made-From : (members : List JoinTree) (conds : List Expr) → bits.tree_made (tree.From members conds) ≡ tree.From (map bits.tree_made members) (bits.conditions_made (map bits.expr_made conds))
unfolding bits.expr_made bits.tree_made bits.order_made bits.output_made bits.query_made bits.conditions_made
made-From members conds = laws.at-From Expr JoinTree Order Output Query (fold.expr_by bits.made bits.kind_type) (fold.tree_by bits.made bits.kind_type) roll-Order roll-Output (fold.query_by bits.made bits.kind_type) members conds
    ∙ tree.rolls-From (map bits.tree_made members) (bits.conditions_made (map bits.expr_made conds))

-- ---- outputs, sort keys and queries

pub made-Order : (x : Order) → bits.order_made x ≡ roll-Order (record { expr = bits.expr_made (out-Order x).expr; desc = (out-Order x).desc; nulls_first = (out-Order x).nulls_first })
unfolding bits.expr_made bits.tree_made bits.order_made bits.output_made bits.query_made
made-Order x = laws.at-Order Expr JoinTree Order Output Query (fold.expr_by bits.made bits.kind_type) (fold.tree_by bits.made bits.kind_type) roll-Order roll-Output (fold.query_by bits.made bits.kind_type) x

pub made-Output : (x : Output) → bits.output_made x ≡ roll-Output (record { name = (out-Output x).name; ty = (out-Output x).ty; expr = bits.expr_made (out-Output x).expr })
unfolding bits.expr_made bits.tree_made bits.order_made bits.output_made bits.query_made
made-Output x = laws.at-Output Expr JoinTree Order Output Query (fold.expr_by bits.made bits.kind_type) (fold.tree_by bits.made bits.kind_type) roll-Order roll-Output (fold.query_by bits.made bits.kind_type) x

pub made-Query : (x : Query) → bits.query_made x ≡ roll-Query (record { columns = map bits.output_made (out-Query x).columns; distinct = (out-Query x).distinct; tree = bits.tree_made (out-Query x).tree; conds = bits.conditions_made (map bits.expr_made (out-Query x).conds); order = map bits.order_made (out-Query x).order })
unfolding bits.expr_made bits.tree_made bits.order_made bits.output_made bits.query_made bits.conditions_made
made-Query x = laws.at-Query Expr JoinTree Order Output Query (fold.expr_by bits.made bits.kind_type) (fold.tree_by bits.made bits.kind_type) roll-Order roll-Output (fold.query_by bits.made bits.kind_type) x

pub ruleset equations = (parts-Col, made-Col, parts-Lit, made-Lit, parts-Place, made-Place, parts-Neg, made-Neg, parts-Sum, made-Sum, parts-Product, made-Product, parts-Concat, made-Concat, parts-Compare, made-Compare, parts-Between, made-Between, parts-InList, made-InList, parts-And, made-And, parts-Or, made-Or, parts-Not, made-Not, parts-Test, made-Test, parts-Coalesce, made-Coalesce, parts-Exists, made-Exists, parts-InSub, made-InSub, parts-Case, made-Case, literal-is, strict-is, operator-is, conjunction-is, disjunction-is, conditions-is, made-Base, made-Sub, made-Join, made-From, made-Order, made-Output, made-Query)

-- ---- kinds of operators

pub strict-kept : (e : Expr) → bits.is_strict (bits.parts_made e) ≡ bits.is_strict e
unfolding bits.parts_made
strict-kept e = ap bits.is_strict_level (out-roll-Expr (level_made (out-Expr e))) ∙ at (out-Expr e)
  where
    at : (x : ExprLayer) → bits.is_strict_level (level_made x) ≡ bits.is_strict_level x
    at (Expr-F.Neg operand) = refl
    at (Expr-F.Sum terms) = refl
    at (Expr-F.Product factors) = refl
    at (Expr-F.Concat pieces) = refl
    at (Expr-F.Compare op left right) = refl
    at x = refl

pub strict_as : (x : ExprLayer) (e d : Expr) → e ≡ d → roll-Expr x ≡ d → bits.is_strict_level x ≡ true → bits.is_strict (bits.parts_made e) ≡ true
strict_as x e d p q h = strict-kept e ∙ ap bits.is_strict p ∙ sym (ap bits.is_strict q) ∙ ap bits.is_strict_level (out-roll-Expr x) ∙ h

pub operator_as : (e d : Expr) → e ≡ d → bits.expr_made d ≡ bits.operator_made (bits.parts_made d) → bits.expr_made e ≡ bits.operator_made (bits.parts_made e)
operator_as e d p h = ap bits.expr_made p ∙ h ∙ sym (ap (λ z. bits.operator_made (bits.parts_made z)) p)

-- ---- lists

all_on : (p : Expr → Bool) (xs ys : List Expr) → list_all p (xs ++ ys) ≡ (list_all p xs && list_all p ys)
all_on p [] ys = refl
all_on p (x ∷ xs) ys = ap (λ b. p x && b) (all_on p xs ys) ∙ together (p x) (list_all p xs) (list_all p ys)
  where
    together : (a b c : Bool) → (a && (b && c)) ≡ ((a && b) && c)
    together true b c = refl
    together false b c = refl

pub alone-Case : (operand : Option Expr) (arms : List (Expr × Expr)) (otherwise : Option Expr) → list_all fold.is_literal (option_part operand ++ (arm_parts arms ++ option_part otherwise)) ≡ (list_all fold.is_literal (option_part operand) && (list_all fold.is_literal (arm_parts arms) && list_all fold.is_literal (option_part otherwise)))
alone-Case operand arms otherwise = all_on fold.is_literal (option_part operand) (arm_parts arms ++ option_part otherwise) ∙ ap (λ b. list_all fold.is_literal (option_part operand) && b) (all_on fold.is_literal (arm_parts arms) (option_part otherwise))

abbrev pub of_first : Option Expr → Ty
of_first (Some e) = bits.type_of_literal e
of_first None = ty.Text

abbrev pub of_arm : Option (Expr × Expr) → Ty
of_arm (Some a) = bits.type_of_literal a.1
of_arm None = ty.Text

pub first-type : (es : List Expr) → bits.type_of_first es ≡ of_first (slice_get es 0)
first-type [] = refl
first-type (e ∷ es) = refl

pub arm-type : (arms : List (Expr × Expr)) → bits.type_of_arm arms ≡ of_arm (slice_get arms 0)
arm-type [] = refl
arm-type (a ∷ arms) = refl

pub ruleset literals = (alone-Case, first-type, arm-type)

pub rolls_lit : (v : Value) (t : Ty) → fold.literal v t ≡ expr.Lit v t
rolls_lit = expr.rolls-Lit

pub many-and : (es : List Expr) → 1 < length es → fold.one_and es ≡ expr.And es
many-and [] h = absurd (omega (arith, h))
many-and (e ∷ []) h = absurd (omega (arith, h))
many-and (e ∷ d ∷ es) h = expr.rolls-And (e ∷ d ∷ es)

pub many-or : (es : List Expr) → 1 < length es → fold.one_or es ≡ expr.Or es
many-or [] h = absurd (omega (arith, h))
many-or (e ∷ []) h = absurd (omega (arith, h))
many-or (e ∷ d ∷ es) h = expr.rolls-Or (e ∷ d ∷ es)

pub ruleset members = (rolls_lit, many-and, many-or)
