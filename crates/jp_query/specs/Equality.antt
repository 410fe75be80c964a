-- When two expressions are equal: the same tree, labels, types and names of relations included. A sublink is known by its
-- number alone, since in a fresh query two sublinks of one number are equal. So its operand and its query need no look.
use Rattle.std.specs.Prelude.{ℕ, ◌==◌, ◌&&◌, Bool, true, false, List, [], ◌∷◌, Option, Some, None}
use Rattle.jp_base.specs.Values.{are_same}
use Rattle.jp_query.specs.declared.CmpOp.{CmpOp}
use Rattle.jp_query.specs.declared.CmpOp.TheVariants as cmp
use Rattle.jp_query.specs.declared.Expr.{out-Expr}
use Rattle.jp_query.specs.declared.IsTest.{IsTest}
use Rattle.jp_query.specs.declared.IsTest.TheVariants as is
use Rattle.jp_query.specs.Layers.{Expr, ExprLayer, Expr-F, fold-Expr}
use Rattle.jp_query.specs.Typing.{same_type}

abbrev pub same_op : CmpOp → CmpOp → Bool
same_op cmp.Eq cmp.Eq = true
same_op cmp.Ne cmp.Ne = true
same_op cmp.Lt cmp.Lt = true
same_op cmp.Le cmp.Le = true
same_op cmp.Gt cmp.Gt = true
same_op cmp.Ge cmp.Ge = true
same_op _ _ = false

abbrev pub same_test : IsTest → IsTest → Bool
same_test is.Null is.Null = true
same_test is.NotNull is.NotNull = true
same_test is.True is.True = true
same_test is.NotTrue is.NotTrue = true
same_test is.False is.False = true
same_test is.NotFalse is.NotFalse = true
same_test is.Unknown is.Unknown = true
same_test is.NotUnknown is.NotUnknown = true
same_test _ _ = false

abbrev pub same_sign : Bool → Bool → Bool
same_sign true true = true
same_sign false false = true
same_sign _ _ = false

-- as many members on both sides, and each is the same as the one at its place
abbrev pub same_each : {X Y : Type 0} → (X → Y → Bool) → List X → List Y → Bool
same_each same [] [] = true
same_each same (x ∷ xs) (y ∷ ys) = same x y && same_each same xs ys
same_each same _ _ = false

-- what an expression is compared by: whether another one is the same
abbrev pub Same : Type 0
Same = Expr → Bool

abbrev pub same_part : Same → Expr → Bool
same_part same other = same other

abbrev pub same_term : Bool × Same → Bool × Expr → Bool
same_term term other = same_sign term.0 other.0 && term.1 other.1

abbrev pub same_arm : Same × Same → Expr × Expr → Bool
same_arm arm other = arm.0 other.0 && arm.1 other.1

abbrev pub same_option : Option Same → Option Expr → Bool
same_option None None = true
same_option (Some same) (Some other) = same other
same_option _ _ = false

unfoldable pub same_level : Expr-F Same (Unit {0}) (Unit {0}) (Unit {0}) (Unit {0}) → ExprLayer → Bool
same_level (Expr-F.Col rel col ty nulled) (Expr-F.Col rel' col' ty' nulled') = (rel == rel') && ((col == col') && (same_type ty ty' && (nulled == nulled')))
same_level (Expr-F.Lit value ty) (Expr-F.Lit value' ty') = are_same value value' && same_type ty ty'
same_level (Expr-F.Place inner rels) (Expr-F.Place inner' rels') = (rels == rels') && inner inner'
same_level (Expr-F.Neg operand) (Expr-F.Neg operand') = operand operand'
same_level (Expr-F.Sum terms) (Expr-F.Sum terms') = same_each same_term terms terms'
same_level (Expr-F.Product factors) (Expr-F.Product factors') = same_each same_part factors factors'
same_level (Expr-F.Concat pieces) (Expr-F.Concat pieces') = same_each same_part pieces pieces'
same_level (Expr-F.Compare op left right) (Expr-F.Compare op' left' right') = same_op op op' && (left left' && right right')
same_level (Expr-F.Between operand low high) (Expr-F.Between operand' low' high') = operand operand' && (low low' && high high')
same_level (Expr-F.InList operand list) (Expr-F.InList operand' list') = operand operand' && same_each same_part list list'
same_level (Expr-F.And members) (Expr-F.And members') = same_each same_part members members'
same_level (Expr-F.Or members) (Expr-F.Or members') = same_each same_part members members'
same_level (Expr-F.Not operand) (Expr-F.Not operand') = operand operand'
same_level (Expr-F.Test test operand) (Expr-F.Test test' operand') = same_test test test' && operand operand'
same_level (Expr-F.Coalesce members) (Expr-F.Coalesce members') = same_each same_part members members'
same_level (Expr-F.Case operand arms otherwise) (Expr-F.Case operand' arms' otherwise') = same_option operand operand' && (same_each same_arm arms arms' && same_option otherwise otherwise')
same_level (Expr-F.Exists sub query) (Expr-F.Exists sub' query') = sub == sub'
same_level (Expr-F.InSub sub operand query) (Expr-F.InSub sub' operand' query') = sub == sub'
same_level _ _ = false

abbrev pub same_as : Expr-F Same (Unit {0}) (Unit {0}) (Unit {0}) (Unit {0}) → Same
same_as x other = same_level x (out-Expr other)

-- whether two expressions are the same
abbrev pub same_expr : Expr → Expr → Bool
same_expr = fold-Expr Same (Unit {0}) (Unit {0}) (Unit {0}) (Unit {0}) same_as (λ t. tt) (λ o. tt) (λ u. tt) (λ q. tt)

abbrev pub same_exprs : List Expr → List Expr → Bool
same_exprs = same_each same_expr

abbrev pub same_of_terms : Bool × Expr → Bool × Expr → Bool
same_of_terms term other = same_sign term.0 other.0 && same_expr term.1 other.1

abbrev pub same_of_arms : Expr × Expr → Expr × Expr → Bool
same_of_arms arm other = same_expr arm.0 other.0 && same_expr arm.1 other.1

abbrev pub same_of_options : Option Expr → Option Expr → Bool
same_of_options None None = true
same_of_options (Some expr) (Some other) = same_expr expr other
same_of_options _ _ = false
