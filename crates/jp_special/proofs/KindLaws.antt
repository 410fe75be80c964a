-- The special joins of each form of tree.
use Rattle.std.proofs.Common.{◌≡◌, ◌∙◌, ap, ap₂, refl, ℕ, ◌+◌, List, [], ◌∷◌, ◌++◌, map, length, length-append, true, false, arith}
use Rattle.jp_query.specs.declared.Expr.{Expr}
use Rattle.jp_query.specs.declared.JoinKind.{JoinKind}
use Rattle.jp_query.specs.declared.JoinKind.TheVariants as join
use Rattle.jp_query.specs.declared.JoinTree.{JoinTree}
use Rattle.jp_query.specs.declared.JoinTree.TheVariants as tree
use Rattle.jp_query.specs.declared.Query.{Query}
use Rattle.jp_problem.specs.Shapes.{Shape, nothing, item, beside, filtered, special, together, shape_of, count_joins}
use Rattle.jp_problem.proofs.ShapeLaws.{at_base, at_sub, at_join, at_from}
use Rattle.jp_special.specs.Walks.{is_full, is_inner, kinds_in}

pub kinds_of_base : (rel : ℕ) (name : List ℕ) (table : ℕ) → kinds_in (shape_of (tree.Base rel name table)) ≡ []
kinds_of_base rel name table = ap kinds_in (at_base rel name table)

pub kinds_of_sub : (rel : ℕ) (name : List ℕ) (query : Query) → kinds_in (shape_of (tree.Sub rel name query)) ≡ []
kinds_of_sub rel name query = ap kinds_in (at_sub rel name query)

pub kinds_of_full : (kind : JoinKind) (left right : JoinTree) (on : List Expr) → is_full kind ≡ true → kinds_in (shape_of (tree.Join kind left right on)) ≡ []
kinds_of_full join.Full left right on e = ap kinds_in (at_join join.Full left right on)
kinds_of_full join.Inner left right on e = cc
kinds_of_full join.Left left right on e = cc
kinds_of_full join.Right left right on e = cc
kinds_of_full join.Semi left right on e = cc
kinds_of_full join.Anti left right on e = cc

pub kinds_of_inner : (kind : JoinKind) (left right : JoinTree) (on : List Expr) → is_inner kind ≡ true → kinds_in (shape_of (tree.Join kind left right on)) ≡ kinds_in (shape_of left) ++ kinds_in (shape_of right)
kinds_of_inner join.Inner left right on e = ap kinds_in (at_join join.Inner left right on)
kinds_of_inner join.Full left right on e = cc
kinds_of_inner join.Left left right on e = cc
kinds_of_inner join.Right left right on e = cc
kinds_of_inner join.Semi left right on e = cc
kinds_of_inner join.Anti left right on e = cc

-- neither one item nor an Inner join
pub special_shape : (kind : JoinKind) (left right : JoinTree) (on : List Expr) → is_full kind ≡ false → is_inner kind ≡ false → shape_of (tree.Join kind left right on) ≡ special kind (shape_of left) (shape_of right) on
special_shape join.Full left right on e f = cc
special_shape join.Inner left right on e f = cc
special_shape join.Left left right on e f = at_join join.Left left right on
special_shape join.Right left right on e f = at_join join.Right left right on
special_shape join.Semi left right on e f = at_join join.Semi left right on
special_shape join.Anti left right on e f = at_join join.Anti left right on

pub kinds_of_special : (kind : JoinKind) (left right : JoinTree) (on : List Expr) → is_full kind ≡ false → is_inner kind ≡ false → kinds_in (shape_of (tree.Join kind left right on)) ≡ kinds_in (shape_of left) ++ kinds_in (shape_of right) ++ kind ∷ []
kinds_of_special kind left right on e f = ap kinds_in (special_shape kind left right on e f)

pub kinds_of_from : (members : List JoinTree) (conds : List Expr) → kinds_in (shape_of (tree.From members conds)) ≡ kinds_in (together (map shape_of members))
kinds_of_from members conds = ap kinds_in (at_from members conds)

pub ruleset kinds = (kinds_of_base, kinds_of_sub, kinds_of_full, kinds_of_inner, kinds_of_special, kinds_of_from)

-- there are as many as special joins
pub length_kinds : (shape : Shape) → length (kinds_in shape) ≡ count_joins shape
length_kinds nothing = refl
length_kinds (item tree) = refl
length_kinds (beside left right) = length-append (kinds_in left) (kinds_in right) ∙ ap₂ ◌+◌ (length_kinds left) (length_kinds right)
length_kinds (filtered shape conds) = length_kinds shape
length_kinds (special kind left right on) =
    let all = length-append (kinds_in left ++ kinds_in right) (kind ∷ []) in
    let both = length-append (kinds_in left) (kinds_in right) in
    let l = length_kinds left in
    let r = length_kinds right in
    omega (arith, all, both, l, r)
