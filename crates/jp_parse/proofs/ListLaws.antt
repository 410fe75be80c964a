-- The lists of the grammar as lists of members.
use Rattle.std.proofs.Common.{◌≡◌, Bool, List, [], ◌∷◌, ◌++◌, refl, sym, ap, ◌∙◌, append-nil}
use Rattle.jp_ast.specs.declared.tree.Ast.{Ast}
use Rattle.jp_ast.specs.declared.tree.OrderAst.{OrderAst}
use Rattle.jp_ast.specs.declared.tree.FromItem.{FromItem}
use Rattle.jp_ast.specs.declared.tree.Target.{Target}
use Rattle.jp_ast.specs.declared.class.Class.TheVariants as k
use Rattle.jp_cursor.specs.Reading.{minus_in}
use Rattle.jp_ast.specs.Classes.{class}
use Rattle.jp_ast.specs.Nodes.{is_sign, Joined}
use Rattle.jp_ast.specs.Grammar.{IsSign, MoreFactors, IsProduct, MoreTerms, IsSum, MoreParts, IsNot, MoreNots, IsAnd, MoreAnds, IsExpr, MoreExprs, IsArm, MoreArms, IsItem, MoreItems, IsJoin, MoreJoins, IsTarget, MoreTargets, IsOrder, MoreOrders}
use Rattle.jp_parse.proofs.Exact.{Tokens, Many, IsThen, IsPure, IsAfter}
use Rattle.jp_parse.proofs.Samples.{is_same}
use Rattle.jp_parse.proofs.Steps.{Behind, behind}

pub to-MoreFactors : (ts : Tokens) (v : List Ast) → Many (Behind k.Star IsSign) ts v → MoreFactors ts v
to-MoreFactors ts v (Many.none cut value) = MoreFactors.no_factors cut value
to-MoreFactors ts v (Many.more u w a list cut is rest value) = MoreFactors.more_factors is.token is.rest w a list (cut ∙ ap (λ x. x ++ w) is.cut) (is_same k.Star (class is.token) is.good) is.back (to-MoreFactors w list rest) value

pub of-MoreFactors : (ts : Tokens) (v : List Ast) → MoreFactors ts v → Many (Behind k.Star IsSign) ts v
of-MoreFactors ts v (MoreFactors.no_factors cut value) = Many.none cut value
of-MoreFactors ts v (MoreFactors.more_factors t u w a list cut is inner rest value) = Many.more (t ∷ u) w a list cut (behind k.Star IsSign (t ∷ u) a t u refl is inner) (of-MoreFactors w list rest) value

pub to-MoreParts : (ts : Tokens) (v : List Ast) → Many (Behind k.Bars IsSum) ts v → MoreParts ts v
to-MoreParts ts v (Many.none cut value) = MoreParts.no_parts cut value
to-MoreParts ts v (Many.more u w a list cut is rest value) = MoreParts.more_parts is.token is.rest w a list (cut ∙ ap (λ x. x ++ w) is.cut) (is_same k.Bars (class is.token) is.good) is.back (to-MoreParts w list rest) value

pub of-MoreParts : (ts : Tokens) (v : List Ast) → MoreParts ts v → Many (Behind k.Bars IsSum) ts v
of-MoreParts ts v (MoreParts.no_parts cut value) = Many.none cut value
of-MoreParts ts v (MoreParts.more_parts t u w a list cut is inner rest value) = Many.more (t ∷ u) w a list cut (behind k.Bars IsSum (t ∷ u) a t u refl is inner) (of-MoreParts w list rest) value

pub to-MoreNots : (ts : Tokens) (v : List Ast) → Many (Behind k.And IsNot) ts v → MoreNots ts v
to-MoreNots ts v (Many.none cut value) = MoreNots.no_nots cut value
to-MoreNots ts v (Many.more u w a list cut is rest value) = MoreNots.more_nots is.token is.rest w a list (cut ∙ ap (λ x. x ++ w) is.cut) (is_same k.And (class is.token) is.good) is.back (to-MoreNots w list rest) value

pub of-MoreNots : (ts : Tokens) (v : List Ast) → MoreNots ts v → Many (Behind k.And IsNot) ts v
of-MoreNots ts v (MoreNots.no_nots cut value) = Many.none cut value
of-MoreNots ts v (MoreNots.more_nots t u w a list cut is inner rest value) = Many.more (t ∷ u) w a list cut (behind k.And IsNot (t ∷ u) a t u refl is inner) (of-MoreNots w list rest) value

pub to-MoreAnds : (ts : Tokens) (v : List Ast) → Many (Behind k.Or IsAnd) ts v → MoreAnds ts v
to-MoreAnds ts v (Many.none cut value) = MoreAnds.no_ands cut value
to-MoreAnds ts v (Many.more u w a list cut is rest value) = MoreAnds.more_ands is.token is.rest w a list (cut ∙ ap (λ x. x ++ w) is.cut) (is_same k.Or (class is.token) is.good) is.back (to-MoreAnds w list rest) value

pub of-MoreAnds : (ts : Tokens) (v : List Ast) → MoreAnds ts v → Many (Behind k.Or IsAnd) ts v
of-MoreAnds ts v (MoreAnds.no_ands cut value) = Many.none cut value
of-MoreAnds ts v (MoreAnds.more_ands t u w a list cut is inner rest value) = Many.more (t ∷ u) w a list cut (behind k.Or IsAnd (t ∷ u) a t u refl is inner) (of-MoreAnds w list rest) value

pub to-MoreExprs : (ts : Tokens) (v : List Ast) → Many (Behind k.Comma IsExpr) ts v → MoreExprs ts v
to-MoreExprs ts v (Many.none cut value) = MoreExprs.no_exprs cut value
to-MoreExprs ts v (Many.more u w a list cut is rest value) = MoreExprs.more_exprs is.token is.rest w a list (cut ∙ ap (λ x. x ++ w) is.cut) (is_same k.Comma (class is.token) is.good) is.back (to-MoreExprs w list rest) value

pub of-MoreExprs : (ts : Tokens) (v : List Ast) → MoreExprs ts v → Many (Behind k.Comma IsExpr) ts v
of-MoreExprs ts v (MoreExprs.no_exprs cut value) = Many.none cut value
of-MoreExprs ts v (MoreExprs.more_exprs t u w a list cut is inner rest value) = Many.more (t ∷ u) w a list cut (behind k.Comma IsExpr (t ∷ u) a t u refl is inner) (of-MoreExprs w list rest) value

pub to-MoreItems : (ts : Tokens) (v : List FromItem) → Many (Behind k.Comma IsItem) ts v → MoreItems ts v
to-MoreItems ts v (Many.none cut value) = MoreItems.no_items cut value
to-MoreItems ts v (Many.more u w a list cut is rest value) = MoreItems.more_items is.token is.rest w a list (cut ∙ ap (λ x. x ++ w) is.cut) (is_same k.Comma (class is.token) is.good) is.back (to-MoreItems w list rest) value

pub of-MoreItems : (ts : Tokens) (v : List FromItem) → MoreItems ts v → Many (Behind k.Comma IsItem) ts v
of-MoreItems ts v (MoreItems.no_items cut value) = Many.none cut value
of-MoreItems ts v (MoreItems.more_items t u w a list cut is inner rest value) = Many.more (t ∷ u) w a list cut (behind k.Comma IsItem (t ∷ u) a t u refl is inner) (of-MoreItems w list rest) value

pub to-MoreTargets : (ts : Tokens) (v : List Target) → Many (Behind k.Comma IsTarget) ts v → MoreTargets ts v
to-MoreTargets ts v (Many.none cut value) = MoreTargets.no_targets cut value
to-MoreTargets ts v (Many.more u w a list cut is rest value) = MoreTargets.more_targets is.token is.rest w a list (cut ∙ ap (λ x. x ++ w) is.cut) (is_same k.Comma (class is.token) is.good) is.back (to-MoreTargets w list rest) value

pub of-MoreTargets : (ts : Tokens) (v : List Target) → MoreTargets ts v → Many (Behind k.Comma IsTarget) ts v
of-MoreTargets ts v (MoreTargets.no_targets cut value) = Many.none cut value
of-MoreTargets ts v (MoreTargets.more_targets t u w a list cut is inner rest value) = Many.more (t ∷ u) w a list cut (behind k.Comma IsTarget (t ∷ u) a t u refl is inner) (of-MoreTargets w list rest) value

pub to-MoreOrders : (ts : Tokens) (v : List OrderAst) → Many (Behind k.Comma IsOrder) ts v → MoreOrders ts v
to-MoreOrders ts v (Many.none cut value) = MoreOrders.none cut value
to-MoreOrders ts v (Many.more u w a list cut is rest value) = MoreOrders.more is.token is.rest w a list (cut ∙ ap (λ x. x ++ w) is.cut) (is_same k.Comma (class is.token) is.good) is.back (to-MoreOrders w list rest) value

pub of-MoreOrders : (ts : Tokens) (v : List OrderAst) → MoreOrders ts v → Many (Behind k.Comma IsOrder) ts v
of-MoreOrders ts v (MoreOrders.none cut value) = Many.none cut value
of-MoreOrders ts v (MoreOrders.more t u w a list cut is inner rest value) = Many.more (t ∷ u) w a list cut (behind k.Comma IsOrder (t ∷ u) a t u refl is inner) (of-MoreOrders w list rest) value

pub to-MoreArms : (ts : Tokens) (v : List (Ast × Ast)) → Many IsArm ts v → MoreArms ts v
to-MoreArms ts v (Many.none cut value) = MoreArms.no_arms cut value
to-MoreArms ts v (Many.more u w a list cut is rest value) = MoreArms.more_arms u w a list cut is (to-MoreArms w list rest) value

pub of-MoreArms : (ts : Tokens) (v : List (Ast × Ast)) → MoreArms ts v → Many IsArm ts v
of-MoreArms ts v (MoreArms.no_arms cut value) = Many.none cut value
of-MoreArms ts v (MoreArms.more_arms u w a list cut is rest value) = Many.more u w a list cut is (of-MoreArms w list rest) value

pub to-MoreJoins : (ts : Tokens) (v : List Joined) → Many IsJoin ts v → MoreJoins ts v
to-MoreJoins ts v (Many.none cut value) = MoreJoins.no_joins cut value
to-MoreJoins ts v (Many.more u w a list cut is rest value) = MoreJoins.more_joins u w a list cut is (to-MoreJoins w list rest) value

pub of-MoreJoins : (ts : Tokens) (v : List Joined) → MoreJoins ts v → Many IsJoin ts v
of-MoreJoins ts v (MoreJoins.no_joins cut value) = Many.none cut value
of-MoreJoins ts v (MoreJoins.more_joins u w a list cut is rest value) = Many.more u w a list cut is (of-MoreJoins w list rest) value

-- a sign and a product
abbrev pub IsTerm : Tokens → Bool × Ast → Type 0
IsTerm = IsAfter is_sign minus_in (λ minus. IsThen IsProduct (λ a. IsPure (minus, a)))

pub to-MoreTerms : (ts : Tokens) (v : List (Bool × Ast)) → Many IsTerm ts v → MoreTerms ts v
to-MoreTerms ts v (Many.none cut value) = MoreTerms.no_terms cut value
to-MoreTerms ts v (Many.more u w a list cut is rest value) =
    let whole : is.rest ≡ is.back.left = is.back.cut ∙ ap (λ x. is.back.left ++ x) is.back.back.cut ∙ append-nil is.back.left in
    MoreTerms.more_terms is.token is.back.left w is.back.value list (cut ∙ ap (λ x. x ++ w) (is.cut ∙ ap (λ x. is.token ∷ x) whole)) is.good is.back.front (to-MoreTerms w list rest) (value ∙ ap (λ x. x ∷ list) is.back.back.value)

pub of-MoreTerms : (ts : Tokens) (v : List (Bool × Ast)) → MoreTerms ts v → Many IsTerm ts v
of-MoreTerms ts v (MoreTerms.no_terms cut value) = Many.none cut value
of-MoreTerms ts v (MoreTerms.more_terms t u w a list cut is inner rest value) =
    Many.more (t ∷ u) w (minus_in t, a) list cut (record { token = t; rest = u; cut = refl; good = is; back = record { left = u; right = []; value = a; cut = sym (append-nil u); front = inner; back = record { cut = refl; value = refl } } }) (of-MoreTerms w list rest) value
