-- What `same_expr` is where both expressions have one constructor, and where they don't.
use Rattle.std.proofs.Common.{◌≡◌, ◌∙◌, ap, sym, refl, ℕ, Bool, true, false, List, [], ◌∷◌, map, Option, Some, None}
use Rattle.std.specs.Prelude.{◌==◌, ◌&&◌}
use Rattle.std.specs.Option.{option_map}
use Rattle.jp_base.specs.declared.values.Ty.{Ty}
use Rattle.jp_base.specs.declared.values.Value.{Value}
use Rattle.jp_base.specs.Values.{are_same}
use Rattle.jp_query.specs.declared.CmpOp.{CmpOp}
use Rattle.jp_query.specs.declared.IsTest.{IsTest}
use Rattle.jp_query.specs.declared.Expr.{out-Expr}
use Rattle.jp_query.specs.declared.Expr.TheViews.{roll-Expr, roll-out-Expr}
use Rattle.jp_query.specs.declared.Expr.TheVariants as expr
use Rattle.jp_query.specs.Layers.{Expr, Query, ExprLayer, Expr-F}
use Rattle.jp_query.specs.Typing.{same_type}
use Rattle.jp_query.specs.Equality.{Same, same_op, same_test, same_sign, same_each, same_part, same_term, same_arm, same_option, same_level, same_as, same_expr, same_exprs, same_of_terms, same_of_arms, same_of_options}
use Rattle.jp_query.proofs.FoldLaws as laws

beside : (a b : Expr) (x : Expr-F Same (Unit {0}) (Unit {0}) (Unit {0}) (Unit {0})) (y : ExprLayer) → same_expr a ≡ same_as x → out-Expr b ≡ y → same_expr a b ≡ same_level x y
beside a b x y p q = ap (λ (f : Same). f b) p ∙ ap (same_level x) q

each_map : {X Y Z : Type 0} (f : Y → Z → Bool) (g : X → Y) (xs : List X) (zs : List Z) → same_each f (map g xs) zs ≡ same_each (λ x. f (g x)) xs zs
each_map f g [] [] = refl
each_map f g [] (z ∷ zs) = refl
each_map f g (x ∷ xs) [] = refl
each_map f g (x ∷ xs) (z ∷ zs) = ap (λ b. f (g x) z && b) (each_map f g xs zs)

pub and_there : (a b : Bool) → a ≡ true → (a && b) ≡ b
and_there true b e = refl
and_there false b e = cc

pub and_missing : (a b : Bool) → a ≡ false → (a && b) ≡ false
and_missing true b e = cc
and_missing false b e = refl

option_maps : (a b : Option Expr) → same_option (option_map same_expr a) b ≡ same_of_options a b
option_maps None None = refl
option_maps None (Some y) = refl
option_maps (Some x) None = refl
option_maps (Some x) (Some y) = refl

pub same-Col : (rel : ℕ) (col : ℕ) (ty : Ty) (nulled : ℕ) (rel' : ℕ) (col' : ℕ) (ty' : Ty) (nulled' : ℕ) → same_expr (expr.Col rel col ty nulled) (expr.Col rel' col' ty' nulled') ≡ ((rel == rel') && ((col == col') && (same_type ty ty' && (nulled == nulled'))))
unfolding same_level
same-Col rel col ty nulled rel' col' ty' nulled' = beside (expr.Col rel col ty nulled) (expr.Col rel' col' ty' nulled') (Expr-F.Col rel col ty nulled) (Expr-F.Col rel' col' ty' nulled') (laws.at-Col Same (Unit {0}) (Unit {0}) (Unit {0}) (Unit {0}) same_as (λ t. tt) (λ o. tt) (λ u. tt) (λ q. tt) rel col ty nulled) (expr.outs-Col rel' col' ty' nulled')

beside-Col : (rel' : ℕ) (col' : ℕ) (ty' : Ty) (nulled' : ℕ) (l : ExprLayer) → ((rel : ℕ) (col : ℕ) (ty : Ty) (nulled : ℕ) → l ≡ Expr-F.Col rel col ty nulled → ⊥) → same_level (Expr-F.Col rel' col' ty' nulled') l ≡ false
unfolding same_level
beside-Col rel' col' ty' nulled' (Expr-F.Col rel col ty nulled) h = absurd (h rel col ty nulled refl)
beside-Col rel' col' ty' nulled' _ h = refl

pub other-Col : (rel' : ℕ) (col' : ℕ) (ty' : Ty) (nulled' : ℕ) (b : Expr) → ((rel : ℕ) (col : ℕ) (ty : Ty) (nulled : ℕ) → b ≡ expr.Col rel col ty nulled → ⊥) → same_expr (expr.Col rel' col' ty' nulled') b ≡ false
other-Col rel' col' ty' nulled' b h = ap (λ (f : Same). f b) (laws.at-Col Same (Unit {0}) (Unit {0}) (Unit {0}) (Unit {0}) same_as (λ t. tt) (λ o. tt) (λ u. tt) (λ q. tt) rel' col' ty' nulled') ∙ beside-Col rel' col' ty' nulled' (out-Expr b) (λ rel col ty nulled e. h rel col ty nulled (sym (roll-out-Expr b) ∙ ap roll-Expr e ∙ expr.rolls-Col rel col ty nulled))

pub same-Lit : (value : Value) (ty : Ty) (value' : Value) (ty' : Ty) → same_expr (expr.Lit value ty) (expr.Lit value' ty') ≡ (are_same value value' && same_type ty ty')
unfolding same_level
same-Lit value ty value' ty' = beside (expr.Lit value ty) (expr.Lit value' ty') (Expr-F.Lit value ty) (Expr-F.Lit value' ty') (laws.at-Lit Same (Unit {0}) (Unit {0}) (Unit {0}) (Unit {0}) same_as (λ t. tt) (λ o. tt) (λ u. tt) (λ q. tt) value ty) (expr.outs-Lit value' ty')

beside-Lit : (value' : Value) (ty' : Ty) (l : ExprLayer) → ((value : Value) (ty : Ty) → l ≡ Expr-F.Lit value ty → ⊥) → same_level (Expr-F.Lit value' ty') l ≡ false
unfolding same_level
beside-Lit value' ty' (Expr-F.Lit value ty) h = absurd (h value ty refl)
beside-Lit value' ty' _ h = refl

pub other-Lit : (value' : Value) (ty' : Ty) (b : Expr) → ((value : Value) (ty : Ty) → b ≡ expr.Lit value ty → ⊥) → same_expr (expr.Lit value' ty') b ≡ false
other-Lit value' ty' b h = ap (λ (f : Same). f b) (laws.at-Lit Same (Unit {0}) (Unit {0}) (Unit {0}) (Unit {0}) same_as (λ t. tt) (λ o. tt) (λ u. tt) (λ q. tt) value' ty') ∙ beside-Lit value' ty' (out-Expr b) (λ value ty e. h value ty (sym (roll-out-Expr b) ∙ ap roll-Expr e ∙ expr.rolls-Lit value ty))

pub same-Place : (inner : Expr) (rels : ℕ) (inner' : Expr) (rels' : ℕ) → same_expr (expr.Place inner rels) (expr.Place inner' rels') ≡ ((rels == rels') && same_expr inner inner')
unfolding same_level
same-Place inner rels inner' rels' = beside (expr.Place inner rels) (expr.Place inner' rels') (Expr-F.Place (same_expr inner) rels) (Expr-F.Place inner' rels') (laws.at-Place Same (Unit {0}) (Unit {0}) (Unit {0}) (Unit {0}) same_as (λ t. tt) (λ o. tt) (λ u. tt) (λ q. tt) inner rels) (expr.outs-Place inner' rels')

beside-Place : (inner' : Same) (rels' : ℕ) (l : ExprLayer) → ((inner : Expr) (rels : ℕ) → l ≡ Expr-F.Place inner rels → ⊥) → same_level (Expr-F.Place inner' rels') l ≡ false
unfolding same_level
beside-Place inner' rels' (Expr-F.Place inner rels) h = absurd (h inner rels refl)
beside-Place inner' rels' _ h = refl

pub other-Place : (inner' : Expr) (rels' : ℕ) (b : Expr) → ((inner : Expr) (rels : ℕ) → b ≡ expr.Place inner rels → ⊥) → same_expr (expr.Place inner' rels') b ≡ false
other-Place inner' rels' b h = ap (λ (f : Same). f b) (laws.at-Place Same (Unit {0}) (Unit {0}) (Unit {0}) (Unit {0}) same_as (λ t. tt) (λ o. tt) (λ u. tt) (λ q. tt) inner' rels') ∙ beside-Place (same_expr inner') rels' (out-Expr b) (λ inner rels e. h inner rels (sym (roll-out-Expr b) ∙ ap roll-Expr e ∙ expr.rolls-Place inner rels))

pub same-Neg : (operand : Expr) (operand' : Expr) → same_expr (expr.Neg operand) (expr.Neg operand') ≡ (same_expr operand operand')
unfolding same_level
same-Neg operand operand' = beside (expr.Neg operand) (expr.Neg operand') (Expr-F.Neg (same_expr operand)) (Expr-F.Neg operand') (laws.at-Neg Same (Unit {0}) (Unit {0}) (Unit {0}) (Unit {0}) same_as (λ t. tt) (λ o. tt) (λ u. tt) (λ q. tt) operand) (expr.outs-Neg operand')

beside-Neg : (operand' : Same) (l : ExprLayer) → ((operand : Expr) → l ≡ Expr-F.Neg operand → ⊥) → same_level (Expr-F.Neg operand') l ≡ false
unfolding same_level
beside-Neg operand' (Expr-F.Neg operand) h = absurd (h operand refl)
beside-Neg operand' _ h = refl

pub other-Neg : (operand' : Expr) (b : Expr) → ((operand : Expr) → b ≡ expr.Neg operand → ⊥) → same_expr (expr.Neg operand') b ≡ false
other-Neg operand' b h = ap (λ (f : Same). f b) (laws.at-Neg Same (Unit {0}) (Unit {0}) (Unit {0}) (Unit {0}) same_as (λ t. tt) (λ o. tt) (λ u. tt) (λ q. tt) operand') ∙ beside-Neg (same_expr operand') (out-Expr b) (λ operand e. h operand (sym (roll-out-Expr b) ∙ ap roll-Expr e ∙ expr.rolls-Neg operand))

pub same-Sum : (terms : List (Bool × Expr)) (terms' : List (Bool × Expr)) → same_expr (expr.Sum terms) (expr.Sum terms') ≡ (same_each same_of_terms terms terms')
unfolding same_level
same-Sum terms terms' = beside (expr.Sum terms) (expr.Sum terms') (Expr-F.Sum (map (laws.of_term Same (Unit {0}) (Unit {0}) (Unit {0}) (Unit {0}) same_as (λ t. tt) (λ o. tt) (λ u. tt) (λ q. tt)) terms)) (Expr-F.Sum terms') (laws.at-Sum Same (Unit {0}) (Unit {0}) (Unit {0}) (Unit {0}) same_as (λ t. tt) (λ o. tt) (λ u. tt) (λ q. tt) terms) (expr.outs-Sum terms') ∙ each_map same_term (laws.of_term Same (Unit {0}) (Unit {0}) (Unit {0}) (Unit {0}) same_as (λ t. tt) (λ o. tt) (λ u. tt) (λ q. tt)) terms terms'

beside-Sum : (terms' : List (Bool × Same)) (l : ExprLayer) → ((terms : List (Bool × Expr)) → l ≡ Expr-F.Sum terms → ⊥) → same_level (Expr-F.Sum terms') l ≡ false
unfolding same_level
beside-Sum terms' (Expr-F.Sum terms) h = absurd (h terms refl)
beside-Sum terms' _ h = refl

pub other-Sum : (terms' : List (Bool × Expr)) (b : Expr) → ((terms : List (Bool × Expr)) → b ≡ expr.Sum terms → ⊥) → same_expr (expr.Sum terms') b ≡ false
other-Sum terms' b h = ap (λ (f : Same). f b) (laws.at-Sum Same (Unit {0}) (Unit {0}) (Unit {0}) (Unit {0}) same_as (λ t. tt) (λ o. tt) (λ u. tt) (λ q. tt) terms') ∙ beside-Sum (map (laws.of_term Same (Unit {0}) (Unit {0}) (Unit {0}) (Unit {0}) same_as (λ t. tt) (λ o. tt) (λ u. tt) (λ q. tt)) terms') (out-Expr b) (λ terms e. h terms (sym (roll-out-Expr b) ∙ ap roll-Expr e ∙ expr.rolls-Sum terms))

pub same-Product : (factors : List Expr) (factors' : List Expr) → same_expr (expr.Product factors) (expr.Product factors') ≡ (same_exprs factors factors')
unfolding same_level
same-Product factors factors' = beside (expr.Product factors) (expr.Product factors') (Expr-F.Product (map same_expr factors)) (Expr-F.Product factors') (laws.at-Product Same (Unit {0}) (Unit {0}) (Unit {0}) (Unit {0}) same_as (λ t. tt) (λ o. tt) (λ u. tt) (λ q. tt) factors) (expr.outs-Product factors') ∙ each_map same_part same_expr factors factors'

beside-Product : (factors' : List Same) (l : ExprLayer) → ((factors : List Expr) → l ≡ Expr-F.Product factors → ⊥) → same_level (Expr-F.Product factors') l ≡ false
unfolding same_level
beside-Product factors' (Expr-F.Product factors) h = absurd (h factors refl)
beside-Product factors' _ h = refl

pub other-Product : (factors' : List Expr) (b : Expr) → ((factors : List Expr) → b ≡ expr.Product factors → ⊥) → same_expr (expr.Product factors') b ≡ false
other-Product factors' b h = ap (λ (f : Same). f b) (laws.at-Product Same (Unit {0}) (Unit {0}) (Unit {0}) (Unit {0}) same_as (λ t. tt) (λ o. tt) (λ u. tt) (λ q. tt) factors') ∙ beside-Product (map same_expr factors') (out-Expr b) (λ factors e. h factors (sym (roll-out-Expr b) ∙ ap roll-Expr e ∙ expr.rolls-Product factors))

pub same-Concat : (pieces : List Expr) (pieces' : List Expr) → same_expr (expr.Concat pieces) (expr.Concat pieces') ≡ (same_exprs pieces pieces')
unfolding same_level
same-Concat pieces pieces' = beside (expr.Concat pieces) (expr.Concat pieces') (Expr-F.Concat (map same_expr pieces)) (Expr-F.Concat pieces') (laws.at-Concat Same (Unit {0}) (Unit {0}) (Unit {0}) (Unit {0}) same_as (λ t. tt) (λ o. tt) (λ u. tt) (λ q. tt) pieces) (expr.outs-Concat pieces') ∙ each_map same_part same_expr pieces pieces'

beside-Concat : (pieces' : List Same) (l : ExprLayer) → ((pieces : List Expr) → l ≡ Expr-F.Concat pieces → ⊥) → same_level (Expr-F.Concat pieces') l ≡ false
unfolding same_level
beside-Concat pieces' (Expr-F.Concat pieces) h = absurd (h pieces refl)
beside-Concat pieces' _ h = refl

pub other-Concat : (pieces' : List Expr) (b : Expr) → ((pieces : List Expr) → b ≡ expr.Concat pieces → ⊥) → same_expr (expr.Concat pieces') b ≡ false
other-Concat pieces' b h = ap (λ (f : Same). f b) (laws.at-Concat Same (Unit {0}) (Unit {0}) (Unit {0}) (Unit {0}) same_as (λ t. tt) (λ o. tt) (λ u. tt) (λ q. tt) pieces') ∙ beside-Concat (map same_expr pieces') (out-Expr b) (λ pieces e. h pieces (sym (roll-out-Expr b) ∙ ap roll-Expr e ∙ expr.rolls-Concat pieces))

pub same-Compare : (op : CmpOp) (left : Expr) (right : Expr) (op' : CmpOp) (left' : Expr) (right' : Expr) → same_expr (expr.Compare op left right) (expr.Compare op' left' right') ≡ (same_op op op' && (same_expr left left' && same_expr right right'))
unfolding same_level
same-Compare op left right op' left' right' = beside (expr.Compare op left right) (expr.Compare op' left' right') (Expr-F.Compare op (same_expr left) (same_expr right)) (Expr-F.Compare op' left' right') (laws.at-Compare Same (Unit {0}) (Unit {0}) (Unit {0}) (Unit {0}) same_as (λ t. tt) (λ o. tt) (λ u. tt) (λ q. tt) op left right) (expr.outs-Compare op' left' right')

beside-Compare : (op' : CmpOp) (left' : Same) (right' : Same) (l : ExprLayer) → ((op : CmpOp) (left : Expr) (right : Expr) → l ≡ Expr-F.Compare op left right → ⊥) → same_level (Expr-F.Compare op' left' right') l ≡ false
unfolding same_level
beside-Compare op' left' right' (Expr-F.Compare op left right) h = absurd (h op left right refl)
beside-Compare op' left' right' _ h = refl

pub other-Compare : (op' : CmpOp) (left' : Expr) (right' : Expr) (b : Expr) → ((op : CmpOp) (left : Expr) (right : Expr) → b ≡ expr.Compare op left right → ⊥) → same_expr (expr.Compare op' left' right') b ≡ false
other-Compare op' left' right' b h = ap (λ (f : Same). f b) (laws.at-Compare Same (Unit {0}) (Unit {0}) (Unit {0}) (Unit {0}) same_as (λ t. tt) (λ o. tt) (λ u. tt) (λ q. tt) op' left' right') ∙ beside-Compare op' (same_expr left') (same_expr right') (out-Expr b) (λ op left right e. h op left right (sym (roll-out-Expr b) ∙ ap roll-Expr e ∙ expr.rolls-Compare op left right))

pub same-Between : (operand : Expr) (low : Expr) (high : Expr) (operand' : Expr) (low' : Expr) (high' : Expr) → same_expr (expr.Between operand low high) (expr.Between operand' low' high') ≡ (same_expr operand operand' && (same_expr low low' && same_expr high high'))
unfolding same_level
same-Between operand low high operand' low' high' = beside (expr.Between operand low high) (expr.Between operand' low' high') (Expr-F.Between (same_expr operand) (same_expr low) (same_expr high)) (Expr-F.Between operand' low' high') (laws.at-Between Same (Unit {0}) (Unit {0}) (Unit {0}) (Unit {0}) same_as (λ t. tt) (λ o. tt) (λ u. tt) (λ q. tt) operand low high) (expr.outs-Between operand' low' high')

beside-Between : (operand' : Same) (low' : Same) (high' : Same) (l : ExprLayer) → ((operand : Expr) (low : Expr) (high : Expr) → l ≡ Expr-F.Between operand low high → ⊥) → same_level (Expr-F.Between operand' low' high') l ≡ false
unfolding same_level
beside-Between operand' low' high' (Expr-F.Between operand low high) h = absurd (h operand low high refl)
beside-Between operand' low' high' _ h = refl

pub other-Between : (operand' : Expr) (low' : Expr) (high' : Expr) (b : Expr) → ((operand : Expr) (low : Expr) (high : Expr) → b ≡ expr.Between operand low high → ⊥) → same_expr (expr.Between operand' low' high') b ≡ false
other-Between operand' low' high' b h = ap (λ (f : Same). f b) (laws.at-Between Same (Unit {0}) (Unit {0}) (Unit {0}) (Unit {0}) same_as (λ t. tt) (λ o. tt) (λ u. tt) (λ q. tt) operand' low' high') ∙ beside-Between (same_expr operand') (same_expr low') (same_expr high') (out-Expr b) (λ operand low high e. h operand low high (sym (roll-out-Expr b) ∙ ap roll-Expr e ∙ expr.rolls-Between operand low high))

pub same-InList : (operand : Expr) (list : List Expr) (operand' : Expr) (list' : List Expr) → same_expr (expr.InList operand list) (expr.InList operand' list') ≡ (same_expr operand operand' && same_exprs list list')
unfolding same_level
same-InList operand list operand' list' = beside (expr.InList operand list) (expr.InList operand' list') (Expr-F.InList (same_expr operand) (map same_expr list)) (Expr-F.InList operand' list') (laws.at-InList Same (Unit {0}) (Unit {0}) (Unit {0}) (Unit {0}) same_as (λ t. tt) (λ o. tt) (λ u. tt) (λ q. tt) operand list) (expr.outs-InList operand' list') ∙ ap (λ b. same_expr operand operand' && b) (each_map same_part same_expr list list')

beside-InList : (operand' : Same) (list' : List Same) (l : ExprLayer) → ((operand : Expr) (list : List Expr) → l ≡ Expr-F.InList operand list → ⊥) → same_level (Expr-F.InList operand' list') l ≡ false
unfolding same_level
beside-InList operand' list' (Expr-F.InList operand list) h = absurd (h operand list refl)
beside-InList operand' list' _ h = refl

pub other-InList : (operand' : Expr) (list' : List Expr) (b : Expr) → ((operand : Expr) (list : List Expr) → b ≡ expr.InList operand list → ⊥) → same_expr (expr.InList operand' list') b ≡ false
other-InList operand' list' b h = ap (λ (f : Same). f b) (laws.at-InList Same (Unit {0}) (Unit {0}) (Unit {0}) (Unit {0}) same_as (λ t. tt) (λ o. tt) (λ u. tt) (λ q. tt) operand' list') ∙ beside-InList (same_expr operand') (map same_expr list') (out-Expr b) (λ operand list e. h operand list (sym (roll-out-Expr b) ∙ ap roll-Expr e ∙ expr.rolls-InList operand list))

pub same-And : (members : List Expr) (members' : List Expr) → same_expr (expr.And members) (expr.And members') ≡ (same_exprs members members')
unfolding same_level
same-And members members' = beside (expr.And members) (expr.And members') (Expr-F.And (map same_expr members)) (Expr-F.And members') (laws.at-And Same (Unit {0}) (Unit {0}) (Unit {0}) (Unit {0}) same_as (λ t. tt) (λ o. tt) (λ u. tt) (λ q. tt) members) (expr.outs-And members') ∙ each_map same_part same_expr members members'

beside-And : (members' : List Same) (l : ExprLayer) → ((members : List Expr) → l ≡ Expr-F.And members → ⊥) → same_level (Expr-F.And members') l ≡ false
unfolding same_level
beside-And members' (Expr-F.And members) h = absurd (h members refl)
beside-And members' _ h = refl

pub other-And : (members' : List Expr) (b : Expr) → ((members : List Expr) → b ≡ expr.And members → ⊥) → same_expr (expr.And members') b ≡ false
other-And members' b h = ap (λ (f : Same). f b) (laws.at-And Same (Unit {0}) (Unit {0}) (Unit {0}) (Unit {0}) same_as (λ t. tt) (λ o. tt) (λ u. tt) (λ q. tt) members') ∙ beside-And (map same_expr members') (out-Expr b) (λ members e. h members (sym (roll-out-Expr b) ∙ ap roll-Expr e ∙ expr.rolls-And members))

pub same-Or : (members : List Expr) (members' : List Expr) → same_expr (expr.Or members) (expr.Or members') ≡ (same_exprs members members')
unfolding same_level
same-Or members members' = beside (expr.Or members) (expr.Or members') (Expr-F.Or (map same_expr members)) (Expr-F.Or members') (laws.at-Or Same (Unit {0}) (Unit {0}) (Unit {0}) (Unit {0}) same_as (λ t. tt) (λ o. tt) (λ u. tt) (λ q. tt) members) (expr.outs-Or members') ∙ each_map same_part same_expr members members'

beside-Or : (members' : List Same) (l : ExprLayer) → ((members : List Expr) → l ≡ Expr-F.Or members → ⊥) → same_level (Expr-F.Or members') l ≡ false
unfolding same_level
beside-Or members' (Expr-F.Or members) h = absurd (h members refl)
beside-Or members' _ h = refl

pub other-Or : (members' : List Expr) (b : Expr) → ((members : List Expr) → b ≡ expr.Or members → ⊥) → same_expr (expr.Or members') b ≡ false
other-Or members' b h = ap (λ (f : Same). f b) (laws.at-Or Same (Unit {0}) (Unit {0}) (Unit {0}) (Unit {0}) same_as (λ t. tt) (λ o. tt) (λ u. tt) (λ q. tt) members') ∙ beside-Or (map same_expr members') (out-Expr b) (λ members e. h members (sym (roll-out-Expr b) ∙ ap roll-Expr e ∙ expr.rolls-Or members))

pub same-Not : (operand : Expr) (operand' : Expr) → same_expr (expr.Not operand) (expr.Not operand') ≡ (same_expr operand operand')
unfolding same_level
same-Not operand operand' = beside (expr.Not operand) (expr.Not operand') (Expr-F.Not (same_expr operand)) (Expr-F.Not operand') (laws.at-Not Same (Unit {0}) (Unit {0}) (Unit {0}) (Unit {0}) same_as (λ t. tt) (λ o. tt) (λ u. tt) (λ q. tt) operand) (expr.outs-Not operand')

beside-Not : (operand' : Same) (l : ExprLayer) → ((operand : Expr) → l ≡ Expr-F.Not operand → ⊥) → same_level (Expr-F.Not operand') l ≡ false
unfolding same_level
beside-Not operand' (Expr-F.Not operand) h = absurd (h operand refl)
beside-Not operand' _ h = refl

pub other-Not : (operand' : Expr) (b : Expr) → ((operand : Expr) → b ≡ expr.Not operand → ⊥) → same_expr (expr.Not operand') b ≡ false
other-Not operand' b h = ap (λ (f : Same). f b) (laws.at-Not Same (Unit {0}) (Unit {0}) (Unit {0}) (Unit {0}) same_as (λ t. tt) (λ o. tt) (λ u. tt) (λ q. tt) operand') ∙ beside-Not (same_expr operand') (out-Expr b) (λ operand e. h operand (sym (roll-out-Expr b) ∙ ap roll-Expr e ∙ expr.rolls-Not operand))

pub same-Test : (test : IsTest) (operand : Expr) (test' : IsTest) (operand' : Expr) → same_expr (expr.Test test operand) (expr.Test test' operand') ≡ (same_test test test' && same_expr operand operand')
unfolding same_level
same-Test test operand test' operand' = beside (expr.Test test operand) (expr.Test test' operand') (Expr-F.Test test (same_expr operand)) (Expr-F.Test test' operand') (laws.at-Test Same (Unit {0}) (Unit {0}) (Unit {0}) (Unit {0}) same_as (λ t. tt) (λ o. tt) (λ u. tt) (λ q. tt) test operand) (expr.outs-Test test' operand')

beside-Test : (test' : IsTest) (operand' : Same) (l : ExprLayer) → ((test : IsTest) (operand : Expr) → l ≡ Expr-F.Test test operand → ⊥) → same_level (Expr-F.Test test' operand') l ≡ false
unfolding same_level
beside-Test test' operand' (Expr-F.Test test operand) h = absurd (h test operand refl)
beside-Test test' operand' _ h = refl

pub other-Test : (test' : IsTest) (operand' : Expr) (b : Expr) → ((test : IsTest) (operand : Expr) → b ≡ expr.Test test operand → ⊥) → same_expr (expr.Test test' operand') b ≡ false
other-Test test' operand' b h = ap (λ (f : Same). f b) (laws.at-Test Same (Unit {0}) (Unit {0}) (Unit {0}) (Unit {0}) same_as (λ t. tt) (λ o. tt) (λ u. tt) (λ q. tt) test' operand') ∙ beside-Test test' (same_expr operand') (out-Expr b) (λ test operand e. h test operand (sym (roll-out-Expr b) ∙ ap roll-Expr e ∙ expr.rolls-Test test operand))

pub same-Coalesce : (members : List Expr) (members' : List Expr) → same_expr (expr.Coalesce members) (expr.Coalesce members') ≡ (same_exprs members members')
unfolding same_level
same-Coalesce members members' = beside (expr.Coalesce members) (expr.Coalesce members') (Expr-F.Coalesce (map same_expr members)) (Expr-F.Coalesce members') (laws.at-Coalesce Same (Unit {0}) (Unit {0}) (Unit {0}) (Unit {0}) same_as (λ t. tt) (λ o. tt) (λ u. tt) (λ q. tt) members) (expr.outs-Coalesce members') ∙ each_map same_part same_expr members members'

beside-Coalesce : (members' : List Same) (l : ExprLayer) → ((members : List Expr) → l ≡ Expr-F.Coalesce members → ⊥) → same_level (Expr-F.Coalesce members') l ≡ false
unfolding same_level
beside-Coalesce members' (Expr-F.Coalesce members) h = absurd (h members refl)
beside-Coalesce members' _ h = refl

pub other-Coalesce : (members' : List Expr) (b : Expr) → ((members : List Expr) → b ≡ expr.Coalesce members → ⊥) → same_expr (expr.Coalesce members') b ≡ false
other-Coalesce members' b h = ap (λ (f : Same). f b) (laws.at-Coalesce Same (Unit {0}) (Unit {0}) (Unit {0}) (Unit {0}) same_as (λ t. tt) (λ o. tt) (λ u. tt) (λ q. tt) members') ∙ beside-Coalesce (map same_expr members') (out-Expr b) (λ members e. h members (sym (roll-out-Expr b) ∙ ap roll-Expr e ∙ expr.rolls-Coalesce members))

pub same-Case : (operand : Option Expr) (arms : List (Expr × Expr)) (otherwise : Option Expr) (operand' : Option Expr) (arms' : List (Expr × Expr)) (otherwise' : Option Expr) → same_expr (expr.Case operand arms otherwise) (expr.Case operand' arms' otherwise') ≡ (same_of_options operand operand' && (same_each same_of_arms arms arms' && same_of_options otherwise otherwise'))
unfolding same_level
same-Case operand arms otherwise operand' arms' otherwise' = beside (expr.Case operand arms otherwise) (expr.Case operand' arms' otherwise') (Expr-F.Case (option_map same_expr operand) (map (laws.of_arm Same (Unit {0}) (Unit {0}) (Unit {0}) (Unit {0}) same_as (λ t. tt) (λ o. tt) (λ u. tt) (λ q. tt)) arms) (option_map same_expr otherwise)) (Expr-F.Case operand' arms' otherwise') (laws.at-Case Same (Unit {0}) (Unit {0}) (Unit {0}) (Unit {0}) same_as (λ t. tt) (λ o. tt) (λ u. tt) (λ q. tt) operand arms otherwise) (expr.outs-Case operand' arms' otherwise')
    ∙ ap (λ b. b && (same_each same_arm (map (laws.of_arm Same (Unit {0}) (Unit {0}) (Unit {0}) (Unit {0}) same_as (λ t. tt) (λ o. tt) (λ u. tt) (λ q. tt)) arms) arms' && same_option (option_map same_expr otherwise) otherwise')) (option_maps operand operand')
    ∙ ap (λ b. same_of_options operand operand' && (b && same_option (option_map same_expr otherwise) otherwise')) (each_map same_arm (laws.of_arm Same (Unit {0}) (Unit {0}) (Unit {0}) (Unit {0}) same_as (λ t. tt) (λ o. tt) (λ u. tt) (λ q. tt)) arms arms')
    ∙ ap (λ b. same_of_options operand operand' && (same_each same_of_arms arms arms' && b)) (option_maps otherwise otherwise')

beside-Case : (operand' : Option Same) (arms' : List (Same × Same)) (otherwise' : Option Same) (l : ExprLayer) → ((operand : Option Expr) (arms : List (Expr × Expr)) (otherwise : Option Expr) → l ≡ Expr-F.Case operand arms otherwise → ⊥) → same_level (Expr-F.Case operand' arms' otherwise') l ≡ false
unfolding same_level
beside-Case operand' arms' otherwise' (Expr-F.Case operand arms otherwise) h = absurd (h operand arms otherwise refl)
beside-Case operand' arms' otherwise' _ h = refl

pub other-Case : (operand' : Option Expr) (arms' : List (Expr × Expr)) (otherwise' : Option Expr) (b : Expr) → ((operand : Option Expr) (arms : List (Expr × Expr)) (otherwise : Option Expr) → b ≡ expr.Case operand arms otherwise → ⊥) → same_expr (expr.Case operand' arms' otherwise') b ≡ false
other-Case operand' arms' otherwise' b h = ap (λ (f : Same). f b) (laws.at-Case Same (Unit {0}) (Unit {0}) (Unit {0}) (Unit {0}) same_as (λ t. tt) (λ o. tt) (λ u. tt) (λ q. tt) operand' arms' otherwise') ∙ beside-Case (option_map same_expr operand') (map (laws.of_arm Same (Unit {0}) (Unit {0}) (Unit {0}) (Unit {0}) same_as (λ t. tt) (λ o. tt) (λ u. tt) (λ q. tt)) arms') (option_map same_expr otherwise') (out-Expr b) (λ operand arms otherwise e. h operand arms otherwise (sym (roll-out-Expr b) ∙ ap roll-Expr e ∙ expr.rolls-Case operand arms otherwise))

pub same-Exists : (sub : ℕ) (query : Query) (sub' : ℕ) (query' : Query) → same_expr (expr.Exists sub query) (expr.Exists sub' query') ≡ (sub == sub')
unfolding same_level
same-Exists sub query sub' query' = beside (expr.Exists sub query) (expr.Exists sub' query') (Expr-F.Exists sub tt) (Expr-F.Exists sub' query') (laws.at-Exists Same (Unit {0}) (Unit {0}) (Unit {0}) (Unit {0}) same_as (λ t. tt) (λ o. tt) (λ u. tt) (λ q. tt) sub query) (expr.outs-Exists sub' query')

beside-Exists : (sub' : ℕ) (query' : Unit {0}) (l : ExprLayer) → ((sub : ℕ) (query : Query) → l ≡ Expr-F.Exists sub query → ⊥) → same_level (Expr-F.Exists sub' query') l ≡ false
unfolding same_level
beside-Exists sub' query' (Expr-F.Exists sub query) h = absurd (h sub query refl)
beside-Exists sub' query' _ h = refl

pub other-Exists : (sub' : ℕ) (query' : Query) (b : Expr) → ((sub : ℕ) (query : Query) → b ≡ expr.Exists sub query → ⊥) → same_expr (expr.Exists sub' query') b ≡ false
other-Exists sub' query' b h = ap (λ (f : Same). f b) (laws.at-Exists Same (Unit {0}) (Unit {0}) (Unit {0}) (Unit {0}) same_as (λ t. tt) (λ o. tt) (λ u. tt) (λ q. tt) sub' query') ∙ beside-Exists sub' tt (out-Expr b) (λ sub query e. h sub query (sym (roll-out-Expr b) ∙ ap roll-Expr e ∙ expr.rolls-Exists sub query))

pub same-InSub : (sub : ℕ) (operand : Expr) (query : Query) (sub' : ℕ) (operand' : Expr) (query' : Query) → same_expr (expr.InSub sub operand query) (expr.InSub sub' operand' query') ≡ (sub == sub')
unfolding same_level
same-InSub sub operand query sub' operand' query' = beside (expr.InSub sub operand query) (expr.InSub sub' operand' query') (Expr-F.InSub sub (same_expr operand) tt) (Expr-F.InSub sub' operand' query') (laws.at-InSub Same (Unit {0}) (Unit {0}) (Unit {0}) (Unit {0}) same_as (λ t. tt) (λ o. tt) (λ u. tt) (λ q. tt) sub operand query) (expr.outs-InSub sub' operand' query')

beside-InSub : (sub' : ℕ) (operand' : Same) (query' : Unit {0}) (l : ExprLayer) → ((sub : ℕ) (operand : Expr) (query : Query) → l ≡ Expr-F.InSub sub operand query → ⊥) → same_level (Expr-F.InSub sub' operand' query') l ≡ false
unfolding same_level
beside-InSub sub' operand' query' (Expr-F.InSub sub operand query) h = absurd (h sub operand query refl)
beside-InSub sub' operand' query' _ h = refl

pub other-InSub : (sub' : ℕ) (operand' : Expr) (query' : Query) (b : Expr) → ((sub : ℕ) (operand : Expr) (query : Query) → b ≡ expr.InSub sub operand query → ⊥) → same_expr (expr.InSub sub' operand' query') b ≡ false
other-InSub sub' operand' query' b h = ap (λ (f : Same). f b) (laws.at-InSub Same (Unit {0}) (Unit {0}) (Unit {0}) (Unit {0}) same_as (λ t. tt) (λ o. tt) (λ u. tt) (λ q. tt) sub' operand' query') ∙ beside-InSub sub' (same_expr operand') tt (out-Expr b) (λ sub operand query e. h sub operand query (sym (roll-out-Expr b) ∙ ap roll-Expr e ∙ expr.rolls-InSub sub operand query))

pub ruleset equations = (same-Col, same-Lit, same-Place, same-Neg, same-Sum, same-Product, same-Concat, same-Compare, same-Between, same-InList, same-And, same-Or, same-Not, same-Test, same-Coalesce, same-Case, same-Exists, same-InSub, other-Col, other-Lit, other-Place, other-Neg, other-Sum, other-Product, other-Concat, other-Compare, other-Between, other-InList, other-And, other-Or, other-Not, other-Test, other-Coalesce, other-Case, other-Exists, other-InSub)
