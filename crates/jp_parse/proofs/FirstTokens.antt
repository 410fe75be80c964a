-- The tokens that begin the lists of each rule: proved for each, lowest first.
use Rattle.std.proofs.Common.{◌≡◌, Bool, true, false, not, ◌&&◌, [], ◌∷◌, ◌++◌, refl, sym, ap, ◌∙◌, true≢false}
use Rattle.jp_ast.specs.declared.tree.Ast.{Ast}
use Rattle.jp_ast.specs.declared.tree.FromItem.{FromItem}
use Rattle.jp_ast.specs.declared.tree.Select.{Select}
use Rattle.jp_ast.specs.declared.tree.Target.{Target}
use Rattle.jp_ast.specs.declared.tree.JoinWord.{JoinWord}
use Rattle.jp_ast.specs.declared.class.Class.{Class}
use Rattle.jp_ast.specs.declared.class.Class.TheVariants as k
use Rattle.jp_ast.specs.Seen.{Seen}
use Rattle.jp_ast.specs.Classes.{class, first, same, is_name}
use Rattle.jp_ast.specs.Nodes.{is_sign, Joined}
use Rattle.jp_ast.specs.Grammar.{MaybeSide, IsAtom, IsArm, IsSign, IsProduct, IsSum, IsCat, IsRange, IsCompare, IsTest, IsNot, IsAnd, IsExpr, IsPrimary, IsJoin, IsItem, IsTarget, IsSelect}
use Rattle.jp_cursor.specs.Reading.{is, begins_join}
use Rattle.jp_parse.proofs.Exact.{Tokens, Set, Within, Begins, begins_first}
use Rattle.jp_parse.proofs.Samples.{same_is}
use Rattle.jp_parse.proofs.Sets.{begins_atom, begins_sign, begins_expr, begins_primary, begins_target}

abbrev pub Subset : Set → Set → Type 0
Subset X Y = (c : Class) → X c ≡ true → Y c ≡ true

pub subset : (X Y : Set) → Within X Y → Subset X Y
subset X Y h c = go (X c) (Y c) (h c)
  where
    go : (a b : Bool) → (a && not b) ≡ false → a ≡ true → b ≡ true
    go true true e f = refl
    go true false e f = sym e
    go false b e f = absurd (true≢false (sym f))

-- a token of the class stands first
pub led : (F : Set) (u : Tokens) (t : Seen) (w : Tokens) (c : Class) → u ≡ t ∷ w → class t ≡ c → F c ≡ true → F (first u) ≡ true
led F u t w c cut is good = ap F (ap first cut ∙ is) ∙ good

-- a token of the set stands first
pub led_by : (G F : Set) (u : Tokens) (t : Seen) (w : Tokens) → Subset G F → u ≡ t ∷ w → G (class t) ≡ true → F (first u) ≡ true
led_by G F u t w sub cut good = ap F (ap first cut) ∙ sub (class t) good

-- a member of a rule stands first
pub led_in : {A : Type 0} (F : Set) (L : Tokens → A → Type 0) (ts u w : Tokens) (a : A) → Begins F L → ts ≡ u ++ w → L u a → F (first ts) ≡ true
led_in F L ts u w a begun cut is = ap F (ap first cut) ∙ begins_first F L u w a begun is

name_atom : Within is_name begins_atom
name_atom k.Name = refl
name_atom _ = refl

atom_sign : Within begins_atom begins_sign
atom_sign k.Name = refl
atom_sign _ = refl

sign_sign : Within is_sign begins_sign
sign_sign k.Plus = refl
sign_sign _ = refl

sign_expr : Within begins_sign begins_expr
sign_expr k.Name = refl
sign_expr _ = refl

name_primary : Within is_name begins_primary
name_primary k.Name = refl
name_primary _ = refl

expr_target : Within begins_expr begins_target
expr_target k.Name = refl
expr_target _ = refl

name_target : Within is_name begins_target
name_target k.Name = refl
name_target _ = refl

pub first_atom : (u : Tokens) (a : Ast) → IsAtom u a → begins_atom (first u) ≡ true
first_atom u a (IsAtom.number t cut is value) = led begins_atom u t [] k.Number cut is refl
first_atom u a (IsAtom.text t cut is value) = led begins_atom u t [] k.Text cut is refl
first_atom u a (IsAtom.yes_word t cut is value) = led begins_atom u t [] k.True cut is refl
first_atom u a (IsAtom.no_word t cut is value) = led begins_atom u t [] k.False cut is refl
first_atom u a (IsAtom.null t cut is value) = led begins_atom u t [] k.Null cut is refl
first_atom u a (IsAtom.column t cut is value) = led_by is_name begins_atom u t [] (subset is_name begins_atom name_atom) cut is
first_atom u a (IsAtom.qualified q dot t cut is dot_is name_is value) = led_by is_name begins_atom u q (dot ∷ t ∷ []) (subset is_name begins_atom name_atom) cut is
first_atom u a (IsAtom.parens left inner right cut is inside right_is) = led begins_atom u left (inner ++ (right ∷ [])) k.Open cut is refl
first_atom u a (IsAtom.exists word left inner s right cut is left_is inside right_is value) = led begins_atom u word (left ∷ (inner ++ (right ∷ []))) k.Exists cut is refl
first_atom u a (IsAtom.coalesce word left inner list right cut is left_is inside right_is value) = led begins_atom u word (left ∷ (inner ++ (right ∷ []))) k.Coalesce cut is refl
first_atom u a (IsAtom.cases word o arms e operand list otherwise end cut is x y z end_is value) = led begins_atom u word (o ++ (arms ++ (e ++ (end ∷ [])))) k.Case cut is refl

pub begins-IsAtom : Begins begins_atom IsAtom
begins-IsAtom = (refl, first_atom)

pub first_sign : (u : Tokens) (a : Ast) → IsSign u a → begins_sign (first u) ≡ true
first_sign u a (IsSign.unsigned is) = subset begins_atom begins_sign atom_sign (first u) (first_atom u a is)
first_sign u a (IsSign.signed t w b cut is inside value) = led_by is_sign begins_sign u t w (subset is_sign begins_sign sign_sign) cut is

pub begins-IsSign : Begins begins_sign IsSign
begins-IsSign = (refl, first_sign)

pub first_product : (u : Tokens) (a : Ast) → IsProduct u a → begins_sign (first u) ≡ true
first_product u a (IsProduct.product x w b list cut is more value) = led_in begins_sign IsSign u x w b begins-IsSign cut is

pub begins-IsProduct : Begins begins_sign IsProduct
begins-IsProduct = (refl, first_product)

pub first_sum : (u : Tokens) (a : Ast) → IsSum u a → begins_sign (first u) ≡ true
first_sum u a (IsSum.sum x w b list cut is more value) = led_in begins_sign IsProduct u x w b begins-IsProduct cut is

pub begins-IsSum : Begins begins_sign IsSum
begins-IsSum = (refl, first_sum)

pub first_cat : (u : Tokens) (a : Ast) → IsCat u a → begins_sign (first u) ≡ true
first_cat u a (IsCat.cat x w b list cut is more value) = led_in begins_sign IsSum u x w b begins-IsSum cut is

pub begins-IsCat : Begins begins_sign IsCat
begins-IsCat = (refl, first_cat)

pub first_range : (u : Tokens) (a : Ast) → IsRange u a → begins_sign (first u) ≡ true
first_range u a (IsRange.range x w b cut is more) = led_in begins_sign IsCat u x w b begins-IsCat cut is

pub begins-IsRange : Begins begins_sign IsRange
begins-IsRange = (refl, first_range)

pub first_compare : (u : Tokens) (a : Ast) → IsCompare u a → begins_sign (first u) ≡ true
first_compare u a (IsCompare.compare x w b cut is more) = led_in begins_sign IsRange u x w b begins-IsRange cut is

pub begins-IsCompare : Begins begins_sign IsCompare
begins-IsCompare = (refl, first_compare)

pub first_test : (u : Tokens) (a : Ast) → IsTest u a → begins_sign (first u) ≡ true
first_test u a (IsTest.test x w b cut is more) = led_in begins_sign IsCompare u x w b begins-IsCompare cut is

pub begins-IsTest : Begins begins_sign IsTest
begins-IsTest = (refl, first_test)

pub first_not : (u : Tokens) (a : Ast) → IsNot u a → begins_expr (first u) ≡ true
first_not u a (IsNot.affirmed is) = subset begins_sign begins_expr sign_expr (first u) (first_test u a is)
first_not u a (IsNot.negated t w b cut is inside value) = led begins_expr u t w k.Not cut is refl

pub begins-IsNot : Begins begins_expr IsNot
begins-IsNot = (refl, first_not)

pub first_and : (u : Tokens) (a : Ast) → IsAnd u a → begins_expr (first u) ≡ true
first_and u a (IsAnd.and x w b list cut is more value) = led_in begins_expr IsNot u x w b begins-IsNot cut is

pub begins-IsAnd : Begins begins_expr IsAnd
begins-IsAnd = (refl, first_and)

pub first_expr : (u : Tokens) (a : Ast) → IsExpr u a → begins_expr (first u) ≡ true
first_expr u a (IsExpr.or x w b list cut is more value) = led_in begins_expr IsAnd u x w b begins-IsAnd cut is

pub begins-IsExpr : Begins begins_expr IsExpr
begins-IsExpr = (refl, first_expr)

pub first_arm : (u : Tokens) (a : Ast × Ast) → IsArm u a → is k.When (first u) ≡ true
first_arm u a (IsArm.arm when x b word w c cut is inside then_is other value) = same_is k.When (first u) (ap first cut ∙ is)

pub begins-IsArm : Begins (is k.When) IsArm
unfolding same
begins-IsArm = (refl, first_arm)

pub first_primary : (u : Tokens) (a : FromItem) → IsPrimary u a → begins_primary (first u) ≡ true
first_primary u a (IsPrimary.table t w alias cut is maybe value) = led_by is_name begins_primary u t w (subset is_name begins_primary name_primary) cut is
first_primary u a (IsPrimary.sub left x s right w alias cut is inside right_is maybe value) = led begins_primary u left (x ++ (right ∷ w)) k.Open cut is refl
first_primary u a (IsPrimary.grouped left x right cut is inside right_is) = led begins_primary u left (x ++ (right ∷ [])) k.Open cut is refl

pub begins-IsPrimary : Begins begins_primary IsPrimary
begins-IsPrimary = (refl, first_primary)

side_first : (x w : Tokens) (kind : JoinWord) (t : Seen) → MaybeSide x kind → class t ≡ k.Join → begins_join (first (x ++ (t ∷ w))) ≡ true
side_first x w kind t (MaybeSide.none cut value) is = ap (λ v. begins_join (first (v ++ (t ∷ w)))) cut ∙ ap begins_join is
side_first x w kind t (MaybeSide.inner y cut side value) is = ap (λ v. begins_join (first (v ++ (t ∷ w)))) cut ∙ ap begins_join side
side_first x w kind t (MaybeSide.left y z cut side outer value) is = ap (λ v. begins_join (first (v ++ (t ∷ w)))) cut ∙ ap begins_join side
side_first x w kind t (MaybeSide.right y z cut side outer value) is = ap (λ v. begins_join (first (v ++ (t ∷ w)))) cut ∙ ap begins_join side
side_first x w kind t (MaybeSide.full y z cut side outer value) is = ap (λ v. begins_join (first (v ++ (t ∷ w)))) cut ∙ ap begins_join side

pub first_join : (u : Tokens) (a : Joined) → IsJoin u a → begins_join (first u) ≡ true
first_join u a (IsJoin.cross cross word w right cut is word_is inside value) = led begins_join u cross (word ∷ w) k.Cross cut is refl
first_join u a (IsJoin.sided x kind word y right on w cond cut side word_is inside on_is expr value) = ap (λ v. begins_join (first v)) cut ∙ side_first x (y ++ (on ∷ w)) kind word side word_is

pub begins-IsJoin : Begins begins_join IsJoin
begins-IsJoin = (refl, first_join)

pub first_item : (u : Tokens) (a : FromItem) → IsItem u a → begins_primary (first u) ≡ true
first_item u a (IsItem.joined x w b joins cut is more value) = led_in begins_primary IsPrimary u x w b begins-IsPrimary cut is

pub begins-IsItem : Begins begins_primary IsItem
begins-IsItem = (refl, first_item)

pub first_target : (u : Tokens) (a : Target) → IsTarget u a → begins_target (first u) ≡ true
first_target u a (IsTarget.all t cut is value) = led begins_target u t [] k.Star cut is refl
first_target u a (IsTarget.all_of q dot t cut is dot_is star_is value) = led_by is_name begins_target u q (dot ∷ t ∷ []) (subset is_name begins_target name_target) cut is
first_target u a (IsTarget.one x w b alias cut is maybe value) = subset begins_expr begins_target expr_target (first u) (led_in begins_expr IsExpr u x w b begins-IsExpr cut is)

pub begins-IsTarget : Begins begins_target IsTarget
begins-IsTarget = (refl, first_target)

pub first_select : (u : Tokens) (a : Select) → IsSelect u a → is k.Select (first u) ≡ true
first_select u a (IsSelect.select word d x from y z distinct targets items cond cut is maybe list from_is more last value) = same_is k.Select (first u) (ap first cut ∙ is)

pub begins-IsSelect : Begins (is k.Select) IsSelect
unfolding same
begins-IsSelect = (refl, first_select)
