-- Where a `||` in a part stands in the whole.
use Rattle.std.proofs.Common.{◌≡◌, ◌∙◌, ap, refl, Bool, true, false, ◌||◌, List, [], ◌∷◌, ◌++◌, map, Option, Some}
use Rattle.std.specs.List.{list_any}
use Rattle.std.specs.Option.{option_map}
use Rattle.std.proofs.lemmas.List.Folds.{list_any-append}
use Rattle.jp_query.specs.declared.CmpOp.{CmpOp}
use Rattle.jp_query.specs.declared.Expr.TheVariants as expr
use Rattle.jp_query.specs.declared.Expr.{Expr}
use Rattle.jp_query.specs.Parts.{term_part, arm_parts, option_part}
use Rattle.jp_query.specs.Typing.{is_true_test}
use Rattle.jp_query.proofs.FoldLaws as laws
use Rattle.jp_eval.specs.Concatenation.{concatenation_at, has_concatenation, term_has_concatenation, arm_has_concatenation}

or_right : (a b : Bool) → b ≡ true → (a || b) ≡ true
or_right true b h = refl
or_right false b h = h

or_left : (a b : Bool) → a ≡ true → (a || b) ≡ true
or_left true b h = refl
or_left false b h = cc

abbrev none : {A : Type 0} → A → Unit {0}
none x = tt

in_members : (xs : List Expr) → list_any has_concatenation xs ≡ true → list_any is_true_test (map has_concatenation xs) ≡ true
in_members [] h = h
in_members (x ∷ xs) h = ap (λ b. has_concatenation x || b) (any_mapped xs) ∙ h
  where
    any_mapped : (xs : List Expr) → list_any is_true_test (map has_concatenation xs) ≡ list_any has_concatenation xs
    any_mapped [] = refl
    any_mapped (x ∷ xs) = ap (λ b. has_concatenation x || b) (any_mapped xs)

pub in-Sum : (terms : List (Bool × Expr)) → list_any term_has_concatenation terms ≡ true → has_concatenation (expr.Sum terms) ≡ true
in-Sum terms h = laws.at-Sum Bool (Unit {0}) (Unit {0}) (Unit {0}) (Unit {0}) concatenation_at none none none none terms ∙ any_mapped terms ∙ h
  where
    any_mapped : (terms : List (Bool × Expr)) → list_any is_true_test (map term_part (map (λ t. (t.0, has_concatenation t.1)) terms)) ≡ list_any term_has_concatenation terms
    any_mapped [] = refl
    any_mapped (t ∷ terms) = ap (λ b. has_concatenation t.1 || b) (any_mapped terms)

pub in-Product : (factors : List Expr) → list_any has_concatenation factors ≡ true → has_concatenation (expr.Product factors) ≡ true
in-Product factors h = laws.at-Product Bool (Unit {0}) (Unit {0}) (Unit {0}) (Unit {0}) concatenation_at none none none none factors ∙ in_members factors h

pub in-Compare-right : (op : CmpOp) (left right : Expr) → has_concatenation right ≡ true → has_concatenation (expr.Compare op left right) ≡ true
in-Compare-right op left right h = laws.at-Compare Bool (Unit {0}) (Unit {0}) (Unit {0}) (Unit {0}) concatenation_at none none none none op left right ∙ or_right (has_concatenation left) (has_concatenation right || false) (or_left (has_concatenation right) false h)

pub in-Between-low : (operand low high : Expr) → has_concatenation low ≡ true → has_concatenation (expr.Between operand low high) ≡ true
in-Between-low operand low high h = laws.at-Between Bool (Unit {0}) (Unit {0}) (Unit {0}) (Unit {0}) concatenation_at none none none none operand low high
    ∙ or_right (has_concatenation operand) (has_concatenation low || (has_concatenation high || false)) (or_left (has_concatenation low) (has_concatenation high || false) h)

pub in-Between-high : (operand low high : Expr) → has_concatenation high ≡ true → has_concatenation (expr.Between operand low high) ≡ true
in-Between-high operand low high h = laws.at-Between Bool (Unit {0}) (Unit {0}) (Unit {0}) (Unit {0}) concatenation_at none none none none operand low high
    ∙ or_right (has_concatenation operand) (has_concatenation low || (has_concatenation high || false)) (or_right (has_concatenation low) (has_concatenation high || false) (or_left (has_concatenation high) false h))

pub in-InList-list : (operand : Expr) (list : List Expr) → list_any has_concatenation list ≡ true → has_concatenation (expr.InList operand list) ≡ true
in-InList-list operand list h = laws.at-InList Bool (Unit {0}) (Unit {0}) (Unit {0}) (Unit {0}) concatenation_at none none none none operand list
    ∙ or_right (has_concatenation operand) (list_any is_true_test (map has_concatenation list)) (in_members list h)

pub in-And : (members : List Expr) → list_any has_concatenation members ≡ true → has_concatenation (expr.And members) ≡ true
in-And members h = laws.at-And Bool (Unit {0}) (Unit {0}) (Unit {0}) (Unit {0}) concatenation_at none none none none members ∙ in_members members h

pub in-Or : (members : List Expr) → list_any has_concatenation members ≡ true → has_concatenation (expr.Or members) ≡ true
in-Or members h = laws.at-Or Bool (Unit {0}) (Unit {0}) (Unit {0}) (Unit {0}) concatenation_at none none none none members ∙ in_members members h

pub in-Coalesce : (members : List Expr) → list_any has_concatenation members ≡ true → has_concatenation (expr.Coalesce members) ≡ true
in-Coalesce members h = laws.at-Coalesce Bool (Unit {0}) (Unit {0}) (Unit {0}) (Unit {0}) concatenation_at none none none none members ∙ in_members members h

-- ---- CASE

abbrev arm_of : Expr × Expr → Bool × Bool
arm_of arm = (has_concatenation arm.0, has_concatenation arm.1)

in_arms : (arms : List (Expr × Expr)) → list_any arm_has_concatenation arms ≡ true → list_any is_true_test (arm_parts (map arm_of arms)) ≡ true
in_arms [] h = h
in_arms (arm ∷ arms) h = or_cases (has_concatenation arm.0) (has_concatenation arm.1) (list_any arm_has_concatenation arms) (list_any is_true_test (arm_parts (map arm_of arms))) (in_arms arms) h
  where
    or_cases : (a b c d : Bool) → (c ≡ true → d ≡ true) → ((a || b) || c) ≡ true → (a || (b || d)) ≡ true
    or_cases true b c d f h = refl
    or_cases false true c d f h = refl
    or_cases false false c d f h = f h

in_whole : (operand : Option Expr) (arms : List (Expr × Expr)) (otherwise : Option Expr)
    → list_any is_true_test (option_part (option_map has_concatenation operand) ++ (arm_parts (map arm_of arms) ++ option_part (option_map has_concatenation otherwise))) ≡ true → has_concatenation (expr.Case operand arms otherwise) ≡ true
in_whole operand arms otherwise h = laws.at-Case Bool (Unit {0}) (Unit {0}) (Unit {0}) (Unit {0}) concatenation_at none none none none operand arms otherwise ∙ h

in_right : (xs ys : List Bool) → list_any is_true_test ys ≡ true → list_any is_true_test (xs ++ ys) ≡ true
in_right [] ys h = h
in_right (x ∷ xs) ys h = or_right x (list_any is_true_test (xs ++ ys)) (in_right xs ys h)

in_left : (xs ys : List Bool) → list_any is_true_test xs ≡ true → list_any is_true_test (xs ++ ys) ≡ true
in_left xs ys h = list_any-append is_true_test xs ys ∙ or_left (list_any is_true_test xs) (list_any is_true_test ys) h

pub in-Case-arms : (operand : Option Expr) (arms : List (Expr × Expr)) (otherwise : Option Expr) → list_any arm_has_concatenation arms ≡ true → has_concatenation (expr.Case operand arms otherwise) ≡ true
in-Case-arms operand arms otherwise h = in_whole operand arms otherwise
    (in_right (option_part (option_map has_concatenation operand)) (arm_parts (map arm_of arms) ++ option_part (option_map has_concatenation otherwise))
    (in_left (arm_parts (map arm_of arms)) (option_part (option_map has_concatenation otherwise)) (in_arms arms h)))

pub in-Case-otherwise : (operand : Option Expr) (arms : List (Expr × Expr)) (otherwise : Expr) → has_concatenation otherwise ≡ true → has_concatenation (expr.Case operand arms (Some otherwise)) ≡ true
in-Case-otherwise operand arms otherwise h = in_whole operand arms (Some otherwise)
    (in_right (option_part (option_map has_concatenation operand)) (arm_parts (map arm_of arms) ++ (has_concatenation otherwise ∷ []))
    (in_right (arm_parts (map arm_of arms)) (has_concatenation otherwise ∷ []) (or_left (has_concatenation otherwise) false h)))

pub ruleset parts_of = (in-Sum, in-Product, in-Compare-right, in-Between-low, in-Between-high, in-InList-list, in-And, in-Or, in-Coalesce, in-Case-arms, in-Case-otherwise)
