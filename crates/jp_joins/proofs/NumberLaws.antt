-- The numbers of the sublinks of an expression at each constructor.
use Rattle.std.proofs.Common.{◌≡◌, ◌∙◌, ap, sym, refl, ℕ, Bool, List, [], ◌∷◌, ◌++◌, map, ◌+◌, ◌<◌, length, get_or, take, append-nil, append_assoc}
use Rattle.std.proofs.lemmas.List.{take_more}
use Rattle.std.specs.Prelude.{Option, Some, None}
use Rattle.jp_base.specs.declared.values.Ty.{Ty}
use Rattle.jp_base.specs.declared.values.Value.{Value}
use Rattle.jp_query.specs.declared.CmpOp.{CmpOp}
use Rattle.jp_query.specs.declared.IsTest.{IsTest}
use Rattle.jp_query.specs.declared.Query.{Query}
use Rattle.jp_query.specs.declared.Expr.TheVariants as expr
use Rattle.jp_query.specs.declared.Expr.TheOpen.{Expr-F}
use Rattle.jp_query.specs.declared.Expr.{Expr}
use Rattle.jp_joins.specs.Lending.{numbers_in}
use Rattle.jp_query.specs.Parts.{all_in, term_part, arm_parts, option_part}
use Rattle.jp_joins.proofs.SameRows.{numbers_at}

pub numbers-Col : (rel col : ℕ) (ty : Ty) (nulled : ℕ) → numbers_in (expr.Col rel col ty nulled) ≡ []
numbers-Col rel col ty nulled = ap numbers_in (sym (expr.rolls-Col rel col ty nulled)) ∙ numbers_at (Expr-F.Col rel col ty nulled)

pub numbers-Lit : (v : Value) (ty : Ty) → numbers_in (expr.Lit v ty) ≡ []
numbers-Lit v ty = ap numbers_in (sym (expr.rolls-Lit v ty)) ∙ numbers_at (Expr-F.Lit v ty)

pub numbers-Place : (inner : Expr) (rels : ℕ) → numbers_in (expr.Place inner rels) ≡ numbers_in inner
numbers-Place inner rels = ap numbers_in (sym (expr.rolls-Place inner rels)) ∙ numbers_at (Expr-F.Place inner rels) ∙ append-nil (numbers_in inner)

pub numbers-Neg : (e : Expr) → numbers_in (expr.Neg e) ≡ numbers_in e
numbers-Neg e = ap numbers_in (sym (expr.rolls-Neg e)) ∙ numbers_at (Expr-F.Neg e) ∙ append-nil (numbers_in e)

pub numbers-Sum : (terms : List (Bool × Expr)) → numbers_in (expr.Sum terms) ≡ all_in (map numbers_in (map term_part terms))
numbers-Sum terms = ap numbers_in (sym (expr.rolls-Sum terms)) ∙ numbers_at (Expr-F.Sum terms)

pub numbers-Product : (es : List Expr) → numbers_in (expr.Product es) ≡ all_in (map numbers_in es)
numbers-Product es = ap numbers_in (sym (expr.rolls-Product es)) ∙ numbers_at (Expr-F.Product es)

pub numbers-Concat : (es : List Expr) → numbers_in (expr.Concat es) ≡ all_in (map numbers_in es)
numbers-Concat es = ap numbers_in (sym (expr.rolls-Concat es)) ∙ numbers_at (Expr-F.Concat es)

pub numbers-Compare : (op : CmpOp) (a b : Expr) → numbers_in (expr.Compare op a b) ≡ numbers_in a ++ numbers_in b
numbers-Compare op a b = ap numbers_in (sym (expr.rolls-Compare op a b)) ∙ numbers_at (Expr-F.Compare op a b) ∙ ap (λ ns. numbers_in a ++ ns) (append-nil (numbers_in b))

pub numbers-Between : (a b c : Expr) → numbers_in (expr.Between a b c) ≡ numbers_in a ++ (numbers_in b ++ numbers_in c)
numbers-Between a b c = ap numbers_in (sym (expr.rolls-Between a b c)) ∙ numbers_at (Expr-F.Between a b c) ∙ ap (λ ns. numbers_in a ++ (numbers_in b ++ ns)) (append-nil (numbers_in c))

pub numbers-InList : (e : Expr) (es : List Expr) → numbers_in (expr.InList e es) ≡ numbers_in e ++ all_in (map numbers_in es)
numbers-InList e es = ap numbers_in (sym (expr.rolls-InList e es)) ∙ numbers_at (Expr-F.InList e es)

pub numbers-And : (es : List Expr) → numbers_in (expr.And es) ≡ all_in (map numbers_in es)
numbers-And es = ap numbers_in (sym (expr.rolls-And es)) ∙ numbers_at (Expr-F.And es)

pub numbers-Or : (es : List Expr) → numbers_in (expr.Or es) ≡ all_in (map numbers_in es)
numbers-Or es = ap numbers_in (sym (expr.rolls-Or es)) ∙ numbers_at (Expr-F.Or es)

pub numbers-Not : (e : Expr) → numbers_in (expr.Not e) ≡ numbers_in e
numbers-Not e = ap numbers_in (sym (expr.rolls-Not e)) ∙ numbers_at (Expr-F.Not e) ∙ append-nil (numbers_in e)

pub numbers-Test : (test : IsTest) (e : Expr) → numbers_in (expr.Test test e) ≡ numbers_in e
numbers-Test test e = ap numbers_in (sym (expr.rolls-Test test e)) ∙ numbers_at (Expr-F.Test test e) ∙ append-nil (numbers_in e)

pub numbers-Coalesce : (es : List Expr) → numbers_in (expr.Coalesce es) ≡ all_in (map numbers_in es)
numbers-Coalesce es = ap numbers_in (sym (expr.rolls-Coalesce es)) ∙ numbers_at (Expr-F.Coalesce es)

pub numbers-Exists : (sub : ℕ) (q : Query) → numbers_in (expr.Exists sub q) ≡ sub ∷ []
numbers-Exists sub q = ap numbers_in (sym (expr.rolls-Exists sub q)) ∙ numbers_at (Expr-F.Exists sub q)

pub numbers-InSub : (sub : ℕ) (e : Expr) (q : Query) → numbers_in (expr.InSub sub e q) ≡ sub ∷ numbers_in e
numbers-InSub sub e q = ap numbers_in (sym (expr.rolls-InSub sub e q)) ∙ numbers_at (Expr-F.InSub sub e q) ∙ ap (λ ns. sub ∷ ns) (append-nil (numbers_in e))

abbrev pub of_option : Option Expr → (List ℕ)
of_option (Some e) = numbers_in e
of_option None = []

option_numbers : (o : Option Expr) (rest : (List ℕ)) (more : List Expr) → all_in (map numbers_in more) ≡ rest → all_in (map numbers_in (option_part o ++ more)) ≡ of_option o ++ rest
option_numbers (Some e) rest more is = ap (λ ns. numbers_in e ++ ns) is
option_numbers None rest more is = is

alone : (o : Option Expr) → all_in (map numbers_in (option_part o)) ≡ of_option o
alone (Some e) = append-nil (numbers_in e)
alone None = refl

both_lists : (xs ys : List Expr) → all_in (map numbers_in (xs ++ ys)) ≡ all_in (map numbers_in xs) ++ all_in (map numbers_in ys)
both_lists [] ys = refl
both_lists (x ∷ xs) ys = ap (λ ns. numbers_in x ++ ns) (both_lists xs ys) ∙ sym (append_assoc (numbers_in x) (all_in (map numbers_in xs)) (all_in (map numbers_in ys)))

pub numbers-Case : (operand : Option Expr) (arms : List (Expr × Expr)) (otherwise : Option Expr) → numbers_in (expr.Case operand arms otherwise) ≡ of_option operand ++ (all_in (map numbers_in (arm_parts arms)) ++ of_option otherwise)
numbers-Case operand arms otherwise = ap numbers_in (sym (expr.rolls-Case operand arms otherwise)) ∙ numbers_at (Expr-F.Case operand arms otherwise)
    ∙ option_numbers operand (all_in (map numbers_in (arm_parts arms)) ++ of_option otherwise) (arm_parts arms ++ option_part otherwise) (both_lists (arm_parts arms) (option_part otherwise) ∙ ap (λ ns. all_in (map numbers_in (arm_parts arms)) ++ ns) (alone otherwise))

-- ---- one after the other

pub two_added : (new mid old a b whole : (List ℕ)) → new ≡ mid ++ b → mid ≡ old ++ a → whole ≡ a ++ b → new ≡ old ++ whole
two_added new mid old a b whole e f w = e ∙ ap (λ ns. ns ++ b) f ∙ append_assoc old a b ∙ ap (λ ns. old ++ ns) (sym w)

pub none_added : (old whole : (List ℕ)) → whole ≡ [] → old ≡ old ++ whole
none_added old whole w = sym (append-nil old) ∙ ap (λ ns. old ++ ns) (sym w)

pub in_list_more : (es : List Expr) (i : ℕ) (e : Expr) → i < length es → e ≡ get_or es i e → all_in (map numbers_in (take (i + 1) es)) ≡ all_in (map numbers_in (take i es)) ++ numbers_in e
in_list_more es i e h is = ap (λ xs. all_in (map numbers_in xs)) (take_more es i e h) ∙ both_lists (take i es) (get_or es i e ∷ [])
    ∙ ap (λ ns. all_in (map numbers_in (take i es)) ++ ns) (append-nil (numbers_in (get_or es i e)) ∙ ap numbers_in (sym is))

terms_both : (xs ys : List (Bool × Expr)) → map term_part (xs ++ ys) ≡ map term_part xs ++ map term_part ys
terms_both [] ys = refl
terms_both (x ∷ xs) ys = ap (λ es. x.1 ∷ es) (terms_both xs ys)

pub in_terms_more : (ts : List (Bool × Expr)) (i : ℕ) (t : Bool × Expr) → i < length ts → t ≡ get_or ts i t → all_in (map numbers_in (map term_part (take (i + 1) ts))) ≡ all_in (map numbers_in (map term_part (take i ts))) ++ numbers_in t.1
in_terms_more ts i t h is = ap (λ xs. all_in (map numbers_in (map term_part xs))) (take_more ts i t h) ∙ ap (λ es. all_in (map numbers_in es)) (terms_both (take i ts) (get_or ts i t ∷ []))
    ∙ both_lists (map term_part (take i ts)) ((get_or ts i t).1 ∷ [])
    ∙ ap (λ ns. all_in (map numbers_in (map term_part (take i ts))) ++ ns) (append-nil (numbers_in (get_or ts i t).1) ∙ ap (λ (u : Bool × Expr). numbers_in u.1) (sym is))

arms_both : (xs ys : List (Expr × Expr)) → arm_parts (xs ++ ys) ≡ arm_parts xs ++ arm_parts ys
arms_both [] ys = refl
arms_both (x ∷ xs) ys = ap (λ es. x.0 ∷ x.1 ∷ es) (arms_both xs ys)

pub in_arms_more : (as' : List (Expr × Expr)) (i : ℕ) (a : Expr × Expr) → i < length as' → a ≡ get_or as' i a → all_in (map numbers_in (arm_parts (take (i + 1) as'))) ≡ all_in (map numbers_in (arm_parts (take i as'))) ++ (numbers_in a.0 ++ numbers_in a.1)
in_arms_more as' i a h is = ap (λ xs. all_in (map numbers_in (arm_parts xs))) (take_more as' i a h) ∙ ap (λ es. all_in (map numbers_in es)) (arms_both (take i as') (get_or as' i a ∷ []))
    ∙ both_lists (arm_parts (take i as')) ((get_or as' i a).0 ∷ (get_or as' i a).1 ∷ [])
    ∙ ap (λ ns. all_in (map numbers_in (arm_parts (take i as'))) ++ ns) (ap (λ ns. numbers_in (get_or as' i a).0 ++ ns) (append-nil (numbers_in (get_or as' i a).1)) ∙ ap (λ (b : Expr × Expr). numbers_in b.0 ++ numbers_in b.1) (sym is))

pub ruleset equations = (numbers-Col, numbers-Lit, numbers-Place, numbers-Neg, numbers-Sum, numbers-Product, numbers-Concat, numbers-Compare, numbers-Between, numbers-InList, numbers-And, numbers-Or, numbers-Not, numbers-Test, numbers-Coalesce, numbers-Exists, numbers-InSub, numbers-Case)
