-- What the outermost sublinks of an expression are at each constructor.
use Rattle.std.proofs.Common.{◌≡◌, ◌∙◌, ap, sym, refl, ℕ, Bool, List, [], ◌∷◌, ◌++◌, map, ◌+◌, ◌<◌, length, get_or, take, append-nil, append_assoc}
use Rattle.std.proofs.lemmas.List.{take_more}
use Rattle.std.specs.Prelude.{Option, Some, None}
use Rattle.jp_base.specs.declared.values.Ty.{Ty}
use Rattle.jp_base.specs.declared.values.Value.{Value}
use Rattle.jp_query.specs.declared.CmpOp.{CmpOp}
use Rattle.jp_query.specs.declared.IsTest.{IsTest}
use Rattle.jp_query.specs.declared.Query.{Query}
use Rattle.jp_query.specs.declared.Expr.TheVariants as expr
use Rattle.jp_query.specs.declared.Expr.TheOpen.{Expr-F}
use Rattle.jp_query.specs.declared.Expr.{Expr}
use Rattle.jp_query.specs.Outermost.{Outers, outermost}
use Rattle.jp_query.specs.Parts.{all_in, term_part, arm_parts, option_part}
use Rattle.jp_naive.proofs.GivenFacts.{outers_at}

pub outers-Col : (rel col : ℕ) (ty : Ty) (nulled : ℕ) → outermost (expr.Col rel col ty nulled) ≡ []
outers-Col rel col ty nulled = ap outermost (sym (expr.rolls-Col rel col ty nulled)) ∙ outers_at (Expr-F.Col rel col ty nulled)

pub outers-Lit : (v : Value) (ty : Ty) → outermost (expr.Lit v ty) ≡ []
outers-Lit v ty = ap outermost (sym (expr.rolls-Lit v ty)) ∙ outers_at (Expr-F.Lit v ty)

pub outers-Place : (inner : Expr) (rels : ℕ) → outermost (expr.Place inner rels) ≡ outermost inner
outers-Place inner rels = ap outermost (sym (expr.rolls-Place inner rels)) ∙ outers_at (Expr-F.Place inner rels) ∙ append-nil (outermost inner)

pub outers-Neg : (e : Expr) → outermost (expr.Neg e) ≡ outermost e
outers-Neg e = ap outermost (sym (expr.rolls-Neg e)) ∙ outers_at (Expr-F.Neg e) ∙ append-nil (outermost e)

pub outers-Sum : (terms : List (Bool × Expr)) → outermost (expr.Sum terms) ≡ all_in (map outermost (map term_part terms))
outers-Sum terms = ap outermost (sym (expr.rolls-Sum terms)) ∙ outers_at (Expr-F.Sum terms)

pub outers-Product : (es : List Expr) → outermost (expr.Product es) ≡ all_in (map outermost es)
outers-Product es = ap outermost (sym (expr.rolls-Product es)) ∙ outers_at (Expr-F.Product es)

pub outers-Concat : (es : List Expr) → outermost (expr.Concat es) ≡ all_in (map outermost es)
outers-Concat es = ap outermost (sym (expr.rolls-Concat es)) ∙ outers_at (Expr-F.Concat es)

pub outers-Compare : (op : CmpOp) (a b : Expr) → outermost (expr.Compare op a b) ≡ outermost a ++ outermost b
outers-Compare op a b = ap outermost (sym (expr.rolls-Compare op a b)) ∙ outers_at (Expr-F.Compare op a b) ∙ ap (λ os. outermost a ++ os) (append-nil (outermost b))

pub outers-Between : (a b c : Expr) → outermost (expr.Between a b c) ≡ outermost a ++ (outermost b ++ outermost c)
outers-Between a b c = ap outermost (sym (expr.rolls-Between a b c)) ∙ outers_at (Expr-F.Between a b c) ∙ ap (λ os. outermost a ++ (outermost b ++ os)) (append-nil (outermost c))

pub outers-InList : (e : Expr) (es : List Expr) → outermost (expr.InList e es) ≡ outermost e ++ all_in (map outermost es)
outers-InList e es = ap outermost (sym (expr.rolls-InList e es)) ∙ outers_at (Expr-F.InList e es)

pub outers-And : (es : List Expr) → outermost (expr.And es) ≡ all_in (map outermost es)
outers-And es = ap outermost (sym (expr.rolls-And es)) ∙ outers_at (Expr-F.And es)

pub outers-Or : (es : List Expr) → outermost (expr.Or es) ≡ all_in (map outermost es)
outers-Or es = ap outermost (sym (expr.rolls-Or es)) ∙ outers_at (Expr-F.Or es)

pub outers-Not : (e : Expr) → outermost (expr.Not e) ≡ outermost e
outers-Not e = ap outermost (sym (expr.rolls-Not e)) ∙ outers_at (Expr-F.Not e) ∙ append-nil (outermost e)

pub outers-Test : (test : IsTest) (e : Expr) → outermost (expr.Test test e) ≡ outermost e
outers-Test test e = ap outermost (sym (expr.rolls-Test test e)) ∙ outers_at (Expr-F.Test test e) ∙ append-nil (outermost e)

pub outers-Coalesce : (es : List Expr) → outermost (expr.Coalesce es) ≡ all_in (map outermost es)
outers-Coalesce es = ap outermost (sym (expr.rolls-Coalesce es)) ∙ outers_at (Expr-F.Coalesce es)

pub outers-Exists : (sub : ℕ) (q : Query) → outermost (expr.Exists sub q) ≡ record { number = sub; query = q } ∷ []
outers-Exists sub q = ap outermost (sym (expr.rolls-Exists sub q)) ∙ outers_at (Expr-F.Exists sub q)

pub outers-InSub : (sub : ℕ) (e : Expr) (q : Query) → outermost (expr.InSub sub e q) ≡ record { number = sub; query = q } ∷ outermost e
outers-InSub sub e q = ap outermost (sym (expr.rolls-InSub sub e q)) ∙ outers_at (Expr-F.InSub sub e q) ∙ ap (λ os. record { number = sub; query = q } ∷ os) (append-nil (outermost e))

abbrev pub of_option : Option Expr → Outers
of_option (Some e) = outermost e
of_option None = []

option_outers : (o : Option Expr) (rest : Outers) (more : List Expr) → all_in (map outermost more) ≡ rest → all_in (map outermost (option_part o ++ more)) ≡ of_option o ++ rest
option_outers (Some e) rest more is = ap (λ os. outermost e ++ os) is
option_outers None rest more is = is

alone : (o : Option Expr) → all_in (map outermost (option_part o)) ≡ of_option o
alone (Some e) = append-nil (outermost e)
alone None = refl

both_lists : (xs ys : List Expr) → all_in (map outermost (xs ++ ys)) ≡ all_in (map outermost xs) ++ all_in (map outermost ys)
both_lists [] ys = refl
both_lists (x ∷ xs) ys = ap (λ os. outermost x ++ os) (both_lists xs ys) ∙ sym (append_assoc (outermost x) (all_in (map outermost xs)) (all_in (map outermost ys)))

pub outers-Case : (operand : Option Expr) (arms : List (Expr × Expr)) (otherwise : Option Expr) → outermost (expr.Case operand arms otherwise) ≡ of_option operand ++ (all_in (map outermost (arm_parts arms)) ++ of_option otherwise)
outers-Case operand arms otherwise = ap outermost (sym (expr.rolls-Case operand arms otherwise)) ∙ outers_at (Expr-F.Case operand arms otherwise)
    ∙ option_outers operand (all_in (map outermost (arm_parts arms)) ++ of_option otherwise) (arm_parts arms ++ option_part otherwise) (both_lists (arm_parts arms) (option_part otherwise) ∙ ap (λ os. all_in (map outermost (arm_parts arms)) ++ os) (alone otherwise))

-- ---- one after the other

pub two_added : (new mid old a b whole : Outers) → new ≡ mid ++ b → mid ≡ old ++ a → whole ≡ a ++ b → new ≡ old ++ whole
two_added new mid old a b whole e f w = e ∙ ap (λ os. os ++ b) f ∙ append_assoc old a b ∙ ap (λ os. old ++ os) (sym w)

pub none_added : (old whole : Outers) → whole ≡ [] → old ≡ old ++ whole
none_added old whole w = sym (append-nil old) ∙ ap (λ os. old ++ os) (sym w)

pub in_list_more : (es : List Expr) (i : ℕ) (e : Expr) → i < length es → e ≡ get_or es i e → all_in (map outermost (take (i + 1) es)) ≡ all_in (map outermost (take i es)) ++ outermost e
in_list_more es i e h is = ap (λ xs. all_in (map outermost xs)) (take_more es i e h) ∙ both_lists (take i es) (get_or es i e ∷ [])
    ∙ ap (λ os. all_in (map outermost (take i es)) ++ os) (append-nil (outermost (get_or es i e)) ∙ ap outermost (sym is))

terms_both : (xs ys : List (Bool × Expr)) → map term_part (xs ++ ys) ≡ map term_part xs ++ map term_part ys
terms_both [] ys = refl
terms_both (x ∷ xs) ys = ap (λ es. x.1 ∷ es) (terms_both xs ys)

pub in_terms_more : (ts : List (Bool × Expr)) (i : ℕ) (t : Bool × Expr) → i < length ts → t ≡ get_or ts i t → all_in (map outermost (map term_part (take (i + 1) ts))) ≡ all_in (map outermost (map term_part (take i ts))) ++ outermost t.1
in_terms_more ts i t h is = ap (λ xs. all_in (map outermost (map term_part xs))) (take_more ts i t h) ∙ ap (λ es. all_in (map outermost es)) (terms_both (take i ts) (get_or ts i t ∷ []))
    ∙ both_lists (map term_part (take i ts)) ((get_or ts i t).1 ∷ [])
    ∙ ap (λ os. all_in (map outermost (map term_part (take i ts))) ++ os) (append-nil (outermost (get_or ts i t).1) ∙ ap (λ (u : Bool × Expr). outermost u.1) (sym is))

arms_both : (xs ys : List (Expr × Expr)) → arm_parts (xs ++ ys) ≡ arm_parts xs ++ arm_parts ys
arms_both [] ys = refl
arms_both (x ∷ xs) ys = ap (λ es. x.0 ∷ x.1 ∷ es) (arms_both xs ys)

pub in_arms_more : (as' : List (Expr × Expr)) (i : ℕ) (a : Expr × Expr) → i < length as' → a ≡ get_or as' i a → all_in (map outermost (arm_parts (take (i + 1) as'))) ≡ all_in (map outermost (arm_parts (take i as'))) ++ (outermost a.0 ++ outermost a.1)
in_arms_more as' i a h is = ap (λ xs. all_in (map outermost (arm_parts xs))) (take_more as' i a h) ∙ ap (λ es. all_in (map outermost es)) (arms_both (take i as') (get_or as' i a ∷ []))
    ∙ both_lists (arm_parts (take i as')) ((get_or as' i a).0 ∷ (get_or as' i a).1 ∷ [])
    ∙ ap (λ os. all_in (map outermost (arm_parts (take i as'))) ++ os) (ap (λ os. outermost (get_or as' i a).0 ++ os) (append-nil (outermost (get_or as' i a).1)) ∙ ap (λ (b : Expr × Expr). outermost b.0 ++ outermost b.1) (sym is))

pub ruleset equations = (outers-Col, outers-Lit, outers-Place, outers-Neg, outers-Sum, outers-Product, outers-Concat, outers-Compare, outers-Between, outers-InList, outers-And, outers-Or, outers-Not, outers-Test, outers-Coalesce, outers-Exists, outers-InSub, outers-Case)
