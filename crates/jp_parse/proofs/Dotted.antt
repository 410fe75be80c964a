-- No expression begins with `name . *` and stops there: what is left goes on with the expression.
use Rattle.std.proofs.Common.{◌≡◌, ℕ, true, false, List, [], ◌∷◌, ◌++◌, refl, sym, ap, ◌∙◌, append_assoc, append-nil}
use Rattle.jp_ast.specs.declared.tree.Ast.{Ast}
use Rattle.jp_ast.specs.declared.class.Class.{Class}
use Rattle.jp_ast.specs.declared.class.Class.TheVariants as k
use Rattle.jp_ast.specs.Seen.{Seen, place}
use Rattle.jp_ast.specs.Classes.{class, first, is_name}
use Rattle.jp_ast.specs.Nodes.{chain, or_node, and_node, concat_node, product_node, sum_of, is_sign}
use Rattle.jp_cursor.specs.Reading.{is}
use Rattle.jp_ast.specs.Grammar.{IsAtom, IsSign, IsProduct, MoreFactors, IsSum, MoreTerms, IsCat, MoreParts, IsRange, IsRangeTail, IsCompare, IsCompareTail, IsTest, IsTestTail, IsNot, IsAnd, MoreNots, IsExpr, MoreAnds}
use Rattle.jp_parse.proofs.Exact.{Tokens, Set, Apart, Stops, Starts, IsThen, IsPure, Many, either, apart, within, clash}
use Rattle.jp_parse.proofs.Steps.{Behind, begins_behind, apart_is, within_left, starts_chained}
use Rattle.jp_parse.proofs.Sets.{more_atom, more_product, more_sum, more_cat, more_range, more_compare, more_test, more_and, more_expr}
use Rattle.jp_parse.proofs.ListLaws.{IsTerm}
use Rattle.jp_parse.proofs.Expressions.{of_product, of_sum, of_cat, of_range, of_compare, of_test, of_and, of_expr, within_product, within_sum, within_cat, within_and, within_expr, starts_range, starts_compare, starts_test, begins_term, apart_sum, token_product, token_cat, token_and, token_expr}

-- an atom alone is an expression
pub atom_expr : (u : Tokens) (a : Ast) → IsAtom u a → IsExpr u a
atom_expr u a is =
    let e = sym (append-nil u) in
    let product = IsProduct.product u [] a [] e (IsSign.unsigned is) (MoreFactors.no_factors refl refl) refl in
    let cat = IsCat.cat u [] a [] e (IsSum.sum u [] a [] e product (MoreTerms.no_terms refl refl) refl) (MoreParts.no_parts refl refl) refl in
    let range = IsRange.range u [] a e cat (IsRangeTail.no_range refl refl) in
    let test = IsTest.test u [] a e (IsCompare.compare u [] a e range (IsCompareTail.no_compare refl refl)) (IsTestTail.no_test refl refl) in
    IsExpr.or u [] a [] e (IsAnd.and u [] a [] e (IsNot.affirmed test) (MoreNots.no_nots refl refl) refl) (MoreAnds.no_ands refl refl) refl

sign_name : Apart is_sign is_name
sign_name k.Plus = refl
sign_name _ = refl

module _ (q dot star : Seen) (r : Tokens) (q_is : is_name (class q) ≡ true) (dot_is : class dot ≡ k.Dot) (star_is : class star ≡ k.Star) where
  abbrev No : {A : Type 0} → (Tokens → A → Type 0) → Set → Type 0
  No {A} L X = (u w : Tokens) (a : A) → L u a → u ++ w ≡ q ∷ dot ∷ star ∷ r → Stops X w → ⊥

  no_then : {A B : Type 0} (L : Tokens → A → Type 0) (M : A → Tokens → B → Type 0) (X Y : Set) → Starts X M Y → No L X → No (IsThen L M) Y
  no_then L M X Y starts no_left u w b is e stop = no_left is.left (is.right ++ w) is.value is.front (sym (ap (λ v. v ++ w) is.cut ∙ append_assoc is.left is.right w) ∙ e) (starts is.value is.right w b is.back stop)

  -- a first token that is no name
  no_name : (u w v : Tokens) (t : Seen) → u ≡ t ∷ v → u ++ w ≡ q ∷ dot ∷ star ∷ r → is_name (class t) ≡ false → ⊥
  no_name u w v t cut e out = let f : t ∷ (v ++ w) ≡ q ∷ dot ∷ star ∷ r = sym (ap (λ x. x ++ w) cut) ∙ e in let g : t ≡ q = cc in clash (ap (λ x. is_name (class x)) g ∙ q_is) out

  no_atom : No IsAtom more_atom
  no_atom u w a (IsAtom.number t cut good value) e stop = no_name u w [] t cut e (ap is_name good)
  no_atom u w a (IsAtom.text t cut good value) e stop = no_name u w [] t cut e (ap is_name good)
  no_atom u w a (IsAtom.yes_word t cut good value) e stop = no_name u w [] t cut e (ap is_name good)
  no_atom u w a (IsAtom.no_word t cut good value) e stop = no_name u w [] t cut e (ap is_name good)
  no_atom u w a (IsAtom.null t cut good value) e stop = no_name u w [] t cut e (ap is_name good)
  no_atom u w a (IsAtom.column t cut good value) e stop = let f : t ∷ w ≡ q ∷ dot ∷ star ∷ r = sym (ap (λ x. x ++ w) cut) ∙ e in let g : w ≡ dot ∷ star ∷ r = cc in clash (ap more_atom (ap first g ∙ dot_is)) stop
  no_atom u w a (IsAtom.qualified p d t cut good is name_is value) e stop = let f : p ∷ d ∷ t ∷ w ≡ q ∷ dot ∷ star ∷ r = sym (ap (λ x. x ++ w) cut) ∙ e in let g : t ≡ star = cc in clash name_is (ap is_name (ap class g ∙ star_is))
  no_atom u w a (IsAtom.parens left x right cut good inside close) e stop = no_name u w (x ++ (right ∷ [])) left cut e (ap is_name good)
  no_atom u w a (IsAtom.exists word left x s right cut good open' inside close value) e stop = no_name u w (left ∷ (x ++ (right ∷ []))) word cut e (ap is_name good)
  no_atom u w a (IsAtom.coalesce word left x list right cut good open' inside close value) e stop = no_name u w (left ∷ (x ++ (right ∷ []))) word cut e (ap is_name good)
  no_atom u w a (IsAtom.cases word o l x operand arms other end cut good some list else' end_is value) e stop = no_name u w (o ++ (l ++ (x ++ (end ∷ [])))) word cut e (ap is_name good)

  no_sign : No IsSign more_atom
  no_sign u w a (IsSign.unsigned is) e stop = no_atom u w a is e stop
  no_sign u w a (IsSign.signed t v b cut good inside value) e stop = no_name u w v t cut e (apart is_sign is_name (class t) sign_name good)

  no_level : (node : ℕ → List Ast → Ast) (c : Class) (L : Tokens → Ast → Type 0) (X : Set) → is c k.Nothing ≡ false → X c ≡ false → No L X → (p : ℕ) → No (IsThen L (λ a. IsThen (Many (Behind c L)) (λ more. IsPure (chain (node p) a more)))) (either X (is c))
  no_level node c L X token out no_left p = no_then L (λ a. IsThen (Many (Behind c L)) (λ more. IsPure (chain (node p) a more))) X (either X (is c)) (starts_chained (Behind c L) (chain (node p)) (is c) X X (begins_behind c L token) (apart_is c X out) (within_left X (is c))) no_left

  no_product : No IsProduct more_product
  no_product u w a inside e stop = no_level product_node k.Star IsSign more_atom token_product refl no_sign (place u) u w a (of_product u a inside) e (within (either more_atom (is k.Star)) more_product (first w) within_product stop)

  no_sum : No IsSum more_sum
  no_sum u w a is e stop = no_then IsProduct (λ b. IsThen (Many IsTerm) (λ more. IsPure (sum_of (place u) b more))) more_product (either more_product is_sign) (starts_chained IsTerm (sum_of (place u)) is_sign more_product more_product begins_term apart_sum (within_left more_product is_sign)) no_product u w a (of_sum u a is) e
      (within (either more_product is_sign) more_sum (first w) within_sum stop)

  no_cat : No IsCat more_cat
  no_cat u w a inside e stop = no_level concat_node k.Bars IsSum more_sum token_cat refl no_sum (place u) u w a (of_cat u a inside) e (within (either more_sum (is k.Bars)) more_cat (first w) within_cat stop)

  no_range : No IsRange more_range
  no_range u w a is e stop = no_then IsCat (IsRangeTail (place u)) more_cat more_range (starts_range (place u)) no_cat u w a (of_range u a is) e stop

  no_compare : No IsCompare more_compare
  no_compare u w a is e stop = no_then IsRange (IsCompareTail (place u)) more_range more_compare (starts_compare (place u)) no_range u w a (of_compare u a is) e stop

  no_test : No IsTest more_test
  no_test u w a is e stop = no_then IsCompare (IsTestTail (place u)) more_compare more_test (starts_test (place u)) no_compare u w a (of_test u a is) e stop

  no_not : No IsNot more_test
  no_not u w a (IsNot.affirmed is) e stop = no_test u w a is e stop
  no_not u w a (IsNot.negated t v b cut good inside value) e stop = no_name u w v t cut e (ap is_name good)

  no_and : No IsAnd more_and
  no_and u w a inside e stop = no_level and_node k.And IsNot more_test token_and refl no_not (place u) u w a (of_and u a inside) e (within (either more_test (is k.And)) more_and (first w) within_and stop)

  pub no_expr : (u w : Tokens) (a : Ast) → IsExpr u a → u ++ w ≡ q ∷ dot ∷ star ∷ r → Stops more_expr w → ⊥
  no_expr u w a inside e stop = no_level or_node k.Or IsAnd more_and token_expr refl no_and (place u) u w a (of_expr u a inside) e (within (either more_and (is k.Or)) more_expr (first w) within_expr stop)
