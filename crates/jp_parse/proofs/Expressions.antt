-- The readers of expressions are exact, where that of atoms is: from a sign up to OR.
use Rattle.std.proofs.Common.{◌≡◌, ℕ, suc, Bool, true, false, List, [], ◌∷◌, ◌++◌, refl, sym, ap, ◌∙◌, subst, true≢false}
use Rattle.jp_ast.specs.declared.tree.Ast.{Ast}
use Rattle.jp_ast.specs.declared.tree.Ast.TheVariants as ast
use Rattle.jp_ast.specs.declared.tree.Select.{Select}
use Rattle.jp_ast.specs.declared.class.Class.{Class}
use Rattle.jp_ast.specs.declared.class.Class.TheVariants as k
use Rattle.jp_ast.specs.Seen.{Seen, place}
use Rattle.jp_ast.specs.Classes.{class, first, same}
use Rattle.jp_ast.specs.Nodes.{chain, or_node, and_node, concat_node, product_node, sum_of, negated_at, is_sign, is_comparison, comparison, is_test, test_word}
use Rattle.jp_cursor.specs.Reading.{Reader, ◌>>=◌, ◌>>◌, pure, peek, is, expect, no_meaning, eat, many, listed, minus_in, sign_token, comparison_in, comparison_token, test_in, test_token}
use Rattle.jp_ast.specs.Grammar.{MaybeNot, IsAtom, IsSign, IsProduct, IsSum, IsCat, IsRange, IsRangeTail, IsMembers, AreExprs, IsSelect, IsCompare, IsCompareTail, IsTest, IsTestTail, IsNot, IsAnd, IsExpr}
use Rattle.jp_parse.specs.Readers.{atom, signed, sign, product, term, sum, cat, between, members_by, members, among, after_not_by, after_not, range_by, range_tail, range, compared, compare_tail, compare, tested, test_by, test_tail, test_level, negated, not_by, not_level, and_level, expr_of}
use Rattle.jp_parse.proofs.Exact.{Tokens, Set, nothing, either, Apart, Within, Stops, apart, Reads, Inhabited, within, within_self, IsPure, IsThen, Starts, reads_then, reads_by, reads_if, IsEither, IsAfter, reads_after, Many, Begins, begins_first, begins_some, reads_pure, same_language}
use Rattle.jp_parse.proofs.Samples.{sample, sampled, is_same}
use Rattle.jp_parse.proofs.Steps.{reads_last, some_last, last_is, last, reads_closed, some_closed, within_left, fewer, wider, Behind, behind_class, behind, some_behind, some_then, some_after, MaybeWord, some_maybe, reads_eat, reads_enter, reads_expect, Word, some_pure, Shifts, shift_pure, shift_after, shift_then, shift_behind, shift_chained, long_after, long_then, Placed, reads_placed, within_nothing, starts_begun, reads_pure_in, Chained, reads_chained, Listed, LevelAt, reads_level, chain_of, of_chain, word_cut, word}
use Rattle.jp_parse.proofs.Sets.{begins_atom, begins_sign, begins_expr, more_atom, more_product, more_sum, more_cat, more_range, more_compare, more_test, more_and, more_expr, more_select}
use Rattle.jp_parse.proofs.FirstTokens.{begins-IsAtom, begins-IsSign, begins-IsProduct, begins-IsSum, begins-IsCat, begins-IsRange, begins-IsCompare, begins-IsTest, begins-IsNot, begins-IsAnd, begins-IsExpr, begins-IsSelect}
use Rattle.jp_parse.proofs.Least.{some-IsAtom, some-IsSign, some-IsProduct, some-IsSum, some-IsCat, some-IsRange, some-IsTest, some-IsNot, some-IsAnd, some-IsSelect}
use Rattle.jp_parse.proofs.ListLaws.{to-MoreFactors, of-MoreFactors, to-MoreParts, of-MoreParts, to-MoreNots, of-MoreNots, to-MoreAnds, of-MoreAnds, IsTerm, to-MoreTerms, of-MoreTerms}
use Rattle.jp_parse.proofs.AtomLaws.{reads_atom, more_exprs, reads_exprs, to-AreExprs, of-AreExprs}

-- ---- a sign

abbrev SignedAt : ℕ → Tokens → Ast → Type 0
SignedAt p = IsAfter is_sign minus_in (λ minus. IsThen IsAtom (λ a. IsPure (ast.Sign minus a p)))

into_signed : (u : Tokens) (v : Ast) → Placed SignedAt u v → IsSign u v
into_signed u v h = IsSign.signed h.token h.rest h.back.value h.cut h.good (last_is IsAtom (λ a. ast.Sign (minus_in h.token) a (place u)) h.rest v h.back) (h.back.back.value ∙ ap (λ p. ast.Sign (minus_in h.token) h.back.value p) (ap place h.cut))

sign_atom : Apart begins_atom is_sign
sign_atom k.Number = refl
sign_atom _ = refl

sign_shape : (u s : Tokens) (v : Ast) → IsSign u v → Stops more_atom s → IsEither (Placed SignedAt) IsAtom (is_sign (first (u ++ s))) u v
sign_shape u s v (IsSign.unsigned is) stop = subst (λ b. IsEither (Placed SignedAt) IsAtom b u v) (sym (apart begins_atom is_sign (first (u ++ s)) sign_atom (begins_first begins_atom IsAtom u s v begins-IsAtom is))) is
sign_shape u s v (IsSign.signed t w a cut good inside value) stop =
    subst (λ b. IsEither (Placed SignedAt) IsAtom b u v) (sym (ap (λ x. is_sign (first (x ++ s))) cut ∙ good))
    (record { token = t; rest = w; cut = cut; good = good; back = last IsAtom (λ b. ast.Sign (minus_in t) b (place u)) w a v inside (value ∙ ap (λ p. ast.Sign (minus_in t) a p) (sym (ap place cut))) })

sample_sign : is_sign (class (sample k.Plus)) ≡ true
sample_sign = ap is_sign (sampled k.Plus)

reads_sign_token : {B : Type 0} (M : Bool → Tokens → B → Type 0) (Y : Set) (n : ℕ) (f : Bool → Reader B) → ((a : Bool) → Inhabited (M a)) → ((a : Bool) → Reads n (M a) Y (f a)) → Reads (suc n) (IsAfter is_sign minus_in M) Y (sign_token >>= f)
unfolding sign_token
reads_sign_token M Y n f some law = reads_after is_sign minus_in M Y n f (sample k.Plus) sample_sign some law

module _ (E : Reader Ast) (Q : Reader Select) (n : ℕ) (atom_law : Reads (suc n) IsAtom more_atom (atom E Q)) where
  reads_signed : Reads (suc n) (Placed SignedAt) more_atom (signed E Q)
  unfolding signed
  reads_signed =
      reads_placed SignedAt more_atom (suc n) (λ at. sign_token >>= (λ minus. atom E Q >>= (λ a. pure (ast.Sign minus a at)))) (λ p. long_after is_sign minus_in (λ minus. IsThen IsAtom (λ a. IsPure (ast.Sign minus a p))))
      (shift_after is_sign minus_in (λ p minus. IsThen IsAtom (λ a. IsPure (ast.Sign minus a p))) (λ minus. shift_then IsAtom (λ p a. IsPure (ast.Sign minus a p)) (λ a. shift_pure (λ p. ast.Sign minus a p))))
      (λ p. reads_sign_token (λ minus. IsThen IsAtom (λ a. IsPure (ast.Sign minus a p))) more_atom n (λ minus. atom E Q >>= (λ a. pure (ast.Sign minus a p))) (λ minus. some_last IsAtom (λ a. ast.Sign minus a p) some-IsAtom)
      (λ minus. reads_last IsAtom more_atom more_atom n (atom E Q) (λ a. ast.Sign minus a p) (within_self more_atom) (fewer IsAtom more_atom n (atom E Q) atom_law)))

  pub reads_sign : Reads (suc n) IsSign more_atom (sign E Q)
  unfolding sign
  reads_sign = reads_if IsSign (Placed SignedAt) IsAtom is_sign more_atom (suc n) (signed E Q) (atom E Q) into_signed (λ u v is. IsSign.unsigned is) sign_shape reads_signed atom_law

-- ---- products

into_product : (u : Tokens) (v : Ast) → Placed (LevelAt product_node k.Star IsSign) u v → IsProduct u v
into_product u v is = let c = chain_of IsSign (Behind k.Star IsSign) (chain (product_node (place u))) u v is in IsProduct.product c.left c.right c.value c.list c.cut c.front (to-MoreFactors c.right c.list c.many) c.all

pub of_product : (u : Tokens) (v : Ast) → IsProduct u v → Placed (LevelAt product_node k.Star IsSign) u v
of_product u v (IsProduct.product x w a list cut is others all) = of_chain IsSign (Behind k.Star IsSign) (chain (product_node (place u))) u x w a list v cut is (of-MoreFactors w list others) all

pub within_product : Within (either more_atom (is k.Star)) more_product
unfolding same
within_product k.Star = refl
within_product _ = refl

pub token_product : is k.Star k.Nothing ≡ false
unfolding same
token_product = refl

pub reads_product : (E : Reader Ast) (Q : Reader Select) (n : ℕ) → Reads n IsSign more_atom (sign E Q) → Reads n IsProduct more_product (product E Q)
unfolding product
reads_product E Q n law =
    same_language (Placed (LevelAt product_node k.Star IsSign)) IsProduct (either more_atom (is k.Star)) more_product n (product E Q) into_product of_product within_product
    (reads_level product_node k.Star IsSign more_atom n (sign E Q) token_product refl (λ u a is. begins_some begins_sign IsSign u a begins-IsSign is) some-IsSign law)

-- ---- sums

abbrev pub SumAt : ℕ → Tokens → Ast → Type 0
SumAt p = Chained IsProduct IsTerm (sum_of p)

into_sum : (u : Tokens) (v : Ast) → Placed SumAt u v → IsSum u v
into_sum u v is = let c = chain_of IsProduct IsTerm (sum_of (place u)) u v is in IsSum.sum c.left c.right c.value c.list c.cut c.front (to-MoreTerms c.right c.list c.many) c.all

pub of_sum : (u : Tokens) (v : Ast) → IsSum u v → Placed SumAt u v
of_sum u v (IsSum.sum x w a list cut is others all) = of_chain IsProduct IsTerm (sum_of (place u)) u x w a list v cut is (of-MoreTerms w list others) all

pub within_sum : Within (either more_product is_sign) more_sum
within_sum k.Plus = refl
within_sum _ = refl

pub apart_sum : Apart is_sign more_product
apart_sum k.Plus = refl
apart_sum _ = refl

pub begins_term : Begins is_sign IsTerm
begins_term = (refl, λ u a h. ap (λ w. is_sign (first w)) h.cut ∙ h.good)

some_term : Inhabited IsTerm
some_term = some_after is_sign minus_in (λ minus. IsThen IsProduct (λ a. IsPure (minus, a))) (sample k.Plus) sample_sign (λ minus. some_last IsProduct (λ a. (minus, a)) some-IsProduct)

reads_term : (E : Reader Ast) (Q : Reader Select) (n : ℕ) → Reads n IsProduct more_product (product E Q) → Reads n IsTerm more_product (term E Q)
unfolding term
reads_term E Q n law = fewer IsTerm more_product n (term E Q) (reads_sign_token (λ minus. IsThen IsProduct (λ a. IsPure (minus, a))) more_product n (λ minus. product E Q >>= (λ a. pure (minus, a))) (λ minus. some_last IsProduct (λ a. (minus, a)) some-IsProduct)
    (λ minus. reads_last IsProduct more_product more_product n (product E Q) (λ a. (minus, a)) (within_self more_product) law))

pub reads_sum : (E : Reader Ast) (Q : Reader Select) (n : ℕ) → Reads n IsProduct more_product (product E Q) → Reads n IsSum more_sum (sum E Q)
unfolding sum
reads_sum E Q n law =
    same_language (Placed SumAt) IsSum (either more_product is_sign) more_sum n (sum E Q) into_sum of_sum within_sum
    (reads_placed SumAt (either more_product is_sign) n (λ at. product E Q >>= (λ a. many is_sign (term E Q) >>= (λ list. pure (sum_of at a list)))) (λ p. long_then IsProduct (λ a. IsThen (Many IsTerm) (λ list. IsPure (sum_of p a list))) (λ u a is. begins_some begins_sign IsProduct u a begins-IsProduct is))
    (shift_chained IsProduct IsTerm sum_of)
    (λ p. reads_chained IsProduct IsTerm (sum_of p) is_sign more_product more_product n (product E Q) (term E Q) begins_term apart_sum apart_sum (within_left more_product is_sign) some_term law (reads_term E Q n law)))

-- ---- concatenations

into_cat : (u : Tokens) (v : Ast) → Placed (LevelAt concat_node k.Bars IsSum) u v → IsCat u v
into_cat u v is = let c = chain_of IsSum (Behind k.Bars IsSum) (chain (concat_node (place u))) u v is in IsCat.cat c.left c.right c.value c.list c.cut c.front (to-MoreParts c.right c.list c.many) c.all

pub of_cat : (u : Tokens) (v : Ast) → IsCat u v → Placed (LevelAt concat_node k.Bars IsSum) u v
of_cat u v (IsCat.cat x w a list cut is others all) = of_chain IsSum (Behind k.Bars IsSum) (chain (concat_node (place u))) u x w a list v cut is (of-MoreParts w list others) all

pub within_cat : Within (either more_sum (is k.Bars)) more_cat
unfolding same
within_cat k.Bars = refl
within_cat _ = refl

pub token_cat : is k.Bars k.Nothing ≡ false
unfolding same
token_cat = refl

pub reads_cat : (E : Reader Ast) (Q : Reader Select) (n : ℕ) → Reads n IsSum more_sum (sum E Q) → Reads n IsCat more_cat (cat E Q)
unfolding cat
reads_cat E Q n law =
    same_language (Placed (LevelAt concat_node k.Bars IsSum)) IsCat (either more_sum (is k.Bars)) more_cat n (cat E Q) into_cat of_cat within_cat
    (reads_level concat_node k.Bars IsSum more_sum n (sum E Q) token_cat refl (λ u a is. begins_some begins_sign IsSum u a begins-IsSum is) some-IsSum law)

-- ---- ranges

pub maybe_not : (u : Tokens) (b : Bool) → MaybeWord k.Not u b → MaybeNot u b
maybe_not u b (MaybeWord.none cut value) = MaybeNot.none cut value
maybe_not u b (MaybeWord.given t cut good value) = MaybeNot.word t cut good value

not_maybe : (u : Tokens) (b : Bool) → MaybeNot u b → MaybeWord k.Not u b
not_maybe u b (MaybeNot.none cut value) = MaybeWord.none cut value
not_maybe u b (MaybeNot.word t cut good value) = MaybeWord.given t cut good value

-- the members of IN

abbrev MembersBy : ℕ → Ast → Class → Tokens → Ast → Type 0
MembersBy p a k.Select = IsThen IsSelect (λ s. IsPure (ast.InSelect a s p))
MembersBy p a _ = IsThen (Listed IsExpr) (λ list. IsPure (ast.InList a list p))

into_members : (p : ℕ) (a : Ast) (c : Class) (u : Tokens) (v : Ast) → MembersBy p a c u v → IsMembers p a u v
into_members p a k.Select u v h = IsMembers.members_select h.value (last_is IsSelect (λ s. ast.InSelect a s p) u v h) h.back.value
into_members p a _ u v h = IsMembers.members_list h.value (to-AreExprs u h.value (last_is (Listed IsExpr) (λ list. ast.InList a list p) u v h)) h.back.value

members_list : (p : ℕ) (a : Ast) (c : Class) (u : Tokens) (v : Ast) → begins_expr c ≡ true → IsThen (Listed IsExpr) (λ list. IsPure (ast.InList a list p)) u v → MembersBy p a c u v
members_list p a k.Select u v good h = absurd (true≢false (sym good))
members_list p a _ u v good h = h

begins_exprs : Begins begins_expr AreExprs
begins_exprs = (refl, begun)
  where
    begun : (u : Tokens) (list : List Ast) → AreExprs u list → begins_expr (first u) ≡ true
    begun u list (AreExprs.exprs x w a others cut is more all) = ap begins_expr (ap first cut) ∙ begins_first begins_expr IsExpr x w a begins-IsExpr is

members_shape : (p : ℕ) (a : Ast) (u s : Tokens) (v : Ast) → IsMembers p a u v → Stops more_select s → MembersBy p a (first (u ++ s)) u v
members_shape p a u s v (IsMembers.members_select q inside value) stop = subst (λ c. MembersBy p a c u v) (sym (is_same k.Select (first (u ++ s)) (begins_first (is k.Select) IsSelect u s q begins-IsSelect inside))) (last IsSelect (λ x. ast.InSelect a x p) u q v inside value)
members_shape p a u s v (IsMembers.members_list list is value) stop = members_list p a (first (u ++ s)) u v (begins_first begins_expr AreExprs u s list begins_exprs is) (last (Listed IsExpr) (λ x. ast.InList a x p) u list v (of-AreExprs u list is) value)

within_members : Within more_exprs more_select
unfolding same
within_members k.Comma = refl
within_members _ = refl

some_members : (p : ℕ) (a : Ast) → Inhabited (IsMembers p a)
some_members p a = let s = some-IsSelect in (s.0, ast.InSelect a s.1 p, IsMembers.members_select s.1 s.2 refl)

reads_members : (E : Reader Ast) (Q : Reader Select) (n : ℕ) → Reads n IsExpr more_expr E → Reads n IsSelect more_select Q → (p : ℕ) (a : Ast) → Reads n (IsMembers p a) more_select (members E Q p a)
unfolding members
reads_members E Q n expr_law select_law p a = reads_by (IsMembers p a) (MembersBy p a) more_select n (members_by E Q p a) (into_members p a) (members_shape p a) each
  where
    each : (c : Class) → Reads n (MembersBy p a c) more_select (members_by E Q p a c)
    each k.Select = reads_last IsSelect more_select more_select n Q (λ s. ast.InSelect a s p) (within_self more_select) select_law
    each _ = reads_last (Listed IsExpr) more_exprs more_select n (listed E) (λ list. ast.InList a list p) within_members (reads_exprs E n expr_law)

-- what stands behind the operand

abbrev BetweenAt : ℕ → Ast → Bool → Tokens → Ast → Type 0
BetweenAt p a b = Behind k.Between (IsThen IsCat (λ low. Behind k.And (IsThen IsCat (λ high. IsPure (negated_at p b (ast.Between a low high p))))))

abbrev AmongAt : ℕ → Ast → Bool → Tokens → Ast → Type 0
AmongAt p a b = Behind k.In (Behind k.Open (IsThen (IsMembers p a) (λ plain. Word k.Close (negated_at p b plain))))

data AfterNot (p : ℕ) (a : Ast) : Tokens → Ast → Type 0 where
  between' : {u : Tokens} {v : Ast} → BetweenAt p a true u v → AfterNot p a u v
  among' : {u : Tokens} {v : Ast} → AmongAt p a true u v → AfterNot p a u v

abbrev AfterNotBy : ℕ → Ast → Class → Tokens → Ast → Type 0
AfterNotBy p a k.Between = BetweenAt p a true
AfterNotBy p a _ = AmongAt p a true

into_after : (p : ℕ) (a : Ast) (c : Class) (u : Tokens) (v : Ast) → AfterNotBy p a c u v → AfterNot p a u v
into_after p a k.Between u v h = AfterNot.between' h
into_after p a _ u v h = AfterNot.among' h

after_shape : (p : ℕ) (a : Ast) (u s : Tokens) (v : Ast) → AfterNot p a u v → Stops more_cat s → AfterNotBy p a (first (u ++ s)) u v
after_shape p a u s v (AfterNot.between' h) stop = subst (λ c. AfterNotBy p a c u v) (sym (behind_class k.Between (IsThen IsCat (λ low. Behind k.And (IsThen IsCat (λ high. IsPure (negated_at p true (ast.Between a low high p)))))) u s v h)) h
after_shape p a u s v (AfterNot.among' h) stop = subst (λ c. AfterNotBy p a c u v) (sym (behind_class k.In (Behind k.Open (IsThen (IsMembers p a) (λ plain. Word k.Close (negated_at p true plain)))) u s v h)) h

abbrev HighAt : ℕ → Ast → Bool → Ast → Tokens → Ast → Type 0
HighAt p a b low = IsThen IsCat (λ high. IsPure (negated_at p b (ast.Between a low high p)))

some_high : (p : ℕ) (a : Ast) (b : Bool) (low : Ast) → Inhabited (HighAt p a b low)
some_high p a b low = some_last IsCat (λ high. negated_at p b (ast.Between a low high p)) some-IsCat

reads_between : (E : Reader Ast) (Q : Reader Select) (n : ℕ) → Reads n IsCat more_cat (cat E Q) → (p : ℕ) (a : Ast) (b : Bool) → Reads n (BetweenAt p a b) more_cat (between E Q p a b)
unfolding between
reads_between E Q n law p a b =
    reads_expect k.Between (IsThen IsCat (λ low. Behind k.And (HighAt p a b low))) more_cat n (cat E Q >>= (λ low. expect k.And >> (cat E Q >>= (λ high. pure (negated_at p b (ast.Between a low high p)))))) (some_closed IsCat k.And (HighAt p a b) some-IsCat (some_high p a b))
    (reads_closed IsCat k.And (HighAt p a b) more_cat more_cat n (cat E Q) (λ low. cat E Q >>= (λ high. pure (negated_at p b (ast.Between a low high p)))) refl (some_high p a b) law (λ low. reads_last IsCat more_cat more_cat n (cat E Q) (λ high. negated_at p b (ast.Between a low high p)) (within_self more_cat) law))

abbrev ClosedAt : ℕ → Ast → Bool → Tokens → Ast → Type 0
ClosedAt p a b = IsThen (IsMembers p a) (λ plain. Word k.Close (negated_at p b plain))

some_closed_at : (p : ℕ) (a : Ast) (b : Bool) → Inhabited (ClosedAt p a b)
some_closed_at p a b = some_closed (IsMembers p a) k.Close (λ plain. IsPure (negated_at p b plain)) (some_members p a) (λ plain. some_pure (negated_at p b plain))

some_among : (p : ℕ) (a : Ast) (b : Bool) → Inhabited (AmongAt p a b)
some_among p a b = some_behind k.In (Behind k.Open (ClosedAt p a b)) (some_behind k.Open (ClosedAt p a b) (some_closed_at p a b))

reads_among : (E : Reader Ast) (Q : Reader Select) (n : ℕ) → Reads n IsExpr more_expr E → Reads n IsSelect more_select Q → (p : ℕ) (a : Ast) (b : Bool) → Reads (suc n) (AmongAt p a b) nothing (among E Q p a b)
unfolding among
reads_among E Q n expr_law select_law p a b =
    reads_enter k.In (Behind k.Open (ClosedAt p a b)) nothing n (expect k.Open >> (members E Q p a >>= (λ plain. expect k.Close >> pure (negated_at p b plain)))) (some_behind k.Open (ClosedAt p a b) (some_closed_at p a b))
    (reads_expect k.Open (ClosedAt p a b) nothing n (members E Q p a >>= (λ plain. expect k.Close >> pure (negated_at p b plain))) (some_closed_at p a b)
    (reads_closed (IsMembers p a) k.Close (λ plain. IsPure (negated_at p b plain)) more_select nothing n (members E Q p a) (λ plain. pure (negated_at p b plain)) refl (λ plain. some_pure (negated_at p b plain)) (reads_members E Q n expr_law select_law p a) (λ plain. reads_pure (negated_at p b plain) n)))

module _ (E : Reader Ast) (Q : Reader Select) (n : ℕ) (expr_law : Reads n IsExpr more_expr E) (select_law : Reads n IsSelect more_select Q) (cat_law : Reads (suc n) IsCat more_cat (cat E Q)) where
  reads_after_not_by : (p : ℕ) (a : Ast) (c : Class) → Reads n (AfterNotBy p a c) more_cat (after_not_by E Q p a c)
  reads_after_not_by p a k.Between = reads_between E Q n (fewer IsCat more_cat n (cat E Q) cat_law) p a true
  reads_after_not_by p a _ = wider (AmongAt p a true) nothing more_cat n (among E Q p a true) (within_nothing more_cat) (fewer (AmongAt p a true) nothing n (among E Q p a true) (reads_among E Q n expr_law select_law p a true))

  some_after_not : (p : ℕ) (a : Ast) → Inhabited (AfterNot p a)
  some_after_not p a = let s = some_among p a true in (s.0, s.1, AfterNot.among' s.2)

  reads_after_not : (p : ℕ) (a : Ast) → Reads (suc n) (Behind k.Not (AfterNot p a)) more_cat (after_not E Q p a)
  unfolding after_not
  reads_after_not p a = reads_enter k.Not (AfterNot p a) more_cat n (peek >>= after_not_by E Q p a) (some_after_not p a) (reads_by (AfterNot p a) (AfterNotBy p a) more_cat n (after_not_by E Q p a) (into_after p a) (after_shape p a) (reads_after_not_by p a))

-- the bracket behind the operand

abbrev RangeBy : ℕ → Ast → Class → Tokens → Ast → Type 0
RangeBy p a k.Not = Behind k.Not (AfterNot p a)
RangeBy p a k.Between = BetweenAt p a false
RangeBy p a k.In = AmongAt p a false
RangeBy p a _ = IsPure a

is_between : (p : ℕ) (a : Ast) (b : Bool) (n : Tokens) (u w : Tokens) (v : Ast) → u ≡ n ++ w → MaybeNot n b → BetweenAt p a b w v → IsRangeTail p a u v
is_between p a b n u w v cut maybe h =
    let t = h.back in
    let d = t.back in
    IsRangeTail.between n b h.token t.left t.value d.token d.rest d.back.value (cut ∙ ap (λ x. n ++ x) (h.cut ∙ ap (λ x. h.token ∷ x) (t.cut ∙ ap (λ x. t.left ++ x) d.cut))) maybe (is_same k.Between (class h.token) h.good) t.front (is_same k.And (class d.token) d.good)
    (last_is IsCat (λ high. negated_at p b (ast.Between a t.value high p)) d.rest v d.back) d.back.back.value

is_among : (p : ℕ) (a : Ast) (b : Bool) (n : Tokens) (u w : Tokens) (v : Ast) → u ≡ n ++ w → MaybeNot n b → AmongAt p a b w v → IsRangeTail p a u v
is_among p a b n u w v cut maybe h =
    let o = h.back in
    let i = o.back in
    let d = i.back in
    IsRangeTail.among n b h.token o.token i.left i.value d.token (cut ∙ ap (λ x. n ++ x) (h.cut ∙ ap (λ x. h.token ∷ x) (o.cut ∙ ap (λ x. o.token ∷ x) (i.cut ∙ ap (λ x. i.left ++ x) (word_cut k.Close (negated_at p b i.value) i.right v d))))) maybe
    (is_same k.In (class h.token) h.good) (is_same k.Open (class o.token) o.good) i.front (is_same k.Close (class d.token) d.good) d.back.value

into_not : (p : ℕ) (a : Ast) (u : Tokens) (v : Ast) (t : Seen) (w : Tokens) → u ≡ t ∷ w → class t ≡ k.Not → AfterNot p a w v → IsRangeTail p a u v
into_not p a u v t w cut good (AfterNot.between' h) = is_between p a true (t ∷ []) u w v cut (MaybeNot.word t refl good refl) h
into_not p a u v t w cut good (AfterNot.among' h) = is_among p a true (t ∷ []) u w v cut (MaybeNot.word t refl good refl) h

into_range_tail : (p : ℕ) (a : Ast) (c : Class) (u : Tokens) (v : Ast) → RangeBy p a c u v → IsRangeTail p a u v
into_range_tail p a k.Not u v h = into_not p a u v h.token h.rest h.cut (is_same k.Not (class h.token) h.good) h.back
into_range_tail p a k.Between u v h = is_between p a false [] u u v refl (MaybeNot.none refl refl) h
into_range_tail p a k.In u v h = is_among p a false [] u u v refl (MaybeNot.none refl refl) h
into_range_tail p a _ u v h = IsRangeTail.no_range h.cut h.value

range_none : (p : ℕ) (a : Ast) (c : Class) (u : Tokens) (v : Ast) → more_range c ≡ false → IsPure a u v → RangeBy p a c u v
range_none p a k.Not u v out h = absurd (true≢false out)
range_none p a k.Between u v out h = absurd (true≢false out)
range_none p a k.In u v out h = absurd (true≢false out)
range_none p a _ u v out h = h

range_led : (p : ℕ) (a : Ast) (u s : Tokens) (v : Ast) (t : Seen) (w : Tokens) (c : Class) → u ≡ t ∷ w → class t ≡ c → RangeBy p a c u v → RangeBy p a (first (u ++ s)) u v
range_led p a u s v t w c cut good h = subst (λ d. RangeBy p a d u v) (sym (ap (λ x. first (x ++ s)) cut ∙ good)) h

between_of : (p : ℕ) (a : Ast) (b : Bool) (u : Tokens) (v : Ast) (word' : Seen) (x : Tokens) (low : Ast) (and : Seen) (y : Tokens) (high : Ast) → u ≡ word' ∷ (x ++ (and ∷ y)) → class word' ≡ k.Between → IsCat x low → class and ≡ k.And → IsCat y high
    → v ≡ negated_at p b (ast.Between a low high p) → BetweenAt p a b u v
between_of p a b u v word' x low and y high cut good is_low and_is is_high value =
    behind k.Between (IsThen IsCat (λ l. Behind k.And (HighAt p a b l))) u v word' (x ++ (and ∷ y)) cut good
    (record { left = x; right = and ∷ y; value = low; cut = refl; front = is_low; back = behind k.And (HighAt p a b low) (and ∷ y) v and y refl and_is (last IsCat (λ h. negated_at p b (ast.Between a low h p)) y high v is_high value) })

among_of : (p : ℕ) (a : Ast) (b : Bool) (u : Tokens) (v : Ast) (word' left : Seen) (x : Tokens) (plain : Ast) (right : Seen) → u ≡ word' ∷ left ∷ (x ++ (right ∷ [])) → class word' ≡ k.In → class left ≡ k.Open → IsMembers p a x plain → class right ≡ k.Close
    → v ≡ negated_at p b plain → AmongAt p a b u v
among_of p a b u v word' left x plain right cut good open' inside close value =
    behind k.In (Behind k.Open (ClosedAt p a b)) u v word' (left ∷ (x ++ (right ∷ []))) cut good
    (behind k.Open (ClosedAt p a b) (left ∷ (x ++ (right ∷ []))) v left (x ++ (right ∷ [])) refl open' (record { left = x; right = right ∷ []; value = plain; cut = refl; front = inside; back = word k.Close (negated_at p b plain) right v close value }))

range_shape : (p : ℕ) (a : Ast) (u s : Tokens) (v : Ast) → IsRangeTail p a u v → Stops more_range s → RangeBy p a (first (u ++ s)) u v
range_shape p a u s v (IsRangeTail.no_range cut value) stop = range_none p a (first (u ++ s)) u v (ap (λ w. more_range (first (w ++ s))) cut ∙ stop) (record { cut = cut; value = value })
range_shape p a u s v (IsRangeTail.between n negated' word' x low and y high cut maybe good is_low and_is is_high value) stop = go n negated' cut maybe value
  where
    go : (n : Tokens) (b : Bool) → u ≡ n ++ (word' ∷ (x ++ (and ∷ y))) → MaybeNot n b → v ≡ negated_at p b (ast.Between a low high p) → RangeBy p a (first (u ++ s)) u v
    go n b whole (MaybeNot.none none' off) all =
        let plain : u ≡ word' ∷ (x ++ (and ∷ y)) = whole ∙ ap (λ w. w ++ (word' ∷ (x ++ (and ∷ y)))) none' in
        range_led p a u s v word' (x ++ (and ∷ y)) k.Between plain good (between_of p a false u v word' x low and y high plain good is_low and_is is_high (all ∙ ap (λ z. negated_at p z (ast.Between a low high p)) off))
    go n b whole (MaybeNot.word t one not_is on) all =
        let plain : u ≡ t ∷ word' ∷ (x ++ (and ∷ y)) = whole ∙ ap (λ w. w ++ (word' ∷ (x ++ (and ∷ y)))) one in
        range_led p a u s v t (word' ∷ (x ++ (and ∷ y))) k.Not plain not_is
        (behind k.Not (AfterNot p a) u v t (word' ∷ (x ++ (and ∷ y))) plain not_is (AfterNot.between' (between_of p a true (word' ∷ (x ++ (and ∷ y))) v word' x low and y high refl good is_low and_is is_high (all ∙ ap (λ z. negated_at p z (ast.Between a low high p)) on))))
range_shape p a u s v (IsRangeTail.among n negated' word' left x plain' right cut maybe good open' inside close value) stop = go n negated' cut maybe value
  where
    go : (n : Tokens) (b : Bool) → u ≡ n ++ (word' ∷ left ∷ (x ++ (right ∷ []))) → MaybeNot n b → v ≡ negated_at p b plain' → RangeBy p a (first (u ++ s)) u v
    go n b whole (MaybeNot.none none' off) all =
        let plain : u ≡ word' ∷ left ∷ (x ++ (right ∷ [])) = whole ∙ ap (λ w. w ++ (word' ∷ left ∷ (x ++ (right ∷ [])))) none' in
        range_led p a u s v word' (left ∷ (x ++ (right ∷ []))) k.In plain good (among_of p a false u v word' left x plain' right plain good open' inside close (all ∙ ap (λ z. negated_at p z plain') off))
    go n b whole (MaybeNot.word t one not_is on) all =
        let plain : u ≡ t ∷ word' ∷ left ∷ (x ++ (right ∷ [])) = whole ∙ ap (λ w. w ++ (word' ∷ left ∷ (x ++ (right ∷ [])))) one in
        range_led p a u s v t (word' ∷ left ∷ (x ++ (right ∷ []))) k.Not plain not_is
        (behind k.Not (AfterNot p a) u v t (word' ∷ left ∷ (x ++ (right ∷ []))) plain not_is (AfterNot.among' (among_of p a true (word' ∷ left ∷ (x ++ (right ∷ []))) v word' left x plain' right refl good open' inside close (all ∙ ap (λ z. negated_at p z plain') on))))

shift_range : (a : Ast) → Shifts (λ p. IsRangeTail p a)
shift_range a p q u v (IsRangeTail.no_range cut value) = (v, IsRangeTail.no_range cut value)
shift_range a p q u v (IsRangeTail.between n b word' x low and y high cut maybe good is_low and_is is_high value) = (negated_at q b (ast.Between a low high q), IsRangeTail.between n b word' x low and y high cut maybe good is_low and_is is_high refl)
shift_range a p q u v (IsRangeTail.among n b word' left x plain right cut maybe good open' inside close value) = let moved = members p q x plain inside in (negated_at q b moved.0, IsRangeTail.among n b word' left x moved.0 right cut maybe good open' moved.1 close refl)
  where
    members : Shifts (λ p. IsMembers p a)
    members p q u v (IsMembers.members_select s is value) = (ast.InSelect a s q, IsMembers.members_select s is refl)
    members p q u v (IsMembers.members_list list is value) = (ast.InList a list q, IsMembers.members_list list is refl)

within_range : Within more_cat more_range
within_range k.Not = refl
within_range _ = refl

pub starts_range : (p : ℕ) → Starts more_cat (IsRangeTail p) more_range
starts_range p a w s v (IsRangeTail.no_range cut value) stop = ap (λ x. more_cat (first (x ++ s))) cut ∙ within more_cat more_range (first s) within_range stop
starts_range p a w s v (IsRangeTail.between n b word' x low and y high cut maybe good is_low and_is is_high value) stop = ap (λ x. more_cat (first (x ++ s))) cut ∙ go n b maybe
  where
    go : (n : Tokens) (b : Bool) → MaybeNot n b → more_cat (first ((n ++ (word' ∷ (x ++ (and ∷ y)))) ++ s)) ≡ false
    go n b (MaybeNot.none none' off) = ap (λ z. more_cat (first ((z ++ (word' ∷ (x ++ (and ∷ y)))) ++ s))) none' ∙ ap more_cat good
    go n b (MaybeNot.word t one not_is on) = ap (λ z. more_cat (first ((z ++ (word' ∷ (x ++ (and ∷ y)))) ++ s))) one ∙ ap more_cat not_is
starts_range p a w s v (IsRangeTail.among n b word' left x plain right cut maybe good open' inside close value) stop = ap (λ x. more_cat (first (x ++ s))) cut ∙ go n b maybe
  where
    go : (n : Tokens) (b : Bool) → MaybeNot n b → more_cat (first ((n ++ (word' ∷ left ∷ (x ++ (right ∷ [])))) ++ s)) ≡ false
    go n b (MaybeNot.none none' off) = ap (λ z. more_cat (first ((z ++ (word' ∷ left ∷ (x ++ (right ∷ [])))) ++ s))) none' ∙ ap more_cat good
    go n b (MaybeNot.word t one not_is on) = ap (λ z. more_cat (first ((z ++ (word' ∷ left ∷ (x ++ (right ∷ [])))) ++ s))) one ∙ ap more_cat not_is

some_range_tail : (p : ℕ) (a : Ast) → Inhabited (IsRangeTail p a)
some_range_tail p a = ([], a, IsRangeTail.no_range refl refl)

into_range : (u : Tokens) (v : Ast) → Placed (λ p. IsThen IsCat (IsRangeTail p)) u v → IsRange u v
into_range u v h = IsRange.range h.left h.right h.value h.cut h.front h.back

pub of_range : (u : Tokens) (v : Ast) → IsRange u v → Placed (λ p. IsThen IsCat (IsRangeTail p)) u v
of_range u v (IsRange.range x w a cut is tail) = record { left = x; right = w; value = a; cut = cut; front = is; back = tail }

pub reads_range : (E : Reader Ast) (Q : Reader Select) (n : ℕ) → Reads n IsExpr more_expr E → Reads n IsSelect more_select Q → Reads (suc n) IsCat more_cat (cat E Q) → Reads (suc n) IsRange more_range (range E Q)
unfolding range range_tail
reads_range E Q n expr_law select_law cat_law =
    same_language (Placed (λ p. IsThen IsCat (IsRangeTail p))) IsRange more_range more_range (suc n) (range E Q) into_range of_range (within_self more_range)
    (reads_placed (λ p. IsThen IsCat (IsRangeTail p)) more_range (suc n) (λ at. cat E Q >>= (λ a. range_tail E Q at a)) (λ p. long_then IsCat (IsRangeTail p) (λ u a is. begins_some begins_sign IsCat u a begins-IsCat is)) (shift_then IsCat IsRangeTail shift_range)
    (λ p. reads_then IsCat (IsRangeTail p) more_cat more_range (suc n) (cat E Q) (λ a. range_tail E Q p a) (starts_range p) (some_range_tail p) cat_law (λ a. reads_by (IsRangeTail p a) (RangeBy p a) more_range (suc n) (range_by E Q p a) (into_range_tail p a) (range_shape p a) (each p a))))
  where
    law : Reads n IsCat more_cat (cat E Q)
    law = fewer IsCat more_cat n (cat E Q) cat_law

    each : (p : ℕ) (a : Ast) (c : Class) → Reads (suc n) (RangeBy p a c) more_range (range_by E Q p a c)
    each p a k.Not = wider (Behind k.Not (AfterNot p a)) more_cat more_range (suc n) (after_not E Q p a) within_range (reads_after_not E Q n expr_law select_law cat_law p a)
    each p a k.Between = wider (BetweenAt p a false) more_cat more_range (suc n) (between E Q p a false) within_range (reads_between E Q (suc n) cat_law p a false)
    each p a k.In = wider (AmongAt p a false) nothing more_range (suc n) (among E Q p a false) (within_nothing more_range) (reads_among E Q n expr_law select_law p a false)
    each p a _ = reads_pure_in a more_range (suc n)

-- ---- comparisons

abbrev ComparedAt : ℕ → Ast → Tokens → Ast → Type 0
ComparedAt p a = IsAfter is_comparison comparison_in (λ op. IsThen IsRange (λ b. IsPure (ast.Compare op a b p)))

into_compared : (p : ℕ) (a : Ast) (u : Tokens) (v : Ast) → ComparedAt p a u v → IsCompareTail p a u v
into_compared p a u v h = IsCompareTail.compared h.token h.rest h.back.value h.cut h.good (last_is IsRange (λ b. ast.Compare (comparison_in h.token) a b p) h.rest v h.back) h.back.back.value

out_compare : (c : Class) → more_compare c ≡ false → is_comparison c ≡ false
out_compare k.Eq out = absurd (true≢false out)
out_compare k.Ne out = absurd (true≢false out)
out_compare k.Lt out = absurd (true≢false out)
out_compare k.Le out = absurd (true≢false out)
out_compare k.Gt out = absurd (true≢false out)
out_compare k.Ge out = absurd (true≢false out)
out_compare _ out = refl

compare_shape : (p : ℕ) (a : Ast) (u s : Tokens) (v : Ast) → IsCompareTail p a u v → Stops more_compare s → IsEither (ComparedAt p a) (IsPure a) (is_comparison (first (u ++ s))) u v
compare_shape p a u s v (IsCompareTail.no_compare cut value) stop = subst (λ b. IsEither (ComparedAt p a) (IsPure a) b u v) (sym (ap (λ x. is_comparison (first (x ++ s))) cut ∙ out_compare (first s) stop)) (record { cut = cut; value = value })
compare_shape p a u s v (IsCompareTail.compared t w b cut good inside value) stop =
    subst (λ d. IsEither (ComparedAt p a) (IsPure a) d u v) (sym (ap (λ x. is_comparison (first (x ++ s))) cut ∙ good)) (record { token = t; rest = w; cut = cut; good = good; back = last IsRange (λ x. ast.Compare (comparison_in t) a x p) w b v inside value })

within_compare : Within more_range more_compare
within_compare k.Eq = refl
within_compare _ = refl

apart_compare : Apart is_comparison more_range
apart_compare k.Eq = refl
apart_compare _ = refl

sample_comparison : is_comparison (class (sample k.Eq)) ≡ true
sample_comparison = ap is_comparison (sampled k.Eq)

pub starts_compare : (p : ℕ) → Starts more_range (IsCompareTail p) more_compare
starts_compare p a w s v (IsCompareTail.no_compare cut value) stop = ap (λ x. more_range (first (x ++ s))) cut ∙ within more_range more_compare (first s) within_compare stop
starts_compare p a w s v (IsCompareTail.compared t x b cut good inside value) stop = ap (λ y. more_range (first (y ++ s))) cut ∙ apart is_comparison more_range (class t) apart_compare good

shift_compare : (a : Ast) → Shifts (λ p. IsCompareTail p a)
shift_compare a p q u v (IsCompareTail.no_compare cut value) = (v, IsCompareTail.no_compare cut value)
shift_compare a p q u v (IsCompareTail.compared t w b cut good inside value) = (ast.Compare (comparison (class t)) a b q, IsCompareTail.compared t w b cut good inside refl)

into_compare : (u : Tokens) (v : Ast) → Placed (λ p. IsThen IsRange (IsCompareTail p)) u v → IsCompare u v
into_compare u v h = IsCompare.compare h.left h.right h.value h.cut h.front h.back

pub of_compare : (u : Tokens) (v : Ast) → IsCompare u v → Placed (λ p. IsThen IsRange (IsCompareTail p)) u v
of_compare u v (IsCompare.compare x w a cut is tail) = record { left = x; right = w; value = a; cut = cut; front = is; back = tail }

reads_compared : (E : Reader Ast) (Q : Reader Select) (n : ℕ) → Reads n IsRange more_range (range E Q) → (p : ℕ) (a : Ast) → Reads n (ComparedAt p a) more_range (compared E Q p a)
unfolding compared comparison_token
reads_compared E Q n law p a =
    fewer (ComparedAt p a) more_range n (compared E Q p a)
    (reads_after is_comparison comparison_in (λ op. IsThen IsRange (λ b. IsPure (ast.Compare op a b p))) more_range n (λ op. range E Q >>= (λ b. pure (ast.Compare op a b p))) (sample k.Eq) sample_comparison (λ op. some_last IsRange (λ b. ast.Compare op a b p) some-IsRange)
    (λ op. reads_last IsRange more_range more_range n (range E Q) (λ b. ast.Compare op a b p) (within_self more_range) law))

pub reads_compare : (E : Reader Ast) (Q : Reader Select) (n : ℕ) → Reads n IsRange more_range (range E Q) → Reads n IsCompare more_compare (compare E Q)
unfolding compare compare_tail
reads_compare E Q n law =
    same_language (Placed (λ p. IsThen IsRange (IsCompareTail p))) IsCompare more_compare more_compare n (compare E Q) into_compare of_compare (within_self more_compare)
    (reads_placed (λ p. IsThen IsRange (IsCompareTail p)) more_compare n (λ at. range E Q >>= (λ a. compare_tail E Q at a)) (λ p. long_then IsRange (IsCompareTail p) (λ u a is. begins_some begins_sign IsRange u a begins-IsRange is)) (shift_then IsRange IsCompareTail shift_compare)
    (λ p. reads_then IsRange (IsCompareTail p) more_range more_compare n (range E Q) (λ a. compare_tail E Q p a) (starts_compare p) (λ a. ([], a, IsCompareTail.no_compare refl refl)) law
    (λ a. reads_if (IsCompareTail p a) (ComparedAt p a) (IsPure a) is_comparison more_compare n (compared E Q p a) (pure a) (into_compared p a) (λ u v h. IsCompareTail.no_compare h.cut h.value) (compare_shape p a)
    (wider (ComparedAt p a) more_range more_compare n (compared E Q p a) within_compare (reads_compared E Q n law p a)) (reads_pure_in a more_compare n))))

-- ---- tests

abbrev TestWord : ℕ → Ast → Bool → Tokens → Ast → Type 0
TestWord p a b = IsAfter is_test test_in (λ w. IsPure (ast.Is a b w p))

abbrev TestedAt : ℕ → Ast → Tokens → Ast → Type 0
TestedAt p a = Behind k.Is (IsThen (MaybeWord k.Not) (TestWord p a))

abbrev TestBy : ℕ → Ast → Class → Tokens → Ast → Type 0
TestBy p a k.Is = TestedAt p a
TestBy p a _ = IsPure a

into_test_tail : (p : ℕ) (a : Ast) (c : Class) (u : Tokens) (v : Ast) → TestBy p a c u v → IsTestTail p a u v
into_test_tail p a k.Is u v h =
    let t = h.back in
    let w = t.back in
    IsTestTail.tested h.token t.left t.value w.token (h.cut ∙ ap (λ x. h.token ∷ x) (t.cut ∙ ap (λ x. t.left ++ x) (w.cut ∙ ap (λ x. w.token ∷ x) w.back.cut))) (is_same k.Is (class h.token) h.good) (maybe_not t.left t.value t.front) w.good w.back.value
into_test_tail p a _ u v h = IsTestTail.no_test h.cut h.value

test_none : (p : ℕ) (a : Ast) (c : Class) (u : Tokens) (v : Ast) → more_test c ≡ false → IsPure a u v → TestBy p a c u v
test_none p a k.Is u v out h = absurd (true≢false out)
test_none p a _ u v out h = h

tested_of : (p : ℕ) (a : Ast) (u : Tokens) (v : Ast) (i : Seen) (n : Tokens) (b : Bool) (t : Seen) → u ≡ i ∷ (n ++ (t ∷ [])) → class i ≡ k.Is → MaybeNot n b → is_test (class t) ≡ true → v ≡ ast.Is a b (test_word (class t)) p → TestedAt p a u v
tested_of p a u v i n b t cut good maybe test_is value =
    behind k.Is (IsThen (MaybeWord k.Not) (TestWord p a)) u v i (n ++ (t ∷ [])) cut good
    (record { left = n; right = t ∷ []; value = b; cut = refl; front = not_maybe n b maybe; back = record { token = t; rest = []; cut = refl; good = test_is; back = record { cut = refl; value = value } } })

test_shape : (p : ℕ) (a : Ast) (u s : Tokens) (v : Ast) → IsTestTail p a u v → Stops more_test s → TestBy p a (first (u ++ s)) u v
test_shape p a u s v (IsTestTail.no_test cut value) stop = test_none p a (first (u ++ s)) u v (ap (λ x. more_test (first (x ++ s))) cut ∙ stop) (record { cut = cut; value = value })
test_shape p a u s v (IsTestTail.tested i n b t cut good maybe test_is value) stop = subst (λ c. TestBy p a c u v) (sym (ap (λ x. first (x ++ s)) cut ∙ good)) (tested_of p a u v i n b t cut good maybe test_is value)

within_test : Within more_compare more_test
within_test k.Is = refl
within_test _ = refl

sample_test : is_test (class (sample k.Null)) ≡ true
sample_test = ap is_test (sampled k.Null)

begins_test_word : (p : ℕ) (a : Ast) (b : Bool) → Begins is_test (TestWord p a b)
begins_test_word p a b = (refl, λ u v h. ap (λ w. is_test (first w)) h.cut ∙ h.good)

not_test : Apart is_test (is k.Not)
unfolding same
not_test k.Null = refl
not_test _ = refl

not_token : is k.Not k.Nothing ≡ false
unfolding same
not_token = refl

some_test_word : (p : ℕ) (a : Ast) (b : Bool) → Inhabited (TestWord p a b)
some_test_word p a b = some_after is_test test_in (λ w. IsPure (ast.Is a b w p)) (sample k.Null) sample_test (λ w. some_pure (ast.Is a b w p))

reads_tested : (E : Reader Ast) (Q : Reader Select) (n : ℕ) (p : ℕ) (a : Ast) → Reads n (TestedAt p a) nothing (tested p a)
unfolding tested test_token
reads_tested E Q n p a =
    reads_expect k.Is (IsThen (MaybeWord k.Not) (TestWord p a)) nothing n (eat k.Not >>= (λ b. test_token >>= (λ w. pure (ast.Is a b w p)))) (some_then (MaybeWord k.Not) (TestWord p a) (some_maybe k.Not) (some_test_word p a))
    (reads_then (MaybeWord k.Not) (TestWord p a) (is k.Not) nothing n (eat k.Not) (λ b. test_token >>= (λ w. pure (ast.Is a b w p))) (starts_begun is_test (is k.Not) nothing (TestWord p a) (begins_test_word p a) not_test) (some_test_word p a) (reads_eat k.Not not_token n)
    (λ b. fewer (TestWord p a b) nothing n (test_token >>= (λ w. pure (ast.Is a b w p))) (reads_after is_test test_in (λ w. IsPure (ast.Is a b w p)) nothing n (λ w. pure (ast.Is a b w p)) (sample k.Null) sample_test (λ w. some_pure (ast.Is a b w p)) (λ w. reads_pure (ast.Is a b w p) n))))

pub starts_test : (p : ℕ) → Starts more_compare (IsTestTail p) more_test
starts_test p a w s v (IsTestTail.no_test cut value) stop = ap (λ x. more_compare (first (x ++ s))) cut ∙ within more_compare more_test (first s) within_test stop
starts_test p a w s v (IsTestTail.tested i n b t cut good maybe test_is value) stop = ap (λ x. more_compare (first (x ++ s))) cut ∙ ap more_compare good

shift_test : (a : Ast) → Shifts (λ p. IsTestTail p a)
shift_test a p q u v (IsTestTail.no_test cut value) = (v, IsTestTail.no_test cut value)
shift_test a p q u v (IsTestTail.tested i n b t cut good maybe test_is value) = (ast.Is a b (test_word (class t)) q, IsTestTail.tested i n b t cut good maybe test_is refl)

into_test : (u : Tokens) (v : Ast) → Placed (λ p. IsThen IsCompare (IsTestTail p)) u v → IsTest u v
into_test u v h = IsTest.test h.left h.right h.value h.cut h.front h.back

pub of_test : (u : Tokens) (v : Ast) → IsTest u v → Placed (λ p. IsThen IsCompare (IsTestTail p)) u v
of_test u v (IsTest.test x w a cut is tail) = record { left = x; right = w; value = a; cut = cut; front = is; back = tail }

pub reads_test : (E : Reader Ast) (Q : Reader Select) (n : ℕ) → Reads n IsCompare more_compare (compare E Q) → Reads n IsTest more_test (test_level E Q)
unfolding test_level test_tail
reads_test E Q n law =
    same_language (Placed (λ p. IsThen IsCompare (IsTestTail p))) IsTest more_test more_test n (test_level E Q) into_test of_test (within_self more_test)
    (reads_placed (λ p. IsThen IsCompare (IsTestTail p)) more_test n (λ at. compare E Q >>= (λ a. test_tail at a)) (λ p. long_then IsCompare (IsTestTail p) (λ u a is. begins_some begins_sign IsCompare u a begins-IsCompare is)) (shift_then IsCompare IsTestTail shift_test)
    (λ p. reads_then IsCompare (IsTestTail p) more_compare more_test n (compare E Q) (λ a. test_tail p a) (starts_test p) (λ a. ([], a, IsTestTail.no_test refl refl)) law
    (λ a. reads_by (IsTestTail p a) (TestBy p a) more_test n (test_by p a) (into_test_tail p a) (test_shape p a) (each p a))))
  where
    each : (p : ℕ) (a : Ast) (c : Class) → Reads n (TestBy p a c) more_test (test_by p a c)
    each p a k.Is = wider (TestedAt p a) nothing more_test n (tested p a) (within_nothing more_test) (reads_tested E Q n p a)
    each p a _ = reads_pure_in a more_test n

-- ---- NOT

abbrev NegatedAt : ℕ → Tokens → Ast → Type 0
NegatedAt p = Behind k.Not (IsThen IsTest (λ a. IsPure (ast.Not a p)))

abbrev NotBy : Class → Tokens → Ast → Type 0
NotBy k.Not = Placed NegatedAt
NotBy _ = IsTest

into_not_level : (c : Class) (u : Tokens) (v : Ast) → NotBy c u v → IsNot u v
into_not_level k.Not u v h = IsNot.negated h.token h.rest h.back.value h.cut (is_same k.Not (class h.token) h.good) (last_is IsTest (λ a. ast.Not a (place u)) h.rest v h.back) (h.back.back.value ∙ ap (λ p. ast.Not h.back.value p) (ap place h.cut))
into_not_level _ u v h = IsNot.affirmed h

not_affirmed : (c : Class) (u : Tokens) (v : Ast) → begins_sign c ≡ true → IsTest u v → NotBy c u v
not_affirmed k.Not u v good h = absurd (true≢false (sym good))
not_affirmed _ u v good h = h

not_shape : (u s : Tokens) (v : Ast) → IsNot u v → Stops more_test s → NotBy (first (u ++ s)) u v
not_shape u s v (IsNot.affirmed is) stop = not_affirmed (first (u ++ s)) u v (begins_first begins_sign IsTest u s v begins-IsTest is) is
not_shape u s v (IsNot.negated t w a cut good inside value) stop =
    subst (λ c. NotBy c u v) (sym (ap (λ x. first (x ++ s)) cut ∙ good)) (behind k.Not (IsThen IsTest (λ b. IsPure (ast.Not b (place u)))) u v t w cut good (last IsTest (λ b. ast.Not b (place u)) w a v inside (value ∙ ap (λ p. ast.Not a p) (sym (ap place cut)))))

reads_negated : (E : Reader Ast) (Q : Reader Select) (n : ℕ) → Reads n IsTest more_test (test_level E Q) → Reads n (Placed NegatedAt) more_test (negated E Q)
unfolding negated
reads_negated E Q n law =
    reads_placed NegatedAt more_test n (λ at. expect k.Not >> (test_level E Q >>= (λ a. pure (ast.Not a at)))) (λ p. long_after (is k.Not) no_meaning (λ _. IsThen IsTest (λ a. IsPure (ast.Not a p))))
    (shift_behind k.Not (λ p. IsThen IsTest (λ a. IsPure (ast.Not a p))) (shift_then IsTest (λ p a. IsPure (ast.Not a p)) (λ a. shift_pure (λ p. ast.Not a p))))
    (λ p. reads_expect k.Not (IsThen IsTest (λ a. IsPure (ast.Not a p))) more_test n (test_level E Q >>= (λ a. pure (ast.Not a p))) (some_last IsTest (λ a. ast.Not a p) some-IsTest) (reads_last IsTest more_test more_test n (test_level E Q) (λ a. ast.Not a p) (within_self more_test) law))

pub reads_not : (E : Reader Ast) (Q : Reader Select) (n : ℕ) → Reads n IsTest more_test (test_level E Q) → Reads n IsNot more_test (not_level E Q)
unfolding not_level
reads_not E Q n law = reads_by IsNot NotBy more_test n (not_by E Q) into_not_level not_shape each
  where
    each : (c : Class) → Reads n (NotBy c) more_test (not_by E Q c)
    each k.Not = reads_negated E Q n law
    each _ = law

-- ---- AND

into_and : (u : Tokens) (v : Ast) → Placed (LevelAt and_node k.And IsNot) u v → IsAnd u v
into_and u v is = let c = chain_of IsNot (Behind k.And IsNot) (chain (and_node (place u))) u v is in IsAnd.and c.left c.right c.value c.list c.cut c.front (to-MoreNots c.right c.list c.many) c.all

pub of_and : (u : Tokens) (v : Ast) → IsAnd u v → Placed (LevelAt and_node k.And IsNot) u v
of_and u v (IsAnd.and x w a list cut is others all) = of_chain IsNot (Behind k.And IsNot) (chain (and_node (place u))) u x w a list v cut is (of-MoreNots w list others) all

pub within_and : Within (either more_test (is k.And)) more_and
unfolding same
within_and k.And = refl
within_and _ = refl

pub token_and : is k.And k.Nothing ≡ false
unfolding same
token_and = refl

pub reads_and : (E : Reader Ast) (Q : Reader Select) (n : ℕ) → Reads n IsNot more_test (not_level E Q) → Reads n IsAnd more_and (and_level E Q)
unfolding and_level
reads_and E Q n law =
    same_language (Placed (LevelAt and_node k.And IsNot)) IsAnd (either more_test (is k.And)) more_and n (and_level E Q) into_and of_and within_and
    (reads_level and_node k.And IsNot more_test n (not_level E Q) token_and refl (λ u a is. begins_some begins_expr IsNot u a begins-IsNot is) some-IsNot law)

-- ---- OR

into_expr : (u : Tokens) (v : Ast) → Placed (LevelAt or_node k.Or IsAnd) u v → IsExpr u v
into_expr u v is = let c = chain_of IsAnd (Behind k.Or IsAnd) (chain (or_node (place u))) u v is in IsExpr.or c.left c.right c.value c.list c.cut c.front (to-MoreAnds c.right c.list c.many) c.all

pub of_expr : (u : Tokens) (v : Ast) → IsExpr u v → Placed (LevelAt or_node k.Or IsAnd) u v
of_expr u v (IsExpr.or x w a list cut is others all) = of_chain IsAnd (Behind k.Or IsAnd) (chain (or_node (place u))) u x w a list v cut is (of-MoreAnds w list others) all

pub within_expr : Within (either more_and (is k.Or)) more_expr
unfolding same
within_expr k.Or = refl
within_expr _ = refl

pub token_expr : is k.Or k.Nothing ≡ false
unfolding same
token_expr = refl

pub reads_expr : (E : Reader Ast) (Q : Reader Select) (n : ℕ) → Reads n IsAnd more_and (and_level E Q) → Reads n IsExpr more_expr (expr_of E Q)
unfolding expr_of
reads_expr E Q n law =
    same_language (Placed (LevelAt or_node k.Or IsAnd)) IsExpr (either more_and (is k.Or)) more_expr n (expr_of E Q) into_expr of_expr within_expr
    (reads_level or_node k.Or IsAnd more_and n (and_level E Q) token_expr refl (λ u a is. begins_some begins_expr IsAnd u a begins-IsAnd is) some-IsAnd law)

-- ---- the whole expression

pub reads_expr_of : (E : Reader Ast) (Q : Reader Select) (n : ℕ) → Reads n IsExpr more_expr E → Reads n IsSelect more_select Q → Reads (suc n) IsExpr more_expr (expr_of E Q)
reads_expr_of E Q n expr_law select_law =
    let atom_law = reads_atom E Q n expr_law select_law in
    let sign_law = reads_sign E Q n atom_law in
    let cat_law = reads_cat E Q (suc n) (reads_sum E Q (suc n) (reads_product E Q (suc n) sign_law)) in
    let range_law = reads_range E Q n expr_law select_law cat_law in
    reads_expr E Q (suc n) (reads_and E Q (suc n) (reads_not E Q (suc n) (reads_test E Q (suc n) (reads_compare E Q (suc n) range_law))))
