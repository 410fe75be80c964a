-- The readers of targets and selects are exact, where those of inner expressions and items are.
use Rattle.std.proofs.Common.{◌≡◌, ℕ, suc, ◌<◌, Bool, true, false, ◌&&◌, if◌then◌else◌, List, [], ◌∷◌, ◌++◌, length, Option, None, Some, Ok, Err, refl, sym, ap, ◌∙◌, subst, arith, append_assoc, append-nil, true≢false}
use Rattle.jp_ast.specs.declared.tree.Ast.{Ast}
use Rattle.jp_ast.specs.declared.tree.Ast.TheVariants as ast
use Rattle.jp_ast.specs.declared.tree.FromItem.{FromItem}
use Rattle.jp_ast.specs.declared.tree.Select.{Select}
use Rattle.jp_ast.specs.declared.tree.Target.{Target}
use Rattle.jp_ast.specs.declared.tree.Target.TheVariants as target
use Rattle.jp_ast.specs.declared.class.Class.{Class}
use Rattle.jp_ast.specs.declared.class.Class.TheVariants as k
use Rattle.jp_ast.specs.Seen.{Seen, place}
use Rattle.jp_ast.specs.Classes.{class, first, same, is_name}
use Rattle.jp_ast.specs.Nodes.{select_of}
use Rattle.jp_cursor.specs.Reading.{Reader, Outcome, ◌>>=◌, ◌>>◌, pure, peek, is, expect, no_meaning, content_in, name, eat, begins_all_of, listed}
use Rattle.jp_ast.specs.Grammar.{MaybeAlias, MaybeDistinct, IsAtom, IsExpr, IsItem, AreItems, IsTarget, AreTargets, MaybeWhere, IsSelect}
use Rattle.jp_parse.specs.Readers.{alias, all, all_of, one, target_by, target_of, where_by, condition, select_from}
use Rattle.jp_parse.proofs.Exact.{Tokens, Set, nothing, either, Apart, Within, Stops, Alike, Exact, Reads, Inhabited, clash, within, within_self, IsPure, IsThen, Starts, reads_then, reads_by, Begins, begins_first, same_language}
use Rattle.jp_parse.proofs.Samples.{sample, sampled, is_same, same_is}
use Rattle.jp_parse.proofs.Steps.{reads_last, some_last, last_is, last, reads_closed, some_closed, wider, Behind, behind_class, behind, some_behind, some_then, MaybeWord, some_maybe, reads_eat, reads_enter, reads_expect, Word, some_word, reads_word, Named, reads_named, shift_pure, shift_after, shift_behind, long_after, Placed, reads_placed, within_nothing, starts_pure, starts_then, starts_begun, reads_pure_in, some_chained, chain_of, of_chain, Listed, reads_listed, word_cut, word}
use Rattle.jp_parse.proofs.Sets.{begins_expr, begins_target, begins_alias, more_expr, more_target, more_item, more_select}
use Rattle.jp_parse.proofs.FirstTokens.{begins-IsExpr, begins-IsTarget}
use Rattle.jp_parse.proofs.Least.{some-IsExpr, some-IsItem, some-IsTarget}
use Rattle.jp_parse.proofs.ListLaws.{to-MoreItems, of-MoreItems, to-MoreTargets, of-MoreTargets}
use Rattle.jp_parse.proofs.FromLaws.{reads_alias, some_alias, starts_alias, alias_target, expr_target}
use Rattle.jp_parse.proofs.Dotted.{atom_expr, no_expr}

-- ---- a target

abbrev AllAt : ℕ → Tokens → Target → Type 0
AllAt p = Word k.Star (target.All p)

abbrev AllOfAt : ℕ → Tokens → Target → Type 0
AllOfAt p = Named (λ q. Behind k.Dot (Word k.Star (target.AllOf q p)))

abbrev OneLike : Tokens → Target → Type 0
OneLike = IsThen IsExpr (λ a. IsThen MaybeAlias (λ n. IsPure (target.One a n)))

reads_all : (n : ℕ) → Reads n (Placed AllAt) nothing all
unfolding all
reads_all n = reads_placed AllAt nothing n (λ at. expect k.Star >> pure (target.All at)) (λ p. long_after (is k.Star) no_meaning (λ _. IsPure (target.All p))) (shift_behind k.Star (λ p. IsPure (target.All p)) (shift_pure target.All)) (λ p. reads_word k.Star (target.All p) n)

some_star : (p : ℕ) (q : List ℕ) → Inhabited (Behind k.Dot (Word k.Star (target.AllOf q p)))
some_star p q = some_behind k.Dot (Word k.Star (target.AllOf q p)) (some_word k.Star (target.AllOf q p))

reads_all_of : (n : ℕ) → Reads (suc n) (Placed AllOfAt) nothing all_of
unfolding all_of
reads_all_of n =
    reads_placed AllOfAt nothing (suc n) (λ at. name >>= (λ q. expect k.Dot >> (expect k.Star >> pure (target.AllOf q at)))) (λ p. long_after is_name content_in (λ q. Behind k.Dot (Word k.Star (target.AllOf q p))))
    (shift_after is_name content_in (λ p q. Behind k.Dot (Word k.Star (target.AllOf q p))) (λ q. shift_behind k.Dot (λ p. Word k.Star (target.AllOf q p)) (shift_behind k.Star (λ p. IsPure (target.AllOf q p)) (shift_pure (λ p. target.AllOf q p)))))
    (λ p. reads_named (λ q. Behind k.Dot (Word k.Star (target.AllOf q p))) nothing n (λ q. expect k.Dot >> (expect k.Star >> pure (target.AllOf q p))) (some_star p)
    (λ q. reads_expect k.Dot (Word k.Star (target.AllOf q p)) nothing n (expect k.Star >> pure (target.AllOf q p)) (some_word k.Star (target.AllOf q p)) (reads_word k.Star (target.AllOf q p) n)))

alias_expr : Apart begins_alias more_expr
alias_expr k.As = refl
alias_expr _ = refl

some_one : (a : Ast) → Inhabited (IsThen MaybeAlias (λ n. IsPure (target.One a n)))
some_one a = some_last MaybeAlias (λ n. target.One a n) some_alias

reads_one : (E : Reader Ast) (n : ℕ) → Reads n IsExpr more_expr E → Reads n OneLike more_target (one E)
unfolding one
reads_one E n law =
    reads_then IsExpr (λ a. IsThen MaybeAlias (λ m. IsPure (target.One a m))) more_expr more_target n E (λ a. alias >>= (λ m. pure (target.One a m)))
    (starts_then more_expr more_target more_target (λ a. MaybeAlias) (λ a m. IsPure (target.One a m)) (starts_alias more_expr more_target alias_expr expr_target) (λ a. starts_pure more_target (λ m. target.One a m))) some_one law
    (λ a. reads_last MaybeAlias begins_alias more_target n alias (λ m. target.One a m) alias_target (reads_alias n))

-- all targets but `name . *`
data Plain : Tokens → Target → Type 0 where
  star : {u : Tokens} {v : Target} → Placed AllAt u v → Plain u v
  expr : {u : Tokens} {v : Target} → OneLike u v → Plain u v

abbrev PlainBy : Class → Tokens → Target → Type 0
PlainBy k.Star = Placed AllAt
PlainBy _ = OneLike

into_plain : (c : Class) (u : Tokens) (v : Target) → PlainBy c u v → Plain u v
into_plain k.Star u v h = Plain.star h
into_plain _ u v h = Plain.expr h

plain_expr : (c : Class) (u : Tokens) (v : Target) → begins_expr c ≡ true → OneLike u v → PlainBy c u v
plain_expr k.Star u v good h = absurd (true≢false (sym good))
plain_expr _ u v good h = h

one_first : (u s : Tokens) (v : Target) → OneLike u v → begins_expr (first (u ++ s)) ≡ true
one_first u s v h = ap (λ w. begins_expr (first w)) (ap (λ w. w ++ s) h.cut ∙ append_assoc h.left h.right s) ∙ begins_first begins_expr IsExpr h.left (h.right ++ s) h.value begins-IsExpr h.front

plain_shape : (u s : Tokens) (v : Target) → Plain u v → Stops more_target s → PlainBy (first (u ++ s)) u v
plain_shape u s v (Plain.star h) stop = subst (λ c. PlainBy c u v) (sym (behind_class k.Star (IsPure (target.All (place u))) u s v h)) h
plain_shape u s v (Plain.expr h) stop = plain_expr (first (u ++ s)) u v (one_first u s v h) h

reads_plain : (E : Reader Ast) (n : ℕ) → Reads n IsExpr more_expr E → Reads n Plain more_target (peek >>= target_by E)
reads_plain E n law = reads_by Plain PlainBy more_target n (target_by E) into_plain plain_shape each
  where
    each : (c : Class) → Reads n (PlainBy c) more_target (target_by E c)
    each k.Star = wider (Placed AllAt) nothing more_target n all (within_nothing more_target) (reads_all n)
    each _ = reads_one E n law

plain_target : (u : Tokens) (v : Target) → Plain u v → IsTarget u v
plain_target u v (Plain.star h) = IsTarget.all h.token (word_cut k.Star (target.All (place u)) u v h) (is_same k.Star (class h.token) h.good) (h.back.value ∙ ap target.All (ap place h.cut))
plain_target u v (Plain.expr h) = IsTarget.one h.left h.right h.value h.back.value h.cut h.front (last_is MaybeAlias (λ n. target.One h.value n) h.right v h.back) h.back.back.value

plain_one : (u x w : Tokens) (a : Ast) (n : Option (List ℕ)) (v : Target) → u ≡ x ++ w → IsExpr x a → MaybeAlias w n → v ≡ target.One a n → Plain u v
plain_one u x w a n v cut is maybe value = Plain.expr (record { left = x; right = w; value = a; cut = cut; front = is; back = last MaybeAlias (λ m. target.One a m) w n v maybe value })

plain_atom : (u : Tokens) (a : Ast) → IsAtom u a → Plain u (target.One a None)
plain_atom u a is = plain_one u u [] a None (target.One a None) (sym (append-nil u)) (atom_expr u a is) (MaybeAlias.none refl refl) refl

plain_name : (q : Seen) → is_name (class q) ≡ true → Plain (q ∷ []) (target.One (ast.Name q.content q.at) None)
plain_name q good = plain_atom (q ∷ []) (ast.Name q.content q.at) (IsAtom.column q refl good refl)

plain_dotted : (q dot : Seen) → is_name (class q) ≡ true → class dot ≡ k.Dot → Plain (q ∷ dot ∷ sample k.Name ∷ []) (target.One (ast.Qualified q.content (sample k.Name).content q.at) None)
plain_dotted q dot good dot_is = plain_atom (q ∷ dot ∷ sample k.Name ∷ []) (ast.Qualified q.content (sample k.Name).content q.at) (IsAtom.qualified q dot (sample k.Name) refl good dot_is (ap is_name (sampled k.Name)) refl)

three : (a q b dot c t : Seen) (rest : Tokens) → a ≡ q → b ≡ dot → c ≡ t → a ∷ b ∷ c ∷ rest ≡ q ∷ dot ∷ t ∷ rest
three a q b dot c t rest e f g = cc

begins : (q dot t : Seen) (rest : Tokens) → is_name (class q) ≡ true → class dot ≡ k.Dot → class t ≡ k.Star → begins_all_of (q ∷ dot ∷ t ∷ rest) ≡ true
begins q dot t rest q_is dot_is t_is = both (is_name (class q)) (is k.Dot (class dot)) (is k.Star (class t)) q_is (same_is k.Dot (class dot) dot_is) (same_is k.Star (class t) t_is)
  where
    both : (a b c : Bool) → a ≡ true → b ≡ true → c ≡ true → (a && b && c) ≡ true
    both true true true e f g = refl
    both true true false e f g = g
    both true false c e f g = f
    both false b c e f g = e

-- whatever was read of `name . *` as another target would have gone on up to the symbol
no_all_of : (ts used rest r : Tokens) (q dot t : Seen) (s : Tokens) → ((r' u s' : Tokens) (v : Target) → Alike rest r' → used ++ r' ≡ u ++ s' → Plain u v → Stops more_target s' → u ≡ used) → ts ≡ used ++ rest → Alike rest r → used ++ r ≡ q ∷ dot ∷ t ∷ s
    → is_name (class q) ≡ true → class dot ≡ k.Dot → class t ≡ k.Star → begins_all_of ts ≡ false → ⊥
no_all_of ts [] [] [] q dot t s other cut same e q_is dot_is t_is out = let f : [] ≡ q ∷ dot ∷ t ∷ s = e in cc
no_all_of ts [] [] (y ∷ r) q dot t s other cut same e q_is dot_is t_is out = same
no_all_of ts [] (x ∷ rest) [] q dot t s other cut same e q_is dot_is t_is out = same
no_all_of ts [] (x ∷ rest) (y ∷ r) q dot t s other cut same e q_is dot_is t_is out =
    let f : y ≡ q = cc in
    let g = other (q ∷ []) (q ∷ []) [] (target.One (ast.Name q.content q.at) None) (same ∙ f) refl (plain_name q q_is) refl in
    cc
no_all_of ts (a ∷ []) [] [] q dot t s other cut same e q_is dot_is t_is out = cc
no_all_of ts (a ∷ []) [] (y ∷ r) q dot t s other cut same e q_is dot_is t_is out = same
no_all_of ts (a ∷ []) (x ∷ rest) [] q dot t s other cut same e q_is dot_is t_is out = same
no_all_of ts (a ∷ []) (x ∷ rest) (y ∷ r) q dot t s other cut same e q_is dot_is t_is out =
    let f : y ≡ dot = cc in
    let h : a ≡ q = cc in
    let g = other (dot ∷ sample k.Name ∷ []) (q ∷ dot ∷ sample k.Name ∷ []) [] (target.One (ast.Qualified q.content (sample k.Name).content q.at) None) (same ∙ f) (ap (λ z. z ∷ dot ∷ sample k.Name ∷ []) h) (plain_dotted q dot q_is dot_is) refl in
    cc
no_all_of ts (a ∷ b ∷ []) [] [] q dot t s other cut same e q_is dot_is t_is out = cc
no_all_of ts (a ∷ b ∷ []) [] (y ∷ r) q dot t s other cut same e q_is dot_is t_is out = same
no_all_of ts (a ∷ b ∷ []) (x ∷ rest) [] q dot t s other cut same e q_is dot_is t_is out = same
no_all_of ts (a ∷ b ∷ []) (x ∷ rest) (y ∷ r) q dot t s other cut same e q_is dot_is t_is out =
    let f : y ≡ t = cc in
    let g : b ≡ dot = cc in
    let h : a ≡ q = cc in
    clash (begins q dot t rest q_is dot_is t_is) (ap (λ z. begins_all_of z) (sym (cut ∙ three a q b dot x t rest h g (same ∙ f))) ∙ out)
no_all_of ts (a ∷ b ∷ c ∷ used) rest r q dot t s other cut same e q_is dot_is t_is out =
    let f : c ≡ t = cc in
    let g : b ≡ dot = cc in
    let h : a ≡ q = cc in
    clash (begins q dot t (used ++ rest) q_is dot_is t_is) (ap (λ z. begins_all_of z) (sym (cut ∙ three a q b dot c t (used ++ rest) h g f)) ∙ out)

pub alike_self : (r : Tokens) → Alike r r
alike_self [] = tt
alike_self (t ∷ r) = refl

all_of_target : (u : Tokens) (v : Target) → Placed AllOfAt u v → IsTarget u v
all_of_target u v h =
    let d = h.back in
    let w = d.back in
    IsTarget.all_of h.token d.token w.token (h.cut ∙ ap (λ x. h.token ∷ x) (d.cut ∙ ap (λ x. d.token ∷ x) (word_cut k.Star (target.AllOf h.token.content (place u)) d.rest v w))) h.good (is_same k.Dot (class d.token) d.good) (is_same k.Star (class w.token) w.good) (w.back.value ∙ ap (λ x. target.AllOf h.token.content x) (ap place h.cut))

of_all_of : (u : Tokens) (v : Target) (q dot t : Seen) → u ≡ q ∷ dot ∷ t ∷ [] → is_name (class q) ≡ true → class dot ≡ k.Dot → class t ≡ k.Star → v ≡ target.AllOf q.content q.at → Placed AllOfAt u v
of_all_of u v q dot t cut q_is dot_is t_is value = record {
  token = q;
  rest = dot ∷ t ∷ [];
  cut = cut;
  good = q_is;
  back = behind k.Dot (Word k.Star (target.AllOf q.content (place u))) (dot ∷ t ∷ []) v dot (t ∷ []) refl dot_is (word k.Star (target.AllOf q.content (place u)) t v t_is (value ∙ ap (λ x. target.AllOf q.content x) (sym (ap place cut))));
}

-- ---- where `name . *` stands first

module _ (q dot t : Seen) (q_is : is_name (class q) ≡ true) (dot_is : class dot ≡ k.Dot) (t_is : class t ≡ k.Star) where
  only_all_of : (r us u s : Tokens) (v : Target) → us ≡ q ∷ dot ∷ t ∷ r → us ≡ u ++ s → IsTarget u v → Stops more_target s → Placed AllOfAt u v
  only_all_of r us u s v whole e (IsTarget.all x cut good value) stop =
      let f : q ∷ dot ∷ t ∷ r ≡ x ∷ s = sym whole ∙ e ∙ ap (λ w. w ++ s) cut in
      let g : x ≡ q = cc in
      absurd (clash q_is (ap (λ y. is_name (class y)) (sym g) ∙ ap is_name good))
  only_all_of r us u s v whole e (IsTarget.all_of a b c cut good b_is c_is value) stop = of_all_of u v a b c cut good b_is c_is value
  only_all_of r us u s v whole e (IsTarget.one x w a n cut is maybe value) stop =
      absurd (no_expr q dot t r q_is dot_is t_is x (w ++ s) a is (sym (append_assoc x w s) ∙ ap (λ y. y ++ s) (sym cut) ∙ sym e ∙ whole) (starts_alias {A = Ast} more_expr more_target alias_expr expr_target a w s n maybe stop))

  used_is : (r used rest : Tokens) (v : Target) → q ∷ dot ∷ t ∷ r ≡ used ++ rest → IsTarget used v → Placed AllOfAt used v → used ≡ q ∷ dot ∷ t ∷ []
  used_is r used rest v cut is h =
      let d = h.back in
      let w = d.back in
      let e : used ≡ h.token ∷ d.token ∷ w.token ∷ [] = h.cut ∙ ap (λ x. h.token ∷ x) (d.cut ∙ ap (λ x. d.token ∷ x) (word_cut k.Star (target.AllOf h.token.content (place used)) d.rest v w)) in
      let f : q ∷ dot ∷ t ∷ r ≡ h.token ∷ d.token ∷ w.token ∷ rest = cut ∙ ap (λ x. x ++ rest) e in
      e ∙ three_same h.token q d.token dot w.token t rest r (sym f)
    where
      three_same : (a q b dot c t : Seen) (rest r : Tokens) → a ∷ b ∷ c ∷ rest ≡ q ∷ dot ∷ t ∷ r → a ∷ b ∷ c ∷ [] ≡ q ∷ dot ∷ t ∷ []
      three_same a q b dot c t rest r e = let f : a ≡ q = cc in let g : b ≡ dot = cc in let h : c ≡ t = cc in cc

  found_all_of : (r : Tokens) (o : Outcome Target) → Exact (Placed AllOfAt) nothing (q ∷ dot ∷ t ∷ r) o → Exact IsTarget more_target (q ∷ dot ∷ t ∷ r) o
  found_all_of r (Ok p) h = record {
    used = h.used;
    cut = h.cut;
    is = all_of_target h.used p.0 h.is;
    only = λ r' u s v same e is stop. h.only r' u s v same e (only_all_of r' (h.used ++ r') u s v (ap (λ x. x ++ r') (used_is r h.used p.1 p.0 h.cut (all_of_target h.used p.0 h.is) h.is)) e is stop) refl;
  }
  found_all_of r (Err rest) h = absurd (h.none rest (q ∷ dot ∷ t ∷ []) r (target.AllOf q.content q.at) (alike_self rest) (sym h.cut) (of_all_of (q ∷ dot ∷ t ∷ []) (target.AllOf q.content q.at) q dot t refl q_is dot_is t_is refl) refl)

-- ---- where it doesn't

plain_of : (ts used rest r u s : Tokens) (v : Target) → begins_all_of ts ≡ false → ((r' u s' : Tokens) (v : Target) → Alike rest r' → used ++ r' ≡ u ++ s' → Plain u v → Stops more_target s' → u ≡ used) → ts ≡ used ++ rest → Alike rest r → used ++ r ≡ u ++ s → IsTarget u v → Plain u v
plain_of ts used rest r u s v out other cut same e (IsTarget.all x cut' good value) = Plain.star (behind k.Star (IsPure (target.All (place u))) u v x [] cut' good (record { cut = refl; value = value ∙ ap target.All (sym (ap place cut')) }))
plain_of ts used rest r u s v out other cut same e (IsTarget.all_of a b c cut' good b_is c_is value) = absurd (no_all_of ts used rest r a b c s other cut same (e ∙ ap (λ x. x ++ s) cut') good b_is c_is out)
plain_of ts used rest r u s v out other cut same e (IsTarget.one x w a n cut' is maybe value) = plain_one u x w a n v cut' is maybe value

not_all_of : (ts : Tokens) → begins_all_of ts ≡ false → (o : Outcome Target) → Exact Plain more_target ts o → Exact IsTarget more_target ts o
not_all_of ts out (Ok p) h = record {
  used = h.used;
  cut = h.cut;
  is = plain_target h.used p.0 h.is;
  only = λ r u s v same e is stop. h.only r u s v same e (plain_of ts h.used p.1 r u s v out (λ r' u' s' v' same' e' is' stop'. (h.only r' u' s' v' same' e' is' stop').0) h.cut same e is) stop;
}
not_all_of ts out (Err rest) h = record {
  used = h.used;
  cut = h.cut;
  more = h.more;
  value = h.value;
  goes_on = plain_target (h.used ++ h.more) h.value h.goes_on;
  none = λ r u s v same e is stop. h.none r u s v same e (plain_of ts h.used rest r u s v out (λ r' u' s' v' same' e' is' stop'. absurd (h.none r' u' s' v' same' e' is' stop')) h.cut same e is) stop;
}

pub reads_target : (E : Reader Ast) (n : ℕ) → Reads n IsExpr more_expr E → Reads n IsTarget more_target (target_of E)
unfolding target_of
reads_target E n law ts few = go (begins_all_of ts) refl
  where
    plain : Exact Plain more_target ts ((peek >>= target_by E) ts)
    plain = reads_plain E n law ts few

    found : (us : Tokens) → begins_all_of us ≡ true → length us < n → Exact IsTarget more_target us (all_of us)
    found [] e f = absurd (true≢false (sym e))
    found (q ∷ []) e f = absurd (true≢false (sym e))
    found (q ∷ dot ∷ []) e f = absurd (true≢false (sym e))
    found (q ∷ dot ∷ t ∷ r) e f = let p = three_true (is_name (class q)) (is k.Dot (class dot)) (is k.Star (class t)) e in found_all_of q dot t p.0 (is_same k.Dot (class dot) p.1) (is_same k.Star (class t) p.2) r (all_of (q ∷ dot ∷ t ∷ r)) (reads_all_of n (q ∷ dot ∷ t ∷ r) (omega (arith, f)))
      where
        three_true : (a b c : Bool) → (a && b && c) ≡ true → (a ≡ true) × (b ≡ true) × (c ≡ true)
        three_true true true c e = (refl, refl, e)
        three_true true false c e = absurd (true≢false (sym e))
        three_true false b c e = absurd (true≢false (sym e))

    go : (b : Bool) → begins_all_of ts ≡ b → Exact IsTarget more_target ts ((if b then all_of else (peek >>= target_by E)) ts)
    go true e = found ts e few
    go false e = not_all_of ts e ((peek >>= target_by E) ts) plain

-- ---- the select

pub to-AreTargets : (u : Tokens) (v : List Target) → Listed IsTarget u v → AreTargets u v
to-AreTargets u v is = let c = chain_of IsTarget (Behind k.Comma IsTarget) (λ a more. a ∷ more) u v is in AreTargets.targets c.left c.right c.value c.list c.cut c.front (to-MoreTargets c.right c.list c.many) c.all

pub of-AreTargets : (u : Tokens) (v : List Target) → AreTargets u v → Listed IsTarget u v
of-AreTargets u v (AreTargets.targets x w a list cut is more all) = of_chain IsTarget (Behind k.Comma IsTarget) (λ b others. b ∷ others) u x w a list v cut is (of-MoreTargets w list more) all

pub to-AreItems : (u : Tokens) (v : List FromItem) → Listed IsItem u v → AreItems u v
to-AreItems u v is = let c = chain_of IsItem (Behind k.Comma IsItem) (λ a more. a ∷ more) u v is in AreItems.items c.left c.right c.value c.list c.cut c.front (to-MoreItems c.right c.list c.many) c.all

pub of-AreItems : (u : Tokens) (v : List FromItem) → AreItems u v → Listed IsItem u v
of-AreItems u v (AreItems.items x w a list cut is more all) = of_chain IsItem (Behind k.Comma IsItem) (λ b others. b ∷ others) u x w a list v cut is (of-MoreItems w list more) all

abbrev WhereBy : Class → Tokens → Option Ast → Type 0
WhereBy k.Where = Behind k.Where (IsThen IsExpr (λ a. IsPure (Some a)))
WhereBy _ = IsPure None

into_where : (c : Class) (u : Tokens) (v : Option Ast) → WhereBy c u v → MaybeWhere u v
into_where k.Where u v h = MaybeWhere.condition h.token h.rest h.back.value h.cut (is_same k.Where (class h.token) h.good) (last_is IsExpr Some h.rest v h.back) h.back.back.value
into_where _ u v is = MaybeWhere.no_where is.cut is.value

no_where : (c : Class) (u : Tokens) (v : Option Ast) → more_select c ≡ false → IsPure None u v → WhereBy c u v
no_where k.Where u v out is = absurd (true≢false out)
no_where _ u v out is = is

where_shape : (u s : Tokens) (v : Option Ast) → MaybeWhere u v → Stops more_select s → WhereBy (first (u ++ s)) u v
where_shape u s v (MaybeWhere.no_where cut value) stop = no_where (first (u ++ s)) u v (ap (λ w. more_select (first (w ++ s))) cut ∙ stop) (record { cut = cut; value = value })
where_shape u s v (MaybeWhere.condition t w a cut where_is inside value) stop =
    let h = behind k.Where (IsThen IsExpr (λ a. IsPure (Some a))) u v t w cut where_is (last IsExpr Some w a v inside value) in
    subst (λ c. WhereBy c u v) (sym (behind_class k.Where (IsThen IsExpr (λ a. IsPure (Some a))) u s v h)) h

some_where : Inhabited MaybeWhere
some_where = ([], None, MaybeWhere.no_where refl refl)

expr_select : Within more_expr more_select
expr_select k.Or = refl
expr_select _ = refl

abbrev more_targets : Set
more_targets = either more_target (is k.Comma)

abbrev more_items : Set
more_items = either more_item (is k.Comma)

items_select : Within more_items more_select
unfolding same
items_select k.Comma = refl
items_select _ = refl

from_out : more_targets k.From ≡ false
unfolding same
from_out = refl

where_out : more_items k.Where ≡ false
unfolding same
where_out = refl

starts_where : {A : Type 0} → Starts more_items (λ (a : A). MaybeWhere) more_select
starts_where a w s v (MaybeWhere.no_where cut value) stop = ap (λ x. more_items (first (x ++ s))) cut ∙ within more_items more_select (first s) items_select stop
starts_where a w s v (MaybeWhere.condition t x b cut where_is inside value) stop = ap (λ y. more_items (first (y ++ s))) cut ∙ ap more_items where_is ∙ where_out

distinct_out : Apart begins_target (is k.Distinct)
unfolding same
distinct_out k.Star = refl
distinct_out _ = refl

distinct_token : is k.Distinct k.Nothing ≡ false
unfolding same
distinct_token = refl

maybe_distinct : (u : Tokens) (b : Bool) → MaybeWord k.Distinct u b → MaybeDistinct u b
maybe_distinct u b (MaybeWord.none cut value) = MaybeDistinct.none cut value
maybe_distinct u b (MaybeWord.given t cut good value) = MaybeDistinct.word t cut good value

distinct_maybe : (u : Tokens) (b : Bool) → MaybeDistinct u b → MaybeWord k.Distinct u b
distinct_maybe u b (MaybeDistinct.none cut value) = MaybeWord.none cut value
distinct_maybe u b (MaybeDistinct.word t cut good value) = MaybeWord.given t cut good value

abbrev CondPart : Bool → List Target → List FromItem → Tokens → Select → Type 0
CondPart d targets items = IsThen MaybeWhere (λ c. IsPure (select_of d targets items c))

abbrev ItemsPart : Bool → List Target → Tokens → Select → Type 0
ItemsPart d targets = IsThen (Listed IsItem) (CondPart d targets)

abbrev TargetsPart : Bool → Tokens → Select → Type 0
TargetsPart d = IsThen (Listed IsTarget) (λ targets. Behind k.From (ItemsPart d targets))

abbrev SelectLike : Tokens → Select → Type 0
SelectLike = Behind k.Select (IsThen (MaybeWord k.Distinct) TargetsPart)

into_select : (u : Tokens) (v : Select) → SelectLike u v → IsSelect u v
into_select u v h =
    let d = h.back in
    let t = d.back in
    let f = t.back in
    let i = f.back in
    let c = i.back in
    IsSelect.select h.token d.left t.left f.token i.left i.right d.value t.value i.value c.value (h.cut ∙ ap (λ x. h.token ∷ x) (d.cut ∙ ap (λ x. d.left ++ x) (t.cut ∙ ap (λ x. t.left ++ x) (f.cut ∙ ap (λ x. f.token ∷ x) i.cut)))) (is_same k.Select (class h.token) h.good)
    (maybe_distinct d.left d.value d.front) (to-AreTargets t.left t.value t.front) (is_same k.From (class f.token) f.good) (to-AreItems i.left i.value i.front) (last_is MaybeWhere (λ x. select_of d.value t.value i.value x) i.right v c) c.back.value

of_select : (u : Tokens) (v : Select) → IsSelect u v → SelectLike u v
of_select u v (IsSelect.select word' d x from y z distinct targets items cond cut good maybe are_targets from_is are_items maybe_where value) =
    behind k.Select (IsThen (MaybeWord k.Distinct) TargetsPart) u v word' (d ++ (x ++ (from ∷ (y ++ z)))) cut good (record {
      left = d;
      right = x ++ (from ∷ (y ++ z));
      value = distinct;
      cut = refl;
      front = distinct_maybe d distinct maybe;
      back = record {
        left = x;
        right = from ∷ (y ++ z);
        value = targets;
        cut = refl;
        front = of-AreTargets x targets are_targets;
        back = behind k.From (ItemsPart distinct targets) (from ∷ (y ++ z)) v from (y ++ z) refl from_is (record { left = y; right = z; value = items; cut = refl; front = of-AreItems y items are_items; back = last MaybeWhere (λ c. select_of distinct targets items c) z cond v maybe_where value });
      };
    })

some_targets : Inhabited (Listed IsTarget)
some_targets = some_chained IsTarget (Behind k.Comma IsTarget) (λ a more. a ∷ more) some-IsTarget

some_items : Inhabited (Listed IsItem)
some_items = some_chained IsItem (Behind k.Comma IsItem) (λ a more. a ∷ more) some-IsItem

some_cond : (d : Bool) (targets : List Target) (items : List FromItem) → Inhabited (CondPart d targets items)
some_cond d targets items = some_last MaybeWhere (λ c. select_of d targets items c) some_where

some_items_part : (d : Bool) (targets : List Target) → Inhabited (ItemsPart d targets)
some_items_part d targets = some_then (Listed IsItem) (CondPart d targets) some_items (some_cond d targets)

some_targets_part : (d : Bool) → Inhabited (TargetsPart d)
some_targets_part d = some_closed (Listed IsTarget) k.From (ItemsPart d) some_targets (some_items_part d)

begins_targets : (d : Bool) → Begins begins_target (TargetsPart d)
begins_targets d = (refl, begun)
  where
    begun : (u : Tokens) (v : Select) → TargetsPart d u v → begins_target (first u) ≡ true
    begun u v h = ap begins_target (ap first (h.cut ∙ ap (λ x. x ++ h.right) h.front.cut ∙ append_assoc h.front.left h.front.right h.right)) ∙ begins_first begins_target IsTarget h.front.left (h.front.right ++ h.right) h.front.value begins-IsTarget h.front.front

module _ (E : Reader Ast) (I : Reader FromItem) (n : ℕ) (expr_law : Reads n IsExpr more_expr E) (item_law : Reads n IsItem more_item I) where
  reads_condition : Reads n MaybeWhere more_select (condition E)
  unfolding condition
  reads_condition = reads_by MaybeWhere WhereBy more_select n (where_by E) into_where where_shape each
    where
      each : (c : Class) → Reads n (WhereBy c) more_select (where_by E c)
      each k.Where = reads_expect k.Where (IsThen IsExpr (λ a. IsPure (Some a))) more_select n (E >>= (λ a. pure (Some a))) (some_last IsExpr Some some-IsExpr) (reads_last IsExpr more_expr more_select n E Some expr_select expr_law)
      each _ = reads_pure_in None more_select n

  pub reads_select : Reads (suc n) IsSelect more_select (select_from E I)
  unfolding select_from
  reads_select =
      same_language SelectLike IsSelect more_select more_select (suc n) (select_from E I) into_select of_select (within_self more_select)
      (reads_enter k.Select (IsThen (MaybeWord k.Distinct) TargetsPart) more_select n (eat k.Distinct >>= (λ d. listed (target_of E) >>= (λ targets. expect k.From >> (listed I >>= (λ items. condition E >>= (λ c. pure (select_of d targets items c)))))))
      (some_then (MaybeWord k.Distinct) TargetsPart (some_maybe k.Distinct) some_targets_part)
      (reads_then (MaybeWord k.Distinct) TargetsPart (is k.Distinct) more_select n (eat k.Distinct) (λ d. listed (target_of E) >>= (λ targets. expect k.From >> (listed I >>= (λ items. condition E >>= (λ c. pure (select_of d targets items c))))))
      (starts_begun begins_target (is k.Distinct) more_select TargetsPart begins_targets distinct_out) some_targets_part (reads_eat k.Distinct distinct_token n)
      (λ d. reads_closed (Listed IsTarget) k.From (ItemsPart d) more_targets more_select n (listed (target_of E)) (λ targets. listed I >>= (λ items. condition E >>= (λ c. pure (select_of d targets items c)))) from_out (some_items_part d) (reads_listed IsTarget more_target n (target_of E) refl some-IsTarget (reads_target E n expr_law))
      (λ targets. reads_then (Listed IsItem) (CondPart d targets) more_items more_select n (listed I) (λ items. condition E >>= (λ c. pure (select_of d targets items c)))
      (starts_then more_items more_select more_select (λ items. MaybeWhere) (λ items c. IsPure (select_of d targets items c)) starts_where (λ items. starts_pure more_select (λ c. select_of d targets items c))) (some_cond d targets) (reads_listed IsItem more_item n I refl some-IsItem item_law)
      (λ items. reads_last MaybeWhere more_select more_select n (condition E) (λ c. select_of d targets items c) (within_self more_select) reads_condition)))))
