-- Whether an expression names nothing but some relations, at each constructor.
use Rattle.std.proofs.Common.{◌≡◌, ◌∙◌, ap, sym, subst, refl, ℕ, Bool, true, false, List, [], ◌∷◌, ◌++◌, map, ◌+◌, ◌<◌, length, get_or, take}
use Rattle.std.specs.List.{list_all}
use Rattle.std.specs.Borrow.{Bor}
use Rattle.std.proofs.lemmas.Bool.{and_parts}
use Rattle.std.proofs.lemmas.List.{take_more}
use Rattle.std.specs.Prelude.{Option, Some, None, ◌&&◌}
use Rattle.jp_base.specs.declared.values.Ty.{Ty}
use Rattle.jp_base.specs.declared.values.Value.{Value}
use Rattle.jp_query.specs.declared.CmpOp.{CmpOp}
use Rattle.jp_query.specs.declared.IsTest.{IsTest}
use Rattle.jp_query.specs.declared.Query.{Query}
use Rattle.jp_query.specs.declared.Expr.TheVariants as expr
use Rattle.jp_query.specs.declared.Expr.TheOpen.{Expr-F}
use Rattle.jp_query.specs.declared.Expr.{Expr}
use Rattle.jp_query.specs.Parts.{all_in, term_part, arm_parts, option_part, parts, ColumnRef, node_column, node_placeholder}
use Rattle.jp_query.specs.declared.JoinTree.{JoinTree}
use Rattle.jp_query.specs.declared.Order.{Order}
use Rattle.jp_query.specs.declared.Output.{Output}
use Rattle.jp_query.specs.declared.Expr.TheViews.{roll-Expr}
use Rattle.jp_query.specs.declared.Expr.TheFolds.{map-Expr, fold-roll-Expr}
use Rattle.jp_query.specs.Layers.{ExprLayer}
use Rattle.jp_query.specs.Meaning.{has}
use Rattle.jp_problem.specs.Sets.{is_within}
use Rattle.jp_induction.proofs.EachPart.{Each, parts_map, append_map, each_append, each_in_parts, each_map}
use Rattle.jp_induction.proofs.Induction.{expr_alone}
use Rattle.jp_tree.specs.BlockParts.{column_level, placeholder_level, own_columns, own_placeholders}
use Rattle.jp_outputs.specs.Exprs.{lent_exprs}
use Rattle.jp_outputs.specs.Within.{all_hold, level_within, names_within, node_within}

and_true : (b : Bool) → (b && true) ≡ b
and_true true = refl
and_true false = refl

and_assoc : (a b c : Bool) → ((a && b) && c) ≡ (a && (b && c))
and_assoc true b c = refl
and_assoc false b c = refl

-- ---- at one level

abbrev level : ℕ → ExprLayer → Expr-F Bool (Unit {0}) (Unit {0}) (Unit {0}) (Unit {0})
level set = map-Expr Expr JoinTree Order Output Query Bool (Unit {0}) (Unit {0}) (Unit {0}) (Unit {0}) (names_within set) (λ t. tt) (λ o. tt) (λ u. tt) (λ q. tt)

here_same : (set : ℕ) (x : ExprLayer) → node_within set (level set x) ≡ node_within set x
here_same set (Expr-F.Col rel col ty nulled) = refl
here_same set (Expr-F.Place inner rels) = refl
here_same set x = refl

pub names_at : (set : ℕ) (x : ExprLayer) → names_within set (roll-Expr x) ≡ (node_within set x && all_hold (map (names_within set) (parts x)))
unfolding names_within
names_at set x =
    fold-roll-Expr Bool (Unit {0}) (Unit {0}) (Unit {0}) (Unit {0}) (level_within set) (λ t. tt) (λ o. tt) (λ u. tt) (λ q. tt) x
    ∙ ap (λ b. b && all_hold (parts (level set x))) (here_same set x)
    ∙ ap (λ bs. node_within set x && all_hold bs) (parts_map (names_within set) (λ t. tt) (λ o. tt) (λ u. tt) (λ q. tt) x)

pub names-Col : (set : ℕ) (rel col : ℕ) (ty : Ty) (nulled : ℕ) → names_within set (expr.Col rel col ty nulled) ≡ has set rel
names-Col set rel col ty nulled = ap (names_within set) (sym (expr.rolls-Col rel col ty nulled)) ∙ names_at set (Expr-F.Col rel col ty nulled) ∙ and_true (has set rel)

pub names-Lit : (set : ℕ) (v : Value) (ty : Ty) → names_within set (expr.Lit v ty) ≡ true
names-Lit set v ty = ap (names_within set) (sym (expr.rolls-Lit v ty)) ∙ names_at set (Expr-F.Lit v ty)

pub names-Place : (set : ℕ) (inner : Expr) (rels : ℕ) → names_within set (expr.Place inner rels) ≡ (is_within rels set && names_within set inner)
names-Place set inner rels = ap (names_within set) (sym (expr.rolls-Place inner rels)) ∙ names_at set (Expr-F.Place inner rels) ∙ ap (λ b. is_within rels set && b) (and_true (names_within set inner))

pub names-Neg : (set : ℕ) (e : Expr) → names_within set (expr.Neg e) ≡ names_within set e
names-Neg set e = ap (names_within set) (sym (expr.rolls-Neg e)) ∙ names_at set (Expr-F.Neg e) ∙ and_true (names_within set e)

pub names-Sum : (set : ℕ) (terms : List (Bool × Expr)) → names_within set (expr.Sum terms) ≡ all_hold (map (names_within set) (map term_part terms))
names-Sum set terms = ap (names_within set) (sym (expr.rolls-Sum terms)) ∙ names_at set (Expr-F.Sum terms)

pub names-Product : (set : ℕ) (es : List Expr) → names_within set (expr.Product es) ≡ all_hold (map (names_within set) es)
names-Product set es = ap (names_within set) (sym (expr.rolls-Product es)) ∙ names_at set (Expr-F.Product es)

pub names-Concat : (set : ℕ) (es : List Expr) → names_within set (expr.Concat es) ≡ all_hold (map (names_within set) es)
names-Concat set es = ap (names_within set) (sym (expr.rolls-Concat es)) ∙ names_at set (Expr-F.Concat es)

pub names-Compare : (set : ℕ) (op : CmpOp) (a b : Expr) → names_within set (expr.Compare op a b) ≡ (names_within set a && names_within set b)
names-Compare set op a b = ap (names_within set) (sym (expr.rolls-Compare op a b)) ∙ names_at set (Expr-F.Compare op a b) ∙ ap (λ x. names_within set a && x) (and_true (names_within set b))

pub names-Between : (set : ℕ) (a b c : Expr) → names_within set (expr.Between a b c) ≡ (names_within set a && (names_within set b && names_within set c))
names-Between set a b c = ap (names_within set) (sym (expr.rolls-Between a b c)) ∙ names_at set (Expr-F.Between a b c) ∙ ap (λ x. names_within set a && (names_within set b && x)) (and_true (names_within set c))

pub names-InList : (set : ℕ) (e : Expr) (es : List Expr) → names_within set (expr.InList e es) ≡ (names_within set e && all_hold (map (names_within set) es))
names-InList set e es = ap (names_within set) (sym (expr.rolls-InList e es)) ∙ names_at set (Expr-F.InList e es)

pub names-And : (set : ℕ) (es : List Expr) → names_within set (expr.And es) ≡ all_hold (map (names_within set) es)
names-And set es = ap (names_within set) (sym (expr.rolls-And es)) ∙ names_at set (Expr-F.And es)

pub names-Or : (set : ℕ) (es : List Expr) → names_within set (expr.Or es) ≡ all_hold (map (names_within set) es)
names-Or set es = ap (names_within set) (sym (expr.rolls-Or es)) ∙ names_at set (Expr-F.Or es)

pub names-Not : (set : ℕ) (e : Expr) → names_within set (expr.Not e) ≡ names_within set e
names-Not set e = ap (names_within set) (sym (expr.rolls-Not e)) ∙ names_at set (Expr-F.Not e) ∙ and_true (names_within set e)

pub names-Test : (set : ℕ) (test : IsTest) (e : Expr) → names_within set (expr.Test test e) ≡ names_within set e
names-Test set test e = ap (names_within set) (sym (expr.rolls-Test test e)) ∙ names_at set (Expr-F.Test test e) ∙ and_true (names_within set e)

pub names-Coalesce : (set : ℕ) (es : List Expr) → names_within set (expr.Coalesce es) ≡ all_hold (map (names_within set) es)
names-Coalesce set es = ap (names_within set) (sym (expr.rolls-Coalesce es)) ∙ names_at set (Expr-F.Coalesce es)

pub names-Exists : (set : ℕ) (sub : ℕ) (q : Query) → names_within set (expr.Exists sub q) ≡ true
names-Exists set sub q = ap (names_within set) (sym (expr.rolls-Exists sub q)) ∙ names_at set (Expr-F.Exists sub q)

pub names-InSub : (set : ℕ) (sub : ℕ) (e : Expr) (q : Query) → names_within set (expr.InSub sub e q) ≡ names_within set e
names-InSub set sub e q = ap (names_within set) (sym (expr.rolls-InSub sub e q)) ∙ names_at set (Expr-F.InSub sub e q) ∙ and_true (names_within set e)

abbrev pub of_option : ℕ → Option Expr → Bool
of_option set (Some e) = names_within set e
of_option set None = true

option_names : (set : ℕ) (o : Option Expr) (rest : Bool) (more : List Expr) → all_hold (map (names_within set) more) ≡ rest → all_hold (map (names_within set) (option_part o ++ more)) ≡ (of_option set o && rest)
option_names set (Some e) rest more is = ap (λ b. names_within set e && b) is
option_names set None rest more is = is

alone : (set : ℕ) (o : Option Expr) → all_hold (map (names_within set) (option_part o)) ≡ of_option set o
alone set (Some e) = and_true (names_within set e)
alone set None = refl

both_lists : (set : ℕ) (xs ys : List Expr) → all_hold (map (names_within set) (xs ++ ys)) ≡ (all_hold (map (names_within set) xs) && all_hold (map (names_within set) ys))
both_lists set [] ys = refl
both_lists set (x ∷ xs) ys = ap (λ b. names_within set x && b) (both_lists set xs ys) ∙ sym (and_assoc (names_within set x) (all_hold (map (names_within set) xs)) (all_hold (map (names_within set) ys)))

pub names-Case : (set : ℕ) (operand : Option Expr) (arms : List (Expr × Expr)) (otherwise : Option Expr) → names_within set (expr.Case operand arms otherwise) ≡ (of_option set operand && (all_hold (map (names_within set) (arm_parts arms)) && of_option set otherwise))
names-Case set operand arms otherwise = ap (names_within set) (sym (expr.rolls-Case operand arms otherwise)) ∙ names_at set (Expr-F.Case operand arms otherwise)
    ∙ option_names set operand (all_hold (map (names_within set) (arm_parts arms)) && of_option set otherwise) (arm_parts arms ++ option_part otherwise)
    (both_lists set (arm_parts arms) (option_part otherwise) ∙ ap (λ b. all_hold (map (names_within set) (arm_parts arms)) && b) (alone set otherwise))

-- ---- one after the other

pub in_list_more : (set : ℕ) (es : List Expr) (i : ℕ) (e : Expr) → i < length es → e ≡ get_or es i e → all_hold (map (names_within set) (take (i + 1) es)) ≡ (all_hold (map (names_within set) (take i es)) && names_within set e)
in_list_more set es i e h is = ap (λ xs. all_hold (map (names_within set) xs)) (take_more es i e h) ∙ both_lists set (take i es) (get_or es i e ∷ [])
    ∙ ap (λ b. all_hold (map (names_within set) (take i es)) && b) (and_true (names_within set (get_or es i e)) ∙ ap (names_within set) (sym is))

pub in_terms_more : (set : ℕ) (ts : List (Bool × Expr)) (i : ℕ) (t : Bool × Expr) → i < length ts → t ≡ get_or ts i t
    → all_hold (map (names_within set) (map term_part (take (i + 1) ts))) ≡ (all_hold (map (names_within set) (map term_part (take i ts))) && names_within set t.1)
in_terms_more set ts i t h is = ap (λ xs. all_hold (map (names_within set) (map term_part xs))) (take_more ts i t h)
    ∙ ap (λ es. all_hold (map (names_within set) es)) (append_map term_part (take i ts) (get_or ts i t ∷ []))
    ∙ both_lists set (map term_part (take i ts)) ((get_or ts i t).1 ∷ [])
    ∙ ap (λ b. all_hold (map (names_within set) (map term_part (take i ts))) && b) (and_true (names_within set (get_or ts i t).1) ∙ ap (λ (u : Bool × Expr). names_within set u.1) (sym is))

arms_both : (xs ys : List (Expr × Expr)) → arm_parts (xs ++ ys) ≡ arm_parts xs ++ arm_parts ys
arms_both [] ys = refl
arms_both (x ∷ xs) ys = ap (λ es. x.0 ∷ x.1 ∷ es) (arms_both xs ys)

pub in_arms_more : (set : ℕ) (as' : List (Expr × Expr)) (i : ℕ) (a : Expr × Expr) → i < length as' → a ≡ get_or as' i a
    → all_hold (map (names_within set) (arm_parts (take (i + 1) as'))) ≡ (all_hold (map (names_within set) (arm_parts (take i as'))) && (names_within set a.0 && names_within set a.1))
in_arms_more set as' i a h is = ap (λ xs. all_hold (map (names_within set) (arm_parts xs))) (take_more as' i a h) ∙ ap (λ es. all_hold (map (names_within set) es)) (arms_both (take i as') (get_or as' i a ∷ []))
    ∙ both_lists set (arm_parts (take i as')) ((get_or as' i a).0 ∷ (get_or as' i a).1 ∷ [])
    ∙ ap (λ b. all_hold (map (names_within set) (arm_parts (take i as'))) && b)
    (ap (λ b. names_within set (get_or as' i a).0 && b) (and_true (names_within set (get_or as' i a).1)) ∙ ap (λ (b : Expr × Expr). names_within set b.0 && names_within set b.1) (sym is))

pub in_lent_more : (set : ℕ) (es : List (Bor Expr)) (i : ℕ) (e : Bor Expr) → i < length es → e ≡ get_or es i e → list_all (names_within set) (lent_exprs (take (i + 1) es)) ≡ (list_all (names_within set) (lent_exprs (take i es)) && names_within set e.now)
in_lent_more set es i e h is = ap (λ xs. list_all (names_within set) (lent_exprs xs)) (take_more es i e h) ∙ one_more (take i es) (get_or es i e)
    ∙ ap (λ (x : Bor Expr). list_all (names_within set) (lent_exprs (take i es)) && names_within set x.now) (sym is)
  where
    one_more : (xs : List (Bor Expr)) (x : Bor Expr) → list_all (names_within set) (lent_exprs (xs ++ x ∷ [])) ≡ (list_all (names_within set) (lent_exprs xs) && names_within set x.now)
    one_more [] x = and_true (names_within set x.now)
    one_more (y ∷ xs) x = ap (λ b. names_within set y.now && b) (one_more xs x) ∙ sym (and_assoc (names_within set y.now) (list_all (names_within set) (lent_exprs xs)) (names_within set x.now))

-- ---- what it says

abbrev IsRelation : ℕ → ColumnRef → Type 0
IsRelation set c = has set c.relation ≡ true

abbrev IsInside : ℕ → ℕ → Type 0
IsInside set rels = is_within rels set ≡ true

applied : {A : Type 0} (C D : A → Type 0) (xs : List A) → Each (λ x. C x → D x) xs → Each C xs → Each D xs
applied C D [] f h = tt
applied C D (x ∷ xs) f h = (f.0 h.0, applied C D xs f.1 h.1)

each_holds : (f : Expr → Bool) (es : List Expr) → all_hold (map f es) ≡ true → Each (λ e. f e ≡ true) es
each_holds f [] h = tt
each_holds f (e ∷ es) h = let both = and_parts (f e) (all_hold (map f es)) h in (both.0, each_holds f es both.1)

node_columns : (set : ℕ) (x : ExprLayer) → node_within set x ≡ true → Each (IsRelation set) (node_column x)
node_columns set (Expr-F.Col rel col ty nulled) h = (h, tt)
node_columns set x h = tt

node_places : (set : ℕ) (x : ExprLayer) → node_within set x ≡ true → Each (IsInside set) (node_placeholder x)
node_places set (Expr-F.Place inner rels) h = (h, tt)
node_places set x h = tt

place_same : {A B C D F A' B' C' D' F' : Type 0} (a : A → A') (b : B → B') (c : C → C') (d : D → D') (q : F → F') (x : Expr-F A B C D F) → node_placeholder (map-Expr A B C D F A' B' C' D' F' a b c d q x) ≡ node_placeholder x
place_same a b c d q (Expr-F.Place inner rels) = refl
place_same a b c d q x = refl

column_same : {A B C D F A' B' C' D' F' : Type 0} (a : A → A') (b : B → B') (c : C → C') (d : D → D') (q : F → F') (x : Expr-F A B C D F) → node_column (map-Expr A B C D F A' B' C' D' F' a b c d q x) ≡ node_column x
column_same a b c d q (Expr-F.Col rel col ty nulled) = refl
column_same a b c d q x = refl

pub own_columns_within : (set : ℕ) (e : Expr) → names_within set e ≡ true → Each (λ (c : ColumnRef). has set c.relation ≡ true) (own_columns e)
own_columns_within set = expr_alone (λ e. names_within set e ≡ true → Each (IsRelation set) (own_columns e)) step
  where
    step : (x : ExprLayer) → Each (λ e. names_within set e ≡ true → Each (IsRelation set) (own_columns e)) (parts x) → names_within set (roll-Expr x) ≡ true → Each (IsRelation set) (own_columns (roll-Expr x))
    step x each h =
        let y = map-Expr Expr JoinTree Order Output Query (List ColumnRef) (Unit {0}) (Unit {0}) (Unit {0}) (Unit {0}) own_columns (λ t. tt) (λ o. tt) (λ u. tt) (λ q. tt) x in
        let both = and_parts (node_within set x) (all_hold (map (names_within set) (parts x))) (sym (names_at set x) ∙ h) in
        let here = subst (Each (IsRelation set)) (sym (column_same own_columns (λ t. tt) (λ o. tt) (λ u. tt) (λ q. tt) x)) (node_columns set x both.0) in
        let inner = applied (λ e. names_within set e ≡ true) (λ e. Each (IsRelation set) (own_columns e)) (parts x) each (each_holds (names_within set) (parts x) both.1) in
        subst (Each (IsRelation set)) (sym (fold-roll-Expr (List ColumnRef) (Unit {0}) (Unit {0}) (Unit {0}) (Unit {0}) column_level (λ t. tt) (λ o. tt) (λ u. tt) (λ q. tt) x))
        (each_append (IsRelation set) (node_column y) (all_in (parts y)) here
        (each_in_parts (IsRelation set) (parts y) (subst (Each (Each (IsRelation set))) (sym (parts_map own_columns (λ t. tt) (λ o. tt) (λ u. tt) (λ q. tt) x)) (each_map (Each (IsRelation set)) own_columns (parts x) inner))))

pub own_placeholders_within : (set : ℕ) (e : Expr) → names_within set e ≡ true → Each (λ rels. is_within rels set ≡ true) (own_placeholders e)
own_placeholders_within set = expr_alone (λ e. names_within set e ≡ true → Each (IsInside set) (own_placeholders e)) step
  where
    step : (x : ExprLayer) → Each (λ e. names_within set e ≡ true → Each (IsInside set) (own_placeholders e)) (parts x) → names_within set (roll-Expr x) ≡ true → Each (IsInside set) (own_placeholders (roll-Expr x))
    step x each h =
        let y = map-Expr Expr JoinTree Order Output Query (List ℕ) (Unit {0}) (Unit {0}) (Unit {0}) (Unit {0}) own_placeholders (λ t. tt) (λ o. tt) (λ u. tt) (λ q. tt) x in
        let both = and_parts (node_within set x) (all_hold (map (names_within set) (parts x))) (sym (names_at set x) ∙ h) in
        let here = subst (Each (IsInside set)) (sym (place_same own_placeholders (λ t. tt) (λ o. tt) (λ u. tt) (λ q. tt) x)) (node_places set x both.0) in
        let inner = applied (λ e. names_within set e ≡ true) (λ e. Each (IsInside set) (own_placeholders e)) (parts x) each (each_holds (names_within set) (parts x) both.1) in
        subst (Each (IsInside set)) (sym (fold-roll-Expr (List ℕ) (Unit {0}) (Unit {0}) (Unit {0}) (Unit {0}) placeholder_level (λ t. tt) (λ o. tt) (λ u. tt) (λ q. tt) x))
        (each_append (IsInside set) (node_placeholder y) (all_in (parts y)) here
        (each_in_parts (IsInside set) (parts y) (subst (Each (Each (IsInside set))) (sym (parts_map own_placeholders (λ t. tt) (λ o. tt) (λ u. tt) (λ q. tt) x)) (each_map (Each (IsInside set)) own_placeholders (parts x) inner))))

pub ruleset equations = (names-Col, names-Lit, names-Place, names-Neg, names-Sum, names-Product, names-Concat, names-Compare, names-Between, names-InList, names-And, names-Or, names-Not, names-Test, names-Coalesce, names-Exists, names-InSub, names-Case)
