-- The conjuncts of an expression hold where it is true, and none is an AND.
use Rattle.std.proofs.Common.{◌≡◌, ◌∙◌, ap, ap₂, sym, subst, refl, ℕ, inl, inr, Bool, true, false, List, [], ◌∷◌, ◌++◌, map, fold, arith}
use Rattle.std.specs.Prelude.{◌&&◌, All}
use Rattle.std.specs.List.{list_all}
use Rattle.std.proofs.lemmas.List.Elements.{All-cons}
use Rattle.std.proofs.Math.Bool.{and-true}
use Rattle.jp_base.specs.declared.truth.Truth.{Truth}
use Rattle.jp_base.specs.declared.truth.Truth.TheVariants.{True, False, Unknown}
use Rattle.jp_base.specs.Truth.{and_of}
use Rattle.jp_query.specs.declared.Expr.{Expr}
use Rattle.jp_query.specs.declared.JoinTree.{JoinTree}
use Rattle.jp_query.specs.declared.Order.{Order}
use Rattle.jp_query.specs.declared.Output.{Output}
use Rattle.jp_query.specs.declared.Query.{Query}
use Rattle.jp_query.specs.declared.Expr.TheOpen.{Expr-F}
use Rattle.jp_query.specs.declared.Expr.TheViews.{roll-Expr, out-roll-Expr}
use Rattle.jp_query.specs.declared.Expr.TheFolds.{fold-Expr, map-Expr, ind-Expr, fold-roll-Expr, para-JoinTree, para-Order, para-Output, para-Query, para-roll-Expr}
use Rattle.jp_query.specs.Conjuncts.{expr_conjuncts, conjuncts, conjuncts_of_all, is_and, IsNoAnd}
use Rattle.jp_query.specs.Meaning.{Row, Env, ValueIn, Tuples, SortKey, RowsIn, SublinkRows, in_place, given, no_tables, truth_at, is_true_at, holds, expr_value, tree_tuples, order_key, output_value, query_rows, value_of, value_given}
use Rattle.jp_query.specs.Operators.{value_of_truth, truth_of_value, is_true, all_of}
use Rattle.jp_query.specs.Parts.{all_in}
use Rattle.jp_query.specs.Subexpressions.{Exprs, exprs_beside}
use Rattle.jp_facts.proofs.Members.{In, from_append}
use Rattle.jp_laws.proofs.LevelLaws.{values_go}

abbrev Plain : Type 0
Plain = Expr-F Expr JoinTree Order Output Query

abbrev of_tree : JoinTree → Unit {0}
of_tree = para-JoinTree Exprs (Unit {0}) (Unit {0}) (Unit {0}) (Unit {0}) expr_conjuncts (λ t. tt) (λ o. tt) (λ u. tt) (λ q. tt)

abbrev of_order : Order → Unit {0}
of_order = para-Order Exprs (Unit {0}) (Unit {0}) (Unit {0}) (Unit {0}) expr_conjuncts (λ t. tt) (λ o. tt) (λ u. tt) (λ q. tt)

abbrev of_output : Output → Unit {0}
of_output = para-Output Exprs (Unit {0}) (Unit {0}) (Unit {0}) (Unit {0}) expr_conjuncts (λ t. tt) (λ o. tt) (λ u. tt) (λ q. tt)

abbrev of_query : Query → Unit {0}
of_query = para-Query Exprs (Unit {0}) (Unit {0}) (Unit {0}) (Unit {0}) expr_conjuncts (λ t. tt) (λ o. tt) (λ u. tt) (λ q. tt)

abbrev beside : Plain → Expr-F (Expr × Exprs) (JoinTree × Unit {0}) (Order × Unit {0}) (Output × Unit {0}) (Query × Unit {0})
beside = map-Expr Expr JoinTree Order Output Query (Expr × Exprs) (JoinTree × Unit {0}) (Order × Unit {0}) (Output × Unit {0}) (Query × Unit {0}) (λ x. (x, conjuncts x)) (λ x. (x, of_tree x)) (λ x. (x, of_order x)) (λ x. (x, of_output x)) (λ x. (x, of_query x))

conjuncts_at : (x : Plain) → conjuncts (roll-Expr x) ≡ expr_conjuncts (beside x)
conjuncts_at = para-roll-Expr Exprs (Unit {0}) (Unit {0}) (Unit {0}) (Unit {0}) expr_conjuncts (λ t. tt) (λ o. tt) (λ u. tt) (λ q. tt)

true_false : true ≡ false → ⊥
true_false h = cc

-- what is no AND is its one conjunct
alone : (x : Plain) → is_and x ≡ false → expr_conjuncts (beside x) ≡ roll-Expr x ∷ []
alone (Expr-F.And members) h = absurd (true_false h)
alone x h = ap (λ z. roll-Expr z ∷ []) (values_go Exprs (Unit {0}) (Unit {0}) (Unit {0}) (Unit {0}) conjuncts of_tree of_order of_output of_query x)

-- ---- truth

and_true_of : (a b : Truth) → is_true (and_of a b) ≡ (is_true a && is_true b)
and_true_of True True = refl
and_true_of True False = refl
and_true_of True Unknown = refl
and_true_of False True = refl
and_true_of False False = refl
and_true_of False Unknown = refl
and_true_of Unknown True = refl
and_true_of Unknown False = refl
and_true_of Unknown Unknown = refl

truth_back : (t : Truth) → truth_of_value (value_of_truth t) ≡ t
truth_back True = refl
truth_back False = refl
truth_back Unknown = refl

and_assoc : (a b c : Bool) → ((a && b) && c) ≡ (a && (b && c))
and_assoc true b c = refl
and_assoc false b c = refl

pub all_from : (t : Truth) (ts : List Truth) → is_true (fold and_of t ts) ≡ (is_true t && list_all is_true ts)
all_from t [] = sym (and-true (is_true t))
all_from t (u ∷ ts) = all_from (and_of t u) ts ∙ ap (λ b. b && list_all is_true ts) (and_true_of t u) ∙ and_assoc (is_true t) (is_true u) (list_all is_true ts)

module _ (subs : SublinkRows) (tables : ℕ → List Row) where
  abbrev value : Expr → ValueIn
  value = fold-Expr ValueIn Tuples SortKey ValueIn RowsIn (expr_value subs) (tree_tuples tables) order_key output_value query_rows

  abbrev Good : Expr → Type 0
  Good x = (env : Env) → holds (map value (conjuncts x)) env ≡ is_true_at env (value x)

  holds_both : (env : Env) (xs ys : List Expr) → holds (map value (xs ++ ys)) env ≡ (holds (map value xs) env && holds (map value ys) env)
  holds_both env [] ys = refl
  holds_both env (x ∷ xs) ys = ap (λ b. is_true_at env (value x) && b) (holds_both env xs ys) ∙ sym (and_assoc (is_true_at env (value x)) (holds (map value xs) env) (holds (map value ys) env))

  abbrev E : Type 0
  E = (x : Expr) × Good x

  abbrev exprs : List E → List Expr
  exprs = map (λ (y : E). y.0)

  abbrev conjuncts_of : List Expr → Exprs
  conjuncts_of xs = all_in (map exprs_beside (map (λ (x : Expr). (x, conjuncts x)) xs))

  members_hold : (env : Env) (ys : List E) → holds (map value (conjuncts_of (exprs ys))) env ≡ list_all is_true (map (truth_at env) (map value (exprs ys)))
  members_hold env [] = refl
  members_hold env (y ∷ ys) = holds_both env (conjuncts y.0) (conjuncts_of (exprs ys)) ∙ ap₂ ◌&&◌ (y.1 env) (members_hold env ys)

  abbrev Node : Type 0
  Node = Expr-F E (JoinTree × Unit {0}) (Order × Unit {0}) (Output × Unit {0}) (Query × Unit {0})

  abbrev bare : Node → Plain
  bare = map-Expr E (JoinTree × Unit {0}) (Order × Unit {0}) (Output × Unit {0}) (Query × Unit {0}) Expr JoinTree Order Output Query (λ x. x.0) (λ x. x.0) (λ x. x.0) (λ x. x.0) (λ x. x.0)

  and_holds : (env : Env) (ys : List E) → holds (map value (conjuncts_of (exprs ys))) env ≡ is_true_at env (value (roll-Expr (Expr-F.And (exprs ys))))
  and_holds env ys =
      members_hold env ys
      ∙ sym (all_from True (map (truth_at env) (map value (exprs ys))))
      ∙ sym (ap is_true (truth_back (all_of (map (truth_at env) (map value (exprs ys))))))
      ∙ sym (ap (is_true_at env) (fold-roll-Expr ValueIn Tuples SortKey ValueIn RowsIn (expr_value subs) (tree_tuples tables) order_key output_value query_rows (Expr-F.And (exprs ys))))

  alone_holds : (env : Env) (x : Plain) → is_and x ≡ false → holds (map value (expr_conjuncts (beside x))) env ≡ is_true_at env (value (roll-Expr x))
  alone_holds env x h = ap (λ es. holds (map value es) env) (alone x h) ∙ and-true (is_true_at env (value (roll-Expr x)))

  good_at : (env : Env) (y : Node) → holds (map value (expr_conjuncts (beside (bare y)))) env ≡ is_true_at env (value (roll-Expr (bare y)))
  good_at env (Expr-F.And ys) = and_holds env ys
  good_at env y = alone_holds env (bare y) refl

  step : (y : Node) → Good (roll-Expr (bare y))
  step y env = ap (λ es. holds (map value es) env) (conjuncts_at (bare y)) ∙ good_at env y

  pub good : (x : Expr) → Good x
  good = ind-Expr Good (λ t. Unit {0}) (λ o. Unit {0}) (λ u. Unit {0}) (λ q. Unit {0})
      (λ x y e. subst (λ z. Good (roll-Expr z)) e (step y))
      (λ x y e. tt) (λ x y e. tt) (λ x y e. tt) (λ x y e. tt)

  pub list_good : (conds : List Expr) (env : Env) → holds (map value (conjuncts_of_all conds)) env ≡ holds (map value conds) env
  list_good [] env = refl
  list_good (c ∷ conds) env = holds_both env (conjuncts c) (conjuncts_of_all conds) ∙ ap₂ ◌&&◌ (good c env) (list_good conds env)

pub conjuncts_hold : (tables : ℕ → List Row) (expr : Expr) (env : Env) → holds (map (value_of tables) (conjuncts expr)) env ≡ is_true_at env (value_of tables expr)
conjuncts_hold tables = good in_place tables

pub conjuncts_hold_given : (rows : ℕ → List Row) (expr : Expr) (env : Env) → holds (map (value_given rows) (conjuncts expr)) env ≡ is_true_at env (value_given rows expr)
conjuncts_hold_given rows = good (given rows) no_tables

pub lists_hold : (tables : ℕ → List Row) (conds : List Expr) (env : Env) → holds (map (value_of tables) (conjuncts_of_all conds)) env ≡ holds (map (value_of tables) conds) env
lists_hold tables = list_good in_place tables

-- ---- no conjunct is an AND

abbrev Split : Expr → Type 0
Split x = (m : Expr) → In m (conjuncts x) → IsNoAnd m

abbrev SplitE : Type 0
SplitE = (x : Expr) × Split x

each_split : (ys : List SplitE) (m : Expr) → In m (all_in (map exprs_beside (map (λ (x : Expr). (x, conjuncts x)) (map (λ (y : SplitE). y.0) ys)))) → IsNoAnd m
each_split [] m h = absurd h
each_split (y ∷ ys) m h = elim (from_append m (conjuncts y.0) (all_in (map exprs_beside (map (λ (x : Expr). (x, conjuncts x)) (map (λ (y : SplitE). y.0) ys)))) h) [ inl p ↦ y.1 m p | inr q ↦ each_split ys m q ]

abbrev bare_split : Expr-F SplitE (JoinTree × Unit {0}) (Order × Unit {0}) (Output × Unit {0}) (Query × Unit {0}) → Plain
bare_split = map-Expr SplitE (JoinTree × Unit {0}) (Order × Unit {0}) (Output × Unit {0}) (Query × Unit {0}) Expr JoinTree Order Output Query (λ x. x.0) (λ x. x.0) (λ x. x.0) (λ x. x.0) (λ x. x.0)

alone_split : (x : Plain) → is_and x ≡ false → (m : Expr) → In m (expr_conjuncts (beside x)) → IsNoAnd m
alone_split x h m p = elim (subst (λ es. In m es) (alone x h) p) [
  | inl e ↦ subst IsNoAnd e (ap is_and (out-roll-Expr x) ∙ h)
  | inr r ↦ absurd r
]

split_at : (y : Expr-F SplitE (JoinTree × Unit {0}) (Order × Unit {0}) (Output × Unit {0}) (Query × Unit {0})) (m : Expr) → In m (expr_conjuncts (beside (bare_split y))) → IsNoAnd m
split_at (Expr-F.And ys) = each_split ys
split_at y = alone_split (bare_split y) refl

split : (x : Expr) → Split x
split = ind-Expr Split (λ t. Unit {0}) (λ o. Unit {0}) (λ u. Unit {0}) (λ q. Unit {0})
    (λ x y e. subst (λ z. Split (roll-Expr z)) e (λ m h. split_at y m (subst (λ es. In m es) (conjuncts_at (bare_split y)) h)))
    (λ x y e. tt) (λ x y e. tt) (λ x y e. tt) (λ x y e. tt)

all_of_members : (P : Expr → Type 0) (xs : List Expr) → ((m : Expr) → In m xs → P m) → All P xs
all_of_members P [] each = λ k d low. absurd (omega arith)
all_of_members P (x ∷ xs) each = All-cons P x xs (each x (inl refl)) (all_of_members P xs (λ m h. each m (inr h)))

pub none_is_and : (expr : Expr) → All IsNoAnd (conjuncts expr)
none_is_and expr = all_of_members IsNoAnd (conjuncts expr) (split expr)
