-- What a typed tree gathers from all its levels, against its references: each column's relation and each placeholder's
-- members lie below 64 and are among the references.
use Rattle.std.proofs.Common.{◌≡◌, subst, refl, ℕ, ◌^◌, ◌<◌, Bool, true, false, ◌&&◌, List, [], ◌∷◌, ◌++◌, map, Option, Some, None, is_some, IsSome, nat_lt}
use Rattle.std.specs.Prelude.{bit_or, if◌then◌else◌}
use Rattle.std.specs.List.{list_all}
use Rattle.std.proofs.lemmas.Bool.{ltb-true}
use Rattle.jp_base.specs.Sets.{Within}
use Rattle.jp_base.specs.declared.values.Ty.{Ty}
use Rattle.jp_base.specs.declared.values.Ty.TheVariants as ty
use Rattle.jp_query.specs.declared.IsTest.{IsTest}
use Rattle.jp_query.specs.declared.IsTest.TheVariants as is
use Rattle.jp_query.specs.declared.Expr.{Expr}
use Rattle.jp_query.specs.declared.JoinTree.{JoinTree}
use Rattle.jp_query.specs.declared.Order.{Order}
use Rattle.jp_query.specs.declared.Output.{Output}
use Rattle.jp_query.specs.declared.Query.{Query}
use Rattle.jp_query.specs.declared.Expr.TheOpen.{Expr-F, JoinTree-F, Query-F}
use Rattle.jp_query.specs.declared.Expr.TheViews.{roll-Expr}
use Rattle.jp_query.specs.declared.Expr.TheFolds.{fold-Order, fold-Output, map-Expr, map-JoinTree, map-Query, fold-roll-Expr, fold-roll-JoinTree, fold-roll-Order, fold-roll-Output, fold-roll-Query}
use Rattle.jp_query.specs.Parts.{ColumnRef, node_column, node_placeholder, columns_in, columns_in_query, placeholders_in_query, term_part, arm_parts, option_part, parts, sublink_query, trees, conditions, leaf_query}
use Rattle.jp_query.specs.Refs.{union, term_refs, arm_refs, maybe_refs, expr_refs, tree_refs, order_refs, output_refs, query_refs, refs_of, refs_of_tree, refs_of_query, refs_of_order, refs_of_output}
use Rattle.jp_query.specs.Scopes.{arm_result}
use Rattle.jp_query.specs.Typing.{Typed, TypedOutput, TypedQuery, is_of, typed_if, is_listed, are_all, one_type, can_test, is_one_of, are_whens, arm_when, are_conditions, is_true_test, output_is_typed, expr_type, tree_typed, order_typed, output_typed, query_typed, type_of, tree_is_typed, typed_query}
use Rattle.jp_query.specs.Layers.{ExprLayer, JoinTreeLayer, QueryLayer}
use Rattle.jp_induction.specs.HandedDown.{HandsDown}
use Rattle.jp_induction.proofs.HandedDown as handed
use Rattle.jp_laws.specs.Referred.{placeholders_in, IsReferred, AreReferred}
use Rattle.jp_laws.proofs.Agreeing.{members, has_only}
use Rattle.jp_base.proofs.MaskAlgebra.{left_within, right_within, EachWithin}
use Rattle.jp_laws.proofs.ValueLaws.{and_left, and_right}
use Rattle.jp_laws.proofs.GatheredParts as gather
use Rattle.jp_laws.proofs.EachPart.{Each, each_true, each_left, each_right, each_append, each_weaker, parts_map, sublink_map, trees_map, conditions_map, leaf_map}

-- ---- the children of a typed level are typed

abbrev pub IsTypedInner : TypedQuery → Type 0
IsTypedInner q = q.is_typed ≡ true

pub when_some : (b : Bool) (t : Ty) → IsSome (typed_if b t) → b ≡ true
when_some true t h = refl
when_some false t h = cc

pub of_is_some : (t : Ty) (o : Typed) → is_of t o ≡ true → IsSome o
of_is_some t (Some u) h = refl
of_is_some t None h = cc

all_of_some : (t : Ty) (types : List Typed) → list_all (is_of t) types ≡ true → Each IsSome types
all_of_some t types h = each_weaker (λ o. is_of t o ≡ true) IsSome (of_is_some t) types (each_true (is_of t) types h)

are_all_some : (t : Ty) (types : List Typed) → are_all t types ≡ true → Each IsSome types
are_all_some t types h = all_of_some t types (and_right (is_listed types) (list_all (is_of t) types) h)

one_some : (types : List Typed) → IsSome (one_type types) → Each IsSome types
one_some [] h = tt
one_some (None ∷ types) h = cc
one_some (Some t ∷ types) h = (refl, all_of_some t types (when_some (list_all (is_of t) types) t h))

test_some : (test : IsTest) (o : Typed) → can_test test o ≡ true → IsSome o
test_some is.Null o h = h
test_some is.NotNull o h = h
test_some is.True o h = of_is_some ty.Boolean o h
test_some is.NotTrue o h = of_is_some ty.Boolean o h
test_some is.False o h = of_is_some ty.Boolean o h
test_some is.NotFalse o h = of_is_some ty.Boolean o h
test_some is.Unknown o h = of_is_some ty.Boolean o h
test_some is.NotUnknown o h = of_is_some ty.Boolean o h

one_of_some : (o : Typed) (outputs : List Ty) → is_one_of o outputs ≡ true → IsSome o
one_of_some o [] h = cc
one_of_some o (t ∷ []) h = of_is_some t o h
one_of_some o (t ∷ u ∷ more) h = cc

pub if_left : (b : Bool) (o : Typed) → IsSome (if b then o else None) → b ≡ true
if_left true o h = refl
if_left false o h = cc

if_right : (b : Bool) (o : Typed) → IsSome (if b then o else None) → IsSome o
if_right true o h = h
if_right false o h = cc

module _ {A : Type 0} (P : A → Type 0) where
  each_arm : (arms : List (A × A)) → Each P (map arm_when arms) → Each P (map arm_result arms) → Each P (arm_parts arms)
  each_arm [] a b = tt
  each_arm (arm ∷ arms) a b = (a.0, (b.0, each_arm arms a.1 b.1))

whens_some : (operand : Option Typed) (whens : List Typed) → are_whens operand whens ≡ true → Each IsSome (option_part operand) × Each IsSome whens
whens_some None whens h = (tt, are_all_some ty.Boolean whens h)
whens_some (Some o) whens h = let e = one_some (o ∷ whens) (and_right (is_listed whens) (is_some (one_type (o ∷ whens))) h) in ((e.0, tt), e.1)

pub parts_typed : (x : Expr-F Typed Bool Typed TypedOutput TypedQuery) → IsSome (expr_type x) → Each IsSome (parts x) × Each IsTypedInner (option_part (sublink_query x))
parts_typed (Expr-F.Col rel col t nulled) h = (tt, tt)
parts_typed (Expr-F.Lit v t) h = (tt, tt)
parts_typed (Expr-F.Place inner rels) h = ((if_right (nat_lt rels (2 ^ 64)) inner h, tt), tt)
parts_typed (Expr-F.Neg operand) h = ((of_is_some ty.Number operand (when_some (is_of ty.Number operand) ty.Number h), tt), tt)
parts_typed (Expr-F.Sum terms) h = (are_all_some ty.Number (map term_part terms) (when_some (are_all ty.Number (map term_part terms)) ty.Number h), tt)
parts_typed (Expr-F.Product factors) h = (are_all_some ty.Number factors (when_some (are_all ty.Number factors) ty.Number h), tt)
parts_typed (Expr-F.Concat pieces) h = (are_all_some ty.Text pieces (when_some (are_all ty.Text pieces) ty.Text h), tt)
parts_typed (Expr-F.Compare op left right) h = (one_some (left ∷ right ∷ []) (when_some (is_some (one_type (left ∷ right ∷ []))) ty.Boolean h), tt)
parts_typed (Expr-F.Between operand low high) h = (one_some (operand ∷ low ∷ high ∷ []) (when_some (is_some (one_type (operand ∷ low ∷ high ∷ []))) ty.Boolean h), tt)
parts_typed (Expr-F.InList operand list) h = (one_some (operand ∷ list) (and_right (is_listed list) (is_some (one_type (operand ∷ list))) (when_some (is_listed list && is_some (one_type (operand ∷ list))) ty.Boolean h)), tt)
parts_typed (Expr-F.And members) h = (are_all_some ty.Boolean members (when_some (are_all ty.Boolean members) ty.Boolean h), tt)
parts_typed (Expr-F.Or members) h = (are_all_some ty.Boolean members (when_some (are_all ty.Boolean members) ty.Boolean h), tt)
parts_typed (Expr-F.Not operand) h = ((of_is_some ty.Boolean operand (when_some (is_of ty.Boolean operand) ty.Boolean h), tt), tt)
parts_typed (Expr-F.Test test operand) h = ((test_some test operand (when_some (can_test test operand) ty.Boolean h), tt), tt)
parts_typed (Expr-F.Coalesce members) h = (one_some members h, tt)
parts_typed (Expr-F.Case operand arms otherwise) h =
    let results = map arm_result arms ++ option_part otherwise in
    let whens = whens_some operand (map arm_when arms) (if_left (are_whens operand (map arm_when arms)) (one_type results) h) in
    let given = one_some results (if_right (are_whens operand (map arm_when arms)) (one_type results) h) in (
      each_append IsSome (option_part operand) (arm_parts arms ++ option_part otherwise) whens.0
          (each_append IsSome (arm_parts arms) (option_part otherwise) (each_arm IsSome arms whens.1 (each_left IsSome (map arm_result arms) (option_part otherwise) given)) (each_right IsSome (map arm_result arms) (option_part otherwise) given)),
      tt,
    )
parts_typed (Expr-F.Exists sub query) h = (tt, (when_some query.is_typed ty.Boolean h, tt))
parts_typed (Expr-F.InSub sub operand query) h =
    let both = when_some (query.is_typed && is_one_of operand query.outputs) ty.Boolean h in
    ((one_of_some operand query.outputs (and_right query.is_typed (is_one_of operand query.outputs) both), tt), (and_left query.is_typed (is_one_of operand query.outputs) both, tt))

abbrev pub IsTrueTree : Bool → Type 0
IsTrueTree b = b ≡ true

conditions_some : (conds : List Typed) → are_conditions conds ≡ true → Each IsSome conds
conditions_some conds h = all_of_some ty.Boolean conds h

pub trees_typed : (t : JoinTree-F Typed Bool Typed TypedOutput TypedQuery) → tree_typed t ≡ true → Each IsTrueTree (trees t) × Each IsSome (conditions t) × Each IsTypedInner (option_part (leaf_query t))
trees_typed (JoinTree-F.Base rel name table) h = (tt, tt, tt)
trees_typed (JoinTree-F.Sub rel name query) h = (tt, tt, (and_right (nat_lt rel 64) query.is_typed h, tt))
trees_typed (JoinTree-F.Join kind left right on) h =
    let more = and_right left (right && are_conditions on) h in
    ((and_left left (right && are_conditions on) h, (and_left right (are_conditions on) more, tt)), conditions_some on (and_right right (are_conditions on) more), tt)
trees_typed (JoinTree-F.From members conds) h = (each_true is_true_test members (and_left (list_all is_true_test members) (are_conditions conds) h), conditions_some conds (and_right (list_all is_true_test members) (are_conditions conds) h), tt)

abbrev pub IsTypedColumn : TypedOutput → Type 0
IsTypedColumn u = u.is_typed ≡ true

pub record QueryParts (q : Query-F Typed Bool Typed TypedOutput TypedQuery) : Type 0 where
  pub columns : Each IsTypedColumn q.columns
  pub tree : q.tree ≡ true
  pub conds : Each IsSome q.conds
  pub order : Each IsSome q.order

pub query_parts : (q : Query-F Typed Bool Typed TypedOutput TypedQuery) → (query_typed q).is_typed ≡ true → QueryParts q
query_parts q h =
    let more = and_right (list_all output_is_typed q.columns) (q.tree && (are_conditions q.conds && list_all is_some q.order)) h in
    let rest = and_right q.tree (are_conditions q.conds && list_all is_some q.order) more in
    record {
      columns = each_true output_is_typed q.columns (and_left (list_all output_is_typed q.columns) (q.tree && (are_conditions q.conds && list_all is_some q.order)) h);
      tree = and_left q.tree (are_conditions q.conds && list_all is_some q.order) more;
      conds = conditions_some q.conds (and_left (are_conditions q.conds) (list_all is_some q.order) rest);
      order = each_true is_some q.order (and_right (are_conditions q.conds) (list_all is_some q.order) rest);
    }

-- ---- the references of a level hold those of its children

abbrev pub Inside : ℕ → ℕ → Type 0
Inside set part = Within part set

each_inside : (set : ℕ) (xs : List ℕ) → EachWithin set xs → Each (Inside set) xs
each_inside set [] h = tt
each_inside set (x ∷ xs) h = (h.0, each_inside set xs h.1)

union_parts : (set : ℕ) (xs : List ℕ) → Within (union xs) set → Each (Inside set) xs
union_parts set xs w = each_inside set xs (members set xs w)

itself : (set : ℕ) → Within set set
itself set i h = h

maybe_parts : (set : ℕ) (o : Option ℕ) → Within (maybe_refs o) set → Each (Inside set) (option_part o)
maybe_parts set None w = tt
maybe_parts set (Some n) w = (w, tt)

arms_inside : (set : ℕ) (arms : List (ℕ × ℕ)) → Each (Inside set) (map arm_refs arms) → Each (Inside set) (arm_parts arms)
arms_inside set [] h = tt
arms_inside set (arm ∷ arms) h = (left_within arm.0 arm.1 set h.0, (right_within arm.0 arm.1 set h.0, arms_inside set arms h.1))

pub parts_inside : (x : Expr-F ℕ ℕ ℕ ℕ ℕ) (set : ℕ) → Within (expr_refs x) set → Each (Inside set) (parts x) × Each (Inside set) (option_part (sublink_query x))
parts_inside (Expr-F.Col rel col t nulled) set w = (tt, tt)
parts_inside (Expr-F.Lit v t) set w = (tt, tt)
parts_inside (Expr-F.Place inner rels) set w = ((left_within inner rels set w, tt), tt)
parts_inside (Expr-F.Neg operand) set w = ((w, tt), tt)
parts_inside (Expr-F.Sum terms) set w = (union_parts set (map term_refs terms) w, tt)
parts_inside (Expr-F.Product factors) set w = (union_parts set factors w, tt)
parts_inside (Expr-F.Concat pieces) set w = (union_parts set pieces w, tt)
parts_inside (Expr-F.Compare op left right) set w = ((left_within left right set w, (right_within left right set w, tt)), tt)
parts_inside (Expr-F.Between operand low high) set w = let v = left_within (bit_or operand low) high set w in ((left_within operand low set v, (right_within operand low set v, (right_within (bit_or operand low) high set w, tt))), tt)
parts_inside (Expr-F.InList operand list) set w = ((left_within operand (union list) set w, union_parts set list (right_within operand (union list) set w)), tt)
parts_inside (Expr-F.And members) set w = (union_parts set members w, tt)
parts_inside (Expr-F.Or members) set w = (union_parts set members w, tt)
parts_inside (Expr-F.Not operand) set w = ((w, tt), tt)
parts_inside (Expr-F.Test test operand) set w = ((w, tt), tt)
parts_inside (Expr-F.Coalesce members) set w = (union_parts set members w, tt)
parts_inside (Expr-F.Case operand arms otherwise) set w =
    let v = left_within (bit_or (maybe_refs operand) (union (map arm_refs arms))) (maybe_refs otherwise) set w in (
      each_append (Inside set) (option_part operand) (arm_parts arms ++ option_part otherwise) (maybe_parts set operand (left_within (maybe_refs operand) (union (map arm_refs arms)) set v))
          (each_append (Inside set) (arm_parts arms) (option_part otherwise) (arms_inside set arms (union_parts set (map arm_refs arms) (right_within (maybe_refs operand) (union (map arm_refs arms)) set v)))
          (maybe_parts set otherwise (right_within (bit_or (maybe_refs operand) (union (map arm_refs arms))) (maybe_refs otherwise) set w))),
      tt,
    )
parts_inside (Expr-F.Exists sub query) set w = (tt, (w, tt))
parts_inside (Expr-F.InSub sub operand query) set w = ((left_within operand query set w, tt), (right_within operand query set w, tt))

pub trees_inside : (t : JoinTree-F ℕ ℕ ℕ ℕ ℕ) (set : ℕ) → Within (tree_refs t) set → Each (Inside set) (trees t) × Each (Inside set) (conditions t) × Each (Inside set) (option_part (leaf_query t))
trees_inside (JoinTree-F.Base rel name table) set w = (tt, tt, tt)
trees_inside (JoinTree-F.Sub rel name query) set w = (tt, tt, (w, tt))
trees_inside (JoinTree-F.Join kind left right on) set w =
    let v = left_within (bit_or left right) (union on) set w in
    ((left_within left right set v, (right_within left right set v, tt)), union_parts set on (right_within (bit_or left right) (union on) set w), tt)
trees_inside (JoinTree-F.From trees conds) set w = (union_parts set trees (left_within (union trees) (union conds) set w), union_parts set conds (right_within (union trees) (union conds) set w), tt)

pub record QueryInside (q : Query-F ℕ ℕ ℕ ℕ ℕ) (set : ℕ) : Type 0 where
  pub columns : Each (Inside set) q.columns
  pub tree : Within q.tree set
  pub conds : Each (Inside set) q.conds
  pub order : Each (Inside set) q.order

pub query_inside : (q : Query-F ℕ ℕ ℕ ℕ ℕ) (set : ℕ) → Within (query_refs q) set → QueryInside q set
query_inside q set w =
    let w3 = left_within (bit_or (bit_or (union q.columns) q.tree) (union q.conds)) (union q.order) set w in
    let w2 = left_within (bit_or (union q.columns) q.tree) (union q.conds) set w3 in
    record {
      columns = union_parts set q.columns (left_within (union q.columns) q.tree set w2);
      tree = right_within (union q.columns) q.tree set w2;
      conds = union_parts set q.conds (right_within (bit_or (union q.columns) q.tree) (union q.conds) set w3);
      order = union_parts set q.order (right_within (bit_or (bit_or (union q.columns) q.tree) (union q.conds)) (union q.order) set w);
    }

-- ---- the folds, on each type and on a level

abbrev pub typed_order : Order → Typed
typed_order = fold-Order Typed Bool Typed TypedOutput TypedQuery expr_type tree_typed order_typed output_typed query_typed

abbrev pub typed_output : Output → TypedOutput
typed_output = fold-Output Typed Bool Typed TypedOutput TypedQuery expr_type tree_typed order_typed output_typed query_typed

abbrev typed_expr_level : Expr-F Expr JoinTree Order Output Query → Expr-F Typed Bool Typed TypedOutput TypedQuery
typed_expr_level = map-Expr Expr JoinTree Order Output Query Typed Bool Typed TypedOutput TypedQuery type_of tree_is_typed typed_order typed_output typed_query

abbrev refs_expr_level : Expr-F Expr JoinTree Order Output Query → Expr-F ℕ ℕ ℕ ℕ ℕ
refs_expr_level = map-Expr Expr JoinTree Order Output Query ℕ ℕ ℕ ℕ ℕ refs_of refs_of_tree refs_of_order refs_of_output refs_of_query

-- ---- what is handed down: a typed part refers to relations of the set

module _ {A B : Type 0} (P : B → Type 0) (typed : A → B) (refs : A → ℕ) (set : ℕ) where
  abbrev Fine : A → Type 0
  Fine x = P (typed x) × Within (refs x) set

  both_down : (xs : List A) → Each P (map typed xs) → Each (Inside set) (map refs xs) → Each Fine xs
  both_down [] t w = tt
  both_down (x ∷ xs) t w = ((t.0, w.0), both_down xs t.1 w.1)

abbrev ExprFine : ℕ → Expr → Type 0
ExprFine = λ set. Fine IsSome type_of refs_of set

abbrev TreeFine : ℕ → JoinTree → Type 0
TreeFine = λ set. Fine IsTrueTree tree_is_typed refs_of_tree set

abbrev OrderFine : ℕ → Order → Type 0
OrderFine = λ set. Fine IsSome typed_order refs_of_order set

abbrev OutputFine : ℕ → Output → Type 0
OutputFine = λ set. Fine IsTypedColumn typed_output refs_of_output set

abbrev QueryFine : ℕ → Query → Type 0
QueryFine = λ set. Fine IsTypedInner typed_query refs_of_query set

abbrev same_set : ℕ → JoinTreeLayer → ℕ
same_set set x = set

abbrev set_above : ℕ → QueryLayer → ℕ
set_above set x = set

fine_down : HandsDown ℕ same_set set_above ExprFine TreeFine OrderFine OutputFine QueryFine
fine_down = record {
  expr = λ set x c.
      let typed = parts_typed (typed_expr_level x) (subst IsSome (fold-roll-Expr Typed Bool Typed TypedOutput TypedQuery expr_type tree_typed order_typed output_typed query_typed x) c.0) in
      let inside = parts_inside (refs_expr_level x) set (subst (λ n. Within n set) (fold-roll-Expr ℕ ℕ ℕ ℕ ℕ expr_refs tree_refs order_refs output_refs query_refs x) c.1) in (
        both_down IsSome type_of refs_of set (parts x) (subst (Each IsSome) (parts_map type_of tree_is_typed typed_order typed_output typed_query x) typed.0) (subst (Each (Inside set)) (parts_map refs_of refs_of_tree refs_of_order refs_of_output refs_of_query x) inside.0),
        both_down IsTypedInner typed_query refs_of_query set (option_part (sublink_query x)) (subst (Each IsTypedInner) (sublink_map type_of tree_is_typed typed_order typed_output typed_query x) typed.1) (subst (Each (Inside set)) (sublink_map refs_of refs_of_tree refs_of_order refs_of_output refs_of_query x) inside.1),
      );
  tree = λ set x c.
      let typed = trees_typed (map-JoinTree Expr JoinTree Order Output Query Typed Bool Typed TypedOutput TypedQuery type_of tree_is_typed typed_order typed_output typed_query x) (subst IsTrueTree (fold-roll-JoinTree Typed Bool Typed TypedOutput TypedQuery expr_type tree_typed order_typed output_typed query_typed x) c.0) in
      let inside = trees_inside (map-JoinTree Expr JoinTree Order Output Query ℕ ℕ ℕ ℕ ℕ refs_of refs_of_tree refs_of_order refs_of_output refs_of_query x) set (subst (λ n. Within n set) (fold-roll-JoinTree ℕ ℕ ℕ ℕ ℕ expr_refs tree_refs order_refs output_refs query_refs x) c.1) in (
        both_down IsTrueTree tree_is_typed refs_of_tree set (trees x) (subst (Each IsTrueTree) (trees_map type_of tree_is_typed typed_order typed_output typed_query x) typed.0) (subst (Each (Inside set)) (trees_map refs_of refs_of_tree refs_of_order refs_of_output refs_of_query x) inside.0),
        both_down IsSome type_of refs_of set (conditions x) (subst (Each IsSome) (conditions_map type_of tree_is_typed typed_order typed_output typed_query x) typed.1) (subst (Each (Inside set)) (conditions_map refs_of refs_of_tree refs_of_order refs_of_output refs_of_query x) inside.1),
        both_down IsTypedInner typed_query refs_of_query set (option_part (leaf_query x)) (subst (Each IsTypedInner) (leaf_map type_of tree_is_typed typed_order typed_output typed_query x) typed.2) (subst (Each (Inside set)) (leaf_map refs_of refs_of_tree refs_of_order refs_of_output refs_of_query x) inside.2),
      );
  order = λ set x c. (subst IsSome (fold-roll-Order Typed Bool Typed TypedOutput TypedQuery expr_type tree_typed order_typed output_typed query_typed x) c.0, subst (λ n. Within n set) (fold-roll-Order ℕ ℕ ℕ ℕ ℕ expr_refs tree_refs order_refs output_refs query_refs x) c.1);
  output = λ set x c. (of_is_some x.ty (type_of x.expr) (subst IsTypedColumn (fold-roll-Output Typed Bool Typed TypedOutput TypedQuery expr_type tree_typed order_typed output_typed query_typed x) c.0), subst (λ n. Within n set) (fold-roll-Output ℕ ℕ ℕ ℕ ℕ expr_refs tree_refs order_refs output_refs query_refs x) c.1);
  query = λ set x c.
      let typed = query_parts (map-Query Expr JoinTree Order Output Query Typed Bool Typed TypedOutput TypedQuery type_of tree_is_typed typed_order typed_output typed_query x) (subst IsTypedInner (fold-roll-Query Typed Bool Typed TypedOutput TypedQuery expr_type tree_typed order_typed output_typed query_typed x) c.0) in
      let inside = query_inside (map-Query Expr JoinTree Order Output Query ℕ ℕ ℕ ℕ ℕ refs_of refs_of_tree refs_of_order refs_of_output refs_of_query x) set (subst (λ n. Within n set) (fold-roll-Query ℕ ℕ ℕ ℕ ℕ expr_refs tree_refs order_refs output_refs query_refs x) c.1) in (
        both_down IsTypedColumn typed_output refs_of_output set x.columns typed.columns inside.columns,
        (typed.tree, inside.tree),
        both_down IsSome type_of refs_of set x.conds typed.conds inside.conds,
        both_down IsSome typed_order refs_of_order set x.order typed.order inside.order,
      );
}

-- ---- what a typed tree gathers

module _ (X : Type 0) (of_node : Expr-F (List X) (List X) (List X) (List X) (List X) → List X) (P : ℕ → X → Type 0) (node : (set : ℕ) (x : ExprLayer) → ExprFine set (roll-Expr x) → Each (P set) (of_node (gather.node_level X of_node x))) where
  abbrev PE : ℕ → Expr → Type 0
  PE set x = Each (P set) (gather.in_expr X of_node x)

  abbrev PT : ℕ → JoinTree → Type 0
  PT set x = Each (P set) (gather.in_tree X of_node x)

  abbrev PO : ℕ → Order → Type 0
  PO set x = Each (P set) (gather.in_order X of_node x)

  abbrev PU : ℕ → Output → Type 0
  PU set x = Each (P set) (gather.in_output X of_node x)

  abbrev PQ : ℕ → Query → Type 0
  PQ set x = Each (P set) (gather.in_query X of_node x)

  steps : handed.StepsUnder ℕ same_set set_above ExprFine TreeFine OrderFine OutputFine QueryFine fine_down PE PT PO PU PQ
  steps = record {
    expr = λ set x c exprs query. gather.expr_made X of_node (P set) x (record { node = node set x c; exprs = exprs; query = query });
    tree = λ set x c sides conds query. gather.tree_made X of_node (P set) x (record { sides = sides; conds = conds; query = query });
    order = λ set x c h. gather.order_made X of_node (P set) x h;
    output = λ set x c h. gather.output_made X of_node (P set) x h;
    query = λ set x c columns tree conds order. gather.query_made X of_node (P set) x (record { columns = columns; tree = tree; conds = conds; order = order });
  }

  pub expr_gathers : (x : Expr) → IsSome (type_of x) → Each (P (refs_of x)) (gather.in_expr X of_node x)
  expr_gathers x h = handed.under_expr ℕ same_set set_above ExprFine TreeFine OrderFine OutputFine QueryFine fine_down PE PT PO PU PQ steps x (refs_of x) (h, itself (refs_of x))

  pub query_gathers : (x : Query) → (typed_query x).is_typed ≡ true → Each (P (refs_of_query x)) (gather.in_query X of_node x)
  query_gathers x h = handed.under_query ℕ same_set set_above ExprFine TreeFine OrderFine OutputFine QueryFine fine_down PE PT PO PU PQ steps x (refs_of_query x) (h, itself (refs_of_query x))

-- ---- columns and placeholders

typed_here : (set : ℕ) (x : ExprLayer) → ExprFine set (roll-Expr x) → IsSome (expr_type (typed_expr_level x)) × Within (expr_refs (refs_expr_level x)) set
typed_here set x c = (subst IsSome (fold-roll-Expr Typed Bool Typed TypedOutput TypedQuery expr_type tree_typed order_typed output_typed query_typed x) c.0, subst (λ n. Within n set) (fold-roll-Expr ℕ ℕ ℕ ℕ ℕ expr_refs tree_refs order_refs output_refs query_refs x) c.1)

column_node : (set : ℕ) (x : ExprLayer) → ExprFine set (roll-Expr x) → Each (IsReferred set) (node_column (gather.node_level ColumnRef node_column x))
column_node set (Expr-F.Col rel col t nulled) c =
    let h = typed_here set (Expr-F.Col rel col t nulled) c in
    let low : rel < 64 = ltb-true rel 64 (when_some (nat_lt rel 64) t h.0) in
    ((low, h.1 rel (has_only rel low)), tt)
column_node set x c = tt

place_node : (set : ℕ) (x : ExprLayer) → ExprFine set (roll-Expr x) → Each (AreReferred set) (node_placeholder (gather.node_level ℕ node_placeholder x))
place_node set (Expr-F.Place inner rels) c = let h = typed_here set (Expr-F.Place inner rels) c in ((ltb-true rels (2 ^ 64) (if_left (nat_lt rels (2 ^ 64)) (type_of inner) h.0), right_within (refs_of inner) rels set h.1), tt)
place_node set x c = tt

pub columns_referred : (x : Expr) → IsSome (type_of x) → Each (IsReferred (refs_of x)) (columns_in x)
columns_referred = expr_gathers ColumnRef node_column IsReferred column_node

pub places_referred : (x : Expr) → IsSome (type_of x) → Each (AreReferred (refs_of x)) (placeholders_in x)
places_referred = expr_gathers ℕ node_placeholder AreReferred place_node

pub columns_referred_in : (x : Query) → (typed_query x).is_typed ≡ true → Each (IsReferred (refs_of_query x)) (columns_in_query x)
columns_referred_in = query_gathers ColumnRef node_column IsReferred column_node

pub places_referred_in : (x : Query) → (typed_query x).is_typed ≡ true → Each (AreReferred (refs_of_query x)) (placeholders_in_query x)
places_referred_in = query_gathers ℕ node_placeholder AreReferred place_node
