-- The sublinks of an expression that are IN are among its outermost ones, and what holds of each of them holds of its own
-- INs.
use Rattle.std.proofs.Common.{◌≡◌, ◌∙◌, ap, sym, subst, refl, Bool, List, [], ◌∷◌, ◌++◌, map}
use Rattle.jp_base.specs.declared.values.Ty.{Ty}
use Rattle.jp_facts.proofs.Members.{In}
use Rattle.jp_query.specs.declared.Expr.{Expr}
use Rattle.jp_query.specs.declared.JoinTree.{JoinTree}
use Rattle.jp_query.specs.declared.Order.{Order}
use Rattle.jp_query.specs.declared.Output.{Output}
use Rattle.jp_query.specs.declared.Query.{Query, out-Query}
use Rattle.jp_query.specs.declared.Expr.TheOpen.{Expr-F}
use Rattle.jp_query.specs.declared.Expr.TheViews.{roll-Expr}
use Rattle.jp_query.specs.declared.Expr.TheFolds.{fold-JoinTree, fold-Order, fold-Output, fold-Query, map-Expr, fold-roll-Expr, para-JoinTree, para-Order, para-Output, para-Query, para-roll-Expr, fold_out-Output, fold_out-Query}
use Rattle.jp_query.specs.Layers.{ExprLayer}
use Rattle.jp_query.specs.Fitting.{InQuery, node_in, expr_own_ins, own_ins}
use Rattle.jp_query.specs.Outermost.{Outer, Outers, Level, outers_in, outer_here, outermost}
use Rattle.jp_query.specs.Parts.{all_in, parts}
use Rattle.jp_query.specs.Typing.{Typed, TypedOutput, TypedQuery, expr_type, tree_typed, order_typed, output_typed, query_typed, output_type, typed_query}
use Rattle.jp_induction.proofs.EachPart.{Each, each_left, each_right, each_append, each_both, each_in_all, each_in_parts, each_mapped, each_map, parts_map}
use Rattle.jp_induction.proofs.Induction.{expr_alone}
use Rattle.jp_lists.proofs.Arounds.{each_from}
use Rattle.jp_lists.proofs.GivenCells.{outer_level, outers_have}
use Rattle.jp_tree.specs.BlockParts.{in_here, in_level, outermost_ins}

abbrev beside : Expr → Expr × Outers
beside x = (x, outermost_ins x)

abbrev tree_beside : JoinTree → JoinTree × Outers
tree_beside x = (x, para-JoinTree Outers Outers Outers Outers Outers in_level (λ t. []) (λ o. []) (λ u. []) (λ q. []) x)

abbrev order_beside : Order → Order × Outers
order_beside x = (x, para-Order Outers Outers Outers Outers Outers in_level (λ t. []) (λ o. []) (λ u. []) (λ q. []) x)

abbrev output_beside : Output → Output × Outers
output_beside x = (x, para-Output Outers Outers Outers Outers Outers in_level (λ t. []) (λ o. []) (λ u. []) (λ q. []) x)

abbrev query_beside : Query → Query × Outers
query_beside x = (x, para-Query Outers Outers Outers Outers Outers in_level (λ t. []) (λ o. []) (λ u. []) (λ q. []) x)

abbrev level : ExprLayer → Level
level = map-Expr Expr JoinTree Order Output Query (Expr × Outers) (JoinTree × Outers) (Order × Outers) (Output × Outers) (Query × Outers) beside tree_beside order_beside output_beside query_beside

inner_lists : (xs : List Expr) → map outers_in (map beside xs) ≡ map outermost_ins xs
inner_lists [] = refl
inner_lists (x ∷ xs) = ap (λ os. outermost_ins x ∷ os) (inner_lists xs)

at_level : (x : ExprLayer) → outermost_ins (roll-Expr x) ≡ in_here (level x) ++ all_in (map outermost_ins (parts x))
at_level x = para-roll-Expr Outers Outers Outers Outers Outers in_level (λ t. []) (λ o. []) (λ u. []) (λ q. []) x
    ∙ ap (λ os. in_here (level x) ++ all_in os) (ap (map outers_in) (parts_map beside tree_beside order_beside output_beside query_beside x) ∙ inner_lists (parts x))

-- ---- INs are outermost sublinks

module _ (P : Outer → Type 0) where
  abbrev Among : Expr → Type 0
  Among x = Each P (outermost x) → Each P (outermost_ins x)

  here_among : (x : ExprLayer) → Each P (outer_here (outer_level x)) → Each P (in_here (level x))
  here_among (Expr-F.InSub sub operand query) h = h
  here_among x h = tt

  among_step : (x : ExprLayer) → Each Among (parts x) → Among (roll-Expr x)
  among_step x each h =
      let has = outers_have P x h in
      subst (Each P) (sym (at_level x)) (each_append P (in_here (level x)) (all_in (map outermost_ins (parts x))) (here_among x has.0)
      (each_in_parts P (map outermost_ins (parts x)) (each_map (Each P) outermost_ins (parts x) (each_both Among (λ e. Each P (outermost e)) (λ e. Each P (outermost_ins e)) (λ e f g. f g) (parts x) each has.1))))

  ins_among : (x : Expr) → Among x
  ins_among = expr_alone Among among_step

pub ins_are_outermost : (x : Expr) → Each (λ o. In o (outermost x)) (outermost_ins x)
ins_are_outermost x = ins_among (λ o. In o (outermost x)) x (each_from (λ o. In o (outermost x)) (outermost x) (λ o h. h))

-- ---- own INs

abbrev types_of_output : Output → Ty
types_of_output = fold-Output (List InQuery) (Unit {0}) (Unit {0}) Ty (List Ty) expr_own_ins (λ t. tt) (λ o. tt) (λ u. u.ty) (λ q. q.columns)

abbrev types_of_tree : JoinTree → Unit {0}
types_of_tree = fold-JoinTree (List InQuery) (Unit {0}) (Unit {0}) Ty (List Ty) expr_own_ins (λ t. tt) (λ o. tt) (λ u. u.ty) (λ q. q.columns)

abbrev types_of_order : Order → Unit {0}
types_of_order = fold-Order (List InQuery) (Unit {0}) (Unit {0}) Ty (List Ty) expr_own_ins (λ t. tt) (λ o. tt) (λ u. u.ty) (λ q. q.columns)

abbrev types_of : Query → List Ty
types_of = fold-Query (List InQuery) (Unit {0}) (Unit {0}) Ty (List Ty) expr_own_ins (λ t. tt) (λ o. tt) (λ u. u.ty) (λ q. q.columns)

abbrev typed_output : Output → TypedOutput
typed_output = fold-Output Typed Bool Typed TypedOutput TypedQuery expr_type tree_typed order_typed output_typed query_typed

outputs_types : (us : List Output) → map output_type (map typed_output us) ≡ map types_of_output us
outputs_types [] = refl
outputs_types (u ∷ us) = λ i. one i ∷ outputs_types us i
  where
    one : (typed_output u).type ≡ types_of_output u
    one = ap output_type (fold_out-Output Typed Bool Typed TypedOutput TypedQuery expr_type tree_typed order_typed output_typed query_typed u) ∙ sym (fold_out-Output (List InQuery) (Unit {0}) (Unit {0}) Ty (List Ty) expr_own_ins (λ t. tt) (λ o. tt) (λ u. u.ty) (λ q. q.columns) u)

query_types : (q : Query) → (typed_query q).outputs ≡ types_of q
query_types q = ap (λ (t : TypedQuery). t.outputs) (fold_out-Query Typed Bool Typed TypedOutput TypedQuery expr_type tree_typed order_typed output_typed query_typed q)
    ∙ outputs_types (out-Query q).columns
    ∙ sym (fold_out-Query (List InQuery) (Unit {0}) (Unit {0}) Ty (List Ty) expr_own_ins (λ t. tt) (λ o. tt) (λ u. u.ty) (λ q. q.columns) q)

-- an IN as an expression's own one
abbrev pub as_in : Outer → InQuery
as_in o = record { number = o.number; outputs = (typed_query o.query).outputs }

abbrev ins_level : ExprLayer → Expr-F (List InQuery) (Unit {0}) (Unit {0}) Ty (List Ty)
ins_level = map-Expr Expr JoinTree Order Output Query (List InQuery) (Unit {0}) (Unit {0}) Ty (List Ty) own_ins types_of_tree types_of_order types_of_output types_of

module _ (P : InQuery → Type 0) where
  abbrev Own : Expr → Type 0
  Own x = Each (λ o. P (as_in o)) (outermost_ins x) → Each P (own_ins x)

  node_has : (x : ExprLayer) → Each (λ o. P (as_in o)) (in_here (level x)) → Each P (node_in (ins_level x))
  node_has (Expr-F.InSub sub operand query) h = (subst (λ ts. P (record { number = sub; outputs = ts })) (query_types query) h.0, tt)
  node_has x h = tt

  own_step : (x : ExprLayer) → Each Own (parts x) → Own (roll-Expr x)
  own_step x each h =
      let Q = λ (o : Outer). P (as_in o) in
      let all = subst (Each Q) (at_level x) h in
      let inner = each_mapped (Each Q) outermost_ins (parts x) (each_in_all Q (map outermost_ins (parts x)) (each_right Q (in_here (level x)) (all_in (map outermost_ins (parts x))) all)) in
      subst (Each P) (sym (fold-roll-Expr (List InQuery) (Unit {0}) (Unit {0}) Ty (List Ty) expr_own_ins (λ t. tt) (λ o. tt) (λ u. u.ty) (λ q. q.columns) x))
      (each_append P (node_in (ins_level x)) (all_in (parts (ins_level x))) (node_has x (each_left Q (in_here (level x)) (all_in (map outermost_ins (parts x))) all))
      (each_in_parts P (parts (ins_level x)) (subst (Each (Each P)) (sym (parts_map own_ins types_of_tree types_of_order types_of_output types_of x))
      (each_map (Each P) own_ins (parts x) (each_both Own (λ e. Each Q (outermost_ins e)) (λ e. Each P (own_ins e)) (λ e f g. f g) (parts x) each inner)))))

  pub own_ins_have : (x : Expr) → Own x
  own_ins_have = expr_alone Own own_step

module _ (P : InQuery → Type 0) where
  at_ins : (x : ExprLayer) → own_ins (roll-Expr x) ≡ node_in (ins_level x) ++ all_in (map own_ins (parts x))
  at_ins x = fold-roll-Expr (List InQuery) (Unit {0}) (Unit {0}) Ty (List Ty) expr_own_ins (λ t. tt) (λ o. tt) (λ u. u.ty) (λ q. q.columns) x
      ∙ ap (λ ns. node_in (ins_level x) ++ all_in ns) (parts_map own_ins types_of_tree types_of_order types_of_output types_of x)

  pub parts_have_ins : (x : ExprLayer) → Each P (own_ins (roll-Expr x)) → Each (λ e. Each P (own_ins e)) (parts x)
  parts_have_ins x h = each_mapped (Each P) own_ins (parts x) (each_in_all P (map own_ins (parts x)) (each_right P (node_in (ins_level x)) (all_in (map own_ins (parts x))) (subst (Each P) (at_ins x) h)))

  pub ins_from_parts : (x : ExprLayer) → Each P (node_in (ins_level x)) → Each (λ e. Each P (own_ins e)) (parts x) → Each P (own_ins (roll-Expr x))
  ins_from_parts x here inner = subst (Each P) (sym (at_ins x)) (each_append P (node_in (ins_level x)) (all_in (map own_ins (parts x))) here (each_in_parts P (map own_ins (parts x)) (each_map (Each P) own_ins (parts x) inner)))
