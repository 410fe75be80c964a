-- A condition that is handed down reaches the items of a block, its expressions, and the queries of its outermost sublinks.
use Rattle.std.proofs.Common.{◌≡◌, ◌∙◌, ap, sym, subst, refl, List, [], ◌∷◌, ◌++◌, map, fold}
use Rattle.jp_query.specs.declared.Expr.{Expr}
use Rattle.jp_query.specs.declared.JoinKind.{JoinKind}
use Rattle.jp_query.specs.declared.JoinKind.TheVariants as join
use Rattle.jp_query.specs.declared.JoinTree.{JoinTree}
use Rattle.jp_query.specs.declared.JoinTree.TheVariants as tree
use Rattle.jp_query.specs.declared.Order.{Order}
use Rattle.jp_query.specs.declared.Output.{Output}
use Rattle.jp_query.specs.declared.Query.{Query}
use Rattle.jp_query.specs.declared.Expr.TheOpen.{Expr-F, JoinTree-F}
use Rattle.jp_query.specs.declared.Expr.TheViews.{roll-Expr}
use Rattle.jp_query.specs.declared.Expr.TheFolds.{map-Expr, para-JoinTree, para-Order, para-Output, para-Query, para-roll-Expr}
use Rattle.jp_query.specs.Layers.{ExprLayer, JoinTreeLayer}
use Rattle.jp_query.specs.Outermost.{Outer, Outers, Level, outers_in, outer_here, expr_outers, outermost}
use Rattle.jp_query.specs.Parts.{all_in, option_part, parts, sublink_query}
use Rattle.jp_induction.proofs.EachPart.{Each, each_append, each_in_parts, each_map, parts_map}
use Rattle.jp_induction.proofs.Induction.{expr_alone}
use Rattle.jp_problem.specs.Shapes.{Shape, nothing, beside, together, joined, shape_of, items_in, exprs_in}
use Rattle.jp_problem.proofs.ShapeLaws.{at_base, at_sub, at_join, at_from}
use Rattle.jp_conditions.proofs.Forms.{by_form}
use Rattle.jp_prepared.proofs.ItemForms.{NotFull, items_of_kind, items_of_members}

-- ---- shapes

module _ (P : Expr → Type 0) where
  exprs_of_kind : (kind : JoinKind) (t : JoinTree) (l r : Shape) (on : List Expr) → Each P (exprs_in l) → Each P (exprs_in r) → Each P on → Each P (exprs_in (joined kind t l r on))
  exprs_of_kind join.Inner t l r on a b c = each_append P (exprs_in l ++ exprs_in r) on (each_append P (exprs_in l) (exprs_in r) a b) c
  exprs_of_kind join.Left t l r on a b c = each_append P (exprs_in l ++ exprs_in r) on (each_append P (exprs_in l) (exprs_in r) a b) c
  exprs_of_kind join.Right t l r on a b c = each_append P (exprs_in l ++ exprs_in r) on (each_append P (exprs_in l) (exprs_in r) a b) c
  exprs_of_kind join.Full t l r on a b c = tt
  exprs_of_kind join.Semi t l r on a b c = each_append P (exprs_in l ++ exprs_in r) on (each_append P (exprs_in l) (exprs_in r) a b) c
  exprs_of_kind join.Anti t l r on a b c = each_append P (exprs_in l ++ exprs_in r) on (each_append P (exprs_in l) (exprs_in r) a b) c

  exprs_of_members : (ts : List JoinTree) (shape : Shape) → Each P (exprs_in shape) → Each (λ t. Each P (exprs_in (shape_of t))) ts → Each P (exprs_in (fold beside shape (map shape_of ts)))
  exprs_of_members [] shape start each = start
  exprs_of_members (t ∷ ts) shape start each = exprs_of_members ts (beside shape (shape_of t)) (each_append P (exprs_in shape) (exprs_in (shape_of t)) start each.0) each.1

-- ---- outermost sublinks of a level

abbrev pub beside_expr : Expr → Expr × Outers
beside_expr x = (x, outermost x)

abbrev pub beside_tree : JoinTree → JoinTree × Outers
beside_tree x = (x, para-JoinTree Outers Outers Outers Outers Outers expr_outers (λ t. []) (λ o. []) (λ u. []) (λ q. []) x)

abbrev pub beside_order : Order → Order × Outers
beside_order x = (x, para-Order Outers Outers Outers Outers Outers expr_outers (λ t. []) (λ o. []) (λ u. []) (λ q. []) x)

abbrev pub beside_output : Output → Output × Outers
beside_output x = (x, para-Output Outers Outers Outers Outers Outers expr_outers (λ t. []) (λ o. []) (λ u. []) (λ q. []) x)

abbrev pub beside_query : Query → Query × Outers
beside_query x = (x, para-Query Outers Outers Outers Outers Outers expr_outers (λ t. []) (λ o. []) (λ u. []) (λ q. []) x)

abbrev pub outer_level : ExprLayer → Level
outer_level = map-Expr Expr JoinTree Order Output Query (Expr × Outers) (JoinTree × Outers) (Order × Outers) (Output × Outers) (Query × Outers) beside_expr beside_tree beside_order beside_output beside_query

pub inner_outers : (xs : List Expr) → map outers_in (map beside_expr xs) ≡ map outermost xs
inner_outers [] = refl
inner_outers (x ∷ xs) = ap (λ os. outermost x ∷ os) (inner_outers xs)

-- what holds of each outermost sublink of a level's parts and of the level itself
outers_made : (P : Outer → Type 0) (x : ExprLayer) → Each P (outer_here (outer_level x)) → Each (λ e. Each P (outermost e)) (parts x) → Each P (outermost (roll-Expr x))
outers_made P x here inner =
    let level = outer_level x in
    let same = ap (map outers_in) (parts_map beside_expr beside_tree beside_order beside_output beside_query x) ∙ inner_outers (parts x) in
    subst (Each P) (sym (para-roll-Expr Outers Outers Outers Outers Outers expr_outers (λ t. []) (λ o. []) (λ u. []) (λ q. []) x))
    (each_append P (outer_here level) (all_in (map outers_in (parts level))) here (each_in_parts P (map outers_in (parts level)) (subst (Each (Each P)) (sym same) (each_map (Each P) outermost (parts x) inner))))

-- ---- what is reached

module _ {S : Type 0} (inside : S → JoinTreeLayer → S) (CE : S → Expr → Type 0) (CT : S → JoinTree → Type 0) (CQ : S → Query → Type 0)
    (expr_down : (s : S) (x : ExprLayer) → CE s (roll-Expr x) → Each (CE s) (parts x) × Each (CQ s) (option_part (sublink_query x)))
    (join_down : (s : S) (kind : JoinKind) (left right : JoinTree) (on : List Expr) → NotFull kind → CT s (tree.Join kind left right on) → CT s left × CT s right × Each (CE (inside s (JoinTree-F.Join kind left right on))) on)
    (from_down : (s : S) (members : List JoinTree) (conds : List Expr) → CT s (tree.From members conds) → Each (CT s) members × Each (CE (inside s (JoinTree-F.From members conds))) conds) where
  abbrev ItemsReached : JoinTree → Type 0
  ItemsReached t = (s : S) → CT s t → Each (CT s) (items_in (shape_of t))

  at_each_item : (s : S) (ts : List JoinTree) → Each ItemsReached ts → Each (CT s) ts → Each (λ t. Each (CT s) (items_in (shape_of t))) ts
  at_each_item s [] each h = tt
  at_each_item s (t ∷ ts) each h = (each.0 s h.0, at_each_item s ts each.1 h.1)

  two_items : (s : S) (kind : JoinKind) (left right : JoinTree) (on : List Expr) → NotFull kind → ItemsReached left → ItemsReached right → CT s (tree.Join kind left right on) → Each (CT s) (items_in (joined kind (tree.Join kind left right on) (shape_of left) (shape_of right) on))
  two_items s kind left right on apart p q h = let d = join_down s kind left right on apart h in items_of_kind (CT s) kind (tree.Join kind left right on) (shape_of left) (shape_of right) on h (p s d.0) (q s d.1)

  join_items : (s : S) (kind : JoinKind) (left right : JoinTree) (on : List Expr) → ItemsReached left → ItemsReached right → CT s (tree.Join kind left right on) → Each (CT s) (items_in (joined kind (tree.Join kind left right on) (shape_of left) (shape_of right) on))
  join_items s join.Full left right on p q h = (h, tt)
  join_items s join.Inner left right on p q h = two_items s join.Inner left right on tt p q h
  join_items s join.Left left right on p q h = two_items s join.Left left right on tt p q h
  join_items s join.Right left right on p q h = two_items s join.Right left right on tt p q h
  join_items s join.Semi left right on p q h = two_items s join.Semi left right on tt p q h
  join_items s join.Anti left right on p q h = two_items s join.Anti left right on tt p q h

  -- the items stand where the tree stands
  pub items_reached : (t : JoinTree) → ItemsReached t
  items_reached = by_form ItemsReached (record {
    base = λ rel name table s h. subst (λ shape. Each (CT s) (items_in shape)) (sym (at_base rel name table)) (h, tt);
    sub = λ rel name query s h. subst (λ shape. Each (CT s) (items_in shape)) (sym (at_sub rel name query)) (h, tt);
    join = λ kind left right on p q s h. subst (λ shape. Each (CT s) (items_in shape)) (sym (at_join kind left right on)) (join_items s kind left right on p q h);
    from = λ members conds each s h. subst (λ shape. Each (CT s) (items_in shape)) (sym (at_from members conds)) (items_of_members (CT s) members nothing tt (at_each_item s members each (from_down s members conds h).0));
  })

  -- an expression that stands at some place
  abbrev Stands : Expr → Type 0
  Stands e = (s : S) × CE s e

  stand : (s : S) (es : List Expr) → Each (CE s) es → Each Stands es
  stand s [] h = tt
  stand s (e ∷ es) h = ((s, h.0), stand s es h.1)

  abbrev ExprsReached : JoinTree → Type 0
  ExprsReached t = (s : S) → CT s t → Each Stands (exprs_in (shape_of t))

  at_each_expr : (s : S) (ts : List JoinTree) → Each ExprsReached ts → Each (CT s) ts → Each (λ t. Each Stands (exprs_in (shape_of t))) ts
  at_each_expr s [] each h = tt
  at_each_expr s (t ∷ ts) each h = (each.0 s h.0, at_each_expr s ts each.1 h.1)

  two_exprs : (s : S) (kind : JoinKind) (left right : JoinTree) (on : List Expr) → NotFull kind → ExprsReached left → ExprsReached right → CT s (tree.Join kind left right on) → Each Stands (exprs_in (joined kind (tree.Join kind left right on) (shape_of left) (shape_of right) on))
  two_exprs s kind left right on apart p q h =
      let d = join_down s kind left right on apart h in
      exprs_of_kind Stands kind (tree.Join kind left right on) (shape_of left) (shape_of right) on (p s d.0) (q s d.1) (stand (inside s (JoinTree-F.Join kind left right on)) on d.2)

  join_exprs : (s : S) (kind : JoinKind) (left right : JoinTree) (on : List Expr) → ExprsReached left → ExprsReached right → CT s (tree.Join kind left right on) → Each Stands (exprs_in (joined kind (tree.Join kind left right on) (shape_of left) (shape_of right) on))
  join_exprs s join.Full left right on p q h = tt
  join_exprs s join.Inner left right on p q h = two_exprs s join.Inner left right on tt p q h
  join_exprs s join.Left left right on p q h = two_exprs s join.Left left right on tt p q h
  join_exprs s join.Right left right on p q h = two_exprs s join.Right left right on tt p q h
  join_exprs s join.Semi left right on p q h = two_exprs s join.Semi left right on tt p q h
  join_exprs s join.Anti left right on p q h = two_exprs s join.Anti left right on tt p q h

  pub exprs_reached : (t : JoinTree) → ExprsReached t
  exprs_reached = by_form ExprsReached (record {
    base = λ rel name table s h. subst (λ shape. Each Stands (exprs_in shape)) (sym (at_base rel name table)) tt;
    sub = λ rel name query s h. subst (λ shape. Each Stands (exprs_in shape)) (sym (at_sub rel name query)) tt;
    join = λ kind left right on p q s h. subst (λ shape. Each Stands (exprs_in shape)) (sym (at_join kind left right on)) (join_exprs s kind left right on p q h);
    from = λ members conds each s h. let d = from_down s members conds h in
        subst (λ shape. Each Stands (exprs_in shape)) (sym (at_from members conds))
        (each_append Stands (exprs_in (together (map shape_of members))) conds (exprs_of_members Stands members nothing tt (at_each_expr s members each d.0)) (stand (inside s (JoinTree-F.From members conds)) conds d.1));
  })

  -- the queries of outermost sublinks stand where the expression stands
  abbrev SublinksReached : Expr → Type 0
  SublinksReached e = (s : S) → CE s e → Each (λ (o : Outer). CQ s o.query) (outermost e)

  sublinks_here : (s : S) (x : ExprLayer) → Each (CQ s) (option_part (sublink_query x)) → Each (λ (o : Outer). CQ s o.query) (outer_here (outer_level x))
  sublinks_here s (Expr-F.Exists sub query) h = (h.0, tt)
  sublinks_here s (Expr-F.InSub sub operand query) h = (h.0, tt)
  sublinks_here s x h = tt

  at_each_part : (s : S) (es : List Expr) → Each SublinksReached es → Each (CE s) es → Each (λ e. Each (λ (o : Outer). CQ s o.query) (outermost e)) es
  at_each_part s [] each h = tt
  at_each_part s (e ∷ es) each h = (each.0 s h.0, at_each_part s es each.1 h.1)

  pub sublinks_reached : (e : Expr) → SublinksReached e
  sublinks_reached = expr_alone SublinksReached (λ x each s h. let d = expr_down s x h in outers_made (λ (o : Outer). CQ s o.query) x (sublinks_here s x d.1) (at_each_part s (parts x) each d.0))
