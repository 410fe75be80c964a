-- A level whose children are replaced twice is the level whose children are replaced at once, where each child's are.
use Rattle.std.proofs.Common.{◌≡◌, refl, Bool, List, [], ◌∷◌, ◌++◌, map, Option, Some, None}
use Rattle.jp_query.specs.declared.Expr.TheOpen.{Expr-F, JoinTree-F, Order-F, Output-F, Query-F}
use Rattle.jp_query.specs.declared.Expr.TheShapes.{former-Expr-Case-0}
use Rattle.jp_query.specs.declared.Expr.TheFolds.{map-Expr, map-JoinTree, map-Order, map-Output, map-Query}
use Rattle.jp_query.specs.Parts.{term_part, arm_parts, option_part, parts, sublink_query, trees, conditions, leaf_query}
use Rattle.jp_induction.proofs.EachPart.{Each, each_left, each_right}

module _ {A A' A'' : Type 0} (f : A' → A'') (n : A → A') (g : A → A'') where
  abbrev pub Same : A → Type 0
  Same x = f (n x) ≡ g x

  lists : (xs : List A) → Each Same xs → map f (map n xs) ≡ map g xs
  lists [] h = refl
  lists (x ∷ xs) h = λ i. h.0 i ∷ lists xs h.1 i

  abbrev outer_term : Bool × A' → Bool × A''
  outer_term t = (t.0, f t.1)

  abbrev inner_term : Bool × A → Bool × A'
  inner_term t = (t.0, n t.1)

  abbrev whole_term : Bool × A → Bool × A''
  whole_term t = (t.0, g t.1)

  terms : (ts : List (Bool × A)) → Each Same (map term_part ts) → map outer_term (map inner_term ts) ≡ map whole_term ts
  terms [] h = refl
  terms (t ∷ ts) h = λ i. (t.0, h.0 i) ∷ terms ts h.1 i

  abbrev outer_arm : A' × A' → A'' × A''
  outer_arm a = (f a.0, f a.1)

  abbrev inner_arm : A × A → A' × A'
  inner_arm a = (n a.0, n a.1)

  abbrev whole_arm : A × A → A'' × A''
  whole_arm a = (g a.0, g a.1)

  arms : (as' : List (A × A)) → Each Same (arm_parts as') → map outer_arm (map inner_arm as') ≡ map whole_arm as'
  arms [] h = refl
  arms (a ∷ as') h = λ i. (h.0 i, h.1.0 i) ∷ arms as' h.1.1 i

  maybe : (o : Option A) → Each Same (option_part o) → (former-Expr-Case-0).map A' A'' f ((former-Expr-Case-0).map A A' n o) ≡ (former-Expr-Case-0).map A A'' g o
  maybe None h = refl
  maybe (Some x) h = λ i. Some (h.0 i)

module _ {A B C D F A' B' C' D' F' A'' B'' C'' D'' F'' : Type 0}
    (fa : A' → A'') (fb : B' → B'') (fc : C' → C'') (fd : D' → D'') (ff : F' → F'') (na : A → A') (nb : B → B') (nc : C → C') (nd : D → D') (nf : F → F')
    (ga : A → A'') (gb : B → B'') (gc : C → C'') (gd : D → D'') (gf : F → F'') where
  pub expr_twice : (x : Expr-F A B C D F) → Each (Same fa na ga) (parts x) → Each (Same ff nf gf) (option_part (sublink_query x)) → map-Expr A' B' C' D' F' A'' B'' C'' D'' F'' fa fb fc fd ff (map-Expr A B C D F A' B' C' D' F' na nb nc nd nf x) ≡ map-Expr A B C D F A'' B'' C'' D'' F'' ga gb gc gd gf x
  expr_twice (Expr-F.Col rel col ty nulled) p q = refl
  expr_twice (Expr-F.Lit value ty) p q = refl
  expr_twice (Expr-F.Place inner rels) p q = λ i. Expr-F.Place (p.0 i) rels
  expr_twice (Expr-F.Neg operand) p q = λ i. Expr-F.Neg (p.0 i)
  expr_twice (Expr-F.Sum ts) p q = λ i. Expr-F.Sum (terms fa na ga ts p i)
  expr_twice (Expr-F.Product factors) p q = λ i. Expr-F.Product (lists fa na ga factors p i)
  expr_twice (Expr-F.Concat pieces) p q = λ i. Expr-F.Concat (lists fa na ga pieces p i)
  expr_twice (Expr-F.Compare op left right) p q = λ i. Expr-F.Compare op (p.0 i) (p.1.0 i)
  expr_twice (Expr-F.Between operand low high) p q = λ i. Expr-F.Between (p.0 i) (p.1.0 i) (p.1.1.0 i)
  expr_twice (Expr-F.InList operand list) p q = λ i. Expr-F.InList (p.0 i) (lists fa na ga list p.1 i)
  expr_twice (Expr-F.And members) p q = λ i. Expr-F.And (lists fa na ga members p i)
  expr_twice (Expr-F.Or members) p q = λ i. Expr-F.Or (lists fa na ga members p i)
  expr_twice (Expr-F.Not operand) p q = λ i. Expr-F.Not (p.0 i)
  expr_twice (Expr-F.Test test operand) p q = λ i. Expr-F.Test test (p.0 i)
  expr_twice (Expr-F.Coalesce members) p q = λ i. Expr-F.Coalesce (lists fa na ga members p i)
  expr_twice (Expr-F.Case operand as' otherwise) p q =
      let rest = each_right (Same fa na ga) (option_part operand) (arm_parts as' ++ option_part otherwise) p in
      λ i. Expr-F.Case (maybe fa na ga operand (each_left (Same fa na ga) (option_part operand) (arm_parts as' ++ option_part otherwise) p) i) (arms fa na ga as' (each_left (Same fa na ga) (arm_parts as') (option_part otherwise) rest) i)
      (maybe fa na ga otherwise (each_right (Same fa na ga) (arm_parts as') (option_part otherwise) rest) i)
  expr_twice (Expr-F.Exists sub query) p q = λ i. Expr-F.Exists sub (q.0 i)
  expr_twice (Expr-F.InSub sub operand query) p q = λ i. Expr-F.InSub sub (p.0 i) (q.0 i)

  pub tree_twice : (t : JoinTree-F A B C D F) → Each (Same fb nb gb) (trees t) → Each (Same fa na ga) (conditions t) → Each (Same ff nf gf) (option_part (leaf_query t)) → map-JoinTree A' B' C' D' F' A'' B'' C'' D'' F'' fa fb fc fd ff (map-JoinTree A B C D F A' B' C' D' F' na nb nc nd nf t) ≡ map-JoinTree A B C D F A'' B'' C'' D'' F'' ga gb gc gd gf t
  tree_twice (JoinTree-F.Base rel name table) ts cs q = refl
  tree_twice (JoinTree-F.Sub rel name query) ts cs q = λ i. JoinTree-F.Sub rel name (q.0 i)
  tree_twice (JoinTree-F.Join kind left right on) ts cs q = λ i. JoinTree-F.Join kind (ts.0 i) (ts.1.0 i) (lists fa na ga on cs i)
  tree_twice (JoinTree-F.From members conds) ts cs q = λ i. JoinTree-F.From (lists fb nb gb members ts i) (lists fa na ga conds cs i)

  pub order_twice : (o : Order-F A B C D F) → Same fa na ga o.expr → map-Order A' B' C' D' F' A'' B'' C'' D'' F'' fa fb fc fd ff (map-Order A B C D F A' B' C' D' F' na nb nc nd nf o) ≡ map-Order A B C D F A'' B'' C'' D'' F'' ga gb gc gd gf o
  order_twice o h = λ i. record { expr = h i; desc = o.desc; nulls_first = o.nulls_first }

  pub output_twice : (u : Output-F A B C D F) → Same fa na ga u.expr → map-Output A' B' C' D' F' A'' B'' C'' D'' F'' fa fb fc fd ff (map-Output A B C D F A' B' C' D' F' na nb nc nd nf u) ≡ map-Output A B C D F A'' B'' C'' D'' F'' ga gb gc gd gf u
  output_twice u h = λ i. record { name = u.name; ty = u.ty; expr = h i }

  pub query_twice : (q : Query-F A B C D F) → Each (Same fd nd gd) q.columns → Same fb nb gb q.tree → Each (Same fa na ga) q.conds → Each (Same fc nc gc) q.order → map-Query A' B' C' D' F' A'' B'' C'' D'' F'' fa fb fc fd ff (map-Query A B C D F A' B' C' D' F' na nb nc nd nf q) ≡ map-Query A B C D F A'' B'' C'' D'' F'' ga gb gc gd gf q
  query_twice q us t es os = λ i. record { columns = lists fd nd gd q.columns us i; distinct = q.distinct; tree = t i; conds = lists fa na ga q.conds es i; order = lists fc nc gc q.order os i }
