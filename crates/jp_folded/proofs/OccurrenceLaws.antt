-- Where the sublinks of a folded query stand: where they stood, one to one.
use Rattle.std.proofs.Common.{◌≡◌, ◌∙◌, ap, sym, subst, refl, ℕ, ◌+◌, ◌<◌, inl, inr, Bool, true, false, List, [], ◌∷◌, ◌++◌, map, length, Some, arith}
use Rattle.std.specs.Prelude.{if◌then◌else◌}
use Rattle.std.specs.List.{list_any}
use Rattle.jp_base.specs.declared.values.Ty.{Ty}
use Rattle.jp_base.specs.declared.values.Value.{Value}
use Rattle.jp_base.specs.declared.values.Value.TheVariants as value
use Rattle.jp_query.specs.declared.JoinKind.{JoinKind}
use Rattle.jp_query.specs.declared.JoinKind.TheVariants as join
use Rattle.jp_query.specs.declared.Expr.{Expr, out-Expr}
use Rattle.jp_query.specs.declared.JoinTree.{JoinTree}
use Rattle.jp_query.specs.declared.Order.{Order}
use Rattle.jp_query.specs.declared.Output.{Output}
use Rattle.jp_query.specs.declared.Query.{Query}
use Rattle.jp_query.specs.declared.Expr.TheOpen.{Expr-F, JoinTree-F}
use Rattle.jp_query.specs.declared.Expr.TheViews.{roll-Expr, roll-JoinTree, roll-Order, roll-Output, roll-Query, roll-out-Expr}
use Rattle.jp_query.specs.declared.Expr.TheFolds.{fold-Expr, fold-JoinTree, fold-Order, fold-Output, map-Expr, map-JoinTree, fold-roll-Expr, fold-roll-JoinTree, fold-roll-Order, fold-roll-Output, fold-roll-Query}
use Rattle.jp_query.specs.Freshness.{Larger, Occurrence, from_parts, itself, inside, listed_here, expr_occurrences, tree_occurrences, order_occurrences, output_occurrences, query_occurrences, occurrences_in, may_stand, each_pair}
use Rattle.jp_query.specs.Layers.{ExprLayer, JoinTreeLayer, QueryLayer}
use Rattle.jp_query.specs.Parts.{all_in, option_part, parts, sublink_query, trees, conditions, leaf_query}
use Rattle.jp_query.specs.Typing.{is_listed}
use Rattle.jp_facts.proofs.Members.{In}
use Rattle.jp_induction.proofs.Induction as induction
use Rattle.jp_induction.proofs.EachPart.{append_map}
use Rattle.jp_laws.proofs.EachPart.{Each, parts_map}
use Rattle.jp_folding.specs.Folding as fold
use Rattle.jp_folding.proofs.TypeLaws.{folded_order, folded_output, expr_parts_folded, tree_parts_folded, query_parts_folded}
use Rattle.jp_folded.proofs.IntoLaws.{into_append, into_map, into_weaker, pairs_of}
use Rattle.jp_folded.proofs.PositionLaws.{Renamed, IsOneToOne, AroundMoved, Moved, Embeds, stand_kept, stand_turned}
use Rattle.jp_folded.proofs.BlockLaws.{placed, none, together, crossed, as_part, from_part, under, alone, moved_more}

-- ---- occurrences of levels

abbrev Found : Type 0
Found = List Occurrence

abbrev of_expr : Expr → Found
of_expr = fold-Expr Found Found Found Found Found expr_occurrences tree_occurrences order_occurrences output_occurrences query_occurrences

abbrev of_tree : JoinTree → Found
of_tree = fold-JoinTree Found Found Found Found Found expr_occurrences tree_occurrences order_occurrences output_occurrences query_occurrences

abbrev of_order : Order → Found
of_order = fold-Order Found Found Found Found Found expr_occurrences tree_occurrences order_occurrences output_occurrences query_occurrences

abbrev of_output : Output → Found
of_output = fold-Output Found Found Found Found Found expr_occurrences tree_occurrences order_occurrences output_occurrences query_occurrences

abbrev level : ExprLayer → Expr-F Found Found Found Found Found
level = map-Expr Expr JoinTree Order Output Query Found Found Found Found Found of_expr of_tree of_order of_output occurrences_in

at : (x : ExprLayer) → of_expr (roll-Expr x) ≡ expr_occurrences (level x)
at = fold-roll-Expr Found Found Found Found Found expr_occurrences tree_occurrences order_occurrences output_occurrences query_occurrences

-- those of a list of expressions
abbrev total : List Expr → Found
total es = from_parts 0 (map of_expr es)

-- ---- what folding makes of a level

module _ (old : Found) where
  abbrev Fits : Expr → Type 0
  Fits e = Embeds (of_expr e) old

  literal : (v : Value) (t : Ty) → Fits (fold.literal v t)
  literal v t = subst (λ o. Embeds o old) (sym (at (Expr-F.Lit v t))) (none old)

  either : (b : Bool) (d e : Expr) → Fits d → Fits e → Fits (if b then d else e)
  either true d e h k = h
  either false d e h k = k

  if_computed : (x : ExprLayer) (e : Expr) → Fits e → Fits (fold.if_computed x e)
  if_computed x e h = either (fold.has_literals_alone x) (fold.computed x) e (literal _ _) h

  if_null : (x : ExprLayer) → Fits (roll-Expr x) → Fits (fold.if_null x)
  if_null x h = either (list_any fold.is_null (parts x)) (fold.literal value.Null (fold.type_at x)) (roll-Expr x) (literal value.Null (fold.type_at x)) h

  one_and : (es : List Expr) → Embeds (total es) old → Fits (fold.one_and es)
  one_and [] h = literal (value.Bool true) _
  one_and (e ∷ []) h = from_part (of_expr e) old h
  one_and (e ∷ d ∷ es) h = subst (λ o. Embeds o old) (sym (at (Expr-F.And (e ∷ d ∷ es)))) h

  one_or : (es : List Expr) → Embeds (total es) old → Fits (fold.one_or es)
  one_or [] h = literal (value.Bool false) _
  one_or (e ∷ []) h = from_part (of_expr e) old h
  one_or (e ∷ d ∷ es) h = subst (λ o. Embeds o old) (sym (at (Expr-F.Or (e ∷ d ∷ es)))) h

  and_folded : (es : List Expr) → Embeds (total (all_in (map fold.and_members es))) old → Fits (fold.folded_and es)
  and_folded es h = either (list_any fold.is_false es) (fold.truth_literal false) (fold.one_and (all_in (map fold.and_members es))) (literal _ _) (one_and (all_in (map fold.and_members es)) h)

  or_folded : (es : List Expr) → Embeds (total (all_in (map fold.or_members es))) old → Fits (fold.folded_or es)
  or_folded es h = either (list_any fold.is_true es) (fold.truth_literal true) (fold.one_or (all_in (map fold.or_members es))) (literal _ _) (one_or (all_in (map fold.or_members es)) h)

  and_level : (es : List Expr) → Embeds (total (all_in (map fold.and_members es))) old → Fits (fold.expr_folded (Expr-F.And es))
  and_level es h = if_computed (Expr-F.And es) (fold.folded_and es) (and_folded es h)

  -- the members that ANDs and ORs give
  abbrev Spliced : ExprLayer → Type 0
  Spliced (Expr-F.And es) = Embeds (total (all_in (map fold.and_members es))) old
  Spliced (Expr-F.Or es) = Embeds (total (all_in (map fold.or_members es))) old
  Spliced _ = Unit {0}

  at_level : (x : ExprLayer) → Spliced x → Fits (roll-Expr x) → Fits (fold.expr_folded x)
  at_level (Expr-F.Neg operand) k h = if_computed (Expr-F.Neg operand) (fold.if_null (Expr-F.Neg operand)) (if_null (Expr-F.Neg operand) h)
  at_level (Expr-F.Sum terms) k h = if_computed (Expr-F.Sum terms) (fold.if_null (Expr-F.Sum terms)) (if_null (Expr-F.Sum terms) h)
  at_level (Expr-F.Product factors) k h = if_computed (Expr-F.Product factors) (fold.if_null (Expr-F.Product factors)) (if_null (Expr-F.Product factors) h)
  at_level (Expr-F.Concat pieces) k h = if_computed (Expr-F.Concat pieces) (fold.if_null (Expr-F.Concat pieces)) (if_null (Expr-F.Concat pieces) h)
  at_level (Expr-F.Compare op left right) k h = if_computed (Expr-F.Compare op left right) (fold.if_null (Expr-F.Compare op left right)) (if_null (Expr-F.Compare op left right) h)
  at_level (Expr-F.And es) k h = and_level es k
  at_level (Expr-F.Or es) k h = if_computed (Expr-F.Or es) (fold.folded_or es) (or_folded es k)
  at_level (Expr-F.Col rel col t nulled) k h = h
  at_level (Expr-F.Lit v t) k h = h
  at_level (Expr-F.Place inner rels) k h = h
  at_level (Expr-F.Exists sub query) k h = h
  at_level (Expr-F.InSub sub operand query) k h = h
  at_level x k h = if_computed x (roll-Expr x) h

  -- the members that an expression gives to an AND
  and_at : (x : ExprLayer) (e : Expr) → of_expr e ≡ of_expr (roll-Expr x) → Fits e → Embeds (total (fold.and_at x e)) old
  and_at (Expr-F.And members) e s h = subst (λ o. Embeds o old) (s ∙ at (Expr-F.And members)) h
  and_at (Expr-F.Lit (value.Bool true) t) e s h = none old
  and_at x e s h = as_part (of_expr e) old h

  and_members : (e : Expr) → Fits e → Embeds (total (fold.and_members e)) old
  and_members e h = and_at (out-Expr e) e (ap of_expr (sym (roll-out-Expr e))) h

  or_at : (x : ExprLayer) (e : Expr) → of_expr e ≡ of_expr (roll-Expr x) → Fits e → Embeds (total (fold.or_at x e)) old
  or_at (Expr-F.Or members) e s h = subst (λ o. Embeds o old) (s ∙ at (Expr-F.Or members)) h
  or_at (Expr-F.Lit (value.Bool false) t) e s h = none old
  or_at x e s h = as_part (of_expr e) old h

  or_members : (e : Expr) → Fits e → Embeds (total (fold.or_members e)) old
  or_members e h = or_at (out-Expr e) e (ap of_expr (sym (roll-out-Expr e))) h

-- ---- lists of parts, each folded

module _ {X : Type 0} (f : X → Found) (g : X → X) where
  parts_embed : (xs : List X) → Each (λ x. Embeds (f (g x)) (f x)) xs → Embeds (from_parts 0 (map f (map g xs))) (from_parts 0 (map f xs))
  parts_embed [] h = none []
  parts_embed (x ∷ xs) h = together (f (g x) ∷ []) (f x ∷ []) (map f (map g xs)) (map f xs) (alone (f (g x)) (f x) h.0) (parts_embed xs h.1)

abbrev KeptExpr : Expr → Type 0
KeptExpr e = Embeds (of_expr (fold.folded_expr e)) (of_expr e)

abbrev KeptTree : JoinTree → Type 0
KeptTree t = Embeds (of_tree (fold.folded_tree t)) (of_tree t)

abbrev KeptOrder : Order → Type 0
KeptOrder o = Embeds (of_order (folded_order o)) (of_order o)

abbrev KeptOutput : Output → Type 0
KeptOutput u = Embeds (of_output (folded_output u)) (of_output u)

abbrev KeptQuery : Query → Type 0
KeptQuery q = Embeds (occurrences_in (fold.folded q)) (occurrences_in q)

-- the members that folded expressions give to an AND or OR
spliced : (members : Expr → List Expr) → ((old : Found) (e : Expr) → Embeds (of_expr e) old → Embeds (total (members e)) old) → (es : List Expr) → Each KeptExpr es → Embeds (total (all_in (map members (map fold.folded_expr es)))) (total es)
spliced members give [] h = none []
spliced members give (e ∷ es) h =
    subst (λ l. Embeds (from_parts 0 l) (total (e ∷ es))) (sym (append_map of_expr (members (fold.folded_expr e)) (all_in (map members (map fold.folded_expr es)))))
    (together (map of_expr (members (fold.folded_expr e))) (of_expr e ∷ []) (map of_expr (all_in (map members (map fold.folded_expr es)))) (map of_expr es)
    (under (total (members (fold.folded_expr e))) (of_expr e) (give (of_expr e) (fold.folded_expr e) h.0)) (spliced members give es h.1))

conditions_embed : (es : List Expr) → Each KeptExpr es → Embeds (total (fold.conditions_folded (map fold.folded_expr es))) (total es)
conditions_embed es h = and_members (total es) (fold.expr_folded (Expr-F.And (map fold.folded_expr es))) (and_level (total es) (map fold.folded_expr es) (spliced fold.and_members and_members es h))

-- ---- with the empty position, which stays

module _ (pairs : List Renamed) where
  abbrev with_here : List Renamed
  with_here = ([], []) ∷ pairs

  more : (s' s : Occurrence) → Moved pairs s' s → Moved with_here s' s
  more = moved_more pairs with_here (λ x p. inr p)

  here_one : IsOneToOne pairs → ((x : Renamed) → In x pairs → x.0 ≡ [] → ⊥) → ((x : Renamed) → In x pairs → x.1 ≡ [] → ⊥) → IsOneToOne with_here
  here_one one new_some old_some x y (inl p) (inl q) = (λ e. sym (ap (λ (z : Renamed). z.1) p) ∙ ap (λ (z : Renamed). z.1) q, λ e. sym (ap (λ (z : Renamed). z.0) p) ∙ ap (λ (z : Renamed). z.0) q)
  here_one one new_some old_some x y (inl p) (inr q) = (λ e. absurd (new_some y q (sym e ∙ sym (ap (λ (z : Renamed). z.0) p))), λ e. absurd (old_some y q (sym e ∙ sym (ap (λ (z : Renamed). z.1) p))))
  here_one one new_some old_some x y (inr p) (inl q) = (λ e. absurd (new_some x p (e ∙ sym (ap (λ (z : Renamed). z.0) q))), λ e. absurd (old_some x p (e ∙ sym (ap (λ (z : Renamed). z.1) q))))
  here_one one new_some old_some x y (inr p) (inr q) = one x y p q

  inside_moves : (sub : ℕ) (s' s : Occurrence) → Moved pairs s' s → Moved with_here (inside sub s') (inside sub s)
  inside_moves sub s' s h = let k = more s' s h in record { number = k.number; around = (refl, inl refl, k.around); place = k.place }

  itself_moves : (sub : ℕ) → Moved with_here (itself sub) (itself sub)
  itself_moves sub = record { number = refl; around = tt; place = tt }

  listed_moves : (s' s : Occurrence) → Moved pairs s' s → Moved with_here (listed_here s') (listed_here s)
  listed_moves s' s h = by s'.around refl s.around refl (more s' s h)
    where
      by : (ls' : List Larger) → s'.around ≡ ls' → (ls : List Larger) → s.around ≡ ls → Moved with_here s' s → Moved with_here (if is_listed ls' then s' else record s' { listed_in = Some [] }) (if is_listed ls then s else record s { listed_in = Some [] })
      by [] e' [] e k = record { number = k.number; around = k.around; place = inl refl }
      by [] e' (l ∷ ls) e k = absurd (subst (λ a. AroundMoved with_here a (l ∷ ls)) e' (subst (AroundMoved with_here s'.around) e k.around))
      by (l' ∷ ls') e' [] e k = absurd (subst (λ a. AroundMoved with_here a []) e' (subst (AroundMoved with_here s'.around) e k.around))
      by (l' ∷ ls') e' (l ∷ ls) e k = k

-- ---- sublinks

no_index : (i j n : ℕ) → i < 1 → j < 0 → i + 0 ≡ j + n → ⊥
no_index i j n l m e = absurd (omega (arith, m))

exists_embeds : (sub : ℕ) (query : Query) → KeptQuery query → Embeds (itself sub ∷ map (inside sub) (from_parts 0 (occurrences_in (fold.folded query) ∷ []))) (itself sub ∷ map (inside sub) (from_parts 0 (occurrences_in query ∷ [])))
exists_embeds sub query h =
    let new = occurrences_in (fold.folded query) in
    let old = occurrences_in query in
    let p = placed (new ∷ []) (old ∷ []) [] [] (alone new old h) (none []) 0 0 1 1 (λ i j l m e. no_index i j 1 l m e) (λ i j l m e. no_index i j 1 l m e) in
    record {
      pairs = with_here p.pairs;
      one = here_one p.pairs p.one p.new_some p.old_some;
      into = ([], itself sub, map (inside sub) (from_parts 0 (old ∷ [])), refl, itself_moves p.pairs sub, into_map (Moved p.pairs) (Moved (with_here p.pairs)) (inside sub) (inside sub) (inside_moves p.pairs sub) (from_parts 0 (new ∷ [])) (from_parts 0 (old ∷ [])) p.first);
    }

in_embeds : (sub : ℕ) (operand : Expr) (query : Query) → KeptExpr operand → KeptQuery query
    → Embeds (itself sub ∷ (from_parts 0 (of_expr (fold.folded_expr operand) ∷ []) ++ map (inside sub) (from_parts 1 (occurrences_in (fold.folded query) ∷ [])))) (itself sub ∷ (from_parts 0 (of_expr operand ∷ []) ++ map (inside sub) (from_parts 1 (occurrences_in query ∷ []))))
in_embeds sub operand query k h =
    let new = occurrences_in (fold.folded query) in
    let old = occurrences_in query in
    let new_e = of_expr (fold.folded_expr operand) in
    let old_e = of_expr operand in
    let p = placed (new_e ∷ []) (old_e ∷ []) (new ∷ []) (old ∷ []) (alone new_e old_e k) (alone new old h) 0 0 1 1 (λ i j l m e. absurd (omega (arith, l, e))) (λ i j l m e. absurd (omega (arith, l, e))) in
    let first = into_weaker (Moved p.pairs) (Moved (with_here p.pairs)) (from_parts 0 (new_e ∷ [])) (from_parts 0 (old_e ∷ [])) (λ s' s u v m. more p.pairs s' s m) p.first in
    let second = into_map (Moved p.pairs) (Moved (with_here p.pairs)) (inside sub) (inside sub) (inside_moves p.pairs sub) (from_parts 1 (new ∷ [])) (from_parts 1 (old ∷ [])) p.second in
    record {
      pairs = with_here p.pairs;
      one = here_one p.pairs p.one p.new_some p.old_some;
      into = (
        [],
        itself sub,
        from_parts 0 (old_e ∷ []) ++ map (inside sub) (from_parts 1 (old ∷ [])),
        refl,
        itself_moves p.pairs sub,
        into_append (Moved (with_here p.pairs)) (from_parts 0 (new_e ∷ [])) (map (inside sub) (from_parts 1 (new ∷ []))) (from_parts 0 (old_e ∷ [])) (map (inside sub) (from_parts 1 (old ∷ []))) first second,
      );
    }

-- the level of folded parts
level_embeds : (x : ExprLayer) → Each KeptExpr (parts x) → Each KeptQuery (option_part (sublink_query x)) → Embeds (of_expr (roll-Expr (expr_parts_folded x))) (of_expr (roll-Expr x))
level_embeds (Expr-F.Exists sub query) ps qs =
    subst (λ o. Embeds o (of_expr (roll-Expr (Expr-F.Exists sub query)))) (sym (at (Expr-F.Exists sub (fold.folded query))))
    (subst (Embeds (expr_occurrences (level (Expr-F.Exists sub (fold.folded query))))) (sym (at (Expr-F.Exists sub query))) (exists_embeds sub query qs.0))
level_embeds (Expr-F.InSub sub operand query) ps qs =
    subst (λ o. Embeds o (of_expr (roll-Expr (Expr-F.InSub sub operand query)))) (sym (at (Expr-F.InSub sub (fold.folded_expr operand) (fold.folded query))))
    (subst (Embeds (expr_occurrences (level (Expr-F.InSub sub (fold.folded_expr operand) (fold.folded query))))) (sym (at (Expr-F.InSub sub operand query))) (in_embeds sub operand query ps.0 qs.0))
level_embeds x ps qs =
    let all = parts_embed of_expr fold.folded_expr (parts x) ps in
    let same : parts (level (expr_parts_folded x)) ≡ map of_expr (map fold.folded_expr (parts x)) = parts_map of_expr of_tree of_order of_output occurrences_in (expr_parts_folded x) ∙ ap (map of_expr) (parts_map fold.folded_expr fold.folded_tree folded_order folded_output fold.folded x) in
    subst (λ o. Embeds o (of_expr (roll-Expr x))) (sym (at (expr_parts_folded x) ∙ ap (from_parts 0) same)) (subst (Embeds (from_parts 0 (map of_expr (map fold.folded_expr (parts x))))) (sym (at x ∙ ap (from_parts 0) (parts_map of_expr of_tree of_order of_output occurrences_in x))) all)

level_spliced : (x : ExprLayer) → Each KeptExpr (parts x) → Spliced (of_expr (roll-Expr x)) (expr_parts_folded x)
level_spliced (Expr-F.And es) ps = subst (Embeds (total (all_in (map fold.and_members (map fold.folded_expr es))))) (sym (at (Expr-F.And es))) (spliced fold.and_members and_members es ps)
level_spliced (Expr-F.Or es) ps = subst (Embeds (total (all_in (map fold.or_members (map fold.folded_expr es))))) (sym (at (Expr-F.Or es))) (spliced fold.or_members or_members es ps)
level_spliced x ps = tt

-- ---- trees

abbrev tree_level : JoinTreeLayer → JoinTree-F Found Found Found Found Found
tree_level = map-JoinTree Expr JoinTree Order Output Query Found Found Found Found Found of_expr of_tree of_order of_output occurrences_in

tree_at : (t : JoinTreeLayer) → of_tree (roll-JoinTree t) ≡ tree_occurrences (tree_level t)
tree_at = fold-roll-JoinTree Found Found Found Found Found expr_occurrences tree_occurrences order_occurrences output_occurrences query_occurrences

made : (t y : JoinTreeLayer) → Embeds (tree_occurrences (tree_level y)) (tree_occurrences (tree_level t)) → Embeds (of_tree (roll-JoinTree y)) (of_tree (roll-JoinTree t))
made t y h = subst (λ o. Embeds o (of_tree (roll-JoinTree t))) (sym (tree_at y)) (subst (Embeds (tree_occurrences (tree_level y))) (sym (tree_at t)) h)

join_embeds : (kind other : JoinKind) (left right : JoinTree) (on : List Expr) → KeptTree left → KeptTree right → Each KeptExpr on → Embeds (of_tree (roll-JoinTree (JoinTree-F.Join other (fold.folded_tree left) (fold.folded_tree right) (fold.conditions_folded (map fold.folded_expr on))))) (of_tree (roll-JoinTree (JoinTree-F.Join kind left right on)))
join_embeds kind other left right on h k cs = made (JoinTree-F.Join kind left right on) (JoinTree-F.Join other (fold.folded_tree left) (fold.folded_tree right) (fold.conditions_folded (map fold.folded_expr on)))
    (together (of_tree (fold.folded_tree left) ∷ of_tree (fold.folded_tree right) ∷ []) (of_tree left ∷ of_tree right ∷ []) (map of_expr (fold.conditions_folded (map fold.folded_expr on))) (map of_expr on)
    (parts_embed of_tree fold.folded_tree (left ∷ right ∷ []) (h, (k, tt))) (conditions_embed on cs))

tree_case : (t : JoinTreeLayer) → Each KeptTree (trees t) → Each KeptExpr (conditions t) → Each KeptQuery (option_part (leaf_query t)) → Embeds (of_tree (fold.tree_folded (tree_parts_folded t))) (of_tree (roll-JoinTree t))
tree_case (JoinTree-F.Base rel name table) ts cs qs = made (JoinTree-F.Base rel name table) (JoinTree-F.Base rel name table) (none [])
tree_case (JoinTree-F.Sub rel name query) ts cs qs = made (JoinTree-F.Sub rel name query) (JoinTree-F.Sub rel name (fold.folded query)) (alone (occurrences_in (fold.folded query)) (occurrences_in query) qs.0)
tree_case (JoinTree-F.Join join.Right left right on) ts cs qs = made (JoinTree-F.Join join.Right left right on) (JoinTree-F.Join join.Left (fold.folded_tree right) (fold.folded_tree left) (fold.conditions_folded (map fold.folded_expr on)))
    (together (of_tree (fold.folded_tree right) ∷ of_tree (fold.folded_tree left) ∷ []) (of_tree left ∷ of_tree right ∷ []) (map of_expr (fold.conditions_folded (map fold.folded_expr on))) (map of_expr on)
    (crossed (of_tree (fold.folded_tree left) ∷ []) (of_tree left ∷ []) (of_tree (fold.folded_tree right) ∷ []) (of_tree right ∷ []) (alone (of_tree (fold.folded_tree left)) (of_tree left) ts.0) (alone (of_tree (fold.folded_tree right)) (of_tree right) ts.1.0))
    (conditions_embed on cs))
tree_case (JoinTree-F.Join kind left right on) ts cs qs = join_embeds kind kind left right on ts.0 ts.1.0 cs
tree_case (JoinTree-F.From members conds) ts cs qs = made (JoinTree-F.From members conds) (JoinTree-F.From (map fold.folded_tree members) (fold.conditions_folded (map fold.folded_expr conds)))
    (together (map of_tree (map fold.folded_tree members)) (map of_tree members) (map of_expr (fold.conditions_folded (map fold.folded_expr conds))) (map of_expr conds) (parts_embed of_tree fold.folded_tree members ts) (conditions_embed conds cs))

-- ---- queries

abbrev listed : QueryLayer → List Found
listed q = map of_output q.columns ++ map of_order q.order

abbrev others : QueryLayer → List Found
others q = of_tree q.tree ∷ map of_expr q.conds

query_at : (q : QueryLayer) → occurrences_in (roll-Query q) ≡ map listed_here (from_parts 0 (listed q)) ++ from_parts (length (listed q)) (others q)
query_at = fold-roll-Query Found Found Found Found Found expr_occurrences tree_occurrences order_occurrences output_occurrences query_occurrences

abbrev folded_query : QueryLayer → QueryLayer
folded_query q = record (query_parts_folded q) { conds = fold.conditions_folded (map fold.folded_expr q.conds) }

query_case : (q : QueryLayer) → Each KeptOutput q.columns → KeptTree q.tree → Each KeptExpr q.conds → Each KeptOrder q.order → Embeds (occurrences_in (roll-Query (folded_query q))) (occurrences_in (roll-Query q))
query_case q us t cs os =
    let new = listed (folded_query q) in
    let old = listed q in
    let lists = together (map of_output (map folded_output q.columns)) (map of_output q.columns) (map of_order (map folded_order q.order)) (map of_order q.order) (parts_embed of_output folded_output q.columns us) (parts_embed of_order folded_order q.order os) in
    let rest = together (of_tree (fold.folded_tree q.tree) ∷ []) (of_tree q.tree ∷ []) (map of_expr (fold.conditions_folded (map fold.folded_expr q.conds))) (map of_expr q.conds) (alone (of_tree (fold.folded_tree q.tree)) (of_tree q.tree) t) (conditions_embed q.conds cs) in
    let p = placed new old (others (folded_query q)) (others q) lists rest 0 0 (length new) (length old) (λ i j l m e. let e' : i + 0 ≡ j + length new = e in absurd (omega (arith, e', l))) (λ i j l m e. let e' : i + 0 ≡ j + length old = e in absurd (omega (arith, e', l))) in
    let first = into_map (Moved p.pairs) (Moved (with_here p.pairs)) listed_here listed_here (listed_moves p.pairs) (from_parts 0 new) (from_parts 0 old) p.first in
    let second = into_weaker (Moved p.pairs) (Moved (with_here p.pairs)) (from_parts (length new) (others (folded_query q))) (from_parts (length old) (others q)) (λ s' s u v m. more p.pairs s' s m) p.second in
    let all : Embeds (map listed_here (from_parts 0 new) ++ from_parts (length new) (others (folded_query q))) (map listed_here (from_parts 0 old) ++ from_parts (length old) (others q)) = record {
      pairs = with_here p.pairs;
      one = here_one p.pairs p.one p.new_some p.old_some;
      into = into_append (Moved (with_here p.pairs)) (map listed_here (from_parts 0 new)) (from_parts (length new) (others (folded_query q))) (map listed_here (from_parts 0 old)) (from_parts (length old) (others q)) first second;
    } in
    subst (λ o. Embeds o (occurrences_in (roll-Query q))) (sym (query_at (folded_query q))) (subst (Embeds (map listed_here (from_parts 0 new) ++ from_parts (length new) (others (folded_query q)))) (sym (query_at q)) all)

-- ---- the whole

steps : induction.Steps KeptExpr KeptTree KeptOrder KeptOutput KeptQuery
steps = record {
  expr = λ x ps qs. subst (λ e. Embeds (of_expr e) (of_expr (roll-Expr x))) (sym (fold-roll-Expr Expr JoinTree Order Output Query fold.expr_folded fold.tree_folded roll-Order roll-Output fold.query_folded x))
      (at_level (of_expr (roll-Expr x)) (expr_parts_folded x) (level_spliced x ps) (level_embeds x ps qs));
  tree = λ t ts cs qs. subst (λ e. Embeds (of_tree e) (of_tree (roll-JoinTree t))) (sym (fold-roll-JoinTree Expr JoinTree Order Output Query fold.expr_folded fold.tree_folded roll-Order roll-Output fold.query_folded t)) (tree_case t ts cs qs);
  order = λ o h. subst (λ l. Embeds l (of_order (roll-Order o))) (sym (ap of_order (fold-roll-Order Expr JoinTree Order Output Query fold.expr_folded fold.tree_folded roll-Order roll-Output fold.query_folded o)
      ∙ fold-roll-Order Found Found Found Found Found expr_occurrences tree_occurrences order_occurrences output_occurrences query_occurrences (record { expr = fold.folded_expr o.expr; desc = o.desc; nulls_first = o.nulls_first })))
      (subst (Embeds (of_expr (fold.folded_expr o.expr))) (sym (fold-roll-Order Found Found Found Found Found expr_occurrences tree_occurrences order_occurrences output_occurrences query_occurrences o)) h);
  output = λ u h. subst (λ l. Embeds l (of_output (roll-Output u))) (sym (ap of_output (fold-roll-Output Expr JoinTree Order Output Query fold.expr_folded fold.tree_folded roll-Order roll-Output fold.query_folded u)
      ∙ fold-roll-Output Found Found Found Found Found expr_occurrences tree_occurrences order_occurrences output_occurrences query_occurrences (record { name = u.name; ty = u.ty; expr = fold.folded_expr u.expr })))
      (subst (Embeds (of_expr (fold.folded_expr u.expr))) (sym (fold-roll-Output Found Found Found Found Found expr_occurrences tree_occurrences order_occurrences output_occurrences query_occurrences u)) h);
  query = λ q us t cs os. subst (λ e. Embeds (occurrences_in e) (occurrences_in (roll-Query q))) (sym (fold-roll-Query Expr JoinTree Order Output Query fold.expr_folded fold.tree_folded roll-Order roll-Output fold.query_folded q)) (query_case q us t cs os);
}

pub placed_kept : (q : Query) → each_pair may_stand (occurrences_in q) ≡ true → each_pair may_stand (occurrences_in (fold.folded q)) ≡ true
placed_kept q h =
    let e = induction.at_query KeptExpr KeptTree KeptOrder KeptOutput KeptQuery steps q in
    pairs_of may_stand stand_turned (Moved e.pairs) may_stand (λ a' b' a b m n k. stand_kept e.pairs e.one a' b' a b m n k) (occurrences_in (fold.folded q)) (occurrences_in q) e.into h
