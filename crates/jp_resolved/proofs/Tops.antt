-- Statements: what their select makes, and their ORDER BY items, each of which is made behind it or repeats an output.
use Rattle.std.proofs.Common.{◌≡◌, ◌∙◌, ap, ap₂, sym, subst, refl, ℕ, zero, suc, ◌+◌, ◌≤◌, ◌⊎◌, inl, inr, Bool, true, false, List, [], ◌∷◌, ◌++◌, map, filter, Option, Some, None, Ok, Err, arith}
use Rattle.std.specs.Prelude.{ℤ, pos, nat_le, IsSome, if◌then◌else◌}
use Rattle.std.specs.List.{list_all, list_any, slice_get}
use Rattle.std.proofs.lemmas.Bool.{and_parts, false≢true, leb-true}
use Rattle.std.proofs.lemmas.Option.{none-some, same_Some}
use Rattle.jp_catalog.specs.declared.types.Catalog.{Catalog}
use Rattle.jp_ast.specs.declared.tree.Ast.{Ast, out-Ast, roll-out-Ast}
use Rattle.jp_ast.specs.declared.tree.OrderAst.{OrderAst}
use Rattle.jp_ast.specs.declared.tree.Stmt.{Stmt}
use Rattle.jp_ast.specs.declared.tree.FromItem.{FromItem}
use Rattle.jp_ast.specs.declared.tree.Target.{Target}
use Rattle.jp_ast.specs.declared.tree.Select.{Select}
use Rattle.jp_ast.specs.declared.tree.Ast.TheOpen.{Ast-F}
use Rattle.jp_ast.specs.declared.tree.Ast.TheFolds.{map-Ast, fold-roll-Ast}
use Rattle.jp_statements.specs.Whole.{is_whole_select, is_whole_order, is_whole}
use Rattle.jp_query.specs.declared.Expr.{Expr}
use Rattle.jp_query.specs.declared.JoinTree.{JoinTree}
use Rattle.jp_query.specs.declared.Query.{Query}
use Rattle.jp_query.specs.declared.Expr.TheOpen.{Order-F}
use Rattle.jp_query.specs.declared.Output.{Output}
use Rattle.jp_query.specs.declared.Order.{Order, roll-Order, out-roll-Order}
use Rattle.jp_query.specs.Scopes.{Schema}
use Rattle.jp_query.specs.Typing.{type_of}
use Rattle.jp_resolution.specs.declared.error.ResolveError.{ResolveError}
use Rattle.jp_resolution.specs.declared.words.Counts.{Counts}
use Rattle.jp_resolution.specs.declared.words.Selection.{Selection}
use Rattle.jp_resolution.specs.declared.words.TypedExpr.{TypedExpr}
use Rattle.jp_resolution.specs.Answers.{Answer}
use Rattle.jp_resolution.specs.Counting.{none, both, Levels, Part, counts_of_all}
use Rattle.jp_resolution.specs.Ordering.{Written, as_name, as_number, as_literal, as_signed, as_other, signed, output_expr, has_expr, has_output_name, output_at, position, selected, expression, named_output, item_expr}
use Rattle.jp_resolution.specs.Resolving.{AstMeant, ItemMeant, Targets, ast_meant, ast_part, item_meant, target_meant, select_meant, meant_by, item_by, target_by, select_by, query_of, order_of, order_by, orders_by, counts_in_order, counts_in_orders, counts_in, entry_limit, ordered, counted, resolved}
use Rattle.jp_resolution.specs.Schemas.{schema_of}
use Rattle.jp_resolution.specs.Types.{own_type, own_expr}
use Rattle.jp_induction.proofs.EachPart.{Each, each_weaker}
use Rattle.jp_facts.proofs.Members.{In, from_filter}
use Rattle.jp_resolved.specs.Sorted.{expr_of_output, expr_of_order}
use Rattle.jp_resolved.proofs.Answered.{same_Ok, no_Ok, then_parts, if_parts}
use Rattle.jp_resolved.proofs.Spans.{Along, both_none}
use Rattle.jp_resolved.proofs.Made.{MadeExpr, MadeExprs, no_exprs, more_exprs}
use Rattle.jp_resolved.proofs.Seen.{seen_all, scope_of, open_inside}
use Rattle.jp_resolved.proofs.Found.{found_own}
use Rattle.jp_resolved.proofs.Parts.{IsPlace, Claim, Good, all_good}
use Rattle.jp_resolved.proofs.Selections.{IsSelection, IsTypedOutput, type_of_output}
use Rattle.jp_resolved.proofs.Walked.{ast_good, select_is_good}
use Rattle.jp_resolved.proofs.Members.{in_map}

-- ---- outputs that an item names

in_slice : {X : Type 0} (xs : List X) (n : ℕ) (x : X) → slice_get xs n ≡ Some x → In x xs
in_slice [] n x e = absurd (none-some x e)
in_slice (y ∷ ys) zero x e = inl (same_Some y x e)
in_slice (y ∷ ys) (suc n) x e = inr (in_slice ys n x e)

-- a name or a number alone
abbrev pub is_bare : Written → Bool
is_bare (as_name name) = true
is_bare (as_number n) = true
is_bare _ = false

module _ (outputs : List Output) where
  abbrev pub Repeats : Expr → Type 0
  Repeats x = In x (map expr_of_output outputs)

  positioned : (at : ℕ) (n : ℤ) (x : Expr) → position at (output_at outputs n) ≡ Ok x → Repeats x
  positioned at (pos (suc n)) x h = by_output (slice_get outputs n) refl h
    where
      by_output : (o : Option Output) → slice_get outputs n ≡ o → position at o ≡ Ok x → Repeats x
      by_output (Some output) same g = subst Repeats (same_Ok (output_expr output) x g) (in_map expr_of_output output outputs (in_slice outputs n output same))
      by_output None same g = absurd (no_Ok _ x g)
  positioned at n x h = absurd (no_Ok _ x h)

  -- an item that is no output is an expression, which an output has under DISTINCT
  record IsExpression (distinct : Bool) (e : Answer TypedExpr) (x : Expr) : Type 0 where
    found : TypedExpr
    was : e ≡ Ok found
    same : own_expr found ≡ x
    chosen : distinct ≡ true → list_any (has_expr x) outputs ≡ true

  selected_is : (at : ℕ) (distinct : Bool) (e : Answer TypedExpr) (found : TypedExpr) (x : Expr) → e ≡ Ok found → selected at distinct outputs found ≡ Ok x → IsExpression distinct e x
  selected_is at true e found x was h =
      let made = if_parts (list_any (has_expr (own_expr found)) outputs) _ (own_expr found) x h in
      record { found = found; was = was; same = made.1; chosen = λ d. subst (λ y. list_any (has_expr y) outputs ≡ true) made.1 made.0 }
  selected_is at false e found x was h = record { found = found; was = was; same = same_Ok (own_expr found) x h; chosen = λ d. absurd (false≢true d) }

  expression_is : (at : ℕ) (distinct : Bool) (e : Answer TypedExpr) (x : Expr) → expression at distinct outputs e ≡ Ok x → IsExpression distinct e x
  expression_is at distinct e x h = let found = then_parts e (selected at distinct outputs) x h in selected_is at distinct e found.0 x found.1 found.2

  named_is : (at : ℕ) (distinct : Bool) (e : Answer TypedExpr) (named : List Output) (x : Expr) → ((o : Output) → In o named → In o outputs) → named_output at distinct outputs e named ≡ Ok x → Repeats x ⊎ IsExpression distinct e x
  named_is at distinct e [] x within h = inr (expression_is at distinct e x h)
  named_is at distinct e (o ∷ more) x within h =
      let made = if_parts (list_all (has_expr (output_expr o)) more) _ (output_expr o) x h in
      inl (subst Repeats made.1 (in_map expr_of_output o outputs (within o (inl refl))))

  item_is : (at : ℕ) (distinct : Bool) (e : Answer TypedExpr) (w : Written) (x : Expr) → item_expr at distinct outputs e w ≡ Ok x → ((is_bare w ≡ true) × Repeats x) ⊎ IsExpression distinct e x
  item_is at distinct e (as_name name) x h =
      elim (named_is at distinct e (filter (has_output_name name) outputs) x (λ o r. (from_filter (has_output_name name) o outputs r).1) h) [ inl r ↦ inl (refl, r) | inr r ↦ inr r ]
  item_is at distinct e (as_number n) x h = inl (refl, positioned at n x h)
  item_is at distinct e as_literal x h = absurd (no_Ok _ x h)
  item_is at distinct e as_signed x h = absurd (no_Ok _ x h)
  item_is at distinct e as_other x h = inr (expression_is at distinct e x h)

-- ---- a name or a number alone has no numbers

not_bare : (w : Written) → is_bare (signed w) ≡ true → ⊥
not_bare (as_name name) h = false≢true h
not_bare (as_number n) h = false≢true h
not_bare as_literal h = false≢true h
not_bare as_signed h = false≢true h
not_bare as_other h = false≢true h

bare_level : (x : Ast-F AstMeant ItemMeant Targets (Part Selection)) → is_bare (ast_meant x).written ≡ true → (ast_part x).counts ≡ none
bare_level (Ast-F.Name name at) h = refl
bare_level (Ast-F.Number n at) h = refl
bare_level (Ast-F.Sign minus operand at) h = absurd (not_bare operand.written h)
bare_level _ h = absurd (false≢true h)

module _ (catalog : Catalog) where
  abbrev schema : Schema
  schema = schema_of catalog

  abbrev means : Ast-F Ast FromItem Target Select → Ast-F AstMeant ItemMeant Targets (Part Selection)
  means = map-Ast Ast FromItem Target Select AstMeant ItemMeant Targets (Part Selection) (meant_by catalog) (item_by catalog) (target_by catalog) (select_by catalog)

  bare_counts : (a : Ast) → is_bare (meant_by catalog a).written ≡ true → (meant_by catalog a).part.counts ≡ none
  bare_counts a h =
      let same : meant_by catalog a ≡ ast_meant (means (out-Ast a)) = ap (meant_by catalog) (sym (roll-out-Ast a)) ∙ fold-roll-Ast AstMeant ItemMeant Targets (Part Selection) ast_meant (item_meant catalog) target_meant select_meant (out-Ast a) in
      ap (λ (m : AstMeant). m.part.counts) same ∙ bare_level (means (out-Ast a)) (sym (ap (λ (m : AstMeant). is_bare m.written) same) ∙ h)

  -- ---- ORDER BY items

  module _ (distinct : Bool) (outputs : List Output) where
    -- it repeats an output, or is made
    abbrev pub IsItem : Claim Order
    IsItem levels a b o = ((a ≡ b) × Repeats outputs (expr_of_order o)) ⊎ (MadeExpr schema (scope_of levels) a b (expr_of_order o) × IsSome (type_of (expr_of_order o)) × (distinct ≡ true → list_any (has_expr (expr_of_order o)) outputs ≡ true))

    some_type : {A : Type 0} (o : Option A) (x : A) → o ≡ Some x → IsSome o
    some_type (Some y) x h = refl
    some_type None x h = absurd (none-some x h)

    item_good : (order : OrderAst) → is_whole_order order ≡ true → Good IsItem (order_by catalog distinct outputs order)
    item_good order whole levels before o place e =
        let m = meant_by catalog order.expr in
        let end = both before m.part.counts in
        let x = then_parts (item_expr m.place distinct outputs (m.part.over levels before) m.written) (order_of order.desc order.nulls_first) o e in
        let made : Order-F Expr JoinTree Order Output Query = record { expr = x.0; desc = order.desc; nulls_first = order.nulls_first } in
        let back : x.0 ≡ expr_of_order o = ap (λ (z : Order-F Expr JoinTree Order Output Query). z.expr) (sym (out-roll-Order made)) ∙ ap expr_of_order (same_Ok (roll-Order made) o x.2) in
        elim (item_is outputs m.place distinct (m.part.over levels before) m.written x.0 x.1) [
          | inl r ↦ inl (sym (both_none before) ∙ ap (both before) (sym (bare_counts order.expr r.0)), subst (Repeats outputs) back r.1)
          | inr r ↦
              let found = ast_good catalog order.expr whole levels before r.found place r.was in
              let is = found_own schema (scope_of levels) before end r.found found in
              let whole_back : own_expr r.found ≡ expr_of_order o = r.same ∙ back in
              inr (subst (MadeExpr schema (scope_of levels) before end) whole_back is.made, some_type (type_of (expr_of_order o)) (own_type r.found) (ap type_of (sym whole_back) ∙ is.type), λ d. subst (λ y. list_any (has_expr y) outputs ≡ true) back (r.chosen d))
        ]

    items_each : (orders : List OrderAst) → list_all is_whole_order orders ≡ true → Each (Good IsItem) (map (order_by catalog distinct outputs) orders)
    items_each [] h = tt
    items_each (o ∷ orders) h = let both = and_parts (is_whole_order o) (list_all is_whole_order orders) h in (item_good o both.0, items_each orders both.1)

    -- ---- those that are made, and what is known of all

    abbrev pub IsListed : List Expr → Order → Type 0
    IsListed fresh o = Repeats outputs (expr_of_order o) ⊎ In (expr_of_order o) fresh

    pub record Gathered (levels : Levels) (a b : Counts) (items : List Order) : Type 0 where
      pub fresh : List Expr
      pub made : MadeExprs schema (scope_of levels) a b fresh
      pub listed : Each (IsListed fresh) items

    gathered : (levels : Levels) (a b : Counts) (items : List Order) → Along (IsItem levels) a b items → Gathered levels a b items
    gathered levels a b [] along = record { fresh = []; made = no_exprs (scope_of levels) a b along; listed = tt }
    gathered levels a b (o ∷ items) along =
        let more = gathered levels along.0 b items along.2 in
        elim along.1 [
          | inl r ↦ record { fresh = more.fresh; made = subst (λ c. MadeExprs schema (scope_of levels) c b more.fresh) (sym r.0) more.made; listed = (inl r.1, more.listed) }
          | inr r ↦ record {
            fresh = expr_of_order o ∷ more.fresh;
            made = more_exprs (scope_of levels) a along.0 b (expr_of_order o) more.fresh r.0 more.made;
            listed = (inr (inl refl), each_weaker (IsListed more.fresh) (IsListed (expr_of_order o ∷ more.fresh)) (λ p h. elim h [ inl q ↦ inl q | inr q ↦ inr (inr q) ]) items more.listed);
          }
        ]

    abbrev pub IsChosen : Order → Type 0
    IsChosen o = Repeats outputs (expr_of_order o) ⊎ (list_any (has_expr (expr_of_order o)) outputs ≡ true)

    all_chosen : (levels : Levels) (a b : Counts) (items : List Order) → distinct ≡ true → Along (IsItem levels) a b items → Each IsChosen items
    all_chosen levels a b [] d along = tt
    all_chosen levels a b (o ∷ items) d along = (elim along.1 [ inl r ↦ inl r.1 | inr r ↦ inr (r.2 d) ], all_chosen levels along.0 b items d along.2)

    abbrev pub HasType : Order → Type 0
    HasType o = IsSome (type_of (expr_of_order o))

    repeated_type : (os : List Output) (x : Expr) → Each IsTypedOutput os → In x (map expr_of_output os) → IsSome (type_of x)
    repeated_type [] x each h = absurd h
    repeated_type (o ∷ os) x each (inl e) = some_type (type_of x) (type_of_output o) (ap type_of (sym e) ∙ each.0)
    repeated_type (o ∷ os) x each (inr r) = repeated_type os x each.1 r

    all_typed : (levels : Levels) (a b : Counts) (items : List Order) → Each IsTypedOutput outputs → Along (IsItem levels) a b items → Each HasType items
    all_typed levels a b [] each along = tt
    all_typed levels a b (o ∷ items) each along = (elim along.1 [ inl r ↦ repeated_type outputs (expr_of_order o) each r.1 | inr r ↦ r.1 ], all_typed levels along.0 b items each along.2)

    counts_same : (orders : List OrderAst) → counts_of_all (map (order_by catalog distinct outputs) orders) ≡ counts_in_orders catalog orders
    counts_same [] = refl
    counts_same (o ∷ orders) = ap (both (counts_in_order catalog o)) (counts_same orders)

  -- ---- statements

  -- a query's select, and its ORDER BY items behind it
  pub record IsTop (s : Selection) (items : List Order) : Type 0 where
    pub middle : Counts
    pub end : Counts
    pub selection : IsSelection schema [] none middle s
    pub fresh : List Expr
    pub made : MadeExprs schema (seen_all s.entries ++ []) middle end fresh
    pub listed : Each (IsListed s.distinct s.outputs fresh) items
    pub types : Each (HasType s.distinct s.outputs) items
    pub chosen : s.distinct ≡ true → Each (IsChosen s.distinct s.outputs) items
    pub middle_few : middle.entries ≤ 12
    pub few : end.entries ≤ 12

  from_none : (c : Counts) → both none c ≡ c
  from_none c = ap₂ (λ e s. record { entries = e; sublinks = s }) (zero_left c.entries) (zero_left c.sublinks)
    where
      zero_left : (n : ℕ) → 0 + n ≡ n
      zero_left n = omega arith

  few_parts : (b : Bool) (refusal : ResolveError) (x : Answer Query) (q : Query) → (if b then x else Err refusal) ≡ Ok q → (b ≡ true) × (x ≡ Ok q)
  few_parts true refusal x q h = (refl, h)
  few_parts false refusal x q h = absurd (no_Ok refusal q h)

  pub top : (stmt : Stmt) (q : Query) → is_whole stmt ≡ true → resolved catalog stmt ≡ Ok q → (s : Selection) × (items : List Order) × (q ≡ query_of s items) × IsTop s items
  unfolding resolved
  top stmt q whole h =
      let all = counts_in catalog stmt in
      let few = few_parts (nat_le all.entries entry_limit) _ (counted catalog stmt) q h in
      let short : all.entries ≤ 12 = leb-true all.entries 12 few.0 in
      let parts = and_parts (is_whole_select stmt.select) (list_all is_whole_order stmt.order) whole in
      let select = select_by catalog stmt.select in
      let c = select.counts in
      let s = then_parts (select.over [] none) (ordered catalog stmt.order c) q few.1 in
      let orders = map (order_by catalog s.0.distinct s.0.outputs) stmt.order in
      let d = both c (counts_of_all orders) in
      let x = then_parts ((orders_by catalog s.0.distinct s.0.outputs stmt.order).over (s.0.entries ∷ []) c) (λ items. Ok (query_of s.0 items)) q s.2 in
      let end_is : d.entries ≤ 12 = subst (λ (k : Counts). (both c k).entries ≤ 12) (sym (counts_same s.0.distinct s.0.outputs stmt.order)) short in
      let start : both none c ≡ c = from_none c in
      let selection : IsSelection schema [] none c s.0 = subst (λ b. IsSelection schema [] none b s.0) start
      (select_is_good catalog stmt.select parts.0 [] none s.0 (record { opened = record { distinct = refl; outside = tt; small = tt }; few = omega (arith, end_is) }) s.1) in
      let place : IsPlace (s.0.entries ∷ []) c d = record {
        opened = open_inside 0 d.entries selection.middle.entries selection.end.entries c.entries d.entries (seen_all s.0.entries) [] (omega arith) (omega (arith, selection.high)) (omega arith) (omega arith) (inr selection.high) (record { distinct = refl; outside = tt; small = tt }) selection.own;
        few = omega (arith, end_is);
      } in
      let along = all_good (IsItem s.0.distinct s.0.outputs) orders (items_each s.0.distinct s.0.outputs stmt.order parts.1) (s.0.entries ∷ []) c x.0 place x.1 in
      let items = gathered s.0.distinct s.0.outputs (s.0.entries ∷ []) c d x.0 along in (
        s.0,
        x.0,
        sym (same_Ok (query_of s.0 x.0) q x.2),
        record {
          middle = c;
          end = d;
          selection = selection;
          fresh = items.fresh;
          made = items.made;
          listed = items.listed;
          types = all_typed s.0.distinct s.0.outputs (s.0.entries ∷ []) c d x.0 selection.outputs along;
          chosen = λ t. all_chosen s.0.distinct s.0.outputs (s.0.entries ∷ []) c d x.0 t along;
          middle_few = omega (arith, end_is);
          few = end_is;
        },
      )
