-- The expressions of a block's problem are those of its shape and of the ON lists of its Full joins.
use Rattle.std.proofs.Common.{◌≡◌, ◌∙◌, ap, sym, subst, refl, ℕ, ◌⊎◌, inl, inr, List, [], ◌∷◌, ◌++◌, map, filter, fold}
use Rattle.std.specs.List.{flat_map}
use Rattle.jp_facts.proofs.Members.{In, from_append, from_map, from_filter, from_flat_map, in_append_left, in_append_right}
use Rattle.jp_query.specs.declared.Expr.{Expr}
use Rattle.jp_query.specs.declared.Query.{Query}
use Rattle.jp_problem.specs.declared.types.Item.{Item}
use Rattle.jp_problem.specs.declared.types.Outline.{Outline}
use Rattle.jp_problem.specs.declared.types.Place.{Place}
use Rattle.jp_problem.specs.declared.types.Placed.{Placed}
use Rattle.jp_problem.specs.declared.types.Special.{Special}
use Rattle.jp_problem.specs.declared.types.Written.{Written}
use Rattle.jp_problem.specs.Blocks.{behind, in_right_side, number_of, items_at, stays_in_on, is_clause_of_side, placed_in, written, joins_at, clauses_at, item_rels, outline_of, top}
use Rattle.jp_problem.specs.Made.{item_exprs, join_exprs, exprs_of}
use Rattle.jp_problem.specs.MinimumSets.{with_sets, one_more, specials_in}
use Rattle.jp_problem.specs.Problems.{clause_of, clauses_in, problem_of}
use Rattle.jp_problem.specs.Shapes.{Shape, nothing, item, beside, filtered, special, block_shape, exprs_in}
use Rattle.jp_problem.specs.StepClauses.{expr_of}

module _ (rels : List ℕ) where
  three : (e : Expr) (l r : Shape) (on : List Expr) → In e (exprs_in l) ⊎ In e (exprs_in r) ⊎ In e on → In e (exprs_in l ++ exprs_in r ++ on)
  three e l r on (inl h) = in_append_left e (exprs_in l ++ exprs_in r) on (in_append_left e (exprs_in l) (exprs_in r) h)
  three e l r on (inr (inl h)) = in_append_left e (exprs_in l ++ exprs_in r) on (in_append_right e (exprs_in l) (exprs_in r) h)
  three e l r on (inr (inr h)) = in_append_right e (exprs_in l ++ exprs_in r) on h

  on_stands : (shape : Shape) (at : Place) (w : Written) → In w (joins_at rels shape at) → (e : Expr) → In e w.on → In e (exprs_in shape)
  on_stands nothing at w h e m = absurd h
  on_stands (item t) at w h e m = absurd h
  on_stands (beside left right) at w h e m = elim (from_append w (joins_at rels left at) (joins_at rels right (behind left at)) h) [
    | inl k ↦ in_append_left e (exprs_in left) (exprs_in right) (on_stands left at w k e m)
    | inr k ↦ in_append_right e (exprs_in left) (exprs_in right) (on_stands right (behind left at) w k e m)
  ]
  on_stands (filtered shape conds) at w h e m = in_append_left e (exprs_in shape) conds (on_stands shape at w h e m)
  on_stands (special kind left right on) at w h e m =
      let lefts = joins_at rels left at in
      let rights = joins_at rels right (in_right_side left right at) in
      elim (from_append w (lefts ++ rights) (written rels kind left right on at ∷ []) h) [
        | inl k ↦ elim (from_append w lefts rights k) [
          | inl p ↦ three e left right on (inl (on_stands left at w p e m))
          | inr p ↦ three e left right on (inr (inl (on_stands right (in_right_side left right at) w p e m)))
        ]
        | inr k ↦ elim k [
          | inl same ↦ three e left right on (inr (inr (from_filter (stays_in_on rels (items_at (behind left at) right)) e on (subst (λ (x : Written). In e x.on) (sym same) m)).1))
          | inr gone ↦ absurd gone
        ]
      ]

  clause_stands : (shape : Shape) (at : Place) (c : Placed) → In c (clauses_at rels shape at) → In c.expr (exprs_in shape)
  clause_stands nothing at c h = absurd h
  clause_stands (item t) at c h = absurd h
  clause_stands (beside left right) at c h = elim (from_append c (clauses_at rels left at) (clauses_at rels right (behind left at)) h) [
    | inl k ↦ in_append_left c.expr (exprs_in left) (exprs_in right) (clause_stands left at c k)
    | inr k ↦ in_append_right c.expr (exprs_in left) (exprs_in right) (clause_stands right (behind left at) c k)
  ]
  clause_stands (filtered shape conds) at c h = elim (from_append c (clauses_at rels shape at) (map (placed_in rels at.region) conds) h) [
    | inl k ↦ in_append_left c.expr (exprs_in shape) conds (clause_stands shape at c k)
    | inr k ↦ (let p = from_map (placed_in rels at.region) c conds k in in_append_right c.expr (exprs_in shape) conds (subst (λ (x : Placed). In x.expr conds) p.2 p.1))
  ]
  clause_stands (special kind left right on) at c h =
      let lefts = clauses_at rels left at in
      let rights = clauses_at rels right (in_right_side left right at) in
      let side = is_clause_of_side rels (items_at (behind left at) right) in
      elim (from_append c (lefts ++ rights) (map (placed_in rels (number_of left right at)) (filter side on)) h) [
        | inl k ↦ elim (from_append c lefts rights k) [
          | inl p ↦ three c.expr left right on (inl (clause_stands left at c p))
          | inr p ↦ three c.expr left right on (inr (inl (clause_stands right (in_right_side left right at) c p)))
        ]
        | inr k ↦ (
            let p = from_map (placed_in rels (number_of left right at)) c (filter side on) k in
            three c.expr left right on (inr (inr (from_filter side c.expr on (subst (λ (x : Placed). In x.expr (filter side on)) p.2 p.1)).1))
            )
      ]

-- the ON lists of special joins are as they are written
on_written : (block : Outline) (ws : List Written) (joins : List Special) (s : Special) → In s (fold (one_more block) joins ws) → In s joins ⊎ ((w : Written) × In w ws × (s.on ≡ w.on))
on_written block [] joins s h = inl h
on_written block (w ∷ ws) joins s h = elim (on_written block ws (one_more block joins w) s h) [
  | inr k ↦ inr (k.0, inr k.1, k.2)
  | inl k ↦ elim (from_append s joins (with_sets block joins w ∷ []) k) [
    | inl p ↦ inl p
    | inr p ↦ elim p [ inl same ↦ inr (w, inl refl, sym (ap join_exprs same)) | inr gone ↦ absurd gone ]
  ]
]

module _ (q : Query) (items : List Item) (e : Expr) where
  abbrev joins : List Special
  joins = specials_in (outline_of q)

  abbrev rels : List ℕ
  rels = item_rels (block_shape q)

  of_joins : In e (flat_map join_exprs joins) → In e (exprs_in (block_shape q))
  of_joins h = let f = from_flat_map join_exprs e joins h in elim (on_written (outline_of q) (outline_of q).joins [] f.0 f.1) [
    | inl gone ↦ absurd gone
    | inr w ↦ on_stands rels (block_shape q) top w.0 w.1 e (subst (In e) w.2 f.2)
  ]

  of_clauses : In e (map expr_of (clauses_in (outline_of q))) → In e (exprs_in (block_shape q))
  of_clauses h =
      let f = from_map expr_of e (clauses_in (outline_of q)) h in
      let c = from_map (clause_of rels joins) f.0 (outline_of q).clauses f.1 in
      subst (λ x. In x (exprs_in (block_shape q))) (ap expr_of c.2 ∙ f.2) (clause_stands rels (block_shape q) top c.0 c.1)

  pub problem_exprs : In e (exprs_of (problem_of items q)) → In e (flat_map item_exprs items) ⊎ In e (exprs_in (block_shape q))
  problem_exprs h = elim (from_append e (flat_map item_exprs items ++ flat_map join_exprs joins ++ map expr_of (clauses_in (outline_of q))) [] h) [
    | inr gone ↦ absurd gone
    | inl k ↦ elim (from_append e (flat_map item_exprs items ++ flat_map join_exprs joins) (map expr_of (clauses_in (outline_of q))) k) [
      | inr c ↦ inr (of_clauses c)
      | inl m ↦ elim (from_append e (flat_map item_exprs items) (flat_map join_exprs joins) m) [ inl i ↦ inl i | inr j ↦ inr (of_joins j) ]
    ]
  ]
