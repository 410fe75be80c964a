-- A special join of a made problem is no Inner join.
use Rattle.std.proofs.Common.{◌≡◌, sym, subst, refl, inl, inr, ℕ, List, [], ◌∷◌, ◌++◌, map, fold}
use Rattle.jp_facts.proofs.Members.{In, from_append}
use Rattle.jp_query.specs.declared.Expr.{Expr}
use Rattle.jp_query.specs.declared.JoinKind.{JoinKind}
use Rattle.jp_query.specs.declared.JoinKind.TheVariants as join
use Rattle.jp_query.specs.declared.JoinTree.{JoinTree}
use Rattle.jp_query.specs.declared.JoinTree.TheVariants as tree
use Rattle.jp_query.specs.declared.Query.{out-Query}
use Rattle.jp_problem.specs.declared.types.Outline.{Outline}
use Rattle.jp_problem.specs.declared.types.Place.{Place}
use Rattle.jp_problem.specs.declared.types.Problem.{Problem}
use Rattle.jp_problem.specs.declared.types.Special.{Special}
use Rattle.jp_problem.specs.declared.types.Written.{Written}
use Rattle.jp_problem.specs.Blocks.{top, behind, in_right_side, item_rels, joins_at, written, outline_of}
use Rattle.jp_problem.specs.Made.{IsMade}
use Rattle.jp_problem.specs.MinimumSets.{with_sets, one_more}
use Rattle.jp_problem.specs.Shapes.{Shape, nothing, item, beside, filtered, special, joined, shape_of, block_shape}
use Rattle.jp_problem.proofs.ShapeLaws.{at_base, at_sub, at_join, at_from}
use Rattle.jp_conditions.proofs.Forms.{by_form}
use Rattle.jp_induction.proofs.EachPart.{Each}

abbrev pub IsOuter : JoinKind → Type 0
IsOuter kind = kind ≡ join.Inner → ⊥

abbrev AllOuter : Shape → Type 0
AllOuter nothing = Unit {0}
AllOuter (item tree) = Unit {0}
AllOuter (beside left right) = AllOuter left × AllOuter right
AllOuter (filtered shape conds) = AllOuter shape
AllOuter (special kind left right on) = IsOuter kind × AllOuter left × AllOuter right

joined_outer : (kind : JoinKind) (t : JoinTree) (left right : Shape) (on : List Expr) → AllOuter left → AllOuter right → AllOuter (joined kind t left right on)
joined_outer join.Inner t left right on p q = (p, q)
joined_outer join.Full t left right on p q = tt
joined_outer join.Left t left right on p q = (λ e. cc, p, q)
joined_outer join.Right t left right on p q = (λ e. cc, p, q)
joined_outer join.Semi t left right on p q = (λ e. cc, p, q)
joined_outer join.Anti t left right on p q = (λ e. cc, p, q)

members_outer : (ts : List JoinTree) (shape : Shape) → Each (λ t. AllOuter (shape_of t)) ts → AllOuter shape → AllOuter (fold beside shape (map shape_of ts))
members_outer [] shape each h = h
members_outer (t ∷ ts) shape each h = members_outer ts (beside shape (shape_of t)) each.1 (h, each.0)

shape_outer : (t : JoinTree) → AllOuter (shape_of t)
shape_outer = by_form (λ t. AllOuter (shape_of t)) (record {
  base = λ rel name table. subst AllOuter (sym (at_base rel name table)) tt;
  sub = λ rel name query. subst AllOuter (sym (at_sub rel name query)) tt;
  join = λ kind left right on p q. subst AllOuter (sym (at_join kind left right on)) (joined_outer kind (tree.Join kind left right on) (shape_of left) (shape_of right) on p q);
  from = λ members conds each. subst AllOuter (sym (at_from members conds)) (members_outer members nothing each tt);
})

abbrev OuterWritten : Written → Type 0
OuterWritten w = IsOuter w.kind

module _ (rels : List ℕ) where
  written_outer : (shape : Shape) (at : Place) → AllOuter shape → (w : Written) → In w (joins_at rels shape at) → OuterWritten w
  written_outer nothing at h w m = absurd m
  written_outer (item tree) at h w m = absurd m
  written_outer (beside left right) at h w m = elim (from_append w (joins_at rels left at) (joins_at rels right (behind left at)) m) [
    | inl p ↦ written_outer left at h.0 w p
    | inr p ↦ written_outer right (behind left at) h.1 w p
  ]
  written_outer (filtered shape conds) at h w m = written_outer shape at h w m
  written_outer (special kind left right on) at h w m = elim (from_append w (joins_at rels left at ++ joins_at rels right (in_right_side left right at)) (written rels kind left right on at ∷ []) m) [
    | inl p ↦ elim (from_append w (joins_at rels left at) (joins_at rels right (in_right_side left right at)) p) [
      | inl q ↦ written_outer left at h.1 w q
      | inr q ↦ written_outer right (in_right_side left right at) h.2 w q
    ]
    | inr p ↦ elim p [ inl e ↦ subst OuterWritten e h.0 | inr gone ↦ absurd gone ]
  ]

abbrev OuterSpecial : Special → Type 0
OuterSpecial s = IsOuter s.kind

module _ (block : Outline) where
  all_outer : (ws : List Written) (joins : List Special) → ((w : Written) → In w ws → OuterWritten w) → ((s : Special) → In s joins → OuterSpecial s) → (s : Special) → In s (fold (one_more block) joins ws) → OuterSpecial s
  all_outer [] joins each h s m = h s m
  all_outer (w ∷ ws) joins each h s m = all_outer ws (one_more block joins w) (λ v p. each v (inr p)) more s m
    where
      more : (s : Special) → In s (joins ++ with_sets block joins w ∷ []) → OuterSpecial s
      more s m = elim (from_append s joins (with_sets block joins w ∷ []) m) [
        | inl p ↦ h s p
        | inr p ↦ elim p [ inl e ↦ subst OuterSpecial e (each w (inl refl)) | inr gone ↦ absurd gone ]
      ]

pub made_outer : (problem : Problem) → IsMade problem → (s : Special) → In s problem.joins → IsOuter s.kind
made_outer problem made s m = all_outer (outline_of made.query) (outline_of made.query).joins [] (λ w p. written_outer (item_rels (block_shape made.query)) (block_shape made.query) top (shape_outer (out-Query made.query).tree) w p) (λ s gone. absurd gone) s (elim made.made [
  | inl e ↦ subst (λ (p : Problem). In s p.joins) e m
  | inr e ↦ subst (λ (p : Problem). In s p.joins) e m
])
