-- The special joins of a block are Left, Semi and Anti joins.
use Rattle.std.proofs.Common.{◌≡◌, ◌∙◌, sym, subst, refl, ℕ, inl, inr, true, ◌&&◌, List, [], ◌∷◌, ◌++◌, map, fold}
use Rattle.std.specs.List.{list_all}
use Rattle.std.proofs.lemmas.Bool.{and_parts}
use Rattle.jp_facts.proofs.Members.{In, from_append}
use Rattle.jp_induction.proofs.EachPart.{Each}
use Rattle.jp_query.specs.declared.Expr.{Expr}
use Rattle.jp_query.specs.declared.JoinKind.{JoinKind}
use Rattle.jp_query.specs.declared.JoinKind.TheVariants as join
use Rattle.jp_query.specs.declared.JoinTree.{JoinTree}
use Rattle.jp_query.specs.declared.JoinTree.TheVariants as tree
use Rattle.jp_query.specs.declared.Query.{Query, out-Query}
use Rattle.jp_query.specs.Conditions.{all_true}
use Rattle.jp_query.specs.NoRight.{is_no_right, expr_without_right, tree_without_right, order_without_right, output_without_right, query_without_right, has_no_right_in_tree, has_no_right_in_expr, HasNoRight}
use Rattle.jp_query.specs.Typing.{is_true_test}
use Rattle.jp_query.proofs.FoldLaws as laws
use Rattle.jp_problem.specs.declared.types.Outline.{Outline}
use Rattle.jp_problem.specs.declared.types.Place.{Place}
use Rattle.jp_problem.specs.declared.types.Special.{Special}
use Rattle.jp_problem.specs.declared.types.Written.{Written}
use Rattle.jp_problem.specs.Blocks.{behind, in_right_side, joins_at, outline_of, written, item_rels, top}
use Rattle.jp_problem.specs.MinimumSets.{one_more, with_sets, specials_in}
use Rattle.jp_problem.specs.Shapes.{Shape, nothing, item, beside, filtered, special, joined, shape_of, block_shape}
use Rattle.jp_problem.proofs.ShapeLaws.{at_base, at_sub, at_join, at_from}
use Rattle.jp_conditions.proofs.Forms.{by_form}
use Rattle.jp_framed.specs.Framing.{kind_of}
use Rattle.jp_joins.specs.Frames.{IsSameKind}

-- a frame has a kind for it
abbrev pub IsSpecial : JoinKind → Type 0
IsSpecial kind = IsSameKind (kind_of kind) kind

abbrev AreSpecial : Shape → Type 0
AreSpecial nothing = Unit {0}
AreSpecial (item tree) = Unit {0}
AreSpecial (beside left right) = AreSpecial left × AreSpecial right
AreSpecial (filtered shape conds) = AreSpecial shape
AreSpecial (special kind left right on) = IsSpecial kind × AreSpecial left × AreSpecial right

-- ---- shapes

abbrev Good : JoinTree → Type 0
Good t = has_no_right_in_tree t ≡ true → AreSpecial (shape_of t)

kind_special : (kind : JoinKind) (t : JoinTree) (left right : Shape) (on : List Expr) → is_no_right kind ≡ true → AreSpecial left → AreSpecial right → AreSpecial (joined kind t left right on)
kind_special join.Inner t left right on e p q = (p, q)
kind_special join.Left t left right on e p q = (tt, p, q)
kind_special join.Right t left right on e p q = cc
kind_special join.Full t left right on e p q = tt
kind_special join.Semi t left right on e p q = (tt, p, q)
kind_special join.Anti t left right on e p q = (tt, p, q)

members_special : (ts : List JoinTree) (shape : Shape) → Each Good ts → list_all is_true_test (map has_no_right_in_tree ts) ≡ true → AreSpecial shape → AreSpecial (fold beside shape (map shape_of ts))
members_special [] shape each e p = p
members_special (t ∷ ts) shape each e p =
    let a = and_parts (has_no_right_in_tree t) (list_all is_true_test (map has_no_right_in_tree ts)) e in
    members_special ts (beside shape (shape_of t)) each.1 a.1 (p, each.0 a.0)

join_special : (kind : JoinKind) (left right : JoinTree) (on : List Expr) → Good left → Good right → Good (tree.Join kind left right on)
join_special kind left right on p q e =
    let a = and_parts (is_no_right kind) (has_no_right_in_tree left && (has_no_right_in_tree right && all_true (map has_no_right_in_expr on)))
    (sym (laws.at-Join _ _ _ _ _ expr_without_right tree_without_right order_without_right output_without_right query_without_right kind left right on) ∙ e) in
    let b = and_parts (has_no_right_in_tree left) (has_no_right_in_tree right && all_true (map has_no_right_in_expr on)) a.1 in
    let c = and_parts (has_no_right_in_tree right) (all_true (map has_no_right_in_expr on)) b.1 in
    subst AreSpecial (sym (at_join kind left right on)) (kind_special kind (tree.Join kind left right on) (shape_of left) (shape_of right) on a.0 (p b.0) (q c.0))

from_special : (members : List JoinTree) (conds : List Expr) → Each Good members → Good (tree.From members conds)
from_special members conds each e =
    let a = and_parts (all_true (map has_no_right_in_tree members)) (all_true (map has_no_right_in_expr conds) && true)
    (sym (laws.at-From _ _ _ _ _ expr_without_right tree_without_right order_without_right output_without_right query_without_right members conds) ∙ e) in
    subst AreSpecial (sym (at_from members conds)) (members_special members nothing each a.0 tt)

tree_special : (t : JoinTree) → has_no_right_in_tree t ≡ true → AreSpecial (shape_of t)
tree_special = by_form Good (record {
  base = λ rel name table e. subst AreSpecial (sym (at_base rel name table)) tt;
  sub = λ rel name query e. subst AreSpecial (sym (at_sub rel name query)) tt;
  join = join_special;
  from = from_special;
})

-- ---- the joins of a shape

written_special : (rels : List ℕ) (shape : Shape) (at : Place) → AreSpecial shape → (w : Written) → In w (joins_at rels shape at) → IsSpecial w.kind
written_special rels nothing at s w h = absurd h
written_special rels (item tree) at s w h = absurd h
written_special rels (beside left right) at s w h = elim (from_append w (joins_at rels left at) (joins_at rels right (behind left at)) h) [
  | inl k ↦ written_special rels left at s.0 w k
  | inr k ↦ written_special rels right (behind left at) s.1 w k
]
written_special rels (filtered shape conds) at s w h = written_special rels shape at s w h
written_special rels (special kind left right on) at s w h =
    elim (from_append w (joins_at rels left at ++ joins_at rels right (in_right_side left right at)) (written rels kind left right on at ∷ []) h) [
      | inl k ↦ elim (from_append w (joins_at rels left at) (joins_at rels right (in_right_side left right at)) k) [
        | inl l ↦ written_special rels left at s.1 w l
        | inr r ↦ written_special rels right (in_right_side left right at) s.2 w r
      ]
      | inr k ↦ elim k [ inl e ↦ subst (λ (x : Written). IsSpecial x.kind) e s.0 | inr gone ↦ absurd gone ]
    ]

made_special : (block : Outline) (ws : List Written) (joins : List Special) → ((w : Written) → In w ws → IsSpecial w.kind) → ((s : Special) → In s joins → IsSpecial s.kind) → (s : Special) → In s (fold (one_more block) joins ws) → IsSpecial s.kind
made_special block [] joins all before s h = before s h
made_special block (w ∷ ws) joins all before s h =
    made_special block ws (one_more block joins w) (λ x m. all x (inr m)) (λ x m. elim (from_append x joins (with_sets block joins w ∷ []) m) [
      | inl k ↦ before x k
      | inr k ↦ elim k [ inl e ↦ subst (λ (y : Special). IsSpecial y.kind) e (all w (inl refl)) | inr gone ↦ absurd gone ]
    ]) s h

tree_clean : (query : Query) → HasNoRight query → has_no_right_in_tree (out-Query query).tree ≡ true
tree_clean query e =
    let q = out-Query query in
    let a = and_parts (all_true (map _ q.columns)) (has_no_right_in_tree q.tree && (all_true (map has_no_right_in_expr q.conds) && all_true (map _ q.order)))
    (sym (laws.at-Query _ _ _ _ _ expr_without_right tree_without_right order_without_right output_without_right query_without_right query) ∙ e) in
    (and_parts (has_no_right_in_tree q.tree) _ a.1).0

pub specials_special : (query : Query) → HasNoRight query → (s : Special) → In s (specials_in (outline_of query)) → IsSpecial s.kind
specials_special query e = made_special (outline_of query) (outline_of query).joins [] (λ w h. written_special (item_rels (block_shape query)) (block_shape query) top (tree_special (out-Query query).tree (tree_clean query e)) w h) (λ s h. absurd h)
