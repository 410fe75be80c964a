-- A problem that is made has typed conditions, and its items share no relation.
use Rattle.std.proofs.Common.{◌≡◌, ap, refl, sym, subst, ℕ, inl, inr, true, List, get_or, Some}
use Rattle.std.specs.Prelude.{All, Contains, slice_get}
use Rattle.std.proofs.lemmas.List.Elements.{Contains-get_or}
use Rattle.jp_base.specs.Sets.{Has}
use Rattle.jp_base.specs.declared.values.Ty.TheVariants as ty
use Rattle.jp_facts.proofs.Members.{Distinct, to_in, from_map}
use Rattle.jp_query.specs.declared.Expr.{Expr}
use Rattle.jp_query.specs.declared.Query.{Query, out-Query}
use Rattle.jp_query.specs.OwnLeaves.{own_leaves}
use Rattle.jp_query.specs.Parts.{rels_of}
use Rattle.jp_query.specs.Typing.{IsTypedExpr, is_of, type_of}
use Rattle.jp_strict.proofs.SoundTests.{of_typed}
use Rattle.jp_laws.proofs.LeafLaws.{rels_are_own}
use Rattle.jp_problem.specs.declared.types.Clause.{Clause}
use Rattle.jp_problem.specs.declared.types.Item.{Item}
use Rattle.jp_problem.specs.declared.types.Problem.{Problem}
use Rattle.jp_problem.specs.declared.types.Special.{Special}
use Rattle.jp_problem.specs.Blocks.{known_rels, outline_of}
use Rattle.jp_problem.specs.Classes.{derived}
use Rattle.jp_problem.specs.Made.{IsBlock, IsMade}
use Rattle.jp_problem.specs.MinimumSets.{specials_in}
use Rattle.jp_problem.specs.Problems.{AreItemsOf, problem_rels, clause_of, problem_of}
use Rattle.jp_problem.specs.Shapes.{shape_of, items_in}
use Rattle.jp_conditions.proofs.Covering.{typed_on}
use Rattle.jp_conditions.proofs.LaidBlocks.{laid, low, leaves_told_apart}
use Rattle.jp_conditions.proofs.Laying.{condition_at, known_has, mapped_place, one_place}
use Rattle.jp_conditions.proofs.MadeLaws.{made_conditions}
use Rattle.jp_conditions.proofs.Shaping.{own_items}
use Rattle.jp_conditions.proofs.Sheltered.{told}
use Rattle.jp_conditions.proofs.WithClasses.{good}
use Rattle.jp_frame.specs.Frames.{IsFrame}
use Rattle.jp_framed.specs.Environments.{Setting}
use Rattle.jp_framed.specs.Framing.{AreApart, AreConditionsTyped, frame_of}
use Rattle.jp_framed.specs.Running.{HasNoClasses}
use Rattle.jp_framed.proofs.FrameLaws.{is_frame}

module _ (query : Query) (items : List Item) (block : IsBlock query) (are : AreItemsOf query items) where
  boolean : (e : Expr) → is_of ty.Boolean (type_of e) ≡ true → IsTypedExpr e
  boolean e h = of_typed ty.Boolean (type_of e) h

  of_joins : (s : Special) → Contains (specials_in (outline_of query)) s → All IsTypedExpr s.on
  of_joins s h k d here = let e = get_or s.on k d in boolean e (condition_at s.on e (typed_on (outline_of query) _ (laid query block) s (to_in s (specials_in (outline_of query)) h)) (to_in e s.on (Contains-get_or s.on k d here)))

  of_clauses : (c : Clause) → Contains (problem_of items query).clauses c → IsTypedExpr c.expr
  of_clauses c h =
      let p = from_map (clause_of (outline_of query).rels (specials_in (outline_of query))) c (outline_of query).clauses (to_in c (problem_of items query).clauses h) in
      subst (λ (x : Clause). IsTypedExpr x.expr) p.2 (boolean p.0.expr ((laid query block).typed_clauses p.0 p.1))

  plain_typed : AreConditionsTyped (problem_of items query)
  plain_typed = record { joins = of_joins; clauses = of_clauses }

  derived_typed : AreConditionsTyped (derived (problem_of items query))
  derived_typed = record { joins = of_joins; clauses = λ c h. boolean c.expr (good items (outline_of query) are (laid query block) (low query block) c h).typed }

  -- items hold leaves of their own
  own_at : (j k : ℕ) (r q rel : ℕ) → slice_get (outline_of query).rels j ≡ Some r → slice_get (outline_of query).rels k ≡ Some q → Has r rel → Has q rel → j ≡ k
  own_at j k r q rel e f h p =
      let tree = (out-Query query).tree in
      let leaves = items_in (shape_of tree) in
      let first = mapped_place known_rels leaves j r e in
      let second = mapped_place known_rels leaves k q f in
      one_place leaves (subst Distinct (own_items tree) (told tree (leaves_told_apart query block)).distinct) j k first.0 second.0 rel first.1 second.1
      (to_in rel (own_leaves first.0) (rels_are_own first.0 rel (known_has (rels_of first.0) rel (subst (λ n. Has n rel) (sym first.2) h))))
      (to_in rel (own_leaves second.0) (rels_are_own second.0 rel (known_has (rels_of second.0) rel (subst (λ n. Has n rel) (sym second.2) p))))

pub made_typed : (problem : Problem) → IsMade problem → AreConditionsTyped problem
made_typed problem made = elim made.made [
  | inl e ↦ subst AreConditionsTyped (sym e) (plain_typed made.query problem.items made.block made.items)
  | inr e ↦ subst AreConditionsTyped (sym e) (derived_typed made.query problem.items made.block made.items)
]

pub made_apart : (problem : Problem) → IsMade problem → AreApart (problem_rels problem)
made_apart problem made = subst AreApart (sym made.items) (own_at made.query problem.items made.block made.items)

pub made_frame : (problem : Problem) (setting : Setting) → IsMade problem → IsFrame (frame_of problem setting)
made_frame problem setting made = is_frame problem setting (made_conditions problem made) (made_typed problem made) (made_apart problem made)

pub plain_without_classes : (items : List Item) (query : Query) → HasNoClasses (problem_of items query)
plain_without_classes items query = record {
  classes = refl;
  clauses = λ c h. let p = from_map (clause_of (outline_of query).rels (specials_in (outline_of query))) c (outline_of query).clauses (to_in c (problem_of items query).clauses h) in ap (λ (x : Clause). x.class) (sym p.2);
}
