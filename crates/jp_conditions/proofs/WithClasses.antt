-- A block's problem meets the conditions with its classes too, and trees by Nest alone that are legal without them are legal
-- with them.
use Rattle.std.proofs.Common.{◌≡◌, sym, subst, ℕ, ◌<◌, inl, inr, true, List, [], map, fold, length, Some}
use Rattle.std.specs.Prelude.{Contains, slice_get}
use Rattle.jp_base.specs.Sets.{Has, Within}
use Rattle.jp_facts.proofs.Members.{In, to_in, from_in, from_map}
use Rattle.jp_problem.specs.declared.types.Class.{Class}
use Rattle.jp_problem.specs.declared.types.Clause.{Clause}
use Rattle.jp_problem.specs.declared.types.Item.{Item}
use Rattle.jp_problem.specs.declared.types.Method.{Method}
use Rattle.jp_problem.specs.declared.types.Method.TheVariants.{Nest}
use Rattle.jp_problem.specs.declared.types.Outline.{Outline}
use Rattle.jp_problem.specs.declared.types.Problem.{Problem}
use Rattle.jp_problem.specs.declared.types.Special.{Special}
use Rattle.jp_problem.specs.declared.types.Step.{Step}
use Rattle.jp_problem.specs.Blocks.{used}
use Rattle.jp_problem.specs.Classes.{Derived, with_region, regions, with_class, derived}
use Rattle.jp_problem.specs.Conditions.{AreTwo, Covers, MeetsConditions}
use Rattle.jp_problem.specs.Keys.{IsAllowed}
use Rattle.jp_problem.specs.Legal.{IsJoinable, IsLegalStep}
use Rattle.jp_problem.specs.MinimumSets.{specials_in}
use Rattle.jp_problem.specs.Problems.{rels_of_item, clause_of, clauses_in, problem_in}
use Rattle.jp_problem.specs.Sets.{span}
use Rattle.jp_problem.specs.Trees.{Tree, set_of, IsLegalTree, IsPlan}
use Rattle.jp_problem.specs.Trees.Tree.{Scan, Join}
use Rattle.jp_conditions.proofs.Bounds.{Laid}
use Rattle.jp_base.specs.declared.values.Ty.TheVariants as ty
use Rattle.jp_query.specs.Typing.{is_of, type_of}
use Rattle.jp_conditions.proofs.Carrying.{AllGood, regions_good}
use Rattle.jp_conditions.proofs.Deriving.{Good}
use Rattle.jp_conditions.proofs.Meeting.{meets_conditions}

module _ (items : List Item) (block : Outline) (same : map rels_of_item items ≡ block.rels) (laid : Laid block (span 0 (length block.rels))) (low : (k r : ℕ) → slice_get block.rels k ≡ Some r → (i : ℕ) → Has r i → i < 64) where
  abbrev plain : Problem
  plain = problem_in items block

  abbrev joins : List Special
  joins = specials_in block

  abbrev start : Derived
  start = record { clauses = clauses_in block; classes = [] }

  abbrev end : Derived
  end = fold (with_region (map rels_of_item items) joins) start (regions joins)

  conditions : MeetsConditions plain
  conditions = meets_conditions items block same laid low

  pub first_good : (c : Clause) → In c (clauses_in block) → Good block laid c
  first_good c h =
      let here = from_in c (clauses_in block) h in
      record {
        region = elim (conditions.region_join c here) [ inl e ↦ inl e | inr r ↦ inr (r.0, to_in r.0 joins r.1, r.2) ];
        needed = record {
          some = conditions.needs_some c here;
          within = λ r m e. conditions.needs_within c r here (from_in r joins m) e;
          closed = λ t m under met. conditions.needs_closed c t here (from_in t joins m) under met;
        };
        uses = subst (λ rels. Within (used rels c.expr) c.req) same (conditions.uses_within c here);
        typed = (let p = from_map (clause_of block.rels joins) c block.clauses h in subst (λ (x : Clause). is_of ty.Boolean (type_of x.expr) ≡ true) p.2 (laid.typed_clauses p.0 p.1));
      }

  pub all_good : AllGood block laid end
  all_good = subst (λ rels. AllGood block laid (fold (with_region rels joins) start (regions joins))) (sym same) (regions_good block laid (regions joins) start (record { clauses = first_good; classes = λ class x h l. absurd h }))

  classed : (classes : List Class) (c : Clause) → Good block laid c → Good block laid (with_class classes c)
  classed classes c g = record { region = g.region; needed = g.needed; uses = g.uses; typed = g.typed }

  pub good : (c : Clause) → Contains (derived plain).clauses c → Good block laid c
  good c h = let f = from_map (with_class end.classes) c end.clauses (to_in c (derived plain).clauses h) in subst (Good block laid) f.2 (classed end.classes f.0 (all_good.clauses f.0 f.1))

  two : (s t : Special) → AreTwo (derived plain) s t → AreTwo plain s t
  two s t a = record { first = a.first; second = a.second; differ = a.differ }

  covering : (u t : Special) → Covers plain u t → Covers (derived plain) u t
  covering u t (Covers.takes_in l r) = Covers.takes_in l r
  covering u t (Covers.rejects kind v) = Covers.rejects kind (record { in_place = v.in_place; given = v.given })

  pub derived_conditions : MeetsConditions (derived plain)
  derived_conditions = record {
    numbered = conditions.numbered;
    region_join = λ c h. elim (good c h).region [ inl e ↦ inl e | inr r ↦ inr (r.0, from_in r.0 joins r.1, r.2) ];
    left_some = conditions.left_some;
    right_some = conditions.right_some;
    in_order = conditions.in_order;
    nested = λ s t a. conditions.nested s t (two s t a);
    left_within = λ s t a w. conditions.left_within s t (two s t a) w;
    covers = λ u t a met outside. covering u t (conditions.covers u t (two u t a) met outside);
    needs_some = λ c h. (good c h).needed.some;
    needs_within = λ c r h m e. (good c h).needed.within r (to_in r joins m) e;
    needs_closed = λ c t h m under met. (good c h).needed.closed t (to_in t joins m) under met;
    uses_within = λ c h. subst (λ rels. Within (used rels c.expr) c.req) (sym same) (good c h).uses;
    on_uses_within = conditions.on_uses_within;
  }

-- ---- trees whose every method is Nest

abbrev pub IsNested : Tree → Type 0
IsNested (Scan i) = Unit {0}
IsNested (Join method kind left right) = (method ≡ Nest) × IsNested left × IsNested right

module _ (problem : Problem) where
  joinable_still : (set : ℕ) → IsJoinable problem set → IsJoinable (derived problem) set
  joinable_still set j = record { some = j.some; stands = j.stands }

  step_still : (left right : ℕ) (kind : Step) → IsLegalStep problem left right kind → IsLegalStep (derived problem) left right kind
  step_still left right kind s = record {
    step = record { apart = s.step.apart; left_joinable = joinable_still left s.step.left_joinable; right_joinable = joinable_still right s.step.right_joinable; joinable = joinable_still _ s.step.joinable };
    of_kind = s.of_kind;
  }

  allowed_still : (left right : ℕ) (kind : Step) (method : Method) → method ≡ Nest → IsAllowed (derived problem) left right kind method
  allowed_still left right kind method e = subst (IsAllowed (derived problem) left right kind) (sym e) tt

  legal_still : (tree : Tree) → IsNested tree → IsLegalTree problem tree → IsLegalTree (derived problem) tree
  legal_still (Scan i) nest legal = legal
  legal_still (Join method kind left right) nest legal =
      (step_still (set_of left) (set_of right) kind legal.0, allowed_still (set_of left) (set_of right) kind method nest.0, legal_still left nest.1 legal.2, legal_still right nest.2 legal.3)

  pub plan_still : (tree : Tree) → IsNested tree → IsPlan problem tree → IsPlan (derived problem) tree
  plan_still tree nest plan = record { legal = legal_still tree nest plan.legal; whole = plan.whole }
