-- The expressions of each class of a made problem have one type.
use Rattle.std.proofs.Common.{◌≡◌, ◌∙◌, ap, sym, subst, refl, ℕ, inl, inr, ◌⊎◌, List, [], ◌∷◌, map, fold, length, Option, Some, None}
use Rattle.jp_base.specs.declared.values.Ty.{Ty}
use Rattle.jp_base.specs.declared.values.Ty.TheVariants as ty
use Rattle.jp_facts.proofs.Members.{In, from_append, from_map}
use Rattle.jp_query.specs.declared.Expr.{Expr}
use Rattle.jp_query.specs.declared.Query.{Query}
use Rattle.jp_query.specs.Typing.{type_of}
use Rattle.jp_problem.specs.declared.types.Class.{Class}
use Rattle.jp_problem.specs.declared.types.Item.{Item}
use Rattle.jp_problem.specs.declared.types.Outline.{Outline}
use Rattle.jp_problem.specs.declared.types.Problem.{Problem}
use Rattle.jp_problem.specs.Blocks.{outline_of}
use Rattle.jp_problem.specs.Classes.{Derived, classes_of, with_region, regions, derived}
use Rattle.jp_problem.specs.Made.{IsBlock, IsMade, constant_exprs, member_expr, class_exprs}
use Rattle.jp_problem.specs.MinimumSets.{specials_in}
use Rattle.jp_problem.specs.Problems.{AreItemsOf, rels_of_item, clauses_in, problem_of, region_items}
use Rattle.jp_problem.specs.Sets.{span}
use Rattle.jp_conditions.proofs.Bounds.{Laid}
use Rattle.jp_conditions.proofs.Carrying.{AllGood, regions_good}
use Rattle.jp_conditions.proofs.Deriving.{classes_good}
use Rattle.jp_conditions.proofs.LaidBlocks.{laid, low}
use Rattle.jp_conditions.proofs.WithClasses.{first_good, all_good}
use Rattle.jp_induction.proofs.EachPart.{Each}
use Rattle.jp_lists.proofs.Arounds.{each_from}

abbrev pub IsOneType : Class → Type 0
IsOneType class = (t : Ty) × Each (λ e. type_of e ≡ Some t) (class_exprs class)

-- an expression of a class is its constant or a member
listed : (class : Class) (e : Expr) → In e (class_exprs class) → ((m : Expr × ℕ) × In m class.members × (m.0 ≡ e)) ⊎ (class.constant ≡ Some e)
listed class e h = elim (from_append e (constant_exprs class.constant) (map member_expr class.members) h) [
  | inl k ↦ inr (constant class.constant refl k)
  | inr k ↦ (let f = from_map member_expr e class.members k in inl (f.0, f.1, f.2))
]
  where
    constant : (o : Option Expr) → class.constant ≡ o → In e (constant_exprs o) → class.constant ≡ Some e
    constant (Some k) is (inl same) = is ∙ ap Some same
    constant (Some k) is (inr gone) = absurd gone
    constant None is gone = absurd gone

one_type : (class : Class) → ((x y : Expr) → In x (class_exprs class) → In y (class_exprs class) → type_of x ≡ type_of y) → ((x : Expr) → In x (class_exprs class) → (t : Ty) × (type_of x ≡ Some t)) → IsOneType class
one_type class same typed = by (class_exprs class) refl
  where
    by : (es : List Expr) → class_exprs class ≡ es → IsOneType class
    by [] is = (ty.Number, subst (Each (λ e. type_of e ≡ Some ty.Number)) (sym is) tt)
    by (e ∷ es) is =
        let here : In e (class_exprs class) = subst (In e) (sym is) (inl refl) in
        let t = typed e here in
        (t.0, each_from (λ x. type_of x ≡ Some t.0) (class_exprs class) (λ x h. same x e h here ∙ t.1))

module _ (block : Outline) (laid_out : Laid block (span 0 (length block.rels))) where
  abbrev HaveKinds : Derived → Type 0
  HaveKinds d = (class : Class) → In class d.classes → (x y : Expr) → In x (class_exprs class) → In y (class_exprs class) → type_of x ≡ type_of y

  region_kinds : (d : Derived) (region : ℕ) → AllGood block laid_out d → HaveKinds d → HaveKinds (with_region block.rels (specials_in block) d region)
  region_kinds d region good kinds class h x y p q = elim (from_append class d.classes (classes_of block.rels (specials_in block) d.clauses region (region_items (span 0 (length block.rels)) (specials_in block) region)) h) [
    | inl m ↦ kinds class m x y p q
    | inr m ↦ (classes_good block laid_out region d.clauses good.clauses class m).kind x y (listed class x p) (listed class y q)
  ]

  regions_kinds : (numbers : List ℕ) (d : Derived) → AllGood block laid_out d → HaveKinds d → HaveKinds (fold (with_region block.rels (specials_in block)) d numbers)
  regions_kinds [] d good kinds = kinds
  regions_kinds (region ∷ numbers) d good kinds = regions_kinds numbers (with_region block.rels (specials_in block) d region) (regions_good block laid_out (region ∷ []) d good) (region_kinds d region good kinds)

module _ (query : Query) (items : List Item) (block : IsBlock query) (are : AreItemsOf query items) where
  abbrev outline : Outline
  outline = outline_of query

  abbrev start : Derived
  start = record { clauses = clauses_in outline; classes = [] }

  all_kinds : HaveKinds outline (laid query block) (fold (with_region (map rels_of_item items) (specials_in outline)) start (regions (specials_in outline)))
  all_kinds = subst (λ rels. HaveKinds outline (laid query block) (fold (with_region rels (specials_in outline)) start (regions (specials_in outline)))) (sym are)
      (regions_kinds outline (laid query block) (regions (specials_in outline)) start (record { clauses = first_good items outline are (laid query block) (low query block); classes = λ class x h l. absurd h }) (λ class h. absurd h))

  derived_types : Each IsOneType (derived (problem_of items query)).classes
  derived_types = each_from IsOneType (derived (problem_of items query)).classes (λ class h. one_type class (all_kinds class h)
      (λ x p. (all_good items outline are (laid query block) (low query block)).classes class x h (listed class x p)))

pub made_types : (problem : Problem) → IsMade problem → Each IsOneType problem.classes
made_types problem made = elim made.made [
  | inl e ↦ subst (λ (p : Problem). Each IsOneType p.classes) (sym e) tt
  | inr e ↦ subst (λ (p : Problem). Each IsOneType p.classes) (sym e) (derived_types made.query problem.items made.block made.items)
]
