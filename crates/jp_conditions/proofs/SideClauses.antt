-- A clause whose needs lie in the right side of a join stands in that side.
use Rattle.std.proofs.Common.{◌≡◌, ◌∙◌, sym, subst, suc, length, ℕ, ◌⊎◌, inl, inr, List, arith}
use Rattle.std.specs.Prelude.{bit_or, Contains}
use Rattle.std.proofs.lemmas.Bool.{cases_eq}
use Rattle.jp_base.specs.Sets.{Has, Within, Meets}
use Rattle.jp_base.proofs.MaskAlgebra.{in_right}
use Rattle.jp_facts.proofs.Members.{In, to_in, from_in}
use Rattle.jp_query.specs.declared.Query.{Query}
use Rattle.jp_problem.specs.declared.types.Clause.{Clause}
use Rattle.jp_problem.specs.declared.types.Item.{Item}
use Rattle.jp_problem.specs.declared.types.Outline.{Outline}
use Rattle.jp_problem.specs.declared.types.Problem.{Problem}
use Rattle.jp_problem.specs.declared.types.Special.{Special}
use Rattle.jp_problem.specs.Blocks.{outline_of}
use Rattle.jp_problem.specs.Classes.{derived}
use Rattle.jp_problem.specs.Made.{IsBlock, IsMade}
use Rattle.jp_problem.specs.MinimumSets.{specials_in}
use Rattle.jp_problem.specs.Problems.{AreItemsOf, problem_of}
use Rattle.jp_problem.specs.Sets.{span}
use Rattle.jp_conditions.proofs.Bounds.{Laid, written_items, bounded, stands_at}
use Rattle.jp_conditions.proofs.Deriving.{Good, Under}
use Rattle.jp_conditions.proofs.LaidBlocks.{laid, low}
use Rattle.jp_conditions.proofs.Nesting.{apart_sides, captured, in_order, left_some}
use Rattle.jp_conditions.proofs.Rules.{right_rules_of}
use Rattle.jp_conditions.proofs.Sources.{special_sides}
use Rattle.jp_conditions.proofs.Stages.{least_found}
use Rattle.jp_conditions.proofs.Standing.{Related}
use Rattle.jp_conditions.proofs.WithClasses.{first_good, good}

-- the region is the join's number, or that of a join in its right side
abbrev pub StandsIn : List Special → ℕ → Special → Type 0
StandsIn joins region q = (region ≡ q.no) ⊎ ((r : Special) × Contains joins r × (r.no ≡ region) × Within (bit_or r.syn_left r.syn_right) q.syn_right)

module _ (block : Outline) (laid : Laid block (span 0 (length block.rels))) where
  abbrev all : ℕ
  all = span 0 (length block.rels)

  abbrev joins : List Special
  joins = specials_in block

  module _ (c : Clause) (g : Good block laid c) (q : Special) (h : In q joins) (inside : Within c.req q.syn_right) where
    -- If all joins there stood under the clause's region, take the first item that it needs: by the rules of the right set of
    -- q, items before it or outside the side would be needed too.
    never : ((t : Special) → In t joins → Within (written_items t) (written_items q) → Meets t.min_right c.req → Under block laid t c.region) → ⊥
    never under = elim (least_found c.req (suc g.needed.some.0)) [
      | inr none ↦ none g.needed.some.0 (omega arith) g.needed.some.1
      | inl first ↦ elim ((right_rules_of block all laid q h).own first.0 (inside first.0 first.1)) [
        | inl p ↦ (let took = g.needed.closed q h (under q h (λ i m. m) (first.0, p, first.1)) (first.0, p, first.1) in
            let i = left_some block all laid q h in
            apart_sides block all laid q h (i.0, (bounded block all laid q h).left i.0 i.1, inside i.0 (took.0 i.0 i.1)))
        | inr w ↦ (let here = under w.0 w.1 (λ i m. in_right q.syn_left q.syn_right i (w.3 i m)) (first.0, w.4, first.1) in
            let took = g.needed.closed w.0 w.1 here (first.0, w.4, first.1) in
            let i = left_some block all laid w.0 w.1 in
            let before = in_order block all laid w.0 i.0 first.0 w.1 i.1 w.4 in
            let behind = first.2 i.0 (took.0 i.0 i.1) in
            omega (arith, before, behind))
      ]
    ]

    of_join : (r : Special) → In r joins → r.no ≡ c.region → StandsIn joins c.region q
    of_join r k e = elim (cases_eq r.no q.no) [
      | inl same ↦ inl (sym e ∙ same)
      | inr other ↦ by (laid.standing.related (special_sides r) (special_sides q) (stands_at block all laid r k) (stands_at block all laid q h) other)
    ]
      where
        of_r : Has r.syn_right g.needed.some.0
        of_r = (bounded block all laid r k).right g.needed.some.0 (g.needed.within r k e g.needed.some.0 g.needed.some.1)

        of_q : Has q.syn_right g.needed.some.0
        of_q = inside g.needed.some.0 g.needed.some.1

        by : Related (special_sides r) (special_sides q) → StandsIn joins c.region q
        by (Related.in_its_left w n) = absurd (apart_sides block all laid q h (g.needed.some.0, w g.needed.some.0 (in_right r.syn_left r.syn_right g.needed.some.0 of_r), of_q))
        by (Related.in_its_right w n) = inr (r, from_in r joins k, e, w)
        by (Related.has_left w n) = absurd (apart_sides block all laid r k (g.needed.some.0, w g.needed.some.0 (in_right q.syn_left q.syn_right g.needed.some.0 of_q), of_r))
        by (Related.has_right w n) = absurd (never (λ t m v met.
            let took = captured block all laid r t k m (λ i p. w i (v i p)) (met.0, g.needed.within r k e met.0 met.2, met.1) in
            inr (r, from_in r joins k, e, record { left = took.left; right = took.right })))
        by (Related.apart away) = absurd (away (g.needed.some.0, in_right r.syn_left r.syn_right g.needed.some.0 of_r, in_right q.syn_left q.syn_right g.needed.some.0 of_q))

    pub stands_in : StandsIn joins c.region q
    stands_in = elim g.region [ inl e ↦ absurd (never (λ t m v met. inl e)) | inr r ↦ of_join r.0 r.1 r.2 ]

abbrev pub EachStands : Problem → Type 0
EachStands problem = (c : Clause) (q : Special) → Contains problem.clauses c → Contains problem.joins q → Within c.req q.syn_right → StandsIn problem.joins c.region q

module _ (query : Query) (items : List Item) (block : IsBlock query) (are : AreItemsOf query items) where
  plain_stands : EachStands (problem_of items query)
  plain_stands c q h k w = stands_in (outline_of query) (laid query block) c (first_good items (outline_of query) are (laid query block) (low query block) c (to_in c (problem_of items query).clauses h)) q (to_in q (specials_in (outline_of query)) k) w

  derived_stands : EachStands (derived (problem_of items query))
  derived_stands c q h k w = stands_in (outline_of query) (laid query block) c (good items (outline_of query) are (laid query block) (low query block) c h) q (to_in q (specials_in (outline_of query)) k) w

pub made_stands : (problem : Problem) → IsMade problem → EachStands problem
made_stands problem made = elim made.made [
  | inl e ↦ subst EachStands (sym e) (plain_stands made.query problem.items made.block made.items)
  | inr e ↦ subst EachStands (sym e) (derived_stands made.query problem.items made.block made.items)
]
