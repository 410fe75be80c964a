-- A reference of a level is its own, or one of a part.
use Rattle.std.proofs.Common.{sym, subst, refl, ℕ, inl, inr, List, [], ◌∷◌, ◌++◌, map, Option, Some, None}
use Rattle.std.specs.Prelude.{bit_or}
use Rattle.jp_base.specs.Sets.{Has}
use Rattle.jp_base.proofs.SetLemmas.{has_or}
use Rattle.jp_base.proofs.MaskAlgebra.{has_none}
use Rattle.jp_facts.proofs.Members.{In, in_append_left, in_append_right}
use Rattle.jp_query.specs.declared.Expr.TheOpen.{Expr-F, JoinTree-F, Query-F}
use Rattle.jp_query.specs.Parts.{parts, arm_parts, option_part, sublink_query, trees, conditions, leaf_query}
use Rattle.jp_query.specs.Refs.{only, union, below_64, term_refs, arm_refs, maybe_refs, expr_refs, tree_refs, query_refs}
use Rattle.jp_problem.proofs.UnionLaws.{has_union}

module _ (rel : ℕ) where
  -- some set of the list has the relation
  abbrev pub InOne : List ℕ → Type 0
  InOne sets = (set : ℕ) × In set sets × Has set rel

  one : (set : ℕ) (more : List ℕ) → Has set rel → InOne (set ∷ more)
  one set more h = (set, inl refl, h)

  later : (set : ℕ) (more : List ℕ) → InOne more → InOne (set ∷ more)
  later set more h = (h.0, inr h.1, h.2)

  left_of : (xs ys : List ℕ) → InOne xs → InOne (xs ++ ys)
  left_of xs ys h = (h.0, in_append_left h.0 xs ys h.1, h.2)

  right_of : (xs ys : List ℕ) → InOne ys → InOne (xs ++ ys)
  right_of xs ys h = (h.0, in_append_right h.0 xs ys h.1, h.2)

  of_union : (sets : List ℕ) → Has (union sets) rel → InOne sets
  of_union sets h = let f = (has_union sets rel).0 h in (f.0, f.1, f.2)

  of_maybe : (o : Option ℕ) → Has (maybe_refs o) rel → InOne (option_part o)
  of_maybe None h = absurd (has_none rel h)
  of_maybe (Some set) h = one set [] h

  of_arms : (arms : List (ℕ × ℕ)) → InOne (map arm_refs arms) → InOne (arm_parts arms)
  of_arms [] h = absurd h.1
  of_arms (arm ∷ arms) (set, inl e, h) = elim ((has_or arm.0 arm.1 rel).0 (subst (λ n. Has n rel) (sym e) h)) [ inl p ↦ one arm.0 (arm.1 ∷ arm_parts arms) p | inr p ↦ later arm.0 (arm.1 ∷ arm_parts arms) (one arm.1 (arm_parts arms) p) ]
  of_arms (arm ∷ arms) (set, inr m, h) = later arm.0 (arm.1 ∷ arm_parts arms) (later arm.1 (arm_parts arms) (of_arms arms (set, m, h)))

  -- what a level refers to by itself
  abbrev pub Own : Expr-F ℕ ℕ ℕ ℕ ℕ → Type 0
  Own (Expr-F.Col r col ty nulled) = Has (below_64 (only r)) rel
  Own (Expr-F.Place inner rels) = Has rels rel
  Own x = ⊥

  pub data Referring (y : Expr-F ℕ ℕ ℕ ℕ ℕ) : Type 0 where
    own : Own y → Referring y
    part : InOne (parts y) → Referring y
    sublink : InOne (option_part (sublink_query y)) → Referring y

  pub referring : (y : Expr-F ℕ ℕ ℕ ℕ ℕ) → Has (expr_refs y) rel → Referring y
  referring (Expr-F.Col r col ty nulled) h = own h
  referring (Expr-F.Lit v ty) h = absurd (has_none rel h)
  referring (Expr-F.Place inner rels) h = elim ((has_or inner rels rel).0 h) [ inl p ↦ part (one inner [] p) | inr p ↦ own p ]
  referring (Expr-F.Neg operand) h = part (one operand [] h)
  referring (Expr-F.Sum terms) h = part (of_union (map term_refs terms) h)
  referring (Expr-F.Product factors) h = part (of_union factors h)
  referring (Expr-F.Concat pieces) h = part (of_union pieces h)
  referring (Expr-F.Compare op left right) h = elim ((has_or left right rel).0 h) [ inl p ↦ part (one left (right ∷ []) p) | inr p ↦ part (later left (right ∷ []) (one right [] p)) ]
  referring (Expr-F.Between operand low high) h = elim ((has_or (bit_or operand low) high rel).0 h) [
    | inl p ↦ elim ((has_or operand low rel).0 p) [ inl q ↦ part (one operand (low ∷ high ∷ []) q) | inr q ↦ part (later operand (low ∷ high ∷ []) (one low (high ∷ []) q)) ]
    | inr p ↦ part (later operand (low ∷ high ∷ []) (later low (high ∷ []) (one high [] p)))
  ]
  referring (Expr-F.InList operand list) h = elim ((has_or operand (union list) rel).0 h) [ inl p ↦ part (one operand list p) | inr p ↦ part (later operand list (of_union list p)) ]
  referring (Expr-F.And members) h = part (of_union members h)
  referring (Expr-F.Or members) h = part (of_union members h)
  referring (Expr-F.Not operand) h = part (one operand [] h)
  referring (Expr-F.Test test operand) h = part (one operand [] h)
  referring (Expr-F.Coalesce members) h = part (of_union members h)
  referring (Expr-F.Case operand arms otherwise) h = elim ((has_or (bit_or (maybe_refs operand) (union (map arm_refs arms))) (maybe_refs otherwise) rel).0 h) [
    | inl p ↦ elim ((has_or (maybe_refs operand) (union (map arm_refs arms)) rel).0 p) [
      | inl q ↦ part (left_of (option_part operand) (arm_parts arms ++ option_part otherwise) (of_maybe operand q))
      | inr q ↦ part (right_of (option_part operand) (arm_parts arms ++ option_part otherwise) (left_of (arm_parts arms) (option_part otherwise) (of_arms arms (of_union (map arm_refs arms) q))))
    ]
    | inr p ↦ part (right_of (option_part operand) (arm_parts arms ++ option_part otherwise) (right_of (arm_parts arms) (option_part otherwise) (of_maybe otherwise p)))
  ]
  referring (Expr-F.Exists sub query) h = sublink (one query [] h)
  referring (Expr-F.InSub sub operand query) h = elim ((has_or operand query rel).0 h) [ inl p ↦ part (one operand [] p) | inr p ↦ sublink (one query [] p) ]

  pub data TreeReferring (t : JoinTree-F ℕ ℕ ℕ ℕ ℕ) : Type 0 where
    side : InOne (trees t) → TreeReferring t
    cond : InOne (conditions t) → TreeReferring t
    inner : InOne (option_part (leaf_query t)) → TreeReferring t

  pub tree_referring : (t : JoinTree-F ℕ ℕ ℕ ℕ ℕ) → Has (tree_refs t) rel → TreeReferring t
  tree_referring (JoinTree-F.Base r name table) h = absurd (has_none rel h)
  tree_referring (JoinTree-F.Sub r name query) h = inner (one query [] h)
  tree_referring (JoinTree-F.Join kind left right on) h = elim ((has_or (bit_or left right) (union on) rel).0 h) [
    | inl p ↦ elim ((has_or left right rel).0 p) [ inl q ↦ side (one left (right ∷ []) q) | inr q ↦ side (later left (right ∷ []) (one right [] q)) ]
    | inr p ↦ cond (of_union on p)
  ]
  tree_referring (JoinTree-F.From members conds) h = elim ((has_or (union members) (union conds) rel).0 h) [ inl p ↦ side (of_union members p) | inr p ↦ cond (of_union conds p) ]

  pub data QueryReferring (q : Query-F ℕ ℕ ℕ ℕ ℕ) : Type 0 where
    column : InOne q.columns → QueryReferring q
    tree : Has q.tree rel → QueryReferring q
    where_cond : InOne q.conds → QueryReferring q
    order : InOne q.order → QueryReferring q

  pub query_referring : (q : Query-F ℕ ℕ ℕ ℕ ℕ) → Has (query_refs q) rel → QueryReferring q
  query_referring q h = elim ((has_or (bit_or (bit_or (union q.columns) q.tree) (union q.conds)) (union q.order) rel).0 h) [
    | inr p ↦ order (of_union q.order p)
    | inl p ↦ elim ((has_or (bit_or (union q.columns) q.tree) (union q.conds) rel).0 p) [
      | inr s ↦ where_cond (of_union q.conds s)
      | inl s ↦ elim ((has_or (union q.columns) q.tree rel).0 s) [ inl t ↦ column (of_union q.columns t) | inr t ↦ tree t ]
    ]
  ]
