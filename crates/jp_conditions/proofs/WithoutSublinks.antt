-- Expressions without sublinks are equal where they are the same.
use Rattle.std.proofs.Common.{◌≡◌, ◌∙◌, sym, subst, refl, inl, inr, Bool, true, false, List, [], ◌∷◌, ◌++◌, map}
use Rattle.std.specs.Prelude.{is_some}
use Rattle.std.specs.List.{list_any}
use Rattle.std.proofs.lemmas.Bool.{or_parts}
use Rattle.jp_facts.proofs.Members.{In, to_in, from_append, from_map, any_none, in_map}
use Rattle.jp_induction.proofs.EachPart.{Each, parts_map}
use Rattle.jp_induction.proofs.Induction.{expr_alone}
use Rattle.jp_query.specs.declared.Expr.{Expr}
use Rattle.jp_query.specs.declared.JoinTree.{JoinTree}
use Rattle.jp_query.specs.declared.Order.{Order}
use Rattle.jp_query.specs.declared.Output.{Output}
use Rattle.jp_query.specs.declared.Query.{Query}
use Rattle.jp_query.specs.declared.Expr.TheOpen.{Expr-F}
use Rattle.jp_query.specs.declared.Expr.TheFolds.{map-Expr, para-JoinTree, para-Order, para-Output, para-Query, para-roll-Expr, fold-roll-Expr}
use Rattle.jp_query.specs.declared.Expr.TheViews.{roll-Expr}
use Rattle.jp_query.specs.Layers.{ExprLayer}
use Rattle.jp_query.specs.Equality.{same_expr}
use Rattle.jp_query.specs.Freshness.{Sublink, Found, found_in, expr_found, tree_found, order_found, output_found, query_found}
use Rattle.jp_query.specs.Parts.{all_in, parts, sublink_query}
use Rattle.jp_query.specs.Subexpressions.{sublinks_of}
use Rattle.jp_query.specs.Typing.{is_true_test}
use Rattle.jp_laws.proofs.EqualityLaws.{same_are_equal}
use Rattle.jp_problem.specs.Equalities.{expr_has_sublink, has_sublink}
use Rattle.jp_conditions.proofs.Judging.{each_in}

abbrev beside_e : Expr → Expr × Found
beside_e x = (x, sublinks_of x)

abbrev beside_t : JoinTree → JoinTree × Found
beside_t x = (x, para-JoinTree Found Found Found Found Found expr_found tree_found order_found output_found query_found x)

abbrev beside_o : Order → Order × Found
beside_o x = (x, para-Order Found Found Found Found Found expr_found tree_found order_found output_found query_found x)

abbrev beside_u : Output → Output × Found
beside_u x = (x, para-Output Found Found Found Found Found expr_found tree_found order_found output_found query_found x)

abbrev beside_q : Query → Query × Found
beside_q x = (x, para-Query Found Found Found Found Found expr_found tree_found order_found output_found query_found x)

abbrev levels : ExprLayer → Expr-F (Expr × Found) (JoinTree × Found) (Order × Found) (Output × Found) (Query × Found)
levels = map-Expr Expr JoinTree Order Output Query (Expr × Found) (JoinTree × Found) (Order × Found) (Output × Found) (Query × Found) beside_e beside_t beside_o beside_u beside_q

abbrev tested : ExprLayer → Expr-F Bool (Unit {0}) (Unit {0}) (Unit {0}) (Unit {0})
tested = map-Expr Expr JoinTree Order Output Query Bool (Unit {0}) (Unit {0}) (Unit {0}) (Unit {0}) has_sublink (λ t. tt) (λ o. tt) (λ u. tt) (λ q. tt)

abbrev IsPlain : Expr → Type 0
IsPlain e = has_sublink e ≡ false → (s : Sublink) → In s (sublinks_of e) → ⊥

-- without a sublink here only those of the parts are left
only_parts : (x : ExprLayer) → is_some (sublink_query (tested x)) ≡ false → (s : Sublink) → In s (expr_found (levels x)) → In s (all_in (map found_in (parts (levels x))) ++ [])
only_parts (Expr-F.Exists sub query) e s h = cc
only_parts (Expr-F.InSub sub operand query) e s h = cc
only_parts x e s h = h

in_some : (s : Sublink) (xs : List (Expr × Found)) → In s (all_in (map found_in xs)) → (x : Expr × Found) × In x xs × In s x.1
in_some s [] h = absurd h
in_some s (x ∷ xs) h = elim (from_append s x.1 (all_in (map found_in xs)) h) [ inl k ↦ (x, inl refl, k) | inr k ↦ (let m = in_some s xs k in (m.0, inr m.1, m.2)) ]

plain_level : (x : ExprLayer) → Each IsPlain (parts x) → IsPlain (roll-Expr x)
plain_level x each e s h =
    let test = or_parts (is_some (sublink_query (tested x))) (list_any is_true_test (parts (tested x))) (sym (fold-roll-Expr Bool (Unit {0}) (Unit {0}) (Unit {0}) (Unit {0}) expr_has_sublink (λ t. tt) (λ o. tt) (λ u. tt) (λ q. tt) x) ∙ e) in
    let here = only_parts x test.0 s (subst (In s) (para-roll-Expr Found Found Found Found Found expr_found tree_found order_found output_found query_found x) h) in
    elim (from_append s (all_in (map found_in (parts (levels x)))) [] here) [
      | inr gone ↦ absurd gone
      | inl k ↦ (let found = in_some s (parts (levels x)) k in
          let origin = from_map beside_e found.0 (parts x) (subst (In found.0) (parts_map beside_e beside_t beside_o beside_u beside_q x) found.1) in
          let none : has_sublink origin.0 ≡ false = any_none is_true_test (has_sublink origin.0) (parts (tested x)) test.1 (subst (In (has_sublink origin.0)) (sym (parts_map has_sublink (λ t. tt) (λ o. tt) (λ u. tt) (λ q. tt) x)) (in_map has_sublink origin.0 (parts x) origin.1)) in
          each_in IsPlain (parts x) origin.0 each origin.1 none s (subst (λ (p : Expr × Found). In s p.1) (sym origin.2) found.2))
    ]

pub plain_same : (a b : Expr) → has_sublink a ≡ false → same_expr a b ≡ true → a ≡ b
plain_same a b e same = same_are_equal a b (λ s t p q n. absurd (expr_alone IsPlain plain_level a e s (to_in s (sublinks_of a) p))) same
