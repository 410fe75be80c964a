-- A list of conditions at a map, from its first one on.
use Rattle.std.proofs.Common.{◌≡◌, ◌∙◌, ap, sym, subst, refl, ℕ, ◌+◌, ◌<◌, ◌≤◌, true, false, ◌&&◌, List, [], ◌∷◌, length, get_or, drop, arith}
use Rattle.std.proofs.lemmas.List.{at_drop_more, at_drop_all}
use Rattle.jp_base.specs.declared.truth.Truth.{Truth}
use Rattle.jp_query.specs.declared.Expr.{Expr}
use Rattle.jp_query.specs.Operators.{is_true}
use Rattle.jp_frame.specs.Maps.{Map}
use Rattle.jp_joins.specs.Meant.{Meant, list_holds}
use Rattle.jp_joins.specs.Working.{IsKnown, truth_at}

pub none_holds : (meant : Meant) (m : Map) → list_holds meant [] m ≡ true
unfolding list_holds
none_holds meant m = refl

pub holds_first : (meant : Meant) (m : Map) (e : Expr) (conds : List Expr) → list_holds meant (e ∷ conds) m ≡ (is_true (truth_at meant m e) && list_holds meant conds m)
unfolding list_holds
holds_first meant m e conds = refl

pub holds_rest : (meant : Meant) (m : Map) (conds : List Expr) (i : ℕ) (e : Expr) → i < length conds → e ≡ get_or conds i e
    → list_holds meant (drop i conds) m ≡ (is_true (truth_at meant m e) && list_holds meant (drop (i + 1) conds) m)
holds_rest meant m conds i e h is = at_drop_more (λ es. list_holds meant es m) conds i e h ∙ holds_first meant m (get_or conds i e) (drop (i + 1) conds)
    ∙ ap (λ x. is_true (truth_at meant m x) && list_holds meant (drop (i + 1) conds) m) (sym is)

pub not_held : (meant : Meant) (m : Map) (conds : List Expr) (i : ℕ) (e : Expr) (t : Truth) → i < length conds → e ≡ get_or conds i e → t ≡ truth_at meant m e → is_true t ≡ false
    → list_holds meant (drop i conds) m ≡ list_holds meant conds m → false ≡ list_holds meant conds m
not_held meant m conds i e t h is at ne same = sym (holds_rest meant m conds i e h is ∙ ap (λ b. b && list_holds meant (drop (i + 1) conds) m) (ap is_true (sym at) ∙ ne)) ∙ same

pub held : (meant : Meant) (m : Map) (conds : List Expr) (i : ℕ) (e : Expr) (t : Truth) → i < length conds → e ≡ get_or conds i e → t ≡ truth_at meant m e → is_true t ≡ true
    → list_holds meant (drop i conds) m ≡ list_holds meant conds m → list_holds meant (drop (i + 1) conds) m ≡ list_holds meant conds m
held meant m conds i e t h is at eq same = sym (holds_rest meant m conds i e h is ∙ ap (λ b. b && list_holds meant (drop (i + 1) conds) m) (ap is_true (sym at) ∙ eq)) ∙ same

-- one that is known to be true isn't tested
pub known_held : (meant : Meant) (m : Map) (conds : List Expr) (i known : ℕ) → i < length conds → i ≡ known → IsKnown meant conds known m → list_holds meant (drop i conds) m ≡ list_holds meant conds m → list_holds meant (drop (i + 1) conds) m ≡ list_holds meant conds m
known_held meant m [] i known h is true_there same = absurd (omega (arith, h))
known_held meant m (e ∷ es) i known h is true_there same =
    let conds = e ∷ es in
    let here : is_true (truth_at meant m (get_or conds i e)) ≡ true = subst (λ k. k < length conds → is_true (truth_at meant m (get_or conds k e)) ≡ true) (sym is) (true_there e) h in
    sym (at_drop_more (λ cs. list_holds meant cs m) conds i e h ∙ holds_first meant m (get_or conds i e) (drop (i + 1) conds) ∙ ap (λ b. b && list_holds meant (drop (i + 1) conds) m) here) ∙ same

pub all_held : (meant : Meant) (m : Map) (conds : List Expr) (i : ℕ) → length conds ≤ i → list_holds meant (drop i conds) m ≡ list_holds meant conds m → true ≡ list_holds meant conds m
all_held meant m conds i past same = sym (at_drop_all (λ es. list_holds meant es m) conds i past ∙ none_holds meant m) ∙ same
