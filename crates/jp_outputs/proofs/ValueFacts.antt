-- Values of lent expressions, one after the other.
use Rattle.std.proofs.Common.{◌≡◌, ◌∙◌, ap, ap₂, sym, subst, ℕ, ◌+◌, ◌<◌, List, [], ◌∷◌, ◌++◌, map, length, get_or, take}
use Rattle.std.specs.Prelude.{All}
use Rattle.std.specs.Borrow.{Bor}
use Rattle.std.proofs.lemmas.List.{take_more}
use Rattle.jp_base.specs.declared.values.Value.{Value}
use Rattle.jp_query.specs.declared.Expr.{Expr}
use Rattle.jp_query.specs.Meaning.{Row}
use Rattle.jp_frame.specs.Maps.{Map}
use Rattle.jp_induction.proofs.EachPart.{Each, each_of, all_of_each, each_mapped, each_in_all, append_map}
use Rattle.jp_joins.specs.Lending.{IsLentFor, numbers_in, numbers_in_all}
use Rattle.jp_joins.specs.Meant.{Meant, value_at}
use Rattle.jp_joins.specs.declared.lending.Lent.{Lent}
use Rattle.jp_outputs.specs.Exprs.{lent_expr, lent_exprs}
use Rattle.jp_outputs.specs.Values.{values_at}

pub at_lent : (P : Expr → Type 0) (es : List (Bor Expr)) (i : ℕ) (e : Bor Expr) → i < length es → e ≡ get_or es i e → All P (lent_exprs es) → P e.now
at_lent P es i e h is all = subst (λ (x : Bor Expr). P x.now) (sym is) (all_of_each (λ (x : Bor Expr). P x.now) es (each_mapped P lent_expr es (each_of P (lent_exprs es) all)) i e h)

-- the rows lent for a list of expressions are lent for each of them
pub lent_each : (rows : ℕ → List Row) (xs : List Lent) (es : List Expr) → All (IsLentFor rows xs) (numbers_in_all es) → All (λ e. All (IsLentFor rows xs) (numbers_in e)) es
lent_each rows xs es all k d low = all_of_each (IsLentFor rows xs) (numbers_in (get_or es k d))
    (all_of_each (λ e. Each (IsLentFor rows xs) (numbers_in e)) es (each_mapped (Each (IsLentFor rows xs)) numbers_in es (each_in_all (IsLentFor rows xs) (map numbers_in es) (each_of (IsLentFor rows xs) (numbers_in_all es) all))) k d low)

pub values_more : (meant : Meant) (m : Map) (es : List (Bor Expr)) (i : ℕ) (e : Bor Expr) (old new : Row) (v : Value) → i < length es → e ≡ get_or es i e
    → old ≡ values_at meant (lent_exprs (take i es)) m → new ≡ old ++ v ∷ [] → v ≡ value_at meant m e.now → new ≡ values_at meant (lent_exprs (take (i + 1) es)) m
values_more meant m es i e old new v h is before more one =
    let value : Bor Expr → Value = λ x. value_at meant m x.now in
    more ∙ ap₂ (λ (vs : Row) (w : Value). vs ++ w ∷ []) before (one ∙ ap value is)
    ∙ sym (ap (λ xs. values_at meant (lent_exprs xs) m) (take_more es i e h)
    ∙ ap (map (value_at meant m)) (append_map lent_expr (take i es) (get_or es i e ∷ []))
    ∙ append_map (value_at meant m) (lent_exprs (take i es)) ((get_or es i e).now ∷ []))
