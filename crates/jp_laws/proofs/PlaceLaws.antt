-- Placeholders: the value where none of the relations is present, and where one is.
use Rattle.std.proofs.Common.{◌≡◌, ◌∙◌, ap, sym, ℕ, ◌<◌, inl, inr, true, false, List, Some, None}
use Rattle.std.specs.Prelude.{is_some, if◌then◌else◌}
use Rattle.std.proofs.lemmas.Bool.{cases_Bool, false≢true}
use Rattle.jp_base.specs.Sets.{Has}
use Rattle.jp_base.specs.declared.values.Value.TheVariants as value
use Rattle.jp_query.specs.declared.Expr.{Expr}
use Rattle.jp_query.specs.declared.Expr.TheVariants as expr
use Rattle.jp_query.specs.Meaning.{Row, Env, ValueIn, Tuples, SortKey, RowsIn, any_present, in_place, expr_value, tree_tuples, order_key, output_value, query_rows, value_of}
use Rattle.jp_query.proofs.FoldLaws as laws
use Rattle.jp_query.proofs.PresentLaws.{some_present, present_some}

module _ (rels : ℕ) (env : Env) where
  absent : ((i : ℕ) → Has rels i → env i ≡ None) → any_present rels env ≡ false
  absent none = elim (cases_Bool (any_present rels env)) [
    | inl some ↦ (let it = some_present rels env some in absurd (false≢true (sym (ap is_some (none it.0 it.2)) ∙ it.3)))
    | inr e ↦ e
  ]

  present : (i : ℕ) (row : Row) → i < 64 → Has rels i → env i ≡ Some row → any_present rels env ≡ true
  present i row low member e = present_some rels env i low member (ap is_some e)

module _ (tables : ℕ → List Row) (inner : Expr) (rels : ℕ) (env : Env) where
  place : value_of tables (expr.Place inner rels) env ≡ (if any_present rels env then value_of tables inner env else value.Null)
  place = ap (λ (v : ValueIn). v env) (laws.at-Place ValueIn Tuples SortKey ValueIn RowsIn (expr_value in_place) (tree_tuples tables) order_key output_value query_rows inner rels)

  pub place_absent : ((i : ℕ) → Has rels i → env i ≡ None) → value_of tables (expr.Place inner rels) env ≡ value.Null
  place_absent none = place ∙ ap (λ b. if b then value_of tables inner env else value.Null) (absent rels env none)

  pub place_present : (i : ℕ) (row : Row) → i < 64 → Has rels i → env i ≡ Some row → value_of tables (expr.Place inner rels) env ≡ value_of tables inner env
  place_present i row low member e = place ∙ ap (λ b. if b then value_of tables inner env else value.Null) (present rels env i row low member e)
