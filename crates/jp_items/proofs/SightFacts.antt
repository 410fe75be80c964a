-- What is seen at a tuple.
use Rattle.std.proofs.Common.{◌≡◌, ◌∙◌, ap, sym, subst, refl, ℕ, zero, suc, ◌+◌, ◌<◌, ◌≤◌, ◌⊎◌, ◌↔◌, inl, inr, ◌^◌, Bool, true, false, List, [], ◌∷◌, map, get_or, Some, None, arith}
use Rattle.std.specs.Prelude.{Option, IsSome, IsTrue, is_some, if◌then◌else◌}
use Rattle.std.proofs.lemmas.Bool.{cases_eq}
use Rattle.jp_base.specs.Sets.{Has}
use Rattle.jp_base.specs.declared.values.Value.{Value}
use Rattle.jp_base.specs.declared.values.Value.TheVariants as value
use Rattle.jp_query.specs.Meaning.{Env, Row, cell_in, has, no_outer_rows}
use Rattle.jp_query.specs.Tables.{TableRows}
use Rattle.jp_frame.specs.Maps.{Map, at}
use Rattle.jp_framed.specs.Environments.{env_from, row_at, source_at}
use Rattle.jp_items.specs.Params.{Cells, env_given, row_given}
use Rattle.jp_items.specs.Rows.{rows_meant}
use Rattle.jp_items.specs.Seeing.{place_from, place_of, seen_at}
use Rattle.jp_items.specs.Sights.{env_around, sight_env, source_of, sources_in}
use Rattle.jp_items.specs.declared.sight.Sight.{Sight}
use Rattle.jp_items.specs.declared.rows.ItemRows.{ItemRows}
use Rattle.jp_items.proofs.SeeingFacts.{seen_by_place}

module _ (sight : Sight) (m : Map) (rel : ℕ) where
  by_place : sight_env sight m rel ≡ seen_at (sources_in sight) (env_around sight.around) m (place_of sight.layout.now rel) rel
  unfolding sight_env
  by_place = seen_by_place 0 sight.layout.now (sources_in sight) (env_around sight.around) m rel

  pub outside : None ≡ place_of sight.layout.now rel → sight_env sight m rel ≡ env_around sight.around rel
  outside is = by_place ∙ ap (λ p. seen_at (sources_in sight) (env_around sight.around) m p rel) (sym is)

  pub in_item : (i : ℕ) → Some i ≡ place_of sight.layout.now rel → sight_env sight m rel ≡ row_at (source_of sight i) (at m i) rel
  in_item i is = by_place ∙ ap (λ p. seen_at (sources_in sight) (env_around sight.around) m p rel) (sym is)

  pub in_row : (i r : ℕ) → Some i ≡ place_of sight.layout.now rel → Some r ≡ at m i → sight_env sight m rel ≡ row_at (source_of sight i) (Some r) rel
  in_row i r is row = in_item i is ∙ ap (λ x. row_at (source_of sight i) x rel) (sym row)

  pub in_none : (i : ℕ) → Some i ≡ place_of sight.layout.now rel → None ≡ at m i → sight_env sight m rel ≡ None
  in_none i is row = in_item i is ∙ ap (λ x. row_at (source_of sight i) x rel) (sym row)

  pub cell_seen : (o : Option Row) (v : Value) (col : ℕ) → sight_env sight m rel ≡ o → v ≡ cell_in o col → v ≡ cell_in (sight_env sight m rel) col
  cell_seen o v col is same = same ∙ ap (λ x. cell_in x col) (sym is)

  pub has_seen : (o : Option Row) (b : Bool) → sight_env sight m rel ≡ o → b ≡ is_some o → b ≡ is_some (sight_env sight m rel)
  has_seen o b is same = same ∙ ap is_some (sym is)

-- ---- sets of relations

some_if : (b : Bool) (row : Row) → b ≡ is_some (if b then Some row else None)
some_if true row = refl
some_if false row = refl

pub around_has : (cells : Cells) (present rel : ℕ) → has present rel ≡ is_some (env_given cells present rel)
around_has cells present rel = some_if (has present rel) (row_given cells rel)

pub present_more : (env : Env) (rel set new : ℕ) (found : Bool) → found ≡ is_some (env rel) → ((i : ℕ) → Has set i ↔ ((i < rel) × IsSome (env i)))
    → ((i : ℕ) → Has new i ↔ (Has set i ⊎ ((i ≡ rel) × IsTrue found))) → (i : ℕ) → Has new i ↔ ((i < rel + 1) × IsSome (env i))
present_more env rel set new found e inv more i = (to, from)
  where
    to : Has new i → (i < rel + 1) × IsSome (env i)
    to h = elim ((more i).0 h) [
      | inl p ↦ (omega (arith, ((inv i).0 p).0), ((inv i).0 p).1)
      | inr p ↦ (omega (arith, p.0), subst (λ k. IsSome (env k)) (sym p.0) (sym e ∙ p.1))
    ]

    from : (i < rel + 1) × IsSome (env i) → Has new i
    from h = elim (cases_eq i rel) [
      | inl same ↦ (more i).1 (inr (same, e ∙ subst (λ k. IsSome (env k)) same h.1))
      | inr other ↦ (more i).1 (inl ((inv i).1 (omega (arith, h.0, other), h.1)))
    ]
