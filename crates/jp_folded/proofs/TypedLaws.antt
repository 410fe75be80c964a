-- A typed query is typed when it is folded.
use Rattle.std.proofs.Common.{◌≡◌, ◌<◌, sym, subst, true, length, arith}
use Rattle.jp_query.specs.declared.Query.{Query, out-Query}
use Rattle.jp_query.specs.declared.Expr.TheViews.{roll-out-Query}
use Rattle.jp_query.specs.Conditions.{IsTyped, IsBounded, knows_columns, knows_placeholders, tells_relations_apart, keeps_bounds}
use Rattle.jp_query.specs.Scopes.{Schema, Scope}
use Rattle.jp_folding.specs.Folding as fold
use Rattle.jp_folding.proofs.FineDown as fine
use Rattle.jp_folding.proofs.TypeLaws.{query_type_kept}
use Rattle.jp_folded.proofs.BoundsLaws.{query_bounded}
use Rattle.jp_folded.proofs.GatheredUses.{tables_keep, bases_fewer}
use Rattle.jp_folded.proofs.JudgedMade as made
use Rattle.jp_folded.proofs.LeavesLaws.{leaves_apart}
use Rattle.jp_folded.proofs.PlacesLaws.{IsKept, columns_kept, placeholders_kept, apart_kept, query_kept}
use Rattle.jp_folded.proofs.RootedLaws.{leaves_left}

module _ (schema : Schema) (outer : Scope) (q : Query) (typed : IsTyped schema outer q) where
  kept : (tests : _) → IsKept schema tests → made.PassesQuery schema tests outer q → made.PassesQuery schema tests outer (fold.folded q)
  kept tests keeps h = subst (λ x. made.PassesQuery schema tests outer (fold.folded x)) (roll-out-Query q)
      (query_kept schema tests keeps outer (out-Query q) (subst (made.PassesQuery schema tests outer) (sym (roll-out-Query q)) h) (subst (made.PassesQuery schema tells_relations_apart outer) (sym (roll-out-Query q)) typed.distinct))

  pub folded_typed : IsTyped schema outer (fold.folded q)
  folded_typed = record {
    expressions = subst (λ t. t.is_typed ≡ true) (sym (query_type_kept q typed.expressions)) typed.expressions;
    columns = kept knows_columns (columns_kept schema) typed.columns;
    placeholders = kept knows_placeholders (placeholders_kept schema) typed.placeholders;
    distinct = kept tells_relations_apart (apart_kept schema) typed.distinct;
    apart = leaves_apart q typed.apart;
    tables = tables_keep (λ table. table < length schema) q typed.tables;
    rooted = leaves_left q typed.rooted;
    few = omega (arith, bases_fewer q, typed.few);
  }

  pub folded_bounded : IsBounded schema outer q → IsBounded schema outer (fold.folded q)
  folded_bounded h = subst (λ x. made.PassesQuery schema keeps_bounds outer (fold.folded x)) (roll-out-Query q)
      (query_bounded schema outer (out-Query q) (subst (fine.FineQuery schema outer) (sym (roll-out-Query q)) (record { typed = typed.expressions; knows = typed.columns; apart = typed.distinct })) (subst (made.PassesQuery schema keeps_bounds outer) (sym (roll-out-Query q)) h))
