-- What is true of each query that is defined is true of the one that is answered.
use Rattle.std.proofs.Common.{◌≡◌, sym, true, [], Ok, Err, inl, inr}
use Rattle.std.specs.Prelude.{IfOk}
use Rattle.jp_ast.specs.declared.tree.Stmt.{Stmt}
use Rattle.jp_catalog.specs.declared.types.Catalog.{Catalog}
use Rattle.jp_statements.specs.Whole.{is_whole}
use Rattle.jp_query.specs.declared.Query.{Query}
use Rattle.jp_query.specs.Conditions.{IsBounded, IsTyped}
use Rattle.jp_query.specs.Freshness.{IsFresh}
use Rattle.jp_resolution.specs.Answers.{Answer, Gives}
use Rattle.jp_resolution.specs.Resolving.{resolved}
use Rattle.jp_resolution.specs.Schemas.{schema_of}
use Rattle.jp_resolved.specs.Sorted.{SortsBySelected}
use Rattle.jp_resolved.proofs.TypedQueries.{query_typed, query_bounded}
use Rattle.jp_resolved.proofs.FreshQueries.{query_fresh, query_sorts}

given_ok : (P : Query → Type 0) (defined answer : Answer Query) → ((q : Query) → defined ≡ Ok q → P q) → Gives defined answer → IfOk answer P
given_ok P defined (Ok q) h (inl memory) = cc
given_ok P defined (Ok q) h (inr same) = h q (sym same)
given_ok P defined (Err e) h given = tt

module _ (catalog : Catalog) (stmt : Stmt) (answer : Answer Query) (given : Gives (resolved catalog stmt) answer) where
  pub answer_typed : is_whole stmt ≡ true → IfOk answer (IsTyped (schema_of catalog) [])
  answer_typed whole = given_ok (IsTyped (schema_of catalog) []) (resolved catalog stmt) answer (λ q h. query_typed catalog stmt q whole h) given

  pub answer_bounded : is_whole stmt ≡ true → IfOk answer (IsBounded (schema_of catalog) [])
  answer_bounded whole = given_ok (IsBounded (schema_of catalog) []) (resolved catalog stmt) answer (λ q h. query_bounded catalog stmt q whole h) given

  pub answer_fresh : is_whole stmt ≡ true → IfOk answer IsFresh
  answer_fresh whole = given_ok IsFresh (resolved catalog stmt) answer (λ q h. query_fresh catalog stmt q whole h) given

  pub answer_sorts : is_whole stmt ≡ true → IfOk answer SortsBySelected
  answer_sorts whole = given_ok SortsBySelected (resolved catalog stmt) answer (λ q h. query_sorts catalog stmt q whole h) given
