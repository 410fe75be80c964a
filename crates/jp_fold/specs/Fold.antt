-- Which queries can be folded: those that are typed and bounded over some schema.
use Rattle.jp_query.specs.declared.Query.{Query}
use Rattle.jp_query.specs.Conditions.{IsTyped, IsBounded}
use Rattle.jp_query.specs.Scopes.{Schema, Scope}

pub record CanFold (query : Query) : Type 0 where
  pub schema : Schema
  pub outer : Scope
  pub typed : IsTyped schema outer query
  pub bounded : IsBounded schema outer query
