use Rattle.std.proofs.Common.{◌≡◌, drop}
use Rattle.std.specs.Prelude.{find}
use Rattle.jp_session.specs.Names.{is_relation}
use Rattle.jp_session.proofs.names.push_name.Given as goal

abbrev pub invariant-leaves : goal.invariant-leaves
invariant-leaves l = record {
  same : l.names ≡ l.initial.names;
  rest : find (is_relation l.rel) (drop l.leaf-index l.leaves) ≡ find (is_relation l.rel) l.leaves;
}
