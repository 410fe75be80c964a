use Rattle.std.proofs.Common.{◌≡◌, ◌++◌, drop, map, fold}
use Rattle.std.specs.Prelude.{max}
use Rattle.jp_query.specs.Parts.{option_part}
use Rattle.jp_query.specs.Scopes.{greatest, arm_result}
use Rattle.jp_resolution.specs.Types as spec
use Rattle.jp_resolve_parts.proofs.cases.result_bound.Given as goal

abbrev pub invariant-arms : goal.invariant-arms
invariant-arms l = fold max l.most (map spec.bound_in (map arm_result (drop l.arm-index l.arms) ++ option_part l.otherwise)) ≡ greatest (map spec.bound_in (map arm_result l.arms ++ option_part l.otherwise))
