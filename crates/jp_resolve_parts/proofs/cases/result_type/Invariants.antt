use Rattle.std.proofs.Common.{◌≡◌, ◌++◌, drop, map}
use Rattle.jp_query.specs.Parts.{option_part}
use Rattle.jp_query.specs.Scopes.{arm_result}
use Rattle.jp_resolution.specs.Types as spec
use Rattle.jp_resolve_parts.proofs.cases.result_type.Given as goal

abbrev pub invariant-arms : goal.invariant-arms
invariant-arms l = spec.common_type (map arm_result (drop l.arm-index l.arms) ++ option_part l.otherwise) ≡ spec.common_type (map arm_result l.arms ++ option_part l.otherwise)
