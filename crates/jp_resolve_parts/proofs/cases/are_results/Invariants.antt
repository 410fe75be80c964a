use Rattle.std.proofs.Common.{◌≡◌, ◌++◌, drop, map}
use Rattle.std.specs.List.{list_all}
use Rattle.jp_query.specs.Parts.{option_part}
use Rattle.jp_query.specs.Scopes.{arm_result}
use Rattle.jp_resolution.specs.Types as spec
use Rattle.jp_resolve_parts.proofs.cases.are_results.Given as goal

abbrev pub invariant-arms : goal.invariant-arms
invariant-arms l = list_all (spec.can_be l.needed) (map arm_result (drop l.arm-index l.arms) ++ option_part l.otherwise) ≡ list_all (spec.can_be l.needed) (map arm_result l.arms ++ option_part l.otherwise)
