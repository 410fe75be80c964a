use Rattle.std.proofs.Common.{◌≡◌, ◌++◌, drop, map}
use Rattle.std.specs.List.{list_all}
use Rattle.jp_query.specs.Parts.{option_part}
use Rattle.jp_query.specs.Typing.{arm_when}
use Rattle.jp_resolution.specs.Types as spec
use Rattle.jp_resolve_parts.proofs.cases.are_compared.Given as goal

abbrev pub invariant-arms : goal.invariant-arms
invariant-arms l = list_all (spec.can_be l.needed) (map arm_when (drop l.arm-index l.arms)) ≡ list_all (spec.can_be l.needed) (option_part l.operand ++ map arm_when l.arms)
