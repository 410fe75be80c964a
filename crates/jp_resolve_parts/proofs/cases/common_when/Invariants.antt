use Rattle.std.proofs.Common.{◌≡◌, drop, map}
use Rattle.jp_query.specs.Typing.{arm_when}
use Rattle.jp_resolution.specs.Types as spec
use Rattle.jp_resolve_parts.proofs.cases.common_when.Given as goal

abbrev pub invariant-arms : goal.invariant-arms
invariant-arms l = spec.common_type (map arm_when (drop l.arm-index l.arms)) ≡ spec.common_type (map arm_when l.arms)
