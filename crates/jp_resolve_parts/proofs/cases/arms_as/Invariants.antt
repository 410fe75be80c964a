use Rattle.std.proofs.Common.{◌≡◌, ◌++◌, map}
use Rattle.jp_resolution.specs.Types as spec
use Rattle.jp_resolve_parts.proofs.cases.arms_as.Given as goal

abbrev pub invariant-arms : goal.invariant-arms
invariant-arms l = l.exprs ++ map (spec.arm_as l.when l.then) l.arm-iterator.rest.items ≡ map (spec.arm_as l.when l.then) l.fn.arms.items
