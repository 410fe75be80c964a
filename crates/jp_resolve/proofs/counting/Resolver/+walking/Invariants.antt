use Rattle.std.proofs.Common.{◌≡◌, [], drop}
use Rattle.jp_resolve_parts.specs.Outs.{outputs_behind}
use Rattle.jp_resolve.specs.Walk as spec
use Rattle.jp_resolve.proofs.counting.Resolver.+walking.Given as goal

abbrev pub invariant-exprs-asts : goal.invariant-exprs-asts
invariant-exprs-asts l = spec.behind l.found.items (spec.exprs_in l.self.catalog.now (drop l.ast-index l.asts) l.levels l.after) ≡ spec.exprs_in l.self.catalog.now l.asts l.levels l.fn.before

abbrev pub invariant-terms-terms : goal.invariant-terms-terms
invariant-terms-terms l = spec.behind l.found.items (spec.terms_in l.self.catalog.now (drop l.term-index l.terms) l.levels l.after) ≡ spec.terms_in l.self.catalog.now l.terms l.levels l.fn.before

abbrev pub invariant-arms-arms : goal.invariant-arms-arms
invariant-arms-arms l = spec.behind l.found.items (spec.arms_in l.self.catalog.now (drop l.arm-index l.arms) l.levels l.after) ≡ spec.arms_in l.self.catalog.now l.arms l.levels l.fn.before

abbrev pub invariant-items-items : goal.invariant-items-items
invariant-items-items l = spec.sources_behind l.trees l.entries (spec.items_in l.self.catalog.now (drop l.item-index l.items) l.outer l.entries l.after) ≡ spec.sources_behind [] l.fn.entries (spec.items_in l.self.catalog.now l.items l.outer l.fn.entries l.fn.before)

abbrev pub invariant-targets-targets : goal.invariant-targets-targets
invariant-targets-targets l = outputs_behind l.outputs (spec.all_outputs_in l.self.catalog.now (drop l.target-index l.targets) l.levels l.after) ≡ outputs_behind (record { list = []; columns = [] }) (spec.all_outputs_in l.self.catalog.now l.targets l.levels l.fn.before)
