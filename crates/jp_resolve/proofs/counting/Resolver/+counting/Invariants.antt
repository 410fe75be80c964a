use Rattle.std.proofs.Common.{◌≡◌, ◌≤◌, drop}
use Rattle.jp_ast.specs.declared.tree.FromItem.{size-FromItem}
use Rattle.jp_resolution.specs.Counting.{both}
use Rattle.jp_resolve.specs.Walk as spec
use Rattle.jp_resolve.proofs.counting.Resolver.+counting.Given as goal

abbrev pub invariant-arm_counts-arms : goal.invariant-arm_counts-arms
invariant-arm_counts-arms l = both l.counts (spec.counts_of_arms l.self.catalog.now (drop l.arm-index l.arms)) ≡ spec.counts_of_arms l.self.catalog.now l.arms

abbrev pub invariant-item_counts-items : goal.invariant-item_counts-items
invariant-item_counts-items l = both l.counts (spec.counts_of_items l.self.catalog.now (drop l.item-index l.items)) ≡ spec.counts_of_items l.self.catalog.now l.items

abbrev pub invariant-list_counts-asts : goal.invariant-list_counts-asts
invariant-list_counts-asts l = both l.counts (spec.counts_of_exprs l.self.catalog.now (drop l.ast-index l.asts)) ≡ spec.counts_of_exprs l.self.catalog.now l.asts

abbrev pub invariant-target_counts-targets : goal.invariant-target_counts-targets
invariant-target_counts-targets l = both l.counts (spec.counts_of_targets l.self.catalog.now (drop l.target-index l.targets)) ≡ spec.counts_of_targets l.self.catalog.now l.targets

abbrev pub invariant-term_counts-terms : goal.invariant-term_counts-terms
invariant-term_counts-terms l = both l.counts (spec.counts_of_terms l.self.catalog.now (drop l.term-index l.terms)) ≡ spec.counts_of_terms l.self.catalog.now l.terms

abbrev pub invariant-one_item_counts-joins : goal.invariant-one_item_counts-joins
invariant-one_item_counts-joins l = record {
  no_deeper : size-FromItem l.spine ≤ size-FromItem l.item;
  counts : both (spec.counts_of_item l.self.catalog.now l.spine) l.counts ≡ spec.counts_of_item l.self.catalog.now l.item;
}
