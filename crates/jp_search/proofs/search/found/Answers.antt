use Rattle.std.proofs.Common.{◌<◌, length, refl, subst}
use Rattle.jp_search.proofs.EntryLaws.{ready, none_entry, some_tree, some_entry, children_below}
use Rattle.jp_search.proofs.search.found.Goals as goal

pub chosen-requires-clause-ready : goal.chosen-requires-clause-ready
chosen-requires-clause-ready g c =
    ready c.args.problem.now c.args.pool.now.nodes c.args.table.now c.args.set c.requires.searchable c.requires.size c.requires.there c.requires.some c.requires.known

pub returns-in-None-clause-entry : goal.returns-in-None-clause-entry
returns-in-None-clause-entry g c =
    none_entry c.args.problem.now c.args.pool.now.nodes c.args.table.now c.args.set c.requires.known c.chosen.result c.chosen.ensures.single c.chosen.ensures.several c.in-None.is

pub put-requires-clause-children : goal.put-requires-clause-children
put-requires-clause-children g c =
    let tree = some_tree c.args.problem.now c.args.pool.now.nodes c.args.table.now c.args.set c.requires.known c.chosen.result c.chosen.ensures.single c.chosen.ensures.several (length c.args.problem.now.items) refl (subst (λ n. c.args.set < n) c.requires.size c.requires.there) c.in-Some.choice c.in-Some.is in
    children_below c.args.pool.now.nodes c.in-Some.choice.node tree.0 tree.1

pub returns-in-Some-clause-entry : goal.returns-in-Some-clause-entry
returns-in-Some-clause-entry g c =
    let tree = some_tree c.args.problem.now c.args.pool.now.nodes c.args.table.now c.args.set c.requires.known c.chosen.result c.chosen.ensures.single c.chosen.ensures.several (length c.args.problem.now.items) refl (subst (λ n. c.args.set < n) c.requires.size c.requires.there) c.in-Some.choice c.in-Some.is in
    some_entry c.args.problem.now c.args.pool.now.nodes c.args.table.now c.args.set c.requires.known c.chosen.result c.chosen.ensures.single c.chosen.ensures.several c.in-Some.choice tree.0 (record { plan = c.put.result; cost = c.in-Some.choice.cost; rows = c.estimate.result; facts = c.facts_of-facts.result }) c.put.new.pool.nodes (tree.1, tree.2, tree.3) c.put.ensures.nodes c.put.ensures.number refl c.estimate.ensures.is c.facts_of-facts.ensures
