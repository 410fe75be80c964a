use Rattle.std.proofs.Common.{ap, length, arith}
use Rattle.jp_search.specs.Counts.{parts_below}
use Rattle.jp_search.specs.Tables.{entry_at}
use Rattle.jp_search.proofs.CountLaws.{all_parts}
use Rattle.jp_search.proofs.TableLaws.{begun, all_items, all_below, has_tree, plan_is, none_before}
use Rattle.jp_search.proofs.search.best.Goals as goal

pub fill-requires-clause-begun : goal.fill-requires-clause-begun
fill-requires-clause-begun g c = begun c.args.problem.now c.reserve.new.self.nodes c.in_ok-table.table c.in_ok-table.ensures.empty

pub plan_of-requires-clause-some : goal.plan_of-requires-clause-some
plan_of-requires-clause-some g c =
    let problem = c.args.problem.now in
    let all = all_items problem c.len-count.result c.set_of.result c.requires.few c.len-count.ensures c.set_of.ensures in
    let low = all_below problem c.len-count.result c.set_of.result c.requires.few c.len-count.ensures c.set_of.ensures in
    has_tree problem c.fill.new.pool.nodes c.set_of.result all (entry_at c.fill.new.table c.set_of.result) c.requires (c.fill.ensures.known.known c.set_of.result (omega (arith, low, c.fill.ensures.size)))

pub returns-clause-plan : goal.returns-clause-plan
returns-clause-plan g c =
    let problem = c.args.problem.now in
    let all = all_items problem c.len-count.result c.set_of.result c.requires.few c.len-count.ensures c.set_of.ensures in
    let low = all_below problem c.len-count.result c.set_of.result c.requires.few c.len-count.ensures c.set_of.ensures in
    let known = c.fill.ensures.known.known c.set_of.result (omega (arith, low, c.fill.ensures.size)) in
    plan_is problem c.fill.new.pool.nodes c.set_of.result all (entry_at c.fill.new.table c.set_of.result) c.plan_of.result known (has_tree problem c.fill.new.pool.nodes c.set_of.result all (entry_at c.fill.new.table c.set_of.result) c.requires known) c.plan_of.ensures

pub returns-clause-first : goal.returns-clause-first
returns-clause-first g c =
    let problem = c.args.problem.now in
    let all = all_items problem c.len-count.result c.set_of.result c.requires.few c.len-count.ensures c.set_of.ensures in
    let low = all_below problem c.len-count.result c.set_of.result c.requires.few c.len-count.ensures c.set_of.ensures in
    let known = c.fill.ensures.known.known c.set_of.result (omega (arith, low, c.fill.ensures.size)) in
    none_before problem c.fill.new.pool.nodes c.set_of.result all (entry_at c.fill.new.table c.set_of.result) c.plan_of.result known (has_tree problem c.fill.new.pool.nodes c.set_of.result all (entry_at c.fill.new.table c.set_of.result) c.requires known) c.plan_of.ensures

pub returns-clause-steps : goal.returns-clause-steps
returns-clause-steps g c =
    let n = length c.args.problem.now.items in
    omega (arith, c.fill.ensures.steps, ap (parts_below n) c.fill.ensures.size, all_parts n)
