use Rattle.std.proofs.Common.{◌∙◌, ◌+◌, sym, ap, subst, length, arith}
use Rattle.std.proofs.lemmas.List.{length-set}
use Rattle.jp_search.specs.Counts.{parts_of}
use Rattle.jp_search.specs.Entries.{IsEntry, Knows}
use Rattle.jp_search.proofs.TableLaws.{knows_more, grows_twice, parts_next}
use Rattle.jp_search.proofs.search.fill.Goals as goal

pub sets-preserved : goal.sets-preserved
sets-preserved g c =
    let nodes = c.found-entry.new.pool.nodes in
    let size = ap length c.put.ensures ∙ length-set c.sets.table c.sets.number c.found-entry.result in
    let entry = subst (λ set. IsEntry c.args.problem.now nodes set c.found-entry.result) c.set_of.ensures c.found-entry.ensures.entry in
    let parts = ap (parts_of (length c.args.problem.now.items)) c.set_of.ensures in
    record {
      size = size ∙ c.sets.invariant.size;
      known = subst (λ entries. Knows c.args.problem.now nodes entries (c.sets.number + 1)) (sym c.put.ensures) (knows_more c.args.problem.now c.sets.pool.nodes nodes c.sets.table c.sets.number c.found-entry.result c.sets.invariant.known c.found-entry.ensures.kept entry (omega (arith, c.sets.invariant.size, c.sets-test.true, c.len-number-end.ensures)));
      kept = grows_twice c.args.pool.now.nodes c.sets.pool.nodes nodes c.sets.invariant.kept c.found-entry.ensures.kept;
      shared = omega (arith, c.sets.invariant.shared, c.found-entry.ensures.shared);
      room = omega (arith, size, c.sets.invariant.room, c.found-entry.ensures.room);
      steps = omega (arith, c.sets.invariant.steps, c.found-entry.ensures.steps, parts, parts_next (length c.args.problem.now.items) c.sets.number);
    }
