use Rattle.std.proofs.Common.{◌∙◌, rules, subst}
use Rattle.std.specs.Prelude.{All}
use Rattle.std.proofs.lemmas.List.{take_all}
use Rattle.jp_joins.specs.Tuples.{map_of}
use Rattle.jp_items.specs.Sights.{sight_env}
use Rattle.jp_exec.specs.Cells.{IsGivenCell}
use Rattle.jp_exec.proofs.CellFacts.{one_more}
use Rattle.jp_exec.proofs.cells.cells_at.Goals as goal

pub columns-preserved : goal.columns-preserved
columns-preserved c =
    one_more (sight_env c.args.sight.now (map_of c.args.tuple)) c.columns.cells c.add_cell.new.cells c.args.columns.now c.columns.rel-index _ c.in_ok-value.value c.columns-test.true c.in_ok-add_cell.ensures
    (c.in_ok-value.ensures ∙ c.cell.ensures) (search rules) c.columns.invariant

pub returns : goal.returns
returns c = subst (All (IsGivenCell (sight_env c.args.sight.now (map_of c.args.tuple)) c.columns.cells)) (take_all c.columns.rel-index c.args.columns.now c.columns-test.false) c.columns.invariant
