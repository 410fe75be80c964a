-- Blocks that see nothing of what stands around them, and the rows that are given for their sublinks.
use Rattle.std.specs.Prelude.{◌≡◌, ℕ, List}
use Rattle.jp_base.specs.Sets.{Has}
use Rattle.jp_induction.specs.Each.{Each}
use Rattle.jp_joins.specs.declared.lending.Lent.{Lent}
use Rattle.jp_lists.specs.Lists.{sublink_rows}
use Rattle.jp_lists.specs.Seen.{IsOuterPresence}
use Rattle.jp_query.specs.Meaning.{Row, Env}
use Rattle.jp_query.specs.Parts.{ColumnRef}
use Rattle.jp_tree.specs.BlockParts.{IsOuterReference}
use Rattle.jp_tree.specs.declared.prepared.Prepared.{Prepared}
use Rattle.jp_exec.specs.Running.{given_by}
use Rattle.jp_exec.specs.declared.execution.Execution.{Execution}

-- The outer references of the block of this number are to these relations alone, and it asks for the presence of no others.
pub record RefersWithin (prepared : Prepared) (set number : ℕ) : Type 0 where
  pub columns : (c : ColumnRef) → IsOuterReference prepared number c → Has set c.relation
  pub presence : (rel : ℕ) → IsOuterPresence prepared number rel → Has set rel

abbrev pub IsLentAs : (ℕ → List Row) → Lent → Type 0
IsLentAs rows lent = lent.rows.items ≡ rows lent.number

-- in every environment these are the rows of their sublinks
abbrev pub AreGiven : Execution → List Lent → Type 0
AreGiven run given = (env : Env) → Each (IsLentAs (sublink_rows run.prepared.now.blocks (given_by run) env)) given
