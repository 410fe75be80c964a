-- The rows that are given for the sublinks of a block.
use Rattle.std.proofs.Common.{◌≡◌, ◌∙◌, ap, sym, subst, ℕ, ◌<◌, true, List, [], ◌∷◌, ◌++◌, map, length}
use Rattle.std.specs.Prelude.{Contains, if◌then◌else◌}
use Rattle.jp_facts.proofs.Members.{to_in}
use Rattle.jp_frame.specs.Maps.{Map}
use Rattle.jp_induction.proofs.EachPart.{Each, each_append}
use Rattle.jp_items.specs.declared.params.Around.{Around}
use Rattle.jp_items.specs.Scenes.{is_listed}
use Rattle.jp_joins.specs.declared.lending.Lent.{Lent}
use Rattle.jp_lists.specs.Lists.{block_of_sublink, sublink_rows}
use Rattle.jp_outputs.specs.Exprs.{sublink_number}
use Rattle.jp_query.specs.Meaning.{Env, Row}
use Rattle.jp_query.specs.Tables.{rows_of_tables}
use Rattle.jp_tree.specs.BlockParts.{sublinks_of}
use Rattle.jp_tree.specs.declared.prepared.Block.{Block}
use Rattle.jp_exec.specs.Given.{AreGiven, IsLentAs, RefersWithin}
use Rattle.jp_exec.specs.Interiors.{interior_env, interior_rows}
use Rattle.jp_exec.specs.Running.{CanRun, CanRunItems, given_by, tables_of}
use Rattle.jp_exec.specs.declared.execution.Execution.{Execution}
use Rattle.jp_exec.specs.declared.interior.Interior.{Interior}
use Rattle.jp_exec.proofs.ClosedFacts.{fits_closed, rows_closed, sub_further, sub_there}

module _ (run : Execution) (number : ℕ) (block : Block) (env : Env) (can : CanRunItems run number block env) (sub : ℕ) (own : Contains (map sublink_number (sublinks_of block)) sub)
    (inner : ℕ) (is : inner ≡ block_of_sublink run.prepared.now.blocks sub) where
  pub given_further : number < inner
  given_further = subst (λ k. number < k) (sym is) (sub_further run.prepared.now can.runs.can.whole number block can.there sub (to_in sub (map sublink_number (sublinks_of block)) own))

  pub given_there : inner < length run.prepared.now.blocks
  given_there = subst (λ k. k < length run.prepared.now.blocks) (sym is) (sub_there run.prepared.now can.runs.can.whole number block can.there sub (to_in sub (map sublink_number (sublinks_of block)) own))

  module _ (closed : RefersWithin run.prepared.now 0 inner) where
    pub given_runs : CanRun run inner env
    given_runs = record {
      can = record {
        whole = can.runs.can.whole;
        belong = can.runs.can.belong;
        there = given_there;
        fits = fits_closed run.prepared.now inner closed can.runs.can.whole.scope env;
      };
      columns = can.runs.columns;
      indexes = can.runs.indexes;
    }

    pub one_given : (lent : Lent) → lent.number ≡ sub → lent.rows.items ≡ (given_by run inner env).rows → (old new : List Lent) → new ≡ old ++ lent ∷ [] → AreGiven run old → AreGiven run new
    one_given lent numbered rows old new more given other =
        let lists = sublink_rows run.prepared.now.blocks (given_by run) other in
        subst (Each (IsLentAs lists)) (sym more) (each_append (IsLentAs lists) old (lent ∷ []) (given other)
        (rows ∙ rows_closed run.prepared.now inner closed can.runs.can.whole (rows_of_tables (tables_of run)) env other ∙ ap (λ k. (given_by run k other).rows) is ∙ ap lists (sym numbered), tt))

pub listed_rows : (run : Execution) (around : Around) (interior : Interior) (m : Map) (sub : ℕ) (rows : List Row) → is_listed interior.sublinks.items sub ≡ true
    → rows ≡ sublink_rows run.prepared.now.blocks (given_by run) (interior_env run around interior m) sub → rows ≡ interior_rows run around interior m sub
listed_rows run around interior m sub rows listed are = are ∙ sym (ap (λ b. if b then sublink_rows run.prepared.now.blocks (given_by run) (interior_env run around interior m) sub else []) listed)
