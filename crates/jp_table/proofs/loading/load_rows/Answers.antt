use Rattle.std.proofs.Common.{◌≡◌, ◌∙◌, ◌∷◌, List, ℕ, Some, ap, sym, arith, length}
use Rattle.csv.specs.Records.{fields_of}
use Rattle.jp_table.specs.Judging.{rows_read}
use Rattle.jp_table.specs.Storage.{HaveRows, rows_of, types_of}
use Rattle.jp_table.proofs.LoadingFacts.{found_and_left, load-more, load-stop}
use Rattle.jp_table.proofs.loading.load_rows.Goals as goal

pub rows-preserved : goal.rows-preserved
rows-preserved c =
    let inv = c.rows.invariant in
    let more : c.rows.records ≡ fields_of c.read.new.fields ∷ c.read.new.self = c.in_ok-read.ensures.more c.if-branch.true in
    let next = load-more c.args.columns.items c.rows.columns.items c.push_row.new.columns.items c.rows.rows (fields_of c.read.new.fields) c.read.new.self inv.types inv.have (rw c.in-None.is at c.in_ok-push_row.ensures) in
    record {
      count = omega (arith, inv.count, ap length more);
      have = next.0;
      types = next.1;
      same = next.2 ∙ (ap (λ (rest : List (List (List ℕ))). found_and_left (types_of c.args.columns.items) (rows_of c.rows.columns.items c.rows.rows) c.rows.rows rest) (sym more) ∙ inv.same);
    }

stop_at : (c : goal.In-Some) → HaveRows c.rows.rows c.push_row.new.columns.items
    × ((rows_of c.push_row.new.columns.items c.rows.rows, Some c.in-Some.refusal) ≡ rows_read (types_of c.args.columns.items) 0 c.args.records.now)
stop_at c =
    let inv = c.rows.invariant in
    let more : c.rows.records ≡ fields_of c.read.new.fields ∷ c.read.new.self = c.in_ok-read.ensures.more c.if-branch.true in
    let out = rw c.in-Some.is at c.in_ok-push_row.ensures in
    let stop = load-stop c.args.columns.items c.rows.columns.items c.push_row.new.columns.items c.rows.rows (fields_of c.read.new.fields) c.read.new.self c.in-Some.refusal inv.types inv.have out.0 out.1 in
    (stop.0, stop.1 ∙ (ap (λ (rest : List (List (List ℕ))). found_and_left (types_of c.args.columns.items) (rows_of c.rows.columns.items c.rows.rows) c.rows.rows rest) (sym more) ∙ inv.same))

pub invariant_of-result : goal.invariant_of-result
invariant_of-result c = (stop_at c).0

pub returns-in-Some : goal.returns-in-Some
returns-in-Some c = (stop_at c).1
