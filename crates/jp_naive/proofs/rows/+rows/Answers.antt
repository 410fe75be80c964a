use Rattle.std.proofs.Common.{◌≡◌, ◌∙◌, ap, ap₂, sym, subst, refl, ℕ, ◌+◌, ◌<◌, ◌≤◌, ◌&&◌, Bool, true, cond, List, [], ◌∷◌, ◌++◌, length, get_or, take, drop, map, filter, append-nil, take_all, arith, rules}
use Rattle.std.specs.Prelude.{All, bit_or, replicate, if◌then◌else◌}
use Rattle.std.specs.List.{flat_map}
use Rattle.std.proofs.lemmas.List.{at_drop_all, map-append, take_more}
use Rattle.std.proofs.lemmas.Result.{IfOk-weaker}
use Rattle.jp_query.specs.declared.Expr.{the_lemmas, size-Expr}
use Rattle.jp_query.specs.declared.Query.{out-Query, size-Query}
use Rattle.jp_query.specs.InOrder.{key_of, lines_of, output_of}
use Rattle.jp_query.specs.Meaning.{Env, Row, Tuples, combined, holds, join_tuples, key_at, meaning, tuples_of, value_at, value_of, with_member, with_row, with_rows}
use Rattle.jp_query.specs.Operators.{is_true, truth_of_value}
use Rattle.jp_query.specs.Outermost.{Outer}
use Rattle.jp_query.specs.Joins.{join_rels}
use Rattle.jp_query.specs.declared.Order.{Order}
use Rattle.jp_query.specs.declared.Output.{Output}
use Rattle.jp_base.specs.declared.values.Value.{Value}
use Rattle.jp_naive.specs.Numbers.{Numbered}
use Rattle.jp_naive.specs.declared.sublinks.Lent.{Lent}
use Rattle.jp_query.specs.Tables.{rows_of_tables}
use Rattle.jp_laws.proofs.EachPart.{Each, all_of_each, each_mapped}
use Rattle.jp_naive.specs.Frames.{env_of, env_over, envs_over, frame_env, place_env, rels_of}
use Rattle.jp_naive.specs.Joining.{Numbers, absent, is_full, joined_leaves, pairs_of, part_meant, parts_joined}
use Rattle.jp_naive.specs.Lines.{keys_at, line_of_query, order_expr, output_expr, outputs_at, values_of}
use Rattle.jp_naive.specs.Running.{CanRunAll, CanRunExpr, CanRunPairs, CanRunQuery, CanRunTree}
use Rattle.jp_naive.specs.Sublinks.{outer_of}
use Rattle.jp_naive.specs.declared.frames.Frame.{Frame}
use Rattle.jp_naive.specs.declared.frames.Leaf.{Leaf}
use Rattle.jp_naive.proofs.CycleFacts.{all_pairs_mean, all_there, alone_at, cond_more, each_there, evaluates, join_is, member_more, no_conds, nothing, both_ok, one_filtered, one_kept, rels_more, rows_mean, sub_is, value_there, whole_lengths, width_is}
use Rattle.jp_naive.proofs.Depth.{deeper}
use Rattle.jp_naive.proofs.FrameFacts.{rels_together}
use Rattle.jp_naive.proofs.GivenFacts.{AreLent, all_given, lent_more, outers_run}
use Rattle.jp_naive.proofs.JoinFacts.{all_at_first, anti_is, finish_mean, inner_is, left_is, part_mean, rels_exchanged, rels_joined, semi_is, still_mean, unmatched_after}
use Rattle.jp_naive.proofs.ListFacts.{gathers_more}
use Rattle.jp_naive.proofs.Passing.{same_in}
use Rattle.jp_naive.proofs.Running.{Found, LineRuns, from_runs, join_apart, join_runs, join_turned, lines_run, members_run, query_tree, sides_run, sub_runs}
use Rattle.jp_naive.proofs.rows.+rows.Goals as goal
use Rattle.jp_naive.proofs.rows.+rows.Goals.{filtered-then-branch+in_ok-push, filtered-else-branch}

-- ---- queries

pub rows_of-tuples_of-requires : goal.rows_of-tuples_of-requires
rows_of-tuples_of-requires t c = (search (rules, the_lemmas), query_tree c.args.tables.now.list c.args.query.now (env_of c.args.tables.now.list c.args.outer.now) c.requires)

pub rows_of-returns : goal.rows_of-returns
rows_of-returns t c = rows_mean c.args.tables.now.list c.args.query.now (env_of c.args.tables.now.list c.args.outer.now) c.as_slice.result.now _ _ c.as_slice.ensures c.in_ok-lines.ensures c.in_ok-rows.ensures

pub lines_of-add_line-requires : goal.lines_of-add_line-requires
lines_of-add_line-requires t c =
    let tables = c.args.tables.now.list in
    let env = env_of tables c.args.outer.now in
    let leaves = c.args.tuples.now.leaves.items in
    let list = c.args.tuples.now.numbers.list in
    let there : c.tuples.at < length list = omega (arith, c.tuples-test.true, c.len-at-end.ensures) in
    let each : Each (LineRuns tables c.args.query.now) (envs_over tables leaves env list) = subst (Each (LineRuns tables c.args.query.now)) (sym c.requires.tuples) (lines_run tables c.args.query.now env c.requires.runs) in
    let here = all_of_each _ list (each_mapped (LineRuns tables c.args.query.now) (λ (ns : Numbers). env_over tables leaves ns env) list each) c.tuples.at [] there in
    let place = alone_at tables c.single_place-place.result leaves (get_or list c.tuples.at []) c.args.outer.now
    (ap (λ (f : Frame). f.leaves.now) c.single_place-place.ensures.first ∙ c.tuple.ensures.leaves) (ap (λ (f : Frame). f.numbers.now) c.single_place-place.ensures.first ∙ c.tuple.ensures.numbers) c.single_place-place.ensures.second c.single_place-place.ensures.outer in
    let runs = subst (LineRuns tables c.args.query.now) (sym place) here in
    (search (rules, the_lemmas), (runs.conds, (runs.columns, runs.order)))

pub lines_of-tuples-preserved : goal.lines_of-tuples-preserved
lines_of-tuples-preserved t c =
    let tables = c.args.tables.now.list in
    let rows = rows_of_tables tables in
    let query = c.args.query.now in
    let env = env_of tables c.args.outer.now in
    let leaves = c.args.tuples.now.leaves.items in
    let list = c.args.tuples.now.numbers.list in
    let there : c.tuples.at < length list = omega (arith, c.tuples-test.true, c.len-at-end.ensures) in
    let place = alone_at tables c.single_place-place.result leaves (get_or list c.tuples.at []) c.args.outer.now
    (ap (λ (f : Frame). f.leaves.now) c.single_place-place.ensures.first ∙ c.tuple.ensures.leaves) (ap (λ (f : Frame). f.numbers.now) c.single_place-place.ensures.first ∙ c.tuple.ensures.numbers) c.single_place-place.ensures.second c.single_place-place.ensures.outer in
    let test : Env → Bool = holds (values_of rows (out-Query query).conds) in
    let made = λ (es : List Env). map (line_of_query rows query) (filter test es) in
    gathers_more (λ (ns : List Numbers). made (envs_over tables leaves env ns)) (λ (n : Numbers). made (env_over tables leaves n env ∷ []))
    (λ n ns. one_filtered test (line_of_query rows query) (env_over tables leaves n env) (envs_over tables leaves env ns))
    list c.tuples.at [] there c.tuples.lines _ (lines_of rows query env) c.tuples.invariant (c.in_ok-add_line.ensures ∙ ap (λ (e : Env). c.tuples.lines ++ made (e ∷ [])) place)

pub add_line-passes-requires : goal.add_line-passes-requires
add_line-passes-requires t c = (search (rules, the_lemmas), subst (λ cs. CanRunAll c.args.tables.now.list cs (place_env c.args.tables.now.list c.args.place)) (sym c.as_slice.ensures) c.requires.conds)

pub add_line-output_row-requires : goal.add_line-output_row-requires
add_line-output_row-requires t c = (search (rules, the_lemmas), subst (λ cs. All (λ output. CanRunExpr c.args.tables.now.list (output_expr output) (place_env c.args.tables.now.list c.args.place)) cs) (sym c.as_slice-then-branch.ensures) c.requires.columns)

pub add_line-key_row-requires : goal.add_line-key_row-requires
add_line-key_row-requires t c = (search (rules, the_lemmas), subst (λ os. All (λ order. CanRunExpr c.args.tables.now.list (order_expr order) (place_env c.args.tables.now.list c.args.place)) os) (sym c.as_slice-then-branch-2.ensures) c.requires.order)

-- ---- conditions and values

pub passes-is_met-requires : goal.passes-is_met-requires
passes-is_met-requires t c =
    let there : c.conds.cond-index < length c.args.conds.now = omega (arith, c.conds-test.true) in
    (search (rules, the_lemmas), all_there (λ e. CanRunExpr c.args.tables.now.list e (place_env c.args.tables.now.list c.args.place)) c.args.conds.now c.conds.cond-index c.cond-item.result there c.cond-item.is c.requires)

pub passes-conds-preserved : goal.passes-conds-preserved
passes-conds-preserved t c =
    let tables = c.args.tables.now.list in
    let env = place_env tables c.args.place in
    let there : c.conds.cond-index < length c.args.conds.now = omega (arith, c.conds-test.true) in
    let rest = holds (values_of (rows_of_tables tables) (drop (c.conds.cond-index + 1) c.args.conds.now)) env in
    sym (cond_more tables c.args.conds.now c.conds.cond-index c.cond-item.result env there c.cond-item.is ∙ ap (λ b. b && rest) (sym c.in_ok-is_met.ensures ∙ c.if-not-branch.false)) ∙ c.conds.invariant

pub passes-returns-then-not-branch : goal.passes-returns-then-not-branch
passes-returns-then-not-branch t c =
    let tables = c.args.tables.now.list in
    let env = place_env tables c.args.place in
    let there : c.conds.cond-index < length c.args.conds.now = omega (arith, c.conds-test.true) in
    let rest = holds (values_of (rows_of_tables tables) (drop (c.conds.cond-index + 1) c.args.conds.now)) env in
    sym (sym c.conds.invariant ∙ cond_more tables c.args.conds.now c.conds.cond-index c.cond-item.result env there c.cond-item.is ∙ ap (λ b. b && rest) (sym c.in_ok-is_met.ensures ∙ c.if-not-branch.true))

pub is_met-holds-requires : goal.is_met-holds-requires
is_met-holds-requires t c = evaluates c.args.tables.now.list c.args.cond.now c.args.place c.env_at-env.result c.in_ok-lent.lent.items c.env_at-env.ensures.environment (c.env_at-env.ensures.lent ∙ c.as_slice-lent.ensures.value) c.in_ok-lent.ensures c.requires

pub is_met-returns-in-True : goal.is_met-returns-in-True
is_met-returns-in-True t c =
    ap is_true (sym c.in-True.is ∙ c.in_ok-holds.ensures.truth ∙ ap truth_of_value (value_there c.args.tables.now.list c.args.cond.now c.args.place c.env_at-env.result c.in_ok-lent.lent.items c.env_at-env.ensures.environment (c.env_at-env.ensures.lent ∙ c.as_slice-lent.ensures.value) c.in_ok-lent.ensures))

pub is_met-returns-in-False : goal.is_met-returns-in-False
is_met-returns-in-False t c =
    ap is_true (sym c.in-False.is ∙ c.in_ok-holds.ensures.truth ∙ ap truth_of_value (value_there c.args.tables.now.list c.args.cond.now c.args.place c.env_at-env.result c.in_ok-lent.lent.items c.env_at-env.ensures.environment (c.env_at-env.ensures.lent ∙ c.as_slice-lent.ensures.value) c.in_ok-lent.ensures))

pub is_met-returns : goal.is_met-returns
is_met-returns t c =
    ap is_true (sym c.in-Unknown.is ∙ c.in_ok-holds.ensures.truth ∙ ap truth_of_value (value_there c.args.tables.now.list c.args.cond.now c.args.place c.env_at-env.result c.in_ok-lent.lent.items c.env_at-env.ensures.environment (c.env_at-env.ensures.lent ∙ c.as_slice-lent.ensures.value) c.in_ok-lent.ensures))

pub value_at-eval-requires : goal.value_at-eval-requires
value_at-eval-requires t c = evaluates c.args.tables.now.list c.args.expr.now c.args.place c.env_at-env.result c.in_ok-lent.lent.items c.env_at-env.ensures.environment (c.env_at-env.ensures.lent ∙ c.as_slice-lent.ensures.value) c.in_ok-lent.ensures c.requires

pub value_at-returns : goal.value_at-returns
value_at-returns t c =
    c.in_ok-value.ensures ∙ value_there c.args.tables.now.list c.args.expr.now c.args.place c.env_at-env.result c.in_ok-lent.lent.items c.env_at-env.ensures.environment (c.env_at-env.ensures.lent ∙ c.as_slice-lent.ensures.value) c.in_ok-lent.ensures

pub output_row-value_at-requires : goal.output_row-value_at-requires
output_row-value_at-requires t c =
    let there : c.columns.column-index < length c.args.columns.now = omega (arith, c.columns-test.true) in
    (search (rules, the_lemmas), all_there (λ u. CanRunExpr c.args.tables.now.list (output_expr u) (place_env c.args.tables.now.list c.args.place)) c.args.columns.now c.columns.column-index c.column-item.result there c.column-item.is c.requires)

pub output_row-columns-preserved : goal.output_row-columns-preserved
output_row-columns-preserved t c =
    let rows = rows_of_tables c.args.tables.now.list in
    let env = place_env c.args.tables.now.list c.args.place in
    let columns = c.args.columns.now in
    let i = c.columns.column-index in
    let outputs = λ (us : List Output). outputs_at rows us env in
    c.in-Ok.ensures.ok
    ∙ ap₂ (λ (vs : Row) (v : Value). vs ++ v ∷ []) c.columns.invariant (c.in_ok-value.ensures ∙ ap (λ u. value_of rows (output_expr u) env) c.column-item.is)
    ∙ sym (ap outputs (take_more columns i c.column-item.result c.columns-test.true)
    ∙ ap (map (value_at env)) (map-append (output_of rows) (take i columns) (get_or columns i c.column-item.result ∷ []))
    ∙ map-append (value_at env) (map (output_of rows) (take i columns)) (output_of rows (get_or columns i c.column-item.result) ∷ []))

pub key_row-value_at-requires : goal.key_row-value_at-requires
key_row-value_at-requires t c =
    let there : c.items.item-index < length c.args.order.now = omega (arith, c.items-test.true) in
    (search (rules, the_lemmas), all_there (λ o. CanRunExpr c.args.tables.now.list (order_expr o) (place_env c.args.tables.now.list c.args.place)) c.args.order.now c.items.item-index c.item-item.result there c.item-item.is c.requires)

pub key_row-items-preserved : goal.key_row-items-preserved
key_row-items-preserved t c =
    let rows = rows_of_tables c.args.tables.now.list in
    let env = place_env c.args.tables.now.list c.args.place in
    let order = c.args.order.now in
    let i = c.items.item-index in
    let keys = λ (os : List Order). keys_at rows os env in
    c.in-Ok.ensures.ok
    ∙ ap₂ (λ (vs : Row) (v : Value). vs ++ v ∷ []) c.items.invariant (c.in_ok-value.ensures ∙ ap (λ o. value_of rows (order_expr o) env) c.item-item.is)
    ∙ sym (ap keys (take_more order i c.item-item.result c.items-test.true)
    ∙ ap (map (key_at env)) (map-append (key_of rows) (take i order) (get_or order i c.item-item.result ∷ []))
    ∙ map-append (key_at env) (map (key_of rows) (take i order)) (key_of rows (get_or order i c.item-item.result) ∷ []))

-- ---- sublinks

pub lent_for-rows_of-requires : goal.lent_for-rows_of-requires
lent_for-rows_of-requires t c =
    let tables = c.args.tables.now.list in
    let env = place_env tables c.args.place in
    let subs = c.deref-sublink-items.result.now in
    let outers = ap (map outer_of) c.deref-sublink-items.ensures.value ∙ c.in_ok-sublinks.ensures in
    let runs = subst (Each (λ (o : Outer). CanRunQuery tables o.query env)) (sym outers) (outers_run tables env c.args.expr.now c.requires) in
    let low = subst (Each (λ (o : Outer). size-Query o.query < size-Expr c.args.expr.now)) (sym outers) (deeper c.args.expr.now) in
    let can = each_there _ subs c.sublinks.sublink-index c.sublink-item.result c.sublinks-test.true c.sublink-item.is (each_mapped (λ (o : Outer). CanRunQuery tables o.query env) outer_of subs runs) in
    let below : size-Query c.sublink-item.result.query.now < size-Expr c.args.expr.now = each_there _ subs c.sublinks.sublink-index c.sublink-item.result c.sublinks-test.true c.sublink-item.is (each_mapped (λ (o : Outer). size-Query o.query < size-Expr c.args.expr.now) outer_of subs low) in
    (search (rules, the_lemmas, below), subst (CanRunQuery tables c.sublink-item.result.query.now) (sym (ap (env_of tables) c.as_slice.ensures.value ∙ c.in_ok-inner.ensures)) can)

pub lent_for-sublinks-preserved : goal.lent_for-sublinks-preserved
lent_for-sublinks-preserved t c =
    let tables = c.args.tables.now.list in
    let rows = rows_of_tables tables in
    let env = place_env tables c.args.place in
    let subs = c.deref-sublink-items.result.now in
    let i = c.sublinks.sublink-index in
    let item = c.sublink-item.result in
    let lent : Lent = record { number = item.number; rows = c.in_ok-rows.rows } in
    let done : AreLent rows env (c.sublinks.list.items ++ lent ∷ []) (map outer_of (take i subs) ++ outer_of item ∷ []) =
    lent_more rows env c.sublinks.list.items (map outer_of (take i subs)) lent (outer_of item) c.sublinks.invariant refl
    (c.in_ok-rows.ensures ∙ ap (meaning rows item.query.now) (ap (env_of tables) c.as_slice.ensures.value ∙ c.in_ok-inner.ensures)) in
    let os : map outer_of (take (i + 1) subs) ≡ map outer_of (take i subs) ++ outer_of item ∷ [] =
    ap (map outer_of) (take_more subs i item c.sublinks-test.true ∙ ap (λ x. take i subs ++ x ∷ []) (sym c.sublink-item.is)) ∙ map-append outer_of (take i subs) (item ∷ []) in
    subst (λ ls. AreLent rows env ls (map outer_of (take (i + 1) subs))) (sym c.in-Ok.ensures.items) (subst (AreLent rows env (c.sublinks.list.items ++ lent ∷ [])) (sym os) done)

pub lent_for-returns : goal.lent_for-returns
lent_for-returns t c =
    let tables = c.args.tables.now.list in
    let subs = c.deref-sublink-items.result.now in
    let i = c.sublinks.sublink-index in
    let outers = ap (map outer_of) c.deref-sublink-items.ensures.value ∙ c.in_ok-sublinks.ensures in
    all_given (rows_of_tables tables) (place_env tables c.args.place) c.args.expr.now c.sublinks.list.items (map outer_of (take i subs))
    (ap (map outer_of) (take_all i subs (omega (arith, c.sublinks-test.false))) ∙ outers) c.sublinks.invariant (same_in _ c.requires.same)

-- ---- trees

pub tuples_of-rows_of-requires : goal.tuples_of-rows_of-requires
tuples_of-rows_of-requires t c =
    let tables = c.args.tables.now.list in
    let env = env_of tables c.args.outer.now in
    (search (rules, the_lemmas), subst (λ q. CanRunQuery tables q env) (sym c.get.ensures) (sub_runs tables c.in-Sub.rel c.in-Sub.name c.in-Sub.query env (subst (λ x. CanRunTree tables x env) c.in-Sub.is c.requires)))

pub tuples_of-tuples_of-requires : goal.tuples_of-tuples_of-requires
tuples_of-tuples_of-requires t c =
    let tables = c.args.tables.now.list in
    let env = env_of tables c.args.outer.now in
    let j = c.in-Join in
    (search (rules, the_lemmas), subst (λ x. CanRunTree tables x env) (sym c.get-in-Join.ensures) (sides_run tables j.kind j.left j.right j.on env (subst (λ x. CanRunTree tables x env) j.is c.requires)).0)

pub tuples_of-tuples_of-requires-in-Join : goal.tuples_of-tuples_of-requires-in-Join
tuples_of-tuples_of-requires-in-Join t c =
    let tables = c.args.tables.now.list in
    let env = env_of tables c.args.outer.now in
    let j = c.in-Join in
    (search (rules, the_lemmas), subst (λ x. CanRunTree tables x env) (sym c.get-in-Join-2.ensures) (sides_run tables j.kind j.left j.right j.on env (subst (λ x. CanRunTree tables x env) j.is c.requires)).1)

pub tuples_of-join-requires : goal.tuples_of-join-requires
tuples_of-join-requires t c = (
  search (rules, the_lemmas),
  (
      let tables = c.args.tables.now.list in
      let rows = rows_of_tables tables in
      let env = env_of tables c.args.outer.now in
      let j = c.in-Join in
      let l = c.in_ok-left-in-Join in
      let r = c.in_ok-right-in-Join in
      let runs = subst (λ x. CanRunTree tables x env) j.is c.requires in
      let f : Found tables l.left.leaves.items l.left.numbers.list j.left env = record {
        whole = whole_lengths l.left l.ensures.whole;
        rels = l.ensures.rels ∙ ap (λ x. (tuples_of rows x).rels) c.get-in-Join.ensures;
        tuples = l.ensures.tuples ∙ ap (λ x. (tuples_of rows x).tuples env) c.get-in-Join.ensures;
      } in
      let g : Found tables r.right.leaves.items r.right.numbers.list j.right env = record {
        whole = whole_lengths r.right r.ensures.whole;
        rels = r.ensures.rels ∙ ap (λ x. (tuples_of rows x).rels) c.get-in-Join-2.ensures;
        tuples = r.ensures.tuples ∙ ap (λ x. (tuples_of rows x).tuples env) c.get-in-Join-2.ensures;
      } in
      let ll = l.left.leaves.items in
      let ls = l.left.numbers.list in
      let rl = r.right.leaves.items in
      let rs = r.right.numbers.list in (
        l.ensures.whole,
        (
          r.ensures.whole,
          (
            join_apart tables j.kind j.left j.right j.on env ll ls rl rs f g runs,
            (
              subst (λ on. CanRunPairs tables on ll ls rl rs env) (sym c.as_slice.ensures) (join_runs tables j.kind j.left j.right j.on env ll ls rl rs f g runs),
              subst (λ on. CanRunPairs tables on rl rs ll ls env) (sym c.as_slice.ensures) (join_turned tables j.kind j.left j.right j.on env ll ls rl rs f g runs),
            ),
          ),
        ),
      )),
)

pub tuples_of-combinations-requires : goal.tuples_of-combinations-requires
tuples_of-combinations-requires t c =
    let tables = c.args.tables.now.list in
    let env = env_of tables c.args.outer.now in
    (search (rules, the_lemmas), subst (λ ms. All (λ x. CanRunTree tables x env) ms) (sym c.as_slice-in-From.ensures) (members_run tables c.in-From.members c.in-From.conds env (subst (λ x. CanRunTree tables x env) c.in-From.is c.requires)))

pub tuples_of-filtered-requires : goal.tuples_of-filtered-requires
tuples_of-filtered-requires t c =
    let tables = c.args.tables.now.list in
    let rows = rows_of_tables tables in
    let env = env_of tables c.args.outer.now in
    let all = c.in_ok-all-in-From.all in
    let meant = c.in_ok-all-in-From.ensures.tuples ∙ ap (λ ms. combined (map (tuples_of rows) ms) env) c.as_slice-in-From.ensures in
    let runs = from_runs tables c.in-From.members c.in-From.conds env (subst (λ x. CanRunTree tables x env) c.in-From.is c.requires) in
    let each = subst (λ cs. Each (CanRunAll tables cs) (envs_over tables all.leaves.items env all.numbers.list)) (sym c.as_slice-in-From-2.ensures) (subst (Each (CanRunAll tables c.in-From.conds)) (sym meant) runs) in
    (search (rules, the_lemmas), (all_of_each _ all.numbers.list (each_mapped (CanRunAll tables c.as_slice-in-From-2.result.now) (λ (ns : Numbers). env_over tables all.leaves.items ns env) all.numbers.list each), c.in_ok-all-in-From.ensures.whole))

pub tuples_of-returns-in_ok-list-in-Sub-clause-tuples : goal.tuples_of-returns-in_ok-list-in-Sub-clause-tuples
tuples_of-returns-in_ok-list-in-Sub-clause-tuples t c =
    let tables = c.args.tables.now.list in
    let rows = rows_of_tables tables in
    let env = env_of tables c.args.outer.now in
    c.in_ok-list-in-Sub.ensures.tuples tables env
    ∙ ap (map (with_row env c.in-Sub.rel)) (c.in_ok-rows-in-Sub.ensures ∙ ap (λ q. meaning rows q env) c.get.ensures)
    ∙ sym (ap (λ (ts : Tuples). ts.tuples env) (ap (tuples_of rows) c.in-Sub.is ∙ sub_is tables c.in-Sub.rel c.in-Sub.name c.in-Sub.query))

pub tuples_of-returns-in_ok-list-in-Join-clause-rels : goal.tuples_of-returns-in_ok-list-in-Join-clause-rels
tuples_of-returns-in_ok-list-in-Join-clause-rels t c =
    let rows = rows_of_tables c.args.tables.now.list in
    let j = c.in-Join in
    c.in_ok-list-in-Join.ensures.rels
    ∙ ap₂ (join_rels j.kind) (c.in_ok-left-in-Join.ensures.rels ∙ ap (λ x. (tuples_of rows x).rels) c.get-in-Join.ensures) (c.in_ok-right-in-Join.ensures.rels ∙ ap (λ x. (tuples_of rows x).rels) c.get-in-Join-2.ensures)
    ∙ sym (ap (λ (ts : Tuples). ts.rels) (ap (tuples_of rows) j.is ∙ join_is c.args.tables.now.list j.kind j.left j.right j.on))

pub tuples_of-returns-in_ok-list-in-Join-clause-tuples : goal.tuples_of-returns-in_ok-list-in-Join-clause-tuples
tuples_of-returns-in_ok-list-in-Join-clause-tuples t c =
    let tables = c.args.tables.now.list in
    let rows = rows_of_tables tables in
    let env = env_of tables c.args.outer.now in
    let j = c.in-Join in
    let l = c.in_ok-left-in-Join in
    let r = c.in_ok-right-in-Join in
    let lr = rels_of l.left.leaves.items in
    let rr = rels_of r.right.leaves.items in
    let ls = envs_over tables l.left.leaves.items env l.left.numbers.list in
    let rs = envs_over tables r.right.leaves.items env r.right.numbers.list in
    c.in_ok-list-in-Join.ensures.tuples
    ∙ ap (λ on. join_tuples j.kind (values_of rows on) lr ls rr rs) c.as_slice.ensures
    ∙ ap₂ (λ n es. join_tuples j.kind (values_of rows j.on) n es rr rs) (l.ensures.rels ∙ ap (λ x. (tuples_of rows x).rels) c.get-in-Join.ensures) (l.ensures.tuples ∙ ap (λ x. (tuples_of rows x).tuples env) c.get-in-Join.ensures)
    ∙ ap₂ (λ n es. join_tuples j.kind (values_of rows j.on) (tuples_of rows j.left).rels ((tuples_of rows j.left).tuples env) n es) (r.ensures.rels ∙ ap (λ x. (tuples_of rows x).rels) c.get-in-Join-2.ensures) (r.ensures.tuples ∙ ap (λ x. (tuples_of rows x).tuples env) c.get-in-Join-2.ensures)
    ∙ sym (ap (λ (ts : Tuples). ts.tuples env) (ap (tuples_of rows) j.is ∙ join_is tables j.kind j.left j.right j.on))

pub combinations-tuples_of-requires : goal.combinations-tuples_of-requires
combinations-tuples_of-requires t c =
    let there : c.members.member-index < length c.args.members.now = omega (arith, c.members-test.true) in
    (search (rules, the_lemmas), all_there (λ m. CanRunTree c.args.tables.now.list m (env_of c.args.tables.now.list c.args.outer.now)) c.args.members.now c.members.member-index c.member-item.result there c.member-item.is c.requires)

pub combinations-members-preserved : goal.combinations-members-preserved
combinations-members-preserved t c =
    let tables = c.args.tables.now.list in
    let rows = rows_of_tables tables in
    let env = env_of tables c.args.outer.now in
    let members = c.args.members.now in
    let i = c.members.member-index in
    let m = c.member-item.result in
    let all = c.members.all in
    let more = c.in_ok-more.more in
    let e = c.in_ok-all-2.ensures in
    record {
      whole = e.whole;
      rels = ap rels_of e.leaves ∙ rels_together more.leaves.items all.leaves.items ∙ ap₂ bit_or c.members.invariant.rels c.in_ok-more.ensures.rels
          ∙ sym (rels_more tables members i m c.members-test.true c.member-item.is);
      tuples = ap₂ (λ (ls : List Leaf) (ns : List Numbers). envs_over tables ls env ns) e.leaves e.tuples
          ∙ all_pairs_mean tables env all.leaves.items more.leaves.items all.numbers.list more.numbers.list (whole_lengths more c.in_ok-more.ensures.whole)
          ∙ ap₂ (λ (n : ℕ) (es : List Env). flat_map (λ x. map (with_rows n x) es) (envs_over tables all.leaves.items env all.numbers.list)) c.in_ok-more.ensures.rels c.in_ok-more.ensures.tuples
          ∙ ap (λ es. with_member env es (tuples_of rows m)) c.members.invariant.tuples
          ∙ sym (member_more tables members i m c.members-test.true c.member-item.is env);
    }

pub combinations-returns-clause-tuples : goal.combinations-returns-clause-tuples
combinations-returns-clause-tuples t c =
    let tables = c.args.tables.now.list in
    c.members.invariant.tuples ∙ ap (λ ms. combined (map (tuples_of (rows_of_tables tables)) ms) (env_of tables c.args.outer.now)) (take_all c.members.member-index c.args.members.now (omega (arith, c.members-test.false)))

pub filtered-returns-then-is_empty-clause-tuples : goal.filtered-returns-then-is_empty-clause-tuples
filtered-returns-then-is_empty-clause-tuples t c =
    let tables = c.args.tables.now.list in
    sym (no_conds tables c.args.conds.now (envs_over tables c.args.tuples.leaves.items (env_of tables c.args.outer.now) c.args.tuples.numbers.list) (nothing c.args.conds.now c.if-is_empty.ensures))

pub filtered-passes-requires : goal.filtered-passes-requires
filtered-passes-requires t c =
    let tables = c.args.tables.now.list in
    let env = env_of tables c.args.outer.now in
    let leaves = c.args.tuples.leaves.items in
    let list = c.args.tuples.numbers.list in
    let at = c.tuples.at in
    let there : at < length list = omega (arith, c.tuples-test.true, c.len-at-end.ensures) in
    let place = alone_at tables c.single_place-place.result leaves (get_or list at []) c.args.outer.now
    (ap (λ (f : Frame). f.leaves.now) c.single_place-place.ensures.first ∙ c.tuple.ensures.leaves) (ap (λ (f : Frame). f.numbers.now) c.single_place-place.ensures.first ∙ c.tuple.ensures.numbers) c.single_place-place.ensures.second c.single_place-place.ensures.outer in
    (search (rules, the_lemmas), subst (CanRunAll tables c.args.conds.now) (sym place) (c.requires.runs at [] there))

pub filtered-tuples-preserved : goal.filtered-tuples-preserved
filtered-tuples-preserved t c =
    let tables = c.args.tables.now.list in
    let env = env_of tables c.args.outer.now in
    let leaves = c.args.tuples.leaves.items in
    let list = c.args.tuples.numbers.list in
    let at = c.tuples.at in
    let there : at < length list = omega (arith, c.tuples-test.true, c.len-at-end.ensures) in
    let place = alone_at tables c.single_place-place.result leaves (get_or list at []) c.args.outer.now
    (ap (λ (f : Frame). f.leaves.now) c.single_place-place.ensures.first ∙ c.tuple.ensures.leaves) (ap (λ (f : Frame). f.numbers.now) c.single_place-place.ensures.first ∙ c.tuple.ensures.numbers) c.single_place-place.ensures.second c.single_place-place.ensures.outer in
    let test : Env → Bool = holds (values_of (rows_of_tables tables) c.args.conds.now) in
    let here = env_over tables leaves (get_or list at []) env in
    let before = c.tuples.kept.list in
    let so_far = envs_over tables leaves env before in
    let whole = filter test (envs_over tables leaves env list) in
    let tested : c.in_ok-passes.field-0 ≡ test here = c.in_ok-passes.ensures ∙ ap test place in
    let step = λ (new : List Numbers) (e : envs_over tables leaves env new ≡ so_far ++ filter test (here ∷ [])).
    gathers_more (λ (ns : List Numbers). filter test (envs_over tables leaves env ns)) (λ (n : Numbers). filter test (env_over tables leaves n env ∷ []))
    (λ n ns. one_kept test (env_over tables leaves n env) (envs_over tables leaves env ns)) list at [] there so_far (envs_over tables leaves env new) whole c.tuples.invariant.more e in
    elim c.if-branch.branch [
      | filtered-then-branch+in_ok-push w ↦
          let numbers = append-nil c.single_place-place.result.first.numbers.now ∙ ap (λ (f : Frame). f.numbers.now) c.single_place-place.ensures.first ∙ c.tuple.ensures.numbers in
          record {
            width = ap (λ (n : Numbered). n.width) w.kept-is ∙ w.in_ok-push.ensures.width ∙ c.tuples.invariant.width;
            more = step c.if-branch.kept.list (ap (λ (n : Numbered). envs_over tables leaves env n.list) (w.kept-is ∙ w.in_ok-push.ensures.more)
                ∙ ap (λ (n : Numbers). envs_over tables leaves env (before ++ n ∷ [])) numbers
                ∙ map-append (λ ns. env_over tables leaves ns env) before (get_or list at [] ∷ [])
                ∙ ap (λ b. so_far ++ cond b (here ∷ []) []) (sym (sym tested ∙ w.if-branch.true)));
          }
      | filtered-else-branch w ↦ record {
        width = ap (λ (n : Numbered). n.width) w.kept-is ∙ c.tuples.invariant.width;
        more = step c.if-branch.kept.list (ap (λ (n : Numbered). envs_over tables leaves env n.list) w.kept-is ∙ sym (append-nil so_far) ∙ ap (λ b. so_far ++ cond b (here ∷ []) []) (sym (sym tested ∙ w.if-branch.false)));
      }
    ]

-- ---- joins

pub matches-passes-requires : goal.matches-passes-requires
matches-passes-requires t c =
    let tables = c.args.tables.now.list in
    let rl = c.args.right.now.leaves.items in
    let rights = c.args.right.now.numbers.list in
    let left = frame_env tables c.args.left (env_of tables c.args.outer.now) in
    let at = c.rights.at in
    let there : at < length rights = omega (arith, c.rights-test.true, c.len-at-end.ensures) in
    let place : env_over tables c.tuple.result.leaves.now c.tuple.result.numbers.now left ≡ env_over tables rl (get_or rights at []) left = ap₂ (λ (ls : List Leaf) (ns : Numbers). env_over tables ls ns left) c.tuple.ensures.leaves c.tuple.ensures.numbers in
    (search (rules, the_lemmas), subst (CanRunAll tables c.args.on.now) (sym place) (c.requires at [] there))

pub matches-rights-preserved : goal.matches-rights-preserved
matches-rights-preserved t c =
    let tables = c.args.tables.now.list in
    let rl = c.args.right.now.leaves.items in
    let rights = c.args.right.now.numbers.list in
    let left = frame_env tables c.args.left (env_of tables c.args.outer.now) in
    let at = c.rights.at in
    let there : at < length rights = omega (arith, c.rights-test.true, c.len-at-end.ensures) in
    let place : env_over tables c.tuple.result.leaves.now c.tuple.result.numbers.now left ≡ env_over tables rl (get_or rights at []) left = ap₂ (λ (ls : List Leaf) (ns : Numbers). env_over tables ls ns left) c.tuple.ensures.leaves c.tuple.ensures.numbers in
    let on = values_of (rows_of_tables tables) c.args.on.now in
    let test : Numbers → Bool = λ r. holds on (env_over tables rl r left) in
    c.in-Ok.ensures.items ∙ ap₂ (λ (ms : List Bool) (m : Bool). ms ++ m ∷ []) c.rights.invariant (c.in_ok-mark.ensures ∙ ap (holds on) place)
    ∙ sym (ap (map test) (take_more rights at [] there) ∙ map-append test (take at rights) (get_or rights at [] ∷ []))

pub joined-lefts-init : goal.joined-lefts-init
joined-lefts-init t c =
    let tables = c.args.tables.now.list in
    let env = env_of tables c.args.outer.now in
    let ll = c.args.left.leaves.items in
    let lefts = c.args.left.numbers.list in
    let rl = c.args.right.leaves.items in
    let rights = c.args.right.numbers.list in
    let on = values_of (rows_of_tables tables) c.args.on.now in
    let part = part_meant c.args.kind on (rels_of rl) (envs_over tables rl env rights) in
    record {
      width = c.new-found.ensures.width ∙ c.in_ok-width_of.ensures;
      more = ap (λ (ns : List Numbers). envs_over tables (joined_leaves c.args.kind ll rl) env ns ++ flat_map part (envs_over tables ll env lefts)) c.new-found.ensures.none;
      unmatched = c.in_ok-unmatched.ensures ∙ ap (λ n. replicate n true) c.len.ensures ∙ all_at_first tables env ll rl on c.args.kind rights;
    }

pub joined-matches-requires : goal.joined-matches-requires
joined-matches-requires t c =
    let tables = c.args.tables.now.list in
    let env = env_of tables c.args.outer.now in
    let ll = c.args.left.leaves.items in
    let lefts = c.args.left.numbers.list in
    let rl = c.args.right.leaves.items in
    let rights = c.args.right.numbers.list in
    let at = c.lefts.at in
    let there : at < length lefts = omega (arith, c.lefts-test.true, c.len-at-end.ensures) in
    let left : env_over tables c.tuple-tuple.result.leaves.now c.tuple-tuple.result.numbers.now env ≡ env_over tables ll (get_or lefts at []) env = ap₂ (λ (ls : List Leaf) (ns : Numbers). env_over tables ls ns env) c.tuple-tuple.ensures.leaves c.tuple-tuple.ensures.numbers in
    (search (rules, the_lemmas), subst (λ e. All (λ r. CanRunAll tables c.args.on.now (env_over tables rl r e)) rights) (sym left) (c.requires.runs at [] there))

pub joined-lefts-preserved : goal.joined-lefts-preserved
joined-lefts-preserved t c =
    let tables = c.args.tables.now.list in
    let env = env_of tables c.args.outer.now in
    let ll = c.args.left.leaves.items in
    let lefts = c.args.left.numbers.list in
    let rl = c.args.right.leaves.items in
    let rights = c.args.right.numbers.list in
    let kind = c.args.kind in
    let on = values_of (rows_of_tables tables) c.args.on.now in
    let part = part_meant kind on (rels_of rl) (envs_over tables rl env rights) in
    let leaves = joined_leaves kind ll rl in
    let at = c.lefts.at in
    let there : at < length lefts = omega (arith, c.lefts-test.true, c.len-at-end.ensures) in
    let l = c.tuple-tuple.result.numbers.now in
    let whole = whole_lengths c.args.right c.requires.whole_right in
    let marks : c.in_ok-marks.marks.items ≡ map (λ r. holds on (env_over tables rl r (env_over tables ll l env))) rights =
    c.in_ok-marks.ensures ∙ ap (λ (ls : List Leaf). map (λ r. holds on (env_over tables rl r (env_over tables ls l env))) rights) c.tuple-tuple.ensures.leaves in
    let so_far = envs_over tables leaves env c.lefts.found.list in
    let one = part_mean tables env ll rl on l kind c.args.right.numbers.width rights c.as_slice-in-lefts.result.now (width_is c.args.right c.requires.whole_right) whole (c.as_slice-in-lefts.ensures.value ∙ marks) in
    record {
      width = c.push_part.ensures.width ∙ c.lefts.invariant.width;
      more = gathers_more (λ (ns : List Numbers). flat_map part (envs_over tables ll env ns)) (λ (n : Numbers). part (env_over tables ll n env)) (λ n ns. refl) lefts at [] there so_far (envs_over tables leaves env c.push_part.new.found.list)
          (flat_map part (envs_over tables ll env lefts)) c.lefts.invariant.more
          (ap (envs_over tables leaves env) c.in_ok-push_part.ensures.more ∙ map-append (λ ns. env_over tables leaves ns env) c.lefts.found.list _ ∙ ap (λ es. so_far ++ es) one
          ∙ ap (λ n. so_far ++ part (env_over tables ll n env)) c.tuple-tuple.ensures.numbers);
      unmatched = still_mean tables env ll rl on kind lefts at l rights c.lefts.unmatched.items c.in_ok-unmatched-2.unmatched.items c.as_slice-in-lefts-2.result.now whole there c.tuple-tuple.ensures.numbers c.lefts.invariant.unmatched (c.as_slice-in-lefts-2.ensures.value ∙ marks) c.in_ok-unmatched-2.ensures;
    }

pub joined-returns-clause-tuples : goal.joined-returns-clause-tuples
joined-returns-clause-tuples t c =
    let tables = c.args.tables.now.list in
    let env = env_of tables c.args.outer.now in
    let ll = c.args.left.leaves.items in
    let lefts = c.args.left.numbers.list in
    let rl = c.args.right.leaves.items in
    let rights = c.args.right.numbers.list in
    let kind = c.args.kind in
    let on = values_of (rows_of_tables tables) c.args.on.now in
    let part = part_meant kind on (rels_of rl) (envs_over tables rl env rights) in
    let leaves = joined_leaves kind ll rl in
    let at = c.lefts.at in
    let past : length lefts ≤ at = omega (arith, c.lefts-test.false, c.len-at-end.ensures) in
    let so_far = envs_over tables leaves env c.lefts.found.list in
    let gathered : so_far ≡ flat_map part (envs_over tables ll env lefts) = sym (append-nil so_far) ∙ sym (at_drop_all (λ (ns : List Numbers). so_far ++ flat_map part (envs_over tables ll env ns)) lefts at past) ∙ c.lefts.invariant.more in
    let unmatched = c.as_slice-2.ensures.value ∙ c.lefts.invariant.unmatched ∙ ap (λ (ns : List Numbers). map (unmatched_after tables env ll rl on kind (envs_over tables ll env ns)) rights) (take_all at lefts past) in
    let rest = finish_mean tables env ll rl on kind c.args.left.numbers.width (envs_over tables ll env lefts) rights c.as_slice-2.result.now (width_is c.args.left c.requires.whole_left) (whole_lengths c.args.right c.requires.whole_right) c.requires.apart unmatched in
    both_ok c.finish.result _ _ _ (λ found e f. ap₂ (λ (ls : List Leaf) (ns : List Numbers). envs_over tables ls env ns) e f
    ∙ map-append (λ ns. env_over tables leaves ns env) c.lefts.found.list (if is_full kind then pairs_of (absent c.args.left.numbers.width) rights c.as_slice-2.result.now else [])
    ∙ ap₂ (λ (xs ys : List Env). xs ++ ys) gathered rest) c.finish.ensures.leaves c.finish.ensures.tuples

pub join-returns-in-Right-clause-rels : goal.join-returns-in-Right-clause-rels
join-returns-in-Right-clause-rels t c =
    let ll = c.args.left.leaves.items in
    let rl = c.args.right.leaves.items in
    IfOk-weaker c.joined.result _ _ (λ found e. ap rels_of e ∙ rels_exchanged ll rl ∙ ap (λ k. join_rels k (rels_of ll) (rels_of rl)) (sym c.in-Right.is)) c.joined.ensures.leaves

pub join-returns-in-Inner-clause-rels : goal.join-returns-in-Inner-clause-rels
join-returns-in-Inner-clause-rels t c =
    let ll = c.args.left.leaves.items in
    let rl = c.args.right.leaves.items in
    IfOk-weaker c.joined-in-Inner.result _ _ (λ found e. ap rels_of (e ∙ ap (λ k. joined_leaves k ll rl) c.in-Inner.is) ∙ rels_joined ll rl ∙ ap (λ k. join_rels k (rels_of ll) (rels_of rl)) (sym c.in-Inner.is)) c.joined-in-Inner.ensures.leaves

pub join-returns-in-Left-clause-rels : goal.join-returns-in-Left-clause-rels
join-returns-in-Left-clause-rels t c =
    let ll = c.args.left.leaves.items in
    let rl = c.args.right.leaves.items in
    IfOk-weaker c.joined-in-Left.result _ _ (λ found e. ap rels_of (e ∙ ap (λ k. joined_leaves k ll rl) c.in-Left.is) ∙ rels_joined ll rl ∙ ap (λ k. join_rels k (rels_of ll) (rels_of rl)) (sym c.in-Left.is)) c.joined-in-Left.ensures.leaves

pub join-returns-in-Full-clause-rels : goal.join-returns-in-Full-clause-rels
join-returns-in-Full-clause-rels t c =
    let ll = c.args.left.leaves.items in
    let rl = c.args.right.leaves.items in
    IfOk-weaker c.joined-in-Full.result _ _ (λ found e. ap rels_of (e ∙ ap (λ k. joined_leaves k ll rl) c.in-Full.is) ∙ rels_joined ll rl ∙ ap (λ k. join_rels k (rels_of ll) (rels_of rl)) (sym c.in-Full.is)) c.joined-in-Full.ensures.leaves

pub join-returns-in-Inner-clause-tuples : goal.join-returns-in-Inner-clause-tuples
join-returns-in-Inner-clause-tuples t c =
    let tables = c.args.tables.now.list in
    let env = env_of tables c.args.outer.now in
    let ll = c.args.left.leaves.items in
    let lefts = c.args.left.numbers.list in
    let rl = c.args.right.leaves.items in
    let rights = c.args.right.numbers.list in
    let on = values_of (rows_of_tables tables) c.args.on.now in
    let l = rels_of ll in
    let r = rels_of rl in
    let ls = envs_over tables ll env lefts in
    let rs = envs_over tables rl env rights in
    IfOk-weaker c.joined-in-Inner.result _ _ (λ found e. e ∙ ap (λ k. parts_joined k on l ls r rs) c.in-Inner.is ∙ inner_is on l ls r rs ∙ ap (λ k. join_tuples k on l ls r rs) (sym c.in-Inner.is)) c.joined-in-Inner.ensures.tuples

pub join-returns-in-Left-clause-tuples : goal.join-returns-in-Left-clause-tuples
join-returns-in-Left-clause-tuples t c =
    let tables = c.args.tables.now.list in
    let env = env_of tables c.args.outer.now in
    let ll = c.args.left.leaves.items in
    let lefts = c.args.left.numbers.list in
    let rl = c.args.right.leaves.items in
    let rights = c.args.right.numbers.list in
    let on = values_of (rows_of_tables tables) c.args.on.now in
    let l = rels_of ll in
    let r = rels_of rl in
    let ls = envs_over tables ll env lefts in
    let rs = envs_over tables rl env rights in
    IfOk-weaker c.joined-in-Left.result _ _ (λ found e. e ∙ ap (λ k. parts_joined k on l ls r rs) c.in-Left.is ∙ left_is on l ls r rs ∙ ap (λ k. join_tuples k on l ls r rs) (sym c.in-Left.is)) c.joined-in-Left.ensures.tuples

pub join-returns-in-Full-clause-tuples : goal.join-returns-in-Full-clause-tuples
join-returns-in-Full-clause-tuples t c =
    let tables = c.args.tables.now.list in
    let env = env_of tables c.args.outer.now in
    let ll = c.args.left.leaves.items in
    let lefts = c.args.left.numbers.list in
    let rl = c.args.right.leaves.items in
    let rights = c.args.right.numbers.list in
    let on = values_of (rows_of_tables tables) c.args.on.now in
    let l = rels_of ll in
    let r = rels_of rl in
    let ls = envs_over tables ll env lefts in
    let rs = envs_over tables rl env rights in
    IfOk-weaker c.joined-in-Full.result _ _ (λ found e. e ∙ ap (λ k. parts_joined k on l ls r rs) c.in-Full.is ∙ ap (λ k. join_tuples k on l ls r rs) (sym c.in-Full.is)) c.joined-in-Full.ensures.tuples

pub join-returns-in-Semi-clause-tuples : goal.join-returns-in-Semi-clause-tuples
join-returns-in-Semi-clause-tuples t c =
    let tables = c.args.tables.now.list in
    let env = env_of tables c.args.outer.now in
    let ll = c.args.left.leaves.items in
    let lefts = c.args.left.numbers.list in
    let rl = c.args.right.leaves.items in
    let rights = c.args.right.numbers.list in
    let on = values_of (rows_of_tables tables) c.args.on.now in
    let l = rels_of ll in
    let r = rels_of rl in
    let ls = envs_over tables ll env lefts in
    let rs = envs_over tables rl env rights in
    IfOk-weaker c.joined-in-Semi.result _ _ (λ found e. e ∙ ap (λ k. parts_joined k on l ls r rs) c.in-Semi.is ∙ semi_is on l ls r rs ∙ ap (λ k. join_tuples k on l ls r rs) (sym c.in-Semi.is)) c.joined-in-Semi.ensures.tuples

pub join-returns-in-Anti-clause-tuples : goal.join-returns-in-Anti-clause-tuples
join-returns-in-Anti-clause-tuples t c =
    let tables = c.args.tables.now.list in
    let env = env_of tables c.args.outer.now in
    let ll = c.args.left.leaves.items in
    let lefts = c.args.left.numbers.list in
    let rl = c.args.right.leaves.items in
    let rights = c.args.right.numbers.list in
    let on = values_of (rows_of_tables tables) c.args.on.now in
    let l = rels_of ll in
    let r = rels_of rl in
    let ls = envs_over tables ll env lefts in
    let rs = envs_over tables rl env rights in
    IfOk-weaker c.joined-in-Anti.result _ _ (λ found e. e ∙ ap (λ k. parts_joined k on l ls r rs) c.in-Anti.is ∙ anti_is on l ls r rs ∙ ap (λ k. join_tuples k on l ls r rs) (sym c.in-Anti.is)) c.joined-in-Anti.ensures.tuples
