use Rattle.std.proofs.Common.{rules, ◌≡◌, ◌∙◌, ap, sym, subst, [], ◌∷◌, Ok, Err, arith, drop}
use Rattle.jp_ast.specs.declared.tree.Select.{out-Select}
use Rattle.jp_query.specs.declared.JoinTree.TheVariants as tree
use Rattle.jp_resolution.specs.Answers.{Gives}
use Rattle.jp_resolution.specs.Counting.{both}
use Rattle.jp_resolution.specs.Resolving.{kind_of}
use Rattle.jp_resolve_parts.specs.Outs.{outputs_behind}
use Rattle.jp_resolve_parts.specs.Views.{beside_new, source_behind}
use Rattle.jp_resolve.specs.Walk as spec
use Rattle.jp_resolve.proofs.CountLaws.{agreed}
use Rattle.jp_resolve.proofs.WalkLaws.{arms_more, case_walked, then_refused, then_given, join_walked, select_done, add_one}
use Rattle.jp_resolve.proofs.counting.Resolver.+walking.Goals as goal

pub arms-arms-preserved : goal.arms-arms-preserved
arms-arms-preserved t c =
    let below = c.arms-test.true in
    arms_more c.args.self.now.catalog.now c.args.levels.now c.arms.found.items c.push.new.self.items c.args.arms.now c.arms.arm-index _ c.arm-item.result c.arms.after c.in_ok-before_then.before_then c.in_ok-counts.counts c.in_ok-counts_then.counts_then c.in_ok-after.after c.in_ok-when.when c.in_ok-then.then
    c.arm-item.is (omega arith) (add_one c.arms.arm-index) c.in_ok-counts.ensures c.in_ok-before_then.ensures c.in_ok-counts_then.ensures c.in_ok-when.ensures c.in_ok-then.ensures c.in_ok-after.ensures (search rules)
    ∙ c.arms.invariant

pub expr-returns-in_err-arms-in-Case : goal.expr-returns-in_err-arms-in-Case
expr-returns-in_err-arms-in-Case t c =
    let k = c.in-Case in
    let catalog = c.args.self.now.catalog.now in
    let list = c.as_slice-in-Case-2.result.now in
    let b1 = c.in_ok-before_arms-in-Case.before_arms in
    let b2 = c.in_ok-before_else-in-Case.before_else in
    let h1 : b1 ≡ both c.args.before (spec.counts_of_maybe catalog k.operand) = agreed _ _ c.in_ok-before_arms-in-Case.ensures ∙ ap (both c.args.before) (agreed _ _ c.in_ok-counts-in-Case.ensures) in
    let lists : c.as_slice-in-Case.result.now ≡ list = c.as_slice-in-Case.ensures ∙ sym c.as_slice-in-Case-2.ensures in
    let h2 : b2 ≡ both b1 (spec.counts_of_arms catalog list) = agreed _ _ c.in_ok-before_else-in-Case.ensures ∙ ap (both b1) (agreed _ _ c.in_ok-counts-in-Case-2.ensures ∙ ap (spec.counts_of_arms catalog) lists) in
    let whole = case_walked catalog c.args.ast.now k.operand k.arms list k.otherwise k.at c.args.levels.now c.args.before b1 b2 k.is c.as_slice-in-Case-2.ensures h1 h2 in
    subst (λ a. Gives a c.from_residual-in_err-arms-in-Case.result) whole
    (then_given (spec.maybe_in catalog k.operand c.args.levels.now c.args.before) _ c.in_ok-operand-in-Case.operand _ c.in_ok-operand-in-Case.ensures (search (rules, then_refused)))

pub expr-returns-in_err-otherwise-in-Case : goal.expr-returns-in_err-otherwise-in-Case
expr-returns-in_err-otherwise-in-Case t c =
    let k = c.in-Case in
    let catalog = c.args.self.now.catalog.now in
    let list = c.as_slice-in-Case-2.result.now in
    let b1 = c.in_ok-before_arms-in-Case.before_arms in
    let b2 = c.in_ok-before_else-in-Case.before_else in
    let h1 : b1 ≡ both c.args.before (spec.counts_of_maybe catalog k.operand) = agreed _ _ c.in_ok-before_arms-in-Case.ensures ∙ ap (both c.args.before) (agreed _ _ c.in_ok-counts-in-Case.ensures) in
    let lists : c.as_slice-in-Case.result.now ≡ list = c.as_slice-in-Case.ensures ∙ sym c.as_slice-in-Case-2.ensures in
    let h2 : b2 ≡ both b1 (spec.counts_of_arms catalog list) = agreed _ _ c.in_ok-before_else-in-Case.ensures ∙ ap (both b1) (agreed _ _ c.in_ok-counts-in-Case-2.ensures ∙ ap (spec.counts_of_arms catalog) lists) in
    let whole = case_walked catalog c.args.ast.now k.operand k.arms list k.otherwise k.at c.args.levels.now c.args.before b1 b2 k.is c.as_slice-in-Case-2.ensures h1 h2 in
    subst (λ a. Gives a c.from_residual-in_err-otherwise-in-Case.result) whole
    (then_given (spec.maybe_in catalog k.operand c.args.levels.now c.args.before) _ c.in_ok-operand-in-Case.operand _ c.in_ok-operand-in-Case.ensures (then_given (spec.arms_in catalog list c.args.levels.now b1) _ c.in_ok-arms-in-Case.arms.items _ c.in_ok-arms-in-Case.ensures (search (rules, then_refused))))

pub expr-returns-in_err-node-in-Case : goal.expr-returns-in_err-node-in-Case
expr-returns-in_err-node-in-Case t c =
    let k = c.in-Case in
    let catalog = c.args.self.now.catalog.now in
    let list = c.as_slice-in-Case-2.result.now in
    let b1 = c.in_ok-before_arms-in-Case.before_arms in
    let b2 = c.in_ok-before_else-in-Case.before_else in
    let h1 : b1 ≡ both c.args.before (spec.counts_of_maybe catalog k.operand) = agreed _ _ c.in_ok-before_arms-in-Case.ensures ∙ ap (both c.args.before) (agreed _ _ c.in_ok-counts-in-Case.ensures) in
    let lists : c.as_slice-in-Case.result.now ≡ list = c.as_slice-in-Case.ensures ∙ sym c.as_slice-in-Case-2.ensures in
    let h2 : b2 ≡ both b1 (spec.counts_of_arms catalog list) = agreed _ _ c.in_ok-before_else-in-Case.ensures ∙ ap (both b1) (agreed _ _ c.in_ok-counts-in-Case-2.ensures ∙ ap (spec.counts_of_arms catalog) lists) in
    let whole = case_walked catalog c.args.ast.now k.operand k.arms list k.otherwise k.at c.args.levels.now c.args.before b1 b2 k.is c.as_slice-in-Case-2.ensures h1 h2 in
    subst (λ a. Gives a c.from_residual-in_err-node-in-Case.result) whole
    (then_given (spec.maybe_in catalog k.operand c.args.levels.now c.args.before) _ c.in_ok-operand-in-Case.operand _ c.in_ok-operand-in-Case.ensures (then_given (spec.arms_in catalog list c.args.levels.now b1) _ c.in_ok-arms-in-Case.arms.items _ c.in_ok-arms-in-Case.ensures (then_given (spec.maybe_in catalog k.otherwise c.args.levels.now b2) _ c.in_ok-otherwise-in-Case.otherwise _ c.in_ok-otherwise-in-Case.ensures (search rules))))

pub expr-returns-in_ok-node-in-Case : goal.expr-returns-in_ok-node-in-Case
expr-returns-in_ok-node-in-Case t c =
    let k = c.in-Case in
    let catalog = c.args.self.now.catalog.now in
    let list = c.as_slice-in-Case-2.result.now in
    let b1 = c.in_ok-before_arms-in-Case.before_arms in
    let b2 = c.in_ok-before_else-in-Case.before_else in
    let h1 : b1 ≡ both c.args.before (spec.counts_of_maybe catalog k.operand) = agreed _ _ c.in_ok-before_arms-in-Case.ensures ∙ ap (both c.args.before) (agreed _ _ c.in_ok-counts-in-Case.ensures) in
    let lists : c.as_slice-in-Case.result.now ≡ list = c.as_slice-in-Case.ensures ∙ sym c.as_slice-in-Case-2.ensures in
    let h2 : b2 ≡ both b1 (spec.counts_of_arms catalog list) = agreed _ _ c.in_ok-before_else-in-Case.ensures ∙ ap (both b1) (agreed _ _ c.in_ok-counts-in-Case-2.ensures ∙ ap (spec.counts_of_arms catalog) lists) in
    let whole = case_walked catalog c.args.ast.now k.operand k.arms list k.otherwise k.at c.args.levels.now c.args.before b1 b2 k.is c.as_slice-in-Case-2.ensures h1 h2 in
    subst (λ a. Gives a (Ok c.in_ok-node-in-Case.node)) whole
    (then_given (spec.maybe_in catalog k.operand c.args.levels.now c.args.before) _ c.in_ok-operand-in-Case.operand _ c.in_ok-operand-in-Case.ensures (then_given (spec.arms_in catalog list c.args.levels.now b1) _ c.in_ok-arms-in-Case.arms.items _ c.in_ok-arms-in-Case.ensures (then_given (spec.maybe_in catalog k.otherwise c.args.levels.now b2) _ c.in_ok-otherwise-in-Case.otherwise _ c.in_ok-otherwise-in-Case.ensures c.in_ok-node-in-Case.ensures)))

pub item-returns-in_err-on-in-Join : goal.item-returns-in_err-on-in-Join
item-returns-in_err-on-in-Join t c =
    let j = c.in-Join in
    let catalog = c.args.self.now.catalog.now in
    let left = c.get-in-Join-3.result.now in
    let right = c.get-in-Join-4.result.now in
    let b1 = c.in_ok-before_right-in-Join.before_right in
    let b2 = c.in_ok-before_on-in-Join.before_on in
    let lefts : c.get-in-Join.result.now ≡ left = c.get-in-Join.ensures ∙ sym c.get-in-Join-3.ensures in
    let rights : c.get-in-Join-2.result.now ≡ right = c.get-in-Join-2.ensures ∙ sym c.get-in-Join-4.ensures in
    let h1 : b1 ≡ both c.args.before (spec.counts_of_item catalog left) = agreed _ _ c.in_ok-before_right-in-Join.ensures ∙ ap (both c.args.before) (agreed _ _ c.in_ok-counts-in-Join.ensures ∙ ap (spec.counts_of_item catalog) lefts) in
    let h2 : b2 ≡ both b1 (spec.counts_of_item catalog right) = agreed _ _ c.in_ok-before_on-in-Join.ensures ∙ ap (both b1) (agreed _ _ c.in_ok-counts-in-Join-2.ensures ∙ ap (spec.counts_of_item catalog) rights) in
    let own = c.behind-own.result.now in
    let own_is = c.behind-own.ensures ∙ ap (drop c.len-start.result) c.as_slice.ensures in
    let levels : c.as_slice-in-Join.result.now ≡ own ∷ c.args.outer.now = c.as_slice-in-Join.ensures ∙ agreed _ _ c.in_ok-levels-in-Join.ensures in
    let e = c.in_err-on-in-Join.field-0.0 in
    let result : c.from_residual-in_err-on-in-Join.result ≡ Err e = search rules in
    let on : Gives (spec.cond_in catalog j.on (own ∷ c.args.outer.now) b2) (Err e) = subst (λ z. Gives (spec.cond_in catalog j.on z b2) (Err e)) levels c.in_err-on-in-Join.ensures in
    subst (λ z. Gives (source_behind c.args.entries.now (spec.item_in catalog c.args.item.now c.args.outer.now c.args.entries.now c.args.before)) (beside_new z c.item-in-Join.new.entries)) (sym result)
    (join_walked catalog c.args.item.now j.kind j.left j.right left right j.on j.at c.args.outer.now c.args.entries.now c.args.before b1 b2 c.in_ok-left-in-Join.left c.in_ok-right-in-Join.right c.item.new.entries c.item-in-Join.new.entries own c.len-start.result (Err e) j.is c.get-in-Join-3.ensures c.get-in-Join-4.ensures h1 h2 c.len-start.ensures c.in_ok-left-in-Join.ensures c.in_ok-right-in-Join.ensures own_is on)

pub item-returns-in_ok-tree-in-Join : goal.item-returns-in_ok-tree-in-Join
item-returns-in_ok-tree-in-Join t c =
    let j = c.in-Join in
    let catalog = c.args.self.now.catalog.now in
    let left = c.get-in-Join-3.result.now in
    let right = c.get-in-Join-4.result.now in
    let b1 = c.in_ok-before_right-in-Join.before_right in
    let b2 = c.in_ok-before_on-in-Join.before_on in
    let lefts : c.get-in-Join.result.now ≡ left = c.get-in-Join.ensures ∙ sym c.get-in-Join-3.ensures in
    let rights : c.get-in-Join-2.result.now ≡ right = c.get-in-Join-2.ensures ∙ sym c.get-in-Join-4.ensures in
    let h1 : b1 ≡ both c.args.before (spec.counts_of_item catalog left) = agreed _ _ c.in_ok-before_right-in-Join.ensures ∙ ap (both c.args.before) (agreed _ _ c.in_ok-counts-in-Join.ensures ∙ ap (spec.counts_of_item catalog) lefts) in
    let h2 : b2 ≡ both b1 (spec.counts_of_item catalog right) = agreed _ _ c.in_ok-before_on-in-Join.ensures ∙ ap (both b1) (agreed _ _ c.in_ok-counts-in-Join-2.ensures ∙ ap (spec.counts_of_item catalog) rights) in
    let own = c.behind-own.result.now in
    let own_is = c.behind-own.ensures ∙ ap (drop c.len-start.result) c.as_slice.ensures in
    let levels : c.as_slice-in-Join.result.now ≡ own ∷ c.args.outer.now = c.as_slice-in-Join.ensures ∙ agreed _ _ c.in_ok-levels-in-Join.ensures in
    let conds = c.in_ok-on-in-Join.on in
    let on : Gives (spec.cond_in catalog j.on (own ∷ c.args.outer.now) b2) (Ok conds) = subst (λ z. Gives (spec.cond_in catalog j.on z b2) (Ok conds)) levels c.in_ok-on-in-Join.ensures in
    let tree_is : c.in_ok-tree-in-Join.tree ≡ tree.Join (kind_of j.kind) c.in_ok-left-in-Join.left c.in_ok-right-in-Join.right conds = agreed _ _ c.in_ok-tree-in-Join.ensures ∙ ap (λ w. tree.Join w c.in_ok-left-in-Join.left c.in_ok-right-in-Join.right conds) c.kind_of-kind.ensures in
    subst (λ z. Gives (source_behind c.args.entries.now (spec.item_in catalog c.args.item.now c.args.outer.now c.args.entries.now c.args.before)) (Ok (z, c.item-in-Join.new.entries))) (sym tree_is)
    (join_walked catalog c.args.item.now j.kind j.left j.right left right j.on j.at c.args.outer.now c.args.entries.now c.args.before b1 b2 c.in_ok-left-in-Join.left c.in_ok-right-in-Join.right c.item.new.entries c.item-in-Join.new.entries own c.len-start.result (Ok conds) j.is c.get-in-Join-3.ensures c.get-in-Join-4.ensures h1 h2 c.len-start.ensures c.in_ok-left-in-Join.ensures c.in_ok-right-in-Join.ensures own_is on)

pub select-returns : goal.select-returns
select-returns t c =
    let catalog = c.args.self.now.catalog.now in
    let s = c.args.select.now in
    let x = out-Select s in
    let outer = c.args.outer.now in
    let b1 = c.in_ok-before_items.before_items in
    let b2 = c.in_ok-before_cond.before_cond in
    let es = c.items.new.entries in
    let members = c.in_ok-members.members in
    let h1 : b1 ≡ both c.args.before (spec.counts_of_targets catalog x.targets) = agreed _ _ c.in_ok-before_items.ensures ∙ ap (both c.args.before) (agreed _ _ c.in_ok-counts.ensures ∙ ap (spec.counts_of_targets catalog) c.as_slice.ensures) in
    let h2 : b2 ≡ both b1 (spec.counts_of_items catalog x.items) = agreed _ _ c.in_ok-before_cond.ensures ∙ ap (both b1) (agreed _ _ c.in_ok-counts-2.ensures ∙ ap (spec.counts_of_items catalog) c.as_slice-2.ensures) in
    let from : Gives (spec.sources_behind [] [] (spec.items_in catalog x.items outer [] b1)) (Ok (members, es)) =
    subst (λ z. Gives (spec.sources_behind [] z (spec.items_in catalog x.items outer z b1)) (Ok (members, es))) c.new-entries.ensures
    (subst (λ z. Gives (spec.sources_behind [] c.new-entries.result (spec.items_in catalog z outer c.new-entries.result b1)) (Ok (members, es))) c.as_slice-3.ensures c.in_ok-members.ensures) in
    let levels = c.in_ok-levels.levels in
    let levels_are : levels ≡ es ∷ outer = agreed _ _ c.in_ok-levels.ensures ∙ ap (λ z. z ∷ outer) c.as_slice-4.ensures in
    let conds_are : Gives (spec.cond_in catalog x.cond levels b2) (Ok c.in_ok-conds.conds) = subst (λ z. Gives (spec.cond_in catalog x.cond z b2) (Ok c.in_ok-conds.conds)) c.as_slice-5.ensures c.in_ok-conds.ensures in
    let outputs : Gives (outputs_behind (record { list = []; columns = [] }) (spec.all_outputs_in catalog x.targets levels c.args.before)) (Ok c.in_ok-outputs.outputs) =
    subst (λ z. Gives (outputs_behind (record { list = []; columns = [] }) (spec.all_outputs_in catalog x.targets z c.args.before)) (Ok c.in_ok-outputs.outputs)) c.as_slice-7.ensures
    (subst (λ z. Gives (outputs_behind (record { list = []; columns = [] }) (spec.all_outputs_in catalog z c.as_slice-7.result.now c.args.before)) (Ok c.in_ok-outputs.outputs)) c.as_slice-6.ensures c.in_ok-outputs.ensures) in
    let tree_is : c.in_ok-tree.tree ≡ tree.From members [] = agreed _ _ c.in_ok-tree.ensures ∙ ap (tree.From members) c.new.ensures in
    let o = c.in_ok-outputs.outputs in
    subst (λ z. Gives (spec.select_in catalog s outer c.args.before) (Ok (record { entries = es; outputs = o.list; columns = o.columns; distinct = x.distinct; tree = z; conds = c.in_ok-conds.conds }))) (sym tree_is)
    (select_done catalog s outer levels c.args.before b1 b2 members es c.in_ok-conds.conds o h1 h2 from levels_are conds_are outputs)
