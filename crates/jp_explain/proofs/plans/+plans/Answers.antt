use Rattle.std.proofs.Common.{◌≡◌, ◌∙◌, ◌++◌, ap, sym, subst, rules, Some, [], ◌∷◌}
use Rattle.std.specs.Prelude.{All, string_bytes, slice_get}
use Rattle.std.proofs.lemmas.List.Elements.{All-head, All-tail}
use Rattle.jp_problem.specs.Made.{IsEstimable, IsSearchable}
use Rattle.jp_problem.specs.declared.types.Problem.{Problem}
use Rattle.jp_tree.specs.declared.pool.PlanNode.TheVariants as node
use Rattle.jp_tree.specs.BlockParts.{blocks_of_kind}
use Rattle.jp_tree.proofs.PoolLaws.{named_below}
use Rattle.jp_tree.specs.PlanTrees.{IsLegalAt, tree_at}
use Rattle.jp_explain.specs.Plans.{IsBehind, item_texts, plans_behind, problem_at, scan_lines, step_lines, tree_text}
use Rattle.jp_explain.proofs.BlockLaws.{blocks_behind, full_pushed, item_pushed, join_pushed, legal_plan, plan_is, scan_pushed, searchable_at, sub_pushed}
use Rattle.jp_tree.proofs.PlanTreeLaws.{legal_item, legal_sides}
use Rattle.jp_explain.proofs.plans.+plans.Goals as goal

-- ---- blocks

pub push_item_blocks-returns-in_ok-push_block-in-Sub : goal.push_item_blocks-returns-in_ok-push_block-in-Sub
push_item_blocks-returns-in_ok-push_block-in-Sub t c =
    let p = c.args.prepared.now in
    let all = subst (λ k. All (IsBehind p c.args.number) (blocks_of_kind k)) c.in-Sub.is c.requires.1.1.1 in
    let behind = All-head (IsBehind p c.args.number) c.in-Sub.block [] all in
    sub_pushed p c.args.number c.in-Sub.block c.args.indent.now (string_bytes c.args.text.now) _ behind c.in_ok-push_block-in-Sub.ensures
    ∙ ap (λ k. string_bytes c.args.text.now ++ item_texts p (plans_behind p c.args.number) c.args.indent.now k) (sym c.in-Sub.is)

pub push_item_blocks-returns-in_ok-push_plan-in-Full-2 : goal.push_item_blocks-returns-in_ok-push_plan-in-Full-2
push_item_blocks-returns-in_ok-push_plan-in-Full-2 t c =
    let p = c.args.prepared.now in
    let all = subst (λ k. All (IsBehind p c.args.number) (blocks_of_kind k)) c.in-Full.is c.requires.1.1.1 in
    let left = All-head (IsBehind p c.args.number) c.in-Full.left (c.in-Full.right ∷ []) all in
    let right = All-head (IsBehind p c.args.number) c.in-Full.right [] (All-tail (IsBehind p c.args.number) c.in-Full.left (c.in-Full.right ∷ []) all) in
    full_pushed p c.args.number c.in-Full.left c.in-Full.right c.args.indent.now (string_bytes c.args.text.now) _ _ left right c.in_ok-push_plan-in-Full.ensures c.in_ok-push_plan-in-Full-2.ensures
    ∙ ap (λ k. string_bytes c.args.text.now ++ item_texts p (plans_behind p c.args.number) c.args.indent.now k) (sym c.in-Full.is)

pub push_plan-push_tree-requires : goal.push_plan-push_tree-requires
push_plan-push_tree-requires t c =
    let p = c.args.prepared.now in
    (search rules, (c.requires.1.1.0, (c.requires.1.1.1, subst (IsLegalAt (problem_at p c.args.number) p.pool.nodes) (sym c.plan_at.ensures) (legal_plan p c.requires.1.1.0 c.args.number c.requires.1.1.1))))

pub push_plan-returns : goal.push_plan-returns
push_plan-returns t c =
    let p = c.args.prepared.now in
    let old = string_bytes c.args.text.now in
    c.in_ok-push_tree.ensures
    ∙ ap (λ id. old ++ tree_text p (plans_behind p c.args.number) (problem_at p c.args.number) c.args.indent.now (tree_at p.pool.nodes id)) c.plan_at.ensures
    ∙ ap (λ x. old ++ x) (sym (plan_is p c.args.number c.args.indent.now c.requires.1.1.1))

-- ---- scans

pub push_scan-push_item_blocks-requires : goal.push_scan-push_item_blocks-requires
push_scan-push_item_blocks-requires t c =
    let p = c.args.prepared.now in
    let is : slice_get (problem_at p c.args.number).items c.args.item ≡ Some c.item_at-scanned.result.now = ap (λ (q : Problem). slice_get q.items c.args.item) (sym c.problem_at-problem.ensures) ∙ c.item_at-scanned.ensures in
    (search rules, (c.requires.1.1.0, blocks_behind p c.requires.1.1.0 c.args.number c.args.item c.item_at-scanned.result.now c.requires.1.1.1.0 is))

pub push_scan-returns : goal.push_scan-returns
push_scan-returns t c =
    let p = c.args.prepared.now in
    let deep = c.as_str.ensures.value ∙ c.in_ok-deeper.ensures in
    let lines : string_bytes c.push_scan_lines.new.text ≡ string_bytes c.args.text.now ++ scan_lines p.names c.problem_at-problem.result.now c.args.indent.now c.args.item c.item_at-scanned.result.now =
    c.in_ok-push_scan_lines.ensures ∙ ap (λ names. string_bytes c.args.text.now ++ scan_lines names c.problem_at-problem.result.now c.args.indent.now c.args.item c.item_at-scanned.result.now) c.as_slice.ensures
    in
    item_pushed p (plans_behind p c.args.number) (problem_at p c.args.number) c.problem_at-problem.result.now c.args.indent.now c.as_str.result.now c.args.item c.item_at-scanned.result.now
    (string_bytes c.args.text.now) (string_bytes c.push_scan_lines.new.text) (string_bytes c.push_item_blocks.new.text) c.problem_at-problem.ensures c.item_at-scanned.ensures deep lines c.in_ok-push_item_blocks.ensures

-- ---- steps

pub push_tree-node-requires : goal.push_tree-node-requires
push_tree-node-requires t c = record { there = named_below c.args.prepared.now.pool.nodes c.args.id c.requires.1.1.1.1.tree c.requires.1.1.1.1.named }

pub push_tree-push_scan-requires : goal.push_tree-push_scan-requires
push_tree-push_scan-requires t c =
    let p = c.args.prepared.now in
    let is : slice_get p.pool.nodes c.args.id ≡ Some (node.Scan c.in-Scan.item) = let e = c.node.ensures.is in cc in
    (search rules, (c.requires.1.1.0, (c.requires.1.1.1.0, legal_item (problem_at p c.args.number) p.pool.nodes c.args.id c.in-Scan.item c.requires.1.1.1.1 is)))

pub push_tree-weight_of-requires-clause-searchable : goal.push_tree-weight_of-requires-clause-searchable
push_tree-weight_of-requires-clause-searchable t c = subst IsSearchable (sym c.problem_at-problem.ensures) (searchable_at c.args.prepared.now c.requires.1.1.0 c.args.number c.requires.1.1.1.0)

pub push_tree-weight_of-requires-clause-legal : goal.push_tree-weight_of-requires-clause-legal
push_tree-weight_of-requires-clause-legal t c =
    let p = c.args.prepared.now in
    let is : slice_get p.pool.nodes c.args.id ≡ Some (node.Join c.in-Join.method c.in-Join.step c.in-Join.left c.in-Join.right) = let e = c.node.ensures.is in cc in
    let sides = legal_sides (problem_at p c.args.number) p.pool.nodes c.args.id c.in-Join.method c.in-Join.step c.in-Join.left c.in-Join.right c.requires.1.1.1.1 is in
    subst (λ q. IsLegalAt q p.pool.nodes c.in-Join.left) (sym c.problem_at-problem.ensures) sides.0

pub push_tree-weight_of-requires-in-Join-clause-searchable : goal.push_tree-weight_of-requires-in-Join-clause-searchable
push_tree-weight_of-requires-in-Join-clause-searchable t c = subst IsSearchable (sym c.problem_at-problem.ensures) (searchable_at c.args.prepared.now c.requires.1.1.0 c.args.number c.requires.1.1.1.0)

pub push_tree-weight_of-requires-in-Join-clause-legal : goal.push_tree-weight_of-requires-in-Join-clause-legal
push_tree-weight_of-requires-in-Join-clause-legal t c =
    let p = c.args.prepared.now in
    let is : slice_get p.pool.nodes c.args.id ≡ Some (node.Join c.in-Join.method c.in-Join.step c.in-Join.left c.in-Join.right) = let e = c.node.ensures.is in cc in
    let sides = legal_sides (problem_at p c.args.number) p.pool.nodes c.args.id c.in-Join.method c.in-Join.step c.in-Join.left c.in-Join.right c.requires.1.1.1.1 is in
    subst (λ q. IsLegalAt q p.pool.nodes c.in-Join.right) (sym c.problem_at-problem.ensures) sides.1

pub push_tree-weight_of-requires-in-Join-2-clause-searchable : goal.push_tree-weight_of-requires-in-Join-2-clause-searchable
push_tree-weight_of-requires-in-Join-2-clause-searchable t c = subst IsSearchable (sym c.problem_at-problem.ensures) (searchable_at c.args.prepared.now c.requires.1.1.0 c.args.number c.requires.1.1.1.0)

pub push_tree-push_step_lines-requires : goal.push_tree-push_step_lines-requires
push_tree-push_step_lines-requires t c = subst IsEstimable (sym c.problem_at-problem.ensures) (searchable_at c.args.prepared.now c.requires.1.1.0 c.args.number c.requires.1.1.1.0).estimable

pub push_tree-push_tree-requires : goal.push_tree-push_tree-requires
push_tree-push_tree-requires t c =
    let p = c.args.prepared.now in
    let is : slice_get p.pool.nodes c.args.id ≡ Some (node.Join c.in-Join.method c.in-Join.step c.in-Join.left c.in-Join.right) = let e = c.node.ensures.is in cc in
    let sides = legal_sides (problem_at p c.args.number) p.pool.nodes c.args.id c.in-Join.method c.in-Join.step c.in-Join.left c.in-Join.right c.requires.1.1.1.1 is in
    (search rules, (c.requires.1.1.0, (c.requires.1.1.1.0, sides.0)))

pub push_tree-push_tree-requires-in-Join : goal.push_tree-push_tree-requires-in-Join
push_tree-push_tree-requires-in-Join t c =
    let p = c.args.prepared.now in
    let is : slice_get p.pool.nodes c.args.id ≡ Some (node.Join c.in-Join.method c.in-Join.step c.in-Join.left c.in-Join.right) = let e = c.node.ensures.is in cc in
    let sides = legal_sides (problem_at p c.args.number) p.pool.nodes c.args.id c.in-Join.method c.in-Join.step c.in-Join.left c.in-Join.right c.requires.1.1.1.1 is in
    (search rules, (c.requires.1.1.0, (c.requires.1.1.1.0, sides.1)))

pub push_tree-returns-in_ok-push_scan-in-Scan : goal.push_tree-returns-in_ok-push_scan-in-Scan
push_tree-returns-in_ok-push_scan-in-Scan t c =
    let p = c.args.prepared.now in
    let is : slice_get p.pool.nodes c.args.id ≡ Some (node.Scan c.in-Scan.item) = let e = c.node.ensures.is in cc in
    scan_pushed p (plans_behind p c.args.number) (problem_at p c.args.number) c.args.indent.now p.pool.nodes c.args.id c.in-Scan.item (string_bytes c.args.text.now) _ is c.in_ok-push_scan-in-Scan.ensures

pub push_tree-returns-in_ok-push_tree-in-Join-2 : goal.push_tree-returns-in_ok-push_tree-in-Join-2
push_tree-returns-in_ok-push_tree-in-Join-2 t c =
    let p = c.args.prepared.now in
    let inner = plans_behind p c.args.number in
    let problem = problem_at p c.args.number in
    let q = c.problem_at-problem.result.now in
    let old = string_bytes c.args.text.now in
    let is : slice_get p.pool.nodes c.args.id ≡ Some (node.Join c.in-Join.method c.in-Join.step c.in-Join.left c.in-Join.right) = let e = c.node.ensures.is in cc in
    let lines : string_bytes c.push_step_lines.new.text ≡ old ++ step_lines p.names q c.args.indent.now c.in-Join.method c.in-Join.step c.weight_of.result.set c.weight_of-in-Join.result.set c.weight_of-in-Join-2.result.cost =
    c.in_ok-push_step_lines-in-Join.ensures
    ∙ ap (λ names. old ++ step_lines names q c.args.indent.now c.in-Join.method c.in-Join.step c.weight_of.result.set c.weight_of-in-Join.result.set c.weight_of-in-Join-2.result.cost) c.as_slice.ensures
    in
    let deep = c.as_str.ensures.value ∙ c.in_ok-deeper-in-Join.ensures in
    let right = c.in_ok-push_tree-in-Join-2.ensures
    ∙ ap (λ x. string_bytes c.push_tree.new.text ++ tree_text p inner problem x (tree_at p.pool.nodes c.in-Join.right)) (c.as_str-in-Join.ensures.value ∙ sym c.as_str.ensures.value)
    in
    join_pushed p inner problem c.args.indent.now p.pool.nodes c.args.id c.in-Join.method c.in-Join.step c.in-Join.left c.in-Join.right q
    c.weight_of.result.set c.weight_of-in-Join.result.set c.weight_of-in-Join-2.result.cost c.as_str.result.now old
    (string_bytes c.push_step_lines.new.text) (string_bytes c.push_tree.new.text) (string_bytes c.push_tree-in-Join.new.text)
    is c.in-Join.ensures.children.0 c.in-Join.ensures.children.1 c.problem_at-problem.ensures c.weight_of.ensures.set c.weight_of-in-Join.ensures.set c.weight_of-in-Join-2.ensures.cost deep lines
    c.in_ok-push_tree-in-Join.ensures right
