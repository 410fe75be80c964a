use Rattle.std.proofs.Common.{◌≡◌, ◌++◌, ap, append-nil}
use Rattle.std.specs.List.{flat_map}
use Rattle.jp_session.specs.Names.{arm_names, option_names}
use Rattle.jp_session.proofs.NameLaws.{case_named}
use Rattle.jp_session.proofs.names.+leaves.Goals as goal
use Rattle.jp_session.proofs.names.+leaves.Goals.{push_expr-in-Some+in_ok-push_expr-in-Some, push_expr-in-None}

pub push_expr-returns-in_ok-push_expr-in-Some-otherwise : goal.push_expr-returns-in_ok-push_expr-in-Some-otherwise
push_expr-returns-in_ok-push_expr-in-Some-otherwise t c =
    let catalog = c.args.catalog.now in
    let old = c.args.leaves.now.items in
    let first : c.match-operand.leaves.items ≡ old ++ option_names catalog c.in-Case.operand = elim c.match-operand.branch [
      | push_expr-in-Some+in_ok-push_expr-in-Some w ↦ (let e = ap (option_names catalog) w.in-Some.is in let f = w.in_ok-push_expr-in-Some.ensures in cc)
      | push_expr-in-None w ↦ (let e = ap (option_names catalog) w.in-None.is in let n = append-nil old in cc)
    ] in
    let second : c.push_arms.new.leaves.items ≡ c.match-operand.leaves.items ++ flat_map (arm_names catalog) c.in-Case.arms = let f = c.in_ok-push_arms-in-Case.ensures in cc in
    let last : c.push_expr-in-Some-otherwise.new.leaves.items ≡ c.push_arms.new.leaves.items ++ option_names catalog c.in-Case.otherwise = let e = ap (option_names catalog) c.in-Some-otherwise.is in let f = c.in_ok-push_expr-in-Some-otherwise.ensures in cc in
    let all = case_named catalog c.in-Case.operand c.in-Case.arms c.in-Case.otherwise old _ _ _ first second last in
    cc

pub push_expr-returns-in-None-otherwise : goal.push_expr-returns-in-None-otherwise
push_expr-returns-in-None-otherwise t c =
    let catalog = c.args.catalog.now in
    let old = c.args.leaves.now.items in
    let first : c.match-operand.leaves.items ≡ old ++ option_names catalog c.in-Case.operand = elim c.match-operand.branch [
      | push_expr-in-Some+in_ok-push_expr-in-Some w ↦ (let e = ap (option_names catalog) w.in-Some.is in let f = w.in_ok-push_expr-in-Some.ensures in cc)
      | push_expr-in-None w ↦ (let e = ap (option_names catalog) w.in-None.is in let n = append-nil old in cc)
    ] in
    let second : c.push_arms.new.leaves.items ≡ c.match-operand.leaves.items ++ flat_map (arm_names catalog) c.in-Case.arms = let f = c.in_ok-push_arms-in-Case.ensures in cc in
    let last : c.push_arms.new.leaves.items ≡ c.push_arms.new.leaves.items ++ option_names catalog c.in-Case.otherwise = let e = ap (option_names catalog) c.in-None-otherwise.is in let n = append-nil c.push_arms.new.leaves.items in cc in
    let all = case_named catalog c.in-Case.operand c.in-Case.arms c.in-Case.otherwise old _ _ _ first second last in
    cc
