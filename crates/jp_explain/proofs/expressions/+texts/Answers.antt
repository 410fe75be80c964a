use Rattle.std.proofs.Common.{◌≡◌, ap, ◌++◌, Some}
use Rattle.std.specs.Prelude.{codes, string_bytes}
use Rattle.std.specs.List.{flat_map}
use Rattle.jp_explain.specs.Expressions.{printed_arm, printed_behind}
use Rattle.jp_explain.proofs.TextLaws.{behind_none, behind_some, case_pushed}
use Rattle.jp_explain.proofs.expressions.+texts.Goals as goal
use Rattle.jp_explain.proofs.expressions.+texts.Goals.{push_bare-in-Some+in_ok-push-in-Some+in_ok-push_expr-in-Some, push_bare-in-None, push_bare-in-Some-otherwise+in_ok-push-in-Some-otherwise+in_ok-push_expr-in-Some-otherwise, push_bare-in-None-otherwise}

pub push_bare-returns-in_ok-push-in-Case-2 : goal.push_bare-returns-in_ok-push-in-Case-2
push_bare-returns-in_ok-push-in-Case-2 t c =
    let names = c.args.names.now in
    let old = string_bytes c.args.text.now in
    let first : string_bytes c.push-in-Case.new.text ≡ old ++ codes "CASE" = let f = c.in_ok-push-in-Case.ensures in cc in
    let second : string_bytes c.match-operand.text ≡ string_bytes c.push-in-Case.new.text ++ printed_behind names (codes " ") c.in-Case.operand = elim c.match-operand.branch [
      | push_bare-in-Some+in_ok-push-in-Some+in_ok-push_expr-in-Some w ↦ (
          let told = w.get-in-Some.ensures in
          let is : c.in-Case.operand ≡ Some w.get-in-Some.result.now = cc in
          let e = behind_some names (codes " ") c.in-Case.operand w.get-in-Some.result.now (string_bytes c.push-in-Case.new.text) (string_bytes w.push-in-Some.new.text) (string_bytes w.push_expr-in-Some.new.text) is w.in_ok-push-in-Some.ensures w.in_ok-push_expr-in-Some.ensures in
          let same = ap string_bytes w.text-is in
          cc)
      | push_bare-in-None w ↦ (
          let e = behind_none names (codes " ") c.in-Case.operand (string_bytes c.push-in-Case.new.text) (string_bytes c.match-operand.text) w.in-None.is (ap string_bytes w.text-is) in
          cc)
    ] in
    let third : string_bytes c.push_arms.new.text ≡ string_bytes c.match-operand.text ++ flat_map (printed_arm names) c.in-Case.arms = let f = c.in_ok-push_arms-in-Case.ensures in cc in
    let fourth : string_bytes c.match-otherwise.text ≡ string_bytes c.push_arms.new.text ++ printed_behind names (codes " ELSE ") c.in-Case.otherwise = elim c.match-otherwise.branch [
      | push_bare-in-Some-otherwise+in_ok-push-in-Some-otherwise+in_ok-push_expr-in-Some-otherwise w ↦ (
          let told = w.get-in-Some-otherwise.ensures in
          let is : c.in-Case.otherwise ≡ Some w.get-in-Some-otherwise.result.now = cc in
          let e = behind_some names (codes " ELSE ") c.in-Case.otherwise w.get-in-Some-otherwise.result.now (string_bytes c.push_arms.new.text) (string_bytes w.push-in-Some-otherwise.new.text) (string_bytes w.push_expr-in-Some-otherwise.new.text) is w.in_ok-push-in-Some-otherwise.ensures w.in_ok-push_expr-in-Some-otherwise.ensures in
          let same = ap string_bytes w.text-is in
          cc)
      | push_bare-in-None-otherwise w ↦ (
          let e = behind_none names (codes " ELSE ") c.in-Case.otherwise (string_bytes c.push_arms.new.text) (string_bytes c.match-otherwise.text) w.in-None-otherwise.is (ap string_bytes w.text-is) in
          cc)
    ] in
    let last : string_bytes c.push-in-Case-2.new.text ≡ string_bytes c.match-otherwise.text ++ codes " END" = let f = c.in_ok-push-in-Case-2.ensures in cc in
    let all = case_pushed names c.in-Case.operand c.in-Case.arms c.in-Case.otherwise old _ _ _ _ _ first second third fourth last in
    cc
