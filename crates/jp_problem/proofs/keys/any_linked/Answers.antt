use Rattle.std.proofs.Common.{◌≡◌, ◌∙◌, ◌+◌, suc, map, ap, sym, arith}
use Rattle.std.specs.List.{list_any}
use Rattle.jp_problem.specs.ClassWords.{ranked_at, ups_from}
use Rattle.jp_problem.specs.KeyTests.{is_key, is_key_equality}
use Rattle.jp_problem.specs.Problems.{rels_of_item}
use Rattle.jp_problem.proofs.KeyLaws.{of_ups}
use Rattle.jp_problem.proofs.PushLaws.{linked_before, linked_first, linked_none}
use Rattle.jp_problem.proofs.keys.any_linked.Goals as goal

pub returns-in-Some : goal.returns-in-Some
returns-in-Some c =
    let rels = map rels_of_item c.args.items.now in
    let ms = c.args.members.now in
    c.any_up.ensures ∙ sym (of_ups rels c.args.s1 c.args.s2 (ranked_at ms c.in-Some.first) (ups_from c.args.stage.now ms 0))
    ∙ ap (list_any (is_key rels c.args.s1 c.args.s2)) (sym (linked_before c.args.stage.now ms c.in-Some.first (sym c.first_before.ensures ∙ c.in-Some.is)))

pub returns-in-Some-first_up : goal.returns-in-Some-first_up
returns-in-Some-first_up c =
    let rels = map rels_of_item c.args.items.now in
    let ms = c.args.members.now in
    let k = c.in-Some-first_up.first in
    let next : k + 1 ≡ suc k = omega arith in
    c.any_up-in-Some-first_up.ensures
    ∙ ap (λ n. list_any (is_key_equality rels c.args.s1 c.args.s2 (ranked_at ms k)) (ups_from c.args.stage.now ms n)) next
    ∙ sym (of_ups rels c.args.s1 c.args.s2 (ranked_at ms k) (ups_from c.args.stage.now ms (suc k)))
    ∙ ap (list_any (is_key rels c.args.s1 c.args.s2)) (sym (linked_first c.args.stage.now ms k (sym c.first_before.ensures ∙ c.in-None.is) (sym c.first_up.ensures ∙ c.in-Some-first_up.is)))

pub returns-in-None-first_up : goal.returns-in-None-first_up
returns-in-None-first_up c = ap (list_any (is_key (map rels_of_item c.args.items.now) c.args.s1 c.args.s2)) (sym (linked_none c.args.stage.now c.args.members.now (sym c.first_before.ensures ∙ c.in-None.is) (sym c.first_up.ensures ∙ c.in-None-first_up.is)))
