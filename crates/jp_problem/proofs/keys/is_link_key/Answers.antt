use Rattle.std.proofs.Common.{◌∙◌, map, ap, sym}
use Rattle.std.specs.List.{list_any}
use Rattle.jp_problem.specs.ClassWords.{ranked_at}
use Rattle.jp_problem.specs.KeyTests.{is_key}
use Rattle.jp_problem.specs.Problems.{rels_of_item}
use Rattle.jp_problem.proofs.KeyLaws.{one_link}
use Rattle.jp_problem.proofs.PushLaws.{linked_pair, no_left, no_right}
use Rattle.jp_problem.proofs.keys.is_link_key.Goals as goal

pub returns-in-Some-Some : goal.returns-in-Some-Some
returns-in-Some-Some c =
    let rels = map rels_of_item c.args.items.now in
    let ms = c.args.members.now in
    c.is_ranked_key.ensures ∙ sym (one_link rels c.args.s1 c.args.s2 (ranked_at ms c.in-Some-Some.i) (ranked_at ms c.in-Some-Some.j))
    ∙ ap (list_any (is_key rels c.args.s1 c.args.s2)) (sym (linked_pair c.args.stage.now ms c.in-Some-Some.i c.in-Some-Some.j (sym c.first_there.ensures ∙ c.in-Some-Some.is-0) (sym c.first_there-2.ensures ∙ c.in-Some-Some.is-1)))

pub returns-in_default : goal.returns-in_default
returns-in_default c = ap (list_any (is_key (map rels_of_item c.args.items.now) c.args.s1 c.args.s2)) (sym (no_right c.args.stage.now c.args.members.now (sym c.first_there-2.ensures ∙ c.in_default.is-1)))

pub returns-in_default-2 : goal.returns-in_default-2
returns-in_default-2 c = ap (list_any (is_key (map rels_of_item c.args.items.now) c.args.s1 c.args.s2)) (sym (no_left c.args.stage.now c.args.members.now (sym c.first_there.ensures ∙ c.in_default.is-0)))
