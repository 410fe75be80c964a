use Rattle.std.proofs.Common.{◌≡◌, ◌∙◌, ap, length, arith}
use Rattle.std.proofs.lemmas.List.{length-map}
use Rattle.jp_problem.specs.Blocks.{known_rels}
use Rattle.jp_problem.specs.Shapes.{shape_of, items_in, count_joins}
use Rattle.jp_special.proofs.KindLaws.{length_kinds}
use Rattle.jp_special.proofs.places.count_in.Goals as goal

pub overflow_cast-result-2 : goal.overflow_cast-result-2
overflow_cast-result-2 c =
    let same : c.len-2.result ≡ count_joins (shape_of c.args.tree.now) = c.len-2.ensures ∙ ap length c.in_ok-joins.ensures ∙ length_kinds (shape_of c.args.tree.now) in
    omega (arith, same, c.requires.joins)

pub returns : goal.returns
returns c =
    let items : c.len.result ≡ length (items_in (shape_of c.args.tree.now)) = c.len.ensures ∙ ap length c.in_ok-items.ensures ∙ length-map (items_in (shape_of c.args.tree.now)) known_rels in
    let joins : c.len-2.result ≡ count_joins (shape_of c.args.tree.now) = c.len-2.ensures ∙ ap length c.in_ok-joins.ensures ∙ length_kinds (shape_of c.args.tree.now) in
    (items, joins)
