use Rattle.std.proofs.Common.{◌≡◌, ◌∙◌, ◌++◌, ap, sym, subst, true}
use Rattle.std.specs.Prelude.{All}
use Rattle.jp_induction.proofs.EachPart.{all_of_each}
use Rattle.jp_problem.specs.Shapes.{items_in, shape_of}
use Rattle.jp_query.specs.declared.Query.{out-Query}
use Rattle.jp_session.specs.Items.{is_item, lent}
use Rattle.jp_session.proofs.ItemLaws.{has_items}
use Rattle.jp_session.proofs.items.items_of.Goals as goal

pub each_item-requires-clause-leaves : goal.each_item-requires-clause-leaves
each_item-requires-clause-leaves c =
    let tree = (out-Query c.args.query.now).tree in
    let leaves : lent c.as_slice.result.now ≡ items_in (shape_of tree) = ap lent c.as_slice.ensures.value ∙ c.in_ok-push_leaves.ensures ∙ ap (λ xs. lent xs ++ items_in (shape_of tree)) c.new-leaves.ensures.items in
    subst (All (λ leaf. is_item leaf ≡ true)) (sym leaves) (all_of_each _ (items_in (shape_of tree)) (has_items tree))
