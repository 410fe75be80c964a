use Rattle.std.proofs.Common.{◌≤◌, IfOk, subst, sym}
use Rattle.jp_special_trees.proofs.SizeLaws.{one_of_one}
use Rattle.jp_special_trees.proofs.sizes.+measure.Goals as goal

pub returns-in-len1 : goal.returns-in-len1
returns-in-len1 t c =
    subst (λ s. IfOk c.measure-in-len1.result (λ n. s ≤ n))
    (sym (one_of_one c.args.tree.now c.in-From.members c.in-From.conds c.member-item.result c.as_slice.result.now c.in-From.is c.as_slice.ensures c.in-len1.len_at_least c.in-len1.len_below c.member-item.is)) c.measure-in-len1.ensures
