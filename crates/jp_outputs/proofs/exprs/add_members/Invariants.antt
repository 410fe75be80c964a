use Rattle.std.proofs.Common.{◌≡◌, ◌++◌, map, take}
use Rattle.jp_problem.specs.Made.{member_expr}
use Rattle.jp_outputs.specs.Exprs.{lent_exprs}
use Rattle.jp_outputs.proofs.exprs.add_members.Given as goal

abbrev pub invariant-members : goal.invariant-members
invariant-members l = lent_exprs l.list.items ≡ lent_exprs l.fn.list.items ++ map member_expr (take l.member-index l.members)
