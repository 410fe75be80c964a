use Rattle.std.proofs.Common.{◌≡◌, ◌++◌, sym, subst, arith, List}
use Rattle.jp_session.specs.Turned.{turned}
use Rattle.jp_tree.specs.declared.prepared.Block.{Block}
use Rattle.jp_session.proofs.PreparedLaws.{nothing_left, put_behind}
use Rattle.jp_session.proofs.preparing.from_end.Goals as goal

pub left-preserved : goal.left-preserved
left-preserved c =
    subst (λ (bs : List Block). bs ++ turned (λ (b : Block). b) c.pop.new.self.items ≡ turned (λ (b : Block). b) c.args.blocks.items) (sym c.in_ok-push.ensures.ok)
    (put_behind c.left.list c.left.blocks.items c.pop.new.self.items (turned (λ (b : Block). b) c.args.blocks.items) c.in-Some.block c.in-Some.ensures.items c.left.invariant)

pub returns : goal.returns
returns c = nothing_left c.left.blocks.items (turned (λ (b : Block). b) c.args.blocks.items) c.left.list (omega (arith, c.in_default.ensures.cases.0, c.left.blocks.ok.0)) c.left.invariant
