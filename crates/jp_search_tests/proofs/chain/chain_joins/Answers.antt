use Rattle.std.proofs.Common.{◌∙◌, ◌∷◌, [], sym, ap, subst, length, arith, length-append}
use Rattle.jp_search_tests.specs.Chain.{IsChainFrom, IsChainJoin}
use Rattle.jp_search_tests.proofs.ChainLaws.{one_more}
use Rattle.jp_search_tests.proofs.chain.chain_joins.Goals as goal

pub joins-preserved : goal.joins-preserved
joins-preserved c =
    let e = c.in_ok-push.ensures.ok in
    let longer = ap length e ∙ length-append c.joins.joins (c.chain_join.result ∷ []) in
    (omega (arith, longer, c.joins.invariant.0), subst (IsChainFrom 0) (sym e) (one_more 0 c.joins.joins c.chain_join.result c.joins.invariant.1 (subst (λ n. IsChainJoin n c.chain_join.result) (omega (arith, c.joins.invariant.0)) c.chain_join.ensures)))
