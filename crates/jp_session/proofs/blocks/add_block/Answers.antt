use Rattle.std.proofs.Common.{◌∙◌, ◌++◌, ◌∷◌, [], ap, sym, refl, subst, length, slice_get}
use Rattle.std.proofs.lemmas.Option.{slice_get_read}
use Rattle.jp_session.specs.Blocks.{AreMade, CanBePlanned, IsPlanned}
use Rattle.jp_session.proofs.NextLaws.{can_plan, next_made}
use Rattle.jp_session.proofs.blocks.add_block.Goals as goal

pub plan_block-requires : goal.plan_block-requires
plan_block-requires g c =
    let entries = c.args.entries.now in
    let old = c.args.made.now in
    let at = ap (slice_get entries) c.requires.at ∙ slice_get_read entries (length entries) c.args.at c.index-entries-at.result refl c.requires.left c.index-entries-at.is in
    record {
      can = subst (λ ps. CanBePlanned c.args.catalog.now ps (length entries) c.index-entries-at.result) (sym c.as_slice.ensures.value)
          (can_plan c.args.catalog.now c.requires.list.query entries c.requires.list.is old.blocks.items old.prices.items old.pool.nodes c.requires.made c.index-entries-at.result at c.requires.few);
    }

pub returns-clause-made : goal.returns-clause-made
returns-clause-made g c =
    let catalog = c.args.catalog.now in
    let entries = c.args.entries.now in
    let old = c.args.made.now in
    let new = c.plan_block.new.pool.nodes in
    let block = c.in_ok-planned.planned.block in
    let price = c.in_ok-planned.planned.price in
    let at = ap (slice_get entries) c.requires.at ∙ slice_get_read entries (length entries) c.args.at c.index-entries-at.result refl c.requires.left c.index-entries-at.is in
    let planned = subst (λ ps. IsPlanned catalog ps (length entries) c.index-entries-at.result new block price) c.as_slice.ensures.value c.in_ok-planned.ensures.is in
    let made = next_made catalog c.requires.list.query entries c.requires.list.is old.blocks.items old.prices.items old.pool.nodes c.requires.made c.index-entries-at.result at block price new planned c.in_ok-planned.ensures.kept in
    subst (λ bs. AreMade catalog entries bs c.push-2.new.self.items new) (sym c.in_ok-push.ensures.items)
    (subst (λ ps. AreMade catalog entries (old.blocks.items ++ block ∷ []) ps new) (sym c.in_ok-push-2.ensures.items) made)
