use Rattle.std.proofs.Common.{◌≡◌, ◌+◌, refl, Some, rules}
use Rattle.std.specs.List.{slice_get}
use Rattle.jp_resolution.specs.Resolving as spec
use Rattle.jp_resolve_parts.proofs.ListLaws.{mapped_more}
use Rattle.jp_resolve_parts.proofs.sources.table_columns.Goals as goal

pub loop-place-preserved : goal.loop-place-preserved
loop-place-preserved c =
    let xs = c.args.columns.now in
    let here : slice_get xs c.loop-place.place ≡ Some (c.in-Some.name.now, c.in-Some.ty.now) = search rules in
    let more = mapped_more spec.table_column xs c.loop-place.place (c.loop-place.place + 1) (c.in-Some.name.now, c.in-Some.ty.now) refl here in
    cc (more, c.in_ok-push.ensures.ok, c.bound_of.ensures, c.in_ok-name.ensures)
