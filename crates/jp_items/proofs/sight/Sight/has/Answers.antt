use Rattle.std.proofs.Common.{◌∙◌, refl, Some, None}
use Rattle.jp_joins.specs.Tuples.{map_of}
use Rattle.jp_framed.specs.Environments.{row_at}
use Rattle.jp_items.specs.Sights.{env_around, source_of}
use Rattle.jp_items.proofs.SightFacts.{around_has, has_seen, in_none, in_row, outside}
use Rattle.jp_items.proofs.sight.Sight.has.Goals as goal

pub returns-in-Some-row_in : goal.returns-in-Some-row_in
returns-in-Some-row_in c =
    let s = c.args.self.now in
    let m = map_of c.args.tuple in
    has_seen s m c.args.rel (row_at (source_of s c.in-Some.item) (Some c.in-Some-row_in.row) c.args.rel) _ (in_row s m c.args.rel c.in-Some.item c.in-Some-row_in.row c.in-Some.ensures c.in-Some-row_in.ensures) c.item_has.ensures

pub returns-in-None-row_in : goal.returns-in-None-row_in
returns-in-None-row_in c =
    let s = c.args.self.now in
    let m = map_of c.args.tuple in
    has_seen s m c.args.rel None _ (in_none s m c.args.rel c.in-Some.item c.in-Some.ensures c.in-None-row_in.ensures) refl

pub returns-in-None : goal.returns-in-None
returns-in-None c =
    let s = c.args.self.now in
    let m = map_of c.args.tuple in
    has_seen s m c.args.rel (env_around s.around c.args.rel) _ (outside s m c.args.rel c.in-None.ensures) (c.has_relation.ensures ∙ around_has s.around.cells.now s.around.present c.args.rel)
