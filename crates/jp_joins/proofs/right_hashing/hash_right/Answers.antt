use Rattle.std.proofs.Common.{◌∙◌, ap, sym}
use Rattle.std.specs.Option.{option_map}
use Rattle.jp_joins.specs.Tuples.{maps_of}
use Rattle.jp_joins.proofs.KeyPlaceFacts.{key_listed}
use Rattle.jp_joins.proofs.right_hashing.hash_right.Goals as goal

pub key_place-requires : goal.key_place-requires
key_place-requires g c = key_listed (g.E.TupleEnv.meant c.args.env.now) (maps_of c.args.left.now) (maps_of c.args.right.now) c.in-Some.first.now c.in-Some.second.now c.on-in-Some.result.now c.requires.look_up
    (sym c.key.ensures ∙ ap (option_map (λ sides. (sides.0.now, sides.1.now))) c.in-Some.is) c.on-in-Some.ensures
