use Rattle.std.proofs.Common.{◌≡◌, ℕ, ◌<◌, Bool, List, [], ◌∷◌, sym, subst, arith}
use Rattle.std.proofs.lemmas.List.Elements.{All-nil, All-cons}
use Rattle.std.specs.List.{IsDistinct}
use Rattle.jp_catalog.specs.Sound.{IsSoundKey}
use Rattle.jp_data_tests.proofs.tables.key_of.Goals as goal

-- a key of one column that is there
one_sound : (columns : List ℕ) (column : ℕ) (primary : Bool) → columns ≡ column ∷ [] → column < 2 → IsSoundKey 2 (record { columns = columns; primary = primary })
unfolding IsDistinct
one_sound columns column primary is less =
    subst (λ cs. IsSoundKey 2 (record { columns = cs; primary = primary })) (sym is)
    (record { some = omega arith; distinct = (tt, tt); there = All-cons (λ i. i < 2) column [] less (All-nil (λ i. i < 2)) })

pub returns-in-Ok : goal.returns-in-Ok
returns-in-Ok c = one_sound c.in-Ok.columns c.args.column c.args.primary c.in-Ok.ensures c.requires
