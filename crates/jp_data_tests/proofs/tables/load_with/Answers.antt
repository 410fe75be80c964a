use Rattle.std.proofs.Common.{◌≡◌, ℕ, List, [], ◌∷◌, All, Some, ap, sym, subst, arith}
use Rattle.std.specs.List.{slice_get}
use Rattle.jp_catalog.specs.Sound.{IsSoundTable, IsOfSize}
use Rattle.jp_catalog.specs.declared.types.TableDef.{TableDef}
use Rattle.jp_data_tests.proofs.tables.load_with.Goals as goal

-- the first of tables is as all of them are
first_is : (P : TableDef → Type 0) (tables : List (List ℕ × TableDef)) (name : List ℕ) (def : TableDef) → Some (name, def) ≡ slice_get tables 0 → All (λ table. P table.1) tables → P def
first_is P [] name def e h = absurd (let never = e in cc)
first_is P (t ∷ ts) name def e h =
    let is : (name, def) ≡ t = cc in
    subst P (sym (ap (λ (p : List ℕ × TableDef). p.1) is)) (h 0 t (omega arith))

pub load-requires : goal.load-requires
load-requires c =
    let size : IsOfSize c.in-Some.def.now = first_is IsOfSize c.in-Ok.catalog.tables c.in-Some.field-0-0.now c.in-Some.def.now c.in-Some.ensures c.in-Ok.ensures.size in
    record {
      sound = first_is IsSoundTable c.in-Ok.catalog.tables c.in-Some.field-0-0.now c.in-Some.def.now c.in-Some.ensures c.in-Ok.ensures.sound.tables;
      numbered = omega (arith, size.few);
    }
