-- What a caller reads from the answers of a read.
use Rattle.std.proofs.Common.{◌≡◌, ℕ, ◌-◌, ◌^◌, ◌<◌, List, Option, Some, None, Result, Ok, Err, Vec, IfOk, ap, sym, arith}
use Rattle.std.specs.declared.alloc.Global.{Global}
use Rattle.jp_io.specs.Files.{Rose, WholeIfThere, ReadsWhole}
use Rattle.jp_io.specs.declared.reading.FileError.{FileError}

-- what was read is the content of the file
pub content_from_whole : (file : Option (List ℕ)) (limit : ℕ) (v : Vec ℕ Global) → WholeIfThere file limit (Ok v) → file ≡ Some v.items
content_from_whole None limit v whole = absurd whole
content_from_whole (Some bytes) limit v whole = ap Some (sym whole.0)

-- a count that stays below its end rose nowhere
pub no_rise : (before now : ℕ) → before < 2 ^ 64 - 1 → now ≡ before → Rose before now → ⊥
no_rise before now below stays rose = omega arith

pub content_if_ok : (told : List ℕ → Option (List ℕ)) (name : List ℕ) (limit : ℕ) (result : Result (Vec ℕ Global) FileError) →
    ReadsWhole (Some told) name limit result → IfOk result (λ v. told name ≡ Some v.items)
content_if_ok told name limit (Ok v) whole = content_from_whole (told name) limit v whole
content_if_ok told name limit (Err _) whole = tt
