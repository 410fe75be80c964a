-- What a call answers that can do nothing else than what is defined, unless memory is refused.
use Rattle.std.specs.Prelude.{◌≡◌, ◌⊎◌, Result, Err}

-- the defined answer, or want of memory, which each error type names itself
abbrev pub OrMemory : {A E : Type 0} → E → Result A E → Result A E → Type 0
OrMemory memory defined result = (result ≡ Err memory) ⊎ (result ≡ defined)
