-- What resolution answers. A definition's answer is a value or the first refusal, never want of memory.
use Rattle.std.specs.Prelude.{Bool, Result, Ok, Err, if◌then◌else◌}
use Rattle.jp_base.specs.Answers.{OrMemory}
use Rattle.jp_resolution.specs.Layers.{ResolveError}
use Rattle.jp_resolution.specs.declared.error.ResolveError.TheVariants.{Memory}

abbrev pub Answer : Type 0 → Type 0
Answer A = Result A ResolveError

-- what follows where nothing is refused
infixl 10 ◌>>=◌
abbrev pub ◌>>=◌ : {A B : Type 0} → Answer A → (A → Answer B) → Answer B
Ok x >>= f = f x
Err e >>= f = Err e

-- the value where the test passes, else the refusal
abbrev pub only_if : {A : Type 0} → Bool → ResolveError → A → Answer A
only_if passes refusal x = if passes then Ok x else Err refusal

-- What a call that resolves answers: the definition's answer. Want of memory may come at any time.
abbrev pub Gives : {A : Type 0} → Answer A → Answer A → Type 0
Gives defined answer = OrMemory Memory defined answer
