-- What an answer that is there was made of.
use Rattle.std.proofs.Common.{◌≡◌, refl, Bool, true, false, Ok, Err}
use Rattle.jp_resolution.specs.declared.error.ResolveError.{ResolveError}
use Rattle.jp_resolution.specs.Answers.{Answer, ◌>>=◌, only_if}

abbrev fine : {A : Type 0} → A → Answer A
fine x = Ok x

pub same_Ok : {A : Type 0} (x y : A) → fine x ≡ fine y → x ≡ y
same_Ok x y e = cc

abbrev refused : {A : Type 0} → ResolveError → Answer A
refused e = Err e

pub no_Ok : {A : Type 0} (e : ResolveError) (y : A) → refused e ≡ fine y → ⊥
no_Ok e y h = cc

pub then_parts : {A B : Type 0} (x : Answer A) (f : A → Answer B) (y : B) → (x >>= f) ≡ Ok y → (a : A) × (x ≡ Ok a) × (f a ≡ Ok y)
then_parts (Ok a) f y h = (a, refl, h)
then_parts (Err e) f y h = absurd (no_Ok e y h)

pub if_parts : {A : Type 0} (passes : Bool) (refusal : ResolveError) (x y : A) → only_if passes refusal x ≡ Ok y → (passes ≡ true) × (x ≡ y)
if_parts true refusal x y h = (refl, same_Ok x y h)
if_parts false refusal x y h = absurd (no_Ok refusal y h)
