-- What the answer says of the output.
use Rattle.std.proofs.Common.{◌≡◌, ◌≢◌, subst, sym, ℕ, ◌<◌, List, length, take, Option, Some, None, Result, Ok, Err, Vec, Global, refl}
use Rattle.std.specs.Prelude.{IfSome}
use Rattle.jp_io.specs.Sinks.{TookMore}
use Rattle.jp_io.specs.declared.writing.SinkError.{SinkError}
use Rattle.jp_io.specs.declared.writing.SinkError.TheVariants.{Failed}
use Rattle.joinplan.specs.declared.refusal.Refusal.{Refusal}
use Rattle.joinplan.specs.declared.refusal.Refusal.TheVariants as refusal
use Rattle.joinplan.specs.Answers.{PrintsTold, answer_of}
use Rattle.joinplan.specs.Faults.{Counts, IsExplained, MayBeRead}
use Rattle.joinplan.specs.Outcomes.{Answer, IsCause, IsCounted, IsOutput, WrotePart, answer_told}
use Rattle.joinplan.specs.Words.{Command}
use Rattle.joinplan.specs.Readings.{Held}
use Rattle.joinplan.specs.Refusals.{IsSaid}
use Rattle.joinplan.proofs.LineLemmas.{failed}

abbrev refused : Refusal → Result (Vec ℕ Global) Refusal
refused r = Err r

pub output_told : (words : List (List ℕ)) (contents : Option Held) (v : Vec ℕ Global) → PrintsTold (Ok v) contents (answer_of words) → IsOutput (answer_told words contents) v.items
output_told words None v h = tt
output_told words (Some held) v h = h

pub write_cause : (told : Option Answer) (bytes : List ℕ) → IsOutput told bytes → IfSome told (λ answer. IsCause answer refusal.WriteFault)
write_cause None bytes h = tt
write_cause (Some answer) bytes (output, e, has) = (output, e)

pub wrote_part : (told : Option Answer) (before now : Option (List ℕ)) (bytes : List ℕ) (e : SinkError) → IsOutput told bytes →
    ((n : ℕ) → failed e ≡ Err (Failed n) → (n < length bytes) × TookMore before (take n bytes) now) → WrotePart told before now
wrote_part told before now bytes (Failed n) output part = record { bytes = bytes; output = output; count = n; short = (part n refl).0; took = (part n refl).1 }

explained_counted : (May : List ℕ → Type 0) (before now : Counts) (r : Refusal) → IsExplained May before now r → IsCounted before now r
explained_counted May before now (refusal.ReadFault name) h = h.1
explained_counted May before now refusal.Usage h = tt
explained_counted May before now refusal.WriteFault h = tt
explained_counted May before now refusal.Memory h = tt
explained_counted May before now (refusal.Catalogue error) h = tt
explained_counted May before now (refusal.Data table error) h = tt
explained_counted May before now (refusal.Statement what at) h = tt
explained_counted May before now (refusal.TooDeep at) h = tt
explained_counted May before now (refusal.TooManyTables count) h = tt
explained_counted May before now (refusal.FileTooLarge name) h = tt
explained_counted May before now refusal.StatementTooLarge h = tt

-- words without a form are refused for that alone, and of any other words a refusal is explained
pub counted : (command : Option Command) (before now : Counts) (r : Refusal) → (command ≢ None → IsExplained (MayBeRead command) before now r) → (command ≡ None → refused r ≡ refused refusal.Usage) → IsCounted before now r
counted (Some words) before now r explained usage = explained_counted (MayBeRead (Some words)) before now r (explained (λ e. cc))
counted None before now r explained usage = let is : r ≡ refusal.Usage = let e = usage refl in cc in subst (IsCounted before now) (sym is) tt

explained_said : (May : List ℕ → Type 0) (before now : Counts) (r : Refusal) → IsExplained May before now r → IsSaid r
explained_said May before now (refusal.ReadFault name) h = tt
explained_said May before now refusal.Usage h = tt
explained_said May before now refusal.WriteFault h = tt
explained_said May before now refusal.Memory h = tt
explained_said May before now (refusal.Catalogue error) h = h
explained_said May before now (refusal.Data table error) h = h
explained_said May before now (refusal.Statement what at) h = tt
explained_said May before now (refusal.TooDeep at) h = tt
explained_said May before now (refusal.TooManyTables count) h = tt
explained_said May before now (refusal.FileTooLarge name) h = tt
explained_said May before now refusal.StatementTooLarge h = tt

pub said : (command : Option Command) (before now : Counts) (r : Refusal) → (command ≢ None → IsExplained (MayBeRead command) before now r) → (command ≡ None → refused r ≡ refused refusal.Usage) → IsSaid r
said (Some words) before now r explained usage = explained_said (MayBeRead (Some words)) before now r (explained (λ e. cc))
said None before now r explained usage = let is : r ≡ refusal.Usage = let e = usage refl in cc in subst IsSaid (sym is) tt

-- before the output is made no write can fail
pub no_write : (command : Option Command) (before now : Counts) (r : Refusal) → (command ≢ None → IsExplained (MayBeRead command) before now r) → (command ≡ None → refused r ≡ refused refusal.Usage) → r ≢ refusal.WriteFault
no_write (Some command) before now r explained usage = λ e. subst (IsExplained (MayBeRead (Some command)) before now) e (explained (λ none. cc))
no_write None before now r explained usage = λ e. let is : r ≡ refusal.Usage = let u = usage refl in cc in cc

pub refusal_told : (words : List (List ℕ)) (contents : Option Held) (r : Refusal) → PrintsTold (Err r) contents (answer_of words) → r ≢ refusal.WriteFault → IfSome (answer_told words contents) (λ answer. IsCause answer r)
refusal_told words None r h other = tt
refusal_told words (Some held) refusal.WriteFault h other = absurd (other refl)
refusal_told words (Some held) (refusal.ReadFault name) h other = h
refusal_told words (Some held) refusal.Usage h other = h
refusal_told words (Some held) refusal.Memory h other = tt
refusal_told words (Some held) (refusal.Catalogue error) h other = h
refusal_told words (Some held) (refusal.Data table error) h other = h
refusal_told words (Some held) (refusal.Statement what at) h other = h
refusal_told words (Some held) (refusal.TooDeep at) h other = h
refusal_told words (Some held) (refusal.TooManyTables count) h other = h
refusal_told words (Some held) (refusal.FileTooLarge name) h other = h
refusal_told words (Some held) refusal.StatementTooLarge h other = h
