-- Where nothing fails, an output is served.
use Rattle.std.proofs.Common.{◌≡◌, ◌≢◌, ◌∙◌, ◌⊎◌, sym, subst, refl, inl, inr, ℕ, ◌<◌, ◌-◌, ◌^◌, Bool, List, length, Option, Some, None, Result, Ok, Err, Vec, Global, arith}
use Rattle.std.specs.Prelude.{Contains, IfOk, IfSome}
use Rattle.jp_io.specs.Files.{Rose, StaysSound}
use Rattle.jp_io.specs.Sinks.{HasRoom, TookMore}
use Rattle.joinplan.specs.declared.refusal.Refusal.{Refusal}
use Rattle.joinplan.specs.declared.refusal.Refusal.TheVariants as refusal
use Rattle.joinplan.specs.Answers.{Output, PrintsTold, answer_of}
use Rattle.joinplan.specs.Faults.{Counts}
use Rattle.joinplan.specs.Outcomes.{Answer, AreSure, HasRoomFor, IsComplete, IsCounted, IsServed, IsSurelyServed, NoFault, RoomServes, answer_told}
use Rattle.joinplan.specs.Readings.{AgreesRefused, Held}
use Rattle.joinplan.specs.Refusals.{status_of}

-- what is surely read at first is so after two calls
pub sound_then : (first second third : List ℕ → Bool) (a b c : Counts) → StaysSound first second a b → StaysSound second third b c → StaysSound first third a c
sound_then first second third a b c h k = λ name sure. let p = h name sure in let q = k name p.0 in (q.0, q.1 ∙ p.1)

-- a count that stays hasn't risen, but at the end of its range
not_risen : (before now : ℕ) → before < 2 ^ 64 - 1 → now ≡ before → ¬ Rose before now
not_risen before now below same rose = absurd (omega (arith, below, same, rose))

abbrev Bytes : Type 0
Bytes = Vec ℕ Global

module _ (sound sound_after : List ℕ → Bool) (before now : Counts) (room : Option ℕ) (taken taken_now : Option (List ℕ)) where
  -- no refusal but want of memory comes where the answer is an output and no file is at fault
  refused_served : (answer : Answer) (r : Refusal) (output : Output) (result : ℕ) → answer.answer ≡ Ok output → AgreesRefused r answer → r ≢ refusal.WriteFault → result ≡ status_of r → ((name : List ℕ) → r ≡ refusal.ReadFault name → Contains answer.names name → ⊥) → IsServed output result taken taken_now
  refused_served answer refusal.Memory bytes result e h other is none = inr is
  refused_served answer (refusal.ReadFault name) bytes result e h other is none = absurd (none name refl h)
  refused_served answer refusal.WriteFault bytes result e h other is none = absurd (other refl)
  refused_served answer refusal.Usage bytes result e h other is none = cc
  refused_served answer (refusal.Catalogue error) bytes result e h other is none = cc
  refused_served answer (refusal.Data name error) bytes result e h other is none = cc
  refused_served answer (refusal.Statement what at) bytes result e h other is none = cc
  refused_served answer (refusal.FileTooLarge name) bytes result e h other is none = cc
  refused_served answer refusal.StatementTooLarge bytes result e h other is none = cc
  refused_served answer (refusal.TooDeep at) bytes result e h other is none = cc
  refused_served answer (refusal.TooManyTables count) bytes result e h other is none = cc

  counted_rose : (r : Refusal) (name : List ℕ) → r ≡ refusal.ReadFault name → IsCounted before now r → Rose (before name) (now name)
  counted_rose r name is h = subst (IsCounted before now) is h

  pub refused_surely : (words : List (List ℕ)) (contents : Option Held) (r : Refusal) (result : ℕ) → PrintsTold (Err r) contents (answer_of words) → r ≢ refusal.WriteFault → IsCounted before now r → StaysSound sound sound_after before now → result ≡ status_of r
      → IfSome (answer_told words contents) (λ answer. IsSurelyServed sound before room answer result taken taken_now)
  refused_surely words None r result h other counted stays is = tt
  refused_surely words (Some held) r result h other counted stays is = step (answer_of words held).answer refl
    where
      step : (a : Result Output Refusal) → (answer_of words held).answer ≡ a → IfOk a (λ output. AreSure sound before (answer_of words held).names → HasRoomFor room output → IsServed output result taken taken_now)
      step (Err x) e = tt
      step (Ok bytes) e = λ sure has. refused_served (answer_of words held) r bytes result e h other is (λ name fault within. not_risen (before name) (now name) (sure name within).1 (stays name (sure name within).0).1 (counted_rose r name fault counted))

  pub refused_complete : (words : List (List ℕ)) (contents : Option Held) (r : Refusal) (result sink_before sink_now : ℕ) → PrintsTold (Err r) contents (answer_of words) → r ≢ refusal.WriteFault → IsCounted before now r → result ≡ status_of r
      → IfSome (answer_told words contents) (λ answer. IsComplete answer result before now sink_before sink_now taken taken_now)
  refused_complete words None r result sink_before sink_now h other counted is = tt
  refused_complete words (Some held) r result sink_before sink_now h other counted is = step (answer_of words held).answer refl
    where
      step : (a : Result Output Refusal) → (answer_of words held).answer ≡ a → IfOk a (λ output. NoFault (answer_of words held).names before now → ¬ Rose sink_before sink_now → IsServed output result taken taken_now)
      step (Err x) e = tt
      step (Ok bytes) e = λ none still. refused_served (answer_of words held) r bytes result e h other is (λ name fault within. none name within (counted_rose r name fault counted))

  -- an output that was written
  pub written_surely : (words : List (List ℕ)) (contents : Option Held) (v : Bytes) (result : ℕ) → PrintsTold (Ok v) contents (answer_of words) → (HasRoom room (length v.items) → ((result ≡ 0) × TookMore taken v.items taken_now) ⊎ (result ≡ 8))
      → IfSome (answer_told words contents) (λ answer. IsSurelyServed sound before room answer result taken taken_now)
  written_surely words None v result h served = tt
  written_surely words (Some held) v result (output, e, has_bytes) served =
      subst (λ a. IfOk a (λ output. AreSure sound before (answer_of words held).names → HasRoomFor room output → IsServed output result taken taken_now)) (sym e)
      (λ sure has. elim (served (has v.items has_bytes)) [
        | inl done ↦ inl (v.items, done.0, has_bytes, done.1)
        | inr memory ↦ inr memory
      ])

  pub written_complete : (words : List (List ℕ)) (contents : Option Held) (v : Bytes) (result sink_before sink_now : ℕ) → PrintsTold (Ok v) contents (answer_of words) → (¬ Rose sink_before sink_now → ((result ≡ 0) × TookMore taken v.items taken_now) ⊎ (result ≡ 8))
      → IfSome (answer_told words contents) (λ answer. IsComplete answer result before now sink_before sink_now taken taken_now)
  written_complete words None v result sink_before sink_now h served = tt
  written_complete words (Some held) v result sink_before sink_now (output, e, has_bytes) served =
      subst (λ a. IfOk a (λ output. NoFault (answer_of words held).names before now → ¬ Rose sink_before sink_now → IsServed output result taken taken_now)) (sym e)
      (λ none still. elim (served still) [
        | inl done ↦ inl (v.items, done.0, has_bytes, done.1)
        | inr memory ↦ inr memory
      ])

pub room_idle : (words : List (List ℕ)) (contents : Option Held) (room : Option ℕ) (faults : ℕ) → IfSome (answer_told words contents) (λ answer. RoomServes room answer faults faults)
room_idle words None room faults = tt
room_idle words (Some held) room faults = step (answer_of words held).answer
  where
    step : (a : Result Output Refusal) → IfOk a (λ output. HasRoomFor room output → faults ≡ faults)
    step (Err x) = tt
    step (Ok bytes) = λ has. refl

pub room_served : (words : List (List ℕ)) (contents : Option Held) (v : Bytes) (room : Option ℕ) (before now : ℕ) → PrintsTold (Ok v) contents (answer_of words) → (HasRoom room (length v.items) → now ≡ before) → IfSome (answer_told words contents) (λ answer. RoomServes room answer before now)
room_served words None v room before now h served = tt
room_served words (Some held) v room before now (output, e, has_bytes) served = subst (λ a. IfOk a (λ output. HasRoomFor room output → now ≡ before)) (sym e) (λ has. served (has v.items has_bytes))
