-- The placeholder's test on sets.
use Rattle.std.proofs.Common.{◌≡◌, sym, refl, ap, ℕ, ◌^◌, ◌<◌, ◌↔◌, inl, inr, Bool, true, false, not}
use Rattle.std.specs.Prelude.{IsTrue}
use Rattle.std.proofs.lemmas.Bool.{cases_Bool, false≢true}
use Rattle.jp_base.specs.Sets.{Has, Meets}
use Rattle.jp_base.proofs.SetLemmas.{has_below}
use Rattle.jp_query.specs.Meaning.{Env, any_present}
use Rattle.jp_query.proofs.PresentLaws.{some_present, present_some}
use Rattle.jp_placeholder.specs.Present.{IsPresentSet}

absent_where_none : (rels present : ℕ) (env : Env) → ¬ Meets rels present → IsPresentSet present env → any_present rels env ≡ false
absent_where_none rels present env apart set = elim (cases_Bool (any_present rels env)) [
  | inl some ↦ (let it = some_present rels env some in absurd (apart (it.0, it.2, (set it.0 it.1).1 it.3)))
  | inr none ↦ none
]

present_where_met : (rels present i : ℕ) (env : Env) → i < 64 → Has rels i → Has present i → IsPresentSet present env → any_present rels env ≡ true
present_where_met rels present i env below member there set = present_some rels env i below member ((set i below).0 there)

-- what is asked of the sets says whether some relation is present
met : (rels present : ℕ) (env : Env) (m : Bool) → (IsTrue m ↔ Meets rels present) → rels < 2 ^ 64 → IsPresentSet present env → m ≡ any_present rels env
met rels present env true meets small set =
    let it = meets.0 refl in
    sym (present_where_met rels present it.0 env (has_below rels it.0 small it.1) it.1 it.2 set)
met rels present env false meets small set = sym (absent_where_none rels present env (λ m. false≢true (meets.1 m)) set)

not_met : (rels present : ℕ) (m : Bool) → (IsTrue m ↔ Meets rels present) → IsTrue (not m) ↔ ¬ Meets rels present
not_met rels present true meets = (λ yes. absurd (false≢true yes), λ apart. absurd (apart (meets.0 refl)))
not_met rels present false meets = (λ yes m. false≢true (meets.1 m), λ apart. refl)

pub by_meeting : (rels present : ℕ) (m : Bool) → (IsTrue m ↔ Meets rels present) → rels < 2 ^ 64
    → (IsTrue (not m) ↔ ¬ Meets rels present) × ((env : Env) → IsPresentSet present env → not m ≡ not (any_present rels env))
by_meeting rels present m meets small = (not_met rels present m meets, λ env set. ap not (met rels present env m meets small set))
