-- The members of a class by their places, and as they are ranked.
use Rattle.std.proofs.Common.{◌≡◌, ◌∙◌, ap, sym, refl, ℕ, suc, ◌+◌, Bool, true, false, cond, List, [], ◌∷◌, ◌++◌, map, filter, length, drop, append_assoc, arith, Option, Some, None}
use Rattle.std.specs.List.{position, position_from, slice_index_or}
use Rattle.std.proofs.lemmas.Iterator.Adapters.{position_from-zero}
use Rattle.jp_query.specs.declared.Expr.{Expr}
use Rattle.jp_problem.specs.declared.types.Stage.{Stage}
use Rattle.jp_problem.specs.ClassWords.{no_member, ranked_at, places_of, ups_from, needs_there, needs_before, needs_come_up, equal_to, link_of, linked_of}
use Rattle.jp_problem.specs.StepClauses.{Ranked, ranked_from, is_there, was_there, comes_up, member_comes_up, head, link, linked, with_constant, equality}

abbrev Members : Type 0
Members = List (Expr × ℕ)

-- with a constant the ranks don't count
pub constants : (stage : Stage) (constant : Expr) (i : ℕ) (ms : Members) → map (equal_to constant) (filter (needs_come_up stage) ms) ≡ map (with_constant constant) (filter (member_comes_up stage) (ranked_from i ms))
constants stage constant i [] = refl
constants stage constant i (m ∷ ms) = by (comes_up stage m.1) (constants stage constant (suc i) ms)
  where
    by : (b : Bool) → map (equal_to constant) (filter (needs_come_up stage) ms) ≡ map (with_constant constant) (filter (member_comes_up stage) (ranked_from (suc i) ms))
        → map (equal_to constant) (cond b (m ∷ filter (needs_come_up stage) ms) (filter (needs_come_up stage) ms)) ≡ map (with_constant constant) (cond b (record { rank = i; expr = m.0; needs = m.1 } ∷ filter (member_comes_up stage) (ranked_from (suc i) ms)) (filter (member_comes_up stage) (ranked_from (suc i) ms)))
    by true more = ap (λ l. equal_to constant m ∷ l) more
    by false more = more

-- ---- the member behind others

length_more : (pre : Members) (m : Expr × ℕ) → length (pre ++ m ∷ []) ≡ suc (length pre)
length_more [] m = refl
length_more (p ∷ pre) m = ap suc (length_more pre m)

at_seam : (pre : Members) (m : Expr × ℕ) (rest : Members) → slice_index_or (pre ++ m ∷ rest) (length pre) no_member ≡ m
at_seam [] m rest = refl
at_seam (p ∷ pre) m rest = at_seam pre m rest

past_seam : (pre : Members) (m : Expr × ℕ) (rest : Members) → drop (suc (length pre)) (pre ++ m ∷ rest) ≡ rest
past_seam [] m rest = refl
past_seam (p ∷ pre) m rest = past_seam pre m rest

ranked_seam : (pre : Members) (m : Expr × ℕ) (rest : Members) → ranked_at (pre ++ m ∷ rest) (length pre) ≡ record { rank = length pre; expr = m.0; needs = m.1 }
ranked_seam pre m rest = λ i. record { rank = length pre; expr = (at_seam pre m rest i).0; needs = (at_seam pre m rest i).1 }

module _ (test : ℕ → Bool) where
  abbrev passes : Expr × ℕ → Bool
  passes member = test member.1

  abbrev is_ranked : Ranked → Bool
  is_ranked m = test m.needs

  -- the first one that passes
  first_behind : (pre ms : Members) → head (filter is_ranked (ranked_from (length pre) ms)) ≡ places_of (position_from passes (length pre) ms) (pre ++ ms)
  first_behind pre [] = refl
  first_behind pre (m ∷ ms) = by (test m.1) (
      ap (λ n. head (filter is_ranked (ranked_from n ms))) (sym (length_more pre m))
      ∙ first_behind (pre ++ m ∷ []) ms
      ∙ (λ i. places_of (position_from passes ((length_more pre m ∙ (let e : suc (length pre) ≡ length pre + 1 = omega arith in e)) i) ms) (append_assoc pre (m ∷ []) ms i)))
    where
      by : (b : Bool) → head (filter is_ranked (ranked_from (suc (length pre)) ms)) ≡ places_of (position_from passes (length pre + 1) ms) (pre ++ m ∷ ms)
          → head (cond b (record { rank = length pre; expr = m.0; needs = m.1 } ∷ filter is_ranked (ranked_from (suc (length pre)) ms)) (filter is_ranked (ranked_from (suc (length pre)) ms))) ≡ places_of (cond b (Some (length pre)) (position_from passes (length pre + 1) ms)) (pre ++ m ∷ ms)
      by true more = ap (λ r. Some r) (sym (ranked_seam pre m ms))
      by false more = more

  pub first_is : (ms : Members) → head (filter is_ranked (ranked_from 0 ms)) ≡ places_of (position passes ms) ms
  first_is ms = first_behind [] ms ∙ ap (λ o. places_of o ms) (sym (position_from-zero passes ms))

  -- and those behind it
  abbrev all_of : Option ℕ → Members → List Ranked
  all_of (Some k) members = ranked_at members k ∷ filter is_ranked (ranked_from (suc k) (drop (suc k) members))
  all_of None members = []

  all_behind : (pre ms : Members) → filter is_ranked (ranked_from (length pre) ms) ≡ all_of (position_from passes (length pre) ms) (pre ++ ms)
  all_behind pre [] = refl
  all_behind pre (m ∷ ms) = by (test m.1) (
      ap (λ n. filter is_ranked (ranked_from n ms)) (sym (length_more pre m))
      ∙ all_behind (pre ++ m ∷ []) ms
      ∙ (λ i. all_of (position_from passes ((length_more pre m ∙ (let e : suc (length pre) ≡ length pre + 1 = omega arith in e)) i) ms) (append_assoc pre (m ∷ []) ms i)))
    where
      by : (b : Bool) → filter is_ranked (ranked_from (suc (length pre)) ms) ≡ all_of (position_from passes (length pre + 1) ms) (pre ++ m ∷ ms)
          → cond b (record { rank = length pre; expr = m.0; needs = m.1 } ∷ filter is_ranked (ranked_from (suc (length pre)) ms)) (filter is_ranked (ranked_from (suc (length pre)) ms)) ≡ all_of (cond b (Some (length pre)) (position_from passes (length pre + 1) ms)) (pre ++ m ∷ ms)
      by true more = λ i. sym (ranked_seam pre m ms) i ∷ filter is_ranked (ranked_from (suc (length pre)) (sym (past_seam pre m ms) i))
      by false more = more

  pub all_is : (ms : Members) → filter is_ranked (ranked_from 0 ms) ≡ all_of (position passes ms) ms
  all_is ms = all_behind [] ms ∙ ap (λ o. all_of o ms) (sym (position_from-zero passes ms))

-- ---- links

pub link_is : (stage : Stage) (ms : Members) → link_of stage ms ≡ link (places_of (position (needs_there stage.left) ms) ms) (places_of (position (needs_there stage.right) ms) ms)
link_is stage ms = λ i. link (first_is (is_there stage.left) ms i) (first_is (is_there stage.right) ms i)

no_link : (a : Option Ranked) → link a None ≡ []
no_link (Some m) = refl
no_link None = refl

pub linked_before : (stage : Stage) (ms : Members) (k : ℕ) → position (needs_before stage) ms ≡ Some k → linked_of stage ms ≡ map (equality (ranked_at ms k)) (ups_from stage ms 0)
linked_before stage ms k h = ap (λ o. linked o (filter (member_comes_up stage) (ranked_from 0 ms))) (first_is (was_there stage) ms ∙ ap (λ o. places_of o ms) h)

pub linked_first : (stage : Stage) (ms : Members) (k : ℕ) → position (needs_before stage) ms ≡ None → position (needs_come_up stage) ms ≡ Some k → linked_of stage ms ≡ map (equality (ranked_at ms k)) (ups_from stage ms (suc k))
linked_first stage ms k h g = (λ i. linked ((first_is (was_there stage) ms ∙ ap (λ o. places_of o ms) h) i) ((all_is (comes_up stage) ms ∙ ap (λ o. all_of (comes_up stage) o ms) g) i))

pub linked_none : (stage : Stage) (ms : Members) → position (needs_before stage) ms ≡ None → position (needs_come_up stage) ms ≡ None → linked_of stage ms ≡ []
linked_none stage ms h g = (λ i. linked ((first_is (was_there stage) ms ∙ ap (λ o. places_of o ms) h) i) ((all_is (comes_up stage) ms ∙ ap (λ o. all_of (comes_up stage) o ms) g) i))

pub linked_pair : (stage : Stage) (ms : Members) (i j : ℕ) → position (needs_there stage.left) ms ≡ Some i → position (needs_there stage.right) ms ≡ Some j → link_of stage ms ≡ equality (ranked_at ms i) (ranked_at ms j) ∷ []
linked_pair stage ms i j h g = link_is stage ms ∙ (λ k. link (places_of (h k) ms) (places_of (g k) ms))

pub no_left : (stage : Stage) (ms : Members) → position (needs_there stage.left) ms ≡ None → link_of stage ms ≡ []
no_left stage ms h = link_is stage ms ∙ ap (λ o. link (places_of o ms) (places_of (position (needs_there stage.right) ms) ms)) h

pub no_right : (stage : Stage) (ms : Members) → position (needs_there stage.right) ms ≡ None → link_of stage ms ≡ []
no_right stage ms h = link_is stage ms ∙ ap (λ o. link (places_of (position (needs_there stage.left) ms) ms) (places_of o ms)) h ∙ no_link (places_of (position (needs_there stage.left) ms) ms)
