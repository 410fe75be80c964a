-- Two sizes of a list of tokens, how many there are and how many numbers don't fit, and what they bound.
use Rattle.std.proofs.Common.{◌≡◌, ◌∙◌, ap₂, sym, refl, subst, ℕ, ◌+◌, ◌≤◌, ◌^◌, Bool, true, false, ◌&&◌, List, [], ◌∷◌, ◌++◌, length, arith}
use Rattle.std.specs.Prelude.{nat_lt}
use Rattle.std.specs.List.{list_all, sum_by}
use Rattle.std.proofs.lemmas.List.Sums.{sum_by-cons}
use Rattle.jp_lex.specs.Cutting.{value}
use Rattle.jp_ast.specs.declared.class.Class.{Class}
use Rattle.jp_ast.specs.declared.class.Class.TheVariants as k
use Rattle.jp_ast.specs.Classes.{class}
use Rattle.jp_ast.specs.Seen.{Seen}

-- the weights of tokens together
abbrev pub weigh : (Seen → ℕ) → List Seen → ℕ
weigh f [] = 0
weigh f (t ∷ ts) = f t + weigh f ts

pub weigh-append : (f : Seen → ℕ) (u w : List Seen) → weigh f (u ++ w) ≡ weigh f u + weigh f w
weigh-append f [] w = omega arith
weigh-append f (t ∷ u) w = let e = weigh-append f u w in omega (arith, e)

abbrev pub one : Seen → ℕ
one t = 1

pub weigh-one : (ts : List Seen) → weigh one ts ≡ length ts
weigh-one [] = refl
weigh-one (t ∷ ts) = let e = weigh-one ts in omega (arith, e)

-- 1 for a number that doesn't fit
abbrev pub excess : Bool → ℕ
excess true = 0
excess false = 1

abbrev pub wide_as : Class → ℕ → ℕ
wide_as k.Number n = excess (nat_lt n (2 ^ 127))
wide_as _ n = 0

abbrev pub wide : Seen → ℕ
wide t = wide_as (class t) (value t.content)

-- What the tokens bound: b, which says whether something is whole, where their numbers fit, and n, which counts its entries.
pub record Good (ts : List Seen) (b : Bool) (n : ℕ) : Type 0 where
  pub whole : weigh wide ts ≡ 0 → b ≡ true
  pub few : n ≤ weigh one ts

pub nothing : (ts : List Seen) → Good ts true 0
nothing ts = record { whole = λ h. refl; few = omega arith }

module _ {b : Bool} {n : ℕ} where
  pub exactly : {ts u : List Seen} → ts ≡ u → Good u b n → Good ts b n
  exactly is g = subst (λ us. Good us b n) (sym is) g

  pub behind : {u : List Seen} (t : Seen) → Good u b n → Good (t ∷ u) b n
  behind t g = record { whole = λ h. g.whole (omega (arith, h)); few = let e = g.few in omega (arith, e) }

  pub front : {u : List Seen} (w : List Seen) → Good u b n → Good (u ++ w) b n
  front {u} w g = record { whole = λ h. g.whole (omega (arith, h, weigh-append wide u w)); few = omega (arith, g.few, weigh-append one u w) }

  pub after : {w : List Seen} (u : List Seen) → Good w b n → Good (u ++ w) b n
  after {w} u g = record { whole = λ h. g.whole (omega (arith, h, weigh-append wide u w)); few = omega (arith, g.few, weigh-append one u w) }

  pub same : {ts : List Seen} {c : Bool} {m : ℕ} → c ≡ b → m ≡ n → Good ts b n → Good ts c m
  same is counts g = record { whole = λ h. is ∙ g.whole h; few = omega (arith, counts, g.few) }

  pub both : {u w : List Seen} {c : Bool} {m : ℕ} → Good u b n → Good w c m → Good (u ++ w) (b && c) (n + m)
  both {u} {w} g h = record {
    whole = λ z. ap₂ ◌&&◌ (g.whole (omega (arith, z, weigh-append wide u w))) (h.whole (omega (arith, z, weigh-append wide u w)));
    few = omega (arith, g.few, h.few, weigh-append one u w);
  }

-- one more member of a list
pub member : {A : Type 0} {u w : List Seen} (passes : A → Bool) (count : A → ℕ) (x : A) (xs : List A) → Good u (passes x) (count x) → Good w (list_all passes xs) (sum_by count xs)
    → Good (u ++ w) (list_all passes (x ∷ xs)) (sum_by count (x ∷ xs))
member passes count x xs g h = same refl (sum_by-cons count x xs) (both g h)

-- a token that is an entry itself
pub with_entry : {u : List Seen} {b : Bool} {n : ℕ} (t : Seen) → Good u b n → Good (t ∷ u) b (1 + n)
with_entry t g = record { whole = λ h. g.whole (omega (arith, h)); few = let e = g.few in omega (arith, e) }

pub an_entry : (t : Seen) (u : List Seen) → Good (t ∷ u) true 1
an_entry t u = with_entry t (nothing u)
