-- What a list of blocks is that was made by visits.
use Rattle.std.proofs.Common.{◌≡◌, ◌∙◌, ap, sym, refl, subst, ℕ, zero, suc, ◌-◌, ◌<◌, ◌≤◌, ◌⊎◌, ◌||◌, inl, inr, true, false, List, [], ◌∷◌, ◌++◌, length, slice_get, Option, Some, None, append-nil, append_assoc, length-append, arith}
use Rattle.std.specs.List.{list_any}
use Rattle.std.proofs.lemmas.List.Folds.{list_any-append}
use Rattle.std.proofs.lemmas.Bool.{cases_lt, eq-eqb}
use Rattle.jp_facts.proofs.Members.{In, any_in}
use Rattle.jp_query.specs.declared.Query.{Query}
use Rattle.jp_session.specs.declared.gathering.Entry.{Entry}
use Rattle.jp_session.specs.declared.sources.Part.{Part}
use Rattle.jp_session.specs.Found.{AreFound, AreSettled}
use Rattle.jp_session.specs.Parts.{parts_of}
use Rattle.jp_session.specs.Visits.{IsPut, Visits, Leads, is_listed, is_number, is_of_sublink, with_block}
use Rattle.jp_session.proofs.Places.{front, seam, within, there, one_there, at_in}
use Rattle.jp_session.proofs.WeightLaws.{part_weight, weighs, parts_lighter}

abbrev pub block_of : Part → List ℕ → Entry
block_of part inner = record { part = part; inner = inner }

-- ---- lists only grow

grown : (a b m c n : List Entry) (e : Entry) → b ≡ a ++ m → c ≡ (b ++ e ∷ []) ++ n → c ≡ a ++ (m ++ e ∷ n)
grown a b m c n e f g = g ∙ append_assoc b (e ∷ []) n ∙ ap (λ x. x ++ e ∷ n) f ∙ append_assoc a m (e ∷ n)

pub grows : {a c : List Entry} {ts : List Part} {ps : List ℕ} → Visits a ts ps c → (more : List Entry) × (c ≡ a ++ more)
grows (Visits.done {a} e) = ([], e ∙ sym (append-nil a))
grows (Visits.item {a} {b} {c} {part} {parts} {inner} {places} s v w) = let m = grows v in let n = grows w in (m.0 ++ block_of part inner ∷ n.0, grown a b m.0 c n.0 (block_of part inner) m.1 n.1)
grows (Visits.sublink {a} {b} {c} {part} {parts} {inner} {places} k s l v w) = let m = grows v in let n = grows w in (m.0 ++ block_of part inner ∷ n.0, grown a b m.0 c n.0 (block_of part inner) m.1 n.1)
grows (Visits.known k s l w) = grows w

pub stays_listed : (a c more : List Entry) (n : ℕ) → c ≡ a ++ more → is_listed a n ≡ true → is_listed c n ≡ true
stays_listed a c more n e h = ap (λ es. is_listed es n) e ∙ list_any-append (is_of_sublink n) a more ∙ ap (λ b. b || list_any (is_of_sublink n) more) h

pub stays_there : (a c more : List Entry) (i : ℕ) (e : Entry) → c ≡ a ++ more → slice_get a i ≡ Some e → slice_get c i ≡ Some e
stays_there a c more i e f h = ap (λ es. slice_get es i) f ∙ front a more i e h

is_its_number : (o : Option ℕ) (n : ℕ) → o ≡ Some n → is_number n o ≡ true
is_its_number o n e = ap (is_number n) e ∙ eq-eqb n n refl

pub listed_at : (c : List Entry) (i n : ℕ) (e : Entry) → slice_get c i ≡ Some e → e.part.sub ≡ Some n → is_listed c n ≡ true
listed_at c i n e h s = any_in (is_of_sublink n) e c (at_in c i e h) (is_its_number e.part.sub n s)

-- the block is there, in all that grows from it
made_there : (b c more : List Entry) (e : Entry) → c ≡ (b ++ e ∷ []) ++ more → slice_get c (length b) ≡ Some e
made_there b c more e f = stays_there (b ++ e ∷ []) c more (length b) e f (seam b [] e)

-- ---- what is visited is found

pub found : {a c : List Entry} {ts : List Part} {ps : List ℕ} → Visits a ts ps c → AreFound c ts ps
found (Visits.done e) = AreFound.none
found (Visits.item {a} {b} {c} {part} {parts} {inner} {places} s v w) =
    let n = grows w in
    AreFound.item s (record { entry = block_of part inner; there = made_there b c n.0 (block_of part inner) n.1; is = refl }) (found w)
found (Visits.sublink {a} {b} {c} {part} {parts} {inner} {places} k s l v w) =
    let n = grows w in
    AreFound.sublink k s (listed_at c (length b) k (block_of part inner) (made_there b c n.0 (block_of part inner) n.1) s) (found w)
found (Visits.known {a} {c} k s l w) = let n = grows w in AreFound.sublink k s (stays_listed a c n.0 k n.1 l) (found w)

pub settled : {a c : List Entry} {ts : List Part} {ps : List ℕ} → AreSettled a → Visits a ts ps c → AreSettled c
settled h (Visits.done e) = subst AreSettled (sym e) h
settled h (Visits.item {a} {b} {c} {part} {parts} {inner} {places} s v w) = settled (AreSettled.more (block_of part inner) (settled h v) (found v)) w
settled h (Visits.sublink {a} {b} {c} {part} {parts} {inner} {places} k s l v w) = settled (AreSettled.more (block_of part inner) (settled h v) (found v)) w
settled h (Visits.known k s l w) = settled h w

-- ---- each block that comes in is one of the parts, or a later one uses it

-- a block behind the place uses the part
pub record IsUsedBehind (entries : List Entry) (place : ℕ) (part : Part) : Type 0 where
  pub at : ℕ
  pub entry : Entry
  pub behind : place < at
  pub there : slice_get entries at ≡ Some entry
  pub uses : In part (parts_of entry.part.query)

abbrev pub AreUsed : List Entry → List Part → List Entry → Type 0
AreUsed a ts c = (i : ℕ) (e : Entry) → length a ≤ i → slice_get c i ≡ Some e → In e.part ts ⊎ IsUsedBehind c i e.part

pub behind_stays : (b c more : List Entry) (i : ℕ) (part : Part) → c ≡ b ++ more → IsUsedBehind b i part → IsUsedBehind c i part
behind_stays b c more i part e h = record { at = h.at; entry = h.entry; behind = h.behind; there = stays_there b c more h.at h.entry e h.there; uses = h.uses }

-- where the place is in what the block of a part stands behind, at that block, or later
pub data Stands (b : List Entry) (e : Entry) (c : List Entry) (i : ℕ) (x : Entry) : Type 0 where
  before : slice_get b i ≡ Some x → Stands b e c i x
  itself : i ≡ length b → e ≡ x → Stands b e c i x
  later : length (b ++ e ∷ []) ≤ i → Stands b e c i x

stands_in : (b more : List Entry) (e : Entry) (i : ℕ) (x : Entry) → slice_get ((b ++ e ∷ []) ++ more) i ≡ Some x → Stands b e ((b ++ e ∷ []) ++ more) i x
stands_in [] more e zero x h = Stands.itself refl (one_there (e ∷ more) 0 e x refl h)
stands_in [] more e (suc i) x h = Stands.later (omega arith)
stands_in (y ∷ b) more e zero x h = Stands.before h
stands_in (y ∷ b) more e (suc i) x h = shifted (stands_in b more e i x h)
  where
    shifted : Stands b e ((b ++ e ∷ []) ++ more) i x → Stands (y ∷ b) e ((y ∷ b ++ e ∷ []) ++ more) (suc i) x
    shifted (Stands.before g) = Stands.before g
    shifted (Stands.itself f g) = Stands.itself (ap suc f) g
    shifted (Stands.later f) = Stands.later (omega (arith, f))

pub stands : (b c more : List Entry) (e : Entry) (i : ℕ) (x : Entry) → c ≡ (b ++ e ∷ []) ++ more → slice_get c i ≡ Some x → Stands b e c i x
stands b c more e i x f h = subst (λ es. Stands b e es i x) (sym f) (stands_in b more e i x (ap (λ es. slice_get es i) (sym f) ∙ h))

abbrev whole_length : List Entry → Entry → ℕ
whole_length b e = length (b ++ e ∷ [])

used_step : (a b c m n : List Entry) (part : Part) (inner : List ℕ) (parts : List Part) → b ≡ a ++ m → c ≡ (b ++ block_of part inner ∷ []) ++ n
    → AreUsed a (parts_of part.query) b → AreUsed (b ++ block_of part inner ∷ []) parts c → AreUsed a (part ∷ parts) c
used_step a b c m n part inner parts e f first rest i x low h = elim (stands b c n (block_of part inner) i x f h) [
  | Stands.before g ↦ (elim (first i x low g) [
    | inl k ↦ inr (record { at = length b; entry = block_of part inner; behind = within b i x g; there = made_there b c n (block_of part inner) f; uses = k })
    | inr k ↦ inr (behind_stays b c (block_of part inner ∷ n) i x.part (f ∙ append_assoc b (block_of part inner ∷ []) n) k)
  ])
  | Stands.itself g k ↦ inl (inl (ap (λ (y : Entry). y.part) k))
  | Stands.later g ↦ (elim (rest i x g h) [
    | inl k ↦ inl (inr k)
    | inr k ↦ inr k
  ])
]

pub used : {a c : List Entry} {ts : List Part} {ps : List ℕ} → Visits a ts ps c → AreUsed a ts c
used (Visits.done {a} {c} e) = λ i x low h. absurd (omega (arith, within c i x h, ap length e))
used (Visits.item {a} {b} {c} {part} {parts} {inner} {places} s v w) = let m = grows v in let n = grows w in used_step a b c m.0 n.0 part inner parts m.1 n.1 (used v) (used w)
used (Visits.sublink {a} {b} {c} {part} {parts} {inner} {places} k s l v w) = let m = grows v in let n = grows w in used_step a b c m.0 n.0 part inner parts m.1 n.1 (used v) (used w)
used (Visits.known {a} {c} {part} {parts} k s l w) = λ i x low h. elim (used w i x low h) [
  | inl g ↦ inl (inr g)
  | inr g ↦ inr g
]

-- ---- what comes in weighs no more than the parts

abbrev AreLight : List Entry → List Part → List Entry → Type 0
AreLight a ts c = (i : ℕ) (e : Entry) → length a ≤ i → slice_get c i ≡ Some e → part_weight e.part ≤ weighs ts

light_step : (a b c m n : List Entry) (part : Part) (inner : List ℕ) (parts : List Part) → b ≡ a ++ m → c ≡ (b ++ block_of part inner ∷ []) ++ n
    → AreLight a (parts_of part.query) b → AreLight (b ++ block_of part inner ∷ []) parts c → AreLight a (part ∷ parts) c
light_step a b c m n part inner parts e f first rest i x low h = elim (stands b c n (block_of part inner) i x f h) [
  | Stands.before g ↦ omega (arith, first i x low g, parts_lighter part.query)
  | Stands.itself g k ↦ omega (arith, ap (λ (y : Entry). part_weight y.part) k)
  | Stands.later g ↦ omega (arith, rest i x g h)
]

light : {a c : List Entry} {ts : List Part} {ps : List ℕ} → Visits a ts ps c → AreLight a ts c
light (Visits.done {a} {c} e) = λ i x low h. absurd (omega (arith, within c i x h, ap length e))
light (Visits.item {a} {b} {c} {part} {parts} {inner} {places} s v w) = let m = grows v in let n = grows w in light_step a b c m.0 n.0 part inner parts m.1 n.1 (light v) (light w)
light (Visits.sublink {a} {b} {c} {part} {parts} {inner} {places} k s l v w) = let m = grows v in let n = grows w in light_step a b c m.0 n.0 part inner parts m.1 n.1 (light v) (light w)
light (Visits.known {a} {c} {part} {parts} k s l w) = λ i x low h. omega (arith, light w i x low h)

-- ---- of two blocks of one sublink the earlier one weighs less

abbrev pub AreApart : List Entry → List Entry → Type 0
AreApart a c = (i j n : ℕ) (x y : Entry) → i < j → length a ≤ j → slice_get c i ≡ Some x → slice_get c j ≡ Some y → x.part.sub ≡ Some n → y.part.sub ≡ Some n → part_weight x.part < part_weight y.part

before_it : (b c more : List Entry) (e : Entry) (i : ℕ) (x : Entry) → c ≡ (b ++ e ∷ []) ++ more → i < length b → slice_get c i ≡ Some x → slice_get b i ≡ Some x
before_it b c more e i x f low h =
    let k = there b i low in
    k.1 ∙ ap Some (one_there c i k.0 x (stays_there b c (e ∷ more) i k.0 (f ∙ append_assoc b (e ∷ []) more) k.1) h)

-- the block at its place is of no sublink of which another block comes before, unless that one weighs less
abbrev IsFirstOf : List Entry → List Entry → Part → Type 0
IsFirstOf a b part = (i n : ℕ) (x : Entry) → slice_get b i ≡ Some x → x.part.sub ≡ Some n → part.sub ≡ Some n → part_weight x.part < part_weight part

apart_step : (a b c m n : List Entry) (part : Part) (inner : List ℕ) (parts : List Part) → b ≡ a ++ m → c ≡ (b ++ block_of part inner ∷ []) ++ n
    → IsFirstOf a b part → AreApart a b → AreApart (b ++ block_of part inner ∷ []) c → AreApart a c
apart_step a b c m n part inner parts e f it first rest i j k x y less low hx hy sx sy = elim (stands b c n (block_of part inner) j y f hy) [
  | Stands.before g ↦ first i j k x y less low (before_it b c n (block_of part inner) i x f (omega (arith, less, within b j y g)) hx) g sx sy
  | Stands.itself g q ↦
      (let s : part.sub ≡ Some k = ap (λ (z : Entry). z.part.sub) q ∙ sy in
      let w = it i k x (before_it b c n (block_of part inner) i x f (omega (arith, less, g)) hx) sx s in
      omega (arith, w, ap (λ (z : Entry). part_weight z.part) q))
  | Stands.later g ↦ rest i j k x y less g hx hy sx sy
]

no_item : (a b : List Entry) (part : Part) → part.sub ≡ None → IsFirstOf a b part
no_item a b part s i n x h sx t = absurd (clash (sym s ∙ t))
  where
    clash : None ≡ Some n → ⊥
    clash e = cc

new_sublink : (a b m : List Entry) (part : Part) (k : ℕ) → b ≡ a ++ m → part.sub ≡ Some k → is_listed a k ≡ false → AreLight a (parts_of part.query) b → IsFirstOf a b part
new_sublink a b m part k e s l low i n x h sx t = elim (cases_lt i (length a)) [
  | inl g ↦
      (let same : Some k ≡ Some n = sym s ∙ t in
      let at = there a i g in
      let is : at.0 ≡ x = one_there b i at.0 x (stays_there a b m i at.0 e at.1) h in
      let yes : is_listed a k ≡ true = listed_at a i k at.0 at.1 (ap (λ (z : Entry). z.part.sub) is ∙ sx ∙ sym same) in
      absurd (no (sym l ∙ yes)))
  | inr g ↦ omega (arith, low i x g h, parts_lighter part.query)
]
  where
    no : false ≡ true → ⊥
    no f = cc

pub apart : {a c : List Entry} {ts : List Part} {ps : List ℕ} → Visits a ts ps c → AreApart a c
apart (Visits.done {a} {c} e) = λ i j n x y less low hx hy sx sy. absurd (omega (arith, within c j y hy, ap length e))
apart (Visits.item {a} {b} {c} {part} {parts} {inner} {places} s v w) = let m = grows v in let n = grows w in apart_step a b c m.0 n.0 part inner parts m.1 n.1 (no_item a b part s) (apart v) (apart w)
apart (Visits.sublink {a} {b} {c} {part} {parts} {inner} {places} k s l v w) = let m = grows v in let n = grows w in apart_step a b c m.0 n.0 part inner parts m.1 n.1 (new_sublink a b m.0 part k m.1 s l (light v)) (apart v) (apart w)
apart (Visits.known {a} {c} {part} {parts} k s l w) = apart w

-- ---- one step of the code after another

pub begins : (a : List Entry) (q : Query) (parts : List Part) (inner : List ℕ) → parts ≡ parts_of q → inner ≡ [] → Leads a [] (parts_of q) a inner parts
begins a q parts inner e f more after v = (more, subst (λ ps. Visits a ps more after) e v, sym (ap (λ ps. ps ++ more) f))

empty : (parts : List Part) → length parts ≡ 0 → parts ≡ []
empty [] e = refl
empty (p ∷ ps) e = absurd (omega (arith, e))

pub ends : (a now after : List Entry) (part : Part) (inner : List ℕ) (parts : List Part) → Leads a [] (parts_of part.query) now inner parts → length parts ≡ 0 → after ≡ with_block now part inner → IsPut a part after
ends a now after part inner parts leads e f =
    let k = leads [] now (subst (λ ps. Visits now ps [] now) (sym (empty parts e)) (Visits.done refl)) in
    record { used = now; inner = k.0; visits = k.1; is = f ∙ ap (with_block now part) (sym (k.2 ∙ append-nil inner)) }

pub item_leads : (a b : List Entry) (part : Part) (places new : List ℕ) (at : ℕ) (rest : List Part) → part.sub ≡ None → IsPut a part b → at ≡ length b - 1 → new ≡ places ++ at ∷ [] → Leads a places (part ∷ rest) b new rest
item_leads a b part places new at rest s put here e more after v =
    let same : length put.used ≡ at = omega (arith, here, ap length put.is, length-append put.used (block_of part put.inner ∷ [])) in (
      length put.used ∷ more,
      Visits.item s put.visits (subst (λ es. Visits es rest more after) put.is v),
      ap (λ n. places ++ n ∷ more) same ∙ sym (append_assoc places (at ∷ []) more) ∙ ap (λ ps. ps ++ more) (sym e),
    )

pub sublink_leads : (a b : List Entry) (part : Part) (n : ℕ) (places : List ℕ) (rest : List Part) → part.sub ≡ Some n → is_listed a n ≡ false → IsPut a part b → Leads a places (part ∷ rest) b places rest
sublink_leads a b part n places rest s l put more after v = (more, Visits.sublink n s l put.visits (subst (λ es. Visits es rest more after) put.is v), refl)

pub known_leads : (a : List Entry) (part : Part) (n : ℕ) (places : List ℕ) (rest : List Part) → part.sub ≡ Some n → is_listed a n ≡ true → Leads a places (part ∷ rest) a places rest
known_leads a part n places rest s l more after v = (more, Visits.known n s l v, refl)
