-- When the answer of a reader is exact for a language, and how readers with exact answers are combined.
use Rattle.std.proofs.Common.{◌≡◌, ℕ, zero, suc, ◌<◌, Bool, true, false, not, ◌&&◌, ◌||◌, if◌then◌else◌, List, [], ◌∷◌, ◌++◌, length, Ok, Err, refl, sym, ap, ◌∙◌, subst, arith, append_assoc, append-nil, length-append, true≢false}
use Rattle.jp_ast.specs.declared.class.Class.{Class}
use Rattle.jp_ast.specs.declared.class.Class.TheVariants as k
use Rattle.jp_ast.specs.Seen.{Seen, place}
use Rattle.jp_ast.specs.Classes.{class, first}
use Rattle.jp_cursor.specs.Reading.{Outcome, Reader, and_then, ◌>>=◌, pure, peek, here, token_if, many_from, many}

abbrev pub Tokens : Type 0
Tokens = List Seen

abbrev pub Set : Type 0
Set = Class → Bool

abbrev pub nothing : Set
nothing c = false

abbrev pub either : Set → Set → Set
either X Y c = X c || Y c

-- the two share no class
abbrev pub Apart : Set → Set → Type 0
Apart X Y = (c : Class) → (X c && Y c) ≡ false

-- each class of the first is one of the second
abbrev pub Within : Set → Set → Type 0
Within X Y = (c : Class) → (X c && not (Y c)) ≡ false

-- no token of the set stands first
abbrev pub Stops : Set → Tokens → Type 0
Stops X ts = X (first ts) ≡ false

-- both are empty, or they begin with one token
abbrev pub Alike : Tokens → Tokens → Type 0
Alike [] [] = Unit {0}
Alike [] (t ∷ s) = ⊥
Alike (t ∷ r) [] = ⊥
Alike (t ∷ r) (u ∷ s) = t ≡ u

-- The first tokens were read as a, and behind them stands `rest`: whatever list agrees with the one read up to and with
-- the next token is cut here, with this value.
pub record IsRead {A : Type 0} (L : Tokens → A → Type 0) (X : Set) (ts : Tokens) (a : A) (rest : Tokens) : Type 0 where
  pub used : Tokens
  pub cut : ts ≡ used ++ rest
  pub is : L used a
  pub only : (r u s : Tokens) (b : A) → Alike rest r → used ++ r ≡ u ++ s → L u b → Stops X s → (u ≡ used) × (b ≡ a)

-- The first tokens can be completed, and no list that agrees with the one read up to and with the next token begins so.
pub record IsRefused {A : Type 0} (L : Tokens → A → Type 0) (X : Set) (ts : Tokens) (rest : Tokens) : Type 0 where
  pub used : Tokens
  pub cut : ts ≡ used ++ rest
  pub more : Tokens
  pub value : A
  pub goes_on : L (used ++ more) value
  pub none : (r u s : Tokens) (b : A) → Alike rest r → used ++ r ≡ u ++ s → L u b → Stops X s → ⊥

abbrev pub Exact : {A : Type 0} → (Tokens → A → Type 0) → Set → Tokens → Outcome A → Type 0
Exact L X ts (Ok p) = IsRead L X ts p.0 p.1
Exact L X ts (Err rest) = IsRefused L X ts rest

-- on each list of fewer than n tokens
abbrev pub Reads : {A : Type 0} → ℕ → (Tokens → A → Type 0) → Set → Reader A → Type 0
Reads n L X p = (ts : Tokens) → length ts < n → Exact L X ts (p ts)

abbrev pub Inhabited : {A : Type 0} → (Tokens → A → Type 0) → Type 0
Inhabited {A} L = (u : Tokens) × (a : A) × L u a

-- ---- tests and lists

pub apart : (X Y : Set) (c : Class) → Apart X Y → X c ≡ true → Y c ≡ false
apart X Y c h x = go (X c) (Y c) x (h c)
  where
    go : (a b : Bool) → a ≡ true → (a && b) ≡ false → b ≡ false
    go true b e f = f
    go false b e f = absurd (true≢false (sym e))

pub within : (X Y : Set) (c : Class) → Within X Y → Y c ≡ false → X c ≡ false
within X Y c h y = go (X c) (Y c) y (h c)
  where
    go : (a b : Bool) → b ≡ false → (a && not b) ≡ false → a ≡ false
    go false b e f = refl
    go true false e f = absurd (true≢false f)
    go true true e f = absurd (true≢false e)

pub within_self : (X : Set) → Within X X
within_self X c = go (X c)
  where
    go : (a : Bool) → (a && not a) ≡ false
    go true = refl
    go false = refl

pub clash : {a : Bool} → a ≡ true → a ≡ false → ⊥
clash e f = true≢false (sym e ∙ f)

pub left_false : (a b : Bool) → (a || b) ≡ false → a ≡ false
left_false false b e = refl
left_false true b e = e

pub right_false : (a b : Bool) → (a || b) ≡ false → b ≡ false
right_false false b e = e
right_false true b e = absurd (true≢false e)

pub alike_first : (ts r : Tokens) → Alike ts r → first ts ≡ first r
alike_first [] [] h = refl
alike_first [] (t ∷ r) h = absurd h
alike_first (t ∷ ts) [] h = absurd h
alike_first (t ∷ ts) (u ∷ r) h = ap class h

pub alike_behind : (used rest r : Tokens) → Alike rest r → Alike (used ++ rest) (used ++ r)
alike_behind [] rest r h = h
alike_behind (t ∷ used) rest r h = refl

pub cancel : (u v w : Tokens) → u ++ v ≡ u ++ w → v ≡ w
cancel [] v w e = e
cancel (t ∷ u) v w e = cancel u v w (let f : u ++ v ≡ u ++ w = cc in f)

-- a list whose first class is in a set that holds no Nothing begins with a token, and so does the list with more behind
pub first_of : (F : Set) (u s : Tokens) → F k.Nothing ≡ false → F (first u) ≡ true → first (u ++ s) ≡ first u
first_of F [] s empty has = absurd (clash has empty)
first_of F (t ∷ u) s empty has = refl

pub some_token : (F : Set) (u : Tokens) → F k.Nothing ≡ false → F (first u) ≡ true → 0 < length u
some_token F [] empty has = absurd (clash has empty)
some_token F (t ∷ u) empty has = omega arith

-- ---- from one language to another

module _ {A : Type 0} (L K : Tokens → A → Type 0) (X Y : Set) (ts : Tokens) where
  pub convert_here : (into : (u rest : Tokens) (a : A) → ts ≡ u ++ rest → L u a → K u a) (some : (u : Tokens) (a : A) → L u a → (b : A) × K u b)
      (back : (u s : Tokens) (b : A) → Alike ts (u ++ s) → Stops Y s → K u b → L u b) → Within X Y → (o : Outcome A) → Exact L X ts o → Exact K Y ts o
  convert_here into some back wide (Ok p) h = record {
    used = h.used;
    cut = h.cut;
    is = into h.used p.1 p.0 h.cut h.is;
    only = λ r u s b same e is stop. h.only r u s b same e (back u s b (subst (λ w. Alike w (u ++ s)) (sym h.cut) (subst (Alike (h.used ++ p.1)) e (alike_behind h.used p.1 r same))) stop is) (within X Y (first s) wide stop);
  }
  convert_here into some back wide (Err rest) h =
      let found = some (h.used ++ h.more) h.value h.goes_on in
      record {
        used = h.used;
        cut = h.cut;
        more = h.more;
        value = found.0;
        goes_on = found.1;
        none = λ r u s b same e is stop. h.none r u s b same e (back u s b (subst (λ w. Alike w (u ++ s)) (sym h.cut) (subst (Alike (h.used ++ rest)) e (alike_behind h.used rest r same))) stop is) (within X Y (first s) wide stop);
      }

  pub convert : (into : (u : Tokens) (a : A) → L u a → K u a) (back : (u s : Tokens) (b : A) → Alike ts (u ++ s) → Stops Y s → K u b → L u b) → Within X Y → (o : Outcome A) → Exact L X ts o → Exact K Y ts o
  convert into back wide o h = convert_here (λ u rest a e l. into u a l) (λ u a l. (a, into u a l)) back wide o h

-- a wider set, and an equal language
pub same_language : {A : Type 0} (L K : Tokens → A → Type 0) (X Y : Set) (n : ℕ) (p : Reader A) → ((u : Tokens) (a : A) → L u a → K u a) → ((u : Tokens) (a : A) → K u a → L u a) → Within X Y → Reads n L X p → Reads n K Y p
same_language L K X Y n p into back wide h ts few = convert L K X Y ts into (λ u s b same stop is. back u b is) wide (p ts) (h ts few)

-- ---- nothing

pub record IsPure {A : Type 0} (a : A) (u : Tokens) (b : A) : Type 0 where
  pub cut : u ≡ []
  pub value : b ≡ a

pub reads_pure : {A : Type 0} (a : A) (n : ℕ) → Reads n (IsPure a) nothing (pure a)
reads_pure a n ts few = record {
  used = [];
  cut = refl;
  is = record { cut = refl; value = refl };
  only = λ r u s b same e is stop. (is.cut, is.value);
}

-- ---- one thing and then another

pub record IsThen {A B : Type 0} (L : Tokens → A → Type 0) (M : A → Tokens → B → Type 0) (u : Tokens) (b : B) : Type 0 where
  pub left : Tokens
  pub right : Tokens
  pub value : A
  pub cut : u ≡ left ++ right
  pub front : L left value
  pub back : M value right b

-- what follows never goes on with what stands in front
abbrev pub Starts : {A B : Type 0} → Set → (A → Tokens → B → Type 0) → Set → Type 0
Starts {A} {B} X M Y = (a : A) (w s : Tokens) (b : B) → M a w b → Stops Y s → Stops X (w ++ s)

module _ {A B : Type 0} (L : Tokens → A → Type 0) (M : A → Tokens → B → Type 0) (X Y : Set) (ts : Tokens) (starts : Starts X M Y) where
  -- what stands in front was read
  behind_read : (a : A) (r : Tokens) → IsRead L X ts a r → (o : Outcome B) → Exact (M a) Y r o → Exact (IsThen L M) Y ts o
  behind_read a r h (Ok p) g = record {
    used = h.used ++ g.used;
    cut = h.cut ∙ ap (λ w. h.used ++ w) g.cut ∙ sym (append_assoc h.used g.used p.1);
    is = record { left = h.used; right = g.used; value = a; cut = refl; front = h.is; back = g.is };
    only = λ q u s b same e is stop.
        let one = h.only (g.used ++ q) is.left (is.right ++ s) is.value (subst (λ w. Alike w (g.used ++ q)) (sym g.cut) (alike_behind g.used p.1 q same)) (sym (append_assoc h.used g.used q) ∙ e ∙ ap (λ w. w ++ s) is.cut ∙ append_assoc is.left is.right s) is.front (starts is.value is.right s b is.back stop) in
        let rest : g.used ++ q ≡ is.right ++ s = cancel h.used (g.used ++ q) (is.right ++ s) (sym (append_assoc h.used g.used q) ∙ e ∙ ap (λ w. w ++ s) is.cut ∙ append_assoc is.left is.right s ∙ ap (λ w. w ++ (is.right ++ s)) one.0) in
        let two = g.only q is.right s b same rest (subst (λ v. M v is.right b) one.1 is.back) stop in
        (is.cut ∙ ap (λ w. w ++ is.right) one.0 ∙ ap (λ w. h.used ++ w) two.0, two.1);
  }
  behind_read a r h (Err rest) g = record {
    used = h.used ++ g.used;
    cut = h.cut ∙ ap (λ w. h.used ++ w) g.cut ∙ sym (append_assoc h.used g.used rest);
    more = g.more;
    value = g.value;
    goes_on = record { left = h.used; right = g.used ++ g.more; value = a; cut = append_assoc h.used g.used g.more; front = h.is; back = g.goes_on };
    none = λ q u s b same e is stop.
        let one = h.only (g.used ++ q) is.left (is.right ++ s) is.value (subst (λ w. Alike w (g.used ++ q)) (sym g.cut) (alike_behind g.used rest q same)) (sym (append_assoc h.used g.used q) ∙ e ∙ ap (λ w. w ++ s) is.cut ∙ append_assoc is.left is.right s) is.front (starts is.value is.right s b is.back stop) in
        let tail : g.used ++ q ≡ is.right ++ s = cancel h.used (g.used ++ q) (is.right ++ s) (sym (append_assoc h.used g.used q) ∙ e ∙ ap (λ w. w ++ s) is.cut ∙ append_assoc is.left is.right s ∙ ap (λ w. w ++ (is.right ++ s)) one.0) in
        g.none q is.right s b same tail (subst (λ v. M v is.right b) one.1 is.back) stop;
  }

  pub then_at : ((a : A) → Inhabited (M a)) → (f : A → Reader B) → (o : Outcome A) → ((a : A) (u r : Tokens) → ts ≡ u ++ r → L u a → Exact (M a) Y r (f a r)) → Exact L X ts o → Exact (IsThen L M) Y ts (and_then o f)
  then_at some f (Ok p) more h = behind_read p.0 p.1 h (f p.0 p.1) (more p.0 h.used p.1 h.cut h.is)
  then_at some f (Err rest) more h =
      let found = some h.value in
      record {
        used = h.used;
        cut = h.cut;
        more = h.more ++ found.0;
        value = found.1;
        goes_on = record { left = h.used ++ h.more; right = found.0; value = h.value; cut = sym (append_assoc h.used h.more found.0); front = h.goes_on; back = found.2 };
        none = λ q u s b same e is stop. h.none q is.left (is.right ++ s) is.value same (e ∙ ap (λ w. w ++ s) is.cut ∙ append_assoc is.left is.right s) is.front (starts is.value is.right s b is.back stop);
      }

pub reads_then : {A B : Type 0} (L : Tokens → A → Type 0) (M : A → Tokens → B → Type 0) (X Y : Set) (n : ℕ) (p : Reader A) (f : A → Reader B) → Starts X M Y → ((a : A) → Inhabited (M a)) → Reads n L X p → ((a : A) → Reads n (M a) Y (f a)) → Reads n (IsThen L M) Y (p >>= f)
reads_then L M X Y n p f starts some first' more ts few = then_at L M X Y ts starts some f (p ts) (λ a u r cut is. more a r (omega (arith, ap length cut, length-append u r))) (first' ts few)

-- ---- a choice by the next token

pub reads_by : {A : Type 0} (K : Tokens → A → Type 0) (by : Class → Tokens → A → Type 0) (X : Set) (n : ℕ) (f : Class → Reader A) → ((c : Class) (u : Tokens) (a : A) → by c u a → K u a)
    → ((u s : Tokens) (a : A) → K u a → Stops X s → by (first (u ++ s)) u a) → ((c : Class) → Reads n (by c) X (f c)) → Reads n K X (peek >>= f)
reads_by K by X n f into shape each ts few = convert (by (first ts)) K X X ts (into (first ts)) (λ u s b same stop is. subst (λ c. by c u b) (sym (alike_first ts (u ++ s) same)) (shape u s b is stop)) (within_self X) (f (first ts) ts) (each (first ts) ts few)

-- ---- a token

pub record IsToken {A : Type 0} (passes : Set) (meaning : Seen → A) (u : Tokens) (a : A) : Type 0 where
  pub token : Seen
  pub cut : u ≡ token ∷ []
  pub good : passes (class token) ≡ true
  pub value : a ≡ meaning token

pub reads_token : {A : Type 0} (passes : Set) (meaning : Seen → A) (t : Seen) → passes (class t) ≡ true → (n : ℕ) → Reads n (IsToken passes meaning) nothing (token_if passes meaning)
reads_token passes meaning t good n [] few = record {
  used = [];
  cut = refl;
  more = t ∷ [];
  value = meaning t;
  goes_on = record { token = t; cut = refl; good = good; value = refl };
  none = none;
}
  where
    none : (r u s : Tokens) (b : _) → Alike [] r → r ≡ u ++ s → IsToken passes meaning u b → Stops nothing s → ⊥
    none [] u s b same e is stop = let x = is.cut in let f : [] ≡ is.token ∷ s = e ∙ ap (λ w. w ++ s) x in cc
    none (q ∷ r) u s b same e is stop = absurd same
reads_token passes meaning t good n (h ∷ ts) few = go (passes (class h)) refl
  where
    shared : (r u s : Tokens) (b : _) → Alike (h ∷ ts) r → r ≡ u ++ s → IsToken passes meaning u b → passes (class h) ≡ true
    shared [] u s b same e is = absurd same
    shared (q ∷ r) u s b same e is = let f : q ∷ r ≡ is.token ∷ s = e ∙ ap (λ w. w ++ s) is.cut in let g : q ≡ is.token = cc in ap (λ x. passes (class x)) (same ∙ g) ∙ is.good

    go : (b : Bool) → passes (class h) ≡ b → Exact (IsToken passes meaning) nothing (h ∷ ts) (if b then Ok (meaning h, ts) else Err (h ∷ ts))
    go true e = record {
      used = h ∷ [];
      cut = refl;
      is = record { token = h; cut = refl; good = e; value = refl };
      only = λ r u s b same f is stop.
          let g : h ∷ r ≡ is.token ∷ s = f ∙ ap (λ w. w ++ s) is.cut in
          let x : is.token ≡ h = cc in
          (is.cut ∙ ap (λ y. y ∷ []) x, is.value ∙ ap meaning x);
    }
    go false e = record {
      used = [];
      cut = refl;
      more = t ∷ [];
      value = meaning t;
      goes_on = record { token = t; cut = refl; good = good; value = refl };
      none = λ r u s b same f is stop. clash (shared r u s b same f is) e;
    }

-- a token, and then what depends on it
pub record IsAfter {A B : Type 0} (passes : Set) (meaning : Seen → A) (M : A → Tokens → B → Type 0) (u : Tokens) (b : B) : Type 0 where
  pub token : Seen
  pub rest : Tokens
  pub cut : u ≡ token ∷ rest
  pub good : passes (class token) ≡ true
  pub back : M (meaning token) rest b

pub reads_after : {A B : Type 0} (passes : Set) (meaning : Seen → A) (M : A → Tokens → B → Type 0) (Y : Set) (n : ℕ) (f : A → Reader B) (t : Seen) → passes (class t) ≡ true → ((a : A) → Inhabited (M a)) → ((a : A) → Reads n (M a) Y (f a))
    → Reads (suc n) (IsAfter passes meaning M) Y (token_if passes meaning >>= f)
reads_after passes meaning M Y n f t good some more ts few =
    convert (IsThen (IsToken passes meaning) M) (IsAfter passes meaning M) Y Y ts into (λ u s b same stop is. back u b is) (within_self Y) (and_then (token_if passes meaning ts) f)
    (then_at (IsToken passes meaning) M nothing Y ts (λ a w s b is stop. refl) some f (token_if passes meaning ts) (λ a u r cut is. more a r (omega (arith, few, ap length cut, length-append u r, ap length is.cut))) (reads_token passes meaning t good (suc n) ts few))
  where
    into : (u : Tokens) (b : _) → IsThen (IsToken passes meaning) M u b → IsAfter passes meaning M u b
    into u b h = record { token = h.front.token; rest = h.right; cut = h.cut ∙ ap (λ w. w ++ h.right) h.front.cut; good = h.front.good; back = subst (λ a. M a h.right b) h.front.value h.back }

    back : (u : Tokens) (b : _) → IsAfter passes meaning M u b → IsThen (IsToken passes meaning) M u b
    back u b h = record { left = h.token ∷ []; right = h.rest; value = meaning h.token; cut = h.cut; front = record { token = h.token; cut = refl; good = h.good; value = refl }; back = h.back }

-- ---- a choice by a test of the next token

abbrev pub IsEither : {A : Type 0} → (Tokens → A → Type 0) → (Tokens → A → Type 0) → Bool → Tokens → A → Type 0
IsEither L M true = L
IsEither L M false = M

pub reads_if : {A : Type 0} (K L M : Tokens → A → Type 0) (test X : Set) (n : ℕ) (p q : Reader A) → ((u : Tokens) (a : A) → L u a → K u a) → ((u : Tokens) (a : A) → M u a → K u a)
    → ((u s : Tokens) (a : A) → K u a → Stops X s → IsEither L M (test (first (u ++ s))) u a) → Reads n L X p → Reads n M X q → Reads n K X (peek >>= (λ c. if test c then p else q))
reads_if K L M test X n p q into other shape yes_law no_law ts few = go (test (first ts)) refl
  where
    go : (b : Bool) → test (first ts) ≡ b → Exact K X ts ((if b then p else q) ts)
    go true e = convert L K X X ts into (λ u s b same stop is. subst (λ c. IsEither L M c u b) (ap test (sym (alike_first ts (u ++ s) same)) ∙ e) (shape u s b is stop)) (within_self X) (p ts) (yes_law ts few)
    go false e = convert M K X X ts other (λ u s b same stop is. subst (λ c. IsEither L M c u b) (ap test (sym (alike_first ts (u ++ s) same)) ∙ e) (shape u s b is stop)) (within_self X) (q ts) (no_law ts few)

-- ---- the place of the first token

-- L may take any place, and K takes that of its first token
pub reads_here : {A : Type 0} (L : ℕ → Tokens → A → Type 0) (K : Tokens → A → Type 0) (X : Set) (n : ℕ) (f : ℕ → Reader A) → ((u : Tokens) (a : A) → L (place u) u a → K u a) → ((u : Tokens) (a : A) → K u a → L (place u) u a)
    → ((p : ℕ) (u : Tokens) (a : A) → L p u a → 0 < length u) → ((p q : ℕ) (u : Tokens) (a : A) → L p u a → (b : A) × L q u b) → ((p : ℕ) → Reads n (L p) X (f p)) → Reads n K X (here >>= f)
reads_here {A} L K X n f into back some shift each ts few = convert_here (L (place ts)) K X X ts there other (λ u s b same stop is. subst (λ p. L p u b) (sym (placed u s same (some (place u) u b (back u b is)))) (back u b is)) (within_self X) (f (place ts) ts) (each (place ts) ts few)
  where
    placed_cut : (u rest : Tokens) → ts ≡ u ++ rest → 0 < length u → place ts ≡ place u
    placed_cut [] rest cut long = absurd (omega (arith, long))
    placed_cut (t ∷ u) rest cut long = ap place cut

    placed_alike : (us w : Tokens) → Alike us w → place us ≡ place w
    placed_alike [] [] h = refl
    placed_alike [] (t ∷ r) h = absurd h
    placed_alike (t ∷ us) [] h = absurd h
    placed_alike (t ∷ us) (v ∷ r) h = ap (λ (x : Seen). x.at) h

    front : (u s : Tokens) → 0 < length u → place (u ++ s) ≡ place u
    front [] s long = absurd (omega (arith, long))
    front (t ∷ u) s long = refl

    placed : (u s : Tokens) → Alike ts (u ++ s) → 0 < length u → place ts ≡ place u
    placed u s same long = placed_alike ts (u ++ s) same ∙ front u s long

    there : (u rest : Tokens) (a : A) → ts ≡ u ++ rest → L (place ts) u a → K u a
    there u rest a cut is = into u a (subst (λ p. L p u a) (placed_cut u rest cut (some (place ts) u a is)) is)

    other : (u : Tokens) (a : A) → L (place ts) u a → (b : A) × K u b
    other u a is = let moved = shift (place ts) (place u) u a is in (moved.0, into u moved.0 moved.1)

-- ---- as many as there are

pub data Many {A : Type 0} (M : Tokens → A → Type 0) : Tokens → List A → Type 0 where
  none : {ts : Tokens} {v : List A} → ts ≡ [] → v ≡ [] → Many M ts v
  more : {ts : Tokens} {v : List A} (u w : Tokens) (a : A) (list : List A) → ts ≡ u ++ w → M u a → Many M w list → v ≡ a ∷ list → Many M ts v

pub record IsManyFrom {A : Type 0} (M : Tokens → A → Type 0) (found : List A) (u : Tokens) (v : List A) : Type 0 where
  pub list : List A
  pub many : Many M u list
  pub value : v ≡ found ++ list

-- each list of the language begins with a token of the set
abbrev pub Begins : {A : Type 0} → Set → (Tokens → A → Type 0) → Type 0
Begins {A} F M = (F k.Nothing ≡ false) × ((u : Tokens) (a : A) → M u a → F (first u) ≡ true)

pub begins_first : {A : Type 0} (F : Set) (M : Tokens → A → Type 0) (u s : Tokens) (a : A) → Begins F M → M u a → F (first (u ++ s)) ≡ true
begins_first F M u s a begun is = ap F (first_of F u s begun.0 (begun.1 u a is)) ∙ begun.1 u a is

pub begins_some : {A : Type 0} (F : Set) (M : Tokens → A → Type 0) (u : Tokens) (a : A) → Begins F M → M u a → 0 < length u
begins_some F M u a begun is = some_token F u begun.0 (begun.1 u a is)

pub starts_many : {A : Type 0} (F Y : Set) (M : Tokens → A → Type 0) → Begins F M → Apart F Y → (w s : Tokens) (list : List A) → Many M w list → Stops (either Y F) s → Stops Y (w ++ s)
starts_many F Y M begun free w s list (Many.none cut value) stop = subst (λ v. Stops Y (v ++ s)) (sym cut) (left_false (Y (first s)) (F (first s)) stop)
starts_many F Y M begun free w s list (Many.more u rest a others cut is others' value) stop = subst (Stops Y) (sym (ap (λ v. v ++ s) cut ∙ append_assoc u rest s)) (apart F Y (first (u ++ (rest ++ s))) free (begins_first F M u (rest ++ s) a begun is))

pub many_begun : {A : Type 0} (F : Set) (M : Tokens → A → Type 0) → Begins F M → (u s : Tokens) (list : List A) → Many M u list → F (first (u ++ s)) ≡ false → (u ≡ []) × (list ≡ [])
many_begun F M begun u s list (Many.none cut value) stop = (cut, value)
many_begun F M begun u s list (Many.more v rest a others cut is others' value) stop = absurd (clash (ap F (ap first (ap (λ w. w ++ s) cut ∙ append_assoc v rest s)) ∙ begins_first F M v (rest ++ s) a begun is) stop)

module _ {A : Type 0} (F Y : Set) (M : Tokens → A → Type 0) (begun : Begins F M) (free : Apart F Y) (some : Inhabited M) (member : Reader A) where
  abbrev From : List A → Tokens → List A → Type 0
  From found = IsManyFrom M found

  starts_from : (found : List A) → Starts Y (λ a. From (found ++ a ∷ [])) (either Y F)
  starts_from found a w s b is stop = starts_many F Y M begun free w s is.list is.many stop

  one_more : (found : List A) (u : Tokens) (v : List A) → IsThen M (λ a. From (found ++ a ∷ [])) u v → From found u v
  one_more found u v h = record { list = h.value ∷ h.back.list; many = Many.more h.left h.right h.value h.back.list h.cut h.front h.back.many refl; value = h.back.value ∙ append_assoc found (h.value ∷ []) h.back.list }

  taken : (found : List A) (u s : Tokens) (v list : List A) → Many M u list → v ≡ found ++ list → F (first (u ++ s)) ≡ true → Stops (either Y F) s → IsThen M (λ a. From (found ++ a ∷ [])) u v
  taken found u s v list (Many.none cut value) is begins stop = absurd (clash (ap (λ w. F (first (w ++ s))) (sym cut) ∙ begins) (right_false (Y (first s)) (F (first s)) stop))
  taken found u s v list (Many.more x rest a others cut h more' value) is begins stop = record { left = x; right = rest; value = a; cut = cut; front = h; back = record { list = others; many = more'; value = is ∙ ap (λ w. found ++ w) value ∙ sym (append_assoc found (a ∷ []) others) } }

  pub reads_many_from : (m n : ℕ) → Reads n M Y member → (found : List A) (ts : Tokens) → length ts < n → length ts < m → Exact (From found) (either Y F) ts (many_from F member m found ts)
  unfolding many_from
  reads_many_from zero n law found ts few turns = absurd (omega (arith, turns))
  reads_many_from (suc m) n law found ts few turns = go (F (first ts)) refl (λ (a : A) (r : Tokens). reads_many_from m n law (found ++ a ∷ []) r)
    where
      go : (b : Bool) → F (first ts) ≡ b → ((a : A) (r : Tokens) → length r < n → length r < m → Exact (From (found ++ a ∷ [])) (either Y F) r (many_from F member m (found ++ a ∷ []) r))
          → Exact (From found) (either Y F) ts ((if b then (member >>= (λ a. many_from F member m (found ++ a ∷ []))) else pure found) ts)
      go true e next =
          convert (IsThen M (λ a. From (found ++ a ∷ []))) (From found) (either Y F) (either Y F) ts (one_more found) (λ u s b same stop is. taken found u s b is.list is.many is.value (ap F (sym (alike_first ts (u ++ s) same)) ∙ e) stop) (within_self (either Y F)) (and_then (member ts) (λ a. many_from F member m (found ++ a ∷ [])))
          (then_at M (λ a. From (found ++ a ∷ [])) Y (either Y F) ts (starts_from found) (λ a. ([], found ++ a ∷ [], record { list = []; many = Many.none refl refl; value = sym (append-nil (found ++ a ∷ [])) })) (λ a. many_from F member m (found ++ a ∷ [])) (member ts)
          (λ a u r cut is. let l = ap length cut in let ll = length-append u r in let some' = begins_some F M u a begun is in next a r (omega arith) (omega arith)) (law ts few))
      go false e next = record {
        used = [];
        cut = refl;
        is = record { list = []; many = Many.none refl refl; value = sym (append-nil found) };
        only = λ r u s b same f is stop.
            let empty = many_begun F M begun u s is.list is.many (ap F (sym (alike_first ts r same ∙ ap first f)) ∙ e) in
            (empty.0, is.value ∙ ap (λ w. found ++ w) empty.1 ∙ append-nil found);
      }

  pub reads_many : (n : ℕ) → Reads n M Y member → Reads n (Many M) (either Y F) (many F member)
  reads_many n law ts few =
      convert (From []) (Many M) (either Y F) (either Y F) ts (λ u v is. subst (Many M u) (sym is.value) is.many) (λ u s v same stop is. record { list = v; many = is; value = refl }) (within_self (either Y F)) (many_from F member (suc (length ts)) [] ts)
      (reads_many_from (suc (length ts)) n law [] ts few (omega arith))
