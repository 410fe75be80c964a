-- The readers' steps that take a token, with their languages.
use Rattle.std.proofs.Common.{◌≡◌, ℕ, suc, ◌<◌, Bool, true, false, if◌then◌else◌, List, [], ◌∷◌, ◌++◌, length, Ok, refl, sym, ap, ◌∙◌, subst, arith, append_assoc, append-nil, length-append}
use Rattle.std.specs.Prelude.{drop, not, ◌&&◌, ◌||◌}
use Rattle.jp_ast.specs.declared.tree.Ast.{Ast}
use Rattle.jp_ast.specs.declared.class.Class.{Class}
use Rattle.jp_ast.specs.declared.class.Class.TheVariants as k
use Rattle.jp_ast.specs.Seen.{Seen, place}
use Rattle.jp_ast.specs.Classes.{class, first, same, is_name}
use Rattle.jp_cursor.specs.Reading.{Reader, ◌>>=◌, ◌>>◌, pure, here, is, expect, no_meaning, content_in, name, eat, many, listed}
use Rattle.jp_ast.specs.Nodes.{chain}
use Rattle.jp_parse.specs.Readers.{level}
use Rattle.jp_parse.proofs.Exact.{Tokens, Set, nothing, either, Apart, Within, Stops, Alike, Exact, Reads, Inhabited, clash, within, alike_first, reads_pure, IsPure, IsThen, Starts, reads_then, IsAfter, reads_after, reads_here, Many, Begins, begins_first, reads_many, same_language, apart}
use Rattle.jp_parse.proofs.Samples.{sample, sampled, is_same, same_is, is_sample}

-- on fewer lists
pub fewer : {A : Type 0} (L : Tokens → A → Type 0) (X : Set) (n : ℕ) (p : Reader A) → Reads (suc n) L X p → Reads n L X p
fewer L X n p law ts few = law ts (omega (arith, few))

-- the same tokens with a wider set
pub wider : {A : Type 0} (L : Tokens → A → Type 0) (X Y : Set) (n : ℕ) (p : Reader A) → Within X Y → Reads n L X p → Reads n L Y p
wider L X Y n p wide law = same_language L L X Y n p (λ u a is. is) (λ u a is. is) wide law

-- ---- some list of each language

pub some_pure : {A : Type 0} (a : A) → Inhabited (IsPure a)
some_pure a = ([], a, record { cut = refl; value = refl })

pub some_then : {A B : Type 0} (L : Tokens → A → Type 0) (M : A → Tokens → B → Type 0) → Inhabited L → ((a : A) → Inhabited (M a)) → Inhabited (IsThen L M)
some_then L M one more = let next = more one.1 in (one.0 ++ next.0, next.1, record { left = one.0; right = next.0; value = one.1; cut = refl; front = one.2; back = next.2 })

pub some_after : {A B : Type 0} (passes : Set) (meaning : Seen → A) (M : A → Tokens → B → Type 0) (t : Seen) → passes (class t) ≡ true → ((a : A) → Inhabited (M a)) → Inhabited (IsAfter passes meaning M)
some_after passes meaning M t good more = let next = more (meaning t) in (t ∷ next.0, next.1, record { token = t; rest = next.0; cut = refl; good = good; back = next.2 })

pub some_many : {A : Type 0} (M : Tokens → A → Type 0) → Inhabited (Many M)
some_many M = ([], [], Many.none refl refl)

-- ---- a token of a class, and then what doesn't depend on it

abbrev pub Behind : {B : Type 0} → Class → (Tokens → B → Type 0) → Tokens → B → Type 0
Behind c M = IsAfter (is c) no_meaning (λ _. M)

pub behind_class : {B : Type 0} (c : Class) (M : Tokens → B → Type 0) (u s : Tokens) (b : B) → Behind c M u b → first (u ++ s) ≡ c
behind_class c M u s b h = ap (λ w. first (w ++ s)) h.cut ∙ is_same c (class h.token) h.good

pub behind : {B : Type 0} (c : Class) (M : Tokens → B → Type 0) (u : Tokens) (b : B) (t : Seen) (w : Tokens) → u ≡ t ∷ w → class t ≡ c → M w b → Behind c M u b
behind c M u b t w cut good is = record { token = t; rest = w; cut = cut; good = same_is c (class t) good; back = is }

pub some_behind : {B : Type 0} (c : Class) (M : Tokens → B → Type 0) → Inhabited M → Inhabited (Behind c M)
some_behind c M one = some_after (is c) no_meaning (λ _. M) (sample c) (is_sample c) (λ _. one)

-- a token of the class doesn't stand in the set
pub starts_behind : {A B : Type 0} (c : Class) (X Y : Set) (M : A → Tokens → B → Type 0) → X c ≡ false → Starts X (λ a. Behind c (M a)) Y
starts_behind c X Y M out a w s b is stop = ap X (behind_class c (M a) w s b is) ∙ out

pub reads_enter : {B : Type 0} (c : Class) (M : Tokens → B → Type 0) (Y : Set) (n : ℕ) (f : Reader B) → Inhabited M → Reads n M Y f → Reads (suc n) (Behind c M) Y (expect c >> f)
unfolding expect
reads_enter c M Y n f some law = reads_after (is c) no_meaning (λ _. M) Y n (λ _. f) (sample c) (is_sample c) (λ _. some) (λ _. law)

pub reads_expect : {B : Type 0} (c : Class) (M : Tokens → B → Type 0) (Y : Set) (n : ℕ) (f : Reader B) → Inhabited M → Reads n M Y f → Reads n (Behind c M) Y (expect c >> f)
reads_expect c M Y n f some law = fewer (Behind c M) Y n (expect c >> f) (reads_enter c M Y n f some law)

-- nothing but the token
abbrev pub Word : {A : Type 0} → Class → A → Tokens → A → Type 0
Word c a = Behind c (IsPure a)

pub some_word : {A : Type 0} (c : Class) (a : A) → Inhabited (Word c a)
some_word c a = some_behind c (IsPure a) (some_pure a)

pub reads_word : {A : Type 0} (c : Class) (a : A) (n : ℕ) → Reads n (Word c a) nothing (expect c >> pure a)
reads_word c a n = reads_expect c (IsPure a) nothing n (pure a) (some_pure a) (reads_pure a n)

-- ---- a name, and then what depends on it

abbrev pub Named : {B : Type 0} → (List ℕ → Tokens → B → Type 0) → Tokens → B → Type 0
Named M = IsAfter is_name content_in M

sample_name : is_name (class (sample k.Name)) ≡ true
sample_name = ap is_name (sampled k.Name)

pub some_named : {B : Type 0} (M : List ℕ → Tokens → B → Type 0) → ((a : List ℕ) → Inhabited (M a)) → Inhabited (Named M)
some_named M more = some_after is_name content_in M (sample k.Name) sample_name more

pub reads_named : {B : Type 0} (M : List ℕ → Tokens → B → Type 0) (Y : Set) (n : ℕ) (f : List ℕ → Reader B) → ((a : List ℕ) → Inhabited (M a)) → ((a : List ℕ) → Reads n (M a) Y (f a)) → Reads (suc n) (Named M) Y (name >>= f)
unfolding name
reads_named M Y n f some law = reads_after is_name content_in M Y n f (sample k.Name) sample_name some law

-- ---- a token that may be missing

pub data MaybeWord (c : Class) : Tokens → Bool → Type 0 where
  none : {ts : Tokens} {v : Bool} → ts ≡ [] → v ≡ false → MaybeWord c ts v
  given : {ts : Tokens} {v : Bool} (t : Seen) → ts ≡ t ∷ [] → class t ≡ c → v ≡ true → MaybeWord c ts v

pub some_maybe : (c : Class) → Inhabited (MaybeWord c)
some_maybe c = ([], false, MaybeWord.none refl refl)

pub starts_maybe : (c : Class) (X Y : Set) → X c ≡ false → Within X Y → (w s : Tokens) (b : Bool) → MaybeWord c w b → Stops Y s → Stops X (w ++ s)
starts_maybe c X Y out wide w s b (MaybeWord.none cut value) stop = subst (λ v. Stops X (v ++ s)) (sym cut) (within X Y (first s) wide stop)
starts_maybe c X Y out wide w s b (MaybeWord.given t cut good value) stop = ap (λ v. X (first (v ++ s))) cut ∙ ap X good ∙ out

pub reads_eat : (c : Class) → is c k.Nothing ≡ false → (n : ℕ) → Reads n (MaybeWord c) (is c) (eat c)
unfolding eat
reads_eat c out' n ts few = go ts (is c (first ts)) refl
  where
    no_word : (us r u s : Tokens) (b : Bool) → is c (first us) ≡ false → Alike us r → r ≡ u ++ s → MaybeWord c u b → (u ≡ []) × (b ≡ false)
    no_word us r u s b out same e (MaybeWord.none cut value) = (cut, value)
    no_word us r u s b out same e (MaybeWord.given t cut good value) = absurd (clash (same_is c (first us) (alike_first us r same ∙ ap first (e ∙ ap (λ w. w ++ s) cut) ∙ good)) out)

    has_word : (t : Seen) (us r u s : Tokens) (b : Bool) → is c (class t) ≡ true → t ∷ r ≡ u ++ s → MaybeWord c u b → Stops (is c) s → (u ≡ t ∷ []) × (b ≡ true)
    has_word t us r u s b good e (MaybeWord.none cut value) stop = absurd (clash (ap (λ w. is c (first w)) (sym (e ∙ ap (λ w. w ++ s) cut)) ∙ good) stop)
    has_word t us r u s b good e (MaybeWord.given x cut is' value) stop = let f : t ∷ r ≡ x ∷ s = e ∙ ap (λ w. w ++ s) cut in let g : x ≡ t = cc in (cut ∙ ap (λ w. w ∷ []) g, value)

    go : (us : Tokens) (b : Bool) → is c (first us) ≡ b → Exact (MaybeWord c) (is c) us (if b then Ok (true, drop 1 us) else Ok (false, us))
    go us false e = record { used = []; cut = refl; is = MaybeWord.none refl refl; only = λ r u s b same f is' stop. no_word us r u s b e same f is' }
    go [] true e = absurd (clash e out')
    go (t ∷ us) true e = record { used = t ∷ []; cut = refl; is = MaybeWord.given t refl (is_same c (class t) e) refl; only = λ r u s b same f is' stop. has_word t us r u s b e f is' stop }

-- ---- a value that may take any place

abbrev pub Shifts : {B : Type 0} → (ℕ → Tokens → B → Type 0) → Type 0
Shifts {B} L = (p q : ℕ) (u : Tokens) (b : B) → L p u b → (c : B) × L q u c

pub shift_pure : {B : Type 0} (f : ℕ → B) → Shifts (λ p. IsPure (f p))
shift_pure f p q u b is = (f q, record { cut = is.cut; value = refl })

pub shift_after : {A B : Type 0} (passes : Set) (meaning : Seen → A) (M : ℕ → A → Tokens → B → Type 0) → ((a : A) → Shifts (λ p. M p a)) → Shifts (λ p. IsAfter passes meaning (M p))
shift_after passes meaning M more p q u b is = let moved = more (meaning is.token) p q is.rest b is.back in (moved.0, record { token = is.token; rest = is.rest; cut = is.cut; good = is.good; back = moved.1 })

pub shift_then : {A B : Type 0} (L : Tokens → A → Type 0) (M : ℕ → A → Tokens → B → Type 0) → ((a : A) → Shifts (λ p. M p a)) → Shifts (λ p. IsThen L (M p))
shift_then L M more p q u b is = let moved = more is.value p q is.right b is.back in (moved.0, record { left = is.left; right = is.right; value = is.value; cut = is.cut; front = is.front; back = moved.1 })

pub shift_behind : {B : Type 0} (c : Class) (M : ℕ → Tokens → B → Type 0) → Shifts M → Shifts (λ p. Behind c (M p))
shift_behind c M more = shift_after (is c) no_meaning (λ p _. M p) (λ _. more)

pub long_after : {A B : Type 0} (passes : Set) (meaning : Seen → A) (M : A → Tokens → B → Type 0) (u : Tokens) (b : B) → IsAfter passes meaning M u b → 0 < length u
long_after passes meaning M u b is = omega (arith, ap length is.cut)

pub long_then : {A B : Type 0} (L : Tokens → A → Type 0) (M : A → Tokens → B → Type 0) → ((v : Tokens) (a : A) → L v a → 0 < length v) → (u : Tokens) (b : B) → IsThen L M u b → 0 < length u
long_then L M long u b is = omega (arith, ap length is.cut, length-append is.left is.right, long is.left is.value is.front)

-- the place of the first token
abbrev pub Placed : {B : Type 0} → (ℕ → Tokens → B → Type 0) → Tokens → B → Type 0
Placed L u b = L (place u) u b

pub reads_placed : {B : Type 0} (L : ℕ → Tokens → B → Type 0) (X : Set) (n : ℕ) (f : ℕ → Reader B) → ((p : ℕ) (u : Tokens) (b : B) → L p u b → 0 < length u) → Shifts L → ((p : ℕ) → Reads n (L p) X (f p)) → Reads n (Placed L) X (here >>= f)
reads_placed L X n f long shift law = reads_here L (Placed L) X n f (λ u b is. is) (λ u b is. is) long shift law

-- ---- one and more

pub begins_behind : {B : Type 0} (c : Class) (M : Tokens → B → Type 0) → is c k.Nothing ≡ false → Begins (is c) (Behind c M)
begins_behind c M out = (out, λ u b h. ap (λ w. is c (first w)) h.cut ∙ h.good)

pub apart_is : (c : Class) (X : Set) → X c ≡ false → Apart (is c) X
apart_is c X out d = go (is c d) (X d) (λ e. ap X (is_same c d e) ∙ out)
  where
    go : (a b : Bool) → (a ≡ true → b ≡ false) → (a && b) ≡ false
    go true b h = h refl
    go false b h = refl

pub within_nothing : (X : Set) → Within nothing X
within_nothing X c = refl

pub starts_pure : {A B : Type 0} (X : Set) (f : A → B) → Starts X (λ a. IsPure (f a)) X
starts_pure X f a w s b is stop = subst (λ v. Stops X (v ++ s)) (sym is.cut) stop

pub starts_then : {A B C : Type 0} (X Z Y : Set) (L : A → Tokens → B → Type 0) (M : A → B → Tokens → C → Type 0) → Starts X L Z → ((a : A) → Starts Z (M a) Y) → Starts X (λ a. IsThen (L a) (M a)) Y
starts_then X Z Y L M first' next a w s c is stop = subst (Stops X) (sym (ap (λ v. v ++ s) is.cut ∙ append_assoc is.left is.right s)) (first' a is.left (is.right ++ s) is.value is.front (next a is.value is.right s c is.back stop))

pub starts_begun : {A B : Type 0} (F X Y : Set) (M : A → Tokens → B → Type 0) → ((a : A) → Begins F (M a)) → Apart F X → Starts X M Y
starts_begun F X Y M begun free a w s b is stop = apart F X (first (w ++ s)) free (begins_first F (M a) w s b (begun a) is)

pub reads_pure_in : {A : Type 0} (a : A) (X : Set) (n : ℕ) → Reads n (IsPure a) X (pure a)
reads_pure_in a X n = wider (IsPure a) nothing X n (pure a) (within_nothing X) (reads_pure a n)

-- a member, and as many others as there are
abbrev pub Chained : {A B C : Type 0} → (Tokens → A → Type 0) → (Tokens → B → Type 0) → (A → List B → C) → Tokens → C → Type 0
Chained {A} {B} {C} M N node = IsThen M (λ a. IsThen (Many N) (λ more. IsPure (node a more)))

pub some_chained : {A B C : Type 0} (M : Tokens → A → Type 0) (N : Tokens → B → Type 0) (node : A → List B → C) → Inhabited M → Inhabited (Chained M N node)
some_chained M N node one = some_then M (λ a. IsThen (Many N) (λ more. IsPure (node a more))) one (λ a. some_then (Many N) (λ more. IsPure (node a more)) (some_many N) (λ more. some_pure (node a more)))

pub starts_chained : {A B C : Type 0} (N : Tokens → B → Type 0) (node : A → List B → C) (F X Y : Set) → Begins F N → Apart F X → Within X (either Y F) → Starts X (λ a. IsThen (Many N) (λ more. IsPure (node a more))) (either Y F)
starts_chained {A} {B} {C} N node F X Y begun free wide = starts_then X (either Y F) (either Y F) (λ a. Many N) (λ a more. IsPure (node a more)) starts (λ a. starts_pure (either Y F) (node a))
  where
    starts : Starts X (λ (a : A). Many N) (either Y F)
    starts a w s list (Many.none cut value) stop = subst (λ v. Stops X (v ++ s)) (sym cut) (within X (either Y F) (first s) wide stop)
    starts a w s list (Many.more u rest b others cut is others' value) stop = subst (Stops X) (sym (ap (λ v. v ++ s) cut ∙ append_assoc u rest s)) (apart F X (first (u ++ (rest ++ s))) free (begins_first F N u (rest ++ s) b begun is))

pub reads_chained : {A B C : Type 0} (M : Tokens → A → Type 0) (N : Tokens → B → Type 0) (node : A → List B → C) (F X Y : Set) (n : ℕ) (member : Reader A) (item : Reader B) → Begins F N → Apart F X → Apart F Y → Within X (either Y F) → Inhabited N
    → Reads n M X member → Reads n N Y item → Reads n (Chained M N node) (either Y F) (member >>= (λ a. many F item >>= (λ more. pure (node a more))))
reads_chained {A} {B} {C} M N node F X Y n member item begun free clear wide some first' next =
    reads_then M (λ a. IsThen (Many N) (λ more. IsPure (node a more))) X (either Y F) n member (λ a. many F item >>= (λ more. pure (node a more)))
    (starts_chained N node F X Y begun free wide)
    (λ a. some_then (Many N) (λ more. IsPure (node a more)) (some_many N) (λ more. some_pure (node a more)))
    first'
    (λ a. reads_then (Many N) (λ more. IsPure (node a more)) (either Y F) (either Y F) n (many F item) (λ more. pure (node a more)) (starts_pure (either Y F) (node a)) (λ more. some_pure (node a more)) (reads_many F Y N begun clear some item n next) (λ more. reads_pure_in (node a more) (either Y F) n))

pub within_left : (X Y : Set) → Within X (either X Y)
within_left X Y c = go (X c) (Y c)
  where
    go : (a b : Bool) → (a && not (a || b)) ≡ false
    go true b = refl
    go false b = refl

-- ---- members with one kind of token between

abbrev pub Listed : {A : Type 0} → (Tokens → A → Type 0) → Tokens → List A → Type 0
Listed M = Chained M (Behind k.Comma M) (λ a more. a ∷ more)

comma_token : is k.Comma k.Nothing ≡ false
unfolding same
comma_token = refl

pub reads_listed : {A : Type 0} (M : Tokens → A → Type 0) (X : Set) (n : ℕ) (member : Reader A) → X k.Comma ≡ false → Inhabited M → Reads n M X member → Reads n (Listed M) (either X (is k.Comma)) (listed member)
reads_listed M X n member out some law =
    reads_chained M (Behind k.Comma M) (λ a more. a ∷ more) (is k.Comma) X X n member (expect k.Comma >> member) (begins_behind k.Comma M comma_token) (apart_is k.Comma X out) (apart_is k.Comma X out) (within_left X (is k.Comma)) (some_behind k.Comma M some) law
    (reads_expect k.Comma M X n member some law)

abbrev pub LevelAt : (ℕ → List Ast → Ast) → Class → (Tokens → Ast → Type 0) → ℕ → Tokens → Ast → Type 0
LevelAt node c M p = Chained M (Behind c M) (chain (node p))

pub shift_chained : {A B C : Type 0} (M : Tokens → A → Type 0) (N : Tokens → B → Type 0) (node : ℕ → A → List B → C) → Shifts (λ p. Chained M N (node p))
shift_chained M N node = shift_then M (λ p a. IsThen (Many N) (λ more. IsPure (node p a more))) (λ a. shift_then (Many N) (λ p more. IsPure (node p a more)) (λ more. shift_pure (λ p. node p a more)))

pub reads_level : (node : ℕ → List Ast → Ast) (c : Class) (M : Tokens → Ast → Type 0) (X : Set) (n : ℕ) (member : Reader Ast) → is c k.Nothing ≡ false → X c ≡ false → ((u : Tokens) (a : Ast) → M u a → 0 < length u) → Inhabited M → Reads n M X member
    → Reads n (Placed (LevelAt node c M)) (either X (is c)) (level node c member)
unfolding level
reads_level node c M X n member token out long some law =
    reads_placed (LevelAt node c M) (either X (is c)) n (λ at. member >>= (λ a. many (is c) (expect c >> member) >>= (λ more. pure (chain (node at) a more)))) (λ p. long_then M (λ a. IsThen (Many (Behind c M)) (λ more. IsPure (chain (node p) a more))) long)
    (shift_chained M (Behind c M) (λ p. chain (node p)))
    (λ p. reads_chained M (Behind c M) (chain (node p)) (is c) X X n member (expect c >> member) (begins_behind c M token) (apart_is c X out) (apart_is c X out) (within_left X (is c)) (some_behind c M some) law (reads_expect c M X n member some law))

-- ---- chains and words as they are used

pub record IsChain {A B C : Type 0} (M : Tokens → A → Type 0) (N : Tokens → B → Type 0) (node : A → List B → C) (u : Tokens) (c : C) : Type 0 where
  pub left : Tokens
  pub right : Tokens
  pub value : A
  pub list : List B
  pub cut : u ≡ left ++ right
  pub front : M left value
  pub many : Many N right list
  pub all : c ≡ node value list

pub chain_of : {A B C : Type 0} (M : Tokens → A → Type 0) (N : Tokens → B → Type 0) (node : A → List B → C) (u : Tokens) (c : C) → Chained M N node u c → IsChain M N node u c
chain_of M N node u c is = record {
  left = is.left;
  right = is.right;
  value = is.value;
  list = is.back.value;
  cut = is.cut;
  front = is.front;
  many = subst (λ w. Many N w is.back.value) (sym (is.back.cut ∙ ap (λ w. is.back.left ++ w) is.back.back.cut ∙ append-nil is.back.left)) is.back.front;
  all = is.back.back.value;
}

pub of_chain : {A B C : Type 0} (M : Tokens → A → Type 0) (N : Tokens → B → Type 0) (node : A → List B → C) (u left right : Tokens) (value : A) (list : List B) (c : C) → u ≡ left ++ right → M left value → Many N right list → c ≡ node value list → Chained M N node u c
of_chain M N node u left right value list c cut front many all = record {
  left = left;
  right = right;
  value = value;
  cut = cut;
  front = front;
  back = record { left = right; right = []; value = list; cut = sym (append-nil right); front = many; back = record { cut = refl; value = all } };
}

pub word_cut : {A : Type 0} (c : Class) (a : A) (u : Tokens) (b : A) (is' : Word c a u b) → u ≡ is'.token ∷ []
word_cut c a u b is' = is'.cut ∙ ap (λ w. is'.token ∷ w) is'.back.cut

pub word : {A : Type 0} (c : Class) (a : A) (t : Seen) (b : A) → class t ≡ c → b ≡ a → Word c a (t ∷ []) b
word c a t b good all = record { token = t; rest = []; cut = refl; good = same_is c (class t) good; back = record { cut = refl; value = all } }

-- nothing more, before what the wider set stops
pub starts_end : {A B : Type 0} (X Y : Set) (f : A → B) → Within X Y → Starts X (λ a. IsPure (f a)) Y
starts_end X Y f wide a w s b is stop = subst (λ v. Stops X (v ++ s)) (sym is.cut) (within X Y (first s) wide stop)

-- a part, and then nothing more
pub reads_last : {A B : Type 0} (L : Tokens → A → Type 0) (X Y : Set) (n : ℕ) (p : Reader A) (f : A → B) → Within X Y → Reads n L X p → Reads n (IsThen L (λ a. IsPure (f a))) Y (p >>= (λ a. pure (f a)))
reads_last L X Y n p f wide law = reads_then L (λ a. IsPure (f a)) X Y n p (λ a. pure (f a)) (starts_end X Y f wide) (λ a. some_pure (f a)) law (λ a. reads_pure_in (f a) Y n)

pub some_last : {A B : Type 0} (L : Tokens → A → Type 0) (f : A → B) → Inhabited L → Inhabited (IsThen L (λ a. IsPure (f a)))
some_last L f one = some_then L (λ a. IsPure (f a)) one (λ a. some_pure (f a))

-- such a part as it is used
pub last_cut : {A B : Type 0} (L : Tokens → A → Type 0) (f : A → B) (u : Tokens) (b : B) (h : IsThen L (λ a. IsPure (f a)) u b) → u ≡ h.left
last_cut L f u b h = h.cut ∙ ap (λ w. h.left ++ w) h.back.cut ∙ append-nil h.left

pub last_is : {A B : Type 0} (L : Tokens → A → Type 0) (f : A → B) (u : Tokens) (b : B) (h : IsThen L (λ a. IsPure (f a)) u b) → L u h.value
last_is L f u b h = subst (λ w. L w h.value) (sym (last_cut L f u b h)) h.front

pub last : {A B : Type 0} (L : Tokens → A → Type 0) (f : A → B) (u : Tokens) (a : A) (b : B) → L u a → b ≡ f a → IsThen L (λ a. IsPure (f a)) u b
last L f u a b is all = record { left = u; right = []; value = a; cut = sym (append-nil u); front = is; back = record { cut = refl; value = all } }

-- a part, a token of a class, and then what follows
pub reads_closed : {A B : Type 0} (L : Tokens → A → Type 0) (c : Class) (M : A → Tokens → B → Type 0) (X Y : Set) (n : ℕ) (p : Reader A) (f : A → Reader B) → X c ≡ false → ((a : A) → Inhabited (M a)) → Reads n L X p → ((a : A) → Reads n (M a) Y (f a))
    → Reads n (IsThen L (λ a. Behind c (M a))) Y (p >>= (λ a. expect c >> f a))
reads_closed L c M X Y n p f out some law next = reads_then L (λ a. Behind c (M a)) X Y n p (λ a. expect c >> f a) (starts_behind c X Y M out) (λ a. some_behind c (M a) (some a)) law (λ a. reads_expect c (M a) Y n (f a) (some a) (next a))

pub some_closed : {A B : Type 0} (L : Tokens → A → Type 0) (c : Class) (M : A → Tokens → B → Type 0) → Inhabited L → ((a : A) → Inhabited (M a)) → Inhabited (IsThen L (λ a. Behind c (M a)))
some_closed L c M one more = some_then L (λ a. Behind c (M a)) one (λ a. some_behind c (M a) (more a))
