-- Lists of environments that are alike, place by place, and what joins and filters make of them.
use Rattle.std.proofs.Common.{◌≡◌, subst, refl, Bool, true, false, cond, ◌||◌, List, [], ◌∷◌, ◌++◌, map, filter}
use Rattle.std.specs.List.{list_any, flat_map}
use Rattle.jp_query.specs.Meaning.{Env, Row, or_else}
use Rattle.jp_induction.specs.Alike.{Alike, none, more}

pub alike_append : {R : Env → Env → Type 0} {xs ys us vs : List Env} → Alike R xs ys → Alike R us vs → Alike R (xs ++ us) (ys ++ vs)
alike_append none h = h
alike_append (more r a) h = more r (alike_append a h)

pub alike_map : {R S : Env → Env → Type 0} {xs ys : List Env} (f g : Env → Env) → ((x y : Env) → R x y → S (f x) (g y)) → Alike R xs ys → Alike S (map f xs) (map g ys)
alike_map f g h none = none
alike_map f g h (more r a) = more (h _ _ r) (alike_map f g h a)

pub alike_flat_map : {R S : Env → Env → Type 0} {xs ys : List Env} (f g : Env → List Env) → ((x y : Env) → R x y → Alike S (f x) (g y)) → Alike R xs ys → Alike S (flat_map f xs) (flat_map g ys)
alike_flat_map f g h none = none
alike_flat_map f g h (more r a) = alike_append (h _ _ r) (alike_flat_map f g h a)

keep : {R : Env → Env → Type 0} {us vs : List Env} (x y : Env) (b : Bool) → R x y → Alike R us vs → Alike R (cond b (x ∷ us) us) (cond b (y ∷ vs) vs)
keep x y true r a = more r a
keep x y false r a = a

pub alike_filter : {R : Env → Env → Type 0} {xs ys : List Env} (p q : Env → Bool) → ((x y : Env) → R x y → p x ≡ q y) → Alike R xs ys → Alike R (filter p xs) (filter q ys)
alike_filter p q h none = none
alike_filter {R} p q h (more {x} {y} {xs} {ys} r a) = subst (λ b. Alike R (cond (p x) (x ∷ filter p xs) (filter p xs)) (cond b (y ∷ filter q ys) (filter q ys))) (h x y r) (keep x y (p x) r (alike_filter p q h a))

pub alike_any : {R : Env → Env → Type 0} {xs ys : List Env} (p q : Env → Bool) → ((x y : Env) → R x y → p x ≡ q y) → Alike R xs ys → list_any p xs ≡ list_any q ys
alike_any p q h none = refl
alike_any p q h (more {x} {y} r a) = λ i. h x y r i || alike_any p q h a i

-- two maps of one list of rows
pub alike_rows : {S : Env → Env → Type 0} (f g : Row → Env) → ((row : Row) → S (f row) (g row)) → (rows : List Row) → Alike S (map f rows) (map g rows)
alike_rows f g h [] = none
alike_rows f g h (row ∷ rows) = more (h row) (alike_rows f g h rows)

pub alike_or_else : {R : Env → Env → Type 0} {xs ys : List Env} (x y : Env) → R x y → Alike R xs ys → Alike R (or_else xs x) (or_else ys y)
alike_or_else x y r none = more r none
alike_or_else x y r (more s a) = more s a

-- two maps that give the same at related environments
pub alike_same : {R : Env → Env → Type 0} {xs ys : List Env} {X : Type 0} (f g : Env → X) → ((x y : Env) → R x y → f x ≡ g y) → Alike R xs ys → map f xs ≡ map g ys
alike_same f g h none = refl
alike_same f g h (more {x} {y} r a) = λ i. h x y r i ∷ alike_same f g h a i

pub alike_weaker : {R S : Env → Env → Type 0} {xs ys : List Env} → ((x y : Env) → R x y → S x y) → Alike R xs ys → Alike S xs ys
alike_weaker h none = none
alike_weaker h (more {x} {y} r a) = more (h x y r) (alike_weaker h a)
