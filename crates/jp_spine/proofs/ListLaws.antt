-- Lists that are filtered before or after a join.
use Rattle.std.proofs.Common.{◌≡◌, ◌∙◌, ap, ap₂, sym, refl, inl, inr, Bool, true, false, not, ◌&&◌, ◌||◌, cond, List, [], ◌∷◌, ◌++◌, map, filter}
use Rattle.std.specs.List.{list_all, list_any, flat_map}
use Rattle.std.proofs.lemmas.List.Elements.{filter-append}
use Rattle.jp_facts.proofs.Members.{In}
use Rattle.jp_frame.specs.Maps.{Map, both}
use Rattle.jp_frame.specs.Frames.{Kind, Left, Semi, Anti}
use Rattle.jp_frame.specs.Methods.{matches, is_matched, left_rows, once_where, joined_rows}
use Rattle.jp_spine.proofs.ActiveLaws.{filter_none}

and_moved : (a b c : Bool) → (a && (b && c)) ≡ (b && (a && c))
and_moved true true c = refl
and_moved true false c = refl
and_moved false true c = refl
and_moved false false c = refl

pub and_assoc : (a b c : Bool) → (a && (b && c)) ≡ ((a && b) && c)
and_assoc true b c = refl
and_assoc false b c = refl

module _ {X : Type 0} where
  pub kept_all : (p : X → Bool) (xs : List X) → ((x : X) → p x ≡ true) → filter p xs ≡ xs
  kept_all p [] h = refl
  kept_all p (x ∷ xs) h = ap₂ (λ b rest. cond b (x ∷ rest) rest) (h x) (kept_all p xs h)

  pub filter_twice : (p q : X → Bool) (xs : List X) → filter q (filter p xs) ≡ filter (λ x. p x && q x) xs
  filter_twice p q [] = refl
  filter_twice p q (x ∷ xs) = by (p x) ∙ ap (λ rest. cond (p x && q x) (x ∷ rest) rest) (filter_twice p q xs)
    where
      by : (b : Bool) → filter q (cond b (x ∷ filter p xs) (filter p xs)) ≡ cond (b && q x) (x ∷ filter q (filter p xs)) (filter q (filter p xs))
      by true = refl
      by false = refl

  -- a list of tests is that of the ones by which it is split
  pub all_split : (p q r : X → Bool) (xs : List X) → ((x : X) → r x ≡ not (q x)) → list_all p xs ≡ (list_all p (filter q xs) && list_all p (filter r xs))
  all_split p q r [] h = refl
  all_split p q r (x ∷ xs) h =
      ap (λ b. p x && b) (all_split p q r xs h)
      ∙ by (q x)
      ∙ ap (λ c. list_all p (cond (q x) (x ∷ filter q xs) (filter q xs)) && list_all p (cond c (x ∷ filter r xs) (filter r xs))) (sym (h x))
    where
      by : (b : Bool) → (p x && (list_all p (filter q xs) && list_all p (filter r xs))) ≡ (list_all p (cond b (x ∷ filter q xs) (filter q xs)) && list_all p (cond (not b) (x ∷ filter r xs) (filter r xs)))
      by true = and_assoc (p x) (list_all p (filter q xs)) (list_all p (filter r xs))
      by false = and_moved (p x) (list_all p (filter q xs)) (list_all p (filter r xs))

  pub all_append : (p : X → Bool) (xs ys : List X) → list_all p (xs ++ ys) ≡ (list_all p xs && list_all p ys)
  all_append p [] ys = refl
  all_append p (x ∷ xs) ys = ap (λ b. p x && b) (all_append p xs ys) ∙ and_assoc (p x) (list_all p xs) (list_all p ys)

  pub flat_same : (g h : X → List X) (xs : List X) → ((x : X) → In x xs → g x ≡ h x) → flat_map g xs ≡ flat_map h xs
  flat_same g h [] e = refl
  flat_same g h (x ∷ xs) e = ap₂ ◌++◌ (e x (inl refl)) (flat_same g h xs (λ y m. e y (inr m)))

  -- a test that all results of an element share may be made before or after
  pub kept_before : (p : X → Bool) (g : X → List X) (xs : List X) → ((x : X) → In x xs → (y : X) → In y (g x) → p y ≡ p x) → flat_map g (filter p xs) ≡ filter p (flat_map g xs)
  kept_before p g [] h = refl
  kept_before p g (x ∷ xs) h = by (p x) refl (kept_before p g xs (λ y m. h y (inr m))) ∙ sym (filter-append p (g x) (flat_map g xs))
    where
      always : (ys : List X) → ((y : X) → In y ys → p y ≡ true) → filter p ys ≡ ys
      always [] k = refl
      always (y ∷ ys) k = ap₂ (λ b rest. cond b (y ∷ rest) rest) (k y (inl refl)) (always ys (λ z m. k z (inr m)))

      by : (b : Bool) → p x ≡ b → flat_map g (filter p xs) ≡ filter p (flat_map g xs) → flat_map g (cond b (x ∷ filter p xs) (filter p xs)) ≡ filter p (g x) ++ filter p (flat_map g xs)
      by true e rest = ap₂ ◌++◌ (sym (always (g x) (λ y m. h x (inl refl) y m ∙ e))) rest
      by false e rest = rest ∙ ap (λ ys. ys ++ filter p (flat_map g xs)) (sym (filter_none p (g x) (λ y m. h x (inl refl) y m ∙ e)))

-- ---- right sides that are filtered by tests which may as well stand in ON

module _ (on other q r : Map → Bool) (a : Map) where
  row_kept : (t s : Map → Bool) (b : Map) (bs : List Map) (c : Bool) → filter t (map (both a) (cond c (b ∷ filter s bs) (filter s bs))) ≡ cond (c && t (both a b)) (both a b ∷ filter t (map (both a) (filter s bs))) (filter t (map (both a) (filter s bs)))
  row_kept t s b bs true = refl
  row_kept t s b bs false = refl

  any_kept : (t s : Map → Bool) (b : Map) (bs : List Map) (c : Bool) → list_any t (map (both a) (cond c (b ∷ filter s bs) (filter s bs))) ≡ ((c && t (both a b)) || list_any t (map (both a) (filter s bs)))
  any_kept t s b bs true = refl
  any_kept t s b bs false = refl

  abbrev pub AreAlike : List Map → Type 0
  AreAlike bs = (b : Map) → In b bs → (q b && on (both a b)) ≡ (r b && other (both a b))

  matches_alike : (bs : List Map) → AreAlike bs → matches on (filter q bs) a ≡ matches other (filter r bs) a
  matches_alike [] h = refl
  matches_alike (b ∷ bs) h =
      row_kept on q b bs (q b)
      ∙ ap₂ (λ c rest. cond c (both a b ∷ rest) rest) (h b (inl refl)) (matches_alike bs (λ x m. h x (inr m)))
      ∙ sym (row_kept other r b bs (r b))

  matched_alike : (bs : List Map) → AreAlike bs → is_matched on (filter q bs) a ≡ is_matched other (filter r bs) a
  matched_alike [] h = refl
  matched_alike (b ∷ bs) h =
      any_kept on q b bs (q b)
      ∙ ap₂ ◌||◌ (h b (inl refl)) (matched_alike bs (λ x m. h x (inr m)))
      ∙ sym (any_kept other r b bs (r b))

  pub joined_alike : (kind : Kind) (bs : List Map) → AreAlike bs → joined_rows kind on (filter q bs) a ≡ joined_rows kind other (filter r bs) a
  joined_alike Left bs h = ap (left_rows a) (matches_alike bs h)
  joined_alike Semi bs h = ap (λ b. once_where b a) (matched_alike bs h)
  joined_alike Anti bs h = ap (λ b. once_where (not b) a) (matched_alike bs h)
