-- Lists whose members have members of another list to themselves, in any order.
use Rattle.std.proofs.Common.{◌≡◌, ◌∙◌, ap, sym, subst, refl, inl, inr, Bool, true, List, [], ◌∷◌, ◌++◌, map, append_assoc}
use Rattle.std.specs.List.{list_all}
use Rattle.jp_query.specs.Freshness.{each_pair}
use Rattle.jp_facts.proofs.Members.{In, in_append_left, in_append_right, from_append}
use Rattle.jp_induction.proofs.EachPart.{append_map}
use Rattle.jp_laws.proofs.ValueLaws.{and_left, and_right}
use Rattle.jp_folded.proofs.Lists.{both}

module _ {X Y : Type 0} (R : X → Y → Type 0) where
  -- each member of the first list stands in R to a member of the second that no other one stands to
  abbrev pub Into : List X → List Y → Type 0
  Into [] ys = Unit {0}
  Into (x ∷ xs) ys = (before : List Y) × (y : Y) × (behind : List Y) × (ys ≡ before ++ y ∷ behind) × R x y × Into xs (before ++ behind)

  pub into_cons : (x : X) (y : Y) (xs : List X) (ys : List Y) → R x y → Into xs ys → Into (x ∷ xs) (y ∷ ys)
  into_cons x y xs ys r h = ([], y, ys, refl, r, h)

  pub wider_left : (zs ys : List Y) (xs : List X) → Into xs ys → Into xs (zs ++ ys)
  wider_left zs ys [] h = tt
  wider_left zs ys (x ∷ xs) h =
      (zs ++ h.0, h.1, h.2, ap (λ ws. zs ++ ws) h.3 ∙ sym (append_assoc zs h.0 (h.1 ∷ h.2)), h.4, subst (Into xs) (sym (append_assoc zs h.0 h.2)) (wider_left zs (h.0 ++ h.2) xs h.5))

  pub wider_right : (ys zs : List Y) (xs : List X) → Into xs ys → Into xs (ys ++ zs)
  wider_right ys zs [] h = tt
  wider_right ys zs (x ∷ xs) h =
      (h.0, h.1, h.2 ++ zs, ap (λ ws. ws ++ zs) h.3 ∙ append_assoc h.0 (h.1 ∷ h.2) zs, h.4, subst (Into xs) (append_assoc h.0 h.2 zs) (wider_right (h.0 ++ h.2) zs xs h.5))

  pub into_append : (xs us : List X) (ys vs : List Y) → Into xs ys → Into us vs → Into (xs ++ us) (ys ++ vs)
  into_append [] us ys vs h k = wider_left ys vs us k
  into_append (x ∷ xs) us ys vs h k =
      (h.0, h.1, h.2 ++ vs, ap (λ ws. ws ++ vs) h.3 ∙ append_assoc h.0 (h.1 ∷ h.2) vs, h.4, subst (Into (xs ++ us)) (append_assoc h.0 h.2 vs) (into_append xs us (h.0 ++ h.2) vs h.5 k))

  -- the other way round on the left
  pub into_crossed : (us xs : List X) (ys vs : List Y) → Into us vs → Into xs ys → Into (us ++ xs) (ys ++ vs)
  into_crossed [] xs ys vs k h = wider_right ys vs xs h
  into_crossed (u ∷ us) xs ys vs k h =
      (ys ++ k.0, k.1, k.2, ap (λ ws. ys ++ ws) k.3 ∙ sym (append_assoc ys k.0 (k.1 ∷ k.2)), k.4, subst (Into (us ++ xs)) (sym (append_assoc ys k.0 k.2)) (into_crossed us xs ys (k.0 ++ k.2) k.5 h))

  -- what members of the second list are tested for, the first list's are
  found : (x : X) (xs : List X) (ys : List Y) → Into xs ys → In x xs → (y : Y) × In y ys × R x y
  found x [] ys h p = absurd p
  found x (z ∷ xs) ys h (inl e) = (h.1, subst (In h.1) (sym h.3) (in_append_right h.1 h.0 (h.1 ∷ h.2) (inl refl)), subst (λ w. R w h.1) e h.4)
  found x (z ∷ xs) ys h (inr p) =
      let k = found x xs (h.0 ++ h.2) h.5 p in
      (k.0, subst (In k.0) (sym h.3) (elim (from_append k.0 h.0 h.2 k.1) [ inl q ↦ in_append_left k.0 h.0 (h.1 ∷ h.2) q | inr q ↦ in_append_right k.0 h.0 (h.1 ∷ h.2) (inr q) ]), k.2)

  pub member_of : (x : X) (xs : List X) (ys : List Y) → Into xs ys → In x xs → (y : Y) × In y ys × R x y
  member_of = found

module _ {X Y X' Y' : Type 0} (R : X → Y → Type 0) (S : X' → Y' → Type 0) (f : X → X') (g : Y → Y') (kept : (x : X) (y : Y) → R x y → S (f x) (g y)) where
  pub into_map : (xs : List X) (ys : List Y) → Into R xs ys → Into S (map f xs) (map g ys)
  into_map [] ys h = tt
  into_map (x ∷ xs) ys h =
      (map g h.0, g h.1, map g h.2, ap (map g) h.3 ∙ append_map g h.0 (h.1 ∷ h.2), kept x h.1 h.4, subst (Into S (map f xs)) (append_map g h.0 h.2) (into_map xs (h.0 ++ h.2) h.5))

module _ {X Y : Type 0} (R S : X → Y → Type 0) where
  -- where the relation is known of members alone
  pub into_weaker : (xs : List X) (ys : List Y) → ((x : X) (y : Y) → In x xs → In y ys → R x y → S x y) → Into R xs ys → Into S xs ys
  into_weaker [] ys kept h = tt
  into_weaker (x ∷ xs) ys kept h =
      let all : (y : Y) → In y (h.0 ++ h.2) → In y ys = λ y p. subst (In y) (sym h.3) (elim (from_append y h.0 h.2 p) [ inl q ↦ in_append_left y h.0 (h.1 ∷ h.2) q | inr q ↦ in_append_right y h.0 (h.1 ∷ h.2) (inr q) ]) in
      (h.0, h.1, h.2, h.3, kept x h.1 (inl refl) (subst (In h.1) (sym h.3) (in_append_right h.1 h.0 (h.1 ∷ h.2) (inl refl))) h.4, into_weaker xs (h.0 ++ h.2) (λ w y p q. kept w y (inr p) (all y q)) h.5)

module _ {X : Type 0} where
  pub all_in_list : (f : X → Bool) (xs : List X) → list_all f xs ≡ true → (x : X) → In x xs → f x ≡ true
  all_in_list f [] h x p = absurd p
  all_in_list f (y ∷ xs) h x (inl e) = subst (λ w. f w ≡ true) e (and_left (f y) (list_all f xs) h)
  all_in_list f (y ∷ xs) h x (inr p) = all_in_list f xs (and_right (f y) (list_all f xs) h) x p

  pub all_from_list : (f : X → Bool) (xs : List X) → ((x : X) → In x xs → f x ≡ true) → list_all f xs ≡ true
  all_from_list f [] h = refl
  all_from_list f (y ∷ xs) h = both (f y) (list_all f xs) (h y (inl refl)) (all_from_list f xs (λ x p. h x (inr p)))

module _ {X : Type 0} (test : X → X → Bool) (symmetric : (x y : X) → test x y ≡ true → test y x ≡ true) where
  without : (before behind : List X) (y : X) → each_pair test (before ++ y ∷ behind) ≡ true → (each_pair test (before ++ behind) ≡ true) × (list_all (test y) (before ++ behind) ≡ true)
  without [] behind y h = (and_right (list_all (test y) behind) (each_pair test behind) h, and_left (list_all (test y) behind) (each_pair test behind) h)
  without (z ∷ before) behind y h =
      let first = and_left (list_all (test z) (before ++ y ∷ behind)) (each_pair test (before ++ y ∷ behind)) h in
      let rest = without before behind y (and_right (list_all (test z) (before ++ y ∷ behind)) (each_pair test (before ++ y ∷ behind)) h) in
      let with_y = all_in_list (test z) (before ++ y ∷ behind) first y (in_append_right y before (y ∷ behind) (inl refl)) in
      let others = all_from_list (test z) (before ++ behind) (λ x p. all_in_list (test z) (before ++ y ∷ behind) first x (elim (from_append x before behind p) [ inl q ↦ in_append_left x before (y ∷ behind) q | inr q ↦ in_append_right x before (y ∷ behind) (inr q) ])) in
      (both (list_all (test z) (before ++ behind)) (each_pair test (before ++ behind)) others rest.0, both (test y z) (list_all (test y) (before ++ behind)) (symmetric z y with_y) rest.1)

  -- what passes a test of each pair passes it where the members have members of their own that passed
  pub pairs_of : {Z : Type 0} (R : Z → X → Type 0) (kept : Z → Z → Bool) → ((a b : Z) (x y : X) → R a x → R b y → test x y ≡ true → kept a b ≡ true) → (zs : List Z) (xs : List X) → Into R zs xs → each_pair test xs ≡ true → each_pair kept zs ≡ true
  pairs_of R kept good [] xs h k = refl
  pairs_of R kept good (a ∷ zs) xs h k =
      let apart = without h.0 h.2 h.1 (subst (λ ws. each_pair test ws ≡ true) h.3 k) in
      both (list_all (kept a) zs) (each_pair kept zs)
      (all_from_list (kept a) zs (λ b p. let m = member_of R b zs (h.0 ++ h.2) h.5 p in good a b h.1 m.0 h.4 m.2 (all_in_list (test h.1) (h.0 ++ h.2) apart.1 m.0 m.1)))
      (pairs_of R kept good zs (h.0 ++ h.2) h.5 apart.0)
