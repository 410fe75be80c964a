-- Facts of each member of a list, and the parts of one level of a tree.
use Rattle.std.proofs.Common.{◌≡◌, ◌∙◌, ap, sym, refl, zero, suc, Bool, true, List, [], ◌∷◌, ◌++◌, map, Option, Some, None, arith}
use Rattle.std.specs.Prelude.{All}
use Rattle.std.specs.List.{list_all}
use Rattle.std.proofs.lemmas.Bool.{and_parts}
use Rattle.jp_query.specs.declared.Expr.TheOpen.{Expr-F, JoinTree-F}
use Rattle.jp_query.specs.declared.Expr.TheShapes.{former-Expr-Case-0}
use Rattle.jp_query.specs.declared.Expr.TheFolds.{map-Expr, map-JoinTree}
use Rattle.jp_query.specs.Parts.{all_in, term_part, arm_parts, option_part, parts, sublink_query, trees, conditions, leaf_query}
pub use Rattle.jp_induction.specs.Each.{Each}

-- ---- each member of a list

module _ {X : Type 0} where
  pub each_of : (P : X → Type 0) (xs : List X) → All P xs → Each P xs
  each_of P [] h = tt
  each_of P (x ∷ xs) h = (h 0 x (omega arith), each_of P xs (λ k d low. h (suc k) d (omega (arith, low))))

  pub all_of_each : (P : X → Type 0) (xs : List X) → Each P xs → All P xs
  all_of_each P [] h k d low = absurd (omega (arith, low))
  all_of_each P (x ∷ xs) h zero d low = h.0
  all_of_each P (x ∷ xs) h (suc k) d low = all_of_each P xs h.1 k d (omega (arith, low))

  -- what holds of everything
  pub each_anyway : (P : X → Type 0) → ((x : X) → P x) → (xs : List X) → Each P xs
  each_anyway P always [] = tt
  each_anyway P always (x ∷ xs) = (always x, each_anyway P always xs)

  pub each_left : (P : X → Type 0) (xs ys : List X) → Each P (xs ++ ys) → Each P xs
  each_left P [] ys h = tt
  each_left P (x ∷ xs) ys h = (h.0, each_left P xs ys h.1)

  pub each_right : (P : X → Type 0) (xs ys : List X) → Each P (xs ++ ys) → Each P ys
  each_right P [] ys h = h
  each_right P (x ∷ xs) ys h = each_right P xs ys h.1

  pub each_append : (P : X → Type 0) (xs ys : List X) → Each P xs → Each P ys → Each P (xs ++ ys)
  each_append P [] ys a b = b
  each_append P (x ∷ xs) ys a b = (a.0, each_append P xs ys a.1 b)

  pub each_weaker : (P Q : X → Type 0) → ((x : X) → P x → Q x) → (xs : List X) → Each P xs → Each Q xs
  each_weaker P Q w [] h = tt
  each_weaker P Q w (x ∷ xs) h = (w x h.0, each_weaker P Q w xs h.1)

  pub each_both : (P Q R : X → Type 0) → ((x : X) → P x → Q x → R x) → (xs : List X) → Each P xs → Each Q xs → Each R xs
  each_both P Q R w [] a b = tt
  each_both P Q R w (x ∷ xs) a b = (w x a.0 b.0, each_both P Q R w xs a.1 b.1)

  pub each_true : (p : X → Bool) (xs : List X) → list_all p xs ≡ true → Each (λ x. p x ≡ true) xs
  each_true p [] h = tt
  each_true p (x ∷ xs) h = let both = and_parts (p x) (list_all p xs) h in (both.0, each_true p xs both.1)

module _ {X : Type 0} where
  pub each_in_all : (P : X → Type 0) (xss : List (List X)) → Each P (all_in xss) → Each (Each P) xss
  each_in_all P [] h = tt
  each_in_all P (xs ∷ xss) h = (each_left P xs (all_in xss) h, each_in_all P xss (each_right P xs (all_in xss) h))

  pub each_in_parts : (P : X → Type 0) (xss : List (List X)) → Each (Each P) xss → Each P (all_in xss)
  each_in_parts P [] h = tt
  each_in_parts P (xs ∷ xss) h = each_append P xs (all_in xss) h.0 (each_in_parts P xss h.1)

module _ {X Y : Type 0} where
  pub each_mapped : (P : Y → Type 0) (f : X → Y) (xs : List X) → Each P (map f xs) → Each (λ x. P (f x)) xs
  each_mapped P f [] h = tt
  each_mapped P f (x ∷ xs) h = (h.0, each_mapped P f xs h.1)

  pub each_map : (P : Y → Type 0) (f : X → Y) (xs : List X) → Each (λ x. P (f x)) xs → Each P (map f xs)
  each_map P f [] h = tt
  each_map P f (x ∷ xs) h = (h.0, each_map P f xs h.1)

-- ---- the parts of a level whose children are mapped

module _ {A X : Type 0} (f : A → X) where
  terms_map : (terms : List (Bool × A)) → map term_part (map (λ t. (t.0, f t.1)) terms) ≡ map f (map term_part terms)
  terms_map [] = refl
  terms_map (term ∷ terms) = ap (λ xs. f term.1 ∷ xs) (terms_map terms)

  pub arms_map : (arms : List (A × A)) → arm_parts (map (λ a. (f a.0, f a.1)) arms) ≡ map f (arm_parts arms)
  arms_map [] = refl
  arms_map (arm ∷ arms) = ap (λ xs. f arm.0 ∷ f arm.1 ∷ xs) (arms_map arms)

  pub option_maps : (o : Option A) → option_part ((former-Expr-Case-0).map A X f o) ≡ map f (option_part o)
  option_maps None = refl
  option_maps (Some x) = refl

  pub append_map : (xs ys : List A) → map f (xs ++ ys) ≡ map f xs ++ map f ys
  append_map [] ys = refl
  append_map (x ∷ xs) ys = ap (λ zs. f x ∷ zs) (append_map xs ys)

module _ {A B C D F A' B' C' D' F' : Type 0} (a : A → A') (b : B → B') (c : C → C') (d : D → D') (q : F → F') where
  pub parts_map : (x : Expr-F A B C D F) → parts (map-Expr A B C D F A' B' C' D' F' a b c d q x) ≡ map a (parts x)
  parts_map (Expr-F.Col rel col ty nulled) = refl
  parts_map (Expr-F.Lit value ty) = refl
  parts_map (Expr-F.Place inner rels) = refl
  parts_map (Expr-F.Neg operand) = refl
  parts_map (Expr-F.Sum terms) = terms_map a terms
  parts_map (Expr-F.Product factors) = refl
  parts_map (Expr-F.Concat pieces) = refl
  parts_map (Expr-F.Compare op left right) = refl
  parts_map (Expr-F.Between operand low high) = refl
  parts_map (Expr-F.InList operand list) = refl
  parts_map (Expr-F.And members) = refl
  parts_map (Expr-F.Or members) = refl
  parts_map (Expr-F.Not operand) = refl
  parts_map (Expr-F.Test test operand) = refl
  parts_map (Expr-F.Coalesce members) = refl
  parts_map (Expr-F.Case operand arms otherwise) =
      ap (λ xs. xs ++ (arm_parts (map (λ m. (a m.0, a m.1)) arms) ++ option_part ((former-Expr-Case-0).map A A' a otherwise))) (option_maps a operand)
      ∙ ap (λ xs. map a (option_part operand) ++ (xs ++ option_part ((former-Expr-Case-0).map A A' a otherwise))) (arms_map a arms)
      ∙ ap (λ xs. map a (option_part operand) ++ (map a (arm_parts arms) ++ xs)) (option_maps a otherwise)
      ∙ ap (λ xs. map a (option_part operand) ++ xs) (sym (append_map a (arm_parts arms) (option_part otherwise)))
      ∙ sym (append_map a (option_part operand) (arm_parts arms ++ option_part otherwise))
  parts_map (Expr-F.Exists sub query) = refl
  parts_map (Expr-F.InSub sub operand query) = refl

  pub sublink_map : (x : Expr-F A B C D F) → option_part (sublink_query (map-Expr A B C D F A' B' C' D' F' a b c d q x)) ≡ map q (option_part (sublink_query x))
  sublink_map (Expr-F.Exists sub query) = refl
  sublink_map (Expr-F.InSub sub operand query) = refl
  sublink_map x = refl

  pub trees_map : (t : JoinTree-F A B C D F) → trees (map-JoinTree A B C D F A' B' C' D' F' a b c d q t) ≡ map b (trees t)
  trees_map (JoinTree-F.Base rel name table) = refl
  trees_map (JoinTree-F.Sub rel name query) = refl
  trees_map (JoinTree-F.Join kind left right on) = refl
  trees_map (JoinTree-F.From members conds) = refl

  pub conditions_map : (t : JoinTree-F A B C D F) → conditions (map-JoinTree A B C D F A' B' C' D' F' a b c d q t) ≡ map a (conditions t)
  conditions_map (JoinTree-F.Base rel name table) = refl
  conditions_map (JoinTree-F.Sub rel name query) = refl
  conditions_map (JoinTree-F.Join kind left right on) = refl
  conditions_map (JoinTree-F.From members conds) = refl

  pub leaf_map : (t : JoinTree-F A B C D F) → option_part (leaf_query (map-JoinTree A B C D F A' B' C' D' F' a b c d q t)) ≡ map q (option_part (leaf_query t))
  leaf_map (JoinTree-F.Base rel name table) = refl
  leaf_map (JoinTree-F.Sub rel name query) = refl
  leaf_map (JoinTree-F.Join kind left right on) = refl
  leaf_map (JoinTree-F.From members conds) = refl
