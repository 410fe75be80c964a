-- Finds in lists that are joined, and in levels one behind the other.
use Rattle.std.proofs.Common.{◌≡◌, ◌∙◌, ap, sym, refl, ℕ, List, [], ◌∷◌, ◌++◌}
use Rattle.std.proofs.lemmas.List.Elements.{filter-append}
use Rattle.jp_resolution.specs.declared.words.Entry.{Entry}
use Rattle.jp_resolution.specs.Names.{VisibleColumn, entry_columns, columns_of, is_called, called, or_outer, the_only}
use Rattle.jp_resolve_parts.specs.declared.lookups.Found.{Found}
use Rattle.jp_resolve_parts.specs.declared.lookups.Found.TheVariants as found
use Rattle.jp_resolve_parts.specs.Finds.{found_of, together, or_else, the_find, found_map}

module _ {A : Type 0} where
  pub nothing_behind : (f : Found A) → together f found.Nothing ≡ f
  nothing_behind found.Nothing = refl
  nothing_behind (found.One x) = refl
  nothing_behind found.Several = refl

  pub together_assoc : (f g h : Found A) → together (together f g) h ≡ together f (together g h)
  together_assoc found.Nothing g h = refl
  together_assoc (found.One x) found.Nothing h = refl
  together_assoc (found.One x) (found.One y) found.Nothing = refl
  together_assoc (found.One x) (found.One y) (found.One z) = refl
  together_assoc (found.One x) (found.One y) found.Several = refl
  together_assoc (found.One x) found.Several h = refl
  together_assoc found.Several g h = refl

  pub found_joined : (xs ys : List A) → found_of (xs ++ ys) ≡ together (found_of xs) (found_of ys)
  found_joined [] ys = refl
  found_joined (x ∷ []) [] = refl
  found_joined (x ∷ []) (y ∷ []) = refl
  found_joined (x ∷ []) (y ∷ z ∷ ys) = refl
  found_joined (x ∷ x' ∷ xs) ys = refl

  pub found_outer : (xs ys : List A) → found_of (or_outer xs ys) ≡ or_else (found_of xs) (found_of ys)
  found_outer [] ys = refl
  found_outer (x ∷ []) ys = refl
  found_outer (x ∷ x' ∷ xs) ys = refl

pub mapped_together : {A B : Type 0} (f : A → B) (g h : Found A) → found_map f (together g h) ≡ together (found_map f g) (found_map f h)
mapped_together f found.Nothing h = refl
mapped_together f (found.One x) found.Nothing = refl
mapped_together f (found.One x) (found.One y) = refl
mapped_together f (found.One x) found.Several = refl
mapped_together f found.Several h = refl

pub only_is : (at : ℕ) (xs : List VisibleColumn) → the_find at (found_of xs) ≡ the_only at xs
only_is at [] = refl
only_is at (x ∷ []) = refl
only_is at (x ∷ y ∷ xs) = refl

-- one more column, and the columns of one more entry
pub one_more : (name : List ℕ) (f : Found VisibleColumn) (c : VisibleColumn) (cs : List VisibleColumn) → together (together f (found_of (called name (c ∷ [])))) (found_of (called name cs)) ≡ together f (found_of (called name (c ∷ cs)))
one_more name f c cs =
    together_assoc f (found_of (called name (c ∷ []))) (found_of (called name cs))
    ∙ ap (together f) (sym (found_joined (called name (c ∷ [])) (called name cs)) ∙ ap found_of (sym (filter-append (is_called name) (c ∷ []) cs)))

pub entry_more : (name : List ℕ) (f : Found VisibleColumn) (e : Entry) (es : List Entry) → together (together f (found_of (called name (entry_columns e)))) (found_of (called name (columns_of es))) ≡ together f (found_of (called name (columns_of (e ∷ es))))
entry_more name f e es =
    together_assoc f (found_of (called name (entry_columns e))) (found_of (called name (columns_of es)))
    ∙ ap (together f) (sym (found_joined (called name (entry_columns e)) (called name (columns_of es))) ∙ ap found_of (sym (filter-append (is_called name) (entry_columns e) (columns_of es))))

pub ruleset find_laws = (nothing_behind, mapped_together, only_is, one_more, entry_more, found_outer)
