-- What stands directly at an operator's level, and lists along spans.
use Rattle.std.proofs.Common.{Bool, true, false, ◌≡◌, sym, refl, List, [], ◌∷◌}
use Rattle.std.proofs.lemmas.Bool.{false≢true}
use Rattle.jp_query.specs.declared.Expr.TheOpen.{Expr-F}
use Rattle.jp_query.specs.declared.Expr.TheFolds.{map-Expr}
use Rattle.jp_query.specs.Parts.{option_part, sublink_query, node_column, node_placeholder}
use Rattle.jp_resolution.specs.declared.words.Counts.{Counts}
use Rattle.jp_induction.proofs.EachPart.{Each}
use Rattle.jp_resolved.proofs.Spans.{Along}
use Rattle.jp_resolved.proofs.Made.{is_operator}

abbrev pub is_place : {A B C D F : Type 0} → Expr-F A B C D F → Bool
is_place (Expr-F.Place inner rels) = true
is_place _ = false

pub operator_no_place : {A B C D F : Type 0} (x : Expr-F A B C D F) → is_operator x ≡ true → is_place x ≡ false
operator_no_place (Expr-F.Place inner rels) h = absurd (false≢true h)
operator_no_place _ h = refl

module _ {A B C D F : Type 0} where
  pub no_column : (x : Expr-F A B C D F) → is_operator x ≡ true → node_column x ≡ []
  no_column (Expr-F.Col rel col ty nulled) h = absurd (false≢true h)
  no_column _ h = refl

  pub no_placeholder : (x : Expr-F A B C D F) → is_place x ≡ false → node_placeholder x ≡ []
  no_placeholder (Expr-F.Place inner rels) h = absurd (false≢true (sym h))
  no_placeholder _ h = refl

  pub no_sublink : (x : Expr-F A B C D F) → is_operator x ≡ true → option_part (sublink_query x) ≡ []
  no_sublink (Expr-F.Exists sub query) h = absurd (false≢true h)
  no_sublink (Expr-F.InSub sub operand query) h = absurd (false≢true h)
  no_sublink _ h = refl

module _ {A B C D F A' B' C' D' F' : Type 0} (a : A → A') (b : B → B') (c : C → C') (d : D → D') (q : F → F') where
  pub operator_map : (x : Expr-F A B C D F) → is_operator x ≡ true → is_operator (map-Expr A B C D F A' B' C' D' F' a b c d q x) ≡ true
  operator_map (Expr-F.Col rel col ty nulled) h = absurd (false≢true h)
  operator_map (Expr-F.Place inner rels) h = absurd (false≢true h)
  operator_map (Expr-F.Exists sub query) h = absurd (false≢true h)
  operator_map (Expr-F.InSub sub operand query) h = absurd (false≢true h)
  operator_map _ h = refl

-- what holds of each member whatever its span is
pub along_each : {X : Type 0} (P : X → Type 0) (a b : Counts) (xs : List X) → Along (λ a b x. P x) a b xs → Each P xs
along_each P a b [] along = tt
along_each P a b (x ∷ xs) along = (along.1, along_each P along.0 b xs along.2)
