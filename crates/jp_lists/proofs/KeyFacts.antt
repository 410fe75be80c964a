-- The key of a step: the sides of an equality of its list, each over its own set, and what they look at.
use Rattle.std.proofs.Common.{◌≡◌, ◌∙◌, ap, sym, subst, refl, ℕ, ◌⊎◌, inl, inr, Bool, true, false, ◌&&◌, ◌||◌, List, [], ◌∷◌, Option, Some, None}
use Rattle.std.specs.Prelude.{if◌then◌else◌, is_some}
use Rattle.std.proofs.lemmas.Bool.{and_parts}
use Rattle.jp_base.specs.Sets.{Has}
use Rattle.jp_facts.proofs.Members.{In}
use Rattle.jp_query.specs.declared.CmpOp.TheVariants as cmp
use Rattle.jp_query.specs.declared.Expr.{Expr}
use Rattle.jp_query.specs.declared.Expr.TheOpen.{Expr-F}
use Rattle.jp_query.specs.Layers.{ExprLayer}
use Rattle.jp_query.specs.Meaning.{Row, Env, cell_in, value_given}
use Rattle.jp_query.specs.Outermost.{outermost}
use Rattle.jp_query.specs.Parts.{columns_in, node_placeholder, parts}
use Rattle.jp_query.specs.Refs.{refs_of}
use Rattle.jp_query.specs.Typing.{IsTypedExpr}
use Rattle.jp_problem.specs.Blocks.{used, items_with}
use Rattle.jp_problem.specs.Equalities.{Sides, sides_of, equals, has_sublink}
use Rattle.jp_problem.specs.Keys.{is_over, key_of_sides, key_in, or_key, first_key}
use Rattle.jp_problem.proofs.SublinkLaws.{in-Compare}
use Rattle.jp_conditions.proofs.Equal.{equality_is}
use Rattle.jp_frame.specs.Maps.{Map, Agree}
use Rattle.jp_framed.specs.Environments.{Setting, Sublinks, env_from}
use Rattle.jp_framed.proofs.MapRows.{agreeing}
use Rattle.jp_induction.proofs.EachPart.{Each, each_weaker, each_anyway, each_both}
use Rattle.jp_induction.proofs.Induction.{expr_alone}
use Rattle.jp_joins.proofs.PlainFacts.{plain_value}
use Rattle.jp_laws.specs.Referred.{placeholders_in, IsReferred, AreReferred}
use Rattle.jp_laws.specs.SameCells.{IsSameCell, IsSamePresence}
use Rattle.jp_laws.proofs.GatheredLaws.{columns_referred, places_referred}
use Rattle.jp_laws.proofs.GatheredParts.{expr_has, node_level}
use Rattle.jp_laws.proofs.OwnColumns.{own_of_all}
use Rattle.jp_lists.proofs.GivenCells.{places_from, value_by_sight}
use Rattle.jp_lists.specs.Seen.{HasSameRows}
use Rattle.jp_tree.specs.BlockParts.{own_placeholders}

-- ---- where the key comes from

module _ (rels : List ℕ) (left right : ℕ) where
  pub record IsKeyOf (es : List Expr) (sides : Sides) : Type 0 where
    pub first_plain : has_sublink sides.first ≡ false
    pub second_plain : has_sublink sides.second ≡ false
    pub equality : In (equals sides.first sides.second) es ⊎ In (equals sides.second sides.first) es
    pub first_over : is_over rels left sides.first ≡ true
    pub second_over : is_over rels right sides.second ≡ true

  same_sides : (a b : Sides) → Some a ≡ Some b → a ≡ b
  same_sides a b e = cc

  neither : (a b : Bool) → (a || b) ≡ false → (a ≡ false) × (b ≡ false)
  neither true b e = absurd (cc)
  neither false b e = (refl, e)

  plain_sides : (e : Expr) (o : Sides) → sides_of e ≡ Some o → has_sublink e ≡ false → (has_sublink o.first ≡ false) × (has_sublink o.second ≡ false)
  plain_sides e o found none = neither (has_sublink o.first) (has_sublink o.second) (sym (in-Compare cmp.Eq o.first o.second) ∙ ap has_sublink (equality_is e o found) ∙ none)

  module _ (e : Expr) (es : List Expr) (sides : Sides) where
    straight : (o : Sides) → sides_of e ≡ Some o → has_sublink e ≡ false → is_over rels left o.first ≡ true → is_over rels right o.second ≡ true → o ≡ sides → IsKeyOf (e ∷ es) sides
    straight o found none p q same = subst (IsKeyOf (e ∷ es)) same (record { first_plain = (plain_sides e o found none).0; second_plain = (plain_sides e o found none).1; equality = inl (inl (sym (equality_is e o found))); first_over = p; second_over = q })

    turned : (o : Sides) → sides_of e ≡ Some o → has_sublink e ≡ false → is_over rels left o.second ≡ true → is_over rels right o.first ≡ true → record { first = o.second; second = o.first } ≡ sides → IsKeyOf (e ∷ es) sides
    turned o found none p q same = subst (IsKeyOf (e ∷ es)) same (record { first_plain = (plain_sides e o found none).1; second_plain = (plain_sides e o found none).0; equality = inr (inl (sym (equality_is e o found))); first_over = p; second_over = q })

    by_turn : (o : Sides) → sides_of e ≡ Some o → has_sublink e ≡ false → (b : Bool) → (is_over rels left o.second && is_over rels right o.first) ≡ b → (if b then Some (record { first = o.second; second = o.first }) else None) ≡ Some sides → IsKeyOf (e ∷ es) sides
    by_turn o found none true is same = let over = and_parts (is_over rels left o.second) (is_over rels right o.first) is in turned o found none over.0 over.1 (same_sides (record { first = o.second; second = o.first }) sides same)
    by_turn o found none false is same = cc

    by_order : (o : Sides) → sides_of e ≡ Some o → has_sublink e ≡ false → (b : Bool) → (is_over rels left o.first && is_over rels right o.second) ≡ b
        → (if b then Some o else (if is_over rels left o.second && is_over rels right o.first then Some (record { first = o.second; second = o.first }) else None)) ≡ Some sides → IsKeyOf (e ∷ es) sides
    by_order o found none true is same = let over = and_parts (is_over rels left o.first) (is_over rels right o.second) is in straight o found none over.0 over.1 (same_sides o sides same)
    by_order o found none false is same = by_turn o found none (is_over rels left o.second && is_over rels right o.first) refl same

    by_sides : (o : Option Sides) → sides_of e ≡ o → has_sublink e ≡ false → key_of_sides rels left right o ≡ Some sides → IsKeyOf (e ∷ es) sides
    by_sides None found none same = cc
    by_sides (Some o) found none same = by_order o found none (is_over rels left o.first && is_over rels right o.second) refl same

    by_sublink : (b : Bool) → has_sublink e ≡ b → (if b then None else key_of_sides rels left right (sides_of e)) ≡ Some sides → IsKeyOf (e ∷ es) sides
    by_sublink true is same = cc
    by_sublink false is same = by_sides (sides_of e) refl is same

    later : IsKeyOf es sides → IsKeyOf (e ∷ es) sides
    later k = record { first_plain = k.first_plain; second_plain = k.second_plain; equality = elim k.equality [ inl h ↦ inl (inr h) | inr h ↦ inr (inr h) ]; first_over = k.first_over; second_over = k.second_over }

    by_first : (o : Option Sides) → key_in rels left right e ≡ o → or_key o (first_key rels left right es) ≡ Some sides → (first_key rels left right es ≡ Some sides → IsKeyOf es sides) → IsKeyOf (e ∷ es) sides
    by_first (Some o) is same more = by_sublink (has_sublink e) refl (is ∙ same)
    by_first None is same more = later (more same)

  pub found_key : (es : List Expr) (sides : Sides) → first_key rels left right es ≡ Some sides → IsKeyOf es sides
  found_key [] sides e = cc
  found_key (e ∷ es) sides same = by_first e es sides (key_in rels left right e) refl same (found_key es sides)

-- ---- placeholders outside sublinks are among all

places_of_all : (P : ℕ → Type 0) (x : Expr) → Each P (placeholders_in x) → Each P (own_placeholders x)
places_of_all P = expr_alone (λ x. Each P (placeholders_in x) → Each P (own_placeholders x)) (λ x each h.
    let has = expr_has ℕ node_placeholder P x h in
    places_from P x (node_placed x has.node) (each_both (λ e. Each P (placeholders_in e) → Each P (own_placeholders e)) (λ e. Each P (placeholders_in e)) (λ e. Each P (own_placeholders e)) (λ e f g. f g) (parts x) each has.exprs))
  where
    node_placed : (x : ExprLayer) → Each P (node_placeholder (node_level ℕ node_placeholder x)) → Each P (node_placeholder x)
    node_placed (Expr-F.Place inner rels) h = h
    node_placed x h = tt

-- ---- a side has one value at two maps that have the same rows of its items

module _ (rels : List ℕ) (sources : List (List Env)) (outer : Env) where
  setting : Setting
  setting = record { sources = sources; sublinks = Sublinks.given (λ sub. []); outer = outer }

  same_row : (refs : ℕ) (m n : Map) → Agree (items_with rels refs) m n → (rel : ℕ) → Has refs rel → env_from 0 rels sources outer m rel ≡ env_from 0 rels sources outer n rel
  unfolding setting
  same_row refs m n agree rel h = agreeing rels setting refs m n agree rel h

  pub side_value : (e : Expr) → IsTypedExpr e → has_sublink e ≡ false → (m n : Map) → Agree (used rels e) m n → (rows others : ℕ → List Row)
      → value_given rows e (env_from 0 rels sources outer m) ≡ value_given others e (env_from 0 rels sources outer n)
  side_value e typed plain m n agree rows others =
      let env = env_from 0 rels sources outer m in
      let other = env_from 0 rels sources outer n in
      plain_value rows others e env plain
      ∙ value_by_sight others others env other e (record {
        cells = own_of_all (IsSameCell env other) e (each_weaker (IsReferred (refs_of e)) (IsSameCell env other) (λ c r. ap (λ row. cell_in row c.column) (same_row (refs_of e) m n agree c.relation r.1)) (columns_in e) (columns_referred e typed));
        presence = places_of_all (IsSamePresence env other) e (each_weaker (AreReferred (refs_of e)) (IsSamePresence env other) (λ ps r i low h. ap is_some (same_row (refs_of e) m n agree i (r.1 i h))) (placeholders_in e) (places_referred e typed));
        lists = each_anyway (HasSameRows others others) (λ s. refl) (outermost e);
      })
