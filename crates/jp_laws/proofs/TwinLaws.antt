-- Twins are kept where rows are put together or taken away, and a column has one cell in both where it has in their
-- environments.
use Rattle.std.proofs.Common.{◌≡◌, ◌∙◌, ap, sym, refl, ℕ, zero, suc, ◌+◌, ◌^◌, ◌<◌, ◌≤◌, inl, inr, Bool, ◌&&◌, ◌||◌, Some, None, is_some, arith, eq-eqb}
use Rattle.std.specs.Prelude.{bit_or, if◌then◌else◌}
use Rattle.std.specs.Int.{bit_at}
use Rattle.std.specs.List.{list_any, range_with_len}
use Rattle.std.proofs.lemmas.Bool.{cases_eq}
use Rattle.std.proofs.lemmas.Nat.Bits.{bit_at-pow_same, bit_at-pow_other}
use Rattle.jp_base.specs.Sets.{Has}
use Rattle.jp_base.proofs.SetLemmas.{has_or, empty_zero}
use Rattle.jp_query.specs.Refs.{only}
use Rattle.jp_query.specs.Meaning.{Row, Env, cell_in, has, is_present, any_present, with_row, with_rows, without}
use Rattle.jp_query.specs.Parts.{ColumnRef}
use Rattle.jp_laws.specs.SameCells.{IsSameCell, IsSamePresence, AreTwins}
use Rattle.std.proofs.lemmas.Bool.{ne_eqb}
use Rattle.jp_base.proofs.MaskAlgebra.{left_only}
use Rattle.jp_induction.proofs.Between.{Kept}

-- ---- rows of a set

in_set : (r : ℕ) (x u : Env) (i : ℕ) → Has r i → with_rows r x u i ≡ u i
in_set r x u i p = ap (λ b. if b then u i else x i) (eq-eqb (bit_at r i) 1 p)

not_in_set : (r : ℕ) (x u : Env) (i : ℕ) → ¬ Has r i → with_rows r x u i ≡ x i
not_in_set r x u i n = ap (λ b. if b then u i else x i) (ne_eqb (bit_at r i) 1 n)

gone : (r : ℕ) (x : Env) (i : ℕ) → Has r i → without r x i ≡ None
gone r x i p = ap (λ b. if b then None else x i) (eq-eqb (bit_at r i) 1 p)

stays : (r : ℕ) (x : Env) (i : ℕ) → ¬ Has r i → without r x i ≡ x i
stays r x i n = ap (λ b. if b then None else x i) (ne_eqb (bit_at r i) 1 n)

module _ (env other : Env) where
  abbrev Twins : ℕ → Env → Env → Type 0
  Twins n = AreTwins n env other

  pair : (l r : ℕ) (x y u v : Env) → Twins l x y → Twins r u v → Twins (bit_or l r) (with_rows r x u) (with_rows r y v)
  pair l r x y u v a b = record { own = own; others = others }
    where
      own : (i : ℕ) → Has (bit_or l r) i → with_rows r x u i ≡ with_rows r y v i
      own i h = elim (cases_eq (bit_at r i) 1) [
        | inl p ↦ in_set r x u i p ∙ b.own i p ∙ sym (in_set r y v i p)
        | inr n ↦ not_in_set r x u i n ∙ a.own i (left_only l r i h n) ∙ sym (not_in_set r y v i n)
      ]

      others : (i : ℕ) → ¬ Has (bit_or l r) i → (with_rows r x u i ≡ env i) × (with_rows r y v i ≡ other i)
      others i h =
          let right : ¬ Has r i = λ p. h ((has_or l r i).1 (inr p)) in
          let left = a.others i (λ p. h ((has_or l r i).1 (inl p))) in
          (not_in_set r x u i right ∙ left.0, not_in_set r y v i right ∙ left.1)

  alone : (l r : ℕ) (x y : Env) → Twins l x y → Twins (bit_or l r) (without r x) (without r y)
  alone l r x y a = record { own = own; others = others }
    where
      own : (i : ℕ) → Has (bit_or l r) i → without r x i ≡ without r y i
      own i h = elim (cases_eq (bit_at r i) 1) [
        | inl p ↦ gone r x i p ∙ sym (gone r y i p)
        | inr n ↦ stays r x i n ∙ a.own i (left_only l r i h n) ∙ sym (stays r y i n)
      ]

      others : (i : ℕ) → ¬ Has (bit_or l r) i → (without r x i ≡ env i) × (without r y i ≡ other i)
      others i h =
          let right : ¬ Has r i = λ p. h ((has_or l r i).1 (inr p)) in
          let left = a.others i (λ p. h ((has_or l r i).1 (inl p))) in
          (stays r x i right ∙ left.0, stays r y i right ∙ left.1)

  pub twins_kept : Kept Twins
  twins_kept = record { pair = pair; alone = alone }

  pub twins_start : Twins 0 env other
  twins_start = record { own = λ i h. absurd (empty_zero 0 refl i h); others = λ i n. (refl, refl) }

  pub twins_leaf : (rel : ℕ) (row : Row) → Twins (only rel) (with_row env rel row) (with_row other rel row)
  twins_leaf rel row = record { own = own; others = others }
    where
      own : (i : ℕ) → Has (only rel) i → with_row env rel row i ≡ with_row other rel row i
      own i h = elim (cases_eq i rel) [
        | inl e ↦ ap (λ b. if b then Some row else env i) (eq-eqb i rel e) ∙ sym (ap (λ b. if b then Some row else other i) (eq-eqb i rel e))
        | inr n ↦ absurd (omega (arith, bit_at-pow_other rel i n, h))
      ]

      others : (i : ℕ) → ¬ Has (only rel) i → (with_row env rel row i ≡ env i) × (with_row other rel row i ≡ other i)
      others i n =
          let apart : ¬ (i ≡ rel) = λ e. n (ap (λ k. bit_at (2 ^ rel) k) e ∙ bit_at-pow_same rel) in
          (ap (λ b. if b then Some row else env i) (ne_eqb i rel apart), ap (λ b. if b then Some row else other i) (ne_eqb i rel apart))

  -- ---- cells

  pub twin_cell : (n : ℕ) (u v : Env) → Twins n u v → (c : ColumnRef) → IsSameCell env other c → IsSameCell u v c
  twin_cell n u v t c h = elim (cases_eq (bit_at n c.relation) 1) [
    | inl p ↦ ap (λ r. cell_in r c.column) (t.own c.relation p)
    | inr d ↦ ap (λ r. cell_in r c.column) (t.others c.relation d).0 ∙ h ∙ sym (ap (λ r. cell_in r c.column) (t.others c.relation d).1)
  ]

  pub twin_presence : (n : ℕ) (u v : Env) → Twins n u v → (rels : ℕ) → IsSamePresence env other rels → IsSamePresence u v rels
  twin_presence n u v t rels h i low m = elim (cases_eq (bit_at n i) 1) [
    | inl p ↦ ap is_some (t.own i p)
    | inr d ↦ ap is_some (t.others i d).0 ∙ h i low m ∙ sym (ap is_some (t.others i d).1)
  ]

-- ---- placeholders

some_below : (p q : ℕ → Bool) (n : ℕ) → ((i : ℕ) → i < n → p i ≡ q i) → (start len : ℕ) → start + len ≤ n → list_any p (range_with_len start len) ≡ list_any q (range_with_len start len)
some_below p q n h start zero low = refl
some_below p q n h start (suc len) low = λ i. h start (omega (arith, low)) i || some_below p q n h (start + 1) len (omega (arith, low)) i

present_same : (u v : Env) (rels i : ℕ) → i < 64 → IsSamePresence u v rels → is_present rels u i ≡ is_present rels v i
present_same u v rels i low h = elim (cases_eq (bit_at rels i) 1) [
  | inl p ↦ ap (λ b. has rels i && b) (h i low p)
  | inr d ↦ ap (λ b. b && is_some (u i)) (ne_eqb (bit_at rels i) 1 d) ∙ sym (ap (λ b. b && is_some (v i)) (ne_eqb (bit_at rels i) 1 d))
]

pub any_same : (u v : Env) (rels : ℕ) → IsSamePresence u v rels → any_present rels u ≡ any_present rels v
unfolding any_present
any_same u v rels h = some_below (is_present rels u) (is_present rels v) 64 (λ i low. present_same u v rels i low h) 0 64 (omega arith)
