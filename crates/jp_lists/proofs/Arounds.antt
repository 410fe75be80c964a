-- Around a block its own relations have no rows; in the environments of its maps they have those of its items.
use Rattle.std.proofs.Common.{◌≡◌, ◌∙◌, ap, sym, subst, refl, ℕ, zero, suc, ◌+◌, ◌<◌, ◌≤◌, inl, inr, List, [], ◌∷◌, length, Some, None, is_some, eq-eqb, arith}
use Rattle.std.specs.Prelude.{slice_get, if◌then◌else◌}
use Rattle.std.specs.Int.{bit_at}
use Rattle.std.specs.List.{flat_map}
use Rattle.std.proofs.lemmas.Bool.{cases_eq, ne_eqb}
use mathlib.Core.Path.{fun_ext}
use Rattle.jp_base.specs.Sets.{Has, Within}
use Rattle.jp_facts.proofs.Members.{In, to_in, from_in, in_map, from_map}
use Rattle.jp_query.specs.Meaning.{Env, cell_in, no_outer_rows, without}
use Rattle.jp_query.specs.Parts.{ColumnRef}
use Rattle.jp_query.specs.Refs.{union}
use Rattle.jp_problem.specs.declared.types.Item.{Item}
use Rattle.jp_problem.specs.Problems.{rels_of_item, problem_rels}
use Rattle.jp_problem.proofs.UnionLaws.{InSome, has_union}
use Rattle.jp_frame.specs.Maps.{Map, at}
use Rattle.jp_framed.specs.Environments.{source_at, row_at, env_from}
use Rattle.jp_framed.proofs.MapRows.{overlaid, left_alone}
use Rattle.jp_induction.proofs.EachPart.{Each, each_append}
use Rattle.jp_laws.specs.SameCells.{IsSameCell, AreTwins}
use Rattle.jp_lists.specs.Lists.{only_rows, around_block}
use Rattle.jp_tree.specs.BlockParts.{HasRelation}
use Rattle.jp_tree.specs.declared.prepared.Block.{Block}

-- ---- lists

pub each_from : {X : Type 0} (P : X → Type 0) (xs : List X) → ((x : X) → In x xs → P x) → Each P xs
each_from P [] w = tt
each_from P (x ∷ xs) w = (w x (inl refl), each_from P xs (λ y h. w y (inr h)))

pub from_each : {X : Type 0} (P : X → Type 0) (x : X) (xs : List X) → Each P xs → In x xs → P x
from_each P x [] h there = absurd there
from_each P x (y ∷ xs) h (inl e) = subst P e h.0
from_each P x (y ∷ xs) h (inr r) = from_each P x xs h.1 r

pub each_flat_map : {X Y : Type 0} (P : X → Type 0) (Q : Y → Type 0) (f : X → List Y) → ((x : X) → P x → Each Q (f x)) → (xs : List X) → Each P xs → Each Q (flat_map f xs)
each_flat_map P Q f w [] h = tt
each_flat_map P Q f w (x ∷ xs) h = each_append Q (f x) (flat_map f xs) (w x h.0) (each_flat_map P Q f w xs h.1)

pub at_in : {X : Type 0} (xs : List X) (k : ℕ) (x : X) → slice_get xs k ≡ Some x → In x xs
at_in [] k x e = cc
at_in (y ∷ xs) zero x e = inl (same y x e)
  where
    same : {X : Type 0} (y x : X) → Some y ≡ Some x → y ≡ x
    same y x e = cc
at_in (y ∷ xs) (suc k) x e = inr (at_in xs k x e)

pub in_range : {X : Type 0} (xs : List X) (k : ℕ) (x : X) → slice_get xs k ≡ Some x → k < length xs
in_range [] k x e = cc
in_range (y ∷ xs) zero x e = omega arith
in_range (y ∷ xs) (suc k) x e = let low = in_range xs k x e in omega (arith, low)

-- what follows at a number from all greater ones below a bound holds at each number
module _ (P : ℕ → Type 0) (bound : ℕ) (step : (i : ℕ) → ((j : ℕ) → i < j → j < bound → P j) → P i) where
  upward : (fuel i : ℕ) → bound ≤ i + fuel → P i
  upward zero i low = step i (λ j more less. absurd (omega (arith, low, more, less)))
  upward (suc fuel) i low = step i (λ j more less. upward fuel j (omega (arith, low, more)))

  pub from_behind : (i : ℕ) → P i
  from_behind i = upward bound i (omega arith)

-- ---- own relations

module _ (block : Block) where
  abbrev pub own_rels : ℕ
  own_rels = union (problem_rels block.problem)

  pub own_relation : (rel : ℕ) → Has own_rels rel → HasRelation block rel
  own_relation rel h =
      let some = (has_union (problem_rels block.problem) rel).0 h in
      let item = from_map rels_of_item some.0 block.problem.items some.1 in
      (item.0, from_in item.0 block.problem.items item.1, subst (λ s. Has s rel) (sym item.2) some.2)

  pub relation_own : (rel : ℕ) → HasRelation block rel → Has own_rels rel
  relation_own rel h = (has_union (problem_rels block.problem) rel).1 (h.0.rels, in_map rels_of_item h.0 block.problem.items (to_in h.0 block.problem.items h.1), h.2)

  pub item_within : (item : Item) → In item block.problem.items → Within item.rels own_rels
  item_within item there i h = (has_union (problem_rels block.problem) i).1 (item.rels, in_map rels_of_item item block.problem.items there, h)

pub gone : (r : ℕ) (x : Env) (i : ℕ) → Has r i → without r x i ≡ None
gone r x i p = ap (λ b. if b then None else x i) (eq-eqb (bit_at r i) 1 p)

pub stays : (r : ℕ) (x : Env) (i : ℕ) → ¬ Has r i → without r x i ≡ x i
stays r x i n = ap (λ b. if b then None else x i) (ne_eqb (bit_at r i) 1 n)

-- relations of no item keep their rows
pub other_rows : (sources : List (List Env)) (m : Map) (outer : Env) (first : ℕ) (rels : List ℕ) (i : ℕ) → ¬ InSome rels i → env_from first rels sources outer m i ≡ outer i
other_rows sources m outer first [] i n = refl
other_rows sources m outer first (r ∷ rels) i n =
    left_alone r (env_from (suc first) rels sources outer m) (row_at (source_at sources first) (at m first)) i (λ p. n (r, inl refl, p))
    ∙ other_rows sources m outer (suc first) rels i (λ h. n (h.0, inr h.1, h.2))

module _ (block : Block) (env other : Env) where
  abbrev around : Env
  around = around_block block env

  abbrev around' : Env
  around' = around_block block other

  pub around_cell : (c : ColumnRef) → (¬ HasRelation block c.relation → IsSameCell env other c) → IsSameCell around around' c
  around_cell c h = elim (cases_eq (bit_at (own_rels block) c.relation) 1) [
    | inl p ↦ ap (λ row. cell_in row c.column) (gone (own_rels block) env c.relation p ∙ sym (gone (own_rels block) other c.relation p))
    | inr n ↦ ap (λ row. cell_in row c.column) (stays (own_rels block) env c.relation n) ∙ h (λ r. n (relation_own block c.relation r)) ∙ sym (ap (λ row. cell_in row c.column) (stays (own_rels block) other c.relation n))
  ]

  pub around_presence : (rel : ℕ) → (¬ HasRelation block rel → is_some (env rel) ≡ is_some (other rel)) → is_some (around rel) ≡ is_some (around' rel)
  around_presence rel h = elim (cases_eq (bit_at (own_rels block) rel) 1) [
    | inl p ↦ ap is_some (gone (own_rels block) env rel p ∙ sym (gone (own_rels block) other rel p))
    | inr n ↦ ap is_some (stays (own_rels block) env rel n) ∙ h (λ r. n (relation_own block rel r)) ∙ sym (ap is_some (stays (own_rels block) other rel n))
  ]

  pub twin_row : (n : ℕ) (x y : Env) → AreTwins n around around' x y → (rel : ℕ) → is_some (around rel) ≡ is_some (around' rel) → is_some (x rel) ≡ is_some (y rel)
  twin_row n x y t rel h = elim (cases_eq (bit_at n rel) 1) [
    | inl p ↦ ap is_some (t.own rel p)
    | inr d ↦ ap is_some (t.others rel d).0 ∙ h ∙ sym (ap is_some (t.others rel d).1)
  ]

  -- twins around the block are the same where they are seen at relations of its own
  pub seen_same : (rels n : ℕ) (x y : Env) → Within rels (own_rels block) → AreTwins n around around' x y → only_rows rels x ≡ only_rows rels y
  seen_same rels n x y within t = fun_ext (λ i. elim (cases_eq (bit_at rels i) 1) [
    | inl p ↦ overlaid rels no_outer_rows x i p ∙ same i (within i p) ∙ sym (overlaid rels no_outer_rows y i p)
    | inr d ↦ left_alone rels no_outer_rows x i d ∙ sym (left_alone rels no_outer_rows y i d)
  ])
    where
      same : (i : ℕ) → Has (own_rels block) i → x i ≡ y i
      same i p = elim (cases_eq (bit_at n i) 1) [
        | inl q ↦ t.own i q
        | inr d ↦ (t.others i d).0 ∙ gone (own_rels block) env i p ∙ sym (gone (own_rels block) other i p) ∙ sym (t.others i d).1
      ]

  module _ (sources : List (List Env)) (m : Map) where
    own_rows : (first : ℕ) (rels : List ℕ) (i : ℕ) → InSome rels i → env_from first rels sources around m i ≡ env_from first rels sources around' m i
    own_rows first [] i h = absurd h.1
    own_rows first (r ∷ rels) i h = elim (cases_eq (bit_at r i) 1) [
      | inl p ↦ overlaid r (env_from (suc first) rels sources around m) (row_at (source_at sources first) (at m first)) i p
          ∙ sym (overlaid r (env_from (suc first) rels sources around' m) (row_at (source_at sources first) (at m first)) i p)
      | inr d ↦ left_alone r (env_from (suc first) rels sources around m) (row_at (source_at sources first) (at m first)) i d
          ∙ own_rows (suc first) rels i (rest r rels i d h)
          ∙ sym (left_alone r (env_from (suc first) rels sources around' m) (row_at (source_at sources first) (at m first)) i d)
    ]
      where
        rest : (r : ℕ) (rels : List ℕ) (i : ℕ) → ¬ Has r i → InSome (r ∷ rels) i → InSome rels i
        rest r rels i d (set, inl e, q) = absurd (d (subst (λ s. Has s i) (sym e) q))
        rest r rels i d (set, inr k, q) = (set, k, q)

    pub maps_twins : AreTwins (own_rels block) around around' (env_from 0 (problem_rels block.problem) sources around m) (env_from 0 (problem_rels block.problem) sources around' m)
    maps_twins = record {
      own = λ i h. own_rows 0 (problem_rels block.problem) i ((has_union (problem_rels block.problem) i).0 h);
      others = λ i n. (other_rows sources m around 0 (problem_rels block.problem) i (λ h. n ((has_union (problem_rels block.problem) i).1 h)), other_rows sources m around' 0 (problem_rels block.problem) i (λ h. n ((has_union (problem_rels block.problem) i).1 h)));
    }
