-- What the tuples of a Full join stand for.
use Rattle.std.proofs.Common.{◌≡◌, ◌∙◌, ap, ap₂, sym, subst, subst₂, refl, ℕ, zero, suc, ◌+◌, inl, inr, Bool, true, false, not, ◌||◌, ◌&&◌, cond, List, [], ◌∷◌, ◌++◌, map, filter, length, Option, Some, None, arith}
use Rattle.std.specs.Prelude.{All, IsTrue, Result, Vec, slice_get, slice_index_or, if◌then◌else◌}
use Rattle.std.specs.declared.alloc.Global.{Global}
use Rattle.std.specs.Int.{bit_at}
use Rattle.std.specs.List.{flat_map, list_any}
use Rattle.std.proofs.lemmas.Bool.{cases_eq}
use Rattle.std.proofs.lemmas.List.{map-append}
use mathlib.Core.Path.{fun_ext}
use Rattle.jp_base.specs.declared.memory.Memory.{Memory}
use Rattle.jp_query.specs.declared.Expr.{Expr}
use Rattle.jp_query.specs.declared.JoinKind.{JoinKind}
use Rattle.jp_query.specs.declared.JoinKind.TheVariants as join
use Rattle.jp_query.specs.Meaning.{Row, Env, ValueIn, has, holds, is_match_of, is_true_at, is_unmatched, join_tuples, left_join, no_outer_rows, or_else, pairs, value_given, with_rows, without}
use Rattle.jp_query.specs.Outermost.{Outer, outermost}
use Rattle.jp_problem.specs.declared.types.Step.TheVariants as step
use Rattle.jp_frame.specs.Maps.{Map, at, both}
use Rattle.jp_frame.specs.Methods.{is_matched, left_rows, matches, once_where, one_row, rows_of_item}
use Rattle.jp_framed.specs.Environments.{env_from, row_at, source_at}
use Rattle.jp_framed.proofs.MapRows.{overlaid, left_alone}
use Rattle.jp_induction.proofs.EachPart.{Each, each_of, all_of_each}
use Rattle.jp_joins.specs.Conditions.{AreApart, CanEvaluateAt, CanJoin, CanTest}
use Rattle.jp_joins.specs.Meant.{GivesRows, Meant, is_match, left_gives, list_holds, plain_list}
use Rattle.jp_lists.specs.Asked.{HasRowsAlike}
use Rattle.jp_lists.specs.Lists.{listed_value, only_rows, sublink_rows}
use Rattle.jp_lists.specs.Seen.{HasSameRows}
use Rattle.jp_lists.proofs.AskedLaws.{asked_conditions, asked_evaluated}
use Rattle.jp_lists.proofs.CellFacts.{each_at}
use Rattle.jp_joins.specs.declared.tuples.Tuple.{Tuple}
use Rattle.jp_items.specs.Scenes.{GivesScene, is_listed, listing_in, rows_known, rows_listed}
use Rattle.jp_items.specs.Sights.{env_around, sight_env, sources_in}
use Rattle.jp_items.specs.declared.scene.Scene.{Scene}
use Rattle.jp_fulls.specs.Fulls.{IsAround, IsFullScene, alone_maps, full_envs, full_step, matched_maps, side_maps}

-- ---- maps that stand for environments

abbrev AreFor : (Map → Env → Type 0) → List Map → List Env → Type 0
AreFor P [] [] = Unit {0}
AreFor P (m ∷ ms) (x ∷ xs) = P m x × AreFor P ms xs
AreFor P [] (x ∷ xs) = ⊥
AreFor P (m ∷ ms) [] = ⊥

module _ (env : Map → Env) (test : Map → Bool) (on : List ValueIn) (is : (m : Map) → test m ≡ holds on (env m)) (l r : ℕ) (IsLeft IsRight : Map → Env → Type 0)
    (pair : (a b : Map) (x y : Env) → IsLeft a x → IsRight b y → env (both a b) ≡ with_rows r x y)
    (turned : (a b : Map) (x y : Env) → IsLeft a x → IsRight b y → env (both b a) ≡ with_rows r x y)
    (alone : (a : Map) (x : Env) → IsLeft a x → env a ≡ without r x)
    (unmatched : (b : Map) (y : Env) → IsRight b y → without l (env b) ≡ without l y) where
  mapped : (c : Bool) (m : Map) (ms : List Map) → map env (cond c (m ∷ ms) ms) ≡ cond c (env m ∷ map env ms) (map env ms)
  mapped true m ms = refl
  mapped false m ms = refl

  pairs_are : (a : Map) (x : Env) → IsLeft a x → (bs : List Map) (ys : List Env) → AreFor IsRight bs ys → map env (matches test bs a) ≡ pairs on r ys x
  pairs_are a x h [] [] w = refl
  pairs_are a x h [] (y ∷ ys) w = absurd w
  pairs_are a x h (b ∷ bs) [] w = absurd w
  pairs_are a x h (b ∷ bs) (y ∷ ys) w =
      mapped (test (both a b)) (both a b) (matches test bs a)
      ∙ ap₂ (λ c rest. cond c (env (both a b) ∷ rest) rest) (is (both a b)) (pairs_are a x h bs ys w.1)
      ∙ ap (λ e. cond (holds on e) (e ∷ pairs on r ys x) (pairs on r ys x)) (pair a b x y h w.0)

  or_alone : (a : Map) (ms : List Map) → map env (left_rows a ms) ≡ or_else (map env ms) (env a)
  or_alone a [] = refl
  or_alone a (m ∷ ms) = refl

  module _ (bs : List Map) (ys : List Env) (rights : AreFor IsRight bs ys) where
    pub lefts_are : (ls : List Map) (xs : List Env) → AreFor IsLeft ls xs → map env (flat_map (left_gives join.Left test bs) ls) ≡ left_join on r xs ys
    lefts_are [] [] w = refl
    lefts_are [] (x ∷ xs) w = absurd w
    lefts_are (a ∷ ls) [] w = absurd w
    lefts_are (a ∷ ls) (x ∷ xs) w =
        map-append env (left_rows a (matches test bs a)) (flat_map (left_gives join.Left test bs) ls)
        ∙ ap₂ ◌++◌ (or_alone a (matches test bs a) ∙ ap₂ or_else (pairs_are a x w.0 bs ys rights) (alone a x w.0)) (lefts_are ls xs w.1)

  module _ (ls : List Map) (xs : List Env) (lefts : AreFor IsLeft ls xs) where
    matched : (b : Map) (y : Env) → IsRight b y → (ls : List Map) (xs : List Env) → AreFor IsLeft ls xs → is_matched test ls b ≡ list_any (is_match_of on r y) xs
    matched b y h [] [] w = refl
    matched b y h [] (x ∷ xs) w = absurd w
    matched b y h (a ∷ ls) [] w = absurd w
    matched b y h (a ∷ ls) (x ∷ xs) w = ap₂ ◌||◌ (is (both b a) ∙ ap (holds on) (turned a b x y w.0 h)) (matched b y h ls xs w.1)

    once : (c : Bool) (b : Map) (ms : List Map) → map (without l) (map env (once_where c b ++ ms)) ≡ cond c (without l (env b) ∷ map (without l) (map env ms)) (map (without l) (map env ms))
    once true b ms = refl
    once false b ms = refl

    kept : (c : Bool) (y : Env) (ys : List Env) → map (without l) (cond c (y ∷ ys) ys) ≡ cond c (without l y ∷ map (without l) ys) (map (without l) ys)
    kept true y ys = refl
    kept false y ys = refl

    pub rights_are : (bs : List Map) (ys : List Env) → AreFor IsRight bs ys → map (without l) (map env (flat_map (left_gives join.Anti test ls) bs)) ≡ map (without l) (filter (is_unmatched on r xs) ys)
    rights_are [] [] w = refl
    rights_are [] (y ∷ ys) w = absurd w
    rights_are (b ∷ bs) [] w = absurd w
    rights_are (b ∷ bs) (y ∷ ys) w =
        once (not (is_matched test ls b)) b (flat_map (left_gives join.Anti test ls) bs)
        ∙ ap₂ (λ c (rest : List Env). cond c (without l (env b) ∷ rest) rest) (ap not (matched b y w.0 ls xs lefts)) (rights_are bs ys w.1)
        ∙ ap (λ (e : Env). cond (is_unmatched on r xs y) (e ∷ map (without l) (filter (is_unmatched on r xs) ys)) (map (without l) (filter (is_unmatched on r xs) ys))) (unmatched b y w.0)
        ∙ sym (kept (is_unmatched on r xs y) y (filter (is_unmatched on r xs) ys))

-- ---- the maps of a side

rows_are : (side : ℕ) (P : Map → Env → Type 0) (xs : List Env) (k : ℕ) → ((i : ℕ) (x : Env) → slice_get xs i ≡ Some x → P (one_row 2 side (k + i)) x) → AreFor P (rows_of_item 2 side k (length xs)) xs
rows_are side P [] k h = tt
rows_are side P (x ∷ xs) k h = (
  subst (λ j. P (one_row 2 side j) x) (omega arith) (h 0 x refl),
  rows_are side P xs (suc k) (λ i y e. subst (λ j. P (one_row 2 side j) y) (omega arith) (h (suc i) y e)),
)

at_mapped : (f : Env → Env) (xs : List Env) (i : ℕ) (x d : Env) → slice_get xs i ≡ Some x → slice_index_or (map f xs) i d ≡ f x
at_mapped f [] i x d e = cc
at_mapped f (y ∷ xs) zero x d e = ap f (same y x e)
  where
    same : (y x : Env) → Some y ≡ Some x → y ≡ x
    same y x e = cc
at_mapped f (y ∷ xs) (suc i) x d e = at_mapped f xs i x d e

counted : (f : Env → Env) (xs : List Env) → length (map f xs) ≡ length xs
counted f [] = refl
counted f (x ∷ xs) = ap suc (counted f xs)

-- ---- rows of a side inside what stands around

back : (rels : ℕ) (around x : Env) → IsAround around rels x → with_rows rels around (only_rows rels x) ≡ x
back rels around x h = fun_ext (λ rel. elim (cases_eq (bit_at rels rel) 1) [
  | inl p ↦ overlaid rels around (only_rows rels x) rel p ∙ overlaid rels no_outer_rows x rel p
  | inr n ↦ left_alone rels around (only_rows rels x) rel n ∙ sym (h rel n)
])

seen : (rels : ℕ) (x y : Env) → with_rows rels x (only_rows rels y) ≡ with_rows rels x y
seen rels x y = fun_ext (λ rel. twice (has rels rel) (y rel) (x rel))
  where
    twice : (b : Bool) (o p : Option Row) → (if b then (if b then o else None) else p) ≡ (if b then o else p)
    twice true o p = refl
    twice false o p = refl

abbrev absent_if : Bool → Option Row → Option Row
absent_if b o = if b then None else o

absent_twice : (b : Bool) (o : Option Row) → absent_if b (absent_if b o) ≡ absent_if b o
absent_twice true o = refl
absent_twice false o = refl

hidden : (l r : ℕ) (around y : Env) → IsAround around r y → without l (with_rows r (with_rows l around no_outer_rows) y) ≡ without l y
hidden l r around y h = fun_ext (λ rel. elim (cases_eq (bit_at r rel) 1) [
  | inl p ↦ ap (absent_if (has l rel)) (overlaid r (with_rows l around no_outer_rows) y rel p)
  | inr n ↦ ap (absent_if (has l rel)) (left_alone r (with_rows l around no_outer_rows) y rel n) ∙ absent_twice (has l rel) (around rel) ∙ ap (absent_if (has l rel)) (sym (h rel n))
])

-- ---- the scene

module _ (scene : Scene) (on : List Expr) (full : IsFullScene scene on) where
  known : (m : Map) (sublink : Outer) → IsTrue (is_listed scene.sublinks.now sublink.number) → HasSameRows (rows_known scene m) (rows_listed scene m) sublink
  known m sublink h = ap (λ (b : Bool). if b then rows_listed scene m sublink.number else []) h

  alike : (m : Map) → All (HasRowsAlike (rows_known scene m) (rows_listed scene m)) on
  alike m k d low j e lower = known m (slice_index_or (outermost (slice_index_or on k d)) j e) (full.sublinks k d low j e lower)

  -- ---- it can be tested

  module _ (kind : JoinKind) where
    none_of : (P : Expr → Type 0) → All P []
    none_of P k d low = absurd (omega (arith, low))

    tested : (m : Map) → CanTest (full_step scene kind on) m
    tested m = record {
      key = none_of (CanEvaluateAt (full_step scene kind on) m);
      on = λ k d low. asked_evaluated (rows_known scene m) (rows_listed scene m) (slice_index_or on k d) (sight_env scene.sight m) (alike m k d low) (full.evaluated m k d low);
      filters = none_of (CanEvaluateAt (full_step scene kind on) m);
    }

    rows_each : (side : ℕ) (P : Map → Type 0) → ((r : ℕ) → P (one_row 2 side r)) → (k n : ℕ) → Each P (rows_of_item 2 side k n)
    rows_each side P always k zero = tt
    rows_each side P always k (suc n) = (always k, rows_each side P always (suc k) n)

    all_rows : (side : ℕ) (P : Map → Type 0) → ((r : ℕ) → P (one_row 2 side r)) → (n : ℕ) → All P (rows_of_item 2 side 0 n)
    all_rows side P always n = all_of_each P (rows_of_item 2 side 0 n) (rows_each side P always 0 n)

    wide : (side r : ℕ) → length (one_row 2 side r) ≡ 2
    wide zero r = refl
    wide (suc zero) r = refl
    wide (suc (suc side)) r = refl

    no_row : (i r : ℕ) → at [] i ≡ Some r → ⊥
    no_row zero r e = cc
    no_row (suc i) r e = cc

    absent : (r : ℕ) → None ≡ Some r → ⊥
    absent r e = cc

    right_left : (j k : ℕ) → AreApart (one_row 2 0 j) (one_row 2 1 k)
    right_left j k zero r s e f = absent s f
    right_left j k (suc zero) r s e f = absent r e
    right_left j k (suc (suc i)) r s e f = no_row i r e

    left_right : (j k : ℕ) → AreApart (one_row 2 1 j) (one_row 2 0 k)
    left_right j k i r s e f = right_left k j i s r f e

    module _ (number : ℕ) (other : kind ≡ join.Inner → ⊥) (one two : ℕ) (apart : (j k : ℕ) → AreApart (one_row 2 one j) (one_row 2 two k)) where
      by_join : step.By number ≡ step.Inner → ⊥
      by_join e = cc

      can_join : CanJoin (full_step scene kind on) (step.By number) (side_maps scene one) (side_maps scene two)
      can_join = record {
        kind = (λ e. absurd (other e), λ e. absurd (by_join e));
        width = 2;
        left_width = all_rows one (λ a. length a ≡ 2) (wide one) _;
        right_width = all_rows two (λ a. length a ≡ 2) (wide two) _;
        apart = all_rows one (λ a. All (AreApart a) (side_maps scene two)) (λ j. all_rows two (AreApart (one_row 2 one j)) (apart j) _) _;
        left_test = all_rows one (CanTest (full_step scene kind on)) (λ r. tested (one_row 2 one r)) _;
        right_test = all_rows two (CanTest (full_step scene kind on)) (λ r. tested (one_row 2 two r)) _;
        pair_test = all_rows one (λ a. All (λ b. CanTest (full_step scene kind on) (both a b)) (side_maps scene two)) (λ j. all_rows two (λ b. CanTest (full_step scene kind on) (both (one_row 2 one j) b)) (λ k. tested (both (one_row 2 one j) (one_row 2 two k))) _) _;
        on_booleans = full.booleans;
        filter_booleans = none_of _;
      }

  left_not_inner : join.Left ≡ join.Inner → ⊥
  left_not_inner e = cc

  anti_not_inner : join.Anti ≡ join.Inner → ⊥
  anti_not_inner e = cc

  pub can_match : CanJoin (full_step scene join.Left on) (step.By 1) (side_maps scene 1) (side_maps scene 0)
  can_match = can_join join.Left 1 left_not_inner 1 0 (left_right join.Left)

  pub can_reject : CanJoin (full_step scene join.Anti on) (step.By 1) (side_maps scene 0) (side_maps scene 1)
  can_reject = can_join join.Anti 1 anti_not_inner 0 1 (right_left join.Anti)

  pub gives_here : (kind : JoinKind) (meant : Meant) (gives : Tuple → ℕ → Result (Vec Row Global) Memory → Type 0) → meant ≡ full_step scene kind on → GivesScene scene gives → GivesRows meant gives
  gives_here kind meant gives e h = subst (λ k. GivesRows k gives) (sym e) h

  pub can_match_here : (meant : Meant) (lefts rights : List Map) → meant ≡ full_step scene join.Left on → lefts ≡ side_maps scene 1 → rights ≡ side_maps scene 0 → CanJoin meant (step.By 1) lefts rights
  can_match_here meant lefts rights e f h = subst (λ k. CanJoin k (step.By 1) lefts rights) (sym e) (subst₂ (λ xs ys. CanJoin (full_step scene join.Left on) (step.By 1) xs ys) (sym f) (sym h) can_match)

  pub can_reject_here : (meant : Meant) (lefts rights : List Map) → meant ≡ full_step scene join.Anti on → lefts ≡ side_maps scene 0 → rights ≡ side_maps scene 1 → CanJoin meant (step.By 1) lefts rights
  can_reject_here meant lefts rights e f h = subst (λ k. CanJoin k (step.By 1) lefts rights) (sym e) (subst₂ (λ xs ys. CanJoin (full_step scene join.Anti on) (step.By 1) xs ys) (sym f) (sym h) can_reject)

  pub matched_here : (meant : Meant) (lefts rights found : List Map) → meant ≡ full_step scene join.Left on → lefts ≡ side_maps scene 1 → rights ≡ side_maps scene 0 → found ≡ plain_list meant lefts rights → found ≡ matched_maps scene on
  unfolding matched_maps
  matched_here meant lefts rights found e f h is = is ∙ ap (λ k. plain_list k lefts rights) e ∙ ap₂ (plain_list (full_step scene join.Left on)) f h

  pub alone_here : (meant : Meant) (lefts rights found : List Map) → meant ≡ full_step scene join.Anti on → lefts ≡ side_maps scene 0 → rights ≡ side_maps scene 1 → found ≡ plain_list meant lefts rights → found ≡ alone_maps scene on
  unfolding alone_maps
  alone_here meant lefts rights found e f h is = is ∙ ap (λ k. plain_list k lefts rights) e ∙ ap₂ (plain_list (full_step scene join.Anti on)) f h

  -- ---- what a match is

  abbrev values : List ValueIn
  values = map (listed_value scene.prepared.now.blocks (listing_in scene)) on

  each_listed : (x : Env) (es : List Expr) → holds (map (value_given (sublink_rows scene.prepared.now.blocks (listing_in scene) x)) es) x ≡ holds (map (listed_value scene.prepared.now.blocks (listing_in scene)) es) x
  each_listed x [] = refl
  each_listed x (e ∷ es) = ap (λ b. is_true_at x (listed_value scene.prepared.now.blocks (listing_in scene) e) && b) (each_listed x es)

  match_is : (kind : JoinKind) (m : Map) → is_match (full_step scene kind on) m ≡ holds values (sight_env scene.sight m)
  unfolding list_holds
  match_is kind m = asked_conditions (rows_known scene m) (rows_listed scene m) on (sight_env scene.sight m) (alike m) ∙ each_listed (sight_env scene.sight m) on

  all_kept : (kind : JoinKind) (ms : List Map) → filter (list_holds (full_step scene kind on) []) ms ≡ ms
  unfolding list_holds
  all_kept kind [] = refl
  all_kept kind (m ∷ ms) = ap (λ (rest : List Map). m ∷ rest) (all_kept kind ms)

  matched_is : matched_maps scene on ≡ flat_map (left_gives join.Left (is_match (full_step scene join.Left on)) (side_maps scene 0)) (side_maps scene 1)
  unfolding matched_maps
  matched_is = all_kept join.Left (flat_map (left_gives join.Left (is_match (full_step scene join.Left on)) (side_maps scene 0)) (side_maps scene 1))

  alone_is : alone_maps scene on ≡ flat_map (left_gives join.Anti (is_match (full_step scene join.Anti on)) (side_maps scene 1)) (side_maps scene 0)
  unfolding alone_maps
  alone_is = all_kept join.Anti (flat_map (left_gives join.Anti (is_match (full_step scene join.Anti on)) (side_maps scene 1)) (side_maps scene 0))

  -- ---- the rows

  abbrev around : Env
  around = env_around scene.sight.around

  abbrev env : Map → Env
  env = env_from 0 scene.sight.layout.now (sources_in scene.sight) around

  sight_is : (m : Map) → sight_env scene.sight m ≡ env m
  unfolding sight_env
  sight_is m = refl

  module _ (l r : ℕ) (lefts rights : List Env) (layout : scene.sight.layout.now ≡ r ∷ l ∷ []) (sources : sources_in scene.sight ≡ map (only_rows r) rights ∷ map (only_rows l) lefts ∷ [])
      (around_lefts : All (IsAround around l) lefts) (around_rights : All (IsAround around r) rights) where
    abbrev IsLeft : Map → Env → Type 0
    IsLeft a x = (k : ℕ) × (a ≡ None ∷ Some k ∷ []) × (slice_index_or (map (only_rows l) lefts) k no_outer_rows ≡ only_rows l x) × IsAround around l x

    abbrev IsRight : Map → Env → Type 0
    IsRight b y = (k : ℕ) × (b ≡ Some k ∷ None ∷ []) × (slice_index_or (map (only_rows r) rights) k no_outer_rows ≡ only_rows r y) × IsAround around r y

    two : (m : Map) → env m ≡ with_rows r (with_rows l around (row_at (map (only_rows l) lefts) (at m 1))) (row_at (map (only_rows r) rights) (at m 0))
    two m = ap₂ (λ s t. env_from 0 s t around m) layout sources

    left_part : (a : Map) (x : Env) (h : IsLeft a x) → with_rows l around (slice_index_or (map (only_rows l) lefts) h.0 no_outer_rows) ≡ x
    left_part a x h = ap (with_rows l around) h.2 ∙ back l around x h.3

    both_rows : (a b : Map) (x y : Env) (h : IsLeft a x) (w : IsRight b y) → env (Some w.0 ∷ Some h.0 ∷ []) ≡ with_rows r x y
    both_rows a b x y h w = two (Some w.0 ∷ Some h.0 ∷ []) ∙ ap₂ (with_rows r) (left_part a x h) w.2 ∙ seen r x y

    pair : (a b : Map) (x y : Env) → IsLeft a x → IsRight b y → env (both a b) ≡ with_rows r x y
    pair a b x y h w = ap₂ (λ a b. env (both a b)) h.1 w.1 ∙ both_rows a b x y h w

    turned : (a b : Map) (x y : Env) → IsLeft a x → IsRight b y → env (both b a) ≡ with_rows r x y
    turned a b x y h w = ap₂ (λ a b. env (both b a)) h.1 w.1 ∙ both_rows a b x y h w

    alone : (a : Map) (x : Env) → IsLeft a x → env a ≡ without r x
    alone a x h = ap env h.1 ∙ two (None ∷ Some h.0 ∷ []) ∙ ap (without r) (left_part a x h)

    unmatched : (b : Map) (y : Env) → IsRight b y → without l (env b) ≡ without l y
    unmatched b y w = ap (without l) (ap env w.1 ∙ two (Some w.0 ∷ None ∷ []) ∙ ap (with_rows r (with_rows l around no_outer_rows)) w.2 ∙ seen r (with_rows l around no_outer_rows) y) ∙ hidden l r around y w.3

    left_maps : AreFor IsLeft (side_maps scene 1) lefts
    left_maps = subst (λ n. AreFor IsLeft (rows_of_item 2 1 0 n) lefts) (sym (ap (λ s. length (source_at s 1)) sources ∙ counted (only_rows l) lefts))
        (rows_are 1 IsLeft lefts 0 (λ i x e. (0 + i, refl, ap (λ k. slice_index_or (map (only_rows l) lefts) k no_outer_rows) (omega arith) ∙ at_mapped (only_rows l) lefts i x no_outer_rows e, each_at (IsAround around l) lefts i x e (each_of (IsAround around l) lefts around_lefts))))

    right_maps : AreFor IsRight (side_maps scene 0) rights
    right_maps = subst (λ n. AreFor IsRight (rows_of_item 2 0 0 n) rights) (sym (ap (λ s. length (source_at s 0)) sources ∙ counted (only_rows r) rights))
        (rows_are 0 IsRight rights 0 (λ i x e. (0 + i, refl, ap (λ k. slice_index_or (map (only_rows r) rights) k no_outer_rows) (omega arith) ∙ at_mapped (only_rows r) rights i x no_outer_rows e, each_at (IsAround around r) rights i x e (each_of (IsAround around r) rights around_rights))))

    pub full_is : full_envs l env (matched_maps scene on) (alone_maps scene on) ≡ join_tuples join.Full values l lefts r rights
    full_is = ap₂ ◌++◌
        (ap (map env) matched_is ∙ lefts_are env (is_match (full_step scene join.Left on)) values (λ m. match_is join.Left m ∙ ap (holds values) (sight_is m)) l r IsLeft IsRight pair turned alone unmatched (side_maps scene 0) rights right_maps (side_maps scene 1) lefts left_maps)
        (ap (λ ms. map (without l) (map env ms)) alone_is ∙ rights_are env (is_match (full_step scene join.Anti on)) values (λ m. match_is join.Anti m ∙ ap (holds values) (sight_is m)) l r IsLeft IsRight pair turned alone unmatched (side_maps scene 1) lefts left_maps (side_maps scene 0) rights right_maps)
