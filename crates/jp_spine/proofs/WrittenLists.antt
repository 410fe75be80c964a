-- The tuples of a shape as it is written are those of its list of maps, filtered by the conditions of the shape's own region.
use Rattle.std.proofs.Common.{◌≡◌, ◌∙◌, ap, ap₂, sym, refl, ℕ, suc, ◌+◌, ◌<◌, ◌≤◌, ◌⊎◌, inl, inr, Bool, true, false, not, ◌&&◌, List, [], ◌∷◌, ◌++◌, map, filter, length, length-append, get_or, arith}
use mathlib.Core.Path.{fun_ext}
use Rattle.std.specs.List.{list_all, flat_map}
use Rattle.std.proofs.lemmas.Bool.{and_parts, and_from}
use Rattle.std.proofs.lemmas.List.Elements.{Contains-get_or}
use Rattle.std.proofs.lemmas.Option.{slice_get-get_or}
use Rattle.jp_base.specs.Sets.{Has, Within}
use Rattle.jp_facts.proofs.Members.{In, to_in, in_map, from_map, from_filter}
use Rattle.jp_query.specs.declared.Expr.{Expr}
use Rattle.jp_query.specs.declared.JoinKind.{JoinKind}
use Rattle.jp_query.specs.Meaning.{Env, ValueIn, holds, pairs}
use Rattle.jp_query.specs.Typing.{IsTypedExpr}
use Rattle.jp_problem.specs.declared.types.Clause.{Clause}
use Rattle.jp_problem.specs.declared.types.Item.{Item}
use Rattle.jp_problem.specs.declared.types.Outline.{Outline}
use Rattle.jp_problem.specs.declared.types.Place.{Place}
use Rattle.jp_problem.specs.declared.types.Placed.{Placed}
use Rattle.jp_problem.specs.declared.types.Problem.{Problem}
use Rattle.jp_problem.specs.declared.types.Special.{Special}
use Rattle.jp_problem.specs.declared.types.Written.{Written}
use Rattle.jp_problem.specs.Blocks.{rels_at, used, behind, in_right_side, number_of, items_at, is_clause_of_side, stays_in_on, placed_in, written}
use Rattle.jp_problem.specs.Conditions.{MeetsConditions}
use Rattle.jp_problem.specs.MinimumSets.{specials_in}
use Rattle.jp_problem.specs.Problems.{problem_rels, clause_of, problem_in}
use Rattle.jp_problem.specs.Sets.{is_empty, is_within}
use Rattle.jp_problem.specs.Shapes.{Shape, nothing, item, beside, filtered, special, count_joins, items_in}
use Rattle.jp_problem.proofs.SetTests.{is_within_says}
use Rattle.jp_conditions.proofs.Bounds.{Laid, numbers, from}
use Rattle.jp_conditions.proofs.Items.{used_from}
use Rattle.jp_conditions.proofs.Laying.{Seen}
use Rattle.jp_conditions.proofs.Numbers.{number_at, one_numbered}
use Rattle.jp_conditions.proofs.Places.{written_no}
use Rattle.jp_conditions.proofs.Sources.{special_no}
use Rattle.jp_conditions.proofs.Spans.{spans_apart}
use Rattle.jp_frame.specs.Maps.{Map, Agree, both, NoneOn}
use Rattle.jp_frame.specs.Frames.{Frame, IsFrame, Kind, Left, Semi, Anti}
use Rattle.jp_frame.specs.Legal.{IsByPlace, IsActive}
use Rattle.jp_frame.specs.Methods.{none_row, joined_rows}
use Rattle.jp_frame.proofs.LegalLaws.{active_region, region_active}
use Rattle.jp_frame.proofs.MapLaws.{both_left, both_right}
use Rattle.jp_framed.specs.Environments.{Setting, value_by, source_at, env_of, row_at, HasNoOwnRows}
use Rattle.jp_framed.specs.Framing.{kind_of, join_at, clause_at, list_holds, expr_holds, frame_of, AreApart}
use Rattle.jp_framed.proofs.JoinedMaps.{Owner, owner, filtered as filtered_maps, scanned, inner_joined, left_joined, semi_joined, anti_joined}
use Rattle.jp_framed.proofs.MapRows.{own_row, other_row}
use Rattle.jp_framed.proofs.Reading.{join_stands, join_there, clause_stands, clause_placed, list_agrees}
use Rattle.jp_spine.specs.Written.{special_tuples, rels_of_number, written_tuples}
use Rattle.jp_spine.proofs.ActiveLaws.{active_test, active_says, same_truth, inner_rows, filter_same}
use Rattle.jp_spine.proofs.BareLists.{bare, none_at, Lain, lain, joined_from}
use Rattle.jp_spine.proofs.ListLaws.{and_assoc, kept_all, filter_twice, all_split, all_append, flat_same, kept_before, joined_alike}
use Rattle.jp_spine.proofs.OwnConditions.{own_conds, side_members, side_conds, placed_own, own_seen, Part, part_filtered, part_left, part_right, special_left, special_right, this_join, side_found, side_placed}
use Rattle.jp_spine.proofs.SpineRows.{HasPlaces}

-- ---- lists of conditions

module _ (rels : List ℕ) (setting : Setting) where
  abbrev pub test : List Expr → Map → Bool
  test = list_holds rels setting

  pub test_from : (es : List Expr) (m : Map) → ((e : Expr) → In e es → expr_holds rels setting e m ≡ true) → test es m ≡ true
  test_from [] m h = refl
  test_from (e ∷ es) m h = and_from (expr_holds rels setting e m) (test es m) (h e (inl refl)) (test_from es m (λ x k. h x (inr k)))

  pub test_at : (es : List Expr) (m : Map) (e : Expr) → test es m ≡ true → In e es → expr_holds rels setting e m ≡ true
  test_at [] m e t h = absurd h
  test_at (x ∷ es) m e t (inl same) = ap (λ y. expr_holds rels setting y m) (sym same) ∙ (and_parts (expr_holds rels setting x m) (test es m) t).0
  test_at (x ∷ es) m e t (inr h) = test_at es m e (and_parts (expr_holds rels setting x m) (test es m) t).1 h

  test_is : (es : List Expr) (m : Map) → test es m ≡ list_all (λ e. expr_holds rels setting e m) es
  test_is [] m = refl
  test_is (e ∷ es) m = ap (λ b. expr_holds rels setting e m && b) (test_is es m)

  test_append : (es fs : List Expr) (m : Map) → test (es ++ fs) m ≡ (test es m && test fs m)
  test_append es fs m = test_is (es ++ fs) m ∙ all_append (λ e. expr_holds rels setting e m) es fs ∙ ap₂ ◌&&◌ (sym (test_is es m)) (sym (test_is fs m))

  test_split : (q r : Expr → Bool) (es : List Expr) (m : Map) → ((e : Expr) → r e ≡ not (q e)) → test es m ≡ (test (filter q es) m && test (filter r es) m)
  test_split q r es m h = test_is es m ∙ all_split (λ e. expr_holds rels setting e m) q r es h ∙ ap₂ ◌&&◌ (sym (test_is (filter q es) m)) (sym (test_is (filter r es) m))

  -- typed conditions that use items of a set alone
  test_agrees : (es : List Expr) (set : ℕ) (m n : Map) → ((e : Expr) → In e es → IsTypedExpr e) → ((e : Expr) → In e es → Within (used rels e) set) → Agree set m n → test es m ≡ test es n
  test_agrees es set m n typed inside agree = list_agrees rels setting m n es (λ k d low. typed (get_or es k d) (to_in (get_or es k d) es (Contains-get_or es k d low)))
      (λ i p. let e = used_from rels es i p in agree i (inside e.0 e.1 i e.2))

module _ (items : List Item) (block : Outline) (set : ℕ) (laid : Laid block set) (setting : Setting) (are : problem_rels (problem_in items block) ≡ block.rels)
    (ok : IsFrame (frame_of (problem_in items block) setting)) (meets : MeetsConditions (problem_in items block)) (apart : AreApart block.rels) (clear : HasNoOwnRows block.rels setting.outer) (many : length items ≡ length block.rels)
    (typed : (c : Placed) → In c block.clauses → IsTypedExpr c.expr) where
  abbrev problem : Problem
  problem = problem_in items block

  abbrev f : Frame
  f = frame_of problem setting

  abbrev rels : List ℕ
  rels = block.rels

  abbrev pub env : Map → Env
  env = env_of rels setting

  abbrev pub T : List Expr → Map → Bool
  T = list_holds rels setting

  abbrev values : List Expr → List ValueIn
  values = map (value_by setting.sublinks)

  -- ---- leaves

  none_env : env (none_row f.items) ≡ setting.outer
  none_env = fun_ext (λ rel. by rel (owner rels rel))
    where
      by : (rel : ℕ) → Owner rels rel → env (none_row f.items) rel ≡ setting.outer rel
      by rel (Owner.owned i own e p) = own_row rels setting (none_row f.items) i own rel apart e p ∙ ap (λ r. row_at (source_at setting.sources i) r rel) (none_at f.items i) ∙ sym (clear i own rel e p)
      by rel (Owner.free others) = other_row rels setting (none_row f.items) rel others

  abbrev pub Fits : Shape → Place → Type 0
  Fits shape at = at.items + length (items_in shape) ≤ length block.rels

  abbrev pub IsWritten : Shape → Place → Type 0
  IsWritten shape at = map env (filter (T (own_conds shape)) (bare f shape at)) ≡ written_tuples rels setting shape at

  abbrev pub PartOf : Shape → Place → Type 0
  PartOf shape at = Part block.rels block.clauses block.joins shape at

  own_typed : (shape : Shape) (at : Place) → PartOf shape at → (e : Expr) → In e (own_conds shape) → IsTypedExpr e
  own_typed shape at p e h = typed (placed_in rels at.region e) (p.within (placed_in rels at.region e) (placed_own rels shape at e h))

  -- ---- clauses of the problem

  clause_at_place : (c : Placed) → In c block.clauses → (k : ℕ) × (k < f.clauses) × (clause_at problem.clauses k ≡ clause_of block.rels (specials_in block) c)
  clause_at_place c h = clause_placed problem.clauses (clause_of block.rels (specials_in block) c) (in_map (clause_of block.rels (specials_in block)) c block.clauses h)

  pub clause_from_place : (k : ℕ) → k < f.clauses → (c : Placed) × In c block.clauses × (clause_of block.rels (specials_in block) c ≡ clause_at problem.clauses k)
  clause_from_place k low = from_map (clause_of block.rels (specials_in block)) (clause_at problem.clauses k) block.clauses (to_in (clause_at problem.clauses k) problem.clauses (clause_stands problem.clauses k low))

  holds_is : (k : ℕ) (e : Expr) (m : Map) → (clause_at problem.clauses k).expr ≡ e → f.holds k m ≡ expr_holds rels setting e m
  holds_is k e m same = ap₂ (λ r x. expr_holds r setting x m) are same

  -- a test of the clauses of one region, of which the conditions are known
  pub region_test : (part region : ℕ) (es : List Expr) (m : Map) → ((k : ℕ) → IsActive f part k → f.region k ≡ region) → ((k : ℕ) → k < f.clauses → f.region k ≡ region → IsActive f part k)
      → ((c : Placed) → In c block.clauses → c.region ≡ region → In c.expr es) → ((e : Expr) → In e es → In (placed_in rels region e) block.clauses) → active_test f part m ≡ T es m
  region_test part region es m active back found placed = same_truth (active_test f part m) (T es m)
      (λ t. test_from rels setting es m (λ e h.
      let k = clause_at_place (placed_in rels region e) (placed e h) in
      sym (holds_is k.0 e m (ap (λ (x : Clause). x.expr) k.2)) ∙ (active_says f ok part m).0 t k.0 (back k.0 k.1 (ap (λ (x : Clause). x.region) k.2))))
      (λ t. (active_says f ok part m).1 (λ k a.
      let c = clause_from_place k a.clause in
      holds_is k c.0.expr m (ap (λ (x : Clause). x.expr) (sym c.2)) ∙ test_at rels setting es m c.0.expr t (found c.0 c.1 (ap (λ (x : Clause). x.region) c.2 ∙ active k a))))

  -- ---- the join of a place

  join_is : (k : ℕ) (w : Written) → k < f.joins → In w block.joins → w.no ≡ suc k → ((join_at problem.joins k).kind ≡ w.kind) × ((join_at problem.joins k).on ≡ w.on)
  join_is k w low h e =
      let x = join_at problem.joins k in
      let from_w = from block set laid x (to_in x (specials_in block) (join_stands problem.joins k low)) in
      let no : x.no ≡ suc (0 + k) = number_at special_no 0 (specials_in block) k x (numbers block set laid) (join_there problem.joins k low) in
      let later : suc (0 + k) ≡ w.no = omega (arith, e) in
      let same : from_w.written ≡ w = one_numbered written_no 0 block.joins from_w.written w laid.numbered from_w.stands h (sym (ap (λ (s : Special). s.no) from_w.is) ∙ no ∙ later) in
      (ap (λ (s : Special). s.kind) from_w.is ∙ ap (λ (v : Written). v.kind) same, ap (λ (s : Special). s.on) from_w.is ∙ ap (λ (v : Written). v.on) same)

  -- ---- two parts of a tree

  module _ (left right : Shape) (at : Place) where
    abbrev L : ℕ
    L = items_at at left

    abbrev R : ℕ
    R = items_at (behind left at) right

    away : (i : ℕ) → Has L i → ¬ Has R i
    away i p q = spans_apart at.items (length (items_in left)) (length (items_in right)) (i, p, q)

    none_right : (a : Map) → Lain f L a → NoneOn R a
    none_right a x i p = x.off i (λ q. away i q p)

    to_a : (a b : Map) → Lain f R b → Agree L (both a b) a
    to_a a b y i p = both_left a b i (y.off i (λ q. away i p q))

    to_b : (a b : Map) → Lain f L a → Agree R (both a b) b
    to_b a b x i p = both_right a b i (x.off i (λ q. away i q p))

    joined_tuples : (kind : Kind) (on : List Expr) (lefts rights : List Map) → ((a : Map) → In a lefts → Lain f L a) → ((b : Map) → In b rights → Lain f R b)
        → map env (flat_map (joined_rows kind (T on) rights) lefts) ≡ special_tuples kind (values on) (rels_at rels R) (map env lefts) (map env rights)
    joined_tuples Left on lefts rights x y = left_joined rels setting apart on R rights (λ b h. (y b h).off) lefts (λ a h. none_right a (x a h))
    joined_tuples Semi on lefts rights x y = semi_joined rels setting apart on R rights (λ b h. (y b h).off) lefts (λ a h. none_right a (x a h))
    joined_tuples Anti on lefts rights x y = anti_joined rels setting apart on R rights (λ b h. (y b h).off) lefts (λ a h. none_right a (x a h))

    from_kept : (p : Map → Bool) (set part : ℕ) (xs : List Map) → ((a : Map) → In a xs → Lain f part a) → (a : Map) → In a (filter p xs) → Lain f part a
    from_kept p set part xs x a h = x a (from_filter p a xs h).1

    beside_written : PartOf (beside left right) at → Seen rels (beside left right) at → IsWritten left at → IsWritten right (behind left at) → IsWritten (beside left right) at
    beside_written p s x y =
        let lefts = bare f left at in
        let rights = bare f right (behind left at) in
        let own = T (own_conds left) in
        let other = T (own_conds right) in
        ap (map env) (sym (inner_rows own other (T []) (T (own_conds left ++ own_conds right)) rights lefts (λ a h b k. splits a b (lain f left at a h) (lain f right (behind left at) b k))))
        ∙ inner_joined rels setting apart [] R (filter other rights) (λ b h. (from_kept other 0 R rights (lain f right (behind left at)) b h).off) (filter own lefts) (λ a h. none_right a (from_kept own 0 L lefts (lain f left at) a h))
        ∙ ap₂ (λ us vs. flat_map (pairs [] (rels_at rels R) us) vs) y x
      where
        and_true : (a b : Bool) → (a && b) ≡ (a && (b && true))
        and_true true true = refl
        and_true true false = refl
        and_true false b = refl

        splits : (a b : Map) → Lain f L a → Lain f R b → T (own_conds left ++ own_conds right) (both a b) ≡ (T (own_conds left) a && (T (own_conds right) b && T [] (both a b)))
        splits a b u v =
            test_append rels setting (own_conds left) (own_conds right) (both a b)
            ∙ ap₂ ◌&&◌ (test_agrees rels setting (own_conds left) L (both a b) a (own_typed left at (part_left rels block.clauses block.joins left right at p)) (own_seen rels left at s.0) (to_a a b v))
            (test_agrees rels setting (own_conds right) R (both a b) b (own_typed right (behind left at) (part_right rels block.clauses block.joins left right at p)) (own_seen rels right (behind left at) s.1) (to_b a b u))
            ∙ and_true (T (own_conds left) a) (T (own_conds right) b)

    module _ (kind : JoinKind) (on : List Expr) (p : PartOf (special kind left right on) at) (s : Seen rels (special kind left right on) at) (place : IsByPlace f (items_at (behind left at) right) (at.joins + (count_joins left + count_joins right))) where
      abbrev k : ℕ
      k = at.joins + (count_joins left + count_joins right)

      abbrev here : Place
      here = in_right_side left right at

      abbrev members : List Expr
      members = side_members rels left right on at

      abbrev stay : List Expr
      stay = filter (stays_in_on rels (items_at (behind left at) right)) on

      side_test : (b : Map) → active_test f R b ≡ (T (own_conds right) b && T members b)
      side_test b =
          region_test R (suc k) (side_conds rels left right on at) b (λ c a. active_region f ok R k place c a) (λ c low e. (region_active f ok R k place c low e).0)
          (side_found rels block.clauses block.joins kind left right on at p) (side_placed rels block.clauses block.joins kind left right on at p)
          ∙ test_append rels setting (own_conds right) members b

      found : ((join_at problem.joins k).kind ≡ kind) × ((join_at problem.joins k).on ≡ stay)
      found = join_is k (written rels kind left right on at) place.join (this_join rels block.clauses block.joins kind left right on at p) refl

      on_is : (m : Map) → f.on k m ≡ T stay m
      on_is m = ap₂ (λ r es. list_holds r setting es m) are found.1

      member_typed : (e : Expr) → In e members → IsTypedExpr e
      member_typed e h = typed (placed_in rels (number_of left right at) e) (side_placed rels block.clauses block.joins kind left right on at p e (in_right_conds e h))
        where
          in_right_conds : (e : Expr) → In e members → In e (side_conds rels left right on at)
          in_right_conds e h = append_right e (own_conds right) h
            where
              append_right : (e : Expr) (xs : List Expr) → In e members → In e (xs ++ members)
              append_right e [] h = h
              append_right e (x ∷ xs) h = inr (append_right e xs h)

      member_inside : (e : Expr) → In e members → Within (used rels e) R
      member_inside e h = (is_within_says (used rels e) R).0 (and_parts (not (is_empty (used rels e))) (is_within (used rels e) R) (from_filter (is_clause_of_side rels R) e on h).0).1

      alike : (a b : Map) → Lain f L a → (T (own_conds right) b && T on (both a b)) ≡ (active_test f R b && f.on k (both a b))
      alike a b x =
          ap (λ c. T (own_conds right) b && c) (test_split rels setting (is_clause_of_side rels R) (stays_in_on rels R) on (both a b) (λ e. refl) ∙ ap₂ ◌&&◌ (test_agrees rels setting members R (both a b) b member_typed member_inside (to_b a b x)) (sym (on_is (both a b))))
          ∙ and_assoc (T (own_conds right) b) (T members b) (f.on k (both a b))
          ∙ ap (λ c. c && f.on k (both a b)) (sym (side_test b))

      left_same : (a m : Map) → (a ≡ m) ⊎ ((b : Map) × In b (filter (active_test f R) (bare f right here)) × (both a b ≡ m)) → T (own_conds left) m ≡ T (own_conds left) a
      left_same a m (inl e) = ap (T (own_conds left)) (sym e)
      left_same a m (inr b) =
          ap (T (own_conds left)) (sym b.2)
          ∙ test_agrees rels setting (own_conds left) L (both a b.0) a (own_typed left at (special_left rels block.clauses block.joins kind left right on at p)) (own_seen rels left at s.0) (to_a a b.0 (lain f right here b.0 (from_filter (active_test f R) b.0 (bare f right here) b.1).1))

      special_written : IsWritten left at → IsWritten right here → IsWritten (special kind left right on) at
      special_written x y =
          let lefts = bare f left at in
          let rights = bare f right here in
          let own = T (own_conds left) in
          let other = T (own_conds right) in
          let J = joined_rows (f.kind k) (f.on k) (filter (active_test f R) rights) in
          ap (map env) (sym (kept_before own J lefts (λ a h m i. left_same a m (joined_from (f.kind k) (f.on k) (filter (active_test f R) rights) a m i))))
          ∙ ap (map env) (flat_same J (joined_rows (f.kind k) (T on) (filter other rights)) (filter own lefts) (λ a h. sym (joined_alike (T on) (f.on k) other (active_test f R) a (f.kind k) rights (λ b i. alike a b (lain f left at a (from_filter own a lefts h).1)))))
          ∙ joined_tuples (f.kind k) on (filter own lefts) (filter other rights) (from_kept own 0 L lefts (lain f left at)) (from_kept other 0 R rights (lain f right here))
          ∙ ap₂ (λ us vs. special_tuples (f.kind k) (values on) (rels_at rels R) us vs) x y
          ∙ ap (λ q. special_tuples (kind_of q) (values on) (rels_at rels R) (written_tuples rels setting left at) (written_tuples rels setting right here)) found.0

  -- ---- every shape

  pub is_written : (shape : Shape) (at : Place) → PartOf shape at → Seen rels shape at → HasPlaces problem setting ok meets shape at → Fits shape at → IsWritten shape at
  is_written nothing at p s q fits = ap (λ x. x ∷ []) none_env
  is_written (item tree) at p s q fits =
      ap (map env) (kept_all (T []) (bare f (item tree) at) (λ m. refl))
      ∙ scanned rels setting apart f.items at.items (rels_of_number rels at.items) (omega (arith, fits, many)) (slice_get-get_or rels at.items 0 (omega (arith, fits))) clear
  is_written (filtered shape conds) at p s q fits =
      ap (map env) (filter_same (T (own_conds shape ++ conds)) (λ m. T (own_conds shape) m && T conds m) (bare f shape at) (λ m h. test_append rels setting (own_conds shape) conds m) ∙ sym (filter_twice (T (own_conds shape)) (T conds) (bare f shape at)))
      ∙ filtered_maps env (holds (values conds)) (filter (T (own_conds shape)) (bare f shape at))
      ∙ ap (filter (holds (values conds))) (is_written shape at (part_filtered rels block.clauses block.joins shape conds at p) s.0 q fits)
  is_written (beside left right) at p s q fits =
      beside_written left right at p s
      (is_written left at (part_left rels block.clauses block.joins left right at p) s.0 q.0 (omega (arith, fits, length-append (items_in left) (items_in right))))
      (is_written right (behind left at) (part_right rels block.clauses block.joins left right at p) s.1 q.1 (omega (arith, fits, length-append (items_in left) (items_in right))))
  is_written (special kind left right on) at p s q fits =
      special_written left right at kind on p s q.0
      (is_written left at (special_left rels block.clauses block.joins kind left right on at p) s.0 q.1 (omega (arith, fits, length-append (items_in left) (items_in right))))
      (is_written right (in_right_side left right at) (special_right rels block.clauses block.joins kind left right on at p) s.1 q.2 (omega (arith, fits, length-append (items_in left) (items_in right))))
