-- The theorem between two environments: what two readings of one level mean in two environments, where its parts mean the
-- same in them. The readings say what each child means: in the one environment by the first function, in the other by the
-- second. For values the same is equality, for tuples a relation that they keep place by place.
use Rattle.std.proofs.Common.{◌≡◌, ◌∙◌, ap, subst, refl, ℕ, Bool, not, ◌&&◌, List, [], ◌∷◌, ◌++◌, map, fold, filter, Option, Some, None}
use Rattle.std.specs.Prelude.{bit_or, if◌then◌else◌}
use Rattle.std.specs.Option.{option_map}
use Rattle.std.proofs.lemmas.Nat.{or_comm}
use Rattle.jp_base.specs.declared.values.Value.{Value}
use Rattle.jp_base.specs.declared.values.Value.TheVariants as value
use Rattle.jp_base.specs.Truth.{not_of}
use Rattle.jp_query.specs.declared.JoinKind.{JoinKind}
use Rattle.jp_query.specs.declared.JoinKind.TheVariants as join
use Rattle.jp_query.specs.declared.Expr.TheOpen.{Expr-F, JoinTree-F, Query-F}
use Rattle.jp_query.specs.declared.Expr.TheShapes.{former-Expr-Case-0}
use Rattle.jp_query.specs.declared.Expr.TheFolds.{map-Expr, map-JoinTree, map-Query}
use Rattle.jp_query.specs.Joins.{join_rels}
use Rattle.jp_query.specs.Refs.{only, union}
use Rattle.jp_query.specs.Operators.{value_of_truth, truth_of_value, is_true, all_of, any_of, compared, between, among, passes, negated, sum_of, product_of, concat_of, first_value, case_of}
use Rattle.jp_query.specs.Meaning.{Row, Env, ValueIn, Tuples, SortKey, RowsIn, SublinkRows, cell_in, any_present, value_at, term_at, arm_at, key_at, line_at, direction, first_of, is_row, outputs_of, distinct_lines, sorted, holds, with_row, with_rows, without, is_match, is_match_of, pairs, pairs_or_alone, has_match, has_no_match, is_unmatched, left_join, join_tuples, extended, with_member, rels_in, expr_value, tree_tuples, query_rows}
use Rattle.jp_query.specs.Parts.{term_part, arm_parts, option_part, parts, trees, conditions, leaf_query}
use Rattle.jp_induction.specs.Alike.{Alike, none, more}
use Rattle.jp_induction.proofs.Alike.{alike_append, alike_map, alike_flat_map, alike_filter, alike_any, alike_or_else, alike_rows, alike_same}
use Rattle.jp_induction.proofs.EachPart.{Each, each_left, each_right}

-- ---- expressions

module _ {A : Type 0} (f f' : A → ValueIn) (u v : Env) where
  abbrev pub SameValue : A → Type 0
  SameValue x = f x u ≡ f' x v

  pub values_same : {X : Type 0} (g : Value → X) (xs : List A) → Each SameValue xs → map (λ (w : ValueIn). g (w u)) (map f xs) ≡ map (λ (w : ValueIn). g (w v)) (map f' xs)
  values_same g [] h = refl
  values_same g (x ∷ xs) h = λ i. g (h.0 i) ∷ values_same g xs h.1 i

  abbrev one_term : Bool × A → Bool × ValueIn
  one_term term = (term.0, f term.1)

  abbrev other_term : Bool × A → Bool × ValueIn
  other_term term = (term.0, f' term.1)

  terms_same : (terms : List (Bool × A)) → Each SameValue (map term_part terms) → map (term_at u) (map one_term terms) ≡ map (term_at v) (map other_term terms)
  terms_same [] h = refl
  terms_same (term ∷ terms) h = λ i. (term.0, h.0 i) ∷ terms_same terms h.1 i

  abbrev one_arm : A × A → ValueIn × ValueIn
  one_arm arm = (f arm.0, f arm.1)

  abbrev other_arm : A × A → ValueIn × ValueIn
  other_arm arm = (f' arm.0, f' arm.1)

  arms_same : (arms : List (A × A)) → Each SameValue (arm_parts arms) → map (arm_at u) (map one_arm arms) ≡ map (arm_at v) (map other_arm arms)
  arms_same [] h = refl
  arms_same (arm ∷ arms) h = λ i. (h.0 i, h.1.0 i) ∷ arms_same arms h.1.1 i

  maybe_same : (o : Option A) → Each SameValue (option_part o) → option_map (value_at u) ((former-Expr-Case-0).map A ValueIn f o) ≡ option_map (value_at v) ((former-Expr-Case-0).map A ValueIn f' o)
  maybe_same None h = refl
  maybe_same (Some x) h = λ i. Some (h.0 i)

  pub holds_same : (xs : List A) → Each SameValue xs → holds (map f xs) u ≡ holds (map f' xs) v
  holds_same [] h = refl
  holds_same (x ∷ xs) h = λ i. is_true (truth_of_value (h.0 i)) && holds_same xs h.1 i

module _ {A B C D F : Type 0} (f f' : A → ValueIn) (b b' : B → Tuples) (c c' : C → SortKey) (d d' : D → ValueIn) (q q' : F → RowsIn) where
  module _ (subs subs' : SublinkRows) (u v : Env) where
    -- what the level itself looks at: a column's cell, whether a placeholder has a relation, whether a sublink has a row or has
    -- the operand's value
    abbrev pub OwnSame : Expr-F A B C D F → Type 0
    OwnSame (Expr-F.Col rel col ty nulled) = cell_in (u rel) col ≡ cell_in (v rel) col
    OwnSame (Expr-F.Place inner rels) = any_present rels u ≡ any_present rels v
    OwnSame (Expr-F.Exists sub query) = is_row (subs sub (q query) u) ≡ is_row (subs' sub (q' query) v)
    OwnSame (Expr-F.InSub sub operand query) = (w : Value) → among w (map first_of (subs sub (q query) u)) ≡ among w (map first_of (subs' sub (q' query) v))
    OwnSame _ = Unit {0}

    pub value_same : (x : Expr-F A B C D F) → Each (SameValue f f' u v) (parts x) → OwnSame x → expr_value subs (map-Expr A B C D F ValueIn Tuples SortKey ValueIn RowsIn f b c d q x) u ≡ expr_value subs' (map-Expr A B C D F ValueIn Tuples SortKey ValueIn RowsIn f' b' c' d' q' x) v
    value_same (Expr-F.Col rel col ty nulled) p own = own
    value_same (Expr-F.Lit w ty) p own = refl
    value_same (Expr-F.Place inner rels) p own = λ i. if own i then p.0 i else value.Null
    value_same (Expr-F.Neg operand) p own = λ i. negated (p.0 i)
    value_same (Expr-F.Sum terms) p own = λ i. sum_of (terms_same f f' u v terms p i)
    value_same (Expr-F.Product factors) p own = λ i. product_of (values_same f f' u v (λ w. w) factors p i)
    value_same (Expr-F.Concat pieces) p own = λ i. concat_of (values_same f f' u v (λ w. w) pieces p i)
    value_same (Expr-F.Compare op left right) p own = λ i. value_of_truth (compared op (p.0 i) (p.1.0 i))
    value_same (Expr-F.Between operand low high) p own = λ i. value_of_truth (between (p.0 i) (p.1.0 i) (p.1.1.0 i))
    value_same (Expr-F.InList operand list) p own = λ i. value_of_truth (among (p.0 i) (values_same f f' u v (λ w. w) list p.1 i))
    value_same (Expr-F.And members) p own = λ i. value_of_truth (all_of (values_same f f' u v truth_of_value members p i))
    value_same (Expr-F.Or members) p own = λ i. value_of_truth (any_of (values_same f f' u v truth_of_value members p i))
    value_same (Expr-F.Not operand) p own = λ i. value_of_truth (not_of (truth_of_value (p.0 i)))
    value_same (Expr-F.Test test operand) p own = λ i. value.Bool (passes test (p.0 i))
    value_same (Expr-F.Coalesce members) p own = λ i. first_value (values_same f f' u v (λ w. w) members p i)
    value_same (Expr-F.Case operand arms otherwise) p own =
        let S = SameValue f f' u v in
        let rest = each_right S (option_part operand) (arm_parts arms ++ option_part otherwise) p in
        λ i. case_of (maybe_same f f' u v operand (each_left S (option_part operand) (arm_parts arms ++ option_part otherwise) p) i) (arms_same f f' u v arms (each_left S (arm_parts arms) (option_part otherwise) rest) i)
        (maybe_same f f' u v otherwise (each_right S (arm_parts arms) (option_part otherwise) rest) i)
    value_same (Expr-F.Exists sub query) p own = λ i. value.Bool (own i)
    value_same (Expr-F.InSub sub operand query) p own = ap (λ w. value_of_truth (among w (map first_of (subs sub (q query) u)))) p.0 ∙ ap value_of_truth (own (f' operand v))

  -- ---- queries

  module _ (J : Env → Env → Type 0) where
    abbrev pub SameKey : C → Type 0
    SameKey o = (direction (c o) ≡ direction (c' o)) × ((u v : Env) → J u v → (c o).key u ≡ (c' o).key v)

    abbrev pub SameOutput : D → Type 0
    SameOutput x = (u v : Env) → J u v → d x u ≡ d' x v

    abbrev pub SameCondition : A → Type 0
    SameCondition x = (u v : Env) → J u v → f x u ≡ f' x v

    pub conditions_same : (xs : List A) → Each SameCondition xs → (u v : Env) → J u v → holds (map f xs) u ≡ holds (map f' xs) v
    conditions_same [] h u v j = refl
    conditions_same (x ∷ xs) h u v j = λ i. is_true (truth_of_value (h.0 u v j i)) && conditions_same xs h.1 u v j i

    outputs_same : (xs : List D) → Each SameOutput xs → (u v : Env) → J u v → map (value_at u) (map d xs) ≡ map (value_at v) (map d' xs)
    outputs_same [] h u v j = refl
    outputs_same (x ∷ xs) h u v j = λ i. h.0 u v j i ∷ outputs_same xs h.1 u v j i

    keys_same : (xs : List C) → Each SameKey xs → (u v : Env) → J u v → map (key_at u) (map c xs) ≡ map (key_at v) (map c' xs)
    keys_same [] h u v j = refl
    keys_same (x ∷ xs) h u v j = λ i. h.0.1 u v j i ∷ keys_same xs h.1 u v j i

    directions_same : (xs : List C) → Each SameKey xs → map direction (map c xs) ≡ map direction (map c' xs)
    directions_same [] h = refl
    directions_same (x ∷ xs) h = λ i. h.0.0 i ∷ directions_same xs h.1 i

    pub rows_same : (env other : Env) (x : Query-F A B C D F) → Each SameOutput x.columns → Alike J ((b x.tree).tuples env) ((b' x.tree).tuples other) → Each SameCondition x.conds → Each SameKey x.order
        → query_rows (map-Query A B C D F ValueIn Tuples SortKey ValueIn RowsIn f b c d q x) env ≡ query_rows (map-Query A B C D F ValueIn Tuples SortKey ValueIn RowsIn f' b' c' d' q' x) other
    rows_same env other x outputs tuples conds keys =
        let kept : Alike J (filter (holds (map f x.conds)) ((b x.tree).tuples env)) (filter (holds (map f' x.conds)) ((b' x.tree).tuples other)) = alike_filter (holds (map f x.conds)) (holds (map f' x.conds)) (conditions_same x.conds conds) tuples in
        let lines = alike_same (line_at (map d x.columns) (map c x.order)) (line_at (map d' x.columns) (map c' x.order)) (λ u v j i. record { outputs = outputs_same x.columns outputs u v j i; keys = keys_same x.order keys u v j i }) kept in
        λ i. map outputs_of (sorted (directions_same x.order keys i) (distinct_lines x.distinct (lines i)))

-- ---- joins

-- A relation of tuples, by the relations that they have rows of, that is kept where rows are put together or taken away.
pub record Kept (N : ℕ → Env → Env → Type 0) : Type 0 where
  pub pair : (l r : ℕ) (x y u v : Env) → N l x y → N r u v → N (bit_or l r) (with_rows r x u) (with_rows r y v)
  pub alone : (l r : ℕ) (x y : Env) → N l x y → N (bit_or l r) (without r x) (without r y)

module _ (N : ℕ → Env → Env → Type 0) (kept : Kept N) where
  module _ (on on' : List ValueIn) (good : (n : ℕ) (x y : Env) → N n x y → holds on x ≡ holds on' y) where
    module _ (l r : ℕ) (lefts lefts' rights rights' : List Env) (al : Alike (N l) lefts lefts') (ar : Alike (N r) rights rights') where
      match_same : (x y u v : Env) → N l x y → N r u v → holds on (with_rows r x u) ≡ holds on' (with_rows r y v)
      match_same x y u v a e = good (bit_or l r) (with_rows r x u) (with_rows r y v) (kept.pair l r x y u v a e)

      pairs_alike : (x y : Env) → N l x y → Alike (N (bit_or l r)) (pairs on r rights x) (pairs on' r rights' y)
      pairs_alike x y a = alike_filter {R = N (bit_or l r)} {xs = map (with_rows r x) rights} {ys = map (with_rows r y) rights'} (holds on) (holds on') (good (bit_or l r)) (alike_map (with_rows r x) (with_rows r y) (λ u v e. kept.pair l r x y u v a e) ar)

      left_alike : Alike (N (bit_or l r)) (left_join on r lefts rights) (left_join on' r lefts' rights')
      left_alike = alike_flat_map (pairs_or_alone on r rights) (pairs_or_alone on' r rights') (λ x y a. alike_or_else (without r x) (without r y) (kept.alone l r x y a) (pairs_alike x y a)) al

      has_same : (x y : Env) → N l x y → has_match on r rights x ≡ has_match on' r rights' y
      has_same x y a = alike_any (is_match on r x) (is_match on' r y) (λ u v e. match_same x y u v a e) ar

      unmatched_same : (u v : Env) → N r u v → is_unmatched on r lefts u ≡ is_unmatched on' r lefts' v
      unmatched_same u v e = ap not (alike_any (is_match_of on r u) (is_match_of on' r v) (λ x y a. match_same x y u v a e) al)

      rest_alike : Alike (N (bit_or r l)) (map (without l) (filter (is_unmatched on r lefts) rights)) (map (without l) (filter (is_unmatched on' r lefts') rights'))
      rest_alike = alike_map (without l) (without l) (kept.alone r l) (alike_filter (is_unmatched on r lefts) (is_unmatched on' r lefts') unmatched_same ar)

    pub join_alike : (kind : JoinKind) (l r : ℕ) (lefts lefts' rights rights' : List Env) → Alike (N l) lefts lefts' → Alike (N r) rights rights' → Alike (N (join_rels kind l r)) (join_tuples kind on l lefts r rights) (join_tuples kind on' l lefts' r rights')
    join_alike join.Inner l r lefts lefts' rights rights' al ar = alike_flat_map (pairs on r rights) (pairs on' r rights') (pairs_alike l r lefts lefts' rights rights' al ar) al
    join_alike join.Left l r lefts lefts' rights rights' al ar = left_alike l r lefts lefts' rights rights' al ar
    join_alike join.Right l r lefts lefts' rights rights' al ar = subst (λ n. Alike (N n) (left_join on l rights lefts) (left_join on' l rights' lefts')) (or_comm r l) (left_alike r l rights rights' lefts lefts' ar al)
    join_alike join.Full l r lefts lefts' rights rights' al ar = alike_append (left_alike l r lefts lefts' rights rights' al ar)
        (subst (λ n. Alike (N n) (map (without l) (filter (is_unmatched on r lefts) rights)) (map (without l) (filter (is_unmatched on' r lefts') rights'))) (or_comm r l) (rest_alike l r lefts lefts' rights rights' al ar))
    join_alike join.Semi l r lefts lefts' rights rights' al ar = alike_filter (has_match on r rights) (has_match on' r rights') (has_same l r lefts lefts' rights rights' al ar) al
    join_alike join.Anti l r lefts lefts' rights rights' al ar = alike_filter (has_no_match on r rights) (has_no_match on' r rights') (λ x y a. ap not (has_same l r lefts lefts' rights rights' al ar x y a)) al

  -- ---- trees

  module _ {A B C D F : Type 0} (f f' : A → ValueIn) (b b' : B → Tuples) (c c' : C → SortKey) (d d' : D → ValueIn) (q q' : F → RowsIn) (env other : Env) where
    abbrev pub SameTuples : B → Type 0
    SameTuples t = ((b t).rels ≡ (b' t).rels) × Alike (N (b t).rels) ((b t).tuples env) ((b' t).tuples other)

    abbrev pub SameRows : F → Type 0
    SameRows x = q x env ≡ q' x other

    abbrev pub SameWhere : A → Type 0
    SameWhere x = (n : ℕ) (u v : Env) → N n u v → f x u ≡ f' x v

    where_same : (xs : List A) → Each SameWhere xs → (n : ℕ) (u v : Env) → N n u v → holds (map f xs) u ≡ holds (map f' xs) v
    where_same [] h n u v j = refl
    where_same (x ∷ xs) h n u v j = λ i. is_true (truth_of_value (h.0 n u v j i)) && where_same xs h.1 n u v j i

    members_alike : (ts : List B) → Each SameTuples ts → (n : ℕ) (xs xs' : List Env) → Alike (N n) xs xs'
        → Alike (N (fold bit_or n (map rels_in (map b ts)))) (fold (with_member env) xs (map b ts)) (fold (with_member other) xs' (map b' ts))
    members_alike [] h n xs xs' al = al
    members_alike (t ∷ ts) h n xs xs' al = members_alike ts h.1 (bit_or n (b t).rels) (with_member env xs (b t)) (with_member other xs' (b' t))
        (alike_flat_map (extended (b t) env) (extended (b' t) other) (λ x y a. subst (λ r. Alike (N (bit_or n (b t).rels)) (map (with_rows (b t).rels x) ((b t).tuples env)) (map (with_rows r y) ((b' t).tuples other))) h.0.0
        (alike_map (with_rows (b t).rels x) (with_rows (b t).rels y) (λ u v e. kept.pair n (b t).rels x y u v a e) h.0.1)) al)

    members_rels : (ts : List B) → Each SameTuples ts → map rels_in (map b ts) ≡ map rels_in (map b' ts)
    members_rels [] h = refl
    members_rels (t ∷ ts) h = λ i. h.0.0 i ∷ members_rels ts h.1 i

    abbrev one : (ℕ → List Row) → JoinTree-F A B C D F → Tuples
    one tables x = tree_tuples tables (map-JoinTree A B C D F ValueIn Tuples SortKey ValueIn RowsIn f b c d q x)

    abbrev another : (ℕ → List Row) → JoinTree-F A B C D F → Tuples
    another tables x = tree_tuples tables (map-JoinTree A B C D F ValueIn Tuples SortKey ValueIn RowsIn f' b' c' d' q' x)

    pub tuples_same : (tables : ℕ → List Row) (start : N 0 env other) (leaf : (rel : ℕ) (row : Row) → N (only rel) (with_row env rel row) (with_row other rel row)) (x : JoinTree-F A B C D F)
        → Each SameTuples (trees x) → Each SameWhere (conditions x) → Each SameRows (option_part (leaf_query x))
        → ((one tables x).rels ≡ (another tables x).rels) × Alike (N (one tables x).rels) ((one tables x).tuples env) ((another tables x).tuples other)
    tuples_same tables start leaf (JoinTree-F.Base rel name table) ts cs rows = (refl, alike_rows (with_row env rel) (with_row other rel) (leaf rel) (tables table))
    tuples_same tables start leaf (JoinTree-F.Sub rel name query) ts cs rows = (refl, subst (λ rs. Alike (N (only rel)) (map (with_row env rel) (q query env)) (map (with_row other rel) rs)) rows.0 (alike_rows (with_row env rel) (with_row other rel) (leaf rel) (q query env)))
    tuples_same tables start leaf (JoinTree-F.Join kind left right on) ts cs rows = (
      λ i. join_rels kind (ts.0.0 i) (ts.1.0.0 i),
      subst (λ n. Alike (N (join_rels kind (b left).rels (b right).rels)) (join_tuples kind (map f on) (b left).rels ((b left).tuples env) (b right).rels ((b right).tuples env)) (join_tuples kind (map f' on) n ((b' left).tuples other) (b' right).rels ((b' right).tuples other))) ts.0.0
          (subst (λ n. Alike (N (join_rels kind (b left).rels (b right).rels)) (join_tuples kind (map f on) (b left).rels ((b left).tuples env) (b right).rels ((b right).tuples env)) (join_tuples kind (map f' on) (b left).rels ((b' left).tuples other) n ((b' right).tuples other))) ts.1.0.0
          (join_alike (map f on) (map f' on) (where_same on cs) kind (b left).rels (b right).rels ((b left).tuples env) ((b' left).tuples other) ((b right).tuples env) ((b' right).tuples other) ts.0.1 ts.1.0.1)),
    )
    tuples_same tables start leaf (JoinTree-F.From members conds) ts cs rows = (
      ap union (members_rels members ts),
      alike_filter (holds (map f conds)) (holds (map f' conds)) (where_same conds cs (union (map rels_in (map b members)))) (members_alike members ts 0 (env ∷ []) (other ∷ []) (more start none)),
    )
