-- Leaves of one number are one tree, at every depth: they stand apart, or in copies of one sublink.
use Rattle.std.proofs.Common.{◌≡◌, ◌∙◌, ap, sym, subst, refl, ℕ, ◌⊎◌, inl, inr, Bool, true, ◌||◌, not, List, [], ◌∷◌, ◌++◌, map, fold, eq-eqb, eqb-true}
use Rattle.std.specs.Prelude.{◌==◌}
use Rattle.std.specs.List.{list_all, list_any}
use Rattle.std.proofs.lemmas.Bool.{and_parts}
use Rattle.jp_facts.proofs.Members.{In, in_append_left, in_append_right, from_append, in_map, from_any}
use Rattle.jp_query.specs.declared.Expr.{Expr}
use Rattle.jp_query.specs.declared.Expr.TheVariants as expr
use Rattle.jp_query.specs.declared.JoinTree.{JoinTree, out-JoinTree, out-roll-JoinTree}
use Rattle.jp_query.specs.declared.JoinTree.TheVariants as tree
use Rattle.jp_query.specs.declared.Order.{Order}
use Rattle.jp_query.specs.declared.Output.{Output}
use Rattle.jp_query.specs.declared.Query.{Query}
use Rattle.jp_query.specs.declared.Expr.TheOpen.{Expr-F, JoinTree-F}
use Rattle.jp_query.specs.declared.Expr.TheViews.{roll-Expr, roll-JoinTree, roll-Order, roll-Output, roll-Query}
use Rattle.jp_query.specs.declared.Expr.TheFolds.{fold-roll-Expr, fold-roll-JoinTree, fold-roll-Order, fold-roll-Output, fold-roll-Query}
use Rattle.jp_query.specs.Conditions.{Leaf, Leaves, leaf, no_leaves, beside, together, leaf_inside, leaves_inside, leaf_is_apart, are_apart, shares, expr_leaves, tree_leaves, order_leaves, output_leaves, query_leaves, judged_leaves}
use Rattle.jp_query.specs.Freshness.{Sublink, sublink_here, sublinks_in}
use Rattle.jp_query.specs.Layers.{ExprLayer, JoinTreeLayer, OrderLayer, OutputLayer, QueryLayer}
use Rattle.jp_query.specs.Parts.{all_in, nothing_of_leaf, option_part, parts, sublink_query, trees, conditions, leaf_query}
use Rattle.jp_induction.proofs.EachPart.{Each, parts_map}
use Rattle.jp_induction.proofs.Induction as induction
use Rattle.jp_conditions.proofs.Judging.{expr_leaf_set, tree_leaf_set, order_leaf_set, output_leaf_set, leaves_level, tree_leaves_level, query_leaves_level}
use Rattle.jp_prepared.proofs.ItemsApart.{parts_apart}
use Rattle.jp_prepared.proofs.LeafTrees as lists
use Rattle.jp_prepared.proofs.LeafTrees.{OfSome, to_some, from_some, no_own, leaf_here}

-- ---- the leaves and the sublinks of each type

abbrev pub trees_in_expr : Expr → List JoinTree
trees_in_expr = lists.in_expr JoinTree no_own leaf_here

abbrev pub trees_in_tree : JoinTree → List JoinTree
trees_in_tree = lists.in_tree JoinTree no_own leaf_here

abbrev pub trees_in_order : Order → List JoinTree
trees_in_order = lists.in_order JoinTree no_own leaf_here

abbrev pub trees_in_output : Output → List JoinTree
trees_in_output = lists.in_output JoinTree no_own leaf_here

abbrev pub trees_in_query : Query → List JoinTree
trees_in_query = lists.in_query JoinTree no_own leaf_here

abbrev subs_in_expr : Expr → List Sublink
subs_in_expr = lists.in_expr Sublink sublink_here nothing_of_leaf

abbrev subs_in_tree : JoinTree → List Sublink
subs_in_tree = lists.in_tree Sublink sublink_here nothing_of_leaf

abbrev subs_in_order : Order → List Sublink
subs_in_order = lists.in_order Sublink sublink_here nothing_of_leaf

abbrev subs_in_output : Output → List Sublink
subs_in_output = lists.in_output Sublink sublink_here nothing_of_leaf

abbrev subs_in_query : Query → List Sublink
subs_in_query = lists.in_query Sublink sublink_here nothing_of_leaf

-- ---- the number of a leaf

abbrev pub number_at : JoinTreeLayer → ℕ → Type 0
number_at (JoinTree-F.Base rel name table) n = rel ≡ n
number_at (JoinTree-F.Sub rel name query) n = rel ≡ n
number_at t n = ⊥

abbrev pub HasNumber : JoinTree → ℕ → Type 0
HasNumber t n = number_at (out-JoinTree t) n

-- two leaves that stand apart and have one number stand in sublinks of one number
shared : (xs ys : List ℕ) → shares xs ys ≡ true → (k : ℕ) × In k xs × In k ys
shared xs ys h =
    let x = from_any (λ i. list_any (◌==◌ i) ys) xs h in
    let y = from_any (◌==◌ x.0) ys x.2 in
    (x.0, x.1, subst (λ k. In k ys) (sym (eqb-true x.0 y.0 y.2)) y.1)

in_all : {X : Type 0} (p : X → Bool) (x : X) (xs : List X) → list_all p xs ≡ true → In x xs → p x ≡ true
in_all p x [] e h = absurd h
in_all p x (y ∷ xs) e (inl same) = ap p (sym same) ∙ (and_parts (p y) (list_all p xs) e).0
in_all p x (y ∷ xs) e (inr h) = in_all p x xs (and_parts (p y) (list_all p xs) e).1 h

both_inside : (xs ys : List Leaf) (l m : Leaf) → are_apart xs ys ≡ true → In l xs → In m ys → l.number ≡ m.number → (k : ℕ) × In k l.sublinks × In k m.sublinks
both_inside xs ys l m e p q same =
    let test = in_all (leaf_is_apart l) m ys (in_all (λ a. list_all (leaf_is_apart a) ys) l xs e p) q in
    shared l.sublinks m.sublinks (sym (ap (λ b. not b || shares l.sublinks m.sublinks) (eq-eqb l.number m.number same)) ∙ test)

-- ---- what is shown of a part, of all sublinks of the whole of which those of one number are equal

module _ (Root : Sublink → Type 0) (equal : (a b : Sublink) → Root a → Root b → a.number ≡ b.number → a.node ≡ b.node) where
  module _ (all : Leaves) (T : JoinTree → Type 0) (S : Sublink → Type 0) where
    -- a leaf among all, whose sublinks hold it
    record Trace (u : JoinTree) (n : ℕ) : Type 0 where
      leaf : Leaf
      among : In leaf all.leaves
      numbered : leaf.number ≡ n
      around : (k : ℕ) → In k leaf.sublinks → (s : Sublink) × S s × (s.number ≡ k) × In u (trees_in_expr s.node)

    record Sound : Type 0 where
      traced : (u : JoinTree) (n : ℕ) → T u → HasNumber u n → Trace u n
      covered : (s : Sublink) → S s → (u : JoinTree) → In u (trees_in_expr s.node) → T u
      one : all.apart ≡ true → ((s : Sublink) → S s → Root s) → (u v : JoinTree) (n : ℕ) → T u → T v → HasNumber u n → HasNumber v n → u ≡ v

  -- leaves of two parts that stand apart
  cross : (a b : Leaves) (T U : JoinTree → Type 0) (S R : Sublink → Type 0) → ((s : Sublink) → S s → (u : JoinTree) → In u (trees_in_expr s.node) → T u) → ((u v : JoinTree) (n : ℕ) → T u → T v → HasNumber u n → HasNumber v n → u ≡ v)
      → are_apart a.leaves b.leaves ≡ true → ((s : Sublink) → S s → Root s) → ((s : Sublink) → R s → Root s) → (u v : JoinTree) (n : ℕ) → Trace a T S u n → Trace b U R v n → T u → HasNumber u n → HasNumber v n → u ≡ v
  cross a b T U S R covered one apart root more u v n p q t hu hv =
      let k = both_inside a.leaves b.leaves p.leaf q.leaf apart p.among q.among (p.numbered ∙ sym q.numbered) in
      let s = p.around k.0 k.1 in
      let r = q.around k.0 k.2 in
      let same = equal s.0 r.0 (root s.0 s.1) (more r.0 r.1) (s.2 ∙ sym r.2) in
      one u v n t (covered s.0 s.1 v (subst (λ e. In v (trees_in_expr e)) (sym same) r.3)) hu hv

  two : (a b : Leaves) (T U : JoinTree → Type 0) (S R : Sublink → Type 0) → Sound a T S → Sound b U R → Sound (beside a b) (λ u. T u ⊎ U u) (λ s. S s ⊎ R s)
  two a b T U S R x y = record {
    traced = λ u n h number. elim h [
      | inl t ↦ (let p = x.traced u n t number in record { leaf = p.leaf; among = in_append_left p.leaf a.leaves b.leaves p.among; numbered = p.numbered; around = λ k m. let s = p.around k m in (s.0, inl s.1, s.2, s.3) })
      | inr t ↦ (let p = y.traced u n t number in record { leaf = p.leaf; among = in_append_right p.leaf a.leaves b.leaves p.among; numbered = p.numbered; around = λ k m. let s = p.around k m in (s.0, inr s.1, s.2, s.3) })
    ];
    covered = λ s h u m. elim h [ inl k ↦ inl (x.covered s k u m) | inr k ↦ inr (y.covered s k u m) ];
    one = λ apart root u v n h k hu hv.
        let parts = parts_apart a b apart in
        let left = x.one parts.0 (λ s m. root s (inl m)) in
        let right = y.one parts.1 (λ s m. root s (inr m)) in
        let crossed = cross a b T U S R x.covered left parts.2 (λ s m. root s (inl m)) (λ s m. root s (inr m)) in
        elim h [
          | inl t ↦ elim k [ inl w ↦ left u v n t w hu hv | inr w ↦ crossed u v n (x.traced u n t hu) (y.traced v n w hv) t hu hv ]
          | inr t ↦ elim k [ inl w ↦ sym (crossed v u n (x.traced v n w hv) (y.traced u n t hu) w hv hu) | inr w ↦ right u v n t w hu hv ]
        ];
  }

  -- by other words for the same leaves and sublinks
  renamed : (a : Leaves) (T U : JoinTree → Type 0) (S R : Sublink → Type 0) → ((u : JoinTree) → T u → U u) → ((u : JoinTree) → U u → T u) → ((s : Sublink) → S s → R s) → ((s : Sublink) → R s → S s) → Sound a T S → Sound a U R
  renamed a T U S R to back there here x = record {
    traced = λ u n h number. let p = x.traced u n (back u h) number in record { leaf = p.leaf; among = p.among; numbered = p.numbered; around = λ k m. let s = p.around k m in (s.0, there s.0 s.1, s.2, s.3) };
    covered = λ s h u m. to u (x.covered s (here s h) u m);
    one = λ apart root u v n h k hu hv. x.one apart (λ s m. root s (there s m)) u v n (back u h) (back v k) hu hv;
  }

  none : (a : Leaves) → Sound a (λ u. ⊥) (λ s. ⊥)
  none a = record { traced = λ u n h number. absurd h; covered = λ s h u m. absurd h; one = λ apart root u v n h k hu hv. absurd h }

  module _ {A : Type 0} (L : A → Leaves) (f : A → List JoinTree) (g : A → List Sublink) where
    abbrev SoundAt : A → Type 0
    SoundAt x = Sound (L x) (λ u. In u (f x)) (λ s. In s (g x))

    from_start : (xs : List A) (start : Leaves) (T : JoinTree → Type 0) (S : Sublink → Type 0) → Each SoundAt xs → Sound start T S → Sound (fold beside start (map L xs)) (λ u. T u ⊎ OfSome f xs u) (λ s. S s ⊎ OfSome g xs s)
    from_start [] start T S each x = renamed start T (λ u. T u ⊎ OfSome f [] u) S (λ s. S s ⊎ OfSome g [] s) (λ u t. inl t) (λ u h. elim h [ inl t ↦ t | inr w ↦ absurd w.1 ]) (λ s t. inl t) (λ s h. elim h [ inl t ↦ t | inr w ↦ absurd w.1 ]) x
    from_start (y ∷ xs) start T S each x =
        renamed (fold beside (beside start (L y)) (map L xs)) (λ u. (T u ⊎ In u (f y)) ⊎ OfSome f xs u) (λ u. T u ⊎ OfSome f (y ∷ xs) u) (λ s. (S s ⊎ In s (g y)) ⊎ OfSome g xs s) (λ s. S s ⊎ OfSome g (y ∷ xs) s)
        (λ u h. out T f y xs u h) (λ u h. back T f y xs u h) (λ s h. out S g y xs s h) (λ s h. back S g y xs s h)
        (from_start xs (beside start (L y)) (λ u. T u ⊎ In u (f y)) (λ s. S s ⊎ In s (g y)) each.1 (two start (L y) T (λ u. In u (f y)) S (λ s. In s (g y)) x each.0))
      where
        out : {X : Type 0} (P : X → Type 0) (h : A → List X) (y : A) (xs : List A) (x : X) → (P x ⊎ In x (h y)) ⊎ OfSome h xs x → P x ⊎ OfSome h (y ∷ xs) x
        out P h y xs x (inl (inl p)) = inl p
        out P h y xs x (inl (inr k)) = inr (y, inl refl, k)
        out P h y xs x (inr r) = inr (r.0, inr r.1, r.2)

        back : {X : Type 0} (P : X → Type 0) (h : A → List X) (y : A) (xs : List A) (x : X) → P x ⊎ OfSome h (y ∷ xs) x → (P x ⊎ In x (h y)) ⊎ OfSome h xs x
        back P h y xs x (inl p) = inl (inl p)
        back P h y xs x (inr r) = elim r.1 [ inl same ↦ inl (inr (subst (λ a. In x (h a)) (sym same) r.2)) | inr m ↦ inr (r.0, m, r.2) ]

    sound_list : (xs : List A) → Each SoundAt xs → Sound (together (map L xs)) (OfSome f xs) (OfSome g xs)
    sound_list xs each = renamed (together (map L xs)) (λ u. ⊥ ⊎ OfSome f xs u) (OfSome f xs) (λ s. ⊥ ⊎ OfSome g xs s) (OfSome g xs)
        (λ u h. elim h [ inl gone ↦ absurd gone | inr k ↦ k ]) (λ u k. inr k) (λ s h. elim h [ inl gone ↦ absurd gone | inr k ↦ k ]) (λ s k. inr k) (from_start xs no_leaves (λ u. ⊥) (λ s. ⊥) each (none no_leaves))

  -- ---- sublinks

  module _ (sub : ℕ) (s0 : Sublink) (is : s0.number ≡ sub) (a : Leaves) (T : JoinTree → Type 0) (S : Sublink → Type 0) (y : Sound a T S) (to_node : (u : JoinTree) → T u → In u (trees_in_expr s0.node)) where
    abbrev WithNode : Sublink → Type 0
    WithNode s = (s0 ≡ s) ⊎ S s

    inside_traced : (u : JoinTree) (n : ℕ) → T u → HasNumber u n → Trace (leaves_inside sub a) T WithNode u n
    inside_traced u n t number =
        let p = y.traced u n t number in
        record {
          leaf = leaf_inside sub p.leaf;
          among = in_map (leaf_inside sub) p.leaf a.leaves p.among;
          numbered = p.numbered;
          around = λ k m. elim m [ inl e ↦ (s0, inl refl, is ∙ e, to_node u t) | inr r ↦ (let s = p.around k r in (s.0, inr s.1, s.2, s.3)) ];
        }

    exists_sound : ((u : JoinTree) → In u (trees_in_expr s0.node) → T u) → Sound (leaves_inside sub a) T WithNode
    exists_sound from_node = record {
      traced = inside_traced;
      covered = λ s h u m. elim h [ inl same ↦ from_node u (subst (λ (x : Sublink). In u (trees_in_expr x.node)) (sym same) m) | inr k ↦ y.covered s k u m ];
      one = λ apart root u v n h k hu hv. y.one apart (λ s m. root s (inr m)) u v n h k hu hv;
    }

    in_sound : (b : Leaves) (U : JoinTree → Type 0) (R : Sublink → Type 0) → Sound b U R → ((u : JoinTree) → In u (trees_in_expr s0.node) → U u ⊎ T u) → Sound (beside b (leaves_inside sub a)) (λ u. U u ⊎ T u) (λ s. (s0 ≡ s) ⊎ R s ⊎ S s)
    in_sound b U R x from_node = record {
      traced = λ u n h number. elim h [
        | inl t ↦ (let p = x.traced u n t number in record { leaf = p.leaf; among = in_append_left p.leaf b.leaves (leaves_inside sub a).leaves p.among; numbered = p.numbered; around = λ k m. let s = p.around k m in (s.0, inr (inl s.1), s.2, s.3) })
        | inr t ↦ (let p = inside_traced u n t number in record { leaf = p.leaf; among = in_append_right p.leaf b.leaves (leaves_inside sub a).leaves p.among; numbered = p.numbered; around = λ k m. let s = p.around k m in (s.0, elim s.1 [ inl e ↦ inl e | inr r ↦ inr (inr r) ], s.2, s.3) })
      ];
      covered = λ s h u m. elim h [
        | inl same ↦ from_node u (subst (λ (x : Sublink). In u (trees_in_expr x.node)) (sym same) m)
        | inr more ↦ elim more [ inl k ↦ inl (x.covered s k u m) | inr k ↦ inr (y.covered s k u m) ]
      ];
      one = λ apart root u v n h k hu hv.
          let parts = parts_apart b (leaves_inside sub a) apart in
          let left = x.one parts.0 (λ s m. root s (inr (inl m))) in
          let right = y.one parts.1 (λ s m. root s (inr (inr m))) in
          let crossed = cross b (leaves_inside sub a) U T R WithNode x.covered left parts.2 (λ s m. root s (inr (inl m))) (λ s m. root s (elim m [ inl e ↦ inl e | inr r ↦ inr (inr r) ])) in
          elim h [
            | inl t ↦ elim k [ inl w ↦ left u v n t w hu hv | inr w ↦ crossed u v n (x.traced u n t hu) (inside_traced v n w hv) t hu hv ]
            | inr t ↦ elim k [ inl w ↦ sym (crossed v u n (x.traced v n w hv) (inside_traced u n t hu) w hv hu) | inr w ↦ right u v n t w hu hv ]
          ];
    }

  -- ---- levels

  abbrev SE : Expr → Type 0
  SE e = Sound (expr_leaf_set e) (λ u. In u (trees_in_expr e)) (λ s. In s (subs_in_expr e))

  abbrev ST : JoinTree → Type 0
  ST t = Sound (tree_leaf_set t) (λ u. In u (trees_in_tree t)) (λ s. In s (subs_in_tree t))

  abbrev SO : Order → Type 0
  SO o = Sound (order_leaf_set o) (λ u. In u (trees_in_order o)) (λ s. In s (subs_in_order o))

  abbrev SU : Output → Type 0
  SU u = Sound (output_leaf_set u) (λ t. In t (trees_in_output u)) (λ s. In s (subs_in_output u))

  abbrev SQ : Query → Type 0
  SQ q = Sound (judged_leaves q) (λ u. In u (trees_in_query q)) (λ s. In s (subs_in_query q))

  none_behind : {X : Type 0} (x : X) (xs : List X) → In x (xs ++ []) → In x xs
  none_behind x xs h = elim (from_append x xs [] h) [ inl k ↦ k | inr gone ↦ absurd gone ]

  expr_rolled : (x : ExprLayer) → Sound (expr_leaves (leaves_level x)) (λ u. In u (trees_in_expr (roll-Expr x))) (λ s. In s (subs_in_expr (roll-Expr x))) → SE (roll-Expr x)
  expr_rolled x h = subst (λ l. Sound l (λ u. In u (trees_in_expr (roll-Expr x))) (λ s. In s (subs_in_expr (roll-Expr x)))) (sym (fold-roll-Expr Leaves Leaves Leaves Leaves Leaves expr_leaves tree_leaves order_leaves output_leaves query_leaves x)) h

  plain : (x : ExprLayer) → option_part (sublink_query x) ≡ [] → sublink_here (lists.expr_level Sublink sublink_here nothing_of_leaf x) ≡ [] → expr_leaves (leaves_level x) ≡ together (map expr_leaf_set (parts x)) → Each SE (parts x) → SE (roll-Expr x)
  plain x empty own leaves exprs =
      let trees_are = lists.at_expr JoinTree no_own leaf_here x ∙ (λ i. all_in (map trees_in_expr (parts x)) ++ all_in (map trees_in_query (empty i))) in
      let subs_are = lists.at_expr Sublink sublink_here nothing_of_leaf x ∙ (λ i. own i ++ (all_in (map subs_in_expr (parts x)) ++ all_in (map subs_in_query (empty i)))) in
      expr_rolled x (subst (λ l. Sound l (λ u. In u (trees_in_expr (roll-Expr x))) (λ s. In s (subs_in_expr (roll-Expr x)))) (sym leaves)
      (renamed (together (map expr_leaf_set (parts x))) (OfSome trees_in_expr (parts x)) (λ u. In u (trees_in_expr (roll-Expr x))) (OfSome subs_in_expr (parts x)) (λ s. In s (subs_in_expr (roll-Expr x)))
      (λ u h. subst (In u) (sym trees_are) (in_append_left u (all_in (map trees_in_expr (parts x))) [] (from_some trees_in_expr (parts x) u h)))
      (λ u h. to_some trees_in_expr (parts x) u (none_behind u (all_in (map trees_in_expr (parts x))) (subst (In u) trees_are h)))
      (λ s h. subst (In s) (sym subs_are) (in_append_left s (all_in (map subs_in_expr (parts x))) [] (from_some subs_in_expr (parts x) s h)))
      (λ s h. to_some subs_in_expr (parts x) s (none_behind s (all_in (map subs_in_expr (parts x))) (subst (In s) subs_are h)))
      (sound_list expr_leaf_set trees_in_expr subs_in_expr (parts x) exprs)))

  of_exists : (sub : ℕ) (query : Query) → SQ query → SE (roll-Expr (Expr-F.Exists sub query))
  of_exists sub query y =
      let x = Expr-F.Exists sub query in
      let node = expr.Exists sub query in
      let trees_are = lists.at_expr JoinTree no_own leaf_here x in
      let node_are = ap trees_in_expr (sym (expr.rolls-Exists sub query)) ∙ trees_are in
      let subs_are = lists.at_expr Sublink sublink_here nothing_of_leaf x in
      let s0 : Sublink = record { number = sub; node = node } in
      expr_rolled x (renamed (leaves_inside sub (judged_leaves query)) (λ u. In u (trees_in_query query)) (λ u. In u (trees_in_expr (roll-Expr x))) (λ s. (s0 ≡ s) ⊎ In s (subs_in_query query)) (λ s. In s (subs_in_expr (roll-Expr x)))
      (λ u h. subst (In u) (sym trees_are) (in_append_left u (trees_in_query query) [] h))
      (λ u h. none_behind u (trees_in_query query) (subst (In u) trees_are h))
      (λ s h. subst (In s) (sym subs_are) (elim h [ inl e ↦ inl e | inr k ↦ inr (in_append_left s (subs_in_query query) [] k) ]))
      (λ s h. elim (subst (In s) subs_are h) [ inl e ↦ inl e | inr k ↦ inr (none_behind s (subs_in_query query) k) ])
      (exists_sound sub s0 refl (judged_leaves query) (λ u. In u (trees_in_query query)) (λ s. In s (subs_in_query query)) y (λ u h. subst (In u) (sym node_are) (in_append_left u (trees_in_query query) [] h)) (λ u h. none_behind u (trees_in_query query) (subst (In u) node_are h))))

  of_in : (sub : ℕ) (operand : Expr) (query : Query) → SE operand → SQ query → SE (roll-Expr (Expr-F.InSub sub operand query))
  of_in sub operand query x0 y =
      let x = Expr-F.InSub sub operand query in
      let trees_are = lists.at_expr JoinTree no_own leaf_here x in
      let node_are = ap trees_in_expr (sym (expr.rolls-InSub sub operand query)) ∙ trees_are in
      let subs_are = lists.at_expr Sublink sublink_here nothing_of_leaf x in
      let s0 : Sublink = record { number = sub; node = expr.InSub sub operand query } in
      expr_rolled x (renamed (beside (expr_leaf_set operand) (leaves_inside sub (judged_leaves query))) (λ u. In u (trees_in_expr operand) ⊎ In u (trees_in_query query)) (λ u. In u (trees_in_expr (roll-Expr x))) (λ s. (s0 ≡ s) ⊎ In s (subs_in_expr operand) ⊎ In s (subs_in_query query)) (λ s. In s (subs_in_expr (roll-Expr x)))
      (λ u h. subst (In u) (sym trees_are) (joined (trees_in_expr operand) (trees_in_query query) u h))
      (λ u h. split (trees_in_expr operand) (trees_in_query query) u (subst (In u) trees_are h))
      (λ s h. subst (In s) (sym subs_are) (elim h [ inl e ↦ inl e | inr k ↦ inr (joined (subs_in_expr operand) (subs_in_query query) s k) ]))
      (λ s h. elim (subst (In s) subs_are h) [ inl e ↦ inl e | inr k ↦ inr (split (subs_in_expr operand) (subs_in_query query) s k) ])
      (in_sound sub s0 refl (judged_leaves query) (λ u. In u (trees_in_query query)) (λ s. In s (subs_in_query query)) y (λ u h. subst (In u) (sym node_are) (joined (trees_in_expr operand) (trees_in_query query) u (inr h)))
      (expr_leaf_set operand) (λ u. In u (trees_in_expr operand)) (λ s. In s (subs_in_expr operand)) x0 (λ u h. split (trees_in_expr operand) (trees_in_query query) u (subst (In u) node_are h))))
    where
      joined : {X : Type 0} (xs ys : List X) (u : X) → In u xs ⊎ In u ys → In u ((xs ++ []) ++ (ys ++ []))
      joined xs ys u (inl h) = in_append_left u (xs ++ []) (ys ++ []) (in_append_left u xs [] h)
      joined xs ys u (inr h) = in_append_right u (xs ++ []) (ys ++ []) (in_append_left u ys [] h)

      split : {X : Type 0} (xs ys : List X) (u : X) → In u ((xs ++ []) ++ (ys ++ [])) → In u xs ⊎ In u ys
      split xs ys u h = elim (from_append u (xs ++ []) (ys ++ []) h) [ inl k ↦ inl (none_behind u xs k) | inr k ↦ inr (none_behind u ys k) ]

  expr_step : (x : ExprLayer) → Each SE (parts x) → Each SQ (option_part (sublink_query x)) → SE (roll-Expr x)
  expr_step (Expr-F.Exists sub query) exprs queries = of_exists sub query queries.0
  expr_step (Expr-F.InSub sub operand query) exprs queries = of_in sub operand query exprs.0 queries.0
  expr_step x exprs queries = plain x refl refl (ap together (parts_map expr_leaf_set tree_leaf_set order_leaf_set output_leaf_set judged_leaves x)) exprs

  -- ---- trees

  tree_rolled : (t : JoinTreeLayer) → Sound (tree_leaves (tree_leaves_level t)) (λ u. In u (trees_in_tree (roll-JoinTree t))) (λ s. In s (subs_in_tree (roll-JoinTree t))) → ST (roll-JoinTree t)
  tree_rolled t h = subst (λ l. Sound l (λ u. In u (trees_in_tree (roll-JoinTree t))) (λ s. In s (subs_in_tree (roll-JoinTree t)))) (sym (fold-roll-JoinTree Leaves Leaves Leaves Leaves Leaves expr_leaves tree_leaves order_leaves output_leaves query_leaves t)) h

  -- a leaf by itself
  leaf_sound : (rel : ℕ) (t : JoinTree) (x : JoinTreeLayer) → roll-JoinTree x ≡ t → ((n : ℕ) → number_at x n → rel ≡ n) → Sound (leaf rel) (λ u. t ≡ u) (λ s. ⊥)
  leaf_sound rel t x rolls number = record {
    traced = λ u n same has. record { leaf = record { number = rel; sublinks = [] }; among = inl refl; numbered = number n (subst (λ y. number_at y n) (sym (ap out-JoinTree (rolls ∙ same)) ∙ out-roll-JoinTree x) has); around = λ k m. absurd m };
    covered = λ s h u m. absurd h;
    one = λ apart root u v n h k hu hv. sym h ∙ k;
  }

  of_base : (rel : ℕ) (name : List ℕ) (table : ℕ) → ST (roll-JoinTree (JoinTree-F.Base rel name table))
  of_base rel name table =
      let x = JoinTree-F.Base rel name table in
      let t = tree.Base rel name table in
      let trees_are = lists.at_tree JoinTree no_own leaf_here x in
      let subs_are = lists.at_tree Sublink sublink_here nothing_of_leaf x in
      tree_rolled x (renamed (leaf rel) (λ u. t ≡ u) (λ u. In u (trees_in_tree (roll-JoinTree x))) (λ s. ⊥) (λ s. In s (subs_in_tree (roll-JoinTree x)))
      (λ u h. subst (In u) (sym trees_are) (inl h)) (λ u h. elim (subst (In u) trees_are h) [ inl e ↦ e | inr gone ↦ absurd gone ]) (λ s h. absurd h) (λ s h. subst (In s) subs_are h)
      (leaf_sound rel t x (tree.rolls-Base rel name table) (λ n h. h)))

  of_sub : (rel : ℕ) (name : List ℕ) (query : Query) → SQ query → ST (roll-JoinTree (JoinTree-F.Sub rel name query))
  of_sub rel name query y =
      let x = JoinTree-F.Sub rel name query in
      let t = tree.Sub rel name query in
      let trees_are = lists.at_tree JoinTree no_own leaf_here x in
      let subs_are = lists.at_tree Sublink sublink_here nothing_of_leaf x in
      tree_rolled x (renamed (beside (leaf rel) (judged_leaves query)) (λ u. (t ≡ u) ⊎ In u (trees_in_query query)) (λ u. In u (trees_in_tree (roll-JoinTree x))) (λ s. ⊥ ⊎ In s (subs_in_query query)) (λ s. In s (subs_in_tree (roll-JoinTree x)))
      (λ u h. subst (In u) (sym trees_are) (elim h [ inl e ↦ inl e | inr k ↦ inr (in_append_left u (trees_in_query query) [] k) ]))
      (λ u h. elim (subst (In u) trees_are h) [ inl e ↦ inl e | inr k ↦ inr (none_behind u (trees_in_query query) k) ])
      (λ s h. subst (In s) (sym subs_are) (elim h [ inl gone ↦ absurd gone | inr k ↦ in_append_left s (subs_in_query query) [] k ]))
      (λ s h. inr (none_behind s (subs_in_query query) (subst (In s) subs_are h)))
      (two (leaf rel) (judged_leaves query) (λ u. t ≡ u) (λ u. In u (trees_in_query query)) (λ s. ⊥) (λ s. In s (subs_in_query query)) (leaf_sound rel t x (tree.rolls-Sub rel name query) (λ n h. h)) y))

  inner_tree : (x : JoinTreeLayer) → option_part (leaf_query x) ≡ [] → leaf_here (lists.tree_level JoinTree no_own leaf_here x) ≡ [] → tree_leaves (tree_leaves_level x) ≡ beside (together (map tree_leaf_set (trees x))) (together (map expr_leaf_set (conditions x)))
      → Each ST (trees x) → Each SE (conditions x) → ST (roll-JoinTree x)
  inner_tree x empty own leaves sides conds =
      let ts = all_in (map trees_in_tree (trees x)) in
      let cs = all_in (map trees_in_expr (conditions x)) in
      let st = all_in (map subs_in_tree (trees x)) in
      let sc = all_in (map subs_in_expr (conditions x)) in
      let trees_are = lists.at_tree JoinTree no_own leaf_here x ∙ (λ i. own i ++ (ts ++ (cs ++ all_in (map trees_in_query (empty i))))) in
      let subs_are = lists.at_tree Sublink sublink_here nothing_of_leaf x ∙ (λ i. st ++ (sc ++ all_in (map subs_in_query (empty i)))) in
      let a = together (map tree_leaf_set (trees x)) in
      let b = together (map expr_leaf_set (conditions x)) in
      tree_rolled x (subst (λ l. Sound l (λ u. In u (trees_in_tree (roll-JoinTree x))) (λ s. In s (subs_in_tree (roll-JoinTree x)))) (sym leaves)
      (renamed (beside a b) (λ u. OfSome trees_in_tree (trees x) u ⊎ OfSome trees_in_expr (conditions x) u) (λ u. In u (trees_in_tree (roll-JoinTree x))) (λ s. OfSome subs_in_tree (trees x) s ⊎ OfSome subs_in_expr (conditions x) s) (λ s. In s (subs_in_tree (roll-JoinTree x)))
      (λ u h. subst (In u) (sym trees_are) (elim h [ inl k ↦ in_append_left u ts (cs ++ []) (from_some trees_in_tree (trees x) u k) | inr k ↦ in_append_right u ts (cs ++ []) (in_append_left u cs [] (from_some trees_in_expr (conditions x) u k)) ]))
      (λ u h. elim (from_append u ts (cs ++ []) (subst (In u) trees_are h)) [ inl k ↦ inl (to_some trees_in_tree (trees x) u k) | inr k ↦ inr (to_some trees_in_expr (conditions x) u (none_behind u cs k)) ])
      (λ s h. subst (In s) (sym subs_are) (elim h [ inl k ↦ in_append_left s st (sc ++ []) (from_some subs_in_tree (trees x) s k) | inr k ↦ in_append_right s st (sc ++ []) (in_append_left s sc [] (from_some subs_in_expr (conditions x) s k)) ]))
      (λ s h. elim (from_append s st (sc ++ []) (subst (In s) subs_are h)) [ inl k ↦ inl (to_some subs_in_tree (trees x) s k) | inr k ↦ inr (to_some subs_in_expr (conditions x) s (none_behind s sc k)) ])
      (two a b (OfSome trees_in_tree (trees x)) (OfSome trees_in_expr (conditions x)) (OfSome subs_in_tree (trees x)) (OfSome subs_in_expr (conditions x)) (sound_list tree_leaf_set trees_in_tree subs_in_tree (trees x) sides) (sound_list expr_leaf_set trees_in_expr subs_in_expr (conditions x) conds))))

  tree_step : (x : JoinTreeLayer) → Each ST (trees x) → Each SE (conditions x) → Each SQ (option_part (leaf_query x)) → ST (roll-JoinTree x)
  tree_step (JoinTree-F.Base rel name table) sides conds queries = of_base rel name table
  tree_step (JoinTree-F.Sub rel name query) sides conds queries = of_sub rel name query queries.0
  tree_step (JoinTree-F.Join kind left right on) sides conds queries = inner_tree (JoinTree-F.Join kind left right on) refl refl refl sides conds
  tree_step (JoinTree-F.From members conds) sides inner queries = inner_tree (JoinTree-F.From members conds) refl refl refl sides inner

  -- ---- ORDER BY items, outputs, queries

  order_step : (o : OrderLayer) → SE o.expr → SO (roll-Order o)
  order_step o h =
      let leaves = fold-roll-Order Leaves Leaves Leaves Leaves Leaves expr_leaves tree_leaves order_leaves output_leaves query_leaves o in
      let trees_are = lists.at_order JoinTree no_own leaf_here o in
      let subs_are = lists.at_order Sublink sublink_here nothing_of_leaf o in
      subst (λ l. Sound l (λ u. In u (trees_in_order (roll-Order o))) (λ s. In s (subs_in_order (roll-Order o)))) (sym leaves)
      (renamed (expr_leaf_set o.expr) (λ u. In u (trees_in_expr o.expr)) (λ u. In u (trees_in_order (roll-Order o))) (λ s. In s (subs_in_expr o.expr)) (λ s. In s (subs_in_order (roll-Order o)))
      (λ u k. subst (In u) (sym trees_are) k) (λ u k. subst (In u) trees_are k) (λ s k. subst (In s) (sym subs_are) k) (λ s k. subst (In s) subs_are k) h)

  output_step : (o : OutputLayer) → SE o.expr → SU (roll-Output o)
  output_step o h =
      let leaves = fold-roll-Output Leaves Leaves Leaves Leaves Leaves expr_leaves tree_leaves order_leaves output_leaves query_leaves o in
      let trees_are = lists.at_output JoinTree no_own leaf_here o in
      let subs_are = lists.at_output Sublink sublink_here nothing_of_leaf o in
      subst (λ l. Sound l (λ u. In u (trees_in_output (roll-Output o))) (λ s. In s (subs_in_output (roll-Output o)))) (sym leaves)
      (renamed (expr_leaf_set o.expr) (λ u. In u (trees_in_expr o.expr)) (λ u. In u (trees_in_output (roll-Output o))) (λ s. In s (subs_in_expr o.expr)) (λ s. In s (subs_in_output (roll-Output o)))
      (λ u k. subst (In u) (sym trees_are) k) (λ u k. subst (In u) trees_are k) (λ s k. subst (In s) (sym subs_are) k) (λ s k. subst (In s) subs_are k) h)

  module _ {X : Type 0} (eu : Output → List X) (et : JoinTree → List X) (ee : Expr → List X) (eo : Order → List X) (q : QueryLayer) where
    abbrev Four : X → Type 0
    Four x = ((OfSome eu q.columns x ⊎ In x (et q.tree)) ⊎ OfSome ee q.conds x) ⊎ OfSome eo q.order x

    abbrev four : List X
    four = all_in (map eu q.columns) ++ (et q.tree ++ (all_in (map ee q.conds) ++ all_in (map eo q.order)))

    to_four : (x : X) → In x four → Four x
    to_four x h = elim (from_append x (all_in (map eu q.columns)) (et q.tree ++ (all_in (map ee q.conds) ++ all_in (map eo q.order))) h) [
      | inl k ↦ inl (inl (inl (to_some eu q.columns x k)))
      | inr r ↦ elim (from_append x (et q.tree) (all_in (map ee q.conds) ++ all_in (map eo q.order)) r) [
        | inl k ↦ inl (inl (inr k))
        | inr w ↦ elim (from_append x (all_in (map ee q.conds)) (all_in (map eo q.order)) w) [ inl k ↦ inl (inr (to_some ee q.conds x k)) | inr k ↦ inr (to_some eo q.order x k) ]
      ]
    ]

    from_four : (x : X) → Four x → In x four
    from_four x (inl (inl (inl k))) = in_append_left x (all_in (map eu q.columns)) (et q.tree ++ (all_in (map ee q.conds) ++ all_in (map eo q.order))) (from_some eu q.columns x k)
    from_four x (inl (inl (inr k))) = in_append_right x (all_in (map eu q.columns)) (et q.tree ++ (all_in (map ee q.conds) ++ all_in (map eo q.order))) (in_append_left x (et q.tree) (all_in (map ee q.conds) ++ all_in (map eo q.order)) k)
    from_four x (inl (inr k)) = in_append_right x (all_in (map eu q.columns)) (et q.tree ++ (all_in (map ee q.conds) ++ all_in (map eo q.order))) (in_append_right x (et q.tree) (all_in (map ee q.conds) ++ all_in (map eo q.order)) (in_append_left x (all_in (map ee q.conds)) (all_in (map eo q.order)) (from_some ee q.conds x k)))
    from_four x (inr k) = in_append_right x (all_in (map eu q.columns)) (et q.tree ++ (all_in (map ee q.conds) ++ all_in (map eo q.order))) (in_append_right x (et q.tree) (all_in (map ee q.conds) ++ all_in (map eo q.order)) (in_append_right x (all_in (map ee q.conds)) (all_in (map eo q.order)) (from_some eo q.order x k)))

  query_step : (q : QueryLayer) → Each SU q.columns → ST q.tree → Each SE q.conds → Each SO q.order → SQ (roll-Query q)
  query_step q columns inner conds order =
      let level = query_leaves_level q in
      let leaves = fold-roll-Query Leaves Leaves Leaves Leaves Leaves expr_leaves tree_leaves order_leaves output_leaves query_leaves q in
      let trees_are = lists.at_query JoinTree no_own leaf_here q in
      let subs_are = lists.at_query Sublink sublink_here nothing_of_leaf q in
      let a = together (map output_leaf_set q.columns) in
      let b = together (map expr_leaf_set q.conds) in
      let c = together (map order_leaf_set q.order) in
      let t1 = two a (tree_leaf_set q.tree) (OfSome trees_in_output q.columns) (λ u. In u (trees_in_tree q.tree)) (OfSome subs_in_output q.columns) (λ s. In s (subs_in_tree q.tree)) (sound_list output_leaf_set trees_in_output subs_in_output q.columns columns) inner in
      let t2 = two (beside a (tree_leaf_set q.tree)) b (λ u. OfSome trees_in_output q.columns u ⊎ In u (trees_in_tree q.tree)) (OfSome trees_in_expr q.conds) (λ s. OfSome subs_in_output q.columns s ⊎ In s (subs_in_tree q.tree)) (OfSome subs_in_expr q.conds) t1 (sound_list expr_leaf_set trees_in_expr subs_in_expr q.conds conds) in
      let t3 = two (beside (beside a (tree_leaf_set q.tree)) b) c (λ u. (OfSome trees_in_output q.columns u ⊎ In u (trees_in_tree q.tree)) ⊎ OfSome trees_in_expr q.conds u) (OfSome trees_in_order q.order) (λ s. (OfSome subs_in_output q.columns s ⊎ In s (subs_in_tree q.tree)) ⊎ OfSome subs_in_expr q.conds s) (OfSome subs_in_order q.order) t2 (sound_list order_leaf_set trees_in_order subs_in_order q.order order) in
      subst (λ l. Sound l (λ u. In u (trees_in_query (roll-Query q))) (λ s. In s (subs_in_query (roll-Query q)))) (sym leaves)
      (renamed (beside (beside (beside a (tree_leaf_set q.tree)) b) c) (Four trees_in_output trees_in_tree trees_in_expr trees_in_order q) (λ u. In u (trees_in_query (roll-Query q))) (Four subs_in_output subs_in_tree subs_in_expr subs_in_order q) (λ s. In s (subs_in_query (roll-Query q)))
      (λ u k. subst (In u) (sym trees_are) (from_four trees_in_output trees_in_tree trees_in_expr trees_in_order q u k)) (λ u k. to_four trees_in_output trees_in_tree trees_in_expr trees_in_order q u (subst (In u) trees_are k))
      (λ s k. subst (In s) (sym subs_are) (from_four subs_in_output subs_in_tree subs_in_expr subs_in_order q s k)) (λ s k. to_four subs_in_output subs_in_tree subs_in_expr subs_in_order q s (subst (In s) subs_are k)) t3)

  all_sound : (q : Query) → SQ q
  all_sound = induction.at_query SE ST SO SU SQ (record { expr = expr_step; tree = tree_step; order = order_step; output = output_step; query = query_step })

-- leaves of one number in a query are one tree
pub one_tree : (q : Query) → (judged_leaves q).apart ≡ true → ((a b : Sublink) → In a (sublinks_in q) → In b (sublinks_in q) → a.number ≡ b.number → a.node ≡ b.node) → (u v : JoinTree) (n : ℕ) → In u (trees_in_query q) → In v (trees_in_query q) → HasNumber u n → HasNumber v n → u ≡ v
one_tree q apart equal u v n h k hu hv = (all_sound (λ s. In s (sublinks_in q)) equal q).one apart (λ s m. m) u v n h k hu hv
