-- The outermost sublinks of an expression: what can be computed of them, those of one number, and rows that are lent for them.
use Rattle.std.proofs.Common.{◌≡◌, ◌∙◌, ap, sym, subst, refl, ℕ, ◌⊎◌, inl, inr, Bool, List, [], ◌∷◌, ◌++◌, map, arith}
use Rattle.std.specs.Prelude.{All, Some, ⊤, if◌then◌else◌}
use Rattle.std.specs.List.Sorted.{IsPermutation}
use Rattle.std.proofs.lemmas.Bool.{cases_eq, eq-eqb, ne_eqb}
use Rattle.std.proofs.lemmas.List.Sorted.{IsPermutation-refl}
use Rattle.jp_query.specs.declared.Expr.{Expr, out-Expr}
use Rattle.jp_query.specs.declared.JoinTree.{JoinTree}
use Rattle.jp_query.specs.declared.Order.{Order}
use Rattle.jp_query.specs.declared.Output.{Output}
use Rattle.jp_query.specs.declared.Query.{Query}
use Rattle.jp_query.specs.declared.Expr.TheVariants as expr
use Rattle.jp_query.specs.declared.Expr.TheOpen.{Expr-F}
use Rattle.jp_query.specs.declared.Expr.TheViews.{roll-Expr, outs-Exists, outs-InSub}
use Rattle.jp_query.specs.declared.Expr.TheFolds.{map-Expr, para-JoinTree, para-Order, para-Output, para-Query, para-roll-Expr}
use Rattle.jp_query.specs.Layers.{ExprLayer}
use Rattle.jp_query.specs.Meaning.{Row, Env, meaning}
use Rattle.jp_query.specs.Outermost.{Outer, Outers, Level, outers_in, outer_here, expr_outers, outermost, IsGiven}
use Rattle.jp_query.specs.Parts.{all_in, option_part, parts, sublink_query}
use Rattle.jp_query.specs.Freshness.{Found, Sublink, found_in, sublink_here, sublinks_in}
use Rattle.jp_query.specs.Subexpressions.{sublinks_of}
use Rattle.jp_query.specs.Tables.{TableRows}
use Rattle.jp_facts.proofs.Members.{In, in_append_left, in_append_right, from_append}
use Rattle.jp_laws.proofs.EachPart.{Each, all_of_each, each_append, each_both, each_in_parts, each_map, parts_map}
use Rattle.jp_induction.proofs.Induction.{expr_alone}
use Rattle.jp_naive.specs.Running.{CanRunExpr, CanRunQuery}
use Rattle.jp_naive.specs.Sublinks.{rows_by_number}
use Rattle.jp_naive.specs.declared.sublinks.Lent.{Lent}
use Rattle.jp_naive.proofs.Passing.{Same, beside, found_at, found_level, parts_can, same_in, sublink_can}

-- ---- the outermost sublinks at one level

abbrev outers_beside : Expr → Expr × Outers
outers_beside x = (x, outermost x)

abbrev outers_of_tree : JoinTree → JoinTree × Outers
outers_of_tree x = (x, para-JoinTree Outers Outers Outers Outers Outers expr_outers (λ t. []) (λ o. []) (λ u. []) (λ q. []) x)

abbrev outers_of_order : Order → Order × Outers
outers_of_order x = (x, para-Order Outers Outers Outers Outers Outers expr_outers (λ t. []) (λ o. []) (λ u. []) (λ q. []) x)

abbrev outers_of_output : Output → Output × Outers
outers_of_output x = (x, para-Output Outers Outers Outers Outers Outers expr_outers (λ t. []) (λ o. []) (λ u. []) (λ q. []) x)

abbrev outers_of_query : Query → Query × Outers
outers_of_query x = (x, para-Query Outers Outers Outers Outers Outers expr_outers (λ t. []) (λ o. []) (λ u. []) (λ q. []) x)

abbrev pub outer_level : ExprLayer → Level
outer_level = map-Expr Expr JoinTree Order Output Query (Expr × Outers) (JoinTree × Outers) (Order × Outers) (Output × Outers) (Query × Outers) outers_beside outers_of_tree outers_of_order outers_of_output outers_of_query

inner_outers : (xs : List Expr) → map outers_in (map outers_beside xs) ≡ map outermost xs
inner_outers [] = refl
inner_outers (x ∷ xs) = ap (λ os. outermost x ∷ os) (inner_outers xs)

pub outers_at : (x : ExprLayer) → outermost (roll-Expr x) ≡ outer_here (outer_level x) ++ all_in (map outermost (parts x))
outers_at x = para-roll-Expr Outers Outers Outers Outers Outers expr_outers (λ t. []) (λ o. []) (λ u. []) (λ q. []) x
    ∙ ap (λ os. outer_here (outer_level x) ++ all_in os) (ap (map outers_in) (parts_map outers_beside outers_of_tree outers_of_order outers_of_output outers_of_query x) ∙ inner_outers (parts x))

-- ---- their queries can be computed

module _ (tables : TableRows) (env : Env) where
  abbrev QueryRuns : Outer → Type 0
  QueryRuns o = CanRunQuery tables o.query env

  abbrev AllRun : Expr → Type 0
  AllRun x = CanRunExpr tables x env → Each QueryRuns (outermost x)

  here_run : (x : ExprLayer) → Each (λ q. CanRunQuery tables q env) (option_part (sublink_query x)) → Each QueryRuns (outer_here (outer_level x))
  here_run (Expr-F.Exists sub query) h = (h.0, tt)
  here_run (Expr-F.InSub sub operand query) h = (h.0, tt)
  here_run x h = tt

  run_step : (x : ExprLayer) → Each AllRun (parts x) → AllRun (roll-Expr x)
  run_step x good h =
      let same = same_in _ h.same in
      subst (Each QueryRuns) (sym (outers_at x)) (each_append QueryRuns (outer_here (outer_level x)) (all_in (map outermost (parts x)))
      (here_run x (sublink_can tables h.schema h.belong x h.scope env h.is_typed h.columns h.distinct h.bounded same h.fits))
      (each_in_parts QueryRuns (map outermost (parts x)) (each_map (Each QueryRuns) outermost (parts x)
      (each_both AllRun (λ y. CanRunExpr tables y env) (λ y. Each QueryRuns (outermost y)) (λ y good can. good can) (parts x) good
      (parts_can tables h.schema h.belong x h.scope env h.is_typed h.columns h.distinct h.bounded same h.fits)))))

  pub outers_run : (x : Expr) → CanRunExpr tables x env → Each QueryRuns (outermost x)
  outers_run = expr_alone AllRun run_step

-- ---- those of one number are equal

record IsSublinkOf (found : Found) (o : Outer) : Type 0 where
  sublink : Sublink
  there : In sublink found
  number : sublink.number ≡ o.number
  query : sublink_query (out-Expr sublink.node) ≡ Some o.query

abbrev AreFound : Expr → Type 0
AreFound x = (o : Outer) → In o (outermost x) → IsSublinkOf (sublinks_of x) o

wider : (xs ys : Found) (o : Outer) → ((s : Sublink) → In s xs → In s ys) → IsSublinkOf xs o → IsSublinkOf ys o
wider xs ys o sub h = record { sublink = h.sublink; there = sub h.sublink h.there; number = h.number; query = h.query }

abbrev found_in_all : List Expr → Found
found_in_all xs = all_in (map found_in (map (beside sublinks_of) xs))

of_parts : (xs : List Expr) → Each AreFound xs → (o : Outer) → In o (all_in (map outermost xs)) → IsSublinkOf (found_in_all xs) o
of_parts [] good o h = absurd h
of_parts (x ∷ xs) good o h = elim (from_append o (outermost x) (all_in (map outermost xs)) h) [
  | inl p ↦ wider (sublinks_of x) (found_in_all (x ∷ xs)) o (λ s k. in_append_left s (sublinks_of x) (found_in_all xs) k) (good.0 o p)
  | inr q ↦ wider (found_in_all xs) (found_in_all (x ∷ xs)) o (λ s k. in_append_right s (sublinks_of x) (found_in_all xs) k) (of_parts xs good.1 o q)
]

of_here : (x : ExprLayer) (o : Outer) → In o (outer_here (outer_level x)) → IsSublinkOf (sublink_here (found_level x)) o
of_here (Expr-F.Exists sub query) o (inl e) = record { sublink = record { number = sub; node = expr.Exists sub query }; there = inl refl; number = ap (λ (p : Outer). p.number) e; query = ap sublink_query (outs-Exists sub query) ∙ ap (λ (p : Outer). Some p.query) e }
of_here (Expr-F.Exists sub query) o (inr r) = absurd r
of_here (Expr-F.InSub sub operand query) o (inl e) = record { sublink = record { number = sub; node = expr.InSub sub operand query }; there = inl refl; number = ap (λ (p : Outer). p.number) e; query = ap sublink_query (outs-InSub sub operand query) ∙ ap (λ (p : Outer). Some p.query) e }
of_here (Expr-F.InSub sub operand query) o (inr r) = absurd r
of_here x o h = absurd h

found_step : (x : ExprLayer) → Each AreFound (parts x) → AreFound (roll-Expr x)
found_step x good o h =
    let here = sublink_here (found_level x) in
    let inner = found_in_all (parts x) in
    let query = all_in (map found_in (map (beside sublinks_in) (option_part (sublink_query x)))) in
    wider (here ++ (inner ++ query)) (sublinks_of (roll-Expr x)) o (λ s k. subst (In s) (sym (found_at x)) k)
    (elim (from_append o (outer_here (outer_level x)) (all_in (map outermost (parts x))) (subst (In o) (outers_at x) h)) [
      | inl p ↦ wider here (here ++ (inner ++ query)) o (λ s k. in_append_left s here (inner ++ query) k) (of_here x o p)
      | inr q ↦ wider inner (here ++ (inner ++ query)) o (λ s k. in_append_right s here (inner ++ query) (in_append_left s inner query k)) (of_parts (parts x) good o q)
    ])

all_found : (x : Expr) → AreFound x
all_found = expr_alone AreFound found_step

unsome : (p q : Query) → Some p ≡ Some q → p ≡ q
unsome p q e = cc

pub same_query : (x : Expr) → Same (sublinks_of x) → (o p : Outer) → In o (outermost x) → In p (outermost x) → o.number ≡ p.number → o.query ≡ p.query
same_query x same o p h k e =
    let a = all_found x o h in
    let b = all_found x p k in
    let node : a.sublink.node ≡ b.sublink.node = same a.sublink b.sublink a.there b.there (a.number ∙ e ∙ sym b.number) in
    unsome o.query p.query (sym a.query ∙ ap (λ n. sublink_query (out-Expr n)) node ∙ b.query)

-- ---- rows that are lent

module _ (rows : ℕ → List Row) (env : Env) where
  -- for each sublink its rows, under its number
  abbrev pub AreLent : List Lent → Outers → Type 0
  AreLent [] [] = ⊤
  AreLent (lent ∷ more) (o ∷ os) = (lent.number ≡ o.number) × (lent.rows.items ≡ meaning rows o.query env) × AreLent more os
  AreLent _ _ = ⊥

  pub lent_more : (list : List Lent) (os : Outers) (lent : Lent) (o : Outer) → AreLent list os → lent.number ≡ o.number → lent.rows.items ≡ meaning rows o.query env → AreLent (list ++ lent ∷ []) (os ++ o ∷ [])
  lent_more [] [] lent o h e f = (e, f, tt)
  lent_more [] (p ∷ os) lent o h e f = absurd h
  lent_more (l ∷ list) [] lent o h e f = absurd h
  lent_more (l ∷ list) (p ∷ os) lent o h e f = (h.0, h.1, lent_more list os lent o h.2 e f)

  by_number : (list : List Lent) (os : Outers) → AreLent list os → (o : Outer) → In o os → ((p : Outer) → In p os → p.number ≡ o.number → p.query ≡ o.query) → rows_by_number list o.number ≡ meaning rows o.query env
  by_number [] [] h o there same = absurd there
  by_number [] (p ∷ os) h o there same = absurd h
  by_number (l ∷ list) [] h o there same = absurd h
  by_number (l ∷ list) (p ∷ os) h o there same = elim (cases_eq l.number o.number) [
    | inl e ↦ ap (λ (b : Bool). if b then l.rows.items else rows_by_number list o.number) (eq-eqb l.number o.number e) ∙ h.1 ∙ ap (λ q. meaning rows q env) (same p (inl refl) (sym h.0 ∙ e))
    | inr n ↦ ap (λ (b : Bool). if b then l.rows.items else rows_by_number list o.number) (ne_eqb l.number o.number n) ∙ by_number list os h.2 o (later there n) (λ q k e. same q (inr k) e)
  ]
    where
      later : (p ≡ o) ⊎ In o os → ¬ (l.number ≡ o.number) → In o os
      later (inl e) n = absurd (n (h.0 ∙ ap (λ (q : Outer). q.number) e))
      later (inr r) n = r

  each_given : (list : List Lent) (whole some : Outers) → AreLent list whole → ((o : Outer) → In o some → In o whole) → ((o p : Outer) → In o whole → In p whole → o.number ≡ p.number → o.query ≡ p.query) → Each (IsGiven rows (rows_by_number list) env) some
  each_given list whole [] h sub same = tt
  each_given list whole (o ∷ os) h sub same = (
    subst (λ rs. IsPermutation (rows_by_number list o.number) rs) (by_number list whole h o (sub o (inl refl)) (λ p k e. same p o k (sub o (inl refl)) e)) (IsPermutation-refl (rows_by_number list o.number)),
    each_given list whole os h (λ p k. sub p (inr k)) same,
  )

  pub all_given : (x : Expr) (list : List Lent) (os : Outers) → os ≡ outermost x → AreLent list os → Same (sublinks_of x) → All (IsGiven rows (rows_by_number list) env) (outermost x)
  all_given x list os is h same = all_of_each _ (outermost x) (each_given list (outermost x) (outermost x) (subst (AreLent list) is h) (λ o k. k) (same_query x same))

  pub none_given : (x : Expr) (list : List Lent) → outermost x ≡ [] → All (IsGiven rows (rows_by_number list) env) (outermost x)
  none_given x list e = subst (All (IsGiven rows (rows_by_number list) env)) (sym e) (λ k d low. absurd (omega (arith, low)))
