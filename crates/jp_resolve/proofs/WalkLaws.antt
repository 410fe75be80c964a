-- How answers follow from the answers of the parts, walked from left to right.
use Rattle.std.proofs.Common.{◌≡◌, ◌∙◌, inl, inr, ap, sym, subst, refl, ℕ, List, [], ◌∷◌, ◌++◌, drop, length, get_or, suc, ◌<◌, ◌+◌, arith, Option, Ok, Err, append_assoc}
use Rattle.std.proofs.Math.Seq.{drop-cons}
use Rattle.jp_ast.specs.declared.tree.Ast.{Ast}
use Rattle.jp_ast.specs.declared.tree.Ast.TheOpen.{Select-F}
use Rattle.jp_ast.specs.declared.tree.Ast.TheVariants as ast
use Rattle.jp_ast.specs.declared.tree.FromItem.{FromItem}
use Rattle.jp_ast.specs.declared.tree.FromItem.TheVariants as item
use Rattle.jp_ast.specs.declared.tree.JoinWord.{JoinWord}
use Rattle.jp_ast.specs.declared.tree.Target.{Target}
use Rattle.jp_ast.specs.declared.tree.Select.{Select, out-Select}
use Rattle.jp_catalog.specs.declared.types.Catalog.{Catalog}
use Rattle.jp_query.specs.declared.Expr.{Expr}
use Rattle.jp_query.specs.declared.JoinTree.{JoinTree}
use Rattle.jp_query.specs.declared.JoinTree.TheVariants as tree
use Rattle.jp_resolution.specs.declared.words.Counts.{Counts}
use Rattle.jp_resolution.specs.declared.words.Entry.{Entry}
use Rattle.jp_resolution.specs.declared.words.Selection.{Selection}
use Rattle.jp_resolution.specs.declared.words.TypedExpr.{TypedExpr}
use Rattle.jp_resolution.specs.declared.error.ResolveError.{ResolveError}
use Rattle.jp_resolution.specs.Answers.{Answer, ◌>>=◌, Gives}
use Rattle.jp_resolution.specs.Counting.{Levels, both}
use Rattle.jp_resolution.specs.Resolving.{Selected, Source, Sources, with_source, selection, outputs_in, case_of, kind_of}
use Rattle.jp_resolve_parts.specs.declared.outputs.Outputs.{Outputs}
use Rattle.jp_resolve_parts.specs.Outs.{with_outputs, outputs_behind}
use Rattle.jp_resolve_parts.specs.Views.{source_behind, beside_new}
use Rattle.jp_resolve_parts.proofs.OutputLaws.{outputs_joined}
use Rattle.jp_resolve.specs.Walk.{expr_in, counts_of_expr, item_in, counts_of_item, pair_in, counts_of_pair, arms_in, counts_of_arms, maybe_in, counts_of_maybe, cond_in, items_in, counts_of_items, all_outputs_in, counts_of_targets, select_in, behind, sources_behind}
use Rattle.jp_resolve.proofs.Rules.{walks, in-Case, in-Join, in-Select}
use Rattle.jp_resolve.proofs.CountLaws.{agreed, both_assoc}
use Rattle.jp_resolve.proofs.NameLaws.{place_is, label_is}

-- ---- one answer after the other

module _ {A B : Type 0} where
  pub then_refused : (a : Answer A) (f : A → Answer B) (e : ResolveError) → Gives a (Err e) → Gives (a >>= f) (Err e)
  then_refused (Ok x) f e (inl h) = inl (ap Err cc)
  then_refused (Ok x) f e (inr h) = cc
  then_refused (Err d) f e (inl h) = inl (ap Err cc)
  then_refused (Err d) f e (inr h) = inr (ap Err cc)

  pub then_given : (a : Answer A) (f : A → Answer B) (x : A) (r : Answer B) → Gives a (Ok x) → Gives (f x) r → Gives (a >>= f) r
  then_given (Ok y) f x r (inl h) g = cc
  then_given (Ok y) f x r (inr h) g = let e : x ≡ y = cc in subst (λ z. Gives (f z) r) e g
  then_given (Err d) f x r (inl h) g = cc
  then_given (Err d) f x r (inr h) g = cc

-- ---- lists of expressions

-- one more was found
pub found_more : {A : Type 0} (found : List A) (x : A) (rest : Answer (List A)) → behind found (rest >>= (λ xs. Ok (x ∷ xs))) ≡ behind (found ++ x ∷ []) rest
found_more found x (Ok xs) = ap Ok (sym (append_assoc found (x ∷ []) xs))
found_more found x (Err e) = refl

pub nothing_found : {A : Type 0} (rest : Answer (List A)) → behind [] rest ≡ rest
nothing_found (Ok xs) = refl
nothing_found (Err e) = refl

-- ---- CASE

-- its parts, one behind the other
abbrev pub case_parts : Catalog → Option Ast → List (Ast × Ast) → Option Ast → ℕ → Levels → Counts → Counts → Counts → Answer TypedExpr
case_parts c operand arms otherwise at levels before b1 b2 = do
  x ← maybe_in c operand levels before
  y ← arms_in c arms levels b1
  z ← maybe_in c otherwise levels b2
  case_of at (x, (y, z))

in_a_row : {A B C D : Type 0} (a : Answer A) (b : Answer B) (d : Answer C) (f : A × (B × C) → Answer D)
    → ((a >>= (λ x. (b >>= (λ y. d >>= (λ z. Ok (y, z)))) >>= (λ y. Ok (x, y)))) >>= f) ≡ (a >>= (λ x. b >>= (λ y. d >>= (λ z. f (x, (y, z))))))
in_a_row (Err e) b d f = refl
in_a_row (Ok x) (Err e) d f = refl
in_a_row (Ok x) (Ok y) (Err e) f = refl
in_a_row (Ok x) (Ok y) (Ok z) f = refl

pub case_walked : (c : Catalog) (a : Ast) (operand : Option Ast) (arms list : List (Ast × Ast)) (otherwise : Option Ast) (at : ℕ) (levels : Levels) (before b1 b2 : Counts)
    → a ≡ ast.Case operand arms otherwise at → list ≡ arms → b1 ≡ both before (counts_of_maybe c operand) → b2 ≡ both b1 (counts_of_arms c list)
    → case_parts c operand list otherwise at levels before b1 b2 ≡ expr_in c a levels before
case_walked c a operand arms list otherwise at levels before b1 b2 is same h1 h2 =
    (λ k. case_parts c operand (same k) otherwise at levels before (h1 k) ((h2 ∙ (λ j. both (h1 j) (counts_of_arms c (same j)))) k))
    ∙ sym (in_a_row (maybe_in c operand levels before) (arms_in c arms levels (both before (counts_of_maybe c operand))) (maybe_in c otherwise levels (both (both before (counts_of_maybe c operand)) (counts_of_arms c arms))) (case_of at))
    ∙ sym (in-Case c operand arms otherwise at levels before)
    ∙ ap (λ z. expr_in c z levels before) (sym is)

-- ---- FROM items

ok_same : {A : Type 0} (x y : A) → ◌≡◌ {A = Answer A} (Ok x) (Ok y) → x ≡ y
ok_same x y h = cc

-- what an item gave: its tree, and its entries behind the earlier ones
pub record Gave (earlier : List Entry) (a : Answer Source) (t : JoinTree) (es : List Entry) : Type 0 where
  pub source : Source
  pub is : a ≡ Ok source
  pub tree : t ≡ source.tree
  pub entries : es ≡ earlier ++ source.entries

pub gave : (earlier : List Entry) (a : Answer Source) (t : JoinTree) (es : List Entry) → Gives (source_behind earlier a) (Ok (t, es)) → Gave earlier a t es
gave earlier (Ok s) t es (inl h) = cc
gave earlier (Ok s) t es (inr h) =
    let pair = ok_same (t, es) (s.tree, earlier ++ s.entries) h in
    record { source = s; is = refl; tree = ap (λ (p : JoinTree × List Entry). p.0) pair; entries = ap (λ (p : JoinTree × List Entry). p.1) pair }
gave earlier (Err e) t es (inl h) = cc
gave earlier (Err e) t es (inr h) = cc

-- one more item
pub item_more : (trees : List JoinTree) (earlier : List Entry) (a : Answer Source) (rest : List Entry → Answer Sources) (t : JoinTree) (es : List Entry) → Gives (source_behind earlier a) (Ok (t, es))
    → sources_behind (trees ++ t ∷ []) es (rest es) ≡ sources_behind trees earlier (a >>= (λ s. rest (earlier ++ s.entries) >>= (λ more. Ok (with_source s more))))
item_more trees earlier a rest t es h =
    let g = gave earlier a t es h in
    item_step trees earlier rest t es g.source g.tree g.entries
    ∙ ap (λ b. sources_behind trees earlier (b >>= (λ s. rest (earlier ++ s.entries) >>= (λ more. Ok (with_source s more))))) (sym g.is)
  where
    sources_step : (trees : List JoinTree) (earlier : List Entry) (s : Source) (r : Answer Sources) → sources_behind (trees ++ s.tree ∷ []) (earlier ++ s.entries) r ≡ sources_behind trees earlier (r >>= (λ more. Ok (with_source s more)))
    sources_step trees earlier s (Ok more) = λ k. Ok (append_assoc trees (s.tree ∷ []) more.trees k, append_assoc earlier s.entries more.entries k)
    sources_step trees earlier s (Err e) = refl

    item_step : (trees : List JoinTree) (earlier : List Entry) (rest : List Entry → Answer Sources) (t : JoinTree) (es : List Entry) (s : Source) → t ≡ s.tree → es ≡ earlier ++ s.entries
        → sources_behind (trees ++ t ∷ []) es (rest es) ≡ sources_behind trees earlier (rest (earlier ++ s.entries) >>= (λ more. Ok (with_source s more)))
    item_step trees earlier rest t es s p q = (λ k. sources_behind (trees ++ p k ∷ []) (q k) (rest (q k))) ∙ sources_step trees earlier s (rest (earlier ++ s.entries))

-- ---- joins

behind_own : {A : Type 0} (xs ys : List A) → drop (length xs) (xs ++ ys) ≡ ys
behind_own [] ys = refl
behind_own (x ∷ xs) ys = behind_own xs ys

join_end : (kind : _) (earlier : List Entry) (s s' : Source) (x r : Answer (List Expr)) → Gives x r
    → Gives (source_behind earlier (x >>= (λ conds. Ok (record { entries = s.entries ++ s'.entries; tree = tree.Join kind s.tree s'.tree conds }))))
    (beside_new (r >>= (λ conds. Ok (tree.Join kind s.tree s'.tree conds))) ((earlier ++ s.entries) ++ s'.entries))
join_end kind earlier s s' x r (inl h) = inl (ap (λ a. beside_new (a >>= (λ conds. Ok (tree.Join kind s.tree s'.tree conds))) ((earlier ++ s.entries) ++ s'.entries)) h)
join_end kind earlier s s' (Ok conds) r (inr h) =
    inr (ap (λ a. beside_new (a >>= (λ conds. Ok (tree.Join kind s.tree s'.tree conds))) ((earlier ++ s.entries) ++ s'.entries)) h ∙ (λ k. Ok (tree.Join kind s.tree s'.tree conds, append_assoc earlier s.entries s'.entries k)))
join_end kind earlier s s' (Err e) r (inr h) = inr (ap (λ a. beside_new (a >>= (λ conds. Ok (tree.Join kind s.tree s'.tree conds))) ((earlier ++ s.entries) ++ s'.entries)) h)

pub join_walked : (c : Catalog) (i : FromItem) (word : JoinWord) (left right left' right' : FromItem) (on : Option Ast) (at : ℕ) (outer : Levels) (earlier : List Entry) (before b1 b2 : Counts)
    → (lt rt : JoinTree) (es1 es2 own : List Entry) (start : ℕ) (r : Answer (List Expr)) → i ≡ item.Join word left right on at → left' ≡ left → right' ≡ right
    → b1 ≡ both before (counts_of_item c left') → b2 ≡ both b1 (counts_of_item c right') → start ≡ length earlier
    → Gives (source_behind earlier (item_in c left' outer earlier before)) (Ok (lt, es1)) → Gives (source_behind es1 (item_in c right' outer es1 b1)) (Ok (rt, es2))
    → own ≡ drop start es2 → Gives (cond_in c on (own ∷ outer) b2) r
    → Gives (source_behind earlier (item_in c i outer earlier before)) (beside_new (r >>= (λ conds. Ok (tree.Join (kind_of word) lt rt conds))) es2)
join_walked c i word left right left' right' on at outer earlier before b1 b2 lt rt es1 es2 own start r is ls rs h1 h2 st gl gr ow gc =
    let l = gave earlier (item_in c left' outer earlier before) lt es1 gl in
    let m = gave es1 (item_in c right' outer es1 b1) rt es2 gr in
    let s = l.source in
    let s' = m.source in
    let h1' : b1 ≡ both before (counts_of_item c left) = h1 ∙ ap (λ z. both before (counts_of_item c z)) ls in
    let h2' : b2 ≡ both (both before (counts_of_item c left)) (counts_of_item c right) = h2 ∙ (λ k. both (h1' k) (counts_of_item c (rs k))) in
    let left_is : item_in c left outer earlier before ≡ Ok s = ap (λ z. item_in c z outer earlier before) (sym ls) ∙ l.is in
    let right_is : item_in c right outer (earlier ++ s.entries) (both before (counts_of_item c left)) ≡ Ok s' = (λ k. item_in c (sym rs k) outer (sym l.entries k) (sym h1' k)) ∙ m.is in
    let all : es2 ≡ (earlier ++ s.entries) ++ s'.entries = m.entries ∙ ap (λ z. z ++ s'.entries) l.entries in
    let own_is : own ≡ s.entries ++ s'.entries = ow ∙ (λ k. drop (st k) ((all ∙ append_assoc earlier s.entries s'.entries) k)) ∙ behind_own earlier (s.entries ++ s'.entries) in
    let cond : Gives (cond_in c on ((s.entries ++ s'.entries) ∷ outer) (both (both before (counts_of_item c left)) (counts_of_item c right))) r = subst (λ z. Gives z r) (λ k. cond_in c on (own_is k ∷ outer) (h2' k)) gc in
    let whole : item_in c i outer earlier before ≡ (cond_in c on ((s.entries ++ s'.entries) ∷ outer) (both (both before (counts_of_item c left)) (counts_of_item c right)) >>= (λ conds. Ok (record { entries = s.entries ++ s'.entries; tree = tree.Join (kind_of word) s.tree s'.tree conds }))) =
    ap (λ z. item_in c z outer earlier before) is ∙ in-Join c word left right on at outer earlier before
    ∙ ap (λ a. a >>= (λ (x : Source). item_in c right outer (earlier ++ x.entries) (both before (counts_of_item c left)) >>= (λ (y : Source). cond_in c on ((x.entries ++ y.entries) ∷ outer) (both (both before (counts_of_item c left)) (counts_of_item c right)) >>= (λ conds. Ok (record { entries = x.entries ++ y.entries; tree = tree.Join (kind_of word) x.tree y.tree conds }))))) left_is
    ∙ ap (λ a. a >>= (λ (y : Source). cond_in c on ((s.entries ++ y.entries) ∷ outer) (both (both before (counts_of_item c left)) (counts_of_item c right)) >>= (λ conds. Ok (record { entries = s.entries ++ y.entries; tree = tree.Join (kind_of word) s.tree y.tree conds })))) right_is in
    subst (λ z. Gives (source_behind earlier (item_in c i outer earlier before)) z) (λ k. beside_new (r >>= (λ conds. Ok (tree.Join (kind_of word) (sym l.tree k) (sym m.tree k) conds))) (sym all k))
    (subst (λ z. Gives (source_behind earlier z) (beside_new (r >>= (λ conds. Ok (tree.Join (kind_of word) s.tree s'.tree conds))) ((earlier ++ s.entries) ++ s'.entries))) (sym whole)
    (join_end (kind_of word) earlier s s' (cond_in c on ((s.entries ++ s'.entries) ∷ outer) (both (both before (counts_of_item c left)) (counts_of_item c right))) r cond))

-- ---- targets

pub record GaveOutputs (o : Outputs) (a : Answer (List Selected)) (new : Outputs) : Type 0 where
  pub outputs : List Selected
  pub is : a ≡ Ok outputs
  pub new_is : new ≡ with_outputs o outputs

pub gave_outputs : (o : Outputs) (a : Answer (List Selected)) (new : Outputs) → Gives (outputs_behind o a) (Ok new) → GaveOutputs o a new
gave_outputs o (Ok ss) new (inl h) = cc
gave_outputs o (Ok ss) new (inr h) = record { outputs = ss; is = refl; new_is = cc }
gave_outputs o (Err e) new (inl h) = cc
gave_outputs o (Err e) new (inr h) = cc

target_step : (o : Outputs) (ss : List Selected) (rest : Answer (List (List Selected))) → outputs_behind (with_outputs o ss) (rest >>= (λ lists. Ok (outputs_in lists))) ≡ outputs_behind o ((rest >>= (λ xs. Ok (ss ∷ xs))) >>= (λ lists. Ok (outputs_in lists)))
target_step o ss (Ok lists) = ap Ok (outputs_joined o ss (outputs_in lists))
target_step o ss (Err e) = refl

-- one more target
pub target_more : (o new : Outputs) (a : Answer (List Selected)) (rest : Answer (List (List Selected))) → Gives (outputs_behind o a) (Ok new)
    → outputs_behind new (rest >>= (λ lists. Ok (outputs_in lists))) ≡ outputs_behind o ((a >>= (λ x. rest >>= (λ xs. Ok (x ∷ xs)))) >>= (λ lists. Ok (outputs_in lists)))
target_more o new a rest h =
    let g = gave_outputs o a new h in
    ap (λ z. outputs_behind z (rest >>= (λ lists. Ok (outputs_in lists)))) g.new_is
    ∙ target_step o g.outputs rest
    ∙ ap (λ b. outputs_behind o ((b >>= (λ x. rest >>= (λ xs. Ok (x ∷ xs)))) >>= (λ lists. Ok (outputs_in lists)))) (sym g.is)

-- ---- selects

pub record GaveSources (a : Answer Sources) (members : List JoinTree) (es : List Entry) : Type 0 where
  pub sources : Sources
  pub is : a ≡ Ok sources
  pub trees : members ≡ sources.trees
  pub entries : es ≡ sources.entries

pub gave_sources : (a : Answer Sources) (members : List JoinTree) (es : List Entry) → Gives (sources_behind [] [] a) (Ok (members, es)) → GaveSources a members es
gave_sources (Ok s) members es (inl h) = cc
gave_sources (Ok s) members es (inr h) =
    let pair = ok_same (members, es) (s.trees, s.entries) h in
    record { sources = s; is = refl; trees = ap (λ (p : List JoinTree × List Entry). p.0) pair; entries = ap (λ (p : List JoinTree × List Entry). p.1) pair }
gave_sources (Err e) members es (inl h) = cc
gave_sources (Err e) members es (inr h) = cc

abbrev no_outputs : Outputs
no_outputs = record { list = []; columns = [] }

-- what a select gives where its FROM list has given these trees and entries
abbrev pub select_rest : Catalog → Select-F Ast FromItem Target Select → List JoinTree → List Entry → Levels → Counts → Counts → Answer Selection
select_rest c s members es outer before b2 = do
  conds ← cond_in c s.cond (es ∷ outer) b2
  outputs ← all_outputs_in c s.targets (es ∷ outer) before
  Ok (selection s.distinct (record { entries = es; trees = members }) conds outputs)

pub select_walked : (c : Catalog) (s : Select) (outer : Levels) (before b1 b2 : Counts) (members : List JoinTree) (es : List Entry)
    → b1 ≡ both before (counts_of_targets c (out-Select s).targets) → b2 ≡ both b1 (counts_of_items c (out-Select s).items)
    → Gives (sources_behind [] [] (items_in c (out-Select s).items outer [] b1)) (Ok (members, es))
    → select_rest c (out-Select s) members es outer before b2 ≡ select_in c s outer before
select_walked c s outer before b1 b2 members es h1 h2 h =
    let x = out-Select s in
    let g = gave_sources (items_in c x.items outer [] b1) members es h in
    let is : items_in c x.items outer [] (both before (counts_of_targets c x.targets)) ≡ Ok g.sources = ap (items_in c x.items outer []) (sym h1) ∙ g.is in
    (λ k. select_rest c x (g.trees k) (g.entries k) outer before ((h2 ∙ ap (λ z. both z (counts_of_items c x.items)) h1) k))
    ∙ ap (λ a. a >>= (λ (sources : Sources). cond_in c x.cond (sources.entries ∷ outer) (both (both before (counts_of_targets c x.targets)) (counts_of_items c x.items)) >>= (λ conds. all_outputs_in c x.targets (sources.entries ∷ outer) before >>= (λ outputs. Ok (selection x.distinct sources conds outputs))))) (sym is)
    ∙ sym (in-Select c s outer before)

-- ---- what calls have given

pub given_is : {A : Type 0} (a : Answer A) (x : A) → Gives a (Ok x) → a ≡ Ok x
given_is a x (inl h) = cc
given_is a x (inr h) = sym h

pub add_one : (n : ℕ) → n + 1 ≡ suc n
add_one n = omega arith

-- one more arm of CASE
pub arms_more : (c : Catalog) (levels : Levels) (found new : List (TypedExpr × TypedExpr)) (arms : List (Ast × Ast)) (i n : ℕ) (arm : Ast × Ast) (after b1 k1 k2 next : Counts) (when then : TypedExpr)
    → arm ≡ get_or arms i arm → i < length arms → n ≡ suc i
    → Gives (Ok (counts_of_expr c arm.0)) (Ok k1) → Gives (Ok (both after k1)) (Ok b1) → Gives (Ok (counts_of_expr c arm.1)) (Ok k2)
    → Gives (expr_in c arm.0 levels after) (Ok when) → Gives (expr_in c arm.1 levels b1) (Ok then) → Gives (Ok (both b1 k2)) (Ok next) → new ≡ found ++ (when, then) ∷ []
    → behind new (arms_in c (drop n arms) levels next) ≡ behind found (arms_in c (drop i arms) levels after)
arms_more c levels found new arms i n arm after b1 k1 k2 next when then is below one g1 g2 g3 gw gt g4 more =
    let p1 : k1 ≡ counts_of_expr c arm.0 = agreed (counts_of_expr c arm.0) k1 g1 in
    let p2 : b1 ≡ both after (counts_of_expr c arm.0) = agreed (both after k1) b1 g2 ∙ ap (both after) p1 in
    let p3 : k2 ≡ counts_of_expr c arm.1 = agreed (counts_of_expr c arm.1) k2 g3 in
    let p4 : next ≡ both after (counts_of_pair c arm.0 arm.1) = agreed (both b1 k2) next g4 ∙ (λ k. both (p2 k) (p3 k)) ∙ both_assoc after (counts_of_expr c arm.0) (counts_of_expr c arm.1) in
    let w : expr_in c arm.0 levels after ≡ Ok when = given_is (expr_in c arm.0 levels after) when gw in
    let t : expr_in c arm.1 levels (both after (counts_of_expr c arm.0)) ≡ Ok then = ap (expr_in c arm.1 levels) (sym p2) ∙ given_is (expr_in c arm.1 levels b1) then gt in
    let pair : pair_in c arm.0 arm.1 levels after ≡ Ok (when, then) = (λ k. w k >>= (λ x. expr_in c arm.1 levels (both after (counts_of_expr c arm.0)) >>= (λ y. Ok (x, y)))) ∙ ap (λ a. a >>= (λ y. Ok (when, y))) t in
    let rest : drop i arms ≡ arm ∷ drop n arms = drop-cons arms i arm below ∙ (λ k. sym is k ∷ drop (sym one k) arms) in
    (λ k. behind (more k) (arms_in c (drop n arms) levels (p4 k)))
    ∙ sym (found_more found (when, then) (arms_in c (drop n arms) levels (both after (counts_of_pair c arm.0 arm.1))))
    ∙ ap (λ a. behind found (a >>= (λ x. arms_in c (drop n arms) levels (both after (counts_of_pair c arm.0 arm.1)) >>= (λ xs. Ok (x ∷ xs))))) (sym pair)
    ∙ ap (λ z. behind found (arms_in c z levels after)) (sym rest)

-- a whole select
pub select_done : (c : Catalog) (s : Select) (outer levels : Levels) (before b1 b2 : Counts) (members : List JoinTree) (es : List Entry) (conds : List Expr) (o : Outputs)
    → b1 ≡ both before (counts_of_targets c (out-Select s).targets) → b2 ≡ both b1 (counts_of_items c (out-Select s).items)
    → Gives (sources_behind [] [] (items_in c (out-Select s).items outer [] b1)) (Ok (members, es)) → levels ≡ es ∷ outer
    → Gives (cond_in c (out-Select s).cond levels b2) (Ok conds) → Gives (outputs_behind no_outputs (all_outputs_in c (out-Select s).targets levels before)) (Ok o)
    → Gives (select_in c s outer before) (Ok (record { entries = es; outputs = o.list; columns = o.columns; distinct = (out-Select s).distinct; tree = tree.From members []; conds = conds }))
select_done c s outer levels before b1 b2 members es conds o h1 h2 gs l gc go =
    let x = out-Select s in
    let g = gave_outputs no_outputs (all_outputs_in c x.targets levels before) o go in
    let cond : cond_in c x.cond (es ∷ outer) b2 ≡ Ok conds = ap (λ z. cond_in c x.cond z b2) (sym l) ∙ given_is (cond_in c x.cond levels b2) conds gc in
    let outputs : all_outputs_in c x.targets (es ∷ outer) before ≡ Ok g.outputs = ap (λ z. all_outputs_in c x.targets z before) (sym l) ∙ g.is in
    let whole : select_rest c x members es outer before b2 ≡ Ok (selection x.distinct (record { entries = es; trees = members }) conds g.outputs) =
    ap (λ a. a >>= (λ cs. all_outputs_in c x.targets (es ∷ outer) before >>= (λ os. Ok (selection x.distinct (record { entries = es; trees = members }) cs os)))) cond
    ∙ ap (λ a. a >>= (λ os. Ok (selection x.distinct (record { entries = es; trees = members }) conds os))) outputs in
    inr (sym (sym (select_walked c s outer before b1 b2 members es h1 h2 gs) ∙ whole ∙ (λ k. Ok (record { entries = es; outputs = (sym g.new_is k).list; columns = (sym g.new_is k).columns; distinct = x.distinct; tree = tree.From members []; conds = conds }))))

pub ruleset walking = (walks, found_more, nothing_found, place_is, label_is)
