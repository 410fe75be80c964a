-- The columns of an expression at each constructor.
use Rattle.std.proofs.Common.{◌≡◌, ◌∙◌, ap, sym, refl, ℕ, Bool, List, [], ◌∷◌, ◌++◌, map, ◌+◌, ◌<◌, length, get_or, take, append-nil, append_assoc, zero, suc, arith}
use Rattle.std.specs.List.{flat_map}
use Rattle.std.proofs.lemmas.List.{take_more}
use Rattle.std.specs.Prelude.{Option, Some, None, ◌≤◌, drop, slice_get}
use Rattle.jp_base.specs.declared.values.Ty.{Ty}
use Rattle.jp_base.specs.declared.values.Value.{Value}
use Rattle.jp_query.specs.declared.CmpOp.{CmpOp}
use Rattle.jp_query.specs.declared.IsTest.{IsTest}
use Rattle.jp_query.specs.declared.Query.{Query}
use Rattle.jp_query.specs.declared.Expr.TheVariants as expr
use Rattle.jp_query.specs.declared.Expr.TheOpen.{Expr-F}
use Rattle.jp_query.specs.declared.Expr.{Expr}
use Rattle.jp_query.specs.Parts.{all_in, term_part, arm_parts, option_part, parts, ColumnRef, node_column}
use Rattle.jp_query.specs.declared.JoinTree.{JoinTree}
use Rattle.jp_query.specs.declared.Order.{Order}
use Rattle.jp_query.specs.declared.Output.{Output}
use Rattle.jp_query.specs.declared.Expr.TheViews.{roll-Expr}
use Rattle.jp_query.specs.declared.Expr.TheFolds.{map-Expr, fold-roll-Expr}
use Rattle.jp_query.specs.Layers.{ExprLayer}
use Rattle.jp_induction.proofs.EachPart.{parts_map, append_map}
use Rattle.jp_tree.specs.BlockParts.{column_level, own_columns, columns_named, exprs_in, IsBlockAt}
use Rattle.jp_tree.specs.declared.prepared.Block.{Block}
use Rattle.jp_tree.specs.declared.prepared.Prepared.{Prepared}
use Rattle.jp_facts.proofs.Members.{In, in_flat_map, in_map}
use Rattle.jp_lists.proofs.Arounds.{at_in}
use Rattle.jp_outputs.specs.Columns.{column_place, places_from, places_in, places_of_block}

-- ---- at one level

abbrev level : ExprLayer → Expr-F (List ColumnRef) (Unit {0}) (Unit {0}) (Unit {0}) (Unit {0})
level = map-Expr Expr JoinTree Order Output Query (List ColumnRef) (Unit {0}) (Unit {0}) (Unit {0}) (Unit {0}) own_columns (λ t. tt) (λ o. tt) (λ u. tt) (λ q. tt)

here_same : (x : ExprLayer) → node_column (level x) ≡ node_column x
here_same (Expr-F.Col rel col ty nulled) = refl
here_same x = refl

places_all : (es : List Expr) → map column_place (all_in (map own_columns es)) ≡ all_in (map places_in es)
unfolding places_in
places_all [] = refl
places_all (e ∷ es) = append_map column_place (own_columns e) (all_in (map own_columns es)) ∙ ap (λ ps. map column_place (own_columns e) ++ ps) (places_all es)

pub places_at : (x : ExprLayer) → places_in (roll-Expr x) ≡ map column_place (node_column x) ++ all_in (map places_in (parts x))
unfolding places_in
places_at x = ap (map column_place) (fold-roll-Expr (List ColumnRef) (Unit {0}) (Unit {0}) (Unit {0}) (Unit {0}) column_level (λ t. tt) (λ o. tt) (λ u. tt) (λ q. tt) x
    ∙ ap (λ cs. cs ++ all_in (parts (level x))) (here_same x)
    ∙ ap (λ cs. node_column x ++ all_in cs) (parts_map own_columns (λ t. tt) (λ o. tt) (λ u. tt) (λ q. tt) x))
    ∙ append_map column_place (node_column x) (all_in (map own_columns (parts x)))
    ∙ ap (λ ps. map column_place (node_column x) ++ ps) (places_all (parts x))

pub places-Col : (rel col : ℕ) (ty : Ty) (nulled : ℕ) → places_in (expr.Col rel col ty nulled) ≡ (rel, col) ∷ []
places-Col rel col ty nulled = ap places_in (sym (expr.rolls-Col rel col ty nulled)) ∙ places_at (Expr-F.Col rel col ty nulled)

pub places-Lit : (v : Value) (ty : Ty) → places_in (expr.Lit v ty) ≡ []
places-Lit v ty = ap places_in (sym (expr.rolls-Lit v ty)) ∙ places_at (Expr-F.Lit v ty)

pub places-Place : (inner : Expr) (rels : ℕ) → places_in (expr.Place inner rels) ≡ places_in inner
places-Place inner rels = ap places_in (sym (expr.rolls-Place inner rels)) ∙ places_at (Expr-F.Place inner rels) ∙ append-nil (places_in inner)

pub places-Neg : (e : Expr) → places_in (expr.Neg e) ≡ places_in e
places-Neg e = ap places_in (sym (expr.rolls-Neg e)) ∙ places_at (Expr-F.Neg e) ∙ append-nil (places_in e)

pub places-Sum : (terms : List (Bool × Expr)) → places_in (expr.Sum terms) ≡ all_in (map places_in (map term_part terms))
places-Sum terms = ap places_in (sym (expr.rolls-Sum terms)) ∙ places_at (Expr-F.Sum terms)

pub places-Product : (es : List Expr) → places_in (expr.Product es) ≡ all_in (map places_in es)
places-Product es = ap places_in (sym (expr.rolls-Product es)) ∙ places_at (Expr-F.Product es)

pub places-Concat : (es : List Expr) → places_in (expr.Concat es) ≡ all_in (map places_in es)
places-Concat es = ap places_in (sym (expr.rolls-Concat es)) ∙ places_at (Expr-F.Concat es)

pub places-Compare : (op : CmpOp) (a b : Expr) → places_in (expr.Compare op a b) ≡ places_in a ++ places_in b
places-Compare op a b = ap places_in (sym (expr.rolls-Compare op a b)) ∙ places_at (Expr-F.Compare op a b) ∙ ap (λ ps. places_in a ++ ps) (append-nil (places_in b))

pub places-Between : (a b c : Expr) → places_in (expr.Between a b c) ≡ places_in a ++ (places_in b ++ places_in c)
places-Between a b c = ap places_in (sym (expr.rolls-Between a b c)) ∙ places_at (Expr-F.Between a b c) ∙ ap (λ ps. places_in a ++ (places_in b ++ ps)) (append-nil (places_in c))

pub places-InList : (e : Expr) (es : List Expr) → places_in (expr.InList e es) ≡ places_in e ++ all_in (map places_in es)
places-InList e es = ap places_in (sym (expr.rolls-InList e es)) ∙ places_at (Expr-F.InList e es)

pub places-And : (es : List Expr) → places_in (expr.And es) ≡ all_in (map places_in es)
places-And es = ap places_in (sym (expr.rolls-And es)) ∙ places_at (Expr-F.And es)

pub places-Or : (es : List Expr) → places_in (expr.Or es) ≡ all_in (map places_in es)
places-Or es = ap places_in (sym (expr.rolls-Or es)) ∙ places_at (Expr-F.Or es)

pub places-Not : (e : Expr) → places_in (expr.Not e) ≡ places_in e
places-Not e = ap places_in (sym (expr.rolls-Not e)) ∙ places_at (Expr-F.Not e) ∙ append-nil (places_in e)

pub places-Test : (test : IsTest) (e : Expr) → places_in (expr.Test test e) ≡ places_in e
places-Test test e = ap places_in (sym (expr.rolls-Test test e)) ∙ places_at (Expr-F.Test test e) ∙ append-nil (places_in e)

pub places-Coalesce : (es : List Expr) → places_in (expr.Coalesce es) ≡ all_in (map places_in es)
places-Coalesce es = ap places_in (sym (expr.rolls-Coalesce es)) ∙ places_at (Expr-F.Coalesce es)

pub places-Exists : (sub : ℕ) (q : Query) → places_in (expr.Exists sub q) ≡ []
places-Exists sub q = ap places_in (sym (expr.rolls-Exists sub q)) ∙ places_at (Expr-F.Exists sub q)

pub places-InSub : (sub : ℕ) (e : Expr) (q : Query) → places_in (expr.InSub sub e q) ≡ places_in e
places-InSub sub e q = ap places_in (sym (expr.rolls-InSub sub e q)) ∙ places_at (Expr-F.InSub sub e q) ∙ append-nil (places_in e)

abbrev pub of_option : Option Expr → (List (ℕ × ℕ))
of_option (Some e) = places_in e
of_option None = []

option_places : (o : Option Expr) (rest : (List (ℕ × ℕ))) (more : List Expr) → all_in (map places_in more) ≡ rest → all_in (map places_in (option_part o ++ more)) ≡ of_option o ++ rest
option_places (Some e) rest more is = ap (λ ps. places_in e ++ ps) is
option_places None rest more is = is

alone : (o : Option Expr) → all_in (map places_in (option_part o)) ≡ of_option o
alone (Some e) = append-nil (places_in e)
alone None = refl

both_lists : (xs ys : List Expr) → all_in (map places_in (xs ++ ys)) ≡ all_in (map places_in xs) ++ all_in (map places_in ys)
both_lists [] ys = refl
both_lists (x ∷ xs) ys = ap (λ ps. places_in x ++ ps) (both_lists xs ys) ∙ sym (append_assoc (places_in x) (all_in (map places_in xs)) (all_in (map places_in ys)))

pub places-Case : (operand : Option Expr) (arms : List (Expr × Expr)) (otherwise : Option Expr) → places_in (expr.Case operand arms otherwise) ≡ of_option operand ++ (all_in (map places_in (arm_parts arms)) ++ of_option otherwise)
places-Case operand arms otherwise = ap places_in (sym (expr.rolls-Case operand arms otherwise)) ∙ places_at (Expr-F.Case operand arms otherwise)
    ∙ option_places operand (all_in (map places_in (arm_parts arms)) ++ of_option otherwise) (arm_parts arms ++ option_part otherwise) (both_lists (arm_parts arms) (option_part otherwise) ∙ ap (λ ps. all_in (map places_in (arm_parts arms)) ++ ps) (alone otherwise))

-- ---- one after the other

pub two_added : (new mid old a b whole : (List (ℕ × ℕ))) → new ≡ mid ++ b → mid ≡ old ++ a → whole ≡ a ++ b → new ≡ old ++ whole
two_added new mid old a b whole e f w = e ∙ ap (λ ps. ps ++ b) f ∙ append_assoc old a b ∙ ap (λ ps. old ++ ps) (sym w)

pub none_added : (old whole : (List (ℕ × ℕ))) → whole ≡ [] → old ≡ old ++ whole
none_added old whole w = sym (append-nil old) ∙ ap (λ ps. old ++ ps) (sym w)

pub in_list_more : (es : List Expr) (i : ℕ) (e : Expr) → i < length es → e ≡ get_or es i e → all_in (map places_in (take (i + 1) es)) ≡ all_in (map places_in (take i es)) ++ places_in e
in_list_more es i e h is = ap (λ xs. all_in (map places_in xs)) (take_more es i e h) ∙ both_lists (take i es) (get_or es i e ∷ [])
    ∙ ap (λ ps. all_in (map places_in (take i es)) ++ ps) (append-nil (places_in (get_or es i e)) ∙ ap places_in (sym is))

terms_both : (xs ys : List (Bool × Expr)) → map term_part (xs ++ ys) ≡ map term_part xs ++ map term_part ys
terms_both [] ys = refl
terms_both (x ∷ xs) ys = ap (λ es. x.1 ∷ es) (terms_both xs ys)

pub in_terms_more : (ts : List (Bool × Expr)) (i : ℕ) (t : Bool × Expr) → i < length ts → t ≡ get_or ts i t → all_in (map places_in (map term_part (take (i + 1) ts))) ≡ all_in (map places_in (map term_part (take i ts))) ++ places_in t.1
in_terms_more ts i t h is = ap (λ xs. all_in (map places_in (map term_part xs))) (take_more ts i t h) ∙ ap (λ es. all_in (map places_in es)) (terms_both (take i ts) (get_or ts i t ∷ []))
    ∙ both_lists (map term_part (take i ts)) ((get_or ts i t).1 ∷ [])
    ∙ ap (λ ps. all_in (map places_in (map term_part (take i ts))) ++ ps) (append-nil (places_in (get_or ts i t).1) ∙ ap (λ (u : Bool × Expr). places_in u.1) (sym is))

arms_both : (xs ys : List (Expr × Expr)) → arm_parts (xs ++ ys) ≡ arm_parts xs ++ arm_parts ys
arms_both [] ys = refl
arms_both (x ∷ xs) ys = ap (λ es. x.0 ∷ x.1 ∷ es) (arms_both xs ys)

pub in_arms_more : (as' : List (Expr × Expr)) (i : ℕ) (a : Expr × Expr) → i < length as' → a ≡ get_or as' i a → all_in (map places_in (arm_parts (take (i + 1) as'))) ≡ all_in (map places_in (arm_parts (take i as'))) ++ (places_in a.0 ++ places_in a.1)
in_arms_more as' i a h is = ap (λ xs. all_in (map places_in (arm_parts xs))) (take_more as' i a h) ∙ ap (λ es. all_in (map places_in es)) (arms_both (take i as') (get_or as' i a ∷ []))
    ∙ both_lists (arm_parts (take i as')) ((get_or as' i a).0 ∷ (get_or as' i a).1 ∷ [])
    ∙ ap (λ ps. all_in (map places_in (arm_parts (take i as'))) ++ ps) (ap (λ ps. places_in (get_or as' i a).0 ++ ps) (append-nil (places_in (get_or as' i a).1)) ∙ ap (λ (b : Expr × Expr). places_in b.0 ++ places_in b.1) (sym is))

-- ---- a block

places_of_all : (es : List Expr) → map column_place (flat_map own_columns es) ≡ flat_map places_in es
unfolding places_in
places_of_all [] = refl
places_of_all (e ∷ es) = append_map column_place (own_columns e) (flat_map own_columns es) ∙ ap (λ ps. map column_place (own_columns e) ++ ps) (places_of_all es)

pub block_places : (block : Block) → places_of_block block ≡ flat_map places_in (exprs_in block)
block_places block = places_of_all (exprs_in block)

in_drop : {X : Type 0} (xs : List X) (first k : ℕ) (x : X) → first ≤ k → slice_get xs k ≡ Some x → In x (drop first xs)
in_drop [] first k x low there = cc
in_drop (y ∷ ys) zero k x low there = at_in (y ∷ ys) k x there
in_drop (y ∷ ys) (suc first) zero x low there = absurd (omega (arith, low))
in_drop (y ∷ ys) (suc first) (suc k) x low there = in_drop ys first k x (omega (arith, low)) there

-- each column that a block names is among those of the blocks from a number on that doesn't pass the block's
pub column_listed : (prepared : Prepared) (first k : ℕ) (block : Block) (c : ColumnRef) → first ≤ k → IsBlockAt prepared k block → In c (columns_named block) → In (column_place c) (places_from prepared first)
column_listed prepared first k block c low there named =
    in_flat_map places_of_block block (column_place c) (drop first prepared.blocks) (in_drop prepared.blocks first k block low there) (in_map column_place c (columns_named block) named)

pub ruleset equations = (places-Col, places-Lit, places-Place, places-Neg, places-Sum, places-Product, places-Concat, places-Compare, places-Between, places-InList, places-And, places-Or, places-Not, places-Test, places-Coalesce, places-Exists, places-InSub, places-Case)
