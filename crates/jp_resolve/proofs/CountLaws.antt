-- Counts put together in another order.
use Rattle.std.proofs.Common.{◌≡◌, ◌∙◌, ap, sym, ℕ, ◌+◌, ◌<◌, List, Option, Ok, inl, inr, arith, rules}
use Rattle.jp_ast.specs.declared.tree.Ast.{Ast}
use Rattle.jp_ast.specs.declared.tree.Ast.TheOpen.{FromItem-F}
use Rattle.jp_ast.specs.declared.tree.Ast.TheVariants as ast
use Rattle.jp_ast.specs.declared.tree.FromItem.{FromItem, roll-FromItem, out-FromItem, roll-out-FromItem, size-FromItem, the_lemmas}
use Rattle.jp_ast.specs.declared.tree.FromItem.TheVariants as item
use Rattle.jp_ast.specs.declared.tree.JoinWord.{JoinWord}
use Rattle.jp_ast.specs.declared.tree.Select.{Select}
use Rattle.jp_ast.specs.declared.tree.Target.{Target}
use Rattle.jp_catalog.specs.declared.types.Catalog.{Catalog}
use Rattle.jp_resolution.specs.Answers.{Gives}
use Rattle.jp_resolution.specs.declared.words.Counts.{Counts}
use Rattle.jp_resolution.specs.Counting.{none, one_entry, both}
use Rattle.jp_resolve.specs.Walk.{counts_of_expr, counts_of_arms, counts_of_item, counts_of_maybe}
use Rattle.jp_resolve.proofs.Rules.{all_counts, counts-Case, counts-Table, counts-Join}

plus_assoc : (a b c : ℕ) → (a + b) + c ≡ a + (b + c)
plus_assoc a b c = omega arith

plus_nothing : (a : ℕ) → a + 0 ≡ a
plus_nothing a = omega arith

nothing_plus : (a : ℕ) → 0 + a ≡ a
nothing_plus a = omega arith

pub both_assoc : (a b c : Counts) → both (both a b) c ≡ both a (both b c)
both_assoc a b c = λ k. record { entries = plus_assoc a.entries b.entries c.entries k; sublinks = plus_assoc a.sublinks b.sublinks c.sublinks k }

pub both_none : (a : Counts) → both a none ≡ a
both_none a = λ k. record { entries = plus_nothing a.entries k; sublinks = plus_nothing a.sublinks k }

pub none_both : (a : Counts) → both none a ≡ a
none_both a = λ k. record { entries = nothing_plus a.entries k; sublinks = nothing_plus a.sublinks k }

pub ruleset counting = (all_counts, both_assoc, both_none, none_both)

-- what a call gives that gives a value
pub agreed : {A : Type 0} (x y : A) → Gives (Ok x) (Ok y) → y ≡ x
agreed x y (inl e) = cc
agreed x y (inr e) = cc

-- one more join on the left spine
pub join_counted : (c : Catalog) (i : FromItem) (kind : JoinWord) (left right : FromItem) (on : Option Ast) (at : ℕ) (join counts more : Counts) → i ≡ item.Join kind left right on at
    → join ≡ both (counts_of_item c right) (counts_of_maybe c on) → more ≡ both join counts → both (counts_of_item c left) more ≡ both (counts_of_item c i) counts
join_counted c i kind left right on at join counts more is j m =
    ap (both (counts_of_item c left)) (m ∙ ap (λ z. both z counts) j)
    ∙ sym (both_assoc (counts_of_item c left) (both (counts_of_item c right) (counts_of_maybe c on)) counts)
    ∙ ap (λ z. both z counts) (sym (both_assoc (counts_of_item c left) (counts_of_item c right) (counts_of_maybe c on)) ∙ sym (counts-Join c kind left right on at) ∙ ap (counts_of_item c) (sym is))

table_level : (c : Catalog) (i : FromItem) (y : FromItem-F Ast FromItem Target Select) → roll-FromItem y ≡ i
    → ((kind : JoinWord) (left right : FromItem) (on : Option Ast) (at : ℕ) → i ≡ item.Join kind left right on at → ⊥)
    → ((select : Select) (alias : Option (List ℕ)) (at : ℕ) → i ≡ item.Sub select alias at → ⊥) → counts_of_item c i ≡ one_entry
table_level c i (FromItem-F.Table name alias at) e no_join no_sub = ap (counts_of_item c) (sym e ∙ item.rolls-Table name alias at) ∙ counts-Table c name alias at
table_level c i (FromItem-F.Sub select alias at) e no_join no_sub = absurd (no_sub select alias at (sym e ∙ item.rolls-Sub select alias at))
table_level c i (FromItem-F.Join kind left right on at) e no_join no_sub = absurd (no_join kind left right on at (sym e ∙ item.rolls-Join kind left right on at))

pub table_counted : (c : Catalog) (i : FromItem) → ((kind : JoinWord) (left right : FromItem) (on : Option Ast) (at : ℕ) → i ≡ item.Join kind left right on at → ⊥)
    → ((select : Select) (alias : Option (List ℕ)) (at : ℕ) → i ≡ item.Sub select alias at → ⊥) → counts_of_item c i ≡ one_entry
table_counted c i = table_level c i (out-FromItem i) (roll-out-FromItem i)

pub left_smaller : (i : FromItem) (kind : JoinWord) (left right : FromItem) (on : Option Ast) (at : ℕ) → i ≡ item.Join kind left right on at → (side : FromItem) → side ≡ left → size-FromItem side < size-FromItem i
left_smaller i kind left right on at is side e =
    let smaller : size-FromItem left < size-FromItem (item.Join kind left right on at) = search (rules, the_lemmas) in
    rw (e, is) smaller

pub case_counted : (c : Catalog) (a : Ast) (operand : Option Ast) (arms list : List (Ast × Ast)) (otherwise : Option Ast) (at : ℕ) (o r s results counts : Counts)
    → a ≡ ast.Case operand arms otherwise at → Gives (Ok (counts_of_maybe c operand)) (Ok o) → list ≡ arms → Gives (Ok (counts_of_arms c list)) (Ok r) → Gives (Ok (counts_of_maybe c otherwise)) (Ok s)
    → Gives (Ok (both r s)) (Ok results) → Gives (Ok (both o results)) (Ok counts) → Gives (Ok (counts_of_expr c a)) (Ok counts)
case_counted c a operand arms list otherwise at o r s results counts is first same second third inner outer =
    let p : counts_of_maybe c operand ≡ o = sym (agreed (counts_of_maybe c operand) o first) in
    let q : counts_of_arms c arms ≡ r = ap (counts_of_arms c) (sym same) ∙ sym (agreed (counts_of_arms c list) r second) in
    let u : counts_of_maybe c otherwise ≡ s = sym (agreed (counts_of_maybe c otherwise) s third) in
    let v : both r s ≡ results = sym (agreed (both r s) results inner) in
    let w : both o results ≡ counts = sym (agreed (both o results) counts outer) in
    let e : counts_of_expr c a ≡ counts = ap (counts_of_expr c) is ∙ counts-Case c operand arms otherwise at ∙ (λ k. both (p k) (both (q k) (u k))) ∙ ap (both o) v ∙ w in
    inr (ap Ok (sym e))
