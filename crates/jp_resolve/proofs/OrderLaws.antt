-- How the items of ORDER BY are written, and what they give.
use Rattle.std.proofs.Common.{◌≡◌, ◌∙◌, ap, sym, refl, ℕ, Bool, true, false, List, [], ◌∷◌, map, Ok}
use Rattle.std.specs.Prelude.{ℤ}
use Rattle.jp_ast.specs.declared.tree.Ast.{Ast, out-Ast, roll-Ast, roll-out-Ast}
use Rattle.jp_ast.specs.declared.tree.Ast.TheOpen.{Ast-F}
use Rattle.jp_ast.specs.declared.tree.FromItem.{FromItem}
use Rattle.jp_ast.specs.declared.tree.Target.{Target}
use Rattle.jp_ast.specs.declared.tree.Select.{Select}
use Rattle.jp_ast.specs.declared.tree.OrderAst.{OrderAst}
use Rattle.jp_ast.specs.declared.tree.Ast.TheVariants as ast
use Rattle.jp_ast.specs.declared.tree.Ast.TheFolds.{map-Ast, fold-roll-Ast}
use Rattle.jp_catalog.specs.declared.types.Catalog.{Catalog}
use Rattle.jp_query.specs.declared.Output.{Output}
use Rattle.jp_resolution.specs.declared.words.Counts.{Counts}
use Rattle.jp_resolution.specs.declared.words.Selection.{Selection}
use Rattle.jp_resolution.specs.Answers.{◌>>=◌}
use Rattle.jp_resolution.specs.Counting.{Part, Levels, both, all_over}
use Rattle.jp_resolution.specs.Ordering.{Written, as_name, as_number, as_literal, as_signed, as_other, signed}
use Rattle.jp_resolution.specs.Resolving.{AstMeant, ItemMeant, Targets, ast_meant, item_meant, target_meant, select_meant, meant_by, item_by, target_by, select_by, written_as, order_by, counts_in_orders}
use Rattle.jp_statements.proofs.FoldLaws as laws
use Rattle.jp_resolve.specs.Walk.{expr_in, counts_of_expr, place_of_expr}
use Rattle.jp_resolve.specs.Orders.{written_of_expr, is_bare_literal, order_in, orders_in, counts_of_orders}
use Rattle.jp_resolve.proofs.CountLaws.{both_assoc, both_none, none_both}
use Rattle.jp_resolve.proofs.NameLaws.{place_is}
use Rattle.jp_resolve.proofs.Rules.{place-Name, place-Number, place-Text, place-Bool, place-Null, place-Sign}
use Rattle.jp_resolve.proofs.WalkLaws.{found_more, nothing_found}

pub written-Name : (c : Catalog) (name : List ℕ) (at : ℕ) → written_of_expr c (ast.Name name at) ≡ as_name name
unfolding written_of_expr
written-Name c name at = ap (λ (m : AstMeant). m.written) (laws.at-Name ast_meant (item_meant c) target_meant select_meant name at)

pub written-Number : (c : Catalog) (n : ℤ) (at : ℕ) → written_of_expr c (ast.Number n at) ≡ as_number n
unfolding written_of_expr
written-Number c n at = ap (λ (m : AstMeant). m.written) (laws.at-Number ast_meant (item_meant c) target_meant select_meant n at)

pub written-Text : (c : Catalog) (bytes : List ℕ) (at : ℕ) → written_of_expr c (ast.Text bytes at) ≡ as_literal
unfolding written_of_expr
written-Text c bytes at = ap (λ (m : AstMeant). m.written) (laws.at-Text ast_meant (item_meant c) target_meant select_meant bytes at)

pub written-Bool : (c : Catalog) (b : Bool) (at : ℕ) → written_of_expr c (ast.Bool b at) ≡ as_literal
unfolding written_of_expr
written-Bool c b at = ap (λ (m : AstMeant). m.written) (laws.at-Bool ast_meant (item_meant c) target_meant select_meant b at)

pub written-Null : (c : Catalog) (at : ℕ) → written_of_expr c (ast.Null at) ≡ as_literal
unfolding written_of_expr
written-Null c at = ap (λ (m : AstMeant). m.written) (laws.at-Null ast_meant (item_meant c) target_meant select_meant at)

pub written-Sign : (c : Catalog) (minus : Bool) (operand : Ast) (at : ℕ) → written_of_expr c (ast.Sign minus operand at) ≡ signed (written_of_expr c operand)
unfolding written_of_expr
written-Sign c minus operand at = ap (λ (m : AstMeant). m.written) (laws.at-Sign ast_meant (item_meant c) target_meant select_meant minus operand at)

-- ---- signs

pub signed_literal : (w : Written) → is_bare_literal w ≡ true → signed w ≡ as_signed
signed_literal (as_name name) h = cc
signed_literal (as_number n) h = refl
signed_literal as_literal h = refl
signed_literal as_signed h = cc
signed_literal as_other h = cc

pub signed_other : (w : Written) → is_bare_literal w ≡ false → signed w ≡ as_other
signed_other (as_name name) h = refl
signed_other (as_number n) h = cc
signed_other as_literal h = cc
signed_other as_signed h = refl
signed_other as_other h = refl

-- ---- what is neither a name nor a literal, with or without a sign

abbrev Level : Type 0
Level = Ast-F Ast FromItem Target Select

abbrev meant_level : Catalog → Level → Ast-F AstMeant ItemMeant Targets (Part Selection)
meant_level c x = map-Ast Ast FromItem Target Select AstMeant ItemMeant Targets (Part Selection) (meant_by c) (item_by c) (target_by c) (select_by c) x

no_bare : (c : Catalog) (x : Level) → ((n : ℤ) (at : ℕ) → x ≡ Ast-F.Number n at → ⊥) → ((bytes : List ℕ) (at : ℕ) → x ≡ Ast-F.Text bytes at → ⊥)
    → ((b : Bool) (at : ℕ) → x ≡ Ast-F.Bool b at → ⊥) → ((at : ℕ) → x ≡ Ast-F.Null at → ⊥) → is_bare_literal (written_as (meant_level c x)) ≡ false
no_bare c (Ast-F.Number n at) p q r s = absurd (p n at refl)
no_bare c (Ast-F.Text bytes at) p q r s = absurd (q bytes at refl)
no_bare c (Ast-F.Bool b at) p q r s = absurd (r b at refl)
no_bare c (Ast-F.Null at) p q r s = absurd (s at refl)
no_bare c (Ast-F.Name name at) p q r s = refl
no_bare c (Ast-F.Sign minus operand at) p q r s = signed_bare (meant_by c operand).written
  where
    signed_bare : (w : Written) → is_bare_literal (signed w) ≡ false
    signed_bare (as_name name) = refl
    signed_bare (as_number n) = refl
    signed_bare as_literal = refl
    signed_bare as_signed = refl
    signed_bare as_other = refl
no_bare c _ p q r s = refl

no_word : (c : Catalog) (x : Level) → ((n : ℤ) (at : ℕ) → x ≡ Ast-F.Number n at → ⊥) → ((bytes : List ℕ) (at : ℕ) → x ≡ Ast-F.Text bytes at → ⊥)
    → ((b : Bool) (at : ℕ) → x ≡ Ast-F.Bool b at → ⊥) → ((at : ℕ) → x ≡ Ast-F.Null at → ⊥) → ((name : List ℕ) (at : ℕ) → x ≡ Ast-F.Name name at → ⊥)
    → ((minus : Bool) (operand : Ast) (at : ℕ) → x ≡ Ast-F.Sign minus operand at → ⊥) → written_as (meant_level c x) ≡ as_other
no_word c (Ast-F.Number n at) p q r s t u = absurd (p n at refl)
no_word c (Ast-F.Text bytes at) p q r s t u = absurd (q bytes at refl)
no_word c (Ast-F.Bool b at) p q r s t u = absurd (r b at refl)
no_word c (Ast-F.Null at) p q r s t u = absurd (s at refl)
no_word c (Ast-F.Name name at) p q r s t u = absurd (t name at refl)
no_word c (Ast-F.Sign minus operand at) p q r s t u = absurd (u minus operand at refl)
no_word c _ p q r s t u = refl

written_is : (c : Catalog) (a : Ast) → written_of_expr c a ≡ written_as (meant_level c (out-Ast a))
unfolding written_of_expr
written_is c a =
    ap (λ z. (meant_by c z).written) (sym (roll-out-Ast a))
    ∙ ap (λ (m : AstMeant). m.written) (fold-roll-Ast AstMeant ItemMeant Targets (Part Selection) ast_meant (item_meant c) target_meant select_meant (out-Ast a))

pub no_literal : (c : Catalog) (a : Ast) → ((n : ℤ) (at : ℕ) → a ≡ ast.Number n at → ⊥) → ((bytes : List ℕ) (at : ℕ) → a ≡ ast.Text bytes at → ⊥)
    → ((b : Bool) (at : ℕ) → a ≡ ast.Bool b at → ⊥) → ((at : ℕ) → a ≡ ast.Null at → ⊥) → is_bare_literal (written_of_expr c a) ≡ false
no_literal c a p q r s =
    let back = sym (roll-out-Ast a) in
    ap is_bare_literal (written_is c a)
    ∙ no_bare c (out-Ast a) (λ n at e. p n at (back ∙ ap roll-Ast e ∙ ast.rolls-Number n at)) (λ bytes at e. q bytes at (back ∙ ap roll-Ast e ∙ ast.rolls-Text bytes at))
    (λ b at e. r b at (back ∙ ap roll-Ast e ∙ ast.rolls-Bool b at)) (λ at e. s at (back ∙ ap roll-Ast e ∙ ast.rolls-Null at))

pub other_written : (c : Catalog) (a : Ast) → ((n : ℤ) (at : ℕ) → a ≡ ast.Number n at → ⊥) → ((bytes : List ℕ) (at : ℕ) → a ≡ ast.Text bytes at → ⊥)
    → ((b : Bool) (at : ℕ) → a ≡ ast.Bool b at → ⊥) → ((at : ℕ) → a ≡ ast.Null at → ⊥) → ((name : List ℕ) (at : ℕ) → a ≡ ast.Name name at → ⊥)
    → ((minus : Bool) (operand : Ast) (at : ℕ) → a ≡ ast.Sign minus operand at → ⊥) → written_of_expr c a ≡ as_other
other_written c a p q r s t u =
    let back = sym (roll-out-Ast a) in
    written_is c a
    ∙ no_word c (out-Ast a) (λ n at e. p n at (back ∙ ap roll-Ast e ∙ ast.rolls-Number n at)) (λ bytes at e. q bytes at (back ∙ ap roll-Ast e ∙ ast.rolls-Text bytes at))
    (λ b at e. r b at (back ∙ ap roll-Ast e ∙ ast.rolls-Bool b at)) (λ at e. s at (back ∙ ap roll-Ast e ∙ ast.rolls-Null at))
    (λ name at e. t name at (back ∙ ap roll-Ast e ∙ ast.rolls-Name name at)) (λ minus operand at e. u minus operand at (back ∙ ap roll-Ast e ∙ ast.rolls-Sign minus operand at))

pub ruleset ordering = (
  written-Name,
  written-Number,
  written-Text,
  written-Bool,
  written-Null,
  written-Sign,
  place-Name,
  place-Number,
  place-Text,
  place-Bool,
  place-Null,
  place-Sign,
  signed_literal,
  signed_other,
  no_literal,
  other_written,
  place_is,
  found_more,
  nothing_found,
  both_assoc,
  both_none,
  none_both,
)

-- ---- the list

pub orders_are : (c : Catalog) (distinct : Bool) (outputs : List Output) (orders : List OrderAst) (levels : Levels) (before : Counts)
    → all_over (map (order_by c distinct outputs) orders) levels before ≡ orders_in c distinct outputs orders levels before
unfolding expr_in counts_of_expr place_of_expr written_of_expr
orders_are c distinct outputs [] levels before = refl
orders_are c distinct outputs (order ∷ orders) levels before = ap (λ r. order_in c distinct outputs order levels before >>= (λ x. r >>= (λ xs. Ok (x ∷ xs)))) (orders_are c distinct outputs orders levels (both before (counts_of_expr c order.expr)))

pub orders_counted : (c : Catalog) (orders : List OrderAst) → counts_in_orders c orders ≡ counts_of_orders c orders
unfolding counts_of_expr
orders_counted c [] = refl
orders_counted c (order ∷ orders) = ap (both (counts_of_expr c order.expr)) (orders_counted c orders)
