use Rattle.std.proofs.Common.{◌≡◌, ◌++◌, drop, map, true}
use Rattle.std.specs.Prelude.{string_bytes}
use Rattle.std.specs.List.{flat_map}
use Rattle.jp_explain.specs.Expressions.{expr_text, operand_term, operand_text, printed_arm, terms_text}
use Rattle.jp_explain.specs.Lists.{separated_from}
use Rattle.jp_explain.proofs.expressions.+texts.Given as goal

abbrev pub invariant-push_list-exprs : goal.invariant-push_list-exprs
invariant-push_list-exprs l = string_bytes l.text ++ separated_from l.first l.between (map (expr_text l.names) (drop l.expr-index l.exprs)) ≡ string_bytes l.initial.text ++ separated_from true l.between (map (expr_text l.names) l.exprs)

abbrev pub invariant-push_operands-exprs : goal.invariant-push_operands-exprs
invariant-push_operands-exprs l = string_bytes l.text ++ separated_from l.first l.between (map (operand_text l.names) (drop l.expr-index l.exprs)) ≡ string_bytes l.initial.text ++ separated_from true l.between (map (operand_text l.names) l.exprs)

abbrev pub invariant-push_terms-terms : goal.invariant-push_terms-terms
invariant-push_terms-terms l = string_bytes l.text ++ terms_text l.first (map (operand_term l.names) (drop l.subtracted-index l.terms)) ≡ string_bytes l.initial.text ++ terms_text true (map (operand_term l.names) l.terms)

abbrev pub invariant-push_arms-arms : goal.invariant-push_arms-arms
invariant-push_arms-arms l = string_bytes l.text ++ flat_map (printed_arm l.names) (drop l.condition-index l.arms) ≡ string_bytes l.initial.text ++ flat_map (printed_arm l.names) l.arms
