use Rattle.std.proofs.Common.{◌≡◌, map, take, drop}
use Rattle.std.specs.Prelude.{string_bytes}
use Rattle.std.specs.Option.{option_map}
use Rattle.jp_base.specs.Cells.{value_of_cell}
use Rattle.jp_base.specs.declared.values.Value.{Value}
use Rattle.jp_query.specs.Operators.{all_of, any_of, concat_of, first_value, first_arm}
use Rattle.jp_eval.specs.Arithmetic.{terms_sum, product_in_128}
use Rattle.jp_eval.specs.Computed.{value_in, truth_in, equality_in, term_in, arm_in}
use Rattle.jp_eval.specs.Evaluated.{value_of_evaluated, value_of_text}
use Rattle.jp_eval.proofs.evaluation.+evaluation.Given as goal

abbrev pub invariant-chosen_arm-loop-when : goal.invariant-chosen_arm-loop-when
invariant-chosen_arm-loop-when g l = (otherwise : Value) → first_arm (option_map value_of_evaluated l.operand) (map (arm_in (g.E.Env.sublink_rows l.env) (g.E.Env.environment l.env)) (drop l.when-index l.arms)) otherwise
    ≡ first_arm (option_map value_of_evaluated l.operand) (map (arm_in (g.E.Env.sublink_rows l.env) (g.E.Env.environment l.env)) l.arms) otherwise

abbrev pub invariant-concatenation-loop-piece : goal.invariant-concatenation-loop-piece
invariant-concatenation-loop-piece g l = value_of_text (option_map string_bytes l.text) ≡ concat_of (map (value_in (g.E.Env.sublink_rows l.env) (g.E.Env.environment l.env)) (take l.piece-index l.pieces))

abbrev pub invariant-conjunction-loop-member : goal.invariant-conjunction-loop-member
invariant-conjunction-loop-member g l = l.all ≡ all_of (map (truth_in (g.E.Env.sublink_rows l.env) (g.E.Env.environment l.env)) (take l.member-index l.members))

abbrev pub invariant-disjunction-loop-member : goal.invariant-disjunction-loop-member
invariant-disjunction-loop-member g l = l.any ≡ any_of (map (truth_in (g.E.Env.sublink_rows l.env) (g.E.Env.environment l.env)) (take l.member-index l.members))

abbrev pub invariant-first_present-loop-member : goal.invariant-first_present-loop-member
invariant-first_present-loop-member g l = first_value (map (value_in (g.E.Env.sublink_rows l.env) (g.E.Env.environment l.env)) (drop l.member-index l.members))
    ≡ first_value (map (value_in (g.E.Env.sublink_rows l.env) (g.E.Env.environment l.env)) l.members)

abbrev pub invariant-is_among-loop-member : goal.invariant-is_among-loop-member
invariant-is_among-loop-member g l = l.any ≡ any_of (map (equality_in (g.E.Env.sublink_rows l.env) (g.E.Env.environment l.env) (value_of_cell l.operand)) (take l.member-index l.list))

abbrev pub invariant-product-loop-factor : goal.invariant-product-loop-factor
invariant-product-loop-factor g l = l.all ≡ product_in_128 (map (value_in (g.E.Env.sublink_rows l.env) (g.E.Env.environment l.env)) (take l.factor-index l.factors))

abbrev pub invariant-sum-loop-subtracted : goal.invariant-sum-loop-subtracted
invariant-sum-loop-subtracted g l = value_of_cell l.total ≡ terms_sum (map (term_in (g.E.Env.sublink_rows l.env) (g.E.Env.environment l.env)) (take l.subtracted-index l.terms))
